-- The induction over a schedule.
use Rattle.gm_bench.proofs.Common.{◌≡◌, ◌∙◌, ◌⊎◌, inl, inr, ℕ, Bool, suc, ◌+◌, List, [], ◌∷◌, length, refl, sym, ap, subst, arith, Ghosts, Trees, Held, Image, Sizes, Intent, World, present, Step, Steps, Call, stored, no_tables, Accepted, Answer, Work, AcceptAnswers, IsLeft, LeavesRun, LookDoes, LookLeaves, RunAnswers, whole, Leads, KeepsClaims, AllLead, Recovers, IsCarriedOut, IsShelfOf, LeavesOnly, Progress, Stands, AreHandedIn, phase_carried, phase_of, Waiting, LeavesSteps, OrSteps, WaitsFor, count_in, Phase, Event, Accept_returned, Accept_stopped, Apply_returned, Apply_stopped, Settle_returned, Settle_stopped, Hand_in_returned, Hand_in_stopped, Settle_waiting_returned, Settle_waiting_stopped, Run_returned, Run_stopped, Look_returned, Look_stopped, Open_returned, Open_stopped, Now, none, skips, keeps, Moved, Without_returned, Without_stopped, Without_carrying, Entry, Handed_in, Without, IsButMoved, IsStepWithout, Reached, ArePending, LeavesCommit, IsMove, IsLeftIn, IsStop, IsRunStop, IsDoneOver, IsOpenOver, IsSoFar, after_answer, after_hand_in, after_run, with_media, Happens, IsStart, Runs, AtRest, OnTheWay, Stopped, Headline, Within}
use Rattle.gm_shelf.specs.declared.shelf.Shelf.{Ghosts as ShelfGhosts}
use Rattle.gm_bench.specs.declared.answer.Accepted.TheVariants.{Done, Repeated, Refused}
use Rattle.gm_bench.specs.declared.answer.Answer.TheVariants as run
use Rattle.gm_bench.specs.declared.phase.Progress.TheVariants as far
use Rattle.gm_bench.specs.declared.phase.Waiting.TheVariants as waiting
use Rattle.gm_bench.proofs.Looks.{looked_at}
use Rattle.gm_rules.proofs.SeriesTurns.{steps_answered, steps_of_run}
use Rattle.gm_bench.proofs.AnswersCounted.{answered_many, counts, fewer, steps_present}
use Rattle.gm_bench.proofs.CarriedOut.{at_of, carried_out, done_at_rest}
use Rattle.gm_bench.proofs.MovedWorlds.{all_steps, with_there, stays, moved_from, one_step, moved_reached, moved_last, last_pending, moved_leads, moved_keeps, reached_sizes, there_of, moved_present}
use Rattle.gm_bench.proofs.NewWorlds.{new_records, new_sound}
use Rattle.gm_bench.proofs.WorldAtRest.{rest_leads, rest_claims}

module _ {S H : Type 0} (g : Ghosts S) (j : ShelfGhosts H) (all : Sizes) where
  abbrev At : Now (Held S) H → Type 0
  At n = Headline g j all n.phase n.away n.accepted n.acknowledged

  abbrev AtPhase : Now (Held S) H → Phase (Held S) H → Type 0
  AtPhase m p = Headline g j all p m.away m.accepted m.acknowledged

  -- the store and the images of a stop lead on, if each such pair does
  led : (r s : Held S) (h k : H) (db : Trees) (l : H) (away : Image) (u w : World)
      → LeavesOnly g j r s h k away u w → IsStop g j r s h k db l
      → Recovers db (j.size l) away (j.view l).may_leave u w
  led r s h k db l away u w only stop =
      subst (λ (z : Sizes). Recovers db z away (j.view l).may_leave u w) (sym stop.0)
      (elim stop.2 [
        | inl within ↦ fewer db (j.size h) away ((j.view k).left_since (j.view h).moment)
            (j.view l).may_leave u w (only.within db within.0) within.1
        | inr end ↦ fewer db (j.size h) away (j.view k).may_leave (j.view l).may_leave u w
            (only.end db end.0) end.1
      ])

  -- what a stop within a call leaves, if each pair leads to w
  pub stopped : (r s : Held S) (h k : H) (db : Trees) (l : H) (away : Image) (u w : World)
      (acc ack : List Entry) → Reached all acc w → IsButMoved u w ⊎ ArePending all acc u w
      → present w ≡ j.size h → Within ack acc → LeavesOnly g j r s h k away u w
      → IsStop g j r s h k db l
      → Stopped g j all db l away acc ack
  stopped r s h k db l away u w acc ack reached last is told only stop = record {
    world = w;
    before = u;
    reached = reached;
    last = last;
    sizes = is ∙ sym stop.0;
    recovers = led r s h k db l away u w only stop;
    told = told;
  }

  -- ---- a command that is handed in

  -- the world after the accepted calls is reached, and all that is pending is done
  pub record IsReached (waiting : Waiting) (r : Held S) (h : H) (away : Image)
      (acc ack : List Entry) : Type 0 where
    pub intents : List Intent
    pub bytes : List (List ℕ)
    pub before : World
    pub world : World
    pub reached : Reached all acc world
    pub last : IsButMoved before world ⊎ ArePending all acc before world
    pub at : IsCarriedOut g j r h away intents bytes before world
    pub waits : WaitsFor waiting intents bytes
    pub told : Within ack acc

  abbrev pub at_rest : (r : Held S) (h : H) (away : Image) (acc ack : List Entry)
      → AtRest g j all r h away acc ack → IsReached waiting.Nothing r h away acc ack
  at_rest r h away acc ack o = record {
    intents = [];
    bytes = [];
    before = o.world;
    world = o.world;
    reached = o.reached;
    last = inl (stays o.world);
    at = done_at_rest g j r h away o.world o.at;
    waits = (refl, refl);
    told = o.told;
  }

  -- so it is, whatever is still to be settled
  abbrev pub reached_done : (r : Held S) (h : H) (away : Image) (acc ack : List Entry)
      (intents : List Intent) (bytes : List (List ℕ)) (before world : World)
      → Reached all acc world → IsButMoved before world ⊎ ArePending all acc before world
      → IsCarriedOut g j r h away intents bytes before world → Within ack acc
      → IsReached waiting.Done r h away acc ack
  reached_done r h away acc ack intents bytes before world reached last at told = record {
    intents = intents;
    bytes = bytes;
    before = before;
    world = world;
    reached = reached;
    last = last;
    at = at;
    waits = tt;
    told = told;
  }

  abbrev reached_by : (m : Now (Held S) H) (r : Held S) (h : H) (waiting : Waiting)
      → IsDoneOver m.phase r h waiting → At m
      → IsReached waiting r h m.away m.accepted m.acknowledged
  reached_by m r h waiting.Nothing is was =
      at_rest r h m.away m.accepted m.acknowledged (subst (AtPhase m) is was)
  reached_by m r h waiting.Done (work, is) was =
      let it : (o : OnTheWay g j all r h m.away work m.accepted m.acknowledged)
      × IsShelfOf (j.view h) o.world (j.size h) = subst (AtPhase m) is was in
      let o = it.0 in
      reached_done r h m.away m.accepted m.acknowledged work.intents.items work.bytes.items o.before
      o.world o.reached (inr (last_pending all m.accepted o.before o.world o.last))
      (carried_out g j r h m.away work.intents.items work.bytes.items o.before o.world
      o.at.at it.1) o.told

  -- nothing was done: the bench is as far as before
  undone : (m : Now (Held S) H) (r s : Held S) (h k : H) (waiting : Waiting)
      (over : IsDoneOver m.phase r h waiting) (was : At m)
      → (let it = reached_by m r h waiting over was in
      IsCarriedOut g j s k m.away it.intents it.bytes it.before it.world)
      → AtPhase m (with_media m.phase s k)
  undone m r s h k waiting.Nothing is was after =
      let o : AtRest g j all r h m.away m.accepted m.acknowledged =
      subst (AtPhase m) is was in
      let rest : AtRest g j all s k m.away m.accepted m.acknowledged = record {
        world = o.world;
        reached = o.reached;
        at = at_of g j s k m.away [] [] o.world o.world after;
        told = o.told;
      } in
      subst (λ (p : Phase (Held S) H). AtPhase m (with_media p s k)) (sym is) rest
  undone m r s h k waiting.Done (work, is) was after =
      let it : (o : OnTheWay g j all r h m.away work m.accepted m.acknowledged)
      × IsShelfOf (j.view h) o.world (j.size h) = subst (AtPhase m) is was in
      let o = it.0 in
      let way : OnTheWay g j all s k m.away work m.accepted m.acknowledged = record {
        world = o.world;
        before = o.before;
        reached = o.reached;
        last = o.last;
        at = record {
          at = at_of g j s k m.away work.intents.items work.bytes.items o.before o.world after;
          cover = o.at.cover;
        };
        told = o.told;
      } in
      subst (λ (p : Phase (Held S) H). AtPhase m (with_media p s k)) (sym is) (way, after.shelf)

  answered : (calls : List Call) (a : Accepted) (r s : Held S) (h k : H) (waiting : Waiting)
      (m n : Now (Held S) H) → IsDoneOver m.phase r h waiting → At m
      → n ≡ after_answer m calls a s k
      → AcceptAnswers g j waiting r s h k calls a → At n
  answered calls (Done i count reply work) r s h k waiting m n over was is clause =
      let o = reached_by m r h waiting over was in
      let it = (clause m.away o.intents o.bytes o.before o.world o.at o.waits).1 in
      let steps = all_steps o.world it.world calls
      (steps_of_run o.world it.world calls it.answers i reply it.run it.done) in
      subst At (sym is) (record {
        world = it.world;
        before = o.world;
        reached = (o.world, o.reached, steps);
        last = (o.reached, steps);
        at = it.at;
        told = keeps o.told;
      })
  answered calls (Repeated i reply) r s h k waiting m n over was is clause =
      let o = reached_by m r h waiting over was in
      subst At (sym is) (undone m r s h k waiting over was
      (clause m.away o.intents o.bytes o.before o.world o.at o.waits).1)
  answered calls (Refused why) r s h k waiting m n over was is clause =
      let o = reached_by m r h waiting over was in
      subst At (sym is) (undone m r s h k waiting over was
      (clause m.away o.intents o.bytes o.before o.world o.at o.waits).1)

  -- a commit that was stopped stands, or not
  left_in : (calls : List Call) (waiting : Waiting) (r : Held S) (h : H) (db : Trees) (l : H)
      (away : Image) (acc ack after : List Entry) (was : IsReached waiting r h away acc ack)
      → IsLeftIn db (Handed_in calls) acc after → j.size l ≡ j.size h
      → (j.view l).may_leave (j.view l).seen → OrSteps was.before was.world calls
      (λ x w. Recovers db (j.size h) away (j.view l).may_leave x w)
      → Stopped g j all db l away after ack
  left_in calls waiting r h db l away acc ack after was (some, left) same there either =
      let u : World = was.world in
      let many : length u.answered ≡ count_in acc = answered_many all acc u was.reached in
      let resized : (x w : World) → Recovers db (j.size h) away (j.view l).may_leave x w
      → Recovers db (j.size l) away (j.view l).may_leave x w =
      λ x w. subst (λ (z : Sizes). Recovers db z away (j.view l).may_leave x w) (sym same) in
      elim left [
        | inl before ↦
            subst (λ (list : List Entry). Stopped g j all db l away list ack) (sym before.0)
            (elim either [
              | inl r ↦ record {
                world = u;
                before = was.before;
                reached = was.reached;
                last = was.last;
                sizes = was.at.sizes ∙ sym same;
                recovers = resized was.before u r;
                told = was.told;
              }
              | inr r ↦
                  let n = counts db (j.size h) away (j.view l).may_leave (j.view l).seen u r.0
                  (count_in acc) there r.2 before.1 in
                  let m = steps_answered u r.0 calls r.1 in
                  absurd (omega (arith, some, n, m, many))
            ])
        | inr stands ↦
            subst (λ (list : List Entry). Stopped g j all db l away list ack) (sym stands.0)
            (elim either [
              | inl r ↦ (let n = counts db (j.size h) away (j.view l).may_leave (j.view l).seen
                  was.before u (count_in (Handed_in calls ∷ acc)) there r stands.1 in
                  absurd (omega (arith, some, n, many)))
              | inr r ↦ record {
                world = r.0;
                before = u;
                reached = (u, was.reached, all_steps u r.0 calls r.1);
                last = inr (was.reached, all_steps u r.0 calls r.1);
                sizes = steps_present u r.0 calls r.1 ∙ (was.at.sizes ∙ sym same);
                recovers = resized u r.0 r.2;
                told = skips was.told;
              }
            ])
      ]

  pub accept_stopped : (calls : List Call) (waiting : Waiting) (r s : Held S) (h k : H)
      (db : Trees) (l : H)
      (away : Image) (acc ack after : List Entry) (was : IsReached waiting r h away acc ack)
      → IsLeftIn db (Handed_in calls) acc after
      → LeavesSteps g j r s h k away was.before was.world calls
      → IsStop g j r s h k db l → Stopped g j all db l away after ack
  accept_stopped calls waiting r s h k db l away acc ack after was left clause stop =
      let v : World = was.before in
      let u : World = was.world in
      left_in calls waiting r h db l away acc ack after was left stop.0 stop.1 (elim stop.2 [
        | inl within
            ↦ inl (fewer db (j.size h) away ((j.view k).left_since (j.view h).moment)
            (j.view l).may_leave v u (clause.within db within.0) within.1)
        | inr end ↦ elim (clause.end db end.0) [
          | inl r ↦ inl
              (fewer db (j.size h) away (j.view k).may_leave (j.view l).may_leave v u r end.1)
          | inr r ↦ inr (
            r.0,
            r.1,
            fewer db (j.size h) away (j.view k).may_leave (j.view l).may_leave u r.0 r.2 end.1,
          )
        ]
      ])

  -- the settling of the last commit was stopped, after the first of the next calls was found
  -- repeated or refused: the commit of these doesn't stand
  pub settling_stopped : (calls : List Call) (waiting : Waiting) (r mid s : Held S) (h k end : H)
      (db : Trees) (l : H) (away : Image) (acc ack after : List Entry)
      (was : IsReached waiting r h away acc ack) → IsLeftIn db (Handed_in calls) acc after
      → j.size k ≡ j.size h → LeavesOnly g j mid s k end away was.before was.world
      → IsStop g j mid s k end db l → Stopped g j all db l away after ack
  settling_stopped calls waiting r mid s h k end db l away acc ack after was left sizes only stop =
      let same : j.size l ≡ j.size h = stop.0 ∙ sizes in
      let led_on = subst
      (λ (z : Sizes). Recovers db z away (j.view l).may_leave was.before was.world)
      same (led mid s k end db l away was.before was.world only stop) in
      left_in calls waiting r h db l away acc ack after was left same stop.1 (inl led_on)

  -- calls were stopped within their accepting, or after that
  pub run_stopped : (calls : List Call) (waiting : Waiting) (r s : Held S) (h k : H) (db : Trees)
      (l : H) (away : Image) (acc ack after : List Entry)
      (was : IsReached waiting r h away acc ack)
      → IsLeftIn db (Handed_in calls) acc after
      → (it : LeavesRun g j r s h k away was.before was.world calls)
      → IsRunStop g j r s h k away was.before was.world calls it db l
      → Stopped g j all db l away after ack
  run_stopped calls waiting r s h k db l away acc ack after was left it (inl stop) =
      accept_stopped calls waiting r it.registry h it.shelf db l away acc ack after was left
      it.accepting stop
  run_stopped calls waiting r s h k db l away acc ack after was left it
      (inr (w, steps, leaves, stop)) =
      let same : j.size l ≡ j.size h = stop.0 ∙ it.sizes in
      let led_on = subst (λ (z : Sizes). Recovers db z away (j.view l).may_leave was.world w) same
      (led it.registry s it.shelf k db l away was.world w leaves stop) in
      left_in calls waiting r h db l away acc ack after was left same stop.1
      (inr (w, steps, led_on))

  run_answered : (call : Call) (a : Answer) (r s : Held S) (h k : H) (m n : Now (Held S) H)
      → AtRest g j all r h m.away m.accepted m.acknowledged → n ≡ after_run m call a s k
      → RunAnswers g j r s h k call.key call.command a → At n
  run_answered call (run.Done i reply) r s h k m n was is clause =
      let it = clause m.away was.world was.at in
      let step : Step was.world call.key call.command it.world reply = it.calls.3 in
      subst At (sym is) (record {
        world = it.world;
        reached = (was.world, was.reached, one_step was.world it.world call reply step);
        at = it.at;
        told = keeps was.told;
      })
  run_answered call (run.Repeated i reply) r s h k m n was is clause =
      let it = clause m.away was.world was.at in
      subst At (sym is) (record {
        world = it.world;
        reached = subst (Reached all m.accepted) (sym it.calls.0) was.reached;
        at = it.at;
        told =
            was.told;
      })
  run_answered call (run.Refused why) r s h k m n was is clause =
      let it = clause m.away was.world was.at in
      subst At (sym is) (record {
        world = it.world;
        reached = subst (Reached all m.accepted) (sym it.calls.0) was.reached;
        at = it.at;
        told =
            was.told;
      })

  -- ---- a command that is handed in, and then the settling of the last one

  -- a bench that is so far stands for the world after the accepted calls
  pub record HasStood (before : Progress) (r : Held S) (h : H) (away : Image)
      (acc ack : List Entry) : Type 0 where
    pub waiting : Waiting
    pub was : IsReached waiting r h away acc ack
    pub stands : Stands g j before r h away was.before was.world

  abbrev stood : (m : Now (Held S) H) (before : Progress) (r : Held S) (h : H)
      → IsSoFar m.phase before r h → At m → HasStood before r h m.away m.accepted m.acknowledged
  stood m far.Ready r h is was =
      let o : AtRest g j all r h m.away m.accepted m.acknowledged = subst (AtPhase m) is was in
      record {
        waiting = waiting.Nothing;
        was = at_rest r h m.away m.accepted m.acknowledged o;
        stands = (refl, o.at);
      }
  stood m (far.Applied work) r h is was =
      let it : (o : OnTheWay g j all r h m.away work m.accepted m.acknowledged)
      × IsShelfOf (j.view h) o.world (j.size h) = subst (AtPhase m) is was in
      record {
        waiting = waiting.Done;
        was = reached_by m r h waiting.Done (work, is) was;
        stands = (it.0.at, it.1);
      }
  stood m (far.Pending work) r h is was = absurd is
  stood m far.Failed r h is was = absurd is

  -- it stands for the same world, if nothing was done
  stands_still : (m : Now (Held S) H) (before p : Progress) (r s : Held S) (h k : H)
      (q : Phase (Held S) H) (is : IsSoFar m.phase before r h) (was : At m) → IsSoFar q p s k
      → phase_of p ≡ phase_of before
      → (let it = stood m before r h is was in
      Stands g j p s k m.away it.was.before it.was.world) → AtPhase m q
  stands_still m far.Ready far.Ready r s h k q is was so same stands =
      let o : AtRest g j all r h m.away m.accepted m.acknowledged = subst (AtPhase m) is was in
      subst (AtPhase m) (sym so)
      (record { world = o.world; reached = o.reached; at = stands.1; told = o.told })
  stands_still m (far.Applied work) (far.Applied left) r s h k q is was so same stands =
      let it : (o : OnTheWay g j all r h m.away work m.accepted m.acknowledged)
      × IsShelfOf (j.view h) o.world (j.size h) = subst (AtPhase m) is was in
      let o = it.0 in
      subst (AtPhase m) (sym so) (
        record {
          world = o.world;
          before = o.before;
          reached = o.reached;
          last = o.last;
          at = stands.0;
          told = o.told;
        },
        stands.1,
      )
  stands_still m far.Ready (far.Applied left) r s h k q is was so same stands =
      absurd (let no : ⊥ = cc in no)
  stands_still m (far.Applied work) far.Ready r s h k q is was so same stands =
      absurd (let no : ⊥ = cc in no)
  stands_still m (far.Pending work) p r s h k q is was so same stands = absurd is
  stands_still m far.Failed p r s h k q is was so same stands = absurd is
  stands_still m before (far.Pending work) r s h k q is was so same stands = absurd so
  stands_still m before far.Failed r s h k q is was so same stands = absurd so

  -- it stands for the world of the steps, if they were done
  stands_next : (m : Now (Held S) H) (calls : List Call) (u w : World) (p : Progress)
      (s : Held S) (k : H) (q : Phase (Held S) H) → Reached all m.accepted u
      → Steps u calls w → Within m.acknowledged m.accepted
      → IsSoFar q p s k → Stands g j p s k m.away u w
      → Headline g j all q m.away (Handed_in calls ∷ m.accepted) (Handed_in calls ∷ m.acknowledged)
  stands_next m calls u w far.Ready s k q reached steps told so stands =
      subst (λ (x : Phase (Held S) H). Headline g j all x m.away (Handed_in calls ∷ m.accepted)
      (Handed_in calls ∷ m.acknowledged)) (sym so) (record {
        world = w;
        reached = (u, reached, all_steps u w calls steps);
        at = stands.1;
        told = keeps told;
      })
  stands_next m calls u w (far.Applied work) s k q reached steps told so stands =
      subst (λ (x : Phase (Held S) H). Headline g j all x m.away (Handed_in calls ∷ m.accepted)
      (Handed_in calls ∷ m.acknowledged)) (sym so) (
        record {
          world = w;
          before = u;
          reached = (u, reached, all_steps u w calls steps);
          last = (reached, all_steps u w calls steps);
          at = stands.0;
          told = keeps told;
        },
        stands.1,
      )
  stands_next m calls u w (far.Pending work) s k q reached steps told so stands = absurd so
  stands_next m calls u w far.Failed s k q reached steps told so stands = absurd so

  handed_in : (m n : Now (Held S) H) (calls : List Call) (a : Answer) (before p : Progress)
      (r s : Held S) (h k : H) (q : Phase (Held S) H) → IsSoFar m.phase before r h → At m
      → IsSoFar q p s k → n ≡ after_hand_in m calls a q
      → phase_of p ≡ phase_carried (phase_of before) a
      → ((away : Image) (v u : World) → Stands g j before r h away v u
      → AreHandedIn g j p r s h k away v u calls a) → At n
  handed_in m n calls (run.Done i reply) before p r s h k q is was so now phase clause =
      let it = stood m before r h is was in
      let done = clause m.away it.was.before it.was.world it.stands in
      subst At (sym now) (stands_next m calls it.was.world done.0 p s k q it.was.reached
      (steps_of_run it.was.world done.0 calls done.1 i reply done.2 done.3) it.was.told so done.5)
  handed_in m n calls (run.Repeated i reply) before p r s h k q is was so now phase clause =
      let it = stood m before r h is was in
      subst At (sym now) (stands_still m before p r s h k q is was so phase
      (clause m.away it.was.before it.was.world it.stands).2)
  handed_in m n calls (run.Refused why) before p r s h k q is was so now phase clause =
      let it = stood m before r h is was in
      subst At (sym now) (stands_still m before p r s h k q is was so phase
      (clause m.away it.was.before it.was.world it.stands).2)

  -- ---- a look

  abbrev looked_on : (r s : Held S) (h k : H) (away : Image) (work : Work) (acc ack : List Entry)
      → LookDoes g j r s h k → OnTheWay g j all r h away work acc ack
      → OnTheWay g j all s k away work acc ack
  looked_on r s h k away work acc ack does o = record {
    world = o.world;
    before = o.before;
    reached = o.reached;
    last = o.last;
    at = record {
      at = looked_at g j r s h k away work.intents.items work.bytes.items o.before o.world
          does o.at.at;
      cover = o.at.cover;
    };
    told = o.told;
  }

  looked : (r s : Held S) (h k : H) (m : Now (Held S) H) → IsOpenOver m.phase r h
      → LookDoes g j r s h k → At m → AtPhase m (with_media m.phase s k)
  looked r s h k m (inl phase) does was =
      let o : AtRest g j all r h m.away m.accepted m.acknowledged =
      subst (AtPhase m) phase was in
      let after : AtRest g j all s k m.away m.accepted m.acknowledged =
      record {
        world = o.world;
        reached = o.reached;
        at = looked_at g j r s h k m.away [] [] o.world o.world does o.at;
        told = o.told;
      } in
      subst (λ (p : Phase (Held S) H). AtPhase m (with_media p s k)) (sym phase) after
  looked r s h k m (inr (work, inl phase)) does was =
      let o : OnTheWay g j all r h m.away work m.accepted m.acknowledged =
      subst (AtPhase m) phase was in
      subst (λ (p : Phase (Held S) H). AtPhase m (with_media p s k)) (sym phase)
      (looked_on r s h k m.away work m.accepted m.acknowledged does o)
  looked r s h k m (inr (work, inr phase)) does was =
      let o : (o : OnTheWay g j all r h m.away work m.accepted m.acknowledged)
      × IsShelfOf (j.view h) o.world (j.size h) = subst (AtPhase m) phase was in
      let shelf : IsShelfOf (j.view k) o.0.world (j.size k) =
      subst (λ (z : Sizes). IsShelfOf (j.view k) o.0.world z) (sym does.sizes)
      (λ x l. o.1 x (does.images x l)) in
      subst (λ (p : Phase (Held S) H). AtPhase m (with_media p s k)) (sym phase)
      (looked_on r s h k m.away work m.accepted m.acknowledged does o.0, shelf)

  look_stopped : (r s : Held S) (h k : H) (db : Trees) (l : H) (m : Now (Held S) H)
      → IsOpenOver m.phase r h → LookLeaves g j r s h k → IsStop g j r s h k db l
      → At m → Stopped g j all db l m.away m.accepted m.acknowledged
  look_stopped r s h k db l m (inl phase) leaves stop was =
      let o : AtRest g j all r h m.away m.accepted m.acknowledged =
      subst (AtPhase m) phase was in
      stopped r s h k db l m.away o.world o.world m.accepted m.acknowledged o.reached
      (inl (stays o.world)) o.at.sizes o.told (leaves m.away [] [] o.world o.world o.at) stop
  look_stopped r s h k db l m (inr (work, inl phase)) leaves stop was =
      let o : OnTheWay g j all r h m.away work m.accepted m.acknowledged =
      subst (AtPhase m) phase was in
      stopped r s h k db l m.away o.before o.world m.accepted m.acknowledged o.reached
      (inr (last_pending all m.accepted o.before o.world o.last)) o.at.at.sizes o.told
      (leaves m.away work.intents.items work.bytes.items o.before o.world o.at.at) stop
  look_stopped r s h k db l m (inr (work, inr phase)) leaves stop was =
      let it : (o : OnTheWay g j all r h m.away work m.accepted m.acknowledged)
      × IsShelfOf (j.view h) o.world (j.size h) = subst (AtPhase m) phase was in
      let o = it.0 in
      stopped r s h k db l m.away o.before o.world m.accepted m.acknowledged o.reached
      (inr (last_pending all m.accepted o.before o.world o.last)) o.at.at.sizes o.told
      (leaves m.away work.intents.items work.bytes.items o.before o.world o.at.at) stop

  -- the commit of an opening without a provider was stopped: it stands, or not
  without_stopped : (call : Call) (p : List ℕ) (gone : List Intent) (start o s : Held S) (h : H)
      (db : Trees) (l : H) (away : Image) (acc ack after : List Entry)
      (was : Stopped g j all (stored g start) h away acc ack)
      → IsLeftIn db (Without call p gone) acc after
      → LeavesCommit g j o s h away was.before was.world call p gone
      → IsStop g j o s h h db l → Stopped g j all db l away after ack
  without_stopped call p gone start o s h db l away acc ack after was (some, left) clause stop =
      let u : World = was.before in
      let w : World = was.world in
      let many : length w.answered ≡ count_in acc = answered_many all acc w was.reached in
      let either : Recovers db (j.size h) away (j.view l).may_leave u w
      ⊎ ((v : World) × IsStepWithout w call p gone v × (present v ≡ j.size h)
      × Recovers db (j.size h) away (j.view l).may_leave u v) = elim stop.2 [
        | inl within
            ↦ inl (fewer db (j.size h) away ((j.view h).left_since (j.view h).moment)
            (j.view l).may_leave u w (clause.within db within.0) within.1)
        | inr end ↦ elim (clause.end db end.0) [
          | inl r ↦ inl
              (fewer db (j.size h) away (j.view h).may_leave (j.view l).may_leave u w r end.1)
          | inr r ↦ inr (
            r.0,
            r.1,
            r.2,
            fewer db (j.size h) away (j.view h).may_leave (j.view l).may_leave u r.0 r.3 end.1,
          )
        ]
      ] in
      let resized : (v : World) → Recovers db (j.size h) away (j.view l).may_leave u v
      → Recovers db (j.size l) away (j.view l).may_leave u v =
      λ v. subst (λ (z : Sizes). Recovers db z away (j.view l).may_leave u v) (sym stop.0) in
      elim left [
        | inl before ↦
            subst (λ (list : List Entry). Stopped g j all db l away list ack) (sym before.0)
            (elim either [
              | inl r ↦ record {
                world = w;
                before = u;
                reached = was.reached;
                last = was.last;
                sizes = was.sizes ∙ sym stop.0;
                recovers = resized w r;
                told = was.told;
              }
              | inr r ↦
                  let n = counts db (j.size h) away (j.view l).may_leave (j.view l).seen u r.0
                  (count_in acc) stop.1 r.3 before.1 in
                  let m : length r.0.answered ≡ suc (length w.answered) =
                  ap length (r.1.answered ∙ r.1.step.answered) in
                  absurd (omega (arith, n, m, many))
            ])
        | inr stands ↦
            subst (λ (list : List Entry). Stopped g j all db l away list ack) (sym stands.0)
            (elim either [
              | inl r ↦ (let n = counts db (j.size h) away (j.view l).may_leave (j.view l).seen u w
                  (count_in acc + 1) stop.1 r stands.1 in absurd (omega (arith, n, many)))
              | inr r ↦ record {
                world = r.0;
                before = u;
                reached = (w, was.reached, r.1);
                last = inr (w, was.reached, r.1, was.last);
                sizes = r.2 ∙ sym stop.0;
                recovers = resized r.0 r.3;
                told = skips was.told;
              }
            ])
      ]

  -- with the providers of the later shelf it leads on as well
  moved : (db : Trees) (h later : H) (away beyond : Image) (acc ack : List Entry)
      → IsMove g j all h away later beyond → Stopped g j all db h away acc ack
      → Stopped g j all db later beyond acc ack
  moved db h later away beyond acc ack move was =
      let w : World = was.world in
      let u : World = was.before in
      let there : List ℕ → Bool = there_of (j.size later) in
      let r = was.recovers in
      let leads : AllLead r.tables r.intents r.bytes (j.size later) beyond (j.view later).may_leave
      u (with_there w there) = λ y left.
      let from = move.images y left in
      let same : whole (j.size h) away from.0 ≡ whole (j.size later) beyond y =
      λ i p n. sym (from.2 p n) i in
      let lead = r.leads from.0 from.1 in (
        moved_leads r.tables r.intents r.bytes (whole (j.size later) beyond y) w there
            (subst (λ (x : Image). Leads r.tables r.intents r.bytes x w) same lead.0),
        moved_keeps r.intents (whole (j.size later) beyond y) u w there
            (subst (λ (x : Image). KeepsClaims r.intents x u w) same lead.1),
      ) in
      record {
        world = with_there w there;
        before = u;
        reached = moved_reached all acc w there was.reached;
        last = elim was.last [
          | inl m ↦ inl (moved_from u w there m)
          | inr l
              ↦ inr (moved_last all acc u w there l)
        ];
        sizes = moved_present all w (j.size later) (reached_sizes all acc w was.reached) move.sizes;
        recovers = record {
          tables = r.tables;
          intents = r.intents;
          bytes = r.bytes;
          stored = r.stored;
          leads = leads;
        };
        told = was.told;
      }

  next : (m : Now (Held S) H) (e : Event (Held S) H) (n : Now (Held S) H) → At m
      → Happens g j all m e n → At n
  next m (Accept_returned calls a s k) n was (r, h, waiting, over, is, clause) =
      answered calls a r s h k waiting m n over was is clause
  next m (Accept_stopped calls s k db l) n was (r, h, waiting, over, after, is, left, clause, stop) =
      let o = reached_by m r h waiting over was in
      subst At (sym is) (accept_stopped calls waiting r s h k db l m.away m.accepted m.acknowledged
      after o left (clause m.away o.intents o.bytes o.before o.world o.at o.waits) stop)
  next m (Apply_returned k) n was (r, h, work, phase, is, clause) =
      let o : OnTheWay g j all r h m.away work m.accepted m.acknowledged =
      subst (AtPhase m) phase was in
      let it = clause m.away o.before o.world o.at in
      subst At (sym is) (
        record {
          world = o.world;
          before = o.before;
          reached = o.reached;
          last = o.last;
          at = it.0;
          told = o.told;
        },
        it.1,
      )
  next m (Apply_stopped k db l) n was (r, h, work, phase, is, clause, stop) =
      let o : OnTheWay g j all r h m.away work m.accepted m.acknowledged =
      subst (AtPhase m) phase was in
      subst At (sym is) (stopped r r h k db l m.away o.before o.world m.accepted m.acknowledged
      o.reached (inr (last_pending all m.accepted o.before o.world o.last)) o.at.at.sizes o.told
      (clause m.away o.before o.world o.at) stop)
  next m (Settle_returned s) n was (r, h, work, phase, is, clause) =
      let o : (o : OnTheWay g j all r h m.away work m.accepted m.acknowledged)
      × IsShelfOf (j.view h) o.world (j.size h) = subst (AtPhase m) phase was in
      subst At (sym is) (record {
        world = o.0.world;
        reached = o.0.reached;
        at = clause m.away o.0.before o.0.world o.0.at o.1;
        told = o.0.told;
      })
  next m (Settle_stopped s db l) n was (r, h, work, phase, is, clause, stop) =
      let o : (o : OnTheWay g j all r h m.away work m.accepted m.acknowledged)
      × IsShelfOf (j.view h) o.world (j.size h) = subst (AtPhase m) phase was in
      subst At (sym is) (stopped r s h h db l m.away o.0.before o.0.world m.accepted m.acknowledged
      o.0.reached (inr (last_pending all m.accepted o.0.before o.0.world o.0.last))
      o.0.at.at.sizes o.0.told (clause m.away o.0.before o.0.world o.0.at o.1) stop)
  next m (Hand_in_returned calls a p s k) n was (r, h, before, is, q, so, now, phase, clause) =
      handed_in m n calls a before p r s h k q is was so now phase clause
  next m (Hand_in_stopped calls s k db l) n was (r, h, before, is, after, now, left, leaves, stop) =
      let it = stood m before r h is was in
      subst At (sym now) (run_stopped calls it.waiting r s h k db l m.away m.accepted
      m.acknowledged after it.was left (leaves m.away it.was.before it.was.world it.stands)
      (stop m.away it.was.before it.was.world it.stands))
  next m (Settle_waiting_returned s k) n was (r, h, before, is, now, clause) =
      let it = stood m before r h is was in
      subst At (sym now) (record {
        world = it.was.world;
        reached = it.was.reached;
        at = clause m.away it.was.before it.was.world it.stands;
        told = it.was.told;
      })
  next m (Settle_waiting_stopped s k db l) n was (r, h, before, is, now, clause, stop) =
      let it = stood m before r h is was in
      subst At (sym now) (stopped r s h k db l m.away it.was.before it.was.world m.accepted
      m.acknowledged it.was.reached it.was.last it.was.at.sizes it.was.told
      (clause m.away it.was.before it.was.world it.stands) stop)
  next m (Run_returned call a s k) n was (r, h, phase, is, clause) =
      run_answered call a r s h k m n (subst (AtPhase m) phase was) is clause
  next m (Run_stopped call s k db l) n was (r, h, phase, after, is, left, leaves, stop) =
      let rest : AtRest g j all r h m.away m.accepted m.acknowledged =
      subst (AtPhase m) phase was in
      subst At (sym is) (run_stopped (call ∷ []) waiting.Nothing r s h k db l m.away m.accepted
      m.acknowledged after (at_rest r h m.away m.accepted m.acknowledged rest) left
      (leaves m.away rest.world rest.at) (stop m.away rest.world rest.at))
  next m (Look_returned s k) n was (r, h, over, is, does) =
      subst At (sym is) (looked r s h k m over does was)
  next m (Look_stopped s k db l) n was (r, h, over, is, leaves, stop) =
      subst At (sym is) (look_stopped r s h k db l m over leaves stop was)
  next m (Moved beyond later) n was (db, h, phase, is, move) =
      let o : Stopped g j all db h m.away m.accepted m.acknowledged =
      subst (AtPhase m) phase was in
      subst At (sym is) (moved db h later m.away beyond m.accepted m.acknowledged move o)
  next m (Open_returned start s k) n was (h, phase, is, clause) =
      let o : Stopped g j all (stored g start) h m.away m.accepted m.acknowledged =
      subst (AtPhase m) phase was in
      subst At (sym is) (record {
        world = o.world;
        reached = o.reached;
        at = clause m.away o.before o.world (record { sizes = o.sizes; recovers = o.recovers });
        told = o.told;
      })
  next m (Open_stopped start s k db l) n was (h, phase, is, clause, stop) =
      let o : Stopped g j all (stored g start) h m.away m.accepted m.acknowledged =
      subst (AtPhase m) phase was in
      let left : IsLeft g j start h m.away o.before o.world =
      record { sizes = o.sizes; recovers = o.recovers } in
      subst At (sym is) (elim stop [
        | inl opening ↦ stopped start clause.registry h h db l m.away o.before o.world m.accepted
            m.acknowledged o.reached o.last o.sizes o.told
            (clause.opening m.away o.before o.world left) opening
        | inr carrying ↦ stopped clause.registry s h k db l m.away o.before o.world m.accepted
            m.acknowledged o.reached o.last o.sizes o.told
            (clause.carrying m.away o.before o.world left) carrying
      ])
  next m (Without_returned call p gone start s k) n was (h, phase, is, clause) =
      let o : Stopped g j all (stored g start) h m.away m.accepted m.acknowledged =
      subst (AtPhase m) phase was in
      let it = clause m.away o.before o.world (record { sizes = o.sizes; recovers = o.recovers }) in
      subst At (sym is) (record {
        world = it.1;
        reached = (o.world, o.reached, it.2);
        at = it.3;
        told = keeps o.told;
      })
  next m (Without_stopped call p gone start opened s db l) n was (
    h,
    phase,
    after,
    is,
    left,
    clause,
    stop,
  ) =
      let o : Stopped g j all (stored g start) h m.away m.accepted m.acknowledged =
      subst (AtPhase m) phase was in
      subst At (sym is) (without_stopped call p gone start opened s h db l m.away m.accepted
      m.acknowledged after o left (clause m.away o.before o.world (record {
        sizes = o.sizes;
        recovers = o.recovers;
      })).1 stop)
  next m (Without_carrying call p gone start mid s k db l) n was (h, phase, is, clause, stop) =
      let o : Stopped g j all (stored g start) h m.away m.accepted m.acknowledged =
      subst (AtPhase m) phase was in
      let it = clause m.away o.before o.world (record { sizes = o.sizes; recovers = o.recovers }) in
      subst At (sym is) (stopped mid s h k db l m.away o.before it.1
      (Without call p gone ∷ m.accepted) m.acknowledged (
        o.world,
        o.reached,
        it.2,
      ) (inr (o.world, o.reached, it.2, o.last)) it.3 (skips o.told) it.4 stop)

  started : (db : Trees) (h : H) (away : Image) (w : World) → IsStart g j all db h away w
      → AllLead no_tables [] [] (j.size h) away (j.view h).may_leave w w
  started db h away w s x l = (
    rest_leads no_tables (whole (j.size h) away x) w (new_sound all w s.new)
        (new_records all w s.new) refl refl (s.shelf x l),
    rest_claims (whole (j.size h) away x) w (new_sound all w s.new) (s.shelf x l),
  )

  pub law : (events : List (Event (Held S) H)) (n : Now (Held S) H) → Runs g j all events n
      → At n
  law [] n (db, h, away, w, s, is) =
      subst At (sym is) (record {
        world = w;
        before = w;
        reached = s.new;
        last = inl (stays w);
        sizes = s.sizes;
        recovers = record {
          tables = no_tables;
          intents = [];
          bytes = [];
          stored = inr (inr (s.empty, refl));
          leads = started db h away w s;
        };
        told = none;
      })
  law (e ∷ older) n (m, runs, happens) = next m e n (law older m runs) happens
