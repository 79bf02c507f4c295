-- A sync as a part of a schedule, by induction over the series that it handed in.
use Rattle.gm_sync.proofs.Common.{◌≡◌, ◌∙◌, ◌⊎◌, inl, inr, refl, sym, subst, subst₂, List, [], ◌∷◌, ◌++◌, Result, Ok, Err, IfErr, IfOk, Bool, Image, Sizes, Command, Held, World, Call, DiskKept, Answer, Done, Repeated, Refused, LeavesNext, registry_of, shelf_of, Bench, BenchFault, AreCarriedOut, FailsToSync, FaultLeavesFrom, InSeries, IsAdvanceIn, IsAnswered, IsFilledFrom, IsLast, Scope, Synced, Syncs, but}
use Rattle.sqlite.specs.Tree.{Trees}
use Rattle.sqlite_trees.specs.declared.store.Store.{Ghosts}
use Rattle.gm_shelf.specs.declared.shelf.Shelf.{Ghosts as ShelfGhosts}
use Rattle.gm_rules.proofs.SeriesTurns.{steps_of_run}
use Rattle.gm_bench.proofs.Induction.{accept_stopped, reached_done, run_stopped, settling_stopped, stopped}
use Rattle.gm_bench.proofs.MovedWorlds.{all_steps, stays}
use Rattle.gm_bench.specs.Schedule.{ArePending, AtRest, Entry, Handed_in, IsButMoved, IsLeftIn, Reached, Stopped, Within, keeps, none, skips}
use Rattle.gm_sync.specs.SyncRuns.{AreCarriedBehind, IsNextStop, RestsBehind, RestsOrStops, SyncLeaves, with_series}

-- one more series, handed in last
with_last : (done : List (List Call)) (calls : List Call) (entries : List Entry)
    → with_series (done ++ calls ∷ []) entries ≡ Handed_in calls ∷ with_series done entries
with_last [] calls entries = refl
with_last (first ∷ done) calls entries = with_last done calls (Handed_in first ∷ entries)

none_within : {A : Type 0} (xs : List A) → Within [] xs
none_within [] = none
none_within (x ∷ xs) = skips (none_within xs)

-- some of these, one more, and others that are left out
within_and : {A : Type 0} {xs ys : List A} (a : A) (more : List A) → Within xs ys
    → Within (xs ++ a ∷ []) (ys ++ a ∷ more)
within_and a more none = keeps (none_within more)
within_and a more (skips it) = skips (within_and a more it)
within_and a more (keeps it) = keeps (within_and a more it)

module _ (all : Sizes) where
  -- some of these series lead to the world w, accepted and acknowledged
  record Leads (handed : List (List Call)) (acc ack : List Entry) (w : World) : Type 0 where
    pub done : List (List Call)
    pub among : Within done handed
    pub reached : Reached all (with_series done acc) w
    pub told : Within (with_series done ack) (with_series done acc)

  -- a series, and then what leads on from where it leads
  one_series : (calls : List Call) (answer : Answer) (handed : List (List Call)) (u v w : World)
      (acc ack : List Entry) → IsAnswered u calls v answer
      → ((more told : List Entry) → Reached all more v → Within told more
      → Leads handed more told w)
      → Reached all acc u → Within ack acc → Leads (calls ∷ handed) acc ack w
  one_series calls (Done n reply) handed u v w acc ack (answers, run, done) rest reached told =
      let r = rest (Handed_in calls ∷ acc) (Handed_in calls ∷ ack) (
        u,
        reached,
        all_steps u v calls (steps_of_run u v calls answers n reply run done),
      ) (keeps told) in
      record { done = calls ∷ r.done; among = keeps r.among; reached = r.reached; told = r.told }
  one_series calls (Repeated n reply) handed u v w acc ack (call, is, stays) rest reached told =
      let r = rest acc ack (subst (Reached all acc) (sym stays.0) reached) told in
      record { done = r.done; among = skips r.among; reached = r.reached; told = r.told }
  one_series calls (Refused why) handed u v w acc ack (call, is, stays) rest reached told =
      let r = rest acc ack (subst (Reached all acc) (sym stays.0) reached) told in
      record { done = r.done; among = skips r.among; reached = r.reached; told = r.told }

  -- series that ran lead on
  all_series : (handed : List (List Call)) (u w : World) (acc ack : List Entry)
      → InSeries u handed w → Reached all acc u → Within ack acc → Leads handed acc ack w
  all_series [] u w acc ack same reached told = record {
    done = [];
    among = none;
    reached = subst (Reached all acc) (sym same) reached;
    told = told;
  }
  all_series (calls ∷ handed) u w acc ack ran reached told =
      one_series calls ran.1 handed u ran.0 w acc ack ran.2
      (λ more known reached1 told1. all_series handed ran.0 w more known ran.3 reached1 told1)
      reached told

  -- and the world before the last that is perhaps still to be settled
  record LeadsLast (handed : List (List Call)) (acc ack : List Entry) (v w : World) : Type 0 where
    pub done : List (List Call)
    pub among : Within done handed
    pub reached : Reached all (with_series done acc) w
    pub told : Within (with_series done ack) (with_series done acc)
    pub last : IsButMoved v w ⊎ ArePending all (with_series done acc) v w

  one_world : (handed : List (List Call)) (u v w : World) (acc ack : List Entry) → v ≡ w
      → InSeries u handed w → Reached all acc u → Within ack acc → LeadsLast handed acc ack v w
  one_world handed u v w acc ack same ran reached told =
      let l = all_series handed u w acc ack ran reached told in record {
        done = l.done;
        among = l.among;
        reached = l.reached;
        told = l.told;
        last = inl (subst (λ (x : World). IsButMoved x w) (sym same) (stays w));
      }

  last_of_series : (handed : List (List Call)) (u v w : World) (acc ack : List Entry)
      → InSeries u handed w → IsLast u u handed v w → Reached all acc u → Within ack acc
      → LeadsLast handed acc ack v w
  last_of_series handed u v w acc ack ran (inl same) reached told =
      one_world handed u v w acc ack same ran reached told
  last_of_series handed u v w acc ack ran (inr (inl waits)) reached told =
      one_world handed u v w acc ack (waits.0 ∙ sym waits.1) ran reached told
  last_of_series handed u v w acc ack ran (inr (inr done)) reached told =
      let l = all_series done.older u v acc ack done.run reached told in
      let step = all_steps v w done.calls done.steps in
      let same = with_last l.done done.calls acc in
      record {
        done = l.done ++ done.calls ∷ [];
        among = subst (Within (l.done ++ done.calls ∷ [])) (sym done.all)
            (within_and done.calls done.newer l.among);
        reached = subst (λ (es : List Entry). Reached all es w) (sym same) (v, l.reached, step);
        told = subst₂ Within (sym (with_last l.done done.calls ack)) (sym same) (keeps l.told);
        last = inr (subst (λ (es : List Entry). ArePending all es v w) (sym same)
            (l.reached, step));
      }

  module _ {S H : Type 0} (g : Ghosts S) (j : ShelfGhosts H) (a b : Bench S H) (away : Image)
      (acc ack : List Entry)
      (rest : AtRest g j all (registry_of a) (shelf_of a) away acc ack) where
    rests : (Fit : Command → Type 0) → IsFilledFrom g j Fit b away rest.world
        → RestsBehind g j all b away acc ack Fit
    rests Fit it =
        let l = all_series it.handed rest.world it.world acc ack it.run rest.reached rest.told in
        record {
          handed = it.handed;
          fill = it.fill;
          done = l.done;
          among = l.among;
          rest = record { world = it.world; reached = l.reached; at = it.at; told = l.told };
        }

    -- the series were carried out
    abbrev carried_behind : (Fit : Command → Type 0) (r : Held S) (k : H)
        (it : AreCarriedOut g j Fit r k away rest.world rest.world)
        → AreCarriedBehind g j all b away acc ack it.handed r k
    carried_behind Fit r k it =
        let l = last_of_series it.handed rest.world it.before it.world acc ack it.run it.last
        rest.reached rest.told in
        record {
          done = l.done;
          among = l.among;
          world = it.world;
          before = it.before;
          reached = l.reached;
          last = l.last;
          intents = it.intents;
          bytes = it.bytes;
          at = it.at;
          told = l.told;
        }

    -- what a stop leaves within the next series
    next_leads : (handed : List (List Call)) (calls : List Call) (r : Held S) (h : H)
        (it : AreCarriedBehind g j all b away acc ack handed r h)
        (left : LeavesNext g j r (registry_of b) h (shelf_of b) away it.before it.world calls)
        (db : Trees) (l : H) (after : List Entry)
        → IsLeftIn db (Handed_in calls) (with_series it.done acc) after
        → IsNextStop g j r (registry_of b) h (shelf_of b) away it.before it.world calls left db l
        → Stopped g j all db l away after (with_series it.done ack)
    next_leads handed calls r h it (inl left) db l after found stop =
        run_stopped g j all calls _ r (registry_of b) h (shelf_of b) db l away
        (with_series it.done acc) (with_series it.done ack) after
        (reached_done g j all r h away (with_series it.done acc) (with_series it.done ack)
        it.intents it.bytes it.before it.world it.reached it.last it.at it.told) found left stop
    next_leads handed calls r h it (inr left) db l after found (inl stop) =
        accept_stopped g j all calls _ r left.registry h left.shelf db l away
        (with_series it.done acc) (with_series it.done ack) after
        (reached_done g j all r h away (with_series it.done acc) (with_series it.done ack)
        it.intents it.bytes it.before it.world it.reached it.last it.at it.told) found
        left.accepting stop
    next_leads handed calls r h it (inr left) db l after found (inr stop) =
        settling_stopped g j all calls _ r left.registry (registry_of b) h left.shelf
        (shelf_of b) db l away (with_series it.done acc) (with_series it.done ack) after
        (reached_done g j all r h away (with_series it.done acc) (with_series it.done ack)
        it.intents it.bytes it.before it.world it.reached it.last it.at it.told) found left.sizes
        left.settling stop

    fault_leaves : (Fit : Command → Type 0) (fault : BenchFault)
        → FaultLeavesFrom g j Fit b away rest.world fault
        → RestsOrStops g j all b away acc ack Fit
    fault_leaves Fit fault (inl (memory, filled)) = inl (rests Fit filled)
    fault_leaves Fit fault (inr (inl it)) =
        let behind = carried_behind Fit it.registry it.shelf it.carried in
        inr (inl (record {
          handed = it.carried.handed;
          fill = it.carried.fill;
          calls = it.calls;
          fit = it.fit;
          registry = it.registry;
          shelf = it.shelf;
          behind = behind;
          left = it.left;
          leads = next_leads it.carried.handed it.calls it.registry it.shelf behind it.left;
        }))
    fault_leaves Fit fault (inr (inr it)) =
        let behind = carried_behind Fit it.registry it.shelf it.carried in
        inr (inr (record {
          handed = it.carried.handed;
          fill = it.carried.fill;
          registry = it.registry;
          shelf = it.shelf;
          behind = behind;
          leads = λ db l stop. stopped g j all it.registry (registry_of b) it.shelf (shelf_of b)
              db l away behind.before behind.world (with_series behind.done acc)
              (with_series behind.done ack) behind.reached behind.last behind.at.sizes
              behind.told it.left stop;
        }))

    pub sync_leaves : (scope : Scope) (audits : Bool) (result : Result Synced BenchFault)
        → j.honest (shelf_of a) → DiskKept g (registry_of b)
        → IfOk result (Syncs g j a b scope) → IfErr result (FailsToSync g j a b scope audits)
        → SyncLeaves g j all a b away acc ack scope audits result
    sync_leaves scope audits (Ok synced) honest kept syncs fails =
        rests (IsAdvanceIn (but scope synced.passed_over))
        (syncs.fills.does honest kept away rest.world rest.at)
    sync_leaves scope audits (Err fault) honest kept syncs fails = elim fails.leaves [
      | inl looked ↦ inl (fault_leaves _ fault (looked honest kept away rest.world rest.at))
      | inr some ↦ inr (
        some.0,
        some.1,
        fault_leaves (IsAdvanceIn (but scope some.0)) fault
            (some.2 honest kept away rest.world rest.at),
      )
    ]
