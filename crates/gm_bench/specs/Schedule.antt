-- Schedules: calls that returned or were stopped, providers that went away or came back, and
-- openings. A stop between two calls is one at the end of the first, or at the start of the second.
use Rattle.std.specs.Prelude.{◌≡◌, ◌⊎◌, ◌+◌, ◌<◌, ◌&&◌, ℕ, false, List, [], ◌∷◌, length}
use Rattle.sqlite_trees.specs.declared.store.Store.{Ghosts}
use Rattle.sqlite.specs.Tree.{Trees}
use Rattle.sqlite.specs.Held.{Held}
use Rattle.gm_metadata.specs.Images.{Image, Sizes, Same, SameThere, same_label}
use Rattle.gm_shelf.specs.declared.shelf.Shelf.{Ghosts as ShelfGhosts}
use Rattle.gm_state.specs.declared.intents.Reply.{Reply}
use Rattle.gm_state.specs.Rows.{Tables}
use Rattle.gm_state.specs.World.{World, present}
use Rattle.gm_state.specs.Intents.{is_place}
use Rattle.gm_state.specs.declared.intents.Intent.{Intent}
use Rattle.gm_commands.specs.declared.command.Command.TheVariants.{Lost}
use Rattle.gm_rules.specs.Step.{Step}
use Rattle.gm_rules.specs.AbstractCalls.{Call}
use Rattle.gm_rules.specs.Series.{Steps}
use Rattle.gm_registry.specs.Opens.{IsStored}
use Rattle.gm_registry.specs.Registry.{CrashLeaves, stored}
use Rattle.gm_registry.specs.Replies.{count_of}
use Rattle.gm_rows.specs.Tables.{IsEmpty}
use Rattle.gm_bench.specs.Leading.{AreAmong, whole}
use Rattle.gm_bench.specs.Losing.{dropped}
use Rattle.gm_bench.specs.declared.answer.Work.{Work}
use Rattle.gm_bench.specs.declared.answer.Accepted.{Accepted}
use Rattle.gm_bench.specs.declared.answer.Accepted.TheVariants.{Done, Repeated, Refused}
use Rattle.gm_bench.specs.declared.answer.Answer.TheVariants as run
use Rattle.gm_bench.specs.declared.phase.Progress.{Progress}
use Rattle.gm_bench.specs.declared.phase.Progress.TheVariants as far
use Rattle.gm_bench.specs.declared.phase.Waiting.{Waiting}
use Rattle.gm_bench.specs.declared.phase.Waiting.TheVariants as waiting
use Rattle.gm_bench.specs.Recovering.{Recovers, IsAt, IsAtWork, IsShelfOf, LeavesOnly}
use Rattle.gm_bench.specs.Owed.{AcceptLeaves, AcceptAnswers, ApplyLeaves, ApplyDoes, SettleLeaves, SettleDoes, OpenLeaves, OpenDoes, IsLeft, RunAnswers, RunLeaves, LeavesRun, LookDoes, LookLeaves}
use Rattle.gm_bench.specs.declared.answer.Answer.{Answer}
use Rattle.gm_bench.specs.Phases.{phase_carried, phase_of}
use Rattle.gm_bench.specs.Standing.{AreHandedIn, Stands}

-- How commands were accepted, by one commit: handed in to a bench at rest or after commands that were
-- carried out, one or several advances in turn; or one by an opening without a provider, of which
-- these intents of earlier commands were taken out.
pub data Entry : Type 0 where
  Handed_in : (calls : List Call) → Entry
  Without : (call : Call) (provider : List ℕ) (gone : List Intent) → Entry

-- where the bench is: between two calls, some with work that is pending, or stopped with one store
-- and a shelf
pub data Phase (R H : Type 0) : Type 0 where
  Ready : (registry : R) (shelf : H) → Phase R H
  Pending : (registry : R) (shelf : H) (work : Work) → Phase R H
  Applied : (registry : R) (shelf : H) (work : Work) → Phase R H
  Down : (db : Trees) (shelf : H) → Phase R H

-- What may happen next, with what it left. A call that faulted is one that was stopped at its end;
-- `Moved` says what the providers hold that the later shelf hasn't; an opening is of a connection
-- to the store. One without a provider that is stopped before its commit is any opening's stop.
pub data Event (R H : Type 0) : Type 0 where
  Accept_returned : (calls : List Call) (answer : Accepted) (registry : R) (shelf : H) → Event R H
  Accept_stopped : (calls : List Call) (registry : R) (shelf : H) (db : Trees) (later : H)
      → Event R H
  Apply_returned : (shelf : H) → Event R H
  Apply_stopped : (shelf : H) (db : Trees) (later : H) → Event R H
  Settle_returned : (registry : R) → Event R H
  Settle_stopped : (registry : R) (db : Trees) (later : H) → Event R H
  Hand_in_returned : (calls : List Call) (answer : Answer) (progress : Progress) (registry : R)
      (shelf : H) → Event R H
  Hand_in_stopped : (calls : List Call) (registry : R) (shelf : H) (db : Trees) (later : H)
      → Event R H
  Settle_waiting_returned : (registry : R) (shelf : H) → Event R H
  Settle_waiting_stopped : (registry : R) (shelf : H) (db : Trees) (later : H) → Event R H
  Run_returned : (call : Call) (answer : Answer) (registry : R) (shelf : H) → Event R H
  Run_stopped : (call : Call) (registry : R) (shelf : H) (db : Trees) (later : H) → Event R H
  Look_returned : (registry : R) (shelf : H) → Event R H
  Look_stopped : (registry : R) (shelf : H) (db : Trees) (later : H) → Event R H
  Moved : (away : Image) (later : H) → Event R H
  Open_returned : (store registry : R) (shelf : H) → Event R H
  Open_stopped : (store registry : R) (shelf : H) (db : Trees) (later : H) → Event R H
  Without_returned : (call : Call) (provider : List ℕ) (gone : List Intent) (store registry : R)
      (shelf : H) → Event R H
  Without_stopped : (call : Call) (provider : List ℕ) (gone : List Intent)
      (store opened registry : R) (db : Trees) (later : H) → Event R H
  Without_carrying : (call : Call) (provider : List ℕ) (gone : List Intent)
      (store middle registry : R) (shelf : H) (db : Trees) (later : H) → Event R H

-- the event hands in one command and no series, if it hands one in
abbrev pub IsAlone : {R H : Type 0} → Event R H → Type 0
IsAlone (Accept_returned calls answer r h) = length calls ≡ 1
IsAlone (Accept_stopped calls r h db later) = length calls ≡ 1
IsAlone (Hand_in_returned calls answer progress r h) = length calls ≡ 1
IsAlone (Hand_in_stopped calls r h db later) = length calls ≡ 1
IsAlone _ = Unit {0}

-- so does each of these
abbrev pub AreAlone : {R H : Type 0} → List (Event R H) → Type 0
AreAlone [] = Unit {0}
AreAlone (e ∷ older) = IsAlone e × AreAlone older

-- the phase, what the providers hold that are away, and the accepted and the acknowledged calls,
-- the newest first
pub record Now (R H : Type 0) : Type 0 where
  pub phase : Phase R H
  pub away : Image
  pub accepted : List Entry
  pub acknowledged : List Entry

-- an open bench over other media, as far with its command as before
abbrev pub with_media : {R H : Type 0} → Phase R H → R → H → Phase R H
with_media (Ready r h) s k = Ready s k
with_media (Pending r h work) s k = Pending s k work
with_media (Applied r h work) s k = Applied s k work
with_media (Down db h) s k = Down db h

-- calls that are done are pending, accepted and acknowledged; after another answer nothing has
-- changed
abbrev pub after_answer : {R H : Type 0} → Now R H → List Call → Accepted → R → H → Now R H
after_answer m calls (Done n count reply work) s k =
    record m {
      phase = Pending s k work;
      accepted = Handed_in calls ∷ m.accepted;
      acknowledged = Handed_in calls ∷ m.acknowledged;
    }
after_answer m calls (Repeated n reply) s k = record m { phase = with_media m.phase s k }
after_answer m calls (Refused why) s k = record m { phase = with_media m.phase s k }

-- a command that is run is accepted and acknowledged if it is done; after another answer nothing
-- has changed
abbrev pub after_run : {R H : Type 0} → Now R H → Call → Answer → R → H → Now R H
after_run m call (run.Done n reply) s k =
    record m {
      phase = Ready s k;
      accepted = Handed_in (call ∷ []) ∷ m.accepted;
      acknowledged = Handed_in (call ∷ []) ∷ m.acknowledged;
    }
after_run m call (run.Repeated n reply) s k = record m { phase = Ready s k }
after_run m call (run.Refused why) s k = record m { phase = Ready s k }

-- the bench is so far with a command, over these media: at rest, or one is to be settled
abbrev pub IsSoFar : {R H : Type 0} → Phase R H → Progress → R → H → Type 0
IsSoFar p far.Ready r h = p ≡ Ready r h
IsSoFar p (far.Pending work) r h = ⊥
IsSoFar p (far.Applied work) r h = p ≡ Applied r h work
IsSoFar p far.Failed r h = ⊥

-- calls that are handed in are accepted and acknowledged if they are done
abbrev pub after_hand_in : {R H : Type 0} → Now R H → List Call → Answer → Phase R H → Now R H
after_hand_in m calls (run.Done n reply) p =
    record m {
      phase = p;
      accepted = Handed_in calls ∷ m.accepted;
      acknowledged = Handed_in calls ∷ m.acknowledged;
    }
after_hand_in m calls (run.Repeated n reply) p = record m { phase = p }
after_hand_in m calls (run.Refused why) p = record m { phase = p }

-- the bench is open, over these media
abbrev pub IsOpenOver : {R H : Type 0} → Phase R H → R → H → Type 0
IsOpenOver p r h =
    (p ≡ Ready r h) ⊎ ((work : Work) × ((p ≡ Pending r h work) ⊎ (p ≡ Applied r h work)))

-- the bench is open over these media, and this is what waits to be settled
abbrev pub IsDoneOver : {R H : Type 0} → Phase R H → R → H → Waiting → Type 0
IsDoneOver p r h waiting.Nothing = p ≡ Ready r h
IsDoneOver p r h waiting.Done = (work : Work) × (p ≡ Applied r h work)

-- in order, some left out
pub data Within {A : Type 0} : List A → List A → Type 0 where
  none : Within [] []
  skips : {a : A} {xs ys : List A} → Within xs ys → Within xs (a ∷ ys)
  keeps : {a : A} {xs ys : List A} → Within xs ys → Within (a ∷ xs) (a ∷ ys)

-- a world of providers of these sizes, without records and answers
pub record IsNew (all : Sizes) (w : World) : Type 0 where
  pub mirrors : w.state.mirrors ≡ []
  pub components : w.state.components ≡ []
  pub answered : w.answered ≡ []
  pub sizes : w.size ≡ all

-- one world is the other but for which providers are there
pub record IsButMoved (w v : World) : Type 0 where
  pub state : w.state ≡ v.state
  pub holds : w.holds ≡ v.holds
  pub answered : w.answered ≡ v.answered
  pub shelf : w.shelf ≡ v.shelf
  pub size : w.size ≡ v.size

-- The calls' steps from u, after which providers may have gone away or come back.
pub record AreStepsTo (u : World) (calls : List Call) (w : World) : Type 0 where
  pub stepped : World
  pub steps : Steps u calls stepped
  pub moved : IsButMoved w stepped

-- The call's step from u, by an opening without the provider: its sectors that the intents named
-- which were taken out hold what they were left with.
pub record IsStepWithout (u : World) (call : Call) (provider : List ℕ) (gone : List Intent)
    (w : World) : Type 0 where
  pub stepped : World
  pub reply : Reply
  pub step : Step u call.key call.command stepped reply
  pub mirror : List ℕ
  pub command : call.command ≡ Lost mirror (provider ∷ [])
  pub state : w.state ≡ stepped.state
  pub holds : w.holds ≡ stepped.holds
  pub answered : w.answered ≡ stepped.answered
  pub size : w.size ≡ stepped.size
  pub shelf : (q : List ℕ) (j : ℕ) → (same_label provider q && is_place u.size gone q j) ≡ false
      → w.shelf q j ≡ stepped.shelf q j

abbrev pub IsEntry : World → Entry → World → Type 0
IsEntry u (Handed_in calls) w = AreStepsTo u calls w
IsEntry u (Without call provider gone) w = IsStepWithout u call provider gone w

-- the world after these commands, by steps alone
abbrev pub Reached : Sizes → List Entry → World → Type 0
Reached all [] w = IsNew all w
Reached all (entry ∷ older) w = (u : World) × Reached all older u × IsEntry u entry w

-- u is the world before the last of these commits, which was handed in, and w the one after it
abbrev pub IsLastStep : Sizes → List Entry → World → World → Type 0
IsLastStep all [] u w = ⊥
IsLastStep all (Handed_in calls ∷ older) u w = Reached all older u × AreStepsTo u calls w
IsLastStep all (Without call provider gone ∷ older) u w = ⊥

-- u is the world before the first of those of the last commands that may be pending, and w the one
-- after them all: openings without a provider, after one command that was handed in or after none
abbrev pub ArePending : Sizes → List Entry → World → World → Type 0
ArePending all [] u w = ⊥
ArePending all (Handed_in calls ∷ older) u w = Reached all older u × AreStepsTo u calls w
ArePending all (Without call provider gone ∷ older) u w =
    (v : World) × Reached all older v × IsStepWithout v call provider gone w
    × (IsButMoved u v ⊎ ArePending all older u v)

-- how many commands the tables of a store hold
abbrev pub HasCount : Trees → ℕ → Type 0
HasCount db n = (t : Tables) → IsStored db t → count_of t ≡ n

-- how many commands a commit accepts, and how many all of these do
abbrev pub calls_in : Entry → ℕ
calls_in (Handed_in calls) = length calls
calls_in (Without call provider gone) = 1

abbrev pub count_in : List Entry → ℕ
count_in [] = 0
count_in (entry ∷ older) = count_in older + calls_in entry

-- each of these commits accepts one command
abbrev pub AcceptOne : List Entry → Type 0
AcceptOne [] = Unit {0}
AcceptOne (entry ∷ older) = (calls_in entry ≡ 1) × AcceptOne older

-- the commits that were left: with this one, or without
abbrev pub IsLeftIn : Trees → Entry → List Entry → List Entry → Type 0
IsLeftIn db entry before after =
    (0 < calls_in entry)
    × (((after ≡ before) × HasCount db (count_in before))
    ⊎ ((after ≡ entry ∷ before) × HasCount db (count_in (entry ∷ before))))

module _ {S H : Type 0} (g : Ghosts S) (j : ShelfGhosts H) where
  -- one store and one shelf that a stop within a call leaves: the store is of the call's start and
  -- the image of any moment, or both are of its end
  abbrev pub IsStop : Held S → Held S → H → H → Trees → H → Type 0
  IsStop r s h k db l =
      (j.size l ≡ j.size h)
      × ((j.view l).may_leave (j.view l).seen)
      × ((CrashLeaves g r db × ((x : Image) → (j.view l).may_leave x
      → (j.view k).left_since (j.view h).moment x))
      ⊎ (CrashLeaves g s db × ((x : Image) → (j.view l).may_leave x → (j.view k).may_leave x)))

  -- one store and one shelf that a stop within a run leaves: within the accepting, or after it,
  -- while the step is carried out
  abbrev pub IsRunStop : (r s : Held S) (h k : H) (away : Image) (v u : World)
      (calls : List Call) → LeavesRun g j r s h k away v u calls → Trees → H → Type 0
  IsRunStop r s h k away v u calls it db l =
      IsStop r it.registry h it.shelf db l
      ⊎ ((w : World) × Steps u calls w
      × LeavesOnly g j it.registry s it.shelf k away u w
      × IsStop it.registry s it.shelf k db l)

  -- one store and one shelf that a stop within an opening leaves: while the registry is opened, or
  -- after that
  abbrev pub IsOpenStop : (store s : Held S) (h k : H) → OpenLeaves g j store s h k → Trees
      → H → Type 0
  IsOpenStop store s h k it db l =
      IsStop store it.registry h h db l ⊎ IsStop it.registry s h k db l

  -- The commit of an opening without a provider: until then nothing is written to the shelf, and
  -- what a stop leaves leads to w; the commit leaves that, or what leads to the step.
  pub record LeavesCommit (opened mid : Held S) (h : H) (away : Image) (u w : World) (call : Call)
      (provider : List ℕ) (gone : List Intent) : Type 0 where
    pub within : (db : Trees) → CrashLeaves g opened db
        → Recovers db (j.size h) away ((j.view h).left_since (j.view h).moment) u w
    pub end : (db : Trees) → CrashLeaves g mid db
        → Recovers db (j.size h) away (j.view h).may_leave u w
        ⊎ ((v : World) × IsStepWithout w call provider gone v × (present v ≡ j.size h)
        × Recovers db (j.size h) away (j.view h).may_leave u v)

  abbrev pub WithoutLeaves : Held S → Held S → Held S → H → Call → List ℕ → List Intent → Type 0
  WithoutLeaves store opened mid h call provider gone =
      (away : Image) (u w : World) → (left : IsLeft g j store h away u w)
      → (gone ≡ dropped provider left.recovers.intents)
      × LeavesCommit opened mid h away u w call provider gone

  -- after the commit: what a stop leaves leads to the step
  abbrev pub WithoutCarries : Held S → Held S → Held S → H → H → Call → List ℕ → List Intent
      → Type 0
  WithoutCarries store mid s h k call provider gone =
      (away : Image) (u w : World) → (left : IsLeft g j store h away u w)
      → (gone ≡ dropped provider left.recovers.intents) × (v : World)
      × IsStepWithout w call provider gone v × (present v ≡ j.size h)
      × LeavesOnly g j mid s h k away u v

  -- at its end the bench is at rest in the world of the step
  abbrev pub WithoutDoes : Held S → Held S → H → H → Call → List ℕ → List Intent → Type 0
  WithoutDoes store s h k call provider gone =
      (away : Image) (u w : World) → (left : IsLeft g j store h away u w)
      → (gone ≡ dropped provider left.recovers.intents) × (v : World)
      × IsStepWithout w call provider gone v × IsAt g j s k away [] [] v v

  -- Providers went away or came back unchanged: those on the later shelf have their sizes, and
  -- whatever image is left of it, all providers hold what they hold with one that may be left of
  -- this shelf.
  pub record IsMove (all : Sizes) (h : H) (away : Image) (later : H) (beyond : Image) : Type 0 where
    pub sizes : AreAmong (j.size later) all
    pub images : (y : Image) → (j.view later).may_leave y
        → (x : Image) × (j.view h).may_leave x × Same (whole (j.size later) beyond y)
        (whole (j.size h) away x)

  -- the providers have these sizes for ever
  module _ (all : Sizes) where
    -- each event is what the contract of its call says of an honest shelf and a disk that keeps
    -- what is written
    abbrev pub Happens : Now (Held S) H → Event (Held S) H → Now (Held S) H → Type 0
    Happens m (Accept_returned calls answer s k) n =
        (r : Held S) × (h : H) × (waiting : Waiting) × IsDoneOver m.phase r h waiting
        × (n ≡ after_answer m calls answer s k)
        × AcceptAnswers g j waiting r s h k calls answer
    Happens m (Accept_stopped calls s k db l) n =
        (r : Held S) × (h : H) × (waiting : Waiting) × IsDoneOver m.phase r h waiting
        × (left : List Entry) × (n ≡ record m { phase = Down db l; accepted = left })
        × IsLeftIn db (Handed_in calls) m.accepted left
        × AcceptLeaves g j waiting r s h k calls × IsStop r s h k db l
    Happens m (Apply_returned k) n =
        (r : Held S) × (h : H) × (work : Work) × (m.phase ≡ Pending r h work)
        × (n ≡ record m { phase = Applied r k work }) × ApplyDoes g j r h k work
    Happens m (Apply_stopped k db l) n =
        (r : Held S) × (h : H) × (work : Work) × (m.phase ≡ Pending r h work)
        × (n ≡ record m { phase = Down db l }) × ApplyLeaves g j r h k work
        × IsStop r r h k db l
    Happens m (Settle_returned s) n =
        (r : Held S) × (h : H) × (work : Work) × (m.phase ≡ Applied r h work)
        × (n ≡ record m { phase = Ready s h }) × SettleDoes g j r s h work
    Happens m (Settle_stopped s db l) n =
        (r : Held S) × (h : H) × (work : Work) × (m.phase ≡ Applied r h work)
        × (n ≡ record m { phase = Down db l }) × SettleLeaves g j r s h work
        × IsStop r s h h db l
    Happens m (Hand_in_returned calls answer progress s k) n =
        (r : Held S) × (h : H) × (before : Progress) × IsSoFar m.phase before r h
        × (p : Phase (Held S) H) × IsSoFar p progress s k
        × (n ≡ after_hand_in m calls answer p)
        × (phase_of progress ≡ phase_carried (phase_of before) answer)
        × ((away : Image) (v u : World) → Stands g j before r h away v u
        → AreHandedIn g j progress r s h k away v u calls answer)
    Happens m (Hand_in_stopped calls s k db l) n =
        (r : Held S) × (h : H) × (before : Progress) × IsSoFar m.phase before r h
        × (left : List Entry) × (n ≡ record m { phase = Down db l; accepted = left })
        × IsLeftIn db (Handed_in calls) m.accepted left
        × (leaves : (away : Image) (v u : World) → Stands g j before r h away v u
        → LeavesRun g j r s h k away v u calls)
        × ((away : Image) (v u : World) (stands : Stands g j before r h away v u)
        → IsRunStop r s h k away v u calls (leaves away v u stands) db l)
    Happens m (Settle_waiting_returned s k) n =
        (r : Held S) × (h : H) × (before : Progress) × IsSoFar m.phase before r h
        × (n ≡ record m { phase = Ready s k })
        × ((away : Image) (v u : World) → Stands g j before r h away v u
        → IsAt g j s k away [] [] u u)
    Happens m (Settle_waiting_stopped s k db l) n =
        (r : Held S) × (h : H) × (before : Progress) × IsSoFar m.phase before r h
        × (n ≡ record m { phase = Down db l })
        × ((away : Image) (v u : World) → Stands g j before r h away v u
        → LeavesOnly g j r s h k away v u)
        × IsStop r s h k db l
    Happens m (Run_returned call answer s k) n =
        (r : Held S) × (h : H) × (m.phase ≡ Ready r h) × (n ≡ after_run m call answer s k)
        × RunAnswers g j r s h k call.key call.command answer
    Happens m (Run_stopped call s k db l) n =
        (r : Held S) × (h : H) × (m.phase ≡ Ready r h)
        × (left : List Entry) × (n ≡ record m { phase = Down db l; accepted = left })
        × IsLeftIn db (Handed_in (call ∷ [])) m.accepted left
        × (leaves : RunLeaves g j r s h k call.key call.command)
        × ((away : Image) (u : World) (at : IsAt g j r h away [] [] u u)
        → IsRunStop r s h k away u u (call ∷ []) (leaves away u at) db l)
    Happens m (Look_returned s k) n =
        (r : Held S) × (h : H) × IsOpenOver m.phase r h
        × (n ≡ record m { phase = with_media m.phase s k })
        × LookDoes g j r s h k
    Happens m (Look_stopped s k db l) n =
        (r : Held S) × (h : H) × IsOpenOver m.phase r h
        × (n ≡ record m { phase = Down db l }) × LookLeaves g j r s h k
        × IsStop r s h k db l
    Happens m (Moved beyond later) n =
        (db : Trees) × (h : H) × (m.phase ≡ Down db h)
        × (n ≡ record m { phase = Down db later; away = beyond })
        × IsMove all h m.away later beyond
    Happens m (Open_returned o s k) n =
        (h : H) × (m.phase ≡ Down (stored g o) h) × (n ≡ record m { phase = Ready s k })
        × OpenDoes g j o s h k
    Happens m (Open_stopped o s k db l) n =
        (h : H) × (m.phase ≡ Down (stored g o) h) × (n ≡ record m { phase = Down db l })
        × (leaves : OpenLeaves g j o s h k) × IsOpenStop o s h k leaves db l
    Happens m (Without_returned call p gone o s k) n =
        (h : H) × (m.phase ≡ Down (stored g o) h)
        × (n ≡ record m {
          phase = Ready s k;
          accepted = Without call p gone ∷ m.accepted;
          acknowledged = Without call p gone ∷ m.acknowledged;
        })
        × WithoutDoes o s h k call p gone
    Happens m (Without_stopped call p gone o opened s db l) n =
        (h : H) × (m.phase ≡ Down (stored g o) h)
        × (left : List Entry) × (n ≡ record m { phase = Down db l; accepted = left })
        × IsLeftIn db (Without call p gone) m.accepted left
        × WithoutLeaves o opened s h call p gone × IsStop opened s h h db l
    Happens m (Without_carrying call p gone o mid s k db l) n =
        (h : H) × (m.phase ≡ Down (stored g o) h)
        × (n ≡ record m { phase = Down db l; accepted = Without call p gone ∷ m.accepted })
        × WithoutCarries o mid s h k call p gone × IsStop mid s h k db l

    -- A start: a store without tables, and a new world whose providers hold what any crash leaves
    -- of them.
    pub record IsStart (db : Trees) (h : H) (away : Image) (w : World) : Type 0 where
      pub empty : IsEmpty db
      pub new : IsNew all w
      pub sizes : present w ≡ j.size h
      pub shelf : (x : Image) → (j.view h).may_leave x
          → SameThere w.size (whole (j.size h) away x) w.shelf

    -- the events, the newest first, lead to this from a start
    abbrev pub Runs : List (Event (Held S) H) → Now (Held S) H → Type 0
    Runs [] n =
        (db : Trees) × (h : H) × (away : Image) × (w : World) × IsStart db h away w
        × (n ≡ record { phase = Down db h; away = away; accepted = []; acknowledged = [] })
    Runs (e ∷ older) n = (m : Now (Held S) H) × Runs older m × Happens m e n

    -- after an opening and at rest: the tables and the shelf are those of the world after the
    -- accepted calls
    pub record AtRest (r : Held S) (h : H) (away : Image) (acc ack : List Entry) : Type 0 where
      pub world : World
      pub reached : Reached all acc world
      pub at : IsAt g j r h away [] [] world world
      pub told : Within ack acc

    -- the work that is pending leads to it, and no component claims on the way a sector that it
    -- lacks
    pub record OnTheWay (r : Held S) (h : H) (away : Image) (work : Work)
        (acc ack : List Entry) : Type 0 where
      pub world : World
      pub before : World
      pub reached : Reached all acc world
      pub last : IsLastStep all acc before world
      pub at : IsAtWork g j r h away work before world
      pub told : Within ack acc

    -- whatever a stop left leads to it, from itself or from the world before the first command that
    -- is pending
    pub record Stopped (db : Trees) (h : H) (away : Image) (acc ack : List Entry) : Type 0 where
      pub world : World
      pub before : World
      pub reached : Reached all acc world
      pub last : IsButMoved before world ⊎ ArePending all acc before world
      pub sizes : present world ≡ j.size h
      pub recovers : Recovers db (j.size h) away (j.view h).may_leave before world
      pub told : Within ack acc

    -- what holds at each phase
    abbrev pub Headline : Phase (Held S) H → Image → List Entry → List Entry → Type 0
    Headline (Ready r h) away acc ack = AtRest r h away acc ack
    Headline (Pending r h work) away acc ack = OnTheWay r h away work acc ack
    Headline (Applied r h work) away acc ack =
        (o : OnTheWay r h away work acc ack) × IsShelfOf (j.view h) o.world (j.size h)
    Headline (Down db h) away acc ack = Stopped db h away acc ack
