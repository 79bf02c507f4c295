-- The commits of a run in which no series is handed in: each accepts one command.
use Rattle.gm_bench.proofs.Common.{◌≡◌, inl, inr, List, [], ◌∷◌, length, refl, sym, subst, Ghosts, Trees, Held, Sizes, Call, Accepted, Event, Accept_returned, Accept_stopped, Apply_returned, Apply_stopped, Settle_returned, Settle_stopped, Hand_in_returned, Hand_in_stopped, Settle_waiting_returned, Settle_waiting_stopped, Run_returned, Run_stopped, Look_returned, Look_stopped, Open_returned, Open_stopped, Now, Moved, Without_returned, Without_stopped, Without_carrying, Entry, Handed_in, IsLeftIn, after_answer, Happens, Runs, IsAlone, AreAlone, AcceptOne}
use Rattle.gm_shelf.specs.declared.shelf.Shelf.{Ghosts as ShelfGhosts}
use Rattle.gm_bench.specs.Schedule.{calls_in}
use Rattle.gm_bench.specs.declared.answer.Accepted.TheVariants.{Done, Repeated, Refused}
use Rattle.gm_bench.specs.declared.answer.Answer.TheVariants as run

-- with one commit more of one command, or without
left_one : (db : Trees) (entry : Entry) (before after : List Entry)
    → IsLeftIn db entry before after → calls_in entry ≡ 1 → AcceptOne before → AcceptOne after
left_one db entry before after (some, inl same) one old = subst AcceptOne (sym same.0) old
left_one db entry before after (some, inr more) one old = subst AcceptOne (sym more.0) (one, old)

module _ {S H : Type 0} (g : Ghosts S) (j : ShelfGhosts H) (all : Sizes) where
  -- after an answer
  answered_one : (m : Now (Held S) H) (calls : List Call) (a : Accepted) (s : Held S) (k : H)
      → length calls ≡ 1 → AcceptOne m.accepted → AcceptOne (after_answer m calls a s k).accepted
  answered_one m calls (Done n count reply work) s k one old = (one, old)
  answered_one m calls (Repeated n reply) s k one old = old
  answered_one m calls (Refused why) s k one old = old

  next : (m : Now (Held S) H) (e : Event (Held S) H) (n : Now (Held S) H) → IsAlone e
      → AcceptOne m.accepted → Happens g j all m e n → AcceptOne n.accepted
  next m (Accept_returned calls a s k) n one old (r, h, waiting, over, is, clause) =
      subst (λ (x : Now (Held S) H). AcceptOne x.accepted) (sym is)
      (answered_one m calls a s k one old)
  next m (Accept_stopped calls s k db l) n one old
      (r, h, waiting, over, after, is, left, clause, stop) =
      subst (λ (x : Now (Held S) H). AcceptOne x.accepted) (sym is)
      (left_one db (Handed_in calls) m.accepted after left one old)
  next m (Apply_returned k) n one old (r, h, work, phase, is, clause) =
      subst (λ (x : Now (Held S) H). AcceptOne x.accepted) (sym is) old
  next m (Apply_stopped k db l) n one old (r, h, work, phase, is, clause, stop) =
      subst (λ (x : Now (Held S) H). AcceptOne x.accepted) (sym is) old
  next m (Settle_returned s) n one old (r, h, work, phase, is, clause) =
      subst (λ (x : Now (Held S) H). AcceptOne x.accepted) (sym is) old
  next m (Settle_stopped s db l) n one old (r, h, work, phase, is, clause, stop) =
      subst (λ (x : Now (Held S) H). AcceptOne x.accepted) (sym is) old
  next m (Hand_in_returned calls (run.Done i reply) progress s k) n one old
      (r, h, before, so, p, far, is, phase, clause) =
      subst (λ (x : Now (Held S) H). AcceptOne x.accepted) (sym is) (one, old)
  next m (Hand_in_returned calls (run.Repeated i reply) progress s k) n one old
      (r, h, before, so, p, far, is, phase, clause) =
      subst (λ (x : Now (Held S) H). AcceptOne x.accepted) (sym is) old
  next m (Hand_in_returned calls (run.Refused why) progress s k) n one old
      (r, h, before, so, p, far, is, phase, clause) =
      subst (λ (x : Now (Held S) H). AcceptOne x.accepted) (sym is) old
  next m (Hand_in_stopped calls s k db l) n one old
      (r, h, before, so, after, is, left, leaves, stop) =
      subst (λ (x : Now (Held S) H). AcceptOne x.accepted) (sym is)
      (left_one db (Handed_in calls) m.accepted after left one old)
  next m (Settle_waiting_returned s k) n one old (r, h, before, so, is, clause) =
      subst (λ (x : Now (Held S) H). AcceptOne x.accepted) (sym is) old
  next m (Settle_waiting_stopped s k db l) n one old (r, h, before, so, is, clause, stop) =
      subst (λ (x : Now (Held S) H). AcceptOne x.accepted) (sym is) old
  next m (Run_returned call (run.Done i reply) s k) n one old (r, h, phase, is, clause) =
      subst (λ (x : Now (Held S) H). AcceptOne x.accepted) (sym is) (refl, old)
  next m (Run_returned call (run.Repeated i reply) s k) n one old (r, h, phase, is, clause) =
      subst (λ (x : Now (Held S) H). AcceptOne x.accepted) (sym is) old
  next m (Run_returned call (run.Refused why) s k) n one old (r, h, phase, is, clause) =
      subst (λ (x : Now (Held S) H). AcceptOne x.accepted) (sym is) old
  next m (Run_stopped call s k db l) n one old (r, h, phase, after, is, left, leaves, stop) =
      subst (λ (x : Now (Held S) H). AcceptOne x.accepted) (sym is)
      (left_one db (Handed_in (call ∷ [])) m.accepted after left refl old)
  next m (Look_returned s k) n one old (r, h, over, is, does) =
      subst (λ (x : Now (Held S) H). AcceptOne x.accepted) (sym is) old
  next m (Look_stopped s k db l) n one old (r, h, over, is, leaves, stop) =
      subst (λ (x : Now (Held S) H). AcceptOne x.accepted) (sym is) old
  next m (Moved beyond later) n one old (db, h, phase, is, move) =
      subst (λ (x : Now (Held S) H). AcceptOne x.accepted) (sym is) old
  next m (Open_returned start s k) n one old (h, phase, is, clause) =
      subst (λ (x : Now (Held S) H). AcceptOne x.accepted) (sym is) old
  next m (Open_stopped start s k db l) n one old (h, phase, is, clause, stop) =
      subst (λ (x : Now (Held S) H). AcceptOne x.accepted) (sym is) old
  next m (Without_returned call p gone start s k) n one old (h, phase, is, clause) =
      subst (λ (x : Now (Held S) H). AcceptOne x.accepted) (sym is) (refl, old)
  next m (Without_stopped call p gone start opened s db l) n one old
      (h, phase, after, is, left, clause, stop) =
      subst (λ (x : Now (Held S) H). AcceptOne x.accepted) (sym is)
      (left_one db _ m.accepted after left refl old)
  next m (Without_carrying call p gone start mid s k db l) n one old (h, phase, is, clause, stop) =
      subst (λ (x : Now (Held S) H). AcceptOne x.accepted) (sym is) (refl, old)

  pub alone : (events : List (Event (Held S) H)) (n : Now (Held S) H) → Runs g j all events n
      → AreAlone events → AcceptOne n.accepted
  alone [] n (db, h, away, w, s, is) none =
      subst (λ (x : Now (Held S) H). AcceptOne x.accepted) (sym is) tt
  alone (e ∷ older) n (m, runs, happens) (one, more) =
      next m e n one (alone older m runs more) happens
