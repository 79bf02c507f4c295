-- The commit of an opening without a provider: the world that was left, or the step by the loss,
-- whatever image goes with it.
use Rattle.gm_bench.proofs.Common.{Further, with_command, with_further, ◌≡◌, ◌∙◌, inl, inr, ℕ, ◌+◌, ◌&&◌, true, false, List, [], ◌∷◌, map, length, None, Some, refl, sym, ap, subst, subst₂, arith, append-nil, if◌then◌else◌, IsSome, string_bytes, IsPermutation, cases_Bool, length-map, IsPermutation-refl, IsPermutation-cons, length_permutation, Ghosts, Held, Image, Sizes, same_label, IsLawful, Command, Lost, Intent, Reply, Mirror, Component, words_of, IsOf, names, is_place, mirror_of, Records, members, name, Tables, CommandRow, HoldRecords, answer_row, intent_rows, patch_rows, Has, World, Answered, present, some_there, find_one, found, not_both, provider_at, same_from, same_is, place_from, placed_by, member, reply_to, intents_of, Changed, Makes, changed_by, Plan, CanAnswer, HasPlan, answer, seen_of, every_plan, with_accepted, with_pending, command_row, settled, count_of, Call, HoldState, CrashLeavesOnly, DiskKept, HasTables, MayLeave, change_held, change_intents, change_commands, change_patches, whole, Leads, KeepsClaims, AllLead, Loss, writes_to, dropped, left_to_lay, pending_after, as_left, next_of, HasNext, IsFound, IsStepWithout, LeavesCommit, IsLost, IsNewLoss, loss_call}
use Rattle.gm_shelf.specs.declared.shelf.Shelf.{Ghosts as ShelfGhosts}
use Rattle.gm_bench.proofs.CallAnswers.{as_many as as_many_of}
use Rattle.gm_bench.proofs.Found.{lead}
use Rattle.gm_bench.proofs.LossSources.{has_next, next_told}
use Rattle.gm_bench.proofs.LossReadable.{IsLoss, home, loss_of}
use Rattle.gm_bench.proofs.LossRemaining.{names_none}
use Rattle.gm_bench.proofs.Losses.{leads_to_loss, keeps_in_loss}
use Rattle.gm_bench.proofs.RegistryLeaves.{leads_in}

-- what writes to p is taken out
taken_out : (p : List ℕ) (ts : List Intent) (t : Intent) → Has ts t → writes_to p t ≡ true
    → Has (dropped p ts) t
taken_out p [] t h e = absurd h
taken_out p (r ∷ rs) t (inl s) e = let w : writes_to p r ≡ true = ap (writes_to p) s ∙ e in
    rw w (inl s)
taken_out p (r ∷ rs) t (inr h) e =
    elim (cases_Bool (writes_to p r)) [
      | inl w ↦ rw w (inr (taken_out p rs t h e))
      | inr w
          ↦ rw w (taken_out p rs t h e)
    ]

-- a sector of p that none of those names is no place at all
no_place : (p : List ℕ) (size : Sizes) (ts : List Intent) (j : ℕ)
    → is_place size (dropped p ts) p j ≡ false → is_place size ts p j ≡ false
no_place p size ts j off =
    elim (cases_Bool (is_place size ts p j)) [
      | inr f ↦ f
      | inl e ↦
          let by = placed_by size ts p j e in
          elim (cases_Bool (writes_to p by.0)) [
            | inl w ↦ not_both (is_place size (dropped p ts) p j)
                (place_from size (dropped p ts) by.0 p j (taken_out p ts by.0 by.1 w) by.2) off
            | inr w ↦ not_both (names size by.0 p j) by.2 (names_none p p size by.0 j w)
          ]
    ]

-- the same is written if the lists and the words are the same
pub same_pending : (ch : Changed) {ts us : List Intent} {a b : List (List ℕ)} → ts ≡ us → a ≡ b
    → with_pending ch ts a ≡ with_pending ch us b
same_pending ch is laid = λ i. with_pending ch (is i) (laid i)

pub same_behind : (ch : Changed) (key : List ℕ) (t : Tables) {ts us : List Intent}
    {a b : List (List ℕ)} {l m : List ℕ} → ts ≡ us → a ≡ b → l ≡ m
    → with_accepted (with_pending ch ts a) key l t ≡ with_accepted (with_pending ch us b) key m t
same_behind ch key t is laid words =
    λ i. with_accepted (with_pending ch (is i) (laid i)) key (words i) t

-- the records of a commit, beside whatever was pending
module _ (w v : World) (key : List ℕ) (c : Command) (ch : Changed) (ts : List Intent) (t : Tables)
    (bytes : List (List ℕ)) (y : Image) (l : Leads t ts bytes y w)
    (makes : Makes w.state (seen_of w) c ch) (us : List Intent) (laid : List (List ℕ))
    (plan : Plan w key c us laid v) (all : List Intent) (left : List (List ℕ)) where
  abbrev change : Changed
  change = record ch { intents = all; bytes = left }

  abbrev after : Tables
  after = with_accepted change key (words_of c) (settled t)

  state_is : changed_by change w.state ≡ v.state
  state_is = makes.records ∙ sym plan.step.records

  as_many : length t.commands ≡ length w.answered
  as_many = length_permutation (map answer_row w.answered) t.commands l.records.commands
      ∙ length-map w.answered answer_row

  key_row : answer_row (answer w key c (reply_to c w.state))
      ≡ command_row key (length t.commands + 1) (words_of c) ch.reply
  key_row =
      ap (λ (k : ℕ). command_row key (k + 1) (words_of c) (reply_to c w.state)) (sym as_many)
      ∙ ap (λ (r : Reply). command_row key (length t.commands + 1) (words_of c) r) (sym makes.reply)

  held : HoldState v.state after
  held = subst (λ (s : Records). HoldState s after) state_is
      (change_held change key (words_of c) w.state (settled t) l.sound.state
      (record { mirrors = l.records.mirrors; components = l.records.components }))

  keys : IsPermutation (map answer_row v.answered) after.commands
  keys =
      subst (λ (rows : List CommandRow). IsPermutation (map answer_row v.answered) rows)
      (sym (change_commands change key (words_of c) (settled t)
      ∙ ap (λ (fs : List Further). (with_further fs (length t.commands + 2) (words_of c)
      (with_command (command_row key (length t.commands + 1) (words_of c) ch.reply)
      (settled t))).commands) makes.once))
      (subst (λ (a : List Answered). IsPermutation (map answer_row a)
      (command_row key (length t.commands + 1) (words_of c) ch.reply ∷ t.commands))
      (sym plan.step.answered)
      (subst (λ (r : CommandRow). IsPermutation (answer_row (answer w key c (reply_to c w.state))
      ∷ map answer_row w.answered) (r ∷ t.commands)) key_row
      (IsPermutation-cons (answer_row (answer w key c (reply_to c w.state)))
      (map answer_row w.answered) t.commands l.records.commands)))

  pub rows : HoldRecords v after
  rows = record { mirrors = held.mirrors; components = held.components; commands = keys }

  pub intents_are : IsPermutation (intent_rows 1 all) after.intents
  intents_are =
      let is : after.intents ≡ intent_rows 1 all =
      change_intents change key (words_of c) (settled t) ∙ append-nil (intent_rows 1 all) in
      subst (λ rows. IsPermutation (intent_rows 1 all) rows) (sym is)
      (IsPermutation-refl (intent_rows 1 all))

  pub patches_are : after.patches ≡ patch_rows left
  patches_are = change_patches change key (words_of c) (settled t) ∙ append-nil (patch_rows left)

module _ {S H : Type 0} (g : Ghosts S) (j : ShelfGhosts H) (r s : Held S) (h : H)
    (away : Image) (ts : List Intent) (bytes : List (List ℕ)) (u w : World)
    (lawful : IsLawful (j.view h))
    (at : IsFound g j r h away ts bytes u w) (key n p next : List ℕ)
    (m : Mirror) (found_is : mirror_of w.state n ≡ Some m)
    (here : (k : Component) × IsOf w.state m k × (k.provider ≡ p)) (gone : j.size h p ≡ None)
    (ch : Changed) (makes : Makes w.state (seen_of w) (Lost n (p ∷ [])) ch)
    (can : CanAnswer w key (Lost n (p ∷ []))) where
  abbrev pub c : Command
  c = Lost n (p ∷ [])

  abbrev pub y : Image → Image
  y x = whole (j.size h) away x

  pub leads_with : (x : Image) → (j.view h).may_leave x
      → Leads at.tables ts bytes (y x) w × KeepsClaims ts (y x) u w
  leads_with x left = at.leads x left

  abbrev pub first : Leads at.tables ts bytes (y (j.view h).seen) w
  first = (leads_with (j.view h).seen lawful.holds_now).0

  abbrev pub has_plan : HasPlan w key c
  has_plan = every_plan w key c first.sound can makes.good

  abbrev pub v : World
  v = has_plan.0

  abbrev pub us : List Intent
  us = intents_of c w.state v.state

  abbrev pub plan : Plan w key c us [] v
  plan = has_plan.1

  pub loss_is : IsLoss w v m p
  loss_is = loss_of w v key n p us m first.sound found_is plan

  abbrev pub world : World
  world = as_left v p away

  at_p : (x : Image) (i : ℕ) → y x p i ≡ away p i
  at_p x i = rw gone refl

  -- the world of the step, but for what p was left with
  pub stepped : IsStepWithout w (record { key = key; command = c }) p (dropped p ts) world
  stepped = record {
    stepped = v;
    reply = reply_to c w.state;
    step = plan.step;
    mirror = n;
    command = refl;
    state = refl;
    holds = refl;
    answered = refl;
    size = refl;
    shelf = λ q i off. elim (cases_Bool (same_label q p)) [
      | inr d ↦ rw d refl
      | inl e ↦ subst (λ (x : List ℕ). world.shelf x i ≡ v.shelf x i) (sym (same_is q p e))
          (kept i (subst (λ (x : List ℕ).
          (same_label p x && is_place w.size (dropped p ts) x i) ≡ false) (same_is q p e) off))
    ];
  }
    where
      kept : (i : ℕ) → (same_label p p && is_place w.size (dropped p ts) p i) ≡ false
          → world.shelf p i ≡ v.shelf p i
      kept i off =
          let none : is_place w.size (dropped p ts) p i ≡ false =
          rw (same_from p p refl) at off in
          let there : IsSome (w.size p) =
          subst (λ (q : List ℕ). IsSome (w.size q)) here.2
          (some_there (w.size here.0.provider) here.0.sectors
          (first.sound.sizes m here.0 here.1)) in
          let left : away p i ≡ w.shelf p i = sym (at_p (j.view h).seen i)
          ∙ first.redo.agrees p there i (no_place p w.size ts i none) in
          let stays : v.shelf p i ≡ w.shelf p i =
          loss_is.shelf p i (λ k h same _. (loss_is.components k (member v.state m.name k h).0).1
          same) in
          (let on : world.shelf p i ≡ away p i = rw (same_from p p refl) refl in
          on) ∙ (left ∙ sym stays)

  pub same_present : present world ≡ j.size h
  same_present =
      (λ i q. if plan.step.there q i then plan.step.sizes q i else None) ∙ at.sizes

  module _ (has_next : HasNext v.state p next ts) where
    abbrev pub all : List Intent
    all = pending_after p next ts (members v.state.components m.name)

    abbrev pub left : List (List ℕ)
    left = left_to_lay all bytes

    -- the tables of the commit: nothing of what was pending but what is written anew
    abbrev pub t : Tables
    t = with_accepted (record ch { intents = all; bytes = left }) key (words_of c)
        (settled at.tables)

    leads : AllLead t all left (j.size h) away (j.view h).may_leave u world
    leads x may =
        let l = leads_with x may in
        let rows_are : HoldRecords v t =
        rows w v key c ch ts at.tables bytes (y x) l.0 makes us [] plan all left in
        let intents : IsPermutation (intent_rows 1 all) t.intents =
        intents_are w v key c ch ts at.tables bytes (y x) l.0 makes us [] plan all left in
        let patches : t.patches ≡ patch_rows left =
        patches_are w v key c ch ts at.tables bytes (y x) l.0 makes us [] plan all left in (
          leads_to_loss u w v m p next loss_is ts bytes (y x) away
              (at_p x) at.tables l.0 has_next t rows_are intents patches,
          keeps_in_loss u w v m p next loss_is ts bytes (y x) away (at_p x) at.tables l.0 has_next
              l.1,
        )

    pub loss_leaves : CrashLeavesOnly g r at.tables → DiskKept g s → MayLeave g r s t
        → LeavesCommit g j r s h away u w (record { key = key; command = c }) p (dropped p ts)
    loss_leaves only clean may = record {
      within = leads_in g j r h away at.tables ts bytes u w only
          ((j.view h).left_since (j.view h).moment) (λ x l. at.leads x (lawful.only_now x l));
      end = λ db it. elim (may.crash clean db it) [
        | inl was ↦ inl (leads_in g j r h away at.tables ts bytes u w only
            (j.view h).may_leave at.leads db was)
        | inr is ↦ inr (
          world,
          stepped,
          same_present,
          record { tables = t; intents = all; bytes = left; stored = inl is; leads = leads },
        )
      ];
    }

    -- at its end those tables are found, with what is pending then
    pub loss_found : HasTables g s t → IsFound g j s h away all left u world
    loss_found has =
        record { tables = t; has = has; sizes = same_present; leads = leads }

-- of a loss that nothing refuses
module _ {S H : Type 0} (g : Ghosts S) (j : ShelfGhosts H) (r s : Held S) (h : H)
    (away : Image) (ts : List Intent) (bytes : List (List ℕ)) (u w : World)
    (lawful : IsLawful (j.view h))
    (at : IsFound g j r h away ts bytes u w) (key p : List ℕ) (loss : Loss)
    (new : IsNewLoss w ts bytes key p loss) where
  abbrev k : Component
  k = new.component

  began : Leads at.tables ts bytes (whole (j.size h) away (j.view h).seen) w
  began = lead g j r h away ts bytes u w at lawful

  at_home : (m : Mirror) × IsOf w.state m k
  at_home = home w.state began.sound.state k
      (found (λ (x : Component). same_label x.provider p) w.state.components k new.on).0

  abbrev m : Mirror
  m = at_home.0

  mine : k.mirror ≡ m.name
  mine = (member w.state m.name k at_home.1.component).1

  found_is : mirror_of w.state k.mirror ≡ Some m
  found_is = subst (λ (q : List ℕ). mirror_of w.state q ≡ Some m) (sym mine)
      (find_one name w.state.mirrors began.sound.state.mirrors_in_order m at_home.1.mirror)

  abbrev here : (x : Component) × IsOf w.state m x × (x.provider ≡ p)
  here = (k, at_home.1, provider_at w.state p k new.on)

  gone : j.size h p ≡ None
  gone = subst (λ (z : Sizes). z p ≡ None) at.sizes new.away

  abbrev stepped_to : World
  stepped_to = v g j r s h away ts bytes u w lawful at key k.mirror p new.next m found_is here gone
      loss.change new.makes new.can

  -- the records are those of the step
  after_is : loss.after ≡ stepped_to.state
  after_is = new.after ∙ (new.makes.records ∙ sym (plan g j r s h away ts bytes u w lawful at key
      k.mirror p new.next m found_is here gone loss.change new.makes new.can).step.records)

  serves_next : HasNext stepped_to.state p new.next ts
  serves_next = has_next w stepped_to m p new.next
      (loss_is g j r s h away ts bytes u w lawful at key k.mirror p new.next m found_is here gone
      loss.change new.makes new.can) began.sound ts bytes began.readable
      (λ t a b stands. next_told stepped_to.state p new.next ts began.readable.one_copy
      (subst (λ (x : Records). next_of x p ts ≡ Some new.next) after_is new.next_is) t a b stands)

  abbrev behind : Tables
  behind = with_accepted (with_pending loss.change loss.intents.items loss.bytes.items) key
      (string_bytes loss.words) (settled at.tables)

  abbrev now : Tables
  now = t g j r s h away ts bytes u w lawful at key k.mirror p new.next m found_is here gone
      loss.change new.makes new.can serves_next

  abbrev all_behind : List Intent
  all_behind = pending_after p new.next ts (members stepped_to.state.components m.name)

  all_is : loss.intents.items ≡ all_behind
  all_is = new.intents ∙ (ap (λ (x : Records). pending_after p new.next ts
      (members x.components k.mirror)) after_is
      ∙ ap (λ (q : List ℕ). pending_after p new.next ts (members stepped_to.state.components q))
      mine)

  left_is : loss.bytes.items ≡ left_to_lay all_behind bytes
  left_is = new.to_lay ∙ ap (λ (is : List Intent). left_to_lay is bytes) all_is

  now_is : behind ≡ now
  now_is = (λ i. with_accepted (with_pending loss.change (all_is i) (left_is i)) key
      (string_bytes loss.words) (settled at.tables))
      ∙ ap (λ (l : List ℕ). with_accepted (with_pending loss.change all_behind
      (left_to_lay all_behind bytes)) key l (settled at.tables)) new.words

  call_is : record { key = key; command = Lost k.mirror (p ∷ []) } ≡ loss_call key loss.mirror p
  call_is = ap (λ (q : List ℕ). loss_call key q p) (sym new.mirror)

  pub commits : CrashLeavesOnly g r at.tables → DiskKept g s → MayLeave g r s behind
      → LeavesCommit g j r s h away u w (loss_call key loss.mirror p) p (dropped p ts)
  commits only clean may =
      subst (λ (c : Call). LeavesCommit g j r s h away u w c p (dropped p ts)) call_is
      (loss_leaves g j r s h away ts bytes u w lawful at key k.mirror p new.next m found_is here
      gone loss.change new.makes new.can serves_next only clean
      (subst (λ (x : Tables). MayLeave g r s x) now_is may))

  pub lost : HasTables g s behind → (n : ℕ) → n ≡ count_of at.tables + 1
      → IsLost g j s h away loss key p ts u w n
  unfolding stepped
  lost has n is = (
    world g j r s h away ts bytes u w lawful at key k.mirror p new.next m found_is here gone
        loss.change new.makes new.can,
    subst (λ (c : Call). IsStepWithout w c p (dropped p ts) (world g j r s h away ts bytes u w
        lawful at key k.mirror p new.next m found_is here gone loss.change new.makes new.can))
        call_is
        (stepped g j r s h away ts bytes u w lawful at key k.mirror p new.next m found_is here
        gone loss.change new.makes new.can),
    sym new.makes.reply,
    (let many = as_many_of w at.tables began.sound began.records key (Lost k.mirror (p ∷ [])) in
        omega (arith, is, many)),
    same_present g j r s h away ts bytes u w lawful at key k.mirror p new.next m found_is here gone
        loss.change new.makes new.can,
    after_is,
    subst₂ (λ (is : List Intent) (b : List (List ℕ)). IsFound g j s h away is b u
        (world g j r s h away ts bytes u w lawful at key k.mirror p new.next m found_is here
        gone loss.change new.makes new.can)) (sym all_is) (sym left_is)
        (loss_found g j r s h away ts bytes u w lawful at key k.mirror p new.next m found_is here
        gone loss.change new.makes new.can serves_next
        (subst (λ (x : Tables). HasTables g s x) now_is has)),
  )
