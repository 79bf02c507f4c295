-- What is told of a key, of a world that the tables hold.
use Rattle.gm_bench.proofs.Common.{◌≡◌, ◌∙◌, ◌<◌, ◌≤◌, ℕ, true, List, length, sym, subst₂, arith, Command, CommandFits, words_of, Has, Tables, HoldRecords, World, Answered, Sound, Reply, NoKey, KeyTaken, NoRoom, ByRules, CanAnswer, Calls, is_key, IsFree, count_of, FoundKey, TellsKey, TellsRoom}
use Rattle.gm_refusals.specs.declared.refusals.CallRefusal.{CallRefusal}
use Rattle.gm_rules.specs.AbstractCalls as run
use Rattle.gm_bench.specs.declared.found_key.FoundKey.TheVariants.{Free, Kept, Refused}
use Rattle.gm_bench.proofs.CallAnswers.{as_many, free_key, kept_answer, no_key, other_command, same_again, too_many}

-- what is told of the room is told of a key that is free
pub told_room : (key : List ℕ) (AreSuch : List ℕ → Type 0) (f : FoundKey) (t : Tables)
    → is_key key ≡ true → IsFree t key → TellsRoom f t → TellsKey key AreSuch f t
told_room key AreSuch (Kept n reply) t ok free room = absurd room
told_room key AreSuch (Refused NoKey) t ok free room = absurd room
told_room key AreSuch (Refused KeyTaken) t ok free room = absurd room
told_room key AreSuch (Refused NoRoom) t ok free room = (ok, free, room)
told_room key AreSuch (Refused (ByRules r)) t ok free room = absurd room
told_room key AreSuch Free t ok free room = (ok, free, room)

module _ (u : World) (t : Tables) (sound : Sound u) (holds : HoldRecords u t) (key : List ℕ)
    (c : Command) where
  -- the world has no room for one more command, or has it
  pub is_full : (is_key key ≡ true) × IsFree t key × (100000 ≤ count_of t)
      → ((a : Answered) → Has u.answered a → a.key ≡ key → ⊥) × (100000 ≤ length u.answered)
  is_full told =
      let many = as_many u t sound holds key c in
      let much = told.2 in
      (free_key u t sound holds key c told.1, omega (arith, many, much))

  pub has_room : (is_key key ≡ true) × IsFree t key × (count_of t < 100000)
      → ((a : Answered) → Has u.answered a → a.key ≡ key → ⊥) × (length u.answered < 100000)
  has_room told =
      let many = as_many u t sound holds key c in
      let few = told.2 in
      (free_key u t sound holds key c told.1, omega (arith, many, few))

  module _ (words : List ℕ) (words_are : words ≡ words_of c) where
    pub refused : (why : CallRefusal) → TellsKey key (λ w. w ≡ words) (Refused why) t
        → Calls u (record { key = key; command = c }) u (run.Refused why)
    refused NoKey bad = no_key u t sound holds key c bad
    refused KeyTaken told =
        let it = told.3 in
        let a = kept_answer u t sound holds key c told.1 it.0 told.2 it.1 in
        other_command u t sound holds key c told.0 a.0 a.1 a.2
        (λ e. it.2 (sym a.4 ∙ (e ∙ sym words_are)))
    refused NoRoom told =
        let full = is_full told in too_many u t sound holds key c told.0 full.0 full.1
    refused (ByRules r) told = absurd told

    module _ (fits : CommandFits c) where
      pub repeated : (n : ℕ) (reply : Reply) → TellsKey key (λ w. w ≡ words) (Kept n reply) t
          → Calls u (record { key = key; command = c }) u (run.Repeated n reply)
      repeated n reply told =
          let it = told.1 in
          let a = kept_answer u t sound holds key c n it.0 reply it.1 in
          subst₂ (λ (m : ℕ) r. Calls u (record { key = key; command = c }) u (run.Repeated m r)) a.3
          a.5 (same_again u t sound holds key c told.0 a.0 a.1 a.2 fits (a.4 ∙ (it.2 ∙ words_are)))

      pub can_answer : TellsKey key (λ w. w ≡ words) Free t → CanAnswer u key c
      can_answer told =
          let room = has_room told in
          record { key_ok = told.0; free = room.0; room = room.1; fits = fits }
