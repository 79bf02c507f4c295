-- What a call is answered, from what the registry and the rules say.
use Rattle.gm_bench.proofs.Common.{◌≡◌, ◌≢◌, ◌∙◌, ℕ, suc, ◌+◌, ◌<◌, ◌≤◌, ◌==◌, true, false, List, [], ◌∷◌, map, filter, length, refl, sym, ap, arith, true≢false, ne_eqb, length-map, IsPermutation-sym, length_permutation, Command, Reply, Plain, Copied, CommandFits, words_of, Has, Tables, CommandRow, HoldRecords, answer_row, copied_of, total_of, World, Answered, Sound, ReplyFits, is_key, same_from, filter-Has, map-Has, same_command, Has-map, Refusal, NoMirror, NameTaken, MidTaken, Absent, ProviderTaken, CarriesMetadata, TooSmall, NotMember, DidTaken, Full, TooManyMirrors, SomeLost, LastActive, AlreadyInactive, NotInactive, NoneLost, NotSynchronizing, LastSyncid, LastGenid, NothingGiven, NotAdoptable, WrongSize, NoMetadata, BeingFilled, BeyondEnd, number_of, number_of_call, NoKey, KeyTaken, NoRoom, ByRules, IsLeast, seen_of, Call, IsBadCall, Calls, Step, Bad, IsFree, is_under, reply_in, count_of}
use Rattle.gm_lists.proofs.Sorting.{Has-permutation}
use Rattle.gm_refusals.specs.declared.refusals.Refusal.TheVariants.{Inactive}
use Rattle.gm_refusals.specs.declared.refusals.CallRefusal.{CallRefusal}
use Rattle.gm_rules.specs.AbstractCalls.{Done, Repeated, Refused}
use Rattle.gm_registry.specs.Replies.{IsKept as IsKeptIn}

none_has : {X : Type 0} (xs : List X) (x : X) → xs ≡ [] → Has xs x → ⊥
none_has [] x e h = h
none_has (y ∷ ys) x e h = let no : ⊥ = cc in no

reply_back : (r : Reply) → ReplyFits r → reply_in (copied_of r) (total_of r) ≡ r
reply_back Plain f = refl
reply_back (Copied held total) f = let some : 0 < held = f.0 in
    let e : (held == 0) ≡ false = ne_eqb held 0 (λ z. omega (arith, z)) in rw e refl

pub at_least_five : (r : Refusal) → 5 ≤ number_of r
at_least_five NoMirror = omega arith
at_least_five NameTaken = omega arith
at_least_five MidTaken = omega arith
at_least_five Absent = omega arith
at_least_five ProviderTaken = omega arith
at_least_five CarriesMetadata = omega arith
at_least_five TooSmall = omega arith
at_least_five NotMember = omega arith
at_least_five DidTaken = omega arith
at_least_five Full = omega arith
at_least_five TooManyMirrors = omega arith
at_least_five SomeLost = omega arith
at_least_five LastActive = omega arith
at_least_five AlreadyInactive = omega arith
at_least_five NotInactive = omega arith
at_least_five NoneLost = omega arith
at_least_five Inactive = omega arith
at_least_five NotSynchronizing = omega arith
at_least_five LastSyncid = omega arith
at_least_five LastGenid = omega arith
at_least_five NothingGiven = omega arith
at_least_five NotAdoptable = omega arith
at_least_five WrongSize = omega arith
at_least_five NoMetadata = omega arith
at_least_five BeingFilled = omega arith
at_least_five BeyondEnd = omega arith

module _ (u : World) (t : Tables) (sound : Sound u) (holds : HoldRecords u t) (key : List ℕ)
    (c : Command) where
  abbrev call : Call
  call = record { key = key; command = c }

  pub as_many : count_of t ≡ length u.answered
  as_many = length_permutation (map answer_row u.answered) t.commands holds.commands
      ∙ length-map u.answered answer_row

  -- a key that is free in the tables is free in the world
  pub free_key : IsFree t key → (a : Answered) → Has u.answered a → a.key ≡ key → ⊥
  free_key free a h e =
      let stands : Has t.commands (answer_row a) =
      Has-permutation (map answer_row u.answered) t.commands (answer_row a) holds.commands
      (map-Has answer_row u.answered a h) in
      none_has (filter (is_under key) t.commands) (answer_row a) free
      (filter-Has (is_under key) t.commands (answer_row a) stands (same_from a.key key e))

  -- a row that is kept in the tables is that of an answer
  pub kept_answer : (number : ℕ) (words : List ℕ) (r : Reply) → IsKeptIn t key number words r
      → (a : Answered) × Has u.answered a × (a.key ≡ key) × (a.number ≡ number)
      × (words_of a.command ≡ words) × (a.reply ≡ r)
  kept_answer number words r k =
      let stands = Has-permutation t.commands (map answer_row u.answered) k.row
      (IsPermutation-sym _ _ holds.commands) k.has in
      let from = Has-map answer_row u.answered k.row stands in
      let a : Answered = from.0 in
      let is : answer_row a ≡ k.row = from.2 in (
        a,
        from.1,
        ap (λ (x : CommandRow). x.call_key) is ∙ k.key_is,
        ap (λ (x : CommandRow). x.seq) is ∙ k.number_is,
        ap (λ (x : CommandRow). x.words) is ∙ k.words_are,
        sym (reply_back a.reply (sound.answers.fit a from.1).reply)
            ∙ (ap (λ (x : CommandRow). reply_in x.copied x.of_total) is ∙ k.reply_is),
      )

  -- which refusals there are
  each_refusal : (P : ℕ → Type 0) → (is_key key ≡ false → P 2)
      → ((a : Answered) → Has u.answered a → a.key ≡ key → a.command ≢ c → P 3)
      → (100000 ≤ length u.answered → P 4)
      → ((r : Refusal) → Bad u c r → P (number_of r)) → (k : CallRefusal) → IsBadCall u call k
      → P (number_of_call k)
  each_refusal P two three four more NoKey h = two h
  each_refusal P two three four more KeyTaken h = three h.0 h.1 h.2 h.3
  each_refusal P two three four more NoRoom h = four h
  each_refusal P two three four more (ByRules r) h = more r h

  -- what hasn't the form of a key isn't one of those that were accepted
  pub no_key : is_key key ≡ false → Calls u call u (Refused NoKey)
  no_key bad = (
    refl,
    λ a k. true≢false (sym (sound.answers.fit a k.kept).key ∙ (ap is_key k.key ∙ bad)),
    record {
      applies = bad;
      least = each_refusal (λ k. 2 ≤ k) (λ f. omega arith) (λ b g s d. omega arith)
          (λ m. omega arith) (λ r b. omega (arith, at_least_five r));
    },
  )

  module _ (key_ok : is_key key ≡ true) where
    -- the key was accepted before
    pub same_again : (a : Answered) → Has u.answered a → a.key ≡ key → CommandFits c
        → words_of a.command ≡ words_of c → Calls u call u (Repeated a.number a.reply)
    same_again a h e fits words = (
      refl,
      a,
      record {
        kept = h;
        key = e;
        command = same_command a.command c (sound.answers.fit a h).command fits words;
      },
      refl,
      refl,
    )

    pub other_command : (a : Answered) → Has u.answered a → a.key ≡ key
        → words_of a.command ≢ words_of c → Calls u call u (Refused KeyTaken)
    other_command a h e other = (
      refl,
      λ b k. other (ap (λ (x : Answered). words_of x.command)
          (sound.answers.keys a b h k.kept (e ∙ sym k.key)) ∙ ap words_of k.command),
      record {
        applies = (a, h, e, λ s. other (ap words_of s));
        least = each_refusal (λ k. 3 ≤ k) (λ f. absurd (true≢false (sym key_ok ∙ f)))
            (λ b g s d. omega arith) (λ m. omega arith) (λ r b. omega (arith, at_least_five r));
      },
    )

    module _ (free : (a : Answered) → Has u.answered a → a.key ≡ key → ⊥) where
      pub too_many : 100000 ≤ length u.answered → Calls u call u (Refused NoRoom)
      too_many many = (
        refl,
        λ a k. free a k.kept k.key,
        record {
          applies = many;
          least = each_refusal (λ k. 4 ≤ k) (λ f. absurd (true≢false (sym key_ok ∙ f)))
              (λ b g s d. absurd (free b g s)) (λ m. omega arith)
              (λ r b. omega (arith, at_least_five r));
        },
      )

      module _ (room : length u.answered < 100000) where
        pub least : (r : Refusal) → IsLeast u.state (seen_of u) c r
            → Calls u call u (Refused (ByRules r))
        least r l = (
          refl,
          λ a k. free a k.kept k.key,
          record {
            applies = record { listed = l.listed; met = l.met };
            least = each_refusal (λ k. number_of r ≤ k) (λ f. absurd (true≢false (sym key_ok ∙ f)))
                (λ b g s d. absurd (free b g s)) (λ m. absurd (omega (arith, m, room)))
                (λ q b. l.least q b.listed b.met);
          },
        )

        pub stepped : (w : World) (r : Reply) (n : ℕ) → Step u key c w r → n ≡ count_of t + 1
            → Calls u call w (Done n r)
        stepped w r n step is = (
          λ a k. free a k.kept k.key,
          each_refusal (λ k. ⊥) (λ f. absurd (true≢false (sym key_ok ∙ f))) (λ b g s d. free b g s)
              (λ m. absurd (omega (arith, m, room))) (λ q b. step.good q b),
          (let long : length w.answered ≡ suc (length u.answered) = ap length step.answered in
              omega (arith, is, as_many, long)),
          step,
        )
