-- What is found of the loss of a component, under a key that is free.
use Rattle.gm_bench.proofs.Common.{◌≡◌, ◌∙◌, ℕ, ◌<◌, ◌≤◌, IsTrue, true, false, List, [], ◌∷◌, ◌++◌, length, Option, Some, None, refl, sym, ap, subst, subst₂, arith, true≢false, IsSome, IsSomeAnd, MatchOption, option_map, list_all, and_parts, Command, Lost, CommandFits, is_key, words_of, Has, Sizes, Intent, Component, component_of, Records, members, is_label, same_command, World, Answered, Sound, present, NoKey, KeyTaken, NoRoom, ByRules, Refusal, NotMember, IsLeast, number_of, seen_of, after, metas, Changed, Makes, changed_by, Bad, Judged, Kept, Refused, New, LossRefusal, ByCall, OnlySource, OnShelf, next_of, remaining, AreOfLoss, IsBadLoss, IsJudged, IsKeptLoss, IsRedirected, loss_of, number_of_loss, Reply, Tables, HoldRecords, TellsKey}
use Rattle.gm_refusals.specs.declared.refusals.CallRefusal.{CallRefusal}
use Rattle.gm_bench.specs.declared.found_key.FoundKey.TheVariants as found
use Rattle.gm_bench.proofs.CallAnswers.{at_least_five, kept_answer}
use Rattle.gm_bench.proofs.JudgedByKey.{is_full}
use Rattle.gm_bench.proofs.LossRules.{listed_low}

none_is : (o : Option (List ℕ)) → o ≡ None → IsSome o → ⊥
none_is None e some = absurd (true≢false (sym some))
none_is (Some x) e some = absurd (let no : ⊥ = cc in no)

module _ (w : World) (sound : Sound w) (ts : List Intent) (bytes : List (List ℕ))
    (key p : List ℕ) where
  two_at_least : (q : LossRefusal) → 2 ≤ number_of_loss q
  two_at_least (ByCall NoKey) = omega arith
  two_at_least (ByCall KeyTaken) = omega arith
  two_at_least (ByCall NoRoom) = omega arith
  two_at_least (ByCall (ByRules r)) = omega (arith, at_least_five r)
  two_at_least OnlySource = omega arith
  two_at_least OnShelf = omega arith

  -- what hasn't the form of a key isn't one of those that were accepted
  pub no_key : is_key key ≡ false → IsJudged w ts bytes key p (Refused (ByCall NoKey))
  no_key bad = record {
    fresh = λ a kept.
        true≢false (sym (sound.answers.fit a kept.kept).key ∙ (ap is_key kept.key_is ∙ bad));
    applies = bad;
    least = λ q b. two_at_least q;
  }

  module _ (key_ok : is_key key ≡ true) where
    -- what may be told of a key that has the form of one
    with_key : (n : ℕ) → ((q : LossRefusal) → 3 ≤ number_of_loss q → n ≤ number_of_loss q)
        → (q : LossRefusal) → IsBadLoss w ts key p q → n ≤ number_of_loss q
    with_key n more (ByCall NoKey) b = absurd (true≢false (sym key_ok ∙ b))
    with_key n more (ByCall KeyTaken) b = more (ByCall KeyTaken) (omega arith)
    with_key n more (ByCall NoRoom) b = more (ByCall NoRoom) (omega arith)
    with_key n more (ByCall (ByRules r)) b =
        more (ByCall (ByRules r)) (omega (arith, at_least_five r))
    with_key n more OnlySource b = more OnlySource (omega arith)
    with_key n more OnShelf b = more OnShelf (omega arith)

    module _ (a : Answered) (stands : Has w.answered a) (same : a.key ≡ key) where
      abbrev fits : CommandFits a.command
      fits = (sound.answers.fit a stands).command

      pub kept_before : AreOfLoss p (words_of a.command)
          → IsJudged w ts bytes key p (Kept a.number a.reply)
      kept_before are = (
        a,
        record {
          kept = stands;
          key_is = same;
          mirror = are.mirror;
          command = same_command a.command (Lost are.mirror (p ∷ [])) fits (
            are.label,
            (let all : IsTrue (list_all is_label (p ∷ [])) = rw are.provider refl in
                all),
            omega arith,
          ) are.are;
        },
        refl,
        refl,
      )

      lost_of : (b : Answered) → IsKeptLoss w key p b → AreOfLoss p (words_of a.command)
      lost_of b kept =
          let one : a ≡ b = sound.answers.keys a b stands kept.kept (same ∙ sym kept.key_is) in
          let is : a.command ≡ Lost kept.mirror (p ∷ []) =
          ap (λ (x : Answered). x.command) one ∙ kept.command in
          let fit : CommandFits (Lost kept.mirror (p ∷ [])) = subst CommandFits is fits in
          record {
            mirror = kept.mirror;
            label = fit.0;
            provider = (and_parts (is_label p) true fit.1).0;
            are = ap words_of is;
          }

      pub key_taken : (AreOfLoss p (words_of a.command) → ⊥)
          → IsJudged w ts bytes key p (Refused (ByCall KeyTaken))
      key_taken other = record {
        fresh = λ b kept. other (lost_of b kept);
        applies = (a, stands, same, λ kept. other (lost_of a kept));
        least = with_key 3 (λ q low. low);
      }

    module _ (free : (a : Answered) → Has w.answered a → a.key ≡ key → ⊥) where
      -- what may be told of a free key
      with_free : (n : ℕ) → ((q : LossRefusal) → 4 ≤ number_of_loss q → n ≤ number_of_loss q)
          → (q : LossRefusal) → IsBadLoss w ts key p q → n ≤ number_of_loss q
      with_free n more (ByCall NoKey) b = absurd (true≢false (sym key_ok ∙ b))
      with_free n more (ByCall KeyTaken) b = absurd (free b.0 b.1 b.2)
      with_free n more (ByCall NoRoom) b = more (ByCall NoRoom) (omega arith)
      with_free n more (ByCall (ByRules r)) b =
          more (ByCall (ByRules r)) (omega (arith, at_least_five r))
      with_free n more OnlySource b = more OnlySource (omega arith)
      with_free n more OnShelf b = more OnShelf (omega arith)

      pub no_room : 100000 ≤ length w.answered → IsJudged w ts bytes key p (Refused (ByCall NoRoom))
      no_room many = record {
        fresh = λ a kept. free a kept.kept kept.key_is;
        applies = many;
        least = with_free 4 (λ q low. low);
      }

      module _ (room : length w.answered < 100000) (none : component_of w.state p ≡ None) where
        no_loss : loss_of w.state p ≡ None
        no_loss = ap (option_map (λ (j : Component). Lost j.mirror (p ∷ []))) none

        else_twelve : (q : LossRefusal) → IsBadLoss w ts key p q → 12 ≤ number_of_loss q
        else_twelve (ByCall NoKey) b = absurd (true≢false (sym key_ok ∙ b))
        else_twelve (ByCall KeyTaken) b = absurd (free b.0 b.1 b.2)
        else_twelve (ByCall NoRoom) b = absurd (omega (arith, b, room))
        else_twelve (ByCall (ByRules r)) b =
            let is : r ≡ NotMember =
            subst (λ (o : Option Command). MatchOption o (r ≡ NotMember) (λ c. Bad w c r)) no_loss
            b in
            omega (arith, ap number_of is)
        else_twelve OnlySource b = omega arith
        else_twelve OnShelf b = omega arith

        pub not_member : IsJudged w ts bytes key p (Refused (ByCall (ByRules NotMember)))
        not_member = record {
          fresh = λ a kept. free a kept.kept kept.key_is;
          applies = subst (λ (o : Option Command). MatchOption o (NotMember ≡ NotMember)
              (λ c. Bad w c NotMember)) (sym no_loss) refl;
          least = else_twelve;
        }

-- what a loss comes to that is refused by its key
module _ (w : World) (t : Tables) (sound : Sound w) (holds : HoldRecords w t) (ts : List Intent)
    (bytes : List (List ℕ)) (key p : List ℕ) where
  abbrev any : Command
  any = Lost [] []

  pub refused : (why : CallRefusal) → TellsKey key (AreOfLoss p) (found.Refused why) t
      → IsJudged w ts bytes key p (Refused (ByCall why))
  refused NoKey bad = no_key w sound ts bytes key p bad
  refused KeyTaken told =
      let it = told.3 in
      let a = kept_answer w t sound holds key any told.1 it.0 told.2 it.1 in
      key_taken w sound ts bytes key p told.0 a.0 a.1 a.2
      (λ are. it.2 (subst (AreOfLoss p) a.4 are))
  refused NoRoom told =
      let full = is_full w t sound holds key any told in
      no_room w sound ts bytes key p told.0 full.0 full.1
  refused (ByRules r) told = absurd told

  pub kept : (n : ℕ) (reply : Reply) → TellsKey key (AreOfLoss p) (found.Kept n reply) t
      → IsJudged w ts bytes key p (Kept n reply)
  kept n reply told =
      let it = told.1 in
      let a = kept_answer w t sound holds key any n it.0 reply it.1 in
      subst₂ (λ (m : ℕ) r. IsJudged w ts bytes key p (Kept m r)) a.3 a.5
      (kept_before w sound ts bytes key p told.0 a.0 a.1 a.2 (subst (AreOfLoss p) (sym a.4) it.2))

module _ (w : World) (ts : List Intent) (bytes : List (List ℕ)) (key p : List ℕ) (k : Component)
    (on : component_of w.state p ≡ Some k) (key_ok : is_key key ≡ true)
    (free : (a : Answered) → Has w.answered a → a.key ≡ key → ⊥)
    (room : length w.answered < 100000) where
  abbrev c : Command
  c = Lost k.mirror (p ∷ [])

  is_loss : loss_of w.state p ≡ Some c
  is_loss = ap (option_map (λ (j : Component). Lost j.mirror (p ∷ []))) on

  fresh : (a : Answered) → IsKeptLoss w key p a → ⊥
  fresh a kept = free a kept.kept kept.key_is

  -- which refusals there are
  each : (P : ℕ → Type 0) → ((q : Refusal) → Bad w c q → P (number_of q))
      → (IsBadLoss w ts key p OnlySource → P 27) → (IsBadLoss w ts key p OnShelf → P 32)
      → (q : LossRefusal) → IsBadLoss w ts key p q → P (number_of_loss q)
  each P rules only shelf (ByCall NoKey) b = absurd (true≢false (sym key_ok ∙ b))
  each P rules only shelf (ByCall KeyTaken) b = absurd (free b.0 b.1 b.2)
  each P rules only shelf (ByCall NoRoom) b = absurd (omega (arith, b, room))
  each P rules only shelf (ByCall (ByRules q)) b =
      rules q (subst (λ (o : Option Command). MatchOption o (q ≡ NotMember) (λ x. Bad w x q))
      is_loss b)
  each P rules only shelf OnlySource b = only b
  each P rules only shelf OnShelf b = shelf b

  pub rules_refuse : (r : Refusal) → IsLeast w.state (seen_of w) c r
      → IsJudged w ts bytes key p (Refused (ByCall (ByRules r)))
  rules_refuse r least =
      let low : number_of r ≤ 24 = listed_low k.mirror (p ∷ []) r least.listed in
      record {
        fresh = fresh;
        applies = subst (λ (o : Option Command). MatchOption o (r ≡ NotMember) (λ x. Bad w x r))
            (sym is_loss) (record { listed = least.listed; met = least.met });
        least = each (λ n. number_of r ≤ n) (λ q bad. least.least q bad.listed bad.met)
            (λ _. omega (arith, low)) (λ _. omega (arith, low));
      }

  module _ (size : Sizes) (there : present w ≡ size) (words : List ℕ) (ch : Changed)
      (makes : Makes w.state (seen_of w) c ch) (words_are : words ≡ words_of c)
      (fits : CommandFits c) where
    good : (q : Refusal) → Bad w c q → ⊥
    good q bad = true≢false (sym bad.met ∙ makes.good q bad.listed)

    -- the next source, by the records after the loss
    after_is : next_of (changed_by ch w.state) p ts ≡ next_of (after (seen_of w) c w.state) p ts
    after_is = ap (λ (s : Records). next_of s p ts) makes.records

    only_source : next_of (changed_by ch w.state) p ts ≡ None
        → IsJudged w ts bytes key p (Refused OnlySource)
    only_source none = record {
      fresh = fresh;
      applies = subst (λ (o : Option Command). IsSomeAnd o (λ x.
          next_of (after (seen_of w) x w.state) p ts ≡ None)) (sym is_loss) (sym after_is ∙ none);
      least = each (λ n. 27 ≤ n) (λ q bad. absurd (good q bad)) (λ _. omega arith)
          (λ _. omega arith);
    }

    not_only : IsSome (next_of (changed_by ch w.state) p ts) → IsBadLoss w ts key p OnlySource → ⊥
    not_only some bad =
        let none : next_of (after (seen_of w) c w.state) p ts ≡ None =
        subst (λ (o : Option Command). IsSomeAnd o (λ x.
        next_of (after (seen_of w) x w.state) p ts ≡ None)) is_loss bad in
        none_is (next_of (changed_by ch w.state) p ts) (after_is ∙ none) some

    on_shelf : IsSome (next_of (changed_by ch w.state) p ts) → IsSome (size p)
        → IsJudged w ts bytes key p (Refused OnShelf)
    on_shelf some here = record {
      fresh = fresh;
      applies = subst (λ (z : Sizes). IsSome (z p)) (sym there) here;
      least = each (λ n. 32 ≤ n) (λ q bad. absurd (good q bad))
          (λ bad. absurd (not_only some bad)) (λ _. omega arith);
    }

    pub judged_by : (j : Judged) → IsRedirected w.state size ts bytes k.mirror p words ch j
        → IsJudged w ts bytes key p j
    judged_by (Kept n reply) none = absurd none
    judged_by (Refused (ByCall r)) none = absurd none
    judged_by (Refused OnlySource) none = only_source none
    judged_by (Refused OnShelf) here = on_shelf here.0 here.1
    judged_by (New loss) l =
        let written : ch.intents ≡ metas (members loss.after.components k.mirror) =
        makes.intents ∙ ap (λ (s : Records). metas (members s.components k.mirror))
        (sym makes.records ∙ sym l.after) in
        record {
          component = k;
          on = on;
          mirror = l.mirror;
          can = record { key_ok = key_ok; free = free; room = room; fits = fits };
          makes = subst (λ (x : Changed). Makes w.state (seen_of w) c x) (sym l.change) makes;
          after = l.after ∙ ap (λ (x : Changed). changed_by x w.state) (sym l.change);
          next = l.next;
          next_is = l.next_is;
          intents = l.intents ∙ ap (λ (more : List Intent). remaining p l.next ts ++ more) written;
          to_lay = l.to_lay;
          words = l.words_are ∙ words_are;
          away = (λ i. there i p) ∙ l.away;
        }
