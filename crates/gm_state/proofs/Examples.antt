-- The example is sound, and the others aren't.
use Rattle.gm_state.proofs.Common.{◌≡◌, ◌∙◌, ◌⊎◌, inl, inr, ⊎_elim, codes, Some, None, is_some, ℕ, ◌<◌, ◌-◌, ◌==◌, true, false, refl, sym, ap, subst, arith, List, [], ◌∷◌, length, true≢false, ne_eqb, IsPermutation-refl, length_permutation, SameThere, label_tells, encoded, Mirror, Component, Has, members, held_by, metadata, IsOf, Answered, AnswerFits, Sound, Below, present, AreRows, gm0, a_img, b_img, records, data_of_gm0, sector_of_a, sector_of_b, cleared, example, without_b, shown_without_b, resized, crowded, misnumbered, unmarked, lacking, overclaiming, example_tables, short_tables, pending_tables, apart}
use Rattle.gm_state.proofs.TestsTellRules.{is_state_tells, is_state_from}

-- what holds of a.img and b.img holds of each component
each : (P : Mirror → Component → Type 0) → P gm0 a_img → P gm0 b_img → (m : Mirror) (k : Component)
    → IsOf records m k → P m k
each P a b m k o = ⊎_elim (λ (e : gm0 ≡ m). at m e o.component) (λ (h : ⊥). absurd h) o.mirror
  where
    at : (m : Mirror) → gm0 ≡ m → Has (members records.components m.name) k → P m k
    at m e h = subst (λ (x : Mirror). Has (members records.components x.name) k → P x k) e
        (λ g. ⊎_elim (λ (f : a_img ≡ k). subst (λ (x : Component). P gm0 x) f a)
        (λ (r : (b_img ≡ k) ⊎ ⊥). ⊎_elim (λ (f : b_img ≡ k).
        subst (λ (x : Component). P gm0 x) f b) (λ (z : ⊥). absurd z) r) g) h

answers_fit : (a : Answered) → Has (cleared 1 ∷ []) a → AnswerFits a
answers_fit a h =
    ⊎_elim (λ (e : cleared 1 ≡ a). subst (λ (x : Answered). AnswerFits x) e
    (record { key = refl; command = refl; reply = tt })) (λ (z : ⊥). absurd z) h

answers_apart : (a b : Answered) → Has (cleared 1 ∷ []) a → Has (cleared 1 ∷ []) b → a.key ≡ b.key
    → a ≡ b
answers_apart a b h k e =
    ⊎_elim (λ (p : cleared 1 ≡ a). ⊎_elim (λ (q : cleared 1 ≡ b). sym p ∙ q)
    (λ (z : ⊥). absurd z) k) (λ (z : ⊥). absurd z) h

before : (i k : ℕ) → i < k → (i == k) ≡ false
before i k l = ne_eqb i k (λ (e : i ≡ k). omega arith)

whole_a : (i : ℕ) → i < 3 → sector_of_a i ≡ data_of_gm0 i
whole_a i l = rw (before i 3 l) refl

part_of_b : (i : ℕ) → i < 1 → sector_of_b i ≡ data_of_gm0 i
part_of_b i l = let e : i ≡ 0 = omega arith in rw e refl

pub example_sound : Sound example
example_sound = record {
  state = is_state_tells records refl;
  answers = record {
    count = omega arith;
    fit = answers_fit;
    numbers = (refl, tt);
    keys = answers_apart;
  };
  sizes = each (λ m k. example.size k.provider ≡ Some k.sectors) refl refl;
  full = each (λ m k. example.shelf k.provider (k.sectors - 1) ≡ encoded (metadata m k)) refl refl;
  whole = each (λ m k. Below example.shelf (example.holds m.name) k.provider
      (held_by k.disk m.data_sectors)) whole_a part_of_b;
}

pub crowded_not : Sound crowded → ⊥
crowded_not s = true≢false (sym (is_state_from crowded.state s.state))

pub misnumbered_not : Sound misnumbered → ⊥
misnumbered_not s = apart 2 1 refl s.answers.numbers.0

of_a : IsOf records gm0 a_img
of_a = record { mirror = inl refl; component = inl refl }

of_b : IsOf records gm0 b_img
of_b = record { mirror = inl refl; component = inr (inl refl) }

longer : (x : List ℕ) → 0 ∷ x ≡ x → ⊥
longer x e = let h : length (0 ∷ x) ≡ length x = ap length e in omega arith

pub unmarked_not : Sound unmarked → ⊥
unmarked_not s = longer (encoded (metadata gm0 b_img)) (s.full gm0 b_img of_b)

pub lacking_not : Sound lacking → ⊥
lacking_not s = apart 0 1 refl (ap length (s.whole gm0 a_img of_a 2 (omega arith)))

pub overclaiming_not : Sound overclaiming → ⊥
overclaiming_not s = apart 0 1 refl (ap length (s.whole gm0 b_img of_b 0 (omega arith)))

pub example_rows : AreRows example example_tables
example_rows = record {
  records = record {
    mirrors = IsPermutation-refl example_tables.mirrors;
    components = IsPermutation-refl example_tables.components;
    commands = IsPermutation-refl example_tables.commands;
  };
  intents = refl;
  patches = refl;
}

pub short_not : AreRows example short_tables → ⊥
short_not r = apart 1 2 refl (length_permutation _ _ r.records.components)

pub pending_not : AreRows example pending_tables → ⊥
pending_not r = apart 1 0 refl (ap length r.intents)

-- b.img goes away and comes back as it was
pub without_b_sound : Sound without_b
without_b_sound = record {
  state = example_sound.state;
  answers = example_sound.answers;
  sizes = example_sound.sizes;
  full = example_sound.full;
  whole = example_sound.whole;
}

pub without_b_hides : present without_b (codes "b.img") ≡ None
without_b_hides = refl

pub without_b_shows : SameThere (present without_b) shown_without_b without_b.shelf
without_b_shows p there i =
    elim (label_tells p (codes "a.img")) [
      | inl a ↦ rw a.0 refl
      | inr other ↦ elim (label_tells p (codes "b.img")) [
        | inl b ↦ (let h : is_some (present without_b p) ≡ false = rw b.0 refl in
            absurd (true≢false (sym there ∙ h)))
        | inr neither ↦ (let h : is_some (present without_b p) ≡ false = rw (
          neither.0,
          other.0,
        ) refl in absurd (true≢false (sym there ∙ h)))
      ]
    ]

pub without_b_returns : record without_b { there = λ p. true } ≡ example
without_b_returns = refl

pub resized_not : Sound resized → ⊥
resized_not s = apart 5 4 refl (let e : Some 5 ≡ Some 4 = s.sizes gm0 a_img of_a in cc)
