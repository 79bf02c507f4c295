-- The world that a schedule starts in is sound, and without rows.
use Rattle.gm_bench.proofs.Common.{◌≡◌, List, [], length, map, sym, ap, subst, arith, IsPermutation, IsPermutation-refl, Sizes, Mirror, Component, IsState, name, provider, HoldRecords, mirror_row, component_row, answer_row, Has, Ascends, World, Answered, Sound, AreAnswers, AreNumbered, no_tables, IsNew}

no_mirror : (all : Sizes) (w : World) → IsNew all w → (m : Mirror) → Has w.state.mirrors m → ⊥
no_mirror all w new m h = subst (λ (ms : List Mirror). Has ms m) new.mirrors h

no_component : (all : Sizes) (w : World) → IsNew all w → (k : Component) → Has w.state.components k
    → ⊥
no_component all w new k h = subst (λ (ks : List Component). Has ks k) new.components h

no_answer : (all : Sizes) (w : World) → IsNew all w → (a : Answered) → Has w.answered a → ⊥
no_answer all w new a h = subst (λ (l : List Answered). Has l a) new.answered h

new_state : (all : Sizes) (w : World) → IsNew all w → IsState w.state
new_state all w new = record {
  mirrors_in_order = subst (λ (ms : List Mirror). Ascends name ms) (sym new.mirrors) tt;
  components_in_order =
      subst (λ (ks : List Component). Ascends provider ks) (sym new.components) tt;
  count = (let e : length w.state.mirrors ≡ 0 = ap length new.mirrors in omega (arith, e));
  each = λ m h. absurd (no_mirror all w new m h);
  mids = λ a b h k e. absurd (no_mirror all w new a h);
  homes = λ k h. absurd (no_component all w new k h);
}

new_answers : (all : Sizes) (w : World) → IsNew all w → AreAnswers w.answered
new_answers all w new = record {
  count = (let e : length w.answered ≡ 0 = ap length new.answered in omega (arith, e));
  fit = λ a h. absurd (no_answer all w new a h);
  numbers = subst AreNumbered (sym new.answered) tt;
  keys = λ a b h k e. absurd (no_answer all w new a h);
}

pub new_sound : (all : Sizes) (w : World) → IsNew all w → Sound w
new_sound all w new = record {
  state = new_state all w new;
  answers = new_answers all w new;
  sizes = λ m k o. absurd (no_mirror all w new m o.mirror);
  full = λ m k o. absurd (no_mirror all w new m o.mirror);
  whole = λ m k o. absurd (no_mirror all w new m o.mirror);
}

pub new_records : (all : Sizes) (w : World) → IsNew all w → HoldRecords w no_tables
new_records all w new = record {
  mirrors = subst (λ (ms : List Mirror). IsPermutation (map mirror_row ms) []) (sym new.mirrors)
      (IsPermutation-refl []);
  components = subst (λ (ks : List Component). IsPermutation (map component_row ks) [])
      (sym new.components) (IsPermutation-refl []);
  commands = subst (λ (l : List Answered). IsPermutation (map answer_row l) []) (sym new.answered)
      (IsPermutation-refl []);
}
