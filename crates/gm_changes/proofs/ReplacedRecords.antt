-- Records put in place of those of their names.
use Rattle.gm_changes.proofs.Common.{◌≡◌, ◌∙◌, ℕ, not, refl, sym, ap, List, ◌∷◌, Option, Some, None, drop, get_or, length, IfSome, IfNone, ◌+◌, ◌<◌, bytes_eq, drop_more, Mirror, Component, Ascends, put, put_all, Records, IsState, IsStateOf, name, provider, Ascends-without_all, Ascends-put_all, permuted_is, Ascends-put, Ascends-filter, Changed, changed_by, put_some, without_some}
use Rattle.std.proofs.lemmas.List.Sorted.{IsPermutation-refl}

-- one more of the list is put
pub put_more : (xs : List Component) (i : ℕ) (x : Component) (ys zs : List Component)
    → i < length xs → x ≡ get_or xs i x → zs ≡ put provider x ys
    → put_all provider (drop (i + 1) xs) zs ≡ put_all provider (drop i xs) ys
put_more xs i x ys zs h e is =
    ap (put_all provider (drop (i + 1) xs)) is
    ∙ sym (ap (λ l. put_all provider l ys) (drop_more xs i x h
    ∙ ap (λ z. z ∷ drop (i + 1) xs) (sym e)))

pub Ascends-without_some : (gone : Option (List ℕ)) (ms : List Mirror) → Ascends name ms
    → Ascends name (without_some gone ms)
Ascends-without_some None ms a = a
Ascends-without_some (Some n) ms a =
    Ascends-filter (λ (m : Mirror). not (bytes_eq m.name n)) name ms a

Ascends-put_some : (new : Option Mirror) (ms : List Mirror) → Ascends name ms
    → Ascends name (put_some new ms)
Ascends-put_some None ms a = a
Ascends-put_some (Some m) ms a = Ascends-put name m ms a

-- ---- the records that a change leaves stand in order, so they are a state or there is none

module _ (ch : Changed) (s : Records) (ms : List Mirror) (ks : List Component)
    (e : ms ≡ (changed_by ch s).mirrors) (f : ks ≡ (changed_by ch s).components) where
  the_state : IsState s → (r : Records) → IsStateOf ms ks r → r ≡ changed_by ch s
  the_state state r of =
      let a : Ascends name (changed_by ch s).mirrors =
      Ascends-put_some ch.mirror _
      (Ascends-without_some ch.gone_mirror s.mirrors state.mirrors_in_order) in
      let b : Ascends provider (changed_by ch s).components =
      Ascends-put_all provider ch.components _
      (Ascends-without_all provider ch.gone_components s.components
      state.components_in_order) in
      let left : ms ≡ r.mirrors = permuted_is name ms r.mirrors of.mirrors_are
      (rw e a) of.state.mirrors_in_order in
      let right : ks ≡ r.components =
      permuted_is provider ks r.components of.components_are
      (rw f b) of.state.components_in_order in
      let is : r ≡ record { mirrors = ms; components = ks } = rw (left, right) refl in
      is ∙ rw (e, f) refl

  no_state : ((r : Records) → IsStateOf ms ks r → ⊥) → IsState (changed_by ch s) → ⊥
  no_state none state = none (changed_by ch s) (record {
    state = state;
    mirrors_are = rw e (IsPermutation-refl (changed_by ch s).mirrors);
    components_are = rw f (IsPermutation-refl (changed_by ch s).components);
  })

  -- so of what is found out of them
  pub some_state : IsState s → (o : Option Records) → IfSome o (λ r. IsStateOf ms ks r)
      → IfSome o (λ r. r ≡ changed_by ch s)
  some_state state None h = tt
  some_state state (Some r) h = the_state state r h

  pub none_state : (o : Option Records) → IfNone o ((r : Records) → IsStateOf ms ks r → ⊥)
      → IfNone o (IsState (changed_by ch s) → ⊥)
  none_state None h = no_state h
  none_state (Some r) h = tt
