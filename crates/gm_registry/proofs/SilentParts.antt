-- Rows that say no records, and so no part.
use Rattle.gm_registry.proofs.Common.{◌≡◌, ◌∙◌, inl, inr, ℕ, ◌||◌, List, [], ◌∷◌, ◌++◌, map, filter, flat_map, refl, sym, ap, subst, All, IsPermutation, append_assoc, IsPermutation-map, IsPermutation-refl, IsPermutation-sym, IsPermutation-trans, list_any-IsPermutation, IsPermutation-filter, IsPermutation-flat_map, Row, Trees, Has, Has-append_left, Has-append_right, Has-permutation, same_label, providers_of, is_called, Component, Mirror, name, same_mirror, same_component, shown_places, mirror_shown, component_shown, columns_at, numbered, nine, Mirrors, unmapped, same_records, none_said, one_mirror, one_component, again_shown, shown_under, AreSaidFor, SayNone, is_asked_by, Provider}
use Rattle.gm_commands.specs.declared.command.Command.{Command}
use Rattle.gm_lists.proofs.Finding.{filter_agree}
use Rattle.gm_registry.specs.declared.components_by_key.Key.TheVariants.{Mirror as OfMirror}

-- ---- rows that say none

module _ {A : Type 0} (f : A → Row) (P : A → Type 0) where
  -- rows that were shown, of which no records were read
  pub none_by : (kept rows : List Row)
      → IsPermutation (map (columns_at (shown_places Mirrors)) kept) rows
      → ((list : List A) → All P list
      → map (columns_at nine) rows ≡ numbered (λ _ x. f x) 1 list → ⊥)
      → SayNone f P (map (columns_at (shown_places Mirrors)) kept)
  none_by kept rows shown none list each said =
      none_said f P rows none list each (IsPermutation-trans _ _ _ (IsPermutation-sym _ _ said)
      (again_shown (columns_at nine) (columns_at (shown_places Mirrors)) (λ row. refl) kept rows
      shown))

  -- the records of two lists of rows
  parted : (list : List A) (a b : List Row) → map f list ≡ a ++ b
      → (xs ys : List A) × (list ≡ xs ++ ys) × (map f xs ≡ a) × (map f ys ≡ b)
  parted list [] b e = ([], list, refl, refl, e)
  parted [] (r ∷ a) b e = absurd cc
  parted (x ∷ list) (r ∷ a) b e =
      let head : f x ≡ r = cc in
      let it = parted list a b cc in
      (x ∷ it.0, it.1, ap (λ l. x ∷ l) it.2, (λ i. head i ∷ it.3 i), it.4)

  -- rows among others
  none_among : (before rows behind : List Row) → SayNone f P rows
      → SayNone f P (before ++ (rows ++ behind))
  none_among before rows behind none list each said =
      let it = unmapped f list (before ++ (rows ++ behind)) (IsPermutation-sym _ _ said) in
      let first = parted it.0 before (rows ++ behind) it.2 in
      let then = parted first.1 rows behind first.4 in
      none then.0 (λ x has. each x (Has-permutation it.0 list x (IsPermutation-sym _ _ it.1)
      (subst (λ l. Has l x) (sym first.2) (Has-append_right first.0 first.1 x
      (subst (λ l. Has l x) (sym then.2) (Has-append_left then.0 then.1 x has))))))
      (subst (λ l. IsPermutation l (map f then.0)) then.3 (IsPermutation-refl (map f then.0)))

  module _ {X : Type 0} (of : X → List Row) where
    around : (labels : List X) (x : X) → Has labels x
        → (before behind : List Row) × (flat_map of labels ≡ before ++ (of x ++ behind))
    around [] x has = absurd has
    around (y ∷ more) x (inl same) =
        ([], flat_map of more, ap (λ z. of z ++ flat_map of more) same)
    around (y ∷ more) x (inr has) =
        let it = around more x has in (
          of y ++ it.0,
          it.1,
          ap (λ l. of y ++ l) it.2 ∙ sym (append_assoc (of y) it.0 (of x ++ it.1)),
        )

    -- those of one of several labels
    pub none_under : (labels : List X) (x : X) → Has labels x → SayNone f P (of x)
        → SayNone f P (flat_map of labels)
    none_under labels x has none =
        let it = around labels x has in
        subst (SayNone f P) (sym it.2) (none_among it.0 (of x) it.1 none)

-- ---- what the same rows say

module _ (db : Trees) (c : Command) (mids : List ℕ) (asked : List Mirror) (owned : List Component)
    (count : ℕ) (said : AreSaidFor db c mids asked owned count) where
  -- whatever list of the mirrors and of the named components was read
  pub asked_alike : (all : List Mirror) (named : List Component)
      → IsPermutation (map (columns_at (shown_places Mirrors)) (db 1)) (map mirror_shown all)
      → IsPermutation (flat_map (shown_under db Provider) (providers_of c))
      (map component_shown named)
      → IsPermutation (filter (is_asked_by c mids named) all) asked
  asked_alike all named all_are named_are =
      let mirrors : IsPermutation all said.mirrors =
      same_records mirror_shown (λ a b. one_mirror a b (same_mirror a b)) all said.mirrors
      (IsPermutation-trans _ _ _ (IsPermutation-sym _ _ all_are) said.mirrors_are) in
      let components : IsPermutation named said.named =
      same_records component_shown (λ a b. one_component a b (same_component a b)) named said.named
      (IsPermutation-trans _ _ _ (IsPermutation-sym _ _ named_are) said.named_are) in
      IsPermutation-trans _ _ _ (IsPermutation-filter (is_asked_by c mids named) all said.mirrors
      mirrors) (subst (λ l. IsPermutation l asked)
      (sym (filter_agree (is_asked_by c mids named) (is_asked_by c mids said.named) said.mirrors
      (λ m has. ap (λ b. is_called c mids m || b)
      (list_any-IsPermutation (λ (k : Component). same_label k.mirror m.name) named said.named
      components)))) said.asked_are)

  -- the rows under the names of those mirrors
  pub owned_alike : (ms : List Mirror) → IsPermutation ms asked
      → IsPermutation (flat_map (shown_under db OfMirror) (map name ms)) (map component_shown owned)
  owned_alike ms same =
      IsPermutation-trans _ _ _ (IsPermutation-flat_map (shown_under db OfMirror) (map name ms)
      (map name asked) (IsPermutation-map name ms asked same)) said.owned_are

  -- the records themselves
  pub same_part : (ms : List Mirror) (ks : List Component) (n : ℕ) → AreSaidFor db c mids ms ks n
      → IsPermutation ms asked × IsPermutation ks owned
  same_part ms ks n other =
      let mine = IsPermutation-trans _ _ _ (IsPermutation-sym _ _ other.asked_are)
      (asked_alike other.mirrors other.named other.mirrors_are other.named_are) in (
        mine,
        same_records component_shown (λ a b. one_component a b (same_component a b)) ks owned
            (IsPermutation-trans _ _ _ (IsPermutation-sym _ _ other.owned_are)
            (owned_alike ms mine)),
      )
