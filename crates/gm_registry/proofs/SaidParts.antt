-- What rows say that are read for a command, whatever the tables hold.
use Rattle.gm_registry.proofs.Common.{◌≡◌, ◌∙◌, refl, inl, inr, ℕ, List, map, sym, subst, IsPermutation, IsPermutation-map, IsPermutation-sym, IsPermutation-trans, IsPermutation-flat_map, Ghosts, Held, state, Row, Trees, Component, Mirror, Records, IsStateOf, name, shown_places, component_shown, columns_at, numbered, nine, Mirrors, numbered_map, again_shown, shown_under, AreSaidFor, DiskKept, HaveRead, seen}
use Rattle.gm_commands.specs.declared.command.Command.{Command}
use Rattle.gm_registry.specs.Registry.{IsOurs}
use Rattle.gm_registry.specs.declared.components_by_key.Key.TheVariants.{Mirror as OfMirror}
use Rattle.gm_registry.proofs.ReadsInTurn.{carried}

-- rows that were shown, and the records that were read of them
pub said_by : {A : Type 0} (f : A → Row) (kept rows : List Row) (list : List A)
    → IsPermutation (map (columns_at (shown_places Mirrors)) kept) rows
    → map (columns_at nine) rows ≡ numbered (λ _ x. f x) 1 list
    → IsPermutation (map (columns_at (shown_places Mirrors)) kept) (map f list)
said_by f kept rows list shown is =
    subst (IsPermutation (map (columns_at (shown_places Mirrors)) kept))
    (is ∙ numbered_map f 1 list)
    (again_shown (columns_at nine) (columns_at (shown_places Mirrors)) (λ row. refl) kept rows
    shown)

-- what is seen after reads, or none, was there before them
pub some_carried : {S : Type 0} (g : Ghosts S) (a b : Held S) (P : Trees → Type 0) → HaveRead g a b
    → DiskKept g b → (IsOurs g b → P (seen g b)) → IsOurs g a → P (seen g a)
some_carried g a b P (inl same) clean now =
    subst (λ r. (IsOurs g r → P (seen g r)) → IsOurs g a → P (seen g a)) (sym same) (λ f. f) now
some_carried g a b P (inr first) clean now = carried (state g a) (state g b) P first clean now

-- the records of a state that they make
pub said_in_order : (db : Trees) (c : Command) (mids : List ℕ) (ms : List Mirror)
    (ks : List Component) (count : ℕ) (s : Records) → AreSaidFor db c mids ms ks count
    → IsStateOf ms ks s
    → AreSaidFor db c mids s.mirrors s.components count
said_in_order db c mids ms ks count s says of = record {
  mirrors = says.mirrors;
  named = says.named;
  mirrors_are = says.mirrors_are;
  named_are = says.named_are;
  asked_are = IsPermutation-trans _ _ _ says.asked_are of.mirrors_are;
  owned_are = IsPermutation-trans _ _ _ (IsPermutation-flat_map (shown_under db OfMirror)
      (map name s.mirrors) (map name ms)
      (IsPermutation-map name s.mirrors ms (IsPermutation-sym _ _ of.mirrors_are)))
      (IsPermutation-trans _ _ _ says.owned_are (IsPermutation-map component_shown _ _
      of.components_are));
  count_is = says.count_is;
}
