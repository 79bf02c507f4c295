-- How an image stands, by what was found of it.
use Rattle.gm_looks.proofs.Common.{◌≡◌, List, ℕ, Some, None, subst, Image, Sizes, Mirror, Component, IsState, Records, member, IsOfCleared, IsOfComponent, IsOfNamed, without_zero, Standing}
use Rattle.gm_looks.proofs.ComponentFound.{found_pair, one_pair, pair_at, pair_none}

module _ (s : Records) (size : Sizes) (seen : Image) (p : List ℕ) (state : IsState s) where
  -- it stands as components do
  pub named_component : (n : Mirror) (j : Component) (standing : Standing)
      → pair_at s p ≡ Some (n, j) → IsOfComponent size seen n j standing
      → IsOfNamed s size seen p standing
  named_component n j standing e is =
      let one = found_pair s state p n j e in
      record {
        component = λ m k o at.
            let same : (n ≡ m) × (j ≡ k) = one_pair s state p n m j k e o at in
            subst (λ (c : Component). IsOfComponent size seen m c standing) same.1
            (subst (λ (b : Mirror). IsOfComponent size seen b j standing) same.0 is);
        stranger = λ none. absurd (none j (member s n.name j one.0.component).0 one.1);
      }

  -- if there is no component, it stands as a stranger does
  pub named_stranger : (found standing : Standing) → pair_at s p ≡ None
      → IsOfCleared s size seen p found → standing ≡ without_zero found
      → IsOfNamed s size seen p standing
  named_stranger found standing e is shown = record {
    component = λ m k o at.
        absurd (pair_none s state p e k (member s m.name k o.component).0 at);
    stranger = λ none. (found, is, shown);
  }
