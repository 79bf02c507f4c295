-- Which entries name one first: those that hold the same, entry after entry.
use Rattle.std.proofs.Common.{◌≡◌, ◌∙◌, ◌⊎◌, inl, inr, ⊎_elim, ℕ, ◌+◌, ◌<◌, true, refl, sym, ap, subst, List, [], ◌∷◌, ◌++◌, get_or, length, take}
use Rattle.std.proofs.lemmas.List.{take_more}
use Rattle.gm_lists.specs.Ordered.{Has}
use Rattle.gm_lists.proofs.Lists.{Has-push}
use Rattle.gm_looks.proofs.Pushed.{has_left, has_last}
use Rattle.gm_unlike.specs.Unequals.{IsFirstLike, MayBeLike, differs}
use Rattle.gm_unlike.specs.declared.unequal.Unequal.{Unequal}

-- one that stands before the next place is there already, or is the one at the place
pub one_more : {X : Type 0} (xs : List X) (i : ℕ) (x : X) → i < length xs → x ≡ get_or xs i x
    → (y : X) → Has (take (i + 1) xs) y → Has (take i xs) y ⊎ (x ≡ y)
one_more {X} xs i x low is y h =
    let more : take (i + 1) xs ≡ take i xs ++ x ∷ [] =
    take_more xs i x low ∙ ap (λ (z : X). take i xs ++ z ∷ []) (sym is) in
    Has-push (take i xs) x y (subst (λ (l : List X). Has l y) more h)

-- the first that holds the same, if that is said in another way
pub first_again : (A B : List ℕ → List ℕ → Type 0) → ((p q : List ℕ) → A p q → B p q)
    → ((p q : List ℕ) → B p q → A p q) → (list : List Unequal) (new : Unequal) (p : List ℕ)
    → IsFirstLike A list new p → IsFirstLike B list new p
first_again A B up down list new p (inl k) = inl (
  k.0,
  k.1,
  k.2,
  up k.0.provider new.provider k.3,
  k.4,
)
first_again A B up down list new p (inr none) =
    inr (λ l has may same. none.0 l has may (down l.provider new.provider same), none.1)

-- what holds of each two of a list and of a new one holds of each two with it
pairs : {X : Type 0} (P : X → X → Type 0) (list : List X) (x : X)
    → ((e f : X) → Has list e → Has list f → P e f) → ((e : X) → Has list e → P e x)
    → ((f : X) → Has list f → P x f) → P x x → (e f : X) → Has (list ++ x ∷ []) e
    → Has (list ++ x ∷ []) f → P e f
pairs P list x old left right own e f in_e in_f =
    ⊎_elim
    (λ (a : Has list e). ⊎_elim (λ (b : Has list f). old e f a b)
    (λ (b : x ≡ f). subst (P e) b (left e a)) (Has-push list x f in_f))
    (λ (a : x ≡ e). subst (λ y. P y f) a
    (⊎_elim (λ (b : Has list f). right f b) (λ (b : x ≡ f). subst (P x) b own)
    (Has-push list x f in_f)))
    (Has-push list x e in_e)

-- whether two images of a mirror hold the same
module _ (Same : List ℕ → List ℕ → List ℕ → Type 0) where
  -- the entry names this one as the first that holds the same
  pub record IsFirstOf (e l : Unequal) : Type 0 where
    pub named : l.provider ≡ e.like
    pub itself : l.like ≡ l.provider
    pub mirror : l.mirror ≡ e.mirror
    pub flaw : l.flaw ≡ e.flaw
    pub holds : (l ≡ e) ⊎ Same e.mirror l.provider e.provider

  -- two of a mirror that hold the same name one
  abbrev pub NamesOne : Unequal → Unequal → Type 0
  NamesOne e f = e.mirror ≡ f.mirror → e.flaw ≡ f.flaw → differs e.flaw ≡ true
      → Same e.mirror e.provider f.provider → e.like ≡ f.like

  pub record AreGrouped (list : List Unequal) : Type 0 where
    pub first : (e : Unequal) → Has list e → (l : Unequal) × Has list l × IsFirstOf e l
    pub equal : (e f : Unequal) → Has list e → Has list f → NamesOne e f

  pub grouped_none : AreGrouped []
  grouped_none = record { first = λ e h. absurd h; equal = λ e f h. absurd h }

  -- that goes both ways, and on
  module _ (back : (m p q : List ℕ) → Same m p q → Same m q p)
      (on : (m p q r : List ℕ) → Same m p q → Same m q r → Same m p r)
      (list : List Unequal) (so : AreGrouped list) (new : Unequal) (p : List ℕ)
      (like : IsFirstLike (Same new.mirror) list new p) where
    abbrev pub added : Unequal
    added = record new { like = p }

    -- the first of one that holds the same as the new one holds the same too
    first_same : (e l : Unequal) → IsFirstOf e l → e.mirror ≡ new.mirror
        → Same e.mirror e.provider new.provider → Same new.mirror l.provider new.provider
    first_same e l is mirror same =
        subst (λ m. Same m l.provider new.provider) mirror
        (⊎_elim
        (λ (one : l ≡ e). subst (λ (x : Unequal). Same e.mirror x.provider new.provider) (sym one)
        same)
        (λ (holds : Same e.mirror l.provider e.provider).
        on e.mirror l.provider e.provider new.provider holds same) is.holds)

    -- one that holds the same as the new one names what the new one names
    joins : (e : Unequal) → Has list e → e.mirror ≡ new.mirror → e.flaw ≡ new.flaw
        → differs e.flaw ≡ true → Same e.mirror e.provider new.provider → e.like ≡ p
    joins e has mirror flaw differ same =
        let first = so.first e has in
        let l = first.0 in
        let is = first.2 in
        let holds = first_same e l is mirror same in
        let may : MayBeLike l new = record {
          first = is.itself;
          mirror = is.mirror ∙ mirror;
          flaw = is.flaw ∙ flaw;
          differs = ap differs is.flaw ∙ differ;
        } in
        elim like [
          | inl k ↦
              let other = k.0 in
              let its = k.2 in
              let both : Same l.mirror l.provider other.provider =
              subst (λ m. Same m l.provider other.provider) (sym may.mirror)
              (on new.mirror l.provider new.provider other.provider holds
              (back new.mirror other.provider new.provider k.3)) in
              let one = so.equal l other first.1 k.1 (may.mirror ∙ sym its.mirror)
              (may.flaw ∙ sym its.flaw) may.differs both in
              sym is.named ∙ sym is.itself ∙ one ∙ its.first ∙ sym k.4
          | inr none ↦ absurd (none.0 l first.1 may holds)
        ]

    first_of_new : (l : Unequal) × Has (list ++ added ∷ []) l × IsFirstOf added l
    first_of_new =
        elim like [
          | inl k ↦ (
            k.0,
            has_left list added k.0 k.1,
            record {
              named = sym k.4;
              itself = k.2.first;
              mirror = k.2.mirror;
              flaw = k.2.flaw;
              holds = inr k.3;
            },
          )
          | inr none ↦ (
            added,
            has_last list added,
            record {
              named = sym none.1;
              itself = none.1;
              mirror = refl;
              flaw = refl;
              holds = inl refl;
            },
          )
        ]

    pub grouped_more : AreGrouped (list ++ added ∷ [])
    grouped_more = record {
      first = λ e has. ⊎_elim
          (λ (old : Has list e). let l = so.first e old in
          (l.0, has_left list added l.0 l.1, l.2))
          (λ (new_one : added ≡ e). subst (λ (x : Unequal). (l : Unequal)
          × Has (list ++ added ∷ []) l × IsFirstOf x l) new_one first_of_new)
          (Has-push list added e has);
      equal = pairs NamesOne list added so.equal
          (λ e has mirror flaw differ same. joins e has mirror flaw differ same)
          (λ f has mirror flaw differ same. sym (joins f has (sym mirror) (sym flaw)
          (ap differs (sym flaw) ∙ differ)
          (subst (λ m. Same m f.provider new.provider) mirror
          (back new.mirror new.provider f.provider same))))
          (λ mirror flaw differ same. refl);
    }
