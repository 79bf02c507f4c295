-- What is listed of the components that were looked at so far.
use Rattle.gm_looks.proofs.Common.{◌≡◌, ◌∙◌, ◌⊎◌, inl, inr, ⊎_elim, ℕ, zero, suc, ◌+◌, ◌<◌, ◌≤◌, true, refl, sym, ap, subst, arith, List, [], ◌∷◌, ◌++◌, length, take, get_or, Option, Some, take_more, take_all, same_label, Mirror, Component, IsOf, mirror_of, IsState, Records, name, provider, Has, Ascends, label_lt, find_one, same_from, member, Has-push, filter-Has}
use Rattle.gm_looks.proofs.Pushed.{has_left, has_last}

-- ---- one component

pub some_other : {X : Type 0} (o : Option X) (a b : X) → o ≡ Some a → o ≡ Some b → a ≡ b
some_other o a b e f = let both : Some a ≡ Some b = sym e ∙ f in cc

-- the mirror of a component is found by its name
pub home_found : (s : Records) → IsState s → (m : Mirror) (k : Component) → IsOf s m k
    → mirror_of s k.mirror ≡ Some m
home_found s state m k o =
    subst (λ (t : List ℕ). mirror_of s t ≡ Some m) (sym (member s m.name k o.component).1)
    (find_one name s.mirrors state.mirrors_in_order m o.mirror)

-- a component is of one mirror
pub one_home : (s : Records) → IsState s → (m n : Mirror) (k : Component) → IsOf s m k → IsOf s n k
    → m ≡ n
one_home s state m n k o p =
    some_other (mirror_of s k.mirror) m n (home_found s state m k o) (home_found s state n k p)

-- it has a sector
pub some_sectors : (s : Records) → IsState s → (m : Mirror) (k : Component) → IsOf s m k
    → 0 < k.sectors
some_sectors s state m k o = let room = (state.each m o.mirror).sizes k o.component in
    omega (arith, room)

-- ---- the components in their order

-- each component has its mirror
pub home_of : (s : Records) → IsState s → (k : Component) → Has s.components k
    → (m : Mirror) × IsOf s m k
home_of s state k h = let home = state.homes k h in (
  home.0,
  record {
    mirror = home.1;
    component = filter-Has (λ (c : Component). same_label c.mirror home.0.name) s.components k h
        (same_from k.mirror home.0.name (sym home.2));
  },
)

has_at : {X : Type 0} (xs : List X) (j : ℕ) (d : X) → j < length xs → Has xs (get_or xs j d)
has_at [] j d low = absurd (omega (arith, low))
has_at (x ∷ xs) zero d low = inl refl
has_at (x ∷ xs) (suc j) d low = inr (has_at xs j d (omega (arith, low)))

-- what stands at a place is one of them
pub has_item : {X : Type 0} (xs : List X) (i : ℕ) (x : X) → i < length xs → x ≡ get_or xs i x
    → Has xs x
has_item xs i x low is = subst (Has xs) (sym is) (has_at xs i x low)

ordered_before : {X : Type 0} (key : X → List ℕ) (xs : List X) (i : ℕ) (x : X) → Ascends key xs
    → i < length xs → x ≡ get_or xs i x → (y : X) → Has (take i xs) y
    → label_lt (key y) (key x) ≡ true
ordered_before key [] i x order low is y h = absurd (omega (arith, low))
ordered_before key (z ∷ zs) zero x order low is y h = absurd h
ordered_before key (z ∷ zs) (suc i) x order low is y (inl e) =
    subst (λ v. label_lt (key v) (key x) ≡ true) e
    (order.0 x (subst (Has zs) (sym is) (has_at zs i x (omega (arith, low)))))
ordered_before key (z ∷ zs) (suc i) x order low is y (inr h) =
    ordered_before key zs i x order.1 (omega (arith, low)) is y h

ascends_more : {X : Type 0} (key : X → List ℕ) (list : List X) (e : X) → Ascends key list
    → ((x : X) → Has list x → label_lt (key x) (key e) ≡ true) → Ascends key (list ++ e ∷ [])
ascends_more key [] e order before = (λ y none. absurd none, tt)
ascends_more key (x ∷ list) e order before = (
  λ y h. ⊎_elim (λ (was : Has list y). order.0 y was)
      (λ (same : e ≡ y). subst (λ v. label_lt (key x) (key v) ≡ true) same (before x (inl refl)))
      (Has-push list e y h),
  ascends_more key list e order.1 (λ y h. before y (inr h)),
)

-- ---- all of them

-- What was listed of the components that were looked at, whatever an entry is: it has a name, and
-- says of a component what is told. A component that has no entry is right.
module _ {X : Type 0} (key : X → List ℕ) (Told : Mirror → Component → X → Type 0)
    (Right : Mirror → Component → Type 0) where
  pub record SoFar (s : Records) (done : List Component) (list : List X) : Type 0 where
    pub told : (e : X) → Has list e → (m : Mirror) × (k : Component) × IsOf s m k
        × (k.provider ≡ key e) × Told m k e
    pub others : (m : Mirror) (k : Component) → IsOf s m k → Has done k
        → Right m k ⊎ ((e : X) × Has list e × (key e ≡ k.provider))
    pub among : (e : X) → Has list e → (k : Component) × Has done k × (k.provider ≡ key e)
    pub ascend : Ascends key list

  module _ (s : Records) (state : IsState s) (i : ℕ) (k : Component)
      (low : i < length s.components) (is : k ≡ get_or s.components i k) (list : List X)
      (so : SoFar s (take i s.components) list) where
    more : take (i + 1) s.components ≡ take i s.components ++ k ∷ []
    more = take_more s.components i k low ∙ ap (λ (x : Component). take i s.components ++ x ∷ [])
        (sym is)

    one_more : (j : Component) → Has (take (i + 1) s.components) j
        → Has (take i s.components) j ⊎ (k ≡ j)
    one_more j h =
        Has-push (take i s.components) k j (subst (λ (l : List Component). Has l j) more h)

    still : (j : Component) → Has (take i s.components) j → Has (take (i + 1) s.components) j
    still j h = subst (λ (l : List Component). Has l j) (sym more)
        (has_left (take i s.components) k j h)

    there : Has (take (i + 1) s.components) k
    there = subst (λ (l : List Component). Has l k) (sym more) (has_last (take i s.components) k)

    -- one that is right
    pub passed : ((m : Mirror) → IsOf s m k → Right m k)
        → SoFar s (take (i + 1) s.components) list
    passed right = record {
      told = so.told;
      others = λ m j o h. ⊎_elim (λ (was : Has (take i s.components) j). so.others m j o was)
          (λ (e : k ≡ j). inl (subst (λ (x : Component). Right m x) e
          (right m (subst (λ (x : Component). IsOf s m x) (sym e) o)))) (one_more j h);
      among = λ e h. let from = so.among e h in (from.0, still from.0 from.1, from.2);
      ascend = so.ascend;
    }

    -- one that isn't, with its entry
    pub listed : (m : Mirror) → IsOf s m k → (e : X) → key e ≡ k.provider → Told m k e
        → SoFar s (take (i + 1) s.components) (list ++ e ∷ [])
    listed m o e named tells = record {
      told = λ x h. ⊎_elim (λ (was : Has list x). so.told x was)
          (λ (same : e ≡ x). subst (λ (y : X). (n : Mirror) × (j : Component) × IsOf s n j
          × (j.provider ≡ key y) × Told n j y) same (m, k, o, sym named, tells))
          (Has-push list e x h);
      others = λ n j p h. ⊎_elim
          (λ (was : Has (take i s.components) j).
          ⊎_elim (λ (right : Right n j). inl right)
          (λ (l : (x : X) × Has list x × (key x ≡ j.provider)).
          inr (l.0, has_left list e l.0 l.1, l.2))
          (so.others n j p was))
          (λ (same : k ≡ j). inr (
            e,
            has_last list e,
            named ∙ ap (λ (x : Component). x.provider) same,
          )) (one_more j h);
      among = λ x h. ⊎_elim (λ (was : Has list x). let from = so.among x was in
          (from.0, still from.0 from.1, from.2))
          (λ (same : e ≡ x). (k, there, sym named ∙ ap key same))
          (Has-push list e x h);
      ascend = ascends_more key list e so.ascend (λ x h. let from = so.among x h in
          subst (λ (v : List ℕ). label_lt v (key e) ≡ true) from.2
          (subst (λ (v : List ℕ). label_lt from.0.provider v ≡ true) (sym named)
          (ordered_before provider s.components i k state.components_in_order low is from.0
          from.1)));
    }

  -- when all were looked at
  pub all_looked_at : (s : Records) (i : ℕ) (list : List X) → length s.components ≤ i
      → SoFar s (take i s.components) list → (m : Mirror) (k : Component) → IsOf s m k
      → Right m k ⊎ ((e : X) × Has list e × (key e ≡ k.provider))
  all_looked_at s i list high so m k o =
      let all : take i s.components ≡ s.components = take_all i s.components high in
      so.others m k o (subst (λ (l : List Component). Has l k) (sym all)
      (member s m.name k o.component).0)
