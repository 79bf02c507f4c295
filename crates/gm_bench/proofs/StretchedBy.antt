-- A change that goes on by the next stretches of its component, under further keys.
use Rattle.gm_bench.proofs.Common.{◌≡◌, ◌∙◌, ℕ, ◌+◌, ◌<◌, length, get_or, refl, sym, ap, ap₂, subst, List, [], ◌∷◌, ◌++◌, map, take, drop, append_assoc, append-nil, string_bytes, Has, put, put_there, Changed, changed_by, Records, IsState, Mirror, Component, provider, IsStretchedBy, PutsComponents, CanGoOn, further_keys, further_of, Sizes}
use Rattle.std.proofs.lemmas.List.{map-append, take-append-drop, take-map, take_more}
use Rattle.gm_lists.proofs.Finding.{found}
use Rattle.gm_lists.proofs.Mapped.{map_id, put-map}
use Rattle.gm_state.proofs.FoundRecords.{named}
use Rattle.gm_changes.specs.After.{advanced}
use Rattle.gm_changes.specs.declared.change.Further.{Further}
use Rattle.gm_changes.specs.Stretches.{IsUnfilled, stretched}
use Rattle.gm_rules.proofs.StretchedState.{put_over, stretched_state}

-- ---- one more stretch

-- a change that went on, and goes on once more
pub stretched_then : (m : Mirror) (ks : List (List ℕ)) (key : List ℕ) (a b : Changed)
    (k : Component) (f : Further) → IsStretchedBy m ks a b → IsUnfilled b k → further_of m k key f
    → IsStretchedBy m (ks ++ key ∷ []) a (stretched m k f b)
stretched_then m [] key a b k f is un of =
    (k, f, subst (λ (x : Changed). IsUnfilled x k) is un, of, ap (stretched m k f) is)
stretched_then m (j ∷ js) key a b k f is un of = (
  is.0,
  is.1,
  is.2,
  is.3,
  stretched_then m js key (stretched m is.0 is.1 a) b k f is.4 un of,
)

-- the keys are the change's further ones, after those that it had
pub stretched_keys : (m : Mirror) (ks : List (List ℕ)) (a b : Changed) → IsStretchedBy m ks a b
    → further_keys b ≡ further_keys a ++ ks
stretched_keys m [] a b is = ap further_keys is ∙ sym (append-nil (further_keys a))
stretched_keys m (key ∷ ks) a b is =
    let f : Further = is.1 in
    let here : further_keys (stretched m is.0 f a) ≡ further_keys a ++ key ∷ [] =
    map-append (λ (x : Further). string_bytes x.key) a.further (f ∷ [])
    ∙ ap (λ (x : List ℕ). further_keys a ++ x ∷ []) is.3.0 in
    stretched_keys m ks (stretched m is.0 f a) b is.4
    ∙ (ap (λ (l : List (List ℕ)). l ++ ks) here ∙ append_assoc (further_keys a) (key ∷ []) ks)

-- ---- the records that it leaves

-- The change puts a component of this mirror alone, and leaves of the records a state with the
-- mirror.
pub record StandsIn (s : Records) (m : Mirror) (ch : Changed) : Type 0 where
  pub puts : PutsComponents ch
  pub state : IsState (changed_by ch s)
  pub mirror : Has (changed_by ch s).mirrors m
  pub home : (k : Component) → ch.components ≡ k ∷ [] → k.mirror ≡ m.name

-- the component that a change puts alone is there then
pub component_there : (s : Records) (ch : Changed) (k : Component) → IsUnfilled ch k
    → Has (changed_by ch s).components k
component_there s ch k un = rw un.alone (put_there provider k _)

-- a stretch puts the component over what the change leaves
pub over : (s : Records) (ch : Changed) (m : Mirror) (k : Component) (f : Further)
    → PutsComponents ch → IsUnfilled ch k → changed_by (stretched m k f ch) s ≡ record {
      mirrors = (changed_by ch s).mirrors;
      components = put provider (advanced m k) (changed_by ch s).components;
    }
over s ch m k f puts un =
    let same : (changed_by ch s).mirrors ≡ s.mirrors =
    rw (puts.no_mirror, puts.no_gone_mirror) refl in
    put_over s ch m k f un puts.no_mirror puts.no_gone_mirror puts.none_gone
    ∙ ap (λ (ms : List Mirror). record {
      mirrors = ms;
      components = put provider (advanced m k) (changed_by ch s).components;
    }) (sym same)

-- a change that puts a component alone puts one alone after its next stretch
one_alone : (x y : Component) → x ∷ [] ≡ y ∷ [] → x ≡ y
one_alone x y e = cc

-- the records are a state after one more stretch
pub stands_once : (s : Records) (m : Mirror) (ch : Changed) (k : Component) (f : Further)
    → StandsIn s m ch → IsUnfilled ch k → StandsIn s m (stretched m k f ch)
stands_once s m ch k f it un = record {
  puts = record {
    no_mirror = it.puts.no_mirror;
    no_gone_mirror = it.puts.no_gone_mirror;
    none_gone = it.puts.none_gone;
  };
  state = subst IsState (sym (over s ch m k f it.puts un)) (stretched_state (changed_by ch s) m k un.forced
      un.held it.state it.mirror (component_there s ch k un) (it.home k un.alone) un.copying);
  mirror = it.mirror;
  home = λ j e. ap (λ (x : Component). x.mirror) (sym (one_alone (advanced m k) j e))
      ∙ it.home k un.alone;
}

-- they are a state after all stretches
pub stands_on : (s : Records) (m : Mirror) (ks : List (List ℕ)) (a b : Changed) → StandsIn s m a
    → IsStretchedBy m ks a b → StandsIn s m b
stands_on s m [] a b it is = subst (StandsIn s m) (sym is) it
stands_on s m (key ∷ ks) a b it is =
    stands_on s m ks (stretched m is.0 is.1 a) b (stands_once s m a is.0 is.1 it is.2) is.4

-- ---- the records that it begins with

module _ (size : Sizes) (part : Records) (ch : Changed) (m : Mirror)
    (can : CanGoOn size part ch m) where
  abbrev k : Component
  k = can.component

  there : Has part.components k
  there = (found (λ (j : Component). _) part.components k can.there).0

  -- the component is put where it stands
  put_same : put provider k part.components ≡ part.components
  put_same = put-map (λ (x : Component). x) provider part.components
      can.state.components_in_order k k there refl refl (λ y h d. refl)
      ∙ map_id (λ (x : Component). x) part.components (λ x h. refl)

  -- the change leaves the part that it made
  pub made_already : changed_by ch part ≡ part
  made_already = rw (
    can.puts.no_mirror,
    can.puts.no_gone_mirror,
    can.puts.none_gone,
    can.unfilled.alone,
    put_same,
  ) refl

  -- the mirror stands in the part
  pub mirror_there : Has part.mirrors m
  mirror_there = (named part m.name m can.mirror_is).0

  -- so the change goes on from a state
  pub begins : StandsIn part m ch
  begins = record {
    puts = can.puts;
    state = subst IsState (sym made_already) can.state;
    mirror = subst (λ (s : Records). Has s.mirrors m) (sym made_already) mirror_there;
    home = λ j e. ap (λ (x : Component). x.mirror)
        (one_alone j k (sym e ∙ can.unfilled.alone)) ∙ can.own;
  }

-- ---- the keys of a list, one after another

-- the first of them and one more
pub next_key : {X : Type 0} (f : X → List ℕ) (xs : List X) (i : ℕ) (x : X) → i < length xs
    → x ≡ get_or xs i x → take (i + 1) (map f xs) ≡ take i (map f xs) ++ f x ∷ []
next_key f xs i x l is =
    take-map f (i + 1) xs ∙ (ap (map f) (take_more xs i x l)
    ∙ (map-append f (take i xs) (get_or xs i x ∷ [])
    ∙ ap₂ (λ (ys : List (List ℕ)) (y : List ℕ). ys ++ y ∷ []) (sym (take-map f i xs))
    (sym (ap f is))))

-- the first of them and the others
pub split_map : {X : Type 0} (f : X → List ℕ) (n : ℕ) (xs : List X)
    → map f (take n xs) ++ map f (drop n xs) ≡ map f xs
split_map f n xs = sym (map-append f (take n xs) (drop n xs)) ∙ ap (map f) (take-append-drop n xs)
