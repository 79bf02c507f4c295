-- What was looked up is what the world says.
use Rattle.gm_bench.proofs.Common.{◌≡◌, ◌∙◌, ℕ, Bool, ◌-◌, ◌<◌, ◌≤◌, ◌==◌, min, arith, List, [], Option, Some, None, map, option_map, refl, sym, ap, subst, if◌then◌else◌, IsSome, le-min, Image, Sizes, zeros, Command, Adopt, Records, provider, Tables, Has, World, present, Has-append_left, Fact, data_of, source_in, awaited, looked_at, equals_in, seen_in, AreFacts, TellEqual, needed_by, seen_of, SeeAlike, same_source, reach_of, Compared, adopted_from, compared_with, IsItself, whole, Leads, last_of, AreEqual, IsHonestToAdopt, Tell}
use Rattle.gm_refusals.proofs.TakenProviders.{fitting_source, found_among, more_sectors, source_found}
use Rattle.gm_shelf.specs.declared.shelf.Shelf.{Ghosts as ShelfGhosts}
use Rattle.gm_rules.proofs.AdoptedEqual.{agree_itself}
use Rattle.gm_bench.proofs.ShelfProviders.{masked, there_full, whole_there}
use Rattle.gm_bench.proofs.WorldAtRest.{at_rest}
use Rattle.gm_bench.proofs.FactsAreWorlds.{agree_same}

-- the last sector, by sectors that are the same
same_last : (o : Option ℕ) (x y : ℕ → List ℕ) → (IsSome o → (j : ℕ) → x j ≡ y j)
    → option_map (λ n. last_of n x) o ≡ option_map (λ n. last_of n y) o
same_last None x y same = refl
same_last (Some n) x y same = ap Some (by_test (n == 0) (same refl (n - 1)))
  where
    by_test : (b : Bool) → x (n - 1) ≡ y (n - 1)
        → (if b then zeros else x (n - 1)) ≡ (if b then zeros else y (n - 1))
    by_test b e = ap (λ v. if b then zeros else v) e

-- so many sectors as both have are compared
within : (size : Sizes) (p q : List ℕ) (a b d k : ℕ) → size p ≡ Some a → size q ≡ Some b → d < a
    → d < b → k ≤ d → k ≤ reach_of size p q d
within size p q a b d k first second below less low =
    let both : k ≤ min a b = le-min {a = a} {b = b} (omega (arith, low, below))
    (omega (arith, low, less)) in
    rw (first, second) (le-min {a = d} {b = min a b} low both)

module _ (t : Tables) (u : World) (size : Sizes) (away seen : Image) (sizes : present u ≡ size)
    (l : Leads t [] [] (whole size away seen) u) where
  seen_is : (q : List ℕ) → IsSome (size q) → (j : ℕ) → seen q j ≡ u.shelf q j
  seen_is q there j = sym (whole_there size away seen q there j)
      ∙ at_rest t (whole size away seen) u l q
      (there_full size u.size (masked u size sizes) q there) j

  -- what first says of images is what is seen of the world
  pub alike : (first : List Fact) (against : Option Compared) (ps : List (List ℕ))
      → ((q : List ℕ) → Has ps q → Tell first size seen against q)
      → SeeAlike (seen_in first) (seen_of u) ps
  alike first against ps tell = record {
    size = λ q h. (tell q h).size_is ∙ sym (ap (λ (z : Sizes). z q) sizes);
    last = λ q h. (tell q h).last_is ∙ (same_last (size q) (seen q) (u.shelf q) (seen_is q)
        ∙ sym (ap (λ (z : Sizes). option_map (λ n. last_of n (u.shelf q)) (z q)) sizes));
  }

  there : (q : List ℕ) (n : ℕ) → size q ≡ Some n → (j : ℕ) → seen q j ≡ u.shelf q j
  there q n is = seen_is q (rw is refl)

  -- equal sectors of the source that was found are those of the source in the world
  tells_equal : (facts first : List Fact) (c : Command) (against : Option Compared)
      → against ≡ option_map compared_with (source_in (seen_in first) (adopted_from c))
      → ((q : List ℕ) → Has (adopted_from c) q → Tell first size seen None q)
      → ((q : List ℕ) → Has (looked_at c) q → Tell facts size seen against q)
      → TellEqual facts u c
  tells_equal facts first (Adopt n ps) against is before tell = λ adoptable b from p h k low.
      let same = alike first None ps before in
      let with : against ≡ Some (compared_with b) =
      is ∙ ap (option_map compared_with) (same_source (seen_in first) (seen_of u) ps same
      ∙ from) in
      let fit = fitting_source (seen_of u) n ps adoptable b from in
      let own : Has ps b.provider =
      found_among (seen_of u) ps b (source_found (seen_of u) ps b from) in
      let mine = more_sectors (seen_of u) b.metadata b.provider (fit.room b.provider own) in
      let its = more_sectors (seen_of u) b.metadata p (fit.room p h) in
      let first_size : size b.provider ≡ Some mine.0 =
      sym (ap (λ (z : Sizes). z b.provider) sizes) ∙ mine.1 in
      let second_size : size p ≡ Some its.0 = sym (ap (λ (z : Sizes). z p) sizes) ∙ its.1 in
      let counts : AreEqual size seen (Some (compared_with b)) p (equals_in facts p) =
      subst (λ (a : Option Compared). AreEqual size seen a p (equals_in facts p)) with
      (tell p h).equal_is in
      counts k (within size b.provider p mine.0 its.0 (data_of b.metadata) k first_size second_size
      mine.2 its.2 low)
      ∙ agree_same seen u.shelf b.provider p k
      (λ j l. (there b.provider mine.0 first_size j, there p its.0 second_size j))
  tells_equal facts first _ against is before tell = tt

  pub are_facts : (facts first : List Fact) (c : Command) (against : Option Compared)
      → against ≡ option_map compared_with (source_in (seen_in first) (adopted_from c))
      → ((q : List ℕ) → Has (adopted_from c) q → Tell first size seen None q)
      → ((q : List ℕ) → Has (needed_by u.state c) q → Tell facts size seen against q)
      → AreFacts facts u c
  are_facts facts first c against is before tell =
      let same = alike facts against (needed_by u.state c) tell in record {
        size = same.size;
        last = same.last;
        equal = tells_equal facts first c against is before
            (λ q h. tell q (Has-append_left (looked_at c) (map provider (awaited u.state c)) q h));
      }

-- an honest shelf serves for each command
pub honest_to_adopt : {H : Type 0} (h : ShelfGhosts H) (shelf : H) → h.honest shelf → (c : Command)
    → IsHonestToAdopt h shelf c
honest_to_adopt h shelf honest (Adopt n ps) = honest
honest_to_adopt h shelf honest _ = tt

-- the source of an adoption is equal to itself by what an honest shelf told
pub itself_told : {H : Type 0} (h : ShelfGhosts H) (shelf : H) (facts first : List Fact)
    (c : Command) (against : Option Compared) (part : Records) (size : Sizes) (seen : Image)
    → IsHonestToAdopt h shelf c
    → against ≡ option_map compared_with (source_in (seen_in first) (adopted_from c))
    → (h.honest shelf → (q : List ℕ) → Has (adopted_from c) q → Tell first size seen None q)
    → (h.honest shelf → (q : List ℕ) → Has (needed_by part c) q → Tell facts size seen against q)
    → IsItself (seen_in facts) c
itself_told h shelf facts first (Adopt n ps) against part size seen honest is before tell =
    λ fits b from.
    let needs : (p : List ℕ) → Has ps p → Tell facts size seen against p =
    λ p k. tell honest p (Has-append_left ps (map provider (awaited part (Adopt n ps))) p k) in
    let same : SeeAlike (seen_in facts) (seen_in first) ps = record {
      size = λ p k. (needs p k).size_is ∙ sym (before honest p k).size_is;
      last = λ p k. (needs p k).last_is ∙ sym (before honest p k).last_is;
    } in
    let with : against ≡ Some (compared_with b) =
    is ∙ ap (option_map compared_with)
    (sym (same_source (seen_in facts) (seen_in first) ps same) ∙ from) in
    let own : Has ps b.provider =
    found_among (seen_in facts) ps b (source_found (seen_in facts) ps b from) in
    let mine = more_sectors (seen_in facts) b.metadata b.provider
    ((fitting_source (seen_in facts) n ps fits b from).room b.provider own) in
    let its : size b.provider ≡ Some mine.0 = sym (needs b.provider own).size_is ∙ mine.1 in
    let counts : AreEqual size seen (Some (compared_with b)) b.provider
    (equals_in facts b.provider) =
    subst (λ (a : Option Compared). AreEqual size seen a b.provider (equals_in facts b.provider))
    with (needs b.provider own).equal_is in
    counts (data_of b.metadata) (within size b.provider b.provider mine.0 mine.0
    (data_of b.metadata) (data_of b.metadata) its its mine.2 mine.2 (omega arith))
    ∙ agree_itself seen b.provider (data_of b.metadata)
itself_told h shelf facts first _ against part size seen honest is before tell = tt
