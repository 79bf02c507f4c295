-- What is adopted: facts of the providers that are taken, and of what is registered of them.
use Rattle.gm_refusals.proofs.Common.{◌≡◌, ◌∙◌, ◌⊎◌, inl, inr, ⊎_elim, ℕ, ◌<◌, Bool, true, not, ◌&&◌, nat_lt, sym, ap, subst, List, [], ◌∷◌, length, map, Option, Some, None, Result, Ok, Err, ltb-true, refl, slice_index, ◌+◌, ◌*◌, ◌^◌, arith, drop, list_all, cases_Bool, and_parts, Metadata, Member, verdict, judged, own_name, own_size, taken_as, member, taken_by, takes_place, first_of_two, first_from, Has-filter_map, Component, Has, Ascends, provider, is_bytes, bytes_are, Seen, is_there_and, taken, taken_with, all_taken, genid_of, syncid_of, found, is_beside, first_where, source_in, data_of, is_whole, is_like, has_room, has_twice, is_adoptable, adopted_component, adopted, told, Has-map, decode_of, number_at}
use Rattle.gm_taste.specs.declared.tasted.Reason.{Reason}
use Rattle.gm_taste.specs.declared.groups.Taken.{Taken}
use Rattle.gm_lists.proofs.Sorting.{all_has}
use Rattle.gm_lists.proofs.PutTogether.{put_all_or}
use Rattle.gm_lists.proofs.PutInPlace.{Ascends-put_all}
use Rattle.gm_metadata.specs.declared.fault.DecodeFault.{DecodeFault}
use Rattle.gm_taste.specs.declared.provider.Provider.{Provider}
use Rattle.gm_taste.specs.declared.tasted.Reason.TheVariants.{OtherName, OtherSize}
use Rattle.std.proofs.lemmas.List.{get_or-drop}
use Rattle.gm_metadata.proofs.Read.{said_fields}

-- a provider that is taken: it is there, its last sector is bytes that decode, and it is taken
-- under its own name
pub record IsTaken (size : Option ℕ) (last : Option (List ℕ)) (p : List ℕ)
    (t : Taken) : Type 0 where
  pub sectors : ℕ
  pub sector : List ℕ
  pub size_is : size ≡ Some sectors
  pub last_is : last ≡ Some sector
  pub bytes : is_bytes sector ≡ true
  pub decodes : decode_of sector ≡ Ok t.metadata
  pub name : t.provider ≡ p

module _ (p : List ℕ) (t : Taken) where
  its_name : (r : Result Metadata Reason) → taken_as p r ≡ Some t
      → (t.provider ≡ p) × (r ≡ Ok t.metadata)
  its_name (Ok m) e = (cc, cc)
  its_name (Err reason) e = cc

  its_metadata : (q : Provider) (r : Result Metadata DecodeFault) (m : Metadata) → judged q r ≡ Ok m
      → r ≡ Ok m
  its_metadata q (Err fault) m e = cc
  its_metadata q (Ok n) m e = elim (cases_Bool (own_name q n)) [
    | inr a ↦ (let f : Err OtherName ≡ Ok m = rw a at e in cc)
    | inl a ↦ elim (cases_Bool (own_size q n)) [
      | inl b ↦ (let f : ◌≡◌ {A = Result Metadata Reason} (Ok n) (Ok m) = rw (a, b) at e in cc)
      | inr b ↦ (let f : Err OtherSize ≡ Ok m = rw (a, b) at e in cc)
    ]
  ]

  it_is : (n : Option ℕ) (last : Option (List ℕ)) → taken_with p n last ≡ Some t
      → IsTaken n last p t
  it_is None last e = cc
  it_is (Some n) None e = cc
  it_is (Some n) (Some sector) e = elim (cases_Bool (is_bytes sector)) [
    | inr off ↦ (let f : None ≡ Some t = rw off at e in cc)
    | inl on ↦
        let q : Provider = record { name = p; sectors = n; last = sector } in
        let f : taken_by q ≡ Some t = rw on at e in
        let r = its_name (verdict q) f in
        record {
          sectors = n;
          sector = sector;
          size_is = refl;
          last_is = refl;
          bytes = on;
          decodes = its_metadata q (decode_of sector) t.metadata r.1;
          name = r.0;
        }
  ]

pub is_taken : (x : Seen) (p : List ℕ) (t : Taken) → taken x p ≡ Some t
    → IsTaken (x.size p) (x.last p) p t
is_taken x p t e = it_is p t (x.size p) (x.last p) e

-- a provider is taken under its own name
pub taken_name : (x : Seen) (p : List ℕ) (t : Taken) → taken x p ≡ Some t → t.provider ≡ p
taken_name x p t e = (is_taken x p t e).name

-- ---- the numbers of metadata that were read of bytes fit their fields

pub record Fits (m : Metadata) : Type 0 where
  pub mid : m.mid < 2 ^ 32
  pub did : m.did < 2 ^ 32
  pub genid : m.genid < 2 ^ 32
  pub syncid : m.syncid < 2 ^ 32
  pub slice : m.slice < 2 ^ 32
  pub priority : m.priority < 2 ^ 8

four_bytes : (a b c d : ℕ) → a < 256 → b < 256 → c < 256 → d < 256
    → a + 256 * (b + 256 * (c + 256 * (d + 256 * 0))) < 2 ^ 32
four_bytes a b c d f g h i = omega (arith, f, g, h, i)

number_fits : (xs : List ℕ) → ((i : ℕ) → slice_index xs i < 256) → (at : ℕ)
    → number_at at 4 xs < 2 ^ 32
number_fits xs small at =
    let at_byte : (k : ℕ) → slice_index (drop at xs) k < 256 =
    λ k. rw get_or-drop (small (at + k)) in
    four_bytes _ _ _ _ (at_byte 0) (at_byte 1) (at_byte 2) (at_byte 3)

read_fits : (xs : List ℕ) (m : Metadata) → ((i : ℕ) → slice_index xs i < 256) → decode_of xs ≡ Ok m
    → Fits m
read_fits xs m small e =
    let is = (said_fields xs m e).1 in
    record {
      mid = subst (λ (k : ℕ). k < 2 ^ 32) (ap (λ (k : Metadata). k.mid) is)
          (number_fits xs small 36);
      did = subst (λ (k : ℕ). k < 2 ^ 32) (ap (λ (k : Metadata). k.did) is)
          (number_fits xs small 40);
      genid = subst (λ (k : ℕ). k < 2 ^ 32) (ap (λ (k : Metadata). k.genid) is)
          (number_fits xs small 45);
      syncid = subst (λ (k : ℕ). k < 2 ^ 32) (ap (λ (k : Metadata). k.syncid) is)
          (number_fits xs small 49);
      slice = subst (λ (k : ℕ). k < 2 ^ 32) (ap (λ (k : Metadata). k.slice) is)
          (number_fits xs small 54);
      priority = subst (λ (k : ℕ). k < 2 ^ 8) (ap (λ (k : Metadata). k.priority) is) (small 53);
    }

pub taken_fits : (x : Seen) (p : List ℕ) (t : Taken) → taken x p ≡ Some t → Fits t.metadata
taken_fits x p t e = let is = is_taken x p t e in
    read_fits is.sector t.metadata (bytes_are is.sector is.bytes) is.decodes

-- ---- what is taken was told

pub taken_told : (x : Seen) (p : List ℕ) (t : Taken) → taken x p ≡ Some t
    → told (x.last p) ≡ Some t.metadata
taken_told x p t e = let is = is_taken x p t e in rw (is.last_is, is.decodes) refl

-- ---- the members, and the source of them

-- each member is on one of the providers
pub found_among : (x : Seen) (ps : List (List ℕ)) (k : Member) → Has (found x ps) k
    → Has ps k.provider
found_among x ps k h =
    let r = Has-map (member (genid_of x ps) (syncid_of x ps)) (all_taken x ps) k h in
    let q = Has-filter_map (taken x) ps r.0 r.1 in
    let on : k.provider ≡ q.0 = sym (ap (λ (a : Member). a.provider) r.2)
    ∙ taken_name x q.0 r.0 q.2 in
    subst (λ (p : List ℕ). Has ps p) (sym on) q.1

-- the first of them is the one so far, or one of them
first_among : (known : Option Member) (ks : List Member) (b : Member) → first_from known ks ≡ Some b
    → (known ≡ Some b) ⊎ Has ks b
first_among known [] b e = inl e
first_among known (k ∷ ks) b e =
    ⊎_elim
    (λ (o : first_of_two known k ≡ Some b). elim (cases_Bool (takes_place known k)) [
      | inl t ↦ (let f : Some k ≡ Some b = rw t at o in let s : k ≡ b = cc in inr (inl s))
      | inr t ↦ (let f : known ≡ Some b = rw t at o in inl f)
    ])
    (λ (h : Has ks b). inr (inr h))
    (first_among (first_of_two known k) ks b e)

-- the source is the first of them
pub where_is : (x : Seen) (ps : List (List ℕ)) (o : Option Member) (b : Member)
    → first_where x ps o ≡ Some b → o ≡ Some b
where_is x ps None b e = e
where_is x ps (Some k) b e =
    elim (cases_Bool (list_all (is_beside x k.metadata) ps)) [
      | inl t ↦ (let f : Some k ≡ Some b = rw t at e in f)
      | inr t ↦ (let none : Option Member = None in let f : none ≡ Some b = rw t at e in
          absurd (let g : ⊥ = cc in g))
    ]

pub source_found : (x : Seen) (ps : List (List ℕ)) (b : Member) → source_in x ps ≡ Some b
    → Has (found x ps) b
source_found x ps b e =
    ⊎_elim
    (λ (o : None ≡ Some b). absurd (let f : ⊥ = cc in f))
    (λ (h : Has (found x ps) b). h)
    (first_among None (found x ps) b (where_is x ps (first_from None (found x ps)) b e))

-- ---- what is adoptable

-- a test that is passed there is passed by what is there
pub passes_there : {X : Type 0} (o : Option X) (test : X → Bool) → is_there_and o test ≡ true
    → (x : X) × (o ≡ Some x) × (test x ≡ true)
passes_there None test e = absurd (let f : ⊥ = cc in f)
passes_there (Some x) test e = (x, (let o : Some x ≡ Some x = cc in o), e)

-- what is asked of the source and of each provider
pub record Fitting (x : Seen) (n : List ℕ) (ps : List (List ℕ)) (b : Member) : Type 0 where
  pub source : source_in x ps ≡ Some b
  pub once : not (has_twice ps) ≡ true
  pub whole : is_whole b.metadata (length ps) ≡ true
  pub like : (p : List ℕ) → Has ps p → is_like x n b.metadata p ≡ true
  pub room : (p : List ℕ) → Has ps p → has_room x b.metadata p ≡ true

pub fitting : (x : Seen) (n : List ℕ) (ps : List (List ℕ)) → is_adoptable x n ps ≡ true
    → (b : Member) × Fitting x n ps b
fitting x n ps e =
    let parts = and_parts (not (has_twice ps)) _ e in
    let there = passes_there (source_in x ps) _ parts.1 in
    let b : Member = there.0 in
    let both = and_parts (is_whole b.metadata (length ps)) _ there.2 in
    let each : (p : List ℕ) → Has ps p → (is_like x n b.metadata p ≡ true)
    × (has_room x b.metadata p ≡ true)
    = λ p h. and_parts _ _ (all_has (λ q. is_like x n b.metadata q && has_room x b.metadata q) ps
    both.1 p h) in (
      b,
      record {
        source = there.1;
        once = parts.0;
        whole = both.0;
        like = λ p h. (each p h).0;
        room = λ p h. (each p h).1;
      },
    )

-- there is but one source
pub fitting_source : (x : Seen) (n : List ℕ) (ps : List (List ℕ)) → is_adoptable x n ps ≡ true
    → (b : Member) → source_in x ps ≡ Some b → Fitting x n ps b
fitting_source x n ps e b is =
    let f = fitting x n ps e in
    let s : Some f.0 ≡ Some b = sym f.1.source ∙ is in
    let same : f.0 ≡ b = cc in
    subst (λ (a : Member). Fitting x n ps a) same f.1

-- a provider has more sectors than the mirror has data
pub more_sectors : (x : Seen) (m : Metadata) (p : List ℕ) → has_room x m p ≡ true
    → (k : ℕ) × (x.size p ≡ Some k) × (data_of m < k)
more_sectors x m p e =
    let there = passes_there (x.size p) (λ k. nat_lt (data_of m) k) e in
    (there.0, there.1, ltb-true (data_of m) there.0 there.2)

-- ---- what is registered

module _ (x : Seen) (n : List ℕ) (ps : List (List ℕ)) (b : Member) where
  -- each component is one of a member
  pub adopted_from : (k : Component) → Has (adopted x n ps b) k
      → (a : Member) × Has (found x ps) a × (adopted_component x n b a ≡ k)
  adopted_from k h =
      ⊎_elim
      (λ (i : Has (map (adopted_component x n b) (found x ps)) k).
      Has-map (adopted_component x n b) (found x ps) k i)
      (λ (i : ⊥). absurd i)
      (put_all_or provider (map (adopted_component x n b) (found x ps)) [] k h)

  -- it is of the mirror, and on one of the providers
  pub adopted_mirror_is : (k : Component) → Has (adopted x n ps b) k → k.mirror ≡ n
  adopted_mirror_is k h = let a = adopted_from k h in sym (ap (λ (j : Component). j.mirror) a.2)

  pub adopted_on : (k : Component) → Has (adopted x n ps b) k → Has ps k.provider
  adopted_on k h =
      let a = adopted_from k h in
      subst (λ (p : List ℕ). Has ps p) (ap (λ (j : Component). j.provider) a.2)
      (found_among x ps a.0 a.1)

  -- they stand in order
  pub Ascends-adopted : Ascends provider (adopted x n ps b)
  Ascends-adopted = Ascends-put_all provider (map (adopted_component x n b) (found x ps)) [] tt
