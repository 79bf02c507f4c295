-- If providers are seen alike, they are adopted alike.
use Rattle.gm_refusals.proofs.Common.{◌≡◌, ◌∙◌, inl, inr, ℕ, ◌≤◌, ◌<◌, ◌/◌, ◌%◌, ◌||◌, ◌&&◌, ◌==◌, nat_lt, Bool, false, not, refl, ap, ap₂, List, [], ◌∷◌, length, map, Option, Some, None, unwrap_or, is_some, ltb-true, arith, if◌then◌else◌, filter_map, list_all, list_any, cons_option, cases_Bool, same_label, Metadata, Member, member, genid_in, syncid_in, first_from, Component, provider, Has, put_all, any_agree, Seen, is_there_and, told, tells_mid, tells_did, tells_did_twice, taken, taken_with, all_taken, found, is_beside, first_where, source_in, data_of, is_whole, is_like, has_room, has_twice, is_adoptable, is_borne_out, kept_offset, adopted_disk, adopted_syncid, adopted_component, adopted}
use Rattle.gm_taste.specs.declared.tasted.MemberState.{MemberState}
use Rattle.gm_taste.specs.declared.tasted.MemberState.TheVariants as tasted
use Rattle.gm_state.specs.declared.records.Disk.TheVariants.{InSync, Copying}
use Rattle.gm_refusals.proofs.TakenProviders.{found_among}

-- ---- lists whose elements are alike

module _ {X : Type 0} where
  all_agree : (p q : X → Bool) (xs : List X) → ((x : X) → Has xs x → p x ≡ q x)
      → list_all p xs ≡ list_all q xs
  all_agree p q [] h = refl
  all_agree p q (x ∷ xs) h =
      ap₂ (λ a b. a && b) (h x (inl refl)) (all_agree p q xs (λ y k. h y (inr k)))

  filter_map_agree : {Y : Type 0} (f g : X → Option Y) (xs : List X)
      → ((x : X) → Has xs x → f x ≡ g x) → filter_map f xs ≡ filter_map g xs
  filter_map_agree f g [] h = refl
  filter_map_agree f g (x ∷ xs) h =
      ap₂ cons_option (h x (inl refl)) (filter_map_agree f g xs (λ z k. h z (inr k)))

  map_agree : {Y : Type 0} (f g : X → Y) (xs : List X) → ((x : X) → Has xs x → f x ≡ g x)
      → map f xs ≡ map g xs
  map_agree f g [] h = refl
  map_agree f g (x ∷ xs) h =
      ap₂ (λ y ys. y ∷ ys) (h x (inl refl)) (map_agree f g xs (λ z k. h z (inr k)))

-- ---- what is seen alike of providers

-- the same is seen of each of them, but for what is equal
pub record SeeAlike (x y : Seen) (ps : List (List ℕ)) : Type 0 where
  pub size : (p : List ℕ) → Has ps p → x.size p ≡ y.size p
  pub last : (p : List ℕ) → Has ps p → x.last p ≡ y.last p

-- their last sectors tell the same
module _ (x y : Seen) where
  pub same_mid : (ps : List (List ℕ)) (mid : ℕ) → ((p : List ℕ) → Has ps p → x.last p ≡ y.last p)
      → list_any (tells_mid x mid) ps ≡ list_any (tells_mid y mid) ps
  same_mid ps mid h =
      any_agree (tells_mid x mid) (tells_mid y mid) ps
      (λ p k. ap (λ o. is_there_and (told o) (λ m. m.mid == mid)) (h p k))

  again : (ps : List (List ℕ)) → ((p : List ℕ) → Has ps p → x.last p ≡ y.last p)
      → (o : Option Metadata)
      → is_there_and o (λ m. list_any (tells_did x m.did) ps)
      ≡ is_there_and o (λ m. list_any (tells_did y m.did) ps)
  again ps h None = refl
  again ps h (Some m) =
      any_agree (tells_did x m.did) (tells_did y m.did) ps
      (λ p k. ap (λ o. is_there_and (told o) (λ d. d.did == m.did)) (h p k))

  pub same_twice : (ps : List (List ℕ)) → ((p : List ℕ) → Has ps p → x.last p ≡ y.last p)
      → tells_did_twice x ps ≡ tells_did_twice y ps
  same_twice [] h = refl
  same_twice (p ∷ ps) h =
      let rest : (q : List ℕ) → Has ps q → x.last q ≡ y.last q = λ q k. h q (inr k) in
      ap₂ (λ a b. a || b)
      (again ps rest (told (x.last p))
      ∙ ap (λ o. is_there_and (told o) (λ m. list_any (tells_did y m.did) ps)) (h p (inl refl)))
      (same_twice ps rest)

-- they are the same mirror
module _ (x y : Seen) (ps : List (List ℕ)) (s : SeeAlike x y ps) where
  same_taken : (p : List ℕ) → Has ps p → taken x p ≡ taken y p
  same_taken p h = ap₂ (taken_with p) (s.size p h) (s.last p h)

  same_all : all_taken x ps ≡ all_taken y ps
  same_all = filter_map_agree (taken x) (taken y) ps same_taken

  pub same_found : found x ps ≡ found y ps
  same_found = ap (λ ts. map (member (genid_in ts) (syncid_in (genid_in ts) ts)) ts) same_all

  same_where : (o : Option Member) → first_where x ps o ≡ first_where y ps o
  same_where None = refl
  same_where (Some b) =
      ap (λ t. if t then Some b else None)
      (all_agree (is_beside x b.metadata) (is_beside y b.metadata) ps
      (λ p h. ap (λ o. is_there_and o (λ t. same_label t.metadata.name b.metadata.name &&
      (t.metadata.mid == b.metadata.mid))) (same_taken p h)))

  pub same_source : source_in x ps ≡ source_in y ps
  same_source = same_where (first_from None (found x ps))
      ∙ ap (λ ks. first_where y ps (first_from None ks)) same_found

  same_like : (n : List ℕ) (m : Metadata) (p : List ℕ) → Has ps p
      → (is_like x n m p && has_room x m p) ≡ (is_like y n m p && has_room y m p)
  same_like n m p h =
      ap₂ (λ a b. a && b)
      (ap (λ o. is_there_and o (λ t. same_label t.metadata.name n &&
      (t.metadata.mid == m.mid && (t.metadata.genid == m.genid && t.metadata.mediasize
      == m.mediasize)))) (same_taken p h))
      (ap (λ o. is_there_and o (λ k. nat_lt (data_of m) k)) (s.size p h))

  same_fit : (n : List ℕ) (o : Option Member)
      → is_there_and o (λ b. is_whole b.metadata (length ps) && list_all
      (λ p. is_like x n b.metadata p && has_room x b.metadata p) ps)
      ≡ is_there_and o (λ b. is_whole b.metadata (length ps) && list_all
      (λ p. is_like y n b.metadata p && has_room y b.metadata p) ps)
  same_fit n None = refl
  same_fit n (Some b) =
      ap (λ t. is_whole b.metadata (length ps) && t) (all_agree _ _ ps (same_like n b.metadata))

  pub same_adoptable : (n : List ℕ) → is_adoptable x n ps ≡ is_adoptable y n ps
  same_adoptable n =
      ap (λ t. not (has_twice ps) && t)
      (same_fit n (source_in x ps)
      ∙ ap (λ o. is_there_and o (λ b. is_whole b.metadata (length ps) && list_all
      (λ p. is_like y n b.metadata p && has_room y b.metadata p) ps)) same_source)

  -- if as many sectors are equal, the same is registered
  module _ (n : List ℕ) (b : Member) (equal : (p : List ℕ) → Has ps p → (k : ℕ)
      → k ≤ data_of b.metadata → x.equal b.provider p k ≡ y.equal b.provider p k) where
    same_borne : (k : Member) → Has ps k.provider → is_borne_out x b k ≡ is_borne_out y b k
    same_borne k h =
        let told : Bool = k.metadata.syncid == b.metadata.syncid && k.metadata.sync_offset % 512
        == 0 in
        elim (cases_Bool (nat_lt k.metadata.sync_offset b.metadata.mediasize)) [
          | inl t ↦
              let below : k.metadata.sync_offset < b.metadata.mediasize =
              ltb-true k.metadata.sync_offset b.metadata.mediasize t in
              let within : k.metadata.sync_offset / 512 ≤ b.metadata.mediasize / 512 =
              omega arith in
              ap (λ e. told && (nat_lt k.metadata.sync_offset b.metadata.mediasize && e))
              (equal k.provider h (k.metadata.sync_offset / 512) within)
          | inr t ↦ rw t refl
        ]

    same_kept : (k : Member) → Has ps k.provider → kept_offset x b k ≡ kept_offset y b k
    same_kept k h = ap (λ t. if t then k.metadata.sync_offset / 512 else 0) (same_borne k h)

    same_disk : (k : Member) → Has ps k.provider → (at : MemberState)
        → adopted_disk x b k at ≡ adopted_disk y b k at
    same_disk k h tasted.Inactive = refl
    same_disk k h tasted.Active =
        ap (λ t. if t then InSync else Copying false 0)
        (equal k.provider h (data_of b.metadata) (omega arith))
    same_disk k h tasted.Broken = ap (Copying k.metadata.dflags.force_sync) (same_kept k h)
    same_disk k h (tasted.Stale offset) = ap (Copying k.metadata.dflags.force_sync) (same_kept k h)
    same_disk k h (tasted.Synchronizing offset) =
        ap (Copying k.metadata.dflags.force_sync) (same_kept k h)

    same_component : (k : Member) → Has ps k.provider
        → adopted_component x n b k ≡ adopted_component y n b k
    same_component k h =
        ap₂
        (λ d o. let r : Component = record {
          provider = k.provider;
          mirror = n;
          did = k.metadata.did;
          syncid = adopted_syncid b k k.state;
          priority = k.metadata.priority;
          disk = d;
          hardcoded = is_some k.metadata.provider;
          sectors = unwrap_or o 0;
        } in r)
        (same_disk k h k.state) (s.size k.provider h)

    pub same_adopted : adopted x n ps b ≡ adopted y n ps b
    same_adopted =
        ap (λ ks. put_all provider ks [])
        (map_agree (adopted_component x n b) (adopted_component y n b) (found x ps)
        (λ k h. same_component k (found_among x ps k h))
        ∙ ap (map (adopted_component y n b)) same_found)
