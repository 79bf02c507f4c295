-- What providers that agree hold, and what an adopted component is said to hold.
use Rattle.gm_rules.proofs.Common.{◌≡◌, ◌≢◌, inl, inr, ℕ, zero, suc, ◌<◌, ◌≤◌, ◌/◌, ◌%◌, ◌==◌, ◌&&◌, true, nat_lt, refl, sym, subst, arith, List, eqb-true, ltb-true, ltb-false, bytes_eq, cases_Bool, and_parts, and_from, Image, agree, Member, MemberState, Inactive, held_by, held_of, Seen, data_of, is_borne_out, kept_offset, adopted_disk, adopted_syncid}
use Rattle.std.proofs.lemmas.Slice.Eq.{bytes_eq-Decides}
use Rattle.gm_taste.specs.declared.tasted.MemberState.TheVariants as tasted

-- a provider agrees with itself
pub agree_itself : (x : Image) (p : List ℕ) (k : ℕ) → agree x p p k ≡ true
agree_itself x p zero = refl
agree_itself x p (suc k) =
    and_from (agree x p p k) (bytes_eq (x p k) (x p k)) (agree_itself x p k)
    ((bytes_eq-Decides (x p k) (x p k)).1 refl)

-- two that agree hold the same there
pub agree_holds : (x : Image) (p q : List ℕ) (k : ℕ) → agree x p q k ≡ true → (i : ℕ) → i < k
    → x q i ≡ x p i
agree_holds x p q zero e i l = absurd (omega arith)
agree_holds x p q (suc k) e i l =
    let both = and_parts (agree x p q k) (bytes_eq (x p k) (x q k)) e in
    elim (cases_Bool (nat_lt i k)) [
      | inl below ↦ agree_holds x p q k both.0 i (ltb-true i k below)
      | inr not_below ↦
          let above : k ≤ i = ltb-false i k not_below in
          let at : k ≡ i = omega arith in
          subst (λ (j : ℕ). x q j ≡ x p j) at (sym ((bytes_eq-Decides (x p k) (x q k)).0 both.1))
    ]

-- an offset of whole sectors below an end of whole sectors
whole_below : (a b : ℕ) → a % 512 ≡ 0 → b % 512 ≡ 0 → a < b → a / 512 < b / 512
whole_below a b e f l = omega (arith, e, f, l)

module _ (x : Seen) (b k : Member) where
  -- the offset that is kept ends before the data, and the data up to there are the source's
  pub kept_below : b.metadata.mediasize % 512 ≡ 0 → 0 < data_of b.metadata
      → kept_offset x b k < data_of b.metadata
  kept_below even some =
      elim (cases_Bool (is_borne_out x b k)) [
        | inr off ↦ rw off some
        | inl on ↦
            let parts = and_parts (k.metadata.syncid
            == b.metadata.syncid && k.metadata.sync_offset % 512 == 0) _ on in
            let first = and_parts (k.metadata.syncid == b.metadata.syncid)
            (k.metadata.sync_offset % 512 == 0) parts.0 in
            let second = and_parts (nat_lt k.metadata.sync_offset b.metadata.mediasize)
            (x.equal b.provider k.provider (k.metadata.sync_offset / 512)) parts.1 in
            rw on (whole_below k.metadata.sync_offset b.metadata.mediasize
            (eqb-true (k.metadata.sync_offset % 512) 0 first.1) even
            (ltb-true k.metadata.sync_offset b.metadata.mediasize second.0))
      ]

  kept_equal : (i : ℕ) → i < kept_offset x b k
      → x.equal b.provider k.provider (kept_offset x b k) ≡ true
  kept_equal i l =
      elim (cases_Bool (is_borne_out x b k)) [
        | inr off ↦ (let none : i < 0 = rw off at l in absurd (omega arith))
        | inl on ↦
            let parts = and_parts (k.metadata.syncid
            == b.metadata.syncid && k.metadata.sync_offset % 512 == 0) _ on in
            rw on ((and_parts (nat_lt k.metadata.sync_offset b.metadata.mediasize)
            (x.equal b.provider k.provider (k.metadata.sync_offset / 512)) parts.1).1)
      ]

  pub held_below : (s : MemberState) → b.metadata.mediasize % 512 ≡ 0 → 0 < data_of b.metadata
      → held_of (adopted_disk x b k s) < data_of b.metadata
  held_below tasted.Inactive even some = some
  held_below tasted.Active even some =
      elim (cases_Bool (x.equal b.provider k.provider (data_of b.metadata))) [
        | inl e
            ↦ rw e some
        | inr e ↦ rw e some
      ]
  held_below tasted.Broken even some = kept_below even some
  held_below (tasted.Stale offset) even some = kept_below even some
  held_below (tasted.Synchronizing offset) even some = kept_below even some

  -- what it is said to hold is the source's
  pub held_equal : (s : MemberState) (i : ℕ)
      → i < held_by (adopted_disk x b k s) (data_of b.metadata)
      → x.equal b.provider k.provider (held_by (adopted_disk x b k s) (data_of b.metadata)) ≡ true
  held_equal tasted.Inactive i l = absurd (omega arith)
  held_equal tasted.Active i l =
      elim (cases_Bool (x.equal b.provider k.provider (data_of b.metadata))) [
        | inl e ↦ rw e e
        | inr e ↦ (let none : i < 0 = rw e at l in absurd (omega arith))
      ]
  held_equal tasted.Broken i l = kept_equal i l
  held_equal (tasted.Stale offset) i l = kept_equal i l
  held_equal (tasted.Synchronizing offset) i l = kept_equal i l

  -- its syncid: the source's, but for an INACTIVE one
  pub syncid_within : (s : MemberState) → k.metadata.syncid ≤ b.metadata.syncid
      → adopted_syncid b k s ≤ b.metadata.syncid
  syncid_within tasted.Inactive l = l
  syncid_within tasted.Active l = omega arith
  syncid_within tasted.Broken l = omega arith
  syncid_within (tasted.Stale offset) l = omega arith
  syncid_within (tasted.Synchronizing offset) l = omega arith

  pub syncid_current : (s : MemberState) → adopted_disk x b k s ≢ Inactive
      → adopted_syncid b k s ≡ b.metadata.syncid
  syncid_current tasted.Inactive n = absurd (n refl)
  syncid_current tasted.Active n = refl
  syncid_current tasted.Broken n = refl
  syncid_current (tasted.Stale offset) n = refl
  syncid_current (tasted.Synchronizing offset) n = refl
