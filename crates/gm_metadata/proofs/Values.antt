-- Labels, balances and flags are read from what they are spelled as, and the other way round.
use Rattle.gm_metadata.proofs.Common.{◌≡◌, ◌≢◌, ◌∙◌, ◌<◌, ◌≤◌, ◌-◌, ◌==◌, ◌&&◌, ℕ, Bool, true, false, zero, suc, nat_lt, refl, sym, ap, ap₂, arith, List, [], ◌∷◌, ◌++◌, length, drop, replicate, IsTrue, true≢false, inl, inr, ◌⊎◌, Option, Some, None, if◌then◌else◌, length-append, IfSome, list_all, nat_tests, eqb_tells, length-replicate, drop-append_seam, balance_code, balance_in, mirror_bits, mirror_flags_in, disk_bits, disk_flags_in, is_label, is_label_byte, padded, name_in, name_len, is_provider_field, provider_in, HoldsLabel, provider_field, RoundRobin, Load, Split, Prefer, MirrorFlags, DiskFlags}
use Rattle.gm_metadata.specs.Labels.{is_label_field}
use Rattle.gm_metadata.specs.declared.balance.Balance.{Balance}
use Rattle.gm_metadata.specs.declared.balance.Balance.TheVariants as balances
use Rattle.gm_metadata.proofs.Labels.{label_parts, name_again, label_then_zeros, field_that_passes, all_zero, not_zero, both}

zeros_are_zero : (k : ℕ) → list_all (λ b. b == 0) (replicate k 0) ≡ true
zeros_are_zero zero = refl
zeros_are_zero (suc k) = zeros_are_zero k

-- the field of a label passes
pub label_field_passes : (name : List ℕ) → is_label name ≡ true
    → is_label_field (padded name) ≡ true
unfolding is_label_field
label_field_passes name h =
    let bytes = (label_parts name h).2 in
    let e : name_in (padded name) ≡ name = name_again name _ bytes in
    let len : name_len (padded name) ≡ length name = label_then_zeros name _ bytes in
    let rest : drop (name_len (padded name)) (padded name) ≡ replicate (16 - length name) 0 =
    rw len (drop-append_seam name (replicate (16 - length name) 0)) in
    ap₂ (λ a b. a && b) (ap is_label e ∙ h) (ap (list_all (λ b. b == 0)) rest
    ∙ zeros_are_zero (16 - length name))

pub label_field_names : (name : List ℕ) → is_label name ≡ true → name_in (padded name) ≡ name
label_field_names name h = name_again name _ (label_parts name h).2

pub length-padded : (name : List ℕ) → is_label name ≡ true → length (padded name) ≡ 16
length-padded name h =
    let p = label_parts name h in
    rw (length-append, length-replicate) (omega arith)

pub holds_label : (field : List ℕ) → length field ≡ 16 → is_label_field field ≡ true
    → HoldsLabel field
holds_label field n h =
    let f = field_that_passes field n h in
    (name_in field, f.label, sym f.padding)

pub passes_where_held : (field : List ℕ) → HoldsLabel field → is_label_field field ≡ true
passes_where_held field held = ap is_label_field held.2 ∙ label_field_passes held.0 held.1

-- a label's field isn't zeros
not_all_zero : (b : ℕ) (bs : List ℕ) (t : Bool) → (b == 0) ≡ t → is_label_byte b ≡ true
    → (t && list_all (λ b. b == 0) bs) ≡ false
not_all_zero b bs false e h = refl
not_all_zero b bs true e h = absurd (true≢false (sym (not_zero b true e h)))

label_not_zeros : (name : List ℕ) → is_label name ≡ true
    → list_all (λ b. b == 0) (padded name) ≡ false
label_not_zeros [] h = absurd (true≢false (sym h))
label_not_zeros (b ∷ bs) h =
    not_all_zero b (bs ++ replicate (16 - length (b ∷ bs)) 0) (b == 0) refl
    (both _ _ (label_parts (b ∷ bs) h).2).0

pub provider_passes : (p : Option (List ℕ)) → IfSome p (λ name. IsTrue (is_label name))
    → is_provider_field (provider_field p) ≡ true
provider_passes None ok = refl
provider_passes (Some name) ok = rw (label_not_zeros name ok) (label_field_passes name ok)

pub provider_read : (p : Option (List ℕ)) → IfSome p (λ name. IsTrue (is_label name))
    → provider_in (provider_field p) ≡ p
provider_read None ok = refl
provider_read (Some name) ok = rw (label_not_zeros name ok) (ap Some (label_field_names name ok))

pub length-provider_field : (p : Option (List ℕ)) → IfSome p (λ name. IsTrue (is_label name))
    → length (provider_field p) ≡ 16
length-provider_field None ok = refl
length-provider_field (Some name) ok = length-padded name ok

-- a field that passes is that of the provider in it
pub provider_spelled : (f : List ℕ) → length f ≡ 16 → is_provider_field f ≡ true
    → f ≡ provider_field (provider_in f)
provider_spelled f n h = sym (by_zeros (list_all (λ b. b == 0) f) refl h)
  where
    by_zeros : (t : Bool) → list_all (λ b. b == 0) f ≡ t
        → (if t then true else is_label_field f) ≡ true
        → provider_field (if t then None else Some (name_in f)) ≡ f
    by_zeros true e k = ap (λ i. replicate i 0) (sym n) ∙ sym (all_zero f e)
    by_zeros false e k = (field_that_passes f n k).padding

-- when a field is no provider's
pub no_provider : (f : List ℕ) → is_provider_field f ≡ false → (HoldsLabel f ⊎ (f ≡ replicate 16 0))
    → ⊥
no_provider f fails (inl held) = by_zeros (list_all (λ b. b == 0) f) fails
  where
    by_zeros : (t : Bool) → (if t then true else is_label_field f) ≡ false → ⊥
    by_zeros true k = true≢false k
    by_zeros false k = true≢false (sym (passes_where_held f held) ∙ k)
no_provider f fails (inr zeros) = true≢false (sym (ap is_provider_field zeros) ∙ fails)

pub some_provider : (f : List ℕ) → length f ≡ 16 → is_provider_field f ≡ true
    → HoldsLabel f ⊎ (f ≡ replicate 16 0)
some_provider f n passes = by_zeros (list_all (λ b. b == 0) f) refl passes
  where
    by_zeros : (t : Bool) → list_all (λ b. b == 0) f ≡ t
        → (if t then true else is_label_field f) ≡ true → HoldsLabel f ⊎ (f ≡ replicate 16 0)
    by_zeros true e k = inr (all_zero f e ∙ ap (λ i. replicate i 0) n)
    by_zeros false e k = inl (holds_label f n k)

-- a test that passes at each number below a bound
abbrev all_below : ℕ → (ℕ → Bool) → Bool
all_below zero test = true
all_below (suc k) test = test k && all_below k test

last_or_before : (n k : ℕ) → n < suc k → (n ≡ k) ⊎ (n < k)
last_or_before n k h =
    elim (eqb_tells n k) [
      | inl same ↦ inl same.1
      | inr other ↦ let apart : n ≢ k = other.1 in
          inr (omega arith)
    ]

below : (k n : ℕ) (test : ℕ → Bool) → all_below k test ≡ true → n < k → test n ≡ true
below zero n test all h = absurd (omega arith)
below (suc k) n test all h =
    elim (last_or_before n k h) [
      | inl same ↦ ap test same ∙ (both _ _ all).0
      | inr before
          ↦ below k n test (both _ _ all).1 before
    ]

same_number : (a b : ℕ) → (a == b) ≡ true → a ≡ b
same_number a b h = grind (arith, nat_tests)

pub balance_spelled : (n : ℕ) → n < 5 → balance_code (balance_in n) ≡ n
balance_spelled n h = same_number _ _ (below 5 n (λ k. balance_code (balance_in k) == k) refl h)

pub balance_read : (b : Balance) → balance_in (balance_code b) ≡ b
balance_read balances.None = refl
balance_read RoundRobin = refl
balance_read Load = refl
balance_read Split = refl
balance_read Prefer = refl

pub balance_passes : (b : Balance) → nat_lt (balance_code b) 5 ≡ true
balance_passes balances.None = refl
balance_passes RoundRobin = refl
balance_passes Load = refl
balance_passes Split = refl
balance_passes Prefer = refl

pub mirror_flags_spelled : (n : ℕ) → n < 4 → mirror_bits (mirror_flags_in n) ≡ n
mirror_flags_spelled n h =
    same_number _ _ (below 4 n (λ k. mirror_bits (mirror_flags_in k) == k) refl h)

pub disk_flags_spelled : (n : ℕ) → n < 16 → disk_bits (disk_flags_in n) ≡ n
disk_flags_spelled n h = same_number _ _ (below 16 n (λ k. disk_bits (disk_flags_in k) == k) refl h)

pub mirror_flags_read : (f : MirrorFlags) → mirror_flags_in (mirror_bits f) ≡ f
mirror_flags_read f = by_values f.no_autosync f.no_failsync
  where
    by_values : (a b : Bool)
        → mirror_flags_in (mirror_bits (record { no_autosync = a; no_failsync = b }))
        ≡ record { no_autosync = a; no_failsync = b }
    by_values false false = refl
    by_values false true = refl
    by_values true false = refl
    by_values true true = refl

pub disk_flags_read : (f : DiskFlags) → disk_flags_in (disk_bits f) ≡ f
disk_flags_read f = by_values f.dirty f.synchronizing f.force_sync f.inactive
  where
    by_values : (a b c d : Bool)
        → disk_flags_in (disk_bits (record {
          dirty = a;
          synchronizing = b;
          force_sync = c;
          inactive = d;
        })) ≡ record { dirty = a; synchronizing = b; force_sync = c; inactive = d }
    by_values false false false false = refl
    by_values false false false true = refl
    by_values false false true false = refl
    by_values false false true true = refl
    by_values false true false false = refl
    by_values false true false true = refl
    by_values false true true false = refl
    by_values false true true true = refl
    by_values true false false false = refl
    by_values true false false true = refl
    by_values true false true false = refl
    by_values true false true true = refl
    by_values true true false false = refl
    by_values true true false true = refl
    by_values true true true false = refl
    by_values true true true true = refl

bit_at_most : (b : Bool) (n : ℕ) → (if b then n else 0) ≤ n
bit_at_most true n = omega arith
bit_at_most false n = omega arith

pub disk_flags_pass : (f : DiskFlags) → disk_bits f < 16
disk_flags_pass f =
    let a = bit_at_most f.dirty 1 in
    let b = bit_at_most f.synchronizing 2 in
    let c = bit_at_most f.force_sync 4 in
    let d = bit_at_most f.inactive 8 in
    omega arith

pub mirror_flags_pass : (f : MirrorFlags) → mirror_bits f < 4
mirror_flags_pass f =
    let a = bit_at_most f.no_autosync 1 in
    let b = bit_at_most f.no_failsync 2 in
    omega arith
