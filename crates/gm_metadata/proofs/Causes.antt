-- The fault of a sector is the first that stands in it.
use Rattle.gm_metadata.proofs.Common.{◌≡◌, ◌≢◌, ◌∙◌, ◌<◌, ◌≤◌, ◌+◌, ℕ, Bool, true, false, not, nat_lt, ◌==◌, refl, sym, ap, subst, arith, List, length, drop, slice_index, true≢false, inl, inr, lit≤, Option, Some, None, Result, Ok, Err, if◌then◌else◌, IfErr, length-take-le, length-drop, nat_tests, eqb_tells, not_from_Decides, bytes_eq-Decides, bytes_eq, fault_number, is_label_field, is_provider_field, version_in, has_hash, with_settings, with_version, read_as, said, decode_of, bytes_at, number_at, carries, HoldsLabel, IsOf, WrongHash, WrongFlags, Stands, Cause, version_numbered, mirror_flags_end, Metadata, Reading, Settings, DecodeFault, Magic, Version, Hash, Name, Provider, Balance, Flags, SectorSize}
use Rattle.std.proofs.lemmas.Bool.{cases_order}
use Rattle.gm_metadata.specs.Reading.{settings_of, said_in, reading_of}
use Rattle.gm_metadata.specs.declared.version.Version as versions
use Rattle.gm_metadata.proofs.Read.{Passes, passes, number_named, version_is_number}
use Rattle.gm_metadata.proofs.Values.{holds_label, passes_where_held, no_provider, some_provider}

-- the fault with this number
abbrev fault_of : ℕ → DecodeFault
fault_of n =
    if n == 1 then Magic else (if n == 2 then Version else
    (if n == 3 then Hash else (if n == 4 then Name
    else (if n == 5 then Provider else
    (if n == 6 then Balance else (if n == 7 then Flags else SectorSize))))))

fault_again : (k : DecodeFault) → fault_of (fault_number k) ≡ k
fault_again Magic = refl
fault_again Version = refl
fault_again Hash = refl
fault_again Name = refl
fault_again Provider = refl
fault_again Balance = refl
fault_again Flags = refl
fault_again SectorSize = refl

-- two faults with one number are one
one_fault : (j k : DecodeFault) → fault_number j ≡ fault_number k → j ≡ k
one_fault j k e = sym (fault_again j) ∙ ap fault_of e ∙ fault_again k

number_at_least : (k : DecodeFault) → 0 < fault_number k
number_at_least Magic = omega arith
number_at_least Version = omega arith
number_at_least Hash = omega arith
number_at_least Name = omega arith
number_at_least Provider = omega arith
number_at_least Balance = omega arith
number_at_least Flags = omega arith
number_at_least SectorSize = omega arith

-- no fault below the number stands in the sector
abbrev Clear : List ℕ → ℕ → Type 0
Clear x n = (j : DecodeFault) → fault_number j < n → Stands x j → ⊥

clear_of_one : (x : List ℕ) → Clear x 1
clear_of_one x j lt stands = let least = number_at_least j in absurd (omega arith)

cleared : (x : List ℕ) (k : DecodeFault) → Clear x (fault_number k) → (Stands x k → ⊥)
    → Clear x (fault_number k + 1)
cleared x k before never j lt stands =
    elim (eqb_tells (fault_number j) (fault_number k)) [
      | inl same ↦ let P : DecodeFault → Type 0 = λ i. Stands x i in
          never (subst P (one_fault j k same.1) stands)
      | inr other ↦ let apart : fault_number j ≢ fault_number k = other.1 in
          before j (omega arith) stands
    ]

-- one test more
step : {A : Type 0} (C : DecodeFault → Type 0) (t : Bool) (e : DecodeFault)
    (r : Result A DecodeFault) → (t ≡ false → C e) → (t ≡ true → IfErr r C)
    → IfErr (if not t then Err e else r) C
step C true e r fails holds = holds refl
step C false e r fails holds = fails refl

inside : (C : DecodeFault → Type 0) (v : versions.Version) (r : Result Settings DecodeFault)
    (x : List ℕ) → IfErr r C → IfErr (with_settings v r x) C
inside C v (Ok s) x told = tt
inside C v (Err e) x told = told

inside_version : (C : DecodeFault → Type 0) (v : versions.Version)
    (r : Result Metadata DecodeFault) → IfErr r C → IfErr (with_version v r) C
inside_version C v (Ok m) told = tt
inside_version C v (Err e) told = told

-- the version that the sector names is known, or it is none
by_version : (C : DecodeFault → Type 0) (o : Option versions.Version) (x : List ℕ)
    → (o ≡ None → C Version) → ((v : versions.Version) → o ≡ Some v → IfErr (said_in v x) C)
    → IfErr (read_as o x) C
by_version C None x fails holds = fails refl
by_version C (Some v) x fails holds = inside_version C v (said_in v x) (holds v refl)

bytes_differ : (a b : List ℕ) → bytes_eq a b ≡ false → a ≢ b
bytes_differ a b e = not_from_Decides (bytes_eq a b) (bytes_eq-Decides a b) e

bytes_agree : (a b : List ℕ) → bytes_eq a b ≡ true → a ≢ b → ⊥
bytes_agree a b e never = never ((bytes_eq-Decides a b).0 e)

numbers_differ : (a b : ℕ) → (a == b) ≡ false → a ≢ b
numbers_differ a b e = grind (arith, nat_tests)

numbers_agree : (a b : ℕ) → (a == b) ≡ true → a ≢ b → ⊥
numbers_agree a b e never = let same : a ≡ b = grind (arith, nat_tests) in never same

not_below : (a b : ℕ) → nat_lt a b ≡ false → b ≤ a
not_below a b e = grind (arith, nat_tests)

below : (a b : ℕ) → nat_lt a b ≡ true → b ≤ a → ⊥
below a b e le = let lt : a < b = grind (arith, nat_tests) in omega arith

wide : (x : List ℕ) (at : ℕ) → length x ≡ 512 → at + 16 ≤ 512 → length (bytes_at at 16 x) ≡ 16
wide x at n le = length-take-le 16 (drop at x) (rw (length-drop, n) (omega arith))

no_name : (x : List ℕ) → is_label_field (bytes_at 20 16 x) ≡ false → HoldsLabel (bytes_at 20 16 x)
    → ⊥
no_name x e held = true≢false (sym (passes_where_held _ held) ∙ e)

-- the sector names one version
one_version : (x : List ℕ) (v w : versions.Version) → version_in x ≡ Some v → IsOf x w → v ≡ w
one_version x v w is named =
    let other : version_in x ≡ Some w = ap version_numbered named ∙ number_named w in cc

no_version : (x : List ℕ) → version_in x ≡ None → (v : versions.Version) → IsOf x v → ⊥
no_version x is v named =
    let some : version_in x ≡ Some v = ap version_numbered named ∙ number_named v in cc

some_version : (x : List ℕ) (v : versions.Version) → version_in x ≡ Some v → Stands x Version → ⊥
some_version x v is never = never v (version_is_number x v is)

no_hash : (x : List ℕ) (v : versions.Version) → version_in x ≡ Some v → has_hash v x ≡ true
    → Stands x Hash → ⊥
no_hash x v is passes wrong =
    let P : versions.Version → Type 0 = λ w. WrongHash x w in
    bytes_agree _ _ passes
    (λ e. subst P (sym (one_version x v wrong.0 is wrong.1)) wrong.2 (sym e))

no_flags : (x : List ℕ) (v : versions.Version) → version_in x ≡ Some v
    → nat_lt (number_at 79 8 x) (mirror_flags_end v) ≡ true → nat_lt (number_at 87 8 x) 16 ≡ true
    → Stands x Flags → ⊥
no_flags x v is p q wrong =
    let P : versions.Version → Type 0 = λ w. WrongFlags x w in
    elim (subst P (sym (one_version x v wrong.0 is wrong.1)) wrong.2) [
      | inl le ↦ below _ _ p le
      | inr le ↦ below _ 16 q le
    ]

-- if all tests pass, there is no fault
none_stands : (x : List ℕ) (v : versions.Version) → length x ≡ 512 → Passes v x
    → (k : DecodeFault) → Stands x k → ⊥
none_stands x v n p Magic = bytes_agree _ _ p.magic_passes
none_stands x v n p Version = some_version x v p.version_is
none_stands x v n p Hash = no_hash x v p.version_is p.hash_passes
none_stands x v n p Name = λ never. never (holds_label _ (wide x 20 n (lit≤ tt)) p.name_passes)
none_stands x v n p Provider =
    λ never. never (some_provider _ (wide x 95 n (lit≤ tt)) p.provider_ok)
none_stands x v n p Balance = below _ 5 p.balance_ok
none_stands x v n p Flags = no_flags x v p.version_is p.mirror_ok p.disk_ok
none_stands x v n p SectorSize = numbers_agree _ _ p.size_ok

-- the fault that is answered is the first that stands
cause_read : (x : List ℕ) → length x ≡ 512 → IfErr (reading_of x) (Cause x)
unfolding reading_of said_in settings_of
cause_read x n =
    let C = Cause x in
    let c1 = clear_of_one x in
    step C (carries x) Magic _ (λ e. record { stands = bytes_differ _ _ e; first = c1 })
    (λ magic_is.
    let c2 : Clear x 2 = cleared x Magic c1 (bytes_agree _ _ magic_is) in
    by_version C (version_in x) x (λ e. record { stands = no_version x e; first = c2 })
    (λ v version_is.
    let of : IsOf x v = version_is_number x v version_is in
    let c3 : Clear x 3 = cleared x Version c2 (some_version x v version_is) in
    step C (has_hash v x) Hash _ (λ e. record {
      stands = (v, of, λ same. bytes_differ _ _ e (sym same));
      first = c3;
    }) (λ hash_is.
    let c4 : Clear x 4 = cleared x Hash c3 (no_hash x v version_is hash_is) in
    step C (is_label_field (bytes_at 20 16 x)) Name _ (λ e. record {
      stands = no_name x e;
      first = c4;
    }) (λ name_is.
    let c5 : Clear x 5 =
    cleared x Name c4 (λ never. never (holds_label _ (wide x 20 n (lit≤ tt)) name_is)) in
    step C (is_provider_field (bytes_at 95 16 x)) Provider _
    (λ e. record { stands = no_provider _ e; first = c5 }) (λ provider_is.
    let c6 : Clear x 6 =
    cleared x Provider c5
    (λ never. never (some_provider _ (wide x 95 n (lit≤ tt)) provider_is)) in
    inside C v _ x (
    step C (nat_lt (slice_index x 58) 5) Balance _ (λ e. record {
      stands = not_below _ 5 e;
      first = c6;
    }) (λ balance_is.
    let c7 : Clear x 7 = cleared x Balance c6 (below _ 5 balance_is) in
    step C (nat_lt (number_at 79 8 x) (mirror_flags_end v)) Flags _ (λ e. record {
      stands = (v, of, inl (not_below _ _ e));
      first = c7;
    }) (λ mirror_is.
    step C (nat_lt (number_at 87 8 x) 16) Flags _ (λ e. record {
      stands = (v, of, inr (not_below _ 16 e));
      first = c7;
    }) (λ disk_is.
    let c8 : Clear x 8 = cleared x Flags c7 (no_flags x v version_is mirror_is disk_is) in
    step C _ SectorSize _ (λ e. record { stands = numbers_differ _ _ e; first = c8 })
    (λ size_is. tt))))))))))

said_fault : (C : DecodeFault → Type 0) (r : Result Reading DecodeFault) → IfErr r C
    → IfErr (said r) C
said_fault C (Ok q) told = tt
said_fault C (Err k) told = told

same_cause : (x : List ℕ) (j k : DecodeFault) → Cause x j → Cause x k → j ≡ k
same_cause x j k a b =
    elim (cases_order (fault_number j) (fault_number k)) [
      | inl same ↦ one_fault j k same
      | inr apart ↦ elim apart [
        | inl lt ↦ absurd (b.first j lt a.stands)
        | inr gt
            ↦ absurd (a.first k gt b.stands)
      ]
    ]

pub cause_in : (x : List ℕ) (r : Result Metadata DecodeFault) → length x ≡ 512 → r ≡ decode_of x
    → IfErr r (Cause x)
cause_in x r n e = subst (λ (q : Result Metadata DecodeFault). IfErr q (Cause x)) (sym e)
    (said_fault (Cause x) (reading_of x) (cause_read x n))

pub only_cause : (x : List ℕ) (r : Result Metadata DecodeFault) → length x ≡ 512 → r ≡ decode_of x
    → (k : DecodeFault) → Cause x k → r ≡ Err k
only_cause x r n e k c = e ∙ by (reading_of x) refl (cause_read x n)
  where
    by : (q : Result Reading DecodeFault) → reading_of x ≡ q → IfErr q (Cause x)
        → said q ≡ Err k
    by (Ok q) is told = absurd (none_stands x q.version n (passes x q is).tests k c.stands)
    by (Err j) is told = ap Err (same_cause x j k told c)
