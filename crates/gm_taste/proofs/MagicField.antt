-- A sector whose metadata don't decode begins with the magic field, but for the first fault.
use Rattle.gm_taste.proofs.Common.{◌≡◌, ◌∙◌, inl, inr, ℕ, Bool, true, false, not, ◌==◌, nat_lt, refl, sym, subst, List, Option, Some, None, Result, Ok, Err, slice_index, cond, cases_Bool, is_label_field, bytes_at, number_at, carries, version_in, has_hash, is_provider_field, with_settings, with_version, read_as, said, decode_of, mirror_flags_end, Metadata, Provider, Reason, Decode, OtherName, OtherSize, is_magic, of_metadata, own_name, own_size, judged, verdict}
use Rattle.gm_metadata.specs.Reading.{settings_of, said_in, reading_of}
use Rattle.gm_metadata.specs.declared.fault.DecodeFault.{DecodeFault}
use Rattle.gm_metadata.specs.declared.fault.DecodeFault.TheVariants.{Magic}
use Rattle.gm_metadata.specs.declared.version.Version.{Version}

-- the answer is metadata, or another fault than the first
abbrev past_magic : {X : Type 0} → Result X DecodeFault → Bool
past_magic (Ok m) = true
past_magic (Err fault) = not (is_magic fault)

one_of : {X : Type 0} (b : Bool) (r s : Result X DecodeFault) → past_magic r ≡ true
    → past_magic s ≡ true → past_magic (cond b r s) ≡ true
one_of true r s e f = e
one_of false r s e f = f

settings_past : (v : Version) (x : List ℕ) → past_magic (settings_of v x) ≡ true
unfolding settings_of
settings_past v x =
    one_of (not (nat_lt (slice_index x 58) 5)) _ _ refl
    (one_of (not (nat_lt (number_at 79 8 x) (mirror_flags_end v))) _ _ refl
    (one_of (not (nat_lt (number_at 87 8 x) 16)) _ _ refl
    (one_of (not (number_at 67 4 x == 512)) _ _ refl refl)))

with_past : (v : Version) (x : List ℕ) → past_magic (with_settings v (settings_of v x) x) ≡ true
with_past v x =
    (elim (settings_of v x) as (λ r. past_magic r ≡ true
    → past_magic (with_settings v r x) ≡ true) [ Ok s ↦ λ e. refl | Err fault ↦ λ e. e ])
    (settings_past v x)

said_past : (v : Version) (x : List ℕ) → past_magic (said_in v x) ≡ true
unfolding said_in
said_past v x =
    one_of (not (has_hash v x)) _ _ refl
    (one_of (not (is_label_field (bytes_at 20 16 x))) _ _ refl
    (one_of (not (is_provider_field (bytes_at 95 16 x))) _ _ refl (with_past v x)))

-- the version changes nothing of that
version_past : (v : Version) (r : Result Metadata DecodeFault) → past_magic r ≡ true
    → past_magic (said (with_version v r)) ≡ true
version_past v (Ok m) e = refl
version_past v (Err fault) e = e

read_past : (o : Option Version) (x : List ℕ) → past_magic (said (read_as o x)) ≡ true
read_past None x = refl
read_past (Some v) x = version_past v (said_in v x) (said_past v x)

decoded_past : (x : List ℕ) → carries x ≡ true → past_magic (decode_of x) ≡ true
unfolding reading_of
decoded_past x e = rw e (read_past (version_in x) x)

decoded_magic : (x : List ℕ) → carries x ≡ false → decode_of x ≡ Err Magic
unfolding reading_of
decoded_magic x e = rw e refl

-- of what is left out for a reason
reason_past : (p : Provider) (r : Result Metadata DecodeFault) (why : Reason) → past_magic r ≡ true
    → judged p r ≡ Err why → of_metadata why ≡ true
reason_past p (Err fault) why past e = let is : Decode fault ≡ why = cc in
    subst (λ (w : Reason). of_metadata w ≡ true) is past
reason_past p (Ok m) why past e =
    elim (cases_Bool (own_name p m)) [
      | inl named ↦ (elim (cases_Bool (own_size p m)) [
        | inl sized ↦ let ok : Ok m ≡ Err why = rw (named, sized) at e in cc
        | inr other ↦ let is : OtherSize ≡ why = (let so :
            Err OtherSize ≡ Err why = rw (named, other) at e in cc) in
            subst (λ (w : Reason). of_metadata w ≡ true) is refl
      ])
      | inr other ↦ let is : OtherName ≡ why = (let so : Err OtherName ≡ Err why = rw other at e in
          cc) in subst (λ (w : Reason). of_metadata w ≡ true) is refl
    ]

pub reason_tells : (p : Provider) (why : Reason) → verdict p ≡ Err why
    → of_metadata why ≡ carries p.last
reason_tells p why e =
    elim (cases_Bool (carries p.last)) [
      | inl carried ↦ reason_past p (decode_of p.last) why (decoded_past p.last carried) e
          ∙ sym carried
      | inr bare ↦ (let so : judged p (Err Magic) ≡ Err why = subst
          (λ (r : Result Metadata DecodeFault). judged p r ≡ Err why)
          (decoded_magic p.last bare) e in
          let is : Decode Magic ≡ why = cc in
          subst (λ (w : Reason). of_metadata w ≡ false) is refl ∙ sym bare)
    ]
