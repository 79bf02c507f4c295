-- A draft of a sector, and its pieces in order.
use Rattle.gm_metadata.proofs.Common.{◌≡◌, ◌∙◌, ◌≤◌, ◌+◌, ◌-◌, ℕ, refl, sym, ap, arith, List, [], ◌∷◌, ◌++◌, append_assoc, length, drop, replicate, drop-replicate, drop-drop, balance_code, mirror_bits, disk_bits, padded, magic, u32_field, u64_field, provider_field, Metadata, Four}
use Rattle.std.proofs.lemmas.Slice.{drop-put_mid}
use Rattle.gm_metadata.specs.Reading.{fields}
use borrow.Rule.Slice.PartMut.{put_mid}

-- what follows the bytes that are written is still zero
pub zeros_follow : (xs ys : List ℕ) (len k : ℕ) → length xs ≡ 512 → length ys ≡ k → len + k ≤ 512
    → drop len xs ≡ replicate (512 - len) 0
    → drop (len + k) (put_mid len (len + k - len) xs ys) ≡ replicate (512 - (len + k)) 0
zeros_follow xs ys len k n m fits zeros =
    let past : drop (len + k) (put_mid len (len + k - len) xs ys) ≡ drop (len + k) xs =
    drop-put_mid len (len + k - len) xs ys (len + k) (omega arith) (omega arith)
    (omega arith) in
    let two : drop (len + k) xs ≡ drop k (drop len xs) = sym (drop-drop k len xs) in
    let rest : drop k (replicate (512 - len) 0) ≡ replicate (512 - len - k) 0 =
    drop-replicate k (512 - len) 0 in
    let same : 512 - len - k ≡ 512 - (len + k) = omega arith in
    past ∙ two ∙ ap (drop k) zeros ∙ rest ∙ ap (λ n. replicate n 0) same

-- one more piece after what is written
pub next : (v w x y f : List ℕ) → w ≡ v ++ x → x ≡ y → v ≡ f → w ≡ f ++ y
next v w x y f e g h = rw (e, g, h) refl

-- a hash after the fields, and zeros
pub ended : (with_fields with_hash whole hash f d z : List ℕ) → with_fields ≡ f
    → with_hash ≡ with_fields ++ hash → hash ≡ d → whole ≡ with_hash ++ z → whole ≡ (f ++ d) ++ z
ended with_fields with_hash whole hash f d z e1 e2 e3 e4 = rw (e4, e2, e3, e1) refl

-- pieces that are appended one by one, and the same pieces as they are written down
abbrev pub appended : List ℕ → List (List ℕ) → List ℕ
appended p [] = p
appended p (q ∷ ps) = appended (p ++ q) ps

abbrev nested : List ℕ → List (List ℕ) → List ℕ
nested p [] = p
nested p (q ∷ ps) = p ++ nested q ps

nested-append : (p q : List ℕ) (ps : List (List ℕ)) → nested (p ++ q) ps ≡ p ++ nested q ps
nested-append p q [] = refl
nested-append p q (r ∷ ps) = append_assoc p q (nested r ps)

regrouped : (p : List ℕ) (ps : List (List ℕ)) → appended p ps ≡ nested p ps
regrouped p [] = refl
regrouped p (q ∷ ps) = regrouped (p ++ q) ps ∙ nested-append p q ps

-- the fields after the magic
abbrev pub after_magic : Metadata → List (List ℕ)
after_magic m =
    u32_field 4 ∷ padded m.name ∷ u32_field m.mid ∷ u32_field m.did ∷ (m.all ∷ [])
    ∷ u32_field m.genid ∷ u32_field m.syncid ∷ (m.priority ∷ []) ∷ u32_field m.slice
    ∷ (balance_code m.balance ∷ []) ∷ u64_field m.mediasize ∷ u32_field 512
    ∷ u64_field m.sync_offset ∷ u64_field (mirror_bits m.mflags)
    ∷ u64_field (disk_bits m.dflags) ∷ provider_field m.provider ∷ u64_field m.provsize ∷ []

-- the fields of version 4, as they are appended to nothing
pub fields_appended : (m : Metadata) → appended ([] ++ magic) (after_magic m) ≡ fields Four m
unfolding fields
fields_appended m = regrouped magic (after_magic m)
