-- Fields that are laid one after another, and the same fields each at its place.
use Rattle.gm_metadata.proofs.Common.{◌≡◌, ◌∙◌, ◌+◌, ◌-◌, ℕ, refl, sym, ap, ap₂, subst, arith, List, [], ◌∷◌, ◌++◌, length, take, drop, replicate, append_assoc, length-append, drop-drop, take-append-drop, length-drop, length-replicate, drop-append_seam, take-append_seam, take-length, append-nil, append_cancel_right, md5, balance_code, mirror_bits, disk_bits, padded, provider_field, provsize_field, bytes_at, IsMetadata, Spells, Full, version_number, fields_end, hash_end, CanSay, Two, Three, Four, Metadata}
use Rattle.md5.proofs.StandardFacts.{length-md5}
use Rattle.gm_metadata.specs.Reading.{fields, spelling, encoded}
use Rattle.gm_metadata.specs.Sector.{magic, u32_field, u64_field}
use Rattle.gm_metadata.specs.declared.version.Version.{Version}
use Rattle.gm_metadata.proofs.Values.{length-padded, length-provider_field, mirror_flags_pass}

-- a field: how many bytes it takes, and which
record Field : Type 0 where
  width : ℕ
  bytes : List ℕ

-- the bytes of all fields
abbrev joined : List Field → List ℕ
joined [] = []
joined (f ∷ fs) = f.bytes ++ joined fs

abbrev total : List Field → ℕ
total [] = 0
total (f ∷ fs) = f.width + total fs

-- each field stands at its place, the first at `at`
abbrev Laid : ℕ → List Field → List ℕ → Type 0
Laid at [] b = Unit {0}
Laid at (f ∷ fs) b = (bytes_at at f.width b ≡ f.bytes) × Laid (at + f.width) fs b

-- each field is as wide as it says
abbrev Fills : List Field → Type 0
Fills [] = Unit {0}
Fills (f ∷ fs) = (length f.bytes ≡ f.width) × Fills fs

seam : (at w : ℕ) (front p rest : List ℕ) → length front ≡ at → length p ≡ w
    → take w (drop at (front ++ (p ++ rest))) ≡ p
seam at w front p rest e f = rw (← e, drop-append_seam, ← f) (take-append_seam p rest)

laid : (at : ℕ) (fs : List Field) (front rest : List ℕ) → length front ≡ at → Fills fs
    → Laid at fs (front ++ (joined fs ++ rest))
laid at [] front rest e fills = tt
laid at (f ∷ fs) front rest e fills =
    let whole : (f.bytes ++ joined fs) ++ rest ≡ f.bytes ++ (joined fs ++ rest) =
    append_assoc f.bytes (joined fs) rest in
    let longer : length (front ++ f.bytes) ≡ at + f.width =
    length-append front f.bytes ∙ ap₂ (λ m n. m + n) e fills.0 in (
      ap (λ l. take f.width (drop at (front ++ l))) whole
          ∙ seam at f.width front f.bytes (joined fs ++ rest) e fills.0,
      subst (Laid (at + f.width) fs) (append_assoc front f.bytes (joined fs ++ rest)
          ∙ ap (λ l. front ++ l) (sym whole))
          (laid (at + f.width) fs (front ++ f.bytes) rest longer fills.1),
    )

-- what lies at its place is all there is up to the end of the fields
joined_again : (at : ℕ) (fs : List Field) (b : List ℕ) → Laid at fs b
    → drop at b ≡ joined fs ++ drop (at + total fs) b
joined_again at [] b l = ap (λ n. drop n b) (omega arith)
joined_again at (f ∷ fs) b l =
    let here : drop at b ≡ f.bytes ++ drop f.width (drop at b) =
    sym (take-append-drop f.width (drop at b)) ∙ ap (λ p. p ++ drop f.width (drop at b)) l.0 in
    let past : drop f.width (drop at b) ≡ drop (at + f.width) b = drop-drop f.width at b in
    let more : drop (at + f.width) b ≡ joined fs ++ drop (at + f.width + total fs) b =
    joined_again (at + f.width) fs b l.1 in
    let same : at + f.width + total fs ≡ at + (f.width + total fs) = omega arith in
    here ∙ ap (λ p. f.bytes ++ p) (past ∙ more ∙ ap (λ n. joined fs ++ drop n b) same)
    ∙ sym (append_assoc f.bytes (joined fs) _)

length-joined : (fs : List Field) → Fills fs → length (joined fs) ≡ total fs
length-joined [] fills = refl
length-joined (f ∷ fs) fills =
    length-append f.bytes (joined fs) ∙ ap₂ (λ m n. m + n) fills.0 (length-joined fs fills.1)

abbrev u32_of : ℕ → Field
u32_of n = record { width = 4; bytes = u32_field n }

abbrev u64_of : ℕ → Field
u64_of n = record { width = 8; bytes = u64_field n }

abbrev u8_of : ℕ → Field
u8_of n = record { width = 1; bytes = n ∷ [] }

abbrev name_of : List ℕ → Field
name_of field = record { width = 16; bytes = field }

-- version 2 has nothing at this place, the others a number
abbrev provsize_of : Version → ℕ → Field
provsize_of v n = record { width = fields_end v - 111; bytes = provsize_field v n }

-- the fields of a metadata in a version, in their order
abbrev table : Version → Metadata → List Field
table v m =
    name_of magic ∷ u32_of (version_number v) ∷ name_of (padded m.name)
    ∷ u32_of m.mid ∷ u32_of m.did ∷ u8_of m.all
    ∷ u32_of m.genid ∷ u32_of m.syncid
    ∷ u8_of m.priority ∷ u32_of m.slice ∷ u8_of (balance_code m.balance) ∷ u64_of m.mediasize
    ∷ u32_of 512 ∷ u64_of m.sync_offset
    ∷ u64_of (mirror_bits m.mflags) ∷ u64_of (disk_bits m.dflags)
    ∷ name_of (provider_field m.provider) ∷ provsize_of v m.provsize ∷ []

u32_fills : (n : ℕ) → length (u32_field n) ≡ 4
unfolding u32_field
u32_fills n = refl

u64_fills : (n : ℕ) → length (u64_field n) ≡ 8
unfolding u64_field
u64_fills n = refl

provsize_fills : (v : Version) (n : ℕ) → length (provsize_field v n) ≡ fields_end v - 111
provsize_fills Two n = refl
provsize_fills Three n = u64_fills n
provsize_fills Four n = u64_fills n

magic_fills : length magic ≡ 16
unfolding magic
magic_fills = refl

-- the names fill their fields
pub record Named (m : Metadata) : Type 0 where
  pub name_fills : length (padded m.name) ≡ 16
  pub provider_fills : length (provider_field m.provider) ≡ 16

pub named : (m : Metadata) → IsMetadata m → Named m
named m ok = record {
  name_fills = length-padded m.name ok.name_ok;
  provider_fills = length-provider_field m.provider ok.provider_ok;
}

table_fills : (v : Version) (m : Metadata) → Named m → Fills (table v m)
table_fills v m ok = (
  magic_fills,
  (
    u32_fills (version_number v),
    (
      ok.name_fills,
      (
        u32_fills m.mid,
        (
          u32_fills m.did,
          (
            refl,
            (
              u32_fills m.genid,
              (
                u32_fills m.syncid,
                (
                  refl,
                  (
                    u32_fills m.slice,
                    (
                      refl,
                      (
                        u64_fills m.mediasize,
                        (
                          u32_fills 512,
                          (
                            u64_fills m.sync_offset,
                            (
                              u64_fills _,
                              (u64_fills _, (ok.provider_fills, (provsize_fills v m.provsize, tt))),
                            ),
                          ),
                        ),
                      ),
                    ),
                  ),
                ),
              ),
            ),
          ),
        ),
      ),
    ),
  ),
)

fields_joined : (v : Version) (m : Metadata) → fields v m ≡ joined (table v m)
unfolding fields
fields_joined v m = simp append-nil

total_is : (v : Version) (m : Metadata) → 0 + total (table v m) ≡ fields_end v
total_is Two m = refl
total_is Three m = refl
total_is Four m = refl

length_is : (v : Version) (m : Metadata) → total (table v m) ≡ fields_end v
length_is v m = let whole = total_is v m in omega arith

length-fields : (v : Version) (m : Metadata) → Named m → length (fields v m) ≡ fields_end v
length-fields v m ok = ap length (fields_joined v m)
    ∙ length-joined (table v m) (table_fills v m ok) ∙ length_is v m

-- what begins with the fields and ends with their hash spells the metadata
spells : (v : Version) (m : Metadata) (b : List ℕ) → CanSay v m → length b ≡ hash_end v
    → Laid 0 (table v m) b → bytes_at (fields_end v) 16 b ≡ md5 (take (fields_end v) b)
    → Spells m v b
spells v m b can n l h =
    let l1 = l.1 in let l2 = l1.1 in let l3 = l2.1 in let l4 = l3.1 in let l5 = l4.1 in
    let l6 = l5.1 in let l7 = l6.1 in let l8 = l7.1 in
    let l9 = l8.1 in let l10 = l9.1 in let l11 = l10.1 in let l12 = l11.1 in let l13 = l12.1 in
    let l14 = l13.1 in let l15 = l14.1 in
    let l16 = l15.1 in let l17 = l16.1 in
    record {
      can_say = can;
      length_is = n;
      magic_is = l.0;
      version_is = l1.0;
      name_is = l2.0;
      mid_is = l3.0;
      did_is = l4.0;
      all_is = l5.0;
      genid_is = l6.0;
      syncid_is = l7.0;
      priority_is = l8.0;
      slice_is = l9.0;
      balance_is = l10.0;
      mediasize_is = l11.0;
      sector_size_is = l12.0;
      sync_offset_is = l13.0;
      mflags_is = l14.0;
      dflags_is = l15.0;
      provider_is = l16.0;
      provsize_is = l17.0;
      hash_is = h;
    }

laid_where_spelled : (v : Version) (m : Metadata) (b : List ℕ) → Spells m v b
    → Laid 0 (table v m) b
laid_where_spelled v m b s = (
  s.magic_is,
  (
    s.version_is,
    (
      s.name_is,
      (
        s.mid_is,
        (
          s.did_is,
          (
            s.all_is,
            (
              s.genid_is,
              (
                s.syncid_is,
                (
                  s.priority_is,
                  (
                    s.slice_is,
                    (
                      s.balance_is,
                      (
                        s.mediasize_is,
                        (
                          s.sector_size_is,
                          (
                            s.sync_offset_is,
                            (s.mflags_is, (s.dflags_is, (s.provider_is, (s.provsize_is, tt)))),
                          ),
                        ),
                      ),
                    ),
                  ),
                ),
              ),
            ),
          ),
        ),
      ),
    ),
  ),
)

-- the spelling is spelled so
pub spelling_spells : (v : Version) (m : Metadata) → Named m → CanSay v m
    → Spells m v (spelling v m)
unfolding spelling
spelling_spells v m ok can =
    let n = length-fields v m ok in
    let hash = md5 (fields v m) in
    let whole : joined (table v m) ++ hash ≡ fields v m ++ hash =
    ap (λ l. l ++ hash) (sym (fields_joined v m)) in
    let at_places : Laid 0 (table v m) (fields v m ++ hash) =
    subst (Laid 0 (table v m)) whole (laid 0 (table v m) [] hash refl (table_fills v m ok)) in
    let front : take (fields_end v) (fields v m ++ hash) ≡ fields v m =
    rw (← n) (take-append_seam (fields v m) hash) in
    let back : drop (fields_end v) (fields v m ++ hash) ≡ hash =
    rw (← n) (drop-append_seam (fields v m) hash) in
    let size : length (fields v m ++ hash) ≡ hash_end v =
    length-append (fields v m) hash ∙ ap₂ (λ a b. a + b) n (length-md5 (fields v m)) in
    spells v m _ can size at_places (ap (take 16) back
    ∙ (let e : take 16 hash ≡ hash = rw (← length-md5 (fields v m)) (take-length hash) in
    e) ∙ ap md5 (sym front))

-- and nothing else is
pub spelled_once : (v : Version) (m : Metadata) (b : List ℕ) → Spells m v b → b ≡ spelling v m
unfolding spelling
spelled_once v m b s =
    let end = fields_end v in
    let whole : b ≡ joined (table v m) ++ drop end b =
    joined_again 0 (table v m) b (laid_where_spelled v m b s)
    ∙ ap (λ n. joined (table v m) ++ drop n b) (total_is v m) in
    let split : b ≡ take end b ++ drop end b = sym (take-append-drop end b) in
    let rest : drop end b ≡ bytes_at end 16 b =
    (let k : length (drop end b) ≡ 16 =
    length-drop end b ∙ ap (λ k. k - end) s.length_is ∙ past_fields end in
    let e : take 16 (drop end b) ≡ drop end b = rw (← k) (take-length (drop end b)) in sym e) in
    let fields_are : take end b ≡ fields v m =
    append_cancel_right (take end b) (joined (table v m)) (drop end b) (sym split ∙ whole)
    ∙ sym (fields_joined v m) in
    split ∙ ap₂ (λ x y. x ++ y) fields_are (rest ∙ s.hash_is ∙ ap md5 fields_are)
  where
    past_fields : (n : ℕ) → n + 16 - n ≡ 16
    past_fields n = omega arith

-- version 4 can say all
pub four_says : (m : Metadata) → CanSay Four m
four_says m = record { size = refl; flags = mirror_flags_pass m.mflags }

pub length-spelling : (m : Metadata) → Named m → length (spelling Four m) ≡ 135
length-spelling m ok = (spelling_spells Four m ok (four_says m)).length_is

pub encoded_is_full : (m : Metadata) → Named m → Full (encoded m) m
unfolding encoded
encoded_is_full m ok =
    let n = length-spelling m ok in
    let s = spelling Four m in
    let front : take 135 (s ++ replicate 377 0) ≡ s =
    rw (← n) (take-append_seam s (replicate 377 0)) in
    let back : drop 135 (s ++ replicate 377 0) ≡ replicate 377 0 =
    rw (← n) (drop-append_seam s (replicate 377 0)) in
    record {
      bears = subst (Spells m Four) (sym front) (spelling_spells Four m ok (four_says m));
      rest_is = back;
    }

pub full_once : (m : Metadata) (x : List ℕ) → Full x m → x ≡ encoded m
unfolding encoded
full_once m x f =
    sym (take-append-drop 135 x) ∙ ap₂ (λ a b. a ++ b) (spelled_once Four m _ f.bears) f.rest_is

pub length-encoded : (m : Metadata) → Named m → length (encoded m) ≡ 512
unfolding encoded
length-encoded m ok = length-append (spelling Four m) (replicate 377 0)
    ∙ ap₂ (λ a b. a + b) (length-spelling m ok) (length-replicate {A = ℕ} 377 0)
