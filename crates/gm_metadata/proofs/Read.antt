-- What is read is spelled so, and what is spelled so is read.
use Rattle.gm_metadata.proofs.Common.{◌≡◌, ◌∙◌, ◌<◌, ◌≤◌, ◌+◌, ◌-◌, ◌^◌, ℕ, Bool, true, false, not, nat_lt, ◌==◌, refl, sym, ap, subst, arith, replicate, List, [], ◌∷◌, ◌++◌, length, take, drop, slice_index, lit<, lit≤, Option, Some, None, Result, Ok, Err, IfOk, if◌then◌else◌, length-take-le, length-drop, length-replicate, nat_tests, bytes_eq-Decides, le_refl, take-append_seam, md5, balance_code, balance_in, mirror_bits, mirror_flags_in, disk_bits, disk_flags_in, is_label_field, name_in, padded, is_provider_field, provider_in, version_in, has_hash, metadata_in, with_settings, with_version, read_as, said, decode_of, version_read, encoded, u32_field, u64_field, provider_field, provsize_field, bytes_at, number_at, carries, IsMetadata, Spells, Bears, BearsIn, SaidIn, version_number, version_numbered, fields_end, hash_end, kept_size, mirror_flags_end, Metadata, MirrorFlags, DiskFlags, Reading, Settings, Two, Three, Four, DecodeFault}
use Rattle.std.proofs.lemmas.List.{length-append}
use Rattle.gm_metadata.specs.Reading.{settings_of, said_in, reading_of}
use Rattle.gm_metadata.specs.declared.balance.Balance as balances
use Rattle.gm_metadata.specs.declared.version.Version as versions
use Rattle.gm_metadata.proofs.Numbers.{AreBytes, bytes_at-take, front_of_front, u32_spelled, u64_spelled, u8_spelled, u32_read, u64_read, u8_read}
use Rattle.gm_metadata.proofs.Values.{label_field_passes, label_field_names, provider_passes, provider_read, provider_spelled, balance_spelled, balance_read, balance_passes, mirror_flags_spelled, mirror_flags_read, mirror_flags_pass, disk_flags_spelled, disk_flags_read, disk_flags_pass}
use Rattle.gm_metadata.proofs.Labels.{field_that_passes}
use Rattle.gm_metadata.proofs.Laid.{named, encoded_is_full, length-encoded}

-- the settings that a sector has if they pass
abbrev settings_in : List ℕ → Settings
settings_in x = record {
  balance = balance_in (slice_index x 58);
  mflags = mirror_flags_in (number_at 79 8 x);
  dflags = disk_flags_in (number_at 87 8 x);
}

-- all tests of a sector that is of this version
pub record Passes (v : versions.Version) (x : List ℕ) : Type 0 where
  pub magic_passes : carries x ≡ true
  pub version_is : version_in x ≡ Some v
  pub hash_passes : has_hash v x ≡ true
  pub name_passes : is_label_field (bytes_at 20 16 x) ≡ true
  pub provider_ok : is_provider_field (bytes_at 95 16 x) ≡ true
  pub balance_ok : nat_lt (slice_index x 58) 5 ≡ true
  pub mirror_ok : nat_lt (number_at 79 8 x) (mirror_flags_end v) ≡ true
  pub disk_ok : nat_lt (number_at 87 8 x) 16 ≡ true
  pub size_ok : (number_at 67 4 x == 512) ≡ true

guard : {A : Type 0} (t : Bool) (e : DecodeFault) (r : Result A DecodeFault) (m : A)
    → (if not t then Err e else r) ≡ Ok m → (t ≡ true) × (r ≡ Ok m)
guard true e r m h = (refl, h)
guard false e r m h = cc

through : {A : Type 0} (t : Bool) (e : DecodeFault) (r : Result A DecodeFault) → t ≡ true
    → (if not t then Err e else r) ≡ r
through true e r h = refl
through false e r h = cc

opened : (v : versions.Version) (r : Result Settings DecodeFault) (x : List ℕ) (m : Metadata)
    → with_settings v r x ≡ Ok m → (s : Settings) × (r ≡ Ok s) × (metadata_in v s x ≡ m)
opened v (Ok s) x m h = (s, refl, cc)
opened v (Err e) x m h = cc

-- what is read was said in the version that the sector names
versioned : (v : versions.Version) (r : Result Metadata DecodeFault) (q : Reading)
    → with_version v r ≡ Ok q → (q.version ≡ v) × (r ≡ Ok q.metadata)
versioned v (Ok m) q h = (cc, cc)
versioned v (Err e) q h = cc

named_version : (o : Option versions.Version) (x : List ℕ) (q : Reading) → read_as o x ≡ Ok q
    → (o ≡ Some q.version) × (said_in q.version x ≡ Ok q.metadata)
named_version None x q h = cc
named_version (Some v) x q h =
    let t = versioned v _ q h in
    let P : versions.Version → Type 0 = λ w. said_in w x ≡ Ok q.metadata in
    (ap Some (sym t.0), subst P (sym t.0) t.1)

-- what is read passes, and says this
pub record Says (q : Reading) (x : List ℕ) : Type 0 where
  pub tests : Passes q.version x
  pub metadata_is : metadata_in q.version (settings_in x) x ≡ q.metadata

pub passes : (x : List ℕ) (q : Reading) → reading_of x ≡ Ok q → Says q x
unfolding reading_of said_in settings_of
passes x q h =
    let a = guard _ _ _ q h in
    let v = q.version in
    let m = q.metadata in
    let b = named_version (version_in x) x q a.1 in
    let c = guard _ _ _ m b.1 in
    let d = guard _ _ _ m c.1 in
    let e = guard _ _ _ m d.1 in
    let o = opened v _ x m e.1 in
    let f = guard _ _ _ o.0 o.1 in
    let g = guard _ _ _ o.0 f.1 in
    let i = guard _ _ _ o.0 g.1 in
    let j = guard _ _ _ o.0 i.1 in
    let same : settings_in x ≡ o.0 = cc in record {
      tests = record {
        magic_passes = a.0;
        version_is = b.0;
        hash_passes = c.0;
        name_passes = d.0;
        provider_ok = e.0;
        balance_ok = f.0;
        mirror_ok = g.0;
        disk_ok = i.0;
        size_ok = j.0;
      };
      metadata_is = ap (λ (s : Settings). metadata_in v s x) same ∙ o.2;
    }

-- what is decoded has its fields at their places, in some version
pub said_fields : (x : List ℕ) (m : Metadata) → decode_of x ≡ Ok m
    → (v : versions.Version) × (metadata_in v (settings_in x) x ≡ m)
said_fields x m e = by (reading_of x) refl e
  where
    by : (r : Result Reading DecodeFault) → reading_of x ≡ r → said r ≡ Ok m
        → (v : versions.Version) × (metadata_in v (settings_in x) x ≡ m)
    by (Ok q) is e = (q.version, (passes x q is).metadata_is ∙ cc)
    by (Err k) is e = cc

passed : (v : versions.Version) (x : List ℕ) → Passes v x
    → reading_of x ≡ Ok (record { version = v; metadata = metadata_in v (settings_in x) x })
unfolding reading_of said_in settings_of
passed v x p =
    through _ _ _ p.magic_passes ∙ ap (λ (o : Option versions.Version). read_as o x) p.version_is
    ∙ ap (with_version v) (through _ _ _ p.hash_passes
    ∙ through _ _ _ p.name_passes ∙ through _ _ _ p.provider_ok
    ∙ ap (λ (r : Result Settings DecodeFault). with_settings v r x)
    (through _ _ _ p.balance_ok ∙ through _ _ _ p.mirror_ok ∙ through _ _ _ p.disk_ok
    ∙ through _ _ _ p.size_ok))

number_is : (a b : ℕ) → (a == b) ≡ true → a ≡ b
number_is a b h = grind (arith, nat_tests)

is_number : (a b : ℕ) → a ≡ b → (a == b) ≡ true
is_number a b h = grind (arith, nat_tests)

is_below : (a b : ℕ) → nat_lt a b ≡ true → a < b
is_below a b h = grind (arith, nat_tests)

below_is : (a b : ℕ) → a < b → nat_lt a b ≡ true
below_is a b h = grind (arith, nat_tests)

-- the number that stands for a version is the version's
numbered_is : (n : ℕ) (v : versions.Version) → version_numbered n ≡ Some v → n ≡ version_number v
numbered_is n v = by (n == 2) (n == 3) (n == 4) refl refl refl
  where
    by : (two three four : Bool) → (n == 2) ≡ two → (n == 3) ≡ three → (n == 4) ≡ four
        → (if two then Some Two else (if three then Some Three else (if four then Some Four
        else None))) ≡ Some v → n ≡ version_number v
    by true three four is e f h =
        (let same : Two ≡ v = cc in number_is n 2 is ∙ ap version_number same)
    by false true four e is f h =
        (let same : Three ≡ v = cc in number_is n 3 is ∙ ap version_number same)
    by false false true e f is h =
        (let same : Four ≡ v = cc in number_is n 4 is ∙ ap version_number same)
    by false false false e f g h = cc

pub number_named : (v : versions.Version) → version_numbered (version_number v) ≡ Some v
number_named Two = refl
number_named Three = refl
number_named Four = refl

pub version_is_number : (x : List ℕ) (v : versions.Version) → version_in x ≡ Some v
    → number_at 16 4 x ≡ version_number v
version_is_number x v h = numbered_is (number_at 16 4 x) v h

-- the fields that all versions have lie before the hash
pub before_hash : (v : versions.Version) (n : ℕ) → n ≤ 111 → n ≤ hash_end v
before_hash Two n le = omega arith
before_hash Three n le = omega arith
before_hash Four n le = omega arith

within_sector : (v : versions.Version) → hash_end v ≤ 512
within_sector Two = lit≤ tt
within_sector Three = lit≤ tt
within_sector Four = lit≤ tt

fields_before : (v : versions.Version) → fields_end v ≤ hash_end v
fields_before Two = lit≤ tt
fields_before Three = lit≤ tt
fields_before Four = lit≤ tt

flags_below : (v : versions.Version) (n : ℕ) → n < mirror_flags_end v → n < 4
flags_below Two n lt = omega arith
flags_below Three n lt = omega arith
flags_below Four n lt = lt

small_number : (v : versions.Version) → version_number v < 2 ^ 32
small_number Two = lit< tt
small_number Three = lit< tt
small_number Four = lit< tt

kept_once : (v : versions.Version) (n : ℕ) → kept_size v (kept_size v n) ≡ kept_size v n
kept_once Two n = refl
kept_once Three n = refl
kept_once Four n = refl

-- the provider's size is spelled as it is kept
size_spelled : (v : versions.Version) (x : List ℕ) → length x ≡ 512 → AreBytes x
    → bytes_at 111 (fields_end v - 111) (take (hash_end v) x)
    ≡ provsize_field v (kept_size v (number_at 111 8 x))
size_spelled Two x n small = refl
size_spelled Three x n small = bytes_at-take 111 8 135 x (lit≤ tt)
    ∙ u64_spelled x 111 small (rw n (lit≤ tt))
size_spelled Four x n small = bytes_at-take 111 8 135 x (lit≤ tt)
    ∙ u64_spelled x 111 small (rw n (lit≤ tt))

-- and kept as it is spelled
size_read : (v : versions.Version) (x : List ℕ) (n : ℕ) → n < 2 ^ 64 → kept_size v n ≡ n
    → bytes_at 111 (fields_end v - 111) (take (hash_end v) x) ≡ provsize_field v n
    → kept_size v (number_at 111 8 x) ≡ n
size_read Two x n small kept e = kept
size_read Three x n small kept e =
    u64_read x 111 n small (sym (bytes_at-take 111 8 135 x (lit≤ tt)) ∙ e)
size_read Four x n small kept e =
    u64_read x 111 n small (sym (bytes_at-take 111 8 135 x (lit≤ tt)) ∙ e)

-- what is read is spelled so, in the version that was read
pub found_read : (x : List ℕ) (q : Reading) → length x ≡ 512 → AreBytes x → reading_of x ≡ Ok q
    → BearsIn q.version x q.metadata
found_read x q n small h =
    let v = q.version in
    let end = hash_end v in
    let says = passes x q h in
    let p = says.tests in
    let m = metadata_in v (settings_in x) x in
    let wide : (at : ℕ) → at + 16 ≤ 512 → length (bytes_at at 16 x) ≡ 16 =
    λ at le. length-take-le 16 (drop at x) (rw (length-drop, n) (omega arith)) in
    let part : (at count : ℕ) → at + count ≤ 111
    → bytes_at at count (take end x) ≡ bytes_at at count x =
    λ at count le. bytes_at-take at count end x (before_hash v _ le) in
    let u32 : (at : ℕ) → at + 4 ≤ 111 → bytes_at at 4 (take end x) ≡ u32_field (number_at at 4 x) =
    λ at le. part at 4 le ∙ u32_spelled x at small (rw n (omega arith)) in
    let u64 : (at : ℕ) → at + 8 ≤ 111 → bytes_at at 8 (take end x) ≡ u64_field (number_at at 8 x) =
    λ at le. part at 8 le ∙ u64_spelled x at small (rw n (omega arith)) in
    let u8 : (at : ℕ) → at + 1 ≤ 111 → bytes_at at 1 (take end x) ≡ slice_index x at ∷ [] =
    λ at le. part at 1 le ∙ u8_spelled x at (rw n (omega arith)) in
    let bits : mirror_bits m.mflags ≡ number_at 79 8 x =
    mirror_flags_spelled _ (flags_below v _ (is_below _ _ p.mirror_ok)) in
    let few : number_at 79 8 x < mirror_flags_end v = is_below _ _ p.mirror_ok in
    let spelled : BearsIn v x m = record {
      can_say = record {
        size = kept_once v _;
        flags = rw bits few;
      };
      length_is = length-take-le end x (rw n (within_sector v));
      magic_is = front_of_front 16 end x (before_hash v 16 (lit≤ tt))
          ∙ (bytes_eq-Decides _ _).0 p.magic_passes;
      version_is = u32 16 (lit≤ tt) ∙ ap u32_field (version_is_number x v p.version_is);
      name_is = part 20 16 (lit≤ tt)
          ∙ sym (field_that_passes _ (wide 20 (lit≤ tt)) p.name_passes).padding;
      mid_is = u32 36 (lit≤ tt);
      did_is = u32 40 (lit≤ tt);
      all_is = u8 44 (lit≤ tt);
      genid_is = u32 45 (lit≤ tt);
      syncid_is = u32 49 (lit≤ tt);
      priority_is = u8 53 (lit≤ tt);
      slice_is = u32 54 (lit≤ tt);
      balance_is =
          u8 58 (lit≤ tt) ∙ ap (λ k. k ∷ []) (sym (balance_spelled _ (is_below _ _ p.balance_ok)));
      mediasize_is = u64 59 (lit≤ tt);
      sector_size_is = u32 67 (lit≤ tt) ∙ ap u32_field (number_is _ _ p.size_ok);
      sync_offset_is = u64 71 (lit≤ tt);
      mflags_is = u64 79 (lit≤ tt) ∙ ap u64_field (sym bits);
      dflags_is = u64 87 (lit≤ tt) ∙ ap u64_field
          (sym (disk_flags_spelled _ (is_below _ _ p.disk_ok)));
      provider_is = part 95 16 (lit≤ tt) ∙ provider_spelled _
          (wide 95 (lit≤ tt)) p.provider_ok;
      provsize_is = size_spelled v x n small;
      hash_is = bytes_at-take (fields_end v) 16 end x (le_refl end)
          ∙ sym ((bytes_eq-Decides _ _).0 p.hash_passes)
          ∙ ap md5 (sym (front_of_front (fields_end v) end x (fields_before v)));
    } in
    let P : Metadata → Type 0 = λ k. BearsIn v x k in subst P says.metadata_is spelled

pub found_by_reading : (x : List ℕ) (r : Result Reading DecodeFault) → length x ≡ 512 → AreBytes x
    → r ≡ reading_of x → IfOk r (λ q. BearsIn q.version x q.metadata)
found_by_reading x (Ok q) n small e = found_read x q n small (sym e)
found_by_reading x (Err k) n small e = tt

-- the number that is told is that of a version
pub said_in_version : (x : List ℕ) (k : ℕ) → length x ≡ 512 → AreBytes x
    → version_read (reading_of x) ≡ Some k → SaidIn k x
said_in_version x k n small e = by (reading_of x) refl e
  where
    by : (r : Result Reading DecodeFault) → reading_of x ≡ r → version_read r ≡ Some k → SaidIn k x
    by (Ok q) is e = (q.version, q.metadata, found_read x q n small is, cc)
    by (Err fault) is e = cc

pub found_in : (x : List ℕ) (r : Result Metadata DecodeFault) → length x ≡ 512 → AreBytes x
    → r ≡ decode_of x → IfOk r (λ m. Bears x m)
found_in x r n small e = by (reading_of x) refl e
  where
    by : (q : Result Reading DecodeFault) → reading_of x ≡ q → r ≡ said q
        → IfOk r (λ m. Bears x m)
    by (Ok q) is e = rw e (q.version, found_read x q n small is)
    by (Err k) is e = rw e tt

below_64 : (a b : ℕ) → a < b → b ≤ 2 ^ 64 → a < 2 ^ 64
below_64 a b lt le = omega arith

-- metadata by their fields
made : List ℕ → ℕ → ℕ → ℕ → ℕ → ℕ → ℕ → ℕ → balances.Balance → ℕ → ℕ → MirrorFlags → DiskFlags
    → Option (List ℕ) → ℕ → Metadata
made name mid did all genid syncid priority slice balance mediasize sync_offset mflags dflags
    provider provsize = record {
      name = name;
      mid = mid;
      did = did;
      all = all;
      genid = genid;
      syncid = syncid;
      priority = priority;
      slice = slice;
      balance = balance;
      mediasize = mediasize;
      sync_offset = sync_offset;
      mflags = mflags;
      dflags = dflags;
      provider = provider;
      provsize = provsize;
    }

-- metadata that agree in each field are one
same_fields : (a b : Metadata) → a.name ≡ b.name → a.mid ≡ b.mid → a.did ≡ b.did → a.all ≡ b.all
    → a.genid ≡ b.genid → a.syncid ≡ b.syncid → a.priority ≡ b.priority
    → a.slice ≡ b.slice → a.balance ≡ b.balance → a.mediasize ≡ b.mediasize
    → a.sync_offset ≡ b.sync_offset → a.mflags ≡ b.mflags → a.dflags ≡ b.dflags
    → a.provider ≡ b.provider → a.provsize ≡ b.provsize → a ≡ b
unfolding made
same_fields a b p1 p2 p3 p4 p5 p6 p7 p8 p9 p10 p11 p12 p13 p14 p15 =
    let e : made a.name a.mid a.did a.all a.genid a.syncid a.priority a.slice a.balance a.mediasize
    a.sync_offset a.mflags a.dflags a.provider a.provsize
    ≡ made b.name b.mid b.did b.all b.genid b.syncid b.priority b.slice b.balance b.mediasize
    b.sync_offset b.mflags b.dflags b.provider b.provsize
    = rw (p1, p2, p3, p4, p5, p6, p7, p8, p9, p10, p11, p12, p13, p14, p15) refl in e

-- what is spelled so is read, in that version
pub only_read : (x : List ℕ) (v : versions.Version) (m : Metadata) → length x ≡ 512 → IsMetadata m
    → BearsIn v x m → reading_of x ≡ Ok (record { version = v; metadata = m })
only_read x v m n ok s =
    let end = hash_end v in
    let field : (at count : ℕ) → at + count ≤ 111
    → bytes_at at count x ≡ bytes_at at count (take end x) =
    λ at count le. sym (bytes_at-take at count end x (before_hash v _ le)) in
    let number_is : number_at 16 4 x ≡ version_number v =
    u32_read x 16 _ (small_number v) (field 16 4 (lit≤ tt) ∙ s.version_is) in
    let size_is : number_at 67 4 x ≡ 512 =
    u32_read x 67 512 (lit< tt) (field 67 4 (lit≤ tt) ∙ s.sector_size_is) in
    let name_is : bytes_at 20 16 x ≡ padded m.name = field 20 16 (lit≤ tt) ∙ s.name_is in
    let provider_is : bytes_at 95 16 x ≡ provider_field m.provider =
    field 95 16 (lit≤ tt) ∙ s.provider_is in
    let hash_is : md5 (take (fields_end v) x) ≡ bytes_at (fields_end v) 16 x =
    sym (sym (bytes_at-take (fields_end v) 16 end x (le_refl end)) ∙ s.hash_is
    ∙ ap md5 (front_of_front (fields_end v) end x (fields_before v))) in
    let balance_is : slice_index x 58 ≡ balance_code m.balance =
    u8_read x 58 _ (rw n (lit< tt)) (field 58 1 (lit≤ tt) ∙ s.balance_is) in
    let mflags_is : number_at 79 8 x ≡ mirror_bits m.mflags =
    u64_read x 79 _ (below_64 _ 4 (mirror_flags_pass m.mflags) (lit≤ tt))
    (field 79 8 (lit≤ tt) ∙ s.mflags_is) in
    let dflags_is : number_at 87 8 x ≡ disk_bits m.dflags =
    u64_read x 87 _ (below_64 _ 16 (disk_flags_pass m.dflags) (lit≤ tt))
    (field 87 8 (lit≤ tt) ∙ s.dflags_is) in
    let tests : Passes v x = record {
      magic_passes = (bytes_eq-Decides _ _).1 (field 0 16 (lit≤ tt) ∙ s.magic_is);
      version_is = ap version_numbered number_is ∙ number_named v;
      hash_passes = (bytes_eq-Decides _ _).1 hash_is;
      name_passes = ap is_label_field name_is ∙ label_field_passes m.name ok.name_ok;
      provider_ok = ap is_provider_field provider_is ∙ provider_passes m.provider ok.provider_ok;
      balance_ok = ap (λ k. nat_lt k 5) balance_is ∙ balance_passes m.balance;
      mirror_ok = ap (λ k. nat_lt k (mirror_flags_end v)) mflags_is
          ∙ below_is _ _ s.can_say.flags;
      disk_ok = ap (λ k. nat_lt k 16) dflags_is ∙ below_is _ _ (disk_flags_pass m.dflags);
      size_ok = is_number _ _ size_is;
    } in
    let u32 : (at k : ℕ) → at + 4 ≤ 111 → k < 2 ^ 32 → bytes_at at 4 (take end x) ≡ u32_field k
    → number_at at 4 x ≡ k = λ at k le small e. u32_read x at k small (field at 4 le ∙ e) in
    let u64 : (at k : ℕ) → at + 8 ≤ 111 → k < 2 ^ 64 → bytes_at at 8 (take end x) ≡ u64_field k
    → number_at at 8 x ≡ k = λ at k le small e. u64_read x at k small (field at 8 le ∙ e) in
    let u8 : (at k : ℕ) → at + 1 ≤ 111 → bytes_at at 1 (take end x) ≡ k ∷ []
    → slice_index x at ≡ k =
    λ at k le e. u8_read x at k (rw n (omega arith)) (field at 1 le ∙ e) in
    let same : metadata_in v (settings_in x) x ≡ m =
    same_fields (metadata_in v (settings_in x) x) m
    (ap name_in name_is ∙ label_field_names m.name ok.name_ok)
    (u32 36 _ (lit≤ tt) ok.mid_ok s.mid_is)
    (u32 40 _ (lit≤ tt) ok.did_ok s.did_is)
    (u8 44 _ (lit≤ tt) s.all_is)
    (u32 45 _ (lit≤ tt) ok.genid_ok s.genid_is)
    (u32 49 _ (lit≤ tt) ok.syncid_ok s.syncid_is)
    (u8 53 _ (lit≤ tt) s.priority_is)
    (u32 54 _ (lit≤ tt) ok.slice_ok s.slice_is)
    (ap balance_in balance_is ∙ balance_read m.balance)
    (u64 59 _ (lit≤ tt) ok.mediasize_ok s.mediasize_is)
    (u64 71 _ (lit≤ tt) ok.sync_offset_ok s.sync_offset_is)
    (ap mirror_flags_in mflags_is ∙ mirror_flags_read m.mflags)
    (ap disk_flags_in dflags_is ∙ disk_flags_read m.dflags)
    (ap provider_in provider_is ∙ provider_read m.provider ok.provider_ok)
    (size_read v x _ ok.provsize_ok s.can_say.size s.provsize_is) in
    passed v x tests ∙ ap (λ (k : Metadata). Ok (record { version = v; metadata = k })) same

pub only : (x : List ℕ) (m : Metadata) → length x ≡ 512 → IsMetadata m → Bears x m
    → decode_of x ≡ Ok m
only x m n ok s = ap said (only_read x s.0 m n ok s.1)

-- a sector is spelled by one metadata, in one version
pub read_once : (x : List ℕ) (m n : Metadata) (v w : versions.Version) → length x ≡ 512
    → IsMetadata m → IsMetadata n → BearsIn v x m → BearsIn w x n → (m ≡ n) × (v ≡ w)
read_once x m n v w size okm okn sm sn =
    let p : Reading = record { version = v; metadata = m } in
    let q : Reading = record { version = w; metadata = n } in
    let one : reading_of x ≡ Ok p = only_read x v m size okm sm in
    let two : reading_of x ≡ Ok q = only_read x w n size okn sn in
    let same : p ≡ q = cc in
    (ap (λ (r : Reading). r.metadata) same, ap (λ (r : Reading). r.version) same)

-- no two metadata have one spelling, in whichever versions
pub spelled_by_one : (m n : Metadata) (v w : versions.Version) (b : List ℕ) → IsMetadata m
    → IsMetadata n → Spells m v b → Spells n w b → (m ≡ n) × (v ≡ w)
spelled_by_one m n v w b okm okn sm sn =
    let x = b ++ replicate (512 - length b) 0 in
    let fits : length b ≤ 512 = rw sm.length_is (within_sector v) in
    let size : length x ≡ 512 = rw (length-append, length-replicate) (omega arith) in
    let front : (k : ℕ) → length b ≡ k → take k x ≡ b =
    λ k e. rw (← e) (take-append_seam b (replicate (512 - length b) 0)) in
    let P : versions.Version → Metadata → List ℕ → Type 0 = λ u k c. Spells k u c in
    read_once x m n v w size okm okn (subst (P v m) (sym (front _ sm.length_is)) sm)
    (subst (P w n) (sym (front _ sn.length_is)) sn)

pub encoded_reads : (m : Metadata) → IsMetadata m
    → reading_of (encoded m) ≡ Ok (record { version = Four; metadata = m })
encoded_reads m ok =
    only_read (encoded m) Four m (length-encoded m (named m ok)) ok
    (encoded_is_full m (named m ok)).bears

pub encoded_decodes : (m : Metadata) → IsMetadata m → decode_of (encoded m) ≡ Ok m
encoded_decodes m ok = ap said (encoded_reads m ok)
