-- What a command shows so that it has a plan: what it makes of one mirror, and what it writes. A
-- new command has to show PlanOf, the record at the end, and nothing else: PlanOfStep makes the
-- plan of it, and EveryPlan lists the commands.
-- Three files make the record of less. EnrolledMirror: a mirror is new; FilteredMirror: components
-- go; MappedMirror: they are changed where they stand. PlanInsert, PlanClear and PlanDestroy show
-- it themselves. What a command may take from its refusals stands in RuledOut: of a mirror that it
-- names by_name, of providers that it takes is_free.
use Rattle.gm_rules.proofs.Common.{◌≡◌, ◌≢◌, ◌⊎◌, ℕ, ◌+◌, ◌-◌, ◌<◌, ◌≤◌, ◌&&◌, nat_le, nat_lt, Bool, false, List, [], ◌∷◌, ◌++◌, find, flat_map, length, map, cond, Some, None, IsTrue, IsSomeAnd, slice_index_or, list_any, Image, same_label, is_label, encoded, Command, CommandFits, AreSectors, Intent, Clear, Copy, Mirror, Component, InSync, Has, Records, held_by, metadata, IsOf, copies, World, Sound, Below, ReplyFits, present, IsGood, name_of, seen_of, active_of, after, bytes_of, clears, fills, intents_of, laid_over, metas, patching, reply_to, NewData, WereBare}
use Rattle.gm_rules.proofs.TurnedMirror.{Turns}

-- nothing refuses the command in the world
pub record Allowed (u : World) (c : Command) : Type 0 where
  pub sound : Sound u
  pub fits : CommandFits c
  pub good : IsGood u.state (seen_of u) c

-- the sectors from first to end - 1 of a source, which are copied to a target
pub record Stretch : Type 0 where
  pub source : List ℕ
  pub target : List ℕ
  pub first : ℕ
  pub end : ℕ

abbrev pub copying : Stretch → Intent
copying x = Copy x.source x.target x.first x.end

-- the data that a command brings to components: none, a stretch that is copied to one, or sectors
-- that are laid over those of each component told, from this one on
pub data Fill : Type 0 where
  Nothing : Fill
  Copied : Stretch → Fill
  Laid : ℕ → List (List ℕ) → Fill

-- the sectors that are laid
abbrev pub bytes_in : Fill → List (List ℕ)
bytes_in (Laid first sectors) = sectors
bytes_in _ = []

-- sector j of q is brought
abbrev pub is_filled : Fill → List Component → List ℕ → ℕ → Bool
is_filled Nothing told q j = false
is_filled (Copied x) told q j = copies (copying x) q j
is_filled (Laid first sectors) told q j = list_any (λ k. same_label k.provider q) told &&
    (nat_le first j && nat_lt j (first + length sectors))

-- the image with the data brought, before any last sector is written
abbrev pub with_filled : Fill → List Component → Image → Image
with_filled Nothing told shelf = shelf
with_filled (Copied x) told shelf = λ q j.
    cond (is_filled (Copied x) told q j) (shelf x.source j) (shelf q j)
with_filled (Laid first sectors) told shelf = λ q j.
    cond (is_filled (Laid first sectors) told q j) (slice_index_or sectors (j - first) [])
    (shelf q j)

-- the intents: the copy, if there is one, then Clear of the providers gone, then Meta of the
-- components told; or what lays sectors over those of each, and ends with its Meta
abbrev pub clears_then : List (List ℕ) → List Component → List Intent
clears_then gone told = map (λ q. Clear q) gone ++ metas told

abbrev pub written : Fill → List (List ℕ) → List Component → List Intent
written Nothing gone told = clears_then gone told
written (Copied x) gone told = copying x ∷ clears_then gone told
written (Laid first sectors) gone told = flat_map (patching first (first + length sectors)) told

-- the stretch lies within the data of m, whose components are ks; an ACTIVE one lends it, and the
-- one that it is copied to is told
pub record IsLent (m : Mirror) (ks told : List Component) (x : Stretch) : Type 0 where
  pub from : Component
  pub to : Component
  pub from_is : Has ks from
  pub to_is : Has told to
  pub source_is : from.provider ≡ x.source
  pub target_is : to.provider ≡ x.target
  pub other : x.source ≢ x.target
  pub active : from.disk ≡ InSync
  pub ordered : x.first ≤ x.end
  pub within : x.end ≤ m.data_sectors

-- Sectors lie within the data of m, and are laid over those of each of its components ks that is
-- ACTIVE, one at least; it had no others before, and no provider is cleared.
pub record IsLaid (u : World) (m : Mirror) (ks told : List Component) (gone : List (List ℕ))
    (first : ℕ) (sectors : List (List ℕ)) : Type 0 where
  pub told_is : told ≡ active_of ks
  pub active : (k : Component) × Has ks k × (k.disk ≡ InSync)
  pub stays : (a : Mirror) (k : Component) → IsOf u.state a k → a.name ≡ m.name
      → find (λ j. same_label j.provider k.provider) ks ≢ None
  pub none_gone : gone ≡ []
  pub some : 0 < length sectors
  pub within : first + length sectors ≤ m.data_sectors
  pub whole : AreSectors sectors

-- it can be brought to the components told of the mirror m, whose components are ks
abbrev pub CanFill : World → Mirror → List Component → List Component → List (List ℕ) → Fill
    → Type 0
CanFill u m ks told gone Nothing = Unit {0}
CanFill u m ks told gone (Copied x) = IsLent m ks told x
CanFill u m ks told gone (Laid first sectors) = IsLaid u m ks told gone first sectors

-- the command brings no data, is answered plainly, and makes no component of a provider that was
-- none
abbrev pub TakesNothing : World → Command → Type 0
TakesNothing u c = ((q : List ℕ) (j : ℕ) → false ≡ fills u.state c q j)
    × ReplyFits (reply_to c u.state) × ((w : World) → NewData u c w)
    × ((w : World) → WereBare c u w) × ([] ≡ bytes_of c)

-- the provider is there, and no component of s is on it
pub record IsCleared (u : World) (s : Records) (q : List ℕ) : Type 0 where
  pub there : IsSomeAnd (present u q) (λ n. 0 < n)
  pub label : IsTrue (is_label q)
  pub free : (k : Component) → Has s.components k → k.provider ≢ q

-- What the command makes of the world u, and what it writes.
pub record PlanOf (u : World) (c : Command) : Type 0 where
  -- the mirror that it turns, as it is after it, with its components and the list of its data;
  -- if it turns none, one that isn't registered
  pub mirror : Mirror
  pub components : List Component
  pub list : ℕ → List ℕ
  -- all records after it
  pub records : Records
  -- the data that it brings, the providers that it clears, and the components whose metadata it
  -- writes
  pub fill : Fill
  pub gone : List (List ℕ)
  pub told : List Component
  -- the records are those of the rules, and so are the intents
  pub turns : Turns u.state mirror components records
  pub after_is : records ≡ after (seen_of u) c u.state
  pub intents : written fill gone told ≡ intents_of c u.state records
  pub bytes : bytes_in fill ≡ bytes_of c
  pub named : (k : Component) → Has components k → name_of c ≡ Some mirror.name
  pub reply : ReplyFits (reply_to c u.state)
  -- the components are there, and have their data by then
  pub there : (k : Component) → Has components k → present u k.provider ≡ Some k.sectors
  pub below : (k : Component) → Has components k
      → Below (with_filled fill told u.shelf) list k.provider (held_by k.disk mirror.data_sectors)
  -- a mirror of before keeps its data, but for what is laid over them; those of a new one are what
  -- its provider has
  pub same_data : (a : Mirror) → Has u.state.mirrors a → a.name ≡ mirror.name
      → (a.data_sectors ≡ mirror.data_sectors)
      × ((i : ℕ) → list i ≡ laid_over c a.name (u.holds a.name) i)
  pub new : (w : World) → ((i : ℕ) → w.holds mirror.name i ≡ list i) → NewData u c w
  pub bare : (w : World) → w.state ≡ records → WereBare c u w
  -- what is brought
  pub can_fill : CanFill u mirror components told gone fill
  pub filled : (q : List ℕ) (j : ℕ) → is_filled fill told q j ≡ fills u.state c q j
  -- what is cleared
  pub cleared : (q : List ℕ) → Has gone q → IsCleared u records q
  pub all_gone : (q : List ℕ) → list_any (λ p. same_label p q) gone ≡ clears u.state c q
  -- whose metadata are written: of each component unless they are there already
  pub told_are : (k : Component) → Has told k → Has components k
  pub all_told : (k : Component) → Has components k → Has told k
      ⊎ (u.shelf k.provider (k.sectors - 1) ≡ encoded (metadata mirror k))
