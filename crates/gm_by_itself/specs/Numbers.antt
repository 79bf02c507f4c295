-- The numbers that mirrors and components have, and those that are free.
use Rattle.std.specs.Prelude.{◌≡◌, ◌++◌, ◌==◌, ◌<◌, ◌≤◌, ◌^◌, ℕ, Bool, true, false, List, Option, IfSome, filter, map}
use Rattle.std.specs.List.{list_any}
use Rattle.std.specs.Str.{bytes_eq}
use Rattle.gm_metadata.specs.declared.metadata.Metadata.{Metadata}
use Rattle.gm_state.specs.declared.records.Component.{Component}
use Rattle.gm_state.specs.Records.{Records}

-- one of these is the number
abbrev pub is_among : List ℕ → ℕ → Bool
is_among used n = list_any (λ k. k == n) used

-- a mirror or a component may be given the number: one from 1 to 4294967295, and none of these
pub record IsFreeNumber (used : List ℕ) (n : ℕ) : Type 0 where
  pub some : 0 < n
  pub fits : n < 2 ^ 32
  pub free : is_among used n ≡ false

-- from this one on all are among these
abbrev pub AllTaken : List ℕ → ℕ → Type 0
AllTaken used from = (n : ℕ) → from ≤ n → n < 2 ^ 32 → is_among used n ≡ true

-- the numbers of the mirrors that are registered, and of those that images say
abbrev pub mids_of : Records → List Metadata → List ℕ
mids_of s said = map (λ m. m.mid) s.mirrors ++ map (λ d. d.mid) said

-- the numbers of those of these components that the mirror has
abbrev pub registered_dids : List Component → List ℕ → List ℕ
registered_dids ks name = map (λ k. k.did) (filter (λ k. bytes_eq k.mirror name) ks)

-- those that images say of a mirror of this name
abbrev pub said_dids : List Metadata → List ℕ → List ℕ
said_dids said name = map (λ d. d.did) (filter (λ d. bytes_eq d.name name) said)

-- the numbers of the components of a mirror, and of those that images say of a mirror of its name
abbrev pub dids_of : Records → List Metadata → List ℕ → List ℕ
dids_of s said name = registered_dids s.components name ++ said_dids said name

-- these are free beside a state and what images say, for a mirror of this name
pub record AreFree (s : Records) (said : List Metadata) (name : List ℕ) (mid did : Option ℕ) :
    Type 0 where
  pub mid_is : IfSome mid (IsFreeNumber (mids_of s said))
  pub did_is : IfSome did (IsFreeNumber (dids_of s said name))
