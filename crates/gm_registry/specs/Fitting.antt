-- What each step of a change needs of the tables, so that no rule of theirs refuses it.
use Rattle.std.specs.Prelude.{◌≡◌, ◌≢◌, ◌⊎◌, ℕ, ◌+◌, ◌^◌, ◌<◌, ◌≤◌, List, [], length}
use Rattle.std.specs.List.{AllByRecursion}
use Rattle.sqlite.specs.Tree.{Trees}
use Rattle.sqlite_rows.specs.Numbers.{TakesMore}
use Rattle.gm_lists.specs.Ordered.{Has}
use Rattle.gm_state.specs.Rows.{Tables, MirrorRow, ComponentRow, IntentRow, CommandRow, joined}
use Rattle.gm_registry.specs.Replies.{IsFree}

-- the store can number so many rows more of each table whose rows it numbers itself
pub record HasRoom (more : ℕ) (db : Trees) : Type 0 where
  pub mirrors : TakesMore more (db 1)
  pub components : TakesMore more (db 4)
  pub commands : TakesMore more (db 8)

-- texts or bytes that a row can hold, which has at most a billion of them
abbrev pub AreShort : List ℕ → List ℕ → Type 0
AreShort a b = length a + length b + 1000 ≤ 10 ^ 9

-- no other mirror has its number
abbrev pub HasFreeNumber : MirrorRow → Tables → Type 0
HasFreeNumber m t =
    AllByRecursion (λ (x : MirrorRow). x.name ≢ m.name → x.mid ≢ m.mid) t.mirrors

-- a mirror can be put in place of the one of its name
pub record TakesMirror (m : MirrorRow) (db : Trees) (t : Tables) : Type 0 where
  pub number_free : HasFreeNumber m t
  pub room : TakesMore 1 (db 1)

-- a component's mirror is there, which has no other of its number
pub record IsPlaced (k : ComponentRow) (t : Tables) : Type 0 where
  pub mirror : (m : MirrorRow) × Has t.mirrors m × (m.name ≡ k.mirror)
  pub number_free : AllByRecursion (λ (x : ComponentRow). x.prov ≢ k.prov → x.mirror ≡ k.mirror
      → x.did ≢ k.did) t.components

-- a component can be put in place of the one on its provider
pub record TakesComponent (k : ComponentRow) (db : Trees) (t : Tables) : Type 0 where
  pub placed : IsPlaced k t
  pub room : TakesMore 1 (db 4)

-- no component is of this mirror
abbrev pub HasNoComponents : List ℕ → Tables → Type 0
HasNoComponents name t = AllByRecursion (λ (k : ComponentRow). k.mirror ≢ name) t.components

-- no intent with this number is pending
abbrev pub IsUnnumbered : ℕ → Tables → Type 0
IsUnnumbered n t = AllByRecursion (λ (i : IntentRow). i.ord ≢ n) t.intents

-- so many intents can be numbered from 1
pub record TakesIntents (n : ℕ) (t : Tables) : Type 0 where
  pub few : n < 2 ^ 32
  pub free : (k : ℕ) → 1 ≤ k → k ≤ n → IsUnnumbered k t

-- the record of these bytes can be put: no other is there
pub record TakesPatch (bytes : List ℕ) (t : Tables) : Type 0 where
  pub free : t.patches ≡ []
  pub short : AreShort bytes []

-- these bytes can be put: there are none, or no others are there
pub record TakesBytes (bytes : List (List ℕ)) (t : Tables) : Type 0 where
  pub free : (bytes ≡ []) ⊎ (t.patches ≡ [])
  pub short : AreShort (joined bytes) []

-- no command has this number
abbrev pub IsUncounted : ℕ → Tables → Type 0
IsUncounted n t = AllByRecursion (λ (c : CommandRow). c.seq ≢ n) t.commands

-- so many commands can be numbered from this number on
pub record TakesNumbers (number count : ℕ) (t : Tables) : Type 0 where
  pub few : number + count ≤ 2 ^ 32
  pub free : (k : ℕ) → number ≤ k → k < number + count → IsUncounted k t

-- a command can be added under this key and number, with these words
pub record TakesCommand (key words : List ℕ) (number : ℕ) (db : Trees) (t : Tables) : Type 0 where
  pub key_free : IsFree t key
  pub number_free : IsUncounted number t
  pub short : AreShort key words
  pub room : TakesMore 1 (db 8)
