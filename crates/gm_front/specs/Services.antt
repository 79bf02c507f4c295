-- What serving a request owes: what it asks, what is told of that, and where it leaves the bench.
use Rattle.std.specs.Prelude.{◌≡◌, ◌⊎◌, ℕ, List, [], Option, Some, None, Result, Ok, Err, IfErr, IfSome, IsTrue, codes}
use Rattle.std.specs.Io.KnownBytes.{Appends, Keeps}
use Rattle.sqlite_trees.specs.declared.store.Store.{Ghosts}
use Rattle.sqlite.specs.Held.{Held}
use Rattle.gm_metadata.specs.Images.{Image}
use Rattle.gm_shelf.specs.declared.shelf.Shelf.{Ghosts as ShelfGhosts}
use Rattle.gm_state.specs.World.{World}
use Rattle.gm_registry.specs.Registry.{DiskKept}
use Rattle.gm_bench.specs.Benches.{progress_of, registry_of, shelf_of}
use Rattle.gm_bench.specs.Recovering.{IsAt}
use Rattle.gm_bench.specs.declared.bench.Bench.{Bench}
use Rattle.gm_bench.specs.declared.fault.BenchFault.{BenchFault}
use Rattle.gm_http.specs.Peers.{has_failed}
use Rattle.gm_http.specs.Requests.{Asked, Asks}
use Rattle.gm_http.specs.Responses.{code_of, response_bytes}
use Rattle.gm_http.specs.Senders.{IsFromPage}
use Rattle.gm_http.specs.declared.peer.Peer.{Peer}
use Rattle.gm_http.specs.declared.status.Status.TheVariants.{Forbidden}
use Rattle.gm_json.specs.Answers.{error_json}
use Rattle.gm_front.specs.declared.answer_lines.FrontFault.{FrontFault}
use Rattle.gm_front.specs.declared.service.Response.{Response}
use Rattle.gm_front.specs.declared.answer_lines.FrontFault.TheVariants.{Memory, Read, Write}
use Rattle.gm_front.specs.Batch.{AppendsFront}
use Rattle.gm_front.specs.Demands.{Told, demand_of, fault_status, fault_told, told_as}
use Rattle.gm_front.specs.Findings.{Fails, IsFound, TellsStoreAt, progress_behind}
use Rattle.gm_front.specs.Closing.{KeepsClosed}

-- the bytes of a response
abbrev pub bytes_of : Told → List ℕ
bytes_of told = response_bytes told.status told.body

-- the code of a response that was written, or why it wasn't
abbrev pub code_told : Result Response FrontFault → Result ℕ FrontFault
code_told (Ok response) = Ok (code_of response.status)
code_told (Err fault) = Err fault

-- only of a peer that couldn't be read from is it said that it couldn't
abbrev pub ServesUnlessFailed : {R T : Type 0} → Peer R → Result T FrontFault → Type 0
ServesUnlessFailed peer result = IfErr result (λ fault. fault ≡ Read → IsTrue (has_failed peer))

-- whatever was read, it isn't said that nothing could be
abbrev pub WasRead : {T : Type 0} → Result T FrontFault → Type 0
WasRead result = IfErr result (λ fault. fault ≡ Read → ⊥)

-- what a page is told
abbrev pub page_told : Told
page_told = told_as Forbidden (error_json (codes "not from a page"))

-- A page was turned away: all of that was written, or a beginning of it; or nothing, if its
-- request wasn't read to its end.
abbrev pub TurnsAway : Option (List ℕ) → Option (List ℕ) → Result ℕ FrontFault → Type 0
TurnsAway before now (Ok code) = (code ≡ 403) × Appends before now (bytes_of page_told)
TurnsAway before now (Err Read) = Keeps before now
TurnsAway before now (Err Memory) = AppendsFront before now (bytes_of page_told)
TurnsAway before now (Err Write) = AppendsFront before now (bytes_of page_told)

module _ {S H : Type 0} (g : Ghosts S) (j : ShelfGhosts H) where
  -- The request was responded to.
  pub record Responded (input : Option (List ℕ)) (Wrote : List ℕ → Type 0) (s : Held S) (k : H)
      (away : Image) (u : World) (told : Told) : Type 0 where
    pub asked : Asked
    pub asks : IfSome input (λ bytes. Asks bytes asked)
    pub found : IsFound g j s k away u (demand_of asked) told
    pub wrote : Wrote (bytes_of told)

  -- The bench failed at what the request demands, and its fault is told.
  pub record FailedAt (input : Option (List ℕ)) (Wrote : List ℕ → Type 0) (r s : Held S) (h k : H)
      (away : Image) (u : World) (fault : BenchFault) : Type 0 where
    pub asked : Asked
    pub asks : IfSome input (λ bytes. Asks bytes asked)
    pub failed : Fails g j r s h k away u (demand_of asked) fault
    pub wrote : Wrote (bytes_of (fault_told fault))

  -- what is told: a response if the bench didn't fail, else the fault at which it did
  abbrev pub Tells : Option (List ℕ) → (List ℕ → Type 0) → Held S → Held S → H → H → Image → World
      → (ℕ → Type 0) → Option BenchFault → Type 0
  Tells input Wrote r s h k away u IsCode None =
      (told : Told) × IsCode (code_of told.status) × Responded input Wrote s k away u told
  Tells input Wrote r s h k away u IsCode (Some fault) =
      IsCode (code_of (fault_status fault)) × FailedAt input Wrote r s h k away u fault

  -- nothing was written, and the bench wasn't asked
  abbrev pub LeavesAll : Option (List ℕ) → Option (List ℕ) → Held S → Held S → H → H
      → Option BenchFault → Type 0
  LeavesAll before now r s h k fault =
      (s ≡ r) × (k ≡ h) × Keeps before now × (fault ≡ None)

  -- What serving a request comes to if the bench failed at this fault, or didn't fail: all of a
  -- response was written, or a beginning of it, or nothing was done.
  abbrev pub Serves : Option (List ℕ) → Option (List ℕ) → Option (List ℕ) → Held S → Held S → H → H
      → Image → World → Result ℕ FrontFault → Option BenchFault → Type 0
  Serves input before now r s h k away u (Ok code) fault =
      Tells input (Appends before now) r s h k away u (λ n. code ≡ n) fault
  Serves input before now r s h k away u (Err Read) fault =
      LeavesAll before now r s h k fault
  Serves input before now r s h k away u (Err Memory) fault =
      LeavesAll before now r s h k fault
      ⊎ Tells input (AppendsFront before now) r s h k away u (λ n. Unit {0}) fault
  Serves input before now r s h k away u (Err Write) fault =
      Tells input (AppendsFront before now) r s h k away u (λ n. Unit {0}) fault

  -- what serving a request comes to if pages are turned away, for which the bench isn't asked
  abbrev pub ServesUnlessPage : Option (List ℕ) → Option (List ℕ) → Option (List ℕ) → Held S
      → Held S → H → H → Image → World → Result ℕ FrontFault → Option BenchFault → Type 0
  ServesUnlessPage input before now r s h k away u result fault =
      Serves input before now r s h k away u result fault
      ⊎ (IfSome input IsFromPage × (s ≡ r) × (k ≡ h) × (fault ≡ None)
      × TurnsAway before now result)

-- What serving one request owes: with what the bench failed, if it did, and that this is told; it
-- says `Closed` only if it was so before.
pub record ServesOne {S H : Type 0} (s : Ghosts S) (h : ShelfGhosts H)
    (input before now : Option (List ℕ)) (old new : Bench S H)
    (result : Result ℕ FrontFault) : Type 0 where
  pub fault : Option BenchFault
  pub does : h.honest (shelf_of old) → DiskKept s (registry_of new) → (away : Image) (u : World)
      → IsAt s h (registry_of old) (shelf_of old) away [] [] u u
      → Serves s h input before now (registry_of old) (registry_of new)
      (shelf_of old) (shelf_of new) away u result fault
  pub progress : progress_of new ≡ progress_behind (progress_of old) fault
  pub closes : KeepsClosed old new fault
  pub store : TellsStoreAt s h old new fault
