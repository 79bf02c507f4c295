-- What serving a request comes to, by what was found and what was written of it.
use Rattle.gm_front.proofs.Common.{◌≡◌, inr, ℕ, List, refl, ap, Option, Result, Ok, Err, IfSome, IfOk, IfErr, OnErr, Appends, Ghosts, Held, Image, World, Asks, code_of, FrontFault, Memory, Read, Write, Finding, Response, AppendsFront, demand_of, ComesToFinding, fault_of, told_of, Serves, Tells, bytes_of, code_told}
use Rattle.gm_shelf.specs.declared.shelf.Shelf.{Ghosts as ShelfGhosts}
use Rattle.gm_http.specs.Requests.{Asked}
use Rattle.gm_front.specs.declared.finding.Finding.TheVariants.{Failed}

module _ {S H : Type 0} (g : Ghosts S) (j : ShelfGhosts H)
    (input before now : Option (List ℕ)) (r s : Held S) (h k : H) (away : Image) (u : World)
    (asked : Asked) (asks : IfSome input (λ bytes. Asks bytes asked)) where
  -- so much was written of what a request came to
  tells : (Wrote : List ℕ → Type 0) (IsCode : ℕ → Type 0) (finding : Finding)
      → ComesToFinding g j r s h k away u (demand_of asked) finding
      → Wrote (bytes_of (told_of finding)) → IsCode (code_of (told_of finding).status)
      → Tells g j input Wrote r s h k away u IsCode (fault_of finding)
  tells Wrote IsCode (Failed fault) comes wrote code =
      (code, record { asked = asked; asks = asks; failed = comes; wrote = wrote })
  tells Wrote IsCode finding comes wrote code = (
    told_of finding,
    code,
    record { asked = asked; asks = asks; found = comes; wrote = wrote },
  )

  pub served : (finding : Finding) (told : Result Response FrontFault)
      → ComesToFinding g j r s h k away u (demand_of asked) finding
      → IfOk told (λ response. (response.status ≡ (told_of finding).status)
      × Appends before now (bytes_of (told_of finding)))
      → OnErr told (AppendsFront before now (bytes_of (told_of finding)))
      → IfErr told (λ e. e ≡ Read → ⊥)
      → Serves g j input before now r s h k away u (code_told told) (fault_of finding)
  served finding (Ok response) comes wrote front fault =
      tells (Appends before now) (λ n. code_of response.status ≡ n) finding comes wrote.1
      (ap code_of wrote.0)
  served finding (Err Read) comes wrote front fault = absurd (fault refl)
  served finding (Err Memory) comes wrote front fault =
      inr (tells (AppendsFront before now) (λ n. Unit {0}) finding comes front tt)
  served finding (Err Write) comes wrote front fault =
      tells (AppendsFront before now) (λ n. Unit {0}) finding comes front tt
