-- Commands that are withheld, and requests that are served so.
use Rattle.gm_front.proofs.Common.{◌≡◌, inl, inr, refl, ap, subst, ℕ, List, Option, Result, Ok, Err, IfSome, IfOk, IfErr, OnErr, Appends, Ghosts, Held, Image, Command, World, Asks, code_of, registry_of, shelf_of, LeavesRun, one_call, LeavesOnly, Bench, FrontFault, Memory, Read, Write, Finding, Response, AppendsFront, Carry, Demand, Told, demand_of, IsPut, fault_of, told_of, withheld_told, FindsUnlessWithheld, FoundBehindLook, HadNothing, HasNothingInTheWay, ServesOrWithholds, TellsOf, bytes_of, code_told}
use Rattle.gm_shelf.specs.declared.shelf.Shelf.{Ghosts as ShelfGhosts}
use Rattle.gm_http.specs.Requests.{Asked}
use Rattle.gm_front.specs.declared.finding.Finding.TheVariants as finding
use Rattle.gm_front.proofs.RequestsServed.{served}

-- what a look that failed leaves, a command may leave that isn't accepted
pub run_of_look : {S H : Type 0} (g : Ghosts S) (j : ShelfGhosts H) (r s : Held S)
    (h k : H) (away : Image) (u : World) (key : List ℕ) (c : Command)
    → LeavesOnly g j r s h k away u u → j.size k ≡ j.size h
    → LeavesRun g j r s h k away u u (one_call key c)
run_of_look g j r s h k away u key c left same = record {
  registry = s;
  shelf = k;
  sizes = same;
  accepting = record { within = left.within; end = λ db l. inl (left.end db l) };
  carrying = inl (refl, refl);
}

-- what holds of a carried key and command holds of the same ones
pub same_carried : (P : List ℕ → Command → Type 0) (k l : List ℕ) (c d : Command)
    → Carry k c ≡ Carry l d → P k c → P l d
same_carried P k l c d is holds =
    let key : k ≡ l = cc in
    let command : c ≡ d = cc in
    subst (λ (x : Command). P l x) command (subst (λ (x : List ℕ). P x c) key holds)

-- all of what is told was written, or a beginning of it
pub tells_of : (told : Told) (before now : Option (List ℕ)) (response : Result Response FrontFault)
    → IfOk response (λ it. (it.status ≡ told.status) × Appends before now (bytes_of told))
    → OnErr response (AppendsFront before now (bytes_of told))
    → IfErr response (λ e. e ≡ Read → ⊥)
    → TellsOf told before now (code_told response)
tells_of told before now (Ok response) wrote front fault = (ap code_of wrote.0, wrote.1)
tells_of told before now (Err Read) wrote front fault = absurd (fault refl)
tells_of told before now (Err Memory) wrote front fault = front
tells_of told before now (Err Write) wrote front fault = front

module _ {S H : Type 0} (s : Ghosts S) (h : ShelfGhosts H) (old new : Bench S H) where
  pub unless_withheld : (away : Image) (u : World) (demand : Demand) (it : Finding)
      → FoundBehindLook s h old new away u demand it
      → FindsUnlessWithheld s h old new away u demand it
  unless_withheld away u demand (finding.Withheld list) found = tt
  unless_withheld away u demand it found = found

  pub had_nothing : (demand : Demand) (it : Finding) → IsPut it
      → HasNothingInTheWay s h old new demand → HadNothing s h old new demand it
  had_nothing demand (finding.Withheld list) put none = absurd put
  had_nothing demand (finding.Failed fault) put none = tt
  had_nothing demand it put none = none

  module _ (away : Image) (u : World) (input before now : Option (List ℕ)) where
    -- a request that is served by what its demand came to
    pub guarded_served : (asked : Asked) → IfSome input (λ bytes. Asks bytes asked)
        → (it : Finding) (told : Result Response FrontFault)
        → FindsUnlessWithheld s h old new away u (demand_of asked) it
        → HadNothing s h old new (demand_of asked) it
        → IfOk told (λ response. (response.status ≡ (told_of it).status)
        × Appends before now (bytes_of (told_of it)))
        → OnErr told (AppendsFront before now (bytes_of (told_of it)))
        → IfErr told (λ e. e ≡ Read → ⊥)
        → ServesOrWithholds s h old new away u input before now (code_told told) (fault_of it)
    guarded_served asked asks (finding.Withheld list) told found had wrote front fault =
        inr (inr (record {
          asked = asked;
          asks = asks;
          list = list.items;
          withheld = had;
          told = tells_of (withheld_told list.items) before now told wrote front fault;
          none = refl;
        }))
    guarded_served asked asks (finding.Failed failed) told found had wrote front fault =
        inr (inl (record {
          asked = asked;
          asks = asks;
          nothing = λ e. absurd (let no : ⊥ = cc in no);
          mid = found.mid;
          looked = found.looked;
          serves = served s h input before now (registry_of found.mid)
              (registry_of new) (shelf_of found.mid) (shelf_of new) away u asked asks
              (finding.Failed failed) told found.comes wrote front fault;
        }))
    guarded_served asked asks it told found had wrote front fault =
        inr (inl (record {
          asked = asked;
          asks = asks;
          nothing = λ e. had;
          mid = found.mid;
          looked = found.looked;
          serves = served s h input before now (registry_of found.mid)
              (registry_of new) (shelf_of found.mid) (shelf_of new) away u asked asks it told
              found.comes wrote front fault;
        }))
