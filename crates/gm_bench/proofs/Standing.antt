-- A bench that takes a command stands for a world: what waits to be settled is carried out.
use Rattle.gm_bench.proofs.Common.{◌≡◌, inl, inr, ℕ, List, [], refl, sym, subst, subst₂, Result, Ok, Err, OnOk, Ghosts, Held, Image, IsLawful, Intent, Records, Tables, World, AreRecordsOf, AreTablesOf, CrashLeavesOnly, Work, Progress, Ready, Pending, Applied, Failed, Waiting, Nothing, HasNothingElse, WaitsFor, HasNothingPending, whole, SettleDoes, SettleLeaves, TakesCommands, waiting_of, IsAt, IsCarriedOut, LeavesOnly, Stands}
use Rattle.gm_shelf.specs.declared.shelf.Shelf.{Ghosts as ShelfGhosts}
use Rattle.gm_bench.proofs.CarriedOut.{at_of, carried_out, done_at_rest}
use Rattle.gm_bench.proofs.ReadTables.{pending_none, tables_of}
use Rattle.gm_bench.proofs.RegistryLeaves.{still_only}

-- no intent is pending but those that wait
pub else_none : (p : Progress) (t : Tables) (s : Records) (ts : List Intent)
    (bytes : List (List ℕ)) → WaitsFor (waiting_of p) ts bytes → AreTablesOf t s ts bytes
    → HasNothingElse (waiting_of p) t
else_none p t s ts bytes waits are = by p waits
  where
    rests : (ts ≡ []) × (bytes ≡ []) → HasNothingPending t
    rests none =
        pending_none t s (subst₂ (λ (l : List Intent) (b : List (List ℕ)). AreTablesOf t s l b)
        none.0 none.1 are)

    by : (p : Progress) → WaitsFor (waiting_of p) ts bytes → HasNothingElse (waiting_of p) t
    by Ready none = rests none
    by (Pending work) none = rests none
    by (Applied work) none = tt
    by Failed none = rests none

-- the records of such tables
pub carried_records : (t : Tables) (s : Records) (ts : List Intent) (bytes : List (List ℕ))
    → AreTablesOf t s ts bytes → AreRecordsOf t s
carried_records t s ts bytes are = record {
  state = are.state;
  rows = record { mirrors = are.mirrors; components = are.components };
}

module _ {S H : Type 0} (g : Ghosts S) (j : ShelfGhosts H) where
  -- the tables of a bench whose intents are carried out say its world's records
  pub carried_tables : (r : Held S) (h : H) (away : Image) (ts : List Intent)
      (bytes : List (List ℕ)) (v u : World) (at : IsCarriedOut g j r h away ts bytes v u)
      → IsLawful (j.view h) → AreTablesOf at.tables u.state ts bytes
  carried_tables r h away ts bytes v u at lawful =
      tables_of at.tables ts bytes (whole (j.size h) away (j.view h).seen) u
      (at.leads (j.view h).seen lawful.holds_now).0

  -- some intents and bytes are what waits, and are carried out
  pub record CarriedSo (waiting : Waiting) (r : Held S) (h : H) (away : Image)
      (v u : World) : Type 0 where
    pub intents : List Intent
    pub bytes : List (List ℕ)
    pub at : IsCarriedOut g j r h away intents bytes v u
    pub waits : WaitsFor waiting intents bytes

  abbrev at_rest : (r : Held S) (h : H) (away : Image) (v u : World) → v ≡ u
      → IsAt g j r h away [] [] u u → CarriedSo Nothing r h away v u
  at_rest r h away v u same at = record {
    intents = [];
    bytes = [];
    at = subst (λ (x : World). IsCarriedOut g j r h away [] [] x u) (sym same)
        (done_at_rest g j r h away u at);
    waits = (refl, refl);
  }

  abbrev pub carried_so : (p : Progress) (r : Held S) (h : H) (away : Image) (v u : World)
      → Stands g j p r h away v u → CarriedSo (waiting_of p) r h away v u
  carried_so Ready r h away v u (same, at) = at_rest r h away v u same at
  carried_so (Pending work) r h away v u stands = absurd stands
  carried_so (Applied work) r h away v u (at, shelf) = record {
    intents = work.intents.items;
    bytes = work.bytes.items;
    at = carried_out g j r h away work.intents.items work.bytes.items v u at.at shelf;
    waits = tt;
  }
  carried_so Failed r h away v u (same, at) = at_rest r h away v u same at

  -- the same intents are still to be settled
  pub stands_still : (p : Progress) (r s : Held S) (h k : H) (away : Image) (v u : World)
      (stands : Stands g j p r h away v u)
      → (let was = carried_so p r h away v u stands in
      IsCarriedOut g j s k away was.intents was.bytes v u)
      → Stands g j p s k away v u
  stands_still Ready r s h k away v u (same, at) after = (
    same,
    subst (λ (x : World). IsAt g j s k away [] [] x u) same
        (at_of g j s k away [] [] v u after),
  )
  stands_still (Pending work) r s h k away v u stands after = absurd stands
  stands_still (Applied work) r s h k away v u (at, shelf) after = (
    record {
      at = at_of g j s k away work.intents.items work.bytes.items v u after;
      cover = at.cover;
    },
    after.shelf,
  )
  stands_still Failed r s h k away v u (same, at) after = (
    same,
    subst (λ (x : World). IsAt g j s k away [] [] x u) same
        (at_of g j s k away [] [] v u after),
  )

  -- at rest a bench stands for its world
  pub stands_rest : (p : Progress) (r : Held S) (h : H) (away : Image) (u : World)
      → TakesCommands p → IsAt g j r h away [] [] u u → Stands g j p r h away u u
  stands_rest Ready r h away u takes at = (refl, at)
  stands_rest (Pending work) r h away u (inl is) at = let no : ⊥ = cc in absurd no
  stands_rest (Pending work) r h away u (inr is) at = let no : ⊥ = cc in absurd no
  stands_rest (Applied work) r h away u (inl is) at = let no : ⊥ = cc in absurd no
  stands_rest (Applied work) r h away u (inr is) at = let no : ⊥ = cc in absurd no
  stands_rest Failed r h away u takes at = (refl, at)

  pub rest_stands : (p : Progress) (r : Held S) (h : H) (away : Image) (v u : World)
      → TakesCommands p → Stands g j p r h away v u → IsAt g j r h away [] [] u u
  rest_stands Ready r h away v u takes stands = stands.1
  rest_stands (Pending work) r h away v u takes stands = absurd stands
  rest_stands (Applied work) r h away v u (inl is) stands = let no : ⊥ = cc in absurd no
  rest_stands (Applied work) r h away v u (inr is) stands = let no : ⊥ = cc in absurd no
  rest_stands Failed r h away v u takes stands = stands.1

  -- nothing is done
  pub stands_only : (p : Progress) (r : Held S) (h : H) (away : Image) (v u : World)
      (stands : Stands g j p r h away v u)
      → CrashLeavesOnly g r (carried_so p r h away v u stands).at.tables → IsLawful (j.view h)
      → LeavesOnly g j r r h h away v u
  stands_only p r h away v u stands only lawful =
      let was = carried_so p r h away v u stands in
      still_only g j r h away was.at.tables was.intents was.bytes v u only lawful was.at.leads

  -- the settling of what waits
  pub settles_to : (p : Progress) (r s : Held S) (h k : H) {E : Type 0}
      (result : Result Unit E) → k ≡ h → (p ≡ Ready → ⊥) → (p ≡ Failed → OnOk result ⊥)
      → ((work : Work) → p ≡ Applied work → OnOk result (SettleDoes g j r s h work))
      → OnOk result ((away : Image) (v u : World) → Stands g j p r h away v u
      → IsAt g j s k away [] [] u u)
  settles_to p r s h k (Err e) same other failed does = tt
  settles_to Ready r s h k (Ok x) same other failed does = absurd (other refl)
  settles_to (Pending work) r s h k (Ok x) same other failed does = λ away v u stands. absurd stands
  settles_to (Applied work) r s h k (Ok x) same other failed does = λ away v u stands.
      subst (λ (l : H). IsAt g j s l away [] [] u u) (sym same)
      (does work refl away v u stands.0 stands.1)
  settles_to Failed r s h k (Ok x) same other failed does = absurd (failed refl)

  pub settling_leaves : (p : Progress) (r s : Held S) (h k : H) (away : Image) (v u : World)
      (stands : Stands g j p r h away v u) → k ≡ h → (p ≡ Ready → ⊥)
      → (p ≡ Failed → s ≡ r)
      → ((work : Work) → p ≡ Applied work → SettleLeaves g j r s h work)
      → LeavesOnly g j r r h h away v u → LeavesOnly g j r s h k away v u
  settling_leaves Ready r s h k away v u stands same other failed leaves none = absurd (other refl)
  settling_leaves (Pending work) r s h k away v u stands same other failed leaves none =
      absurd stands
  settling_leaves (Applied work) r s h k away v u stands same other failed leaves none =
      subst (λ (l : H). LeavesOnly g j r s h l away v u) (sym same)
      (leaves work refl away v u stands.0 stands.1)
  settling_leaves Failed r s h k away v u stands same other failed leaves none =
      subst₂ (λ (x : Held S) (l : H). LeavesOnly g j r x h l away v u)
      (sym (failed refl)) (sym same) none
