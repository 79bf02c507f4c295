-- A bench whose pending intents are done: without them its tables lead to the same world.
use Rattle.gm_bench.proofs.Common.{◌≡◌, ◌∙◌, ℕ, List, [], refl, sym, ap, subst, IsPermutation, Ghosts, Held, Image, IsLawful, Intent, Records, Tables, HoldRecords, intent_rows, patch_rows, World, AreRecordsOf, settled, Waiting, Nothing, HasNothingElse, WaitsFor, left_by, HasNothingPending, AreAmong, whole, Leads, IsAt, IsCarriedOut, IsShelfOf}
use Rattle.gm_shelf.specs.declared.shelf.Shelf.{Ghosts as ShelfGhosts}
use Rattle.gm_bench.specs.declared.phase.Waiting.TheVariants.{Done}
use Rattle.gm_bench.proofs.CommitLeadsOn.{no_rows}
use Rattle.gm_bench.proofs.ShelfProviders.{masked, there_full, whole_there}
use Rattle.gm_bench.proofs.WorldAtRest.{at_rest, rest_leads, whole_rest}

settled_records : (w : World) (t : Tables) → HoldRecords w t → HoldRecords w (settled t)
settled_records w t r = record {
  mirrors = r.mirrors;
  components = r.components;
  commands = r.commands;
}

pub nothing_else : (waiting : Waiting) (t : Tables) → HasNothingPending t
    → HasNothingElse waiting t
nothing_else Nothing t none = none
nothing_else Done t none = tt

-- the records are as well those of the tables that a command is accepted on
pub left_records : (waiting : Waiting) (t : Tables) (s : Records) → AreRecordsOf t s
    → AreRecordsOf (left_by waiting t) s
left_records Nothing t s are = are
left_records Done t s are = record {
  state = are.state;
  rows = record { mirrors = are.rows.mirrors; components = are.rows.components };
}

module _ {S H : Type 0} (g : Ghosts S) (j : ShelfGhosts H) (r : Held S) (h : H)
    (away : Image) where
  module _ (ts : List Intent) (bytes : List (List ℕ)) (u w : World) where
    abbrev pub carried_out : IsAt g j r h away ts bytes u w
        → IsShelfOf (j.view h) w (j.size h) → IsCarriedOut g j r h away ts bytes u w
    carried_out at shelf = record {
      tables = at.tables;
      has = at.has;
      sizes = at.sizes;
      at_hand = at.at_hand;
      leads = at.leads;
      shelf = shelf;
    }

    abbrev pub at_of : IsCarriedOut g j r h away ts bytes u w
        → IsAt g j r h away ts bytes u w
    at_of at = record {
      tables = at.tables;
      has = at.has;
      sizes = at.sizes;
      at_hand = at.at_hand;
      leads = at.leads;
    }

    module _ (at : IsCarriedOut g j r h away ts bytes u w) (lawful : IsLawful (j.view h))
      where
        pub seen_leads : Leads at.tables ts bytes (whole (j.size h) away (j.view h).seen) w
        seen_leads = (at.leads (j.view h).seen lawful.holds_now).0

        mask : AreAmong (j.size h) w.size
        mask = masked w (j.size h) at.sizes

        pub settled_leads : (x : Image) → (j.view h).may_leave x
            → Leads (settled at.tables) [] [] (whole (j.size h) away x) w
        settled_leads x left =
            rest_leads (settled at.tables) (whole (j.size h) away x) w seen_leads.sound
            (settled_records w at.tables seen_leads.records) refl refl
            (whole_rest at.tables ts bytes (j.size h) away (j.view h).seen x w mask at.at_hand
            seen_leads
            (at.shelf x left))

        pub left_settled : (waiting : Waiting) → WaitsFor waiting ts bytes
            → left_by waiting at.tables ≡ settled at.tables
        left_settled Nothing none =
            let rows : IsPermutation (intent_rows 1 []) at.tables.intents =
            subst (λ (l : List Intent). IsPermutation (intent_rows 1 l) at.tables.intents) none.0
            seen_leads.intents in
            let intents : at.tables.intents ≡ [] = no_rows at.tables rows in
            let patches : at.tables.patches ≡ [] = seen_leads.patches ∙ ap patch_rows none.1 in
            λ i. record at.tables { intents = intents i; patches = patches i }
        left_settled Done none = refl

  -- at rest the shelf is the world's
  abbrev pub done_at_rest : (u : World) → IsAt g j r h away [] [] u u
      → IsCarriedOut g j r h away [] [] u u
  done_at_rest u at = record {
    tables = at.tables;
    has = at.has;
    sizes = at.sizes;
    at_hand = at.at_hand;
    leads = at.leads;
    shelf = λ x left q there i. sym (whole_there (j.size h) away x q there i)
        ∙ at_rest at.tables (whole (j.size h) away x) u (at.leads x left).0 q
        (there_full (j.size h) u.size (masked u (j.size h) at.sizes) q there) i;
  }
