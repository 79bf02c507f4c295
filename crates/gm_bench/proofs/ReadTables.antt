-- The tables that a bench has are readable, and say what it stands for.
use Rattle.gm_bench.proofs.Common.{◌≡◌, ◌≤◌, ℕ, List, [], map, length, arith, length-map, length_permutation, Image, Intent, Records, Tables, answer_row, intent_rows, World, AreTablesOf, HasNothingPending, Leads}
use Rattle.gm_state.proofs.Suffixes.{none_left}

pub tables_of : (t : Tables) (ts : List Intent) (bytes : List (List ℕ)) (x : Image) (w : World)
    → Leads t ts bytes x w → AreTablesOf t w.state ts bytes
tables_of t ts bytes x w l = record {
  state = l.sound.state;
  mirrors = l.records.mirrors;
  components = l.records.components;
  intents = l.intents;
  patches = l.patches;
  readable = l.readable;
  count = (let e : length t.commands ≡ length (map answer_row w.answered) = length_permutation
      (map answer_row w.answered) t.commands l.records.commands in
      let f : length (map answer_row w.answered) ≡ length w.answered =
      length-map w.answered answer_row in
      let g : length w.answered ≤ 100000 = l.sound.answers.count in omega (arith, e, f));
}

-- at rest nothing is pending
pub pending_none : (t : Tables) (s : Records) → AreTablesOf t s [] [] → HasNothingPending t
pending_none t s are =
    let same : length t.intents ≡ 0 =
    length_permutation (intent_rows 1 []) t.intents are.intents in
    (none_left t.intents 0 (omega (arith, same)), are.patches)
