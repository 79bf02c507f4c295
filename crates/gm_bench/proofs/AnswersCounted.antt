-- How many answers a world has: one for each accepted call.
use Rattle.gm_bench.proofs.Common.{◌≡◌, ◌∙◌, ℕ, suc, ◌+◌, None, List, [], ◌∷◌, length, map, sym, ap, arith, if◌then◌else◌, length-map, length_permutation, Trees, Image, Sizes, Call, answer_row, World, present, Steps, Recovers, Entry, Handed_in, Without, Reached, HasCount, count_in}
use Rattle.gm_rules.proofs.SeriesTurns.{steps_answered, steps_sizes, steps_there}

-- as many answers as accepted calls
pub answered_many : (all : Sizes) (acc : List Entry) (w : World) → Reached all acc w
    → length w.answered ≡ count_in acc
answered_many all [] w new = ap length new.answered
answered_many all (Without call p gone ∷ older) w (u, reached, s) =
    let e = answered_many all older u reached in
    let long : length w.answered ≡ suc (length u.answered) =
    ap length (s.answered ∙ s.step.answered) in
    omega (arith, e, long)
answered_many all (Handed_in calls ∷ older) w (u, reached, s) =
    let e = answered_many all older u reached in
    let long : length w.answered ≡ length calls + length u.answered =
    ap length s.moved.answered ∙ steps_answered u s.stepped calls s.steps in
    omega (arith, e, long)

-- with fewer images it leads on as well
pub fewer : (db : Trees) (size : Sizes) (away : Image) (X Y : Image → Type 0) (u w : World)
    → Recovers db size away X u w → ((x : Image) → Y x → X x) → Recovers db size away Y u w
fewer db size away X Y u w r less =
    record {
      tables = r.tables;
      intents = r.intents;
      bytes = r.bytes;
      stored = r.stored;
      leads = λ x l. r.leads x (less x l);
    }

-- the tables of a store that leads to w count its answers
pub counts : (db : Trees) (size : Sizes) (away : Image) (X : Image
    → Type 0) (x : Image) (u w : World) (n : ℕ) → X x → Recovers db size away X u w → HasCount db n
    → length w.answered ≡ n
counts db size away X x u w n there r count =
    let l = (r.leads x there).0 in
    let many : length r.tables.commands ≡ length (map answer_row w.answered) =
    length_permutation (map answer_row w.answered) r.tables.commands l.records.commands in
    sym (length-map w.answered answer_row) ∙ (sym many ∙ count r.tables r.stored)

-- steps keep the providers
pub steps_present : (u w : World) (calls : List Call) → Steps u calls w → present w ≡ present u
steps_present u w calls s =
    λ i q. if steps_there u w calls s q i then steps_sizes u w calls s q i else None
