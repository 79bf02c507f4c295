-- The numbers of the commands through a change.
use Rattle.gm_registry.proofs.Common.{◌≡◌, ℕ, suc, ◌+◌, true, List, [], ◌∷◌, map, length, refl, sym, ap, subst, arith, IsPermutation, IsPermutation-cons, Database, State, Held, state, inside_as, begun, Tables, CommandRow, Changed, Further, string_bytes, registry_schema, HasRows, HasCounted, SeesTables, IsInside, AreNumbered, numbers_of, Pending, Stays, Goes, left_of, with_records, with_change, settled, command_row, count_of}
use Rattle.sqlite_trees.specs.declared.store.Store as store
use Rattle.sqlite_rows.specs.Calls.{IsInside as IsInsideBy}
use Rattle.gm_registry.proofs.Written.{commands_with, further_rows, with_records_is}

-- one command more, under the next number
more_numbered : (c : CommandRow) (commands : List CommandRow) → c.seq ≡ length commands + 1
    → AreNumbered commands → AreNumbered (c ∷ commands)
more_numbered c commands next numbered =
    let is : suc (length commands) ≡ c.seq = omega (arith, next) in
    subst (λ n. IsPermutation (n ∷ numbers_of (length commands))
    (c.seq ∷ map (λ (d : CommandRow). d.seq) commands)) (sym is)
    (IsPermutation-cons c.seq (numbers_of (length commands))
    (map (λ (d : CommandRow). d.seq) commands) numbered)

-- records leave the commands
pub records_keep : (ch : Changed) (t : Tables) → (with_records ch t).commands ≡ t.commands
records_keep ch t = ap (λ (a : Tables). a.commands) (with_records_is ch t)

-- so do they under further keys, by the next numbers
rows_numbered : (fs : List Further) (n : ℕ) (words : List ℕ) (rows : List CommandRow)
    → n ≡ length rows + 1 → AreNumbered rows → AreNumbered (further_rows fs n words rows)
rows_numbered [] n words rows next numbered = numbered
rows_numbered (f ∷ more) n words rows next numbered =
    let first = command_row (string_bytes f.key) n words f.reply in
    rows_numbered more (n + 1) words (first ∷ rows) (omega (arith, next))
    (more_numbered first rows next numbered)

-- the numbers go on without a gap
pub change_numbered : (ch : Changed) (key : List ℕ) (n : ℕ) (words : List ℕ) (t : Tables)
    → n ≡ count_of t + 1 → AreNumbered t.commands
    → AreNumbered (with_change ch key n words t).commands
change_numbered ch key n words t next numbered =
    let first = command_row key n words ch.reply in
    subst AreNumbered (sym (commands_with ch key n words t))
    (rows_numbered ch.further (n + 1) words (first ∷ t.commands) (omega (arith, next))
    (more_numbered first t.commands next numbered))

-- what becomes of the intents leaves the commands
pub left_commands : (p : Pending) (t : Tables) → (left_of p t).commands ≡ t.commands
left_commands Stays t = refl
left_commands Goes t = refl

-- so do they if intents go first
pub left_numbered : (ch : Changed) (key : List ℕ) (n : ℕ) (words : List ℕ) (p : Pending)
    (t : Tables) → n ≡ count_of t + 1 → AreNumbered t.commands
    → AreNumbered (with_change ch key n words (left_of p t)).commands
left_numbered ch key n words Stays t next numbered = change_numbered ch key n words t next numbered
left_numbered ch key n words Goes t next numbered =
    change_numbered ch key n words (settled t) next numbered

-- at the beginning of a transaction the rows are those of the tables
pub begun_rows : {S : Type 0} (g : store.Ghosts S) (old : Held S) (t : Tables)
    → SeesTables (state g old) t
    → IsInside (state g old).committed (state g (record old { in_transaction = true })) t
begun_rows g old t was =
    inside_as registry_schema HasCounted HasRows t t (state g old).committed
    (state g (record old { in_transaction = true })) (λ counted. counted.rows)
    (begun registry_schema HasCounted g old t was)

-- at its end they are counted
pub counted_inside : (first : Database) (s : State) (t : Tables) → AreNumbered t.commands
    → IsInside first s t → IsInsideBy registry_schema HasCounted first s t
counted_inside first s t numbered =
    inside_as registry_schema HasRows HasCounted t t first s
    (λ rows. record { rows = rows; numbered = numbered })
