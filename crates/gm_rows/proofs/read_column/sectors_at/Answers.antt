use Rattle.gm_rows.proofs.Common.{◌≡◌, ◌<◌, ◌*◌, ◌^◌, ℕ, pos, IfNone, Option, Some, None, Value, Int}
use Rattle.gm_rows.proofs.read_column.sectors_at.Goals as goal

no_sectors : (o : Option ℕ) (value : Value) (bytes : ℕ) → value ≡ Int (pos bytes)
    → IfNone o ((n : ℕ) → n < 2 ^ 32 → 512 * n ≡ bytes → ⊥)
    → IfNone o ((n : ℕ) → n < 2 ^ 32 → value ≡ Int (pos (512 * n)) → ⊥)
no_sectors None value bytes is none = λ n small same. none n small (cc)
no_sectors (Some n) value bytes is none = tt

pub returns-clause-none : goal.returns-clause-none
returns-clause-none c =
    no_sectors c.sectors_of.result _ c.in_ok-u64_at.field-0 c.in_ok-u64_at.ensures.some
    c.sectors_of.ensures.none
