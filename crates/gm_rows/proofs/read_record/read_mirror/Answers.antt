use Rattle.gm_rows.proofs.Common.{◌≡◌, pos, Option, Some, None, IfNone, ap, Row, column, Int, mirror_bits, MirrorFlags, Mirror, mirror_row, mirror_values, columns_at, nine, IsMirrorValue}
use Rattle.gm_rows.proofs.read_record.read_mirror.Goals as goal

always : {A : Type 0} (o : Option A) (P : Type 0) → P → IfNone o P
always None P p = p
always (Some a) P p = tt

no_mirror : (row : Row) → ((f : MirrorFlags) → column row 8 ≡ Int (pos (mirror_bits f)) → ⊥)
    → (m : Mirror) → IsMirrorValue m → columns_at nine row ≡ mirror_values (mirror_row m) → ⊥
no_mirror row none m fits e = none m.flags (ap (λ r. column r 8) e)

pub returns-in_err-mirror_flags_at-clause-none : goal.returns-in_err-mirror_flags_at-clause-none
returns-in_err-mirror_flags_at-clause-none c =
    always _ _ (no_mirror c.args.row.now c.in_err-mirror_flags_at.ensures.none)
