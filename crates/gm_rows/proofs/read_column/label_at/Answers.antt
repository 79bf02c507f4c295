use Rattle.gm_rows.proofs.Common.{◌≡◌, List, ℕ, IsTrue, subst, Value, is_label}
use Rattle.std.specs.Str.{IsUtf8}
use Rattle.sqlite_value.specs.declared.value.Value.TheVariants.{Text}
use Rattle.gm_metadata.proofs.Labels.{label_is_text}
use Rattle.gm_rows.proofs.read_column.label_at.Goals as goal

-- what isn't text of Unicode is no label
no_label : (text name : List ℕ) (value : Value) → Text text ≡ value → (IsUtf8 text → ⊥)
    → IsTrue (is_label name) → value ≡ Text name → ⊥
no_label text name value is other label same = let e : name ≡ text = cc in
    other (subst IsUtf8 e (label_is_text name label))

pub returns-in-Err-clause-none : goal.returns-in-Err-clause-none
returns-in-Err-clause-none c name label is =
    no_label c.in-Ok-Text.text.now name _ (rw c.in-Ok-Text.field-0-is at c.in-Ok-Text.ensures.ok).1
    c.in-Err.ensures.cases.0 label is
