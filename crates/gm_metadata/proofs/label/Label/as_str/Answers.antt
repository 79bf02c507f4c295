use Rattle.gm_metadata.proofs.Common.{rules, IsUtf8}
use Rattle.gm_metadata.proofs.Labels.{label_is_text, ok_where_no_error}
use Rattle.gm_metadata.proofs.label.Label.as_str.Goals as goal

pub unwrap-requires : goal.unwrap-requires
unwrap-requires c =
    let text : IsUtf8 c.as_bytes.result.now = label_is_text _ (search rules) in
    ok_where_no_error _ _ _ (λ e told. told.0 text) c.from_utf8-text.ensures.cases
