use Rattle.gm_metadata.proofs.Common.{rules, ◌≡◌, Some, true, ap, sym, subst, refl, is_label, IsLabelField}
use Rattle.gm_metadata.proofs.Labels.{field_of_label, name_again, label_parts, copied_name}
use Rattle.gm_metadata.proofs.label.Label.new.Goals as goal

pub invariant_of-result : goal.invariant_of-result
invariant_of-result c =
    let text = c.args.text.now in
    let passes : is_label text ≡ true = search rules in
    let e = copied_name text c.as_bytes-text.result.now c.copy_from_slice.new.self _ (search rules)
    (search rules) refl in
    subst IsLabelField (sym e) (field_of_label text passes)

pub returns : goal.returns
returns c =
    let text = c.args.text.now in
    let passes : is_label text ≡ true = search rules in
    let e = copied_name text c.as_bytes-text.result.now c.copy_from_slice.new.self _ (search rules)
    (search rules) refl in
    rw (e, passes) (ap Some (name_again text _ (label_parts text passes).2))
