use Rattle.gm_words.proofs.Common.{◌∙◌, ◌*◌, ◌++◌, ap, codes, string_bytes, balance_name, field, mirror_flag_names, number}
use Rattle.gm_words.specs.Lines.{joined}
use Rattle.gm_words.proofs.GrownText.{also}
use Rattle.gm_words.proofs.listing.setting_lines.Goals as goal

pub returns : goal.returns
returns c =
    let m = c.args.m.now in
    let balance = string_bytes c.new-text.result in
    let slice = string_bytes c.push_field.new.text in
    let flags = string_bytes c.push_number.new.text in
    let size = string_bytes c.push_field-2.new.text in
    also (number (codes "Mediasize") (512 * m.data_sectors))
    (also (field (codes "Flags") (joined (mirror_flag_names m.flags)))
    (also (number (codes "Slice") m.slice)
    (also (field (codes "Balance") (balance_name m.balance)) c.new-text.ensures.bytes
    (c.in_ok-push_field.ensures ∙ ap (λ v. balance ++ field (codes "Balance") v) c.name.ensures))
    (c.in_ok-push_number.ensures ∙ ap (λ v. slice ++ number (codes "Slice") v) c.from.ensures))
    (c.in_ok-push_field-2.ensures ∙ ap (λ v. flags ++ field (codes "Flags") v)
    (c.as_str.ensures.value ∙ c.in_ok-flags.ensures)))
    (c.in_ok-push_number-2.ensures ∙ ap (λ v. size ++ number (codes "Mediasize") v)
    c.bytes_of.ensures)
