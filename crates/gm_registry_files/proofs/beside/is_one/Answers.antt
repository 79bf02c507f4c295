use Rattle.gm_registry_files.proofs.Common.{◌≡◌, ◌∙◌, false, ◌||◌, sym, ap, list_any, bytes_eq, string_bytes}
use Rattle.gm_registry_files.proofs.SuffixedNames.{any_of_both}
use Rattle.gm_registry_files.proofs.beside.is_one.Goals as goal

pub returns-else-is_image : goal.returns-else-is_image
returns-else-is_image c =
    let name = c.args.name.now in
    let none : list_any (λ x. bytes_eq x name) c.args.images.now ≡ false =
    sym c.is_image.ensures ∙ c.if-is_image.false in
    c.is_other.ensures
    ∙ (ap (λ b. b || list_any (λ x. bytes_eq (string_bytes x) name) c.args.others.now) (sym none)
    ∙ any_of_both (λ x. bytes_eq x name) string_bytes c.args.images.now c.args.others.now)
