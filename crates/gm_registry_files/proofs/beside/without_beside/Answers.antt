use Rattle.gm_registry_files.proofs.Common.{◌∙◌, ◌++◌, ap, filter, map, rules, string_bytes, is_beside, names_of}
use Rattle.std.specs.Prelude.{not}
use Rattle.std.proofs.lemmas.Fn.{filter_same}
use Rattle.gm_registry_files.proofs.beside.without_beside.Goals as goal

pub returns : goal.returns
returns c =
    let images = c.args.images.now in
    filter_same _
    (λ x. not (is_beside (images ++ map string_bytes c.in_ok-names.names.items)
    (string_bytes x.name)))
    _ (λ x b f' called. (search rules, search rules)) _ _ c.retain.ensures.filtered
    ∙ ap (λ names. filter (λ x. not (is_beside (images ++ names) (string_bytes x.name)))
    c.args.passed.items) (c.in_ok-names.ensures ∙ ap names_of c.deref.ensures.value)
