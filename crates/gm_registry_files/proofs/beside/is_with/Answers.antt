use Rattle.gm_registry_files.proofs.Common.{◌≡◌, ◌∙◌, ◌++◌, None, Some, map, sym, ap, string_bytes, Decides-eqb, strip_suffix_is, is_with}
use Rattle.gm_registry_files.proofs.SuffixedNames.{none_with, one_with}
use Rattle.gm_registry_files.proofs.beside.is_with.Goals as goal

pub returns-in-Some : goal.returns-in-Some
returns-in-Some c =
    let databases = c.args.images.now ++ map string_bytes c.args.others.now in
    let database = c.in-Some.database.now in
    let whole = strip_suffix_is Decides-eqb c.as_bytes.result.now c.as_bytes-2.result.now
    (Some c.in-Some.database) c.in-Some.ensures.cases in
    let is : c.args.name.now ≡ database ++ c.args.suffix.now =
    sym c.as_bytes.ensures.value
    ∙ (whole ∙ ap (λ s. database ++ s) c.as_bytes-2.ensures.value) in
    c.is_one.ensures
    ∙ (one_with databases database c.args.suffix.now
    ∙ ap (λ name. is_with databases name c.args.suffix.now) (sym is))

pub returns-in-None : goal.returns-in-None
returns-in-None c =
    let other = strip_suffix_is Decides-eqb c.as_bytes.result.now c.as_bytes-2.result.now None
    c.in-None.ensures.cases in
    sym (none_with (c.args.images.now ++ map string_bytes c.args.others.now) c.args.name.now
    c.args.suffix.now
    (λ front e. other front (c.as_bytes.ensures.value
    ∙ (e ∙ ap (λ s. front ++ s) (sym c.as_bytes-2.ensures.value)))))
