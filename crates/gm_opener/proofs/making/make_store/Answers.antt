use Rattle.std.proofs.Common.{sym, ap, subst, subst₂, ◌∙◌, inl, inr}
use Rattle.sqlite.proofs.OpenLemmas.{pool_files}
use Rattle.sqlite_pool.specs.Opening.{IsBlankFile}
use Rattle.sqlite_wal.specs.Files.{outcomes, seen_image}
use Rattle.sqlite_wal.specs.Reads.{are_clean}
use Rattle.gm_opener.proofs.Begun.{on_the_way}
use Rattle.gm_opener.proofs.making.make_store.Goals as goal

pub returns-in-Ok-create-clause-clean : goal.returns-in-Ok-create-clause-clean
returns-in-Ok-create-clause-clean g c still =
    let same = ap (λ f. are_clean g.D.Disk f.0 f.1) c.in-Ok.ensures.files in
    sym ((pool_files c.in-Ok.unopened.pool).1 ∙ same) ∙ c.in-Ok-create.ensures.clean still

pub returns-in-Err-create-clause-unharmed : goal.returns-in-Err-create-clause-unharmed
returns-in-Err-create-clause-unharmed g c still =
    let files = pool_files c.in-Ok.unopened.pool in
    let made = c.in-Ok.ensures in
    let same = ap (λ f. are_clean g.D.Disk f.0 f.1) made.files in
    let clean = sym (files.1 ∙ same) ∙ c.in-Err-create.ensures.left still in
    let seen = ap (λ f. seen_image g.D.Disk f.0 f.1) made.files in
    let blank = subst₂ IsBlankFile (sym made.size) (sym seen) (c.requires.blank clean) in
    let kept = (c.in-Err-create.ensures.kept still).blank blank in
    inl (
      c.requires.blank clean,
      λ image may. elim (kept image may) [
        | inl was ↦
            inl (subst (λ f. outcomes g.D.Disk f.0 f.1 image) made.files (files.2 image was))
        | inr way ↦ inr (on_the_way c.in-Ok.unopened image made.size made.none way)
      ],
    )
