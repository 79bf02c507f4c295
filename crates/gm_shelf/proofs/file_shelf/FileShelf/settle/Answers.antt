use Rattle.gm_shelf.proofs.Common.{◌∙◌}
use Rattle.gm_shelf.proofs.file_shelf.FileShelf.settle.Goals as goal

pub returns-in_err-settle_image-clause-same : goal.returns-in_err-settle_image-clause-same
returns-in_err-settle_image-clause-same g c = record {
  folder = c.settle_image.ensures.same.folder ∙ c.loop-name.invariant.same.folder;
  images = c.settle_image.ensures.same.images ∙ c.loop-name.invariant.same.images;
}
