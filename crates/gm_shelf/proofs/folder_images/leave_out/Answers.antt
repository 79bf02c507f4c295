use Rattle.gm_shelf.proofs.Common.{rules, not, filter_same_pairs, is_one_of}
use Rattle.gm_shelf.proofs.folder_images.leave_out.Goals as goal

pub returns : goal.returns
returns c =
    filter_same_pairs _ (λ named. not (is_one_of c.args.files.now named.1)) _
    (λ k v b w f' t. (search rules, search rules, search rules)) _ _ c.retain.ensures.filtered
