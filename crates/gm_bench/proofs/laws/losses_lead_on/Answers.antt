use Rattle.gm_bench.proofs.Common.{◌≡◌, List, sym, subst, IsPermutation, Intent, intent_rows, patch_rows, KeepsClaims, Leads, as_left, left_to_lay}
use Rattle.gm_bench.proofs.LossReadable.{loss_of}
use Rattle.gm_bench.proofs.Losses.{leads_to_loss, keeps_in_loss}
use Rattle.gm_bench.proofs.laws.losses_lead_on.Goals as goal

pub returns : goal.returns
returns c = λ u w v key n p next ts us bytes m y away before t sound found
    plan left leads has_next rows after is intents patches keeps.
    let loss = loss_of w v key n p us m sound found plan in
    subst (λ (all : List Intent). IsPermutation (intent_rows 1 all) t.intents
    → t.patches ≡ patch_rows (left_to_lay all bytes)
    → Leads t all (left_to_lay all bytes) y (as_left v p away)
    × KeepsClaims all y u (as_left v p away)) (sym is)
    (λ placed laid. (
      leads_to_loss u w v m p next loss ts bytes y away left before leads has_next t rows placed
          laid,
      keeps_in_loss u w v m p next loss ts bytes y away left before leads has_next keeps,
    )) intents patches
