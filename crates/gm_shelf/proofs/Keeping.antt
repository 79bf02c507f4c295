-- Calls in turn keep a shelf.
use Rattle.gm_shelf.proofs.Common.{◌∙◌, arith, Keeps, ReadsOnly, Ghosts}
use Rattle.gm_shelf.proofs.InTurn.{reads_then}

module _ {H : Type 0} (g : Ghosts H) (old mid new : H) where
  pub keeps_then : Keeps g old mid → Keeps g mid new → Keeps g old new
  keeps_then first then = record {
    honest = λ h. then.honest (first.honest h);
    size = then.size ∙ first.size;
    count = omega (arith, first.count, then.count);
  }

  pub only_then : ReadsOnly g old mid → ReadsOnly g mid new → ReadsOnly g old new
  only_then first then = record {
    keeps = record {
      honest = λ h. then.keeps.honest (first.keeps.honest h);
      size = then.keeps.size ∙ first.keeps.size;
      count = omega (arith, first.keeps.count, then.keeps.count);
    };
    reads = λ h. reads_then _ _ _ (first.reads h) (then.reads (first.keeps.honest h));
  }
