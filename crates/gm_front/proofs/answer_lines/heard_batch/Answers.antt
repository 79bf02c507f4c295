use Rattle.gm_front.proofs.Common.{rules, arith, ◌∙◌, Err, ap, refl, inl, DiskKept, Memory, AppendsFront}
use Rattle.gm_front.proofs.Heard.{heard_anyhow, heard_none, heard_whole, only_ended}
use Rattle.gm_front.proofs.Settled.{ended_progress, ends_rest, rests, same_fault}
use Rattle.gm_front.proofs.Turns.{begun, broken, front_all}
use Rattle.gm_front.proofs.answer_lines.heard_batch.Goals as goal

pub returns-in_default-clause-answers : goal.returns-in_default-clause-answers
returns-in_default-clause-answers g c = record {
  does = λ honest kept away u at.
      let so = begun g.S.Store g.H.Shelf c.args.bench.now.progress
      (g.R.Read.remaining c.args.reader.now) (g.W.Write.contents c.args.writer.now) _ _ away u
      c.requires at in
      ends_rest g.S.Store g.H.Shelf _ _ _ _ _ away u
      c.args.bench.now.progress c.requires (Err Memory)
      (inl (broken g.S.Store g.H.Shelf _ _ _ _ _ _ _ away u _
      (AppendsFront _ _) so (front_all _ _ _ so.told)
      (λ lines left applied. absurd (rests _ c.requires applied))));
  progress = tt;
  phase = c.requires;
  closes = record {
    closed = λ _. refl;
    reopen = search rules;
    absent = search rules;
    redone = refl;
  };
  keep = record {
    shelf = record { honest = λ h. h; size = refl; count = omega arith };
    clean = omega arith;
  };
}

pub returns-in_default-clause-heard : goal.returns-in_default-clause-heard
returns-in_default-clause-heard g c = heard_whole _ _ _ _ _ _ (heard_none _ _ _) _

pub returns-clause-heard : goal.returns-clause-heard
returns-clause-heard g c =
    heard_anyhow _ _ _ _ _ _ _ c.answer_lines-end.ensures.heard c.settled.ensures.ended

pub returns-clause-answers : goal.returns-clause-answers
returns-clause-answers g c =
    let did = c.answer_lines-end.ensures in
    let then = c.settled.ensures in
    let ended = only_ended c.answer_lines-end.result c.settled.result then.ended in
    record {
      does = λ honest kept away u at. (
          let mid : DiskKept g.S.Store c.answer_lines-end.new.bench.media.registry =
          omega (arith, kept, then.keep.clean) in
          then.does (did.keep.shelf.honest honest) kept _ _ _ away u
          (did.does honest mid away u at));
      progress = ended_progress c.requires c.answer_lines-end.result did.far.ended
          did.closes.closed c.settled.result ended then.rested then.closes.closed;
      phase = then.phase;
      closes = record {
        closed = λ failed.
            then.closes.closed (ap (λ b. b.progress) (did.closes.closed failed) ∙ failed)
            ∙ did.closes.closed failed;
        reopen = λ is. did.closes.reopen
            (same_fault c.answer_lines-end.result c.settled.result ended is);
        absent = λ p is. did.closes.absent p
            (same_fault c.answer_lines-end.result c.settled.result ended is);
        redone = then.closes.redone ∙ did.closes.redone;
      };
      keep = record {
        shelf = record {
          honest = λ h. then.keep.shelf.honest (did.keep.shelf.honest h);
          size = then.keep.shelf.size ∙ did.keep.shelf.size;
          count = omega (arith, did.keep.shelf.count, then.keep.shelf.count);
        };
        clean = omega (arith, did.keep.clean, then.keep.clean);
      };
    }
