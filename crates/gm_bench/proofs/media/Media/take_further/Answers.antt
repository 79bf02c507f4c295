use Rattle.gm_bench.proofs.Common.{Ok, sym, subst, map, string_bytes}
use Rattle.gm_bench.specs.declared.judgement.Judgement.TheVariants.{Refused, Repeated}
use Rattle.gm_bench.specs.Judgements.{TakesFurther}
use Rattle.gm_bench.proofs.TakenFurther.{kept_judgement}
use Rattle.gm_bench.proofs.media.Media.take_further.Goals as goal

pub returns-in-Repeated : goal.returns-in-Repeated
returns-in-Repeated g c =
    let more = map string_bytes c.args.more.now in
    let jd = Repeated c.in-Repeated.number c.in-Repeated.reply in
    subst (λ j. TakesFurther g.S.Store g.H.Shelf c.args.self.now c.args.self.now (Ok jd) j
    c.args.key.now more c.args.command.now) (sym c.in-Repeated.is)
    (kept_judgement g.S.Store g.H.Shelf g.met.S.Store.settled g.met.H.Shelf.lawful c.args.self.now
    jd c.args.key.now more c.args.command.now)

pub returns-in-Refused : goal.returns-in-Refused
returns-in-Refused g c =
    let more = map string_bytes c.args.more.now in
    let jd = Refused c.in-Refused.why in
    subst (λ j. TakesFurther g.S.Store g.H.Shelf c.args.self.now c.args.self.now (Ok jd) j
    c.args.key.now more c.args.command.now) (sym c.in-Refused.is)
    (kept_judgement g.S.Store g.H.Shelf g.met.S.Store.settled g.met.H.Shelf.lawful c.args.self.now
    jd c.args.key.now more c.args.command.now)
