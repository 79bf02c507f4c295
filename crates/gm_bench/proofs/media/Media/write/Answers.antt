use Rattle.gm_bench.proofs.Common.{sym, subst, Changed, settled, with_accepted, Writes, Waiting, left_by}
use Rattle.gm_registry.specs.Accepting.{Accepts as WritesAccepted}
use Rattle.gm_bench.proofs.LossCommits.{same_pending}
use Rattle.gm_bench.proofs.media.Media.write.Goals as goal

pub returns-in-Done-clause-accepts : goal.returns-in-Done-clause-accepts
returns-in-Done-clause-accepts g c =
    subst (λ (w : Waiting). WritesAccepted g.S.Store c.args.self.now.registry
    c.accept_instead.new.self c.accept_instead.result c.args.change.now (left_by w) c.args.key.now
    c.args.words.now) (sym c.in-Done.is)
    (subst (λ (ch : Changed). WritesAccepted g.S.Store c.args.self.now.registry
    c.accept_instead.new.self c.accept_instead.result ch settled c.args.key.now c.args.words.now)
    (same_pending c.args.change.now c.intents-intents.ensures c.bytes-bytes.ensures)
    c.accept_instead.ensures.accepts)

pub returns-in-Done-clause-writes : goal.returns-in-Done-clause-writes
returns-in-Done-clause-writes g c =
    subst (λ (w : Waiting). Writes g.S.Store c.args.self.now.registry
    c.accept_instead.new.self c.accept_instead.result (λ t. with_accepted c.args.change.now
    c.args.key.now c.args.words.now (left_by w t))) (sym c.in-Done.is)
    (subst (λ (ch : Changed). Writes g.S.Store c.args.self.now.registry
    c.accept_instead.new.self c.accept_instead.result (λ t. with_accepted ch c.args.key.now
    c.args.words.now (settled t)))
    (same_pending c.args.change.now c.intents-intents.ensures c.bytes-bytes.ensures)
    c.accept_instead.ensures.writes)
