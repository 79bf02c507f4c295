use Rattle.gm_shelf.proofs.Steps.{sync_to, fixed_to}
use Rattle.gm_shelf.proofs.mem_shelf.MemShelfShelf.sync.Goals as goal

pub returns-clause-quiet : goal.returns-clause-quiet
returns-clause-quiet c _ =
    sync_to c.args.provider c.args.self.now.log.items c.push.new.self.items
    c.in_ok-push.ensures.items

pub returns-clause-fixed : goal.returns-clause-fixed
returns-clause-fixed c _ =
    fixed_to c.args.provider c.args.self.now.log.items c.push.new.self.items
    c.in_ok-push.ensures.items
