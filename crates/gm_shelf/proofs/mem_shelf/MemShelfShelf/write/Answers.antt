use Rattle.gm_shelf.proofs.Steps.{write_same, write_to, write_none}
use Rattle.gm_shelf.proofs.mem_shelf.MemShelfShelf.write.Goals as goal

pub returns-in_err-check_place-clause-law : goal.returns-in_err-check_place-clause-law
returns-in_err-check_place-clause-law c _ = write_same _ _ _ _

pub returns-in_err-push-clause-law : goal.returns-in_err-push-clause-law
returns-in_err-push-clause-law c _ =
    write_none _ _ _ c.args.self.now.log.items c.push.new.self.items c.in_err-push.ensures.items

pub returns-clause-law : goal.returns-clause-law
returns-clause-law c _ =
    write_to _ _ _ c.args.self.now.log.items c.push.new.self.items c.in_ok-push.ensures.items
