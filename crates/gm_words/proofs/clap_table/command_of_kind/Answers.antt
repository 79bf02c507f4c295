use Rattle.gm_words.proofs.clap_table.command_of_kind.Goals as goal

pub returns-in-Label-clause-app : goal.returns-in-Label-clause-app
returns-in-Label-clause-app c = rw c.in-Label.is c.command_with.ensures.app

pub returns-in-Insert-clause-app : goal.returns-in-Insert-clause-app
returns-in-Insert-clause-app c = rw c.in-Insert.is c.command_with-in-Insert.ensures.app

pub returns-in-Configure-clause-app : goal.returns-in-Configure-clause-app
returns-in-Configure-clause-app c = rw c.in-Configure.is c.command_with-in-Configure.ensures.app

pub returns-in-Patch-clause-app : goal.returns-in-Patch-clause-app
returns-in-Patch-clause-app c = rw c.in-Patch.is c.command_with-in-Patch.ensures.app

pub returns-in-Component-clause-app : goal.returns-in-Component-clause-app
returns-in-Component-clause-app c = rw c.in-Component.is c.command_with-in-Component.ensures.app

pub returns-in-Several-clause-app : goal.returns-in-Several-clause-app
returns-in-Several-clause-app c = rw c.in-Several.is c.command_with-in-Several.ensures.app
