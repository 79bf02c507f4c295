use Rattle.gm_registry.proofs.commands.put_command.Goals as goal

pub returns-in-Plain : goal.returns-in-Plain
returns-in-Plain g c = rw (c.in-Plain.is) c.put_row.ensures

pub returns-in-Copied : goal.returns-in-Copied
returns-in-Copied g c = rw (c.in-Copied.is) c.put_row-in-Copied.ensures
