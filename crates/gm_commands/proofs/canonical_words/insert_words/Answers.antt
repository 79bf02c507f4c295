use Rattle.gm_commands.proofs.canonical_words.insert_words.Goals as goal

pub returns : goal.returns
returns c = rw c.on_where-hardcode.ensures at c.format.ensures.ok
