use Rattle.gm_state.proofs.Common.{drop, IsReadable}
use Rattle.gm_state.proofs.Suffixes.{Each}
use Rattle.gm_state.proofs.readable_intents.are_each_readable.Given as goal

-- it is left to see the intents after those that were seen
abbrev pub invariant-intents : goal.invariant-intents
invariant-intents l =
    record {
      enough : Each (IsReadable l.state) (drop l.intent-index l.intents)
          → Each (IsReadable l.state) l.intents;
      needed : Each (IsReadable l.state) l.intents
          → Each (IsReadable l.state) (drop l.intent-index l.intents);
    }
