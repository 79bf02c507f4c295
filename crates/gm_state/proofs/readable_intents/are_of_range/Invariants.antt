use Rattle.gm_state.proofs.Common.{drop, IsOfRange}
use Rattle.gm_state.proofs.Suffixes.{Each}
use Rattle.gm_state.proofs.readable_intents.are_of_range.Given as goal

-- it is left to see the intents after those that were seen
abbrev pub invariant-intents : goal.invariant-intents
invariant-intents l =
    record {
      enough : Each (IsOfRange l.start l.count) (drop l.intent-index l.intents)
          → Each (IsOfRange l.start l.count) l.intents;
      needed : Each (IsOfRange l.start l.count) l.intents
          → Each (IsOfRange l.start l.count) (drop l.intent-index l.intents);
    }
