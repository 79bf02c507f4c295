use Rattle.gm_state.proofs.Common.{take, drop, AreOrdered, AreOrderedFrom}
use Rattle.gm_state.proofs.readable_intents.are_ordered.Given as goal

-- the order is that of the intents that are left, after those that were seen
abbrev pub invariant-intents : goal.invariant-intents
invariant-intents l = record {
  enough : AreOrderedFrom (take l.index l.intents) (drop l.index l.intents) → AreOrdered l.intents;
  needed : AreOrdered l.intents → AreOrderedFrom (take l.index l.intents) (drop l.index l.intents);
}
