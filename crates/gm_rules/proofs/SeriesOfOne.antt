-- A plan is a series of one key.
use Rattle.gm_rules.proofs.Common.{◌≡◌, ◌∙◌, ℕ, refl, sym, ap, subst, List, [], ◌∷◌, map, Command, Intent, Clear, Copy, Dirty, Meta, Patch, World, Sound, seen_of, intents_of, CanAnswer, Plan, Step}
use Rattle.gm_state.specs.declared.intents.Reply.{Reply}
use Rattle.gm_changes.specs.declared.change.Further.{Further}
use Rattle.gm_changes.specs.Decides.{Changed, Makes}
use Rattle.gm_changes.specs.Stretches.{copied_to}
use Rattle.gm_rules.specs.Series.{InTurn, IsSeries, Keyed, SeriesPlan, keyed_in, keyed_of}

-- intents copy as far as they do
pub copied_itself : (ts : List Intent) → (end : ℕ) × (ts ≡ copied_to end ts)
copied_itself [] = (0, refl)
copied_itself (Copy source target first end ∷ ts) = (end, refl)
copied_itself (Meta p ∷ ts) = (0, refl)
copied_itself (Clear p ∷ ts) = (0, refl)
copied_itself (Dirty p ∷ ts) = (0, refl)
copied_itself (Patch p first end ∷ ts) = (0, refl)

-- a command that is accepted once, with its plan
pub one_plan : (u w : World) (key : List ℕ) (c : Command) (ch : Changed) → Sound u
    → CanAnswer u key c → Makes u.state (seen_of u) c ch → Plan u key c ch.intents ch.bytes w
    → SeriesPlan u key c ch w
one_plan u w key c ch sound can makes plan =
    let keys : keyed_in key ch ≡ record { key = key; reply = ch.reply } ∷ [] =
    ap (λ (fs : List Further). record { key = key; reply = ch.reply } ∷ map keyed_of fs)
    makes.once in
    let same : intents_of c u.state w.state ≡ ch.intents =
    rw plan.step.records (sym makes.intents) in
    let end = copied_itself ch.intents in
    record {
      turns = subst (λ (ks : List Keyed). InTurn u c ks w) (sym keys) (
        can,
        w,
        plan.sound,
        subst (λ (r : Reply). Step u key c w r) (sym makes.reply) plan.step,
        refl,
      );
      series = subst (IsSeries c) (sym keys) tt;
      records = makes.records ∙ sym plan.step.records;
      in_place = makes.in_place;
      intents = (end.0, end.1 ∙ sym (ap (copied_to end.0) same));
      bytes = makes.bytes;
      sound = plan.sound;
      redo = plan.redo;
      order = plan.order;
      claims = plan.claims;
      readable = plan.readable;
      at_hand = plan.at_hand;
      own = plan.own;
      copies = plan.copies;
      bare = plan.bare;
    }
