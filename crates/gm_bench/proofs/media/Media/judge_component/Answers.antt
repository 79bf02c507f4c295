use Rattle.gm_bench.proofs.Common.{rules, ◌≡◌, ◌≤◌, ◌∙◌, ◌∷◌, [], length, List, ℕ, IfOk, Result, sym, ap, subst, subst₂, string_bytes, Command, Lost, CommandFits, words_of, Records, IsState, Refusal, seen_of, Changed, Decides, changed_by, Judged, CanBeCommitted, IsJudged, IsRedirected, StayReadableBehind, StaysReadable, settled, IsFitting}
use Rattle.gm_bench.proofs.DecidesOnly.{ok_then}
use Rattle.gm_bench.proofs.LossJudged.{rules_refuse, judged_by}
use Rattle.gm_bench.proofs.LossRedone.{stays_readable}
use Rattle.gm_bench.proofs.FittingLosses.{can_commit, records_settled}
use Rattle.gm_bench.proofs.media.Media.judge_component.Goals as goal

pub returns-in-Ok-Err : goal.returns-in-Ok-Err
returns-in-Ok-Err g c =
    record {
      judged = λ w key p of is on key_ok free room.
          let n = c.args.component.now.mirror in
          let command_is : c.in_ok-command.command ≡ Lost n (p ∷ []) =
          c.in_ok-command.ensures.command ∙ (λ i. Lost n (is i ∷ [])) in
          let decides : Decides w.state (seen_of w) c.in_ok-command.command c.in-Ok-Err.field-0 =
          c.in-Ok-Err.ensures.decides w n p of.records of.sizes command_is in
          let least = subst₂ (λ (d : Command) (r : Result Changed Refusal).
          Decides w.state (seen_of w) d r) command_is c.in-Ok-Err.field-0-is decides in
          subst (λ (j : Judged). IsJudged w c.args.intents.now c.args.bytes.now key p j)
          (sym c.refused.ensures)
          (rules_refuse w c.args.intents.now c.args.bytes.now key p c.args.component.now on key_ok
          free room c.in-Ok-Err.refusal least);
      readable = search rules;
      again = λ on state.
          subst (λ (j : Judged). StaysReadable c.args.state.now c.args.intents.now c.args.bytes.now
          j) (sym c.refused.ensures) tt;
      fits = λ key t are key_ok free room.
          subst (λ (j : Judged). CanBeCommitted key c.args.intents.now t j) (sym c.refused.ensures)
          tt;
      fault = search rules;
      not_store = search rules;
    }

pub returns : goal.returns
returns g c =
    record {
      judged =
          ok_then _ _ (λ j comes w key p of is on key_ok free room. (
          let n = c.args.component.now.mirror in
          let size = g.H.Shelf.size c.args.self.now.shelf in
          let command_is : c.in_ok-command.command ≡ Lost n (p ∷ []) =
          c.in_ok-command.ensures.command ∙ (λ i. Lost n (is i ∷ [])) in
          let decides : Decides w.state (seen_of w) c.in_ok-command.command c.in-Ok-Ok.field-0 =
          c.in-Ok-Ok.ensures.decides w n p of.records of.sizes command_is in
          let makes = subst₂ (λ (d : Command) (r : Result Changed Refusal).
          Decides w.state (seen_of w) d r) command_is c.in-Ok-Ok.field-0-is decides in
          let words = string_bytes c.in-Ok.words in
          let red = subst₂ (λ (s : Records) (q : List ℕ). IsRedirected s size c.args.intents.now
          c.args.bytes.now n q words
          c.in-Ok-Ok.change j) of.records is comes in
          judged_by w c.args.intents.now c.args.bytes.now key p c.args.component.now on key_ok free
          room size
          of.sizes words c.in-Ok-Ok.change makes
          (c.in-Ok.ensures.words ∙ ap words_of command_is) (subst CommandFits command_is
          c.in-Ok.ensures.fits) j red)) c.redirect.result c.redirect.ensures.comes;
      readable = search rules;
      again =
          ok_then _ _ (λ j comes on state. (
          let s = c.args.state.now in
          let k = c.args.component.now in
          let is = c.in_ok-command.ensures.command in
          let fits = c.in-Ok.ensures.fits in
          let changed = subst (λ (r : Result Changed Refusal). IfOk r
          (λ ch. IsState (changed_by ch s))) c.in-Ok-Ok.field-0-is (c.in-Ok-Ok.ensures.state state
          fits k.mirror k.provider is) in
          let behind = subst (λ (r : Result Changed Refusal). IfOk r
          (StayReadableBehind s k.provider)) c.in-Ok-Ok.field-0-is (c.in-Ok-Ok.ensures.again k
          k.provider is on fits state) in
          stays_readable s (g.H.Shelf.size c.args.self.now.shelf) c.args.intents.now
          c.args.bytes.now k.mirror k.provider
          (string_bytes c.in-Ok.words) c.in-Ok-Ok.change j comes changed behind)) c.redirect.result
          c.redirect.ensures.comes;
      fits =
          ok_then _ _ (λ j comes key t are key_ok free room. (
          let k = c.args.component.now in
          let fits = subst (λ (r : Result Changed Refusal). IfOk r
          (λ ch. IsFitting ch (words_of c.in_ok-command.command) (settled t)
          × (length ch.intents ≤ 17) × (ch.further ≡ []))) c.in-Ok-Ok.field-0-is
          (c.in-Ok-Ok.ensures.fits (settled t) k.mirror k.provider
          (records_settled t c.args.state.now are) c.in-Ok.ensures.fits
          c.in_ok-command.ensures.command) in
          can_commit c.args.state.now (g.H.Shelf.size c.args.self.now.shelf) c.args.intents.now
          c.args.bytes.now k.mirror k.provider (string_bytes c.in-Ok.words) key c.in-Ok-Ok.change t
          j comes key_ok free room
          (subst (λ (l : List ℕ). IsFitting c.in-Ok-Ok.change l (settled t))
          (sym c.in-Ok.ensures.words) fits.0) fits.1 fits.2)) c.redirect.result c.redirect.ensures.comes;
      fault = search rules;
      not_store = search rules;
    }
