use Rattle.gm_bench.proofs.Common.{rules, ◌≡◌, ◌∙◌, Ok, Err, ℕ, List, sym, ap, subst, subst₂, arith, string_bytes, Tables, DiskKept, HasTables, IsHonestToAdopt, CanBeAccepted, IsJudgedOnce, IsJudgedToFit, TellsKey}
use Rattle.gm_bench.specs.Judgements.{IsLeftToRules}
use Rattle.gm_bench.proofs.CarriedOut.{seen_leads}
use Rattle.gm_bench.proofs.Causes.{fault_is}
use Rattle.gm_bench.proofs.DecidesOnly.{ok_then, quiet_same, still}
use Rattle.gm_bench.proofs.JudgedByKey.{refused, repeated}
use Rattle.gm_bench.proofs.LookingOnly.{looks_in_turn}
use Rattle.gm_bench.proofs.media.Media.judge.Goals as goal

pub returns-in_err-number : goal.returns-in_err-number
returns-in_err-number g c =
    record {
      answers = search rules;
      plans = search rules;
      readable = λ clean is t r has records any read honest.
          c.in_err-number.ensures.readable clean (ap Err (fault_is c.from_residual.result _ _
          c.from_residual.ensures.1 is)) t has read;
      looks = search rules;
    }

pub returns-in-Kept : goal.returns-in-Kept
returns-in-Kept g c =
    record {
      answers = λ h clean away ts bytes v u at any.
          let l = seen_leads g.S.Store g.H.Shelf c.args.self.now.registry c.args.self.now.shelf
          away ts bytes v u at (g.met.H.Shelf.lawful c.args.self.now.shelf h) in
          let told = c.in_ok-number.ensures.told clean at.tables at.has in (
            repeated u at.tables l.sound l.records c.args.key.now c.args.command.now
                c.deref.result.now (c.deref.ensures ∙ c.in-Ok.ensures.words) c.in-Ok.ensures.fits
                c.in-Kept.number c.in-Kept.reply
                (subst (λ f. TellsKey c.args.key.now (λ w. w ≡ c.deref.result.now) f at.tables)
                c.in-Kept.is told.0),
            told.1,
          );
      plans = λ clean t r has records any.
          (tt, tt, λ honest. tt, (c.in_ok-number.ensures.told clean t has).1);
      readable = search rules;
      looks = search rules;
    }

pub returns-in-Refused : goal.returns-in-Refused
returns-in-Refused g c =
    record {
      answers = λ h clean away ts bytes v u at any.
          let l = seen_leads g.S.Store g.H.Shelf c.args.self.now.registry c.args.self.now.shelf
          away ts bytes v u at (g.met.H.Shelf.lawful c.args.self.now.shelf h) in
          let told = c.in_ok-number.ensures.told clean at.tables at.has in (
            refused u at.tables l.sound l.records c.args.key.now c.args.command.now
                c.deref.result.now (c.deref.ensures ∙ c.in-Ok.ensures.words) c.in-Refused.why
                (subst (λ f. TellsKey c.args.key.now (λ w. w ≡ c.deref.result.now) f at.tables)
                c.in-Refused.is told.0),
            told.1,
          );
      plans = λ clean t r has records any.
          (tt, tt, λ honest. tt, (c.in_ok-number.ensures.told clean t has).1);
      readable = search rules;
      looks = search rules;
    }

pub returns-in-Free : goal.returns-in-Free
returns-in-Free g c =
    let old = c.args.self.now in
    let mid = c.look_up.new.self in
    let key = c.args.key.now in
    let command = c.args.command.now in
    let by_rules = c.judge_by_rules.ensures key in
    let shelf = c.look_up.ensures.looks.shelf in
    let asked : DiskKept g.S.Store c.judge_by_rules.new.self.registry
    → DiskKept g.S.Store mid.registry =
    λ clean. omega (arith, clean, by_rules.looks.clean) in
    let left : (t : Tables) → TellsKey key (λ w. w ≡ c.deref.result.now) c.in_ok-number.field-0 t
    → IsLeftToRules key (string_bytes c.in-Ok.words) command t =
    λ t told. record {
      told = subst₂ (λ (w : List ℕ) f. TellsKey key (λ x. x ≡ w) f t) c.deref.ensures c.in-Free.is
          told;
      fits = c.in-Ok.ensures.fits;
      words_are = c.in-Ok.ensures.words;
    } in
    record {
      answers = λ h clean.
          let j = g.H.Shelf in
          ok_then _ _ (λ jd answers away ts bytes v u at any. (
          let told = c.in_ok-number.ensures.told (asked clean) at.tables at.has in
          answers away ts bytes v u (still g.S.Store j old.registry old.shelf mid.shelf away ts
          bytes v u at (g.met.H.Shelf.lawful old.shelf h) (quiet_same j old.shelf mid.shelf shelf)
          (ap j.size shelf) mid.registry told.1) (left at.tables told.0)))
          c.judge_by_rules.result (by_rules.answers (subst j.honest (sym shelf) h) clean);
      plans = λ clean.
          ok_then _ _ (λ jd plans t r has records any. (
          let told = c.in_ok-number.ensures.told (asked clean) t has in
          subst (λ (k : g.row.H.Denot). CanBeAccepted (g.H.Shelf.size k) key t jd
          × IsJudgedOnce jd × (IsHonestToAdopt g.H.Shelf k command → IsJudgedToFit t jd)
          × HasTables g.S.Store c.judge_by_rules.new.self.registry t) shelf
          (plans t r told.1 records (left t told.0)))) c.judge_by_rules.result
          (by_rules.plans clean);
      readable = λ clean is t r has records any read honest.
          let told = c.in_ok-number.ensures.told (asked clean) t has in
          by_rules.readable clean is t r told.1 records (left t told.0) read
          (subst (λ (k : g.row.H.Denot). IsHonestToAdopt g.H.Shelf k command) (sym shelf) honest);
      looks = looks_in_turn g.S.Store g.H.Shelf old mid c.judge_by_rules.new.self
          (Ok c.in_ok-number.field-0) c.judge_by_rules.result (search rules)
          (λ early t has. (c.in_ok-number.ensures.told early t has).1) by_rules.looks;
    }
