use Rattle.gm_bench.proofs.Common.{rules, ◌≡◌, ◌∙◌, only_then, AreBegun, ◌≤◌, ◌∷◌, ℕ, Err, Tables, Records, HasTables, AreRecordsOf, IsHonestToAdopt, CanBeAccepted, IsJudgedToFit, inl, inr, refl, sym, ap, subst, arith, length, map, string_bytes, List, on_err_weaker, on_ok_weaker, DiskKept, saved, rows_for, less_room, seen, further_in, LeavesSteps, AreAnswered, IsWorkAtHand, Media, Reads, calls_in, one_call, Image, Intent, World, IsCarriedOut, AreJudged, AreBegun, IsJudgement}
use Rattle.gm_bench.proofs.BegunCalls.{one_begun}
use Rattle.gm_bench.proofs.Causes.{fault_is}
use Rattle.gm_bench.proofs.DecidesOnly.{nothing_then, ok_then, still, then_step, unstepped}
use Rattle.gm_bench.proofs.Phases.{in_fault}
use Rattle.gm_bench.proofs.StoreFails.{failed_later, goes_later, room_later}
use Rattle.gm_bench.proofs.media.Media.accept.Goals as goal

pub returns-in_err-first : goal.returns-in_err-first
returns-in_err-first g c =
    let looks = c.judge.ensures.looks in
    let more = map string_bytes c.args.more.now in
    record {
      told = λ h clean. (
        one_call c.args.key.now c.args.command.now,
        λ away ts bytes v u at. one_begun c.args.command.now c.args.key.now more,
        λ away ts bytes v u at waits.
            unstepped g.S.Store g.H.Shelf c.args.self.now.registry c.args.self.now.shelf
            c.judge.new.self.shelf away ts bytes v u at
            (g.met.H.Shelf.lawful c.args.self.now.shelf h)
            (looks.only.reads h).quiet looks.only.keeps.size c.judge.new.self.registry
            (one_call c.args.key.now c.args.command.now)
            (saved g.S.Store g.met.S.Store.settled c.args.self.now.registry at.tables at.has).crash
            clean ((looks.reads clean).left at.tables at.has),
        search rules,
      );
      fault = search rules;
      rows = record {
        readable = λ clean is t r has records read honest.
            c.in_err-first.ensures.readable clean (ap Err (fault_is c.from_residual.result _ _
            c.from_residual.ensures.1 is)) t r has records tt
            (read.0, read.1 c.args.key.now (inl refl)) honest;
        at_hand = search rules;
        refused = search rules;
        store = search rules;
        goes_on = search rules;
      };
      accepts = record {
        only = search rules;
        disk = search rules;
        kept = λ clean is t has. (looks.reads clean).left t has;
        undone = search rules;
        clean = search rules;
      };
    }

pub returns-in_err-judgement : goal.returns-in_err-judgement
returns-in_err-judgement g c =
    let j = g.H.Shelf in
    let old = c.args.self.now in
    let mid = c.judge.new.self in
    let end = c.take_further.new.self in
    let key = c.args.key.now in
    let command = c.args.command.now in
    let more = map string_bytes c.args.more.now in
    let looks = c.judge.ensures.looks in
    let further = c.take_further.ensures.looks in
    let only = only_then j old.shelf mid.shelf end.shelf looks.only further.only in
    let asked : DiskKept g.S.Store end.registry → DiskKept g.S.Store mid.registry =
    λ clean. omega (arith, clean, further.clean) in
    let plans : DiskKept g.S.Store end.registry → (t : Tables) (r : Records)
    → HasTables g.S.Store old.registry t → AreRecordsOf t r → HasTables g.S.Store mid.registry t =
    λ clean t r has records. (c.in_ok-first.ensures.plans (asked clean) t r has records tt).3 in
    record {
      told = λ h clean. (
        one_call key command,
        λ away ts bytes v u at. one_begun command key more,
        λ away ts bytes v u at waits.
            let told = c.in_ok-first.ensures.answers h (asked clean) away ts bytes v u at tt in
            unstepped g.S.Store j old.registry old.shelf end.shelf away ts bytes v u at
            (g.met.H.Shelf.lawful old.shelf h) (only.reads h).quiet only.keeps.size end.registry
            (one_call key command)
            (saved g.S.Store g.met.S.Store.settled old.registry at.tables at.has).crash clean
            (nothing_then g.S.Store old.registry mid.registry end.registry
            ((looks.reads (asked clean)).left at.tables at.has)
            ((further.reads clean).left at.tables told.1)),
        search rules,
      );
      fault = search rules;
      rows = record {
        readable = λ clean is t r has records read honest.
            c.in_err-judgement.ensures.readable clean (ap Err (fault_is
            c.from_residual-in_err-judgement.result _ _
            c.from_residual-in_err-judgement.ensures.1 is)) t r
            (plans clean t r has records) records (read.0, λ k h. read.1 k (inr h));
        at_hand = search rules;
        refused = λ clean. in_fault c.from_residual-in_err-judgement.result
            (λ t r has records is_open. ((further.reads clean).kept clean t
            (plans clean t r has records) is_open).tables);
        store = λ clean is t r has records none room honest.
            let here = plans clean t r has records in
            failed_later g.S.Store old.registry mid.registry t (looks.reads (asked clean)) has here
            end.registry (c.in_err-judgement.ensures.looks.store clean (ap Err (fault_is
            c.from_residual-in_err-judgement.result _ _
            c.from_residual-in_err-judgement.ensures.1 is)) t here);
        goes_on = search rules;
      };
      accepts = record {
        only = only;
        disk = λ is. absurd (c.in_err-judgement.ensures.disk (ap Err (fault_is
            c.from_residual-in_err-judgement.result _ _
            c.from_residual-in_err-judgement.ensures.1 is)));
        kept = λ clean is. absurd (c.in_err-judgement.ensures.disk (ap Err (fault_is
            c.from_residual-in_err-judgement.result _ _
            c.from_residual-in_err-judgement.ensures.1 is)));
        undone = search rules;
        clean = search rules;
      };
    }

pub returns : goal.returns
returns g c =
    let j = g.H.Shelf in
    let old = c.args.self.now in
    let mid = c.judge.new.self in
    let taken = c.take_further.new.self in
    let end = c.commit.new.self in
    let key = c.args.key.now in
    let command = c.args.command.now in
    let more = map string_bytes c.args.more.now in
    let looks = c.judge.ensures.looks in
    let further = c.take_further.ensures.looks in
    let commits = c.commit.ensures in
    let jd = c.in_ok-judgement.judgement in
    let only = only_then j old.shelf mid.shelf taken.shelf looks.only further.only in
    let asked : DiskKept g.S.Store end.registry → DiskKept g.S.Store taken.registry =
    λ clean. omega (arith, clean, commits.alone.clean) in
    let early : DiskKept g.S.Store end.registry → DiskKept g.S.Store mid.registry =
    λ clean. omega (arith, asked clean, further.clean) in
    let plans : DiskKept g.S.Store end.registry → (t : Tables) (r : Records)
    → HasTables g.S.Store old.registry t → AreRecordsOf t r
    → CanBeAccepted (j.size taken.shelf) key t jd
    × (IsHonestToAdopt j old.shelf command → IsJudgedToFit t jd)
    × (further_in jd ≤ length more) × HasTables g.S.Store mid.registry t
    × HasTables g.S.Store taken.registry t =
    λ clean t r has records.
    let one = c.in_ok-first.ensures.plans (early clean) t r has records tt in
    let two = c.in_ok-judgement.ensures.plans (asked clean) t r one.3 records one.1
    (subst (λ z. CanBeAccepted z key t c.in_ok-first.first) (sym looks.only.keeps.size) one.0) in (
      subst (λ z. CanBeAccepted z key t jd) (sym further.only.keeps.size) two.0,
      λ honest. two.1 (one.2 honest),
      two.2,
      one.3,
      two.3,
    ) in
    record {
      told = λ h clean.
          let lawful = g.met.H.Shelf.lawful old.shelf h in
          let honest = looks.only.keeps.honest h in
          let at1 : (away : Image) (ts : List Intent) (bytes : List (List ℕ)) (v u : World)
          → (at : IsCarriedOut g.S.Store j old.registry old.shelf away ts bytes v u)
          → (at1 : IsCarriedOut g.S.Store j mid.registry mid.shelf away ts bytes v u)
          × IsJudgement u key command c.in_ok-first.first × (at1.tables ≡ at.tables) =
          λ away ts bytes v u at.
          let told = c.in_ok-first.ensures.answers h (early clean) away ts bytes v u at tt in (
            still g.S.Store j old.registry old.shelf mid.shelf away ts bytes v u at lawful
                (looks.only.reads h).quiet looks.only.keeps.size mid.registry told.1,
            told.0,
            refl,
          ) in
          let judged : (away : Image) (ts : List Intent) (bytes : List (List ℕ)) (v u : World)
          → (at : IsCarriedOut g.S.Store j old.registry old.shelf away ts bytes v u)
          → AreJudged u key command jd × AreBegun command (key ∷ more) (calls_in key command jd)
          × HasTables g.S.Store taken.registry at.tables =
          λ away ts bytes v u at.
          let it = at1 away ts bytes v u at in
          let two = c.in_ok-judgement.ensures.answers honest (asked clean) away ts bytes v u it.0
          it.1 in
          (two.0, two.1, subst (λ (t : Tables). HasTables g.S.Store taken.registry t) it.2 two.2) in
          let now : (away : Image) (ts : List Intent) (bytes : List (List ℕ)) (v u : World)
          → IsCarriedOut g.S.Store j old.registry old.shelf away ts bytes v u
          → IsCarriedOut g.S.Store j taken.registry taken.shelf away ts bytes v u =
          λ away ts bytes v u at. still g.S.Store j old.registry old.shelf taken.shelf away ts
          bytes v u at lawful (only.reads h).quiet only.keeps.size taken.registry
          (judged away ts bytes v u at).2 in (
            calls_in key command jd,
            λ away ts bytes v u at. (judged away ts bytes v u at).1,
            λ away ts bytes v u at waits.
                subst (λ (k : g.row.H.Denot). LeavesSteps g.S.Store j old.registry end.registry
                old.shelf k away v u (calls_in key command jd)) (sym commits.alone.shelf)
                (then_step g.S.Store j old.registry old.shelf taken.shelf away ts bytes v u at
                lawful (only.reads h).quiet only.keeps.size taken.registry end.registry
                taken.shelf (calls_in key command jd) (only.reads h).quiet
                (saved g.S.Store g.met.S.Store.settled old.registry at.tables at.has).crash
                (commits.leaves (only.keeps.honest h) clean away ts bytes command v u
                (now away ts bytes v u at) waits (judged away ts bytes v u at).0)),
            ok_then _ _ (λ a so away ts bytes v u at waits. (
                subst (λ (k : g.row.H.Denot). AreAnswered g.S.Store j end.registry k away ts bytes
                v u (calls_in key command jd) a) (sym commits.alone.shelf)
                (so away ts bytes command v u (now away ts bytes v u at) waits
                (judged away ts bytes v u at).0)))
                c.commit.result (commits.done (only.keeps.honest h) clean),
          );
      fault = search rules;
      rows = record {
        readable = λ clean is t r has records read honest.
            commits.alone.readable clean is t (plans clean t r has records).4 read.0;
        at_hand = λ clean.
            ok_then _ _ (λ a hand t r has records. (
            subst (λ z. IsWorkAtHand z a) only.keeps.size
            (hand t (plans clean t r has records).0)))
            c.commit.result commits.at_hand;
        refused = λ clean.
            on_err_weaker c.commit.result (λ kept t r has records.
            kept t (plans clean t r has records).4) (commits.refused clean);
        store = λ clean is t r has records none room honest.
            let it = plans clean t r has records in
            let one = looks.reads (early clean) in
            let two = further.reads (asked clean) in
            failed_later g.S.Store old.registry mid.registry t one has it.3 end.registry
            (failed_later g.S.Store mid.registry taken.registry t two it.3 it.4 end.registry
            (commits.store clean is t it.4 it.0 (it.1 honest) none
            (less_room (rows_for (further_in jd)) (rows_for (length more))
            (seen g.S.Store taken.registry) (omega (arith, it.2))
            (room_later g.S.Store mid.registry taken.registry t two it.3 it.4
            (rows_for (length more)) (asked clean)
            (room_later g.S.Store old.registry mid.registry t one has it.3
            (rows_for (length more)) (early clean) room)))));
        goes_on = λ clean.
            on_ok_weaker c.commit.result (λ goes t r has records. (
            let it = plans clean t r has records in
            goes_later g.S.Store old.registry mid.registry t (looks.reads (early clean)) has it.3
            end.registry (goes_later g.S.Store mid.registry taken.registry t
            (further.reads (asked clean)) it.3 it.4 end.registry (goes t it.4))))
            (commits.goes_on clean);
      };
      accepts = record {
        only = search rules;
        disk = search rules;
        kept = search rules;
        undone = λ clean.
            ok_then _ _ (λ a same undone.
            let is = same undone in
            let none = c.in_ok-judgement.ensures.unread is.1 in
            subst (λ (m : Media g.row.S.Denot g.row.H.Denot).
            Reads g.S.Store old.registry m.registry)
            (sym (is.0 ∙ none)) (looks.reads (early clean)))
            c.commit.result commits.undone;
        clean = search rules;
      };
    }
