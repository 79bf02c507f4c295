use Rattle.gm_registry.proofs.Common.{rules, ◌≡◌, ◌∙◌, true, false, map, List, IsPermutation, sym, subst, subst₂, arith, Row, HasCleanDisk, state, columns_at, two, IsAbout, IsOfRegistry, tables_of, ShowsList, IsShown, About, passed_on, carried_over, failed_then_over, read_at_most, read_then_over, known_closer, failed_closer}
use Rattle.gm_registry.proofs.Abouts.{about_told, about_shown}
use Rattle.gm_registry.proofs.Failures.{failed_later}
use Rattle.gm_registry.proofs.Texts.{ours_known, ours_listed, ours_shown, not_foreign}
use Rattle.gm_registry.proofs.open_store.check_registry.Goals as goal

never : {A : Type 0} → false ≡ true → A
never e = cc

pub returns-in_err-texts-clause-failed : goal.returns-in_err-texts-clause-failed
returns-in_err-texts-clause-failed g c =
    failed_closer ShowsList IsOfRegistry ours_known (state g.S.Store c.args.conn.now)
    (state g.S.Store c.load_texts.new.conn) c.in_err-texts.ensures.failed

pub returns-then-not-are_texts-clause-fails : goal.returns-then-not-are_texts-clause-fails
returns-then-not-are_texts-clause-fails g c =
    record {
      unreadable = λ clean is ours lists about.
          let s0 = state g.S.Store c.args.conn.now in
          let shown = ours_shown c.args.edition s0.now.trees c.in_ok-texts.texts.items
          (c.in_ok-texts.ensures.rows clean (ours_known _ ours)) lists in
          never (sym c.if-not-are_texts.true ∙ c.are_texts.ensures.1
          (subst (λ (rows : List Row). IsPermutation (tables_of c.args.edition)
          (map (columns_at two) rows))
          (sym c.deref.ensures.value) shown));
      store = search rules;
    }

pub returns-then-not-are_texts-clause-failed : goal.returns-then-not-are_texts-clause-failed
returns-then-not-are_texts-clause-failed g c =
    let s0 = state g.S.Store c.args.conn.now in
    let s1 = state g.S.Store c.load_texts.new.conn in
    failed_closer ShowsList IsOfRegistry ours_known s0 s1
    (read_at_most ShowsList s0 s1 c.in_ok-texts.ensures.read)

pub returns-then-not-are_texts-clause-knows : goal.returns-then-not-are_texts-clause-knows
returns-then-not-are_texts-clause-knows g c =
    record {
      texts = search rules;
      foreign = λ other. read_at_most ShowsList (state g.S.Store c.args.conn.now)
          (state g.S.Store c.load_texts.new.conn) c.in_ok-texts.ensures.read;
    }

pub returns-in_err-about-clause-failed : goal.returns-in_err-about-clause-failed
returns-in_err-about-clause-failed g c =
    let s0 = state g.S.Store c.args.conn.now in
    let s1 = state g.S.Store c.load_texts.new.conn in
    failed_then_over IsOfRegistry s0 s1 (state g.S.Store c.about_rows.new.conn)
    (known_closer ShowsList IsOfRegistry ours_known s0 s1 c.in_ok-texts.ensures.read)
    c.in_err-about.ensures.failed

pub returns-in_err-about-clause-knows : goal.returns-in_err-about-clause-knows
returns-in_err-about-clause-knows g c =
    record {
      texts = search rules;
      foreign =
          let s0 = state g.S.Store c.args.conn.now in
          let s1 = state g.S.Store c.load_texts.new.conn in
          let s2 = state g.S.Store c.about_rows.new.conn in
          let failed =
          failed_then_over IsOfRegistry s0 s1 s2 (known_closer ShowsList IsOfRegistry ours_known s0
          s1
          c.in_ok-texts.ensures.read) c.in_err-about.ensures.failed in
          let ours = subst (λ (rows : List Row). IsPermutation (tables_of c.args.edition)
          (map (columns_at two) rows))
          c.deref.ensures.value (c.are_texts.ensures.0 c.if-not-are_texts.false) in
          not_foreign c.args.edition s0 s2 (λ clean shows.
          let early : HasCleanDisk s1 = omega (
            arith,
            c.in_err-about.ensures.failed.left.clean,
            clean,
          ) in
          ours_listed c.args.edition s0.now.trees c.in_ok-texts.texts.items
          (c.in_ok-texts.ensures.rows early shows) ours) failed.left;
    }

pub returns-then-not-is_about-clause-fails : goal.returns-then-not-is_about-clause-fails
returns-then-not-is_about-clause-fails g c =
    record {
      unreadable = λ clean is ours lists about.
          let s0 = state g.S.Store c.args.conn.now in
          let s1 = state g.S.Store c.load_texts.new.conn in
          let early : HasCleanDisk s1 = omega (arith, c.in_ok-about.ensures.read.left.clean, clean)
          in
          let first = known_closer ShowsList IsOfRegistry ours_known s0 s1
          c.in_ok-texts.ensures.read in
          let shown : IsShown s0.now.trees About c.in_ok-about.about.items =
          carried_over IsOfRegistry s0 s1 (λ db. IsShown db About c.in_ok-about.about.items) first
          early
          (c.in_ok-about.ensures.rows clean) ours in
          never (sym c.if-not-is_about.true ∙ c.is_about.ensures.1
          (subst₂ IsAbout (sym c.number.ensures) (sym c.deref-2.ensures.value)
          (about_shown c.args.edition s0.now.trees c.in_ok-about.about.items shown about)));
      store = search rules;
    }

pub returns-then-not-is_about-clause-failed : goal.returns-then-not-is_about-clause-failed
returns-then-not-is_about-clause-failed g c =
    let s0 = state g.S.Store c.args.conn.now in
    let s1 = state g.S.Store c.load_texts.new.conn in
    let s2 = state g.S.Store c.about_rows.new.conn in
    read_at_most IsOfRegistry s0 s2
    (read_then_over IsOfRegistry s0 s1 s2 (known_closer ShowsList IsOfRegistry ours_known s0 s1
    c.in_ok-texts.ensures.read) c.in_ok-about.ensures.read)

pub returns-then-not-is_about-clause-knows : goal.returns-then-not-is_about-clause-knows
returns-then-not-is_about-clause-knows g c =
    record {
      texts = search rules;
      foreign =
          let s0 = state g.S.Store c.args.conn.now in
          let s1 = state g.S.Store c.load_texts.new.conn in
          let s2 = state g.S.Store c.about_rows.new.conn in
          let both = read_then_over IsOfRegistry s0 s1 s2
          (known_closer ShowsList IsOfRegistry ours_known s0 s1 c.in_ok-texts.ensures.read)
          c.in_ok-about.ensures.read in
          let ours = subst (λ (rows : List Row). IsPermutation (tables_of c.args.edition)
          (map (columns_at two) rows))
          c.deref.ensures.value (c.are_texts.ensures.0 c.if-not-are_texts.false) in
          not_foreign c.args.edition s0 s2 (λ clean shows.
          let early : HasCleanDisk s1 = omega (arith, c.in_ok-about.ensures.read.left.clean, clean)
          in
          ours_listed c.args.edition s0.now.trees c.in_ok-texts.texts.items
          (c.in_ok-texts.ensures.rows early shows) ours) both.left;
    }

pub returns-clause-knows : goal.returns-clause-knows
returns-clause-knows g c =
    let s0 = state g.S.Store c.args.conn.now in
    record {
      texts = λ clean shows.
          let early : HasCleanDisk (state g.S.Store c.load_texts.new.conn) =
          omega (arith, c.in_ok-about.ensures.read.left.clean, clean) in
          ours_listed c.args.edition s0.now.trees c.in_ok-texts.texts.items
          (c.in_ok-texts.ensures.rows early shows)
          (subst (λ (rows : List Row). IsPermutation (tables_of c.args.edition)
          (map (columns_at two) rows))
          c.deref.ensures.value (c.are_texts.ensures.0 c.if-not-are_texts.false));
      foreign =
          let s1 = state g.S.Store c.load_texts.new.conn in
          let s2 = state g.S.Store c.about_rows.new.conn in
          let both = read_then_over IsOfRegistry s0 s1 s2
          (known_closer ShowsList IsOfRegistry ours_known s0 s1 c.in_ok-texts.ensures.read)
          c.in_ok-about.ensures.read in
          let ours = subst (λ (rows : List Row). IsPermutation (tables_of c.args.edition)
          (map (columns_at two) rows))
          c.deref.ensures.value (c.are_texts.ensures.0 c.if-not-are_texts.false) in
          not_foreign c.args.edition s0 s2 (λ clean shows.
          let early : HasCleanDisk s1 = omega (arith, c.in_ok-about.ensures.read.left.clean, clean)
          in
          ours_listed c.args.edition s0.now.trees c.in_ok-texts.texts.items
          (c.in_ok-texts.ensures.rows early shows) ours) both.left;
    }

pub returns-clause-about : goal.returns-clause-about
returns-clause-about g c clean ours =
    let s0 = state g.S.Store c.args.conn.now in
    let s1 = state g.S.Store c.load_texts.new.conn in
    let early : HasCleanDisk s1 = omega (arith, c.in_ok-about.ensures.read.left.clean, clean) in
    let first = known_closer ShowsList IsOfRegistry ours_known s0 s1 c.in_ok-texts.ensures.read in
    let shown : IsShown s0.now.trees About c.in_ok-about.about.items =
    carried_over IsOfRegistry s0 s1 (λ db. IsShown db About c.in_ok-about.about.items) first early
    (c.in_ok-about.ensures.rows clean) ours in
    about_told c.args.edition s0.now.trees c.in_ok-about.about.items shown
    (subst₂ IsAbout c.number.ensures c.deref-2.ensures.value
    (c.is_about.ensures.0 c.if-not-is_about.false))

pub returns-clause-read : goal.returns-clause-read
returns-clause-read g c =
    let s0 = state g.S.Store c.args.conn.now in
    let s1 = state g.S.Store c.load_texts.new.conn in
    read_then_over IsOfRegistry s0 s1 (state g.S.Store c.about_rows.new.conn)
    (known_closer ShowsList IsOfRegistry ours_known s0 s1 c.in_ok-texts.ensures.read)
    c.in_ok-about.ensures.read

pub returns-clause-failed : goal.returns-clause-failed
returns-clause-failed g c =
    let s0 = state g.S.Store c.args.conn.now in
    let s1 = state g.S.Store c.load_texts.new.conn in
    let s2 = state g.S.Store c.about_rows.new.conn in
    read_at_most IsOfRegistry s0 s2
    (read_then_over IsOfRegistry s0 s1 s2 (known_closer ShowsList IsOfRegistry ours_known s0 s1
    c.in_ok-texts.ensures.read) c.in_ok-about.ensures.read)

pub returns-in_err-about-clause-fails : goal.returns-in_err-about-clause-fails
returns-in_err-about-clause-fails g c =
    record {
      unreadable = search rules;
      store = λ clean.
          let s0 = state g.S.Store c.args.conn.now in
          let s1 = state g.S.Store c.load_texts.new.conn in
          let s2 = state g.S.Store c.about_rows.new.conn in
          let early : HasCleanDisk s1 = omega (
            arith,
            c.in_err-about.ensures.failed.left.clean,
            clean,
          ) in
          passed_on c.from_residual-in_err-about.result _ _ (λ e same is shows only is_open.
          let ours = only (ours_listed c.args.edition s0.now.trees c.in_ok-texts.texts.items
          (c.in_ok-texts.ensures.rows early shows)
          (subst (λ (rows : List Row). IsPermutation (tables_of c.args.edition)
          (map (columns_at two) rows))
          c.deref.ensures.value (c.are_texts.ensures.0 c.if-not-are_texts.false))) in
          failed_later IsOfRegistry s0 s1 s2 (known_closer ShowsList IsOfRegistry ours_known s0 s1
          c.in_ok-texts.ensures.read) early ours is_open
          (c.in_err-about.ensures.store clean (sym same ∙ is)))
          c.from_residual-in_err-about.ensures.1;
    }
