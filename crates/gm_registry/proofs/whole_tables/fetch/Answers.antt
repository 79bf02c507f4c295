use Rattle.gm_registry.proofs.Common.{rules, refl, state, IsShown, IsInOrder, AreNumbersShown, Mirrors, Components, Intents, Patches}
use Rattle.gm_registry.proofs.ReadsInTurn.{read_then, clean_before, carried}
use Rattle.gm_registry.proofs.SomeReads.{and_read, then_query_fails}
use Rattle.gm_registry.proofs.whole_tables.fetch.Goals as goal

pub returns-in_err-mirrors : goal.returns-in_err-mirrors
returns-in_err-mirrors g c =
    then_query_fails g.S.Store c.args.conn.now c.from_residual-in_err-mirrors.result _
    c.in_ok-about.ensures.queries.read c.in_err-mirrors.ensures.queries
    c.from_residual-in_err-mirrors.ensures.1

pub returns-in_err-components : goal.returns-in_err-components
returns-in_err-components g c =
    then_query_fails g.S.Store c.args.conn.now c.from_residual-in_err-components.result _
    (and_read c.in_ok-about.ensures.queries.read
    c.in_ok-mirrors.ensures.queries.read) c.in_err-components.ensures.queries
    c.from_residual-in_err-components.ensures.1

pub returns-in_err-intents : goal.returns-in_err-intents
returns-in_err-intents g c =
    then_query_fails g.S.Store c.args.conn.now c.from_residual-in_err-intents.result _
    (and_read (and_read c.in_ok-about.ensures.queries.read
    c.in_ok-mirrors.ensures.queries.read)
    c.in_ok-components.ensures.queries.read) c.in_err-intents.ensures.queries
    c.from_residual-in_err-intents.ensures.1

pub returns-in_err-commands : goal.returns-in_err-commands
returns-in_err-commands g c =
    then_query_fails g.S.Store c.args.conn.now c.from_residual-in_err-commands.result _
    (and_read (and_read (and_read c.in_ok-about.ensures.queries.read
    c.in_ok-mirrors.ensures.queries.read)
    c.in_ok-components.ensures.queries.read)
    c.in_ok-intents.ensures.queries.read) c.in_err-commands.ensures
    c.from_residual-in_err-commands.ensures.1

pub returns-in_err-patches : goal.returns-in_err-patches
returns-in_err-patches g c =
    then_query_fails g.S.Store c.args.conn.now c.from_residual-in_err-patches.result _
    (and_read (and_read (and_read (and_read c.in_ok-about.ensures.queries.read
    c.in_ok-mirrors.ensures.queries.read)
    c.in_ok-components.ensures.queries.read)
    c.in_ok-intents.ensures.queries.read)
    c.in_ok-commands.ensures.read) c.in_err-patches.ensures.queries
    c.from_residual-in_err-patches.ensures.1

pub returns : goal.returns
returns g c =
    let s0 = state g.S.Store c.args.conn.now in
    let s1 = state g.S.Store c.rows_of.new.conn in
    let s2 = state g.S.Store c.rows_of-2.new.conn in
    let s3 = state g.S.Store c.rows_of-3.new.conn in
    let s4 = state g.S.Store c.rows_of-4.new.conn in
    let s5 = state g.S.Store c.fetch_numbers.new.conn in
    let s6 = state g.S.Store c.rows_of-5.new.conn in
    let first = read_then s0 s1 s2 c.in_ok-about.ensures.queries.read
    c.in_ok-mirrors.ensures.queries.read in
    let second = read_then s0 s2 s3 first c.in_ok-components.ensures.queries.read in
    let third = read_then s0 s3 s4 second c.in_ok-intents.ensures.queries.read in
    let fourth = read_then s0 s4 s5 third c.in_ok-commands.ensures.read in
    record {
      rows = λ clean ours.
          let clean5 = clean_before s5 s6 c.in_ok-patches.ensures.queries.read clean in
          let clean4 = clean_before s4 s5 c.in_ok-commands.ensures.read clean5 in
          let clean3 = clean_before s3 s4 c.in_ok-intents.ensures.queries.read clean4 in
          let clean2 = clean_before s2 s3 c.in_ok-components.ensures.queries.read clean3 in
          let clean1 = clean_before s1 s2 c.in_ok-mirrors.ensures.queries.read clean2 in
          record {
            about = c.in_ok-about.ensures.queries.rows clean1 ours;
            mirrors = carried s0 s1 (λ db. IsShown db Mirrors c.in_ok-mirrors.mirrors.items)
                c.in_ok-about.ensures.queries.read clean1 (c.in_ok-mirrors.ensures.queries.rows
                clean2) ours;
            components =
                carried s0 s2 (λ db. IsShown db Components c.in_ok-components.components.items)
                first
                clean2 (c.in_ok-components.ensures.queries.rows clean3) ours;
            intents = carried s0 s3 (λ db. IsShown db Intents c.in_ok-intents.intents.items) second
                clean3
                (c.in_ok-intents.ensures.queries.rows clean4) ours;
            in_order = carried s0 s3 (λ db. IsInOrder c.in_ok-intents.intents.items) second clean3
                (c.in_ok-intents.ensures.in_order refl clean4) ours;
            commands = carried s0 s4 (λ db. AreNumbersShown db c.in_ok-commands.commands) third
                clean4
                (c.in_ok-commands.ensures.rows clean5) ours;
            patches = carried s0 s5 (λ db. IsShown db Patches c.in_ok-patches.patches.items) fourth
                clean5
                (c.in_ok-patches.ensures.queries.rows clean) ours;
          };
      read = read_then s0 s5 s6 fourth c.in_ok-patches.ensures.queries.read;
      failed = search rules;
      store = search rules;
      fault = search rules;
    }
