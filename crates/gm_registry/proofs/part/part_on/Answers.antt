use Rattle.gm_registry.proofs.Common.{rules, state, part_of, ◌∙◌, sym, passed_on}
use Rattle.gm_state.proofs.MadeState.{same_state}
use Rattle.gm_registry.proofs.PartOf.{is_part}
use Rattle.gm_registry.proofs.ReadsInTurn.{tables_stay}
use Rattle.gm_registry.proofs.CallsLeave.{answered_reads, saved}
use Rattle.gm_registry.proofs.ReadsInTurn.{registry_ours}
use Rattle.gm_registry.proofs.SaidParts.{said_in_order}
use Rattle.gm_registry.proofs.SilentParts.{same_part}
use Rattle.gm_registry.proofs.part.part_on.Goals as goal

pub returns-in-Some : goal.returns-in-Some
returns-in-Some g c =
    record {
      says = λ clean was.
          let old = state g.S.Store c.args.conn.now in
          let asked = c.in_ok-asked.asked in (
            c.in-Some.ensures.some.state,
            said_in_order old.now.trees c.args.command.now c.args.mids.now asked.mirrors.items
                asked.components.items asked.count c.in-Some.state
                (c.in_ok-asked.ensures.tells.says clean (registry_ours old was))
                c.in-Some.ensures.some,
          );
      silent = search rules;
      part = λ clean t s was of.
          let command = c.args.command.now in
          let mids = c.args.mids.now in
          let asked = c.in_ok-asked.asked in
          let are = c.in_ok-asked.ensures.tells.found clean t s was of in
          let mine = is_part s command mids of.state asked.mirrors.items asked.components.items
          (c.a_part_is_a_state.ensures s command mids of.state) are.mirrors are.components in (
            record {
              state = same_state asked.mirrors.items asked.components.items c.in-Some.state
                  (part_of s command mids) c.in-Some.ensures.some mine;
              mirrors = are.count;
            },
            saved g.S.Store g.met.S.Store.settled c.read_asked.new.conn t
                (tables_stay (state g.S.Store c.args.conn.now) (state g.S.Store
                c.read_asked.new.conn) t
                c.in_ok-asked.ensures.read clean was),
          );
      unreadable = search rules;
      store = search rules;
      reads = answered_reads g.S.Store g.met.S.Store.settled c.args.conn.now c.read_asked.new.conn
          c.in_ok-asked.ensures.read;
    }

pub returns-in-None : goal.returns-in-None
returns-in-None g c =
    let asked = c.in_ok-asked.asked in
    record {
      says = search rules;
      silent = λ clean is was p said values.
          let old = state g.S.Store c.args.conn.now in
          let same = same_part old.now.trees c.args.command.now c.args.mids.now p.state.mirrors
          p.state.components p.mirrors said.1 asked.mirrors.items asked.components.items asked.count
          (c.in_ok-asked.ensures.tells.says clean (registry_ours old was)) in
          c.in-None.ensures.none p.state
          (record { state = said.0; mirrors_are = same.0; components_are = same.1 });
      part = search rules;
      unreadable = λ clean is t s was of.
          let command = c.args.command.now in
          let mids = c.args.mids.now in
          let are = c.in_ok-asked.ensures.tells.found clean t s was of in
          c.in-None.ensures.none (part_of s command mids)
          (is_part s command mids of.state asked.mirrors.items asked.components.items
          (c.a_part_is_a_state.ensures s command mids of.state) are.mirrors are.components);
      store = search rules;
      reads = answered_reads g.S.Store g.met.S.Store.settled c.args.conn.now c.read_asked.new.conn
          c.in_ok-asked.ensures.read;
    }

pub returns-in_err-asked : goal.returns-in_err-asked
returns-in_err-asked g c =
    record {
      says = search rules;
      silent = λ clean. passed_on c.from_residual.result _ _ (λ e same is was.
          c.in_err-asked.ensures.tells.silent clean (sym same ∙ is)
          (registry_ours (state g.S.Store c.args.conn.now) was)) c.from_residual.ensures.1;
      part = search rules;
      unreadable = search rules;
      store = search rules;
      reads = search rules;
    }
