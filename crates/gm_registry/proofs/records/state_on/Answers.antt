use Rattle.gm_registry.proofs.Common.{rules, ◌∙◌, List, sym, subst₂, state, Row, State, HasCleanDisk, if_ok, if_err, IsShown, SayState, Components, passed_on, IsOurSchema, IsOurs, HasRead}
use Rattle.gm_rows.proofs.RowsSayState.{any_records, any_state, says_records}
use Rattle.gm_registry.proofs.CallsLeave.{saved, answered_reads, failed_reads}
use Rattle.gm_registry.proofs.Failures.{failed_later}
use Rattle.gm_registry.proofs.ReadsInTurn.{ours, counted, tables_stay, registry_ours, read_leaves, failed_leaves, read_then, failed_then, clean_before, carried}
use Rattle.gm_registry.proofs.SomeReads.{failed_clean}
use Rattle.gm_registry.proofs.records.state_on.Goals as goal

-- the rows of the second table that is read are those that were there before the first
then_shown : (a b c : State) (components : List Row) → HasRead a b → HasRead b c → HasCleanDisk c
    → (HasCleanDisk c → IsOurs b → IsShown b.now.trees Components components) → IsOurs a
    → IsShown a.now.trees Components components
then_shown a b c components first second clean shown known =
    carried a b (λ db. IsShown db Components components) first (clean_before b c second clean)
    (shown clean) known

pub returns-in_err-mirrors : goal.returns-in_err-mirrors
returns-in_err-mirrors g c =
    record {
      says = search rules;
      silent = search rules;
      state = search rules;
      unreadable = search rules;
      store = search rules;
      reads = failed_reads g.S.Store g.met.S.Store.settled c.args.conn.now c.rows_of.new.conn
          c.in_err-mirrors.ensures.queries.failed;
      untouched = search rules;
    }

pub returns-in_err-components : goal.returns-in_err-components
returns-in_err-components g c =
    let old = state g.S.Store c.args.conn.now in
    let new = state g.S.Store c.rows_of-2.new.conn in
    record {
      says = search rules;
      silent = search rules;
      state = search rules;
      unreadable = search rules;
      store = λ clean.
          let mid = state g.S.Store c.rows_of.new.conn in
          let early = failed_clean mid new c.in_err-components.ensures.queries.failed clean in
          passed_on c.from_residual-in_err-components.result _ _ (λ e same is was.
          failed_later IsOurSchema old mid new c.in_ok-mirrors.ensures.queries.read early
          (registry_ours old was)
          was.is_open (c.in_err-components.ensures.queries.store clean (sym same ∙ is)))
          c.from_residual-in_err-components.ensures.1;
      reads = failed_reads g.S.Store g.met.S.Store.settled c.args.conn.now c.rows_of-2.new.conn
          (failed_then (state g.S.Store c.args.conn.now) (state g.S.Store c.rows_of.new.conn)
          (state g.S.Store c.rows_of-2.new.conn) c.in_ok-mirrors.ensures.queries.read
          c.in_err-components.ensures.queries.failed);
      untouched = failed_leaves old new (failed_then old (state g.S.Store c.rows_of.new.conn) new
          c.in_ok-mirrors.ensures.queries.read c.in_err-components.ensures.queries.failed);
    }

pub returns : goal.returns
returns g c =
    let old = state g.S.Store c.args.conn.now in
    let mid = state g.S.Store c.rows_of.new.conn in
    let new = state g.S.Store c.rows_of-2.new.conn in
    record {
      says = λ clean.
          let early = clean_before mid new c.in_ok-components.ensures.queries.read clean in
          if_ok c.state_of_rows.result _ _ (λ s says was.
          any_records old.now.trees c.in_ok-mirrors.mirrors.items
          c.in_ok-components.components.items
          (c.in_ok-mirrors.ensures.queries.rows early (registry_ours old was))
          (then_shown old mid new _ c.in_ok-mirrors.ensures.queries.read
          c.in_ok-components.ensures.queries.read clean
          c.in_ok-components.ensures.queries.rows (registry_ours old was)) s
          (subst₂ (λ (m k : List Row). SayState m k s) c.deref.ensures.value c.deref-2.ensures.value
          says)) c.state_of_rows.ensures.says;
      silent = λ clean.
          let early = clean_before mid new c.in_ok-components.ensures.queries.read clean in
          if_err c.state_of_rows.result _ _ (λ e none is s was of.
          none is s (subst₂ (λ (m k : List Row). SayState m k s) (sym c.deref.ensures.value)
          (sym c.deref-2.ensures.value)
          (any_state old.now.trees c.in_ok-mirrors.mirrors.items c.in_ok-components.components.items
          (c.in_ok-mirrors.ensures.queries.rows early (registry_ours old was))
          (then_shown old mid new _ c.in_ok-mirrors.ensures.queries.read
          c.in_ok-components.ensures.queries.read clean
          c.in_ok-components.ensures.queries.rows (registry_ours old was)) s of)))
          c.state_of_rows.ensures.unreadable;
      state = λ clean.
          let early = clean_before mid new c.in_ok-components.ensures.queries.read clean in
          let both = read_then old mid new c.in_ok-mirrors.ensures.queries.read
          c.in_ok-components.ensures.queries.read in
          if_ok c.state_of_rows.result _ _ (λ it only t was. (
            λ s of. sym (only s (subst₂ (λ (m k : List Row). SayState m k s)
                (sym c.deref.ensures.value) (sym c.deref-2.ensures.value)
                (says_records old.now.trees c.in_ok-mirrors.mirrors.items
                c.in_ok-components.components.items
                (c.in_ok-mirrors.ensures.queries.rows early (ours old t was))
                (then_shown old mid new _ c.in_ok-mirrors.ensures.queries.read
                c.in_ok-components.ensures.queries.read
                clean c.in_ok-components.ensures.queries.rows (ours old t was)) t s (counted old t
                was).rows
                of))),
            saved g.S.Store g.met.S.Store.settled c.rows_of-2.new.conn t
                (tables_stay old new t both clean was),
          )) c.state_of_rows.ensures.only;
      unreadable = λ clean.
          let early = clean_before mid new c.in_ok-components.ensures.queries.read clean in
          if_err c.state_of_rows.result _ _ (λ e none is t s was of.
          none is s (subst₂ (λ (m k : List Row). SayState m k s) (sym c.deref.ensures.value)
          (sym c.deref-2.ensures.value)
          (says_records old.now.trees c.in_ok-mirrors.mirrors.items
          c.in_ok-components.components.items
          (c.in_ok-mirrors.ensures.queries.rows early (ours old t was))
          (then_shown old mid new _ c.in_ok-mirrors.ensures.queries.read
          c.in_ok-components.ensures.queries.read clean
          c.in_ok-components.ensures.queries.rows (ours old t was)) t s (counted old t was).rows
          of)))
          c.state_of_rows.ensures.unreadable;
      store = search rules;
      reads = answered_reads g.S.Store g.met.S.Store.settled c.args.conn.now c.rows_of-2.new.conn
          (read_then (state g.S.Store c.args.conn.now) (state g.S.Store c.rows_of.new.conn)
          (state g.S.Store c.rows_of-2.new.conn) c.in_ok-mirrors.ensures.queries.read
          c.in_ok-components.ensures.queries.read);
      untouched =
          let old = state g.S.Store c.args.conn.now in
          let new = state g.S.Store c.rows_of-2.new.conn in
          read_leaves old new (read_then old (state g.S.Store c.rows_of.new.conn) new
          c.in_ok-mirrors.ensures.queries.read c.in_ok-components.ensures.queries.read);
    }
