use Rattle.gm_registry.proofs.Common.{rules, ◌∙◌, [], inl, inr, refl, sym, subst, flat_map, IsPermutation, take_all, IsPermutation-refl, state, read_at_most, on_err, under, IsOurSchema, passed_on, map, map-append, component_shown, shown_under, seen, Contains-Has, IsComponentValue, SayNone}
use Rattle.gm_rows.proofs.FoundLabels.{one_more}
use Rattle.gm_registry.proofs.ReadsInTurn.{clean_before}
use Rattle.gm_registry.proofs.SomeReads.{some_then, some_failed, some_stay, some_later, failed_clean}
use Rattle.gm_registry.proofs.SaidParts.{some_carried}
use Rattle.gm_registry.proofs.SilentParts.{none_under}
use Rattle.gm_registry.proofs.components_by_key.components_under.Goals as goal

pub labels-init : goal.labels-init
labels-init g c = record {
  read = inl refl;
  found = λ _ t s _ _. subst (IsPermutation []) (sym c.new-all.ensures.items)
      (IsPermutation-refl []);
  says = λ _ _. subst (λ ks. IsPermutation [] (map component_shown ks))
      (sym c.new-all.ensures.items) (IsPermutation-refl []);
}

pub returns-in_err-some-clause-tells : goal.returns-in_err-some-clause-tells
returns-in_err-some-clause-tells g c =
    record {
      says = search rules;
      silent = λ clean.
          let early = failed_clean (state g.S.Store c.labels.conn)
          (state g.S.Store c.components_with.new.conn) c.in_err-some.ensures.fails.failed clean in
          let label = c.label-item.result in
          passed_on c.from_residual.result _ _ (λ e same is known.
          none_under component_shown IsComponentValue
          (shown_under (seen g.S.Store c.args.conn.now) c.args.key) c.args.labels.now label
          (Contains-Has c.args.labels.now label c.labels.label-index c.labels-test.true
          (sym c.label-item.is))
          (some_carried g.S.Store c.args.conn.now c.labels.conn
          (λ trees. SayNone component_shown IsComponentValue (shown_under trees c.args.key label))
          c.labels.invariant.read early (c.in_err-some.ensures.tells.silent clean (sym same ∙ is))
          known))
          c.from_residual.ensures.1;
      found = search rules;
      unreadable = λ clean.
          let early = failed_clean (state g.S.Store c.labels.conn)
          (state g.S.Store c.components_with.new.conn) c.in_err-some.ensures.fails.failed clean in
          passed_on c.from_residual.result _ _ (λ e same is t s was of.
          c.in_err-some.ensures.tells.unreadable clean (sym same ∙ is) t s
          (some_stay g.S.Store c.args.conn.now c.labels.conn t c.labels.invariant.read early was)
          of)
          c.from_residual.ensures.1;
    }

pub returns-in_err-some-clause-fails : goal.returns-in_err-some-clause-fails
returns-in_err-some-clause-fails g c =
    record {
      failed = on_err c.from_residual.result _
          (some_failed g.S.Store c.args.conn.now c.labels.conn c.components_with.new.conn
          c.labels.invariant.read c.in_err-some.ensures.fails.failed);
      store = λ clean.
          let early = failed_clean (state g.S.Store c.labels.conn)
          (state g.S.Store c.components_with.new.conn) c.in_err-some.ensures.fails.failed clean in
          passed_on c.from_residual.result _ _ (λ e same is ours is_open.
          some_later g.S.Store c.args.conn.now c.labels.conn c.components_with.new.conn
          c.labels.invariant.read early ours is_open
          (c.in_err-some.ensures.fails.store clean (sym same ∙ is))) c.from_residual.ensures.1;
    }

pub returns-in_err-extend_from_slice-clause-fails :
    goal.returns-in_err-extend_from_slice-clause-fails
returns-in_err-extend_from_slice-clause-fails g c =
    record {
      failed = on_err c.from_residual-in_err-extend_from_slice.result _
          (read_at_most IsOurSchema (state g.S.Store c.args.conn.now)
          (state g.S.Store c.components_with.new.conn)
          (some_then g.S.Store c.args.conn.now c.labels.conn c.components_with.new.conn
          c.labels.invariant.read c.in_ok-some.ensures.read));
      store = search rules;
    }

pub labels-preserved : goal.labels-preserved
labels-preserved g c =
    let before = c.labels.invariant in
    record {
      read = inr (some_then g.S.Store c.args.conn.now c.labels.conn c.components_with.new.conn
          before.read c.in_ok-some.ensures.read);
      found = λ clean t s was of.
          let early = clean_before (state g.S.Store c.labels.conn)
          (state g.S.Store c.components_with.new.conn) c.in_ok-some.ensures.read clean in
          let some = c.in_ok-some.ensures.tells.found clean t s
          (some_stay g.S.Store c.args.conn.now c.labels.conn t before.read early was) of in
          let both = one_more (under c.args.key s.components) c.args.labels.now c.labels.label-index
          c.label-item.result c.labels.all.items c.in_ok-some.some.items c.labels-test.true
          c.label-item.is (before.found early t s was of) some in
          rw (c.in_ok-extend_from_slice.ensures.items, c.deref.ensures.value) both;
      says = λ clean known.
          let early = clean_before (state g.S.Store c.labels.conn)
          (state g.S.Store c.components_with.new.conn) c.in_ok-some.ensures.read clean in
          let db = seen g.S.Store c.args.conn.now in
          let some = some_carried g.S.Store c.args.conn.now c.labels.conn
          (λ trees. IsPermutation (shown_under trees c.args.key c.label-item.result)
          (map component_shown c.in_ok-some.some.items)) before.read early
          (c.in_ok-some.ensures.tells.says clean) known in
          let both = one_more (shown_under db c.args.key) c.args.labels.now c.labels.label-index
          c.label-item.result (map component_shown c.labels.all.items)
          (map component_shown c.in_ok-some.some.items) c.labels-test.true
          c.label-item.is (before.says early known) some in
          rw (c.in_ok-extend_from_slice.ensures.items, c.deref.ensures.value)
          (subst (IsPermutation _) (sym (map-append component_shown c.labels.all.items
          c.in_ok-some.some.items)) both);
    }

pub returns-clause-tells : goal.returns-clause-tells
returns-clause-tells g c =
    record {
      says = λ clean known.
          subst (λ all. IsPermutation (flat_map (shown_under (seen g.S.Store c.args.conn.now)
          c.args.key)
          all) (map component_shown c.labels.all.items))
          (take_all c.labels.label-index c.args.labels.now c.labels-test.false)
          (c.labels.invariant.says clean known);
      silent = search rules;
      found = λ clean t s was of.
          subst (λ all. IsPermutation (flat_map (under c.args.key s.components) all)
          c.labels.all.items)
          (take_all c.labels.label-index c.args.labels.now c.labels-test.false)
          (c.labels.invariant.found clean t s was of);
      unreadable = search rules;
    }
