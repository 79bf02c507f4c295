use Rattle.gm_rows.proofs.Common.{◌∙◌, sym, mirror_shown, component_shown, IsMirrorValue, IsComponentValue}
use Rattle.gm_rows.proofs.TypedRecords.{mirror_value, component_value}
use Rattle.gm_rows.proofs.RowsSayRecords.{one_mirror, one_component, says_these, none_said, read_said, passed_on}
use Rattle.gm_state.proofs.MadeState.{same_state}
use Rattle.gm_rows.proofs.said_state.state_of_rows.Goals as goal

pub returns-in_err-mirrors-clause-unreadable : goal.returns-in_err-mirrors-clause-unreadable
returns-in_err-mirrors-clause-unreadable c =
    passed_on c.from_residual.result _ _ (λ e same is s says.
    none_said mirror_shown IsMirrorValue c.args.mirrors.now
    (c.in_err-mirrors.ensures.unreadable (sym same ∙ is)) s.mirrors
    (mirror_value s says.state) says.mirrors_are) c.from_residual.ensures.1

pub returns-in_err-components-clause-unreadable : goal.returns-in_err-components-clause-unreadable
returns-in_err-components-clause-unreadable c =
    passed_on c.from_residual-in_err-components.result _ _ (λ e same is s says.
    none_said component_shown IsComponentValue c.args.components.now
    (c.in_err-components.ensures.unreadable (sym same ∙ is)) s.components
    (component_value s says.state) says.components_are)
    c.from_residual-in_err-components.ensures.1

pub returns-in-Some-clause-says : goal.returns-in-Some-clause-says
returns-in-Some-clause-says c = record {
  state = c.in-Some.ensures.some.state;
  mirrors_are =
      says_these mirror_shown c.args.mirrors.now c.in_ok-mirrors.mirrors.items _
      c.in_ok-mirrors.ensures.read c.in-Some.ensures.some.mirrors_are;
  components_are =
      says_these component_shown c.args.components.now c.in_ok-components.components.items _
      c.in_ok-components.ensures.read c.in-Some.ensures.some.components_are;
}

pub returns-in-None-clause-unreadable : goal.returns-in-None-clause-unreadable
returns-in-None-clause-unreadable c same s says =
    c.in-None.ensures.none s (record {
      state = says.state;
      mirrors_are =
          read_said mirror_shown (λ a b. one_mirror a b (c.one_row.ensures.mirror a b))
          c.args.mirrors.now c.in_ok-mirrors.mirrors.items s.mirrors c.in_ok-mirrors.ensures.read
          says.mirrors_are;
      components_are =
          read_said component_shown (λ a b. one_component a b (c.one_row.ensures.component a b))
          c.args.components.now c.in_ok-components.components.items s.components
          c.in_ok-components.ensures.read says.components_are;
    })

pub returns-in-Some-clause-only : goal.returns-in-Some-clause-only
returns-in-Some-clause-only c other says =
    same_state c.in_ok-mirrors.mirrors.items c.in_ok-components.components.items other
    c.in-Some.state
    (record {
      state = says.state;
      mirrors_are =
          read_said mirror_shown (λ a b. one_mirror a b (c.one_row.ensures.mirror a b))
          c.args.mirrors.now c.in_ok-mirrors.mirrors.items other.mirrors
          c.in_ok-mirrors.ensures.read says.mirrors_are;
      components_are =
          read_said component_shown (λ a b. one_component a b (c.one_row.ensures.component a b))
          c.args.components.now c.in_ok-components.components.items other.components
          c.in_ok-components.ensures.read says.components_are;
    })
    c.in-Some.ensures.some
