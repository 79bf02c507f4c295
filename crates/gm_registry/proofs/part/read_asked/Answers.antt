use Rattle.gm_registry.proofs.Common.{rules, ◌≡◌, ◌∙◌, List, ℕ, sym, ap, subst, arith, map, filter, flat_map, length, IsPermutation, length_permutation, state, read_at_most, on_err, name, part_of, under, is_asked_by, IsOurSchema, Provider, passed_on, length-map, IsPermutation-refl, Trees, shown_places, mirror_shown, component_shown, columns_at, Mirrors, shown_under, IsComponentValue, component_value, SayNone}
use Rattle.gm_registry.specs.declared.components_by_key.Key.TheVariants.{Mirror}
use Rattle.gm_registry.proofs.Failures.{failed_later}
use Rattle.gm_registry.proofs.PartOf.{mirrors_asked, components_asked}
use Rattle.gm_registry.proofs.ReadsInTurn.{failed_then, tables_stay}
use Rattle.gm_registry.proofs.SomeReads.{then_some, some_clean, some_stay, failed_clean}
use Rattle.gm_registry.proofs.ReadsInTurn.{carried}
use Rattle.gm_registry.proofs.SilentParts.{asked_alike, owned_alike}
use Rattle.gm_registry.proofs.part.read_asked.Goals as goal

pub returns-in_err-named-clause-tells : goal.returns-in_err-named-clause-tells
returns-in_err-named-clause-tells g c =
    let old = state g.S.Store c.args.conn.now in
    record {
      says = search rules;
      silent = λ clean.
          let one = state g.S.Store c.all_mirrors.new.conn in
          let early = failed_clean one (state g.S.Store c.components_under.new.conn)
          c.in_err-named.ensures.fails.failed clean in
          passed_on c.from_residual-in_err-named.result _ _ (λ e same is known p said values.
          carried old one (λ (trees : Trees). SayNone component_shown IsComponentValue
          (flat_map (shown_under trees Provider) c.providers_of.result.now))
          c.in_ok-all.ensures.read early (c.in_err-named.ensures.tells.silent clean (sym same ∙
          is)) known
          said.1.named values.named
          (subst (λ ps. IsPermutation (flat_map (shown_under old.now.trees Provider) ps)
          (map component_shown said.1.named)) (sym c.providers_of.ensures) said.1.named_are))
          c.from_residual-in_err-named.ensures.1;
      found = search rules;
      unreadable = λ clean.
          let mid = state g.S.Store c.all_mirrors.new.conn in
          let early = failed_clean mid (state g.S.Store c.components_under.new.conn)
          c.in_err-named.ensures.fails.failed clean in
          passed_on c.from_residual-in_err-named.result _ _ (λ e same is t s was of.
          c.in_err-named.ensures.tells.unreadable clean (sym same ∙ is) t s
          (tables_stay old mid t c.in_ok-all.ensures.read early was) of)
          c.from_residual-in_err-named.ensures.1;
    }

pub returns-in_err-named-clause-fails : goal.returns-in_err-named-clause-fails
returns-in_err-named-clause-fails g c =
    record {
      failed = on_err c.from_residual-in_err-named.result _
          (failed_then (state g.S.Store c.args.conn.now) (state g.S.Store c.all_mirrors.new.conn)
          (state g.S.Store c.components_under.new.conn) c.in_ok-all.ensures.read
          c.in_err-named.ensures.fails.failed);
      store = λ clean.
          let old = state g.S.Store c.args.conn.now in
          let mid = state g.S.Store c.all_mirrors.new.conn in
          let new = state g.S.Store c.components_under.new.conn in
          let early = failed_clean mid new c.in_err-named.ensures.fails.failed clean in
          passed_on c.from_residual-in_err-named.result _ _ (λ e same is ours is_open.
          failed_later IsOurSchema old mid new c.in_ok-all.ensures.read early ours is_open
          (c.in_err-named.ensures.fails.store clean (sym same ∙ is)))
          c.from_residual-in_err-named.ensures.1;
    }

pub returns-in_err-mirrors-clause-fails : goal.returns-in_err-mirrors-clause-fails
returns-in_err-mirrors-clause-fails g c =
    record {
      failed = on_err c.from_residual-in_err-mirrors.result _
          (read_at_most IsOurSchema (state g.S.Store c.args.conn.now)
          (state g.S.Store c.components_under.new.conn)
          (then_some g.S.Store c.args.conn.now c.all_mirrors.new.conn c.components_under.new.conn
          c.in_ok-all.ensures.read c.in_ok-named.ensures.read));
      store = search rules;
    }

pub returns-in_err-names-clause-fails : goal.returns-in_err-names-clause-fails
returns-in_err-names-clause-fails g c =
    record {
      failed = on_err c.from_residual-in_err-names.result _
          (read_at_most IsOurSchema (state g.S.Store c.args.conn.now)
          (state g.S.Store c.components_under.new.conn)
          (then_some g.S.Store c.args.conn.now c.all_mirrors.new.conn c.components_under.new.conn
          c.in_ok-all.ensures.read c.in_ok-named.ensures.read));
      store = search rules;
    }

pub returns-in_err-components-clause-tells : goal.returns-in_err-components-clause-tells
returns-in_err-components-clause-tells g c =
    let old = state g.S.Store c.args.conn.now in
    let both = then_some g.S.Store c.args.conn.now c.all_mirrors.new.conn
    c.components_under.new.conn c.in_ok-all.ensures.read c.in_ok-named.ensures.read in
    record {
      says = search rules;
      silent = λ clean.
          let one = state g.S.Store c.all_mirrors.new.conn in
          let two = state g.S.Store c.components_under.new.conn in
          let command = c.args.command.now in
          let mids = c.args.mids.now in
          let all = c.in_ok-all.all.items in
          let named = c.in_ok-named.named.items in
          let mirrors = c.in_ok-mirrors.mirrors.items in
          let clean2 = failed_clean two (state g.S.Store c.components_under-2.new.conn)
          c.in_err-components.ensures.fails.failed clean in
          let clean1 = some_clean g.S.Store c.all_mirrors.new.conn c.components_under.new.conn
          c.in_ok-named.ensures.read clean2 in
          let mirrors_are : mirrors ≡ filter (is_asked_by command mids named) all =
          c.in_ok-mirrors.ensures
          ∙ (λ i. filter (is_asked_by command mids (c.deref.ensures.value i))
          (c.deref-2.ensures.value i)) in
          let names_are : c.deref-4.result.now ≡ map name mirrors =
          c.deref-4.ensures.value ∙ (c.in_ok-names.ensures ∙ ap (map name) c.deref-3.ensures.value)
          in
          passed_on c.from_residual-in_err-components.result _ _ (λ e same is known p said values.
          let on = subst (λ ps. IsPermutation (flat_map (shown_under old.now.trees Provider) ps)
          (map component_shown named)) c.providers_of.ensures
          (carried old one (λ (trees : Trees). IsPermutation
          (flat_map (shown_under trees Provider) c.providers_of.result.now) (map component_shown
          named))
          c.in_ok-all.ensures.read clean1 (c.in_ok-named.ensures.tells.says clean2) known) in
          let alike = subst (λ l. IsPermutation l p.state.mirrors) (sym mirrors_are)
          (asked_alike old.now.trees command mids p.state.mirrors p.state.components p.mirrors
          said.1 all
          named (c.in_ok-all.ensures.tells.says clean1 known) on) in
          carried old two (λ (trees : Trees). SayNone component_shown IsComponentValue
          (flat_map (shown_under trees Mirror) c.deref-4.result.now)) both clean2
          (c.in_err-components.ensures.tells.silent clean (sym same ∙ is)) known p.state.components
          (component_value p.state said.0)
          (subst (λ (ns : List (List ℕ)). IsPermutation (flat_map (shown_under old.now.trees
          Mirror) ns)
          (map component_shown p.state.components)) (sym names_are)
          (owned_alike old.now.trees command mids p.state.mirrors p.state.components p.mirrors
          said.1
          mirrors alike))) c.from_residual-in_err-components.ensures.1;
      found = search rules;
      unreadable = λ clean.
          let mid = state g.S.Store c.components_under.new.conn in
          let early = failed_clean mid (state g.S.Store c.components_under-2.new.conn)
          c.in_err-components.ensures.fails.failed clean in
          passed_on c.from_residual-in_err-components.result _ _ (λ e same is t s was of.
          c.in_err-components.ensures.tells.unreadable clean (sym same ∙ is) t s
          (tables_stay old mid t both early was) of) c.from_residual-in_err-components.ensures.1;
    }

pub returns-in_err-components-clause-fails : goal.returns-in_err-components-clause-fails
returns-in_err-components-clause-fails g c =
    let both = then_some g.S.Store c.args.conn.now c.all_mirrors.new.conn
    c.components_under.new.conn c.in_ok-all.ensures.read c.in_ok-named.ensures.read in
    record {
      failed = on_err c.from_residual-in_err-components.result _
          (failed_then (state g.S.Store c.args.conn.now) (state g.S.Store
          c.components_under.new.conn)
          (state g.S.Store c.components_under-2.new.conn) both
          c.in_err-components.ensures.fails.failed);
      store = λ clean.
          let old = state g.S.Store c.args.conn.now in
          let mid = state g.S.Store c.components_under.new.conn in
          let new = state g.S.Store c.components_under-2.new.conn in
          let early = failed_clean mid new c.in_err-components.ensures.fails.failed clean in
          passed_on c.from_residual-in_err-components.result _ _ (λ e same is ours is_open.
          failed_later IsOurSchema old mid new both early ours is_open
          (c.in_err-components.ensures.fails.store clean (sym same ∙ is)))
          c.from_residual-in_err-components.ensures.1;
    }

pub returns-clause-tells : goal.returns-clause-tells
returns-clause-tells g c =
    let command = c.args.command.now in
    let mids = c.args.mids.now in
    let mirrors = c.in_ok-mirrors.mirrors.items in
    let names_are : c.deref-4.result.now ≡ map name mirrors =
    c.deref-4.ensures.value ∙ (c.in_ok-names.ensures ∙ ap (map name) c.deref-3.ensures.value)
    in
    record {
      says = λ clean known.
          let old = state g.S.Store c.args.conn.now in
          let one = state g.S.Store c.all_mirrors.new.conn in
          let two = state g.S.Store c.components_under.new.conn in
          let all = c.in_ok-all.all.items in
          let named = c.in_ok-named.named.items in
          let owned = c.in_ok-components.components.items in
          let clean2 = some_clean g.S.Store c.components_under.new.conn
          c.components_under-2.new.conn
          c.in_ok-components.ensures.read clean in
          let clean1 = some_clean g.S.Store c.all_mirrors.new.conn c.components_under.new.conn
          c.in_ok-named.ensures.read clean2 in
          let both = then_some g.S.Store c.args.conn.now c.all_mirrors.new.conn
          c.components_under.new.conn c.in_ok-all.ensures.read c.in_ok-named.ensures.read in
          let on = carried old one (λ (trees : Trees). IsPermutation
          (flat_map (shown_under trees Provider) c.providers_of.result.now) (map component_shown
          named))
          c.in_ok-all.ensures.read clean1 (c.in_ok-named.ensures.tells.says clean2) known in
          let mirrors_are : mirrors ≡ filter (is_asked_by command mids named) all =
          c.in_ok-mirrors.ensures
          ∙ (λ i. filter (is_asked_by command mids (c.deref.ensures.value i))
          (c.deref-2.ensures.value i)) in
          let theirs = carried old two (λ (trees : Trees). IsPermutation
          (flat_map (shown_under trees Mirror) c.deref-4.result.now) (map component_shown owned))
          both clean2 (c.in_ok-components.ensures.tells.says clean) known in
          let said = c.in_ok-all.ensures.tells.says clean1 known in
          let many = length_permutation _ _ said in
          record {
            mirrors = all;
            named = named;
            mirrors_are = said;
            named_are = subst (λ ps. IsPermutation (flat_map (shown_under old.now.trees Provider)
                ps)
                (map component_shown named)) c.providers_of.ensures on;
            asked_are = subst (λ l. IsPermutation l mirrors) mirrors_are (IsPermutation-refl
                mirrors);
            owned_are = subst (λ (ns : List (List ℕ)). IsPermutation
                (flat_map (shown_under old.now.trees Mirror) ns) (map component_shown owned))
                names_are
                theirs;
            count_is = omega (
              arith,
              many,
              length-map (old.now.trees 1) (columns_at (shown_places Mirrors)),
              length-map all mirror_shown,
              c.len-count.ensures,
              c.deref-2.ensures.len,
              ap length c.deref-2.ensures.value,
            );
          };
      silent = search rules;
      found = λ clean t s was of.
          let clean2 = some_clean g.S.Store c.components_under.new.conn
          c.components_under-2.new.conn
          c.in_ok-components.ensures.read clean in
          let clean1 = some_clean g.S.Store c.all_mirrors.new.conn c.components_under.new.conn
          c.in_ok-named.ensures.read clean2 in
          let at1 = tables_stay (state g.S.Store c.args.conn.now)
          (state g.S.Store c.all_mirrors.new.conn) t c.in_ok-all.ensures.read clean1 was in
          let at2 = some_stay g.S.Store c.all_mirrors.new.conn c.components_under.new.conn t
          c.in_ok-named.ensures.read clean2 at1 in
          let all = c.in_ok-all.ensures.tells.found clean1 t s was of in
          let on = subst (λ ps. IsPermutation (flat_map (under Provider s.components) ps)
          c.in_ok-named.named.items) c.providers_of.ensures
          (c.in_ok-named.ensures.tells.found clean2 t s at1 of) in
          let mirrors_are : mirrors ≡ filter (is_asked_by command mids c.in_ok-named.named.items)
          c.in_ok-all.all.items =
          c.in_ok-mirrors.ensures
          ∙ (λ i. filter (is_asked_by command mids (c.deref.ensures.value i))
          (c.deref-2.ensures.value i)) in
          let mine = subst (IsPermutation (part_of s command mids).mirrors) (sym mirrors_are)
          (mirrors_asked s command mids of.state c.in_ok-named.named.items on c.in_ok-all.all.items
          all) in
          let found = subst (λ (ns : List (List ℕ)). IsPermutation
          (flat_map (under Mirror s.components) ns) c.in_ok-components.components.items) names_are
          (c.in_ok-components.ensures.tells.found clean t s at2 of) in
          let many = length_permutation s.mirrors c.in_ok-all.all.items all in
          record {
            mirrors = mine;
            components =
                components_asked s command mids of.state mirrors
                c.in_ok-components.components.items mine
                found;
            count = omega (
              arith,
              many,
              c.len-count.ensures,
              c.deref-2.ensures.len,
              ap length c.deref-2.ensures.value,
            );
          };
      unreadable = search rules;
    }

pub returns-clause-read : goal.returns-clause-read
returns-clause-read g c =
    let both = then_some g.S.Store c.args.conn.now c.all_mirrors.new.conn
    c.components_under.new.conn c.in_ok-all.ensures.read c.in_ok-named.ensures.read in
    then_some g.S.Store c.args.conn.now c.components_under.new.conn c.components_under-2.new.conn
    both c.in_ok-components.ensures.read

pub returns-in_err-all-clause-tells : goal.returns-in_err-all-clause-tells
returns-in_err-all-clause-tells g c =
    record {
      says = search rules;
      silent = λ clean. passed_on c.from_residual.result _ _ (λ e same is known p said values.
          c.in_err-all.ensures.tells.silent clean (sym same ∙ is) known said.1.mirrors
          values.mirrors
          said.1.mirrors_are) c.from_residual.ensures.1;
      found = search rules;
      unreadable = search rules;
    }
