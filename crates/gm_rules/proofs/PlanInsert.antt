-- The plan of insert.
use Rattle.gm_rules.proofs.Common.{◌≡◌, ◌≢◌, inl, ⊎_elim, ℕ, ◌<◌, ◌≤◌, ◌+◌, ◌==◌, nat_lt, refl, sym, ap, subst, arith, List, [], ◌∷◌, Some, length, list_any, or_parts, same_label, Command, Insert, Mirror, Component, Inactive, Has, put, Records, IsMirror, ComponentFits, held_by, held_of, members, provider, mirror_of, World, Below, present, same_from, same_refl, differ, filter-put, filter-put_out, put_stays, put_or, Ascends-put, length-put_le, Has-filter, any_one, none_any, not_both, metas, spare, is_there_and, seen_of, fails_there, not_below, not_at, new_name}
use Rattle.gm_commands.specs.declared.command.NewComponent.{NewComponent}
use Rattle.gm_refusals.specs.declared.refusals.Refusal.TheVariants as refusals
use Rattle.gm_rules.proofs.PlanOf.{Allowed, PlanOf, Nothing}
use Rattle.gm_rules.proofs.RuledOut.{IsFree, Names, by_name, is_free, put_bare}
use Rattle.gm_rules.proofs.TurnedMirror.{Adjusts, adjusts_data, Renews, adjusts_turns, renewed_fits, with_put}

module _ (u : World) (new : NewComponent) (m : Mirror)
    (of : Names u (Insert (record new { name = m.name })) m) where
  abbrev c : Command
  c = Insert (record new { name = m.name })

  abbrev may : Allowed u c
  may = of.may

  free : IsFree u.state (seen_of u) new.provider
  free = is_free u.state (seen_of u) c may.good refl refl refl refl new.provider (inl refl)

  abbrev sectors : ℕ
  sectors = free.sectors

  abbrev k : Component
  k = spare m new sectors

  abbrev old : List Component
  old = members u.state.components m.name

  abbrev ks : List Component
  ks = put provider k old

  abbrev m' : Mirror
  m' = record m { all = m.all + 1 }

  abbrev s : Records
  s = with_put u.state m' (put provider k u.state.components)

  abbrev rules : IsMirror m old
  rules = of.rules

  big : m.data_sectors + 1 ≤ sectors
  big = not_below sectors (m.data_sectors + 1)
      (fails_there (present u new.provider) sectors (λ n. nat_lt n (m.data_sectors + 1)) free.size
      (any_one (λ q. is_there_and (present u q) (λ n. nat_lt n (m.data_sectors + 1))) new.provider
      (fails_there (mirror_of u.state m.name) m
      (λ a. list_any (λ q. is_there_and (present u q) (λ n. nat_lt n (a.data_sectors + 1)))
      (new.provider ∷ [])) of.found (may.good refusals.TooSmall refl))))

  apart : m.all ≢ 16
  apart = not_at m.all 16 (fails_there (mirror_of u.state m.name) m (λ a. a.all == 16) of.found
      (or_parts _ _ (may.good refusals.Full refl)).0)

  new_did : (j : Component) → Has old j → j.did ≢ new.did
  new_did j h = not_at j.did new.did
      (none_any _ old (or_parts _ _ (may.good refusals.DidTaken refl)).0 j h)

  other_name : (j : Component) → Has u.state.components j → {P : Type 0} → j.provider ≡ new.provider
      → P
  other_name j i e =
      not_both (same_label j.provider new.provider) (same_from j.provider new.provider e)
      (new_name u.state new.provider free.none j i)

  -- for each of ks: the new one, or an old one
  each : (P : Component → Type 0) → P k → ((j : Component) → Has old j → P j) → (j : Component)
      → Has ks j → P j
  each P one olds j i =
      ⊎_elim (λ (e : k ≡ j). subst P e one) (λ (o : Has old j). olds j o)
      (put_or provider k old j i)

  same : Renews m m'
  same = record {
    name = refl;
    mid = refl;
    sectors = refl;
    counts = (rules.fits.genid, rules.fits.syncid, rules.fits.slice);
    all = (let r : m.all ≤ 16 = rules.all in omega (arith, apart));
  }

  rules' : IsMirror m' ks
  rules' = record {
    fits = renewed_fits m m' same rules.fits;
    members_fit = each ComponentFits
        (record { provider = may.fits.1; did = may.fits.2; priority = may.fits.3 })
        rules.members_fit;
    some = rules.some;
    all = same.all;
    room = (let a : length ks ≤ length old + 1 = length-put_le provider k old in
        let b : length old ≤ m.all = rules.room in omega arith);
    active = (
      rules.active.0,
      put_stays provider k old rules.active.0 rules.active.1
          (λ e. other_name rules.active.0 (Has-filter (λ (c : Component).
          same_label c.mirror m.name) u.state.components rules.active.0 rules.active.1).0 e),
      rules.active.2,
    );
    sizes = each (λ j. m.data_sectors + 1 ≤ j.sectors) big rules.sizes;
    limits = each (λ j. j.sectors ≤ 1048576) free.limit rules.limits;
    held = each (λ j. held_of j.disk < m.data_sectors) rules.some rules.held;
    dids = each (λ i. (j : Component) → Has ks j → i.did ≡ j.did → i ≡ j)
        (each (λ j. new.did ≡ j.did → k ≡ j) (λ e. refl) (λ j o e. absurd (new_did j o (sym e))))
        (λ i o. each (λ j. i.did ≡ j.did → i ≡ j) (λ e. absurd (new_did i o e))
        (λ j q e. rules.dids i o j q e));
    syncids = each (λ j. j.syncid ≤ m.syncid) (omega arith) rules.syncids;
    current = each (λ j. j.disk ≢ Inactive → j.syncid ≡ m.syncid) (λ n. refl) rules.current;
  }

  adjusts : Adjusts u.state m m' s.components ks
  adjusts = record {
    here = of.here;
    same = same;
    in_order = Ascends-put provider k u.state.components may.sound.state.components_in_order;
    mine = filter-put provider (λ (c : Component). same_label c.mirror m.name) k u.state.components
        may.sound.state.components_in_order (same_refl m.name) (λ z i e. other_name z i e);
    others = λ n d. filter-put_out provider (λ (c : Component). same_label c.mirror n) k
        u.state.components (differ m.name n (λ e. d (sym e))) (λ z i e. other_name z i e);
    rules = rules';
  }

  insert_found : PlanOf u c
  insert_found = record {
    mirror = m';
    components = ks;
    list = u.holds m.name;
    records = s;
    fill = Nothing;
    gone = [];
    told = ks;
    turns = adjusts_turns u.state m m' s.components ks may.sound.state adjusts;
    after_is = rw (of.found, free.size) refl;
    intents = ap metas (sym adjusts.mine);
    bytes = refl;
    named = λ j h. refl;
    reply = tt;
    there = each (λ j. present u j.provider ≡ Some j.sectors) free.size
        (λ j o. of.there j o refl);
    below = each (λ j. Below u.shelf (u.holds m.name) j.provider (held_by j.disk m.data_sectors))
        (λ i l. absurd (omega arith))
        (λ j o. may.sound.whole m j (record { mirror = of.here; component = o }));
    same_data = adjusts_data u c m m' s.components ks may.sound adjusts;
    new = λ w e. tt;
    bare = λ w e. put_bare u k free.size (let b : 2 ≤ sectors = free.some in omega arith)
        (may.good refusals.CarriesMetadata refl) w (ap (λ (r : Records). r.components) e);
    can_fill = tt;
    filled = λ q j. refl;
    cleared = λ q h. absurd h;
    all_gone = λ q. refl;
    told_are = λ j h. h;
    all_told = λ j h. inl h;
  }

pub insert_plan : (u : World) (new : NewComponent) → Allowed u (Insert new) → PlanOf u (Insert new)
insert_plan u new may =
    by_name u (λ n. Insert (record new { name = n })) new.name may (λ a. refl) (λ a. refl)
    (λ a. refl) (insert_found u new)
