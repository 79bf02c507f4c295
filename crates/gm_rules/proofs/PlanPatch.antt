-- The plan of patch: sectors are laid over the data of a mirror, and its ACTIVE components say so.
use Rattle.gm_rules.proofs.Common.{◌≡◌, ◌≢◌, ◌∙◌, ◌⊎◌, inl, inr, ⊎_elim, ℕ, ◌+◌, ◌<◌, ◌≤◌, ◌&&◌, nat_le, nat_lt, true, false, refl, sym, ap, subst, arith, List, [], find, flat_map, length, map, None, list_any, cases_Bool, same_label, Command, Mirror, Component, Disk, InSync, Inactive, Copying, Has, IsMirror, held_by, members, name, IsOf, is_active, metadata, World, Below, any-map, any_agree, any_from, found_none, none_any, not_both, Has-filter, filter-Has, map-Has, filter-map, same_from, same_refl, one, is_being_filled, ends_within, one_more_sync, active_of, freshened, laid_over, patching, Keeps, keeps_freshened, members_put}
use Rattle.gm_commands.specs.declared.command.Command.TheVariants.{Patch}
use Rattle.gm_commands.proofs.JoinedSectors.{are_long}
use Rattle.gm_refusals.specs.declared.refusals.Refusal.TheVariants as refusals
use Rattle.gm_rules.proofs.MappedMirror.{Reshapes, fresh_disk, maps_plan, obeys_freshened}
use Rattle.gm_rules.proofs.PlanOf.{Allowed, Fill, IsLaid, Laid, PlanOf, with_filled}
use Rattle.gm_rules.proofs.RuledOut.{Names, by_name}

-- what isn't being filled is ACTIVE or INACTIVE
in_use_or_not : (d : Disk) → is_being_filled d ≡ false → (d ≡ InSync) ⊎ (d ≡ Inactive)
in_use_or_not InSync e = inl refl
in_use_or_not Inactive e = inr refl
in_use_or_not (Copying forced held) e = cc

module _ (u : World) (first : ℕ) (sectors : List (List ℕ)) (m : Mirror)
    (of : Names u (Patch m.name first sectors) m) where
  abbrev c : Command
  c = Patch m.name first sectors

  abbrev old : List Component
  old = members u.state.components m.name

  abbrev m' : Mirror
  m' = record m { syncid = m.syncid + 1 }

  abbrev g : Component → Component
  g = freshened (m.syncid + 1)

  abbrev ks : List Component
  ks = map g old

  abbrev told : List Component
  told = active_of ks

  abbrev fill : Fill
  fill = Laid first sectors

  abbrev end : ℕ
  end = first + length sectors

  abbrev rules : IsMirror m old
  rules = of.rules

  keeps : Keeps g
  keeps = keeps_freshened (m.syncid + 1)

  within : end ≤ m.data_sectors
  within = ends_within _ m.name first sectors m of.found (of.may.good refusals.BeyondEnd refl)

  stands : (k : Component) → Has old k → (k.disk ≡ InSync) ⊎ (k.disk ≡ Inactive)
  stands k h = in_use_or_not k.disk
      (none_any (λ (j : Component). is_being_filled j.disk) old
      (of.may.good refusals.BeingFilled refl) k h)

  shape : Reshapes u m m' g
  shape = record {
    same = record {
      name = refl;
      mid = refl;
      sectors = refl;
      counts = (
        rules.fits.genid,
        (let small : m.syncid < 4294967295 = one_more_sync u.state m.name m of.may.sound.state
            of.found (of.may.good refusals.LastSyncid refl) in omega (arith, small)),
        rules.fits.slice,
      );
      all = rules.all;
    };
    keeps = keeps;
    room = rules.room;
    active = (
      rules.active.0,
      rules.active.1,
      fresh_disk (m.syncid + 1) rules.active.0 ∙ rules.active.2,
    );
    each = λ k h. obeys_freshened m m' old k rules h refl;
  }

  -- one that is ACTIVE is told
  is_told : (k : Component) → Has old k → k.disk ≡ InSync → Has told (g k)
  is_told k h e = filter-Has (λ (j : Component). is_active j.disk) ks (g k) (map-Has g old k h)
      (ap is_active (fresh_disk (m.syncid + 1) k ∙ e))

  told_on : (k : Component) → Has old k → k.disk ≡ InSync
      → list_any (λ j. same_label j.provider k.provider) told ≡ true
  told_on k h e = any_from (λ (j : Component). same_label j.provider k.provider) told (g k)
      (is_told k h e) (same_from (g k).provider k.provider (keeps.provider k))

  -- so it has the data with the sectors laid over them
  laid_below : (k : Component) → Has old k → k.disk ≡ InSync
      → Below (with_filled fill told u.shelf) (laid_over c m.name (u.holds m.name)) k.provider
      m.data_sectors
  laid_below k h e i low =
      let was : u.shelf k.provider i ≡ u.holds m.name i =
      of.may.sound.whole m k (record { mirror = of.here; component = h }) i
      (subst (λ (d : Disk). i < held_by d m.data_sectors) (sym e) low) in
      elim (cases_Bool (nat_le first i && nat_lt i end)) [
        | inl t ↦ rw (told_on k h e, same_refl m.name, t) refl
        | inr t ↦ rw (told_on k h e, same_refl m.name, t) was
      ]

  below : (k : Component) → Has old k
      → Below (with_filled fill told u.shelf) (laid_over c m.name (u.holds m.name)) k.provider
      (held_by (g k).disk m.data_sectors)
  below k h =
      subst (λ (d : Disk). Below (with_filled fill told u.shelf)
      (laid_over c m.name (u.holds m.name)) k.provider (held_by d m.data_sectors))
      (sym (fresh_disk (m.syncid + 1) k))
      (⊎_elim
      (λ (e : k.disk ≡ InSync). subst (λ (d : Disk). Below (with_filled fill told u.shelf)
      (laid_over c m.name (u.holds m.name)) k.provider (held_by d m.data_sectors)) (sym e)
      (laid_below k h e))
      (λ (e : k.disk ≡ Inactive). subst (λ (d : Disk). Below (with_filled fill told u.shelf)
      (laid_over c m.name (u.holds m.name)) k.provider (held_by d m.data_sectors)) (sym e)
      (λ i low. absurd (omega (arith, low))))
      (stands k h))

  -- the mirror keeps its components
  stays : (a : Mirror) (k : Component) → IsOf u.state a k → a.name ≡ m.name
      → find (λ j. same_label j.provider k.provider) ks ≢ None
  stays a k o y none =
      let same : a ≡ m =
      one name u.state.mirrors of.may.sound.state.mirrors_in_order a m o.mirror of.here y in
      let h : Has old k =
      subst (λ (x : Mirror). Has (members u.state.components x.name) k) same o.component in
      not_both (same_label (g k).provider k.provider)
      (same_from (g k).provider k.provider (keeps.provider k))
      (found_none (λ (j : Component). same_label j.provider k.provider) ks none (g k)
      (map-Has g old k h))

  laid : IsLaid u m' ks told [] first sectors
  laid = record {
    told_is = refl;
    active = (g shape.active.0, map-Has g old shape.active.0 shape.active.1, shape.active.2);
    stays = stays;
    none_gone = refl;
    some = of.may.fits.3;
    within = within;
    whole = are_long sectors of.may.fits.2;
  }

  filled : (q : List ℕ) → list_any (λ k. same_label k.provider q) told
      ≡ list_any (λ k. same_label k.provider q) (active_of old)
  filled q =
      ap (list_any (λ (k : Component). same_label k.provider q))
      (filter-map g (λ (k : Component). is_active k.disk)
      (λ k. ap is_active (fresh_disk (m.syncid + 1) k)) old)
      ∙ (any-map (λ (k : Component). same_label k.provider q) g (active_of old)
      ∙ any_agree _ _ (active_of old) (λ k h. ap (λ p. same_label p q) (keeps.provider k)))

  -- an INACTIVE one says what it said
  all_told : (k : Component) → Has old k
      → Has told (g k) ⊎ (metadata m' (g k) ≡ metadata m k)
  all_told k h = ⊎_elim (λ (e : k.disk ≡ InSync). inl (is_told k h e))
      (λ (e : k.disk ≡ Inactive). inr (rw e refl)) (stands k h)

  patch_found : PlanOf u c
  patch_found = maps_plan u c m m' g fill told of (record {
    shape = shape;
    waits = λ k. refl;
    below = below;
    after_is = rw of.found refl;
    intents = ap (λ (l : List Component). flat_map (patching first end) (active_of l))
        (sym (members_put m.name g keeps u.state.components
        of.may.sound.state.components_in_order));
    bytes = refl;
    reply = tt;
    new = λ w. tt;
    bare = λ w. tt;
    can_fill = laid;
    filled = λ q j. ap (λ b. b && (nat_le first j && nat_lt j end)) (filled q);
    none = λ q. refl;
    told_are = λ k h. (Has-filter (λ (j : Component). is_active j.disk) ks k h).0;
    all_told = all_told;
  })

pub patch_plan : (u : World) (n : List ℕ) (first : ℕ) (sectors : List (List ℕ))
    → Allowed u (Patch n first sectors) → PlanOf u (Patch n first sectors)
patch_plan u n first sectors may =
    by_name u (λ a. Patch a first sectors) n may (λ a. refl) (λ a. refl) (λ a. refl)
    (patch_found u first sectors)
