-- The changes of the commands are what the commands make of the records.
use Rattle.gm_changes.proofs.Common.{◌≡◌, ◌∙◌, inl, inr, ℕ, ◌+◌, ◌-◌, Bool, true, false, not, ◌||◌, refl, sym, ap, List, [], ◌∷◌, filter, flat_map, map, length, option_map, is_some, Some, None, list_any, cases_Bool, same_label, NewComponent, NewMirror, Settings, Label, Insert, Remove, Deactivate, Activate, Forget, Rebuild, Configure, Destroy, Lost, Advance, Adopt, Patch, Meta, Copied, Member, Mirror, Component, Has, put, put_all, without, without_all, Records, IsState, members, provider, mirror_of, component_of, source_among, same_from, same_is, filter-put, filter_swap, filter_id, one, Has-filter, filter-Has, Seen, is_on_any, metas, clears_of, active_of, patching, new_mirror, first_component, advanced, filling, reach, spare, deactivated, freshened, activated, rebuilt, configured_mirror, configured, Changed, Makes, adopting, no_change, IsGood, filter_agree, any-map, any_from, any_one, some_any, none_any, found_none, not_both, no_members, source_in, adopted, none_from, named, new_name, provider_at, filter-put_all, put_ordered, adopted_on, adopted_mirror_is, Ascends-adopted}
use Rattle.gm_state.specs.declared.intents.Intent.TheVariants.{Clear}
use Rattle.gm_refusals.specs.declared.refusals.Refusal.TheVariants as refusals
use Rattle.gm_changes.proofs.KeptComponents.{keeps_activated, keeps_advanced, keeps_configured, keeps_deactivated, keeps_freshened, keeps_rebuilt, members_put}
use Rattle.gm_changes.proofs.PuttingInPlace.{puts_none, puts_nothing, members_in_place, puts_new, puts_one_new, puts_one_changed}

pub label_makes : (s : Records) (x : Seen) (new : NewMirror) (sectors : ℕ) (m : Mirror)
    (k : Component) (ch : Changed)
    → IsGood s x (Label new) → x.size new.provider ≡ Some sectors → m ≡ new_mirror new sectors
    → k ≡ first_component new sectors
    → ch ≡ record no_change {
      mirror = Some m;
      components = k ∷ [];
      intents = Meta k.provider ∷ [];
    }
    → Makes s x (Label new) ch
label_makes s x new sectors m k ch good size mirror first is =
    let free : component_of s new.provider ≡ None =
    none_from (component_of s new.provider)
    (any_one (λ p. is_some (component_of s p)) new.provider
    (good refusals.ProviderTaken refl)) in
    record {
      good = good;
      records = rw (is, mirror, first, size) refl;
      in_place = rw is (puts_one_new s _ refl k refl (rw first free));
      intents = rw (is, first) refl;
      bytes = rw is refl;
      reply = rw is refl;
      once = rw is refl;
    }

pub insert_makes : (s : Records) (x : Seen) (new : NewComponent) (m : Mirror) (ks : List Component)
    (sectors : ℕ) (k : Component) (ch : Changed)
    → IsGood s x (Insert new) → IsState s → mirror_of s new.name ≡ Some m
    → members s.components new.name ≡ ks → x.size new.provider ≡ Some sectors
    → component_of s new.provider ≡ None → k ≡ spare m new sectors
    → ch ≡ record no_change {
      mirror = Some (record m { all = m.all + 1 });
      components = k ∷ [];
      intents = metas (put provider k ks);
    }
    → Makes s x (Insert new) ch
insert_makes s x new m ks sectors k ch good state found mine size none made is =
    let z : Component = spare m new sectors in
    let is_named : m.name ≡ new.name = (named s new.name m found).1 in
    let others : (j : Component) → Has s.components j → j.provider ≡ z.provider
    → same_label j.mirror new.name ≡ true =
    λ j i e. absurd (not_both (same_label j.provider new.provider)
    (same_from j.provider new.provider e) (new_name s new.provider none j i)) in
    let placed : members (put provider z s.components) new.name
    ≡ put provider z (members s.components new.name) =
    filter-put provider (λ (c : Component). same_label c.mirror new.name) z s.components
    state.components_in_order (same_from m.name new.name is_named) others in
    record {
      good = good;
      records = rw (is, made, found, size) refl;
      in_place = rw is (puts_one_new s _ refl k refl (rw made none));
      intents = rw (is, made, found, size, placed, mine) refl;
      bytes = rw is refl;
      reply = rw is refl;
      once = rw is refl;
    }

pub remove_makes : (s : Records) (x : Seen) (n p : List ℕ) (m : Mirror) (ks : List Component)
    (ch : Changed)
    → IsGood s x (Remove n p) → mirror_of s n ≡ Some m → members s.components n ≡ ks
    → ch ≡ record no_change {
      mirror = Some (record m { all = m.all - 1 });
      gone_components = p ∷ [];
      intents = Clear p ∷ metas (without provider p ks);
    }
    → Makes s x (Remove n p) ch
remove_makes s x n p m ks ch good found mine is =
    let swapped : members (without provider p s.components) n
    ≡ without provider p (members s.components n) =
    filter_swap (λ (c : Component). same_label c.mirror n)
    (λ (c : Component). not (same_label c.provider p)) s.components in
    record {
      good = good;
      records = rw (is, found) refl;
      in_place = rw is (puts_none s _ refl refl);
      intents = rw (is, found, swapped, mine) refl;
      bytes = rw is refl;
      reply = rw is refl;
      once = rw is refl;
    }

pub deactivate_makes : (s : Records) (x : Seen) (n p : List ℕ) (m : Mirror) (ks : List Component)
    (ch : Changed)
    → IsGood s x (Deactivate n p) → IsState s → mirror_of s n ≡ Some m → members s.components n ≡ ks
    → ch ≡ record no_change {
      mirror = Some (record m { syncid = m.syncid + 1 });
      components = map (deactivated (m.syncid + 1) p) ks;
      intents = metas (map (deactivated (m.syncid + 1) p) ks);
    }
    → Makes s x (Deactivate n p) ch
deactivate_makes s x n p m ks ch good state found mine is =
    let placed = members_put n (deactivated (m.syncid + 1) p)
    (keeps_deactivated (m.syncid + 1) p) s.components state.components_in_order in
    record {
      good = good;
      records = rw (is, found, mine) refl;
      in_place = rw is (members_in_place s state n (deactivated (m.syncid + 1) p)
          (keeps_deactivated (m.syncid + 1) p) ks mine _ refl refl);
      intents = rw (is, found, placed, mine) refl;
      bytes = rw is refl;
      reply = rw is refl;
      once = rw is refl;
    }

pub activate_makes : (s : Records) (x : Seen) (n p : List ℕ) (m : Mirror) (k : Component)
    (ch : Changed)
    → IsGood s x (Activate n p) → IsState s → mirror_of s n ≡ Some m → component_of s p ≡ Some k
    → ch ≡ record no_change {
      components = activated m k ∷ [];
      intents = Meta k.provider ∷ [];
    }
    → Makes s x (Activate n p) ch
activate_makes s x n p m k ch good state found at is =
    record {
      good = good;
      records = rw (is, found, at) refl;
      in_place = rw is
          (puts_one_changed s _ refl state (activated m) (keeps_activated m) p k at refl);
      intents = rw (is, provider_at s p k at) refl;
      bytes = rw is refl;
      reply = rw is refl;
      once = rw is refl;
    }

pub forget_makes : (s : Records) (x : Seen) (n : List ℕ) (m : Mirror) (ks : List Component)
    (ch : Changed)
    → IsGood s x (Forget n) → mirror_of s n ≡ Some m → members s.components n ≡ ks
    → ch ≡ record no_change {
      mirror = Some (record m { all = length ks });
      intents = metas ks;
    }
    → Makes s x (Forget n) ch
forget_makes s x n m ks ch good found mine is =
    record {
      good = good;
      records = rw (is, found, mine) refl;
      in_place = rw is (puts_none s _ refl refl);
      intents = rw (is, found, mine) refl;
      bytes = rw is refl;
      reply = rw is refl;
      once = rw is refl;
    }

pub rebuild_makes : (s : Records) (x : Seen) (n p : List ℕ) (k : Component) (ch : Changed)
    → IsGood s x (Rebuild n p) → IsState s → component_of s p ≡ Some k
    → ch ≡ record no_change {
      components = rebuilt k ∷ [];
      intents = Meta k.provider ∷ [];
    }
    → Makes s x (Rebuild n p) ch
rebuild_makes s x n p k ch good state at is =
    record {
      good = good;
      records = rw (is, at) refl;
      in_place = rw is (puts_one_changed s _ refl state rebuilt keeps_rebuilt p k at refl);
      intents = rw (is, provider_at s p k at) refl;
      bytes = rw is refl;
      reply = rw is refl;
      once = rw is refl;
    }

pub advance_makes : (s : Records) (x : Seen) (n p : List ℕ) (m : Mirror) (k : Component)
    (source : List ℕ) (ch : Changed)
    → IsGood s x (Advance n p) → IsState s → mirror_of s n ≡ Some m → component_of s p ≡ Some k
    → option_map provider (source_among k (members s.components k.mirror)) ≡ Some source
    → ch ≡ record no_change {
      components = advanced m k ∷ [];
      intents = filling m k source;
      reply = Copied (reach m k) m.data_sectors;
    }
    → Makes s x (Advance n p) ch
advance_makes s x n p m k source ch good state found at lent is =
    record {
      good = good;
      records = rw (is, found, at) refl;
      in_place = rw is
          (puts_one_changed s _ refl state (advanced m) (keeps_advanced m) p k at refl);
      intents = rw (is, found, at, lent) refl;
      bytes = rw is refl;
      reply = rw (is, found, at) refl;
      once = rw is refl;
    }

pub configure_makes : (s : Records) (x : Seen) (n : List ℕ) (settings : Settings) (m : Mirror)
    (ks : List Component) (ch : Changed)
    → IsGood s x (Configure n settings) → IsState s → mirror_of s n ≡ Some m
    → members s.components n ≡ ks
    → ch ≡ record no_change {
      mirror = Some (configured_mirror settings m);
      components = map (configured settings) ks;
      intents = metas (map (configured settings) ks);
    }
    → Makes s x (Configure n settings) ch
configure_makes s x n settings m ks ch good state found mine is =
    let placed = members_put n (configured settings) (keeps_configured settings) s.components
    state.components_in_order in
    record {
      good = good;
      records = rw (is, found, mine) refl;
      in_place = rw is (members_in_place s state n (configured settings)
          (keeps_configured settings) ks mine _ refl refl);
      intents = rw (is, found, placed, mine) refl;
      bytes = rw is refl;
      reply = rw is refl;
      once = rw is refl;
    }

pub patch_makes : (s : Records) (x : Seen) (n : List ℕ) (first : ℕ) (sectors : List (List ℕ))
    (m : Mirror) (ks : List Component) (ch : Changed)
    → IsGood s x (Patch n first sectors) → IsState s → mirror_of s n ≡ Some m
    → members s.components n ≡ ks
    → ch ≡ record no_change {
      mirror = Some (record m { syncid = m.syncid + 1 });
      components = map (freshened (m.syncid + 1)) ks;
      intents = flat_map (patching first (first + length sectors))
          (active_of (map (freshened (m.syncid + 1)) ks));
      bytes = sectors;
    }
    → Makes s x (Patch n first sectors) ch
patch_makes s x n first sectors m ks ch good state found mine is =
    let placed = members_put n (freshened (m.syncid + 1)) (keeps_freshened (m.syncid + 1))
    s.components state.components_in_order in
    record {
      good = good;
      records = rw (is, found, mine) refl;
      in_place = rw is (members_in_place s state n (freshened (m.syncid + 1))
          (keeps_freshened (m.syncid + 1)) ks mine _ refl refl);
      intents = rw (is, found, placed, mine) refl;
      bytes = rw is refl;
      reply = rw is refl;
      once = rw is refl;
    }

-- two filters in a row
filter-filter : {X : Type 0} (p q : X → Bool) (xs : List X)
    → filter (λ x. not (p x)) (filter (λ x. not (q x)) xs) ≡ filter (λ x. not (q x || p x)) xs
filter-filter p q [] = refl
filter-filter p q (x ∷ xs) =
    elim (cases_Bool (q x)) [
      | inl t ↦ rw t (filter-filter p q xs)
      | inr t ↦ elim (cases_Bool (p x)) [
        | inl u ↦ rw (t, u) (filter-filter p q xs)
        | inr u ↦ rw (t, u) (ap (λ l. x ∷ l) (filter-filter p q xs))
      ]
    ]

-- to delete by names is to keep what has none of them
pub without_all-filter : (names : List (List ℕ)) (ks : List Component)
    → without_all provider names ks
    ≡ filter (λ k. not (list_any (λ p. same_label k.provider p) names)) ks
without_all-filter [] ks = sym (filter_id (λ k. true) ks (λ x h. refl))
without_all-filter (p ∷ names) ks =
    without_all-filter names (without provider p ks) ∙ filter-filter
    (λ k. list_any (λ q. same_label k.provider q) names) (λ k. same_label k.provider p) ks

pub without_all-swap : (names : List (List ℕ)) (q : Component → Bool) (ks : List Component)
    → without_all provider names (filter q ks) ≡ filter q (without_all provider names ks)
without_all-swap names q ks =
    let stays : Component → Bool = λ k. not (list_any (λ p. same_label k.provider p) names) in
    without_all-filter names (filter q ks)
    ∙ (filter_swap stays q ks ∙ sym (ap (filter q) (without_all-filter names ks)))

pub lost_makes : (s : Records) (x : Seen) (n : List ℕ) (ps : List (List ℕ)) (m : Mirror)
    (ks : List Component) (ch : Changed)
    → IsGood s x (Lost n ps) → mirror_of s n ≡ Some m → members s.components n ≡ ks
    → ch ≡ record no_change {
      mirror = Some (record m { genid = m.genid + 1 });
      gone_components = ps;
      intents = metas (filter (λ k. not (is_on_any ps k)) ks);
    }
    → Makes s x (Lost n ps) ch
lost_makes s x n ps m ks ch good found mine is =
    let left : members (without_all provider ps s.components) n
    ≡ filter (λ k. not (is_on_any ps k)) ks
    = sym (without_all-swap ps (λ (k : Component). same_label k.mirror n) s.components)
    ∙ (ap (without_all provider ps) mine ∙ without_all-filter ps ks) in
    record {
      good = good;
      records = rw (is, found) refl;
      in_place = rw is (puts_none s _ refl refl);
      intents = rw (is, found, left) refl;
      bytes = rw is refl;
      reply = rw is refl;
      once = rw is refl;
    }

-- a mirror that isn't registered has no components
pub no_component : (s : Records) (n : List ℕ) → IsState s → mirror_of s n ≡ None → (k : Component)
    → Has s.components k → same_label k.mirror n ≡ false
no_component s n state none k h =
    let home = state.homes k h in
    sym (ap (λ (a : List ℕ). same_label a n) home.2) ∙ found_none
    (λ (m : Mirror). same_label m.name n) s.mirrors none home.0 home.1

-- a component has the provider of a member of the mirror exactly when it is one
is_member : (s : Records) (n : List ℕ) → IsState s → (k : Component) → Has s.components k
    → list_any (λ p. same_label k.provider p) (map provider (members s.components n))
    ≡ same_label k.mirror n
is_member s n state k h =
    any-map (λ p. same_label k.provider p) provider (members s.components n) ∙
    elim (cases_Bool (same_label k.mirror n)) [
      | inl t ↦ any_from (λ j. same_label k.provider j.provider) (members s.components n) k
          (filter-Has (λ (j : Component). same_label j.mirror n) s.components k h t)
          (same_from k.provider k.provider refl) ∙ sym t
      | inr t ↦ elim (cases_Bool (list_any (λ j. same_label k.provider j.provider)
          (members s.components n))) [
            | inr u ↦ u ∙ sym t
            | inl u ↦
                let some = some_any (λ j. same_label k.provider j.provider)
                (members s.components n) u in
                let r = Has-filter (λ (j : Component). same_label j.mirror n) s.components some.0
                some.1 in
                let same : k ≡ some.0 =
                one provider s.components state.components_in_order k some.0 h r.0
                (same_is k.provider some.0.provider some.2) in
                not_both (same_label k.mirror n) (ap (λ (j : Component). same_label j.mirror n) same
                ∙ r.1) t
          ]
    ]

pub destroy_makes : (s : Records) (x : Seen) (n : List ℕ) (ks : List Component) (ch : Changed)
    → IsGood s x (Destroy n) → IsState s → members s.components n ≡ ks
    → ch ≡ record no_change {
      gone_mirror = Some n;
      gone_components = map provider ks;
      intents = clears_of ks;
    }
    → Makes s x (Destroy n) ch
destroy_makes s x n ks ch good state mine is =
    let left : without_all provider (map provider (members s.components n)) s.components
    ≡ filter (λ k. not (same_label k.mirror n)) s.components
    = without_all-filter (map provider (members s.components n)) s.components
    ∙ filter_agree _ _ s.components (λ k h. ap not (is_member s n state k h)) in
    record {
      good = good;
      records = rw (is, ← mine, left) refl;
      in_place = rw is (puts_nothing s _ refl refl);
      intents = rw (is, mine) refl;
      bytes = rw is refl;
      reply = rw is refl;
      once = rw is refl;
    }

pub adopt_makes : (s : Records) (x : Seen) (n : List ℕ) (ps : List (List ℕ)) (b : Member)
    (ch : Changed)
    → IsGood s x (Adopt n ps) → IsState s → source_in x ps ≡ Some b → ch ≡ adopting x n ps b
    → Makes s x (Adopt n ps) ch
adopt_makes s x n ps b ch good state from is =
    let ks : List Component = adopted x n ps b in
    let other : (k : Component) → Has s.components k → same_label k.mirror n ≡ false
    = no_component s n state (none_from (mirror_of s n) (good refusals.NameTaken refl)) in
    let free : (k j : Component) → Has ks k → Has s.components j → j.provider ≡ k.provider
    → same_label j.mirror n ≡ true = λ k j h i e.
    not_both (same_label j.provider k.provider) (same_from j.provider k.provider e)
    (new_name s k.provider (none_from (component_of s k.provider)
    (none_any (λ p. is_some (component_of s p)) ps
    (good refusals.ProviderTaken refl) k.provider
    (adopted_on x n ps b k h))) j i) in
    let mine : (k : Component) → Has ks k → same_label k.mirror n ≡ true =
    λ k h. same_from k.mirror n (adopted_mirror_is x n ps b k h) in
    let placed : members (put_all provider ks s.components) n ≡ ks
    = filter-put_all provider (λ (k : Component). same_label k.mirror n) ks s.components
    state.components_in_order mine free
    ∙ (ap (put_all provider ks) (no_members s.components n other)
    ∙ put_ordered provider ks (Ascends-adopted x n ps b)) in
    record {
      good = good;
      records = rw (is, from) refl;
      in_place = rw is (puts_new s _ refl n (adopted_mirror_is x n ps b)
          (Ascends-adopted x n ps b) (λ k h.
          none_from (component_of s k.provider) (none_any (λ p. is_some (component_of s p)) ps
          (good refusals.ProviderTaken refl) k.provider (adopted_on x n ps b k h))));
      intents = rw (is, from, placed) refl;
      bytes = rw is refl;
      reply = rw is refl;
      once = rw is refl;
    }
