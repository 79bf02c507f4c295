-- What is made of a part is what the command makes of the whole.
use Rattle.gm_changes.proofs.Common.{◌≡◌, ◌≢◌, ◌≤◌, ◌==◌, arith, ◌∙◌, inl, ℕ, ◌+◌, ◌-◌, Bool, true, false, not, refl, inr, option_map, sym, ap, ap₂, subst, List, [], ◌∷◌, Option, Some, None, Result, Ok, Err, OnErr, map, filter, find, flat_map, length, if◌then◌else◌, NewComponent, NewMirror, Settings, Command, Label, Insert, Remove, Deactivate, Activate, Forget, Rebuild, Configure, Destroy, Lost, Advance, Adopt, Patch, Meta, Copied, Member, Mirror, Component, Has, put, without, Records, members, provider, mirror_of, component_of, source_among, source_of, metas, clears_of, active_of, patching, new_mirror, first_component, advanced, filling, reach, spare, deactivated, freshened, activated, rebuilt, configured_mirror, configured, Seen, applies, name_of, providers_of, takes_mid, is_on_any, Changed, adopting, no_change, IsGood, source_in, is_adoptable, fitting, IsPartOf, IsPartToDecide, IsGoodButCount, applies_to_part, asks_count, part_of, IsMade, own, same_mirror, same_members, same_component, same_applies, found_none, is_good, not_at, Refusal, cases_Bool, ne_eqb, home_of}
use Rattle.gm_state.specs.declared.intents.Intent.TheVariants.{Clear}
use Rattle.gm_refusals.specs.declared.refusals.Refusal.TheVariants as refusals
use Rattle.gm_changes.proofs.MakesChange.{label_makes, insert_makes, remove_makes, deactivate_makes, activate_makes, forget_makes, rebuild_makes, advance_makes, configure_makes, destroy_makes, lost_makes, adopt_makes, patch_makes}
use Rattle.gm_refusals.proofs.Listed.{listed}

module _ (part s : Records) (c : Command) (of : IsPartOf part c s) where
  -- what is found in the part is found in the whole
  mirror_in : (n : List ℕ) (m : Mirror) → name_of c ≡ Some n → mirror_of part n ≡ Some m
      → mirror_of s n ≡ Some m
  mirror_in n m e found = sym (same_mirror s c of.mids of.state n e)
      ∙ (sym (ap (λ (r : Records). mirror_of r n) of.is) ∙ found)

  members_in : (n : List ℕ) (ks : List Component) → name_of c ≡ Some n
      → members part.components n ≡ ks → members s.components n ≡ ks
  members_in n ks e found = sym (same_members s c of.mids of.state n e)
      ∙ (sym (ap (λ (r : Records). members r.components n) of.is) ∙ found)

  component_in : (p : List ℕ) (o : Option Component) → Has (providers_of c) p
      → component_of part p ≡ o → component_of s p ≡ o
  component_in p o h found = sym (same_component s c of.mids of.state p h)
      ∙ (sym (ap (λ (r : Records). component_of r p) of.is) ∙ found)

pub label_made : (part : Records) (x : Seen) (new : NewMirror) (sectors : ℕ) (m : Mirror)
    (k : Component) (ch : Changed)
    → x.size new.provider ≡ Some sectors → m ≡ new_mirror new sectors
    → k ≡ first_component new sectors
    → ch ≡ record no_change {
      mirror = Some m;
      components = k ∷ [];
      intents = Meta k.provider ∷ [];
    }
    → IsMade part x (Label new) ch
label_made part x new sectors m k ch size mirror first is s to good =
    label_makes s x new sectors m k ch good size mirror first is

pub insert_made : (part : Records) (x : Seen) (new : NewComponent) (m : Mirror)
    (ks : List Component) (sectors : ℕ) (k : Component) (ch : Changed)
    → mirror_of part new.name ≡ Some m → members part.components new.name ≡ ks
    → x.size new.provider ≡ Some sectors → component_of part new.provider ≡ None
    → k ≡ spare m new sectors
    → ch ≡ record no_change {
      mirror = Some (record m { all = m.all + 1 });
      components = k ∷ [];
      intents = metas (put provider k ks);
    }
    → IsMade part x (Insert new) ch
insert_made part x new m ks sectors k ch found mine size none made is s to good =
    let c : Command = Insert new in
    insert_makes s x new m ks sectors k ch good to.of.state
    (mirror_in part s c to.of new.name m refl found)
    (members_in part s c to.of new.name ks refl mine) size
    (component_in part s c to.of new.provider None (inl refl) none) made is

pub remove_made : (part : Records) (x : Seen) (n p : List ℕ) (m : Mirror) (ks : List Component)
    (ch : Changed)
    → mirror_of part n ≡ Some m → members part.components n ≡ ks
    → ch ≡ record no_change {
      mirror = Some (record m { all = m.all - 1 });
      gone_components = p ∷ [];
      intents = Clear p ∷ metas (without provider p ks);
    }
    → IsMade part x (Remove n p) ch
remove_made part x n p m ks ch found mine is s to good =
    let c : Command = Remove n p in
    remove_makes s x n p m ks ch good (mirror_in part s c to.of n m refl found)
    (members_in part s c to.of n ks refl mine) is

pub deactivate_made : (part : Records) (x : Seen) (n p : List ℕ) (m : Mirror) (ks : List Component)
    (ch : Changed)
    → mirror_of part n ≡ Some m → members part.components n ≡ ks
    → ch ≡ record no_change {
      mirror = Some (record m { syncid = m.syncid + 1 });
      components = map (deactivated (m.syncid + 1) p) ks;
      intents = metas (map (deactivated (m.syncid + 1) p) ks);
    }
    → IsMade part x (Deactivate n p) ch
deactivate_made part x n p m ks ch found mine is s to good =
    let c : Command = Deactivate n p in
    deactivate_makes s x n p m ks ch good to.of.state (mirror_in part s c to.of n m refl found)
    (members_in part s c to.of n ks refl mine) is

pub activate_made : (part : Records) (x : Seen) (n p : List ℕ) (m : Mirror) (k : Component)
    (ch : Changed)
    → mirror_of part n ≡ Some m → component_of part p ≡ Some k
    → ch ≡ record no_change {
      components = activated m k ∷ [];
      intents = Meta k.provider ∷ [];
    }
    → IsMade part x (Activate n p) ch
activate_made part x n p m k ch found at is s to good =
    let c : Command = Activate n p in
    activate_makes s x n p m k ch good to.of.state (mirror_in part s c to.of n m refl found)
    (component_in part s c to.of p (Some k) (inl refl) at) is

pub forget_made : (part : Records) (x : Seen) (n : List ℕ) (m : Mirror) (ks : List Component)
    (ch : Changed)
    → mirror_of part n ≡ Some m → members part.components n ≡ ks
    → ch ≡ record no_change {
      mirror = Some (record m { all = length ks });
      intents = metas ks;
    }
    → IsMade part x (Forget n) ch
forget_made part x n m ks ch found mine is s to good =
    let c : Command = Forget n in
    forget_makes s x n m ks ch good (mirror_in part s c to.of n m refl found)
    (members_in part s c to.of n ks refl mine) is

pub rebuild_made : (part : Records) (x : Seen) (n p : List ℕ) (k : Component) (ch : Changed)
    → component_of part p ≡ Some k
    → ch ≡ record no_change {
      components = rebuilt k ∷ [];
      intents = Meta k.provider ∷ [];
    }
    → IsMade part x (Rebuild n p) ch
rebuild_made part x n p k ch at is s to good =
    rebuild_makes s x n p k ch good to.of.state
    (component_in part s (Rebuild n p) to.of p (Some k) (inl refl) at) is

pub advance_made : (part : Records) (x : Seen) (n p : List ℕ) (m : Mirror) (k : Component)
    (source : List ℕ) (ch : Changed)
    → mirror_of part n ≡ Some m → component_of part p ≡ Some k → source_of part p ≡ Some source
    → ch ≡ record no_change {
      components = advanced m k ∷ [];
      intents = filling m k source;
      reply = Copied (reach m k) m.data_sectors;
    }
    → IsMade part x (Advance n p) ch
advance_made part x n p m k source ch found at lent is s to good =
    let c : Command = Advance n p in
    let there : component_of s p ≡ Some k = component_in part s c to.of p (Some k) (inl refl) at in
    let home : k.mirror ≡ n = home_of s n p to.of.state k there
    (good refusals.NotMember refl) in
    let mine : members s.components k.mirror ≡ members part.components k.mirror =
    subst (λ (a : List ℕ). members s.components a ≡ members part.components a) (sym home)
    (members_in part s c to.of n (members part.components n) refl refl) in
    let here : option_map provider (source_among k (members part.components k.mirror))
    ≡ Some source = rw at at lent in
    advance_makes s x n p m k source ch good to.of.state
    (mirror_in part s c to.of n m refl found) there (rw mine here) is

pub configure_made : (part : Records) (x : Seen) (n : List ℕ) (settings : Settings) (m : Mirror)
    (ks : List Component) (ch : Changed)
    → mirror_of part n ≡ Some m → members part.components n ≡ ks
    → ch ≡ record no_change {
      mirror = Some (configured_mirror settings m);
      components = map (configured settings) ks;
      intents = metas (map (configured settings) ks);
    }
    → IsMade part x (Configure n settings) ch
configure_made part x n settings m ks ch found mine is s to good =
    let c : Command = Configure n settings in
    configure_makes s x n settings m ks ch good to.of.state
    (mirror_in part s c to.of n m refl found) (members_in part s c to.of n ks refl mine) is

pub patch_made : (part : Records) (x : Seen) (n : List ℕ) (first : ℕ) (sectors : List (List ℕ))
    (m : Mirror) (ks : List Component) (ch : Changed)
    → mirror_of part n ≡ Some m → members part.components n ≡ ks
    → ch ≡ record no_change {
      mirror = Some (record m { syncid = m.syncid + 1 });
      components = map (freshened (m.syncid + 1)) ks;
      intents = flat_map (patching first (first + length sectors))
          (active_of (map (freshened (m.syncid + 1)) ks));
      bytes = sectors;
    }
    → IsMade part x (Patch n first sectors) ch
patch_made part x n first sectors m ks ch found mine is s to good =
    let c : Command = Patch n first sectors in
    patch_makes s x n first sectors m ks ch good to.of.state
    (mirror_in part s c to.of n m refl found) (members_in part s c to.of n ks refl mine) is

pub destroy_made : (part : Records) (x : Seen) (n : List ℕ) (ks : List Component) (ch : Changed)
    → members part.components n ≡ ks
    → ch ≡ record no_change {
      gone_mirror = Some n;
      gone_components = map provider ks;
      intents = clears_of ks;
    }
    → IsMade part x (Destroy n) ch
destroy_made part x n ks ch mine is s to good =
    let c : Command = Destroy n in
    destroy_makes s x n ks ch good to.of.state (members_in part s c to.of n ks refl mine) is

pub lost_made : (part : Records) (x : Seen) (n : List ℕ) (ps : List (List ℕ)) (m : Mirror)
    (ks : List Component) (ch : Changed)
    → mirror_of part n ≡ Some m → members part.components n ≡ ks
    → ch ≡ record no_change {
      mirror = Some (record m { genid = m.genid + 1 });
      gone_components = ps;
      intents = metas (filter (λ k. not (is_on_any ps k)) ks);
    }
    → IsMade part x (Lost n ps) ch
lost_made part x n ps m ks ch found mine is s to good =
    let c : Command = Lost n ps in
    lost_makes s x n ps m ks ch good (mirror_in part s c to.of n m refl found)
    (members_in part s c to.of n ks refl mine) is

pub adopt_made : (part : Records) (x : Seen) (n : List ℕ) (ps : List (List ℕ)) (ch : Changed)
    → is_adoptable x n ps ≡ true
    → ((b : Member) → source_in x ps ≡ Some b → ch ≡ adopting x n ps b)
    → IsMade part x (Adopt n ps) ch
adopt_made part x n ps ch fit is s to good =
    let b = fitting x n ps fit in
    adopt_makes s x n ps b.0 ch good to.of.state b.1.source (is b.0 b.1.source)

-- the test of the first in a list that pass: tests that agree find one and the same
pub find_agree : {X : Type 0} (p q : X → Bool) → ((x : X) → p x ≡ q x) → (xs : List X)
    → find p xs ≡ find q xs
find_agree p q e [] = refl
find_agree p q e (x ∷ xs) = ap₂ (λ b o. if b then Some x else o) (e x) (find_agree p q e xs)

-- what is found to apply on the part is what applies on the whole
pub found_on : (part s : Records) (count : ℕ) (x : Seen) (c : Command) → IsPartToDecide part x c s
    → count ≡ length s.mirrors → find (applies_to_part part count x c) (own c)
    ≡ find (applies s x c) (own c)
found_on part s count x c to is =
    let found : (m : Mirror) → Has s.mirrors m → takes_mid x c m ≡ true
    → Has (part_of s c to.of.mids).mirrors m
    = subst (λ (t : Records). (m : Mirror) → Has s.mirrors m → takes_mid x c m ≡ true
    → Has t.mirrors m) to.of.is to.found in
    find_agree _ _ (λ r. subst (λ (t : Records). applies_to_part t count x c r ≡ applies s x c r)
    (sym to.of.is) (same_applies s c to.of.mids to.of.state count is x found r)) (own c)

-- if nothing is found on the part
pub none_on : (part : Records) (count : ℕ) (x : Seen) (c : Command)
    → find (applies_to_part part count x c) (own c) ≡ None → IsGoodButCount part x c
none_on part count x c e r h other =
    let off : applies_to_part part count x c r ≡ false =
    found_none (applies_to_part part count x c) (own c) e r (listed c r h) in
    rw other at off

pub good_on : (part : Records) (count : ℕ) (x : Seen) (c : Command)
    → find (applies_to_part part count x c) (own c) ≡ None
    → (s : Records) → IsPartToDecide part x c s → count ≡ length s.mirrors → IsGood s x c
good_on part count x c e s to is = is_good s x c (sym (found_on part s count x c to is) ∙ e)

only_count : (r : Refusal) → asks_count r ≡ true → r ≡ refusals.TooManyMirrors
only_count refusals.TooManyMirrors e = refl
only_count _ e = cc

-- if there are no fewer mirrors in all, and no more than there may be, nothing applies to the
-- part by itself
pub good_alone : (part : Records) (count : ℕ) (x : Seen) (c : Command)
    → find (applies_to_part part count x c) (own c) ≡ None → length part.mirrors ≤ count
    → count ≤ 64 → IsGood part x c
good_alone part count x c e few most r h =
    elim (cases_Bool (asks_count r)) [
      | inr other ↦ none_on part count x c e r h other
      | inl asks ↦
          let is : r ≡ refusals.TooManyMirrors = only_count r asks in
          let off : (count == 64) ≡ false =
          subst (λ (q : Refusal). applies_to_part part count x c q ≡ false) is
          (found_none (applies_to_part part count x c) (own c) e r (listed c r h)) in
          let apart : count ≢ 64 = not_at count 64 off in
          let less : (length part.mirrors == 64) ≡ false =
          ne_eqb (length part.mirrors) 64 (λ z. omega (arith, z, apart, few, most)) in
          subst (λ (q : Refusal). applies part x c q ≡ false) (sym is) less
    ]

-- a fact of its own is a fact of an error
pub on_err : {T E : Type 0} (r : Result T E) (P : Type 0) → P → OnErr r P
on_err (Ok x) P p = tt
on_err (Err e) P p = p
