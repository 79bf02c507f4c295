-- What a step keeps of the mirrors and the components that were registered before.
use Rattle.gm_rules.proofs.Common.{◌≡◌, ◌≢◌, ◌∙◌, ◌⊎◌, inl, inr, ⊎_elim, ℕ, ◌≤◌, ◌+◌, Bool, false, refl, sym, subst, arith, List, Option, Some, None, filter, map, is_some, cases_Bool, same_label, Command, Seen, Has, Ascends, put, put_all, one, put_or, put_all_or, Has-filter, filter-Has, Has-map, any_one, IsState, members, mirror_of, component_of, World, Sound, named, provider, name, none_any, none_from, new_name, same_from, not_both, is_inactive, activated, advanced, after, configured, deactivated, freshened, rebuilt, Keeps, keeps_configured, keeps_deactivated, keeps_freshened, IsGood, applies, seen_of, source_in, adopted, Step}
use Rattle.gm_commands.specs.declared.command.Command.TheVariants as commands
use Rattle.gm_state.specs.declared.intents.Reply.{Reply}
use Rattle.gm_state.specs.declared.records.Mirror.{Mirror}
use Rattle.gm_state.specs.declared.records.Component.{Component}
use Rattle.gm_state.specs.Records.{Records}
use Rattle.gm_state.proofs.FoundRecords.{home_of, rules_of}
use Rattle.gm_lists.proofs.Finding.{found}
use Rattle.gm_refusals.specs.declared.refusals.Refusal.TheVariants as refusals
use Rattle.gm_refusals.proofs.TakenProviders.{adopted_on}
use Rattle.gm_changes.specs.After.{on_found}
use Rattle.gm_changes.proofs.KeptComponents.{keeps_activated, keeps_advanced, keeps_rebuilt}
use Rattle.gm_changes.proofs.MakesChange.{without_all-filter}
use Rattle.gm_rules.proofs.RuledOut.{no_namesake}

-- b is the mirror a, as it is or as it was registered later
pub record IsGrown (a b : Mirror) : Type 0 where
  pub name : a.name ≡ b.name
  pub mid : a.mid ≡ b.mid
  pub data_sectors : a.data_sectors ≡ b.data_sectors
  pub genid : a.genid ≤ b.genid
  pub syncid : a.syncid ≤ b.syncid

-- k is the component j, as it is or as it was registered later
pub record IsKept (j k : Component) : Type 0 where
  pub provider : j.provider ≡ k.provider
  pub mirror : j.mirror ≡ k.mirror
  pub did : j.did ≡ k.did
  pub syncid : j.syncid ≤ k.syncid
  pub sectors : j.sectors ≡ k.sectors

-- the mirrors and the components that both states have are the same ones, as before or as later
pub record Grows (s t : Records) : Type 0 where
  pub mirrors : (a b : Mirror) → Has s.mirrors a → Has t.mirrors b → a.name ≡ b.name → IsGrown a b
  pub components : (j k : Component) → Has s.components j → Has t.components k
      → j.provider ≡ k.provider → IsKept j k

-- ---- where the records of a list come from

module _ {X : Type 0} (key : X → List ℕ) (R : X → X → Type 0) where
  -- y is one of xs, as it is or as later, or has a name that none of them has
  abbrev Comes : List X → X → Type 0
  Comes xs y = ((x : X) × Has xs x × R x y) ⊎ ((x : X) → Has xs x → key x ≢ key y)

  -- so it is with each of ys
  abbrev AllCome : List X → List X → Type 0
  AllCome xs ys = (y : X) → Has ys y → Comes xs y

  -- the one of its name is the one that it was
  came : ((x y : X) → R x y → key x ≡ key y) → (xs : List X) → Ascends key xs → (x y : X)
      → Has xs x → key x ≡ key y → Comes xs y → R x y
  came same xs a x y h e (inl o) =
      subst (λ (z : X). R z y) (one key xs a o.0 x o.1 h (same o.0 y o.2 ∙ sym e)) o.2
  came same xs a x y h e (inr n) = absurd (n x h e)

  -- it stays so if one more is put, or several, or only some are left
  come_put : (xs ys : List X) (x : X) → AllCome xs ys → Comes xs x → AllCome xs (put key x ys)
  come_put xs ys x all new z h =
      ⊎_elim (λ (e : x ≡ z). subst (λ (y : X). Comes xs y) e new) (all z) (put_or key x ys z h)

  come_put_all : (xs ys zs : List X) → AllCome xs ys → AllCome xs zs
      → AllCome xs (put_all key zs ys)
  come_put_all xs ys zs all new z h = ⊎_elim (new z) (all z) (put_all_or key zs ys z h)

  come_filter : (xs ys : List X) (p : X → Bool) → AllCome xs ys → AllCome xs (filter p ys)
  come_filter xs ys p all z h = all z (Has-filter p ys z h).0

-- the records t come from s
record Since (s t : Records) : Type 0 where
  mirrors : AllCome name IsGrown s.mirrors t.mirrors
  components : AllCome provider IsKept s.components t.components

-- so those that both have are the same ones
since_grows : (s t : Records) → IsState s → Since s t → Grows s t
since_grows s t state since = record {
  mirrors = λ a b h i e. came name IsGrown (λ x y g. g.name) s.mirrors state.mirrors_in_order a b h
      e (since.mirrors b i);
  components = λ j k h i e. came provider IsKept (λ x y g. g.provider) s.components
      state.components_in_order j k h e (since.components k i);
}

-- a component that is changed is kept, if its syncid isn't less than before
kept : (f : Component → Component) → Keeps f → (k : Component) → k.syncid ≤ (f k).syncid
    → IsKept k (f k)
kept f keeps k more = record {
  provider = sym (keeps.provider k);
  mirror = sym (keeps.mirror k);
  did = sym (keeps.did k);
  syncid = more;
  sectors = sym (keeps.sectors k);
}

module _ (s : Records) where
  -- what stays as it is comes from itself
  same_mirrors : AllCome name IsGrown s.mirrors s.mirrors
  same_mirrors m h = inl (
    m,
    h,
    record {
      name = refl;
      mid = refl;
      data_sectors = refl;
      genid = omega arith;
      syncid = omega arith;
    },
  )

  same_components : AllCome provider IsKept s.components s.components
  same_components k h = inl (
    k,
    h,
    record {
      provider = refl;
      mirror = refl;
      did = refl;
      syncid = omega arith;
      sectors = refl;
    },
  )

  -- what is made by way of what is found; if there is none, all stays
  found_since : {X : Type 0} (o : Option X) (f : X → Records)
      → ((x : X) → o ≡ Some x → Since s (f x)) → Since s (on_found o s f)
  found_since None f each = record { mirrors = same_mirrors; components = same_components }
  found_since (Some x) f each = each x refl

  -- the mirror that is found is put as m'
  grown_mirror : (n : List ℕ) (m m' : Mirror) → mirror_of s n ≡ Some m → m.name ≡ m'.name
      → m.mid ≡ m'.mid → m.data_sectors ≡ m'.data_sectors → m.genid ≤ m'.genid
      → m.syncid ≤ m'.syncid → AllCome name IsGrown s.mirrors (put name m' s.mirrors)
  grown_mirror n m m' at a b c d e =
      come_put name IsGrown s.mirrors s.mirrors m' same_mirrors (inl (
        m,
        (named s n m at).0,
        record { name = a; mid = b; data_sectors = c; genid = d; syncid = e },
      ))

  -- a mirror of a new name is put
  new_mirrors : (m : Mirror) → is_some (mirror_of s m.name) ≡ false
      → AllCome name IsGrown s.mirrors (put name m s.mirrors)
  new_mirrors m free = come_put name IsGrown s.mirrors s.mirrors m same_mirrors
      (inr (λ a h. no_namesake s m.name free a h))

  -- a component is on a provider that none is on
  is_new : (k : Component) → is_some (component_of s k.provider) ≡ false
      → Comes provider IsKept s.components k
  is_new k free = inr (λ j h e. not_both (same_label j.provider k.provider)
      (same_from j.provider k.provider e)
      (new_name s k.provider (none_from (component_of s k.provider) free) j h))

  -- such a component is put
  new_component : (k : Component) → is_some (component_of s k.provider) ≡ false
      → AllCome provider IsKept s.components (put provider k s.components)
  new_component k free =
      come_put provider IsKept s.components s.components k same_components (is_new k free)

  -- the component that is found on p is changed
  kept_component : (p : List ℕ) (k k' : Component) → component_of s p ≡ Some k → IsKept k k'
      → AllCome provider IsKept s.components (put provider k' s.components)
  kept_component p k k' at g =
      come_put provider IsKept s.components s.components k' same_components
      (inl (k, (found (λ (j : Component). same_label j.provider p) s.components k at).0, g))

  -- the components of a mirror are changed
  kept_members : (n : List ℕ) (f : Component → Component)
      → ((k : Component) → Has (members s.components n) k → IsKept k (f k))
      → AllCome provider IsKept s.components
      (put_all provider (map f (members s.components n)) s.components)
  kept_members n f each =
      come_put_all provider IsKept s.components s.components (map f (members s.components n))
      same_components (λ z h. let r = Has-map f (members s.components n) z h in
      inl (
        r.0,
        (Has-filter (λ (k : Component). same_label k.mirror n) s.components r.0 r.1).0,
        subst (λ (y : Component). IsKept r.0 y) r.2 (each r.0 r.1),
      ))

-- a state grows from itself
pub grows_same : (s : Records) → IsState s → Grows s s
grows_same s state = since_grows s s state
    (record { mirrors = same_mirrors s; components = same_components s })

-- and on and on, if what the first and the last have is in the one between too
pub grows_on : (s t r : Records)
    → ((a b : Mirror) → Has s.mirrors a → Has r.mirrors b → a.name ≡ b.name
    → (m : Mirror) × Has t.mirrors m × (m.name ≡ a.name))
    → ((j k : Component) → Has s.components j → Has r.components k → j.provider ≡ k.provider
    → (i : Component) × Has t.components i × (i.provider ≡ j.provider))
    → Grows s t → Grows t r → Grows s r
grows_on s t r mirror component one two = record {
  mirrors = λ a b h i e.
      let m = mirror a b h i e in
      let x = one.mirrors a m.0 h m.1 (sym m.2) in
      let y = two.mirrors m.0 b m.1 i (m.2 ∙ e) in
      record {
        name = x.name ∙ y.name;
        mid = x.mid ∙ y.mid;
        data_sectors = x.data_sectors ∙ y.data_sectors;
        genid = (let p : a.genid ≤ m.0.genid = x.genid in
            let q : m.0.genid ≤ b.genid = y.genid in omega arith);
        syncid = (let p : a.syncid ≤ m.0.syncid = x.syncid in
            let q : m.0.syncid ≤ b.syncid = y.syncid in omega arith);
      };
  components = λ j k h i e.
      let c = component j k h i e in
      let x = one.components j c.0 h c.1 (sym c.2) in
      let y = two.components c.0 k c.1 i (c.2 ∙ e) in
      record {
        provider = x.provider ∙ y.provider;
        mirror = x.mirror ∙ y.mirror;
        did = x.did ∙ y.did;
        syncid = (let p : j.syncid ≤ c.0.syncid = x.syncid in
            let q : c.0.syncid ≤ k.syncid = y.syncid in omega arith);
        sectors = x.sectors ∙ y.sectors;
      };
}

-- ---- the syncids that a mirror's one more brings

-- a component's syncid isn't less after it is freshened, or after one is taken out of use
fresh_more : (n : ℕ) (k : Component) → k.syncid ≤ n → k.syncid ≤ (freshened n k).syncid
fresh_more n k l =
    elim (cases_Bool (is_inactive k.disk)) [ inl e ↦ rw e (omega arith) | inr e ↦ rw e l ]

still_more : (n : ℕ) (p : List ℕ) (k : Component) → k.syncid ≤ n
    → k.syncid ≤ (deactivated n p k).syncid
still_more n p k l =
    elim (cases_Bool (same_label k.provider p)) [
      | inl e ↦ rw e (omega arith)
      | inr e ↦ rw e (fresh_more n k l)
    ]

-- ---- the commands

-- a step's command isn't refused
pub is_good : (u w : World) (key : List ℕ) (c : Command) (r : Reply) → Step u key c w r
    → IsGood u.state (seen_of u) c
is_good u w key c r step q l =
    elim (cases_Bool (applies u.state (seen_of u) c q)) [
      | inl t ↦ absurd (step.good q (record { listed = l; met = t }))
      | inr f ↦ f
    ]

module _ (s : Records) (x : Seen) (state : IsState s) where
  -- no component of the mirror that is found has a higher syncid
  behind : (n : List ℕ) (m : Mirror) → mirror_of s n ≡ Some m → (k : Component)
      → Has (members s.components n) k → k.syncid ≤ m.syncid
  behind n m e k h = (rules_of s n m state e).syncids k h

  -- nor a higher one than the one that is next
  behind_next : (n : List ℕ) (m : Mirror) → mirror_of s n ≡ Some m → (k : Component)
      → Has (members s.components n) k → k.syncid ≤ m.syncid + 1
  behind_next n m e k h = let l : k.syncid ≤ m.syncid = behind n m e k h in omega arith

  -- the records after a command that isn't refused come from those before
  since : (c : Command) → IsGood s x c → Since s (after x c s)
  since (commands.Label new) good = record {
    mirrors = new_mirrors s _ (good refusals.NameTaken refl);
    components = new_component s _ (any_one (λ p. is_some (component_of s p)) new.provider
        (good refusals.ProviderTaken refl));
  }
  since (commands.Insert new) good = found_since s (mirror_of s new.name) _ (λ m e. record {
    mirrors = grown_mirror s new.name m _ e refl refl refl (omega arith) (omega arith);
    components = new_component s _ (any_one (λ p. is_some (component_of s p)) new.provider
        (good refusals.ProviderTaken refl));
  })
  since (commands.Remove n p) good = found_since s (mirror_of s n) _ (λ m e. record {
    mirrors = grown_mirror s n m _ e refl refl refl (omega arith) (omega arith);
    components = come_filter provider IsKept s.components s.components _ (same_components s);
  })
  since (commands.Deactivate n p) good = found_since s (mirror_of s n) _ (λ m e. record {
    mirrors = grown_mirror s n m _ e refl refl refl (omega arith) (omega arith);
    components = kept_members s n (deactivated (m.syncid + 1) p) (λ k h.
        kept (deactivated (m.syncid + 1) p) (keeps_deactivated (m.syncid + 1) p) k
        (still_more (m.syncid + 1) p k (behind_next n m e k h)));
  })
  since (commands.Activate n p) good = found_since s (mirror_of s n) _ (λ m e.
      found_since s (component_of s p) _ (λ k at.
      let home : k.mirror ≡ n = home_of s n p state k at (good refusals.NotMember refl) in
      let mine : Has (members s.components n) k =
      filter-Has (λ (j : Component). same_label j.mirror n) s.components k
      (found (λ (j : Component). same_label j.provider p) s.components k at).0
      (same_from k.mirror n home) in
      record {
        mirrors = same_mirrors s;
        components = kept_component s p k (activated m k) at
            (kept (activated m) (keeps_activated m) k (behind n m e k mine));
      }))
  since (commands.Forget n) good = found_since s (mirror_of s n) _ (λ m e. record {
    mirrors = grown_mirror s n m _ e refl refl refl (omega arith) (omega arith);
    components = same_components s;
  })
  since (commands.Rebuild n p) good = found_since s (component_of s p) _ (λ k at. record {
    mirrors = same_mirrors s;
    components = kept_component s p k (rebuilt k) at
        (kept rebuilt keeps_rebuilt k (omega arith));
  })
  since (commands.Configure n settings) good = found_since s (mirror_of s n) _ (λ m e. record {
    mirrors = grown_mirror s n m _ e refl refl refl (omega arith) (omega arith);
    components = kept_members s n (configured settings) (λ k h.
        kept (configured settings) (keeps_configured settings) k (omega arith));
  })
  since (commands.Clear p) good = record {
    mirrors = same_mirrors s;
    components = same_components s;
  }
  since (commands.Destroy n) good = record {
    mirrors = come_filter name IsGrown s.mirrors s.mirrors _ (same_mirrors s);
    components = come_filter provider IsKept s.components s.components _ (same_components s);
  }
  since (commands.Lost n ps) good = found_since s (mirror_of s n) _ (λ m e. record {
    mirrors = grown_mirror s n m _ e refl refl refl (omega arith) (omega arith);
    components = subst (λ (l : List Component). AllCome provider IsKept s.components l)
        (sym (without_all-filter ps s.components))
        (come_filter provider IsKept s.components s.components _ (same_components s));
  })
  since (commands.Advance n p) good = found_since s (mirror_of s n) _ (λ m e.
      found_since s (component_of s p) _ (λ k at. record {
        mirrors = same_mirrors s;
        components = kept_component s p k (advanced m k) at
            (kept (advanced m) (keeps_advanced m) k (omega arith));
      }))
  since (commands.Adopt n ps) good = found_since s (source_in x ps) _ (λ b e. record {
    mirrors = new_mirrors s _ (good refusals.NameTaken refl);
    components = come_put_all provider IsKept s.components s.components (adopted x n ps b)
        (same_components s) (λ k h. is_new s k (none_any (λ p. is_some (component_of s p)) ps
        (good refusals.ProviderTaken refl) k.provider (adopted_on x n ps b k h)));
  })
  since (commands.Patch n first sectors) good = found_since s (mirror_of s n) _ (λ m e. record {
    mirrors = grown_mirror s n m _ e refl refl refl (omega arith) (omega arith);
    components = kept_members s n (freshened (m.syncid + 1)) (λ k h.
        kept (freshened (m.syncid + 1)) (keeps_freshened (m.syncid + 1)) k
        (fresh_more (m.syncid + 1) k (behind_next n m e k h)));
  })

-- what both worlds of a step have are the same ones, as before or as later
pub grows : (u w : World) (key : List ℕ) (c : Command) (r : Reply) → Sound u → Sound w
    → Step u key c w r → Grows u.state w.state
grows u w key c r before later step = subst (λ (t : Records). Grows u.state t) (sym step.records)
    (since_grows u.state (after (seen_of u) c u.state) before.state
    (since u.state (seen_of u) before.state c (is_good u w key c r step)))
