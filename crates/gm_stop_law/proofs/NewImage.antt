-- An image that a step makes a component's may be left as it was: it carries no metadata, or what
-- it says the component keeps.
use Rattle.gm_stop_law.proofs.Common.{◌≡◌, ◌≢◌, ◌∙◌, ◌⊎◌, inl, inr, ⊎_elim, ℕ, ◌<◌, ◌≤◌, ◌+◌, ◌-◌, ◌*◌, ◌/◌, ◌%◌, not, true, false, refl, sym, ap, subst, arith, List, [], ◌∷◌, map, Option, Some, None, not-false, or_left, or_right, same_refl, same_label, same_from, carries, Has, put_all, taken_by, Taken, Provider, IsOf, component_of, mirror_of, members, name, provider, Records, Component, Mirror, may_be_written, says, is_of_component, takes_in, World, Sound, Command, Reply, Step, Seen, is_bearing, seen_of, IsGood, present, after, on_found, taken, is_bytes, new_name, member, not_both, any_one, adopted, source_in, adopted_mirror, adopted_syncid, MemberState, put, without, without_all, unwrap_or, activated, advanced, configured, deactivated, first_component, freshened, rebuilt, spare, last_carries, last_of}
use Rattle.gm_commands.specs.declared.command.Command.TheVariants as commands
use Rattle.gm_lists.proofs.Finding.{found}
use Rattle.gm_lists.proofs.Lists.{Has-filter, Has-map}
use Rattle.gm_lists.proofs.PutTogether.{put_all_or}
use Rattle.gm_lists.proofs.Putting.{put_cases, put_or}
use Rattle.gm_taste.specs.Tasting.{member as as_member}
use Rattle.gm_taste.specs.declared.tasted.Member.{Member}
use Rattle.gm_taste.specs.declared.tasted.MemberState.TheVariants as tasted
use Rattle.gm_changes.proofs.KeptComponents.{Keeps, keeps_configured, keeps_deactivated, keeps_freshened}
use Rattle.gm_refusals.specs.Adoptable.{genid_of, syncid_of}
use Rattle.gm_refusals.specs.declared.refusals.Refusal.TheVariants as refusals
use Rattle.gm_refusals.proofs.TakenProviders.{is_taken}
use Rattle.gm_rules.proofs.AdoptedState.{IsAdopted, is_adopted, provider_is, size_is}
use Rattle.gm_rules.proofs.FoundMembers.{IsAdoptable, adoptable, as_alike, syncid_bound}
use Rattle.gm_rules.proofs.RuledOut.{IsFree, is_free}
use Rattle.gm_rules.proofs.GrownRecords.{IsGrown, is_good}
use Rattle.gm_stop_law.proofs.SaidMetadata.{IsFormer, former_says}
use Rattle.gm_stop_law.proofs.SteppedFrom.{last_seen, seen_size, size_before}

-- ---- which components are new

-- a component was there on the provider before
pub record IsOld (s : Records) (q : List ℕ) : Type 0 where
  pub component : Component
  pub there : Has s.components component
  pub on : component.provider ≡ q

-- the command takes the component's provider in
abbrev pub IsTakenIn : Seen → Command → Component → Type 0
IsTakenIn x (commands.Label new) k = k.provider ≡ new.provider
IsTakenIn x (commands.Insert new) k = k.provider ≡ new.provider
IsTakenIn x (commands.Adopt n ps) k =
    (b : Member) × (source_in x ps ≡ Some b) × Has (adopted x n ps b) k
IsTakenIn x _ k = ⊥

itself : (s : Records) (k : Component) → Has s.components k → IsOld s k.provider
itself s k h = record { component = k; there = h; on = refl }

-- what holds of the old ones, and of those that are made by way of what is found, holds of all
by_found : {X P : Type 0} (s : Records) (o : Option X) (f : X → Records) (k : Component)
    → (Has s.components k → P) → ((x : X) → o ≡ Some x → Has (f x).components k → P)
    → Has (on_found o s f).components k → P
by_found s None f k old each h = old h
by_found s (Some x) f k old each h = each x refl h

-- components that are changed where they stand are old
by_change : (s : Records) (n : List ℕ) (f : Component → Component) → Keeps f → (k : Component)
    → Has (put_all provider (map f (members s.components n)) s.components) k → IsOld s k.provider
by_change s n f keeps k h =
    ⊎_elim
    (λ (i : Has (map f (members s.components n)) k).
    let j = Has-map f (members s.components n) k i in
    record {
      component = j.0;
      there = (member s n j.0 j.1).0;
      on = sym (keeps.provider j.0) ∙ ap provider j.2;
    })
    (λ (i : Has s.components k). itself s k i)
    (put_all_or provider (map f (members s.components n)) s.components k h)

-- so is the one on p, if it is changed
by_put : (s : Records) (p : List ℕ) (j k : Component) → component_of s p ≡ Some j → (i : Component)
    → i.provider ≡ j.provider → Has (put provider i s.components) k → IsOld s k.provider
by_put s p j k at i same h =
    ⊎_elim
    (λ (e : i ≡ k). record {
      component = j;
      there = (found (λ (a : Component). same_label a.provider p) s.components j at).0;
      on = sym same ∙ ap provider e;
    })
    (λ (g : Has s.components k). itself s k g)
    (put_or provider i s.components k h)

-- what isn't taken away was there
was_there : (ps : List (List ℕ)) (ks : List Component) (k : Component)
    → Has (without_all provider ps ks) k → Has ks k
was_there [] ks k h = h
was_there (p ∷ ps) ks k h =
    (Has-filter (λ (j : Component). not (same_label j.provider p)) ks k
    (was_there ps (without provider p ks) k h)).0

-- each component of after was there, or is one that the command takes in
pub old_or_taken_in : (s : Records) (x : Seen) (c : Command) (k : Component)
    → Has (after x c s).components k → IsOld s k.provider ⊎ IsTakenIn x c k
old_or_taken_in s x (commands.Label new) k h =
    ⊎_elim (λ (e : first_component new (unwrap_or (x.size new.provider) 0) ≡ k).
    inr (ap provider (sym e))) (λ (i : Has s.components k). inl (itself s k i))
    (put_or provider (first_component new (unwrap_or (x.size new.provider) 0)) s.components k h)
old_or_taken_in s x (commands.Insert new) k h =
    by_found s (mirror_of s new.name) _ k (λ i. inl (itself s k i)) (λ m e i.
    ⊎_elim (λ (e : spare m new (unwrap_or (x.size new.provider) 0) ≡ k).
    inr (ap provider (sym e))) (λ (i : Has s.components k). inl (itself s k i))
    (put_or provider (spare m new (unwrap_or (x.size new.provider) 0)) s.components k i)) h
old_or_taken_in s x (commands.Remove n p) k h =
    inl (by_found s (mirror_of s n) _ k (itself s k) (λ m e i.
    itself s k (Has-filter (λ (j : Component). not (same_label j.provider p)) s.components k i).0)
    h)
old_or_taken_in s x (commands.Deactivate n p) k h =
    inl (by_found s (mirror_of s n) _ k (itself s k) (λ m e i.
    by_change s n (deactivated (m.syncid + 1) p) (keeps_deactivated (m.syncid + 1) p) k i) h)
old_or_taken_in s x (commands.Activate n p) k h =
    inl (by_found s (mirror_of s n) _ k (itself s k) (λ m e i.
    by_found s (component_of s p) _ k (itself s k) (λ j at g.
    by_put s p j k at (activated m j) refl g) i) h)
old_or_taken_in s x (commands.Forget n) k h =
    inl (by_found s (mirror_of s n) _ k (itself s k) (λ m e i. itself s k i) h)
old_or_taken_in s x (commands.Rebuild n p) k h =
    inl (by_found s (component_of s p) _ k (itself s k) (λ j at i.
    by_put s p j k at (rebuilt j) refl i) h)
old_or_taken_in s x (commands.Configure n settings) k h =
    inl (by_found s (mirror_of s n) _ k (itself s k) (λ m e i.
    by_change s n (configured settings) (keeps_configured settings) k i) h)
old_or_taken_in s x (commands.Clear p) k h = inl (itself s k h)
old_or_taken_in s x (commands.Destroy n) k h =
    inl (itself s k
    (Has-filter (λ (j : Component). not (same_label j.mirror n)) s.components k h).0)
old_or_taken_in s x (commands.Lost n ps) k h =
    inl (by_found s (mirror_of s n) _ k (itself s k) (λ m e i.
    itself s k (was_there ps s.components k i)) h)
old_or_taken_in s x (commands.Advance n p) k h =
    inl (by_found s (mirror_of s n) _ k (itself s k) (λ m e i.
    by_found s (component_of s p) _ k (itself s k) (λ j at g.
    by_put s p j k at (advanced m j) refl g) i) h)
old_or_taken_in s x (commands.Adopt n ps) k h =
    by_found s (source_in x ps) _ k (λ i. inl (itself s k i)) (λ b e i.
    ⊎_elim (λ (g : Has (adopted x n ps b) k). inr (b, e, g))
    (λ (g : Has s.components k). inl (itself s k g))
    (put_all_or provider (adopted x n ps b) s.components k i)) h
old_or_taken_in s x (commands.Patch n first sectors) k h =
    inl (by_found s (mirror_of s n) _ k (itself s k) (λ m e i.
    by_change s n (freshened (m.syncid + 1)) (keeps_freshened (m.syncid + 1)) k i) h)

-- ---- one that is adopted

-- what is taken of a provider is what is taken of it as it is seen
taken_as_seen : (x : Seen) (at : List ℕ) (t : Taken) → taken x at ≡ Some t → (p : Provider)
    → p.name ≡ at → x.size at ≡ Some p.sectors → x.last at ≡ Some p.last
    → taken_by p ≡ Some (record { provider = p.name; metadata = t.metadata })
taken_as_seen x at t e p named size last =
    let is = is_taken x at t e in
    let sector : is.sector ≡ p.last =
    (let one : x.last at ≡ Some is.sector = is.last_is in cc) in
    let bytes : is_bytes p.last ≡ true = ap is_bytes (sym sector) ∙ is.bytes in
    let seen : taken_by (record { name = at; sectors = p.sectors; last = p.last }) ≡ Some t =
    rw (size, last, bytes) at e in
    ap (λ (n : List ℕ). taken_by (record { name = n; sectors = p.sectors; last = p.last })) named
    ∙ (seen ∙ ap (λ (n : List ℕ). Some (record { provider = n; metadata = t.metadata }))
    (is.name ∙ sym named))

-- an adopted component keeps the syncid that its image says, or has a greater one
syncid_kept : (b k : Member) (s : MemberState) → k.metadata.syncid ≤ b.metadata.syncid
    → k.metadata.syncid ≤ adopted_syncid b k s
syncid_kept b k tasted.Inactive low = omega arith
syncid_kept b k tasted.Active low = low
syncid_kept b k tasted.Broken low = low
syncid_kept b k (tasted.Stale offset) low = low
syncid_kept b k (tasted.Synchronizing offset) low = low

-- a size of whole sectors
whole_sectors : (n : ℕ) → n % 512 ≡ 0 → n ≡ 512 * (n / 512)
whole_sectors n even = omega (arith, even)

-- what an image that is adopted says is of its component
adopted_former : (x : Seen) (n : List ℕ) (ps : List (List ℕ)) (b : Member)
    (can : IsAdoptable x n ps b) (k : Component) (a : IsAdopted x n ps b can k) (later : Mirror)
    → IsGrown (adopted_mirror n b.metadata) later → IsFormer later k a.entry.metadata
adopted_former x n ps b can k a later grown =
    let k' : Member = as_member (genid_of x ps) (syncid_of x ps) a.entry in
    let each = can.each a.at a.listed in
    let same : each.entry ≡ a.entry = as_alike x n ps b can a.at a.listed a.entry a.taken_is in
    let low : a.entry.metadata.syncid ≤ b.metadata.syncid =
    syncid_bound x n ps b can a.at a.listed a.entry a.taken_is in
    let of : (t : Taken) → each.entry ≡ t → (t.metadata.name ≡ n)
    × (t.metadata.mid ≡ b.metadata.mid) × (t.metadata.genid ≡ b.metadata.genid)
    × (t.metadata.mediasize ≡ b.metadata.mediasize) = λ t e.
    subst (λ (t : Taken). (t.metadata.name ≡ n) × (t.metadata.mid ≡ b.metadata.mid)
    × (t.metadata.genid ≡ b.metadata.genid) × (t.metadata.mediasize ≡ b.metadata.mediasize)) e
    (each.name, each.mid, each.genid, each.mediasize) in
    let said = of a.entry same in
    let genid : b.metadata.genid ≤ later.genid = grown.genid in
    let syncid : b.metadata.syncid ≤ later.syncid = grown.syncid in
    let same_genid : a.entry.metadata.genid ≡ b.metadata.genid = said.2 in
    record {
      name = said.0 ∙ grown.name;
      mid = said.1 ∙ grown.mid;
      mediasize = said.3 ∙ (whole_sectors b.metadata.mediasize can.even
          ∙ ap (λ (i : ℕ). 512 * i) grown.data_sectors);
      genid = omega (arith, same_genid, genid);
      syncid = omega (arith, low, syncid);
      did = sym (ap (λ (j : Component). j.did) a.is);
      own_syncid = subst (λ (j : Component). a.entry.metadata.syncid ≤ j.syncid) (sym a.is)
          (syncid_kept b k' k'.state low);
    }

-- ---- what is left of a new one

-- the step makes the provider p, as it is before, the component k of m, which later may have grown
record IsMade (u w : World) (key : List ℕ) (c : Command) (r : Reply) (m : Mirror) (k : Component)
    (later : Mirror) (p : Provider) : Type 0 where
  before : Sound u
  sound : Sound w
  step : Step u key c w r
  of : IsOf w.state m k
  grown : IsGrown m later
  named : p.name ≡ k.provider
  sectors : p.sectors ≡ k.sectors
  last : p.last ≡ u.shelf k.provider (k.sectors - 1)

module _ (u w : World) (key : List ℕ) (c : Command) (r : Reply) (m : Mirror) (k : Component)
    (later : Mirror) (p : Provider) (made : IsMade u w key c r m k later p) where
  good : IsGood u.state (seen_of u) c
  good = is_good u w key c r made.step

  some : 0 < k.sectors
  some = let size : m.data_sectors + 1 ≤ k.sectors =
      (made.sound.state.each m made.of.mirror).sizes k made.of.component in omega arith

  -- the last sector that is seen of it is the image's
  seen_last : present u k.provider ≡ Some k.sectors → last_of u k.provider ≡ Some p.last
  seen_last there = last_seen u k.provider k.sectors there some ∙ ap Some (sym made.last)

  -- one that is taken in, and that bears nothing, carries nothing
  bare : (q : List ℕ) → k.provider ≡ q → IsFree u.state (seen_of u) q
      → is_bearing (seen_of u) q ≡ false → takes_in (Some c) q ≡ true
      → may_be_written (Some c) later k p ≡ true
  bare q on free bears takes =
      let size : u.size q ≡ Some k.sectors =
      subst (λ (n : List ℕ). u.size n ≡ Some k.sectors) on
      (size_before u w key c r made.step made.sound m k made.of) in
      let there : present u k.provider ≡ Some k.sectors =
      subst (λ (n : List ℕ). present u n ≡ Some k.sectors) (sym on)
      (free.size ∙ ap Some (seen_size u q free.sectors k.sectors free.size size)) in
      let carried : carries p.last ≡ false =
      sym (ap last_carries (seen_last there)) ∙ ap (is_bearing (seen_of u)) on ∙ bears in
      let taken_in : takes_in (Some c) p.name ≡ true =
      ap (takes_in (Some c)) (made.named ∙ on) ∙ takes in
      or_right (says (is_of_component later k) p) _ (rw (taken_in, carried) refl)

-- an adopted one says what its component keeps
adopted_says : (u w : World) (key n : List ℕ) (ps : List (List ℕ)) (r : Reply) (m : Mirror)
    (k : Component) (later : Mirror) (p : Provider)
    → IsMade u w key (commands.Adopt n ps) r m k later p → (b : Member)
    (can : IsAdoptable (seen_of u) n ps b) (a : IsAdopted (seen_of u) n ps b can k)
    → says (is_of_component later k) p ≡ true
adopted_says u w key n ps r m k later p made b can a =
    let x : Seen = seen_of u in
    let source : source_in x ps ≡ Some b = can.source in
    let at : k.provider ≡ a.at = provider_is x n ps b can k a in
    let size : x.size k.provider ≡ Some k.sectors = size_is x n ps b can k a in
    let taken : taken_by p ≡ Some (record { provider = p.name; metadata = a.entry.metadata }) =
    taken_as_seen x a.at a.entry a.taken_is p (made.named ∙ at)
    (ap x.size (sym at) ∙ size ∙ ap Some (sym made.sectors))
    (ap x.last (sym at) ∙ seen_last u w key (commands.Adopt n ps) r m k later p made size) in
    let there : Has (put name (adopted_mirror n b.metadata) u.state.mirrors) m =
    (let here : Has (after x (commands.Adopt n ps) u.state).mirrors m =
    subst (λ (s : Records). Has s.mirrors m) made.step.records made.of.mirror in
    rw source at here) in
    let own : m.name ≡ n = sym (member w.state m.name k made.of.component).1
    ∙ ap (λ (j : Component). j.mirror) a.is in
    let is : adopted_mirror n b.metadata ≡ m =
    ⊎_elim (λ (e : adopted_mirror n b.metadata ≡ m). e)
    (λ (o : Has u.state.mirrors m × (m.name ≢ n)). absurd (o.1 own))
    (put_cases name (adopted_mirror n b.metadata) u.state.mirrors
    made.before.state.mirrors_in_order m there) in
    former_says later k a.entry.metadata p (adopted_former x n ps b can k a later
    (subst (λ (z : Mirror). IsGrown z later) (sym is) made.grown)) taken

-- the one source that there is makes it adopted
source_adopts : (x : Seen) (n : List ℕ) (ps : List (List ℕ)) (k : Component) (b : Member)
    → source_in x ps ≡ Some b → Has (adopted x n ps b) k → (b' : Member)
    (can : IsAdoptable x n ps b') → IsAdopted x n ps b' can k
source_adopts x n ps k b source h b' can =
    let one : source_in x ps ≡ Some b' = can.source in
    let same : b ≡ b' = cc in
    is_adopted x n ps b' can k (subst (λ (e : Member). Has (adopted x n ps e) k) same h)

-- one that a step takes in may be left as it was
taken_in_written : (u w : World) (key : List ℕ) (c : Command) (r : Reply) (m : Mirror)
    (k : Component) (later : Mirror) (p : Provider) → IsMade u w key c r m k later p
    → IsTakenIn (seen_of u) c k → may_be_written (Some c) later k p ≡ true
taken_in_written u w key (commands.Label new) r m k later p made on =
    let good = is_good u w key (commands.Label new) r made.step in
    bare u w key (commands.Label new) r m k later p made new.provider on
    (is_free u.state (seen_of u) (commands.Label new) good refl refl refl refl new.provider
    (inl refl)) (any_one (is_bearing (seen_of u)) new.provider (good refusals.CarriesMetadata refl))
    (same_refl new.provider)
taken_in_written u w key (commands.Insert new) r m k later p made on =
    let good = is_good u w key (commands.Insert new) r made.step in
    bare u w key (commands.Insert new) r m k later p made new.provider on
    (is_free u.state (seen_of u) (commands.Insert new) good refl refl refl refl new.provider
    (inl refl)) (any_one (is_bearing (seen_of u)) new.provider (good refusals.CarriesMetadata refl))
    (same_refl new.provider)
taken_in_written u w key (commands.Adopt n ps) r m k later p made (b, source, h) =
    let good = is_good u w key (commands.Adopt n ps) r made.step in
    let can = adoptable (seen_of u) n ps (not-false _ (good refusals.NotAdoptable refl)) in
    or_left (says (is_of_component later k) p) _
    (adopted_says u w key n ps r m k later p made can.0 can.1
    (source_adopts (seen_of u) n ps k b source h can.0 can.1))
taken_in_written u w key c r m k later p made never = absurd never

-- so may any that a step adds
pub new_may_be_written : (u w : World) (key : List ℕ) (c : Command) (r : Reply) → Sound u → Sound w
    → Step u key c w r → (m : Mirror) (k : Component) → IsOf w.state m k
    → component_of u.state k.provider ≡ None → (later : Mirror) → IsGrown m later → (p : Provider)
    → p.name ≡ k.provider → p.sectors ≡ k.sectors → p.last ≡ u.shelf k.provider (k.sectors - 1)
    → may_be_written (Some c) later k p ≡ true
new_may_be_written u w key c r before sound step m k of fresh later grown p named sectors last =
    let made : IsMade u w key c r m k later p = record {
      before = before;
      sound = sound;
      step = step;
      of = of;
      grown = grown;
      named = named;
      sectors = sectors;
      last = last;
    } in
    ⊎_elim
    (λ (old : IsOld u.state k.provider).
    not_both (same_label old.component.provider k.provider)
    (same_from old.component.provider k.provider old.on)
    (new_name u.state k.provider fresh old.component old.there))
    (λ (taken : IsTakenIn (seen_of u) c k).
    taken_in_written u w key c r m k later p made taken)
    (old_or_taken_in u.state (seen_of u) c k
    (subst (λ (s : Records). Has s.components k) step.records
    (member w.state m.name k of.component).0))
