-- An image that a step clears may be left as it was: it is one that the command looks for there.
use Rattle.gm_stop_law.proofs.Common.{◌≡◌, ◌∙◌, inl, ℕ, ◌<◌, ◌≤◌, ◌-◌, ◌==◌, ◌&&◌, not, true, false, refl, sym, ap, subst, arith, List, Option, Some, eqb-true, and_from, and_parts, not-false, not-true, list_any, same_label, same_from, same_is, carries, Metadata, Has, put, without, taken_by, Provider, IsOf, mirror_of, metadata, members, name, provider, Records, Component, Mirror, may_be_before_clear, says, says_with, is_of_mirror, is_of_none, is_numbered, was_removed, World, Sound, Command, Reply, Step, is_bearing, last_carries, seen_of, clears, named, member, not_both, any_one}
use Rattle.gm_commands.specs.declared.command.Command.TheVariants as commands
use Rattle.gm_lists.proofs.Finding.{any_none, some_any}
use Rattle.gm_lists.proofs.Lists.{Has-filter, filter-Has}
use Rattle.gm_lists.proofs.Putting.{put_there}
use Rattle.gm_state.proofs.FoundRecords.{is_member}
use Rattle.gm_refusals.specs.declared.refusals.Refusal.TheVariants as refusals
use Rattle.gm_refusals.proofs.NothingApplies.{there_from}
use Rattle.gm_rules.proofs.RuledOut.{IsFree, is_free}
use Rattle.gm_rules.proofs.GrownRecords.{IsGrown, is_good}
use Rattle.gm_stop_law.proofs.SaidMetadata.{IsFormer, grown_former, is_former, taken_as_registered}
use Rattle.gm_stop_law.proofs.SteppedFrom.{fails_unless, last_seen, seen_size}

-- p is the provider q as it is in the world
record IsImage (u : World) (q : List ℕ) (p : Provider) : Type 0 where
  name : p.name ≡ q
  size : u.size q ≡ Some p.sectors
  last : p.last ≡ u.shelf q (p.sectors - 1)

-- that of a component is taken to say it
of_component : (u : World) (m : Mirror) (k : Component) (p : Provider) → Sound u → IsOf u.state m k
    → IsImage u k.provider p
    → taken_by p ≡ Some (record { provider = p.name; metadata = metadata m k })
of_component u m k p sound of image =
    let size : u.size k.provider ≡ Some k.sectors = sound.sizes m k of in
    let other : u.size k.provider ≡ Some p.sectors = image.size in
    let sectors : p.sectors ≡ k.sectors = cc in
    taken_as_registered u.state m k m.genid sound.state of (omega arith) p image.name sectors
    (image.last ∙ (ap (λ (n : ℕ). u.shelf k.provider (n - 1)) sectors ∙ sound.full m k of))

-- ---- a provider that is cleared by its name

-- it carries metadata
clear_before : (u w : World) (key q : List ℕ) (r : Reply) (p : Provider) (s : Records)
    → Step u key (commands.Clear q) w r → IsImage u q p
    → may_be_before_clear s (Some (commands.Clear q)) p ≡ true
clear_before u w key q r p s step image =
    let good = is_good u w key (commands.Clear q) r step in
    let free : IsFree u.state (seen_of u) q =
    is_free u.state (seen_of u) (commands.Clear q) good refl refl refl refl q (inl refl) in
    let some : 0 < free.sectors = (let two : 2 ≤ free.sectors = free.some in omega arith) in
    let bears : is_bearing (seen_of u) q ≡ true =
    not-false _ (any_one (λ (n : List ℕ). not (is_bearing (seen_of u) n)) q
    (good refusals.NoMetadata refl)) in
    let seen : is_bearing (seen_of u) q ≡ carries (u.shelf q (free.sectors - 1)) =
    ap last_carries (last_seen u q free.sectors free.size some) in
    let sectors : free.sectors ≡ p.sectors =
    seen_size u q free.sectors p.sectors free.size image.size in
    let last : u.shelf q (free.sectors - 1) ≡ p.last =
    ap (λ (n : ℕ). u.shelf q (n - 1)) sectors ∙ sym image.last in
    and_from (same_label q p.name) (carries p.last) (same_from q p.name (sym image.name))
    (ap carries (sym last) ∙ (sym seen ∙ bears))

-- ---- a component that is removed

-- the mirror with one component fewer
abbrev less : Mirror → Mirror
less m = record m { all = m.all - 1 }

-- its image says the mirror, and none of the components that are left
removed_before : (u : World) (m : Mirror) (k : Component) (p : Provider) (s : Records)
    (later : Mirror) → Sound u → IsOf u.state m k → IsImage u k.provider p
    → IsGrown (less m) later → ((j : Component) → Has s.components j
    → Has (without provider k.provider u.state.components) j)
    → says (is_of_none s later) p ≡ true
removed_before u m k p s later sound of image grown left =
    let d : Metadata = metadata m k in
    let old : IsFormer later k d = grown_former u.state m later k k sound.state of (record {
      name = grown.name;
      mid = grown.mid;
      data_sectors = grown.data_sectors;
      genid = grown.genid;
      syncid = grown.syncid;
    }) (record {
      provider = refl;
      mirror = refl;
      did = refl;
      syncid = omega arith;
      sectors = refl;
    }) in
    let of_mirror : is_of_mirror later d ≡ true =
    (and_parts (is_of_mirror later d) _ (and_parts (is_of_mirror later d && (d.did == k.did)) _
    (is_former later k d old)).0).0 in
    let none : list_any (is_numbered later.name k.did) s.components ≡ false =
    any_none (is_numbered later.name k.did) s.components (λ j h.
    fails_unless (is_numbered later.name k.did j) (λ e.
    let both = and_parts (same_label j.mirror later.name) (j.did == k.did) e in
    let r = Has-filter (λ (i : Component). not (same_label i.provider k.provider))
    u.state.components j (left j h) in
    let own : j.mirror ≡ m.name = same_is j.mirror later.name both.0 ∙ sym grown.name in
    let mine : Has (members u.state.components m.name) j =
    filter-Has (λ (i : Component). same_label i.mirror m.name) u.state.components j r.0
    (same_from j.mirror m.name own) in
    let same : j ≡ k = (sound.state.each m of.mirror).dids j mine k of.component
    (eqb-true j.did k.did both.1) in
    not_both (same_label j.provider k.provider)
    (same_from j.provider k.provider (ap provider same))
    (not-true (same_label j.provider k.provider) r.1))) in
    ap (says_with (is_of_none s later)) (of_component u m k p sound of image)
    ∙ rw (of_mirror, none) refl

remove_before : (u w : World) (key n q : List ℕ) (r : Reply) (p : Provider) (s : Records) → Sound u
    → Step u key (commands.Remove n q) w r → IsImage u q p
    → ((m : Mirror) → Has w.state.mirrors m
    → (later : Mirror) × (mirror_of s m.name ≡ Some later) × IsGrown m later)
    → ((k : Component) → Has s.components k → Has w.state.components k)
    → may_be_before_clear s (Some (commands.Remove n q)) p ≡ true
remove_before u w key n q r p s sound step image mirrors components =
    let good = is_good u w key (commands.Remove n q) r step in
    let m = there_from (mirror_of u.state n) (good refusals.NoMirror refl) in
    let at = named u.state n m.0 m.1 in
    let k = is_member (members u.state.components n) q (good refusals.NotMember refl) in
    let of : IsOf u.state m.0 k.0 = record {
      mirror = at.0;
      component = subst (λ (a : List ℕ). Has (members u.state.components a) k.0) (sym at.1) k.1;
    } in
    let is : w.state ≡ record {
      mirrors = put name (less m.0) u.state.mirrors;
      components = without provider q u.state.components;
    } = rw m.1 at step.records in
    let later = mirrors (less m.0) (subst (λ (t : Records). Has t.mirrors (less m.0)) (sym is)
    (put_there name (less m.0) u.state.mirrors)) in
    let found : mirror_of s n ≡ Some later.0 =
    ap (mirror_of s) (sym at.1) ∙ later.1 in
    let says_none : says (is_of_none s later.0) p ≡ true =
    removed_before u m.0 k.0 p s later.0 sound of
    (subst (λ (a : List ℕ). IsImage u a p) (sym k.2) image) later.2 (λ j h.
    subst (λ (a : List ℕ). Has (without provider a u.state.components) j) (sym k.2)
    (subst (λ (t : Records). Has t.components j) is (components j h))) in
    and_from (same_label q p.name) (was_removed s (mirror_of s n) p)
    (same_from q p.name (sym image.name))
    (ap (λ (o : Option Mirror). was_removed s o p) found ∙ says_none)

-- ---- a mirror that is destroyed

-- the image of each of its components says its name
destroy_before : (u : World) (n q : List ℕ) (p : Provider) (s : Records) → Sound u
    → clears u.state (commands.Destroy n) q ≡ true → IsImage u q p
    → may_be_before_clear s (Some (commands.Destroy n)) p ≡ true
destroy_before u n q p s sound cleared image =
    let k = some_any (λ (j : Component). same_label j.provider q) (members u.state.components n)
    cleared in
    let own = member u.state n k.0 k.1 in
    let home = sound.state.homes k.0 own.0 in
    let is : home.0.name ≡ n = home.2 ∙ own.1 in
    let of : IsOf u.state home.0 k.0 = record {
      mirror = home.1;
      component = subst (λ (a : List ℕ). Has (members u.state.components a) k.0) (sym is) k.1;
    } in
    ap (says_with (λ (d : Metadata). same_label d.name n)) (of_component u home.0 k.0 p sound of
    (subst (λ (a : List ℕ). IsImage u a p) (sym (same_is k.0.provider q k.2)) image))
    ∙ same_from home.0.name n is

-- ---- any step

module _ (u w : World) (key : List ℕ) (r : Reply) (sound : Sound u) (q : List ℕ) (s : Records)
    (mirrors : (m : Mirror) → Has w.state.mirrors m
    → (later : Mirror) × (mirror_of s m.name ≡ Some later) × IsGrown m later)
    (components : (k : Component) → Has s.components k → Has w.state.components k)
    (p : Provider) (image : IsImage u q p) where
  by_command : (c : Command) → Step u key c w r → clears u.state c q ≡ true
      → may_be_before_clear s (Some c) p ≡ true
  by_command (commands.Clear a) step e = clear_before u w key a r p s step
      (subst (λ (n : List ℕ). IsImage u n p) (sym (same_is a q e)) image)
  by_command (commands.Remove n a) step e = remove_before u w key n a r p s sound step
      (subst (λ (n : List ℕ). IsImage u n p) (sym (same_is a q e)) image) mirrors components
  by_command (commands.Destroy n) step e = destroy_before u n q p s sound e image
  by_command c step e = cc

pub cleared_before : (u w : World) (key : List ℕ) (c : Command) (r : Reply) → Sound u → Sound w
    → Step u key c w r → (q : List ℕ) → clears u.state c q ≡ true → (s : Records)
    → ((m : Mirror) → Has w.state.mirrors m
    → (later : Mirror) × (mirror_of s m.name ≡ Some later) × IsGrown m later)
    → ((k : Component) → Has s.components k → Has w.state.components k) → (p : Provider)
    → p.name ≡ q → u.size q ≡ Some p.sectors → p.last ≡ u.shelf q (p.sectors - 1)
    → may_be_before_clear s (Some c) p ≡ true
cleared_before u w key c r sound sound_w step q e s mirrors components p named size last =
    by_command u w key r sound q s mirrors components p
    (record { name = named; size = size; last = last }) c step e
