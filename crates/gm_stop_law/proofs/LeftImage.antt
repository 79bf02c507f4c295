-- What a stop left of an image that a pending intent needs, by how it needs it.
use Rattle.gm_stop_law.proofs.Common.{◌≡◌, ◌≢◌, ◌∙◌, ◌⊎◌, ⊎_elim, inl, inr, ℕ, ◌<◌, ◌+◌, ◌≤◌, ◌-◌, true, refl, sym, ap, subst, arith, List, Option, Some, None, list_any, some_any, or_left, eq-eqb, same_label, same_from, same_is, not_both, filter-Has, found, found_none, option_cases, one, Has, Image, encoded, metadata, IsMetadata, Copying, Command, Records, World, Sound, member, component_of, name, provider, Intent, Meta, Clear, Copy, Dirty, Patch, Mirror, Component, IsOf, is_last, is_dirty_of, Tables, PendingSince, of_genid, SaysSince, KeepsClaims, Leads, stopped_by, Stopped, Provider, intents_of}
use Rattle.gm_commands.specs.declared.command.Command.TheVariants.{Advance}
use Rattle.gm_rules.proofs.GrownRecords.{Grows, IsGrown, IsKept}
use Rattle.gm_rules.proofs.AdvancedCopy.{IsAdvance, only_of_advance}
use Rattle.gm_rules.proofs.SeriesTurns.{grown_in_turn}
use Rattle.gm_stopped.specs.Leavings.{filled_to, is_of_component, may_be_before_clear, may_be_written, says, says_but_losses}
use Rattle.gm_bench.proofs.LossReadable.{home}
use Rattle.gm_stop_law.specs.NeverStrange.{commands_of}
use Rattle.gm_stop_law.proofs.Advances.{IsStep, copied_in_turn, none_is_new, one_or_advance}
use Rattle.gm_stop_law.proofs.Chain.{IsOtherCopy, components_stay, first_of, kept_from, kept_meta, kept_of, kept_or_meta, stepped_of}
use Rattle.gm_stop_law.proofs.ClearedImage.{cleared_before}
use Rattle.gm_stop_law.proofs.Later.{HasStepped, risen, stepped, stopped_is, was_then}
use Rattle.gm_stop_law.proofs.NamedIntents.{cleared_by, never_clears, never_marks, new_is_named}
use Rattle.gm_stop_law.proofs.NewImage.{new_may_be_written}
use Rattle.gm_stop_law.proofs.SaidMetadata.{grown_says, metadata_fits, says_but}

-- a component of a provider is not missing
pub is_there : (s : Records) (k : Component) → Has s.components k → component_of s k.provider ≢ None
is_there s k h none = not_both (same_label k.provider k.provider)
    (same_from k.provider k.provider refl)
    (found_none (λ (x : Component). same_label x.provider k.provider) s.components none k h)

-- it is the only one there, of the only mirror
pub only_one : (w : World) → Sound w → (m n : Mirror) (k c : Component) → IsOf w.state m k
    → IsOf w.state n c → k.provider ≡ c.provider → (k ≡ c) × (m ≡ n)
only_one w sound m n k c of at same =
    let k_in = member w.state m.name k of.component in
    let c_in = member w.state n.name c at.component in
    let one_is : k ≡ c = one provider w.state.components sound.state.components_in_order k c k_in.0
    c_in.0 same in (
      one_is,
      one name w.state.mirrors sound.state.mirrors_in_order m n of.mirror at.mirror
          (sym k_in.1 ∙ (ap (λ (x : Component). x.mirror) one_is ∙ c_in.1)),
    )

-- a mirror that grew twice grew
grown_twice : (a b c : Mirror) → IsGrown a b → IsGrown b c → IsGrown a c
grown_twice a b c x y =
    let g = x.genid in
    let h = y.genid in
    let s = x.syncid in
    let t = y.syncid in
    record {
      name = x.name ∙ y.name;
      mid = x.mid ∙ y.mid;
      data_sectors = x.data_sectors ∙ y.data_sectors;
      genid = omega (arith, g, h);
      syncid = omega (arith, s, t);
    }

module _ (t : Tables) (ts : List Intent) (bytes : List (List ℕ)) (u w : World) (y : Image)
    (l : Leads t ts bytes y w) (k : KeepsClaims ts y u w) where
  abbrev stopped : Stopped
  stopped = stopped_by w.state ts (commands_of w)

  -- an image as the look sees it: of this provider, with so many sectors, and its last one
  pub record IsSeen (q : List ℕ) (p : Provider) : Type 0 where
    pub named : p.name ≡ q
    pub sectors : w.size q ≡ Some p.sectors
    pub some : 0 < p.sectors
    pub last : p.last ≡ y q (p.sectors - 1)

  pub last_is : (q : List ℕ) (p : Provider) → IsSeen q p → is_last (w.size q) (p.sectors - 1) ≡ true
  last_is q p seen =
      let n : ℕ = p.sectors in
      let some = seen.some in
      subst (λ (o : Option ℕ). is_last o (n - 1) ≡ true) (sym seen.sectors)
      (eq-eqb n (n - 1 + 1) (omega (arith, some)))

  -- the command that was stopped, if its writes were pending
  module _ (n : ℕ) (p : PendingSince n true u w ts) where
    abbrev s : World
    s = stepped_of n u w ts p

    abbrev c : Command
    c = first_of n u w ts p

    abbrev did : HasStepped u s c
    did = stepped n u w ts p

    abbrev kept : List Intent
    kept = kept_of n u w ts p

    command_is : (i : Intent) → Has kept i → stopped.command ≡ Some c
    command_is i h = ap (λ (x : Stopped). x.command) (stopped_is n u w ts p l.sound i h)

    losses_are : (i : Intent) → Has kept i → stopped.losses ≡ n
    losses_are i h = ap (λ (x : Stopped). x.losses) (stopped_is n u w ts p l.sound i h)

    grown_records : Grows u.state s.state
    grown_records = grown_in_turn u s c did.keys k.sound did.turns

    -- one step took u on, or the command is an advance
    did_once : IsStep u s c ⊎ ((name : List ℕ) × (target : List ℕ) × (c ≡ Advance name target))
    did_once = one_or_advance u s c did.keys did.series did.turns

    -- ---- an image that is written to, as it was before the command

    -- one of a component that was registered then
    old_says : (m : Mirror) (x : Component) → IsOf w.state m x → (j : Component)
        → Has u.state.components j → j.provider ≡ x.provider → (i : Provider)
        → IsSeen x.provider i → i.sectors ≡ x.sectors
        → i.last ≡ u.shelf x.provider (i.sectors - 1)
        → says (is_of_component m x) i ≡ true
    old_says m x of j h same i seen many old =
        let then = was_then n u w ts p l.sound m x of in
        let at = home u.state k.sound.state j h in
        let same_one : IsKept j x = grown_records.components j x h
        (member s.state then.0.name x then.1.component).0 same in
        let named : at.0.name ≡ then.0.name =
        sym (member u.state at.0.name j at.1.component).1 ∙ (same_one.mirror
        ∙ (member s.state then.0.name x then.1.component).1) in
        let grown : IsGrown at.0 m = grown_twice at.0 then.0 m
        (grown_records.mirrors at.0 then.0 at.1.mirror then.1.mirror named) then.2.grown in
        let last : i.last ≡ encoded (metadata at.0 j) =
        old ∙ (ap (λ (b : ℕ). u.shelf x.provider (b - 1)) (many ∙ sym same_one.sectors)
        ∙ (ap (λ (q : List ℕ). u.shelf q (j.sectors - 1)) (sym same)
        ∙ k.sound.full at.0 j at.1)) in
        grown_says u.state at.0 m j x k.sound.state at.1 grown same_one i seen.named many last

    -- one of a component that the command took in
    new_written : (m : Mirror) (x : Component) → IsOf w.state m x
        → component_of u.state x.provider ≡ None → (i : Provider) → IsSeen x.provider i
        → i.sectors ≡ x.sectors → i.last ≡ u.shelf x.provider (i.sectors - 1)
        → may_be_written stopped.command m x i ≡ true
    new_written m x of fresh i seen many old =
        let then = was_then n u w ts p l.sound m x of in
        let there = (member s.state then.0.name x then.1.component).0 in
        elim did_once [
          | inr (name, target, is) ↦
              absurd (none_is_new u s c name target did.keys is did.turns x there fresh)
          | inl once ↦
              let named : Has (intents_of c u.state s.state) (Meta x.provider) =
              new_is_named u s once.key c once.reply once.step x there fresh in
              let left : Has kept (Meta x.provider) = kept_meta n u w ts p l.sound x.provider named
              (is_there w.state x (member w.state m.name x of.component).0) in
              let written : may_be_written (Some c) m x i ≡ true =
              new_may_be_written u s once.key c once.reply k.sound did.sound once.step then.0 x
              then.1 fresh m then.2.grown i seen.named many
              (old ∙ ap (λ (b : ℕ). u.shelf x.provider (b - 1)) many) in
              subst (λ (o : Option Command). may_be_written o m x i ≡ true)
              (sym (command_is (Meta x.provider) left)) written
        ]

    pub old_written : (m : Mirror) (x : Component) → IsOf w.state m x → (i : Provider)
        → IsSeen x.provider i → i.sectors ≡ x.sectors
        → i.last ≡ u.shelf x.provider (i.sectors - 1)
        → may_be_written stopped.command m x i ≡ true
    old_written m x of i seen many old =
        elim (option_cases (component_of u.state x.provider)) [
          | inl fresh ↦ new_written m x of fresh i seen many old
          | inr (j, at) ↦
              let f = found (λ (b : Component). same_label b.provider x.provider) u.state.components
              j at in
              let same : j.provider ≡ x.provider = same_is j.provider x.provider f.1 in
              or_left _ _ (old_says m x of j f.0 same i seen many old)
        ]

    -- ---- one that is wiped, as it was before the command

    pub old_cleared : (q : List ℕ) → Has ts (Clear q) → (i : Provider) → IsSeen q i
        → i.last ≡ u.shelf q (i.sectors - 1) → may_be_before_clear w.state stopped.command i ≡ true
    old_cleared q h i seen old =
        elim (kept_or_meta n u w ts p l.sound (Clear q) h) [
          | inr (a, e) ↦ absurd (let no : ⊥ = cc in no)
          | inl left ↦
              let from = kept_from n u w ts p l.sound (Clear q) left in
              let named : Has (intents_of c u.state s.state) (Clear q) =
              ⊎_elim
              (λ (e : Clear q ≡ from.0).
              subst (λ (x : Intent). Has (intents_of c u.state s.state) x) (sym e) from.1)
              (λ (e : IsOtherCopy from.0 (Clear q)). absurd (let f = e.is in let no : ⊥ = cc in no))
              from.2 in
              let size : u.size q ≡ Some i.sectors =
              ap (λ (z : List ℕ → Option ℕ). z q) k.sizes ∙ seen.sectors in
              subst (λ (o : Option Command). may_be_before_clear w.state o i ≡ true)
              (sym (command_is (Clear q) left))
              (elim did_once [
                | inr (name, target, is) ↦ absurd (never_clears name target u.state s.state q
                    (subst (λ (d : Command). Has (intents_of d u.state s.state) (Clear q)) is
                    named))
                | inl once ↦ cleared_before u s once.key c once.reply k.sound did.sound once.step q
                    (cleared_by c u.state s.state q named) w.state (λ m g.
                    let rose = risen n u w ts p l.sound m g in (rose.0, rose.2, rose.3.grown))
                    (components_stay n u w ts p l.sound) i seen.named size old
              ])
        ]

    -- ---- those of a copy

    module _ (f to : List ℕ) (a b : ℕ) (h : Has ts (Copy f to a b)) where
      left_copy : Has kept (Copy f to a b)
      left_copy = elim (kept_or_meta n u w ts p l.sound (Copy f to a b) h) [
        | inl left ↦ left
        | inr (q, e) ↦ absurd (let no : ⊥ = cc in no)
      ]

      pub copied : (from : List ℕ) × (until : ℕ)
          × Has (intents_of c u.state s.state) (Copy from to a until)
      copied =
          let from = kept_from n u w ts p l.sound (Copy f to a b) left_copy in
          ⊎_elim
          (λ (e : Copy f to a b ≡ from.0).
          (f, b, subst (λ (x : Intent). Has (intents_of c u.state s.state) x) (sym e) from.1))
          (λ (e : IsOtherCopy from.0 (Copy f to a b)).
          let is = e.is in
          let target : e.target ≡ to = cc in
          let first : e.first ≡ a = cc in
          let was : from.0 ≡ Copy e.from to a e.until = e.was ∙ rw (target, first) refl in (
            e.from,
            e.until,
            subst (λ (x : Intent). Has (intents_of c u.state s.state) x) was from.1,
          ))
          from.2

      abbrev pub advance : IsAdvance u s to a
      advance = copied_in_turn u s c did.keys k.sound did.series did.turns copied.0 to a copied.1
          copied.2

      -- a mirror of then was there before, with the same genid
      mirror_before : (m : Mirror) → Has s.state.mirrors m → Has u.state.mirrors m
      mirror_before m g = subst (λ (ms : List Mirror). Has ms m) advance.mirrors g

      -- no provider is marked
      unmarked : (q : List ℕ) → list_any (is_dirty_of q) ts ≡ true → ⊥
      unmarked q e =
          let some = some_any (is_dirty_of q) ts e in
          marks some.0 some.1 some.2
        where
          marks : (i : Intent) → Has ts i → is_dirty_of q i ≡ true → ⊥
          marks (Meta x) g e = cc
          marks (Clear x) g e = cc
          marks (Copy x z d r) g e = cc
          marks (Patch x d r) g e = cc
          marks (Dirty x) g e = elim (kept_or_meta n u w ts p l.sound (Dirty x) g) [
            | inr (z, is) ↦ (let no : ⊥ = cc in no)
            | inl left ↦
                let from = kept_from n u w ts p l.sound (Dirty x) left in
                let of = only_of_advance u s c (Copy copied.0 to a copied.1) copied.2 refl in
                ⊎_elim
                (λ (same : Dirty x ≡ from.0).
                never_marks of.0 of.1 u.state s.state x
                (subst (λ (d : Command). Has (intents_of d u.state s.state) (Dirty x)) of.2
                (subst (λ (i : Intent). Has (intents_of c u.state s.state) i) (sym same) from.1)))
                (λ (other : IsOtherCopy from.0 (Dirty x)).
                let is = other.is in let no : ⊥ = cc in no)
                from.2
          ]

      -- an image that says what was registered since, but for a genid
      pub said_since : (m : Mirror) (x : Component) → IsOf w.state m x → (i : Provider)
          → SaysSince u w ts x.provider i.last
          → says_but_losses (metadata m x) stopped.losses i.last ≡ true
      said_since m x of i says =
          let then = was_then n u w ts p l.sound m x of in
          let one_is = only_one w l.sound m says.mirror x says.component of says.is (sym says.on) in
          let low : says.genid ≤ m.genid =
          subst (λ (y : Mirror). says.genid ≤ y.genid) (sym one_is.1) says.at_most in
          let least : then.0.genid ≤ says.genid =
          says.since then.0 (mirror_before then.0 then.1.mirror)
          (then.2.grown.name ∙ ap (λ (y : Mirror). y.name) one_is.1) in
          let high = then.2.high in
          let last : i.last ≡ encoded (metadata (of_genid says.genid m) x) =
          ⊎_elim
          (λ (e : i.last ≡ encoded (metadata (of_genid says.genid says.mirror) says.component)).
          subst (λ (z : Component). i.last ≡ encoded (metadata (of_genid says.genid m) z))
          (sym one_is.0)
          (subst (λ (z : Mirror). i.last
          ≡ encoded (metadata (of_genid says.genid z) says.component)) (sym one_is.1) e))
          (λ e. absurd (unmarked x.provider e.0)) says.says in
          subst (λ (d : ℕ). says_but_losses (metadata m x) d i.last ≡ true)
          (sym (losses_are (Copy f to a b) left_copy))
          (says_but m x says.genid n i.last
          (metadata_fits w.state m x says.genid l.sound.state of low) low
          (omega (arith, least, high)) last)

      -- the source, as it was before the command
      pub old_source : (m : Mirror) (x : Component) → IsOf w.state m x → x.provider ≢ to
          → (i : Provider) → i.sectors ≡ x.sectors
          → i.last ≡ u.shelf x.provider (i.sectors - 1)
          → says_but_losses (metadata m x) stopped.losses i.last ≡ true
      old_source m x of apart i many old =
          let then = was_then n u w ts p l.sound m x of in
          let there = (member s.state then.0.name x then.1.component).0 in
          let before : IsOf u.state then.0 x = record {
            mirror = mirror_before then.0 then.1.mirror;
            component = filter-Has (λ (z : Component). same_label z.mirror then.0.name)
                u.state.components x (advance.others x there apart)
                (same_from x.mirror then.0.name (member s.state then.0.name x then.1.component).1);
          } in
          let same : of_genid then.0.genid m ≡ then.0 = ap (of_genid then.0.genid) then.2.is in
          let last : i.last ≡ encoded (metadata (of_genid then.0.genid m) x) =
          old ∙ (ap (λ (d : ℕ). u.shelf x.provider (d - 1)) many
          ∙ (k.sound.full then.0 x before
          ∙ ap (λ (z : Mirror). encoded (metadata z x)) (sym same))) in
          subst (λ (d : ℕ). says_but_losses (metadata m x) d i.last ≡ true)
          (sym (losses_are (Copy f to a b) left_copy))
          (says_but m x then.0.genid n i.last
          (metadata_fits w.state m x then.0.genid l.sound.state of then.2.low) then.2.low
          then.2.high last)

      -- the target, as it was before the command
      pub old_target : (m : Mirror) (x : Component) → IsOf w.state m x → x.provider ≡ to
          → (i : Provider) → i.sectors ≡ x.sectors
          → i.last ≡ u.shelf x.provider (i.sectors - 1)
          → says_but_losses (filled_to m x advance.forced a) stopped.losses i.last ≡ true
      old_target m x of at i many old =
          let then = was_then n u w ts p l.sound m x of in
          let after_at : advance.after.provider ≡ to =
          sym (ap (λ (z : Component). z.provider) advance.was) ∙ advance.provider in
          let one_is = only_one s did.sound then.0 advance.mirror x advance.after then.1
          advance.is_after (at ∙ sym after_at) in
          let was : advance.before ≡ record x { disk = Copying advance.forced a } =
          advance.was ∙ ap (λ (z : Component). record z { disk = Copying advance.forced a })
          (sym one_is.0) in
          let before : IsOf u.state then.0 advance.before =
          subst (λ (z : Mirror). IsOf u.state z advance.before) (sym one_is.1) advance.is_before in
          let same : of_genid then.0.genid m ≡ then.0 = ap (of_genid then.0.genid) then.2.is in
          let last : i.last ≡ encoded (metadata (of_genid then.0.genid m)
          (record x { disk = Copying advance.forced a })) =
          old ∙ (ap (λ (d : ℕ). u.shelf x.provider (d - 1)) many
          ∙ (subst (λ (z : Component). u.shelf z.provider (z.sectors - 1)
          ≡ encoded (metadata then.0 z)) was (k.sound.full then.0 advance.before before)
          ∙ ap (λ (z : Mirror). encoded (metadata z (record x { disk = Copying advance.forced a })))
          (sym same))) in
          let fits = subst (λ (z : Component). IsMetadata (metadata then.0 z)) was
          (metadata_fits u.state then.0 advance.before then.0.genid k.sound.state before
          (omega arith)) in
          subst (λ (d : ℕ). says_but_losses (filled_to m x advance.forced a) d i.last ≡ true)
          (sym (losses_are (Copy f to a b) left_copy))
          (says_but m (record x { disk = Copying advance.forced a }) then.0.genid n i.last
          (subst (λ (z : Mirror). IsMetadata (metadata z
          (record x { disk = Copying advance.forced a }))) (sym same) fits)
          then.2.low then.2.high last)
