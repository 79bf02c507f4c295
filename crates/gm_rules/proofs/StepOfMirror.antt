-- The world that a command leads to, from what it shows: it is sound, and what images claim on the
-- way is true.
use Rattle.gm_rules.proofs.Common.{◌≡◌, ◌≢◌, ◌∙◌, inl, inr, ⊎_elim, ℕ, ◌<◌, ◌≤◌, ◌+◌, ◌-◌, Bool, true, false, refl, sym, ap, subst, arith, eq-eqb, List, [], ◌∷◌, cond, find, Option, Some, None, cases_Bool, Image, Sizes, same_label, zeros, encoded, IsMetadata, Bears, Metadata, Command, Mirror, Component, Disk, InSync, Inactive, Copying, Has, IsMirror, held_by, members, name, provider, disk_flags, metadata, mirror_of, IsOf, is_last, World, Sound, Claims, claimed, data_at, has_syncid, Below, same_tells, same_from, same_is, differ, one, Has-filter, find_none, find_one, option_cases, some_any, present_size, claims_of, same_data, bears_one, bears_not_zeros, bytes_of, clears, laid_over, reply_to, CanAnswer, answer}
use Rattle.gm_state.specs.Lookups.{held_of}
use Rattle.gm_lists.proofs.Finding.{found}
use Rattle.gm_rules.proofs.OneMoreAnswer.{answers_after}
use Rattle.gm_rules.proofs.LaidOver.{laid_elsewhere, nothing_laid}
use Rattle.gm_rules.proofs.PlanOf.{CanFill, Fill, Nothing, Copied, Laid, PlanOf, bytes_in, with_filled, written}
use Rattle.gm_rules.proofs.TurnedMirror.{in_order, in_s, here, rules_of}
use Rattle.gm_rules.proofs.WrittenIntents.{Brings, brings, last_at, not_last}

-- what a last sector holds: the metadata of the mirror's component there, zeros if it is
-- cleared, else what it held
abbrev pub last_of : Option Component → Mirror → Bool → List ℕ → List ℕ
last_of None m gone old = cond gone zeros old
last_of (Some k) m gone old = encoded (metadata m k)

abbrev pub shelf_after : Sizes → Mirror → List Component → (List ℕ → Bool) → Image → Image
shelf_after size m ks gone old q j =
    cond (is_last (size q) j) (last_of (find (λ k. same_label k.provider q) ks) m (gone q)
    (old q j)) (old q j)

-- the data lists after the command
abbrev pub holds_after : List ℕ → (ℕ → List ℕ) → (List ℕ → ℕ → List ℕ) → List ℕ → ℕ → List ℕ
holds_after n list holds n' i = cond (same_label n' n) (list i) (holds n' i)

pub held_within : (d : Disk) (n : ℕ) → held_of d < n → held_by d n ≤ n
held_within InSync n h = omega arith
held_within Inactive n h = omega arith
held_within (Copying forced held) n h = omega arith

same_both : (b : Bool) (x : List ℕ) → cond b x x ≡ x
same_both true x = refl
same_both false x = refl

module _ (u : World) (key : List ℕ) (c : Command) (sound : Sound u) (can : CanAnswer u key c)
    (p : PlanOf u c) where
  abbrev m : Mirror
  m = p.mirror

  -- the image with the data brought
  abbrev mid : Image
  mid = with_filled p.fill p.told u.shelf

  abbrev image : Image
  image = shelf_after u.size m p.components (clears u.state c) mid

  -- the world after, with the key's answer
  abbrev pub next : World
  next = record {
    state = p.records;
    holds = holds_after m.name p.list u.holds;
    answered = answer u key c (reply_to c u.state) ∷ u.answered;
    shelf = image;
    size = u.size;
    there = u.there;
  }

  holds_here : (a : Mirror) → a.name ≡ m.name → (i : ℕ) → next.holds a.name i ≡ p.list i
  holds_here a e i = rw (same_from a.name m.name e) refl

  holds_there : (a : Mirror) → a.name ≢ m.name → (i : ℕ) → next.holds a.name i ≡ u.holds a.name i
  holds_there a n i = rw (differ a.name m.name n) refl

  -- nothing is laid over the data of other mirrors
  elsewhere : (n : List ℕ) → n ≢ m.name → (list : ℕ → List ℕ) (i : ℕ)
      → laid_over c n list i ≡ list i
  elsewhere n d list i = by p.fill p.can_fill p.bytes
    where
      by : (f : Fill) → CanFill u m p.components p.told p.gone f → bytes_in f ≡ bytes_of c
          → laid_over c n list i ≡ list i
      by Nothing can e = nothing_laid c (sym e) n list i
      by (Copied x) can e = nothing_laid c (sym e) n list i
      by (Laid first sectors) can e =
          laid_elsewhere c m.name n (p.named can.active.0 can.active.1) d list i

  -- the data of the mirrors that stay, with what is laid over them
  pub data_after : (a : Mirror) → Has u.state.mirrors a → (i : ℕ)
      → next.holds a.name i ≡ laid_over c a.name (u.holds a.name) i
  data_after a h i =
      elim (same_tells a.name m.name) [
        | inl y ↦ holds_here a y.1 i ∙ (p.same_data a h y.1).1 i
        | inr n ↦ holds_there a n.1 i ∙ sym (elsewhere a.name n.1 (u.holds a.name) i)
      ]

  -- without bytes they stay as they are
  pub data_stay : bytes_in p.fill ≡ [] → (a : Mirror) → Has u.state.mirrors a → (i : ℕ)
      → next.holds a.name i ≡ u.holds a.name i
  data_stay none a h i = data_after a h i
      ∙ nothing_laid c (sym p.bytes ∙ none) a.name (u.holds a.name) i

  pub brought : Brings u p.components p.records p.fill p.told mid (written p.fill p.gone p.told)
  brought = brings u m p.components p.list p.records p.gone p.told p.turns p.there p.told_are
      p.fill p.can_fill
      (λ none a h y i. sym (holds_here a y i) ∙ data_stay none a h i) p.below

  pub mine : (k : Component) → Has p.components k → IsOf p.records m k
  mine k h = record {
    mirror = here u.state m p.components p.records p.turns k h;
    component = subst (λ (l : List Component). Has l k) (sym p.turns.mine) h;
  }

  pub registered : (k : Component) → Has p.components k
      → Has p.records.components k × (k.mirror ≡ m.name)
  registered = in_s u.state m p.components p.records p.turns

  pub size_of : (k : Component) → Has p.components k → u.size k.provider ≡ Some k.sectors
  size_of k h = present_size u k.provider k.sectors (p.there k h)

  rules : (k : Component) → Has p.components k → IsMirror m p.components
  rules k h = rules_of u.state m p.components p.records p.turns k h

  found_at : (k : Component) → Has p.components k
      → find (λ (j : Component). same_label j.provider k.provider) p.components ≡ Some k
  found_at k h = find_one provider p.components
      (in_order u.state m p.components p.records p.turns) k h

  -- no component is on what is cleared
  pub is_gone : (q : List ℕ) → clears u.state c q ≡ true → Has p.gone q
  is_gone q e =
      let r = some_any (λ (x : List ℕ). same_label x q) p.gone (p.all_gone q ∙ e) in
      subst (λ (x : List ℕ). Has p.gone x) (same_is r.0 q r.2) r.1

  kept : (k : Component) → Has p.records.components k → clears u.state c k.provider ≡ false
  kept k h =
      elim (cases_Bool (clears u.state c k.provider)) [
        | inl e ↦ absurd ((p.cleared k.provider (is_gone k.provider e)).free k h refl)
        | inr e ↦ e
      ]

  -- what isn't a component's last sector, nor cleared, isn't written
  pub as_copied : (q : List ℕ) (j : ℕ)
      → find (λ (k : Component). same_label k.provider q) p.components ≡ None
      → clears u.state c q ≡ false → image q j ≡ u.shelf q j
  as_copied q j none off =
      let same : image q j ≡ mid q j = rw (none, off) (same_both (is_last (u.size q) j) (mid q j))
      in same ∙ brought.untouched q none j

  -- a component of another mirror: nothing of its provider changes
  other : (a : Mirror) (k : Component) → a.name ≢ m.name
      → Has (members p.records.components a.name) k
      → (j : ℕ) → image k.provider j ≡ u.shelf k.provider j
  other a k n h j =
      let r = Has-filter (λ (c : Component). same_label c.mirror a.name) p.records.components k h in
      as_copied k.provider j (find_none (λ (c : Component). same_label c.provider k.provider)
      p.components (λ c g. differ c.provider k.provider (λ e.
      let i = registered c g in
      let same : c ≡ k =
      one provider p.records.components p.turns.state.components_in_order c k i.0 r.0 e in
      n (sym (same_is k.mirror a.name r.1) ∙ sym (ap (λ (x : Component). x.mirror) same) ∙ i.1))))
      (kept k r.0)

  -- a component of the mirror: its last sector is new, the others are old
  pub last_new : (k : Component) → Has p.components k → (j : ℕ)
      → is_last (u.size k.provider) j ≡ true → image k.provider j ≡ encoded (metadata m k)
  last_new k h j last = rw (last, found_at k h) refl

  pub some_sectors : (k : Component) → Has p.components k → 0 < k.sectors
  some_sectors k h = let size : m.data_sectors + 1 ≤ k.sectors = (rules k h).sizes k h in
      omega arith

  last_sector : (k : Component) → Has p.components k
      → is_last (u.size k.provider) (k.sectors - 1) ≡ true
  last_sector k h = last_at (u.size k.provider) k.sectors (size_of k h) (some_sectors k h)

  data_held : (k : Component) → Has p.components k → (i : ℕ) → i < held_by k.disk m.data_sectors
      → image k.provider i ≡ p.list i
  data_held k h i l =
      let size : m.data_sectors + 1 ≤ k.sectors = (rules k h).sizes k h in
      let held : held_by k.disk m.data_sectors ≤ m.data_sectors =
      held_within k.disk m.data_sectors ((rules k h).held k h) in
      let last : is_last (u.size k.provider) i ≡ false =
      not_last (u.size k.provider) k.sectors i (size_of k h) (omega arith) in
      rw last (p.below k h i l)

  -- which mirror a component is of
  whose : {P : Type 0} (a : Mirror) (k : Component) → IsOf p.records a k
      → (a ≡ m → Has p.components k → P) → (a.name ≢ m.name → IsOf u.state a k → P) → P
  whose a k o mine theirs =
      ⊎_elim
      (λ (e : a ≡ m). mine e (subst (λ (l : List Component). Has l k) p.turns.mine
      (subst (λ (x : Mirror). Has (members p.records.components x.name) k) e o.component)))
      (λ (f : (a.name ≢ m.name) × Has u.state.mirrors a).
      theirs f.0 (record {
        mirror = f.1;
        component = subst (λ (l : List Component). Has l k) (p.turns.others a.name f.0)
            o.component;
      }))
      (p.turns.mirror a o.mirror)

  pub sound_next : Sound next
  sound_next = record {
    state = p.turns.state;
    answers = answers_after u key c (reply_to c u.state) p.reply sound.answers can;
    sizes = λ a k o. whose a k o (λ e h. size_of k h) (λ n i. sound.sizes a k i);
    full = λ a k o. whose a k o
        (λ e h. last_new k h (k.sectors - 1) (last_sector k h)
        ∙ ap (λ (x : Mirror). encoded (metadata x k)) (sym e))
        (λ n i. other a k n o.component (k.sectors - 1) ∙ sound.full a k i);
    whole = λ a k o i l. whose a k o
        (λ e h. let l' : i < held_by k.disk m.data_sectors = subst
        (λ (x : Mirror). i < held_by k.disk x.data_sectors) e l in
        data_held k h i l' ∙ sym (holds_here a (ap name e) i))
        (λ n i'. other a k n o.component i ∙ sound.whole a k i' i l ∙ sym (holds_there a n i));
  }

  -- ---- what is claimed is true

  -- a mirror that lost a component has the data of before
  lost_data : (a : Mirror) (k : Component) → IsOf u.state a k → a.name ≡ m.name
      → find (λ (j : Component). same_label j.provider k.provider) p.components ≡ None → (i : ℕ)
      → next.holds a.name i ≡ u.holds a.name i
  lost_data a k o y none i = by p.fill p.can_fill refl
    where
      by : (f : Fill) → CanFill u m p.components p.told p.gone f → bytes_in p.fill ≡ bytes_in f
          → next.holds a.name i ≡ u.holds a.name i
      by Nothing can e = data_stay e a o.mirror i
      by (Copied x) can e = data_stay e a o.mirror i
      by (Laid first sectors) can e = absurd (can.stays a k o y none)

  -- a component whose last sector is the one of u claims what it did
  as_before : (a : Mirror) (k : Component) (d : Metadata) → IsOf u.state a k → IsMetadata d
      → ((j : ℕ) → image k.provider j ≡ u.shelf k.provider j)
      → ((i : ℕ) → next.holds a.name i ≡ u.holds a.name i)
      → Bears (image k.provider (k.sectors - 1)) d → d.dflags.inactive ≡ false
      → Below image (data_at u next a.name d.syncid) k.provider (claimed a d)
  as_before a k d o ok there stays bears inactive i l =
      let same : d ≡ metadata a k =
      bears_one u.state a k sound.state o _ (sound.full a k o) d ok
      (subst (λ (x : List ℕ). Bears x d) (there (k.sectors - 1)) bears) in
      let n : claimed a d ≡ held_by k.disk a.data_sectors =
      ap (claimed a) same ∙ claims_of a a k (sym (ap (λ (x : Metadata). x.dflags.inactive) same)
      ∙ inactive) in
      there i ∙ sound.whole a k o i (subst (λ (n : ℕ). i < n) n l)
      ∙ sym (same_data u next a.name d.syncid i (stays i))

  -- one that isn't INACTIVE has the mirror's syncid, and so claims the data after
  claims_list : (a : Mirror) (j : Component) → a.name ≡ m.name → Has p.components j
      → (metadata m j).dflags.inactive ≡ false → (i : ℕ)
      → data_at u next a.name j.syncid i ≡ p.list i
  claims_list a j y h used i =
      let current : j.syncid ≡ m.syncid = (rules j h).current j h
      (λ off. let on : true ≡ false = sym (ap (λ d. (disk_flags d).inactive) off) ∙ used in
      let f : ⊥ = cc in f) in
      let found_m : mirror_of p.records a.name ≡ Some m =
      subst (λ (n : List ℕ). mirror_of p.records n ≡ Some m) (sym y)
      (find_one name p.records.mirrors p.turns.state.mirrors_in_order m (mine j h).mirror) in
      let has : has_syncid (mirror_of p.records a.name) j.syncid ≡ true =
      rw found_m (eq-eqb m.syncid j.syncid (sym current)) in
      rw has (holds_here a y i)

  -- one on the provider of a component of the mirror claims what that one has
  as_mine : (a : Mirror) (k j : Component) (d : Metadata) → IsOf u.state a k → a.name ≡ m.name
      → Has p.components j → j.provider ≡ k.provider → IsMetadata d
      → is_last (u.size k.provider) (k.sectors - 1) ≡ true
      → Bears (image k.provider (k.sectors - 1)) d → d.dflags.inactive ≡ false
      → Below image (data_at u next a.name d.syncid) k.provider (claimed a d)
  as_mine a k j d o y h at ok last bears inactive i l =
      let new : image k.provider (k.sectors - 1) ≡ encoded (metadata m j) =
      subst (λ (q : List ℕ). is_last (u.size q) (k.sectors - 1) ≡ true
      → image q (k.sectors - 1) ≡ encoded (metadata m j)) at (last_new j h (k.sectors - 1)) last in
      let same : d ≡ metadata m j =
      bears_one p.records m j p.turns.state (mine j h) _ new d ok bears in
      let used : (metadata m j).dflags.inactive ≡ false =
      sym (ap (λ (x : Metadata). x.dflags.inactive) same) ∙ inactive in
      let n : claimed a d ≡ held_by j.disk m.data_sectors =
      ap (claimed a) same ∙ claims_of a m j used
      ∙ ap (held_by j.disk) (p.same_data a o.mirror y).0 in
      subst (λ (q : List ℕ). image q i ≡ p.list i) at
      (data_held j h i (subst (λ (n : ℕ). i < n) n l))
      ∙ sym (ap (λ (x : Metadata). data_at u next a.name x.syncid i) same
      ∙ claims_list a j y h used i)

  pub claims_after : Claims u next image
  claims_after a k d o ok bears na same_mid inactive clean =
      elim (same_tells a.name m.name) [
        | inr n ↦ as_before a k d o ok (other a k n.1 (subst (λ (x : List Component). Has x k)
            (sym (p.turns.others a.name n.1)) o.component)) (holds_there a n.1) bears inactive
        | inl y ↦
            let fits : a.data_sectors + 1 ≤ k.sectors =
            (sound.state.each a o.mirror).sizes k o.component in
            let last : is_last (u.size k.provider) (k.sectors - 1) ≡ true =
            last_at (u.size k.provider) k.sectors (sound.sizes a k o) (omega arith) in
            elim (option_cases (find (λ (c : Component). same_label c.provider k.provider)
            p.components)) [
              | inr some ↦
                  let f = found (λ (c : Component). same_label c.provider k.provider)
                  p.components some.0 some.1 in
                  as_mine a k some.0 d o y.1 f.0 (same_is some.0.provider k.provider f.1) ok last
                  bears inactive
              | inl none ↦ elim (cases_Bool (clears u.state c k.provider)) [
                | inl g ↦ (let zero : image k.provider (k.sectors - 1) ≡ zeros =
                    rw (last, none, g) refl in absurd
                    (bears_not_zeros d (subst (λ (x : List ℕ). Bears x d) zero bears)))
                | inr g ↦ as_before a k d o ok (λ j. as_copied k.provider j none g)
                    (lost_data a k o y.1 none) bears inactive
              ]
            ]
      ]
