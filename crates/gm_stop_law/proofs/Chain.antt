-- A command, maybe of a series, and losses that were accepted while its writes were pending: what
-- they keep of it.
use Rattle.gm_stop_law.proofs.Common.{◌≡◌, ◌≢◌, ◌∙◌, ◌⊎◌, inl, inr, ⊎_elim, ℕ, zero, suc, ◌+◌, ◌≤◌, true, false, not, refl, sym, ap, subst, arith, List, [], ◌∷◌, ◌++◌, append_assoc, append-nil, None, same_label, cases_Bool, Has, Has-append, Has-map, Has-filter, find_none, found_none, put_or, put_stays, put_there, named, one, same_from, same_tells, differ, not_both, Command, Records, World, Sound, component_of, members, name, Intent, Meta, Clear, Copy, Dirty, Patch, Component, Mirror, copied_to, to_end, intents_of, metas, IsOfLoss, PendingSince, of_genid, redirected, remaining}
use Rattle.gm_stop_law.proofs.OneLoss.{components_are, intents_are, lost_mirror, mirrors_are}
use Rattle.gm_bench.proofs.LossRemaining.{has_remaining, remaining_has}
use Rattle.gm_stop_law.proofs.Thinning.{remaining-append}

-- the command that the chain begins with
abbrev pub first_of : (n : ℕ) (u w : World) (ts : List Intent) → PendingSince n true u w ts
    → Command
first_of zero u w ts p = p.command
first_of (suc n) u w ts p = first_of n u p.0 p.1 p.2

-- the world that it stepped to
abbrev pub stepped_of : (n : ℕ) (u w : World) (ts : List Intent) → PendingSince n true u w ts
    → World
stepped_of zero u w ts p = p.stepped
stepped_of (suc n) u w ts p = stepped_of n u p.0 p.1 p.2

-- what the losses left of its intents
abbrev pub kept_of : (n : ℕ) (u w : World) (ts : List Intent) → PendingSince n true u w ts
    → List Intent
kept_of zero u w ts p = ts
kept_of (suc n) u w ts p = remaining p.3.provider p.3.next (kept_of n u p.0 p.1 p.2)

-- ---- what is pending

-- each of them writes metadata
abbrev pub AreMetas : List Intent → Type 0
AreMetas ts = (t : Intent) → Has ts t → (q : List ℕ) × (t ≡ Meta q)

-- the kept intents come first, and metadata alone after them
pub record ComeFirst (kept ts : List Intent) : Type 0 where
  pub rest : List Intent
  pub is : ts ≡ kept ++ rest
  pub metas : AreMetas rest

-- what stays of metadata, and more of them after that, are metadata
pub more_metas : (p next : List ℕ) (ts : List Intent) (ks : List Component) → AreMetas ts
    → AreMetas (remaining p next ts ++ metas ks)
more_metas p next ts ks are t h =
    ⊎_elim
    (λ (g : Has (remaining p next ts) t).
    let was = has_remaining p next ts t g in
    let meta = are was.0 was.1 in
    let same : t ≡ Meta meta.0 = sym was.3 ∙ ap (redirected p next) meta.1 in
    (meta.0, same))
    (λ (g : Has (metas ks) t).
    let k = Has-map (λ (k : Component). Meta k.provider) ks t g in
    let same : t ≡ Meta k.0.provider = sym k.2 in
    (k.0.provider, same))
    (Has-append (remaining p next ts) (metas ks) t h)

-- they do in a chain
pub kept_first : (n : ℕ) (u w : World) (ts : List Intent) (p : PendingSince n true u w ts)
    → ComeFirst (kept_of n u w ts p) ts
kept_first zero u w ts p = record { rest = []; is = sym (append-nil ts); metas = λ t h. absurd h }
kept_first (suc n) u w ts p =
    let before = p.1 in
    let l = p.3 in
    let kept = kept_of n u p.0 before p.2 in
    let was = kept_first n u p.0 before p.2 in
    let own : List Intent = metas (members w.state.components l.name) in
    record {
      rest = remaining l.provider l.next was.rest ++ own;
      is = intents_are p.0 w before ts l
          ∙ (ap (λ (x : List Intent). remaining l.provider l.next x ++ own) was.is
          ∙ (ap (λ (x : List Intent). x ++ own)
          (remaining-append l.provider l.next kept was.rest)
          ∙ append_assoc (remaining l.provider l.next kept) (remaining l.provider l.next was.rest)
          own));
      metas = more_metas l.provider l.next was.rest (members w.state.components l.name) was.metas;
    }

-- each pending intent is a kept one, or writes metadata
pub kept_or_meta : (n : ℕ) (u w : World) (ts : List Intent) (p : PendingSince n true u w ts)
    → Sound w → (t : Intent) → Has ts t
    → Has (kept_of n u w ts p) t ⊎ ((q : List ℕ) × (t ≡ Meta q))
kept_or_meta n u w ts p sound t h =
    let kept = kept_of n u w ts p in
    let first = kept_first n u w ts p in
    ⊎_elim (λ (g : Has kept t). inl g) (λ (g : Has first.rest t). inr (first.metas t g))
    (Has-append kept first.rest t (subst (λ (x : List Intent). Has x t) first.is h))

-- ---- where what is kept is from

-- a stretch is copied from the same sector on to the same provider, maybe from another and further
pub record IsOtherCopy (r t : Intent) : Type 0 where
  pub from : List ℕ
  pub to : List ℕ
  pub target : List ℕ
  pub first : ℕ
  pub until : ℕ
  pub end : ℕ
  pub was : r ≡ Copy from target first until
  pub is : t ≡ Copy to target first end

-- it is the same intent, but for the source and the end of a copy
abbrev pub IsAs : Intent → Intent → Type 0
IsAs r t = (t ≡ r) ⊎ IsOtherCopy r t

-- a loss changes no more of an intent
redirected_as : (p next : List ℕ) (t : Intent) → IsAs t (redirected p next t)
redirected_as p next (Meta q) = inl refl
redirected_as p next (Clear q) = inl refl
redirected_as p next (Dirty q) = inl refl
redirected_as p next (Patch q a b) = inl refl
redirected_as p next (Copy f q a b) =
    elim (cases_Bool (same_label f p)) [
      | inl e ↦ rw e (inr (record {
        from = f;
        to = next;
        target = q;
        first = a;
        until = b;
        end = b;
        was = refl;
        is = refl;
      }))
      | inr e ↦ rw e (inl refl)
    ]

-- so is what came of it by one more loss
as_further : (p next : List ℕ) (r s t : Intent) → IsAs r s → redirected p next s ≡ t → IsAs r t
as_further p next r s t was e =
    let further : IsAs s t = subst (λ (x : Intent). IsAs s x) e (redirected_as p next s) in
    ⊎_elim
    (λ (same : s ≡ r). subst (λ (x : Intent). IsAs x t) same further)
    (λ (other : IsOtherCopy r s). ⊎_elim
    (λ (same : t ≡ s). inr (record {
      from = other.from;
      to = other.to;
      target = other.target;
      first = other.first;
      until = other.until;
      end = other.end;
      was = other.was;
      is = same ∙ other.is;
    }))
    (λ (more : IsOtherCopy s t).
    let one_copy : Copy other.to other.target other.first other.end
    ≡ Copy more.from more.target more.first more.until = sym other.is ∙ more.was in
    let target : more.target ≡ other.target = cc in
    let first : more.first ≡ other.first = cc in
    inr (record {
      from = other.from;
      to = more.to;
      target = other.target;
      first = other.first;
      until = other.until;
      end = more.end;
      was = other.was;
      is = more.is ∙ rw (target, first) refl;
    })) further)
    was

-- a series changes no more of it than how far it copies
further_as : (end : ℕ) (t : Intent) → IsAs t (to_end end t)
further_as end (Meta q) = inl refl
further_as end (Clear q) = inl refl
further_as end (Dirty q) = inl refl
further_as end (Patch q a b) = inl refl
further_as end (Copy f q a b) = inr (record {
  from = f;
  to = f;
  target = q;
  first = a;
  until = b;
  end = end;
  was = refl;
  is = refl;
})

-- each that a series has is one of its command, but for how far it copies
copied_from : (end : ℕ) (ts : List Intent) (t : Intent) → Has (copied_to end ts) t
    → (r : Intent) × Has ts r × IsAs r t
copied_from end [] t h = absurd h
copied_from end (x ∷ ts) t (inl e) =
    (x, inl refl, subst (λ (y : Intent). IsAs x y) e (further_as end x))
copied_from end (x ∷ ts) t (inr h) = (t, inr h, inl refl)

-- and it has those that write metadata
copied_meta : (end : ℕ) (ts : List Intent) (q : List ℕ) → Has ts (Meta q)
    → Has (copied_to end ts) (Meta q)
copied_meta end [] q h = absurd h
copied_meta end (x ∷ ts) q (inl e) = inl (ap (to_end end) e)
copied_meta end (x ∷ ts) q (inr h) = inr h

-- what is kept is an intent of the command, but for the source and the end of a copy
pub kept_from : (n : ℕ) (u w : World) (ts : List Intent) (p : PendingSince n true u w ts)
    → Sound w → (t : Intent) → Has (kept_of n u w ts p) t
    → (r : Intent)
    × Has (intents_of (first_of n u w ts p) u.state (stepped_of n u w ts p).state) r × IsAs r t
kept_from zero u w ts p sound t h =
    copied_from p.intents.0 (intents_of p.command u.state p.stepped.state) t
    (subst (λ (x : List Intent). Has x t) p.intents.1 h)
kept_from (suc n) u w ts p sound t h =
    let l = p.3 in
    let was = has_remaining l.provider l.next (kept_of n u p.0 p.1 p.2) t h in
    let r = kept_from n u p.0 p.1 p.2 l.sound was.0 was.1 in
    (r.0, r.1, as_further l.provider l.next r.0 was.0 t r.2 was.3)

-- ---- what no loss takes

module _ (v w : World) (before ts : List Intent) (l : IsOfLoss v w before ts) where
  -- a component after the loss was one before it, on another provider
  component_was : (k : Component) → Has w.state.components k
      → Has v.state.components k × (not (same_label k.provider l.provider) ≡ true)
  component_was k h =
      Has-filter (λ (c : Component). not (same_label c.provider l.provider)) v.state.components k
      (subst (λ (x : List Component). Has x k) (components_are v w before ts l) h)

  -- so is a provider that is still a component's
  was_some : (q : List ℕ) → component_of w.state q ≢ None → component_of v.state q ≢ None
  was_some q some none = some (find_none (λ (k : Component). same_label k.provider q)
      w.state.components
      (λ k h. found_none (λ (c : Component). same_label c.provider q) v.state.components none k
      (component_was k h).0))

  -- it isn't the one that was lost
  not_lost : (q : List ℕ) → component_of w.state q ≢ None → same_label q l.provider ≡ false
  not_lost q some = differ q l.provider (λ same. some
      (find_none (λ (k : Component). same_label k.provider q) w.state.components
      (λ k h. differ k.provider q (λ e. not_both (not (same_label k.provider l.provider))
      (component_was k h).1 (ap not (same_from k.provider l.provider (e ∙ same)))))))

  -- the mirror that lost it, after the loss
  abbrev bumped : Mirror
  bumped = let m = (lost_mirror v w before ts l).0 in of_genid (m.genid + 1) m

  -- and before it
  here : Has v.state.mirrors (lost_mirror v w before ts l).0
  here = let lost = lost_mirror v w before ts l in (named v.state l.name lost.0 lost.1).0

  -- a mirror stays, but for a genid that may rise
  mirror_goes_on : (m : Mirror) → Has v.state.mirrors m
      → (b : Mirror) × Has w.state.mirrors b × (b ≡ of_genid b.genid m) × (m.genid ≤ b.genid)
  mirror_goes_on m h =
      let lost = (lost_mirror v w before ts l).0 in
      let are = sym (mirrors_are v w before ts l) in
      elim (same_tells m.name lost.name) [
        | inl same ↦
            let is : m ≡ lost =
            one name v.state.mirrors l.sound.state.mirrors_in_order m lost h here same.1 in
            let genid : m.genid ≡ lost.genid = ap (λ (x : Mirror). x.genid) is in (
              bumped,
              subst (λ (x : List Mirror). Has x bumped) are (put_there name bumped v.state.mirrors),
              ap (of_genid (lost.genid + 1)) (sym is),
              omega (arith, genid),
            )
        | inr apart ↦ (
          m,
          subst (λ (x : List Mirror). Has x m) are
              (put_stays name bumped v.state.mirrors m h apart.1),
          refl,
          omega arith,
        )
      ]

  -- and each was one, whose genid rose by one at most
  mirror_was : (b : Mirror) → Has w.state.mirrors b
      → (m : Mirror) × Has v.state.mirrors m × (m.name ≡ b.name) × (b.genid ≤ m.genid + 1)
  mirror_was b h =
      let lost = (lost_mirror v w before ts l).0 in
      ⊎_elim
      (λ (is : bumped ≡ b).
      let genid : lost.genid + 1 ≡ b.genid = ap (λ (x : Mirror). x.genid) is in
      (lost, here, ap (λ (x : Mirror). x.name) is, omega (arith, genid)))
      (λ (g : Has v.state.mirrors b). (b, g, refl, omega arith))
      (put_or name bumped v.state.mirrors b
      (subst (λ (x : List Mirror). Has x b) (mirrors_are v w before ts l) h))

-- no loss takes out the metadata of a component that is left
pub kept_meta : (n : ℕ) (u w : World) (ts : List Intent) (p : PendingSince n true u w ts)
    → Sound w → (q : List ℕ)
    → Has (intents_of (first_of n u w ts p) u.state (stepped_of n u w ts p).state) (Meta q)
    → component_of w.state q ≢ None → Has (kept_of n u w ts p) (Meta q)
kept_meta zero u w ts p sound q h some =
    subst (λ (x : List Intent). Has x (Meta q)) (sym p.intents.1)
    (copied_meta p.intents.0 (intents_of p.command u.state p.stepped.state) q h)
kept_meta (suc n) u w ts p sound q h some =
    let l = p.3 in
    remaining_has l.provider l.next (kept_of n u p.0 p.1 p.2) (Meta q)
    (kept_meta n u p.0 p.1 p.2 l.sound q h (was_some p.0 w p.1 ts l q some))
    (not_lost p.0 w p.1 ts l q some)

-- the components that are left were there
pub components_stay : (n : ℕ) (u w : World) (ts : List Intent) (p : PendingSince n true u w ts)
    → Sound w → (k : Component) → Has w.state.components k
    → Has (stepped_of n u w ts p).state.components k
components_stay zero u w ts p sound k h =
    subst (λ (x : List Component). Has x k) (ap (λ (s : Records). s.components) p.state) h
components_stay (suc n) u w ts p sound k h =
    components_stay n u p.0 p.1 p.2 p.3.sound k (component_was p.0 w p.1 ts p.3 k h).0

-- the mirrors that were there stay, but for a genid that may rise
pub mirrors_stay : (n : ℕ) (u w : World) (ts : List Intent) (p : PendingSince n true u w ts)
    → Sound w → (m : Mirror) → Has (stepped_of n u w ts p).state.mirrors m
    → (b : Mirror) × Has w.state.mirrors b × (b.name ≡ m.name) × (b ≡ of_genid b.genid m)
    × (m.genid ≤ b.genid)
mirrors_stay zero u w ts p sound m h = (
  m,
  subst (λ (x : List Mirror). Has x m) (ap (λ (s : Records). s.mirrors) (sym p.state)) h,
  refl,
  refl,
  omega arith,
)
mirrors_stay (suc n) u w ts p sound m h =
    let a = mirrors_stay n u p.0 p.1 p.2 p.3.sound m h in
    let b = mirror_goes_on p.0 w p.1 ts p.3 a.0 a.1 in
    let is : b.0 ≡ of_genid b.0.genid m = b.2 ∙ ap (of_genid b.0.genid) a.3 in
    let at_least : m.genid ≤ a.0.genid = a.4 in
    let more : a.0.genid ≤ b.0.genid = b.3 in
    (b.0, b.1, ap (λ (x : Mirror). x.name) is, is, omega (arith, at_least, more))

-- each loss raises the genid of one mirror by one
pub genid_counted : (n : ℕ) (u w : World) (ts : List Intent) (p : PendingSince n true u w ts)
    → Sound w → (a b : Mirror) → Has (stepped_of n u w ts p).state.mirrors a
    → Has w.state.mirrors b → a.name ≡ b.name → b.genid ≤ a.genid + n
genid_counted zero u w ts p sound a b ha hb e =
    let are = ap (λ (x : Records). x.mirrors) (sym p.state) in
    let there = subst (λ (x : List Mirror). Has x a) are ha in
    let is = one name w.state.mirrors sound.state.mirrors_in_order a b there hb e in
    let genid : a.genid ≡ b.genid = ap (λ (x : Mirror). x.genid) is in
    omega (arith, genid)
genid_counted (suc n) u w ts p sound a b ha hb e =
    let m = mirror_was p.0 w p.1 ts p.3 b hb in
    let counted : m.0.genid ≤ a.genid + n =
    genid_counted n u p.0 p.1 p.2 p.3.sound a m.0 ha m.1 (e ∙ sym m.2) in
    let rose : b.genid ≤ m.0.genid + 1 = m.3 in
    omega (arith, counted, rose)
