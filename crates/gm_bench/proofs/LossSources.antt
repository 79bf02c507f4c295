-- The next source of a copy whose source is lost lends to its target.
use Rattle.gm_bench.proofs.Common.{◌≡◌, ◌≢◌, ◌∙◌, inl, inr, ℕ, ◌≤◌, ◌&&◌, true, not, refl, sym, ap, subst, arith, List, [], ◌∷◌, length, filter, Some, None, list_any, option_map, and_parts, same_label, Intent, Meta, Clear, Copy, Dirty, Patch, InSync, Inactive, Copying, Mirror, Component, component_of, IsCopyWithin, AreReadable, is_copy, Records, members, name, provider, lends_to, goes_first, source_among, source_of, Has, World, Sound, not_both, option_cases, found, find_one, same_from, member, one, filter-Has, HasNext, next_of}
use Rattle.gm_state.specs.declared.records.Disk.{Disk}
use Rattle.gm_state.specs.Disks.{is_active}
use Rattle.gm_bench.proofs.LossReadable.{IsLoss, home}

in_sync : (d : Disk) → is_active d ≡ true → d ≡ InSync
in_sync InSync e = refl
in_sync Inactive e = cc
in_sync (Copying forced held) e = cc

-- what a source is
source_is : (s : Records) (t : Component) (next : List ℕ) → component_of s t.provider ≡ Some t
    → source_of s t.provider ≡ Some next
    → (k : Component) × Has (members s.components t.mirror) k × (lends_to t k ≡ true)
    × (k.provider ≡ next)
source_is s t next at is =
    let by : option_map provider (source_among t (members s.components t.mirror)) ≡ Some next =
    rw at at is in
    elim (option_cases (source_among t (members s.components t.mirror))) [
      | inl none ↦ (let f : option_map provider None ≡ Some next = rw none at by in cc)
      | inr k ↦
          let f = found (λ (x : Component). lends_to t x && not
          (list_any (λ j. lends_to t j && goes_first j x) (members s.components t.mirror)))
          (members s.components t.mirror) k.0 k.1 in
          let g : option_map provider (Some k.0) ≡ Some next = rw k.1 at by in
          (k.0, f.0, (and_parts (lends_to t k.0) _ f.1).0, (let e : k.0.provider ≡ next = cc in e))
    ]

module _ (w v : World) (m : Mirror) (p next : List ℕ) (loss : IsLoss w v m p) (sound : Sound w)
    (ts : List Intent) (bytes : List (List ℕ)) (readable : AreReadable w.state bytes ts) where
  pub has_next : ((t : List ℕ) (a b : ℕ) → Has ts (Copy p t a b) → source_of v.state t ≡ Some next)
      → HasNext v.state p next ts
  has_next sources t a b h other =
      let c : IsCopyWithin w.state p t a b = readable.each (Copy p t a b) h in
      let was = member w.state c.mirror.name c.to c.to_is.component in
      let stays : Has v.state.components c.to =
      loss.stay c.to was.0 (λ e. other (sym c.target_is ∙ e)) in
      let at : component_of v.state c.to.provider ≡ Some c.to =
      find_one provider v.state.components loss.sound.state.components_in_order c.to stays in
      let source : source_of v.state c.to.provider ≡ Some next =
      subst (λ (q : List ℕ). source_of v.state q ≡ Some next) (sym c.target_is)
      (sources t a b h) in
      let k = source_is v.state c.to next at source in
      let of = home v.state loss.sound.state c.to stays in
      let place = member v.state c.to.mirror k.0 k.1 in
      let mine = (member v.state of.0.name c.to of.1.component).1 in
      let parts = and_parts (same_label k.0.mirror c.to.mirror)
      (is_active k.0.disk && not (same_label k.0.provider c.to.provider)) k.2 in
      let rest = and_parts (is_active k.0.disk) (not (same_label k.0.provider c.to.provider))
      parts.1 in
      let apart : k.0.provider ≢ c.to.provider =
      λ e. not_both (not (same_label k.0.provider c.to.provider)) rest.1
      (ap not (same_from k.0.provider c.to.provider e)) in
      let name_is : of.0.name ≡ c.mirror.name = sym mine ∙ was.1 in
      let as_many : of.0.data_sectors ≡ c.mirror.data_sectors =
      elim (loss.mirrors of.0 of.1.mirror) [
        | inl bumped ↦
            let one_is : m ≡ c.mirror =
            one name w.state.mirrors sound.state.mirrors_in_order m c.mirror loss.here
            c.to_is.mirror (sym (ap (λ (x : Mirror). x.name) bumped) ∙ name_is) in
            ap (λ (x : Mirror). x.data_sectors) bumped ∙ ap (λ (x : Mirror). x.data_sectors) one_is
        | inr old ↦ ap (λ (x : Mirror). x.data_sectors)
            (one name w.state.mirrors sound.state.mirrors_in_order of.0 c.mirror old.1
            c.to_is.mirror name_is)
      ] in
      let within = c.within in
      record {
        mirror = of.0;
        to = c.to;
        from = k.0;
        to_is = of.1;
        from_is = record {
          mirror = of.1.mirror;
          component = filter-Has (λ (x : Component). same_label x.mirror of.0.name)
              v.state.components k.0 place.0 (same_from k.0.mirror of.0.name (place.1 ∙ mine));
        };
        target_is = c.target_is;
        source_is = k.3;
        other = λ e. apart (k.3 ∙ (e ∙ sym c.target_is));
        active = in_sync k.0.disk rest.0;
        ordered = c.ordered;
        within = (omega (arith, within, as_many));
      }

some_copy : (p t : List ℕ) (a b : ℕ) (ts : List Intent) → Has ts (Copy p t a b)
    → 1 ≤ length (filter is_copy ts)
some_copy p t a b [] h = absurd h
some_copy p t a b (Meta q ∷ ts) (inl e) = cc
some_copy p t a b (Clear q ∷ ts) (inl e) = cc
some_copy p t a b (Dirty q ∷ ts) (inl e) = cc
some_copy p t a b (Patch q c d ∷ ts) (inl e) = cc
some_copy p t a b (Copy x y c d ∷ ts) h = omega arith
some_copy p t a b (Meta q ∷ ts) (inr h) = some_copy p t a b ts h
some_copy p t a b (Clear q ∷ ts) (inr h) = some_copy p t a b ts h
some_copy p t a b (Dirty q ∷ ts) (inr h) = some_copy p t a b ts h
some_copy p t a b (Patch q c d ∷ ts) (inr h) = some_copy p t a b ts h

-- of at most one copy, what is told of the one from p
pub next_told : (s : Records) (p next : List ℕ) (ts : List Intent)
    → length (filter is_copy ts) ≤ 1 → next_of s p ts ≡ Some next
    → (t : List ℕ) (a b : ℕ) → Has ts (Copy p t a b) → source_of s t ≡ Some next
next_told s p next [] few is t a b h = absurd h
next_told s p next (Meta q ∷ ts) few is t a b (inl e) = cc
next_told s p next (Meta q ∷ ts) few is t a b (inr h) = next_told s p next ts few is t a b h
next_told s p next (Clear q ∷ ts) few is t a b (inl e) = cc
next_told s p next (Clear q ∷ ts) few is t a b (inr h) = next_told s p next ts few is t a b h
next_told s p next (Dirty q ∷ ts) few is t a b (inl e) = cc
next_told s p next (Dirty q ∷ ts) few is t a b (inr h) = next_told s p next ts few is t a b h
next_told s p next (Patch q x y ∷ ts) few is t a b (inl e) = cc
next_told s p next (Patch q x y ∷ ts) few is t a b (inr h) = next_told s p next ts few is t a b h
next_told s p next (Copy x y c d ∷ ts) few is t a b (inl e) =
    let from : x ≡ p = cc in
    let to : y ≡ t = cc in
    let told : source_of s y ≡ Some next = rw (same_from x p from) at is in
    subst (λ (q : List ℕ). source_of s q ≡ Some next) to told
next_told s p next (Copy x y c d ∷ ts) few is t a b (inr h) =
    let one : 1 ≤ length (filter is_copy ts) = some_copy p t a b ts h in
    absurd (omega (arith, few, one))
