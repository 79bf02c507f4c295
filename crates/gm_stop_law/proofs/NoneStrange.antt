-- No image that a pending intent needs is strange, whatever a stop left of it.
use Rattle.gm_stop_law.proofs.Common.{◌≡◌, ◌≢◌, ◌∙◌, inl, inr, ℕ, ◌<◌, ◌≤◌, ◌-◌, ◌==◌, Bool, true, false, refl, sym, subst, arith, List, Some, None, cases_Bool, if◌then◌else◌, is_some, or_left, or_right, eqb-true, bytes_eq, same_label, same_from, same_is, not_both, filter-Has, found, find_one, option_cases, Has, Image, Sizes, zeros, encoded, metadata, dirty_metadata, Records, World, present, present_size, member, mirror_of, component_of, provider, Intent, Meta, Clear, Copy, Dirty, Patch, Mirror, Component, IsOf, Tables, PendingSince, of_genid, ComesOf, IsBetween, SaysSince, KeepsClaims, Leads, whole, place_from, stopped_by, Stopped, Provider}
use Rattle.gm_shelf.specs.LastSector.{last_sector}
use Rattle.gm_state.specs.Lookups.{at_component}
use Rattle.gm_stopped.specs.declared.stopped.Role.{Role}
use Rattle.gm_stopped.specs.declared.stopped.Role.TheVariants.{Written, Source, Target}
use Rattle.gm_stopped.specs.declared.strange.Need.{Need}
use Rattle.gm_stopped.specs.Leavings.{may_be_cleared, may_be_component, filled_to, may_be_left, may_be_target, may_be_written, is_of_component, or_stranger, says, says_but_losses}
use Rattle.gm_stopped.specs.Strange.{Needs, first_need, has_right_size, second_need}
use Rattle.gm_refusals.proofs.NothingApplies.{not_at}
use Rattle.gm_bench.proofs.ComesOf.{component_between}
use Rattle.gm_bench.proofs.ShelfProviders.{whole_there}
use Rattle.gm_stop_law.specs.NeverStrange.{NoneIsStrange, commands_of}
use Rattle.gm_stop_law.proofs.Later.{settled_metas}
use Rattle.gm_stop_law.proofs.LeftImage.{IsSeen, is_there, last_is, old_cleared, old_source, old_target, old_written, only_one, said_since}
use Rattle.gm_stop_law.proofs.SaidMetadata.{since_says, since_says_dirty}

-- what is said of a component of a state holds of what is found on its provider
of_component : (s : Records) (q : List ℕ) (f : Mirror → Component → Bool)
    → ((m : Mirror) (x : Component) → IsOf s m x → x.provider ≡ q → f m x ≡ true)
    → or_stranger (at_component s q f) ≡ true
of_component s q f holds = elim (option_cases (component_of s q)) [
  | inl none ↦ rw none refl
  | inr (x, at) ↦
      let c = found (λ (k : Component). same_label k.provider q) s.components x at in
      elim (option_cases (mirror_of s x.mirror)) [
        | inl none ↦ rw (at, none) refl
        | inr (m, is) ↦
            let g = found (λ (a : Mirror). same_label a.name x.mirror) s.mirrors m is in
            let of : IsOf s m x = record {
              mirror = g.0;
              component = filter-Has (λ (k : Component). same_label k.mirror m.name) s.components x
                  c.0 (same_from x.mirror m.name (sym (same_is m.name x.mirror g.1)));
            } in
            rw (at, is) (holds m x of (same_is x.provider q c.1))
      ]
]

-- it has the size that is registered
right_size : (s : Records) (q : List ℕ) (n : ℕ) (m : Mirror) (x : Component)
    → has_right_size (component_of s q) n ≡ true → component_of s q ≡ Some x → n ≡ x.sectors
right_size s q n m x right at =
    let same : (x.sectors == n) ≡ true = rw at at right in
    sym (eqb-true x.sectors n same)

module _ (t : Tables) (ts : List Intent) (bytes : List (List ℕ)) (u w : World) (y : Image)
    (l : Leads t ts bytes y w) (k : KeepsClaims ts y u w) where
  abbrev c : ComesOf ts y u w
  c = k.comes

  abbrev stopped : Stopped
  stopped = stopped_by w.state ts (commands_of w)

  abbrev Seen : List ℕ → Provider → Type 0
  Seen q i = IsSeen t ts bytes u w y l k q i

  -- the last sector of a component
  between : (m : Mirror) (x : Component) → IsOf w.state m x → (i : Provider)
      → Seen x.provider i → IsBetween c.begun u w ts x.provider (i.sectors - 1) i.last
  between m x of i seen = subst (λ (s : List ℕ). IsBetween c.begun u w ts x.provider (i.sectors - 1)
      s) (sym seen.last) (component_between ts bytes u w y t l c m x of x.provider refl
      (i.sectors - 1) (last_is t ts bytes u w y l k x.provider i seen))

  -- ---- an image that is written to

  since_written : (m : Mirror) (x : Component) → IsOf w.state m x → (i : Provider)
      → i.name ≡ x.provider → i.sectors ≡ x.sectors → SaysSince u w ts x.provider i.last
      → says (is_of_component m x) i ≡ true
  since_written m x of i named many since =
      let one_is = only_one w l.sound m since.mirror x since.component of since.is (sym since.on) in
      let low = subst (λ (a : Mirror). since.genid ≤ a.genid) (sym one_is.1) since.at_most in
      let here : (said : Mirror → Component → List ℕ) → i.last ≡ said since.mirror since.component
      → i.last ≡ said m x =
      λ said e. subst (λ (z : Component). i.last ≡ said m z) (sym one_is.0)
      (subst (λ (z : Mirror). i.last ≡ said z since.component) (sym one_is.1) e) in
      elim since.says [
        | inl e ↦ since_says w.state m x since.genid l.sound.state of low i named many
            (here (λ a z. encoded (metadata (of_genid since.genid a) z)) e)
        | inr (mark, e) ↦ since_says_dirty w.state m x since.genid l.sound.state of low i named many
            (here (λ a z. encoded (dirty_metadata (of_genid since.genid a) z)) e)
      ]

  written : (m : Mirror) (x : Component) → IsOf w.state m x → (i : Provider)
      → Seen x.provider i → i.sectors ≡ x.sectors → may_be_written stopped.command m x i ≡ true
  written m x of i seen many = elim (between m x of i seen) [
    | inl (begun, old) ↦ old_written t ts bytes u w y l k c.losses
        (subst (λ (b : Bool). PendingSince c.losses b u w ts) begun c.pending) m x of i seen many
        old
    | inr (inl (wiped, none)) ↦
        absurd (is_there w.state x (member w.state m.name x of.component).0 none)
    | inr (inr since) ↦ or_left _ _ (since_written m x of i seen.named many since)
  ]

  -- ---- one that is wiped

  cleared : (q : List ℕ) → Has ts (Clear q) → (i : Provider) → Seen q i
      → may_be_cleared w.state stopped.command i ≡ true
  cleared q h i seen =
      let j : ℕ = i.sectors - 1 in
      let last = last_is t ts bytes u w y l k q i seen in
      let none : component_of w.state q ≡ None = (l.readable.each (Clear q) h).1 in
      let place = place_from w.size ts (Clear q) q j h (rw (same_from q q refl, last) refl) in
      let at : IsBetween c.begun u w ts q j i.last =
      subst (λ (s : List ℕ). IsBetween c.begun u w ts q j s) (sym seen.last)
      (c.lasts q j last place) in
      elim at [
        | inl (begun, old) ↦ or_right _ _ (old_cleared t ts bytes u w y l k c.losses
            (subst (λ (b : Bool). PendingSince c.losses b u w ts) begun c.pending) q h i seen old)
        | inr (inl (wiped, same)) ↦
            or_left _ _ (subst (λ (s : List ℕ). bytes_eq s zeros ≡ true) (sym wiped) refl)
        | inr (inr since) ↦ absurd (is_there w.state since.component
            (member w.state since.mirror.name since.component since.is.component).0
            (subst (λ (a : List ℕ). component_of w.state a ≡ None) (sym since.on) none))
      ]

  -- ---- those of a copy

  module _ (f to : List ℕ) (a b : ℕ) (h : Has ts (Copy f to a b)) where
    -- the command that copies is pending
    pending : PendingSince c.losses true u w ts
    pending = elim (cases_Bool c.begun) [
      | inl begun ↦ subst (λ (b : Bool). PendingSince c.losses b u w ts) begun c.pending
      | inr none ↦
          let meta = settled_metas c.losses u w ts
          (subst (λ (b : Bool). PendingSince c.losses b u w ts) none c.pending) (Copy f to a b) h in
          let e = meta.1 in
          absurd (let no : ⊥ = cc in no)
    ]

    since : (m : Mirror) (x : Component) → IsOf w.state m x → (i : Provider)
        → SaysSince u w ts x.provider i.last
        → says_but_losses (metadata m x) stopped.losses i.last ≡ true
    since m x of i says = said_since t ts bytes u w y l k c.losses pending f to a b h m x of i says

    source : (m : Mirror) (x : Component) → IsOf w.state m x → x.provider ≡ f → (i : Provider)
        → Seen x.provider i → i.sectors ≡ x.sectors
        → says_but_losses (metadata m x) stopped.losses i.last ≡ true
    source m x of at i seen many = elim (between m x of i seen) [
      | inl (begun, old) ↦ old_source t ts bytes u w y l k c.losses pending f to a b h m x of
          (λ e. (l.readable.each (Copy f to a b) h).other (sym at ∙ e)) i many old
      | inr (inl (wiped, none)) ↦
          absurd (is_there w.state x (member w.state m.name x of.component).0 none)
      | inr (inr said) ↦ since m x of i said
    ]

    target : (m : Mirror) (x : Component) → IsOf w.state m x → x.provider ≡ to → (i : Provider)
        → Seen x.provider i → i.sectors ≡ x.sectors
        → may_be_target stopped.losses m x a i.last ≡ true
    target m x of at i seen many = elim (between m x of i seen) [
      | inl (begun, old) ↦ by_force _
          (old_target t ts bytes u w y l k c.losses pending f to a b h m x of at i many old)
      | inr (inl (wiped, none)) ↦
          absurd (is_there w.state x (member w.state m.name x of.component).0 none)
      | inr (inr said) ↦ or_left _ _ (or_left _ _ (since m x of i said))
    ]
      where
        by_force : (forced : Bool)
            → says_but_losses (filled_to m x forced a) stopped.losses i.last ≡ true
            → may_be_target stopped.losses m x a i.last ≡ true
        by_force false e = or_left _ _ (or_right _ _ e)
        by_force true e = or_right _ _ e

  -- ---- each that an intent needs

  -- what holds of components in their size holds of what is found
  component : (role : Role) (q : List ℕ) (i : Provider) → Seen q i
      → has_right_size (component_of w.state q) i.sectors ≡ true
      → ((m : Mirror) (x : Component) → IsOf w.state m x → x.provider ≡ q → Seen x.provider i
      → i.sectors ≡ x.sectors → may_be_component stopped role i m x ≡ true)
      → or_stranger (at_component w.state i.name (may_be_component stopped role i)) ≡ true
  component role q i seen right holds =
      subst (λ (a : List ℕ). or_stranger (at_component w.state a (may_be_component stopped role i))
      ≡ true) (sym seen.named)
      (of_component w.state q (may_be_component stopped role i) (λ m x of at.
      holds m x of at (subst (λ (a : List ℕ). Seen a i) (sym at) seen)
      (right_size w.state q i.sectors m x right
      (subst (λ (a : List ℕ). component_of w.state a ≡ Some x) at
      (find_one provider w.state.components l.sound.state.components_in_order x
      (member w.state m.name x of.component).0)))))

  abbrev MayBe : Need → Type 0
  MayBe need = (i : Provider) → Seen need.image i
      → has_right_size (component_of w.state need.image) i.sectors ≡ true
      → may_be_left w.state stopped need.role i ≡ true

  may_be_written_to : (q : List ℕ) → MayBe (record { image = q; role = Written })
  may_be_written_to q i seen right = component Written q i seen right
      (λ m x of at is many. written m x of i is many)

  first_may : (r : Intent) → Has ts r → MayBe (first_need r)
  first_may (Meta q) h = may_be_written_to q
  first_may (Dirty q) h = may_be_written_to q
  first_may (Patch q a b) h = may_be_written_to q
  first_may (Clear q) h = λ i seen right. cleared q h i seen
  first_may (Copy f to a b) h = λ i seen right. component Source f i seen right
      (λ m x of at is many. source f to a b h m x of at i is many)

  second_may : (r : Intent) → Has ts r → (need : Need) → second_need r ≡ Some need → MayBe need
  second_may (Meta q) h need e = absurd (let no : ⊥ = cc in no)
  second_may (Dirty q) h need e = absurd (let no : ⊥ = cc in no)
  second_may (Patch q a b) h need e = absurd (let no : ⊥ = cc in no)
  second_may (Clear q) h need e = absurd (let no : ⊥ = cc in no)
  second_may (Copy f to a b) h need e =
      let is : record { image = to; role = Target a } ≡ need = cc in
      subst MayBe is (λ i seen right. component (Target a) to i seen right
      (λ m x of at here many. target f to a b h m x of at i here many))

  pub may_be : (r : Intent) → Has ts r → (need : Need) → Needs r need → MayBe need
  may_be r h need (inl e) = subst MayBe e (first_may r h)
  may_be r h need (inr e) = second_may r h need e

-- a last sector that is read is one of the image
last_told : (size : Sizes) (x : Image) (p : List ℕ) (n : ℕ) (last : List ℕ) → size p ≡ Some n
    → last_sector size x p ≡ Some last → (0 < n) × (x p (n - 1) ≡ last)
last_told size x p n last there told =
    let e : (if n == 0 then None else Some (x p (n - 1))) ≡ Some last = rw there at told in
    elim (cases_Bool (n == 0)) [
      | inl none ↦
          let f : None ≡ Some last = rw none at e in
          absurd (let no : ⊥ = cc in no)
      | inr some ↦
          let f : Some (x p (n - 1)) ≡ Some last = rw some at e in
          let other : n ≢ 0 = not_at n 0 some in
          (omega (arith, other), cc)
    ]

-- none of them is strange to the look, by the images of the shelf alone
pub none_strange : (t : Tables) (ts : List Intent) (bytes : List (List ℕ)) (u w : World)
    (size : Sizes) (away x : Image) → present w ≡ size → Leads t ts bytes (whole size away x) w
    → KeepsClaims ts (whole size away x) u w
    → NoneIsStrange w.state (stopped_by w.state ts (commands_of w)) size x ts
none_strange t ts bytes u w size away x is l k r h need needs strange =
    let n : ℕ = strange.sectors in
    let q : List ℕ = need.image in
    let told = last_told size x q n strange.last strange.there strange.last_is in
    let there : is_some (size q) ≡ true = rw strange.there refl in
    let i : Provider = record { name = q; sectors = n; last = strange.last } in
    let seen : IsSeen t ts bytes u w (whole size away x) l k q i = record {
      named = refl;
      sectors = present_size w q n (subst (λ (z : Sizes). z q ≡ Some n) (sym is) strange.there);
      some = told.0;
      last = sym told.1 ∙ sym (whole_there size away x q there (n - 1));
    } in
    not_both (may_be_left w.state (stopped_by w.state ts (commands_of w)) need.role i)
    (may_be t ts bytes u w (whole size away x) l k r h need needs i seen strange.right)
    strange.strange
