-- What the intents of a command name: the components that it takes in, and the images that it
-- clears.
use Rattle.gm_stop_law.proofs.Common.{◌≡◌, ◌⊎◌, inl, inr, ⊎_elim, ℕ, ◌+◌, true, refl, sym, ap, subst, List, [], ◌∷◌, length, map, flat_map, Option, Some, None, same_label, not_both, any_from, found as found_in, same_from, same_is, Has, Has-map, map-Has, filter-Has, put_there, put_all_or, Command, Records, World, Step, Reply, Intent, Meta, Clear, Copy, Dirty, Mirror, Component, component_of, mirror_of, members, named, new_name, provider, adopted, after, spare, filling, is_copy, active_of, clears, intents_of, metas, patching, on_found, seen_of, source_of, unwrap_or, Seen}
use Rattle.gm_commands.specs.declared.command.Command.TheVariants as commands
use Rattle.gm_commands.specs.declared.command.NewComponent.{NewComponent}
use Rattle.gm_taste.specs.declared.tasted.Member.{Member}
use Rattle.gm_refusals.specs.Adoptable.{adopted_component, found}
use Rattle.gm_refusals.specs.declared.refusals.Refusal.TheVariants as refusals
use Rattle.gm_refusals.proofs.NothingApplies.{there_from}
use Rattle.gm_stop_law.proofs.NewImage.{IsOld, IsTakenIn, old_or_taken_in}
use Rattle.gm_rules.proofs.GrownRecords.{is_good}

-- ---- the components that are taken in

-- the metadata of a component of the mirror are among those of its components
meta_of : (s : Records) (n : List ℕ) (k : Component) → Has s.components k → k.mirror ≡ n
    → Has (metas (members s.components n)) (Meta k.provider)
meta_of s n k h e = map-Has (λ (c : Component). Meta c.provider) (members s.components n) k
    (filter-Has (λ (c : Component). same_label c.mirror n) s.components k h
    (same_from k.mirror n e))

-- an adopted component is one of the mirror
adopted_mirror_is : (x : Seen) (n : List ℕ) (ps : List (List ℕ)) (b : Member) (k : Component)
    → Has (adopted x n ps b) k → k.mirror ≡ n
adopted_mirror_is x n ps b k h =
    ⊎_elim (λ (g : Has (map (adopted_component x n b) (found x ps)) k).
    let from = Has-map (adopted_component x n b) (found x ps) k g in
    ap (λ (c : Component). c.mirror) (sym from.2))
    (λ (g : Has [] k). absurd g)
    (put_all_or provider (map (adopted_component x n b) (found x ps)) [] k h)

-- the metadata of a spare are written
spare_named : (u w : World) (new : NewComponent) (m : Mirror) → mirror_of u.state new.name ≡ Some m
    → w.state ≡ after (seen_of u) (commands.Insert new) u.state
    → Has (metas (members w.state.components new.name)) (Meta new.provider)
spare_named u w new m at records =
    let made : Component = spare m new (unwrap_or ((seen_of u).size new.provider) 0) in
    let there : Has (after (seen_of u) (commands.Insert new) u.state).components made =
    rw at (put_there provider made u.state.components) in
    meta_of w.state new.name made
    (subst (λ (s : Records). Has s.components made) (sym records) there)
    (named u.state new.name m at).1

-- so are those of a component that is taken in
taken_in_named : (u w : World) (key : List ℕ) (c : Command) (r : Reply) → Step u key c w r
    → (k : Component) → Has w.state.components k → IsTakenIn (seen_of u) c k
    → Has (intents_of c u.state w.state) (Meta k.provider)
taken_in_named u w key (commands.Label new) r step k h taken = inl (ap Meta (sym taken))
taken_in_named u w key (commands.Adopt n ps) r step k h (b, source, is) =
    meta_of w.state n k h (adopted_mirror_is (seen_of u) n ps b k is)
taken_in_named u w key (commands.Insert new) r step k h taken =
    let m = there_from (mirror_of u.state new.name)
    (is_good u w key (commands.Insert new) r step refusals.NoMirror refl) in
    subst (λ (p : List ℕ). Has (metas (members w.state.components new.name)) (Meta p)) (sym taken)
    (spare_named u w new m.0 m.1 step.records)
taken_in_named u w key _ r step k h taken = absurd taken

-- a command writes the metadata of each component that is new
pub new_is_named : (u w : World) (key : List ℕ) (c : Command) (r : Reply) → Step u key c w r
    → (k : Component) → Has w.state.components k → component_of u.state k.provider ≡ None
    → Has (intents_of c u.state w.state) (Meta k.provider)
new_is_named u w key c r step k h fresh =
    ⊎_elim
    (λ (old : IsOld u.state k.provider).
    not_both (same_label old.component.provider k.provider)
    (same_from old.component.provider k.provider old.on)
    (new_name u.state k.provider fresh old.component old.there))
    (λ (taken : IsTakenIn (seen_of u) c k). taken_in_named u w key c r step k h taken)
    (old_or_taken_in u.state (seen_of u) c k
    (subst (λ (s : Records). Has s.components k) step.records h))

-- ---- what advance writes

-- what holds of each that is made by way of what is found holds of all
each_found : {X Y : Type 0} (o : Option X) (f : X → List Y) (P : Y → Type 0)
    → ((x : X) → o ≡ Some x → (y : Y) → Has (f x) y → P y) → (y : Y) → Has (on_found o [] f) y
    → P y
each_found None f P each y h = absurd h
each_found (Some x) f P each y h = each x refl y h

-- an intent that copies, or writes metadata
abbrev CopiesOrSays : Intent → Type 0
CopiesOrSays t = (is_copy t ≡ true) ⊎ ((q : List ℕ) × (t ≡ Meta q))

filling_is : (m : Mirror) (k : Component) (source : List ℕ) (t : Intent)
    → Has (filling m k source) t → CopiesOrSays t
filling_is m k source t (inl e) = inl (sym (ap is_copy e))
filling_is m k source t (inr (inl e)) = inr (k.provider, sym e)
filling_is m k source t (inr (inr h)) = absurd h

-- each intent of advance is one
pub advance_is : (n p : List ℕ) (s t : Records) (i : Intent)
    → Has (intents_of (commands.Advance n p) s t) i → CopiesOrSays i
advance_is n p s t =
    each_found (mirror_of s n) _ CopiesOrSays (λ m e. each_found (component_of s p) _ CopiesOrSays
    (λ k at. each_found (source_of s p) _ CopiesOrSays (λ source is. filling_is m k source)))

-- an intent that copies to p, if it copies
abbrev CopiesTo : List ℕ → Intent → Type 0
CopiesTo p i = (f t : List ℕ) (a b : ℕ) → i ≡ Copy f t a b → t ≡ p

filling_to : (m : Mirror) (k : Component) (source : List ℕ) (i : Intent)
    → Has (filling m k source) i → CopiesTo k.provider i
filling_to m k source i (inl e) f t a b is = cc
filling_to m k source i (inr (inl e)) f t a b is = absurd (let no : ⊥ = cc in no)
filling_to m k source i (inr (inr h)) f t a b is = absurd h

-- what advance copies goes to the component that it names
pub copies_to : (n p : List ℕ) (s s' : Records) (f t : List ℕ) (a b : ℕ)
    → Has (intents_of (commands.Advance n p) s s') (Copy f t a b) → t ≡ p
copies_to n p s s' f t a b h =
    each_found (mirror_of s n) _ (CopiesTo p) (λ m e.
    each_found (component_of s p) _ (CopiesTo p) (λ k at.
    each_found (source_of s p) _ (CopiesTo p) (λ source is.
    subst (λ (q : List ℕ). (i : Intent) → Has (filling m k source) i → CopiesTo q i)
    (same_is k.provider p (found_in (λ (c : Component). same_label c.provider p) s.components k
    at).1)
    (filling_to m k source)))) (Copy f t a b) h f t a b refl

-- it marks nothing, and clears nothing
pub never_marks : (n p : List ℕ) (s t : Records) (q : List ℕ)
    → Has (intents_of (commands.Advance n p) s t) (Dirty q) → ⊥
never_marks n p s t q h = elim (advance_is n p s t (Dirty q) h) [
  | inl e ↦ (let f : ⊥ = cc in f)
  | inr (a, e) ↦ (let f : ⊥ = cc in f)
]

pub never_clears : (n p : List ℕ) (s t : Records) (q : List ℕ)
    → Has (intents_of (commands.Advance n p) s t) (Clear q) → ⊥
never_clears n p s t q h = elim (advance_is n p s t (Clear q) h) [
  | inl e ↦ (let f : ⊥ = cc in f)
  | inr (a, e) ↦ (let f : ⊥ = cc in f)
]

-- ---- the images that are cleared

-- metadata are cleared by none of these
no_clear : (ks : List Component) (q : List ℕ) → Has (metas ks) (Clear q) → ⊥
no_clear ks q h =
    let from = Has-map (λ (k : Component). Meta k.provider) ks (Clear q) h in
    let e : Meta from.0.provider ≡ Clear q = from.2 in
    let f : ⊥ = cc in
    f

no_clear_of_patch : (first end : ℕ) (ks : List Component) (q : List ℕ)
    → Has (flat_map (patching first end) ks) (Clear q) → ⊥
no_clear_of_patch first end [] q h = absurd h
no_clear_of_patch first end (k ∷ ks) q (inl e) = let f : ⊥ = cc in f
no_clear_of_patch first end (k ∷ ks) q (inr (inl e)) = let f : ⊥ = cc in f
no_clear_of_patch first end (k ∷ ks) q (inr (inr (inl e))) = let f : ⊥ = cc in f
no_clear_of_patch first end (k ∷ ks) q (inr (inr (inr h))) = no_clear_of_patch first end ks q h

-- an intent that clears an image is of a command that does
pub cleared_by : (c : Command) (s t : Records) (q : List ℕ) → Has (intents_of c s t) (Clear q)
    → clears s c q ≡ true
cleared_by (commands.Label new) s t q (inl e) = let f : ⊥ = cc in absurd f
cleared_by (commands.Label new) s t q (inr h) = absurd h
cleared_by (commands.Insert new) s t q h = absurd (no_clear (members t.components new.name) q h)
cleared_by (commands.Remove n p) s t q (inl e) = let f : p ≡ q = cc in same_from p q f
cleared_by (commands.Remove n p) s t q (inr h) = absurd (no_clear (members t.components n) q h)
cleared_by (commands.Deactivate n p) s t q h = absurd (no_clear (members t.components n) q h)
cleared_by (commands.Activate n p) s t q (inl e) = let f : ⊥ = cc in absurd f
cleared_by (commands.Activate n p) s t q (inr h) = absurd h
cleared_by (commands.Forget n) s t q h = absurd (no_clear (members t.components n) q h)
cleared_by (commands.Rebuild n p) s t q (inl e) = let f : ⊥ = cc in absurd f
cleared_by (commands.Rebuild n p) s t q (inr h) = absurd h
cleared_by (commands.Configure n settings) s t q h = absurd (no_clear (members t.components n) q h)
cleared_by (commands.Clear p) s t q (inl e) = let f : p ≡ q = cc in same_from p q f
cleared_by (commands.Clear p) s t q (inr h) = absurd h
cleared_by (commands.Destroy n) s t q h =
    let from = Has-map (λ (k : Component). Clear k.provider) (members s.components n) (Clear q) h in
    let is : Clear from.0.provider ≡ Clear q = from.2 in
    let at : from.0.provider ≡ q = cc in
    any_from (λ (k : Component). same_label k.provider q) (members s.components n) from.0 from.1
    (same_from from.0.provider q at)
cleared_by (commands.Lost n ps) s t q h = absurd (no_clear (members t.components n) q h)
cleared_by (commands.Adopt n ps) s t q h = absurd (no_clear (members t.components n) q h)
cleared_by (commands.Patch n first sectors) s t q h =
    absurd (no_clear_of_patch first (first + length sectors) (active_of (members t.components n)) q
    h)
cleared_by (commands.Advance n p) s t q h =
    absurd (never_clears n p s t q h)
