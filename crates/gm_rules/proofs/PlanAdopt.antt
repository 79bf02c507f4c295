-- The plan of adopt.
use Rattle.gm_rules.proofs.Common.{◌≡◌, ◌≢◌, ◌∙◌, ℕ, ◌≤◌, true, refl, sym, ap, subst, List, Some, None, list_any, or_parts, not-false, Member, Adopt, Mirror, Component, Has, held_by, component_of, World, present, none_any, not_both, Seen, tells_mid, source_in, data_of, adopted_mirror, adopted, metas, seen_of, taken_told}
use Rattle.std.proofs.lemmas.Bool.{eq-eqb}
use Rattle.gm_refusals.specs.declared.refusals.Refusal.TheVariants as refusals
use Rattle.gm_rules.proofs.AdoptedEqual.{agree_itself, agree_holds}
use Rattle.gm_rules.proofs.AdoptedState.{IsAdopted, is_adopted, in_order, provider_is, size_is, equal_held, adopted_rules}
use Rattle.gm_rules.proofs.EnrolledMirror.{enrolls_plan}
use Rattle.gm_rules.proofs.FoundMembers.{IsAdoptable, adoptable, member_found}
use Rattle.gm_rules.proofs.PlanOf.{Allowed, PlanOf}
use Rattle.gm_rules.proofs.RuledOut.{IsFree, is_free, no_namesake, one_more_mirror}

module _ (u : World) (n : List ℕ) (ps : List (List ℕ)) (may : Allowed u (Adopt n ps)) where
  abbrev x : Seen
  x = seen_of u

  free : (p : List ℕ) → Has ps p → IsFree u.state x p
  free = is_free u.state x (Adopt n ps) may.good refl refl refl refl

  adoption : (b : Member) × IsAdoptable x n ps b
  adoption = adoptable x n ps (not-false _ (may.good refusals.NotAdoptable refl))

  abbrev b : Member
  b = adoption.0

  abbrev can : IsAdoptable x n ps b
  can = adoption.1

  abbrev m : Mirror
  m = adopted_mirror n b.metadata

  abbrev ks : List Component
  ks = adopted x n ps b

  as_adopted : (k : Component) → Has ks k → IsAdopted x n ps b can k
  as_adopted k h = is_adopted x n ps b can k h

  -- no provider is larger than an image may be
  limit : (p : List ℕ) → Has ps p → (k : ℕ) → present u p ≡ Some k → k ≤ 1048576
  limit p h k e =
      let size : present u p ≡ Some (free p h).sectors = (free p h).size in
      let same : (free p h).sectors ≡ k = cc in
      subst (λ (z : ℕ). z ≤ 1048576) same (free p h).limit

  -- the source's own provider tells the mid
  new_mid : (a : Mirror) → Has u.state.mirrors a → a.mid ≢ b.metadata.mid
  new_mid a i e =
      let o = member_found x ps b can.one in
      let same : o.entry.metadata.mid ≡ a.mid =
      sym (ap (λ (k : Member). k.metadata.mid) o.is) ∙ sym e in
      let tells : tells_mid x a.mid o.at ≡ true =
      rw (taken_told x o.at o.entry o.taken_is) (eq-eqb o.entry.metadata.mid a.mid same) in
      not_both (tells_mid x a.mid o.at) tells
      (none_any (tells_mid x a.mid) ps
      (none_any (λ (z : Mirror). list_any (tells_mid x z.mid) ps) u.state.mirrors
      (may.good refusals.MidTaken refl) a i) o.at o.listed)

  source_is : source_in x ps ≡ Some b
  source_is = can.source

  one_source : (b' : Member) → source_in x ps ≡ Some b' → b ≡ b'
  one_source b' e = let f : source_in x ps ≡ Some b = source_is in cc

  pub adopt_plan : PlanOf u (Adopt n ps)
  adopt_plan = enrolls_plan u (Adopt n ps) m ks (u.shelf b.provider) may.sound (record {
    names = no_namesake u.state n (may.good refusals.NameTaken refl);
    mids = new_mid;
    room = one_more_mirror u.state may.sound.state (may.good refusals.TooManyMirrors refl);
    rules = adopted_rules x n ps b can may.fits.0 may.fits.1
        (agree_itself u.shelf b.provider (data_of b.metadata)) limit
        (or_parts _ _ (may.good refusals.DidTaken refl)).1;
    ordered = in_order x n ps b can;
    own = λ k h. ap (λ (j : Component). j.mirror) (as_adopted k h).is;
    fresh = λ k h. let a = as_adopted k h in
        subst (λ (p : List ℕ). component_of u.state p ≡ None) (sym (provider_is x n ps b can k a))
        (free a.at a.listed).none;
    there = λ k h. size_is x n ps b can k (as_adopted k h);
    below = λ k h i l. agree_holds u.shelf b.provider k.provider
        (held_by k.disk m.data_sectors) (equal_held x n ps b can k (as_adopted k h) i l) i l;
    after_is = rw source_is refl;
    intents = λ mine. ap metas (sym mine);
    named = refl;
    bytes = refl;
    reply = tt;
    new = λ w e b' is i l. e i ∙ ap (λ (z : Member). u.shelf z.provider i) (one_source b' is);
    bare = λ w e. tt;
    filled = λ q j. refl;
    all_gone = λ q. refl;
  })
