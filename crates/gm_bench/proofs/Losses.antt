-- What is pending after a loss leads, from the very image, to the world of the loss, and keeps the
-- claims of the world before the first command.
use Rattle.gm_bench.proofs.Common.{◌≡◌, ◌≢◌, ◌∙◌, inl, inr, ⊎_elim, ℕ, ◌+◌, ◌-◌, ◌*◌, ◌/◌, ◌<◌, ◌≤◌, ◌^◌, ◌==◌, ◌&&◌, Bool, true, false, IsTrue, refl, sym, ap, subst, arith, List, [], find, Option, Some, None, if◌then◌else◌, list_any, IsPermutation, IsSome, IsSomeAnd, IfSome, slice_get, cases_Bool, Image, Sizes, same_label, zeros, is_label, encoded, IsMetadata, Bears, Metadata, Intent, Meta, Clear, Copy, Dirty, Patch, InSync, Inactive, Copying, Mirror, Component, Has, Records, IsState, IsMirror, members, held_by, held_of, name, provider, Tables, HoldRecords, intent_rows, patch_rows, component_of, mirror_of, metadata, IsOf, AreThere, IsAtHand, is_last, copies, names, is_place, IsMeta, Says, AllSay, Agrees, is_patch, IsCopyWithin, IsPatchWithin, IsReadable, AreReadable, World, Sound, Below, Claims, CopiesData, claimed, has_syncid, data_at, bears_one, any_from, not_both, option_cases, found, found_none, find_none, find_one, Has-append_left, Has-append_right, same_from, same_is, same_tells, differ, no_dirt_left, Has-append, last_named, placed_by, copies_from, place_from, member, one, filter-Has, metas, Leads, KeepsClaims, ClaimsOf, EachNewClaims, writes_to, redirected, remaining, left_to_lay, pending_after, as_left, HasNext}
use Rattle.gm_metadata.specs.declared.version.Version.TheVariants.{Four}
use Rattle.gm_metadata.proofs.Laid.{named, encoded_is_full}
use Rattle.gm_state.specs.declared.records.Disk.{Disk}
use Rattle.gm_state.proofs.ReadableIntents.{lent as lends_on}
use Rattle.gm_bench.proofs.LossComesOf.{loss_comes}
use Rattle.gm_bench.proofs.LossLists.{last_is, last_at, range_of}
use Rattle.gm_bench.proofs.LossReadable.{IsLoss, apart_from, home, left_or_none, stays_home, are_readable}
use Rattle.gm_bench.proofs.LossRemaining.{has_remaining, same_names, place_stays, copied_before, has_meta, meta_has, any_copies_metas, remaining_has}
use Rattle.gm_bench.proofs.ShelfProviders.{have_sizes}

provider_fits : (h : Bool) (p : List ℕ) → IsTrue (is_label p)
    → IfSome (if h then Some p else None) (λ n. IsTrue (is_label n))
provider_fits true p e = e
provider_fits false p e = tt

metadata_fits : (s : Records) (m : Mirror) (k : Component) → IsState s → IsOf s m k
    → IsMetadata (metadata m k)
metadata_fits s m k state of =
    let r : IsMirror m (members s.components m.name) = state.each m of.mirror in
    let kf = r.members_fit k of.component in
    let all : m.all ≤ 16 = r.all in
    let size : m.data_sectors + 1 ≤ k.sectors = r.sizes k of.component in
    let limit : k.sectors ≤ 1048576 = r.limits k of.component in
    let held : held_of k.disk < m.data_sectors = r.held k of.component in
    let old : k.syncid ≤ m.syncid = r.syncids k of.component in
    let new : m.syncid < 2 ^ 32 = r.fits.syncid in
    record {
      name_ok = r.fits.name;
      mid_ok = r.fits.mid;
      did_ok = kf.did;
      all_ok = omega arith;
      genid_ok = r.fits.genid;
      syncid_ok = omega arith;
      priority_ok = kf.priority;
      slice_ok = r.fits.slice;
      mediasize_ok = omega arith;
      sync_offset_ok = omega arith;
      provider_ok = provider_fits k.hardcoded k.provider kf.provider;
      provsize_ok = omega arith;
    }

own : (m : Mirror) (k : Component) → IsMetadata (metadata m k)
    → Bears (encoded (metadata m k)) (metadata m k)
own m k fits = (Four, (encoded_is_full (metadata m k) (named (metadata m k) fits)).bears)

-- a claim speaks of its provider alone
claims_there : (m : Mirror) (k : Component) (list : ℕ → ℕ → List ℕ) (x y : Image)
    → ((j : ℕ) → y k.provider j ≡ x k.provider j) → ClaimsOf m k list x → ClaimsOf m k list y
claims_there m k list x y same claims d ok bears named mid active clean i low =
    let was : Bears (x k.provider (k.sectors - 1)) d =
    subst (λ (s : List ℕ). Bears s d) (same (k.sectors - 1)) bears in
    same i ∙ claims d ok was named mid active clean i low

module _ (u w v : World) (m : Mirror) (p next : List ℕ) (loss : IsLoss w v m p) (ts : List Intent)
    (bytes : List (List ℕ)) (y away : Image) (left : (j : ℕ) → y p j ≡ away p j) (before : Tables)
    (l : Leads before ts bytes y w)
    (has_next : HasNext v.state p next ts) where
  abbrev others : List Component
  others = members v.state.components m.name

  abbrev after : List Intent
  after = pending_after p next ts others

  -- what is still to be laid
  abbrev left_laid : List (List ℕ)
  left_laid = left_to_lay after bytes

  abbrev world : World
  world = as_left v p away

  -- p is no component any more
  gone : (k : Component) → Has v.state.components k → k.provider ≢ p
  gone k h = (loss.components k h).1

  off_p : (q : List ℕ) → q ≢ p → (j : ℕ) → world.shelf q j ≡ v.shelf q j
  off_p q d j = rw (differ q p d) refl

  on_p : (j : ℕ) → world.shelf p j ≡ away p j
  on_p j = rw (same_from p p refl) refl

  sound : Sound world
  sound = record {
    state = loss.sound.state;
    answers = loss.sound.answers;
    sizes = loss.sound.sizes;
    full = λ n k o. off_p k.provider (gone k (member v.state n.name k o.component).0)
        (k.sectors - 1) ∙ loss.sound.full n k o;
    whole = λ n k o i low. off_p k.provider (gone k (member v.state n.name k o.component).0) i
        ∙ loss.sound.whole n k o i low;
  }

  -- a sector that isn't the last one of a component of v stays
  data_stays : (n : Mirror) (k : Component) → IsOf v.state n k → (j : ℕ) → j < n.data_sectors
      → v.shelf k.provider j ≡ w.shelf k.provider j
  data_stays n k o j low = loss.shelf k.provider j (λ c h same at.
      let c_in = (member v.state m.name c h).0 in
      let one_is : c ≡ k =
      one provider v.state.components loss.sound.state.components_in_order c k c_in
      (member v.state n.name k o.component).0 same in
      let room = (loss.sound.state.each n o.mirror).sizes k o.component in
      let size : c.sectors ≡ k.sectors = ap (λ (x : Component). x.sectors) one_is in
      omega (arith, room, low, at, size))

  -- nor is a data sector of a component of w on another provider
  data_still : (n : Mirror) (k : Component) → IsOf w.state n k → k.provider ≢ p → (j : ℕ)
      → j < n.data_sectors → v.shelf k.provider j ≡ w.shelf k.provider j
  data_still n k o other j low =
      let at = stays_home w v m p loss l.sound n k o other in
      let same = at.3 in
      data_stays at.0 k at.1 j (omega (arith, low, same))

  -- what a copy among the intents says in w
  module _ (f t : List ℕ) (a b : ℕ) (h : Has ts (Copy f t a b)) (other : t ≢ p) where
    abbrev c : IsCopyWithin w.state f t a b
    c = l.readable.each (Copy f t a b) h

    to_in : Has v.state.components c.to
    to_in = loss.stay c.to (member w.state c.mirror.name c.to c.to_is.component).0
        (λ e. other (sym c.target_is ∙ e))

    module _ (j : ℕ) (low : a ≤ j) (high : j < b) where
      in_data : j < c.mirror.data_sectors
      in_data = let within = c.within in omega (arith, within, high)

      -- the target's sector stays from w to v
      target_stays : v.shelf t j ≡ w.shelf t j
      target_stays = subst (λ (q : List ℕ). v.shelf q j ≡ w.shelf q j) c.target_is
          (data_still c.mirror c.to c.to_is (λ e. other (sym c.target_is ∙ e)) j in_data)

      -- and is the mirror's data
      target_data : (n : names w.size (Copy f t a b) t j ≡ true)
          → w.shelf t j ≡ w.holds c.mirror.name j
      target_data n =
          let says : w.shelf t j ≡ w.shelf f j = l.redo.says (Copy f t a b) h t j n in
          let low_by : j < held_by c.from.disk c.mirror.data_sectors =
          subst (λ (d : Disk). j < held_by d c.mirror.data_sectors) (sym c.active) in_data in
          says ∙ subst (λ (q : List ℕ). w.shelf q j ≡ w.holds c.mirror.name j) c.source_is
          (l.sound.whole c.mirror c.from c.from_is j low_by)

      -- a copy of v's records from a component that lends to the target says the same
      lent : (s : List ℕ) → IsCopyWithin v.state s t a b → names w.size (Copy f t a b) t j ≡ true
          → world.shelf t j ≡ world.shelf s j
      lent s d n =
          let from_in = member v.state d.mirror.name d.from d.from_is.component in
          let to_d = member v.state d.mirror.name d.to d.to_is.component in
          let apart : s ≢ p = λ e. gone d.from from_in.0 (d.source_is ∙ e) in
          let one_is : d.to ≡ c.to =
          one provider v.state.components loss.sound.state.components_in_order d.to c.to to_d.0
          to_in (d.target_is ∙ sym c.target_is) in
          let name : d.mirror.name ≡ c.mirror.name =
          sym to_d.1 ∙ (ap (λ (x : Component). x.mirror) one_is
          ∙ (member w.state c.mirror.name c.to c.to_is.component).1) in
          let within = d.within in
          let low_by : j < held_by d.from.disk d.mirror.data_sectors =
          subst (λ (x : Disk). j < held_by x d.mirror.data_sectors) (sym d.active)
          (omega (arith, within, high)) in
          let source : v.shelf s j ≡ v.holds d.mirror.name j =
          subst (λ (q : List ℕ). v.shelf q j ≡ v.holds d.mirror.name j) d.source_is
          (loss.sound.whole d.mirror d.from d.from_is j low_by) in
          let lists : v.holds d.mirror.name j ≡ w.holds c.mirror.name j =
          ap (λ (x : List ℕ). v.holds x j) name ∙ loss.holds c.mirror c.to_is.mirror j in
          off_p t other j
          ∙ (target_stays
          ∙ (target_data n ∙ (sym lists ∙ (sym source ∙ sym (off_p s apart j)))))

  readable : AreReadable v.state left_laid after
  readable = are_readable w v m p next loss l.sound ts bytes l.readable has_next

  same_size : (q : List ℕ) → v.size q ≡ w.size q
  same_size q = λ i. loss.sizes i q

  -- the last sector of a component of the mirror
  last_says : (k : Component) → Has v.state.components k → (j : ℕ)
      → is_last (v.size k.provider) j ≡ true → (n : Mirror) × IsOf v.state n k
      × (world.shelf k.provider j ≡ encoded (metadata n k))
  last_says k h j last =
      let at = home v.state loss.sound.state k h in
      let is : j ≡ k.sectors - 1 =
      last_is (v.size k.provider) k.sectors j (loss.sound.sizes at.0 k at.1) last in
      (at.0, at.1, ap (λ (i : ℕ). world.shelf k.provider i) is ∙ sound.full at.0 k at.1)

  -- a last sector that said metadata says those of after
  meta_says : (a : List ℕ) → same_label a p ≡ false → (q : List ℕ) (j : ℕ)
      → (same_label a q && is_last (v.size q) j) ≡ true → IsMeta w.state a (w.shelf q j)
      → IsMeta v.state a (world.shelf q j)
  meta_says a e q j n was =
      let at = last_named v.size a q j n in
      let k : Component = was.1 in
      let k_in = loss.stay k (member w.state was.0.name k was.2.component).0
      (λ s. apart_from a p e (sym was.3 ∙ s)) in
      let there : k.provider ≡ q = was.3 ∙ at.0 in
      let says = last_says k k_in j (subst (λ (x : List ℕ). is_last (v.size x) j ≡ true)
      (sym there) at.1) in (
        says.0,
        k,
        says.1,
        was.3,
        subst (λ (x : List ℕ). world.shelf x j ≡ encoded (metadata says.0 k)) there says.2,
      )

  stays_say : (r : Intent) → Has ts r → writes_to p r ≡ false → (q : List ℕ) (j : ℕ)
      → names v.size (redirected p next r) q j ≡ true
      → Says v.state left_laid world.shelf (redirected p next r) j (world.shelf q j)
  stays_say (Meta a) h e q j n =
      meta_says a e q j n (l.redo.says (Meta a) h q j
      (subst (λ (o : Option ℕ). (same_label a q && is_last o j) ≡ true) (same_size q) n))
  stays_say (Dirty a) h e q j n =
      meta_says a e q j n (l.redo.says (Dirty a) h q j
      (subst (λ (o : Option ℕ). (same_label a q && is_last o j) ≡ true) (same_size q) n))
  stays_say (Patch a x z) h e q j n =
      let c : IsPatchWithin w.state a x z = l.readable.each (Patch a x z) h in
      let other : a ≢ p = apart_from a p e in
      let range = range_of a x z q j n in
      let within = c.within in
      let high = range.2 in
      let stays : v.shelf q j ≡ w.shelf q j =
      subst (λ (i : List ℕ). v.shelf i j ≡ w.shelf i j) (c.provider_is ∙ range.0)
      (data_still c.mirror c.on c.on_is (λ s. other (sym c.provider_is ∙ s)) j
      (omega (arith, within, high))) in
      let again : Has after (Patch a x z) =
      Has-append_left (remaining p next ts) (metas others) (Patch a x z)
      (remaining_has p next ts (Patch a x z) h e) in
      let all : left_laid ≡ bytes = elim (left_or_none after bytes) [
        | inl some ↦ some.1
        | inr none ↦ not_both (list_any is_patch after)
            (any_from is_patch after (Patch a x z) again refl) none.0
      ] in
      ap (λ (b : List (List ℕ)). slice_get b (j - x)) all
      ∙ (l.redo.says (Patch a x z) h q j n
      ∙ ap Some (sym (off_p q (λ s. other (range.0 ∙ s)) j ∙ stays)))
  stays_say (Clear a) h e q j n =
      let at = last_named v.size a q j n in
      let clear : IsReadable w.state (Clear a) = l.readable.each (Clear a) h in
      let none : component_of w.state a ≡ None = clear.1 in
      let was : w.shelf q j ≡ zeros =
      l.redo.says (Clear a) h q j
      (subst (λ (o : Option ℕ). (same_label a q && is_last o j) ≡ true) (same_size q) n) in
      let apart : q ≢ p = λ s. apart_from a p e (at.0 ∙ s) in
      let stays : v.shelf q j ≡ w.shelf q j =
      loss.shelf q j (λ k g same _. not_both (same_label k.provider a)
      (same_from k.provider a (same ∙ sym at.0))
      (found_none (λ (c : Component). same_label c.provider a) w.state.components none k
      (loss.components k (member v.state m.name k g).0).0)) in
      off_p q apart j ∙ (stays ∙ was)
  stays_say (Copy f t a b) h e q j n =
      let other : t ≢ p = apart_from t p e in
      let named : copies (Copy f t a b) q j ≡ true =
      sym (same_names p next v.size (Copy f t a b) q j) ∙ n in
      let range = range_of t a b q j named in
      let at_t : copies (Copy f t a b) t j ≡ true =
      subst (λ (x : List ℕ). copies (Copy f t a b) x j ≡ true) (sym range.0) named in
      let again : Has after (redirected p next (Copy f t a b)) =
      Has-append_left (remaining p next ts) (metas others) (redirected p next (Copy f t a b))
      (remaining_has p next ts (Copy f t a b) h e) in
      let is = readable.each (redirected p next (Copy f t a b)) again in
      elim (cases_Bool (same_label f p)) [
        | inl s ↦
            let d : IsCopyWithin v.state next t a b = rw s at is in
            rw s (subst (λ (x : List ℕ). world.shelf x j ≡ world.shelf next j) range.0
            (lent f t a b h other j range.1 range.2 next d at_t))
        | inr s ↦
            let d : IsCopyWithin v.state f t a b = rw s at is in
            rw s (subst (λ (x : List ℕ). world.shelf x j ≡ world.shelf f j) range.0
            (lent f t a b h other j range.1 range.2 f d at_t))
      ]

  all_say : AllSay v.state left_laid v.size after world.shelf
  all_say t h q j n =
      ⊎_elim
      (λ (g : Has (remaining p next ts) t).
      let was = has_remaining p next ts t g in
      subst (λ (x : Intent). Says v.state left_laid world.shelf x j (world.shelf q j)) was.3
      (stays_say was.0 was.1 was.2 q j (subst (λ (x : Intent). names v.size x q j ≡ true)
      (sym was.3) n)))
      (λ (g : Has (metas others) t).
      let k = has_meta p next others t g in
      let named : names v.size (Meta k.0.provider) q j ≡ true =
      subst (λ (x : Intent). names v.size x q j ≡ true) (sym k.2) n in
      let at = last_named v.size k.0.provider q j named in
      let says = last_says k.0 (member v.state m.name k.0 k.1).0 j
      (subst (λ (x : List ℕ). is_last (v.size x) j ≡ true) (sym at.0) at.1) in
      subst (λ (x : Intent). Says v.state left_laid world.shelf x j (world.shelf q j)) k.2 (
        says.0,
        k.0,
        says.1,
        refl,
        subst (λ (x : List ℕ). world.shelf x j ≡ encoded (metadata says.0 k.0)) at.0
            says.2,
      ))
      (Has-append (remaining p next ts) (metas others) t h)

  place_before : (q : List ℕ) (j : ℕ) → q ≢ p → is_place v.size after q j ≡ false
      → is_place w.size ts q j ≡ false
  place_before q j d off =
      elim (cases_Bool (is_place w.size ts q j)) [
        | inr f ↦ f
        | inl e ↦
            let again : is_place v.size ts q j ≡ true =
            subst (λ (z : Sizes). is_place z ts q j ≡ true) (sym loss.sizes) e in
            let by = placed_by v.size (remaining p next ts) q j
            (place_stays p next v.size ts q j d again) in
            not_both (is_place v.size after q j)
            (place_from v.size after by.0 q j (Has-append_left (remaining p next ts)
            (metas others) by.0 by.1) by.2) off
      ]

  agrees : Agrees v.size after y world.shelf
  agrees q there j off =
      elim (cases_Bool (same_label q p)) [
        | inl s ↦ subst (λ (x : List ℕ). y x j ≡ world.shelf x j) (sym (same_is q p s))
            (left j ∙ sym (on_p j))
        | inr s ↦
            let d : q ≢ p = apart_from q p s in
            let there' : IsSome (w.size q) =
            subst (λ (o : Option ℕ). IsSome o) (same_size q) there in
            let was : y q j ≡ w.shelf q j = l.redo.agrees q there' j (place_before q j d off) in
            let stays : v.shelf q j ≡ w.shelf q j = loss.shelf q j (λ k g same at.
            let of = home v.state loss.sound.state k (member v.state m.name k g).0 in
            let room = (loss.sound.state.each of.0 of.1.mirror).sizes k of.1.component in
            let last : is_last (v.size k.provider) j ≡ true =
            last_at (v.size k.provider) k.sectors j (loss.sound.sizes of.0 k of.1)
            (omega (arith, room)) at in
            let named : names v.size (Meta k.provider) k.provider j ≡ true =
            rw (same_from k.provider k.provider refl, last) refl in
            let place : is_place v.size after k.provider j ≡ true =
            place_from v.size after (Meta k.provider) k.provider j
            (Has-append_right (remaining p next ts) (metas others) (Meta k.provider)
            (meta_has p next others k g)) named in
            not_both (is_place v.size after q j)
            (subst (λ (x : List ℕ). is_place v.size after x j ≡ true) same place) off) in
            was ∙ (sym stays ∙ sym (off_p q d j))
      ]

  -- ---- what is pending leads to the world of the loss

  there_all : AreThere v.state after v.size
  there_all = have_sizes v after loss.sound

  hand_one : (r : Intent) → Has ts r → writes_to p r ≡ false
      → IsReadable v.state (redirected p next r) → IsAtHand v.size (redirected p next r)
  hand_one (Meta a) h e is =
      subst (λ (o : Option ℕ). IsSomeAnd o (λ n. 0 < n)) (sym (same_size a)) (l.at_hand (Meta a) h)
  hand_one (Clear a) h e is =
      subst (λ (o : Option ℕ). IsSomeAnd o (λ n. 0 < n)) (sym (same_size a)) (l.at_hand (Clear a) h)
  hand_one (Dirty a) h e is =
      subst (λ (o : Option ℕ). IsSomeAnd o (λ n. 0 < n)) (sym (same_size a)) (l.at_hand (Dirty a) h)
  hand_one (Patch a x y) h e is =
      subst (λ (o : Option ℕ). IsSomeAnd o (λ n. y ≤ n)) (sym (same_size a))
      (l.at_hand (Patch a x y) h)
  hand_one (Copy f t a b) h e is =
      let was = l.at_hand (Copy f t a b) h in
      let to : IsSomeAnd (v.size t) (λ n. b ≤ n) =
      subst (λ (o : Option ℕ). IsSomeAnd o (λ n. b ≤ n)) (sym (same_size t)) was.1 in
      elim (cases_Bool (same_label f p)) [
        | inl s ↦
            let d : IsCopyWithin v.state next t a b = rw s at is in
            let size : v.size next ≡ Some d.from.sectors =
            subst (λ (q : List ℕ). v.size q ≡ Some d.from.sectors) d.source_is
            (loss.sound.sizes d.mirror d.from d.from_is) in
            let room = (loss.sound.state.each d.mirror d.from_is.mirror).sizes d.from
            d.from_is.component in
            let within = d.within in
            rw s (
              subst (λ (o : Option ℕ). IsSomeAnd o (λ n. b ≤ n)) (sym size)
                  (omega (arith, room, within)),
              to,
            )
        | inr s ↦ rw s (
          subst (λ (o : Option ℕ). IsSomeAnd o (λ n. b ≤ n))
              (sym (same_size f)) was.0,
          to,
        )
      ]

  at_hand : (t : Intent) → Has after t → IsAtHand v.size t
  at_hand t h =
      ⊎_elim
      (λ (g : Has (remaining p next ts) t).
      let was = has_remaining p next ts t g in
      subst (λ (x : Intent). IsAtHand v.size x) was.3
      (hand_one was.0 was.1 was.2 (subst (λ (x : Intent). IsReadable v.state x) (sym was.3)
      (readable.each t h))))
      (λ (g : Has (metas others) t).
      let k = has_meta p next others t g in
      let of = home v.state loss.sound.state k.0 (member v.state m.name k.0 k.1).0 in
      let room = (loss.sound.state.each of.0 of.1.mirror).sizes k.0 of.1.component in
      subst (λ (x : Intent). IsAtHand v.size x) k.2
      (subst (λ (o : Option ℕ). IsSomeAnd o (λ n. 0 < n)) (sym (loss.sound.sizes of.0 k.0 of.1))
      (omega (arith, room))))
      (Has-append (remaining p next ts) (metas others) t h)

  pub leads_to_loss : (t : Tables) → HoldRecords v t → IsPermutation (intent_rows 1 after) t.intents
      → t.patches ≡ patch_rows left_laid → Leads t after left_laid y world
  leads_to_loss t rows intents patches = record {
    sound = sound;
    records = record {
      mirrors = rows.mirrors;
      components = rows.components;
      commands = rows.commands;
    };
    intents = intents;
    patches = patches;
    readable = readable;
    at_hand = at_hand;
    redo = record {
      says = all_say;
      lends = λ r h. lends_on v.state v.size loss.sound.state after there_all left_laid after
          (λ x g. g) readable r h;
      clean = no_dirt_left [] after readable.ordered;
      agrees = agrees;
    };
  }

  -- ---- and keeps the claims of u

  -- the mirror as the loss leaves it
  abbrev with_genid : Mirror
  with_genid = record m { genid = m.genid + 1 }

  -- each mirror is there still, with its syncid
  mirror_still : (n : List ℕ) (b : Mirror) → mirror_of w.state n ≡ Some b
      → (c : Mirror) × (mirror_of v.state n ≡ Some c) × (c.syncid ≡ b.syncid)
  mirror_still n b is =
      let f = found (λ (a : Mirror). same_label a.name n) w.state.mirrors b is in
      let order = loss.sound.state.mirrors_in_order in
      let at : b.name ≡ n = same_is b.name n f.1 in
      elim (same_tells b.name m.name) [
        | inl mine ↦
            let before = l.sound.state.mirrors_in_order in
            let one_is : m ≡ b = one name w.state.mirrors before m b loss.here f.0 (sym mine.1) in
            let now : mirror_of v.state m.name ≡ Some with_genid =
            find_one name v.state.mirrors order with_genid loss.mirror_stays in (
              with_genid,
              subst (λ (q : List ℕ). mirror_of v.state q ≡ Some with_genid) (sym mine.1 ∙ at) now,
              ap (λ (x : Mirror). x.syncid) one_is,
            )
        | inr theirs ↦ (
          b,
          subst (λ (x : List ℕ). mirror_of v.state x ≡ Some b) at
              (find_one name v.state.mirrors order b (loss.others_stay b f.0 theirs.1)),
          refl,
        )
      ]

  mirror_none : (n : List ℕ) → mirror_of w.state n ≡ None → mirror_of v.state n ≡ None
  mirror_none n none =
      let off = found_none (λ (x : Mirror). same_label x.name n) w.state.mirrors none in
      find_none (λ (x : Mirror). same_label x.name n) v.state.mirrors (λ a h.
      ⊎_elim
      (λ (e : a ≡ with_genid).
      subst (λ (x : Mirror). same_label x.name n ≡ false) (sym e) (off m loss.here))
      (λ (g : (a.name ≢ m.name) × Has w.state.mirrors a). off a g.1)
      (loss.mirrors a h))

  syncid_stays : (n : List ℕ) (s : ℕ)
      → has_syncid (mirror_of v.state n) s ≡ has_syncid (mirror_of w.state n) s
  syncid_stays n s =
      elim (option_cases (mirror_of w.state n)) [
        | inl none ↦ (let gone = mirror_none n none in rw (gone, none) refl)
        | inr b ↦ (let c = mirror_still n b.0 b.1 in rw (c.1, b.1) (ap (λ (x : ℕ). x == s) c.2))
      ]

  -- the data of each mirror of w stay
  holds_stay : (n : List ℕ) (i : ℕ) → mirror_of w.state n ≢ None → v.holds n i ≡ w.holds n i
  holds_stay n i some =
      elim (option_cases (mirror_of w.state n)) [
        | inl none ↦ absurd (some none)
        | inr b ↦
            let f = found (λ (a : Mirror). same_label a.name n) w.state.mirrors b.0 b.1 in
            let at : b.0.name ≡ n = same_is b.0.name n f.1 in
            subst (λ (x : List ℕ). v.holds x i ≡ w.holds x i) at (loss.holds b.0 f.0 i)
      ]

  some_still : (n : List ℕ) → mirror_of w.state n ≢ None → mirror_of v.state n ≢ None
  some_still n some none =
      elim (option_cases (mirror_of w.state n)) [
        | inl gone ↦ some gone
        | inr b ↦
            let c = mirror_still n b.0 b.1 in
            let f : Some c.0 ≡ None = sym c.1 ∙ none in
            let g : ⊥ = cc in
            g
      ]

  -- images claim the same data
  data_stay : (n : List ℕ) (s i : ℕ) → data_at u v n s i ≡ data_at u w n s i
  data_stay n s i =
      elim (option_cases (mirror_of w.state n)) [
        | inl none ↦ (let gone = mirror_none n none in rw (gone, none) refl)
        | inr b ↦
            let there : mirror_of w.state n ≢ None =
            λ none. (let f : Some b.0 ≡ None = sym b.1 ∙ none in let g : ⊥ = cc in g) in
            ap (λ (x : Bool). if x then v.holds n i else u.holds n i) (syncid_stays n s)
            ∙ ap (λ (x : List ℕ). if has_syncid (mirror_of w.state n) s then x else u.holds n i)
            (holds_stay n i there)
      ]

  module _ (k : KeepsClaims ts y u w) where
    world_size : u.size ≡ v.size
    world_size = k.sizes ∙ sym loss.sizes

    -- a component of u on a provider of which v has a component of the mirror: its last sector says
    -- the new genid, and claims no more than it did in w
    module _ (a : Mirror) (c : Component) (o : IsOf u.state a c) (j : Component)
        (in_v : Has others j) (same : j.provider ≡ c.provider) where
      of_v : IsOf v.state (record m { genid = m.genid + 1 }) j
      of_v = record { mirror = loss.mirror_stays; component = in_v }

      of_w : IsOf w.state m j
      of_w =
          let at = member v.state m.name j in_v in
          record {
            mirror = loss.here;
            component = filter-Has (λ (x : Component). same_label x.mirror m.name)
                w.state.components j (loss.components j at.0).0 (same_from j.mirror m.name at.1);
          }

      as_many : j.sectors ≡ c.sectors
      as_many =
          let one : v.size j.provider ≡ Some j.sectors =
          loss.sound.sizes (record m { genid = m.genid + 1 }) j of_v in
          let two : u.size c.provider ≡ Some c.sectors = k.sound.sizes a c o in
          let three : Some j.sectors ≡ Some c.sectors =
          sym one ∙ (ap v.size same ∙ (sym (λ i. world_size i c.provider) ∙ two)) in
          cc

      new_last : v.shelf c.provider (c.sectors - 1)
          ≡ encoded (metadata (record m { genid = m.genid + 1 }) j)
      new_last =
          subst (λ (n : ℕ). v.shelf c.provider (n - 1)
          ≡ encoded (metadata (record m { genid = m.genid + 1 }) j)) as_many
          (subst (λ (q : List ℕ). v.shelf q (j.sectors - 1)
          ≡ encoded (metadata (record m { genid = m.genid + 1 }) j)) same
          (loss.sound.full (record m { genid = m.genid + 1 }) j of_v))

      old_last : w.shelf c.provider (c.sectors - 1) ≡ encoded (metadata m j)
      old_last =
          subst (λ (n : ℕ). w.shelf c.provider (n - 1) ≡ encoded (metadata m j)) as_many
          (subst (λ (q : List ℕ). w.shelf q (j.sectors - 1) ≡ encoded (metadata m j)) same
          (l.sound.full m j of_w))

      -- what is claimed lies before the last sector
      before_last : (d : Metadata) → metadata (record m { genid = m.genid + 1 }) j ≡ d → (i : ℕ)
          → i < claimed a d → i < c.sectors - 1
      before_last d is i low =
          let mine : i < claimed a (metadata m j) =
          subst (λ (n : ℕ). i < n) (sym (ap (claimed a) is)) low in
          let room_a = (k.sound.state.each a o.mirror).sizes c o.component in
          let room_m = (l.sound.state.each m of_w.mirror).sizes j of_w.component in
          let held = (l.sound.state.each m of_w.mirror).held j of_w.component in
          by j.disk held mine room_a room_m as_many
        where
          by : (e : Disk) → held_of e < m.data_sectors
              → i < (if (metadata m (record j { disk = e })).dflags.synchronizing then 512
              * held_of e / 512 else a.data_sectors)
              → a.data_sectors + 1 ≤ c.sectors → m.data_sectors + 1 ≤ j.sectors
              → j.sectors ≡ c.sectors → i < c.sectors - 1
          by InSync held low ra rm many = omega (arith, low, ra)
          by Inactive held low ra rm many = omega (arith, low, ra)
          by (Copying forced h) held low ra rm many = omega (arith, held, low, rm, many)

      claims_lost : ClaimsOf a c (data_at u w a.name) v.shelf
      claims_lost d ok bears named mid active clean i low =
          let is : metadata (record m { genid = m.genid + 1 }) j ≡ d =
          sym (bears_one v.state (record m { genid = m.genid + 1 }) j loss.sound.state of_v
          (v.shelf c.provider (c.sectors - 1)) new_last d ok bears) in
          let e : Metadata = metadata m j in
          let fits : IsMetadata e = metadata_fits w.state m j l.sound.state of_w in
          let was : Bears (w.shelf c.provider (c.sectors - 1)) e =
          subst (λ (s : List ℕ). Bears s e) (sym old_last) (own m j fits) in
          let below : Below w.shelf (data_at u w a.name e.syncid) c.provider (claimed a e) =
          k.after a c e o fits was
          (ap (λ (x : Metadata). x.name) is ∙ named)
          (ap (λ (x : Metadata). x.mid) is ∙ mid)
          (ap (λ (x : Metadata). x.dflags.inactive) is ∙ active)
          (ap (λ (x : Metadata). x.dflags.dirty) is ∙ clean) in
          let syncid : e.syncid ≡ d.syncid = ap (λ (x : Metadata). x.syncid) is in
          let mine : i < claimed a e = subst (λ (n : ℕ). i < n) (sym (ap (claimed a) is)) low in
          let low_last = before_last d is i low in
          let stays : v.shelf c.provider i ≡ w.shelf c.provider i =
          loss.shelf c.provider i (λ x h at last.
          let one_is : x ≡ j =
          one provider v.state.components loss.sound.state.components_in_order x j
          (member v.state m.name x h).0 (member v.state m.name j in_v).0 (at ∙ sym same) in
          let size : x.sectors ≡ j.sectors = ap (λ (z : Component). z.sectors) one_is in
          let many = as_many in
          omega (arith, last, size, many, low_last)) in
          stays ∙ (below i mine ∙ ap (λ (n : ℕ). data_at u w a.name n i) syncid)

    after_loss : Claims u world world.shelf
    after_loss a c e o ok bears named mid active clean i low =
        let all : ClaimsOf a c (data_at u w a.name) world.shelf =
        elim (cases_Bool (same_label c.provider p)) [
          | inl s ↦ claims_there a c (data_at u w a.name) y world.shelf
              (λ i. subst (λ (q : List ℕ). world.shelf q i ≡ y q i) (sym (same_is c.provider p s))
              (on_p i ∙ sym (left i))) (λ d ok bears named mid active clean.
              k.old a c d o ok bears named mid active clean)
          | inr s ↦
              let d : c.provider ≢ p = apart_from c.provider p s in
              let in_v : ClaimsOf a c (data_at u w a.name) v.shelf =
              elim (option_cases (find (λ (x : Component). same_label x.provider c.provider)
              others)) [
                | inr j ↦ (let f = found (λ (x : Component). same_label x.provider c.provider)
                    others j.0 j.1 in
                    claims_lost a c o j.0 f.0 (same_is j.0.provider c.provider f.1))
                | inl none ↦ claims_there a c (data_at u w a.name) w.shelf v.shelf
                    (λ i. loss.shelf c.provider i
                    (λ x h at _. not_both (same_label x.provider c.provider)
                    (same_from x.provider c.provider at)
                    (found_none (λ (x : Component). same_label x.provider c.provider) others
                    none x h)))
                    (λ d ok bears named mid active clean. k.after a c d o ok bears named mid active
                    clean)
              ] in
              claims_there a c (data_at u w a.name) v.shelf world.shelf (off_p c.provider d) in_v
        ] in
        all e ok bears named mid active clean i low ∙ sym (data_stay a.name e.syncid i)

    copies_loss : CopiesData u world after
    copies_loss a c o i e =
        let was = copied_before p next ts c.provider i
        (any_copies_metas p next (remaining p next ts) others c.provider i e) in
        by was.0 was.1 was.2 was.3
      where
        by : (r : Intent) → Has ts r → writes_to p r ≡ false → copies r c.provider i ≡ true
            → (world.shelf c.provider i ≡ u.holds a.name i) × (v.holds a.name i ≡ u.holds a.name i)
            × (mirror_of v.state a.name ≢ None)
        by (Meta q) h off is = cc
        by (Clear q) h off is = cc
        by (Dirty q) h off is = cc
        by (Patch q x z) h off is = cc
        by (Copy f t x z) h off is =
            let range = range_of t x z c.provider i is in
            let other : t ≢ p = apart_from t p off in
            let apart : c.provider ≢ p = λ s. other (range.0 ∙ s) in
            let stays : v.shelf c.provider i ≡ w.shelf c.provider i =
            subst (λ (q : List ℕ). v.shelf q i ≡ w.shelf q i) range.0
            (target_stays f t x z h other i range.1 range.2) in
            let was = k.copies a c o i (copies_from ts (Copy f t x z) c.provider i h is) in (
              off_p c.provider apart i ∙ (stays ∙ was.0),
              holds_stay a.name i was.2 ∙ was.1,
              some_still a.name was.2,
            )

    new_loss : EachNewClaims u world y
    new_loss a c o none bare =
        let at = member v.state a.name c o.component in
        let in_w = (loss.components c at.0).0 in
        elim (loss.mirrors a o.mirror) [
          | inl bumped ↦
              let name : a.name ≡ m.name = ap (λ (x : Mirror). x.name) bumped in
              let of : IsOf w.state m c = record {
                mirror = loss.here;
                component = filter-Has (λ (x : Component). same_label x.mirror m.name)
                    w.state.components c in_w (same_from c.mirror m.name (at.1 ∙ name));
              } in
              let was : ClaimsOf m c (λ syncid. w.holds m.name) y = k.new m c of none bare in
              let lists : (i : ℕ) → w.holds m.name i ≡ v.holds m.name i =
              λ i. sym (loss.holds m loss.here i) in
              let here : ClaimsOf m c (λ syncid. v.holds m.name) y =
              λ d ok bears named mid active clean i low.
              was d ok bears named mid active clean i low ∙ lists i in
              subst (λ (x : Mirror). ClaimsOf x c (λ syncid. v.holds x.name) y) (sym bumped) here
          | inr old ↦
              let of : IsOf w.state a c = record {
                mirror = old.1;
                component = filter-Has (λ (x : Component). same_label x.mirror a.name)
                    w.state.components c in_w (same_from c.mirror a.name at.1);
              } in
              λ d ok bears named mid active clean i low.
              k.new a c of none bare d ok bears named mid active clean i low
              ∙ sym (loss.holds a old.1 i)
        ]

    pub keeps_in_loss : KeepsClaims after y u world
    keeps_in_loss = record {
      sound = k.sound;
      sizes = world_size;
      after = after_loss;
      copies = copies_loss;
      old = λ a c d o ok bears named mid active clean i low.
          k.old a c d o ok bears named mid active clean i low ∙ sym (data_stay a.name d.syncid i);
      new = new_loss;
      comes = loss_comes u w v m p next loss ts bytes y away before l k.comes;
    }
