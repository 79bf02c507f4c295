-- A redo leads each image to where it led.
use Rattle.gm_bench.proofs.Common.{◌≡◌, ◌∙◌, ◌+◌, ◌-◌, Some, inl, inr, ℕ, List, refl, sym, ap, subst, arith, Image, Sizes, View, From, IsLawful, Intent, Meta, is_place, IsAtHand, IsRedo, InOrder, Agrees, Records, Tables, Has, World, present, claimed, Continues, IsPartlyDone, PlacesAreNew, copies_data, AreAmong, whole, Leads, KeepsClaims, AllLead, Cover, IsShelfOf, sound_claims, same_data}
use Rattle.gm_apply.specs.Redo.{CrashLeaves}
use Rattle.gm_apply.proofs.LeadsOn.{leads_on, ends_there, claims_kept, claim_kept}
use Rattle.gm_bench.proofs.ComesOf.{partly_comes}
use Rattle.gm_bench.proofs.ShelfProviders.{masked, are_there, have_sizes, order_of, redo_down, partly_up}

-- what `apply` promises of moments, for these records, bytes, sizes and intents
abbrev pub Moments : Records → List (List ℕ) → Sizes → List Intent → View → View → Type 0
Moments s bytes size ts old new = (w : Image) → IsRedo s bytes size ts old.seen w
    → CrashLeaves old new (λ x. From old.may_leave (λ d. IsPartlyDone s size ts w d x))

-- and of its end
abbrev pub End : Records → List (List ℕ) → Sizes → List Intent → View → View → Type 0
End s bytes size ts old new = (w : Image) → IsRedo s bytes size ts old.seen w
    → PlacesAreNew (is_place size ts) w old new

module _ (t : Tables) (ts : List Intent) (bytes : List (List ℕ)) (u w : World) where
  partly_leads : (d x : Image) → Leads t ts bytes d w → IsPartlyDone w.state w.size ts w.shelf d x
      → Leads t ts bytes x w
  partly_leads d x l part = record {
    sound = l.sound;
    records = l.records;
    intents = l.intents;
    patches = l.patches;
    readable = l.readable;
    at_hand = l.at_hand;
    redo = leads_on w.state bytes w.size ts w.shelf d x l.redo part;
  }

  -- if the claims of u and of w are kept
  goes_old : (x : Image) → Leads t ts bytes x w → KeepsClaims ts x u w → Continues u w ts
  goes_old x l k = record {
    state = k.sound.state;
    after = l.sound.state;
    there = have_sizes u ts k.sound;
    claims = k.after;
    copies = k.copies;
  }

  goes_new : (x : Image) → Leads t ts bytes x w → Continues w w ts
  goes_new x l = record {
    state = l.sound.state;
    after = l.sound.state;
    there = have_sizes w ts l.sound;
    claims = sound_claims w w.shelf l.sound (λ q there j. refl);
    copies = copies_data w bytes w.size ts l.sound l.readable l.redo.says;
  }

  partly_claims : (d x : Image) → Leads t ts bytes d w → KeepsClaims ts d u w
      → IsPartlyDone w.state w.size ts w.shelf d x → KeepsClaims ts x u w
  partly_claims d x l k part =
      let order : InOrder w.size ts =
      order_of w bytes w.size ts l.sound l.readable (have_sizes w ts l.sound) in
      let back : w.size ≡ u.size = sym k.sizes in
      record {
        sound = k.sound;
        sizes = k.sizes;
        after = k.after;
        copies = k.copies;
        old = claims_kept u w ts d x (goes_old d l k)
            (subst (λ (z : Sizes). InOrder z ts) back order)
            (subst (λ (z : Sizes). Agrees z ts d w.shelf) back l.redo.agrees) k.old
            (subst (λ (z : Sizes). IsPartlyDone w.state z ts w.shelf d x) back part);
        new = λ m c o none bare e ok bears named mid active clean.
            let room = (l.sound.state.each m o.mirror).sizes c o.component in
            let whole_size : c.sectors ≡ c.sectors - 1 + 1 = omega (arith, room) in
            let goes : Continues w w ts = goes_new d l in
            claim_kept w.state l.sound.state w.size ts w.shelf d x order l.redo.agrees part
            c.provider (c.sectors - 1) (w.holds m.name) (λ i is. (goes.copies m c o i is).0)
            (λ touched. goes.there m c o touched ∙ ap Some whole_size) e (claimed m e) ok clean
            (λ b. k.new m c o none bare e ok b named mid active clean)
            (λ b i low. goes.claims m c e o ok b named mid active clean i low
            ∙ same_data w w m.name e.syncid i refl) bears;
        comes = partly_comes ts bytes u w d x l.sound l.readable l.redo.says part k.comes;
      }

  module _ (old new : View) (lawful : IsLawful old) (size : Sizes) (away : Image)
      (leads : AllLead t ts bytes size away old.may_leave u w) (sizes : present w ≡ size)
      (hand : (r : Intent) → Has ts r → IsAtHand size r) (part : Records)
      (cover : Cover part w.state ts) where
    mask : AreAmong size w.size
    mask = masked w size sizes

    start : (x : Image) → Leads t ts bytes (whole size away x) w
        → IsRedo part bytes size ts x w.shelf
    start x l = redo_down part w.state size w.size mask ts cover hand away x w.shelf bytes l.redo

    moments_of : Moments part bytes size ts old new
        → CrashLeaves old new (λ x. From old.may_leave (λ d. IsPartlyDone part size ts w.shelf d x))
    moments_of h = h w.shelf (start old.seen (leads old.seen lawful.holds_now).0)

    up : (d x : Image) → Leads t ts bytes (whole size away d) w
        → IsPartlyDone part size ts w.shelf d x
        → IsPartlyDone w.state w.size ts w.shelf (whole size away d) (whole size away x)
    up d x l done = partly_up part w.state l.sound.state ts cover l.redo.clean
        (λ p h. l.readable.each (Meta p) h) size w.size mask away w.shelf d x
        (λ order. order_of w bytes size ts l.sound l.readable
        (are_there w size ts l.sound mask hand))
        done

    -- an image of any moment of the redo
    pub any_moment : Moments part bytes size ts old new
        → AllLead t ts bytes size away (new.left_since old.moment) u w
    any_moment h x left = elim ((moments_of h).since old.moment x (omega arith) left) [
      | inl before ↦ leads x (lawful.only_now x before)
      | inr done ↦
          let was = leads done.0 done.1 in
          let on = up done.0 x was.0 done.2 in (
            partly_leads (whole size away done.0) (whole size away x) was.0 on,
            partly_claims (whole size away done.0) (whole size away x) was.0 was.1 on,
          )
    ]

    -- an image that is left at the end
    pub counts : IsLawful new → Moments part bytes size ts old new → (x : Image) → new.may_leave x
        → new.left_since old.moment x
    counts after h x left = after.counts_now old.moment x (moments_of h).later left

    pub ends : End part bytes size ts old new → IsShelfOf new w size
    ends h x left =
        let from = (h w.shelf (start old.seen (leads old.seen lawful.holds_now).0)).left x left in
        ends_there part bytes size ts w.shelf from.0 x (start from.0 (leads from.0 from.1).0) from.2
