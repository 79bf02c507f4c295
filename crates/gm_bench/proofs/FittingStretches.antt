-- A change that goes on by the next stretches of its component fits the tables as the first did, and
-- what it copies is at hand.
use Rattle.gm_bench.proofs.Common.{◌≡◌, ◌∙◌, ⊎_elim, ℕ, ◌+◌, ◌<◌, ◌≤◌, refl, sym, ap, subst, arith, List, [], ◌∷◌, length, Option, Some, None, IsSomeAnd, Has, Has-push, filter-Has, same_from, same_label, Sizes, Intent, Meta, Clear, Copy, Dirty, Patch, IsAtHand, Changed, changed_by, Records, IsMirror, Mirror, Component, members, ReplyFits, Tables, IsFitting, AreAtHand, HasRoomFor, HaveRoomFor, IsStretchedBy}
use Rattle.gm_state.specs.Lookups.{held_of}
use Rattle.gm_registry.specs.FittingChanges.{ArePlacedInTurn}
use Rattle.gm_changes.specs.After.{advanced, reach}
use Rattle.gm_changes.specs.declared.change.Further.{Further}
use Rattle.gm_changes.specs.Stretches.{IsUnfilled, copied_to, stretch_reply, stretched}
use Rattle.gm_bench.proofs.StretchedBy.{StandsIn, component_there, stands_once}
use Rattle.gm_rules.proofs.PlanAdvance.{reach_within}

-- ---- how far a stretch goes

module _ (s : Records) (m : Mirror) (ch : Changed) (k : Component) (it : StandsIn s m ch)
    (un : IsUnfilled ch k) where
  -- the component is one of the mirror's
  mine : Has (members (changed_by ch s).components m.name) k
  mine = filter-Has (λ (c : Component). same_label c.mirror m.name) (changed_by ch s).components k
      (component_there s ch k un) (same_from k.mirror m.name (it.home k un.alone))

  abbrev rules : IsMirror m (members (changed_by ch s).components m.name)
  rules = it.state.each m it.mirror

  -- a stretch ends within the data
  pub ends_within : (held_of k.disk < reach m k) × (reach m k ≤ m.data_sectors)
  ends_within = reach_within m k (rules.held k mine)

  -- its reply is in range
  pub stretch_fits : ReplyFits (stretch_reply m k)
  stretch_fits =
      let far : held_of k.disk < reach m k = ends_within.0 in
      let size : m.data_sectors + 1 ≤ k.sectors = rules.sizes k mine in
      let most : k.sectors ≤ 1048576 = rules.limits k mine in
      (omega arith, ends_within.1, omega arith)

-- ---- the tables

-- no intent is added
length-copied_to : (end : ℕ) (ts : List Intent) → length (copied_to end ts) ≡ length ts
length-copied_to end [] = refl
length-copied_to end (t ∷ ts) = refl

-- the component is placed where it was
placed_on : (m : Mirror) (k : Component) (ks : List Component) (t : Tables) → ks ≡ k ∷ []
    → ArePlacedInTurn ks t → ArePlacedInTurn (advanced m k ∷ []) t
placed_on m k ks t alone placed =
    let was : ArePlacedInTurn (k ∷ []) t =
    subst (λ (l : List Component). ArePlacedInTurn l t) alone placed in
    (record { mirror = was.0.mirror; number_free = was.0.number_free }, tt)

-- a change with one more stretch fits the tables too
fits_once : (s : Records) (m : Mirror) (ch : Changed) (k : Component) (f : Further)
    (words : List ℕ) (t : Tables) → StandsIn s m ch → IsUnfilled ch k
    → f.reply ≡ stretch_reply m k → IsFitting ch words t → IsFitting (stretched m k f ch) words t
fits_once s m ch k f words t it un reply fits = record {
  records = record {
    gone = fits.records.gone;
    put = fits.records.put;
    placed = placed_on m k ch.components _ un.alone fits.records.placed;
  };
  few_put = omega arith;
  few_written =
      (let same : length (copied_to (reach m k) ch.intents) ≡ length ch.intents =
      length-copied_to (reach m k) ch.intents in
      let few : length ch.intents ≤ 48 = fits.few_written in omega arith);
  few_laid = fits.few_laid;
  replies = (
    fits.replies.0,
    λ g h. ⊎_elim (λ (old : Has ch.further g). fits.replies.1 g old)
        (λ (e : f ≡ g). subst ReplyFits (sym reply ∙ ap (λ (x : Further). x.reply) e)
        (stretch_fits s m ch k it un)) (Has-push ch.further f g h),
  );
  short = fits.short;
}

-- so does one with all of them
pub fits_on : (s : Records) (m : Mirror) (ks : List (List ℕ)) (a b : Changed) (words : List ℕ)
    (t : Tables) → StandsIn s m a → IsStretchedBy m ks a b → IsFitting a words t
    → IsFitting b words t
fits_on s m [] a b words t it is fits =
    subst (λ (x : Changed). IsFitting x words t) (sym is) fits
fits_on s m (key ∷ ks) a b words t it is fits =
    fits_on s m ks (stretched m is.0 is.1 a) b words t (stands_once s m a is.0 is.1 it is.2) is.4
    (fits_once s m a is.0 is.1 words t it is.2 is.3.1 fits)

-- ---- the shelf

-- a provider that has room has so many sectors at least
room_within : (o : Option ℕ) (end n : ℕ) → end ≤ n → HasRoomFor o n
    → IsSomeAnd o (λ all. end ≤ all)
room_within None end n few room = room
room_within (Some all) end n few room = let some : n ≤ all = room in omega arith

-- a copy that ends within the room is at hand, and there is room still
copied_within : (size : Sizes) (ts : List Intent) (end n : ℕ) → end ≤ n → HaveRoomFor size n ts
    → HaveRoomFor size n (copied_to end ts)
copied_within size [] end n few room = absurd room
copied_within size (Copy a b first was ∷ []) end n few room = absurd room
copied_within size (Copy a b first was ∷ (Meta p ∷ [])) end n few room =
    (few, room.1, room.2, room.3)
copied_within size (Copy a b first was ∷ (Meta p ∷ (t ∷ ts))) end n few room = absurd room
copied_within size (Copy a b first was ∷ (Clear p ∷ ts)) end n few room = absurd room
copied_within size (Copy a b first was ∷ (Copy _ _ _ _ ∷ ts)) end n few room = absurd room
copied_within size (Copy a b first was ∷ (Dirty p ∷ ts)) end n few room = absurd room
copied_within size (Copy a b first was ∷ (Patch _ _ _ ∷ ts)) end n few room = absurd room
copied_within size (Meta p ∷ ts) end n few room = absurd room
copied_within size (Clear p ∷ ts) end n few room = absurd room
copied_within size (Dirty p ∷ ts) end n few room = absurd room
copied_within size (Patch p first last ∷ ts) end n few room = absurd room

-- where there is room all is at hand
hand_within : (size : Sizes) (ts : List Intent) (n : ℕ) → HaveRoomFor size n ts → AreAtHand size ts
hand_within size [] n room = absurd room
hand_within size (Copy a b first end ∷ []) n room = absurd room
hand_within size (Copy a b first end ∷ (Meta p ∷ [])) n room =
    λ t h. ⊎_elim (λ (e : Copy a b first end ≡ t). subst (IsAtHand size) e
    (room_within (size a) end n room.0 room.1, room_within (size b) end n room.0 room.2))
    (λ h. ⊎_elim (λ (e : Meta p ≡ t). subst (IsAtHand size) e
    (room_within (size p) 1 1 (omega arith) room.3)) (λ (none : ⊥). absurd none) h) h
hand_within size (Copy a b first end ∷ (Meta p ∷ (t ∷ ts))) n room = absurd room
hand_within size (Copy a b first end ∷ (Clear p ∷ ts)) n room = absurd room
hand_within size (Copy a b first end ∷ (Copy _ _ _ _ ∷ ts)) n room = absurd room
hand_within size (Copy a b first end ∷ (Dirty p ∷ ts)) n room = absurd room
hand_within size (Copy a b first end ∷ (Patch _ _ _ ∷ ts)) n room = absurd room
hand_within size (Meta p ∷ ts) n room = absurd room
hand_within size (Clear p ∷ ts) n room = absurd room
hand_within size (Dirty p ∷ ts) n room = absurd room
hand_within size (Patch p first last ∷ ts) n room = absurd room

-- what all stretches copy is at hand
pub at_hand_on : (size : Sizes) (s : Records) (m : Mirror) (ks : List (List ℕ)) (a b : Changed)
    → StandsIn s m a → HaveRoomFor size m.data_sectors a.intents → IsStretchedBy m ks a b
    → AreAtHand size b.intents
at_hand_on size s m [] a b it room is =
    subst (λ (x : Changed). AreAtHand size x.intents) (sym is)
    (hand_within size a.intents m.data_sectors room)
at_hand_on size s m (key ∷ ks) a b it room is =
    at_hand_on size s m ks (stretched m is.0 is.1 a) b (stands_once s m a is.0 is.1 it is.2)
    (copied_within size a.intents (reach m is.0) m.data_sectors
    (ends_within s m a is.0 it is.2).1 room) is.4
