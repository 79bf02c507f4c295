-- A world at rest: no intent is pending, and the shelf is the world's.
use Rattle.gm_bench.proofs.Common.{◌≡◌, ◌∙◌, inl, inr, ℕ, List, [], refl, sym, subst, arith, IsPermutation, is_some, IsPermutation-refl, cases_Bool, Image, Sizes, SameThere, same_label, Intent, Component, IsAtHand, without_patch, AreReadable, Tables, HoldRecords, Has, World, Sound, sound_claims, found_none, not_both, same_refl, member, AreAmong, whole, Leads, KeepsClaims}
use Rattle.gm_bench.proofs.ComesOf.{rest_comes, settled_comes}
use Rattle.gm_bench.proofs.ShelfProviders.{whole_there, whole_away, away_no_place}

none_readable : (w : World) → AreReadable w.state [] []
none_readable w = record {
  sectors = λ x h. absurd h;
  each = λ t h. absurd h;
  one_copy = omega arith;
  one_patch = without_patch [] [] refl refl;
  ordered = tt;
}

-- tables with the world's rows and nothing pending lead to it from its shelf
pub rest_leads : (s : Tables) (y : Image) (w : World) → Sound w → HoldRecords w s → s.intents ≡ []
    → s.patches ≡ [] → SameThere w.size y w.shelf → Leads s [] [] y w
rest_leads s y w sound records none no_patch same = record {
  sound = sound;
  records = records;
  intents = subst (λ rows. IsPermutation [] rows) (sym none) (IsPermutation-refl []);
  patches = no_patch;
  readable = none_readable w;
  at_hand = λ t h. absurd h;
  redo = record {
    says = λ t h. absurd h;
    lends = λ t h. absurd h;
    clean = tt;
    agrees = λ q there j e. same q there j;
  };
}

-- in a world at rest each component is one of before
pub rest_claims : (y : Image) (w : World) → Sound w → SameThere w.size y w.shelf
    → KeepsClaims [] y w w
rest_claims y w sound same = record {
  sound = sound;
  sizes = refl;
  after = sound_claims w w.shelf sound (λ q there j. refl);
  copies = λ m k o i e. absurd (let f : ⊥ = cc in f);
  old = sound_claims w y sound same;
  new = λ m k o none bare d ok bears named mid active clean i below.
      not_both (same_label k.provider k.provider) (same_refl k.provider)
      (found_none (λ (j : Component). same_label j.provider k.provider) w.state.components none
      k (member w.state m.name k o.component).0);
  comes = rest_comes y w sound;
}

-- an image that leads to the world with no intent is the world's
pub at_rest : (t : Tables) (x : Image) (w : World) → Leads t [] [] x w → SameThere w.size x w.shelf
at_rest t x w l q there j = l.redo.agrees q there j refl

-- nothing is pending any more, and claims stay as they are
pub settled_claims : (ts : List Intent) (x : Image) (u w : World) → KeepsClaims ts x u w
    → KeepsClaims [] x u w
settled_claims ts x u w k = record {
  sound = k.sound;
  sizes = k.sizes;
  after = k.after;
  copies = λ m c o i e. absurd (let f : ⊥ = cc in f);
  old = k.old;
  new = k.new;
  comes = settled_comes ts x u w k.comes;
}

-- the shelf is the world's, and what is away wasn't named by any intent
pub whole_rest : (t : Tables) (ts : List Intent) (bytes : List (List ℕ)) (size : Sizes)
    (away x y : Image) (w : World)
    → AreAmong size w.size → ((r : Intent) → Has ts r → IsAtHand size r)
    → Leads t ts bytes (whole size away x) w → SameThere size y w.shelf
    → SameThere w.size (whole size away y) w.shelf
whole_rest t ts bytes size away x y w mask hand l same q there j = elim
    (cases_Bool (is_some (size q))) [
      | inl here ↦ whole_there size away y q here j ∙ same q here j
      | inr gone ↦ whole_away size away y q gone j
          ∙ (sym (whole_away size away x q gone j) ∙ l.redo.agrees q there j
          (away_no_place size w.size ts hand q gone j))
    ]
