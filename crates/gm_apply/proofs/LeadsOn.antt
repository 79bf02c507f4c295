-- From what is left of an image to where it leads.
use Rattle.gm_apply.proofs.Common.{◌≡◌, ◌∙◌, ◌⊎◌, inl, inr, ⊎_elim, ℕ, ◌+◌, ◌-◌, List, [], ◌∷◌, true, false, refl, sym, ap, subst, arith, Some, cases_Bool, and_parts, or_parts, list_any, not_both, some_any, Image, Sizes, Same, SameThere, same_label, Bears, IsMetadata, Metadata, Intent, Meta, Clear, Copy, Dirty, Patch, Mirror, Component, Records, IsState, IsOf, touches, is_last, is_dirty_of, names, is_place, any_copies, Agrees, IsRedo, IsDirt, InOrder, World, Claims, NewClaims, Below, claimed, data_at, last_at, place_from, placed_by, fills_from, named_fills, dirty_names, with_places, is_marked, SomePlacesWritten, IsNew, Before, Marked, Behind, IsPartlyDone, Continues}
use Rattle.gm_state.proofs.EncodedSectors.{dirt_bears_dirty}
use Rattle.gm_state.proofs.SoundClaims.{some_there, same_data}
use Rattle.gm_apply.proofs.UnderWay.{laid_in, laid_out}

-- what was written is a place
written_place : (s : Records) (size : Sizes) (ts : List Intent) (w x : Image) (q : List ℕ) (j : ℕ)
    → ((is_place size ts q j ≡ true) × (x q j ≡ w q j))
    ⊎ ((is_marked size ts q j ≡ true) × IsDirt s q (x q j)) → is_place size ts q j ≡ true
written_place s size ts w x q j h =
    ⊎_elim (λ (new : (is_place size ts q j ≡ true) × (x q j ≡ w q j)). new.0)
    (λ (dirt : (is_marked size ts q j ≡ true) × IsDirt s q (x q j)).
    let parts = and_parts (list_any (is_dirty_of q) ts) (is_last (size q) j) dirt.0 in
    let by = some_any (is_dirty_of q) ts parts.0 in
    place_from size ts by.0 q j by.1 (dirty_names size by.0 q j by.2 parts.1)) h

agrees_kept : (s : Records) (size : Sizes) (ts : List Intent) (w d x : Image)
    → Agrees size ts d w → SomePlacesWritten s size ts w d x → Agrees size ts x w
agrees_kept s size ts w d x agrees mix q there j off =
    ⊎_elim (λ (h : x q j ≡ d q j). h ∙ agrees q there j off)
    (λ (h : _). not_both (is_place size ts q j) (written_place s size ts w x q j h) off) (mix q j)

pub leads_on : (s : Records) (bytes : List (List ℕ)) (size : Sizes) (ts : List Intent)
    (w d x : Image) → IsRedo s bytes size ts d w → IsPartlyDone s size ts w d x
    → IsRedo s bytes size ts x w
leads_on s bytes size ts w d x redo partly =
    record {
      says = redo.says;
      lends = redo.lends;
      clean = redo.clean;
      agrees = agrees_kept s size ts w d x redo.agrees partly.mix;
    }

pub ends_there : (s : Records) (bytes : List (List ℕ)) (size : Sizes) (ts : List Intent)
    (w d x : Image) → IsRedo s bytes size ts d w → Same x (with_places (is_place size ts) w d)
    → SameThere size x w
ends_there s bytes size ts w d x redo same q there j =
    same q j ∙ elim (cases_Bool (is_place size ts q j)) [
      | inl e ↦ laid_in (is_place size ts) w d q j e
      | inr e ↦ laid_out (is_place size ts) w d q j e ∙ redo.agrees q there j e
    ]

-- a provider that no intent reads or writes has no place
untouched_one : (size : Sizes) (q : List ℕ) (j : ℕ) (t : Intent) → touches q t ≡ false
    → names size t q j ≡ false
untouched_one size q j (Meta p) off = rw off refl
untouched_one size q j (Clear p) off = rw off refl
untouched_one size q j (Copy source target a b) off =
    let apart = or_parts (same_label source q) (same_label target q) off in rw apart.1 refl
untouched_one size q j (Dirty p) off = rw off refl
untouched_one size q j (Patch p a b) off = rw off refl

pub untouched : (size : Sizes) (q : List ℕ) (j : ℕ) (ts : List Intent)
    → list_any (touches q) ts ≡ false → is_place size ts q j ≡ false
untouched size q j [] off = refl
untouched size q j (t ∷ ts) off =
    let apart = or_parts (touches q t) (list_any (touches q) ts) off in
    rw (untouched_one size q j t apart.0, untouched size q j ts apart.1) refl

-- What a provider p holds on the way from d to w, whose last sector is l: what was true of a claim
-- stays true.
module _ (s : Records) (state : IsState s) (size : Sizes) (ts : List Intent) (w d x : Image)
    (order : InOrder size ts) (agrees : Agrees size ts d w) (partly : IsPartlyDone s size ts w d x)
    (p : List ℕ) (l : ℕ) (list : ℕ → List ℕ)
    (copied : (i : ℕ) → any_copies ts p i ≡ true → w p i ≡ list i) where
  -- a provider that is new holds what it does in w
  is_there : size p ≡ Some (l + 1) → IsNew size ts w x p → (i : ℕ) → x p i ≡ w p i
  is_there is new i =
      elim (cases_Bool (is_last (size p) i)) [
        | inl last ↦ new.last i last
        | inr off ↦ elim (cases_Bool (is_place size ts p i)) [
          | inl place ↦
              let by = placed_by size ts p i place in
              new.there i (fills_from ts by.0 p i by.1 (named_fills size by.0 p i off by.2).0)
          | inr none ↦ agrees_kept s size ts w d x agrees partly.mix p
              (some_there (size p) (l + 1) is) i none
        ]
      ]

  -- what the metadata e claim without DIRTY, the first n sectors of the list
  pub claim_kept : (list_any (touches p) ts ≡ true → size p ≡ Some (l + 1)) → (e : Metadata) (n : ℕ)
      → IsMetadata e → e.dflags.dirty ≡ false
      → (Bears (d p l) e → Below d list p n) → (Bears (w p l) e → Below w list p n)
      → Bears (x p l) e → Below x list p n
  claim_kept there e n fits clean before after bears i below =
      elim (cases_Bool (list_any (touches p) ts)) [
        | inr apart ↦
            let as_before : (j : ℕ) → x p j ≡ d p j = λ j. ⊎_elim
            (λ (h : x p j ≡ d p j). h)
            (λ (h : _). not_both (is_place size ts p j) (written_place s size ts w x p j h)
            (untouched size p j ts apart))
            (partly.mix p j) in
            as_before i ∙ before (subst (λ (v : List ℕ). Bears v e) (as_before l) bears) i below
        | inl touched ↦
            let is : size p ≡ Some (l + 1) = there touched in
            let last : is_last (size p) l ≡ true = last_at (size p) l is in
            elim (partly.ordered order p) [
              | Before old ↦
                  let was : d p i ≡ list i =
                  before (subst (λ (v : List ℕ). Bears v e) (old.last l last) bears) i below in
                  ⊎_elim (λ (h : x p i ≡ d p i). h ∙ was)
                  (λ (h : (any_copies ts p i ≡ true) × (x p i ≡ w p i)). h.1 ∙ copied i h.0)
                  (old.each i)
              | Marked dirt ↦ not_both e.dflags.dirty
                  (dirt_bears_dirty s p (x p l) state (dirt.last l last) e fits bears) clean
              | Behind new ↦
                  is_there is new i
                  ∙ after (subst (λ (v : List ℕ). Bears v e) (new.last l last) bears) i below
            ]
      ]

module _ (u w : World) (ts : List Intent) (goes : Continues u w ts) where
  -- the last sector of a component that the intents read or write
  last_there : (m : Mirror) (k : Component) → IsOf u.state m k
      → list_any (touches k.provider) ts ≡ true → u.size k.provider ≡ Some (k.sectors - 1 + 1)
  last_there m k o touched =
      let room = (goes.state.each m o.mirror).sizes k o.component in
      let whole : k.sectors ≡ k.sectors - 1 + 1 = omega (arith, room) in
      goes.there m k o touched ∙ ap Some whole

-- the components of before
pub claims_kept : (u w : World) (ts : List Intent) (d x : Image) → Continues u w ts
    → InOrder u.size ts → Agrees u.size ts d w.shelf → Claims u w d
    → IsPartlyDone w.state u.size ts w.shelf d x → Claims u w x
claims_kept u w ts d x goes order agrees claims partly m k e o fits bears named mid active clean =
    claim_kept w.state goes.after u.size ts w.shelf d x order agrees partly k.provider
    (k.sectors - 1) (data_at u w m.name e.syncid)
    (λ i is. let c = goes.copies m k o i is in
    c.0 ∙ sym (same_data u w m.name e.syncid i c.1)) (last_there u w ts goes m k o) e
    (claimed m e) fits clean
    (λ b. claims m k e o fits b named mid active clean)
    (λ b. goes.claims m k e o fits b named mid active clean) bears

-- those that are new in w
pub new_claims_kept : (u w : World) (ts : List Intent) (d x : Image) → Continues w w ts
    → InOrder w.size ts → Agrees w.size ts d w.shelf → NewClaims u w d
    → IsPartlyDone w.state w.size ts w.shelf d x → NewClaims u w x
new_claims_kept u w ts d x goes order agrees claims partly m k e o new fits bears named mid active
    clean =
    claim_kept w.state goes.after w.size ts w.shelf d x order agrees partly k.provider
    (k.sectors - 1) (w.holds m.name)
    (λ i is. (goes.copies m k o i is).0) (last_there w w ts goes m k o) e (claimed m e) fits clean
    (λ b. claims m k e o new fits b named mid active clean)
    (λ b i below. goes.claims m k e o fits b named mid active clean i below
    ∙ same_data w w m.name e.syncid i refl) bears
