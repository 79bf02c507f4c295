-- What a call owes that carries out one intent, by the calls that it makes.
use Rattle.gm_apply.proofs.Common.{◌≡◌, ◌∙◌, ℕ, List, [], true, Some, Ok, Err, OnOk, IsErrAnd, refl, sym, subst, subst₂, Option, Image, Sizes, encoded, Label, Metadata, Answer, IsDone, WritesLast, Intent, Meta, Copy, Dirty, Patch, names, dirty_metadata, dirty_metadata_of, metadata, metadata_of, Records, IsState, CarriesOut, FillsSynced, HasBytes, WritesFound, WritesPlaces, brought, IsAbsent, IsFound, IsLaid, KeepsOthers, LacksProvider, LacksSector, Moments, Places, last_of, writes}
use Rattle.gm_shelf.specs.declared.fault.ShelfFault.{ShelfFault}
use Rattle.gm_shelf.specs.declared.fault.ShelfFault.TheVariants.{Absent, Range}
use Rattle.gm_shelf.specs.declared.shelf.Shelf.{Ghosts}
use Rattle.gm_apply.proofs.LaidBytes.{bytes_enough, bytes_same}
use Rattle.gm_apply.proofs.Others.{keeps_start, others_step}
use Rattle.gm_apply.proofs.UnderWay.{at_start, moments_same, redone_same}
use Rattle.gm_apply.proofs.Written.{done_step, moments_step, says_found}

if_ok : {P : Type 0} (result : Answer) → ((x : Unit {0}) → result ≡ Ok x → P) → OnOk result P
if_ok (Ok x) p = p x refl
if_ok (Err e) p = tt

on_ok : {P Q : Type 0} (result : Answer) → (P → Q) → OnOk result P → OnOk result Q
on_ok (Ok x) f p = f p
on_ok (Err e) f p = tt

-- what `?` passes on is the fault that it was given
pub passed_on : (P : Answer → Type 0) (result : Answer) (given : ShelfFault)
    → IsErrAnd result (λ x. x ≡ given) → P (Err given) → P result
passed_on P (Ok x) given passed p = absurd passed
passed_on P (Err x) given passed p = subst (λ (e : ShelfFault). P (Err e)) (sym passed) p

-- each of these places holds this sector
abbrev pub AllHold : Places → List ℕ → Image → Type 0
AllHold place s w = (q : List ℕ) (j : ℕ) → place q j ≡ true → w q j ≡ s

module _ {H : Type 0} (g : Ghosts H) (old new : H) (result : Answer) where
  -- the last sector was written
  pub last_written : (p : Label) (s : List ℕ) → WritesLast g old new result p s
      → WritesPlaces g old new result (last_of (g.size old) p) (AllHold (last_of (g.size old) p) s)
      (last_of (g.size old) p) (IsAbsent p) (λ size. size p ≡ Some 0)
  last_written p s does =
      let place = last_of (g.size old) p in
      record {
        done = λ h w told. if_ok result (λ x is.
            done_step (g.size old) p s w told (g.view old) (g.view new)
            (λ e. let r : Ok x ≡ Err Absent = sym is ∙ does.fails.absent.1 e in cc)
            (λ e. let r : Ok x ≡ Err Range = sym is ∙ does.fails.range.1 e in cc)
            (λ i at. subst (λ (r : Answer). OnOk r (IsDone p i s (g.view old) (g.view new))) is
            (does.done i h at)));
        moments = λ h w told. moments_step (g.size old) p s w told (g.view old) (g.view new)
            (λ e. subst (λ (z : H). Moments place w (g.view old) (g.view z))
            (sym (does.nothing_done e)) (at_start (g.view old) _))
            (λ i at. does.moments i h at);
        others = λ h. others_step (g.size old) p s (g.view old) (g.view new)
            (λ e. subst (λ (z : H). KeepsOthers place (g.view old) (g.view z))
            (sym (does.nothing_done e)) (keeps_start place (g.view old)))
            (λ i at. does.moments i h at);
        fails = record {
          absent = does.fails.absent.0;
          range = does.fails.range.0;
          device = does.fails.device;
        };
        keeps = does.keeps;
      }

  -- what is told in other words
  told_as : (place : Places) (One Other : Image → Type 0) (written : Places)
      (Lacks Ends : Sizes → Type 0) → ((w : Image) → Other w → One w)
      → WritesPlaces g old new result place One written Lacks Ends
      → WritesPlaces g old new result place Other written Lacks Ends
  told_as place One Other written Lacks Ends turn does = record {
    done = λ h w told. does.done h w (turn w told);
    moments = λ h w told. does.moments h w (turn w told);
    others = does.others;
    fails = does.fails;
    keeps = does.keeps;
  }

  pub found_written : (p : Label) (d : Metadata)
      → WritesPlaces g old new result (last_of (g.size old) p)
      (AllHold (last_of (g.size old) p) (encoded d)) (last_of (g.size old) p) (IsAbsent p)
      (λ size. size p ≡ Some 0) → WritesFound g old new result p (Some d)
  found_written p d does =
      let place = last_of (g.size old) p in
      told_as place (AllHold place (encoded d)) (IsFound place (Some d)) place (IsAbsent p)
      (λ size. size p ≡ Some 0)
      (λ w told q j e. let value : Some (encoded d) ≡ Some (w q j) = told q j e in cc) does

  -- a Meta and a Dirty write what is found in the records
  module _ (s : Records) (bytes : List (List ℕ)) (state : IsState s) (p : Label)
      (found : Option Metadata) (does : WritesFound g old new result p found) where
    pub meta_carried : found ≡ metadata_of s p → CarriesOut g old new result s bytes (Meta p)
    meta_carried is =
        told_as (last_of (g.size old) p) (IsFound (last_of (g.size old) p) (metadata_of s p))
        (IsLaid s bytes (g.size old) (Meta p) (g.view old).seen) (writes s (g.size old) (Meta p))
        (IsAbsent p) (λ size. size p ≡ Some 0)
        (λ w says q j e. says_found s state metadata p (w q j) (says q j e))
        (subst (λ (o : Option Metadata). WritesFound g old new result p o) is does)

    pub dirty_carried : found ≡ dirty_metadata_of s p
        → CarriesOut g old new result s bytes (Dirty p)
    dirty_carried is =
        told_as (last_of (g.size old) p) (IsFound (last_of (g.size old) p) (dirty_metadata_of s p))
        (IsLaid s bytes (g.size old) (Dirty p) (g.view old).seen) (writes s (g.size old) (Dirty p))
        (IsAbsent p) (λ size. size p ≡ Some 0)
        (λ w says q j e. says_found s state dirty_metadata p (w q j) (says q j e))
        (subst (λ (o : Option Metadata). WritesFound g old new result p o) is does)

  -- what is brought is what the intent says
  filled_carried : (s : Records) (bytes mine : List (List ℕ)) (t : Intent)
      → ((w : Image) → IsLaid s bytes (g.size old) t (g.view old).seen w → HasBytes t mine
      × ((q : List ℕ) (j : ℕ) → names (g.size old) t q j ≡ true
      → brought t mine (g.view old).seen q j ≡ w q j))
      → FillsSynced g old new result t mine
      → WritesPlaces g old new result (names (g.size old) t)
      (IsLaid s bytes (g.size old) t (g.view old).seen) (names (g.size old) t)
      (λ size. LacksProvider size t) (λ size. LacksSector size t)
  filled_carried s bytes mine t told does =
      let place = names (g.size old) t in
      let v = brought t mine (g.view old).seen in
      record {
        done = λ h w says. let is = told w says in on_ok result
            (λ is_new. redone_same place v w is.1 (g.view old) (g.view new) is_new)
            (does.done h is.0);
        moments = λ h w says. let is = told w says in
            moments_same place v w is.1 (g.view old) (g.view new) (does.moments h);
        others = does.others;
        fails = does.fails;
        keeps = does.keeps;
      }

  -- the sectors were told as numbers of another type
  module _ (s : Records) (bytes : List (List ℕ)) (a b a' b' : ℕ) (first : a' ≡ a)
      (end : b' ≡ b) where
    pub copy_carried : (p q : Label) → FillsSynced g old new result (Copy p q a' b') []
        → CarriesOut g old new result s bytes (Copy p q a b)
    copy_carried p q does =
        filled_carried s bytes [] (Copy p q a b) (λ w says. (tt, λ r j e. sym (says r j e)))
        (subst₂ (λ (x y : ℕ). FillsSynced g old new result (Copy p q x y) []) first end does)

    pub patch_carried : (p : Label) → FillsSynced g old new result (Patch p a' b') bytes
        → CarriesOut g old new result s bytes (Patch p a b)
    patch_carried p does =
        filled_carried s bytes bytes (Patch p a b)
        (λ w says. (bytes_enough p a b bytes w says, bytes_same p a b bytes w says))
        (subst₂ (λ (x y : ℕ). FillsSynced g old new result (Patch p x y) bytes) first end does)
