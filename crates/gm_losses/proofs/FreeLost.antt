-- What is lost of an image that can be taken into a mirror.
use Rattle.gm_losses.proofs.Common.{◌≡◌, ◌∙◌, ◌⊎◌, inl, inr, ⊎_elim, ℕ, ◌-◌, true, false, refl, sym, ap, subst, List, [], ◌∷◌, Option, Some, None, option_to_list, cases_Bool, Image, Sizes, zeros, Has, not_both, differ, same_from, Records, some_other, IsFirstData, IsFree, IsFreeImage, TellsLost, is_blank, is_database, lost_of, AreJust, LosesData, LosesDatabase, LosesLastSector, goes_before, FreeImage, Loss, LastSector, Database, Data, Intact, Left, Whole, OnlyCopy, Differs}
use Rattle.gm_losses.specs.declared.loss.Loss.TheVariants.{Member, Mirror}
use Rattle.gm_losses.proofs.FirstData.{one_first, tells_same}
use Rattle.gm_losses.proofs.Listed.{none_lost, one_lost}

-- sectors that are the same lose the same
pub lost_same : (p : List ℕ) (f g : ℕ → List ℕ) (image : FreeImage) (found : Option Loss)
    → ((i : ℕ) → f i ≡ g i) → TellsLost p f image found → TellsLost p g image found
lost_same p f g image None same h = (h.0, λ i low. sym (same i) ∙ h.1 i low)
lost_same p f g image (Some (LastSector q)) same h = h
lost_same p f g image (Some (Database q)) same h = h
lost_same p f g image (Some (Data q place)) same h = (
  h.0,
  h.1,
  tells_same f g image.sectors (Some place) (λ i low. same i) h.2,
)
lost_same p f g image (Some (Intact q)) same h = h
lost_same p f g image (Some (Left q newer)) same h = h
lost_same p f g image (Some (Whole q)) same h = h
lost_same p f g image (Some (Differs q n k)) same h = h
lost_same p f g image (Some (Member q name)) same h = h
lost_same p f g image (Some (OnlyCopy q)) same h = h
lost_same p f g image (Some (Mirror n)) same h = h

module _ (s : Records) (size : Sizes) (seen : Image) (p : List ℕ) where
  abbrev pub IsDatabase : Loss → Type 0
  IsDatabase x = LosesDatabase s size seen p x

  abbrev pub IsLastSector : Loss → Type 0
  IsLastSector x = LosesLastSector s size seen p x

  abbrev pub AreData : Loss → Type 0
  AreData x = LosesData s size seen p x

  module _ (image : FreeImage) (is : IsFreeImage s size seen p image) where
    same_sectors : (n : ℕ) → IsFree s size seen p n → n ≡ image.sectors
    same_sectors n free = some_other (size p) n image.sectors free.size_is is.free.size_is

    -- ---- a database

    database_lost : is_database image.first ≡ true → IsDatabase (Database p)
    database_lost e = (refl, image.sectors, is.free, ap is_database (sym is.first_is) ∙ e)

    database_told : (x : Loss) → IsDatabase x → is_database image.first ≡ true
    database_told x d = ap is_database is.first_is ∙ d.3

    -- ---- the last sector

    last_lost : is_blank image.last ≡ false → IsLastSector (LastSector p)
    last_lost e = (
      refl,
      image.sectors,
      is.free,
      λ z. not_both (is_blank image.last) (same_from image.last zeros (is.last_is ∙ z)) e,
    )

    last_told : (x : Loss) → IsLastSector x → is_blank image.last ≡ false
    last_told x l = differ image.last zeros (λ z. l.3
        (subst (λ (n : ℕ). seen p (n - 1) ≡ zeros) (sym (same_sectors l.1 l.2))
        (sym is.last_is ∙ z)))

    abbrev Labelled : Loss → Type 0
    Labelled x = IsDatabase x ⊎ IsLastSector x

    both_lost : is_database image.first ≡ true → is_blank image.last ≡ false
        → AreJust Labelled (Database p ∷ LastSector p ∷ [])
    both_lost a b = record {
      told = told;
      others = λ x h. ⊎_elim (λ (d : IsDatabase x). inl (sym d.0))
          (λ (l : IsLastSector x). inr (inl (sym l.0))) h;
      order = (second, (λ y h. absurd h, tt));
    }
      where
        told : (x : Loss) → Has (Database p ∷ LastSector p ∷ []) x → Labelled x
        told x (inl e) = subst Labelled e (inl (database_lost a))
        told x (inr (inl e)) = subst Labelled e (inr (last_lost b))
        told x (inr (inr h)) = absurd h

        second : (y : Loss) → Has (LastSector p ∷ []) y → goes_before (Database p) y ≡ true
        second y (inl e) = subst (λ (z : Loss). goes_before (Database p) z ≡ true) e refl
        second y (inr h) = absurd h

    -- so these are what a `label` loses of the image
    pub labelled : AreJust Labelled (lost_of p image)
    labelled = elim (cases_Bool (is_database image.first)) [
      | inl a ↦ elim (cases_Bool (is_blank image.last)) [
        | inl b ↦ rw (a, b) (one_lost Labelled (Database p) (inl (database_lost a)) (λ x h.
            ⊎_elim (λ (d : IsDatabase x). sym d.0)
            (λ (l : IsLastSector x). not_both _ b (last_told x l)) h))
        | inr b ↦ rw (a, b) (both_lost a b)
      ]
      | inr a ↦ elim (cases_Bool (is_blank image.last)) [
        | inl b ↦ rw (a, b) (none_lost Labelled (λ x h.
            ⊎_elim (λ (d : IsDatabase x). not_both _ (database_told x d) a)
            (λ (l : IsLastSector x). not_both _ b (last_told x l)) h))
        | inr b ↦ rw (a, b) (one_lost Labelled (LastSector p) (inr (last_lost b)) (λ x h.
            ⊎_elim (λ (d : IsDatabase x). not_both _ (database_told x d) a)
            (λ (l : IsLastSector x). sym l.0) h))
      ]
    ]

    -- ---- data

    data_told : (x : Loss) (l : AreData x) → IsFirstData (seen p) image.sectors l.0
    data_told x l =
        subst (λ (n : ℕ). IsFirstData (seen p) n l.0) (same_sectors l.2 l.3) l.5

    no_database : (x : Loss) → AreData x → is_database image.first ≡ false
    no_database x l = ap is_database is.first_is ∙ l.4

    abbrev Inserted : Loss → Type 0
    Inserted x = IsDatabase x ⊎ AreData x

    -- and this is what an `insert` does
    pub inserted : (found : Option Loss) → TellsLost p (seen p) image found
        → AreJust Inserted (option_to_list found)
    inserted None h = none_lost Inserted (λ x i.
        ⊎_elim (λ (d : IsDatabase x). not_both _ (database_told x d) h.0)
        (λ (l : AreData x). let first = data_told x l in first.some (h.1 l.0 first.within)) i)
    inserted (Some (LastSector q)) h = absurd h
    inserted (Some (Database q)) h =
        subst (λ (r : List ℕ). AreJust Inserted (Database r ∷ [])) (sym h.0)
        (one_lost Inserted (Database p) (inl (database_lost h.1)) (λ x i.
        ⊎_elim (λ (d : IsDatabase x). sym d.0)
        (λ (l : AreData x). not_both _ h.1 (no_database x l)) i))
    inserted (Some (Data q place)) h =
        let lost : AreData (Data p place) =
        (place, refl, image.sectors, is.free, ap is_database (sym is.first_is) ∙ h.1, h.2) in
        subst (λ (r : List ℕ). AreJust Inserted (Data r place ∷ [])) (sym h.0)
        (one_lost Inserted (Data p place) (inr lost) (λ x i.
        ⊎_elim (λ (d : IsDatabase x). not_both _ (database_told x d) h.1)
        (λ (l : AreData x). ap (Data p) (one_first (seen p) image.sectors place l.0 h.2
        (data_told x l)) ∙ sym l.1) i))
    inserted (Some (Intact q)) h = absurd h
    inserted (Some (Left q newer)) h = absurd h
    inserted (Some (Whole q)) h = absurd h
    inserted (Some (Differs q n k)) h = absurd h
    inserted (Some (Member q name)) h = absurd h
    inserted (Some (OnlyCopy q)) h = absurd h
    inserted (Some (Mirror n)) h = absurd h
