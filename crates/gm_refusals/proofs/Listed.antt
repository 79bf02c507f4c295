-- A refusal that a command lists stands in its list, and one that stands there is listed.
use Rattle.gm_refusals.proofs.Common.{◌≡◌, ◌∙◌, ◌==◌, ℕ, Bool, true, refl, sym, ap, subst, List, [], ◌∷◌, find, Some, eqb-true, eq-eqb, Command, Has, some_any, any_from, Refusal, NoMirror, NameTaken, MidTaken, Absent, ProviderTaken, CarriesMetadata, TooSmall, NotMember, DidTaken, Full, TooManyMirrors, SomeLost, LastActive, AlreadyInactive, NotInactive, NoneLost, Inactive, NotSynchronizing, LastSyncid, LastGenid, NothingGiven, NotAdoptable, WrongSize, NoMetadata, BeingFilled, BeyondEnd, number_of, own, is_listed}

abbrev has_number : ℕ → Refusal → Bool
has_number n q = number_of q == n

abbrev all : List Refusal
all =
    NoMirror ∷ NameTaken ∷ MidTaken ∷ Absent ∷ ProviderTaken ∷ CarriesMetadata ∷ TooSmall
    ∷ NotMember ∷ DidTaken ∷ Full ∷ TooManyMirrors ∷ SomeLost ∷ LastActive ∷ AlreadyInactive
    ∷ NotInactive ∷ NoneLost ∷ Inactive ∷ NotSynchronizing ∷ LastSyncid ∷ LastGenid
    ∷ NothingGiven ∷ NotAdoptable ∷ WrongSize ∷ NoMetadata ∷ BeingFilled ∷ BeyondEnd ∷ []

of_its_number : (r : Refusal) → find (has_number (number_of r)) all ≡ Some r
of_its_number NoMirror = refl
of_its_number NameTaken = refl
of_its_number MidTaken = refl
of_its_number Absent = refl
of_its_number ProviderTaken = refl
of_its_number CarriesMetadata = refl
of_its_number TooSmall = refl
of_its_number NotMember = refl
of_its_number DidTaken = refl
of_its_number Full = refl
of_its_number TooManyMirrors = refl
of_its_number SomeLost = refl
of_its_number LastActive = refl
of_its_number AlreadyInactive = refl
of_its_number NotInactive = refl
of_its_number NoneLost = refl
of_its_number Inactive = refl
of_its_number NotSynchronizing = refl
of_its_number LastSyncid = refl
of_its_number LastGenid = refl
of_its_number NothingGiven = refl
of_its_number NotAdoptable = refl
of_its_number WrongSize = refl
of_its_number NoMetadata = refl
of_its_number BeingFilled = refl
of_its_number BeyondEnd = refl

-- two refusals of one number are one
one_number : (q r : Refusal) → number_of q ≡ number_of r → q ≡ r
one_number q r e =
    let same : Some q ≡ Some r =
    sym (of_its_number q) ∙ ap (λ n. find (has_number n) all) e ∙ of_its_number r in cc

pub listed : (c : Command) (r : Refusal) → is_listed c r ≡ true → Has (own c) r
listed c r e =
    let it = some_any (has_number (number_of r)) (own c) e in
    subst (λ (q : Refusal). Has (own c) q)
    (one_number it.0 r (eqb-true (number_of it.0) (number_of r) it.2)) it.1

pub lists : (c : Command) (r : Refusal) → Has (own c) r → is_listed c r ≡ true
lists c r h = any_from (has_number (number_of r)) (own c) r h (eq-eqb _ _ refl)
