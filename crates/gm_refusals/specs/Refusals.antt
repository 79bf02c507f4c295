-- The refusals: their numbers, and which command lists which.
use Rattle.std.specs.Prelude.{ℕ, Bool, ◌==◌, List, [], ◌∷◌}
use Rattle.std.specs.List.{list_any}
use Rattle.gm_commands.specs.declared.command.Command.{Command}
use Rattle.gm_commands.specs.declared.command.Command.TheVariants.{Label, Insert, Remove, Deactivate, Activate, Forget, Rebuild, Configure, Clear, Destroy, Lost, Advance, Adopt, Patch}
use Rattle.gm_refusals.specs.declared.refusals.Refusal.{Refusal}
use Rattle.gm_refusals.specs.declared.refusals.Refusal.TheVariants.{NoMirror, NameTaken, MidTaken, Absent, ProviderTaken, CarriesMetadata, TooSmall, NotMember, DidTaken, Full, TooManyMirrors, SomeLost, LastActive, AlreadyInactive, NotInactive, NoneLost, Inactive, NotSynchronizing, LastSyncid, LastGenid, NothingGiven, NotAdoptable, WrongSize, NoMetadata, BeingFilled, BeyondEnd}
use Rattle.gm_refusals.specs.declared.refusals.CallRefusal.{CallRefusal}
use Rattle.gm_refusals.specs.declared.refusals.CallRefusal.TheVariants.{NoKey, KeyTaken, NoRoom, ByRules}

-- the number of a refusal: if several apply, the least is answered
abbrev pub number_of : Refusal → ℕ
number_of NoMirror = 5
number_of NameTaken = 6
number_of MidTaken = 7
number_of Absent = 8
number_of ProviderTaken = 9
number_of CarriesMetadata = 10
number_of TooSmall = 11
number_of NotMember = 12
number_of DidTaken = 13
number_of Full = 14
number_of TooManyMirrors = 15
number_of SomeLost = 16
number_of LastActive = 17
number_of AlreadyInactive = 18
number_of NotInactive = 19
number_of NoneLost = 20
number_of Inactive = 21
number_of NotSynchronizing = 22
number_of LastSyncid = 23
number_of LastGenid = 24
number_of NothingGiven = 25
number_of NotAdoptable = 26
number_of WrongSize = 28
number_of NoMetadata = 29
number_of BeingFilled = 30
number_of BeyondEnd = 31

-- the number of the refusal of a call
abbrev pub number_of_call : CallRefusal → ℕ
number_of_call NoKey = 2
number_of_call KeyTaken = 3
number_of_call NoRoom = 4
number_of_call (ByRules r) = number_of r

-- the refusals that each command may meet
abbrev pub own : Command → List Refusal
own (Label new) = NameTaken ∷ MidTaken ∷ Absent ∷ ProviderTaken ∷ CarriesMetadata ∷ TooManyMirrors
    ∷ WrongSize ∷ []
own (Insert new) = NoMirror ∷ Absent ∷ ProviderTaken ∷ CarriesMetadata ∷ TooSmall ∷ DidTaken ∷ Full
    ∷ SomeLost ∷ WrongSize ∷ []
own (Remove n p) = NoMirror ∷ Absent ∷ NotMember ∷ SomeLost ∷ LastActive ∷ []
own (Deactivate n p) = NoMirror ∷ Absent ∷ NotMember ∷ LastActive ∷ AlreadyInactive ∷ LastSyncid
    ∷ []
own (Activate n p) = NoMirror ∷ Absent ∷ NotMember ∷ NotInactive ∷ []
own (Forget n) = NoMirror ∷ Absent ∷ NoneLost ∷ []
own (Rebuild n p) = NoMirror ∷ Absent ∷ NotMember ∷ LastActive ∷ Inactive ∷ []
own (Configure n settings) = NoMirror ∷ Absent ∷ NotMember ∷ NothingGiven ∷ []
own (Clear p) = Absent ∷ ProviderTaken ∷ WrongSize ∷ NoMetadata ∷ []
own (Destroy n) = NoMirror ∷ Absent ∷ []
own (Lost n ps) = NoMirror ∷ Absent ∷ NotMember ∷ LastActive ∷ LastGenid ∷ []
own (Advance n p) = NoMirror ∷ Absent ∷ NotMember ∷ Inactive ∷ NotSynchronizing ∷ []
own (Adopt n ps) = NameTaken ∷ MidTaken ∷ Absent ∷ ProviderTaken ∷ DidTaken ∷ Full ∷ TooManyMirrors
    ∷ NotAdoptable ∷ WrongSize ∷ []
own (Patch n first sectors) = NoMirror ∷ Absent ∷ LastSyncid ∷ BeingFilled ∷ BeyondEnd ∷ []

-- the command may meet the refusal
abbrev pub is_listed : Command → Refusal → Bool
is_listed c r = list_any (λ q. number_of q == number_of r) (own c)
