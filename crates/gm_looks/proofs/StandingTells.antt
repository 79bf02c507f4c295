-- A component is as registered just if that is how its image stands.
use Rattle.gm_looks.proofs.Common.{◌≡◌, ◌≢◌, ◌∙◌, ◌↔◌, ◌-◌, ◌<◌, ◌==◌, inl, inr, ℕ, Bool, true, false, List, Some, None, Result, Ok, Err, sym, not, if◌then◌else◌, Image, Sizes, decode_of, Metadata, last_sector, last_there, Mirror, Component, metadata, IsAsRegistered, HasAnotherSize, IsOfComponent, ShowsOther, is_newer, is_of_mirror, is_older, said_by, says, unreadable, Standing, AsRegistered, Absent, AnotherSize, Damaged, AnotherMirror, AnotherComponent, Older, Newer}
use Rattle.gm_metadata.specs.declared.fault.DecodeFault.{DecodeFault}
use Rattle.gm_metadata.specs.declared.fault.DecodeFault.TheVariants.{Magic, Version, Hash, Name, Provider, Balance, Flags, SectorSize}
use Rattle.gm_looks.specs.declared.standing.Standing.TheVariants.{Member}

-- ---- what is said is another standing

either_other : (b : Bool) (s t : Standing) → s ≢ AsRegistered → t ≢ AsRegistered
    → (if b then s else t) ≢ AsRegistered
either_other true s t p q = p
either_other false s t p q = q

mirror_other : AnotherMirror ≢ AsRegistered
mirror_other e = cc

component_other : AnotherComponent ≢ AsRegistered
component_other e = cc

newer_other : Newer ≢ AsRegistered
newer_other e = cc

older_other : Older ≢ AsRegistered
older_other e = cc

member_other : Member ≢ AsRegistered
member_other e = cc

damaged_other : Damaged ≢ AsRegistered
damaged_other e = cc

says_other : (r d : Metadata) → says r d ≢ AsRegistered
says_other r d =
    either_other (not (is_of_mirror r d)) AnotherMirror _ mirror_other
    (either_other (not (d.did == r.did)) AnotherComponent _ component_other
    (either_other (is_newer r d) Newer _ newer_other
    (either_other (is_older r d) Older Member older_other member_other)))

unreadable_other : (fault : DecodeFault) → unreadable fault ≢ AsRegistered
unreadable_other Magic = λ e. cc
unreadable_other Version = damaged_other
unreadable_other Hash = damaged_other
unreadable_other Name = damaged_other
unreadable_other Provider = damaged_other
unreadable_other Balance = damaged_other
unreadable_other Flags = damaged_other
unreadable_other SectorSize = damaged_other

said_other : (r : Metadata) (found : Result Metadata DecodeFault)
    → said_by (says r) found ≢ AsRegistered
said_other r (Ok d) = says_other r d
said_other r (Err fault) = unreadable_other fault

-- ---- one component

module _ (size : Sizes) (seen : Image) (m : Mirror) (k : Component) (some : 0 < k.sectors) where
  absent_isnt : last_sector size seen k.provider ≡ None → IsAsRegistered size seen m k → ⊥
  absent_isnt none is =
      let there = last_there size seen k.provider k.sectors is.size_is some in
      let both : Some (seen k.provider (k.sectors - 1)) ≡ None = sym there ∙ none in
      cc

  sized_isnt : HasAnotherSize size k → IsAsRegistered size seen m k → ⊥
  sized_isnt has is =
      let both : Some has.sectors ≡ Some k.sectors = sym has.size_is ∙ is.size_is in
      let same : has.sectors ≡ k.sectors = cc in
      has.other same

  shown_isnt : (x : List ℕ) → ShowsOther size seen m k x → IsAsRegistered size seen m k → ⊥
  shown_isnt x shows is = shows.other (sym shows.last_is ∙ is.last_is)

  pub tells_registered : (standing : Standing) → IsOfComponent size seen m k standing
      → (standing ≡ AsRegistered) ↔ IsAsRegistered size seen m k
  tells_registered standing (inl is) = (λ e. is.0, λ i. is.1)
  tells_registered standing (inr (inl none)) = (
    λ e. absurd (let no : Absent ≡ AsRegistered = sym none.1 ∙ e in cc),
    λ i. absurd (absent_isnt none.0 i),
  )
  tells_registered standing (inr (inr (inl sized))) = (
    λ e. absurd (let no : AnotherSize ≡ AsRegistered = sym sized.1 ∙ e in cc),
    λ i. absurd (sized_isnt sized.0 i),
  )
  tells_registered standing (inr (inr (inr shown))) = (
    λ e. absurd (said_other (metadata m k) (decode_of shown.0) (sym shown.2 ∙ e)),
    λ i. absurd (shown_isnt shown.0 shown.1 i),
  )
