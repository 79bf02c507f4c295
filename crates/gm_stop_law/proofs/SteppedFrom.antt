-- What a step tells of the world that it is taken from.
use Rattle.gm_stop_law.proofs.Common.{◌≡◌, ◌∙◌, inl, inr, ℕ, ◌<◌, ◌-◌, ◌==◌, Bool, true, false, refl, sym, arith, List, Some, cases_Bool, ne_eqb, Component, Mirror, IsOf, World, Sound, Command, Reply, Step, present, present_size, last_of}

-- a test that isn't passed fails
pub fails_unless : (b : Bool) → (b ≡ true → ⊥) → b ≡ false
fails_unless b never = elim (cases_Bool b) [ inl t ↦ absurd (never t) | inr f ↦ f ]

-- the last sector that is seen of a provider with some sectors is that of its image
pub last_seen : (u : World) (q : List ℕ) (n : ℕ) → present u q ≡ Some n → 0 < n
    → last_of u q ≡ Some (u.shelf q (n - 1))
last_seen u q n size some =
    let apart : (n == 0) ≡ false = ne_eqb n 0 (λ e. omega arith) in rw (size, apart) refl

-- a size that is known is the one that is seen
pub seen_size : (u : World) (q : List ℕ) (n k : ℕ) → present u q ≡ Some n → u.size q ≡ Some k
    → n ≡ k
seen_size u q n k there size =
    let other : u.size q ≡ Some n = present_size u q n there in cc

-- a component of the world after has its size before as well
pub size_before : (u w : World) (key : List ℕ) (c : Command) (r : Reply) → Step u key c w r
    → Sound w → (m : Mirror) (k : Component) → IsOf w.state m k
    → u.size k.provider ≡ Some k.sectors
size_before u w key c r step sound m k of = sym (step.sizes k.provider) ∙ sound.sizes m k of
