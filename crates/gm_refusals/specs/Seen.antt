-- What is seen of providers when a command is judged.
use Rattle.std.specs.Prelude.{ℕ, Bool, false, ◌==◌, nat_le, List, Option, Some, None}
use Rattle.gm_refusals.specs.declared.facts.Fact.{Fact}
use Rattle.gm_refusals.specs.Facts.{size_in, last_in, last_carries, equals_in}

-- of each provider that is there its size and its last sector, and whether so many first sectors of
-- a source and of it are equal
pub record Seen : Type 0 where
  pub size : List ℕ → Option ℕ
  pub last : List ℕ → Option (List ℕ)
  pub equal : List ℕ → List ℕ → ℕ → Bool

-- what facts say; they count equal sectors for one source alone
abbrev pub seen_in : List Fact → Seen
seen_in facts = record {
  size = size_in facts;
  last = last_in facts;
  equal = λ source p k. nat_le k (equals_in facts p);
}

-- its last sector carries metadata
abbrev pub is_bearing : Seen → List ℕ → Bool
is_bearing x p = last_carries (x.last p)

-- a provider is there with just so many sectors
abbrev pub has_size : Option ℕ → ℕ → Bool
has_size None n = false
has_size (Some k) n = k == n

-- it is there, and passes the test
abbrev pub is_there_and : {X : Type 0} → Option X → (X → Bool) → Bool
is_there_and None test = false
is_there_and (Some x) test = test x
