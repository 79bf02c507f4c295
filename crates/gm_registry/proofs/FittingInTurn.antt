-- From what a change needs of the tables to what each of its steps needs.
use Rattle.gm_registry.proofs.Common.{◌≡◌, ◌≢◌, ◌∙◌, inl, inr, ⊎_elim, ℕ, zero, suc, ◌+◌, ◌<◌, ◌≤◌, List, [], ◌∷◌, filter, length, take, get_or, Option, Some, None, IfSome, sym, ap, subst, arith, AllByRecursion, length-take-le, Trees, all_from, Mirror, Component, Intent, Tables, IntentRow, CommandRow, mirror_row, component_row, intent_rows, Changed, AreNumbered, Pending, left_of, with_component, with_bytes, with_components, with_intents, with_pending, with_records, HasFreeNumber, HasRoom, IsPlaced, IsUncounted, TakesBytes, TakesCommand, TakesIntents, TakesMirror, TakesNumbers, ◌^◌, ArePlacedInTurn, FitsRecords, FitsTables, count_of, is_under}
use Rattle.gm_registry.proofs.CountedThrough.{left_commands, records_keep}
use Rattle.gm_registry.proofs.LastCommand.{seq_in_range}
use Rattle.gm_registry.proofs.Written.{with_records_is}

-- ---- components in turn

-- after those before it the next is placed
pub placed_at : (ks : List Component) (i : ℕ) (k : Component) (t : Tables) → ArePlacedInTurn ks t
    → i < length ks → k ≡ get_or ks i k → IsPlaced (component_row k) (with_components (take i ks) t)
placed_at [] i k t placed low is = absurd (omega (arith, low))
placed_at (x ∷ ks) zero k t placed low is =
    subst (λ (y : Component). IsPlaced (component_row y) t) (sym is) placed.0
placed_at (x ∷ ks) (suc i) k t placed low is =
    placed_at ks i k (with_component (component_row x) t) placed.1 (omega (arith, low)) is

-- one element more
pub one_longer : {X : Type 0} (xs : List X) (i : ℕ) → i < length xs
    → length (take i xs) + 1 ≤ length (take (i + 1) xs)
one_longer xs i low =
    let now = length-take-le i xs (omega (arith, low)) in
    omega (arith, now, length-take-le (i + 1) xs (omega (arith, low)))

-- the first elements and one more are at most all
pub within_all : {X : Type 0} (xs : List X) (i : ℕ) → i < length xs
    → 1 + length (take i xs) ≤ length xs
within_all xs i low = omega (arith, length-take-le i xs (omega (arith, low)))

-- ---- a mirror

-- if there is one to put, it is taken
pub takes_some : (m : Option Mirror) (db : Trees) (t : Tables)
    → IfSome m (λ x. HasFreeNumber (mirror_row x) t) → HasRoom 1 db
    → IfSome m (λ x. TakesMirror (mirror_row x) db t)
takes_some None db t free room = tt
takes_some (Some m) db t free room = record { number_free = free; room = room.mirrors }

-- ---- after the records

-- records leave the intents
pub takes_behind : (ch : Changed) (n : ℕ) (t : Tables) → TakesIntents n t
    → TakesIntents n (with_records ch t)
takes_behind ch n t takes = record {
  few = takes.few;
  free = λ k low high. subst
      (λ (l : List IntentRow). AllByRecursion (λ (i : IntentRow). i.ord ≢ k) l)
      (sym (ap (λ (a : Tables). a.intents) (with_records_is ch t))) (takes.free k low high);
}

-- the next numbers are free
pub next_numbers : (n count : ℕ) (t : Tables) → AreNumbered t.commands → n ≡ count_of t + 1
    → n + count ≤ 2 ^ 32 → TakesNumbers n count t
next_numbers n count t numbered next few = record {
  few = few;
  free = λ k low high. all_from _ t.commands (λ c has same.
      omega (arith, seq_in_range t.commands numbered c has, next, low, same));
}

-- what becomes of the intents leaves them free
pub left_numbers : (n count : ℕ) (p : Pending) (t : Tables) → TakesNumbers n count t
    → TakesNumbers n count (left_of p t)
left_numbers n count p t takes = record {
  few = takes.few;
  free = λ k low high. subst
      (λ (l : List CommandRow). AllByRecursion (λ (c : CommandRow). c.seq ≢ k) l)
      (sym (left_commands p t)) (takes.free k low high);
}

-- and the bytes
pub takes_bytes : (ch : Changed) (more : List IntentRow) (bytes : List (List ℕ)) (t : Tables)
    → TakesBytes bytes t → TakesBytes bytes (with_intents more (with_records ch t))
takes_bytes ch more bytes t takes = record {
  free = ⊎_elim (λ (none : bytes ≡ []). inl none)
      (λ (free : t.patches ≡ []). inr (ap (λ (a : Tables). a.patches) (with_records_is ch t)
      ∙ free)) takes.free;
  short = takes.short;
}

-- a command is taken after the records, the intents and the bytes
pub takes_last : (ch : Changed) (ts : List Intent) (bytes : List (List ℕ)) (key words : List ℕ)
    (n : ℕ) (db : Trees) (t : Tables) → FitsTables (with_pending ch ts bytes) key words t
    → IsUncounted n t → HasRoom 1 db
    → TakesCommand key words n db
    (with_bytes bytes (with_intents (intent_rows 1 ts) (with_records ch t)))
takes_last ch ts bytes key words n db t fits free room =
    let same = sym (records_keep ch t) in
    record {
      key_free = subst (λ (l : List CommandRow). filter (is_under key) l ≡ []) same fits.key_free;
      number_free = subst
          (λ (l : List CommandRow). AllByRecursion (λ (c : CommandRow). c.seq ≢ n) l) same free;
      short = fits.short;
      room = room.commands;
    }

-- the records fit whatever the intents and the bytes are
pub records_fit : (ch : Changed) (ts : List Intent) (bytes : List (List ℕ)) (t : Tables)
    → FitsRecords (with_pending ch ts bytes) t → FitsRecords ch t
records_fit ch ts bytes t fits = record { gone = fits.gone; put = fits.put; placed = fits.placed }
