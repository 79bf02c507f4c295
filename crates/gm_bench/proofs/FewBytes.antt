-- How many bytes are to be laid.
use Rattle.gm_bench.proofs.Common.{◌≡◌, inl, inr, ℕ, ◌*◌, ◌≤◌, ◌==◌, true, IsTrue, refl, subst, arith, List, [], ◌∷◌, length, length-append, eqb-true, list_all, list_any, and_parts, cases_Bool, Command, CommandFits, is_bytes, is_sector, Has, some_any, Intent, Meta, Clear, Copy, Dirty, Patch, is_patch, IsPatchWithin, AreReadable, AreSectors, Records, IsState, joined, bytes_of}
use Rattle.gm_commands.specs.declared.command.Command.TheVariants as commands

-- what words can say are sectors
are_sectors : (ss : List (List ℕ)) → IsTrue (list_all is_sector ss) → AreSectors ss
are_sectors [] fits x h = absurd h
are_sectors (s ∷ ss) fits x (inl same) =
    let parts = and_parts (is_sector s) (list_all is_sector ss) fits in
    subst (λ (l : List ℕ). length l ≡ 512) same
    (eqb-true (length s) 512 (and_parts (length s == 512) (is_bytes s) parts.0).0)
are_sectors (s ∷ ss) fits x (inr h) =
    are_sectors ss (and_parts (is_sector s) (list_all is_sector ss) fits).1 x h

joined_long : (ss : List (List ℕ)) → AreSectors ss → length (joined ss) ≡ 512 * length ss
joined_long [] each = omega arith
joined_long (s ∷ ss) each =
    let one : length s ≡ 512 = each s (inl refl) in
    let rest : length (joined ss) ≡ 512 * length ss = joined_long ss (λ x h. each x (inr h)) in
    let all = length-append s (joined ss) in
    omega (arith, one, rest, all)

-- those that a command lays, as many bytes as they are
pub patch_long : (n : List ℕ) (first : ℕ) (ss : List (List ℕ))
    → CommandFits (commands.Patch n first ss) → length (joined ss) ≤ 32768
patch_long n first ss fits =
    let long : length (joined ss) ≡ 512 * length ss = joined_long ss (are_sectors ss fits.2) in
    let few : length ss ≤ 64 = fits.4 in
    omega (arith, long, few)

pub few_laid : (c : Command) → CommandFits c → length (joined (bytes_of c)) ≤ 32768
few_laid (commands.Patch n first ss) fits = patch_long n first ss fits
few_laid _ fits = omega arith

-- those that are pending are no more than a mirror's data
module _ (s : Records) (state : IsState s) (bytes : List (List ℕ)) (ts : List Intent)
    (readable : AreReadable s bytes ts) where
  by_patch : (t : Intent) → Has ts t → is_patch t ≡ true → length (joined bytes) ≤ 536870912
  by_patch (Meta p) h e = cc
  by_patch (Clear p) h e = cc
  by_patch (Copy f t a b) h e = cc
  by_patch (Dirty p) h e = cc
  by_patch (Patch p a b) h e =
      let range = readable.one_patch.ranges (Patch p a b) h in
      let on : IsPatchWithin s p a b = readable.each (Patch p a b) h in
      let rules = state.each on.mirror on.on_is.mirror in
      let size = rules.sizes on.on on.on_is.component in
      let limit = rules.limits on.on on.on_is.component in
      let within = on.within in
      let start = range.0 in
      let end = range.1 in
      let long : length (joined bytes) ≡ 512 * length bytes =
      joined_long bytes readable.sectors in
      omega (arith, size, limit, within, start, end, long)

  pub few_pending : length (joined bytes) ≤ 536870912
  few_pending = elim (cases_Bool (list_any is_patch ts)) [
    | inl some ↦ (let by = some_any is_patch ts some in by_patch by.0 by.1 by.2)
    | inr none ↦ (let e : bytes ≡ [] = readable.one_patch.needed none in rw e (omega arith))
  ]
