-- The lines of patches.
use Rattle.std.proofs.Common.{◌≡◌, ◌∙◌, ◌<◌, ◌+◌, ◌-◌, ◌*◌, min, inl, inr, ℕ, List, [], ◌∷◌, ◌++◌, codes, refl, sym, ap, ap₂, subst, arith, append-nil, append_assoc, zero, suc, Option, Result, Ok}
use Rattle.sqlite_trees.specs.declared.store.Store.{Ghosts}
use Rattle.gm_shelf.specs.declared.shelf.Shelf.{Ghosts as ShelfGhosts}
use Rattle.gm_bench.specs.declared.bench.Bench.{Bench}
use Rattle.gm_process.specs.declared.status.Status.{Status}
use Rattle.gm_process.specs.declared.status.Status.TheVariants.{Done}
use Rattle.gm_faults.specs.declared.fault.Fault.{Fault}
use Rattle.gm_handing_in.specs.Ends.{AnswersText}
use Rattle.gm_by_itself.specs.Keys.{following}
use Rattle.gm_writing.specs.Patches.{line_of, lines_of, words_of}
use Rattle.gm_writing.specs.declared.patches.Patches.{Patches}
use Rattle.gm_writing.proofs.Batches.{AreWhole, text_then}

-- they are whole lines
pub lines_whole : (p : Patches) (begin count : ℕ) → AreWhole (lines_of p begin count)
lines_whole p begin zero = inl refl
lines_whole p begin (suc count) =
    let before = lines_of p begin count in
    let key = following p.first_key.now (begin + count + 1) in
    let line = key ++ codes " " ++ words_of p (begin + count) in
    inr (before ++ line, sym (append_assoc before line (10 ∷ [])))

-- those of some commands, and of those after them
lines_more : (p : Patches) (begin count more : ℕ)
    → lines_of p begin (count + more) ≡ lines_of p begin count ++ lines_of p (begin + count) more
lines_more p begin count zero =
    let none : count + zero ≡ count = omega arith in
    ap (lines_of p begin) none ∙ sym (append-nil (lines_of p begin count))
lines_more p begin count (suc more) =
    let next : count + suc more ≡ suc (count + more) = omega arith in
    let place : begin + (count + more) ≡ begin + count + more = omega arith in
    ap (lines_of p begin) next
    ∙ ap₂ (λ (xs ys : List ℕ). xs ++ ys) (lines_more p begin count more) (ap (line_of p) place)
    ∙ append_assoc (lines_of p begin count) (lines_of p (begin + count) more)
    (line_of p (begin + count + more))

-- the commands of some turns were answered, of 16 each, and those of the next
pub turn_then : {S H : Type 0} (g : Ghosts S) (j : ShelfGhosts H) (p : Patches)
    (begin end turn from to : ℕ) (before mid now : Option (List ℕ)) (a b c : Bench S H)
    (result : Result Status Fault) → 16 * turn < end - begin → from ≡ begin + 16 * turn
    → to ≡ min (from + 16) end
    → AnswersText g j (lines_of p begin (min (16 * turn) (end - begin))) before mid a b (Ok Done)
    → AnswersText g j (lines_of p from (to - from)) mid now b c result
    → AnswersText g j (lines_of p begin (min (16 * (turn + 1)) (end - begin))) before now a c result
turn_then g j p begin end turn from to before mid now a b c result some is_from is_to first then =
    let count = min (16 * turn) (end - begin) in
    let next : from ≡ begin + count = omega (arith, some, is_from) in
    let all : min (16 * (turn + 1)) (end - begin) ≡ count + (to - from) =
    omega (arith, some, is_from, is_to) in
    subst (λ (text : List ℕ). AnswersText g j text before now a c result)
    (sym (ap (lines_of p begin) all ∙ lines_more p begin count (to - from)))
    (text_then g j (lines_of p begin count) (lines_of p (begin + count) (to - from))
    before mid now a b c result (lines_whole p begin count) first
    (subst (λ (n : ℕ). AnswersText g j (lines_of p n (to - from)) mid now b c result) next then))
