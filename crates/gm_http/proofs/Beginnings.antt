-- What the bytes that were read say of the input that they stand at the front of.
use Rattle.gm_http.proofs.Common.{◌≡◌, ◌∙◌, ◌≤◌, ℕ, sym, ap, subst, arith, List, [], ◌++◌, length, take, drop, Option, Some, None, IfSome, append-nil, append_assoc, length-append, take-append-drop, take-append-le, take-append_seam, IsAtEnd, HasNoRequest, ReadsRequest, RequestOverflows, HasNoHead, Takes}
use Rattle.std.proofs.KnownBytes.{Consumes-nil, Consumes-trans}
use Rattle.httparse.specs.Grammar.{print_request}

pub nothing_is_no_request : HasNoRequest []
unfolding print_request
nothing_is_no_request = λ h rest reads.
    let none = ap length reads.1 in
    absurd (omega (arith, simp length-append at none))

pub takes_nothing : (a : Option (List ℕ)) (bytes : List ℕ) → Takes a a bytes bytes
takes_nothing a bytes =
    record { more = []; consumed = Consumes-nil a; kept = sym (append-nil bytes) }

pub takes_more : (a b c : Option (List ℕ)) (x y z : List ℕ) → Takes a b x y → Takes b c y z
    → Takes a c x z
takes_more a b c x y z p q = record {
  more = p.more ++ q.more;
  consumed = Consumes-trans a b c p.more q.more p.consumed q.consumed;
  kept = q.kept ∙ ap (λ l. l ++ q.more) p.kept ∙ append_assoc x p.more q.more;
}

-- the input is the bytes and what is left
pub input_is : (input rest bytes : List ℕ) → Takes (Some input) (Some rest) [] bytes
    → input ≡ bytes ++ rest
input_is input rest bytes t = t.consumed ∙ ap (λ l. l ++ rest) (sym t.kept)

-- the input has ended, and no head came
pub ended : (a b : Option (List ℕ)) (bytes : List ℕ) → Takes a b [] bytes → IsAtEnd b
    → HasNoRequest bytes → IfSome a HasNoHead
ended None b bytes t end none = tt
ended (Some input) None bytes t end none = absurd t.consumed
ended (Some input) (Some rest) bytes t end none = λ h body has.
    let whole : input ≡ bytes =
    input_is input rest bytes t ∙ ap (λ l. bytes ++ l) end ∙ append-nil bytes in
    none h body (subst (λ l. ReadsRequest l h body) whole has.reads)

-- so many bytes have no head at their front
pub full : (a b : Option (List ℕ)) (bytes : List ℕ) → Takes a b [] bytes → 8192 ≤ length bytes
    → HasNoRequest bytes → IfSome a HasNoHead
full None b bytes t long none = tt
full (Some input) None bytes t long none = absurd t.consumed
full (Some input) (Some rest) bytes t long none = λ h body has.
    let n = length (print_request h) in
    let both : print_request h ++ body ≡ bytes ++ rest =
    sym has.reads.1 ∙ input_is input rest bytes t in
    let front : print_request h ≡ take n bytes =
    sym (take-append_seam (print_request h) body) ∙ ap (take n) both
    ∙ take-append-le n bytes rest (omega (arith, has.short)) in
    none h (drop n bytes) (
      has.reads.0,
      sym (take-append-drop n bytes)
          ∙ ap (λ l. l ++ drop n bytes) (sym front),
    )

-- whatever follows, the fields are too many
pub never : (a b : Option (List ℕ)) (bytes : List ℕ) → Takes a b [] bytes
    → RequestOverflows 64 bytes → IfSome a HasNoHead
never None b bytes t many = tt
never (Some input) None bytes t many = absurd t.consumed
never (Some input) (Some rest) bytes t many = λ h body has.
    let over = many rest h body
    (subst (λ l. ReadsRequest l h body) (input_is input rest bytes t) has.reads) in
    omega (arith, over, has.few)

-- what a read of a head needs
pub ruleset readings = (nothing_is_no_request, takes_nothing, takes_more, ended, full, never)
