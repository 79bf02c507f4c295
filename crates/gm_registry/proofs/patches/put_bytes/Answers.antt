use Rattle.gm_registry.proofs.Common.{◌≡◌, ◌∙◌, ◌==◌, ℕ, inl, inr, List, [], ◌∷◌, true, false, length, sym, ap, subst, arith, state, Tables, joined, with_bytes, with_patch, IsInside, AreShort, TakesBytes, TakesPatch}
use Rattle.gm_registry.proofs.InsideCalls.{all_done, did, no_call, then_fails}
use Rattle.gm_registry.proofs.patches.put_bytes.Goals as goal

-- the record of some bytes
some_patch : (bytes : List (List ℕ)) (blob : List ℕ) (t : Tables) → (length bytes == 0) ≡ false
    → blob ≡ joined bytes → with_patch blob t ≡ with_bytes bytes t
some_patch [] blob t some is = absurd (let e : true ≡ false = some in cc)
some_patch (x ∷ xs) blob t some is = ap (λ b. with_patch b t) is

-- if they are taken, so is their record
takes_patch : (bytes : List (List ℕ)) (blob : List ℕ) (t : Tables) → (length bytes == 0) ≡ false
    → blob ≡ joined bytes → TakesBytes bytes t → TakesPatch blob t
takes_patch bytes blob t some is takes = record {
  free = elim takes.free [
    | inl none ↦ absurd (let e : true ≡ false = sym (ap (λ (l : List (List ℕ)). length l == 0) none)
        ∙ some in cc)
    | inr free ↦ free
  ];
  short = subst (λ (b : List ℕ). AreShort b []) (sym is) takes.short;
}

pub returns-in_err-put_row : goal.returns-in_err-put_row
returns-in_err-put_row g c =
    then_fails g.S.Store c.from_residual.result _ _ _ (no_call g.S.Store c.args.tx.now)
    c.in_err-put_row.ensures (λ t fits room. takes_patch c.args.bytes.now
    c.as_flattened.result.now t (sym c.is_empty.ensures ∙ c.if-is_empty.false)
    c.as_flattened.ensures.value fits) c.from_residual.ensures.1

pub returns : goal.returns
returns g c =
    all_done g.S.Store _ _ _ (did g.S.Store c.in_ok-put_row.ensures)
    (λ first t. subst (λ (u : Tables). IsInside first (state g.S.Store c.put_row.new.tx.conn.now) u)
    (some_patch c.args.bytes.now c.as_flattened.result.now t
    (sym c.is_empty.ensures ∙ c.if-is_empty.false) c.as_flattened.ensures.value)) (omega arith)
