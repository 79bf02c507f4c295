use Rattle.gm_registry.proofs.Common.{◌≡◌, ◌∙◌, ◌+◌, ◌<◌, ◌++◌, ◌∷◌, [], ℕ, List, length, take, take_all, sym, ap, subst, inl, inr, arith, Row, Has, get_or}
use Rattle.std.proofs.lemmas.List.{take_more}
use Rattle.gm_lists.proofs.Lists.{Has-push}
use Rattle.gm_registry.specs.Named.{AreNamed, Names}
use Rattle.gm_registry.proofs.named.named_by.Goals as goal

-- a row more, whose images were added
one_more : (rows : List Row) (i : ℕ) (row : Row) (names more : List (List ℕ)) → i < length rows
    → row ≡ get_or rows i row → ((x : List ℕ) → Has names x → Has more x)
    → ((x : List ℕ) → Names row x → Has more x) → AreNamed (take i rows) names
    → AreNamed (take (i + 1) rows) more
one_more rows i row names more low is kept added before other x h named =
    let h' : Has (take i rows ++ row ∷ []) other =
    subst (λ (l : List Row). Has l other) (take_more rows i row low
    ∙ ap (λ (r : Row). take i rows ++ r ∷ []) (sym is)) h in
    elim (Has-push (take i rows) row other h') [
      | inl was ↦ kept x (before other x was named)
      | inr e ↦ added x (subst (λ (r : Row). Names r x) (sym e) named)
    ]

pub loop-row-preserved : goal.loop-row-preserved
loop-row-preserved c =
    one_more c.args.rows.now c.loop-row.row-index c.row-item.result c.loop-row.names.items _
    c.loop-row-test.true c.row-item.is c.in_ok-add_named.ensures.kept
    c.in_ok-add_named.ensures.added c.loop-row.invariant

pub returns : goal.returns
returns c =
    subst (λ (l : List Row). AreNamed l c.loop-row.names.items)
    (take_all c.loop-row.row-index c.args.rows.now c.loop-row-test.false) c.loop-row.invariant
