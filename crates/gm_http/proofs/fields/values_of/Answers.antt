use Rattle.gm_http.proofs.Common.{◌∙◌, ◌+◌, ◌++◌, [], ◌∷◌, List, ℕ, ap, map, sym, str_eq_ignore_ascii_case, map-append}
use Rattle.std.specs.Borrow.{Bor}
use Rattle.gm_http.proofs.Named.{from, named, passed}
use Rattle.gm_http.proofs.fields.values_of.Goals as goal
use Rattle.gm_http.proofs.fields.values_of.Goals.{then-is_named+in_ok-push, else-is_named}

-- what is behind references
abbrev behind : List (Bor (List ℕ)) → List (List ℕ)
behind xs = map (λ x. x.now) xs

pub loop-header-preserved : goal.loop-header-preserved
loop-header-preserved c =
    let name = c.args.name.now in
    let bytes = c.args.bytes.now in
    let headers = c.args.headers.now in
    let i = c.loop-header.header-index in
    let made = c.loop-header.values.items in
    let rest = from name bytes headers (i + 1) in
    let asked = ap (λ (t : List ℕ). str_eq_ignore_ascii_case t name) (sym c.of.ensures)
    ∙ sym c.is_named.ensures in
    elim c.if-is_named.branch [
      | then-is_named+in_ok-push w ↦
          ap (λ t. behind t ++ rest) (ap (λ v. v.items) w.values-is ∙ w.in_ok-push.ensures.items)
          ∙ (ap (λ t. t ++ rest) (map-append (λ x. x.now) made (w.of-then-is_named.result ∷ [])
          ∙ ap (λ v. behind made ++ v ∷ []) w.of-then-is_named.ensures)
          ∙ named name bytes headers i _ (behind made) _ c.loop-header-test.true
          (asked ∙ w.if-is_named.true) c.loop-header.invariant)
      | else-is_named w ↦
          ap (λ v. behind v.items ++ rest) w.values-is
          ∙ passed name bytes headers i _ (behind made) _ c.loop-header-test.true
          (asked ∙ w.if-is_named.false) c.loop-header.invariant
    ]
