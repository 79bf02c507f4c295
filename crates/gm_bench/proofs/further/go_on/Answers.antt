use Rattle.gm_bench.proofs.Common.{◌≡◌, ◌∙◌, ◌<◌, ◌+◌, ◌++◌, ◌∷◌, [], ℕ, List, refl, sym, ap, subst, arith, map, take, drop, string_bytes, IsStretchedBy}
use Rattle.std.proofs.lemmas.List.{take-append-drop}
use Rattle.gm_changes.specs.Stretches.{IsUnfilled}
use Rattle.gm_state.specs.Lookups.{held_of}
use Rattle.gm_bench.proofs.StretchedBy.{next_key, stretched_then}
use Rattle.gm_bench.proofs.further.go_on.Goals as goal

pub stretch-requires : goal.stretch-requires
stretch-requires c =
    let k = c.in-Some.component in
    let un : IsUnfilled c.loop-key.change k = c.in-Some.ensures.some k refl in
    let few : un.held < 1048576 = un.few in
    let same : held_of k.disk ≡ un.held = ap held_of un.copying in
    omega arith

pub loop-key-preserved : goal.loop-key-preserved
loop-key-preserved c =
    let k = c.in-Some.component in
    let m = c.args.mirror.now in
    let i : ℕ = c.loop-key.key-index in
    let ks = map string_bytes c.args.keys.now in
    let key : List ℕ = string_bytes c.key-item.result in
    let more : take (i + 1) ks ≡ take i ks ++ key ∷ [] =
    next_key string_bytes c.args.keys.now i c.key-item.result (omega arith) c.key-item.is in
    record {
      stretched = subst (λ (l : List (List ℕ)). IsStretchedBy m l c.args.change
          c.stretch.new.self) (sym more) (subst (λ x. IsStretchedBy m (take i ks ++ key ∷ [])
          c.args.change x) (sym c.in_ok-stretch.ensures)
          (stretched_then m (take i ks) key c.args.change c.loop-key.change k _
          c.loop-key.invariant.stretched (c.in-Some.ensures.some k refl)
          (c.in_ok-key.ensures.ok ∙ c.deref.ensures, refl)));
    }

pub returns : goal.returns
returns c =
    let ks = map string_bytes c.args.keys.now in
    record {
      taken = take c.loop-key.key-index ks;
      rest = drop c.loop-key.key-index ks;
      all = take-append-drop c.loop-key.key-index ks;
      stretched = c.loop-key.invariant.stretched;
    }
