use Rattle.std.proofs.Common.{rules, ◌≡◌, ◌∷◌, subst, arith}
use Rattle.gm_registry.specs.Registry.{DiskKept}
use Rattle.gm_bench.specs.Benches.{registry_of}
use Rattle.gm_lines.specs.Asked.{Asked, asked_by, asked_of}
use Rattle.gm_words.specs.Lines.{texts}
use Rattle.gm_handing_in.specs.Guarded.{HadNothing}
use Rattle.gm_handing_in.proofs.OneGuarded.{had_before, had_one}
use Rattle.gm_handing_in.proofs.single.hand_in_one.Goals as goal

pub returns-in-Through-clause-guarded : goal.returns-in-Through-clause-guarded
returns-in-Through-clause-guarded g c images honest kept =
    let s = g.S.Store in
    let h = g.H.Shelf in
    let sees = c.in-Ok-true.ensures.sees in
    let after : DiskKept s (registry_of c.asked.new.bench) =
    omega (arith, c.tell-in-Through.ensures.clean, kept) in
    let mid : DiskKept s (registry_of c.passes.new.bench) =
    omega (arith, c.in-Through.ensures.clean, after) in
    let had = c.in-Through.ensures.guarded images (sees.only.keeps.honest honest) after in
    let asks : asked_of c.in_ok-request.request
    ≡ asked_by (c.args.one.key.now ∷ texts c.args.one.words.now) = search rules in
    had_one s h c.args.bench.now c.tell-in-Through.new.bench _ c.tell-in-Through.result
    (had_before s h c.args.bench.now c.passes.new.bench sees honest mid _
    (subst (λ (a : Asked). HadNothing s h c.passes.new.bench a) asks had))
