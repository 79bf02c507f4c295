use Rattle.gm_handing_in.proofs.OneGuarded.{seen_at, sees_itself, sees_on, sees_only, sees_then, whatever}
use Rattle.gm_handing_in.proofs.single.passes.Goals.{then-not-uses-via-then-not-uses, then-not-uses-via-else-not-uses+then-not-is_key, then-not-uses-via-else-not-uses+else-not-is_key+in_ok-kept+then-is_some, else-images-via-then-images+in_ok-in_the_way+else-not-is_empty, else-images-via-else-images}
use Rattle.gm_handing_in.proofs.single.passes.Goals as goal

pub returns-then-not-uses-clause-sees : goal.returns-then-not-uses-clause-sees
returns-then-not-uses-clause-sees g c =
    elim c.then-not-uses.branch [
      | then-not-uses-via-then-not-uses w ↦
          seen_at g.S.Store g.H.Shelf _ _ _ w.bench-is (sees_itself g.S.Store g.H.Shelf _)
      | then-not-uses-via-else-not-uses+then-not-is_key w ↦
          seen_at g.S.Store g.H.Shelf _ _ _ w.bench-is (sees_itself g.S.Store g.H.Shelf _)
      | then-not-uses-via-else-not-uses+else-not-is_key+in_ok-kept+then-is_some w ↦
          seen_at g.S.Store g.H.Shelf _ _ _ w.bench-is
          (sees_on g.S.Store g.H.Shelf _ _ _ w.in_ok-kept.ensures.looks)
    ]

pub returns-then-not-branch-clause-sees : goal.returns-then-not-branch-clause-sees
returns-then-not-branch-clause-sees g c =
    let s = g.S.Store in
    let h = g.H.Shelf in
    let first = sees_on s h _ _ _ c.in_ok-kept.ensures.looks in
    let last = sees_on s h _ _ _ c.in_ok-state.ensures.looks in
    elim c.else-images.branch [
      | else-images-via-then-images+in_ok-in_the_way+else-not-is_empty w ↦
          sees_then s h _ _ _ first (sees_then s h _ _ _ (seen_at s h _ _ _ w.bench-is
          (sees_only s h _ _ _ w.in_ok-in_the_way.ensures.looks)) last)
      | else-images-via-else-images w ↦
          sees_then s h _ _ _ (seen_at s h _ _ _ w.bench-is first) last
    ]

pub returns-then-not-losses-clause-sees : goal.returns-then-not-losses-clause-sees
returns-then-not-losses-clause-sees g c =
    let s = g.S.Store in
    let h = g.H.Shelf in
    let first = sees_on s h _ _ _ c.in_ok-kept.ensures.looks in
    let last = sees_on s h _ _ _ c.in_ok-state.ensures.looks in
    elim c.else-images.branch [
      | else-images-via-then-images+in_ok-in_the_way+else-not-is_empty w ↦
          sees_then s h _ _ _ first (sees_then s h _ _ _ (seen_at s h _ _ _ w.bench-is
          (sees_only s h _ _ _ w.in_ok-in_the_way.ensures.looks)) last)
      | else-images-via-else-images w ↦
          sees_then s h _ _ _ (seen_at s h _ _ _ w.bench-is first) last
    ]

pub returns-clause-sees : goal.returns-clause-sees
returns-clause-sees g c =
    let s = g.S.Store in
    let h = g.H.Shelf in
    let first = sees_on s h _ _ _ c.in_ok-kept.ensures.looks in
    let last = sees_on s h _ _ _ c.in_ok-state.ensures.looks in
    whatever c.lets_go.result (elim c.else-images.branch [
      | else-images-via-then-images+in_ok-in_the_way+else-not-is_empty w ↦
          sees_then s h _ _ _ first (sees_then s h _ _ _ (seen_at s h _ _ _ w.bench-is
          (sees_only s h _ _ _ w.in_ok-in_the_way.ensures.looks)) last)
      | else-images-via-else-images w ↦
          sees_then s h _ _ _ (seen_at s h _ _ _ w.bench-is first) last
    ])
