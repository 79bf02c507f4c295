use Rattle.gm_bench.proofs.Common.{◌≡◌, ◌∙◌, ◌<◌, ◌≤◌, ◌+◌, ◌-◌, ◌++◌, ◌∷◌, [], ℕ, List, Ok, refl, sym, ap, subst, arith, map, take, string_bytes, count_of, Tables, IsFreeBeside, MayBeTaken}
use Rattle.std.proofs.lemmas.List.{take-map}
use Rattle.gm_bench.specs.Asking.{LooksUp}
use Rattle.gm_bench.specs.Keys.{AreReadUnderAll}
use Rattle.gm_bench.proofs.FurtherKeys.{AreCounted, counted_free, counted_more, key_read}
use Rattle.gm_bench.proofs.LookedOn.{counted, looked_as, looked_fault, looked_on, passed_on}
use Rattle.gm_bench.proofs.StretchedBy.{next_key}
use Rattle.gm_bench.proofs.media.Media.count_free.Goals as goal
use Rattle.gm_bench.proofs.media.Media.count_free.Goals.{else-loop-key-test, then-loop-key-test+then-free-room, then-loop-key-test+else-free-room+in_ok-may_take+then-not-branch}

pub loop-key-init : goal.loop-key-init
loop-key-init g c =
    let n : ℕ = c.in_ok-accepted.accepted in
    let room : ℕ = c.saturating_sub-room.result in
    record {
      each = refl;
      few = omega arith;
      looked = looked_as g.S.Store c.args.self.now c.accepted.new.self n 0 _ _ _ _
          (counted g.S.Store c.args.self.now c.accepted.new.self n (λ t. Unit {0}) c.in_ok-accepted.ensures)
          (λ t e. (
            (let some : c.from.result ≡ 99999 = c.from.ensures in
                let left : room ≡ c.from.result - n = c.saturating_sub-room.ensures in
                omega arith),
            tt,
          ));
    }

pub returns-in_err-may_take-clause-looks : goal.returns-in_err-may_take-clause-looks
returns-in_err-may_take-clause-looks g c =
    let e = c.in_err-may_take.field-0.0 in
    let passed = passed_on c.from_residual-in_err-may_take.result e
    c.from_residual-in_err-may_take.ensures.1 in
    subst (λ r. LooksUp g.S.Store c.args.self.now c.may_take.new.self r
    (λ n t. count_of t < 100000
    → MayBeTaken c.args.first.now (take n (map string_bytes c.args.keys.now)) t)
    (AreReadUnderAll (map string_bytes c.args.keys.now))) (sym passed)
    (looked_fault g.S.Store c.args.self.now c.loop-key.self c.may_take.new.self c.loop-key.free _ _
    c.loop-key.invariant.looked e _ _ _ _ c.in_err-may_take.ensures
    (λ t are. key_read string_bytes c.args.keys.now c.loop-key.key-index c.key-item.result
    c.deref.result.now t (omega arith) c.key-item.is c.deref.ensures are))

pub loop-key-preserved : goal.loop-key-preserved
loop-key-preserved g c =
    let n : ℕ = c.loop-key.free in
    let i : ℕ = c.loop-key.key-index in
    let each : n ≡ i = c.loop-key.invariant.each in
    let keys = map string_bytes c.args.keys.now in
    let key = c.deref.result.now in
    let taken = map string_bytes (take n c.args.keys.now) in
    let next : take (i + 1) keys ≡ take i keys ++ string_bytes c.key-item.result ∷ [] =
    next_key string_bytes c.args.keys.now i c.key-item.result (omega arith) c.key-item.is in
    let more : take (n + 1) keys ≡ take n keys ++ key ∷ [] =
    subst (λ (j : ℕ). take (j + 1) keys ≡ take j keys ++ key ∷ []) (sym each)
    (next ∙ ap (λ (k : List ℕ). take i keys ++ k ∷ []) (sym c.deref.ensures)) in
    record {
      each = omega arith;
      few = omega arith;
      looked = looked_on g.S.Store c.args.self.now c.loop-key.self c.may_take.new.self n _ _
          c.loop-key.invariant.looked c.in_ok-may_take.field-0 (n + 1) _ _ _ _
          c.in_ok-may_take.ensures
          (λ t are free. counted_more c.args.first.now keys c.saturating_sub-room.result n key taken
          t (sym (take-map string_bytes n c.args.keys.now)) more are
          (subst (λ b. IsFreeBeside key c.args.first.now taken b t) c.if-not-branch.false free));
    }

pub returns-clause-looks : goal.returns-clause-looks
returns-clause-looks g c =
    let n : ℕ = c.loop-key.free in
    let few : n ≤ c.saturating_sub-room.result = c.loop-key.invariant.few in
    let keys = map string_bytes c.args.keys.now in
    let Tells : ℕ → Tables → Type 0 =
    λ n t. count_of t < 100000 → MayBeTaken c.args.first.now (take n keys) t in
    let so : (t : Tables) → AreCounted c.args.first.now keys c.saturating_sub-room.result n t
    → Tells n t =
    λ t are. counted_free c.args.first.now keys c.saturating_sub-room.result n t few are in
    elim c.loop-key-test.branch [
      | else-loop-key-test w ↦ subst (λ m. LooksUp g.S.Store c.args.self.now m (Ok n) Tells
          (AreReadUnderAll keys)) (sym w.self-is) (looked_as g.S.Store c.args.self.now
          c.loop-key.self n n _ _ _ _ c.loop-key.invariant.looked so)
      | then-loop-key-test+then-free-room w ↦ subst (λ m. LooksUp g.S.Store c.args.self.now m
          (Ok n) Tells (AreReadUnderAll keys)) (sym w.self-is) (looked_as g.S.Store
          c.args.self.now c.loop-key.self n n _ _ _ _ c.loop-key.invariant.looked so)
      | then-loop-key-test+else-free-room+in_ok-may_take+then-not-branch w ↦
          subst (λ m. LooksUp g.S.Store c.args.self.now m (Ok n) Tells (AreReadUnderAll keys))
          (sym w.self-is) (looked_on g.S.Store c.args.self.now c.loop-key.self w.may_take.new.self
          n _ _ c.loop-key.invariant.looked w.in_ok-may_take.field-0 n _ _ _ _
          w.in_ok-may_take.ensures (λ t are free. so t are))
    ]
