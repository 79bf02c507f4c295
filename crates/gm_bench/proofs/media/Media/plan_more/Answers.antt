use Rattle.gm_bench.proofs.Common.{◌<◌, ℕ, List, Ok, Err, refl, sym, subst, map, take, drop, string_bytes, count_of, MayBeTaken, Tables, HasTables, DiskKept, Command}
use Rattle.std.proofs.lemmas.List.{take-map}
use Rattle.gm_commands.specs.declared.command.Command.TheVariants.{Advance}
use Rattle.gm_bench.specs.declared.judgement.Judgement.TheVariants.{New}
use Rattle.gm_bench.specs.Judgements.{TakesFurther}
use Rattle.gm_bench.proofs.LookedOn.{passed_on}
use Rattle.gm_bench.proofs.StretchedBy.{split_map}
use Rattle.gm_bench.proofs.TakenFurther.{goes_further, kept_judgement, keys_fail, plan_fails}
use Rattle.gm_bench.proofs.media.Media.plan_more.Goals as goal

pub returns-then-is_empty : goal.returns-then-is_empty
returns-then-is_empty g c =
    kept_judgement g.S.Store g.H.Shelf g.met.S.Store.settled g.met.H.Shelf.lawful c.args.self.now
    (New c.args.words c.args.planned) c.args.key.now (map string_bytes c.args.more.now)
    c.args.command.now

pub returns-in_default : goal.returns-in_default
returns-in_default g c =
    kept_judgement g.S.Store g.H.Shelf g.met.S.Store.settled g.met.H.Shelf.lawful c.args.self.now
    (New c.args.words c.args.planned) c.args.key.now (map string_bytes c.args.more.now)
    c.args.command.now

pub returns-in_default-mirror_to_fill : goal.returns-in_default-mirror_to_fill
returns-in_default-mirror_to_fill g c =
    kept_judgement g.S.Store g.H.Shelf g.met.S.Store.settled g.met.H.Shelf.lawful c.args.self.now
    (New c.args.words c.args.planned) c.args.key.now (map string_bytes c.args.more.now)
    c.args.command.now

pub returns-in_err-free : goal.returns-in_err-free
returns-in_err-free g c =
    let more : List (List ℕ) = map string_bytes c.args.more.now in
    let e = c.in_err-free.field-0.0 in
    let jd = New c.args.words c.args.planned in
    subst (λ r. TakesFurther g.S.Store g.H.Shelf c.args.self.now c.count_free.new.self r jd
    c.args.key.now more c.args.command.now)
    (sym (passed_on c.from_residual.result e c.from_residual.ensures.1))
    (keys_fail g.S.Store g.H.Shelf c.args.self.now c.count_free.new.self jd c.args.key.now more
    c.args.command.now e _ c.in_err-free.ensures.looks)

pub returns-in_err-planned : goal.returns-in_err-planned
returns-in_err-planned g c =
    let free = c.in_ok-free.free in
    let keys : List (List ℕ) = map string_bytes (take free c.args.more.now) in
    let rest : List (List ℕ) = map string_bytes (drop free c.args.more.now) in
    let e = c.in_err-planned.field-0.0 in
    let jd = New c.args.words c.args.planned in
    let may = c.in-Some.ensures c.in-Some.mirror refl in
    subst (λ r. TakesFurther g.S.Store g.H.Shelf c.args.self.now c.count_free.new.self r jd
    c.args.key.now (map string_bytes c.args.more.now) c.args.command.now)
    (sym (passed_on c.from_residual-in_err-planned.result e
    c.from_residual-in_err-planned.ensures.1))
    (subst (λ (l : List (List ℕ)). TakesFurther g.S.Store g.H.Shelf c.args.self.now
    c.count_free.new.self (Err e) jd c.args.key.now l c.args.command.now)
    (split_map string_bytes free c.args.more.now)
    (plan_fails g.S.Store g.H.Shelf c.args.self.now c.count_free.new.self c.args.words
    c.args.planned c.in-Some.mirror c.args.key.now keys rest free c.in_ok-free.ensures.looks.looks
    may.0 e c.args.command.now c.in_err-planned.ensures))

pub returns : goal.returns
returns g c =
    let free = c.in_ok-free.free in
    let keys : List (List ℕ) = map string_bytes (take free c.args.more.now) in
    let rest : List (List ℕ) = map string_bytes (drop free c.args.more.now) in
    let key : List ℕ = c.args.key.now in
    let mid = c.count_free.new.self in
    let q = c.in_ok-planned.planned in
    let jd = New c.args.words c.args.planned in
    let may = c.in-Some.ensures c.in-Some.mirror refl in
    let told : DiskKept g.S.Store mid.registry → (t : Tables)
    → HasTables g.S.Store c.args.self.now.registry t
    → (count_of t < 100000 → MayBeTaken key keys t) × HasTables g.S.Store mid.registry t =
    λ clean t has.
    let found = c.in_ok-free.ensures.looks.told clean t has in (
      λ few. subst (λ (l : List (List ℕ)). MayBeTaken key l t)
          (take-map string_bytes free c.args.more.now) (found.0 few),
      found.1,
    ) in
    subst (λ (command : Command). TakesFurther g.S.Store g.H.Shelf c.args.self.now mid
    (Ok (New c.args.words q)) jd key (map string_bytes c.args.more.now) command)
    (sym c.in-Advance.is)
    (subst (λ (l : List (List ℕ)). TakesFurther g.S.Store g.H.Shelf c.args.self.now mid
    (Ok (New c.args.words q)) jd key l (Advance c.in-Advance.name c.in-Advance.provider))
    (split_map string_bytes free c.args.more.now)
    (goes_further g.S.Store g.H.Shelf c.args.self.now mid c.args.words c.args.planned
    c.in-Some.mirror key keys rest free c.in_ok-free.ensures.looks.looks may.0 q
    c.in_ok-planned.ensures told c.in-Advance.name c.in-Advance.provider may.1
    g.met.H.Shelf.lawful))
