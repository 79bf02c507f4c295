-- Series of calls, which are handed in one after another: how each is answered, which was the last
-- that was done, and under which keys.
use Rattle.std.specs.Prelude.{◌≡◌, ◌≢◌, ◌⊎◌, ◌+◌, ◌-◌, ◌^◌, ℕ, zero, suc, List, [], ◌∷◌, ◌++◌, codes, flat_map, length, map, min}
use Rattle.std.specs.Fmt.{decimal}
use Rattle.gm_lists.specs.Ordered.{Has}
use Rattle.gm_commands.specs.declared.command.Command.{Command}
use Rattle.gm_state.specs.World.{World}
use Rattle.gm_rules.specs.AbstractCalls.{Call, Run}
use Rattle.gm_rules.specs.AbstractCalls as run
use Rattle.gm_rules.specs.Series.{DoneFrom, Steps}
use Rattle.gm_bench.specs.declared.answer.Answer.{Answer}
use Rattle.gm_bench.specs.declared.answer.Answer.TheVariants.{Done, Repeated, Refused}
use Rattle.gm_bench.specs.declared.answer.SeriesAnswer.{SeriesAnswer}

-- a series: one call or more, and each of them fits
abbrev pub AllFit : (Command → Type 0) → List Call → Type 0
AllFit Fit calls = (calls ≢ []) × ((call : Call) → Has calls call → Fit call.command)

-- each of these is a series whose calls fit
abbrev pub EachFits : (Command → Type 0) → List (List Call) → Type 0
EachFits Fit handed = (calls : List Call) → Has handed calls → AllFit Fit calls

-- the calls of these series, one after another
abbrev pub calls_in : List (List Call) → List Call
calls_in handed = flat_map (λ calls. calls) handed

-- A series of calls is answered so, and takes u to w: all are done, numbered on from n and the last
-- with this reply; or there is one, and it isn't done.
abbrev pub IsAnswered : World → List Call → World → Answer → Type 0
IsAnswered u calls w (Done n reply) =
    (answers : List run.Answer) × Run u calls w answers × DoneFrom n reply answers
IsAnswered u calls w (Repeated n reply) =
    (call : Call) × (calls ≡ call ∷ []) × run.Calls u call w (run.Repeated n reply)
IsAnswered u calls w (Refused why) =
    (call : Call) × (calls ≡ call ∷ []) × run.Calls u call w (run.Refused why)

-- series one after another take u to w
abbrev pub InSeries : World → List (List Call) → World → Type 0
InSeries u [] w = w ≡ u
InSeries u (calls ∷ more) w =
    (v : World) × (answer : Answer) × IsAnswered u calls v answer × InSeries v more w

-- the last of these series that was done, in one commit, led from before to world
pub record IsLastDone (u : World) (handed : List (List Call)) (before world : World) : Type 0 where
  pub older : List (List Call)
  pub calls : List Call
  pub newer : List (List Call)
  pub all : handed ≡ older ++ calls ∷ newer
  pub run : InSeries u older before
  pub steps : Steps before calls world

-- What waits to be settled after these series leads from before to world: nothing, what waited
-- before them and led from v to u, or the last of them that was done.
abbrev pub IsLast : World → World → List (List Call) → World → World → Type 0
IsLast v u handed before world =
    (before ≡ world) ⊎ (((before ≡ v) × (world ≡ u)) ⊎ IsLastDone u handed before world)

-- ---- keys

-- the key of a number
abbrev pub key_of : ℕ → List ℕ
key_of n = codes "sync-" ++ decimal n

-- a number, or the last one that there is
abbrev pub up_to_last : ℕ → ℕ
up_to_last n = min n (2 ^ 64 - 1)

-- the keys after a number, so many
abbrev pub keys_after : ℕ → ℕ → List (List ℕ)
keys_after n zero = []
keys_after n (suc count) = key_of (up_to_last (n + 1)) ∷ keys_after (n + 1) count

-- the calls have these keys
abbrev pub AreKeyedAfter : ℕ → List Call → Type 0
AreKeyedAfter n calls = map (λ call. call.key) calls ≡ keys_after n (length calls)

-- how many keys an answer to a series uses: those of what is done, or the first
abbrev pub used_for : Answer → ℕ → ℕ
used_for (Done n reply) count = count
used_for (Repeated n reply) count = 1
used_for (Refused why) count = 1

abbrev pub used_by : SeriesAnswer → ℕ
used_by answered = used_for answered.answer answered.count
