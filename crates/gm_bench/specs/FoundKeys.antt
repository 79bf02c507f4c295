-- What is found of a key, in the tables of a registry.
use Rattle.std.specs.Prelude.{◌≡◌, ◌≤◌, ◌<◌, ℕ, true, false, List}
use Rattle.gm_commands.specs.Commands.{is_key}
use Rattle.gm_state.specs.declared.intents.Reply.{Reply}
use Rattle.gm_state.specs.Rows.{Tables}
use Rattle.gm_refusals.specs.declared.refusals.CallRefusal.TheVariants.{ByRules, KeyTaken, NoKey, NoRoom}
use Rattle.gm_registry.specs.Replies.{AreWrittenUnder, IsFree, IsKept, count_of}
use Rattle.gm_bench.specs.declared.found_key.Expected.{Expected}
use Rattle.gm_bench.specs.declared.found_key.Expected.TheVariants.{LossOf, Words}
use Rattle.gm_bench.specs.declared.found_key.FoundKey.{FoundKey}
use Rattle.gm_bench.specs.declared.found_key.FoundKey.TheVariants.{Free, Kept, Refused}
use Rattle.gm_bench.specs.Without.{AreOfLoss}

-- the words are such as are expected
abbrev pub IsExpected : Expected → List ℕ → Type 0
IsExpected (Words words) kept = kept ≡ words.now
IsExpected (LossOf p) kept = AreOfLoss p kept

-- a command is kept under the key, with this number and reply, and such words
abbrev pub IsKeptAs : Tables → List ℕ → (List ℕ → Type 0) → ℕ → Reply → Type 0
IsKeptAs t key AreSuch n reply =
    (words : List ℕ) × IsKept t key n words reply × AreSuch words

-- one more command may be accepted, or as many were as there may be
abbrev pub TellsRoom : FoundKey → Tables → Type 0
TellsRoom Free t = count_of t < 100000
TellsRoom (Refused NoRoom) t = 100000 ≤ count_of t
TellsRoom _ t = ⊥

-- A key is kept for the words that are expected, or for others; it hasn't the form of one; or it is
-- free, and there is room for one more command or not.
abbrev pub TellsKey : List ℕ → (List ℕ → Type 0) → FoundKey → Tables → Type 0
TellsKey key AreSuch (Kept n reply) t = (is_key key ≡ true) × IsKeptAs t key AreSuch n reply
TellsKey key AreSuch (Refused KeyTaken) t =
    (is_key key ≡ true) × (n : ℕ) × (reply : Reply) × IsKeptAs t key (λ w. AreSuch w → ⊥) n reply
TellsKey key AreSuch (Refused NoKey) t = is_key key ≡ false
TellsKey key AreSuch (Refused NoRoom) t =
    (is_key key ≡ true) × IsFree t key × (100000 ≤ count_of t)
TellsKey key AreSuch (Refused (ByRules r)) t = ⊥
TellsKey key AreSuch Free t = (is_key key ≡ true) × IsFree t key × (count_of t < 100000)

-- there are no more commands than may be accepted
abbrev pub IsCounted : Tables → Type 0
IsCounted t = count_of t ≤ 100000

-- and those under the key are such as this program writes
abbrev pub AreReadUnder : List ℕ → Tables → Type 0
AreReadUnder key t = (count_of t ≤ 100000) × AreWrittenUnder key t
