-- What is said of an image that something else uses.
use Rattle.std.specs.Prelude.{ℕ, ◌++◌, List, codes}
use Rattle.std.specs.Fmt.{decimal}
use Rattle.std.specs.String.{string_bytes}
use Rattle.gm_in_use.specs.declared.in_use.InUse.{InUse}
use Rattle.gm_in_use.specs.declared.uses.Use.{Use}
use Rattle.gm_in_use.specs.declared.uses.Use.TheVariants.{LoopDevice, Writer, Locked}

-- a process has it open for writing
abbrev pub writer_words : ℕ → List ℕ → List ℕ
writer_words process name = codes " is open for writing by process "
    ++ (decimal process ++ (codes " (" ++ (name ++ codes "): end that first")))

-- what uses it, and the way on
abbrev pub use_words : Use → List ℕ
use_words (LoopDevice device) =
    codes " backs " ++ (string_bytes device ++ codes ": detach it first")
use_words (Writer process name) = writer_words process (string_bytes name)
use_words Locked = codes " is locked by another program"

abbrev pub in_use_sentence : InUse → List ℕ
in_use_sentence found = found.image ++ use_words found.by
