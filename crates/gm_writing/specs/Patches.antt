-- What each of the commands of a `write` says.
use Rattle.std.specs.Prelude.{ℕ, ◌+◌, ◌*◌, ◌++◌, List, [], codes, take, drop, zero, suc}
use Rattle.std.specs.Fmt.{decimal}
use Rattle.hex.specs.Hex.{encode_lower}
use Rattle.gm_by_itself.specs.Keys.{following}
use Rattle.gm_writing.specs.declared.patches.Patches.{Patches}

-- the bytes that a command writes, counted from 0: those of 64 sectors, or what is left
abbrev pub part_of : List ℕ → ℕ → List ℕ
part_of bytes index = take 32768 (drop (32768 * index) bytes)

-- its words up to the mirror's name
abbrev pub beginning_of : Patches → ℕ → List ℕ
beginning_of p index =
    codes "patch --first " ++ decimal (p.first + 64 * index) ++ codes " --data "
    ++ encode_lower (part_of p.bytes.now index)

-- its words as the registry keeps them
abbrev pub kept_words_of : Patches → ℕ → List ℕ
kept_words_of p index = beginning_of p index ++ codes " " ++ p.mirror

-- and as they are handed in
abbrev pub words_of : Patches → ℕ → List ℕ
words_of p index = beginning_of p index ++ codes " -- " ++ p.mirror

-- its line: its key and these words
abbrev pub line_of : Patches → ℕ → List ℕ
line_of p index =
    following p.first_key.now (index + 1) ++ codes " " ++ words_of p index ++ codes "\n"

-- the lines of so many commands from this one on
abbrev pub lines_of : Patches → ℕ → ℕ → List ℕ
lines_of p begin zero = []
lines_of p begin (suc more) = lines_of p begin more ++ line_of p (begin + more)
