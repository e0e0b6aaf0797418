-- Lines and columns of a byte in a file, and how a position is written.
use Rattle.std.specs.Prelude.{ℕ, ◌+◌, ◌==◌, List, [], ◌++◌, take, take_while, reverse, length, not, count_by, unwrap_or, slice_get, codes}
use Rattle.std.specs.Fmt.{decimal}
use Rattle.argot_text.specs.declared.position.Pos.{Pos}

-- the line of the byte at this offset, counted from 1: one more than there are newlines before it
abbrev pub line_of : List ℕ → ℕ → ℕ
line_of bytes offset = count_by (λ byte. byte == 10) (take offset bytes) + 1

-- its column in bytes, counted from 1: one more than there are bytes from it back to the last newline, or to the start
abbrev pub column_of : List ℕ → ℕ → ℕ
column_of bytes offset = length (take_while (λ byte. not (byte == 10)) (reverse (take offset bytes))) + 1

-- `PATH:LINE:COL`
abbrev pub position_text : List (List ℕ) → Pos → List ℕ
position_text names pos =
    unwrap_or (slice_get names pos.file) [] ++ codes ":" ++ decimal pos.line ++ codes ":" ++ decimal pos.col
