-- Where a cursor stands.
use Rattle.std.specs.Prelude.{◌≡◌, ℕ, ◌+◌, ◌≤◌, List, length}
use Rattle.argot_text.specs.Lines.{line_of, column_of}
use Rattle.argot_show.specs.declared.cursor.Cursor.{Cursor}

-- at a byte of the file or at its end, with its line and its column
pub record IsCursor (bytes : List ℕ) (cursor : Cursor) : Type 0 where
  pub within : cursor.at ≤ length bytes
  pub line : cursor.line ≡ line_of bytes cursor.at
  pub column : cursor.col ≡ column_of bytes cursor.at
  pub few_lines : cursor.line ≤ cursor.at + 1
  pub few_columns : cursor.col ≤ cursor.at + 1
