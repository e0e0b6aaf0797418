-- Spots as flags.
use Rattle.std.specs.Prelude.{◌≡◌, ℕ, ◌+◌, ◌≤◌, ◌==◌, if◌then◌else◌, List, length}
use Rattle.argot_text.specs.Lines.{line_of, column_of}
use Rattle.argot_text.specs.declared.sources.Sources.{Sources}
use Rattle.argot_names_rules.specs.declared.flag.Feature.{Feature}
use Rattle.argot_names_rules.specs.declared.flag.Feature.TheVariants as features
use Rattle.argot_names_rules.specs.declared.flag.Flag.{Flag}
use Rattle.argot_names_rules.specs.Subset.{Marked}
use Rattle.argot_names_imports.specs.Reads.{bytes_at}
use Rattle.argot_names_subset_file.specs.declared.spots.Spot.{Spot}
use Rattle.argot_names_subset.specs.declared.positions.Cursor.{Cursor}

-- the feature of a number in the order of features
abbrev pub feature_ranked : ℕ → Feature
feature_ranked r =
    if r == 0 then features.ImportUnsafe
    else if r == 1 then features.ImportReflect
    else if r == 2 then features.ImportC
    else if r == 3 then features.DotImport
    else if r == 4 then features.AssemblyFile
    else if r == 5 then features.Linkname
    else if r == 6 then features.BuildLine
    else if r == 7 then features.Embed
    else if r == 8 then features.TypeParameters
    else if r == 9 then features.FloatingPointLiteral
    else if r == 10 then features.ImaginaryLiteral
    else if r == 11 then features.FloatingPointType
    else if r == 12 then features.ComplexType
    else if r == 13 then features.ComplexBuiltIn
    else if r == 14 then features.Uintptr
    else if r == 15 then features.Comparable
    else if r == 16 then features.Recover
    else if r == 17 then features.Goto
    else if r == 18 then features.MethodExpression
    else if r == 19 then features.FunctionWithoutBody
    else features.GoLine

-- a spot as a feature at a place
abbrev pub marked_of : Spot → Marked
marked_of spot = record { feature = feature_ranked spot.rank; place = record { file = spot.file; offset = spot.offset } }

-- a spot as a flag
abbrev pub flagged : Sources → Spot → Flag
flagged sources spot =
    record {
      at = record {
        file = spot.file;
        line = line_of (bytes_at sources spot.file) spot.offset;
        col = column_of (bytes_at sources spot.file) spot.offset;
      };
      feature = feature_ranked spot.rank;
    }

-- the cursor stands at a byte, or at the end, and has its line and column
pub record IsAt (bytes : List ℕ) (c : Cursor) : Type 0 where
  pub inside : c.offset ≤ length bytes
  pub line : c.line ≡ line_of bytes c.offset
  pub column : c.col ≡ column_of bytes c.offset
  pub few_lines : c.line ≤ c.offset + 1
  pub few_columns : c.col ≤ c.offset + 1

-- of its file
abbrev pub IsCursor : Sources → Cursor → Type 0
IsCursor sources c = IsAt (bytes_at sources c.file) c
