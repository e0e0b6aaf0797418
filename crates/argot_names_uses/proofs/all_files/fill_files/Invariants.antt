use Rattle.std.proofs.Common.{ℕ, List}
use Rattle.argot_typed.specs.declared.program.Decl.{Decl}
use Rattle.argot_names_rules.specs.Files.{SourceFiles}
use Rattle.argot_names_tops.specs.Tops.{AreTops}
use Rattle.argot_names_uses.specs.Known.{AreKnown}
use Rattle.argot_names_uses.specs.UseTables.{IsFilled, FilesBefore}
use Rattle.argot_names_uses.specs.Firsts.{IsFirstBelow}
use Rattle.argot_names_uses.proofs.all_files.fill_files.Given as goal

abbrev pub invariant-loop-file : goal.invariant-loop-file
invariant-loop-file l =
    ((h : SourceFiles) (main : List ℕ) (decls : List Decl) → AreKnown h main decls l.known → IsFilled h l.known.reached.now decls (FilesBefore 0) l.fn.table.items → IsFilled h l.known.reached.now decls (FilesBefore l.file) l.table.items)
    × ((h : SourceFiles) (main : List ℕ) → AreTops h main l.known.reached.now l.known.tops.now → IsFirstBelow h main l.file l.first)
