use Rattle.std.proofs.Common.{ℕ, List}
use Rattle.argot_typed.specs.declared.program.Decl.{Decl}
use Rattle.argot_names_rules.specs.declared.package_key.PackageKey.{PackageKey}
use Rattle.argot_names_rules.specs.Files.{SourceFiles}
use Rattle.argot_names_uses.specs.Faults.{IsFirstOf, LoneAt}
use Rattle.argot_names_uses.specs.Known.{IsIn, IsHere}
use Rattle.argot_names_uses.specs.UseTables.{IsFilled, Seen}
use Rattle.argot_names_uses.proofs.filling.fill_lones.Given as goal

abbrev pub invariant-loop-k : goal.invariant-loop-k
invariant-loop-k l =
    ((h : SourceFiles) (main : List ℕ) (home : PackageKey) (decls : List Decl) → IsHere h main home decls l.known l.names l.«package» l.file → IsFilled h l.known.reached.now decls (Seen l.names l.file 0 0 0) l.fn.table.items → IsFilled h l.known.reached.now decls (Seen l.names l.file l.k 0 0) l.table.items)
    × ((h : SourceFiles) (main : List ℕ) (home : PackageKey) → IsIn h main home l.known l.names l.«package» l.file → IsFirstOf (LoneAt h home l.file l.names.bindings.looked.items) l.k l.first)
