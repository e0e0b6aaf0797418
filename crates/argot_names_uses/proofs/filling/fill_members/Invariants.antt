use Rattle.std.proofs.Common.{ℕ, List}
use Rattle.argot_typed.specs.declared.program.Decl.{Decl}
use Rattle.argot_names_rules.specs.declared.package_key.PackageKey.{PackageKey}
use Rattle.argot_names_rules.specs.Files.{SourceFiles}
use Rattle.argot_names_uses.specs.Faults.{IsFirstOf, MemberAt}
use Rattle.argot_names_uses.specs.Known.{IsIn, IsHere}
use Rattle.argot_names_uses.specs.UseTables.{IsFilled, Seen}
use Rattle.argot_names_uses.proofs.filling.fill_members.Given as goal

abbrev pub invariant-loop-k : goal.invariant-loop-k
invariant-loop-k l =
    ((h : SourceFiles) (main : List ℕ) (home : PackageKey) (decls : List Decl) (lone : ℕ) → IsHere h main home decls l.known l.names l.«package» l.file → IsFilled h l.known.reached.now decls (Seen l.names l.file lone 0 0) l.fn.table.items → IsFilled h l.known.reached.now decls (Seen l.names l.file lone l.k 0) l.table.items)
    × ((h : SourceFiles) (main : List ℕ) (home : PackageKey) → IsIn h main home l.known l.names l.«package» l.file → IsFirstOf (MemberAt h home l.file l.names.bindings.dotted.items) l.k l.first)
