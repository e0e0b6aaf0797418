-- What a file that is not parsed has wrong.
use Rattle.std.specs.Prelude.{List}
use Rattle.argot_tree.specs.declared.token.Token.{Token}
use Rattle.argot_tree.specs.declared.tree.Tree.{Tree}
use Rattle.argot_tree.specs.Nesting.{IsTooDeep, IsShallow}
use Rattle.argot_tree.specs.Trees.{SpellsTree}
use Rattle.argot_grammar.specs.declared.fault.ParseFault.{ParseFault}
use Rattle.argot_grammar.specs.declared.fault.ParseFault.TheVariants as faults

-- no tree spells the tokens
abbrev pub SpellsNoTree : List Token → Type 0
SpellsNoTree tokens = (tree : Tree) → SpellsTree tree tokens → ⊥

abbrev pub IsSyntax : ParseFault → Type 0
IsSyntax (faults.Syntax token) = Unit {0}
IsSyntax _ = ⊥

-- a token is nested too deeply, and it is the first; or none is, and no tree spells the tokens
abbrev pub IsUnparsed : List Token → ParseFault → Type 0
IsUnparsed tokens (faults.Syntax token) = IsShallow tokens × SpellsNoTree tokens
IsUnparsed tokens (faults.TooDeep token) = IsTooDeep tokens token
IsUnparsed tokens faults.Memory = Unit {0}
