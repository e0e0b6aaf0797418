-- The parts that are read by themselves, and what it says that none was.
use Rattle.std.specs.Prelude.{ℕ, ◌≤◌, true, List}
use Rattle.argot_tree.specs.declared.token.Token.{Token}
use Rattle.argot_tree.specs.Grammar as grammar
use Rattle.argot_tree.specs.Trees.{BeginsNoPart}
use Rattle.argot_grammar.specs.declared.fault.ParseFault.{ParseFault}
use Rattle.argot_grammar.specs.declared.fault.ParseFault.TheVariants as faults
use Rattle.argot_grammar.specs.declared.alone.Part.{Part}
use Rattle.argot_grammar.specs.declared.alone.Part.TheVariants as parts
use Rattle.argot_grammar.specs.declared.alone.Alone.{Alone}
use Rattle.argot_grammar.specs.declared.alone.Alone.TheVariants.{Expression, Other}

-- the part of the grammar that is meant
abbrev pub part_of : Part → grammar.Part
part_of parts.Kinds = grammar.AnyType
part_of parts.Params = grammar.Params true
part_of parts.Sig = grammar.Signature
part_of parts.Decl = grammar.Decl
part_of parts.Block = grammar.Block

abbrev pub alone_part : Alone → grammar.Part
alone_part (Expression bare) = grammar.Level 1 bare
alone_part (Other part) = part_of part

-- no such part begins there, or there was no memory; nesting is never the cause
abbrev pub IsNoPart : List Token → grammar.Part → ℕ → ParseFault → Type 0
IsNoPart tokens part at (faults.Syntax token) = BeginsNoPart tokens part at
IsNoPart tokens part at (faults.TooDeep token) = ⊥
IsNoPart tokens part at faults.Memory = Unit {0}

-- the token that a fault of syntax names is one of so many, or their number
abbrev pub NamesUpTo : ℕ → ParseFault → Type 0
NamesUpTo count (faults.Syntax token) = token ≤ count
NamesUpTo count (faults.TooDeep token) = Unit {0}
NamesUpTo count faults.Memory = Unit {0}
