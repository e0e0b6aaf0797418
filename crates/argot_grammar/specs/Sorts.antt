-- What a declaration declares, as the grammar has it.
use Rattle.argot_tree.specs.Grammar.{Sort, Constant, Variable, TypeSort}
use Rattle.argot_grammar.specs.declared.declarations.Declares.{Declares}
use Rattle.argot_grammar.specs.declared.declarations.Declares.TheVariants.{Constants, Variables, Types}

abbrev pub sort_of : Declares → Sort
sort_of Constants = Constant
sort_of Variables = Variable
sort_of Types = TypeSort
