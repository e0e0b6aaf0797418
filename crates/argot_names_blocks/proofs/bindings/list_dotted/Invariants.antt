use Rattle.argot_names_blocks.specs.declared.lookup.QualifiedName.{QualifiedName}
use Rattle.argot_names_blocks.specs.Listing.{IsMemberName}
use Rattle.argot_names_blocks.specs.Listing.{ListsUpTo}
use Rattle.argot_names_blocks.proofs.bindings.list_dotted.Given as goal

abbrev pub invariant-loop-k : goal.invariant-loop-k
invariant-loop-k l = ListsUpTo (λ (x : QualifiedName). x.node) (IsMemberName l.nodes) l.k l.list.items
