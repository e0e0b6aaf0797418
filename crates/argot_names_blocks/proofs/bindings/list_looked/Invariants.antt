use Rattle.argot_names_blocks.specs.declared.bindings.Lookup.{Lookup}
use Rattle.argot_names_blocks.specs.Listing.{ListsUpTo, IsSeen}
use Rattle.argot_names_blocks.proofs.bindings.list_looked.Given as goal

abbrev pub invariant-loop-k : goal.invariant-loop-k
invariant-loop-k l = ListsUpTo (λ (x : Lookup). x.node) (IsSeen l.nodes) l.k l.list.items
