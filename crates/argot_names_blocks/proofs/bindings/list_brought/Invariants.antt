use Rattle.argot_names_blocks.specs.declared.binding.Binding.{Binding}
use Rattle.argot_names_blocks.specs.Binding.{IsBinding}
use Rattle.argot_names_blocks.specs.Listing.{ListsUpTo}
use Rattle.argot_names_blocks.proofs.bindings.list_brought.Given as goal

abbrev pub invariant-loop-k : goal.invariant-loop-k
invariant-loop-k l = ListsUpTo (λ (x : Binding). x.node) (IsBinding l.t.nodes.now) l.k l.list.items
