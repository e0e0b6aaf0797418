use Rattle.argot_names_blocks.specs.declared.tops.TopName.{TopName}
use Rattle.argot_names_blocks.specs.Listing.{IsTopDeclared}
use Rattle.argot_names_blocks.specs.Listing.{ListsUpTo}
use Rattle.argot_names_blocks.proofs.bindings.list_tops.Given as goal

abbrev pub invariant-loop-k : goal.invariant-loop-k
invariant-loop-k l = ListsUpTo (λ (x : TopName). x.node) (IsTopDeclared l.t.nodes.now) l.k l.list.items
