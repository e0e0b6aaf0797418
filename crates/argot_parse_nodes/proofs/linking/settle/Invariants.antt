use Rattle.std.proofs.Common.{◌≡◌, length, reverse}
use Rattle.argot_parse_nodes.specs.Links.{settle}
use Rattle.argot_parse_nodes.proofs.linking.settle.Given as goal

abbrev pub invariant-loop-linker : goal.invariant-loop-linker
invariant-loop-linker l =
    settle l.linker.inner (reverse l.linker.outer.items) l.linker.at (reverse l.linker.nodes.items) ≡ settle l.initial.linker.inner (reverse l.initial.linker.outer.items) l.initial.linker.at (reverse l.initial.linker.nodes.items)

abbrev pub decreases-loop-linker : goal.decreases-loop-linker
decreases-loop-linker l = length l.linker.outer.items
