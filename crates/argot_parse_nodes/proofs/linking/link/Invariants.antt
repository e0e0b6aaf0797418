use Rattle.std.proofs.Common.{◌≡◌, length, reverse}
use Rattle.argot_parse_nodes.specs.Links.{linked}
use Rattle.argot_parse_nodes.specs.Linker.{seen}
use Rattle.argot_parse_nodes.proofs.linking.link.Given as goal

abbrev pub invariant-loop-post : goal.invariant-loop-post
invariant-loop-post l =
    linked (reverse l.behind.items) (seen l.linker) ≡ linked (reverse l.initial.behind.items) (seen l.initial.linker)

abbrev pub decreases-loop-post : goal.decreases-loop-post
decreases-loop-post l = length l.behind.items
