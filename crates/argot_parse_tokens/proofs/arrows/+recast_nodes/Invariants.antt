use Rattle.std.proofs.Common.{length}
use Rattle.argot_parse_tokens.proofs.arrows.+recast_nodes.Given as goal

abbrev pub decreases-recast_nodes : goal.decreases-recast_nodes
decreases-recast_nodes l = length l.posts.now.items
