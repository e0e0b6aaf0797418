use Rattle.std.proofs.Common.{sym}
use Rattle.std.proofs.lemmas.Option.{slice_get_within}
use Rattle.argot_names_blocks.proofs.Around.{found_is, outside_is}
use Rattle.argot_names_blocks.proofs.blocks.block_around.Goals as goal

pub block_at-block-requires : goal.block_at-block-requires
block_at-block-requires c =
    let w = (c.innermost.ensures c.requires.0 c.requires.1).inside c.in-Some.k c.in-Some.is in
    slice_get_within c.args.blocks.now c.in-Some.k w.0 w.1

pub returns-in-Some : goal.returns-in-Some
returns-in-Some c =
    found_is c.requires.0 c.args.blocks.now c.requires.1 c.args.token c.in-Some.k c.block_at-block.result c.innermost.result (c.innermost.ensures c.requires.0 c.requires.1) c.in-Some.is c.block_at-block.ensures

pub returns-in-None : goal.returns-in-None
returns-in-None c = sym (outside_is c.requires.0 c.args.blocks.now c.requires.1 c.args.token ((c.innermost.ensures c.requires.0 c.requires.1).outside c.in-None.is))
