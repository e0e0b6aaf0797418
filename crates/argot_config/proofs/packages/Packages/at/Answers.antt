use Rattle.std.proofs.Common.{◌<◌, length, arith}
use Rattle.argot_config.proofs.Numbered.{number_below, said_of}
use Rattle.argot_config.proofs.packages.Packages.at.Goals as goal

pub bounds-said-index : goal.bounds-said-index
bounds-said-index c =
    let r = c.requires.function in
    let below : c.index.result.now < length c.args.self.now.paths.keys = number_below r.0 c.args.self.now r.1.0 c.args.g c.index.result.now r.1.1 c.index.ensures in
    omega (arith, below, c.requires.said)

pub returns : goal.returns
returns c p fn s are is said = rw said (said_of p c.args.self.now are s c.args.g c.index.result.now fn is c.index.ensures)
