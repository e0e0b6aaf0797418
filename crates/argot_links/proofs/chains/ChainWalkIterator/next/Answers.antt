use Rattle.std.proofs.Common.{◌<◌, arith, rules}
use Rattle.argot_links.proofs.Chaining.{chain_step, chain_shorter}
use Rattle.argot_links.proofs.chains.ChainWalkIterator.next.Goals as goal

pub returns-clause-steps : goal.returns-clause-steps
returns-clause-steps c = let w = c.self.inside in
    let some : 0 < w.at = omega arith in
    rw (← c.self.view_is) (chain_step w.cells.now c.self.invariant.0 w.at some c.self.invariant.1)

pub returns-clause-goes : goal.returns-clause-goes
returns-clause-goes c = let w = c.self.inside in
    let some : 0 < w.at = omega arith in
    let shorter = chain_shorter w.cells.now c.self.invariant.0 w.at some c.self.invariant.1 in
    rw (← c.self.view_is) (search (rules, shorter))
