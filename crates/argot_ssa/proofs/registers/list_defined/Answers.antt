use Rattle.std.proofs.Common.{◌≡◌, ◌++◌, ◌==◌, cond, [], rules}
use Rattle.argot_plain.specs.Code.{defined}
use Rattle.argot_ssa.specs.Places.{numbers, defines_at}
use Rattle.argot_ssa.proofs.Listed.{each_one, all_of, defined_same, defined_range}
use Rattle.argot_ssa.proofs.registers.list_defined.Goals as goal

pub returns-clause-each : goal.returns-clause-each
returns-clause-each c =
    let list : c.push_defined.new.into.items ≡ cond (c.args.k == 0) (numbers c.args.function.now.params) [] ++ defined c.kind.result.now = search rules in
    each_one c.push_defined.new.into.items (λ r. defines_at c.args.program.now c.args.function.now r c.args.k) (defined_same c.args.program.now c.args.function.now c.args.k c.kind.result.now c.kind.ensures _ list)

pub returns-clause-all : goal.returns-clause-all
returns-clause-all c =
    let list : c.push_defined.new.into.items ≡ cond (c.args.k == 0) (numbers c.args.function.now.params) [] ++ defined c.kind.result.now = search rules in
    all_of c.push_defined.new.into.items (λ r. defines_at c.args.program.now c.args.function.now r c.args.k) (defined_same c.args.program.now c.args.function.now c.args.k c.kind.result.now c.kind.ensures _ list)

pub returns-clause-range : goal.returns-clause-range
returns-clause-range c =
    let list : c.push_defined.new.into.items ≡ cond (c.args.k == 0) (numbers c.args.function.now.params) [] ++ defined c.kind.result.now = search rules in
    defined_range c.args.program.now c.requires.well c.requires.function.0 c.args.function.now c.requires.function.1 c.args.k c.requires.place c.kind.result.now c.kind.ensures _ list
