use Rattle.std.proofs.Common.{◌≡◌, rules}
use Rattle.argot_plain.specs.Code.{reads}
use Rattle.argot_ssa.specs.Places.{reads_at}
use Rattle.argot_ssa.proofs.Listed.{each_one, all_of, reads_same, reads_range}
use Rattle.argot_ssa.proofs.registers.list_reads.Goals as goal

pub returns-clause-each : goal.returns-clause-each
returns-clause-each c =
    let list : c.push_reads.new.into.items ≡ reads c.kind.result.now = search rules in
    each_one c.push_reads.new.into.items (λ r. reads_at c.args.program.now c.args.function.now r c.args.k) (reads_same c.args.program.now c.args.function.now c.args.k c.kind.result.now c.kind.ensures _ list)

pub returns-clause-all : goal.returns-clause-all
returns-clause-all c =
    let list : c.push_reads.new.into.items ≡ reads c.kind.result.now = search rules in
    all_of c.push_reads.new.into.items (λ r. reads_at c.args.program.now c.args.function.now r c.args.k) (reads_same c.args.program.now c.args.function.now c.args.k c.kind.result.now c.kind.ensures _ list)

pub returns-clause-range : goal.returns-clause-range
returns-clause-range c =
    let list : c.push_reads.new.into.items ≡ reads c.kind.result.now = search rules in
    reads_range c.args.program.now c.requires.well c.requires.function.0 c.args.function.now c.requires.function.1 c.args.k c.requires.place c.kind.result.now c.kind.ensures _ list
