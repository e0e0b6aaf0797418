use Rattle.std.proofs.Common.{◌≡◌, ◌-◌, length, None, slice_index_or, sym, arith, rules}
use Rattle.argot_typed.specs.Counts.{known_at}
use Rattle.argot_typed.proofs.Counted.{field_below, fields_none}
use Rattle.argot_typed.proofs.counting.count_of_fields.Goals as goal

pub bounds : goal.bounds
bounds c =
    let within = c.loop-i.invariant.within in
    field_below (length c.args.counts.now) c.args.fields.now (c.loop-i.i - 1) c.index-fields-i.result c.requires (omega arith)

pub returns-in-None : goal.returns-in-None
returns-in-None c =
    let within = c.loop-i.invariant.within in
    let none : known_at c.args.counts.now (slice_index_or c.args.fields.now (c.loop-i.i - 1) c.index-fields-i.result).of.0 ≡ None = search rules in
    sym (fields_none (known_at c.args.counts.now) c.args.fields.now (c.loop-i.i - 1) c.index-fields-i.result (omega arith) none)
