use Rattle.std.proofs.Common.{◌<◌, ◌≤◌, length, get_or, subst}
use Rattle.argot_typed.specs.Leaves.{leaf_count_of}
use Rattle.argot_typed.proofs.Counted.{field_below}
use Rattle.argot_typed.proofs.Onward.{is_found, later_there, later_few, later_same}
use Rattle.argot_typed.proofs.paths.find_field.Goals as goal

pub leaf_count-count-requires : goal.leaf_count-count-requires
leaf_count-count-requires c = field_below (length c.args.table.now) c.args.fields.now c.loop-k.k c.index-fields-k.result c.requires.in_range c.loop-k-test.true

pub returns-then-left-count : goal.returns-then-left-count
returns-then-left-count c =
    let i = c.loop-k.invariant in
    let within : c.loop-k.left < leaf_count_of c.args.table.now (get_or c.args.fields.now c.loop-k.k c.index-fields-k.result).of.0 = subst (λ m. c.loop-k.left < m) c.leaf_count-count.ensures c.if-left-count.true in
    is_found c.args.table.now c.args.fields.now c.args.n c.loop-k.k c.loop-k.left c.index-fields-k.result c.loop-k-test.true i.there i.few i.same within

pub loop-k-preserved : goal.loop-k-preserved
loop-k-preserved c =
    let i = c.loop-k.invariant in
    let past : leaf_count_of c.args.table.now (get_or c.args.fields.now c.loop-k.k c.index-fields-k.result).of.0 ≤ c.loop-k.left = subst (λ m. m ≤ c.loop-k.left) c.leaf_count-count.ensures c.if-left-count.false in
    rw c.leaf_count-count.ensures (record {
      there = later_there c.args.table.now c.args.fields.now c.args.n c.loop-k.k c.loop-k.left c.index-fields-k.result c.loop-k-test.true i.there i.few i.same past;
      few = later_few c.args.table.now c.args.fields.now c.args.n c.loop-k.k c.loop-k.left c.index-fields-k.result c.loop-k-test.true i.there i.few i.same past;
      same = later_same c.args.table.now c.args.fields.now c.args.n c.loop-k.k c.loop-k.left c.index-fields-k.result c.loop-k-test.true i.there i.few i.same past;
    })
