use Rattle.std.proofs.Common.{rules, arith}
use Rattle.argot_names_subset_file.proofs.Entering.{keys_none, keys_more, keys_all}
use Rattle.argot_names_subset_file.proofs.entries.entry_table.Goals as goal

pub loop-k-init : goal.loop-k-init
loop-k-init c = keys_none c.args.entries.now c.new-keys.result (λ p r n. search rules)

pub loop-k-preserved : goal.loop-k-preserved
loop-k-preserved c = keys_more c.args.entries.now c.loop-k.k c.entry_at.result.now c.key_of.result c.loop-k.keys c.put.new.keys c.entry_at.ensures c.key_of.ensures c.loop-k.invariant c.in_ok-put.ensures

pub invariant_of-result : goal.invariant_of-result
invariant_of-result c = keys_all c.args.entries.now c.loop-k.k c.loop-k.keys (omega (arith, c.loop-k-test.false)) c.loop-k.invariant
