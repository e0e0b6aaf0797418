use Rattle.std.proofs.Common.{rules}
use Rattle.argot_names_tops.proofs.Noting.{entries_none, entries_more}
use Rattle.argot_names_tops.proofs.entries.entries_of.Goals as goal

pub loop-k-init : goal.loop-k-init
loop-k-init c = entries_none c.args.items.now c.new-entries.result (λ scope name. search rules)

pub loop-k-preserved : goal.loop-k-preserved
loop-k-preserved c =
    entries_more c.args.items.now c.loop-k.k c.item_at.result.now c.loop-k.entries c.note.new.entries
    c.item_at.ensures c.loop-k.invariant c.in_ok-note.ensures
