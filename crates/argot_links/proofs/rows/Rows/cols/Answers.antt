use Rattle.std.proofs.Common.{sym, ◌∙◌}
use Rattle.argot_links.proofs.Tables.{cols-table}
use Rattle.argot_links.proofs.rows.Rows.cols.Goals as goal

pub returns : goal.returns
returns c = rw (← c.self.view_is) (c.cols.ensures ∙ sym (cols-table c.self.inside.bits))
