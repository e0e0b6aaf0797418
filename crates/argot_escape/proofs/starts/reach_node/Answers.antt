use Rattle.std.proofs.Common.{sym, subst}
use Rattle.argot_plain.specs.Lists.{In}
use Rattle.argot_facts.proofs.Rowed.{has_row, row_has}
use Rattle.argot_escape.specs.Flooding.{AreAt, RowLeadsTo}
use Rattle.argot_escape.proofs.Finding.{finds_as}
use Rattle.argot_escape.proofs.starts.reach_node.Goals as goal

pub returns : goal.returns
returns c =
    let x = c.args.points.now in
    finds_as (AreAt x.locations c.refers.result) (RowLeadsTo x c.args.n) c.args.found.now c.reach_row.new.found
    (λ m h. record { to = h.0; is_to = h.2; refers = row_has x.rows c.args.n h.0 (subst (In h.0) c.refers.ensures.all h.1) })
    (λ m h. (h.to, subst (In h.to) (sym c.refers.ensures.all) (has_row x.rows c.args.n h.to h.refers), h.is_to))
    c.reach_row.ensures
