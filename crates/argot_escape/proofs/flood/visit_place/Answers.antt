use Rattle.std.proofs.Common.{sym, subst}
use Rattle.argot_plain.specs.Lists.{In}
use Rattle.argot_facts.specs.Pointing.{place_row}
use Rattle.argot_facts.proofs.Rowed.{has_row, row_has}
use Rattle.argot_escape.specs.Flooding.{AreAt, PlaceLeadsTo}
use Rattle.argot_escape.proofs.Finding.{finds_as}
use Rattle.argot_escape.proofs.flood.visit_place.Goals as goal

pub returns : goal.returns
returns c =
    let x = c.args.points.now in
    let r = place_row x c.args.z in
    finds_as (AreAt x.locations c.refers_at.result) (PlaceLeadsTo x c.args.z) c.args.found.now c.reach_row.new.found
    (λ m h. record { to = h.0; is_to = h.2; refers = row_has x.rows r h.0 (subst (In h.0) c.refers_at.ensures.all h.1) })
    (λ m h. (h.to, subst (In h.to) (sym c.refers_at.ensures.all) (has_row x.rows r h.to h.refers), h.is_to))
    c.reach_row.ensures
