use Rattle.std.proofs.Common.{◌≡◌, ◌+◌, sym, subst}
use Rattle.argot_links.specs.Table.{row}
use Rattle.argot_points_rules.specs.Column.{reference}
use Rattle.argot_points.specs.Meaning.{Aimed}
use Rattle.argot_points.specs.Reading.{AreListed}
use Rattle.argot_points.specs.Solved.{Refers}
use Rattle.argot_points.proofs.Aims.{listed_call}
use Rattle.argot_points.proofs.Rows.{has_row, row_has}
use Rattle.argot_points.proofs.aiming.list_call.Goals as goal

pub mark_targets-requires-clause-alone : goal.mark_targets-requires-clause-alone
mark_targets-requires-clause-alone c = λ other args n k. (c.requires.only other args n k).0

pub returns-clause-listed : goal.returns-clause-listed
returns-clause-listed c =
    let s = c.args.system.now in
    let t = c.args.tables.now in
    let i = c.args.place in
    let call = c.args.calling.now in
    let marks = c.mark_targets.new.marks in
    let e : c.in_ok-by.by ≡ reference i call.callee.now call.args.now call.behind = c.in_ok-by.ensures.node in
    subst (λ xs. AreListed s t (i + 1) xs) (sym c.in_ok-push_marks.ensures.pairs)
    (listed_call s t i c.args.found.now.items (row marks 0) call.callee.now call.args.now call.behind c.requires.listed c.in_ok-push_marks.ensures.ascending c.requires.call c.requires.only c.requires.live
    (λ g takes aimed. has_row marks 0 g (c.mark_targets.ensures.there g takes (subst (λ b. Aimed s (Refers t) i b g takes) (sym e) aimed)))
    (λ g m. let x = c.mark_targets.ensures.only g (row_has marks 0 g m) in (x.0, subst (λ b. Aimed s (Refers t) i b g x.0) e x.1)))
