use Rattle.std.proofs.Common.{◌≡◌, ◌+◌, ◌++◌, ◌∷◌, [], true, take, get_or, sym, ◌∙◌, subst}
use Rattle.std.proofs.lemmas.List.{length-set, take_more}
use Rattle.argot_report.specs.Counted.{AreListed}
use Rattle.argot_report.proofs.Tables.{listed_more}
use Rattle.argot_report.proofs.counted.listed_in.Goals as goal

pub loop-h-preserved : goal.loop-h-preserved
loop-h-preserved c =
    let xs = c.args.list.now in
    let k = c.loop-h.h-index in
    let marks = c.loop-h.marks.items in
    let m = listed_more c.args.functions (take k xs) (get_or xs k 0) marks c.loop-h.invariant (length-set marks (get_or xs k 0) true) in
    subst (λ ys. AreListed c.args.functions ys c.mark.new.marks.items) (sym (take_more xs k 0 c.loop-h-test.true)) (subst (AreListed c.args.functions (take k xs ++ get_or xs k 0 ∷ [])) (sym c.mark.ensures) m)
