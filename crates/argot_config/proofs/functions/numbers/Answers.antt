use Rattle.std.proofs.Common.{◌≡◌, Some, true, false, slice_get, get_or, length, ap, arith, ◌∙◌}
use Rattle.std.proofs.lemmas.Option.{slice_get-get_or}
use Rattle.argot_config.specs.Marking.{IsMarked}
use Rattle.argot_config.proofs.Gathering.{gathers_none}
use Rattle.argot_config.proofs.Marked.{number_push, number_skip}
use Rattle.argot_config.proofs.functions.numbers.Goals as goal
use Rattle.argot_config.proofs.functions.numbers.Goals.{then-marks-g+in_ok-push, else-marks-g}

pub loop-g-init : goal.loop-g-init
loop-g-init c = rw c.new-found.ensures.items (gathers_none (λ g. g) (IsMarked c.args.marks.now))

pub loop-g-preserved : goal.loop-g-preserved
loop-g-preserved c =
    let marks = c.args.marks.now in
    let g = c.loop-g.g in
    let at : slice_get marks g ≡ Some (get_or marks g false) = slice_get-get_or marks g false (omega arith) in
    elim c.if-marks-g.branch [
      | then-marks-g+in_ok-push w ↦
          let t : slice_get marks g ≡ Some true = at ∙ ap Some w.if-marks-g.true in
          rw (w.found-is, w.in_ok-push.ensures.items) (number_push marks g c.loop-g.found.items c.loop-g.invariant t)
      | else-marks-g w ↦
          let f : slice_get marks g ≡ Some false = at ∙ ap Some w.if-marks-g.false in
          rw w.found-is (number_skip marks g c.loop-g.found.items c.loop-g.invariant f)
    ]

pub returns : goal.returns
returns c =
    let end : c.loop-g.g ≡ length c.args.marks.now = omega arith in
    rw end at c.loop-g.invariant
