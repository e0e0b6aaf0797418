use Rattle.std.proofs.Common.{◌≡◌, ◌<◌, ◌+◌, length, take, take_all, ap, arith, sym}
use Rattle.argot_config.specs.Marking.{AreMarks, Gathers, IsMarked, MarksMore}
use Rattle.argot_config.proofs.Marked.{functions_marked, marks_more}
use Rattle.argot_config.proofs.Members.{whole_again}
use Rattle.argot_config.proofs.functions.functions.Goals as goal

pub loop-matcher-preserved : goal.loop-matcher-preserved
loop-matcher-preserved c =
    let p = c.args.program.now in
    let ms = c.args.matchers.now in
    let i = c.loop-matcher.matcher-index in
    let m = c.matcher-item.result in
    let old = c.loop-matcher.marks.items in
    let new = c.mark.new.marks in
    let more : MarksMore p m old new = rw c.as_mut_slice.ensures.value at c.in_ok-mark.ensures.marked in
    let within : i < length ms = omega arith in
    let next : AreMarks p (take (i + 1) ms) new = marks_more p ms i m old new within (sym c.matcher-item.is) c.loop-matcher.invariant more in
    let len : c.loop-matcher.marks.len ≡ length old = omega (arith, c.as_mut_slice.ensures.len, ap length c.as_mut_slice.ensures.value) in
    rw (whole_again new old c.loop-matcher.marks.len more.count len) next

pub returns : goal.returns
returns c =
    let p = c.args.program.now in
    let ms = c.args.matchers.now in
    let marks = c.loop-matcher.marks.items in
    let all : take c.loop-matcher.matcher-index ms ≡ ms = take_all c.loop-matcher.matcher-index ms (omega arith) in
    let marked : AreMarks p ms marks = rw all at c.loop-matcher.invariant in
    let found : Gathers (λ g. g) (IsMarked marks) (length marks) c.in_ok-found.found.items = rw c.as_slice.ensures.value at c.in_ok-found.ensures in
    rw c.from_vec.ensures (functions_marked p ms marks c.in_ok-found.found.items marked found)
