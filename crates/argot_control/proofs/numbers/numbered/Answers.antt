use Rattle.std.proofs.Common.{◌≡◌, ◌+◌, Some, length, false, sym, ap, ◌∙◌, subst}
use Rattle.std.proofs.lemmas.Option.{slice_get-get_or}
use Rattle.argot_facts.specs.Marked.{IsSet}
use Rattle.argot_control.specs.Numbering.{AreNumberedSoFar}
use Rattle.argot_control.proofs.Cutting.{length_more, numbered_more}
use Rattle.argot_control.proofs.numbers.numbered.Goals as goal

pub loop-k-preserved : goal.loop-k-preserved
loop-k-preserved c =
    let flags = c.args.flags.now in
    let numbers = c.loop-k.numbers.items in
    let number = c.loop-k.number in
    let next = c.behind-number.result in
    let k = c.loop-k.k in
    let count : length numbers ≡ k = c.loop-k.invariant.count in
    let more = numbered_more flags numbers number next c.loop-k.invariant.so_far c.behind-number.ensures.least c.behind-number.ensures.most
    (λ e. subst (IsSet flags) (sym count) (slice_get-get_or flags k false c.loop-k-test.true ∙ ap Some (c.behind-number.ensures.same e))) in
    record {
      count = ap length c.in_ok-push.ensures.items ∙ length_more numbers number ∙ ap (λ n. n + 1) count;
      so_far = subst (λ xs. AreNumberedSoFar flags xs next) (sym c.in_ok-push.ensures.items) more;
    }
