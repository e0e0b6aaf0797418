use Rattle.std.proofs.Common.{◌≡◌, Some, sym, ap, ◌∙◌, arith}
use Rattle.argot_plain.specs.Counts.{is_among, counted_as, stands_for}
use Rattle.argot_roles.specs.Counting.{flag_at}
use Rattle.argot_roles.proofs.Counting.{among_is}
use Rattle.argot_roles.proofs.Pushed.{answered_more, one_more}
use Rattle.argot_roles.proofs.targets.counted.Goals as goal

pub loop-h-preserved : goal.loop-h-preserved
loop-h-preserved c =
    let p = c.args.program.now in
    let n = c.loop-h.h in
    let i = c.loop-h.invariant in
    let list = c.args.numbers.now in
    let flags = c.in_ok-flags.flags.items in
    let among = among_is list c.function_count.result flags c.in_ok-flags.ensures (λ h m. omega (arith, c.requires h m, c.function_count.ensures.count)) (counted_as (Some c.function.result.now) n) in
    let told : c.flag_at.result ≡ flag_at flags (counted_as (Some c.function.result.now) n) = c.flag_at.ensures ∙ (ap (λ fs. flag_at fs c.counted_as.result) c.deref.ensures.value ∙ ap (flag_at flags) c.counted_as.ensures) in
    let is = told ∙ (among ∙ ap (λ o. is_among (counted_as o n) list) (sym c.function.ensures)) in
    record {
      count = one_more _ _ n c.flag_at.result c.in_ok-push.ensures.items i.count;
      each = answered_more (λ h. is_among (stands_for p h) list) _ _ n c.flag_at.result c.in_ok-push.ensures.items i.count is i.each;
    }

pub returns : goal.returns
returns c =
    record { count = c.loop-h.invariant.count ∙ omega (arith, c.function_count-h-end.ensures.count); each = c.loop-h.invariant.each }
