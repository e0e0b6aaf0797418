use Rattle.std.proofs.Common.{◌≡◌, ◌+◌, true, refl, sym, subst, arith}
use Rattle.argot_links.specs.Members.{has as waits}
use Rattle.argot_points.specs.Settled.{by_function}
use Rattle.argot_points.specs.Solved.{function_key}
use Rattle.argot_points.proofs.worklist.start.Goals as goal

pub returns-clause-settled : goal.returns-clause-settled
returns-clause-settled c = λ k o at stays quiet live.
    let s = c.args.system.now in
    let e : function_key s o.function ≡ c.len.result + c.len-2.result = omega (arith, c.begin.ensures.entry o.function live, c.len.ensures, c.len-2.ensures) in
    absurd (quiet (function_key s o.function) (by_function refl) (subst (λ n. waits c.put.new.self.items n ≡ true) (sym e) c.put.ensures.there))
