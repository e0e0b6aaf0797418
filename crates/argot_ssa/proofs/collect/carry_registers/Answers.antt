use Rattle.std.proofs.Common.{◌≡◌, length, inl, inr, arith}
use Rattle.std.proofs.lemmas.Bool.{cases_eq}
use Rattle.argot_ssa.proofs.collect.carry_registers.Goals as goal

pub loop-r-preserved : goal.loop-r-preserved
loop-r-preserved c =
    let e = c.in_ok-carry.ensures in
    let i = c.loop-r.invariant in
    record {
      work = e.work;
      kept = λ x h. e.kept x (i.kept x h);
      only = λ x h. elim (e.only x h) [ inl old ↦ i.only x old | inr new ↦ inr new ];
      there = λ x f low exposed. elim (cases_eq x.1 c.loop-r.r) [
        | inl same ↦ e.there x f same exposed
        | inr other ↦ e.kept x (i.there x f (omega arith) exposed)
      ];
    }

pub returns-clause-there : goal.returns-clause-there
returns-clause-there c = λ x f low exposed.
    let all = c.loop-r-test.false in
    let count : c.in_ok-r-end.r-end ≡ length c.args.function.now.registers = c.in_ok-r-end.ensures in
    c.loop-r.invariant.there x f (omega arith) exposed
