use Rattle.std.proofs.Common.{◌≡◌, ◌+◌, length, inl, inr, sym, arith, subst}
use Rattle.std.proofs.lemmas.Bool.{cases_eq}
use Rattle.argot_plain.specs.Code.{IsFunction}
use Rattle.argot_facts.proofs.Listed.{get_at}
use Rattle.argot_report.proofs.owner.function_of.Goals as goal

pub returns-clause-is_in : goal.returns-clause-is_in
returns-clause-is_in c =
    let p = c.args.program.now in
    let ranges = c.function_count-high.ensures.well.ranges in
    let i = c.loop-low.invariant in
    let some = i.some in
    let inside = i.inside in
    let past = c.loop-low-test.false in
    let low = c.loop-low.low in
    let fn = get_at p.functions low (omega arith) in
    record {
      fn = fn.0;
      is = fn.1;
      low = i.low_end fn.0 fn.1;
      high = elim (cases_eq (low + 1) (length p.functions)) [
        | inl e ↦ let l = ranges.last low fn.0 fn.1 e in let r = c.requires in omega arith
        | inr n ↦
            let after = get_at p.functions (low + 1) (omega arith) in
            let e : c.loop-low.high ≡ low + 1 = omega arith in
            let b = i.high_end after.0 (subst (λ k. IsFunction p k after.0) (sym e) after.1) in
            let l = ranges.next low fn.0 after.0 fn.1 after.1 in
            omega arith
      ];
    }
