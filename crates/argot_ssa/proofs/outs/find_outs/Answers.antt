use Rattle.std.proofs.Common.{arith}
use Rattle.std.proofs.lemmas.Bool.{both_ways}
use Rattle.argot_ssa.proofs.Pushed.{none_leads}
use Rattle.argot_ssa.proofs.outs.find_outs.Goals as goal

pub visit_all_back-requires-clause-outs : goal.visit_all_back-requires-clause-outs
visit_all_back-requires-clause-outs c =
    let none = none_leads _ _ c.in_ok-outs.ensures.lists in
    record {
      only = λ r k h. absurd (both_ways _ (none r k) h);
      there = λ r k low out. absurd (let b = out.below in omega arith);
    }
