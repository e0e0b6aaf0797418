use Rattle.std.proofs.Common.{arith}
use Rattle.std.proofs.lemmas.Bool.{both_ways}
use Rattle.argot_ssa.proofs.Pushed.{none_leads}
use Rattle.argot_ssa.proofs.asks.find_asks.Goals as goal

pub visit_all-requires-clause-asks : goal.visit_all-requires-clause-asks
visit_all-requires-clause-asks c =
    let none = none_leads _ _ c.in_ok-asks.ensures.lists in
    record {
      only = λ r k h. absurd (both_ways _ (none r k) h);
      there = λ r k low reads exposed. absurd (omega arith);
    }
