use Rattle.std.proofs.Common.{rules}
use Rattle.std.proofs.lemmas.Fn.{always_returns_same}
use Rattle.argot_points_rules.specs.Stretches.{reached}
use Rattle.argot_points_rules.proofs.Enough.{order_from_tests, tests_from_order}
use Rattle.argot_points_rules.proofs.stretches.are_in_order.Goals as goal

pub returns : goal.returns
returns c =
    let h = c.is_sorted_by_key.ensures.cases reached (always_returns_same _ _ _ (λ a r q k. search rules)) in
    record {
      yes = λ e. order_from_tests c.args.defs.now (rw e at h);
      no = tests_from_order c.args.defs.now _ h;
    }
