use Rattle.std.proofs.Common.{◌≡◌, ◌+◌, ◌-◌, ◌<◌, take, Some, None, sym, ◌∙◌, arith}
use Rattle.std.proofs.lemmas.Grind.{common_steps}
use Rattle.argot_parse_tokens.specs.Operators.{operated}
use Rattle.argot_parse_tokens.proofs.OperatorLaws.{operated_down, operated_off}
use Rattle.argot_parse_tokens.proofs.operators.close_operators.Goals as goal

pub loop-count-preserved : goal.loop-count-preserved
loop-count-preserved c =
    let tokens = c.args.tokens.now in
    let these = c.args.operators in
    let base = take these.mark c.args.out.now.posts.items in
    let count = c.loop-count.count in
    let old = c.loop-count.out.posts.items in
    let new = c.close_operator.new.out.posts.items in
    let one : operated tokens these.types base (these.first + (count - 1)) (c.args.to, old) ≡ Some (c.args.to, new) = grind (arith, common_steps) in
    record {
      left = sym (operated_down tokens these.types base count these.first c.args.to old new (omega arith) one) ∙ c.loop-count.invariant.left;
      keeps = grind (arith, common_steps);
      fewer = omega arith;
    }

pub returns-in_default-clause-value : goal.returns-in_default-clause-value
returns-in_default-clause-value c =
    let tokens = c.args.tokens.now in
    let these = c.args.operators in
    let base = take these.mark c.args.out.now.posts.items in
    let count = c.loop-count.count in
    let old = c.loop-count.out.posts.items in
    let one : operated tokens these.types base (these.first + (count - 1)) (c.args.to, old) ≡ None = grind (arith, common_steps) in
    (sym c.loop-count.invariant.left ∙ operated_off tokens these.types base count these.first c.args.to old (omega arith) one, grind (arith, common_steps))
