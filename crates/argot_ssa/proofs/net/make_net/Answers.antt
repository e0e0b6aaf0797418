use Rattle.std.proofs.Common.{◌≡◌, subst, ◌∙◌, arith}
use Rattle.std.proofs.lemmas.Bool.{both_ways}
use Rattle.argot_ssa.specs.Places.{size, IsNet}
use Rattle.argot_ssa.proofs.Pushed.{none_leads, none_count}
use Rattle.argot_ssa.proofs.net.make_net.Goals as goal

pub loop-k-init : goal.loop-k-init
loop-k-init c =
    let count = c.count_places-count.ensures.count in
    let onward = none_leads _ _ c.in_ok-onward.ensures.lists in
    let back = none_leads _ _ c.in_ok-back.ensures.lists in
    record {
      count = none_count _ _ c.in_ok-onward.ensures.lists ∙ count;
      count_back = none_count _ _ c.in_ok-back.ensures.lists ∙ count;
      edge = λ k s low goes is. absurd (omega arith);
      only = λ a b h. absurd (both_ways _ (onward a b) h);
      mirror = record {
        turned = λ a b h. absurd (both_ways _ (onward a b) h);
        returned = λ a b h. absurd (both_ways _ (back b a) h);
      };
    }

pub returns : goal.returns
returns c =
    let end : c.loop-k.k ≡ size c.args.function.now = (let all = c.loop-k-test.false in let far = c.loop-k.auto.k-end in let count = c.count_places-count.ensures.count in omega arith) in
    subst (λ n. IsNet c.args.program.now c.args.function.now c.args.heads.now n c.loop-k.net.onward.lists c.loop-k.net.back.lists) end c.loop-k.invariant
