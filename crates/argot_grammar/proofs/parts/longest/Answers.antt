use Rattle.std.proofs.Common.{◌≡◌, ◌∙◌, arith}
use Rattle.argot_grammar.proofs.AloneLaws.{longest_read, none_read}
use Rattle.argot_grammar.proofs.parts.longest.Goals as goal

pub returns-clause-longest : goal.returns-clause-longest
returns-clause-longest c =
    let gives = rw c.in-Some.is at c.in_ok-to.ensures in
    let count = c.in_ok-count.ensures in
    let behind = c.in_ok-behind.ensures in
    let same : c.in-Some.to ≡ c.in_ok-behind.behind = omega arith in
    rw same at (longest_read c.args.tokens.now c.args.what _ c.args.at c.in-Some.to c.new.result.items c.read_alone.new.out.posts.items c.from_vec.result c.new.ensures.items (omega (arith, count)) gives
    (λ x e. c.from_vec.ensures ∙ c.in_ok-nodes.ensures x e))

pub returns-in_default-clause-fault : goal.returns-in_default-clause-fault
returns-in_default-clause-fault c =
    let gives = rw c.in_default.is at c.in_ok-to.ensures in
    let count = c.in_ok-count.ensures in
    none_read c.args.tokens.now c.args.what _ c.args.at c.new.result.items c.new.ensures.items (omega (arith, count)) gives.0
