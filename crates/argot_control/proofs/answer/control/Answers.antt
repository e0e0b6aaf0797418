use Rattle.std.proofs.Common.{ℕ, List, sym, ◌∙◌, subst}
use Rattle.argot_facts.specs.Exact.{AreFollowing, AreFollowingBy}
use Rattle.argot_facts.specs.Handed.{FactsOf}
use Rattle.argot_control.proofs.Pairing.{are_following, exact_following}
use Rattle.argot_control.proofs.answer.control.Goals as goal

pub returns-clause-handed : goal.returns-clause-handed
returns-clause-handed c =
    let p = c.args.program.now in
    let x = c.args.points.now in
    let b = c.in_ok-blocks.blocks in
    let count = sym c.in_ok-blocks.ensures.count in
    subst (λ (ps : List (ℕ × ℕ)). AreFollowingBy p (FactsOf p x) ps) (sym c.of.ensures)
    (are_following b.numbers.items b.rows c.in_ok-writes.writes.items c.in_ok-reads.reads.items p (FactsOf p x) (c.in_ok-writes.ensures.count ∙ count) (c.in_ok-reads.ensures.count ∙ count) c.in_ok-blocks.ensures.exact c.in_ok-writes.ensures.exact c.in_ok-reads.ensures.exact)

pub returns-clause-exact : goal.returns-clause-exact
returns-clause-exact c = λ ex.
    let p = c.args.program.now in
    let x = c.args.points.now in
    let b = c.in_ok-blocks.blocks in
    let count = sym c.in_ok-blocks.ensures.count in
    subst (λ (ps : List (ℕ × ℕ)). AreFollowing p ps) (sym c.of.ensures)
    (exact_following p x c.in_ok-blocks.ensures.well _ ex
    (are_following b.numbers.items b.rows c.in_ok-writes.writes.items c.in_ok-reads.reads.items p (FactsOf p x) (c.in_ok-writes.ensures.count ∙ count) (c.in_ok-reads.ensures.count ∙ count) c.in_ok-blocks.ensures.exact c.in_ok-writes.ensures.exact c.in_ok-reads.ensures.exact))
