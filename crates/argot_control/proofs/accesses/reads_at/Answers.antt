use Rattle.std.proofs.Common.{◌≡◌, ℕ, ◌+◌, ◌<◌, Bool, List, length, sym, ap, ◌∙◌, arith, subst}
use Rattle.std.specs.Prelude.{◌↔◌}
use Rattle.argot_plain.specs.Code.{IsAt}
use Rattle.argot_facts.specs.Marked.{IsSet}
use Rattle.argot_facts.proofs.Calls.{same_kind}
use Rattle.argot_control.specs.Accesses.{Reads, StandsAt}
use Rattle.argot_control.proofs.Cutting.{at_within}
use Rattle.argot_control.proofs.Flagging.{count_more, flags_more}
use Rattle.argot_control.proofs.accesses.reads_at.Goals as goal

pub loop-k-preserved : goal.loop-k-preserved
loop-k-preserved c =
    let p = c.args.program.now in
    let flags : List Bool = c.loop-k.flags.items in
    let k = c.loop-k.k in
    let w = c.reads.result in
    let kind = c.kind.result.now in
    let count : length flags ≡ k = c.loop-k.invariant.count in
    let more = flags_more (StandsAt p Reads) flags w
    (λ e. (kind, subst (λ n. IsAt p n kind) (sym count) c.kind.ensures, c.reads.ensures.yes e))
    (λ h. c.reads.ensures.no (subst Reads (same_kind p k h.0 kind (subst (λ n. IsAt p n h.0) count h.1) c.kind.ensures) h.2))
    c.loop-k.invariant.each in
    record {
      count = ap length c.in_ok-push.ensures.items ∙ count_more flags w ∙ ap (λ n. n + 1) count;
      each = subst (λ (xs : List Bool). (m : ℕ) → IsSet xs m ↔ ((m < length xs) × StandsAt p Reads m)) (sym c.in_ok-push.ensures.items) more;
    }

pub returns-clause-exact : goal.returns-clause-exact
returns-clause-exact c =
    let p = c.args.program.now in
    let flags : List Bool = c.loop-k.flags.items in
    let count : length flags ≡ c.loop-k.k = c.loop-k.invariant.count in
    let e = c.loop-k-test.false in
    let n = c.len-k-end.ensures.count in
    λ m. (
      (λ s. ((c.loop-k.invariant.each m).0 s).1),
      λ a. let l = at_within p m a.0 a.1 in (c.loop-k.invariant.each m).1 (omega arith, a),
    )
