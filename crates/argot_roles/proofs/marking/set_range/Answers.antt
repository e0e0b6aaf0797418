use Rattle.std.proofs.Common.{◌≡◌, ◌≤◌, ◌<◌, ◌+◌, inl, inr, arith}
use Rattle.std.proofs.lemmas.Bool.{cases_lt}
use Rattle.argot_roles.proofs.Setting.{marks_none, marks_both, marks_as}
use Rattle.argot_roles.proofs.marking.set_range.Goals as goal

pub loop-n-init : goal.loop-n-init
loop-n-init c = marks_none _ _ (λ m h. absurd (omega (arith, h.0, h.1)))

pub loop-n-preserved : goal.loop-n-preserved
loop-n-preserved c =
    let low = c.args.low in
    let n = c.loop-n.n in
    marks_both (λ m. (low ≤ m) × (m < n)) (λ m. m ≡ n) (λ m. (low ≤ m) × (m < n + 1)) _ _ _
    (λ m s. elim s [ inl h ↦ (h.0, omega (arith, h.1)) | inr h ↦ (omega (arith, h, c.loop-n.auto), omega (arith, h)) ])
    (λ m s. elim (cases_lt m n) [ inl l ↦ inl (s.0, l) | inr l ↦ inr (omega (arith, s.1, l)) ])
    c.loop-n.invariant c.set.ensures

pub returns : goal.returns
returns c =
    let low = c.args.low in
    let end = c.args.end in
    let e : c.loop-n.n ≡ end = omega (arith, c.requires) in
    marks_as (λ m. (low ≤ m) × (m < c.loop-n.n)) (λ m. (low ≤ m) × (m < end)) _ _
    (λ m h. (h.0, omega (arith, h.1, e)))
    (λ m h. (h.0, omega (arith, h.1, e)))
    c.loop-n.invariant
