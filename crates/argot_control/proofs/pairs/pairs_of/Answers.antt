use Rattle.std.proofs.Common.{ℕ, List, [], inl, inr, subst}
use Rattle.argot_control.specs.Pairs.{Gains, UsesLead, LiveLeads, Leads}
use Rattle.argot_control.proofs.Followed.{leads_follow, follow_leads}
use Rattle.argot_control.proofs.Gaining.{gains_both}
use Rattle.argot_control.proofs.pairs.pairs_of.Goals as goal

pub returns-clause-exact : goal.returns-clause-exact
returns-clause-exact c =
    let p = c.args.program.now in
    let x = c.args.points.now in
    let wf = c.in_ok-gain_uses.ensures.well in
    let zs = c.gain_live.new.pairs.items in
    let all : Gains (Leads p x) c.new-pairs.result.items zs = gains_both (λ a b. (h : ℕ) × UsesLead p x h a b) (LiveLeads p x) (Leads p x) c.new-pairs.result.items c.gain_uses.new.pairs.items zs
    (λ a b u. inr u) (λ a b u. inl u) (λ a b u. elim u [ inl l ↦ inr l | inr l ↦ inl l ])
    c.in_ok-gain_uses.ensures.gains c.in_ok-gain_live.ensures in
    let none : Gains (Leads p x) [] zs = subst (λ (ys : List (ℕ × ℕ)). Gains (Leads p x) ys zs) c.new-pairs.ensures.items all in
    λ a b. (
      (λ m. elim ((none a b).0 m) [ inl n ↦ elim n [ ] | inr l ↦ leads_follow p x wf a b l ]),
      λ d. (none a b).1 (inr (follow_leads p x wf a b d)),
    )
