use Rattle.std.proofs.Common.{arith, subst}
use Rattle.argot_plain.specs.Code.{IsAt}
use Rattle.argot_plain.specs.declared.instructions.Kind.TheVariants.{Go}
use Rattle.argot_facts.proofs.Calls.{same_kind}
use Rattle.argot_escape.specs.Flooding.{NodeLeadsTo, GoLeadsTo}
use Rattle.argot_escape.proofs.Finding.{finds_none, finds_as}
use Rattle.argot_escape.proofs.starts.reach_go.Goals as goal

pub reach_place-requires-clause-small : goal.reach_place-requires-clause-small
reach_place-requires-clause-small c = let l = c.requires.well.limits.instrs in let i = c.requires.inside in omega arith

pub returns-in-Go : goal.returns-in-Go
returns-in-Go c =
    let p = c.args.program.now in
    let x = c.args.points.now in
    let at = subst (IsAt p c.args.place) c.in-Go.is c.kind.ensures in
    finds_as (NodeLeadsTo x c.args.place) (GoLeadsTo p x c.args.place) c.args.found.now c.reach_place.new.found
    (λ m h. record { callee = _; args = _; at = at; leads = h }) (λ m h. h.leads) c.reach_place.ensures

pub returns-in_default : goal.returns-in_default
returns-in_default c =
    let p = c.args.program.now in
    finds_none (GoLeadsTo p c.args.points.now c.args.place) c.args.found.now
    (λ m h. let e = same_kind p c.args.place c.kind.result.now (Go h.callee h.args) c.kind.ensures h.at in absurd (c.in_default.not-Go h.callee h.args e))
