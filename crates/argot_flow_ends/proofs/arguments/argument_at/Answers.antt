use Rattle.std.proofs.Common.{length, sym, subst, inl, inr}
use Rattle.std.specs.Prelude.{IfSome}
use Rattle.argot_plain.specs.Code.{by_call, by_go, by_defer}
use Rattle.argot_plain.specs.declared.instructions.Kind.TheVariants.{Call, Go, Defer}
use Rattle.argot_flow_ends.specs.Ends.{IsArgumentBehind, IsArgumentAt}
use Rattle.argot_flow_ends.proofs.Handing.{told, of_call, of_go, of_defer}
use Rattle.argot_flow_ends.proofs.arguments.argument_at.Goals as goal

pub returns-in-Call-clause-some : goal.returns-in-Call-clause-some
returns-in-Call-clause-some c =
    let r = c.argument_behind.result in
    let kind = Call c.in-Call.to c.in-Call.callee c.in-Call.args in
    let some = subst (λ xs. IfSome r (IsArgumentBehind c.in-Call.callee xs c.len.result c.args.index)) c.as_slice.ensures c.argument_behind.ensures.some in
    let some' = subst (λ n. IfSome r (IsArgumentBehind c.in-Call.callee c.in-Call.args n c.args.index)) c.len.ensures some in
    subst (λ k. IfSome r (IsArgumentAt k c.args.index)) (sym c.in-Call.is) (told kind c.in-Call.callee c.in-Call.args (length c.in-Call.to) c.args.index by_call r some')

pub returns-in-Call-clause-none : goal.returns-in-Call-clause-none
returns-in-Call-clause-none c = λ e k h.
    let b = of_call c.in-Call.to c.in-Call.args c.in-Call.callee c.args.index k (subst (λ x. IsArgumentAt x c.args.index k) c.in-Call.is h) in
    let b' = subst (λ n. IsArgumentBehind c.in-Call.callee c.in-Call.args n c.args.index k) (sym c.len.ensures) b in
    c.argument_behind.ensures.none e k (subst (λ xs. IsArgumentBehind c.in-Call.callee xs c.len.result c.args.index k) (sym c.as_slice.ensures) b')

pub returns-in-Go-clause-some : goal.returns-in-Go-clause-some
returns-in-Go-clause-some c =
    let r = c.argument_behind-in-Go.result in
    let some = subst (λ xs. IfSome r (IsArgumentBehind c.in-Go.callee xs 0 c.args.index)) c.as_slice-in-Go.ensures c.argument_behind-in-Go.ensures.some in
    elim c.in-Go.is [
      | inl is ↦ subst (λ k. IfSome r (IsArgumentAt k c.args.index)) (sym is) (told (Go c.in-Go.callee c.in-Go.args) c.in-Go.callee c.in-Go.args 0 c.args.index by_go r some)
      | inr is ↦ subst (λ k. IfSome r (IsArgumentAt k c.args.index)) (sym is) (told (Defer c.in-Go.callee c.in-Go.args) c.in-Go.callee c.in-Go.args 0 c.args.index by_defer r some)
    ]

pub returns-in-Go-clause-none : goal.returns-in-Go-clause-none
returns-in-Go-clause-none c = λ e k h.
    let behind : IsArgumentBehind c.in-Go.callee c.in-Go.args 0 c.args.index k → ⊥ = λ b. c.argument_behind-in-Go.ensures.none e k (subst (λ xs. IsArgumentBehind c.in-Go.callee xs 0 c.args.index k) (sym c.as_slice-in-Go.ensures) b) in
    elim c.in-Go.is [
      | inl is ↦ behind (of_go c.in-Go.args c.in-Go.callee c.args.index k (subst (λ x. IsArgumentAt x c.args.index k) is h))
      | inr is ↦ behind (of_defer c.in-Go.args c.in-Go.callee c.args.index k (subst (λ x. IsArgumentAt x c.args.index k) is h))
    ]
