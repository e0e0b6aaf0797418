use Rattle.std.proofs.Common.{◌≡◌, refl, ◌<◌, Some, None, length, slice_get, sym, ap, ◌∙◌, arith, subst}
use Rattle.argot_plain.specs.Code.{arguments, param_of, takes_reference}
use Rattle.argot_facts.specs.Numbers.{node, leaves_of}
use Rattle.argot_graph_edges.proofs.Calling.{becomes_parts, few_leaves, one_leaf}
use Rattle.argot_graph_edges.proofs.calls.parameter.Goals as goal

pub returns-in_err-param-clause-none : goal.returns-in_err-param-clause-none
returns-in_err-param-clause-none c = λ z b x.
    let fn = c.function-function.result.now in
    let call = c.args.call.now in
    let t = becomes_parts _ _ _ _ _ _ _ fn _ b c.requires.call c.function-function.ensures x in
    let e : param_of (takes_reference call.callee.now fn) (length (arguments call.callee.now call.args.now)) c.args.index ≡ c.param_of.result =
    sym (c.param_of.ensures ∙ (ap (λ w. param_of w c.arguments.result c.args.index) c.is_taken_by.ensures ∙ ap (λ w. param_of (takes_reference call.callee.now fn) w c.args.index) c.arguments.ensures)) in
    let n : c.param_of.result ≡ None = c.in_err-param.was in
    let f : Some t.0 ≡ None = sym t.2 ∙ e ∙ n in
    absurd cc

pub returns-then-param-function-clause-none : goal.returns-then-param-function-clause-none
returns-then-param-function-clause-none c = λ z b x.
    let fn = c.function-function.result.now in
    let call = c.args.call.now in
    let t = becomes_parts _ _ _ _ _ _ _ fn _ b c.requires.call c.function-function.ensures x in
    let e : param_of (takes_reference call.callee.now fn) (length (arguments call.callee.now call.args.now)) c.args.index ≡ c.param_of.result =
    sym (c.param_of.ensures ∙ (ap (λ w. param_of w c.arguments.result c.args.index) c.is_taken_by.ensures ∙ ap (λ w. param_of (takes_reference call.callee.now fn) w c.args.index) c.arguments.ensures)) in
    let n : c.param_of.result ≡ Some c.in_ok-param.param = c.in_ok-param.was in
    let f : Some t.0 ≡ Some c.in_ok-param.param = sym t.2 ∙ e ∙ n in
    let g : t.0 ≡ c.in_ok-param.param = cc in
    absurd (omega (arith, t.3, g, c.if-param-function.true))

pub leaf_of-requires : goal.leaf_of-requires
leaf_of-requires c = record { few = subst (λ xs. length xs < 4294967296) (sym c.leaves_of.ensures) (few_leaves _ c.requires.well _ _ _ c.function-function.ensures) }

pub returns-in_err-leaf-clause-none : goal.returns-in_err-leaf-clause-none
returns-in_err-leaf-clause-none c = λ z b x.
    let fn = c.function-function.result.now in
    let call = c.args.call.now in
    let t = becomes_parts _ _ _ _ _ _ _ fn _ b c.requires.call c.function-function.ensures x in
    let e : param_of (takes_reference call.callee.now fn) (length (arguments call.callee.now call.args.now)) c.args.index ≡ c.param_of.result =
    sym (c.param_of.ensures ∙ (ap (λ w. param_of w c.arguments.result c.args.index) c.is_taken_by.ensures ∙ ap (λ w. param_of (takes_reference call.callee.now fn) w c.args.index) c.arguments.ensures)) in
    let n : c.param_of.result ≡ Some c.in_ok-param.param = c.in_ok-param.was in
    let f : Some t.0 ≡ Some c.in_ok-param.param = sym t.2 ∙ e ∙ n in
    let g : t.0 ≡ c.in_ok-param.param = cc in
    absurd (c.in_err-leaf.ensures.none refl t.1 (ap (λ xs. slice_get xs t.1) c.leaves_of.ensures ∙ ap (λ w. slice_get (leaves_of fn w) t.1) (sym g) ∙ t.4))

pub returns-clause-only : goal.returns-clause-only
returns-clause-only c = λ b x.
    let fn = c.function-function.result.now in
    let call = c.args.call.now in
    let t = becomes_parts _ _ _ _ _ _ _ fn _ b c.requires.call c.function-function.ensures x in
    let e : param_of (takes_reference call.callee.now fn) (length (arguments call.callee.now call.args.now)) c.args.index ≡ c.param_of.result =
    sym (c.param_of.ensures ∙ (ap (λ w. param_of w c.arguments.result c.args.index) c.is_taken_by.ensures ∙ ap (λ w. param_of (takes_reference call.callee.now fn) w c.args.index) c.arguments.ensures)) in
    let n : c.param_of.result ≡ Some c.in_ok-param.param = c.in_ok-param.was in
    let f : Some t.0 ≡ Some c.in_ok-param.param = sym t.2 ∙ e ∙ n in
    let g : t.0 ≡ c.in_ok-param.param = cc in
    let here : slice_get (leaves_of fn c.in_ok-param.param) t.1 ≡ Some c.args.path.now = ap (λ w. slice_get (leaves_of fn w) t.1) (sym g) ∙ t.4 in
    let there : slice_get (leaves_of fn c.in_ok-param.param) c.in_ok-leaf.leaf ≡ Some c.args.path.now = ap (λ xs. slice_get xs c.in_ok-leaf.leaf) (sym c.leaves_of.ensures) ∙ c.in_ok-leaf.ensures.some in
    let l = one_leaf _ c.requires.well _ _ _ _ fn _ c.function-function.ensures here there in
    t.5 ∙ (ap (λ w. node fn.entry w t.1) g ∙ ap (λ w. node fn.entry c.in_ok-param.param w) l)
