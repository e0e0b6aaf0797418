-- Calls and what they hand on.
use Rattle.std.proofs.Common.{◌≡◌, None, Option, ◌<◌, ◌≤◌, ◌^◌, ℕ, Bool, List, Some, length, refl, sym, ap, ◌∙◌, subst, inl, inr, arith}
use Rattle.std.specs.Prelude.{◌⊎◌, slice_get}
use Rattle.argot_plain.specs.Code.{Code, IsAt, IsFunction, Hands, arguments, kind_of, by_call, by_go, by_defer, param_of, takes_reference}
use Rattle.argot_plain.specs.Lists.{IsDistinct}
use Rattle.argot_plain.specs.WellFormed.{WellFormed}
use Rattle.argot_plain.specs.declared.functions.Function.{Function}
use Rattle.argot_plain.specs.declared.instructions.Callee.{Callee}
use Rattle.argot_plain.specs.declared.instructions.Instr.{Instr}
use Rattle.argot_plain.specs.declared.instructions.Kind.{Kind}
use Rattle.argot_plain.specs.declared.instructions.Kind.TheVariants.{Call, Go, Defer, Leave}
use Rattle.argot_text.specs.declared.path.PathStep.{PathStep}
use Rattle.argot_facts.specs.Numbers.{node, leaves_of}
use Rattle.argot_facts.specs.declared.nodes.Node.{Node}
use Rattle.argot_facts.proofs.Listed.{get_within}
use Rattle.argot_facts.proofs.Marked.{register_leaves}
use Rattle.argot_graph_edges.specs.Rows.{IsCallAt, Becomes, HandsBack}

pub call_here : (p : Code) (i : ℕ) (kind : Kind) (to args : List ℕ) (callee : Callee) → IsAt p i kind → kind ≡ Call to callee args → IsCallAt p i callee args (length to)
call_here p i kind to args callee at e = record { kind = Call to callee args; at = subst (IsAt p i) e at; hands = by_call }

pub go_here : (p : Code) (i : ℕ) (kind : Kind) (args : List ℕ) (callee : Callee) → IsAt p i kind → kind ≡ Go callee args → IsCallAt p i callee args 0
go_here p i kind args callee at e = record { kind = Go callee args; at = subst (IsAt p i) e at; hands = by_go }

pub go_or_defer : (p : Code) (i : ℕ) (kind : Kind) (args : List ℕ) (callee : Callee) → IsAt p i kind → (kind ≡ Go callee args) ⊎ (kind ≡ Defer callee args) → IsCallAt p i callee args 0
go_or_defer p i kind args callee at (inl e) = go_here p i kind args callee at e
go_or_defer p i kind args callee at (inr e) = record { kind = Defer callee args; at = subst (IsAt p i) e at; hands = by_defer }

-- a call has one callee, one list of arguments and one number of results
pub one_call : (p : Code) (i : ℕ) (c d : Callee) (xs ys : List ℕ) (m n : ℕ) → IsCallAt p i c xs m → IsCallAt p i d ys n → (c ≡ d) × (xs ≡ ys) × (m ≡ n)
one_call p i c d xs ys m n x y = split x.kind y.kind c d xs ys m n x.hands y.hands (let e : Some x.kind ≡ Some y.kind = sym x.at ∙ y.at in cc)
  where
    split : (k l : Kind) (c d : Callee) (xs ys : List ℕ) (m n : ℕ) → Hands k c xs m → Hands l d ys n → k ≡ l → (c ≡ d) × (xs ≡ ys) × (m ≡ n)
    split k l c d xs ys m n (by_call {to = t}) (by_call {to = u}) e = (cc, cc, let f : t ≡ u = cc in ap length f)
    split k l c d xs ys m n by_call by_go e = absurd cc
    split k l c d xs ys m n by_call by_defer e = absurd cc
    split k l c d xs ys m n by_go by_call e = absurd cc
    split k l c d xs ys m n by_go by_go e = (cc, cc, refl)
    split k l c d xs ys m n by_go by_defer e = absurd cc
    split k l c d xs ys m n by_defer by_call e = absurd cc
    split k l c d xs ys m n by_defer by_go e = absurd cc
    split k l c d xs ys m n by_defer by_defer e = (cc, cc, refl)

one_function : (p : Code) (g : ℕ) (a b : Function) → IsFunction p g a → IsFunction p g b → a ≡ b
one_function p g a b e f = let s : Some a ≡ Some b = sym e ∙ f in cc

-- what a handed value becomes, by the call's own parts
pub becomes_parts : (p : Code) (i g k n : ℕ) (callee : Callee) (args : List ℕ) (fn : Function) (path : List PathStep) (b : Node) → IsCallAt p i callee args n → IsFunction p g fn → Becomes p i g k path b
    → (param : ℕ) × (leaf : ℕ) × (param_of (takes_reference callee fn) (length (arguments callee args)) k ≡ Some param) × (param < fn.params) × (slice_get (leaves_of fn param) leaf ≡ Some path) × (b ≡ node fn.entry param leaf)
becomes_parts p i g k n callee args fn path b call is x =
    let o = one_call p i x.callee callee x.args args x.behind n x.call call in
    let f = one_function p g x.fn fn x.is is in
    let t : param_of (takes_reference callee fn) (length (arguments callee args)) k ≡ Some x.param =
    subst (λ a. param_of (takes_reference callee fn) (length (arguments callee a)) k ≡ Some x.param) o.1
    (subst (λ c. param_of (takes_reference c fn) (length (arguments c x.args)) k ≡ Some x.param) o.0
    (subst (λ w. param_of (takes_reference x.callee w) (length (arguments x.callee x.args)) k ≡ Some x.param) f x.taken)) in
    (x.param, x.leaf, t, subst (λ (w : Function). x.param < w.params) f x.within, subst (λ w. slice_get (leaves_of w x.param) x.leaf ≡ Some path) f x.has, subst (λ (w : Function). b ≡ node w.entry x.param x.leaf) f x.same)

-- and what a function hands back
pub back_parts : (p : Code) (g k : ℕ) (fn : Function) (path : List PathStep) (a : Node) → IsFunction p g fn → HandsBack p g k path a
    → (fn.external ≡ None) × (from : List ℕ) × (register : ℕ) × (leaf : ℕ) × IsAt p fn.leave (Leave from) × (slice_get from k ≡ Some register) × (slice_get (leaves_of fn register) leaf ≡ Some path) × (a ≡ node fn.leave k leaf)
back_parts p g k fn path a is x =
    let f = one_function p g x.fn fn x.is is in (
      subst (λ (w : Function). w.external ≡ None) f x.body,
      x.from,
      x.register,
      x.leaf,
      subst (λ (w : Function). IsAt p w.leave (Leave x.from)) f x.at,
      x.value,
      subst (λ w. slice_get (leaves_of w x.register) x.leaf ≡ Some path) f x.has,
      subst (λ (w : Function). a ≡ node w.leave k x.leaf) f x.same,
    )

-- where nothing is called there is no call
pub no_call : (p : Code) (i : ℕ) (kind : Kind) → IsAt p i kind → ((to args : List ℕ) (callee : Callee) → kind ≡ Call to callee args → ⊥) → ((args : List ℕ) (callee : Callee) → kind ≡ Go callee args → ⊥)
    → ((args : List ℕ) (callee : Callee) → kind ≡ Defer callee args → ⊥) → (callee : Callee) (args : List ℕ) (n : ℕ) → IsCallAt p i callee args n → ⊥
no_call p i kind at c g d callee args n h = split h.kind callee args n h.at h.hands
  where
    split : (k : Kind) (callee : Callee) (args : List ℕ) (n : ℕ) → IsAt p i k → Hands k callee args n → ⊥
    split k callee args n is (by_call {to = to}) = c to args callee (let e : Some kind ≡ Some (Call to callee args) = sym at ∙ is in cc)
    split k callee args n is by_go = g args callee (let e : Some kind ≡ Some (Go callee args) = sym at ∙ is in cc)
    split k callee args n is by_defer = d args callee (let e : Some kind ≡ Some (Defer callee args) = sym at ∙ is in cc)

pub place_within : (p : Code) (i : ℕ) (kind : Kind) → IsAt p i kind → i < length p.instrs
place_within p i kind at = within (slice_get p.instrs i) refl
  where
    within : (o : Option Instr) → slice_get p.instrs i ≡ o → i < length p.instrs
    within (Some x) e = get_within p.instrs i x e
    within None e = (let z : None ≡ Some kind = sym (ap kind_of e) ∙ at in absurd cc)

module _ (p : Code) (wf : WellFormed p) where
  pub few_leaves : (g r : ℕ) (fn : Function) → IsFunction p g fn → length (leaves_of fn r) < 2 ^ 32
  few_leaves g r fn is =
      let l : length (leaves_of fn r) ≤ 4096 = subst (λ xs. length xs ≤ 4096) (register_leaves p g fn r is) (wf.limits.leaves g r) in
      omega arith

  -- a path is that of one leaf
  pub one_leaf : (g r a b : ℕ) (fn : Function) (path : List PathStep) → IsFunction p g fn → slice_get (leaves_of fn r) a ≡ Some path → slice_get (leaves_of fn r) b ≡ Some path → a ≡ b
  one_leaf g r a b fn path is e f =
      subst (λ xs. IsDistinct xs) (register_leaves p g fn r is) (wf.registers.distinct g r) a b path e f

  -- what a function hands back is one node
  pub back_one : (g k : ℕ) (fn : Function) (path : List PathStep) (b : Node) → IsFunction p g fn → (from : List ℕ) (register leaf : ℕ)
      → IsAt p fn.leave (Leave from) → slice_get from k ≡ Some register → slice_get (leaves_of fn register) leaf ≡ Some path → HandsBack p g k path b → b ≡ node fn.leave k leaf
  back_one g k fn path b is from register leaf at value has x =
      let t = back_parts p g k fn path b is x in
      let e : Some (Leave t.1) ≡ Some (Leave from) = sym t.4 ∙ at in
      let f : t.1 ≡ from = cc in
      let v : Some t.2 ≡ Some register = sym t.5 ∙ ap (λ w. slice_get w k) f ∙ value in
      let r : t.2 ≡ register = cc in
      let l : t.3 ≡ leaf = one_leaf g register t.3 leaf fn path is (ap (λ w. slice_get (leaves_of fn w) t.3) (sym r) ∙ t.6) has in
      t.7 ∙ ap (λ w. node fn.leave k w) l
