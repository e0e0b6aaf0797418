-- Nodes of source places and of arguments of sinks.
use Rattle.std.proofs.Common.{◌≡◌, ℕ, ◌+◌, ◌<◌, List, Option, Some, None, length, refl, sym, ap, ◌∙◌, subst, inl, inr, arith}
use Rattle.std.specs.Prelude.{◌⊎◌, IfSome, slice_get}
use Rattle.argot_plain.specs.Code.{Code, IsAt, Hands, by_go, by_defer, arguments, kind_of}
use Rattle.argot_plain.specs.Code as code
use Rattle.argot_plain.specs.declared.instructions.Instr.{Instr}
use Rattle.argot_plain.specs.Nodes.{Mark, mark, HasLeaf, of_kind, of_items, of_elements, of_entry}
use Rattle.argot_plain.specs.WellFormed.{WellFormed}
use Rattle.argot_plain.specs.declared.instructions.Callee.{Callee}
use Rattle.argot_plain.specs.declared.instructions.Kind.{Kind}
use Rattle.argot_plain.specs.declared.instructions.Kind.TheVariants.{Call, Grow}
use Rattle.argot_plain.specs.declared.problems.Problem.{Problem}
use Rattle.argot_text.specs.declared.path.PathStep.{PathStep}
use Rattle.argot_facts.proofs.Calls.{same_kind}
use Rattle.argot_facts.proofs.Listed.{get_within}
use Rattle.argot_facts.specs.Flows.{IsSourceBy, by_call, by_place, IsArgumentBy, is_argument}
use Rattle.argot_facts.specs.Graphs.{IsMarked}
use Rattle.argot_facts.specs.Refers.{Holds}
use Rattle.argot_facts.specs.declared.nodes.Node.{Node}
use Rattle.argot_flow_ends.specs.Ends.{IsSourceNode, IsArgumentNode, IsNamed, IsGiven, IsHanded, IsArgumentAt}
use Rattle.argot_flow_ends.specs.Roles.{HasRole}

hands_once : (kind : Kind) (callee callee' : Callee) (args args' : List ℕ) (n n' : ℕ) → Hands kind callee args n → Hands kind callee' args' n' → n ≡ n'
hands_once kind callee callee' args args' n n' code.by_call code.by_call = refl
hands_once kind callee callee' args args' n n' by_go by_go = refl
hands_once kind callee callee' args args' n n' by_defer by_defer = refl

one_argument : (kind : Kind) (index k j : ℕ) → IsArgumentAt kind index k → IsArgumentAt kind index j → k ≡ j
one_argument kind index k j (callee, args, n, hands, (within, is)) (callee', args', n', hands', (within', is')) =
    let e = hands_once kind callee callee' args args' n n' hands hands' in
    omega (arith, is, is', e)

there : (p : Code) (i : ℕ) (kind : Kind) → IsAt p i kind → i < length p.instrs
there p i kind at = by (slice_get p.instrs i) refl
  where
    by : (x : Option Instr) → slice_get p.instrs i ≡ x → i < length p.instrs
    by (Some x) e = get_within p.instrs i x e
    by None e = (let z : kind_of None ≡ Some kind = ap kind_of (sym e) ∙ at in absurd cc)

-- a node of a program stands at one of its places
pub inside : (p : Code) (a : Node) (m : Mark) → WellFormed p → IsMarked p a m → a.place < length p.instrs
inside p a m wf is = subst (λ i. i < length p.instrs) (sym is.place) (by m.place m.index a.leaf m.leaf is.has)
  where
    by : (i k l : ℕ) (q : List PathStep) → HasLeaf p i k l q → i < length p.instrs
    by i k l q (of_kind h r kind within at node leaf) = omega (arith, within.high, (wf.ranges.inside h within.fn within.is).2)
    by i k l q (of_items n to at items site is_at of same leaf) = there p i (Grow to at items) is_at
    by i k l q (of_elements n to at items site is_at of same leaf) = there p i (Grow to at items) is_at
    by i k l q (of_entry h e within leaf) = let r = wf.ranges.inside h e.fn e.is in omega (arith, e.at, r.0, r.1, r.2)

module _ (p : Code) (pr : Problem) (a : Node) where
  leaf_of : (m : Mark) → IsMarked p a m → HasLeaf p a.place a.index a.leaf m.leaf
  leaf_of m is = subst (λ k. HasLeaf p a.place k a.leaf m.leaf) (sym is.index) (subst (λ i. HasLeaf p i m.index a.leaf m.leaf) (sym is.place) is.has)

  leaf_as : (m : Mark) (k : ℕ) → IsMarked p a m → a.index ≡ k → HasLeaf p a.place k a.leaf m.leaf
  leaf_as m k is e = subst (λ n. HasLeaf p a.place n a.leaf m.leaf) e (leaf_of m is)

  pub named_source : (m : Mark) → IsMarked p a m → IsNamed pr a → IsSourceNode p pr a
  named_source m is n =
      let leaf = leaf_as m 0 is n.0 in
      record {
        start = mark a.place 0 m.leaf;
        is = record { place = refl; index = n.0; has = leaf };
        source = by_place n.1 (record { number = a.leaf; has = leaf });
      }

  pub given_source : (m : Mark) → IsMarked p a m → IsGiven p pr a → IsSourceNode p pr a
  given_source m is (Call to callee args, at, within, role) = record {
    start = mark a.place a.index m.leaf;
    is = record { place = refl; index = refl; has = leaf_of m is };
    source = by_call to args callee role.target role.takes at role.holds role.counted within;
  }
  given_source m is (_, at, within, role) = elim within [ ]

  pub source_is : IsSourceNode p pr a → IsNamed pr a ⊎ IsGiven p pr a
  source_is n = by n.start n.is n.source
    where
      by : (start : Mark) → IsMarked p a start → IsSourceBy p (Holds p) pr a.place start → IsNamed pr a ⊎ IsGiven p pr a
      by start is (by_call to args callee target takes at holds source within) =
          inr (Call to callee args, at, subst (λ k. k < length to) (sym is.index) within, record { target = target; takes = takes; holds = holds; counted = source })
      by start is (by_place named node) = inl (is.index, named)

  pub handed_argument : (m : Mark) (k : ℕ) → IsMarked p a m → IsHanded p pr a k → IsArgumentNode p pr a k
  handed_argument m k is (kind, at, (callee, args, n, hands, (within, index)), role) = record {
    end = mark a.place (n + k) m.leaf;
    is = record { place = refl; index = index; has = leaf_as m (n + k) is index };
    argument = is_argument kind callee args n role.target role.takes at hands role.holds role.counted within;
  }

  pub argument_is : (k : ℕ) → IsArgumentNode p pr a k → IsHanded p pr a k
  argument_is k n = by n.end n.is n.argument
    where
      by : (end : Mark) → IsMarked p a end → IsArgumentBy p (Holds p) pr a.place k end → IsHanded p pr a k
      by end is (is_argument kind callee args n target takes at hands holds sink within) =
          (kind, at, (callee, args, n, hands, (within, is.index)), record { target = target; takes = takes; holds = holds; counted = sink })

  -- an answer for the index is one for the node
  pub some_told : (m : Mark) → IsMarked p a m → (kind : Kind) → IsAt p a.place kind → HasRole p pr.sinks a.place → (o : Option ℕ) → IfSome o (IsArgumentAt kind a.index) → IfSome o (IsArgumentNode p pr a)
  some_told m is kind at role None s = s
  some_told m is kind at role (Some k) s = handed_argument m k is (kind, at, s, role)

  -- a node is of one argument
  pub once : (k j : ℕ) → IsArgumentNode p pr a k → IsArgumentNode p pr a j → k ≡ j
  once k j x y =
      let g = argument_is k x in
      let h = argument_is j y in
      one_argument g.0 a.index k j g.2 (subst (λ kind. IsArgumentAt kind a.index j) (same_kind p a.place h.0 g.0 h.1 g.1) h.2)
