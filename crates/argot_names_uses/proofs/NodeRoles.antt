-- The kinds of the nodes that stand for declarations: a node stands for one in one way.
use Rattle.std.proofs.Common.{◌≡◌, ℕ, List, Some, inl, inr, refl, sym, ap, ◌∙◌}
use Rattle.std.specs.Prelude.{◌⊎◌, slice_get}
use Rattle.argot_tree.specs.declared.node_kind.NodeKind.{NodeKind}
use Rattle.argot_tree.specs.declared.node_kind.NodeKind.TheVariants as nodes
use Rattle.argot_tree.specs.declared.tree.TreeNode.{TreeNode}
use Rattle.argot_names_rules.specs.Nodes.{Spans}
use Rattle.argot_names_rules.specs.Bindings.{BindingKind, HasColon, of_case, of_default, Brings, value, type_, define, range, receive, parameter, switched}
use Rattle.argot_names_rules.specs.Uses.{IsDefined, IsQualified}
use Rattle.argot_names_rules.specs.Uses.IsQualified.{selector as dotted_selector, type_ as dotted_type}
use Rattle.argot_names_uses.proofs.OfPackages.{one_kind}
use Rattle.argot_names_uses.proofs.Numbering.{some_is}

abbrev pub role : NodeKind → ℕ
role nodes.NameUse = 0
role nodes.TypeName = 1
role nodes.SelectedName = 2
role nodes.QualifiedType = 2
role _ = 3

-- the kind of the node has this role
pub record HasRole (tree : List TreeNode) (node number : ℕ) : Type 0 where
  pub kind : NodeKind
  pub token : ℕ
  pub last : ℕ
  pub spans : Spans tree node kind token last
  pub role_is : role kind ≡ number

pub role_of : (tree : List TreeNode) (node : ℕ) (kind : NodeKind) (token last : ℕ) → Spans tree node kind token last → HasRole tree node (role kind)
role_of tree node kind token last s = record { kind = kind; token = token; last = last; spans = s; role_is = refl }

pub one_role : (tree : List TreeNode) (node a b : ℕ) → HasRole tree node a → HasRole tree node b → a ≡ b
one_role tree node a b x y = sym x.role_is ∙ (ap role (one_kind tree node x.kind y.kind x.token x.last y.token y.last x.spans y.spans) ∙ y.role_is)

-- a node begins with one token
pub one_token : (tree : List TreeNode) (node : ℕ) (k l : NodeKind) (a b c d : ℕ) → Spans tree node k a b → Spans tree node l c d → a ≡ c
one_token tree node k l a b c d s t =
    ap (λ (n : TreeNode). n.token)
    (some_is (record { kind = k; token = a; last = b; first = s.first; next = s.next }) (record { kind = l; token = c; last = d; first = t.first; next = t.next }) (sym s.there ∙ t.there))

pub dotted_role : (tree : List TreeNode) (token member node : ℕ) → IsQualified tree token member node → HasRole tree node 2
dotted_role tree token member node (dotted_selector {end = end} s first operand child spans) = role_of tree node nodes.SelectedName member end spans
dotted_role tree token _ node (dotted_type {last = last} spans) = role_of tree node nodes.QualifiedType token last spans

-- a node that brings a name is none that is looked up
pub brings_role : (tree : List TreeNode) (manner : BindingKind) (node token opens closes from : ℕ) → Brings tree manner node token opens closes from → HasRole tree node 3 ⊎ (HasRole tree node 0 × IsDefined tree node)
brings_role tree _ node token _ _ _ (value is name inner) = inl (role_of tree node nodes.DeclName token name.last name.is_name)
brings_role tree _ node token _ _ _ (type_ {end = end} is under spans inner) = inl (role_of tree node nodes.DeclName token end spans)
brings_role tree _ node token _ _ _ (define is name inner) = inl (role_of tree node nodes.DeclName token name.last name.is_name)
brings_role tree _ node token _ _ _ (range {stmt = stmt} {list = list} {opens = opens} {closes = closes} is left under body) =
    inr (role_of tree node nodes.NameUse token left.last left.is_name, record { parent = stmt; at = opens; end = closes; list = list; token = token; is_parent = record { kind = nodes.DefineRange; spans = is; passes = refl }; left = left })
brings_role tree _ node token _ _ _ (receive {clause = clause} {list = list} {opens = opens} {closes = closes} is left next operand) =
    inr (role_of tree node nodes.NameUse token left.last left.is_name, record { parent = clause; at = opens; end = closes; list = list; token = token; is_parent = record { kind = nodes.DefineCase; spans = is; passes = refl }; left = left })
brings_role tree _ node token _ _ _ (parameter is p under body) = inl (role_of tree node nodes.DeclName token p.last p.is_name)
brings_role tree _ node token opens closes _ (switched is under guard child name below colon) = inl (clause colon)
  where
    clause : {at : ℕ} → HasColon tree node opens closes at → HasRole tree node 3
    clause (of_case is child values) = role_of tree node nodes.Case opens closes is
    clause (of_default is) = role_of tree node nodes.Default opens closes is

pub role_there : (tree : List TreeNode) (node number : ℕ) → HasRole tree node number → (n : TreeNode) × (slice_get tree node ≡ Some n)
role_there tree node number r = (record { kind = r.kind; token = r.token; last = r.last; first = r.spans.first; next = r.spans.next }, r.spans.there)

pub brought_there : (tree : List TreeNode) (manner : BindingKind) (node token opens closes from : ℕ) → Brings tree manner node token opens closes from → (n : TreeNode) × (slice_get tree node ≡ Some n)
brought_there tree manner node token opens closes from b = elim (brings_role tree manner node token opens closes from b) [ inl r ↦ role_there tree node 3 r | inr p ↦ role_there tree node 0 p.0 ]
