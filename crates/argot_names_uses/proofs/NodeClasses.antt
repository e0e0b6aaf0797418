-- The kinds of the nodes that declare names: a name with its own token, a clause of a type switch, or an import.
use Rattle.std.proofs.Common.{◌≡◌, ℕ, inl, inr, List, Some, refl, sym, ap, ◌∙◌}
use Rattle.std.specs.Prelude.{◌⊎◌, slice_get}
use Rattle.argot_tree.specs.declared.node_kind.NodeKind.{NodeKind}
use Rattle.argot_tree.specs.declared.node_kind.NodeKind.TheVariants as nodes
use Rattle.argot_tree.specs.declared.tree.TreeNode.{TreeNode}
use Rattle.argot_names_rules.specs.Nodes.{Spans}
use Rattle.argot_names_rules.specs.Bindings.{BindingKind, Brings, HasColon, of_case, of_default}
use Rattle.argot_names_rules.specs.Bindings.Brings.{value as brings_value, type_ as brings_type, define, range, receive, parameter, switched}
use Rattle.argot_names_rules.specs.PackageScope.{Sort, IsTopName}
use Rattle.argot_names_rules.specs.PackageScope.IsTopName.{value as top_value, type_ as top_type, function as top_function}
use Rattle.argot_names_rules.specs.Imports.{IsImport, unnamed, dotted, named}
use Rattle.argot_names_rules.specs.declared.alias.Alias.{Alias}

pub some_is : {A : Type 0} (x y : A) → Some x ≡ Some y → x ≡ y
some_is x y e = cc

abbrev pub class : NodeKind → ℕ
class nodes.DeclName = 0
class nodes.NameUse = 0
class nodes.Case = 1
class nodes.Default = 1
class nodes.Spec = 2
class nodes.DotSpec = 2
class nodes.NamedSpec = 2
class _ = 3

-- the node is of this class, and begins with this token
pub record IsOfClass (tree : List TreeNode) (node kind token : ℕ) : Type 0 where
  pub is : TreeNode
  pub there : slice_get tree node ≡ Some is
  pub class_is : class is.kind ≡ kind
  pub token_is : is.token ≡ token

spanned : (tree : List TreeNode) (node token last : ℕ) (kind : NodeKind) → Spans tree node kind token last → IsOfClass tree node (class kind) token
spanned tree node token last kind s = record { is = record { kind = kind; token = token; last = last; first = s.first; next = s.next }; there = s.there; class_is = refl; token_is = refl }

pub top_class : (tree : List TreeNode) (sort : Sort) (node token : ℕ) → IsTopName tree sort node token → IsOfClass tree node 0 token
top_class tree _ node token (top_value is outside name) = spanned tree node token name.last nodes.DeclName name.is_name
top_class tree _ node token (top_type {end = end} is outside under spans) = spanned tree node token end nodes.DeclName spans
top_class tree _ node token (top_function {end = end} is none under spans) = spanned tree node token end nodes.DeclName spans

pub brings_class : (tree : List TreeNode) (manner : BindingKind) (node token opens closes from : ℕ) → Brings tree manner node token opens closes from → IsOfClass tree node 0 token ⊎ ((at : ℕ) × IsOfClass tree node 1 at)
brings_class tree _ node token _ _ _ (brings_value is name inner) = inl (spanned tree node token name.last nodes.DeclName name.is_name)
brings_class tree _ node token _ _ _ (brings_type {end = end} is under spans inner) = inl (spanned tree node token end nodes.DeclName spans)
brings_class tree _ node token _ _ _ (define is name inner) = inl (spanned tree node token name.last nodes.DeclName name.is_name)
brings_class tree _ node token _ _ _ (range is left under body) = inl (spanned tree node token left.last nodes.NameUse left.is_name)
brings_class tree _ node token _ _ _ (receive is left next operand) = inl (spanned tree node token left.last nodes.NameUse left.is_name)
brings_class tree _ node token _ _ _ (parameter is p under body) = inl (spanned tree node token p.last nodes.DeclName p.is_name)
brings_class tree _ node token opens closes _ (switched is under guard child name below colon) = inr (opens, clause colon)
  where
    clause : {at : ℕ} → HasColon tree node opens closes at → IsOfClass tree node 1 opens
    clause (of_case is child values) = spanned tree node opens closes nodes.Case is
    clause (of_default is) = spanned tree node opens closes nodes.Default is

pub import_class : (tree : List TreeNode) (node at path_at : ℕ) (alias : Alias) → IsImport tree node at path_at alias → IsOfClass tree node 2 at
import_class tree node at _ _ (unnamed {end = end} is child path) = spanned tree node at end nodes.Spec is
import_class tree node at _ _ (dotted {end = end} is child path) = spanned tree node at end nodes.DotSpec is
import_class tree node at _ _ (named {end = end} is child name next path) = spanned tree node at end nodes.NamedSpec is

-- a node is of one class, and begins with one token
pub class_one : (tree : List TreeNode) (node a b s t : ℕ) → IsOfClass tree node a s → IsOfClass tree node b t → (a ≡ b) × (s ≡ t)
class_one tree node a b s t x y =
    let same : x.is ≡ y.is = some_is x.is y.is (sym x.there ∙ y.there) in
    (sym x.class_is ∙ ap (λ n. class n.kind) same ∙ y.class_is, sym x.token_is ∙ ap (λ n. n.token) same ∙ y.token_is)
