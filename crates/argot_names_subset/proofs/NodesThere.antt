-- Nodes that are named are there, and what a node stands for is declared in a file of a package that is reached.
use Rattle.std.proofs.Common.{◌≡◌, ◌≢◌, ℕ, List, Some, sym, ◌∙◌, subst}
use Rattle.std.specs.Prelude.{slice_get, codes}
use Rattle.argot_tree.specs.declared.node_kind.NodeKind.{NodeKind}
use Rattle.argot_tree.specs.declared.tree.TreeNode.{TreeNode}
use Rattle.argot_names_rules.specs.Files.{SourceFiles, read_of, text_at}
use Rattle.argot_names_rules.specs.Nodes.{Spans}
use Rattle.argot_names_rules.specs.declared.package_key.PackageKey.{PackageKey}
use Rattle.argot_names_rules.specs.declared.alias.Alias.{Alias}
use Rattle.argot_names_rules.specs.Imports.{IsImport, IsReached, IsReachedFile}
use Rattle.argot_names_rules.specs.Imports.IsImport.{unnamed as import_unnamed, dotted as import_dotted, named as import_named}
use Rattle.argot_names_rules.specs.Imports.Leads.{onward}
use Rattle.argot_names_rules.specs.Bindings.{BindingKind, Specified, Defined, Received, Switched, Brings, HasColon, of_case, of_default, IsNew}
use Rattle.argot_names_rules.specs.Bindings.Brings.{value as brings_value, type_ as brings_type, define, range, receive, parameter, switched}
use Rattle.argot_names_rules.specs.PackageScope.{Sort, IsTopName}
use Rattle.argot_names_rules.specs.PackageScope.IsTopName.{value as top_value, type_ as top_type, function as top_function}
use Rattle.argot_names_rules.specs.Scopes.{Declaration, Declared, Block, InScope}
use Rattle.argot_names_rules.specs.Scopes.InScope.{everywhere, top as scope_top, import_ as scope_import, local as scope_local}
use Rattle.argot_names_rules.specs.Uses.{IsQualified, IsOfPackage, IsMember, IsFirstOf, StandsFor}
use Rattle.argot_names_rules.specs.Uses.IsQualified.{selector as dotted_selector, type_ as dotted_type}
use Rattle.argot_names_rules.specs.Uses.StandsFor.{value, type_, member, assigned}
use Rattle.argot_names_rules.specs.Loaded.{Declares, top, import_, local}

-- the node is there
abbrev pub IsThere : List TreeNode → ℕ → Type 0
IsThere tree node = (is : TreeNode) × (slice_get tree node ≡ Some is)

pub spanned : (tree : List TreeNode) (node token last : ℕ) (kind : NodeKind) → Spans tree node kind token last → IsThere tree node
spanned tree node token last kind s = (record { kind = kind; token = token; last = last; first = s.first; next = s.next }, s.there)

top_there : (tree : List TreeNode) (sort : Sort) (node token : ℕ) → IsTopName tree sort node token → IsThere tree node
top_there tree _ node token (top_value is outside name) = spanned tree node token name.last _ name.is_name
top_there tree _ node token (top_type is outside under spans) = spanned tree node token _ _ spans
top_there tree _ node token (top_function is none under spans) = spanned tree node token _ _ spans

brings_there : (tree : List TreeNode) (manner : BindingKind) (node token opens closes from : ℕ) → Brings tree manner node token opens closes from → IsThere tree node
brings_there tree _ node token _ _ _ (brings_value is name inner) = spanned tree node token name.last _ name.is_name
brings_there tree _ node token _ _ _ (brings_type is under spans inner) = spanned tree node token _ _ spans
brings_there tree _ node token _ _ _ (define is name inner) = spanned tree node token name.last _ name.is_name
brings_there tree _ node token _ _ _ (range is left under body) = spanned tree node token left.last _ left.is_name
brings_there tree _ node token _ _ _ (receive is left next operand) = spanned tree node token left.last _ left.is_name
brings_there tree _ node token _ _ _ (parameter is p under body) = spanned tree node token p.last _ p.is_name
brings_there tree _ node token opens closes _ (switched is under guard child name below colon) = clause colon
  where
    clause : {at : ℕ} → HasColon tree node opens closes at → IsThere tree node
    clause (of_case is child values) = spanned tree node opens closes _ is
    clause (of_default is) = spanned tree node opens closes _ is

import_there : (tree : List TreeNode) (node at path_at : ℕ) (alias : Alias) → IsImport tree node at path_at alias → IsThere tree node
import_there tree node at _ _ (import_unnamed is child path) = spanned tree node at _ _ is
import_there tree node at _ _ (import_dotted is child path) = spanned tree node at _ _ is
import_there tree node at _ _ (import_named is child name next path) = spanned tree node at _ _ is

-- the node of a declaration
pub declared_there : (h : SourceFiles) (file node : ℕ) (name : List ℕ) → Declares h file node name → IsThere (read_of h file).nodes node
declared_there h file _ _ (top {sort = sort} {node = node} {token = token} is) = top_there (read_of h file).nodes sort node token is
declared_there h file node _ (import_ is) = import_there (read_of h file).nodes node is.at is.path_at is.alias is.imports.is
declared_there h file _ _ (local {manner = manner} {node = node} {token = token} {opens = opens} {closes = closes} {from = from} brings new) = brings_there (read_of h file).nodes manner node token opens closes from brings

-- the node that stands for one
pub stands_there : (h : SourceFiles) (home : PackageKey) (file node : ℕ) (meant : Declaration) → StandsFor h home file node meant → IsThere (read_of h file).nodes node
stands_there h home file node _ (value spans free named means) = spanned (read_of h file).nodes node _ _ _ spans
stands_there h home file node _ (type_ spans named means) = spanned (read_of h file).nodes node _ _ _ spans
stands_there h home file node _ (member dots of is) = go dots
  where
    go : {token name : ℕ} → IsQualified (read_of h file).nodes token name node → IsThere (read_of h file).nodes node
    go (dotted_selector whole first operand under spans) = spanned (read_of h file).nodes node _ _ _ spans
    go (dotted_type spans) = spanned (read_of h file).nodes node _ _ _ spans
stands_there h home file node _ (assigned {token = token} {opens = opens} {closes = closes} {from = from} brings named first) = brings_there (read_of h file).nodes Defined node token opens closes from brings

-- a node that declares a name, in a file of a package that is reached
pub record IsMade (h : SourceFiles) (main : List ℕ) (file node : ℕ) : Type 0 where
  pub home : PackageKey
  pub name : List ℕ
  pub is : IsReachedFile h main home file
  pub declares : Declares h file node name

module _ (h : SourceFiles) (main : List ℕ) (home : PackageKey) (file : ℕ) (r : IsReachedFile h main home file) where
  scope_made : (token f n : ℕ) (name : List ℕ) (meant : Declaration) (block : Block) → InScope h home file token name meant block → meant ≡ Declared f n → IsMade h main f n
  scope_made token f n name _ _ (everywhere is) e = absurd (cc)
  scope_made token f n name _ _ (scope_top {other = other} {node = node} {place = place} is) e =
      let same : (other ≡ f) × (node ≡ n) = (cc, cc) in
      subst (λ x. IsMade h main x n) same.0 (subst (λ x. IsMade h main other x) same.1 (record { home = home; name = text_at (read_of h other) is.token; is = record { reached = r.reached; of = is.of }; declares = top is.is }))
  scope_made token f n name _ _ (scope_import {node = node} {path = path} {place = place} is) e =
      let same : (file ≡ f) × (node ≡ n) = (cc, cc) in
      subst (λ x. IsMade h main x n) same.0 (subst (λ x. IsMade h main file x) same.1 (record { home = home; name = name; is = r; declares = import_ is }))
  scope_made token f n name _ _ (scope_local {node = node} {at = at} is spells low high) e =
      let same : (file ≡ f) × (node ≡ n) = (cc, cc) in
      subst (λ x. IsMade h main x n) same.0 (subst (λ x. IsMade h main file x) same.1 (record { home = home; name = text_at (read_of h file) at; is = r; declares = local is.brings is.new }))

  target_reached : (target : PackageKey) (token : ℕ) (path : List ℕ) → IsOfPackage h home file token path → (name : List ℕ) (f n : ℕ) (m : IsMember h path name f n) → IsReached h main m.target
  target_reached target token path of name f n m =
      record {
        there = r.reached.there;
        leads = onward r.reached.leads
            (record {
              of = r.of;
              node = of.node;
              path_at = of.imported.path_at;
              alias = of.imported.alias;
              path = path;
              imports = of.imported.imports;
              finds = m.finds;
            });
      }

  new_first : (token opens first : ℕ) → text_at (read_of h file) token ≢ codes "_" → (is : IsFirstOf (read_of h file) token opens first) → IsNew (read_of h file) is.manner is.at opens
  new_first token opens first named is = go is.manner
    where
      go : (m : BindingKind) → IsNew (read_of h file) m is.at opens
      go Specified = tt
      go Received = tt
      go Switched = tt
      go Defined = (λ e. named (sym is.same ∙ e), is.first)

  pub stands_made : (node f n : ℕ) (meant : Declaration) → StandsFor h home file node meant → meant ≡ Declared f n → IsMade h main f n
  stands_made node f n _ (value {token = token} {meant = meant} spans free named means) e = scope_made token f n (text_at (read_of h file) token) meant means.block means.in_scope e
  stands_made node f n _ (type_ {token = token} {meant = meant} spans named means) e = scope_made token f n (text_at (read_of h file) token) meant means.block means.in_scope e
  stands_made node f n _ (member {token = token} {member = name} {other = other} {declared = declared} {path = path} dots of is) e =
      let same : (other ≡ f) × (declared ≡ n) = (cc, cc) in
      subst (λ x. IsMade h main x n) same.0 (subst (λ x. IsMade h main other x) same.1
      (record { home = is.target; name = text_at (read_of h other) is.top.token; is = record { reached = target_reached is.target token path of (text_at (read_of h file) name) other declared is; of = is.top.of }; declares = top is.top.is }))
  stands_made node f n _ (assigned {token = token} {opens = opens} {closes = closes} {from = from} {first = first} brings named is) e =
      let same : (file ≡ f) × (first ≡ n) = (cc, cc) in
      subst (λ x. IsMade h main x n) same.0 (subst (λ x. IsMade h main file x) same.1
      (record { home = home; name = text_at (read_of h file) is.at; is = r; declares = local is.brings (new_first token opens first named is) }))
