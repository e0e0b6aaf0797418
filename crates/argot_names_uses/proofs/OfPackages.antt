-- The import that a name before a dot means is one.
use Rattle.std.proofs.Common.{◌≡◌, ℕ, ◌+◌, ◌≤◌, List, Bool, true, false, Option, Some, None, inl, inr, refl, sym, ap, ◌∙◌, subst, arith}
use Rattle.std.specs.Prelude.{IfSome, IfNone}
use Rattle.argot_tree.specs.declared.node_kind.NodeKind.{NodeKind}
use Rattle.argot_tree.specs.declared.node_kind.NodeKind.TheVariants as nodes
use Rattle.argot_tree.specs.declared.tree.TreeNode.{TreeNode}
use Rattle.argot_names_rules.specs.declared.package_key.PackageKey.{PackageKey}
use Rattle.argot_names_rules.specs.declared.alias.Alias.{Alias}
use Rattle.argot_names_rules.specs.Files.{SourceFiles, Place, read_of, text_at}
use Rattle.argot_names_rules.specs.Nodes.{Spans}
use Rattle.argot_names_rules.specs.Imports.{IsImport, unnamed, dotted, named}
use Rattle.argot_names_rules.specs.Bindings.{BindingKind, HasColon, of_case, of_default, Brings, value, type_, define, range, receive, parameter, switched}
use Rattle.argot_names_rules.specs.TextValues.{TextValue}
use Rattle.argot_names_rules.specs.PackageScope.{IsImported}
use Rattle.argot_names_rules.specs.Scopes.{Declaration, Predeclared, Declared, Block, InFunction, IsInside, depth, InScope, Means}
use Rattle.argot_names_rules.specs.Scopes.InScope.{everywhere, top, import_, local}
use Rattle.argot_names_rules.specs.Uses.{IsOfPackage}
use Rattle.argot_names_rules.proofs.Meanings.{one_meaning}
use Rattle.argot_names_imports.proofs.Siting.{one_site}
use Rattle.argot_names_imports.proofs.Values.{one_text_value}
use Rattle.argot_names_blocks.specs.declared.binding.Binding.{Binding}
use Rattle.argot_names_scopes.specs.Files.{MeansLocal, MeansNoLocal}
use Rattle.argot_names_imports.specs.declared.reached.Reached.{Reached}
use Rattle.argot_names_tops.specs.Meant.{IsFirstImport}
use Rattle.argot_names_tops.proofs.Inside.{means_import}
use Rattle.argot_names_uses.specs.Packages.{IsImportMeant, IsPackageMeant, some, nothing}

-- imports are no declarations of functions
abbrev brings_names : NodeKind → Bool
brings_names nodes.Spec = false
brings_names nodes.DotSpec = false
brings_names nodes.NamedSpec = false
brings_names _ = true

pub one_kind : (tree : List TreeNode) (node : ℕ) (k l : NodeKind) (a b c d : ℕ) → Spans tree node k a b → Spans tree node l c d → k ≡ l
one_kind tree node k l a b c d s t = some_is (record { kind = k; token = a; last = b; first = s.first; next = s.next }) (record { kind = l; token = c; last = d; first = t.first; next = t.next }) (sym s.there ∙ t.there)
  where
    some_is : (m n : TreeNode) → Some m ≡ Some n → m.kind ≡ n.kind
    some_is m n e = cc

-- the kind of a node passes or doesn't
record HasSide (tree : List TreeNode) (node : ℕ) (side : Bool) : Type 0 where
  kind : NodeKind
  token : ℕ
  last : ℕ
  spans : Spans tree node kind token last
  passes : brings_names kind ≡ side

one_side : (tree : List TreeNode) (node : ℕ) → HasSide tree node true → HasSide tree node false → ⊥
one_side tree node a b =
    let same = one_kind tree node a.kind b.kind a.token a.last b.token b.last a.spans b.spans in
    let moved : brings_names b.kind ≡ true = subst (λ k. brings_names k ≡ true) same a.passes in
    let other = b.passes in
    absurd (cc)

side_of : (tree : List TreeNode) (node : ℕ) (kind : NodeKind) (token last : ℕ) (side : Bool) → Spans tree node kind token last → brings_names kind ≡ side → HasSide tree node side
side_of tree node kind token last side s e = record { kind = kind; token = token; last = last; spans = s; passes = e }

import_side : (tree : List TreeNode) (node at path : ℕ) (alias : Alias) → IsImport tree node at path alias → HasSide tree node false
import_side tree node at path alias (unnamed {end = end} s f c) = side_of tree node nodes.Spec at end false s refl
import_side tree node at path alias (dotted {end = end} s f c) = side_of tree node nodes.DotSpec at end false s refl
import_side tree node at path alias (named {end = end} s f c n d) = side_of tree node nodes.NamedSpec at end false s refl

brings_side : (tree : List TreeNode) (m : BindingKind) (node token opens closes from : ℕ) → Brings tree m node token opens closes from → HasSide tree node true
brings_side tree m node token opens closes from (value is of i) = side_of tree node nodes.DeclName token of.last true of.is_name refl
brings_side tree m node token opens closes from (type_ {end = end} is child s i) = side_of tree node nodes.DeclName token end true s refl
brings_side tree m node token opens closes from (define s of i) = side_of tree node nodes.DeclName token of.last true of.is_name refl
brings_side tree m node token opens closes from (range s left child b) = side_of tree node nodes.NameUse token left.last true left.is_name refl
brings_side tree m node token opens closes from (receive s left n o) = side_of tree node nodes.NameUse token left.last true left.is_name refl
brings_side tree m node token opens closes from (parameter is p child b) = side_of tree node nodes.DeclName token p.last true p.is_name refl
brings_side tree m node token opens closes from (switched {colon = colon} s g gs d n c colons) = by colon colons
  where
    by : (at : ℕ) → HasColon tree node opens closes at → HasSide tree node true
    by at (of_case k v w) = side_of tree node nodes.Case opens closes true k refl
    by at (of_default k) = side_of tree node nodes.Default opens closes true k refl

abbrev node_in : Declaration → ℕ
node_in (Predeclared name) = 0
node_in (Declared file node) = node

module _ (h : SourceFiles) (home : PackageKey) (file token : ℕ) where
  -- a declaration that is in scope of a function's block is one in a function
  in_function : (name : List ℕ) (d : Declaration) (block : Block) (node : ℕ) → InScope h home file token name d block → 3 ≤ depth block → d ≡ Declared file node → HasSide (read_of h file).nodes node true
  in_function name _ _ node (everywhere e) deep is = absurd (omega (arith, deep))
  in_function name _ _ node (top e) deep is = absurd (omega (arith, deep))
  in_function name _ _ node (import_ e) deep is = absurd (omega (arith, deep))
  in_function name _ _ node (local {node = other} {at = at} {opens = opens} {closes = closes} {from = from} l spells low high) deep is =
      let same : other ≡ node = ap node_in is in
      subst (λ n. HasSide (read_of h file).nodes n true) same (brings_side (read_of h file).nodes l.manner other at opens closes from l.brings)

  -- a name that means a declaration in a function means no import
  pub local_no_package : (b : Binding) → MeansLocal (read_of h file) token (text_at (read_of h file) token) b → (path : List ℕ) → IsOfPackage h home file token path → ⊥
  local_no_package b m path p =
      let deep : 3 ≤ depth p.means.block = elim (p.means.innermost (Declared file b.node) (InFunction b.opens) (local m.is (p.spells ∙ m.spells) m.from m.to)) [
        | inl inside ↦ far p.means.block inside
        | inr same ↦ subst (λ (x : Block). 3 ≤ depth x) (sym same.0) (low b.opens)
      ] in
      one_side (read_of h file).nodes p.node (in_function p.name (Declared file p.node) p.means.block p.node p.means.in_scope deep refl)
      (import_side (read_of h file).nodes p.node p.imported.at p.imported.path_at p.imported.alias p.imported.imports.is)
    where
      low : (n : ℕ) → 3 ≤ 3 + n
      low n = omega arith

      far : (x : Block) → IsInside x (InFunction b.opens) → 3 ≤ depth x
      far x i = omega (arith, i)

  -- the import is one
  pub one_package : (r : Reached) (number : ℕ) → MeansNoLocal (read_of h file) token (text_at (read_of h file) token) → IsFirstImport h r file (text_at (read_of h file) token) number → IsImportMeant h r home file token number
  one_package r number none is =
      let m = means_import h home file token (text_at (read_of h file) token) none r number is in
      record {
        import_ = m.import_;
        there = m.there;
        file_is = m.file_is;
        of_package = record { node = m.import_.node; name = text_at (read_of h file) token; place = m.place; spells = refl; means = m.means; imported = m.imported };
        only = λ path p.
            let moved = subst (λ n. Means h home file token n (Declared file p.node)) p.spells p.means in
            let same : p.node ≡ m.import_.node = ap node_in (one_meaning h home file token (text_at (read_of h file) token) (Declared file p.node) (Declared file m.import_.node) moved m.means) in
            let here = subst (λ n. IsImport (read_of h file).nodes n p.imported.at p.imported.path_at p.imported.alias) same p.imported.imports.is in
            let site = one_site (read_of h file).nodes m.import_.node p.imported.at m.imported.at p.imported.path_at m.imported.path_at p.imported.alias m.imported.alias here m.imported.imports.is in
            one_text_value (text_at (read_of h file) m.imported.path_at) path m.import_.path
            (subst (λ t. TextValue (text_at (read_of h file) t) path) site.1 p.imported.imports.value) m.imported.imports.value;
      }

  pub no_package : ((node : ℕ) (path : List ℕ) (place : Place) → IsImported h file (text_at (read_of h file) token) node path place → ⊥) → (path : List ℕ) → IsOfPackage h home file token path → ⊥
  no_package none path p = none p.node path p.place (subst (λ n. IsImported h file n p.node path p.place) p.spells p.imported)

  -- what the looks into the tables answer
  pub package_is : (main : List ℕ) (r : Reached) (name : List ℕ) (result : Option ℕ) → name ≡ text_at (read_of h file) token → MeansNoLocal (read_of h file) token name → IfSome result (IsFirstImport h r file name)
      → ((node : ℕ) (path : List ℕ) (place : Place) → IfNone result (IsImported h file name node path place → ⊥)) → IsPackageMeant h r home file token result
  package_is main r name None is none_local there none = nothing (no_package (λ node path place i. none node path place (subst (λ n. IsImported h file n node path place) (sym is) i)))
  package_is main r name (Some number) is none_local there none = some (one_package r number (subst (MeansNoLocal (read_of h file) token) is none_local) (subst (λ n. IsFirstImport h r file n number) is there))
