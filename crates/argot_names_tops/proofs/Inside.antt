-- Block by block, from the inside out.
use Rattle.std.proofs.Common.{◌≡◌, ℕ, ◌≤◌, ◌⊎◌, inl, inr, true, false, List, Some, refl, sym, ap, ◌∙◌, subst, arith}
use Rattle.std.specs.Prelude.{slice_get}
use Rattle.std.proofs.lemmas.Bool.{cases_order}
use Rattle.argot_names_rules.specs.declared.package_key.PackageKey.{PackageKey}
use Rattle.argot_names_rules.specs.Files.{SourceFiles, Place, bytes_of, read_of}
use Rattle.argot_tree.specs.declared.token.Token.{Token}
use Rattle.argot_tree.specs.declared.tree.TreeNode.{TreeNode}
use Rattle.argot_names_rules.specs.PackageScope.{IsTop, IsImported}
use Rattle.argot_names_rules.specs.Universe.{is_among, predeclared}
use Rattle.argot_names_rules.specs.Scopes.{Declaration, Predeclared, Declared, Block, Everywhere, InPackage, InFile, InFunction, IsInside, InScope, ComesFirst, by_file, by_node, Means, MeansNothing}
use Rattle.argot_names_rules.specs.Scopes.InScope.{everywhere, top, import_, local}
use Rattle.argot_names_blocks.specs.declared.binding.Binding.{Binding}
use Rattle.argot_names_scopes.specs.declared.file.FileNames.{FileNames}
use Rattle.argot_names_scopes.specs.Files.{file_of, MeansLocal, MeansNoLocal}
use Rattle.argot_names_imports.specs.declared.reached.Reached.{Reached}
use Rattle.argot_names_tops.specs.Tops.{IsNamesOf}
use Rattle.argot_names_tops.specs.Meant.{IsFirstTop, IsFirstImport}
use Rattle.argot_names_tops.specs.Meanings.{MeansImport, MeansPredeclared}

-- of two nodes of a file that aren't in the wrong order the first is the other one or comes before it
not_behind : (file m n : ℕ) → m ≤ n → (Declared file n ≡ Declared file m) ⊎ ComesFirst (Declared file m) (Declared file n)
not_behind file m n le =
    elim (cases_order m n) [
      | inl same ↦ inl (ap (λ k. Declared file k) (sym same))
      | inr other ↦ elim other [ inl before ↦ inr (by_node refl before) | inr behind ↦ absurd (omega (arith, le, behind)) ]
    ]

-- the file that the names are of
pub file_is : (h : SourceFiles) (file : ℕ) (n : FileNames) → IsNamesOf h file n → file_of n.bytes.now n.tokens.now n.tree.now.nodes ≡ read_of h file
file_is h file n is = by_parts n.bytes.now n.tokens.now n.tree.now.nodes is.bytes is.tokens is.nodes
  where
    by_parts : (bytes : List ℕ) (tokens : List Token) (nodes : List TreeNode) → bytes ≡ bytes_of h file → tokens ≡ (read_of h file).tokens → nodes ≡ (read_of h file).nodes → file_of bytes tokens nodes ≡ read_of h file
    by_parts bytes tokens nodes a b c =
        ap (λ x. file_of x tokens nodes) a ∙ (ap (λ x. file_of (bytes_of h file) x nodes) b ∙ ap (λ x. file_of (bytes_of h file) (read_of h file).tokens x) c)

module _ (h : SourceFiles) (home : PackageKey) (file token : ℕ) (name : List ℕ) where
  pub means_local : (b : Binding) → MeansLocal (read_of h file) token name b → Means h home file token name (Declared file b.node)
  means_local b m =
      record {
        block = InFunction b.opens;
        in_scope = local m.is m.spells m.from m.to;
        innermost = inside;
      }
    where
      inside : (other : Declaration) (outer : Block) → InScope h home file token name other outer → IsInside (InFunction b.opens) outer ⊎ ((InFunction b.opens ≡ outer) × ((other ≡ Declared file b.node) ⊎ ComesFirst (Declared file b.node) other))
      inside _ _ (everywhere among) = inl (omega arith)
      inside _ _ (top is) = inl (omega arith)
      inside _ _ (import_ is) = inl (omega arith)
      inside _ _ (local {node = node} {at = at} {opens = opens} {closes = closes} {from = from} is spells begins ends) =
          elim (m.innermost node at opens closes from is spells begins ends) [
            | inl further ↦ inl (omega (arith, further))
            | inr same ↦ inr (ap (λ k. InFunction k) same.0, not_behind file b.node node same.1)
          ]

  module _ (no_local : MeansNoLocal (read_of h file) token name) where
    pub means_import : (r : Reached) (number : ℕ) → IsFirstImport h r file name number → MeansImport h r home file token name number
    means_import r number is =
        record {
          import_ = is.import_;
          place = is.place;
          there = is.there;
          file_is = is.file_is;
          imported = is.is;
          means = record { block = InFile; in_scope = import_ is.is; innermost = inside };
        }
      where
        inside : (other : Declaration) (outer : Block) → InScope h home file token name other outer → IsInside InFile outer ⊎ ((InFile ≡ outer) × ((other ≡ Declared file is.import_.node) ⊎ ComesFirst (Declared file is.import_.node) other))
        inside _ _ (everywhere among) = inl (omega arith)
        inside _ _ (top t) = inl (omega arith)
        inside _ _ (import_ {node = node} {path = path} {place = place} i) = inr (refl, not_behind file is.import_.node node (is.first node path place i))
        inside _ _ (local {node = node} {at = at} {opens = opens} {closes = closes} {from = from} l spells begins ends) = absurd (no_local node at opens closes from l spells begins ends)

    module _ (no_import : (node : ℕ) (path : List ℕ) (place : Place) → IsImported h file name node path place → ⊥) where
      pub means_top : (other node : ℕ) → IsFirstTop h home name other node → Means h home file token name (Declared other node)
      means_top first_file first_node is = record { block = InPackage; in_scope = top is.is; innermost = inside }
        where
          inside : (other : Declaration) (outer : Block) → InScope h home file token name other outer → IsInside InPackage outer ⊎ ((InPackage ≡ outer) × ((other ≡ Declared first_file first_node) ⊎ ComesFirst (Declared first_file first_node) other))
          inside _ _ (everywhere among) = inl (omega arith)
          inside _ _ (top {other = other} {node = node} {place = place} t) =
              inr (
                refl,
                elim (is.first other node place t) [
                  | inl before ↦ inr (by_file before)
                  | inr same ↦ in_one other node same.0 same.1
                ],
              )
            where
              in_one : (other node : ℕ) → first_file ≡ other → first_node ≤ node → (Declared other node ≡ Declared first_file first_node) ⊎ ComesFirst (Declared first_file first_node) (Declared other node)
              in_one other node same le = subst (λ f. (Declared f node ≡ Declared first_file first_node) ⊎ ComesFirst (Declared first_file first_node) (Declared f node)) same (not_behind first_file first_node node le)
          inside _ _ (import_ {node = node} {path = path} {place = place} i) = absurd (no_import node path place i)
          inside _ _ (local {node = node} {at = at} {opens = opens} {closes = closes} {from = from} l spells begins ends) = absurd (no_local node at opens closes from l spells begins ends)

      module _ (no_top : (other node : ℕ) (place : Place) → IsTop h home name other node place → ⊥) where
        pub means_predeclared : (number : ℕ) → slice_get predeclared number ≡ Some name → is_among name predeclared ≡ true → MeansPredeclared h home file token name number
        means_predeclared number there among = record { there = there; means = record { block = Everywhere; in_scope = everywhere among; innermost = inside } }
          where
            inside : (other : Declaration) (outer : Block) → InScope h home file token name other outer → IsInside Everywhere outer ⊎ ((Everywhere ≡ outer) × ((other ≡ Predeclared name) ⊎ ComesFirst (Predeclared name) other))
            inside _ _ (everywhere a) = inr (refl, inl refl)
            inside _ _ (top {other = other} {node = node} {place = place} t) = absurd (no_top other node place t)
            inside _ _ (import_ {node = node} {path = path} {place = place} i) = absurd (no_import node path place i)
            inside _ _ (local {node = node} {at = at} {opens = opens} {closes = closes} {from = from} l spells begins ends) = absurd (no_local node at opens closes from l spells begins ends)

        pub means_nothing : is_among name predeclared ≡ false → MeansNothing h home file token name
        means_nothing none _ _ (everywhere a) = absurd (cc (none, a))
        means_nothing none _ _ (top {other = other} {node = node} {place = place} t) = absurd (no_top other node place t)
        means_nothing none _ _ (import_ {node = node} {path = path} {place = place} i) = absurd (no_import node path place i)
        means_nothing none _ _ (local {node = node} {at = at} {opens = opens} {closes = closes} {from = from} l spells begins ends) = absurd (no_local node at opens closes from l spells begins ends)
