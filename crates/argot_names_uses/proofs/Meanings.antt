-- The number of the declaration that a name means.
use Rattle.std.proofs.Common.{◌≡◌, ℕ, List, Option, Some, None, subst}
use Rattle.std.specs.Prelude.{slice_get}
use Rattle.argot_tree.specs.declared.tree.TreeNode.{TreeNode}
use Rattle.argot_typed.specs.declared.program.Decl.{Decl}
use Rattle.argot_names_rules.specs.declared.package_key.PackageKey.{PackageKey}
use Rattle.argot_names_rules.specs.Files.{SourceFiles, read_of}
use Rattle.argot_names_rules.specs.Loaded.{top as declares_top, import_ as declares_import, local as declares_local}
use Rattle.argot_names_rules.specs.Scopes.{Declaration, Predeclared, Declared, Block, InScope, Means, MeansNothing}
use Rattle.argot_names_rules.specs.Scopes.InScope.{everywhere, top, import_, local}
use Rattle.argot_names_rules.proofs.Meanings.{one_meaning}
use Rattle.argot_names_uses.proofs.OneName.{node_there}
use Rattle.argot_answers.specs.Answers.{Exactly}
use Rattle.argot_names_uses.specs.Numbers.{IsNumberOf, IsMeantBy}

abbrev pub file_in : Declaration → ℕ
file_in (Predeclared name) = 0
file_in (Declared file node) = file

abbrev pub node_in : Declaration → ℕ
node_in (Predeclared name) = 0
node_in (Declared file node) = node

-- the node of a declaration is there
abbrev IsThere : SourceFiles → Declaration → Type 0
IsThere h (Predeclared name) = Unit {0}
IsThere h (Declared file node) = (n : TreeNode) × (slice_get (read_of h file).nodes node ≡ Some n)

in_scope_there : (h : SourceFiles) (home : PackageKey) (file token : ℕ) (name : List ℕ) (d : Declaration) (block : Block) → InScope h home file token name d block → IsThere h d
in_scope_there h home file token name _ block (everywhere e) = tt
in_scope_there h home file token name _ block (top {other = other} {node = node} t) = node_there h other node _ (declares_top t.is)
in_scope_there h home file token name _ block (import_ {node = node} i) = node_there h file node _ (declares_import i)
in_scope_there h home file token name _ block (local {node = node} l spells low high) = node_there h file node _ (declares_local l.brings l.new)

module _ (h : SourceFiles) (home : PackageKey) (file token : ℕ) (name : List ℕ) where
  pub means_there : (other node : ℕ) → Means h home file token name (Declared other node) → (n : TreeNode) × (slice_get (read_of h other).nodes node ≡ Some n)
  means_there other node m = in_scope_there h home file token name (Declared other node) m.block m.in_scope

  -- the declaration is the only one
  pub meant_exactly : (decls : List Decl) (meant : Declaration) (r : Option ℕ) → Means h home file token name meant → Exactly (IsNumberOf h decls meant) r → Exactly (IsMeantBy (Means h home file token name) h decls) r
  meant_exactly decls meant r m e =
      record {
        sound = λ x f. record { meant = meant; holds = m; is = e.sound x f };
        complete = λ x i. e.complete x (subst (λ d. IsNumberOf h decls d x) (one_meaning h home file token name i.meant meant i.holds m) i.is);
      }

  pub nothing_meant : (decls : List Decl) → MeansNothing h home file token name → Exactly (IsMeantBy (Means h home file token name) h decls) None
  nothing_meant decls none = record { sound = λ x f. absurd (cc); complete = λ x i. absurd (none i.meant i.holds.block i.holds.in_scope) }
