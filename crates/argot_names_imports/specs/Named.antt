-- An import whose name stands before its path.
use Rattle.std.specs.Prelude.{◌≡◌, ℕ, List, Option}
use Rattle.argot_tree.specs.declared.tree.TreeNode.{TreeNode}
use Rattle.argot_names_rules.specs.declared.alias.Alias.TheVariants.{Named}
use Rattle.argot_names_imports.specs.Sites.{IsPathAt, IsNameAt}
use Rattle.argot_names_imports.specs.declared.sites.Site.{Site}

pub record IsNamedAt (tree : List TreeNode) (at : ℕ) (name : Option ℕ) (s : Site) : Type 0 where
  pub name_at : ℕ
  pub next : Option ℕ
  pub is_name : IsNameAt tree name name_at next
  pub is_path : IsPathAt tree next s.path_at
  pub at_is : s.at ≡ at
  pub alias_is : s.alias ≡ Named name_at
