-- What follows from the definitions alone.
use Rattle.std.specs.Prelude.{◌≡◌, ◌≢◌, ◌<◌, ◌≤◌, ℕ, List}
use Rattle.argot_tree.specs.declared.token.Token.{Token}
use Rattle.argot_tree.specs.declared.tree.Tree.{Tree}
use Rattle.argot_tree.specs.Trees.{SpellsTree}
use Rattle.argot_names_rules.specs.Files.{SourceFiles}
use Rattle.argot_names_rules.specs.Blocks.{IsBlock, IsInnermost}
use Rattle.argot_names_rules.specs.declared.package_key.PackageKey.{PackageKey}
use Rattle.argot_names_rules.specs.Scopes.{Declaration, Means}
use Rattle.argot_names_rules.specs.Faults.{Refuses, IsResolved}
use Rattle.argot_names_rules.specs.declared.fault.NameFault.{NameFault}
use Rattle.argot_names_rules.specs.declared.fault.NameFault.TheVariants.{Memory}

-- a name means at most one declaration
abbrev pub OneMeaning : Type 0
OneMeaning = (h : SourceFiles) (home : PackageKey) (file token : ℕ) (name : List ℕ) (a b : Declaration) → Means h home file token name a → Means h home file token name b → a ≡ b

-- but for want of memory at most one fault is answered
abbrev pub OneFault : Type 0
OneFault = (h : SourceFiles) (main : List ℕ) (a b : NameFault) → Refuses h main a → Refuses h main b → a ≢ Memory → b ≢ Memory → a ≡ b

-- and none where nothing is wrong
abbrev pub NoFault : Type 0
NoFault = (h : SourceFiles) (main : List ℕ) (a : NameFault) → IsResolved h main → Refuses h main a → a ≡ Memory

-- in a tree that spells tokens a block that begins within another ends within it
abbrev pub BlocksNest : Type 0
BlocksNest = (tree : Tree) (tokens : List Token) (a b c d : ℕ) → SpellsTree tree tokens → IsBlock tree.nodes a b → IsBlock tree.nodes c d → a < c → c ≤ b → d ≤ b

-- and the innermost block around a token is one
abbrev pub OneBlock : Type 0
OneBlock = (tree : Tree) (tokens : List Token) (token a b c d : ℕ) → SpellsTree tree tokens → IsInnermost tree.nodes token a b → IsInnermost tree.nodes token c d → (a ≡ c) × (b ≡ d)
