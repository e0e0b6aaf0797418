-- What reading has to do with the trees that spell the tokens.
use Rattle.std.specs.Prelude.{◌≡◌, ℕ, ◌+◌, ◌*◌, ◌≤◌, ◌++◌, List, [], length, Some, None}
use Rattle.argot_tree.specs.declared.token.Token.{Token}
use Rattle.argot_tree.specs.Forests.{Forest}
use Rattle.argot_tree.specs.declared.tree.Tree.{Tree}
use Rattle.argot_tree.specs.declared.tree.TreeNode.{TreeNode}
use Rattle.argot_tree.specs.Forests.{nodes_from}
use Rattle.argot_tree.specs.Grammar.{Part, File, Level, AnyType, Params, Signature, Decl, Block, Spells}
use Rattle.argot_tree.specs.Trees.{SpellsNodes, SpellsTree, IsLongestPart, BeginsNoPart}
use Rattle.argot_parse_reader.specs.Rooms.{room, rank}
use Rattle.argot_parse_reader.specs.declared.post.Post.{Post}
use Rattle.argot_parse_reader.specs.Posts.{posts}
use Rattle.argot_parse_reader.specs.Reading.{The, Answer}
use Rattle.argot_parse_reader.specs.Reader.{read}

-- what is read as a part is spelled so, and its nodes stand behind those that were there
abbrev pub ReadsSpelled : List Token → Type 0
ReadsSpelled tokens =
    (n : ℕ) (part : Part) (at to : ℕ) (out new : List Post) → read tokens n (The part) at out ≡ Some (to, new) → (x : Forest) × Spells tokens part x at to × (new ≡ out ++ posts x)

-- whatever file is spelled is read, all of it
abbrev pub SpelledRead : List Token → Type 0
SpelledRead tokens =
    (x : Forest) (n : ℕ) → Spells tokens File x 0 (length tokens) → 32 * length tokens + 1 ≤ n → read tokens n (The File) 0 [] ≡ Some (length tokens, posts x)

-- at most one tree spells a token list
abbrev pub OneTree : Type 0
OneTree = (tokens : List Token) (a b : Tree) → SpellsTree a tokens → SpellsTree b tokens → a ≡ b

-- the parts that are read by themselves
abbrev pub IsAlone : Part → Type 0
IsAlone (Level k bare) = Unit {0}
IsAlone AnyType = Unit {0}
IsAlone (Params dots) = Unit {0}
IsAlone Signature = Unit {0}
IsAlone Decl = Unit {0}
IsAlone Block = Unit {0}
IsAlone _ = ⊥

-- something is read, and at least up to this place
abbrev pub Reaches : ℕ → Answer → Type 0
Reaches to answer = (r : ℕ × List Post) × (answer ≡ Some r) × (to ≤ r.0)

-- reading reaches at least as far as anything that is spelled where it begins
abbrev pub SpelledReached : List Token → Type 0
SpelledReached tokens =
    (part : Part) (x : Forest) (n at to : ℕ) (out : List Post) → IsAlone part → Spells tokens part x at to → room tokens at (rank part) ≤ n → Reaches to (read tokens n (The part) at out)

-- the nodes of what is read, once they are linked, are the longest part
abbrev pub ReadLongest : List Token → Type 0
ReadLongest tokens =
    (part : Part) (n at to : ℕ) (new : List Post) (nodes : List TreeNode) → IsAlone part → room tokens at (rank part) ≤ n → read tokens n (The part) at [] ≡ Some (to, new) → ((x : Forest) → new ≡ posts x → nodes ≡ nodes_from 0 x) → IsLongestPart tokens part nodes at to

-- where nothing is read no part begins
abbrev pub ReadNone : List Token → Type 0
ReadNone tokens =
    (part : Part) (n at : ℕ) → IsAlone part → room tokens at (rank part) ≤ n → read tokens n (The part) at [] ≡ None → BeginsNoPart tokens part at

-- at most one tree of such a part spells the tokens from one place up to another
abbrev pub OnePart : Type 0
OnePart =
    (tokens : List Token) (part : Part) (a b : List TreeNode) (from to : ℕ) → IsAlone part → SpellsNodes tokens part a from to → SpellsNodes tokens part b from to → a ≡ b
