-- The blocks of a tree as a list, and the innermost one around a token.
use Rattle.std.specs.Prelude.{◌≡◌, ℕ, ◌<◌, ◌≤◌, Bool, true, false, leb, ◌&&◌, List, [], ◌∷◌, Option, Some, None, slice_get}
use Rattle.argot_tree.specs.declared.tree.TreeNode.{TreeNode}
use Rattle.argot_names_rules.specs.Nodes.{IsOf}
use Rattle.argot_names_rules.specs.Blocks.{is_block, IsBlock, IsAround, IsInnermost, IsOutside}
use Rattle.argot_names_blocks.specs.declared.blocks.Block.{Block}
use Rattle.argot_names_blocks.specs.declared.blocks.Span.{Span}

-- a block that begins and ends at these tokens stands in the list
pub record Stands (blocks : List Block) (opens closes : ℕ) : Type 0 where
  pub number : ℕ
  pub block : Block
  pub there : slice_get blocks number ≡ Some block
  pub begins : block.opens ≡ opens
  pub ends : block.closes ≡ closes

-- the innermost block around the one that begins with this token, by its number in the list
pub record IsOuter (tree : List TreeNode) (blocks : List Block) (opens : ℕ) (outer : Option ℕ) : Type 0 where
  pub inside : (k : ℕ) → outer ≡ Some k → (b : Block) × (slice_get blocks k ≡ Some b) × IsAround tree opens b.opens b.closes × (b.opens < opens)
  pub innermost : (k : ℕ) (b : Block) (other end : ℕ) → outer ≡ Some k → slice_get blocks k ≡ Some b → IsAround tree opens other end → other < opens → other ≤ b.opens
  pub outside : (other end : ℕ) → outer ≡ None → IsAround tree opens other end → other < opens → ⊥

-- each block begins behind those that stand before it in the list
abbrev pub Ascend : List Block → Type 0
Ascend blocks = (j k : ℕ) (a b : Block) → j < k → slice_get blocks j ≡ Some a → slice_get blocks k ≡ Some b → a.opens < b.opens

-- the blocks of the tree and no others, by their first tokens, each with the innermost one around it
pub record AreBlocks (tree : List TreeNode) (blocks : List Block) : Type 0 where
  pub sound : (k : ℕ) (b : Block) → slice_get blocks k ≡ Some b → IsBlock tree b.opens b.closes
  pub complete : (opens closes : ℕ) → IsBlock tree opens closes → Stands blocks opens closes
  pub ascend : Ascend blocks
  pub outers : (k : ℕ) (b : Block) → slice_get blocks k ≡ Some b → IsOuter tree blocks b.opens b.outer

-- the blocks of some tree
abbrev pub AreSomeBlocks : List Block → Type 0
AreSomeBlocks blocks = (tree : List TreeNode) × AreBlocks tree blocks

-- the innermost block around the token, by its number in the list
pub record IsInnermostIn (tree : List TreeNode) (blocks : List Block) (token : ℕ) (result : Option ℕ) : Type 0 where
  pub inside : (k : ℕ) → result ≡ Some k → (b : Block) × (slice_get blocks k ≡ Some b) × IsInnermost tree token b.opens b.closes
  pub outside : result ≡ None → IsOutside tree token

-- the tokens of the last block of the list that is around a token
abbrev pub is_around : Block → ℕ → Bool
is_around b token = leb b.opens token && leb token b.closes

abbrev pub span_if : Bool → Block → Option Span
span_if true b = Some (record { opens = b.opens; closes = b.closes })
span_if false b = None

abbrev pub later : Option Span → Option Span → Option Span
later first None = first
later first (Some span) = Some span

abbrev pub span_in : List Block → ℕ → Option Span
span_in [] token = None
span_in (b ∷ blocks) token = later (span_if (is_around b token) b) (span_in blocks token)

-- the block of this number closes at the token or behind it
pub record ClosesBehind (blocks : List Block) (token k : ℕ) : Type 0 where
  pub block : Block
  pub there : slice_get blocks k ≡ Some block
  pub to : token ≤ block.closes

-- the last one of the first `count` blocks that does
pub record IsLastTo (blocks : List Block) (count token : ℕ) (result : Option ℕ) : Type 0 where
  pub there : (k : ℕ) → result ≡ Some k → (k < count) × ClosesBehind blocks token k
  pub last : (k j : ℕ) → result ≡ Some k → j < count → ClosesBehind blocks token j → j ≤ k
  pub none : (j : ℕ) → result ≡ None → j < count → ClosesBehind blocks token j → ⊥

-- each block with the last one before it that closes at its first token or behind that
pub record AreLinked (blocks : List Block) : Type 0 where
  pub ascend : Ascend blocks
  pub outers : (k : ℕ) (b : Block) → slice_get blocks k ≡ Some b → IsLastTo blocks k b.opens b.outer

-- the first `count` blocks begin at the token or before it
abbrev pub BeginBy : List Block → (count token : ℕ) → Type 0
BeginBy blocks count token = (k : ℕ) (b : Block) → k < count → slice_get blocks k ≡ Some b → b.opens ≤ token

-- a node before this number is a block that begins and ends at these tokens
pub record IsBlockBefore (tree : List TreeNode) (k opens closes : ℕ) : Type 0 where
  pub node : ℕ
  pub before : node < k
  pub is : IsOf tree node is_block opens closes

-- the list as far as the nodes before this number go
pub record AreBlocksUpTo (tree : List TreeNode) (k : ℕ) (blocks : List Block) : Type 0 where
  pub sound : (j : ℕ) (b : Block) → slice_get blocks j ≡ Some b → IsBlockBefore tree k b.opens b.closes
  pub complete : (opens closes : ℕ) → IsBlockBefore tree k opens closes → Stands blocks opens closes
  pub linked : AreLinked blocks
