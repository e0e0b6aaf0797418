-- The nodes of a program. A mark names a node by the path of its leaf, a node of the analysis by the leaf's number.
use Rattle.std.specs.Prelude.{◌≡◌, ℕ, ◌<◌, List, Some, slice_get}
use Rattle.argot_plain.specs.Code.{Code, IsAt, IsIn, IsEntry, IsSiteOf, leaves, element_leaves, node_registers}
use Rattle.argot_plain.specs.declared.instructions.Kind.{Kind}
use Rattle.argot_plain.specs.declared.instructions.Kind.TheVariants.{Grow}
use Rattle.argot_plain.specs.declared.sites.Site.{Site}
use Rattle.argot_text.specs.declared.path.PathStep.{PathStep}

-- a place, the index of a result, handed value or parameter there, and a leaf path
pub record Mark : Type 0 where
  pub place : ℕ
  pub index : ℕ
  pub leaf : List PathStep

abbrev pub mark : ℕ → ℕ → List PathStep → Mark
mark i k q = record { place = i; index = k; leaf = q }

-- the leaf number a at the index k of the place i is the path q: of a result, handed value, parameter, written value or what
-- a Leave hands back; of a Grow also of the items that it puts (index 1) and of the elements that it copies (index 2)
pub data HasLeaf (p : Code) (i k a : ℕ) (q : List PathStep) : Type 0 where
  of_kind : (h r : ℕ) → (kind : Kind) → IsIn p i h → IsAt p i kind → slice_get (node_registers kind) k ≡ Some r
      → slice_get (leaves p h r) a ≡ Some q → HasLeaf p i k a q
  of_items : (n to at : ℕ) → (items : List ℕ) → (site : Site) → IsAt p i (Grow to at items) → IsSiteOf p i n site → k ≡ 1
      → slice_get (element_leaves site) a ≡ Some q → HasLeaf p i k a q
  of_elements : (n to at : ℕ) → (items : List ℕ) → (site : Site) → IsAt p i (Grow to at items) → IsSiteOf p i n site → k ≡ 2
      → slice_get (element_leaves site) a ≡ Some q → HasLeaf p i k a q
  of_entry : (h : ℕ) → (e : IsEntry p i h) → k < e.fn.params → slice_get (leaves p h k) a ≡ Some q → HasLeaf p i k a q

-- the mark is that of a node
pub record IsNode (p : Code) (n : Mark) : Type 0 where
  pub number : ℕ
  pub has : HasLeaf p n.place n.index number n.leaf
