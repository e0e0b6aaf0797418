-- What is computed for a node is exactly what it brings.
use Rattle.std.proofs.Common.{◌≡◌, ℕ, List, Option, Some, refl, sym, ◌∙◌, subst}
use Rattle.argot_tree.specs.declared.tree.TreeNode.{TreeNode}
use Rattle.argot_names_blocks.specs.declared.blocks.Block.{Block}
use Rattle.argot_names_blocks.specs.declared.binding.BindingKind.{BindingKind as Written}
use Rattle.argot_names_blocks.specs.declared.binding.BindingKind.TheVariants as manners
use Rattle.argot_names_blocks.specs.declared.binding.Binding.{Binding}
use Rattle.argot_files.specs.Forms.{IsFormed}
use Rattle.argot_files.specs.Keys.{AreKeys}
use Rattle.argot_files.specs.Parents.{AreParents}
use Rattle.argot_names_blocks.specs.Blocks.{AreBlocks}
use Rattle.argot_names_blocks.specs.Binding.{manner_of, written_of, IsBindingBy}
use Rattle.argot_names_blocks.specs.Bringing.{bring_of}
use Rattle.argot_names_blocks.proofs.BringsAll.{all_brought}
use Rattle.argot_names_blocks.proofs.BringsOnly.{only_brought}

written_back : (m : Written) → written_of (manner_of m) ≡ m
written_back manners.Specified = refl
written_back manners.Defined = refl
written_back manners.Received = refl
written_back manners.Switched = refl

pub brought_by : (tree : List TreeNode) (ps keys : List (Option ℕ)) (blocks : List Block) (k : ℕ) (result : Option Binding) → IsFormed tree → AreParents tree ps → AreKeys tree keys → AreBlocks tree blocks → result ≡ bring_of tree ps keys blocks k → IsBindingBy tree k result
brought_by tree ps keys blocks k result formed parents_ok keys_ok blocks_ok e =
    record {
      sound = λ b g. only_brought tree ps keys blocks parents_ok keys_ok blocks_ok k b (sym e ∙ g);
      complete = λ b same brings.
          let all = all_brought tree ps keys blocks formed parents_ok keys_ok blocks_ok brings in
          let here : bring_of tree ps keys blocks k ≡ Some (record { manner = written_of (manner_of b.manner); node = b.node; token = b.token; opens = b.opens; closes = b.closes; from = b.from }) = subst (λ x. bring_of tree ps keys blocks x ≡ Some (record { manner = written_of (manner_of b.manner); node = b.node; token = b.token; opens = b.opens; closes = b.closes; from = b.from })) same all in
          e ∙ (here ∙ (λ i. Some (record { manner = written_back b.manner i; node = b.node; token = b.token; opens = b.opens; closes = b.closes; from = b.from })));
    }
