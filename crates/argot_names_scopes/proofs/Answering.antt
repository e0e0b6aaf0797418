-- What a file's names answer, from what its lists answer.
use Rattle.std.proofs.Common.{◌≡◌, ℕ, List, length, Bool, Option, Some, None, refl, subst, arith}
use Rattle.std.specs.Prelude.{IfSome, IsNone}
use Rattle.argot_tree.specs.declared.token.Token.{Token}
use Rattle.argot_tree.specs.declared.tree.TreeNode.{TreeNode}
use Rattle.argot_names_blocks.specs.declared.binding.Binding.{Binding}
use Rattle.argot_names_blocks.specs.declared.bindings.Bindings.{Bindings}
use Rattle.argot_names_rules.specs.Bindings.{HasEarlier}
use Rattle.argot_names_rules.specs.Uses.{IsFirstOf}
use Rattle.argot_names_scopes.specs.Again.{IsFirstAgain}
use Rattle.argot_names_scopes.specs.Earliest.{IsEarliest}
use Rattle.argot_names_scopes.specs.Files.{file_of, MeansLocal, MeansNoLocal, IsFirstPlace, HasNoPlace}
use Rattle.argot_names_scopes.specs.Meant.{IsBest}
use Rattle.argot_names_scopes.specs.declared.file.FileNames.{FileNames}
use Rattle.argot_names_scopes.specs.Names.{AreNames}
use Rattle.argot_names_scopes.proofs.InFile.{best_meant, none_meant, first_place, no_place, earliest_first, earliest_none}

if_some : {A : Type 0} (r : Option A) (P : A → Type 0) → ((x : A) → r ≡ Some x → P x) → IfSome r P
if_some None P h = tt
if_some (Some x) P h = h x refl

module _ (n : FileNames) (names : AreNames n) where
  abbrev bytes : List ℕ
  bytes = n.bytes.now

  abbrev tokens : List Token
  tokens = n.tokens.now

  abbrev nodes : List TreeNode
  nodes = n.tree.now.nodes

  abbrev bindings : Bindings
  bindings = n.bindings

  abbrev news : List Bool
  news = n.news.items

  pub meant_some : (token : ℕ) (name : List ℕ) (result : Option Binding) → IsBest bytes tokens bindings.brought.items news token name (length bindings.brought.items) result → IfSome result (MeansLocal (file_of bytes tokens nodes) token name)
  meant_some token name result h =
      if_some result (MeansLocal (file_of bytes tokens nodes) token name)
      (best_meant bytes tokens nodes bindings.brought.items names.brings.brought news names.are_new token name (length bindings.brought.items) result (omega arith) h)

  is_none : {A : Type 0} (r : Option A) → IsNone r → r ≡ None
  is_none None h = refl
  is_none (Some x) h = absurd (cc)

  pub meant_none : (token : ℕ) (name : List ℕ) (result : Option Binding) → IsBest bytes tokens bindings.brought.items news token name (length bindings.brought.items) result → IsNone result → MeansNoLocal (file_of bytes tokens nodes) token name
  meant_none token name result h none =
      none_meant bytes tokens nodes bindings.brought.items names.brings.brought news names.are_new token name (length bindings.brought.items) result (omega arith) h (is_none result none)

  pub again_some : (brought : List Binding) (result : Option ℕ) → brought ≡ bindings.brought.items → IsFirstAgain bytes tokens brought (length brought) result → IfSome result (IsFirstPlace (file_of bytes tokens nodes))
  again_some brought result e h =
      if_some result (IsFirstPlace (file_of bytes tokens nodes))
      (first_place bytes tokens nodes bindings.brought.items names.brings.brought (length bindings.brought.items) result (omega arith) (subst (λ x. IsFirstAgain bytes tokens x (length x) result) e h))

  pub again_none : (brought : List Binding) (result : Option ℕ) → brought ≡ bindings.brought.items → IsFirstAgain bytes tokens brought (length brought) result → IsNone result → HasNoPlace (file_of bytes tokens nodes)
  again_none brought result e h none =
      no_place bytes tokens nodes bindings.brought.items names.brings.brought (length bindings.brought.items) result (omega arith) (subst (λ x. IsFirstAgain bytes tokens x (length x) result) e h) (is_none result none)

  pub first_some : (brought : List Binding) (token opens : ℕ) (result : Option Binding) → brought ≡ bindings.brought.items → IsEarliest bytes tokens brought token opens (length brought) result → IfSome result (λ (b : Binding). IsFirstOf (file_of bytes tokens nodes) token opens b.node)
  first_some brought token opens result e h =
      if_some result (λ (b : Binding). IsFirstOf (file_of bytes tokens nodes) token opens b.node)
      (earliest_first bytes tokens nodes bindings.brought.items names.brings.brought token opens (length bindings.brought.items) result (omega arith) (subst (λ x. IsEarliest bytes tokens x token opens (length x) result) e h))

  pub first_none : (brought : List Binding) (token opens : ℕ) (result : Option Binding) → brought ≡ bindings.brought.items → IsEarliest bytes tokens brought token opens (length brought) result → IsNone result → HasEarlier (file_of bytes tokens nodes) token opens → ⊥
  first_none brought token opens result e h none =
      earliest_none bytes tokens nodes bindings.brought.items names.brings.brought token opens (length bindings.brought.items) result (omega arith) (subst (λ x. IsEarliest bytes tokens x token opens (length x) result) e h) (is_none result none)
