-- Lists in order: of two items the earlier one stands before the other.
use Rattle.std.proofs.Common.{◌≡◌, ℕ, zero, suc, ◌+◌, ◌-◌, ◌<◌, List, Some, ◌∙◌, subst, arith}
use Rattle.std.specs.Prelude.{slice_get}
use Rattle.argot_names_rules.specs.Lists.{IsOrdered}
use Rattle.argot_names_imports.specs.declared.written.Written.{Written}
use Rattle.argot_names_imports.specs.AllWritten.{InOrder, by_file, by_node}
use Rattle.argot_names_imports.proofs.Lists.{get_below, get_there}

module _ {A : Type 0} (Before : A → A → Type 0) (through : (a b c : A) → Before a b → Before b c → Before a c) where
  by_steps : (xs : List A) → IsOrdered Before xs → (d j : ℕ) (a b : A) → slice_get xs j ≡ Some a → slice_get xs (j + 1 + d) ≡ Some b → Before a b
  by_steps xs o zero j a b e f = let at : j + 1 + 0 ≡ j + 1 = omega arith in o j a b e (subst (λ k. slice_get xs k ≡ Some b) at f)
  by_steps xs o (suc d) j a b e f =
      let m = get_there xs (j + 1 + d) (omega (arith, get_below xs (j + 1 + suc d) b f)) in
      let at : j + 1 + suc d ≡ (j + 1 + d) + 1 = omega arith in
      through a m.0 b (by_steps xs o d j a m.0 e m.1) (o (j + 1 + d) m.0 b m.1 (subst (λ k. slice_get xs k ≡ Some b) at f))

  pub ordered_all : (xs : List A) → IsOrdered Before xs → (j k : ℕ) (a b : A) → j < k → slice_get xs j ≡ Some a → slice_get xs k ≡ Some b → Before a b
  ordered_all xs o j k a b low e f =
      let at : k ≡ j + 1 + (k - (j + 1)) = omega (arith, low) in
      by_steps xs o (k - (j + 1)) j a b e (subst (λ x. slice_get xs x ≡ Some b) at f)

written_through : (a b c : Written) → InOrder a b → InOrder b c → InOrder a c
written_through a b c (by_file p) (by_file q) = by_file (omega (arith, p, q))
written_through a b c (by_file p) (by_node e q) = by_file (omega (arith, p, e))
written_through a b c (by_node e p) (by_file q) = by_file (omega (arith, e, q))
written_through a b c (by_node e p) (by_node f q) = by_node (e ∙ f) (omega (arith, p, q))

-- of two imports of one file the earlier one has the smaller node
pub imports_ascend : (ws : List Written) → IsOrdered InOrder ws → (j k : ℕ) (a b : Written) → j < k → slice_get ws j ≡ Some a → slice_get ws k ≡ Some b → a.file ≡ b.file → a.node < b.node
imports_ascend ws o j k a b low e f same = go (ordered_all InOrder written_through ws o j k a b low e f)
  where
    go : InOrder a b → a.node < b.node
    go (by_file l) = absurd (omega (arith, l, same))
    go (by_node e l) = l
