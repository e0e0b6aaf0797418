-- Which leaf a node's leaf is, and that what a definition holds at a node is held by the register.
use Rattle.std.proofs.Common.{◌≡◌, ℕ, zero, suc, ◌<◌, List, [], ◌∷◌, ◌++◌, Some, None, Option, refl, sym, ap, ◌∙◌, arith, subst}
use Rattle.std.specs.Prelude.{slice_get, length}
use Rattle.std.proofs.lemmas.Option.{slice_get_within}
use Rattle.argot_plain.specs.Code.{Code, IsAt, IsFunction, IsIn, IsEntry, Defines, by_kind, by_entry, defined, handed_values, node_registers, kind_of, leaves}
use Rattle.argot_plain.specs.Nodes.{HasLeaf, of_kind, of_items, of_elements, of_entry}
use Rattle.argot_plain.specs.WellFormed.{WellFormed}
use Rattle.argot_plain.specs.declared.functions.Function.{Function}
use Rattle.argot_plain.specs.declared.instructions.Instr.{Instr}
use Rattle.argot_plain.specs.declared.instructions.Kind.{Kind}
use Rattle.argot_plain.specs.declared.instructions.Kind.TheVariants.{Op, Move, Join, New, Step, Read, Grow, Global, Assert, Call, Passed}
use Rattle.argot_text.specs.declared.path.PathStep.{PathStep}
use Rattle.argot_facts.specs.Numbers.{leaves_of}
use Rattle.argot_facts.specs.Reaching.{Reaches, next, on, DefinedAt}
use Rattle.argot_facts.proofs.Calls.{same_kind}
use Rattle.argot_facts.proofs.Marked.{not_first, register_leaves}
use Rattle.argot_facts.proofs.Placed.{one_function, place_in}

-- a result is a node
pub defined_register : (kind : Kind) (k r : ℕ) → slice_get (defined kind) k ≡ Some r → slice_get (node_registers kind) k ≡ Some r
defined_register (Call to callee args) k r h = before to k (handed_values callee args) h
  where
    before : (xs : List ℕ) (n : ℕ) (ys : List ℕ) → slice_get xs n ≡ Some r → slice_get (xs ++ ys) n ≡ Some r
    before [] n ys h = absurd cc
    before (x ∷ xs) zero ys h = h
    before (x ∷ xs) (suc n) ys h = before xs n ys h
defined_register (Op to from) k r h = h
defined_register (Move to from path) k r h = h
defined_register (Join to parts) k r h = h
defined_register (New to site) k r h = h
defined_register (Step to from path) k r h = h
defined_register (Read to at qs) k r h = h
defined_register (Grow to at items) k r h = h
defined_register (Global to global) k r h = h
defined_register (Assert to from target) k r h = h
defined_register (Passed to callee) k r h = h
defined_register _ k r h = absurd cc

module _ (p : Code) (wf : WellFormed p) where
  -- what reaches a place stands in its function
  reaches_inside : (d r i h : ℕ) → Reaches p d r i → IsIn p d h → IsIn p i h
  reaches_inside d r i h (next s) inside = wf.stays d i h s inside
  reaches_inside d r i h (on {i = j} before none s) inside = wf.stays j i h s (reaches_inside d r j h before inside)

  pub entry_inside : (d g : ℕ) (e : IsEntry p d g) → IsIn p d g
  entry_inside d g e = let r = wf.ranges.inside g e.fn e.is in record { fn = e.fn; is = e.is; low = omega (arith, e.at); high = omega (arith, e.at, r.0, r.1) }

  place_within : (i : ℕ) (kind : Kind) → IsAt p i kind → i < length p.instrs
  place_within i kind at = within (slice_get p.instrs i) refl
    where
      within : (o : Option Instr) → slice_get p.instrs i ≡ o → i < length p.instrs
      within (Some x) h = slice_get_within p.instrs i x h
      within None h = let z : kind_of None ≡ Some kind = sym (ap kind_of h) ∙ at in absurd cc

  defines_inside : (d k r : ℕ) → Defines p d k r → (g : ℕ) × IsIn p d g
  defines_inside d k r (by_kind kind at e) = let w = wf.entry_function in place_in p wf.ranges w.fn w.is d (place_within d kind at)
  defines_inside d k r (by_entry g e l s) = (g, entry_inside d g e)

  pub defined_inside : (d k r i h : ℕ) → DefinedAt p d k r i → IsIn p i h → IsIn p d h
  defined_inside d k r i h def inside =
      let g = defines_inside d k r def.defines in
      subst (IsIn p d) (one_function p wf.ranges i g.0 h (reaches_inside d r i g.0 def.reaches g.1) inside) g.1

module _ (p : Code) (wf : WellFormed p) (h : ℕ) (fn : Function) (is : IsFunction p h fn) where
  pub leaf_there : (g r a : ℕ) (q : List PathStep) → g ≡ h → slice_get (leaves p g r) a ≡ Some q → slice_get (leaves_of fn r) a ≡ Some q
  leaf_there g r a q e leaf = ap (λ x. slice_get x a) (sym (register_leaves p h fn r is)) ∙ ap (λ c. slice_get (leaves p c r) a) (sym e) ∙ leaf

  pub never_entry : (i g k r : ℕ) (kind : Kind) → IsAt p i kind → slice_get (node_registers kind) k ≡ Some r → IsEntry p i g → ⊥
  never_entry i g k r kind at reg e = not_first p wf i g k r e.fn kind e.is at reg e.at

  -- of a register at its index
  pub node_leaf : (i k a r : ℕ) (q : List PathStep) (kind : Kind) → IsIn p i h → IsAt p i kind → slice_get (node_registers kind) k ≡ Some r → HasLeaf p i k a q → slice_get (leaves_of fn r) a ≡ Some q
  node_leaf i k a r q kind inside at reg (of_kind g r' kind' inside' at' reg' leaf) =
      let e = same_kind p i kind kind' at at' in
      let f : Some r' ≡ Some r = sym reg' ∙ ap (λ c. slice_get (node_registers c) k) (sym e) ∙ reg in
      let s : r' ≡ r = cc in
      leaf_there g r a q (one_function p wf.ranges i g h inside' inside) (ap (λ c. slice_get (leaves p g c) a) (sym s) ∙ leaf)
  node_leaf i k a r q kind inside at reg (of_items n to ref items site at' own one leaf) =
      let e = same_kind p i kind (Grow to ref items) at at' in
      let f : slice_get (node_registers (Grow to ref items)) 1 ≡ Some r = ap (slice_get (node_registers (Grow to ref items))) (sym one) ∙ ap (λ c. slice_get (node_registers c) k) (sym e) ∙ reg in
      absurd cc
  node_leaf i k a r q kind inside at reg (of_elements n to ref items site at' own two leaf) =
      let e = same_kind p i kind (Grow to ref items) at at' in
      let f : slice_get (node_registers (Grow to ref items)) 2 ≡ Some r = ap (slice_get (node_registers (Grow to ref items))) (sym two) ∙ ap (λ c. slice_get (node_registers c) k) (sym e) ∙ reg in
      absurd cc
  node_leaf i k a r q kind inside at reg (of_entry g e within leaf) = absurd (never_entry i g k r kind at reg e)

  -- of a definition
  pub definition_leaf : (d j r i a : ℕ) (q : List PathStep) → DefinedAt p d j r i → IsIn p i h → HasLeaf p d j a q → slice_get (leaves_of fn r) a ≡ Some q
  definition_leaf d j r i a q def inside has = split def.defines has
    where
      at_entry : (g : ℕ) (e : IsEntry p d g) → r ≡ j → HasLeaf p d j a q → slice_get (leaves_of fn r) a ≡ Some q
      at_entry g e s (of_kind g' r' kind' inside' at' reg' leaf) = absurd (never_entry d g j r' kind' at' reg' e)
      at_entry g e s (of_items n to ref items site at' own one leaf) = absurd (never_entry d g 0 to (Grow to ref items) at' refl e)
      at_entry g e s (of_elements n to ref items site at' own two leaf) = absurd (never_entry d g 0 to (Grow to ref items) at' refl e)
      at_entry g e s (of_entry g' e' within leaf) =
          leaf_there g' r a q (one_function p wf.ranges d g' h (entry_inside p wf d g' e') (defined_inside p wf d j r i h def inside)) (ap (λ c. slice_get (leaves p g' c) a) s ∙ leaf)

      split : Defines p d j r → HasLeaf p d j a q → slice_get (leaves_of fn r) a ≡ Some q
      split (by_kind kind at e) has = node_leaf d j a r q kind (defined_inside p wf d j r i h def inside) at (defined_register kind j r e) has
      split (by_entry g e l s) has = at_entry g e s has
