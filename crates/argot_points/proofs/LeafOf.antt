-- Which leaf a node's leaf is.
use Rattle.std.proofs.Common.{◌≡◌, ℕ, suc, List, Some, refl, sym, ap, ◌∙◌}
use Rattle.std.specs.Prelude.{slice_get}
use Rattle.argot_plain.specs.Code.{Code, IsAt, IsFunction, IsIn, IsEntry, IsSiteOf, Defines, by_kind, by_entry, node_registers, leaves, element_leaves}
use Rattle.argot_plain.specs.Nodes.{HasLeaf, of_kind, of_items, of_elements, of_entry}
use Rattle.argot_plain.specs.WellFormed.{WellFormed}
use Rattle.argot_plain.specs.declared.functions.Function.{Function}
use Rattle.argot_plain.specs.declared.instructions.Kind.{Kind}
use Rattle.argot_plain.specs.declared.instructions.Kind.TheVariants.{Grow}
use Rattle.argot_plain.specs.declared.sites.Site.{Site}
use Rattle.argot_text.specs.declared.path.PathStep.{PathStep}
use Rattle.argot_facts.specs.Numbers.{leaves_of}
use Rattle.argot_facts.specs.Reaching.{DefinedAt}
use Rattle.argot_facts.proofs.Marked.{not_first, register_leaves}
use Rattle.argot_facts.proofs.Placed.{one_function}
use Rattle.argot_points.proofs.CallsTold.{same_kind}
use Rattle.argot_points.proofs.Defined.{defined_register, defined_inside, entry_inside}

module _ (p : Code) (wf : WellFormed p) (h : ℕ) (fn : Function) (is : IsFunction p h fn) where
  pub leaf_there : (g r a : ℕ) (q : List PathStep) → g ≡ h → slice_get (leaves p g r) a ≡ Some q → slice_get (leaves_of fn r) a ≡ Some q
  leaf_there g r a q e leaf = ap (λ x. slice_get x a) (sym (register_leaves p h fn r is)) ∙ ap (λ c. slice_get (leaves p c r) a) (sym e) ∙ leaf

  pub never_entry : (i g k r : ℕ) (kind : Kind) → IsAt p i kind → slice_get (node_registers kind) k ≡ Some r → IsEntry p i g → ⊥
  never_entry i g k r kind at reg e = not_first p wf i g k r e.fn kind e.is at reg e.at

  -- of a register at its index
  pub node_leaf : (i k a r : ℕ) (q : List PathStep) (kind : Kind) → IsIn p i h → IsAt p i kind → slice_get (node_registers kind) k ≡ Some r → HasLeaf p i k a q → slice_get (leaves_of fn r) a ≡ Some q
  node_leaf i k a r q kind inside at reg (of_kind g r' kind' inside' at' reg' leaf) =
      let e = same_kind p i kind kind' at at' in
      let f : Some r' ≡ Some r = sym reg' ∙ ap (λ c. slice_get (node_registers c) k) (sym e) ∙ reg in
      let s : r' ≡ r = cc in
      leaf_there g r a q (one_function p wf.ranges i g h inside' inside) (ap (λ c. slice_get (leaves p g c) a) (sym s) ∙ leaf)
  node_leaf i k a r q kind inside at reg (of_items n to ref items site at' own one leaf) =
      let e = same_kind p i kind (Grow to ref items) at at' in
      let f : slice_get (node_registers (Grow to ref items)) 1 ≡ Some r = ap (slice_get (node_registers (Grow to ref items))) (sym one) ∙ ap (λ c. slice_get (node_registers c) k) (sym e) ∙ reg in
      absurd cc
  node_leaf i k a r q kind inside at reg (of_elements n to ref items site at' own two leaf) =
      let e = same_kind p i kind (Grow to ref items) at at' in
      let f : slice_get (node_registers (Grow to ref items)) 2 ≡ Some r = ap (slice_get (node_registers (Grow to ref items))) (sym two) ∙ ap (λ c. slice_get (node_registers c) k) (sym e) ∙ reg in
      absurd cc
  node_leaf i k a r q kind inside at reg (of_entry g e within leaf) = absurd (never_entry i g k r kind at reg e)

  -- of a definition
  pub definition_leaf : (d j r i a : ℕ) (q : List PathStep) → DefinedAt p d j r i → IsIn p i h → HasLeaf p d j a q → slice_get (leaves_of fn r) a ≡ Some q
  definition_leaf d j r i a q def inside has = split def.defines has
    where
      at_entry : (g : ℕ) (e : IsEntry p d g) → r ≡ j → HasLeaf p d j a q → slice_get (leaves_of fn r) a ≡ Some q
      at_entry g e s (of_kind g' r' kind' inside' at' reg' leaf) = absurd (never_entry d g j r' kind' at' reg' e)
      at_entry g e s (of_items n to ref items site at' own one leaf) = absurd (never_entry d g 0 to (Grow to ref items) at' refl e)
      at_entry g e s (of_elements n to ref items site at' own two leaf) = absurd (never_entry d g 0 to (Grow to ref items) at' refl e)
      at_entry g e s (of_entry g' e' within leaf) =
          leaf_there g' r a q (one_function p wf.ranges d g' h (entry_inside p wf d g' e') (defined_inside p wf d j r i h def inside)) (ap (λ c. slice_get (leaves p g' c) a) s ∙ leaf)

      split : Defines p d j r → HasLeaf p d j a q → slice_get (leaves_of fn r) a ≡ Some q
      split (by_kind kind at e) has = node_leaf d j a r q kind (defined_inside p wf d j r i h def inside) at (defined_register kind j r e) has
      split (by_entry g e l s) has = at_entry g e s has

  -- of what a Grow puts or copies
  module _ (i n to ref : ℕ) (items : List ℕ) (site : Site) (inside : IsIn p i h) (at : IsAt p i (Grow to ref items)) (own : IsSiteOf p i n site) where
    same_site : (m : ℕ) (other : Site) → IsSiteOf p i m other → other ≡ site
    same_site m other o =
        let one = (wf.grow_site i to ref items at).one in
        let e : m ≡ n = one.alone m other o ∙ sym (one.alone n site own) in
        let f : Some other ≡ Some site = sym o.is ∙ ap (slice_get p.sites) e ∙ own.is in
        cc

    other_index : (k r : ℕ) (kind : Kind) → IsAt p i kind → slice_get (node_registers kind) (suc k) ≡ Some r → ⊥
    other_index k r kind at' reg =
        let e = same_kind p i kind (Grow to ref items) at' at in
        let f : slice_get (node_registers (Grow to ref items)) (suc k) ≡ Some r = ap (λ c. slice_get (node_registers c) (suc k)) (sym e) ∙ reg in
        cc

    pub grown_leaf : (k a : ℕ) (q : List PathStep) → HasLeaf p i (suc k) a q → slice_get (element_leaves site) a ≡ Some q
    grown_leaf k a q (of_kind g r kind inside' at' reg leaf) = absurd (other_index k r kind at' reg)
    grown_leaf k a q (of_items m to' ref' items' other at' own' one leaf) = ap (λ c. slice_get (element_leaves c) a) (sym (same_site m other own')) ∙ leaf
    grown_leaf k a q (of_elements m to' ref' items' other at' own' two leaf) = ap (λ c. slice_get (element_leaves c) a) (sym (same_site m other own')) ∙ leaf
    grown_leaf k a q (of_entry g e within leaf) = absurd (never_entry i g 0 to (Grow to ref items) at refl e)
