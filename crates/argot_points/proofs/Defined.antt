-- The definitions that a place reads from are those that reach it, and their leaves are those of the register.
use Rattle.std.proofs.Common.{◌≡◌, ℕ, zero, suc, ◌<◌, true, List, [], ◌∷◌, ◌++◌, Some, None, Option, refl, sym, ap, ◌∙◌, inl, inr, arith, subst, eqb-true, eq-eqb}
use Rattle.std.specs.Prelude.{slice_get, length, ◌==◌, ◌&&◌, nat_lt, if◌then◌else◌}
use Rattle.std.proofs.lemmas.Bool.{cases_Bool, and_parts, and_from, false_from_ne_true}
use Rattle.std.proofs.lemmas.Bool.Decides.{nat_tests}
use Rattle.std.proofs.lemmas.Option.{slice_get_within}
use Rattle.argot_plain.specs.Lists.{In, here, there}
use Rattle.argot_plain.specs.Code.{Code, IsAt, IsFunction, IsIn, IsEntry, Defines, by_kind, by_entry, defined, reads, handed_values, node_registers, kind_of, leaves}
use Rattle.argot_plain.specs.Nodes.{HasLeaf, of_kind, of_entry}
use Rattle.argot_plain.specs.WellFormed.{WellFormed}
use Rattle.argot_plain.specs.declared.functions.Function.{Function}
use Rattle.argot_plain.specs.declared.instructions.Instr.{Instr}
use Rattle.argot_plain.specs.declared.instructions.Kind.{Kind}
use Rattle.argot_plain.specs.declared.instructions.Kind.TheVariants.{Op, Move, Join, New, Step, Read, Grow, Global, Assert, Call, Passed}
use Rattle.argot_text.specs.declared.path.PathStep.{PathStep}
use Rattle.argot_facts.specs.Exact.{AreDefs}
use Rattle.argot_facts.specs.Reaching.{Reaches, next, on, DefinedAt}
use Rattle.argot_facts.proofs.Marked.{not_first}
use Rattle.argot_facts.proofs.Placed.{one_function, place_in}
use Rattle.argot_points_rules.specs.Column.{positions, defined_by, definitions_at, definitions}
use Rattle.argot_points.proofs.Each.{In-append, In-left, In-right, In-if, if-In, one-In}
use Rattle.argot_points.proofs.Handed.{position_found, position_listed}

-- a result is a node
pub defined_register : (kind : Kind) (k r : ℕ) → slice_get (defined kind) k ≡ Some r → slice_get (node_registers kind) k ≡ Some r
defined_register (Call to callee args) k r h = before to k (handed_values callee args) h
  where
    before : (xs : List ℕ) (n : ℕ) (ys : List ℕ) → slice_get xs n ≡ Some r → slice_get (xs ++ ys) n ≡ Some r
    before [] n ys h = absurd cc
    before (x ∷ xs) zero ys h = h
    before (x ∷ xs) (suc n) ys h = before xs n ys h
defined_register (Op to from) k r h = h
defined_register (Move to from path) k r h = h
defined_register (Join to parts) k r h = h
defined_register (New to site) k r h = h
defined_register (Step to from path) k r h = h
defined_register (Read to at qs) k r h = h
defined_register (Grow to at items) k r h = h
defined_register (Global to global) k r h = h
defined_register (Assert to from target) k r h = h
defined_register (Passed to callee) k r h = h
defined_register _ k r h = absurd cc

module _ (p : Code) (wf : WellFormed p) where
  -- what reaches a place stands in its function
  reaches_inside : (d r i h : ℕ) → Reaches p d r i → IsIn p d h → IsIn p i h
  reaches_inside d r i h (next s) inside = wf.stays d i h s inside
  reaches_inside d r i h (on {i = j} before none s) inside = wf.stays j i h s (reaches_inside d r j h before inside)

  pub entry_inside : (d g : ℕ) (e : IsEntry p d g) → IsIn p d g
  entry_inside d g e = let r = wf.ranges.inside g e.fn e.is in record { fn = e.fn; is = e.is; low = omega (arith, e.at); high = omega (arith, e.at, r.0, r.1) }

  place_within : (i : ℕ) (kind : Kind) → IsAt p i kind → i < length p.instrs
  place_within i kind at = within (slice_get p.instrs i) refl
    where
      within : (o : Option Instr) → slice_get p.instrs i ≡ o → i < length p.instrs
      within (Some x) h = slice_get_within p.instrs i x h
      within None h = let z : kind_of None ≡ Some kind = sym (ap kind_of h) ∙ at in absurd cc

  defines_inside : (d k r : ℕ) → Defines p d k r → (g : ℕ) × IsIn p d g
  defines_inside d k r (by_kind kind at e) = let w = wf.entry_function in place_in p wf.ranges w.fn w.is d (place_within d kind at)
  defines_inside d k r (by_entry g e l s) = (g, entry_inside d g e)

  pub defined_inside : (d k r i h : ℕ) → DefinedAt p d k r i → IsIn p i h → IsIn p d h
  defined_inside d k r i h def inside =
      let g = defines_inside d k r def.defines in
      subst (IsIn p d) (one_function p wf.ranges i g.0 h (reaches_inside d r i g.0 def.reaches g.1) inside) g.1

  -- a definition has the leaves of the register
  pub defined_leaf : (d k r i h a : ℕ) (q : List PathStep) → DefinedAt p d k r i → IsIn p i h → slice_get (leaves p h r) a ≡ Some q → HasLeaf p d k a q
  defined_leaf d k r i h a q def inside leaf = split def.defines
    where
      split : Defines p d k r → HasLeaf p d k a q
      split (by_kind kind at e) = of_kind h r kind (defined_inside d k r i h def inside) at (defined_register kind k r e) leaf
      split (by_entry g e l s) =
          let own = defines_inside d k r (by_entry g e l s) in
          let same : g ≡ h = one_function p wf.ranges d g h (entry_inside d g e) (defined_inside d k r i h def inside) in
          of_entry g e l (ap (λ x. slice_get (leaves p x k) a) same ∙ ap (λ x. slice_get (leaves p h x) a) (sym s) ∙ leaf)

  module _ (ds : List (ℕ × ℕ × ℕ)) (exact : AreDefs p ds) (h : ℕ) (fn : Function) (is : IsFunction p h fn) where
    positions_of : Option Kind → ℕ → ℕ → List (ℕ × ℕ)
    positions_of o d r = positions d r 0 (defined_by o)

    at_place : (d r : ℕ) (x : ℕ × ℕ) → In x (definitions_at p fn r d) → (x.0 ≡ d) × Defines p d x.1 r
    at_place d r x m = elim (cases_Bool (d == fn.entry)) [
      | inl t ↦
          let l = In-if x ((d, r) ∷ []) (nat_lt r fn.params) (subst (λ b. In x (if b then (if nat_lt r fn.params then (d, r) ∷ [] else []) else positions d r 0 (defined_by (kind_of (slice_get p.instrs d))))) t m) in
          let e = one-In x (d, r) l.1 in
          (ap (λ (w : ℕ × ℕ). w.0) e, by_entry h (record { fn = fn; is = is; at = eqb-true d fn.entry t }) (subst (λ w. w < fn.params) (sym (ap (λ (w : ℕ × ℕ). w.1) e)) (grind (arith, nat_tests, l.0))) (sym (ap (λ (w : ℕ × ℕ). w.1) e)))
      | inr f ↦ inner (kind_of (slice_get p.instrs d)) refl (subst (λ b. In x (if b then (if nat_lt r fn.params then (d, r) ∷ [] else []) else positions d r 0 (defined_by (kind_of (slice_get p.instrs d))))) f m)
    ]
      where
        inner : (o : Option Kind) → kind_of (slice_get p.instrs d) ≡ o → In x (positions d r 0 (defined_by (kind_of (slice_get p.instrs d)))) → (x.0 ≡ d) × Defines p d x.1 r
        inner (Some kind) e m =
            let f = position_found d r 0 (defined kind) x (subst (λ o. In x (positions d r 0 (defined_by o))) e m) in
            let z : x.1 ≡ f.0 = ap (λ (w : ℕ × ℕ). w.1) f.1 ∙ omega arith in
            (ap (λ (w : ℕ × ℕ). w.0) f.1, by_kind kind e (ap (slice_get (defined kind)) z ∙ f.2))
        inner None e m = elim (subst (λ o. In x (positions d r 0 (defined_by o))) e m) [ ]

    pub definition_found : (i r : ℕ) (x : ℕ × ℕ) → In x (definitions p fn i r ds) → DefinedAt p x.0 x.1 r i
    definition_found i r x m = among ds (λ d m. m) m
      where
        among : (es : List (ℕ × ℕ × ℕ)) → ((d : ℕ × ℕ × ℕ) → In d es → In d ds) → In x (definitions p fn i r es) → DefinedAt p x.0 x.1 r i
        among [] all m = elim m [ ]
        among (e ∷ es) all m = elim (In-append x (if e.1 == i && e.2 == r then definitions_at p fn r e.0 else []) (definitions p fn i r es) m) [
          | inl l ↦
              let t = In-if x (definitions_at p fn r e.0) (e.1 == i && e.2 == r) l in
              let b = and_parts (e.1 == i) (e.2 == r) t.0 in
              let a = at_place e.0 r x t.1 in
              let def = (exact.each e.0 e.1 e.2).0 (all e (here refl)) in
              let reach : Reaches p e.0 r i = subst (λ w. Reaches p e.0 w i) (eqb-true e.2 r b.1) (subst (Reaches p e.0 e.2) (eqb-true e.1 i b.0) def.defined.reaches) in
              record { defines = subst (λ w. Defines p w x.1 r) (sym a.0) a.1; reaches = subst (λ w. Reaches p w r i) (sym a.0) reach }
          | inr l ↦ among es (λ d m. all d (there m)) l
        ]

    pub definition_listed : (i d k r : ℕ) (kind : Kind) → IsIn p i h → IsAt p i kind → In r (reads kind) → DefinedAt p d k r i → In {A = ℕ × ℕ} (d, k) (definitions p fn i r ds)
    definition_listed i d k r kind inside at read def = among ds ((exact.each d i r).1 (record { kind = kind; is = at; read = read; index = k; defined = def }))
      where
        here_at : Defines p d k r → In {A = ℕ × ℕ} (d, k) (definitions_at p fn r d)
        here_at (by_kind other a e) =
            let no = not_first p wf d h k r fn other is a (defined_register other k r e) in
            let f = false_from_ne_true (d == fn.entry) (λ t. no (eqb-true d fn.entry t)) in
            subst (λ b. In {A = ℕ × ℕ} (d, k) (if b then (if nat_lt r fn.params then (d, r) ∷ [] else []) else positions d r 0 (defined_by (kind_of (slice_get p.instrs d))))) (sym f)
            (subst (λ o. In {A = ℕ × ℕ} (d, k) (positions d r 0 (defined_by o))) (sym a) (position_listed d r 0 (defined other) k k (omega arith) e))
        here_at (by_entry g e l s) =
            let same : g ≡ h = one_function p wf.ranges d g h (entry_inside d g e) (defined_inside d k r i h def inside) in
            let sf : Some e.fn ≡ Some fn = sym e.is ∙ ap (slice_get p.functions) same ∙ is in
            let f : e.fn ≡ fn = cc in
            let t = eq-eqb d fn.entry (e.at ∙ ap (λ (x : Function). x.entry) f) in
            let u : nat_lt r fn.params ≡ true = grind (arith, nat_tests, l, s, ap (λ (x : Function). x.params) f) in
            subst (λ b. In {A = ℕ × ℕ} (d, k) (if b then (if nat_lt r fn.params then (d, r) ∷ [] else []) else positions d r 0 (defined_by (kind_of (slice_get p.instrs d))))) (sym t)
            (if-In {A = ℕ × ℕ} (d, k) ((d, r) ∷ []) (nat_lt r fn.params) u (here (ap (λ (w : ℕ). (d, w)) (sym s))))

        among : (es : List (ℕ × ℕ × ℕ)) → In (d, i, r) es → In {A = ℕ × ℕ} (d, k) (definitions p fn i r es)
        among [] m = elim m [ ]
        among (e ∷ es) (here s) =
            let a : d ≡ e.0 = ap (λ (w : ℕ × ℕ × ℕ). w.0) s in
            let b : e.1 ≡ i = ap (λ (w : ℕ × ℕ × ℕ). w.1) (sym s) in
            let c : e.2 ≡ r = ap (λ (w : ℕ × ℕ × ℕ). w.2) (sym s) in
            In-left {A = ℕ × ℕ} (d, k) (if e.1 == i && e.2 == r then definitions_at p fn r e.0 else []) (definitions p fn i r es)
            (if-In {A = ℕ × ℕ} (d, k) (definitions_at p fn r e.0) (e.1 == i && e.2 == r) (and_from (e.1 == i) (e.2 == r) (eq-eqb e.1 i b) (eq-eqb e.2 r c)) (subst (λ w. In {A = ℕ × ℕ} (d, k) (definitions_at p fn r w)) a (here_at def.defines)))
        among (e ∷ es) (there m) = In-right {A = ℕ × ℕ} (d, k) (if e.1 == i && e.2 == r then definitions_at p fn r e.0 else []) (definitions p fn i r es) (among es m)
