-- The value by which a callee is found, and what selects a function there.
use Rattle.std.proofs.Common.{◌≡◌, ℕ, ◌+◌, Bool, true, false, List, [], ◌∷◌, ◌++◌, Some, None, Option, refl, sym, ap, ◌∙◌, arith, subst, eq-eqb, eqb-true}
use Rattle.std.specs.Prelude.{slice_get, length}
use Rattle.argot_plain.specs.Lists.{In, here}
use Rattle.argot_plain.specs.Code.{Code, IsAt, IsIn, Hands, by_call, by_go, by_defer, found_by, handed_values, leaves, Selects}
use Rattle.argot_plain.specs.Code as Choosing
use Rattle.argot_plain.specs.WellFormed.{WellFormed, reference_registers}
use Rattle.argot_plain.specs.declared.instructions.Callee.{Callee}
use Rattle.argot_plain.specs.declared.instructions.Callee.TheVariants.{Static, Value, Method}
use Rattle.argot_plain.specs.declared.instructions.Kind.{Kind}
use Rattle.argot_facts.specs.Numbers.{node}
use Rattle.argot_points_rules.specs.Column.{is_value, reference}
use Rattle.argot_points.specs.declared.system.System.{System}
use Rattle.argot_points.specs.Meaning.{MeansAt, by_value, by_method}

pub value_is : (v : Option ℕ) (k : ℕ) → is_value v k ≡ true → v ≡ Some k
value_is None k e = cc
value_is (Some c) k e = ap Some (eqb-true c k e)

pub value_not : (v : Option ℕ) (k : ℕ) → is_value v k ≡ false → v ≡ Some k → ⊥
value_not v k e f = let g : is_value v k ≡ true = ap (λ w. is_value w k) f ∙ eq-eqb k k refl in cc

last_value : (xs : List ℕ) (r : ℕ) → slice_get (xs ++ r ∷ []) (length xs) ≡ Some r
last_value [] r = refl
last_value (x ∷ xs) r = last_value xs r

-- where the value stands
pub reference_found : (i : ℕ) (callee : Callee) (args : List ℕ) (n k : ℕ) → found_by callee args ≡ Some k → reference i callee args n ≡ node i (n + k) 0
reference_found i (Static g) args n k e = absurd cc
reference_found i (Value r) args n k e = let z : length args ≡ k = cc in ap (λ w. node i (n + w) 0) z
reference_found i (Method r name) args n k e = let z : 0 ≡ k = cc in let y : n ≡ n + k = omega (arith, z) in ap (λ w. node i w 0) y

-- its register has one leaf, the empty path
value_in : (kind : Kind) (r n : ℕ) (args : List ℕ) → Hands kind (Value r) args n → In r (reference_registers kind)
value_in _ r _ args by_call = here refl
value_in _ r _ args by_go = here refl
value_in _ r _ args by_defer = here refl

method_in : (kind : Kind) (r n : ℕ) (name : List ℕ) (args : List ℕ) → Hands kind (Method r name) args n → In r (reference_registers kind)
method_in _ r _ name args by_call = here refl
method_in _ r _ name args by_go = here refl
method_in _ r _ name args by_defer = here refl

pub found_leaves : (p : Code) → WellFormed p → (h i n k r : ℕ) (kind : Kind) (callee : Callee) (args : List ℕ) → IsIn p i h → IsAt p i kind → Hands kind callee args n
    → found_by callee args ≡ Some k → slice_get (handed_values callee args) k ≡ Some r → leaves p h r ≡ [] ∷ []
found_leaves p wf h i n k r kind (Static g) args inside at hands e s = absurd cc
found_leaves p wf h i n k r kind (Value r') args inside at hands e s =
    let z : length args ≡ k = cc in
    let y : Some r' ≡ Some r = sym (last_value args r') ∙ ap (slice_get (args ++ r' ∷ [])) z ∙ s in
    let x : r' ≡ r = cc in
    subst (λ w. leaves p h w ≡ [] ∷ []) x (wf.references.each i h r' kind inside at (value_in kind r' n args hands))
found_leaves p wf h i n k r kind (Method r' name) args inside at hands e s =
    let z : 0 ≡ k = cc in
    let y : Some r' ≡ Some r = ap (slice_get (r' ∷ args)) z ∙ s in
    let x : r' ≡ r = cc in
    subst (λ w. leaves p h w ≡ [] ∷ []) x (wf.references.each i h r' kind inside at (method_in kind r' n name args hands))

-- what a callee means at an object, that selects
pub means_selects : (s : System) (site : ℕ) (callee : Callee) (g : ℕ) (takes : Bool) → MeansAt s site callee g takes → Selects s.program.now site g callee
means_selects s site _ g takes (by_value r v) = Choosing.by_value v.here v.at v.named
means_selects s site _ g takes (by_method r name d) = Choosing.by_method d.here d.at d.listed

-- and where one object means a function, another that selects it does too
pub selects_means : (s : System) (site other : ℕ) (callee : Callee) (g : ℕ) (takes : Bool) → Selects s.program.now site g callee → MeansAt s other callee g takes → MeansAt s site callee g takes
selects_means s site other _ g takes (Choosing.by_value place at named) (by_value r v) = by_value r (record { here = place; at = at; named = named; fn = v.fn; is = v.is; env = v.env })
selects_means s site other _ g takes (Choosing.by_method place at listed) (by_method r name d) = by_method r name (record { here = place; at = at; listed = listed })
