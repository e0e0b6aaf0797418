-- Look-ups of what a location chooses.
use Rattle.std.proofs.Common.{◌≡◌, ℕ, [], Some, None, Option, ap, sym, ◌∙◌, subst}
use Rattle.std.specs.Prelude.{slice_get, IfSome, IsNone}
use Rattle.argot_plain.specs.Code.{Code, IsFunction}
use Rattle.argot_plain.specs.WellFormed.{WellFormed}
use Rattle.argot_plain.specs.declared.functions.Function.{Function}
use Rattle.argot_facts.specs.Numbers.{node, leaves_of}
use Rattle.argot_facts.proofs.Marked.{register_leaves}
use Rattle.argot_points.specs.declared.system.System.{System}
use Rattle.argot_points.specs.Meaning.{IsRow, IsLeafRow, IsParamOf}

-- where one thing alone has P, and what has Q has P
pub only_on : (r : Option ℕ) (P Q : ℕ → Type 0) → ((n : ℕ) → Q n → P n) → IfSome r (λ m. (n : ℕ) → P n → n ≡ m) → IfSome r (λ m. (n : ℕ) → Q n → n ≡ m)
only_on (Some m) P Q f h = λ n q. h n (f n q)
only_on None P Q f h = tt

pub none_on : (r : Option ℕ) (P Q : ℕ → Type 0) → ((n : ℕ) → Q n → P n) → (IsNone r → (n : ℕ) → P n → ⊥) → IsNone r → (n : ℕ) → Q n → ⊥
none_on r P Q f h = λ e n q. h e n (f n q)

same_function : (p : Code) (g : ℕ) (a b : Function) → IsFunction p g a → IsFunction p g b → a ≡ b
same_function p g a b h k = let e = sym h ∙ k in cc

-- a parameter has the empty path at one leaf
pub param_row_is : (s : System) → WellFormed s.program.now → (g j a n : ℕ) (fn : Function) → IsFunction s.program.now g fn → slice_get (leaves_of fn j) a ≡ Some [] → IsParamOf s g j [] n → IsRow s n (node fn.entry j a)
param_row_is s wf g j a n fn is at q =
    let w = subst (λ (f : Function). IsLeafRow s f.entry j (leaves_of f j) [] n) (same_function s.program.now g q.fn fn q.is is) q.row in
    let same = register_leaves s.program.now g fn j is in
    let d = wf.registers.distinct g j w.leaf a [] (ap (λ x. slice_get x w.leaf) same ∙ w.at) (ap (λ x. slice_get x a) same ∙ at) in
    subst (λ b. IsRow s n (node fn.entry j b)) d w.row
