-- The first program is well formed.
use Rattle.std.proofs.Common.{◌≡◌, ◌<◌, ◌≤◌, ℕ, zero, suc, ◌+◌, true, false, List, [], ◌∷◌, ◌++◌, Some, length, refl, sym, ap, ◌∙◌, subst, ◌⊎◌, inl, inr, arith}
use Rattle.std.specs.Prelude.{slice_get, ◌≢◌}
use Rattle.std.specs.List.{filter_map}
use Rattle.argot_plain.specs.Lists.{In, here, there, IsDistinct, below}
use Rattle.argot_plain.specs.Code.{IsAt, IsFunction, IsEntry, IsIn, Next, Successor, successor, leaves, defined, reads}
use Rattle.argot_plain.specs.WellFormed.{WellFormed, FitsStatic, reference_registers, IsReadOrMove}
use Rattle.argot_plain.specs.declared.functions.Function.{Function}
use Rattle.argot_plain.specs.declared.functions.Role.TheVariants.{Own, Bound}
use Rattle.argot_plain.specs.declared.instructions.Callee.{Callee}
use Rattle.argot_plain.specs.declared.instructions.Callee.TheVariants.{Static}
use Rattle.argot_plain.specs.declared.instructions.Instr.{Instr}
use Rattle.argot_plain.specs.declared.instructions.Kind.{Kind}
use Rattle.argot_plain.specs.declared.instructions.Kind.TheVariants.{Op, Move, Join, New, Read, Grow, Global, Call, RunDefers, Leave, Goto, Branch, Passed}
use Rattle.argot_text.specs.declared.path.PathStep.{PathStep}
use Rattle.argot_plain_worked.specs.FirstFlow.{first_flow, look, entry_function, source_function, sink_function, main_function}
use Rattle.argot_plain_worked.proofs.Places.{at_place, functions_are, only_one, leaves_are}
use Rattle.argot_plain_worked.proofs.Edges.{callee_of, args_of, hands_are, no_external, no_grow}

in_none : {A : Type 0} (x : A) {B : Type 0} → In x [] → B
in_none x m = elim m [ ]

same_function : (g : ℕ) (a b : Function) → IsFunction first_flow g a → IsFunction first_flow g b → a ≡ b
same_function g a b h k = let e = sym h ∙ k in cc

bounds : (i g : ℕ) (fn : Function) → IsIn first_flow i g → IsFunction first_flow g fn → (fn.entry ≤ i) × (i ≤ fn.leave)
bounds i g fn inside is = subst (λ (f : Function). (f.entry ≤ i) × (i ≤ f.leave)) (same_function g inside.fn fn inside.is is) (inside.low, inside.high)

in_one : (x y : ℕ) → In x (y ∷ []) → x ≡ y
in_one x y (here e) = e
in_one x y (there m) = elim m [ ]

in_two : (x : ℕ) → In x (0 ∷ 1 ∷ []) → x ≤ 1
in_two x (here e) = omega arith
in_two x (there m) = let e = in_one x 1 m in omega arith

in_both : (x : ℕ) → In x (1 ∷ 0 ∷ []) → x ≤ 1
in_both x (here e) = omega arith
in_both x (there m) = let e = in_one x 0 m in omega arith

distinct_none : IsDistinct {A = ℕ} []
distinct_none a b x h k = absurd cc

distinct_one : IsDistinct {A = ℕ} (0 ∷ [])
distinct_one a b x h k = let e = (only_one 0 x a h).0 in let f = (only_one 0 x b k).0 in e ∙ sym f

next_entry : (i : ℕ) (kind : Kind) → IsAt first_flow i kind → (j : ℕ) → Next kind i j → (j ≡ 0 → ⊥) × (j ≡ 5 → ⊥) × (j ≡ 11 → ⊥) × (j ≡ 14 → ⊥)
next_entry = at_place look (λ i kind. (j : ℕ) → Next kind i j → (j ≡ 0 → ⊥) × (j ≡ 5 → ⊥) × (j ≡ 11 → ⊥) × (j ≡ 14 → ⊥)) (λ j e. (let x = e.0 in (λ z. absurd (omega arith), λ z. absurd (omega arith), λ z. absurd (omega arith), λ z. absurd (omega arith))), (λ j e. (let x = (only_one 2 j e.0 e.1).1 in (λ z. absurd (omega arith), λ z. absurd (omega arith), λ z. absurd (omega arith), λ z. absurd (omega arith))), (λ j e. (λ z. absurd (omega arith), λ z. absurd (omega arith), λ z. absurd (omega arith), λ z. absurd (omega arith)), (λ j e. (λ z. absurd (omega arith), λ z. absurd (omega arith), λ z. absurd (omega arith), λ z. absurd (omega arith)), (λ j e. absurd e, (λ j e. (let x = e.0 in (λ z. absurd (omega arith), λ z. absurd (omega arith), λ z. absurd (omega arith), λ z. absurd (omega arith))), (λ j e. (λ z. absurd (omega arith), λ z. absurd (omega arith), λ z. absurd (omega arith), λ z. absurd (omega arith)), (λ j e. (λ z. absurd (omega arith), λ z. absurd (omega arith), λ z. absurd (omega arith), λ z. absurd (omega arith)), (λ j e. (let x = e.0 in (λ z. absurd (omega arith), λ z. absurd (omega arith), λ z. absurd (omega arith), λ z. absurd (omega arith))), (λ j e. (λ z. absurd (omega arith), λ z. absurd (omega arith), λ z. absurd (omega arith), λ z. absurd (omega arith)), (λ j e. absurd e, (λ j e. (let x = e.0 in (λ z. absurd (omega arith), λ z. absurd (omega arith), λ z. absurd (omega arith), λ z. absurd (omega arith))), (λ j e. (λ z. absurd (omega arith), λ z. absurd (omega arith), λ z. absurd (omega arith), λ z. absurd (omega arith)), (λ j e. absurd e, (λ j e. (let x = e.0 in (λ z. absurd (omega arith), λ z. absurd (omega arith), λ z. absurd (omega arith), λ z. absurd (omega arith))), (λ j e. (λ z. absurd (omega arith), λ z. absurd (omega arith), λ z. absurd (omega arith), λ z. absurd (omega arith)), (λ j e. (λ z. absurd (omega arith), λ z. absurd (omega arith), λ z. absurd (omega arith), λ z. absurd (omega arith)), (λ j e. (λ z. absurd (omega arith), λ z. absurd (omega arith), λ z. absurd (omega arith), λ z. absurd (omega arith)), (λ j e. (λ z. absurd (omega arith), λ z. absurd (omega arith), λ z. absurd (omega arith), λ z. absurd (omega arith)), (λ j e. absurd e, tt))))))))))))))))))))

next_inside : (i : ℕ) (kind : Kind) → IsAt first_flow i kind → (j g : ℕ) (fn : Function) → IsFunction first_flow g fn → fn.entry ≤ i → i ≤ fn.leave → Next kind i j → (fn.entry ≤ j) × (j ≤ fn.leave)
next_inside = at_place look (λ i kind. (j g : ℕ) (fn : Function) → IsFunction first_flow g fn → fn.entry ≤ i → i ≤ fn.leave → Next kind i j → (fn.entry ≤ j) × (j ≤ fn.leave)) (λ j g fn is lo hi e. (let x = e.0 in (functions_are look (λ g fn. fn.entry ≤ 0 → 0 ≤ fn.leave → (fn.entry ≤ j) × (j ≤ fn.leave)) (λ a b. (omega arith, omega arith)) (λ a b. absurd (omega arith)) (λ a b. absurd (omega arith)) (λ a b. absurd (omega arith)) g fn is lo hi)), (λ j g fn is lo hi e. (let x = (only_one 2 j e.0 e.1).1 in (functions_are look (λ g fn. fn.entry ≤ 1 → 1 ≤ fn.leave → (fn.entry ≤ j) × (j ≤ fn.leave)) (λ a b. (omega arith, omega arith)) (λ a b. absurd (omega arith)) (λ a b. absurd (omega arith)) (λ a b. absurd (omega arith)) g fn is lo hi)), (λ j g fn is lo hi e. (functions_are look (λ g fn. fn.entry ≤ 2 → 2 ≤ fn.leave → (fn.entry ≤ j) × (j ≤ fn.leave)) (λ a b. (omega arith, omega arith)) (λ a b. absurd (omega arith)) (λ a b. absurd (omega arith)) (λ a b. absurd (omega arith)) g fn is lo hi), (λ j g fn is lo hi e. (functions_are look (λ g fn. fn.entry ≤ 3 → 3 ≤ fn.leave → (fn.entry ≤ j) × (j ≤ fn.leave)) (λ a b. (omega arith, omega arith)) (λ a b. absurd (omega arith)) (λ a b. absurd (omega arith)) (λ a b. absurd (omega arith)) g fn is lo hi), (λ j g fn is lo hi e. absurd e, (λ j g fn is lo hi e. (let x = e.0 in (functions_are look (λ g fn. fn.entry ≤ 5 → 5 ≤ fn.leave → (fn.entry ≤ j) × (j ≤ fn.leave)) (λ a b. absurd (omega arith)) (λ a b. (omega arith, omega arith)) (λ a b. absurd (omega arith)) (λ a b. absurd (omega arith)) g fn is lo hi)), (λ j g fn is lo hi e. (functions_are look (λ g fn. fn.entry ≤ 6 → 6 ≤ fn.leave → (fn.entry ≤ j) × (j ≤ fn.leave)) (λ a b. absurd (omega arith)) (λ a b. (omega arith, omega arith)) (λ a b. absurd (omega arith)) (λ a b. absurd (omega arith)) g fn is lo hi), (λ j g fn is lo hi e. (functions_are look (λ g fn. fn.entry ≤ 7 → 7 ≤ fn.leave → (fn.entry ≤ j) × (j ≤ fn.leave)) (λ a b. absurd (omega arith)) (λ a b. (omega arith, omega arith)) (λ a b. absurd (omega arith)) (λ a b. absurd (omega arith)) g fn is lo hi), (λ j g fn is lo hi e. (let x = e.0 in (functions_are look (λ g fn. fn.entry ≤ 8 → 8 ≤ fn.leave → (fn.entry ≤ j) × (j ≤ fn.leave)) (λ a b. absurd (omega arith)) (λ a b. (omega arith, omega arith)) (λ a b. absurd (omega arith)) (λ a b. absurd (omega arith)) g fn is lo hi)), (λ j g fn is lo hi e. (functions_are look (λ g fn. fn.entry ≤ 9 → 9 ≤ fn.leave → (fn.entry ≤ j) × (j ≤ fn.leave)) (λ a b. absurd (omega arith)) (λ a b. (omega arith, omega arith)) (λ a b. absurd (omega arith)) (λ a b. absurd (omega arith)) g fn is lo hi), (λ j g fn is lo hi e. absurd e, (λ j g fn is lo hi e. (let x = e.0 in (functions_are look (λ g fn. fn.entry ≤ 11 → 11 ≤ fn.leave → (fn.entry ≤ j) × (j ≤ fn.leave)) (λ a b. absurd (omega arith)) (λ a b. absurd (omega arith)) (λ a b. (omega arith, omega arith)) (λ a b. absurd (omega arith)) g fn is lo hi)), (λ j g fn is lo hi e. (functions_are look (λ g fn. fn.entry ≤ 12 → 12 ≤ fn.leave → (fn.entry ≤ j) × (j ≤ fn.leave)) (λ a b. absurd (omega arith)) (λ a b. absurd (omega arith)) (λ a b. (omega arith, omega arith)) (λ a b. absurd (omega arith)) g fn is lo hi), (λ j g fn is lo hi e. absurd e, (λ j g fn is lo hi e. (let x = e.0 in (functions_are look (λ g fn. fn.entry ≤ 14 → 14 ≤ fn.leave → (fn.entry ≤ j) × (j ≤ fn.leave)) (λ a b. absurd (omega arith)) (λ a b. absurd (omega arith)) (λ a b. absurd (omega arith)) (λ a b. (omega arith, omega arith)) g fn is lo hi)), (λ j g fn is lo hi e. (functions_are look (λ g fn. fn.entry ≤ 15 → 15 ≤ fn.leave → (fn.entry ≤ j) × (j ≤ fn.leave)) (λ a b. absurd (omega arith)) (λ a b. absurd (omega arith)) (λ a b. absurd (omega arith)) (λ a b. (omega arith, omega arith)) g fn is lo hi), (λ j g fn is lo hi e. (functions_are look (λ g fn. fn.entry ≤ 16 → 16 ≤ fn.leave → (fn.entry ≤ j) × (j ≤ fn.leave)) (λ a b. absurd (omega arith)) (λ a b. absurd (omega arith)) (λ a b. absurd (omega arith)) (λ a b. (omega arith, omega arith)) g fn is lo hi), (λ j g fn is lo hi e. (functions_are look (λ g fn. fn.entry ≤ 17 → 17 ≤ fn.leave → (fn.entry ≤ j) × (j ≤ fn.leave)) (λ a b. absurd (omega arith)) (λ a b. absurd (omega arith)) (λ a b. absurd (omega arith)) (λ a b. (omega arith, omega arith)) g fn is lo hi), (λ j g fn is lo hi e. (functions_are look (λ g fn. fn.entry ≤ 18 → 18 ≤ fn.leave → (fn.entry ≤ j) × (j ≤ fn.leave)) (λ a b. absurd (omega arith)) (λ a b. absurd (omega arith)) (λ a b. absurd (omega arith)) (λ a b. (omega arith, omega arith)) g fn is lo hi), (λ j g fn is lo hi e. absurd e, tt))))))))))))))))))))

exits_at : (i : ℕ) (kind : Kind) → IsAt first_flow i kind → kind ≡ RunDefers → (g : ℕ) (fn : Function) → IsFunction first_flow g fn → fn.entry ≤ i → i ≤ fn.leave → i ≡ fn.exit
exits_at = at_place look (λ i kind. kind ≡ RunDefers → (g : ℕ) (fn : Function) → IsFunction first_flow g fn → fn.entry ≤ i → i ≤ fn.leave → i ≡ fn.exit) (λ e g fn is lo hi. absurd cc, (λ e g fn is lo hi. absurd cc, (λ e g fn is lo hi. absurd cc, (λ e g fn is lo hi. functions_are look (λ g fn. fn.entry ≤ 3 → 3 ≤ fn.leave → 3 ≡ fn.exit) (λ a b. refl) (λ a b. absurd (omega arith)) (λ a b. absurd (omega arith)) (λ a b. absurd (omega arith)) g fn is lo hi, (λ e g fn is lo hi. absurd cc, (λ e g fn is lo hi. absurd cc, (λ e g fn is lo hi. absurd cc, (λ e g fn is lo hi. absurd cc, (λ e g fn is lo hi. absurd cc, (λ e g fn is lo hi. functions_are look (λ g fn. fn.entry ≤ 9 → 9 ≤ fn.leave → 9 ≡ fn.exit) (λ a b. absurd (omega arith)) (λ a b. refl) (λ a b. absurd (omega arith)) (λ a b. absurd (omega arith)) g fn is lo hi, (λ e g fn is lo hi. absurd cc, (λ e g fn is lo hi. absurd cc, (λ e g fn is lo hi. functions_are look (λ g fn. fn.entry ≤ 12 → 12 ≤ fn.leave → 12 ≡ fn.exit) (λ a b. absurd (omega arith)) (λ a b. absurd (omega arith)) (λ a b. refl) (λ a b. absurd (omega arith)) g fn is lo hi, (λ e g fn is lo hi. absurd cc, (λ e g fn is lo hi. absurd cc, (λ e g fn is lo hi. absurd cc, (λ e g fn is lo hi. absurd cc, (λ e g fn is lo hi. absurd cc, (λ e g fn is lo hi. functions_are look (λ g fn. fn.entry ≤ 18 → 18 ≤ fn.leave → 18 ≡ fn.exit) (λ a b. absurd (omega arith)) (λ a b. absurd (omega arith)) (λ a b. absurd (omega arith)) (λ a b. refl) g fn is lo hi, (λ e g fn is lo hi. absurd cc, tt))))))))))))))))))))

leaves_at : (i : ℕ) (kind : Kind) → IsAt first_flow i kind → (from : List ℕ) → kind ≡ Leave from → (g : ℕ) (fn : Function) → IsFunction first_flow g fn → fn.entry ≤ i → i ≤ fn.leave → (i ≡ fn.leave) × (length from ≡ fn.results)
leaves_at = at_place look (λ i kind. (from : List ℕ) → kind ≡ Leave from → (g : ℕ) (fn : Function) → IsFunction first_flow g fn → fn.entry ≤ i → i ≤ fn.leave → (i ≡ fn.leave) × (length from ≡ fn.results)) (λ from e g fn is lo hi. absurd cc, (λ from e g fn is lo hi. absurd cc, (λ from e g fn is lo hi. absurd cc, (λ from e g fn is lo hi. absurd cc, (λ from e g fn is lo hi. (let x : [] ≡ from = cc in subst (λ (xs : List ℕ). (4 ≡ fn.leave) × (length xs ≡ fn.results)) x (functions_are look (λ g fn. fn.entry ≤ 4 → 4 ≤ fn.leave → (4 ≡ fn.leave) × (length {A = ℕ} [] ≡ fn.results)) (λ a b. (refl, refl)) (λ a b. absurd (omega arith)) (λ a b. absurd (omega arith)) (λ a b. absurd (omega arith)) g fn is lo hi)), (λ from e g fn is lo hi. absurd cc, (λ from e g fn is lo hi. absurd cc, (λ from e g fn is lo hi. absurd cc, (λ from e g fn is lo hi. absurd cc, (λ from e g fn is lo hi. absurd cc, (λ from e g fn is lo hi. (let x : (0 ∷ []) ≡ from = cc in subst (λ (xs : List ℕ). (10 ≡ fn.leave) × (length xs ≡ fn.results)) x (functions_are look (λ g fn. fn.entry ≤ 10 → 10 ≤ fn.leave → (10 ≡ fn.leave) × (length {A = ℕ} (0 ∷ []) ≡ fn.results)) (λ a b. absurd (omega arith)) (λ a b. (refl, refl)) (λ a b. absurd (omega arith)) (λ a b. absurd (omega arith)) g fn is lo hi)), (λ from e g fn is lo hi. absurd cc, (λ from e g fn is lo hi. absurd cc, (λ from e g fn is lo hi. (let x : [] ≡ from = cc in subst (λ (xs : List ℕ). (13 ≡ fn.leave) × (length xs ≡ fn.results)) x (functions_are look (λ g fn. fn.entry ≤ 13 → 13 ≤ fn.leave → (13 ≡ fn.leave) × (length {A = ℕ} [] ≡ fn.results)) (λ a b. absurd (omega arith)) (λ a b. absurd (omega arith)) (λ a b. (refl, refl)) (λ a b. absurd (omega arith)) g fn is lo hi)), (λ from e g fn is lo hi. absurd cc, (λ from e g fn is lo hi. absurd cc, (λ from e g fn is lo hi. absurd cc, (λ from e g fn is lo hi. absurd cc, (λ from e g fn is lo hi. absurd cc, (λ from e g fn is lo hi. (let x : [] ≡ from = cc in subst (λ (xs : List ℕ). (19 ≡ fn.leave) × (length xs ≡ fn.results)) x (functions_are look (λ g fn. fn.entry ≤ 19 → 19 ≤ fn.leave → (19 ≡ fn.leave) × (length {A = ℕ} [] ≡ fn.results)) (λ a b. absurd (omega arith)) (λ a b. absurd (omega arith)) (λ a b. absurd (omega arith)) (λ a b. (refl, refl)) g fn is lo hi)), tt))))))))))))))))))))

gotos_at : (i : ℕ) (kind : Kind) → IsAt first_flow i kind → (target : ℕ) → kind ≡ Goto target → (g : ℕ) (fn : Function) → IsFunction first_flow g fn → fn.entry ≤ i → i ≤ fn.leave → target ≤ fn.exit
gotos_at = at_place look (λ i kind. (target : ℕ) → kind ≡ Goto target → (g : ℕ) (fn : Function) → IsFunction first_flow g fn → fn.entry ≤ i → i ≤ fn.leave → target ≤ fn.exit) (λ t e g fn is lo hi. (let x : 1 ≡ t = cc in functions_are look (λ g fn. fn.entry ≤ 0 → 0 ≤ fn.leave → t ≤ fn.exit) (λ a b. omega arith) (λ a b. absurd (omega arith)) (λ a b. absurd (omega arith)) (λ a b. absurd (omega arith)) g fn is lo hi), (λ t e g fn is lo hi. absurd cc, (λ t e g fn is lo hi. absurd cc, (λ t e g fn is lo hi. absurd cc, (λ t e g fn is lo hi. absurd cc, (λ t e g fn is lo hi. (let x : 6 ≡ t = cc in functions_are look (λ g fn. fn.entry ≤ 5 → 5 ≤ fn.leave → t ≤ fn.exit) (λ a b. absurd (omega arith)) (λ a b. omega arith) (λ a b. absurd (omega arith)) (λ a b. absurd (omega arith)) g fn is lo hi), (λ t e g fn is lo hi. absurd cc, (λ t e g fn is lo hi. absurd cc, (λ t e g fn is lo hi. (let x : 9 ≡ t = cc in functions_are look (λ g fn. fn.entry ≤ 8 → 8 ≤ fn.leave → t ≤ fn.exit) (λ a b. absurd (omega arith)) (λ a b. omega arith) (λ a b. absurd (omega arith)) (λ a b. absurd (omega arith)) g fn is lo hi), (λ t e g fn is lo hi. absurd cc, (λ t e g fn is lo hi. absurd cc, (λ t e g fn is lo hi. (let x : 12 ≡ t = cc in functions_are look (λ g fn. fn.entry ≤ 11 → 11 ≤ fn.leave → t ≤ fn.exit) (λ a b. absurd (omega arith)) (λ a b. absurd (omega arith)) (λ a b. omega arith) (λ a b. absurd (omega arith)) g fn is lo hi), (λ t e g fn is lo hi. absurd cc, (λ t e g fn is lo hi. absurd cc, (λ t e g fn is lo hi. (let x : 15 ≡ t = cc in functions_are look (λ g fn. fn.entry ≤ 14 → 14 ≤ fn.leave → t ≤ fn.exit) (λ a b. absurd (omega arith)) (λ a b. absurd (omega arith)) (λ a b. absurd (omega arith)) (λ a b. omega arith) g fn is lo hi), (λ t e g fn is lo hi. absurd cc, (λ t e g fn is lo hi. absurd cc, (λ t e g fn is lo hi. absurd cc, (λ t e g fn is lo hi. absurd cc, (λ t e g fn is lo hi. absurd cc, tt))))))))))))))))))))

branches_at : (i : ℕ) (kind : Kind) → IsAt first_flow i kind → (target : ℕ) (targets : List ℕ) → kind ≡ Branch targets → In target targets → (g : ℕ) (fn : Function) → IsFunction first_flow g fn → fn.entry ≤ i → i ≤ fn.leave → target ≤ fn.exit
branches_at = at_place look (λ i kind. (target : ℕ) (targets : List ℕ) → kind ≡ Branch targets → In target targets → (g : ℕ) (fn : Function) → IsFunction first_flow g fn → fn.entry ≤ i → i ≤ fn.leave → target ≤ fn.exit) (λ t ts e m g fn is lo hi. absurd cc, (λ t ts e m g fn is lo hi. (let x : (2 ∷ []) ≡ ts = cc in let y = in_one t 2 (subst (In t) (sym x) m) in functions_are look (λ g fn. fn.entry ≤ 1 → 1 ≤ fn.leave → t ≤ fn.exit) (λ a b. omega arith) (λ a b. absurd (omega arith)) (λ a b. absurd (omega arith)) (λ a b. absurd (omega arith)) g fn is lo hi), (λ t ts e m g fn is lo hi. absurd cc, (λ t ts e m g fn is lo hi. absurd cc, (λ t ts e m g fn is lo hi. absurd cc, (λ t ts e m g fn is lo hi. absurd cc, (λ t ts e m g fn is lo hi. absurd cc, (λ t ts e m g fn is lo hi. absurd cc, (λ t ts e m g fn is lo hi. absurd cc, (λ t ts e m g fn is lo hi. absurd cc, (λ t ts e m g fn is lo hi. absurd cc, (λ t ts e m g fn is lo hi. absurd cc, (λ t ts e m g fn is lo hi. absurd cc, (λ t ts e m g fn is lo hi. absurd cc, (λ t ts e m g fn is lo hi. absurd cc, (λ t ts e m g fn is lo hi. absurd cc, (λ t ts e m g fn is lo hi. absurd cc, (λ t ts e m g fn is lo hi. absurd cc, (λ t ts e m g fn is lo hi. absurd cc, (λ t ts e m g fn is lo hi. absurd cc, tt))))))))))))))))))))

registers_at : (i : ℕ) (kind : Kind) → IsAt first_flow i kind → (r : ℕ) → In r (defined kind ++ reads kind) → (g : ℕ) (fn : Function) → IsFunction first_flow g fn → fn.entry ≤ i → i ≤ fn.leave → r < length fn.registers
registers_at = at_place look (λ i kind. (r : ℕ) → In r (defined kind ++ reads kind) → (g : ℕ) (fn : Function) → IsFunction first_flow g fn → fn.entry ≤ i → i ≤ fn.leave → r < length fn.registers) (λ r m g fn is lo hi. in_none r m, (λ r m g fn is lo hi. in_none r m, (λ r m g fn is lo hi. in_none r m, (λ r m g fn is lo hi. in_none r m, (λ r m g fn is lo hi. in_none r m, (λ r m g fn is lo hi. in_none r m, (λ r m g fn is lo hi. (let y = in_one r 1 m in functions_are look (λ g fn. fn.entry ≤ 6 → 6 ≤ fn.leave → r < length fn.registers) (λ a b. absurd (omega arith)) (λ a b. omega arith) (λ a b. absurd (omega arith)) (λ a b. absurd (omega arith)) g fn is lo hi), (λ r m g fn is lo hi. (let y = in_two r m in functions_are look (λ g fn. fn.entry ≤ 7 → 7 ≤ fn.leave → r < length fn.registers) (λ a b. absurd (omega arith)) (λ a b. omega arith) (λ a b. absurd (omega arith)) (λ a b. absurd (omega arith)) g fn is lo hi), (λ r m g fn is lo hi. in_none r m, (λ r m g fn is lo hi. in_none r m, (λ r m g fn is lo hi. (let y = in_one r 0 m in functions_are look (λ g fn. fn.entry ≤ 10 → 10 ≤ fn.leave → r < length fn.registers) (λ a b. absurd (omega arith)) (λ a b. omega arith) (λ a b. absurd (omega arith)) (λ a b. absurd (omega arith)) g fn is lo hi), (λ r m g fn is lo hi. in_none r m, (λ r m g fn is lo hi. in_none r m, (λ r m g fn is lo hi. in_none r m, (λ r m g fn is lo hi. in_none r m, (λ r m g fn is lo hi. (let y = in_one r 0 m in functions_are look (λ g fn. fn.entry ≤ 15 → 15 ≤ fn.leave → r < length fn.registers) (λ a b. absurd (omega arith)) (λ a b. absurd (omega arith)) (λ a b. absurd (omega arith)) (λ a b. omega arith) g fn is lo hi), (λ r m g fn is lo hi. (let y = in_both r m in functions_are look (λ g fn. fn.entry ≤ 16 → 16 ≤ fn.leave → r < length fn.registers) (λ a b. absurd (omega arith)) (λ a b. absurd (omega arith)) (λ a b. absurd (omega arith)) (λ a b. omega arith) g fn is lo hi), (λ r m g fn is lo hi. (let y = in_one r 1 m in functions_are look (λ g fn. fn.entry ≤ 17 → 17 ≤ fn.leave → r < length fn.registers) (λ a b. absurd (omega arith)) (λ a b. absurd (omega arith)) (λ a b. absurd (omega arith)) (λ a b. omega arith) g fn is lo hi), (λ r m g fn is lo hi. in_none r m, (λ r m g fn is lo hi. in_none r m, tt))))))))))))))))))))

references_at : (i : ℕ) (kind : Kind) → IsAt first_flow i kind → (r : ℕ) → In r (reference_registers kind) → ⊥
references_at = at_place look (λ i kind. (r : ℕ) → In r (reference_registers kind) → ⊥) (λ r m. in_none r m, (λ r m. in_none r m, (λ r m. in_none r m, (λ r m. in_none r m, (λ r m. in_none r m, (λ r m. in_none r m, (λ r m. in_none r m, (λ r m. in_none r m, (λ r m. in_none r m, (λ r m. in_none r m, (λ r m. in_none r m, (λ r m. in_none r m, (λ r m. in_none r m, (λ r m. in_none r m, (λ r m. in_none r m, (λ r m. in_none r m, (λ r m. in_none r m, (λ r m. in_none r m, (λ r m. in_none r m, (λ r m. in_none r m, tt))))))))))))))))))))

once_at : (i : ℕ) (kind : Kind) → IsAt first_flow i kind → (to args : List ℕ) (callee : Callee) → kind ≡ Call to callee args → IsDistinct to
once_at = at_place look (λ i kind. (to args : List ℕ) (callee : Callee) → kind ≡ Call to callee args → IsDistinct to) (λ to args c e. absurd cc, (λ to args c e. absurd cc, (λ to args c e. (let x : [] ≡ to = cc in subst (λ (xs : List ℕ). IsDistinct xs) x distinct_none), (λ to args c e. absurd cc, (λ to args c e. absurd cc, (λ to args c e. absurd cc, (λ to args c e. absurd cc, (λ to args c e. absurd cc, (λ to args c e. absurd cc, (λ to args c e. absurd cc, (λ to args c e. absurd cc, (λ to args c e. absurd cc, (λ to args c e. absurd cc, (λ to args c e. absurd cc, (λ to args c e. absurd cc, (λ to args c e. (let x : (0 ∷ []) ≡ to = cc in subst (λ (xs : List ℕ). IsDistinct xs) x distinct_one), (λ to args c e. absurd cc, (λ to args c e. (let x : [] ≡ to = cc in subst (λ (xs : List ℕ). IsDistinct xs) x distinct_none), (λ to args c e. absurd cc, (λ to args c e. absurd cc, tt))))))))))))))))))))

op_at : (i : ℕ) (kind : Kind) → IsAt first_flow i kind → (to : ℕ) (from : List ℕ) → kind ≡ Op to from → (g : ℕ) (fn : Function) → IsFunction first_flow g fn → fn.entry ≤ i → i ≤ fn.leave → leaves first_flow g to ≡ [] ∷ []
op_at = at_place look (λ i kind. (to : ℕ) (from : List ℕ) → kind ≡ Op to from → (g : ℕ) (fn : Function) → IsFunction first_flow g fn → fn.entry ≤ i → i ≤ fn.leave → leaves first_flow g to ≡ [] ∷ []) (λ to from e g fn is lo hi. absurd cc, (λ to from e g fn is lo hi. absurd cc, (λ to from e g fn is lo hi. absurd cc, (λ to from e g fn is lo hi. absurd cc, (λ to from e g fn is lo hi. absurd cc, (λ to from e g fn is lo hi. absurd cc, (λ to from e g fn is lo hi. (let x : 1 ≡ to = cc in subst (λ n. leaves first_flow g n ≡ [] ∷ []) x (functions_are look (λ g fn. fn.entry ≤ 6 → 6 ≤ fn.leave → leaves first_flow g 1 ≡ [] ∷ []) (λ a b. absurd (omega arith)) (λ a b. refl) (λ a b. absurd (omega arith)) (λ a b. absurd (omega arith)) g fn is lo hi)), (λ to from e g fn is lo hi. absurd cc, (λ to from e g fn is lo hi. absurd cc, (λ to from e g fn is lo hi. absurd cc, (λ to from e g fn is lo hi. absurd cc, (λ to from e g fn is lo hi. absurd cc, (λ to from e g fn is lo hi. absurd cc, (λ to from e g fn is lo hi. absurd cc, (λ to from e g fn is lo hi. absurd cc, (λ to from e g fn is lo hi. absurd cc, (λ to from e g fn is lo hi. absurd cc, (λ to from e g fn is lo hi. absurd cc, (λ to from e g fn is lo hi. absurd cc, (λ to from e g fn is lo hi. absurd cc, tt))))))))))))))))))))

move_at : (i : ℕ) (kind : Kind) → IsAt first_flow i kind → (to from : ℕ) (path : List PathStep) → kind ≡ Move to from path → (g : ℕ) (fn : Function) → IsFunction first_flow g fn → fn.entry ≤ i → i ≤ fn.leave → leaves first_flow g to ≡ filter_map (below path) (leaves first_flow g from)
move_at = at_place look (λ i kind. (to from : ℕ) (path : List PathStep) → kind ≡ Move to from path → (g : ℕ) (fn : Function) → IsFunction first_flow g fn → fn.entry ≤ i → i ≤ fn.leave → leaves first_flow g to ≡ filter_map (below path) (leaves first_flow g from)) (λ to from path e g fn is lo hi. absurd cc, (λ to from path e g fn is lo hi. absurd cc, (λ to from path e g fn is lo hi. absurd cc, (λ to from path e g fn is lo hi. absurd cc, (λ to from path e g fn is lo hi. absurd cc, (λ to from path e g fn is lo hi. absurd cc, (λ to from path e g fn is lo hi. absurd cc, (λ to from path e g fn is lo hi. (let x : 0 ≡ to = cc in let y : 1 ≡ from = cc in let z : [] ≡ path = cc in subst (λ n. leaves first_flow g n ≡ filter_map (below path) (leaves first_flow g from)) x (subst (λ n. leaves first_flow g 0 ≡ filter_map (below path) (leaves first_flow g n)) y (subst (λ (q : List PathStep). leaves first_flow g 0 ≡ filter_map (below q) (leaves first_flow g 1)) z (functions_are look (λ g fn. fn.entry ≤ 7 → 7 ≤ fn.leave → leaves first_flow g 0 ≡ filter_map (below []) (leaves first_flow g 1)) (λ a b. absurd (omega arith)) (λ a b. refl) (λ a b. absurd (omega arith)) (λ a b. absurd (omega arith)) g fn is lo hi)))), (λ to from path e g fn is lo hi. absurd cc, (λ to from path e g fn is lo hi. absurd cc, (λ to from path e g fn is lo hi. absurd cc, (λ to from path e g fn is lo hi. absurd cc, (λ to from path e g fn is lo hi. absurd cc, (λ to from path e g fn is lo hi. absurd cc, (λ to from path e g fn is lo hi. absurd cc, (λ to from path e g fn is lo hi. absurd cc, (λ to from path e g fn is lo hi. (let x : 1 ≡ to = cc in let y : 0 ≡ from = cc in let z : [] ≡ path = cc in subst (λ n. leaves first_flow g n ≡ filter_map (below path) (leaves first_flow g from)) x (subst (λ n. leaves first_flow g 1 ≡ filter_map (below path) (leaves first_flow g n)) y (subst (λ (q : List PathStep). leaves first_flow g 1 ≡ filter_map (below q) (leaves first_flow g 0)) z (functions_are look (λ g fn. fn.entry ≤ 16 → 16 ≤ fn.leave → leaves first_flow g 1 ≡ filter_map (below []) (leaves first_flow g 0)) (λ a b. absurd (omega arith)) (λ a b. absurd (omega arith)) (λ a b. absurd (omega arith)) (λ a b. refl) g fn is lo hi)))), (λ to from path e g fn is lo hi. absurd cc, (λ to from path e g fn is lo hi. absurd cc, (λ to from path e g fn is lo hi. absurd cc, tt))))))))))))))))))))

no_join : (i : ℕ) (kind : Kind) → IsAt first_flow i kind → (to : ℕ) (parts : List (List PathStep × ℕ)) → kind ≡ Join to parts → ⊥
no_join = at_place look (λ i kind. (to : ℕ) (parts : List (List PathStep × ℕ)) → kind ≡ Join to parts → ⊥) (λ to parts e. cc, (λ to parts e. cc, (λ to parts e. cc, (λ to parts e. cc, (λ to parts e. cc, (λ to parts e. cc, (λ to parts e. cc, (λ to parts e. cc, (λ to parts e. cc, (λ to parts e. cc, (λ to parts e. cc, (λ to parts e. cc, (λ to parts e. cc, (λ to parts e. cc, (λ to parts e. cc, (λ to parts e. cc, (λ to parts e. cc, (λ to parts e. cc, (λ to parts e. cc, (λ to parts e. cc, tt))))))))))))))))))))

no_read : (i : ℕ) (kind : Kind) → IsAt first_flow i kind → (to at : ℕ) (qs : List (List PathStep)) → kind ≡ Read to at qs → ⊥
no_read = at_place look (λ i kind. (to at : ℕ) (qs : List (List PathStep)) → kind ≡ Read to at qs → ⊥) (λ to at qs e. cc, (λ to at qs e. cc, (λ to at qs e. cc, (λ to at qs e. cc, (λ to at qs e. cc, (λ to at qs e. cc, (λ to at qs e. cc, (λ to at qs e. cc, (λ to at qs e. cc, (λ to at qs e. cc, (λ to at qs e. cc, (λ to at qs e. cc, (λ to at qs e. cc, (λ to at qs e. cc, (λ to at qs e. cc, (λ to at qs e. cc, (λ to at qs e. cc, (λ to at qs e. cc, (λ to at qs e. cc, (λ to at qs e. cc, tt))))))))))))))))))))

no_new : (i : ℕ) (kind : Kind) → IsAt first_flow i kind → (to s : ℕ) → kind ≡ New to s → ⊥
no_new = at_place look (λ i kind. (to s : ℕ) → kind ≡ New to s → ⊥) (λ to s e. cc, (λ to s e. cc, (λ to s e. cc, (λ to s e. cc, (λ to s e. cc, (λ to s e. cc, (λ to s e. cc, (λ to s e. cc, (λ to s e. cc, (λ to s e. cc, (λ to s e. cc, (λ to s e. cc, (λ to s e. cc, (λ to s e. cc, (λ to s e. cc, (λ to s e. cc, (λ to s e. cc, (λ to s e. cc, (λ to s e. cc, (λ to s e. cc, tt))))))))))))))))))))

no_global : (i : ℕ) (kind : Kind) → IsAt first_flow i kind → (to k : ℕ) → kind ≡ Global to k → ⊥
no_global = at_place look (λ i kind. (to k : ℕ) → kind ≡ Global to k → ⊥) (λ to k e. cc, (λ to k e. cc, (λ to k e. cc, (λ to k e. cc, (λ to k e. cc, (λ to k e. cc, (λ to k e. cc, (λ to k e. cc, (λ to k e. cc, (λ to k e. cc, (λ to k e. cc, (λ to k e. cc, (λ to k e. cc, (λ to k e. cc, (λ to k e. cc, (λ to k e. cc, (λ to k e. cc, (λ to k e. cc, (λ to k e. cc, (λ to k e. cc, tt))))))))))))))))))))

no_passed : (i : ℕ) (kind : Kind) → IsAt first_flow i kind → (to h : ℕ) → kind ≡ Passed to h → ⊥
no_passed = at_place look (λ i kind. (to h : ℕ) → kind ≡ Passed to h → ⊥) (λ to h e. cc, (λ to h e. cc, (λ to h e. cc, (λ to h e. cc, (λ to h e. cc, (λ to h e. cc, (λ to h e. cc, (λ to h e. cc, (λ to h e. cc, (λ to h e. cc, (λ to h e. cc, (λ to h e. cc, (λ to h e. cc, (λ to h e. cc, (λ to h e. cc, (λ to h e. cc, (λ to h e. cc, (λ to h e. cc, (λ to h e. cc, (λ to h e. cc, tt))))))))))))))))))))

callees_at : (i : ℕ) (kind : Kind) → IsAt first_flow i kind → (h : ℕ) → callee_of kind ≡ Some (Static h) → h < 4
callees_at = at_place look (λ i kind. (h : ℕ) → callee_of kind ≡ Some (Static h) → h < 4) (λ h e. absurd cc, (λ h e. absurd cc, (λ h e. (let x : 3 ≡ h = cc in omega arith), (λ h e. absurd cc, (λ h e. absurd cc, (λ h e. absurd cc, (λ h e. absurd cc, (λ h e. absurd cc, (λ h e. absurd cc, (λ h e. absurd cc, (λ h e. absurd cc, (λ h e. absurd cc, (λ h e. absurd cc, (λ h e. absurd cc, (λ h e. absurd cc, (λ h e. (let x : 1 ≡ h = cc in omega arith), (λ h e. absurd cc, (λ h e. (let x : 2 ≡ h = cc in omega arith), (λ h e. absurd cc, (λ h e. absurd cc, tt))))))))))))))))))))

-- the function that has the place
bounds_fn : (i g : ℕ) → IsIn first_flow i g → (fn : Function) × IsFunction first_flow g fn × (fn.entry ≤ i) × (i ≤ fn.leave)
bounds_fn i g inside = (inside.fn, inside.is, inside.low, inside.high)

number_2 : (g : ℕ) (fn : Function) → IsFunction first_flow g fn → fn.entry ≤ 2 → 2 ≤ fn.leave → g ≡ 0
number_2 = functions_are look (λ g fn. fn.entry ≤ 2 → 2 ≤ fn.leave → g ≡ 0) (λ a b. refl) (λ a b. absurd (omega arith)) (λ a b. absurd (omega arith)) (λ a b. absurd (omega arith))

fits_2 : (g : ℕ) → (fn : Function) × IsFunction first_flow g fn × (fn.entry ≤ 2) × (2 ≤ fn.leave) → FitsStatic first_flow g 3 (Call [] (Static 3) []) []
fits_2 g b = record { fn = (main_function look); is = refl; count = refl; params = λ k r e. absurd cc; no_env = refl; results = λ to callee e. (let x : [] ≡ to = cc in ap length (sym x)); result_leaves = λ to from callee k r s e b lv a c. (let x : [] ≡ to = cc in let y = subst (λ (xs : List ℕ). slice_get xs k ≡ Some r) (sym x) a in absurd cc) }

number_15 : (g : ℕ) (fn : Function) → IsFunction first_flow g fn → fn.entry ≤ 15 → 15 ≤ fn.leave → g ≡ 3
number_15 = functions_are look (λ g fn. fn.entry ≤ 15 → 15 ≤ fn.leave → g ≡ 3) (λ a b. absurd (omega arith)) (λ a b. absurd (omega arith)) (λ a b. absurd (omega arith)) (λ a b. refl)

fits_15 : (g : ℕ) → (fn : Function) × IsFunction first_flow g fn × (fn.entry ≤ 15) × (15 ≤ fn.leave) → FitsStatic first_flow g 1 (Call (0 ∷ []) (Static 1) []) []
fits_15 g b = record { fn = (source_function look); is = refl; count = refl; params = λ k r e. absurd cc; no_env = refl; results = λ to callee e. (let x : (0 ∷ []) ≡ to = cc in ap length (sym x)); result_leaves = λ to from callee k r s e body lv a c. (let x : (0 ∷ []) ≡ to = cc in let y = only_one 0 r k (subst (λ (xs : List ℕ). slice_get xs k ≡ Some r) (sym x) a) in let f : (0 ∷ []) ≡ from = cc in let v = only_one 0 s k (subst (λ (xs : List ℕ). slice_get xs k ≡ Some s) (sym f) c) in let z = number_15 g b.0 b.1 b.2 b.3 in subst (λ n. leaves first_flow n r ≡ leaves first_flow 1 s) (sym z) (subst (λ n. leaves first_flow 3 n ≡ leaves first_flow 1 s) y.1 (subst (λ n. leaves first_flow 3 0 ≡ leaves first_flow 1 n) v.1 refl))) }

number_17 : (g : ℕ) (fn : Function) → IsFunction first_flow g fn → fn.entry ≤ 17 → 17 ≤ fn.leave → g ≡ 3
number_17 = functions_are look (λ g fn. fn.entry ≤ 17 → 17 ≤ fn.leave → g ≡ 3) (λ a b. absurd (omega arith)) (λ a b. absurd (omega arith)) (λ a b. absurd (omega arith)) (λ a b. refl)

fits_17 : (g : ℕ) → (fn : Function) × IsFunction first_flow g fn × (fn.entry ≤ 17) × (17 ≤ fn.leave) → FitsStatic first_flow g 2 (Call [] (Static 2) (1 ∷ [])) (1 ∷ [])
fits_17 g b = record { fn = (sink_function look); is = refl; count = refl; params = λ k r e. (let x = only_one 1 r k e in let z = number_17 g b.0 b.1 b.2 b.3 in subst (λ n. leaves first_flow n r ≡ leaves first_flow 2 k) (sym z) (subst (λ n. leaves first_flow 3 n ≡ leaves first_flow 2 k) x.1 (subst (λ n. leaves first_flow 3 1 ≡ leaves first_flow 2 n) (sym x.0) refl))); no_env = refl; results = λ to callee e. (let x : [] ≡ to = cc in ap length (sym x)); result_leaves = λ to from callee k r s e b lv a c. (let x : [] ≡ to = cc in let y = subst (λ (xs : List ℕ). slice_get xs k ≡ Some r) (sym x) a in absurd cc) }

fits_at : (i : ℕ) (kind : Kind) → IsAt first_flow i kind → (g h : ℕ) (args : List ℕ) → IsIn first_flow i g → callee_of kind ≡ Some (Static h) → args_of kind ≡ args → FitsStatic first_flow g h kind args
fits_at = at_place look (λ i kind. (g h : ℕ) (args : List ℕ) → IsIn first_flow i g → callee_of kind ≡ Some (Static h) → args_of kind ≡ args → FitsStatic first_flow g h kind args) (λ g h args inside e a. absurd cc, (λ g h args inside e a. absurd cc, (λ g h args inside e a. (let x : 3 ≡ h = cc in subst (λ n. FitsStatic first_flow g n (Call [] (Static 3) []) args) x (subst (λ (xs : List ℕ). FitsStatic first_flow g 3 (Call [] (Static 3) []) xs) a (fits_2 g (bounds_fn 2 g inside)))), (λ g h args inside e a. absurd cc, (λ g h args inside e a. absurd cc, (λ g h args inside e a. absurd cc, (λ g h args inside e a. absurd cc, (λ g h args inside e a. absurd cc, (λ g h args inside e a. absurd cc, (λ g h args inside e a. absurd cc, (λ g h args inside e a. absurd cc, (λ g h args inside e a. absurd cc, (λ g h args inside e a. absurd cc, (λ g h args inside e a. absurd cc, (λ g h args inside e a. absurd cc, (λ g h args inside e a. (let x : 1 ≡ h = cc in subst (λ n. FitsStatic first_flow g n (Call (0 ∷ []) (Static 1) []) args) x (subst (λ (xs : List ℕ). FitsStatic first_flow g 1 (Call (0 ∷ []) (Static 1) []) xs) a (fits_15 g (bounds_fn 15 g inside)))), (λ g h args inside e a. absurd cc, (λ g h args inside e a. (let x : 2 ≡ h = cc in subst (λ n. FitsStatic first_flow g n (Call [] (Static 2) (1 ∷ [])) args) x (subst (λ (xs : List ℕ). FitsStatic first_flow g 2 (Call [] (Static 2) (1 ∷ [])) xs) a (fits_17 g (bounds_fn 17 g inside)))), (λ g h args inside e a. absurd cc, (λ g h args inside e a. absurd cc, tt))))))))))))))))))))

abbrev EachInstr : (Instr → Type 0) → List Instr → Type 0
EachInstr P [] = Unit {0}
EachInstr P (x ∷ xs) = P x × EachInstr P xs

each_instr : (P : Instr → Type 0) (xs : List Instr) → EachInstr P xs → (k : ℕ) (x : Instr) → slice_get xs k ≡ Some x → P x
each_instr P [] h k x e = absurd cc
each_instr P (y ∷ ys) h zero x e = let same : y ≡ x = cc in subst P same h.0
each_instr P (y ∷ ys) h (suc k) x e = each_instr P ys h.1 k x e

leaf_count : (g r : ℕ) → length (leaves first_flow g r) ≤ 4096
leaf_count g r = elim (leaves_are look g r) [ inl e ↦ subst (λ (q : List (List PathStep)). length q ≤ 4096) (sym e) (omega arith) | inr e ↦ subst (λ (q : List (List PathStep)). length q ≤ 4096) (sym e) (omega arith) ]

distinct_paths : (qs : List (List PathStep)) → (qs ≡ []) ⊎ (qs ≡ [] ∷ []) → IsDistinct qs
distinct_paths [] e a b x h k = absurd cc
distinct_paths (q ∷ []) e zero zero x h k = refl
distinct_paths (q ∷ []) e zero (suc b) x h k = absurd cc
distinct_paths (q ∷ []) e (suc a) b x h k = absurd cc
distinct_paths (q ∷ r ∷ rs) e a b x h k = elim e [ inl f ↦ absurd cc | inr f ↦ absurd cc ]

goes_to_no_entry : (i j g : ℕ) → Successor first_flow i j → IsEntry first_flow j g → ⊥
goes_to_no_entry i j g (successor kind at onward) e = let x = next_entry i kind at j onward in functions_are look (λ g fn. j ≡ fn.entry → ⊥) x.0 x.1 x.2 x.3 g e.fn e.is e.at

goes_inside : (i j g : ℕ) → Successor first_flow i j → IsIn first_flow i g → IsIn first_flow j g
goes_inside i j g (successor kind at onward) inside = let x = next_inside i kind at j g inside.fn inside.is inside.low inside.high onward in record { fn = inside.fn; is = inside.is; low = x.0; high = x.1 }

pub well_formed : WellFormed first_flow
well_formed = record {
  ranges = record {
    inside = functions_are look (λ g fn. (fn.entry ≤ fn.exit) × (fn.exit ≤ fn.leave) × (fn.leave < 20)) (omega arith, omega arith, omega arith) (omega arith, omega arith, omega arith) (omega arith, omega arith, omega arith) (omega arith, omega arith, omega arith);
    first = λ fn is. (let e : (entry_function look) ≡ fn = cc in ap (λ (f : Function). f.entry) (sym e));
    next = λ g fn after is is'. functions_are look (λ g fn. (after : Function) → IsFunction first_flow (g + 1) after → after.entry ≡ fn.leave + 1)
        (λ a h. (let e : (source_function look) ≡ a = cc in ap (λ (f : Function). f.entry) (sym e))) (λ a h. (let e : (sink_function look) ≡ a = cc in ap (λ (f : Function). f.entry) (sym e))) (λ a h. (let e : (main_function look) ≡ a = cc in ap (λ (f : Function). f.entry) (sym e))) (λ a h. absurd cc) g fn is after is';
    last = functions_are look (λ g fn. g + 1 ≡ 4 → fn.leave + 1 ≡ 20) (λ h. absurd (omega arith)) (λ h. absurd (omega arith)) (λ h. absurd (omega arith)) (λ h. refl);
  };
  entry_function = record { fn = (entry_function look); is = refl; body = refl; params = refl; results = refl; own = refl; nameless = refl };
  externals = λ g flows fn is e. absurd (no_external look g fn is flows e);
  bodies = λ g fn is e. functions_are look (λ g fn. (fn.entry < fn.exit) × (fn.exit < fn.leave)) (omega arith, omega arith) (omega arith, omega arith) (omega arith, omega arith) (omega arith, omega arith) g fn is;
  entry_goto = λ g fn is e. functions_are look (λ g fn. IsAt first_flow fn.entry (Goto (fn.entry + 1))) refl refl refl refl g fn is;
  no_entry = goes_to_no_entry;
  stays = goes_inside;
  runs_at_exit = record {
    stands = λ g fn is e. functions_are look (λ g fn. IsAt first_flow fn.exit RunDefers) refl refl refl refl g fn is;
    alone = λ i g fn at inside is. (let b = bounds i g fn inside is in exits_at i RunDefers at refl g fn is b.0 b.1);
  };
  leaves_at_leave = record {
    stands = λ g fn is e. functions_are look (λ g fn. (from : List ℕ) × IsAt first_flow fn.leave (Leave from)) ([], refl) (0 ∷ [], refl) ([], refl) ([], refl) g fn is;
    alone = λ i g from fn at inside is. (let b = bounds i g fn inside is in (leaves_at i (Leave from) at from refl g fn is b.0 b.1).0);
  };
  reads_behind_exit = record {
    reads = λ i g fn is lo hi. absurd (functions_are look (λ g fn. fn.exit < i → i < fn.leave → ⊥) (λ a b. absurd (omega arith)) (λ a b. absurd (omega arith)) (λ a b. absurd (omega arith)) (λ a b. absurd (omega arith)) g fn is lo hi);
    goto = λ i g target fn is inside at. (let b = bounds i g fn inside is in gotos_at i (Goto target) at target refl g fn is b.0 b.1);
    branch = λ i g target targets fn is inside at m. (let b = bounds i g fn inside is in branches_at i (Branch targets) at target targets refl m g fn is b.0 b.1);
  };
  registers = record {
    there = λ i g r kind fn is inside at m. (let b = bounds i g fn inside is in registers_at i kind at r m g fn is b.0 b.1);
    params = functions_are look (λ g fn. fn.params ≤ length fn.registers) (omega arith) (omega arith) (omega arith) (omega arith);
    once = λ i to args callee at. once_at i (Call to callee args) at to args callee refl;
    distinct = λ g r. distinct_paths (leaves first_flow g r) (leaves_are look g r);
  };
  references = record {
    each = λ i g r kind inside at m. absurd (references_at i kind at r m);
    param = λ g fn is e. absurd (functions_are look (λ g fn. fn.has_env ≡ true → ⊥) (λ e. cc) (λ e. cc) (λ e. cc) (λ e. cc) g fn is e);
  };
  op_leaf = λ i g to from inside at. op_at i (Op to from) at to from refl g inside.fn inside.is inside.low inside.high;
  move_leaves = λ i g to from path inside at. move_at i (Move to from path) at to from path refl g inside.fn inside.is inside.low inside.high;
  join_leaves = λ i g to r parts path q inside at m n. absurd (no_join i (Join to parts) at to parts refl);
  read_leaves = λ i g to at qs inside is. absurd (no_read i (Read to at qs) is to at qs refl);
  grow_leaves = λ i g n to at r items site inside is sited m. absurd (no_grow look i (Grow to at items) is to at items refl);
  static_fits = λ i g h n kind args inside at hands. (let x = hands_are kind (Static h) args n hands in fits_at i kind at g h args inside x.0 x.1);
  leave_count = λ i g from fn is inside at. (let b = bounds i g fn inside is in (leaves_at i (Leave from) at from refl g fn is b.0 b.1).1);
  global_sites = record { site = λ k ident at s e. absurd cc; is = λ k h. absurd (omega arith) };
  new_site = λ i to s at. absurd (no_new i (New to s) at to s refl);
  grow_site = λ i to at items is. absurd (no_grow look i (Grow to at items) is to at items refl);
  call_sites = λ i g n to args callee site inside at sited. (let e = sited.is in absurd cc);
  no_other_site = record { makes = λ n site e h. absurd cc; order = λ n a b e f h. absurd cc };
  site_function = λ n h site e f. absurd cc;
  site_shape = λ n site e. absurd cc;
  one_wrapper = record { one = λ type a b name m n. in_none _ m; is = λ type h name m. in_none _ m };
  wraps = λ g h fn is e. absurd (functions_are look (λ g fn. fn.wraps ≡ Some h → ⊥) (λ e. cc) (λ e. cc) (λ e. cc) (λ e. cc) g fn is e);
  environments = record {
    bound = λ g fn is e. absurd (functions_are look (λ g fn. fn.role ≡ Bound → ⊥) (λ e. cc) (λ e. cc) (λ e. cc) (λ e. cc) g fn is e);
    wrapper = λ g fn is e. functions_are look (λ g fn. fn.has_env ≡ false) refl refl refl refl g fn is;
    declared = λ g fn ident is e. functions_are look (λ g fn. fn.has_env ≡ false) refl refl refl refl g fn is;
  };
  identified = λ g fn ident is e. functions_are look (λ g fn. fn.role ≡ Own) refl refl refl refl g fn is;
  numbers = record {
    callee = λ i h n kind args at hands. callees_at i kind at h (hands_are kind (Static h) args n hands).0;
    passed = λ i to h at. absurd (no_passed i (Passed to h) at to h refl);
    global = λ i to k at. absurd (no_global i (Global to k) at to k refl);
    new = λ i to s at. absurd (no_new i (New to s) at to s refl);
    place = λ n site e. absurd cc;
    function = λ n h site e f. absurd cc;
    instr_file = each_instr (λ x. x.at.file < 1) first_flow.instrs (omega arith, (omega arith, (omega arith, (omega arith, (omega arith, (omega arith, (omega arith, (omega arith, (omega arith, (omega arith, (omega arith, (omega arith, (omega arith, (omega arith, (omega arith, (omega arith, (omega arith, (omega arith, (omega arith, (omega arith, tt))))))))))))))))))));
    function_file = functions_are look (λ g fn. fn.at.file < 1) (omega arith) (omega arith) (omega arith) (omega arith);
    global_file = λ k s ident at e. absurd cc;
  };
  tagged = each_instr (λ x. x.tags ≢ [] → IsReadOrMove x.kind) first_flow.instrs (λ n. absurd (n refl), (λ n. absurd (n refl), (λ n. absurd (n refl), (λ n. absurd (n refl), (λ n. absurd (n refl), (λ n. absurd (n refl), (λ n. absurd (n refl), (λ n. absurd (n refl), (λ n. absurd (n refl), (λ n. absurd (n refl), (λ n. absurd (n refl), (λ n. absurd (n refl), (λ n. absurd (n refl), (λ n. absurd (n refl), (λ n. absurd (n refl), (λ n. absurd (n refl), (λ n. absurd (n refl), (λ n. absurd (n refl), (λ n. absurd (n refl), (λ n. absurd (n refl), tt))))))))))))))))))));
  limits = record { functions = omega arith; instrs = omega arith; leaves = leaf_count; shapes = λ n site e f. absurd cc };
}
