-- The function that has a place.
use Rattle.std.proofs.Common.{◌≡◌, ℕ, zero, suc, ◌+◌, ◌<◌, ◌≤◌, Bool, true, false, Option, Some, None, List, [], ◌∷◌, length, refl, sym, ap, ◌∙◌, inl, inr, arith, subst}
use Rattle.std.specs.Prelude.{slice_get, ◌&&◌, ◌||◌, nat_le, nat_lt}
use Rattle.std.specs.List.{find}
use Rattle.std.proofs.lemmas.Bool.{cases_Bool, cases_lt, and_parts}
use Rattle.std.proofs.lemmas.Option.{slice_get_past}
use Rattle.std.proofs.lemmas.Grind.{common_steps}
use Rattle.argot_plain.specs.Code.{Code, IsFunction, IsIn}
use Rattle.argot_plain.specs.Counts.{in_wrapper, is_wrapper}
use Rattle.argot_plain.specs.WellFormed.{WellFormed}
use Rattle.argot_plain.specs.declared.functions.Function.{Function}
use Rattle.argot_plain.specs.declared.functions.Ident.{Ident}
use Rattle.argot_plain.specs.declared.instructions.Instr.{Instr}
use Rattle.argot_plain.specs.declared.sites.Site.{Site}
use Rattle.argot_text.specs.Lines.{position_text}
use Rattle.argot_text.specs.declared.position.Pos.{Pos}
use Rattle.argot_facts.proofs.Listed.{get_at, get_within}
use Rattle.argot_facts.proofs.Placed.{one_function}
use Rattle.argot_report.specs.Names.{has_place, name_of, function_text, position_of, place_text, variable_text, variable_of, made_at, inside_text, site_text}
use Rattle.argot_report.proofs.Finding.{find_here, find_none}

le_of : (a b : ℕ) → nat_le a b ≡ true → a ≤ b
le_of a b h = grind (arith, common_steps)

of_le : (a b : ℕ) → a ≤ b → nat_le a b ≡ true
of_le a b h = grind (arith, common_steps)

has_it : (i : ℕ) (fn : Function) → fn.entry ≤ i → i ≤ fn.leave → has_place i fn ≡ true
has_it i fn low high = rw (of_le fn.entry i low, of_le i fn.leave high) refl

it_has : (i : ℕ) (fn : Function) → has_place i fn ≡ true → (fn.entry ≤ i) × (i ≤ fn.leave)
it_has i fn h = let b = and_parts (nat_le fn.entry i) (nat_le i fn.leave) h in (le_of fn.entry i b.0, le_of i fn.leave b.1)

module _ (p : Code) (wf : WellFormed p) (i : ℕ) where
  not_before : (g : ℕ) → IsIn p i g → (k : ℕ) (y : Function) → k < g → slice_get p.functions k ≡ Some y → has_place i y ≡ false
  not_before g at k y l is = elim (cases_Bool (has_place i y)) [
    | inl t ↦ let b = it_has i y t in let e : k ≡ g = one_function p wf.ranges i k g (record { fn = y; is = is; low = b.0; high = b.1 }) at in absurd (omega arith)
    | inr f ↦ f
  ]

  pub found : (g : ℕ) → (at : IsIn p i g) → find (has_place i) p.functions ≡ Some at.fn
  found g at = find_here (has_place i) p.functions g at.fn at.is (has_it i at.fn at.low at.high) (not_before g at)

  pub named : (g : ℕ) → (at : IsIn p i g) → function_text p i ≡ at.fn.name
  unfolding function_text
  named g at = ap name_of (found g at)

  none_beyond : length p.instrs ≤ i → (k : ℕ) (y : Function) → slice_get p.functions k ≡ Some y → has_place i y ≡ false
  none_beyond past k y is = elim (cases_Bool (has_place i y)) [
    | inl t ↦ let b = it_has i y t in let r = wf.ranges.inside k y is in absurd (omega (arith, b.1, r.2))
    | inr f ↦ f
  ]

  pub nameless : length p.instrs ≤ i → function_text p i ≡ []
  unfolding function_text
  nameless past = ap name_of (find_none (has_place i) p.functions (none_beyond past))

no_wrapper : (i : ℕ) (fns : List Function) → ((k : ℕ) (y : Function) → slice_get fns k ≡ Some y → has_place i y ≡ false) → in_wrapper i fns ≡ false
no_wrapper i [] fails = refl
no_wrapper i (y ∷ ys) fails =
    let t : has_place i y ≡ false = fails zero y refl in
    let rest : in_wrapper i ys ≡ false = no_wrapper i ys (λ k z h. fails (suc k) z h) in
    grind (arith, common_steps)

-- where one function alone has the place, a wrapper has it where this one is a wrapper
wrapper_at : (i : ℕ) (fns : List Function) (g : ℕ) (fn : Function) → slice_get fns g ≡ Some fn → has_place i fn ≡ true
    → ((k : ℕ) (y : Function) → (k ≡ g → ⊥) → slice_get fns k ≡ Some y → has_place i y ≡ false) → in_wrapper i fns ≡ is_wrapper fn.role
wrapper_at i [] g fn is passes fails = absurd cc
wrapper_at i (y ∷ ys) zero fn is passes fails =
    let e : y ≡ fn = cc in
    let t : has_place i y ≡ true = ap (has_place i) e ∙ passes in
    let rest : in_wrapper i ys ≡ false = no_wrapper i ys (λ k z h. fails (suc k) z (λ w. absurd (omega arith)) h) in
    subst (λ (z : Function). in_wrapper i (y ∷ ys) ≡ is_wrapper z.role) e (grind (arith, common_steps))
wrapper_at i (y ∷ ys) (suc g) fn is passes fails =
    let t : has_place i y ≡ false = fails zero y (λ w. absurd (omega arith)) refl in
    let rest : in_wrapper i ys ≡ is_wrapper fn.role = wrapper_at i ys g fn is passes (λ k z w h. fails (suc k) z (λ e. w (omega arith)) h) in
    grind (arith, common_steps)

module _ (p : Code) (wf : WellFormed p) (i : ℕ) where
  only : (g : ℕ) → IsIn p i g → (k : ℕ) (y : Function) → (k ≡ g → ⊥) → slice_get p.functions k ≡ Some y → has_place i y ≡ false
  only g at k y other is = elim (cases_Bool (has_place i y)) [
    | inl t ↦ let b = it_has i y t in absurd (other (one_function p wf.ranges i k g (record { fn = y; is = is; low = b.0; high = b.1 }) at))
    | inr f ↦ f
  ]

  pub wrapped : (g : ℕ) → (at : IsIn p i g) → in_wrapper i p.functions ≡ is_wrapper at.fn.role
  wrapped g at = wrapper_at i p.functions g at.fn at.is (has_it i at.fn at.low at.high) (only g at)

not_lt : (a b : ℕ) → b ≤ a → nat_lt a b ≡ false
not_lt a b h = grind (arith, common_steps)

is_lt : (a b : ℕ) → a < b → nat_lt a b ≡ true
is_lt a b h = grind (arith, common_steps)

past_none : {X : Type 0} (xs : List X) (n : ℕ) → slice_get xs n ≡ None → length xs ≤ n
past_none xs n none = elim (cases_lt n (length xs)) [ inl l ↦ (let a = get_at xs n l in let e : Some a.0 ≡ None = sym a.1 ∙ none in absurd cc) | inr l ↦ l ]

-- each package variable has a site
variables_few : (p : Code) → WellFormed p → length p.globals ≤ length p.sites
variables_few p wf = elim (cases_lt (length p.sites) (length p.globals)) [
  | inl l ↦ let s = wf.global_sites.is (length p.sites) l in let w = get_within p.sites (length p.sites) s.0 s.1 in absurd (omega arith)
  | inr l ↦ l
]

-- where a place stands, and that others stand nowhere
pub placed : (p : Code) (i : ℕ) (x : Instr) → slice_get p.instrs i ≡ Some x → place_text p i ≡ position_text p.files x.at
unfolding place_text
placed p i x is = ap (position_of p.files) is

pub nowhere : (p : Code) (i : ℕ) → length p.instrs ≤ i → place_text p i ≡ []
unfolding place_text
nowhere p i past = ap (position_of p.files) (slice_get_past p.instrs i past)

-- where the objects of a site are made
pub site_none : (p : Code) (wf : WellFormed p) (s : ℕ) → length p.sites ≤ s → site_text p s ≡ []
unfolding site_text
site_none p wf s past =
    let few : length p.globals ≤ length p.sites = variables_few p wf in
    let t : nat_lt s (length p.globals) ≡ false = not_lt s (length p.globals) (omega arith) in
    rw t (ap (made_at p) (slice_get_past p.sites s past))

pub site_variable : (p : Code) (s : ℕ) (x : Ident × Pos × ℕ) → slice_get p.globals s ≡ Some x → site_text p s ≡ variable_text p.files x
unfolding site_text
site_variable p s x is =
    let l = get_within p.globals s x is in
    let t : nat_lt s (length p.globals) ≡ true = is_lt s (length p.globals) l in
    rw t (ap (variable_of p.files) is)

pub site_made : (p : Code) (s : ℕ) (x : Site) → slice_get p.globals s ≡ None → slice_get p.sites s ≡ Some x → site_text p s ≡ inside_text p x.place
unfolding site_text
site_made p s x none is =
    let t : nat_lt s (length p.globals) ≡ false = not_lt s (length p.globals) (past_none p.globals s none) in
    rw t (ap (made_at p) is)
