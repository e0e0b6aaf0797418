-- The look-up finds exactly what follows.
use Rattle.std.proofs.Common.{◌≡◌, ◌==◌, ◌&&◌, ◌||◌, ℕ, ◌<◌, Bool, true, false, nat_lt, Some, List, length, refl, sym, ap, ◌∙◌, inl, inr, arith, subst}
use Rattle.std.specs.Prelude.{◌⊎◌, ◌↔◌, slice_get}
use Rattle.std.proofs.lemmas.Bool.{eqb-true, ltb-true, eq-eqb, lt-ltb}
use Rattle.argot_links.specs.Table.{Table, has}
use Rattle.argot_plain.specs.Code.{Code, IsFunction, IsIn, Successor}
use Rattle.argot_plain.specs.Lists.{In}
use Rattle.argot_plain.specs.WellFormed.{WellFormed}
use Rattle.argot_plain.specs.declared.functions.Function.{Function}
use Rattle.argot_plain.specs.declared.instructions.Kind.TheVariants.{Call}
use Rattle.argot_facts.specs.Follows.{DirectlyFollowsBy, goes, calls, exits, returns, unwinds, returns_to_exit, runs}
use Rattle.argot_facts.specs.Refers.{Fact}
use Rattle.argot_facts.proofs.Listed.{get_at, in_of_get}
use Rattle.argot_facts.proofs.Placed.{place_in}
use Rattle.argot_control.specs.Between.{IsStep, AreInside}
use Rattle.argot_control.specs.Blocks.{AreBlocks}
use Rattle.argot_control.specs.Controlled.{behind, IsExactly}
use Rattle.argot_control.specs.Numbering.{block_in}
use Rattle.argot_control.specs.Steps.{AreBetween, AreBelow, IsLed}
use Rattle.argot_control.proofs.Behind.{follows_are}
use Rattle.argot_control.proofs.Between.{led_as_rows}
use Rattle.argot_control.proofs.Cutting.{at_within, block_there}

module _ (p : Code) (F : Fact → Type 0) (wf : WellFormed p) where
  in_within : (i h : ℕ) → IsIn p i h → i < length p.instrs
  in_within i h inside = let r = wf.ranges.inside h inside.fn inside.is in let a = r.2 in let b = inside.high in omega arith

  entry_within : (h : ℕ) (fn : Function) → IsFunction p h fn → fn.entry < length p.instrs
  entry_within h fn is = let r = wf.ranges.inside h fn is in let a = r.0 in let b = r.1 in let c = r.2 in omega arith

  exit_within : (h : ℕ) (fn : Function) → IsFunction p h fn → fn.exit < length p.instrs
  exit_within h fn is = let r = wf.ranges.inside h fn is in let b = r.1 in let c = r.2 in omega arith

  leave_within : (h : ℕ) (fn : Function) → IsFunction p h fn → fn.leave < length p.instrs
  leave_within h fn is = (wf.ranges.inside h fn is).2

  next_within : (i j : ℕ) → i < length p.instrs → Successor p i j → j < length p.instrs
  next_within i j l s =
      let h = place_in p wf.ranges wf.entry_function.fn wf.entry_function.is i l in
      in_within j h.0 (wf.stays i j h.0 s h.1)

  -- control goes between places of the program
  pub follows_within : (a b : ℕ) → DirectlyFollowsBy p F a b → (a < length p.instrs) × (b < length p.instrs)
  follows_within a b (goes l s) = let w = in_within a l.function l.is_in in (w, next_within a b w s)
  follows_within a _ (calls target to args callee takes fn at f is) = (at_within p a (Call to callee args) at, entry_within target fn is)
  follows_within a _ (exits h fn l inside is body) = (in_within a h inside, exit_within h fn is)
  follows_within _ b (returns i target to args callee takes fn is body at f s) = (leave_within target fn is, next_within i b (at_within p i (Call to callee args) at) s)
  follows_within _ _ (unwinds i h target own fn u is body is_own) = (exit_within target fn is, exit_within h own is_own)
  follows_within _ _ (returns_to_exit i h target own fn u is body is_own) = (leave_within target fn is, exit_within h own is_own)
  follows_within _ _ (runs i h target args callee takes own fn inside at f is_own is) = (exit_within h own is_own, entry_within target fn is)

-- the number of a place stands in the list
block_in_list : (numbers : List ℕ) (i : ℕ) → i < length numbers → In (block_in numbers i) numbers
block_in_list numbers i l = let n = get_at numbers i l in subst (λ z. In z numbers) (sym (block_there numbers i n.0 n.1)) (in_of_get numbers i n.0 n.1)

-- steps of places with numbers below a count are below it
pub steps_below : (count : ℕ) (numbers : List ℕ) (pairs steps : List (ℕ × ℕ)) → ((b : ℕ) → In b numbers → b < count) → AreInside (length numbers) pairs
    → ((x y : ℕ) → In {A = ℕ × ℕ} (x, y) steps ↔ IsStep (block_in numbers) pairs x y) → AreBelow count steps
steps_below count numbers pairs steps low inside exact x y m =
    let s = (exact x y).0 m in
    let i = inside s.0 s.1 s.2 in
    let v = low (block_in numbers s.0) (block_in_list numbers s.0 i.0) in
    let w = low (block_in numbers s.1) (block_in_list numbers s.1 i.1) in
    let e = s.3.from in
    let f = s.3.to in
    (omega (arith, v, e), omega (arith, w, f))

-- the steps of all pairs are those between blocks
steps_between : (p : Code) (F : Fact → Type 0) (block : ℕ → ℕ) (pairs steps : List (ℕ × ℕ)) → ((a b : ℕ) → In {A = ℕ × ℕ} (a, b) pairs ↔ DirectlyFollowsBy p F a b)
    → ((x y : ℕ) → In {A = ℕ × ℕ} (x, y) steps ↔ IsStep block pairs x y) → AreBetween p F block steps
steps_between p F block pairs steps are exact x y = (
  (λ m. let s = (exact x y).0 m in record { from = s.0; to = s.1; goes = (are s.0 s.1).0 s.2; is_from = sym s.3.from; is_to = sym s.3.to; head = s.3.head }),
  λ l. (exact x y).1 (l.from, l.to, (are l.from l.to).1 l.goes, record { from = sym l.is_from; to = sym l.is_to; head = l.head }),
)

either : (x y z : Bool) → (x && y) || z ≡ true → ((x ≡ true) × (y ≡ true)) ⊎ (z ≡ true)
either true true z e = inl (refl, refl)
either true false z e = inr e
either false y z e = inr e

first_of : (x y z : Bool) → x ≡ true → y ≡ true → (x && y) || z ≡ true
first_of true true z e f = refl
first_of true false z e f = absurd cc
first_of false y z e f = absurd cc

second_of : (x y z : Bool) → z ≡ true → (x && y) || z ≡ true
second_of true true z e = refl
second_of true false z e = e
second_of false y z e = e

-- so the look-up is exact
pub looks_up : (p : Code) (F : Fact → Type 0) (numbers : List ℕ) (t : Table) (pairs steps : List (ℕ × ℕ)) → AreBlocks p F (block_in numbers)
    → ((a b : ℕ) → In {A = ℕ × ℕ} (a, b) pairs ↔ DirectlyFollowsBy p F a b)
    → ((x y : ℕ) → In {A = ℕ × ℕ} (x, y) steps ↔ IsStep (block_in numbers) pairs x y)
    → ((x y : ℕ) → (has t x y ≡ true) ↔ IsLed steps x y) → IsExactly p F numbers t
looks_up p F numbers t pairs steps blocks are exact rows a b l m =
    let block = block_in numbers in
    let same = block a == block b in
    let led = led_as_rows p F block steps (steps_between p F block pairs steps are exact) (block a) (block b) in
    let row = rows (block a) (block b) in
    let all = follows_are p F block blocks a b in (
      (λ e. elim (either same (nat_lt a b) (has t (block a) (block b)) e) [
        | inl s ↦ all.1 (inl (eqb-true (block a) (block b) s.0, ltb-true a b s.1))
        | inr s ↦ all.1 (inr (led.0 (row.0 s)))
      ]),
      λ f. elim (all.0 f) [
        | inl s ↦ first_of same (nat_lt a b) (has t (block a) (block b)) (eq-eqb (block a) (block b) s.0) (lt-ltb a b s.1)
        | inr s ↦ second_of same (nat_lt a b) (has t (block a) (block b)) (row.1 (led.1 s))
      ],
    )

-- the look-up by the numbers of both places
pub behind_at : (numbers : List ℕ) (t : Table) (a b x y : ℕ) → slice_get numbers a ≡ Some x → slice_get numbers b ≡ Some y → behind numbers t a b ≡ (((x == y) && nat_lt a b) || has t x y)
behind_at numbers t a b x y h k =
    ap (λ (m : ℕ). ((m == block_in numbers b) && nat_lt a b) || has t m (block_in numbers b)) (block_there numbers a x h)
    ∙ ap (λ (n : ℕ). ((x == n) && nat_lt a b) || has t x n) (block_there numbers b y k)

pub inside_of : (p : Code) (F : Fact → Type 0) (wf : WellFormed p) (numbers : List ℕ) (pairs : List (ℕ × ℕ)) → length numbers ≡ length p.instrs → ((a b : ℕ) → In {A = ℕ × ℕ} (a, b) pairs ↔ DirectlyFollowsBy p F a b) → AreInside (length numbers) pairs
inside_of p F wf numbers pairs count are a b m = let w = follows_within p F wf a b ((are a b).0 m) in let u = w.0 in let v = w.1 in (omega arith, omega arith)
