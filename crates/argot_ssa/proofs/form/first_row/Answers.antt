use Rattle.std.proofs.Common.{◌≡◌, ℕ, ◌+◌, ◌-◌, ◌/◌, ◌<◌, ◌≤◌, List, length, true, false, Some, slice_get, slice_index_or, sym, subst, ◌∙◌, inl, inr, arith}
use Rattle.std.proofs.lemmas.Bool.{cases_eq}
use Rattle.std.proofs.lemmas.Option.{slice_get-get_or}
use Rattle.argot_ssa.specs.Paths.{Row}
use Rattle.argot_ssa.specs.Form.{AreInOrder, stands_before}
use Rattle.argot_ssa.proofs.Searching.{run_from, earlier, sinks, lifts}
use Rattle.argot_ssa.proofs.form.first_row.Goals as goal

abbrev middle : List Row → ℕ → Row
middle rows m = slice_index_or rows m (0, 0, 0)

some_of : (x y : Row) → Some x ≡ Some y → x ≡ y
some_of x y e = cc

-- up to the row in the middle all stand before, if that one does
up_to : (rows : List Row) → AreInOrder rows → (i r m : ℕ) → m < length rows → stands_before (middle rows m) i r ≡ true → (j : ℕ) (x : Row) → j < m + 1 → slice_get rows j ≡ Some x → stands_before x i r ≡ true
up_to rows order i r m low h j x less e = elim (cases_eq j m) [
  | inl same ↦ subst (λ y. stands_before y i r ≡ true) (some_of _ _ (sym (slice_get-get_or rows m (0, 0, 0) low) ∙ subst (λ k. slice_get rows k ≡ Some x) same e)) h
  | inr other ↦ sinks x (middle rows m) i r (earlier rows order j m x (middle rows m) (omega arith) e (slice_get-get_or rows m (0, 0, 0) low)) h
]

-- from the row in the middle on none does, if that one doesn't
from_on : (rows : List Row) → AreInOrder rows → (i r m : ℕ) → m < length rows → stands_before (middle rows m) i r ≡ false → (j : ℕ) (x : Row) → m ≤ j → slice_get rows j ≡ Some x → stands_before x i r ≡ false
from_on rows order i r m low h j x more e = elim (cases_eq j m) [
  | inl same ↦ subst (λ y. stands_before y i r ≡ false) (some_of _ _ (sym (slice_get-get_or rows m (0, 0, 0) low) ∙ subst (λ k. slice_get rows k ≡ Some x) same e)) h
  | inr other ↦ lifts (middle rows m) x i r (earlier rows order m j (middle rows m) x (omega arith) (slice_get-get_or rows m (0, 0, 0) low) e) h
]

pub loop-low-preserved-then-is_before : goal.loop-low-preserved-then-is_before
loop-low-preserved-then-is_before c =
    let i = c.loop-low.invariant in
    let test = c.loop-low-test.true in
    record {
      low = omega arith;
      high = i.high;
      below = up_to c.args.rows.now c.requires c.args.place c.args.register (c.loop-low.low + (c.loop-low.high - c.loop-low.low) / 2) (omega arith) (sym c.is_before.ensures ∙ c.if-is_before.true);
      above = i.above;
    }

pub loop-low-preserved : goal.loop-low-preserved
loop-low-preserved c =
    let i = c.loop-low.invariant in
    let test = c.loop-low-test.true in
    record {
      low = omega arith;
      high = omega arith;
      below = i.below;
      above = from_on c.args.rows.now c.requires c.args.place c.args.register (c.loop-low.low + (c.loop-low.high - c.loop-low.low) / 2) (omega arith) (sym c.is_before.ensures ∙ c.if-is_before.false);
    }

pub returns : goal.returns
returns c =
    let i = c.loop-low.invariant in
    let all = c.loop-low-test.false in
    run_from c.args.rows.now c.args.place c.args.register c.loop-low.low c.requires i.below (λ j x low e. i.above j x (omega arith) e)
