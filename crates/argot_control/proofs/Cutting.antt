-- Flags of places, and numbers of blocks by such flags.
use Rattle.std.proofs.Common.{◌≡◌, ℕ, zero, suc, ◌+◌, ◌<◌, ◌≤◌, Bool, List, [], ◌∷◌, ◌++◌, Option, Some, None, length, refl, sym, ap, ◌∙◌, inl, inr, arith, subst}
use Rattle.std.specs.Prelude.{◌⊎◌, slice_get}
use Rattle.std.proofs.lemmas.Bool.{cases_lt}
use Rattle.argot_plain.specs.Code.{Code, IsAt, IsIn, kind_of}
use Rattle.argot_plain.specs.Lists.{In}
use Rattle.argot_plain.specs.WellFormed.{WellFormed}
use Rattle.argot_plain.specs.declared.instructions.Instr.{Instr}
use Rattle.argot_plain.specs.declared.instructions.Kind.{Kind}
use Rattle.argot_plain.specs.declared.instructions.Kind.TheVariants.{Goto, Branch}
use Rattle.argot_facts.proofs.Listed.{number_of, get_at, get_within}
use Rattle.argot_facts.specs.Marked.{IsSet}
use Rattle.argot_facts.specs.Refers.{Fact, IsLive}
use Rattle.argot_control.specs.Blocks.{AreBlocks, IsStraightOn}
use Rattle.argot_control.specs.Numbering.{Marks, Chooses, GoesOnWithin, AreEntered, AreNumbered, AreNumberedSoFar, number_or, block_in}
use Rattle.argot_control.proofs.Straight.{inner}

-- nothing is left to mark
pub marks_none : (A : ℕ → Type 0) (a : List Bool) → ((m : ℕ) → A m → m < length a → IsSet a m) → Marks A a a
marks_none A a all = record { count = refl; kept = λ m s. s; there = all }

-- first what has the one property, then what has the other
pub marks_both : (V W U : ℕ → Type 0) (a b c : List Bool) → ((m : ℕ) → U m → V m ⊎ W m) → Marks V a b → Marks W b c → Marks U a c
marks_both V W U a b c split v w = let z = v.count in record {
  count = w.count ∙ v.count;
  kept = λ m s. w.kept m (v.kept m s);
  there = λ m u l. elim (split m u) [ inl x ↦ w.kept m (v.there m x l) | inr x ↦ w.there m x (omega arith) ];
}

-- the property may be said otherwise
pub marks_as : (W U : ℕ → Type 0) (a b : List Bool) → ((m : ℕ) → U m → W m) → Marks W a b → Marks U a b
marks_as W U a b from w = record { count = w.count; kept = w.kept; there = λ m u. w.there m (from m u) }

pub chooses_none : (A : ℕ → Type 0) (a : List Bool) → Chooses A a a
chooses_none A a = record { count = refl; only = λ m s. inl s }

pub chooses_more : (A B : ℕ → Type 0) (a b c : List Bool) → ((m : ℕ) → B m → A m) → Chooses A a b → Chooses B b c → Chooses A a c
chooses_more A B a b c to v w = record {
  count = w.count ∙ v.count;
  only = λ m s. elim (w.only m s) [ inl t ↦ v.only m t | inr x ↦ inr (to m x) ];
}

-- in a live function an instruction that goes on to a place without a flag goes straight on
pub straight_on : (p : Code) (F : Fact → Type 0) (flags : List Bool) (h i : ℕ) → AreEntered p flags → F (IsLive h) → IsIn p i h → GoesOnWithin p flags i → IsStraightOn p F i
straight_on p F flags h i entered live inside on = record {
  kind = on.kind;
  at = on.at;
  straight = on.straight;
  live = record { function = h; is_in = inside; is_live = live };
  no_exit = λ g fn is e. on.apart (entered.exits (i + 1) (g, fn, is, e) on.within);
  no_goto = λ k target at e. on.apart (entered.targets (i + 1) (k, Goto target, at, sym e) on.within);
  no_branch = λ k target targets at m e. on.apart (entered.targets (i + 1) (k, Branch targets, at, subst (λ z. In z targets) e m) on.within);
}

-- what stands in a list with one more item behind it
get_more : (xs : List ℕ) (x i a : ℕ) → slice_get (xs ++ x ∷ []) i ≡ Some a → (slice_get xs i ≡ Some a) ⊎ ((i ≡ length xs) × (a ≡ x))
get_more [] x zero a h = let e : Some x ≡ Some a = h in let f : a ≡ x = cc in inr (refl, f)
get_more [] x (suc i) a h = absurd cc
get_more (y ∷ xs) x zero a h = inl h
get_more (y ∷ xs) x (suc i) a h = elim (get_more xs x i a h) [ inl g ↦ inl g | inr e ↦ let f = e.0 in inr (omega (arith, f), e.1) ]

pub length_more : (xs : List ℕ) (x : ℕ) → length (xs ++ x ∷ []) ≡ length xs + 1
length_more [] x = refl
length_more (y ∷ xs) x = let h = length_more xs x in omega (arith, h)

pub numbered_none : (flags : List Bool) → AreNumberedSoFar flags [] 0
numbered_none flags = record {
  most = omega arith;
  low = λ i a h. absurd cc;
  rising = λ i a b h. absurd cc;
  same = λ i a h. absurd cc;
  last = λ i a e h. absurd cc;
}

-- one number more
pub numbered_more : (flags : List Bool) (numbers : List ℕ) (number next : ℕ) → AreNumberedSoFar flags numbers number → number ≤ next → next ≤ number + 1
    → (next ≡ number → IsSet flags (length numbers)) → AreNumberedSoFar flags (numbers ++ number ∷ []) next
numbered_more flags numbers number next was up one stays = record {
  most = (let m = was.most in let l = length_more numbers number in omega arith);
  low = λ i a h. elim (get_more numbers number i a h) [ inl g ↦ was.low i a g | inr e ↦ let m = was.most in let f = e.0 in let g = e.1 in omega arith ];
  rising = λ i a b h k. elim (get_more numbers number (i + 1) b k) [
    | inl g ↦ elim (get_more numbers number i a h) [ inl f ↦ was.rising i a b f g | inr e ↦ let l = get_within numbers (i + 1) b g in let f = e.0 in absurd (omega arith) ]
    | inr e ↦ elim (get_more numbers number i a h) [ inl f ↦ let w = (was.last i a e.0 f).0 in let z = e.1 in omega arith | inr f ↦ let y = e.0 in let z = f.0 in absurd (omega arith) ]
  ];
  same = λ i a h k. elim (get_more numbers number (i + 1) a k) [
    | inl g ↦ elim (get_more numbers number i a h) [ inl f ↦ was.same i a f g | inr e ↦ let l = get_within numbers (i + 1) a g in let f = e.0 in absurd (omega arith) ]
    | inr e ↦ elim (get_more numbers number i a h) [ inl f ↦ (was.last i a e.0 f).1 (sym e.1) | inr f ↦ let y = e.0 in let z = f.0 in absurd (omega arith) ]
  ];
  last = λ i a e h. (let l = length_more numbers number in elim (get_more numbers number i a h) [
    | inl g ↦ let w = get_within numbers i a g in absurd (omega arith)
    | inr f ↦ let z = f.1 in let y = f.0 in (omega arith, λ s. subst (IsSet flags) (sym y) (stays (omega arith)))
  ]);
}

pub numbered_all : (flags : List Bool) (numbers : List ℕ) (number : ℕ) → length numbers ≡ length flags → AreNumberedSoFar flags numbers number → AreNumbered flags numbers
numbered_all flags numbers number count is = record { count = count; low = is.low; rising = is.rising; same = is.same }

-- a place behind the list has a number of its own
none_behind : (xs : List ℕ) (i : ℕ) → length xs ≤ i → slice_get xs i ≡ None
none_behind [] i h = refl
none_behind (x ∷ xs) zero h = absurd (omega arith)
none_behind (x ∷ xs) (suc i) h = none_behind xs i (omega arith)

pub block_there : (numbers : List ℕ) (i a : ℕ) → slice_get numbers i ≡ Some a → block_in numbers i ≡ a
block_there numbers i a h = ap (λ o. number_or o (length numbers + i)) h

block_behind : (numbers : List ℕ) (i : ℕ) → length numbers ≤ i → block_in numbers i ≡ length numbers + i
block_behind numbers i l = ap (λ o. number_or o (length numbers + i)) (none_behind numbers i l)

module _ (flags : List Bool) (numbers : List ℕ) (are : AreNumbered flags numbers) where
  rising : (i : ℕ) → block_in numbers i ≤ block_in numbers (i + 1)
  rising i = elim (cases_lt (i + 1) (length numbers)) [
    | inl l ↦
        let a = get_at numbers i (omega arith) in
        let b = get_at numbers (i + 1) l in
        let x = block_there numbers i a.0 a.1 in
        let y = block_there numbers (i + 1) b.0 b.1 in
        let r = are.rising i a.0 b.0 a.1 b.1 in
        omega arith
    | inr l ↦
        let y = block_behind numbers (i + 1) (omega arith) in
        elim (cases_lt i (length numbers)) [
          | inl k ↦ let a = get_at numbers i k in let x = block_there numbers i a.0 a.1 in let r = are.low i a.0 a.1 in omega arith
          | inr k ↦ let x = block_behind numbers i (omega arith) in omega arith
        ]
  ]

  same : (i : ℕ) → block_in numbers (i + 1) ≡ block_in numbers i → IsSet flags i
  same i e = elim (cases_lt (i + 1) (length numbers)) [
    | inl l ↦
        let a = get_at numbers i (omega arith) in
        let b = get_at numbers (i + 1) l in
        let x = block_there numbers i a.0 a.1 in
        let y = block_there numbers (i + 1) b.0 b.1 in
        let z : b.0 ≡ a.0 = omega arith in
        are.same i a.0 a.1 (subst (λ n. slice_get numbers (i + 1) ≡ Some n) z b.1)
    | inr l ↦
        let y = block_behind numbers (i + 1) (omega arith) in
        elim (cases_lt i (length numbers)) [
          | inl k ↦ let a = get_at numbers i k in let x = block_there numbers i a.0 a.1 in let r = are.low i a.0 a.1 in absurd (omega arith)
          | inr k ↦ let x = block_behind numbers i (omega arith) in absurd (omega arith)
        ]
  ]

  pub blocks : (p : Code) (F : Fact → Type 0) → WellFormed p → ((m : ℕ) → IsSet flags m → IsStraightOn p F m) → AreBlocks p F (block_in numbers)
  blocks p F wf straight = record { rising = rising; inner = λ i e. inner p F i wf (straight i (same i e)) }

  pub numbers_low : (b : ℕ) → In b numbers → b < length flags
  numbers_low b m =
      let n = number_of b numbers m in
      let l = get_within numbers n.0 b n.1 in
      let w = are.low n.0 b n.1 in
      let c = are.count in
      omega arith

-- an instruction stands at a place that is there
pub at_within : (p : Code) (i : ℕ) (kind : Kind) → IsAt p i kind → i < length p.instrs
at_within p i kind at = by_get (slice_get p.instrs i) refl
  where
    by_get : (o : Option Instr) → slice_get p.instrs i ≡ o → i < length p.instrs
    by_get (Some x) e = get_within p.instrs i x e
    by_get None e = (let z : kind_of None ≡ Some kind = sym (ap kind_of e) ∙ at in absurd cc)
