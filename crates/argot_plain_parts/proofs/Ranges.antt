-- What the tests of functions say: their places lie one behind the other, and each place is one of one function.
use Rattle.std.proofs.Common.{◌≡◌, ℕ, zero, suc, ◌+◌, ◌<◌, ◌≤◌, true, List, [], ◌∷◌, Some, refl, ap, inl, inr, arith, subst, eqb-true, ltb-true, leb-true}
use Rattle.std.specs.Prelude.{slice_get, length, ◌==◌, ◌&&◌, nat_lt, nat_le}
use Rattle.std.proofs.lemmas.Bool.{and_parts, cases_lt}
use Rattle.argot_plain.specs.declared.functions.Function.{Function}
use Rattle.argot_plain.specs.declared.instructions.Instr.{Instr}
use Rattle.argot_plain_parts.proofs.Parted.{five}
use Rattle.argot_plain_parts.specs.Functions.{ranges_fit, function_fits, each_function_fits}

pub each_function : (fns : List Function) (instrs : List Instr) (files : ℕ) (rest : List Function) (g : ℕ) (fn : Function) → each_function_fits fns instrs files rest ≡ true → slice_get rest g ≡ Some fn → function_fits fns instrs files fn ≡ true
each_function fns instrs files [] g fn h e = absurd cc
each_function fns instrs files (x ∷ rest) zero fn h e = subst (λ f. function_fits fns instrs files f ≡ true) (let s : x ≡ fn = cc in s) (and_parts (function_fits fns instrs files x) (each_function_fits fns instrs files rest) h).0
each_function fns instrs files (x ∷ rest) (suc g) fn h e = each_function fns instrs files rest g fn (and_parts (function_fits fns instrs files x) (each_function_fits fns instrs files rest) h).1 e

record Ranged (next count : ℕ) (fn : Function) (fns : List Function) : Type 0 where
  at : fn.entry ≡ next
  exit : fn.entry ≤ fn.exit
  leave : fn.exit ≤ fn.leave
  low : fn.leave < count
  rest : ranges_fit (fn.leave + 1) count fns ≡ true

ranged : (next count : ℕ) (fn : Function) (fns : List Function) → ranges_fit next count (fn ∷ fns) ≡ true → Ranged next count fn fns
ranged next count fn fns h =
    let a = and_parts (fn.entry == next) (nat_le fn.entry fn.exit && (nat_le fn.exit fn.leave && (nat_lt fn.leave count && ranges_fit (fn.leave + 1) count fns))) (five (fn.entry == next) (nat_le fn.entry fn.exit) (nat_le fn.exit fn.leave) (nat_lt fn.leave count) (ranges_fit (fn.leave + 1) count fns) h) in
    let b = and_parts (nat_le fn.entry fn.exit) (nat_le fn.exit fn.leave && (nat_lt fn.leave count && ranges_fit (fn.leave + 1) count fns)) a.1 in
    let c = and_parts (nat_le fn.exit fn.leave) (nat_lt fn.leave count && ranges_fit (fn.leave + 1) count fns) b.1 in
    let d = and_parts (nat_lt fn.leave count) (ranges_fit (fn.leave + 1) count fns) c.1 in
    record { at = eqb-true fn.entry next a.0; exit = leb-true fn.entry fn.exit b.0; leave = leb-true fn.exit fn.leave c.0; low = ltb-true fn.leave count d.0; rest = d.1 }

pub record Inside (next count : ℕ) (fn : Function) : Type 0 where
  pub from : next ≤ fn.entry
  pub exit : fn.entry ≤ fn.exit
  pub leave : fn.exit ≤ fn.leave
  pub low : fn.leave < count

pub inside : (next count : ℕ) (fns : List Function) (g : ℕ) (fn : Function) → ranges_fit next count fns ≡ true → slice_get fns g ≡ Some fn → Inside next count fn
inside next count [] g fn h e = absurd cc
inside next count (x ∷ fns) zero fn h e =
    let r = ranged next count x fns h in
    let at = r.at in
    subst (Inside next count) (let s : x ≡ fn = cc in s) (record { from = omega arith; exit = r.exit; leave = r.leave; low = r.low })
inside next count (x ∷ fns) (suc g) fn h e =
    let r = ranged next count x fns h in
    let at = r.at in
    let exit = r.exit in
    let leave = r.leave in
    let i = inside (x.leave + 1) count fns g fn r.rest e in
    let from = i.from in
    record { from = omega arith; exit = i.exit; leave = i.leave; low = i.low }

pub first_at : (next count : ℕ) (fns : List Function) (fn : Function) → ranges_fit next count fns ≡ true → slice_get fns 0 ≡ Some fn → fn.entry ≡ next
first_at next count [] fn h e = absurd cc
first_at next count (x ∷ fns) fn h e = subst (λ (f : Function). f.entry ≡ next) (let s : x ≡ fn = cc in s) (ranged next count x fns h).at

pub next_at : (next count : ℕ) (fns : List Function) (g : ℕ) (fn after : Function) → ranges_fit next count fns ≡ true → slice_get fns g ≡ Some fn → slice_get fns (suc g) ≡ Some after → after.entry ≡ fn.leave + 1
next_at next count [] g fn after h e f = absurd cc
next_at next count (x ∷ fns) zero fn after h e f = subst (λ (y : Function). after.entry ≡ y.leave + 1) (let s : x ≡ fn = cc in s) (first_at (x.leave + 1) count fns after (ranged next count x fns h).rest f)
next_at next count (x ∷ fns) (suc g) fn after h e f = next_at (x.leave + 1) count fns g fn after (ranged next count x fns h).rest e f

pub last_at : (next count : ℕ) (fns : List Function) (g : ℕ) (fn : Function) → ranges_fit next count fns ≡ true → slice_get fns g ≡ Some fn → g + 1 ≡ length fns → fn.leave + 1 ≡ count
last_at next count [] g fn h e f = absurd cc
last_at next count (x ∷ []) zero fn h e f = subst (λ (y : Function). y.leave + 1 ≡ count) (let s : x ≡ fn = cc in s) (eqb-true (x.leave + 1) count (ranged next count x [] h).rest)
last_at next count (x ∷ y ∷ fns) zero fn h e f = absurd (omega arith)
last_at next count (x ∷ fns) (suc g) fn h e f = last_at (x.leave + 1) count fns g fn (ranged next count x fns h).rest e (omega arith)

pub record Owned (fns : List Function) (i : ℕ) : Type 0 where
  pub number : ℕ
  pub fn : Function
  pub is : slice_get fns number ≡ Some fn
  pub low : fn.entry ≤ i
  pub high : i ≤ fn.leave

pub owned : (next count : ℕ) (fns : List Function) (i : ℕ) → ranges_fit next count fns ≡ true → next ≤ i → i < count → Owned fns i
owned next count [] i h low high = absurd (let e = eqb-true next count h in omega arith)
owned next count (x ∷ fns) i h low high =
    let r = ranged next count x fns h in
    let at = r.at in
    elim (cases_lt i (x.leave + 1)) [
      | inl up ↦ record { number = 0; fn = x; is = refl; low = omega arith; high = omega arith }
      | inr over ↦ let o = owned (x.leave + 1) count fns i r.rest over high in record { number = suc o.number; fn = o.fn; is = o.is; low = o.low; high = o.high }
    ]

pub one_owner : (next count : ℕ) (fns : List Function) (g k : ℕ) (a b : Function) (i : ℕ) → ranges_fit next count fns ≡ true → slice_get fns g ≡ Some a → slice_get fns k ≡ Some b → a.entry ≤ i → i ≤ a.leave → b.entry ≤ i → i ≤ b.leave → g ≡ k
one_owner next count [] g k a b i h e f al ah bl bh = absurd cc
one_owner next count (x ∷ fns) zero zero a b i h e f al ah bl bh = refl
one_owner next count (x ∷ fns) zero (suc k) a b i h e f al ah bl bh =
    let r = ranged next count x fns h in
    let from = (inside (x.leave + 1) count fns k b r.rest f).from in
    let same : x.leave ≡ a.leave = ap (λ (y : Function). y.leave) (let s : x ≡ a = cc in s) in
    absurd (omega arith)
one_owner next count (x ∷ fns) (suc g) zero a b i h e f al ah bl bh =
    let r = ranged next count x fns h in
    let from = (inside (x.leave + 1) count fns g a r.rest e).from in
    let same : x.leave ≡ b.leave = ap (λ (y : Function). y.leave) (let s : x ≡ b = cc in s) in
    absurd (omega arith)
one_owner next count (x ∷ fns) (suc g) (suc k) a b i h e f al ah bl bh = ap suc (one_owner (x.leave + 1) count fns g k a b i (ranged next count x fns h).rest e f al ah bl bh)
