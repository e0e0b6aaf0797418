-- What a program's functions and places have to be for the whole program to be well formed.
use Rattle.std.proofs.Common.{◌≡◌, ℕ, zero, suc, ◌+◌, ◌<◌, ◌≤◌, List, [], ◌∷◌, ◌++◌, Some, length, refl, sym, ap, ◌∙◌, subst, arith, ◌⊎◌, inl, inr}
use Rattle.std.specs.Prelude.{slice_get}
use Rattle.argot_plain.specs.declared.first.Kind as Few
use Rattle.argot_plain.specs.declared.first.Kind.TheVariants as few
use Rattle.argot_plain.specs.First as First
use Rattle.argot_plain.specs.declared.instructions.Callee.TheVariants.{Static}
use Rattle.argot_plain.specs.declared.instructions.Kind.{Kind}
use Rattle.argot_plain.specs.declared.instructions.Kind.TheVariants.{Op, Move, Call, RunDefers, Leave, Goto, Branch}
use Rattle.argot_first_sound.specs.Whole.{whole_kind, registers_of}
use Rattle.argot_first_sound.proofs.Maps.{some-same}

abbrev pub AreBelow : List ℕ → ℕ → Type 0
AreBelow rs n = (k r : ℕ) → slice_get rs k ≡ Some r → r < n

pub record CallFits (code : First.Code) (f : First.Plain) (to : List ℕ) (g : ℕ) (args : List ℕ) : Type 0 where
  pub callee : First.Plain
  pub is : First.IsFunction code g callee
  pub count : length args ≡ callee.params
  pub results : length to ≡ callee.results
  pub few_results : length to ≤ 1
  pub args_below : AreBelow args (registers_of f)
  pub to_below : AreBelow to (registers_of f)

-- an instruction of this kind may stand at the place i of the function
abbrev pub Good : First.Code → First.Plain → ℕ → Kind → Type 0
Good code f i (Op to from) = (i < f.exit) × (to < registers_of f) × (from ≡ [])
Good code f i (Move to from path) = (i < f.exit) × (to < registers_of f) × (from < registers_of f) × (path ≡ [])
Good code f i (Call to callee args) = (i < f.exit) × (g : ℕ) × (callee ≡ Static g) × CallFits code f to g args
Good code f i RunDefers = i ≡ f.exit
Good code f i (Leave from) = (i ≡ f.leave) × (length from ≡ f.results) × AreBelow from (registers_of f)
Good code f i (Goto target) = (i < f.exit) × (target ≡ i + 1)
Good code f i (Branch targets) = (i < f.exit) × (targets ≡ (i + 1) ∷ [])
Good code f i _ = ⊥

pub record Body (code : First.Code) (f : First.Plain) : Type 0 where
  pub kinds : List Few.Kind
  pub size : f.entry + length kinds ≡ f.leave + 1
  pub stands : (j : ℕ) (kind : Few.Kind) → slice_get kinds j ≡ Some kind → First.IsAt code (f.entry + j) kind
  pub each : (j : ℕ) (kind : Few.Kind) → slice_get kinds j ≡ Some kind → Good code f (f.entry + j) (whole_kind kind)
  pub low : f.entry < f.exit
  pub high : f.leave ≡ f.exit + 1
  pub first : First.IsAt code f.entry (few.Goto (f.entry + 1))
  pub defers : First.IsAt code f.exit few.RunDefers
  pub leaves : (from : List ℕ) × First.IsAt code f.leave (few.Leave from)

-- functions stand one behind the other, from b to before e
abbrev pub Chain : ℕ → List First.Plain → ℕ → Type 0
Chain b [] e = b ≡ e
Chain b (f ∷ fs) e = (f.entry ≡ b) × (f.entry ≤ f.leave) × Chain (f.leave + 1) fs e

pub record Fitting (code : First.Code) : Type 0 where
  pub bodies : (g : ℕ) (f : First.Plain) → First.IsFunction code g f → Body code f
  pub chain : Chain 0 code.functions (length code.instrs)
  pub first : First.Plain
  pub is_first : First.IsFunction code 0 first
  pub nameless : first.name ≡ []
  pub no_params : first.params ≡ 0
  pub no_results : first.results ≡ 0
  pub few_functions : length code.functions ≤ 65536
  pub few_places : length code.instrs ≤ 1048576

pub chain-least : (b e : ℕ) (fs : List First.Plain) → Chain b fs e → b ≤ e
chain-least b e [] c = omega arith
chain-least b e (f ∷ fs) c = let x = chain-least (f.leave + 1) e fs c.2 in let y = c.0 in let z = c.1 in omega arith

pub chain-within : (b e : ℕ) (fs : List First.Plain) (g : ℕ) (f : First.Plain) → Chain b fs e → slice_get fs g ≡ Some f → (b ≤ f.entry) × (f.entry ≤ f.leave) × (f.leave < e)
chain-within b e [] g f c h = absurd (cc h)
chain-within b e (x ∷ fs) zero f c h =
    let s : x ≡ f = some-same h in
    let y = chain-least (x.leave + 1) e fs c.2 in
    let low : b ≤ x.entry = (let z = c.0 in omega arith) in
    let high : x.leave < e = omega arith in
    subst (λ (z : First.Plain). (b ≤ z.entry) × (z.entry ≤ z.leave) × (z.leave < e)) s (low, c.1, high)
chain-within b e (x ∷ fs) (suc g) f c h =
    let y = chain-within (x.leave + 1) e fs g f c.2 h in
    let z = c.0 in let w = c.1 in let v = y.0 in
    (omega arith, y.1, y.2)

pub chain-first : (b e : ℕ) (fs : List First.Plain) (f : First.Plain) → Chain b fs e → slice_get fs 0 ≡ Some f → f.entry ≡ b
chain-first b e [] f c h = absurd (cc h)
chain-first b e (x ∷ fs) f c h = ap (λ (z : First.Plain). z.entry) (sym (some-same h)) ∙ c.0

pub chain-next : (b e : ℕ) (fs : List First.Plain) (g : ℕ) (f after : First.Plain) → Chain b fs e → slice_get fs g ≡ Some f → slice_get fs (suc g) ≡ Some after → after.entry ≡ f.leave + 1
chain-next b e [] g f after c h k = absurd (cc h)
chain-next b e (x ∷ fs) zero f after c h k = chain-first (x.leave + 1) e fs after c.2 k ∙ ap (λ (z : First.Plain). z.leave + 1) (some-same h)
chain-next b e (x ∷ fs) (suc g) f after c h k = chain-next (x.leave + 1) e fs g f after c.2 h k

pub chain-last : (b e : ℕ) (fs : List First.Plain) (g : ℕ) (f : First.Plain) → Chain b fs e → slice_get fs g ≡ Some f → suc g ≡ length fs → f.leave + 1 ≡ e
chain-last b e [] g f c h l = absurd (cc h)
chain-last b e (x ∷ []) zero f c h l = ap (λ (z : First.Plain). z.leave + 1) (sym (some-same h)) ∙ c.2
chain-last b e (x ∷ y ∷ fs) zero f c h l = absurd (omega arith)
chain-last b e (x ∷ fs) (suc g) f c h l = chain-last (x.leave + 1) e fs g f c.2 h (omega arith)

pub record Covers (fs : List First.Plain) (i : ℕ) : Type 0 where
  pub number : ℕ
  pub function : First.Plain
  pub is : slice_get fs number ≡ Some function
  pub inside : First.IsIn i function

compare : (i n : ℕ) → (i ≤ n) ⊎ (n + 1 ≤ i)
compare zero n = inl (omega arith)
compare (suc i) zero = inr (omega arith)
compare (suc i) (suc n) = compare-next (compare i n)
  where
    compare-next : (i ≤ n) ⊎ (n + 1 ≤ i) → (suc i ≤ suc n) ⊎ (suc n + 1 ≤ suc i)
    compare-next (inl h) = inl (omega arith)
    compare-next (inr h) = inr (omega arith)

cover-by : (i : ℕ) (x : First.Plain) (fs : List First.Plain) → x.entry ≤ i → (i ≤ x.leave) ⊎ (x.leave + 1 ≤ i) → (x.leave + 1 ≤ i → Covers fs i) → Covers (x ∷ fs) i
cover-by i x fs l (inl h) rec = record { number = 0; function = x; is = refl; inside = (l, h) }
cover-by i x fs l (inr h) rec = let c = rec h in record { number = suc c.number; function = c.function; is = c.is; inside = c.inside }

pub chain-cover : (b e : ℕ) (fs : List First.Plain) (i : ℕ) → Chain b fs e → b ≤ i → i < e → Covers fs i
chain-cover b e [] i c l h = absurd (omega arith)
chain-cover b e (x ∷ fs) i c l h = let z = c.0 in cover-by i x fs (omega arith) (compare i x.leave) (λ k. chain-cover (x.leave + 1) e fs i c.2 k h)

-- no function begins within another
pub chain-apart : (b e : ℕ) (fs : List First.Plain) (g h : ℕ) (f k : First.Plain) → Chain b fs e → slice_get fs g ≡ Some f → slice_get fs h ≡ Some k → f.entry < k.entry → k.entry ≤ f.leave → ⊥
chain-apart b e [] g h f k c p q x y = absurd (cc p)
chain-apart b e (z ∷ fs) zero zero f k c p q x y = let s = ap (λ (w : First.Plain). w.entry) (sym (some-same p) ∙ some-same q) in absurd (omega arith)
chain-apart b e (z ∷ fs) zero (suc h) f k c p q x y = let w = chain-within (z.leave + 1) e fs h k c.2 q in let s = ap (λ (w : First.Plain). w.leave) (some-same p) in let v = w.0 in absurd (omega arith)
chain-apart b e (z ∷ fs) (suc g) zero f k c p q x y = let w = chain-within (z.leave + 1) e fs g f c.2 p in let s = ap (λ (w : First.Plain). w.entry) (some-same q) in let v = w.0 in let u = c.1 in absurd (omega arith)
chain-apart b e (z ∷ fs) (suc g) (suc h) f k c p q x y = chain-apart (z.leave + 1) e fs g h f k c.2 p q x y

pub chain-append : (b m e : ℕ) (fs gs : List First.Plain) → Chain b fs m → Chain m gs e → Chain b (fs ++ gs) e
chain-append b m e [] gs c d = subst (λ z. Chain z gs e) (sym c) d
chain-append b m e (x ∷ fs) gs c d = (c.0, c.1, chain-append (x.leave + 1) m e fs gs c.2 d)
