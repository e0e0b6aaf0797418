-- The code of a program of the first form fits.
use Rattle.std.proofs.Common.{◌≡◌, ℕ, zero, suc, ◌+◌, ◌*◌, ◌<◌, ◌≤◌, List, [], ◌∷◌, ◌++◌, Option, Some, None, Bool, true, false, not, cond, length, map, take, refl, sym, ap, ◌∙◌, subst, arith, add-one, add-zero, zero-add, ◌⊎◌, inl, inr, length-append, append-nil, append_assoc}
use Rattle.std.specs.Prelude.{slice_get, codes, if◌then◌else◌}
use Rattle.std.specs.List.{position_or_len}
use Rattle.std.specs.Str.{bytes_eq}
use Rattle.std.proofs.lemmas.Bool.{false≢true, eqb-true}
use Rattle.std.proofs.lemmas.List.{length-map}
use Rattle.std.proofs.lemmas.List.Folds.{find_at}
use Rattle.argot_first_form.proofs.Pieces.{and-left, and-right}
use Rattle.argot_first_form.proofs.Files.{items-longer}
use Rattle.argot_first_form.proofs.Bounds.{few-functions, few-steps}
use Rattle.argot_first_form.specs.Tree.{Parameter, Fixed, Item, Blank, Func, Void, File, blanks_text, main_text, text_of}
use Rattle.argot_first_form.specs.Steps.{functions_of, steps_of}
use Rattle.argot_first_form.specs.Form.{IsFirstForm, StepsFit, among, declared_by, each_step, calls_known, has_parameters, named, has_result, is_nothing, operands_in}
use Rattle.argot_first_form.specs.declared.functions.Function.{Function}
use Rattle.argot_first_form.specs.declared.functions.Returned.{Returned}
use Rattle.argot_first_form.specs.declared.functions.Returned.TheVariants as returns
use Rattle.argot_first_form.specs.declared.steps.Action.{Action}
use Rattle.argot_first_form.specs.declared.steps.Action.TheVariants as actions
use Rattle.argot_first_form.specs.declared.steps.Operand.{Operand}
use Rattle.argot_first_form.specs.declared.steps.Operand.TheVariants as operands
use Rattle.argot_first_form.specs.declared.steps.Step.{Step}
use Rattle.argot_plain.specs.declared.first.Kind.{Kind}
use Rattle.argot_plain.specs.declared.first.Kind.TheVariants.{RunDefers, Leave, Goto}
use Rattle.argot_plain.specs.First.{Plain, Code, Instr, IsAt, IsFunction}
use Rattle.argot_first.specs.Code.{all_places, register, function_number, kind_of, items_functions, items_instrs, main_instrs, main_entry, main_number, main_name, entry_function, main_function, code_of}
use Rattle.argot_first.specs.Marks.{kinds_from}
use Rattle.argot_first.proofs.Lookup.{get-left, get-right, get-at, get-either}
use Rattle.argot_first.proofs.Blocks.{StandsAt, stands-left, stands-right, block_of, results_of, length-kinds_of, items_kinds, items_kinds-is, length-items_kinds, main_steps, main_kinds, main_kinds-is, all_kinds, entry_kinds, items-stand, main-stand, kind_at-is}
use Rattle.argot_first_sound.specs.Whole.{whole_kind, registers_of}
use Rattle.argot_first_sound.proofs.Maps.{some-same, only-one}
use Rattle.argot_first_sound.proofs.Operands.{OperandBelow, OperandsBelow, StepsBelow, body-below, below-at}
use Rattle.argot_first_sound.proofs.Fitting.{AreBelow, CallFits, Good, Body, Chain, Fitting, chain-append}

none-below : (n : ℕ) → AreBelow [] n
none-below n k r h = absurd (cc h)

one-below : (x n : ℕ) → x < n → AreBelow (x ∷ []) n
one-below x n l k r h = let y = (only-one x r k h).1 in omega arith

position-by : (b : Bool) (n m : ℕ) → n ≤ m → cond (not b) (1 + n) 0 ≤ suc m
position-by true n m h = omega arith
position-by false n m h = omega arith

position-least : {A : Type 0} (p : A → Bool) (xs : List A) → position_or_len p xs ≤ length xs
position-least p [] = omega arith
position-least p (x ∷ xs) = position-by (p x) (position_or_len p xs) (length xs) (position-least p xs)

-- functions stand one behind the other
chain-items : (base : ℕ) (xs : List Item) (b e : ℕ) → b ≡ base → e ≡ base + all_places xs → Chain b (items_functions base xs) e
chain-items base [] b e p q = omega arith
chain-items base (Blank ∷ xs) b e p q = chain-items (base + 0) xs b e (omega arith) (omega arith)
chain-items base (Func f ps (Fixed t) ∷ xs) b e p q = (sym p, omega arith, chain-items (base + 6) xs (base + 5 + 1) e (omega arith) (omega arith))
chain-items base (Func f ps (Parameter n) ∷ xs) b e p q = (sym p, omega arith, chain-items (base + 5) xs (base + 4 + 1) e (omega arith) (omega arith))
chain-items base (Void f ps ∷ xs) b e p q = (sym p, omega arith, chain-items (base + 3) xs (base + 2 + 1) e (omega arith) (omega arith))

-- the bodies of functions before main
abbrev Bodies : Code → List Plain → Type 0
Bodies code fs = (g : ℕ) (f : Plain) → slice_get fs g ≡ Some f → Body code f

bodies-cons : (code : Code) (x : Plain) (fs : List Plain) → Body code x → Bodies code fs → Bodies code (x ∷ fs)
bodies-cons code x fs b rest zero f h = subst (Body code) (some-same h) b
bodies-cons code x fs b rest (suc g) f h = rest g f h

abbrev text_plain : List ℕ → List (List ℕ) → ℕ → Plain
text_plain f ps base = record { name = f; entry = base; exit = base + 4; leave = base + 5; params = length ps; results = 1 }

abbrev given_plain : List ℕ → List (List ℕ) → ℕ → Plain
given_plain f ps base = record { name = f; entry = base; exit = base + 3; leave = base + 4; params = length ps; results = 1 }

abbrev void_plain : List ℕ → List (List ℕ) → ℕ → Plain
void_plain f ps base = record { name = f; entry = base; exit = base + 1; leave = base + 2; params = length ps; results = 0 }

abbrev GoodAt : Code → Plain → ℕ → Kind → Type 0
GoodAt code f i kind = Good code f i (whole_kind kind)

text-good : (code : Code) (f : List ℕ) (ps : List (List ℕ)) (base j : ℕ) (kind : Kind) → slice_get (block_of ps returns.Text base) j ≡ Some kind → GoodAt code (text_plain f ps base) (base + j) kind
text-good code f ps base zero kind h = subst (GoodAt code (text_plain f ps base) (base + 0)) (some-same h) (omega arith, omega arith)
text-good code f ps base (suc zero) kind h = subst (GoodAt code (text_plain f ps base) (base + 1)) (some-same h) (omega arith, omega arith, refl)
text-good code f ps base (suc (suc zero)) kind h = subst (GoodAt code (text_plain f ps base) (base + 2)) (some-same h) (omega arith, omega arith, omega arith, refl)
text-good code f ps base (suc (suc (suc zero))) kind h = subst (GoodAt code (text_plain f ps base) (base + 3)) (some-same h) (omega arith, omega arith)
text-good code f ps base (suc (suc (suc (suc zero)))) kind h = subst (GoodAt code (text_plain f ps base) (base + 4)) (some-same h) refl
text-good code f ps base (suc (suc (suc (suc (suc zero))))) kind h = subst (GoodAt code (text_plain f ps base) (base + 5)) (some-same h) (refl, refl, one-below (length ps) (registers_of (text_plain f ps base)) (omega arith))
text-good code f ps base (suc (suc (suc (suc (suc (suc j)))))) kind h = absurd (cc h)

given-good : (code : Code) (f : List ℕ) (ps : List (List ℕ)) (n : List ℕ) (base j : ℕ) (kind : Kind) → slice_get (block_of ps (returns.Parameter n) base) j ≡ Some kind → GoodAt code (given_plain f ps base) (base + j) kind
given-good code f ps n base zero kind h = subst (GoodAt code (given_plain f ps base) (base + 0)) (some-same h) (omega arith, omega arith)
given-good code f ps n base (suc zero) kind h = let l = position-least (λ m. bytes_eq m n) ps in subst (GoodAt code (given_plain f ps base) (base + 1)) (some-same h) (omega arith, omega arith, omega arith, refl)
given-good code f ps n base (suc (suc zero)) kind h = subst (GoodAt code (given_plain f ps base) (base + 2)) (some-same h) (omega arith, omega arith)
given-good code f ps n base (suc (suc (suc zero))) kind h = subst (GoodAt code (given_plain f ps base) (base + 3)) (some-same h) refl
given-good code f ps n base (suc (suc (suc (suc zero)))) kind h = subst (GoodAt code (given_plain f ps base) (base + 4)) (some-same h) (refl, refl, one-below (length ps) (registers_of (given_plain f ps base)) (omega arith))
given-good code f ps n base (suc (suc (suc (suc (suc j))))) kind h = absurd (cc h)

void-good : (code : Code) (f : List ℕ) (ps : List (List ℕ)) (base j : ℕ) (kind : Kind) → slice_get (block_of ps returns.Nothing base) j ≡ Some kind → GoodAt code (void_plain f ps base) (base + j) kind
void-good code f ps base zero kind h = subst (GoodAt code (void_plain f ps base) (base + 0)) (some-same h) (omega arith, omega arith)
void-good code f ps base (suc zero) kind h = subst (GoodAt code (void_plain f ps base) (base + 1)) (some-same h) refl
void-good code f ps base (suc (suc zero)) kind h = subst (GoodAt code (void_plain f ps base) (base + 2)) (some-same h) (refl, refl, none-below (registers_of (void_plain f ps base)))
void-good code f ps base (suc (suc (suc j))) kind h = absurd (cc h)

-- the function before main that has this number
items-plain : (base : ℕ) (xs : List Item) (k : ℕ) (fn : Function) → slice_get (functions_of xs) k ≡ Some fn → (f : Plain) × (slice_get (items_functions base xs) k ≡ Some f) × (f.params ≡ length fn.parameters) × (f.results ≡ results_of fn.returned)
items-plain base [] k fn h = absurd (cc h)
items-plain base (Blank ∷ xs) k fn h = items-plain (base + 0) xs k fn h
items-plain base (Func f ps (Fixed t) ∷ xs) zero fn h = (text_plain f ps base, refl, ap (λ (y : Function). length y.parameters) (some-same h), ap (λ (y : Function). results_of y.returned) (some-same h))
items-plain base (Func f ps (Fixed t) ∷ xs) (suc k) fn h = items-plain (base + 6) xs k fn h
items-plain base (Func f ps (Parameter n) ∷ xs) zero fn h = (given_plain f ps base, refl, ap (λ (y : Function). length y.parameters) (some-same h), ap (λ (y : Function). results_of y.returned) (some-same h))
items-plain base (Func f ps (Parameter n) ∷ xs) (suc k) fn h = items-plain (base + 5) xs k fn h
items-plain base (Void f ps ∷ xs) zero fn h = (void_plain f ps base, refl, ap (λ (y : Function). length y.parameters) (some-same h), ap (λ (y : Function). results_of y.returned) (some-same h))
items-plain base (Void f ps ∷ xs) (suc k) fn h = items-plain (base + 3) xs k fn h

each-at : (test : List Step → Action → Bool) (before ss : List Step) (i : ℕ) (x : Step) → slice_get ss i ≡ Some x → each_step test before ss ≡ true → test (before ++ take i ss) x.action ≡ true
each-at test before [] i x h a = absurd (cc h)
each-at test before (y ∷ ys) zero x h a = rw append-nil (ap (λ z. test before z.action) (sym (some-same h)) ∙ and-left (test before y.action) _ a)
each-at test before (y ∷ ys) (suc i) x h a =
    let q = each-at test (before ++ y ∷ []) ys i x h (and-right (test before y.action) _ a) in
    ap (λ z. test z x.action) (sym (append_assoc before (y ∷ []) (take i ys))) ∙ q

kinds-get : (functions : List Function) (steps : List Step) (i : ℕ) (ss : List Step) (j : ℕ) (kind : Kind) → slice_get (kinds_from functions steps i ss) j ≡ Some kind → (s : Step) × (slice_get ss j ≡ Some s) × (kind ≡ kind_of functions steps (i + j) s.action)
kinds-get functions steps i [] j kind h = absurd (cc h)
kinds-get functions steps i (s ∷ ss) zero kind h = (s, refl, sym (some-same h) ∙ ap (λ y. kind_of functions steps y s.action) (sym (add-zero i)))
kinds-get functions steps i (s ∷ ss) (suc j) kind h =
    let r = kinds-get functions steps (i + 1) ss j kind h in
    let e : i + 1 + j ≡ i + suc j = omega arith in
    (r.0, r.1, r.2 ∙ ap (λ y. kind_of functions steps y r.0.action) e)

length-kinds : (functions : List Function) (steps : List Step) (i : ℕ) (ss : List Step) → length (kinds_from functions steps i ss) ≡ length ss
length-kinds functions steps i [] = refl
length-kinds functions steps i (s ∷ ss) = ap suc (length-kinds functions steps (i + 1) ss)

within : {A : Type 0} (xs : List A) (i : ℕ) (x : A) → slice_get xs i ≡ Some x → i < length xs
within [] i x h = absurd (cc h)
within (y ∷ ys) zero x h = omega arith
within (y ∷ ys) (suc i) x h = let l = within ys i x h in omega arith

one-or-none : (b : Bool) (j : ℕ) → length (if b then j ∷ [] else []) ≤ 1
one-or-none true j = omega arith
one-or-none false j = omega arith

result-below : (b : Bool) (j n : ℕ) → j < n → AreBelow (if b then j ∷ [] else []) n
result-below true j n l = one-below j n l
result-below false j n l = none-below n

results-by : (r : Returned) (j : ℕ) → length (if not (is_nothing r) then j ∷ [] else []) ≡ results_of r
results-by returns.Nothing j = refl
results-by returns.Text j = refl
results-by (returns.Parameter n) j = refl

known : (functions : List Function) (f : List ℕ) (n : ℕ) (o : Option Function) → named functions f ≡ o → has_parameters n o ≡ true → (fn : Function) × (named functions f ≡ Some fn) × (n ≡ length fn.parameters)
known functions f n None e h = absurd (false≢true h)
known functions f n (Some fn) e h = (fn, e, eqb-true n (length fn.parameters) h)

all-places-few : (xs : List Item) → all_places xs ≤ 6 * length xs
all-places-few [] = omega arith
all-places-few (Blank ∷ xs) = let l = all-places-few xs in omega arith
all-places-few (Func f ps (Fixed t) ∷ xs) = let l = all-places-few xs in omega arith
all-places-few (Func f ps (Parameter n) ∷ xs) = let l = all-places-few xs in omega arith
all-places-few (Void f ps ∷ xs) = let l = all-places-few xs in omega arith

length-plains : (base : ℕ) (xs : List Item) → length (items_functions base xs) ≡ length (functions_of xs)
length-plains base [] = refl
length-plains base (Blank ∷ xs) = length-plains (base + 0) xs
length-plains base (Func f ps (Fixed t) ∷ xs) = ap suc (length-plains (base + 6) xs)
length-plains base (Func f ps (Parameter n) ∷ xs) = ap suc (length-plains (base + 5) xs)
length-plains base (Void f ps ∷ xs) = ap suc (length-plains (base + 3) xs)

module _ (file : File) where
  at-is : (i : ℕ) (kind : Kind) → slice_get (all_kinds file) i ≡ Some kind → IsAt (code_of file) i kind
  at-is i kind h = kind_at-is file i ∙ h

  at-zero : (base : ℕ) (ks : List Kind) (kind : Kind) → StandsAt (all_kinds file) base ks → slice_get ks 0 ≡ Some kind → IsAt (code_of file) base kind
  at-zero base ks kind s h = at-is base kind (ap (slice_get (all_kinds file)) (sym (add-zero base)) ∙ s 0 kind h)

  text-body : (f : List ℕ) (ps : List (List ℕ)) (base : ℕ) → StandsAt (all_kinds file) base (block_of ps returns.Text base) → Body (code_of file) (text_plain f ps base)
  text-body f ps base s = record {
    kinds = block_of ps returns.Text base;
    size = omega arith;
    stands = λ j kind h. at-is (base + j) kind (s j kind h);
    each = λ j kind h. text-good (code_of file) f ps base j kind h;
    low = omega arith;
    high = omega arith;
    first = at-zero base (block_of ps returns.Text base) (Goto (base + 1)) s refl;
    defers = at-is (base + 4) RunDefers (s 4 RunDefers refl);
    leaves = (length ps ∷ [], at-is (base + 5) (Leave (length ps ∷ [])) (s 5 (Leave (length ps ∷ [])) refl));
  }

  given-body : (f : List ℕ) (ps : List (List ℕ)) (n : List ℕ) (base : ℕ) → StandsAt (all_kinds file) base (block_of ps (returns.Parameter n) base) → Body (code_of file) (given_plain f ps base)
  given-body f ps n base s = record {
    kinds = block_of ps (returns.Parameter n) base;
    size = omega arith;
    stands = λ j kind h. at-is (base + j) kind (s j kind h);
    each = λ j kind h. given-good (code_of file) f ps n base j kind h;
    low = omega arith;
    high = omega arith;
    first = at-zero base (block_of ps (returns.Parameter n) base) (Goto (base + 1)) s refl;
    defers = at-is (base + 3) RunDefers (s 3 RunDefers refl);
    leaves = (length ps ∷ [], at-is (base + 4) (Leave (length ps ∷ [])) (s 4 (Leave (length ps ∷ [])) refl));
  }

  void-body : (f : List ℕ) (ps : List (List ℕ)) (base : ℕ) → StandsAt (all_kinds file) base (block_of ps returns.Nothing base) → Body (code_of file) (void_plain f ps base)
  void-body f ps base s = record {
    kinds = block_of ps returns.Nothing base;
    size = omega arith;
    stands = λ j kind h. at-is (base + j) kind (s j kind h);
    each = λ j kind h. void-good (code_of file) f ps base j kind h;
    low = omega arith;
    high = omega arith;
    first = at-zero base (block_of ps returns.Nothing base) (Goto (base + 1)) s refl;
    defers = at-is (base + 1) RunDefers (s 1 RunDefers refl);
    leaves = ([], at-is (base + 2) (Leave []) (s 2 (Leave []) refl));
  }

  items-bodies : (base : ℕ) (xs : List Item) → StandsAt (all_kinds file) base (items_kinds base xs) → Bodies (code_of file) (items_functions base xs)
  items-bodies base [] s = λ g f h. absurd (cc h)
  items-bodies base (Blank ∷ xs) s = items-bodies (base + 0) xs (λ i kind q. ap (λ b. slice_get (all_kinds file) (b + i)) (add-zero base) ∙ s i kind q)
  items-bodies base (Func f ps (Fixed t) ∷ xs) s = bodies-cons (code_of file) (text_plain f ps base) (items_functions (base + 6) xs) (text-body f ps base (stands-left (all_kinds file) base (block_of ps returns.Text base) (items_kinds (base + 6) xs) s)) (items-bodies (base + 6) xs (stands-right (all_kinds file) base (block_of ps returns.Text base) (items_kinds (base + 6) xs) s))
  items-bodies base (Func f ps (Parameter n) ∷ xs) s = bodies-cons (code_of file) (given_plain f ps base) (items_functions (base + 5) xs) (given-body f ps n base (stands-left (all_kinds file) base (block_of ps (returns.Parameter n) base) (items_kinds (base + 5) xs) s)) (items-bodies (base + 5) xs (stands-right (all_kinds file) base (block_of ps (returns.Parameter n) base) (items_kinds (base + 5) xs) s))
  items-bodies base (Void f ps ∷ xs) s = bodies-cons (code_of file) (void_plain f ps base) (items_functions (base + 3) xs) (void-body f ps base (stands-left (all_kinds file) base (block_of ps returns.Nothing base) (items_kinds (base + 3) xs) s)) (items-bodies (base + 3) xs (stands-right (all_kinds file) base (block_of ps returns.Nothing base) (items_kinds (base + 3) xs) s))

  length-main : length (main_steps file) ≡ length (steps_of file)
  length-main = length-kinds (functions_of file.items) (steps_of file) 0 (steps_of file)

  main-is : IsFunction (code_of file) (main_number file) (main_function file)
  main-is =
      let n : length (functions_of file.items) ≡ length (items_functions 5 file.items) + 0 = omega (arith, length-plains 5 file.items) in
      ap (slice_get (code_of file).functions) (add-one (length (functions_of file.items))) ∙ get-at (items_functions 5 file.items) (main_function file ∷ []) (length (functions_of file.items)) 0 n

  all-below : StepsBelow (length (steps_of file)) (steps_of file)
  all-below = body-below (length (steps_of file)) file.body (length (text_of file)) 0 (codes "}" ++ (10 ∷ blanks_text file.blanks)) (omega arith)

  register-below : (v : Operand) → OperandBelow (length (steps_of file)) v → register (steps_of file) v < registers_of (main_function file)
  register-below (operands.Variable n) b = let l = position-least (λ s. among (declared_by s.action) n) (steps_of file) in omega arith
  register-below (operands.Step i) b = omega arith

  registers-below : (vs : List Operand) → OperandsBelow (length (steps_of file)) vs → AreBelow (map (register (steps_of file)) vs) (registers_of (main_function file))
  registers-below [] b k r h = absurd (cc h)
  registers-below (v ∷ vs) b zero r h = subst (λ z. z < registers_of (main_function file)) (some-same h) (register-below v b.0)
  registers-below (v ∷ vs) b (suc k) r h = registers-below vs b.1 k r h

  call-fits : (j : ℕ) (f : List ℕ) (vs : List Operand) → j < length (steps_of file) → OperandsBelow (length (steps_of file)) vs → calls_known (functions_of file.items) (actions.Call f vs) ≡ true
      → CallFits (code_of file) (main_function file) (if has_result (named (functions_of file.items) f) then j ∷ [] else []) (function_number (functions_of file.items) f) (map (register (steps_of file)) vs)
  call-fits j f vs l b h =
      let c = known (functions_of file.items) f (length vs) (named (functions_of file.items) f) refl h in
      let k = position_or_len (λ g. bytes_eq g.name f) (functions_of file.items) in
      let at : slice_get (functions_of file.items) k ≡ Some c.0 = sym (find_at (λ g. bytes_eq g.name f) (functions_of file.items)) ∙ c.1 in
      let p = items-plain 5 file.items k c.0 at in
      let is : IsFunction (code_of file) (k + 1) p.0 = ap (slice_get (code_of file).functions) (add-one k) ∙ get-left (items_functions 5 file.items) (main_function file ∷ []) k p.0 p.1 in
      let room : j < registers_of (main_function file) = omega arith in
      record {
        callee = p.0;
        is = is;
        count = length-map vs (register (steps_of file)) ∙ (c.2 ∙ sym p.2);
        results = ap (λ o. length (if has_result o then j ∷ [] else [])) c.1 ∙ (results-by c.0.returned j ∙ sym p.3);
        few_results = one-or-none (has_result (named (functions_of file.items) f)) j;
        args_below = registers-below vs b;
        to_below = result-below (has_result (named (functions_of file.items) f)) j (registers_of (main_function file)) room;
      }

  action-good : (j i : ℕ) (a : Action) → j < length (steps_of file) → i < (main_function file).exit → OperandsBelow (length (steps_of file)) (operands_in a) → calls_known (functions_of file.items) a ≡ true → GoodAt (code_of file) (main_function file) i (kind_of (functions_of file.items) (steps_of file) j a)
  action-good j i actions.Text l w b h = let x : j < registers_of (main_function file) = omega arith in (w, x, refl)
  action-good j i (actions.Call f vs) l w b h = (w, function_number (functions_of file.items) f, refl, call-fits j f vs l b h)
  action-good j i (actions.Define n v) l w b h = let x : j < registers_of (main_function file) = omega arith in (w, x, register-below v b.0, refl)
  action-good j i (actions.Assign n v) l w b h = (w, register-below (operands.Variable n) tt, register-below v b.0, refl)

  step-good : StepsFit (functions_of file.items) (steps_of file) → (j : ℕ) (kind : Kind) → slice_get (main_steps file) j ≡ Some kind → GoodAt (code_of file) (main_function file) (main_entry file + suc j) kind
  step-good sf j kind h =
      let k = kinds-get (functions_of file.items) (steps_of file) 0 (steps_of file) j kind h in
      let e : kind ≡ kind_of (functions_of file.items) (steps_of file) j k.0.action = k.2 ∙ ap (λ y. kind_of (functions_of file.items) (steps_of file) y k.0.action) (zero-add j) in
      let l = within (steps_of file) j k.0 k.1 in
      let w : main_entry file + suc j < (main_function file).exit = omega arith in
      subst (GoodAt (code_of file) (main_function file) (main_entry file + suc j)) (sym e)
      (action-good j (main_entry file + suc j) k.0.action l w (below-at (length (steps_of file)) (steps_of file) j k.0 all-below k.1) (each-at (λ b a. calls_known (functions_of file.items) a) [] (steps_of file) j k.0 k.1 sf.calls))

  end-good : (j m : ℕ) (kind : Kind) → j ≡ length (main_steps file) + m → slice_get (RunDefers ∷ Leave [] ∷ []) m ≡ Some kind → GoodAt (code_of file) (main_function file) (main_entry file + suc j) kind
  end-good j zero kind e h = let n = length-main in let x : main_entry file + suc j ≡ (main_function file).exit = omega arith in subst (GoodAt (code_of file) (main_function file) (main_entry file + suc j)) (some-same h) x
  end-good j (suc zero) kind e h = let n = length-main in let x : main_entry file + suc j ≡ (main_function file).leave = omega arith in subst (GoodAt (code_of file) (main_function file) (main_entry file + suc j)) (some-same h) (x, refl, none-below (registers_of (main_function file)))
  end-good j (suc (suc m)) kind e h = absurd (cc h)

  rest-good : StepsFit (functions_of file.items) (steps_of file) → (j : ℕ) (kind : Kind) → (slice_get (main_steps file) j ≡ Some kind) ⊎ ((m : ℕ) × (j ≡ length (main_steps file) + m) × (slice_get (RunDefers ∷ Leave [] ∷ []) m ≡ Some kind)) → GoodAt (code_of file) (main_function file) (main_entry file + suc j) kind
  rest-good sf j kind (inl h) = step-good sf j kind h
  rest-good sf j kind (inr h) = end-good j h.0 kind h.1 h.2

  main-good : StepsFit (functions_of file.items) (steps_of file) → (j : ℕ) (kind : Kind) → slice_get (main_kinds file) j ≡ Some kind → GoodAt (code_of file) (main_function file) (main_entry file + j) kind
  main-good sf zero kind h = let a : main_entry file + 0 < (main_function file).exit = omega arith in let b : main_entry file + 1 ≡ main_entry file + 0 + 1 = omega arith in subst (GoodAt (code_of file) (main_function file) (main_entry file + 0)) (some-same h) (a, b)
  main-good sf (suc j) kind h = rest-good sf j kind (get-either (main_steps file) (RunDefers ∷ Leave [] ∷ []) j kind h)

  main-end : (m : ℕ) (kind : Kind) → slice_get (RunDefers ∷ Leave [] ∷ []) m ≡ Some kind → (i : ℕ) → i ≡ main_entry file + suc (length (main_steps file) + m) → IsAt (code_of file) i kind
  main-end m kind h i e = at-is i kind (ap (slice_get (all_kinds file)) e ∙ main-stand file (suc (length (main_steps file) + m)) kind (get-right (main_steps file) (RunDefers ∷ Leave [] ∷ []) m ∙ h))

  main-length : length (main_kinds file) ≡ length (steps_of file) + 3
  main-length = let a = length-append (main_steps file) (RunDefers ∷ Leave [] ∷ []) in let b = length-main in omega arith

  main-body : StepsFit (functions_of file.items) (steps_of file) → Body (code_of file) (main_function file)
  main-body sf = let n = length-main in let m = main-length in record {
    kinds = main_kinds file;
    size = omega arith;
    stands = λ j kind h. at-is (main_entry file + j) kind (main-stand file j kind h);
    each = main-good sf;
    low = omega arith;
    high = omega arith;
    first = at-zero (main_entry file) (main_kinds file) (Goto (main_entry file + 1)) (main-stand file) refl;
    defers = main-end 0 RunDefers refl (main_function file).exit (omega arith);
    leaves = ([], main-end 1 (Leave []) refl (main_function file).leave (omega arith));
  }

  opening-fits : CallFits (code_of file) entry_function [] (main_number file) []
  opening-fits = record { callee = main_function file; is = main-is; count = refl; results = refl; few_results = omega arith; args_below = none-below 5; to_below = none-below 5 }

  entry-good : (j : ℕ) (kind : Kind) → slice_get (entry_kinds file) j ≡ Some kind → GoodAt (code_of file) entry_function (0 + j) kind
  entry-good zero kind h = subst (GoodAt (code_of file) entry_function 0) (some-same h) (omega arith, refl)
  entry-good (suc zero) kind h = subst (GoodAt (code_of file) entry_function 1) (some-same h) (omega arith, refl)
  entry-good (suc (suc zero)) kind h = let l : 2 < 3 = omega arith in subst (GoodAt (code_of file) entry_function 2) (some-same h) (l, main_number file, refl, opening-fits)
  entry-good (suc (suc (suc zero))) kind h = subst (GoodAt (code_of file) entry_function 3) (some-same h) refl
  entry-good (suc (suc (suc (suc zero)))) kind h = subst (GoodAt (code_of file) entry_function 4) (some-same h) (refl, refl, none-below 5)
  entry-good (suc (suc (suc (suc (suc j))))) kind h = absurd (cc h)

  entry-body : Body (code_of file) entry_function
  entry-body = record {
    kinds = entry_kinds file;
    size = refl;
    stands = λ j kind h. at-is (0 + j) kind (ap (slice_get (all_kinds file)) (zero-add j) ∙ get-left (entry_kinds file) (items_kinds 5 file.items ++ main_kinds file) j kind h);
    each = entry-good;
    low = omega arith;
    high = refl;
    first = refl;
    defers = refl;
    leaves = ([], refl);
  }

  rest-body : StepsFit (functions_of file.items) (steps_of file) → (k : ℕ) (f : Plain) → (slice_get (items_functions 5 file.items) k ≡ Some f) ⊎ ((j : ℕ) × (k ≡ length (items_functions 5 file.items) + j) × (slice_get (main_function file ∷ []) j ≡ Some f)) → Body (code_of file) f
  rest-body sf k f (inl h) = items-bodies 5 file.items (items-stand file) k f h
  rest-body sf k f (inr (zero, e, h)) = subst (Body (code_of file)) (some-same h) (main-body sf)
  rest-body sf k f (inr (suc j, e, h)) = absurd (cc h)

  all-bodies : StepsFit (functions_of file.items) (steps_of file) → Bodies (code_of file) (code_of file).functions
  all-bodies sf = bodies-cons (code_of file) entry_function (items_functions 5 file.items ++ main_function file ∷ []) entry-body (λ k f h. rest-body sf k f (get-either (items_functions 5 file.items) (main_function file ∷ []) k f h))

  abbrev items_code : List Instr
  items_code = items_instrs (length (text_of file)) 5 file.items (codes "func " ++ main_name file)

  length-code : length (code_of file).instrs ≡ 5 + (all_places file.items + (length (steps_of file) + 3))
  length-code =
      let a = length-append items_code (main_instrs file) in
      let b : length items_code ≡ all_places file.items = sym (length-kinds_of items_code) ∙ (ap length (items_kinds-is (length (text_of file)) 5 file.items (codes "func " ++ main_name file)) ∙ length-items_kinds 5 file.items) in
      let c : length (main_instrs file) ≡ length (steps_of file) + 3 = sym (length-kinds_of (main_instrs file)) ∙ (ap length (main_kinds-is file) ∙ main-length) in
      omega (arith, a, b, c)

  whole-chain : Chain 0 (code_of file).functions (length (code_of file).instrs)
  whole-chain =
      let e = length-code in
      (refl, omega arith, chain-append 5 (5 + all_places file.items) (length (code_of file).instrs) (items_functions 5 file.items) (main_function file ∷ []) (chain-items 5 file.items 5 (5 + all_places file.items) refl refl) (refl, omega arith, omega arith))

  pub fitting : (bytes : List ℕ) → IsFirstForm file bytes → Fitting (code_of file)
  fitting bytes form =
      let few = few-functions file bytes form in
      let steps = few-steps file bytes form in
      let short = form.short in
      let items = items-longer file.items (main_text file.body file.blanks) in
      let text = ap length form.text in
      let room = all-places-few file.items in
      let size = length-code in
      let plains = length-plains 5 file.items in
      let both = length-append (items_functions 5 file.items) (main_function file ∷ []) in
      record {
        bodies = all-bodies form.steps;
        chain = whole-chain;
        first = entry_function;
        is_first = refl;
        nameless = refl;
        no_params = refl;
        no_results = refl;
        few_functions = omega (arith, few, plains, both);
        few_places = omega (arith, size, room, steps, short, items, text);
      }
