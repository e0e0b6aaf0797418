-- Where the functions of a program stand.
use Rattle.std.proofs.Common.{◌≡◌, ℕ, zero, suc, ◌+◌, ◌<◌, List, [], ◌∷◌, ◌++◌, Some, length, refl, ap, ◌∙◌, arith, add-zero, add_assoc, ◌⊎◌, inl, inr}
use Rattle.std.specs.Prelude.{slice_get, codes}
use Rattle.argot_first_form.specs.Tree.{Parameter, Fixed, Item, Blank, Func, Void, File, text_of}
use Rattle.argot_first_form.specs.Steps.{functions_of, steps_of}
use Rattle.argot_first_form.specs.declared.functions.Function.{Function}
use Rattle.argot_first_form.specs.declared.functions.Returned.{Returned}
use Rattle.argot_first_form.specs.declared.functions.Returned.TheVariants as returns
use Rattle.argot_first_form.specs.declared.steps.Step.{Step}
use Rattle.argot_plain.specs.declared.first.Kind.{Kind}
use Rattle.argot_plain.specs.declared.first.Kind.TheVariants.{Op, Move, Call, RunDefers, Leave, Goto, Branch}
use Rattle.argot_plain.specs.First.{Instr, Plain, Code, kind_in, kind_at, IsAt}
use Rattle.argot_first.specs.Code.{all_places, number_of, items_instrs, items_functions, step_instrs, main_instrs, main_entry, main_name, code_of, kind_of}
use Rattle.argot_first.specs.Marks.{kinds_from}
use Rattle.argot_first.proofs.Lookup.{get-left, get-right, get-at, get-either}

-- the kinds of a function from this place on, by what it gives back
abbrev pub block_of : List (List ℕ) → Returned → ℕ → List Kind
block_of ps returns.Nothing base = Goto (base + 1) ∷ RunDefers ∷ Leave [] ∷ []
block_of ps returns.Text base = Goto (base + 1) ∷ Op (length ps + 1) [] ∷ Move (length ps) (length ps + 1) ∷ Goto (base + 4) ∷ RunDefers ∷ Leave (length ps ∷ []) ∷ []
block_of ps (returns.Parameter n) base = Goto (base + 1) ∷ Move (length ps) (number_of ps n) ∷ Goto (base + 3) ∷ RunDefers ∷ Leave (length ps ∷ []) ∷ []

abbrev pub last_of : Returned → ℕ
last_of returns.Nothing = 2
last_of returns.Text = 5
last_of (returns.Parameter n) = 4

abbrev pub results_of : Returned → ℕ
results_of returns.Nothing = 0
results_of returns.Text = 1
results_of (returns.Parameter n) = 1

-- a function as it stands at this place
pub record IsBlock (code : Code) (fn : Function) (pl : Plain) : Type 0 where
  pub name : pl.name ≡ fn.name
  pub params : pl.params ≡ length fn.parameters
  pub leave : pl.leave ≡ pl.entry + last_of fn.returned
  pub kinds : (i : ℕ) (kind : Kind) → slice_get (block_of fn.parameters fn.returned pl.entry) i ≡ Some kind → IsAt code (pl.entry + i) kind

-- lists of instructions by their kinds
abbrev pub kinds_of : List Instr → List Kind
kinds_of [] = []
kinds_of (x ∷ xs) = x.kind ∷ kinds_of xs

pub kind_get : (xs : List Instr) (i : ℕ) → kind_in (slice_get xs i) ≡ slice_get (kinds_of xs) i
kind_get [] i = refl
kind_get (x ∷ xs) zero = refl
kind_get (x ∷ xs) (suc i) = kind_get xs i

pub kinds_of-append : (xs ys : List Instr) → kinds_of (xs ++ ys) ≡ kinds_of xs ++ kinds_of ys
kinds_of-append [] ys = refl
kinds_of-append (x ∷ xs) ys = ap (λ z. x.kind ∷ z) (kinds_of-append xs ys)

pub length-kinds_of : (xs : List Instr) → length (kinds_of xs) ≡ length xs
length-kinds_of [] = refl
length-kinds_of (x ∷ xs) = ap suc (length-kinds_of xs)

-- the kinds of items' functions
abbrev pub items_kinds : ℕ → List Item → List Kind
items_kinds base [] = []
items_kinds base (Blank ∷ xs) = items_kinds (base + 0) xs
items_kinds base (Func f ps (Fixed t) ∷ xs) = block_of ps returns.Text base ++ items_kinds (base + 6) xs
items_kinds base (Func f ps (Parameter n) ∷ xs) = block_of ps (returns.Parameter n) base ++ items_kinds (base + 5) xs
items_kinds base (Void f ps ∷ xs) = block_of ps returns.Nothing base ++ items_kinds (base + 3) xs

pub items_kinds-is : (total base : ℕ) (xs : List Item) (rest : List ℕ) → kinds_of (items_instrs total base xs rest) ≡ items_kinds base xs
items_kinds-is total base [] rest = refl
items_kinds-is total base (Blank ∷ xs) rest = items_kinds-is total (base + 0) xs rest
items_kinds-is total base (Func f ps (Fixed t) ∷ xs) rest = ap (λ z. block_of ps returns.Text base ++ z) (items_kinds-is total (base + 6) xs rest)
items_kinds-is total base (Func f ps (Parameter n) ∷ xs) rest = ap (λ z. block_of ps (returns.Parameter n) base ++ z) (items_kinds-is total (base + 5) xs rest)
items_kinds-is total base (Void f ps ∷ xs) rest = ap (λ z. block_of ps returns.Nothing base ++ z) (items_kinds-is total (base + 3) xs rest)

pub length-items_kinds : (base : ℕ) (xs : List Item) → length (items_kinds base xs) ≡ all_places xs
length-items_kinds base [] = refl
length-items_kinds base (Blank ∷ xs) = omega (arith, length-items_kinds (base + 0) xs)
length-items_kinds base (Func f ps (Fixed t) ∷ xs) = omega (arith, length-items_kinds (base + 6) xs)
length-items_kinds base (Func f ps (Parameter n) ∷ xs) = omega (arith, length-items_kinds (base + 5) xs)
length-items_kinds base (Void f ps ∷ xs) = omega (arith, length-items_kinds (base + 3) xs)

-- the kinds stand in a list of kinds at this place
abbrev pub StandsAt : List Kind → ℕ → List Kind → Type 0
StandsAt all base ks = (i : ℕ) (kind : Kind) → slice_get ks i ≡ Some kind → slice_get all (base + i) ≡ Some kind

pub stands-left : (all : List Kind) (base : ℕ) (xs ys : List Kind) → StandsAt all base (xs ++ ys) → StandsAt all base xs
stands-left all base xs ys s i kind h = s i kind (get-left xs ys i kind h)

pub stands-right : (all : List Kind) (base : ℕ) (xs ys : List Kind) → StandsAt all base (xs ++ ys) → StandsAt all (base + length xs) ys
stands-right all base xs ys s i kind h = rw add_assoc (s (length xs + i) kind (get-right xs ys i ∙ h))

-- the function of one item, in the program and in the code
pub record FoundBlock (all : List Kind) (functions : List Function) (plains : List Plain) (k : ℕ) : Type 0 where
  pub fn : Function
  pub pl : Plain
  pub is_fn : slice_get functions k ≡ Some fn
  pub is_pl : slice_get plains k ≡ Some pl
  pub name : pl.name ≡ fn.name
  pub params : pl.params ≡ length fn.parameters
  pub leave : pl.leave ≡ pl.entry + last_of fn.returned
  pub stands : StandsAt all pl.entry (block_of fn.parameters fn.returned pl.entry)

-- one place further in both lists
next-block : (all : List Kind) (fs : List Function) (ps : List Plain) (f : Function) (p : Plain) (k : ℕ) → FoundBlock all fs ps k → FoundBlock all (f ∷ fs) (p ∷ ps) (suc k)
next-block all fs ps f p k b = record { fn = b.fn; pl = b.pl; is_fn = b.is_fn; is_pl = b.is_pl; name = b.name; params = b.params; leave = b.leave; stands = b.stands }

pub found-block : (all : List Kind) (base : ℕ) (xs : List Item) → StandsAt all base (items_kinds base xs) → (k : ℕ) → k < length (functions_of xs) → FoundBlock all (functions_of xs) (items_functions base xs) k
found-block all base [] s k h = absurd (omega arith)
found-block all base (Blank ∷ xs) s k h = found-block all (base + 0) xs (λ i kind q. ap (λ b. slice_get all (b + i)) (add-zero base) ∙ s i kind q) k h
found-block all base (Func f ps (Fixed t) ∷ xs) s zero h = record { fn = record { name = f; parameters = ps; returned = returns.Text }; pl = record { name = f; entry = base; exit = base + 4; leave = base + 5; params = length ps; results = 1 }; is_fn = refl; is_pl = refl; name = refl; params = refl; leave = refl; stands = stands-left all base (block_of ps returns.Text base) (items_kinds (base + 6) xs) s }
found-block all base (Func f ps (Fixed t) ∷ xs) s (suc k) h = next-block _ _ _ _ _ _ (found-block all (base + 6) xs (stands-right all base (block_of ps returns.Text base) (items_kinds (base + 6) xs) s) k (omega arith))
found-block all base (Func f ps (Parameter n) ∷ xs) s zero h = record { fn = record { name = f; parameters = ps; returned = returns.Parameter n }; pl = record { name = f; entry = base; exit = base + 3; leave = base + 4; params = length ps; results = 1 }; is_fn = refl; is_pl = refl; name = refl; params = refl; leave = refl; stands = stands-left all base (block_of ps (returns.Parameter n) base) (items_kinds (base + 5) xs) s }
found-block all base (Func f ps (Parameter n) ∷ xs) s (suc k) h = next-block _ _ _ _ _ _ (found-block all (base + 5) xs (stands-right all base (block_of ps (returns.Parameter n) base) (items_kinds (base + 5) xs) s) k (omega arith))
found-block all base (Void f ps ∷ xs) s zero h = record { fn = record { name = f; parameters = ps; returned = returns.Nothing }; pl = record { name = f; entry = base; exit = base + 1; leave = base + 2; params = length ps; results = 0 }; is_fn = refl; is_pl = refl; name = refl; params = refl; leave = refl; stands = stands-left all base (block_of ps returns.Nothing base) (items_kinds (base + 3) xs) s }
found-block all base (Void f ps ∷ xs) s (suc k) h = next-block _ _ _ _ _ _ (found-block all (base + 3) xs (stands-right all base (block_of ps returns.Nothing base) (items_kinds (base + 3) xs) s) k (omega arith))

pub length-plains : (base : ℕ) (xs : List Item) → length (items_functions base xs) ≡ length (functions_of xs)
length-plains base [] = refl
length-plains base (Blank ∷ xs) = length-plains (base + 0) xs
length-plains base (Func f ps (Fixed t) ∷ xs) = ap suc (length-plains (base + 6) xs)
length-plains base (Func f ps (Parameter n) ∷ xs) = ap suc (length-plains (base + 5) xs)
length-plains base (Void f ps ∷ xs) = ap suc (length-plains (base + 3) xs)

-- no function before main calls another
block-calls-none : (ps : List (List ℕ)) (r : Returned) (base i : ℕ) (to : List ℕ) (g : ℕ) (args : List ℕ) → slice_get (block_of ps r base) i ≡ Some (Call to g args) → ⊥
block-calls-none ps returns.Nothing base zero to g args h = cc h
block-calls-none ps returns.Nothing base (suc zero) to g args h = cc h
block-calls-none ps returns.Nothing base (suc (suc zero)) to g args h = cc h
block-calls-none ps returns.Nothing base (suc (suc (suc i))) to g args h = cc h
block-calls-none ps returns.Text base zero to g args h = cc h
block-calls-none ps returns.Text base (suc zero) to g args h = cc h
block-calls-none ps returns.Text base (suc (suc zero)) to g args h = cc h
block-calls-none ps returns.Text base (suc (suc (suc zero))) to g args h = cc h
block-calls-none ps returns.Text base (suc (suc (suc (suc zero)))) to g args h = cc h
block-calls-none ps returns.Text base (suc (suc (suc (suc (suc zero))))) to g args h = cc h
block-calls-none ps returns.Text base (suc (suc (suc (suc (suc (suc i)))))) to g args h = cc h
block-calls-none ps (returns.Parameter n) base zero to g args h = cc h
block-calls-none ps (returns.Parameter n) base (suc zero) to g args h = cc h
block-calls-none ps (returns.Parameter n) base (suc (suc zero)) to g args h = cc h
block-calls-none ps (returns.Parameter n) base (suc (suc (suc zero))) to g args h = cc h
block-calls-none ps (returns.Parameter n) base (suc (suc (suc (suc zero)))) to g args h = cc h
block-calls-none ps (returns.Parameter n) base (suc (suc (suc (suc (suc i))))) to g args h = cc h

either-none : (xs ys : List Kind) (i : ℕ) (to : List ℕ) (g : ℕ) (args : List ℕ) → ((j : ℕ) → slice_get xs j ≡ Some (Call to g args) → ⊥) → ((j : ℕ) → slice_get ys j ≡ Some (Call to g args) → ⊥) → (slice_get xs i ≡ Some (Call to g args)) ⊎ ((j : ℕ) × (i ≡ length xs + j) × (slice_get ys j ≡ Some (Call to g args))) → ⊥
either-none xs ys i to g args p q (inl h) = p i h
either-none xs ys i to g args p q (inr h) = q h.0 h.2

pub items-call-none : (base : ℕ) (xs : List Item) (i : ℕ) (to : List ℕ) (g : ℕ) (args : List ℕ) → slice_get (items_kinds base xs) i ≡ Some (Call to g args) → ⊥
items-call-none base [] i to g args h = cc h
items-call-none base (Blank ∷ xs) i to g args h = items-call-none (base + 0) xs i to g args h
items-call-none base (Func f ps (Fixed t) ∷ xs) i to g args h = either-none (block_of ps returns.Text base) (items_kinds (base + 6) xs) i to g args (λ j q. block-calls-none ps returns.Text base j to g args q) (λ j q. items-call-none (base + 6) xs j to g args q) (get-either (block_of ps returns.Text base) (items_kinds (base + 6) xs) i (Call to g args) h)
items-call-none base (Func f ps (Parameter n) ∷ xs) i to g args h = either-none (block_of ps (returns.Parameter n) base) (items_kinds (base + 5) xs) i to g args (λ j q. block-calls-none ps (returns.Parameter n) base j to g args q) (λ j q. items-call-none (base + 5) xs j to g args q) (get-either (block_of ps (returns.Parameter n) base) (items_kinds (base + 5) xs) i (Call to g args) h)
items-call-none base (Void f ps ∷ xs) i to g args h = either-none (block_of ps returns.Nothing base) (items_kinds (base + 3) xs) i to g args (λ j q. block-calls-none ps returns.Nothing base j to g args q) (λ j q. items-call-none (base + 3) xs j to g args q) (get-either (block_of ps returns.Nothing base) (items_kinds (base + 3) xs) i (Call to g args) h)

pub kinds-of-steps : (functions : List Function) (steps : List Step) (i : ℕ) (ss : List Step) → kinds_of (step_instrs functions steps i ss) ≡ kinds_from functions steps i ss
kinds-of-steps functions steps i [] = refl
kinds-of-steps functions steps i (s ∷ ss) = ap (λ z. kind_of functions steps i s.action ∷ z) (kinds-of-steps functions steps (i + 1) ss)

abbrev pub main_steps : File → List Kind
main_steps file = kinds_from (functions_of file.items) (steps_of file) 0 (steps_of file)

abbrev pub main_kinds : File → List Kind
main_kinds file = Goto (main_entry file + 1) ∷ (main_steps file ++ (RunDefers ∷ Leave [] ∷ []))

abbrev pub entry_kinds : File → List Kind
entry_kinds file = Goto 1 ∷ Branch (2 ∷ []) ∷ Call [] (length (functions_of file.items) + 1) [] ∷ RunDefers ∷ Leave [] ∷ []

abbrev pub all_kinds : File → List Kind
all_kinds file = entry_kinds file ++ (items_kinds 5 file.items ++ main_kinds file)

pub main_kinds-is : (file : File) → kinds_of (main_instrs file) ≡ main_kinds file
main_kinds-is file = ap (λ z. Goto (main_entry file + 1) ∷ z) (kinds_of-append (step_instrs (functions_of file.items) (steps_of file) 0 (steps_of file)) _ ∙ ap (λ z. z ++ (RunDefers ∷ Leave [] ∷ [])) (kinds-of-steps (functions_of file.items) (steps_of file) 0 (steps_of file)))

-- what stands at a place, by the kinds alone
pub kind_at-is : (file : File) (i : ℕ) → kind_at (code_of file) i ≡ slice_get (all_kinds file) i
kind_at-is file i =
    let a : kinds_of (items_instrs (length (text_of file)) 5 file.items (codes "func " ++ main_name file) ++ main_instrs file) ≡ items_kinds 5 file.items ++ main_kinds file =
    kinds_of-append (items_instrs (length (text_of file)) 5 file.items (codes "func " ++ main_name file)) (main_instrs file) ∙ (ap (λ z. z ++ kinds_of (main_instrs file)) (items_kinds-is (length (text_of file)) 5 file.items (codes "func " ++ main_name file)) ∙ ap (λ z. items_kinds 5 file.items ++ z) (main_kinds-is file)) in
    kind_get (code_of file).instrs i ∙ ap (λ z. slice_get z i) (ap (λ z. entry_kinds file ++ z) a)

pub items-stand : (file : File) → StandsAt (all_kinds file) 5 (items_kinds 5 file.items)
items-stand file i kind h = get-at (entry_kinds file) (items_kinds 5 file.items ++ main_kinds file) (5 + i) i refl ∙ get-left (items_kinds 5 file.items) (main_kinds file) i kind h

pub main-stand : (file : File) → StandsAt (all_kinds file) (main_entry file) (main_kinds file)
main-stand file i kind h =
    let n : main_entry file + i ≡ 5 + (length (items_kinds 5 file.items) + i) = omega (arith, length-items_kinds 5 file.items) in
    get-at (entry_kinds file) (items_kinds 5 file.items ++ main_kinds file) (main_entry file + i) (length (items_kinds 5 file.items) + i) n ∙ (get-right (items_kinds 5 file.items) (main_kinds file) i ∙ h)

-- main's step j stands behind main's first place
abbrev pub base_of : File → ℕ
base_of file = main_entry file + 1

moved-one : (m j : ℕ) → m + 1 + j ≡ m + suc j
moved-one m j = omega arith

pub step-at : (file : File) (j : ℕ) (kind : Kind) → slice_get (main_steps file) j ≡ Some kind → IsAt (code_of file) (base_of file + j) kind
step-at file j kind h = kind_at-is file (base_of file + j) ∙ (ap (slice_get (all_kinds file)) (moved-one (main_entry file) j) ∙ main-stand file (suc j) kind (get-left (main_steps file) (RunDefers ∷ Leave [] ∷ []) j kind h))

pub end-at : (file : File) (j : ℕ) (kind : Kind) → slice_get (RunDefers ∷ Leave [] ∷ []) j ≡ Some kind → IsAt (code_of file) (base_of file + (length (main_steps file) + j)) kind
end-at file j kind h =
    let n = length (main_steps file) + j in
    kind_at-is file (base_of file + n) ∙ (ap (slice_get (all_kinds file)) (moved-one (main_entry file) n) ∙ main-stand file (suc n) kind (get-right (main_steps file) (RunDefers ∷ Leave [] ∷ []) j ∙ h))
