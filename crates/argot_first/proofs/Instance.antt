-- The code of a program of the first form has the shape that its flows rest on.
use Rattle.std.proofs.Common.{◌≡◌, ℕ, zero, suc, ◌+◌, ◌<◌, ◌≤◌, List, [], ◌∷◌, ◌++◌, Option, Some, None, Bool, true, false, not, cond, length, map, take, refl, sym, ap, ◌∙◌, subst, arith, add-one, add-zero, zero-add, ◌⊎◌, inl, inr}
use Rattle.std.specs.Prelude.{slice_get, codes, if◌then◌else◌}
use Rattle.std.specs.List.{position_or_len, list_any, list_all}
use Rattle.std.specs.Str.{bytes_eq}
use Rattle.std.proofs.lemmas.Option.{slice_get_within}
use Rattle.std.proofs.lemmas.List.Folds.{find_at, list_any-append}
use Rattle.std.proofs.Common.{append-nil, append_assoc}
use Rattle.std.proofs.lemmas.List.{length-map}
use Rattle.argot_first_form.proofs.Pieces.{and-left, and-right}
use Rattle.std.proofs.lemmas.Bool.{false≢true, eqb-true}
use Rattle.argot_first_form.specs.Tree.{File}
use Rattle.argot_first_form.specs.Steps.{functions_of, steps_of}
use Rattle.argot_first_form.specs.Form.{FunctionsFit, StepsFit, among, declared, declared_by, each_step, assigns_old, calls_known, has_parameters, named, has_result, is_nothing, returns_own}
use Rattle.argot_first_form.specs.declared.functions.Function.{Function}
use Rattle.argot_first_form.specs.declared.functions.Returned.{Returned}
use Rattle.argot_first_form.specs.declared.functions.Returned.TheVariants as returns
use Rattle.argot_first_form.specs.declared.steps.Action.{Action}
use Rattle.argot_first_form.specs.declared.steps.Action.TheVariants as actions
use Rattle.argot_first_form.specs.declared.steps.Operand.{Operand}
use Rattle.argot_first_form.specs.declared.steps.Step.{Step}
use Rattle.argot_plain.specs.declared.first.Kind.{Kind}
use Rattle.argot_plain.specs.declared.first.Kind.TheVariants.{Call, RunDefers, Leave, Goto}
use Rattle.argot_plain.specs.First.{Plain, kind_at, IsAt, IsFunction, IsIn, Live, opening, called, IsLivePlace}
use Rattle.argot_first.specs.Code.{variable, register, kind_of, items_functions, main_entry, main_number, entry_function, main_function, code_of}
use Rattle.argot_first.specs.Marks.{kinds_from}
use Rattle.argot_first.proofs.Lookup.{some-same, get-left, get-at, get-either}
use Rattle.argot_first.proofs.Blocks.{IsBlock, length-plains, block_of, last_of, main_steps, main_kinds, all_kinds, entry_kinds, items_kinds, length-items_kinds, items-call-none, main-stand, kind_at-is, base_of, step-at, end-at}
use Rattle.argot_first.proofs.Shape.{Shape, StepShape, IsOpening, is-block, found-at, which, Which, the_entry, an_item, the_main}

-- the first that passes is within the list, where one passes
any-by : {A : Type 0} (p : A → Bool) (b : Bool) (x : A) (xs : List A) → p x ≡ b → (list_any p xs ≡ true → position_or_len p xs < length xs) → list_any p (x ∷ xs) ≡ true → cond (not b) (1 + position_or_len p xs) 0 < suc (length xs)
any-by p true x xs e rec h = omega arith
any-by p false x xs e rec h = let q : list_any p xs ≡ true = rw e at h in omega (arith, rec q)

any-position : {A : Type 0} (p : A → Bool) (xs : List A) → list_any p xs ≡ true → position_or_len p xs < length xs
any-position p [] h = absurd (false≢true h)
any-position p (x ∷ xs) h = any-by p (p x) x xs refl (any-position p xs) h

all-at : {A : Type 0} (p : A → Bool) (xs : List A) (i : ℕ) (x : A) → slice_get xs i ≡ Some x → list_all p xs ≡ true → p x ≡ true
all-at p [] i x h a = absurd (cc h)
all-at p (y ∷ ys) zero x h a = ap p (sym (some-same h)) ∙ and-left (p y) _ a
all-at p (y ∷ ys) (suc i) x h a = all-at p ys i x h (and-right (p y) _ a)

-- each step passes the test behind the steps before it
each-at : (test : List Step → Action → Bool) (before ss : List Step) (i : ℕ) (x : Step) → slice_get ss i ≡ Some x → each_step test before ss ≡ true → test (before ++ take i ss) x.action ≡ true
each-at test before [] i x h a = absurd (cc h)
each-at test before (y ∷ ys) zero x h a = rw append-nil (ap (λ z. test before z.action) (sym (some-same h)) ∙ and-left (test before y.action) _ a)
each-at test before (y ∷ ys) (suc i) x h a =
    let q = each-at test (before ++ y ∷ []) ys i x h (and-right (test before y.action) _ a) in
    ap (λ z. test z x.action) (sym (append_assoc before (y ∷ []) (take i ys))) ∙ q

-- the kind of a step
pub record KindOf (functions : List Function) (steps : List Step) (i : ℕ) (ss : List Step) (j : ℕ) (kind : Kind) : Type 0 where
  pub step : Step
  pub is_step : slice_get ss j ≡ Some step
  pub is_kind : kind ≡ kind_of functions steps (i + j) step.action

kinds-get : (functions : List Function) (steps : List Step) (i : ℕ) (ss : List Step) (j : ℕ) (kind : Kind) → slice_get (kinds_from functions steps i ss) j ≡ Some kind → KindOf functions steps i ss j kind
kinds-get functions steps i [] j kind h = absurd (cc h)
kinds-get functions steps i (s ∷ ss) zero kind h = record { step = s; is_step = refl; is_kind = sym (some-same h) ∙ ap (λ y. kind_of functions steps y s.action) (sym (add-zero i)) }
kinds-get functions steps i (s ∷ ss) (suc j) kind h =
    let r = kinds-get functions steps (i + 1) ss j kind h in
    record { step = r.step; is_step = r.is_step; is_kind = r.is_kind ∙ ap (λ y. kind_of functions steps y r.step.action) (omega arith) }

length-kinds : (functions : List Function) (steps : List Step) (i : ℕ) (ss : List Step) → length (kinds_from functions steps i ss) ≡ length ss
length-kinds functions steps i [] = refl
length-kinds functions steps i (s ∷ ss) = ap suc (length-kinds functions steps (i + 1) ss)

-- a name that is declared by the first i steps is declared by one of them
declared-by : (s : Step) (ss : List Step) (n : List ℕ) (i : ℕ) (b : Bool) → among (declared_by s.action) n ≡ b → (among (declared (take i ss)) n ≡ true → variable ss n < i) → among (declared_by s.action ++ declared (take i ss)) n ≡ true → cond (not b) (1 + variable ss n) 0 < suc i
declared-by s ss n i true e rec h = omega arith
declared-by s ss n i false e rec h =
    let q : among (declared (take i ss)) n ≡ true = sym (list_any-append (λ m. bytes_eq m n) (declared_by s.action) (declared (take i ss)) ∙ rw e refl) ∙ h in
    omega (arith, rec q)

declared-within : (steps : List Step) (i : ℕ) (n : List ℕ) → among (declared (take i steps)) n ≡ true → variable steps n < i
declared-within [] zero n h = absurd (false≢true h)
declared-within (s ∷ ss) zero n h = absurd (false≢true h)
declared-within [] (suc i) n h = absurd (false≢true h)
declared-within (s ∷ ss) (suc i) n h = declared-by s ss n i (among (declared_by s.action) n) refl (declared-within ss i n) h

-- a function that gives a parameter back has a result
parameter-gives : (fn : Function) (n : List ℕ) → fn.returned ≡ returns.Parameter n → has_result (Some fn) ≡ true
parameter-gives fn n e = ap (λ y. not (is_nothing y)) e

results-by : (b : Bool) (j : ℕ) → ((if b then j ∷ [] else []) ≡ []) ⊎ ((if b then j ∷ [] else []) ≡ j ∷ [])
results-by true j = inr refl
results-by false j = inl refl

module _ (functions : List Function) (steps : List Step) (ff : FunctionsFit functions) (sf : StepsFit functions steps) where
  -- the function of a call
  pub record Callee (f : List ℕ) (n : ℕ) : Type 0 where
    pub fn : Function
    pub is_named : named functions f ≡ Some fn
    pub enough : n ≡ length fn.parameters

  callee-by : (f : List ℕ) (n : ℕ) (o : Option Function) → named functions f ≡ o → has_parameters n o ≡ true → Callee f n
  callee-by f n None e h = absurd (false≢true h)
  callee-by f n (Some fn) e h = record { fn = fn; is_named = e; enough = eqb-true n (length fn.parameters) h }

  call-shape : (j : ℕ) (f : List ℕ) (vs : List Operand) → calls_known functions (actions.Call f vs) ≡ true → StepShape functions (kinds_from functions steps 0 steps) j (kind_of functions steps j (actions.Call f vs))
  call-shape j f vs h =
      let c = callee-by f (length vs) (named functions f) refl h in
      let k = position_or_len (λ g. bytes_eq g.name f) functions in
      let at : slice_get functions k ≡ Some c.fn = sym (find_at (λ g. bytes_eq g.name f) functions) ∙ c.is_named in
      let n : length (map (register steps) vs) ≡ length c.fn.parameters = length-map vs (register steps) ∙ c.enough in (
        k,
        c.fn,
        refl,
        at,
        n,
        results-by (has_result (named functions f)) j,
        λ a e.
            let r : has_result (named functions f) ≡ true = ap has_result c.is_named ∙ parameter-gives c.fn a e in
            let own : returns_own c.fn.parameters (returns.Parameter a) ≡ true = ap (returns_own c.fn.parameters) (sym e) ∙ all-at (λ g. returns_own g.parameters g.returned) functions k c.fn at ff.returned_own in
            (ap (λ y. if y then j ∷ [] else []) r, any-position (λ m. bytes_eq m a) c.fn.parameters own),
      )

  action-shape : (j : ℕ) (s : Step) (a : Action) → s.action ≡ a → slice_get steps j ≡ Some s → StepShape functions (kinds_from functions steps 0 steps) j (kind_of functions steps j a)
  action-shape j s actions.Text e h = (refl, refl)
  action-shape j s (actions.Call f vs) e h = call-shape j f vs (ap (calls_known functions) (sym e) ∙ each-at (λ b a. calls_known functions a) [] steps j s h sf.calls)
  action-shape j s (actions.Define n v) e h = omega (arith, length-kinds functions steps 0 steps, slice_get_within steps j s h)
  action-shape j s (actions.Assign n v) e h =
      let q : among (declared (take j steps)) n ≡ true = ap (assigns_old (take j steps)) (sym e) ∙ each-at assigns_old [] steps j s h sf.assigns in
      omega (arith, length-kinds functions steps 0 steps, slice_get_within steps j s h, declared-within steps j n q)

  pub step-shape : (j : ℕ) (kind : Kind) → slice_get (kinds_from functions steps 0 steps) j ≡ Some kind → StepShape functions (kinds_from functions steps 0 steps) j kind
  step-shape j kind h =
      let k = kinds-get functions steps 0 steps j kind h in
      let e : kind ≡ kind_of functions steps j k.step.action = k.is_kind ∙ ap (λ y. kind_of functions steps y k.step.action) (zero-add j) in
      subst (StepShape functions (kinds_from functions steps 0 steps) j) (sym e) (action-shape j k.step k.step.action refl k.is_step)

-- main's own entry among the functions
main-is : (file : File) → IsFunction (code_of file) (main_number file) (main_function file)
main-is file =
    let n : length (functions_of file.items) ≡ length (items_functions 5 file.items) + 0 = omega (arith, length-plains 5 file.items) in
    ap (slice_get (code_of file).functions) (add-one (length (functions_of file.items))) ∙ get-at (items_functions 5 file.items) (main_function file ∷ []) (length (functions_of file.items)) 0 n

opening-call : (file : File) → IsAt (code_of file) 2 (Call [] (main_number file) [])
opening-call file = refl

main-live : (file : File) → Live (code_of file) (main_number file)
main-live file = called 0 2 entry_function [] [] opening refl (omega arith, omega arith) (opening-call file)

length-main : (file : File) → length (main_steps file) ≡ length (steps_of file)
length-main file = length-kinds (functions_of file.items) (steps_of file) 0 (steps_of file)

main-inside : (file : File) (j : ℕ) → j ≤ length (main_steps file) + 1 → IsIn (base_of file + j) (main_function file)
main-inside file j h = (omega arith, omega (arith, length-main file))

place-live : (file : File) (j : ℕ) → j ≤ length (main_steps file) + 1 → IsLivePlace (code_of file) (base_of file + j)
place-live file j h = record { number = main_number file; function = main_function file; live = main-live file; is_function = main-is file; inside = main-inside file j h }

called-live : (file : File) (j : ℕ) (to : List ℕ) (g : ℕ) (args : List ℕ) → slice_get (main_steps file) j ≡ Some (Call to g args) → Live (code_of file) g
called-live file j to g args h =
    let w = slice_get_within (main_steps file) j (Call to g args) h in
    called (main_number file) (base_of file + j) (main_function file) to args (main-live file) (main-is file) (main-inside file j (omega arith)) (step-at file j (Call to g args) h)

first-goto : (ps : List (List ℕ)) (r : Returned) (e : ℕ) → slice_get (block_of ps r e) 0 ≡ Some (Goto (e + 1))
first-goto ps returns.Nothing e = refl
first-goto ps returns.Text e = refl
first-goto ps (returns.Parameter n) e = refl

last-leave : (ps : List (List ℕ)) (r : Returned) (e : ℕ) → (from : List ℕ) × (slice_get (block_of ps r e) (last_of r) ≡ Some (Leave from))
last-leave ps returns.Nothing e = ([], refl)
last-leave ps returns.Text e = (length ps ∷ [], refl)
last-leave ps (returns.Parameter n) e = (length ps ∷ [], refl)

-- what stands at a function's first and last place
entry-goto : (file : File) (g : ℕ) (pl : Plain) → Which file g pl → (target : ℕ) × IsAt (code_of file) pl.entry (Goto target)
entry-goto file g pl (the_entry z e) = (1, ap (λ y. kind_at (code_of file) y.entry) e)
entry-goto file g pl (an_item k n b e) =
    let bl = is-block file k b in
    (b.pl.entry + 1, ap (λ y. kind_at (code_of file) y.entry) e ∙ (ap (kind_at (code_of file)) (sym (add-zero b.pl.entry)) ∙ bl.kinds 0 (Goto (b.pl.entry + 1)) (first-goto b.fn.parameters b.fn.returned b.pl.entry)))
entry-goto file g pl (the_main n e) =
    (main_entry file + 1, ap (λ y. kind_at (code_of file) y.entry) e ∙ (kind_at-is file (main_entry file) ∙ (ap (slice_get (all_kinds file)) (sym (add-zero (main_entry file))) ∙ main-stand file 0 (Goto (main_entry file + 1)) refl)))

leave-there : (file : File) (g : ℕ) (pl : Plain) → Which file g pl → (from : List ℕ) × IsAt (code_of file) pl.leave (Leave from)
leave-there file g pl (the_entry z e) = ([], ap (λ y. kind_at (code_of file) y.leave) e)
leave-there file g pl (an_item k n b e) =
    let bl = is-block file k b in
    let l = last-leave b.fn.parameters b.fn.returned b.pl.entry in
    (l.0, ap (λ y. kind_at (code_of file) y.leave) e ∙ (ap (kind_at (code_of file)) b.leave ∙ bl.kinds (last_of b.fn.returned) (Leave l.0) l.1))
leave-there file g pl (the_main n e) =
    let p : main_entry file + length (steps_of file) + 2 ≡ base_of file + (length (main_steps file) + 1) = omega (arith, length-main file) in
    ([], ap (λ y. kind_at (code_of file) y.leave) e ∙ (ap (kind_at (code_of file)) p ∙ end-at file 1 (Leave []) refl))

parameters-of : (file : File) (g : ℕ) (pl : Plain) → Which file g pl → (pl.params ≡ 0) ⊎ ((fn : Function) × IsBlock (code_of file) fn pl)
parameters-of file g pl (the_entry z e) = inl (ap (λ y. y.params) e)
parameters-of file g pl (an_item k n b e) = inr (b.fn, subst (IsBlock (code_of file) b.fn) (sym e) (is-block file k b))
parameters-of file g pl (the_main n e) = inl (ap (λ y. y.params) e)

block-of : (file : File) (k : ℕ) (fn : Function) → slice_get (functions_of file.items) k ≡ Some fn → (pl : Plain) × IsFunction (code_of file) (k + 1) pl × IsBlock (code_of file) fn pl
block-of file k fn h =
    let b = found-at file k (slice_get_within (functions_of file.items) k fn h) in
    let same : b.fn ≡ fn = some-same (sym b.is_fn ∙ h) in
    let at : IsFunction (code_of file) (k + 1) b.pl = ap (slice_get (code_of file).functions) (add-one k) ∙ get-left (items_functions 5 file.items) (main_function file ∷ []) k b.pl b.is_pl in
    (b.pl, at, subst (λ y. IsBlock (code_of file) y b.pl) same (is-block file k b))

-- the function that the opening function calls is main
which-main : (file : File) (g : ℕ) (pl : Plain) → g ≡ main_number file → Which file g pl → pl.name ≡ codes "main"
which-main file g pl n (the_entry z e) = absurd (omega (arith, n, z))
which-main file g pl n (an_item k m b e) = absurd (omega (arith, n, m, slice_get_within (functions_of file.items) k b.fn b.is_fn))
which-main file g pl n (the_main m e) = ap (λ y. y.name) e

opening-only : (file : File) (i : ℕ) (to : List ℕ) (g : ℕ) (args : List ℕ) → slice_get (entry_kinds file) i ≡ Some (Call to g args) → IsOpening (code_of file) i g
opening-only file zero to g args h = absurd (cc h)
opening-only file (suc zero) to g args h = absurd (cc h)
opening-only file (suc (suc zero)) to g args h =
    let n : main_number file ≡ g = cc h in
    record { is_main = λ pl f. which-main file g pl (sym n) (which file g pl f) }
opening-only file (suc (suc (suc zero))) to g args h = absurd (cc h)
opening-only file (suc (suc (suc (suc zero)))) to g args h = absurd (cc h)
opening-only file (suc (suc (suc (suc (suc i))))) to g args h = absurd (cc h)

abbrev AtStep : File → ℕ → List ℕ → ℕ → List ℕ → Type 0
AtStep file i to g args = (j : ℕ) × (i ≡ base_of file + j) × (slice_get (main_steps file) j ≡ Some (Call to g args))

end-none : (j : ℕ) (to : List ℕ) (g : ℕ) (args : List ℕ) → slice_get (RunDefers ∷ Leave [] ∷ []) j ≡ Some (Call to g args) → ⊥
end-none zero to g args h = cc h
end-none (suc zero) to g args h = cc h
end-none (suc (suc j)) to g args h = cc h

in-steps : (file : File) (i j : ℕ) (to : List ℕ) (g : ℕ) (args : List ℕ) → i ≡ base_of file + j → (slice_get (main_steps file) j ≡ Some (Call to g args)) ⊎ ((k : ℕ) × (j ≡ length (main_steps file) + k) × (slice_get (RunDefers ∷ Leave [] ∷ []) k ≡ Some (Call to g args))) → AtStep file i to g args
in-steps file i j to g args e (inl h) = (j, e, h)
in-steps file i j to g args e (inr h) = absurd (end-none h.0 to g args h.2)

in-main : (file : File) (i j : ℕ) (to : List ℕ) (g : ℕ) (args : List ℕ) → i ≡ main_entry file + j → slice_get (main_kinds file) j ≡ Some (Call to g args) → AtStep file i to g args
in-main file i zero to g args e h = absurd (cc h)
in-main file i (suc j) to g args e h = in-steps file i j to g args (omega arith) (get-either (main_steps file) (RunDefers ∷ Leave [] ∷ []) j (Call to g args) h)

in-rest : (file : File) (i j : ℕ) (to : List ℕ) (g : ℕ) (args : List ℕ) → i ≡ 5 + j → (slice_get (items_kinds 5 file.items) j ≡ Some (Call to g args)) ⊎ ((k : ℕ) × (j ≡ length (items_kinds 5 file.items) + k) × (slice_get (main_kinds file) k ≡ Some (Call to g args))) → AtStep file i to g args
in-rest file i j to g args e (inl h) = absurd (items-call-none 5 file.items j to g args h)
in-rest file i j to g args e (inr h) = in-main file i h.0 to g args (omega (arith, e, h.1, length-items_kinds 5 file.items)) h.2

call-by : (file : File) (i : ℕ) (to : List ℕ) (g : ℕ) (args : List ℕ) → (slice_get (entry_kinds file) i ≡ Some (Call to g args)) ⊎ ((j : ℕ) × (i ≡ length (entry_kinds file) + j) × (slice_get (items_kinds 5 file.items ++ main_kinds file) j ≡ Some (Call to g args))) → IsOpening (code_of file) i g ⊎ AtStep file i to g args
call-by file i to g args (inl h) = inl (opening-only file i to g args h)
call-by file i to g args (inr h) = inr (in-rest file i h.0 to g args h.1 (get-either (items_kinds 5 file.items) (main_kinds file) h.0 (Call to g args) h.2))

call-place : (file : File) (i : ℕ) (to : List ℕ) (g : ℕ) (args : List ℕ) → IsAt (code_of file) i (Call to g args) → IsOpening (code_of file) i g ⊎ AtStep file i to g args
call-place file i to g args h = call-by file i to g args (get-either (entry_kinds file) (items_kinds 5 file.items ++ main_kinds file) i (Call to g args) (sym (kind_at-is file i) ∙ h))

-- the shape of a program of the first form
pub shape-of : (file : File) → FunctionsFit (functions_of file.items) → StepsFit (functions_of file.items) (steps_of file) → Shape (code_of file) (functions_of file.items) (main_steps file) (base_of file)
shape-of file ff sf =
    record {
      step_at = λ j kind h. step-at file j kind h;
      step_shape = λ j kind h. step-shape (functions_of file.items) (steps_of file) ff sf j kind h;
      defers_at = ap (λ y. kind_at (code_of file) (base_of file + y)) (sym (add-zero (length (main_steps file)))) ∙ end-at file 0 RunDefers refl;
      leave_at = end-at file 1 (Leave []) refl;
      call_places = λ i to g args h. call-place file i to g args h;
      entries = λ g pl f. entry-goto file g pl (which file g pl f);
      leaves = λ g pl f. leave-there file g pl (which file g pl f);
      parameters = λ g pl f. parameters-of file g pl (which file g pl f);
      block = λ k fn h. block-of file k fn h;
      main_live = λ j h. place-live file j h;
      called_live = λ j to g args h. called-live file j to g args h;
    }
