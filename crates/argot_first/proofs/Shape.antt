-- What the flows of a program rest on: where its functions and main's steps stand.
use Rattle.std.proofs.Common.{◌≡◌, ℕ, zero, suc, ◌+◌, ◌<◌, ◌≤◌, List, [], ◌∷◌, Some, length, refl, sym, ◌∙◌, subst, arith, add-one, ◌⊎◌, inl, inr}
use Rattle.std.specs.Prelude.{slice_get, codes}
use Rattle.std.proofs.lemmas.Option.{slice_get_within}
use Rattle.argot_first_form.specs.Tree.{File}
use Rattle.argot_first_form.specs.Steps.{functions_of}
use Rattle.argot_first_form.specs.declared.functions.Function.{Function}
use Rattle.argot_first_form.specs.declared.functions.Returned.TheVariants as returns
use Rattle.argot_plain.specs.declared.first.Kind.{Kind}
use Rattle.argot_plain.specs.declared.first.Kind.TheVariants.{Op, Move, Call, RunDefers, Leave, Goto, Branch}
use Rattle.argot_plain.specs.First.{Plain, Code, IsAt, IsFunction, Live, IsLivePlace}
use Rattle.argot_first.specs.Code.{number_of, items_functions, main_number, entry_function, main_function, code_of}
use Rattle.argot_first.proofs.Lookup.{some-same, get-either}
use Rattle.argot_first.proofs.Blocks.{IsBlock, FoundBlock, found-block, length-plains, all_kinds, items-stand, kind_at-is}

-- a Call of the opening function is one of main, which has its own name
pub record IsOpening (code : Code) (i g : ℕ) : Type 0 where
  pub is_main : (pl : Plain) → IsFunction code g pl → pl.name ≡ codes "main"

-- a step's own facts
abbrev pub StepShape : List Function → List Kind → ℕ → Kind → Type 0
StepShape functions kinds j (Op to from) = (to ≡ j) × (from ≡ [])
StepShape functions kinds j (Move to from) = to < length kinds
StepShape functions kinds j (Call to g args) =
    (k : ℕ) × (fn : Function) × (g ≡ k + 1) × (slice_get functions k ≡ Some fn) × (length args ≡ length fn.parameters) × ((to ≡ []) ⊎ (to ≡ j ∷ [])) × ((n : List ℕ) → fn.returned ≡ returns.Parameter n → (to ≡ j ∷ []) × (number_of fn.parameters n < length fn.parameters))
StepShape functions kinds j RunDefers = ⊥
StepShape functions kinds j (Leave from) = ⊥
StepShape functions kinds j (Goto target) = ⊥
StepShape functions kinds j (Branch targets) = ⊥

pub record Shape (code : Code) (functions : List Function) (kinds : List Kind) (base : ℕ) : Type 0 where
  pub step_at : (j : ℕ) (kind : Kind) → slice_get kinds j ≡ Some kind → IsAt code (base + j) kind
  pub step_shape : (j : ℕ) (kind : Kind) → slice_get kinds j ≡ Some kind → StepShape functions kinds j kind
  pub defers_at : IsAt code (base + length kinds) RunDefers
  pub leave_at : IsAt code (base + (length kinds + 1)) (Leave [])
  pub call_places : (i : ℕ) (to : List ℕ) (g : ℕ) (args : List ℕ) → IsAt code i (Call to g args) → IsOpening code i g ⊎ ((j : ℕ) × (i ≡ base + j) × (slice_get kinds j ≡ Some (Call to g args)))
  pub entries : (g : ℕ) (pl : Plain) → IsFunction code g pl → (target : ℕ) × IsAt code pl.entry (Goto target)
  pub leaves : (g : ℕ) (pl : Plain) → IsFunction code g pl → (from : List ℕ) × IsAt code pl.leave (Leave from)
  -- a function with parameters is one of those before main
  pub parameters : (g : ℕ) (pl : Plain) → IsFunction code g pl → (pl.params ≡ 0) ⊎ ((fn : Function) × IsBlock code fn pl)
  pub block : (k : ℕ) (fn : Function) → slice_get functions k ≡ Some fn → (pl : Plain) × IsFunction code (k + 1) pl × IsBlock code fn pl
  pub main_live : (j : ℕ) → j ≤ length kinds + 1 → IsLivePlace code (base + j)
  -- a function before main that main calls is live
  pub called_live : (j : ℕ) (to : List ℕ) (g : ℕ) (args : List ℕ) → slice_get kinds j ≡ Some (Call to g args) → Live code g

-- a block of the program in its code
pub is-block : (file : File) (k : ℕ) → (b : FoundBlock (all_kinds file) (functions_of file.items) (items_functions 5 file.items) k) → IsBlock (code_of file) b.fn b.pl
is-block file k b = record {
  name = b.name;
  params = b.params;
  leave = b.leave;
  kinds = λ i kind h. kind_at-is file (b.pl.entry + i) ∙ b.stands i kind h;
}

pub found-at : (file : File) (k : ℕ) → k < length (functions_of file.items) → FoundBlock (all_kinds file) (functions_of file.items) (items_functions 5 file.items) k
found-at file k h = found-block (all_kinds file) 5 file.items (items-stand file) k h

-- which function has a number
pub data Which (file : File) (g : ℕ) (pl : Plain) : Type 0 where
  the_entry : g ≡ 0 → pl ≡ entry_function → Which file g pl
  an_item : (k : ℕ) → g ≡ k + 1 → (b : FoundBlock (all_kinds file) (functions_of file.items) (items_functions 5 file.items) k) → pl ≡ b.pl → Which file g pl
  the_main : g ≡ main_number file → pl ≡ main_function file → Which file g pl

which-by : (file : File) (k : ℕ) (pl : Plain) → (slice_get (items_functions 5 file.items) k ≡ Some pl) ⊎ ((j : ℕ) × (k ≡ length (items_functions 5 file.items) + j) × (slice_get (main_function file ∷ []) j ≡ Some pl)) → Which file (k + 1) pl
which-by file k pl (inl h) =
    let b = found-at file k (subst (λ n. k < n) (length-plains 5 file.items) (slice_get_within (items_functions 5 file.items) k pl h)) in
    an_item k refl b (some-same (sym h ∙ b.is_pl))
which-by file k pl (inr (zero, e, h)) = the_main (omega (arith, e, length-plains 5 file.items)) (sym (some-same h))
which-by file k pl (inr (suc j, e, h)) = absurd (cc h)

pub which : (file : File) (g : ℕ) (pl : Plain) → IsFunction (code_of file) g pl → Which file g pl
which file zero pl h = the_entry refl (sym (some-same h))
which file (suc k) pl h = rw (← add-one) (which-by file k pl (get-either (items_functions 5 file.items) (main_function file ∷ []) k pl h))
