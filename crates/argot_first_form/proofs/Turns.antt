-- One step of reading.
use Rattle.std.proofs.Common.{◌≡◌, ℕ, zero, suc, ◌-◌, ◌<◌, ◌≤◌, List, [], ◌∷◌, ◌++◌, Some, None, refl, arith, sub-one, if◌then◌else◌}
use Rattle.std.specs.Prelude.{codes}
use Rattle.argot_first_form.specs.declared.steps.Operand.{Operand}
use Rattle.argot_first_form.specs.Front.{Front}
use Rattle.argot_first_form.specs.declared.functions.Function.{Function}
use Rattle.argot_first_form.specs.Reading.{◌>>=◌, begins, behind, past, name, value, value_by, arguments, statement, body, parameters, function, items, main_line}

pub value_none : (f : Front) → value 0 f ≡ None
unfolding value
value_none f = refl

pub arguments_none : (read : List Operand) (f : Front) → arguments 0 read f ≡ None
unfolding value
arguments_none read f = refl

-- as the end of a loop has it
pub arguments_over : (n : ℕ) (read : List Operand) (f : Front) → n ≤ 0 → arguments n read f ≡ None
unfolding value
arguments_over zero read f h = refl
arguments_over (suc m) read f h = absurd (omega arith)

pub value_more : (n : ℕ) (f : Front) → 0 < n → value n f ≡ value_by (arguments (n - 1) []) f
unfolding value
value_more zero f h = absurd (omega arith)
value_more (suc m) f h = rw sub-one refl

pub arguments_more : (n : ℕ) (read : List Operand) (f : Front) → 0 < n → arguments n read f ≡ (value (n - 1) f >>= λ r. (if begins (codes ", ") r.1 then arguments (n - 1) (read ++ r.0 ∷ []) (behind 2 r.1) else Some (read ++ r.0 ∷ [], r.1)))
unfolding value
arguments_more zero read f h = absurd (omega arith)
arguments_more (suc m) read f h = rw sub-one refl

pub body_over : (n : ℕ) (f : Front) → n ≤ 0 → body n f ≡ None
unfolding body
body_over zero f h = refl
body_over (suc m) f h = absurd (omega arith)

pub body_more : (n : ℕ) (f : Front) → 0 < n → body n f ≡ (if begins (codes "\t") f then ((statement (behind 1 f) >>= past (10 ∷ [])) >>= body (n - 1)) else Some f)
unfolding body
body_more zero f h = absurd (omega arith)
body_more (suc m) f h = rw sub-one refl

pub parameters_over : (n : ℕ) (read : List (List ℕ)) (f : Front) → n ≤ 0 → parameters n read f ≡ None
unfolding parameters
parameters_over zero read f h = refl
parameters_over (suc m) read f h = absurd (omega arith)

pub parameters_more : (n : ℕ) (read : List (List ℕ)) (f : Front) → 0 < n → parameters n read f ≡ (name f >>= λ r. (past (codes " string") r.1 >>= λ g. (if begins (codes ", ") g then parameters (n - 1) (read ++ r.0 ∷ []) (behind 2 g) else Some (read ++ r.0 ∷ [], g))))
unfolding parameters
parameters_more zero read f h = absurd (omega arith)
parameters_more (suc m) read f h = rw sub-one refl

pub items_over : (n : ℕ) (read : List Function) (f : Front) → n ≤ 0 → items n read f ≡ None
unfolding items
items_over zero read f h = refl
items_over (suc m) read f h = absurd (omega arith)

pub items_more : (n : ℕ) (read : List Function) (f : Front) → 0 < n → items n read f ≡ (if begins (10 ∷ []) f then items (n - 1) read (behind 1 f) else (if begins main_line f then Some (read, behind 14 f) else (function f >>= λ r. items (n - 1) (read ++ r.0 ∷ []) r.1)))
unfolding items
items_more zero read f h = absurd (omega arith)
items_more (suc m) read f h = rw sub-one refl
