-- The plain code of a program of the first form.
use Rattle.std.specs.Prelude.{ℕ, ◌+◌, List, [], ◌∷◌, ◌++◌, length, map, drop, if◌then◌else◌, codes}
use Rattle.std.specs.List.{position_or_len}
use Rattle.std.specs.Str.{bytes_eq}
use Rattle.argot_first_form.specs.declared.steps.Operand.{Operand}
use Rattle.argot_first_form.specs.declared.steps.Operand.TheVariants as operands
use Rattle.argot_first_form.specs.declared.steps.Action.{Action}
use Rattle.argot_first_form.specs.declared.steps.Action.TheVariants as actions
use Rattle.argot_first_form.specs.declared.steps.Step.{Step}
use Rattle.argot_first_form.specs.declared.functions.Function.{Function}
use Rattle.argot_first_form.specs.Tree.{Parameter, Fixed, atom_text, Item, Blank, Func, Void, item_text, items_text, body_text, blanks_text, File, text_of}
use Rattle.argot_first_form.specs.Steps.{offset_of, functions_of, steps_of}
use Rattle.argot_first_form.specs.Form.{among, declared_by, named, has_result}
use Rattle.argot_plain.specs.First.{Instr, Plain, Code}
use Rattle.argot_plain.specs.declared.first.Kind.{Kind}
use Rattle.argot_plain.specs.declared.first.Kind.TheVariants.{Op, Move, Call, RunDefers, Leave, Goto, Branch}

abbrev pub instr : ℕ → List ℕ → Kind → Instr
instr total text kind = record { kind = kind; at = offset_of total text }

-- how many places the function of an item has
abbrev pub places : Item → ℕ
places Blank = 0
places (Func f ps (Fixed t)) = 6
places (Func f ps (Parameter n)) = 5
places (Void f ps) = 3

abbrev pub all_places : List Item → ℕ
all_places [] = 0
all_places (x ∷ xs) = places x + all_places xs

-- the number of the first that has this name
abbrev pub number_of : List (List ℕ) → List ℕ → ℕ
number_of names n = position_or_len (λ m. bytes_eq m n) names

-- the instructions of an item's function from this place on: its parameters come first among its registers, then its result
abbrev pub item_instrs : ℕ → ℕ → Item → List ℕ → List Instr
item_instrs total base Blank rest = []
item_instrs total base (Func f ps (Fixed t)) rest =
    let name = drop 5 (item_text (Func f ps (Fixed t)) rest) in
    let closing = codes "}" ++ (10 ∷ rest) in
    let value = atom_text (Fixed t) (32 ∷ closing) in
    let returning = codes "return " ++ value in
    instr total name (Goto (base + 1)) ∷ instr total value (Op (length ps + 1) []) ∷ instr total returning (Move (length ps) (length ps + 1)) ∷ instr total returning (Goto (base + 4)) ∷ instr total closing RunDefers ∷ instr total closing (Leave (length ps ∷ [])) ∷ []
item_instrs total base (Func f ps (Parameter n)) rest =
    let name = drop 5 (item_text (Func f ps (Parameter n)) rest) in
    let closing = codes "}" ++ (10 ∷ rest) in
    let returning = codes "return " ++ atom_text (Parameter n) (32 ∷ closing) in
    instr total name (Goto (base + 1)) ∷ instr total returning (Move (length ps) (number_of ps n)) ∷ instr total returning (Goto (base + 3)) ∷ instr total closing RunDefers ∷ instr total closing (Leave (length ps ∷ [])) ∷ []
item_instrs total base (Void f ps) rest =
    let name = drop 5 (item_text (Void f ps) rest) in
    let closing = codes "}" ++ (10 ∷ rest) in
    instr total name (Goto (base + 1)) ∷ instr total closing RunDefers ∷ instr total closing (Leave []) ∷ []

abbrev pub items_instrs : ℕ → ℕ → List Item → List ℕ → List Instr
items_instrs total base [] rest = []
items_instrs total base (x ∷ xs) rest = item_instrs total base x (items_text xs rest) ++ items_instrs total (base + places x) xs rest

abbrev pub item_functions : ℕ → Item → List Plain
item_functions base Blank = []
item_functions base (Func f ps (Fixed t)) = record { name = f; entry = base; exit = base + 4; leave = base + 5; params = length ps; results = 1 } ∷ []
item_functions base (Func f ps (Parameter n)) = record { name = f; entry = base; exit = base + 3; leave = base + 4; params = length ps; results = 1 } ∷ []
item_functions base (Void f ps) = record { name = f; entry = base; exit = base + 1; leave = base + 2; params = length ps; results = 0 } ∷ []

abbrev pub items_functions : ℕ → List Item → List Plain
items_functions base [] = []
items_functions base (x ∷ xs) = item_functions base x ++ items_functions (base + places x) xs

-- main's registers: the register i is first given by main's step i; a variable has that of the step that declares it
abbrev pub variable : List Step → List ℕ → ℕ
variable steps n = position_or_len (λ s. among (declared_by s.action) n) steps

abbrev pub register : List Step → Operand → ℕ
register steps (operands.Variable n) = variable steps n
register steps (operands.Step i) = i

-- the opening function has the number 0, and those before main follow it
abbrev pub function_number : List Function → List ℕ → ℕ
function_number functions f = position_or_len (λ g. bytes_eq g.name f) functions + 1

-- what main's step i is
abbrev pub kind_of : List Function → List Step → ℕ → Action → Kind
kind_of functions steps i actions.Text = Op i []
kind_of functions steps i (actions.Call f vs) = Call (if has_result (named functions f) then i ∷ [] else []) (function_number functions f) (map (register steps) vs)
kind_of functions steps i (actions.Define n v) = Move i (register steps v)
kind_of functions steps i (actions.Assign n v) = Move (variable steps n) (register steps v)

abbrev pub step_instrs : List Function → List Step → ℕ → List Step → List Instr
step_instrs functions steps i [] = []
step_instrs functions steps i (s ∷ ss) = record { kind = kind_of functions steps i s.action; at = s.at } ∷ step_instrs functions steps (i + 1) ss

-- where main begins
abbrev pub main_entry : File → ℕ
main_entry file = 5 + all_places file.items

abbrev pub main_number : File → ℕ
main_number file = length (functions_of file.items) + 1

-- the text of the file from main's name on
abbrev pub main_name : File → List ℕ
main_name file = codes "main() {" ++ (10 ∷ body_text file.body (codes "}" ++ (10 ∷ blanks_text file.blanks)))

abbrev pub entry_instrs : File → List Instr
entry_instrs file =
    let here = instr (length (text_of file)) (main_name file) in
    here (Goto 1) ∷ here (Branch (2 ∷ [])) ∷ here (Call [] (main_number file) []) ∷ here RunDefers ∷ here (Leave []) ∷ []

abbrev pub main_instrs : File → List Instr
main_instrs file =
    let total = length (text_of file) in
    let closing = codes "}" ++ (10 ∷ blanks_text file.blanks) in
    instr total (main_name file) (Goto (main_entry file + 1)) ∷ (step_instrs (functions_of file.items) (steps_of file) 0 (steps_of file) ++ (instr total closing RunDefers ∷ instr total closing (Leave []) ∷ []))

abbrev pub entry_function : Plain
entry_function = record { name = []; entry = 0; exit = 3; leave = 4; params = 0; results = 0 }

abbrev pub main_function : File → Plain
main_function file =
    let last = main_entry file + length (steps_of file) in
    record { name = codes "main"; entry = main_entry file; exit = last + 1; leave = last + 2; params = 0; results = 0 }

-- the plain program: the opening function, the functions before main, and main
abbrev pub code_of : File → Code
code_of file =
    record {
      functions = entry_function ∷ (items_functions 5 file.items ++ main_function file ∷ []);
      instrs = entry_instrs file ++ (items_instrs (length (text_of file)) 5 file.items (codes "func " ++ main_name file) ++ main_instrs file);
    }
