-- The text of a file is read as that file's functions and steps.
use Rattle.std.proofs.Common.{◌≡◌, ℕ, zero, suc, ◌+◌, ◌-◌, ◌<◌, ◌≤◌, List, [], ◌∷◌, ◌++◌, Some, Bool, true, false, length, take, drop, refl, sym, ap, ◌∙◌, arith, append_assoc, length-append, append-nil}
use Rattle.std.specs.Prelude.{codes}
use Rattle.std.specs.List.{prefix_len}
use Rattle.std.specs.Char.{is_ascii_alphanumeric}
use Rattle.std.proofs.lemmas.Bool.{false≢true}
use Rattle.std.proofs.Math.Seq.{take-append_seam}
use Rattle.argot_first_form.specs.Bytes.{is_name, is_reserved}
use Rattle.argot_first_form.specs.Tree.{Value, Variable, Quoted, Called, Values, no_value, beside, value_text, values_text, more_text, Statement, Define, Assign, Do, statement_text, body_text, Atom, Parameter, Fixed, atom_text, parameters_text, more_parameters_text, Item, Blank, Func, Void, item_text, items_text, blanks_text, File, text_of}
use Rattle.argot_first_form.specs.Words.{IsName, HasWords, HaveWords, StatementWords, BodyWords, AllNames, AtomWords, ItemWords, ItemsWords, FileWords}
use Rattle.argot_first_form.specs.Steps.{statement_steps, statement_size, body_steps, steps_of, functions_of, returned_of}
use Rattle.argot_first_form.specs.declared.functions.Function.{Function}
use Rattle.argot_first_form.specs.declared.functions.Returned.TheVariants as returns
use Rattle.argot_first_form.specs.declared.steps.Step.{Step}
use Rattle.argot_first_form.specs.Reading.{begins, statement, statement_behind, body, atom, returned, parameters, all_parameters, function, items, main_line, main_behind, ending, read}
use Rattle.argot_first_form.proofs.Pieces.{front, name-exact, name-letter, name-alphanumeric, quoted-exact, begins-sound, prefix_len-all}
use Rattle.argot_first_form.proofs.Exact.{value_need, values_need, length-value_steps, length-values_steps, Stops, stops-newline, value-exact, arguments-exact, call-exact, letter-begins}

name-length : (n : List ℕ) → IsName n → 1 ≤ length n
name-length [] h = absurd (cc (name-letter [] h))
name-length (x ∷ xs) h = omega arith

mutual
  pub value-fits : (v : Value) (r : List ℕ) → HasWords v → value_need v + length r ≤ length (value_text v r)
  value-fits (Variable n) r h = simp length-append (omega (arith, name-length n h))
  value-fits (Quoted t) r h = simp length-append (omega arith)
  value-fits (Called f vs) r h = simp length-append (omega (arith, values-fits vs (41 ∷ r) h.1))

  pub values-fits : (vs : Values) (r : List ℕ) → HaveWords vs → values_need vs + length r ≤ length (values_text vs r) + 1
  values-fits no_value r h = omega arith
  values-fits (beside v vs) r h = omega (arith, value-fits v (more_text vs r) h.0, more-fits vs r h.1)

  pub more-fits : (vs : Values) (r : List ℕ) → HaveWords vs → values_need vs + length r ≤ length (more_text vs r)
  more-fits no_value r h = omega arith
  more-fits (beside v vs) r h = omega (arith, value-fits v (more_text vs r) h.0, more-fits vs r h.1)

pub length-statement_steps : (x : Statement) (total place : ℕ) (r : List ℕ) → length (statement_steps x total place r) ≡ statement_size x
length-statement_steps (Define n v) total place r = simp length-append (omega (arith, length-value_steps v total place r))
length-statement_steps (Assign n v) total place r = simp length-append (omega (arith, length-value_steps v total place r))
length-statement_steps (Do f vs) total place r = simp length-append (omega (arith, length-values_steps vs total place (41 ∷ r)))

pub statement-exact : (x : Statement) (total : ℕ) (r : List ℕ) (steps : List Step) → StatementWords x → Stops r → length (statement_text x r) ≤ total → statement (front total (statement_text x r) steps) ≡ Some (front total r (steps ++ statement_steps x total (length steps) r))
unfolding statement statement_behind
statement-exact (Define n v) total r steps h s fits =
    let l : value_need v ≤ total = omega (arith, value-fits v r h.1, length-append n (codes " := " ++ value_text v r)) in
    rw (name-exact total n (codes " := " ++ value_text v r) steps h.0 refl, value-exact v h.1 total total r steps l s, append_assoc) refl
statement-exact (Assign n v) total r steps h s fits =
    let l : value_need v ≤ total = omega (arith, value-fits v r h.1, length-append n (codes " = " ++ value_text v r)) in
    rw (name-exact total n (codes " = " ++ value_text v r) steps h.0 refl, value-exact v h.1 total total r steps l s, append_assoc) refl
statement-exact (Do f vs) total r steps h s fits =
    let l : values_need vs ≤ total = omega (arith, values-fits vs (41 ∷ r) h.1, length-append f (40 ∷ values_text vs (41 ∷ r)), name-length f h.0) in
    rw (name-exact total f (40 ∷ values_text vs (41 ∷ r)) steps h.0 refl, call-exact f vs total (total - length (statement_text (Do f vs) r)) total r steps (λ t q ss. arguments-exact vs h.1 total t q ss l)) refl

statement-longer : (x : Statement) (r : List ℕ) → StatementWords x → length r ≤ length (statement_text x r)
statement-longer (Define n v) r h = omega (arith, value-fits v r h.1, length-append n (codes " := " ++ value_text v r))
statement-longer (Assign n v) r h = omega (arith, value-fits v r h.1, length-append n (codes " = " ++ value_text v r))
statement-longer (Do f vs) r h = omega (arith, values-fits vs (41 ∷ r) h.1, length-append f (40 ∷ values_text vs (41 ∷ r)))

-- the steps of a body behind its first statement's
joined : (x : Statement) (xs : List Statement) (n total : ℕ) (r : List ℕ) (steps : List Step) →
    let place = length (steps ++ statement_steps x total (length steps) (10 ∷ body_text xs (125 ∷ r))) in
    body n (front total (body_text xs (125 ∷ r)) (steps ++ statement_steps x total (length steps) (10 ∷ body_text xs (125 ∷ r)))) ≡ Some (front total (125 ∷ r) ((steps ++ statement_steps x total (length steps) (10 ∷ body_text xs (125 ∷ r))) ++ body_steps xs total place (125 ∷ r))) →
    body n (front total (body_text xs (125 ∷ r)) (steps ++ statement_steps x total (length steps) (10 ∷ body_text xs (125 ∷ r)))) ≡ Some (front total (125 ∷ r) (steps ++ body_steps (x ∷ xs) total (length steps) (125 ∷ r)))
joined x xs n total r steps p =
    let place = length (steps ++ statement_steps x total (length steps) (10 ∷ body_text xs (125 ∷ r))) in
    let e : place ≡ length steps + statement_size x = rw (length-append, length-statement_steps x total (length steps) (10 ∷ body_text xs (125 ∷ r))) refl in
    p ∙ (ap (λ k. Some (front total (125 ∷ r) ((steps ++ statement_steps x total (length steps) (10 ∷ body_text xs (125 ∷ r))) ++ body_steps xs total k (125 ∷ r)))) e ∙ simp append_assoc)

pub body-exact : (xs : List Statement) (n total : ℕ) (r : List ℕ) (steps : List Step) → BodyWords xs → length xs < n → length (body_text xs (125 ∷ r)) ≤ total → body n (front total (body_text xs (125 ∷ r)) steps) ≡ Some (front total (125 ∷ r) (steps ++ body_steps xs total (length steps) (125 ∷ r)))
unfolding body
body-exact xs zero total r steps h small fits = absurd (omega arith)
body-exact [] (suc n) total r steps h small fits = rw append-nil refl
body-exact (x ∷ xs) (suc n) total r steps h small fits =
    let l = statement-longer x (10 ∷ body_text xs (125 ∷ r)) h.0 in
    rw (statement-exact x total (10 ∷ body_text xs (125 ∷ r)) steps h.0 (stops-newline _) (omega arith))
    (joined x xs n total r steps (body-exact xs n total r (steps ++ statement_steps x total (length steps) (10 ∷ body_text xs (125 ∷ r))) h.1 (omega arith) (omega arith)))

pub parameters-exact : (ps : List (List ℕ)) (p : List ℕ) (n total : ℕ) (given : List (List ℕ)) (r : List ℕ) (steps : List Step) → IsName p → AllNames ps → length ps < n → parameters n given (front total (parameters_text (p ∷ ps) (41 ∷ r)) steps) ≡ Some (given ++ p ∷ ps, front total (41 ∷ r) steps)
unfolding parameters
parameters-exact ps p zero total given r steps h hs small = absurd (omega arith)
parameters-exact [] p (suc n) total given r steps h hs small = rw (name-exact total p (codes " string" ++ (41 ∷ r)) steps h refl) refl
parameters-exact (q ∷ ps) p (suc n) total given r steps h hs small =
    rw (name-exact total p (codes " string" ++ more_parameters_text (q ∷ ps) (41 ∷ r)) steps h refl)
    (parameters-exact ps q n total (given ++ p ∷ []) r steps hs.0 hs.1 (omega arith) ∙ simp append_assoc)

parameters-longer : (ps : List (List ℕ)) (r : List ℕ) → length ps + length r ≤ length (more_parameters_text ps r)
parameters-longer [] r = omega arith
parameters-longer (p ∷ ps) r = simp length-append (omega (arith, parameters-longer ps r))

pub all_parameters-exact : (ps : List (List ℕ)) (total : ℕ) (r : List ℕ) (steps : List Step) → AllNames ps → length (parameters_text ps (41 ∷ r)) ≤ total → all_parameters (front total (parameters_text ps (41 ∷ r)) steps) ≡ Some (ps, front total (41 ∷ r) steps)
all_parameters-exact [] total r steps h fits = refl
all_parameters-exact (p ∷ ps) total r steps h fits =
    rw (letter-begins 41 p (codes " string" ++ more_parameters_text ps (41 ∷ r)) (name-letter p h.0) refl)
    (parameters-exact ps p total total [] r steps h.0 h.1 (omega (arith, parameters-longer ps (41 ∷ r), length-append p (codes " string" ++ more_parameters_text ps (41 ∷ r)))))

atom-exact : (a : Atom) (total : ℕ) (r : List ℕ) (steps : List Step) → AtomWords a → prefix_len is_ascii_alphanumeric r ≡ 0 → atom (front total (atom_text a r) steps) ≡ Some (returned_of a, front total r steps)
unfolding atom
atom-exact (Parameter n) total r steps h z = rw (letter-begins 34 n r (name-letter n h) refl, name-exact total n r steps h z) refl
atom-exact (Fixed t) total r steps h z = rw (quoted-exact total t r steps h) refl

returned-exact : (a : Atom) (total : ℕ) (r : List ℕ) (steps : List Step) → AtomWords a → returned (front total (codes ") string { return " ++ atom_text a (codes " }" ++ r)) steps) ≡ Some (returned_of a, front total r steps)
unfolding returned
returned-exact a total r steps h = rw (atom-exact a total (codes " }" ++ r) steps h refl) refl

nothing-exact : (total : ℕ) (r : List ℕ) (steps : List Step) → returned (front total (codes ") {}" ++ r) steps) ≡ Some (returns.Nothing, front total r steps)
unfolding returned
nothing-exact total r steps = refl

func-exact : (f : List ℕ) (ps : List (List ℕ)) (a : Atom) (total : ℕ) (r : List ℕ) (steps : List Step) → ItemWords (Func f ps a) → length (item_text (Func f ps a) r) ≤ total → function (front total (item_text (Func f ps a) r) steps) ≡ Some (record { name = f; parameters = ps; returned = returned_of a }, front total r steps)
unfolding function
func-exact f ps a total r steps h fits =
    let q = codes ") string { return " ++ atom_text a (codes " }" ++ (10 ∷ r)) in
    let l : length (parameters_text ps q) ≤ total = omega (arith, length-append f (40 ∷ parameters_text ps q)) in
    rw (name-exact total f (40 ∷ parameters_text ps q) steps h.0 refl, all_parameters-exact ps total (drop 1 q) steps h.1 l, returned-exact a total (10 ∷ r) steps h.2) refl

void-exact : (f : List ℕ) (ps : List (List ℕ)) (total : ℕ) (r : List ℕ) (steps : List Step) → ItemWords (Void f ps) → length (item_text (Void f ps) r) ≤ total → function (front total (item_text (Void f ps) r) steps) ≡ Some (record { name = f; parameters = ps; returned = returns.Nothing }, front total r steps)
unfolding function
void-exact f ps total r steps h fits =
    let q = codes ") {}" ++ (10 ∷ r) in
    let l : length (parameters_text ps q) ≤ total = omega (arith, length-append f (40 ∷ parameters_text ps q)) in
    rw (name-exact total f (40 ∷ parameters_text ps q) steps h.0 refl, all_parameters-exact ps total (drop 1 q) steps h.1 l, nothing-exact total (10 ∷ r) steps) refl

-- a text's word: the letters and digits that it begins with
abbrev word : List ℕ → List ℕ
word l = take (prefix_len is_ascii_alphanumeric l) l

word-exact : (n r : List ℕ) → IsName n → prefix_len is_ascii_alphanumeric r ≡ 0 → word (n ++ r) ≡ n
word-exact n r h z = rw (prefix_len-all is_ascii_alphanumeric n r (name-alphanumeric n h) z) (take-append_seam n r)

main-reserved : is_name (codes "main") ≡ false
unfolding is_name is_reserved
main-reserved = refl

main-by : (b : Bool) (f r : List ℕ) (total : ℕ) (steps : List Step) → begins main_line (front total (codes "func " ++ (f ++ (40 ∷ r))) steps) ≡ b → IsName f → b ≡ false
main-by false f r total steps e h = refl
main-by true f r total steps e h =
    let s = begins-sound main_line (front total (codes "func " ++ (f ++ (40 ∷ r))) steps) e in
    let w : word (f ++ (40 ∷ r)) ≡ codes "main" = ap (λ l. word (drop 5 l)) s in
    absurd (false≢true (sym main-reserved ∙ (ap is_name (sym w ∙ word-exact f (40 ∷ r) h refl) ∙ h)))

-- no function's line is main's
pub main-differs : (f r : List ℕ) (total : ℕ) (steps : List Step) → IsName f → begins main_line (front total (codes "func " ++ (f ++ (40 ∷ r))) steps) ≡ false
main-differs f r total steps h = main-by _ f r total steps refl h

parameters_text-longer : (ps : List (List ℕ)) (r : List ℕ) → length r ≤ length (parameters_text ps r)
parameters_text-longer [] r = omega arith
parameters_text-longer (p ∷ ps) r = simp length-append (omega (arith, parameters-longer ps r))

atom-longer : (a : Atom) (r : List ℕ) → length r ≤ length (atom_text a r)
atom-longer (Parameter n) r = simp length-append (omega arith)
atom-longer (Fixed t) r = simp length-append (omega arith)

item-longer : (x : Item) (r : List ℕ) → length r + 1 ≤ length (item_text x r)
item-longer Blank r = omega arith
item-longer (Func f ps a) r =
    let q = codes ") string { return " ++ atom_text a (codes " }" ++ (10 ∷ r)) in
    omega (arith, length-append f (40 ∷ parameters_text ps q), parameters_text-longer ps q, atom-longer a (codes " }" ++ (10 ∷ r)))
item-longer (Void f ps) r =
    let q = codes ") {}" ++ (10 ∷ r) in
    omega (arith, length-append f (40 ∷ parameters_text ps q), parameters_text-longer ps q)

pub items-longer : (xs : List Item) (r : List ℕ) → length xs + length r ≤ length (items_text xs r)
items-longer [] r = omega arith
items-longer (x ∷ xs) r = omega (arith, items-longer xs r, item-longer x (items_text xs r))

pub items-exact : (xs : List Item) (n total : ℕ) (given : List Function) (r : List ℕ) (steps : List Step) → ItemsWords xs → length xs < n → length (items_text xs (main_line ++ r)) ≤ total → items n given (front total (items_text xs (main_line ++ r)) steps) ≡ Some (given ++ functions_of xs, front total r steps)
unfolding items
items-exact xs zero total given r steps h small fits = absurd (omega arith)
items-exact [] (suc n) total given r steps h small fits = rw append-nil refl
items-exact (Blank ∷ xs) (suc n) total given r steps h small fits = items-exact xs n total given r steps h.1 (omega arith) (omega arith)
items-exact (Func f ps a ∷ xs) (suc n) total given r steps h small fits =
    let q = items_text xs (main_line ++ r) in
    let l : length q ≤ total = omega (arith, item-longer (Func f ps a) q) in
    rw (main-differs f (parameters_text ps (codes ") string { return " ++ atom_text a (codes " }" ++ (10 ∷ q)))) total steps h.0.0, func-exact f ps a total q steps h.0 fits)
    (items-exact xs n total (given ++ record { name = f; parameters = ps; returned = returned_of a } ∷ []) r steps h.1 (omega arith) l ∙ simp append_assoc)
items-exact (Void f ps ∷ xs) (suc n) total given r steps h small fits =
    let q = items_text xs (main_line ++ r) in
    let l : length q ≤ total = omega (arith, item-longer (Void f ps) q) in
    rw (main-differs f (parameters_text ps (codes ") {}" ++ (10 ∷ q))) total steps h.0.0, void-exact f ps total q steps h.0 fits)
    (items-exact xs n total (given ++ record { name = f; parameters = ps; returned = returns.Nothing } ∷ []) r steps h.1 (omega arith) l ∙ simp append_assoc)

blanks-end : (n total : ℕ) (steps : List Step) → ending (front total (blanks_text n) steps) ≡ true
blanks-end zero total steps = refl
blanks-end (suc n) total steps = blanks-end n total steps

body-longer : (xs : List Statement) (r : List ℕ) → BodyWords xs → length xs + length r ≤ length (body_text xs r)
body-longer [] r h = omega arith
body-longer (x ∷ xs) r h = omega (arith, body-longer xs r h.1, statement-longer x (10 ∷ body_text xs r) h.0)

main-exact : (xs : List Statement) (n total : ℕ) → BodyWords xs → length (body_text xs (codes "}" ++ (10 ∷ blanks_text n))) ≤ total → main_behind (front total (body_text xs (codes "}" ++ (10 ∷ blanks_text n))) []) ≡ Some (front total (blanks_text n) (body_steps xs total 0 (codes "}" ++ (10 ∷ blanks_text n))))
unfolding main_behind
main-exact xs n total h fits =
    let l : length xs < total = omega (arith, body-longer xs (codes "}" ++ (10 ∷ blanks_text n)) h) in
    rw (body-exact xs total total (10 ∷ blanks_text n) [] h l fits, blanks-end n total (body_steps xs total 0 (codes "}" ++ (10 ∷ blanks_text n)))) refl

-- the text of a file is read as its functions and its steps
pub read-exact : (file : File) → FileWords file → read (text_of file) ≡ Some (functions_of file.items, steps_of file)
unfolding read
read-exact file h =
    let total = length (text_of file) in
    let r = body_text file.body (codes "}" ++ (10 ∷ blanks_text file.blanks)) in
    let all : length (items_text file.items (main_line ++ r)) + 13 ≡ total = omega arith in
    let l : length file.items < total = omega (arith, items-longer file.items (main_line ++ r)) in
    let m : length r ≤ total = omega (arith, items-longer file.items (main_line ++ r)) in
    rw (items-exact file.items total total [] r [] h.before l (omega arith), main-exact file.body file.blanks total h.inside m) refl
