-- What is read is the text of something.
use Rattle.std.proofs.Common.{◌≡◌, ℕ, zero, suc, List, [], ◌∷◌, ◌++◌, Option, Some, None, Bool, true, false, length, drop, refl, sym, ap, ◌∙◌, if◌then◌else◌, ◌⊎◌, inl, inr, nat_eq}
use Rattle.std.specs.Prelude.{codes}
use Rattle.std.specs.List.{list_all}
use Rattle.argot_first_form.specs.Tree.{Value, Variable, Quoted, Called, Values, no_value, beside, value_text, values_text, more_text, Statement, Define, Assign, Do, statement_text, body_text, Atom, Parameter, Fixed, atom_text, parameters_text, more_parameters_text, Item, Blank, Func, Void, item_text, items_text, blanks_text, File, text_of}
use Rattle.argot_first_form.specs.Words.{IsName, HasWords, HaveWords, StatementWords, BodyWords, AllNames, AtomWords, ItemWords, ItemsWords, FileWords}
use Rattle.argot_first_form.specs.declared.steps.Operand.{Operand}
use Rattle.argot_first_form.specs.declared.steps.Operand.TheVariants as operands
use Rattle.argot_first_form.specs.declared.steps.Action.TheVariants as actions
use Rattle.argot_first_form.specs.declared.functions.Function.{Function}
use Rattle.argot_first_form.specs.declared.functions.Returned.{Returned}
use Rattle.argot_first_form.specs.declared.functions.Returned.TheVariants as returns
use Rattle.std.proofs.lemmas.Bool.Decides.{Decides-eqb}
use Rattle.argot_first_form.specs.declared.steps.Step.{Step}
use Rattle.argot_first_form.specs.Front.{Front}
use Rattle.argot_first_form.specs.Reading.{Answer, ◌>>=◌, begins, behind, past, name, quoted, place, pushed, next_step, finished_call, finished, value, value_by, named_by, call_by, arguments_by, arguments, statement, statement_behind, body, atom, closed, returned, parameters, all_parameters, function, items, main_line, main_behind, ending, opening, read}
use Rattle.argot_first_form.proofs.Pieces.{bind-some, if-cases, if-some, and-left, and-right, past-sound, begins-sound, name-sound, quoted-sound}

-- some value's text stands between two fronts
abbrev pub ValueBetween : Front → Front → Type 0
ValueBetween f g = (v : Value) × HasWords v × (f.rest ≡ value_text v g.rest)

-- the text of one or more values
abbrev pub ValuesBetween : Front → Front → Type 0
ValuesBetween f g = (v : Value) × (vs : Values) × HasWords v × HaveWords vs × (f.rest ≡ values_text (beside v vs) g.rest)

-- a text that stands there where a test is true
abbrev pub begins-rest : (t : List ℕ) (f : Front) → begins t f ≡ true → f.rest ≡ t ++ drop (length t) f.rest
begins-rest t f h = begins-sound t f h

some-same : {A : Type 0} {x y : A} → Some x ≡ Some y → x ≡ y
some-same h = cc h

-- what went on behind a text that stood there
behind-rest : (t : List ℕ) (f g : Front) → begins t f ≡ true → behind (length t) f ≡ g → f.rest ≡ t ++ g.rest
behind-rest t f g b e = begins-sound t f b ∙ ap (λ x. t ++ x.rest) e

-- a test's outcome, where its two sides gave this
abbrev pub Tested : {A : Type 0} → Bool → A → A → A → Type 0
Tested b x y r = ((b ≡ true) × (x ≡ r)) ⊎ ((b ≡ false) × (y ≡ r))

abbrev with_first : {A : Type 0} → A → Front → Answer A
with_first x h = Some (x, h)

abbrev close_arguments : List Operand × Front → Answer (List Operand)
close_arguments r = past (41 ∷ []) r.1 >>= with_first r.0

abbrev quoted_step : ℕ → Front → Answer Operand
quoted_step at k = Some (next_step k, pushed at actions.Text k)

module _ (n : ℕ) (rec : (f g : Front) (given os : List Operand) → arguments n given f ≡ Some (os, g) → ValuesBetween f g) where
  arguments-cases : (f g : Front) (os : List Operand) → Tested {A = Answer (List Operand)} (begins (41 ∷ []) f) (Some ([], behind 1 f)) (arguments n [] f >>= close_arguments) (Some (os, g)) → (vs : Values) × HaveWords vs × (f.rest ≡ values_text vs (41 ∷ g.rest))
  arguments-cases f g os (inl p) = (no_value, tt, behind-rest (41 ∷ []) f g p.0 (ap (λ x. x.1) (some-same p.1)))
  arguments-cases f g os (inr p) =
      let q = bind-some (arguments n [] f) close_arguments (os, g) p.1 in
      let m = bind-some (past (41 ∷ []) q.0.1) (with_first q.0.0) (os, g) q.2 in
      let v = rec f q.0.1 [] q.0.0 q.1 in
      let e : q.0.1.rest ≡ 41 ∷ g.rest = past-sound (41 ∷ []) q.0.1 m.0 m.1 ∙ ap (λ x. 41 ∷ x.1.rest) (some-same m.2) in
      (beside v.0 v.1, (v.2, v.3), v.4 ∙ ap (λ x. values_text (beside v.0 v.1) x) e)

  -- arguments in brackets
  arguments-between : (f g : Front) (os : List Operand) → arguments_by (arguments n []) f ≡ Some (os, g) → (vs : Values) × HaveWords vs × (f.rest ≡ values_text vs (41 ∷ g.rest))
  arguments-between f g os h = arguments-cases f g os (if-cases (begins (41 ∷ []) f) _ _ _ h)

  call-between : (at : ℕ) (m : List ℕ) (f g : Front) (o : Operand) → call_by (arguments n []) at m f ≡ Some (o, g) → (vs : Values) × HaveWords vs × (f.rest ≡ 40 ∷ values_text vs (41 ∷ g.rest))
  call-between at m f g o h =
      let p = bind-some (past (40 ∷ []) f) (λ k. (arguments_by (arguments n []) k >>= finished_call at m)) (o, g) h in
      let q = bind-some (arguments_by (arguments n []) p.0) (finished_call at m) (o, g) p.2 in
      let vs = arguments-between p.0 q.0.1 q.0.0 q.1 in
      let e : q.0.1.rest ≡ g.rest = ap (λ x. x.1.rest) (some-same q.2) in
      (vs.0, vs.1, past-sound (40 ∷ []) f p.0 p.1 ∙ ap (λ x. 40 ∷ x) (vs.2 ∙ ap (λ x. values_text vs.0 (41 ∷ x)) e))

  named-cases : (at : ℕ) (f g : Front) (m : List ℕ) (k : Front) (o : Operand) → IsName m → f.rest ≡ m ++ k.rest → Tested {A = Answer Operand} (begins (40 ∷ []) k) (call_by (arguments n []) at m k) (Some (operands.Variable m, k)) (Some (o, g)) → ValueBetween f g
  named-cases at f g m k o w e (inl p) =
      let c = call-between at m k g o p.1 in
      (Called m c.0, (w, c.1), e ∙ ap (λ x. m ++ x) c.2)
  named-cases at f g m k o w e (inr p) = (Variable m, w, e ∙ ap (λ x. m ++ x.1.rest) (some-same p.1))

  value-cases : (f g : Front) (o : Operand) → Tested {A = Answer Operand} (begins (34 ∷ []) f) (quoted f >>= quoted_step (place f)) (name f >>= named_by (arguments n []) (place f)) (Some (o, g)) → ValueBetween f g
  value-cases f g o (inl p) =
      let q = bind-some (quoted f) (quoted_step (place f)) (o, g) p.1 in
      let t = quoted-sound f q.0 q.1 in
      (Quoted t.0, t.1, t.2 ∙ ap (λ x. 34 ∷ (t.0 ++ (34 ∷ x.1.rest))) (some-same q.2))
  value-cases f g o (inr p) =
      let q = bind-some (name f) (named_by (arguments n []) (place f)) (o, g) p.1 in
      let m = name-sound f q.0.1 q.0.0 q.1 in
      named-cases (place f) f g q.0.0 q.0.1 o m.0 m.1 (if-cases (begins (40 ∷ []) q.0.1) _ _ _ q.2)

  value-between : (f g : Front) (o : Operand) → value_by (arguments n []) f ≡ Some (o, g) → ValueBetween f g
  value-between f g o h = value-cases f g o (if-cases (begins (34 ∷ []) f) _ _ _ h)

  -- a value, and more behind a comma
  more-cases : (f k g : Front) (v : Operand) (given os : List Operand) → ValueBetween f k → Tested {A = Answer (List Operand)} (begins (codes ", ") k) (arguments n (given ++ v ∷ []) (behind 2 k)) (Some (given ++ v ∷ [], k)) (Some (os, g)) → ValuesBetween f g
  more-cases f k g v given os b (inl p) =
      let r = rec (behind 2 k) g (given ++ v ∷ []) os p.1 in
      let e : k.rest ≡ more_text (beside r.0 r.1) g.rest = begins-sound (codes ", ") k p.0 ∙ ap (λ x. codes ", " ++ x) r.4 in
      (b.0, beside r.0 r.1, b.1, (r.2, r.3), b.2 ∙ ap (λ x. value_text b.0 x) e)
  more-cases f k g v given os b (inr p) = (b.0, no_value, b.1, tt, b.2 ∙ ap (λ x. value_text b.0 x.1.rest) (some-same p.1))

abbrev goes_on : ℕ → List Operand → Operand × Front → Answer (List Operand)
goes_on n given r = if begins (codes ", ") r.1 then arguments n (given ++ r.0 ∷ []) (behind 2 r.1) else Some (given ++ r.0 ∷ [], r.1)

mutual
  unfolding value

  pub value-sound : (n : ℕ) (f g : Front) (o : Operand) → value n f ≡ Some (o, g) → ValueBetween f g
  value-sound zero f g o h = absurd (cc h)
  value-sound (suc n) f g o h = value-between n (arguments-sound n) f g o h

  pub arguments-sound : (n : ℕ) (f g : Front) (given os : List Operand) → arguments n given f ≡ Some (os, g) → ValuesBetween f g
  arguments-sound zero f g given os h = absurd (cc h)
  arguments-sound (suc n) f g given os h =
      let q = bind-some (value n f) (goes_on n given) (os, g) h in
      more-cases n (arguments-sound n) f q.0.1 g q.0.0 given os (value-sound n f q.0.1 q.0.0 q.1) (if-cases (begins (codes ", ") q.0.1) _ _ _ q.2)

-- some statement's text
abbrev pub StatementBetween : Front → Front → Type 0
StatementBetween f g = (x : Statement) × StatementWords x × (f.rest ≡ statement_text x g.rest)

behind-cases : (at : ℕ) (m : List ℕ) (f g k : Front) → IsName m → k.rest ≡ m ++ f.rest → Tested (begins (codes " = ") f) (value f.total (behind 3 f) >>= finished at (λ v. actions.Assign m v)) (call_by (arguments f.total []) at m f >>= λ q. Some q.1) (Some g) → StatementBetween k g
behind-cases at m f g k w e (inl p) =
    let q = bind-some (value f.total (behind 3 f)) (finished at (λ v. actions.Assign m v)) g p.1 in
    let v = value-sound f.total (behind 3 f) q.0.1 q.0.0 q.1 in
    (Assign m v.0, (w, v.1), e ∙ ap (λ x. m ++ x) (begins-sound (codes " = ") f p.0 ∙ ap (λ x. codes " = " ++ x) (v.2 ∙ ap (λ x. value_text v.0 x.rest) (some-same q.2))))
behind-cases at m f g k w e (inr p) =
    let q = bind-some (call_by (arguments f.total []) at m f) (λ r. Some r.1) g p.1 in
    let c = call-between f.total (arguments-sound f.total) at m f q.0.1 q.0.0 q.1 in
    (Do m c.0, (w, c.1), e ∙ ap (λ x. m ++ x) (c.2 ∙ ap (λ x. 40 ∷ values_text c.0 (41 ∷ x.rest)) (some-same q.2)))

define-cases : (at : ℕ) (m : List ℕ) (f g k : Front) → IsName m → k.rest ≡ m ++ f.rest → Tested (begins (codes " := ") f) (value f.total (behind 4 f) >>= finished at (λ v. actions.Define m v)) (if begins (codes " = ") f then (value f.total (behind 3 f) >>= finished at (λ v. actions.Assign m v)) else (call_by (arguments f.total []) at m f >>= λ q. Some q.1)) (Some g) → StatementBetween k g
define-cases at m f g k w e (inl p) =
    let q = bind-some (value f.total (behind 4 f)) (finished at (λ v. actions.Define m v)) g p.1 in
    let v = value-sound f.total (behind 4 f) q.0.1 q.0.0 q.1 in
    (Define m v.0, (w, v.1), e ∙ ap (λ x. m ++ x) (begins-sound (codes " := ") f p.0 ∙ ap (λ x. codes " := " ++ x) (v.2 ∙ ap (λ x. value_text v.0 x.rest) (some-same q.2))))
define-cases at m f g k w e (inr p) = behind-cases at m f g k w e (if-cases (begins (codes " = ") f) _ _ _ p.1)

pub statement-sound : (f g : Front) → statement f ≡ Some g → StatementBetween f g
unfolding statement statement_behind
statement-sound f g h =
    let q = bind-some (name f) (λ r. statement_behind (place f) r.0 r.1) g h in
    let m = name-sound f q.0.1 q.0.0 q.1 in
    define-cases (place f) q.0.0 q.0.1 g f m.0 m.1 (if-cases (begins (codes " := ") q.0.1) _ _ _ q.2)

-- the text of the rest of a body
abbrev pub BodyBetween : Front → Front → Type 0
BodyBetween f g = (xs : List Statement) × BodyWords xs × (f.rest ≡ body_text xs g.rest)

body-cases : (n : ℕ) → ((f g : Front) → body n f ≡ Some g → BodyBetween f g) → (f g : Front) → Tested (begins (codes "\t") f) ((statement (behind 1 f) >>= past (10 ∷ [])) >>= body n) (Some f) (Some g) → BodyBetween f g
body-cases n rec f g (inl p) =
    let q = bind-some (statement (behind 1 f) >>= past (10 ∷ [])) (body n) g p.1 in
    let r = bind-some (statement (behind 1 f)) (past (10 ∷ [])) q.0 q.1 in
    let x = statement-sound (behind 1 f) r.0 r.1 in
    let xs = rec q.0 g q.2 in
    let e : r.0.rest ≡ 10 ∷ body_text xs.0 g.rest = past-sound (10 ∷ []) r.0 q.0 r.2 ∙ ap (λ t. 10 ∷ t) xs.2 in
    (x.0 ∷ xs.0, (x.1, xs.1), begins-sound (codes "\t") f p.0 ∙ ap (λ t. 9 ∷ t) (x.2 ∙ ap (λ t. statement_text x.0 t) e))
body-cases n rec f g (inr p) = ([], tt, ap (λ x. x.rest) (some-same p.1))

pub body-sound : (n : ℕ) (f g : Front) → body n f ≡ Some g → BodyBetween f g
unfolding body
body-sound zero f g h = absurd (cc h)
body-sound (suc n) f g h = body-cases n (body-sound n) f g (if-cases (begins (codes "\t") f) _ _ _ h)

-- the text of one or more parameters
abbrev pub ParametersBetween : Front → Front → List (List ℕ) → List (List ℕ) → Type 0
ParametersBetween f g given os = (p : List ℕ) × (ps : List (List ℕ)) × IsName p × AllNames ps × (f.rest ≡ parameters_text (p ∷ ps) g.rest)

abbrev goes_on_names : ℕ → List (List ℕ) → List ℕ → Front → Answer (List (List ℕ))
goes_on_names n given m g = if begins (codes ", ") g then parameters n (given ++ m ∷ []) (behind 2 g) else Some (given ++ m ∷ [], g)

parameters-cases : (n : ℕ) → ((f g : Front) (given os : List (List ℕ)) → parameters n given f ≡ Some (os, g) → ParametersBetween f g given os) → (f k g : Front) (m : List ℕ) (given os : List (List ℕ)) → IsName m → f.rest ≡ m ++ (codes " string" ++ k.rest) → Tested {A = Answer (List (List ℕ))} (begins (codes ", ") k) (parameters n (given ++ m ∷ []) (behind 2 k)) (Some (given ++ m ∷ [], k)) (Some (os, g)) → ParametersBetween f g given os
parameters-cases n rec f k g m given os w e (inl p) =
    let r = rec (behind 2 k) g (given ++ m ∷ []) os p.1 in
    let d : k.rest ≡ more_parameters_text (r.0 ∷ r.1) g.rest = begins-sound (codes ", ") k p.0 ∙ ap (λ x. codes ", " ++ x) r.4 in
    (m, r.0 ∷ r.1, w, (r.2, r.3), e ∙ ap (λ x. m ++ (codes " string" ++ x)) d)
parameters-cases n rec f k g m given os w e (inr p) = (m, [], w, tt, e ∙ ap (λ x. m ++ (codes " string" ++ x.1.rest)) (some-same p.1))

pub parameters-sound : (n : ℕ) (f g : Front) (given os : List (List ℕ)) → parameters n given f ≡ Some (os, g) → ParametersBetween f g given os
unfolding parameters
parameters-sound zero f g given os h = absurd (cc h)
parameters-sound (suc n) f g given os h =
    let q = bind-some (name f) (λ r. (past (codes " string") r.1 >>= goes_on_names n given r.0)) (os, g) h in
    let m = name-sound f q.0.1 q.0.0 q.1 in
    let s = bind-some (past (codes " string") q.0.1) (goes_on_names n given q.0.0) (os, g) q.2 in
    let e : f.rest ≡ q.0.0 ++ (codes " string" ++ s.0.rest) = m.1 ∙ ap (λ x. q.0.0 ++ x) (past-sound (codes " string") q.0.1 s.0 s.1) in
    parameters-cases n (parameters-sound n) f s.0 g q.0.0 given os m.0 e (if-cases (begins (codes ", ") s.0) _ _ _ s.2)

abbrev pub AllParametersBetween : Front → Front → Type 0
AllParametersBetween f g = (ps : List (List ℕ)) × AllNames ps × (f.rest ≡ parameters_text ps g.rest)

all-cases : (f g : Front) (os : List (List ℕ)) → Tested {A = Answer (List (List ℕ))} (begins (41 ∷ []) f) (Some ([], f)) (parameters f.total [] f) (Some (os, g)) → AllParametersBetween f g
all-cases f g os (inl p) = ([], tt, ap (λ x. x.1.rest) (some-same p.1))
all-cases f g os (inr p) = let r = parameters-sound f.total f g [] os p.1 in (r.0 ∷ r.1, (r.2, r.3), r.4)

pub all_parameters-sound : (f g : Front) (os : List (List ℕ)) → all_parameters f ≡ Some (os, g) → AllParametersBetween f g
all_parameters-sound f g os h = all-cases f g os (if-cases (begins (41 ∷ []) f) _ _ _ h)

abbrev pub AtomBetween : Front → Front → Type 0
AtomBetween f g = (a : Atom) × AtomWords a × (f.rest ≡ atom_text a g.rest)

abbrev text_result : Front → Answer Returned
text_result g = Some (returns.Text, g)

abbrev name_result : List ℕ × Front → Answer Returned
name_result r = Some (returns.Parameter r.0, r.1)

atom-cases : (f g : Front) (o : Returned) → Tested {A = Answer Returned} (begins (34 ∷ []) f) (quoted f >>= text_result) (name f >>= name_result) (Some (o, g)) → AtomBetween f g
atom-cases f g o (inl p) =
    let q = bind-some (quoted f) text_result (o, g) p.1 in
    let t = quoted-sound f q.0 q.1 in
    (Fixed t.0, t.1, t.2 ∙ ap (λ x. 34 ∷ (t.0 ++ (34 ∷ x.1.rest))) (some-same q.2))
atom-cases f g o (inr p) =
    let q = bind-some (name f) name_result (o, g) p.1 in
    let m = name-sound f q.0.1 q.0.0 q.1 in
    (Parameter q.0.0, m.0, m.1 ∙ ap (λ x. q.0.0 ++ x.1.rest) (some-same q.2))

pub atom-sound : (f g : Front) (o : Returned) → atom f ≡ Some (o, g) → AtomBetween f g
unfolding atom
atom-sound f g o h = atom-cases f g o (if-cases (begins (34 ∷ []) f) _ _ _ h)

-- the text of what a function gives back, with what stands around it
abbrev pub ResultBetween : Front → Front → Type 0
ResultBetween f g = ((a : Atom) × AtomWords a × (f.rest ≡ codes ") string { return " ++ atom_text a (codes " }" ++ g.rest))) ⊎ (f.rest ≡ codes ") {}" ++ g.rest)

result-cases : (f g : Front) (o : Returned) → Tested {A = Answer Returned} (begins (codes ") {}") f) (Some (returns.Nothing, behind 4 f)) (past (codes ") string { return ") f >>= λ k. (atom k >>= closed)) (Some (o, g)) → ResultBetween f g
result-cases f g o (inl p) = inr (behind-rest (codes ") {}") f g p.0 (ap (λ x. x.1) (some-same p.1)))
result-cases f g o (inr p) =
    let q = bind-some (past (codes ") string { return ") f) (λ k. (atom k >>= closed)) (o, g) p.1 in
    let r = bind-some (atom q.0) closed (o, g) q.2 in
    let s = bind-some (past (codes " }") r.0.1) (with_first r.0.0) (o, g) r.2 in
    let a = atom-sound q.0 r.0.1 r.0.0 r.1 in
    let e : r.0.1.rest ≡ codes " }" ++ g.rest = past-sound (codes " }") r.0.1 s.0 s.1 ∙ ap (λ x. codes " }" ++ x.1.rest) (some-same s.2) in
    inl (a.0, a.1, past-sound (codes ") string { return ") f q.0 q.1 ∙ ap (λ x. codes ") string { return " ++ x) (a.2 ∙ ap (λ x. atom_text a.0 x) e))

pub returned-sound : (f g : Front) (o : Returned) → returned f ≡ Some (o, g) → ResultBetween f g
unfolding returned
returned-sound f g o h = result-cases f g o (if-cases (begins (codes ") {}") f) _ _ _ h)

abbrev pub ItemBetween : Front → Front → Type 0
ItemBetween f g = (x : Item) × ItemWords x × (f.rest ≡ item_text x g.rest)

item-by : (f k g : Front) (m : List ℕ) (ps : List (List ℕ)) (k2 : Front) → IsName m → AllNames ps → f.rest ≡ codes "func " ++ (m ++ (40 ∷ parameters_text ps k.rest)) → ResultBetween k k2 → k2.rest ≡ 10 ∷ g.rest → ItemBetween f g
item-by f k g m ps k2 w ws e (inl a) d = (Func m ps a.0, (w, ws, a.1), e ∙ ap (λ x. codes "func " ++ (m ++ (40 ∷ parameters_text ps x))) (a.2 ∙ ap (λ x. codes ") string { return " ++ atom_text a.0 (codes " }" ++ x)) d))
item-by f k g m ps k2 w ws e (inr v) d = (Void m ps, (w, ws), e ∙ ap (λ x. codes "func " ++ (m ++ (40 ∷ parameters_text ps x))) (v ∙ ap (λ x. codes ") {}" ++ x) d))

abbrev made : List ℕ → List (List ℕ) → Returned → Front → Answer Function
made m ps b e = Some (record { name = m; parameters = ps; returned = b }, e)

pub function-sound : (f g : Front) (o : Function) → function f ≡ Some (o, g) → ItemBetween f g
unfolding function
function-sound f g o h =
    let a = bind-some (past (codes "func ") f) (λ k. (name k >>= λ r. (past (40 ∷ []) r.1 >>= λ l. (all_parameters l >>= λ ps. (returned ps.1 >>= λ b. (past (10 ∷ []) b.1 >>= made r.0 ps.0 b.0)))))) (o, g) h in
    let b = bind-some (name a.0) (λ r. (past (40 ∷ []) r.1 >>= λ l. (all_parameters l >>= λ ps. (returned ps.1 >>= λ b. (past (10 ∷ []) b.1 >>= made r.0 ps.0 b.0))))) (o, g) a.2 in
    let c = bind-some (past (40 ∷ []) b.0.1) (λ l. (all_parameters l >>= λ ps. (returned ps.1 >>= λ d. (past (10 ∷ []) d.1 >>= made b.0.0 ps.0 d.0)))) (o, g) b.2 in
    let d = bind-some (all_parameters c.0) (λ ps. (returned ps.1 >>= λ r. (past (10 ∷ []) r.1 >>= made b.0.0 ps.0 r.0))) (o, g) c.2 in
    let e = bind-some (returned d.0.1) (λ r. (past (10 ∷ []) r.1 >>= made b.0.0 d.0.0 r.0)) (o, g) d.2 in
    let l = bind-some (past (10 ∷ []) e.0.1) (made b.0.0 d.0.0 e.0.0) (o, g) e.2 in
    let m = name-sound a.0 b.0.1 b.0.0 b.1 in
    let ps = all_parameters-sound c.0 d.0.1 d.0.0 d.1 in
    let s : f.rest ≡ codes "func " ++ (b.0.0 ++ (40 ∷ parameters_text ps.0 d.0.1.rest)) =
    past-sound (codes "func ") f a.0 a.1 ∙ ap (λ x. codes "func " ++ x) (m.1 ∙ ap (λ x. b.0.0 ++ x) (past-sound (40 ∷ []) b.0.1 c.0 c.1 ∙ ap (λ x. 40 ∷ x) ps.2)) in
    item-by f d.0.1 g b.0.0 ps.0 e.0.1 m.0 ps.1 s (returned-sound d.0.1 e.0.1 e.0.0 e.1) (past-sound (10 ∷ []) e.0.1 l.0 l.1 ∙ ap (λ x. 10 ∷ x.1.rest) (some-same l.2))

-- the lines before main, and main's first
abbrev pub ItemsBetween : Front → Front → Type 0
ItemsBetween f g = (xs : List Item) × ItemsWords xs × (f.rest ≡ items_text xs (main_line ++ g.rest))

module _ (n : ℕ) (rec : (f g : Front) (given os : List Function) → items n given f ≡ Some (os, g) → ItemsBetween f g) where
  abbrev next_items : List Function → Function × Front → Answer (List Function)
  next_items given r = items n (given ++ r.0 ∷ []) r.1

  main-cases : (f g : Front) (given os : List Function) → Tested {A = Answer (List Function)} (begins main_line f) (Some (given, behind 14 f)) (function f >>= next_items given) (Some (os, g)) → ItemsBetween f g
  main-cases f g given os (inl p) = ([], tt, behind-rest main_line f g p.0 (ap (λ x. x.1) (some-same p.1)))
  main-cases f g given os (inr p) =
      let q = bind-some (function f) (next_items given) (os, g) p.1 in
      let x = function-sound f q.0.1 q.0.0 q.1 in
      let xs = rec q.0.1 g (given ++ q.0.0 ∷ []) os q.2 in
      (x.0 ∷ xs.0, (x.1, xs.1), x.2 ∙ ap (λ t. item_text x.0 t) xs.2)

  items-cases : (f g : Front) (given os : List Function) → Tested {A = Answer (List Function)} (begins (10 ∷ []) f) (items n given (behind 1 f)) (if begins main_line f then Some (given, behind 14 f) else (function f >>= next_items given)) (Some (os, g)) → ItemsBetween f g
  items-cases f g given os (inl p) =
      let xs = rec (behind 1 f) g given os p.1 in
      (Blank ∷ xs.0, (tt, xs.1), begins-sound (10 ∷ []) f p.0 ∙ ap (λ t. 10 ∷ t) xs.2)
  items-cases f g given os (inr p) = main-cases f g given os (if-cases (begins main_line f) _ _ _ p.1)

pub items-sound : (n : ℕ) (f g : Front) (given os : List Function) → items n given f ≡ Some (os, g) → ItemsBetween f g
unfolding items
items-sound zero f g given os h = absurd (cc h)
items-sound (suc n) f g given os h = items-cases n (items-sound n) f g given os (if-cases (begins (10 ∷ []) f) _ _ _ h)

newlines : (xs : List ℕ) → list_all (λ b. nat_eq b 10) xs ≡ true → xs ≡ blanks_text (length xs)
newlines [] h = refl
newlines (x ∷ xs) h =
    let e : x ≡ 10 = (Decides-eqb x 10).0 (and-left _ _ h) in
    ap (λ y. y ∷ xs) e ∙ ap (λ t. 10 ∷ t) (newlines xs (and-right _ _ h))

main-sound : (f g : Front) → main_behind f ≡ Some g → (xs : List Statement) × (n : ℕ) × BodyWords xs × (f.rest ≡ body_text xs (codes "}" ++ (10 ∷ blanks_text n)))
unfolding main_behind
main-sound f g h =
    let a = bind-some (body f.total f) (λ k. (past (codes "}" ++ 10 ∷ []) k >>= λ l. (if ending l then Some l else None))) g h in
    let b = bind-some (past (codes "}" ++ 10 ∷ []) a.0) (λ l. (if ending l then Some l else None)) g a.2 in
    let e = if-some (ending b.0) b.0 g b.2 in
    let xs = body-sound f.total f a.0 a.1 in
    let r : a.0.rest ≡ codes "}" ++ (10 ∷ blanks_text (length b.0.rest)) = past-sound (codes "}" ++ 10 ∷ []) a.0 b.0 b.1 ∙ ap (λ t. codes "}" ++ (10 ∷ t)) (newlines b.0.rest e.0) in
    (xs.0, length b.0.rest, xs.1, xs.2 ∙ ap (λ t. body_text xs.0 t) r)

abbrev both : List Function → Front → Option (List Function × List Step)
both fs h = Some (fs, h.steps)

-- what is read is the text of a file
pub read-sound : (bytes : List ℕ) (p : List Function × List Step) → read bytes ≡ Some p → (file : File) × FileWords file × (text_of file ≡ bytes)
unfolding read
read-sound bytes p h =
    let a = bind-some (past (codes "package main" ++ 10 ∷ []) (opening bytes)) (λ f. (items f.total [] f >>= λ r. (main_behind r.1 >>= both r.0))) p h in
    let b = bind-some (items a.0.total [] a.0) (λ r. (main_behind r.1 >>= both r.0)) p a.2 in
    let c = bind-some (main_behind b.0.1) (both b.0.0) p b.2 in
    let xs = items-sound a.0.total a.0 b.0.1 [] b.0.0 b.1 in
    let m = main-sound b.0.1 c.0 c.1 in
    let file : File = record { items = xs.0; body = m.0; blanks = m.1 } in
    (file, record { before = xs.1; inside = m.2 }, sym (past-sound (codes "package main" ++ 10 ∷ []) (opening bytes) a.0 a.1 ∙ ap (λ t. codes "package main" ++ (10 ∷ t)) (xs.2 ∙ ap (λ t. items_text xs.0 (main_line ++ t)) m.3)))
