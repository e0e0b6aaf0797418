-- The automaton of numbers accepts exactly what has one of their forms: shown by computing, at each state and each sort of
-- byte, what is left of the forms.
use Rattle.std.proofs.Common.{◌≡◌, ℕ, ◌<◌, ◌≤◌, List, [], ◌∷◌, ◌++◌, Bool, true, false, Option, Some, None, refl, sym, ap, ◌∙◌, subst, ⊎_elim, arith}
use Rattle.std.specs.Prelude.{◌==◌, ◌&&◌, not, nat_lt, if◌then◌else◌}
use Rattle.std.specs.List.{list_all, list_any}
use Rattle.std.proofs.lemmas.Bool.{cond_both, and_parts, agree_below, agree_below_at, cases_lt, ltb-true}
use Rattle.std.proofs.lemmas.Bool.Decides.{nat_tests}
use Rattle.argot_tree.specs.declared.token.TokenKind.{TokenKind}
use Rattle.argot_tree.specs.declared.token.TokenKind.TheVariants as kinds
use Rattle.argot_tree.specs.Forms.{Form, Nothing, OneOf, Either, Then, Many, has}
use Rattle.argot_tree.specs.Numbers.{whole, floating, imaginary}
use Rattle.argot_lex.specs.declared.numbers.Sort.{Sort}
use Rattle.argot_lex.specs.declared.numbers.Sort.TheVariants as sorts
use Rattle.argot_lex.specs.declared.numbers.State.{State}
use Rattle.argot_lex.specs.declared.numbers.State.TheVariants as states
use Rattle.argot_lex.specs.Numbers.{sort_of, next, accepted}
use Rattle.argot_lex.proofs.FormSteps.{nullable, behind, each, left, left_all, all_among, sees_same, left_same}

-- a byte of each sort
abbrev pub example : Sort → ℕ
example sorts.Zero = 48
example sorts.One = 49
example sorts.TwoToSeven = 50
example sorts.EightOrNine = 56
example sorts.HexLetter = 97
example sorts.LetterB = 98
example sorts.LetterE = 101
example sorts.LetterI = 105
example sorts.LetterO = 111
example sorts.LetterP = 112
example sorts.LetterX = 120
example sorts.Bar = 95
example sorts.Point = 46
example sorts.Sign = 43
example sorts.Other = 33

-- the list sees a byte as it sees the example of its sort
abbrev pub list_ok : List ℕ → Bool
list_ok some = agree_below (has some) (λ b. has some (example (sort_of b))) 128 && (list_all (λ c. nat_lt c 128) some && not (has some 33))

abbrev pub form_ok : Form → Bool
form_ok Nothing = true
form_ok (OneOf some) = list_ok some
form_ok (Either f g) = form_ok f && form_ok g
form_ok (Then f g) = form_ok f && form_ok g
form_ok (Many f) = form_ok f

has_low : (some : List ℕ) (b : ℕ) → 128 ≤ b → list_all (λ c. nat_lt c 128) some ≡ true → has some b ≡ false
has_low [] b high h = refl
has_low (c ∷ some) b high h =
    let p = and_parts (nat_lt c 128) (list_all (λ c. nat_lt c 128) some) h in
    let low : c < 128 = ltb-true c 128 p.0 in
    let other : (b == c) ≡ false = grind (arith, nat_tests) in
    rw other (has_low some b high p.1)

pub high_sort : (b : ℕ) → 128 ≤ b → sort_of b ≡ sorts.Other
unfolding sort_of
high_sort b high = grind (arith, nat_tests)

list_ok_is : (some : List ℕ) → list_ok some ≡ true → (b : ℕ) → has some b ≡ has some (example (sort_of b))
list_ok_is some h b =
    let p = and_parts (agree_below (has some) (λ b. has some (example (sort_of b))) 128) (list_all (λ c. nat_lt c 128) some && not (has some 33)) h in
    let q = and_parts (list_all (λ c. nat_lt c 128) some) (not (has some 33)) p.1 in
    ⊎_elim
    (λ low. agree_below_at (has some) (λ b. has some (example (sort_of b))) 128 b p.0 low)
    (λ high.
    let none : has some 33 ≡ false = not_true (has some 33) q.1 in
    has_low some b high q.0 ∙ sym (ap (λ s. has some (example s)) (high_sort b high) ∙ none))
    (cases_lt b 128)
  where
    not_true : (t : Bool) → not t ≡ true → t ≡ false
    not_true true e = sym e
    not_true false e = refl

form_ok_is : (f : Form) → form_ok f ≡ true → (b : ℕ) → sees_same b (example (sort_of b)) f
form_ok_is Nothing h b = tt
form_ok_is (OneOf some) h b = list_ok_is some h b
form_ok_is (Either f g) h b = let p = and_parts (form_ok f) (form_ok g) h in (form_ok_is f p.0 b, form_ok_is g p.1 b)
form_ok_is (Then f g) h b = let p = and_parts (form_ok f) (form_ok g) h in (form_ok_is f p.0 b, form_ok_is g p.1 b)
form_ok_is (Many f) h b = form_ok_is f h b

-- and so do the forms of what is left
abbrev pub all_see : ℕ → ℕ → List Form → Type 0
all_see b c [] = Unit {0}
all_see b c (f ∷ fs) = sees_same b c f × all_see b c fs

see_append : (b c : ℕ) (fs gs : List Form) → all_see b c fs → all_see b c gs → all_see b c (fs ++ gs)
see_append b c [] gs h k = k
see_append b c (f ∷ fs) gs h k = (h.0, see_append b c fs gs h.1 k)

see_behind : (b c : ℕ) (f g : Form) → sees_same b c f → sees_same b c g → sees_same b c (behind f g)
see_behind b c Nothing g h k = k
see_behind b c (OneOf some) g h k = (h, k)
see_behind b c (Either f f') g h k = (h, k)
see_behind b c (Then f f') g h k = (h, k)
see_behind b c (Many f) g h k = (h, k)

see_each : (b c : ℕ) (g : Form) (fs : List Form) → all_see b c fs → sees_same b c g → all_see b c (each g fs)
see_each b c g [] h k = tt
see_each b c g (f ∷ fs) h k = (see_behind b c f g h.0 k, see_each b c g fs h.1 k)

see_left : (b c d : ℕ) (f : Form) → sees_same b c f → all_see b c (left d f)
see_left b c d Nothing h = tt
see_left b c d (OneOf some) h = cond_both (has some d) (Nothing ∷ []) [] (all_see b c) (λ _. (tt, tt)) (λ _. tt)
see_left b c d (Either f g) h = see_append b c (left d f) (left d g) (see_left b c d f h.0) (see_left b c d g h.1)
see_left b c d (Then f g) h =
    see_append b c (each g (left d f)) (if nullable f then left d g else []) (see_each b c g (left d f) (see_left b c d f h.0) h.1)
    (cond_both (nullable f) (left d g) [] (all_see b c) (λ _. see_left b c d g h.1) (λ _. tt))
see_left b c d (Many f) h = see_each b c (Many f) (left d f) (see_left b c d f h) h

see_left_all : (b c d : ℕ) (fs : List Form) → all_see b c fs → all_see b c (left_all d fs)
see_left_all b c d [] h = tt
see_left_all b c d (f ∷ fs) h = see_append b c (left d f) (left_all d fs) (see_left b c d f h.0) (see_left_all b c d fs h.1)

left_all_same : (b c : ℕ) (fs : List Form) → all_see b c fs → left_all b fs ≡ left_all c fs
left_all_same b c [] h = refl
left_all_same b c (f ∷ fs) h = λ i. left_same b c f h.0 i ++ left_all_same b c fs h.1 i

-- what is left behind some bytes
abbrev pub behind_path : List ℕ → List Form → List Form
behind_path [] fs = fs
behind_path (b ∷ bs) fs = behind_path bs (left_all b fs)

see_path : (b c : ℕ) (path : List ℕ) (fs : List Form) → all_see b c fs → all_see b c (behind_path path fs)
see_path b c [] fs h = h
see_path b c (d ∷ path) fs h = see_path b c path (left_all d fs) (see_left_all b c d fs h)

-- the kinds of numbers and their forms
pub data NumberKind : Type 0 where
  IsWhole : NumberKind
  IsFloating : NumberKind
  IsImaginary : NumberKind

abbrev pub form_of : NumberKind → Form
form_of IsWhole = whole
form_of IsFloating = floating
form_of IsImaginary = imaginary

abbrev pub kind_of : NumberKind → TokenKind
kind_of IsWhole = kinds.Whole
kind_of IsFloating = kinds.Float
kind_of IsImaginary = kinds.Imaginary

forms_ok : (k : NumberKind) → form_ok (form_of k) ≡ true
unfolding sort_of
forms_ok IsWhole = refl
forms_ok IsFloating = refl
forms_ok IsImaginary = refl

-- bytes that lead to a state
abbrev pub path_to : State → List ℕ
path_to states.Start = []
path_to states.Zero = 48 ∷ []
path_to states.Lead = 48 ∷ 49 ∷ []
path_to states.LeadBar = 48 ∷ 95 ∷ []
path_to states.Mixed = 48 ∷ 56 ∷ []
path_to states.MixedBar = 48 ∷ 56 ∷ 95 ∷ []
path_to states.Decimal = 49 ∷ []
path_to states.DecimalBar = 49 ∷ 95 ∷ []
path_to states.BinaryMark = 48 ∷ 98 ∷ []
path_to states.BinaryBar = 48 ∷ 98 ∷ 95 ∷ []
path_to states.Binary = 48 ∷ 98 ∷ 49 ∷ []
path_to states.OctalMark = 48 ∷ 111 ∷ []
path_to states.OctalBar = 48 ∷ 111 ∷ 95 ∷ []
path_to states.Octal = 48 ∷ 111 ∷ 49 ∷ []
path_to states.HexMark = 48 ∷ 120 ∷ []
path_to states.HexBar = 48 ∷ 120 ∷ 95 ∷ []
path_to states.Hex = 48 ∷ 120 ∷ 49 ∷ []
path_to states.HexPoint = 48 ∷ 120 ∷ 49 ∷ 46 ∷ []
path_to states.HexDot = 48 ∷ 120 ∷ 46 ∷ []
path_to states.HexFraction = 48 ∷ 120 ∷ 46 ∷ 49 ∷ []
path_to states.HexFractionBar = 48 ∷ 120 ∷ 46 ∷ 49 ∷ 95 ∷ []
path_to states.Point = 49 ∷ 46 ∷ []
path_to states.Dot = 46 ∷ []
path_to states.Fraction = 46 ∷ 49 ∷ []
path_to states.FractionBar = 46 ∷ 49 ∷ 95 ∷ []
path_to states.ExponentMark = 49 ∷ 101 ∷ []
path_to states.ExponentSign = 49 ∷ 101 ∷ 43 ∷ []
path_to states.Exponent = 49 ∷ 101 ∷ 49 ∷ []
path_to states.ExponentBar = 49 ∷ 101 ∷ 49 ∷ 95 ∷ []
path_to states.Imaginary = 49 ∷ 105 ∷ []

-- the forms of what may follow in a state
abbrev pub rest_of : NumberKind → State → List Form
rest_of k state = behind_path (path_to state) (form_of k ∷ [])

-- the state after a byte agrees with what is left behind it
abbrev pub leads_ok : NumberKind → List Form → Option State → Bool
leads_ok k left_over None = all_among left_over []
leads_ok k left_over (Some to) = all_among left_over (rest_of k to) && all_among (rest_of k to) left_over

abbrev pub step_ok : NumberKind → State → Sort → Bool
step_ok k state sort = leads_ok k (left_all (example sort) (rest_of k state)) (next state sort)

abbrev pub is_kind : NumberKind → Option TokenKind → Bool
is_kind k None = false
is_kind IsWhole (Some kinds.Whole) = true
is_kind IsFloating (Some kinds.Float) = true
is_kind IsImaginary (Some kinds.Imaginary) = true
is_kind _ _ = false

abbrev pub beq_ok : Bool → Bool → Bool
beq_ok true b = b
beq_ok false b = not b

abbrev pub accept_ok : NumberKind → State → Bool
accept_ok k state = beq_ok (list_any nullable (rest_of k state)) (is_kind k (accepted state))

abbrev sort_number : Sort → ℕ
sort_number sorts.Zero = 0
sort_number sorts.One = 1
sort_number sorts.TwoToSeven = 2
sort_number sorts.EightOrNine = 3
sort_number sorts.HexLetter = 4
sort_number sorts.LetterB = 5
sort_number sorts.LetterE = 6
sort_number sorts.LetterI = 7
sort_number sorts.LetterO = 8
sort_number sorts.LetterP = 9
sort_number sorts.LetterX = 10
sort_number sorts.Bar = 11
sort_number sorts.Point = 12
sort_number sorts.Sign = 13
sort_number sorts.Other = 14

abbrev sort_at : ℕ → Sort
sort_at n =
    if n == 0 then sorts.Zero
    else (if n == 1 then sorts.One
    else (if n == 2 then sorts.TwoToSeven
    else (if n == 3 then sorts.EightOrNine
    else (if n == 4 then sorts.HexLetter
    else (if n == 5 then sorts.LetterB
    else (if n == 6 then sorts.LetterE
    else (if n == 7 then sorts.LetterI
    else (if n == 8 then sorts.LetterO
    else (if n == 9 then sorts.LetterP
    else (if n == 10 then sorts.LetterX
    else (if n == 11 then sorts.Bar
    else (if n == 12 then sorts.Point
    else (if n == 13 then sorts.Sign
    else sorts.Other)))))))))))))

sort_there : (sort : Sort) → sort_at (sort_number sort) ≡ sort
sort_there sorts.Zero = refl
sort_there sorts.One = refl
sort_there sorts.TwoToSeven = refl
sort_there sorts.EightOrNine = refl
sort_there sorts.HexLetter = refl
sort_there sorts.LetterB = refl
sort_there sorts.LetterE = refl
sort_there sorts.LetterI = refl
sort_there sorts.LetterO = refl
sort_there sorts.LetterP = refl
sort_there sorts.LetterX = refl
sort_there sorts.Bar = refl
sort_there sorts.Point = refl
sort_there sorts.Sign = refl
sort_there sorts.Other = refl

sort_below : (sort : Sort) → sort_number sort < 15
sort_below sorts.Zero = omega arith
sort_below sorts.One = omega arith
sort_below sorts.TwoToSeven = omega arith
sort_below sorts.EightOrNine = omega arith
sort_below sorts.HexLetter = omega arith
sort_below sorts.LetterB = omega arith
sort_below sorts.LetterE = omega arith
sort_below sorts.LetterI = omega arith
sort_below sorts.LetterO = omega arith
sort_below sorts.LetterP = omega arith
sort_below sorts.LetterX = omega arith
sort_below sorts.Bar = omega arith
sort_below sorts.Point = omega arith
sort_below sorts.Sign = omega arith
sort_below sorts.Other = omega arith

abbrev state_ok : NumberKind → State → Bool
state_ok k state = accept_ok k state && agree_below (λ n. step_ok k state (sort_at n)) (λ _. true) 15

all_IsWhole : (state : State) → state_ok IsWhole state ≡ true
all_IsWhole states.Start = refl
all_IsWhole states.Zero = refl
all_IsWhole states.Lead = refl
all_IsWhole states.LeadBar = refl
all_IsWhole states.Mixed = refl
all_IsWhole states.MixedBar = refl
all_IsWhole states.Decimal = refl
all_IsWhole states.DecimalBar = refl
all_IsWhole states.BinaryMark = refl
all_IsWhole states.BinaryBar = refl
all_IsWhole states.Binary = refl
all_IsWhole states.OctalMark = refl
all_IsWhole states.OctalBar = refl
all_IsWhole states.Octal = refl
all_IsWhole states.HexMark = refl
all_IsWhole states.HexBar = refl
all_IsWhole states.Hex = refl
all_IsWhole states.HexPoint = refl
all_IsWhole states.HexDot = refl
all_IsWhole states.HexFraction = refl
all_IsWhole states.HexFractionBar = refl
all_IsWhole states.Point = refl
all_IsWhole states.Dot = refl
all_IsWhole states.Fraction = refl
all_IsWhole states.FractionBar = refl
all_IsWhole states.ExponentMark = refl
all_IsWhole states.ExponentSign = refl
all_IsWhole states.Exponent = refl
all_IsWhole states.ExponentBar = refl
all_IsWhole states.Imaginary = refl

all_IsFloating : (state : State) → state_ok IsFloating state ≡ true
all_IsFloating states.Start = refl
all_IsFloating states.Zero = refl
all_IsFloating states.Lead = refl
all_IsFloating states.LeadBar = refl
all_IsFloating states.Mixed = refl
all_IsFloating states.MixedBar = refl
all_IsFloating states.Decimal = refl
all_IsFloating states.DecimalBar = refl
all_IsFloating states.BinaryMark = refl
all_IsFloating states.BinaryBar = refl
all_IsFloating states.Binary = refl
all_IsFloating states.OctalMark = refl
all_IsFloating states.OctalBar = refl
all_IsFloating states.Octal = refl
all_IsFloating states.HexMark = refl
all_IsFloating states.HexBar = refl
all_IsFloating states.Hex = refl
all_IsFloating states.HexPoint = refl
all_IsFloating states.HexDot = refl
all_IsFloating states.HexFraction = refl
all_IsFloating states.HexFractionBar = refl
all_IsFloating states.Point = refl
all_IsFloating states.Dot = refl
all_IsFloating states.Fraction = refl
all_IsFloating states.FractionBar = refl
all_IsFloating states.ExponentMark = refl
all_IsFloating states.ExponentSign = refl
all_IsFloating states.Exponent = refl
all_IsFloating states.ExponentBar = refl
all_IsFloating states.Imaginary = refl

all_IsImaginary : (state : State) → state_ok IsImaginary state ≡ true
all_IsImaginary states.Start = refl
all_IsImaginary states.Zero = refl
all_IsImaginary states.Lead = refl
all_IsImaginary states.LeadBar = refl
all_IsImaginary states.Mixed = refl
all_IsImaginary states.MixedBar = refl
all_IsImaginary states.Decimal = refl
all_IsImaginary states.DecimalBar = refl
all_IsImaginary states.BinaryMark = refl
all_IsImaginary states.BinaryBar = refl
all_IsImaginary states.Binary = refl
all_IsImaginary states.OctalMark = refl
all_IsImaginary states.OctalBar = refl
all_IsImaginary states.Octal = refl
all_IsImaginary states.HexMark = refl
all_IsImaginary states.HexBar = refl
all_IsImaginary states.Hex = refl
all_IsImaginary states.HexPoint = refl
all_IsImaginary states.HexDot = refl
all_IsImaginary states.HexFraction = refl
all_IsImaginary states.HexFractionBar = refl
all_IsImaginary states.Point = refl
all_IsImaginary states.Dot = refl
all_IsImaginary states.Fraction = refl
all_IsImaginary states.FractionBar = refl
all_IsImaginary states.ExponentMark = refl
all_IsImaginary states.ExponentSign = refl
all_IsImaginary states.Exponent = refl
all_IsImaginary states.ExponentBar = refl
all_IsImaginary states.Imaginary = refl

all_ok : (k : NumberKind) (state : State) → state_ok k state ≡ true
all_ok IsWhole state = all_IsWhole state
all_ok IsFloating state = all_IsFloating state
all_ok IsImaginary state = all_IsImaginary state

pub stepped : (k : NumberKind) (state : State) (sort : Sort) → step_ok k state sort ≡ true
stepped k state sort =
    let p = and_parts (accept_ok k state) (agree_below (λ n. step_ok k state (sort_at n)) (λ _. true) 15) (all_ok k state) in
    subst (λ s. step_ok k state s ≡ true) (sort_there sort) (agree_below_at (λ n. step_ok k state (sort_at n)) (λ _. true) 15 (sort_number sort) p.1 (sort_below sort))

pub accept_same : (k : NumberKind) (state : State) → accept_ok k state ≡ true
accept_same k state = (and_parts (accept_ok k state) (agree_below (λ n. step_ok k state (sort_at n)) (λ _. true) 15) (all_ok k state)).0

-- what is left behind a byte is what is left behind the example of its sort
pub left_example : (k : NumberKind) (state : State) (b : ℕ) → left_all b (rest_of k state) ≡ left_all (example (sort_of b)) (rest_of k state)
left_example k state b =
    left_all_same b (example (sort_of b)) (rest_of k state)
    (see_path b (example (sort_of b)) (path_to state) (form_of k ∷ []) (form_ok_is (form_of k) (forms_ok k) b, tt))
