-- Runs that go ahead by evaluation: where the machine has no choice, or one serves as well as another. What is shown of a
-- worked program is the step that its proof names; these lead there.
use Rattle.std.proofs.Common.{◌≡◌, ℕ, suc, zero, ◌+◌, Bool, true, false, not, List, [], ◌∷◌, ◌++◌, Option, Some, None, refl, sym, ap, subst, map, eqb-true, length}
use Rattle.std.specs.Prelude.{◌||◌, ◌==◌, slice_get, slice_set}
use Rattle.argot_plain.specs.Lists.{In, here, there, has_element}
use Rattle.argot_plain.specs.Code.{Code, IsAt, IsFunction, Next, kind_of, leaves, defined}
use Rattle.argot_plain.specs.Machine.{with_labels, Labelling, Datum, Scalar, Nil, Ref, Content, content, zero_content, Cell, Slot, Deferred, Frame, View, State, same_labels, put_cell, or_zero, value_at, labels_of, copied, joined, stepped, asserted, written, after_write, handed_back}
use Rattle.argot_plain.specs.Outside.{by_number, result_labels}
use Rattle.argot_plain.specs.Puts.{Fills, no_leaf, one_leaf, Picks, pick_all, pick_one, place_labels, passed_labels, MayMove, MayRead, readable, variable, fresh_object, Gives}
use Rattle.argot_plain.specs.Step.{Acts, act_puts, act_stores, act_enters, act_exits, act_leaves, act_leaves_deferred, OneStep, one_step, no_step, then_step, opening, view, goes_on, at_place, entering, leaving}
use Rattle.argot_plain.specs.declared.functions.Function.{Function}
use Rattle.argot_plain.specs.declared.functions.Ident.{Ident}
use Rattle.argot_plain.specs.declared.instructions.Callee.{Callee}
use Rattle.argot_plain.specs.declared.instructions.Callee.TheVariants.{Static, Value, Method}
use Rattle.argot_plain.specs.declared.instructions.Kind.{Kind}
use Rattle.argot_plain.specs.declared.instructions.Kind.TheVariants.{Op, Move, Join, New, Step, Read, Write, Grow, Global, Assert, Call, Go, Defer, RunDefers, Leave, Goto, Branch, Panic, Passed}
use Rattle.argot_text.specs.declared.position.Pos.{Pos}
use Rattle.argot_text.specs.declared.path.PathStep.{PathStep}
use Rattle.argot_plain_worked_rules.specs.Worked.{IsReached}

-- where an instruction goes on, if it has one such place or the first serves
abbrev unless : Bool → ℕ → Option ℕ
unless true n = None
unless false n = Some n

abbrev next_place : Kind → ℕ → Option ℕ
next_place (Leave from) i = None
next_place (Panic from) i = None
next_place (Goto target) i = unless (target == i) target
next_place (Branch targets) i = slice_get targets 0
next_place _ i = Some (i + 1)

some_is : {A : Type 0} (x y : A) → Some x ≡ Some y → y ≡ x
some_is x y h = cc

unless_is : (b : Bool) (n j : ℕ) → unless b n ≡ Some j → (j ≡ n) × (b ≡ false)
unless_is true n j h = absurd cc
unless_is false n j h = (some_is n j h, refl)

goes : (kind : Kind) (i j : ℕ) → next_place kind i ≡ Some j → Next kind i j
goes (Op to from) i j h = some_is (i + 1) j h
goes (Move to from path) i j h = some_is (i + 1) j h
goes (Join to parts) i j h = some_is (i + 1) j h
goes (New to site) i j h = some_is (i + 1) j h
goes (Step to from path) i j h = some_is (i + 1) j h
goes (Read to at qs) i j h = some_is (i + 1) j h
goes (Write at from) i j h = some_is (i + 1) j h
goes (Grow to at items) i j h = some_is (i + 1) j h
goes (Global to global) i j h = some_is (i + 1) j h
goes (Assert to from target) i j h = some_is (i + 1) j h
goes (Call to callee args) i j h = some_is (i + 1) j h
goes (Go callee args) i j h = some_is (i + 1) j h
goes (Defer callee args) i j h = some_is (i + 1) j h
goes RunDefers i j h = some_is (i + 1) j h
goes (Leave from) i j h = absurd cc
goes (Goto target) i j h = unless_is (target == i) target j h
goes (Branch targets) i j h = (0, h)
goes (Panic from) i j h = absurd cc
goes (Passed to callee) i j h = some_is (i + 1) j h

abbrev first : List Content → Option Content
first [] = None
first (x ∷ xs) = Some x

first_in : (xs : List Content) (x : Content) → first xs ≡ Some x → In x xs
first_in [] x h = absurd cc
first_in (y ∷ xs) x h = here (some_is y x h)

-- what a Move puts
abbrev moved : Labelling → ℕ → ℕ → ℕ → List PathStep → List (List PathStep) → List Cell → List Cell
moved l to from i path [] cells = []
moved l to from i path (q ∷ qs) cells = map (put_cell l (place_labels l) to i 0 q) (value_at from (path ++ q) cells) ++ moved l to from i path qs cells

moved_fills : (l : Labelling) (to from i : ℕ) (path : List PathStep) (qs : List (List PathStep)) (cells : List Cell) → has_element path ≡ false
    → Fills l (place_labels l) to i 0 (MayMove from path cells) qs (moved l to from i path qs cells)
moved_fills l to from i path [] cells h = no_leaf
moved_fills l to from i path (q ∷ qs) cells h = one_leaf q (value_at from (path ++ q) cells) (pick_all (ap (λ b. not b || has_element q) h)) (moved_fills l to from i path qs cells h)

-- what a Join puts
abbrev put_together : Labelling → ℕ → ℕ → List (List PathStep × ℕ) → List (List PathStep) → List Cell → List Cell
put_together l to i parts [] cells = []
put_together l to i parts (q ∷ qs) cells = map (put_cell l same_labels to i 0 q) (or_zero (joined parts q cells)) ++ put_together l to i parts qs cells

together_fills : (l : Labelling) (to i : ℕ) (parts : List (List PathStep × ℕ)) (qs : List (List PathStep)) (cells : List Cell)
    → Fills l same_labels to i 0 (λ q xs. xs ≡ or_zero (joined parts q cells)) qs (put_together l to i parts qs cells)
together_fills l to i parts [] cells = no_leaf
together_fills l to i parts (q ∷ qs) cells = one_leaf q (or_zero (joined parts q cells)) refl (together_fills l to i parts qs cells)

-- what a Read takes: all, or what stands there first, or zero where nothing does
abbrev taken : Bool → Content → List Content → List Content
taken true none xs = none ∷ xs
taken false none [] = none ∷ []
taken false none (x ∷ xs) = x ∷ []

taken_picked : (many : Bool) (none : Content) (xs : List Content) → Picks many (none ∷ xs) (none ∷ xs) (taken many none xs)
taken_picked true none xs = pick_all refl
taken_picked false none [] = pick_one refl (here refl)
taken_picked false none (x ∷ xs) = pick_one refl (there (here refl))

abbrev rest_of : List Content → List Content
rest_of [] = []
rest_of (x ∷ xs) = xs

abbrev read_there : Labelling → ℕ → ℕ → Content → List Slot → List (List PathStep) → List Cell
read_there l to i x slots [] = []
read_there l to i x slots (q ∷ qs) =
    map (put_cell l (place_labels l) to i 0 q) (taken (has_element q) (with_labels x.labels zero_content) (rest_of (readable x q slots))) ++ read_there l to i x slots qs

read_fills : (l : Labelling) (to i : ℕ) (x : Content) (slots : List Slot) (qs : List (List PathStep))
    → Fills l (place_labels l) to i 0 (MayRead x slots) qs (read_there l to i x slots qs)
read_fills l to i x slots [] = no_leaf
read_fills l to i x slots (q ∷ qs) =
    one_leaf q (taken (has_element q) (with_labels x.labels zero_content) (rest_of (readable x q slots)))
    (taken_picked (has_element q) (with_labels x.labels zero_content) (rest_of (readable x q slots)))
    (read_fills l to i x slots qs)

abbrev moved_if : Bool → List Cell → Option (List Cell)
moved_if true cells = None
moved_if false cells = Some cells

abbrev with_first : Option Content → (Content → List Cell) → Option (List Cell)
with_first None f = None
with_first (Some x) f = Some (f x)

abbrev variable_cells : Option (Ident × Pos × ℕ) → (ℕ → List Cell) → Option (List Cell)
variable_cells None f = None
variable_cells (Some x) f = Some (f x.2)

-- what an instruction puts, where that is determined or one choice serves
abbrev put_by : Code → Labelling → Kind → ℕ → ℕ → ℕ → List Slot → ℕ → List Cell → Option (List Cell)
put_by p l (Op to from) g h i slots fresh cells = Some (put_cell l same_labels to i 0 [] (content Scalar (labels_of from cells)) ∷ [])
put_by p l (Move to from path) g h i slots fresh cells = moved_if (has_element path) (moved l to from i path (leaves p h to) cells)
put_by p l (Join to parts) g h i slots fresh cells = Some (put_together l to i parts (leaves p h to) cells)
put_by p l (New to site) g h i slots fresh cells = Some (put_cell l same_labels to i 0 [] (content (fresh_object site g fresh) []) ∷ [])
put_by p l (Step to from path) g h i slots fresh cells =
    with_first (first (value_at from [] cells)) (λ x. put_cell l same_labels to i 0 [] (content (stepped p path x.value) x.labels) ∷ [])
put_by p l (Read to at qs) g h i slots fresh cells = with_first (first (value_at at [] cells)) (λ x. read_there l to i x slots qs)
put_by p l (Global to global) g h i slots fresh cells = variable_cells (slice_get p.globals global) (λ s. put_cell l same_labels to i 0 [] (content (variable s) []) ∷ [])
put_by p l (Assert to from target) g h i slots fresh cells =
    with_first (first (value_at from [] cells)) (λ x. put_cell l same_labels to i 0 [] (content (asserted p target x.value) x.labels) ∷ [])
put_by p l (Passed to callee) g h i slots fresh cells = Some (copied l (passed_labels l callee) to to i 0 (leaves p h to) cells)
put_by p l (Goto target) g h i slots fresh cells = Some []
put_by p l (Branch targets) g h i slots fresh cells = Some []
put_by p l _ g h i slots fresh cells = None

moved_is : (b : Bool) (cells given : List Cell) → moved_if b cells ≡ Some given → (b ≡ false) × (given ≡ cells)
moved_is true cells given h = absurd cc
moved_is false cells given h = (refl, some_is cells given h)

first_is : (o : Option Content) (f : Content → List Cell) (given : List Cell) → with_first o f ≡ Some given → (x : Content) × (o ≡ Some x) × (given ≡ f x)
first_is None f given h = absurd cc
first_is (Some x) f given h = (x, refl, some_is (f x) given h)

variable_is : (o : Option (Ident × Pos × ℕ)) (f : ℕ → List Cell) (given : List Cell) → variable_cells o f ≡ Some given
    → (ident : Ident) × (at : Pos) × (s : ℕ) × (o ≡ Some (ident, at, s)) × (given ≡ f s)
variable_is None f given h = absurd cc
variable_is (Some x) f given h = (x.0, x.1, x.2, refl, some_is (f x.2) given h)

gives : (p : Code) (l : Labelling) (kind : Kind) (g h i : ℕ) (slots : List Slot) (fresh : ℕ) (cells given : List Cell)
    → put_by p l kind g h i slots fresh cells ≡ Some given → Gives p l kind g h i slots fresh cells given
gives p l (Op to from) g h i slots fresh cells given e = some_is (put_cell l same_labels to i 0 [] (content Scalar (labels_of from cells)) ∷ []) given e
gives p l (Move to from path) g h i slots fresh cells given e =
    let x = moved_is (has_element path) (moved l to from i path (leaves p h to) cells) given e in
    subst (Fills l (place_labels l) to i 0 (MayMove from path cells) (leaves p h to)) (sym x.1) (moved_fills l to from i path (leaves p h to) cells x.0)
gives p l (Join to parts) g h i slots fresh cells given e =
    subst (Fills l same_labels to i 0 (λ q xs. xs ≡ or_zero (joined parts q cells)) (leaves p h to)) (sym (some_is (put_together l to i parts (leaves p h to) cells) given e)) (together_fills l to i parts (leaves p h to) cells)
gives p l (New to site) g h i slots fresh cells given e = some_is (put_cell l same_labels to i 0 [] (content (fresh_object site g fresh) []) ∷ []) given e
gives p l (Step to from path) g h i slots fresh cells given e =
    let x = first_is (first (value_at from [] cells)) (λ x. put_cell l same_labels to i 0 [] (content (stepped p path x.value) x.labels) ∷ []) given e in
    (x.0, first_in (value_at from [] cells) x.0 x.1, x.2)
gives p l (Read to at qs) g h i slots fresh cells given e =
    let x = first_is (first (value_at at [] cells)) (λ x. read_there l to i x slots qs) given e in
    (x.0, first_in (value_at at [] cells) x.0 x.1, subst (Fills l (place_labels l) to i 0 (MayRead x.0 slots) qs) (sym x.2) (read_fills l to i x.0 slots qs))
gives p l (Global to global) g h i slots fresh cells given e =
    variable_is (slice_get p.globals global) (λ s. put_cell l same_labels to i 0 [] (content (variable s) []) ∷ []) given e
gives p l (Assert to from target) g h i slots fresh cells given e =
    let x = first_is (first (value_at from [] cells)) (λ x. put_cell l same_labels to i 0 [] (content (asserted p target x.value) x.labels) ∷ []) given e in
    (x.0, first_in (value_at from [] cells) x.0 x.1, x.2)
gives p l (Passed to callee) g h i slots fresh cells given e = some_is (copied l (passed_labels l callee) to to i 0 (leaves p h to) cells) given e
gives p l (Goto target) g h i slots fresh cells given e = some_is [] given e
gives p l (Branch targets) g h i slots fresh cells given e = some_is [] given e
gives p l (Write at from) g h i slots fresh cells given e = absurd cc
gives p l (Grow to at items) g h i slots fresh cells given e = absurd cc
gives p l (Call to callee args) g h i slots fresh cells given e = absurd cc
gives p l (Go callee args) g h i slots fresh cells given e = absurd cc
gives p l (Defer callee args) g h i slots fresh cells given e = absurd cc
gives p l RunDefers g h i slots fresh cells given e = absurd cc
gives p l (Leave from) g h i slots fresh cells given e = absurd cc
gives p l (Panic from) g h i slots fresh cells given e = absurd cc

abbrev puts_view : List Slot → ℕ → Frame → List Frame → Kind → Option (List Cell) → Option ℕ → Option View
puts_view ss n f rest kind (Some given) (Some j) = Some (view ss (n + 1) (goes_on f (defined kind) given j ∷ rest))
puts_view ss n f rest kind (Some given) None = None
puts_view ss n f rest kind None to = None

abbrev stores_view : Code → Labelling → List Slot → ℕ → Frame → List Frame → ℕ → Datum → Option View
stores_view p l ss n f rest from Scalar = None
stores_view p l ss n f rest from Nil = None
stores_view p l ss n f rest from (Ref o base) =
    Some (view (after_write (written p l f.place from o base (leaves p f.function from) f.cells) ss) n (at_place f (f.place + 1) ∷ rest))

abbrev stores_first : Code → Labelling → List Slot → ℕ → Frame → List Frame → ℕ → Option Content → Option View
stores_first p l ss n f rest from None = None
stores_first p l ss n f rest from (Some x) = stores_view p l ss n f rest from x.value

abbrev enters_body : Code → Labelling → List Slot → ℕ → Frame → List Frame → List ℕ → List ℕ → ℕ → Function → Option Bool → Option View
enters_body p l ss n f rest to args h fn None = Some (view ss n (entering p l f (length to) (Static h) args h false fn ∷ f ∷ rest))
enters_body p l ss n f rest to args h fn (Some flows) = None

abbrev enters_found : Code → Labelling → List Slot → ℕ → Frame → List Frame → List ℕ → List ℕ → ℕ → Option Function → Option View
enters_found p l ss n f rest to args h None = None
enters_found p l ss n f rest to args h (Some fn) = enters_body p l ss n f rest to args h fn fn.external

abbrev enters_view : Code → Labelling → List Slot → ℕ → Frame → List Frame → List ℕ → Callee → List ℕ → Option View
enters_view p l ss n f rest to (Static h) args = enters_found p l ss n f rest to args h (slice_get p.functions h)
enters_view p l ss n f rest to (Value r) args = None
enters_view p l ss n f rest to (Method r name) args = None

abbrev exits_view : List Slot → ℕ → Frame → List Frame → List Deferred → Option View
exits_view ss n f rest [] = Some (view ss n (at_place f (f.place + 1) ∷ rest))
exits_view ss n f rest (d ∷ ds) = None

abbrev back_to_call : Code → Labelling → List Slot → ℕ → Frame → List ℕ → Frame → List Frame → List ℕ → Bool → Option View
back_to_call p l ss n f from e rest to true =
    Some (view ss n (goes_on e to (handed_back p l (result_labels p l e.place f.function) e.function e.place 0 to (leaving p l f from)) (e.place + 1) ∷ rest))
back_to_call p l ss n f from e rest to false = None

abbrev leaves_to : Code → Labelling → List Slot → ℕ → Frame → List ℕ → Frame → List Frame → Option Kind → Option View
leaves_to p l ss n f from e rest (Some (Call to callee args)) = back_to_call p l ss n f from e rest to (f.site == e.place)
leaves_to p l ss n f from e rest (Some RunDefers) = Some (view ss n (e ∷ rest))
leaves_to p l ss n f from e rest _ = None

abbrev leaves_view : Code → Labelling → List Slot → ℕ → Frame → List ℕ → List Frame → Option View
leaves_view p l ss n f from [] = None
leaves_view p l ss n f from (e ∷ rest) = leaves_to p l ss n f from e rest (kind_of (slice_get p.instrs e.place))

-- where one step of the goroutine g leads by an instruction of this kind, if it is one of these
abbrev kind_view : Code → Labelling → ℕ → List Slot → ℕ → Frame → List Frame → Kind → Option View
kind_view p l g ss n f rest (Write at from) = stores_first p l ss n f rest from (first (value_at at [] f.cells))
kind_view p l g ss n f rest (Call to callee args) = enters_view p l ss n f rest to callee args
kind_view p l g ss n f rest RunDefers = exits_view ss n f rest f.records
kind_view p l g ss n f rest (Leave from) = leaves_view p l ss n f from rest
kind_view p l g ss n f rest kind = puts_view ss n f rest kind (put_by p l kind g f.function f.place ss n f.cells) (next_place kind f.place)

abbrev calm_view : Code → Labelling → ℕ → List Slot → ℕ → Frame → List Frame → Bool → Option Kind → Option View
calm_view p l g ss n f rest true kind = None
calm_view p l g ss n f rest false None = None
calm_view p l g ss n f rest false (Some kind) = kind_view p l g ss n f rest kind

abbrev frames_view : Code → Labelling → ℕ → List Slot → ℕ → List Frame → Option View
frames_view p l g ss n [] = None
frames_view p l g ss n (f ∷ rest) = calm_view p l g ss n f rest f.panics (kind_of (slice_get p.instrs f.place))

module _ (p : Code) (l : Labelling) (g : ℕ) (ss : List Slot) (n : ℕ) where
  module _ (f : Frame) (rest : List Frame) (calm : f.panics ≡ false) where
    puts : (kind : Kind) → IsAt p f.place kind → (o : Option (List Cell)) → put_by p l kind g f.function f.place ss n f.cells ≡ o → (to : Option ℕ) → next_place kind f.place ≡ to
        → (v : View) → puts_view ss n f rest kind o to ≡ Some v → Acts p l g ss n (f ∷ rest) v [] false
    puts kind at (Some given) e (Some j) onward v h =
        subst (λ v. Acts p l g ss n (f ∷ rest) v [] false) (sym (some_is (view ss (n + 1) (goes_on f (defined kind) given j ∷ rest)) v h))
        (act_puts kind given j at calm (gives p l kind g f.function f.place ss n f.cells given e) (goes kind f.place j onward))
    puts kind at (Some given) e None onward v h = absurd cc
    puts kind at None e to onward v h = absurd cc

    puts_by : (kind : Kind) → IsAt p f.place kind → (v : View) → puts_view ss n f rest kind (put_by p l kind g f.function f.place ss n f.cells) (next_place kind f.place) ≡ Some v → Acts p l g ss n (f ∷ rest) v [] false
    puts_by kind at = puts kind at (put_by p l kind g f.function f.place ss n f.cells) refl (next_place kind f.place) refl

    stores_by : (at from : ℕ) → IsAt p f.place (Write at from) → (x : Content) → In x (value_at at [] f.cells) → (d : Datum) → x.value ≡ d
        → (v : View) → stores_view p l ss n f rest from d ≡ Some v → Acts p l g ss n (f ∷ rest) v [] false
    stores_by at from is x has Scalar e v h = absurd cc
    stores_by at from is x has Nil e v h = absurd cc
    stores_by at from is x has (Ref o base) e v h =
        subst (λ v. Acts p l g ss n (f ∷ rest) v [] false)
        (sym (some_is (view (after_write (written p l f.place from o base (leaves p f.function from) f.cells) ss) n (at_place f (f.place + 1) ∷ rest)) v h))
        (act_stores at from o base x (f.place + 1) is calm has e refl)

    stores : (at from : ℕ) → IsAt p f.place (Write at from) → (o : Option Content) → first (value_at at [] f.cells) ≡ o
        → (v : View) → stores_first p l ss n f rest from o ≡ Some v → Acts p l g ss n (f ∷ rest) v [] false
    stores at from is None e v h = absurd cc
    stores at from is (Some x) e v h = stores_by at from is x (first_in (value_at at [] f.cells) x e) x.value refl v h

    enters_as : (to args : List ℕ) (h : ℕ) → IsAt p f.place (Call to (Static h) args) → (fn : Function) → IsFunction p h fn → (o : Option Bool) → fn.external ≡ o
        → (v : View) → enters_body p l ss n f rest to args h fn o ≡ Some v → Acts p l g ss n (f ∷ rest) v [] false
    enters_as to args h is fn at None e v k =
        subst (λ v. Acts p l g ss n (f ∷ rest) v [] false) (sym (some_is (view ss n (entering p l f (length to) (Static h) args h false fn ∷ f ∷ rest)) v k))
        (act_enters to (Static h) args h false fn is calm by_number at e)
    enters_as to args h is fn at (Some flows) e v k = absurd cc

    enters_one : (to args : List ℕ) (h : ℕ) → IsAt p f.place (Call to (Static h) args) → (o : Option Function) → slice_get p.functions h ≡ o
        → (v : View) → enters_found p l ss n f rest to args h o ≡ Some v → Acts p l g ss n (f ∷ rest) v [] false
    enters_one to args h is None e v k = absurd cc
    enters_one to args h is (Some fn) e v k = enters_as to args h is fn e fn.external refl v k

    enters : (to args : List ℕ) (callee : Callee) → IsAt p f.place (Call to callee args) → (v : View) → enters_view p l ss n f rest to callee args ≡ Some v → Acts p l g ss n (f ∷ rest) v [] false
    enters to args (Static h) is v k = enters_one to args h is (slice_get p.functions h) refl v k
    enters to args (Value r) is v k = absurd cc
    enters to args (Method r name) is v k = absurd cc

    exits : IsAt p f.place RunDefers → (records : List Deferred) → f.records ≡ records → (v : View) → exits_view ss n f rest records ≡ Some v → Acts p l g ss n (f ∷ rest) v [] false
    exits is [] e v h = subst (λ v. Acts p l g ss n (f ∷ rest) v [] false) (sym (some_is (view ss n (at_place f (f.place + 1) ∷ rest)) v h)) (act_exits (f.place + 1) is calm e refl)
    exits is (d ∷ ds) e v h = absurd cc

  module _ (f e : Frame) (rest : List Frame) (calm : f.panics ≡ false) (from : List ℕ) (is : IsAt p f.place (Leave from)) where
    back : (to args : List ℕ) (callee : Callee) → IsAt p e.place (Call to callee args) → (b : Bool) → (f.site == e.place) ≡ b
        → (v : View) → back_to_call p l ss n f from e rest to b ≡ Some v → Acts p l g ss n (f ∷ e ∷ rest) v [] false
    back to args callee at true same v h =
        subst (λ v. Acts p l g ss n (f ∷ e ∷ rest) v [] false)
        (sym (some_is (view ss n (goes_on e to (handed_back p l (result_labels p l e.place f.function) e.function e.place 0 to (leaving p l f from)) (e.place + 1) ∷ rest)) v h))
        (act_leaves from to callee args (e.place + 1) is calm (eqb-true f.site e.place same) at refl)
    back to args callee at false same v h = absurd cc

    leaves_at : (o : Option Kind) → kind_of (slice_get p.instrs e.place) ≡ o → (v : View) → leaves_to p l ss n f from e rest o ≡ Some v → Acts p l g ss n (f ∷ e ∷ rest) v [] false
    leaves_at (Some (Call to callee args)) at v h = back to args callee at (f.site == e.place) refl v h
    leaves_at (Some RunDefers) at v h = subst (λ v. Acts p l g ss n (f ∷ e ∷ rest) v [] false) (sym (some_is (view ss n (e ∷ rest)) v h)) (act_leaves_deferred from is calm at)
    leaves_at _ at v h = absurd cc

  leaves_on : (f : Frame) (frames : List Frame) → f.panics ≡ false → (from : List ℕ) → IsAt p f.place (Leave from) → (v : View) → leaves_view p l ss n f from frames ≡ Some v → Acts p l g ss n (f ∷ frames) v [] false
  leaves_on f [] calm from is v h = absurd cc
  leaves_on f (e ∷ rest) calm from is v h = leaves_at f e rest calm from is (kind_of (slice_get p.instrs e.place)) refl v h

  acts_by : (f : Frame) (rest : List Frame) → f.panics ≡ false → (kind : Kind) → IsAt p f.place kind → (v : View) → kind_view p l g ss n f rest kind ≡ Some v → Acts p l g ss n (f ∷ rest) v [] false
  acts_by f rest calm (Write at from) is v h = stores f rest calm at from is (first (value_at at [] f.cells)) refl v h
  acts_by f rest calm (Call to callee args) is v h = enters f rest calm to args callee is v h
  acts_by f rest calm RunDefers is v h = exits f rest calm is f.records refl v h
  acts_by f rest calm (Leave from) is v h = leaves_on f rest calm from is v h
  acts_by f rest calm kind is v h = puts_by f rest calm kind is v h

  acts_calm : (f : Frame) (rest : List Frame) (b : Bool) → f.panics ≡ b → (o : Option Kind) → kind_of (slice_get p.instrs f.place) ≡ o → (v : View) → calm_view p l g ss n f rest b o ≡ Some v → Acts p l g ss n (f ∷ rest) v [] false
  acts_calm f rest true calm o is v h = absurd cc
  acts_calm f rest false calm None is v h = absurd cc
  acts_calm f rest false calm (Some kind) is v h = acts_by f rest calm kind is v h

  acts : (frames : List Frame) (v : View) → frames_view p l g ss n frames ≡ Some v → Acts p l g ss n frames v [] false
  acts [] v h = absurd cc
  acts (f ∷ rest) v h = acts_calm f rest f.panics refl (kind_of (slice_get p.instrs f.place)) refl v h

abbrev view_state : State → ℕ → Option View → State
view_state s g None = s
view_state s g (Some v) = record { slots = v.slots; fresh = v.fresh; goroutines = slice_set s.goroutines g v.frames ++ []; ended = false }

abbrev frames_state : Code → Labelling → State → ℕ → Bool → Option (List Frame) → State
frames_state p l s g true frames = s
frames_state p l s g false None = s
frames_state p l s g false (Some frames) = view_state s g (frames_view p l g s.slots s.fresh frames)

-- the state behind one such step of the goroutine g, or the same state
abbrev one_ahead : Code → Labelling → ℕ → State → State
one_ahead p l g s = frames_state p l s g s.ended (slice_get s.goroutines g)

-- the state behind k such steps of the goroutine g, or as many as there are
abbrev pub ahead : Code → Labelling → ℕ → ℕ → State → State
ahead p l g zero s = s
ahead p l g (suc k) s = ahead p l g k (one_ahead p l g s)

module _ (p : Code) (l : Labelling) where
  -- a run goes on by a step
  pub stepped_to : {s t : State} → IsReached p l s → OneStep p l s t → IsReached p l t
  stepped_to r step = record { steps = suc r.steps; run = then_step r.run step }

  -- runs begin
  pub opened : (fn : Function) → IsFunction p 0 fn → IsReached p l (opening fn)
  opened fn is = record { steps = 0; run = no_step fn is }

  module _ (g : ℕ) where
    by_view : (s : State) (frames : List Frame) → s.ended ≡ false → slice_get s.goroutines g ≡ Some frames → IsReached p l s
        → (o : Option View) → frames_view p l g s.slots s.fresh frames ≡ o → IsReached p l (view_state s g o)
    by_view s frames going get r None e = r
    by_view s frames going get r (Some v) e = stepped_to r (one_step g frames going get (acts p l g s.slots s.fresh frames v e))

    by_frames : (s : State) → IsReached p l s → (b : Bool) → s.ended ≡ b → (o : Option (List Frame)) → slice_get s.goroutines g ≡ o → IsReached p l (frames_state p l s g b o)
    by_frames s r true going o get = r
    by_frames s r false going None get = r
    by_frames s r false going (Some frames) get = by_view s frames going get r (frames_view p l g s.slots s.fresh frames) refl

    -- and goes ahead by k steps
    pub gone_ahead : (k : ℕ) (s : State) → IsReached p l s → IsReached p l (ahead p l g k s)
    gone_ahead zero s r = r
    gone_ahead (suc k) s r = gone_ahead k (one_ahead p l g s) (by_frames s r s.ended refl (slice_get s.goroutines g) refl)
