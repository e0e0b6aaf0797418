-- What stands in the whole program, from what stands in the code, and the other way round.
use Rattle.std.proofs.Common.{◌≡◌, ℕ, zero, suc, ◌<◌, ◌≤◌, List, [], ◌∷◌, Option, Some, None, length, map, refl, sym, ap, ◌∙◌, subst, inl, inr}
use Rattle.std.specs.Prelude.{slice_get}
use Rattle.argot_plain.specs.declared.first.Kind as Few
use Rattle.argot_plain.specs.declared.first.Kind.TheVariants as few
use Rattle.argot_plain.specs.First as First
use Rattle.argot_plain.specs.Code as PlainKind
use Rattle.argot_plain.specs.Code.{IsAt, IsFunction, IsEntry, IsIn, Defines, by_kind, by_entry, Next, Successor, successor, defined, Hands, by_call, by_go, by_defer}
use Rattle.argot_plain.specs.declared.functions.Function.{Function}
use Rattle.argot_plain.specs.declared.instructions.Callee.{Callee}
use Rattle.argot_plain.specs.declared.instructions.Callee.TheVariants.{Static}
use Rattle.argot_plain.specs.declared.instructions.Kind.{Kind}
use Rattle.argot_plain.specs.declared.instructions.Kind.TheVariants.{Op, Move, Call, Go, Defer, RunDefers, Leave, Goto, Branch}
use Rattle.argot_first_sound.specs.Whole.{whole_kind, whole_instr, whole_function, whole_of}

pub some-same : {A : Type 0} {x y : A} → Some x ≡ Some y → x ≡ y
some-same h = cc h

pub map-there : {A B : Type 0} (f : A → B) (xs : List A) (i : ℕ) (x : A) → slice_get xs i ≡ Some x → slice_get (map f xs) i ≡ Some (f x)
map-there f [] i x h = absurd (cc h)
map-there f (y ∷ ys) zero x h = ap (λ z. Some (f z)) (some-same h)
map-there f (y ∷ ys) (suc i) x h = map-there f ys i x h

pub map-back : {A B : Type 0} (f : A → B) (xs : List A) (i : ℕ) (y : B) → slice_get (map f xs) i ≡ Some y → (x : A) × (slice_get xs i ≡ Some x) × (y ≡ f x)
map-back f [] i y h = absurd (cc h)
map-back f (x ∷ xs) zero y h = (x, refl, sym (some-same h))
map-back f (x ∷ xs) (suc i) y h = map-back f xs i y h

pub only-one : (x y k : ℕ) → slice_get (x ∷ []) k ≡ Some y → (k ≡ 0) × (y ≡ x)
only-one x y zero h = (refl, sym (some-same h))
only-one x y (suc k) h = absurd (cc h)

-- the seven kinds
abbrev pub IsFew : Kind → Type 0
IsFew (Op to from) = Unit {0}
IsFew (Move to from path) = Unit {0}
IsFew (Call to callee args) = Unit {0}
IsFew RunDefers = Unit {0}
IsFew (Leave from) = Unit {0}
IsFew (Goto target) = Unit {0}
IsFew (Branch targets) = Unit {0}
IsFew _ = ⊥

few-is : (k : Few.Kind) → IsFew (whole_kind k)
few-is (few.Op to from) = tt
few-is (few.Move to from) = tt
few-is (few.Call to g args) = tt
few-is few.RunDefers = tt
few-is (few.Leave from) = tt
few-is (few.Goto target) = tt
few-is (few.Branch targets) = tt

instr-kind : (o : Option First.Instr) (x : First.Instr) → o ≡ Some x → First.kind_in o ≡ Some x.kind
instr-kind o x e = ap First.kind_in e

module _ (code : First.Code) where
  -- what stands at a place of the whole program
  pub record Stands (i : ℕ) (kind : Kind) : Type 0 where
    pub kind_there : Few.Kind
    pub is_at : First.IsAt code i kind_there
    pub is : kind ≡ whole_kind kind_there

  stands-by : (xs : List First.Instr) (i : ℕ) (kind : Kind) → PlainKind.kind_of (slice_get (map whole_instr xs) i) ≡ Some kind → (k : Few.Kind) × (First.kind_in (slice_get xs i) ≡ Some k) × (kind ≡ whole_kind k)
  stands-by [] i kind h = absurd (cc h)
  stands-by (x ∷ xs) zero kind h = (x.kind, refl, sym (some-same h))
  stands-by (x ∷ xs) (suc i) kind h = stands-by xs i kind h

  pub stands : (i : ℕ) (kind : Kind) → IsAt (whole_of code) i kind → Stands i kind
  stands i kind h = let s = stands-by code.instrs i kind h in record { kind_there = s.0; is_at = s.1; is = s.2 }

  there-by : (xs : List First.Instr) (i : ℕ) (k : Few.Kind) → First.kind_in (slice_get xs i) ≡ Some k → PlainKind.kind_of (slice_get (map whole_instr xs) i) ≡ Some (whole_kind k)
  there-by [] i k h = absurd (cc h)
  there-by (x ∷ xs) zero k h = ap (λ z. Some (whole_kind z)) (some-same h)
  there-by (x ∷ xs) (suc i) k h = there-by xs i k h

  pub at-there : (i : ℕ) (k : Few.Kind) → First.IsAt code i k → IsAt (whole_of code) i (whole_kind k)
  at-there i k h = there-by code.instrs i k h

  pub is-few : (i : ℕ) (kind : Kind) → IsAt (whole_of code) i kind → IsFew kind
  is-few i kind h = let s = stands i kind h in subst IsFew (sym s.is) (few-is s.kind_there)

  pub function-there : (g : ℕ) (f : First.Plain) → First.IsFunction code g f → IsFunction (whole_of code) g (whole_function f)
  function-there g f h = map-there whole_function code.functions g f h

  pub function-back : (g : ℕ) (fn : Function) → IsFunction (whole_of code) g fn → (f : First.Plain) × First.IsFunction code g f × (fn ≡ whole_function f)
  function-back g fn h = map-back whole_function code.functions g fn h

  -- the place is one of this function
  pub inside-back : (i g : ℕ) → IsIn (whole_of code) i g → (f : First.Plain) × First.IsFunction code g f × First.IsIn i f
  inside-back i g h =
      let f = function-back g h.fn h.is in
      (f.0, f.1, subst (λ (x : Function). (x.entry ≤ i) × (i ≤ x.leave)) f.2 (h.low, h.high))

  -- each call is by number
  call-by : (to args : List ℕ) (callee : Callee) (k : Few.Kind) → Call to callee args ≡ whole_kind k → (g : ℕ) × (callee ≡ Static g) × (k ≡ few.Call to g args)
  call-by to args callee (few.Op t from) e = absurd (cc e)
  call-by to args callee (few.Move t from) e = absurd (cc e)
  call-by to args callee (few.Call t g rs) e =
      let a : t ≡ to = cc e in
      let b : rs ≡ args = cc e in
      (g, cc e, ap (λ x. few.Call x g rs) a ∙ ap (λ x. few.Call to g x) b)
  call-by to args callee few.RunDefers e = absurd (cc e)
  call-by to args callee (few.Leave from) e = absurd (cc e)
  call-by to args callee (few.Goto t) e = absurd (cc e)
  call-by to args callee (few.Branch ts) e = absurd (cc e)

  pub call-back : (i : ℕ) (to args : List ℕ) (callee : Callee) → IsAt (whole_of code) i (Call to callee args) → (g : ℕ) × (callee ≡ Static g) × First.IsAt code i (few.Call to g args)
  call-back i to args callee h =
      let s = stands i (Call to callee args) h in
      let c = call-by to args callee s.kind_there s.is in
      (c.0, c.1, s.is_at ∙ ap Some c.2)

  -- what hands values on is a call
  pub record HandsOn (i : ℕ) (callee : Callee) (args : List ℕ) (n : ℕ) : Type 0 where
    pub to : List ℕ
    pub number : ℕ
    pub is_callee : callee ≡ Static number
    pub count : n ≡ length to
    pub is_at : First.IsAt code i (few.Call to number args)

  pub hands-on : (i : ℕ) (kind : Kind) (callee : Callee) (args : List ℕ) (n : ℕ) → IsAt (whole_of code) i kind → Hands kind callee args n → HandsOn i callee args n
  hands-on i kind callee args n h (by_call {to = to}) = let c = call-back i to args callee h in record { to = to; number = c.0; is_callee = c.1; count = refl; is_at = c.2 }
  hands-on i kind callee args n h by_go = absurd (is-few i (Go callee args) h)
  hands-on i kind callee args n h by_defer = absurd (is-few i (Defer callee args) h)

  goes-by : (k : Few.Kind) (i j : ℕ) → Next (whole_kind k) i j → First.GoesOn (Some k) i j
  goes-by (few.Op to from) i j h = h
  goes-by (few.Move to from) i j h = h
  goes-by (few.Call to g args) i j h = h
  goes-by few.RunDefers i j h = h
  goes-by (few.Leave from) i j h = h
  goes-by (few.Goto target) i j h = h.0
  goes-by (few.Branch targets) i j h = h

  pub successor-back : (i j : ℕ) → Successor (whole_of code) i j → First.Successor code i j
  successor-back i j (successor kind at next) =
      let s = stands i kind at in
      subst (λ o. First.GoesOn o i j) (sym s.is_at) (goes-by s.kind_there i j (subst (λ x. Next x i j) s.is next))

  gives-by : (kind : Few.Kind) (k r : ℕ) → slice_get (defined (whole_kind kind)) k ≡ Some r → First.Gives (Some kind) k r
  gives-by (few.Op to from) k r h = only-one to r k h
  gives-by (few.Move to from) k r h = only-one to r k h
  gives-by (few.Call to g args) k r h = h
  gives-by few.RunDefers k r h = absurd (cc h)
  gives-by (few.Leave from) k r h = absurd (cc h)
  gives-by (few.Goto target) k r h = absurd (cc h)
  gives-by (few.Branch targets) k r h = absurd (cc h)

  pub defines-back : (i k r : ℕ) → Defines (whole_of code) i k r → First.Defines code i k r
  defines-back i k r (by_kind kind at is) =
      let s = stands i kind at in
      inl (subst (λ o. First.Gives o k r) (sym s.is_at) (gives-by s.kind_there k r (subst (λ x. slice_get (defined x) k ≡ Some r) s.is is)))
  defines-back i k r (by_entry g e within same) =
      let f = function-back g e.fn e.is in
      inr (record {
        number = g;
        function = f.0;
        is_function = f.1;
        entry = sym (e.at ∙ ap (λ (x : Function). x.entry) f.2);
        within = subst (λ (x : Function). k < x.params) f.2 within;
        same = same;
      })

  one-there : (to k r : ℕ) → k ≡ 0 → r ≡ to → slice_get (to ∷ []) k ≡ Some r
  one-there to k r a b = ap (slice_get (to ∷ [])) a ∙ ap Some (sym b)

  defined-by : (kind : Few.Kind) (k r : ℕ) → First.Gives (Some kind) k r → slice_get (defined (whole_kind kind)) k ≡ Some r
  defined-by (few.Op to from) k r h = one-there to k r h.0 h.1
  defined-by (few.Move to from) k r h = one-there to k r h.0 h.1
  defined-by (few.Call to g args) k r h = h
  defined-by few.RunDefers k r h = absurd h
  defined-by (few.Leave from) k r h = absurd h
  defined-by (few.Goto target) k r h = absurd h
  defined-by (few.Branch targets) k r h = absurd h

  given-there : (i k r : ℕ) (o : Option Few.Kind) → First.kind_at code i ≡ o → First.Gives o k r → Defines (whole_of code) i k r
  given-there i k r None e h = absurd h
  given-there i k r (Some kind) e h = by_kind (whole_kind kind) (at-there i kind e) (defined-by kind k r h)

  pub defines-there : (i k r : ℕ) → First.Defines code i k r → Defines (whole_of code) i k r
  defines-there i k r (inl h) = given-there i k r (First.kind_at code i) refl h
  defines-there i k r (inr h) =
      by_entry h.number (record { fn = whole_function h.function; is = function-there h.number h.function h.is_function; at = sym h.entry }) h.within h.same
