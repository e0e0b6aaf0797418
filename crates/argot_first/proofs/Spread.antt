-- What an edge leads to, from what the marks say of its start.
use Rattle.std.proofs.Common.{◌≡◌, ℕ, zero, suc, ◌+◌, ◌-◌, ◌<◌, ◌≤◌, List, [], ◌∷◌, Option, Some, None, Bool, true, false, ◌||◌, length, refl, sym, ap, ◌∙◌, subst, get_or, arith, add-zero, ◌⊎◌, inl, inr}
use Rattle.std.specs.Prelude.{slice_get}
use Rattle.std.proofs.lemmas.Option.{slice_get_within, slice_get_cases}
use Rattle.std.proofs.lemmas.Bool.{cases_lt}
use Rattle.argot_first_form.specs.declared.functions.Function.{Function}
use Rattle.argot_first_form.specs.declared.functions.Returned.{Returned}
use Rattle.argot_first_form.specs.declared.functions.Returned.TheVariants as returns
use Rattle.argot_plain.specs.declared.first.Kind.{Kind}
use Rattle.argot_plain.specs.declared.first.Kind.TheVariants.{Op, Move, Call, RunDefers, Leave, Goto, Branch}
use Rattle.argot_plain.specs.First.{Plain, Code, Among, kind_at, IsAt, IsFunction, GoesOn, Successor, Gives, IsParameter, Defines, Reaches, next, onward, Takes, Within, Enters, Returns, Edge, within, enters, returns, Joins, stay, plain, call, return_last, return_free, cleans}
use Rattle.argot_first.specs.Code.{number_of}
use Rattle.argot_first.specs.Marks.{marked, target, set_at, carries, passes, cleans_name}
use Rattle.argot_first.proofs.Lookup.{some-same}
use Rattle.argot_first.proofs.Blocks.{IsBlock, block_of, last_of}
use Rattle.argot_first.proofs.Shape.{Shape, StepShape}
use Rattle.argot_first.proofs.Before.{before, value, before-step, upto-past, length-before, marked-same, marked-other}
use Rattle.argot_first.proofs.Forward.{reaches-defines, same-kind, block-next, block-has, block-takes, result-takes}

-- a kind that is no Goto and no Leave
abbrev pub Steps : Kind → Type 0
Steps (Op to from) = Unit {0}
Steps (Move to from) = Unit {0}
Steps (Call to g args) = Unit {0}
Steps RunDefers = ⊥
Steps (Leave from) = ⊥
Steps (Goto t) = ⊥
Steps (Branch ts) = ⊥

shape-steps : (functions : List Function) (kinds : List Kind) (j : ℕ) (kind : Kind) → StepShape functions kinds j kind → Steps kind
shape-steps functions kinds j (Op to from) h = tt
shape-steps functions kinds j (Move to from) h = tt
shape-steps functions kinds j (Call to g args) h = tt
shape-steps functions kinds j RunDefers h = h
shape-steps functions kinds j (Leave from) h = h
shape-steps functions kinds j (Goto t) h = h
shape-steps functions kinds j (Branch ts) h = h

no-goto : (kind : Kind) (t : ℕ) → Steps kind → kind ≡ Goto t → ⊥
no-goto kind t h e = subst Steps e h

no-leave : (kind : Kind) (from : List ℕ) → Steps kind → kind ≡ Leave from → ⊥
no-leave kind from h e = subst Steps e h

-- main's steps go on one after another
goes-next : (kind : Kind) (i x : ℕ) → Steps kind → GoesOn (Some kind) i x → x ≡ i + 1
goes-next (Op to from) i x h g = g
goes-next (Move to from) i x h g = g
goes-next (Call to g args) i x h e = e
goes-next RunDefers i x h g = absurd h
goes-next (Leave from) i x h g = absurd h
goes-next (Goto t) i x h g = absurd h
goes-next (Branch ts) i x h g = absurd h

only : (to : List ℕ) (j k r : ℕ) → (to ≡ []) ⊎ (to ≡ j ∷ []) → slice_get to k ≡ Some r → (k ≡ 0) × (slice_get to 0 ≡ Some r)
only to j k r (inl e) h = absurd (cc (subst (λ x. slice_get x k ≡ Some r) e h))
only to j zero r (inr e) h = (refl, h)
only to j (suc k) r (inr e) h = absurd (cc (subst (λ x. slice_get x (suc k) ≡ Some r) e h))

-- a step gives its target as its only result
gives-target : (functions : List Function) (kinds : List Kind) (j k r : ℕ) (kind : Kind) → StepShape functions kinds j kind → Gives (Some kind) k r → (k ≡ 0) × (target kind ≡ Some r)
gives-target functions kinds j k r (Op to from) h g = (g.0, ap (λ x. Some x) (sym g.1))
gives-target functions kinds j k r (Move to from) h g = (g.0, ap (λ x. Some x) (sym g.1))
gives-target functions kinds j k r (Call to f args) h g = only to j k r h.5 g
gives-target functions kinds j k r RunDefers h g = absurd h
gives-target functions kinds j k r (Leave from) h g = absurd h
gives-target functions kinds j k r (Goto t) h g = absurd h
gives-target functions kinds j k r (Branch ts) h g = absurd h

pub target-gives : (kind : Kind) (r : ℕ) → target kind ≡ Some r → Gives (Some kind) 0 r
target-gives (Op to from) r h = (refl, sym (some-same h))
target-gives (Move to from) r h = (refl, sym (some-same h))
target-gives (Call to g args) r h = h
target-gives RunDefers r h = cc h
target-gives (Leave from) r h = cc h
target-gives (Goto t) r h = cc h
target-gives (Branch ts) r h = cc h

one-within : (to : List ℕ) (j x : ℕ) → (to ≡ []) ⊎ (to ≡ j ∷ []) → slice_get to 0 ≡ Some x → x ≡ j
one-within to j x (inl e) h = absurd (cc (subst (λ y. slice_get y 0 ≡ Some x) e h))
one-within to j x (inr e) h = let q : slice_get (j ∷ []) 0 ≡ Some x = subst (λ y. slice_get y 0 ≡ Some x) e h in sym (some-same q)

pub target-within : (functions : List Function) (kinds : List Kind) (j x : ℕ) (kind : Kind) → j < length kinds → StepShape functions kinds j kind → target kind ≡ Some x → x < length kinds
target-within functions kinds j x (Op to from) w h t = let q : to ≡ x = some-same t in omega (arith, h.0)
target-within functions kinds j x (Move to from) w h t = let q : to ≡ x = some-same t in omega arith
target-within functions kinds j x (Call to g args) w h t = omega (arith, one-within to j x h.5 t)
target-within functions kinds j x RunDefers w h t = absurd h
target-within functions kinds j x (Leave from) w h t = absurd h
target-within functions kinds j x (Goto p) w h t = absurd h
target-within functions kinds j x (Branch ts) w h t = absurd h

none-in : (r : ℕ) (from : List ℕ) → from ≡ [] → Among r from → ⊥
none-in r from e h = let q : slice_get [] h.0 ≡ Some r = subst (λ y. slice_get y h.0 ≡ Some r) e h.1 in cc q

or-right : (a b : Bool) → b ≡ true → (a || b) ≡ true
or-right true b h = refl
or-right false b h = h

first-of : (xs : List ℕ) → 0 < length xs → (x : ℕ) × (slice_get xs 0 ≡ Some x)
first-of [] h = absurd (omega arith)
first-of (x ∷ xs) h = (x, refl)

module _ (code : Code) (functions : List Function) (kinds : List Kind) (base : ℕ) (sh : Shape code functions kinds base) (s : ℕ) where
  abbrev marks : ℕ → List Bool
  marks i = before functions s kinds i

  abbrev has : ℕ → Kind → Bool
  has i kind = value functions s kinds i kind

  pub step-steps : (j : ℕ) (kind : Kind) → slice_get kinds j ≡ Some kind → Steps kind
  step-steps j kind h = shape-steps functions kinds j kind (sh.step_shape j kind h)

  -- no function begins or ends at a step of main
  pub step-no-entry : (j k r : ℕ) (kind : Kind) → slice_get kinds j ≡ Some kind → IsParameter code (base + j) k r → ⊥
  step-no-entry j k r kind h p =
      let e = sh.entries p.number p.function p.is_function in
      no-goto kind e.0 (step-steps j kind h) (same-kind code (base + j) kind (Goto e.0) (sh.step_at j kind h) (subst (λ x. IsAt code x (Goto e.0)) p.entry e.1))

  step-no-leave : (j g : ℕ) (pl : Plain) (kind : Kind) → slice_get kinds j ≡ Some kind → IsFunction code g pl → base + j ≡ pl.leave → ⊥
  step-no-leave j g pl kind h f e =
      let l = sh.leaves g pl f in
      no-leave kind l.0 (step-steps j kind h) (same-kind code (base + j) kind (Leave l.0) (sh.step_at j kind h) (subst (λ x. IsAt code x (Leave l.0)) (sym e) l.1))

  pub defines-by : (j k r : ℕ) (kind : Kind) → slice_get kinds j ≡ Some kind → Defines code (base + j) k r → (k ≡ 0) × (target kind ≡ Some r)
  defines-by j k r kind h (inl g) = gives-target functions kinds j k r kind (sh.step_shape j kind h) (subst (λ x. Gives x k r) (sh.step_at j kind h) g)
  defines-by j k r kind h (inr p) = absurd (step-no-entry j k r kind h p)

  -- where a register of main is read: at a later step, with what it was given
  pub record Spreads (j r x : ℕ) : Type 0 where
    pub step : ℕ
    pub is_place : x ≡ base + step
    pub later : j < step
    pub last : step ≤ length kinds + 1
    pub is_marked : marked (marks step) r ≡ true

  -- the marks behind a step that doesn't give the register
  kept-by : (t : Option ℕ) (m : List Bool) (r : ℕ) (v : Bool) → (t ≡ Some r → ⊥) → marked m r ≡ true → marked (set_at m t v) r ≡ true
  kept-by None m r v n h = h
  kept-by (Some q) m r v n h = marked-other m q r v (λ e. n (ap (λ y. Some y) e)) ∙ h

  kept : (i r : ℕ) (kind : Kind) → slice_get kinds i ≡ Some kind → ((l : ℕ) → Defines code (base + i) l r → ⊥) → marked (marks i) r ≡ true → marked (marks (suc i)) r ≡ true
  kept i r kind h n m =
      rw (before-step functions s kinds i kind h)
      (kept-by (target kind) (marks i) r (has i kind) (λ e. n 0 (inl (subst (λ x. Gives x 0 r) (sym (sh.step_at i kind h)) (target-gives kind r e)))) m)

  past : (i : ℕ) → length kinds ≤ i → marks (suc i) ≡ marks i
  past i h = upto-past functions s 0 _ kinds i h

  further-end : (j r m x : ℕ) (p : Spreads j r m) → Successor code m x → length kinds ≤ p.step → (p.step ≡ length kinds) ⊎ (p.step ≡ length kinds + 1) → Spreads j r x
  further-end j r m x p g h (inl e) =
      let at : m ≡ base + length kinds = p.is_place ∙ ap (λ y. base + y) e in
      let g2 : x ≡ base + length kinds + 1 = subst (λ y. GoesOn y (base + length kinds) x) sh.defers_at (subst (λ y. Successor code y x) at g) in
      let later = p.later in
      record {
        step = suc p.step;
        is_place = omega (arith, g2, e);
        later = omega arith;
        last = omega (arith, e);
        is_marked = ap (λ y. marked y r) (past p.step h) ∙ p.is_marked;
      }
  further-end j r m x p g h (inr e) =
      let at : m ≡ base + (length kinds + 1) = p.is_place ∙ ap (λ y. base + y) e in
      absurd (subst (λ y. GoesOn y (base + (length kinds + 1)) x) sh.leave_at (subst (λ y. Successor code y x) at g))

  end-by : (a b : ℕ) → (b < a) ⊎ (a ≤ b) → b ≤ a → a ≤ b + 1 → (a ≡ b) ⊎ (a ≡ b + 1)
  end-by a b (inl l) h k = inr (omega arith)
  end-by a b (inr l) h k = inl (omega arith)

  end-cases : (a b : ℕ) → b ≤ a → a ≤ b + 1 → (a ≡ b) ⊎ (a ≡ b + 1)
  end-cases a b h k = end-by a b (cases_lt b a) h k

  -- one place further
  further-by : (j r m x : ℕ) (p : Spreads j r m) → ((l : ℕ) → Defines code m l r → ⊥) → Successor code m x → ((kind : Kind) × (p.step < length kinds) × (slice_get kinds p.step ≡ Some kind)) ⊎ (length kinds ≤ p.step) → Spreads j r x
  further-by j r m x p n g (inl h) =
      let g2 : GoesOn (Some h.0) (base + p.step) x = subst (λ y. GoesOn y (base + p.step) x) (sh.step_at p.step h.0 h.2) (subst (λ y. Successor code y x) p.is_place g) in
      let e = goes-next h.0 (base + p.step) x (step-steps p.step h.0 h.2) g2 in
      let later = p.later in
      record {
        step = suc p.step;
        is_place = e ∙ omega arith;
        later = omega arith;
        last = omega (arith, h.1);
        is_marked = kept p.step r h.0 h.2 (λ l d. n l (subst (λ y. Defines code y l r) (sym p.is_place) d)) p.is_marked;
      }
  further-by j r m x p n g (inr h) = further-end j r m x p g h (end-cases p.step (length kinds) h p.last)

  -- a number below the length has a kind
  kind-by : (i : ℕ) → ((x : Kind) × (i < length kinds) × (slice_get kinds i ≡ Some x) × (get_or kinds i x ≡ x)) ⊎ ((length kinds ≤ i) × (slice_get kinds i ≡ None)) → ((kind : Kind) × (i < length kinds) × (slice_get kinds i ≡ Some kind)) ⊎ (length kinds ≤ i)
  kind-by i (inl h) = inl (h.0, h.1, h.2)
  kind-by i (inr h) = inr h.0

  kind-cases : (i : ℕ) → ((kind : Kind) × (i < length kinds) × (slice_get kinds i ≡ Some kind)) ⊎ (length kinds ≤ i)
  kind-cases i = kind-by i (slice_get_cases kinds i).1

  further : (j r m x : ℕ) → Spreads j r m → ((l : ℕ) → Defines code m l r → ⊥) → Successor code m x → Spreads j r x
  further j r m x p n g = further-by j r m x p n g (kind-cases p.step)

  module _ (j : ℕ) (kind : Kind) (r : ℕ) (is_step : slice_get kinds j ≡ Some kind) (is_target : target kind ≡ Some r) (given : has j kind ≡ true) where
    first-marked : marked (marks (suc j)) r ≡ true
    first-marked =
        let w : j < length kinds = slice_get_within kinds j kind is_step in
        let q : r < length (marks j) = omega (arith, length-before functions s kinds j, target-within functions kinds j r kind w (sh.step_shape j kind is_step) is_target) in
        rw (before-step functions s kinds j kind is_step, is_target) (marked-same (marks j) r (has j kind) q ∙ given)

    -- where the result of a step is read
    pub spreads : (k x : ℕ) → Reaches code (base + j) k r x → Spreads j r x
    spreads k x (next d g) =
        let w : j < length kinds = slice_get_within kinds j kind is_step in
        let e = goes-next kind (base + j) x (step-steps j kind is_step) (subst (λ y. GoesOn y (base + j) x) (sh.step_at j kind is_step) g) in
        record { step = suc j; is_place = e ∙ omega arith; later = omega arith; last = omega arith; is_marked = first-marked }
    spreads k x (onward p n g) = further j r _ x (spreads k _ p) n g

  -- a call of main whose argument k has the data
  pub record Entered (c k : ℕ) : Type 0 where
    pub step : ℕ
    pub to : List ℕ
    pub number : ℕ
    pub args : List ℕ
    pub register : ℕ
    pub index : ℕ
    pub fn : Function
    pub pl : Plain
    pub is_place : c ≡ base + step
    pub is_step : slice_get kinds step ≡ Some (Call to number args)
    pub is_argument : slice_get args k ≡ Some register
    pub is_marked : marked (marks step) register ≡ true
    pub is_index : number ≡ index + 1
    pub is_fn : slice_get functions index ≡ Some fn
    pub is_pl : IsFunction code number pl
    pub block : IsBlock code fn pl
    pub enough : k < length fn.parameters

  -- what the marks say of a node, where these calls are open
  pub data Inv : ℕ → ℕ → List ℕ → Type 0 where
    at_result : {i l : ℕ} → (j : ℕ) → (kind : Kind) → (r : ℕ) → slice_get kinds j ≡ Some kind → target kind ≡ Some r → has j kind ≡ true → i ≡ base + j → l ≡ 0 → Inv i l []
    at_argument : {i l : ℕ} → (k : ℕ) → (e : Entered i k) → l ≡ length e.to + k → Inv i l []
    at_parameter : {i l c : ℕ} → (k : ℕ) → (e : Entered c k) → i ≡ e.pl.entry → l ≡ k → Inv i l (c ∷ [])
    at_moved : {i l c : ℕ} → (k : ℕ) → (e : Entered c k) → (n : List ℕ) → e.fn.returned ≡ returns.Parameter n → k ≡ number_of e.fn.parameters n → i ≡ e.pl.entry + 1 → l ≡ 0 → Inv i l (c ∷ [])
    at_left : {i l c : ℕ} → (k : ℕ) → (e : Entered c k) → (n : List ℕ) → e.fn.returned ≡ returns.Parameter n → k ≡ number_of e.fn.parameters n → i ≡ e.pl.entry + 4 → l ≡ 0 → Inv i l (c ∷ [])

  -- a step that calls, with an argument that has the data
  enter : (j k r : ℕ) (to : List ℕ) (g : ℕ) (args : List ℕ) → slice_get kinds j ≡ Some (Call to g args) → slice_get args k ≡ Some r → marked (marks j) r ≡ true → Entered (base + j) k
  enter j k r to g args h a m =
      let f = sh.step_shape j (Call to g args) h in
      let b = sh.block f.0 f.1 f.3 in
      record {
        step = j;
        to = to;
        number = g;
        args = args;
        register = r;
        index = f.0;
        fn = f.1;
        pl = b.0;
        is_place = refl;
        is_step = h;
        is_argument = a;
        is_marked = m;
        is_index = f.2;
        is_fn = f.3;
        is_pl = subst (λ x. IsFunction code x b.0) (sym f.2) b.1;
        block = b.2;
        enough = omega (arith, slice_get_within args k r a, f.4);
      }

  -- what takes a register that has the data
  takes-marked : (j m r : ℕ) (kind : Kind) → slice_get kinds j ≡ Some kind → marked (marks j) r ≡ true → StepShape functions kinds j kind → Takes (Some kind) m r → Inv (base + j) m []
  unfolding enter
  takes-marked j m r (Op to from) h k sp t = absurd (none-in r from sp.1 t.1)
  takes-marked j m r (Move to from) h k sp t =
      let c : carries functions (marks j) (Move to from) ≡ true = ap (λ y. marked (marks j) y) (sym t.1) ∙ k in
      at_result j (Move to from) to h refl (or-right _ _ c) refl t.0
  takes-marked j m r (Call to g args) h k sp t = at_argument t.0 (enter j t.0 r to g args h t.2 k) t.1
  takes-marked j m r RunDefers h k sp t = absurd sp
  takes-marked j m r (Leave from) h k sp t = absurd sp
  takes-marked j m r (Goto p) h k sp t = absurd sp
  takes-marked j m r (Branch ts) h k sp t = absurd sp

  reads-end : (j m r x : ℕ) (p : Spreads j r x) → Takes (kind_at code x) m r → (p.step ≡ length kinds) ⊎ (p.step ≡ length kinds + 1) → ⊥
  reads-end j m r x p t (inl e) =
      let at : x ≡ base + length kinds = p.is_place ∙ ap (λ y. base + y) e in
      subst (λ y. Takes y m r) sh.defers_at (subst (λ y. Takes (kind_at code y) m r) at t)
  reads-end j m r x p t (inr e) =
      let at : x ≡ base + (length kinds + 1) = p.is_place ∙ ap (λ y. base + y) e in
      let q = subst (λ y. Takes y m r) sh.leave_at (subst (λ y. Takes (kind_at code y) m r) at t) in
      cc q

  reads-by : (j m r x : ℕ) (p : Spreads j r x) → Takes (kind_at code x) m r → ((kind : Kind) × (p.step < length kinds) × (slice_get kinds p.step ≡ Some kind)) ⊎ (length kinds ≤ p.step) → Inv x m []
  reads-by j m r x p t (inl h) =
      subst (λ y. Inv y m []) (sym p.is_place) (takes-marked p.step m r h.0 h.2 p.is_marked (sh.step_shape p.step h.0 h.2) (subst (λ y. Takes y m r) (sh.step_at p.step h.0 h.2) (subst (λ y. Takes (kind_at code y) m r) p.is_place t)))
  reads-by j m r x p t (inr h) = absurd (reads-end j m r x p t (end-cases p.step (length kinds) h p.last))

  reads : (j m r x : ℕ) → Spreads j r x → Takes (kind_at code x) m r → Inv x m []
  reads j m r x p t = reads-by j m r x p t (kind-cases p.step)

  -- where a register of a function before main is read: further in its block
  pub record InBlock (pl : Plain) (fn : Function) (i x : ℕ) : Type 0 where
    pub step : ℕ
    pub is_place : x ≡ pl.entry + step
    pub later : i < step
    pub last : step ≤ last_of fn.returned

  block-on : (fn : Function) (pl : Plain) → IsBlock code fn pl → (i x : ℕ) → i ≤ last_of fn.returned → Successor code (pl.entry + i) x → (x ≡ pl.entry + (i + 1)) × (i < last_of fn.returned)
  block-on fn pl b i x w g =
      let k = block-has fn.parameters fn.returned pl.entry i w in
      block-next fn.parameters fn.returned pl.entry i x k.0 k.1 (subst (λ y. GoesOn y (pl.entry + i) x) (b.kinds i k.0 k.1) g)

  in-block : (fn : Function) (pl : Plain) → IsBlock code fn pl → (i l r x : ℕ) → i ≤ last_of fn.returned → Reaches code (pl.entry + i) l r x → InBlock pl fn i x
  in-block fn pl b i l r x w (next d g) =
      let q = block-on fn pl b i x w g in
      record { step = i + 1; is_place = q.0; later = omega arith; last = omega (arith, q.1) }
  in-block fn pl b i l r x w (onward p n g) =
      let a = in-block fn pl b i l r _ w p in
      let q = block-on fn pl b a.step x a.last (subst (λ y. Successor code y x) a.is_place g) in
      let later = a.later in
      record { step = a.step + 1; is_place = q.0; later = omega arith; last = omega (arith, q.1) }

  -- the kind at a place of a block
  block-kind : (fn : Function) (pl : Plain) → IsBlock code fn pl → (i x : ℕ) → (a : InBlock pl fn i x) → (kind : Kind) × (slice_get (block_of fn.parameters fn.returned pl.entry) a.step ≡ Some kind) × (kind_at code x ≡ Some kind)
  block-kind fn pl b i x a =
      let k = block-has fn.parameters fn.returned pl.entry a.step a.last in
      (k.0, k.1, ap (kind_at code) a.is_place ∙ b.kinds a.step k.0 k.1)

  -- a block begins with a Goto
  block-first : (ps : List (List ℕ)) (r : Returned) (e : ℕ) → slice_get (block_of ps r e) 0 ≡ Some (Goto (e + 1))
  block-first ps returns.Nothing e = refl
  block-first ps returns.Text e = refl
  block-first ps (returns.Parameter n) e = refl

  pub entry-kind : (fn : Function) (pl : Plain) → IsBlock code fn pl → IsAt code pl.entry (Goto (pl.entry + 1))
  entry-kind fn pl b = ap (kind_at code) (sym (add-zero pl.entry)) ∙ b.kinds 0 (Goto (pl.entry + 1)) (block-first fn.parameters fn.returned pl.entry)

  -- the kinds of a block that gives a parameter back
  pub given-kind : (fn : Function) (pl : Plain) → IsBlock code fn pl → (n : List ℕ) → fn.returned ≡ returns.Parameter n → (i : ℕ) (kind : Kind) → slice_get (block_of fn.parameters (returns.Parameter n) pl.entry) i ≡ Some kind → IsAt code (pl.entry + i) kind
  given-kind fn pl b n e i kind h = b.kinds i kind (ap (λ y. slice_get (block_of fn.parameters y pl.entry) i) e ∙ h)

  parameter-same : (fn : Function) (pl : Plain) → IsBlock code fn pl → (l r : ℕ) → Defines code pl.entry l r → r ≡ l
  parameter-same fn pl b l r (inl g) = absurd (subst (λ y. Gives y l r) (entry-kind fn pl b) g)
  parameter-same fn pl b l r (inr p) = p.same

  moved-same : (fn : Function) (pl : Plain) → IsBlock code fn pl → (n : List ℕ) → fn.returned ≡ returns.Parameter n → (l r : ℕ) → Defines code (pl.entry + 1) l r → r ≡ length fn.parameters
  moved-same fn pl b n e l r (inl g) = (subst (λ y. Gives y l r) (given-kind fn pl b n e 1 _ refl) g).1
  moved-same fn pl b n e l r (inr p) =
      let q = sh.entries p.number p.function p.is_function in
      let k = same-kind code (pl.entry + 1) (Move (length fn.parameters) (number_of fn.parameters n)) (Goto q.0) (given-kind fn pl b n e 1 _ refl) (subst (λ x. IsAt code x (Goto q.0)) p.entry q.1) in
      absurd (cc k)

  left-none : (fn : Function) (pl : Plain) → IsBlock code fn pl → (n : List ℕ) → fn.returned ≡ returns.Parameter n → (l r : ℕ) → Defines code (pl.entry + 4) l r → ⊥
  left-none fn pl b n e l r (inl g) = subst (λ y. Gives y l r) (given-kind fn pl b n e 4 _ refl) g
  left-none fn pl b n e l r (inr p) =
      let q = sh.entries p.number p.function p.is_function in
      let k = same-kind code (pl.entry + 4) (Leave (length fn.parameters ∷ [])) (Goto q.0) (given-kind fn pl b n e 4 _ refl) (subst (λ x. IsAt code x (Goto q.0)) p.entry q.1) in
      cc k

  -- an edge inside a function
  within-step : (b l c m : ℕ) (calls : List ℕ) → Inv b l calls → Edge code b l Within c m → Inv c m calls
  within-step b l c m calls (at_result j kind r0 is_step is_target given ei el) (within r live t reach) =
      let reach2 : Reaches code (base + j) l r c = subst (λ y. Reaches code y l r c) ei reach in
      let d = defines-by j l r kind is_step (reaches-defines code (base + j) l r c reach2) in
      reads j m r c (spreads j kind r is_step d.1 given l c reach2) t
  within-step b l c m calls (at_argument k e el) (within r live t reach) =
      let reach2 : Reaches code (base + e.step) l r c = subst (λ y. Reaches code y l r c) e.is_place reach in
      let d = defines-by e.step l r (Call e.to e.number e.args) e.is_step (reaches-defines code (base + e.step) l r c reach2) in
      let w : 0 < length e.to = slice_get_within e.to 0 r d.1 in
      absurd (omega (arith, d.0, el))
  within-step b l c m calls (at_parameter k e ei el) (within r live t reach) =
      let reach2 : Reaches code (e.pl.entry + 0) l r c = subst (λ y. Reaches code y l r c) (ei ∙ sym (add-zero e.pl.entry)) reach in
      let same : r ≡ l = parameter-same e.fn e.pl e.block l r (subst (λ y. Defines code y l r) ei (reaches-defines code b l r c reach)) in
      let a = in-block e.fn e.pl e.block 0 l r c (omega arith) reach2 in
      let kd = block-kind e.fn e.pl e.block 0 c a in
      let rk : r ≡ k = same ∙ el in
      let t2 : Takes (Some kd.0) m k = subst (λ y. Takes (Some kd.0) m y) rk (subst (λ y. Takes y m r) kd.2 t) in
      let x = block-takes e.fn.parameters e.fn.returned e.pl.entry a.step m k kd.0 kd.1 e.enough t2 in
      at_moved k e x.0 x.1 x.2 (a.is_place ∙ ap (λ y. e.pl.entry + y) x.3) x.4
  within-step b l c m calls (at_moved k e n en ek ei el) (within r live t reach) =
      let reach2 : Reaches code (e.pl.entry + 1) l r c = subst (λ y. Reaches code y l r c) ei reach in
      let same : r ≡ length e.fn.parameters = moved-same e.fn e.pl e.block n en l r (reaches-defines code (e.pl.entry + 1) l r c reach2) in
      let a = in-block e.fn e.pl e.block 1 l r c (subst (λ y. 1 ≤ last_of y) (sym en) (omega arith)) reach2 in
      let kd = block-kind e.fn e.pl e.block 1 c a in
      let t2 : Takes (Some kd.0) m (length e.fn.parameters) = subst (λ y. Takes (Some kd.0) m y) same (subst (λ y. Takes y m r) kd.2 t) in
      let x = result-takes e.fn.parameters n e.pl.entry a.step m kd.0 (ap (λ y. slice_get (block_of e.fn.parameters y e.pl.entry) a.step) (sym en) ∙ kd.1) a.later t2 in
      at_left k e n en ek (a.is_place ∙ ap (λ y. e.pl.entry + y) x.0) x.1
  within-step b l c m calls (at_left k e n en ek ei el) (within r live t reach) =
      absurd (left-none e.fn e.pl e.block n en l r (subst (λ y. Defines code y l r) ei (reaches-defines code b l r c reach)))

  -- the kind of the step at a place
  pub step-is : (j : ℕ) (kind : Kind) (b : ℕ) (to : List ℕ) (g : ℕ) (args : List ℕ) → slice_get kinds j ≡ Some kind → b ≡ base + j → IsAt code b (Call to g args) → kind ≡ Call to g args
  step-is j kind b to g args h e a = same-kind code (base + j) kind (Call to g args) (sh.step_at j kind h) (subst (λ y. IsAt code y (Call to g args)) e a)

  -- a function is known by its number
  pub one-function : (g : ℕ) (a b : Plain) → IsFunction code g a → IsFunction code g b → a ≡ b
  one-function g a b h k = some-same (sym h ∙ k)

  pub entered-argument : (i k : ℕ) (e : Entered i k) (to : List ℕ) (g : ℕ) (args : List ℕ) → IsAt code i (Call to g args) → Call e.to e.number e.args ≡ Call to g args
  entered-argument i k e to g args a = step-is e.step (Call e.to e.number e.args) i to g args e.is_step e.is_place a

  entered-by : (i l m k : ℕ) (e : Entered i k) (to : List ℕ) (g : ℕ) (args : List ℕ) (fn : Plain) (c : ℕ) → l ≡ length e.to + k → IsAt code i (Call to g args) → IsFunction code g fn → l ≡ length to + m → c ≡ fn.entry → Inv c m (i ∷ [])
  entered-by i l m k e to g args fn c el a f em ec =
      let q : Call e.to e.number e.args ≡ Call to g args = entered-argument i k e to g args a in
      let t : e.to ≡ to = cc q in
      let n : e.number ≡ g = cc q in
      let pl : e.pl ≡ fn = one-function g e.pl fn (subst (λ y. IsFunction code y e.pl) n e.is_pl) f in
      let mk : m ≡ k = omega (arith, el, em, ap length t) in
      at_parameter k e (ec ∙ ap (λ y. y.entry) (sym pl)) mk

  -- an edge into a function
  enters-step : (b l i c m : ℕ) (calls : List ℕ) → Inv b l calls → Edge code b l (Enters i) c m → Inv c m (i ∷ calls)
  enters-step b l i c m calls (at_result j kind r is_step is_target given ei el) (enters to args g fn live a f em w ec) =
      let q : kind ≡ Call to g args = step-is j kind b to g args is_step ei a in
      let t : target (Call to g args) ≡ Some r = ap target (sym q) ∙ is_target in
      let x : 0 < length to = slice_get_within to 0 r t in
      absurd (omega arith)
  enters-step b l i c m calls (at_argument k e el) (enters to args g fn live a f em w ec) = entered-by b l m k e to g args fn c el a f em ec
  enters-step b l i c m calls (at_parameter k e ei el) (enters to args g fn live a f em w ec) =
      absurd (cc (same-kind code e.pl.entry (Goto (e.pl.entry + 1)) (Call to g args) (entry-kind e.fn e.pl e.block) (subst (λ y. IsAt code y (Call to g args)) ei a)))
  enters-step b l i c m calls (at_moved k e n en ek ei el) (enters to args g fn live a f em w ec) =
      absurd (cc (same-kind code (e.pl.entry + 1) (Move (length e.fn.parameters) (number_of e.fn.parameters n)) (Call to g args) (given-kind e.fn e.pl e.block n en 1 _ refl) (subst (λ y. IsAt code y (Call to g args)) ei a)))
  enters-step b l i c m calls (at_left k e n en ek ei el) (enters to args g fn live a f em w ec) =
      absurd (cc (same-kind code (e.pl.entry + 4) (Leave (length e.fn.parameters ∷ [])) (Call to g args) (given-kind e.fn e.pl e.block n en 4 _ refl) (subst (λ y. IsAt code y (Call to g args)) ei a)))

  -- a return from a node of main is none
  free-step : (b l i c m : ℕ) → Inv b l [] → Edge code b l (Returns i) c m → ⊥
  free-step b l i c m (at_result j kind r is_step is_target given ei el) (returns to args g fn live a f eb w cl) =
      step-no-leave j g fn kind is_step f (sym ei ∙ eb)
  free-step b l i c m (at_argument k e el) (returns to args g fn live a f eb w cl) =
      step-no-leave e.step g fn (Call e.to e.number e.args) e.is_step f (sym e.is_place ∙ eb)

  -- the result of a call of a function that gives its argument back
  returned-by : (i k : ℕ) (e : Entered i k) (n : List ℕ) (to : List ℕ) (g : ℕ) (args : List ℕ) (fn : Plain) (m : ℕ) → e.fn.returned ≡ returns.Parameter n → k ≡ number_of e.fn.parameters n → IsAt code i (Call to g args) → IsFunction code g fn → m ≡ 0 → m < length to → cleans fn ≡ false → Inv i m []
  returned-by i k e n to g args fn m en ek a f z w cl =
      let q : Call e.to e.number e.args ≡ Call to g args = entered-argument i k e to g args a in
      let t : e.to ≡ to = cc q in
      let ng : e.number ≡ g = cc q in
      let pl : e.pl ≡ fn = one-function g e.pl fn (subst (λ y. IsFunction code y e.pl) ng e.is_pl) f in
      let named : cleans_name e.fn.name ≡ false = ap cleans_name (sym e.block.name) ∙ (ap (λ y. cleans y) pl ∙ cl) in
      let ix : e.number - 1 ≡ e.index = omega (arith, e.is_index) in
      let ps : passes functions e.number ≡ Some k = rw (ix, e.is_fn, named, en) (ap (λ y. Some y) (sym ek)) in
      let cr : carries functions (marks e.step) (Call e.to e.number e.args) ≡ true = rw (ps, e.is_argument) e.is_marked in
      let first : (x : ℕ) × (slice_get e.to 0 ≡ Some x) = first-of e.to (subst (λ y. 0 < length y) (sym t) (omega arith)) in
      at_result e.step (Call e.to e.number e.args) first.0 e.is_step first.1 (or-right _ _ cr) e.is_place z

  -- an edge out of a function
  returns-step : (b l i c m : ℕ) (calls : List ℕ) → Inv b l (i ∷ calls) → Edge code b l (Returns i) c m → Inv c m calls
  returns-step b l i c m calls (at_parameter k e ei el) (returns to args g fn live a f eb w cl) =
      let q = sh.leaves g fn f in
      absurd (cc (same-kind code e.pl.entry (Goto (e.pl.entry + 1)) (Leave q.0) (entry-kind e.fn e.pl e.block) (subst (λ y. IsAt code y (Leave q.0)) (sym eb ∙ ei) q.1)))
  returns-step b l i c m calls (at_moved k e n en ek ei el) (returns to args g fn live a f eb w cl) =
      let q = sh.leaves g fn f in
      absurd (cc (same-kind code (e.pl.entry + 1) (Move (length e.fn.parameters) (number_of e.fn.parameters n)) (Leave q.0) (given-kind e.fn e.pl e.block n en 1 _ refl) (subst (λ y. IsAt code y (Leave q.0)) (sym eb ∙ ei) q.1)))
  returns-step b l i c m calls (at_left k e n en ek ei el) (returns to args g fn live a f eb w cl) = returned-by i k e n to g args fn l en ek a f el w cl

  -- what a realizable list from a node that has the data leads to has it
  pub spread-all : (a k b l : ℕ) (calls : List ℕ) → Inv a k [] → Joins code a k b l calls → Inv b l calls
  spread-all a k b l calls inv stay = inv
  spread-all a k b l calls inv (plain j e) = within-step _ _ b l calls (spread-all a k _ _ calls inv j) e
  spread-all a k b l calls inv (call j e) = enters-step _ _ _ b l _ (spread-all a k _ _ _ inv j) e
  spread-all a k b l calls inv (return_last j e) = returns-step _ _ _ b l calls (spread-all a k _ _ _ inv j) e
  spread-all a k b l calls inv (return_free j e) = absurd (free-step _ _ _ b l (spread-all a k _ _ _ inv j) e)
