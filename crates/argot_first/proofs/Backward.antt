-- A register that is marked holds what a realizable list brings from the source.
use Rattle.std.proofs.Common.{◌≡◌, ◌≢◌, ℕ, zero, suc, ◌+◌, ◌-◌, ◌<◌, ◌≤◌, List, [], ◌∷◌, Option, Some, None, Bool, true, false, ◌||◌, length, replicate, refl, sym, ap, ◌∙◌, subst, get_or, arith, nat_eq, ◌⊎◌, inl, inr}
use Rattle.std.specs.Prelude.{slice_get, slice_set}
use Rattle.std.proofs.lemmas.Option.{slice_get_within, slice_get_cases}
use Rattle.std.proofs.lemmas.Bool.Decides.{Decides-eqb}
use Rattle.std.specs.Prelude.{if◌then◌else◌}
use Rattle.std.proofs.lemmas.Bool.{false≢true, eqb-true}
use Rattle.argot_first_form.specs.declared.functions.Function.{Function}
use Rattle.argot_first_form.specs.declared.functions.Returned.{Returned}
use Rattle.argot_first_form.specs.declared.functions.Returned.TheVariants as returns
use Rattle.argot_plain.specs.declared.first.Kind.{Kind}
use Rattle.argot_plain.specs.declared.first.Kind.TheVariants.{Op, Move, Call, RunDefers, Leave, Goto, Branch}
use Rattle.argot_plain.specs.First.{Plain, Code, IsAt, IsFunction, IsLivePlace, Live, GoesOn, Successor, Gives, IsParameter, Defines, Reaches, next, onward, Takes, within, enters, returns, Joins, stay, plain, call, return_last, cleans}
use Rattle.argot_first.specs.Code.{number_of}
use Rattle.argot_first.specs.Marks.{marked, marked_at, argument_at, target, set_at, carries, passes, passes_function, cleans_name, parameter_returned, no_marks}
use Rattle.argot_first.proofs.Lookup.{some-same}
use Rattle.argot_first.proofs.Blocks.{IsBlock, block_of, last_of}
use Rattle.argot_first.proofs.Shape.{Shape}
use Rattle.argot_first.proofs.Before.{before, value, before-step, upto-none, length-before, marked-same, marked-other}
use Rattle.argot_first.proofs.Forward.{same-kind}
use Rattle.argot_first.proofs.Spread.{Steps, target-gives, target-within, step-steps, defines-by, entry-kind, given-kind}

none-marked : (n r : ℕ) → marked (replicate n false) r ≡ true → ⊥
none-marked zero r h = false≢true h
none-marked (suc n) zero h = false≢true h
none-marked (suc n) (suc r) h = none-marked n r h

next-goes : (kind : Kind) (i : ℕ) → Steps kind → GoesOn (Some kind) i (i + 1)
next-goes (Op to from) i h = refl
next-goes (Move to from) i h = refl
next-goes (Call to g args) i h = refl
next-goes RunDefers i h = absurd h
next-goes (Leave from) i h = absurd h
next-goes (Goto t) i h = absurd h
next-goes (Branch ts) i h = absurd h

or-cases : (a b : Bool) → (a || b) ≡ true → (a ≡ true) ⊎ (b ≡ true)
or-cases true b h = inl refl
or-cases false b h = inr h

same-by : (a b : ℕ) (c : Bool) → nat_eq a b ≡ c → (a ≡ b) ⊎ (a ≢ b)
same-by a b true e = inl (eqb-true a b e)
same-by a b false e = inr (λ q. false≢true (sym e ∙ (Decides-eqb a b).1 q))

same-or-not : (a b : ℕ) → (a ≡ b) ⊎ (a ≢ b)
same-or-not a b = same-by a b (nat_eq a b) refl

-- a parameter that is given back, and the argument there
pub record Passing (functions : List Function) (m : List Bool) (g : ℕ) (args : List ℕ) : Type 0 where
  pub parameter : ℕ
  pub register : ℕ
  pub passes : passes functions g ≡ Some parameter
  pub is_argument : slice_get args parameter ≡ Some register
  pub is_marked : marked m register ≡ true

passing-at : (functions : List Function) (m : List Bool) (g p : ℕ) (args : List ℕ) → passes functions g ≡ Some p → (o : Option ℕ) → slice_get args p ≡ o → marked_at m o ≡ true → Passing functions m g args
passing-at functions m g p args h None e k = absurd (false≢true k)
passing-at functions m g p args h (Some r) e k = record { parameter = p; register = r; passes = h; is_argument = e; is_marked = k }

passing-by : (functions : List Function) (m : List Bool) (g : ℕ) (args : List ℕ) (o : Option ℕ) → passes functions g ≡ o → marked_at m (argument_at args o) ≡ true → Passing functions m g args
passing-by functions m g args None e h = absurd (false≢true h)
passing-by functions m g args (Some p) e h = passing-at functions m g p args e (slice_get args p) refl h

-- what a function that passes a parameter is
pub record Returner (fn : Function) (p : ℕ) : Type 0 where
  pub name : List ℕ
  pub returned : fn.returned ≡ returns.Parameter name
  pub is_number : number_of fn.parameters name ≡ p
  pub dirty : cleans_name fn.name ≡ false

returner-of : (fn : Function) (r : Returned) (p : ℕ) → fn.returned ≡ r → cleans_name fn.name ≡ false → parameter_returned fn.parameters r ≡ Some p → Returner fn p
returner-of fn returns.Nothing p e c h = absurd (cc h)
returner-of fn returns.Text p e c h = absurd (cc h)
returner-of fn (returns.Parameter n) p e c h = record { name = n; returned = e; is_number = some-same h; dirty = c }

returner-by : (fn : Function) (c : Bool) (p : ℕ) → cleans_name fn.name ≡ c → (if c then None else parameter_returned fn.parameters fn.returned) ≡ Some p → Returner fn p
returner-by fn true p e h = absurd (cc h)
returner-by fn false p e h = returner-of fn fn.returned p refl e h

module _ (code : Code) (functions : List Function) (kinds : List Kind) (base : ℕ) (sh : Shape code functions kinds base) (s : ℕ) where
  abbrev marks : ℕ → List Bool
  marks i = before functions s kinds i

  abbrev has : ℕ → Kind → Bool
  has i kind = value functions s kinds i kind

  abbrev FromSource : ℕ → ℕ → List ℕ → Type 0
  FromSource b l calls = Joins code (base + s) 0 b l calls

  step-goes : (i : ℕ) (kind : Kind) → slice_get kinds i ≡ Some kind → Successor code (base + i) (base + suc i)
  step-goes i kind h =
      let e : base + i + 1 ≡ base + suc i = omega arith in
      subst (λ y. GoesOn y (base + i) (base + suc i)) (sym (sh.step_at i kind h)) (subst (λ y. GoesOn (Some kind) (base + i) y) e (next-goes kind (base + i) (step-steps code functions kinds base sh s i kind h)))

  -- the source's step gives a result
  pub record HasTarget : Type 0 where
    pub kind : Kind
    pub register : ℕ
    pub is_step : slice_get kinds s ≡ Some kind
    pub is_target : target kind ≡ Some register

  -- a register that holds the data before the step i
  pub record Held (i r : ℕ) : Type 0 where
    pub step : ℕ
    pub earlier : step < i
    pub reaches : Reaches code (base + step) 0 r (base + i)
    pub joins : FromSource (base + step) 0 []
    pub gives : HasTarget

  -- the data goes on to what takes the register
  pub taken : (i l r : ℕ) (kind : Kind) → slice_get kinds i ≡ Some kind → Held i r → Takes (Some kind) l r → FromSource (base + i) l []
  taken i l r kind h p t =
      let w : i < length kinds = slice_get_within kinds i kind h in
      plain p.joins (within r (sh.main_live i (omega arith)) (subst (λ y. Takes y l r) (sym (sh.step_at i kind h)) t) p.reaches)

  -- inside a function that gives a parameter back
  module _ (g : ℕ) (fn : Function) (pl : Plain) (is_pl : IsFunction code g pl) (b : IsBlock code fn pl) (n : List ℕ) (en : fn.returned ≡ returns.Parameter n) (live : Live code g) where
    abbrev k : ℕ
    k = length fn.parameters

    at-of : (i : ℕ) (kind : Kind) → slice_get (block_of fn.parameters (returns.Parameter n) pl.entry) i ≡ Some kind → IsAt code (pl.entry + i) kind
    at-of i kind h = given-kind code functions kinds base sh s fn pl b n en i kind h

    -- no function begins at its Goto to the exit
    other-block : (f : Function) (q : Plain) → IsBlock code f q → q.entry ≡ pl.entry + 2 → (r : Returned) → f.returned ≡ r → ⊥
    other-block f q bq e returns.Nothing er =
        let m : IsAt code (pl.entry + 4) (Leave []) = subst (λ y. IsAt code y (Leave [])) (ap (λ y. y + 2) e ∙ omega arith) (bq.kinds 2 (Leave []) (ap (λ y. slice_get (block_of f.parameters y q.entry) 2) er)) in
        cc (same-kind code (pl.entry + 4) (Leave []) (Leave (k ∷ [])) m (at-of 4 _ refl))
    other-block f q bq e returns.Text er =
        let m : IsAt code (pl.entry + 3) (Op (length f.parameters + 1) []) = subst (λ y. IsAt code y (Op (length f.parameters + 1) [])) (ap (λ y. y + 1) e ∙ omega arith) (bq.kinds 1 (Op (length f.parameters + 1) []) (ap (λ y. slice_get (block_of f.parameters y q.entry) 1) er)) in
        cc (same-kind code (pl.entry + 3) (Op (length f.parameters + 1) []) RunDefers m (at-of 3 _ refl))
    other-block f q bq e (returns.Parameter a) er =
        let m : IsAt code (pl.entry + 3) (Move (length f.parameters) (number_of f.parameters a)) = subst (λ y. IsAt code y (Move (length f.parameters) (number_of f.parameters a))) (ap (λ y. y + 1) e ∙ omega arith) (bq.kinds 1 (Move (length f.parameters) (number_of f.parameters a)) (ap (λ y. slice_get (block_of f.parameters y q.entry) 1) er)) in
        cc (same-kind code (pl.entry + 3) (Move (length f.parameters) (number_of f.parameters a)) RunDefers m (at-of 3 _ refl))

    goto-none-by : (l : ℕ) (p : IsParameter code (pl.entry + 2) l k) → (p.function.params ≡ 0) ⊎ ((f : Function) × IsBlock code f p.function) → ⊥
    goto-none-by l p (inl z) = let w = p.within in omega arith
    goto-none-by l p (inr f) = other-block f.0 p.function f.1 p.entry f.0.returned refl

    goto-none : (l : ℕ) → Defines code (pl.entry + 2) l k → ⊥
    goto-none l (inl d) = subst (λ y. Gives y l k) (at-of 2 _ refl) d
    goto-none l (inr p) = goto-none-by l p (sh.parameters p.number p.function p.is_function)

    defers-none : (l : ℕ) → Defines code (pl.entry + 3) l k → ⊥
    defers-none l (inl d) = subst (λ y. Gives y l k) (at-of 3 _ refl) d
    defers-none l (inr p) =
        let q = sh.entries p.number p.function p.is_function in
        cc (same-kind code (pl.entry + 3) RunDefers (Goto q.0) (at-of 3 _ refl) (subst (λ x. IsAt code x (Goto q.0)) p.entry q.1))

    goes-at : (i x : ℕ) (kind : Kind) → slice_get (block_of fn.parameters (returns.Parameter n) pl.entry) i ≡ Some kind → GoesOn (Some kind) (pl.entry + i) x → Successor code (pl.entry + i) x
    goes-at i x kind h g = subst (λ y. GoesOn y (pl.entry + i) x) (sym (at-of i kind h)) g

    parameter-reaches : (p : ℕ) → p < k → Reaches code pl.entry p p (pl.entry + 1)
    parameter-reaches p w =
        next
        (inr (record { number = g; function = pl; is_function = is_pl; entry = refl; within = omega (arith, b.params); same = refl }))
        (subst (λ y. GoesOn y pl.entry (pl.entry + 1)) (sym (entry-kind code functions kinds base sh s fn pl b)) refl)

    result-reaches : Reaches code (pl.entry + 1) 0 k (pl.entry + 4)
    result-reaches =
        let a : Reaches code (pl.entry + 1) 0 k (pl.entry + 2) = next (inl (subst (λ y. Gives y 0 k) (sym (at-of 1 _ refl)) (refl, refl))) (goes-at 1 (pl.entry + 2) _ refl (omega arith)) in
        let c : Reaches code (pl.entry + 1) 0 k (pl.entry + 3) = onward a goto-none (goes-at 2 (pl.entry + 3) _ refl refl) in
        onward c defers-none (goes-at 3 (pl.entry + 4) _ refl (omega arith))

    inside : (i : ℕ) → i ≤ 4 → IsLivePlace code (pl.entry + i)
    inside i w =
        let l : pl.leave ≡ pl.entry + 4 = b.leave ∙ ap (λ y. pl.entry + last_of y) en in
        record { number = g; function = pl; live = live; is_function = is_pl; inside = (omega arith, omega arith) }

    -- from a parameter that is given back to the Leave
    through : (p : ℕ) (calls : List ℕ) → p < k → p ≡ number_of fn.parameters n → FromSource pl.entry p calls → FromSource pl.leave 0 calls
    through p calls w e j =
        let l : pl.leave ≡ pl.entry + 4 = b.leave ∙ ap (λ y. pl.entry + last_of y) en in
        let m : FromSource (pl.entry + 1) 0 calls = plain j (within p (inside 1 (omega arith)) (subst (λ y. Takes y 0 p) (sym (at-of 1 _ refl)) (refl, e)) (parameter-reaches p w)) in
        let q : FromSource (pl.entry + 4) 0 calls = plain m (within k (inside 4 (omega arith)) (subst (λ y. Takes y 0 k) (sym (at-of 4 _ refl)) refl) result-reaches) in
        subst (λ y. FromSource y 0 calls) (sym l) q

  -- the argument that a function gives back comes out as the call's result
  call-joins : (i : ℕ) (to : List ℕ) (g : ℕ) (args : List ℕ) → slice_get kinds i ≡ Some (Call to g args) → (p : Passing functions (marks i) g args) → Held i p.register → FromSource (base + i) 0 []
  call-joins i to g args h p held =
      let f = sh.step_shape i (Call to g args) h in
      let bl = sh.block f.0 f.1 f.3 in
      let pl : Plain = bl.0 in
      let ix : g - 1 ≡ f.0 = omega (arith, f.2) in
      let ps : passes_function (Some f.1) ≡ Some p.parameter = ap passes_function (sym f.3) ∙ (ap (λ y. passes_function (slice_get functions y)) (sym ix) ∙ p.passes) in
      let r = returner-by f.1 (cleans_name f.1.name) p.parameter refl ps in
      let is_pl : IsFunction code g pl = subst (λ x. IsFunction code x pl) (sym f.2) bl.1 in
      let live = sh.called_live i to g args h in
      let own = f.6 r.name r.returned in
      let few : p.parameter < length f.1.parameters = omega (arith, own.1, r.is_number) in
      let w : i < length kinds = slice_get_within kinds i (Call to g args) h in
      let here = sh.main_live i (omega arith) in
      let at : IsAt code (base + i) (Call to g args) = sh.step_at i (Call to g args) h in
      let a : FromSource (base + i) (length to + p.parameter) [] = taken i (length to + p.parameter) p.register (Call to g args) h held (p.parameter, refl, p.is_argument) in
      let e : FromSource pl.entry p.parameter ((base + i) ∷ []) = call a (enters to args g pl here at is_pl refl (slice_get_within args p.parameter p.register p.is_argument) refl) in
      let t : FromSource pl.leave 0 ((base + i) ∷ []) = through g f.1 pl is_pl bl.2 r.name r.returned live p.parameter ((base + i) ∷ []) few (sym r.is_number) e in
      let some_result : 0 < length to = subst (λ y. 0 < length y) (sym own.0) (omega arith) in
      let dirty : cleans pl ≡ false = ap cleans_name bl.2.name ∙ r.dirty in
      return_last t (returns to args g pl here at is_pl refl some_result dirty)

  -- what has the data at a step is joined to the source, where the registers before it are
  result-by : (i r : ℕ) (kind : Kind) → slice_get kinds i ≡ Some kind → target kind ≡ Some r → ((q : ℕ) → marked (marks i) q ≡ true → Held i q) → carries functions (marks i) kind ≡ true → FromSource (base + i) 0 []
  result-by i r (Op to from) h t rec c = absurd (false≢true c)
  result-by i r (Move to from) h t rec c = taken i 0 from (Move to from) h (rec from c) (refl, refl)
  result-by i r (Call to g args) h t rec c =
      let p = passing-by functions (marks i) g args (passes functions g) refl c in
      call-joins i to g args h p (rec p.register p.is_marked)
  result-by i r RunDefers h t rec c = absurd (false≢true c)
  result-by i r (Leave from) h t rec c = absurd (false≢true c)
  result-by i r (Goto p) h t rec c = absurd (false≢true c)
  result-by i r (Branch ts) h t rec c = absurd (false≢true c)

  gives-by : (i r : ℕ) (kind : Kind) → ((q : ℕ) → marked (marks i) q ≡ true → Held i q) → carries functions (marks i) kind ≡ true → HasTarget
  gives-by i r (Op to from) rec c = absurd (false≢true c)
  gives-by i r (Move to from) rec c = (rec from c).gives
  gives-by i r (Call to g args) rec c = let p = passing-by functions (marks i) g args (passes functions g) refl c in (rec p.register p.is_marked).gives
  gives-by i r RunDefers rec c = absurd (false≢true c)
  gives-by i r (Leave from) rec c = absurd (false≢true c)
  gives-by i r (Goto p) rec c = absurd (false≢true c)
  gives-by i r (Branch ts) rec c = absurd (false≢true c)

  gives-cases : (i r : ℕ) (kind : Kind) → slice_get kinds i ≡ Some kind → target kind ≡ Some r → ((q : ℕ) → marked (marks i) q ≡ true → Held i q) → (nat_eq i s ≡ true) ⊎ (carries functions (marks i) kind ≡ true) → HasTarget
  gives-cases i r kind h t rec (inl e) = record { kind = kind; register = r; is_step = subst (λ y. slice_get kinds y ≡ Some kind) (eqb-true i s e) h; is_target = t }
  gives-cases i r kind h t rec (inr c) = gives-by i r kind rec c

  result-cases : (i r : ℕ) (kind : Kind) → slice_get kinds i ≡ Some kind → target kind ≡ Some r → ((q : ℕ) → marked (marks i) q ≡ true → Held i q) → (nat_eq i s ≡ true) ⊎ (carries functions (marks i) kind ≡ true) → FromSource (base + i) 0 []
  result-cases i r kind h t rec (inl e) = subst (λ y. FromSource (base + y) 0 []) (sym (eqb-true i s e)) stay
  result-cases i r kind h t rec (inr c) = result-by i r kind h t rec c

  -- a register stays what it is where a step gives another
  held-on : (i r : ℕ) (kind : Kind) → slice_get kinds i ≡ Some kind → (target kind ≡ Some r → ⊥) → Held i r → Held (suc i) r
  held-on i r kind h n p =
      let w = p.earlier in
      record {
        step = p.step;
        earlier = omega arith;
        reaches = onward p.reaches (λ l d. n (defines-by code functions kinds base sh s i l r kind h d).1) (step-goes i kind h);
        joins = p.joins;
        gives = p.gives;
      }

  held-new : (i r : ℕ) (kind : Kind) → slice_get kinds i ≡ Some kind → target kind ≡ Some r → FromSource (base + i) 0 [] → HasTarget → Held (suc i) r
  held-new i r kind h t j g =
      record {
        step = i;
        earlier = omega arith;
        reaches = next (inl (subst (λ y. Gives y 0 r) (sym (sh.step_at i kind h)) (target-gives kind r t))) (step-goes i kind h);
        joins = j;
        gives = g;
      }

  some-differ : (o : Option ℕ) (q r : ℕ) → o ≡ Some q → q ≢ r → o ≡ Some r → ⊥
  some-differ o q r e n h = n (some-same (sym e ∙ h))

  held-at : (i r : ℕ) (kind : Kind) (q : ℕ) → slice_get kinds i ≡ Some kind → target kind ≡ Some q → ((x : ℕ) → marked (marks i) x ≡ true → Held i x) → marked (slice_set (marks i) q (has i kind)) r ≡ true → (q ≡ r) ⊎ (q ≢ r) → Held (suc i) r
  held-at i r kind q h t rec m (inl e) =
      let w : i < length kinds = slice_get_within kinds i kind h in
      let fits : q < length (marks i) = omega (arith, length-before functions s kinds i, target-within functions kinds i q kind w (sh.step_shape i kind h) t) in
      let v : has i kind ≡ true = sym (marked-same (marks i) q (has i kind) fits) ∙ (ap (marked (slice_set (marks i) q (has i kind))) e ∙ m) in
      let t2 : target kind ≡ Some r = t ∙ ap (λ y. Some y) e in
      held-new i r kind h t2 (result-cases i r kind h t2 rec (or-cases (nat_eq i s) _ v)) (gives-cases i r kind h t2 rec (or-cases (nat_eq i s) _ v))
  held-at i r kind q h t rec m (inr n) = held-on i r kind h (some-differ (target kind) q r t n) (rec r (sym (marked-other (marks i) q r (has i kind) n) ∙ m))

  held-by : (i r : ℕ) (kind : Kind) (o : Option ℕ) → slice_get kinds i ≡ Some kind → target kind ≡ o → ((x : ℕ) → marked (marks i) x ≡ true → Held i x) → marked (set_at (marks i) o (has i kind)) r ≡ true → Held (suc i) r
  held-by i r kind None h t rec m = held-on i r kind h (λ e. cc (t, e)) (rec r m)
  held-by i r kind (Some q) h t rec m = held-at i r kind q h t rec m (same-or-not q r)

  held-step : (i r : ℕ) → i < length kinds → ((x : ℕ) → marked (marks i) x ≡ true → Held i x) → marked (marks (suc i)) r ≡ true → ((x : Kind) × (i < length kinds) × (slice_get kinds i ≡ Some x) × (get_or kinds i x ≡ x)) ⊎ ((length kinds ≤ i) × (slice_get kinds i ≡ None)) → Held (suc i) r
  held-step i r w rec m (inl k) = held-by i r k.0 (target k.0) k.2 refl rec (ap (λ y. marked y r) (sym (before-step functions s kinds i k.0 k.2)) ∙ m)
  held-step i r w rec m (inr k) = absurd (omega (arith, k.0))

  -- a marked register holds the data
  pub held : (i : ℕ) → i ≤ length kinds → (r : ℕ) → marked (marks i) r ≡ true → Held i r
  held zero w r m = absurd (none-marked (length kinds) r (ap (λ y. marked y r) (sym (upto-none functions s 0 (no_marks kinds) kinds)) ∙ m))
  held (suc i) w r m = held-step i r (omega arith) (held i (omega arith)) m (slice_get_cases kinds i).1
