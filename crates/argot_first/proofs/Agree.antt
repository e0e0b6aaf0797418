-- What a register leads to is what it is marked for.
use Rattle.std.proofs.Common.{◌≡◌, ℕ, zero, suc, ◌+◌, ◌≤◌, List, [], ◌∷◌, ◌++◌, Option, Some, None, Bool, true, false, ◌||◌, length, replicate, refl, sym, ap, ◌∙◌, subst, arith, add-one, nat_eq, length-set, length-append}
use Rattle.std.proofs.lemmas.Bool.{false≢true, eqb-true}
use Rattle.std.proofs.lemmas.List.{length-replicate}
use Rattle.std.specs.Prelude.{slice_get, slice_set, slice_index, if◌then◌else◌}
use Rattle.argot_first_form.specs.declared.functions.Function.{Function}
use Rattle.argot_plain.specs.declared.first.Kind.{Kind}
use Rattle.argot_plain.specs.declared.first.Kind.TheVariants.{Op, Move, Call, RunDefers, Leave, Goto, Branch}
use Rattle.argot_first.specs.Marks.{marked, marked_at, argument_at, set_at, target, carries, passes, calls_named, named_source, named_sink, argument_flows, step_flows, arguments_of, no_marks}
use Rattle.argot_first.specs.Links.{link_at, link_in, handed, set_link, result_link, heads_after, nexts_after, leads_to, AreDown, AreWithin, flows_along, step_along}
use Rattle.argot_first.proofs.Along.{one-further, with-more, down-more, last-is}
use Rattle.argot_first.proofs.Before.{before, value, before-step, upto-none, length-before}

-- the marks of one source and the links say the same, by what a link leads to
abbrev pub Same : List Bool → List ℕ → (ℕ → Bool) → Type 0
Same marks heads f = (r : ℕ) → marked marks r ≡ f (link_at heads r)

set-same : (marks : List Bool) (heads : List ℕ) (f : ℕ → Bool) → length marks ≡ length heads → Same marks heads f → (q : ℕ) (v : Bool) (l : ℕ) → v ≡ f l → Same (slice_set marks q v) (slice_set heads q l) f
set-same [] [] f n a q v l e r = a r
set-same [] (h ∷ hs) f n a q v l e r = absurd (omega arith)
set-same (m ∷ ms) [] f n a q v l e r = absurd (omega arith)
set-same (m ∷ ms) (h ∷ hs) f n a zero v l e zero = e
set-same (m ∷ ms) (h ∷ hs) f n a zero v l e (suc r) = a (suc r)
set-same (m ∷ ms) (h ∷ hs) f n a (suc q) v l e zero = a zero
set-same (m ∷ ms) (h ∷ hs) f n a (suc q) v l e (suc r) = set-same ms hs f (omega arith) (λ x. a (suc x)) q v l e r

target-same : (marks : List Bool) (heads : List ℕ) (f : ℕ → Bool) → length marks ≡ length heads → Same marks heads f → (t : Option ℕ) (v : Bool) (l : ℕ) → v ≡ f l → Same (set_at marks t v) (set_link heads t l) f
target-same marks heads f n a None v l e = a
target-same marks heads f n a (Some q) v l e = set-same marks heads f n a q v l e

argument-same : (marks : List Bool) (heads : List ℕ) (f : ℕ → Bool) → f 0 ≡ false → Same marks heads f → (o : Option ℕ) → marked_at marks o ≡ f (link_in heads o)
argument-same marks heads f z a None = sym z
argument-same marks heads f z a (Some r) = a r

carries-same : (functions : List Function) (marks : List Bool) (heads : List ℕ) (f : ℕ → Bool) → f 0 ≡ false → Same marks heads f → (kind : Kind) → carries functions marks kind ≡ f (handed functions heads kind)
carries-same functions marks heads f z a (Op to from) = sym z
carries-same functions marks heads f z a (Move to from) = a from
carries-same functions marks heads f z a (Call to g args) = argument-same marks heads f z a (argument_at args (passes functions g))
carries-same functions marks heads f z a RunDefers = sym z
carries-same functions marks heads f z a (Leave from) = sym z
carries-same functions marks heads f z a (Goto t) = sym z
carries-same functions marks heads f z a (Branch ts) = sym z

-- links lead to the steps before this one alone
in-within : (heads : List ℕ) (n : ℕ) → AreWithin heads n → (o : Option ℕ) → link_in heads o ≤ n
in-within heads n w None = omega arith
in-within heads n w (Some r) = w r

pub handed-within : (functions : List Function) (heads : List ℕ) (n : ℕ) → AreWithin heads n → (kind : Kind) → handed functions heads kind ≤ n
handed-within functions heads n w (Op to from) = omega arith
handed-within functions heads n w (Move to from) = w from
handed-within functions heads n w (Call to g args) = in-within heads n w (argument_at args (passes functions g))
handed-within functions heads n w RunDefers = omega arith
handed-within functions heads n w (Leave from) = omega arith
handed-within functions heads n w (Goto t) = omega arith
handed-within functions heads n w (Branch ts) = omega arith

set-within : (heads : List ℕ) (n : ℕ) → AreWithin heads n → (q l : ℕ) → l ≤ n → AreWithin (slice_set heads q l) n
set-within [] n w q l e r = w r
set-within (h ∷ hs) n w zero l e zero = e
set-within (h ∷ hs) n w zero l e (suc r) = w (suc r)
set-within (h ∷ hs) n w (suc q) l e zero = w zero
set-within (h ∷ hs) n w (suc q) l e (suc r) = set-within hs n (λ x. w (suc x)) q l e r

link-within : (heads : List ℕ) (n : ℕ) → AreWithin heads n → (t : Option ℕ) (l : ℕ) → l ≤ n → AreWithin (set_link heads t l) n
link-within heads n w None l e = w
link-within heads n w (Some q) l e = set-within heads n w q l e

length-link : (heads : List ℕ) (t : Option ℕ) (l : ℕ) → length (set_link heads t l) ≡ length heads
length-link heads None l = refl
length-link heads (Some q) l = length-set heads q l

result-within : (b : Bool) (i h : ℕ) → h ≤ i → (if b then i + 1 else h) ≤ i + 1
result-within true i h w = omega arith
result-within false i h w = omega arith

no-link : (n r : ℕ) → link_at (replicate n 0) r ≡ 0
no-link zero r = refl
no-link (suc n) zero = refl
no-link (suc n) (suc r) = no-link n r

no-mark : (n r : ℕ) → marked (replicate n false) r ≡ false
no-mark zero r = refl
no-mark (suc n) zero = refl
no-mark (suc n) (suc r) = no-mark n r

-- the walk before the step i
pub record Walked (functions : List Function) (kinds : List Kind) (i : ℕ) (heads nexts : List ℕ) : Type 0 where
  pub registers : length heads ≡ length kinds
  pub steps : length nexts ≡ i
  pub down : AreDown nexts
  pub within : AreWithin heads (length nexts)
  -- for each source
  pub same : (s : ℕ) (source : Kind) → slice_get kinds s ≡ Some source → calls_named named_source functions source ≡ true → Same (before functions s kinds i) heads (leads_to nexts s)

pub walked-none : (functions : List Function) (kinds : List Kind) → Walked functions kinds 0 (replicate (length kinds) 0) []
walked-none functions kinds = record {
  registers = length-replicate (length kinds) 0;
  steps = refl;
  down = λ j. omega arith;
  within = λ r. let e = no-link (length kinds) r in omega arith;
  same = λ s source h c r. ap (λ m. marked m r) (upto-none functions s 0 (no_marks kinds) kinds) ∙ (no-mark (length kinds) r ∙ ap (leads_to [] s) (sym (no-link (length kinds) r)));
}

module _ (functions : List Function) (kinds : List Kind) (i : ℕ) (heads nexts : List ℕ) (w : Walked functions kinds i heads nexts) (kind : Kind) (at : slice_get kinds i ≡ Some kind) where
  abbrev link : ℕ
  link = handed functions heads kind

  abbrev more : List ℕ
  more = nexts ++ link ∷ []

  link-before : link ≤ length nexts
  link-before = handed-within functions heads (length nexts) w.within kind

  more-down : AreDown more
  more-down = down-more nexts link w.down link-before

  -- another step than the source's own doesn't count as one
  not-source : (s : ℕ) (source : Kind) → slice_get kinds s ≡ Some source → calls_named named_source functions source ≡ true → calls_named named_source functions kind ≡ false → (b : Bool) → nat_eq i s ≡ b → b ≡ false
  not-source s source h c n true e =
      let x = eqb-true i s e in
      let k : Some kind ≡ Some source = sym at ∙ (ap (slice_get kinds) x ∙ h) in
      let y : kind ≡ source = cc k in
      absurd (false≢true (sym n ∙ (ap (calls_named named_source functions) y ∙ c)))
  not-source s source h c n false e = refl

  result-same : (s : ℕ) (source : Kind) → slice_get kinds s ≡ Some source → calls_named named_source functions source ≡ true → (b : Bool) → calls_named named_source functions kind ≡ b → value functions s kinds i kind ≡ leads_to more s (if b then i + 1 else link)
  result-same s source h c true e =
      let c1 = carries-same functions (before functions s kinds i) heads (leads_to nexts s) refl (w.same s source h c) kind in
      let next : slice_index more i ≡ link = last-is nexts link i w.steps in
      ap (λ b. nat_eq i s || b) (c1 ∙ (sym (with-more nexts w.down s link link link link-before) ∙ ap (λ x. leads_to more s x) (sym next)))
      ∙ (sym (one-further more more-down s i) ∙ ap (leads_to more s) (sym (add-one i)))
  result-same s source h c false e =
      let c1 = carries-same functions (before functions s kinds i) heads (leads_to nexts s) refl (w.same s source h c) kind in
      ap (λ b. b || carries functions (before functions s kinds i) kind) (not-source s source h c e (nat_eq i s) refl)
      ∙ (c1 ∙ sym (with-more nexts w.down s link link link link-before))

  step-same : (s : ℕ) (source : Kind) → slice_get kinds s ≡ Some source → calls_named named_source functions source ≡ true → Same (before functions s kinds (suc i)) (heads_after functions i heads kind) (leads_to more s)
  step-same s source h c =
      let old : Same (before functions s kinds i) heads (leads_to more s) = λ r. w.same s source h c r ∙ sym (with-more nexts w.down s link (link_at heads r) (link_at heads r) (w.within r)) in
      let n : length (before functions s kinds i) ≡ length heads = length-before functions s kinds i ∙ sym w.registers in
      let new = target-same (before functions s kinds i) heads (leads_to more s) n old (target kind) (value functions s kinds i kind) (result_link functions i heads kind) (result-same s source h c (calls_named named_source functions kind) refl) in
      subst (λ m. Same m (heads_after functions i heads kind) (leads_to more s)) (sym (before-step functions s kinds i kind at)) new

  length-more : length more ≡ length nexts + 1
  length-more = length-append nexts (link ∷ [])

  pub walked-more : Walked functions kinds (i + 1) (heads_after functions i heads kind) (nexts_after functions heads nexts kind)
  walked-more =
      let lw : AreWithin heads (length more) = λ r. let x = w.within r in omega (arith, length-more) in
      let rl : result_link functions i heads kind ≤ length more = let y = result-within (calls_named named_source functions kind) i link (omega (arith, link-before, w.steps)) in omega (arith, length-more, w.steps) in
      record {
        registers = length-link heads (target kind) (result_link functions i heads kind) ∙ w.registers;
        steps = omega (arith, length-more, w.steps);
        down = more-down;
        within = link-within heads (length more) lw (target kind) (result_link functions i heads kind) rl;
        same = λ s source h c. subst (λ n. Same (before functions s kinds n) (heads_after functions i heads kind) (leads_to more s)) (sym (add-one i)) (step-same s source h c);
      }

-- the flows of a step are those of the marks
along-same : (nexts heads : List ℕ) (base sink s k : ℕ) (marks : List Bool) → Same marks heads (leads_to nexts s) → (args : List ℕ) → flows_along nexts heads base sink s k args ≡ argument_flows (base + s) sink marks k args
along-same nexts heads base sink s k marks a [] = refl
along-same nexts heads base sink s k marks a (r ∷ rs) =
    ap (λ b. (if b then record { source = base + s; sink = sink; argument = k } ∷ [] else []) ++ flows_along nexts heads base sink s (k + 1) rs) (sym (a r))
    ∙ ap (λ x. (if marked marks r then record { source = base + s; sink = sink; argument = k } ∷ [] else []) ++ x) (along-same nexts heads base sink s (k + 1) marks a rs)

step-along-by : (functions : List Function) (nexts heads : List ℕ) (base sink s : ℕ) (marks : List Bool) (kind : Kind) → Same marks heads (leads_to nexts s) → (b : Bool) → (if b then flows_along nexts heads base sink s 0 (arguments_of kind) else []) ≡ (if b then argument_flows (base + s) sink marks 0 (arguments_of kind) else [])
step-along-by functions nexts heads base sink s marks kind a true = along-same nexts heads base sink s 0 marks a (arguments_of kind)
step-along-by functions nexts heads base sink s marks kind a false = refl

pub step-along : (functions : List Function) (nexts heads : List ℕ) (base sink s : ℕ) (marks : List Bool) (kind : Kind) → Same marks heads (leads_to nexts s) → step_along functions nexts heads base sink s kind ≡ step_flows functions (base + s) sink marks kind
step-along functions nexts heads base sink s marks kind a = step-along-by functions nexts heads base sink s marks kind a (calls_named named_sink functions kind)
