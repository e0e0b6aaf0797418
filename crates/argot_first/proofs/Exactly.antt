-- The computed list is exactly the flows.
use Rattle.std.proofs.Common.{◌≡◌, ℕ, ◌+◌, ◌-◌, ◌<◌, List, [], ◌∷◌, Some, Bool, true, false, ◌||◌, length, refl, sym, ap, ◌∙◌, subst, arith, add-one, zero-add, ◌⊎◌, inl, inr, nat_eq}
use Rattle.std.specs.Prelude.{slice_get, codes}
use Rattle.std.proofs.lemmas.Option.{slice_get_within}
use Rattle.std.proofs.lemmas.Bool.{false≢true}
use Rattle.std.proofs.lemmas.Bool.Decides.{Decides-eqb}
use Rattle.argot_first_form.specs.declared.functions.Function.{Function}
use Rattle.argot_plain.specs.declared.first.Kind.{Kind}
use Rattle.argot_plain.specs.declared.first.Kind.TheVariants.{Op, Move, Call, RunDefers, Leave, Goto, Branch}
use Rattle.argot_first.specs.declared.found.Flow.{Flow}
use Rattle.argot_plain.specs.First.{Plain, Code, IsAt, IsFunction, is_source, is_sink, Calls, IsFlow}
use Rattle.argot_first.specs.Code.{number_of}
use Rattle.argot_first.specs.Answer.{AreFlows}
use Rattle.argot_first.specs.Marks.{marked, target, calls_named, counts_as, named_sink, named_source, arguments_of, flows_from, all_flows, no_marks}
use Rattle.argot_first.proofs.Lookup.{some-same}
use Rattle.argot_first.proofs.Shape.{Shape, IsOpening}
use Rattle.argot_first.proofs.Before.{before, value}
use Rattle.argot_first.proofs.Spread.{Inv, at_result, at_argument, at_parameter, at_moved, at_left, spread-all, step-is, entered-argument, entry-kind, given-kind}
use Rattle.argot_first.proofs.Backward.{held, taken}
use Rattle.argot_first.proofs.Forward.{same-kind}
use Rattle.argot_first.proofs.Listed.{flow, Has, chain-next, Sunk, all-sound, all-complete, all-chain, from-complete}

-- a step that counts calls a function of such a name
pub record Counted (code : Code) (functions : List Function) (kinds : List Kind) (base j : ℕ) (kind : Kind) (counts : Plain → Bool) : Type 0 where
  pub to : List ℕ
  pub number : ℕ
  pub args : List ℕ
  pub is_kind : kind ≡ Call to number args
  pub pl : Plain
  pub is_pl : IsFunction code number pl
  pub counted : counts pl ≡ true

module _ (code : Code) (functions : List Function) (kinds : List Kind) (base : ℕ) (sh : Shape code functions kinds base) (named : List ℕ → Bool) (counts : Plain → Bool) (agree : (pl : Plain) → counts pl ≡ named pl.name) (not_main : named (codes "main") ≡ false) where
  counted-call : (j : ℕ) (to : List ℕ) (g : ℕ) (args : List ℕ) → slice_get kinds j ≡ Some (Call to g args) → calls_named named functions (Call to g args) ≡ true → Counted code functions kinds base j (Call to g args) counts
  counted-call j to g args h c =
      let f = sh.step_shape j (Call to g args) h in
      let b = sh.block f.0 f.1 f.3 in
      let ix : g - 1 ≡ f.0 = omega (arith, f.2) in
      let n : named f.1.name ≡ true = sym (ap (λ y. counts_as named (slice_get functions y)) ix ∙ ap (counts_as named) f.3) ∙ c in
      record { to = to; number = g; args = args; is_kind = refl; pl = b.0; is_pl = subst (λ y. IsFunction code y b.0) (sym f.2) b.1; counted = agree b.0 ∙ (ap named b.2.name ∙ n) }

  pub counted-step : (j : ℕ) (kind : Kind) → slice_get kinds j ≡ Some kind → calls_named named functions kind ≡ true → Counted code functions kinds base j kind counts
  counted-step j (Op to from) h c = absurd (false≢true c)
  counted-step j (Move to from) h c = absurd (false≢true c)
  counted-step j (Call to g args) h c = counted-call j to g args h c
  counted-step j RunDefers h c = absurd (false≢true c)
  counted-step j (Leave from) h c = absurd (false≢true c)
  counted-step j (Goto t) h c = absurd (false≢true c)
  counted-step j (Branch ts) h c = absurd (false≢true c)

  -- a Call that counts is a step of main
  pub record AStep (i : ℕ) (c : Calls code counts i) : Type 0 where
    pub step : ℕ
    pub is_place : i ≡ base + step
    pub is_step : slice_get kinds step ≡ Some (Call c.to c.number c.args)
    pub is_named : calls_named named functions (Call c.to c.number c.args) ≡ true

  a-step-by : (i : ℕ) (c : Calls code counts i) → IsOpening code i c.number ⊎ ((j : ℕ) × (i ≡ base + j) × (slice_get kinds j ≡ Some (Call c.to c.number c.args))) → AStep i c
  a-step-by i c (inl o) = absurd (false≢true (sym (agree c.function ∙ (ap named (o.is_main c.function c.is_function) ∙ not_main)) ∙ c.counted))
  a-step-by i c (inr h) =
      let f = sh.step_shape h.0 (Call c.to c.number c.args) h.2 in
      let b = sh.block f.0 f.1 f.3 in
      let ix : c.number - 1 ≡ f.0 = omega (arith, f.2) in
      let same : c.function ≡ b.0 = some-same (sym c.is_function ∙ subst (λ y. IsFunction code y b.0) (sym f.2) b.1) in
      let n : named f.1.name ≡ true = ap named (sym b.2.name ∙ ap (λ y. y.name) (sym same)) ∙ (sym (agree c.function) ∙ c.counted) in
      record { step = h.0; is_place = h.1; is_step = h.2; is_named = ap (λ y. counts_as named (slice_get functions y)) ix ∙ (ap (counts_as named) f.3 ∙ n) }

  pub a-step : (i : ℕ) (c : Calls code counts i) → AStep i c
  a-step i c = a-step-by i c (sh.call_places i c.to c.number c.args c.is_at)

first-of : (xs : List ℕ) (x : ℕ) → slice_get xs 0 ≡ Some x → 0 < length xs
first-of xs x h = slice_get_within xs 0 x h

module _ (code : Code) (functions : List Function) (kinds : List Kind) (base : ℕ) (sh : Shape code functions kinds base) where
  sources : (j : ℕ) (kind : Kind) → slice_get kinds j ≡ Some kind → calls_named named_source functions kind ≡ true → Counted code functions kinds base j kind is_source
  sources = counted-step code functions kinds base sh named_source is_source (λ pl. refl) refl

  sinks : (j : ℕ) (kind : Kind) → slice_get kinds j ≡ Some kind → calls_named named_sink functions kind ≡ true → Counted code functions kinds base j kind is_sink
  sinks = counted-step code functions kinds base sh named_sink is_sink (λ pl. refl) refl

  -- a step that calls a source, and a marked argument of a step that calls a sink
  flow-of : (d i k r : ℕ) (ks ki : Kind) → slice_get kinds d ≡ Some ks → calls_named named_source functions ks ≡ true → slice_get kinds i ≡ Some ki → calls_named named_sink functions ki ≡ true → slice_get (arguments_of ki) k ≡ Some r → marked (before functions d kinds i) r ≡ true → IsFlow code (base + d) (base + i) k
  flow-of d i k r ks ki hs cs hi ci a m =
      let so = sources d ks hs cs in
      let si = sinks i ki hi ci in
      let wd : d < length kinds = slice_get_within kinds d ks hs in
      let wi : i < length kinds = slice_get_within kinds i ki hi in
      let p = held code functions kinds base sh d i (omega arith) r m in
      let same : p.gives.kind ≡ Call so.to so.number so.args = some-same (sym p.gives.is_step ∙ hs) ∙ so.is_kind in
      let first : slice_get so.to 0 ≡ Some p.gives.register = ap target (sym same) ∙ p.gives.is_target in
      let arg : slice_get si.args k ≡ Some r = ap (λ y. slice_get (arguments_of y) k) (sym si.is_kind) ∙ a in
      let at_source : IsAt code (base + d) (Call so.to so.number so.args) = sh.step_at d ks hs ∙ ap (λ y. Some y) so.is_kind in
      let at_sink : IsAt code (base + i) (Call si.to si.number si.args) = sh.step_at i ki hi ∙ ap (λ y. Some y) si.is_kind in
      let step : slice_get kinds i ≡ Some (Call si.to si.number si.args) = hi ∙ ap (λ y. Some y) si.is_kind in
      record {
        source = record { to = so.to; number = so.number; args = so.args; function = so.pl; live = sh.main_live d (omega arith); is_at = at_source; is_function = so.is_pl; counted = so.counted };
        result = 0;
        has_result = first-of so.to p.gives.register first;
        sink = record { to = si.to; number = si.number; args = si.args; function = si.pl; live = sh.main_live i (omega arith); is_at = at_sink; is_function = si.is_pl; counted = si.counted };
        has_argument = slice_get_within si.args k r arg;
        calls = [];
        joins = taken code functions kinds base sh d i (length si.to + k) r (Call si.to si.number si.args) step p (k, refl, arg);
      }

  sound-by : (d : ℕ) (ks : Kind) (f : Flow) → slice_get kinds d ≡ Some ks → calls_named named_source functions ks ≡ true → Sunk functions base d 0 (no_marks kinds) kinds f → IsFlow code f.source f.sink f.argument
  sound-by d ks f hs cs a =
      let e : f ≡ flow (base + d) (base + a.step) a.index = a.is_flow ∙ ap (λ y. flow (base + d) (base + y) a.index) (zero-add a.step) in
      subst (λ y. IsFlow code y.source y.sink y.argument) (sym e) (flow-of d a.step a.index a.register ks a.kind hs cs a.is_step a.is_sink a.is_argument a.is_marked)

  -- a listed flow is one
  pub sound : (f : Flow) → Has (all_flows functions base kinds 0 kinds) f → IsFlow code f.source f.sink f.argument
  sound f h =
      let a = all-sound functions base 0 kinds kinds f h in
      sound-by a.step a.kind f a.is_step a.is_source (subst (λ y. Sunk functions base y 0 (no_marks kinds) kinds f) (zero-add a.step) a.sunk)

  result-first : (to : List ℕ) (j k : ℕ) → (to ≡ []) ⊎ (to ≡ j ∷ []) → k < length to → (k ≡ 0) × (slice_get to 0 ≡ Some j)
  result-first to j k (inl e) h = absurd (omega (arith, ap length e))
  result-first to j k (inr e) h = (omega (arith, ap length e), ap (λ y. slice_get y 0) e)

  same-true : (n : ℕ) → nat_eq n n ≡ true
  same-true n = (Decides-eqb n n).1 refl

  or-left : (a b : Bool) → a ≡ true → (a || b) ≡ true
  or-left true b h = refl
  or-left false b h = absurd (false≢true h)

  -- the argument of a sink's step to which the data comes
  pub record Arrives (s t k : ℕ) (c : Calls code is_sink t) : Type 0 where
    pub step : ℕ
    pub register : ℕ
    pub is_place : t ≡ base + step
    pub is_step : slice_get kinds step ≡ Some (Call c.to c.number c.args)
    pub is_argument : slice_get c.args k ≡ Some register
    pub is_marked : marked (before functions s kinds step) register ≡ true

  arrives : (s t k : ℕ) (c : Calls code is_sink t) (l : ℕ) (calls : List ℕ) → l ≡ length c.to + k → Inv code functions kinds base sh s t l calls → Arrives s t k c
  arrives s t k c l calls el (at_result j kind r is_step is_target given ei z) =
      let q : kind ≡ Call c.to c.number c.args = step-is code functions kinds base sh s j kind t c.to c.number c.args is_step ei c.is_at in
      let w : 0 < length c.to = first-of c.to r (ap target (sym q) ∙ is_target) in
      absurd (omega arith)
  arrives s t k c l calls el (at_argument m e em) =
      let q : Call e.to e.number e.args ≡ Call c.to c.number c.args = entered-argument code functions kinds base sh s t m e c.to c.number c.args c.is_at in
      let to : e.to ≡ c.to = cc q in
      let args : e.args ≡ c.args = cc q in
      let mk : m ≡ k = omega (arith, el, em, ap length to) in
      record {
        step = e.step;
        register = e.register;
        is_place = e.is_place;
        is_step = e.is_step ∙ ap (λ y. Some y) q;
        is_argument = ap (λ y. slice_get c.args y) (sym mk) ∙ (ap (λ y. slice_get y m) (sym args) ∙ e.is_argument);
        is_marked = e.is_marked;
      }
  arrives s t k c l calls el (at_parameter m e ei em) =
      absurd (cc (same-kind code e.pl.entry (Goto (e.pl.entry + 1)) (Call c.to c.number c.args) (entry-kind code functions kinds base sh s e.fn e.pl e.block) (subst (λ y. IsAt code y (Call c.to c.number c.args)) ei c.is_at)))
  arrives s t k c l calls el (at_moved m e n en ek ei em) =
      absurd (cc (same-kind code (e.pl.entry + 1) (Move (length e.fn.parameters) (number_of e.fn.parameters n)) (Call c.to c.number c.args) (given-kind code functions kinds base sh s e.fn e.pl e.block n en 1 _ refl) (subst (λ y. IsAt code y (Call c.to c.number c.args)) ei c.is_at)))
  arrives s t k c l calls el (at_left m e n en ek ei em) =
      absurd (cc (same-kind code (e.pl.entry + 4) (Leave (length e.fn.parameters ∷ [])) (Call c.to c.number c.args) (given-kind code functions kinds base sh s e.fn e.pl e.block n en 4 _ refl) (subst (λ y. IsAt code y (Call c.to c.number c.args)) ei c.is_at)))

  -- each flow is listed
  pub complete : (s t k : ℕ) → IsFlow code s t k → Has (all_flows functions base kinds 0 kinds) (flow s t k)
  complete s t k f =
      let so = a-step code functions kinds base sh named_source is_source (λ pl. refl) refl s f.source in
      let si = a-step code functions kinds base sh named_sink is_sink (λ pl. refl) refl t f.sink in
      let d = so.step in
      let kind = Call f.source.to f.source.number f.source.args in
      let first = result-first f.source.to d f.result (sh.step_shape d kind so.is_step).5 f.has_result in
      let given : value functions d kinds d kind ≡ true = or-left (nat_eq d d) _ (same-true d) in
      let start : Inv code functions kinds base sh d s f.result [] = at_result d kind d so.is_step first.1 given so.is_place first.0 in
      let end = spread-all code functions kinds base sh d s f.result t (length f.sink.to + k) f.calls start f.joins in
      let a = arrives d t k f.sink (length f.sink.to + k) f.calls refl end in
      let here : Has (flows_from functions base d 0 (no_marks kinds) kinds) (flow (base + d) (base + (0 + a.step)) k) =
      from-complete functions base d 0 (no_marks kinds) kinds a.step (Call f.sink.to f.sink.number f.sink.args) k a.register a.is_step si.is_named a.is_argument a.is_marked in
      let named : flow (base + d) (base + (0 + a.step)) k ≡ flow s t k =
      ap (λ y. flow (base + d) (base + y) k) (zero-add a.step) ∙ (ap (λ y. flow y (base + a.step) k) (sym so.is_place) ∙ ap (λ y. flow s y k) (sym a.is_place)) in
      subst (Has (all_flows functions base kinds 0 kinds)) named
      (all-complete functions base 0 kinds kinds d kind (flow (base + d) (base + (0 + a.step)) k) so.is_step so.is_named
      (subst (λ y. Has (flows_from functions base y 0 (no_marks kinds) kinds) (flow (base + d) (base + (0 + a.step)) k)) (sym (zero-add d)) here))

  -- the computed list is the list of flows
  pub exactly : AreFlows code (all_flows functions base kinds 0 kinds)
  exactly =
      record {
        ordered = λ i a b h k. chain-next (all_flows functions base kinds 0 kinds) (all-chain functions base 0 kinds kinds) i a b h (rw add-one at k);
        sound = λ i a h. sound a (i, h);
        complete = λ s t k f. complete s t k f;
      }
