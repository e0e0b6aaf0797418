-- Each flow of the code of a program of the first form is a flow of the whole program.
use Rattle.std.proofs.Common.{◌≡◌, ℕ, zero, suc, ◌+◌, ◌<◌, List, [], ◌∷◌, ◌++◌, Option, Some, None, Bool, true, false, ◌||◌, nat_eq, length, refl, sym, ap, ◌∙◌, subst, arith, inl, inr}
use Rattle.std.proofs.lemmas.Bool.{eqb-true}
use Rattle.std.proofs.lemmas.Bool.Decides.{nat_tests, Decides-eqb}
use Rattle.std.specs.Prelude.{slice_get, nat_lt, if◌then◌else◌}
use Rattle.argot_plain.specs.declared.first.Kind as Few
use Rattle.argot_plain.specs.declared.first.Kind.TheVariants as few
use Rattle.argot_plain.specs.First as First
use Rattle.argot_first.proofs.Lookup.{get-left, get-at, get-either}
use Rattle.argot_plain.specs.Lists.{member}
use Rattle.argot_plain.specs.Code.{Next, Successor, successor, by_call, param_of, leaves, node_registers}
use Rattle.argot_plain.specs.Nodes.{mark, HasLeaf, of_kind, of_entry}
use Rattle.argot_plain.specs.declared.instructions.Callee.TheVariants.{Static}
use Rattle.argot_plain.specs.declared.instructions.Kind.TheVariants.{Call, Leave}
use Rattle.argot_facts.specs.Copies.{Takes}
use Rattle.argot_facts.specs.Edges as Drawn
use Rattle.argot_facts.specs.Flows.{Flow, IsSource, IsArgument, is_argument}
use Rattle.argot_facts.specs.Flows as Whole
use Rattle.argot_facts.specs.Graphs.{IsEdge, IsMarked}
use Rattle.argot_facts.specs.Lists.{Leads, stay, go, after, after_all}
use Rattle.argot_facts.specs.Reaching.{Reaches, next, on}
use Rattle.argot_facts.specs.Refers.{Holds, IsLive, Targets, IsLivePlace, entry_is_live, target_is_live, target_static}
use Rattle.argot_facts.specs.declared.graphs.EdgeKind.{EdgeKind}
use Rattle.argot_facts.specs.declared.graphs.EdgeKind.TheVariants.{Plain, Call as Enters, Return as Returns}
use Rattle.argot_facts.specs.declared.nodes.Node.{Node}
use Rattle.argot_first_sound.specs.Whole.{whole_kind, whole_function, whole_of, registers_of, asked}
use Rattle.argot_first_sound.proofs.Maps.{some-same, only-one, at-there, function-there, defines-back, defines-there}
use Rattle.argot_first_sound.proofs.Fitting.{AreBelow, Good, Fitting}
use Rattle.argot_first_sound.proofs.Flowing.{counts-as, cleans-as}
use Rattle.argot_first_sound.proofs.Well.{good-at, good-somewhere, inside-there, leaves-at}

-- an item of a list that is long enough
there : {A : Type 0} (xs : List A) (k : ℕ) → k < length xs → (x : A) × (slice_get xs k ≡ Some x)
there [] k h = absurd (omega arith)
there (x ∷ xs) zero h = (x, refl)
there (x ∷ xs) (suc k) h = there xs k (omega arith)

same-number : (n : ℕ) → nat_eq n n ≡ true
same-number n = (Decides-eqb n n).1 refl

or-right : (a : Bool) → (a || true) ≡ true
or-right true = refl
or-right false = refl

in-member : (x : ℕ) (xs : List ℕ) (k : ℕ) → slice_get xs k ≡ Some x → member x xs ≡ true
in-member x [] k h = absurd (cc h)
in-member x (y ∷ ys) zero h = ap (λ b. b || member x ys) (ap (nat_eq x) (some-same h) ∙ same-number x)
in-member x (y ∷ ys) (suc k) h = ap (λ b. nat_eq x y || b) (in-member x ys k h) ∙ or-right (nat_eq x y)

-- the registers of an instruction's nodes
gives-node : (kind : Few.Kind) (k r : ℕ) → First.Gives (Some kind) k r → slice_get (node_registers (whole_kind kind)) k ≡ Some r
gives-node (few.Op to from) k r h = ap (slice_get (to ∷ [])) h.0 ∙ ap Some (sym h.1)
gives-node (few.Move to from) k r h = ap (slice_get (to ∷ [])) h.0 ∙ ap Some (sym h.1)
gives-node (few.Call to g args) k r h = get-left to args k r h
gives-node few.RunDefers k r h = absurd h
gives-node (few.Leave from) k r h = absurd h
gives-node (few.Goto target) k r h = absurd h
gives-node (few.Branch targets) k r h = absurd h

takes-node : (kind : Few.Kind) (l r : ℕ) → First.Takes (Some kind) l r → (x : ℕ) × (slice_get (node_registers (whole_kind kind)) l ≡ Some x)
takes-node (few.Op to from) l r h = (to, ap (slice_get (to ∷ [])) h.0)
takes-node (few.Move to from) l r h = (to, ap (slice_get (to ∷ [])) h.0)
takes-node (few.Call to g args) l r h = (r, get-at to args l h.0 h.1 ∙ h.2)
takes-node few.RunDefers l r h = absurd h
takes-node (few.Leave from) l r h = (r, h)
takes-node (few.Goto target) l r h = absurd h
takes-node (few.Branch targets) l r h = absurd h

takes-there : (kind : Few.Kind) (l r : ℕ) (code : First.Code) → First.Takes (Some kind) l r → Takes (asked code) (whole_kind kind) r [] l []
takes-there (few.Op to from) l r code h = (in-member r from h.1.0 h.1.1, h.0, refl)
takes-there (few.Move to from) l r code h = (h.1, h.0, refl)
takes-there (few.Call to g args) l r code h = (h.0, h.2, h.1, refl)
takes-there few.RunDefers l r code h = absurd h
takes-there (few.Leave from) l r code h = (h, refl)
takes-there (few.Goto target) l r code h = absurd h
takes-there (few.Branch targets) l r code h = absurd h

both-below : (n : ℕ) (xs ys : List ℕ) → AreBelow xs n → AreBelow ys n → AreBelow (xs ++ ys) n
both-below n xs ys a b k r h = elim (get-either xs ys k r h) [ inl x ↦ a k r x | inr y ↦ b y.0 r y.2 ]

one-below : (x n : ℕ) → x < n → AreBelow (x ∷ []) n
one-below x n l k r h = let y = (only-one x r k h).1 in omega arith

nodes-below : (code : First.Code) (f : First.Plain) (i : ℕ) (kind : Few.Kind) → Good code f i (whole_kind kind) → AreBelow (node_registers (whole_kind kind)) (registers_of f)
nodes-below code f i (few.Op to from) g = one-below to (registers_of f) g.1
nodes-below code f i (few.Move to from) g = one-below to (registers_of f) g.1
nodes-below code f i (few.Call to n args) g = both-below (registers_of f) to args g.3.to_below g.3.args_below
nodes-below code f i few.RunDefers g = λ k r h. absurd (cc h)
nodes-below code f i (few.Leave from) g = g.2
nodes-below code f i (few.Goto target) g = λ k r h. absurd (cc h)
nodes-below code f i (few.Branch targets) g = λ k r h. absurd (cc h)

not-itself : (target i : ℕ) → target ≡ i + 1 → nat_eq target i ≡ false
not-itself target i e = not-by (nat_eq target i) refl
  where
    not-by : (b : Bool) → nat_eq target i ≡ b → b ≡ false
    not-by true h = let x = eqb-true target i h in absurd (omega arith)
    not-by false h = refl

next-there : (code : First.Code) (f : First.Plain) (kind : Few.Kind) (i j : ℕ) → Good code f i (whole_kind kind) → First.GoesOn (Some kind) i j → Next (whole_kind kind) i j
next-there code f (few.Op to from) i j g h = h
next-there code f (few.Move to from) i j g h = h
next-there code f (few.Call to n args) i j g h = h
next-there code f few.RunDefers i j g h = h
next-there code f (few.Leave from) i j g h = absurd h
next-there code f (few.Goto target) i j g h = (h, not-itself target i g.1)
next-there code f (few.Branch targets) i j g h = h

param-there : (n k : ℕ) → k < n → param_of false n k ≡ Some k
param-there n k h = param-by (nat_lt k n) refl
  where
    param-by : (b : Bool) → nat_lt k n ≡ b → (if b then Some k else None) ≡ Some k
    param-by true e = refl
    param-by false e = absurd (grind (arith, nat_tests))

-- one edge more at the end of a list
leads-more : {N : Type 0} {E : N → EdgeKind → N → Type 0} {a b c : N} {ks : List EdgeKind} {k : EdgeKind} → Leads E a ks b → E b k c → Leads E a (ks ++ k ∷ []) c
leads-more stay e = go e stay
leads-more (go x more) e = go x (leads-more more e)

after-more-by : (k : EdgeKind) (os : Option (List ℕ)) (calls : List ℕ) → os ≡ Some calls → after_all (k ∷ []) os ≡ after k calls
after-more-by k None calls h = absurd (cc h)
after-more-by k (Some x) calls h = ap (after k) (some-same h)

after-more : (ks : List EdgeKind) (k : EdgeKind) (os : Option (List ℕ)) (calls : List ℕ) → after_all ks os ≡ Some calls → after_all (ks ++ k ∷ []) os ≡ after k calls
after-more [] k os calls h = after-more-by k os calls h
after-more (x ∷ ks) k None calls h = absurd (cc h)
after-more (x ∷ ks) k (Some os) calls h = after-more ks k (after x os) calls h

module _ (code : First.Code) (ok : Fitting code) where
  abbrev node : ℕ → ℕ → Node
  node i k = record { place = i; index = k; leaf = 0 }

  leaf-there : (g r : ℕ) (f : First.Plain) → First.IsFunction code g f → r < registers_of f → slice_get (leaves (whole_of code) g r) 0 ≡ Some []
  leaf-there g r f is h = ap (λ qs. slice_get qs 0) (leaves-at code ok g r f is h)

  has-node : (i k r : ℕ) (kind : Few.Kind) → First.IsAt code i kind → slice_get (node_registers (whole_kind kind)) k ≡ Some r → HasLeaf (whole_of code) i k 0 []
  has-node i k r kind at get =
      let h = good-somewhere code ok i (whole_kind kind) (at-there code i kind at) in
      let here = h.1 in
      of_kind h.0 r (whole_kind kind) (inside-there code ok i h.0 here.function here.is here.inside) (at-there code i kind at) get (leaf-there h.0 r here.function here.is (nodes-below code here.function i kind here.good k r get))

  has-parameter : (i k r : ℕ) → First.IsParameter code i k r → HasLeaf (whole_of code) i k 0 []
  has-parameter i k r p =
      let own = p.within in
      of_entry p.number (record { fn = whole_function p.function; is = function-there code p.number p.function p.is_function; at = sym p.entry }) own (leaf-there p.number k p.function p.is_function (omega arith))

  given-by : (i k r : ℕ) (o : Option Few.Kind) → First.kind_at code i ≡ o → First.Gives o k r → HasLeaf (whole_of code) i k 0 []
  given-by i k r None e h = absurd h
  given-by i k r (Some kind) e h = has-node i k r kind e (gives-node kind k r h)

  has-defined : (i k r : ℕ) → First.Defines code i k r → HasLeaf (whole_of code) i k 0 []
  has-defined i k r (inl h) = given-by i k r (First.kind_at code i) refl h
  has-defined i k r (inr p) = has-parameter i k r p

  marked : (i k : ℕ) → HasLeaf (whole_of code) i k 0 [] → IsMarked (whole_of code) (node i k) (mark i k [])
  marked i k h = record { place = refl; index = refl; has = h }

  live-there : (g : ℕ) → First.Live code g → Holds (whole_of code) (IsLive g)
  live-there g First.opening = entry_is_live
  live-there g (First.called f i fn to args l is inside at) =
      target_is_live i false (target_static f (length to) (Call to (Static g) args) args (inside-there code ok i f fn is inside) (live-there f l) (at-there code i (few.Call to g args) at) by_call)

  place-there : (i : ℕ) → First.IsLivePlace code i → IsLivePlace (whole_of code) i
  place-there i l = record { function = l.number; is_in = inside-there code ok i l.number l.function l.is_function l.inside; is_live = live-there l.number l.live }

  target-there : (i g : ℕ) (to args : List ℕ) → First.IsLivePlace code i → First.IsAt code i (few.Call to g args) → Holds (whole_of code) (Targets i g false)
  target-there i g to args l at =
      target_static l.number (length to) (Call to (Static g) args) args (inside-there code ok i l.number l.function l.is_function l.inside) (live-there l.number l.live) (at-there code i (few.Call to g args) at) by_call

  goes-by : (i j : ℕ) (o : Option Few.Kind) → First.kind_at code i ≡ o → First.GoesOn o i j → Successor (whole_of code) i j
  goes-by i j None e h = absurd h
  goes-by i j (Some kind) e h =
      let at = at-there code i kind e in
      let s = good-somewhere code ok i (whole_kind kind) at in
      successor (whole_kind kind) at (next-there code s.1.function kind i j s.1.good h)

  successor-there : (i j : ℕ) → First.Successor code i j → Successor (whole_of code) i j
  successor-there i j h = goes-by i j (First.kind_at code i) refl h

  reaches-there : (d k r i : ℕ) → First.Reaches code d k r i → First.Defines code d k r × Reaches (whole_of code) d r i
  reaches-there d k r i (First.next def s) = (def, next (successor-there d i s))
  reaches-there d k r i (First.onward {m = m} before none s) =
      let x = reaches-there d k r m before in
      (x.0, on x.1 (λ l y. none l (defines-back code m l r y)) (successor-there m i s))

  -- edges
  abbrev WholeEdge : ℕ → ℕ → EdgeKind → ℕ → ℕ → Type 0
  WholeEdge d k kind i l = IsEdge (whole_of code) (asked code) (node d k) kind (node i l)

  taken-by : (d k r i l : ℕ) (o : Option Few.Kind) → First.kind_at code i ≡ o → First.IsLivePlace code i → First.Takes o l r → First.Reaches code d k r i → WholeEdge d k Plain i l
  taken-by d k r i l None e live t reaches = absurd t
  taken-by d k r i l (Some kind) e live t reaches =
      let x = reaches-there d k r i reaches in
      let y = takes-node kind l r t in
      record {
        from = mark d k [];
        to = mark i l [];
        is_from = marked d k (has-defined d k r x.0);
        is_to = marked i l (has-node i l y.0 kind e y.1);
        moves = Drawn.plain r (whole_kind kind) (place-there i live) (at-there code i kind e) (takes-there kind l r code t) (record { defines = defines-there code d k r x.0; reaches = x.1 });
      }

  -- what a call hands over fits its function
  callee-fits : (i g : ℕ) (to args : List ℕ) (fn : First.Plain) → First.IsAt code i (few.Call to g args) → First.IsFunction code g fn → (length args ≡ fn.params) × (length to ≡ fn.results)
  callee-fits i g to args fn at is =
      let s = good-somewhere code ok i (Call to (Static g) args) (at-there code i (few.Call to g args) at) in
      let good = s.1.good in
      let same : Static g ≡ Static good.1 = good.2 in
      let number : g ≡ good.1 = cc same in
      let f : good.3.callee ≡ fn = some-same (sym good.3.is ∙ (ap (slice_get code.functions) (sym number) ∙ is)) in
      (good.3.count ∙ ap (λ (y : First.Plain). y.params) f, good.3.results ∙ ap (λ (y : First.Plain). y.results) f)

  argument-node : (i g k : ℕ) (to args : List ℕ) → First.IsAt code i (few.Call to g args) → k < length args → HasLeaf (whole_of code) i (length to + k) 0 []
  argument-node i g k to args at w =
      let x = there args k w in
      has-node i (length to + k) x.0 (few.Call to g args) at (get-at to args (length to + k) k refl ∙ x.1)

  result-node : (i g k : ℕ) (to args : List ℕ) → First.IsAt code i (few.Call to g args) → k < length to → HasLeaf (whole_of code) i k 0 []
  result-node i g k to args at w =
      let x = there to k w in
      has-node i k x.0 (few.Call to g args) at (get-left to args k x.0 x.1)

  enters-there : (i k g : ℕ) (to args : List ℕ) (fn : First.Plain) → First.IsLivePlace code i → First.IsAt code i (few.Call to g args) → First.IsFunction code g fn → k < length args → WholeEdge i (length to + k) (Enters i) fn.entry k
  enters-there i k g to args fn live at is w =
      let fits = callee-fits i g to args fn at is in
      let count = fits.0 in
      let own : k < fn.params = omega arith in
      record {
        from = mark i (length to + k) [];
        to = mark fn.entry k [];
        is_from = marked i (length to + k) (argument-node i g k to args at w);
        is_to = marked fn.entry k (has-parameter fn.entry k k (record { number = g; function = fn; is_function = is; entry = refl; within = own; same = refl }));
        moves = Drawn.call k g (length to) false (Call to (Static g) args) (Static g) args (whole_function fn) (at-there code i (few.Call to g args) at) Drawn.a_call by_call (target-there i g to args live at) (param-there (length args) k w) (function-there code g fn is);
      }

  leave-node : (g k : ℕ) (fn : First.Plain) → First.IsFunction code g fn → k < fn.results → HasLeaf (whole_of code) fn.leave k 0 []
  leave-node g k fn is w =
      let body = ok.bodies g fn is in
      let low = body.low in
      let high = body.high in
      let at = body.leaves.1 in
      let inside : First.IsIn fn.leave fn = (omega arith, omega arith) in
      let s = good-at code ok fn.leave g (Leave body.leaves.0) (inside-there code ok fn.leave g fn is inside) (at-there code fn.leave (few.Leave body.leaves.0) at) in
      let same : s.function ≡ fn = some-same (sym s.is ∙ is) in
      let number : length body.leaves.0 ≡ fn.results = s.good.1 ∙ ap (λ (y : First.Plain). y.results) same in
      let x = there body.leaves.0 k (omega arith) in
      has-node fn.leave k x.0 (few.Leave body.leaves.0) at x.1

  returns-there : (i k g : ℕ) (to args : List ℕ) (fn : First.Plain) → First.IsLivePlace code i → First.IsAt code i (few.Call to g args) → First.IsFunction code g fn → k < length to → First.cleans fn ≡ false → WholeEdge fn.leave k (Returns i) i k
  returns-there i k g to args fn live at is w clean =
      let fits = callee-fits i g to args fn at is in
      let count = fits.1 in
      let own : k < fn.results = omega arith in
      record {
        from = mark fn.leave k [];
        to = mark i k [];
        is_from = marked fn.leave k (leave-node g k fn is own);
        is_to = marked i k (result-node i g k to args at w);
        moves = Drawn.return g false to args (Static g) (whole_function fn) (at-there code i (few.Call to g args) at) (target-there i g to args live at) (function-there code g fn is) refl w (cleans-as code i g fn is ∙ clean);
      }

  abbrev whole-edge-kind : First.EdgeKind → EdgeKind
  whole-edge-kind First.Within = Plain
  whole-edge-kind (First.Enters c) = Enters c
  whole-edge-kind (First.Returns c) = Returns c

  edge-there : (d k i l : ℕ) (kind : First.EdgeKind) → First.Edge code d k kind i l → WholeEdge d k (whole-edge-kind kind) i l
  edge-there d k i l kind (First.within r live t reaches) = taken-by d k r i l (First.kind_at code i) refl live t reaches
  edge-there d k i l kind (First.enters {k = n} to args g fn live at is el w ee) =
      subst (λ x. WholeEdge d x (Enters d) i n) (sym el) (subst (λ x. WholeEdge d (length to + n) (Enters d) x n) (sym ee) (enters-there d n g to args fn live at is w))
  edge-there d k i l kind (First.returns to args g fn live at is ex w clean) =
      subst (λ x. WholeEdge x k (Returns i) i k) (sym ex) (returns-there i k g to args fn live at is w clean)

  -- lists of edges
  pub record Listed (s k b l : ℕ) (calls : List ℕ) : Type 0 where
    pub kinds : List EdgeKind
    pub leads : Leads (IsEdge (whole_of code) (asked code)) (node s k) kinds (node b l)
    pub realizable : after_all kinds (Some []) ≡ Some calls

  listed-more : (s k b l c m : ℕ) (calls os : List ℕ) (kind : EdgeKind) → Listed s k b l calls → WholeEdge b l kind c m → after kind calls ≡ Some os → Listed s k c m os
  listed-more s k b l c m calls os kind x e h = record { kinds = x.kinds ++ kind ∷ []; leads = leads-more x.leads e; realizable = after-more x.kinds kind (Some []) calls x.realizable ∙ h }

  returned : (i : ℕ) (calls : List ℕ) → after (Returns i) (i ∷ calls) ≡ Some calls
  returned i calls = ap (λ b. if b then Some calls else None) (same-number i)

  listed : (s k b l : ℕ) (calls : List ℕ) → First.Joins code s k b l calls → Listed s k b l calls
  listed s k b l calls First.stay = record { kinds = []; leads = stay; realizable = refl }
  listed s k b l calls (First.plain {b = m} {l = n} j e) = listed-more s k m n b l calls calls Plain (listed s k m n calls j) (edge-there m n b l First.Within e) refl
  listed s k b l calls (First.call {b = m} {l = n} {i = i} {calls = held} j e) = listed-more s k m n b l held calls (Enters i) (listed s k m n held j) (edge-there m n b l (First.Enters i) e) refl
  listed s k b l calls (First.return_last {b = m} {l = n} {i = i} j e) = listed-more s k m n b l (i ∷ calls) calls (Returns i) (listed s k m n (i ∷ calls) j) (edge-there m n b l (First.Returns i) e) (returned i calls)
  listed s k b l calls (First.return_free {b = m} {l = n} {i = i} j e) = listed-more s k m n b l [] [] (Returns i) (listed s k m n [] j) (edge-there m n b l (First.Returns i) e) refl

  source-there : (s k : ℕ) (c : First.Calls code First.is_source s) → k < length c.to → IsSource (whole_of code) (asked code) s (mark s k [])
  source-there s k c w =
      Whole.by_call c.to c.args (Static c.number) c.number false (at-there code s (few.Call c.to c.number c.args) c.is_at) (target-there s c.number c.to c.args c.live c.is_at) (counts-as code First.is_source s c.number c.function c.is_function ∙ c.counted) w

  argument-there : (t k : ℕ) (c : First.Calls code First.is_sink t) → k < length c.args → IsArgument (whole_of code) (asked code) t k (mark t (length c.to + k) [])
  argument-there t k c w =
      is_argument (Call c.to (Static c.number) c.args) (Static c.number) c.args (length c.to) c.number false (at-there code t (few.Call c.to c.number c.args) c.is_at) by_call (target-there t c.number c.to c.args c.live c.is_at) (counts-as code First.is_sink t c.number c.function c.is_function ∙ c.counted) w

  pub flow-there : (s t k : ℕ) → First.IsFlow code s t k → Flow (whole_of code) (asked code) s t k
  flow-there s t k f =
      let x = listed s f.result t (length f.sink.to + k) f.calls f.joins in
      record {
        start = mark s f.result [];
        end = mark t (length f.sink.to + k) [];
        source = source-there s f.result f.source f.has_result;
        argument = argument-there t k f.sink f.has_argument;
        from = node s f.result;
        to = node t (length f.sink.to + k);
        is_from = marked s f.result (result-node s f.source.number f.result f.source.to f.source.args f.source.is_at f.has_result);
        is_to = marked t (length f.sink.to + k) (argument-node t f.sink.number k f.sink.to f.sink.args f.sink.is_at f.has_argument);
        joins = record { kinds = x.kinds; calls = f.calls; leads = x.leads; realizable = x.realizable };
      }
