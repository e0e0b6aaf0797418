-- Each flow of the whole program is a flow of its code.
use Rattle.std.proofs.Common.{◌≡◌, ℕ, zero, suc, ◌+◌, ◌<◌, ◌≤◌, List, [], ◌∷◌, ◌++◌, Option, Some, None, Bool, true, false, not, ◌&&◌, ◌||◌, nat_eq, length, map, refl, sym, ap, ◌∙◌, subst, arith, add-zero, zero-add}
use Rattle.std.proofs.lemmas.Bool.{false≢true, eqb-true}
use Rattle.std.proofs.lemmas.Bool.Decides.{nat_tests, Decides-eqb}
use Rattle.std.specs.Prelude.{slice_get, nat_lt, if◌then◌else◌}
use Rattle.argot_text.specs.declared.path.PathStep.{PathStep}
use Rattle.argot_plain.specs.declared.first.Kind as Few
use Rattle.argot_plain.specs.declared.first.Kind.TheVariants as few
use Rattle.argot_plain.specs.First as First
use Rattle.argot_plain.specs.Lists.{member}
use Rattle.argot_plain.specs.Code.{IsAt, IsFunction, IsIn, Hands, arguments, param_of}
use Rattle.argot_plain.specs.Counts.{is_source, cleans, counts, in_wrapper, is_left_out, is_among, stands_for, counted_as}
use Rattle.argot_plain.specs.Nodes.{Mark}
use Rattle.argot_plain.specs.declared.functions.Function.{Function}
use Rattle.argot_plain.specs.declared.instructions.Callee.{Callee}
use Rattle.argot_plain.specs.declared.instructions.Callee.TheVariants.{Static, Value, Method}
use Rattle.argot_plain.specs.declared.instructions.Kind.{Kind}
use Rattle.argot_plain.specs.declared.instructions.Kind.TheVariants.{Call, Go, Grow, Write}
use Rattle.argot_facts.specs.Copies.{Takes}
use Rattle.argot_facts.specs.Edges.{Moves, Writes, by_write, by_grow}
use Rattle.argot_facts.specs.Edges as Drawn
use Rattle.argot_facts.specs.Flows.{IsSource, by_call, by_place, IsArgument, is_argument}
use Rattle.argot_facts.specs.Graphs.{IsEdge}
use Rattle.argot_facts.specs.Lists.{Leads, stay, go, after, after_all}
use Rattle.argot_facts.specs.Reaching.{Reaches, next, on}
use Rattle.argot_facts.specs.Refers.{Fact, Holds, IsLive, Targets, NodeRefers, PlaceRefers, IsLivePlace, entry_is_live, target_is_live, target_static, target_value, target_method}
use Rattle.argot_facts.specs.declared.graphs.EdgeKind.{EdgeKind}
use Rattle.argot_facts.specs.declared.graphs.EdgeKind.TheVariants.{Plain, Call as Enters, Return as Returns, Reset}
use Rattle.argot_facts.specs.declared.nodes.Node.{Node}
use Rattle.argot_first_sound.specs.Whole.{whole_kind, whole_function, whole_of, numbers_of, is_sanitizer, asked}
use Rattle.argot_first_sound.specs.Laws.{FlowsAreFlows}
use Rattle.argot_first_sound.proofs.Maps.{some-same, stands, is-few, function-there, function-back, inside-back, call-back, hands-on, successor-back, defines-back, defines-there}

-- a member stands in the list
member-by : (x y : ℕ) (ys : List ℕ) (b : Bool) → nat_eq x y ≡ b → (member x ys ≡ true → First.Among x ys) → (b || member x ys) ≡ true → First.Among x (y ∷ ys)
member-by x y ys true e rec h = (0, ap Some (sym (eqb-true x y e)))
member-by x y ys false e rec h = let m = rec h in (suc m.0, m.1)

member-in : (x : ℕ) (xs : List ℕ) → member x xs ≡ true → First.Among x xs
member-in x [] h = absurd (false≢true h)
member-in x (y ∷ ys) h = member-by x y ys (nat_eq x y) refl (member-in x ys) h

-- which numbers are listed
number-head : (n g : ℕ) (xs : List ℕ) (b : Bool) → nat_eq g n ≡ b → (member g xs ≡ true → n + 1 ≤ g) → (b || member g xs) ≡ true → n ≤ g
number-head n g xs true e rec h = let x = eqb-true g n e in omega arith
number-head n g xs false e rec h = let x = rec h in omega arith

number-by : (n g : ℕ) (xs : List ℕ) (b : Bool) → (member g xs ≡ true → n + 1 ≤ g) → member g ((if b then n ∷ [] else []) ++ xs) ≡ true → n ≤ g
number-by n g xs true rec h = number-head n g xs (nat_eq g n) refl rec h
number-by n g xs false rec h = let x = rec h in omega arith

number-least : (test : First.Plain → Bool) (n g : ℕ) (fs : List First.Plain) → member g (numbers_of test n fs) ≡ true → n ≤ g
number-least test n g [] h = absurd (false≢true h)
number-least test n g (f ∷ fs) h = number-by n g (numbers_of test (n + 1) fs) (test f) (number-least test (n + 1) g fs) h

none-below : (test : First.Plain → Bool) (n g : ℕ) (fs : List First.Plain) → g < n → member g (numbers_of test n fs) ≡ false
none-below test n g fs l = none-by (member g (numbers_of test n fs)) refl
  where
    none-by : (b : Bool) → member g (numbers_of test n fs) ≡ b → b ≡ false
    none-by true e = let x = number-least test n g fs e in absurd (omega arith)
    none-by false e = refl

same-false : (n k : ℕ) → n < k → nat_eq k n ≡ false
same-false n k l = same-by (nat_eq k n) refl
  where
    same-by : (b : Bool) → nat_eq k n ≡ b → b ≡ false
    same-by true e = let x = eqb-true k n e in absurd (omega arith)
    same-by false e = refl

head-by : (n g : ℕ) (xs : List ℕ) (b c : Bool) → g ≡ n → member g xs ≡ false → b ≡ c → member g ((if b then n ∷ [] else []) ++ xs) ≡ c
head-by n g xs true c l none e = ap (λ (z : Bool). z || member g xs) ((Decides-eqb g n).1 l) ∙ e
head-by n g xs false c l none e = none ∙ e

tail-by : (n g : ℕ) (xs : List ℕ) (b c : Bool) → n < g → member g xs ≡ c → member g ((if b then n ∷ [] else []) ++ xs) ≡ c
tail-by n g xs true c l rest = ap (λ (z : Bool). z || member g xs) (same-false n g l) ∙ rest
tail-by n g xs false c l rest = rest

numbered : (test : First.Plain → Bool) (n g : ℕ) (f : First.Plain) (fs : List First.Plain) → slice_get fs g ≡ Some f → member (n + g) (numbers_of test n fs) ≡ test f
numbered test n g f [] h = absurd (cc h)
numbered test n zero f (x ∷ xs) h = head-by n (n + 0) (numbers_of test (n + 1) xs) (test x) (test f) (add-zero n) (none-below test (n + 1) (n + 0) xs (omega arith)) (ap test (some-same h))
numbered test n (suc g) f (x ∷ xs) h =
    let e : n + suc g ≡ n + 1 + g = omega arith in
    tail-by n (n + suc g) (numbers_of test (n + 1) xs) (test x) (test f) (omega arith) (ap (λ z. member z (numbers_of test (n + 1) xs)) e ∙ numbered test (n + 1) g f xs h)

no-wrapper : (i : ℕ) (fs : List First.Plain) → in_wrapper i (map whole_function fs) ≡ false
no-wrapper i [] = refl
no-wrapper i (f ∷ fs) = no-wrapper i fs

not-left : (a b : Bool) → b ≡ false → not (a && b) ≡ true
not-left true b e = ap not e
not-left false b e = refl

param-by : (n k j : ℕ) → param_of false n k ≡ Some j → (k < n) × (j ≡ k)
param-by n k j h = param-case (nat_lt k n) refl h
  where
    param-case : (b : Bool) → nat_lt k n ≡ b → (if b then Some k else None) ≡ Some j → (k < n) × (j ≡ k)
    param-case true e h = (grind (arith, nat_tests), cc)
    param-case false e h = absurd cc

module _ (code : First.Code) where
  pub counts-as : (test : First.Plain → Bool) (i g : ℕ) (f : First.Plain) → First.IsFunction code g f → counts (whole_of code) i g (numbers_of test 0 code.functions) ≡ test f
  counts-as test i g f is =
      let ns = numbers_of test 0 code.functions in
      let a : not (is_left_out (whole_of code) i) ≡ true = not-left _ (in_wrapper i (map whole_function code.functions)) (no-wrapper i code.functions) in
      let b : stands_for (whole_of code) g ≡ Some g = ap (λ o. counted_as o g) (function-there code g f is) in
      let c : member g ns ≡ test f = ap (λ z. member z ns) (sym (zero-add g)) ∙ numbered test 0 g f code.functions is in
      ap (λ (z : Bool). z && is_among (stands_for (whole_of code) g) ns) a ∙ (ap (λ o. is_among o ns) b ∙ c)

  pub cleans-as : (i g : ℕ) (f : First.Plain) → First.IsFunction code g f → cleans (whole_of code) (asked code) i g ≡ First.cleans f
  cleans-as i g f is = ap (λ (z : Bool). z && not (is_source (whole_of code) (asked code) i g)) (counts-as is_sanitizer i g f is) ∙ ap (λ (z : Bool). is_sanitizer f && not z) (counts-as First.is_source i g f is)

  -- a call by number of a live place
  pub record Called (i g : ℕ) (takes : Bool) : Type 0 where
    pub to : List ℕ
    pub args : List ℕ
    pub live : First.IsLivePlace code i
    pub is_at : First.IsAt code i (few.Call to g args)
    pub no_env : takes ≡ false

  live-place : (i h : ℕ) → IsIn (whole_of code) i h → First.Live code h → First.IsLivePlace code i
  live-place i h inside l = let f = inside-back code i h inside in record { number = h; function = f.0; live = l; is_function = f.1; inside = f.2 }

  abbrev Meaning : Fact → Type 0
  Meaning (IsLive g) = First.Live code g
  Meaning (Targets i g takes) = Called i g takes
  Meaning (NodeRefers n to) = Unit {0}
  Meaning (PlaceRefers a to) = Unit {0}

  static-same : (g h : ℕ) → Static g ≡ Static h → g ≡ h
  static-same g h e = cc e

  called-by : (i g h n : ℕ) (kind : Kind) (args : List ℕ) → IsIn (whole_of code) i h → First.Live code h → IsAt (whole_of code) i kind → Hands kind (Static g) args n → Called i g false
  called-by i g h n kind args inside l at hands =
      let c = hands-on code i kind (Static g) args n at hands in
      let e = static-same g c.number c.is_callee in
      record { to = c.to; args = args; live = live-place i h inside l; is_at = c.is_at ∙ ap (λ x. Some (few.Call c.to x args)) (sym e); no_env = refl }

  live-by : (i g : ℕ) (takes : Bool) → Called i g takes → First.Live code g
  live-by i g takes c = First.called c.live.number i c.live.function c.to c.args c.live.live c.live.is_function c.live.inside c.is_at

  no-value : (i r n : ℕ) (kind : Kind) (args : List ℕ) → IsAt (whole_of code) i kind → Hands kind (Value r) args n → ⊥
  no-value i r n kind args at hands = let c = hands-on code i kind (Value r) args n at hands in let e = c.is_callee in cc e

  no-method : (i r n : ℕ) (name : List ℕ) (kind : Kind) (args : List ℕ) → IsAt (whole_of code) i kind → Hands kind (Method r name) args n → ⊥
  no-method i r n name kind args at hands = let c = hands-on code i kind (Method r name) args n at hands in let e = c.is_callee in cc e

  meaning : {f : Fact} → Holds (whole_of code) f → Meaning f
  meaning entry_is_live = First.opening
  meaning (target_is_live {target = g} i takes t) = live-by i g takes (meaning t)
  meaning (target_static {i = i} {target = g} h n kind args inside l at hands) = called-by i g h n kind args inside (meaning l) at hands
  meaning (target_value {i} h n d j r s path kind args site fn inside l at hands def refers is function isf env) = absurd (no-value i r n kind args at hands)
  meaning (target_method {i} h n d j r s name path kind args site inside l at hands def refers is wrapper) = absurd (no-method i r n name kind args at hands)
  meaning _ = tt

  place-back : (i : ℕ) → IsLivePlace (whole_of code) i → First.IsLivePlace code i
  place-back i l = live-place i l.function l.is_in (meaning l.is_live)

  -- reaching
  reaches-back : (d j r : ℕ) → First.Defines code d j r → {i : ℕ} → Reaches (whole_of code) d r i → First.Reaches code d j r i
  reaches-back d j r def (next {j = i} s) = First.next def (successor-back code d i s)
  reaches-back d j r def (on {i = m} {j = i} before none s) = First.onward (reaches-back d j r def before) (λ l x. none l (defines-there code m l r x)) (successor-back code m i s)

  takes-by : (kind : Few.Kind) (k r : ℕ) (q q' : List PathStep) → Takes (asked code) (whole_kind kind) r q k q' → First.Takes (Some kind) k r
  takes-by (few.Op to from) k r q q' t = (t.1, member-in r from t.0)
  takes-by (few.Move to from) k r q q' t = (t.1, t.0)
  takes-by (few.Call to g args) k r q q' t = (t.0, t.2, t.1)
  takes-by few.RunDefers k r q q' t = absurd t
  takes-by (few.Leave from) k r q q' t = t.0
  takes-by (few.Goto target) k r q q' t = absurd t
  takes-by (few.Branch targets) k r q q' t = absurd t

  takes-back : (i : ℕ) (kind : Kind) (k r : ℕ) (q q' : List PathStep) → IsAt (whole_of code) i kind → Takes (asked code) kind r q k q' → First.Takes (First.kind_at code i) k r
  takes-back i kind k r q q' at t =
      let s = stands code i kind at in
      subst (λ o. First.Takes o k r) (sym s.is_at) (takes-by s.kind_there k r q q' (subst (λ x. Takes (asked code) x r q k q') s.is t))

  no-writes : (m : Mark) (s : ℕ) (path : List PathStep) → Writes (whole_of code) m s path → ⊥
  no-writes m s path (by_write {i = i} d j at from live is def refers ok) = is-few code i (Write at from) is
  no-writes m s path (by_grow {i = i} to at items live is refers ok) = is-few code i (Grow to at items) is

  no-external : (g : ℕ) (fn : Function) (flows : Bool) → IsFunction (whole_of code) g fn → fn.external ≡ Some flows → ⊥
  no-external g fn flows is e = let f = function-back code g fn is in let x = sym (ap (λ (y : Function). y.external) f.2) ∙ e in cc x

  -- the kinds of edges
  abbrev EdgeOf : EdgeKind → ℕ → ℕ → ℕ → ℕ → Type 0
  EdgeOf Plain d k i l = First.Edge code d k First.Within i l
  EdgeOf (Enters c) d k i l = First.Edge code d k (First.Enters c) i l
  EdgeOf (Returns c) d k i l = First.Edge code d k (First.Returns c) i l
  EdgeOf Reset d k i l = ⊥

  call-edge : (i k g n j : ℕ) (takes : Bool) (kind : Kind) (callee : Callee) (args : List ℕ) (fn : Function) → IsAt (whole_of code) i kind → Hands kind callee args n → Called i g takes → param_of takes (length (arguments callee args)) k ≡ Some j → IsFunction (whole_of code) g fn → First.Edge code i (n + k) (First.Enters i) fn.entry j
  call-edge i k g n j takes kind callee args fn at hands t param is =
      let c = hands-on code i kind callee args n at hands in
      let f = function-back code g fn is in
      let same : few.Call t.to g t.args ≡ few.Call c.to c.number args = some-same (sym t.is_at ∙ c.is_at) in
      let to : t.to ≡ c.to = cc same in
      let list : t.args ≡ args = cc same in
      let xs : arguments callee args ≡ args = ap (λ (z : Callee). arguments z args) c.is_callee in
      let p1 : param_of false (length t.args) k ≡ Some j = subst (λ (z : List ℕ). param_of false (length z) k ≡ Some j) (xs ∙ sym list) (subst (λ b. param_of b (length (arguments callee args)) k ≡ Some j) t.no_env param) in
      let p = param-by (length t.args) k j p1 in
      let count : n + k ≡ length t.to + j = ap (λ z. z + k) (c.count ∙ ap length (sym to)) ∙ ap (λ z. length t.to + z) (sym p.1) in
      First.enters t.to t.args g f.0 t.live t.is_at f.1 count (subst (λ z. z < length t.args) (sym p.1) p.0) (ap (λ (x : Function). x.entry) f.2)

  return-edge : (i k g : ℕ) (takes : Bool) (to args : List ℕ) (callee : Callee) (fn : Function) → IsAt (whole_of code) i (Call to callee args) → Called i g takes → IsFunction (whole_of code) g fn → k < length to → cleans (whole_of code) (asked code) i g ≡ false → First.Edge code fn.leave k (First.Returns i) i k
  return-edge i k g takes to args callee fn at t is within clean =
      let c = call-back code i to args callee at in
      let f = function-back code g fn is in
      let same : few.Call t.to g t.args ≡ few.Call to c.0 args = some-same (sym t.is_at ∙ c.2) in
      let to-is : t.to ≡ to = cc same in
      First.returns t.to t.args g f.0 t.live t.is_at f.1 (ap (λ (x : Function). x.leave) f.2) (subst (λ (z : List ℕ). k < length z) (sym to-is) within) (sym (cleans-as i g f.0 f.1) ∙ clean)

  moves-back : (m : Mark) (kind : EdgeKind) (n : Mark) → Moves (whole_of code) (asked code) m kind n → EdgeOf kind m.place m.index n.place n.index
  moves-back m e n (Drawn.plain {d} {j} {i} {k} {q} {q'} r kind live at takes def) =
      let y = defines-back code d j r def.defines in
      First.within r (place-back i live) (takes-back i kind k r q q' at takes) (reaches-back d j r y def.reaches)
  moves-back m e n (Drawn.grown {i = i} to at items live is) = absurd (is-few code i (Grow to at items) is)
  moves-back m e n (Drawn.call {i = i} {j = j} k g c takes kind callee args fn at likewise hands targets param is) = call-edge i k g c j takes kind callee args fn at hands (meaning targets) param is
  moves-back m e n (Drawn.go {i = i} g takes callee args fn at targets param is) = absurd (is-few code i (Go callee args) at)
  moves-back m e n (Drawn.return {i = i} {k = k} g takes to args callee fn at targets is body within clean) = return-edge i k g takes to args callee fn at (meaning targets) is within clean
  moves-back m e n (Drawn.external k g takes to args callee fn at targets is ext clean within result) = absurd (no-external g fn true is ext)
  moves-back m e n (Drawn.by_object s path writes read meet) = absurd (no-writes m s path writes)
  moves-back m e n (Drawn.by_argument {m = m'} k s g c at takes path kind callee args is hands targets looks within leaf reach writes read meet) = absurd (no-writes m' s path writes)

  edge-back : (a : Node) (kind : EdgeKind) (b : Node) → IsEdge (whole_of code) (asked code) a kind b → EdgeOf kind a.place a.index b.place b.index
  edge-back a kind b h =
      let m = moves-back h.from kind h.to h.moves in
      subst (λ x. EdgeOf kind x a.index b.place b.index) (sym h.is_from.place)
      (subst (λ x. EdgeOf kind h.from.place x b.place b.index) (sym h.is_from.index)
      (subst (λ x. EdgeOf kind h.from.place h.from.index x b.index) (sym h.is_to.place)
      (subst (λ x. EdgeOf kind h.from.place h.from.index h.to.place x) (sym h.is_to.index) m)))

  -- lists of edges
  after-none : (ks : List EdgeKind) (calls : List ℕ) → after_all ks None ≡ Some calls → ⊥
  after-none [] calls h = cc h
  after-none (k ∷ ks) calls h = cc h

  joins-return : (s k : ℕ) (a b : Node) (c o : ℕ) (os : List ℕ) (t : Bool) → nat_eq o c ≡ t → First.Joins code s k a.place a.index (o ∷ os) → EdgeOf (Returns c) a.place a.index b.place b.index → (ks : List EdgeKind) (calls : List ℕ) → after_all ks (if t then Some os else None) ≡ Some calls → (os' : List ℕ) × First.Joins code s k b.place b.index os' × (after_all ks (Some os') ≡ Some calls)
  joins-return s k a b c o os true e j edge ks calls h =
      let same : o ≡ c = eqb-true o c e in
      (os, First.return_last (subst (λ x. First.Joins code s k a.place a.index (x ∷ os)) same j) edge, h)
  joins-return s k a b c o os false e j edge ks calls h = absurd (after-none ks calls h)

  step-joins : (s k : ℕ) (a b : Node) (kind : EdgeKind) (held : List ℕ) → First.Joins code s k a.place a.index held → EdgeOf kind a.place a.index b.place b.index → (ks : List EdgeKind) (calls : List ℕ) → after_all ks (after kind held) ≡ Some calls → (os : List ℕ) × First.Joins code s k b.place b.index os × (after_all ks (Some os) ≡ Some calls)
  step-joins s k a b Plain held j e ks calls h = (held, First.plain j e, h)
  step-joins s k a b (Enters c) held j e ks calls h = (c ∷ held, First.call j e, h)
  step-joins s k a b (Returns c) [] j e ks calls h = ([], First.return_free j e, h)
  step-joins s k a b (Returns c) (o ∷ os) j e ks calls h = joins-return s k a b c o os (nat_eq o c) refl j e ks calls h
  step-joins s k a b Reset held j e ks calls h = absurd e

  leads-back : (s k : ℕ) {a b : Node} {ks : List EdgeKind} → Leads (IsEdge (whole_of code) (asked code)) a ks b → (held calls : List ℕ) → First.Joins code s k a.place a.index held → after_all ks (Some held) ≡ Some calls → First.Joins code s k b.place b.index calls
  leads-back s k (stay {a}) held calls j h = subst (First.Joins code s k a.place a.index) (some-same h) j
  leads-back s k (go {a} {b} {c} {k = kind} {ks} e more) held calls j h =
      let x = step-joins s k a b kind held j (edge-back a kind b e) ks calls h in
      leads-back s k more x.0 calls x.1 x.2

  -- the ends
  pub record Begins (s : ℕ) (m : Mark) : Type 0 where
    pub source : First.Calls code First.is_source s
    pub place : m.place ≡ s
    pub within : m.index < length source.to

  abbrev one-function : (i g : ℕ) (takes : Bool) → (t : Called i g takes) → (f : First.Plain) → First.IsFunction code g f → (test : First.Plain → Bool) → test f ≡ true → First.Calls code test i
  one-function i g takes t f is test e = record { to = t.to; number = g; args = t.args; function = f; live = t.live; is_at = t.is_at; is_function = is; counted = e }

  -- a target that counts is a function
  pub record Counted (i g : ℕ) (test : First.Plain → Bool) : Type 0 where
    pub function : First.Plain
    pub is : First.IsFunction code g function
    pub counted : test function ≡ true

  none-counts : (a : Bool) (ns : List ℕ) → (a && is_among None ns) ≡ true → ⊥
  none-counts true ns h = cc h
  none-counts false ns h = cc h

  counted-by : (test : First.Plain → Bool) (i g : ℕ) (o : Option First.Plain) → slice_get code.functions g ≡ o → counts (whole_of code) i g (numbers_of test 0 code.functions) ≡ true → Counted i g test
  counted-by test i g (Some f) e h = record { function = f; is = e; counted = sym (counts-as test i g f e) ∙ h }
  counted-by test i g None e h = absurd (none-counts (not (is_left_out (whole_of code) i)) (numbers_of test 0 code.functions) (subst (λ o. (not (is_left_out (whole_of code) i) && is_among (counted_as o g) (numbers_of test 0 code.functions)) ≡ true) (map-none code.functions g e) h))
    where
      map-none : (fs : List First.Plain) (g : ℕ) → slice_get fs g ≡ None → slice_get (map whole_function fs) g ≡ None
      map-none [] g e = refl
      map-none (f ∷ fs) zero e = absurd (cc e)
      map-none (f ∷ fs) (suc g) e = map-none fs g e

  counted : (test : First.Plain → Bool) (i g : ℕ) → counts (whole_of code) i g (numbers_of test 0 code.functions) ≡ true → Counted i g test
  counted test i g h = counted-by test i g (slice_get code.functions g) refl h

  source-back : (s : ℕ) (m : Mark) → IsSource (whole_of code) (asked code) s m → Begins s m
  source-back s m (by_call {k = k} to args callee g takes at targets source within) =
      let t = meaning targets in
      let c = call-back code s to args callee at in
      let f = counted First.is_source s g source in
      let same : few.Call t.to g t.args ≡ few.Call to c.0 args = some-same (sym t.is_at ∙ c.2) in
      let to-is : t.to ≡ to = cc same in
      record { source = one-function s g takes t f.function f.is First.is_source f.counted; place = refl; within = subst (λ (z : List ℕ). k < length z) (sym to-is) within }
  source-back s m (by_place e node) = absurd (false≢true e)

  pub record Ends (t k : ℕ) (m : Mark) : Type 0 where
    pub sink : First.Calls code First.is_sink t
    pub place : m.place ≡ t
    pub within : k < length sink.args
    pub index : m.index ≡ length sink.to + k

  argument-back : (t k : ℕ) (m : Mark) → IsArgument (whole_of code) (asked code) t k m → Ends t k m
  argument-back t k m (is_argument kind callee args n g takes at hands targets sink within) =
      let c = hands-on code t kind callee args n at hands in
      let x = meaning targets in
      let f = counted First.is_sink t g sink in
      let same : few.Call x.to g x.args ≡ few.Call c.to c.number args = some-same (sym x.is_at ∙ c.is_at) in
      let to : x.to ≡ c.to = cc same in
      let list : x.args ≡ args = cc same in
      let xs : arguments callee args ≡ args = ap (λ (z : Callee). arguments z args) c.is_callee in
      record {
        sink = one-function t g takes x f.function f.is First.is_sink f.counted;
        place = refl;
        within = subst (λ (z : List ℕ). k < length z) (xs ∙ sym list) within;
        index = ap (λ z. z + k) (c.count ∙ ap length (sym to));
      }

pub flows : FlowsAreFlows
flows code s t k f =
    let a = source-back code s f.start f.source in
    let b = argument-back code t k f.end f.argument in
    let begins : First.Joins code s f.from.index f.from.place f.from.index [] = subst (λ x. First.Joins code x f.from.index f.from.place f.from.index []) (f.is_from.place ∙ a.place) First.stay in
    let j = leads-back code s f.from.index f.joins.leads [] f.joins.calls begins f.joins.realizable in
    let j1 = subst (λ x. First.Joins code s f.from.index x f.to.index f.joins.calls) (f.is_to.place ∙ b.place) j in
    let j2 = subst (λ x. First.Joins code s f.from.index t x f.joins.calls) (f.is_to.index ∙ b.index) j1 in
    record {
      source = a.source;
      result = f.from.index;
      has_result = subst (λ x. x < length a.source.to) (sym f.is_from.index) a.within;
      sink = b.sink;
      has_argument = b.within;
      calls = f.joins.calls;
      joins = j2;
    }
