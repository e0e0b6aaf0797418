-- The whole program of fitting code is well formed.
use Rattle.std.proofs.Common.{◌≡◌, ℕ, zero, suc, ◌+◌, ◌-◌, ◌<◌, ◌≤◌, List, [], ◌∷◌, ◌++◌, Some, length, map, refl, sym, ap, ◌∙◌, subst, arith, add-one, ◌⊎◌, inl, inr}
use Rattle.std.proofs.lemmas.List.{length-map, length-replicate}
use Rattle.std.proofs.lemmas.Option.{slice_get_within}
use Rattle.std.specs.Prelude.{slice_get, replicate}
use Rattle.std.specs.List.{filter_map}
use Rattle.argot_text.specs.declared.path.PathStep.{PathStep}
use Rattle.argot_plain.specs.declared.first.Kind as Few
use Rattle.argot_plain.specs.declared.first.Kind.TheVariants as few
use Rattle.argot_plain.specs.First as First
use Rattle.argot_plain.specs.Lists.{In, here, there, IsDistinct, below}
use Rattle.argot_plain.specs.Code.{IsAt, IsFunction, IsEntry, IsIn, Next, Successor, successor, Hands, by_call, by_go, by_defer, leaves, leaves_in, defined, reads}
use Rattle.argot_plain.specs.WellFormed.{WellFormed, FitsStatic, reference_registers, HasRanges, HasNumbers, HasRegisters, ReadsBehindExit, RunsAtExit, LeavesAtLeave}
use Rattle.argot_plain.specs.declared.functions.Function.{Function}
use Rattle.argot_plain.specs.declared.instructions.Callee.{Callee}
use Rattle.argot_plain.specs.declared.instructions.Callee.TheVariants.{Static}
use Rattle.argot_plain.specs.declared.instructions.Instr.{Instr}
use Rattle.argot_plain.specs.declared.instructions.Kind.{Kind}
use Rattle.argot_plain.specs.declared.instructions.Kind.TheVariants.{Op, Move, Join, New, Step, Read, Write, Grow, Global, Assert, Call, Go, Defer, RunDefers, Leave, Goto, Branch, Panic, Passed}
use Rattle.argot_first_sound.specs.Whole.{one_leaf, whole_kind, whole_instr, whole_function, whole_of, registers_of, ident_of}
use Rattle.argot_first_sound.proofs.Maps.{some-same, map-back, stands, is-few, at-there, function-there, function-back, inside-back}
use Rattle.argot_first_sound.proofs.Fitting.{AreBelow, CallFits, Good, Body, Fitting, chain-within, chain-first, chain-next, chain-last, Covers, chain-cover, chain-apart}

in-get : (x : ℕ) (xs : List ℕ) → In x xs → (k : ℕ) × (slice_get xs k ≡ Some x)
in-get x (y ∷ ys) (here e) = (0, ap Some (sym e))
in-get x (y ∷ ys) (there m) = let k = in-get x ys m in (suc k.0, k.1)
in-get x [] m = elim m [ ]

in-none : (x : ℕ) {B : Type 0} → In x [] → B
in-none x m = elim m [ ]

in-append : (x : ℕ) (xs ys : List ℕ) → In x (xs ++ ys) → In x xs ⊎ In x ys
in-append x [] ys m = inr m
in-append x (z ∷ xs) ys (here e) = inl (here e)
in-append x (z ∷ xs) ys (there m) = in-more (in-append x xs ys m)
  where
    in-more : In x xs ⊎ In x ys → In x (z ∷ xs) ⊎ In x ys
    in-more (inl a) = inl (there a)
    in-more (inr b) = inr b

in-one : (x y : ℕ) → In x (y ∷ []) → x ≡ y
in-one x y (here e) = e
in-one x y (there m) = elim m [ ]

once-by : (xs : List ℕ) → length xs ≤ 1 → IsDistinct xs
once-by [] l a b x h k = absurd (cc h)
once-by (y ∷ []) l zero zero x h k = refl
once-by (y ∷ []) l zero (suc b) x h k = absurd (cc k)
once-by (y ∷ []) l (suc a) b x h k = absurd (cc h)
once-by (y ∷ z ∷ ys) l a b x h k = absurd (omega arith)

leaf-get : (f : First.Plain) (n r : ℕ) → r < n → leaves_in (Some (record (whole_function f) { registers = replicate n one_leaf })) r ≡ one_leaf
leaf-get f zero r h = absurd (omega arith)
leaf-get f (suc n) zero h = refl
leaf-get f (suc n) (suc r) h = leaf-get f n r (omega arith)

leaf-few : (f : First.Plain) (n r : ℕ) → length (leaves_in (Some (record (whole_function f) { registers = replicate n one_leaf })) r) ≤ 4096
leaf-few f zero r = omega arith
leaf-few f (suc n) zero = omega arith
leaf-few f (suc n) (suc r) = leaf-few f n r

leaves-few : (fs : List First.Plain) (g r : ℕ) → length (leaves_in (slice_get (map whole_function fs) g) r) ≤ 4096
leaves-few [] g r = omega arith
leaves-few (f ∷ fs) zero r = leaf-few f (registers_of f) r
leaves-few (f ∷ fs) (suc g) r = leaves-few fs g r

distinct-none : IsDistinct {A = List PathStep} []
distinct-none a b x h k = absurd (cc h)

distinct-one : IsDistinct one_leaf
distinct-one zero zero x h k = refl
distinct-one zero (suc b) x h k = absurd (cc k)
distinct-one (suc a) b x h k = absurd (cc h)

leaf-distinct : (f : First.Plain) (n r : ℕ) → IsDistinct (leaves_in (Some (record (whole_function f) { registers = replicate n one_leaf })) r)
leaf-distinct f zero r = distinct-none
leaf-distinct f (suc n) zero = distinct-one
leaf-distinct f (suc n) (suc r) = leaf-distinct f n r

leaves-distinct : (fs : List First.Plain) (g r : ℕ) → IsDistinct (leaves_in (slice_get (map whole_function fs) g) r)
leaves-distinct [] g r = distinct-none
leaves-distinct (f ∷ fs) zero r = leaf-distinct f (registers_of f) r
leaves-distinct (f ∷ fs) (suc g) r = leaves-distinct fs g r

first-file : (xs : List First.Instr) (i : ℕ) (x : Instr) → slice_get (map whole_instr xs) i ≡ Some x → (x.at.file ≡ 0) × (x.tags ≡ [])
first-file xs i x h = let y = map-back whole_instr xs i x h in (ap (λ (z : Instr). z.at.file) y.2, ap (λ (z : Instr). z.tags) y.2)

kind-within : (xs : List First.Instr) (i : ℕ) (k : Few.Kind) → First.kind_in (slice_get xs i) ≡ Some k → i < length xs
kind-within [] i k h = absurd (cc h)
kind-within (x ∷ xs) zero k h = omega arith
kind-within (x ∷ xs) (suc i) k h = let l = kind-within xs i k h in omega arith

get-there : (xs : List Few.Kind) (j : ℕ) → j < length xs → (k : Few.Kind) × (slice_get xs j ≡ Some k)
get-there [] j h = absurd (omega arith)
get-there (x ∷ xs) zero h = (x, refl)
get-there (x ∷ xs) (suc j) h = get-there xs j (omega arith)

no-references : (code : First.Code) (f : First.Plain) (i : ℕ) (kind : Kind) (r : ℕ) → Good code f i kind → In r (reference_registers kind) → ⊥
no-references code f i (Op to from) r g m = in-none r m
no-references code f i (Move to from path) r g m = in-none r m
no-references code f i (Call to callee args) r g m = in-none r (subst (λ (c : Callee). In r (reference_registers (Call to c args))) g.2 m)
no-references code f i RunDefers r g m = in-none r m
no-references code f i (Leave from) r g m = in-none r m
no-references code f i (Goto target) r g m = in-none r m
no-references code f i (Branch targets) r g m = in-none r m
no-references code f i (Join to parts) r g m = absurd g
no-references code f i (New to site) r g m = absurd g
no-references code f i (Step to from path) r g m = absurd g
no-references code f i (Read to at qs) r g m = absurd g
no-references code f i (Write at from) r g m = absurd g
no-references code f i (Grow to at items) r g m = absurd g
no-references code f i (Global to n) r g m = absurd g
no-references code f i (Assert to from t) r g m = absurd g
no-references code f i (Go callee args) r g m = absurd g
no-references code f i (Defer callee args) r g m = absurd g
no-references code f i (Panic from) r g m = absurd g
no-references code f i (Passed to callee) r g m = absurd g

below-in : (r n : ℕ) (xs : List ℕ) → AreBelow xs n → In r xs → r < n
below-in r n xs b m = let k = in-get r xs m in b k.0 r k.1

below-op : (code : First.Code) (f : First.Plain) (i to : ℕ) (from : List ℕ) (r : ℕ) → to < registers_of f → from ≡ [] → In r (to ∷ from) → r < registers_of f
below-op code f i to from r a e (here x) = subst (λ z. z < registers_of f) (sym x) a
below-op code f i to from r a e (there m) = in-none r (subst (In r) e m)

below-two : (f : First.Plain) (to from r : ℕ) → to < registers_of f → from < registers_of f → In r (to ∷ from ∷ []) → r < registers_of f
below-two f to from r a b (here x) = subst (λ z. z < registers_of f) (sym x) a
below-two f to from r a b (there m) = subst (λ z. z < registers_of f) (sym (in-one r from m)) b

below-call : (f : First.Plain) (to args : List ℕ) (r : ℕ) → AreBelow to (registers_of f) → AreBelow args (registers_of f) → In r to ⊎ In r args → r < registers_of f
below-call f to args r a b (inl m) = below-in r (registers_of f) to a m
below-call f to args r a b (inr m) = below-in r (registers_of f) args b m

registers-below : (code : First.Code) (f : First.Plain) (i : ℕ) (kind : Kind) (r : ℕ) → Good code f i kind → In r (defined kind ++ reads kind) → r < registers_of f
registers-below code f i (Op to from) r g m = below-op code f i to from r g.1 g.2 m
registers-below code f i (Move to from path) r g m = below-two f to from r g.1 g.2 m
registers-below code f i (Call to callee args) r g m = below-call f to args r g.3.to_below g.3.args_below (in-append r to args (subst (λ (c : Callee). In r (to ++ reads (Call to c args))) g.2 m))
registers-below code f i RunDefers r g m = in-none r m
registers-below code f i (Leave from) r g m = below-in r (registers_of f) from g.2 m
registers-below code f i (Goto target) r g m = in-none r m
registers-below code f i (Branch targets) r g m = in-none r m
registers-below code f i (Join to parts) r g m = absurd g
registers-below code f i (New to site) r g m = absurd g
registers-below code f i (Step to from path) r g m = absurd g
registers-below code f i (Read to at qs) r g m = absurd g
registers-below code f i (Write at from) r g m = absurd g
registers-below code f i (Grow to at items) r g m = absurd g
registers-below code f i (Global to n) r g m = absurd g
registers-below code f i (Assert to from t) r g m = absurd g
registers-below code f i (Go callee args) r g m = absurd g
registers-below code f i (Defer callee args) r g m = absurd g
registers-below code f i (Panic from) r g m = absurd g
registers-below code f i (Passed to callee) r g m = absurd g

-- where a place goes on: to the next one, which is not behind the last
next-one : (code : First.Code) (f : First.Plain) (i j : ℕ) (kind : Kind) → f.leave ≡ f.exit + 1 → Good code f i kind → Next kind i j → (j ≡ i + 1) × (i < f.leave)
next-one code f i j (Op to from) l g n = let x = g.0 in (n, omega arith)
next-one code f i j (Move to from path) l g n = let x = g.0 in (n, omega arith)
next-one code f i j (Call to callee args) l g n = let x = g.0 in (n, omega arith)
next-one code f i j RunDefers l g n = (n, omega arith)
next-one code f i j (Leave from) l g n = absurd n
next-one code f i j (Goto target) l g n = let x = g.0 in (n.0 ∙ g.1, omega arith)
next-one code f i j (Branch targets) l g n = let x = g.0 in (branch-one n.0 (subst (λ (z : List ℕ). slice_get z n.0 ≡ Some j) g.1 n.1), omega arith)
  where
    branch-one : (k : ℕ) → slice_get ((i + 1) ∷ []) k ≡ Some j → j ≡ i + 1
    branch-one zero h = sym (some-same h)
    branch-one (suc k) h = absurd (cc h)
next-one code f i j (Join to parts) l g n = absurd g
next-one code f i j (New to site) l g n = absurd g
next-one code f i j (Step to from path) l g n = absurd g
next-one code f i j (Read to at qs) l g n = absurd g
next-one code f i j (Write at from) l g n = absurd g
next-one code f i j (Grow to at items) l g n = absurd g
next-one code f i j (Global to m) l g n = absurd g
next-one code f i j (Assert to from t) l g n = absurd g
next-one code f i j (Go callee args) l g n = absurd g
next-one code f i j (Defer callee args) l g n = absurd g
next-one code f i j (Panic from) l g n = absurd g
next-one code f i j (Passed to callee) l g n = absurd g

module _ (code : First.Code) (ok : Fitting code) where
  places : length (whole_of code).instrs ≡ length code.instrs
  places = length-map code.instrs whole_instr

  counted : length (whole_of code).functions ≡ length code.functions
  counted = length-map code.functions whole_function

  -- a place of a function
  at-place : (f : First.Plain) → Body code f → (i : ℕ) (kind : Kind) → First.IsIn i f → IsAt (whole_of code) i kind → Good code f i kind
  at-place f b i kind inside at =
      let low = inside.0 in let high = inside.1 in let size = b.size in
      let s = stands code i kind at in
      let j : f.entry + (i - f.entry) ≡ i = omega arith in
      let k = get-there b.kinds (i - f.entry) (omega arith) in
      let same : k.0 ≡ s.kind_there = some-same (sym (ap (First.kind_at code) (sym j) ∙ b.stands (i - f.entry) k.0 k.1) ∙ s.is_at) in
      subst (Good code f i) (ap whole_kind same ∙ sym s.is) (subst (λ z. Good code f z (whole_kind k.0)) j (b.each (i - f.entry) k.0 k.1))

  pub record Here (i g : ℕ) (kind : Kind) : Type 0 where
    pub function : First.Plain
    pub is : First.IsFunction code g function
    pub inside : First.IsIn i function
    pub body : Body code function
    pub good : Good code function i kind

  pub good-at : (i g : ℕ) (kind : Kind) → IsIn (whole_of code) i g → IsAt (whole_of code) i kind → Here i g kind
  good-at i g kind inside at =
      let f = inside-back code i g inside in
      let b = ok.bodies g f.0 f.1 in
      record { function = f.0; is = f.1; inside = f.2; body = b; good = at-place f.0 b i kind f.2 at }

  covered : (i : ℕ) (kind : Kind) → IsAt (whole_of code) i kind → Covers code.functions i
  covered i kind at = let s = stands code i kind at in chain-cover 0 (length code.instrs) code.functions i ok.chain (omega arith) (kind-within code.instrs i s.kind_there s.is_at)

  pub inside-there : (i g : ℕ) (f : First.Plain) → First.IsFunction code g f → First.IsIn i f → IsIn (whole_of code) i g
  inside-there i g f is inside = record { fn = whole_function f; is = function-there code g f is; low = inside.0; high = inside.1 }

  pub good-somewhere : (i : ℕ) (kind : Kind) → IsAt (whole_of code) i kind → (g : ℕ) × Here i g kind
  good-somewhere i kind at = let c = covered i kind at in (c.number, good-at i c.number kind (inside-there i c.number c.function c.is c.inside) at)

  pub leaves-at : (g r : ℕ) (f : First.Plain) → First.IsFunction code g f → r < registers_of f → leaves (whole_of code) g r ≡ one_leaf
  leaves-at g r f is h = ap (λ o. leaves_in o r) (function-there code g f is) ∙ leaf-get f (registers_of f) r h

  -- a function of the whole program is one of the code
  same-function : (g : ℕ) (f : First.Plain) (fn : Function) → First.IsFunction code g f → IsFunction (whole_of code) g fn → fn ≡ whole_function f
  same-function g f fn is h = some-same (sym h ∙ function-there code g f is)

  ranges : HasRanges (whole_of code)
  ranges = record {
    inside = λ g fn h.
        let f = function-back code g fn h in
        let b = ok.bodies g f.0 f.1 in
        let c = chain-within 0 (length code.instrs) code.functions g f.0 ok.chain f.1 in
        let c2 = c.2 in let x = b.low in let y = b.high in let z = places in
        let x1 : f.0.entry ≤ f.0.exit = omega arith in
        let x2 : f.0.exit ≤ f.0.leave = omega arith in
        let x3 : f.0.leave < length (whole_of code).instrs = omega arith in
        subst (λ (x : Function). (x.entry ≤ x.exit) × (x.exit ≤ x.leave) × (x.leave < length (whole_of code).instrs)) (sym f.2) (x1, x2, x3);
    first = λ fn h. let f = function-back code 0 fn h in ap (λ (x : Function). x.entry) f.2 ∙ chain-first 0 (length code.instrs) code.functions f.0 ok.chain f.1;
    next = λ g fn after h k.
        let f = function-back code g fn h in
        let a = function-back code (g + 1) after k in
        ap (λ (x : Function). x.entry) a.2 ∙ (chain-next 0 (length code.instrs) code.functions g f.0 a.0 ok.chain f.1 (sym (ap (slice_get code.functions) (add-one g)) ∙ a.1) ∙ ap (λ (x : Function). x.leave + 1) (sym f.2));
    last = λ g fn h l.
        let f = function-back code g fn h in
        let z = counted in
        ap (λ (x : Function). x.leave + 1) f.2 ∙ (chain-last 0 (length code.instrs) code.functions g f.0 ok.chain f.1 (omega arith) ∙ sym places);
  }

  no-external : (g : ℕ) (fn : Function) {B : Type 0} (flows : _) → IsFunction (whole_of code) g fn → fn.external ≡ Some flows → B
  no-external g fn flows h e = let f = function-back code g fn h in let x = sym (ap (λ (y : Function). y.external) f.2) ∙ e in absurd (cc x)

  static-good : (f : First.Plain) (i : ℕ) (to args : List ℕ) (callee : Callee) → Good code f i (Call to callee args) → (h : ℕ) → callee ≡ Static h → CallFits code f to h args
  static-good f i to args callee g h e = let x : g.1 ≡ h = (let y = sym g.2 ∙ e in cc y) in subst (λ z. CallFits code f to z args) x g.3

  static-fits : (i g h n : ℕ) (kind : Kind) (args : List ℕ) → IsIn (whole_of code) i g → IsAt (whole_of code) i kind → Hands kind (Static h) args n → FitsStatic (whole_of code) g h kind args
  static-fits i g h n kind args inside at (by_call {to = to}) =
      let here = good-at i g (Call to (Static h) args) inside at in
      let c = static-good here.function i to args (Static h) here.good h refl in
      let b = ok.bodies h c.callee c.is in
      let low = b.low in let high = b.high in
      record {
        fn = whole_function c.callee;
        is = function-there code h c.callee c.is;
        count = c.count;
        params = λ k r q. let w = slice_get_within args k r q in let count = c.count in leaves-at g r here.function here.is (c.args_below k r q) ∙ sym (leaves-at h k c.callee c.is (omega arith));
        no_env = refl;
        results = λ to2 callee e. let x : to ≡ to2 = cc e in ap length (sym x) ∙ c.results;
        result_leaves = λ to2 from callee k r s e none left a z.
            let x : to ≡ to2 = cc e in
            let last : First.IsIn c.callee.leave c.callee = (omega arith, omega arith) in
            let good = at-place c.callee b c.callee.leave (Leave from) last left in
            leaves-at g r here.function here.is (c.to_below k r (subst (λ (y : List ℕ). slice_get y k ≡ Some r) (sym x) a)) ∙ sym (leaves-at h s c.callee c.is (good.2 k s z));
      }
  static-fits i g h n kind args inside at by_go = absurd (is-few code i (Go (Static h) args) at)
  static-fits i g h n kind args inside at by_defer = absurd (is-few code i (Defer (Static h) args) at)

  callee-there : (i h n : ℕ) (kind : Kind) (args : List ℕ) → IsAt (whole_of code) i kind → Hands kind (Static h) args n → h < length (whole_of code).functions
  callee-there i h n kind args at (by_call {to = to}) =
      let x = good-somewhere i (Call to (Static h) args) at in
      let c = static-good x.1.function i to args (Static h) x.1.good h refl in
      slice_get_within (whole_of code).functions h (whole_function c.callee) (function-there code h c.callee c.is)
  callee-there i h n kind args at by_go = absurd (is-few code i (Go (Static h) args) at)
  callee-there i h n kind args at by_defer = absurd (is-few code i (Defer (Static h) args) at)

  goes-one : (i j : ℕ) → Successor (whole_of code) i j → (f : First.Plain) (g : ℕ) → First.IsFunction code g f → First.IsIn i f → (j ≡ i + 1) × (i < f.leave)
  goes-one i j (successor kind at next) f g is inside =
      let b = ok.bodies g f is in next-one code f i j kind b.high (at-place f b i kind inside at) next

  successor-covered : (i j : ℕ) → Successor (whole_of code) i j → Covers code.functions i
  successor-covered i j (successor kind at next) = covered i kind at

  no-entry : (i j g : ℕ) → Successor (whole_of code) i j → IsEntry (whole_of code) j g → ⊥
  no-entry i j g s e =
      let c = successor-covered i j s in
      let x = goes-one i j s c.function c.number c.is c.inside in
      let f = function-back code g e.fn e.is in
      let at : j ≡ f.0.entry = e.at ∙ ap (λ (y : Function). y.entry) f.2 in
      let j-is = x.0 in let high = x.1 in let low = c.inside.0 in
      chain-apart 0 (length code.instrs) code.functions c.number g c.function f.0 ok.chain c.is f.1 (omega arith) (omega arith)

  stays-in : (i j g : ℕ) → Successor (whole_of code) i j → IsIn (whole_of code) i g → IsIn (whole_of code) j g
  stays-in i j g s inside =
      let f = inside-back code i g inside in
      let x = goes-one i j s f.0 g f.1 f.2 in
      let j-is = x.0 in let high = x.1 in let low = f.2.0 in
      inside-there j g f.0 f.1 (omega arith, omega arith)

  -- a function's own record is that of the place
  same-plain : (g : ℕ) (f : First.Plain) (fn : Function) → First.IsFunction code g f → IsFunction (whole_of code) g fn → whole_function f ≡ fn
  same-plain g f fn is h = sym (same-function g f fn is h)

  runs : RunsAtExit (whole_of code)
  runs = record {
    stands = λ g fn h none. let f = function-back code g fn h in let b = ok.bodies g f.0 f.1 in subst (λ (x : Function). IsAt (whole_of code) x.exit RunDefers) (sym f.2) (at-there code f.0.exit few.RunDefers b.defers);
    alone = λ i g fn at inside h. let x = good-at i g RunDefers inside at in x.good ∙ ap (λ (y : Function). y.exit) (same-plain g x.function fn x.is h);
  }

  leaves-last : LeavesAtLeave (whole_of code)
  leaves-last = record {
    stands = λ g fn h none. let f = function-back code g fn h in let b = ok.bodies g f.0 f.1 in (b.leaves.0, subst (λ (x : Function). IsAt (whole_of code) x.leave (Leave b.leaves.0)) (sym f.2) (at-there code f.0.leave (few.Leave b.leaves.0) b.leaves.1));
    alone = λ i g from fn at inside h. let x = good-at i g (Leave from) inside at in x.good.0 ∙ ap (λ (y : Function). y.leave) (same-plain g x.function fn x.is h);
  }

  behind : ReadsBehindExit (whole_of code)
  behind = record {
    reads = λ i g fn h low high. let f = function-back code g fn h in let b = ok.bodies g f.0 f.1 in let e = ap (λ (y : Function). y.exit) f.2 in let l = ap (λ (y : Function). y.leave) f.2 in let z = b.high in absurd (omega arith);
    goto = λ i g target fn h inside at. let x = good-at i g (Goto target) inside at in let e = ap (λ (y : Function). y.exit) (same-plain g x.function fn x.is h) in let a = x.good.0 in let t = x.good.1 in omega arith;
    branch = λ i g target targets fn h inside at m. let x = good-at i g (Branch targets) inside at in let e = ap (λ (y : Function). y.exit) (same-plain g x.function fn x.is h) in let a = x.good.0 in let t = in-one target (i + 1) (subst (In target) x.good.1 m) in omega arith;
  }

  length-registers : (f : First.Plain) → length (whole_function f).registers ≡ registers_of f
  length-registers f = length-replicate (registers_of f) one_leaf

  has-registers : HasRegisters (whole_of code)
  has-registers = record {
    there = λ i g r kind fn h inside at m. let x = good-at i g kind inside at in let l = registers-below code x.function i kind r x.good m in
        subst (λ (y : Function). r < length y.registers) (same-plain g x.function fn x.is h) (subst (λ z. r < z) (sym (length-registers x.function)) l);
    params = λ g fn h. let f = function-back code g fn h in
        let l : f.0.params ≤ registers_of f.0 = omega arith in
        subst (λ (y : Function). y.params ≤ length y.registers) (sym f.2) (subst (λ z. f.0.params ≤ z) (sym (length-registers f.0)) l);
    once = λ i to args callee at. let x = good-somewhere i (Call to callee args) at in once-by to x.1.good.3.few_results;
    distinct = λ g r. leaves-distinct code.functions g r;
  }

  moved : (i g to from : ℕ) (path : List PathStep) → IsIn (whole_of code) i g → IsAt (whole_of code) i (Move to from path) → leaves (whole_of code) g to ≡ filter_map (below path) (leaves (whole_of code) g from)
  moved i g to from path inside at =
      let x = good-at i g (Move to from path) inside at in
      leaves-at g to x.function x.is x.good.1 ∙ (ap (λ (q : List PathStep). filter_map (below q) one_leaf) (sym x.good.3) ∙ ap (λ (ls : List (List PathStep)). filter_map (below path) ls) (sym (leaves-at g from x.function x.is x.good.2)))

  no-site : {A B : Type 0} (n : ℕ) (x : A) → slice_get [] n ≡ Some x → B
  no-site n x h = absurd (cc h)

  numbers : HasNumbers (whole_of code)
  numbers = record {
    callee = λ i h n kind args at hands. callee-there i h n kind args at hands;
    passed = λ i to h at. absurd (is-few code i (Passed to h) at);
    global = λ i to k at. absurd (is-few code i (Global to k) at);
    new = λ i to s at. absurd (is-few code i (New to s) at);
    place = λ n site h. no-site n site h;
    function = λ n h site is e. no-site n site is;
    instr_file = λ i x h. let f = (first-file code.instrs i x h).0 in omega arith;
    function_file = λ g fn h. let f = function-back code g fn h in let e = ap (λ (y : Function). y.at.file) f.2 in omega arith;
    global_file = λ k s ident at h. absurd (cc h);
  }

  pub well : WellFormed (whole_of code)
  well = record {
    ranges = ranges;
    entry_function = record { fn = whole_function ok.first; is = function-there code 0 ok.first ok.is_first; body = refl; params = ok.no_params; results = ok.no_results; own = refl; nameless = ap ident_of ok.nameless };
    externals = λ g flows fn h e. no-external g fn flows h e;
    bodies = λ g fn h none. let f = function-back code g fn h in let b = ok.bodies g f.0 f.1 in let low = b.low in let high = b.high in let x : f.0.exit < f.0.leave = omega arith in subst (λ (y : Function). (y.entry < y.exit) × (y.exit < y.leave)) (sym f.2) (low, x);
    entry_goto = λ g fn h none. let f = function-back code g fn h in let b = ok.bodies g f.0 f.1 in subst (λ (y : Function). IsAt (whole_of code) y.entry (Goto (y.entry + 1))) (sym f.2) (at-there code f.0.entry (few.Goto (f.0.entry + 1)) b.first);
    no_entry = no-entry;
    stays = stays-in;
    runs_at_exit = runs;
    leaves_at_leave = leaves-last;
    reads_behind_exit = behind;
    registers = has-registers;
    references = record {
      each = λ i g r kind inside at m. let x = good-at i g kind inside at in absurd (no-references code x.function i kind r x.good m);
      param = λ g fn h e. let f = function-back code g fn h in let x = sym (ap (λ (y : Function). y.has_env) f.2) ∙ e in absurd (cc x);
    };
    op_leaf = λ i g to from inside at. let x = good-at i g (Op to from) inside at in leaves-at g to x.function x.is x.good.1;
    move_leaves = moved;
    join_leaves = λ i g to r parts path q inside at. absurd (is-few code i (Join to parts) at);
    read_leaves = λ i g to at qs inside is. absurd (is-few code i (Read to at qs) is);
    grow_leaves = λ i g n to at r items site inside is. absurd (is-few code i (Grow to at items) is);
    static_fits = static-fits;
    leave_count = λ i g from fn h inside at. let x = good-at i g (Leave from) inside at in x.good.1 ∙ ap (λ (y : Function). y.results) (same-plain g x.function fn x.is h);
    global_sites = record { site = λ k ident at s h. absurd (cc h); is = λ k l. absurd (omega arith) };
    new_site = λ i to s at. absurd (is-few code i (New to s) at);
    grow_site = λ i to at items is. absurd (is-few code i (Grow to at items) is);
    call_sites = λ i g n to args callee site inside at sited. let e = sited.is in no-site n site e;
    no_other_site = record { makes = λ n site h l. no-site n site h; order = λ n a b h k l. no-site n a h };
    site_function = λ n h site is e. no-site n site is;
    site_shape = λ n site h. no-site n site h;
    one_wrapper = record { one = λ type a b name m. elim m [ ]; is = λ type h name m. elim m [ ] };
    wraps = λ g h fn is e. let f = function-back code g fn is in let x = sym (ap (λ (y : Function). y.wraps) f.2) ∙ e in absurd (cc x);
    environments = record {
      bound = λ g fn h e. let f = function-back code g fn h in let x = sym (ap (λ (y : Function). y.role) f.2) ∙ e in absurd (cc x);
      wrapper = λ g fn h e. let f = function-back code g fn h in ap (λ (y : Function). y.has_env) f.2;
      declared = λ g fn ident h e. let f = function-back code g fn h in ap (λ (y : Function). y.has_env) f.2;
    };
    identified = λ g fn ident h e. let f = function-back code g fn h in ap (λ (y : Function). y.role) f.2;
    numbers = numbers;
    tagged = λ i x h ne. absurd (ne (first-file code.instrs i x h).1);
    limits = record {
      functions = (let a = counted in let b = ok.few_functions in omega arith);
      instrs = (let a = places in let b = ok.few_places in omega arith);
      leaves = λ g r. leaves-few code.functions g r;
      shapes = λ n site h none. no-site n site h;
    };
  }
