-- What the computed list of flows has, and its order.
use Rattle.std.proofs.Common.{◌≡◌, ℕ, zero, suc, ◌+◌, ◌<◌, List, [], ◌∷◌, ◌++◌, Some, Bool, true, false, length, refl, sym, ap, ◌∙◌, subst, arith, add-zero, zero-add, ◌⊎◌, inl, inr}
use Rattle.std.specs.Prelude.{slice_get, if◌then◌else◌}
use Rattle.argot_first_form.specs.declared.functions.Function.{Function}
use Rattle.argot_plain.specs.declared.first.Kind.{Kind}
use Rattle.argot_first.specs.declared.found.Flow.{Flow}
use Rattle.argot_first.specs.Answer.{IsBefore, by_source, by_sink, by_argument}
use Rattle.argot_first.specs.Marks.{marked, calls_named, named_sink, named_source, argument_flows, arguments_of, step_flows, flows_from, source_flows, all_flows, marks_after, no_marks}
use Rattle.argot_first.proofs.Lookup.{some-same, get-left, get-right, get-either}
use Rattle.argot_first.proofs.Before.{upto, upto-none}

abbrev pub flow : ℕ → ℕ → ℕ → Flow
flow s t k = record { source = s; sink = t; argument = k }

-- the flow stands in the list
abbrev pub Has : List Flow → Flow → Type 0
Has xs f = (n : ℕ) × (slice_get xs n ≡ Some f)

has-left : (xs ys : List Flow) (f : Flow) → Has xs f → Has (xs ++ ys) f
has-left xs ys f h = (h.0, get-left xs ys h.0 f h.1)

has-right : (xs ys : List Flow) (f : Flow) → Has ys f → Has (xs ++ ys) f
has-right xs ys f h = (length xs + h.0, get-right xs ys h.0 ∙ h.1)

has-by : (xs ys : List Flow) (f : Flow) (n : ℕ) → (slice_get xs n ≡ Some f) ⊎ ((j : ℕ) × (n ≡ length xs + j) × (slice_get ys j ≡ Some f)) → Has xs f ⊎ Has ys f
has-by xs ys f n (inl h) = inl (n, h)
has-by xs ys f n (inr h) = inr (h.0, h.2)

has-either : (xs ys : List Flow) (f : Flow) → Has (xs ++ ys) f → Has xs f ⊎ Has ys f
has-either xs ys f h = has-by xs ys f h.0 (get-either xs ys h.0 f h.1)

-- each stands before all behind it
abbrev pub Chain : List Flow → Type 0
Chain [] = Unit {0}
Chain (x ∷ xs) = ((y : Flow) → Has xs y → IsBefore x y) × Chain xs

chain-first : (x : Flow) (xs ys : List Flow) → Chain (x ∷ xs) → ((z y : Flow) → Has (x ∷ xs) z → Has ys y → IsBefore z y) → (y : Flow) → Has xs y ⊎ Has ys y → IsBefore x y
chain-first x xs ys a h y (inl p) = a.0 y p
chain-first x xs ys a h y (inr p) = h x y (0, refl) p

chain-append : (xs ys : List Flow) → Chain xs → Chain ys → ((x y : Flow) → Has xs x → Has ys y → IsBefore x y) → Chain (xs ++ ys)
chain-append [] ys a b h = b
chain-append (x ∷ xs) ys a b h = (λ y p. chain-first x xs ys a h y (has-either xs ys y p), chain-append xs ys a.1 b (λ z y p q. h z y (suc p.0, p.1) q))

pub chain-next : (xs : List Flow) → Chain xs → (i : ℕ) (a b : Flow) → slice_get xs i ≡ Some a → slice_get xs (suc i) ≡ Some b → IsBefore a b
chain-next [] c i a b h k = absurd (cc h)
chain-next (x ∷ xs) c zero a b h k = subst (λ y. IsBefore y b) (some-same h) (c.0 b (0, k))
chain-next (x ∷ xs) c (suc i) a b h k = chain-next xs c.1 i a b h k

-- the arguments that have the data
pub record Argument (m : List Bool) (k : ℕ) (rs : List ℕ) (source sink : ℕ) (f : Flow) : Type 0 where
  pub index : ℕ
  pub register : ℕ
  pub is_argument : slice_get rs index ≡ Some register
  pub is_marked : marked m register ≡ true
  pub is_flow : f ≡ flow source sink (k + index)

one-flow : (b : Bool) (x f : Flow) → Has (if b then x ∷ [] else []) f → (b ≡ true) × (f ≡ x)
one-flow true x f (zero, h) = (refl, sym (some-same h))
one-flow true x f (suc n, h) = absurd (cc h)
one-flow false x f h = absurd (cc h.1)

next-argument : (m : List Bool) (k r : ℕ) (rs : List ℕ) (source sink : ℕ) (f : Flow) → Argument m (k + 1) rs source sink f → Argument m k (r ∷ rs) source sink f
next-argument m k r rs source sink f a = record { index = suc a.index; register = a.register; is_argument = a.is_argument; is_marked = a.is_marked; is_flow = a.is_flow ∙ ap (flow source sink) (omega arith) }

arguments-by : (m : List Bool) (k r : ℕ) (rs : List ℕ) (source sink : ℕ) (f : Flow) → ((f : Flow) → Has (argument_flows source sink m (k + 1) rs) f → Argument m (k + 1) rs source sink f) → Has (if marked m r then flow source sink k ∷ [] else []) f ⊎ Has (argument_flows source sink m (k + 1) rs) f → Argument m k (r ∷ rs) source sink f
arguments-by m k r rs source sink f rec (inl h) =
    let q = one-flow (marked m r) (flow source sink k) f h in
    record { index = 0; register = r; is_argument = refl; is_marked = q.0; is_flow = q.1 ∙ ap (flow source sink) (sym (add-zero k)) }
arguments-by m k r rs source sink f rec (inr h) = next-argument m k r rs source sink f (rec f h)

pub arguments-sound : (m : List Bool) (k : ℕ) (rs : List ℕ) (source sink : ℕ) (f : Flow) → Has (argument_flows source sink m k rs) f → Argument m k rs source sink f
arguments-sound m k [] source sink f h = absurd (cc h.1)
arguments-sound m k (r ∷ rs) source sink f h =
    arguments-by m k r rs source sink f (λ g q. arguments-sound m (k + 1) rs source sink g q) (has-either (if marked m r then flow source sink k ∷ [] else []) (argument_flows source sink m (k + 1) rs) f h)

pub arguments-complete : (m : List Bool) (k : ℕ) (rs : List ℕ) (source sink j r : ℕ) → slice_get rs j ≡ Some r → marked m r ≡ true → Has (argument_flows source sink m k rs) (flow source sink (k + j))
arguments-complete m k [] source sink j r h e = absurd (cc h)
arguments-complete m k (x ∷ rs) source sink zero r h e =
    let q : marked m x ≡ true = ap (marked m) (some-same h) ∙ e in
    rw (q, add-zero) (0, refl)
arguments-complete m k (x ∷ rs) source sink (suc j) r h e =
    let n : k + suc j ≡ k + 1 + j = omega arith in
    rw n (has-right (if marked m x then flow source sink k ∷ [] else []) (argument_flows source sink m (k + 1) rs) (flow source sink (k + 1 + j)) (arguments-complete m (k + 1) rs source sink j r h e))

one-chain : (b : Bool) (x : Flow) → Chain (if b then x ∷ [] else [])
one-chain true x = (λ y h. absurd (cc h.1), tt)
one-chain false x = tt

argument-before : (s t a b : ℕ) (f g : Flow) → f ≡ flow s t a → g ≡ flow s t b → a < b → IsBefore f g
argument-before s t a b f g e h w =
    let x : f.source ≡ g.source = ap (λ y. y.source) e ∙ sym (ap (λ y. y.source) h) in
    let y : f.sink ≡ g.sink = ap (λ z. z.sink) e ∙ sym (ap (λ z. z.sink) h) in
    by_argument x y (omega (arith, ap (λ z. z.argument) e, ap (λ z. z.argument) h))

pub arguments-chain : (m : List Bool) (k : ℕ) (rs : List ℕ) (source sink : ℕ) → Chain (argument_flows source sink m k rs)
arguments-chain m k [] source sink = tt
arguments-chain m k (r ∷ rs) source sink =
    chain-append (if marked m r then flow source sink k ∷ [] else []) (argument_flows source sink m (k + 1) rs) (one-chain (marked m r) (flow source sink k)) (arguments-chain m (k + 1) rs source sink)
    (λ x y p q. let a = arguments-sound m (k + 1) rs source sink y q in argument-before source sink k (k + 1 + a.index) x y (one-flow (marked m r) (flow source sink k) x p).1 a.is_flow (omega arith))

-- the steps that call sinks with the data
pub record Sunk (functions : List Function) (base s n : ℕ) (m : List Bool) (kinds : List Kind) (f : Flow) : Type 0 where
  pub step : ℕ
  pub kind : Kind
  pub index : ℕ
  pub register : ℕ
  pub is_step : slice_get kinds step ≡ Some kind
  pub is_sink : calls_named named_sink functions kind ≡ true
  pub is_argument : slice_get (arguments_of kind) index ≡ Some register
  pub is_marked : marked (upto functions s n m kinds step) register ≡ true
  pub is_flow : f ≡ flow (base + s) (base + (n + step)) index

next-sunk : (functions : List Function) (base s n : ℕ) (m : List Bool) (k : Kind) (ks : List Kind) (f : Flow) → Sunk functions base s (n + 1) (marks_after functions s n m k) ks f → Sunk functions base s n m (k ∷ ks) f
unfolding upto
next-sunk functions base s n m k ks f a = record { step = suc a.step; kind = a.kind; index = a.index; register = a.register; is_step = a.is_step; is_sink = a.is_sink; is_argument = a.is_argument; is_marked = a.is_marked; is_flow = a.is_flow ∙ ap (λ y. flow (base + s) (base + y) a.index) (omega arith) }

step-by : (functions : List Function) (source sink : ℕ) (m : List Bool) (kind : Kind) (b : Bool) (f : Flow) → calls_named named_sink functions kind ≡ b → Has (if b then argument_flows source sink m 0 (arguments_of kind) else []) f → (calls_named named_sink functions kind ≡ true) × Argument m 0 (arguments_of kind) source sink f
step-by functions source sink m kind true f e h = (e, arguments-sound m 0 (arguments_of kind) source sink f h)
step-by functions source sink m kind false f e h = absurd (cc h.1)

first-sunk : (functions : List Function) (base s n : ℕ) (m : List Bool) (k : Kind) (ks : List Kind) (f : Flow) → Has (step_flows functions (base + s) (base + n) m k) f → Sunk functions base s n m (k ∷ ks) f
first-sunk functions base s n m k ks f h =
    let q = step-by functions (base + s) (base + n) m k _ f refl h in
    let a = q.1 in
    record { step = 0; kind = k; index = a.index; register = a.register; is_step = refl; is_sink = q.0; is_argument = a.is_argument; is_marked = ap (λ y. marked y a.register) (upto-none functions s n m (k ∷ ks)) ∙ a.is_marked; is_flow = a.is_flow ∙ (ap (flow (base + s) (base + n)) (zero-add a.index) ∙ ap (λ y. flow (base + s) (base + y) a.index) (sym (add-zero n))) }

sunk-by : (functions : List Function) (base s n : ℕ) (m : List Bool) (k : Kind) (ks : List Kind) (f : Flow) → ((g : Flow) → Has (flows_from functions base s (n + 1) (marks_after functions s n m k) ks) g → Sunk functions base s (n + 1) (marks_after functions s n m k) ks g) → Has (step_flows functions (base + s) (base + n) m k) f ⊎ Has (flows_from functions base s (n + 1) (marks_after functions s n m k) ks) f → Sunk functions base s n m (k ∷ ks) f
sunk-by functions base s n m k ks f rec (inl h) = first-sunk functions base s n m k ks f h
sunk-by functions base s n m k ks f rec (inr h) = next-sunk functions base s n m k ks f (rec f h)

pub from-sound : (functions : List Function) (base s n : ℕ) (m : List Bool) (kinds : List Kind) (f : Flow) → Has (flows_from functions base s n m kinds) f → Sunk functions base s n m kinds f
unfolding flows_from
from-sound functions base s n m [] f h = absurd (cc h.1)
from-sound functions base s n m (k ∷ ks) f h =
    sunk-by functions base s n m k ks f (λ g q. from-sound functions base s (n + 1) (marks_after functions s n m k) ks g q) (has-either (step_flows functions (base + s) (base + n) m k) (flows_from functions base s (n + 1) (marks_after functions s n m k) ks) f h)

pub from-complete : (functions : List Function) (base s n : ℕ) (m : List Bool) (kinds : List Kind) (i : ℕ) (kind : Kind) (k r : ℕ) → slice_get kinds i ≡ Some kind → calls_named named_sink functions kind ≡ true → slice_get (arguments_of kind) k ≡ Some r → marked (upto functions s n m kinds i) r ≡ true → Has (flows_from functions base s n m kinds) (flow (base + s) (base + (n + i)) k)
unfolding flows_from upto
from-complete functions base s n m [] i kind k r h c a e = absurd (cc h)
from-complete functions base s n m (x ∷ xs) zero kind k r h c a e =
    let q : x ≡ kind = some-same h in
    let here : Has (argument_flows (base + s) (base + n) m 0 (arguments_of x)) (flow (base + s) (base + n) (0 + k)) = arguments-complete m 0 (arguments_of x) (base + s) (base + n) k r (ap (λ y. slice_get (arguments_of y) k) q ∙ a) e in
    let step : Has (step_flows functions (base + s) (base + n) m x) (flow (base + s) (base + n) (0 + k)) = rw (ap (calls_named named_sink functions) q ∙ c) here in
    rw add-zero (has-left (step_flows functions (base + s) (base + n) m x) _ (flow (base + s) (base + n) k) (subst (λ y. Has (step_flows functions (base + s) (base + n) m x) (flow (base + s) (base + n) y)) (zero-add k) step))
from-complete functions base s n m (x ∷ xs) (suc i) kind k r h c a e =
    let w : n + suc i ≡ n + 1 + i = omega arith in
    rw w (has-right (step_flows functions (base + s) (base + n) m x) _ (flow (base + s) (base + (n + 1 + i)) k) (from-complete functions base s (n + 1) (marks_after functions s n m x) xs i kind k r h c a e))

sink-before : (s a b k l : ℕ) (f g : Flow) → f ≡ flow s a k → g ≡ flow s b l → a < b → IsBefore f g
sink-before s a b k l f g e h w =
    by_sink (ap (λ y. y.source) e ∙ sym (ap (λ y. y.source) h)) (omega (arith, ap (λ z. z.sink) e, ap (λ z. z.sink) h))

source-before : (a b t u k l : ℕ) (f g : Flow) → f ≡ flow a t k → g ≡ flow b u l → a < b → IsBefore f g
source-before a b t u k l f g e h w = by_source (omega (arith, ap (λ z. z.source) e, ap (λ z. z.source) h))

step-chain : (b : Bool) (m : List Bool) (rs : List ℕ) (source sink : ℕ) → Chain (if b then argument_flows source sink m 0 rs else [])
step-chain true m rs source sink = arguments-chain m 0 rs source sink
step-chain false m rs source sink = tt

pub from-chain : (functions : List Function) (base s n : ℕ) (m : List Bool) (kinds : List Kind) → Chain (flows_from functions base s n m kinds)
unfolding flows_from
from-chain functions base s n m [] = tt
from-chain functions base s n m (k ∷ ks) =
    chain-append (step_flows functions (base + s) (base + n) m k) (flows_from functions base s (n + 1) (marks_after functions s n m k) ks) (step-chain (calls_named named_sink functions k) m (arguments_of k) (base + s) (base + n)) (from-chain functions base s (n + 1) (marks_after functions s n m k) ks)
    (λ x y p q.
    let a = (step-by functions (base + s) (base + n) m k _ x refl p).1 in
    let b = from-sound functions base s (n + 1) (marks_after functions s n m k) ks y q in
    sink-before (base + s) (base + n) (base + (n + 1 + b.step)) (0 + a.index) b.index x y a.is_flow b.is_flow (omega arith))

-- the sources whose data arrives
pub record Sourced (functions : List Function) (base s : ℕ) (all kinds : List Kind) (f : Flow) : Type 0 where
  pub step : ℕ
  pub kind : Kind
  pub is_step : slice_get kinds step ≡ Some kind
  pub is_source : calls_named named_source functions kind ≡ true
  pub sunk : Sunk functions base (s + step) 0 (no_marks all) all f

source-by : (functions : List Function) (base s : ℕ) (all : List Kind) (k : Kind) (b : Bool) (f : Flow) → calls_named named_source functions k ≡ b → Has (if b then flows_from functions base s 0 (no_marks all) all else []) f → (calls_named named_source functions k ≡ true) × Sunk functions base s 0 (no_marks all) all f
source-by functions base s all k true f e h = (e, from-sound functions base s 0 (no_marks all) all f h)
source-by functions base s all k false f e h = absurd (cc h.1)

next-sourced : (functions : List Function) (base s : ℕ) (all : List Kind) (k : Kind) (ks : List Kind) (f : Flow) → Sourced functions base (s + 1) all ks f → Sourced functions base s all (k ∷ ks) f
next-sourced functions base s all k ks f a =
    let e : s + 1 + a.step ≡ s + suc a.step = omega arith in
    record { step = suc a.step; kind = a.kind; is_step = a.is_step; is_source = a.is_source; sunk = subst (λ y. Sunk functions base y 0 (no_marks all) all f) e a.sunk }

first-sourced : (functions : List Function) (base s : ℕ) (all : List Kind) (k : Kind) (ks : List Kind) (f : Flow) → Has (source_flows functions base s k all) f → Sourced functions base s all (k ∷ ks) f
first-sourced functions base s all k ks f h =
    let q = source-by functions base s all k _ f refl h in
    record { step = 0; kind = k; is_step = refl; is_source = q.0; sunk = subst (λ y. Sunk functions base y 0 (no_marks all) all f) (sym (add-zero s)) q.1 }

sourced-by : (functions : List Function) (base s : ℕ) (all : List Kind) (k : Kind) (ks : List Kind) (f : Flow) → ((g : Flow) → Has (all_flows functions base all (s + 1) ks) g → Sourced functions base (s + 1) all ks g) → Has (source_flows functions base s k all) f ⊎ Has (all_flows functions base all (s + 1) ks) f → Sourced functions base s all (k ∷ ks) f
sourced-by functions base s all k ks f rec (inl h) = first-sourced functions base s all k ks f h
sourced-by functions base s all k ks f rec (inr h) = next-sourced functions base s all k ks f (rec f h)

pub all-sound : (functions : List Function) (base s : ℕ) (all kinds : List Kind) (f : Flow) → Has (all_flows functions base all s kinds) f → Sourced functions base s all kinds f
unfolding all_flows
all-sound functions base s all [] f h = absurd (cc h.1)
all-sound functions base s all (k ∷ ks) f h =
    sourced-by functions base s all k ks f (λ g q. all-sound functions base (s + 1) all ks g q) (has-either (source_flows functions base s k all) (all_flows functions base all (s + 1) ks) f h)

pub all-complete : (functions : List Function) (base s : ℕ) (all kinds : List Kind) (d : ℕ) (kind : Kind) (f : Flow) → slice_get kinds d ≡ Some kind → calls_named named_source functions kind ≡ true → Has (flows_from functions base (s + d) 0 (no_marks all) all) f → Has (all_flows functions base all s kinds) f
unfolding all_flows
all-complete functions base s all [] d kind f h c p = absurd (cc h)
all-complete functions base s all (k ∷ ks) zero kind f h c p =
    let q : Has (flows_from functions base s 0 (no_marks all) all) f = subst (λ y. Has (flows_from functions base y 0 (no_marks all) all) f) (add-zero s) p in
    has-left (source_flows functions base s k all) (all_flows functions base all (s + 1) ks) f (rw (ap (calls_named named_source functions) (some-same h) ∙ c) q)
all-complete functions base s all (k ∷ ks) (suc d) kind f h c p =
    let e : s + suc d ≡ s + 1 + d = omega arith in
    has-right (source_flows functions base s k all) (all_flows functions base all (s + 1) ks) f (all-complete functions base (s + 1) all ks d kind f h c (subst (λ y. Has (flows_from functions base y 0 (no_marks all) all) f) e p))

source-chain : (functions : List Function) (base s : ℕ) (all : List Kind) (b : Bool) → Chain (if b then flows_from functions base s 0 (no_marks all) all else [])
source-chain functions base s all true = from-chain functions base s 0 (no_marks all) all
source-chain functions base s all false = tt

pub all-chain : (functions : List Function) (base s : ℕ) (all kinds : List Kind) → Chain (all_flows functions base all s kinds)
unfolding all_flows
all-chain functions base s all [] = tt
all-chain functions base s all (k ∷ ks) =
    chain-append (source_flows functions base s k all) (all_flows functions base all (s + 1) ks) (source-chain functions base s all (calls_named named_source functions k)) (all-chain functions base (s + 1) all ks)
    (λ x y p q.
    let a = (source-by functions base s all k _ x refl p).1 in
    let b = all-sound functions base (s + 1) all ks y q in
    source-before (base + s) (base + (s + 1 + b.step)) (base + (0 + a.step)) (base + (0 + b.sunk.step)) a.index b.sunk.index x y a.is_flow b.sunk.is_flow (omega arith))
