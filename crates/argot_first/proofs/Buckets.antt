-- The flows that are kept by source.
use Rattle.std.proofs.Common.{◌≡◌, ◌≢◌, ℕ, zero, suc, ◌+◌, ◌-◌, ◌<◌, ◌≤◌, List, [], ◌∷◌, ◌++◌, Some, Bool, true, false, ◌||◌, length, set, replicate, take, drop, refl, sym, ap, ◌∙◌, subst, arith, add-one, nat_eq, append_assoc, append-nil}
use Rattle.std.proofs.lemmas.List.{get_or-set_same, get_or-set_other}
use Rattle.std.proofs.lemmas.Bool.{false≢true, eqb-true}
use Rattle.std.proofs.Math.ListN.{drop_of_length-le}
use Rattle.std.specs.Prelude.{slice_get, slice_index, if◌then◌else◌}
use Rattle.std.proofs.lemmas.Bool.Decides.{Decides-eqb}
use Rattle.std.proofs.lemmas.Option.{slice_get_within}
use Rattle.argot_first_form.specs.declared.functions.Function.{Function}
use Rattle.argot_plain.specs.declared.first.Kind.{Kind}
use Rattle.argot_first.specs.declared.found.Flow.{Flow}
use Rattle.argot_first.specs.Marks.{calls_named, named_source, no_marks, flows_from, step_flows, marks_after, all_flows}
use Rattle.argot_first.specs.Links.{AreDown, leads_to, bucket, flow_along, step_along, Adds, AreBuckets}
use Rattle.argot_first.proofs.Along.{one-further, not-later}
use Rattle.argot_first.proofs.Agree.{Walked, step-along}
use Rattle.argot_first.proofs.Before.{before, before-step, upto-none}

-- one flow more, from the call that a link leads to first
module _ (nexts : List ℕ) (down : AreDown nexts) (base sink k : ℕ) (buckets : List (List Flow)) (j : ℕ) (within : j < length buckets) where
  abbrev found : Flow
  found = record { source = base + j; sink = sink; argument = k }

  abbrev added : List (List Flow)
  added = set buckets j (bucket buckets j ++ found ∷ [])

  abbrev next : ℕ
  next = slice_index nexts j

  abbrev flow_of : Bool → ℕ → List Flow
  flow_of b s = if b then record { source = base + s; sink = sink; argument = k } ∷ [] else []

  by : (s : ℕ) (b : Bool) → nat_eq j s ≡ b → bucket added s ++ flow_along nexts base sink k next s ≡ bucket buckets s ++ flow_of (b || leads_to nexts s next) s
  by s true e =
      let same : j ≡ s = eqb-true j s e in
      let none : leads_to nexts s next ≡ false = not-later nexts down s next next (let d = down j in omega arith) in
      let last : bucket added s ≡ bucket buckets s ++ record { source = base + s; sink = sink; argument = k } ∷ [] =
      subst (λ n. bucket added n ≡ bucket buckets n ++ record { source = base + n; sink = sink; argument = k } ∷ []) same (get_or-set_same buckets j (bucket buckets j ++ found ∷ []) [] within) in
      ap (λ b. bucket added s ++ flow_of b s) none ∙ (append-nil (bucket added s) ∙ last)
  by s false e =
      let other : s ≢ j = λ q. false≢true (sym e ∙ (Decides-eqb j s).1 (sym q)) in
      ap (λ xs. xs ++ flow_of (leads_to nexts s next) s) (get_or-set_other buckets j s (bucket buckets j ++ found ∷ []) [] other)

  pub pushed : (s : ℕ) → bucket added s ++ flow_along nexts base sink k next s ≡ bucket buckets s ++ flow_along nexts base sink k (suc j) s
  pushed s = by s (nat_eq j s) refl ∙ ap (λ b. bucket buckets s ++ flow_of b s) (sym (one-further nexts down s j))

-- as pushed, at a link that isn't 0
pub pushed-at : (nexts : List ℕ) → AreDown nexts → (base sink k : ℕ) (buckets : List (List Flow)) (link : ℕ) → 0 < link → link ≤ length buckets → (s : ℕ) →
    bucket (set buckets (link - 1) (bucket buckets (link - 1) ++ record { source = base + (link - 1); sink = sink; argument = k } ∷ [])) s ++ flow_along nexts base sink k (slice_index nexts (link - 1)) s ≡ bucket buckets s ++ flow_along nexts base sink k link s
pushed-at nexts down base sink k buckets zero p w s = absurd (omega arith)
pushed-at nexts down base sink k buckets (suc j) p w s =
    let e : suc j - 1 ≡ j = omega arith in
    rw e (pushed nexts down base sink k buckets j (omega arith) s)

take-front : {A : Type 0} (xs ys : List A) → take (length xs) (xs ++ ys) ≡ xs
take-front [] ys = refl
take-front (x ∷ xs) ys = ap (λ z. x ∷ z) (take-front xs ys)

-- a slice that is written back whole
pub back : {A : Type 0} (n : ℕ) (xs ys : List A) → length xs ≡ n → take n (xs ++ drop (length xs) ys) ≡ xs
back n xs ys e = ap (λ k. take k (xs ++ drop (length xs) ys)) (sym e) ∙ take-front xs (drop (length xs) ys)

-- the flows of each source so far, and those from the step i on
abbrev pub Filled : List Function → ℕ → List Kind → ℕ → List (List Flow) → Type 0
Filled functions base kinds i buckets = (s : ℕ) (source : Kind) → slice_get kinds s ≡ Some source → calls_named named_source functions source ≡ true → bucket buckets s ++ flows_from functions base s i (before functions s kinds i) (drop i kinds) ≡ flows_from functions base s 0 (no_marks kinds) kinds

no-bucket : (n s : ℕ) → bucket (replicate n []) s ≡ []
no-bucket zero s = refl
no-bucket (suc n) zero = refl
no-bucket (suc n) (suc s) = no-bucket n s

pub filled-none : (functions : List Function) (base : ℕ) (kinds : List Kind) → Filled functions base kinds 0 (replicate (length kinds) [])
filled-none functions base kinds s source h c =
    ap (λ xs. xs ++ flows_from functions base s 0 (before functions s kinds 0) kinds) (no-bucket (length kinds) s) ∙ ap (λ m. flows_from functions base s 0 m kinds) (upto-none functions s 0 (no_marks kinds) kinds)

unfolded : (functions : List Function) (base s i : ℕ) (marks : List Bool) (kind : Kind) (kinds : List Kind) → flows_from functions base s i marks (kind ∷ kinds) ≡ step_flows functions (base + s) (base + i) marks kind ++ flows_from functions base s (i + 1) (marks_after functions s i marks kind) kinds
unfolding flows_from
unfolded functions base s i marks kind kinds = refl

drop-get : (kinds : List Kind) (i : ℕ) (kind : Kind) → slice_get kinds i ≡ Some kind → drop i kinds ≡ kind ∷ drop (i + 1) kinds
drop-get kinds i kind h = rw add-one (drop-by kinds i h)
  where
    drop-by : (kinds : List Kind) (i : ℕ) → slice_get kinds i ≡ Some kind → drop i kinds ≡ kind ∷ drop (suc i) kinds
    drop-by [] i h = absurd (cc h)
    drop-by (x ∷ xs) zero h = ap (λ y. y ∷ xs) (cc h)
    drop-by (x ∷ xs) (suc i) h = drop-by xs i h

pub filled-more : (functions : List Function) (base : ℕ) (kinds : List Kind) (i : ℕ) (heads nexts : List ℕ) → Walked functions kinds i heads nexts → (kind : Kind) → slice_get kinds i ≡ Some kind → (old new : List (List Flow)) → length old ≡ length kinds → Adds old new (λ s. step_along functions nexts heads base (base + i) s kind) → Filled functions base kinds i old → Filled functions base kinds (i + 1) new
filled-more functions base kinds i heads nexts w kind at old new n a f s source h c =
    let within : s < length old = let x = slice_get_within kinds s source h in omega arith in
    let b = before functions s kinds i in
    let here : step_along functions nexts heads base (base + i) s kind ≡ step_flows functions (base + s) (base + i) b kind = step-along functions nexts heads base (base + i) s b kind (w.same s source h c) in
    let next : before functions s kinds (i + 1) ≡ marks_after functions s i b kind = rw add-one (before-step functions s kinds i kind at) in
    let rest = flows_from functions base s (i + 1) (before functions s kinds (i + 1)) (drop (i + 1) kinds) in
    let e : flows_from functions base s i b (drop i kinds) ≡ step_flows functions (base + s) (base + i) b kind ++ rest =
    ap (flows_from functions base s i b) (drop-get kinds i kind at) ∙ (unfolded functions base s i b kind (drop (i + 1) kinds) ∙ ap (λ m. step_flows functions (base + s) (base + i) b kind ++ flows_from functions base s (i + 1) m (drop (i + 1) kinds)) (sym next)) in
    ap (λ xs. xs ++ rest) (a s within ∙ ap (λ xs. bucket old s ++ xs) here) ∙ (append_assoc (bucket old s) (step_flows functions (base + s) (base + i) b kind) rest ∙ (ap (λ xs. bucket old s ++ xs) (sym e) ∙ f s source h c))

none-after : (functions : List Function) (base : ℕ) (kinds : List Kind) (i s : ℕ) (marks : List Bool) (xs : List Flow) → length kinds ≤ i → xs ++ flows_from functions base s i marks (drop i kinds) ≡ xs
unfolding flows_from
none-after functions base kinds i s marks xs past = rw (drop_of_length-le kinds past) (append-nil xs)

pub filled-all : (functions : List Function) (base : ℕ) (kinds : List Kind) (i : ℕ) (buckets : List (List Flow)) → length kinds ≤ i → length buckets ≡ length kinds → Filled functions base kinds i buckets → AreBuckets functions base kinds buckets
filled-all functions base kinds i buckets past n f =
    record {
      number = n;
      flows = λ s source h c. sym (none-after functions base kinds i s (before functions s kinds i) (bucket buckets s) past) ∙ f s source h c;
    }

-- the list of all flows, one source further
pub taken-source : (functions : List Function) (base : ℕ) (kinds : List Kind) (buckets : List (List Flow)) → AreBuckets functions base kinds buckets → (s : ℕ) (kind : Kind) → slice_get kinds s ≡ Some kind → calls_named named_source functions kind ≡ true → (flows : List Flow) → (flows ++ bucket buckets s) ++ all_flows functions base kinds (s + 1) (drop (s + 1) kinds) ≡ flows ++ all_flows functions base kinds s (drop s kinds)
unfolding all_flows
taken-source functions base kinds buckets b s kind at c flows =
    rw (drop-get kinds s kind at)
    (append_assoc flows (bucket buckets s) _
    ∙ ap (λ xs. flows ++ (xs ++ all_flows functions base kinds (s + 1) (drop (s + 1) kinds))) (b.flows s kind at c ∙ sym (ap (λ t. if t then flows_from functions base s 0 (no_marks kinds) kinds else []) c)))

pub taken-none : (functions : List Function) (base : ℕ) (kinds : List Kind) (s : ℕ) (kind : Kind) → slice_get kinds s ≡ Some kind → calls_named named_source functions kind ≡ false → (flows : List Flow) → flows ++ all_flows functions base kinds (s + 1) (drop (s + 1) kinds) ≡ flows ++ all_flows functions base kinds s (drop s kinds)
unfolding all_flows
taken-none functions base kinds s kind at c flows =
    rw (drop-get kinds s kind at)
    (ap (λ xs. flows ++ (xs ++ all_flows functions base kinds (s + 1) (drop (s + 1) kinds))) (sym (ap (λ t. if t then flows_from functions base s 0 (no_marks kinds) kinds else []) c)))
