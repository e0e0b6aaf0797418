-- What realizable lists of edges may reach at most, by evaluation: from each node with the calls that are open there each edge is
-- followed that may lead on. A flow whose argument isn't reached isn't there.
use Rattle.std.proofs.Common.{◌≡◌, ℕ, zero, suc, ◌+◌, Bool, true, false, not, List, [], ◌∷◌, ◌++◌, Option, Some, None, refl, sym, ap, ◌∙◌, subst, arith, length, eqb-true, eq-eqb}
use Rattle.std.specs.Prelude.{◌||◌, ◌&&◌, ◌==◌, slice_get}
use Rattle.argot_plain.specs.Lists.{In, here, there}
use Rattle.argot_plain.specs.Code.{by_call, by_go, by_defer, Code, IsAt, Hands, kind_of}
use Rattle.argot_plain.specs.Nodes.{Mark}
use Rattle.argot_plain.specs.declared.instructions.Callee.{Callee}
use Rattle.argot_plain.specs.declared.instructions.Kind.{Kind}
use Rattle.argot_plain.specs.declared.instructions.Kind.TheVariants.{Call}
use Rattle.argot_plain.specs.declared.problems.Problem.{Problem}
use Rattle.argot_facts.specs.Flows as Flowing
use Rattle.argot_facts.specs.Flows.{IsSource, IsArgument, is_argument}
use Rattle.argot_facts.specs.Graphs.{IsEdge}
use Rattle.argot_facts.specs.Lists.{after, after_all, Leads, stay, go}
use Rattle.argot_facts.specs.declared.graphs.EdgeKind.{EdgeKind}
use Rattle.argot_facts.specs.declared.nodes.Node.{Node}
use Rattle.argot_plain_worked_rules.specs.Worked.{HasNoFlow}
use Rattle.argot_plain_worked_rules.proofs.Possible.{and_left, and_right}
use Rattle.argot_plain_worked_rules.proofs.Leading.{edges_from, in_edges, numbers, in_numbers}

abbrev same_calls : List ℕ → List ℕ → Bool
same_calls [] [] = true
same_calls (x ∷ xs) (y ∷ ys) = (x == y) && same_calls xs ys
same_calls _ _ = false

same_is : (xs ys : List ℕ) → same_calls xs ys ≡ true → xs ≡ ys
same_is [] [] h = refl
same_is [] (y ∷ ys) h = absurd cc
same_is (x ∷ xs) [] h = absurd cc
same_is (x ∷ xs) (y ∷ ys) h =
    let a = eqb-true x y (and_left (x == y) (same_calls xs ys) h) in
    let b = same_is xs ys (and_right (x == y) (same_calls xs ys) h) in
    ap (λ z. z ∷ xs) a ∙ ap (λ zs. y ∷ zs) b

-- whether the node (i, k) with these open calls is among those that are reached
abbrev is_reached : ℕ → ℕ → List ℕ → List (ℕ × ℕ × List ℕ) → Bool
is_reached i k os [] = false
is_reached i k os (x ∷ xs) = ((x.0 == i) && ((x.1 == k) && same_calls x.2 os)) || is_reached i k os xs

triple : (x : ℕ × ℕ × List ℕ) (i k : ℕ) (os : List ℕ) → x.0 ≡ i → x.1 ≡ k → x.2 ≡ os → (i, k, os) ≡ x
triple x i k os a b c = sym (ap (λ z. (z, x.1, x.2)) a ∙ (ap (λ z. (i, z, x.2)) b ∙ ap (λ z. (i, k, z)) c))

reached_in : (i k : ℕ) (os : List ℕ) (xs : List (ℕ × ℕ × List ℕ)) → is_reached i k os xs ≡ true → In (i, k, os) xs
reached_in i k os [] h = absurd cc
reached_in i k os (x ∷ xs) h = case ((x.0 == i) && ((x.1 == k) && same_calls x.2 os)) refl h (reached_in i k os xs)
  where
    case : (b : Bool) → ((x.0 == i) && ((x.1 == k) && same_calls x.2 os)) ≡ b → (b || is_reached i k os xs) ≡ true → (is_reached i k os xs ≡ true → In (i, k, os) xs) → In (i, k, os) (x ∷ xs)
    case true e g rec =
        let r = and_right (x.0 == i) ((x.1 == k) && same_calls x.2 os) e in
        here (triple x i k os (eqb-true x.0 i (and_left (x.0 == i) ((x.1 == k) && same_calls x.2 os) e)) (eqb-true x.1 k (and_left (x.1 == k) (same_calls x.2 os) r)) (same_is x.2 os (and_right (x.1 == k) (same_calls x.2 os) r)))
    case false e g rec = there (rec g)

-- whether an edge behind which these calls are open stays among them
abbrev stays : Option (List ℕ) → ℕ → ℕ → List (ℕ × ℕ × List ℕ) → Bool
stays None i k all = true
stays (Some os) i k all = is_reached i k os all

abbrev each_stays : List (EdgeKind × ℕ × ℕ) → List ℕ → List (ℕ × ℕ × List ℕ) → Bool
each_stays [] os all = true
each_stays (e ∷ es) os all = stays (after e.0 os) e.1 e.2 all && each_stays es os all

abbrev all_stay : Code → Problem → List (ℕ × ℕ × List ℕ) → List (ℕ × ℕ × List ℕ) → Bool
all_stay p pr [] all = true
all_stay p pr (x ∷ xs) all = each_stays (edges_from p pr x.0 x.1) x.2 all && all_stay p pr xs all

one_stays : (e : EdgeKind × ℕ × ℕ) (es : List (EdgeKind × ℕ × ℕ)) (os : List ℕ) (all : List (ℕ × ℕ × List ℕ)) → each_stays es os all ≡ true → In e es → stays (after e.0 os) e.1 e.2 all ≡ true
one_stays e [] os all h m = elim m [ ]
one_stays e (x ∷ es) os all h (here same) = subst (λ y. stays (after y.0 os) y.1 y.2 all ≡ true) (sym same) (and_left (stays (after x.0 os) x.1 x.2 all) (each_stays es os all) h)
one_stays e (x ∷ es) os all h (there m) = one_stays e es os all (and_right (stays (after x.0 os) x.1 x.2 all) (each_stays es os all) h) m

edge_stays : (p : Code) (pr : Problem) (x : ℕ × ℕ × List ℕ) (e : EdgeKind × ℕ × ℕ) (xs all : List (ℕ × ℕ × List ℕ)) → all_stay p pr xs all ≡ true → In x xs → In e (edges_from p pr x.0 x.1) → stays (after e.0 x.2) e.1 e.2 all ≡ true
edge_stays p pr x e [] all h m i = elim m [ ]
edge_stays p pr x e (y ∷ xs) all h (here same) i =
    one_stays e (edges_from p pr x.0 x.1) x.2 all (subst (λ z. each_stays (edges_from p pr z.0 z.1) z.2 all ≡ true) (sym same) (and_left (each_stays (edges_from p pr y.0 y.1) y.2 all) (all_stay p pr xs all) h)) i
edge_stays p pr x e (y ∷ xs) all h (there m) i = edge_stays p pr x e xs all (and_right (each_stays (edges_from p pr y.0 y.1) y.2 all) (all_stay p pr xs all) h) m i

none_after : (ks : List EdgeKind) (calls : List ℕ) → after_all ks None ≡ Some calls → ⊥
none_after [] calls h = absurd cc
none_after (k ∷ ks) calls h = absurd cc

module _ (p : Code) (pr : Problem) (all : List (ℕ × ℕ × List ℕ)) (closed : all_stay p pr all all ≡ true) where
  -- an edge from the node to another
  edge_in : (a b : Node) (kind : EdgeKind) → IsEdge p pr a kind b → In (kind, b.place, b.index) (edges_from p pr a.place a.index)
  edge_in a b kind e =
      let m = in_edges p pr e.from e.to kind e.moves in
      let c = subst (λ x. In (kind, e.to.place, e.to.index) (edges_from p pr x e.from.index)) (sym e.is_from.place) m in
      let d = subst (λ x. In (kind, e.to.place, e.to.index) (edges_from p pr a.place x)) (sym e.is_from.index) c in
      let f = subst (λ x. In (kind, x, e.to.index) (edges_from p pr a.place a.index)) (sym e.is_to.place) d in
      subst (λ x. In (kind, b.place, x) (edges_from p pr a.place a.index)) (sym e.is_to.index) f

  leads_in : (a b : Node) (kinds : List EdgeKind) (os calls : List ℕ) → Leads (IsEdge p pr) a kinds b → after_all kinds (Some os) ≡ Some calls → In (a.place, a.index, os) all → In (b.place, b.index, calls) all
  leads_in a b kinds os calls stay h m = let e : os ≡ calls = cc in subst (λ z. In (a.place, a.index, z) all) e m
  leads_in a b kinds os calls (go {b = mid} {k = kind} {ks = rest} edge leads) h m = onward (after kind os) refl h (λ now. leads_in mid b rest now calls leads)
    where
      onward : (o : Option (List ℕ)) → after kind os ≡ o → after_all rest o ≡ Some calls
          → ((now : List ℕ) → after_all rest (Some now) ≡ Some calls → In (mid.place, mid.index, now) all → In (b.place, b.index, calls) all) → In (b.place, b.index, calls) all
      onward None e g rec = absurd (none_after rest calls g)
      onward (Some now) e g rec =
          let s = edge_stays p pr (a.place, a.index, os) (kind, mid.place, mid.index) all all closed m (edge_in a mid kind edge) in
          rec now g (reached_in mid.place mid.index now all (subst (λ o. stays o mid.place mid.index all ≡ true) e s))

-- the indices of the result nodes of a source, and the index of an argument
abbrev results_at : Option Kind → List ℕ
results_at (Some (Call to callee args)) = 0 ∷ numbers 0 (length to)
results_at _ = 0 ∷ []

abbrev argument_at : Option Kind → ℕ → ℕ
argument_at (Some (Call to callee args)) k = length to + k
argument_at _ k = k

abbrev each_begins : ℕ → List ℕ → List (ℕ × ℕ × List ℕ) → Bool
each_begins s [] all = true
each_begins s (k ∷ ks) all = is_reached s k [] all && each_begins s ks all

abbrev is_argued : ℕ → ℕ → List (ℕ × ℕ × List ℕ) → Bool
is_argued t k [] = false
is_argued t k (x ∷ xs) = ((x.0 == t) && (x.1 == k)) || is_argued t k xs

begun : (s k : ℕ) (ks : List ℕ) (all : List (ℕ × ℕ × List ℕ)) → each_begins s ks all ≡ true → In k ks → In (s, k, []) all
begun s k [] all h m = elim m [ ]
begun s k (x ∷ ks) all h (here e) = subst (λ z. In (s, z, []) all) (sym e) (reached_in s x [] all (and_left (is_reached s x [] all) (each_begins s ks all) h))
begun s k (x ∷ ks) all h (there m) = begun s k ks all (and_right (is_reached s x [] all) (each_begins s ks all) h) m

argued : (t k : ℕ) (os : List ℕ) (xs : List (ℕ × ℕ × List ℕ)) → In (t, k, os) xs → is_argued t k xs ≡ true
argued t k os [] m = elim m [ ]
argued t k os (x ∷ xs) (here e) =
    let a : x.0 ≡ t = sym (ap (λ (y : ℕ × ℕ × List ℕ). y.0) e) in
    let b : x.1 ≡ k = sym (ap (λ (y : ℕ × ℕ × List ℕ). y.1) e) in
    first (x.0 == t) (x.1 == k) (eq-eqb x.0 t a) (eq-eqb x.1 k b)
  where
    first : (a b : Bool) → a ≡ true → b ≡ true → ((a && b) || is_argued t k xs) ≡ true
    first true true e f = refl
    first true false e f = absurd cc
    first false b e f = absurd cc
argued t k os (x ∷ xs) (there m) = behind ((x.0 == t) && (x.1 == k)) (argued t k os xs m)
  where
    behind : (a : Bool) → is_argued t k xs ≡ true → (a || is_argued t k xs) ≡ true
    behind true h = refl
    behind false h = h

source_in : (p : Code) (pr : Problem) (s : ℕ) (m : Mark) (all : List (ℕ × ℕ × List ℕ)) → IsSource p pr s m → each_begins s (results_at (kind_of (slice_get p.instrs s))) all ≡ true → In (m.place, m.index, []) all
source_in p pr s m all (Flowing.by_call {k = k} to args callee g takes at targets is within) h =
    let z : 0 + k ≡ k = omega arith in
    begun s k (results_at (kind_of (slice_get p.instrs s))) all h (subst (λ o. In k (results_at o)) (sym at) (there (subst (λ x. In x (numbers 0 (length to))) z (in_numbers 0 (length to) k within))))
source_in p pr s m all (Flowing.by_place is node) h = begun s 0 (results_at (kind_of (slice_get p.instrs s))) all h (zero_in (kind_of (slice_get p.instrs s)))
  where
    zero_in : (o : Option Kind) → In 0 (results_at o)
    zero_in (Some (Call to callee args)) = here refl
    zero_in _ = here refl

argument_index : (p : Code) (t k n : ℕ) (kind : Kind) (callee : Callee) (args : List ℕ) → IsAt p t kind → Hands kind callee args n → n + k ≡ argument_at (kind_of (slice_get p.instrs t)) k
argument_index p t k n kind callee args at (by_call {to = to}) = subst (λ o. length to + k ≡ argument_at o k) (sym at) refl
argument_index p t k n kind callee args at by_go = subst (λ o. 0 + k ≡ argument_at o k) (sym at) (omega arith)
argument_index p t k n kind callee args at by_defer = subst (λ o. 0 + k ≡ argument_at o k) (sym at) (omega arith)

argument_is : (p : Code) (pr : Problem) (t k : ℕ) (m : Mark) → IsArgument p pr t k m → (m.place ≡ t) × (m.index ≡ argument_at (kind_of (slice_get p.instrs t)) k)
argument_is p pr t k m (is_argument kind callee args n g takes at hands targets sink within) = (refl, argument_index p t k n kind callee args at hands)

-- what is reached, as far as it is found in 400 steps

abbrev steps_on : Option (List ℕ) → ℕ → ℕ → List (ℕ × ℕ × List ℕ)
steps_on None i k = []
steps_on (Some os) i k = (i, k, os) ∷ []

abbrev each_on : List (EdgeKind × ℕ × ℕ) → List ℕ → List (ℕ × ℕ × List ℕ)
each_on [] os = []
each_on (e ∷ es) os = steps_on (after e.0 os) e.1 e.2 ++ each_on es os

abbrev with_more : Bool → List (ℕ × ℕ × List ℕ) → List (ℕ × ℕ × List ℕ) → List (ℕ × ℕ × List ℕ)
with_more true more front = front
with_more false more front = more ++ front

abbrev with_seen : Bool → ℕ × ℕ × List ℕ → List (ℕ × ℕ × List ℕ) → List (ℕ × ℕ × List ℕ)
with_seen true x seen = seen
with_seen false x seen = x ∷ seen

abbrev flood : ℕ → Code → Problem → List (ℕ × ℕ × List ℕ) → List (ℕ × ℕ × List ℕ) → List (ℕ × ℕ × List ℕ)
flood zero p pr front seen = seen
flood (suc n) p pr [] seen = seen
flood (suc n) p pr (x ∷ front) seen =
    flood n p pr (with_more (is_reached x.0 x.1 x.2 seen) (each_on (edges_from p pr x.0 x.1) x.2) front) (with_seen (is_reached x.0 x.1 x.2 seen) x seen)

abbrev begin_at : ℕ → List ℕ → List (ℕ × ℕ × List ℕ)
begin_at s [] = []
begin_at s (k ∷ ks) = (s, k, []) ∷ begin_at s ks

abbrev reached_from : Code → Problem → ℕ → List (ℕ × ℕ × List ℕ)
reached_from p pr s = flood 400 p pr (begin_at s (results_at (kind_of (slice_get p.instrs s)))) []

-- whether these are all that is reached from the source, and the argument isn't among them
abbrev parts : Code → Problem → ℕ → ℕ → ℕ → List (ℕ × ℕ × List ℕ) → Bool
parts p pr s t k all = all_stay p pr all all && (each_begins s (results_at (kind_of (slice_get p.instrs s))) all && not (is_argued t (argument_at (kind_of (slice_get p.instrs t)) k) all))

no_flow_among : (p : Code) (pr : Problem) (s t k : ℕ) (all : List (ℕ × ℕ × List ℕ)) → parts p pr s t k all ≡ true → HasNoFlow p pr s t k
no_flow_among p pr s t k all h f =
    let closed = and_left (all_stay p pr all all) _ h in
    let rest = and_right (all_stay p pr all all) _ h in
    let begins = and_left (each_begins s (results_at (kind_of (slice_get p.instrs s))) all) _ rest in
    let apart = and_right (each_begins s (results_at (kind_of (slice_get p.instrs s))) all) _ rest in
    let a = source_in p pr s f.start all f.source begins in
    let b = subst (λ z. In (z, f.start.index, []) all) (sym f.is_from.place) a in
    let c = subst (λ z. In (f.from.place, z, []) all) (sym f.is_from.index) b in
    let d = leads_in p pr all closed f.from f.to f.joins.kinds [] f.joins.calls f.joins.leads f.joins.realizable c in
    let g = argument_is p pr t k f.end f.argument in
    let m = subst (λ z. In (z, f.to.index, f.joins.calls) all) (f.is_to.place ∙ g.0) d in
    let n = subst (λ z. In (t, z, f.joins.calls) all) (f.is_to.index ∙ g.1) m in
    let e = ap not (argued t (argument_at (kind_of (slice_get p.instrs t)) k) f.joins.calls all n) in
    let z = sym e ∙ apart in
    absurd cc

-- no flow leads there
pub no_flow : (p : Code) (pr : Problem) (s t k : ℕ) → parts p pr s t k (reached_from p pr s) ≡ true → HasNoFlow p pr s t k
no_flow p pr s t k = no_flow_among p pr s t k (reached_from p pr s)
