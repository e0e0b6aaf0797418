-- Where edges may lead from a node at most, with their kinds, by evaluation: a bound from above, which looks at places and indices
-- and not at leaves, at which registers are read and where definitions reach, at which functions a callee may mean at most, and at
-- which places may follow a write. An edge that isn't among them isn't there.
use Rattle.std.proofs.Common.{◌≡◌, ℕ, zero, suc, ◌+◌, ◌-◌, ◌<◌, ◌≤◌, Bool, true, false, not, List, [], ◌∷◌, ◌++◌, Option, Some, None, refl, sym, ap, ◌∙◌, subst, inl, inr, arith, length, eq-eqb, le-leb}
use Rattle.std.specs.Prelude.{◌||◌, ◌&&◌, ◌==◌, slice_get, nat_le, map}
use Rattle.argot_plain.specs.Lists.{In, here, there, member}
use Rattle.argot_plain.specs.Code.{by_call, by_go, by_defer, Code, IsAt, IsFunction, Hands, kind_of, arguments, param_of}
use Rattle.argot_plain.specs.Counts.{is_sink, cleans}
use Rattle.argot_plain.specs.Leak.{LooksInside, a_sink, an_external}
use Rattle.argot_plain.specs.Nodes.{Mark}
use Rattle.argot_plain.specs.declared.functions.Function.{Function}
use Rattle.argot_plain.specs.declared.functions.Ident.{Ident}
use Rattle.argot_plain.specs.declared.instructions.Callee.{Callee}
use Rattle.argot_plain.specs.declared.instructions.Instr.{Instr}
use Rattle.argot_plain.specs.declared.instructions.Kind.{Kind}
use Rattle.argot_plain.specs.declared.instructions.Kind.TheVariants.{Read, Write, Grow, Call, Go, Defer}
use Rattle.argot_plain.specs.declared.problems.Problem.{Problem}
use Rattle.argot_text.specs.declared.position.Pos.{Pos}
use Rattle.argot_text.specs.declared.path.PathStep.{PathStep}
use Rattle.argot_facts.specs.Edges as Drawn
use Rattle.argot_facts.specs.Edges.{Moves, plain, grown, go, return, external, by_object, by_argument, by_write, by_read, Writes, IsRead, MayMeet, CallsLikewise, a_call, a_defer, ReadAt, at_call, at_go, at_exit}
use Rattle.argot_facts.specs.Escapes.{Escapes, by_variable, by_location}
use Rattle.argot_facts.specs.Escapes as Escaping
use Rattle.argot_facts.specs.Refers.{Holds, Targets}
use Rattle.argot_facts.specs.declared.graphs.EdgeKind.{EdgeKind}
use Rattle.argot_facts.specs.declared.graphs.EdgeKind.TheVariants.{Plain, Call as Enters, Return as Returns, Reset}
use Rattle.argot_plain_worked_rules.specs.Worked.{HasNoEdge}
use Rattle.argot_plain_worked_rules.proofs.Possible.{in_left, in_right, in_map, each, in_each, when, in_when, in_member, at_places, in_places, may_mean, in_targets, defines, in_defines, may_reach, in_reach, may_take, in_take}
use Rattle.argot_plain_worked_rules.proofs.Following.{follow_closed, followers, follow_stays}

abbrev any : {A : Type 0} → (A → Bool) → List A → Bool
any f [] = false
any f (x ∷ xs) = f x || any f xs

or_left : (a b : Bool) → a ≡ true → (a || b) ≡ true
or_left true b h = refl
or_left false b h = absurd cc

or_right : (a b : Bool) → b ≡ true → (a || b) ≡ true
or_right true b h = refl
or_right false b h = h

both : (a b : Bool) → a ≡ true → b ≡ true → (a && b) ≡ true
both true b e f = f
both false b e f = absurd cc

any_true : {A : Type 0} (f : A → Bool) (x : A) (xs : List A) → In x xs → f x ≡ true → any f xs ≡ true
any_true f x [] m h = elim m [ ]
any_true f x (y ∷ xs) (here e) h = or_left (f y) (any f xs) (subst (λ z. f z ≡ true) e h)
any_true f x (y ∷ xs) (there m) h = or_right (f y) (any f xs) (any_true f x xs m h)

-- n numbers from m on
abbrev pub numbers : ℕ → ℕ → List ℕ
numbers m zero = []
numbers m (suc n) = m ∷ numbers (m + 1) n

pub in_numbers : (m n k : ℕ) → k < n → In (m + k) (numbers m n)
in_numbers m zero k h =
    let z : ⊥ = omega (arith, h) in
    absurd z
in_numbers m (suc n) zero h = let z : m + 0 ≡ m = omega arith in here z
in_numbers m (suc n) (suc k) h =
    let below : k < n = omega arith in
    let z : m + 1 + k ≡ m + suc k = omega arith in
    there (subst (λ x. In x (numbers (m + 1) n)) z (in_numbers (m + 1) n k below))

-- edges of this kind to these indices of a place
abbrev to_each : EdgeKind → ℕ → List ℕ → List (EdgeKind × ℕ × ℕ)
to_each kind i ks = map (λ k. (kind, i, k)) ks

-- by a definition that reaches
abbrev plain_at : Problem → ℕ → List ℕ → ℕ → Kind → List (EdgeKind × ℕ × ℕ)
plain_at pr r reached i kind = when (member i reached) (to_each Plain i (may_take pr r kind))

abbrev plain_from : Code → Problem → ℕ → ℕ → List (EdgeKind × ℕ × ℕ)
plain_from p pr d j = each (λ r. at_places (plain_at pr r (may_reach p d r)) 0 p.instrs) (defines p d j)

-- the elements that a Grow copies stand with its items
abbrev grown_from : ℕ → ℕ → Option Kind → List (EdgeKind × ℕ × ℕ)
grown_from d j (Some (Grow to at items)) = when (j == 2) ((Plain, d, 1) ∷ [])
grown_from d j _ = []

-- to the parameters of what is called, deferred or started
abbrev to_param : Option Function → EdgeKind → Option ℕ → List (EdgeKind × ℕ × ℕ)
to_param None kind o = []
to_param (Some fn) kind None = []
to_param (Some fn) kind (Some k) = (kind, fn.entry, k) ∷ []

abbrev to_params_of : Code → EdgeKind → Callee → List ℕ → ℕ → List (EdgeKind × ℕ × ℕ)
to_params_of p kind callee args k =
    each (λ (h : ℕ × Bool). to_param (slice_get p.functions h.0) kind (param_of h.1 (length (arguments callee args)) k)) (may_mean p callee)

abbrev enters_from : Code → ℕ → ℕ → Option Kind → List (EdgeKind × ℕ × ℕ)
enters_from p d j (Some (Call to callee args)) = when (nat_le (length to) j) (to_params_of p (Enters d) callee args (j - length to))
enters_from p d j (Some (Defer callee args)) = to_params_of p (Enters d) callee args j
enters_from p d j (Some (Go callee args)) = to_params_of p Reset callee args j
enters_from p d j _ = []

-- back from a Leave
abbrev has_body : Option Bool → Bool
has_body None = true
has_body (Some flows) = false

abbrev leaves_at : Code → Problem → ℕ → ℕ → ℕ → Option Function → Bool
leaves_at p pr d i h None = false
leaves_at p pr d i h (Some fn) = (fn.leave == d) && (has_body fn.external && not (cleans p pr i h))

abbrev returns_at : Code → Problem → ℕ → ℕ → ℕ → Kind → List (EdgeKind × ℕ × ℕ)
returns_at p pr d j i (Call to callee args) = when (any (λ (h : ℕ × Bool). leaves_at p pr d i h.0 (slice_get p.functions h.0)) (may_mean p callee)) ((Returns i, i, j) ∷ [])
returns_at p pr d j i _ = []

-- through an external
abbrev is_flowing : Option Bool → Bool
is_flowing (Some flows) = flows
is_flowing None = false

abbrev flows_at : Code → Problem → ℕ → ℕ → Option Function → Bool
flows_at p pr i h None = false
flows_at p pr i h (Some fn) = is_flowing fn.external && not (cleans p pr i h)

abbrev outside_from : Code → Problem → ℕ → ℕ → Option Kind → List (EdgeKind × ℕ × ℕ)
outside_from p pr d j (Some (Call to callee args)) =
    when (nat_le (length to) j && any (λ (h : ℕ × Bool). flows_at p pr d h.0 (slice_get p.functions h.0)) (may_mean p callee)) (to_each Plain d (numbers 0 (length to)))
outside_from p pr d j _ = []

-- where what is written at the place d may still be there: at these places, or anywhere
abbrev is_go : Kind → Bool
is_go (Go callee args) = true
is_go _ = false

abbrev any_go : List Instr → Bool
any_go [] = false
any_go (x ∷ xs) = is_go x.kind || any_go xs

abbrev has_some : {A : Type 0} → List A → Bool
has_some [] = false
has_some (x ∷ xs) = true

abbrev anywhere_or : Bool → List ℕ → Option (List ℕ)
anywhere_or true is = None
anywhere_or false is = Some is

abbrev meets : Code → ℕ → Option (List ℕ)
meets p d = anywhere_or (any_go p.instrs || (has_some p.globals || not (follow_closed p d (followers p d)))) (followers p d)

abbrev is_met : Option (List ℕ) → ℕ → Bool
is_met None i = true
is_met (Some is) i = member i is

-- whether the node with this index is one of what is written
abbrev writes_at : ℕ → Option Kind → Bool
writes_at j (Some (Write at from)) = j == 0
writes_at j (Some (Grow to at items)) = j == 1
writes_at j _ = false

abbrev is_outside : Option Bool → Bool
is_outside (Some flows) = true
is_outside None = false

abbrev looks_in : Code → Problem → ℕ → ℕ → Option Function → Bool
looks_in p pr i h None = is_sink p pr i h
looks_in p pr i h (Some fn) = is_sink p pr i h || is_outside fn.external

abbrev looks_at : Code → Problem → ℕ → Callee → Bool
looks_at p pr i callee = any (λ (h : ℕ × Bool). looks_in p pr i h.0 (slice_get p.functions h.0)) (may_mean p callee)

-- to the reads, and to the arguments of what looks at what they reach. The arguments of a Defer are read at its function's exit
abbrev met_at : Code → Problem → Option (List ℕ) → ℕ → Kind → List (EdgeKind × ℕ × ℕ)
met_at p pr met i (Read to at qs) = when (is_met met i) ((Reset, i, 0) ∷ [])
met_at p pr met i (Grow to at items) = when (is_met met i) ((Reset, i, 2) ∷ [])
met_at p pr met i (Call to callee args) = when (is_met met i && looks_at p pr i callee) (to_each Reset i (numbers (length to) (length (arguments callee args))))
met_at p pr met i (Go callee args) = when (is_met met i && looks_at p pr i callee) (to_each Reset i (numbers 0 (length (arguments callee args))))
met_at p pr met i (Defer callee args) = when (looks_at p pr i callee) (to_each Reset i (numbers 0 (length (arguments callee args))))
met_at p pr met i _ = []

abbrev objects_from : Code → Problem → ℕ → ℕ → List (EdgeKind × ℕ × ℕ)
objects_from p pr d j = when (writes_at j (kind_of (slice_get p.instrs d))) (at_places (met_at p pr (meets p d)) 0 p.instrs)

abbrev at_node : Code → Problem → ℕ → ℕ → Option Kind → List (EdgeKind × ℕ × ℕ)
at_node p pr d j o = grown_from d j o ++ (enters_from p d j o ++ outside_from p pr d j o)

-- all edges that may lead from the node (d, j): each with its kind, and the place and the index to which it leads
abbrev pub edges_from : Code → Problem → ℕ → ℕ → List (EdgeKind × ℕ × ℕ)
edges_from p pr d j =
    at_node p pr d j (kind_of (slice_get p.instrs d))
    ++ (plain_from p pr d j ++ (at_places (returns_at p pr d j) 0 p.instrs ++ objects_from p pr d j))

-- escapes and objects

module _ (p : Code) (calm : any_go p.instrs ≡ false) (alone : has_some p.globals ≡ false) where
  go_there : (i : ℕ) (callee : Callee) (args : List ℕ) (xs : List Instr) → kind_of (slice_get xs i) ≡ Some (Go callee args) → any_go xs ≡ true
  go_there i callee args [] h = absurd cc
  go_there zero callee args (x ∷ xs) h = let e : x.kind ≡ Go callee args = cc in or_left (is_go x.kind) (any_go xs) (ap is_go e)
  go_there (suc i) callee args (x ∷ xs) h = or_right (is_go x.kind) (any_go xs) (go_there i callee args xs h)

  none_there : (k : ℕ) (ident : Ident) (at : Pos) (s : ℕ) (globals : List (Ident × Pos × ℕ)) → has_some globals ≡ false → slice_get globals k ≡ Some (ident, at, s) → ⊥
  none_there k ident at s [] e is = absurd cc
  none_there k ident at s (x ∷ globals) e is = absurd cc

  no_escape : (s : ℕ) → Escapes p s → ⊥
  no_escape s (by_variable k ident at is) = none_there k ident at s p.globals alone is
  no_escape s (Escaping.by_go i k q path callee args live at refers) = let e = sym (go_there i callee args p.instrs at) ∙ calm in absurd cc
  no_escape s (by_location o q path e refers) = no_escape o e

module _ (p : Code) where
  met : (s w i : ℕ) → MayMeet p s w i → is_met (meets p w) i ≡ true
  met s w i m = case (any_go p.instrs) refl (has_some p.globals) refl (follow_closed p w (followers p w)) refl m
    where
      case : (a : Bool) → any_go p.instrs ≡ a → (b : Bool) → has_some p.globals ≡ b → (c : Bool) → follow_closed p w (followers p w) ≡ c
          → MayMeet p s w i → is_met (anywhere_or (a || (b || not c)) (followers p w)) i ≡ true
      case true calm b alone c closes m = refl
      case false calm true alone c closes m = refl
      case false calm false alone false closes m = refl
      case false calm false alone true closes (inl e) = absurd (no_escape p calm alone s e)
      case false calm false alone true closes (inr f) = follow_stays p w i (followers p w) closes f

  module _ (pr : Problem) where
    -- each part of the list
    in_node : (d j : ℕ) (x : EdgeKind × ℕ × ℕ) → In x (at_node p pr d j (kind_of (slice_get p.instrs d))) → In x (edges_from p pr d j)
    in_node d j x m = in_left x (at_node p pr d j (kind_of (slice_get p.instrs d))) _ m

    in_plain : (d j : ℕ) (x : EdgeKind × ℕ × ℕ) → In x (plain_from p pr d j) → In x (edges_from p pr d j)
    in_plain d j x m = in_right x (at_node p pr d j (kind_of (slice_get p.instrs d))) _ (in_left x (plain_from p pr d j) _ m)

    in_returns : (d j : ℕ) (x : EdgeKind × ℕ × ℕ) → In x (at_places (returns_at p pr d j) 0 p.instrs) → In x (edges_from p pr d j)
    in_returns d j x m =
        in_right x (at_node p pr d j (kind_of (slice_get p.instrs d))) _ (in_right x (plain_from p pr d j) _ (in_left x (at_places (returns_at p pr d j) 0 p.instrs) _ m))

    in_objects : (d j : ℕ) (x : EdgeKind × ℕ × ℕ) → In x (objects_from p pr d j) → In x (edges_from p pr d j)
    in_objects d j x m =
        in_right x (at_node p pr d j (kind_of (slice_get p.instrs d))) _ (in_right x (plain_from p pr d j) _ (in_right x (at_places (returns_at p pr d j) 0 p.instrs) _ m))

    in_grown : (d j : ℕ) (x : EdgeKind × ℕ × ℕ) → In x (grown_from d j (kind_of (slice_get p.instrs d))) → In x (edges_from p pr d j)
    in_grown d j x m = in_node d j x (in_left x (grown_from d j (kind_of (slice_get p.instrs d))) _ m)

    in_enters : (d j : ℕ) (x : EdgeKind × ℕ × ℕ) → In x (enters_from p d j (kind_of (slice_get p.instrs d))) → In x (edges_from p pr d j)
    in_enters d j x m = in_node d j x (in_right x (grown_from d j (kind_of (slice_get p.instrs d))) _ (in_left x (enters_from p d j (kind_of (slice_get p.instrs d))) _ m))

    in_outside : (d j : ℕ) (x : EdgeKind × ℕ × ℕ) → In x (outside_from p pr d j (kind_of (slice_get p.instrs d))) → In x (edges_from p pr d j)
    in_outside d j x m = in_node d j x (in_right x (grown_from d j (kind_of (slice_get p.instrs d))) _ (in_right x (enters_from p d j (kind_of (slice_get p.instrs d))) _ m))

    -- at a place
    placed : (f : ℕ → Kind → List (EdgeKind × ℕ × ℕ)) (x : EdgeKind × ℕ × ℕ) (i : ℕ) (kind : Kind) → IsAt p i kind → In x (f i kind) → In x (at_places f 0 p.instrs)
    placed f x i kind at m = let z : 0 + i ≡ i = omega arith in in_places f x 0 i kind p.instrs at (subst (λ n. In x (f n kind)) (sym z) m)

    to_param_in : (kind : EdgeKind) (callee : Callee) (args : List ℕ) (g k j : ℕ) (takes : Bool) (fn : Function) → In (g, takes) (may_mean p callee) → IsFunction p g fn
        → param_of takes (length (arguments callee args)) k ≡ Some j → In (kind, fn.entry, j) (to_params_of p kind callee args k)
    to_param_in kind callee args g k j takes fn m is param =
        in_each (λ (h : ℕ × Bool). to_param (slice_get p.functions h.0) kind (param_of h.1 (length (arguments callee args)) k)) (g, takes) (kind, fn.entry, j) (may_mean p callee) m
        (subst (λ o. In (kind, fn.entry, j) (to_param o kind (param_of takes (length (arguments callee args)) k))) (sym is)
        (subst (λ o. In (kind, fn.entry, j) (to_param (Some fn) kind o)) (sym param) (here refl)))

    flows_true : (i g : ℕ) (fn : Function) → IsFunction p g fn → fn.external ≡ Some true → cleans p pr i g ≡ false → flows_at p pr i g (slice_get p.functions g) ≡ true
    flows_true i g fn is flows clean =
        subst (λ o. flows_at p pr i g o ≡ true) (sym is) (both (is_flowing fn.external) (not (cleans p pr i g)) (subst (λ o. is_flowing o ≡ true) (sym flows) refl) (ap not clean))

    looks_one : (i g : ℕ) (o : Option Function) → slice_get p.functions g ≡ o → LooksInside p pr i g → looks_in p pr i g o ≡ true
    looks_one i g None e (a_sink h) = h
    looks_one i g (Some fn) e (a_sink h) = or_left (is_sink p pr i g) (is_outside fn.external) h
    looks_one i g None e (an_external fn flows is h) = let f = sym e ∙ is in absurd cc
    looks_one i g (Some fn) e (an_external other flows is h) =
        let f : other ≡ fn = (let z = sym is ∙ e in cc) in
        or_right (is_sink p pr i g) (is_outside fn.external) (subst (λ o. is_outside o ≡ true) (sym (sym (ap (λ (x : Function). x.external) f) ∙ h)) refl)

    looks_true : (i g : ℕ) (takes : Bool) (callee : Callee) → In (g, takes) (may_mean p callee) → LooksInside p pr i g → looks_at p pr i callee ≡ true
    looks_true i g takes callee m looks =
        any_true (λ (h : ℕ × Bool). looks_in p pr i h.0 (slice_get p.functions h.0)) (g, takes) (may_mean p callee) m (looks_one i g (slice_get p.functions g) refl looks)

    to_each_in : (kind : EdgeKind) (i k : ℕ) (ks : List ℕ) → In k ks → In (kind, i, k) (to_each kind i ks)
    to_each_in kind i k ks m = in_map (λ k. (kind, i, k)) k ks m

    written : (m : Mark) (s : ℕ) (path : List PathStep) → Writes p m s path → writes_at m.index (kind_of (slice_get p.instrs m.place)) ≡ true
    written m s path (by_write {i = i} d j at from live is def refers leads) = subst (λ o. writes_at 0 o ≡ true) (sym is) refl
    written m s path (Drawn.by_grow {i = i} to at items live is refers leads) = subst (λ o. writes_at 1 o ≡ true) (sym is) refl

    from_write : (m : Mark) (s : ℕ) (path : List PathStep) (x : EdgeKind × ℕ × ℕ) → Writes p m s path → In x (at_places (met_at p pr (meets p m.place)) 0 p.instrs) → In x (edges_from p pr m.place m.index)
    from_write m s path x w h =
        in_objects m.place m.index x (in_when x (at_places (met_at p pr (meets p m.place)) 0 p.instrs) (writes_at m.index (kind_of (slice_get p.instrs m.place))) (written m s path w) h)

    read_in : (w : ℕ) (n : Mark) (s : ℕ) (path : List PathStep) → IsRead p n s path → MayMeet p s w n.place → In (Reset, n.place, n.index) (at_places (met_at p pr (meets p w)) 0 p.instrs)
    read_in w n s path (by_read {i = i} d j to at qs live is def refers leads) m =
        placed (met_at p pr (meets p w)) (Reset, i, 0) i (Read to at qs) is (in_when (Reset, i, 0) ((Reset, i, 0) ∷ []) (is_met (meets p w) i) (met s w i m) (here refl))
    read_in w n s path (Drawn.by_grow {i = i} d j to at items live is def refers leads) m =
        placed (met_at p pr (meets p w)) (Reset, i, 2) i (Grow to at items) is (in_when (Reset, i, 2) ((Reset, i, 2) ∷ []) (is_met (meets p w) i) (met s w i m) (here refl))

    -- the handed values of what is no Defer are read at its own place
    abbrev defers : Option Kind → Bool
    defers (Some (Defer callee args)) = true
    defers _ = false

    there_read : (w s i at : ℕ) → ReadAt p i at → MayMeet p s w at → defers (kind_of (slice_get p.instrs i)) ≡ false → is_met (meets p w) i ≡ true
    there_read w s i at (at_call to args callee is) meet calm = met s w i meet
    there_read w s i at (at_go args callee is) meet calm = met s w i meet
    there_read w s i at (at_exit g args callee fn is inside isf) meet calm = let z = subst (λ o. defers o ≡ false) is calm in absurd cc

    argument_in : (w s i g k n at : ℕ) (takes : Bool) (kind : Kind) (callee : Callee) (args : List ℕ) → IsAt p i kind → Hands kind callee args n → Holds p (Targets i g takes) → LooksInside p pr i g
        → k < length (arguments callee args) → ReadAt p i at → MayMeet p s w at → In (Reset, i, n + k) (at_places (met_at p pr (meets p w)) 0 p.instrs)
    argument_in w s i g k n at takes kind callee args is (by_call {to = to}) targets looks within read meet =
        placed (met_at p pr (meets p w)) (Reset, i, n + k) i (Call to callee args) is
        (in_when (Reset, i, n + k) (to_each Reset i (numbers (length to) (length (arguments callee args)))) (is_met (meets p w) i && looks_at p pr i callee)
        (both (is_met (meets p w) i) (looks_at p pr i callee) (there_read w s i at read meet (subst (λ o. defers o ≡ false) (sym is) refl)) (looks_true i g takes callee (in_targets p i g takes (Call to callee args) is targets) looks))
        (to_each_in Reset i (n + k) (numbers (length to) (length (arguments callee args))) (in_numbers (length to) (length (arguments callee args)) k within)))
    argument_in w s i g k n at takes kind callee args is by_go targets looks within read meet =
        placed (met_at p pr (meets p w)) (Reset, i, n + k) i (Go callee args) is
        (in_when (Reset, i, n + k) (to_each Reset i (numbers 0 (length (arguments callee args)))) (is_met (meets p w) i && looks_at p pr i callee)
        (both (is_met (meets p w) i) (looks_at p pr i callee) (there_read w s i at read meet (subst (λ o. defers o ≡ false) (sym is) refl)) (looks_true i g takes callee (in_targets p i g takes (Go callee args) is targets) looks))
        (to_each_in Reset i (n + k) (numbers 0 (length (arguments callee args))) (in_numbers 0 (length (arguments callee args)) k within)))
    argument_in w s i g k n at takes kind callee args is by_defer targets looks within read meet =
        placed (met_at p pr (meets p w)) (Reset, i, n + k) i (Defer callee args) is
        (in_when (Reset, i, n + k) (to_each Reset i (numbers 0 (length (arguments callee args)))) (looks_at p pr i callee)
        (looks_true i g takes callee (in_targets p i g takes (Defer callee args) is targets) looks)
        (to_each_in Reset i (n + k) (numbers 0 (length (arguments callee args))) (in_numbers 0 (length (arguments callee args)) k within)))

    called_in : (i j k g n : ℕ) (takes : Bool) (kind : Kind) (callee : Callee) (args : List ℕ) (fn : Function) → IsAt p i kind → CallsLikewise kind → Hands kind callee args n → Holds p (Targets i g takes)
        → param_of takes (length (arguments callee args)) k ≡ Some j → IsFunction p g fn → In (Enters i, fn.entry, j) (enters_from p i (n + k) (Some kind))
    called_in i j k g n takes kind callee args fn at likewise (by_call {to = to}) targets param is =
        let low : length to ≤ length to + k = omega arith in
        let z : length to + k - length to ≡ k = omega arith in
        in_when (Enters i, fn.entry, j) (to_params_of p (Enters i) callee args (length to + k - length to)) (nat_le (length to) (length to + k)) (le-leb (length to) (length to + k) low)
        (subst (λ x. In (Enters i, fn.entry, j) (to_params_of p (Enters i) callee args x)) (sym z)
        (to_param_in (Enters i) callee args g k j takes fn (in_targets p i g takes (Call to callee args) at targets) is param))
    called_in i j k g n takes kind callee args fn at likewise by_go targets param is = elim likewise [ ]
    called_in i j k g n takes kind callee args fn at likewise by_defer targets param is =
        let z : 0 + k ≡ k = omega arith in
        subst (λ x. In (Enters i, fn.entry, j) (to_params_of p (Enters i) callee args x)) (sym z)
        (to_param_in (Enters i) callee args g k j takes fn (in_targets p i g takes (Defer callee args) at targets) is param)

    -- each edge is among them
    pub in_edges : (m n : Mark) (kind : EdgeKind) → Moves p pr m kind n → In (kind, n.place, n.index) (edges_from p pr m.place m.index)
    in_edges m n kind (plain {d = d} {j = j} {i = i} {k = k} {q = q} {q' = q'} r what live at takes def) =
        in_plain d j (Plain, i, k) (in_each (λ r. at_places (plain_at pr r (may_reach p d r)) 0 p.instrs) r (Plain, i, k) (defines p d j) (in_defines p d j r def.defines)
        (placed (plain_at pr r (may_reach p d r)) (Plain, i, k) i what at (in_when (Plain, i, k) (to_each Plain i (may_take pr r what)) (member i (may_reach p d r))
        (in_member i (may_reach p d r) (in_reach p d r i what at def.reaches)) (to_each_in Plain i k (may_take pr r what) (in_take pr what r k q q' takes)))))
    in_edges m n kind (grown {i = i} to at items live is) = in_grown i 2 (Plain, i, 1) (subst (λ o. In (Plain, i, 1) (grown_from i 2 o)) (sym is) (here refl))
    in_edges m n kind (Drawn.call {i = i} {j = j} k g n' takes what callee args fn at likewise hands targets param is) =
        in_enters i (n' + k) (Enters i, fn.entry, j) (subst (λ o. In (Enters i, fn.entry, j) (enters_from p i (n' + k) o)) (sym at) (called_in i j k g n' takes what callee args fn at likewise hands targets param is))
    in_edges m n kind (go {i = i} {k = k} {j = j} g takes callee args fn at targets param is) =
        in_enters i k (Reset, fn.entry, j) (subst (λ o. In (Reset, fn.entry, j) (enters_from p i k o)) (sym at)
        (to_param_in Reset callee args g k j takes fn (in_targets p i g takes (Go callee args) at targets) is param))
    in_edges m n kind (return {i = i} {k = k} g takes to args callee fn at targets is body within clean) =
        in_returns fn.leave k (Returns i, i, k) (placed (returns_at p pr fn.leave k) (Returns i, i, k) i (Call to callee args) at
        (in_when (Returns i, i, k) ((Returns i, i, k) ∷ []) (any (λ (h : ℕ × Bool). leaves_at p pr fn.leave i h.0 (slice_get p.functions h.0)) (may_mean p callee))
        (any_true (λ (h : ℕ × Bool). leaves_at p pr fn.leave i h.0 (slice_get p.functions h.0)) (g, takes) (may_mean p callee) (in_targets p i g takes (Call to callee args) at targets)
        (subst (λ o. leaves_at p pr fn.leave i g o ≡ true) (sym is) (both (fn.leave == fn.leave) (has_body fn.external && not (cleans p pr i g)) (eq-eqb fn.leave fn.leave refl)
        (both (has_body fn.external) (not (cleans p pr i g)) (subst (λ o. has_body o ≡ true) (sym body) refl) (ap not clean))))) (here refl)))
    in_edges m n kind (external {i = i} {j = j} k g takes to args callee fn at targets is flows clean within below) =
        let low : length to ≤ length to + k = omega arith in
        let z : 0 + j ≡ j = omega arith in
        in_outside i (length to + k) (Plain, i, j) (subst (λ o. In (Plain, i, j) (outside_from p pr i (length to + k) o)) (sym at)
        (in_when (Plain, i, j) (to_each Plain i (numbers 0 (length to))) (nat_le (length to) (length to + k) && any (λ (h : ℕ × Bool). flows_at p pr i h.0 (slice_get p.functions h.0)) (may_mean p callee))
        (both (nat_le (length to) (length to + k)) (any (λ (h : ℕ × Bool). flows_at p pr i h.0 (slice_get p.functions h.0)) (may_mean p callee)) (le-leb (length to) (length to + k) low)
        (any_true (λ (h : ℕ × Bool). flows_at p pr i h.0 (slice_get p.functions h.0)) (g, takes) (may_mean p callee) (in_targets p i g takes (Call to callee args) at targets) (flows_true i g fn is flows clean)))
        (to_each_in Plain i j (numbers 0 (length to)) (subst (λ x. In x (numbers 0 (length to))) z (in_numbers 0 (length to) j below)))))
    in_edges m n kind (by_object s path writes reads meet) = from_write m s path (Reset, n.place, n.index) writes (read_in m.place n s path reads meet)
    in_edges m n kind (by_argument {i = i} k s g n' at takes path what callee args is hands targets looks within has reach writes read meet) =
        from_write m s path (Reset, i, n' + k) writes (argument_in m.place s i g k n' at takes what callee args is hands targets looks within read meet)

-- whether one of the edges leads to the node (i, k)
abbrev leads_to : ℕ → ℕ → List (EdgeKind × ℕ × ℕ) → Bool
leads_to i k es = any (λ (e : EdgeKind × ℕ × ℕ). (e.1 == i) && (e.2 == k)) es

-- no edge leads there
pub no_edge : (p : Code) (pr : Problem) (d j i k : ℕ) → leads_to i k (edges_from p pr d j) ≡ false → HasNoEdge p pr d j i k
no_edge p pr d j i k none kind e =
    let m = in_edges p pr e.from e.to kind e.moves in
    let a = subst (λ x. In (kind, e.to.place, e.to.index) (edges_from p pr x e.from.index)) (sym e.is_from.place) m in
    let b = subst (λ x. In (kind, e.to.place, e.to.index) (edges_from p pr d x)) (sym e.is_from.index) a in
    let c = subst (λ x. In (kind, x, e.to.index) (edges_from p pr d j)) (sym e.is_to.place) b in
    let f = subst (λ x. In (kind, i, x) (edges_from p pr d j)) (sym e.is_to.index) c in
    let t = any_true (λ (e : EdgeKind × ℕ × ℕ). (e.1 == i) && (e.2 == k)) (kind, i, k) (edges_from p pr d j) f (both (i == i) (k == k) (eq-eqb i i refl) (eq-eqb k k refl)) in
    let z = sym t ∙ none in
    absurd cc
