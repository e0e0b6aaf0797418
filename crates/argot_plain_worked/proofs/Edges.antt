-- The nodes and edges of the first program.
use Rattle.std.proofs.Common.{◌≡◌, ◌<◌, ◌≤◌, ℕ, zero, suc, ◌+◌, Bool, true, false, List, [], ◌∷◌, Option, Some, None, length, map, refl, sym, ap, ◌∙◌, subst, arith}
use Rattle.std.proofs.lemmas.Bool.Decides.{nat_tests}
use Rattle.std.specs.Prelude.{slice_get, nat_lt, if◌then◌else◌}
use Rattle.argot_plain.specs.Lists.{In, here, there}
use Rattle.argot_plain.specs.Code.{Code, IsAt, IsFunction, IsEntry, IsIn, successor, by_kind, Hands, by_call, by_go, by_defer, arguments, param_of, node_registers}
use Rattle.argot_plain.specs.Nodes.{Mark, mark, HasLeaf, of_kind, of_items, of_elements, of_entry}
use Rattle.argot_plain.specs.declared.functions.Function.{Function}
use Rattle.argot_plain.specs.declared.instructions.Callee.{Callee}
use Rattle.argot_plain.specs.declared.instructions.Callee.TheVariants.{Static, Value, Method}
use Rattle.argot_plain.specs.declared.instructions.Kind.{Kind}
use Rattle.argot_plain.specs.declared.instructions.Kind.TheVariants.{Op, Move, Write, Grow, Call, Go, Defer, RunDefers, Leave, Goto}
use Rattle.argot_text.specs.declared.path.PathStep.{PathStep}
use Rattle.argot_facts.specs.Copies.{Takes}
use Rattle.argot_facts.specs.Edges.{Moves, Writes}
use Rattle.argot_facts.specs.Edges as Drawn
use Rattle.argot_facts.specs.Graphs.{IsMarked, IsEdge, IsBefore, IsOrdered, by_place}
use Rattle.argot_facts.specs.Reaching.{DefinedAt, next, on}
use Rattle.argot_facts.specs.Refers.{Holds, Targets, IsLive, IsLivePlace, entry_is_live, target_is_live, target_static}
use Rattle.argot_facts.specs.Refers as Rules
use Rattle.argot_facts.specs.declared.graphs.EdgeKind.{EdgeKind}
use Rattle.argot_facts.specs.declared.graphs.EdgeKind.TheVariants.{Plain, Call as Enters, Return}
use Rattle.argot_facts.specs.declared.nodes.Node.{Node}
use Rattle.argot_plain_worked.specs.FirstFlow.{Look, program_of, asked, entry_function, source_function, sink_function, main_function, node, edge, its_nodes, its_edges, HasSevenNodes, HasSixEdges}
use Rattle.argot_plain_worked.proofs.Places.{at_place, functions_are, only_one, defined_7, defined_10, defined_16, defined_17, none_defined, inner_8, inner_9, one_leaf_of}

-- two numbers that name a node, and five that name an edge
abbrev keys : List (ℕ × ℕ)
keys = (6, 0) ∷ (7, 0) ∷ (10, 0) ∷ (11, 0) ∷ (15, 0) ∷ (16, 0) ∷ (17, 0) ∷ []

abbrev Key : Type 0
Key = ℕ × ℕ × EdgeKind × ℕ × ℕ

abbrev edge_keys : List Key
edge_keys = (6, 0, Plain, 7, 0) ∷ (7, 0, Plain, 10, 0) ∷ (10, 0, Return 15, 15, 0) ∷ (15, 0, Plain, 16, 0) ∷ (16, 0, Plain, 17, 0) ∷ (17, 0, Enters 17, 11, 0) ∷ []

mapped : {A B : Type 0} (f : A → B) (x : A) (xs : List A) → In x xs → In (f x) (map f xs)
mapped f x (y ∷ ys) (here e) = here (ap f e)
mapped f x (y ∷ ys) (there m) = there (mapped f x ys m)
mapped f x [] m = elim m [ ]

abbrev pub callee_of : Kind → Option Callee
callee_of (Call to callee args) = Some callee
callee_of (Go callee args) = Some callee
callee_of (Defer callee args) = Some callee
callee_of _ = None

abbrev pub args_of : Kind → List ℕ
args_of (Call to callee args) = args
args_of (Go callee args) = args
args_of (Defer callee args) = args
args_of _ = []

abbrev results_of : Kind → ℕ
results_of (Call to callee args) = length to
results_of _ = 0

pub hands_are : (kind : Kind) (callee : Callee) (args : List ℕ) (n : ℕ) → Hands kind callee args n → (callee_of kind ≡ Some callee) × (args_of kind ≡ args) × (results_of kind ≡ n)
hands_are kind callee args n by_call = (refl, refl, refl)
hands_are kind callee args n by_go = (refl, refl, refl)
hands_are kind callee args n by_defer = (refl, refl, refl)

param_false : (n k j : ℕ) → param_of false n k ≡ Some j → (k < n) × (j ≡ k)
param_false n k j h = param_case (nat_lt k n) refl h
  where
    param_case : (b : Bool) → nat_lt k n ≡ b → (if b then Some k else None) ≡ Some j → (k < n) × (j ≡ k)
    param_case true e h = (grind (arith, nat_tests), cc)
    param_case false e h = absurd cc

arguments_static : (callee : Callee) (args : List ℕ) (g : ℕ) → callee ≡ Static g → arguments callee args ≡ args
arguments_static callee args g e = ap (λ (c : Callee). arguments c args) e

zero_one : 0 < 1
zero_one = omega arith

nodes_ordered : IsOrdered IsBefore its_nodes
nodes_ordered zero a b h k = let x : node 6 0 ≡ a = cc in let y : node 7 0 ≡ b = cc in let l : 6 < 7 = omega arith in subst (λ (z : Node). IsBefore z b) x (subst (IsBefore (node 6 0)) y (by_place l))
nodes_ordered (suc zero) a b h k = let x : node 7 0 ≡ a = cc in let y : node 10 0 ≡ b = cc in let l : 7 < 10 = omega arith in subst (λ (z : Node). IsBefore z b) x (subst (IsBefore (node 7 0)) y (by_place l))
nodes_ordered (suc (suc zero)) a b h k = let x : node 10 0 ≡ a = cc in let y : node 11 0 ≡ b = cc in let l : 10 < 11 = omega arith in subst (λ (z : Node). IsBefore z b) x (subst (IsBefore (node 10 0)) y (by_place l))
nodes_ordered (suc (suc (suc zero))) a b h k = let x : node 11 0 ≡ a = cc in let y : node 15 0 ≡ b = cc in let l : 11 < 15 = omega arith in subst (λ (z : Node). IsBefore z b) x (subst (IsBefore (node 11 0)) y (by_place l))
nodes_ordered (suc (suc (suc (suc zero)))) a b h k = let x : node 15 0 ≡ a = cc in let y : node 16 0 ≡ b = cc in let l : 15 < 16 = omega arith in subst (λ (z : Node). IsBefore z b) x (subst (IsBefore (node 15 0)) y (by_place l))
nodes_ordered (suc (suc (suc (suc (suc zero))))) a b h k = let x : node 16 0 ≡ a = cc in let y : node 17 0 ≡ b = cc in let l : 16 < 17 = omega arith in subst (λ (z : Node). IsBefore z b) x (subst (IsBefore (node 16 0)) y (by_place l))
nodes_ordered (suc (suc (suc (suc (suc (suc zero)))))) a b h k = absurd cc
nodes_ordered (suc (suc (suc (suc (suc (suc (suc n))))))) a b h k = absurd cc

-- of any program that does what the first one does
module _ (l : Look) where
  abbrev first_flow : Code
  first_flow = program_of l

  same_kind : (i : ℕ) (a b : Kind) → IsAt first_flow i a → IsAt first_flow i b → a ≡ b
  same_kind i a b h k = let e = sym h ∙ k in cc

  no_value : (i : ℕ) (kind : Kind) → IsAt first_flow i kind → (r : ℕ) → callee_of kind ≡ Some (Value r) → ⊥
  no_value = at_place l (λ i kind. (r : ℕ) → callee_of kind ≡ Some (Value r) → ⊥) (λ r e. cc, (λ r e. cc, (λ r e. cc, (λ r e. cc, (λ r e. cc, (λ r e. cc, (λ r e. cc, (λ r e. cc, (λ r e. cc, (λ r e. cc, (λ r e. cc, (λ r e. cc, (λ r e. cc, (λ r e. cc, (λ r e. cc, (λ r e. cc, (λ r e. cc, (λ r e. cc, (λ r e. cc, (λ r e. cc, tt))))))))))))))))))))

  no_method : (i : ℕ) (kind : Kind) → IsAt first_flow i kind → (r : ℕ) (name : List ℕ) → callee_of kind ≡ Some (Method r name) → ⊥
  no_method = at_place l (λ i kind. (r : ℕ) (name : List ℕ) → callee_of kind ≡ Some (Method r name) → ⊥) (λ r name e. cc, (λ r name e. cc, (λ r name e. cc, (λ r name e. cc, (λ r name e. cc, (λ r name e. cc, (λ r name e. cc, (λ r name e. cc, (λ r name e. cc, (λ r name e. cc, (λ r name e. cc, (λ r name e. cc, (λ r name e. cc, (λ r name e. cc, (λ r name e. cc, (λ r name e. cc, (λ r name e. cc, (λ r name e. cc, (λ r name e. cc, (λ r name e. cc, tt))))))))))))))))))))

  pub no_grow : (i : ℕ) (kind : Kind) → IsAt first_flow i kind → (to at : ℕ) (items : List ℕ) → kind ≡ Grow to at items → ⊥
  no_grow = at_place l (λ i kind. (to at : ℕ) (items : List ℕ) → kind ≡ Grow to at items → ⊥) (λ to at items e. cc, (λ to at items e. cc, (λ to at items e. cc, (λ to at items e. cc, (λ to at items e. cc, (λ to at items e. cc, (λ to at items e. cc, (λ to at items e. cc, (λ to at items e. cc, (λ to at items e. cc, (λ to at items e. cc, (λ to at items e. cc, (λ to at items e. cc, (λ to at items e. cc, (λ to at items e. cc, (λ to at items e. cc, (λ to at items e. cc, (λ to at items e. cc, (λ to at items e. cc, (λ to at items e. cc, tt))))))))))))))))))))

  no_write : (i : ℕ) (kind : Kind) → IsAt first_flow i kind → (at from : ℕ) → kind ≡ Write at from → ⊥
  no_write = at_place l (λ i kind. (at from : ℕ) → kind ≡ Write at from → ⊥) (λ at from e. cc, (λ at from e. cc, (λ at from e. cc, (λ at from e. cc, (λ at from e. cc, (λ at from e. cc, (λ at from e. cc, (λ at from e. cc, (λ at from e. cc, (λ at from e. cc, (λ at from e. cc, (λ at from e. cc, (λ at from e. cc, (λ at from e. cc, (λ at from e. cc, (λ at from e. cc, (λ at from e. cc, (λ at from e. cc, (λ at from e. cc, (λ at from e. cc, tt))))))))))))))))))))

  no_go : (i : ℕ) (kind : Kind) → IsAt first_flow i kind → (callee : Callee) (args : List ℕ) → kind ≡ Go callee args → ⊥
  no_go = at_place l (λ i kind. (callee : Callee) (args : List ℕ) → kind ≡ Go callee args → ⊥) (λ callee args e. cc, (λ callee args e. cc, (λ callee args e. cc, (λ callee args e. cc, (λ callee args e. cc, (λ callee args e. cc, (λ callee args e. cc, (λ callee args e. cc, (λ callee args e. cc, (λ callee args e. cc, (λ callee args e. cc, (λ callee args e. cc, (λ callee args e. cc, (λ callee args e. cc, (λ callee args e. cc, (λ callee args e. cc, (λ callee args e. cc, (λ callee args e. cc, (λ callee args e. cc, (λ callee args e. cc, tt))))))))))))))))))))

  pub no_external : (g : ℕ) (fn : Function) → IsFunction first_flow g fn → (flows : Bool) → fn.external ≡ Some flows → ⊥
  no_external = functions_are l (λ g fn. (flows : Bool) → fn.external ≡ Some flows → ⊥) (λ b e. cc) (λ b e. cc) (λ b e. cc) (λ b e. cc)

  no_writes : (m : Mark) (s : ℕ) (path : List PathStep) → Writes first_flow m s path → ⊥
  no_writes m s path (Drawn.by_write {i = i} d j at from live is def refers ok) = no_write i (Write at from) is at from refl
  no_writes m s path (Drawn.by_grow {i = i} to at items live is refers ok) = no_grow i (Grow to at items) is to at items refl

  -- each target is called by number
  targets_are : {i g : ℕ} {takes : Bool} → Holds first_flow (Targets i g takes) → (kind : Kind) × IsAt first_flow i kind × (callee_of kind ≡ Some (Static g)) × (takes ≡ false)
  targets_are {i} {g} (Rules.target_static h n kind args inside live at hands) = (kind, at, (hands_are kind (Static g) args n hands).0, refl)
  targets_are {i} (Rules.target_value h n d j r s path kind args site fn inside live at hands def refers is function isf env) = absurd (no_value i kind at r (hands_are kind (Value r) args n hands).0)
  targets_are {i} (Rules.target_method h n d j r s name path kind args site inside live at hands def refers is wrapper) = absurd (no_method i kind at r name (hands_are kind (Method r name) args n hands).0)

  plain_are : (i : ℕ) (kind : Kind) → IsAt first_flow i kind → (d j k r : ℕ) (q q' : List PathStep) → Takes asked kind r q k q' → DefinedAt first_flow d j r i → In {A = Key} (d, j, Plain, i, k) edge_keys
  plain_are = at_place l (λ i kind. (d j k r : ℕ) (q q' : List PathStep) → Takes asked kind r q k q' → DefinedAt first_flow d j r i → In {A = Key} (d, j, Plain, i, k) edge_keys) (λ d j k r q q' t def. absurd t, (λ d j k r q q' t def. absurd t, (λ d j k r q q' t def. (let x = t.1 in absurd cc), (λ d j k r q q' t def. absurd t, (λ d j k r q q' t def. (let x = t.0 in absurd cc), (λ d j k r q q' t def. absurd t, (λ d j k r q q' t def. (let x = t.0 in absurd cc), (λ d j k r q q' t def. (let x = defined_7 l d j (subst (λ n. DefinedAt first_flow d j n 7) t.0 def) in let a = x.0 in let b = x.1 in let c = t.1 in here cc), (λ d j k r q q' t def. absurd t, (λ d j k r q q' t def. absurd t, (λ d j k r q q' t def. (let y = only_one 0 r k t.0 in let x = defined_10 l d j (subst (λ n. DefinedAt first_flow d j n 10) (sym y.1) def) in let a = x.0 in let b = x.1 in let c = y.0 in there (here cc)), (λ d j k r q q' t def. absurd t, (λ d j k r q q' t def. absurd t, (λ d j k r q q' t def. (let x = t.0 in absurd cc), (λ d j k r q q' t def. absurd t, (λ d j k r q q' t def. (let x = t.1 in absurd cc), (λ d j k r q q' t def. (let x = defined_16 l d j (subst (λ n. DefinedAt first_flow d j n 16) t.0 def) in let a = x.0 in let b = x.1 in let c = t.1 in there (there (there (here cc)))), (λ d j k r q q' t def. (let y = only_one 1 r t.0 t.1 in let x = defined_17 l d j (subst (λ n. DefinedAt first_flow d j n 17) (sym y.1) def) in let a = x.0 in let b = x.1 in let e = t.2 in let z = y.0 in let c : k ≡ 0 = omega arith in there (there (there (there (here cc))))), (λ d j k r q q' t def. absurd t, (λ d j k r q q' t def. (let x = t.0 in absurd cc), tt))))))))))))))))))))

  call_are : (i : ℕ) (kind : Kind) → IsAt first_flow i kind → (g n k : ℕ) (fn : Function) → callee_of kind ≡ Some (Static g) → results_of kind ≡ n → k < length (args_of kind) → ℕ → IsFunction first_flow g fn → In {A = Key} (i, n + k, Enters i, fn.entry, k) edge_keys
  call_are = at_place l (λ i kind. (g n k : ℕ) (fn : Function) → callee_of kind ≡ Some (Static g) → results_of kind ≡ n → k < length (args_of kind) → ℕ → IsFunction first_flow g fn → In {A = Key} (i, n + k, Enters i, fn.entry, k) edge_keys) (λ g n k fn c x y z is. absurd cc, (λ g n k fn c x y z is. absurd cc, (λ g n k fn c x y z is. absurd (omega arith), (λ g n k fn c x y z is. absurd cc, (λ g n k fn c x y z is. absurd cc, (λ g n k fn c x y z is. absurd cc, (λ g n k fn c x y z is. absurd cc, (λ g n k fn c x y z is. absurd cc, (λ g n k fn c x y z is. absurd cc, (λ g n k fn c x y z is. absurd cc, (λ g n k fn c x y z is. absurd cc, (λ g n k fn c x y z is. absurd cc, (λ g n k fn c x y z is. absurd cc, (λ g n k fn c x y z is. absurd cc, (λ g n k fn c x y z is. absurd cc, (λ g n k fn c x y z is. absurd (omega arith), (λ g n k fn c x y z is. absurd cc, (λ g n k fn c x y z is. (let e : 2 ≡ g = cc in let f : (sink_function l) ≡ fn = functions_are l (λ m f. m ≡ 2 → (sink_function l) ≡ f) (λ u. absurd (omega arith)) (λ u. absurd (omega arith)) (λ u. refl) (λ u. absurd (omega arith)) g fn is (sym e) in let a = ap (λ (u : Function). u.entry) f in let b : k ≡ 0 = omega arith in let d : n + k ≡ 0 = omega arith in there (there (there (there (there (here cc)))))), (λ g n k fn c x y z is. absurd cc, (λ g n k fn c x y z is. absurd cc, tt))))))))))))))))))))

  return_are : (i : ℕ) (kind : Kind) → IsAt first_flow i kind → (g k : ℕ) (fn : Function) → callee_of kind ≡ Some (Static g) → k < results_of kind → IsFunction first_flow g fn → In {A = Key} (fn.leave, k, Return i, i, k) edge_keys
  return_are = at_place l (λ i kind. (g k : ℕ) (fn : Function) → callee_of kind ≡ Some (Static g) → k < results_of kind → IsFunction first_flow g fn → In {A = Key} (fn.leave, k, Return i, i, k) edge_keys) (λ g k fn c y is. absurd cc, (λ g k fn c y is. absurd cc, (λ g k fn c y is. absurd (omega arith), (λ g k fn c y is. absurd cc, (λ g k fn c y is. absurd cc, (λ g k fn c y is. absurd cc, (λ g k fn c y is. absurd cc, (λ g k fn c y is. absurd cc, (λ g k fn c y is. absurd cc, (λ g k fn c y is. absurd cc, (λ g k fn c y is. absurd cc, (λ g k fn c y is. absurd cc, (λ g k fn c y is. absurd cc, (λ g k fn c y is. absurd cc, (λ g k fn c y is. absurd cc, (λ g k fn c y is. (let e : 1 ≡ g = cc in let f : (source_function l) ≡ fn = functions_are l (λ m f. m ≡ 1 → (source_function l) ≡ f) (λ u. absurd (omega arith)) (λ u. refl) (λ u. absurd (omega arith)) (λ u. absurd (omega arith)) g fn is (sym e) in let a = ap (λ (u : Function). u.leave) f in let b : k ≡ 0 = omega arith in there (there (here cc))), (λ g k fn c y is. absurd cc, (λ g k fn c y is. absurd (omega arith), (λ g k fn c y is. absurd cc, (λ g k fn c y is. absurd cc, tt))))))))))))))))))))

  moves_are : (m : Mark) (kind : EdgeKind) (n : Mark) → Moves first_flow asked m kind n → In {A = Key} (m.place, m.index, kind, n.place, n.index) edge_keys
  moves_are m e n (Drawn.plain {d} {j} {i} {k} {q} {q'} r kind live at takes def) = plain_are i kind at d j k r q q' takes def
  moves_are m e n (Drawn.grown {i = i} to at items live is) = absurd (no_grow i (Grow to at items) is to at items refl)
  moves_are m e n (Drawn.call {i = i} {j = j} k g c takes kind callee args fn at likewise hands targets param is) =
      let t = targets_are targets in
      let same = same_kind i t.0 kind t.1 at in
      let h = hands_are kind callee args c hands in
      let callee_is : callee_of kind ≡ Some (Static g) = ap callee_of (sym same) ∙ t.2 in
      let static : callee ≡ Static g = (let x = sym h.0 ∙ callee_is in cc) in
      let p1 = subst (λ b. param_of b (length (arguments callee args)) k ≡ Some j) t.3 param in
      let p2 = subst (λ (xs : List ℕ). param_of false (length xs) k ≡ Some j) (arguments_static callee args g static ∙ sym h.1) p1 in
      let p3 = param_false (length (args_of kind)) k j p2 in
      subst (λ x. In {A = Key} (i, c + k, Enters i, fn.entry, x) edge_keys) (sym p3.1) (call_are i kind at g c k fn callee_is h.2 p3.0 0 is)
  moves_are m e n (Drawn.go {i = i} g takes callee args fn at targets param is) = absurd (no_go i (Go callee args) at callee args refl)
  moves_are m e n (Drawn.return {i = i} {k = k} g takes to args callee fn at targets is body within clean) =
      let t = targets_are targets in
      let same = same_kind i t.0 (Call to callee args) t.1 at in
      return_are i (Call to callee args) at g k fn (ap callee_of (sym same) ∙ t.2) within is
  moves_are m e n (Drawn.external k g takes to args callee fn at targets is ext clean within result) = absurd (no_external g fn is true ext)
  moves_are m e n (Drawn.by_object s path writes read meet) = absurd (no_writes m s path writes)
  moves_are m e n (Drawn.by_argument {m = m'} k s g c at takes path kind callee args is hands targets looks within leaf reach writes read meet) = absurd (no_writes m' s path writes)

  -- a leaf has the number 0
  number_is : (i k a : ℕ) (q : List PathStep) → HasLeaf first_flow i k a q → (a ≡ 0) × (q ≡ [])
  number_is i k a q (of_kind g r kind inside at is get) = one_leaf_of l g r a q get
  number_is i k a q (of_items n to at items site is sited one get) = absurd (no_grow i (Grow to at items) is to at items refl)
  number_is i k a q (of_elements n to at items site is sited two get) = absurd (no_grow i (Grow to at items) is to at items refl)
  number_is i k a q (of_entry g e within get) = one_leaf_of l g k a q get

  node_is : (a : Node) (m : Mark) → IsMarked first_flow a m → a ≡ node m.place m.index
  node_is a m h = let x = h.place in let y = h.index in let z = (number_is m.place m.index a.leaf m.leaf h.has).0 in
      ap (λ n. record { place = n; index = a.index; leaf = a.leaf }) x ∙ ap (λ n. record { place = m.place; index = n; leaf = a.leaf }) y ∙ ap (λ n. record { place = m.place; index = m.index; leaf = n }) z

  no_more_edges : (a : Node) (kind : EdgeKind) (b : Node) → IsEdge first_flow asked a kind b → In (a, kind, b) its_edges
  no_more_edges a kind b h =
      let f : Key → Node × EdgeKind × Node = λ x. edge x.0 x.1 x.2 x.3 x.4 in
      let m = mapped f (h.from.place, h.from.index, kind, h.to.place, h.to.index) edge_keys (moves_are h.from kind h.to h.moves) in
      let x = node_is a h.from h.is_from in
      let y = node_is b h.to h.is_to in
      subst (λ (n : Node). In {A = Node × EdgeKind × Node} (n, kind, b) its_edges) (sym x) (subst (λ (n : Node). In {A = Node × EdgeKind × Node} (node h.from.place h.from.index, kind, n) its_edges) (sym y) m)

  inside_2 : IsIn first_flow 2 0
  inside_2 = let low : 0 ≤ 2 = omega arith in let high : 2 ≤ 4 = omega arith in record { fn = (entry_function l); is = refl; low = low; high = high }

  inside_6 : IsIn first_flow 6 1
  inside_6 = let low : 5 ≤ 6 = omega arith in let high : 6 ≤ 10 = omega arith in record { fn = (source_function l); is = refl; low = low; high = high }

  inside_7 : IsIn first_flow 7 1
  inside_7 = let low : 5 ≤ 7 = omega arith in let high : 7 ≤ 10 = omega arith in record { fn = (source_function l); is = refl; low = low; high = high }

  inside_10 : IsIn first_flow 10 1
  inside_10 = let low : 5 ≤ 10 = omega arith in let high : 10 ≤ 10 = omega arith in record { fn = (source_function l); is = refl; low = low; high = high }

  inside_15 : IsIn first_flow 15 3
  inside_15 = let low : 14 ≤ 15 = omega arith in let high : 15 ≤ 19 = omega arith in record { fn = (main_function l); is = refl; low = low; high = high }

  inside_16 : IsIn first_flow 16 3
  inside_16 = let low : 14 ≤ 16 = omega arith in let high : 16 ≤ 19 = omega arith in record { fn = (main_function l); is = refl; low = low; high = high }

  inside_17 : IsIn first_flow 17 3
  inside_17 = let low : 14 ≤ 17 = omega arith in let high : 17 ≤ 19 = omega arith in record { fn = (main_function l); is = refl; low = low; high = high }

  main_is_live : Holds first_flow (IsLive 3)
  main_is_live = target_is_live 2 false (target_static 0 0 (Call [] (Static 3) []) [] inside_2 entry_is_live refl by_call)

  source_is_target : Holds first_flow (Targets 15 1 false)
  source_is_target = target_static 3 1 (Call (0 ∷ []) (Static 1) []) [] inside_15 main_is_live refl by_call

  sink_is_target : Holds first_flow (Targets 17 2 false)
  sink_is_target = target_static 3 0 (Call [] (Static 2) (1 ∷ [])) (1 ∷ []) inside_17 main_is_live refl by_call

  source_is_live : Holds first_flow (IsLive 1)
  source_is_live = target_is_live 15 false source_is_target

  live_7 : IsLivePlace first_flow 7
  live_7 = record { function = 1; is_in = inside_7; is_live = source_is_live }

  live_10 : IsLivePlace first_flow 10
  live_10 = record { function = 1; is_in = inside_10; is_live = source_is_live }

  live_16 : IsLivePlace first_flow 16
  live_16 = record { function = 3; is_in = inside_16; is_live = main_is_live }

  live_17 : IsLivePlace first_flow 17
  live_17 = record { function = 3; is_in = inside_17; is_live = main_is_live }

  marked_6 : IsMarked first_flow (node 6 0) (mark 6 0 [])
  marked_6 = record { place = refl; index = refl; has = of_kind 1 1 (Op 1 []) inside_6 refl refl refl }

  marked_7 : IsMarked first_flow (node 7 0) (mark 7 0 [])
  marked_7 = record { place = refl; index = refl; has = of_kind 1 0 (Move 0 1 []) inside_7 refl refl refl }

  marked_10 : IsMarked first_flow (node 10 0) (mark 10 0 [])
  marked_10 = record { place = refl; index = refl; has = of_kind 1 0 (Leave (0 ∷ [])) inside_10 refl refl refl }

  marked_15 : IsMarked first_flow (node 15 0) (mark 15 0 [])
  marked_15 = record { place = refl; index = refl; has = of_kind 3 0 (Call (0 ∷ []) (Static 1) []) inside_15 refl refl refl }

  marked_16 : IsMarked first_flow (node 16 0) (mark 16 0 [])
  marked_16 = record { place = refl; index = refl; has = of_kind 3 1 (Move 1 0 []) inside_16 refl refl refl }

  marked_17 : IsMarked first_flow (node 17 0) (mark 17 0 [])
  marked_17 = record { place = refl; index = refl; has = of_kind 3 1 (Call [] (Static 2) (1 ∷ [])) inside_17 refl refl refl }

  marked_11 : IsMarked first_flow (node 11 0) (mark 11 0 [])
  marked_11 = record { place = refl; index = refl; has = of_entry 2 (record { fn = (sink_function l); is = refl; at = refl }) zero_one refl }

  edge_6 : IsEdge first_flow asked (node 6 0) Plain (node 7 0)
  edge_6 = record { from = mark 6 0 []; to = mark 7 0 []; is_from = marked_6; is_to = marked_7; moves = Drawn.plain 1 (Move 0 1 []) live_7 refl (refl, refl, refl) (record { defines = by_kind (Op 1 []) refl refl; reaches = next (successor (Op 1 []) refl refl) }) }

  edge_7 : IsEdge first_flow asked (node 7 0) Plain (node 10 0)
  edge_7 = record { from = mark 7 0 []; to = mark 10 0 []; is_from = marked_7; is_to = marked_10; moves = Drawn.plain 0 (Leave (0 ∷ [])) live_10 refl (refl, refl) (record { defines = by_kind (Move 0 1 []) refl refl; reaches = on (on (next (successor (Move 0 1 []) refl refl)) (λ k x. none_defined l 8 0 k (Goto 9) refl refl (inner_8 l) x) (successor (Goto 9) refl (refl, refl))) (λ k x. none_defined l 9 0 k RunDefers refl refl (inner_9 l) x) (successor RunDefers refl refl) }) }

  edge_10 : IsEdge first_flow asked (node 10 0) (Return 15) (node 15 0)
  edge_10 = record { from = mark 10 0 []; to = mark 15 0 []; is_from = marked_10; is_to = marked_15; moves = Drawn.return 1 false (0 ∷ []) [] (Static 1) (source_function l) refl source_is_target refl refl zero_one refl }

  edge_15 : IsEdge first_flow asked (node 15 0) Plain (node 16 0)
  edge_15 = record { from = mark 15 0 []; to = mark 16 0 []; is_from = marked_15; is_to = marked_16; moves = Drawn.plain 0 (Move 1 0 []) live_16 refl (refl, refl, refl) (record { defines = by_kind (Call (0 ∷ []) (Static 1) []) refl refl; reaches = next (successor (Call (0 ∷ []) (Static 1) []) refl refl) }) }

  edge_16 : IsEdge first_flow asked (node 16 0) Plain (node 17 0)
  edge_16 = record { from = mark 16 0 []; to = mark 17 0 []; is_from = marked_16; is_to = marked_17; moves = Drawn.plain 1 (Call [] (Static 2) (1 ∷ [])) live_17 refl (0, refl, refl, refl) (record { defines = by_kind (Move 1 0 []) refl refl; reaches = next (successor (Move 1 0 []) refl refl) }) }

  edge_17 : IsEdge first_flow asked (node 17 0) (Enters 17) (node 11 0)
  edge_17 = record { from = mark 17 0 []; to = mark 11 0 []; is_from = marked_17; is_to = marked_11; moves = Drawn.call 0 2 0 false (Call [] (Static 2) (1 ∷ [])) (Static 2) (1 ∷ []) (sink_function l) refl Drawn.a_call by_call sink_is_target refl refl }

  abbrev Drawn_edge : Node × EdgeKind × Node → Type 0
  Drawn_edge x = IsEdge first_flow asked x.0 x.1 x.2

  drawn : (x : Node × EdgeKind × Node) → In x its_edges → Drawn_edge x
  drawn x (here e) = subst Drawn_edge (sym e) edge_6
  drawn x (there (here e)) = subst Drawn_edge (sym e) edge_7
  drawn x (there (there (here e))) = subst Drawn_edge (sym e) edge_10
  drawn x (there (there (there (here e)))) = subst Drawn_edge (sym e) edge_15
  drawn x (there (there (there (there (here e))))) = subst Drawn_edge (sym e) edge_16
  drawn x (there (there (there (there (there (here e)))))) = subst Drawn_edge (sym e) edge_17
  drawn x (there (there (there (there (there (there (m))))))) = elim m [ ]

  pub six_edges : HasSixEdges first_flow
  six_edges a kind b = (no_more_edges a kind b, drawn (a, kind, b))

  abbrev IsNodeOf : Node → Type 0
  IsNodeOf a = (m : Mark) × IsMarked first_flow a m

  node_there : (a : Node) → In a its_nodes → IsNodeOf a
  node_there a (here e) = subst IsNodeOf (sym e) (mark 6 0 [], marked_6)
  node_there a (there (here e)) = subst IsNodeOf (sym e) (mark 7 0 [], marked_7)
  node_there a (there (there (here e))) = subst IsNodeOf (sym e) (mark 10 0 [], marked_10)
  node_there a (there (there (there (here e)))) = subst IsNodeOf (sym e) (mark 11 0 [], marked_11)
  node_there a (there (there (there (there (here e))))) = subst IsNodeOf (sym e) (mark 15 0 [], marked_15)
  node_there a (there (there (there (there (there (here e)))))) = subst IsNodeOf (sym e) (mark 16 0 [], marked_16)
  node_there a (there (there (there (there (there (there (here e))))))) = subst IsNodeOf (sym e) (mark 17 0 [], marked_17)
  node_there a (there (there (there (there (there (there (there (m)))))))) = elim m [ ]

  register_nodes : (i : ℕ) (kind : Kind) → IsAt first_flow i kind → (k r : ℕ) → slice_get (node_registers kind) k ≡ Some r → In {A = ℕ × ℕ} (i, k) keys
  register_nodes = at_place l (λ i kind. (k r : ℕ) → slice_get (node_registers kind) k ≡ Some r → In {A = ℕ × ℕ} (i, k) keys) (λ k r h. absurd cc, (λ k r h. absurd cc, (λ k r h. absurd cc, (λ k r h. absurd cc, (λ k r h. absurd cc, (λ k r h. absurd cc, (λ k r h. (let x = (only_one 1 r k h).0 in here cc), (λ k r h. (let x = (only_one 0 r k h).0 in there (here cc)), (λ k r h. absurd cc, (λ k r h. absurd cc, (λ k r h. (let x = (only_one 0 r k h).0 in there (there (here cc))), (λ k r h. absurd cc, (λ k r h. absurd cc, (λ k r h. absurd cc, (λ k r h. absurd cc, (λ k r h. (let x = (only_one 0 r k h).0 in there (there (there (there (here cc))))), (λ k r h. (let x = (only_one 1 r k h).0 in there (there (there (there (there (here cc)))))), (λ k r h. (let x = (only_one 1 r k h).0 in there (there (there (there (there (there (here cc))))))), (λ k r h. absurd cc, (λ k r h. absurd cc, tt))))))))))))))))))))

  entry_nodes : (i g k : ℕ) (e : IsEntry first_flow i g) → k < e.fn.params → In {A = ℕ × ℕ} (i, k) keys
  entry_nodes i g k e within = functions_are l (λ g fn. i ≡ fn.entry → k < fn.params → In {A = ℕ × ℕ} (i, k) keys) (λ x y. absurd (omega arith)) (λ x y. absurd (omega arith)) (λ x y. (let z : k ≡ 0 = omega arith in there (there (there (here cc))))) (λ x y. absurd (omega arith)) g e.fn e.is e.at within

  leaf_nodes : (i k a : ℕ) (q : List PathStep) → HasLeaf first_flow i k a q → In {A = ℕ × ℕ} (i, k) keys
  leaf_nodes i k a q (of_kind g r kind inside at is get) = register_nodes i kind at k r is
  leaf_nodes i k a q (of_items n to at items site is sited one get) = absurd (no_grow i (Grow to at items) is to at items refl)
  leaf_nodes i k a q (of_elements n to at items site is sited two get) = absurd (no_grow i (Grow to at items) is to at items refl)
  leaf_nodes i k a q (of_entry g e within get) = entry_nodes i g k e within

  node_among : (a : Node) → IsNodeOf a → In a its_nodes
  node_among a h =
      let m = mapped (λ (x : ℕ × ℕ). node x.0 x.1) (h.0.place, h.0.index) keys (leaf_nodes h.0.place h.0.index a.leaf h.0.leaf h.1.has) in
      subst (λ (n : Node). In n its_nodes) (sym (node_is a h.0 h.1)) m

  pub seven_nodes : HasSevenNodes first_flow
  seven_nodes = record { ordered = nodes_ordered; each = λ a. (node_there a, node_among a) }
