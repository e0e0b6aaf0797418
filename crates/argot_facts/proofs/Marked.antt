-- A node of the list is a node of the program, and each of these stands in the list.
use Rattle.std.proofs.Common.{◌≡◌, ℕ, zero, suc, ◌+◌, ◌-◌, ◌<◌, ◌≤◌, Bool, List, [], ◌∷◌, Some, None, Option, take, drop, refl, sym, ap, ◌∙◌, inl, inr, arith, subst, eqb-true, eq-eqb}
use Rattle.std.specs.Prelude.{◌⊎◌, slice_get, length, ◌==◌, if◌then◌else◌}
use Rattle.std.proofs.lemmas.Bool.{cases_eq, cases_Bool, false_from_ne_true}
use Rattle.argot_plain.specs.Lists.{In}
use Rattle.argot_plain.specs.Code.{Code, IsAt, IsFunction, IsIn, IsSiteOf, kind_of, leaves, leaves_in, element_leaves, node_registers}
use Rattle.argot_plain.specs.Nodes.{Mark, mark, HasLeaf, of_kind, of_items, of_elements, of_entry}
use Rattle.argot_plain.specs.WellFormed.{WellFormed}
use Rattle.argot_plain.specs.declared.functions.Function.{Function}
use Rattle.argot_plain.specs.declared.instructions.Instr.{Instr}
use Rattle.argot_plain.specs.declared.instructions.Kind.{Kind}
use Rattle.argot_plain.specs.declared.instructions.Kind.TheVariants.{Grow, Goto}
use Rattle.argot_plain.specs.declared.sites.Site.{Site}
use Rattle.argot_text.specs.declared.path.PathStep.{PathStep}
use Rattle.argot_facts.specs.Numbers.{leaves_of, own_site, first_site, elements_at, kind_leaves, place_leaves}
use Rattle.argot_facts.specs.Graphs.{IsMarked, AreNodes}
use Rattle.argot_facts.specs.Numbers.{node, nodes_of}
use Rattle.argot_facts.specs.declared.nodes.Node.{Node}
use Rattle.argot_facts.proofs.Placed.{index_found, index_listed, place_found, place_listed, function_found, function_listed, nodes_sorted, one_function, place_in}
use Rattle.argot_facts.proofs.Listed.{get_within, get_at, get-map, map-get, get-take, take-get, get-drop}

-- the first of the sites of a place
pub first_found : (i b : ℕ) (sites : List Site) (n : ℕ) → first_site i b sites ≡ Some n → (m : ℕ) × (site : Site) × (n ≡ b + m) × (slice_get sites m ≡ Some site) × (site.place ≡ i)
first_found i b [] n h = absurd cc
first_found i b (site ∷ sites) n h = elim (cases_Bool (site.place == i)) [
  | inl t ↦ let e : (if site.place == i then Some b else first_site i (b + 1) sites) ≡ Some b = ap (λ c. if c then Some b else first_site i (b + 1) sites) t in
      let s : b ≡ n = cc in (0, site, omega arith, refl, eqb-true site.place i t)
  | inr f ↦ let e : (if site.place == i then Some b else first_site i (b + 1) sites) ≡ first_site i (b + 1) sites = ap (λ c. if c then Some b else first_site i (b + 1) sites) f in
      let r = first_found i (b + 1) sites n (sym e ∙ h) in (suc r.0, r.1, omega (arith, r.2), r.3, r.4)
]

pub first_finds : (i b : ℕ) (sites : List Site) (k : ℕ) (site : Site) → slice_get sites k ≡ Some site → site.place ≡ i → (n : ℕ) × (first_site i b sites ≡ Some n)
first_finds i b [] k site h e = absurd cc
first_finds i b (s ∷ sites) zero site h e =
    let x : site ≡ s = cc in
    (b, ap (λ c. if c then Some b else first_site i (b + 1) sites) (eq-eqb s.place i (subst (λ (y : Site). y.place ≡ i) x e)))
first_finds i b (s ∷ sites) (suc k) site h e = elim (cases_Bool (s.place == i)) [
  | inl t ↦ (b, ap (λ c. if c then Some b else first_site i (b + 1) sites) t)
  | inr f ↦ let r = first_finds i (b + 1) sites k site h e in (r.0, ap (λ c. if c then Some b else first_site i (b + 1) sites) f ∙ r.1)
]

module _ (p : Code) where
  -- the own site of a place is one of its sites
  pub own_is : (i n : ℕ) → own_site p i ≡ Some n → (site : Site) × IsSiteOf p i n site
  own_is i n h =
      let r = first_found i (length p.globals) (drop (length p.globals) p.sites) n h in
      let e : slice_get p.sites n ≡ Some r.1 = ap (slice_get p.sites) r.2 ∙ sym (get-drop (length p.globals) p.sites r.0) ∙ r.3 in
      (r.1, record { is = e; behind = omega (arith, r.2); place = r.4 })

  -- and where there is one, there is an own site
  pub own_there : (i n : ℕ) (site : Site) → IsSiteOf p i n site → (m : ℕ) × (own_site p i ≡ Some m)
  own_there i n site s =
      let k = n - length p.globals in
      let z : length p.globals + k ≡ n = omega (arith, s.behind) in
      first_finds i (length p.globals) (drop (length p.globals) p.sites) k site (get-drop (length p.globals) p.sites k ∙ ap (slice_get p.sites) z ∙ s.is) s.place

  pub register_leaves : (g : ℕ) (fn : Function) (r : ℕ) → IsFunction p g fn → leaves p g r ≡ leaves_of fn r
  register_leaves g fn r is = ap (λ o. leaves_in o r) is

  elements_of_site : (n : ℕ) (site : Site) → slice_get p.sites n ≡ Some site → elements_at p (Some n) ≡ element_leaves site
  elements_of_site n site e = ap (λ o. elim o as (λ x. List (List PathStep)) [ None ↦ [] | Some s ↦ element_leaves s ]) e

  -- the leaf paths of a register at the index by which it is a node
  pub kind_leaf : (fn : Function) (i k r : ℕ) (kind : Kind) → slice_get (node_registers kind) k ≡ Some r → slice_get (kind_leaves p fn i (Some kind)) k ≡ Some (leaves_of fn r)
  kind_leaf fn i zero r (Grow to at items) h = let e : to ≡ r = cc in ap (λ x. Some (leaves_of fn x)) e
  kind_leaf fn i (suc k) r (Grow to at items) h = absurd cc
  kind_leaf fn i k r kind h = map-get (leaves_of fn) (node_registers kind) k r h

  module _ (wf : WellFormed p) where
    -- nothing that has nodes stands at the first place of a function, but for its parameters
    pub not_first : (i g k r : ℕ) (fn : Function) (kind : Kind) → IsFunction p g fn → IsAt p i kind → slice_get (node_registers kind) k ≡ Some r → i ≡ fn.entry → ⊥
    not_first i g k r fn kind is at reg e = split fn.external refl
      where
        goes_on : (target : ℕ) → IsAt p fn.entry (Goto target) → ⊥
        goes_on target h =
            let s : Some kind ≡ Some (Goto target) = sym at ∙ ap (λ c. kind_of (slice_get p.instrs c)) e ∙ h in
            let t : kind ≡ Goto target = cc in
            let u : slice_get (node_registers (Goto target)) k ≡ Some r = subst (λ c. slice_get (node_registers c) k ≡ Some r) t reg in
            cc

        split : (x : Option Bool) → fn.external ≡ x → ⊥
        split None x = goes_on (fn.entry + 1) (wf.entry_goto g fn is x)
        split (Some flows) x = goes_on fn.entry (wf.externals g flows fn is x).goto

    inner_leaves : (fn : Function) (i : ℕ) (kind : Kind) → IsAt p i kind → (i ≡ fn.entry → ⊥) → place_leaves p fn i ≡ kind_leaves p fn i (Some kind)
    inner_leaves fn i kind at other =
        ap (λ b. if b then take fn.params fn.registers else kind_leaves p fn i (kind_of (slice_get p.instrs i))) (false_from_ne_true (i == fn.entry) (λ e. other (eqb-true i fn.entry e)))
        ∙ ap (kind_leaves p fn i) at

    entry_leaves : (fn : Function) (i : ℕ) → i ≡ fn.entry → place_leaves p fn i ≡ take fn.params fn.registers
    entry_leaves fn i e = ap (λ b. if b then take fn.params fn.registers else kind_leaves p fn i (kind_of (slice_get p.instrs i))) (eq-eqb i fn.entry e)

    place_within : (i : ℕ) (kind : Kind) → IsAt p i kind → i < length p.instrs
    place_within i kind at = within (slice_get p.instrs i) refl
      where
        within : (o : Option Instr) → slice_get p.instrs i ≡ o → i < length p.instrs
        within (Some x) h = get_within p.instrs i x h
        within None h = let z : kind_of None ≡ Some kind = sym (ap kind_of h) ∙ at in absurd cc

    -- what a list of leaves has at an index of a place
    has_kind_leaf : (g : ℕ) (fn : Function) (i k a : ℕ) (qs : List (List PathStep)) (q : List PathStep) (kind : Kind) → IsFunction p g fn → IsIn p i g → IsAt p i kind
        → slice_get (kind_leaves p fn i (Some kind)) k ≡ Some qs → slice_get qs a ≡ Some q → HasLeaf p i k a q
    has_kind_leaf g fn i zero a qs q (Grow to at items) is inside at-i e f =
        let z : leaves_of fn to ≡ qs = cc in
        of_kind g to (Grow to at items) inside at-i refl (ap (λ x. slice_get x a) (register_leaves g fn to is ∙ z) ∙ f)
    has_kind_leaf g fn i (suc zero) a qs q (Grow to at items) is inside at-i e f = elements (own_site p i) refl
      where
        elements : (o : Option ℕ) → own_site p i ≡ o → HasLeaf p i (suc zero) a q
        elements None h = let z : elements_at p (own_site p i) ≡ qs = cc in let y : slice_get (elements_at p None) a ≡ Some q = subst (λ x. slice_get (elements_at p x) a ≡ Some q) h (ap (λ x. slice_get x a) z ∙ f) in absurd cc
        elements (Some n) h =
            let z : elements_at p (own_site p i) ≡ qs = cc in
            let s = own_is i n h in
            let y : slice_get (elements_at p (Some n)) a ≡ Some q = subst (λ x. slice_get (elements_at p x) a ≡ Some q) h (ap (λ x. slice_get x a) z ∙ f) in
            of_items n to at items s.0 at-i s.1 refl (ap (λ x. slice_get x a) (sym (elements_of_site n s.0 s.1.is)) ∙ y)
    has_kind_leaf g fn i (suc (suc zero)) a qs q (Grow to at items) is inside at-i e f = elements (own_site p i) refl
      where
        elements : (o : Option ℕ) → own_site p i ≡ o → HasLeaf p i (suc (suc zero)) a q
        elements None h = let z : elements_at p (own_site p i) ≡ qs = cc in let y : slice_get (elements_at p None) a ≡ Some q = subst (λ x. slice_get (elements_at p x) a ≡ Some q) h (ap (λ x. slice_get x a) z ∙ f) in absurd cc
        elements (Some n) h =
            let z : elements_at p (own_site p i) ≡ qs = cc in
            let s = own_is i n h in
            let y : slice_get (elements_at p (Some n)) a ≡ Some q = subst (λ x. slice_get (elements_at p x) a ≡ Some q) h (ap (λ x. slice_get x a) z ∙ f) in
            of_elements n to at items s.0 at-i s.1 refl (ap (λ x. slice_get x a) (sym (elements_of_site n s.0 s.1.is)) ∙ y)
    has_kind_leaf g fn i (suc (suc (suc k))) a qs q (Grow to at items) is inside at-i e f = absurd cc
    has_kind_leaf g fn i k a qs q kind is inside at-i e f =
        let r = get-map (leaves_of fn) (node_registers kind) k qs e in
        of_kind g r.0 kind inside at-i r.1 (ap (λ x. slice_get x a) (register_leaves g fn r.0 is ∙ sym r.2) ∙ f)

    -- a leaf of a place of the function
    has_leaf : (g : ℕ) (fn : Function) (i k a : ℕ) (qs : List (List PathStep)) (q : List PathStep) → IsFunction p g fn → IsIn p i g
        → slice_get (place_leaves p fn i) k ≡ Some qs → slice_get qs a ≡ Some q → HasLeaf p i k a q
    has_leaf g fn i k a qs q is inside e f = elim (cases_eq i fn.entry) [
      | inl s ↦
          let t = get-take fn.params fn.registers k qs (ap (λ x. slice_get x k) (sym (entry_leaves fn i s)) ∙ e) in
          let reg : leaves p g k ≡ qs = register_leaves g fn k is ∙ ap (λ o. elim o as (λ x. List (List PathStep)) [ None ↦ [] | Some x ↦ x ]) t.1 in
          of_entry g (record { fn = fn; is = is; at = s }) t.0 (ap (λ x. slice_get x a) reg ∙ f)
      | inr s ↦ inner (kind_of (slice_get p.instrs i)) refl s
    ]
      where
        inner : (o : Option Kind) → kind_of (slice_get p.instrs i) ≡ o → (i ≡ fn.entry → ⊥) → HasLeaf p i k a q
        inner (Some kind) h s = has_kind_leaf g fn i k a qs q kind is inside h (ap (λ x. slice_get x k) (sym (inner_leaves fn i kind h s)) ∙ e) f
        inner None h s =
            let z : place_leaves p fn i ≡ kind_leaves p fn i None = ap (λ b. if b then take fn.params fn.registers else kind_leaves p fn i (kind_of (slice_get p.instrs i))) (false_from_ne_true (i == fn.entry) (λ x. s (eqb-true i fn.entry x))) ∙ ap (kind_leaves p fn i) h in
            let y : slice_get (kind_leaves p fn i None) k ≡ Some qs = ap (λ x. slice_get x k) (sym z) ∙ e in
            absurd cc

    -- where a leaf stands among those of its place
    pub record IsListed (i k a : ℕ) (q : List PathStep) : Type 0 where
      pub function : ℕ
      pub inside : IsIn p i function
      pub leaves : List (List PathStep)
      pub index : slice_get (place_leaves p inside.fn i) k ≡ Some leaves
      pub leaf : slice_get leaves a ≡ Some q

    grown : (i k n : ℕ) (to at a : ℕ) (items : List ℕ) (site : Site) (q : List PathStep) → IsAt p i (Grow to at items) → IsSiteOf p i n site → slice_get (element_leaves site) a ≡ Some q → (k ≡ 1) ⊎ (k ≡ 2) → IsListed i k a q
    grown i k n to at a items site q at-i sited leaf ks =
        let w = wf.entry_function in
        let ih = place_in p wf.ranges w.fn w.is i (place_within i (Grow to at items) at-i) in
        let fn = ih.1.fn in
        let other = not_first i ih.0 0 to fn (Grow to at items) ih.1.is at-i refl in
        let one = (wf.grow_site i to at items at-i).one in
        let own = own_there i n site sited in
        let t = own_is i own.0 own.1 in
        let same : own.0 ≡ n = one.alone own.0 t.0 t.1 ∙ sym (one.alone n site sited) in
        let els : elements_at p (own_site p i) ≡ element_leaves site = ap (elements_at p) (own.1 ∙ ap Some same) ∙ elements_of_site n site sited.is in
        let all = inner_leaves fn i (Grow to at items) at-i other in
        record {
          function = ih.0;
          inside = ih.1;
          leaves = element_leaves site;
          index = elim ks [
            | inl e ↦ rw e (ap (λ x. slice_get x 1) all ∙ ap Some els)
            | inr e ↦ rw e (ap (λ x. slice_get x 2) all ∙ ap Some els)
          ];
          leaf = leaf;
        }

    pub leaf_listed : (i k a : ℕ) (q : List PathStep) → HasLeaf p i k a q → IsListed i k a q
    leaf_listed i k a q (of_kind g r kind inside at-i reg leaf) = record {
      function = g;
      inside = inside;
      leaves = leaves_of inside.fn r;
      index = ap (λ x. slice_get x k) (inner_leaves inside.fn i kind at-i (not_first i g k r inside.fn kind inside.is at-i reg)) ∙ kind_leaf inside.fn i k r kind reg;
      leaf = ap (λ x. slice_get x a) (sym (register_leaves g inside.fn r inside.is)) ∙ leaf;
    }
    leaf_listed i k a q (of_items n to at items site at-i sited one leaf) = grown i k n to at a items site q at-i sited leaf (inl one)
    leaf_listed i k a q (of_elements n to at items site at-i sited two leaf) = grown i k n to at a items site q at-i sited leaf (inr two)
    leaf_listed i k a q (of_entry g e within leaf) =
        let ranges = wf.ranges.inside g e.fn e.is in
        let reg = get_at e.fn.registers k (omega (arith, within, wf.registers.params g e.fn e.is)) in
        let same : leaves p g k ≡ reg.0 = register_leaves g e.fn k e.is ∙ ap (λ o. elim o as (λ x. List (List PathStep)) [ None ↦ [] | Some x ↦ x ]) reg.1 in
        record {
          function = g;
          inside = record { fn = e.fn; is = e.is; low = omega (arith, e.at); high = omega (arith, e.at, ranges.0, ranges.1) };
          leaves = reg.0;
          index = ap (λ x. slice_get x k) (entry_leaves e.fn i e.at) ∙ take-get e.fn.params e.fn.registers k reg.0 within reg.1;
          leaf = ap (λ x. slice_get x a) (sym same) ∙ leaf;
        }

    place_here : (g : ℕ) (fn : Function) (x : Node) (i : ℕ) → IsFunction p g fn → fn.entry ≤ i → i < fn.entry + (fn.leave + 1 - fn.entry) → IsIn p i g
    place_here g fn x i is low high = record { fn = fn; is = is; low = low; high = omega (arith, high, (wf.ranges.inside g fn is).0, (wf.ranges.inside g fn is).1) }

    found_is : (x : Node) → In x (nodes_of p) → (m : Mark) × IsMarked p x m
    found_is x h =
        let f = function_found p p.functions x h in
        let j = place_found p f.1 f.1.entry (f.1.leave + 1 - f.1.entry) x f.3 in
        let k = index_found j.0 0 (place_leaves p f.1 j.0) x j.3 in
        let q = get_at k.1 k.3 k.4 in
        let z : 0 + k.0 ≡ k.0 = omega arith in
        let at : x ≡ node j.0 k.0 k.3 = k.5 ∙ ap (λ c. node j.0 c k.3) z in (
          mark j.0 k.0 q.0,
          record {
            place = ap (λ (y : Node). y.place) at;
            index = ap (λ (y : Node). y.index) at;
            has = subst (λ a. HasLeaf p j.0 k.0 a q.0) (sym (ap (λ (y : Node). y.leaf) at)) (has_leaf f.0 f.1 j.0 k.0 k.3 k.1 q.0 f.2 (place_here f.0 f.1 x j.0 f.2 j.1 j.2) k.2 q.1);
          },
        )

    is_found : (x : Node) (m : Mark) → IsMarked p x m → In x (nodes_of p)
    is_found x m h =
        let l = leaf_listed m.place m.index x.leaf m.leaf h.has in
        let fn = l.inside.fn in
        let z : 0 + m.index ≡ m.index = omega arith in
        let n : node m.place m.index x.leaf ≡ x = ap (λ c. node c m.index x.leaf) (sym h.place) ∙ ap (λ c. node x.place c x.leaf) (sym h.index) in
        let i = wf.ranges.inside l.function fn l.inside.is in
        subst (λ y. In y (nodes_of p)) (ap (λ c. node m.place c x.leaf) z ∙ n)
        (function_listed p p.functions l.function fn (node m.place (0 + m.index) x.leaf) l.inside.is
        (place_listed p fn fn.entry (fn.leave + 1 - fn.entry) m.place (node m.place (0 + m.index) x.leaf) l.inside.low (omega (arith, l.inside.high, i.0, i.1))
        (index_listed m.place 0 (place_leaves p fn m.place) m.index l.leaves x.leaf l.index (get_within l.leaves x.leaf m.leaf l.leaf))))

    pub nodes_are : AreNodes p (nodes_of p)
    nodes_are = record {
      ordered = λ k a b e f. nodes_sorted p wf.ranges k (k + 1) a b (omega arith) e f;
      each = λ a. (found_is a, λ x. is_found a x.0 x.1);
    }

    -- a node has one mark
    pub one_mark : (x : Node) (m n : Mark) → IsMarked p x m → IsMarked p x n → m ≡ n
    one_mark x m n h k =
        let i : m.place ≡ n.place = sym h.place ∙ k.place in
        let j : m.index ≡ n.index = sym h.index ∙ k.index in
        ap (λ c. mark c m.index m.leaf) i ∙ ap (λ c. mark n.place c m.leaf) j
        ∙ ap (mark n.place n.index) (one_leaf n.place n.index x.leaf m.leaf n.leaf (subst (λ c. HasLeaf p c n.index x.leaf m.leaf) i (subst (λ c. HasLeaf p m.place c x.leaf m.leaf) j h.has)) k.has)
      where
        one_leaf : (i k a : ℕ) (q q' : List PathStep) → HasLeaf p i k a q → HasLeaf p i k a q' → q ≡ q'
        one_leaf i k a q q' h h' =
            let l = leaf_listed i k a q h in
            let l' = leaf_listed i k a q' h' in
            let g : l.function ≡ l'.function = one_function p wf.ranges i l.function l'.function l.inside l'.inside in
            let f : IsFunction p l'.function l.inside.fn = subst (λ c. IsFunction p c l.inside.fn) g l.inside.is in
            let e : Some l.inside.fn ≡ Some l'.inside.fn = sym f ∙ l'.inside.is in
            let same : l.inside.fn ≡ l'.inside.fn = cc in
            let t : Some l.leaves ≡ Some l'.leaves = sym l.index ∙ ap (λ (c : Function). slice_get (place_leaves p c i) k) same ∙ l'.index in
            let lists : l.leaves ≡ l'.leaves = cc in
            let u : Some q ≡ Some q' = sym l.leaf ∙ ap (λ c. slice_get c a) lists ∙ l'.leaf in
            cc
