-- The rules of instructions say what is so.
use Rattle.std.proofs.Common.{◌≡◌, ℕ, zero, suc, ◌+◌, true, List, [], ◌∷◌, ◌++◌, Some, None, Option, refl, sym, ap, ◌∙◌, inl, inr, arith, subst}
use Rattle.std.specs.Prelude.{slice_get, length}
use Rattle.argot_plain.specs.Lists.{In, here, there}
use Rattle.argot_plain.specs.Code.{IsAt, IsFunction, IsIn, IsSiteOf, Hands, by_call, by_go, by_defer, element_leaves, handed_values, node_registers}
use Rattle.argot_plain.specs.Lists.{without_first}
use Rattle.argot_plain.specs.Machine.{is_path_of}
use Rattle.argot_plain.specs.Nodes.{HasLeaf, of_kind, of_items, of_elements}
use Rattle.argot_plain.specs.WellFormed.{WellFormed, reference_registers}
use Rattle.argot_plain.specs.declared.functions.Function.{Function}
use Rattle.argot_plain.specs.declared.functions.Ident.{Ident}
use Rattle.argot_plain.specs.declared.instructions.Callee.{Callee}
use Rattle.argot_plain.specs.declared.instructions.Callee.TheVariants.{Value, Method}
use Rattle.argot_plain.specs.declared.instructions.Kind.{Kind}
use Rattle.argot_plain.specs.declared.instructions.Kind.TheVariants.{Move, Join, New, Step, Read, Write, Grow, Global, Assert, Call, Go, Defer, Leave, Passed}
use Rattle.argot_plain.specs.declared.sites.Site.{Site}
use Rattle.argot_text.specs.declared.position.Pos.{Pos}
use Rattle.argot_text.specs.declared.path.PathStep.{PathStep}
use Rattle.argot_text.specs.declared.path.PathStep.TheVariants.{Element}
use Rattle.argot_facts.specs.Copies.{Copies}
use Rattle.argot_facts.specs.Exact.{AreDefs}
use Rattle.argot_facts.specs.Numbers.{node, locations_of, leaves_of, own_site, shape_at}
use Rattle.argot_facts.specs.Reaching.{DefinedAt}
use Rattle.argot_facts.specs.Refers.{loc, Holds, IsLive, PlaceRefers, new, read, write, grow_fresh, grow_read, grow_copy, grow_write, global}
use Rattle.argot_facts.proofs.Marked.{register_leaves, own_is}
use Rattle.argot_facts.proofs.Listed.{in_of_get, map-get}
use Rattle.argot_points_rules.specs.Column.{owned, copies, value_copies, value_loads, value_stores, register_copies, item_copies, definitions, kind_rules, grow_rules, variable_rules}
use Rattle.argot_points_rules.specs.declared.rules.Owned.{Owned}
use Rattle.argot_points_rules.specs.declared.rules.Rule.TheVariants.{Put, Copy, Store}
use Rattle.argot_points.specs.declared.system.System.{System}
use Rattle.argot_points.specs.Meaning.{RuleHolds}
use Rattle.argot_points.proofs.Columns.{same_path_is}
use Rattle.argot_points.proofs.Each.{In-append, one-In, each_copies, each_shifts, each_keeps, each_value_copies, each_value_loads, each_value_stores}
use Rattle.argot_points.proofs.Pieces.{each_move, each_join, each_register, each_item}
use Rattle.argot_points.proofs.Defined.{definition_found, defined_leaf}
use Rattle.argot_points.proofs.Told.{put_told, copy_told, shift_told, keep_told, load_told, store_told, link_told}

abbrev shape_in : Site → List (List PathStep)
shape_in site = site.shape

pub get-behind : {X : Type 0} (xs ys : List X) (k : ℕ) → slice_get (xs ++ ys) (length xs + k) ≡ slice_get ys k
get-behind [] ys k = ap (slice_get ys) (zero-left k)
  where
    zero-left : (k : ℕ) → 0 + k ≡ k
    zero-left k = omega arith
get-behind (x ∷ xs) ys k = let e : length (x ∷ xs) + k ≡ suc (length xs + k) = omega arith in ap (slice_get ((x ∷ xs) ++ ys)) e ∙ get-behind xs ys k

pub get-front : {X : Type 0} (xs ys : List X) (k : ℕ) (x : X) → slice_get xs k ≡ Some x → slice_get (xs ++ ys) k ≡ Some x
get-front [] ys k x h = absurd cc
get-front (y ∷ xs) ys zero x h = h
get-front (y ∷ xs) ys (suc k) x h = get-front xs ys k x h

pub get-last : (xs : List ℕ) (r : ℕ) → slice_get (xs ++ r ∷ []) (length xs) ≡ Some r
get-last [] r = refl
get-last (x ∷ xs) r = get-last xs r

-- a handed value stands behind the results
pub handed_register : (kind : Kind) (callee : Callee) (args : List ℕ) (n k r : ℕ) → Hands kind callee args n → slice_get (handed_values callee args) k ≡ Some r → slice_get (node_registers kind) (n + k) ≡ Some r
handed_register kind callee args n k r (by_call {to = to}) h = get-behind to (handed_values callee args) k ∙ h
handed_register kind callee args n k r by_go h = let e : 0 + k ≡ k = omega arith in ap (slice_get (handed_values callee args)) e ∙ h
handed_register kind callee args n k r by_defer h = let e : 0 + k ≡ k = omega arith in ap (slice_get (handed_values callee args)) e ∙ h

pub value_reference : (kind : Kind) (callee : Callee) (args : List ℕ) (n r : ℕ) → Hands kind callee args n → callee ≡ Value r → In r (reference_registers kind)
value_reference kind callee args n r by_call e = subst (λ c. In r (reference_registers (Call [] c args))) (sym e) (here refl)
value_reference kind callee args n r by_go e = subst (λ c. In r (reference_registers (Go c args))) (sym e) (here refl)
value_reference kind callee args n r by_defer e = subst (λ c. In r (reference_registers (Defer c args))) (sym e) (here refl)

pub method_reference : (kind : Kind) (callee : Callee) (args : List ℕ) (n r : ℕ) (name : List ℕ) → Hands kind callee args n → callee ≡ Method r name → In r (reference_registers kind)
method_reference kind callee args n r name by_call e = subst (λ c. In r (reference_registers (Call [] c args))) (sym e) (here refl)
method_reference kind callee args n r name by_go e = subst (λ c. In r (reference_registers (Go c args))) (sym e) (here refl)
method_reference kind callee args n r name by_defer e = subst (λ c. In r (reference_registers (Defer c args))) (sym e) (here refl)

module _ (s : System) (wf : WellFormed s.program.now) (all : s.locations.items ≡ locations_of s.program.now) (ds : List (ℕ × ℕ × ℕ)) (exact : AreDefs s.program.now ds)
    (h i : ℕ) (fn : Function) (is : IsFunction s.program.now h fn) (inside : IsIn s.program.now i h) (live : Holds s.program.now (IsLive h)) where
  abbrev Told : Owned → Type 0
  Told o = RuleHolds s o.rule

  -- a leaf of a register that the place has as a node
  pub own_leaf : (kind : Kind) (k r a : ℕ) (q : List PathStep) → IsAt s.program.now i kind → slice_get (node_registers kind) k ≡ Some r → slice_get (leaves_of fn r) a ≡ Some q → HasLeaf s.program.now i k a q
  own_leaf kind k r a q at reg leaf = of_kind h r kind inside at reg (ap (λ x. slice_get x a) (register_leaves s.program.now h fn r is) ∙ leaf)

  -- a leaf of a definition
  def_leaf : (r a : ℕ) (q : List PathStep) (x : ℕ × ℕ) → In x (definitions s.program.now fn i r ds) → slice_get (leaves_of fn r) a ≡ Some q → DefinedAt s.program.now x.0 x.1 r i × HasLeaf s.program.now x.0 x.1 a q
  def_leaf r a q x m leaf =
      let d = definition_found s.program.now wf ds exact h fn is i r x m in
      (d, defined_leaf s.program.now wf x.0 x.1 r i h a q d inside (ap (λ x. slice_get x a) (register_leaves s.program.now h fn r is) ∙ leaf))

  -- a reference has one leaf
  pub reference_leaf : (kind : Kind) (r : ℕ) → IsAt s.program.now i kind → In r (reference_registers kind) → slice_get (leaves_of fn r) 0 ≡ Some []
  reference_leaf kind r at m = ap (λ x. slice_get x 0) (sym (register_leaves s.program.now h fn r is) ∙ wf.references.each i h r kind inside at m)

  -- registers that are copied leaf by leaf to the nodes behind k
  pub registers_told : (kind : Kind) (k : ℕ) (rs : List ℕ) → IsAt s.program.now i kind → ((j r : ℕ) (q : List PathStep) → slice_get rs j ≡ Some r → slice_get (node_registers kind) (k + j) ≡ Some r)
      → ((j r : ℕ) (q : List PathStep) → slice_get rs j ≡ Some r → Copies kind r q (k + j) q) → (o : Owned) → In o (register_copies s.program.now fn ds h i k rs) → Told o
  registers_told kind k rs at regs copy o m = each_register s.program.now fn ds h i Told o k rs m
      (λ l j r e g a q leaf x y.
      let d = def_leaf r a q x y leaf in
      copy_told s wf all h i inside live x.0 x.1 r l a a q q kind at (subst (λ w. Copies kind r q w q) (sym e) (copy j r q g)) d.0
      (own_leaf kind l r a q at (subst (λ w. slice_get (node_registers kind) w ≡ Some r) (sym e) (regs j r q g)) leaf) d.1)

  pub move_told : (to from : ℕ) (path : List PathStep) → IsAt s.program.now i (Move to from path) → (o : Owned) → In o (kind_rules s.program.now fn ds h i (Move to from path)) → Told o
  move_told to from path at o m = each_move Told o h i path 0 (leaves_of fn to) (leaves_of fn from) (definitions s.program.now fn i from ds) m
      (λ d b q e g c leaf k same x y.
      let u = def_leaf from c leaf x y k in
      let z : b ≡ d = omega (arith, e) in
      copy_told s wf all h i inside live x.0 x.1 from 0 d c leaf q (Move to from path) at (refl, refl, same_path_is leaf (path ++ q) same) u.0
      (own_leaf (Move to from path) 0 to d q at refl (subst (λ w. slice_get (leaves_of fn to) w ≡ Some q) z g)) u.1)

  pub join_told : (to : ℕ) (parts : List (List PathStep × ℕ)) → IsAt s.program.now i (Join to parts) → (o : Owned) → In o (kind_rules s.program.now fn ds h i (Join to parts)) → Told o
  join_told to parts at o m = each_join s.program.now fn ds h i Told o (leaves_of fn to) parts m
      (λ path r d q part lasts g c leaf k same x y.
      let u = def_leaf r c leaf x y k in
      copy_told s wf all h i inside live x.0 x.1 r 0 d c leaf q (Join to parts) at (path, lasts, refl, same_path_is q (path ++ leaf) same) u.0 (own_leaf (Join to parts) 0 to d q at refl g) u.1)

  pub new_told : (to site : ℕ) → IsAt s.program.now i (New to site) → (o : Owned) → In o (kind_rules s.program.now fn ds h i (New to site)) → Told o
  new_told to site at o m = subst Told (sym (one-In o (owned h (Put (node i 0 0) site)) m))
      (put_told s wf all h i inside live 0 site (own_leaf (New to site) 0 to 0 [] at refl (reference_leaf (New to site) to at (here refl))) (new to h inside live at))

  pub step_told : (to from : ℕ) (path : List PathStep) → IsAt s.program.now i (Step to from path) → (o : Owned) → In o (kind_rules s.program.now fn ds h i (Step to from path)) → Told o
  step_told to from path at o m = each_shifts Told o h (node i 0 0) path (definitions s.program.now fn i from ds) m
      (λ x y.
      let u = def_leaf from 0 [] x y (reference_leaf (Step to from path) from at (there (here refl))) in
      shift_told s wf all h i inside live x.0 x.1 to from path at u.0 (own_leaf (Step to from path) 0 to 0 [] at refl (reference_leaf (Step to from path) to at (here refl))) u.1)

  pub assert_told : (to from target : ℕ) → IsAt s.program.now i (Assert to from target) → (o : Owned) → In o (kind_rules s.program.now fn ds h i (Assert to from target)) → Told o
  assert_told to from target at o m = each_keeps Told o h (node i 0 0) target (definitions s.program.now fn i from ds) m
      (λ x y.
      let u = def_leaf from 0 [] x y (reference_leaf (Assert to from target) from at (there (here refl))) in
      keep_told s wf all h i inside live x.0 x.1 to from target at u.0 (own_leaf (Assert to from target) 0 to 0 [] at refl (reference_leaf (Assert to from target) to at (here refl))) u.1)

  pub read_told : (to ref : ℕ) (qs : List (List PathStep)) → IsAt s.program.now i (Read to ref qs) → (o : Owned) → In o (kind_rules s.program.now fn ds h i (Read to ref qs)) → Told o
  read_told to ref qs at o m = each_value_loads Told o h i 0 0 qs (definitions s.program.now fn i ref ds) m
      (λ c b q e g x y.
      let u = def_leaf ref 0 [] x y (reference_leaf (Read to ref qs) ref at (here refl)) in
      let z : b ≡ c = omega (arith, e) in
      let leaf : slice_get (leaves_of fn to) c ≡ Some q = ap (λ w. slice_get w c) (sym (register_leaves s.program.now h fn to is) ∙ sym (wf.read_leaves i h to ref qs inside at)) ∙ subst (λ w. slice_get qs w ≡ Some q) z g in
      load_told s wf all h i inside live x.0 x.1 0 c q q (λ l v refers ok place. read h x.0 x.1 l.site to ref l.path qs inside live at u.0 refers (in_of_get qs b q g) ok place) (own_leaf (Read to ref qs) 0 to c q at refl leaf) u.1)

  pub write_told : (ref from : ℕ) → IsAt s.program.now i (Write ref from) → (o : Owned) → In o (kind_rules s.program.now fn ds h i (Write ref from)) → Told o
  write_told ref from at o m = elim (In-append o (register_copies s.program.now fn ds h i 0 (from ∷ [])) (value_stores h i 0 0 (leaves_of fn from) (definitions s.program.now fn i ref ds)) m) [
    | inl l ↦ registers_told (Write ref from) 0 (from ∷ []) at (λ j r q g. let z : 0 + j ≡ j = omega arith in ap (slice_get (from ∷ [])) z ∙ g) (λ j r q g. written j r q g) o l
    | inr l ↦ each_value_stores Told o h i 0 0 (leaves_of fn from) (definitions s.program.now fn i ref ds) l
        (λ c b q e g x y.
        let u = def_leaf ref 0 [] x y (reference_leaf (Write ref from) ref at (here refl)) in
        let z : b ≡ c = omega (arith, e) in
        store_told s wf all h i inside live x.0 x.1 0 c q q (λ l v refers ok value. write i h x.0 x.1 ref from inside live at u.0 refers ok value) (own_leaf (Write ref from) 0 from c q at refl (subst (λ w. slice_get (leaves_of fn from) w ≡ Some q) z g)) u.1)
  ]
    where
      written : (j r : ℕ) (q : List PathStep) → slice_get (from ∷ []) j ≡ Some r → Copies (Write ref from) r q (0 + j) q
      written zero r q g = let e : from ≡ r = cc in (sym e, refl, refl)
      written (suc j) r q g = absurd cc

  pub global_told : (to k : ℕ) → IsAt s.program.now i (Global to k) → (o : Owned) → In o (kind_rules s.program.now fn ds h i (Global to k)) → Told o
  global_told to k at o m = among (slice_get s.program.now.globals k) refl m
    where
      among : (v : Option (Ident × Pos × ℕ)) → slice_get s.program.now.globals k ≡ v → In o (variable_rules h i v) → Told o
      among None e m = elim m [ ]
      among (Some x) e m = subst Told (sym (one-In o (owned h (Put (node i 0 0) x.2)) m))
          (put_told s wf all h i inside live 0 x.2 (own_leaf (Global to k) 0 to 0 [] at refl (reference_leaf (Global to k) to at (here refl))) (global h to k x.0 x.1 inside live at e))

  pub leave_told : (from : List ℕ) → IsAt s.program.now i (Leave from) → (o : Owned) → In o (kind_rules s.program.now fn ds h i (Leave from)) → Told o
  leave_told from at o m = registers_told (Leave from) 0 from at (λ j r q g. let z : 0 + j ≡ j = omega arith in ap (slice_get from) z ∙ g) (λ j r q g. let z : 0 + j ≡ j = omega arith in (ap (slice_get from) z ∙ g, refl)) o m

  pub passed_told : (to callee : ℕ) → IsAt s.program.now i (Passed to callee) → (o : Owned) → In o (kind_rules s.program.now fn ds h i (Passed to callee)) → Told o
  passed_told to callee at o m = registers_told (Passed to callee) 0 (to ∷ []) at (λ j r q g. let z : 0 + j ≡ j = omega arith in ap (slice_get (to ∷ [])) z ∙ g) (λ j r q g. passed j r q g) o m
    where
      passed : (j r : ℕ) (q : List PathStep) → slice_get (to ∷ []) j ≡ Some r → Copies (Passed to callee) r q (0 + j) q
      passed zero r q g = let e : to ≡ r = cc in (sym e, refl, refl)
      passed (suc j) r q g = absurd cc

  -- a Grow and its own site
  module _ (to ref : ℕ) (items : List ℕ) (at : IsAt s.program.now i (Grow to ref items)) (n : ℕ) (site : Site) (own : IsSiteOf s.program.now i n site) where
    shape_is : shape_at s.program.now (Some n) ≡ site.shape
    shape_is = ap (λ v. elim v as (λ x. List (List PathStep)) [ None ↦ [] | Some x ↦ shape_in x ]) own.is

    -- a leaf of the shape is an element's
    stepped : (c : ℕ) (q : List PathStep) → slice_get site.shape c ≡ Some q → (rest : List PathStep) × (q ≡ Element ∷ rest) × (slice_get (element_leaves site) c ≡ Some rest)
    stepped c q g =
        let w = wf.grow_site i to ref items at in
        let same : n ≡ w.number = w.one.alone n site own in
        let e : Some site ≡ Some w.one.site = sym own.is ∙ ap (slice_get s.program.now.sites) same ∙ w.one.is.is in
        let f : site ≡ w.one.site = cc in
        let r = w.elements q (subst (λ (x : Site). In q x.shape) f (in_of_get site.shape c q g)) in
        (r.0, r.1, map-get without_first site.shape c q g ∙ ap (λ x. Some (without_first x)) r.1)

    items_leaf : (c : ℕ) (rest : List PathStep) → slice_get (element_leaves site) c ≡ Some rest → HasLeaf s.program.now i 1 c rest
    items_leaf c rest g = of_items n to ref items site at own refl g

    elements_leaf : (c : ℕ) (rest : List PathStep) → slice_get (element_leaves site) c ≡ Some rest → HasLeaf s.program.now i 2 c rest
    elements_leaf c rest g = of_elements n to ref items site at own refl g

    shape_get : (b c : ℕ) (q : List PathStep) → c ≡ 0 + b → slice_get (shape_at s.program.now (Some n)) b ≡ Some q → slice_get site.shape c ≡ Some q
    shape_get b c q e g = let z : c ≡ b = omega (arith, e) in ap (slice_get site.shape) z ∙ ap (λ x. slice_get x b) (sym shape_is) ∙ g

    to_leaf : HasLeaf s.program.now i 0 0 []
    to_leaf = own_leaf (Grow to ref items) 0 to 0 [] at refl (reference_leaf (Grow to ref items) to at (here refl))

    ref_leaf : (x : ℕ × ℕ) → In x (definitions s.program.now fn i ref ds) → DefinedAt s.program.now x.0 x.1 ref i × HasLeaf s.program.now x.0 x.1 0 []
    ref_leaf x y = def_leaf ref 0 [] x y (reference_leaf (Grow to ref items) ref at (there (here refl)))

    old_told : (o : Owned) → In o (copies h (node i 0 0) 0 (definitions s.program.now fn i ref ds)) → Told o
    old_told o m = each_copies Told o h (node i 0 0) 0 (definitions s.program.now fn i ref ds) m
        (λ x y. let u = ref_leaf x y in copy_told s wf all h i inside live x.0 x.1 ref 0 0 0 [] [] (Grow to ref items) at (inl (refl, refl, refl, refl)) u.0 to_leaf u.1)

    own_told : (o : Owned) → In o (owned h (Put (node i 0 0) n) ∷ []) → Told o
    own_told o m = subst Told (sym (one-In o (owned h (Put (node i 0 0) n)) m)) (put_told s wf all h i inside live 0 n to_leaf (grow_fresh h to ref items site inside live at own))

    elements_told : (o : Owned) → In o (value_loads h i 2 0 (shape_at s.program.now (Some n)) (definitions s.program.now fn i ref ds)) → Told o
    elements_told o m = each_value_loads Told o h i 2 0 (shape_at s.program.now (Some n)) (definitions s.program.now fn i ref ds) m
        (λ c b q e g x y.
        let u = ref_leaf x y in
        let t = stepped c q (shape_get b c q e g) in
        load_told s wf all h i inside live x.0 x.1 2 c q t.0
        (λ l v refers ok place. grow_read h x.0 x.1 l.site n to ref l.path items site inside live at own u.0 refers (in_of_get (element_leaves site) c t.0 t.2)
        (subst (λ w. is_path_of s.program.now l.site (l.path ++ w) ≡ true) t.1 ok) (subst (λ w. Holds s.program.now (PlaceRefers (loc l.site (l.path ++ w)) v)) t.1 place))
        (elements_leaf c t.0 t.2) u.1)

    kept_told : (o : Owned) → In o (value_copies h i 1 0 (shape_at s.program.now (Some n)) ((i, 2) ∷ [])) → Told o
    kept_told o m = each_value_copies Told o h i 1 0 (shape_at s.program.now (Some n)) ((i, 2) ∷ []) m
        (λ c b q e g x y.
        let t = stepped c q (shape_get b c q e g) in
        subst (λ (w : ℕ × ℕ). RuleHolds s (Copy (node i 1 c) (node w.0 w.1 c))) (sym (one-In x (i, 2) y))
        (link_told s wf all h i inside live i 2 1 c c t.0 t.0 (λ v refers. grow_copy h to ref items inside live at refers) (items_leaf c t.0 t.2) (elements_leaf c t.0 t.2)))

    items_told : (o : Owned) → In o (item_copies s.program.now fn ds h i (shape_at s.program.now (Some n)) items) → Told o
    items_told o m = each_item s.program.now fn ds h i Told o (shape_at s.program.now (Some n)) items m
        (λ r listed c q g x y.
        let z : c ≡ 0 + c = omega arith in
        let t = stepped c q (shape_get c c q z g) in
        let leaf : slice_get (leaves_of fn r) c ≡ Some t.0 = ap (λ w. slice_get w c) (sym (register_leaves s.program.now h fn r is) ∙ wf.grow_leaves i h n to ref r items site inside at own listed) ∙ t.2 in
        let u = def_leaf r c t.0 x y leaf in
        copy_told s wf all h i inside live x.0 x.1 r 1 c c t.0 t.0 (Grow to ref items) at (inr (listed, refl, refl)) u.0 (items_leaf c t.0 t.2) u.1)

    put_all_told : (o : Owned) → In o (value_stores h i 1 0 (shape_at s.program.now (Some n)) ((i, 0) ∷ [])) → Told o
    put_all_told o m = each_value_stores Told o h i 1 0 (shape_at s.program.now (Some n)) ((i, 0) ∷ []) m
        (λ c b q e g x y.
        let t = stepped c q (shape_get b c q e g) in
        subst (λ (w : ℕ × ℕ). RuleHolds s (Store (node w.0 w.1 0) q (node i 1 c))) (sym (one-In x (i, 0) y))
        (store_told s wf all h i inside live i 0 1 c q t.0
        (λ l v refers ok value. subst (λ w. Holds s.program.now (PlaceRefers (loc l.site (l.path ++ w)) v)) (sym t.1)
        (grow_write i h to ref items inside live at refers (subst (λ w. is_path_of s.program.now l.site (l.path ++ w) ≡ true) t.1 ok) value))
        (items_leaf c t.0 t.2) to_leaf))

  pub grow_told : (to ref : ℕ) (items : List ℕ) → IsAt s.program.now i (Grow to ref items) → (o : Owned) → In o (kind_rules s.program.now fn ds h i (Grow to ref items)) → Told o
  grow_told to ref items at o m = among (own_site s.program.now i) refl m
    where
      among : (v : Option ℕ) → own_site s.program.now i ≡ v → In o (grow_rules s.program.now fn ds h i ref items v) → Told o
      among None e m = elim m [ ]
      among (Some n) e m =
          let w = own_is s.program.now i n e in
          let shape = shape_at s.program.now (Some n) in
          let found = definitions s.program.now fn i ref ds in
          let a = copies h (node i 0 0) 0 found in
          let b = owned h (Put (node i 0 0) n) ∷ [] in
          let c = value_loads h i 2 0 shape found in
          let d = value_copies h i 1 0 shape ((i, 2) ∷ []) in
          let f = item_copies s.program.now fn ds h i shape items in
          let g = value_stores h i 1 0 shape ((i, 0) ∷ []) in
          elim (In-append o ((((a ++ b) ++ c) ++ d) ++ f) g m) [
            | inl l ↦ elim (In-append o (((a ++ b) ++ c) ++ d) f l) [
              | inl l ↦ elim (In-append o ((a ++ b) ++ c) d l) [
                | inl l ↦ elim (In-append o (a ++ b) c l) [
                  | inl l ↦ elim (In-append o a b l) [ inl l ↦ old_told to ref items at n w.0 w.1 o l | inr l ↦ own_told to ref items at n w.0 w.1 o l ]
                  | inr l ↦ elements_told to ref items at n w.0 w.1 o l
                ]
                | inr l ↦ kept_told to ref items at n w.0 w.1 o l
              ]
              | inr l ↦ items_told to ref items at n w.0 w.1 o l
            ]
            | inr l ↦ put_all_told to ref items at n w.0 w.1 o l
          ]
