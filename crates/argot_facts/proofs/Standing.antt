-- References stand at nodes alone, and lead to locations.
use Rattle.std.proofs.Common.{◌≡◌, ℕ, zero, suc, ◌+◌, ◌<◌, true, List, [], ◌∷◌, ◌++◌, Some, None, Option, refl, sym, ap, ◌∙◌, inl, inr, arith, subst, eq-eqb}
use Rattle.std.specs.Prelude.{slice_get, length, if◌then◌else◌}
use Rattle.std.specs.List.{filter_map, cons_option}
use Rattle.argot_plain.specs.Lists.{In, here, there, below, same_step}
use Rattle.argot_plain.specs.Code.{Code, IsAt, IsIn, handed_values, node_registers, leaves, element_leaves}
use Rattle.argot_plain.specs.Machine.{is_path_of, element}
use Rattle.argot_plain.specs.Nodes.{mark, HasLeaf, IsNode, of_kind, of_items, of_elements, of_entry}
use Rattle.argot_plain.specs.WellFormed.{WellFormed, reference_registers}
use Rattle.argot_plain.specs.declared.instructions.Kind.{Kind}
use Rattle.argot_plain.specs.declared.instructions.Kind.TheVariants.{Move, Join, New, Step, Read, Write, Grow, Global, Assert, Call, Go, Defer, Leave, Passed}
use Rattle.argot_text.specs.declared.path.PathStep.{PathStep}
use Rattle.argot_text.specs.declared.path.PathStep.TheVariants.{Field, Element, Key, Value, Channel, Capture}
use Rattle.argot_facts.specs.Copies.{Copies, Lasts, last_here, last_there}
use Rattle.argot_facts.specs.Numbers.{leaves_of}
use Rattle.argot_facts.specs.Reaching.{DefinedAt}
use Rattle.argot_facts.specs.Refers.{loc, Fact, Holds, entry_is_live, target_is_live, target_static, target_value, target_method, copy, new, step, read, write, grow_fresh, grow_read, grow_copy, grow_write, global, assert, param, result, fresh_result}
use Rattle.argot_facts.specs.Stands.{IsPlaced, Stands}
use Rattle.argot_facts.proofs.Calls.{same_kind}
use Rattle.argot_facts.proofs.Leaves.{definition_leaf}
use Rattle.argot_facts.proofs.Listed.{in_of_get, number_of, get_within}
use Rattle.argot_facts.proofs.Marked.{not_first, register_leaves}

behind : {X : Type 0} (xs ys : List X) (n : ℕ) (y : X) → slice_get ys n ≡ Some y → slice_get (xs ++ ys) (length xs + n) ≡ Some y
behind [] ys n y h = let e : 0 + n ≡ n = omega arith in ap (slice_get ys) e ∙ h
behind (x ∷ xs) ys n y h = let e : suc (length xs) + n ≡ suc (length xs + n) = omega arith in ap (slice_get (x ∷ (xs ++ ys))) e ∙ behind xs ys n y h

step_same : (s : PathStep) → same_step s s ≡ true
step_same (Field a) = eq-eqb a a refl
step_same Element = refl
step_same Key = refl
step_same Value = refl
step_same Channel = refl
step_same (Capture a) = eq-eqb a a refl

below_joined : (path q : List PathStep) → below path (path ++ q) ≡ Some q
below_joined [] q = refl
below_joined (s ∷ path) q = ap (λ b. if b then below path (path ++ q) else None) (step_same s) ∙ below_joined path q

in_first : {B : Type 0} (x : B) (o : Option B) (rest : List B) → o ≡ Some x → In x (cons_option o rest)
in_first x (Some y) rest e = here (let z : y ≡ x = cc in sym z)
in_first x None rest e = absurd cc

in_later : {B : Type 0} (x : B) (o : Option B) (rest : List B) → In x rest → In x (cons_option o rest)
in_later x (Some y) rest m = there m
in_later x None rest m = m

in_filter_map : {A B : Type 0} (f : A → Option B) (a : A) (x : B) (xs : List A) → In a xs → f a ≡ Some x → In x (filter_map f xs)
in_filter_map f a x [] m e = elim m [ ]
in_filter_map f a x (y ∷ xs) (here s) e = in_first x (f y) (filter_map f xs) (ap f (sym s) ∙ e)
in_filter_map f a x (y ∷ xs) (there m) e = in_later x (f y) (filter_map f xs) (in_filter_map f a x xs m e)

lasts_in : (path : List PathStep) (r : ℕ) (q : List PathStep) (parts : List (List PathStep × ℕ)) → Lasts path r q parts → In (path, r) parts
lasts_in path r q (x ∷ parts) (last_here e f c) = here (ap (λ z. (z, r)) (sym e) ∙ ap (λ z. (x.0, z)) (sym f))
lasts_in path r q (x ∷ parts) (last_there h) = there (lasts_in path r q parts h)
lasts_in path r q [] h = elim h [ ]

module _ (p : Code) (wf : WellFormed p) where
  node_of : (kind : Kind) (i g k r : ℕ) (q : List PathStep) → IsIn p i g → IsAt p i kind → slice_get (node_registers kind) k ≡ Some r → In q (leaves p g r) → IsNode p (mark i k q)
  node_of kind i g k r q inside at is m = let a = number_of q (leaves p g r) m in record { number = a.0; has = of_kind g r kind inside at is a.1 }

  root_leaf : (kind : Kind) (i g r : ℕ) → IsIn p i g → IsAt p i kind → In r (reference_registers kind) → In [] (leaves p g r)
  root_leaf kind i g r inside at m = subst (In []) (sym (wf.references.each i g r kind inside at m)) (here refl)

  -- what a definition holds at a node is a leaf of the register
  held_in : (d j r i h : ℕ) (q : List PathStep) → DefinedAt p d j r i → IsIn p i h → IsNode p (mark d j q) → In q (leaves p h r)
  held_in d j r i h q def inside node =
      let s = definition_leaf p wf h inside.fn inside.is d j r i node.number q def inside node.has in
      subst (In q) (sym (register_leaves p h inside.fn r inside.is)) (in_of_get (leaves_of inside.fn r) node.number q s)

  root_of : (s : ℕ) → s < length p.sites → IsPlaced p (loc s [])
  root_of s l = record { site = l; path = refl }

  moved_to : (s : ℕ) (base path : List PathStep) → IsPlaced p (loc s base) → is_path_of p s path ≡ true → IsPlaced p (loc s path)
  moved_to s base path x e = record { site = x.site; path = e }

  copied_node : (kind : Kind) (i h k r : ℕ) (q q' : List PathStep) → IsIn p i h → IsAt p i kind → Copies kind r q k q' → In q (leaves p h r) → IsNode p (mark i k q')
  copied_node (Move to from path) i h k r q q' inside at c m =
      let a = subst (λ z. In z (leaves p h from)) c.2 (subst (λ z. In q (leaves p h z)) c.0 m) in
      let b = in_filter_map (below path) (path ++ q') q' (leaves p h from) a (below_joined path q') in
      subst (λ z. IsNode p (mark i z q')) (sym c.1) (node_of (Move to from path) i h 0 to q' inside at refl (subst (In q') (sym (wf.move_leaves i h to from path inside at)) b))
  copied_node (Join to parts) i h k r q q' inside at c m =
      let a = wf.join_leaves i h to r parts c.0 q inside at (lasts_in c.0 r q' parts c.1) m in
      subst (λ z. IsNode p (mark i z q')) (sym c.2) (node_of (Join to parts) i h 0 to q' inside at refl (subst (λ z. In z (leaves p h to)) (sym c.3) a))
  copied_node (Write ref from) i h k r q q' inside at c m =
      subst (λ z. IsNode p (mark i z q')) (sym c.1) (node_of (Write ref from) i h 0 from q' inside at refl (subst (λ z. In z (leaves p h from)) (sym c.2) (subst (λ z. In q (leaves p h z)) c.0 m)))
  copied_node (Grow to ref items) i h k r q q' inside at (inl c) m =
      subst (λ z. IsNode p (mark i k z)) (sym c.3) (subst (λ z. IsNode p (mark i z [])) (sym c.1) (node_of (Grow to ref items) i h 0 to [] inside at refl (root_leaf (Grow to ref items) i h to inside at (here refl))))
  copied_node (Grow to ref items) i h k r q q' inside at (inr c) m =
      let g = wf.grow_site i to ref items at in
      let e = wf.grow_leaves i h g.number to ref r items g.one.site inside at g.one.is c.0 in
      let a = subst (λ z. In z (element_leaves g.one.site)) (sym c.2) (subst (In q) e m) in
      let b = number_of q' (element_leaves g.one.site) a in
      record { number = b.0; has = of_items g.number to ref items g.one.site at g.one.is c.1 b.1 }
  copied_node (Call to callee args) i h k r q q' inside at c m =
      subst (λ z. IsNode p (mark i z q')) (sym c.2) (node_of (Call to callee args) i h (length to + c.0) r q' inside at (behind to (handed_values callee args) c.0 r c.1) (subst (λ z. In z (leaves p h r)) (sym c.3) m))
  copied_node (Go callee args) i h k r q q' inside at c m = node_of (Go callee args) i h k r q' inside at c.0 (subst (λ z. In z (leaves p h r)) (sym c.1) m)
  copied_node (Defer callee args) i h k r q q' inside at c m = node_of (Defer callee args) i h k r q' inside at c.0 (subst (λ z. In z (leaves p h r)) (sym c.1) m)
  copied_node (Leave from) i h k r q q' inside at c m = node_of (Leave from) i h k r q' inside at c.0 (subst (λ z. In z (leaves p h r)) (sym c.1) m)
  copied_node (Passed to callee) i h k r q q' inside at c m =
      subst (λ z. IsNode p (mark i z q')) (sym c.1) (node_of (Passed to callee) i h 0 to q' inside at refl (subst (λ z. In z (leaves p h to)) (sym c.2) (subst (λ z. In q (leaves p h z)) c.0 m)))
  copied_node _ i h k r q q' inside at c m = elim c [ ]

  -- what a Grow copies, it puts
  elements_put : (i to ref : ℕ) (items : List ℕ) (q : List PathStep) → IsAt p i (Grow to ref items) → (a : ℕ) → HasLeaf p i 2 a q → IsNode p (mark i 1 q)
  elements_put i to ref items q at a (of_kind g r kind inside at' reg leaf) =
      let e = same_kind p i kind (Grow to ref items) at' at in
      let f : slice_get (node_registers (Grow to ref items)) 2 ≡ Some r = ap (λ c. slice_get (node_registers c) 2) (sym e) ∙ reg in
      absurd cc
  elements_put i to ref items q at a (of_items n to' ref' items' site at' sited one leaf) = absurd (omega (arith, one))
  elements_put i to ref items q at a (of_elements n to' ref' items' site at' sited two leaf) = record { number = a; has = of_items n to' ref' items' site at' sited refl leaf }
  elements_put i to ref items q at a (of_entry g e within leaf) = absurd (not_first p wf i g 0 to e.fn (Grow to ref items) e.is at refl e.at)

  pub stands : {f : Fact} → Holds p f → Stands p f
  stands entry_is_live = tt
  stands (target_is_live i takes t) = tt
  stands (target_static h n kind args inside live at hands) = tt
  stands (target_value h n d j r s path kind args site fn inside live at hands def x is names f e) = tt
  stands (target_method h n d j r s name path kind args site inside live at hands def x is names) = tt
  stands (copy {i = i} {k = k} {q' = q'} h d j r q kind inside live at copies def x) =
      let y = stands x in (copied_node kind i h k r q q' inside at copies (held_in d j r i h q def inside y.0), y.1)
  stands (new {i = i} {s = s} to h inside live at) = (node_of (New to s) i h 0 to [] inside at refl (root_leaf (New to s) i h to inside at (here refl)), root_of s (wf.numbers.new i to s at))
  stands (step {i = i} {s = s} {base = base} {path = path} h d j to from inside live at def x e) =
      let y = stands x in (node_of (Step to from path) i h 0 to [] inside at refl (root_leaf (Step to from path) i h to inside at (here refl)), moved_to s base (base ++ path) y.1 e)
  stands (read {i = i} {q = q} h d j s to ref base qs inside live at def x m e t) =
      (node_of (Read to ref qs) i h 0 to q inside at refl (subst (In q) (wf.read_leaves i h to ref qs inside at) m), (stands t).1)
  stands (write {s = s} {base = base} {q = q} i h d j ref from inside live at def x e t) = (moved_to s base (base ++ q) (stands x).1 e, (stands t).1)
  stands (grow_fresh {i = i} {s = s} h to ref items site inside live at sited) =
      (node_of (Grow to ref items) i h 0 to [] inside at refl (root_leaf (Grow to ref items) i h to inside at (here refl)), root_of s (get_within p.sites s site sited.is))
  stands (grow_read {i = i} {q = q} h d j s n to ref base items site inside live at sited def x m e t) =
      let a = number_of q (element_leaves site) m in (record { number = a.0; has = of_elements n to ref items site at sited refl a.1 }, (stands t).1)
  stands (grow_copy {i = i} {q = q} h to ref items inside live at x) = let y = stands x in (elements_put i to ref items q at y.0.number y.0.has, y.1)
  stands (grow_write {s = s} {base = base} {q = q} i h to ref items inside live at x e t) = (moved_to s base (element base q) (stands x).1 e, (stands t).1)
  stands (global {i = i} {s = s} h to k ident pos inside live at is) =
      let e = wf.global_sites.site k ident pos s is in
      let g = wf.global_sites.is k (get_within p.globals k (ident, pos, s) is) in
      let l = get_within p.sites k g.0 g.1 in
      (node_of (Global to k) i h 0 to [] inside at refl (root_leaf (Global to k) i h to inside at (here refl)), root_of s (omega arith))
  stands (assert {i = i} h d j to from target inside live at def x e) =
      (node_of (Assert to from target) i h 0 to [] inside at refl (root_leaf (Assert to from target) i h to inside at (here refl)), (stands x).1)
  stands (param i g n k takes kind callee args fn at hands t e goes is z node x) = (node, (stands x).1)
  stands (result g takes to args callee fn at t is body l node x) = (node, (stands x).1)
  stands (fresh_result {i = i} {k = k} {s = s} {q = q} h g t takes flows to args callee fn inside at target is out e site) =
      (node_of (Call to callee args) i h k t q inside at (before to (handed_values callee args) k t e) (in_of_get (leaves p h t) site.site.leaf q site.leaf), root_of s (get_within p.sites s site.site site.is.is))
    where
      before : (xs ys : List ℕ) (n y : ℕ) → slice_get xs n ≡ Some y → slice_get (xs ++ ys) n ≡ Some y
      before [] ys n y h = absurd cc
      before (x ∷ xs) ys zero y h = h
      before (x ∷ xs) ys (suc n) y h = before xs ys n y h
