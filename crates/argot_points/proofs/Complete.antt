-- Tables that are closed under the rules of a program have all of the relation.
use Rattle.std.proofs.Common.{◌≡◌, ℕ, ◌+◌, Bool, true, false, List, [], ◌++◌, Some, refl, sym, ap, ◌∙◌, arith, subst}
use Rattle.std.specs.Prelude.{slice_get, length}
use Rattle.argot_links.specs.Table.{has}
use Rattle.argot_plain.specs.Code.{Code, IsAt, IsIn, Hands, handed_values}
use Rattle.argot_plain.specs.Nodes.{mark, IsNode, HasLeaf}
use Rattle.argot_plain.specs.Machine.{element}
use Rattle.argot_plain.specs.WellFormed.{WellFormed}
use Rattle.argot_plain.specs.declared.instructions.Callee.{Callee}
use Rattle.argot_plain.specs.declared.instructions.Callee.TheVariants.{Static, Value, Method}
use Rattle.argot_plain.specs.declared.instructions.Kind.{Kind}
use Rattle.argot_text.specs.declared.path.PathStep.{PathStep}
use Rattle.argot_facts.specs.Exact.{AreDefs}
use Rattle.argot_facts.specs.Numbers.{node, nodes_of, locations_of}
use Rattle.argot_facts.specs.Reaching.{DefinedAt}
use Rattle.argot_facts.specs.Refers.{Location, loc, Fact, Holds, IsLive, Targets, NodeRefers, PlaceRefers, entry_is_live, target_is_live, target_static, target_value, target_method, copy, new, step, read, write, grow_fresh, grow_read, grow_copy, grow_write, global, assert, param, result, fresh_result}
use Rattle.argot_points_rules.specs.Column.{reference, rules_of}
use Rattle.argot_points.specs.declared.system.System.{System}
use Rattle.argot_points.specs.declared.system.Tables.{Tables}
use Rattle.argot_points.specs.Meaning.{IsRow, by_number, by_object, MeansAt, by_value, by_method}
use Rattle.argot_points.specs.Reading.{HasTarget}
use Rattle.argot_points.specs.Solved.{AllDone}
use Rattle.argot_points.proofs.Justified.{get-last, handed_register, value_reference, method_reference}
use Rattle.argot_facts.proofs.Marked.{register_leaves}
use Rattle.argot_points.proofs.Copied.{first_alone}
use Rattle.argot_points.proofs.LeafOf.{node_leaf}
use Rattle.argot_points.proofs.CallsJustified.{handed_copies}
use Rattle.argot_points.proofs.Ruled.{HasNode, HasPlace, row_of, copy_kept}
use Rattle.argot_points.proofs.CallsKept.{target_live, param_kept, result_kept, fresh_kept}
use Rattle.argot_points.proofs.Kept.{new_kept, global_kept, step_kept, assert_kept, read_kept, write_kept}
use Rattle.argot_points.proofs.GrownKept as grown

-- the reference by which a call goes has one leaf
value_alone : (p : Code) (wf : WellFormed p) (h i n r : ℕ) (kind : Kind) (args : List ℕ) → IsIn p i h → IsAt p i kind → Hands kind (Value r) args n → (a : ℕ) → HasLeaf p i (n + length args) a [] → a ≡ 0
value_alone p wf h i n r kind args inside at hands a leaf =
    let l = node_leaf p wf h inside.fn inside.is i (n + length args) a r [] kind inside at (handed_register kind (Value r) args n (length args) r hands (get-last args r)) leaf in
    first_alone a [] (ap (λ x. slice_get x a) (sym (wf.references.each i h r kind inside at (value_reference kind (Value r) args n r hands refl))) ∙ ap (λ x. slice_get x a) (register_leaves p h inside.fn r inside.is) ∙ l)

method_alone : (p : Code) (wf : WellFormed p) (h i n r : ℕ) (name : List ℕ) (kind : Kind) (args : List ℕ) → IsIn p i h → IsAt p i kind → Hands kind (Method r name) args n → (a : ℕ) → HasLeaf p i (n + 0) a [] → a ≡ 0
method_alone p wf h i n r name kind args inside at hands a leaf =
    let l = node_leaf p wf h inside.fn inside.is i (n + 0) a r [] kind inside at (handed_register kind (Method r name) args n 0 r hands refl) leaf in
    first_alone a [] (ap (λ x. slice_get x a) (sym (wf.references.each i h r kind inside at (method_reference kind (Method r name) args n r name hands refl))) ∙ ap (λ x. slice_get x a) (register_leaves p h inside.fn r inside.is) ∙ l)

module _ (s : System) (t : Tables) (wf : WellFormed s.program.now) (nodes : s.nodes.items ≡ nodes_of s.program.now) (all : s.locations.items ≡ locations_of s.program.now)
    (ds : List (ℕ × ℕ × ℕ)) (exact : AreDefs s.program.now ds) (same : s.rules.items ≡ rules_of s.program.now ds) (done : AllDone s t) (entry : has t.live 0 0 ≡ true) where
  -- what the tables have of a fact
  abbrev pub Kept : Fact → Type 0
  Kept (IsLive g) = has t.live 0 g ≡ true
  Kept (Targets i g takes) = HasTarget s t i g takes
  Kept (NodeRefers m x) = HasNode s t wf nodes all ds exact same done m x
  Kept (PlaceRefers y x) = HasPlace s t wf nodes all ds exact same done y x

  -- what a definition refers to, the handed value does
  sent : (h i n d j r k site : ℕ) (path : List PathStep) (kind : Kind) (callee : Callee) (args : List ℕ) (inside : IsIn s.program.now i h) → has t.live 0 h ≡ true → IsAt s.program.now i kind → Hands kind callee args n
      → slice_get (handed_values callee args) k ≡ Some r → DefinedAt s.program.now d j r i → Kept (NodeRefers (mark d j []) (loc site path)) → Kept (NodeRefers (mark i (n + k) []) (loc site path))
  sent h i n d j r k site path kind callee args inside live at hands reg def x =
      copy_kept s t wf nodes all ds exact same done i (n + k) h d j r [] [] (loc site path) kind inside live at (handed_copies kind callee args n k r [] hands reg) def x

  aimed : (h i n k site g : ℕ) (path : List PathStep) (takes : Bool) (kind : Kind) (callee : Callee) (args : List ℕ) → IsIn s.program.now i h → has t.live 0 h ≡ true → IsAt s.program.now i kind → Hands kind callee args n
      → reference i callee args n ≡ node i (n + k) 0 → ((a : ℕ) → HasLeaf s.program.now i (n + k) a [] → a ≡ 0) → Kept (NodeRefers (mark i (n + k) []) (loc site path)) → MeansAt s site callee g takes → Kept (Targets i g takes)
  aimed h i n k site g path takes kind callee args inside live at hands by alone x means =
      let row = row_of s t wf nodes all ds exact same done i (n + k) x.number [] x.leaf in
      let stands : IsRow s row.0 (reference i callee args n) = subst (λ w. IsRow s row.0 w) (sym by) (subst (λ a. IsRow s row.0 (node i (n + k) a)) (alone x.number x.leaf) row.1) in
      let site_is : site ≡ x.to.site = ap (λ (l : Location). l.site) x.is in
      record {
        function = h;
        inside = inside;
        live = live;
        kind = kind;
        at = at;
        callee = callee;
        args = args;
        behind = n;
        hands = hands;
        aimed = by_object callee args n row.0 x.column (record { kind = kind; is = at; hands = hands }) stands (x.refers row.0 x.number x.leaf row.1)
            (record { loc = x.to; is = x.at; means = subst (λ w. MeansAt s w callee g takes) site_is means });
      }

  pub kept : (f : Fact) → Holds s.program.now f → Kept f
  kept _ entry_is_live = entry
  kept _ (target_is_live {target = g} i takes x) = target_live s t wf nodes all ds exact same done i g takes (kept (Targets i g takes) x)
  kept _ (target_static {i = i} {target = g} h n kind args inside live at hands) = record {
    function = h;
    inside = inside;
    live = kept (IsLive h) live;
    kind = kind;
    at = at;
    callee = Static g;
    args = args;
    behind = n;
    hands = hands;
    aimed = by_number args n (record { kind = kind; is = at; hands = hands });
  }
  kept _ (target_value {i = i} {target = g} {takes = takes} h n d j r site path kind args here fn inside live at hands def x is named isf env) =
      let l = kept (IsLive h) live in
      aimed h i n (length args) site g path takes kind (Value r) args inside l at hands refl (value_alone s.program.now wf h i n r kind args inside at hands)
      (sent h i n d j r (length args) site path kind (Value r) args inside l at hands (get-last args r) def (kept (NodeRefers (mark d j []) (loc site path)) x))
      (by_value r (record { here = here; at = is; named = named; fn = fn; is = isf; env = env }))
  kept _ (target_method {i = i} {target = g} h n d j r site name path kind args here inside live at hands def x is listed) =
      let l = kept (IsLive h) live in
      let z : n ≡ n + 0 = omega arith in
      aimed h i n 0 site g path false kind (Method r name) args inside l at hands (ap (λ w. node i w 0) z) (method_alone s.program.now wf h i n r name kind args inside at hands)
      (sent h i n d j r 0 site path kind (Method r name) args inside l at hands refl def (kept (NodeRefers (mark d j []) (loc site path)) x))
      (by_method r name (record { here = here; at = is; listed = listed }))
  kept _ (copy {i = i} {k = k} {q' = q'} {x = x} h d j r q kind inside live at copies def from) =
      copy_kept s t wf nodes all ds exact same done i k h d j r q q' x kind inside (kept (IsLive h) live) at copies def (kept (NodeRefers (mark d j q) x) from)
  kept _ (new {i = i} {s = site} to h inside live at) = new_kept s t wf nodes all ds exact same done h i inside (kept (IsLive h) live) to site at
  kept _ (step {i = i} {s = site} {base = base} {path = path} h d j to from inside live at def x ok) =
      step_kept s t wf nodes all ds exact same done h i inside (kept (IsLive h) live) to from d j site base path at def (kept (NodeRefers (mark d j []) (loc site base)) x) ok
  kept _ (read {i = i} {q = q} {x = x} h d j site to ref base qs inside live at def refers listed ok place) =
      read_kept s t wf nodes all ds exact same done h i inside (kept (IsLive h) live) to ref d j site base q qs x at def (kept (NodeRefers (mark d j []) (loc site base)) refers) listed (kept (PlaceRefers (loc site (base ++ q)) x) place)
  kept _ (write {s = site} {base = base} {q = q} {x = x} i h d j ref from inside live at def refers ok value) =
      write_kept s t wf nodes all ds exact same done h i inside (kept (IsLive h) live) ref from d j site base q x at def (kept (NodeRefers (mark d j []) (loc site base)) refers) ok (kept (NodeRefers (mark i 0 q) x) value)
  kept _ (grow_fresh {i = i} {s = n} h to ref items site inside live at own) = grown.fresh_kept s t wf nodes all ds exact same done h i inside (kept (IsLive h) live) to ref items at n site own
  kept _ (grow_read {i = i} {q = q} {x = x} h d j target n to ref base items site inside live at own def refers member ok place) =
      grown.read_kept s t wf nodes all ds exact same done h i inside (kept (IsLive h) live) to ref items at n site own d j target base q x def (kept (NodeRefers (mark d j []) (loc target base)) refers) member (kept (PlaceRefers (loc target (element base q)) x) place)
  kept _ (grow_copy {i = i} {q = q} {x = x} h to ref items inside live at from) =
      let g = wf.grow_site i to ref items at in
      grown.copy_kept s t wf nodes all ds exact same done h i inside (kept (IsLive h) live) to ref items at g.number g.one.site g.one.is q x (kept (NodeRefers (mark i 2 q) x) from)
  kept _ (grow_write {s = target} {base = base} {q = q} {x = x} i h to ref items inside live at refers ok value) =
      let g = wf.grow_site i to ref items at in
      grown.write_kept s t wf nodes all ds exact same done h i inside (kept (IsLive h) live) to ref items at g.number g.one.site g.one.is target base q x (kept (NodeRefers (mark i 0 []) (loc target base)) refers) ok (kept (NodeRefers (mark i 1 q) x) value)
  kept _ (global {i = i} {s = site} h to k ident pos inside live at g) = global_kept s t wf nodes all ds exact same done h i inside (kept (IsLive h) live) to k site ident pos at g
  kept _ (assert {i = i} {s = site} {path = path} h d j to from target inside live at def x ok) =
      assert_kept s t wf nodes all ds exact same done h i inside (kept (IsLive h) live) to from target d j site path at def (kept (NodeRefers (mark d j []) (loc site path)) x) ok
  kept _ (param {e = e} {j = j} {q = q} {x = x} i g n k takes kind callee args fn at hands target taken goes is first there from) =
      subst (λ w. Kept (NodeRefers (mark w j q) x)) (sym first)
      (param_kept s t wf nodes all ds exact same done i g n k j takes q x kind callee args fn at hands (kept (Targets i g takes) target) taken is (subst (λ w. IsNode s.program.now (mark w j q)) first there) (kept (NodeRefers (mark i (n + k) q) x) from) goes)
  kept _ (result {i = i} {k = k} {q = q} {x = x} g takes to args callee fn at target is body within there from) =
      result_kept s t wf nodes all ds exact same done i g takes to args callee at (kept (Targets i g takes) target) k q x fn is body within there (kept (NodeRefers (mark fn.leave k q) x) from)
  kept _ (fresh_result {i = i} {k = k} {s = site} {q = q} h g r takes flows to args callee fn inside at target is ext reg made) =
      fresh_kept s t wf nodes all ds exact same done i g takes to args callee at (kept (Targets i g takes) target) wf.registers.distinct h k r site flows q fn inside is ext reg made
