-- Tables that are closed under the rules of calls have what these say.
use Rattle.std.proofs.Common.{◌≡◌, ℕ, zero, suc, false, ◌+◌, ◌-◌, ◌<◌, Bool, true, List, [], ◌∷◌, ◌++◌, Some, None, Option, drop, refl, sym, ap, ◌∙◌, arith, subst}
use Rattle.std.specs.Prelude.{slice_get, length}
use Rattle.argot_links.specs.Table.{has}
use Rattle.argot_plain.specs.Lists.{In, here, IsDistinct}
use Rattle.argot_plain.specs.Code.{IsAt, IsFunction, IsIn, Hands, by_call, by_go, by_defer, found_by, Selects, GoesTo, arguments, handed_values, param_of, node_registers, leaves}
use Rattle.argot_plain.specs.Nodes.{Mark, mark, IsNode, HasLeaf, of_kind, of_items, of_elements, of_entry}
use Rattle.argot_plain.specs.Outside.{IsResultSite}
use Rattle.argot_plain.specs.WellFormed.{WellFormed}
use Rattle.argot_plain.specs.declared.functions.Function.{Function}
use Rattle.argot_plain.specs.declared.instructions.Callee.{Callee}
use Rattle.argot_plain.specs.declared.instructions.Callee.TheVariants.{Static}
use Rattle.argot_plain.specs.declared.instructions.Kind.{Kind}
use Rattle.argot_plain.specs.declared.instructions.Kind.TheVariants.{Grow, Call, Leave, Goto}
use Rattle.argot_text.specs.declared.path.PathStep.{PathStep}
use Rattle.argot_facts.specs.Exact.{AreDefs}
use Rattle.argot_facts.specs.Numbers.{node, location, nodes_of, locations_of, leaves_of}
use Rattle.argot_facts.specs.Refers.{Location, loc}
use Rattle.argot_facts.proofs.Marked.{register_leaves}
use Rattle.argot_facts.proofs.Listed.{get_within, get_at, get-drop}
use Rattle.argot_facts.proofs.Placed.{one_function}
use Rattle.argot_points_rules.specs.Column.{owned, register_copies, kind_rules, hand_rules, reference, is_value, enters, returns, fresh_of, rules_of}
use Rattle.argot_points_rules.specs.declared.rules.Owned.{Owned}
use Rattle.argot_points_rules.specs.declared.rules.Rule.TheVariants.{Aim, Enter, Choose, Return, Fresh}
use Rattle.argot_points.specs.declared.system.System.{System}
use Rattle.argot_points.specs.declared.system.Tables.{Tables}
use Rattle.argot_points.specs.Meaning.{IsRow, IsCall, IsParam, Means, Aimed}
use Rattle.argot_points.specs.Reading.{HasTarget}
use Rattle.argot_points.specs.Solved.{AllDone, Refers}
use Rattle.argot_points.proofs.CallsTold.{same_kind, hands_once}
use Rattle.argot_points.proofs.Defined.{entry_inside}
use Rattle.argot_points.proofs.Each.{In-left, In-right}
use Rattle.argot_points.proofs.Handed.{enters_have, chooses_have, returns_have, fresh_have}
use Rattle.argot_points.proofs.Called.{object_aim}
use Rattle.argot_points.proofs.Chosen.{value_is, reference_found, found_leaves, selects_means}
use Rattle.argot_points.proofs.Justified.{get-front, get-behind}
use Rattle.argot_points.proofs.LeafOf.{node_leaf, leaf_there, never_entry}
use Rattle.argot_points.proofs.Ruled.{HasNode, row_of, column_of, rule_kept}

-- what stands behind the results is handed on
behind_results : (kind : Kind) (callee : Callee) (args : List ℕ) (n k r : ℕ) → Hands kind callee args n → slice_get (node_registers kind) (n + k) ≡ Some r → slice_get (handed_values callee args) k ≡ Some r
behind_results kind callee args n k r (by_call {to = to}) e = sym (get-behind to (handed_values callee args) k) ∙ e
behind_results kind callee args n k r by_go e = let z : k ≡ 0 + k = omega arith in ap (slice_get (handed_values callee args)) z ∙ e
behind_results kind callee args n k r by_defer e = let z : k ≡ 0 + k = omega arith in ap (slice_get (handed_values callee args)) z ∙ e

module _ (s : System) (t : Tables) (wf : WellFormed s.program.now) (nodes : s.nodes.items ≡ nodes_of s.program.now) (all : s.locations.items ≡ locations_of s.program.now)
    (ds : List (ℕ × ℕ × ℕ)) (exact : AreDefs s.program.now ds) (same : s.rules.items ≡ rules_of s.program.now ds) (done : AllDone s t) where
  abbrev Node : Mark → Location → Type 0
  Node m x = HasNode s t wf nodes all ds exact same done m x

  abbrev Target : ℕ → ℕ → Bool → Type 0
  Target i g takes = HasTarget s t i g takes

  hand_rule : (h i : ℕ) (fn : Function) (kind : Kind) (callee : Callee) (args : List ℕ) (n : ℕ) → Hands kind callee args n → (o : Owned)
      → In o (hand_rules s.program.now fn ds h i (reference i callee args n) n callee args) → In o (kind_rules s.program.now fn ds h i kind)
  hand_rule h i fn kind callee args n (by_call {to = to}) o m =
      let by = reference i callee args (length to) in
      In-left o (hand_rules s.program.now fn ds h i by (length to) callee args ++ returns fn h i by 0 to) (fresh_of s.program.now h i by)
      (In-left o (hand_rules s.program.now fn ds h i by (length to) callee args) (returns fn h i by 0 to) m)
  hand_rule h i fn kind callee args n by_go o m = m
  hand_rule h i fn kind callee args n by_defer o m = m

  pub target_live : (i g : ℕ) (takes : Bool) → Target i g takes → has t.live 0 g ≡ true
  target_live i g takes x =
      let by = reference i x.callee x.args x.behind in
      let fn = x.inside.fn in
      let o = owned x.function (Aim i by) in
      let values = handed_values x.callee x.args in
      let m = hand_rule x.function i fn x.kind x.callee x.args x.behind x.hands o
      (In-left o (register_copies s.program.now fn ds x.function i x.behind values ++ o ∷ []) (enters fn x.function i by x.behind (found_by x.callee x.args) 0 values)
      (In-right o (register_copies s.program.now fn ds x.function i x.behind values) (o ∷ []) (here refl))) in
      rule_kept s t wf nodes all ds exact same done x.function i x.inside x.kind x.live x.at (Aim i by) m g takes x.aimed

  -- the register of a leaf that a place has
  sent_leaf : (h i k a n : ℕ) (q : List PathStep) (kind : Kind) (callee : Callee) (args : List ℕ) (inside : IsIn s.program.now i h) → IsAt s.program.now i kind → Hands kind callee args n → HasLeaf s.program.now i (n + k) a q
      → (r : ℕ) × (slice_get (handed_values callee args) k ≡ Some r) × (slice_get (leaves_of inside.fn r) a ≡ Some q)
  sent_leaf h i k a n q kind callee args inside at hands (of_kind g r kind' inside' at' reg leaf) =
      let e = same_kind s.program.now i kind' kind at' at in
      let reg' = subst (λ c. slice_get (node_registers c) (n + k) ≡ Some r) e reg in
      (r, behind_results kind callee args n k r hands reg', node_leaf s.program.now wf h inside.fn inside.is i (n + k) a r q kind inside at reg' (of_kind g r kind' inside' at' reg leaf))
  sent_leaf h i k a n q kind callee args inside at hands (of_items b to ref items site at' own one leaf) = absurd (elim (subst (λ c. Hands c callee args n) (same_kind s.program.now i kind (Grow to ref items) at at') hands) [ ])
  sent_leaf h i k a n q kind callee args inside at hands (of_elements b to ref items site at' own two leaf) = absurd (elim (subst (λ c. Hands c callee args n) (same_kind s.program.now i kind (Grow to ref items) at at') hands) [ ])
  sent_leaf h i k a n q kind callee args inside at hands (of_entry g e within leaf) = absurd (never e.fn.external refl)
    where
      goes_on : (target : ℕ) → IsAt s.program.now e.fn.entry (Goto target) → ⊥
      goes_on target x = elim (subst (λ c. Hands c callee args n) (same_kind s.program.now e.fn.entry kind (Goto target) (subst (λ c. IsAt s.program.now c kind) e.at at) x) hands) [ ]

      never : (o : Option Bool) → e.fn.external ≡ o → ⊥
      never None x = goes_on (e.fn.entry + 1) (wf.entry_goto g e.fn e.is x)
      never (Some flows) x = goes_on e.fn.entry (wf.externals g flows e.fn e.is x).goto

  -- a leaf of a parameter
  param_leaf : (g : ℕ) (fn : Function) (j a : ℕ) (q : List PathStep) → IsFunction s.program.now g fn → HasLeaf s.program.now fn.entry j a q → (j < fn.params) × (slice_get (leaves_of fn j) a ≡ Some q)
  param_leaf g fn j a q is (of_kind g' r kind inside at reg leaf) = absurd (never_entry s.program.now wf g fn is fn.entry g j r kind at reg (record { fn = fn; is = is; at = refl }))
  param_leaf g fn j a q is (of_items b to ref items site at own one leaf) = absurd (never_entry s.program.now wf g fn is fn.entry g 0 to (Grow to ref items) at refl (record { fn = fn; is = is; at = refl }))
  param_leaf g fn j a q is (of_elements b to ref items site at own two leaf) = absurd (never_entry s.program.now wf g fn is fn.entry g 0 to (Grow to ref items) at refl (record { fn = fn; is = is; at = refl }))
  param_leaf g fn j a q is (of_entry g' e within leaf) =
      let f = one_function s.program.now wf.ranges fn.entry g' g (entry_inside s.program.now wf fn.entry g' e) (entry_inside s.program.now wf fn.entry g (record { fn = fn; is = is; at = refl })) in
      let u : Some e.fn ≡ Some fn = sym e.is ∙ ap (slice_get s.program.now.functions) f ∙ is in
      let v : e.fn ≡ fn = cc in
      (subst (λ (x : Function). j < x.params) v within, leaf_there s.program.now wf g fn is g' j a q f leaf)

  module _ (i g n k j : ℕ) (takes : Bool) (q : List PathStep) (x : Location) (kind : Kind) (callee : Callee) (args : List ℕ) (fn : Function) (at : IsAt s.program.now i kind) (hands : Hands kind callee args n)
      (target : Target i g takes) (taken : param_of takes (length (arguments callee args)) k ≡ Some j) (is : IsFunction s.program.now g fn) (stands : IsNode s.program.now (mark fn.entry j q)) (from : Node (mark i (n + k) q) x) where
    target_hands : (target.callee ≡ callee) × (target.args ≡ args) × (target.behind ≡ n)
    target_hands = hands_once kind target.callee callee target.args args target.behind n (subst (λ c. Hands c target.callee target.args target.behind) (same_kind s.program.now i target.kind kind target.at at) target.hands) hands

    target_found : found_by target.callee target.args ≡ found_by callee args
    target_found = ap (λ c. found_by c target.args) target_hands.0 ∙ ap (found_by callee) target_hands.1

    sent_there : (r : ℕ) × (slice_get (handed_values callee args) k ≡ Some r) × (slice_get (leaves_of target.inside.fn r) from.number ≡ Some q)
    sent_there = sent_leaf target.function i k from.number n q kind callee args target.inside at hands from.leaf

    sent_value : slice_get (handed_values target.callee target.args) k ≡ Some sent_there.0
    sent_value = ap (λ c. slice_get (handed_values c target.args) k) target_hands.0 ∙ ap (λ c. slice_get (handed_values callee c) k) target_hands.1 ∙ sent_there.1

    handed_rule : (o : Owned) → In o (enters target.inside.fn target.function i (reference i target.callee target.args target.behind) target.behind (found_by target.callee target.args) 0 (handed_values target.callee target.args))
        → In o (kind_rules s.program.now target.inside.fn ds target.function i target.kind)
    handed_rule o m =
        let by = reference i target.callee target.args target.behind in
        let values = handed_values target.callee target.args in
        hand_rule target.function i target.inside.fn target.kind target.callee target.args target.behind target.hands o
        (In-right o (register_copies s.program.now target.inside.fn ds target.function i target.behind values ++ owned target.function (Aim i by) ∷ [])
        (enters target.inside.fn target.function i by target.behind (found_by target.callee target.args) 0 values) m)

    entered : (p : List PathStep) → q ≡ p → (a b : ℕ) → HasLeaf s.program.now fn.entry j a q → IsRow s b (node fn.entry j a) → IsParam s i g takes k p b
    entered p e a b leaf row =
        let m = param_leaf g fn j a q is leaf in record {
          param = j;
          taken = record { callee = callee; args = args; behind = n; call = record { kind = kind; is = at; hands = hands }; taken = taken };
          of = record { fn = fn; is = is; within = m.0; row = record { leaf = a; at = m.1 ∙ ap Some e; row = row } };
        }

    -- a value by which the callee isn't found, goes to each target
    value_kept : is_value (found_by callee args) k ≡ false → Node (mark fn.entry j q) x
    value_kept other =
        let by = reference i target.callee target.args target.behind in
        let m = row_of s t wf nodes all ds exact same done i (n + k) from.number q from.leaf in
        let z : k ≡ 0 + k = omega arith in
        let rule = handed_rule (owned target.function (Enter i by k q (node i (target.behind + k) from.number)))
        (enters_have target.inside.fn target.function i by target.behind (found_by target.callee target.args) 0 (handed_values target.callee target.args) k k sent_there.0 z sent_value (ap (λ v. is_value v k) target_found ∙ other) from.number q sent_there.2) in
        let kept = rule_kept s t wf nodes all ds exact same done target.function i target.inside target.kind target.live target.at (Enter i by k q (node i (target.behind + k) from.number)) rule g takes target.aimed in
        record {
          number = stands.number;
          leaf = stands.has;
          to = from.to;
          column = from.column;
          is = from.is;
          at = from.at;
          refers = λ b a leaf row. kept m.0 b (entered q refl a b leaf row)
              (subst (λ w. IsRow s m.0 (node i (w + k) from.number)) (sym target_hands.2) m.1) from.column (from.refers m.0 from.number from.leaf m.1);
        }

    -- what the callee means at the targets
    target_means : (v : found_by callee args ≡ Some k) → (y : ℕ) × Means s callee y g takes
    target_means v =
        let a = object_aim s (Refers t) i (reference i target.callee target.args target.behind) callee alone g takes not_number target.aimed in (a.1, a.4)
      where
        alone : (other : Callee) (xs : List ℕ) (m : ℕ) → IsCall s.program.now i other xs m → other ≡ callee
        alone other xs m call = (hands_once kind other callee xs args m n (subst (λ c. Hands c other xs m) (same_kind s.program.now i call.kind kind call.is at) call.hands) hands).0

        not_number : (h : ℕ) → callee ≡ Static h → ⊥
        not_number h e = let f : found_by (Static h) args ≡ Some k = ap (λ c. found_by c args) (sym e) ∙ v in cc

    -- that by which it is found, to what it selects
    chosen_kept : is_value (found_by callee args) k ≡ true → Selects s.program.now x.site g callee → Node (mark fn.entry j q) x
    chosen_kept found selects =
        let v = value_is (found_by callee args) k found in
        let by = reference i target.callee target.args target.behind in
        let m = row_of s t wf nodes all ds exact same done i (n + k) from.number q from.leaf in
        let z : k ≡ 0 + k = omega arith in
        let whole = register_leaves s.program.now target.function target.inside.fn sent_there.0 target.inside.is ∙ refl in
        let one = sym whole ∙ found_leaves s.program.now wf target.function i n k sent_there.0 kind callee args target.inside at hands v sent_there.1 in
        let first = only_leaf from.number q (ap (λ c. slice_get c from.number) (sym one) ∙ sent_there.2) in
        let by_is : by ≡ node i (n + k) 0 =
        ap (λ c. reference i c target.args target.behind) target_hands.0 ∙ ap (λ c. reference i callee c target.behind) target_hands.1 ∙ ap (reference i callee args) target_hands.2 ∙ reference_found i callee args n k v in
        let by_row : IsRow s m.0 by = subst (IsRow s m.0) (ap (node i (n + k)) first.0 ∙ sym by_is) m.1 in
        let rule = handed_rule (owned target.function (Choose i by k))
        (chooses_have target.inside.fn target.function i by target.behind (found_by target.callee target.args) 0 (handed_values target.callee target.args) k k sent_there.0 z sent_value (ap (λ v. is_value v k) target_found ∙ found)) in
        let kept = rule_kept s t wf nodes all ds exact same done target.function i target.inside target.kind target.live target.at (Choose i by k) rule in
        let site : x.site ≡ from.to.site = ap (λ (l : Location). l.site) from.is in
        let other = target_means v in
        let means = selects_means s from.to.site other.1.loc.site callee g takes (subst (λ c. Selects s.program.now c g callee) site selects) other.1.means in
        record {
          number = stands.number;
          leaf = stands.has;
          to = from.to;
          column = from.column;
          is = from.is;
          at = from.at;
          refers = λ b a leaf row. kept m.0 from.column b by_row (from.refers m.0 from.number from.leaf m.1) (record {
            callee = callee;
            there = record { args = args; behind = n; call = record { kind = kind; is = at; hands = hands } };
            by = record { function = g; takes = takes; means = record { loc = from.to; is = from.at; means = means }; param = entered [] first.1 a b leaf row };
          });
        }
      where
        only_leaf : (a : ℕ) (p : List PathStep) → slice_get ([] ∷ []) a ≡ Some p → (a ≡ 0) × (p ≡ [])
        only_leaf zero p e = (refl, cc)
        only_leaf (suc a) p e = absurd cc

    pub param_kept : GoesTo s.program.now callee args k x.site g → Node (mark fn.entry j q) x
    param_kept goes = value_case (is_value (found_by callee args) k) refl
      where
        value_case : (b : Bool) → is_value (found_by callee args) k ≡ b → Node (mark fn.entry j q) x
        value_case true e = chosen_kept e (goes (value_is (found_by callee args) k e))
        value_case false e = value_kept e

  -- a leaf of what is handed back
  left_leaf : (g : ℕ) (fn : Function) (from : List ℕ) (k a : ℕ) (q : List PathStep) → IsFunction s.program.now g fn → IsAt s.program.now fn.leave (Leave from) → HasLeaf s.program.now fn.leave k a q → (r : ℕ) × (slice_get from k ≡ Some r) × (slice_get (leaves_of fn r) a ≡ Some q)
  left_leaf g fn from k a q is at (of_kind g' r kind inside at' reg leaf) =
      let e = same_kind s.program.now fn.leave kind (Leave from) at' at in
      let reg' = subst (λ c. slice_get (node_registers c) k ≡ Some r) e reg in
      let w = wf.ranges.inside g fn is in
      let own : IsIn s.program.now fn.leave g = record { fn = fn; is = is; low = omega (arith, w.0, w.1); high = omega arith } in
      (r, reg', node_leaf s.program.now wf g fn is fn.leave k a r q (Leave from) own at reg' (of_kind g' r kind inside at' reg leaf))
  left_leaf g fn from k a q is at (of_items b to ref items site at' own one leaf) = let e = same_kind s.program.now fn.leave (Leave from) (Grow to ref items) at at' in absurd cc
  left_leaf g fn from k a q is at (of_elements b to ref items site at' own two leaf) = let e = same_kind s.program.now fn.leave (Leave from) (Grow to ref items) at at' in absurd cc
  left_leaf g fn from k a q is at (of_entry g' e within leaf) = absurd (never e.fn.external refl)
    where
      goes_on : (target : ℕ) → IsAt s.program.now e.fn.entry (Goto target) → ⊥
      goes_on target x = let y = same_kind s.program.now e.fn.entry (Leave from) (Goto target) (subst (λ c. IsAt s.program.now c (Leave from)) e.at at) x in absurd cc

      never : (o : Option Bool) → e.fn.external ≡ o → ⊥
      never None x = goes_on (e.fn.entry + 1) (wf.entry_goto g' e.fn e.is x)
      never (Some flows) x = goes_on e.fn.entry (wf.externals g' flows e.fn e.is x).goto

  module _ (i g : ℕ) (takes : Bool) (to args : List ℕ) (callee : Callee) (at : IsAt s.program.now i (Call to callee args)) (target : Target i g takes) where
    as_call : target.kind ≡ Call to callee args
    as_call = same_kind s.program.now i target.kind (Call to callee args) target.at at

    once : (target.callee ≡ callee) × (target.args ≡ args) × (target.behind ≡ length to)
    once = hands_once (Call to callee args) target.callee callee target.args args target.behind (length to) (subst (λ c. Hands c target.callee target.args target.behind) as_call target.hands) by_call

    aimed_here : Aimed s (Refers t) i (reference i callee args (length to)) g takes
    aimed_here = subst (λ n. Aimed s (Refers t) i (reference i callee args n) g takes) once.2
        (subst (λ xs. Aimed s (Refers t) i (reference i callee xs target.behind) g takes) once.1 (subst (λ c. Aimed s (Refers t) i (reference i c target.args target.behind) g takes) once.0 target.aimed))

    result_register : (k a : ℕ) (q : List PathStep) → k < length to → HasLeaf s.program.now i k a q → (r : ℕ) × (slice_get to k ≡ Some r) × (slice_get (leaves_of target.inside.fn r) a ≡ Some q)
    result_register k a q within leaf =
        let r = get_at to k within in
        (r.0, r.1, node_leaf s.program.now wf target.function target.inside.fn target.inside.is i k a r.0 q (Call to callee args) target.inside at (get-front to (handed_values callee args) k r.0 r.1) leaf)

    pub result_kept : (k : ℕ) (q : List PathStep) (x : Location) (fn : Function) → IsFunction s.program.now g fn → fn.external ≡ None → k < length to → IsNode s.program.now (mark i k q) → Node (mark fn.leave k q) x → Node (mark i k q) x
    result_kept k q x fn is body within stands from =
        let by = reference i callee args (length to) in
        let l = wf.leaves_at_leave.stands g fn is body in
        let v = left_leaf g fn l.0 k from.number q is l.1 from.leaf in
        let m = row_of s t wf nodes all ds exact same done fn.leave k from.number q from.leaf in
        record {
          number = stands.number;
          leaf = stands.has;
          to = from.to;
          column = from.column;
          is = from.is;
          at = from.at;
          refers = λ b a leaf row.
              let r = result_register k a q within leaf in
              let o = owned target.function (Return i by k q (node i k a)) in
              let z : k ≡ 0 + k = omega arith in
              let fnh = target.inside.fn in
              let rule = In-left o (hand_rules s.program.now fnh ds target.function i by (length to) callee args ++ returns fnh target.function i by 0 to) (fresh_of s.program.now target.function i by)
              (In-right o (hand_rules s.program.now fnh ds target.function i by (length to) callee args) (returns fnh target.function i by 0 to) (returns_have fnh target.function i by 0 to k k r.0 z r.1 a q r.2)) in
              rule_kept s t wf nodes all ds exact same done target.function i target.inside (Call to callee args) target.live at (Return i by k q (node i k a)) rule g takes aimed_here b m.0
              (record { register = v.0; returned = record { fn = fn; is = is; from = l.0; leaves = l.1; value = v.1 }; body = body; row = record { leaf = from.number; at = v.2; row = m.1 } }) row from.column (from.refers m.0 from.number from.leaf m.1);
        }

    -- where the leaves of a register are distinct, an external's result has its site's leaf alone
    pub fresh_kept : ((g r : ℕ) → IsDistinct (leaves s.program.now g r)) → (h k r site : ℕ) (flows : Bool) (q : List PathStep) (fn : Function) → IsIn s.program.now i h → IsFunction s.program.now g fn → fn.external ≡ Some flows → slice_get to k ≡ Some r
        → IsResultSite s.program.now h i k r q site → Node (mark i k q) (loc site [])
    fresh_kept distinct h k r site flows q fn inside is ext reg made =
        let by = reference i callee args (length to) in
        let own = made.is in
        let fnh = target.inside.fn in
        let first = get_within to k r reg in
        let same_h = one_function s.program.now wf.ranges i h target.function inside target.inside in
        let leaf_h : slice_get (leaves s.program.now target.function r) made.site.leaf ≡ Some q = subst (λ w. slice_get (leaves s.program.now w r) made.site.leaf ≡ Some q) same_h made.leaf in
        let c = column_of s t wf nodes all ds exact same done site [] (get_within s.program.now.sites site made.site own.is) refl in
        record {
          number = made.site.leaf;
          leaf = of_kind target.function r (Call to callee args) target.inside at (get-front to (handed_values callee args) k r reg) leaf_h;
          to = location site [];
          column = c.0;
          is = refl;
          at = c.1;
          refers = λ b a leaf row.
              let v = result_register k a q first leaf in
              let w : Some v.0 ≡ Some r = sym v.1 ∙ reg in
              let u : v.0 ≡ r = cc in
              let lf : slice_get (leaves s.program.now target.function r) a ≡ Some q = ap (λ x. slice_get x a) (register_leaves s.program.now target.function fnh r target.inside.is) ∙ ap (λ x. slice_get (leaves_of fnh x) a) (sym u) ∙ v.2 in
              let same_leaf : a ≡ made.site.leaf = distinct target.function r a made.site.leaf q lf leaf_h in
              let d = site - length s.program.now.globals in
              let z : site ≡ length s.program.now.globals + d = omega (arith, own.behind) in
              let o = owned target.function (Fresh i by (node i made.site.result made.site.leaf) site) in
              let listed = fresh_have target.function i by (length s.program.now.globals) (drop (length s.program.now.globals) s.program.now.sites) site d made.site z (get-drop (length s.program.now.globals) s.program.now.sites d ∙ ap (slice_get s.program.now.sites) (sym z) ∙ own.is) own.place in
              let rule = In-right o (hand_rules s.program.now fnh ds target.function i by (length to) callee args ++ returns fnh target.function i by 0 to) (fresh_of s.program.now target.function i by) listed in
              rule_kept s t wf nodes all ds exact same done target.function i target.inside (Call to callee args) target.live at (Fresh i by (node i made.site.result made.site.leaf) site) rule g takes aimed_here b c.0
              (record { fn = fn; is = is; flows = flows; external = ext }) (subst (λ w. IsRow s b (node i w made.site.leaf)) (sym made.result) (subst (λ w. IsRow s b (node i k w)) same_leaf row)) c.1;
        }
