-- What rules of calls say is so, where the call says it.
use Rattle.std.proofs.Common.{◌≡◌, ℕ, ◌+◌, ◌<◌, Bool, List, [], Some, refl, sym, ap, ◌∙◌, inl, inr, arith, subst}
use Rattle.std.specs.Prelude.{◌⊎◌, slice_get, length}
use Rattle.argot_plain.specs.Code.{Code, IsAt, IsFunction, IsIn, Hands, by_call, by_go, by_defer, found_by, GoesTo, arguments, param_of}
use Rattle.argot_plain.specs.Nodes.{mark, HasLeaf, of_kind, of_entry}
use Rattle.argot_plain.specs.Outside.{IsResultSite}
use Rattle.argot_plain.specs.WellFormed.{WellFormed}
use Rattle.argot_plain.specs.declared.functions.Function.{Function}
use Rattle.argot_plain.specs.declared.instructions.Callee.{Callee}
use Rattle.argot_plain.specs.declared.instructions.Callee.TheVariants.{Static, Value, Method}
use Rattle.argot_plain.specs.declared.instructions.Kind.{Kind}
use Rattle.argot_plain.specs.declared.instructions.Kind.TheVariants.{Call, Go, Defer, Leave}
use Rattle.argot_text.specs.declared.path.PathStep.{PathStep}
use Rattle.argot_facts.specs.Exact.{place_of}
use Rattle.argot_facts.specs.Numbers.{node, location, locations_of, leaves_of}
use Rattle.argot_facts.specs.Reaching.{DefinedAt}
use Rattle.argot_facts.specs.Refers.{Location, Holds, IsLive, Targets, NodeRefers, target_is_live, target_static, target_value, target_method, param, result, fresh_result}
use Rattle.argot_facts.specs.declared.pointing.Loc.{Loc}
use Rattle.argot_facts.proofs.Marked.{register_leaves}
use Rattle.argot_points_rules.specs.Column.{reference}
use Rattle.argot_points_rules.specs.declared.rules.Rule.TheVariants.{Aim, Enter, Choose, Return, Fresh}
use Rattle.argot_points.specs.declared.system.System.{System}
use Rattle.argot_points.specs.Meaning.{IsRow, IsColumn, IsCall, NodeTo, Aimed, by_number, by_object, IsParam, Means, MeansAt, RuleHolds}
use Rattle.argot_points.proofs.Chosen.{means_selects}
use Rattle.argot_points.proofs.Called.{value_only, method_only, number_means_none}
use Rattle.argot_points.proofs.Told.{marked, same_item, refers_of, to_node}

pub same_kind : (p : Code) (i : ℕ) (a b : Kind) → IsAt p i a → IsAt p i b → a ≡ b
same_kind p i a b h k = let e : Some a ≡ Some b = sym h ∙ k in cc

-- an instruction hands on in one way
call_only : (to args : List ℕ) (callee c : Callee) (xs : List ℕ) (m : ℕ) → Hands (Call to callee args) c xs m → (c ≡ callee) × (xs ≡ args) × (m ≡ length to)
call_only to args callee c xs m by_call = (refl, refl, refl)

go_only : (args : List ℕ) (callee c : Callee) (xs : List ℕ) (m : ℕ) → Hands (Go callee args) c xs m → (c ≡ callee) × (xs ≡ args) × (m ≡ 0)
go_only args callee c xs m by_go = (refl, refl, refl)

defer_only : (args : List ℕ) (callee c : Callee) (xs : List ℕ) (m : ℕ) → Hands (Defer callee args) c xs m → (c ≡ callee) × (xs ≡ args) × (m ≡ 0)
defer_only args callee c xs m by_defer = (refl, refl, refl)

pub hands_once : (k : Kind) (c d : Callee) (xs ys : List ℕ) (m n : ℕ) → Hands k c xs m → Hands k d ys n → (c ≡ d) × (xs ≡ ys) × (m ≡ n)
hands_once (Call to callee args) c d xs ys m n h g = let a = call_only to args callee c xs m h in let b = call_only to args callee d ys n g in (a.0 ∙ sym b.0, a.1 ∙ sym b.1, a.2 ∙ sym b.2)
hands_once (Go callee args) c d xs ys m n h g = let a = go_only args callee c xs m h in let b = go_only args callee d ys n g in (a.0 ∙ sym b.0, a.1 ∙ sym b.1, a.2 ∙ sym b.2)
hands_once (Defer callee args) c d xs ys m n h g = let a = defer_only args callee c xs m h in let b = defer_only args callee d ys n g in (a.0 ∙ sym b.0, a.1 ∙ sym b.1, a.2 ∙ sym b.2)
hands_once _ c d xs ys m n h g = elim h [ ]

-- what stands at the reference by which the call goes, comes from a definition
abbrev pub Comes : Code → ℕ → ℕ → Location → Type 0
Comes p i r x = (d : ℕ) × (j : ℕ) × DefinedAt p d j r i × Holds p (NodeRefers (mark d j []) x)

module _ (s : System) (wf : WellFormed s.program.now) (all : s.locations.items ≡ locations_of s.program.now)
    (h i n : ℕ) (kind : Kind) (callee : Callee) (args : List ℕ) (inside : IsIn s.program.now i h) (live : Holds s.program.now (IsLive h)) (at : IsAt s.program.now i kind) (hands : Hands kind callee args n)
    (leaf : (r : ℕ) (name : List ℕ) → (callee ≡ Value r) ⊎ (callee ≡ Method r name) → (k : ℕ) × (reference i callee args n ≡ node i k 0) × HasLeaf s.program.now i k 0 [])
    (back : (r : ℕ) (name : List ℕ) → (callee ≡ Value r) ⊎ (callee ≡ Method r name) → (k : ℕ) (x : Location) → reference i callee args n ≡ node i k 0 → Holds s.program.now (NodeRefers (mark i k []) x) → Comes s.program.now i r x) where
  this_call : (c : Callee) (xs : List ℕ) (m : ℕ) → IsCall s.program.now i c xs m → (c ≡ callee) × (xs ≡ args) × (m ≡ n)
  this_call c xs m call = hands_once kind c callee xs args m n (subst (λ k. Hands k c xs m) (same_kind s.program.now i call.kind kind call.is at) call.hands) hands

  -- where an object stands at the reference, it comes from a definition
  comes : (r : ℕ) (name : List ℕ) → (callee ≡ Value r) ⊎ (callee ≡ Method r name) → (row y : ℕ) (l : Loc) → IsRow s row (reference i callee args n) → NodeTo s row y → IsColumn s y l → Comes s.program.now i r (place_of l)
  comes r name which row y l is to column =
      let k = leaf r name which in
      let f = refers_of s wf all row y (node i k.0 0) (mark i k.0 []) (subst (IsRow s row) k.1 is) (marked s.program.now i k.0 0 [] k.2) to in
      let e = same_item s.locations.items y f.0 l f.1 column in
      back r name which k.0 (place_of l) k.1 (subst (λ (x : Loc). Holds s.program.now (NodeRefers (mark i k.0 []) (place_of x))) e f.2)

  pub aimed_is : (g : ℕ) (takes : Bool) → Aimed s (NodeTo s) i (reference i callee args n) g takes → Holds s.program.now (Targets i g takes)
  aimed_is g takes (by_number xs m call) = target_static h m call.kind xs inside live call.is call.hands
  aimed_is g takes (by_object c xs m row y call is to means) = by (subst (λ c. Means s c y g takes) (this_call c xs m call).0 means)
    where
      by : Means s callee y g takes → Holds s.program.now (Targets i g takes)
      by means = meant callee refl means.means
        where
          meant : (c : Callee) → callee ≡ c → MeansAt s means.loc.site callee g takes → Holds s.program.now (Targets i g takes)
          meant (Value r) e m =
              let v = value_only s means.loc.site g r takes callee e m in
              let x = comes r [] (inl e) row y means.loc is to means.is in
              target_value h n x.0 x.1 r means.loc.site means.loc.path kind args v.here v.fn inside live at (subst (λ c. Hands kind c args n) e hands) x.2 x.3 v.at v.named v.is v.env
          meant (Method r name) e m =
              let d = method_only s means.loc.site g r name takes callee e m in
              let x = comes r name (inr e) row y means.loc is to means.is in
              subst (λ t. Holds s.program.now (Targets i g t)) (sym d.1)
              (target_method h n x.0 x.1 r means.loc.site name means.loc.path kind args d.0.here inside live at (subst (λ c. Hands kind c args n) e hands) x.2 x.3 d.0.at d.0.listed)
          meant (Static g') e m = absurd (number_means_none s means.loc.site g g' takes callee e m)

  pub aim_told : RuleHolds s (Aim i (reference i callee args n))
  aim_told g takes aimed = record { holds = target_is_live i takes (aimed_is g takes aimed) }

  -- a handed value becomes a parameter
  lands : (k g : ℕ) (takes : Bool) (q : List PathStep) (m y : ℕ) (l : Loc) → Holds s.program.now (Targets i g takes) → GoesTo s.program.now callee args k l.site g → IsParam s i g takes k q m → IsColumn s y l
      → Holds s.program.now (NodeRefers (mark i (n + k) q) (place_of l)) → NodeTo s m y
  lands k g takes q m y l targets goes entered column refers =
      let c = this_call entered.taken.callee entered.taken.args entered.taken.behind entered.taken.call in
      let taken : param_of takes (length (arguments callee args)) k ≡ Some entered.param = subst (λ c. param_of takes (length (arguments c args)) k ≡ Some entered.param) c.0 (subst (λ xs. param_of takes (length (arguments entered.taken.callee xs)) k ≡ Some entered.param) c.1 entered.taken.taken) in
      let fn = entered.of.fn in
      let leaf = parameter_leaf g fn entered.param entered.of.row.leaf q entered.of.is entered.of.within entered.of.row.at in
      to_node s wf all m y (node fn.entry entered.param entered.of.row.leaf) (mark fn.entry entered.param q) l entered.of.row.row (marked s.program.now fn.entry entered.param entered.of.row.leaf q leaf) column
      (param i g n k takes kind callee args fn at hands targets taken goes entered.of.is refl (record { number = entered.of.row.leaf; has = leaf }) refers)
    where
      parameter_leaf : (g : ℕ) (fn : Function) (j a : ℕ) (q : List PathStep) → IsFunction s.program.now g fn → j < fn.params → slice_get (leaves_of fn j) a ≡ Some q → HasLeaf s.program.now fn.entry j a q
      parameter_leaf g fn j a q is within e = of_entry g (record { fn = fn; is = is; at = refl }) within (ap (λ x. slice_get x a) (register_leaves s.program.now g fn j is) ∙ e)

  pub enter_told : (k a : ℕ) (q : List PathStep) → (found_by callee args ≡ Some k → ⊥) → HasLeaf s.program.now i (n + k) a q → RuleHolds s (Enter i (reference i callee args n) k q (node i (n + k) a))
  enter_told k a q other has g takes aimed row m y entered is to =
      let f = refers_of s wf all row y (node i (n + k) a) (mark i (n + k) q) is (marked s.program.now i (n + k) a q has) to in
      lands k g takes q m y f.0 (aimed_is g takes aimed) (λ e. absurd (other e)) entered f.1 f.2

  -- and that by which the callee is found does where it selects the function
  pub choose_told : (k : ℕ) → reference i callee args n ≡ node i (n + k) 0 → HasLeaf s.program.now i (n + k) 0 [] → RuleHolds s (Choose i (reference i callee args n) k)
  choose_told k e has row y m is to chosen =
      let f = refers_of s wf all row y (node i (n + k) 0) (mark i (n + k) []) (subst (IsRow s row) e is) (marked s.program.now i (n + k) 0 [] has) to in
      let g = chosen.by.function in
      let takes = chosen.by.takes in
      let c = this_call chosen.callee chosen.there.args chosen.there.behind chosen.there.call in
      let means = subst (λ c. Means s c y g takes) c.0 chosen.by.means in
      let aimed : Aimed s (NodeTo s) i (reference i callee args n) g takes = by_object callee args n row y (record { kind = kind; is = at; hands = hands }) is to means in
      let here = same_item s.locations.items y means.loc f.0 means.is f.1 in
      lands k g takes [] m y f.0 (aimed_is g takes aimed) (λ _. means_selects s f.0.site callee g takes (subst (λ (x : Loc). MeansAt s x.site callee g takes) here means.means)) chosen.by.param f.1 f.2

  module _ (to : List ℕ) (calls : kind ≡ Call to callee args) where
    call_at : IsAt s.program.now i (Call to callee args)
    call_at = subst (IsAt s.program.now i) calls at

    pub return_told : (k a : ℕ) (q : List PathStep) → k < length to → HasLeaf s.program.now i k a q → RuleHolds s (Return i (reference i callee args n) k q (node i k a))
    return_told k a q within has g takes aimed row m y handed is from =
        let fn = handed.returned.fn in
        let r = wf.ranges.inside g fn handed.returned.is in
        let there : IsIn s.program.now fn.leave g = record { fn = fn; is = handed.returned.is; low = omega (arith, r.0, r.1); high = omega arith } in
        let leaf : HasLeaf s.program.now fn.leave k handed.row.leaf q = of_kind g handed.register (Leave handed.returned.from) there handed.returned.leaves handed.returned.value (ap (λ x. slice_get x handed.row.leaf) (register_leaves s.program.now g fn handed.register handed.returned.is) ∙ handed.row.at) in
        let f = refers_of s wf all m y (node fn.leave k handed.row.leaf) (mark fn.leave k q) handed.row.row (marked s.program.now fn.leave k handed.row.leaf q leaf) from in
        to_node s wf all row y (node i k a) (mark i k q) f.0 is (marked s.program.now i k a q has) f.1
        (result g takes to args callee fn call_at (aimed_is g takes aimed) handed.returned.is handed.body within (record { number = a; has = has }) f.2)

    pub fresh_told : (k a t site : ℕ) (q : List PathStep) → HasLeaf s.program.now i k a q → slice_get to k ≡ Some t → IsResultSite s.program.now h i k t q site → RuleHolds s (Fresh i (reference i callee args n) (node i k a) site)
    fresh_told k a t site q has reg made g takes aimed row y outside is root =
        to_node s wf all row y (node i k a) (mark i k q) (location site []) is (marked s.program.now i k a q has) root
        (fresh_result h g t takes outside.flows to args callee outside.fn inside call_at (aimed_is g takes aimed) outside.is outside.external reg made)
