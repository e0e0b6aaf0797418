-- The rules of calls say what is so.
use Rattle.std.proofs.Common.{◌≡◌, ℕ, ◌+◌, Bool, List, [], ◌∷◌, ◌++◌, Some, drop, refl, sym, ap, ◌∙◌, inl, inr, arith, subst}
use Rattle.std.specs.Prelude.{◌⊎◌, slice_get, length}
use Rattle.argot_plain.specs.Lists.{In}
use Rattle.argot_plain.specs.Code.{IsAt, IsFunction, IsIn, IsSiteOf, Hands, by_call, by_go, by_defer, found_by, handed_values, leaves}
use Rattle.argot_plain.specs.Nodes.{mark, HasLeaf}
use Rattle.argot_plain.specs.WellFormed.{WellFormed}
use Rattle.argot_plain.specs.declared.functions.Function.{Function}
use Rattle.argot_plain.specs.declared.instructions.Callee.{Callee}
use Rattle.argot_plain.specs.declared.instructions.Callee.TheVariants.{Value, Method}
use Rattle.argot_plain.specs.declared.instructions.Kind.{Kind}
use Rattle.argot_plain.specs.declared.instructions.Kind.TheVariants.{Call, Go, Defer}
use Rattle.argot_text.specs.declared.path.PathStep.{PathStep}
use Rattle.argot_facts.specs.Copies.{Copies}
use Rattle.argot_facts.specs.Exact.{AreDefs}
use Rattle.argot_facts.specs.Numbers.{node, locations_of, leaves_of}
use Rattle.argot_facts.specs.Refers.{Location, Holds, IsLive, Targets, NodeRefers}
use Rattle.argot_facts.specs.declared.nodes.Node.{Node}
use Rattle.argot_facts.proofs.Marked.{register_leaves}
use Rattle.argot_facts.proofs.Listed.{get_within, get_at, get-drop}
use Rattle.argot_points_rules.specs.Column.{owned, register_copies, kind_rules, hand_rules, reference, reference_index, enters, returns, fresh_of}
use Rattle.argot_points_rules.specs.declared.rules.Owned.{Owned}
use Rattle.argot_points_rules.specs.declared.rules.Rule.TheVariants.{Aim}
use Rattle.argot_points.specs.declared.system.System.{System}
use Rattle.argot_points.specs.Meaning.{NodeTo, Aimed, RuleHolds}
use Rattle.argot_points.proofs.Each.{In-append, one-In}
use Rattle.argot_points.proofs.Chosen.{value_is, value_not, reference_found, found_leaves}
use Rattle.argot_points.proofs.Handed.{each_enters, each_returns, each_fresh}
use Rattle.argot_points.proofs.CallsTold.{Comes, aimed_is, aim_told, enter_told, choose_told, return_told, fresh_told}
use Rattle.argot_points.proofs.Sent.{sent_from}
use Rattle.argot_points.proofs.Justified.{registers_told, own_leaf, reference_leaf, handed_register, value_reference, method_reference, get-front, get-last}

pub handed_copies : (kind : Kind) (callee : Callee) (args : List ℕ) (n k r : ℕ) (q : List PathStep) → Hands kind callee args n → slice_get (handed_values callee args) k ≡ Some r → Copies kind r q (n + k) q
handed_copies kind callee args n k r q (by_call {to = to}) e = (k, e, refl, refl)
handed_copies kind callee args n k r q by_go e = let z : 0 + k ≡ k = omega arith in (ap (slice_get (handed_values callee args)) z ∙ e, refl)
handed_copies kind callee args n k r q by_defer e = let z : 0 + k ≡ k = omega arith in (ap (slice_get (handed_values callee args)) z ∙ e, refl)

module _ (s : System) (wf : WellFormed s.program.now) (all : s.locations.items ≡ locations_of s.program.now) (ds : List (ℕ × ℕ × ℕ)) (exact : AreDefs s.program.now ds)
    (h i : ℕ) (fn : Function) (is : IsFunction s.program.now h fn) (inside : IsIn s.program.now i h) (live : Holds s.program.now (IsLive h)) where
  abbrev Told : Owned → Type 0
  Told o = RuleHolds s o.rule

  module _ (kind : Kind) (callee : Callee) (args : List ℕ) (n : ℕ) (at : IsAt s.program.now i kind) (hands : Hands kind callee args n) where
    -- where the reference stands among the handed values
    stands : (r : ℕ) (name : List ℕ) → (callee ≡ Value r) ⊎ (callee ≡ Method r name) → (j : ℕ) × (reference_index callee args n ≡ n + j) × (slice_get (handed_values callee args) j ≡ Some r) × (slice_get (leaves_of fn r) 0 ≡ Some [])
    stands r name (inl e) = (
      length args,
      ap (λ c. reference_index c args n) e,
      ap (λ c. slice_get (handed_values c args) (length args)) e ∙ get-last args r,
      reference_leaf s wf all ds exact h i fn is inside live kind r at (value_reference kind callee args n r hands e),
    )
    stands r name (inr e) = let z : n ≡ n + 0 = omega arith in (
      0,
      ap (λ c. reference_index c args n) e ∙ z,
      ap (λ c. slice_get (handed_values c args) 0) e,
      reference_leaf s wf all ds exact h i fn is inside live kind r at (method_reference kind callee args n r name hands e),
    )

    leaf : (r : ℕ) (name : List ℕ) → (callee ≡ Value r) ⊎ (callee ≡ Method r name) → (k : ℕ) × (reference i callee args n ≡ node i k 0) × HasLeaf s.program.now i k 0 []
    leaf r name which =
        let t = stands r name which in
        (n + t.0, ap (λ k. node i k 0) t.1, own_leaf s wf all ds exact h i fn is inside live kind (n + t.0) r 0 [] at (handed_register kind callee args n t.0 r hands t.2) t.3)

    back : (r : ℕ) (name : List ℕ) → (callee ≡ Value r) ⊎ (callee ≡ Method r name) → (k : ℕ) (x : Location) → reference i callee args n ≡ node i k 0 → Holds s.program.now (NodeRefers (mark i k []) x) → Comes s.program.now i r x
    back r name which k x e t =
        let u = stands r name which in
        let z : k ≡ n + u.0 = ap (λ (w : Node). w.index) (sym e) ∙ u.1 in
        sent_from s.program.now wf i u.0 r [] x kind callee args n at hands u.2 (subst (λ w. Holds s.program.now (NodeRefers (mark i w []) x)) z t)

    hand_told : (o : Owned) → In o (hand_rules s.program.now fn ds h i (reference i callee args n) n callee args) → Told o
    hand_told o m = elim (In-append o (register_copies s.program.now fn ds h i n (handed_values callee args) ++ owned h (Aim i (reference i callee args n)) ∷ []) (enters fn h i (reference i callee args n) n (found_by callee args) 0 (handed_values callee args)) m) [
      | inl l ↦ elim (In-append o (register_copies s.program.now fn ds h i n (handed_values callee args)) (owned h (Aim i (reference i callee args n)) ∷ []) l) [
        | inl l ↦ registers_told s wf all ds exact h i fn is inside live kind n (handed_values callee args) at (λ j r q g. handed_register kind callee args n j r hands g) (λ j r q g. handed_copies kind callee args n j r q hands g) o l
        | inr l ↦ subst Told (sym (one-In o (owned h (Aim i (reference i callee args n))) l)) (aim_told s wf all h i n kind callee args inside live at hands leaf back)
      ]
      | inr l ↦ each_enters Told o fn h i (reference i callee args n) n (found_by callee args) 0 (handed_values callee args) l
          (λ l j r e g t a q lf.
          let z : j ≡ l = omega (arith, e) in
          enter_told s wf all h i n kind callee args inside live at hands leaf back l a q (value_not (found_by callee args) l t)
          (own_leaf s wf all ds exact h i fn is inside live kind (n + l) r a q at (handed_register kind callee args n l r hands (subst (λ w. slice_get (handed_values callee args) w ≡ Some r) z g)) lf))
          (λ l j r e g t.
          let z : j ≡ l = omega (arith, e) in
          let f = value_is (found_by callee args) l t in
          let reg = subst (λ w. slice_get (handed_values callee args) w ≡ Some r) z g in
          let whole = ap (λ x. slice_get x 0) (sym (register_leaves s.program.now h fn r is) ∙ found_leaves s.program.now wf h i n l r kind callee args inside at hands f reg) in
          choose_told s wf all h i n kind callee args inside live at hands leaf back l (reference_found i callee args n l f)
          (own_leaf s wf all ds exact h i fn is inside live kind (n + l) r 0 [] at (handed_register kind callee args n l r hands reg) whole))
    ]

  -- what stands at the reference makes targets
  pub target_told : (kind : Kind) (callee : Callee) (args : List ℕ) (n g : ℕ) (takes : Bool) → IsAt s.program.now i kind → Hands kind callee args n → Aimed s (NodeTo s) i (reference i callee args n) g takes → Holds s.program.now (Targets i g takes)
  target_told kind callee args n g takes at hands aimed = aimed_is s wf all h i n kind callee args inside live at hands (leaf kind callee args n at hands) (back kind callee args n at hands) g takes aimed

  pub go_told : (callee : Callee) (args : List ℕ) → IsAt s.program.now i (Go callee args) → (o : Owned) → In o (kind_rules s.program.now fn ds h i (Go callee args)) → Told o
  go_told callee args at o m = hand_told (Go callee args) callee args 0 at by_go o m

  pub defer_told : (callee : Callee) (args : List ℕ) → IsAt s.program.now i (Defer callee args) → (o : Owned) → In o (kind_rules s.program.now fn ds h i (Defer callee args)) → Told o
  defer_told callee args at o m = hand_told (Defer callee args) callee args 0 at by_defer o m

  pub call_told : (to args : List ℕ) (callee : Callee) → IsAt s.program.now i (Call to callee args) → (o : Owned) → In o (kind_rules s.program.now fn ds h i (Call to callee args)) → Told o
  call_told to args callee at o m =
      elim (In-append o (hand_rules s.program.now fn ds h i (reference i callee args (length to)) (length to) callee args ++ returns fn h i (reference i callee args (length to)) 0 to) (fresh_of s.program.now h i (reference i callee args (length to))) m) [
        | inl l ↦ elim (In-append o (hand_rules s.program.now fn ds h i (reference i callee args (length to)) (length to) callee args) (returns fn h i (reference i callee args (length to)) 0 to) l) [
          | inl l ↦ hand_told (Call to callee args) callee args (length to) at by_call o l
          | inr l ↦ each_returns Told o fn h i (reference i callee args (length to)) 0 to l
              (λ l j r e g a q lf.
              let z : j ≡ l = omega (arith, e) in
              let reg : slice_get to l ≡ Some r = subst (λ w. slice_get to w ≡ Some r) z g in
              return_told s wf all h i (length to) (Call to callee args) callee args inside live at by_call (leaf (Call to callee args) callee args (length to) at by_call) (back (Call to callee args) callee args (length to) at by_call) to refl
              l a q (get_within to l r reg) (result_leaf l r a q reg lf))
        ]
        | inr l ↦ each_fresh Told o h i (reference i callee args (length to)) (length s.program.now.globals) (drop (length s.program.now.globals) s.program.now.sites) l
            (λ n b site e g k.
            let there : slice_get s.program.now.sites n ≡ Some site = ap (slice_get s.program.now.sites) e ∙ sym (get-drop (length s.program.now.globals) s.program.now.sites b) ∙ g in
            let own : IsSiteOf s.program.now i n site = record { is = there; behind = omega (arith, e); place = k } in
            let c = wf.call_sites i h n to args callee site inside at own in
            let lf = get_at (leaves s.program.now h c.register) site.leaf c.leaf in
            fresh_told s wf all h i (length to) (Call to callee args) callee args inside live at by_call (leaf (Call to callee args) callee args (length to) at by_call) (back (Call to callee args) callee args (length to) at by_call) to refl
            site.result site.leaf c.register n lf.0 (result_leaf site.result c.register site.leaf lf.0 c.result (ap (λ x. slice_get x site.leaf) (sym (register_leaves s.program.now h fn c.register is)) ∙ lf.1)) c.result (record { site = site; is = own; result = refl; leaf = lf.1 }))
      ]
    where
      result_leaf : (k r a : ℕ) (q : List PathStep) → slice_get to k ≡ Some r → slice_get (leaves_of fn r) a ≡ Some q → HasLeaf s.program.now i k a q
      result_leaf k r a q reg lf = own_leaf s wf all ds exact h i fn is inside live (Call to callee args) k r a q at (get-front to (handed_values callee args) k r reg) lf
