-- The rules of a place belong to its function.
use Rattle.std.proofs.Common.{◌≡◌, ℕ, List, [], ◌∷◌, ◌++◌, Some, None, Option, drop, refl, ap, inl, inr}
use Rattle.std.specs.Prelude.{slice_get, length}
use Rattle.argot_plain.specs.Lists.{In}
use Rattle.argot_plain.specs.Code.{Code, found_by, handed_values}
use Rattle.argot_plain.specs.declared.functions.Function.{Function}
use Rattle.argot_plain.specs.declared.functions.Ident.{Ident}
use Rattle.argot_plain.specs.declared.instructions.Callee.{Callee}
use Rattle.argot_plain.specs.declared.instructions.Kind.{Kind}
use Rattle.argot_plain.specs.declared.instructions.Kind.TheVariants.{Move, Join, New, Step, Read, Write, Grow, Global, Assert, Call, Go, Defer, Leave, Passed}
use Rattle.argot_text.specs.declared.position.Pos.{Pos}
use Rattle.argot_facts.specs.Numbers.{node, leaves_of, own_site, shape_at}
use Rattle.argot_facts.specs.declared.nodes.Node.{Node}
use Rattle.argot_points_rules.specs.Column.{owned, copies, value_copies, value_loads, value_stores, register_copies, item_copies, definitions, kind_rules, grow_rules, variable_rules, hand_rules, reference, enters, returns, fresh_of}
use Rattle.argot_points_rules.specs.declared.rules.Owned.{Owned}
use Rattle.argot_points_rules.specs.declared.rules.Rule.TheVariants.{Put, Aim}
use Rattle.argot_points.proofs.Each.{In-append, one-In, each_copies, each_shifts, each_keeps, each_value_copies, each_value_loads, each_value_stores}
use Rattle.argot_points.proofs.Pieces.{each_move, each_join, each_register, each_item}
use Rattle.argot_points.proofs.Handed.{each_enters, each_returns, each_fresh}

module _ (p : Code) (ds : List (ℕ × ℕ × ℕ)) (h i : ℕ) (fn : Function) where
  abbrev Its : Owned → Type 0
  Its o = o.function ≡ h

  registers_own : (k : ℕ) (rs : List ℕ) (o : Owned) → In o (register_copies p fn ds h i k rs) → Its o
  registers_own k rs o m = each_register p fn ds h i Its o k rs m (λ l j r e g a q leaf x y. refl)

  variable_own : (v : Option (Ident × Pos × ℕ)) (o : Owned) → In o (variable_rules h i v) → Its o
  variable_own None o m = elim m [ ]
  variable_own (Some x) o m = ap (λ (o : Owned). o.function) (one-In o (owned h (Put (node i 0 0) x.2)) m)

  grow_own : (ref : ℕ) (items : List ℕ) (v : Option ℕ) (o : Owned) → In o (grow_rules p fn ds h i ref items v) → Its o
  grow_own ref items None o m = elim m [ ]
  grow_own ref items (Some n) o m =
      let shape = shape_at p (Some n) in
      let found = definitions p fn i ref ds in
      let a = copies h (node i 0 0) 0 found in
      let b = owned h (Put (node i 0 0) n) ∷ [] in
      let c = value_loads h i 2 0 shape found in
      let d = value_copies h i 1 0 shape ((i, 2) ∷ []) in
      let f = item_copies p fn ds h i shape items in
      let g = value_stores h i 1 0 shape ((i, 0) ∷ []) in
      elim (In-append o ((((a ++ b) ++ c) ++ d) ++ f) g m) [
        | inl l ↦ elim (In-append o (((a ++ b) ++ c) ++ d) f l) [
          | inl l ↦ elim (In-append o ((a ++ b) ++ c) d l) [
            | inl l ↦ elim (In-append o (a ++ b) c l) [
              | inl l ↦ elim (In-append o a b l) [ inl l ↦ each_copies Its o h (node i 0 0) 0 found l (λ x y. refl) | inr l ↦ ap (λ (o : Owned). o.function) (one-In o (owned h (Put (node i 0 0) n)) l) ]
              | inr l ↦ each_value_loads Its o h i 2 0 shape found l (λ c b q e g x y. refl)
            ]
            | inr l ↦ each_value_copies Its o h i 1 0 shape ((i, 2) ∷ []) l (λ c b q e g x y. refl)
          ]
          | inr l ↦ each_item p fn ds h i Its o shape items l (λ r n c q g x y. refl)
        ]
        | inr l ↦ each_value_stores Its o h i 1 0 shape ((i, 0) ∷ []) l (λ c b q e g x y. refl)
      ]

  hand_own : (by : Node) (n : ℕ) (callee : Callee) (args : List ℕ) (o : Owned) → In o (hand_rules p fn ds h i by n callee args) → Its o
  hand_own by n callee args o m = elim (In-append o (register_copies p fn ds h i n (handed_values callee args) ++ owned h (Aim i by) ∷ []) (enters fn h i by n (found_by callee args) 0 (handed_values callee args)) m) [
    | inl l ↦ elim (In-append o (register_copies p fn ds h i n (handed_values callee args)) (owned h (Aim i by) ∷ []) l) [
      | inl l ↦ registers_own n (handed_values callee args) o l
      | inr l ↦ ap (λ (o : Owned). o.function) (one-In o (owned h (Aim i by)) l)
    ]
    | inr l ↦ each_enters Its o fn h i by n (found_by callee args) 0 (handed_values callee args) l (λ l j r e g t a q lf. refl) (λ l j r e g t. refl)
  ]

  call_own : (by : Node) (to : List ℕ) (callee : Callee) (args : List ℕ) (o : Owned) → In o ((hand_rules p fn ds h i by (length to) callee args ++ returns fn h i by 0 to) ++ fresh_of p h i by) → Its o
  call_own by to callee args o m = elim (In-append o (hand_rules p fn ds h i by (length to) callee args ++ returns fn h i by 0 to) (fresh_of p h i by) m) [
    | inl l ↦ elim (In-append o (hand_rules p fn ds h i by (length to) callee args) (returns fn h i by 0 to) l) [
      | inl l ↦ hand_own by (length to) callee args o l
      | inr l ↦ each_returns Its o fn h i by 0 to l (λ l j r e g a q lf. refl)
    ]
    | inr l ↦ each_fresh Its o h i by (length p.globals) (drop (length p.globals) p.sites) l (λ n b site e g k. refl)
  ]

  pub rule_owner : (kind : Kind) (o : Owned) → In o (kind_rules p fn ds h i kind) → o.function ≡ h
  rule_owner (Move to from path) o m = each_move Its o h i path 0 (leaves_of fn to) (leaves_of fn from) (definitions p fn i from ds) m (λ d b q e g c leaf k same x y. refl)
  rule_owner (Join to parts) o m = each_join p fn ds h i Its o (leaves_of fn to) parts m (λ path r d q part lasts g c leaf k same x y. refl)
  rule_owner (New to site) o m = ap (λ (o : Owned). o.function) (one-In o (owned h (Put (node i 0 0) site)) m)
  rule_owner (Step to from path) o m = each_shifts Its o h (node i 0 0) path (definitions p fn i from ds) m (λ x y. refl)
  rule_owner (Read to ref qs) o m = each_value_loads Its o h i 0 0 qs (definitions p fn i ref ds) m (λ c b q e g x y. refl)
  rule_owner (Write ref from) o m = elim (In-append o (register_copies p fn ds h i 0 (from ∷ [])) (value_stores h i 0 0 (leaves_of fn from) (definitions p fn i ref ds)) m) [
    | inl l ↦ registers_own 0 (from ∷ []) o l
    | inr l ↦ each_value_stores Its o h i 0 0 (leaves_of fn from) (definitions p fn i ref ds) l (λ c b q e g x y. refl)
  ]
  rule_owner (Grow to ref items) o m = grow_own ref items (own_site p i) o m
  rule_owner (Global to k) o m = variable_own (slice_get p.globals k) o m
  rule_owner (Assert to from target) o m = each_keeps Its o h (node i 0 0) target (definitions p fn i from ds) m (λ x y. refl)
  rule_owner (Call to callee args) o m = call_own (reference i callee args (length to)) to callee args o m
  rule_owner (Go callee args) o m = hand_own (reference i callee args 0) 0 callee args o m
  rule_owner (Defer callee args) o m = hand_own (reference i callee args 0) 0 callee args o m
  rule_owner (Leave from) o m = registers_own 0 from o m
  rule_owner (Passed to callee) o m = registers_own 0 (to ∷ []) o m
  rule_owner _ o m = elim m [ ]
