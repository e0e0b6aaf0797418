-- A node of a tree that spells tokens has at most one child of the kind that is looked for in it.
use Rattle.std.proofs.Common.{◌≡◌, ℕ, ◌+◌, ◌≤◌, List, Bool, false, Option, Some, refl, sym, subst, arith}
use Rattle.std.specs.Prelude.{if◌then◌else◌}
use Rattle.argot_tree.specs.declared.mark.Mark.TheVariants as marks
use Rattle.argot_tree.specs.declared.token.TokenKind.{TokenKind}
use Rattle.argot_tree.specs.declared.token.TokenKind.TheVariants as kinds
use Rattle.argot_tree.specs.declared.node_kind.NodeKind.{NodeKind}
use Rattle.argot_tree.specs.declared.node_kind.NodeKind.TheVariants as nodes
use Rattle.argot_tree.specs.TokensAt.{unary_of, kind_at}
use Rattle.argot_files.specs.Keys.{is_braces}
use Rattle.argot_tree.specs.declared.token.Token.{Token}
use Rattle.argot_tree.specs.Forests.{Forest, leaf, beside, one}
use Rattle.argot_tree.specs.Grammar.{Part, Block, MaybeReceiver, MaybeTypeParams, MaybeBody, Signature, Level, Unary, Primary, Operand, Decl, MaybeInit, TypeGuard, Cases, Case, Stmts, Stmt, Simple, If, Spells, file, no_import, one_import, import_one, import_group, no_spec, last_spec, one_spec, spec, dot_spec, named_spec, no_top, one_top, top_decl, top_func, no_receiver, a_receiver, receiver_type, receiver_named, no_type_params, some_type_params, no_body, a_body, type_params, balanced_none, balanced_token, balanced_parens, balanced_brackets, balanced_braces, decl_const, group_const, decl_var, group_var, decl_type, group_type, no_declared, last_declared, one_declared, constants, constants_are, variables_typed, variables_are, untyped, typed, no_values, some_values, type_spec, alias_spec, generic_spec, generic_alias, last_name, one_name, no_result, results, result, no_params, params, named_params, last_param, one_param, variadic_param, last_named, one_named, lone_named, variadic_named, type_name, qualified_type, type_parens, pointer_type, only_pointer, array_type, slice_type, map_type, chan_type, send_type, receive_type, func_type, struct_type, interface_type, formed_type, no_field, last_field, one_field, named_field, embedded_field, embedded_pointer, embedded_name, embedded_qualified, no_tag, a_tag, no_element, last_element, one_element, method, embedded_type, unary_level, binary, unary, primary, operand, literal, name_use, parens, func_literal, composite, open_composite, bare_composite, conversion, selector, index, slice_all, slice_from, slice_to, slice_between, slice_to_max, slice_between_max, assertion, call_none, call, spread_call, last_expr, one_expr, either_expr, either_type, last_either, one_either, no_elems, elems, last_item, one_item, item, keyed_item, value_expr, value_elems, block, no_stmt, last_stmt, one_stmt, empty_stmt, decl_stmt, simple_stmt, labeled, labeled_empty, go_stmt, defer_stmt, return_none, return_values, break_stmt, continue_stmt, goto_stmt, fallthrough_stmt, block_stmt, if_stmt, no_label, a_label, expr_stmt, send, increment, decrement, assign, op_assign, define, no_init, empty_init, an_init, if_, no_else, else_if, else_block, switch, type_switch, no_tag_expr, tag_expr, guard, named_guard, no_case, one_case, case, default_case, select, no_comm, one_comm, send_comm, assign_comm, define_comm, receive_comm, default_comm, while_loop, for_loop, for_empty, no_condition, a_condition, empty_post, a_post, range_loop, assign_range, define_range}
use Rattle.argot_files.specs.declared.keys.Key.TheVariants as keys
use Rattle.argot_files.proofs.Shaping.{some_kind, count, Shaped, beside_shaped, count-beside, unary_limited}

module _ (tokens : List Token) where
  bodies_in_receiver : {x : Forest} {from to : ℕ} → Spells tokens MaybeReceiver x from to → count keys.Body x ≡ 0
  bodies_in_receiver no_receiver = refl
  bodies_in_receiver (a_receiver (receiver_type _ _ _ _)) = refl
  bodies_in_receiver (a_receiver (receiver_named _ _ _ _ _)) = refl

  bodies_in_params : {x : Forest} {from to : ℕ} → Spells tokens MaybeTypeParams x from to → count keys.Body x ≡ 0
  bodies_in_params no_type_params = refl
  bodies_in_params (some_type_params (type_params _ _ _ _)) = refl

  bodies_in_signature : {x : Forest} {from to : ℕ} → Spells tokens Signature x from to → count keys.Body x ≡ 0
  bodies_in_signature (no_result _ _) = refl
  bodies_in_signature (results _ _) = refl
  bodies_in_signature (result _ _ _) = refl

  bodies_in_block : {x : Forest} {from to : ℕ} → Spells tokens Block x from to → count keys.Body x ≡ 1
  bodies_in_block (block _ _ _) = refl

  bodies_in_body : {x : Forest} {from to : ℕ} → Spells tokens MaybeBody x from to → count keys.Body x ≤ 1
  bodies_in_body no_body = omega arith
  bodies_in_body (a_body s) = omega (arith, bodies_in_block s)

  bodies_in_operand : {b : Bool} {x : Forest} {from to : ℕ} → Spells tokens (Operand b) x from to → count keys.Body x ≡ 0
  bodies_in_operand (literal _) = refl
  bodies_in_operand s = refl

  bodies_in_primary : {b : Bool} {x : Forest} {from to : ℕ} → Spells tokens (Primary b) x from to → count keys.Body x ≡ 0
  bodies_in_primary (operand s) = bodies_in_operand s
  bodies_in_primary s = refl

  bodies_in_kind : (o : Option TokenKind) (kind : NodeKind) → unary_of o ≡ Some kind → is_braces kind ≡ false
  bodies_in_kind (Some (kinds.Mark marks.Plus)) kind e = subst (λ k. is_braces k ≡ false) (some_kind _ _ e) refl
  bodies_in_kind (Some (kinds.Mark marks.Minus)) kind e = subst (λ k. is_braces k ≡ false) (some_kind _ _ e) refl
  bodies_in_kind (Some (kinds.Mark marks.Not)) kind e = subst (λ k. is_braces k ≡ false) (some_kind _ _ e) refl
  bodies_in_kind (Some (kinds.Mark marks.Xor)) kind e = subst (λ k. is_braces k ≡ false) (some_kind _ _ e) refl
  bodies_in_kind (Some (kinds.Mark marks.Star)) kind e = subst (λ k. is_braces k ≡ false) (some_kind _ _ e) refl
  bodies_in_kind (Some (kinds.Mark marks.And)) kind e = subst (λ k. is_braces k ≡ false) (some_kind _ _ e) refl
  bodies_in_kind (Some (kinds.Mark marks.Arrow)) kind e = subst (λ k. is_braces k ≡ false) (some_kind _ _ e) refl
  bodies_in_kind o kind e = absurd (cc)

  bodies_in_unary : {b : Bool} {x : Forest} {from to : ℕ} → Spells tokens (Unary b) x from to → count keys.Body x ≡ 0
  bodies_in_unary (unary {kind} {from = from} h _) = one_kind kind (bodies_in_kind (kind_at tokens from) kind h.there)
    where
      one_kind : (k : NodeKind) → is_braces k ≡ false → (if is_braces k then 1 else 0) + 0 ≡ 0
      one_kind k e = subst (λ b. (if b then 1 else 0) + 0 ≡ 0) (sym e) refl
  bodies_in_unary (primary s) = bodies_in_primary s

  bodies_in_level : {k : ℕ} {b : Bool} {x : Forest} {from to : ℕ} → Spells tokens (Level k b) x from to → count keys.Body x ≡ 0
  bodies_in_level (unary_level s) = bodies_in_unary s
  bodies_in_level (binary _ _ _ _) = refl

  guards_in_init : {x : Forest} {from to : ℕ} → Spells tokens MaybeInit x from to → count keys.Guard x ≡ 0
  guards_in_init no_init = refl
  guards_in_init (empty_init _) = refl
  guards_in_init (an_init _ _) = refl

  guards_in_guard : {x : Forest} {from to : ℕ} → Spells tokens TypeGuard x from to → count keys.Guard x ≤ 1
  guards_in_guard (guard _ _ _ _ _) = omega arith
  guards_in_guard (named_guard _ _ _ _ _ _ _) = omega arith

  guards_in_case : {x : Forest} {from to : ℕ} → Spells tokens Case x from to → count keys.Guard x ≡ 0
  guards_in_case (case _ _ _ _) = refl
  guards_in_case (default_case _ _ _) = refl

  guards_in_cases : {x : Forest} {from to : ℕ} → Spells tokens Cases x from to → count keys.Guard x ≡ 0
  guards_in_cases no_case = refl
  guards_in_cases (one_case {x} {y} s t) = omega (arith, count-beside keys.Guard x y, guards_in_case s, guards_in_cases t)

  values_in_decl : {x : Forest} {from to : ℕ} → Spells tokens Decl x from to → count keys.Values x ≡ 0
  values_in_decl (decl_const _ _) = refl
  values_in_decl s = refl

  values_in_simple : {b : Bool} {x : Forest} {from to : ℕ} → Spells tokens (Simple b) x from to → count keys.Values x ≡ 0
  values_in_simple (expr_stmt _) = refl
  values_in_simple s = refl

  values_in_if : {x : Forest} {from to : ℕ} → Spells tokens If x from to → count keys.Values x ≡ 0
  values_in_if (if_ _ _ _ _ _) = refl

  values_in_block : {x : Forest} {from to : ℕ} → Spells tokens Block x from to → count keys.Values x ≡ 0
  values_in_block (block _ _ _) = refl

  values_in_stmt : {x : Forest} {from to : ℕ} → Spells tokens Stmt x from to → count keys.Values x ≡ 0
  values_in_stmt (simple_stmt s) = values_in_simple s
  values_in_stmt (block_stmt s) = values_in_block s
  values_in_stmt (if_stmt s) = values_in_if s
  values_in_stmt s = refl

  values_in_stmts : {x : Forest} {from to : ℕ} → Spells tokens Stmts x from to → count keys.Values x ≡ 0
  values_in_stmts no_stmt = refl
  values_in_stmts (last_stmt s _) = values_in_stmt s
  values_in_stmts (one_stmt {x} {y} s _ t) = omega (arith, count-beside keys.Values x y, values_in_stmt s, values_in_stmts t)
  values_in_stmts (empty_stmt {x} _ s) = omega (arith, values_in_stmts s)

  func_limited : {x y z w : Forest} {a b c d e f g i : ℕ} (name : ℕ) → Spells tokens MaybeReceiver x a b → Spells tokens MaybeTypeParams y c d → Spells tokens Signature z e f → Spells tokens MaybeBody w g i → count keys.Body (beside x (beside (one nodes.DeclName name (name + 1) leaf) (beside y (beside z w)))) ≤ 1
  func_limited {x} {y} {z} {w} name s t u v =
      let tail : Forest = beside y (beside z w) in
      omega (arith, count-beside keys.Body x (beside (one nodes.DeclName name (name + 1) leaf) tail), count-beside keys.Body (one nodes.DeclName name (name + 1) leaf) tail, count-beside keys.Body y (beside z w), count-beside keys.Body z w, bodies_in_receiver s, bodies_in_params t, bodies_in_signature u, bodies_in_body v)

  literal_limited : {x y : Forest} {a b c d : ℕ} → Spells tokens Signature x a b → Spells tokens Block y c d → count keys.Body (beside x y) ≤ 1
  literal_limited {x} {y} s t = omega (arith, count-beside keys.Body x y, bodies_in_signature s, bodies_in_block t)

  range_limited : {k : ℕ} {q : Bool} {y z : Forest} {a b c d : ℕ} (n : Forest) (low high : ℕ) → Spells tokens (Level k q) y a b → Spells tokens Block z c d → count keys.Body (beside (one nodes.Exprs low high n) (beside y z)) ≤ 1
  range_limited {y = y} {z = z} n low high s t =
      omega (arith, count-beside keys.Body (one nodes.Exprs low high n) (beside y z), count-beside keys.Body y z, bodies_in_level s, bodies_in_block t)

  switch_limited : {x y z : Forest} {a b c d e f : ℕ} → Spells tokens MaybeInit x a b → Spells tokens TypeGuard y c d → Spells tokens Cases z e f → count keys.Guard (beside x (beside y z)) ≤ 1
  switch_limited {x} {y} {z} s t u = omega (arith, count-beside keys.Guard x (beside y z), count-beside keys.Guard y z, guards_in_init s, guards_in_guard t, guards_in_cases u)

  case_limited : {y : Forest} {a b : ℕ} (n : Forest) (low high : ℕ) → Spells tokens Stmts y a b → count keys.Values (beside (one nodes.Values low high n) y) ≤ 1
  case_limited {y} n low high s = omega (arith, count-beside keys.Values (one nodes.Values low high n) y, values_in_stmts s)

  pub shaped : {part : Part} {x : Forest} {from to : ℕ} → Spells tokens part x from to → Shaped x
  shaped (file {x} {y} {from} _ _ _ s3 s4) = (tt, beside_shaped (one nodes.DeclName (from + 1) (from + 2) leaf) (beside x y) ((tt, tt, tt)) (beside_shaped x y (shaped s3) (shaped s4)), tt)
  shaped (no_import) = tt
  shaped (one_import {x} {y} s0 _ s2) = beside_shaped x y (shaped s0) (shaped s2)
  shaped (import_one {x} _ s1) = (tt, shaped s1, tt)
  shaped (import_group {x} _ _ s2 _) = (tt, shaped s2, tt)
  shaped (no_spec) = tt
  shaped (last_spec s0 _) = shaped s0
  shaped (one_spec {x} {y} s0 _ s2) = beside_shaped x y (shaped s0) (shaped s2)
  shaped (spec {from} _) = (tt, (tt, tt, tt), tt)
  shaped (dot_spec {from} _ _) = (tt, (tt, tt, tt), tt)
  shaped (named_spec {from} _ _) = (tt, beside_shaped (one nodes.DeclName from (from + 1) leaf) (one nodes.ImportPath (from + 1) (from + 2) leaf) ((tt, tt, tt)) ((tt, tt, tt)), tt)
  shaped (no_top) = tt
  shaped (one_top {x} {y} s0 _ s2) = beside_shaped x y (shaped s0) (shaped s2)
  shaped (top_decl s0) = shaped s0
  shaped (top_func {x} {y} {z} {w} {mid} _ s1 _ s3 s4 s5) = (func_limited mid s1 s3 s4 s5, beside_shaped x (beside (one nodes.DeclName mid (mid + 1) leaf) (beside y (beside z w))) (shaped s1) (beside_shaped (one nodes.DeclName mid (mid + 1) leaf) (beside y (beside z w)) ((tt, tt, tt)) (beside_shaped y (beside z w) (shaped s3) (beside_shaped z w (shaped s4) (shaped s5)))), tt)
  shaped (no_receiver) = tt
  shaped (a_receiver s0) = shaped s0
  shaped (receiver_type {x} {from} {mid} _ s1 _ _) = (tt, (tt, shaped s1, tt), tt)
  shaped (receiver_named {x} {from} {mid} _ _ s2 _ _) = (tt, (tt, beside_shaped (one nodes.DeclName (from + 1) (from + 2) leaf) x ((tt, tt, tt)) (shaped s2), tt), tt)
  shaped (no_type_params) = tt
  shaped (some_type_params s0) = shaped s0
  shaped (no_body) = tt
  shaped (a_body s0) = shaped s0
  shaped (type_params _ _ s2 _) = (tt, tt, tt)
  shaped (balanced_none) = tt
  shaped (balanced_token _ s1) = tt
  shaped (balanced_parens _ s1 _ s3) = tt
  shaped (balanced_brackets _ s1 _ s3) = tt
  shaped (balanced_braces _ s1 _ s3) = tt
  shaped (decl_const {x} _ s1) = (tt, shaped s1, tt)
  shaped (group_const {x} _ _ s2 _) = (tt, shaped s2, tt)
  shaped (decl_var {x} _ s1) = (tt, shaped s1, tt)
  shaped (group_var {x} _ _ s2 _) = (tt, shaped s2, tt)
  shaped (decl_type {x} _ s1) = (tt, shaped s1, tt)
  shaped (group_type {x} _ _ s2 _) = (tt, shaped s2, tt)
  shaped (no_declared) = tt
  shaped (last_declared s0 _) = shaped s0
  shaped (one_declared {x} {y} s0 _ s2) = beside_shaped x y (shaped s0) (shaped s2)
  shaped (constants {x} {from} {mid} s0) = (tt, (tt, shaped s0, tt), tt)
  shaped (constants_are {x} {y} {z} {from} {mid} {mid2} {to} s0 s1 _ s3) = (tt, beside_shaped (one nodes.Names from mid x) (beside y (one nodes.Exprs (mid2 + 1) to z)) ((tt, shaped s0, tt)) (beside_shaped y (one nodes.Exprs (mid2 + 1) to z) (shaped s1) ((tt, shaped s3, tt))), tt)
  shaped (variables_typed {x} {y} {z} {from} {mid} s0 s1 s2) = (tt, beside_shaped (one nodes.Names from mid x) (beside y z) ((tt, shaped s0, tt)) (beside_shaped y z (shaped s1) (shaped s2)), tt)
  shaped (variables_are {x} {y} {from} {mid} {to} s0 _ s2) = (tt, beside_shaped (one nodes.Names from mid x) (one nodes.Exprs (mid + 1) to y) ((tt, shaped s0, tt)) ((tt, shaped s2, tt)), tt)
  shaped (untyped) = tt
  shaped (typed s0) = shaped s0
  shaped (no_values) = tt
  shaped (some_values {x} _ s1) = (tt, shaped s1, tt)
  shaped (type_spec {x} {from} _ s1) = (tt, beside_shaped (one nodes.DeclName from (from + 1) leaf) x ((tt, tt, tt)) (shaped s1), tt)
  shaped (alias_spec {x} {from} _ _ s2) = (tt, beside_shaped (one nodes.DeclName from (from + 1) leaf) x ((tt, tt, tt)) (shaped s2), tt)
  shaped (generic_spec {x} {y} {from} _ _ s2 s3) = (tt, beside_shaped (one nodes.DeclName from (from + 1) leaf) (beside x y) ((tt, tt, tt)) (beside_shaped x y (shaped s2) (shaped s3)), tt)
  shaped (generic_alias {x} {y} {from} _ _ s2 _ s4) = (tt, beside_shaped (one nodes.DeclName from (from + 1) leaf) (beside x y) ((tt, tt, tt)) (beside_shaped x y (shaped s2) (shaped s4)), tt)
  shaped (last_name _) = (tt, tt, tt)
  shaped (one_name {x} {from} _ _ s2) = beside_shaped (one nodes.DeclName from (from + 1) leaf) x ((tt, tt, tt)) (shaped s2)
  shaped (no_result {x} s0 _) = (tt, shaped s0, tt)
  shaped (results {x} {y} s0 s1) = (tt, beside_shaped x y (shaped s0) (shaped s1), tt)
  shaped (result {x} {y} s0 _ s2) = (tt, beside_shaped x y (shaped s0) (shaped s2), tt)
  shaped (no_params _ _) = (tt, tt, tt)
  shaped (params {x} _ s1 _ _) = (tt, shaped s1, tt)
  shaped (named_params {x} _ s1 _ _) = (tt, shaped s1, tt)
  shaped (last_param {x} s0) = (tt, shaped s0, tt)
  shaped (one_param {x} {y} {from} {mid} s0 _ s2) = beside_shaped (one nodes.Param from mid x) y ((tt, shaped s0, tt)) (shaped s2)
  shaped (variadic_param {x} _ s1) = (tt, shaped s1, tt)
  shaped (last_named {x} {from} _ s1) = (tt, beside_shaped (one nodes.DeclName from (from + 1) leaf) x ((tt, tt, tt)) (shaped s1), tt)
  shaped (one_named {x} {y} {from} {mid} _ s1 _ s3) = beside_shaped (one nodes.NamedParam from mid (beside (one nodes.DeclName from (from + 1) leaf) x)) y ((tt, beside_shaped (one nodes.DeclName from (from + 1) leaf) x ((tt, tt, tt)) (shaped s1), tt)) (shaped s3)
  shaped (lone_named {x} {from} _ _ s2) = beside_shaped (one nodes.LoneParam from (from + 1) (one nodes.DeclName from (from + 1) leaf)) x ((tt, (tt, tt, tt), tt)) (shaped s2)
  shaped (variadic_named {x} {from} _ _ s2) = (tt, beside_shaped (one nodes.DeclName from (from + 1) leaf) x ((tt, tt, tt)) (shaped s2), tt)
  shaped (type_name _) = (tt, tt, tt)
  shaped (qualified_type _ _ _) = (tt, tt, tt)
  shaped (type_parens {x} _ s1 _) = (tt, shaped s1, tt)
  shaped (pointer_type {x} _ s1) = (tt, shaped s1, tt)
  shaped (only_pointer {x} _ s1) = (tt, shaped s1, tt)
  shaped (array_type {x} {y} _ s1 _ s3) = (tt, beside_shaped x y (shaped s1) (shaped s3), tt)
  shaped (slice_type {x} _ _ s2) = (tt, shaped s2, tt)
  shaped (map_type {x} {y} _ _ s2 _ s4) = (tt, beside_shaped x y (shaped s2) (shaped s4), tt)
  shaped (chan_type {x} _ _ s2) = (tt, shaped s2, tt)
  shaped (send_type {x} _ _ s2) = (tt, shaped s2, tt)
  shaped (receive_type {x} _ _ s2) = (tt, shaped s2, tt)
  shaped (func_type {x} _ s1) = (tt, shaped s1, tt)
  shaped (struct_type {x} _ _ s2 _) = (tt, shaped s2, tt)
  shaped (interface_type {x} _ _ s2 _) = (tt, shaped s2, tt)
  shaped (formed_type _ s1) = shaped s1
  shaped (no_field) = tt
  shaped (last_field s0 _) = shaped s0
  shaped (one_field {x} {y} s0 _ s2) = beside_shaped x y (shaped s0) (shaped s2)
  shaped (named_field {x} {y} {z} {from} {mid} s0 s1 s2) = (tt, beside_shaped (one nodes.Names from mid x) (beside y z) ((tt, shaped s0, tt)) (beside_shaped y z (shaped s1) (shaped s2)), tt)
  shaped (embedded_field {x} {y} s0 s1) = (tt, beside_shaped x y (shaped s0) (shaped s1), tt)
  shaped (embedded_pointer {x} {y} _ s1 s2) = (tt, beside_shaped x y (shaped s1) (shaped s2), tt)
  shaped (embedded_name _) = (tt, tt, tt)
  shaped (embedded_qualified _ _ _) = (tt, tt, tt)
  shaped (no_tag) = tt
  shaped (a_tag _) = (tt, tt, tt)
  shaped (no_element) = tt
  shaped (last_element s0 _) = shaped s0
  shaped (one_element {x} {y} s0 _ s2) = beside_shaped x y (shaped s0) (shaped s2)
  shaped (method {x} {from} _ s1) = (tt, beside_shaped (one nodes.DeclName from (from + 1) leaf) x ((tt, tt, tt)) (shaped s1), tt)
  shaped (embedded_type {x} s0) = (tt, shaped s0, tt)
  shaped (unary_level s0) = shaped s0
  shaped (binary {x} {y} _ _ s2 s3) = (tt, beside_shaped x y (shaped s2) (shaped s3), tt)
  shaped (unary {x} u s1) = (unary_limited u x, shaped s1, tt)
  shaped (primary s0) = shaped s0
  shaped (operand s0) = shaped s0
  shaped (literal _) = (tt, tt, tt)
  shaped (name_use _) = (tt, tt, tt)
  shaped (parens {x} _ s1 _) = (tt, shaped s1, tt)
  shaped (func_literal {x} {y} _ s1 s2) = (literal_limited s1 s2, beside_shaped x y (shaped s1) (shaped s2), tt)
  shaped (composite {x} {y} _ s1 s2) = (tt, beside_shaped x y (shaped s1) (shaped s2), tt)
  shaped (open_composite {x} {y} {from} {mid} _ _ _ s3 s4) = (tt, beside_shaped (one nodes.OpenArrayType from mid x) y ((tt, shaped s3, tt)) (shaped s4), tt)
  shaped (bare_composite {x} {y} s0 s1) = (tt, beside_shaped x y (shaped s0) (shaped s1), tt)
  shaped (conversion {x} {y} _ s1 _ s3 _ _) = (tt, beside_shaped x y (shaped s1) (shaped s3), tt)
  shaped (selector {x} {to} s0 _ _) = (tt, beside_shaped x (one nodes.SelectedName (to + 1) (to + 2) leaf) (shaped s0) ((tt, tt, tt)), tt)
  shaped (index {x} {y} s0 _ s2 _) = (tt, beside_shaped x y (shaped s0) (shaped s2), tt)
  shaped (slice_all {x} s0 _ _ _) = (tt, shaped s0, tt)
  shaped (slice_from {x} {y} s0 _ s2 _ _) = (tt, beside_shaped x y (shaped s0) (shaped s2), tt)
  shaped (slice_to {x} {y} s0 _ _ s3 _) = (tt, beside_shaped x y (shaped s0) (shaped s3), tt)
  shaped (slice_between {x} {y} {z} s0 _ s2 _ s4 _) = (tt, beside_shaped x (beside y z) (shaped s0) (beside_shaped y z (shaped s2) (shaped s4)), tt)
  shaped (slice_to_max {x} {y} {z} s0 _ _ s3 _ s5 _) = (tt, beside_shaped x (beside y z) (shaped s0) (beside_shaped y z (shaped s3) (shaped s5)), tt)
  shaped (slice_between_max {x} {y} {z} {w} s0 _ s2 _ s4 _ s6 _) = (tt, beside_shaped x (beside y (beside z w)) (shaped s0) (beside_shaped y (beside z w) (shaped s2) (beside_shaped z w (shaped s4) (shaped s6))), tt)
  shaped (assertion {x} {y} s0 _ _ s3 _) = (tt, beside_shaped x y (shaped s0) (shaped s3), tt)
  shaped (call_none {x} s0 _ _) = (tt, shaped s0, tt)
  shaped (call {x} {y} s0 _ s2 _ _) = (tt, beside_shaped x y (shaped s0) (shaped s2), tt)
  shaped (spread_call {x} {y} s0 _ s2 _ _ _) = (tt, beside_shaped x y (shaped s0) (shaped s2), tt)
  shaped (last_expr s0) = shaped s0
  shaped (one_expr {x} {y} s0 _ s2) = beside_shaped x y (shaped s0) (shaped s2)
  shaped (either_expr s0) = shaped s0
  shaped (either_type s0) = shaped s0
  shaped (last_either s0) = shaped s0
  shaped (one_either {x} {y} s0 _ s2) = beside_shaped x y (shaped s0) (shaped s2)
  shaped (no_elems _ _) = (tt, tt, tt)
  shaped (elems {x} _ s1 _ _) = (tt, shaped s1, tt)
  shaped (last_item s0) = shaped s0
  shaped (one_item {x} {y} s0 _ s2) = beside_shaped x y (shaped s0) (shaped s2)
  shaped (item {x} s0) = (tt, shaped s0, tt)
  shaped (keyed_item {x} {y} s0 _ s2) = (tt, beside_shaped x y (shaped s0) (shaped s2), tt)
  shaped (value_expr s0) = shaped s0
  shaped (value_elems s0) = shaped s0
  shaped (block {x} _ s1 _) = (tt, shaped s1, tt)
  shaped (no_stmt) = tt
  shaped (last_stmt s0 _) = shaped s0
  shaped (one_stmt {x} {y} s0 _ s2) = beside_shaped x y (shaped s0) (shaped s2)
  shaped (empty_stmt {x} {from} _ s1) = beside_shaped (one nodes.Empty from from leaf) x ((tt, tt, tt)) (shaped s1)
  shaped (decl_stmt {x} s0) = (tt, shaped s0, tt)
  shaped (simple_stmt s0) = shaped s0
  shaped (labeled {x} {from} _ _ s2) = (tt, beside_shaped (one nodes.DeclName from (from + 1) leaf) x ((tt, tt, tt)) (shaped s2), tt)
  shaped (labeled_empty {from} _ _) = (tt, beside_shaped (one nodes.DeclName from (from + 1) leaf) (one nodes.Empty (from + 2) (from + 2) leaf) ((tt, tt, tt)) ((tt, tt, tt)), tt)
  shaped (go_stmt {x} _ s1) = (tt, shaped s1, tt)
  shaped (defer_stmt {x} _ s1) = (tt, shaped s1, tt)
  shaped (return_none _) = (tt, tt, tt)
  shaped (return_values {x} _ s1) = (tt, shaped s1, tt)
  shaped (break_stmt {x} _ s1) = (tt, shaped s1, tt)
  shaped (continue_stmt {x} _ s1) = (tt, shaped s1, tt)
  shaped (goto_stmt {from} _ _) = (tt, (tt, tt, tt), tt)
  shaped (fallthrough_stmt _) = (tt, tt, tt)
  shaped (block_stmt s0) = shaped s0
  shaped (if_stmt s0) = shaped s0
  shaped (no_label) = tt
  shaped (a_label _) = (tt, tt, tt)
  shaped (expr_stmt {x} s0) = (tt, shaped s0, tt)
  shaped (send {x} {y} s0 _ s2) = (tt, beside_shaped x y (shaped s0) (shaped s2), tt)
  shaped (increment {x} s0 _) = (tt, shaped s0, tt)
  shaped (decrement {x} s0 _) = (tt, shaped s0, tt)
  shaped (assign {x} {y} {from} {mid} {to} s0 _ s2) = (tt, beside_shaped (one nodes.Exprs from mid x) (one nodes.Exprs (mid + 1) to y) ((tt, shaped s0, tt)) ((tt, shaped s2, tt)), tt)
  shaped (op_assign {x} {y} {from} {mid} {to} s0 _ s2) = (tt, beside_shaped (one nodes.Exprs from mid x) (one nodes.Exprs (mid + 1) to y) ((tt, shaped s0, tt)) ((tt, shaped s2, tt)), tt)
  shaped (define {x} {y} {from} {mid} {to} s0 _ s2) = (tt, beside_shaped (one nodes.Names from mid x) (one nodes.Exprs (mid + 1) to y) ((tt, shaped s0, tt)) ((tt, shaped s2, tt)), tt)
  shaped (no_init) = tt
  shaped (empty_init {from} _) = (tt, (tt, tt, tt), tt)
  shaped (an_init {x} s0 _) = (tt, shaped s0, tt)
  shaped (if_ {x} {y} {z} {w} _ s1 s2 s3 s4) = (tt, beside_shaped x (beside y (beside z w)) (shaped s1) (beside_shaped y (beside z w) (shaped s2) (beside_shaped z w (shaped s3) (shaped s4))), tt)
  shaped (no_else) = tt
  shaped (else_if _ s1) = shaped s1
  shaped (else_block _ s1) = shaped s1
  shaped (switch {x} {y} {z} _ s1 s2 _ s4 _) = (tt, beside_shaped x (beside y z) (shaped s1) (beside_shaped y z (shaped s2) (shaped s4)), tt)
  shaped (type_switch {x} {y} {z} _ s1 s2 _ s4 _) = (switch_limited s1 s2 s4, beside_shaped x (beside y z) (shaped s1) (beside_shaped y z (shaped s2) (shaped s4)), tt)
  shaped (no_tag_expr) = tt
  shaped (tag_expr s0) = shaped s0
  shaped (guard {x} s0 _ _ _ _) = (tt, shaped s0, tt)
  shaped (named_guard {x} {from} {to} _ _ s2 _ _ _ _) = (omega arith, beside_shaped (one nodes.DeclName from (from + 1) leaf) (one nodes.Guard (from + 2) (to + 4) x) ((tt, tt, tt)) ((tt, shaped s2, tt)), tt)
  shaped (no_case) = tt
  shaped (one_case {x} {y} s0 s1) = beside_shaped x y (shaped s0) (shaped s1)
  shaped (case {x} {y} {from} {mid} _ s1 _ s3) = (case_limited x (from + 1) mid s3, beside_shaped (one nodes.Values (from + 1) mid x) y ((tt, shaped s1, tt)) (shaped s3), tt)
  shaped (default_case {x} _ _ s2) = (tt, shaped s2, tt)
  shaped (select {x} _ _ s2 _) = (tt, shaped s2, tt)
  shaped (no_comm) = tt
  shaped (one_comm {x} {y} s0 s1) = beside_shaped x y (shaped s0) (shaped s1)
  shaped (send_comm {x} {y} {z} _ s1 _ s3 _ s5) = (tt, beside_shaped x (beside y z) (shaped s1) (beside_shaped y z (shaped s3) (shaped s5)), tt)
  shaped (assign_comm {x} {y} {z} {from} {mid} _ s1 _ s3 _ s5) = (tt, beside_shaped (one nodes.Exprs (from + 1) mid x) (beside y z) ((tt, shaped s1, tt)) (beside_shaped y z (shaped s3) (shaped s5)), tt)
  shaped (define_comm {x} {y} {z} {from} {mid} _ s1 _ s3 _ s5) = (tt, beside_shaped (one nodes.Exprs (from + 1) mid x) (beside y z) ((tt, shaped s1, tt)) (beside_shaped y z (shaped s3) (shaped s5)), tt)
  shaped (receive_comm {x} {y} _ s1 _ s3) = (tt, beside_shaped x y (shaped s1) (shaped s3), tt)
  shaped (default_comm {x} _ _ s2) = (tt, shaped s2, tt)
  shaped (while_loop {x} {y} _ s1 s2) = (tt, beside_shaped x y (shaped s1) (shaped s2), tt)
  shaped (for_loop {x} {y} {z} {w} {from} {mid} _ s1 _ s3 _ s5 s6) = (tt, beside_shaped (one nodes.Init (from + 1) mid x) (beside y (beside z w)) ((tt, shaped s1, tt)) (beside_shaped y (beside z w) (shaped s3) (beside_shaped z w (shaped s5) (shaped s6))), tt)
  shaped (for_empty {x} {y} {z} {from} _ _ s2 _ s4 s5) = (tt, beside_shaped (one nodes.Init (from + 1) (from + 1) (one nodes.Empty (from + 1) (from + 1) leaf)) (beside x (beside y z)) ((tt, (tt, tt, tt), tt)) (beside_shaped x (beside y z) (shaped s2) (beside_shaped y z (shaped s4) (shaped s5))), tt)
  shaped (no_condition) = tt
  shaped (a_condition s0) = shaped s0
  shaped (empty_post {from}) = (tt, (tt, tt, tt), tt)
  shaped (a_post {x} s0) = (tt, shaped s0, tt)
  shaped (range_loop {x} {y} _ _ s2 s3) = (tt, beside_shaped x y (shaped s2) (shaped s3), tt)
  shaped (assign_range {x} {y} {z} {from} {mid} _ s1 _ _ s4 s5) = (tt, beside_shaped (one nodes.Exprs (from + 1) mid x) (beside y z) ((tt, shaped s1, tt)) (beside_shaped y z (shaped s4) (shaped s5)), tt)
  shaped (define_range {x} {y} {z} {from} {mid} _ s1 _ _ s4 s5) = (range_limited x (from + 1) mid s4 s5, beside_shaped (one nodes.Exprs (from + 1) mid x) (beside y z) ((tt, shaped s1, tt)) (beside_shaped y z (shaped s4) (shaped s5)), tt)
