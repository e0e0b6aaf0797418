-- A part depends on no token behind it.
use Rattle.std.proofs.Common.{◌≡◌, ℕ, zero, suc, ◌+◌, ◌<◌, ◌≤◌, List, [], ◌∷◌, take, Bool, false, Option, None, refl, sym, ap, ◌∙◌, subst, ⊎_elim, arith, length-take}
use Rattle.std.specs.Prelude.{slice_get}
use Rattle.std.proofs.lemmas.Bool.{cases_lt}
use Rattle.std.proofs.lemmas.Option.{slice_get_past}
use Rattle.argot_tree.specs.declared.keyword.Keyword.{Keyword}
use Rattle.argot_tree.specs.declared.mark.Mark.{Mark}
use Rattle.argot_tree.specs.declared.node_kind.NodeKind.{NodeKind}
use Rattle.argot_tree.specs.declared.token.TokenKind.{TokenKind}
use Rattle.argot_tree.specs.declared.token.Token.{Token}
use Rattle.argot_tree.specs.Forests.{Forest}
use Rattle.argot_tree.specs.TokensAt.{kind_of, kind_at, HasAt, HasWord, HasMark, HasUnary, Passes, Fails, MaybeComma, left_out, comma, level_of, level_at, unary_of}
use Rattle.argot_tree.specs.Grammar.{Part, Spells, Specs, DeclaredList, TypeParams, Fields, Elements, Level, Elems, Stmts, Cases, Case, Comms, Comm, file, no_import, one_import, import_one, import_group, no_spec, last_spec, one_spec, spec, dot_spec, named_spec, no_top, one_top, top_decl, top_func, no_receiver, a_receiver, receiver_type, receiver_named, no_type_params, some_type_params, no_body, a_body, type_params, balanced_none, balanced_token, balanced_parens, balanced_brackets, balanced_braces, decl_const, group_const, decl_var, group_var, decl_type, group_type, no_declared, last_declared, one_declared, constants, constants_are, variables_typed, variables_are, untyped, typed, no_values, some_values, type_spec, alias_spec, generic_spec, generic_alias, last_name, one_name, no_result, results, result, no_params, params, named_params, last_param, one_param, variadic_param, last_named, one_named, lone_named, variadic_named, type_name, qualified_type, type_parens, pointer_type, only_pointer, array_type, slice_type, map_type, chan_type, send_type, receive_type, func_type, struct_type, interface_type, formed_type, no_field, last_field, one_field, named_field, embedded_field, embedded_pointer, embedded_name, embedded_qualified, no_tag, a_tag, no_element, last_element, one_element, method, embedded_type, unary_level, binary, unary, primary, operand, literal, name_use, parens, func_literal, composite, open_composite, bare_composite, conversion, selector, index, slice_all, slice_from, slice_to, slice_between, slice_to_max, slice_between_max, assertion, call_none, call, spread_call, last_expr, one_expr, either_expr, either_type, last_either, one_either, no_elems, elems, last_item, one_item, item, keyed_item, value_expr, value_elems, block, no_stmt, last_stmt, one_stmt, empty_stmt, decl_stmt, simple_stmt, labeled, labeled_empty, go_stmt, defer_stmt, return_none, return_values, break_stmt, continue_stmt, goto_stmt, fallthrough_stmt, block_stmt, if_stmt, no_label, a_label, expr_stmt, send, increment, decrement, assign, op_assign, define, no_init, empty_init, an_init, if_, no_else, else_if, else_block, switch, type_switch, no_tag_expr, tag_expr, guard, named_guard, no_case, one_case, case, default_case, select, no_comm, one_comm, send_comm, assign_comm, define_comm, receive_comm, default_comm, while_loop, for_loop, for_empty, no_condition, a_condition, empty_post, a_post, range_loop, assign_range, define_range}
use Rattle.argot_parse_reader.proofs.Exact.Ahead.{ahead, comma_ahead}

kept_at : (tokens : List Token) (end at : ℕ) → at < end → slice_get (take end tokens) at ≡ slice_get tokens at
kept_at [] zero at h = refl
kept_at [] (suc end) at h = refl
kept_at (t ∷ tokens) zero at h = absurd (omega arith)
kept_at (t ∷ tokens) (suc end) zero h = refl
kept_at (t ∷ tokens) (suc end) (suc at) h = kept_at tokens end at (omega arith)

module _ (tokens : List Token) (end : ℕ) where
  same_kind : (at : ℕ) → at < end → kind_at (take end tokens) at ≡ kind_at tokens at
  same_kind at h = ap kind_of (kept_at tokens end at h)

  -- nothing stands there
  pub cut_off : (at : ℕ) → end ≤ at → kind_at (take end tokens) at ≡ None
  cut_off at h = ap kind_of (slice_get_past (take end tokens) at (omega (arith, length-take end tokens)))

  keep_at : {at : ℕ} {kind : TokenKind} → at < end → HasAt tokens at kind → HasAt (take end tokens) at kind
  keep_at {at} h t = record { there = same_kind at h ∙ t.there }

  keep_word : {at : ℕ} {word : Keyword} → at < end → HasWord tokens at word → HasWord (take end tokens) at word
  keep_word {at} h t = record { there = same_kind at h ∙ t.there }

  keep_mark : {at : ℕ} {mark : Mark} → at < end → HasMark tokens at mark → HasMark (take end tokens) at mark
  keep_mark {at} h t = record { there = same_kind at h ∙ t.there }

  keep_unary : {at : ℕ} {node : NodeKind} → at < end → HasUnary tokens at node → HasUnary (take end tokens) at node
  keep_unary {at} h t = record { there = ap unary_of (same_kind at h) ∙ t.there }

  keep_pass : {at : ℕ} {test : Option TokenKind → Bool} → at < end → Passes tokens test at → Passes (take end tokens) test at
  keep_pass {at} {test} h t = record { there = ap test (same_kind at h) ∙ t.there }

  keep_fail : {at : ℕ} {test : Option TokenKind → Bool} → test None ≡ false → Fails tokens test at → Fails (take end tokens) test at
  keep_fail {at} {test} e t = record { there = ⊎_elim (λ lt. ap test (same_kind at lt) ∙ t.there) (λ ge. ap test (cut_off at ge) ∙ e) (cases_lt at end) }

  keep_comma : {from to : ℕ} → to ≤ end → MaybeComma tokens from to → MaybeComma (take end tokens) from to
  keep_comma h left_out = left_out
  keep_comma h (comma c) = comma (keep_mark (omega arith) c)

  params_long : {x : Forest} {from to : ℕ} → Spells tokens TypeParams x from to → from + 3 ≤ to
  params_long (type_params h i s j) = omega (arith, ahead tokens s)

  elems_long : {x : Forest} {from to : ℕ} → Spells tokens Elems x from to → from + 2 ≤ to
  elems_long (no_elems h i) = omega arith
  elems_long (elems h s c i) = omega (arith, ahead tokens s, comma_ahead tokens c)

  -- how far the tokens that a part depends on may reach: a list that ends before its closer depends on that too
  abbrev pub Within : Part → ℕ → Type 0
  Within Case to = to < end
  Within Cases to = to < end
  Within Comm to = to < end
  Within Comms to = to < end
  Within (DeclaredList sort) to = to < end
  Within Elements to = to < end
  Within Fields to = to < end
  Within Specs to = to < end
  Within Stmts to = to < end
  Within _ to = to ≤ end

  pub cut : {p : Part} {x : Forest} {from to : ℕ} → Spells tokens p x from to → Within p to → Spells (take end tokens) p x from to
  cut (file h i j s t) le = file (keep_word (omega (arith, ahead tokens s, ahead tokens t, le)) h) (keep_at (omega (arith, ahead tokens s, ahead tokens t, le)) i) (keep_pass (omega (arith, ahead tokens s, ahead tokens t, le)) j) (cut s (omega (arith, ahead tokens s, ahead tokens t, le))) (cut t (omega (arith, ahead tokens s, ahead tokens t, le)))
  cut no_import le = no_import
  cut (one_import s h t) le = one_import (cut s (omega (arith, ahead tokens s, ahead tokens t, le))) (keep_pass (omega (arith, ahead tokens s, ahead tokens t, le)) h) (cut t (omega (arith, ahead tokens s, ahead tokens t, le)))
  cut (import_one h s) le = import_one (keep_word (omega (arith, ahead tokens s, le)) h) (cut s (omega (arith, ahead tokens s, le)))
  cut (import_group h i s j) le = import_group (keep_word (omega (arith, ahead tokens s, le)) h) (keep_mark (omega (arith, ahead tokens s, le)) i) (cut s (omega (arith, ahead tokens s, le))) (keep_mark (omega (arith, ahead tokens s, le)) j)
  cut no_spec le = no_spec
  cut (last_spec s h) le = last_spec (cut s (omega (arith, ahead tokens s, le))) (keep_mark (omega (arith, ahead tokens s, le)) h)
  cut (one_spec s h t) le = one_spec (cut s (omega (arith, ahead tokens s, ahead tokens t, le))) (keep_pass (omega (arith, ahead tokens s, ahead tokens t, le)) h) (cut t (omega (arith, ahead tokens s, ahead tokens t, le)))
  cut (spec h) le = spec (keep_pass (omega (arith, le)) h)
  cut (dot_spec h i) le = dot_spec (keep_mark (omega (arith, le)) h) (keep_pass (omega (arith, le)) i)
  cut (named_spec h i) le = named_spec (keep_at (omega (arith, le)) h) (keep_pass (omega (arith, le)) i)
  cut no_top le = no_top
  cut (one_top s h t) le = one_top (cut s (omega (arith, ahead tokens s, ahead tokens t, le))) (keep_pass (omega (arith, ahead tokens s, ahead tokens t, le)) h) (cut t (omega (arith, ahead tokens s, ahead tokens t, le)))
  cut (top_decl s) le = top_decl (cut s (omega (arith, ahead tokens s, le)))
  cut (top_func h s i t u v) le = top_func (keep_word (omega (arith, ahead tokens s, ahead tokens t, ahead tokens u, ahead tokens v, le)) h) (cut s (omega (arith, ahead tokens s, ahead tokens t, ahead tokens u, ahead tokens v, le))) (keep_at (omega (arith, ahead tokens s, ahead tokens t, ahead tokens u, ahead tokens v, le)) i) (cut t (omega (arith, ahead tokens s, ahead tokens t, ahead tokens u, ahead tokens v, le))) (cut u (omega (arith, ahead tokens s, ahead tokens t, ahead tokens u, ahead tokens v, le))) (cut v (omega (arith, ahead tokens s, ahead tokens t, ahead tokens u, ahead tokens v, le)))
  cut no_receiver le = no_receiver
  cut (a_receiver s) le = a_receiver (cut s (omega (arith, ahead tokens s, le)))
  cut (receiver_type h s c i) le = receiver_type (keep_mark (omega (arith, ahead tokens s, comma_ahead tokens c, le)) h) (cut s (omega (arith, ahead tokens s, comma_ahead tokens c, le))) (keep_comma (omega (arith, ahead tokens s, comma_ahead tokens c, le)) c) (keep_mark (omega (arith, ahead tokens s, comma_ahead tokens c, le)) i)
  cut (receiver_named h i s c j) le = receiver_named (keep_mark (omega (arith, ahead tokens s, comma_ahead tokens c, le)) h) (keep_at (omega (arith, ahead tokens s, comma_ahead tokens c, le)) i) (cut s (omega (arith, ahead tokens s, comma_ahead tokens c, le))) (keep_comma (omega (arith, ahead tokens s, comma_ahead tokens c, le)) c) (keep_mark (omega (arith, ahead tokens s, comma_ahead tokens c, le)) j)
  cut no_type_params le = no_type_params
  cut (some_type_params s) le = some_type_params (cut s (omega (arith, ahead tokens s, le)))
  cut no_body le = no_body
  cut (a_body s) le = a_body (cut s (omega (arith, ahead tokens s, le)))
  cut (type_params h i s j) le = type_params (keep_mark (omega (arith, ahead tokens s, le)) h) (keep_at (omega (arith, ahead tokens s, le)) i) (cut s (omega (arith, ahead tokens s, le))) (keep_mark (omega (arith, ahead tokens s, le)) j)
  cut balanced_none le = balanced_none
  cut (balanced_token h s) le = balanced_token (keep_pass (omega (arith, ahead tokens s, le)) h) (cut s (omega (arith, ahead tokens s, le)))
  cut (balanced_parens h s i t) le = balanced_parens (keep_mark (omega (arith, ahead tokens s, ahead tokens t, le)) h) (cut s (omega (arith, ahead tokens s, ahead tokens t, le))) (keep_mark (omega (arith, ahead tokens s, ahead tokens t, le)) i) (cut t (omega (arith, ahead tokens s, ahead tokens t, le)))
  cut (balanced_brackets h s i t) le = balanced_brackets (keep_mark (omega (arith, ahead tokens s, ahead tokens t, le)) h) (cut s (omega (arith, ahead tokens s, ahead tokens t, le))) (keep_mark (omega (arith, ahead tokens s, ahead tokens t, le)) i) (cut t (omega (arith, ahead tokens s, ahead tokens t, le)))
  cut (balanced_braces h s i t) le = balanced_braces (keep_mark (omega (arith, ahead tokens s, ahead tokens t, le)) h) (cut s (omega (arith, ahead tokens s, ahead tokens t, le))) (keep_mark (omega (arith, ahead tokens s, ahead tokens t, le)) i) (cut t (omega (arith, ahead tokens s, ahead tokens t, le)))
  cut (decl_const h s) le = decl_const (keep_word (omega (arith, ahead tokens s, le)) h) (cut s (omega (arith, ahead tokens s, le)))
  cut (group_const h i s j) le = group_const (keep_word (omega (arith, ahead tokens s, le)) h) (keep_mark (omega (arith, ahead tokens s, le)) i) (cut s (omega (arith, ahead tokens s, le))) (keep_mark (omega (arith, ahead tokens s, le)) j)
  cut (decl_var h s) le = decl_var (keep_word (omega (arith, ahead tokens s, le)) h) (cut s (omega (arith, ahead tokens s, le)))
  cut (group_var h i s j) le = group_var (keep_word (omega (arith, ahead tokens s, le)) h) (keep_mark (omega (arith, ahead tokens s, le)) i) (cut s (omega (arith, ahead tokens s, le))) (keep_mark (omega (arith, ahead tokens s, le)) j)
  cut (decl_type h s) le = decl_type (keep_word (omega (arith, ahead tokens s, le)) h) (cut s (omega (arith, ahead tokens s, le)))
  cut (group_type h i s j) le = group_type (keep_word (omega (arith, ahead tokens s, le)) h) (keep_mark (omega (arith, ahead tokens s, le)) i) (cut s (omega (arith, ahead tokens s, le))) (keep_mark (omega (arith, ahead tokens s, le)) j)
  cut no_declared le = no_declared
  cut (last_declared s h) le = last_declared (cut s (omega (arith, ahead tokens s, le))) (keep_mark (omega (arith, ahead tokens s, le)) h)
  cut (one_declared s h t) le = one_declared (cut s (omega (arith, ahead tokens s, ahead tokens t, le))) (keep_pass (omega (arith, ahead tokens s, ahead tokens t, le)) h) (cut t (omega (arith, ahead tokens s, ahead tokens t, le)))
  cut (constants s) le = constants (cut s (omega (arith, ahead tokens s, le)))
  cut (constants_are s t h u) le = constants_are (cut s (omega (arith, ahead tokens s, ahead tokens t, ahead tokens u, le))) (cut t (omega (arith, ahead tokens s, ahead tokens t, ahead tokens u, le))) (keep_mark (omega (arith, ahead tokens s, ahead tokens t, ahead tokens u, le)) h) (cut u (omega (arith, ahead tokens s, ahead tokens t, ahead tokens u, le)))
  cut (variables_typed s t u) le = variables_typed (cut s (omega (arith, ahead tokens s, ahead tokens t, ahead tokens u, le))) (cut t (omega (arith, ahead tokens s, ahead tokens t, ahead tokens u, le))) (cut u (omega (arith, ahead tokens s, ahead tokens t, ahead tokens u, le)))
  cut (variables_are s h t) le = variables_are (cut s (omega (arith, ahead tokens s, ahead tokens t, le))) (keep_mark (omega (arith, ahead tokens s, ahead tokens t, le)) h) (cut t (omega (arith, ahead tokens s, ahead tokens t, le)))
  cut untyped le = untyped
  cut (typed s) le = typed (cut s (omega (arith, ahead tokens s, le)))
  cut no_values le = no_values
  cut (some_values h s) le = some_values (keep_mark (omega (arith, ahead tokens s, le)) h) (cut s (omega (arith, ahead tokens s, le)))
  cut (type_spec h s) le = type_spec (keep_at (omega (arith, ahead tokens s, le)) h) (cut s (omega (arith, ahead tokens s, le)))
  cut (alias_spec h i s) le = alias_spec (keep_at (omega (arith, ahead tokens s, le)) h) (keep_mark (omega (arith, ahead tokens s, le)) i) (cut s (omega (arith, ahead tokens s, le)))
  cut (generic_spec h i s t) le = generic_spec (keep_at (omega (arith, ahead tokens s, ahead tokens t, params_long s, le)) h) (keep_pass (omega (arith, ahead tokens s, ahead tokens t, params_long s, le)) i) (cut s (omega (arith, ahead tokens s, ahead tokens t, params_long s, le))) (cut t (omega (arith, ahead tokens s, ahead tokens t, params_long s, le)))
  cut (generic_alias h i s j t) le = generic_alias (keep_at (omega (arith, ahead tokens s, ahead tokens t, params_long s, le)) h) (keep_pass (omega (arith, ahead tokens s, ahead tokens t, params_long s, le)) i) (cut s (omega (arith, ahead tokens s, ahead tokens t, params_long s, le))) (keep_mark (omega (arith, ahead tokens s, ahead tokens t, params_long s, le)) j) (cut t (omega (arith, ahead tokens s, ahead tokens t, params_long s, le)))
  cut (last_name h) le = last_name (keep_at (omega (arith, le)) h)
  cut (one_name h i s) le = one_name (keep_at (omega (arith, ahead tokens s, le)) h) (keep_mark (omega (arith, ahead tokens s, le)) i) (cut s (omega (arith, ahead tokens s, le)))
  cut (no_result s h) le = no_result (cut s (omega (arith, ahead tokens s, le))) (keep_fail refl h)
  cut (results s t) le = results (cut s (omega (arith, ahead tokens s, ahead tokens t, le))) (cut t (omega (arith, ahead tokens s, ahead tokens t, le)))
  cut (result s h t) le = result (cut s (omega (arith, ahead tokens s, ahead tokens t, le))) (keep_fail refl h) (cut t (omega (arith, ahead tokens s, ahead tokens t, le)))
  cut (no_params h i) le = no_params (keep_mark (omega (arith, le)) h) (keep_mark (omega (arith, le)) i)
  cut (params h s c i) le = params (keep_mark (omega (arith, ahead tokens s, comma_ahead tokens c, le)) h) (cut s (omega (arith, ahead tokens s, comma_ahead tokens c, le))) (keep_comma (omega (arith, ahead tokens s, comma_ahead tokens c, le)) c) (keep_mark (omega (arith, ahead tokens s, comma_ahead tokens c, le)) i)
  cut (named_params h s c i) le = named_params (keep_mark (omega (arith, ahead tokens s, comma_ahead tokens c, le)) h) (cut s (omega (arith, ahead tokens s, comma_ahead tokens c, le))) (keep_comma (omega (arith, ahead tokens s, comma_ahead tokens c, le)) c) (keep_mark (omega (arith, ahead tokens s, comma_ahead tokens c, le)) i)
  cut (last_param s) le = last_param (cut s (omega (arith, ahead tokens s, le)))
  cut (one_param s h t) le = one_param (cut s (omega (arith, ahead tokens s, ahead tokens t, le))) (keep_mark (omega (arith, ahead tokens s, ahead tokens t, le)) h) (cut t (omega (arith, ahead tokens s, ahead tokens t, le)))
  cut (variadic_param h s) le = variadic_param (keep_mark (omega (arith, ahead tokens s, le)) h) (cut s (omega (arith, ahead tokens s, le)))
  cut (last_named h s) le = last_named (keep_at (omega (arith, ahead tokens s, le)) h) (cut s (omega (arith, ahead tokens s, le)))
  cut (one_named h s i t) le = one_named (keep_at (omega (arith, ahead tokens s, ahead tokens t, le)) h) (cut s (omega (arith, ahead tokens s, ahead tokens t, le))) (keep_mark (omega (arith, ahead tokens s, ahead tokens t, le)) i) (cut t (omega (arith, ahead tokens s, ahead tokens t, le)))
  cut (lone_named h i s) le = lone_named (keep_at (omega (arith, ahead tokens s, le)) h) (keep_mark (omega (arith, ahead tokens s, le)) i) (cut s (omega (arith, ahead tokens s, le)))
  cut (variadic_named h i s) le = variadic_named (keep_at (omega (arith, ahead tokens s, le)) h) (keep_mark (omega (arith, ahead tokens s, le)) i) (cut s (omega (arith, ahead tokens s, le)))
  cut (type_name h) le = type_name (keep_at (omega (arith, le)) h)
  cut (qualified_type h i j) le = qualified_type (keep_at (omega (arith, le)) h) (keep_mark (omega (arith, le)) i) (keep_at (omega (arith, le)) j)
  cut (type_parens h s i) le = type_parens (keep_mark (omega (arith, ahead tokens s, le)) h) (cut s (omega (arith, ahead tokens s, le))) (keep_mark (omega (arith, ahead tokens s, le)) i)
  cut (pointer_type h s) le = pointer_type (keep_mark (omega (arith, ahead tokens s, le)) h) (cut s (omega (arith, ahead tokens s, le)))
  cut (only_pointer h s) le = only_pointer (keep_mark (omega (arith, ahead tokens s, le)) h) (cut s (omega (arith, ahead tokens s, le)))
  cut (array_type h s i t) le = array_type (keep_mark (omega (arith, ahead tokens s, ahead tokens t, le)) h) (cut s (omega (arith, ahead tokens s, ahead tokens t, le))) (keep_mark (omega (arith, ahead tokens s, ahead tokens t, le)) i) (cut t (omega (arith, ahead tokens s, ahead tokens t, le)))
  cut (slice_type h i s) le = slice_type (keep_mark (omega (arith, ahead tokens s, le)) h) (keep_mark (omega (arith, ahead tokens s, le)) i) (cut s (omega (arith, ahead tokens s, le)))
  cut (map_type h i s j t) le = map_type (keep_word (omega (arith, ahead tokens s, ahead tokens t, le)) h) (keep_mark (omega (arith, ahead tokens s, ahead tokens t, le)) i) (cut s (omega (arith, ahead tokens s, ahead tokens t, le))) (keep_mark (omega (arith, ahead tokens s, ahead tokens t, le)) j) (cut t (omega (arith, ahead tokens s, ahead tokens t, le)))
  cut (chan_type h i s) le = chan_type (keep_word (omega (arith, ahead tokens s, le)) h) (keep_fail refl i) (cut s (omega (arith, ahead tokens s, le)))
  cut (send_type h i s) le = send_type (keep_word (omega (arith, ahead tokens s, le)) h) (keep_mark (omega (arith, ahead tokens s, le)) i) (cut s (omega (arith, ahead tokens s, le)))
  cut (receive_type h i s) le = receive_type (keep_mark (omega (arith, ahead tokens s, le)) h) (keep_word (omega (arith, ahead tokens s, le)) i) (cut s (omega (arith, ahead tokens s, le)))
  cut (func_type h s) le = func_type (keep_word (omega (arith, ahead tokens s, le)) h) (cut s (omega (arith, ahead tokens s, le)))
  cut (struct_type h i s j) le = struct_type (keep_word (omega (arith, ahead tokens s, le)) h) (keep_mark (omega (arith, ahead tokens s, le)) i) (cut s (omega (arith, ahead tokens s, le))) (keep_mark (omega (arith, ahead tokens s, le)) j)
  cut (interface_type h i s j) le = interface_type (keep_word (omega (arith, ahead tokens s, le)) h) (keep_mark (omega (arith, ahead tokens s, le)) i) (cut s (omega (arith, ahead tokens s, le))) (keep_mark (omega (arith, ahead tokens s, le)) j)
  cut (formed_type h s) le = formed_type (keep_fail refl h) (cut s (omega (arith, ahead tokens s, le)))
  cut no_field le = no_field
  cut (last_field s h) le = last_field (cut s (omega (arith, ahead tokens s, le))) (keep_mark (omega (arith, ahead tokens s, le)) h)
  cut (one_field s h t) le = one_field (cut s (omega (arith, ahead tokens s, ahead tokens t, le))) (keep_pass (omega (arith, ahead tokens s, ahead tokens t, le)) h) (cut t (omega (arith, ahead tokens s, ahead tokens t, le)))
  cut (named_field s t u) le = named_field (cut s (omega (arith, ahead tokens s, ahead tokens t, ahead tokens u, le))) (cut t (omega (arith, ahead tokens s, ahead tokens t, ahead tokens u, le))) (cut u (omega (arith, ahead tokens s, ahead tokens t, ahead tokens u, le)))
  cut (embedded_field s t) le = embedded_field (cut s (omega (arith, ahead tokens s, ahead tokens t, le))) (cut t (omega (arith, ahead tokens s, ahead tokens t, le)))
  cut (embedded_pointer h s t) le = embedded_pointer (keep_mark (omega (arith, ahead tokens s, ahead tokens t, le)) h) (cut s (omega (arith, ahead tokens s, ahead tokens t, le))) (cut t (omega (arith, ahead tokens s, ahead tokens t, le)))
  cut (embedded_name h) le = embedded_name (keep_at (omega (arith, le)) h)
  cut (embedded_qualified h i j) le = embedded_qualified (keep_at (omega (arith, le)) h) (keep_mark (omega (arith, le)) i) (keep_at (omega (arith, le)) j)
  cut no_tag le = no_tag
  cut (a_tag h) le = a_tag (keep_pass (omega (arith, le)) h)
  cut no_element le = no_element
  cut (last_element s h) le = last_element (cut s (omega (arith, ahead tokens s, le))) (keep_mark (omega (arith, ahead tokens s, le)) h)
  cut (one_element s h t) le = one_element (cut s (omega (arith, ahead tokens s, ahead tokens t, le))) (keep_pass (omega (arith, ahead tokens s, ahead tokens t, le)) h) (cut t (omega (arith, ahead tokens s, ahead tokens t, le)))
  cut (method h s) le = method (keep_at (omega (arith, ahead tokens s, le)) h) (cut s (omega (arith, ahead tokens s, le)))
  cut (embedded_type s) le = embedded_type (cut s (omega (arith, ahead tokens s, le)))
  cut (unary_level s) le = unary_level (cut s (omega (arith, ahead tokens s, le)))
  cut {p} {x} {from} {to} (binary {k = k} {b = b} {x = left} {y = right} {mid = mid} tight is s t) le =
      let forward = ahead tokens t in
      let same : level_at tokens mid ≡ level_at (take end tokens) mid = ap level_of (sym (same_kind mid (omega arith))) in
      binary (omega arith) (omega arith) (subst (λ l. Spells (take end tokens) (Level l b) left from mid) same (cut s (omega arith))) (subst (λ l. Spells (take end tokens) (Level (l + 1) b) right (mid + 1) to) same (cut t le))
  cut (unary h s) le = unary (keep_unary (omega (arith, ahead tokens s, le)) h) (cut s (omega (arith, ahead tokens s, le)))
  cut (primary s) le = primary (cut s (omega (arith, ahead tokens s, le)))
  cut (operand s) le = operand (cut s (omega (arith, ahead tokens s, le)))
  cut (literal h) le = literal (keep_pass (omega (arith, le)) h)
  cut (name_use h) le = name_use (keep_at (omega (arith, le)) h)
  cut (parens h s i) le = parens (keep_mark (omega (arith, ahead tokens s, le)) h) (cut s (omega (arith, ahead tokens s, le))) (keep_mark (omega (arith, ahead tokens s, le)) i)
  cut (func_literal h s t) le = func_literal (keep_word (omega (arith, ahead tokens s, ahead tokens t, le)) h) (cut s (omega (arith, ahead tokens s, ahead tokens t, le))) (cut t (omega (arith, ahead tokens s, ahead tokens t, le)))
  cut (composite h s t) le = composite (keep_pass (omega (arith, ahead tokens s, ahead tokens t, elems_long t, le)) h) (cut s (omega (arith, ahead tokens s, ahead tokens t, elems_long t, le))) (cut t (omega (arith, ahead tokens s, ahead tokens t, elems_long t, le)))
  cut (open_composite h i j s t) le = open_composite (keep_mark (omega (arith, ahead tokens s, ahead tokens t, le)) h) (keep_mark (omega (arith, ahead tokens s, ahead tokens t, le)) i) (keep_mark (omega (arith, ahead tokens s, ahead tokens t, le)) j) (cut s (omega (arith, ahead tokens s, ahead tokens t, le))) (cut t (omega (arith, ahead tokens s, ahead tokens t, le)))
  cut (bare_composite s t) le = bare_composite (cut s (omega (arith, ahead tokens s, ahead tokens t, le))) (cut t (omega (arith, ahead tokens s, ahead tokens t, le)))
  cut (conversion h s i t c j) le = conversion (keep_pass (omega (arith, ahead tokens s, ahead tokens t, comma_ahead tokens c, le)) h) (cut s (omega (arith, ahead tokens s, ahead tokens t, comma_ahead tokens c, le))) (keep_mark (omega (arith, ahead tokens s, ahead tokens t, comma_ahead tokens c, le)) i) (cut t (omega (arith, ahead tokens s, ahead tokens t, comma_ahead tokens c, le))) (keep_comma (omega (arith, ahead tokens s, ahead tokens t, comma_ahead tokens c, le)) c) (keep_mark (omega (arith, ahead tokens s, ahead tokens t, comma_ahead tokens c, le)) j)
  cut (selector s h i) le = selector (cut s (omega (arith, ahead tokens s, le))) (keep_mark (omega (arith, ahead tokens s, le)) h) (keep_at (omega (arith, ahead tokens s, le)) i)
  cut (index s h t i) le = index (cut s (omega (arith, ahead tokens s, ahead tokens t, le))) (keep_mark (omega (arith, ahead tokens s, ahead tokens t, le)) h) (cut t (omega (arith, ahead tokens s, ahead tokens t, le))) (keep_mark (omega (arith, ahead tokens s, ahead tokens t, le)) i)
  cut (slice_all s h i j) le = slice_all (cut s (omega (arith, ahead tokens s, le))) (keep_mark (omega (arith, ahead tokens s, le)) h) (keep_mark (omega (arith, ahead tokens s, le)) i) (keep_mark (omega (arith, ahead tokens s, le)) j)
  cut (slice_from s h t i j) le = slice_from (cut s (omega (arith, ahead tokens s, ahead tokens t, le))) (keep_mark (omega (arith, ahead tokens s, ahead tokens t, le)) h) (cut t (omega (arith, ahead tokens s, ahead tokens t, le))) (keep_mark (omega (arith, ahead tokens s, ahead tokens t, le)) i) (keep_mark (omega (arith, ahead tokens s, ahead tokens t, le)) j)
  cut (slice_to s h i t j) le = slice_to (cut s (omega (arith, ahead tokens s, ahead tokens t, le))) (keep_mark (omega (arith, ahead tokens s, ahead tokens t, le)) h) (keep_mark (omega (arith, ahead tokens s, ahead tokens t, le)) i) (cut t (omega (arith, ahead tokens s, ahead tokens t, le))) (keep_mark (omega (arith, ahead tokens s, ahead tokens t, le)) j)
  cut (slice_between s h t i u j) le = slice_between (cut s (omega (arith, ahead tokens s, ahead tokens t, ahead tokens u, le))) (keep_mark (omega (arith, ahead tokens s, ahead tokens t, ahead tokens u, le)) h) (cut t (omega (arith, ahead tokens s, ahead tokens t, ahead tokens u, le))) (keep_mark (omega (arith, ahead tokens s, ahead tokens t, ahead tokens u, le)) i) (cut u (omega (arith, ahead tokens s, ahead tokens t, ahead tokens u, le))) (keep_mark (omega (arith, ahead tokens s, ahead tokens t, ahead tokens u, le)) j)
  cut (slice_to_max s h i t j u k) le = slice_to_max (cut s (omega (arith, ahead tokens s, ahead tokens t, ahead tokens u, le))) (keep_mark (omega (arith, ahead tokens s, ahead tokens t, ahead tokens u, le)) h) (keep_mark (omega (arith, ahead tokens s, ahead tokens t, ahead tokens u, le)) i) (cut t (omega (arith, ahead tokens s, ahead tokens t, ahead tokens u, le))) (keep_mark (omega (arith, ahead tokens s, ahead tokens t, ahead tokens u, le)) j) (cut u (omega (arith, ahead tokens s, ahead tokens t, ahead tokens u, le))) (keep_mark (omega (arith, ahead tokens s, ahead tokens t, ahead tokens u, le)) k)
  cut (slice_between_max s h t i u j v k) le = slice_between_max (cut s (omega (arith, ahead tokens s, ahead tokens t, ahead tokens u, ahead tokens v, le))) (keep_mark (omega (arith, ahead tokens s, ahead tokens t, ahead tokens u, ahead tokens v, le)) h) (cut t (omega (arith, ahead tokens s, ahead tokens t, ahead tokens u, ahead tokens v, le))) (keep_mark (omega (arith, ahead tokens s, ahead tokens t, ahead tokens u, ahead tokens v, le)) i) (cut u (omega (arith, ahead tokens s, ahead tokens t, ahead tokens u, ahead tokens v, le))) (keep_mark (omega (arith, ahead tokens s, ahead tokens t, ahead tokens u, ahead tokens v, le)) j) (cut v (omega (arith, ahead tokens s, ahead tokens t, ahead tokens u, ahead tokens v, le))) (keep_mark (omega (arith, ahead tokens s, ahead tokens t, ahead tokens u, ahead tokens v, le)) k)
  cut (assertion s h i t j) le = assertion (cut s (omega (arith, ahead tokens s, ahead tokens t, le))) (keep_mark (omega (arith, ahead tokens s, ahead tokens t, le)) h) (keep_mark (omega (arith, ahead tokens s, ahead tokens t, le)) i) (cut t (omega (arith, ahead tokens s, ahead tokens t, le))) (keep_mark (omega (arith, ahead tokens s, ahead tokens t, le)) j)
  cut (call_none s h i) le = call_none (cut s (omega (arith, ahead tokens s, le))) (keep_mark (omega (arith, ahead tokens s, le)) h) (keep_mark (omega (arith, ahead tokens s, le)) i)
  cut (call s h t c i) le = call (cut s (omega (arith, ahead tokens s, ahead tokens t, comma_ahead tokens c, le))) (keep_mark (omega (arith, ahead tokens s, ahead tokens t, comma_ahead tokens c, le)) h) (cut t (omega (arith, ahead tokens s, ahead tokens t, comma_ahead tokens c, le))) (keep_comma (omega (arith, ahead tokens s, ahead tokens t, comma_ahead tokens c, le)) c) (keep_mark (omega (arith, ahead tokens s, ahead tokens t, comma_ahead tokens c, le)) i)
  cut (spread_call s h t i c j) le = spread_call (cut s (omega (arith, ahead tokens s, ahead tokens t, comma_ahead tokens c, le))) (keep_mark (omega (arith, ahead tokens s, ahead tokens t, comma_ahead tokens c, le)) h) (cut t (omega (arith, ahead tokens s, ahead tokens t, comma_ahead tokens c, le))) (keep_mark (omega (arith, ahead tokens s, ahead tokens t, comma_ahead tokens c, le)) i) (keep_comma (omega (arith, ahead tokens s, ahead tokens t, comma_ahead tokens c, le)) c) (keep_mark (omega (arith, ahead tokens s, ahead tokens t, comma_ahead tokens c, le)) j)
  cut (last_expr s) le = last_expr (cut s (omega (arith, ahead tokens s, le)))
  cut (one_expr s h t) le = one_expr (cut s (omega (arith, ahead tokens s, ahead tokens t, le))) (keep_mark (omega (arith, ahead tokens s, ahead tokens t, le)) h) (cut t (omega (arith, ahead tokens s, ahead tokens t, le)))
  cut (either_expr s) le = either_expr (cut s (omega (arith, ahead tokens s, le)))
  cut (either_type s) le = either_type (cut s (omega (arith, ahead tokens s, le)))
  cut (last_either s) le = last_either (cut s (omega (arith, ahead tokens s, le)))
  cut (one_either s h t) le = one_either (cut s (omega (arith, ahead tokens s, ahead tokens t, le))) (keep_mark (omega (arith, ahead tokens s, ahead tokens t, le)) h) (cut t (omega (arith, ahead tokens s, ahead tokens t, le)))
  cut (no_elems h i) le = no_elems (keep_mark (omega (arith, le)) h) (keep_mark (omega (arith, le)) i)
  cut (elems h s c i) le = elems (keep_mark (omega (arith, ahead tokens s, comma_ahead tokens c, le)) h) (cut s (omega (arith, ahead tokens s, comma_ahead tokens c, le))) (keep_comma (omega (arith, ahead tokens s, comma_ahead tokens c, le)) c) (keep_mark (omega (arith, ahead tokens s, comma_ahead tokens c, le)) i)
  cut (last_item s) le = last_item (cut s (omega (arith, ahead tokens s, le)))
  cut (one_item s h t) le = one_item (cut s (omega (arith, ahead tokens s, ahead tokens t, le))) (keep_mark (omega (arith, ahead tokens s, ahead tokens t, le)) h) (cut t (omega (arith, ahead tokens s, ahead tokens t, le)))
  cut (item s) le = item (cut s (omega (arith, ahead tokens s, le)))
  cut (keyed_item s h t) le = keyed_item (cut s (omega (arith, ahead tokens s, ahead tokens t, le))) (keep_mark (omega (arith, ahead tokens s, ahead tokens t, le)) h) (cut t (omega (arith, ahead tokens s, ahead tokens t, le)))
  cut (value_expr s) le = value_expr (cut s (omega (arith, ahead tokens s, le)))
  cut (value_elems s) le = value_elems (cut s (omega (arith, ahead tokens s, le)))
  cut (block h s i) le = block (keep_mark (omega (arith, ahead tokens s, le)) h) (cut s (omega (arith, ahead tokens s, le))) (keep_mark (omega (arith, ahead tokens s, le)) i)
  cut no_stmt le = no_stmt
  cut (last_stmt s h) le = last_stmt (cut s (omega (arith, ahead tokens s, le))) (keep_mark (omega (arith, ahead tokens s, le)) h)
  cut (one_stmt s h t) le = one_stmt (cut s (omega (arith, ahead tokens s, ahead tokens t, le))) (keep_pass (omega (arith, ahead tokens s, ahead tokens t, le)) h) (cut t (omega (arith, ahead tokens s, ahead tokens t, le)))
  cut (empty_stmt h s) le = empty_stmt (keep_pass (omega (arith, ahead tokens s, le)) h) (cut s (omega (arith, ahead tokens s, le)))
  cut (decl_stmt s) le = decl_stmt (cut s (omega (arith, ahead tokens s, le)))
  cut (simple_stmt s) le = simple_stmt (cut s (omega (arith, ahead tokens s, le)))
  cut (labeled h i s) le = labeled (keep_at (omega (arith, ahead tokens s, le)) h) (keep_mark (omega (arith, ahead tokens s, le)) i) (cut s (omega (arith, ahead tokens s, le)))
  cut (labeled_empty h i) le = labeled_empty (keep_at (omega (arith, le)) h) (keep_mark (omega (arith, le)) i)
  cut (go_stmt h s) le = go_stmt (keep_word (omega (arith, ahead tokens s, le)) h) (cut s (omega (arith, ahead tokens s, le)))
  cut (defer_stmt h s) le = defer_stmt (keep_word (omega (arith, ahead tokens s, le)) h) (cut s (omega (arith, ahead tokens s, le)))
  cut (return_none h) le = return_none (keep_word (omega (arith, le)) h)
  cut (return_values h s) le = return_values (keep_word (omega (arith, ahead tokens s, le)) h) (cut s (omega (arith, ahead tokens s, le)))
  cut (break_stmt h s) le = break_stmt (keep_word (omega (arith, ahead tokens s, le)) h) (cut s (omega (arith, ahead tokens s, le)))
  cut (continue_stmt h s) le = continue_stmt (keep_word (omega (arith, ahead tokens s, le)) h) (cut s (omega (arith, ahead tokens s, le)))
  cut (goto_stmt h i) le = goto_stmt (keep_word (omega (arith, le)) h) (keep_at (omega (arith, le)) i)
  cut (fallthrough_stmt h) le = fallthrough_stmt (keep_word (omega (arith, le)) h)
  cut (block_stmt s) le = block_stmt (cut s (omega (arith, ahead tokens s, le)))
  cut (if_stmt s) le = if_stmt (cut s (omega (arith, ahead tokens s, le)))
  cut no_label le = no_label
  cut (a_label h) le = a_label (keep_at (omega (arith, le)) h)
  cut (expr_stmt s) le = expr_stmt (cut s (omega (arith, ahead tokens s, le)))
  cut (send s h t) le = send (cut s (omega (arith, ahead tokens s, ahead tokens t, le))) (keep_mark (omega (arith, ahead tokens s, ahead tokens t, le)) h) (cut t (omega (arith, ahead tokens s, ahead tokens t, le)))
  cut (increment s h) le = increment (cut s (omega (arith, ahead tokens s, le))) (keep_mark (omega (arith, ahead tokens s, le)) h)
  cut (decrement s h) le = decrement (cut s (omega (arith, ahead tokens s, le))) (keep_mark (omega (arith, ahead tokens s, le)) h)
  cut (assign s h t) le = assign (cut s (omega (arith, ahead tokens s, ahead tokens t, le))) (keep_mark (omega (arith, ahead tokens s, ahead tokens t, le)) h) (cut t (omega (arith, ahead tokens s, ahead tokens t, le)))
  cut (op_assign s h t) le = op_assign (cut s (omega (arith, ahead tokens s, ahead tokens t, le))) (keep_pass (omega (arith, ahead tokens s, ahead tokens t, le)) h) (cut t (omega (arith, ahead tokens s, ahead tokens t, le)))
  cut (define s h t) le = define (cut s (omega (arith, ahead tokens s, ahead tokens t, le))) (keep_mark (omega (arith, ahead tokens s, ahead tokens t, le)) h) (cut t (omega (arith, ahead tokens s, ahead tokens t, le)))
  cut no_init le = no_init
  cut (empty_init h) le = empty_init (keep_pass (omega (arith, le)) h)
  cut (an_init s h) le = an_init (cut s (omega (arith, ahead tokens s, le))) (keep_pass (omega (arith, ahead tokens s, le)) h)
  cut (if_ h s t u v) le = if_ (keep_word (omega (arith, ahead tokens s, ahead tokens t, ahead tokens u, ahead tokens v, le)) h) (cut s (omega (arith, ahead tokens s, ahead tokens t, ahead tokens u, ahead tokens v, le))) (cut t (omega (arith, ahead tokens s, ahead tokens t, ahead tokens u, ahead tokens v, le))) (cut u (omega (arith, ahead tokens s, ahead tokens t, ahead tokens u, ahead tokens v, le))) (cut v (omega (arith, ahead tokens s, ahead tokens t, ahead tokens u, ahead tokens v, le)))
  cut no_else le = no_else
  cut (else_if h s) le = else_if (keep_word (omega (arith, ahead tokens s, le)) h) (cut s (omega (arith, ahead tokens s, le)))
  cut (else_block h s) le = else_block (keep_word (omega (arith, ahead tokens s, le)) h) (cut s (omega (arith, ahead tokens s, le)))
  cut (switch h s t i u j) le = switch (keep_word (omega (arith, ahead tokens s, ahead tokens t, ahead tokens u, le)) h) (cut s (omega (arith, ahead tokens s, ahead tokens t, ahead tokens u, le))) (cut t (omega (arith, ahead tokens s, ahead tokens t, ahead tokens u, le))) (keep_mark (omega (arith, ahead tokens s, ahead tokens t, ahead tokens u, le)) i) (cut u (omega (arith, ahead tokens s, ahead tokens t, ahead tokens u, le))) (keep_mark (omega (arith, ahead tokens s, ahead tokens t, ahead tokens u, le)) j)
  cut (type_switch h s t i u j) le = type_switch (keep_word (omega (arith, ahead tokens s, ahead tokens t, ahead tokens u, le)) h) (cut s (omega (arith, ahead tokens s, ahead tokens t, ahead tokens u, le))) (cut t (omega (arith, ahead tokens s, ahead tokens t, ahead tokens u, le))) (keep_mark (omega (arith, ahead tokens s, ahead tokens t, ahead tokens u, le)) i) (cut u (omega (arith, ahead tokens s, ahead tokens t, ahead tokens u, le))) (keep_mark (omega (arith, ahead tokens s, ahead tokens t, ahead tokens u, le)) j)
  cut no_tag_expr le = no_tag_expr
  cut (tag_expr s) le = tag_expr (cut s (omega (arith, ahead tokens s, le)))
  cut (guard s h i j k) le = guard (cut s (omega (arith, ahead tokens s, le))) (keep_mark (omega (arith, ahead tokens s, le)) h) (keep_mark (omega (arith, ahead tokens s, le)) i) (keep_word (omega (arith, ahead tokens s, le)) j) (keep_mark (omega (arith, ahead tokens s, le)) k)
  cut (named_guard h i s j k l p) le = named_guard (keep_at (omega (arith, ahead tokens s, le)) h) (keep_mark (omega (arith, ahead tokens s, le)) i) (cut s (omega (arith, ahead tokens s, le))) (keep_mark (omega (arith, ahead tokens s, le)) j) (keep_mark (omega (arith, ahead tokens s, le)) k) (keep_word (omega (arith, ahead tokens s, le)) l) (keep_mark (omega (arith, ahead tokens s, le)) p)
  cut no_case le = no_case
  cut (one_case s t) le = one_case (cut s (omega (arith, ahead tokens s, ahead tokens t, le))) (cut t (omega (arith, ahead tokens s, ahead tokens t, le)))
  cut (case h s i t) le = case (keep_word (omega (arith, ahead tokens s, ahead tokens t, le)) h) (cut s (omega (arith, ahead tokens s, ahead tokens t, le))) (keep_mark (omega (arith, ahead tokens s, ahead tokens t, le)) i) (cut t (omega (arith, ahead tokens s, ahead tokens t, le)))
  cut (default_case h i s) le = default_case (keep_word (omega (arith, ahead tokens s, le)) h) (keep_mark (omega (arith, ahead tokens s, le)) i) (cut s (omega (arith, ahead tokens s, le)))
  cut (select h i s j) le = select (keep_word (omega (arith, ahead tokens s, le)) h) (keep_mark (omega (arith, ahead tokens s, le)) i) (cut s (omega (arith, ahead tokens s, le))) (keep_mark (omega (arith, ahead tokens s, le)) j)
  cut no_comm le = no_comm
  cut (one_comm s t) le = one_comm (cut s (omega (arith, ahead tokens s, ahead tokens t, le))) (cut t (omega (arith, ahead tokens s, ahead tokens t, le)))
  cut (send_comm h s i t j u) le = send_comm (keep_word (omega (arith, ahead tokens s, ahead tokens t, ahead tokens u, le)) h) (cut s (omega (arith, ahead tokens s, ahead tokens t, ahead tokens u, le))) (keep_mark (omega (arith, ahead tokens s, ahead tokens t, ahead tokens u, le)) i) (cut t (omega (arith, ahead tokens s, ahead tokens t, ahead tokens u, le))) (keep_mark (omega (arith, ahead tokens s, ahead tokens t, ahead tokens u, le)) j) (cut u (omega (arith, ahead tokens s, ahead tokens t, ahead tokens u, le)))
  cut (assign_comm h s i t j u) le = assign_comm (keep_word (omega (arith, ahead tokens s, ahead tokens t, ahead tokens u, le)) h) (cut s (omega (arith, ahead tokens s, ahead tokens t, ahead tokens u, le))) (keep_mark (omega (arith, ahead tokens s, ahead tokens t, ahead tokens u, le)) i) (cut t (omega (arith, ahead tokens s, ahead tokens t, ahead tokens u, le))) (keep_mark (omega (arith, ahead tokens s, ahead tokens t, ahead tokens u, le)) j) (cut u (omega (arith, ahead tokens s, ahead tokens t, ahead tokens u, le)))
  cut (define_comm h s i t j u) le = define_comm (keep_word (omega (arith, ahead tokens s, ahead tokens t, ahead tokens u, le)) h) (cut s (omega (arith, ahead tokens s, ahead tokens t, ahead tokens u, le))) (keep_mark (omega (arith, ahead tokens s, ahead tokens t, ahead tokens u, le)) i) (cut t (omega (arith, ahead tokens s, ahead tokens t, ahead tokens u, le))) (keep_mark (omega (arith, ahead tokens s, ahead tokens t, ahead tokens u, le)) j) (cut u (omega (arith, ahead tokens s, ahead tokens t, ahead tokens u, le)))
  cut (receive_comm h s i t) le = receive_comm (keep_word (omega (arith, ahead tokens s, ahead tokens t, le)) h) (cut s (omega (arith, ahead tokens s, ahead tokens t, le))) (keep_mark (omega (arith, ahead tokens s, ahead tokens t, le)) i) (cut t (omega (arith, ahead tokens s, ahead tokens t, le)))
  cut (default_comm h i s) le = default_comm (keep_word (omega (arith, ahead tokens s, le)) h) (keep_mark (omega (arith, ahead tokens s, le)) i) (cut s (omega (arith, ahead tokens s, le)))
  cut (while_loop h s t) le = while_loop (keep_word (omega (arith, ahead tokens s, ahead tokens t, le)) h) (cut s (omega (arith, ahead tokens s, ahead tokens t, le))) (cut t (omega (arith, ahead tokens s, ahead tokens t, le)))
  cut (for_loop h s i t j u v) le = for_loop (keep_word (omega (arith, ahead tokens s, ahead tokens t, ahead tokens u, ahead tokens v, le)) h) (cut s (omega (arith, ahead tokens s, ahead tokens t, ahead tokens u, ahead tokens v, le))) (keep_pass (omega (arith, ahead tokens s, ahead tokens t, ahead tokens u, ahead tokens v, le)) i) (cut t (omega (arith, ahead tokens s, ahead tokens t, ahead tokens u, ahead tokens v, le))) (keep_pass (omega (arith, ahead tokens s, ahead tokens t, ahead tokens u, ahead tokens v, le)) j) (cut u (omega (arith, ahead tokens s, ahead tokens t, ahead tokens u, ahead tokens v, le))) (cut v (omega (arith, ahead tokens s, ahead tokens t, ahead tokens u, ahead tokens v, le)))
  cut (for_empty h i s j t u) le = for_empty (keep_word (omega (arith, ahead tokens s, ahead tokens t, ahead tokens u, le)) h) (keep_pass (omega (arith, ahead tokens s, ahead tokens t, ahead tokens u, le)) i) (cut s (omega (arith, ahead tokens s, ahead tokens t, ahead tokens u, le))) (keep_pass (omega (arith, ahead tokens s, ahead tokens t, ahead tokens u, le)) j) (cut t (omega (arith, ahead tokens s, ahead tokens t, ahead tokens u, le))) (cut u (omega (arith, ahead tokens s, ahead tokens t, ahead tokens u, le)))
  cut no_condition le = no_condition
  cut (a_condition s) le = a_condition (cut s (omega (arith, ahead tokens s, le)))
  cut empty_post le = empty_post
  cut (a_post s) le = a_post (cut s (omega (arith, ahead tokens s, le)))
  cut (range_loop h i s t) le = range_loop (keep_word (omega (arith, ahead tokens s, ahead tokens t, le)) h) (keep_word (omega (arith, ahead tokens s, ahead tokens t, le)) i) (cut s (omega (arith, ahead tokens s, ahead tokens t, le))) (cut t (omega (arith, ahead tokens s, ahead tokens t, le)))
  cut (assign_range h s i j t u) le = assign_range (keep_word (omega (arith, ahead tokens s, ahead tokens t, ahead tokens u, le)) h) (cut s (omega (arith, ahead tokens s, ahead tokens t, ahead tokens u, le))) (keep_mark (omega (arith, ahead tokens s, ahead tokens t, ahead tokens u, le)) i) (keep_word (omega (arith, ahead tokens s, ahead tokens t, ahead tokens u, le)) j) (cut t (omega (arith, ahead tokens s, ahead tokens t, ahead tokens u, le))) (cut u (omega (arith, ahead tokens s, ahead tokens t, ahead tokens u, le)))
  cut (define_range h s i j t u) le = define_range (keep_word (omega (arith, ahead tokens s, ahead tokens t, ahead tokens u, le)) h) (cut s (omega (arith, ahead tokens s, ahead tokens t, ahead tokens u, le))) (keep_mark (omega (arith, ahead tokens s, ahead tokens t, ahead tokens u, le)) i) (keep_word (omega (arith, ahead tokens s, ahead tokens t, ahead tokens u, le)) j) (cut t (omega (arith, ahead tokens s, ahead tokens t, ahead tokens u, le))) (cut u (omega (arith, ahead tokens s, ahead tokens t, ahead tokens u, le)))
