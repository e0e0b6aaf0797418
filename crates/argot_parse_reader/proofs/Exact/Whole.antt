-- What is spelled is read, where nothing behind it goes on with it: one clause for each production.
use Rattle.std.proofs.Common.{ℕ, List, true, refl}
use Rattle.argot_tree.specs.declared.token.Token.{Token}
use Rattle.argot_tree.specs.Forests.{Forest}
use Rattle.argot_tree.specs.Grammar.{Part, Spells, file, no_import, one_import, import_one, import_group, no_spec, last_spec, one_spec, spec, dot_spec, named_spec, no_top, one_top, top_decl, top_func, no_receiver, a_receiver, receiver_type, receiver_named, no_type_params, some_type_params, no_body, a_body, type_params, balanced_none, balanced_token, balanced_parens, balanced_brackets, balanced_braces, decl_const, group_const, decl_var, group_var, decl_type, group_type, no_declared, last_declared, one_declared, constants, constants_are, variables_typed, variables_are, untyped, typed, no_values, some_values, type_spec, alias_spec, generic_spec, generic_alias, last_name, one_name, no_result, results, result, no_params, params, named_params, last_param, one_param, variadic_param, last_named, one_named, lone_named, variadic_named, type_name, qualified_type, type_parens, pointer_type, only_pointer, array_type, slice_type, map_type, chan_type, send_type, receive_type, func_type, struct_type, interface_type, formed_type, no_field, last_field, one_field, named_field, embedded_field, embedded_pointer, embedded_name, embedded_qualified, no_tag, a_tag, no_element, last_element, one_element, method, embedded_type, unary_level, binary, unary, primary, operand, literal, name_use, parens, func_literal, composite, open_composite, bare_composite, conversion, selector, index, slice_all, slice_from, slice_to, slice_between, slice_to_max, slice_between_max, assertion, call_none, call, spread_call, last_expr, one_expr, either_expr, either_type, last_either, one_either, no_elems, elems, last_item, one_item, item, keyed_item, value_expr, value_elems, block, no_stmt, last_stmt, one_stmt, empty_stmt, decl_stmt, simple_stmt, labeled, labeled_empty, go_stmt, defer_stmt, return_none, return_values, break_stmt, continue_stmt, goto_stmt, fallthrough_stmt, block_stmt, if_stmt, no_label, a_label, expr_stmt, send, increment, decrement, assign, op_assign, define, no_init, empty_init, an_init, if_, no_else, else_if, else_block, switch, type_switch, no_tag_expr, tag_expr, guard, named_guard, no_case, one_case, case, default_case, select, no_comm, one_comm, send_comm, assign_comm, define_comm, receive_comm, default_comm, while_loop, for_loop, for_empty, no_condition, a_condition, empty_post, a_post, range_loop, assign_range, define_range}
use Rattle.argot_parse_reader.proofs.Exact.Tokens.{by_mark, follows}
use Rattle.argot_parse_reader.proofs.Exact.Levels.{level_gets}
use Rattle.argot_parse_reader.proofs.Exact.Claims.{Exact, no_statement, empty_statement, a_statement, no_expression, an_expression, guarded, named_guarded}
use Rattle.argot_parse_reader.proofs.Exact.TypeParts.{exact_type_name, exact_qualified_type, exact_type_parens, exact_pointer_type, exact_formed_type}
use Rattle.argot_parse_reader.proofs.Exact.OnlyTypes.{exact_only_pointer, exact_array_type, exact_slice_type, exact_map_type, exact_chan_type, exact_send_type, exact_func_type, exact_struct_type, exact_interface_type}
use Rattle.argot_parse_reader.proofs.Exact.Arrows.{exact_receive_type}
use Rattle.argot_parse_reader.proofs.Exact.Signatures.{exact_last_name, exact_one_name, exact_no_result, exact_results, exact_result, exact_no_params, exact_params, exact_named_params, exact_last_param, exact_one_param, exact_variadic_param, exact_last_named, exact_one_named, exact_lone_named, exact_variadic_named}
use Rattle.argot_parse_reader.proofs.Exact.Members.{exact_no_field, exact_last_field, exact_one_field, exact_named_field, exact_embedded_field, exact_embedded_pointer, exact_embedded_name, exact_embedded_qualified, exact_no_tag, exact_a_tag, exact_no_element, exact_last_element, exact_one_element, exact_method, exact_embedded_type}
use Rattle.argot_parse_reader.proofs.Exact.Levels.{exact_unary_level, exact_binary, exact_unary, exact_primary, exact_operand, exact_either_expr, exact_either_type}
use Rattle.argot_parse_reader.proofs.Exact.Suffixes.{exact_selector, exact_index, exact_slice_all, exact_slice_from, exact_slice_to, exact_slice_between, exact_slice_to_max, exact_slice_between_max, exact_assertion, exact_call_none, exact_call, exact_spread_call}
use Rattle.argot_parse_reader.proofs.Exact.Operands.{exact_literal, exact_name_use, exact_parens, exact_func_literal, exact_composite, exact_open_composite, exact_bare_composite, exact_conversion}
use Rattle.argot_parse_reader.proofs.Exact.Elements.{exact_last_expr, exact_one_expr, exact_last_either, exact_one_either, exact_no_elems, exact_elems, exact_last_item, exact_one_item, exact_item, exact_keyed_item, exact_value_expr, exact_value_elems}
use Rattle.argot_parse_reader.proofs.Exact.Declarations.{exact_type_params, exact_balanced_none, exact_balanced_token, exact_balanced_parens, exact_balanced_brackets, exact_balanced_braces, exact_decl_const, exact_group_const, exact_decl_var, exact_group_var, exact_decl_type, exact_group_type, exact_no_declared, exact_last_declared, exact_one_declared, exact_constants, exact_constants_are, exact_variables_typed, exact_variables_are, exact_untyped, exact_typed, exact_no_values, exact_some_values, exact_type_spec, exact_alias_spec, exact_generic_spec, exact_generic_alias}
use Rattle.argot_parse_reader.proofs.Exact.Files.{exact_file, exact_no_import, exact_one_import, exact_import_one, exact_import_group, exact_no_spec, exact_last_spec, exact_one_spec, exact_spec, exact_dot_spec, exact_named_spec, exact_no_top, exact_one_top, exact_top_decl, exact_top_func, exact_no_receiver, exact_a_receiver, exact_receiver_type, exact_receiver_named, exact_no_type_params, exact_some_type_params, exact_no_body, exact_a_body}
use Rattle.argot_parse_reader.proofs.Exact.Simples.{exact_expr_stmt, exact_send, exact_increment, exact_decrement, exact_assign, exact_op_assign, exact_define}
use Rattle.argot_parse_reader.proofs.Exact.Statements.{exact_block, exact_no_stmt, exact_last_stmt, exact_one_stmt, exact_empty_stmt, exact_decl_stmt, exact_simple_stmt, exact_labeled, exact_labeled_empty, exact_go_stmt, exact_defer_stmt, exact_return_none, exact_return_values, exact_break_stmt, exact_continue_stmt, exact_goto_stmt, exact_fallthrough_stmt, exact_block_stmt, exact_if_stmt, exact_no_label, exact_a_label}
use Rattle.argot_parse_reader.proofs.Exact.Heads.{exact_if, exact_no_else, exact_else_if, exact_else_block}
use Rattle.argot_parse_reader.proofs.Exact.Loops.{exact_while_loop, exact_for_loop, exact_for_empty, exact_empty_post, exact_a_post, exact_range_loop, exact_assign_range, exact_define_range}
use Rattle.argot_parse_reader.proofs.Exact.Switches.{exact_switch, exact_type_switch}
use Rattle.argot_parse_reader.proofs.Exact.Clauses.{exact_no_case, exact_one_case, exact_case, exact_default_case, exact_select, exact_no_comm, exact_one_comm, exact_send_comm, exact_assign_comm, exact_define_comm, exact_receive_comm, exact_default_comm}

module _ (tokens : List Token) where
  pub exact : {p : Part} {x : Forest} {from to : ℕ} → Spells tokens p x from to → Exact tokens p x from to
  exact (file h i j s t) = exact_file tokens h i j s t (exact s) (exact t)
  exact no_import = exact_no_import tokens
  exact (one_import s h t) = exact_one_import tokens s h t (exact s) (exact t)
  exact (import_one h s) = exact_import_one tokens h s (exact s)
  exact (import_group h i s j) = exact_import_group tokens h i s j (exact s)
  exact no_spec = exact_no_spec tokens
  exact (last_spec s h) = exact_last_spec tokens s h (exact s)
  exact (one_spec s h t) = exact_one_spec tokens s h t (exact s) (exact t)
  exact (spec h) = exact_spec tokens h
  exact (dot_spec h i) = exact_dot_spec tokens h i
  exact (named_spec h i) = exact_named_spec tokens h i
  exact no_top = exact_no_top tokens
  exact (one_top s h t) = exact_one_top tokens s h t (exact s) (exact t)
  exact (top_decl s) = exact_top_decl tokens s (exact s)
  exact (top_func h s i t u v) = exact_top_func tokens h s i t u v (exact s) (exact t) (exact u) (exact v)
  exact no_receiver = exact_no_receiver tokens
  exact (a_receiver s) = exact_a_receiver tokens s (exact s)
  exact (receiver_type h s c i) = exact_receiver_type tokens h s c i (exact s)
  exact (receiver_named h i s c j) = exact_receiver_named tokens h i s c j (exact s)
  exact no_type_params = exact_no_type_params tokens
  exact (some_type_params s) = exact_some_type_params tokens s (exact s)
  exact no_body = exact_no_body tokens
  exact (a_body s) = exact_a_body tokens s (exact s)
  exact (type_params h i s j) = exact_type_params tokens h i s j (exact s)
  exact balanced_none = exact_balanced_none tokens
  exact (balanced_token h s) = exact_balanced_token tokens h s (exact s)
  exact (balanced_parens h s i t) = exact_balanced_parens tokens h s i t (exact s) (exact t)
  exact (balanced_brackets h s i t) = exact_balanced_brackets tokens h s i t (exact s) (exact t)
  exact (balanced_braces h s i t) = exact_balanced_braces tokens h s i t (exact s) (exact t)
  exact (decl_const h s) = exact_decl_const tokens h s (exact s)
  exact (group_const h i s j) = exact_group_const tokens h i s j (exact s)
  exact (decl_var h s) = exact_decl_var tokens h s (exact s)
  exact (group_var h i s j) = exact_group_var tokens h i s j (exact s)
  exact (decl_type h s) = exact_decl_type tokens h s (exact s)
  exact (group_type h i s j) = exact_group_type tokens h i s j (exact s)
  exact (no_declared {s = sort}) = exact_no_declared tokens sort
  exact (last_declared s h) = exact_last_declared tokens s h (exact s)
  exact (one_declared s h t) = exact_one_declared tokens s h t (exact s) (exact t)
  exact (constants s) = exact_constants tokens s (exact s)
  exact (constants_are s t h u) = exact_constants_are tokens s t h u (exact s) (exact t) (exact u)
  exact (variables_typed s t u) = exact_variables_typed tokens s t u (exact s) (exact t) (exact u)
  exact (variables_are s h t) = exact_variables_are tokens s h t (exact s) (exact t)
  exact untyped = exact_untyped tokens
  exact (typed s) = exact_typed tokens s (exact s)
  exact no_values = exact_no_values tokens
  exact (some_values h s) = exact_some_values tokens h s (exact s)
  exact (type_spec h s) = exact_type_spec tokens h s (exact s)
  exact (alias_spec h i s) = exact_alias_spec tokens h i s (exact s)
  exact (generic_spec h i s t) = exact_generic_spec tokens h i s t (exact s) (exact t)
  exact (generic_alias h i s j t) = exact_generic_alias tokens h i s j t (exact s) (exact t)
  exact (last_name h) = exact_last_name tokens h
  exact (one_name h i s) = exact_one_name tokens h i s (exact s)
  exact (no_result s h) = exact_no_result tokens s h (exact s)
  exact (results s t) = exact_results tokens s t (exact s) (exact t)
  exact (result s h t) = exact_result tokens s h t (exact s) (exact t)
  exact (no_params {b = b} h i) = exact_no_params tokens b h i
  exact (params h s c i) = exact_params tokens h s c i (exact s)
  exact (named_params h s c i) = exact_named_params tokens h s c i (exact s)
  exact (last_param {b = b} s) = exact_last_param tokens b s (exact s)
  exact (one_param s h t) = exact_one_param tokens s h t (exact s) (exact t)
  exact (variadic_param h s) = exact_variadic_param tokens h s (exact s)
  exact (last_named {b = b} h s) = exact_last_named tokens b h s (exact s)
  exact (one_named h s i t) = exact_one_named tokens h s i t (exact s) (exact t)
  exact (lone_named h i s) = exact_lone_named tokens h i s (exact s)
  exact (variadic_named h i s) = exact_variadic_named tokens h i s (exact s)
  exact (type_name h) = exact_type_name tokens h
  exact (qualified_type h i j) = exact_qualified_type tokens h i j
  exact (type_parens h s i) = exact_type_parens tokens h s i (exact s)
  exact (pointer_type h s) = exact_pointer_type tokens h s (exact s)
  exact (only_pointer h s) = exact_only_pointer tokens h s (exact s)
  exact (array_type h s i t) = exact_array_type tokens h s i t (array_type h s i t) (λ n out enough. level_gets tokens s (exact s) (by_mark (follows true) i refl) n out enough) (exact t)
  exact (slice_type h i s) = exact_slice_type tokens h i s (slice_type h i s) (exact s)
  exact (map_type h i s j t) = exact_map_type tokens h i s j t (map_type h i s j t) (exact s) (exact t)
  exact (chan_type h i s) = exact_chan_type tokens h i s (chan_type h i s) (exact s)
  exact (send_type h i s) = exact_send_type tokens h i s (send_type h i s) (exact s)
  exact (receive_type h i s) = exact_receive_type tokens h i s (exact s)
  exact (func_type h s) = exact_func_type tokens h s (func_type h s) (exact s)
  exact (struct_type h i s j) = exact_struct_type tokens h i s j (struct_type h i s j) (exact s)
  exact (interface_type h i s j) = exact_interface_type tokens h i s j (interface_type h i s j) (exact s)
  exact (formed_type h s) = exact_formed_type tokens h s (exact s)
  exact no_field = exact_no_field tokens
  exact (last_field s h) = exact_last_field tokens s h (exact s)
  exact (one_field s h t) = exact_one_field tokens s h t (exact s) (exact t)
  exact (named_field s t u) = exact_named_field tokens s t u (exact s) (exact t) (exact u)
  exact (embedded_field s t) = exact_embedded_field tokens s t (exact s) (exact t)
  exact (embedded_pointer h s t) = exact_embedded_pointer tokens h s t (exact s) (exact t)
  exact (embedded_name h) = exact_embedded_name tokens h
  exact (embedded_qualified h i j) = exact_embedded_qualified tokens h i j
  exact no_tag = exact_no_tag tokens
  exact (a_tag h) = exact_a_tag tokens h
  exact no_element = exact_no_element tokens
  exact (last_element s h) = exact_last_element tokens s h (exact s)
  exact (one_element s h t) = exact_one_element tokens s h t (exact s) (exact t)
  exact (method h s) = exact_method tokens h s (exact s)
  exact (embedded_type s) = exact_embedded_type tokens s (exact s)
  exact (unary_level {k = k} s) = exact_unary_level tokens k s (exact s)
  exact (binary h i s t) = exact_binary tokens h i s t (exact s) (exact t)
  exact (unary h s) = exact_unary tokens h s (exact s)
  exact (primary s) = exact_primary tokens s (exact s)
  exact (operand s) = exact_operand tokens s (exact s)
  exact (literal {b = b} h) = λ types n out enough brace. exact_literal tokens b h types n out enough
  exact (name_use {b = b} h) = exact_name_use tokens b h
  exact (parens {b = b} h s i) = λ types n out enough brace. exact_parens tokens b h s i (exact s) types n out enough
  exact (func_literal {b = b} h s t) = λ types n out enough brace. exact_func_literal tokens b h s t (exact s) (exact t) types n out enough
  exact (composite {b = b} h s t) = λ types n out enough brace. exact_composite tokens b h s t (exact s) (exact t) types n out enough
  exact (open_composite {b = b} h i j s t) = λ types n out enough brace. exact_open_composite tokens b h i j s t (exact s) (exact t) types n out enough
  exact (bare_composite s t) = λ types n out enough brace. exact_bare_composite tokens s t (exact s) (exact t) types n out enough
  exact (conversion {b = b} h s i t c j) = λ types n out enough brace. exact_conversion tokens b h s i t c j (exact s) (exact t) types n out enough
  exact (selector s h i) = λ types n out enough brace. exact_selector tokens s h i (exact s) types n out enough brace.here
  exact (index s h t i) = λ types n out enough brace. exact_index tokens s h t i (exact s) (exact t) types n out enough
  exact (slice_all s h i j) = λ types n out enough brace. exact_slice_all tokens s h i j (exact s) types n out enough
  exact (slice_from s h t i j) = λ types n out enough brace. exact_slice_from tokens s h t i j (exact s) (exact t) types n out enough
  exact (slice_to s h i t j) = λ types n out enough brace. exact_slice_to tokens s h i t j (exact s) (exact t) types n out enough
  exact (slice_between s h t i u j) = λ types n out enough brace. exact_slice_between tokens s h t i u j (exact s) (exact t) (exact u) types n out enough
  exact (slice_to_max s h i t j u k) = λ types n out enough brace. exact_slice_to_max tokens s h i t j u k (exact s) (exact t) (exact u) types n out enough
  exact (slice_between_max s h t i u j v k) = λ types n out enough brace. exact_slice_between_max tokens s h t i u j v k (exact s) (exact t) (exact u) (exact v) types n out enough
  exact (assertion s h i t j) = λ types n out enough brace. exact_assertion tokens s h i t j (exact s) (exact t) types n out enough
  exact (call_none s h i) = λ types n out enough brace. exact_call_none tokens s h i (exact s) types n out enough
  exact (call s h t c i) = λ types n out enough brace. exact_call tokens s h t c i (exact s) (exact t) types n out enough
  exact (spread_call s h t i c j) = λ types n out enough brace. exact_spread_call tokens s h t i c j (exact s) (exact t) types n out enough
  exact (last_expr s) = exact_last_expr tokens s (exact s)
  exact (one_expr s h t) = exact_one_expr tokens s h t (exact s) (exact t)
  exact (either_expr s) = exact_either_expr tokens s (exact s)
  exact (either_type s) = exact_either_type tokens s (exact s)
  exact (last_either s) = exact_last_either tokens s (exact s)
  exact (one_either s h t) = exact_one_either tokens s h t (exact s) (exact t)
  exact (no_elems h i) = exact_no_elems tokens h i
  exact (elems h s c i) = exact_elems tokens h s c i (exact s)
  exact (last_item s) = exact_last_item tokens s (exact s)
  exact (one_item s h t) = exact_one_item tokens s h t (exact s) (exact t)
  exact (item s) = exact_item tokens s (exact s)
  exact (keyed_item s h t) = exact_keyed_item tokens s h t (exact s) (exact t)
  exact (value_expr s) = exact_value_expr tokens s (exact s)
  exact (value_elems s) = exact_value_elems tokens s (exact s)
  exact (block h s i) = exact_block tokens h s i (exact s)
  exact no_stmt = exact_no_stmt tokens
  exact (last_stmt s h) = exact_last_stmt tokens s h (exact s)
  exact (one_stmt s h t) = exact_one_stmt tokens s h t (exact s) (exact t)
  exact (empty_stmt h s) = exact_empty_stmt tokens h s (exact s)
  exact (decl_stmt s) = exact_decl_stmt tokens s (decl_stmt s) (exact s)
  exact (simple_stmt s) = exact_simple_stmt tokens s (simple_stmt s) (exact s)
  exact (labeled h i s) = exact_labeled tokens h i s (exact s)
  exact (labeled_empty h i) = exact_labeled_empty tokens h i
  exact (go_stmt h s) = exact_go_stmt tokens h s (go_stmt h s) (exact s)
  exact (defer_stmt h s) = exact_defer_stmt tokens h s (defer_stmt h s) (exact s)
  exact (return_none h) = exact_return_none tokens h (return_none h)
  exact (return_values h s) = exact_return_values tokens h s (return_values h s) (exact s)
  exact (break_stmt h s) = exact_break_stmt tokens h s (break_stmt h s) (exact s)
  exact (continue_stmt h s) = exact_continue_stmt tokens h s (continue_stmt h s) (exact s)
  exact (goto_stmt h i) = exact_goto_stmt tokens h i (goto_stmt h i)
  exact (fallthrough_stmt h) = exact_fallthrough_stmt tokens h (fallthrough_stmt h)
  exact (block_stmt s) = exact_block_stmt tokens s (block_stmt s) (exact s)
  exact (if_stmt s) = exact_if_stmt tokens s (if_stmt s) (exact s)
  exact no_label = exact_no_label tokens
  exact (a_label h) = exact_a_label tokens h
  exact (expr_stmt s) = exact_expr_stmt tokens s (exact s)
  exact (send s h t) = exact_send tokens s h t (exact s) (exact t)
  exact (increment s h) = exact_increment tokens s h (exact s)
  exact (decrement s h) = exact_decrement tokens s h (exact s)
  exact (assign s h t) = exact_assign tokens s h t (exact s) (exact t)
  exact (op_assign s h t) = exact_op_assign tokens s h t (exact s) (exact t)
  exact (define s h t) = exact_define tokens s h t (exact s) (exact t)
  exact no_init = no_statement
  exact (empty_init h) = empty_statement h
  exact (an_init s h) = a_statement s (exact s) h
  exact (if_ h s t u v) = exact_if tokens h s t u v (exact s) (exact t) (exact u) (exact v)
  exact no_else = exact_no_else tokens
  exact (else_if h s) = exact_else_if tokens h s (exact s)
  exact (else_block h s) = exact_else_block tokens h s (exact s)
  exact (switch h s t i u j) = exact_switch tokens h s t i u j (switch h s t i u j) (exact s) (exact t) (exact u)
  exact (type_switch h s t i u j) = exact_type_switch tokens h s t i u j (type_switch h s t i u j) (exact s) (exact t) (exact u)
  exact no_tag_expr = no_expression
  exact (tag_expr s) = an_expression s (exact s)
  exact (guard s h i j k) = guarded s (exact s) h i j k
  exact (named_guard h i s j k l m) = named_guarded h i s (exact s) j k l m
  exact no_case = exact_no_case tokens
  exact (one_case s t) = exact_one_case tokens s t (exact s) (exact t)
  exact (case h s i t) = exact_case tokens h s i t (exact s) (exact t)
  exact (default_case h i s) = exact_default_case tokens h i s (exact s)
  exact (select h i s j) = exact_select tokens h i s j (select h i s j) (exact s)
  exact no_comm = exact_no_comm tokens
  exact (one_comm s t) = exact_one_comm tokens s t (exact s) (exact t)
  exact (send_comm h s i t j u) = exact_send_comm tokens h s i t j u (exact s) (exact t) (exact u)
  exact (assign_comm h s i t j u) = exact_assign_comm tokens h s i t j u (exact s) (exact t) (exact u)
  exact (define_comm h s i t j u) = exact_define_comm tokens h s i t j u (exact s) (exact t) (exact u)
  exact (receive_comm h s i t) = exact_receive_comm tokens h s i t (exact s) (exact t)
  exact (default_comm h i s) = exact_default_comm tokens h i s (exact s)
  exact (while_loop h s t) = exact_while_loop tokens h t (while_loop h s t) (exact s) (exact t)
  exact (for_loop h s i t j u v) = exact_for_loop tokens h s i t j u v (for_loop h s i t j u v) (exact s) (exact t) (exact u) (exact v)
  exact (for_empty h i s j t u) = exact_for_empty tokens h i s j t u (for_empty h i s j t u) (exact s) (exact t) (exact u)
  exact no_condition = no_expression
  exact (a_condition s) = an_expression s (exact s)
  exact empty_post = exact_empty_post tokens
  exact (a_post s) = exact_a_post tokens s (exact s)
  exact (range_loop h i s t) = exact_range_loop tokens h i s t (range_loop h i s t) (exact s) (exact t)
  exact (assign_range h s i j t u) = exact_assign_range tokens h s i j t u (assign_range h s i j t u) (exact s) (exact t) (exact u)
  exact (define_range h s i j t u) = exact_define_range tokens h s i j t u (define_range h s i j t u) (exact s) (exact t) (exact u)
