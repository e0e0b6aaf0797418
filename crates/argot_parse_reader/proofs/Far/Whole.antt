-- What is read reaches at least as far as anything that is spelled where it begins.
use Rattle.std.proofs.Common.{ℕ, List, true, refl}
use Rattle.argot_tree.specs.declared.token.Token.{Token}
use Rattle.argot_tree.specs.Forests.{Forest}
use Rattle.argot_tree.specs.Grammar.{Part, Spells, Decl, Declared, MaybeValues, Signature, AnyType, OnlyType, Level, Unary, Primary, Operand, Exprs, unary_level, binary, unary, primary, operand, name_use, selector, last_expr, one_expr, literal, parens, func_literal, composite, open_composite, bare_composite, conversion, index, slice_all, slice_from, slice_to, slice_between, slice_to_max, slice_between_max, assertion, call_none, call, spread_call, type_name, qualified_type, type_parens, pointer_type, formed_type, only_pointer, array_type, slice_type, map_type, chan_type, send_type, receive_type, func_type, struct_type, interface_type, no_result, results, result, no_values, some_values, constants, constants_are, variables_typed, variables_are, type_spec, alias_spec, generic_spec, generic_alias, decl_const, group_const, decl_var, group_var, decl_type, group_type}
use Rattle.argot_parse_reader.proofs.Exact.Tokens.{by_mark, follows}
use Rattle.argot_parse_reader.proofs.Exact.Levels.{level_gets}
use Rattle.argot_parse_reader.proofs.Exact.Suffixes.{exact_index, exact_slice_all, exact_slice_from, exact_slice_to, exact_slice_between, exact_slice_to_max, exact_slice_between_max, exact_assertion, exact_call_none, exact_call, exact_spread_call}
use Rattle.argot_parse_reader.proofs.Exact.Operands.{exact_literal, exact_parens, exact_func_literal, exact_composite, exact_open_composite, exact_bare_composite, exact_conversion}
use Rattle.argot_parse_reader.proofs.Exact.Whole.{exact}
use Rattle.argot_parse_reader.proofs.Far.TypeParts.{FarType, FarOnly, FarSignature, far_type_name, far_qualified_type, far_type_parens, far_pointer_type, far_formed_type, far_only_pointer, far_array_type, far_slice_type, far_map_type, far_chan_type, far_send_type, far_receive_type, far_func_type, far_struct_type, far_interface_type, far_no_result, far_results, far_result}
use Rattle.argot_parse_reader.proofs.Far.Expressions.{FarLevel, FarUnary, FarPrimary, FarOperand, FarExprs, far_unary_level, far_binary, far_unary, far_primary, far_operand, far_name_use, far_whole_operand, far_selector, far_whole_primary, far_last_expr, far_one_expr}
use Rattle.argot_parse_reader.proofs.Far.Declarations.{FarValues, FarDeclared, FarDecl, far_no_values, far_some_values, far_constants, far_constants_are, far_variables_typed, far_variables_are, far_type_spec, far_alias_spec, far_generic_spec, far_generic_alias, far_decl_const, far_group_const, far_decl_var, far_group_var, far_decl_type, far_group_type}

module _ (tokens : List Token) where
  -- what is claimed of the parts behind which something may go on
  abbrev pub Far : Part → ℕ → ℕ → Type 0
  Far Decl from to = FarDecl tokens from to
  Far (Declared sort) from to = FarDeclared tokens sort from to
  Far MaybeValues from to = FarValues tokens from to
  Far Signature from to = FarSignature tokens from to
  Far AnyType from to = FarType tokens from to
  Far OnlyType from to = FarOnly tokens from to
  Far (Level k bare) from to = FarLevel tokens k bare from to
  Far (Unary bare) from to = FarUnary tokens bare from to
  Far (Primary bare) from to = FarPrimary tokens bare from to
  Far (Operand bare) from to = FarOperand tokens bare from to
  Far (Exprs bare) from to = FarExprs tokens bare from to
  Far _ from to = Unit {0}

  pub far : {p : Part} {x : Forest} {from to : ℕ} → Spells tokens p x from to → Far p from to
  far (unary_level {k = k} s) = far_unary_level tokens k (far s)
  far (binary tight is left right) = far_binary tokens tight is left right (exact tokens left) (far right)
  far (unary h s) = far_unary tokens h (unary h s) (far s)
  far (primary s) = far_primary tokens s (far s)
  far (operand s) = far_operand tokens (far s)
  far (name_use {b = b} h) = far_name_use tokens b h
  far (literal {b = b} h) = far_whole_operand tokens (literal h) (exact_literal tokens b h)
  far (parens {b = b} h s i) = far_whole_operand tokens (parens h s i) (exact_parens tokens b h s i (exact tokens s))
  far (func_literal {b = b} h s t) = far_whole_operand tokens (func_literal h s t) (exact_func_literal tokens b h s t (exact tokens s) (exact tokens t))
  far (composite {b = b} h s t) = far_whole_operand tokens (composite h s t) (exact_composite tokens b h s t (exact tokens s) (exact tokens t))
  far (open_composite {b = b} h i j s t) = far_whole_operand tokens (open_composite h i j s t) (exact_open_composite tokens b h i j s t (exact tokens s) (exact tokens t))
  far (bare_composite s t) = far_whole_operand tokens (bare_composite s t) (exact_bare_composite tokens s t (exact tokens s) (exact tokens t))
  far (conversion {b = b} h s i t c j) = far_whole_operand tokens (conversion h s i t c j) (exact_conversion tokens b h s i t c j (exact tokens s) (exact tokens t))
  far (selector s h i) = far_selector tokens s h i
  far (index s h t i) = far_whole_primary tokens (index s h t i) (exact_index tokens s h t i (exact tokens s) (exact tokens t))
  far (slice_all s h i j) = far_whole_primary tokens (slice_all s h i j) (exact_slice_all tokens s h i j (exact tokens s))
  far (slice_from s h t i j) = far_whole_primary tokens (slice_from s h t i j) (exact_slice_from tokens s h t i j (exact tokens s) (exact tokens t))
  far (slice_to s h i t j) = far_whole_primary tokens (slice_to s h i t j) (exact_slice_to tokens s h i t j (exact tokens s) (exact tokens t))
  far (slice_between s h t i u j) = far_whole_primary tokens (slice_between s h t i u j) (exact_slice_between tokens s h t i u j (exact tokens s) (exact tokens t) (exact tokens u))
  far (slice_to_max s h i t j u k) = far_whole_primary tokens (slice_to_max s h i t j u k) (exact_slice_to_max tokens s h i t j u k (exact tokens s) (exact tokens t) (exact tokens u))
  far (slice_between_max s h t i u j v k) = far_whole_primary tokens (slice_between_max s h t i u j v k) (exact_slice_between_max tokens s h t i u j v k (exact tokens s) (exact tokens t) (exact tokens u) (exact tokens v))
  far (assertion s h i t j) = far_whole_primary tokens (assertion s h i t j) (exact_assertion tokens s h i t j (exact tokens s) (exact tokens t))
  far (call_none s h i) = far_whole_primary tokens (call_none s h i) (exact_call_none tokens s h i (exact tokens s))
  far (call s h t c i) = far_whole_primary tokens (call s h t c i) (exact_call tokens s h t c i (exact tokens s) (exact tokens t))
  far (spread_call s h t i c j) = far_whole_primary tokens (spread_call s h t i c j) (exact_spread_call tokens s h t i c j (exact tokens s) (exact tokens t))
  far (last_expr s) = far_last_expr tokens (far s)
  far (one_expr s c t) = far_one_expr tokens s c (exact tokens s) (far t)
  far (type_name h) = far_type_name tokens h
  far (qualified_type h d i) = far_qualified_type tokens h d i
  far (type_parens o s c) = far_type_parens tokens o s c (exact tokens s)
  far (pointer_type h s) = far_pointer_type tokens h (far s)
  far (formed_type f s) = far_formed_type tokens f s (far s)
  far (only_pointer h s) = far_only_pointer tokens h
  far (array_type h s c t) = far_array_type tokens h s c (λ n out enough. level_gets tokens s (exact tokens s) (by_mark (follows true) c refl) n out enough) (far t)
  far (slice_type h c s) = far_slice_type tokens h c (far s)
  far (map_type h o s c t) = far_map_type tokens h o s c (exact tokens s) (far t)
  far (chan_type h a s) = far_chan_type tokens h a (far s)
  far (send_type h a s) = far_send_type tokens h a (far s)
  far (receive_type a h s) = far_receive_type tokens a h (far s)
  far (func_type h s) = far_func_type tokens h (far s)
  far (struct_type h o s c) = far_struct_type tokens h o c s (exact tokens s)
  far (interface_type h o s c) = far_interface_type tokens h o c s (exact tokens s)
  far (no_result s f) = far_no_result tokens f s (exact tokens s)
  far (results s t) = far_results tokens s t (exact tokens s) (exact tokens t)
  far (result s f t) = far_result tokens s f t (exact tokens s) (far t)
  far no_values = far_no_values tokens
  far (some_values a s) = far_some_values tokens a (far s)
  far (constants s) = far_constants tokens s
  far (constants_are s t a u) = far_constants_are tokens s t a (exact tokens s) (exact tokens t) (far u)
  far (variables_typed s t u) = far_variables_typed tokens s t u (exact tokens s) (exact tokens t) (far t) (far u)
  far (variables_are s a t) = far_variables_are tokens s a (exact tokens s) (far t)
  far (type_spec h s) = far_type_spec tokens h s (far s)
  far (alias_spec h a s) = far_alias_spec tokens h a (far s)
  far (generic_spec h f s t) = far_generic_spec tokens h f s t (exact tokens s) (far t)
  far (generic_alias h f s a t) = far_generic_alias tokens h f s a (exact tokens s) (far t)
  far (decl_const h s) = far_decl_const tokens h s (far s)
  far (group_const h i s c) = far_group_const tokens h i s c (exact tokens s)
  far (decl_var h s) = far_decl_var tokens h s (far s)
  far (group_var h i s c) = far_group_var tokens h i s c (exact tokens s)
  far (decl_type h s) = far_decl_type tokens h s (far s)
  far (group_type h i s c) = far_group_type tokens h i s c (exact tokens s)
  far s = tt
