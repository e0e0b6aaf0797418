-- What a part begins with.
use Rattle.std.proofs.Common.{◌≡◌, ℕ, List, Bool, true, false, Option, Some, None, refl, ap}
use Rattle.std.proofs.lemmas.Bool.{false≢true}
use Rattle.argot_tree.specs.declared.keyword.Keyword.TheVariants as words
use Rattle.argot_tree.specs.declared.mark.Mark.TheVariants as marks
use Rattle.argot_tree.specs.declared.node_kind.NodeKind.{NodeKind}
use Rattle.argot_tree.specs.declared.token.TokenKind.{TokenKind}
use Rattle.argot_tree.specs.declared.token.TokenKind.TheVariants as kinds
use Rattle.argot_tree.specs.declared.token.Token.{Token}
use Rattle.argot_tree.specs.Forests.{Forest}
use Rattle.argot_tree.specs.TokensAt.{HasAt, HasWord, HasMark, Passes, is_literal, is_text, begins_type, begins_conversion, begins_composite, unary_of}
use Rattle.argot_tree.specs.Grammar.{Part, Spells, File, Imports, Import, Specs, Spec, Tops, Top, Receiver, MaybeReceiver, MaybeTypeParams, MaybeBody, Decl, Declared, DeclaredList, MaybeTyped, MaybeValues, TypeParams, Balanced, Names, Signature, Params, Types, NamedList, AnyType, OnlyType, Fields, Field, Embedded, MaybeTag, Elements, Element, Level, Unary, Primary, Operand, Exprs, Either, Eithers, Elems, Items, Item, Value, Block, Stmts, Stmt, Simple, MaybeLabel, MaybeInit, If, MaybeElse, MaybeSwitched, TypeGuard, Cases, Case, Comms, Comm, MaybeCondition, MaybePost, file, no_import, one_import, import_one, import_group, no_spec, last_spec, one_spec, spec, dot_spec, named_spec, no_top, one_top, top_decl, top_func, no_receiver, a_receiver, receiver_type, receiver_named, no_type_params, some_type_params, no_body, a_body, type_params, balanced_none, balanced_token, balanced_parens, balanced_brackets, balanced_braces, decl_const, group_const, decl_var, group_var, decl_type, group_type, no_declared, last_declared, one_declared, constants, constants_are, variables_typed, variables_are, untyped, typed, no_values, some_values, type_spec, alias_spec, generic_spec, generic_alias, last_name, one_name, no_result, results, result, no_params, params, named_params, last_param, one_param, variadic_param, last_named, one_named, lone_named, variadic_named, type_name, qualified_type, type_parens, pointer_type, only_pointer, array_type, slice_type, map_type, chan_type, send_type, receive_type, func_type, struct_type, interface_type, formed_type, no_field, last_field, one_field, named_field, embedded_field, embedded_pointer, embedded_name, embedded_qualified, no_tag, a_tag, no_element, last_element, one_element, method, embedded_type, unary_level, binary, unary, primary, operand, literal, name_use, parens, func_literal, composite, open_composite, bare_composite, conversion, selector, index, slice_all, slice_from, slice_to, slice_between, slice_to_max, slice_between_max, assertion, call_none, call, spread_call, last_expr, one_expr, either_expr, either_type, last_either, one_either, no_elems, elems, last_item, one_item, item, keyed_item, value_expr, value_elems, block, no_stmt, last_stmt, one_stmt, empty_stmt, decl_stmt, simple_stmt, labeled, labeled_empty, go_stmt, defer_stmt, return_none, return_values, break_stmt, continue_stmt, goto_stmt, fallthrough_stmt, block_stmt, if_stmt, no_label, a_label, expr_stmt, send, increment, decrement, assign, op_assign, define, no_init, empty_init, an_init, if_, no_else, else_if, else_block, switch, type_switch, no_tag_expr, tag_expr, guard, named_guard, no_case, one_case, case, default_case, select, no_comm, one_comm, send_comm, assign_comm, define_comm, receive_comm, default_comm, while_loop, for_loop, for_empty, no_condition, a_condition, empty_post, a_post, range_loop, assign_range, define_range}
use Rattle.argot_parse_reader.specs.StatementReader.{begins_clause}
use Rattle.argot_parse_reader.proofs.Exact.Tokens.{begins_operand, begins_expr, begins_only, begins_value, begins_entry, begins_field, begins_stmt, begins_decl, begins_top, begins_spec, by_kind, by_mark, by_word, by_test}

literal_operand : (o : Option TokenKind) → is_literal o ≡ true → begins_operand o ≡ true
literal_operand (Some kinds.Whole) h = refl
literal_operand (Some kinds.Float) h = refl
literal_operand (Some kinds.Imaginary) h = refl
literal_operand (Some kinds.Rune) h = refl
literal_operand (Some kinds.Chars) h = refl
literal_operand (Some kinds.RawChars) h = refl
literal_operand _ h = absurd (false≢true h)

text_spec : (o : Option TokenKind) → is_text o ≡ true → begins_spec o ≡ true
text_spec (Some kinds.Chars) h = refl
text_spec (Some kinds.RawChars) h = refl
text_spec _ h = absurd (false≢true h)

pub conversion_operand : (o : Option TokenKind) → begins_conversion o ≡ true → begins_operand o ≡ true
conversion_operand (Some (kinds.Mark marks.OpenBracket)) h = refl
conversion_operand (Some (kinds.Word words.Map)) h = refl
conversion_operand (Some (kinds.Word words.Chan)) h = refl
conversion_operand (Some (kinds.Word words.Func)) h = refl
conversion_operand (Some (kinds.Word words.Struct)) h = refl
conversion_operand (Some (kinds.Word words.Interface)) h = refl
conversion_operand _ h = absurd (false≢true h)

pub composite_conversion : (o : Option TokenKind) → begins_composite o ≡ true → begins_conversion o ≡ true
composite_conversion (Some (kinds.Mark marks.OpenBracket)) h = refl
composite_conversion (Some (kinds.Word words.Map)) h = refl
composite_conversion (Some (kinds.Word words.Struct)) h = refl
composite_conversion _ h = absurd (false≢true h)

pub operand_expr : (o : Option TokenKind) → begins_operand o ≡ true → begins_expr o ≡ true
operand_expr (Some (kinds.Mark marks.Plus)) h = refl
operand_expr (Some (kinds.Mark marks.Minus)) h = refl
operand_expr (Some (kinds.Mark marks.Not)) h = refl
operand_expr (Some (kinds.Mark marks.Xor)) h = refl
operand_expr (Some (kinds.Mark marks.Star)) h = refl
operand_expr (Some (kinds.Mark marks.And)) h = refl
operand_expr (Some (kinds.Mark marks.Arrow)) h = refl
operand_expr _ h = h

pub only_expr : (o : Option TokenKind) → begins_only o ≡ true → begins_expr o ≡ true
only_expr (Some (kinds.Mark marks.Star)) h = refl
only_expr (Some (kinds.Mark marks.Arrow)) h = refl
only_expr (Some (kinds.Mark marks.OpenBracket)) h = refl
only_expr (Some (kinds.Word words.Map)) h = refl
only_expr (Some (kinds.Word words.Chan)) h = refl
only_expr (Some (kinds.Word words.Func)) h = refl
only_expr (Some (kinds.Word words.Struct)) h = refl
only_expr (Some (kinds.Word words.Interface)) h = refl
only_expr _ h = absurd (false≢true h)

pub only_type : (o : Option TokenKind) → begins_only o ≡ true → begins_type o ≡ true
only_type (Some (kinds.Mark marks.Star)) h = refl
only_type (Some (kinds.Mark marks.Arrow)) h = refl
only_type (Some (kinds.Mark marks.OpenBracket)) h = refl
only_type (Some (kinds.Word words.Map)) h = refl
only_type (Some (kinds.Word words.Chan)) h = refl
only_type (Some (kinds.Word words.Func)) h = refl
only_type (Some (kinds.Word words.Struct)) h = refl
only_type (Some (kinds.Word words.Interface)) h = refl
only_type _ h = absurd (false≢true h)

expr_value : (o : Option TokenKind) → begins_expr o ≡ true → begins_value o ≡ true
expr_value (Some (kinds.Mark marks.OpenBrace)) h = refl
expr_value _ h = h

type_entry : (o : Option TokenKind) → begins_type o ≡ true → begins_entry o ≡ true
type_entry (Some (kinds.Mark marks.Ellipsis)) h = refl
type_entry _ h = h

expr_stmt' : (o : Option TokenKind) → begins_expr o ≡ true → begins_stmt o ≡ true
expr_stmt' (Some (kinds.Word words.Const)) h = refl
expr_stmt' (Some (kinds.Word words.Var)) h = refl
expr_stmt' (Some (kinds.Word words.TypeWord)) h = refl
expr_stmt' (Some (kinds.Word words.Go)) h = refl
expr_stmt' (Some (kinds.Word words.Defer)) h = refl
expr_stmt' (Some (kinds.Word words.Return)) h = refl
expr_stmt' (Some (kinds.Word words.Break)) h = refl
expr_stmt' (Some (kinds.Word words.Continue)) h = refl
expr_stmt' (Some (kinds.Word words.Goto)) h = refl
expr_stmt' (Some (kinds.Word words.Fallthrough)) h = refl
expr_stmt' (Some (kinds.Word words.If)) h = refl
expr_stmt' (Some (kinds.Word words.Switch)) h = refl
expr_stmt' (Some (kinds.Word words.Select)) h = refl
expr_stmt' (Some (kinds.Word words.For)) h = refl
expr_stmt' (Some (kinds.Mark marks.OpenBrace)) h = refl
expr_stmt' _ h = h

decl_stmt' : (o : Option TokenKind) → begins_decl o ≡ true → begins_stmt o ≡ true
decl_stmt' (Some (kinds.Word words.Const)) h = refl
decl_stmt' (Some (kinds.Word words.Var)) h = refl
decl_stmt' (Some (kinds.Word words.TypeWord)) h = refl
decl_stmt' _ h = absurd (false≢true h)

decl_top : (o : Option TokenKind) → begins_decl o ≡ true → begins_top o ≡ true
decl_top (Some (kinds.Word words.Func)) h = refl
decl_top _ h = h

unary_expr : (o : Option TokenKind) (kind : NodeKind) → unary_of o ≡ Some kind → begins_expr o ≡ true
unary_expr (Some (kinds.Mark marks.Plus)) kind h = refl
unary_expr (Some (kinds.Mark marks.Minus)) kind h = refl
unary_expr (Some (kinds.Mark marks.Not)) kind h = refl
unary_expr (Some (kinds.Mark marks.Xor)) kind h = refl
unary_expr (Some (kinds.Mark marks.Star)) kind h = refl
unary_expr (Some (kinds.Mark marks.And)) kind h = refl
unary_expr (Some (kinds.Mark marks.Arrow)) kind h = refl
unary_expr _ kind h = absurd (false≢true (ap is_some h))
  where
    is_some : Option NodeKind → Bool
    is_some None = false
    is_some (Some kind) = true

module _ (tokens : List Token) where
  abbrev pub Starts : Part → ℕ → Type 0
  Starts File at = Unit {0}
  Starts Imports at = Unit {0}
  Starts Import at = HasWord tokens at words.Import
  Starts Specs at = Unit {0}
  Starts Spec at = Passes tokens begins_spec at
  Starts Tops at = Unit {0}
  Starts Top at = Passes tokens begins_top at
  Starts Receiver at = HasMark tokens at marks.OpenParen
  Starts MaybeReceiver at = Unit {0}
  Starts MaybeTypeParams at = Unit {0}
  Starts MaybeBody at = Unit {0}
  Starts Decl at = Passes tokens begins_decl at
  Starts (Declared sort) at = HasAt tokens at kinds.Name
  Starts (DeclaredList sort) at = Unit {0}
  Starts MaybeTyped at = Unit {0}
  Starts MaybeValues at = Unit {0}
  Starts TypeParams at = HasMark tokens at marks.OpenBracket
  Starts Balanced at = Unit {0}
  Starts Names at = HasAt tokens at kinds.Name
  Starts Signature at = HasMark tokens at marks.OpenParen
  Starts (Params dots) at = HasMark tokens at marks.OpenParen
  Starts (Types dots) at = Passes tokens begins_entry at
  Starts (NamedList dots) at = HasAt tokens at kinds.Name
  Starts AnyType at = Passes tokens begins_type at
  Starts OnlyType at = Passes tokens begins_only at
  Starts Fields at = Unit {0}
  Starts Field at = Passes tokens begins_field at
  Starts Embedded at = HasAt tokens at kinds.Name
  Starts MaybeTag at = Unit {0}
  Starts Elements at = Unit {0}
  Starts Element at = HasAt tokens at kinds.Name
  Starts (Level k bare) at = Passes tokens begins_expr at
  Starts (Unary bare) at = Passes tokens begins_expr at
  Starts (Primary bare) at = Passes tokens begins_operand at
  Starts (Operand bare) at = Passes tokens begins_operand at
  Starts (Exprs bare) at = Passes tokens begins_expr at
  Starts Either at = Passes tokens begins_expr at
  Starts Eithers at = Passes tokens begins_expr at
  Starts Elems at = HasMark tokens at marks.OpenBrace
  Starts Items at = Passes tokens begins_value at
  Starts Item at = Passes tokens begins_value at
  Starts Value at = Passes tokens begins_value at
  Starts Block at = HasMark tokens at marks.OpenBrace
  Starts Stmts at = Unit {0}
  Starts Stmt at = Passes tokens begins_stmt at
  Starts (Simple bare) at = Passes tokens begins_expr at
  Starts MaybeLabel at = Unit {0}
  Starts MaybeInit at = Unit {0}
  Starts If at = HasWord tokens at words.If
  Starts MaybeElse at = Unit {0}
  Starts MaybeSwitched at = Unit {0}
  Starts TypeGuard at = Passes tokens begins_expr at
  Starts Cases at = Unit {0}
  Starts Case at = Passes tokens begins_clause at
  Starts Comms at = Unit {0}
  Starts Comm at = Passes tokens begins_clause at
  Starts MaybeCondition at = Unit {0}
  Starts MaybePost at = Unit {0}

  pub starts : {p : Part} {x : Forest} {from to : ℕ} → Spells tokens p x from to → Starts p from
  starts (file h i j s t) = tt
  starts no_import = tt
  starts (one_import s h t) = tt
  starts (import_one h s) = h
  starts (import_group h i s j) = h
  starts no_spec = tt
  starts (last_spec s h) = tt
  starts (one_spec s h t) = tt
  starts (spec h) = by_test begins_spec text_spec h
  starts (dot_spec h i) = by_mark begins_spec (h) refl
  starts (named_spec h i) = by_kind begins_spec (h) refl
  starts no_top = tt
  starts (one_top s h t) = tt
  starts (top_decl s) = by_test begins_top decl_top (starts s)
  starts (top_func h s i t u v) = by_word begins_top (h) refl
  starts no_receiver = tt
  starts (a_receiver s) = tt
  starts (receiver_type h s c i) = h
  starts (receiver_named h i s c j) = h
  starts no_type_params = tt
  starts (some_type_params s) = tt
  starts no_body = tt
  starts (a_body s) = tt
  starts (type_params h i s j) = h
  starts balanced_none = tt
  starts (balanced_token h s) = tt
  starts (balanced_parens h s i t) = tt
  starts (balanced_brackets h s i t) = tt
  starts (balanced_braces h s i t) = tt
  starts (decl_const h s) = by_word begins_decl (h) refl
  starts (group_const h i s j) = by_word begins_decl (h) refl
  starts (decl_var h s) = by_word begins_decl (h) refl
  starts (group_var h i s j) = by_word begins_decl (h) refl
  starts (decl_type h s) = by_word begins_decl (h) refl
  starts (group_type h i s j) = by_word begins_decl (h) refl
  starts no_declared = tt
  starts (last_declared s h) = tt
  starts (one_declared s h t) = tt
  starts (constants s) = starts s
  starts (constants_are s t h u) = starts s
  starts (variables_typed s t u) = starts s
  starts (variables_are s h t) = starts s
  starts untyped = tt
  starts (typed s) = tt
  starts no_values = tt
  starts (some_values h s) = tt
  starts (type_spec h s) = h
  starts (alias_spec h i s) = h
  starts (generic_spec h i s t) = h
  starts (generic_alias h i s j t) = h
  starts (last_name h) = h
  starts (one_name h i s) = h
  starts (no_result s h) = starts s
  starts (results s t) = starts s
  starts (result s h t) = starts s
  starts (no_params h i) = h
  starts (params h s c i) = h
  starts (named_params h s c i) = h
  starts (last_param s) = by_test begins_entry type_entry (starts s)
  starts (one_param s h t) = by_test begins_entry type_entry (starts s)
  starts (variadic_param h s) = by_mark begins_entry (h) refl
  starts (last_named h s) = h
  starts (one_named h s i t) = h
  starts (lone_named h i s) = h
  starts (variadic_named h i s) = h
  starts (type_name h) = by_kind begins_type (h) refl
  starts (qualified_type h i j) = by_kind begins_type (h) refl
  starts (type_parens h s i) = by_mark begins_type (h) refl
  starts (pointer_type h s) = by_mark begins_type (h) refl
  starts (only_pointer h s) = by_mark begins_only (h) refl
  starts (array_type h s i t) = by_mark begins_only (h) refl
  starts (slice_type h i s) = by_mark begins_only (h) refl
  starts (map_type h i s j t) = by_word begins_only (h) refl
  starts (chan_type h i s) = by_word begins_only (h) refl
  starts (send_type h i s) = by_word begins_only (h) refl
  starts (receive_type h i s) = by_mark begins_only (h) refl
  starts (func_type h s) = by_word begins_only (h) refl
  starts (struct_type h i s j) = by_word begins_only (h) refl
  starts (interface_type h i s j) = by_word begins_only (h) refl
  starts (formed_type h s) = by_test begins_type only_type (starts s)
  starts no_field = tt
  starts (last_field s h) = tt
  starts (one_field s h t) = tt
  starts (named_field s t u) = by_kind begins_field (starts s) refl
  starts (embedded_field s t) = by_kind begins_field (starts s) refl
  starts (embedded_pointer h s t) = by_mark begins_field (h) refl
  starts (embedded_name h) = h
  starts (embedded_qualified h i j) = h
  starts no_tag = tt
  starts (a_tag h) = tt
  starts no_element = tt
  starts (last_element s h) = tt
  starts (one_element s h t) = tt
  starts (method h s) = h
  starts (embedded_type s) = starts s
  starts (unary_level s) = starts s
  starts (binary h i s t) = starts s
  starts (unary h s) = record { there = unary_expr _ _ h.there }
  starts (primary s) = by_test begins_expr operand_expr (starts s)
  starts (operand s) = starts s
  starts (literal h) = by_test begins_operand literal_operand h
  starts (name_use h) = by_kind begins_operand (h) refl
  starts (parens h s i) = by_mark begins_operand (h) refl
  starts (func_literal h s t) = by_word begins_operand (h) refl
  starts (composite h s t) = by_test begins_operand (λ o e. conversion_operand o (composite_conversion o e)) h
  starts (open_composite h i j s t) = by_mark begins_operand (h) refl
  starts (bare_composite s t) = by_kind begins_operand (starts s) refl
  starts (conversion h s i t c j) = by_test begins_operand conversion_operand h
  starts (selector s h i) = starts s
  starts (index s h t i) = starts s
  starts (slice_all s h i j) = starts s
  starts (slice_from s h t i j) = starts s
  starts (slice_to s h i t j) = starts s
  starts (slice_between s h t i u j) = starts s
  starts (slice_to_max s h i t j u k) = starts s
  starts (slice_between_max s h t i u j v k) = starts s
  starts (assertion s h i t j) = starts s
  starts (call_none s h i) = starts s
  starts (call s h t c i) = starts s
  starts (spread_call s h t i c j) = starts s
  starts (last_expr s) = starts s
  starts (one_expr s h t) = starts s
  starts (either_expr s) = starts s
  starts (either_type s) = by_test begins_expr only_expr (starts s)
  starts (last_either s) = starts s
  starts (one_either s h t) = starts s
  starts (no_elems h i) = h
  starts (elems h s c i) = h
  starts (last_item s) = starts s
  starts (one_item s h t) = starts s
  starts (item s) = starts s
  starts (keyed_item s h t) = starts s
  starts (value_expr s) = by_test begins_value expr_value (starts s)
  starts (value_elems s) = by_mark begins_value (starts s) refl
  starts (block h s i) = h
  starts no_stmt = tt
  starts (last_stmt s h) = tt
  starts (one_stmt s h t) = tt
  starts (empty_stmt h s) = tt
  starts (decl_stmt s) = by_test begins_stmt decl_stmt' (starts s)
  starts (simple_stmt s) = by_test begins_stmt expr_stmt' (starts s)
  starts (labeled h i s) = by_kind begins_stmt (h) refl
  starts (labeled_empty h i) = by_kind begins_stmt (h) refl
  starts (go_stmt h s) = by_word begins_stmt (h) refl
  starts (defer_stmt h s) = by_word begins_stmt (h) refl
  starts (return_none h) = by_word begins_stmt (h) refl
  starts (return_values h s) = by_word begins_stmt (h) refl
  starts (break_stmt h s) = by_word begins_stmt (h) refl
  starts (continue_stmt h s) = by_word begins_stmt (h) refl
  starts (goto_stmt h i) = by_word begins_stmt (h) refl
  starts (fallthrough_stmt h) = by_word begins_stmt (h) refl
  starts (block_stmt s) = by_mark begins_stmt (starts s) refl
  starts (if_stmt s) = by_word begins_stmt (starts s) refl
  starts no_label = tt
  starts (a_label h) = tt
  starts (expr_stmt s) = starts s
  starts (send s h t) = starts s
  starts (increment s h) = starts s
  starts (decrement s h) = starts s
  starts (assign s h t) = starts s
  starts (op_assign s h t) = starts s
  starts (define s h t) = by_kind begins_expr (starts s) refl
  starts no_init = tt
  starts (empty_init h) = tt
  starts (an_init s h) = tt
  starts (if_ h s t u v) = h
  starts no_else = tt
  starts (else_if h s) = tt
  starts (else_block h s) = tt
  starts (switch h s t i u j) = by_word begins_stmt (h) refl
  starts (type_switch h s t i u j) = by_word begins_stmt (h) refl
  starts no_tag_expr = tt
  starts (tag_expr s) = tt
  starts (guard s h i j k) = by_test begins_expr operand_expr (starts s)
  starts (named_guard h i s j k l m) = by_kind begins_expr (h) refl
  starts no_case = tt
  starts (one_case s t) = tt
  starts (case h s i t) = by_word begins_clause (h) refl
  starts (default_case h i s) = by_word begins_clause (h) refl
  starts (select h i s j) = by_word begins_stmt (h) refl
  starts no_comm = tt
  starts (one_comm s t) = tt
  starts (send_comm h s i t j u) = by_word begins_clause (h) refl
  starts (assign_comm h s i t j u) = by_word begins_clause (h) refl
  starts (define_comm h s i t j u) = by_word begins_clause (h) refl
  starts (receive_comm h s i t) = by_word begins_clause (h) refl
  starts (default_comm h i s) = by_word begins_clause (h) refl
  starts (while_loop h s t) = by_word begins_stmt (h) refl
  starts (for_loop h s i t j u v) = by_word begins_stmt (h) refl
  starts (for_empty h i s j t u) = by_word begins_stmt (h) refl
  starts no_condition = tt
  starts (a_condition s) = tt
  starts empty_post = tt
  starts (a_post s) = tt
  starts (range_loop h i s t) = by_word begins_stmt (h) refl
  starts (assign_range h s i j t u) = by_word begins_stmt (h) refl
  starts (define_range h s i j t u) = by_word begins_stmt (h) refl
