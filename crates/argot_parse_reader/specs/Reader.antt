-- Reading from left to right, computed, in at most so many steps, one inside another.
use Rattle.std.specs.Prelude.{ℕ, zero, suc, List, [], false, Some, None}
use Rattle.argot_tree.specs.declared.token.Token.{Token}
use Rattle.argot_tree.specs.TokensAt.{kind_at}
use Rattle.argot_tree.specs.Grammar.{Part, File, Imports, Import, Specs, Spec, Tops, Top, Receiver, MaybeReceiver, MaybeTypeParams, MaybeBody, Decl, Declared, DeclaredList, MaybeTyped, MaybeValues, TypeParams, Balanced, Names, Signature, Params, Types, NamedList, AnyType, OnlyType, Fields, Field, Embedded, MaybeTag, Elements, Element, Level, Unary, Primary, Operand, Exprs, Either, Eithers, Elems, Items, Item, Value, Block, Stmts, Stmt, Simple, MaybeLabel, MaybeInit, If, MaybeElse, MaybeSwitched, TypeGuard, Cases, Case, Comms, Comm, MaybeCondition, MaybePost}
use Rattle.argot_parse_reader.specs.declared.post.Post.{Post}
use Rattle.argot_parse_reader.specs.Reading.{The, UnaryOr, PrimaryOr, OperandOr, Climb, Suffixes, MoreExprs, Ifs, Labels, Answer, Reader}
use Rattle.argot_parse_reader.specs.TypeReader.{type_by, formed_by, signature_by, params_by, types_by, named_list_by, names_by, embedded_by, tag_by, field_by, fields_by, element_by, elements_by}
use Rattle.argot_parse_reader.specs.ExpressionReader.{level_by, either_by, climb_by, unary_by, primary_by, operand_by, suffixes_by, exprs_by, more_exprs_by, eithers_by, elems_by, items_by, item_by, value_by}
use Rattle.argot_parse_reader.specs.StatementReader.{block_by, stmts_by, stmt_by, labels_by, simple_by, maybe_label_by, ifs_by, cases_by, case_by, comms_by, comm_by, maybe_condition_by, maybe_post_by}
use Rattle.argot_parse_reader.specs.DeclarationReader.{maybe_values_by, maybe_typed_by, declared_by, declared_list_by, decl_by}
use Rattle.argot_parse_reader.specs.FileReader.{file_by, imports_by, import_by, specs_by, spec_by, tops_by, top_by, maybe_receiver_by, receiver_by, maybe_type_params_by, type_params_by, balanced_by, maybe_body_by}

module _ (tokens : List Token) where
  -- a part; some of `Spells` are read with the part around them
  abbrev pub part_by : Reader → Part → ℕ → List Post → Answer
  part_by rec File at out = file_by tokens rec at out
  part_by rec Imports at out = imports_by tokens rec at out
  part_by rec Import at out = import_by tokens rec at out
  part_by rec Specs at out = specs_by tokens rec at out
  part_by rec Spec at out = spec_by tokens at out
  part_by rec Tops at out = tops_by tokens rec at out
  part_by rec Top at out = top_by tokens rec at out
  part_by rec Receiver at out = receiver_by tokens rec at out
  part_by rec MaybeReceiver at out = maybe_receiver_by tokens rec at out
  part_by rec MaybeTypeParams at out = maybe_type_params_by tokens rec at out
  part_by rec MaybeBody at out = maybe_body_by tokens rec at out
  part_by rec Decl at out = decl_by tokens rec at out
  part_by rec (Declared sort) at out = declared_by tokens rec sort at out
  part_by rec (DeclaredList sort) at out = declared_list_by tokens rec sort at out
  part_by rec MaybeTyped at out = maybe_typed_by tokens rec at out
  part_by rec MaybeValues at out = maybe_values_by tokens rec at out
  part_by rec TypeParams at out = type_params_by tokens rec at out
  part_by rec Balanced at out = balanced_by tokens rec at out
  part_by rec Names at out = names_by tokens rec at out
  part_by rec Signature at out = signature_by tokens rec at out
  part_by rec (Params dots) at out = params_by tokens rec dots at out
  part_by rec (Types dots) at out = types_by tokens rec dots at out
  part_by rec (NamedList dots) at out = named_list_by tokens rec dots at out
  part_by rec AnyType at out = type_by tokens rec at out
  part_by rec OnlyType at out = formed_by tokens rec at out
  part_by rec Fields at out = fields_by tokens rec at out
  part_by rec Field at out = field_by tokens rec at out
  part_by rec Embedded at out = embedded_by tokens at out
  part_by rec MaybeTag at out = tag_by tokens at out
  part_by rec Elements at out = elements_by tokens rec at out
  part_by rec Element at out = element_by tokens rec at out
  part_by rec (Level k bare) at out = level_by tokens rec k bare at out
  part_by rec (Unary bare) at out = unary_by tokens rec false bare at out
  part_by rec (Primary bare) at out = primary_by tokens rec false bare at out
  part_by rec (Operand bare) at out = operand_by tokens rec false bare at out
  part_by rec (Exprs bare) at out = exprs_by tokens rec bare at out
  part_by rec Either at out = either_by tokens rec at out
  part_by rec Eithers at out = eithers_by tokens rec at out
  part_by rec Elems at out = elems_by tokens rec at out
  part_by rec Items at out = items_by tokens rec at out
  part_by rec Item at out = item_by tokens rec at out
  part_by rec Value at out = value_by tokens rec at out
  part_by rec Block at out = block_by tokens rec at out
  part_by rec Stmts at out = stmts_by tokens rec at out
  part_by rec Stmt at out = stmt_by tokens rec (kind_at tokens at) at out
  part_by rec (Simple bare) at out = simple_by tokens rec bare at out
  part_by rec MaybeLabel at out = maybe_label_by tokens at out
  part_by rec MaybeInit at out = None
  part_by rec If at out = ifs_by tokens rec [] at out
  part_by rec MaybeElse at out = None
  part_by rec MaybeSwitched at out = None
  part_by rec TypeGuard at out = None
  part_by rec Cases at out = cases_by tokens rec at out
  part_by rec Case at out = case_by tokens rec at out
  part_by rec Comms at out = comms_by tokens rec at out
  part_by rec Comm at out = comm_by tokens rec at out
  part_by rec MaybeCondition at out = maybe_condition_by tokens rec at out
  part_by rec MaybePost at out = maybe_post_by tokens rec at out

  -- one step of reading
  abbrev pub step : Reader → Reader
  step rec (The part) at out = part_by rec part at out
  step rec (UnaryOr types bare) at out = unary_by tokens rec types bare at out
  step rec (PrimaryOr types bare) at out = primary_by tokens rec types bare at out
  step rec (OperandOr types bare) at out = operand_by tokens rec types bare at out
  step rec (Climb k limit bare from mark) at out = climb_by tokens rec k limit bare from mark at out
  step rec (Suffixes from mark) at out = suffixes_by tokens rec from mark at out
  step rec (MoreExprs bare) at out = more_exprs_by tokens rec bare at out
  step rec (Ifs begun) at out = ifs_by tokens rec begun at out
  step rec (Labels begun) at out = labels_by tokens rec begun at out

  -- where the steps run out, a loop that may end anywhere stays, and a part is not there
  abbrev pub over : Reader
  over (Climb k limit bare from mark) at out = Some (at, out)
  over (Suffixes from mark) at out = Some (at, out)
  over (MoreExprs bare) at out = Some (at, out)
  over _ at out = None

  unfoldable pub read : ℕ → Reader
  read zero = over
  read (suc n) = step (read n)
