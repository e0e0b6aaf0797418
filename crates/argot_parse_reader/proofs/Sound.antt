-- What is read is spelled: a clause for each part and for each loop.
use Rattle.std.proofs.Common.{ℕ, zero, suc, List, [], false, refl, subst}
use Rattle.argot_tree.specs.declared.token.Token.{Token}
use Rattle.argot_tree.specs.TokensAt.{kind_at}
use Rattle.argot_tree.specs.Grammar.{Part, File, Imports, Import, Specs, Spec, Tops, Top, Receiver, MaybeReceiver, MaybeTypeParams, MaybeBody, Decl, Declared, DeclaredList, MaybeTyped, MaybeValues, TypeParams, Balanced, Names, Signature, Params, Types, NamedList, AnyType, OnlyType, Fields, Field, Embedded, MaybeTag, Elements, Element, Level, Unary, Primary, Operand, Exprs, Either, Eithers, Elems, Items, Item, Value, Block, Stmts, Stmt, Simple, MaybeLabel, MaybeInit, If, MaybeElse, MaybeSwitched, TypeGuard, Cases, Case, Comms, Comm, MaybeCondition, MaybePost, last_expr}
use Rattle.argot_parse_reader.specs.declared.post.Post.{Post}
use Rattle.argot_parse_reader.specs.Reading.{Task, The, UnaryOr, PrimaryOr, OperandOr, Climb, Suffixes, MoreExprs, Ifs, Labels, Reader}
use Rattle.argot_parse_reader.specs.Reader.{part_by, step, over, read}
use Rattle.argot_parse_reader.specs.Laws.{ReadsSpelled}
use Rattle.argot_parse_reader.proofs.Holding.{Holds, IsHeld, none, given}
use Rattle.argot_parse_reader.proofs.SoundReads.{Has, Reads, IsSound}
use Rattle.argot_parse_reader.proofs.SoundTypes.{type_sound, formed_sound, signature_sound, params_sound, types_sound, named_list_sound, names_sound, embedded_sound, tag_sound, field_sound, fields_sound, element_sound, elements_sound}
use Rattle.argot_parse_reader.proofs.SoundExpressions.{level_sound, climb_sound, either_sound, unary_sound, primary_sound}
use Rattle.argot_parse_reader.proofs.SoundOperands.{operand_sound, suffixes_sound, exprs_sound, more_exprs_sound, eithers_sound, elems_sound, items_sound, item_sound, value_sound}
use Rattle.argot_parse_reader.proofs.SoundStatements.{block_sound, stmts_sound, labels_sound, maybe_label_sound, simple_sound}
use Rattle.argot_parse_reader.proofs.SoundHeads.{ifs_sound}
use Rattle.argot_parse_reader.proofs.SoundLoops.{maybe_condition_sound, maybe_post_sound}
use Rattle.argot_parse_reader.proofs.SoundClauses.{stmt_sound, cases_sound, case_sound, comms_sound, comm_sound}
use Rattle.argot_parse_reader.proofs.SoundDeclarations.{maybe_values_sound, maybe_typed_sound, declared_sound, declared_list_sound, decl_sound}
use Rattle.argot_parse_reader.proofs.SoundFiles.{file_sound, imports_sound, import_sound, specs_sound, spec_sound, tops_sound, top_sound, maybe_receiver_sound, receiver_sound, maybe_type_params_sound, type_params_sound, maybe_body_sound, balanced_sound}

part_sound : {tokens : List Token} {rec : Reader} → IsSound tokens rec → (p : Part) (at : ℕ) (out : List Post) → Holds (Has tokens p at out) (part_by tokens rec p at out)
part_sound g File at out = file_sound g at out
part_sound g Imports at out = imports_sound g at out
part_sound g Import at out = import_sound g at out
part_sound g Specs at out = specs_sound g at out
part_sound g Spec at out = spec_sound at out
part_sound g Tops at out = tops_sound g at out
part_sound g Top at out = top_sound g at out
part_sound g Receiver at out = receiver_sound g at out
part_sound g MaybeReceiver at out = maybe_receiver_sound g at out
part_sound g MaybeTypeParams at out = maybe_type_params_sound g at out
part_sound g MaybeBody at out = maybe_body_sound g at out
part_sound g Decl at out = decl_sound g at out
part_sound g (Declared sort) at out = declared_sound g sort at out
part_sound g (DeclaredList sort) at out = declared_list_sound g sort at out
part_sound g MaybeTyped at out = maybe_typed_sound g at out
part_sound g MaybeValues at out = maybe_values_sound g at out
part_sound g TypeParams at out = type_params_sound g at out
part_sound g Balanced at out = balanced_sound g at out
part_sound g Names at out = names_sound g at out
part_sound g Signature at out = signature_sound g at out
part_sound g (Params dots) at out = params_sound g dots at out
part_sound g (Types dots) at out = types_sound g dots at out
part_sound g (NamedList dots) at out = named_list_sound g dots at out
part_sound g AnyType at out = type_sound g at out
part_sound g OnlyType at out = formed_sound g at out
part_sound g Fields at out = fields_sound g at out
part_sound g Field at out = field_sound g at out
part_sound g Embedded at out = embedded_sound at out
part_sound g MaybeTag at out = tag_sound at out
part_sound g Elements at out = elements_sound g at out
part_sound g Element at out = element_sound g at out
part_sound g (Level k bare) at out = level_sound g k bare at out
part_sound g (Unary bare) at out = unary_sound g false bare at out
part_sound g (Primary bare) at out = primary_sound g false bare at out
part_sound g (Operand bare) at out = operand_sound g false bare at out
part_sound g (Exprs bare) at out = exprs_sound g bare at out
part_sound g Either at out = either_sound g at out
part_sound g Eithers at out = eithers_sound g at out
part_sound g Elems at out = elems_sound g at out
part_sound g Items at out = items_sound g at out
part_sound g Item at out = item_sound g at out
part_sound g Value at out = value_sound g at out
part_sound g Block at out = block_sound g at out
part_sound g Stmts at out = stmts_sound g at out
part_sound {tokens} g Stmt at out = stmt_sound g at out (kind_at tokens at) refl
part_sound g (Simple bare) at out = simple_sound g bare at out
part_sound g MaybeLabel at out = maybe_label_sound at out
part_sound g MaybeInit at out = none
part_sound g If at out = ifs_sound g [] at out
part_sound g MaybeElse at out = none
part_sound g MaybeSwitched at out = none
part_sound g TypeGuard at out = none
part_sound g Cases at out = cases_sound g at out
part_sound g Case at out = case_sound g at out
part_sound g Comms at out = comms_sound g at out
part_sound g Comm at out = comm_sound g at out
part_sound g MaybeCondition at out = maybe_condition_sound g at out
part_sound g MaybePost at out = maybe_post_sound g at out

step_sound : {tokens : List Token} {rec : Reader} → IsSound tokens rec → (task : Task) (at : ℕ) (out : List Post) → Holds (Reads tokens task at out) (step tokens rec task at out)
step_sound g (The p) at out = part_sound g p at out
step_sound g (UnaryOr types bare) at out = unary_sound g types bare at out
step_sound g (PrimaryOr types bare) at out = primary_sound g types bare at out
step_sound g (OperandOr types bare) at out = operand_sound g types bare at out
step_sound g (Climb k limit bare from mark) at out = climb_sound g k limit bare from mark at out
step_sound g (Suffixes from mark) at out = suffixes_sound g from mark at out
step_sound g (MoreExprs bare) at out = more_exprs_sound g bare at out
step_sound g (Ifs begun) at out = ifs_sound g begun at out
step_sound g (Labels begun) at out = labels_sound g begun at out

over_sound : (tokens : List Token) (task : Task) (at : ℕ) (out : List Post) → Holds (Reads tokens task at out) (over tokens task at out)
over_sound tokens (The p) at out = none
over_sound tokens (UnaryOr types bare) at out = none
over_sound tokens (PrimaryOr types bare) at out = none
over_sound tokens (OperandOr types bare) at out = none
over_sound tokens (Climb k limit bare from mark) at out = given (λ x base e m s t. (x, s, e))
over_sound tokens (Suffixes from mark) at out = given (λ h. (h.x, h.spelled, h.nodes))
over_sound tokens (MoreExprs bare) at out = given (λ x from base e s. (x, last_expr s, e))
over_sound tokens (Ifs begun) at out = none
over_sound tokens (Labels begun) at out = none

-- reading keeps its promises, in however many steps
pub sound : (tokens : List Token) (n : ℕ) → IsSound tokens (read tokens n)
unfolding read
sound tokens zero = record { kept = over_sound tokens }
sound tokens (suc n) = record { kept = step_sound (sound tokens n) }

pub reads_spelled : (tokens : List Token) → ReadsSpelled tokens
reads_spelled tokens n p at to out new e =
    subst (IsHeld (Has tokens p at out)) e ((sound tokens n).kept (The p) at out).held
