-- What is read is put behind what was there.
use Rattle.std.proofs.Common.{◌≡◌, ℕ, zero, suc, ◌≤◌, List, [], length, take, Bool, false, Some, None, refl, ap, ◌∙◌, arith, length-append}
use Rattle.std.proofs.lemmas.List.{take_at, take_all}
use Rattle.argot_tree.specs.declared.token.Token.{Token}
use Rattle.argot_tree.specs.TokensAt.{kind_at}
use Rattle.argot_tree.specs.Grammar.{File, Imports, Import, Specs, Spec, Tops, Top, Receiver, MaybeReceiver, MaybeTypeParams, MaybeBody, TypeParams, Balanced, Decl, Declared, DeclaredList, MaybeTyped, MaybeValues, Names, Signature, Params, Types, NamedList, AnyType, OnlyType, Fields, Field, Embedded, MaybeTag, Elements, Element, Level, Unary, Primary, Operand, Exprs, Either, Eithers, Elems, Items, Item, Value, Block, Stmts, Stmt, Simple, MaybeLabel, Cases, Case, Comms, Comm, MaybeCondition, MaybePost, If, MaybeInit, MaybeElse, MaybeSwitched, TypeGuard, Part}
use Rattle.argot_parse_reader.specs.declared.post.Post.{Post}
use Rattle.argot_parse_reader.specs.Reading.{Task, The, UnaryOr, PrimaryOr, OperandOr, Climb, Suffixes, MoreExprs, Ifs, Labels, Answer, Reader}
use Rattle.argot_parse_reader.specs.TypeReader.{named_type_by, embedded_by, tag_by, result_by}
use Rattle.argot_parse_reader.specs.ExpressionReader.{suffix_by}
use Rattle.argot_parse_reader.specs.StatementReader.{more_by, opening_by, condition_by, assign_by, simple_behind_by}
use Rattle.argot_parse_reader.specs.FileReader.{in_brackets_by}
use Rattle.argot_parse_reader.specs.Reader.{part_by, step, read}
use Rattle.argot_parse_reader.proofs.Growing.{AlwaysGrows, Grows, same}
use Rattle.argot_parse_reader.proofs.GrowingFiles.{file_grows, imports_grows, import_grows, specs_grows, spec_grows, tops_grows, top_grows, receiver_grows, maybe_receiver_grows, maybe_type_params_grows, maybe_body_grows, type_params_grows, balanced_grows, in_brackets_grows}
use Rattle.argot_parse_reader.proofs.GrowingDeclarations.{decl_grows, declared_grows, declared_list_grows, maybe_typed_grows, maybe_values_grows}
use Rattle.argot_parse_reader.proofs.GrowingTypes.{named_grows, result_grows, names_grows, signature_grows, params_grows, types_grows, named_list_grows, type_grows, formed_grows, fields_grows, field_grows, embedded_grows, tag_grows, elements_grows, element_grows}
use Rattle.argot_parse_reader.proofs.GrowingExpressions.{level_grows, unary_grows, primary_grows, operand_grows, exprs_grows, either_grows, eithers_grows, elems_grows, items_grows, item_grows, value_grows, climb_grows, suffix_grows, suffixes_grows, more_exprs_grows}
use Rattle.argot_parse_reader.proofs.GrowingStatements.{more_grows, opening_grows, condition_grows, assign_grows, simple_behind_grows, block_grows, stmts_grows, stmt_grows, simple_grows, maybe_label_grows, cases_grows, case_grows, comms_grows, comm_grows, maybe_condition_grows, maybe_post_grows, ifs_grows, labels_grows}

module _ (tokens : List Token) where
  module _ (rec : Reader) (g : AlwaysGrows rec) where
    part_grows : (part : Part) (at : ℕ) (out : List Post) → Grows out (part_by tokens rec part at out)
    part_grows File at out = file_grows tokens rec g at out
    part_grows Imports at out = imports_grows tokens rec g at out
    part_grows Import at out = import_grows tokens rec g at out
    part_grows Specs at out = specs_grows tokens rec g at out
    part_grows Spec at out = spec_grows tokens rec g at out
    part_grows Tops at out = tops_grows tokens rec g at out
    part_grows Top at out = top_grows tokens rec g at out
    part_grows Receiver at out = receiver_grows tokens rec g at out
    part_grows MaybeReceiver at out = maybe_receiver_grows tokens rec g at out
    part_grows MaybeTypeParams at out = maybe_type_params_grows tokens rec g at out
    part_grows MaybeBody at out = maybe_body_grows tokens rec g at out
    part_grows TypeParams at out = type_params_grows tokens rec g at out
    part_grows Balanced at out = balanced_grows tokens rec g at out
    part_grows Decl at out = decl_grows tokens rec g at out
    part_grows (Declared sort) at out = declared_grows tokens rec g at out sort
    part_grows (DeclaredList sort) at out = declared_list_grows tokens rec g at out sort
    part_grows MaybeTyped at out = maybe_typed_grows tokens rec g at out
    part_grows MaybeValues at out = maybe_values_grows tokens rec g at out
    part_grows Names at out = names_grows tokens rec g at out
    part_grows Signature at out = signature_grows tokens rec g at out
    part_grows (Params dots) at out = params_grows tokens rec g at out dots
    part_grows (Types dots) at out = types_grows tokens rec g at out dots
    part_grows (NamedList dots) at out = named_list_grows tokens rec g at out dots
    part_grows AnyType at out = type_grows tokens rec g at out
    part_grows OnlyType at out = formed_grows tokens rec g at out
    part_grows Fields at out = fields_grows tokens rec g at out
    part_grows Field at out = field_grows tokens rec g at out
    part_grows Embedded at out = embedded_grows tokens rec g at out
    part_grows MaybeTag at out = tag_grows tokens rec g at out
    part_grows Elements at out = elements_grows tokens rec g at out
    part_grows Element at out = element_grows tokens rec g at out
    part_grows (Level k bare) at out = level_grows tokens rec g at out k bare
    part_grows (Unary bare) at out = unary_grows tokens rec g at out false bare
    part_grows (Primary bare) at out = primary_grows tokens rec g at out false bare
    part_grows (Operand bare) at out = operand_grows tokens rec g at out false bare
    part_grows (Exprs bare) at out = exprs_grows tokens rec g at out bare
    part_grows Either at out = either_grows tokens rec g at out
    part_grows Eithers at out = eithers_grows tokens rec g at out
    part_grows Elems at out = elems_grows tokens rec g at out
    part_grows Items at out = items_grows tokens rec g at out
    part_grows Item at out = item_grows tokens rec g at out
    part_grows Value at out = value_grows tokens rec g at out
    part_grows Block at out = block_grows tokens rec g at out
    part_grows Stmts at out = stmts_grows tokens rec g at out
    part_grows Stmt at out = stmt_grows tokens rec g at out (kind_at tokens at)
    part_grows (Simple bare) at out = simple_grows tokens rec g at out bare
    part_grows MaybeLabel at out = maybe_label_grows tokens rec g at out
    part_grows Cases at out = cases_grows tokens rec g at out
    part_grows Case at out = case_grows tokens rec g at out
    part_grows Comms at out = comms_grows tokens rec g at out
    part_grows Comm at out = comm_grows tokens rec g at out
    part_grows MaybeCondition at out = maybe_condition_grows tokens rec g at out
    part_grows MaybePost at out = maybe_post_grows tokens rec g at out
    part_grows If at out = ifs_grows tokens rec g at out []
    part_grows MaybeInit at out = tt
    part_grows MaybeElse at out = tt
    part_grows MaybeSwitched at out = tt
    part_grows TypeGuard at out = tt

    step_grows : (task : Task) (at : ℕ) (out : List Post) → Grows out (step tokens rec task at out)
    step_grows (The part) at out = part_grows part at out
    step_grows (UnaryOr types bare) at out = unary_grows tokens rec g at out types bare
    step_grows (PrimaryOr types bare) at out = primary_grows tokens rec g at out types bare
    step_grows (OperandOr types bare) at out = operand_grows tokens rec g at out types bare
    step_grows (Climb k limit bare from mark) at out = climb_grows tokens rec g at out k limit bare from mark
    step_grows (Suffixes from mark) at out = suffixes_grows tokens rec g at out from mark
    step_grows (MoreExprs bare) at out = more_exprs_grows tokens rec g at out bare
    step_grows (Ifs begun) at out = ifs_grows tokens rec g at out begun
    step_grows (Labels begun) at out = labels_grows tokens rec g at out begun

  grows_in : (n : ℕ) (task : Task) (at : ℕ) (out : List Post) → Grows out (read tokens n task at out)
  unfolding read
  grows_in zero (Climb k limit bare from mark) at out = same out
  grows_in zero (Suffixes from mark) at out = same out
  grows_in zero (MoreExprs bare) at out = same out
  grows_in zero _ at out = tt
  grows_in (suc n) task at out = step_grows (read tokens n) (record { always = grows_in n }) task at out

  pub grows : (n : ℕ) → AlwaysGrows (read tokens n)
  grows n = record { always = grows_in n }

-- the nodes after an answer
abbrev pub nodes_of : Answer → List Post → List Post
nodes_of None out = out
nodes_of (Some r) out = r.1

pub after : (out : List Post) (a : Answer) → Grows out a → (take (length out) (nodes_of a out) ≡ out) × (length out ≤ length (nodes_of a out))
after out None g = (take_all (length out) out (omega arith), omega arith)
after out (Some r) g = (ap (take (length out)) g.is ∙ take_at out g.more (length out) refl, omega (arith, ap length g.is, length-append out g.more))

-- the old nodes are the front of the new ones; the first part shows `grind` the call
pub kept : (tokens : List Token) (n : ℕ) (task : Task) (at : ℕ) (out : List Post) → (read tokens n task at out ≡ read tokens n task at out) × (take (length out) (nodes_of (read tokens n task at out) out) ≡ out) × (length out ≤ length (nodes_of (read tokens n task at out) out))
kept tokens n task at out = let a = after out (read tokens n task at out) (grows_in tokens n task at out) in (refl, a.0, a.1)

pub kept_suffix : (tokens : List Token) (n from mark at : ℕ) (out : List Post) → (suffix_by tokens (read tokens n) from mark at out ≡ suffix_by tokens (read tokens n) from mark at out) × (take (length out) (nodes_of (suffix_by tokens (read tokens n) from mark at out) out) ≡ out) × (length out ≤ length (nodes_of (suffix_by tokens (read tokens n) from mark at out) out))
kept_suffix tokens n from mark at out =
    let a = after out (suffix_by tokens (read tokens n) from mark at out) (suffix_grows tokens (read tokens n) (grows tokens n) at out from mark) in (refl, a.0, a.1)

pub kept_named : (tokens : List Token) (at : ℕ) (out : List Post) → (named_type_by tokens at out ≡ named_type_by tokens at out) × (take (length out) (nodes_of (named_type_by tokens at out) out) ≡ out) × (length out ≤ length (nodes_of (named_type_by tokens at out) out))
kept_named tokens at out =
    let a = after out (named_type_by tokens at out) (named_grows tokens (read tokens 0) (grows tokens 0) at out) in (refl, a.0, a.1)

pub kept_embedded : (tokens : List Token) (at : ℕ) (out : List Post) → (embedded_by tokens at out ≡ embedded_by tokens at out) × (take (length out) (nodes_of (embedded_by tokens at out) out) ≡ out) × (length out ≤ length (nodes_of (embedded_by tokens at out) out))
kept_embedded tokens at out =
    let a = after out (embedded_by tokens at out) (embedded_grows tokens (read tokens 0) (grows tokens 0) at out) in (refl, a.0, a.1)

pub kept_tag : (tokens : List Token) (at : ℕ) (out : List Post) → (tag_by tokens at out ≡ tag_by tokens at out) × (take (length out) (nodes_of (tag_by tokens at out) out) ≡ out) × (length out ≤ length (nodes_of (tag_by tokens at out) out))
kept_tag tokens at out =
    let a = after out (tag_by tokens at out) (tag_grows tokens (read tokens 0) (grows tokens 0) at out) in (refl, a.0, a.1)

pub kept_result : (tokens : List Token) (n at : ℕ) (out : List Post) → (result_by tokens (read tokens n) (at, out) ≡ result_by tokens (read tokens n) (at, out)) × (take (length out) (nodes_of (result_by tokens (read tokens n) (at, out)) out) ≡ out) × (length out ≤ length (nodes_of (result_by tokens (read tokens n) (at, out)) out))
kept_result tokens n at out =
    let a = after out (result_by tokens (read tokens n) (at, out)) (result_grows tokens (read tokens n) (grows tokens n) at out) in (refl, a.0, a.1)

pub kept_brackets : (tokens : List Token) (n at : ℕ) (out : List Post) → (in_brackets_by tokens (read tokens n) at out ≡ in_brackets_by tokens (read tokens n) at out) × (take (length out) (nodes_of (in_brackets_by tokens (read tokens n) at out) out) ≡ out) × (length out ≤ length (nodes_of (in_brackets_by tokens (read tokens n) at out) out))
kept_brackets tokens n at out =
    let a = after out (in_brackets_by tokens (read tokens n) at out) (in_brackets_grows tokens (read tokens n) (grows tokens n) at out) in (refl, a.0, a.1)

pub kept_more : (tokens : List Token) (n : ℕ) (bare : Bool) (at : ℕ) (out : List Post) → (more_by tokens (read tokens n) bare (at, out) ≡ more_by tokens (read tokens n) bare (at, out)) × (take (length out) (nodes_of (more_by tokens (read tokens n) bare (at, out)) out) ≡ out) × (length out ≤ length (nodes_of (more_by tokens (read tokens n) bare (at, out)) out))
kept_more tokens n bare at out =
    let a = after out (more_by tokens (read tokens n) bare (at, out)) (more_grows tokens (read tokens n) (grows tokens n) at out bare) in (refl, a.0, a.1)

pub kept_opening : (tokens : List Token) (n : ℕ) (at : ℕ) (out : List Post) → (opening_by tokens (read tokens n) at out ≡ opening_by tokens (read tokens n) at out) × (take (length out) (nodes_of (opening_by tokens (read tokens n) at out) out) ≡ out) × (length out ≤ length (nodes_of (opening_by tokens (read tokens n) at out) out))
kept_opening tokens n at out =
    let a = after out (opening_by tokens (read tokens n) at out) (opening_grows tokens (read tokens n) (grows tokens n) at out) in (refl, a.0, a.1)

pub kept_condition : (tokens : List Token) (n : ℕ) (at : ℕ) (out : List Post) → (condition_by tokens (read tokens n) at out ≡ condition_by tokens (read tokens n) at out) × (take (length out) (nodes_of (condition_by tokens (read tokens n) at out) out) ≡ out) × (length out ≤ length (nodes_of (condition_by tokens (read tokens n) at out) out))
kept_condition tokens n at out =
    let a = after out (condition_by tokens (read tokens n) at out) (condition_grows tokens (read tokens n) (grows tokens n) at out) in (refl, a.0, a.1)

pub kept_assign : (tokens : List Token) (n : ℕ) (bare : Bool) (from mark : ℕ) (at : ℕ) (out : List Post) → (assign_by tokens (read tokens n) bare from mark (at, out) ≡ assign_by tokens (read tokens n) bare from mark (at, out)) × (take (length out) (nodes_of (assign_by tokens (read tokens n) bare from mark (at, out)) out) ≡ out) × (length out ≤ length (nodes_of (assign_by tokens (read tokens n) bare from mark (at, out)) out))
kept_assign tokens n bare from mark at out =
    let a = after out (assign_by tokens (read tokens n) bare from mark (at, out)) (assign_grows tokens (read tokens n) (grows tokens n) at out bare from mark) in (refl, a.0, a.1)

pub kept_simple : (tokens : List Token) (n : ℕ) (bare : Bool) (from mark : ℕ) (at : ℕ) (out : List Post) → (simple_behind_by tokens (read tokens n) bare from mark (at, out) ≡ simple_behind_by tokens (read tokens n) bare from mark (at, out)) × (take (length out) (nodes_of (simple_behind_by tokens (read tokens n) bare from mark (at, out)) out) ≡ out) × (length out ≤ length (nodes_of (simple_behind_by tokens (read tokens n) bare from mark (at, out)) out))
kept_simple tokens n bare from mark at out =
    let a = after out (simple_behind_by tokens (read tokens n) bare from mark (at, out)) (simple_behind_grows tokens (read tokens n) (grows tokens n) at out bare from mark) in (refl, a.0, a.1)
