use Rattle.std.proofs.Common.{◌≡◌, ◌*◌, ◌+◌, ◌-◌, ◌≤◌, length, take, reverse, []}
use Rattle.argot_tree.specs.Grammar.{Cases, Comms, DeclaredList, Eithers, Elements, Fields, Items, NamedList, Stmts, Types}
use Rattle.argot_parse_reader.specs.Reading.{The, Climb, Suffixes, MoreExprs, Ifs, Labels}
use Rattle.argot_parse_reader.specs.StatementReader.{label_by}
use Rattle.argot_parse_reader.specs.Reader.{read}
use Rattle.argot_parse_tokens.specs.Rows.{row_by}
use Rattle.argot_grammar.specs.Sorts.{sort_of}
use Rattle.argot_grammar.proofs.+reading.Given as goal

abbrev pub decreases-elements::elems : goal.decreases-elements::elems
decreases-elements::elems l = 32 * l.fuel

abbrev pub decreases-elements::item : goal.decreases-elements::item
decreases-elements::item l = 32 * l.fuel

abbrev pub decreases-elements::value : goal.decreases-elements::value
decreases-elements::value l = 32 * l.fuel

abbrev pub decreases-expressions::either : goal.decreases-expressions::either
decreases-expressions::either l = 32 * l.fuel

abbrev pub decreases-expressions::expressions : goal.decreases-expressions::expressions
decreases-expressions::expressions l = 32 * l.fuel

abbrev pub decreases-expressions::level : goal.decreases-expressions::level
decreases-expressions::level l = 32 * l.fuel

abbrev pub decreases-expressions::primary : goal.decreases-expressions::primary
decreases-expressions::primary l = 32 * l.fuel

abbrev pub decreases-expressions::unary : goal.decreases-expressions::unary
decreases-expressions::unary l = 32 * l.fuel

abbrev pub decreases-fields::element : goal.decreases-fields::element
decreases-fields::element l = 32 * l.fuel

abbrev pub decreases-fields::field : goal.decreases-fields::field
decreases-fields::field l = 32 * l.fuel

abbrev pub decreases-operands::operand : goal.decreases-operands::operand
decreases-operands::operand l = 32 * l.fuel

abbrev pub decreases-signatures::params : goal.decreases-signatures::params
decreases-signatures::params l = 32 * l.fuel

abbrev pub decreases-signatures::signature : goal.decreases-signatures::signature
decreases-signatures::signature l = 32 * l.fuel

abbrev pub decreases-types::any_type : goal.decreases-types::any_type
decreases-types::any_type l = 32 * l.fuel

abbrev pub decreases-types::row_type : goal.decreases-types::row_type
decreases-types::row_type l = 32 * l.begun.fuel - 1

abbrev pub decreases-types::turn : goal.decreases-types::turn
decreases-types::turn l = 32 * l.row.now.fuel - 2

abbrev pub decreases-types::formed_turn : goal.decreases-types::formed_turn
decreases-types::formed_turn l = 32 * l.row.now.fuel - 1

abbrev pub decreases-types::formed : goal.decreases-types::formed
decreases-types::formed l = 32 * l.fuel + 2

abbrev pub decreases-types::bracketed : goal.decreases-types::bracketed
decreases-types::bracketed l = 32 * l.fuel + 1

abbrev pub decreases-types::map_front : goal.decreases-types::map_front
decreases-types::map_front l = 32 * l.fuel + 1

abbrev pub decreases-types::func_front : goal.decreases-types::func_front
decreases-types::func_front l = 32 * l.fuel + 1

abbrev pub decreases-types::only_type : goal.decreases-types::only_type
decreases-types::only_type l = 32 * l.fuel

abbrev pub decreases-blocks::block : goal.decreases-blocks::block
decreases-blocks::block l = 32 * l.fuel

abbrev pub decreases-statements::stmt : goal.decreases-statements::stmt
decreases-statements::stmt l = 32 * l.fuel

abbrev pub decreases-statements::simple : goal.decreases-statements::simple
decreases-statements::simple l = 32 * l.fuel

abbrev pub decreases-switches::case : goal.decreases-switches::case
decreases-switches::case l = 32 * l.fuel

abbrev pub decreases-loops::comm : goal.decreases-loops::comm
decreases-loops::comm l = 32 * l.fuel

abbrev pub decreases-loops::maybe_condition : goal.decreases-loops::maybe_condition
decreases-loops::maybe_condition l = 32 * l.fuel

abbrev pub decreases-loops::maybe_post : goal.decreases-loops::maybe_post
decreases-loops::maybe_post l = 32 * l.fuel

abbrev pub decreases-declarations::decl : goal.decreases-declarations::decl
decreases-declarations::decl l = 32 * l.fuel

abbrev pub decreases-declarations::declared : goal.decreases-declarations::declared
decreases-declarations::declared l = 32 * l.fuel

abbrev pub decreases-declarations::maybe_values : goal.decreases-declarations::maybe_values
decreases-declarations::maybe_values l = 32 * l.fuel

abbrev pub decreases-declarations::maybe_typed : goal.decreases-declarations::maybe_typed
decreases-declarations::maybe_typed l = 32 * l.fuel

abbrev pub decreases-blocks::labelled : goal.decreases-blocks::labelled
decreases-blocks::labelled l = 32 * l.steps + 1

abbrev pub decreases-signatures::after_params : goal.decreases-signatures::after_params
decreases-signatures::after_params l = 32 * l.fuel + 1

abbrev pub decreases-signatures::listed_params : goal.decreases-signatures::listed_params
decreases-signatures::listed_params l = 32 * l.fuel + 1

abbrev pub decreases-fields::named_field : goal.decreases-fields::named_field
decreases-fields::named_field l = 32 * l.fuel + 1

abbrev pub decreases-operands::func_operand : goal.decreases-operands::func_operand
decreases-operands::func_operand l = 32 * l.fuel + 4

abbrev pub decreases-operands::behind_signature : goal.decreases-operands::behind_signature
decreases-operands::behind_signature l = 32 * l.fuel + 3

abbrev pub decreases-operands::converted : goal.decreases-operands::converted
decreases-operands::converted l = 32 * l.fuel + 2

abbrev pub decreases-operands::type_operand : goal.decreases-operands::type_operand
decreases-operands::type_operand l = 32 * l.fuel + 4

abbrev pub decreases-operands::behind_type : goal.decreases-operands::behind_type
decreases-operands::behind_type l = 32 * l.fuel + 3

abbrev pub decreases-operands::name_operand : goal.decreases-operands::name_operand
decreases-operands::name_operand l = 32 * l.fuel + 1

abbrev pub decreases-operands::parens : goal.decreases-operands::parens
decreases-operands::parens l = 32 * l.fuel + 1

abbrev pub decreases-operands::open_array : goal.decreases-operands::open_array
decreases-operands::open_array l = 32 * l.fuel + 1

abbrev pub decreases-suffixes::suffix : goal.decreases-suffixes::suffix
decreases-suffixes::suffix l = 32 * l.fuel + 6

abbrev pub decreases-suffixes::dot : goal.decreases-suffixes::dot
decreases-suffixes::dot l = 32 * l.fuel + 1

abbrev pub decreases-suffixes::bracket : goal.decreases-suffixes::bracket
decreases-suffixes::bracket l = 32 * l.fuel + 4

abbrev pub decreases-suffixes::behind_first : goal.decreases-suffixes::behind_first
decreases-suffixes::behind_first l = 32 * l.fuel + 3

abbrev pub decreases-suffixes::from_start : goal.decreases-suffixes::from_start
decreases-suffixes::from_start l = 32 * l.fuel + 3

abbrev pub decreases-suffixes::second : goal.decreases-suffixes::second
decreases-suffixes::second l = 32 * l.fuel + 2

abbrev pub decreases-suffixes::third : goal.decreases-suffixes::third
decreases-suffixes::third l = 32 * l.fuel + 1

abbrev pub decreases-suffixes::call : goal.decreases-suffixes::call
decreases-suffixes::call l = 32 * l.fuel + 1

abbrev pub decreases-types::interface_type : goal.decreases-types::interface_type
decreases-types::interface_type l = 32 * l.fuel + 1

abbrev pub decreases-types::struct_type : goal.decreases-types::struct_type
decreases-types::struct_type l = 32 * l.fuel + 1

abbrev pub decreases-types::type_parens : goal.decreases-types::type_parens
decreases-types::type_parens l = 32 * l.fuel + 1

abbrev pub decreases-statements::name_stmt : goal.decreases-statements::name_stmt
decreases-statements::name_stmt l = 32 * l.fuel + 5

abbrev pub decreases-statements::word_stmt : goal.decreases-statements::word_stmt
decreases-statements::word_stmt l = 32 * l.fuel + 12

abbrev pub decreases-statements::decl_stmt : goal.decreases-statements::decl_stmt
decreases-statements::decl_stmt l = 32 * l.fuel + 1

abbrev pub decreases-statements::keyword_stmt : goal.decreases-statements::keyword_stmt
decreases-statements::keyword_stmt l = 32 * l.fuel + 1

abbrev pub decreases-statements::return_stmt : goal.decreases-statements::return_stmt
decreases-statements::return_stmt l = 32 * l.fuel + 1

abbrev pub decreases-statements::expressions_node : goal.decreases-statements::expressions_node
decreases-statements::expressions_node l = 32 * l.fuel + 1

abbrev pub decreases-statements::more_expressions_behind : goal.decreases-statements::more_expressions_behind
decreases-statements::more_expressions_behind l = 32 * l.fuel + 1

abbrev pub decreases-statements::assigned : goal.decreases-statements::assigned
decreases-statements::assigned l = 32 * l.fuel + 2

abbrev pub decreases-statements::assign : goal.decreases-statements::assign
decreases-statements::assign l = 32 * l.fuel + 3

abbrev pub decreases-statements::simple_behind : goal.decreases-statements::simple_behind
decreases-statements::simple_behind l = 32 * l.fuel + 4

abbrev pub decreases-statements::define : goal.decreases-statements::define
decreases-statements::define l = 32 * l.fuel + 2

abbrev pub decreases-heads::listed : goal.decreases-heads::listed
decreases-heads::listed l = 32 * l.fuel + 4

abbrev pub decreases-heads::opened : goal.decreases-heads::opened
decreases-heads::opened l = 32 * l.fuel + 5

abbrev pub decreases-heads::opening : goal.decreases-heads::opening
decreases-heads::opening l = 32 * l.fuel + 6

abbrev pub decreases-heads::condition_behind : goal.decreases-heads::condition_behind
decreases-heads::condition_behind l = 32 * l.fuel + 1

abbrev pub decreases-heads::condition : goal.decreases-heads::condition
decreases-heads::condition l = 32 * l.fuel + 7

abbrev pub decreases-switches::switched : goal.decreases-switches::switched
decreases-switches::switched l = 32 * l.fuel + 1

abbrev pub decreases-switches::tagged : goal.decreases-switches::tagged
decreases-switches::tagged l = 32 * l.fuel + 2

abbrev pub decreases-switches::named_guard : goal.decreases-switches::named_guard
decreases-switches::named_guard l = 32 * l.fuel + 2

abbrev pub decreases-switches::switch_tag : goal.decreases-switches::switch_tag
decreases-switches::switch_tag l = 32 * l.fuel + 3

abbrev pub decreases-switches::after_init : goal.decreases-switches::after_init
decreases-switches::after_init l = 32 * l.fuel + 4

abbrev pub decreases-switches::defined : goal.decreases-switches::defined
decreases-switches::defined l = 32 * l.fuel + 5

abbrev pub decreases-switches::opened_switch : goal.decreases-switches::opened_switch
decreases-switches::opened_switch l = 32 * l.fuel + 5

abbrev pub decreases-switches::switch_stmt : goal.decreases-switches::switch_stmt
decreases-switches::switch_stmt l = 32 * l.fuel + 9

abbrev pub decreases-switches::switch_head : goal.decreases-switches::switch_head
decreases-switches::switch_head l = 32 * l.fuel + 8

abbrev pub decreases-switches::clause : goal.decreases-switches::clause
decreases-switches::clause l = 32 * l.fuel + 1

abbrev pub decreases-loops::select_stmt : goal.decreases-loops::select_stmt
decreases-loops::select_stmt l = 32 * l.fuel + 1

abbrev pub decreases-loops::received : goal.decreases-loops::received
decreases-loops::received l = 32 * l.fuel + 2

abbrev pub decreases-loops::comm_behind : goal.decreases-loops::comm_behind
decreases-loops::comm_behind l = 32 * l.fuel + 3

abbrev pub decreases-loops::loop_body : goal.decreases-loops::loop_body
decreases-loops::loop_body l = 32 * l.fuel + 1

abbrev pub decreases-loops::for_parts : goal.decreases-loops::for_parts
decreases-loops::for_parts l = 32 * l.fuel + 2

abbrev pub decreases-loops::range : goal.decreases-loops::range
decreases-loops::range l = 32 * l.fuel + 2

abbrev pub decreases-loops::looped : goal.decreases-loops::looped
decreases-loops::looped l = 32 * l.fuel + 3

abbrev pub decreases-loops::for_stmt : goal.decreases-loops::for_stmt
decreases-loops::for_stmt l = 32 * l.fuel + 8

abbrev pub decreases-declarations::sorted : goal.decreases-declarations::sorted
decreases-declarations::sorted l = 32 * l.fuel + 1

abbrev pub decreases-declarations::values : goal.decreases-declarations::values
decreases-declarations::values l = 32 * l.fuel + 1

abbrev pub decreases-declarations::typed_values : goal.decreases-declarations::typed_values
decreases-declarations::typed_values l = 32 * l.fuel + 2

abbrev pub decreases-declarations::constants : goal.decreases-declarations::constants
decreases-declarations::constants l = 32 * l.fuel + 3

abbrev pub decreases-declarations::variables : goal.decreases-declarations::variables
decreases-declarations::variables l = 32 * l.fuel + 3

abbrev pub decreases-declarations::type_spec : goal.decreases-declarations::type_spec
decreases-declarations::type_spec l = 32 * l.fuel + 2

abbrev pub decreases-declarations::named_type : goal.decreases-declarations::named_type
decreases-declarations::named_type l = 32 * l.fuel + 1

abbrev pub decreases-elements::items : goal.decreases-elements::items
decreases-elements::items l = 32 * l.steps

abbrev pub decreases-expressions::eithers : goal.decreases-expressions::eithers
decreases-expressions::eithers l = 32 * l.steps

abbrev pub decreases-fields::elements : goal.decreases-fields::elements
decreases-fields::elements l = 32 * l.steps

abbrev pub decreases-fields::fields : goal.decreases-fields::fields
decreases-fields::fields l = 32 * l.steps

abbrev pub decreases-signatures::named_params : goal.decreases-signatures::named_params
decreases-signatures::named_params l = 32 * l.steps

abbrev pub decreases-signatures::types : goal.decreases-signatures::types
decreases-signatures::types l = 32 * l.steps

abbrev pub decreases-blocks::stmts : goal.decreases-blocks::stmts
decreases-blocks::stmts l = 32 * l.steps

abbrev pub decreases-switches::cases : goal.decreases-switches::cases
decreases-switches::cases l = 32 * l.steps

abbrev pub decreases-loops::comms : goal.decreases-loops::comms
decreases-loops::comms l = 32 * l.steps

abbrev pub decreases-declarations::declared_list : goal.decreases-declarations::declared_list
decreases-declarations::declared_list l = 32 * l.steps

abbrev pub decreases-heads::ifs : goal.decreases-heads::ifs
decreases-heads::ifs l = 32 * l.steps

abbrev pub decreases-expressions::climb : goal.decreases-expressions::climb
decreases-expressions::climb l = 32 * l.steps

abbrev pub decreases-expressions::more_expressions : goal.decreases-expressions::more_expressions
decreases-expressions::more_expressions l = 32 * l.steps

abbrev pub decreases-suffixes::suffixes : goal.decreases-suffixes::suffixes
decreases-suffixes::suffixes l = 32 * l.steps

abbrev pub invariant-types::row_type-loop-row : goal.invariant-types::row_type-loop-row
invariant-types::row_type-loop-row l = record {
  reads : row_by l.tokens l.row l.out.posts.items ≡ row_by l.tokens l.fn.begun l.fn.out.posts.items;
  kept : take l.mark l.out.posts.items ≡ take l.mark l.fn.out.posts.items;
  within : l.mark ≤ length l.out.posts.items;
  fewer : l.row.fuel ≤ l.fn.begun.fuel;
}

abbrev pub decreases-types::row_type-loop-row : goal.decreases-types::row_type-loop-row
decreases-types::row_type-loop-row l = l.row.fuel

abbrev pub invariant-elements::items-loop-fuel : goal.invariant-elements::items-loop-fuel
invariant-elements::items-loop-fuel l = record {
  reads : read l.tokens l.fuel (The Items) l.at l.out.posts.items ≡ read l.tokens l.steps (The Items) l.first l.fn.out.posts.items;
  kept : take l.mark l.out.posts.items ≡ l.fn.out.posts.items;
  fewer : l.fuel ≤ l.steps;
}

abbrev pub decreases-elements::items-loop-fuel : goal.decreases-elements::items-loop-fuel
decreases-elements::items-loop-fuel l = l.fuel

abbrev pub invariant-expressions::eithers-loop-fuel : goal.invariant-expressions::eithers-loop-fuel
invariant-expressions::eithers-loop-fuel l = record {
  reads : read l.tokens l.fuel (The Eithers) l.at l.out.posts.items ≡ read l.tokens l.steps (The Eithers) l.first l.fn.out.posts.items;
  kept : take l.mark l.out.posts.items ≡ l.fn.out.posts.items;
  fewer : l.fuel ≤ l.steps;
}

abbrev pub decreases-expressions::eithers-loop-fuel : goal.decreases-expressions::eithers-loop-fuel
decreases-expressions::eithers-loop-fuel l = l.fuel

abbrev pub invariant-fields::elements-loop-fuel : goal.invariant-fields::elements-loop-fuel
invariant-fields::elements-loop-fuel l = record {
  reads : read l.tokens l.fuel (The Elements) l.at l.out.posts.items ≡ read l.tokens l.steps (The Elements) l.first l.fn.out.posts.items;
  kept : take l.mark l.out.posts.items ≡ l.fn.out.posts.items;
  fewer : l.fuel ≤ l.steps;
}

abbrev pub decreases-fields::elements-loop-fuel : goal.decreases-fields::elements-loop-fuel
decreases-fields::elements-loop-fuel l = l.fuel

abbrev pub invariant-fields::fields-loop-fuel : goal.invariant-fields::fields-loop-fuel
invariant-fields::fields-loop-fuel l = record {
  reads : read l.tokens l.fuel (The Fields) l.at l.out.posts.items ≡ read l.tokens l.steps (The Fields) l.first l.fn.out.posts.items;
  kept : take l.mark l.out.posts.items ≡ l.fn.out.posts.items;
  fewer : l.fuel ≤ l.steps;
}

abbrev pub decreases-fields::fields-loop-fuel : goal.decreases-fields::fields-loop-fuel
decreases-fields::fields-loop-fuel l = l.fuel

abbrev pub invariant-signatures::named_params-loop-fuel : goal.invariant-signatures::named_params-loop-fuel
invariant-signatures::named_params-loop-fuel l = record {
  reads : read l.tokens l.fuel (The (NamedList l.dots)) l.at l.out.posts.items ≡ read l.tokens l.steps (The (NamedList l.dots)) l.first l.fn.out.posts.items;
  kept : take l.mark l.out.posts.items ≡ l.fn.out.posts.items;
  fewer : l.fuel ≤ l.steps;
}

abbrev pub decreases-signatures::named_params-loop-fuel : goal.decreases-signatures::named_params-loop-fuel
decreases-signatures::named_params-loop-fuel l = l.fuel

abbrev pub invariant-signatures::types-loop-fuel : goal.invariant-signatures::types-loop-fuel
invariant-signatures::types-loop-fuel l = record {
  reads : read l.tokens l.fuel (The (Types l.dots)) l.at l.out.posts.items ≡ read l.tokens l.steps (The (Types l.dots)) l.first l.fn.out.posts.items;
  kept : take l.mark l.out.posts.items ≡ l.fn.out.posts.items;
  fewer : l.fuel ≤ l.steps;
}

abbrev pub decreases-signatures::types-loop-fuel : goal.decreases-signatures::types-loop-fuel
decreases-signatures::types-loop-fuel l = l.fuel

abbrev pub invariant-blocks::stmts-loop-fuel : goal.invariant-blocks::stmts-loop-fuel
invariant-blocks::stmts-loop-fuel l = record {
  reads : read l.tokens l.fuel (The Stmts) l.at l.out.posts.items ≡ read l.tokens l.steps (The Stmts) l.first l.fn.out.posts.items;
  kept : take l.mark l.out.posts.items ≡ l.fn.out.posts.items;
  fewer : l.fuel ≤ l.steps;
}

abbrev pub decreases-blocks::stmts-loop-fuel : goal.decreases-blocks::stmts-loop-fuel
decreases-blocks::stmts-loop-fuel l = l.fuel

abbrev pub invariant-switches::cases-loop-fuel : goal.invariant-switches::cases-loop-fuel
invariant-switches::cases-loop-fuel l = record {
  reads : read l.tokens l.fuel (The Cases) l.at l.out.posts.items ≡ read l.tokens l.steps (The Cases) l.first l.fn.out.posts.items;
  kept : take l.mark l.out.posts.items ≡ l.fn.out.posts.items;
  fewer : l.fuel ≤ l.steps;
}

abbrev pub decreases-switches::cases-loop-fuel : goal.decreases-switches::cases-loop-fuel
decreases-switches::cases-loop-fuel l = l.fuel

abbrev pub invariant-loops::comms-loop-fuel : goal.invariant-loops::comms-loop-fuel
invariant-loops::comms-loop-fuel l = record {
  reads : read l.tokens l.fuel (The Comms) l.at l.out.posts.items ≡ read l.tokens l.steps (The Comms) l.first l.fn.out.posts.items;
  kept : take l.mark l.out.posts.items ≡ l.fn.out.posts.items;
  fewer : l.fuel ≤ l.steps;
}

abbrev pub decreases-loops::comms-loop-fuel : goal.decreases-loops::comms-loop-fuel
decreases-loops::comms-loop-fuel l = l.fuel

abbrev pub invariant-declarations::declared_list-loop-fuel : goal.invariant-declarations::declared_list-loop-fuel
invariant-declarations::declared_list-loop-fuel l = record {
  reads : read l.tokens l.fuel (The (DeclaredList (sort_of l.sort))) l.at l.out.posts.items ≡ read l.tokens l.steps (The (DeclaredList (sort_of l.sort))) l.first l.fn.out.posts.items;
  kept : take l.mark l.out.posts.items ≡ l.fn.out.posts.items;
  fewer : l.fuel ≤ l.steps;
}

abbrev pub decreases-declarations::declared_list-loop-fuel : goal.decreases-declarations::declared_list-loop-fuel
decreases-declarations::declared_list-loop-fuel l = l.fuel

abbrev pub invariant-heads::ifs-loop-fuel : goal.invariant-heads::ifs-loop-fuel
invariant-heads::ifs-loop-fuel l = record {
  reads : read l.tokens l.fuel (Ifs (reverse l.begun.items)) l.at l.out.posts.items ≡ read l.tokens l.steps (Ifs []) l.first l.fn.out.posts.items;
  kept : take l.mark l.out.posts.items ≡ l.fn.out.posts.items;
  fewer : l.fuel ≤ l.steps;
}

abbrev pub decreases-heads::ifs-loop-fuel : goal.decreases-heads::ifs-loop-fuel
decreases-heads::ifs-loop-fuel l = l.fuel

abbrev pub invariant-blocks::labelled-loop-fuel : goal.invariant-blocks::labelled-loop-fuel
invariant-blocks::labelled-loop-fuel l = record {
  reads : read l.tokens l.fuel (Labels (reverse l.begun.items)) l.at l.out.posts.items ≡ label_by l.tokens (read l.tokens l.steps) [] l.first l.fn.out.posts.items;
  kept : take l.mark l.out.posts.items ≡ l.fn.out.posts.items;
  fewer : l.fuel ≤ l.steps;
}

abbrev pub decreases-blocks::labelled-loop-fuel : goal.decreases-blocks::labelled-loop-fuel
decreases-blocks::labelled-loop-fuel l = l.fuel

abbrev pub invariant-expressions::climb-loop-fuel : goal.invariant-expressions::climb-loop-fuel
invariant-expressions::climb-loop-fuel l = record {
  reads : read l.tokens l.fuel (Climb l.lowest l.limit l.bare l.from l.mark) l.at l.out.posts.items ≡ read l.tokens l.steps (Climb l.lowest 9 l.bare l.from l.mark) l.behind l.fn.out.posts.items;
  fewer : l.fuel ≤ l.steps;
}

abbrev pub decreases-expressions::climb-loop-fuel : goal.decreases-expressions::climb-loop-fuel
decreases-expressions::climb-loop-fuel l = l.fuel

abbrev pub invariant-suffixes::suffixes-loop-fuel : goal.invariant-suffixes::suffixes-loop-fuel
invariant-suffixes::suffixes-loop-fuel l = record {
  reads : read l.tokens l.fuel (Suffixes l.from l.mark) l.at l.out.posts.items ≡ read l.tokens l.steps (Suffixes l.from l.mark) l.behind l.fn.out.posts.items;
  fewer : l.fuel ≤ l.steps;
}

abbrev pub decreases-suffixes::suffixes-loop-fuel : goal.decreases-suffixes::suffixes-loop-fuel
decreases-suffixes::suffixes-loop-fuel l = l.fuel

abbrev pub invariant-expressions::more_expressions-loop-fuel : goal.invariant-expressions::more_expressions-loop-fuel
invariant-expressions::more_expressions-loop-fuel l = record {
  reads : read l.tokens l.fuel (MoreExprs l.bare) l.at l.out.posts.items ≡ read l.tokens l.steps (MoreExprs l.bare) l.behind l.fn.out.posts.items;
  fewer : l.fuel ≤ l.steps;
}

abbrev pub decreases-expressions::more_expressions-loop-fuel : goal.decreases-expressions::more_expressions-loop-fuel
decreases-expressions::more_expressions-loop-fuel l = l.fuel
