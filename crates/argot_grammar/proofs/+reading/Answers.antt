use Rattle.std.proofs.Common.{◌≡◌, ◌-◌, ◌+◌, ◌<◌, ◌≤◌, ◌∷◌, [], ◌++◌, length, reverse, take, Some, None, true, false, refl, sym, ap, ◌∙◌, arith}
use Rattle.std.proofs.lemmas.Grind.{common_steps}
use Rattle.argot_tree.specs.declared.keyword.Keyword.TheVariants as words
use Rattle.argot_tree.specs.declared.node_kind.NodeKind.TheVariants as nodes
use Rattle.argot_tree.specs.Grammar.{AnyType, OnlyType}
use Rattle.argot_parse_reader.specs.Reading.{The, UnaryOr, PrimaryOr, Ifs, Labels, ◌>>=◌, closing, closed_all, is_word}
use Rattle.argot_parse_reader.specs.TypeReader.{type_parens_by, formed_by}
use Rattle.argot_parse_reader.specs.StatementReader.{labels}
use Rattle.argot_parse_reader.specs.Reader.{read}
use Rattle.argot_parse_reader.proofs.Steps.{read_more, read_none}
use Rattle.argot_parse_reader.proofs.Grows.{kept, kept_more, kept_opening, kept_condition, kept_assign, kept_simple}
use Rattle.argot_parse_tokens.specs.Rows.{begun_at, unwound, row_by}
use Rattle.argot_parse_tokens.specs.Operators.{operates, stays, all_operated}
use Rattle.argot_parse_tokens.proofs.RowLaws.{unwound_on, unwound_off}
use Rattle.argot_parse_tokens.proofs.OperatorLaws.{operated_none}
use Rattle.argot_parse_tokens.proofs.UnaryLaws.{unary_reads, unary_over, none_behind}
use Rattle.argot_grammar.proofs.TypeLaws.{star_reads, parens_none, formed_reads, same_row}
use Rattle.argot_grammar.proofs.FrontLaws.{through}
use Rattle.argot_grammar.proofs.ChainLaws.{pushed, ifs_to, ifs_end, no_else, else_if, else_block, else_none, labels_to}
use Rattle.argot_grammar.proofs.+reading.Goals as goal

pub elements::items-loop-fuel-preserved : goal.elements::items-loop-fuel-preserved
elements::items-loop-fuel-preserved t c = record {
  reads = grind (arith, common_steps, read_more);
  kept = grind (arith, common_steps, kept);
  fewer = omega arith;
}

pub expressions::eithers-loop-fuel-preserved : goal.expressions::eithers-loop-fuel-preserved
expressions::eithers-loop-fuel-preserved t c = record {
  reads = grind (arith, common_steps, read_more);
  kept = grind (arith, common_steps, kept);
  fewer = omega arith;
}

pub fields::elements-loop-fuel-preserved : goal.fields::elements-loop-fuel-preserved
fields::elements-loop-fuel-preserved t c = record {
  reads = grind (arith, common_steps, read_more);
  kept = grind (arith, common_steps, kept);
  fewer = omega arith;
}

pub fields::fields-loop-fuel-preserved : goal.fields::fields-loop-fuel-preserved
fields::fields-loop-fuel-preserved t c = record {
  reads = grind (arith, common_steps, read_more);
  kept = grind (arith, common_steps, kept);
  fewer = omega arith;
}

pub signatures::types-loop-fuel-preserved : goal.signatures::types-loop-fuel-preserved
signatures::types-loop-fuel-preserved t c = record {
  reads = grind (arith, common_steps, read_more);
  kept = grind (arith, common_steps, kept);
  fewer = omega arith;
}

pub signatures::named_params-loop-fuel-preserved : goal.signatures::named_params-loop-fuel-preserved
signatures::named_params-loop-fuel-preserved t c = record {
  reads = grind (arith, common_steps, read_more);
  kept =
      let m = c.len-mark.result in
      let named = c.put.new.out.posts.items in
      let typed = c.any_type-in-loop-fuel.new.out.posts.items in
      let front : take m named ≡ c.args.out.now.posts.items = grind (arith, common_steps) in
      let shown : take m typed ≡ c.args.out.now.posts.items = through m c.args.out.now.posts.items named typed (grind (arith, common_steps)) (grind (arith, common_steps, kept)) front in
      through m c.args.out.now.posts.items typed c.close-in-loop-fuel.new.out.posts.items (grind (arith, common_steps, kept)) (grind (arith, common_steps)) shown;
  fewer = omega arith;
}

pub signatures::named_params-loop-fuel-preserved-then-is_mark : goal.signatures::named_params-loop-fuel-preserved-then-is_mark
signatures::named_params-loop-fuel-preserved-then-is_mark t c = record {
  reads = grind (arith, common_steps, read_more);
  kept = grind (arith, common_steps, kept);
  fewer = omega arith;
}

pub expressions::climb-loop-fuel-preserved : goal.expressions::climb-loop-fuel-preserved
expressions::climb-loop-fuel-preserved t c = record {
  reads = grind (arith, common_steps, read_more);
  fewer = omega arith;
}

pub fields::element-returns-in_default : goal.fields::element-returns-in_default
fields::element-returns-in_default t c = grind (arith, common_steps, read_more, kept)

pub fields::elements-returns-then-not-semicolon_at : goal.fields::elements-returns-then-not-semicolon_at
fields::elements-returns-then-not-semicolon_at t c = grind (arith, common_steps, read_more, kept)

pub fields::fields-returns-then-not-semicolon_at : goal.fields::fields-returns-then-not-semicolon_at
fields::fields-returns-then-not-semicolon_at t c = grind (arith, common_steps, read_more, kept)

pub fields::named_field-returns-in_default-2 : goal.fields::named_field-returns-in_default-2
fields::named_field-returns-in_default-2 t c = grind (arith, common_steps, kept)

pub operands::open_array-returns-in_default-2 : goal.operands::open_array-returns-in_default-2
operands::open_array-returns-in_default-2 t c = grind (arith, common_steps, kept)

pub signatures::named_params-returns-in_default : goal.signatures::named_params-returns-in_default
signatures::named_params-returns-in_default t c = grind (arith, common_steps, read_more, kept)

pub signatures::named_params-returns-in_default-2 : goal.signatures::named_params-returns-in_default-2
signatures::named_params-returns-in_default-2 t c = grind (arith, common_steps, read_more, kept)

pub blocks::stmts-loop-fuel-preserved : goal.blocks::stmts-loop-fuel-preserved
blocks::stmts-loop-fuel-preserved t c = record {
  reads = grind (arith, common_steps, read_more);
  kept = grind (arith, common_steps, kept);
  fewer = omega arith;
}

pub switches::cases-loop-fuel-preserved : goal.switches::cases-loop-fuel-preserved
switches::cases-loop-fuel-preserved t c = record {
  reads = grind (arith, common_steps, read_more);
  kept = grind (arith, common_steps, kept);
  fewer = omega arith;
}

pub loops::comms-loop-fuel-preserved : goal.loops::comms-loop-fuel-preserved
loops::comms-loop-fuel-preserved t c = record {
  reads = grind (arith, common_steps, read_more);
  kept = grind (arith, common_steps, kept);
  fewer = omega arith;
}

pub declarations::declared_list-loop-fuel-preserved : goal.declarations::declared_list-loop-fuel-preserved
declarations::declared_list-loop-fuel-preserved t c = record {
  reads = grind (arith, common_steps, read_more);
  kept = grind (arith, common_steps, kept);
  fewer = omega arith;
}

pub blocks::stmts-loop-fuel-preserved-then-semicolon_at : goal.blocks::stmts-loop-fuel-preserved-then-semicolon_at
blocks::stmts-loop-fuel-preserved-then-semicolon_at t c = record {
  reads = grind (arith, common_steps, read_more);
  kept = grind (arith, common_steps, kept);
  fewer = omega arith;
}

pub blocks::stmts-returns-then-not-semicolon_at : goal.blocks::stmts-returns-then-not-semicolon_at
blocks::stmts-returns-then-not-semicolon_at t c = grind (arith, common_steps, read_more, kept)

pub declarations::declared_list-returns-then-not-semicolon_at : goal.declarations::declared_list-returns-then-not-semicolon_at
declarations::declared_list-returns-then-not-semicolon_at t c = grind (arith, common_steps, read_more, kept)

pub declarations::type_spec-named_type-requires-2 : goal.declarations::type_spec-named_type-requires-2
declarations::type_spec-named_type-requires-2 t c = grind (arith, common_steps, kept)

pub declarations::variables-returns-in_default-3 : goal.declarations::variables-returns-in_default-3
declarations::variables-returns-in_default-3 t c = grind (arith, common_steps, kept)

pub declarations::variables-returns-in_default-2 : goal.declarations::variables-returns-in_default-2
declarations::variables-returns-in_default-2 t c = grind (arith, common_steps, kept)

pub heads::condition-returns : goal.heads::condition-returns
heads::condition-returns t c = grind (arith, common_steps, kept_opening)

pub heads::condition-condition_behind-requires : goal.heads::condition-condition_behind-requires
heads::condition-condition_behind-requires t c = grind (arith, common_steps, kept_opening)

pub heads::listed-returns : goal.heads::listed-returns
heads::listed-returns t c = grind (arith, common_steps, kept_assign)

pub heads::opened-returns : goal.heads::opened-returns
heads::opened-returns t c = grind (arith, common_steps, kept_simple)

pub heads::opened-returns-then-assign_at : goal.heads::opened-returns-then-assign_at
heads::opened-returns-then-assign_at t c = grind (arith, common_steps, kept_more)

pub loops::received-clause-requires : goal.loops::received-clause-requires
loops::received-clause-requires t c = grind (arith, common_steps, kept)

pub loops::received-clause-requires-2 : goal.loops::received-clause-requires-2
loops::received-clause-requires-2 t c = grind (arith, common_steps, kept)

pub loops::comm_behind-returns : goal.loops::comm_behind-returns
loops::comm_behind-returns t c = grind (arith, common_steps, kept_more)

pub loops::comm_behind-returns-then-is_mark : goal.loops::comm_behind-returns-then-is_mark
loops::comm_behind-returns-then-is_mark t c = grind (arith, common_steps, kept)

pub loops::for_parts-returns : goal.loops::for_parts-returns
loops::for_parts-returns t c = grind (arith, common_steps, kept)

pub loops::for_parts-returns-then-not-semicolon_at : goal.loops::for_parts-returns-then-not-semicolon_at
loops::for_parts-returns-then-not-semicolon_at t c = grind (arith, common_steps, kept)

pub loops::for_parts-returns-in_default-2 : goal.loops::for_parts-returns-in_default-2
loops::for_parts-returns-in_default-2 t c = grind (arith, common_steps, kept)

pub loops::range-returns : goal.loops::range-returns
loops::range-returns t c = grind (arith, common_steps, kept)

pub loops::for_stmt-returns : goal.loops::for_stmt-returns
loops::for_stmt-returns t c = grind (arith, common_steps, kept_opening)

pub loops::for_stmt-looped-requires : goal.loops::for_stmt-looped-requires
loops::for_stmt-looped-requires t c = grind (arith, common_steps, kept_opening)

pub statements::simple_behind-returns : goal.statements::simple_behind-returns
statements::simple_behind-returns t c = grind (arith, common_steps, kept_more)

pub statements::define-returns-then-not-is_mark : goal.statements::define-returns-then-not-is_mark
statements::define-returns-then-not-is_mark t c = grind (arith, common_steps, kept)

pub statements::define-returns-in_default-2 : goal.statements::define-returns-in_default-2
statements::define-returns-in_default-2 t c = grind (arith, common_steps, kept)

pub suffixes::third-returns : goal.suffixes::third-returns
suffixes::third-returns t c = grind (arith, common_steps, kept)

pub suffixes::behind_first-returns : goal.suffixes::behind_first-returns
suffixes::behind_first-returns t c = grind (arith, common_steps, kept)

pub switches::switch_tag-returns : goal.switches::switch_tag-returns
switches::switch_tag-returns t c = grind (arith, common_steps, kept)

pub switches::switch_tag-named_guard-requires : goal.switches::switch_tag-named_guard-requires
switches::switch_tag-named_guard-requires t c = grind (arith, common_steps, kept)

pub switches::defined-returns : goal.switches::defined-returns
switches::defined-returns t c = grind (arith, common_steps, kept_more)

pub switches::defined-after_init-requires : goal.switches::defined-after_init-requires
switches::defined-after_init-requires t c = grind (arith, common_steps, kept_more)

pub switches::switch_head-returns : goal.switches::switch_head-returns
switches::switch_head-returns t c = grind (arith, common_steps, kept_opening)

pub switches::switch_head-opened_switch-requires : goal.switches::switch_head-opened_switch-requires
switches::switch_head-opened_switch-requires t c = grind (arith, common_steps, kept_opening)

pub switches::switch_head-defined-requires : goal.switches::switch_head-defined-requires
switches::switch_head-defined-requires t c = grind (arith, common_steps, kept)

pub switches::case-clause-requires : goal.switches::case-clause-requires
switches::case-clause-requires t c = grind (arith, common_steps, kept)

pub switches::case-returns-then-is_word : goal.switches::case-returns-then-is_word
switches::case-returns-then-is_word t c = grind (arith, common_steps, read_more, kept)

pub switches::switched-returns-in_default-expect : goal.switches::switched-returns-in_default-expect
switches::switched-returns-in_default-expect t c = grind (arith, common_steps, kept)

pub declarations::type_spec-returns : goal.declarations::type_spec-returns
declarations::type_spec-returns t c =
    let m = c.len-mark.result in
    let old = c.args.out.now.posts.items in
    let a = c.put.new.out.posts.items in
    let b = c.type_params.new.out.posts.items in
    let front : take m a ≡ old = grind (arith, common_steps) in
    let within : m ≤ length a = grind (arith, common_steps) in
    let same : take (length a) b ≡ a = grind (arith, common_steps, kept) in
    let shown : take m b ≡ old = through m (old) a b within same front in
    let marked : m ≤ length b = grind (arith, common_steps, kept) in
    grind (arith, common_steps)

pub loops::received-returns : goal.loops::received-returns
loops::received-returns t c =
    let m = c.args.mark in
    let old = c.args.out.now.posts.items in
    let a = c.close-2.new.out.posts.items in
    let b = c.level-2.new.out.posts.items in
    let front : take m a ≡ take m old = grind (arith, common_steps) in
    let within : m ≤ length a = grind (arith, common_steps) in
    let same : take (length a) b ≡ a = grind (arith, common_steps, kept) in
    let shown : take m b ≡ take m old = through m (take m old) a b within same front in
    let marked : m ≤ length b = grind (arith, common_steps, kept) in
    grind (arith, common_steps)

pub loops::received-returns-then-is_mark : goal.loops::received-returns-then-is_mark
loops::received-returns-then-is_mark t c =
    let m = c.args.mark in
    let old = c.args.out.now.posts.items in
    let a = c.close.new.out.posts.items in
    let b = c.level.new.out.posts.items in
    let front : take m a ≡ take m old = grind (arith, common_steps) in
    let within : m ≤ length a = grind (arith, common_steps) in
    let same : take (length a) b ≡ a = grind (arith, common_steps, kept) in
    let shown : take m b ≡ take m old = through m (take m old) a b within same front in
    let marked : m ≤ length b = grind (arith, common_steps, kept) in
    grind (arith, common_steps)

pub switches::switch_tag-returns-then-is_mark-2 : goal.switches::switch_tag-returns-then-is_mark-2
switches::switch_tag-returns-then-is_mark-2 t c =
    let m = c.args.mark in
    let old = c.args.out.now.posts.items in
    let a = c.put.new.out.posts.items in
    let b = c.primary.new.out.posts.items in
    let front : take m a ≡ take m old = grind (arith, common_steps) in
    let within : m ≤ length a = grind (arith, common_steps) in
    let same : take (length a) b ≡ a = grind (arith, common_steps, kept) in
    let shown : take m b ≡ take m old = through m (take m old) a b within same front in
    let marked : m ≤ length b = grind (arith, common_steps, kept) in
    grind (arith, common_steps)

pub switches::switch_head-returns-then-is_mark-2 : goal.switches::switch_head-returns-then-is_mark-2
switches::switch_head-returns-then-is_mark-2 t c =
    let m = c.len-mark.result in
    let old = c.args.out.now.posts.items in
    let a = c.close.new.out.posts.items in
    let b = c.level.new.out.posts.items in
    let front : take m a ≡ old = grind (arith, common_steps) in
    let within : m ≤ length a = grind (arith, common_steps) in
    let same : take (length a) b ≡ a = grind (arith, common_steps, kept) in
    let shown : take m b ≡ old = through m (old) a b within same front in
    let marked : m ≤ length b = grind (arith, common_steps, kept) in
    grind (arith, common_steps)

pub declarations::variables-returns-in_default-4 : goal.declarations::variables-returns-in_default-4
declarations::variables-returns-in_default-4 t c =
    let m = c.len-mark.result in
    let old = c.args.out.now.posts.items in
    let a = c.close.new.out.posts.items in
    let b = c.any_type.new.out.posts.items in
    let front : take m a ≡ old = grind (arith, common_steps, kept) in
    let within : m ≤ length a = grind (arith, common_steps) in
    let same : take (length a) b ≡ a = grind (arith, common_steps, kept) in
    let shown : take m b ≡ old = through m (old) a b within same front in
    let marked : m ≤ length b = grind (arith, common_steps, kept) in
    grind (arith, common_steps)

pub heads::ifs-loop-fuel-preserved : goal.heads::ifs-loop-fuel-preserved
heads::ifs-loop-fuel-preserved t c =
    let tokens = c.args.tokens.now in
    let n = c.loop-fuel.fuel in
    let at = c.loop-fuel.at in
    let old = c.loop-fuel.out.posts.items in
    let opened = c.condition.new.out.posts.items in
    let begun = reverse c.loop-fuel.begun.items in
    let more : 0 < n = omega arith in
    let word : is_word tokens at words.If ≡ true = cc in
    let reads = rw c.in-Some.is at c.in_ok-mid.ensures in
    let end = c.in-Some-2.end in
    let new = c.block.new.out.posts.items in
    let body = rw c.in-Some-2.is at c.in_ok-end.ensures in
    let step = ifs_to tokens n begun at c.in-Some.mid old opened end new more word reads body in
    let items : c.push.new.self.items ≡ c.loop-fuel.begun.items ++ (at, length old) ∷ [] = grind (arith, common_steps) in
    let newest = pushed c.loop-fuel.begun.items c.push.new.self.items (at, length old) items in
    let m = c.len-mark.result in
    let first = c.args.out.now.posts.items in
    let front : take m opened ≡ first = grind (arith, common_steps, kept_condition) in
    let is_else : is_word tokens end words.Else ≡ true = cc in
    let is_if : is_word tokens (end + 1) words.If ≡ true = cc in
    record {
      reads = ap (λ b. read tokens (n - 1) (Ifs b) (end + 1) new) newest ∙ sym (else_if tokens (n - 1) ((at, length old) ∷ begun) end new is_else is_if) ∙ sym step ∙ c.loop-fuel.invariant.reads;
      kept = grind (arith, common_steps, kept);
      fewer = omega arith;
    }

pub heads::ifs-returns-in_default-2 : goal.heads::ifs-returns-in_default-2
heads::ifs-returns-in_default-2 t c =
    let tokens = c.args.tokens.now in
    let n = c.loop-fuel.fuel in
    let at = c.loop-fuel.at in
    let old = c.loop-fuel.out.posts.items in
    let opened = c.condition.new.out.posts.items in
    let begun = reverse c.loop-fuel.begun.items in
    let more : 0 < n = omega arith in
    let word : is_word tokens at words.If ≡ true = cc in
    let reads = rw c.in-Some.is at c.in_ok-mid.ensures in
    let none = rw c.in_default-2.is at c.in_ok-end.ensures in
    let m = c.len-mark.result in
    let first = c.args.out.now.posts.items in
    let front : take m opened ≡ first = grind (arith, common_steps, kept_condition) in
    (sym c.loop-fuel.invariant.reads ∙ ifs_end tokens n begun at c.in-Some.mid old opened more word reads none.0, grind (arith, common_steps))

pub heads::ifs-returns-then-not-is_word-2 : goal.heads::ifs-returns-then-not-is_word-2
heads::ifs-returns-then-not-is_word-2 t c =
    let tokens = c.args.tokens.now in
    let n = c.loop-fuel.fuel in
    let at = c.loop-fuel.at in
    let old = c.loop-fuel.out.posts.items in
    let opened = c.condition.new.out.posts.items in
    let begun = reverse c.loop-fuel.begun.items in
    let more : 0 < n = omega arith in
    let word : is_word tokens at words.If ≡ true = cc in
    let reads = rw c.in-Some.is at c.in_ok-mid.ensures in
    let end = c.in-Some-2.end in
    let new = c.block.new.out.posts.items in
    let body = rw c.in-Some-2.is at c.in_ok-end.ensures in
    let step = ifs_to tokens n begun at c.in-Some.mid old opened end new more word reads body in
    let items : c.push.new.self.items ≡ c.loop-fuel.begun.items ++ (at, length old) ∷ [] = grind (arith, common_steps) in
    let newest = pushed c.loop-fuel.begun.items c.push.new.self.items (at, length old) items in
    let no_word : is_word tokens end words.Else ≡ false = cc in
    sym c.loop-fuel.invariant.reads ∙ step ∙ no_else tokens (n - 1) ((at, length old) ∷ begun) end new no_word
    ∙ ap (λ b. Some (end, closed_all nodes.If b end new)) (sym newest) ∙ ap (λ l. Some (end, l)) (sym c.in_ok-close_all.ensures)

pub heads::ifs-returns-in_default-3 : goal.heads::ifs-returns-in_default-3
heads::ifs-returns-in_default-3 t c =
    let tokens = c.args.tokens.now in
    let n = c.loop-fuel.fuel in
    let at = c.loop-fuel.at in
    let old = c.loop-fuel.out.posts.items in
    let opened = c.condition.new.out.posts.items in
    let begun = reverse c.loop-fuel.begun.items in
    let more : 0 < n = omega arith in
    let word : is_word tokens at words.If ≡ true = cc in
    let reads = rw c.in-Some.is at c.in_ok-mid.ensures in
    let end = c.in-Some-2.end in
    let new = c.block.new.out.posts.items in
    let body = rw c.in-Some-2.is at c.in_ok-end.ensures in
    let step = ifs_to tokens n begun at c.in-Some.mid old opened end new more word reads body in
    let m = c.len-mark.result in
    let first = c.args.out.now.posts.items in
    let front : take m opened ≡ first = grind (arith, common_steps, kept_condition) in
    let shown : take m new ≡ first = grind (arith, common_steps, kept) in
    let is_else : is_word tokens end words.Else ≡ true = cc in
    let no_if : is_word tokens (end + 1) words.If ≡ false = cc in
    let none = rw c.in_default-3.is at c.in_ok-to.ensures in
    (sym c.loop-fuel.invariant.reads ∙ step ∙ else_none tokens (n - 1) ((at, length old) ∷ begun) end new is_else no_if none.0, grind (arith, common_steps))

pub heads::ifs-returns-in-loop-fuel : goal.heads::ifs-returns-in-loop-fuel
heads::ifs-returns-in-loop-fuel t c =
    let tokens = c.args.tokens.now in
    let n = c.loop-fuel.fuel in
    let at = c.loop-fuel.at in
    let old = c.loop-fuel.out.posts.items in
    let opened = c.condition.new.out.posts.items in
    let begun = reverse c.loop-fuel.begun.items in
    let more : 0 < n = omega arith in
    let word : is_word tokens at words.If ≡ true = cc in
    let reads = rw c.in-Some.is at c.in_ok-mid.ensures in
    let end = c.in-Some-2.end in
    let new = c.block.new.out.posts.items in
    let body = rw c.in-Some-2.is at c.in_ok-end.ensures in
    let step = ifs_to tokens n begun at c.in-Some.mid old opened end new more word reads body in
    let items : c.push.new.self.items ≡ c.loop-fuel.begun.items ++ (at, length old) ∷ [] = grind (arith, common_steps) in
    let newest = pushed c.loop-fuel.begun.items c.push.new.self.items (at, length old) items in
    let to = c.in-Some-3.to in
    let last = c.block-in-loop-fuel.new.out.posts.items in
    let is_else : is_word tokens end words.Else ≡ true = cc in
    let no_if : is_word tokens (end + 1) words.If ≡ false = cc in
    let other = rw c.in-Some-3.is at c.in_ok-to.ensures in
    sym c.loop-fuel.invariant.reads ∙ step ∙ else_block tokens (n - 1) ((at, length old) ∷ begun) end new to last is_else no_if other
    ∙ ap (λ b. Some (to, closed_all nodes.If b to last)) (sym newest) ∙ ap (λ l. Some (to, l)) (sym c.in_ok-close_all-2.ensures)

pub blocks::labelled-loop-fuel-preserved : goal.blocks::labelled-loop-fuel-preserved
blocks::labelled-loop-fuel-preserved t c =
    let tokens = c.args.tokens.now in
    let n = c.loop-fuel.fuel in
    let at = c.loop-fuel.at in
    let old = c.loop-fuel.out.posts.items in
    let begun = reverse c.loop-fuel.begun.items in
    let more : 0 < n = omega arith in
    let label : labels tokens at ≡ true = cc in
    let items : c.push-then-is_label.new.self.items ≡ c.loop-fuel.begun.items ++ (at, length old) ∷ [] = grind (arith, common_steps) in
    let newest = pushed c.loop-fuel.begun.items c.push-then-is_label.new.self.items (at, length old) items in
    let named = c.put-then-is_label.new.out.posts.items in
    record {
      reads = (λ i. read tokens (n - 1) (Labels (newest i)) (at + 2) (c.in_ok-put-2.ensures i)) ∙ sym (labels_to tokens n begun at old more label) ∙ c.loop-fuel.invariant.reads;
      kept = grind (arith, common_steps);
      fewer = omega arith;
    }

pub types::row_type-returns : goal.types::row_type-returns
types::row_type-returns t c =
    let tokens = c.args.tokens.now in
    let row = c.loop-row.row in
    let out = c.loop-row.out.posts.items in
    let over : row_by tokens row out ≡ None = unwound_off row.begun.items (read tokens row.fuel (The AnyType) row.at out) (read_none tokens row.fuel (The AnyType) row.at out (omega arith)) in
    (sym c.loop-row.invariant.reads ∙ over, grind (arith, common_steps))

pub types::turn-returns-in-None-clause-value : goal.types::turn-returns-in-None-clause-value
types::turn-returns-in-None-clause-value t c =
    let tokens = c.args.tokens.now in
    let row = c.args.row.now in
    let out = c.args.out.now.posts.items in
    let none : type_parens_by tokens (read tokens (row.fuel - 1)) row.at out ≡ None = grind (arith, common_steps) in
    let read_ = parens_none tokens row.fuel row.at out (omega arith) (cc) (cc) none in
    (unwound_off row.begun.items (read tokens row.fuel (The AnyType) row.at out) read_, grind (arith, common_steps))

pub types::turn-returns-then-is_mark-2-clause-value : goal.types::turn-returns-then-is_mark-2-clause-value
types::turn-returns-then-is_mark-2-clause-value t c =
    let tokens = c.args.tokens.now in
    let row = c.args.row.now in
    let new = c.begin.new.row in
    let out = c.args.out.now.posts.items in
    let star = star_reads tokens row.fuel row.at out (omega arith) (cc) (cc) (cc) in
    let begun : new.begun.items ≡ row.begun.items ++ begun_at nodes.PointerType row.at (length out) ∷ [] = grind (arith, common_steps) in
    let one = unwound_on row.begun.items new.begun.items nodes.PointerType row.at (length out) (read tokens (row.fuel - 1) (The AnyType) (row.at + 1) out) (read tokens row.fuel (The AnyType) row.at out) begun star in
    let rest = same_row tokens (row.fuel - 1) new.fuel (row.at + 1) new.at out (grind (arith, common_steps)) (grind (arith, common_steps)) in
    (one ∙ ap (unwound new.begun.items) rest, grind (arith, common_steps))

pub types::formed_turn-returns-then-row-eq0-clause-value : goal.types::formed_turn-returns-then-row-eq0-clause-value
types::formed_turn-returns-then-row-eq0-clause-value t c =
    let tokens = c.args.tokens.now in
    let row = c.args.row.now in
    let out = c.args.out.now.posts.items in
    (unwound_off row.begun.items (read tokens row.fuel (The OnlyType) row.at out) (read_none tokens row.fuel (The OnlyType) row.at out (grind arith)), refl)

pub types::formed_turn-returns-in-None-clause-value : goal.types::formed_turn-returns-in-None-clause-value
types::formed_turn-returns-in-None-clause-value t c =
    let tokens = c.args.tokens.now in
    let row = c.args.row.now in
    let out = c.args.out.now.posts.items in
    let none : formed_by tokens (read tokens (row.fuel - 1)) row.at out ≡ None = grind (arith, common_steps) in
    (unwound_off row.begun.items (read tokens row.fuel (The OnlyType) row.at out) (formed_reads tokens row.fuel row.at out None (grind arith) none), grind (arith, common_steps))

pub types::formed_turn-returns-in_ok-begin-in-Some-Before-clause-value : goal.types::formed_turn-returns-in_ok-begin-in-Some-Before-clause-value
types::formed_turn-returns-in_ok-begin-in-Some-Before-clause-value t c =
    let tokens = c.args.tokens.now in
    let row = c.args.row.now in
    let new = c.begin.new.row in
    let old = c.args.out.now.posts.items in
    let out = c.formed.new.out.posts.items in
    let kind = c.in-Some-Before.kind in
    let inner = read tokens (row.fuel - 1) (The AnyType) c.in-Some-Before.inner out in
    let front : formed_by tokens (read tokens (row.fuel - 1)) row.at old ≡ (inner >>= closing kind row.at old) = grind (arith, common_steps) in
    let begun : new.begun.items ≡ row.begun.items ++ begun_at kind row.at (length old) ∷ [] = grind (arith, common_steps) in
    let one = unwound_on row.begun.items new.begun.items kind row.at (length old) inner (read tokens row.fuel (The OnlyType) row.at old) begun (formed_reads tokens row.fuel row.at old (inner >>= closing kind row.at old) (grind arith) front) in
    let rest = same_row tokens (row.fuel - 1) new.fuel c.in-Some-Before.inner new.at out (grind (arith, common_steps)) (grind (arith, common_steps)) in
    (one ∙ ap (unwound new.begun.items) rest, grind (arith, common_steps))

pub types::formed_turn-returns-in_ok-begin-in-Some-Result-2-clause-value : goal.types::formed_turn-returns-in_ok-begin-in-Some-Result-2-clause-value
types::formed_turn-returns-in_ok-begin-in-Some-Result-2-clause-value t c =
    let tokens = c.args.tokens.now in
    let row = c.args.row.now in
    let mid = c.begin-in-Some-Result.new.row in
    let new = c.begin-in-Some-Result-2.new.row in
    let old = c.args.out.now.posts.items in
    let out = c.formed.new.out.posts.items in
    let inner = read tokens (row.fuel - 1 - 1) (The AnyType) c.in-Some-Result.inner out in
    let signature = inner >>= closing nodes.Signature (row.at + 1) old in
    let front : formed_by tokens (read tokens (row.fuel - 1)) row.at old ≡ (signature >>= closing nodes.FuncType row.at old) = grind (arith, common_steps) in
    let first : mid.begun.items ≡ row.begun.items ++ begun_at nodes.FuncType row.at (length old) ∷ [] = grind (arith, common_steps) in
    let second : new.begun.items ≡ mid.begun.items ++ begun_at nodes.Signature (row.at + 1) (length old) ∷ [] = grind (arith, common_steps) in
    let one = unwound_on row.begun.items mid.begun.items nodes.FuncType row.at (length old) signature (read tokens row.fuel (The OnlyType) row.at old) first (formed_reads tokens row.fuel row.at old (signature >>= closing nodes.FuncType row.at old) (grind arith) front) in
    let two = unwound_on mid.begun.items new.begun.items nodes.Signature (row.at + 1) (length old) inner signature second refl in
    let rest = same_row tokens (row.fuel - 1 - 1) new.fuel c.in-Some-Result.inner new.at out (grind (arith, common_steps)) (grind (arith, common_steps)) in
    (one ∙ (two ∙ ap (unwound new.begun.items) rest), grind (arith, common_steps))

pub expressions::unary-returns-then-outer-inner : goal.expressions::unary-returns-then-outer-inner
expressions::unary-returns-then-outer-inner t c =
    let tokens = c.args.tokens.now in
    let old = c.args.out.now.posts.items in
    let outer = c.operators_at-outer.result in
    let inner = c.operators_at-inner.result in
    let all : outer + inner ≡ c.args.fuel = grind arith in
    (unary_over tokens c.args.types c.args.bare c.args.fuel c.args.at old outer inner (sym c.operators_at-outer.ensures.value) (sym c.operators_at-inner.ensures.value) all c.operators_at-outer.ensures.stops, refl)

pub expressions::unary-returns-in_default : goal.expressions::unary-returns-in_default
expressions::unary-returns-in_default t c =
    let tokens = c.args.tokens.now in
    let old = c.args.out.now.posts.items in
    let outer = c.operators_at-outer.result in
    let inner = c.operators_at-inner.result in
    let more : outer + inner < c.args.fuel = grind arith in
    let stops : operates tokens c.args.types (c.args.at + outer) ≡ false = c.operators_at-outer.ensures.stops (omega arith) in
    let ends : operates tokens false (c.args.at + outer + inner) ≡ false = c.operators_at-inner.ensures.stops (omega arith) in
    let none : read tokens (c.args.fuel - outer - inner - 1) (PrimaryOr (stays c.args.types inner) c.args.bare) (c.args.at + outer + inner) old ≡ None = grind (arith, common_steps) in
    let reads = unary_reads tokens c.args.types c.args.bare c.args.fuel c.args.at old outer inner (sym c.operators_at-outer.ensures.value) (sym c.operators_at-inner.ensures.value) more stops ends None none in
    (reads ∙ none_behind tokens c.args.types c.args.bare c.args.fuel c.args.at old outer inner (sym c.operators_at-outer.ensures.value) (sym c.operators_at-inner.ensures.value), grind (arith, common_steps))

pub expressions::unary-returns-in_default-2 : goal.expressions::unary-returns-in_default-2
expressions::unary-returns-in_default-2 t c =
    let tokens = c.args.tokens.now in
    let old = c.args.out.now.posts.items in
    let behind = c.primary.new.out.posts.items in
    let outer = c.operators_at-outer.result in
    let inner = c.operators_at-inner.result in
    let more : outer + inner < c.args.fuel = grind arith in
    let stops : operates tokens c.args.types (c.args.at + outer) ≡ false = c.operators_at-outer.ensures.stops (omega arith) in
    let ends : operates tokens false (c.args.at + outer + inner) ≡ false = c.operators_at-inner.ensures.stops (omega arith) in
    let some : read tokens (c.args.fuel - outer - inner - 1) (PrimaryOr (stays c.args.types inner) c.args.bare) (c.args.at + outer + inner) old ≡ Some (c.in-Some.to, behind) = grind (arith, common_steps) in
    let base : take (length old) behind ≡ old = grind (arith, common_steps, kept) in
    let none : all_operated tokens false old (c.args.at + outer) inner (Some (c.in-Some.to, behind)) ≡ None = grind (arith, common_steps) in
    let reads = unary_reads tokens c.args.types c.args.bare c.args.fuel c.args.at old outer inner (sym c.operators_at-outer.ensures.value) (sym c.operators_at-inner.ensures.value) more stops ends (Some (c.in-Some.to, behind)) some in
    (reads ∙ (ap (all_operated tokens c.args.types old c.args.at outer) none ∙ operated_none tokens c.args.types old outer c.args.at), grind (arith, common_steps))

pub expressions::unary-returns : goal.expressions::unary-returns
expressions::unary-returns t c =
    let tokens = c.args.tokens.now in
    let old = c.args.out.now.posts.items in
    let behind = c.primary.new.out.posts.items in
    let inside = c.close_operators.new.out.posts.items in
    let to = c.in-Some.to in
    let outer = c.operators_at-outer.result in
    let inner = c.operators_at-inner.result in
    let more : outer + inner < c.args.fuel = grind arith in
    let stops : operates tokens c.args.types (c.args.at + outer) ≡ false = c.operators_at-outer.ensures.stops (omega arith) in
    let ends : operates tokens false (c.args.at + outer + inner) ≡ false = c.operators_at-inner.ensures.stops (omega arith) in
    let some : read tokens (c.args.fuel - outer - inner - 1) (PrimaryOr (stays c.args.types inner) c.args.bare) (c.args.at + outer + inner) old ≡ Some (to, behind) = grind (arith, common_steps) in
    let base : take (length old) behind ≡ old = grind (arith, common_steps, kept) in
    let plain : all_operated tokens false old (c.args.at + outer) inner (Some (to, behind)) ≡ Some (to, inside) = grind (arith, common_steps) in
    let above : take (length old) inside ≡ old = grind (arith, common_steps) in
    let reads = unary_reads tokens c.args.types c.args.bare c.args.fuel c.args.at old outer inner (sym c.operators_at-outer.ensures.value) (sym c.operators_at-inner.ensures.value) more stops ends (Some (to, behind)) some in
    reads ∙ (ap (all_operated tokens c.args.types old c.args.at outer) plain ∙ grind (arith, common_steps))

pub expressions::unary-returns-in_default-3 : goal.expressions::unary-returns-in_default-3
expressions::unary-returns-in_default-3 t c =
    let tokens = c.args.tokens.now in
    let old = c.args.out.now.posts.items in
    let behind = c.primary.new.out.posts.items in
    let inside = c.close_operators.new.out.posts.items in
    let to = c.in-Some.to in
    let outer = c.operators_at-outer.result in
    let inner = c.operators_at-inner.result in
    let more : outer + inner < c.args.fuel = grind arith in
    let stops : operates tokens c.args.types (c.args.at + outer) ≡ false = c.operators_at-outer.ensures.stops (omega arith) in
    let ends : operates tokens false (c.args.at + outer + inner) ≡ false = c.operators_at-inner.ensures.stops (omega arith) in
    let some : read tokens (c.args.fuel - outer - inner - 1) (PrimaryOr (stays c.args.types inner) c.args.bare) (c.args.at + outer + inner) old ≡ Some (to, behind) = grind (arith, common_steps) in
    let base : take (length old) behind ≡ old = grind (arith, common_steps, kept) in
    let plain : all_operated tokens false old (c.args.at + outer) inner (Some (to, behind)) ≡ Some (to, inside) = grind (arith, common_steps) in
    let above : take (length old) inside ≡ old = grind (arith, common_steps) in
    let reads = unary_reads tokens c.args.types c.args.bare c.args.fuel c.args.at old outer inner (sym c.operators_at-outer.ensures.value) (sym c.operators_at-inner.ensures.value) more stops ends (Some (to, behind)) some in
    (reads ∙ (ap (all_operated tokens c.args.types old c.args.at outer) plain ∙ grind (arith, common_steps)), grind (arith, common_steps))
