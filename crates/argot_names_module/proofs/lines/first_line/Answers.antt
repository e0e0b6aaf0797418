use Rattle.std.proofs.Common.{length, arith, sym, ap, subst, refl}
use Rattle.argot_names_rules.specs.GoMod.{HasWords}
use Rattle.argot_names_module.proofs.Cutting.{skipped_within}
use Rattle.argot_names_module.proofs.Searching.{searched_none, searched_more, found_one, found_none, line_room}
use Rattle.argot_names_module.proofs.lines.first_line.Goals as goal

pub loop-at-init : goal.loop-at-init
loop-at-init c = searched_none c.args.bytes.now c.args.word.now

pub overflow_add-result : goal.overflow_add-result
overflow_add-result c =
    let within = skipped_within c.line_at-line.result.now c.args.word.now c.in-Some.words.second.now c.in-Some.words.offset c.in-Some.ensures.some in
    let room = line_room c.args.bytes.now c.loop-at.at c.loop-at-test.true in
    let n = ap length c.line_at-line.ensures in
    omega (arith, within, room, n, c.requires, c.loop-at-test.true)

pub returns-in-Some-clause-one : goal.returns-in-Some-clause-one
returns-in-Some-clause-one c =
    found_one c.args.bytes.now c.args.word.now c.loop-at.at c.in-Some.words.offset _ c.in-Some.words.second.now c.loop-at-test.true c.loop-at.invariant
    (subst (λ l. HasWords l c.args.word.now c.in-Some.words.second.now c.in-Some.words.offset) c.line_at-line.ensures c.in-Some.ensures.some) refl

pub loop-at-preserved : goal.loop-at-preserved
loop-at-preserved c =
    searched_more c.args.bytes.now c.args.word.now c.loop-at.at _ c.loop-at-test.true c.loop-at.invariant
    (λ second skips h. c.in_default.ensures.none second skips (subst (λ l. HasWords l c.args.word.now second skips) (sym c.line_at-line.ensures) h))
    (let n = ap length c.line_at-line.ensures in omega (arith, n))

pub returns-clause-none : goal.returns-clause-none
returns-clause-none c = found_none c.args.bytes.now c.args.word.now c.loop-at.at c.loop-at-test.false c.loop-at.invariant
