use Rattle.std.proofs.Common.{rules, ◌+◌, ◌≤◌, length, sym, subst}
use Rattle.argot_first.proofs.Answers.{few_functions, reported}
use Rattle.argot_first.proofs.analyse.answer.Goals as goal

pub all_places-base-requires : goal.all_places-base-requires
all_places-base-requires c = subst (λ y. length y ≤ 4096) (sym c.as_slice-functions.ensures) (few_functions c.args.bytes.now c.args.program.now c.requires)

pub returns : goal.returns
returns c =
    reported c.args.bytes.now c.args.program.now (c.all_places-base.result + 6) c.len.result c.in_ok-kinds.kinds.items c.in_ok-flows.flows.items c.in_ok-positions.positions.items c.in_ok-text.text c.requires
    (cc (c.all_places-base.ensures.value, c.as_slice-functions.ensures))
    (cc (c.in_ok-kinds.ensures, c.as_slice-functions.ensures, c.as_slice-steps.ensures))
    (cc (c.in_ok-flows.ensures, c.as_slice.ensures.value, c.as_slice-functions.ensures))
    (cc (c.in_ok-positions.ensures, c.as_slice-steps.ensures))
    (cc (c.in_ok-text.ensures, c.as_slice-2.ensures.value, c.as_slice-3.ensures.value))
    (search (rules, c.len.ensures))
