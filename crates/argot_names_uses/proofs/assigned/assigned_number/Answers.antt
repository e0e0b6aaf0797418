use Rattle.std.proofs.Common.{refl}
use Rattle.argot_names_uses.proofs.Faulty.{text_is}
use Rattle.argot_names_uses.proofs.Exactly.{not_defined, blank_assigned, no_first, first_exactly, first_there}
use Rattle.argot_names_uses.proofs.assigned.assigned_number.Goals as goal

pub returns-then-not-is_defined : goal.returns-then-not-is_defined
returns-then-not-is_defined c h main home decls here =
    not_defined h home decls c.args.file c.args.names.now here.names c.args.brought c.requires.brought (λ e. let never = c.if-not-is_defined.ensures.1 e in absurd (cc))

pub returns-then-is_blank : goal.returns-then-is_blank
returns-then-is_blank c h main home decls here =
    blank_assigned h home decls c.args.file c.args.names.now here.names c.args.brought c.requires.brought c.spelled_at.result.now
    (text_is h home c.args.file c.args.names.now here.names c.args.brought.token c.spelled_at.result.now c.spelled_at.ensures) (c.if-is_blank.ensures.0 refl)

pub returns-in-Some : goal.returns-in-Some
returns-in-Some c h main home decls here =
    let first = c.in-Some.first in
    let is = c.in-Some.ensures.some in
    let there = first_there h home decls c.args.file c.args.names.now here.names c.args.brought c.requires.brought first.node is in
    first_exactly h home decls c.args.file c.args.names.now here.names c.args.brought c.requires.brought first.node c.number_at.result c.spelled_at.result.now
    (text_is h home c.args.file c.args.names.now here.names c.args.brought.token c.spelled_at.result.now c.spelled_at.ensures) (λ b. let never = c.if-is_blank.ensures.1 b in absurd (cc))
    (c.if-not-is_defined.ensures.0 refl) is (c.number_at.ensures h main decls there.0 here.known there.1)

pub returns-in-None : goal.returns-in-None
returns-in-None c h main home decls here =
    no_first h home decls c.args.file c.args.names.now here.names c.args.brought c.requires.brought (c.in-None.ensures.none refl)
