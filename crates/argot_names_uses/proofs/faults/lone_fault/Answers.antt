use Rattle.std.proofs.Common.{refl, ◌∙◌}
use Rattle.argot_names_uses.proofs.Faulty.{text_is, lone_key, lone_blank, lone_passed, lone_some, lone_none, looked_within}
use Rattle.argot_names_uses.proofs.faults.lone_fault.Goals as goal

pub is_passed_over-requires-clause-token : goal.is_passed_over-requires-clause-token
is_passed_over-requires-clause-token c = looked_within c.args.names.now c.requires.names c.args.looked.node c.args.looked.token c.requires.seen.looked

pub returns-then-not-is_nothing : goal.returns-then-not-is_nothing
returns-then-not-is_nothing c h main r home tops file at means =
    lone_some h home file c.args.names.now at.names_are c.args.looked r c.args.meaning means (λ b. let never = c.if-not-is_nothing.ensures.1 b in absurd (cc))

pub returns-then-looked : goal.returns-then-looked
returns-then-looked c h main r home tops file at means = lone_key h home file c.args.names.now at.names_are c.args.looked c.requires.seen c.if-looked.true

pub returns-then-is_blank : goal.returns-then-is_blank
returns-then-is_blank c h main r home tops file at means =
    lone_blank h home file c.args.names.now at.names_are c.args.looked c.spelled_at-name.result.now (text_is h home file c.args.names.now at.names_are c.args.looked.token c.spelled_at-name.result.now c.spelled_at-name.ensures) (c.if-is_blank.ensures.0 refl)

pub returns-then-is_passed_over : goal.returns-then-is_passed_over
returns-then-is_passed_over c h main r home tops file at means = lone_passed h home file c.args.names.now at.names_are c.args.looked (c.is_passed_over.ensures.there c.if-is_passed_over.true)

pub returns : goal.returns
returns c h main r home tops file at means =
    lone_none h home file c.args.names.now at.names_are c.args.looked r c.args.meaning c.start_at.result c.requires.seen c.if-looked.false
    (λ b. let never = c.if-is_blank.ensures.1 (text_is h home file c.args.names.now at.names_are c.args.looked.token c.spelled_at-name.result.now c.spelled_at-name.ensures ∙ b) in absurd (cc)) (c.is_passed_over.ensures.none c.if-is_passed_over.false)
    means (c.if-not-is_nothing.ensures.0 refl) c.start_at.ensures
