use Rattle.std.proofs.Common.{true, sym, ap, ◌∙◌}
use Rattle.argot_plain.specs.Counts.{calls_by_number}
use Rattle.argot_roles.proofs.Wrapping.{out_is}
use Rattle.argot_roles.proofs.wrapped.is_out.Goals as goal

pub returns-then-calls : goal.returns-then-calls
returns-then-calls c =
    out_is c.args.program.now c.args.place true c.is_marked-inside.result
    (sym c.if-calls.true ∙ (c.calls_by_number-calls.ensures ∙ ap calls_by_number (sym c.kind.ensures)))
    (λ h. c.requires.wrapped.only c.args.place (c.is_marked-inside.ensures.yes h))
    (λ x. c.is_marked-inside.ensures.no (c.requires.wrapped.there c.args.place x c.requires.inside))
