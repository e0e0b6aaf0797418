use Rattle.std.proofs.Common.{◌≡◌, true, false, Some, None, refl, sym, ap, ◌∙◌}
use Rattle.argot_plain.specs.Leak.{a_sink, an_external}
use Rattle.argot_graph_edges.proofs.Tabling.{sink_is, looks_out}
use Rattle.argot_graph_edges.proofs.arguments.looks_at.Goals as goal

pub returns-then-is_sink-clause-yes : goal.returns-then-is_sink-clause-yes
returns-then-is_sink-clause-yes c = λ t. a_sink (sym (c.is_sink.ensures ∙ sink_is _ _ _ c.requires.tables c.args.place c.args.g c.requires.inside c.requires.target) ∙ c.if-is_sink.true)

pub returns-in-Some-clause-yes : goal.returns-in-Some-clause-yes
returns-in-Some-clause-yes c = λ t. an_external c.function.result.now c.in-Some.field-0 c.function.ensures c.in-Some.is

pub returns-in-None-clause-no : goal.returns-in-None-clause-no
returns-in-None-clause-no c = λ x.
    absurd (looks_out _ _ c.args.place c.args.g c.function.result.now c.function.ensures (sym (c.is_sink.ensures ∙ sink_is _ _ _ c.requires.tables c.args.place c.args.g c.requires.inside c.requires.target) ∙ c.if-is_sink.false) c.in-None.is x)
