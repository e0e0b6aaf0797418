use Rattle.std.proofs.Common.{◌∙◌, ap, ◌∷◌, [], slice_set, slice_index_or}
use Rattle.argot_names_imports.proofs.Graphs.{kept_edge}
use Rattle.argot_names_imports.proofs.graph.link.Goals as goal

pub returns-clause-kept : goal.returns-clause-kept
returns-clause-kept c =
    kept_edge c.args.graph.now.lists c.push.new.self.lists c.in-Some-Some.from c.in-Some-Some.to (c.requires c.in-Some-Some.from c.in-Some-Some.is-0)
    (c.push.ensures.lists ∙ ap (λ ls. slice_set ls c.in-Some-Some.from (c.in-Some-Some.to ∷ slice_index_or ls c.in-Some-Some.from [])) c.in_ok-reserve.ensures.lists)
