use Rattle.std.proofs.Common.{◌≡◌, true, Some, List, sym, ap, ◌∙◌, subst}
use Rattle.argot_plain.specs.Lists.{same_path}
use Rattle.argot_text.specs.declared.path.PathStep.{PathStep}
use Rattle.argot_points.proofs.Columns.{same_path_is, same_path_self}
use Rattle.argot_graph_edges.proofs.calls.is_leaf.Goals as goal

pub returns-clause-yes : goal.returns-clause-yes
returns-clause-yes c = λ t.
    let q = c.args.path.now in
    c.leaf_path.ensures ∙ ap Some (same_path_is c.leaf_path.result.now q (sym (c.same_path.ensures ∙ ap (λ p. same_path p q) c.as_slice.ensures) ∙ t))

pub returns-clause-no : goal.returns-clause-no
returns-clause-no c = λ h.
    let q = c.args.path.now in
    let e : q ≡ c.leaf_path.result.now = cc (h, c.leaf_path.ensures) in
    c.same_path.ensures ∙ ap (λ p. same_path p q) c.as_slice.ensures ∙ subst (λ (x : List PathStep). same_path x q ≡ true) e (same_path_self q)
