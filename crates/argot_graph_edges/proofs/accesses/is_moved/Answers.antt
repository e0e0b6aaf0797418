use Rattle.std.proofs.Common.{◌≡◌, ◌++◌, true, Some, List, sym, ap, ◌∙◌, subst}
use Rattle.argot_plain.specs.Lists.{same_path}
use Rattle.argot_text.specs.declared.path.PathStep.{PathStep}
use Rattle.argot_facts.specs.declared.pointing.Loc.{Loc}
use Rattle.argot_facts.proofs.Located.{same_path_is, same_path_self}
use Rattle.argot_graph_edges.proofs.accesses.is_moved.Goals as goal

pub returns-clause-yes : goal.returns-clause-yes
returns-clause-yes c = λ t.
    let q = c.args.front.now ++ c.args.rest.now in
    (c.location.result.now, c.location.ensures, same_path_is c.location.result.now.path q (sym (c.is_joined.ensures ∙ ap (λ p. same_path p q) c.as_slice.ensures) ∙ t))

pub returns-clause-no : goal.returns-clause-no
returns-clause-no c = λ h.
    let q = c.args.front.now ++ c.args.rest.now in
    let e : Some h.0 ≡ Some c.location.result.now = sym h.1 ∙ c.location.ensures in
    let f : h.0 ≡ c.location.result.now = cc in
    let g : q ≡ c.location.result.now.path = sym h.2 ∙ ap (λ (l : Loc). l.path) f in
    c.is_joined.ensures ∙ (ap (λ p. same_path p q) c.as_slice.ensures ∙ subst (λ (x : List PathStep). same_path x q ≡ true) g (same_path_self q))
