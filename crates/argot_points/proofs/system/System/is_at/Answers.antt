use Rattle.std.proofs.Common.{◌≡◌, true, ◌++◌, Some, sym, ap, ◌∙◌, subst}
use Rattle.argot_plain.specs.Lists.{same_path}
use Rattle.argot_facts.specs.Numbers.{location}
use Rattle.argot_facts.specs.declared.pointing.Loc.{Loc}
use Rattle.argot_points.proofs.Columns.{its_location, same_path_self}
use Rattle.argot_points.proofs.system.System.is_at.Goals as goal

pub returns-then-here-site-clause-yes : goal.returns-then-here-site-clause-yes
returns-then-here-site-clause-yes c = λ t.
    let q = c.args.front.now ++ c.args.rest.now in
    c.location-here.ensures ∙ ap Some (its_location c.location-here.result.now c.args.site q c.if-here-site.true (sym (c.is_joined.ensures ∙ ap (λ p. same_path p q) c.as_slice.ensures) ∙ t))

pub returns-then-here-site-clause-no : goal.returns-then-here-site-clause-no
returns-then-here-site-clause-no c = λ h.
    let q = c.args.front.now ++ c.args.rest.now in
    let e : location c.args.site q ≡ c.location-here.result.now = cc (h, c.location-here.ensures) in
    c.is_joined.ensures ∙ ap (λ p. same_path p q) c.as_slice.ensures ∙ subst (λ (x : Loc). same_path x.path q ≡ true) e (same_path_self q)
