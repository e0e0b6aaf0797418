use Rattle.std.proofs.Common.{◌≡◌, Some, sym, ◌∙◌}
use Rattle.std.specs.Prelude.{slice_get}
use Rattle.argot_names_imports.proofs.Options.{none_map, some_map}
use Rattle.argot_names_imports.proofs.Siting.{spec_some, dot_some, named_some, spec_none, dot_none, named_spec_none, other_none}
use Rattle.argot_names_imports.proofs.sites.site_at.Goals as goal

pub returns-in-Spec-clause-some : goal.returns-in-Spec-clause-some
returns-in-Spec-clause-some c =
    let there : slice_get c.args.nodes.now c.args.node ≡ Some c.in_ok-is.is' = sym c.node_at.ensures ∙ c.in_ok-is.was in
    some_map c.by_path.result _ _ (spec_some c.args.nodes.now c.args.node c.in_ok-is.is' there c.in-Spec.is) c.by_path.ensures.some

pub returns-in-Spec-clause-none : goal.returns-in-Spec-clause-none
returns-in-Spec-clause-none c =
    let there : slice_get c.args.nodes.now c.args.node ≡ Some c.in_ok-is.is' = sym c.node_at.ensures ∙ c.in_ok-is.was in
    none_map c.by_path.result _ _ (spec_none c.args.nodes.now c.args.node c.in_ok-is.is' there c.in-Spec.is) c.by_path.ensures.none

pub returns-in-DotSpec-clause-some : goal.returns-in-DotSpec-clause-some
returns-in-DotSpec-clause-some c =
    let there : slice_get c.args.nodes.now c.args.node ≡ Some c.in_ok-is.is' = sym c.node_at.ensures ∙ c.in_ok-is.was in
    some_map c.by_path-in-DotSpec.result _ _ (dot_some c.args.nodes.now c.args.node c.in_ok-is.is' there c.in-DotSpec.is) c.by_path-in-DotSpec.ensures.some

pub returns-in-DotSpec-clause-none : goal.returns-in-DotSpec-clause-none
returns-in-DotSpec-clause-none c =
    let there : slice_get c.args.nodes.now c.args.node ≡ Some c.in_ok-is.is' = sym c.node_at.ensures ∙ c.in_ok-is.was in
    none_map c.by_path-in-DotSpec.result _ _ (dot_none c.args.nodes.now c.args.node c.in_ok-is.is' there c.in-DotSpec.is) c.by_path-in-DotSpec.ensures.none

pub returns-in-NamedSpec-clause-some : goal.returns-in-NamedSpec-clause-some
returns-in-NamedSpec-clause-some c =
    let there : slice_get c.args.nodes.now c.args.node ≡ Some c.in_ok-is.is' = sym c.node_at.ensures ∙ c.in_ok-is.was in
    some_map c.by_name.result _ _ (named_some c.args.nodes.now c.args.node c.in_ok-is.is' there c.in-NamedSpec.is) c.by_name.ensures.some

pub returns-in-NamedSpec-clause-none : goal.returns-in-NamedSpec-clause-none
returns-in-NamedSpec-clause-none c =
    let there : slice_get c.args.nodes.now c.args.node ≡ Some c.in_ok-is.is' = sym c.node_at.ensures ∙ c.in_ok-is.was in
    none_map c.by_name.result _ _ (named_spec_none c.args.nodes.now c.args.node c.in_ok-is.is' there c.in-NamedSpec.is) c.by_name.ensures.none

pub returns-in_default : goal.returns-in_default
returns-in_default c =
    let there : slice_get c.args.nodes.now c.args.node ≡ Some c.in_ok-is.is' = sym c.node_at.ensures ∙ c.in_ok-is.was in
    record { some = tt; none = other_none c.args.nodes.now c.args.node c.in_ok-is.is' there c.in_default.not-Spec c.in_default.not-DotSpec c.in_default.not-NamedSpec }
