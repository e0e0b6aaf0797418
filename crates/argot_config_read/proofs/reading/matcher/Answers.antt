use Rattle.std.proofs.Common.{drop, flat_map, arith, rules}
use Rattle.serde_json.specs.View.{view}
use Rattle.serde_json.specs.Find.{as_object}
use Rattle.argot_config_read.specs.declared.objects.Object.TheVariants.{Matcher}
use Rattle.argot_config_read.specs.Shapes.{IsFirst, row_faults}
use Rattle.argot_config_read.specs.Table.{matcher, keys_for, matcher_rows}
use Rattle.argot_config_read.proofs.Firsts.{in_third}
use Rattle.argot_config_read.proofs.reading.matcher.Goals as goal

pub returns-in_err-receiver-clause-fault : goal.returns-in_err-receiver-clause-fault
unfolding matcher
returns-in_err-receiver-clause-fault c =
    let e = c.in_err-receiver.field-0.0 in
    let h : IsFirst (matcher c.args.in_sources c.args.path.now (view c.args.value.now)) e =
    λ ne. in_third (keys_for Matcher) c.args.path.now (as_object (view c.args.value.now)) _ _ _ (flat_map (row_faults c.args.path.now (view c.args.value.now)) (drop 3 (matcher_rows c.args.in_sources))) e c.in_ok-expect_object.ensures.ok c.in_ok-kind.ensures.ok.0 c.in_ok-package.ensures.ok.0 (c.in_err-receiver.ensures.fault ne) in
    first_of (grind (arith, h), search (rules, h))
