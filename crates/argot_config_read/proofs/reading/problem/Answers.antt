use Rattle.std.proofs.Common.{map, drop, flat_map, arith, rules}
use Rattle.serde_json.specs.View.{view}
use Rattle.serde_json.specs.Find.{as_object}
use Rattle.argot_config_read.specs.declared.objects.Object.TheVariants.{Problem}
use Rattle.argot_config_read.specs.Shapes.{IsFirst, row_faults}
use Rattle.argot_config_read.specs.Table.{problem, keys_for, problem_rows}
use Rattle.argot_config_read.proofs.Firsts.{in_third, in_fourth, in_fifth, in_sixth, in_seventh}
use Rattle.argot_config_read.proofs.reading.problem.Goals as goal

pub returns-in_err-sinks-clause-fault : goal.returns-in_err-sinks-clause-fault
unfolding problem
returns-in_err-sinks-clause-fault c =
    let e = c.in_err-sinks.field-0.0 in
    let h : IsFirst (problem (map (λ p. p.name) c.args.before.now) c.args.path.now (view c.args.value.now)) e =
    λ ne. in_third (keys_for Problem) c.args.path.now (as_object (view c.args.value.now)) _ _ _ (flat_map (row_faults c.args.path.now (view c.args.value.now)) (drop 3 (problem_rows (map (λ p. p.name) c.args.before.now)))) e c.in_ok-expect_object.ensures.ok c.in_ok-name.ensures.ok.0 c.in_ok-sources.ensures.ok.0 (c.in_err-sinks.ensures.fault ne) in
    first_of (grind (arith, h), search (rules, h))

pub returns-in_err-sanitizers-clause-fault : goal.returns-in_err-sanitizers-clause-fault
unfolding problem
returns-in_err-sanitizers-clause-fault c =
    let e = c.in_err-sanitizers.field-0.0 in
    let h : IsFirst (problem (map (λ p. p.name) c.args.before.now) c.args.path.now (view c.args.value.now)) e =
    λ ne. in_fourth (keys_for Problem) c.args.path.now (as_object (view c.args.value.now)) _ _ _ _ (flat_map (row_faults c.args.path.now (view c.args.value.now)) (drop 4 (problem_rows (map (λ p. p.name) c.args.before.now)))) e c.in_ok-expect_object.ensures.ok c.in_ok-name.ensures.ok.0 c.in_ok-sources.ensures.ok.0 c.in_ok-sinks.ensures.ok.0 (c.in_err-sanitizers.ensures.fault ne) in
    first_of (grind (arith, h), search (rules, h))

pub returns-in_err-validators-clause-fault : goal.returns-in_err-validators-clause-fault
unfolding problem
returns-in_err-validators-clause-fault c =
    let e = c.in_err-validators.field-0.0 in
    let h : IsFirst (problem (map (λ p. p.name) c.args.before.now) c.args.path.now (view c.args.value.now)) e =
    λ ne. in_fifth (keys_for Problem) c.args.path.now (as_object (view c.args.value.now)) _ _ _ _ _ (flat_map (row_faults c.args.path.now (view c.args.value.now)) (drop 5 (problem_rows (map (λ p. p.name) c.args.before.now)))) e c.in_ok-expect_object.ensures.ok c.in_ok-name.ensures.ok.0 c.in_ok-sources.ensures.ok.0 c.in_ok-sinks.ensures.ok.0 c.in_ok-sanitizers.ensures.ok.0 (c.in_err-validators.ensures.fault ne) in
    first_of (grind (arith, h), search (rules, h))

pub returns-in_err-points-clause-fault : goal.returns-in_err-points-clause-fault
unfolding problem
returns-in_err-points-clause-fault c =
    let e = c.in_err-points.field-0.0 in
    let h : IsFirst (problem (map (λ p. p.name) c.args.before.now) c.args.path.now (view c.args.value.now)) e =
    λ ne. in_sixth (keys_for Problem) c.args.path.now (as_object (view c.args.value.now)) _ _ _ _ _ _ (flat_map (row_faults c.args.path.now (view c.args.value.now)) (drop 6 (problem_rows (map (λ p. p.name) c.args.before.now)))) e c.in_ok-expect_object.ensures.ok c.in_ok-name.ensures.ok.0 c.in_ok-sources.ensures.ok.0 c.in_ok-sinks.ensures.ok.0 c.in_ok-sanitizers.ensures.ok.0 c.in_ok-validators.ensures.ok.0 (c.in_err-points.ensures.fault ne) in
    first_of (grind (arith, h), search (rules, h))

pub returns-in_err-escapes-clause-fault : goal.returns-in_err-escapes-clause-fault
unfolding problem
returns-in_err-escapes-clause-fault c =
    let e = c.in_err-escapes.field-0.0 in
    let h : IsFirst (problem (map (λ p. p.name) c.args.before.now) c.args.path.now (view c.args.value.now)) e =
    λ ne. in_seventh (keys_for Problem) c.args.path.now (as_object (view c.args.value.now)) _ _ _ _ _ _ _ (flat_map (row_faults c.args.path.now (view c.args.value.now)) (drop 7 (problem_rows (map (λ p. p.name) c.args.before.now)))) e c.in_ok-expect_object.ensures.ok c.in_ok-name.ensures.ok.0 c.in_ok-sources.ensures.ok.0 c.in_ok-sinks.ensures.ok.0 c.in_ok-sanitizers.ensures.ok.0 c.in_ok-validators.ensures.ok.0 c.in_ok-points.ensures.ok.0 (c.in_err-escapes.ensures.fault ne) in
    first_of (grind (arith, h), search (rules, h))
