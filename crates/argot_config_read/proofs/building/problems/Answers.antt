use Rattle.std.proofs.Common.{◌<◌, ◌+◌, ◌++◌, length, take, drop, codes, arith, rules, sym, ◌∙◌, add-one}
use Rattle.std.proofs.Math.Seq.{take-suc}
use Rattle.argot_config_read.specs.Built.{IsAskedOf}
use Rattle.argot_config_read.specs.Paths.{item_path}
use Rattle.argot_config_read.specs.Patterns.{IsRefusal, HaveReadings, patterns_of_problem, patterns_of_problems}
use Rattle.argot_config_read.proofs.Following.{Follows, all_zip_more, follows_on, next_problem, refused_here}
use Rattle.argot_config_read.proofs.building.problems.Goals as goal

pub returns-in_err-asked-clause-refused : goal.returns-in_err-asked-clause-refused
returns-in_err-asked-clause-refused g c =
    let ws = c.args.wanted.now in
    let i = c.loop-i.i in
    let w = c.index-wanted-i.result in
    let e = c.in_err-asked.field-0.0 in
    let within : i < length ws = omega arith in
    let so_far : Follows (patterns_of_problems 0 ws) (patterns_of_problem (item_path (codes "problems") i) w ++ patterns_of_problems (i + 1) (drop (i + 1) ws)) = rw (next_problem ws i w within (sym c.index-wanted-i.is)) at c.loop-i.invariant.0 in
    let here : IsRefusal (patterns_of_problem (item_path (codes "problems") i) w) (g.P.Patterns.refusals c.args.patterns.now) (g.P.Patterns.refusals c.asked.new.patterns) (g.P.Patterns.last c.asked.new.patterns) e =
    rw (c.as_str.ensures, c.in_ok-path.ensures, c.loop-i.invariant.2) at c.in_err-asked.ensures.refused in
    let h : IsRefusal (patterns_of_problems 0 ws) (g.P.Patterns.refusals c.args.patterns.now) (g.P.Patterns.refusals c.asked.new.patterns) (g.P.Patterns.last c.asked.new.patterns) e =
    refused_here (patterns_of_problems 0 ws) (patterns_of_problem (item_path (codes "problems") i) w) (patterns_of_problems (i + 1) (drop (i + 1) ws)) _ _ _ e so_far here in
    first_of (grind (arith, h), search (rules, h))

pub loop-i-preserved : goal.loop-i-preserved
loop-i-preserved g c =
    let ws = c.args.wanted.now in
    let i = c.loop-i.i in
    let w = c.index-wanted-i.result in
    let within : i < length ws = omega arith in
    let is = sym c.index-wanted-i.is in
    let so_far : Follows (patterns_of_problems 0 ws) (patterns_of_problem (item_path (codes "problems") i) w ++ patterns_of_problems (i + 1) (drop (i + 1) ws)) = rw (next_problem ws i w within is) at c.loop-i.invariant.0 in
    let readings : HaveReadings (patterns_of_problem (item_path (codes "problems") i) w) = rw (c.as_str.ensures, c.in_ok-path.ensures) at c.in_ok-asked.ensures.ok.0 in
    let to = take-suc ws i w within in
    let pushed = c.in_ok-push.ensures.items in (
      follows_on _ _ _ so_far readings,
      rw (add-one, to, is, pushed) (all_zip_more IsAskedOf (take i ws) _ w _ c.loop-i.invariant.1 c.in_ok-asked.ensures.ok.1),
      c.in_ok-asked.ensures.kept.0 ∙ c.loop-i.invariant.2,
      c.in_ok-asked.ensures.kept.1 ∙ c.loop-i.invariant.3,
    )
