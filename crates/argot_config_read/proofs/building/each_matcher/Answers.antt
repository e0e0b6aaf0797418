use Rattle.std.proofs.Common.{◌<◌, ◌+◌, ◌++◌, length, take, drop, arith, rules, sym, ◌∙◌, add-one}
use Rattle.std.proofs.Math.Seq.{take-suc}
use Rattle.argot_config_read.specs.Built.{IsMatcherOf}
use Rattle.argot_config_read.specs.Paths.{item_path}
use Rattle.argot_config_read.specs.Patterns.{IsRefusal, HaveReadings, patterns_of_matcher, patterns_of_matchers}
use Rattle.argot_config_read.proofs.Following.{Follows, all_zip_more, follows_on, next_matcher, refused_here}
use Rattle.argot_config_read.proofs.building.each_matcher.Goals as goal

pub returns-in_err-matcher-clause-refused : goal.returns-in_err-matcher-clause-refused
returns-in_err-matcher-clause-refused g c =
    let path = c.args.path.now in
    let ws = c.args.wanted.now in
    let i = c.loop-i.i in
    let w = c.index-wanted-i.result in
    let e = c.in_err-matcher.field-0.0 in
    let within : i < length ws = omega arith in
    let so_far : Follows (patterns_of_matchers path 0 ws) (patterns_of_matcher (item_path path i) w ++ patterns_of_matchers path (i + 1) (drop (i + 1) ws)) = rw (next_matcher path ws i w within (sym c.index-wanted-i.is)) at c.loop-i.invariant.0 in
    let here : IsRefusal (patterns_of_matcher (item_path path i) w) (g.P.Patterns.refusals c.args.patterns.now) (g.P.Patterns.refusals c.matcher.new.patterns) (g.P.Patterns.last c.matcher.new.patterns) e =
    rw (c.as_str.ensures, c.in_ok-place.ensures, c.loop-i.invariant.2) at c.in_err-matcher.ensures.refused in
    let h : IsRefusal (patterns_of_matchers path 0 ws) (g.P.Patterns.refusals c.args.patterns.now) (g.P.Patterns.refusals c.matcher.new.patterns) (g.P.Patterns.last c.matcher.new.patterns) e =
    refused_here (patterns_of_matchers path 0 ws) (patterns_of_matcher (item_path path i) w) (patterns_of_matchers path (i + 1) (drop (i + 1) ws)) _ _ _ e so_far here in
    first_of (grind (arith, h), search (rules, h))

pub loop-i-preserved : goal.loop-i-preserved
loop-i-preserved g c =
    let path = c.args.path.now in
    let ws = c.args.wanted.now in
    let i = c.loop-i.i in
    let w = c.index-wanted-i.result in
    let within : i < length ws = omega arith in
    let is = sym c.index-wanted-i.is in
    let so_far : Follows (patterns_of_matchers path 0 ws) (patterns_of_matcher (item_path path i) w ++ patterns_of_matchers path (i + 1) (drop (i + 1) ws)) = rw (next_matcher path ws i w within is) at c.loop-i.invariant.0 in
    let readings : HaveReadings (patterns_of_matcher (item_path path i) w) = rw (c.as_str.ensures, c.in_ok-place.ensures) at c.in_ok-matcher.ensures.ok.0 in
    let to = take-suc ws i w within in
    let pushed = c.in_ok-push.ensures.items in (
      follows_on _ _ _ so_far readings,
      rw (add-one, to, is, pushed) (all_zip_more IsMatcherOf (take i ws) _ w _ c.loop-i.invariant.1 c.in_ok-matcher.ensures.ok.1),
      c.in_ok-matcher.ensures.kept.0 ∙ c.loop-i.invariant.2,
      c.in_ok-matcher.ensures.kept.1 ∙ c.loop-i.invariant.3,
    )
