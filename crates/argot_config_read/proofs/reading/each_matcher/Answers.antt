use Rattle.std.proofs.Common.{List, ◌≡◌, ◌<◌, ◌≤◌, [], length, map, take, arith, rules}
use Rattle.std.proofs.lemmas.List.{length-map}
use Rattle.serde_json.specs.Data.{Data}
use Rattle.serde_json.specs.View.{view}
use Rattle.argot_config_read.specs.Shapes.{IsFirst, Judge, list_of}
use Rattle.argot_config_read.specs.Table as table
use Rattle.argot_config_read.specs.Wanted as wanted
use Rattle.argot_config_read.proofs.Items.{value_at, first_in_item, first_in_list, item_passed, list_done, made_done, made_more}
use Rattle.argot_config_read.specs.Paths.{item_path}
use Rattle.argot_config_read.proofs.reading.each_matcher.Goals as goal

pub returns-in_err-next-clause-fault : goal.returns-in_err-next-clause-fault
returns-in_err-next-clause-fault c =
    let path = c.args.path.now in
    let xs = c.in_ok-items.items.now in
    let ds : List Data = map view xs in
    let i = c.loop-i.i in
    let d : Data = view c.index-items-i.result in
    let e = c.in_err-next.field-0.0 in
    let judge : List Data → Judge = λ _. table.matcher c.args.in_sources in
    let within : i < length ds = rw length-map (omega arith) in
    let is = value_at xs i c.index-items-i.result c.index-items-i.is in
    let here : IsFirst (judge (take i ds) (item_path path i) d) e = rw (c.as_str.ensures, c.in_ok-place.ensures) at c.in_err-next.ensures.fault in
    let h : IsFirst (list_of 0 64 judge path (view c.args.value.now)) e =
    first_in_list 0 64 judge path (view c.args.value.now) ds e c.in_ok-items.ensures.ok (first_in_item judge path ds i d e within is c.loop-i.invariant.0 here) in
    first_of (grind (arith, h), search (rules, h))

pub loop-i-preserved : goal.loop-i-preserved
loop-i-preserved c =
    let path = c.args.path.now in
    let xs = c.in_ok-items.items.now in
    let ds : List Data = map view xs in
    let i = c.loop-i.i in
    let d : Data = view c.index-items-i.result in
    let judge : List Data → Judge = λ _. table.matcher c.args.in_sources in
    let within : i < length ds = rw length-map (omega arith) in
    let is = value_at xs i c.index-items-i.result c.index-items-i.is in
    let here : judge (take i ds) (item_path path i) d ≡ [] = rw (c.as_str.ensures, c.in_ok-place.ensures) at c.in_ok-next.ensures.ok.0 in (
      item_passed judge path ds i d within is c.loop-i.invariant.0 here,
      made_more wanted.wanted_matcher ds i d _ _ _ within is c.loop-i.invariant.1 c.in_ok-next.ensures.ok.1 c.in_ok-push.ensures.items,
    )

pub returns-clause-ok : goal.returns-clause-ok
returns-clause-ok c =
    let path = c.args.path.now in
    let xs = c.in_ok-items.items.now in
    let ds : List Data = map view xs in
    let i = c.loop-i.i in
    let judge : List Data → Judge = λ _. table.matcher c.args.in_sources in
    let past : length ds ≤ i = rw length-map (omega arith) in (
      list_done 0 64 judge path (view c.args.value.now) ds i c.in_ok-items.ensures.ok past c.loop-i.invariant.0,
      made_done wanted.wanted_matcher _ ds i _ c.in_ok-items.ensures.list past c.loop-i.invariant.1,
    )
