use Rattle.std.proofs.Common.{◌∙◌, arith}
use Rattle.argot_control.proofs.Led.{led_added, led_joined}
use Rattle.argot_control.proofs.rows.take.Goals as goal

pub add-fresh-requires-clause-row : goal.add-fresh-requires-clause-row
add-fresh-requires-clause-row c = let b = c.requires.below c.args.step.0 c.args.step.1 c.requires.step in let l = b.0 in let s = c.requires.square.rows in omega arith

pub add-fresh-requires-clause-column : goal.add-fresh-requires-clause-column
add-fresh-requires-clause-column c = let b = c.requires.below c.args.step.0 c.args.step.1 c.requires.step in let l = b.1 in let s = c.requires.square.cols in omega arith

pub join-grown-requires-clause-source : goal.join-grown-requires-clause-source
join-grown-requires-clause-source c =
    let b = c.requires.below c.args.step.0 c.args.step.1 c.requires.step in
    let l = b.1 in
    let s = c.add-fresh.ensures.shape.rows ∙ c.requires.square.rows in
    omega arith

pub join-grown-requires-clause-target : goal.join-grown-requires-clause-target
join-grown-requires-clause-target c =
    let b = c.requires.below c.args.step.0 c.args.step.1 c.requires.step in
    let l = b.0 in
    let s = c.add-fresh.ensures.shape.rows ∙ c.requires.square.rows in
    omega arith

pub returns-then-fresh-clause-led : goal.returns-then-fresh-clause-led
returns-then-fresh-clause-led c =
    let steps = c.args.steps.now in
    let x = c.args.step.0 in
    let y = c.args.step.1 in
    led_joined steps c.add-fresh.new.self c.join-grown.new.self x y c.requires.step c.join-grown.ensures.joins (led_added steps c.args.rows.now c.add-fresh.new.self x y c.requires.step c.add-fresh.ensures.adds c.requires.led)

pub returns-else-fresh-clause-led : goal.returns-else-fresh-clause-led
returns-else-fresh-clause-led c =
    let steps = c.args.steps.now in
    let x = c.args.step.0 in
    let y = c.args.step.1 in
    led_joined steps c.add-fresh.new.self c.join-grown.new.self x y c.requires.step c.join-grown.ensures.joins (led_added steps c.args.rows.now c.add-fresh.new.self x y c.requires.step c.add-fresh.ensures.adds c.requires.led)
