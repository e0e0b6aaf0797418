use Rattle.std.proofs.Common.{◌≡◌, length, ◌∙◌}
use Rattle.argot_escape.proofs.Exactly.{ready_one, ready_two, led_two, set_two, exactly, exact_escaping}
use Rattle.argot_escape.proofs.answer.escapes.Goals as goal

pub reach_functions-requires-clause-ready : goal.reach_functions-requires-clause-ready
reach_functions-requires-clause-ready c =
    let p = c.args.program.now in
    let x = c.args.points.now in
    let wf = c.site_count.ensures.well in
    let zero = c.in_ok-found.found in
    let n : c.in-Ok.size ≡ length p.sites = c.in-Ok.ensures.1 ∙ c.site_count.ensures.count in
    let count : length zero.flags.items ≡ length p.sites = c.in_ok-found.ensures.count ∙ n in
    let size : zero.waiting.size ≡ length p.sites = c.in_ok-found.ensures.size ∙ n in
    ready_one p x wf c.requires zero c.reach_variables.new.found c.reach_variables.new.found count size c.in_ok-found.ensures.none c.reach_variables.ensures

pub drain-requires-clause-ready : goal.drain-requires-clause-ready
drain-requires-clause-ready c =
    let p = c.args.program.now in
    let x = c.args.points.now in
    let wf = c.site_count.ensures.well in
    let zero = c.in_ok-found.found in
    let n : c.in-Ok.size ≡ length p.sites = c.in-Ok.ensures.1 ∙ c.site_count.ensures.count in
    let count : length zero.flags.items ≡ length p.sites = c.in_ok-found.ensures.count ∙ n in
    let size : zero.waiting.size ≡ length p.sites = c.in_ok-found.ensures.size ∙ n in
    ready_two p x wf c.requires zero c.reach_variables.new.found c.reach_functions.new.found count size c.in_ok-found.ensures.none c.reach_variables.ensures c.reach_functions.ensures

pub drain-requires-clause-led : goal.drain-requires-clause-led
drain-requires-clause-led c =
    let p = c.args.program.now in
    let x = c.args.points.now in
    let wf = c.site_count.ensures.well in
    let zero = c.in_ok-found.found in
    let n : c.in-Ok.size ≡ length p.sites = c.in-Ok.ensures.1 ∙ c.site_count.ensures.count in
    let count : length zero.flags.items ≡ length p.sites = c.in_ok-found.ensures.count ∙ n in
    let size : zero.waiting.size ≡ length p.sites = c.in_ok-found.ensures.size ∙ n in
    led_two p x wf c.requires zero c.reach_variables.new.found c.reach_functions.new.found count size c.in_ok-found.ensures.none c.reach_variables.ensures c.reach_functions.ensures

pub drain-requires-clause-set : goal.drain-requires-clause-set
drain-requires-clause-set c =
    let p = c.args.program.now in
    let x = c.args.points.now in
    let wf = c.site_count.ensures.well in
    let zero = c.in_ok-found.found in
    let n : c.in-Ok.size ≡ length p.sites = c.in-Ok.ensures.1 ∙ c.site_count.ensures.count in
    let count : length zero.flags.items ≡ length p.sites = c.in_ok-found.ensures.count ∙ n in
    let size : zero.waiting.size ≡ length p.sites = c.in_ok-found.ensures.size ∙ n in
    set_two p x wf c.requires zero c.reach_variables.new.found c.reach_functions.new.found count size c.in_ok-found.ensures.none c.reach_variables.ensures c.reach_functions.ensures c.in_ok-found.ensures.empty

pub returns-clause-handed : goal.returns-clause-handed
returns-clause-handed c =
    let p = c.args.program.now in
    let x = c.args.points.now in
    let wf = c.site_count.ensures.well in
    let zero = c.in_ok-found.found in
    let n : c.in-Ok.size ≡ length p.sites = c.in-Ok.ensures.1 ∙ c.site_count.ensures.count in
    let count : length zero.flags.items ≡ length p.sites = c.in_ok-found.ensures.count ∙ n in
    let size : zero.waiting.size ≡ length p.sites = c.in_ok-found.ensures.size ∙ n in
    exactly p x wf c.requires zero c.reach_variables.new.found c.reach_functions.new.found count size c.in_ok-found.ensures.none c.reach_variables.ensures c.reach_functions.ensures c.drain.new.found c.drain.ensures.kept c.drain.ensures.closed c.drain.ensures.count c.drain.ensures.only

pub returns-clause-exact : goal.returns-clause-exact
returns-clause-exact c = λ ex.
    let p = c.args.program.now in
    let x = c.args.points.now in
    let wf = c.site_count.ensures.well in
    let zero = c.in_ok-found.found in
    let n : c.in-Ok.size ≡ length p.sites = c.in-Ok.ensures.1 ∙ c.site_count.ensures.count in
    let count : length zero.flags.items ≡ length p.sites = c.in_ok-found.ensures.count ∙ n in
    let size : zero.waiting.size ≡ length p.sites = c.in_ok-found.ensures.size ∙ n in
    exact_escaping p x wf c.drain.new.found.flags.items ex (exactly p x wf c.requires zero c.reach_variables.new.found c.reach_functions.new.found count size c.in_ok-found.ensures.none c.reach_variables.ensures c.reach_functions.ensures c.drain.new.found c.drain.ensures.kept c.drain.ensures.closed c.drain.ensures.count c.drain.ensures.only)
