use Rattle.std.proofs.Common.{◌≡◌, ◌==◌, ◌&&◌, ◌||◌, nat_lt, Bool, true, false, get_or, ap, sym, ◌∙◌}
use Rattle.std.proofs.lemmas.Option.{slice_get-get_or}
use Rattle.argot_links.specs.Table.{has}
use Rattle.argot_facts.proofs.Listed.{in_of_get}
use Rattle.argot_control.proofs.Reached.{behind_at}
use Rattle.argot_control.proofs.blocks.comes_behind.Goals as goal

pub has-requires-clause-row : goal.has-requires-clause-row
has-requires-clause-row c =
    let numbers = c.args.numbers.now in
    (c.requires.rowed (get_or numbers c.args.a 0) (in_of_get numbers c.args.a (get_or numbers c.args.a 0) (slice_get-get_or numbers c.args.a 0 c.requires.first))).0

pub has-requires-clause-column : goal.has-requires-clause-column
has-requires-clause-column c =
    let numbers = c.args.numbers.now in
    (c.requires.rowed (get_or numbers c.args.b 0) (in_of_get numbers c.args.b (get_or numbers c.args.b 0) (slice_get-get_or numbers c.args.b 0 c.requires.second))).1

pub returns-then-is_before : goal.returns-then-is_before
returns-then-is_before c =
    let numbers = c.args.numbers.now in
    let t = c.args.rows.now in
    let x = get_or numbers c.args.a 0 in
    let y = get_or numbers c.args.b 0 in
    let at = behind_at numbers t c.args.a c.args.b x y (slice_get-get_or numbers c.args.a 0 c.requires.first) (slice_get-get_or numbers c.args.b 0 c.requires.second) in
    let s : ((x == y) && nat_lt c.args.a c.args.b) ≡ true = sym c.is_before.ensures ∙ c.if-is_before.true in
    sym (at ∙ ap (λ (z : Bool). z || has t x y) s)

pub returns : goal.returns
returns c =
    let numbers = c.args.numbers.now in
    let t = c.args.rows.now in
    let x = get_or numbers c.args.a 0 in
    let y = get_or numbers c.args.b 0 in
    let at = behind_at numbers t c.args.a c.args.b x y (slice_get-get_or numbers c.args.a 0 c.requires.first) (slice_get-get_or numbers c.args.b 0 c.requires.second) in
    let s : ((x == y) && nat_lt c.args.a c.args.b) ≡ false = sym c.is_before.ensures ∙ c.if-is_before.false in
    c.has.ensures ∙ sym (at ∙ ap (λ (z : Bool). z || has t x y) s)
