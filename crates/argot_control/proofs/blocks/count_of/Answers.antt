use Rattle.std.proofs.Common.{◌≡◌, Some, get_or, ap, sym, ◌∙◌, inl, inr, arith}
use Rattle.std.specs.Prelude.{slice_get}
use Rattle.std.proofs.lemmas.Bool.{cases_lt}
use Rattle.std.proofs.lemmas.Option.{slice_get-get_or}
use Rattle.argot_facts.proofs.Listed.{number_of, get_within, in_of_get}
use Rattle.argot_control.proofs.blocks.count_of.Goals as goal

pub above-count-requires : goal.above-count-requires
above-count-requires c =
    let numbers = c.args.numbers.now in
    let k = c.loop-k.k in
    c.requires (get_or numbers k 0) (in_of_get numbers k (get_or numbers k 0) (slice_get-get_or numbers k 0 c.loop-k-test.true))

pub loop-k-preserved : goal.loop-k-preserved
loop-k-preserved c =
    let numbers = c.args.numbers.now in
    let k = c.loop-k.k in
    let is : slice_get numbers k ≡ Some (get_or numbers k 0) = slice_get-get_or numbers k 0 c.loop-k-test.true in
    let least = c.above-count.ensures.least in
    let more = c.above-count.ensures.more in
    record {
      above = λ j b l h. elim (cases_lt j k) [
        | inl m ↦ let w = c.loop-k.invariant.above j b m h in omega arith
        | inr m ↦
            let e : j ≡ k = omega (arith, l) in
            let s : Some b ≡ Some (get_or numbers k 0) = sym h ∙ ap (slice_get numbers) e ∙ is in
            let f : b ≡ get_or numbers k 0 = cc in
            omega arith
      ];
    }

pub returns : goal.returns
returns c = λ b m.
    let n = number_of b c.args.numbers.now m in
    let l = get_within c.args.numbers.now n.0 b n.1 in
    let e = c.loop-k-test.false in
    c.loop-k.invariant.above n.0 b (omega arith) n.1
