use Rattle.std.proofs.Common.{◌≡◌, ◌+◌, ◌<◌, length, sym, ap, ◌∙◌, inl, inr, arith, rules}
use Rattle.std.proofs.lemmas.Bool.{cases_lt}
use Rattle.argot_escape.specs.Flooding.{IsVariable}
use Rattle.argot_escape.proofs.Finding.{finds_none, finds_both, finds_as}
use Rattle.argot_escape.proofs.starts.reach_variables.Goals as goal

pub loop-k-init : goal.loop-k-init
loop-k-init c = record { size = c.requires.size; inside = c.requires.inside; finds = finds_none (λ m. m < 0) c.args.found.now (λ m l. absurd (omega arith)) }

pub loop-k-preserved : goal.loop-k-preserved
loop-k-preserved c =
    let f = c.reach_variable.ensures in
    let i = c.loop-k.invariant in
    let count = f.count in
    let inside = i.inside in
    record {
      size = f.size ∙ i.size ∙ sym f.count;
      inside = omega arith;
      finds = finds_both (λ m. m < c.loop-k.k) (λ m. m ≡ c.loop-k.k) (λ m. m < c.loop-k.k + 1) c.args.found.now c.loop-k.found c.reach_variable.new.found
          (λ m h. elim h [ inl l ↦ omega arith | inr e ↦ omega arith ])
          (λ m l. elim (cases_lt m c.loop-k.k) [ inl a ↦ inl a | inr a ↦ inr (omega arith) ])
          i.finds f;
    }

pub returns : goal.returns
returns c =
    let n : length c.globals-globals.result.now.items ≡ length c.args.program.now.globals = ap length c.globals-globals.ensures in
    let k : c.loop-k.k ≡ length c.globals-globals.result.now.items = search rules in
    finds_as (λ m. m < c.loop-k.k) (IsVariable c.args.program.now.globals) c.args.found.now c.loop-k.found (λ m l. omega arith) (λ m l. omega arith) c.loop-k.invariant.finds
