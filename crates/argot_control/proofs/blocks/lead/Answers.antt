use Rattle.std.proofs.Common.{◌≡◌, ◌<◌, ℕ, List, true, subst}
use Rattle.std.specs.Prelude.{◌↔◌}
use Rattle.argot_links.specs.Table.{has}
use Rattle.argot_plain.specs.Lists.{In}
use Rattle.argot_facts.specs.Handed.{FactsOf}
use Rattle.argot_control.specs.Between.{IsStep}
use Rattle.argot_control.specs.Numbering.{block_in}
use Rattle.argot_control.specs.Steps.{IsLed}
use Rattle.argot_control.proofs.Reached.{inside_of, steps_below, looks_up}
use Rattle.argot_control.proofs.blocks.lead.Goals as goal

pub steps_of-requires : goal.steps_of-requires
steps_of-requires c =
    let p = c.args.program.now in
    let x = c.args.points.now in
    rw (c.deref-2.ensures.value, c.deref.ensures.value) (inside_of p (FactsOf p x) c.in_ok-pairs.ensures.well c.in_ok-numbers.numbers.items c.in_ok-pairs.pairs.items c.in_ok-numbers.ensures.count c.in_ok-pairs.ensures.exact)

pub rows_of-requires : goal.rows_of-requires
rows_of-requires c =
    let p = c.args.program.now in
    let x = c.args.points.now in
    let numbers : List ℕ = c.in_ok-numbers.numbers.items in
    let pairs : List (ℕ × ℕ) = c.in_ok-pairs.pairs.items in
    let steps : List (ℕ × ℕ) = c.in_ok-steps.steps.items in
    let low : (b : ℕ) → In b numbers → b < c.count_of-count.result = subst (λ (ns : List ℕ). (b : ℕ) → In b ns → b < c.count_of-count.result) c.deref-3.ensures.value c.count_of-count.ensures in
    let one : (u v : ℕ) → In {A = ℕ × ℕ} (u, v) steps ↔ IsStep (block_in numbers) c.deref-2.result.now u v = subst (λ (ns : List ℕ). (u v : ℕ) → In {A = ℕ × ℕ} (u, v) steps ↔ IsStep (block_in ns) c.deref-2.result.now u v) c.deref.ensures.value c.in_ok-steps.ensures in
    let all : (u v : ℕ) → In {A = ℕ × ℕ} (u, v) steps ↔ IsStep (block_in numbers) pairs u v = subst (λ (ps : List (ℕ × ℕ)). (u v : ℕ) → In {A = ℕ × ℕ} (u, v) steps ↔ IsStep (block_in numbers) ps u v) c.deref-2.ensures.value one in
    let inside = inside_of p (FactsOf p x) c.in_ok-pairs.ensures.well numbers pairs c.in_ok-numbers.ensures.count c.in_ok-pairs.ensures.exact in
    rw c.deref-4.ensures.value (steps_below c.count_of-count.result numbers pairs steps low inside all)

pub returns-clause-exact : goal.returns-clause-exact
returns-clause-exact c =
    let p = c.args.program.now in
    let x = c.args.points.now in
    let numbers : List ℕ = c.in_ok-numbers.numbers.items in
    let pairs : List (ℕ × ℕ) = c.in_ok-pairs.pairs.items in
    let steps : List (ℕ × ℕ) = c.in_ok-steps.steps.items in
    let t = c.in_ok-rows.rows in
    let one : (u v : ℕ) → In {A = ℕ × ℕ} (u, v) steps ↔ IsStep (block_in numbers) c.deref-2.result.now u v = subst (λ (ns : List ℕ). (u v : ℕ) → In {A = ℕ × ℕ} (u, v) steps ↔ IsStep (block_in ns) c.deref-2.result.now u v) c.deref.ensures.value c.in_ok-steps.ensures in
    let all : (u v : ℕ) → In {A = ℕ × ℕ} (u, v) steps ↔ IsStep (block_in numbers) pairs u v = subst (λ (ps : List (ℕ × ℕ)). (u v : ℕ) → In {A = ℕ × ℕ} (u, v) steps ↔ IsStep (block_in numbers) ps u v) c.deref-2.ensures.value one in
    let rows : (u v : ℕ) → (has t u v ≡ true) ↔ IsLed steps u v = subst (λ (ss : List (ℕ × ℕ)). (u v : ℕ) → (has t u v ≡ true) ↔ IsLed ss u v) c.deref-4.ensures.value c.in_ok-rows.ensures.exact in
    looks_up p (FactsOf p x) numbers t pairs steps c.in_ok-numbers.ensures.blocks c.in_ok-pairs.ensures.exact all rows
