use Rattle.std.proofs.Common.{◌≡◌, ℕ, ◌+◌, ◌-◌, ◌<◌, length, slice_index, true, sym, subst, inl, inr, rules, arith}
use Rattle.argot_links.specs.Members.{has}
use Rattle.argot_ssa.specs.Edges.{holds}
use Rattle.argot_ssa.specs.Places.{Goes, next_places}
use Rattle.argot_ssa.proofs.Stepping.{plain, listed, in_list, index_has, has_index}
use Rattle.argot_ssa.proofs.cut.mark_at.Goals as goal
use Rattle.argot_ssa.proofs.cut.mark_at.Goals.{After-as_slice, After-mark_all}

pub returns-then-falls-clause-cuts : goal.returns-then-falls-clause-cuts
returns-then-falls-clause-cuts c =
    inl (plain c.args.program.now c.requires.well c.requires.function.0 c.args.function.now c.requires.function.1 c.args.k c.requires.place c.kind-kind.result.now c.kind-kind.ensures (search rules))

same_list : (c : After-as_slice) → c.as_slice.result.now ≡ next_places c.kind-kind.result.now (c.args.function.now.entry + c.args.k)
same_list c = search rules

target : (c : After-as_slice) → (j : ℕ) → j < length c.as_slice.result.now → (s : ℕ) × (c.args.function.now.entry + s ≡ slice_index c.as_slice.result.now j) × Goes c.args.program.now c.args.function.now c.args.k s
target c j low =
    listed c.args.program.now c.requires.well c.requires.function.0 c.args.function.now c.requires.function.1 c.args.k c.requires.place c.kind-kind.result.now c.kind-kind.ensures _
    (subst (λ list. has list (slice_index c.as_slice.result.now j) ≡ true) (same_list c) (index_has c.as_slice.result.now j low))

pub mark_all-requires-clause-low : goal.mark_all-requires-clause-low
mark_all-requires-clause-low c = λ j low. let t = target (goal.at.mark_all-requires-clause-low c).After-as_slice j low in omega arith

pub mark_all-requires-clause-high : goal.mark_all-requires-clause-high
mark_all-requires-clause-high c = λ j low. let t = target (goal.at.mark_all-requires-clause-high c).After-as_slice j low in
    let to = t.2.to in let cols = c.requires.set.cols in omega arith

same_list_then : (c : After-mark_all) → c.as_slice.result.now ≡ next_places c.kind-kind.result.now (c.args.function.now.entry + c.args.k)
same_list_then c = search rules

marked : (c : After-mark_all) → (s : ℕ) → Goes c.args.program.now c.args.function.now c.args.k s → holds c.mark_all.new.begins s ≡ true
marked c s e =
    let h = in_list c.args.program.now c.requires.well c.requires.function.0 c.args.function.now c.requires.function.1 c.args.k c.requires.place c.kind-kind.result.now c.kind-kind.ensures s e in
    let found = has_index c.as_slice.result.now (c.args.function.now.entry + s) (subst (λ list. has list (c.args.function.now.entry + s) ≡ true) (sym (same_list_then c)) h) in
    let same : slice_index c.as_slice.result.now found.0 - c.args.function.now.entry ≡ s = (let e = found.2 in omega arith) in
    subst (λ x. holds c.mark_all.new.begins x ≡ true) same (c.mark_all.ensures.marked found.0 found.1)

pub returns-then-place-function-clause-cuts : goal.returns-then-place-function-clause-cuts
returns-then-place-function-clause-cuts c =
    let d = (goal.at.returns-then-place-function-clause-cuts c).After-mark_all in
    inr (record {
      there = λ s e. c.add.ensures.adds.kept 0 s (marked d s e);
      behind = λ low. c.add.ensures.adds.there;
    })

pub returns-else-place-function-clause-cuts : goal.returns-else-place-function-clause-cuts
returns-else-place-function-clause-cuts c =
    let d = (goal.at.returns-else-place-function-clause-cuts c).After-mark_all in
    inr (record {
      there = marked d;
      behind = λ low. absurd (omega arith);
    })
