use Rattle.std.proofs.Common.{◌≡◌, ℕ, ◌+◌, ◌-◌, ◌<◌, length, slice_index, true, sym, subst, ◌∙◌, inl, inr, rules, arith}
use Rattle.std.proofs.lemmas.Bool.{cases_eq}
use Rattle.argot_links.specs.Members.{has}
use Rattle.argot_ssa.specs.Edges.{leads}
use Rattle.argot_ssa.specs.Places.{Goes, next_places}
use Rattle.argot_ssa.proofs.Stepping.{listed, in_list, index_has, has_index}
use Rattle.argot_ssa.proofs.net.join_at.Goals as goal
use Rattle.argot_ssa.proofs.net.join_at.Goals.{After-as_slice, After-join_all}

same_list : (c : After-as_slice) → c.as_slice.result.now ≡ next_places c.kind.result.now (c.args.function.now.entry + c.args.k)
same_list c = search rules

target : (c : After-as_slice) → (j : ℕ) → j < length c.as_slice.result.now → (s : ℕ) × (c.args.function.now.entry + s ≡ slice_index c.as_slice.result.now j) × Goes c.args.program.now c.args.function.now c.args.k s
target c j low =
    listed c.args.program.now c.requires.well c.requires.function.0 c.args.function.now c.requires.function.1 c.args.k c.requires.place c.kind.result.now c.kind.ensures _
    (subst (λ list. has list (slice_index c.as_slice.result.now j) ≡ true) (same_list c) (index_has c.as_slice.result.now j low))

pub join_all-requires-clause-low : goal.join_all-requires-clause-low
join_all-requires-clause-low c = λ j low. let t = target (goal.at.join_all-requires-clause-low c).After-as_slice j low in omega arith

pub join_all-requires-clause-high : goal.join_all-requires-clause-high
join_all-requires-clause-high c = λ j low. let t = target (goal.at.join_all-requires-clause-high c).After-as_slice j low in
    let to = t.2.to in let count = c.requires.cut.count in omega arith

same_list_then : (c : After-join_all) → c.as_slice.result.now ≡ next_places c.kind.result.now (c.args.function.now.entry + c.args.k)
same_list_then c = search rules

-- a step from the place stands in the list
at_index : (c : After-join_all) → (s : ℕ) → Goes c.args.program.now c.args.function.now c.args.k s → (j : ℕ) × (j < length c.as_slice.result.now) × (slice_index c.as_slice.result.now j - c.args.function.now.entry ≡ s)
at_index c s e =
    let h = in_list c.args.program.now c.requires.well c.requires.function.0 c.args.function.now c.requires.function.1 c.args.k c.requires.place c.kind.result.now c.kind.ensures s e in
    let found = has_index c.as_slice.result.now (c.args.function.now.entry + s) (subst (λ list. has list (c.args.function.now.entry + s) ≡ true) (sym (same_list_then c)) h) in
    (found.0, found.1, (let e = found.2 in omega arith))

pub returns : goal.returns
returns c =
    let d = (goal.at.returns c).After-as_slice in
    let f = (goal.at.returns c).After-join_all in
    let e = c.in_ok-join_all.ensures in
    record {
      count = e.count ∙ c.requires.cut.count;
      count_back = e.count_back ∙ c.requires.cut.count;
      edge = λ k s low goes is. elim (cases_eq k c.args.k) [
        | inl same ↦
            let found = at_index f s (subst (λ x. Goes c.args.program.now c.args.function.now x s) same goes) in
            let Edge : ℕ → ℕ → Type 0 = λ x y. leads c.join_all.new.net.onward.lists (slice_index c.args.heads.now x) y ≡ true in
            let there = e.there found.0 found.1 (subst (λ x. slice_index c.args.heads.now x ≡ x) (sym found.2) is) in
            subst (λ x. Edge x s) (sym same) (subst (λ y. Edge c.args.k y) found.2 there)
        | inr other ↦ e.kept _ s (c.requires.net.edge k s (omega arith) goes is)
      ];
      only = λ a b h. elim (e.only a b h) [
        | inl old ↦ c.requires.net.only a b old
        | inr new ↦
            let t = target d new.0 new.1 in
            let same : t.0 ≡ b = (let x = t.1 in let y = new.3 in omega arith) in
            (c.args.k, sym new.2, subst (Goes c.args.program.now c.args.function.now c.args.k) same t.2, new.4)
      ];
      mirror = e.mirror;
    }
