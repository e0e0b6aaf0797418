use Rattle.std.proofs.Common.{◌≡◌, ℕ, ◌+◌, ◌-◌, slice_index, refl, sym, subst, inl, inr, arith}
use Rattle.std.proofs.lemmas.Bool.{cases_eq, cases_lt, both_ways}
use Rattle.argot_plain.specs.Lists.{In}
use Rattle.argot_ssa.specs.Places.{defines_at, IsLocal}
use Rattle.argot_ssa.specs.Paths.{Row, IsLocalRow}
use Rattle.argot_ssa.proofs.Rows.{in_kept, in_pushed, in_cases}
use Rattle.argot_ssa.proofs.asks.read_one.Goals as goal
use Rattle.argot_ssa.proofs.asks.read_one.Goals.{After-push}

abbrev last : After-push → ℕ
last c = slice_index c.args.latest.now c.args.r

abbrev row : After-push → Row
row c = (c.args.function.now.entry + c.args.k, c.args.r, c.args.function.now.entry + (last c - 1))

is_local : (c : After-push) → IsLocal c.args.heads.now (defines_at c.args.program.now c.args.function.now c.args.r) (last c - 1) c.args.k
is_local c =
    let v = c.requires.latest c.args.r c.requires.register in
    let below = v.below in
    let behind = c.if-last-heads.false in
    record { low = omega arith; high = omega arith; defines_it = v.is (omega arith); last = λ j l u. v.none j (omega arith) u }

pub returns-clause-rows_kept : goal.returns-clause-rows_kept
returns-clause-rows_kept c = λ x h. subst (In x) (sym c.in_ok-push.ensures.items) (in_kept _ x h)

pub returns-clause-rows_only : goal.returns-clause-rows_only
returns-clause-rows_only c = λ x h.
    let d = (goal.at.returns-clause-rows_only c).After-push in
    elim (in_cases c.args.rows.now.items (row d) x (subst (In x) c.in_ok-push.ensures.items h)) [
      | inl old ↦ inl old
      | inr new ↦ inr (subst (IsLocalRow c.args.program.now c.args.function.now c.args.heads.now c.args.k) (sym new)
          (record { d = last d - 1; place = refl; definition = refl; read = c.requires.read; is_local = is_local d }))
    ]

pub returns-clause-rows_there : goal.returns-clause-rows_there
returns-clause-rows_there c = λ d here.
    let e = (goal.at.returns-clause-rows_there c).After-push in
    let v = c.requires.latest c.args.r c.requires.register in
    let below = v.below in
    let behind = c.if-last-heads.false in
    let up = here.high in
    let same : d ≡ last e - 1 = elim (cases_lt d (last e - 1)) [
      | inl less ↦ absurd (both_ways _ (here.last (last e - 1) (omega arith) (omega arith)) (v.is (omega arith)))
      | inr more ↦ elim (cases_eq d (last e - 1)) [
        | inl is ↦ is
        | inr other ↦ absurd (both_ways _ (v.none d (omega arith) (omega arith)) here.defines_it)
      ]
    ] in
    let new : In (row e) c.push.new.self.items = subst (In (row e)) (sym c.in_ok-push.ensures.items) (in_pushed c.args.rows.now.items (row e)) in
    let At : ℕ → Row = λ x. (c.args.function.now.entry + c.args.k, c.args.r, c.args.function.now.entry + x) in
    subst (λ x. In (At x) c.push.new.self.items) (sym same) new
