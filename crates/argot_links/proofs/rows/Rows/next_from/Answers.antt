use Rattle.std.proofs.Common.{refl, ◌∙◌}
use Rattle.argot_links.proofs.Tables.{has-table, row_in, cols-table}
use Rattle.argot_links.proofs.rows.Rows.next_from.Goals as goal

pub next_from-requires : goal.next_from-requires
next_from-requires c = record { row = row_in _ _ c.self.view_is _ c.requires.row }

pub returns-in_err-c-clause-none : goal.returns-in_err-c-clause-none
returns-in_err-c-clause-none c = λ _ b l. rw (← c.self.view_is) (has-table c.self.inside.bits c.self.invariant c.args.r b ∙ c.in_err-c.ensures.none refl b l)

pub returns-clause-found : goal.returns-clause-found
returns-clause-found c =
    let found = c.in_ok-c.ensures.found in
    (found.0, rw (← c.self.view_is, cols-table c.self.inside.bits) c.in_ok-c.ensures.column, rw (← c.self.view_is) (has-table c.self.inside.bits c.self.invariant c.args.r c.in_ok-c.c ∙ found.1))

pub returns-clause-first : goal.returns-clause-first
returns-clause-first c = λ b l m. rw (← c.self.view_is) (has-table c.self.inside.bits c.self.invariant c.args.r b ∙ c.in_ok-c.ensures.first b l m)
