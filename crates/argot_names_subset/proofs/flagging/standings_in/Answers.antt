use Rattle.std.proofs.Common.{◌<◌, length, subst, sym, ap, ◌∙◌}
use Rattle.argot_names_rules.specs.Lists.{In}
use Rattle.argot_names_subset.proofs.Forming.{count_whole}
use Rattle.argot_names_subset.proofs.flagging.standings_in.Goals as goal

pub standings_of-requires-clause-within : goal.standings_of-requires-clause-within
standings_of-requires-clause-within c = λ u i.
    subst (λ n. u.node < n) (sym (count_whole c.args.trees.now (length c.as_slice-marks.result.now) (ap length c.as_slice-marks.ensures.value ∙ c.in_ok-types.ensures.as_long))) (c.requires.within u (subst (In u) c.as_slice-uses.ensures i))
