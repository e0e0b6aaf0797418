use Rattle.std.proofs.Common.{◌+◌, sym, ap, ◌∙◌, arith, take, drop, get_or}
use Rattle.std.proofs.lemmas.Option.{slice_get-get_or}
use Rattle.argot_text.specs.declared.path.PathStep.TheVariants.{Element}
use Rattle.argot_facts.specs.Numbers.{with_prefixes}
use Rattle.argot_points_rules.proofs.Compared.{next_prefix}
use Rattle.argot_points_rules.proofs.paths.add_prefixes.Goals as goal

pub loop-n-preserved : goal.loop-n-preserved
loop-n-preserved c =
    let leaf = c.args.leaf.now in
    let n = c.loop-n.n in
    let front = take (n + 1) leaf in
    let rest = drop (n + 1) leaf in
    ap (λ qs. with_prefixes qs front rest) c.in_ok-add_path.ensures
    ∙ sym (next_prefix c.loop-n.paths.items leaf n (get_or leaf n Element) (slice_get-get_or leaf n Element (omega arith))) ∙ c.loop-n.invariant
