use Rattle.std.proofs.Common.{◌≡◌, [], length, reverse, subst, sym, ap, ◌∙◌, arith}
use Rattle.std.proofs.lemmas.Grind.{common_steps}
use Rattle.argot_parse_nodes.specs.Links.{linked}
use Rattle.argot_parse_nodes.specs.Linker.{seen, IsUnlinked}
use Rattle.argot_parse_nodes.proofs.LinkLaws.{linked_whole}
use Rattle.argot_parse_nodes.proofs.linking.link.Goals as goal

pub returns : goal.returns
returns c = λ x e.
    let count : c.in-Ok.count ≡ length c.args.behind.items = grind (arith, common_steps) in
    let empty : c.loop-post.behind.items ≡ [] = grind (arith, common_steps) in
    let unlinked : IsUnlinked c.in_ok-linker.linker (length c.args.behind.items) = subst (IsUnlinked c.in_ok-linker.linker) count c.in_ok-linker.ensures in
    c.reverse.ensures.items
    ∙ linked_whole x c.args.behind.items c.in_ok-linker.linker c.loop-post.linker e unlinked (ap (λ l. linked (reverse l) (seen c.loop-post.linker)) (sym empty) ∙ c.loop-post.invariant)
