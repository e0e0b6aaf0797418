use Rattle.std.proofs.Common.{◌≡◌, sym, subst, ◌∙◌}
use Rattle.argot_names_blocks.specs.Looking.{is_key_of}
use Rattle.argot_names_blocks.proofs.LooksUp.{only_key, all_keys}
use Rattle.argot_names_subset_file.proofs.links.is_lone_key.Goals as goal

pub returns : goal.returns
returns c =
    let ns = c.args.file.now.nodes in
    let ps = c.parents.result.now in
    let is : c.is_key.result ≡ is_key_of ns ps c.args.k = subst (λ xs. c.is_key.result ≡ is_key_of xs ps c.args.k) c.nodes.ensures.nodes c.is_key.ensures in (
      λ yes. only_key ns ps c.parents.ensures c.args.k (sym is ∙ yes),
      λ key. is ∙ all_keys ns ps c.parents.ensures c.args.k key,
    )
