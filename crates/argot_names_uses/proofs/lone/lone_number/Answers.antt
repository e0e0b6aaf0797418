use Rattle.std.proofs.Common.{sym, subst}
use Rattle.argot_tree.specs.declared.node_kind.NodeKind.TheVariants as nodes
use Rattle.argot_names_rules.specs.Files.{read_of, text_at}
use Rattle.argot_names_rules.specs.Nodes.{Is}
use Rattle.argot_names_uses.proofs.Exactly.{lone_exactly}
use Rattle.argot_names_uses.proofs.lone.lone_number.Goals as goal

pub returns : goal.returns
returns c h main home decls known names named means =
    lone_exactly h home decls c.args.file c.args.names.now names c.args.looked c.requires c.meant_number.result named
    (λ q. let never = c.if-is_qualified.ensures.1 (subst (λ t. Is t c.args.looked.node nodes.QualifiedType) (sym c.as_slice.ensures) q) in absurd (cc))
    (c.meant_number.ensures h main home decls c.args.looked.token (text_at (read_of h c.args.file) c.args.looked.token) known means)
