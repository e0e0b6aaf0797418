use Rattle.std.proofs.Common.{◌++◌, sym, ◌∙◌, ap, subst}
use Rattle.argot_names_rules.specs.Loaded.{Declares}
use Rattle.argot_names_uses.specs.Items.{AreItems}
use Rattle.argot_names_uses.specs.Bases.{AreBases}
use Rattle.argot_names_uses.proofs.decls.decls_of.Goals as goal

pub returns : goal.returns
returns c = λ h main same tops.
    let r = c.args.reached.now in
    let bases : AreBases h.trees c.in_ok-bases.bases.items = subst (λ ts. AreBases ts c.in_ok-bases.bases.items) (sym same) c.in_ok-bases.ensures in
    let items = c.in_ok-items.ensures h main (subst (AreBases h.trees) (sym c.deref.ensures.value) bases) tops in
    let known = subst (AreItems h r (Declares h)) (sym c.deref-2.ensures.value) items in
    let count = c.node_count.ensures h.trees (subst (AreBases h.trees) (sym c.deref-3.ensures.value) bases) in
    record {
      others = c.in_ok-others.others.items;
      is = c.in_ok-append.ensures.items ∙ ap (λ ds. ds ++ c.in_ok-others.others.items) c.in_ok-decls.ensures;
      others_are = c.in_ok-others.ensures h main r c.args.tops.now tops known count;
    }
