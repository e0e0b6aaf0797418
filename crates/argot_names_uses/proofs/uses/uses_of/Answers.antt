use Rattle.std.proofs.Common.{◌≡◌, sym, subst}
use Rattle.argot_names_rules.specs.Loaded.{count_nodes}
use Rattle.argot_names_uses.specs.Bases.{AreBases}
use Rattle.argot_names_uses.specs.DeclTables.{AreDeclNumbers}
use Rattle.argot_names_uses.specs.Known.{AreKnown}
use Rattle.argot_names_uses.proofs.uses.uses_of.Goals as goal

pub returns-clause-uses : goal.returns-clause-uses
returns-clause-uses c h main same tops decls =
    let bases : AreBases h.trees c.in_ok-bases.bases.items = subst (λ ts. AreBases ts c.in_ok-bases.bases.items) (sym same) c.in_ok-bases.ensures in
    let count : c.node_count-count.result ≡ count_nodes h.trees = c.node_count-count.ensures h.trees (subst (AreBases h.trees) (sym c.deref.ensures.value) bases) in
    let known : AreKnown h main c.args.decls.now (record { bases = c.as_slice.result; numbers = c.as_slice-2.result; reached = c.args.reached; tops = c.args.tops }) = record {
      tops_are = tops;
      decls_are = decls;
      bases_are = subst (AreBases h.trees) (sym c.as_slice.ensures.value) bases;
      numbers_are = subst (AreDeclNumbers c.args.decls.now (count_nodes h.trees)) (sym c.as_slice-2.ensures.value) (subst (λ k. AreDeclNumbers c.args.decls.now k c.in_ok-numbers.numbers.items) count c.in_ok-numbers.ensures);
    } in
    c.uses_in.ensures.uses h main c.args.decls.now known count

pub returns-clause-some : goal.returns-clause-some
returns-clause-some c h main tops = c.uses_in.ensures.some h main tops

pub returns-clause-none : goal.returns-clause-none
returns-clause-none c h main tops = c.uses_in.ensures.none h main tops
