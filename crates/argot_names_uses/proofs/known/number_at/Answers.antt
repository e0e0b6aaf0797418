use Rattle.std.proofs.Common.{◌≡◌, ◌<◌, ℕ, sym, ◌∙◌, subst}
use Rattle.std.specs.Prelude.{IfSome, IfNone}
use Rattle.argot_names_rules.specs.Loaded.{number_of, count_nodes}
use Rattle.argot_names_imports.specs.Reached.{homes_of}
use Rattle.argot_names_uses.specs.DeclTables.{IsOfNode}
use Rattle.argot_names_uses.proofs.NumberedNodes.{tree_of, number_below}
use Rattle.argot_names_uses.proofs.Numbering.{some_is, node_number_is}
use Rattle.argot_names_uses.proofs.known.number_at.Goals as goal

pub returns-in-Some : goal.returns-in-Some
returns-in-Some c h main decls n known there =
    let t = tree_of h c.args.file c.args.node n there in
    let number : c.in-Some.number ≡ number_of h c.args.file c.args.node = some_is c.in-Some.number (number_of h c.args.file c.args.node) (sym c.in-Some.is ∙ c.node_number.ensures h.trees t.0 known.bases_are t.1 t.2) in
    node_number_is h (homes_of h c.args.known.now.reached.now) decls known.decls_are c.args.file c.args.node c.decl_number.result
    (subst (λ x. IfSome c.decl_number.result (λ k. IsOfNode decls k x)) number (c.decl_number.ensures.some decls (count_nodes h.trees) known.numbers_are))
    (subst (λ x. IfNone c.decl_number.result ((k : ℕ) → IsOfNode decls k x → ⊥)) number (c.decl_number.ensures.none decls (count_nodes h.trees) known.numbers_are (subst (λ x. x < count_nodes h.trees) (sym number) (number_below h c.args.file c.args.node n there))))

pub returns-in-None : goal.returns-in-None
returns-in-None c h main decls n known there =
    let t = tree_of h c.args.file c.args.node n there in
    let some = c.node_number.ensures h.trees t.0 known.bases_are t.1 t.2 in
    let none = c.in-None.is in
    absurd (cc)
