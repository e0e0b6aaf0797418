use Rattle.std.proofs.Common.{◌≡◌, Some, sym, ◌∙◌, subst}
use Rattle.std.specs.Prelude.{slice_get}
use Rattle.argot_names_rules.specs.Scopes.{Means, Declared}
use Rattle.argot_names_uses.proofs.Numbering.{some_is}
use Rattle.argot_names_uses.proofs.Meanings.{means_there, meant_exactly}
use Rattle.argot_names_uses.proofs.numbers.import_number.Goals as goal

pub returns-in-Some : goal.returns-in-Some
returns-in-Some c h main home decls token name known m =
    let node : m.import_.node ≡ c.in-Some.node = some_is m.import_.node c.in-Some.node (sym (c.node_of.ensures m.import_ (subst (λ ws. slice_get ws c.args.import ≡ Some m.import_) (sym c.deref.ensures.value) m.there)) ∙ c.in-Some.is) in
    let means : Means h home c.args.file token name (Declared c.args.file c.in-Some.node) = subst (λ x. Means h home c.args.file token name (Declared c.args.file x)) node m.means in
    let n = means_there h home c.args.file token name c.args.file c.in-Some.node means in
    meant_exactly h home c.args.file token name decls (Declared c.args.file c.in-Some.node) c.number_at.result means (c.number_at.ensures h main decls n.0 known n.1)
