use Rattle.std.proofs.Common.{length, ap, subst}
use Rattle.argot_files.proofs.Forming.{formed}
use Rattle.argot_names_blocks.specs.Listing.{AreBindings}
use Rattle.argot_names_scopes.specs.News.{AreNews}
use Rattle.argot_names_scopes.specs.Shapes.{AreShapes}
use Rattle.argot_names_scopes.specs.Tables.{AreFirstNames, AreLinks}
use Rattle.argot_names_scopes.proofs.file.names_of.Goals as goal

pub new-requires : goal.new-requires
new-requires c = formed c.args.tree.now c.requires.0 c.requires.1

pub returns-clause-names : goal.returns-clause-names
returns-clause-names c =
    let b = c.args.bytes.now in
    let t = c.args.tokens.now in
    record {
      spelled = c.requires.0;
      spells = c.requires.1;
      brings = subst (λ ns. AreBindings ns c.in_ok-bindings.bindings) (ap (λ f. f.nodes) c.in_ok-file.ensures) c.in_ok-bindings.ensures;
      first_names = subst (λ bs. AreFirstNames b t bs (length bs) c.in_ok-firsts.firsts) c.deref.ensures.value c.in_ok-firsts.ensures;
      are_new = subst (λ bs. AreNews b t bs c.in_ok-news.news.items) c.deref-2.ensures.value c.in_ok-news.ensures;
      links = subst (λ ns. AreLinks b t c.in_ok-bindings.bindings.brought.items ns c.in_ok-links.links) c.deref-4.ensures.value (subst (λ bs. AreLinks b t bs c.deref-4.result.now c.in_ok-links.links) c.deref-3.ensures.value c.in_ok-links.ensures);
      shapes = subst (λ bs. AreShapes b t bs (length bs) c.in_ok-shapes.shapes.items) c.deref-5.ensures.value c.in_ok-shapes.ensures;
    }
