use Rattle.std.proofs.Common.{subst, arith}
use Rattle.argot_names_blocks.specs.declared.bindings.Lookup.{Lookup}
use Rattle.argot_names_blocks.specs.declared.binding.Binding.{Binding}
use Rattle.argot_names_blocks.specs.declared.lookup.QualifiedName.{QualifiedName}
use Rattle.argot_names_blocks.specs.declared.tops.TopName.{TopName}
use Rattle.argot_names_blocks.specs.Binding.{IsBinding}
use Rattle.argot_names_blocks.specs.Blocks.{AreBlocks}
use Rattle.argot_names_blocks.specs.Generics.{BeginBefore}
use Rattle.argot_names_blocks.specs.Listing.{ListsAll, IsSeen, IsMemberName, IsTopDeclared, AreGenerics, TellsDot}
use Rattle.argot_names_blocks.proofs.bindings.bindings_of.Goals as goal

pub returns : goal.returns
returns c =
    let nodes = c.nodes-nodes.ensures.nodes in
    let begin : BeginBefore c.args.file.now.nodes c.count_tokens.result = subst (λ ns. BeginBefore ns c.count_tokens.result) nodes c.count_tokens.ensures in
    record {
      blocks = subst (λ ns. AreBlocks ns c.in_ok-blocks.blocks.items) nodes c.in_ok-blocks.ensures;
      brought = subst (λ ns. ListsAll (λ (x : Binding). x.node) (IsBinding ns) c.in_ok-brought.brought.items) nodes c.in_ok-brought.ensures;
      tops = subst (λ ns. ListsAll (λ (x : TopName). x.node) (IsTopDeclared ns) c.in_ok-tops.tops.items) nodes c.in_ok-tops.ensures;
      looked = subst (λ ns. ListsAll (λ (x : Lookup). x.node) (IsSeen ns) c.in_ok-looked.looked.items) nodes c.in_ok-looked.ensures;
      dotted = subst (λ ns. ListsAll (λ (x : QualifiedName). x.node) (IsMemberName ns) c.in_ok-dotted.dotted.items) nodes c.in_ok-dotted.ensures;
      generics = subst (λ ns. AreGenerics ns c.in_ok-generics.generics.items) nodes c.in_ok-generics.ensures.each;
      as_long = λ k n e. omega (arith, begin k n e, c.in_ok-generics.ensures.long);
      dot = subst (λ ns. TellsDot ns c.has_dot.result) nodes c.has_dot.ensures;
    }
