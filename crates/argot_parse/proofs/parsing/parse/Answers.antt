use Rattle.std.proofs.Common.{◌≡◌, length, subst, ◌∙◌, arith}
use Rattle.argot_tree.specs.Nesting.{IsShallow}
use Rattle.argot_tree.specs.Trees.{SpellsNodes}
use Rattle.argot_tree.specs.Grammar.{File}
use Rattle.argot_parse.specs.Parsed.{SpellsNoTree}
use Rattle.argot_parse.proofs.Trees.{file_tree, unread, read_short, syntax_fault}
use Rattle.argot_parse.proofs.parsing.parse.Goals as goal

pub returns-in_default-2-clause-fault : goal.returns-in_default-2-clause-fault
returns-in_default-2-clause-fault c =
    let tokens = c.args.tokens.now.items in
    let same = c.deref-2.ensures.value in
    let long = c.deref-2.ensures.len in
    let gives = rw c.in_default-2.is at c.in_ok-to.ensures in
    let shallow : IsShallow tokens = subst IsShallow c.deref.ensures.value c.in_default.ensures.shallow in
    let none : SpellsNoTree tokens = subst SpellsNoTree same (unread c.deref-2.result.now _ c.new.result.items c.new.ensures.items (omega arith) gives.0) in
    syntax_fault tokens c.syntax.result c.syntax.ensures.syntax shallow none

pub returns-then-to-len-clause-fault : goal.returns-then-to-len-clause-fault
returns-then-to-len-clause-fault c =
    let tokens = c.args.tokens.now.items in
    let same = c.deref-2.ensures.value in
    let long = c.deref-2.ensures.len in
    let gives = rw c.in-Some-2.is at c.in_ok-to.ensures in
    let shallow : IsShallow tokens = subst IsShallow c.deref.ensures.value c.in_default.ensures.shallow in
    let none : SpellsNoTree tokens = subst SpellsNoTree same (read_short c.deref-2.result.now _ c.in-Some-2.to c.new.result.items c.file.new.out.posts.items c.new.ensures.items (omega arith) gives (λ e. c.if-to-len.true (omega arith))) in
    syntax_fault tokens c.syntax-then-to-len.result c.syntax-then-to-len.ensures.syntax shallow none

pub returns-clause-tree : goal.returns-clause-tree
returns-clause-tree c =
    let tokens = c.args.tokens.now.items in
    let same = c.deref-2.ensures.value in
    let long = c.deref-2.ensures.len in
    let gives = rw c.in-Some-2.is at c.in_ok-to.ensures in
    let whole : c.in-Some-2.to ≡ length c.deref-2.result.now = omega arith in
    subst (λ ts. SpellsNodes ts File c.from_vec.result 0 (length ts)) same
    (file_tree c.deref-2.result.now _ c.in-Some-2.to c.new.result.items c.file.new.out.posts.items c.from_vec.result c.new.ensures.items gives whole
    (λ x e. c.from_vec.ensures ∙ c.in_ok-nodes.ensures x e))
