use Rattle.std.proofs.Common.{◌≡◌, ◌+◌, List, Some, subst}
use Rattle.std.specs.Prelude.{slice_get}
use Rattle.argot_names_rules.specs.Uses.{IsQualified}
use Rattle.argot_names_blocks.specs.declared.lookup.QualifiedName.{QualifiedName}
use Rattle.argot_names_uses.proofs.Faulty.{dotted_within}
use Rattle.argot_names_uses.proofs.FirstUnresolved.{member_at}
use Rattle.argot_names_uses.specs.Numbers.{StandsBy}
use Rattle.argot_names_uses.specs.UseTables.{Seen}
use Rattle.argot_names_uses.proofs.NodeRoles.{dotted_role, role_there}
use Rattle.argot_names_uses.proofs.Filled.{filled_more, number_there, unless_nothing}
use Rattle.argot_names_uses.proofs.Gone.{seen_member}
use Rattle.argot_names_uses.proofs.Looking.{in_of}
use Rattle.argot_names_uses.proofs.filling.fill_member.Goals as goal

pub member_number-decl-requires : goal.member_number-decl-requires
member_number-decl-requires c = c.requires.names.brings.dotted.sound c.dotted_at-dotted.result (c.args.k, subst (λ (xs : List QualifiedName). slice_get xs c.args.k ≡ Some c.dotted_at-dotted.result) c.deref.ensures.value c.dotted_at-dotted.ensures)

pub member_fault-requires-clause-token : goal.member_fault-requires-clause-token
member_fault-requires-clause-token c =
    let d = c.dotted_at-dotted.result in
    dotted_within c.args.names.now c.requires.names d.token d.member d.node (c.requires.names.brings.dotted.sound d (c.args.k, subst (λ (xs : List QualifiedName). slice_get xs c.args.k ≡ Some d) c.deref.ensures.value c.dotted_at-dotted.ensures))

pub returns-clause-table : goal.returns-clause-table
returns-clause-table c h main home decls lone here filled =
    let n = c.args.names.now in
    let r = c.args.known.now.reached.now in
    let d = c.dotted_at-dotted.result in
    let at = subst (λ (xs : List QualifiedName). slice_get xs c.args.k ≡ Some d) c.deref.ensures.value c.dotted_at-dotted.ensures in
    let dotted = c.requires.names.brings.dotted.sound d (c.args.k, at) in
    let there = role_there _ d.node 2 (dotted_role _ d.token d.member d.node (subst (λ t. IsQualified t d.token d.member d.node) here.names.nodes dotted)) in
    let stands = (in_of h main home decls c.args.known.now n c.args.package c.args.file here).at in
    filled_more h main home decls c.args.known.now n c.args.package c.args.file here (Seen n c.args.file lone c.args.k 0) (Seen n c.args.file lone (c.args.k + 1) 0) ⊥ d.node there.0 there.1 c.args.table.now.items filled (seen_member n c.args.file lone c.args.k d at)
    c.node_number.result c.member_number-decl.result c.put.new.table.items
    (number_there h main home decls c.args.known.now n c.args.package c.args.file here d.node there.0 c.node_number.result there.1 (λ t tree low. c.node_number.ensures h.trees t here.known.bases_are tree low))
    (unless_nothing (StandsBy h home decls c.args.file d.node) c.member_number-decl.result
    (c.member_number-decl.ensures h main home decls c.args.file here.known stands (c.package_meant-import.ensures h main r home stands) (λ number w e is. c.member_of-member.ensures h main c.args.file number w here.known.tops_are here.names e is))) c.put.ensures

pub returns-clause-fault : goal.returns-clause-fault
returns-clause-fault c h main home here =
    let n = c.args.names.now in
    let r = c.args.known.now.reached.now in
    let d = c.dotted_at-dotted.result in
    let at = subst (λ (xs : List QualifiedName). slice_get xs c.args.k ≡ Some d) c.deref.ensures.value c.dotted_at-dotted.ensures in
    member_at h home c.args.file n.bindings.dotted.items c.args.k d c.member_fault.result at
    (c.member_fault.ensures h main home c.args.known.now.tops.now c.args.file here.at (c.package_meant-import.ensures h main r home here.at) (λ number w e is. c.member_of-member.ensures h main c.args.file number w here.at.tops_are here.at.names_are e is))
