use Rattle.std.proofs.Common.{◌≡◌, ◌+◌, List, Some, None, refl, subst}
use Rattle.std.specs.Prelude.{slice_get}
use Rattle.argot_tree.specs.declared.node_kind.NodeKind.TheVariants as nodes
use Rattle.argot_names_rules.specs.Loaded.{number_of}
use Rattle.argot_names_rules.specs.Nodes.{Is}
use Rattle.argot_names_rules.specs.Uses.{IsLookup}
use Rattle.argot_names_blocks.specs.declared.bindings.Lookup.{Lookup}
use Rattle.argot_names_uses.proofs.Faulty.{lone_blank}
use Rattle.argot_names_uses.proofs.FirstUnresolved.{lone_at}
use Rattle.argot_names_uses.specs.UseTables.{Seen}
use Rattle.argot_names_uses.proofs.Exactly.{blank_exactly}
use Rattle.argot_names_uses.proofs.Filled.{filled_more, number_there}
use Rattle.argot_names_uses.proofs.Gone.{looked_there, seen_lone}
use Rattle.argot_names_uses.proofs.Looking.{text, meaning, named}
use Rattle.argot_names_uses.proofs.filling.fill_lone.Goals as goal

pub lone_number-decl-requires : goal.lone_number-decl-requires
lone_number-decl-requires c = c.requires.names.brings.looked.sound c.looked_at-looked.result (c.args.k, subst (λ (xs : List Lookup). slice_get xs c.args.k ≡ Some c.looked_at-looked.result) c.deref.ensures.value c.looked_at-looked.ensures)

pub lone_fault-requires-clause-seen : goal.lone_fault-requires-clause-seen
lone_fault-requires-clause-seen c = c.requires.names.brings.looked.sound c.looked_at-looked.result (c.args.k, subst (λ (xs : List Lookup). slice_get xs c.args.k ≡ Some c.looked_at-looked.result) c.deref.ensures.value c.looked_at-looked.ensures)

pub returns-then-is_blank-clause-table : goal.returns-then-is_blank-clause-table
returns-then-is_blank-clause-table c h main home decls here filled =
    let n = c.args.names.now in
    let l = c.looked_at-looked.result in
    let at = subst (λ (xs : List Lookup). slice_get xs c.args.k ≡ Some l) c.deref.ensures.value c.looked_at-looked.ensures in
    let seen = c.requires.names.brings.looked.sound l (c.args.k, at) in
    let there = looked_there _ l.node l.token (subst (λ t. IsLookup t l.node l.token) here.names.nodes seen.looked) in
    let name = c.spelled_at-name.result.now in
    filled_more h main home decls c.args.known.now n c.args.package c.args.file here (Seen n c.args.file c.args.k 0 0) (Seen n c.args.file (c.args.k + 1) 0 0) (Is n.tree.now.nodes l.node nodes.QualifiedType) l.node there.0 there.1 c.args.table.now.items
    filled (seen_lone n c.args.file c.args.k l at) (Some (number_of h c.args.file l.node)) None c.args.table.now.items refl
    (blank_exactly h home decls c.args.file n here.names l seen name (text h home c.args.file n here.names l.token name c.spelled_at-name.ensures) (c.if-is_blank.ensures.0 refl)) refl

pub returns-then-is_blank-clause-fault : goal.returns-then-is_blank-clause-fault
returns-then-is_blank-clause-fault c h main home here =
    let n = c.args.names.now in
    let l = c.looked_at-looked.result in
    let at = subst (λ (xs : List Lookup). slice_get xs c.args.k ≡ Some l) c.deref.ensures.value c.looked_at-looked.ensures in
    let name = c.spelled_at-name.result.now in
    let is = here.at.names_are in
    lone_at h home c.args.file n.bindings.looked.items c.args.k l None at (lone_blank h home c.args.file n is l name (text h home c.args.file n is l.token name c.spelled_at-name.ensures) (c.if-is_blank.ensures.0 refl))

pub returns-clause-table : goal.returns-clause-table
returns-clause-table c h main home decls here filled =
    let n = c.args.names.now in
    let l = c.looked_at-looked.result in
    let at = subst (λ (xs : List Lookup). slice_get xs c.args.k ≡ Some l) c.deref.ensures.value c.looked_at-looked.ensures in
    let seen = c.requires.names.brings.looked.sound l (c.args.k, at) in
    let there = looked_there _ l.node l.token (subst (λ t. IsLookup t l.node l.token) here.names.nodes seen.looked) in
    let name = c.spelled_at-name.result.now in
    let r = c.args.known.now.reached.now in
    filled_more h main home decls c.args.known.now n c.args.package c.args.file here (Seen n c.args.file c.args.k 0 0) (Seen n c.args.file (c.args.k + 1) 0 0) (Is n.tree.now.nodes l.node nodes.QualifiedType) l.node there.0 there.1 c.args.table.now.items
    filled (seen_lone n c.args.file c.args.k l at) c.node_number.result c.lone_number-decl.result c.put.new.table.items
    (number_there h main home decls c.args.known.now n c.args.package c.args.file here l.node there.0 c.node_number.result there.1 (λ t tree low. c.node_number.ensures h.trees t here.known.bases_are tree low))
    (c.lone_number-decl.ensures h main home decls here.known here.names
    (named h home c.args.file n here.names l.token name c.spelled_at-name.ensures (λ b. let never = c.if-is_blank.ensures.1 b in absurd (cc)))
    (meaning h home c.args.file n here.names l.token name c.spelled_at-name.ensures r c.meaning_of-meaning.result (c.meaning_of-meaning.ensures h main r home here.known.tops_are here.names here.in_home here.reached)))
    c.put.ensures

pub returns-clause-fault : goal.returns-clause-fault
returns-clause-fault c h main home here =
    let n = c.args.names.now in
    let l = c.looked_at-looked.result in
    let at = subst (λ (xs : List Lookup). slice_get xs c.args.k ≡ Some l) c.deref.ensures.value c.looked_at-looked.ensures in
    let name = c.spelled_at-name.result.now in
    let r = c.args.known.now.reached.now in
    lone_at h home c.args.file n.bindings.looked.items c.args.k l c.lone_fault.result at
    (c.lone_fault.ensures h main r home c.args.known.now.tops.now c.args.file here.at
    (meaning h home c.args.file n here.at.names_are l.token name c.spelled_at-name.ensures r c.meaning_of-meaning.result (c.meaning_of-meaning.ensures h main r home here.at.tops_are here.at.names_are here.in_home here.at.reached)))
