use Rattle.argot_names_uses.proofs.Exactly.{no_package, no_member, member_there, member_exactly, import_of, import_in}
use Rattle.argot_names_uses.proofs.member_uses.member_number.Goals as goal

pub returns-in_default : goal.returns-in_default
returns-in_default c h main home decls file known at meant member =
    no_package h home decls file c.args.names.now at.names_are c.args.dotted c.requires c.args.known.now.reached.now c.args.import c.in_default.is meant

pub returns-in-Some-member : goal.returns-in-Some-member
returns-in-Some-member c h main home decls file known at meant member =
    let r = c.args.known.now.reached.now in
    let number = c.in-Some.field-0 in
    let i = import_of h r home file c.args.dotted.token number c.args.import c.in-Some.is meant in
    let is = member number i.import_ c.in-Some.is (import_in h main r home file c.args.dotted.token number i at.reached) in
    let there = member_there h home decls file c.args.names.now at.names_are c.args.dotted c.requires r number i c.args.member c.in-Some-member.top c.in-Some-member.is is in
    member_exactly h home decls file c.args.names.now at.names_are c.args.dotted c.requires r number i c.args.member c.in-Some-member.top c.number_at.result c.in-Some-member.is is (c.number_at.ensures h main decls there.0 known there.1)

pub returns-in-None : goal.returns-in-None
returns-in-None c h main home decls file known at meant member =
    let r = c.args.known.now.reached.now in
    let number = c.in-Some.field-0 in
    let i = import_of h r home file c.args.dotted.token number c.args.import c.in-Some.is meant in
    no_member h home decls file c.args.names.now at.names_are c.args.dotted c.requires r number i c.args.member c.in-None.is (member number i.import_ c.in-Some.is (import_in h main r home file c.args.dotted.token number i at.reached))
