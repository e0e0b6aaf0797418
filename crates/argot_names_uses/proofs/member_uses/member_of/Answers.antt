use Rattle.std.proofs.Common.{sym, ◌∙◌, subst}
use Rattle.argot_names_uses.specs.Members.{IsImportOf, IsMemberMeant}
use Rattle.argot_names_uses.proofs.Faulty.{text_is}
use Rattle.argot_names_uses.proofs.Numbering.{some_is}
use Rattle.argot_names_uses.proofs.member_uses.member_of.Goals as goal

pub returns-in-Some : goal.returns-in-Some
returns-in-Some c h main file number w tops names e is =
    let own = subst (λ k. IsImportOf h main c.args.known.now.reached.now k w) (some_is number c.in-Some.number (sym e ∙ c.in-Some.is)) is in
    subst (λ t. IsMemberMeant h w.path t c.member_meant.result) (text_is h is.home file c.args.names.now names c.args.dotted.member c.spelled_of.result.now c.spelled_of.ensures) (c.member_meant.ensures h main w tops own)

pub returns-in-None : goal.returns-in-None
returns-in-None c h main file number w tops names e is = let never = sym e ∙ c.in-None.is in absurd (cc)
