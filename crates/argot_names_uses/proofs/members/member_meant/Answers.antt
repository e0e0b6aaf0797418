use Rattle.std.proofs.Common.{◌≡◌, Some, sym, subst, ◌∙◌}
use Rattle.argot_names_rules.specs.Packages.{Finds}
use Rattle.argot_names_imports.specs.declared.written.Written.{Written}
use Rattle.argot_names_uses.proofs.Membership.{found_reached, not_exported, no_target, in_target}
use Rattle.argot_names_uses.proofs.members.member_meant.Goals as goal

some_is : (v w : Written) → Some v ≡ Some w → v ≡ w
some_is v w e = cc

pub returns-then-not-is_exported : goal.returns-then-not-is_exported
returns-then-not-is_exported c h main w tops is = not_exported h w.path c.args.name.now (c.is_exported.ensures.none c.if-not-is_exported.true)

pub returns-in-Some : goal.returns-in-Some
returns-in-Some c h main w tops is =
    let f = c.in-Some.ensures.some h main tops.reach in
    let same : f.import_ ≡ w = some_is f.import_ w (sym f.is_import ∙ is.there) in
    in_target h w.path c.args.name.now f.home c.top_meant.result (subst (λ (x : Written). Finds h x.path f.home) same f.finds) (c.is_exported.ensures.there c.if-not-is_exported.false)
    (c.top_meant.ensures.some h main c.args.reached.now f.home tops f.in_home) (λ file node place. c.top_meant.ensures.none h main c.args.reached.now f.home file node place tops f.in_home)

pub returns-in-None : goal.returns-in-None
returns-in-None c h main w tops is = no_target h w.path c.args.name.now (λ target finds.
    c.in-None.ensures.none h main tops.reach w target is.there finds (found_reached h main c.args.reached.now c.args.import w target tops.reach is finds))
