use Rattle.std.proofs.Common.{◌≡◌, Some, ap, sym, subst, arith, length}
use Rattle.std.specs.Prelude.{slice_get}
use Rattle.argot_names_scopes.specs.Tables.{IsLastNew}
use Rattle.argot_names_scopes.proofs.Seeking.{begin, sought_on, falls, in_list, all_sought}
use Rattle.argot_names_scopes.proofs.meant.block_meant.Goals as goal

pub loop-at-init : goal.loop-at-init
loop-at-init c =
    begin c.args.names.now.bytes.now c.args.names.now.tokens.now c.args.names.now.bindings.brought.items c.args.names.now.news.items c.args.token c.args.name.now c.args.opens c.number_at-at.result
    (subst (IsLastNew c.args.names.now.bytes.now c.args.names.now.tokens.now c.args.names.now.bindings.brought.items c.args.names.now.news.items c.args.opens c.args.name.now (length c.args.names.now.bindings.brought.items)) (sym c.number_at-at.ensures) (c.requires.links.are_last c.args.opens c.args.name.now))

pub consider-best-requires : goal.consider-best-requires
consider-best-requires c = in_list c.args.names.now c.args.token c.args.name.now c.args.opens c.in-Some.k c.loop-at.at c.loop-at.best c.loop-at.invariant c.in-Some.is

pub before_at-at-requires : goal.before_at-at-requires
before_at-at-requires c =
    omega (arith, in_list c.args.names.now c.args.token c.args.name.now c.args.opens c.in-Some.k c.loop-at.at c.loop-at.best c.loop-at.invariant c.in-Some.is, c.requires.links.as_long, ap length c.deref.ensures.value)

pub loop-at-smaller : goal.loop-at-smaller
loop-at-smaller c =
    falls c.args.names.now c.args.token c.args.name.now c.args.opens c.in-Some.k c.loop-at.at c.before_at-at.result c.loop-at.best c.requires.links.are_before c.loop-at.invariant c.in-Some.is
    (subst (λ x. slice_get x c.in-Some.k ≡ Some c.before_at-at.result) c.deref.ensures.value c.before_at-at.ensures)

pub loop-at-preserved : goal.loop-at-preserved
loop-at-preserved c =
    sought_on c.args.names.now c.args.token c.args.name.now c.args.opens c.in-Some.k c.loop-at.at c.before_at-at.result c.loop-at.best c.consider-best.result c.requires.links.are_before c.loop-at.invariant c.in-Some.is c.consider-best.ensures
    (subst (λ x. slice_get x c.in-Some.k ≡ Some c.before_at-at.result) c.deref.ensures.value c.before_at-at.ensures)

pub returns : goal.returns
returns c =
    all_sought c.args.names.now.bytes.now c.args.names.now.tokens.now c.args.names.now.bindings.brought.items c.args.names.now.news.items c.args.token c.args.name.now c.args.opens c.loop-at.at c.loop-at.best c.loop-at.invariant c.in_default.is
