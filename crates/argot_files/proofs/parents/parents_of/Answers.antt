use Rattle.std.proofs.Common.{length, refl, arith}
use Rattle.std.proofs.lemmas.Option.{slice_get-get_or, slice_get_read}
use Rattle.argot_files.specs.Links.{to_child, to_sibling}
use Rattle.argot_files.proofs.Parenting.{put_both, put_as_long, leads_within, all_put}
use Rattle.argot_files.proofs.parents.parents_of.Goals as goal

pub link-requires : goal.link-requires
link-requires c = λ x is.
    omega (arith, leads_within c.args.nodes.now c.args.nodes.now c.loop-k.k x _ refl c.requires (slice_get-get_or _ _ _ c.loop-k-test.true) (to_child is), c.loop-k.invariant.as_long)

pub link-requires-in-loop-k : goal.link-requires-in-loop-k
link-requires-in-loop-k c = λ x is.
    omega (arith, leads_within c.args.nodes.now c.args.nodes.now c.loop-k.k x _ refl c.requires (slice_get-get_or _ _ _ c.loop-k-test.true) (to_sibling is), c.loop-k.invariant.as_long, put_as_long c.loop-k.parents.items _ _ _ c.link.ensures)

pub loop-k-preserved : goal.loop-k-preserved
loop-k-preserved c =
    put_both c.args.nodes.now c.args.nodes.now c.loop-k.k _ c.loop-k.parents.items c.link.new.parents.items _ c.index-parent.result.now refl c.requires c.loop-k.invariant (slice_get-get_or _ _ _ c.loop-k-test.true) c.link.ensures
    (slice_get_read c.link.new.parents.items (length c.args.nodes.now) c.loop-k.k c.index-parent.result.now
    (omega (arith, c.loop-k.invariant.as_long, put_as_long c.loop-k.parents.items _ _ _ c.link.ensures))
    (omega (arith, c.loop-k-test.true))
    c.index-parent.ensures)
    c.link-in-loop-k.ensures

pub returns : goal.returns
returns c = all_put c.args.nodes.now c.loop-k.k c.loop-k.parents.items (omega (arith, c.loop-k-test.false)) c.loop-k.invariant
