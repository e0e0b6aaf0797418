use Rattle.argot_io.proofs.Listings.{listing_more}
use Rattle.argot_io.proofs.entries.listed.Goals as goal

pub loop-entry-preserved : goal.loop-entry-preserved
loop-entry-preserved c =
    let more = listing_more c.args.dir.now c.args.entries.now c.loop-entry.entry-index c.entry-item.result c.loop-entry-test.true
    in cc (more, c.in_ok-push_after.ensures, c.as_str.ensures.value, c.in_ok-prefix.ensures, c.as_str-in-loop-entry.ensures)
