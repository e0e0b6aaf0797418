use Rattle.std.proofs.Common.{◌≡◌}
use Rattle.serde_json.specs.View.{members_view}
use Rattle.argot_config_read.specs.Shapes.{keys_of, unknown_keys}
use Rattle.argot_config_read.specs.Table.{keys_for}
use Rattle.argot_config_read.proofs.objects.expect_known.Given as goal

abbrev pub invariant-loop-key : goal.invariant-loop-key
invariant-loop-key l =
    unknown_keys (keys_for l.object) l.path (keys_of (members_view l.fn.members.entries))
    ≡ unknown_keys (keys_for l.object) l.path (keys_of (members_view l.key-iterator))
