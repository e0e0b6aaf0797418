use Rattle.std.proofs.Common.{◌≡◌, true, rules}
use Rattle.argot_plain_parts.specs.Parts.{code_of}
use Rattle.argot_plain_parts.specs.Passing.{passes}
use Rattle.argot_plain_parts.proofs.Whole.{passing_is_well}
use Rattle.argot_plain_parts.proofs.program.program_of.Goals as goal

pub from_parts-requires : goal.from_parts-requires
from_parts-requires c =
    let h : passes (code_of c.args.parts) ≡ true = search rules in
    passing_is_well (code_of c.args.parts) h
