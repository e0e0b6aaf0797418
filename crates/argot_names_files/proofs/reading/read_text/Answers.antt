use Rattle.std.proofs.Common.{subst}
use Rattle.argot_names_files.specs.Reading.{IsUnparsed}
use Rattle.argot_names_files.proofs.Read.{unlexed, unparsed}
use Rattle.argot_names_files.proofs.reading.read_text.Goals as goal

pub returns-in-Err-clause-fault : goal.returns-in-Err-clause-fault
returns-in-Err-clause-fault c = unlexed c.args.bytes.now c.args.file c.in-Err.fault c.in-Err.ensures.fault

pub returns-in-Err-tree_of-clause-fault : goal.returns-in-Err-tree_of-clause-fault
returns-in-Err-tree_of-clause-fault c =
    unparsed c.args.bytes.now c.args.file c.in-Ok.lexed c.in-Err-tree_of.fault c.in-Ok.ensures.ok
    (subst (λ t. IsUnparsed t c.args.file c.in-Err-tree_of.fault) c.as_vec.ensures c.in-Err-tree_of.ensures.fault)
