use Rattle.std.proofs.Common.{sym, subst}
use Rattle.argot_files.specs.Forms.{IsFormed}
use Rattle.argot_files.specs.Links.{IsLinked}
use Rattle.argot_files.proofs.file.File.new.Goals as goal

pub parents_of-requires : goal.parents_of-requires
parents_of-requires c = subst IsLinked (sym c.as_slice-nodes.ensures) c.requires.links

pub key_children-requires-clause-formed : goal.key_children-requires-clause-formed
key_children-requires-clause-formed c = subst IsFormed (sym c.as_slice-nodes.ensures) c.requires

pub invariant_of-result : goal.invariant_of-result
invariant_of-result c =
    record {
      formed = subst IsFormed (sym c.as_slice-nodes.ensures) c.requires;
      parents = c.in_ok-parents.ensures;
      keys = c.in_ok-keys.ensures;
      receivers = c.in_ok-receivers.ensures;
    }
