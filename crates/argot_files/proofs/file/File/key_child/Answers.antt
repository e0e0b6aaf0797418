use Rattle.argot_files.proofs.Nodes.{key_exactly}
use Rattle.argot_files.proofs.file.File.key_child.Goals as goal

pub returns : goal.returns
returns c = rw (← c.self.view_is) (key_exactly c.self.inside.nodes.now c.self.inside.keys.items c.args.at c.number_in.result c.self.invariant.keys c.number_in.ensures)
