use Rattle.argot_files.proofs.Nodes.{bodies_iff}
use Rattle.argot_files.proofs.file.File.has_body.Goals as goal

pub returns : goal.returns
returns c = rw (← c.self.view_is) (λ is. bodies_iff c.self.inside.nodes.now c.self.inside.keys.items c.self.invariant.keys c.args.decl c.number_in.result c.number_in.ensures is c.is_some.result c.is_some.ensures)
