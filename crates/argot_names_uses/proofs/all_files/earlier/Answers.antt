use Rattle.argot_names_uses.proofs.Firsts.{as_before, found_here, none_here}
use Rattle.argot_names_uses.proofs.all_files.earlier.Goals as goal

pub returns-in-Some : goal.returns-in-Some
returns-in-Some c h main first here = as_before h main c.args.file c.args.first c.in-Some.place c.in-Some.is first

pub returns-in-Some-offset : goal.returns-in-Some-offset
returns-in-Some-offset c h main first here = found_here h main c.args.file c.args.first c.args.offset c.in-Some-offset.offset c.in-None.is c.in-Some-offset.is first here

pub returns-in-None-offset : goal.returns-in-None-offset
returns-in-None-offset c h main first here = none_here h main c.args.file c.args.first c.args.offset c.in-None.is c.in-None-offset.is first here
