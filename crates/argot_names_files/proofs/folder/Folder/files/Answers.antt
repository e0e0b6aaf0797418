use Rattle.argot_names_files.proofs.folder.Folder.files.Goals as goal

pub returns : goal.returns
returns c = λ i. record { sources = c.args.self.now.sources; lexed = c.as_slice.ensures.value i; trees = c.as_slice-2.ensures.value i }
