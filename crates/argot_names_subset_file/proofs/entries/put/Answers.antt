use Rattle.argot_names_subset_file.proofs.entries.put.Goals as goal

pub returns : goal.returns
returns c = λ p r n. c.in_ok-insert.ensures.updates.0 (record { «package» = record { ref_ptr = (0, 0); now = p }; receiver = record { ref_ptr = (0, 0); now = r }; name = record { ref_ptr = (0, 0); now = n } })
