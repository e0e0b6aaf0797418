use Rattle.std.proofs.Common.{sym, ◌∙◌}
use Rattle.argot_names_subset_file.proofs.Outcomes.{on_ok_map}
use Rattle.argot_names_subset.proofs.Foldering.{folder_put}
use Rattle.argot_names_subset.proofs.folders.put_folder.Goals as goal

pub returns-then-ends_in_go : goal.returns-then-ends_in_go
returns-then-ends_in_go c =
    on_ok_map c.put.result _ _
    (folder_put c.args.folders.now c.put.new.folders c.args.path.now c.as_bytes.result.now c.args.k (sym c.ends_in_go.ensures ∙ c.if-ends_in_go.true) (c.as_bytes.ensures.value ∙ c.folder_of.ensures))
    c.put.ensures
