use Rattle.std.proofs.Common.{Some, ◌++◌, ◌∷◌, [], map, take, sym, ◌∙◌, ap}
use Rattle.argot_names_imports.specs.Leaders.{leader_of}
use Rattle.argot_names_imports.proofs.Lists.{map_one}
use Rattle.argot_names_imports.proofs.leaders.leaders_of.Goals as goal

pub loop-file-preserved : goal.loop-file-preserved
loop-file-preserved c =
    c.in_ok-push.ensures.items ∙ ap (λ xs. xs ++ c.leader_of.result ∷ []) c.loop-file.invariant ∙ ap (λ x. map (leader_of c.args.folders.now c.args.libraries.now) (take c.loop-file.file c.args.paths.now) ++ x ∷ []) c.leader_of.ensures
    ∙ sym (map_one (leader_of c.args.folders.now c.args.libraries.now) c.args.paths.now c.loop-file.file c.as_str.result.now (c.get.ensures ∙ ap (λ x. Some x) (sym c.as_str.ensures)))
