use Rattle.std.proofs.Common.{refl, sym, subst, ◌∙◌}
use Rattle.std.specs.Prelude.{take}
use Rattle.argot_files.specs.Reading.{file_of}
use Rattle.argot_names_rules.specs.Loaded.{count_nodes}
use Rattle.argot_names_subset_file.proofs.Adding.{adds_none}
use Rattle.argot_names_subset_file.proofs.Outcomes.{on_ok_map}
use Rattle.argot_names_subset.specs.Files.{IsPart}
use Rattle.argot_names_subset.specs.Inside.{IsInside}
use Rattle.argot_names_subset.specs.Known.{handed_of}
use Rattle.argot_names_subset.proofs.Noting.{has_tree, source_added}
use Rattle.argot_names_subset.proofs.file.note_source.Goals as goal

pub new-requires : goal.new-requires
new-requires c = c.requires.formed c.args.number c.in-Some.tree.now (sym c.in-Some.ensures)

pub returns-in_default : goal.returns-in_default
returns-in_default c = λ homes home is.
    adds_none (IsInside (handed_of c.args.known.now) c.args.known.now.entries.now home c.args.number) c.args.spots.now.keys c.args.spots.now.keys refl (λ f p h. has_tree c.args.known.now home c.args.number c.requires is.of (sym c.in_default.ensures))

pub returns : goal.returns
returns c =
    let k = c.args.known.now in
    let tree = c.in-Some.tree.now in
    let there = sym c.in-Some.ensures in
    on_ok_map c.note_file.result _ _
    (source_added k c.args.number tree _ _ c.directives_at.result.now c.args.spots.now.keys c.note_file.new.spots.keys
    (record {
      number_is = refl;
      file_is = c.in_ok-file.ensures ∙ (λ i. file_of (c.bytes_at-bytes.ensures i) (c.tokens_at-tokens.ensures i) tree.nodes);
      entries_are = refl;
      path_is = refl;
      named_is = subst (λ n. IsPart k.named.now (count_nodes (take c.args.number k.files.trees.now)) n c.part_of.result.now) c.len-count.ensures (c.part_of.ensures k.files.trees.now tree c.requires.bases there);
      typed_is = subst (λ n. IsPart k.typed.now (count_nodes (take c.args.number k.files.trees.now)) n c.part_of-2.result.now) c.len-count.ensures (c.part_of-2.ensures k.files.trees.now tree c.requires.bases there);
    })
    there c.directives_at.ensures)
    c.note_file.ensures
