use Rattle.std.proofs.Common.{◌≡◌, ◌<◌, Some, arith, subst}
use Rattle.argot_names_rules.specs.Files.{SourceFile}
use Rattle.argot_names_rules.specs.Lists.{IsListOf}
use Rattle.argot_names_imports.specs.declared.written.Written.{Written}
use Rattle.argot_names_imports.specs.Written.{IsWritten}
use Rattle.std.specs.Prelude.{slice_get}
use Rattle.argot_names_subset_file.specs.Files.{IsImportOut}
use Rattle.argot_names_subset_file.proofs.Adding.{adds_step}
use Rattle.argot_names_subset_file.proofs.Noting.{exactly}
use Rattle.argot_names_subset_file.proofs.Commenting.{ImportItem, import_item, imports_all}
use Rattle.argot_names_subset_file.proofs.comments.note_imports.Goals as goal

pub loop-k-preserved : goal.loop-k-preserved
loop-k-preserved c =
    let v = c.args.view.now in
    let ws = c.in_ok-imports.imports.items in
    let w = c.import_at.result.now in
    let there : slice_get ws c.loop-k.k ≡ Some w = subst (λ xs. slice_get xs c.loop-k.k ≡ Some w) c.deref.ensures.value c.import_at.ensures in
    adds_step (ImportItem v ws) c.loop-k.k c.args.spots.now.keys c.loop-k.spots.keys c.note_part.new.spots.keys c.loop-k.invariant
    (import_item v ws c.loop-k.k w c.loop-k.spots.keys c.note_part.new.spots.keys there
    (exactly v.file.now.tokens v.number (IsImportOut w.path w.path_at) c.import_part.result c.loop-k.spots.keys c.note_part.new.spots.keys c.import_part.ensures c.in_ok-note_part.ensures))

pub returns : goal.returns
returns c =
    let v = c.args.view.now in
    let read : ◌≡◌ {A = SourceFile} (record { bytes = c.bytes.result.now; tokens = c.tokens.result.now; nodes = c.nodes.result.now }) v.file.now =
    λ i. record { bytes = c.bytes.ensures i; tokens = c.tokens.ensures i; nodes = c.nodes.ensures.nodes i } in
    let imports : IsListOf (λ (a b : Written). a.node < b.node) (λ w. (w.file ≡ v.number) × IsWritten v.file.now w) c.in_ok-imports.imports.items =
    subst (λ f. IsListOf (λ (a b : Written). a.node < b.node) (λ w. (w.file ≡ v.number) × IsWritten f w) c.in_ok-imports.imports.items) read c.in_ok-imports.ensures in
    imports_all v c.in_ok-imports.imports.items c.loop-k.k c.args.spots.now.keys c.loop-k.spots.keys (omega arith) imports c.loop-k.invariant
