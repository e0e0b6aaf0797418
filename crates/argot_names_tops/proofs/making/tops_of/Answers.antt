use Rattle.std.proofs.Common.{List, length, sym, subst}
use Rattle.argot_files.specs.Reading.{files_in}
use Rattle.argot_names_tops.specs.declared.named.Named.{Named}
use Rattle.argot_names_tops.specs.Entries.{AreEntries}
use Rattle.argot_names_tops.specs.Tops.{AreFiles}
use Rattle.argot_names_tops.proofs.making.tops_of.Goals as goal

pub returns : goal.returns
returns c = λ main is.
    let h = files_in c.args.files.now in
    let files = c.in_ok-names.ensures in
    record {
      reach = is;
      files = files;
      tops = c.in_ok-tops.ensures h main is (subst (λ fs. AreFiles h c.args.reached.now fs) (sym c.deref.ensures.value) files);
      imports = c.in_ok-imports.ensures c.args.files.now.trees.now main is;
      top_entries = subst (λ (xs : List Named). AreEntries xs (length xs) c.in_ok-top_entries.top_entries) c.deref-2.ensures.value c.in_ok-top_entries.ensures;
      import_entries = subst (λ (xs : List Named). AreEntries xs (length xs) c.in_ok-import_entries.import_entries) c.deref-3.ensures.value c.in_ok-import_entries.ensures;
    }
