use Rattle.argot_names_rules.specs.Lists.{IsListOf}
use Rattle.argot_names_subset_file.specs.Spots.{IsSpotted, IsSpotBefore}
use Rattle.std.proofs.Common.{sym, ap, ◌∙◌, subst}
use Rattle.std.specs.Prelude.{map}
use Rattle.argot_files.specs.Reading.{files_in}
use Rattle.argot_names_imports.proofs.Options.{ok_map}
use Rattle.argot_names_rules.specs.Subset.{HasFeature}
use Rattle.argot_names_subset_file.specs.Tables.{AreBases}
use Rattle.argot_names_subset.specs.Meanings.{AreTables}
use Rattle.argot_names_subset.specs.Positions.{marked_of, flagged}
use Rattle.argot_names_subset.proofs.Bridging.{tables_are}
use Rattle.argot_names_subset.proofs.Forming.{agreed_formed, use_within}
use Rattle.argot_names_subset.proofs.Marking.{marks_are, flags_are}
use Rattle.argot_names_subset.proofs.flagging.flags.Goals as goal
use Rattle.argot_names_subset.proofs.flagging.flags.Goals.{After-as_slice-4}

pub standings_in-requires-clause-linked : goal.standings_in-requires-clause-linked
standings_in-requires-clause-linked c = λ file tree there. (agreed_formed (files_in c.args.files.now) c.requires.agrees file tree there).links

pub standings_in-requires-clause-within : goal.standings_in-requires-clause-within
standings_in-requires-clause-within c = λ u i. use_within (files_in c.args.files.now) c.requires.loaded.0 c.args.packages.now c.requires.loaded.1 u i

pub spots_in-requires-clause-known : goal.spots_in-requires-clause-known
spots_in-requires-clause-known c =
    record {
      formed = agreed_formed (files_in c.args.files.now) c.requires.agrees;
      as_many = c.requires.agrees.trees;
      bases = subst (AreBases c.args.files.now.trees.now) (sym c.as_slice-2.ensures.value) c.in_ok-bases.ensures;
    }

pub returns : goal.returns
returns c = λ main is.
    let h = files_in c.args.files.now in
    let s = c.in_ok-standings.ensures in
    let made : AreTables h is.homes c.in_ok-standings.standings.named.items c.in_ok-standings.standings.typed.items = tables_are h main c.args.packages.now is s.0 s.1 c.in_ok-standings.standings s.2 in
    let tables : AreTables h is.homes c.as_slice-3.result.now c.as_slice-4.result.now =
    subst (λ ts. AreTables h is.homes c.as_slice-3.result.now ts) (sym c.as_slice-4.ensures.value) (subst (λ fs. AreTables h is.homes fs c.in_ok-standings.standings.typed.items) (sym c.as_slice-3.ensures.value) made) in
    let spots = c.in_ok-spots.spots.items in
    ok_map c.flags_of.result _ _
    (λ v e. record {
      marked = map marked_of spots;
      are = marks_are (HasFeature h main c.args.entries.now) spots (subst (λ es. IsListOf IsSpotBefore (IsSpotted (HasFeature h main es)) spots) (c.in_ok-table.ensures ∙ c.as_slice.ensures) (c.in_ok-spots.ensures main is tables));
      flags_are = e ∙ (ap (map (flagged c.args.files.now.sources.now)) c.deref.ensures.value ∙ flags_are h spots);
    })
    c.flags_of.ensures
