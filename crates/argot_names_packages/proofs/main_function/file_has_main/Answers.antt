use Rattle.std.proofs.Common.{◌≡◌, true, ap, sym, ◌∙◌, subst}
use Rattle.std.specs.Prelude.{◌↔◌}
use Rattle.argot_files.proofs.Forming.{formed}
use Rattle.argot_files.specs.Reading.{files_in}
use Rattle.argot_names_rules.specs.Files.{read_of, nodes_in}
use Rattle.argot_names_packages.specs.Mains.{HasMainNode}
use Rattle.argot_names_packages.proofs.Mains.{nothing_main}
use Rattle.argot_names_packages.proofs.main_function.file_has_main.Goals as goal

pub new-requires : goal.new-requires
new-requires c = let r = c.requires c.in-Some.tree.now (sym c.in-Some.ensures) in formed c.in-Some.tree.now r.0 r.1

pub returns-in_ok-read-in-Some : goal.returns-in_ok-read-in-Some
returns-in_ok-read-in-Some c =
    let is : c.in_ok-read-in-Some.read ≡ read_of (files_in c.args.files.now) c.args.file =
    c.in_ok-read-in-Some.ensures ∙ (λ i. record { bytes = c.bytes_at-bytes.ensures i; tokens = c.tokens_at-tokens.ensures i; nodes = nodes_in (c.in-Some.ensures i) }) in
    subst (λ f. (c.has_main_node.result ≡ true) ↔ HasMainNode f) is c.has_main_node.ensures

pub returns-in-None : goal.returns-in-None
returns-in-None c = nothing_main (read_of (files_in c.args.files.now) c.args.file) (ap nodes_in (sym c.in-None.ensures))
