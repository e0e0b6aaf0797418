use Rattle.std.proofs.Common.{◌≡◌, take, arith}
use Rattle.std.proofs.lemmas.Grind.{common_steps}
use Rattle.argot_parse_reader.proofs.Grows.{kept}
use Rattle.argot_grammar.proofs.FrontLaws.{through}
use Rattle.argot_parse.proofs.files.file_parts.Goals as goal

pub returns-in_default-2 : goal.returns-in_default-2
returns-in_default-2 c =
    let m = c.len-mark.result in
    let named = c.put.new.out.posts.items in
    let behind = c.imports.new.out.posts.items in
    let front : take m named ≡ c.args.out.now.posts.items = grind (arith, common_steps) in
    let shown : take m behind ≡ c.args.out.now.posts.items = through m c.args.out.now.posts.items named behind (grind (arith, common_steps)) (grind (arith, common_steps, kept)) front in
    grind (arith, common_steps)

pub close-requires : goal.close-requires
close-requires c = grind (arith, common_steps, kept)
