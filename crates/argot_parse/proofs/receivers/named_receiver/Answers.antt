use Rattle.std.proofs.Common.{◌≡◌, take, arith}
use Rattle.std.proofs.lemmas.Grind.{common_steps}
use Rattle.argot_parse_reader.proofs.Grows.{kept}
use Rattle.argot_grammar.proofs.FrontLaws.{through}
use Rattle.argot_parse.proofs.receivers.named_receiver.Goals as goal

pub close-requires : goal.close-requires
close-requires c = grind (arith, common_steps, kept)

pub returns-in_default-expect_list : goal.returns-in_default-expect_list
returns-in_default-expect_list c =
    let m = c.len-mark.result in
    let named = c.put.new.out.posts.items in
    let typed = c.any_type.new.out.posts.items in
    let front : take m named ≡ c.args.out.now.posts.items = grind (arith, common_steps) in
    let shown : take m typed ≡ c.args.out.now.posts.items = through m c.args.out.now.posts.items named typed (grind (arith, common_steps)) (grind (arith, common_steps, kept)) front in
    let whole : take m c.close.new.out.posts.items ≡ c.args.out.now.posts.items = through m c.args.out.now.posts.items typed c.close.new.out.posts.items (grind (arith, common_steps, kept)) (grind (arith, common_steps)) shown in
    grind (arith, common_steps)

pub close-requires-2 : goal.close-requires-2
close-requires-2 c = grind (arith, common_steps, kept)
