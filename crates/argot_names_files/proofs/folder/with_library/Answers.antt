use Rattle.std.proofs.Common.{◌+◌, ◌++◌, ◌∷◌, [], refl, sym, subst, ◌∙◌, arith}
use Rattle.argot_names_files.proofs.Agreement.{is_folder}
use Rattle.argot_names_files.proofs.Parts.{ArePut, none_put, one_put}
use Rattle.argot_names_files.proofs.folder.with_library.Goals as goal

pub loop-k-init : goal.loop-k-init
loop-k-init c =
    subst (λ x. ArePut c.args.sources.paths c.args.sources.contents c.args.readings.lexed.items c.args.readings.trees.items 0 c.args.sources.paths x c.args.readings.lexed.items c.args.readings.trees.items) (sym c.into_vec-contents.ensures)
    (none_put c.args.sources.paths c.args.sources.contents c.args.readings.lexed.items c.args.readings.trees.items)

pub loop-k-preserved : goal.loop-k-preserved
loop-k-preserved c =
    let put = ArePut c.args.sources.paths c.args.sources.contents c.args.readings.lexed.items c.args.readings.trees.items (c.loop-k.k + 1) in
    let part = c.in_ok-part.part in
    subst (λ x. put x c.push-in-loop-k.new.self.items c.push-in-loop-k-2.new.self.items c.push-in-loop-k-3.new.self.items) (sym c.in_ok-push.ensures.ok)
    (subst (λ x. put (c.loop-k.paths ++ part.path ∷ []) x c.push-in-loop-k-2.new.self.items c.push-in-loop-k-3.new.self.items) (sym c.in_ok-push-2.ensures.items)
    (subst (λ x. put (c.loop-k.paths ++ part.path ∷ []) (c.loop-k.contents.items ++ part.bytes ∷ []) x c.push-in-loop-k-3.new.self.items) (sym c.in_ok-push-3.ensures.items)
    (subst (λ x. put (c.loop-k.paths ++ part.path ∷ []) (c.loop-k.contents.items ++ part.bytes ∷ []) (c.loop-k.lexed.items ++ part.lexed ∷ []) x) (sym c.in_ok-push-4.ensures.items)
    (one_put c.args.sources.paths c.args.sources.contents c.args.readings.lexed.items c.args.readings.trees.items c.loop-k.k c.loop-k.paths c.loop-k.contents.items c.loop-k.lexed.items c.loop-k.trees.items c.library_path.result.now part c.loop-k.invariant c.library_path.ensures c.in_ok-part.ensures))))

pub returns : goal.returns
returns c =
    is_folder c.args.sources c.args.readings.lexed.items c.args.readings.trees.items _ c.requires.files c.requires.readings
    (subst (λ x. ArePut c.args.sources.paths c.args.sources.contents c.args.readings.lexed.items c.args.readings.trees.items 8 c.loop-k.paths x c.loop-k.lexed.items c.loop-k.trees.items) (sym c.from_vec.ensures)
    (subst (λ k. ArePut c.args.sources.paths c.args.sources.contents c.args.readings.lexed.items c.args.readings.trees.items k c.loop-k.paths c.loop-k.contents.items c.loop-k.lexed.items c.loop-k.trees.items) (omega (arith, c.loop-k-test.false, c.loop-k.auto.k-end)) c.loop-k.invariant))
    refl refl refl
