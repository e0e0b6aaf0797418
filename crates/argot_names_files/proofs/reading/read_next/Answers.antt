use Rattle.std.proofs.Common.{◌+◌, ◌<◌, ◌++◌, ◌∷◌, [], length, sym, subst, arith}
use Rattle.argot_names_imports.specs.Reads.{bytes_at}
use Rattle.argot_names_files.specs.Reading.{IsReading, AreReadings}
use Rattle.argot_names_files.proofs.Read.{one_more_read, has_room}
use Rattle.argot_names_files.proofs.reading.read_next.Goals as goal

pub read_file-requires : goal.read_file-requires
read_file-requires c = subst (λ x. length x < 4294967296) (sym c.bytes_at.ensures) (omega (arith, has_room c.args.sources.now c.args.file c.requires.files c.requires.inside))

pub returns-clause-ok : goal.returns-clause-ok
returns-clause-ok c =
    subst (λ x. AreReadings c.args.sources.now (c.args.file + 1) x c.push-2.new.list.items) (sym c.in_ok-push.ensures)
    (subst (λ y. AreReadings c.args.sources.now (c.args.file + 1) (c.args.lexed.now.items ++ c.in_ok-tokens.tokens ∷ []) y) (sym c.in_ok-push-2.ensures)
    (one_more_read c.args.sources.now c.args.file c.args.lexed.now.items c.args.trees.now.items c.get.result.now c.in_ok-tokens.tokens c.in_ok-tokens.tree c.requires.so_far c.get.ensures
    (subst (λ p. IsReading p (bytes_at c.args.sources.now c.args.file) c.in_ok-tokens.tokens c.in_ok-tokens.tree) c.as_str-path.ensures
    (subst (λ b. IsReading c.as_str-path.result.now b c.in_ok-tokens.tokens c.in_ok-tokens.tree) c.bytes_at.ensures c.in_ok-tokens.ensures.ok))))
