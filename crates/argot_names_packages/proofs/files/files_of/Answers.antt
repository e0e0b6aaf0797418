use Rattle.std.proofs.Common.{◌≡◌, ◌+◌, ◌-◌, subst, arith}
use Rattle.argot_names_packages.specs.Files.{AreFilesFrom}
use Rattle.argot_names_packages.proofs.files.files_of.Goals as goal

pub put-requires-clause-so_far : goal.put-requires-clause-so_far
put-requires-clause-so_far c =
    let e : c.in-Ok.count - c.loop-before.before ≡ c.in-Ok.count - c.loop-before.before - 1 + 1 = omega arith in
    subst (λ n. AreFilesFrom c.args.leaders.now n c.loop-before.files.lists) e c.loop-before.invariant.so_far

pub loop-before-preserved : goal.loop-before-preserved
loop-before-preserved c =
    let e : c.in-Ok.count - c.loop-before.before - 1 ≡ c.in-Ok.count - (c.loop-before.before + 1) = omega arith in
    record {
      small = c.put.ensures.small;
      room = let r = c.loop-before.invariant.room in let p = c.put.ensures.room in omega (arith, r, p);
      so_far = subst (λ n. AreFilesFrom c.args.leaders.now n c.put.new.files.lists) e c.put.ensures.so_far;
    }

pub returns-clause-files : goal.returns-clause-files
returns-clause-files c =
    let e : c.in-Ok.count - c.loop-before.before ≡ 0 = omega arith in
    subst (λ n. AreFilesFrom c.args.leaders.now n c.loop-before.files.lists) e c.loop-before.invariant.so_far
