use Rattle.std.proofs.Common.{[], ◌∷◌, length, get_or, ap, arith, length-append}
use Rattle.std.proofs.lemmas.Option.{slice_get-get_or}
use Rattle.argot_files.specs.Reading.{files_in}
use Rattle.argot_names_packages.proofs.MakingPackages.{made_more}
use Rattle.argot_names_packages.proofs.packages.list_packages.Goals as goal

pub loop-k-preserved : goal.loop-k-preserved
loop-k-preserved c =
    let h = files_in c.args.files.now in
    record {
      as_many = omega (arith, ap length c.in_ok-push.ensures.items, length-append c.loop-k.packages.items (c.in_ok-package_at.field-0 ∷ []), c.loop-k.invariant.as_many);
      made =
          made_more h c.args.firsts.now c.args.chains.now.lists c.loop-k.packages.items c.push.new.self.items c.loop-k.k (get_or c.args.firsts.now c.loop-k.k 0) c.in_ok-package_at.field-0 c.loop-k.invariant.made c.loop-k.invariant.as_many
          (slice_get-get_or c.args.firsts.now c.loop-k.k 0 c.loop-k-test.true) c.in_ok-package_at.ensures c.in_ok-push.ensures.items;
    }
