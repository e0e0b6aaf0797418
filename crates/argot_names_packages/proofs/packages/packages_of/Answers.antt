use Rattle.std.proofs.Common.{◌≡◌, ◌<◌, ◌^◌, length, ap, ◌∙◌, subst, arith}
use Rattle.argot_files.specs.Reading.{files_in}
use Rattle.argot_names_packages.specs.Files.{AreFilesFrom}
use Rattle.argot_names_packages.specs.Made.{AreMadeUpTo}
use Rattle.argot_names_packages.proofs.MakingPackages.{ok_both}
use Rattle.argot_names_packages.proofs.packages.packages_of.Goals as goal

pub returns : goal.returns
returns c =
    let h = files_in c.args.files.now in
    let lists = c.in_ok-chains.chains.lists in
    let keys = c.as_slice-firsts.ensures.keys in
    let small : length c.as_slice-firsts.result.now < 2 ^ 32 = c.in-Ok.ensures.0 in
    let long : length c.as_slice-firsts.result.now ≡ length c.args.survey.now.reached.keys = ap length keys in
    ok_both c.list_packages.result _ _ _
    (λ v many made. record {
      lists = lists;
      as_long = c.in_ok-chains.ensures.small ∙ ap length c.deref.ensures.value;
      files = subst (λ ls. AreFilesFrom ls 0 lists) c.deref.ensures.value c.in_ok-chains.ensures.files;
      few = omega (arith, small, long);
      as_many = many ∙ long;
      made = subst (λ ks. AreMadeUpTo h ks lists v.items) keys made;
      once = c.as_slice-firsts.ensures.unique;
    })
    c.list_packages.ensures.as_many c.list_packages.ensures.made
