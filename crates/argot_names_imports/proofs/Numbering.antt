-- The numbers of packages are their places among the first files that are reached.
use Rattle.std.proofs.Common.{◌≡◌, ℕ, ◌<◌, ◌^◌, List, length, Some, ap, ◌∙◌, arith}
use Rattle.std.specs.Prelude.{slice_get}
use Rattle.std.proofs.lemmas.List.{length-map}
use Rattle.argot_names_rules.specs.declared.package_key.PackageKey.{PackageKey}
use Rattle.argot_names_rules.specs.Lists.{In}
use Rattle.argot_names_rules.specs.Files.{SourceFiles}
use Rattle.argot_names_rules.specs.Packages.{Finds}
use Rattle.argot_names_rules.specs.Imports.{IsReached, IsReachedFile}
use Rattle.argot_names_imports.specs.declared.written.Written.{Written}
use Rattle.argot_names_imports.proofs.Lists.{get_map, map_get, get_below, get_there}
use Rattle.argot_names_imports.proofs.Surveys.{owned, finds_proper}
use Rattle.argot_names_imports.specs.declared.reached.Reached.{Reached}
use Rattle.argot_names_imports.specs.Reached.{home_of, IsReach}
use Rattle.argot_names_imports.specs.Numbers.{IsTargetAt, IsOfNumber, IsFoundBy}
use Rattle.argot_names_imports.proofs.Standing.{owned_home, reached_home, reached_leader, leader_reached, target_is, is_target}

some_is : {A : Type 0} (x y : A) → Some x ≡ Some y → x ≡ y
some_is x y e = cc

module _ (h : SourceFiles) (main : List ℕ) (r : Reached) (is : IsReach h main r) where
  pub few_keys : length r.survey.reached.keys < 2 ^ 32
  few_keys = let n = is.few in let e = length-map r.survey.reached.keys (home_of h) in omega (arith, n, e)

  pub number_home : (k first file : ℕ) → slice_get r.survey.reached.keys k ≡ Some first → slice_get r.survey.leaders.items file ≡ Some (Some first) → IsOfNumber h r file k
  number_home k first file at e =
      let l = leader_reached h main r.survey is.survey file first e (k, at) in
      record {
        home = l.0;
        in_home = map_get (home_of h) r.survey.reached.keys k first at ∙ ap (λ x. Some x) (reached_home h main l.0 first l.1.reached l.2.is);
        of = l.1.of;
      }

  pub no_leader : (file : ℕ) → ((first : ℕ) → slice_get r.survey.leaders.items file ≡ Some (Some first) → In first r.survey.reached.keys → ⊥) → (home : PackageKey) → IsReachedFile h main home file → ⊥
  no_leader file none home f = let l = reached_leader h main r.survey is.survey home file f in none l.0 l.1 l.2

  pub found_number : (k n first : ℕ) → IsTargetAt r.survey.founds.items k first → slice_get r.survey.reached.keys n ≡ Some first → IsFoundBy h r k n
  found_number k n first t at =
      let w = get_there r.survey.imports.items k (omega (arith, is.survey.founds.as_many, get_below r.survey.founds.items k t.found t.is_found)) in
      let target = is_target h w.0.path t.found first (is.survey.founds.each k w.0 t.found w.1 t.is_found) t.target in
      record {
        import_ = w.0;
        home = target.0;
        is_import = w.1;
        in_home = map_get (home_of h) r.survey.reached.keys n first at ∙ ap (λ x. Some x) (owned_home h target.0 first (owned h target.0 first (finds_proper h w.0.path target.0 target.1) target.2.is));
        finds = target.1;
      }

  pub number_found : (k : ℕ) (w : Written) (home : PackageKey) → slice_get r.survey.imports.items k ≡ Some w → Finds h w.path home → IsReached h main home → (first : ℕ) × IsTargetAt r.survey.founds.items k first × In first r.survey.reached.keys
  number_found k w home at finds reached =
      let i = is.reached.complete home reached in
      let x = get_map (home_of h) r.survey.reached.keys i.0 home i.1 in
      let leads = is.firsts i.0 x.0 home x.1 i.1 in
      let f = get_there r.survey.founds.items k (omega (arith, is.survey.founds.as_many, get_below r.survey.imports.items k w at)) in
      (x.0, record { found = f.0; is_found = f.1; target = target_is h w.path f.0 home x.0 (is.survey.founds.each k w f.0 at f.1) finds leads }, (i.0, x.1))
