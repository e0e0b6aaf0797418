use Rattle.argot_names_imports.specs.Reached.{homes_of}
use Rattle.argot_names.proofs.loading.packages_from.Goals as goal

pub returns : goal.returns
returns c h main reach names =
    rw (c.from_vec.ensures, c.from_vec-2.ensures, c.from_vec-3.ensures) (record {
      homes = homes_of h c.args.reached;
      reached = reach.reached;
      main_first = reach.main_first;
      as_many = reach.as_many;
      each = reach.each;
      decls = names.decls;
      uses = names.uses;
    })
