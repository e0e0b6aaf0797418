-- The nodes that the graph leads to are the packages that imports lead to.
use Rattle.std.proofs.Common.{Global, ◌≡◌, ℕ, ◌<◌, List, length, Option, Some, sym, ap, ◌∙◌, subst, arith}
use Rattle.std.specs.Prelude.{◌↔◌, slice_get, map, Vec}
use Rattle.std.proofs.lemmas.List.{length-map}
use Rattle.argot_names_rules.specs.declared.package_key.PackageKey.{PackageKey}
use Rattle.argot_names_rules.specs.declared.package_key.PackageKey.TheVariants as homes
use Rattle.argot_names_rules.specs.Lists.{IsListOf}
use Rattle.argot_names_rules.specs.Files.{SourceFiles}
use Rattle.argot_names_rules.specs.Packages.{IsFileOf, IsFirstFile}
use Rattle.argot_names_rules.specs.Imports.{Edge, IsReached, Leads as LeadsTo}
use Rattle.argot_names_rules.specs.Imports.Leads.{stay as led_stay, onward as led_onward}
use Rattle.argot_names_imports.specs.declared.written.Written.{Written}
use Rattle.argot_names_imports.specs.declared.find.Found.{Found}
use Rattle.argot_names_imports.specs.Firsts.{Numbers, found_at}
use Rattle.argot_names_imports.specs.Leaders.{leader_of}
use Rattle.argot_names_imports.specs.AllWritten.{InOrder, IsAnImport}
use Rattle.argot_names_imports.specs.Found.{HasTables}
use Rattle.argot_names_imports.specs.Founds.{AreFounds}
use Rattle.argot_names_imports.specs.Graph.{target_of, Leads, IsStep, Reaches, stay, onward, AreReached}
use Rattle.argot_names_imports.specs.Surveyed.{IsProper, folder, IsLed, IsReachedFirst, IsSurvey}
use Rattle.argot_names_imports.proofs.Lists.{get_below, get_there}
use Rattle.argot_names_imports.proofs.Graphs.{Nodes}
use Rattle.argot_names_imports.proofs.Finding.{known_file}
use Rattle.argot_names_imports.proofs.Surveys.{leaders_are, owned, one_owner, first_owned, file_owned, finds_proper, found_target, target_found, first_there, entry_first, one_first}

-- an edge of the graph as an import
pub record IsEdgeTo (h : SourceFiles) (home : PackageKey) (t : ℕ) : Type 0 where
  pub target : PackageKey
  pub file : ℕ
  pub at : ℕ
  pub leads : IsFirstFile h target t
  pub edge : Edge h home file at target
  pub proper : IsProper target

pub edge_proper : (h : SourceFiles) (home : PackageKey) (file at : ℕ) (target : PackageKey) → Edge h home file at target → IsProper target
edge_proper h home file at target e = finds_proper h e.path target e.finds

-- packages that are reached are folders or known texts
pub reached_proper : (h : SourceFiles) (main : List ℕ) (home : PackageKey) → IsReached h main home → IsProper home
reached_proper h main home r = go home r.leads
  where
    go : (home : PackageKey) → LeadsTo h (homes.Folder main) home → IsProper home
    go _ led_stay = folder
    go _ (led_onward {between = b} {target = t} {file = f} {at = a} l e) = edge_proper h b f a t e

module _ (h : SourceFiles) (module_ : List ℕ) (folders libraries : Numbers) (tables : HasTables h module_ folders libraries) (imports : List Written) (founds : List Found) (leaders : List (Option ℕ))
    (are : IsListOf InOrder (IsAnImport h) imports) (finds : AreFounds h imports founds) (led : (file first : ℕ) → slice_get leaders file ≡ Some (Some first) ↔ IsLed h file first) where
  pub step_edge : (k l t : ℕ) → IsStep leaders imports founds k l t → (home : PackageKey) → IsProper home → IsFirstFile h home l → IsEdgeTo h home t
  step_edge k l t s home proper leads =
      let w = s.import_ in
      let is = are.sound w (k, s.is_import) in
      let f = finds.each k w s.found s.is_import s.is_found in
      let by = (led w.file l).0 s.leader in
      let same : home ≡ by.home = one_owner h home by.home l (owned h home l proper leads.is) (first_owned h by.home w.file l by.owned by.leads) in
      let target = target_found h module_ folders libraries tables w.path s.found t f s.target in
      record {
        target = target.0;
        file = w.file;
        at = w.at;
        leads = target.2;
        edge = record {
          of = subst (λ a. IsFileOf h a w.file) (sym same) (file_owned h by.home w.file by.owned);
          node = w.node;
          path_at = w.path_at;
          alias = w.alias;
          path = w.path;
          imports = is;
          finds = target.1;
        };
        proper = finds_proper h w.path target.0 target.1;
      }

  pub edge_step : (home : PackageKey) (file at : ℕ) (target : PackageKey) (l t : ℕ) → Edge h home file at target → IsProper home → IsFirstFile h home l → IsFirstFile h target t → (k : ℕ) × IsStep leaders imports founds k l t
  edge_step home file at target l t e proper leads to =
      let w : Written = record { file = file; node = e.node; at = at; path_at = e.path_at; alias = e.alias; path = e.path } in
      let i = are.complete w e.imports in
      let f = get_there founds i.0 (omega (arith, finds.as_many, get_below imports i.0 w i.1)) in (
        i.0,
        record {
          import_ = w;
          found = f.0;
          is_import = i.1;
          is_found = f.1;
          leader = (led file l).1 (record { home = home; owned = owned h home file proper e.of; leads = leads });
          target = found_target h module_ folders libraries tables e.path f.0 target t (finds.each i.0 w f.0 i.1 f.1) e.finds to;
        },
      )

  module _ (main : List ℕ) (start : ℕ) (begins : IsFirstFile h (homes.Folder main) start) (lists : List (List ℕ)) (steps : (a b : ℕ) → Leads lists a b ↔ ((k : ℕ) × IsStep leaders imports founds k a b)) where
    pub reach_sound : (t : ℕ) → Reaches lists start t → IsReachedFirst h main t
    reach_sound _ stay = record { home = homes.Folder main; reached = record { there = (start, begins.is); leads = led_stay }; leads = begins }
    reach_sound _ (onward {between = b} {to = t} before edge) =
        let r = reach_sound b before in
        let s = (steps b t).0 edge in
        let e = step_edge s.0 b t s.1 r.home (reached_proper h main r.home r.reached) r.leads in
        record { home = e.target; reached = record { there = r.reached.there; leads = led_onward r.reached.leads e.edge }; leads = e.leads }

    reach_on : (home : PackageKey) → LeadsTo h (homes.Folder main) home → (t : ℕ) → IsFirstFile h home t → Reaches lists start t
    reach_on _ led_stay t leads = subst (Reaches lists start) (one_first h module_ folders libraries tables (homes.Folder main) start t begins leads) stay
    reach_on _ (led_onward {between = b} {target = target} {file = f} {at = a} l e) t leads =
        let first = first_there h module_ folders libraries tables b f e.of in
        let is = entry_first h module_ folders libraries tables b first.0 first.1 in
        let proper = reached_proper h main b (record { there = (start, begins.is); leads = l }) in
        onward (reach_on b l first.0 is) ((steps first.0 t).1 (edge_step b f a target first.0 t e proper is leads))

    pub reach_is : (t : ℕ) → Reaches lists start t ↔ IsReachedFirst h main t
    reach_is t = (reach_sound t, λ r. reach_on r.home r.reached.leads t r.leads)

-- a file of a package has a path
pub file_below : (h : SourceFiles) (home : PackageKey) (file : ℕ) → IsFileOf h home file → file < length h.sources.paths
file_below h home file of = let k = known_file h home file of in get_below h.sources.paths file k.path k.there

-- all parts of a survey
pub survey_is : (h : SourceFiles) (module_ : List ℕ) (folders libraries : Numbers) → HasTables h module_ folders libraries → (main : List ℕ) (start : ℕ) → found_at folders main ≡ Some start
    → (imports : Vec Written Global) (founds : Vec Found Global) (leaders : Vec (Option ℕ) Global) (reached : Nodes)
    → IsListOf InOrder (IsAnImport h) imports.items → AreFounds h imports.items founds.items → leaders.items ≡ map (leader_of folders libraries) h.sources.paths
    → slice_get reached.keys 0 ≡ Some start → AreReached leaders.items imports.items founds.items start reached.keys
    → IsSurvey h main (record { imports = imports; founds = founds; leaders = leaders; reached = reached })
survey_is h module_ folders libraries tables main start at imports founds leaders reached are finds leaders_is first all =
    let led = leaders_are h module_ folders libraries tables leaders.items leaders_is in
    let begins : IsFirstFile h (homes.Folder main) start = entry_first h module_ folders libraries tables (homes.Folder main) start at in
    record {
      imports = are;
      founds = finds;
      leaders = led;
      reached = λ t.
          let r = reach_is h module_ folders libraries tables imports.items founds.items leaders.items are finds led main start begins all.lists all.steps t in
          (λ i. r.0 ((all.all t).0 i), λ f. (all.all t).1 (r.1 f));
      firsts = λ home file of. let f = first_there h module_ folders libraries tables home file of in (f.0, entry_first h module_ folders libraries tables home f.0 f.1);
      main_first = λ f is. first ∙ ap (λ x. Some x) (one_first h module_ folders libraries tables (homes.Folder main) start f begins is);
    }

-- the numbers that are met are those of files
pub leader_below : (h : SourceFiles) (module_ : List ℕ) (folders libraries : Numbers) → HasTables h module_ folders libraries → (leaders : List (Option ℕ)) → leaders ≡ map (leader_of folders libraries) h.sources.paths
    → (file l : ℕ) → slice_get leaders file ≡ Some (Some l) → l < length h.sources.paths
leader_below h module_ folders libraries tables leaders e file l at =
    let by = (leaders_are h module_ folders libraries tables leaders e file l).0 at in
    file_below h by.home l by.leads.is

pub target_below : (h : SourceFiles) (module_ : List ℕ) (folders libraries : Numbers) → HasTables h module_ folders libraries → (imports : List Written) (founds : List Found) → AreFounds h imports founds
    → (k : ℕ) (f : Found) (t : ℕ) → slice_get founds k ≡ Some f → target_of f ≡ Some t → t < length h.sources.paths
target_below h module_ folders libraries tables imports founds finds k f t at e =
    let w = get_there imports k (omega (arith, finds.as_many, get_below founds k f at)) in
    let target = target_found h module_ folders libraries tables w.0.path f t (finds.each k w.0 f w.1 at) e in
    file_below h target.0 t target.2.is

pub start_below : (h : SourceFiles) (module_ : List ℕ) (folders libraries : Numbers) → HasTables h module_ folders libraries → (main : List ℕ) (start : ℕ) → found_at folders main ≡ Some start → start < length h.sources.paths
start_below h module_ folders libraries tables main start at = file_below h (homes.Folder main) start (entry_first h module_ folders libraries tables (homes.Folder main) start at).is

module _ (h : SourceFiles) (module_ : List ℕ) (folders libraries : Numbers) (tables : HasTables h module_ folders libraries) (leaders : List (Option ℕ)) (e : leaders ≡ map (leader_of folders libraries) h.sources.paths) where
  as_many : length leaders ≡ length h.sources.paths
  as_many = ap length e ∙ length-map h.sources.paths (leader_of folders libraries)

  pub leader_within : (file l : ℕ) → slice_get leaders file ≡ Some (Some l) → l < length leaders
  leader_within file l at = let b = leader_below h module_ folders libraries tables leaders e file l at in omega (arith, b, as_many)

  pub target_within : (imports : List Written) (founds : List Found) → AreFounds h imports founds → (k : ℕ) (f : Found) (t : ℕ) → slice_get founds k ≡ Some f → target_of f ≡ Some t → t < length leaders
  target_within imports founds finds k f t at is = let b = target_below h module_ folders libraries tables imports founds finds k f t at is in omega (arith, b, as_many)

  pub start_within : (main : List ℕ) (start : ℕ) → found_at folders main ≡ Some start → start < length leaders
  start_within main start at = let b = start_below h module_ folders libraries tables main start at in omega (arith, b, as_many)

pub reached_same : (ls ms : List (Option ℕ)) (vs ws : List Written) (fs gs : List Found) (start : ℕ) (keys : List ℕ) → ls ≡ ms → vs ≡ ws → fs ≡ gs → AreReached ls vs fs start keys → AreReached ms ws gs start keys
reached_same ls ms vs ws fs gs start keys a b c h = subst (λ x. AreReached x ws gs start keys) a (subst (λ y. AreReached ls y gs start keys) b (subst (λ z. AreReached ls vs z start keys) c h))
