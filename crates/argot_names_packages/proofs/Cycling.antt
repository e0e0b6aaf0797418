-- Imports on a cycle, by the graph of first files.
use Rattle.std.proofs.Common.{◌≡◌, ℕ, ◌<◌, ◌≤◌, List, length, Option, Some, None, refl, sym, ◌∙◌, subst, arith}
use Rattle.std.specs.Prelude.{◌↔◌, slice_get}
use Rattle.argot_tree.specs.declared.lexed.Lexed.{Lexed}
use Rattle.argot_names_rules.specs.declared.package_key.PackageKey.{PackageKey}
use Rattle.argot_names_rules.specs.Lists.{In}
use Rattle.argot_names_rules.specs.Files.{SourceFiles, Place}
use Rattle.argot_names_rules.specs.Packages.{IsFileOf, IsFirstFile}
use Rattle.argot_names_rules.specs.Imports.{Edge, Leads as LeadsTo}
use Rattle.argot_names_rules.specs.Imports.Leads.{stay as led_stay, onward as led_onward}
use Rattle.argot_names_rules.specs.Faults.{IsOnCycle}
use Rattle.argot_names_imports.specs.declared.written.Written.{Written}
use Rattle.argot_names_imports.specs.declared.find.Found.{Found}
use Rattle.argot_names_imports.specs.declared.survey.Survey.{Survey}
use Rattle.argot_names_imports.specs.Graph.{Leads, IsStep, Reaches, stay, onward}
use Rattle.argot_names_imports.specs.Surveyed.{IsProper, IsSurvey}
use Rattle.argot_names_imports.proofs.Lists.{get_below, get_none, get_there}
use Rattle.argot_names_imports.proofs.Surveys.{owned, one_owner, first_owned, file_owned, finds_proper}
use Rattle.argot_names_imports.proofs.ReachedFrom.{edge_proper, reached_proper}
use Rattle.argot_names_imports.proofs.Standing.{first_is_one, reached_leader, target_is, is_target}
use Rattle.argot_names_packages.specs.Spots.{spot_in, IsAt}
use Rattle.argot_names_packages.specs.Ranks.{rank_of, FallsFrom}
use Rattle.argot_names_packages.specs.Cycles.{IsStepAt, IsCycleAt}
use Rattle.argot_names_packages.proofs.Led.{begins_at, at_begins}

some_is : {A : Type 0} (x y : A) → Some x ≡ Some y → x ≡ y
some_is x y e = cc

pub steps_same : (ls ms : List (Option ℕ)) (vs ws : List Written) (fs gs : List Found) (lists : List (List ℕ)) → ls ≡ ms → vs ≡ ws → fs ≡ gs → ((a b : ℕ) → Leads lists a b ↔ ((k : ℕ) × IsStep ls vs fs k a b)) → (a b : ℕ) → Leads lists a b ↔ ((k : ℕ) × IsStep ms ws gs k a b)
steps_same ls ms vs ws fs gs lists e f g steps a b = (
  λ h. let st = (steps a b).0 h in (st.0, subst (λ x. IsStep x ws gs st.0 a b) e (subst (λ x. IsStep ls x gs st.0 a b) f (subst (λ x. IsStep ls vs x st.0 a b) g st.1))),
  λ st. (steps a b).1 (st.0, subst (λ x. IsStep x vs fs st.0 a b) (sym e) (subst (λ x. IsStep ms x fs st.0 a b) (sym f) (subst (λ x. IsStep ms ws x st.0 a b) (sym g) st.1))),
)

-- an import finds the package with this first file
pub record IsImportTo (h : SourceFiles) (home : PackageKey) (w : Written) (t : ℕ) : Type 0 where
  pub target : PackageKey
  pub leads : IsFirstFile h target t
  pub edge : Edge h home w.file w.at target
  pub proper : IsProper target

-- what leads on from a package has a file where the other end has one
pub leads_file : (h : SourceFiles) (a b : PackageKey) → LeadsTo h a b → (file : ℕ) → IsFileOf h b file → (other : ℕ) × IsFileOf h a other
leads_file h a _ led_stay file of = (file, of)
leads_file h a _ (led_onward {between = c} {file = f} l e) file of = leads_file h a c l f e.of

pub leads_proper : (h : SourceFiles) (a b : PackageKey) → IsProper a → LeadsTo h a b → IsProper b
leads_proper h a _ proper led_stay = proper
leads_proper h a _ proper (led_onward {between = c} {target = t} {file = f} {at = at} l e) = edge_proper h c f at t e

module _ (h : SourceFiles) (main : List ℕ) (s : Survey) (is : IsSurvey h main s) where
  -- a step is an edge
  pub step_edge : (k l t : ℕ) (st : IsStep s.leaders.items s.imports.items s.founds.items k l t) (home : PackageKey) → IsProper home → IsFirstFile h home l → IsImportTo h home st.import_ t
  step_edge k l t st home proper leads =
      let w = st.import_ in
      let imports = is.imports.sound w (k, st.is_import) in
      let f = is.founds.each k w st.found st.is_import st.is_found in
      let by = (is.leaders w.file l).0 st.leader in
      let same : home ≡ by.home = one_owner h home by.home l (owned h home l proper leads.is) (first_owned h by.home w.file l by.owned by.leads) in
      let target = is_target h w.path st.found t f st.target in
      record {
        target = target.0;
        leads = target.2;
        edge = record {
          of = subst (λ a. IsFileOf h a w.file) (sym same) (file_owned h by.home w.file by.owned);
          node = w.node;
          path_at = w.path_at;
          alias = w.alias;
          path = w.path;
          imports = imports;
          finds = target.1;
        };
        proper = finds_proper h w.path target.0 target.1;
      }

  -- an edge is a step
  pub record IsEdgeStep (home : PackageKey) (file at l t : ℕ) : Type 0 where
    pub number : ℕ
    pub import_ : Written
    pub there : slice_get s.imports.items number ≡ Some import_
    pub file_is : import_.file ≡ file
    pub at_is : import_.at ≡ at
    pub step : IsStep s.leaders.items s.imports.items s.founds.items number l t

  pub edge_step : (home : PackageKey) (file at : ℕ) (target : PackageKey) (l t : ℕ) → Edge h home file at target → IsProper home → IsFirstFile h home l → IsFirstFile h target t → IsEdgeStep home file at l t
  edge_step home file at target l t e proper leads to =
      let w : Written = record { file = file; node = e.node; at = at; path_at = e.path_at; alias = e.alias; path = e.path } in
      let i = is.imports.complete w e.imports in
      let f = get_there s.founds.items i.0 (omega (arith, is.founds.as_many, get_below s.imports.items i.0 w i.1)) in
      record {
        number = i.0;
        import_ = w;
        there = i.1;
        file_is = refl;
        at_is = refl;
        step = record {
          import_ = w;
          found = f.0;
          is_import = i.1;
          is_found = f.1;
          leader = (is.leaders file l).1 (record { home = home; owned = owned h home file proper e.of; leads = leads });
          target = target_is h e.path f.0 target t (is.founds.each i.0 w f.0 i.1 f.1) e.finds to;
        };
      }

  -- a first file leads itself
  pub leader_below : (file l : ℕ) → slice_get s.leaders.items file ≡ Some (Some l) → l < length s.leaders.items
  leader_below file l e =
      let by = (is.leaders file l).0 e in
      get_below s.leaders.items l (Some l) ((is.leaders l l).1 (record { home = by.home; owned = first_owned h by.home file l by.owned by.leads; leads = by.leads }))

  -- what is found is a first file
  pub target_below : (k l t : ℕ) → IsStep s.leaders.items s.imports.items s.founds.items k l t → t < length s.leaders.items
  target_below k l t st =
      let w = st.import_ in
      let e = is_target h w.path st.found t (is.founds.each k w st.found st.is_import st.is_found) st.target in
      get_below s.leaders.items t (Some t) ((is.leaders t t).1 (record { home = e.0; owned = owned h e.0 t (finds_proper h w.path e.0 e.1) e.2.is; leads = e.2 }))

  -- nothing is reached
  pub none_on_cycle : slice_get s.reached.keys 0 ≡ None → (place : Place) → IsOnCycle h main place → ⊥
  none_on_cycle none place p =
      let l = reached_leader h main s is p.home p.file (record { reached = p.reached; of = p.edge.of }) in
      omega (arith, get_none s.reached.keys 0 none, get_below s.reached.keys l.2.0 l.0 l.2.1)

  -- what is reached leads to what is reached
  pub step_reached : (k l t : ℕ) → IsStepAt s k l t → In t s.reached.keys
  step_reached k l t st =
      let r = (is.reached l).0 st.reached in
      let e = step_edge k l t st.step r.home (reached_proper h main r.home r.reached) r.leads in
      (is.reached t).1 (record { home = e.target; reached = record { there = r.reached.there; leads = led_onward r.reached.leads e.edge }; leads = e.leads })

  module _ (lists : List (List ℕ)) (steps : (a b : ℕ) → Leads lists a b ↔ ((k : ℕ) × IsStep s.leaders.items s.imports.items s.founds.items k a b)) where
    -- the packages that lead on, by first files
    pub record IsLedTo (a : PackageKey) (t : ℕ) : Type 0 where
      pub home : PackageKey
      pub leads : LeadsTo h a home
      pub first : IsFirstFile h home t
      pub proper : IsProper home

    pub reaches_leads : (a : PackageKey) (x t : ℕ) → IsProper a → IsFirstFile h a x → Reaches lists x t → IsLedTo a t
    reaches_leads a x _ proper first stay = record { home = a; leads = led_stay; first = first; proper = proper }
    reaches_leads a x _ proper first (onward {between = b} {to = t} before edge) =
        let r = reaches_leads a x b proper first before in
        let st = (steps b t).0 edge in
        let e = step_edge st.0 b t st.1 r.home r.proper r.first in
        record { home = e.target; leads = led_onward r.leads e.edge; first = e.leads; proper = e.proper }

    pub leads_reaches : (a b : PackageKey) → LeadsTo h a b → (x t : ℕ) → IsProper a → IsFirstFile h a x → IsFirstFile h b t → Reaches lists x t
    leads_reaches a _ led_stay x t proper first last = subst (Reaches lists x) (first_is_one h a x t first last) stay
    leads_reaches a _ (led_onward {between = c} {target = b} {file = f} {at = at} l e) x t proper first last =
        let m = is.firsts c f e.of in
        let st = edge_step c f at b m.0 t e (leads_proper h a c proper l) m.1 last in
        onward (leads_reaches a c l x m.0 proper first m.1) ((steps m.0 t).1 (st.number, st.step))

    -- an import on a cycle
    pub cycle_there : (lexed : List Lexed) → h.lexed ≡ lexed → (place : Place) → IsOnCycle h main place → (k : ℕ) × IsCycleAt s lexed lists k place
    cycle_there lexed same place p =
        let proper = reached_proper h main p.home p.reached in
        let l = reached_leader h main s is p.home p.file (record { reached = p.reached; of = p.edge.of }) in
        let f = leads_file h p.target p.home p.back p.file p.edge.of in
        let t = is.firsts p.target f.0 f.1 in
        let st = edge_step p.home p.file p.at p.target l.0 t.0 p.edge proper l.3 t.1 in
        let begins : IsAt (spot_in lexed st.import_.file st.import_.at) place =
        subst (λ x. IsAt (spot_in lexed x st.import_.at) place) (sym st.file_is) (subst (λ y. IsAt (spot_in lexed p.file y) place) (sym st.at_is) (begins_at h lexed same p.file p.at place p.begins)) in (
          st.number,
          record {
            import_ = st.import_;
            from = l.0;
            to = t.0;
            is_import = st.there;
            step = record { step = st.step; reached = l.2 };
            back = leads_reaches p.target p.home p.back t.0 l.0 (edge_proper h p.home p.file p.at p.target p.edge) t.1 l.3;
            begins = begins;
          },
        )

    pub cycle_is : (lexed : List Lexed) → h.lexed ≡ lexed → (k : ℕ) (place : Place) → IsCycleAt s lexed lists k place → (k < length s.imports.items) × IsOnCycle h main place
    cycle_is lexed same k place m =
        let r = (is.reached m.from).0 m.step.reached in
        let proper = reached_proper h main r.home r.reached in
        let e = step_edge k m.from m.to m.step.step r.home proper r.leads in
        let b = reaches_leads e.target m.to m.from e.proper e.leads m.back in
        let home_is : b.home ≡ r.home = one_owner h b.home r.home m.from (owned h b.home m.from b.proper b.first.is) (owned h r.home m.from proper r.leads.is) in
        let w : m.import_ ≡ m.step.step.import_ = some_is m.import_ m.step.step.import_ (sym m.is_import ∙ m.step.step.is_import) in (
          get_below s.imports.items k m.import_ m.is_import,
          record {
            home = r.home;
            file = m.step.step.import_.file;
            at = m.step.step.import_.at;
            target = e.target;
            reached = r.reached;
            edge = e.edge;
            back = subst (LeadsTo h e.target) home_is b.leads;
            begins = at_begins h lexed same m.step.step.import_.file m.step.step.import_.at place (subst (λ (v : Written). IsAt (spot_in lexed v.file v.at) place) w m.begins);
          },
        )

    -- where ranks fall no import of a package with a rank is on a cycle
    module _ (ranks : List ℕ) (fall : (l : ℕ) → l < length s.leaders.items → In l s.reached.keys → FallsFrom lists ranks l) where
      key_below : (l : ℕ) → In l s.reached.keys → l < length s.leaders.items
      key_below l i =
          let r = (is.reached l).0 i in
          get_below s.leaders.items l (Some l) ((is.leaders l l).1 (record { home = r.home; owned = owned h r.home l (reached_proper h main r.home r.reached) r.leads.is; leads = r.leads }))

      path_reached : (x t : ℕ) → In x s.reached.keys → Reaches lists x t → In t s.reached.keys
      path_reached x _ i stay = i
      path_reached x _ i (onward {between = b} {to = t} before edge) =
          let st = (steps b t).0 edge in
          step_reached st.0 b t (record { step = st.1; reached = path_reached x b i before })

      lower : (x t : ℕ) → In x s.reached.keys → Reaches lists x t → 0 < rank_of ranks t → rank_of ranks t ≤ rank_of ranks x
      lower x _ i stay some = omega arith
      lower x _ i (onward {between = b} {to = t} before edge) some =
          let r = path_reached x b i before in
          let f = fall b (key_below b r) r t edge some in
          omega (arith, f, lower x b i before (omega (arith, f)))

      pub ranked : (k from to : ℕ) → IsStepAt s k from to → 0 < rank_of ranks from → Reaches lists to from → ⊥
      ranked k from to st some back =
          let edge : Leads lists from to = (steps from to).1 (k, st.step) in
          let high = lower to from (step_reached k from to st) back some in
          let low = fall from (key_below from st.reached) st.reached to edge (omega (arith, high, some)) in
          omega (arith, high, low)
