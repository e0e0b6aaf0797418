-- The first name of a file that isn't resolved.
use Rattle.std.proofs.Common.{◌≡◌, ◌≢◌, ℕ, ◌+◌, ◌<◌, ◌≤◌, ◌⊎◌, List, Bool, true, false, Option, Some, None, inl, inr, refl, sym, ap, ◌∙◌, subst, arith, codes}
use Rattle.std.specs.Prelude.{slice_get, length, nat_le, if◌then◌else◌}
use Rattle.std.proofs.lemmas.Bool.{cases_eq}
use Rattle.std.proofs.lemmas.Bool.Decides.{nat_tests}
use Rattle.std.proofs.lemmas.Option.{slice_get_within}
use Rattle.argot_tree.specs.declared.token.Token.{Token}
use Rattle.argot_names_rules.specs.declared.package_key.PackageKey.{PackageKey}
use Rattle.argot_names_rules.specs.Files.{SourceFiles, Place, Begins, IsFirst, IsBefore, by_file, by_offset, read_of, text_at}
use Rattle.argot_names_rules.specs.Packages.{IsLeftOut}
use Rattle.argot_names_rules.specs.Imports.{IsReachedFile}
use Rattle.argot_names_rules.specs.Scopes.{MeansNothing}
use Rattle.argot_names_rules.specs.Uses.{IsKey, IsLookup, IsQualified, IsOfPackage, IsMember, IsPassedOver}
use Rattle.argot_names_rules.specs.Faults.{IsUnresolved, lone, member, IsNowhere, Unknown}
use Rattle.argot_names_blocks.specs.declared.bindings.Lookup.{Lookup}
use Rattle.argot_names_blocks.specs.declared.lookup.QualifiedName.{QualifiedName}
use Rattle.argot_names_scopes.specs.declared.file.FileNames.{FileNames}
use Rattle.argot_names_scopes.specs.Again.{start_of, smaller, sooner_of}
use Rattle.argot_names_imports.proofs.Standing.{reached_home}
use Rattle.argot_names_imports.specs.declared.reached.Reached.{Reached}
use Rattle.argot_names_tops.specs.declared.tops.Tops.{Tops}
use Rattle.argot_names_tops.specs.Tops.{IsNamesOf, AreTops}
use Rattle.argot_answers.specs.Answers.{Exactly}
use Rattle.argot_names_uses.specs.Faults.{IsLoneFault, IsMemberFault, IsFirstOf, IsFirstNumber, LoneAt, MemberAt, UnresolvedIn}

some_is : {A : Type 0} (a b : A) → Some a ≡ Some b → a ≡ b
some_is a b e = cc

smaller_low : (a b : ℕ) → (smaller a b ≤ a) × (smaller a b ≤ b)
smaller_low a b = (grind (arith, nat_tests), grind (arith, nat_tests))

smaller_one : (a b : ℕ) → (smaller a b ≡ a) ⊎ (smaller a b ≡ b)
smaller_one a b = go (nat_le a b)
  where
    go : (x : Bool) → ((if x then a else b) ≡ a) ⊎ ((if x then a else b) ≡ b)
    go true = inl refl
    go false = inr refl

-- the sooner one of two answers is one of them, and not behind either
record IsSooner (a b r : Option ℕ) : Type 0 where
  one : (x : ℕ) → r ≡ Some x → (a ≡ Some x) ⊎ (b ≡ Some x)
  before_a : (x y : ℕ) → r ≡ Some x → a ≡ Some y → x ≤ y
  before_b : (x y : ℕ) → r ≡ Some x → b ≡ Some y → x ≤ y
  none_a : r ≡ None → a ≡ None
  none_b : r ≡ None → b ≡ None

sooner_is : (a b : Option ℕ) → IsSooner a b (sooner_of a b)
sooner_is None None = record { one = λ x e. inl e; before_a = λ x y e f. absurd (cc); before_b = λ x y e f. absurd (cc); none_a = λ e. refl; none_b = λ e. refl }
sooner_is None (Some b) = record { one = λ x e. inr e; before_a = λ x y e f. absurd (cc); before_b = λ x y e f. omega (arith, some_is b x e, some_is b y f); none_a = λ e. absurd (cc); none_b = λ e. absurd (cc) }
sooner_is (Some a) None = record { one = λ x e. inl e; before_a = λ x y e f. omega (arith, some_is a x e, some_is a y f); before_b = λ x y e f. absurd (cc); none_a = λ e. absurd (cc); none_b = λ e. absurd (cc) }
sooner_is (Some a) (Some b) =
    record {
      one = λ x e. elim (smaller_one a b) [
        | inl is ↦ inl (ap (λ y. Some y) (sym is) ∙ e)
        | inr is ↦ inr (ap (λ y. Some y) (sym is) ∙ e)
      ];
      before_a = λ x y e f. omega (arith, some_is (smaller a b) x e, some_is a y f, (smaller_low a b).0);
      before_b = λ x y e f. omega (arith, some_is (smaller a b) x e, some_is b y f, (smaller_low a b).1);
      none_a = λ e. absurd (cc);
      none_b = λ e. absurd (cc);
    }

pub first_none : (Holds : ℕ → ℕ → Type 0) → IsFirstOf Holds 0 None
first_none Holds = record { there = λ x e. absurd (cc); first = λ x y k e l p. absurd (omega (arith, l)); none = λ y k e l p. absurd (omega (arith, l)) }

-- one item more
pub first_more : (Holds : ℕ → ℕ → Type 0) (k : ℕ) (first o r : Option ℕ) → IsFirstOf Holds k first → Exactly (Holds k) o → r ≡ sooner_of first o → IsFirstOf Holds (k + 1) r
first_more Holds k first o r h e is = subst (IsFirstOf Holds (k + 1)) (sym is) (more (sooner_is first o))
  where
    more : IsSooner first o (sooner_of first o) → IsFirstOf Holds (k + 1) (sooner_of first o)
    more s =
        record {
          there = λ x g. elim (s.one x g) [
            | inl old ↦
                let t = h.there x old in
                (t.0, omega (arith, t.1), t.2)
            | inr new ↦ (k, omega arith, e.sound x new)
          ];
          first = λ x y j g l p. elim (cases_eq j k) [
            | inl same ↦ s.before_b x y g (e.complete y (subst (λ i. Holds i y) same p))
            | inr apart ↦ older first refl x y j g (omega (arith, l, apart)) p
          ];
          none = λ y j g l p. elim (cases_eq j k) [
            | inl same ↦ never y (s.none_b g) (e.complete y (subst (λ i. Holds i y) same p))
            | inr apart ↦ h.none y j (s.none_a g) (omega (arith, l, apart)) p
          ];
        }
      where
        never : (y : ℕ) → o ≡ None → o ≡ Some y → ⊥
        never y a b = absurd (cc)

        older : (q : Option ℕ) → first ≡ q → (x y j : ℕ) → sooner_of first o ≡ Some x → j < k → Holds j y → x ≤ y
        older None q x y j g l p = absurd (h.none y j q l p)
        older (Some z) q x y j g l p = omega (arith, s.before_a x z g q, h.first z y j q l p)

pub lone_at : (h : SourceFiles) (home : PackageKey) (file : ℕ) (looked : List Lookup) (k : ℕ) (l : Lookup) (o : Option ℕ) → slice_get looked k ≡ Some l → Exactly (IsLoneFault h home file l) o → Exactly (LoneAt h home file looked k) o
lone_at h home file looked k l o e is =
    record {
      sound = λ x f. (l, e, is.sound x f);
      complete = λ x p. is.complete x (subst (λ (i : Lookup). IsLoneFault h home file i x) (some_is p.0 l (sym p.1 ∙ e)) p.2);
    }

pub member_at : (h : SourceFiles) (home : PackageKey) (file : ℕ) (dotted : List QualifiedName) (k : ℕ) (d : QualifiedName) (o : Option ℕ) → slice_get dotted k ≡ Some d → Exactly (IsMemberFault h home file d) o → Exactly (MemberAt h home file dotted k) o
member_at h home file dotted k d o e is =
    record {
      sound = λ x f. (d, e, is.sound x f);
      complete = λ x p. is.complete x (subst (λ (i : QualifiedName). IsMemberFault h home file i x) (some_is p.0 d (sym p.1 ∙ e)) p.2);
    }

begins_at : (h : SourceFiles) (file token offset : ℕ) (o : Option Token) → slice_get (read_of h file).tokens token ≡ o → start_of o ≡ Some offset → Begins h file token (record { file = file; offset = offset })
begins_at h file token offset None e s = absurd (cc)
begins_at h file token offset (Some t) e s = record { is = t; there = e; in_file = refl; at = sym (some_is t.start offset s) }

start_is : (h : SourceFiles) (file token : ℕ) (place : Place) → Begins h file token place → start_of (slice_get (read_of h file).tokens token) ≡ Some place.offset
start_is h file token place b = ap start_of b.there ∙ ap (λ x. Some x) (sym b.at)

one_home : (h : SourceFiles) (main : List ℕ) (a b : PackageKey) (file : ℕ) → IsReachedFile h main a file → IsReachedFile h main b file → a ≡ b
one_home h main a b file p q = sym (reached_home h main a file p.reached p.of) ∙ reached_home h main b file q.reached q.of

module _ (h : SourceFiles) (main : List ℕ) (home : PackageKey) (file : ℕ) (n : FileNames) (reached : IsReachedFile h main home file) (is : IsNamesOf h file n) where
  lone_unresolved : (k offset : ℕ) → LoneAt h home file n.bindings.looked.items k offset → UnresolvedIn h main file offset
  lone_unresolved k offset (l, e, p) =
      lone reached (subst (λ t. IsLookup t l.node l.token) is.nodes (is.names.brings.looked.sound l (k, e)).looked) p.no_key p.named p.nothing p.heeded
      (begins_at h file l.token offset (slice_get (read_of h file).tokens l.token) refl p.begins)

  member_unresolved : (k offset : ℕ) → MemberAt h home file n.bindings.dotted.items k offset → UnresolvedIn h main file offset
  member_unresolved k offset (d, e, p) =
      member reached (subst (λ t. IsQualified t d.token d.member d.node) is.nodes (is.names.brings.dotted.sound d (k, e))) p.of_package p.known p.none p.heeded
      (begins_at h file d.member offset (slice_get (read_of h file).tokens d.member) refl p.begins)

  -- a name that isn't resolved stands in one of the lists
  lone_listed : (other : PackageKey) (number node token : ℕ) (place : Place) → number ≡ file → IsReachedFile h main other number → IsLookup (read_of h number).nodes node token → (IsKey (read_of h number).nodes node → ⊥) → text_at (read_of h number) token ≢ codes "_" → MeansNothing h other number token (text_at (read_of h number) token) → (IsPassedOver (read_of h number).nodes token → ⊥)
      → start_of (slice_get (read_of h number).tokens token) ≡ Some place.offset → (k : ℕ) × LoneAt h home file n.bindings.looked.items k place.offset
  lone_listed other number node token place same r looked no_key named none heeded begins =
      let r' = subst (IsReachedFile h main other) same r in
      let looked' = subst (λ x. IsLookup (read_of h x).nodes node token) same looked in
      let no_key' = subst (λ x. IsKey (read_of h x).nodes node → ⊥) same no_key in
      let named' = subst (λ x. text_at (read_of h x) token ≢ codes "_") same named in
      let none' = subst (λ x. MeansNothing h other x token (text_at (read_of h x) token)) same none in
      let heeded' = subst (λ x. IsPassedOver (read_of h x).nodes token → ⊥) same heeded in
      let begins' = subst (λ x. start_of (slice_get (read_of h x).tokens token) ≡ Some place.offset) same begins in
      let l : Lookup = record { node = node; token = token; key = false } in
      let seen = is.names.brings.looked.complete l (record { looked = subst (λ t. IsLookup t node token) (sym is.nodes) looked'; key = λ e. absurd (cc); no_key = λ e k. no_key' (subst (λ t. IsKey t node) is.nodes k) }) in
      (seen.0, (l, seen.1, record { no_key = no_key'; named = named'; nothing = subst (λ x. MeansNothing h x file token (text_at (read_of h file) token)) (one_home h main other home file r' reached) none'; heeded = heeded'; begins = begins' }))

  member_listed : (other : PackageKey) (number token at node : ℕ) (path : List ℕ) (place : Place) → number ≡ file → IsReachedFile h main other number → IsQualified (read_of h number).nodes token at node → IsOfPackage h other number token path → (IsLeftOut path → ⊥) → ((found declared : ℕ) → IsMember h path (text_at (read_of h number) at) found declared → ⊥) → (IsPassedOver (read_of h number).nodes token → ⊥)
      → start_of (slice_get (read_of h number).tokens at) ≡ Some place.offset → (k : ℕ) × MemberAt h home file n.bindings.dotted.items k place.offset
  member_listed other number token at node path place same r dotted means known none heeded begins =
      let r' = subst (IsReachedFile h main other) same r in
      let dotted' = subst (λ x. IsQualified (read_of h x).nodes token at node) same dotted in
      let means' = subst (λ x. IsOfPackage h other x token path) same means in
      let none' = subst (λ x. (found declared : ℕ) → IsMember h path (text_at (read_of h x) at) found declared → ⊥) same none in
      let heeded' = subst (λ x. IsPassedOver (read_of h x).nodes token → ⊥) same heeded in
      let begins' = subst (λ x. start_of (slice_get (read_of h x).tokens at) ≡ Some place.offset) same begins in
      let d : QualifiedName = record { token = token; member = at; node = node } in
      let seen = is.names.brings.dotted.complete d (subst (λ t. IsQualified t token at node) (sym is.nodes) dotted') in
      (seen.0, (d, seen.1, record { path = path; of_package = subst (λ x. IsOfPackage h x file token path) (one_home h main other home file r' reached) means'; known = known; none = none'; heeded = heeded'; begins = begins' }))

  listed : (place : Place) → IsUnresolved h main place → place.file ≡ file → ((k : ℕ) × LoneAt h home file n.bindings.looked.items k place.offset) ⊎ ((k : ℕ) × MemberAt h home file n.bindings.dotted.items k place.offset)
  listed place (lone {home = other} {file = number} {node = node} {token = token} r looked no_key named none heeded begins) e =
      inl (lone_listed other number node token place (sym begins.in_file ∙ e) r looked no_key named none heeded (start_is h number token place begins))
  listed place (member {home = other} {file = number} {token = token} {member = at} {node = node} {path = path} r dotted means known none heeded begins) e =
      inr (member_listed other number token at node path place (sym begins.in_file ∙ e) r dotted means known none heeded (start_is h number at place begins))

  -- the first of both lists is the first of the file
  pub first_of_both : (a b r : Option ℕ) → IsFirstOf (LoneAt h home file n.bindings.looked.items) (length n.bindings.looked.items) a → IsFirstOf (MemberAt h home file n.bindings.dotted.items) (length n.bindings.dotted.items) b → r ≡ sooner_of a b → IsFirstNumber (UnresolvedIn h main file) r
  first_of_both a b r p q e = subst (IsFirstNumber (UnresolvedIn h main file)) (sym e) (whole (sooner_is a b))
    where
      lone_within : (k y : ℕ) → LoneAt h home file n.bindings.looked.items k y → k < length n.bindings.looked.items
      lone_within k y t = slice_get_within n.bindings.looked.items k t.0 t.1

      member_within : (k y : ℕ) → MemberAt h home file n.bindings.dotted.items k y → k < length n.bindings.dotted.items
      member_within k y t = slice_get_within n.bindings.dotted.items k t.0 t.1

      whole : IsSooner a b (sooner_of a b) → IsFirstNumber (UnresolvedIn h main file) (sooner_of a b)
      whole s =
          record {
            there = λ x g. elim (s.one x g) [
              | inl left ↦
                  let t = p.there x left in
                  lone_unresolved t.0 x t.2
              | inr right ↦
                  let t = q.there x right in
                  member_unresolved t.0 x t.2
            ];
            first = λ x y g u. elim (listed (record { file = file; offset = y }) u refl) [
              | inl t ↦ not_behind_a a refl x y g t.0 t.1
              | inr t ↦ not_behind_b b refl x y g t.0 t.1
            ];
            none = λ y g u. elim (listed (record { file = file; offset = y }) u refl) [
              | inl t ↦ p.none y t.0 (s.none_a g) (lone_within t.0 y t.1) t.1
              | inr t ↦ q.none y t.0 (s.none_b g) (member_within t.0 y t.1) t.1
            ];
          }
        where
          not_behind_a : (o : Option ℕ) → a ≡ o → (x y : ℕ) → sooner_of a b ≡ Some x → (k : ℕ) → LoneAt h home file n.bindings.looked.items k y → x ≤ y
          not_behind_a None f x y g k t = absurd (p.none y k f (lone_within k y t) t)
          not_behind_a (Some z) f x y g k t = omega (arith, s.before_a x z g f, p.first z y k f (lone_within k y t) t)

          not_behind_b : (o : Option ℕ) → b ≡ o → (x y : ℕ) → sooner_of a b ≡ Some x → (k : ℕ) → MemberAt h home file n.bindings.dotted.items k y → x ≤ y
          not_behind_b None f x y g k t = absurd (q.none y k f (member_within k y t) t)
          not_behind_b (Some z) f x y g k t = omega (arith, s.before_b x z g f, q.first z y k f (member_within k y t) t)

-- the answer of a file that is of no package
pub not_reached : (h : SourceFiles) (main : List ℕ) (file : ℕ) → ((home : PackageKey) → IsReachedFile h main home file → ⊥) → IsFirstNumber (UnresolvedIn h main file) None
not_reached h main file none = record { there = λ x e. absurd (cc); first = λ x y e u. absurd (cc); none = λ y e u. reached_by h main (record { file = file; offset = y }) u none }
  where
    reached_by : (h : SourceFiles) (main : List ℕ) (place : Place) → IsUnresolved h main place → ((home : PackageKey) → IsReachedFile h main home place.file → ⊥) → ⊥
    reached_by h main place (lone {home = home} {file = number} r looked no_key named none heeded begins) never = never home (subst (IsReachedFile h main home) (sym begins.in_file) r)
    reached_by h main place (member {home = home} {file = number} r dotted means known none heeded begins) never = never home (subst (IsReachedFile h main home) (sym begins.in_file) r)

-- an unresolved name stands in a file of a package
pub of_a_package : (h : SourceFiles) (main : List ℕ) (place : Place) → IsUnresolved h main place → (home : PackageKey) × IsReachedFile h main home place.file
of_a_package h main place (lone {home = home} {file = number} r looked no_key named none heeded begins) = (home, subst (IsReachedFile h main home) (sym begins.in_file) r)
of_a_package h main place (member {home = home} {file = number} r dotted means known none heeded begins) = (home, subst (IsReachedFile h main home) (sym begins.in_file) r)

-- no file before a number has one
abbrev pub NoneBefore : SourceFiles → List ℕ → ℕ → Type 0
NoneBefore h main count = (place : Place) → place.file < count → IsUnresolved h main place → ⊥

same_place : (file : ℕ) (place : Place) → place.file ≡ file → place ≡ record { file = file; offset = place.offset }
same_place file place e i = record { file = e i; offset = place.offset }

pub none_more : (h : SourceFiles) (main : List ℕ) (count : ℕ) (o : Option ℕ) → NoneBefore h main count → IsFirstNumber (UnresolvedIn h main count) o → o ≡ None → NoneBefore h main (count + 1)
none_more h main count o before first e place low u =
    elim (cases_eq place.file count) [
      | inl same ↦ first.none place.offset e (subst (IsUnresolved h main) (same_place count place same) u)
      | inr apart ↦ before place (omega (arith, low, apart)) u
    ]

pub first_place : (h : SourceFiles) (main : List ℕ) (file offset : ℕ) (o : Option ℕ) → NoneBefore h main file → IsFirstNumber (UnresolvedIn h main file) o → o ≡ Some offset → IsFirst (IsUnresolved h main) (record { file = file; offset = offset })
first_place h main file offset o before first e =
    record { holds = first.there offset e; first = behind }
  where
    behind : (other : Place) → IsUnresolved h main other → IsBefore other (record { file = file; offset = offset }) → ⊥
    behind other u (by_file low) = before other low u
    behind other u (by_offset same low) =
        let least = first.first offset other.offset e (subst (IsUnresolved h main) (same_place file other same) u) in
        absurd (omega (arith, low, least))

-- all files have been looked at
pub nowhere : (h : SourceFiles) (main : List ℕ) (r : Reached) (t : Tops) → AreTops h main r t → (count : ℕ) → length t.files.items ≤ count → NoneBefore h main count → IsNowhere h main Unknown
nowhere h main r t tops count long none place u =
    let p = of_a_package h main place u in
    let k = tops.reach.reached.complete p.0 p.1.reached in
    let n = tops.files.all place.file k.0 (record { home = p.0; in_home = k.1; of = p.1.of }) in
    none place (omega (arith, long, slice_get_within t.files.items place.file (Some n.0) n.1)) u
