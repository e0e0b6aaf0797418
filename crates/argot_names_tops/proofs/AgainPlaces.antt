-- Names in functions that are declared again, file by file.
use Rattle.std.proofs.Common.{◌≡◌, ℕ, ◌+◌, inl, inr, List, Option, Some, None, refl, sym, ap, ◌∙◌, subst, arith}
use Rattle.std.specs.Prelude.{slice_get}
use Rattle.std.proofs.lemmas.Bool.{cases_eq}
use Rattle.argot_tree.specs.declared.token.Token.{Token}
use Rattle.argot_names_rules.specs.declared.package_key.PackageKey.{PackageKey}
use Rattle.argot_names_rules.specs.Files.{SourceFiles, SourceFile, Place as Byte, IsBefore, by_file, by_offset, read_of}
use Rattle.argot_names_rules.specs.Imports.{IsReachedFile}
use Rattle.argot_names_scopes.specs.Again.{start_of}
use Rattle.argot_names_scopes.specs.Files.{IsAgain, BeginsAt, IsFirstPlace, HasNoPlace}
use Rattle.argot_names_scopes.specs.declared.file.FileNames.{FileNames}
use Rattle.argot_names_imports.specs.declared.reached.Reached.{Reached}
use Rattle.argot_names_imports.specs.Reached.{IsReach}
use Rattle.argot_files.specs.declared.place.Place.{Place}
use Rattle.argot_names_tops.specs.First.{NamesFirst, there, nowhere, Either, sooner_of}
use Rattle.argot_names_tops.specs.Behind.{IsAgainIn, IsAgainBelow}
use Rattle.argot_names_tops.specs.Tops.{IsNamesOf, AreFiles}
use Rattle.argot_names_tops.proofs.FirstPlaces.{first_same, sooner_first}

token_at : (o : Option Token) (offset : ℕ) → start_of o ≡ Some offset → (t : Token) × (o ≡ Some t) × (offset ≡ t.start)
token_at None offset e = absurd (cc)
token_at (Some t) offset e = (t, refl, cc)

module _ (h : SourceFiles) (main : List ℕ) (home : PackageKey) (file : ℕ) (reached : IsReachedFile h main home file) where
  again_here : (token offset : ℕ) → IsAgain (read_of h file) token → BeginsAt (read_of h file).tokens token offset → IsAgainIn h main file (record { file = file; offset = offset })
  again_here token offset again begins =
      let t = token_at (slice_get (read_of h file).tokens token) offset begins in
      record {
        home = home;
        node = again.node;
        token = token;
        opens = again.opens;
        closes = again.closes;
        from = again.from;
        reached = reached;
        brings = again.brings;
        named = again.named;
        earlier = again.earlier;
        begins = record { is = t.0; there = t.1; in_file = refl; at = t.2 };
      }

  is_again : (p : Byte) (a : IsAgainIn h main file p) → IsAgain (read_of h file) a.token
  is_again p a = record { node = a.node; opens = a.opens; closes = a.closes; from = a.from; brings = a.brings; named = a.named; earlier = a.earlier }

  begins_at : (p : Byte) (a : IsAgainIn h main file p) → BeginsAt (read_of h file).tokens a.token p.offset
  begins_at p a = ap start_of a.begins.there ∙ ap (λ x. Some x) (sym a.begins.at)

  pub again_first : (offset : ℕ) → IsFirstPlace (read_of h file) offset → NamesFirst (IsAgainIn h main file) (Some (record { file = file; offset = offset }))
  again_first offset f =
      there (record { holds = again_here f.token offset f.again f.begins; first = λ p a before. earlier p a before })
    where
      earlier : (p : Byte) → IsAgainIn h main file p → IsBefore p (record { file = file; offset = offset }) → ⊥
      earlier p a (by_file low) = omega (arith, low, a.begins.in_file)
      earlier p a (by_offset e low) = omega (arith, low, f.first a.token p.offset (is_again p a) (begins_at p a))

  pub again_none : HasNoPlace (read_of h file) → NamesFirst (IsAgainIn h main file) None
  again_none none = nowhere (λ p a. none a.token p.offset (is_again p a) (begins_at p a))

pub read_is : (h : SourceFiles) (file : ℕ) (n : FileNames) → IsNamesOf h file n → ◌≡◌ {A = SourceFile} (record { bytes = n.bytes.now; tokens = n.tokens.now; nodes = n.tree.now.nodes }) (read_of h file)
read_is h file n is = λ i. record { bytes = is.bytes i; tokens = is.tokens i; nodes = is.nodes i }

-- a file of no package has none
pub again_nowhere : (h : SourceFiles) (main : List ℕ) (r : Reached) (is : IsReach h main r) (files : List (Option FileNames)) (file : ℕ) → AreFiles h r files → ((n : FileNames) → slice_get files file ≡ Some (Some n) → ⊥) → NamesFirst (IsAgainIn h main file) None
again_nowhere h main r is files file are none =
    nowhere (λ p a.
    let i = is.reached.complete a.home a.reached.reached in
    let n = are.all file i.0 (record { home = a.home; in_home = i.1; of = a.reached.of }) in
    none n.0 n.1)

module _ (h : SourceFiles) (main : List ℕ) where
  pub again_begun : NamesFirst (IsAgainBelow h main 0) None
  again_begun = nowhere (λ p a. omega (arith, a.below))

  pub again_more : (file : ℕ) (first here : Option Place) → NamesFirst (IsAgainBelow h main file) first → NamesFirst (IsAgainIn h main file) here → NamesFirst (IsAgainBelow h main (file + 1)) (sooner_of first here)
  again_more file first here f g =
      first_same (Either (IsAgainBelow h main file) (IsAgainIn h main file)) (IsAgainBelow h main (file + 1)) (sooner_of first here)
      (λ p e. elim e [ inl b ↦ record { file = b.file; below = omega (arith, b.below); again = b.again } | inr b ↦ record { file = file; below = omega arith; again = b } ])
      (λ p b. elim (cases_eq b.file file) [
        | inl same ↦ inr (subst (λ x. IsAgainIn h main x p) same b.again)
        | inr apart ↦ inl (record { file = b.file; below = omega (arith, b.below, apart); again = b.again })
      ])
      (sooner_first (IsAgainBelow h main file) (IsAgainIn h main file) first here f g)
