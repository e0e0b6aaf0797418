-- Files of packages that are reached, and places of tokens.
use Rattle.std.proofs.Common.{◌≡◌, ℕ, suc, inl, inr, List, [], ◌∷◌, Bool, true, false, Option, Some, None, ◌⊎◌, refl, sym, ap, ◌∙◌}
use Rattle.std.specs.Prelude.{◌||◌, slice_get, nat_eq}
use Rattle.std.specs.List.{list_any}
use Rattle.std.proofs.lemmas.Bool.{eqb-true}
use Rattle.argot_tree.specs.declared.token.Token.{Token}
use Rattle.argot_tree.specs.declared.lexed.Lexed.{Lexed}
use Rattle.argot_names_rules.specs.Lists.{In}
use Rattle.argot_names_rules.specs.Files.{SourceFiles, Place, Begins}
use Rattle.argot_names_imports.specs.Reads.{tokens_at}
use Rattle.argot_files.specs.declared.place.Place.{Place as Spot}
use Rattle.argot_files.specs.Places.{place_of}
use Rattle.argot_names_packages.specs.Spots.{spot_of, spot_in, IsAt}

one_of : (b c : Bool) → (b || c) ≡ true → (b ≡ true) ⊎ (c ≡ true)
one_of true c e = inl refl
one_of false c e = inr e

pub any_in : (q : ℕ) (xs : List ℕ) → list_any (nat_eq q) xs ≡ true → In q xs
any_in q [] e = absurd (cc)
any_in q (x ∷ xs) e =
    elim (one_of (nat_eq q x) (list_any (nat_eq q) xs) e) [
      | inl is ↦ (0, ap (λ y. Some y) (sym (eqb-true q x is)))
      | inr later ↦ let i = any_in q xs later in (suc i.0, i.1)
    ]

pub same_place : (a b : Place) → a.file ≡ b.file → a.offset ≡ b.offset → a ≡ b
same_place a b e f =
    let make : ℕ → ℕ → Place = λ file offset. record { file = file; offset = offset } in
    ap (λ x. make x a.offset) e ∙ ap (λ y. make b.file y) f

some_is : {A : Type 0} (x y : A) → Some x ≡ Some y → x ≡ y
some_is x y e = cc

-- where a token begins, by the lists
pub begins_at : (h : SourceFiles) (lexed : List Lexed) → h.lexed ≡ lexed → (file token : ℕ) (place : Place) → Begins h file token place → IsAt (spot_in lexed file token) place
begins_at h lexed same file token place b =
    let spot : Spot = record { file = file; offset = b.is.start } in
    record {
      spot = spot;
      is = ap (λ ls. spot_of file (slice_get (tokens_at ls file) token)) (sym same) ∙ ap (spot_of file) b.there;
      place_is = same_place (place_of spot) place (sym b.in_file) (sym b.at);
    }

pub at_begins : (h : SourceFiles) (lexed : List Lexed) → h.lexed ≡ lexed → (file token : ℕ) (place : Place) → IsAt (spot_in lexed file token) place → Begins h file token place
at_begins h lexed same file token place p = go (slice_get (tokens_at lexed file) token) refl p.is
  where
    go : (o : Option Token) → slice_get (tokens_at lexed file) token ≡ o → spot_of file o ≡ Some p.spot → Begins h file token place
    go None e f = absurd (cc)
    go (Some is) e f =
        let spot : record { file = file; offset = is.start } ≡ p.spot = some_is _ p.spot f in
        record {
          is = is;
          there = ap (λ ls. slice_get (tokens_at ls file) token) same ∙ e;
          in_file = ap (λ (q : Place). q.file) (sym p.place_is) ∙ ap (λ (s : Spot). s.file) (sym spot);
          at = ap (λ (q : Place). q.offset) (sym p.place_is) ∙ ap (λ (s : Spot). s.offset) (sym spot);
        }
