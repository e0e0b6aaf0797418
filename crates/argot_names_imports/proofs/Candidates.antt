-- What is computed of a path is what the definitions say.
use Rattle.std.proofs.Common.{rules, ◌≡◌, ◌≢◌, ℕ, List, [], ◌∷◌, ◌++◌, length, take, drop, Bool, true, false, Option, Some, None, refl, sym, ap, ◌∙◌, subst, arith, length-append}
use Rattle.std.specs.Prelude.{nat_eq, codes}
use Rattle.std.specs.Cmp.Lexicographic.{pointwise}
use Rattle.std.specs.Str.{IsUtf8}
use Rattle.std.proofs.lemmas.Str.{IsUtf8-from_ascii}
use Rattle.std.proofs.lemmas.Bool.{cond_both}
use Rattle.std.proofs.lemmas.List.{take-append-drop}
use Rattle.std.proofs.Math.Seq.{take-append_seam, drop-append_seam}
use Rattle.argot_stubs.specs.Stubs.{HasStub, errors, fmt, os, exec, strings, log, strconv, sync}
use Rattle.argot_names_rules.specs.Packages.{IsLeftOut, unsafe_, reflect, c, FolderPath, handwritten, top, top_of_none, inner}
use Rattle.argot_names_imports.specs.Candidates.{left_out, behind_of, names_top, own_of, further_of, behind_slash, inner_of, candidate_of}
use Rattle.argot_names_imports.proofs.FirstFiles.{same_text, text_same}

some_is : {A : Type 0} (x y : A) → Some x ≡ Some y → x ≡ y
some_is x y e = cc

-- paths of the library are ASCII
pub stub_utf8 : (path text : List ℕ) → HasStub path text → IsUtf8 path
stub_utf8 path text (errors e _) = subst IsUtf8 (sym e) (IsUtf8-from_ascii (codes "errors") (search rules))
stub_utf8 path text (fmt e _) = subst IsUtf8 (sym e) (IsUtf8-from_ascii (codes "fmt") (search rules))
stub_utf8 path text (os e _) = subst IsUtf8 (sym e) (IsUtf8-from_ascii (codes "os") (search rules))
stub_utf8 path text (exec e _) = subst IsUtf8 (sym e) (IsUtf8-from_ascii (codes "os/exec") (search rules))
stub_utf8 path text (strings e _) = subst IsUtf8 (sym e) (IsUtf8-from_ascii (codes "strings") (search rules))
stub_utf8 path text (log e _) = subst IsUtf8 (sym e) (IsUtf8-from_ascii (codes "log") (search rules))
stub_utf8 path text (strconv e _) = subst IsUtf8 (sym e) (IsUtf8-from_ascii (codes "strconv") (search rules))
stub_utf8 path text (sync e _) = subst IsUtf8 (sym e) (IsUtf8-from_ascii (codes "sync") (search rules))

-- paths that are left out
pub is_left_out : (path : List ℕ) → left_out path ≡ true → IsLeftOut path
unfolding left_out
is_left_out path =
    cond_both (pointwise nat_eq path (codes "unsafe")) true _ (λ b. b ≡ true → IsLeftOut path)
    (λ is e. subst IsLeftOut (sym (same_text path (codes "unsafe") is)) unsafe_)
    (λ _. cond_both (pointwise nat_eq path (codes "reflect")) true _ (λ b. b ≡ true → IsLeftOut path)
    (λ is e. subst IsLeftOut (sym (same_text path (codes "reflect") is)) reflect)
    (λ _ is. subst IsLeftOut (sym (same_text path (codes "C") is)) c))

pub left_out_is : (path : List ℕ) → IsLeftOut path → left_out path ≡ true
unfolding left_out
left_out_is _ unsafe_ = refl
left_out_is _ reflect = refl
left_out_is _ c = refl

-- what follows a front
pub behind_is : (front text rest : List ℕ) → behind_of front text ≡ Some rest → text ≡ front ++ rest
unfolding behind_of
behind_is front text rest =
    cond_both (pointwise nat_eq (take (length front) text) front) (Some (drop (length front) text)) None (λ o. o ≡ Some rest → text ≡ front ++ rest)
    (λ is e. sym (take-append-drop (length front) text) ∙ ap (λ x. x ++ drop (length front) text) (same_text (take (length front) text) front is) ∙ ap (λ x. front ++ x) (some_is _ _ e))
    (λ _ e. absurd (cc))

pub is_behind : (front rest : List ℕ) → behind_of front (front ++ rest) ≡ Some rest
unfolding behind_of
is_behind front rest =
    rw (take-append_seam front rest, drop-append_seam front rest, text_same front) refl

pub behind_none : (front text : List ℕ) → behind_of front text ≡ None → (rest : List ℕ) → text ≡ front ++ rest → ⊥
behind_none front text none rest e = absurd (cc (none, ap (behind_of front) e, is_behind front rest))

-- which folder a path names, by its parts
pub record IsCandidate (module_ path folder : List ℕ) : Type 0 where
  pub own : (rest : List ℕ) → folder ≢ codes "stubs/" ++ rest
  pub path_is : FolderPath module_ folder path

further_is : (module_ path folder : List ℕ) (o : Option (List ℕ)) → behind_slash (behind_of module_ path) ≡ o → further_of o ≡ Some folder → IsCandidate module_ path folder
further_is module_ path folder None e f = absurd (cc)
further_is module_ path folder (Some []) e f = absurd (cc)
further_is module_ path folder (Some (b ∷ bs)) e f = own_is (behind_of (codes "stubs/") (b ∷ bs)) refl f
  where
    slash_is : (o : Option (List ℕ)) → behind_of module_ path ≡ o → behind_slash o ≡ Some (b ∷ bs) → path ≡ module_ ++ 47 ∷ b ∷ bs
    slash_is None g h = absurd (cc)
    slash_is (Some rest) g h = behind_is module_ path rest g ∙ ap (λ x. module_ ++ x) (behind_is (codes "/") rest (b ∷ bs) h)

    own_is : (o : Option (List ℕ)) → behind_of (codes "stubs/") (b ∷ bs) ≡ o → own_of (b ∷ bs) o ≡ Some folder → IsCandidate module_ path folder
    own_is (Some rest) g h = absurd (cc)
    own_is None g h =
        subst (IsCandidate module_ path) (some_is _ _ h)
        (record {
          own = behind_none (codes "stubs/") (b ∷ bs) g;
          path_is = subst (FolderPath module_ (b ∷ bs)) (sym (slash_is (behind_of module_ path) refl e)) (inner (λ x. absurd (cc)) (behind_none (codes "stubs/") (b ∷ bs) g));
        })

top_is : (module_ path : List ℕ) → names_top module_ path ≡ true → IsCandidate module_ path []
unfolding names_top
top_is [] path is = record { own = λ rest e. absurd (cc); path_is = subst (FolderPath [] []) (sym (same_text path (codes "main") is)) (top_of_none refl) }
top_is (b ∷ bs) path is = record { own = λ rest e. absurd (cc); path_is = subst (FolderPath (b ∷ bs) []) (sym (same_text path (b ∷ bs) is)) (top (λ e. absurd (cc))) }

pub candidate_is : (module_ path folder : List ℕ) → candidate_of module_ path ≡ Some folder → IsCandidate module_ path folder
candidate_is module_ path folder =
    cond_both (names_top module_ path) (Some []) (inner_of module_ path) (λ o. o ≡ Some folder → IsCandidate module_ path folder)
    (λ is e. subst (IsCandidate module_ path) (some_is _ _ e) (top_is module_ path is))
    (λ _ e. further_is module_ path folder (behind_slash (behind_of module_ path)) refl e)

-- and no other
not_top : (module_ folder : List ℕ) → folder ≢ [] → names_top module_ (module_ ++ 47 ∷ folder) ≡ false
unfolding names_top
not_top [] folder some = refl
not_top (b ∷ bs) folder some = none_true (pointwise nat_eq (b ∷ (bs ++ 47 ∷ folder)) (b ∷ bs)) (λ e. absurd (longer (same_text (b ∷ (bs ++ 47 ∷ folder)) (b ∷ bs) e)))
  where
    none_true : (x : Bool) → (x ≡ true → ⊥) → x ≡ false
    none_true true h = absurd (h refl)
    none_true false h = refl

    longer : b ∷ (bs ++ 47 ∷ folder) ≡ b ∷ bs → ⊥
    longer e = omega (arith, ap length e, length-append bs (47 ∷ folder))

own_further : (folder : List ℕ) → folder ≢ [] → ((rest : List ℕ) → folder ≢ codes "stubs/" ++ rest) → further_of (Some folder) ≡ Some folder
own_further [] some own = absurd (some refl)
own_further (b ∷ bs) some own = go (behind_of (codes "stubs/") (b ∷ bs)) refl
  where
    go : (o : Option (List ℕ)) → behind_of (codes "stubs/") (b ∷ bs) ≡ o → own_of (b ∷ bs) o ≡ Some (b ∷ bs)
    go None e = refl
    go (Some rest) e = absurd (own rest (behind_is (codes "stubs/") (b ∷ bs) rest e))

found_inner : (module_ folder : List ℕ) → folder ≢ [] → ((rest : List ℕ) → folder ≢ codes "stubs/" ++ rest) → candidate_of module_ (module_ ++ 47 ∷ folder) ≡ Some folder
found_inner module_ folder some own =
    rw (not_top module_ folder some, is_behind module_ (47 ∷ folder), is_behind (codes "/") folder) (own_further folder some own)

found_top : (module_ : List ℕ) → module_ ≢ [] → candidate_of module_ module_ ≡ Some []
unfolding names_top
found_top [] some = absurd (some refl)
found_top (b ∷ bs) some = rw (text_same (b ∷ bs)) refl

found_main : candidate_of [] (codes "main") ≡ Some []
unfolding names_top
found_main = refl

by_path : (module_ folder path : List ℕ) → FolderPath module_ folder path → ((rest : List ℕ) → folder ≢ codes "stubs/" ++ rest) → candidate_of module_ path ≡ Some folder
by_path module_ _ _ (handwritten path) own = absurd (own path refl)
by_path module_ _ _ (top some) own = found_top module_ some
by_path module_ _ _ (top_of_none none) own = subst (λ m. candidate_of m (codes "main") ≡ Some []) (sym none) found_main
by_path module_ _ _ (inner {folder = folder} some far) own = found_inner module_ folder some own

pub candidate_found : (module_ path folder : List ℕ) → IsCandidate module_ path folder → candidate_of module_ path ≡ Some folder
candidate_found module_ path folder h = by_path module_ folder path h.path_is h.own
