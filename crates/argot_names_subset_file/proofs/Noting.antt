-- Parts that are added to the spots.
use Rattle.std.proofs.Common.{◌≡◌, ℕ, ◌<◌, ◌≤◌, ◌⊎◌, inl, inr, List, Option, Some, None, length, refl, sym, ap, ◌∙◌, subst, arith}
use Rattle.std.specs.Prelude.{slice_get, option_map}
use Rattle.argot_tree.specs.declared.token.Token.{Token}
use Rattle.argot_names_rules.specs.Files.{Place}
use Rattle.argot_names_rules.specs.Nodes.{Spans}
use Rattle.argot_names_rules.specs.declared.flag.Feature.{Feature}
use Rattle.argot_names_imports.proofs.Siting.{site_there}
use Rattle.argot_names_imports.proofs.Lists.{get_below}
use Rattle.argot_names_subset_file.specs.declared.parts.Part.{Part}
use Rattle.argot_names_subset_file.specs.declared.spots.Spot.{Spot}
use Rattle.argot_names_subset_file.specs.declared.view.View.{View}
use Rattle.argot_answers.specs.Answers.{Exactly}
use Rattle.argot_names_subset_file.specs.Spots.{Adds}
use Rattle.argot_names_subset_file.specs.Atoms.{IsAtom, name, member, form}
use Rattle.argot_names_subset_file.specs.Parts.{BeginsIn, IsDot, IsPlain, type_parameters, goto_, IsNumber, IsNamed, IsMethod, IsBodiless}
use Rattle.argot_names_subset_file.specs.Files.{IsBodilessIn, IsPart, dot, plain, number, named, method, bodiless, IsAt, IsAtSome}
use Rattle.argot_names_subset_file.proofs.Adding.{Claim, UpTo, adds_as, adds_none, adds_both, adds_all}
use Rattle.argot_names_subset_file.proofs.PartLemmas.{some_is}

module _ (tokens : List Token) (file : ℕ) where
  -- a part that isn't there adds nothing, and one whose token isn't there neither
  pub part_none : (part : Option Part) (old new : List Spot) → part ≡ None → new ≡ old → Adds (IsAt tokens file (λ x. part ≡ Some x)) old new
  part_none part old new e same = adds_none (IsAt tokens file (λ x. part ≡ Some x)) old new same (λ f p h. let there = h.holds in absurd (cc))

  pub part_lost : (part : Option Part) (x : Part) (old new : List Spot) → part ≡ Some x → slice_get tokens x.token ≡ None → new ≡ old → Adds (IsAt tokens file (λ x. part ≡ Some x)) old new
  part_lost part x old new e lost same =
      adds_none (IsAt tokens file (λ y. part ≡ Some y)) old new same (λ f p h.
      let is : x ≡ record { feature = f; token = h.token } = some_is x (record { feature = f; token = h.token }) (sym e ∙ h.holds) in
      let there = h.begins.there in
      let gone : slice_get tokens h.token ≡ None = sym (λ i. slice_get tokens (is i).token) ∙ lost in
      absurd (cc))

  pub part_some : (part : Option Part) (x : Part) (t : Token) (old new : List Spot) → part ≡ Some x → slice_get tokens x.token ≡ Some t
      → Adds (λ f p. (f ≡ x.feature) × (p ≡ record { file = file; offset = t.start })) old new → Adds (IsAt tokens file (λ x. part ≡ Some x)) old new
  part_some part x t old new e there a =
      adds_as (λ f p. (f ≡ x.feature) × (p ≡ record { file = file; offset = t.start })) (IsAt tokens file (λ y. part ≡ Some y)) old new
      (λ f p h. record {
        token = x.token;
        holds = e ∙ (λ i. Some (record { feature = sym h.0 i; token = x.token }));
        begins = record { is = t; there = there; in_file = ap (λ q. q.file) h.1; at = ap (λ q. q.offset) h.1 };
      })
      (λ f p h.
      let is : x ≡ record { feature = f; token = h.token } = some_is x (record { feature = f; token = h.token }) (sym e ∙ h.holds) in
      let same : h.begins.is ≡ t = some_is h.begins.is t (sym h.begins.there ∙ (sym (λ i. slice_get tokens (is i).token) ∙ there)) in
      let at : p.offset ≡ t.start = h.begins.at ∙ ap (λ u. u.start) same in
      (sym (λ i. (is i).feature), place_is p.file file p.offset t.start h.begins.in_file at))
      a
    where
      place_is : (a b c d : ℕ) → a ≡ b → c ≡ d → ◌≡◌ {A = Place} (record { file = a; offset = c }) (record { file = b; offset = d })
      place_is a b c d p q = λ i. record { file = p i; offset = q i }

  -- what is added is what the answer is exactly given for
  pub exactly : (Holds : Part → Type 0) (part : Option Part) (old new : List Spot) → Exactly Holds part → Adds (IsAt tokens file (λ x. part ≡ Some x)) old new → Adds (IsAt tokens file Holds) old new
  exactly Holds part old new is a =
      adds_as (IsAt tokens file (λ x. part ≡ Some x)) (IsAt tokens file Holds) old new
      (λ f p h. record { token = h.token; holds = is.sound (record { feature = f; token = h.token }) h.holds; begins = h.begins })
      (λ f p h. record { token = h.token; holds = is.complete (record { feature = f; token = h.token }) h.holds; begins = h.begins })
      a

  pub at_as : (P Q : Part → Type 0) (f : Feature) (p : Place) → ((x : Part) → P x → Q x) → IsAt tokens file P f p → IsAt tokens file Q f p
  at_as P Q f p to h = record { token = h.token; holds = to (record { feature = f; token = h.token }) h.holds; begins = h.begins }

-- the six at one node
module _ (view : View) (k : ℕ) where
  abbrev At : (Part → Type 0) → Claim
  At = IsAt view.file.now.tokens view.number

  pub six : (a b c d e f g : List Spot) → Adds (At (IsDot view.file.now.nodes k)) a b → Adds (At (IsPlain view.file.now.nodes k)) b c → Adds (At (IsNumber view.file.now.tokens view.file.now.nodes k)) c d
      → Adds (At (IsNamed view.file.now.nodes view.named.now k)) d e → Adds (At (IsMethod view.file.now.nodes view.typed.now k)) e f → Adds (At (IsBodilessIn view k)) f g → Adds (At (IsPart view k)) a g
  six a b c d e f g one two three four five six_ =
      adds_as _ (At (IsPart view k)) a g
      (λ x p h. elim h [
        | inl h ↦ elim h [
          | inl h ↦ elim h [
            | inl h ↦ elim h [
              | inl h ↦ elim h [
                | inl h ↦ at_as view.file.now.tokens view.number (IsDot view.file.now.nodes k) (IsPart view k) x p (λ y z. dot z) h
                | inr h ↦ at_as view.file.now.tokens view.number (IsPlain view.file.now.nodes k) (IsPart view k) x p (λ y z. plain z) h
              ]
              | inr h ↦ at_as view.file.now.tokens view.number (IsNumber view.file.now.tokens view.file.now.nodes k) (IsPart view k) x p (λ y z. number z) h
            ]
            | inr h ↦ at_as view.file.now.tokens view.number (IsNamed view.file.now.nodes view.named.now k) (IsPart view k) x p (λ y z. named z) h
          ]
          | inr h ↦ at_as view.file.now.tokens view.number (IsMethod view.file.now.nodes view.typed.now k) (IsPart view k) x p (λ y z. method z) h
        ]
        | inr h ↦ at_as view.file.now.tokens view.number (IsBodilessIn view k) (IsPart view k) x p (λ y z. bodiless z) h
      ])
      (λ x p h. split x p h.token h.begins (record { feature = x; token = h.token }) refl h.holds)
      (adds_both _ _ a f g (adds_both _ _ a e f (adds_both _ _ a d e (adds_both _ _ a c d (adds_both _ _ a b c one two) three) four) five) six_)
    where
      split : (x : Feature) (p : Place) (token : ℕ) → BeginsIn view.file.now.tokens view.number token p → (y : Part) → y ≡ record { feature = x; token = token } → IsPart view k y
          → ((((At (IsDot view.file.now.nodes k) x p ⊎ At (IsPlain view.file.now.nodes k) x p) ⊎ At (IsNumber view.file.now.tokens view.file.now.nodes k) x p) ⊎ At (IsNamed view.file.now.nodes view.named.now k) x p) ⊎ At (IsMethod view.file.now.nodes view.typed.now k) x p) ⊎ At (IsBodilessIn view k) x p
      split x p token begins y e (dot h) = inl (inl (inl (inl (inl (record { token = token; holds = subst (IsDot view.file.now.nodes k) e h; begins = begins })))))
      split x p token begins y e (plain h) = inl (inl (inl (inl (inr (record { token = token; holds = subst (IsPlain view.file.now.nodes k) e h; begins = begins })))))
      split x p token begins y e (number h) = inl (inl (inl (inr (record { token = token; holds = subst (IsNumber view.file.now.tokens view.file.now.nodes k) e h; begins = begins }))))
      split x p token begins y e (named h) = inl (inl (inr (record { token = token; holds = subst (IsNamed view.file.now.nodes view.named.now k) e h; begins = begins })))
      split x p token begins y e (method h) = inl (inr (record { token = token; holds = subst (IsMethod view.file.now.nodes view.typed.now k) e h; begins = begins }))
      split x p token begins y e (bodiless h) = inr (record { token = token; holds = subst (IsBodilessIn view k) e h; begins = begins })

  below_spans : {kind : _} {token last : ℕ} → Spans view.file.now.nodes k kind token last → k < length view.file.now.nodes
  below_spans s = get_below view.file.now.nodes k _ s.there

  pub part_below : (x : Part) → IsPart view k x → k < length view.file.now.nodes
  part_below x (dot h) = let s = site_there view.file.now.nodes k _ _ _ h.is in get_below view.file.now.nodes k s.0 s.1
  part_below _ (plain (type_parameters s)) = below_spans s
  part_below _ (plain (goto_ s)) = below_spans s
  part_below x (number h) = below_spans h.literal.spans
  part_below x (named h) = below_spans h.is.spans
  part_below x (method h) = go h.atom h.is_atom
    where
      go : (a : ℕ) → IsAtom view.file.now.nodes view.typed.now k a → k < length view.file.now.nodes
      go _ (name is _) = below_spans is.spans
      go _ (member _ _ is _) = below_spans is.spans
      go _ (form is) = below_spans is.spans
  part_below x (bodiless h) = below_spans h.is.name.spans

pub nodes_all : (view : View) (k : ℕ) (old new : List Spot) → length view.file.now.nodes ≤ k → Adds (UpTo (λ j. IsAt view.file.now.tokens view.number (IsPart view j)) k) old new → Adds (IsAtSome view) old new
nodes_all view k old new long a =
    adds_as (λ f p. (j : ℕ) × IsAt view.file.now.tokens view.number (IsPart view j) f p) (IsAtSome view) old new
    (λ f p h. record { node = h.0; is = h.1 }) (λ f p h. (h.node, h.is))
    (adds_all (λ j. IsAt view.file.now.tokens view.number (IsPart view j)) k old new (λ j f p h. omega (arith, long, part_below view j (record { feature = f; token = h.token }) h.holds)) a)

pub bodiless_known : (view : View) (k : ℕ) (path : List ℕ) (o : Option Part) → option_map (λ r. r.now) view.path ≡ Some path → Exactly (IsBodiless view.file.now view.entries.now path k) o → Exactly (IsBodilessIn view k) o
bodiless_known view k path o here is =
    record {
      sound = λ x e. record { path = path; here = here; is = is.sound x e };
      complete = λ x h. is.complete x (subst (λ p. IsBodiless view.file.now view.entries.now p k x) (some_is h.path path (sym h.here ∙ here)) h.is);
    }
