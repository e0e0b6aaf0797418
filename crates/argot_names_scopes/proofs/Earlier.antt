-- What the table of first names says of earlier names.
use Rattle.std.proofs.Common.{◌≡◌, ℕ, ◌<◌, ◌≤◌, List, length, Option, Some, None, sym, ◌∙◌, subst, arith, refl}
use Rattle.std.specs.Prelude.{slice_get}
use Rattle.std.proofs.lemmas.Option.{slice_get_within}
use Rattle.argot_tree.specs.declared.token.Token.{Token}
use Rattle.argot_names_blocks.specs.declared.binding.Binding.{Binding}
use Rattle.argot_files.proofs.Listed.{some_is}
use Rattle.argot_names_scopes.specs.Texts.{text_in}
use Rattle.argot_names_scopes.specs.Tables.{IsNamed, IsFirstNamed}
use Rattle.argot_names_scopes.specs.Earliest.{IsEarlierAt, IsEarliest, IsFirstItem}

module _ (bytes : List ℕ) (tokens : List Token) (brought : List Binding) (opens : ℕ) where
  pub item_is : (text : List ℕ) (r : Option ℕ) (k : ℕ) (b : Binding) → IsFirstNamed bytes tokens brought opens text (length brought) r → r ≡ Some k → slice_get brought k ≡ Some b → IsFirstItem bytes tokens brought opens text (Some b)
  item_is text r k b h e f =
      record {
        there = λ c g.
            let w = h.there k e in
            (k, w.1, subst (IsNamed bytes tokens brought opens text k) (some_is w.0 c (sym w.2.there ∙ f ∙ g)) w.2);
        first = λ c other j g n. subst (λ (x : Binding). x.token ≤ other.token) (some_is b c g) (h.first k j b other e f (slice_get_within brought j other n.there) n);
        least = λ c other j g n at.
            let that : b ≡ c = some_is b c g in
            (k, subst (λ x. slice_get brought k ≡ Some x) that f, h.least k j b other e f (slice_get_within brought j other n.there) n (subst (λ (x : Binding). x.token ≡ other.token) (sym that) at));
        none = λ other j g n. absurd (cc);
      }

  pub no_item : (text : List ℕ) (r : Option ℕ) → IsFirstNamed bytes tokens brought opens text (length brought) r → r ≡ None → IsFirstItem bytes tokens brought opens text None
  no_item text r h e =
      record {
        there = λ c g. absurd (cc);
        first = λ c other j g n. absurd (cc);
        least = λ c other j g n at. absurd (cc);
        none = λ other j g n. h.none j other e (slice_get_within brought j other n.there) n;
      }

  named : (token : ℕ) (text : List ℕ) → text ≡ text_in bytes tokens token → (k : ℕ) (b : Binding) → IsEarlierAt bytes tokens brought token opens k b → IsNamed bytes tokens brought opens text k b
  named token text is k b a = record { there = a.there; block = a.is.block; spells = a.is.same ∙ sym is }

  -- the first name stands before the token
  pub first_before : (token : ℕ) (text : List ℕ) (b : Binding) → text ≡ text_in bytes tokens token → IsFirstItem bytes tokens brought opens text (Some b) → b.token < token → IsEarliest bytes tokens brought token opens (length brought) (Some b)
  first_before token text b is h low =
      record {
        there = λ c e.
            let w = h.there c e in
            let lower : c.token < token = subst (λ (x : Binding). x.token < token) (some_is b c e) low in
            (w.0, w.1, record { there = w.2.there; is = record { block = w.2.block; earlier = lower; same = w.2.spells ∙ is } });
        first = λ c other k e l a. h.first c other k e (named token text is k other a);
        least = λ c other k e l a at. h.least c other k e (named token text is k other a) at;
        none = λ other k e l a. absurd (cc);
      }

  -- it doesn't
  pub first_behind : (token : ℕ) (text : List ℕ) (b : Binding) → text ≡ text_in bytes tokens token → IsFirstItem bytes tokens brought opens text (Some b) → token ≤ b.token → IsEarliest bytes tokens brought token opens (length brought) None
  first_behind token text b is h high =
      record {
        there = λ c e. absurd (cc);
        first = λ c other k e l a. absurd (cc);
        least = λ c other k e l a at. absurd (cc);
        none = λ other k e l a. absurd (omega (arith, h.first b other k refl (named token text is k other a), a.is.earlier));
      }

  -- there is none
  pub no_first : (token : ℕ) (text : List ℕ) → text ≡ text_in bytes tokens token → IsFirstItem bytes tokens brought opens text None → IsEarliest bytes tokens brought token opens (length brought) None
  no_first token text is h =
      record {
        there = λ c e. absurd (cc);
        first = λ c other k e l a. absurd (cc);
        least = λ c other k e l a at. absurd (cc);
        none = λ other k e l a. h.none other k refl (named token text is k other a);
      }
