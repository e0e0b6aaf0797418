-- The links of new names grow by one item after the other.
use Rattle.std.proofs.Common.{◌≡◌, ℕ, ◌+◌, ◌<◌, List, [], ◌∷◌, ◌++◌, length, Bool, true, false, Option, Some, None, inl, inr, refl, sym, ap, ◌∙◌, subst, arith, length-append}
use Rattle.std.specs.Prelude.{slice_get}
use Rattle.std.proofs.lemmas.Bool.{cases_eq}
use Rattle.std.proofs.lemmas.Option.{slice_get_within}
use Rattle.argot_tree.specs.declared.token.Token.{Token}
use Rattle.argot_names_blocks.specs.declared.binding.Binding.{Binding}
use Rattle.argot_files.proofs.Listed.{some_is}
use Rattle.argot_names_blocks.proofs.Growing.{get_left, get_end}
use Rattle.argot_names_scopes.proofs.Tabling.{is_key, key_is, that_key}
use Rattle.argot_names_scopes.specs.Texts.{text_in}
use Rattle.argot_names_scopes.specs.Tables.{Numbers, number_at, Covers, CoversAt, IsNewNamed, IsLastNew, AreBefores, AreLinksUpTo}

module _ (bytes : List ℕ) (tokens : List Token) (brought : List Binding) (news : List Bool) where
  abbrev New : ℕ → List ℕ → ℕ → Type 0
  New = IsNewNamed bytes tokens brought news

  abbrev Last : ℕ → List ℕ → ℕ → Option ℕ → Type 0
  Last = IsLastNew bytes tokens brought news

  -- item k is no new name of that block with this text
  pub no_newer : (o : ℕ) (t : List ℕ) (k : ℕ) (r : Option ℕ) → Last o t k r → (New o t k → ⊥) → Last o t (k + 1) r
  no_newer o t k r h not =
      record {
        there = λ i e.
            let w = h.there i e in
            (omega (arith, w.0), w.1);
        last = λ i j e l n. elim (cases_eq j k) [ inl same ↦ absurd (not (subst (New o t) same n)) | inr apart ↦ h.last i j e (omega (arith, l, apart)) n ];
        none = λ j e l n. elim (cases_eq j k) [ inl same ↦ absurd (not (subst (New o t) same n)) | inr apart ↦ h.none j e (omega (arith, l, apart)) n ];
      }

  -- item k is of another block or text
  pub other_key : (o : ℕ) (t : List ℕ) (k : ℕ) (b : Binding) → New o t k → slice_get brought k ≡ Some b → (b.opens ≡ o → text_in bytes tokens b.token ≡ t → ⊥) → ⊥
  other_key o t k b n e not =
      let one : n.item ≡ b = some_is n.item b (sym n.named.there ∙ e) in
      not (subst (λ (x : Binding). x.opens ≡ o) one n.named.block) (subst (λ (x : Binding). text_in bytes tokens x.token ≡ t) one n.named.spells)

  -- item k is one
  pub newer : (o : ℕ) (t : List ℕ) (k : ℕ) → New o t k → Last o t (k + 1) (Some k)
  newer o t k n =
      record {
        there = λ i e. (omega (arith, some_is k i e), subst (New o t) (some_is k i e) n);
        last = λ i j e l m. inl (omega (arith, some_is k i e, l));
        none = λ j e l m. absurd (cc);
      }

  -- item k is covered by the last one
  pub covered : (o : ℕ) (t : List ℕ) (k i : ℕ) (r : Option ℕ) → Last o t k r → r ≡ Some i → CoversAt brought i k → Last o t (k + 1) r
  covered o t k i r h is by =
      record {
        there = λ j e.
            let w = h.there j e in
            (omega (arith, w.0), w.1);
        last = λ m j e l n. elim (cases_eq j k) [
          | inl same ↦ inr (subst (λ x. CoversAt brought x j) (some_is i m (sym is ∙ e)) (subst (CoversAt brought i) (sym same) by))
          | inr apart ↦ h.last m j e (omega (arith, l, apart)) n
        ];
        none = λ j e l n. absurd (cc (e, is));
      }

  pub covers_at : (i k : ℕ) (a b : Binding) → slice_get brought i ≡ Some a → slice_get brought k ≡ Some b → Covers a b → CoversAt brought i k
  covers_at i k a b e f by c d g h = subst (λ x. Covers x d) (some_is a c (sym e ∙ g)) (subst (λ x. Covers a x) (some_is b d (sym f ∙ h)) by)

  -- where the last one of its block and text covers item k the table stays
  pub stays : (k i : ℕ) (lasts : Numbers) (b : Binding) → ((o : ℕ) (t : List ℕ) → Last o t k (number_at lasts o t)) → slice_get brought k ≡ Some b → number_at lasts b.opens (text_in bytes tokens b.token) ≡ Some i → CoversAt brought i k → (o : ℕ) (t : List ℕ) → Last o t (k + 1) (number_at lasts o t)
  stays k i lasts b h e is by o t = case (is_key b.opens (text_in bytes tokens b.token) o t) refl
    where
      case : (x : Bool) → is_key b.opens (text_in bytes tokens b.token) o t ≡ x → Last o t (k + 1) (number_at lasts o t)
      case true f =
          let same = key_is b.opens (text_in bytes tokens b.token) o t f in
          subst (λ z. Last z t (k + 1) (number_at lasts z t)) same.0
          (subst (λ z. Last b.opens z (k + 1) (number_at lasts b.opens z)) same.1 (covered b.opens (text_in bytes tokens b.token) k i (number_at lasts b.opens (text_in bytes tokens b.token)) (h b.opens (text_in bytes tokens b.token)) is by))
      case false f =
          no_newer o t k (number_at lasts o t) (h o t)
          (λ n. other_key o t k b n e (λ g m.
          let yes = that_key b.opens (text_in bytes tokens b.token) o t g m in
          absurd (cc (f, yes))))

  pub no_news : (o : ℕ) (t : List ℕ) (r : Option ℕ) → r ≡ None → Last o t 0 r
  no_news o t r is = record { there = λ k e. absurd (cc (e, is)); last = λ k j e l n. absurd (omega (arith, l)); none = λ j e l n. absurd (omega (arith, l)) }

  pub begin_links : (lasts : Numbers) (befores : List (Option ℕ)) → ((o : ℕ) (t : List ℕ) → number_at lasts o t ≡ None) → befores ≡ [] → AreLinksUpTo bytes tokens brought news 0 lasts befores
  begin_links lasts befores none is =
      record {
        are_last = λ o t. no_news o t (number_at lasts o t) (none o t);
        as_long = ap length is;
        are_before = λ k b before e f.
            let empty : length befores ≡ 0 = ap length is in
            absurd (omega (arith, slice_get_within befores k before f, empty));
      }

  -- the links with one more
  pub one_link : (k : ℕ) (lasts : Numbers) (befores : List (Option ℕ)) (b : Binding) (r : Option ℕ) → AreLinksUpTo bytes tokens brought news k lasts befores → slice_get brought k ≡ Some b → r ≡ number_at lasts b.opens (text_in bytes tokens b.token) → AreBefores bytes tokens brought news (befores ++ r ∷ [])
  one_link k lasts befores b r h e is j c before f g = elim (cases_eq j k) [
    | inl same ↦
        let one : b ≡ c = some_is b c (sym e ∙ subst (λ x. slice_get brought x ≡ Some c) same f) in
        let got : r ≡ before = some_is r before (sym (get_last befores r k h.as_long) ∙ subst (λ x. slice_get (befores ++ r ∷ []) x ≡ Some before) same g) in
        subst (λ x. Last c.opens (text_in bytes tokens c.token) x before) (sym same)
        (subst (λ (x : Binding). Last x.opens (text_in bytes tokens x.token) k before) one
        (subst (λ x. Last b.opens (text_in bytes tokens b.token) k x) (sym is ∙ got) (h.are_last b.opens (text_in bytes tokens b.token))))
    | inr apart ↦ h.are_before j c before f (get_front befores r j before g (omega (arith, slice_get_within (befores ++ r ∷ []) j before g, apart, h.as_long, length-append befores (r ∷ []))))
  ]
    where
      get_last : (xs : List (Option ℕ)) (x : Option ℕ) (i : ℕ) → length xs ≡ i → slice_get (xs ++ x ∷ []) i ≡ Some x
      get_last xs x i long = get_end xs x i (sym long)

      get_front : (xs : List (Option ℕ)) (x : Option ℕ) (i : ℕ) (y : Option ℕ) → slice_get (xs ++ x ∷ []) i ≡ Some y → i < length xs → slice_get xs i ≡ Some y
      get_front xs x i y e l = sym (get_left xs (x ∷ []) i l) ∙ e

  -- with item k in both
  pub with_new : (k : ℕ) (lasts more : Numbers) (befores all : List (Option ℕ)) (b : Binding) → AreLinksUpTo bytes tokens brought news k lasts befores → all ≡ befores ++ number_at lasts b.opens (text_in bytes tokens b.token) ∷ [] → slice_get brought k ≡ Some b
      → ((o : ℕ) (t : List ℕ) → Last o t (k + 1) (number_at more o t)) → AreLinksUpTo bytes tokens brought news (k + 1) more all
  with_new k lasts more befores all b h is e last =
      record {
        are_last = last;
        as_long =
            let long = length-append befores (number_at lasts b.opens (text_in bytes tokens b.token) ∷ []) in
            let whole : length all ≡ length (befores ++ number_at lasts b.opens (text_in bytes tokens b.token) ∷ []) = ap length is in
            omega (arith, h.as_long, long, whole);
        are_before = subst (AreBefores bytes tokens brought news) (sym is) (one_link k lasts befores b (number_at lasts b.opens (text_in bytes tokens b.token)) h e refl);
      }
