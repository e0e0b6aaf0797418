-- A table by block and text after one more entry.
use Rattle.std.proofs.Common.{◌≡◌, ℕ, List, Bool, true, false, cond, Option, Some, refl, sym, subst}
use Rattle.std.specs.Prelude.{nat_eq, ◌&&◌}
use Rattle.std.specs.Cmp.Lexicographic.{pointwise}
use Rattle.std.specs.HashMap.{get_by}
use Rattle.std.specs.Borrow.{Bor}
use Rattle.std.proofs.lemmas.Slice.Eq.{bytes_eq-Decides}
use Rattle.std.proofs.lemmas.Bool.Decides.{Decides-eqb}
use Rattle.argot_names_scopes.specs.Tables.{Numbers, number_at}

-- a key is that of the block and the text
abbrev pub is_key : ℕ → List ℕ → ℕ → List ℕ → Bool
is_key opens text o t = nat_eq opens o && pointwise nat_eq text t

both_true : (a b : Bool) → (a && b) ≡ true → (a ≡ true) × (b ≡ true)
both_true true true e = (refl, refl)
both_true true false e = absurd (cc)
both_true false b e = absurd (cc)

pub key_is : (opens : ℕ) (text : List ℕ) (o : ℕ) (t : List ℕ) → is_key opens text o t ≡ true → (opens ≡ o) × (text ≡ t)
key_is opens text o t e =
    let two = both_true (nat_eq opens o) (pointwise nat_eq text t) e in
    ((Decides-eqb opens o).0 two.0, (bytes_eq-Decides text t).0 two.1)

is_that : (opens : ℕ) (text : List ℕ) → is_key opens text opens text ≡ true
is_that opens text = rw ((Decides-eqb opens opens).1 refl) (rw ((bytes_eq-Decides text text).1 refl) refl)

pub that_key : (opens : ℕ) (text : List ℕ) (o : ℕ) (t : List ℕ) → opens ≡ o → text ≡ t → is_key opens text o t ≡ true
that_key opens text o t e f = subst (λ x. is_key opens text x t ≡ true) e (subst (λ x. is_key opens text opens x ≡ true) f (is_that opens text))

-- a look-up after the entry k is put at a key
pub after_put : (P : ℕ → List ℕ → Option ℕ → Type 0) (m n : Numbers) (opens : ℕ) (text : Bor (List ℕ)) (k : ℕ)
    → ((q : ℕ × Bor (List ℕ)) → get_by (λ x. nat_eq q.0 x.0 && pointwise nat_eq q.1.now x.1.now) n ≡ cond (nat_eq opens q.0 && pointwise nat_eq text.now q.1.now) (Some k) (get_by (λ x. nat_eq q.0 x.0 && pointwise nat_eq q.1.now x.1.now) m))
    → P opens text.now (Some k) → ((o : ℕ) (t : List ℕ) → (opens ≡ o → text.now ≡ t → ⊥) → P o t (number_at m o t)) → (o : ℕ) (t : List ℕ) → P o t (number_at n o t)
after_put P m n opens text k updates new old o t =
    subst (P o t) (sym (updates (o, record { ref_ptr = (0, 0); now = t }))) (by (is_key opens text.now o t) refl)
  where
    by : (x : Bool) → is_key opens text.now o t ≡ x → P o t (cond x (Some k) (number_at m o t))
    by true e =
        let same = key_is opens text.now o t e in
        subst (λ z. P z t (Some k)) same.0 (subst (λ z. P opens z (Some k)) same.1 new)
    by false e =
        old o t (λ f g.
        let yes = that_key opens text.now o t f g in
        absurd (cc (e, yes)))
