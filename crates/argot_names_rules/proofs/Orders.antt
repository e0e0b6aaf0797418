-- At most one fault is answered.
use Rattle.std.proofs.Common.{◌≡◌, ℕ, zero, suc, ◌<◌, refl, sym, ap, ◌∙◌, subst, arith}
use Rattle.argot_names_rules.specs.Files.{Place, by_file, by_offset, IsFirst, position_of}
use Rattle.argot_names_rules.specs.Faults.{Wrong, SecondName, Missing, Cycle, Again, Unknown, places, order, fault_of, no_main, named, memory}
use Rattle.argot_names_rules.specs.Laws.{OneFault, NoFault}

same_number : (a b : ℕ) → (a < b → ⊥) → (b < a → ⊥) → a ≡ b
same_number a b f g = grind (arith, f, g)

same_place : (p q : Place) → p.file ≡ q.file → p.offset ≡ q.offset → p ≡ q
same_place p q e f = λ i. record { file = e i; offset = f i }

-- the first place is one
first_place : (P : Place → Type 0) (p q : Place) → IsFirst P p → IsFirst P q → p ≡ q
first_place P p q a b =
    let file : p.file ≡ q.file = same_number p.file q.file (λ l. b.first p a.holds (by_file l)) (λ l. a.first q b.holds (by_file l)) in
    let offset : p.offset ≡ q.offset = same_number p.offset q.offset (λ l. b.first p a.holds (by_offset file l)) (λ l. a.first q b.holds (by_offset (sym file) l)) in
    same_place p q file offset

wrong_at : ℕ → Wrong
wrong_at zero = SecondName
wrong_at (suc zero) = Missing
wrong_at (suc (suc zero)) = Cycle
wrong_at (suc (suc (suc zero))) = Again
wrong_at (suc (suc (suc (suc n)))) = Unknown

back : (w : Wrong) → wrong_at (order w) ≡ w
unfolding wrong_at
back SecondName = refl
back Missing = refl
back Cycle = refl
back Again = refl
back Unknown = refl

same_order : (v w : Wrong) → order v ≡ order w → v ≡ w
same_order v w e = sym (back v) ∙ (ap wrong_at e ∙ back w)

pub one_fault : OneFault
one_fault h main a b (no_main p) (no_main q) na nb = refl
one_fault h main a b (no_main p) (named w place has earlier first) na nb = absurd (p has)
one_fault h main a b (no_main p) memory na nb = absurd (nb refl)
one_fault h main a b (named w place has earlier first) (no_main q) na nb = absurd (q has)
one_fault h main a b (named v p has earlier first) (named w q has' earlier' first') na nb =
    let wrong : v ≡ w = same_order v w (same_number (order v) (order w) (λ l. earlier' v l p first.holds) (λ l. earlier w l q first'.holds)) in
    let moved : IsFirst (places h main w) p = subst (λ u. IsFirst (places h main u) p) wrong first in
    let place : p ≡ q = first_place (places h main w) p q moved first' in
    ap (λ u. fault_of u (position_of h p)) wrong ∙ ap (λ u. fault_of w (position_of h u)) place
one_fault h main a b (named v p has earlier first) memory na nb = absurd (nb refl)
one_fault h main a b memory r na nb = absurd (na refl)

pub no_fault : NoFault
no_fault h main a is (no_main p) = absurd (p is.has_main)
no_fault h main a is (named w p has earlier first) = absurd (is.right w p first.holds)
no_fault h main a is memory = refl
