-- The pieces of a file, one after another.
use Rattle.std.proofs.Common.{◌≡◌, ℕ, ◌+◌, ◌<◌, ◌≤◌, List, [], ◌∷◌, ◌++◌, length, drop, Option, None, refl, sym, ap, ◌∙◌, subst, arith, append_assoc, length-drop, drop-drop}
use Rattle.std.proofs.lemmas.List.{append-nil}
use Rattle.std.proofs.Math.ListN.{drop_of_length-le}
use Rattle.argot_tree.specs.declared.piece.Piece.{Piece}
use Rattle.argot_tree.specs.declared.token.Token.{Token}
use Rattle.argot_tree.specs.declared.lexed.Lexed.{Lexed}
use Rattle.argot_tree.specs.Pieces.{IsLongest, BeginsNone}
use Rattle.argot_tree.specs.Text.{Cut, IsCut, inserted, given, pending_behind, tokens_of, directed, directives_of, order_mark, SpellsText, IsFirstBad}
use Rattle.argot_lex.proofs.FrontLaws.{longest_once, longest_has_bytes}

-- one more piece
cut_more : (cuts : List Cut) (text rest : List ℕ) (piece : Piece) (n : ℕ) → IsCut cuts text rest → IsLongest piece n rest → IsCut (cuts ++ (piece, n) ∷ []) text (drop n rest)
cut_more [] text rest piece n h longest = (subst (IsLongest piece n) (sym h) longest, ap (drop n) h)
cut_more (cut ∷ cuts) text rest piece n h longest = (h.0, cut_more cuts (drop cut.1 text) rest piece n h.1 longest)

-- who cuts the whole text goes through each place that was come to
record Through (cuts others : List Cut) (rest : List ℕ) : Type 0 where
  behind : List Cut
  joined : others ≡ cuts ++ behind
  cut : IsCut behind rest []

cut_through : (cuts others : List Cut) (text rest : List ℕ) → IsCut cuts text rest → IsCut others text [] → Through cuts others rest
cut_through [] others text rest h k = record { behind = others; joined = refl; cut = subst (λ t. IsCut others t []) h k }
cut_through (cut ∷ cuts) [] text rest h k =
    absurd (omega (arith, longest_has_bytes text cut.0 cut.1 h.0, h.0.front.within, ap length k))
cut_through (cut ∷ cuts) (other ∷ others) text rest h k =
    let once = longest_once text other.0 cut.0 other.1 cut.1 k.0 h.0 in
    let tail = cut_through cuts others (drop cut.1 text) rest h.1 (subst (λ n. IsCut others (drop n text) []) once.1 k.1) in
    record { behind = tail.behind; joined = λ i. (once.0 i, once.1 i) ∷ tail.joined i; cut = tail.cut }

-- one list of pieces cuts a text
cut_once : (cuts others : List Cut) (text : List ℕ) → IsCut cuts text [] → IsCut others text [] → others ≡ cuts
cut_once cuts others text h k = let through = cut_through cuts others text [] h k in go through.behind through.joined through.cut
  where
    go : (behind : List Cut) → others ≡ cuts ++ behind → IsCut behind [] [] → others ≡ cuts
    go [] e n = e ∙ append-nil cuts
    go (cut ∷ behind) e n = absurd (omega (arith, longest_has_bytes [] cut.0 cut.1 n.0, n.0.front.within))

pub spelled_once : (a b : Lexed) (text : List ℕ) → SpellsText a text → SpellsText b text → (a.tokens ≡ b.tokens) × (a.directives ≡ b.directives)
spelled_once a b text p q =
    let same = cut_once q.cuts p.cuts (drop (order_mark text) text) q.is_cut p.is_cut in (
      p.tokens_are ∙ ap (tokens_of (order_mark text) None) same ∙ sym q.tokens_are,
      p.directives_are ∙ ap (directives_of (order_mark text)) same ∙ sym q.directives_are,
    )

-- what has been read, and that whatever follows completes it
pub record LexedTo (text : List ℕ) (tokens : List Token) (directives : List ℕ) (at : ℕ) (pending : Option ℕ) : Type 0 where
  pub within : at ≤ length text
  pub cuts : List Cut
  pub is_cut : IsCut cuts (drop (order_mark text) text) (drop at text)
  pub tokens_so_far : (more : List Cut) → tokens_of (order_mark text) None (cuts ++ more) ≡ tokens ++ tokens_of at pending more
  pub directives_so_far : (more : List Cut) → directives_of (order_mark text) (cuts ++ more) ≡ directives ++ directives_of at more

pub lexed_none : (text : List ℕ) (at : ℕ) → at ≡ order_mark text → at ≤ length text → LexedTo text [] [] at None
lexed_none text at is h =
    subst (λ n. LexedTo text [] [] n None) (sym is)
    (record { within = subst (λ n. n ≤ length text) is h; cuts = []; is_cut = refl; tokens_so_far = λ more. refl; directives_so_far = λ more. refl })

pub lexed_more : {text : List ℕ} {tokens tokens' : List Token} {directives directives' : List ℕ} {at n : ℕ} {pending pending' : Option ℕ} {piece : Piece} → LexedTo text tokens directives at pending → IsLongest piece n (drop at text) → tokens' ≡ tokens ++ given piece at (at + n) pending → directives' ≡ directives ++ directed piece at → pending' ≡ pending_behind piece (at + n) pending → LexedTo text tokens' directives' (at + n) pending'
lexed_more {text} {tokens} {tokens'} {directives} {directives'} {at} {n} {pending} {pending'} {piece} l longest t d p = record {
  within = omega (arith, l.within, longest.front.within, length-drop at text);
  cuts = l.cuts ++ (piece, n) ∷ [];
  is_cut = subst (IsCut (l.cuts ++ (piece, n) ∷ []) (drop (order_mark text) text)) (drop-drop n at text) (cut_more l.cuts (drop (order_mark text) text) (drop at text) piece n l.is_cut longest);
  tokens_so_far = λ more.
      ap (tokens_of (order_mark text) None) (append_assoc l.cuts ((piece, n) ∷ []) more)
      ∙ l.tokens_so_far ((piece, n) ∷ more)
      ∙ sym (append_assoc tokens (given piece at (at + n) pending) (tokens_of (at + n) (pending_behind piece (at + n) pending) more))
      ∙ (λ i. sym t i ++ tokens_of (at + n) (sym p i) more);
  directives_so_far = λ more.
      ap (directives_of (order_mark text)) (append_assoc l.cuts ((piece, n) ∷ []) more)
      ∙ l.directives_so_far ((piece, n) ∷ more)
      ∙ sym (append_assoc directives (directed piece at) (directives_of (at + n) more))
      ∙ ap (λ x. x ++ directives_of (at + n) more) (sym d);
}

pub lexed_all : {text : List ℕ} {tokens tokens' : List Token} {directives : List ℕ} {at : ℕ} {pending : Option ℕ} (lexed : Lexed) → LexedTo text tokens directives at pending → length text ≤ at → tokens' ≡ tokens ++ inserted pending → lexed.tokens ≡ tokens' → lexed.directives ≡ directives → SpellsText lexed text
lexed_all {text} {tokens} {tokens'} {directives} {at} {pending} lexed l end t lt ld = record {
  cuts = l.cuts;
  is_cut = subst (IsCut l.cuts (drop (order_mark text) text)) (drop_of_length-le text end) l.is_cut;
  tokens_are = lt ∙ t ∙ sym (l.tokens_so_far []) ∙ ap (tokens_of (order_mark text) None) (append-nil l.cuts);
  directives_are = ld ∙ sym (append-nil directives) ∙ sym (l.directives_so_far []) ∙ ap (directives_of (order_mark text)) (append-nil l.cuts);
}

pub lexed_bad : {text : List ℕ} {tokens : List Token} {directives : List ℕ} {at : ℕ} {pending : Option ℕ} → LexedTo text tokens directives at pending → at < length text → BeginsNone (drop at text) → IsFirstBad text at × ((lexed : Lexed) → SpellsText lexed text → ⊥)
lexed_bad {text} {tokens} {directives} {at} {pending} l before nothing = (
  record { before = before; none = nothing; cuts = l.cuts; is_cut = l.is_cut },
  λ lexed s. let through = cut_through l.cuts s.cuts (drop (order_mark text) text) (drop at text) l.is_cut s.is_cut in go through.behind through.cut,
)
  where
    go : (behind : List Cut) → IsCut behind (drop at text) [] → ⊥
    go [] e = absurd (omega (arith, length-drop at text, ap length e))
    go (cut ∷ behind) n = nothing cut.0 cut.1 n.0.front
