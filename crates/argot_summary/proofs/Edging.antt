-- Edges by their numbers.
use Rattle.std.proofs.Common.{◌≡◌, ℕ, ◌<◌, List, Some, length, sym, ap, ◌∙◌, subst}
use Rattle.std.specs.Prelude.{slice_get, slice_index_or}
use Rattle.std.proofs.lemmas.Option.{slice_get-get_or, get_or_from_slice_get}
use Rattle.argot_plain.specs.Lists.{In}
use Rattle.argot_facts.proofs.Listed.{in_of_get}
use Rattle.argot_facts.specs.declared.graphs.Edge.{Edge}
use Rattle.argot_facts.specs.declared.graphs.EdgeKind.{EdgeKind}
use Rattle.argot_facts.specs.Reached.{IsEdgeIn}

pub edge_in : (es : List Edge) (k a b : ℕ) (kind : EdgeKind) (e : Edge) → slice_get es k ≡ Some e → e.from ≡ a → e.kind ≡ kind → e.to ≡ b → IsEdgeIn es a kind b
edge_in es k a b kind e at from is to =
    subst (λ x. In (record { from = x; to = b; kind = kind }) es) from
    (subst (λ x. In (record { from = e.from; to = b; kind = x }) es) is
    (subst (λ x. In (record { from = e.from; to = x; kind = e.kind }) es) to (in_of_get es k e at)))

-- the edge that is read at k
pub read_edge : (es : List Edge) (k : ℕ) (d e : Edge) → slice_get es k ≡ Some e → slice_index_or es k d ≡ e
read_edge es k d e at = get_or_from_slice_get es k e d at

pub edge_at : (es : List Edge) (k : ℕ) (d : Edge) → k < length es → slice_get es k ≡ Some (slice_index_or es k d)
edge_at es k d l = slice_get-get_or es k d l

-- what is read at i
pub read_at : {A : Type 0} (xs : List A) (i : ℕ) (x : A) → i < length xs → x ≡ slice_index_or xs i x → slice_get xs i ≡ Some x
read_at xs i x l e = slice_get-get_or xs i x l ∙ ap Some (sym e)

pub same_item : {A : Type 0} (xs : List A) (i j : ℕ) (x y : A) → i ≡ j → slice_get xs i ≡ Some x → slice_get xs j ≡ Some y → x ≡ y
same_item xs i j x y e a b = cc
