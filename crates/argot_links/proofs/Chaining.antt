-- Lists that are linked by index: one more cell, and one step along a chain.
use Rattle.std.proofs.Common.{◌≡◌, ℕ, zero, suc, ◌+◌, ◌-◌, ◌<◌, ◌≤◌, List, [], ◌∷◌, ◌++◌, length, map, get_or, set, replicate, refl, sym, ap, ap₂, add-one, ◌∙◌, arith}
use Rattle.std.specs.List.{All, AllByRecursion}
use Rattle.std.proofs.lemmas.List.Elements.{recursion_from_All}
use Rattle.std.proofs.lemmas.List.{map-set, get_or_append_left, get_or_push}
use Rattle.argot_links.specs.declared.chains.Cell.{Cell}
use Rattle.argot_links.specs.Linked.{cell_at, chain, chains, IsDown}

-- two bounds that are both enough give the same items
enough : (cells : List Cell) → IsDown cells → (k m link : ℕ) → link ≤ length cells → link ≤ k → link ≤ m → chain k cells link ≡ chain m cells link
enough cells d zero zero link l p q = refl
enough cells d zero (suc m) zero l p q = refl
enough cells d zero (suc m) (suc j) l p q = absurd (omega arith)
enough cells d (suc k) zero zero l p q = refl
enough cells d (suc k) zero (suc j) l p q = absurd (omega arith)
enough cells d (suc k) (suc m) zero l p q = refl
enough cells d (suc k) (suc m) (suc j) l p q =
    let down = d j (omega arith) in
    ap (λ xs. (cell_at cells j).item ∷ xs) (enough cells d k m (cell_at cells j).next (omega arith) (omega arith) (omega arith))

pub chain_step : (cells : List Cell) → IsDown cells → (link : ℕ) → 0 < link → link ≤ length cells → chain link cells link ≡ (cell_at cells (link - 1)).item ∷ chain (cell_at cells (link - 1)).next cells (cell_at cells (link - 1)).next
chain_step cells d zero p l = absurd (omega arith)
chain_step cells d (suc j) p l =
    let same : suc j - 1 ≡ j = omega arith in
    let down = d j (omega arith) in
    rw same (ap (λ xs. (cell_at cells j).item ∷ xs) (enough cells d j (cell_at cells j).next (cell_at cells j).next (omega arith) down (omega arith)))

pub chain_shorter : (cells : List Cell) → IsDown cells → (link : ℕ) → 0 < link → link ≤ length cells → length (chain (cell_at cells (link - 1)).next cells (cell_at cells (link - 1)).next) < length (chain link cells link)
chain_shorter cells d link p l = rw (chain_step cells d link p l) (omega arith)

-- a further cell changes no chain that began before it
chain_more : (cells : List Cell) (x : Cell) → IsDown cells → (k link : ℕ) → link ≤ length cells → chain k (cells ++ x ∷ []) link ≡ chain k cells link
chain_more cells x d zero link l = refl
chain_more cells x d (suc k) zero l = refl
chain_more cells x d (suc k) (suc j) l =
    let same : cell_at (cells ++ x ∷ []) j ≡ cell_at cells j = get_or_append_left cells (x ∷ []) _ j (omega arith) in
    let down = d j (omega arith) in
    rw same (ap (λ xs. (cell_at cells j).item ∷ xs) (chain_more cells x d k (cell_at cells j).next (omega arith)))

chains_more : (cells : List Cell) (x : Cell) → IsDown cells → (heads : List ℕ) → AllByRecursion (λ link. link ≤ length cells) heads → chains (cells ++ x ∷ []) heads ≡ chains cells heads
chains_more cells x d [] a = refl
chains_more cells x d (h ∷ hs) a = ap₂ ◌∷◌ (chain_more cells x d h h a.0) (chains_more cells x d hs a.1)

pub chains_empty : (cells : List Cell) (n : ℕ) → chains cells (replicate n 0) ≡ replicate n []
chains_empty cells zero = refl
chains_empty cells (suc n) = ap (λ xs. [] ∷ xs) (chains_empty cells n)

get_or-map : (f : ℕ → List ℕ) (heads : List ℕ) (i d : ℕ) → i < length heads → get_or (map f heads) i [] ≡ f (get_or heads i d)
get_or-map f [] i d l = absurd (omega arith)
get_or-map f (h ∷ hs) zero d l = refl
get_or-map f (h ∷ hs) (suc i) d l = get_or-map f hs i d (omega arith)

same_set : (xs ys : List (List ℕ)) (i : ℕ) (x y : List ℕ) → xs ≡ ys → x ≡ y → set xs i x ≡ set ys i y
same_set xs ys i x y p q = rw (p, q) refl

-- a cell that leads to the first one of a list becomes its first
pub chains_push : (cells : List Cell) (heads : List ℕ) (i : ℕ) (x : Cell) → IsDown cells → All (λ link. link ≤ length cells) heads → i < length heads → x.next ≡ get_or heads i 0
    → chains (cells ++ x ∷ []) (set heads i (length cells + 1)) ≡ set (chains cells heads) i (x.item ∷ get_or (chains cells heads) i [])
chains_push cells heads i x d a l e =
    let more = cells ++ x ∷ [] in
    let n = length cells in
    let below : x.next ≤ n = rw e (a i 0 l) in
    let last : cell_at more n ≡ x = get_or_push cells x _ n refl in
    let rest : chain n more x.next ≡ chain x.next cells x.next = chain_more cells x d n x.next below ∙ enough cells d n x.next x.next below below (omega arith) in
    let new : chain (suc n) more (suc n) ≡ x.item ∷ chain x.next cells x.next = rw last (ap (λ xs. x.item ∷ xs) rest) in
    let old : chain x.next cells x.next ≡ get_or (chains cells heads) i [] = ap (λ h. chain h cells h) e ∙ sym (get_or-map (λ h. chain h cells h) heads i 0 l) in
    map-set (λ h. chain h more h) heads i (n + 1)
    ∙ same_set (chains more heads) (chains cells heads) i (chain (n + 1) more (n + 1)) (x.item ∷ get_or (chains cells heads) i [])
    (chains_more cells x d heads (recursion_from_All _ heads a))
    (rw add-one (new ∙ ap (λ xs. x.item ∷ xs) old))
