-- Sums of the nodes of files.
use Rattle.std.proofs.Common.{◌≡◌, ℕ, zero, suc, ◌+◌, ◌<◌, ◌≤◌, ◌^◌, List, [], ◌∷◌, ◌++◌, length, take, Option, Some, inl, inr, refl, sym, ap, ◌∙◌, subst, arith, length-append}
use Rattle.std.specs.Prelude.{slice_get}
use Rattle.argot_tree.specs.declared.tree.Tree.{Tree}
use Rattle.argot_names_rules.specs.Loaded.{count_nodes}
use Rattle.argot_names_imports.proofs.Lists.{get_either, get_below, get_there}
use Rattle.argot_names_uses.specs.Bases.{AreBases, AreBasesUpTo}

-- one file more
pub count_more : (trees : List Tree) (k : ℕ) (t : Tree) → slice_get trees k ≡ Some t → count_nodes (take (k + 1) trees) ≡ count_nodes (take k trees) + length t.nodes
count_more [] k t e = absurd (cc)
count_more (x ∷ trees) zero t e = let same : x ≡ t = cc in subst (λ y. length x.nodes + 0 ≡ 0 + length y.nodes) same (omega arith)
count_more (x ∷ trees) (suc k) t e =
    let at : suc k + 1 ≡ suc (k + 1) = omega arith in
    rw at (omega (arith, count_more trees k t e))

-- the nodes of a file stand before the end
pub count_below : (trees : List Tree) (k : ℕ) (t : Tree) → slice_get trees k ≡ Some t → count_nodes (take k trees) + length t.nodes ≤ count_nodes trees
count_below [] k t e = absurd (cc)
count_below (x ∷ trees) zero t e = let same : x ≡ t = cc in subst (λ y. 0 + length y.nodes ≤ length x.nodes + count_nodes trees) same (omega arith)
count_below (x ∷ trees) (suc k) t e = omega (arith, count_below trees k t e)

-- and those of an earlier file before it
pub count_before : (trees : List Tree) (j k : ℕ) (t : Tree) → j < k → slice_get trees j ≡ Some t → count_nodes (take j trees) + length t.nodes ≤ count_nodes (take k trees)
count_before [] j k t low e = absurd (cc)
count_before (x ∷ trees) j zero t low e = absurd (omega (arith, low))
count_before (x ∷ trees) zero (suc k) t low e = let same : x ≡ t = cc in subst (λ y. 0 + length y.nodes ≤ length x.nodes + count_nodes (take k trees)) same (omega arith)
count_before (x ∷ trees) (suc j) (suc k) t low e = omega (arith, count_before trees j k t (omega (arith, low)) e)

pub take_whole : (trees : List Tree) → take (length trees) trees ≡ trees
take_whole [] = refl
take_whole (x ∷ trees) = ap (λ ts. x ∷ ts) (take_whole trees)

pub bases_begun : (trees : List Tree) (bases : List ℕ) → bases ≡ 0 ∷ [] → AreBasesUpTo trees 0 bases 0
bases_begun trees bases e =
    subst (λ b. AreBasesUpTo trees 0 b 0) (sym e)
    (record { as_many = refl; each = λ file base at. first file base at; sum_is = refl; fits = omega arith })
  where
    first : (file base : ℕ) → slice_get (0 ∷ []) file ≡ Some base → base ≡ count_nodes (take file trees)
    first zero base at = cc
    first (suc file) base at = absurd (cc)

pub bases_more : (trees : List Tree) (count : ℕ) (bases new : List ℕ) (sum more : ℕ) (t : Tree) → AreBasesUpTo trees count bases sum → slice_get trees count ≡ Some t → more ≡ sum + length t.nodes → more < 2 ^ 32 → new ≡ bases ++ more ∷ []
    → AreBasesUpTo trees (count + 1) new more
bases_more trees count bases new sum more t are there is low e =
    subst (λ b. AreBasesUpTo trees (count + 1) b more) (sym e)
    (record {
      as_many = omega (arith, length-append bases (more ∷ []), are.as_many);
      each = λ file base at. elim (get_either bases more file base at) [
        | inl f ↦ are.each file base f
        | inr f ↦ subst (λ k. base ≡ count_nodes (take k trees)) (sym (f.0 ∙ are.as_many)) (f.1 ∙ sum_more)
      ];
      sum_is = sum_more;
      fits = low;
    })
  where
    sum_more : more ≡ count_nodes (take (count + 1) trees)
    sum_more = omega (arith, is, are.sum_is, count_more trees count t there)

pub bases_all : (trees : List Tree) (count : ℕ) (bases : List ℕ) (sum : ℕ) → AreBasesUpTo trees count bases sum → count ≡ length trees → AreBases trees bases
bases_all trees count bases sum are long =
    record {
      as_many = are.as_many ∙ ap (λ k. k + 1) long;
      each = are.each;
      few = subst (λ n. n < 2 ^ 32) (are.sum_is ∙ (ap (λ k. count_nodes (take k trees)) long ∙ ap count_nodes (take_whole trees))) are.fits;
    }

-- a file has a base
pub base_is : (trees : List Tree) (bases : List ℕ) (file : ℕ) (t : Tree) → AreBases trees bases → slice_get trees file ≡ Some t → slice_get bases file ≡ Some (count_nodes (take file trees))
base_is trees bases file t are there =
    let b = get_there bases file (omega (arith, are.as_many, get_below trees file t there)) in
    b.1 ∙ ap (λ n. Some n) (are.each file b.0 b.1)

pub number_fits : (trees : List Tree) (bases : List ℕ) (file node : ℕ) (t : Tree) → AreBases trees bases → slice_get trees file ≡ Some t → node < length t.nodes → count_nodes (take file trees) + node < 2 ^ 32
number_fits trees bases file node t are there low = omega (arith, low, count_below trees file t there, are.few)

-- the last of them
pub last_is : (trees : List Tree) (bases : List ℕ) (file last : ℕ) → AreBases trees bases → file + 1 ≡ length bases → slice_get bases file ≡ Some last → last ≡ count_nodes trees
last_is trees bases file last are e at =
    let k : file ≡ length trees = omega (arith, e, are.as_many) in
    are.each file last at ∙ (ap (λ n. count_nodes (take n trees)) k ∙ ap count_nodes (take_whole trees))

pub sum_is : (trees : List Tree) (bases : List ℕ) (file node base : ℕ) (t : Tree) (result : Option ℕ) → AreBases trees bases → slice_get trees file ≡ Some t → node < length t.nodes → Some base ≡ slice_get bases file → (base + node < 2 ^ 32 → result ≡ Some (base + node)) → result ≡ Some (count_nodes (take file trees) + node)
sum_is trees bases file node base t result are there low at sum =
    let same : base ≡ count_nodes (take file trees) = are.each file base (sym at) in
    subst (λ b. result ≡ Some (b + node)) same (sum (subst (λ b. b + node < 2 ^ 32) (sym same) (number_fits trees bases file node t are there low)))
