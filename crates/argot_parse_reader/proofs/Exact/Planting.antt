-- The nodes behind their children tell the trees.
use Rattle.std.proofs.Common.{◌≡◌, ℕ, ◌+◌, ◌-◌, List, [], ◌∷◌, ◌++◌, false, refl, sym, ap, ◌∙◌, arith, append_assoc}
use Rattle.std.specs.Prelude.{◌==◌, if◌then◌else◌}
use Rattle.std.proofs.lemmas.List.{append-nil}
use Rattle.std.proofs.lemmas.Bool.{ne_eqb}
use Rattle.argot_tree.specs.Forests.{Forest, leaf, tree, beside, size}
use Rattle.argot_parse_reader.specs.declared.post.Post.{Post}
use Rattle.argot_parse_reader.specs.Posts.{posts}

-- trees and the trees behind them, these newest first
record Gathered : Type 0 where
  kids : Forest
  rest : Forest

-- the newest trees with so many nodes, before others
abbrev gather : ℕ → Forest → Forest → Gathered
gather nodes kids leaf = record { kids = kids; rest = leaf }
gather nodes kids (tree kind token last inner rest) =
    if nodes == 0 then record { kids = kids; rest = tree kind token last inner rest }
    else gather (nodes - (size inner + 1)) (tree kind token last inner kids) rest

abbrev planted : Post → Gathered → Forest
planted p g = tree p.kind p.token p.last g.kids g.rest

-- the trees that nodes are, newest first
abbrev plant : List Post → Forest → Forest
plant [] grown = grown
plant (p ∷ ps) grown = plant ps (planted p (gather (p.size - 1) leaf grown))

-- trees on others, turned round
abbrev onto : Forest → Forest → Forest
onto leaf grown = grown
onto (tree kind token last kids rest) grown = onto rest (tree kind token last kids grown)

gather_none : (kids rest : Forest) → gather 0 kids rest ≡ record { kids = kids; rest = rest }
gather_none kids leaf = refl
gather_none kids (tree kind token last inner rest) = refl

gather_onto : (x : Forest) (more : ℕ) (kids grown : Forest) → gather (more + size x) kids (onto x grown) ≡ gather more (beside x kids) grown
gather_onto leaf more kids grown = ap (λ n. gather n kids grown) (omega arith)
gather_onto (tree kind token last inner rest) more kids grown =
    let sum : more + ((size inner + 1) + size rest) ≡ more + (size inner + 1) + size rest = omega arith in
    let some : (more + (size inner + 1) == 0) ≡ false = ne_eqb (more + (size inner + 1)) 0 (λ e. absurd (omega (arith, e))) in
    let left : more + (size inner + 1) - (size inner + 1) ≡ more = omega arith in
    ap (λ n. gather n kids (onto rest (tree kind token last inner grown))) sum
    ∙ gather_onto rest (more + (size inner + 1)) kids (tree kind token last inner grown)
    ∙ rw some (ap (λ n. gather n (tree kind token last inner (beside rest kids)) grown) left)

beside-leaf : (x : Forest) → beside x leaf ≡ x
beside-leaf leaf = refl
beside-leaf (tree kind token last kids rest) = ap (λ r. tree kind token last kids r) (beside-leaf rest)

gather_kids : (x grown : Forest) → gather (size x) leaf (onto x grown) ≡ record { kids = x; rest = grown }
gather_kids x grown =
    let none : size x ≡ 0 + size x = omega arith in
    ap (λ n. gather n leaf (onto x grown)) none ∙ gather_onto x 0 leaf grown ∙ gather_none (beside x leaf) grown ∙ ap (λ k. record { kids = k; rest = grown }) (beside-leaf x)

plant_posts : (x : Forest) (ps : List Post) (grown : Forest) → plant (posts x ++ ps) grown ≡ plant ps (onto x grown)
plant_posts leaf ps grown = refl
plant_posts (tree kind token last kids rest) ps grown =
    let p : Post = record { kind = kind; token = token; last = last; size = size kids + 1 } in
    let count : size kids + 1 - 1 ≡ size kids = omega arith in
    ap (λ l. plant l grown) (append_assoc (posts kids) (p ∷ posts rest) ps)
    ∙ plant_posts kids (p ∷ (posts rest ++ ps)) grown
    ∙ ap (λ g. plant (posts rest ++ ps) (planted p g)) (ap (λ n. gather n leaf (onto kids grown)) count ∙ gather_kids kids grown)
    ∙ plant_posts rest ps (tree kind token last kids grown)

turned : (x grown : Forest) → onto (onto x grown) leaf ≡ onto grown x
turned leaf grown = refl
turned (tree kind token last kids rest) grown = turned rest (tree kind token last kids grown)

pub same_trees : (x y : Forest) → posts x ≡ posts y → x ≡ y
same_trees x y e =
    let grown : onto x leaf ≡ onto y leaf =
    sym (plant_posts x [] leaf) ∙ ap (λ l. plant l leaf) (append-nil (posts x) ∙ e ∙ sym (append-nil (posts y))) ∙ plant_posts y [] leaf in
    sym (turned x leaf) ∙ ap (λ f. onto f leaf) grown ∙ turned y leaf
