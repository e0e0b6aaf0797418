-- The first of several lists of faults, one behind another.
use Rattle.std.proofs.Common.{◌≡◌, ℕ, List, [], ◌∷◌, ◌++◌, Option, Some, None, refl, slice_get, is_some, if◌then◌else◌}
use Rattle.std.specs.Option.{option_map_or}
use Rattle.serde_json.specs.Data.{Members}
use Rattle.argot_config_read.specs.declared.faults.ConfigFault.{ConfigFault}
use Rattle.argot_config_read.specs.declared.faults.ConfigFault.TheVariants.{Shape}
use Rattle.argot_config_read.specs.Shapes.{unknown_keys, keys_of}

-- the first of a list is the first of what begins with it
pub first_of_both : {A : Type 0} (a b : List A) (e : A) → slice_get a 0 ≡ Some e → slice_get (a ++ b) 0 ≡ Some e
first_of_both [] b e h = cc
first_of_both (x ∷ a) b e h = h

-- The first fault of an object without faults of its own stands in the first of its rows that has one.
pub in_first : (known : List (List ℕ)) (path : List ℕ) (m : Option Members) (a1 rest : List ConfigFault) (e : ConfigFault)
    → option_map_or (λ ms. unknown_keys known path (keys_of ms)) m (Shape path ∷ []) ≡ [] → slice_get a1 0 ≡ Some e
    → slice_get ((option_map_or (λ ms. unknown_keys known path (keys_of ms)) m (Shape path ∷ [])) ++ (if is_some m then a1 ++ rest else [])) 0 ≡ Some e
in_first known path None a1 rest e own h = cc
in_first known path (Some ms) a1 rest e own h = rw (own) (first_of_both a1 rest e h)

pub in_second : (known : List (List ℕ)) (path : List ℕ) (m : Option Members) (a1 a2 rest : List ConfigFault) (e : ConfigFault)
    → option_map_or (λ ms. unknown_keys known path (keys_of ms)) m (Shape path ∷ []) ≡ [] → a1 ≡ [] → slice_get a2 0 ≡ Some e
    → slice_get ((option_map_or (λ ms. unknown_keys known path (keys_of ms)) m (Shape path ∷ [])) ++ (if is_some m then a1 ++ (a2 ++ rest) else [])) 0 ≡ Some e
in_second known path None a1 a2 rest e own h1 h = cc
in_second known path (Some ms) a1 a2 rest e own h1 h = rw (own, h1) (first_of_both a2 rest e h)

pub in_third : (known : List (List ℕ)) (path : List ℕ) (m : Option Members) (a1 a2 a3 rest : List ConfigFault) (e : ConfigFault)
    → option_map_or (λ ms. unknown_keys known path (keys_of ms)) m (Shape path ∷ []) ≡ [] → a1 ≡ [] → a2 ≡ [] → slice_get a3 0 ≡ Some e
    → slice_get ((option_map_or (λ ms. unknown_keys known path (keys_of ms)) m (Shape path ∷ [])) ++ (if is_some m then a1 ++ (a2 ++ (a3 ++ rest)) else [])) 0 ≡ Some e
in_third known path None a1 a2 a3 rest e own h1 h2 h = cc
in_third known path (Some ms) a1 a2 a3 rest e own h1 h2 h = rw (own, h1, h2) (first_of_both a3 rest e h)

pub in_fourth : (known : List (List ℕ)) (path : List ℕ) (m : Option Members) (a1 a2 a3 a4 rest : List ConfigFault) (e : ConfigFault)
    → option_map_or (λ ms. unknown_keys known path (keys_of ms)) m (Shape path ∷ []) ≡ [] → a1 ≡ [] → a2 ≡ [] → a3 ≡ [] → slice_get a4 0 ≡ Some e
    → slice_get ((option_map_or (λ ms. unknown_keys known path (keys_of ms)) m (Shape path ∷ [])) ++ (if is_some m then a1 ++ (a2 ++ (a3 ++ (a4 ++ rest))) else [])) 0 ≡ Some e
in_fourth known path None a1 a2 a3 a4 rest e own h1 h2 h3 h = cc
in_fourth known path (Some ms) a1 a2 a3 a4 rest e own h1 h2 h3 h = rw (own, h1, h2, h3) (first_of_both a4 rest e h)

pub in_fifth : (known : List (List ℕ)) (path : List ℕ) (m : Option Members) (a1 a2 a3 a4 a5 rest : List ConfigFault) (e : ConfigFault)
    → option_map_or (λ ms. unknown_keys known path (keys_of ms)) m (Shape path ∷ []) ≡ [] → a1 ≡ [] → a2 ≡ [] → a3 ≡ [] → a4 ≡ [] → slice_get a5 0 ≡ Some e
    → slice_get ((option_map_or (λ ms. unknown_keys known path (keys_of ms)) m (Shape path ∷ [])) ++ (if is_some m then a1 ++ (a2 ++ (a3 ++ (a4 ++ (a5 ++ rest)))) else [])) 0 ≡ Some e
in_fifth known path None a1 a2 a3 a4 a5 rest e own h1 h2 h3 h4 h = cc
in_fifth known path (Some ms) a1 a2 a3 a4 a5 rest e own h1 h2 h3 h4 h = rw (own, h1, h2, h3, h4) (first_of_both a5 rest e h)

pub in_sixth : (known : List (List ℕ)) (path : List ℕ) (m : Option Members) (a1 a2 a3 a4 a5 a6 rest : List ConfigFault) (e : ConfigFault)
    → option_map_or (λ ms. unknown_keys known path (keys_of ms)) m (Shape path ∷ []) ≡ [] → a1 ≡ [] → a2 ≡ [] → a3 ≡ [] → a4 ≡ [] → a5 ≡ [] → slice_get a6 0 ≡ Some e
    → slice_get ((option_map_or (λ ms. unknown_keys known path (keys_of ms)) m (Shape path ∷ [])) ++ (if is_some m then a1 ++ (a2 ++ (a3 ++ (a4 ++ (a5 ++ (a6 ++ rest))))) else [])) 0 ≡ Some e
in_sixth known path None a1 a2 a3 a4 a5 a6 rest e own h1 h2 h3 h4 h5 h = cc
in_sixth known path (Some ms) a1 a2 a3 a4 a5 a6 rest e own h1 h2 h3 h4 h5 h = rw (own, h1, h2, h3, h4, h5) (first_of_both a6 rest e h)

pub in_seventh : (known : List (List ℕ)) (path : List ℕ) (m : Option Members) (a1 a2 a3 a4 a5 a6 a7 rest : List ConfigFault) (e : ConfigFault)
    → option_map_or (λ ms. unknown_keys known path (keys_of ms)) m (Shape path ∷ []) ≡ [] → a1 ≡ [] → a2 ≡ [] → a3 ≡ [] → a4 ≡ [] → a5 ≡ [] → a6 ≡ [] → slice_get a7 0 ≡ Some e
    → slice_get ((option_map_or (λ ms. unknown_keys known path (keys_of ms)) m (Shape path ∷ [])) ++ (if is_some m then a1 ++ (a2 ++ (a3 ++ (a4 ++ (a5 ++ (a6 ++ (a7 ++ rest)))))) else [])) 0 ≡ Some e
in_seventh known path None a1 a2 a3 a4 a5 a6 a7 rest e own h1 h2 h3 h4 h5 h6 h = cc
in_seventh known path (Some ms) a1 a2 a3 a4 a5 a6 a7 rest e own h1 h2 h3 h4 h5 h6 h = rw (own, h1, h2, h3, h4, h5, h6) (first_of_both a7 rest e h)

pub none_in_three : (known : List (List ℕ)) (path : List ℕ) (m : Option Members) (a1 a2 a3 : List ConfigFault)
    → option_map_or (λ ms. unknown_keys known path (keys_of ms)) m (Shape path ∷ []) ≡ [] → a1 ≡ [] → a2 ≡ [] → a3 ≡ [] → (option_map_or (λ ms. unknown_keys known path (keys_of ms)) m (Shape path ∷ [])) ++ (if is_some m then a1 ++ (a2 ++ (a3 ++ [])) else []) ≡ []
none_in_three known path None a1 a2 a3 own h1 h2 h3 = cc
none_in_three known path (Some ms) a1 a2 a3 own h1 h2 h3 = rw (own, h1, h2, h3) refl

pub none_in_four : (known : List (List ℕ)) (path : List ℕ) (m : Option Members) (a1 a2 a3 a4 : List ConfigFault)
    → option_map_or (λ ms. unknown_keys known path (keys_of ms)) m (Shape path ∷ []) ≡ [] → a1 ≡ [] → a2 ≡ [] → a3 ≡ [] → a4 ≡ [] → (option_map_or (λ ms. unknown_keys known path (keys_of ms)) m (Shape path ∷ [])) ++ (if is_some m then a1 ++ (a2 ++ (a3 ++ (a4 ++ []))) else []) ≡ []
none_in_four known path None a1 a2 a3 a4 own h1 h2 h3 h4 = cc
none_in_four known path (Some ms) a1 a2 a3 a4 own h1 h2 h3 h4 = rw (own, h1, h2, h3, h4) refl

pub none_in_seven : (known : List (List ℕ)) (path : List ℕ) (m : Option Members) (a1 a2 a3 a4 a5 a6 a7 : List ConfigFault)
    → option_map_or (λ ms. unknown_keys known path (keys_of ms)) m (Shape path ∷ []) ≡ [] → a1 ≡ [] → a2 ≡ [] → a3 ≡ [] → a4 ≡ [] → a5 ≡ [] → a6 ≡ [] → a7 ≡ [] → (option_map_or (λ ms. unknown_keys known path (keys_of ms)) m (Shape path ∷ [])) ++ (if is_some m then a1 ++ (a2 ++ (a3 ++ (a4 ++ (a5 ++ (a6 ++ (a7 ++ [])))))) else []) ≡ []
none_in_seven known path None a1 a2 a3 a4 a5 a6 a7 own h1 h2 h3 h4 h5 h6 h7 = cc
none_in_seven known path (Some ms) a1 a2 a3 a4 a5 a6 a7 own h1 h2 h3 h4 h5 h6 h7 = rw (own, h1, h2, h3, h4, h5, h6, h7) refl

pub ruleset firsts = (first_of_both, in_first, in_second, in_third, in_fourth, in_fifth, in_sixth, in_seventh, none_in_three, none_in_four, none_in_seven)
