-- What is said of the paths of functions' packages, by their numbers.
use Rattle.std.proofs.Common.{◌≡◌, ℕ, zero, suc, ◌<◌, List, [], ◌∷◌, false, Some, length, slice_get, get_or, sym, ap, ◌∙◌, arith}
use Rattle.std.specs.Borrow.{Bor}
use Rattle.std.proofs.lemmas.Option.{get_or_from_slice_get, slice_get-get_or, slice_get_within}
use Rattle.argot_plain.specs.Code.{Code, IsFunction}
use Rattle.argot_plain.specs.declared.functions.Function.{Function}
use Rattle.argot_config.specs.declared.packages.Packages.{Packages}
use Rattle.argot_config.specs.Looking.{Sought, is_found}
use Rattle.argot_config.specs.Packages.{path_of, IsPath, ArePackages, found_in}
use Rattle.argot_config.proofs.Members.{item_at, same_item}

found_at : (s : Sought) (paths : List (Bor (List ℕ))) (n : ℕ) (key : Bor (List ℕ)) → slice_get paths n ≡ Some key → slice_get (found_in s paths) n ≡ Some (is_found s key.now)
found_at s [] n key e = absurd (cc)
found_at s (x ∷ xs) zero key e = ap (λ y. Some (is_found s y.now)) (same_item x key e)
found_at s (x ∷ xs) (suc n) key e = found_at s xs n key e

module _ (p : Code) (packages : Packages) (are : ArePackages p packages) where
  path_at : (g n : ℕ) (fn : Function) → IsFunction p g fn → n ≡ get_or packages.numbers.items g n → IsPath packages.paths.keys n (path_of fn.ident)
  path_at g n fn is read =
      let numbers = packages.numbers.items in
      let within : g < length numbers = let l = slice_get_within p.functions g fn is in let m = are.as_many in omega arith in
      are.each g n fn is (slice_get-get_or numbers g n within ∙ ap (λ x. Some x) (sym read))

  -- the number of a function's path is one of a path
  pub number_below : (g n : ℕ) → g < length p.functions → n ≡ get_or packages.numbers.items g n → n < length packages.paths.keys
  number_below g n below read =
      let fn = item_at p.functions g below in
      let at = path_at g n fn.0 fn.1 read in
      slice_get_within packages.paths.keys n at.key at.at

  pub said_of : (s : Sought) (g n : ℕ) (fn : Function) → IsFunction p g fn → n ≡ get_or packages.numbers.items g n → get_or (found_in s packages.paths.keys) n false ≡ is_found s (path_of fn.ident)
  said_of s g n fn is read =
      let at = path_at g n fn is read in
      get_or_from_slice_get (found_in s packages.paths.keys) n (is_found s at.key.now) false (found_at s packages.paths.keys n at.key at.at) ∙ ap (is_found s) at.is
