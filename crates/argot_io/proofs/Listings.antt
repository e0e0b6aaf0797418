-- A listing of one entry more.
use Rattle.std.proofs.Common.{◌≡◌, ℕ, ◌+◌, ◌<◌, List, [], ◌∷◌, ◌++◌, Option, Some, None, refl, ◌∙◌, ap, length, take, get_or}
use Rattle.std.specs.List.{filter_map, cons_option}
use Rattle.std.specs.Option.{option_to_list}
use Rattle.std.specs.Global.{Vec}
use Rattle.std.proofs.lemmas.List.{take_more, map-append}
use Rattle.std.proofs.lemmas.List.Elements.{filter_map-append}
use Rattle.argot_io.specs.Told.{below, listing, Entry}
use Rattle.argot_io.specs.Entries.{entries_of, entry_of}

one_of : (o : Option (List ℕ)) → cons_option o [] ≡ option_to_list o
one_of None = refl
one_of (Some x) = refl

pub listing_more :
    (dir : List ℕ) (entries : List (List ℕ × Vec ℕ)) (i : ℕ) (d : List ℕ × Vec ℕ) → i < length entries →
    listing dir (entries_of (take (i + 1) entries))
    ≡ listing dir (entries_of (take i entries)) ++ option_to_list (below dir (get_or entries i d).0)
listing_more dir entries i d within =
    let h : Entry → Option (List ℕ) = λ entry. below dir entry.0
    in ap (λ some. listing dir (entries_of some)) (take_more entries i d within)
    ∙ ap (filter_map h) (map-append entry_of (take i entries) (get_or entries i d ∷ []))
    ∙ filter_map-append h (entries_of (take i entries)) (entry_of (get_or entries i d) ∷ [])
    ∙ ap (λ last. listing dir (entries_of (take i entries)) ++ last) (one_of (below dir (get_or entries i d).0))
