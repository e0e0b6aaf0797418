-- Spots as features at places, and as flags.
use Rattle.std.proofs.Common.{◌≡◌, ℕ, ◌+◌, ◌<◌, List, [], ◌∷◌, ◌++◌, Some, take, refl, sym, ap, ◌∙◌, subst}
use Rattle.std.specs.Prelude.{map, slice_get}
use Rattle.argot_text.specs.declared.sources.Sources.{Sources}
use Rattle.argot_text.specs.Lines.{line_of, column_of}
use Rattle.argot_names_rules.specs.Lists.{IsListOf}
use Rattle.argot_names_rules.specs.Files.{SourceFiles, Place, by_file as place_by_file, by_offset as place_by_offset}
use Rattle.argot_names_rules.specs.declared.flag.Feature.{Feature}
use Rattle.argot_names_rules.specs.declared.flag.Feature.TheVariants as features
use Rattle.argot_names_rules.specs.declared.flag.Flag.{Flag}
use Rattle.argot_names_rules.specs.Subset.{rank, Marked, MarkedBefore, by_place, by_feature, flag_of}
use Rattle.argot_names_imports.specs.Reads.{bytes_at}
use Rattle.argot_names_imports.proofs.Lists.{get_map, map_get, map_one}
use Rattle.argot_names_subset_file.specs.declared.spots.Spot.{Spot}
use Rattle.argot_names_subset_file.specs.Spots.{spot_of, IsSpotted, IsSpotBefore, by_file, by_offset, by_rank}
use Rattle.argot_names_subset.specs.declared.positions.Cursor.{Cursor}
use Rattle.argot_names_subset.specs.Positions.{feature_ranked, marked_of, flagged}

pub flag_is : (sources : Sources) (spot : Spot) (c : Cursor) → c.file ≡ spot.file → c.line ≡ line_of (bytes_at sources spot.file) spot.offset → c.col ≡ column_of (bytes_at sources spot.file) spot.offset
    → ◌≡◌ {A = Flag} (record { at = record { file = c.file; line = c.line; col = c.col }; feature = feature_ranked spot.rank }) (flagged sources spot)
flag_is sources spot c e f g = λ i. record { at = record { file = e i; line = f i; col = g i }; feature = feature_ranked spot.rank }

pub flags_more : (sources : Sources) (spots : List Spot) (k : ℕ) (spot : Spot) (flag : Flag) (old new : List Flag) → slice_get spots k ≡ Some spot → flag ≡ flagged sources spot → old ≡ map (flagged sources) (take k spots) → new ≡ old ++ flag ∷ []
    → new ≡ map (flagged sources) (take (k + 1) spots)
flags_more sources spots k spot flag old new there is so_far e =
    e ∙ (ap (λ x. old ++ x ∷ []) is ∙ (ap (λ xs. xs ++ flagged sources spot ∷ []) so_far ∙ sym (map_one (flagged sources) spots k spot there)))

-- the feature of its own number
pub ranked_back : (f : Feature) → feature_ranked (rank f) ≡ f
ranked_back features.ImportUnsafe = refl
ranked_back features.ImportReflect = refl
ranked_back features.ImportC = refl
ranked_back features.DotImport = refl
ranked_back features.AssemblyFile = refl
ranked_back features.Linkname = refl
ranked_back features.BuildLine = refl
ranked_back features.Embed = refl
ranked_back features.TypeParameters = refl
ranked_back features.FloatingPointLiteral = refl
ranked_back features.ImaginaryLiteral = refl
ranked_back features.FloatingPointType = refl
ranked_back features.ComplexType = refl
ranked_back features.ComplexBuiltIn = refl
ranked_back features.Uintptr = refl
ranked_back features.Comparable = refl
ranked_back features.Recover = refl
ranked_back features.Goto = refl
ranked_back features.MethodExpression = refl
ranked_back features.FunctionWithoutBody = refl
ranked_back features.GoLine = refl

-- a spot as a feature at a place
pub marked_is : (f : Feature) (p : Place) (s : Spot) → s ≡ spot_of f p → marked_of s ≡ record { feature = f; place = p }
marked_is f p s e = ap marked_of e ∙ (λ i. record { feature = ranked_back f i; place = p })

-- spots in order are marks in order
marks_ordered : (P : Feature → Place → Type 0) (a b : Spot) → IsSpotted P a → IsSpotted P b → IsSpotBefore a b → MarkedBefore (marked_of a) (marked_of b)
marks_ordered P a b x y (by_file l) = by_place (place_by_file l)
marks_ordered P a b x y (by_offset e l) = by_place (place_by_offset e l)
marks_ordered P a b x y (by_rank e f l) =
    by_feature (λ i. record { file = e i; offset = f i })
    (subst (λ n. n < rank (feature_ranked b.rank)) (sym (back a x)) (subst (λ n. a.rank < n) (sym (back b y)) l))
  where
    back : (s : Spot) → IsSpotted P s → rank (feature_ranked s.rank) ≡ s.rank
    back s z = let at : s.rank ≡ rank z.feature = ap (λ (t : Spot). t.rank) z.is in ap (λ n. rank (feature_ranked n)) at ∙ (ap rank (ranked_back z.feature) ∙ sym at)

pub marks_are : (P : Feature → Place → Type 0) (spots : List Spot) → IsListOf IsSpotBefore (IsSpotted P) spots → IsListOf MarkedBefore (λ m. P m.feature m.place) (map marked_of spots)
marks_are P spots are =
    record {
      ordered = λ k a b e f.
          let x = get_map marked_of spots k a e in
          let y = get_map marked_of spots (k + 1) b f in
          subst (λ m. MarkedBefore m b) x.2 (subst (MarkedBefore (marked_of x.0)) y.2 (marks_ordered P x.0 y.0 (are.sound x.0 (k, x.1)) (are.sound y.0 (k + 1, y.1)) (are.ordered k x.0 y.0 x.1 y.1)));
      sound = λ m i.
          let x = get_map marked_of spots i.0 m i.1 in
          let s = are.sound x.0 (i.0, x.1) in
          subst (λ (n : Marked). P n.feature n.place) (sym (marked_is s.feature s.place x.0 s.is) ∙ x.2) s.holds;
      complete = λ m p.
          let i = are.complete (spot_of m.feature m.place) (record { feature = m.feature; place = m.place; holds = p; is = refl }) in
          (i.0, map_get marked_of spots i.0 (spot_of m.feature m.place) i.1 ∙ ap (λ x. Some x) (marked_is m.feature m.place (spot_of m.feature m.place) refl));
    }

-- and flags are those of the marks
pub flags_are : (h : SourceFiles) (spots : List Spot) → map (flagged h.sources) spots ≡ map (flag_of h) (map marked_of spots)
flags_are h [] = refl
flags_are h (s ∷ spots) = ap (λ fs. flagged h.sources s ∷ fs) (flags_are h spots)
