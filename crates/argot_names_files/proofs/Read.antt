-- Readings of files, one more at a time.
use Rattle.std.proofs.Common.{◌≡◌, ℕ, ◌+◌, ◌<◌, ◌≤◌, zero, suc, inl, inr, List, [], ◌∷◌, ◌++◌, length, Some, refl, sym, ap, ◌∙◌, subst, arith}
use Rattle.std.specs.Prelude.{slice_get, true, ◌-◌, ◌^◌, unwrap_or}
use Rattle.argot_text.specs.declared.sources.Sources.{Sources}
use Rattle.argot_tree.specs.declared.lexed.Lexed.{Lexed}
use Rattle.argot_tree.specs.declared.tree.Tree.{Tree}
use Rattle.argot_tree.specs.Text.{SpellsText}
use Rattle.argot_names_imports.specs.Reads.{bytes_at}
use Rattle.argot_names_imports.proofs.Lists.{get_either, get_below, get_there}
use Rattle.argot_names_rules.specs.Agreeing.{is_go_file}
use Rattle.argot_names_files.specs.Files.{AreFiles}
use Rattle.argot_names_files.specs.Reading.{IsReading, AreReadings, IsUnlexed, IsUnparsed, HasNoTree, no_tokens, too_deep, no_tree, IsUnread}
use Rattle.argot_names_files.specs.declared.reading.ReadingFault.{ReadingFault}
use Rattle.argot_names_files.specs.declared.reading.ReadingFault.TheVariants as faults

some_is : {A : Type 0} (x y : A) → Some x ≡ Some y → x ≡ y
some_is x y e = cc

longer : {A : Type 0} (xs : List A) (x : A) → length (xs ++ x ∷ []) ≡ length xs + 1
longer [] x = refl
longer (y ∷ xs) x = omega (arith, longer xs x)

pub none_read : (s : Sources) → AreReadings s 0 [] []
none_read s = record { lexed_many = refl; trees_many = refl; each = λ file path l t p a b. absurd (cc (a)) }

pub one_more_read : (s : Sources) (k : ℕ) (lexed : List Lexed) (trees : List Tree) (path : List ℕ) (l : Lexed) (t : Tree) → AreReadings s k lexed trees → slice_get s.paths k ≡ Some path → IsReading path (bytes_at s k) l t → AreReadings s (k + 1) (lexed ++ l ∷ []) (trees ++ t ∷ [])
one_more_read s k lexed trees path l t so_far there is =
    record {
      lexed_many = omega (arith, longer lexed l, so_far.lexed_many);
      trees_many = omega (arith, longer trees t, so_far.trees_many);
      each = λ file p a b at in_lexed in_trees.
          elim (get_either lexed l file a in_lexed) [
            | inl old ↦
                elim (get_either trees t file b in_trees) [
                  | inl older ↦ so_far.each file p a b at old older
                  | inr new ↦ absurd (omega (arith, get_below lexed file a old, so_far.lexed_many, so_far.trees_many, new.0))
                ]
            | inr last ↦
                elim (get_either trees t file b in_trees) [
                  | inl older ↦ absurd (omega (arith, get_below trees file b older, so_far.lexed_many, so_far.trees_many, last.0))
                  | inr new ↦ last_one file p a b at last new
                ]
          ];
    }
  where
    last_one : (file : ℕ) (p : List ℕ) (a : Lexed) (b : Tree) → slice_get s.paths file ≡ Some p → (file ≡ length lexed) × (a ≡ l) → (file ≡ length trees) × (b ≡ t) → IsReading p (bytes_at s file) a b
    last_one file p a b at last new =
        let same : k ≡ file = sym (last.0 ∙ so_far.lexed_many) in
        let path_is : path ≡ p = some_is path p (sym there ∙ subst (λ j. slice_get s.paths j ≡ Some p) (sym same) at) in
        subst (λ j. IsReading p (bytes_at s j) a b) same
        (subst (λ x. IsReading x (bytes_at s k) a b) path_is
        (subst (λ x. IsReading path (bytes_at s k) x b) (sym last.1)
        (subst (IsReading path (bytes_at s k) l) (sym new.1) is)))

pub unlexed : (bytes : List ℕ) (file : ℕ) (fault : ReadingFault) → IsUnlexed bytes file fault → HasNoTree bytes file fault
unlexed bytes file (faults.Token f offset) h = (ap (λ k. Some k) h.0, no_tokens h.1.0 h.1.1)
unlexed bytes file (faults.TooDeep f at) h = absurd h
unlexed bytes file (faults.Syntax f at) h = absurd h
unlexed bytes file faults.Memory h = _

pub unparsed : (bytes : List ℕ) (file : ℕ) (lexed : Lexed) (fault : ReadingFault) → SpellsText lexed bytes → IsUnparsed lexed.tokens file fault → HasNoTree bytes file fault
unparsed bytes file lexed (faults.Token f offset) spells h = absurd h
unparsed bytes file lexed (faults.TooDeep f at) spells h = (ap (λ k. Some k) h.0, too_deep lexed spells h.1)
unparsed bytes file lexed (faults.Syntax f at) spells h = (ap (λ k. Some k) h.0, no_tree lexed spells h.1.0 h.1.1)
unparsed bytes file lexed faults.Memory spells h = _

pub unread : (s : Sources) (file : ℕ) (path : List ℕ) (lexed : List Lexed) (trees : List Tree) (fault : ReadingFault) → slice_get s.paths file ≡ Some path → is_go_file path ≡ true → HasNoTree (bytes_at s file) file fault → AreReadings s file lexed trees → IsUnread s fault
unread s file path lexed trees (faults.Token f offset) there go h so_far = record { file = file; path = path; lexed = lexed; trees = trees; there = there; go = go; told = h.0; unreadable = h.1; earlier = so_far }
unread s file path lexed trees (faults.TooDeep f at) there go h so_far = record { file = file; path = path; lexed = lexed; trees = trees; there = there; go = go; told = h.0; unreadable = h.1; earlier = so_far }
unread s file path lexed trees (faults.Syntax f at) there go h so_far = record { file = file; path = path; lexed = lexed; trees = trees; there = there; go = go; told = h.0; unreadable = h.1; earlier = so_far }
unread s file path lexed trees faults.Memory there go h so_far = _

-- each file has room
pub has_room : (s : Sources) (file : ℕ) → AreFiles s → file < length s.paths → length (bytes_at s file) < 2 ^ 32 - 1
has_room s file is below =
    let p = get_there s.paths file below in
    let b = get_there s.contents file (omega (arith, below, is.agree.as_many)) in
    subst (λ x. length x < 2 ^ 32 - 1) (sym (ap (λ o. unwrap_or o []) b.1)) (is.agree.fitting file p.0 b.0 p.1 b.1).short
