-- From the numbers of first named tags to the places that matchers name.
use Rattle.std.proofs.Common.{◌≡◌, ◌≢◌, inl, inr, ℕ, suc, add-one, ◌+◌, ◌<◌, ◌≤◌, List, [], ◌∷◌, ◌++◌, true, false, Some, take, set, map, length, length-set, slice_get, get_or, refl, ap, sym, arith, ◌∙◌}
use Rattle.std.specs.List.{list_any}
use Rattle.std.proofs.Math.Seq.{take-suc}
use Rattle.std.proofs.lemmas.Bool.{cases_lt, cases_order, or_right}
use Rattle.std.proofs.lemmas.Option.{get_or_from_slice_get, slice_get-map, slice_get_read, slice_get_within}
use Rattle.std.proofs.lemmas.List.{length-map, map-append}
use Rattle.std.proofs.lemmas.List.Folds.{list_any_more}
use Rattle.argot_plain.specs.Code.{Code}
use Rattle.argot_plain.specs.WellFormed.{WellFormed}
use Rattle.argot_plain.specs.declared.instructions.Instr.{Instr}
use Rattle.argot_plain.specs.declared.instructions.Tag.{Tag}
use Rattle.argot_config_read.specs.declared.config.MatchKind.{MatchKind}
use Rattle.argot_config_read.specs.declared.config.Matcher.{Matcher}
use Rattle.argot_config.specs.Asking.{ArePlaces, IsFirstNamed, IsSourcePlace, printed}
use Rattle.argot_config.specs.Looking.{IsFirstFound, Three, finds_tag, three_of}
use Rattle.argot_config.specs.Marking.{AreCounted, AreFirsts, FirstsFall, Gathers, IsFirst, IsListed, IsLower}
use Rattle.argot_config.specs.Matching.{looks_at_tags, name_tag, names_tag}
use Rattle.argot_config.proofs.Finding.{finds_named_tag, names_no_tag}
use Rattle.argot_config.proofs.Gathering.{gathers_push, gathers_skip}
use Rattle.argot_config.proofs.Members.{item_at, same_item, set_at, set_other}

-- before any matcher the number is that of all tags
pub first_of_none : (tags : List Tag) → IsFirst [] tags (length tags)
first_of_none tags =
    record {
      within = omega arith;
      earlier = λ k t b is. refl;
      here = λ t is. let b = slice_get_within tags (length tags) t is in absurd (omega arith);
    }

firsts_of_none_at : (x : Instr) (n : ℕ) → n ≡ length x.tags → IsFirst [] x.tags n
firsts_of_none_at x n e = rw e (first_of_none x.tags)

-- without a matcher each place has the number of its tags
pub firsts_of_none : (p : Code) → AreFirsts p [] (map (λ x. length x.tags) p.instrs)
firsts_of_none p =
    record {
      count = length-map p.instrs (λ x. length x.tags);
      each = λ i n x at n-at.
          let mapped : slice_get (map (λ x. length x.tags) p.instrs) i ≡ Some (length x.tags) = rw (slice_get-map (λ x. length x.tags) p.instrs i, at) refl in
          firsts_of_none_at x n (same_item n (length x.tags) (sym n-at ∙ mapped));
    }

-- the first that is found is the first that the matcher names
pub lower_found : (m : Matcher) (tags : List Tag) (a b : ℕ) → IsFirstFound (three_of m) m.kind tags a b → IsLower m tags a b
lower_found m tags a b f =
    record {
      least = f.least;
      earlier = λ k t w is. sym (finds_named_tag m t) ∙ f.earlier k t w is;
      here = λ t w is. sym (finds_named_tag m t) ∙ f.here t w is;
    }

-- a matcher that looks at no tags lowers nothing
pub lower_none : (m : Matcher) (tags : List Tag) (a : ℕ) → looks_at_tags m.kind true ≡ false → looks_at_tags m.kind false ≡ false → IsLower m tags a a
lower_none m tags a t f =
    record {
      least = omega arith;
      earlier = λ k tag w is. names_no_tag m tag t f;
      here = λ tag w is. absurd (omega arith);
    }

-- the places below n are lowered
pub record LoweredBelow (p : Code) (m : Matcher) (n : ℕ) (old now : List ℕ) : Type 0 where
  pub count : length now ≡ length old
  pub each : (i a b : ℕ) (x : Instr) → i < n → slice_get p.instrs i ≡ Some x → slice_get old i ≡ Some a → slice_get now i ≡ Some b → IsLower m x.tags a b
  pub above : (i : ℕ) → n ≤ i → slice_get now i ≡ slice_get old i

pub lowered_none : (p : Code) (m : Matcher) (old : List ℕ) → LoweredBelow p m 0 old old
lowered_none p m old = record { count = refl; each = λ i a b x w is a-at b-at. absurd (omega arith); above = λ i w. refl }

-- the place n besides
pub lowered_next : (p : Code) (m : Matcher) (n : ℕ) (old now : List ℕ) (x : Instr) (a v : ℕ) → LoweredBelow p m n old now → slice_get p.instrs n ≡ Some x
    → n < length now → slice_get now n ≡ Some a → IsFirstFound (three_of m) m.kind x.tags a v → LoweredBelow p m (n + 1) old (set now n v)
lowered_next p m n old now x a v below is within at found =
    record {
      count = length-set now n v ∙ below.count;
      each = λ i c d y w is-y c-at d-at. elim (cases_lt i n) [
        | inl less ↦ below.each i c d y less is-y c-at (sym (set_other now n i v (λ e. absurd (omega arith))) ∙ d-at)
        | inr more ↦
            let same : i ≡ n = omega arith in
            let same-y : y ≡ x = same_item y x (sym is-y ∙ (rw same is)) in
            let same-c : c ≡ a = same_item c a (sym c-at ∙ (rw same (sym (below.above n (omega arith)) ∙ at))) in
            let same-d : d ≡ v = same_item d v (sym d-at ∙ (rw same (set_at now n v within))) in
            rw (same-y, same-c, same-d) (lower_found m x.tags a v found)
      ];
      above = λ i w. set_other now n i v (λ e. absurd (omega arith)) ∙ below.above i (omega arith);
    }

pub lowered_all : (p : Code) (m : Matcher) (n : ℕ) (old now : List ℕ) → length p.instrs ≤ n → LoweredBelow p m n old now → FirstsFall p m old now
lowered_all p m n old now past below =
    record {
      count = below.count;
      each = λ i a b x is a-at b-at. below.each i a b x (let h = slice_get_within p.instrs i x is in omega arith) is a-at b-at;
    }

-- a matcher of no tags lowers nothing
pub lowered_kept : (p : Code) (m : Matcher) (firsts : List ℕ) → looks_at_tags m.kind true ≡ false → looks_at_tags m.kind false ≡ false → FirstsFall p m firsts firsts
lowered_kept p m firsts t f =
    record {
      count = refl;
      each = λ i a b x is a-at b-at.
          let same : b ≡ a = same_item b a (sym b-at ∙ a-at) in
          rw same (lower_none m x.tags a t f);
    }

-- what is lowered stays counted
pub counted_still : (p : Code) (m : Matcher) (old new : List ℕ) → AreCounted p old → FirstsFall p m old new → AreCounted p new
counted_still p m old new a fall =
    record {
      count = fall.count ∙ a.count;
      each = λ i n x is n-at.
          let within : i < length old = let h = slice_get_within new i n n-at in let c = fall.count in omega arith in
          let before = item_at old i within in
          let least = (fall.each i before.0 n x is before.1 n-at).least in
          let most = a.each i before.0 x is before.1 in
          omega arith;
    }

-- one matcher more
first_more : (ms : List Matcher) (i : ℕ) (m : Matcher) (tags : List Tag) (a b : ℕ) → i < length ms → get_or ms i m ≡ m
    → IsFirst (take i ms) tags a → IsLower m tags a b → IsFirst (take (i + 1) ms) tags b
first_more ms i m tags a b w is f l =
    record {
      within = let fw = f.within in let ll = l.least in omega arith;
      earlier = λ k t k-b at.
          let k-a : k < a = let ll = l.least in omega arith in
          let e = list_any_more (names_tag t) ms i m w in
          rw (e, is, f.earlier k t k-a at, l.earlier k t k-b at) refl;
      here = λ t at.
          let e = list_any_more (names_tag t) ms i m w in
          elim (cases_lt b a) [
            | inl less ↦ rw (e, is, l.here t less at) (or_right (list_any (names_tag t) (take i ms)) true refl)
            | inr more ↦
                let same : b ≡ a = let h = l.least in omega arith in
                rw (e, is, f.here t (rw same at at)) refl
          ];
    }

-- the numbers of the matchers so far, lowered by one matcher more
pub firsts_more : (p : Code) (ms : List Matcher) (i : ℕ) (m : Matcher) (old new : List ℕ) → i < length ms → get_or ms i m ≡ m
    → AreFirsts p (take i ms) old → FirstsFall p m old new → AreFirsts p (take (i + 1) ms) new
firsts_more p ms i m old new w is a fall =
    record {
      count = fall.count ∙ a.count;
      each = λ n b x at b-at.
          let within : n < length old = let h = slice_get_within new n b b-at in let c = fall.count in omega arith in
          let before = item_at old n within in
          first_more ms i m x.tags before.0 b w is (a.each n before.0 x at before.1) (fall.each n before.0 b x at before.1 b-at);
    }

-- the number of a place's tags bounds its number
pub firsts_counted : (p : Code) (ms : List Matcher) (firsts : List ℕ) → AreFirsts p ms firsts → AreCounted p firsts
firsts_counted p ms firsts a = record { count = a.count; each = λ i n x at n-at. (a.each i n x at n-at).within }

-- two numbers of first named tags are the same
same_first : (ms : List Matcher) (tags : List Tag) (tag : Tag) (n : ℕ) → (f : IsFirstNamed ms tags tag) → IsFirst ms tags n → n ≡ f.at
same_first ms tags tag n f is =
    elim (cases_order n f.at) [
      | inl same ↦ same
      | inr other ↦ elim other [
        | inl less ↦
            let within : n < length tags = let h = slice_get_within tags f.at tag f.is in omega arith in
            let t = item_at tags n within in
            let no : name_tag ms t.0 ≡ false = f.earlier n t.0 less t.1 in
            let yes : name_tag ms t.0 ≡ true = is.here t.0 t.1 in
            cc
        | inr more ↦
            let no : name_tag ms tag ≡ false = is.earlier f.at tag more f.is in
            let yes : name_tag ms tag ≡ true = f.named in
            cc
      ]
    ]

some_tag : (tags : List Tag) (k : ℕ) (t : Tag) → slice_get tags k ≡ Some t → tags ≢ []
some_tag [] k t at e = cc
some_tag (x ∷ tags) k t at e = cc

listed_named : (p : Code) (ms : List Matcher) (firsts : List ℕ) (i : ℕ) (name : List ℕ) → AreFirsts p ms firsts → IsListed p firsts (i, name) → IsSourcePlace p ms i name
listed_named p ms firsts i name a l =
    let first = a.each i l.first l.instr l.is l.at in
    record {
      instr = l.instr;
      is = l.is;
      kind = l.kind;
      tag = l.tag;
      first = record { at = l.first; is = l.is_tag; named = first.here l.tag l.is_tag; earlier = first.earlier };
      same_name = l.same_name;
    }

named_listed : (p : Code) (ms : List Matcher) (firsts : List ℕ) (i : ℕ) (name : List ℕ) → AreFirsts p ms firsts → IsSourcePlace p ms i name → IsListed p firsts (i, name)
named_listed p ms firsts i name a s =
    let within : i < length firsts = let h = slice_get_within p.instrs i s.instr s.is in let c = a.count in omega arith in
    let n = item_at firsts i within in
    let same : n.0 ≡ s.first.at = same_first ms s.instr.tags s.tag n.0 s.first (a.each i n.0 s.instr s.is n.1) in
    record {
      instr = s.instr;
      is = s.is;
      kind = s.kind;
      first = s.first.at;
      at = rw (← same) n.1;
      tag = s.tag;
      is_tag = s.first.is;
      same_name = s.same_name;
    }

-- the places that are listed are those that the matchers name
pub places_listed : (p : Code) (ms : List Matcher) (firsts : List ℕ) (found : List (ℕ × List ℕ)) → AreFirsts p ms firsts
    → Gathers (λ x. x.0) (IsListed p firsts) (length p.instrs) found → ArePlaces p ms found
places_listed p ms firsts found a g =
    record {
      ascending = g.ascending;
      only = λ i name m. listed_named p ms firsts i name a (g.only (i, name) m);
      all = λ i name s. g.all (i, name) (slice_get_within p.instrs i s.instr s.is) (named_listed p ms firsts i name a s);
    }

-- what is listed at a place
listed_once : (p : Code) (firsts : List ℕ) (i : ℕ) (a b : List ℕ) → IsListed p firsts (i, a) → IsListed p firsts (i, b) → a ≡ b
listed_once p firsts i a b x y =
    let same-instr : x.instr ≡ y.instr = same_item x.instr y.instr (sym x.is ∙ y.is) in
    let same-first : x.first ≡ y.first = same_item x.first y.first (sym x.at ∙ y.at) in
    let at : slice_get y.instr.tags y.first ≡ Some x.tag = rw (same-instr, same-first) at x.is_tag in
    let same-tag : x.tag ≡ y.tag = same_item x.tag y.tag (sym at ∙ y.is_tag) in
    x.same_name ∙ ap printed same-tag ∙ sym y.same_name

-- one place more is listed
pub listed_push : (p : Code) (firsts : List ℕ) (i n : ℕ) (name : List ℕ) (x : Instr) (tag : Tag) (found : List (ℕ × List ℕ)) → WellFormed p → Gathers (λ x. x.0) (IsListed p firsts) i found
    → slice_get p.instrs i ≡ Some x → slice_get firsts i ≡ Some n → slice_get x.tags n ≡ Some tag → name ≡ printed tag
    → Gathers (λ x. x.0) (IsListed p firsts) (i + 1) (found ++ (i, name) ∷ [])
listed_push p firsts i n name x tag found well g is at is-tag named =
    let here : IsListed p firsts (i, name) = record { instr = x; is = is; kind = well.tagged i x is (some_tag x.tags n tag is-tag); first = n; at = at; tag = tag; is_tag = is-tag; same_name = named } in
    gathers_push (λ x. x.0) (IsListed p firsts) i found (i, name) g refl here (λ y e q. one y e q here)
  where
    one : (y : ℕ × List ℕ) → y.0 ≡ i → IsListed p firsts y → IsListed p firsts (i, name) → y ≡ (i, name)
    one (j, other) e q here = let moved : IsListed p firsts (i, other) = rw e at q in let same : other ≡ name = listed_once p firsts i other name moved here in rw (e, same) refl

none_listed : (p : Code) (firsts : List ℕ) (i n : ℕ) (x : Instr) (name : List ℕ) → slice_get p.instrs i ≡ Some x → slice_get firsts i ≡ Some n → length x.tags ≤ n
    → IsListed p firsts (i, name) → ⊥
none_listed p firsts i n x name is at past l =
    let same-instr : l.instr ≡ x = same_item l.instr x (sym l.is ∙ is) in
    let same-first : l.first ≡ n = same_item l.first n (sym l.at ∙ at) in
    let tagged : slice_get x.tags n ≡ Some l.tag = rw (same-instr, same-first) at l.is_tag in
    let within : n < length x.tags = slice_get_within x.tags n l.tag tagged in
    omega arith

-- a place is passed over
pub listed_skip : (p : Code) (firsts : List ℕ) (i n : ℕ) (x : Instr) (found : List (ℕ × List ℕ)) → Gathers (λ x. x.0) (IsListed p firsts) i found
    → slice_get p.instrs i ≡ Some x → slice_get firsts i ≡ Some n → length x.tags ≤ n → Gathers (λ x. x.0) (IsListed p firsts) (i + 1) found
listed_skip p firsts i n x found g is at past =
    gathers_skip (λ x. x.0) (IsListed p firsts) i found g none
  where
    none : (y : ℕ × List ℕ) → y.0 ≡ i → IsListed p firsts y → ⊥
    none (j, other) e q = let moved : IsListed p firsts (i, other) = rw e at q in none_listed p firsts i n x other is at past moved

-- no tag before k is found
pub record NoneBefore (s : Three) (kind : MatchKind) (tags : List Tag) (k : ℕ) : Type 0 where
  pub none : (j : ℕ) (t : Tag) → j < k → slice_get tags j ≡ Some t → finds_tag s kind t ≡ false

pub none_before : (s : Three) (kind : MatchKind) (tags : List Tag) → NoneBefore s kind tags 0
none_before s kind tags = record { none = λ j t w at. absurd (omega arith) }

pub none_next : (s now : Three) (kind : MatchKind) (tags : List Tag) (k : ℕ) (x : Tag) → now ≡ s → k < length tags → x ≡ get_or tags k x → NoneBefore s kind tags k
    → finds_tag now kind x ≡ false → NoneBefore s kind tags (k + 1)
none_next s now kind tags k x same w is n other =
    record {
      none = λ j t l at. elim (cases_lt j k) [
        | inl less ↦ n.none j t less at
        | inr more ↦
            let here : j ≡ k = omega arith in
            let x-at : slice_get tags k ≡ Some x = slice_get_read tags (length tags) k x refl w is in
            let same-tag : t ≡ x = same_item t x (sym at ∙ (rw here x-at)) in
            rw (same-tag, ← same) other
      ];
    }

-- the tag at k is the first that is found
pub found_here : (s now : Three) (kind : MatchKind) (tags : List Tag) (limit k : ℕ) (x : Tag) → now ≡ s → k < limit → limit ≤ length tags → x ≡ get_or tags k x
    → NoneBefore s kind tags k → true ≡ finds_tag now kind x → IsFirstFound s kind tags limit k
found_here s now kind tags limit k x same w within is n found =
    record {
      least = omega arith;
      earlier = n.none;
      here = λ t l at.
          let inside : k < length tags = omega arith in
          let x-at : slice_get tags k ≡ Some x = slice_get_read tags (length tags) k x refl inside is in
          let same-tag : t ≡ x = same_item t x (sym at ∙ x-at) in
          rw (same-tag, ← same) (sym found);
    }

-- none is found
pub found_none : (s : Three) (kind : MatchKind) (tags : List Tag) (limit k : ℕ) → limit ≤ k → NoneBefore s kind tags k → IsFirstFound s kind tags limit limit
found_none s kind tags limit k past n =
    record { least = omega arith; earlier = λ j t w at. n.none j t (omega arith) at; here = λ t w at. absurd (omega arith) }

-- what the loop over places asks of the number of one
pub counted_at : (p : Code) (m : Matcher) (n a : ℕ) (old now : List ℕ) (x : Instr) → AreCounted p old → LoweredBelow p m n old now → slice_get p.instrs n ≡ Some x → slice_get now n ≡ Some a
    → a ≤ length x.tags
counted_at p m n a old now x counted below is at = counted.each n a x is (sym (below.above n (omega arith)) ∙ at)

-- the number of one place more
pub counts_more : (xs : List Instr) (i : ℕ) (x : Instr) (made : List ℕ) → slice_get xs i ≡ Some x → made ≡ map (λ y. length y.tags) (take i xs)
    → made ++ length x.tags ∷ [] ≡ map (λ y. length y.tags) (take (i + 1) xs)
counts_more xs i x made at is =
    let within : i < length xs = slice_get_within xs i x at in
    let item : get_or xs i x ≡ x = get_or_from_slice_get xs i x x at in
    let front : take (suc i) xs ≡ take i xs ++ get_or xs i x ∷ [] = take-suc xs i x within in
    rw (add-one, front, item, map-append (λ y. length y.tags) (take i xs) (x ∷ []), is) refl
