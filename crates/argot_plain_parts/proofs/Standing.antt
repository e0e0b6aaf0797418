-- What the tests of places say of one instruction in its function.
use Rattle.std.proofs.Common.{◌≡◌, ℕ, zero, suc, ◌+◌, ◌-◌, ◌<◌, ◌≤◌, true, List, [], ◌∷◌, ◌++◌, Some, refl, sym, ap, ◌∙◌, inl, inr, arith, subst, eqb-true, ltb-true, leb-true}
use Rattle.std.specs.Prelude.{slice_get, length, ◌==◌, ◌&&◌, ◌||◌, nat_lt, nat_le, ◌⊎◌, take, drop}
use Rattle.std.proofs.lemmas.Bool.{and_parts, or_cases}
use Rattle.argot_plain.specs.Lists.{In}
use Rattle.argot_plain.specs.Lists.In.{here, there}
use Rattle.argot_plain.specs.Code.{Next, defined, reads}
use Rattle.argot_plain.specs.WellFormed.{reference_registers}
use Rattle.argot_plain.specs.declared.functions.Function.{Function}
use Rattle.argot_plain.specs.declared.instructions.Instr.{Instr}
use Rattle.argot_plain.specs.declared.instructions.Kind.{Kind}
use Rattle.argot_plain.specs.declared.instructions.Kind.TheVariants.{Read, RunDefers, Leave, Goto, Branch, Panic}
use Rattle.argot_plain_parts.proofs.Parted.{three, seven}
use Rattle.argot_plain_parts.proofs.Alike.{root_is, same_paths_is, joined_are}
use Rattle.argot_plain_parts.specs.Leaves.{is_root, are_joined, same_paths}
use Rattle.argot_plain_parts.specs.Numbers.{all_below}
use Rattle.argot_plain_parts.specs.Parts.{leaves_of}
use Rattle.argot_plain_parts.specs.Places.{are_inside, goes_inside, stands_right, all_roots, parts_fit, values_fit, args_fit, results_fit, calls_fit, place_fits, places_fit, body_of, each_place_fits}
use Rattle.argot_text.specs.declared.path.PathStep.{PathStep}

pub in_append : {A : Type 0} (x : A) (xs ys : List A) → In x (xs ++ ys) → In x xs ⊎ In x ys
in_append x [] ys m = inr m
in_append x (z ∷ xs) ys (here e) = inl (here e)
in_append x (z ∷ xs) ys (there m) = elim (in_append x xs ys m) [ inl l ↦ inl (there l) | inr r ↦ inr r ]

-- the instruction at each place of each function
get_take : {X : Type 0} (n : ℕ) (xs : List X) (k : ℕ) → k < n → slice_get (take n xs) k ≡ slice_get xs k
get_take zero xs k h = absurd (omega arith)
get_take (suc n) [] k h = refl
get_take (suc n) (x ∷ xs) zero h = refl
get_take (suc n) (x ∷ xs) (suc k) h = get_take n xs k (omega arith)

pub get_drop : {X : Type 0} (n : ℕ) (xs : List X) (k : ℕ) → slice_get (drop n xs) k ≡ slice_get xs (n + k)
get_drop zero xs k = ap (slice_get xs) (let e : k ≡ 0 + k = omega arith in e)
get_drop (suc n) [] k = refl
get_drop (suc n) (x ∷ xs) k = get_drop n xs k ∙ ap (slice_get (x ∷ xs)) (let e : suc (n + k) ≡ suc n + k = omega arith in e)

in_body : (instrs : List Instr) (fn : Function) (i : ℕ) → fn.entry ≤ i → i ≤ fn.leave → slice_get (body_of instrs fn) (i - fn.entry) ≡ slice_get instrs i
in_body instrs fn i low high =
    get_take (fn.leave + 1 - fn.entry) (drop fn.entry instrs) (i - fn.entry) (omega arith)
    ∙ get_drop fn.entry instrs (i - fn.entry)
    ∙ ap (slice_get instrs) (let e : fn.entry + (i - fn.entry) ≡ i = omega arith in e)

each_place : (fns : List Function) (instrs : List Instr) (rest : List Function) (g : ℕ) (fn : Function) → each_place_fits fns instrs rest ≡ true → slice_get rest g ≡ Some fn → places_fit fns instrs fn fn.entry (body_of instrs fn) ≡ true
each_place fns instrs [] g fn h e = absurd cc
each_place fns instrs (x ∷ rest) zero fn h e = subst (λ (f : Function). places_fit fns instrs f f.entry (body_of instrs f) ≡ true) (let s : x ≡ fn = cc in s) (and_parts (places_fit fns instrs x x.entry (body_of instrs x)) (each_place_fits fns instrs rest) h).0
each_place fns instrs (x ∷ rest) (suc g) fn h e = each_place fns instrs rest g fn (and_parts (places_fit fns instrs x x.entry (body_of instrs x)) (each_place_fits fns instrs rest) h).1 e

at_place : (fns : List Function) (instrs : List Instr) (fn : Function) (i : ℕ) (xs : List Instr) (k : ℕ) (x : Instr) → places_fit fns instrs fn i xs ≡ true → slice_get xs k ≡ Some x → (n : ℕ) → n ≡ i + k → place_fits fns instrs fn n x.kind ≡ true
at_place fns instrs fn i [] k x h e n m = absurd cc
at_place fns instrs fn i (y ∷ xs) zero x h e n m =
    let s : y ≡ x = cc in
    let at : i ≡ n = omega arith in
    subst (λ (z : Instr). place_fits fns instrs fn n z.kind ≡ true) s (subst (λ j. place_fits fns instrs fn j y.kind ≡ true) at (and_parts (place_fits fns instrs fn i y.kind) (places_fit fns instrs fn (i + 1) xs) h).0)
at_place fns instrs fn i (y ∷ xs) (suc k) x h e n m = at_place fns instrs fn (i + 1) xs k x (and_parts (place_fits fns instrs fn i y.kind) (places_fit fns instrs fn (i + 1) xs) h).1 e n (omega arith)

pub standing : (fns : List Function) (instrs : List Instr) (g i : ℕ) (fn : Function) (x : Instr) → each_place_fits fns instrs fns ≡ true → slice_get fns g ≡ Some fn → fn.entry ≤ i → i ≤ fn.leave → slice_get instrs i ≡ Some x → place_fits fns instrs fn i x.kind ≡ true
standing fns instrs g i fn x h e low high at =
    at_place fns instrs fn fn.entry (body_of instrs fn) (i - fn.entry) x (each_place fns instrs fns g fn h e) (in_body instrs fn i low high ∙ at) i (omega arith)

-- what is asked of an instruction in its function
pub record Stands (fns : List Function) (instrs : List Instr) (fn : Function) (i : ℕ) (kind : Kind) : Type 0 where
  pub goes : goes_inside fn i kind ≡ true
  pub stands : stands_right fn i kind ≡ true
  pub defines : all_below (length fn.registers) (defined kind) ≡ true
  pub reads : all_below (length fn.registers) (reads kind) ≡ true
  pub references : all_roots fn (reference_registers kind) ≡ true
  pub values : values_fit fn kind ≡ true
  pub calls : calls_fit fns instrs fn kind ≡ true

pub stands : (fns : List Function) (instrs : List Instr) (fn : Function) (i : ℕ) (kind : Kind) → place_fits fns instrs fn i kind ≡ true → Stands fns instrs fn i kind
stands fns instrs fn i kind h =
    let a = and_parts (goes_inside fn i kind) (stands_right fn i kind && (all_below (length fn.registers) (defined kind) && (all_below (length fn.registers) (reads kind) && (all_roots fn (reference_registers kind) && (values_fit fn kind && calls_fit fns instrs fn kind))))) (seven (goes_inside fn i kind) (stands_right fn i kind) (all_below (length fn.registers) (defined kind)) (all_below (length fn.registers) (reads kind)) (all_roots fn (reference_registers kind)) (values_fit fn kind) (calls_fit fns instrs fn kind) h) in
    let b = and_parts (stands_right fn i kind) (all_below (length fn.registers) (defined kind) && (all_below (length fn.registers) (reads kind) && (all_roots fn (reference_registers kind) && (values_fit fn kind && calls_fit fns instrs fn kind)))) a.1 in
    let c = and_parts (all_below (length fn.registers) (defined kind)) (all_below (length fn.registers) (reads kind) && (all_roots fn (reference_registers kind) && (values_fit fn kind && calls_fit fns instrs fn kind))) b.1 in
    let d = and_parts (all_below (length fn.registers) (reads kind)) (all_roots fn (reference_registers kind) && (values_fit fn kind && calls_fit fns instrs fn kind)) c.1 in
    let e = and_parts (all_roots fn (reference_registers kind)) (values_fit fn kind && calls_fit fns instrs fn kind) d.1 in
    let f = and_parts (values_fit fn kind) (calls_fit fns instrs fn kind) e.1 in
    record { goes = a.0; stands = b.0; defines = c.0; reads = d.0; references = e.0; values = f.0; calls = f.1 }

-- where an instruction goes on
got_inside : (fn : Function) (ns : List ℕ) (k j : ℕ) → are_inside fn ns ≡ true → slice_get ns k ≡ Some j → (fn.entry < j) × (j ≤ fn.exit)
got_inside fn [] k j h e = absurd cc
got_inside fn (n ∷ ns) zero j h e =
    let a = and_parts (nat_lt fn.entry n) (nat_le n fn.exit && are_inside fn ns) (three (nat_lt fn.entry n) (nat_le n fn.exit) (are_inside fn ns) h) in
    let b = and_parts (nat_le n fn.exit) (are_inside fn ns) a.1 in
    subst (λ m. (fn.entry < m) × (m ≤ fn.exit)) (let s : n ≡ j = cc in s) (ltb-true fn.entry n a.0, leb-true n fn.exit b.0)
got_inside fn (n ∷ ns) (suc k) j h e =
    let a = and_parts (nat_lt fn.entry n) (nat_le n fn.exit && are_inside fn ns) (three (nat_lt fn.entry n) (nat_le n fn.exit) (are_inside fn ns) h) in
    got_inside fn ns k j (and_parts (nat_le n fn.exit) (are_inside fn ns) a.1).1 e

pub in_inside : (fn : Function) (ns : List ℕ) (j : ℕ) → are_inside fn ns ≡ true → In j ns → j ≤ fn.exit
in_inside fn [] j h m = elim m [ ]
in_inside fn (n ∷ ns) j h (here e) = subst (λ m. m ≤ fn.exit) (sym e) (leb-true n fn.exit (and_parts (nat_le n fn.exit) (are_inside fn ns) (and_parts (nat_lt fn.entry n) (nat_le n fn.exit && are_inside fn ns) (three (nat_lt fn.entry n) (nat_le n fn.exit) (are_inside fn ns) h)).1).0)
in_inside fn (n ∷ ns) j h (there m) = in_inside fn ns j (and_parts (nat_le n fn.exit) (are_inside fn ns) (and_parts (nat_lt fn.entry n) (nat_le n fn.exit && are_inside fn ns) (three (nat_lt fn.entry n) (nat_le n fn.exit) (are_inside fn ns) h)).1).1 m

pub next_in : (fn : Function) (i j : ℕ) (kind : Kind) → fn.exit ≤ fn.leave → fn.entry ≤ i → goes_inside fn i kind ≡ true → Next kind i j → (fn.entry < j) × (j ≤ fn.leave)
next_in fn i j (Leave from) up low h n = elim n [ ]
next_in fn i j (Panic from) up low h n = elim n [ ]
next_in fn i j (Goto target) up low h n =
    let a = and_parts (nat_le target fn.exit) ((target == i) || nat_lt fn.entry target) h in
    let below = leb-true target fn.exit a.0 in
    let is = n.0 in
    elim (or_cases (target == i) (nat_lt fn.entry target) a.1) [
      | inl same ↦ absurd (let other = n.1 in cc)
      | inr over ↦ let o = ltb-true fn.entry target over in (omega arith, omega arith)
    ]
next_in fn i j (Branch targets) up low h n = let g = got_inside fn targets n.0 j h n.1 in let a = g.0 in let b = g.1 in (a, omega arith)
next_in fn i j _ up low h n = let o = ltb-true i fn.leave h in let is : j ≡ i + 1 = n in (omega arith, omega arith)

-- what stands behind the exit
pub read_behind : (fn : Function) (i : ℕ) (kind : Kind) → fn.exit < i → i < fn.leave → stands_right fn i kind ≡ true → (to : ℕ) × (at : ℕ) × (qs : List (List PathStep)) × (kind ≡ Read to at qs)
read_behind fn i (Read to at qs) low up h = (to, at, qs, refl)
read_behind fn i RunDefers low up h = absurd (let e = eqb-true i fn.exit h in omega arith)
read_behind fn i (Leave from) low up h = absurd (let e = eqb-true i fn.leave (and_parts (i == fn.leave) (length from == fn.results) h).0 in omega arith)
read_behind fn i _ low up h = absurd (elim (or_cases (nat_le i fn.exit) (nat_le fn.leave i) h) [ inl a ↦ let e = leb-true i fn.exit a in omega arith | inr b ↦ let e = leb-true fn.leave i b in omega arith ])

-- registers
pub root_in : (fn : Function) (rs : List ℕ) (r : ℕ) → all_roots fn rs ≡ true → In r rs → leaves_of fn r ≡ [] ∷ []
root_in fn [] r h m = elim m [ ]
root_in fn (s ∷ rs) r h (here e) = subst (λ x. leaves_of fn x ≡ [] ∷ []) (sym e) (root_is (leaves_of fn s) (and_parts (is_root (leaves_of fn s)) (all_roots fn rs) h).0)
root_in fn (s ∷ rs) r h (there m) = root_in fn rs r (and_parts (is_root (leaves_of fn s)) (all_roots fn rs) h).1 m

pub part_in : (fn : Function) (whole : List (List PathStep)) (parts : List (List PathStep × ℕ)) (path q : List PathStep) (r : ℕ) → parts_fit fn whole parts ≡ true → In (path, r) parts → In q (leaves_of fn r) → In (path ++ q) whole
part_in fn whole [] path q r h m n = elim m [ ]
part_in fn whole (x ∷ xs) path q r h (here e) n =
    let a = (and_parts (are_joined x.0 (leaves_of fn x.1) whole) (parts_fit fn whole xs) h).0 in
    joined_are path (leaves_of fn r) whole q (subst (λ (y : List PathStep × ℕ). are_joined y.0 (leaves_of fn y.1) whole ≡ true) (sym e) a) n
part_in fn whole (x ∷ xs) path q r h (there m) n = part_in fn whole xs path q r (and_parts (are_joined x.0 (leaves_of fn x.1) whole) (parts_fit fn whole xs) h).1 m n

-- calls
pub arg_at : (fn target : Function) (k : ℕ) (rs : List ℕ) (m r : ℕ) → args_fit fn target k rs ≡ true → slice_get rs m ≡ Some r → (n : ℕ) → n ≡ k + m → leaves_of fn r ≡ leaves_of target n
arg_at fn target k [] m r h e n is = absurd cc
arg_at fn target k (s ∷ rs) zero r h e n is =
    let a = same_paths_is (leaves_of fn s) (leaves_of target k) (and_parts (same_paths (leaves_of fn s) (leaves_of target k)) (args_fit fn target (k + 1) rs) h).0 in
    ap (leaves_of fn) (let b : r ≡ s = cc in b) ∙ a ∙ ap (leaves_of target) (let b : k ≡ n = omega arith in b)
arg_at fn target k (s ∷ rs) (suc m) r h e n is = arg_at fn target (k + 1) rs m r (and_parts (same_paths (leaves_of fn s) (leaves_of target k)) (args_fit fn target (k + 1) rs) h).1 e n (omega arith)

pub result_at : (fn target : Function) (to from : List ℕ) (k r s : ℕ) → results_fit fn target to from ≡ true → slice_get to k ≡ Some r → slice_get from k ≡ Some s → leaves_of fn r ≡ leaves_of target s
result_at fn target [] from k r s h e f = absurd cc
result_at fn target (a ∷ to) [] k r s h e f = absurd cc
result_at fn target (a ∷ to) (b ∷ from) zero r s h e f =
    let x = same_paths_is (leaves_of fn a) (leaves_of target b) (and_parts (same_paths (leaves_of fn a) (leaves_of target b)) (results_fit fn target to from) h).0 in
    ap (leaves_of fn) (let c : r ≡ a = cc in c) ∙ x ∙ ap (leaves_of target) (let c : b ≡ s = cc in c)
result_at fn target (a ∷ to) (b ∷ from) (suc k) r s h e f = result_at fn target to from k r s (and_parts (same_paths (leaves_of fn a) (leaves_of target b)) (results_fit fn target to from) h).1 e f
