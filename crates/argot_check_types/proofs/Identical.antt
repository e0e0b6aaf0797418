-- Types are identical where they are equal trees.
use Rattle.std.proofs.Common.{◌≡◌, ℕ, Bool, true, false, ◌&&◌, ◌==◌, List, Option, Some, None, refl, ap}
use Rattle.std.proofs.lemmas.Bool.{eqb-true, eq-eqb}
use Rattle.std.proofs.lemmas.Slice.Eq.{bytes_eq-Decides}
use Rattle.argot_typed.specs.declared.shape.Dir.{Dir}
use Rattle.argot_typed.specs.declared.shape.Dir.TheVariants.{Both, Send, Receive}
use Rattle.argot_check_types.specs.Types.{Basic, bool, string, int, int8, int16, int32, int64, uint, uint8, uint16, uint32, uint64, error, Ty, truth, chars, whole, basic, named, pointer, array, slice, mapping, channel, structure, function, interface, untyped, nil, field, method, also, nothing}
use Rattle.argot_check_types.specs.Identity.{same_text, same_home, same_flag, same_dir, same_basic, identical}

both : (b c : Bool) → (b && c) ≡ true → (b ≡ true) × (c ≡ true)
both true c e = (refl, e)
both false c e = cc

and_true : (b c : Bool) → b ≡ true → c ≡ true → (b && c) ≡ true
and_true true c e f = f
and_true false c e f = cc

text_is : (a b : List ℕ) → same_text a b ≡ true → a ≡ b
text_is a b e = (bytes_eq-Decides a b).0 e

text_self : (a : List ℕ) → same_text a a ≡ true
text_self a = (bytes_eq-Decides a a).1 refl

number_is : (a b : ℕ) → (a == b) ≡ true → a ≡ b
number_is a b e = eqb-true a b e

number_self : (a : ℕ) → (a == a) ≡ true
number_self a = eq-eqb a a refl

home_is : (a b : Option ℕ) → same_home a b ≡ true → a ≡ b
home_is None None e = refl
home_is (Some a) (Some b) e = ap Some (number_is a b e)
home_is None (Some b) e = cc
home_is (Some a) None e = cc

home_self : (a : Option ℕ) → same_home a a ≡ true
home_self None = refl
home_self (Some a) = number_self a

flag_is : (a b : Bool) → same_flag a b ≡ true → a ≡ b
flag_is true true e = refl
flag_is false false e = refl
flag_is true false e = cc
flag_is false true e = cc

flag_self : (a : Bool) → same_flag a a ≡ true
flag_self true = refl
flag_self false = refl

dir_is : (a b : Dir) → same_dir a b ≡ true → a ≡ b
dir_is Both Both e = refl
dir_is Send Send e = refl
dir_is Receive Receive e = refl
dir_is _ _ e = cc

dir_self : (a : Dir) → same_dir a a ≡ true
dir_self Both = refl
dir_self Send = refl
dir_self Receive = refl

basic_is : (a b : Basic) → same_basic a b ≡ true → a ≡ b
basic_is bool bool e = refl
basic_is string string e = refl
basic_is int int e = refl
basic_is int8 int8 e = refl
basic_is int16 int16 e = refl
basic_is int32 int32 e = refl
basic_is int64 int64 e = refl
basic_is uint uint e = refl
basic_is uint8 uint8 e = refl
basic_is uint16 uint16 e = refl
basic_is uint32 uint32 e = refl
basic_is uint64 uint64 e = refl
basic_is error error e = refl
basic_is _ _ e = cc

basic_self : (a : Basic) → same_basic a a ≡ true
basic_self bool = refl
basic_self string = refl
basic_self int = refl
basic_self int8 = refl
basic_self int16 = refl
basic_self int32 = refl
basic_self int64 = refl
basic_self uint = refl
basic_self uint8 = refl
basic_self uint16 = refl
basic_self uint32 = refl
basic_self uint64 = refl
basic_self error = refl

pub identical_is : (a b : Ty) → identical a b ≡ true → a ≡ b
unfolding identical
identical_is truth truth e = refl
identical_is chars chars e = refl
identical_is (whole a0 a1) (whole b0 b1) e =
    let p0 = both (a0 == b0) (same_flag a1 b1) e in
    let q0 : a0 ≡ b0 = number_is a0 b0 p0.0 in
    let q1 : a1 ≡ b1 = flag_is a1 b1 p0.1 in
    cc
identical_is (basic a0) (basic b0) e =
    let q0 : a0 ≡ b0 = basic_is a0 b0 e in
    cc
identical_is (named a0) (named b0) e =
    let q0 : a0 ≡ b0 = number_is a0 b0 e in
    cc
identical_is (pointer a0) (pointer b0) e =
    let q0 : a0 ≡ b0 = identical_is a0 b0 e in
    cc
identical_is (array a0 a1) (array b0 b1) e =
    let p0 = both (a0 == b0) (identical a1 b1) e in
    let q0 : a0 ≡ b0 = number_is a0 b0 p0.0 in
    let q1 : a1 ≡ b1 = identical_is a1 b1 p0.1 in
    cc
identical_is (slice a0) (slice b0) e =
    let q0 : a0 ≡ b0 = identical_is a0 b0 e in
    cc
identical_is (mapping a0 a1) (mapping b0 b1) e =
    let p0 = both (identical a0 b0) (identical a1 b1) e in
    let q0 : a0 ≡ b0 = identical_is a0 b0 p0.0 in
    let q1 : a1 ≡ b1 = identical_is a1 b1 p0.1 in
    cc
identical_is (channel a0 a1) (channel b0 b1) e =
    let p0 = both (same_dir a0 b0) (identical a1 b1) e in
    let q0 : a0 ≡ b0 = dir_is a0 b0 p0.0 in
    let q1 : a1 ≡ b1 = identical_is a1 b1 p0.1 in
    cc
identical_is (structure a0) (structure b0) e =
    let q0 : a0 ≡ b0 = identical_is a0 b0 e in
    cc
identical_is (function a0 a1 a2) (function b0 b1 b2) e =
    let p0 = both (identical a0 b0) (identical a1 b1 && same_flag a2 b2) e in
    let p1 = both (identical a1 b1) (same_flag a2 b2) p0.1 in
    let q0 : a0 ≡ b0 = identical_is a0 b0 p0.0 in
    let q1 : a1 ≡ b1 = identical_is a1 b1 p1.0 in
    let q2 : a2 ≡ b2 = flag_is a2 b2 p1.1 in
    cc
identical_is (interface a0) (interface b0) e =
    let q0 : a0 ≡ b0 = identical_is a0 b0 e in
    cc
identical_is (untyped a0) (untyped b0) e =
    let q0 : a0 ≡ b0 = basic_is a0 b0 e in
    cc
identical_is nil nil e = refl
identical_is (field a0 a1 a2 a3 a4 a5) (field b0 b1 b2 b3 b4 b5) e =
    let p0 = both (same_text a0 b0) (same_home a1 b1 && (same_text a2 b2 && (same_flag a3 b3 && (identical a4 b4 && identical a5 b5)))) e in
    let p1 = both (same_home a1 b1) (same_text a2 b2 && (same_flag a3 b3 && (identical a4 b4 && identical a5 b5))) p0.1 in
    let p2 = both (same_text a2 b2) (same_flag a3 b3 && (identical a4 b4 && identical a5 b5)) p1.1 in
    let p3 = both (same_flag a3 b3) (identical a4 b4 && identical a5 b5) p2.1 in
    let p4 = both (identical a4 b4) (identical a5 b5) p3.1 in
    let q0 : a0 ≡ b0 = text_is a0 b0 p0.0 in
    let q1 : a1 ≡ b1 = home_is a1 b1 p1.0 in
    let q2 : a2 ≡ b2 = text_is a2 b2 p2.0 in
    let q3 : a3 ≡ b3 = flag_is a3 b3 p3.0 in
    let q4 : a4 ≡ b4 = identical_is a4 b4 p4.0 in
    let q5 : a5 ≡ b5 = identical_is a5 b5 p4.1 in
    cc
identical_is (method a0 a1 a2 a3) (method b0 b1 b2 b3) e =
    let p0 = both (same_text a0 b0) (same_home a1 b1 && (identical a2 b2 && identical a3 b3)) e in
    let p1 = both (same_home a1 b1) (identical a2 b2 && identical a3 b3) p0.1 in
    let p2 = both (identical a2 b2) (identical a3 b3) p1.1 in
    let q0 : a0 ≡ b0 = text_is a0 b0 p0.0 in
    let q1 : a1 ≡ b1 = home_is a1 b1 p1.0 in
    let q2 : a2 ≡ b2 = identical_is a2 b2 p2.0 in
    let q3 : a3 ≡ b3 = identical_is a3 b3 p2.1 in
    cc
identical_is (also a0 a1) (also b0 b1) e =
    let p0 = both (identical a0 b0) (identical a1 b1) e in
    let q0 : a0 ≡ b0 = identical_is a0 b0 p0.0 in
    let q1 : a1 ≡ b1 = identical_is a1 b1 p0.1 in
    cc
identical_is nothing nothing e = refl
identical_is _ _ e = cc

pub identical_self : (a : Ty) → identical a a ≡ true
unfolding identical
identical_self truth = refl
identical_self chars = refl
identical_self (whole a0 a1) = and_true (a0 == a0) (same_flag a1 a1) (number_self a0) (flag_self a1)
identical_self (basic a0) = basic_self a0
identical_self (named a0) = number_self a0
identical_self (pointer a0) = identical_self a0
identical_self (array a0 a1) = and_true (a0 == a0) (identical a1 a1) (number_self a0) (identical_self a1)
identical_self (slice a0) = identical_self a0
identical_self (mapping a0 a1) = and_true (identical a0 a0) (identical a1 a1) (identical_self a0) (identical_self a1)
identical_self (channel a0 a1) = and_true (same_dir a0 a0) (identical a1 a1) (dir_self a0) (identical_self a1)
identical_self (structure a0) = identical_self a0
identical_self (function a0 a1 a2) = and_true (identical a0 a0) (identical a1 a1 && same_flag a2 a2) (identical_self a0) (and_true (identical a1 a1) (same_flag a2 a2) (identical_self a1) (flag_self a2))
identical_self (interface a0) = identical_self a0
identical_self (untyped a0) = basic_self a0
identical_self nil = refl
identical_self (field a0 a1 a2 a3 a4 a5) = and_true (same_text a0 a0) (same_home a1 a1 && (same_text a2 a2 && (same_flag a3 a3 && (identical a4 a4 && identical a5 a5)))) (text_self a0) (and_true (same_home a1 a1) (same_text a2 a2 && (same_flag a3 a3 && (identical a4 a4 && identical a5 a5))) (home_self a1) (and_true (same_text a2 a2) (same_flag a3 a3 && (identical a4 a4 && identical a5 a5)) (text_self a2) (and_true (same_flag a3 a3) (identical a4 a4 && identical a5 a5) (flag_self a3) (and_true (identical a4 a4) (identical a5 a5) (identical_self a4) (identical_self a5)))))
identical_self (method a0 a1 a2 a3) = and_true (same_text a0 a0) (same_home a1 a1 && (identical a2 a2 && identical a3 a3)) (text_self a0) (and_true (same_home a1 a1) (identical a2 a2 && identical a3 a3) (home_self a1) (and_true (identical a2 a2) (identical a3 a3) (identical_self a2) (identical_self a3)))
identical_self (also a0 a1) = and_true (identical a0 a0) (identical a1 a1) (identical_self a0) (identical_self a1)
identical_self nothing = refl
