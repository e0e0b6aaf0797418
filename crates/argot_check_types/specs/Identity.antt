-- Identical types (Go specification: Type identity). Since types are finite trees, they are the equal ones.
use Rattle.std.specs.Prelude.{ℕ, Bool, true, false, ◌&&◌, ◌==◌, nat_eq, List, [], Option, Some, None}
use Rattle.std.specs.Cmp.Lexicographic.{pointwise}
use Rattle.argot_typed.specs.declared.shape.Dir.{Dir}
use Rattle.argot_typed.specs.declared.shape.Dir.TheVariants.{Both, Send, Receive}
use Rattle.argot_check_types.specs.Types.{Basic, bool, string, int, int8, int16, int32, int64, uint, uint8, uint16, uint32, uint64, error, Ty, truth, chars, whole, basic, named, pointer, array, slice, mapping, channel, structure, function, interface, untyped, nil, field, method, also, nothing}

abbrev pub same_text : List ℕ → List ℕ → Bool
same_text a b = pointwise nat_eq a b

abbrev pub same_home : Option ℕ → Option ℕ → Bool
same_home None None = true
same_home (Some a) (Some b) = a == b
same_home _ _ = false

abbrev pub same_flag : Bool → Bool → Bool
same_flag true true = true
same_flag false false = true
same_flag _ _ = false

abbrev pub same_dir : Dir → Dir → Bool
same_dir Both Both = true
same_dir Send Send = true
same_dir Receive Receive = true
same_dir _ _ = false

abbrev pub same_basic : Basic → Basic → Bool
same_basic bool bool = true
same_basic string string = true
same_basic int int = true
same_basic int8 int8 = true
same_basic int16 int16 = true
same_basic int32 int32 = true
same_basic int64 int64 = true
same_basic uint uint = true
same_basic uint8 uint8 = true
same_basic uint16 uint16 = true
same_basic uint32 uint32 = true
same_basic uint64 uint64 = true
same_basic error error = true
same_basic _ _ = false

unfoldable pub identical : Ty → Ty → Bool
identical truth truth = true
identical chars chars = true
identical (whole a b) (whole c d) = a == c && same_flag b d
identical (basic a) (basic b) = same_basic a b
identical (named a) (named b) = a == b
identical (pointer a) (pointer b) = identical a b
identical (array m a) (array n b) = m == n && identical a b
identical (slice a) (slice b) = identical a b
identical (mapping a b) (mapping c d) = identical a c && identical b d
identical (channel m a) (channel n b) = same_dir m n && identical a b
identical (structure a) (structure b) = identical a b
identical (function a b m) (function c d n) = identical a c && (identical b d && same_flag m n)
identical (interface a) (interface b) = identical a b
identical (untyped a) (untyped b) = same_basic a b
identical nil nil = true
identical (field a h s e t f) (field b i r g u k) = same_text a b && (same_home h i && (same_text s r && (same_flag e g && (identical t u && identical f k))))
identical (method a h t f) (method b i u k) = same_text a b && (same_home h i && (identical t u && identical f k))
identical (also t f) (also u k) = identical t u && identical f k
identical nothing nothing = true
identical _ _ = false

-- the type with no tag in it, behind declared types aside
abbrev pub without_tags : Ty → Ty
without_tags (pointer t) = pointer (without_tags t)
without_tags (array n t) = array n (without_tags t)
without_tags (slice t) = slice (without_tags t)
without_tags (mapping t u) = mapping (without_tags t) (without_tags u)
without_tags (channel d t) = channel d (without_tags t)
without_tags (structure t) = structure (without_tags t)
without_tags (function t u b) = function (without_tags t) (without_tags u) b
without_tags (interface t) = interface (without_tags t)
without_tags (field n h s e t f) = field n h [] e (without_tags t) (without_tags f)
without_tags (method n h t f) = method n h (without_tags t) (without_tags f)
without_tags (also t f) = also (without_tags t) (without_tags f)
without_tags t = t

-- identical where tags of fields don't count
abbrev pub identical_but_tags : Ty → Ty → Bool
identical_but_tags a b = identical (without_tags a) (without_tags b)
