-- A conjunction of several tests, taken apart from its first one on.
use Rattle.std.proofs.Common.{◌≡◌, Bool, true, false}
use Rattle.std.specs.Prelude.{◌&&◌}

pub three : (a b c : Bool) → (a && b && c) ≡ true → (a && (b && c)) ≡ true
three true b c h = h
three false b c h = cc

pub four : (a b c d : Bool) → (a && b && c && d) ≡ true → (a && (b && (c && d))) ≡ true
four a b c d h0 = three a b (c && d) (three (a && b) c d h0)

pub five : (a b c d e : Bool) → (a && b && c && d && e) ≡ true → (a && (b && (c && (d && e)))) ≡ true
five a b c d e h0 = four a b c (d && e) (three (a && b && c) d e h0)

pub six : (a b c d e f : Bool) → (a && b && c && d && e && f) ≡ true → (a && (b && (c && (d && (e && f))))) ≡ true
six a b c d e f h0 = five a b c d (e && f) (three (a && b && c && d) e f h0)

pub seven : (a b c d e f g : Bool) → (a && b && c && d && e && f && g) ≡ true → (a && (b && (c && (d && (e && (f && g)))))) ≡ true
seven a b c d e f g h0 = six a b c d e (f && g) (three (a && b && c && d && e) f g h0)

pub eight : (a b c d e f g h : Bool) → (a && b && c && d && e && f && g && h) ≡ true → (a && (b && (c && (d && (e && (f && (g && h))))))) ≡ true
eight a b c d e f g h h0 = seven a b c d e f (g && h) (three (a && b && c && d && e && f) g h h0)
