-- Kinds of float values, of either format.
use Rattle.std.specs.Prelude.{ℕ, Bool, false, not, pos, Float}
use Rattle.std.specs.Float.{nan, inf, fin, Format}
use Rattle.std.specs.Float.Ieee.{round}

-- a value with its sign bit clear, and no NaN: what costs and lengths are
abbrev pub clear : Float → Bool
clear nan = false
clear (inf s) = not s
clear (fin s m e) = not s

abbrev pub is_minus_infinity : Float → Bool
is_minus_infinity nan = false
is_minus_infinity (inf s) = s
is_minus_infinity (fin s m e) = false

-- +0.0 and +1.0
abbrev pub pzero : Float
pzero = fin false 0 (pos 0)

abbrev pub pone : Float
pone = fin false 1 (pos 0)

-- the whole number n with the sign s, rounded to the format
abbrev pub of_whole : Format → Bool → ℕ → Float
of_whole f s n = round f s n 1
