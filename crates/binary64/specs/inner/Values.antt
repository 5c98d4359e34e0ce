-- Signs and zeros.
use Rattle.std.specs.Prelude.{Bool, true, false, eqb, pos, Float}
use Rattle.std.specs.Float.{nan, inf, fin}

abbrev pub sign : Float → Bool
sign nan = false
sign (inf s) = s
sign (fin s m e) = s

-- a zero of either sign
abbrev pub is_zero : Float → Bool
is_zero nan = false
is_zero (inf s) = false
is_zero (fin s m e) = eqb m 0

-- -0.0
abbrev pub nzero : Float
nzero = fin true 0 (pos 0)
