-- Floats: by their bits, or as decimals for people.
use Rattle.std.specs.Prelude.{ℕ, suc, ◌+◌, ◌^◌, Bool, true, false, not, ◌&&◌, cond, List, [], ◌∷◌, eqb, leb, length, get_or, take, drop, Option, Some, None, Float}
use Rattle.std.specs.Float.{inf, binary64}
use Rattle.std.specs.Float.Ieee.{round, of_bits}
use Rattle.text.specs.inner.Bytes.{bytes, same}
use Rattle.text.specs.inner.Numbers.{all_digits, value}

-- 16 hexadecimal digits are the bits; every NaN is one value
unfoldable pub bits_of : List ℕ → Option Float
bits_of w = cond (eqb (length w) 16 && all_digits 16 w) (Some (of_bits binary64 (value 16 0 w))) None

-- how many bytes come before the first point
unfoldable pub point : List ℕ → ℕ
point [] = 0
point (b ∷ l) = cond (eqb b 46) 0 (suc (point l))

-- digits, and where there is a point digits behind it too, at most 15 in all: the float nearest to the digits as a whole number divided by a power
-- of ten, with the sign s
unfoldable pub decimal_of : Bool → List ℕ → Option Float
decimal_of s w =
    let p = point w in
    let front = take p w in
    let behind = drop (suc p) w in
    cond (not (eqb p 0) && (not (eqb (suc p) (length w)) && (leb (p + length behind) 15 && (all_digits 10 front && all_digits 10 behind))))
    (Some (round binary64 s (value 10 (value 10 0 front) behind) (10 ^ length behind)))
    None

-- a decimal, negative behind `-`; or minus infinity
unfoldable pub signed_of : List ℕ → Option Float
signed_of w = cond (same w (bytes "-inf")) (Some (inf true)) (cond (eqb (get_or w 0 0) 45) (decimal_of true (drop 1 w)) (decimal_of false w))

-- the first reading, or where it is none the second
abbrev pub first_readable : Option Float → Option Float → Option Float
first_readable (Some x) other = Some x
first_readable None other = other

unfoldable pub float_of : List ℕ → Option Float
float_of w = first_readable (bits_of w) (signed_of w)
