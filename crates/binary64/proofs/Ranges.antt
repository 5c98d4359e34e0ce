-- What a range test tells: the order on both sides, that the value is no NaN, and finite between finite ends. And what the sign bit tells. Assumes nothing.
use mathlib.Core.Path.{◌≡◌, refl}
use mathlib.Core.Bool.{true, false, not}
use Prim.Native.Nat.{ℕ, zero, suc, ◌^◌, ◌<◌, ◌≤◌}
use native.Mathlib.Omega.{arith}
use lib.Dec.{T, ltb}
use lib.IntN.{ℤ}
use lib.Ieee.{Float, nan, inf, fin, binary64, eq, le, lt, is_nan, fits, to_bits}
use lib.Ieee.Bits.{to_bits-lt}
use lib.Ieee.Fits.{and_l, and_r}
use lib.Ieee.Scale.{finite}
use borrow.Author.Tests.{lt-ltb, le-ltb}
use Rattle.binary64.specs.Values.{clear, is_minus_infinity}
use Rattle.binary64.specs.Ranges.{in_range, in_clear_range, in_open_range}
use Rattle.binary64.proofs.Order.{le_right, taken}
use Rattle.binary64.proofs.Bounds.{between-finite}

module _ (low high x : Float) where
  pub range-low : T (in_range low high x) → T (le low x)
  unfolding in_range
  range-low h = and_l (le low x) (le x high) h

  pub range-high : T (in_range low high x) → T (le x high)
  unfolding in_range
  range-high h = and_r (le low x) (le x high) h

  pub range-number : in_range low high x ≡ true → T (not (is_nan x))
  range-number e = le_right low x (range-low (taken e))

  pub range-finite : T (finite low) → T (finite high) → T (in_range low high x) → T (finite x)
  range-finite p q h = between-finite low x high p q (range-low h) (range-high h)

  pub clear-range-range : T (in_clear_range low high x) → T (in_range low high x)
  unfolding in_clear_range
  clear-range-range h = and_l (in_range low high x) (clear x) h

  pub clear-range-clear : T (in_clear_range low high x) → T (clear x)
  unfolding in_clear_range
  clear-range-clear h = and_r (in_range low high x) (clear x) h

  pub open-range-low : T (in_open_range low high x) → T (le low x)
  unfolding in_open_range
  open-range-low h = and_l (le low x) (lt x high) h

  pub open-range-high : T (in_open_range low high x) → T (lt x high)
  unfolding in_open_range
  open-range-high h = and_r (le low x) (lt x high) h

-- ---- the sign bit

-- the bits below the sign are the same whatever the sign
below-sign : (m : ℕ) (e : ℤ) → T (fits binary64 (fin true m e)) → to_bits binary64 (fin false m e) < 2 ^ 63
unfolding to_bits
below-sign m e f = omega (arith, to_bits-lt binary64 (fin true m e) f)

sign_set : (m : ℕ) (e : ℤ) → 2 ^ 63 ≤ to_bits binary64 (fin true m e)
unfolding to_bits
sign_set m e = omega arith

fits_negative : (m : ℕ) (e : ℤ) → T (fits binary64 (fin false m e)) → T (fits binary64 (fin true m e))
unfolding fits
fits_negative zero e f = f
fits_negative (suc m) e f = f

pub sign_bit : (x : Float) → T (fits binary64 x) → T (not (is_nan x)) → ltb (to_bits binary64 x) 0x8000000000000000 ≡ clear x
unfolding is_nan
sign_bit nan f n = absurd n
sign_bit (inf true) f n = unfold to_bits in refl
sign_bit (inf false) f n = unfold to_bits in refl
sign_bit (fin true m e) f n = le-ltb _ _ (sign_set m e)
sign_bit (fin false m e) f n = lt-ltb _ _ (below-sign m e (fits_negative m e f))

-- ---- minus infinity

pub minus-infinity-eq : (x : Float) → eq x (inf true) ≡ is_minus_infinity x
unfolding eq
minus-infinity-eq nan = refl
minus-infinity-eq (inf true) = refl
minus-infinity-eq (inf false) = refl
minus-infinity-eq (fin s m e) = refl
