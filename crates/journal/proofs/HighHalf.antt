-- What the high half of a float tells of its range. Assumes nothing.
use Prim.Native.Nat.{ℕ, suc, ◌+◌, ◌-◌, ◌*◌, ◌<◌, ◌≤◌}
use native.Mathlib.Omega.{arith}
use mathlib.Core.Path.{◌≡◌, refl, ap, ◌∙◌}
use mathlib.Core.Bool.{true, false, ◌&&◌}
use lib.Dec.{T, leb, ltb}
use borrow.Author.Tests.{leb-true, ltb-true}
use lib.IntN.{pos}
use lib.Ieee.{Float, fin, binary64, of_bits, round, neg, le}
use lib.Ieee.Bits.{is_true}
use lib.Ieee.Fits.{and_i}
use lib.Ieee.Order.{round_mono}
use lib.Ieee.Scale.{finite}
use Rattle.lists.proofs.Loops.{and_both, or_right}
use Rattle.binary64.specs.Values.{pzero, clear, is_minus_infinity}
use Rattle.binary64.specs.Ranges.{in_range, in_clear_range}
use Rattle.binary64.proofs.Order.{le_trans}
use Rattle.binary64.proofs.Sum.{neg-anti, round-neg}
use Rattle.binary64.proofs.Costs.{clear-le}
use Rattle.binary64.proofs.Patterns.{pattern-le, pattern-clear, pattern-finite, pattern-negated}
use Rattle.journal.specs.Ranges.{intrinsic_ok, raw_log_ok, distance_ok, score_ok, lowest_score}
use Rattle.journal.specs.Record.{read_float}

range : (low high x : Float) → T (le low x) → T (le x high) → T (in_range low high x)
unfolding in_range
range low high x a b = and_i (le low x) (le x high) a b

-- what the test of a negative float's high half tells
pub record Above (h b : ℕ) : Type 0 where
  pub set : 0x80000000 ≤ h
  pub below : h < b

pub above : (h b : ℕ) → leb 0x80000000 h && ltb h b ≡ true → Above h b
above h b e =
    let t = and_both (leb 0x80000000 h) (ltb h b) e in
    record { set = leb-true 0x80000000 h t.0; below = ltb-true h b t.1 }

-- the float whose high half is b and whose low half is 0
abbrev half_float : ℕ → Float
half_float b = of_bits binary64 (b * 4294967296)

-- ---- the sign bit clear

module _ (h l : ℕ) (l-fits : l < 4294967296) where
  half-clear : h < 0x7ff00000 → T (clear (read_float h l))
  half-clear a = pattern-clear binary64 (h * 4294967296 + l) (omega arith)

  half-below : (b : ℕ) → h < b → b < 0x7ff00000 → T (le (read_float h l) (half_float b))
  half-below b a f = pattern-le binary64 (h * 4294967296 + l) (b * 4294967296) (omega arith) (omega arith)

  pub intrinsic-half : h < 0x3ff00000 → intrinsic_ok (read_float h l) ≡ true
  unfolding intrinsic_ok in_clear_range of_bits
  intrinsic-half a =
      let x = read_float h l in
      let c = half-clear (omega arith) in
      is_true _ (and_i (in_range pzero (fin false 1 (pos 0)) x) (clear x) (range pzero (fin false 1 (pos 0)) x (clear-le x c) (half-below 0x3ff00000 a (omega arith))) c)

  pub distance-half : h < 0x41700000 → distance_ok (read_float h l) ≡ true
  unfolding distance_ok of_bits le
  distance-half a =
      let x = read_float h l in
      is_true _ (range pzero (fin false 628125 (pos 5)) x (clear-le x (half-clear (omega arith))) (le_trans x (half_float 0x41700000) (fin false 628125 (pos 5)) (half-below 0x41700000 a (omega arith)) tt))

-- ---- the lowest scores

power : half_float 0x42a00000 ≡ round binary64 false 8796093022208 1
unfolding of_bits round
power = refl

-- every row's lowest score is below -(2 ^ 43)
lowest-below : (row : ℕ) → T (le (lowest_score row) (neg (half_float 0x42a00000)))
unfolding lowest_score
lowest-below row = rw (round-neg binary64 (10_000_000_000_000 * suc row) 1) (neg-anti (half_float 0x42a00000) (round binary64 false (10_000_000_000_000 * suc row) 1) (rw power (round_mono binary64 8796093022208 1 (10_000_000_000_000 * suc row) 1 (omega arith) (omega arith) (omega arith))))

-- ---- the sign bit set

module _ (h l : ℕ) (l-fits : l < 4294967296) (set : 0x80000000 ≤ h) where
  half-negated : h < 0xfff00000 → read_float h l ≡ neg (read_float (h - 0x80000000) l)
  half-negated a =
      let e : h * 4294967296 + l ≡ 0x8000000000000000 + ((h - 0x80000000) * 4294967296 + l) = omega arith in
      ap (of_bits binary64) e ∙ pattern-negated binary64 ((h - 0x80000000) * 4294967296 + l) (omega arith)

  half-above : (b : ℕ) → h < 0x80000000 + b → b < 0x7ff00000 → T (le (neg (half_float b)) (read_float h l))
  half-above b a f = rw (half-negated (omega arith)) (neg-anti (read_float (h - 0x80000000) l) (half_float b) (half-below (h - 0x80000000) l l-fits b (omega arith) f))

  half-under-zero : h < 0xfff00000 → T (le (read_float h l) pzero)
  unfolding neg le
  half-under-zero a =
      let x = read_float (h - 0x80000000) l in
      rw (half-negated a) (le_trans (neg x) (neg pzero) pzero (neg-anti pzero x (clear-le x (half-clear (h - 0x80000000) l l-fits (omega arith)))) tt)

  -- in a range that begins below the float with high half b and low half 0, negated, and ends at 0
  half-range : (low : Float) (b : ℕ) → h < 0x80000000 + b → b < 0x7ff00000 → T (le low (neg (half_float b))) → T (in_range low pzero (read_float h l))
  half-range low b a f d = range low pzero (read_float h l) (le_trans low (neg (half_float b)) (read_float h l) d (half-above b a f)) (half-under-zero (omega arith))

  pub raw-log-half : h < 0xc0800000 → raw_log_ok (read_float h l) ≡ true
  unfolding raw_log_ok of_bits neg le
  raw-log-half a = rw (is_true (in_range (fin true 745 (pos 0)) pzero (read_float h l)) (half-range (fin true 745 (pos 0)) 0x40800000 a (omega arith) tt)) (or_right (is_minus_infinity (read_float h l)))

  pub score-half : (row : ℕ) → h < 0xc2a00000 → score_ok row (read_float h l) ≡ true
  unfolding score_ok
  score-half row a = rw (is_true (in_range (lowest_score row) pzero (read_float h l)) (half-range (lowest_score row) 0x42a00000 a (omega arith) (lowest-below row))) (or_right (is_minus_infinity (read_float h l)))

  pub finite-half : h < 0xfff00000 → finite (read_float h l) ≡ true
  finite-half a =
      let e : h * 4294967296 + l ≡ 0x8000000000000000 + ((h - 0x80000000) * 4294967296 + l) = omega arith in
      is_true _ (rw e (pattern-finite binary64 true ((h - 0x80000000) * 4294967296 + l) (omega arith)))
