-- The product of two whole values, and the lowest score as one. Assumes nothing.
use Prim.Native.Nat.{ℕ, ◌+◌, ◌*◌, ◌≤◌}
use native.Mathlib.Omega.{arith}
use native.Mathlib.Nat.{mul-pos, zero-lt-suc}
use native.Mathlib.Numerals.{add-one}
use mathlib.Core.Path.{◌≡◌, refl, ap, ◌∙◌}
use mathlib.Core.Bool.{true, false, true≢false, false≢true}
use lib.IntN.{pos}
use lib.Ieee.{Float, nan, inf, fin, Format, binary64, up, down, round, mul, neg, of_int, of_bits}
use lib.Ieee.Exact.{HasValue}
use lib.Ieee.Back.{round_whole}
use lib.Ieee.Scale.{round_same}
use lib.Ieee.Fits.{down_pos}
use Rattle.binary64.proofs.Bounds.{whole_is}
use Rattle.journal.specs.Ranges.{lowest_score}

product : (X g Y h a b : ℕ) → X * 1 ≡ a * g → Y * 1 ≡ b * h → X * Y * 1 ≡ a * b * (g * h)
product X g Y h a b p q = let e : X ≡ a * g = omega arith in let d : Y ≡ b * h = omega arith in rw (e, d) (omega arith)

mul-whole : (f : Format) (x y : Float) (a b : ℕ) → HasValue x true a 1 → HasValue y false b 1 → mul f x y ≡ round f true (a * b) 1
unfolding mul
mul-whole f nan y a b p q = absurd p
mul-whole f (inf s) y a b p q = absurd p
mul-whole f (fin s m e) nan a b p q = absurd q
mul-whole f (fin s m e) (inf t) a b p q = absurd q
mul-whole f (fin false m e) (fin t n d) a b p q = absurd (false≢true p.0)
mul-whole f (fin true m e) (fin true n d) a b p q = absurd (true≢false q.0)
mul-whole f (fin true m e) (fin false n d) a b p q =
    round_same f true (m * up e * (n * up d)) (down e * down d) (a * b) 1 (mul-pos (down_pos e) (down_pos d)) (zero-lt-suc 0)
    (product (m * up e) (down e) (n * up d) (down d) a b p.1 q.1)

-- -10^13 * (r + 1), as it is worked out
pub lowest-product : (r : ℕ) → r ≤ 65535 → mul binary64 (neg (of_bits binary64 4801453603149578240)) (of_int binary64 (pos (r + 1))) ≡ lowest_score r
unfolding lowest_score
lowest-product r h =
    let n : HasValue (round binary64 false (r + 1) 1) false (r + 1) 1 = round_whole binary64 false (r + 1) (omega arith) in
    rw (whole_is binary64 (r + 1)) (mul-whole binary64 (neg (of_bits binary64 4801453603149578240)) (round binary64 false (r + 1) 1) 10_000_000_000_000 (r + 1) (unfold neg of_bits in (refl, refl)) n
    ∙ ap (λ (k : ℕ). round binary64 true (10_000_000_000_000 * k) 1) (add-one r))
