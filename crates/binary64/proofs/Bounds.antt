-- Bounds by whole numbers. Where x and w are at most whole numbers, their rounded sum is at most those numbers' sum, rounded: `upper`, `lower`; and up to 2 ^ prec nothing is rounded there: `upper-whole`, `lower-whole`.
-- A whole number past 2 ^ prec that a format holds is q * 2 ^ j: `scaled`. Assumes nothing.
use mathlib.Core.Path.{◌≡◌, refl, sym, ap, ◌∙◌, subst}
use Prim.Native.Nat.{ℕ, suc, ◌+◌, ◌*◌, ◌^◌, ◌≤◌, ◌<◌}
use native.Mathlib.Nat.{mul-pos, mul-one, mul_assoc, mul_comm, mul-lt-mul_of_pos_right, zero-lt-suc}
use native.Mathlib.Omega.{arith}
use mathlib.Core.Bool.{Bool, true, false, not, true≢false, false≢true}
use lib.Dec.{T}
use lib.IntN.{pos}
use lib.Pow.{pow-add, pow_pos}
use lib.Ieee.{Float, nan, inf, fin, Format, prec, emax, low, up, down, round, sum, add, of_int, le, is_nan}
use lib.Ieee.Fits.{down_pos}
use lib.Ieee.Exact.{HasValue, round_exact}
use lib.Ieee.Back.{round_whole}
use lib.Ieee.Scale.{finite, round_same}
use Rattle.binary64.specs.Values.{clear, pzero, of_whole}
use Rattle.binary64.proofs.Sum.{finite-sum-number, add-mono}
use Rattle.binary64.proofs.Costs.{clear-le}

-- ---- the sum of two values of one sign, by the fractions that they equal
fractions : (X g Y h a c b d : ℕ) → X * c ≡ a * g → Y * d ≡ b * h → (X * h + Y * g) * (c * d) ≡ (a * d + b * c) * (g * h)
fractions X g Y h a c b d p q = omega (arith, ap (λ (z : ℕ). z * (h * d)) p, ap (λ (z : ℕ). z * (g * c)) q)

pub add_at : (f : Format) (x y : Float) (s : Bool) (a c b d : ℕ) → 0 < c → 0 < d → HasValue x s a c → HasValue y s b d → add f x y ≡ round f s (a * d + b * c) (c * d)
unfolding add sum
add_at f nan y s a c b d C D p q = absurd p
add_at f (inf t) y s a c b d C D p q = absurd p
add_at f (fin t m e) nan s a c b d C D p q = absurd q
add_at f (fin t m e) (inf u) s a c b d C D p q = absurd q
add_at f (fin true m e) (fin u n k) false a c b d C D p q = absurd (true≢false p.0)
add_at f (fin false m e) (fin u n k) true a c b d C D p q = absurd (false≢true p.0)
add_at f (fin true m e) (fin false n k) true a c b d C D p q = absurd (false≢true q.0)
add_at f (fin false m e) (fin true n k) false a c b d C D p q = absurd (true≢false q.0)
add_at f (fin true m e) (fin true n k) true a c b d C D p q =
    round_same f true (m * up e * down k + n * up k * down e) (down e * down k) (a * d + b * c) (c * d) (mul-pos (down_pos e) (down_pos k)) (mul-pos C D)
    (fractions (m * up e) (down e) (n * up k) (down k) a c b d p.1 q.1)
add_at f (fin false m e) (fin false n k) false a c b d C D p q =
    round_same f false (m * up e * down k + n * up k * down e) (down e * down k) (a * d + b * c) (c * d) (mul-pos (down_pos e) (down_pos k)) (mul-pos C D)
    (fractions (m * up e) (down e) (n * up k) (down k) a c b d p.1 q.1)

ones : (a b : ℕ) → a * 1 + b * 1 ≡ a + b
ones a b = omega arith

pub add-whole : (f : Format) (x y : Float) (s : Bool) (a b : ℕ) → HasValue x s a 1 → HasValue y s b 1 → add f x y ≡ round f s (a + b) 1
add-whole f x y s a b p q = add_at f x y s a 1 b 1 (zero-lt-suc 0) (zero-lt-suc 0) p q ∙ ap (λ (z : ℕ). round f s z 1) (ones a b)

-- ---- the bounds
value-finite : (x : Float) (s : Bool) (a c : ℕ) → HasValue x s a c → T (finite x)
value-finite nan s a c p = absurd p
value-finite (inf t) s a c p = absurd p
value-finite (fin t m e) s a c p = tt

pub upper : (f : Format) (x w X W : Float) (s : Bool) (a b : ℕ) → T (not (is_nan (add f x w))) → HasValue X s a 1 → HasValue W s b 1 → T (le x X) → T (le w W) → T (le (add f x w) (round f s (a + b) 1))
upper f x w X W s a b n p q h k =
    subst (λ (v : Float). T (le (add f x w) v)) (add-whole f X W s a b p q)
    (add-mono f x X w W n (finite-sum-number f X W (value-finite X s a 1 p) (value-finite W s b 1 q)) h k)

pub lower : (f : Format) (x w X W : Float) (s : Bool) (a b : ℕ) → T (not (is_nan (add f x w))) → HasValue X s a 1 → HasValue W s b 1 → T (le X x) → T (le W w) → T (le (round f s (a + b) 1) (add f x w))
lower f x w X W s a b n p q h k =
    subst (λ (v : Float). T (le v (add f x w))) (add-whole f X W s a b p q)
    (add-mono f X x W w (finite-sum-number f X W (value-finite X s a 1 p) (value-finite W s b 1 q)) n h k)

-- ---- whole numbers that the format holds
pub whole-finite : (f : Format) (s : Bool) (n : ℕ) → n ≤ 2 ^ prec f → T (finite (of_whole f s n))
whole-finite f s n h = value-finite (of_whole f s n) s n 1 (round_whole f s n h)

left-part : (a b P : ℕ) → a + b ≤ P → a ≤ P
left-part a b P h = omega arith

right-part : (a b P : ℕ) → a + b ≤ P → b ≤ P
right-part a b P h = omega arith

pub upper-whole : (f : Format) (x w : Float) (s : Bool) (a b : ℕ) → a + b ≤ 2 ^ prec f → T (not (is_nan (add f x w))) → T (le x (of_whole f s a)) → T (le w (of_whole f s b)) → T (le (add f x w) (of_whole f s (a + b)))
upper-whole f x w s a b r n h k =
    upper f x w (of_whole f s a) (of_whole f s b) s a b n (round_whole f s a (left-part a b (2 ^ prec f) r)) (round_whole f s b (right-part a b (2 ^ prec f) r)) h k

pub lower-whole : (f : Format) (x w : Float) (s : Bool) (a b : ℕ) → a + b ≤ 2 ^ prec f → T (not (is_nan (add f x w))) → T (le (of_whole f s a) x) → T (le (of_whole f s b) w) → T (le (of_whole f s (a + b)) (add f x w))
lower-whole f x w s a b r n h k =
    lower f x w (of_whole f s a) (of_whole f s b) s a b n (round_whole f s a (left-part a b (2 ^ prec f) r)) (round_whole f s b (right-part a b (2 ^ prec f) r)) h k

-- `of_int` of a number that is not negative
pub whole_is : (f : Format) (n : ℕ) → of_int f (pos n) ≡ of_whole f false n
unfolding of_int
whole_is f n = refl

pub scaled : (f : Format) (s : Bool) (q j : ℕ) → q < 2 ^ prec f → q * 2 ^ j < 2 ^ suc (emax f) → HasValue (of_whole f s (q * 2 ^ j)) s (q * 2 ^ j) 1
scaled f s q j h k =
    let l = low f in
    let same : q * 2 ^ j * 2 ^ l ≡ q * 2 ^ (j + l) * 1 = mul_assoc q (2 ^ j) (2 ^ l) ∙ ap (λ (x : ℕ). q * x) (sym (pow-add 2 j l)) ∙ sym (mul-one (q * 2 ^ (j + l))) in
    let far : 2 ^ suc (emax f) * 2 ^ l ≡ 2 ^ (l + suc (emax f)) = mul_comm (2 ^ suc (emax f)) (2 ^ l) ∙ sym (pow-add 2 l (suc (emax f))) in
    let below : q * 2 ^ (j + l) < 2 ^ (l + suc (emax f)) = rw (← mul-one (q * 2 ^ (j + l)), ← same, ← far) (mul-lt-mul_of_pos_right k (pow_pos l)) in
    round_exact f s (q * 2 ^ j) 1 q (j + l) (zero-lt-suc 0) h below same

-- ---- between two finite bounds a value is finite
pub between-finite : (A x B : Float) → T (finite A) → T (finite B) → T (le A x) → T (le x B) → T (finite x)
between-finite A nan B p q h k = absurd (unfold le in k)
between-finite nan (inf s) B p q h k = absurd p
between-finite (inf t) (inf s) B p q h k = absurd p
between-finite (fin t m e) (inf true) B p q h k = absurd (unfold le in h)
between-finite (fin t m e) (inf false) nan p q h k = absurd q
between-finite (fin t m e) (inf false) (inf u) p q h k = absurd q
between-finite (fin t m e) (inf false) (fin u n d) p q h k = absurd (unfold le in k)
between-finite A (fin s m e) B p q h k = tt

-- so is a cost under one
pub clear-finite : (x B : Float) → T (clear x) → T (finite B) → T (le x B) → T (finite x)
clear-finite x B p q h = between-finite pzero x B tt q (clear-le x p) h
