-- The rounded sum keeps the order, in either format and for any signs: `add-mono-left`, `add-mono-right`, `add-mono`. It asks only that the sums are no NaN,
-- that is, that no NaN and no pair of opposite infinities is added. And the sum commutes, `add_comm`.
-- A finite sum is `Rounded`: it is a fraction k / c that `round` was handed, with a sign, and k is the difference of what counts up and what counts down. Assumes nothing.
use mathlib.Core.Path.{◌≡◌, refl, sym, ap, ◌∙◌}
use mathlib.Core.Logic.{◌⊎◌, inl, inr}
use Prim.Native.Nat.{ℕ, zero, suc, ◌+◌, ◌-◌, ◌*◌, ◌^◌, ◌≤◌, ◌<◌}
use native.Mathlib.Nat.{zero-mul, mul_comm, mul-pos, mul-le-mul_right, eq_of_mul-eq-mul_right, add_comm as plus_comm}
use native.Mathlib.Omega.{arith}
use mathlib.Core.Bool.{Bool, true, false, not, ◌&&◌, cond, true≢false, false≢true}
use lib.Dec.{T, T_not, ltb, ltb→lt, nltb→le}
use lib.Pow.{pow_pos}
use lib.Ieee.{Float, nan, inf, fin, Format, prec, emax, low, up, down, odd, units, round, neg, sum, add, le, is_nan}
use lib.Ieee.Exact.{HasValue, round_exact}
use lib.Ieee.Order.{round_mono}
use lib.Ieee.Positive.{den, den_pos}
use lib.Ieee.Scale.{finite}
use Rattle.binary64.specs.Values.{clear}
use Rattle.binary64.proofs.Order.{pl, mi, plus, minus, Cross, pl-mul, mi-mul, le→cross, cross→le, le_right, le_refl, le_trans, lowest, highest}

-- ---- what `round f s` makes
pub odd-neg : (d q k l : ℕ) → odd d true q k l ≡ neg (odd d false q k l)
unfolding odd neg
odd-neg d zero k l = refl
odd-neg d (suc q) k l = refl

odd-clear : (d q k l : ℕ) → T (clear (odd d false q k l))
unfolding odd
odd-clear d zero k l = tt
odd-clear d (suc q) k l = tt

units-neg : (f : Format) (q k : ℕ) → units f true q k ≡ neg (units f false q k)
unfolding units neg
units-neg f q k = go (ltb (q * 2 ^ k) (2 ^ (low f + suc (emax f))))
  where
    go : (b : Bool) → cond b (odd (suc (prec f)) true q k (low f)) (inf true) ≡ neg (cond b (odd (suc (prec f)) false q k (low f)) (inf false))
    go true = odd-neg (suc (prec f)) q k (low f)
    go false = refl

units-clear : (f : Format) (q k : ℕ) → T (clear (units f false q k))
unfolding units
units-clear f q k = go (ltb (q * 2 ^ k) (2 ^ (low f + suc (emax f))))
  where
    go : (b : Bool) → T (clear (cond b (odd (suc (prec f)) false q k (low f)) (inf false)))
    go true = odd-clear (suc (prec f)) q k (low f)
    go false = tt

pub round-neg : (f : Format) (a c : ℕ) → round f true a c ≡ neg (round f false a c)
unfolding round
round-neg f a c = units-neg f _ _

pub round-clear : (f : Format) (a c : ℕ) → T (clear (round f false a c))
unfolding round
round-clear f a c = units-clear f _ _

pub round-zero : (f : Format) (s : Bool) (c : ℕ) → 0 < c → HasValue (round f s 0 c) s 0 c
round-zero f s c C = round_exact f s 0 c 0 0 C (pow_pos (prec f)) (pow_pos (low f + suc (emax f))) (zero-mul (2 ^ low f) ∙ sym (zero-mul c))

-- ---- the order among them
pl-not : (s : Bool) (a : ℕ) → pl (not s) a ≡ mi s a
pl-not true a = refl
pl-not false a = refl

mi-not : (s : Bool) (a : ℕ) → mi (not s) a ≡ pl s a
mi-not true a = refl
mi-not false a = refl

turned : (P N D Q M E : ℕ) → Cross P N D Q M E → Cross M Q E N P D
turned P N D Q M E h = omega arith

pub neg-anti : (x y : Float) → T (le x y) → T (le (neg y) (neg x))
unfolding le neg
neg-anti nan y h = absurd h
neg-anti (inf s) nan h = absurd h
neg-anti (inf true) (inf true) h = tt
neg-anti (inf true) (inf false) h = tt
neg-anti (inf false) (inf true) h = absurd h
neg-anti (inf false) (inf false) h = tt
neg-anti (inf true) (fin t n d) h = tt
neg-anti (inf false) (fin t n d) h = absurd h
neg-anti (fin s m e) nan h = absurd h
neg-anti (fin s m e) (inf true) h = absurd h
neg-anti (fin s m e) (inf false) h = tt
neg-anti (fin s m e) (fin t n d) h =
    let x = fin s m e in
    let y = fin t n d in
    cross→le (fin (not t) n d) (fin (not s) m e) tt tt
    (rw (pl-not s (m * up e), mi-not s (m * up e), pl-not t (n * up d), mi-not t (n * up d))
    (turned (plus x) (minus x) (den x) (plus y) (minus y) (den y) (le→cross x y tt tt h)))

neg-le-clear : (x y : Float) → T (clear x) → T (clear y) → T (le (neg x) y)
unfolding le neg
neg-le-clear nan y p q = absurd p
neg-le-clear (inf true) y p q = absurd p
neg-le-clear (inf false) nan p q = absurd q
neg-le-clear (inf false) (inf true) p q = absurd q
neg-le-clear (inf false) (inf false) p q = tt
neg-le-clear (inf false) (fin t n d) p q = tt
neg-le-clear (fin true m e) y p q = absurd p
neg-le-clear (fin false m e) nan p q = absurd q
neg-le-clear (fin false m e) (inf true) p q = absurd q
neg-le-clear (fin false m e) (inf false) p q = tt
neg-le-clear (fin false m e) (fin true n d) p q = absurd q
neg-le-clear (fin false m e) (fin false n d) p q = cross→le (fin true m e) (fin false n d) tt tt (omega arith)

-- a size that is 0 / c
no_size : (a c k : ℕ) → 0 < c → a * c ≡ 0 * k → a ≡ 0
no_size a c k C h = eq_of_mul-eq-mul_right c C a 0 (h ∙ zero-mul k ∙ sym (zero-mul c))

zero-le-zero : (x y : Float) (c d : ℕ) → 0 < c → 0 < d → HasValue x false 0 c → HasValue y true 0 d → T (le x y)
zero-le-zero nan y c d C D p q = absurd p
zero-le-zero (inf s) y c d C D p q = absurd p
zero-le-zero (fin true m e) y c d C D p q = absurd (true≢false p.0)
zero-le-zero (fin false m e) nan c d C D p q = absurd q
zero-le-zero (fin false m e) (inf t) c d C D p q = absurd q
zero-le-zero (fin false m e) (fin false n k) c d C D p q = absurd (false≢true q.0)
zero-le-zero (fin false m e) (fin true n k) c d C D p q =
    cross→le (fin false m e) (fin true n k) tt tt (rw (no_size (m * up e) c (down e) C p.1, no_size (n * up k) d (down k) D q.1) (omega arith))

-- ---- v is (P - N) / c rounded
abbrev pub Rounded : Format → Float → ℕ → ℕ → ℕ → Type 0
Rounded f v P N c = ((k : ℕ) × (P ≡ N + k) × (v ≡ round f false k c)) ⊎ ((k : ℕ) × (N ≡ P + k) × (v ≡ round f true k c))

pub rounded-mono : (f : Format) (v w : Float) (P N c Q M d : ℕ) → 0 < c → 0 < d → Cross P N c Q M d → Rounded f v P N c → Rounded f w Q M d → T (le v w)
rounded-mono f v w P N c Q M d C D h (inl (k, p, e)) (inl (j, q, g)) = rw (e, g) (round_mono f k c j d C D (omega (arith, ap (λ (z : ℕ). z * d) p, ap (λ (z : ℕ). z * c) q)))
rounded-mono f v w P N c Q M d C D h (inr (k, p, e)) (inr (j, q, g)) =
    rw (e, g, round-neg f k c, round-neg f j d)
    (neg-anti (round f false j d) (round f false k c) (round_mono f j d k c D C (omega (arith, ap (λ (z : ℕ). z * d) p, ap (λ (z : ℕ). z * c) q))))
rounded-mono f v w P N c Q M d C D h (inr (k, p, e)) (inl (j, q, g)) = rw (e, g, round-neg f k c) (neg-le-clear (round f false k c) (round f false j d) (round-clear f k c) (round-clear f j d))
rounded-mono f v w P N c Q M d C D h (inl (k, p, e)) (inr (j, q, g)) =
    let x : k * d + j * c ≤ 0 = omega (arith, ap (λ (z : ℕ). z * d) p, ap (λ (z : ℕ). z * c) q) in
    let k0 : k ≡ 0 = no_size k d 0 D (omega arith) in
    let j0 : j ≡ 0 = no_size j c 0 C (omega arith) in
    rw (e, g, k0, j0) (zero-le-zero (round f false 0 c) (round f true 0 d) c d C D (round-zero f false c C) (round-zero f true d D))

-- ---- a finite sum is `Rounded`
sum-rounded : (f : Format) (s : Bool) (a : ℕ) (t : Bool) (b c : ℕ) → Rounded f (sum f s a t b c) (pl s a + pl t b) (mi s a + mi t b) c
unfolding sum
sum-rounded f false a false b c = inl (a + b, omega arith, refl)
sum-rounded f true a true b c = inr (a + b, omega arith, refl)
sum-rounded f false a true b c = go (ltb a b) (ltb→lt a b) (nltb→le a b)
  where
    go : (x : Bool) → (T x → a < b) → (T (not x) → b ≤ a) → Rounded f (cond x (round f true (b - a) c) (round f false (a - b) c)) (a + 0) (0 + b) c
    go true h k = let l : a < b = h tt in inr (b - a, omega arith, refl)
    go false h k = let l : b ≤ a = k tt in inl (a - b, omega arith, refl)
sum-rounded f true a false b c = go (ltb a b) (ltb b a) (ltb→lt a b) (nltb→le a b) (nltb→le b a)
  where
    go : (x y : Bool) → (T x → a < b) → (T (not x) → b ≤ a) → (T (not y) → a ≤ b) → Rounded f (cond x (round f false (b - a) c) (round f (true && y) (a - b) c)) (0 + b) (a + 0) c
    go true y h k l = let g : a < b = h tt in inl (b - a, omega arith, refl)
    go false true h k l = let g : b ≤ a = k tt in inr (a - b, omega arith, refl)
    go false false h k l =
        let g : b ≤ a = k tt in
        let i : a ≤ b = l tt in
        inl (a - b, omega arith, refl)

pub add-rounded : (f : Format) (x y : Float) → T (finite x) → T (finite y)
    → Rounded f (add f x y) (plus x * den y + plus y * den x) (minus x * den y + minus y * den x) (den x * den y)
unfolding add
add-rounded f nan y p q = absurd p
add-rounded f (inf s) y p q = absurd p
add-rounded f (fin s m e) nan p q = absurd q
add-rounded f (fin s m e) (inf t) p q = absurd q
add-rounded f (fin s m e) (fin t n d) p q =
    rw (← pl-mul s (m * up e) (down d), ← mi-mul s (m * up e) (down d), ← pl-mul t (n * up d) (down e), ← mi-mul t (n * up d) (down e))
    (sum-rounded f s (m * up e * down d) t (n * up d * down e) (down e * down d))

-- ---- the sum keeps the order
wider : (P N D Q M E R L G : ℕ) → Cross P N D Q M E → Cross (P * G + R * D) (N * G + L * D) (D * G) (Q * G + R * E) (M * G + L * E) (E * G)
wider P N D Q M E R L G h = omega (arith, mul-le-mul_right (G * G) h)

finite-mono : (f : Format) (x y z : Float) → T (finite x) → T (finite y) → T (finite z) → T (le x y) → T (le (add f x z) (add f y z))
finite-mono f x y z p q r h =
    rounded-mono f (add f x z) (add f y z)
    (plus x * den z + plus z * den x) (minus x * den z + minus z * den x) (den x * den z)
    (plus y * den z + plus z * den y) (minus y * den z + minus z * den y) (den y * den z)
    (mul-pos (den_pos x) (den_pos z)) (mul-pos (den_pos y) (den_pos z))
    (wider (plus x) (minus x) (den x) (plus y) (minus y) (den y) (plus z) (minus z) (den z) (le→cross x y p q h))
    (add-rounded f x z p r) (add-rounded f y z q r)

pub add-mono-left : (f : Format) (x y z : Float) → T (not (is_nan (add f x z))) → T (not (is_nan (add f y z))) → T (le x y) → T (le (add f x z) (add f y z))
unfolding add le is_nan
add-mono-left f nan y z p q h = absurd h
add-mono-left f (inf true) nan z p q h = absurd h
add-mono-left f (inf true) (inf true) z p q h = le_refl (add f (inf true) z) p
add-mono-left f (inf true) (inf false) nan p q h = absurd p
add-mono-left f (inf true) (inf false) (inf true) p q h = absurd q
add-mono-left f (inf true) (inf false) (inf false) p q h = absurd p
add-mono-left f (inf true) (inf false) (fin u l g) p q h = tt
add-mono-left f (inf true) (fin t n d) nan p q h = absurd p
add-mono-left f (inf true) (fin t n d) (inf true) p q h = tt
add-mono-left f (inf true) (fin t n d) (inf false) p q h = absurd p
add-mono-left f (inf true) (fin t n d) (fin u l g) p q h = lowest (add f (fin t n d) (fin u l g)) q
add-mono-left f (inf false) nan z p q h = absurd h
add-mono-left f (inf false) (inf true) z p q h = absurd h
add-mono-left f (inf false) (inf false) z p q h = le_refl (add f (inf false) z) p
add-mono-left f (inf false) (fin t n d) z p q h = absurd h
add-mono-left f (fin s m e) nan z p q h = absurd h
add-mono-left f (fin s m e) (inf true) z p q h = absurd h
add-mono-left f (fin s m e) (inf false) nan p q h = absurd p
add-mono-left f (fin s m e) (inf false) (inf true) p q h = absurd q
add-mono-left f (fin s m e) (inf false) (inf false) p q h = tt
add-mono-left f (fin s m e) (inf false) (fin u l g) p q h = highest (add f (fin s m e) (fin u l g)) p
add-mono-left f (fin s m e) (fin t n d) nan p q h = absurd p
add-mono-left f (fin s m e) (fin t n d) (inf true) p q h = tt
add-mono-left f (fin s m e) (fin t n d) (inf false) p q h = tt
add-mono-left f (fin s m e) (fin t n d) (fin u l g) p q h = finite-mono f (fin s m e) (fin t n d) (fin u l g) tt tt tt h

-- ---- the sum commutes
mixed-comm : (f : Format) (a b c : ℕ) → sum f false a true b c ≡ sum f true b false a c
unfolding sum
mixed-comm f a b c = go (ltb a b) (ltb b a) (ltb→lt a b) (nltb→le a b) (ltb→lt b a) (nltb→le b a)
  where
    go : (x y : Bool) → (T x → a < b) → (T (not x) → b ≤ a) → (T y → b < a) → (T (not y) → a ≤ b)
        → cond x (round f true (b - a) c) (round f false (a - b) c) ≡ cond y (round f false (a - b) c) (round f x (b - a) c)
    go true true h h' k k' = absurd (both a b (h tt) (k tt))
      where
        both : (a b : ℕ) → a < b → b < a → ⊥
        both a b g l = omega arith
    go true false h h' k k' = refl
    go false true h h' k k' = refl
    go false false h h' k k' = ap (λ (z : ℕ). round f false z c) (level (h' tt) (k' tt))
      where
        level : b ≤ a → a ≤ b → a - b ≡ b - a
        level g l = omega arith

sum_comm : (f : Format) (s : Bool) (a : ℕ) (t : Bool) (b c : ℕ) → sum f s a t b c ≡ sum f t b s a c
unfolding sum
sum_comm f false a false b c = ap (λ (z : ℕ). round f false z c) (plus_comm a b)
sum_comm f true a true b c = ap (λ (z : ℕ). round f true z c) (plus_comm a b)
sum_comm f false a true b c = mixed-comm f a b c
sum_comm f true a false b c = sym (mixed-comm f b a c)

pub add_comm : (f : Format) (x y : Float) → add f x y ≡ add f y x
unfolding add
add_comm f nan nan = refl
add_comm f nan (inf t) = refl
add_comm f nan (fin t n d) = refl
add_comm f (inf s) nan = refl
add_comm f (inf true) (inf true) = refl
add_comm f (inf true) (inf false) = refl
add_comm f (inf false) (inf true) = refl
add_comm f (inf false) (inf false) = refl
add_comm f (inf s) (fin t n d) = refl
add_comm f (fin s m e) nan = refl
add_comm f (fin s m e) (inf t) = refl
add_comm f (fin s m e) (fin t n d) =
    sum_comm f s (m * up e * down d) t (n * up d * down e) (down e * down d)
    ∙ ap (λ (z : ℕ). sum f t (n * up d * down e) s (m * up e * down d) z) (mul_comm (down e) (down d))

-- ---- the order, in the other argument
pub add-mono-right : (f : Format) (x y z : Float) → T (not (is_nan (add f z x))) → T (not (is_nan (add f z y))) → T (le x y) → T (le (add f z x) (add f z y))
add-mono-right f x y z p q h =
    rw (add_comm f z x, add_comm f z y) (add-mono-left f x y z (rw (add_comm f z x) at p) (rw (add_comm f z y) at q) h)

-- ---- which sums are no NaN
pub clear-number : (x : Float) → T (clear x) → T (not (is_nan x))
unfolding is_nan
clear-number nan p = absurd p
clear-number (inf s) p = tt
clear-number (fin s m e) p = tt

neg-number : (x : Float) → T (not (is_nan x)) → T (not (is_nan (neg x)))
unfolding is_nan neg
neg-number nan p = absurd p
neg-number (inf s) p = tt
neg-number (fin s m e) p = tt

round_number : (f : Format) (s : Bool) (a c : ℕ) → T (not (is_nan (round f s a c)))
round_number f false a c = clear-number (round f false a c) (round-clear f a c)
round_number f true a c = rw (round-neg f a c) (neg-number (round f false a c) (clear-number (round f false a c) (round-clear f a c)))

rounded-number : (f : Format) (v : Float) (P N c : ℕ) → Rounded f v P N c → T (not (is_nan v))
rounded-number f v P N c (inl (k, p, e)) = rw e (round_number f false k c)
rounded-number f v P N c (inr (k, p, e)) = rw e (round_number f true k c)

pub finite-sum-number : (f : Format) (x y : Float) → T (finite x) → T (finite y) → T (not (is_nan (add f x y)))
finite-sum-number f x y p q = rounded-number f (add f x y) (plus x * den y + plus y * den x) (minus x * den y + minus y * den x) (den x * den y) (add-rounded f x y p q)

-- ---- the order, in both arguments
-- a sum with -inf is -inf, if it is a number at all
low_sum : (f : Format) (x : Float) → T (not (is_nan (add f x (inf true)))) → add f x (inf true) ≡ inf true
unfolding add is_nan
low_sum f nan p = absurd p
low_sum f (inf true) p = refl
low_sum f (inf false) p = absurd p
low_sum f (fin s m e) p = refl

-- either y + z is a number too, or it is +inf + -inf
between : (f : Format) (x y z w : Float) → T (not (is_nan (add f x z))) → T (not (is_nan (add f y w))) → T (le x y) → T (le z w) → T (not (is_nan (add f y z))) ⊎ T (le (add f x z) (add f y w))
unfolding add le is_nan
between f x nan z w p q h k = absurd (T_not (is_nan nan) (le_right x nan h) tt)
between f x (inf s) nan w p q h k = absurd k
between f x (inf true) (inf true) w p q h k = inl tt
between f x (inf true) (inf false) nan p q h k = absurd k
between f x (inf true) (inf false) (inf true) p q h k = absurd k
between f x (inf true) (inf false) (inf false) p q h k = absurd q
between f x (inf true) (inf false) (fin u l g) p q h k = absurd k
between f x (inf false) (inf true) w p q h k = inr (rw (low_sum f x p) (lowest (add f (inf false) w) q))
between f x (inf false) (inf false) w p q h k = inl tt
between f x (inf s) (fin u l g) w p q h k = inl tt
between f x (fin t n d) nan w p q h k = absurd k
between f x (fin t n d) (inf u) w p q h k = inl tt
between f x (fin t n d) (fin u l g) w p q h k = inl (finite-sum-number f (fin t n d) (fin u l g) tt tt)

pub add-mono : (f : Format) (x y z w : Float) → T (not (is_nan (add f x z))) → T (not (is_nan (add f y w))) → T (le x y) → T (le z w) → T (le (add f x z) (add f y w))
add-mono f x y z w p q h k = elim (between f x y z w p q h k) [
  | inl r ↦ le_trans (add f x z) (add f y z) (add f y w) (add-mono-left f x y z p r h) (add-mono-right f z w y r q k)
  | inr g ↦ g
]
