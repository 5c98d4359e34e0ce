-- Full turns taken off a value with its sign clear, exactly. Such a value r is num r / den r. Where r has 360 * 2 ^ n it is taken off, for n from 1015 down to 0; the
-- remainder by 360 stays as it is, and what is left at last is below 360, so it is the remainder. Assumes nothing.
use mathlib.Core.Path.{◌≡◌, refl, sym, ap, ap₂, ◌∙◌, subst}
use Prim.Native.Nat.{ℕ, zero, suc, ◌+◌, ◌-◌, ◌*◌, ◌/◌, ◌%◌, ◌^◌, ◌≤◌, ◌<◌}
use native.Mathlib.Nat.{div-add-mod', mod-lt, mod-eq_of_lt, mul-add-mod_self_right, mul-lt-mul_of_pos_right, lt_of_mul-lt-mul_right, mul-pos, mul-one, mul_comm, mul_assoc, mul-sub, pow-succ'}
use native.Mathlib.Omega.{arith}
use mathlib.Core.Bool.{Bool, true, false, not, true≢false}
use lib.IntN.{ℤ, pos}
use lib.Dec.{T, leb, leb→le, nleb→lt, ltb→lt, lt→ltb}
use lib.Pow.{pow-add, pow_pos, pow_mono}
use lib.Ieee.{Float, nan, inf, fin, binary64, up, down, round, sub, rem, div, le, lt, fits, is_nan, of_bits}
use lib.Ieee.Exact.{HasValue, round_exact}
use lib.Ieee.Fits.{down_pos, round-fits}
use lib.Ieee.Positive.{num, den, den_pos}
use lib.Ieee.Scale.{finite, round_same}
use Rattle.std.proofs.lemmas.Nat.{mod-mul-add}
use Rattle.binary64.specs.Values.{clear}
use Rattle.network.specs.Network.{full_turn}
use Rattle.binary64.proofs.Order.{taken, missed, not-le→lt}
use Rattle.binary64.proofs.Same.{Held, held, exponent}
use Rattle.transition.specs.Pair.{magnitude}
use Rattle.transition.proofs.Products.{le→fractions, own-round, div_is}
use Rattle.transition.proofs.Remainders.{rem_is}
use Rattle.transition.proofs.Differences.{greater-first, opened}

-- ---- natural numbers

spread : (q b s k : ℕ) → (q * b + s) * k ≡ q * (b * k) + s * k
spread q b s k = omega arith

-- a factor goes through a remainder
scaled : (n b k : ℕ) → 0 < b → 0 < k → n * k % (b * k) ≡ n % b * k
scaled n b k B K =
    ap (λ (x : ℕ). x * k % (b * k)) (sym (div-add-mod' n b))
    ∙ ap (λ (x : ℕ). x % (b * k)) (spread (n / b) b (n % b) k)
    ∙ mod-mul-add (n / b) (b * k) (n % b * k) (mul-lt-mul_of_pos_right (mod-lt n B) K)

-- a multiple taken off
lessened : (n t b : ℕ) → t * b ≤ n → (n - t * b) % b ≡ n % b
lessened n t b h =
    let e : t * b + (n - t * b) ≡ n = omega arith in
    sym (mul-add-mod_self_right t b (n - t * b)) ∙ ap (λ (x : ℕ). x % b) e

three : (a b c : ℕ) → a * b * c ≡ a * c * b
three a b c = omega arith

-- n' / d' is n / d less t times f: the same remainder by f
same-rest : (f n d n' d' t : ℕ) → 0 < f → 0 < d → 0 < d' → t * (f * d) ≤ n → n' * d ≡ (n - t * (f * d)) * d' → n' % (f * d') * d ≡ n % (f * d) * d'
same-rest f n d n' d' t F D D' h e =
    sym (scaled n' (f * d') d (mul-pos F D') D)
    ∙ ap (λ (x : ℕ). x % (f * d' * d)) e
    ∙ ap (λ (x : ℕ). (n - t * (f * d)) * d' % x) (three f d' d)
    ∙ scaled (n - t * (f * d)) (f * d) d' (mul-pos F D) D'
    ∙ ap (λ (x : ℕ). x * d') (lessened n t (f * d) h)

-- ---- remainders by 360

rem_of : (r : Float) → T (clear r) → T (finite r) → rem binary64 r full_turn ≡ round binary64 false (num r % (360 * den r)) (den r)
rem_of r p q =
    rem_is binary64 r full_turn p q tt
    ∙ ap (λ (x : ℕ). round binary64 false (x % (360 * den r)) (den r * 1)) (mul-one (num r))
    ∙ ap (λ (x : ℕ). round binary64 false (num r % (360 * den r)) x) (mul-one (den r))

rem-less : (r s : Float) (t : ℕ) → T (clear r) → T (finite r) → T (clear s) → T (finite s) → t * (360 * den r) ≤ num r
    → num s * den r ≡ (num r - t * (360 * den r)) * den s → rem binary64 s full_turn ≡ rem binary64 r full_turn
rem-less r s t p q p' q' h e =
    rem_of s p' q'
    ∙ round_same binary64 false (num s % (360 * den s)) (den s) (num r % (360 * den r)) (den r) (den_pos s) (den_pos r)
    (same-rest 360 (num r) (den r) (num s) (den s) t (omega arith) (den_pos r) (den_pos s) h e)
    ∙ sym (rem_of r p q)

rem-own : (r : Float) → T (clear r) → T (finite r) → T (fits binary64 r) → num r < 360 * den r → rem binary64 r full_turn ≡ r
rem-own r p q g h =
    rem_of r p q
    ∙ ap (λ (x : ℕ). round binary64 false x (den r)) (mod-eq_of_lt h)
    ∙ own-round binary64 r p q g

-- ---- the difference is exact

value-read : (v : Float) (a c : ℕ) → HasValue v false a c → T (clear v) × T (finite v) × (num v * c ≡ a * den v)
value-read nan a c h = absurd h
value-read (inf t) a c h = absurd h
value-read (fin true m e) a c h = absurd (true≢false h.0)
value-read (fin false m e) a c h = (tt, tt, h.1)

-- in units of the smallest value m * 2 ^ j less 45 * 2 ^ p, where it is at least that and less than twice that, has no more digits than m
record Short (m j p : ℕ) : Type 0 where
  q : ℕ
  i : ℕ
  few : q < 2 ^ 53
  same : q * 2 ^ i ≡ m * 2 ^ j - 45 * 2 ^ p

taken-out : (a b c : ℕ) → (a - b) * c ≡ a * c - b * c
taken-out a b c = mul_comm (a - b) c ∙ mul-sub c a b ∙ ap₂ ◌-◌ (mul_comm c a) (mul_comm c b)

short-down : (m j i : ℕ) → m < 2 ^ 53 → Short m j (j + i)
short-down m j i h =
    record {
      q = m - 45 * 2 ^ i;
      i = j;
      few = omega arith;
      same = taken-out m (45 * 2 ^ i) (2 ^ j) ∙ ap (λ (x : ℕ). m * 2 ^ j - x) (mul_assoc 45 (2 ^ i) (2 ^ j) ∙ ap (λ (x : ℕ). 45 * x) (mul_comm (2 ^ i) (2 ^ j) ∙ sym (pow-add 2 j i)));
    }

short-up : (m p i : ℕ) → m * 2 ^ (p + i) < 90 * 2 ^ p → Short m (p + i) p
short-up m p i h =
    record {
      q = m * 2 ^ i - 45;
      i = p;
      few = omega (arith, lt_of_mul-lt-mul_right (2 ^ p) below);
      same = taken-out (m * 2 ^ i) 45 (2 ^ p) ∙ ap (λ (x : ℕ). x - 45 * 2 ^ p) split;
    }
  where
    split : m * 2 ^ i * 2 ^ p ≡ m * 2 ^ (p + i)
    split = mul_assoc m (2 ^ i) (2 ^ p) ∙ ap (λ (x : ℕ). m * x) (mul_comm (2 ^ i) (2 ^ p) ∙ sym (pow-add 2 p i))

    below : m * 2 ^ i * 2 ^ p < 90 * 2 ^ p
    below = rw split h

short : (m j p : ℕ) → m < 2 ^ 53 → m * 2 ^ j < 90 * 2 ^ p → Short m j p
short m j p d h = go (leb j p) refl
  where
    go : (b : Bool) → leb j p ≡ b → Short m j p
    go true l =
        let k : j ≤ p = leb→le j p (taken l) in
        let e : j + (p - j) ≡ p = omega arith in
        subst (λ (x : ℕ). Short m j x) e (short-down m j (p - j) d)
    go false l =
        let k : p < j = nleb→lt j p (missed l) in
        let e : p + (j - p) ≡ j = omega arith in
        subst (λ (x : ℕ). Short m x p) e (short-up m p (j - p) (rw e h))

-- 360 * 2 ^ n
abbrev pub turn : ℕ → Float
turn n = fin false 45 (pos (n + 3))

-- a fraction's difference from it, in units
units-of : (m u d j k a : ℕ) → u * a ≡ 2 ^ j * d → (m * u - 45 * 2 ^ k * d) * a ≡ (m * 2 ^ j - 45 * (2 ^ k * a)) * d
units-of m u d j k a h =
    taken-out (m * u) (45 * 2 ^ k * d) a
    ∙ ap₂ ◌-◌ (mul_assoc m u a ∙ ap (λ (x : ℕ). m * x) h ∙ sym (mul_assoc m (2 ^ j) d)) (around (2 ^ k) d a)
    ∙ sym (taken-out (m * 2 ^ j) (45 * (2 ^ k * a)) d)
  where
    around : (x d a : ℕ) → 45 * x * d * a ≡ 45 * (x * a) * d
    around x d a = omega arith

top : (c a d x : ℕ) {w : ℕ} → x < c * d → 0 < a → w ≡ a * c → x * a < w * d
top c a d x h A e = rw e (subst (λ (y : ℕ). x * a < y) (omega arith) (mul-lt-mul_of_pos_right h A))

exact : (m : ℕ) (e : ℤ) (k : ℕ) → Held binary64 m e → m * up e < 90 * 2 ^ k * down e
    → HasValue (round binary64 false (m * up e - 45 * 2 ^ k * down e) (down e)) false (m * up e - 45 * 2 ^ k * down e) (down e)
exact m e k g h = go (exponent e 1074 g.floor).0 (exponent e 1074 g.floor).1
  where
    go : (j : ℕ) → up e * 2 ^ 1074 ≡ 2 ^ j * down e → HasValue (round binary64 false (m * up e - 45 * 2 ^ k * down e) (down e)) false (m * up e - 45 * 2 ^ k * down e) (down e)
    go j b =
        round_exact binary64 false (m * up e - 45 * 2 ^ k * down e) (down e) s.q s.i (down_pos e) s.few
        (at-most (s.q * 2 ^ s.i) (m * 2 ^ j) (45 * 2 ^ (k + 1074)) (2 ^ (1074 + 1024)) s.same (lt_of_mul-lt-mul_right (down e) ceiling))
        (units-of m (up e) (down e) j k (2 ^ 1074) b ∙ ap (λ (x : ℕ). (m * 2 ^ j - 45 * x) * down e) (sym (pow-add 2 k 1074)) ∙ ap (λ (x : ℕ). x * down e) (sym s.same))
      where
        at-most : (x y z w : ℕ) → x ≡ y - z → y < w → x < w
        at-most x y z w p q = omega arith

        moved : m * up e * 2 ^ 1074 ≡ m * 2 ^ j * down e
        moved = mul_assoc m (up e) (2 ^ 1074) ∙ ap (λ (x : ℕ). m * x) b ∙ sym (mul_assoc m (2 ^ j) (down e))

        around : (x d a : ℕ) → 90 * x * d * a ≡ 90 * (x * a) * d
        around x d a = omega arith

        below : m * 2 ^ j * down e < 90 * 2 ^ (k + 1074) * down e
        below = rw (← moved, pow-add 2 k 1074, ← around (2 ^ k) (down e) (2 ^ 1074)) (mul-lt-mul_of_pos_right h (pow_pos 1074))

        ceiling : m * 2 ^ j * down e < 2 ^ (1074 + 1024) * down e
        ceiling = rw (← moved) (top (2 ^ 1024) (2 ^ 1074) (down e) (m * up e) g.ceiling (pow_pos 1074) (pow-add 2 1074 1024))

        s : Short m j (k + 1074)
        s = short m j (k + 1074) g.digits (lt_of_mul-lt-mul_right (down e) below)

-- ---- turn by turn

-- r is x without some full turns, and below twice 360 * 2 ^ n, or 360 * 2 ^ n where n counts the turns that are left
pub record Kept (x r : Float) (n : ℕ) : Type 0 where
  pub clear : T (clear r)
  pub finite : T (finite r)
  pub held : T (fits binary64 r)
  pub small : num r < 45 * 2 ^ (n + 3) * den r
  pub same : rem binary64 r full_turn ≡ rem binary64 x full_turn

nothing-below : (u b : ℕ) → 0 < b → 0 * u < b
nothing-below u b h = omega arith

wider : (x d b : ℕ) {w : ℕ} → w ≡ 32 * b → x < w * d → x < 45 * b * d
wider x d b e h = omega (arith, subst (λ (y : ℕ). x < y * d) e h)

-- all values with their sign clear are below 360 * 2 ^ 1016
pub kept-begin : (x : Float) → T (clear x) → T (finite x) → T (fits binary64 x) → Kept x x 1016
kept-begin nan p q g = absurd q
kept-begin (inf s) p q g = absurd q
kept-begin (fin true m e) p q g = absurd p
kept-begin (fin false zero e) p q g =
    record {
      clear = tt;
      finite = tt;
      held = g;
      small = nothing-below (up e) (45 * 2 ^ 1019 * down e) (mul-pos (mul-pos {m = 45} (omega arith) (pow_pos 1019)) (down_pos e));
      same = refl;
    }
kept-begin (fin false (suc m) e) p q g =
    record {
      clear = tt;
      finite = tt;
      held = g;
      small = wider (suc m * up e) (down e) (2 ^ 1019) (pow-add 2 5 1019) (held binary64 false m e g).ceiling;
      same = refl;
    }

none-under : (u b : ℕ) → 0 < b → b ≤ 0 * u * 1 → ⊥
none-under u b h k = omega arith

doubled : (x d b : ℕ) {w : ℕ} → w ≡ 2 * b → x < 45 * w * d → x < 90 * b * d
doubled x d b e h = omega (arith, subst (λ (y : ℕ). x < 45 * y * d) e h)

eights : (p d : ℕ) {w : ℕ} → w ≡ p * 8 → 45 * w * d ≡ p * (360 * d)
eights p d e = rw e (omega arith)

paired : (b d x : ℕ) → x < 90 * b * d → x < 2 * (45 * b) * d
paired b d x h = omega arith

shrunk : (v d w a t : ℕ) → v * d ≡ (a - t * d) * w → a < 2 * t * d → 0 < w → v < t * w
shrunk v d w a t e h W =
    let less : a - t * d < t * d = omega arith in
    lt_of_mul-lt-mul_right d (rw (e, ← three t d w) (mul-lt-mul_of_pos_right less W))

-- 360 * 2 ^ n taken off
pub kept-less : (x r : Float) (n : ℕ) → Kept x r (suc n) → T (le (turn n) r) → Kept x (sub binary64 r (turn n)) n
kept-less x nan n h l = absurd h.finite
kept-less x (inf s) n h l = absurd h.finite
kept-less x (fin true m e) n h l = absurd h.clear
kept-less x (fin false zero e) n h l = absurd (none-under (up e) (45 * 2 ^ (n + 3) * down e) (mul-pos (mul-pos {m = 45} (omega arith) (pow_pos (n + 3))) (down_pos e)) (le→fractions (turn n) (fin false zero e) tt tt tt tt l))
kept-less x (fin false (suc m) e) n h l =
    subst (λ (v : Float). Kept x v n) (sym whole) (record {
      clear = value.0;
      finite = value.1;
      held = round-fits binary64 false (a - t * d) d;
      small = shrunk (num v) d (den v) a t value.2 (paired (2 ^ (n + 3)) d a high) (den_pos v);
      same = rem-less r v (2 ^ n) tt tt value.0 value.1 (rw (← in-turns) low) (rw (← in-turns) value.2) ∙ h.same;
    })
  where
    r : Float
    r = fin false (suc m) e

    d : ℕ
    d = down e

    a : ℕ
    a = suc m * up e

    t : ℕ
    t = 45 * 2 ^ (n + 3)

    v : Float
    v = round binary64 false (a - t * d) d

    low : t * d ≤ a
    low = rw mul-one at (le→fractions (turn n) r tt tt tt tt l)

    high : a < 90 * 2 ^ (n + 3) * d
    high = let e : suc n + 3 ≡ suc (n + 3) = omega arith in doubled a d (2 ^ (n + 3)) (ap (λ (k : ℕ). 2 ^ k) e ∙ pow-succ' 2 (n + 3)) h.small

    value : T (clear v) × T (finite v) × (num v * d ≡ (a - t * d) * den v)
    value = value-read v (a - t * d) d (exact (suc m) e (n + 3) (held binary64 false m e h.held) high)

    in-turns : t * d ≡ 2 ^ n * (360 * d)
    in-turns = eights (2 ^ n) d (pow-add 2 n 3)

    whole : sub binary64 r (turn n) ≡ v
    whole =
        opened binary64 (suc m) e 45 (pos (n + 3))
        ∙ greater-first binary64 (a * 1) (t * d) (d * 1) (rw mul-one low)
        ∙ ap₂ (λ (x y : ℕ). round binary64 false (x - t * d) y) (mul-one a) (mul-one d)

-- less than that
under : (r : Float) (n : ℕ) → T (clear r) → T (finite r) → T (lt r (turn n)) → num r < 45 * 2 ^ (n + 3) * den r
unfolding lt
under nan n p q l = absurd q
under (inf s) n p q l = absurd q
under (fin true m e) n p q l = absurd p
under (fin false m e) n p q l = rw mul-one at (ltb→lt (m * up e * 1) (45 * 2 ^ (n + 3) * down e) l)

finite-number : (r : Float) → T (finite r) → T (not (is_nan r))
finite-number nan p = absurd p
finite-number (inf s) p = absurd p
finite-number (fin s m e) p = unfold is_nan in tt

pub kept-more : (x r : Float) (n : ℕ) → Kept x r (suc n) → T (not (le (turn n) r)) → Kept x r n
kept-more x r n h l =
    record {
      clear = h.clear;
      finite = h.finite;
      held = h.held;
      small = under r n h.clear h.finite (not-le→lt r (turn n) (finite-number r h.finite) (unfold is_nan in tt) l);
      same = h.same;
    }

pub kept-end : (x r : Float) → Kept x r 0 → r ≡ rem binary64 x full_turn
kept-end x r h = sym (rem-own r h.clear h.finite h.held (omega (arith, h.small))) ∙ h.same

-- 45 * 2 ^ k, halved
fits-turn : (k : ℕ) → k ≤ 1018 → T (fits binary64 (fin false 45 (pos k)))
unfolding fits
fits-turn k h = lt→ltb (45 * 2 ^ k) (2 ^ 1024 * 1) (capped (2 ^ k) (2 ^ 1018) (pow_mono h) (pow_pos 1018) (pow-add 2 6 1018))
  where
    capped : (x y : ℕ) {w : ℕ} → x ≤ y → 0 < y → w ≡ 64 * y → 45 * x < w * 1
    capped x y p q e = omega (arith, p, q, e)

pub turn-half : (k : ℕ) → k ≤ 1017 → div binary64 (fin false 45 (pos (suc k))) (fin false 1 (pos 1)) ≡ fin false 45 (pos k)
turn-half k h =
    div_is binary64 (fin false 45 (pos (suc k))) (fin false 1 (pos 1)) tt tt tt
    ∙ round_same binary64 false (45 * 2 ^ suc k * 1) (1 * 2 ^ 1 * 1) (45 * 2 ^ k) 1 (omega arith) (omega arith) (halved (2 ^ k) (pow-succ' 2 k))
    ∙ own-round binary64 (fin false 45 (pos k)) tt tt (fits-turn k (omega arith))
  where
    halved : (x : ℕ) {w : ℕ} → w ≡ 2 * x → 45 * w * 1 * 1 ≡ 45 * x * (1 * 2 ^ 1 * 1)
    halved x e = rw e (omega arith)

-- the first one, by its bits
pub turn-first : of_bits binary64 0x7fe6_8000_0000_0000 ≡ turn 1015
unfolding of_bits
turn-first = refl

-- ---- what `within_full_turn` answers, by its branches

plain : (x : Float) → magnitude x ≡ x → T (finite x) → T (clear x)
unfolding magnitude
plain nan e p = absurd p
plain (inf s) e p = absurd p
plain (fin true m d) e p = absurd (true≢false (ap clear e))
plain (fin false m d) e p = tt

pub none-left : (x : Float) → finite x ≡ false → of_bits binary64 0x7ff8_0000_0000_0000 ≡ rem binary64 x full_turn
unfolding of_bits rem
none-left nan e = refl
none-left (inf s) e = refl
none-left (fin s m d) e = absurd (true≢false e)

pub own-left : (x : Float) → magnitude x ≡ x → finite x ≡ true → T (fits binary64 x) → lt x (of_bits binary64 0x4076_8000_0000_0000) ≡ true → x ≡ rem binary64 x full_turn
unfolding of_bits
own-left x e p g l = sym (rem-own x (plain x e (taken p)) (taken p) g (under x 0 (plain x e (taken p)) (taken p) (taken l)))

pub turns-begin : (x : Float) → magnitude x ≡ x → finite x ≡ true → T (fits binary64 x) → Kept x x 1016
turns-begin x e p g = kept-begin x (plain x e (taken p)) (taken p) g

-- ---- the i-th turn of the loop, in which 360 * 2 ^ (1015 - i) is looked at

module _ (x r turns : Float) (i : ℕ) (b : i < 1016) (q : turns ≡ fin false 45 (pos (1018 - i))) where
  now : turns ≡ turn (1015 - i)
  now = let e : 1018 - i ≡ 1015 - i + 3 = omega arith in q ∙ ap (λ (k : ℕ). fin false 45 (pos k)) e

  pub turned-half : div binary64 turns (of_bits binary64 0x4000_0000_0000_0000) ≡ fin false 45 (pos (1018 - (i + 1)))
  unfolding of_bits
  turned-half =
      let e : 1018 - i ≡ suc (1017 - i) = omega arith in
      let e' : 1018 - (i + 1) ≡ 1017 - i = omega arith in
      ap (λ (t : Float). div binary64 t (fin false 1 (pos 1))) (q ∙ ap (λ (k : ℕ). fin false 45 (pos k)) e)
      ∙ turn-half (1017 - i) (omega arith)
      ∙ ap (λ (k : ℕ). fin false 45 (pos k)) (sym e')

  module _ (h : Kept x r (1016 - i)) where
    held-on : Kept x r (suc (1015 - i))
    held-on = let e : 1016 - i ≡ suc (1015 - i) = omega arith in subst (λ (k : ℕ). Kept x r k) e h

    after : {s : Float} → Kept x s (1015 - i) → Kept x s (1016 - (i + 1))
    after {s} k = let e : 1015 - i ≡ 1016 - (i + 1) = omega arith in subst (λ (k : ℕ). Kept x s k) e k

    pub turned-less : le turns r ≡ true → Kept x (sub binary64 r turns) (1016 - (i + 1))
    turned-less l = after (subst (λ (t : Float). Kept x (sub binary64 r t) (1015 - i)) (sym now) (kept-less x r (1015 - i) held-on (subst (λ (t : Float). T (le t r)) now (taken l))))

    pub turned-more : le turns r ≡ false → Kept x r (1016 - (i + 1))
    turned-more l = after (kept-more x r (1015 - i) held-on (subst (λ (t : Float). T (not (le t r))) now (missed l)))

pub turned-end : (x r : Float) (i : ℕ) → 1016 ≤ i → Kept x r (1016 - i) → r ≡ rem binary64 x full_turn
turned-end x r i b h = let e : 1016 - i ≡ 0 = omega arith in kept-end x r (subst (λ (k : ℕ). Kept x r k) e h)
