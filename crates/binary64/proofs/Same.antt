-- A value that a format holds is written in one way. So `le` both ways is equality, but for two zeros of different signs (`le_antisym`), `round` gives back a value of its format (`round-self`),
-- and a zero adds nothing (`add-nzero`, `add-pzero`). Assumes nothing.
use mathlib.Core.Path.{◌≡◌, refl, sym, ap, ◌∙◌, subst}
use Prim.Native.Nat.{ℕ, zero, suc, ◌+◌, ◌-◌, ◌*◌, ◌%◌, ◌^◌, ◌≤◌, ◌<◌}
use native.Mathlib.Nat.{zero-mul, mul-one, one-mul, mul_comm, mul_assoc, mul_right_comm, mul_left_comm, mul-pos, mul-lt-mul_of_pos_right, lt_of_mul-lt-mul_right, eq_of_mul-eq-mul_right, pow-succ', suc_inj, lt_irrefl, zero-lt-suc, not-le_of_lt, not-suc-le-zero, lt_of_not-le, le_of_suc-le-suc, sub-zero, add-zero}
use native.Mathlib.Omega.{arith}
use mathlib.Core.Bool.{Bool, true, false, not, ◌&&◌, cond, true≢false, false≢true}
use lib.IntN.{ℤ, pos, negsuc}
use lib.Dec.{T, leb, ltb, eqb, ltb→lt, leb→le, eqb→eq}
use lib.Pow.{pow-add, pow_pos, pow-lt}
use lib.Ieee.{Float, nan, inf, fin, Format, prec, emax, low, up, down, round, sum, add, le, fits}
use lib.Ieee.Fits.{up_pos, down_pos, and_l, and_r, eq→eqb, round-fits}
use lib.Ieee.Digits.{back}
use lib.Ieee.Exact.{HasValue, round_exact}
use Rattle.binary64.specs.Values.{pzero}
use Rattle.binary64.specs.inner.Values.{sign, is_zero, nzero}
use Rattle.binary64.proofs.Order.{le→cross}
use Rattle.binary64.proofs.Sum.{round-zero}

-- ---- what `fits` says of a finite value
pub record Held (f : Format) (m : ℕ) (e : ℤ) : Type 0 where
  pub is_odd : m % 2 ≡ 1
  pub digits : m < 2 ^ prec f
  pub floor : down e ≤ 2 ^ low f
  pub ceiling : m * up e < 2 ^ suc (emax f) * down e

pub held : (f : Format) (s : Bool) (m : ℕ) (e : ℤ) → T (fits f (fin s (suc m) e)) → Held f (suc m) e
unfolding fits
held f s m e t =
    let a : Bool = eqb (suc m % 2) 1 in
    let b : Bool = ltb (suc m) (2 ^ prec f) in
    let c : Bool = leb (down e) (2 ^ low f) in
    let d : Bool = ltb (suc m * up e) (2 ^ suc (emax f) * down e) in
    record {
      is_odd = eqb→eq (suc m % 2) 1 (and_l a b (and_l (a && b) c (and_l (a && b && c) d t)));
      digits = ltb→lt (suc m) (2 ^ prec f) (and_r a b (and_l (a && b) c (and_l (a && b && c) d t)));
      floor = leb→le (down e) (2 ^ low f) (and_r (a && b) c (and_l (a && b && c) d t));
      ceiling = ltb→lt (suc m * up e) (2 ^ suc (emax f) * down e) (and_r (a && b && c) d t);
    }

two_up : (p : ℕ) → 0 < p → 2 * p ≡ 1 → ⊥
two_up p h e = omega arith

flat : (e : ℤ) → up e * down e ≡ 1 → e ≡ pos 0
flat (pos zero) h = refl
flat (pos (suc k)) h = absurd (two_up (2 ^ k) (pow_pos k) (sym (pow-succ' 2 k) ∙ sym (mul-one (2 ^ suc k)) ∙ h))
flat (negsuc k) h = absurd (two_up (2 ^ k) (pow_pos k) (sym (pow-succ' 2 k) ∙ sym (one-mul (2 ^ suc k)) ∙ h))

zero_exp : (f : Format) (s : Bool) (e : ℤ) → T (fits f (fin s zero e)) → e ≡ pos 0
unfolding fits
zero_exp f s e t = flat e (eqb→eq (up e * down e) 1 t)

-- ---- an odd number times a power of two is written in one way
even_odd : (m t : ℕ) → m % 2 ≡ 1 → m ≡ 2 * t → ⊥
even_odd m t o h = omega arith

twice : (k i : ℕ) → k * 2 ^ suc i ≡ 2 * (k * 2 ^ i)
twice k i = ap (λ (x : ℕ). k * x) (pow-succ' 2 i) ∙ mul_left_comm k 2 (2 ^ i)

odd_pow : (m n a b : ℕ) → m % 2 ≡ 1 → n % 2 ≡ 1 → m * 2 ^ a ≡ n * 2 ^ b → (m ≡ n) × (a ≡ b)
odd_pow m n zero zero o p h = (sym (mul-one m) ∙ h ∙ mul-one n, refl)
odd_pow m n zero (suc b) o p h = absurd (even_odd m (n * 2 ^ b) o (sym (mul-one m) ∙ h ∙ twice n b))
odd_pow m n (suc a) zero o p h = absurd (even_odd n (m * 2 ^ a) p (sym (mul-one n) ∙ sym h ∙ twice m a))
odd_pow m n (suc a) (suc b) o p h =
    let r = odd_pow m n a b o p (halve (m * 2 ^ a) (n * 2 ^ b) (sym (twice m a) ∙ h ∙ twice n b)) in
    (r.0, ap suc r.1)
  where
    halve : (x y : ℕ) → 2 * x ≡ 2 * y → x ≡ y
    halve x y g = omega arith

same-odd : (m : ℕ) (e : ℤ) (n : ℕ) (d : ℤ) → m % 2 ≡ 1 → n % 2 ≡ 1 → m * up e * down d ≡ n * up d * down e → (m ≡ n) × (e ≡ d)
same-odd m (pos a) n (pos b) o p h = let r = odd_pow m n a b o p (sym (mul-one (m * 2 ^ a)) ∙ h ∙ mul-one (n * 2 ^ b)) in (r.0, ap pos r.1)
same-odd m (pos a) n (negsuc b) o p h = absurd (even_odd n (m * 2 ^ a * 2 ^ b) p (sym (mul-one n) ∙ sym (mul-one (n * 1)) ∙ sym h ∙ twice (m * 2 ^ a) b))
same-odd m (negsuc a) n (pos b) o p h = absurd (even_odd m (n * 2 ^ b * 2 ^ a) o (sym (mul-one m) ∙ sym (mul-one (m * 1)) ∙ h ∙ twice (n * 2 ^ b) a))
same-odd m (negsuc a) n (negsuc b) o p h =
    let r = odd_pow m n (suc b) (suc a) o p (ap (λ (x : ℕ). x * 2 ^ suc b) (sym (mul-one m)) ∙ h ∙ ap (λ (x : ℕ). x * 2 ^ suc a) (mul-one n)) in
    (r.0, ap negsuc (sym (suc_inj r.1)))

-- ---- two values of one sign and one size
not-zero : (n : ℕ) (d : ℤ) (k j : ℕ) → 0 < k → zero * j * down d ≡ suc n * up d * k → ⊥
not-zero n d k j K h = lt_irrefl 0 (subst (λ (x : ℕ). 0 < x) (sym h ∙ ap (λ (y : ℕ). y * down d) (zero-mul j) ∙ zero-mul (down d)) (mul-pos (mul-pos (zero-lt-suc n) (up_pos d)) K))

same-fin : (f : Format) (s : Bool) (m : ℕ) (e : ℤ) (n : ℕ) (d : ℤ) → T (fits f (fin s m e)) → T (fits f (fin s n d)) → m * up e * down d ≡ n * up d * down e → fin s m e ≡ fin s n d
same-fin f s zero e zero d p q h = ap (fin s zero) (zero_exp f s e p ∙ sym (zero_exp f s d q))
same-fin f s zero e (suc n) d p q h = absurd (not-zero n d (down e) (up e) (down_pos e) h)
same-fin f s (suc m) e zero d p q h = absurd (not-zero m e (down d) (up d) (down_pos d) (sym h))
same-fin f s (suc m) e (suc n) d p q h =
    let r = same-odd (suc m) e (suc n) d (held f s m e p).is_odd (held f s n d q).is_odd h in
    λ i. fin s (r.0 i) (r.1 i)

-- by a fraction a / c that both equal
cross-eq : (x y a c g h : ℕ) → 0 < c → x * c ≡ a * g → y * c ≡ a * h → x * h ≡ y * g
cross-eq x y a c g h C p q =
    eq_of_mul-eq-mul_right c C (x * h) (y * g)
    (mul_right_comm x h c ∙ ap (λ (z : ℕ). z * h) p ∙ mul_right_comm a g h ∙ ap (λ (z : ℕ). z * g) (sym q) ∙ mul_right_comm y c g)

pub same-value : (f : Format) (x y : Float) (s : Bool) (a c : ℕ) → 0 < c → T (fits f x) → T (fits f y) → HasValue x s a c → HasValue y s a c → x ≡ y
same-value f nan y s a c C p q v w = absurd v
same-value f (inf t) y s a c C p q v w = absurd v
same-value f (fin t m e) nan s a c C p q v w = absurd w
same-value f (fin t m e) (inf u) s a c C p q v w = absurd w
same-value f (fin true m e) (fin true n d) s a c C p q v w = same-fin f true m e n d p q (cross-eq (m * up e) (n * up d) a c (down e) (down d) C v.1 w.1)
same-value f (fin false m e) (fin false n d) s a c C p q v w = same-fin f false m e n d p q (cross-eq (m * up e) (n * up d) a c (down e) (down d) C v.1 w.1)
same-value f (fin true m e) (fin false n d) s a c C p q v w = absurd (true≢false (v.0 ∙ sym w.0))
same-value f (fin false m e) (fin true n d) s a c C p q v w = absurd (false≢true (v.0 ∙ sym w.0))

squeeze : (s : Bool) (m : ℕ) (e : ℤ) (n : ℕ) (d : ℤ) → T (le (fin s m e) (fin s n d)) → T (le (fin s n d) (fin s m e)) → m * up e * down d ≡ n * up d * down e
squeeze true m e n d h k = omega (arith, le→cross (fin true m e) (fin true n d) tt tt h, le→cross (fin true n d) (fin true m e) tt tt k)
squeeze false m e n d h k = omega (arith, le→cross (fin false m e) (fin false n d) tt tt h, le→cross (fin false n d) (fin false m e) tt tt k)

-- +x ≤ -y only of two zeros
no_part : (m : ℕ) (e : ℤ) (k : ℕ) → 0 < k → m * up e * k ≤ 0 → m ≡ 0
no_part m e k K h =
    let z : m * up e * k ≡ 0 * up e * k = omega arith in
    eq_of_mul-eq-mul_right (up e) (up_pos e) m 0 (eq_of_mul-eq-mul_right k K (m * up e) (0 * up e) z)

plus-under-minus : (m : ℕ) (e : ℤ) (n : ℕ) (d : ℤ) → T (le (fin false m e) (fin true n d)) → (m ≡ 0) × (n ≡ 0)
plus-under-minus m e n d h =
    let x = le→cross (fin false m e) (fin true n d) tt tt h in
    (no_part m e (down d) (down_pos d) (omega arith), no_part n d (down e) (down_pos e) (omega arith))

-- where x is a zero, y has to have its sign
pub le_antisym : (f : Format) (x y : Float) → T (fits f x) → T (fits f y) → (T (is_zero x) → sign x ≡ sign y) → T (le x y) → T (le y x) → x ≡ y
le_antisym f nan y p q g h k = absurd (unfold le in h)
le_antisym f (inf s) nan p q g h k = absurd (unfold le in h)
le_antisym f (inf true) (inf true) p q g h k = refl
le_antisym f (inf true) (inf false) p q g h k = absurd (unfold le in k)
le_antisym f (inf false) (inf true) p q g h k = absurd (unfold le in h)
le_antisym f (inf false) (inf false) p q g h k = refl
le_antisym f (inf true) (fin t n d) p q g h k = absurd (unfold le in k)
le_antisym f (inf false) (fin t n d) p q g h k = absurd (unfold le in h)
le_antisym f (fin s m e) nan p q g h k = absurd (unfold le in h)
le_antisym f (fin s m e) (inf true) p q g h k = absurd (unfold le in h)
le_antisym f (fin s m e) (inf false) p q g h k = absurd (unfold le in k)
le_antisym f (fin true m e) (fin true n d) p q g h k = same-fin f true m e n d p q (squeeze true m e n d h k)
le_antisym f (fin false m e) (fin false n d) p q g h k = same-fin f false m e n d p q (squeeze false m e n d h k)
le_antisym f (fin true m e) (fin false n d) p q g h k = absurd (true≢false (g (eq→eqb (plus-under-minus n d m e k).1)))
le_antisym f (fin false m e) (fin true n d) p q g h k = absurd (false≢true (g (eq→eqb (plus-under-minus m e n d h).0)))

-- ---- `round` of a value that the format holds
pow-le-inv : (i j : ℕ) → 2 ^ i ≤ 2 ^ j → i ≤ j
pow-le-inv i j h = le_of_suc-le-suc (lt_of_not-le (λ (g : suc j ≤ i). not-le_of_lt (pow-lt g) h))

-- 2 ^ e is 2 ^ j times the smallest value
pub exponent : (e : ℤ) (l : ℕ) → down e ≤ 2 ^ l → (j : ℕ) × (up e * 2 ^ l ≡ 2 ^ j * down e)
exponent (pos a) l h = (a + l, sym (pow-add 2 a l) ∙ sym (mul-one (2 ^ (a + l))))
exponent (negsuc a) l h = (l - suc a, one-mul (2 ^ l) ∙ ap (λ (x : ℕ). 2 ^ x) (sym (back l (suc a) (pow-le-inv (suc a) l h))) ∙ pow-add 2 (l - suc a) (suc a))

round-value : (f : Format) (s : Bool) (m : ℕ) (e : ℤ) → Held f m e → HasValue (round f s (m * up e) (down e)) s (m * up e) (down e)
round-value f s m e g = at (exponent e (low f) g.floor).0 (exponent e (low f) g.floor).1
  where
    at : (j : ℕ) → up e * 2 ^ low f ≡ 2 ^ j * down e → HasValue (round f s (m * up e) (down e)) s (m * up e) (down e)
    at j h =
        let l = low f in
        let same : m * up e * 2 ^ l ≡ m * 2 ^ j * down e = mul_assoc m (up e) (2 ^ l) ∙ ap (λ (x : ℕ). m * x) h ∙ sym (mul_assoc m (2 ^ j) (down e)) in
        let far : 2 ^ suc (emax f) * down e * 2 ^ l ≡ 2 ^ (l + suc (emax f)) * down e =
        mul_right_comm (2 ^ suc (emax f)) (down e) (2 ^ l) ∙ ap (λ (x : ℕ). x * down e) (mul_comm (2 ^ suc (emax f)) (2 ^ l) ∙ sym (pow-add 2 l (suc (emax f)))) in
        let below : m * 2 ^ j * down e < 2 ^ (l + suc (emax f)) * down e = rw (← same, ← far) (mul-lt-mul_of_pos_right g.ceiling (pow_pos l)) in
        round_exact f s (m * up e) (down e) m j (down_pos e) g.digits (lt_of_mul-lt-mul_right (down e) below) same

pub round-self : (f : Format) (s : Bool) (m : ℕ) (e : ℤ) → T (fits f (fin s m e)) → round f s (m * up e) (down e) ≡ fin s m e
round-self f s zero e p =
    same-value f (round f s (zero * up e) (down e)) (fin s zero e) s (zero * up e) (down e) (down_pos e) (round-fits f s (zero * up e) (down e)) p
    (rw (zero-mul (up e)) (round-zero f s (down e) (down_pos e))) (refl, refl)
round-self f s (suc m) e p =
    same-value f (round f s (suc m * up e) (down e)) (fin s (suc m) e) s (suc m * up e) (down e) (down_pos e) (round-fits f s (suc m * up e) (down e)) p
    (round-value f s (suc m) e (held f s m e p)) (refl, refl)

sum-nzero : (f : Format) (s : Bool) (a c : ℕ) → sum f s a true 0 c ≡ round f s a c
unfolding sum
sum-nzero f true a c = ap (λ (z : ℕ). round f true z c) (add-zero a)
sum-nzero f false a c = go (ltb a 0) (ltb→lt a 0)
  where
    go : (x : Bool) → (T x → a < 0) → cond x (round f true (0 - a) c) (round f false (a - 0) c) ≡ round f false a c
    go true h = absurd (not-suc-le-zero (h tt))
    go false h = ap (λ (z : ℕ). round f false z c) (sub-zero a)

sum-pzero : (f : Format) (a c : ℕ) → sum f false a false 0 c ≡ round f false a c
unfolding sum
sum-pzero f a c = ap (λ (z : ℕ). round f false z c) (add-zero a)

pub add-nzero : (f : Format) (x : Float) → T (fits f x) → add f x nzero ≡ x
unfolding add
add-nzero f nan p = refl
add-nzero f (inf s) p = refl
add-nzero f (fin s m e) p = rw (mul-one (m * up e), zero-mul (down e), mul-one (down e)) (sum-nzero f s (m * up e) (down e) ∙ round-self f s m e p)

pub add-pzero : (f : Format) (x : Float) → T (fits f x) → T (not (sign x)) → add f x pzero ≡ x
unfolding add
add-pzero f nan p t = refl
add-pzero f (inf s) p t = refl
add-pzero f (fin true m e) p t = absurd t
add-pzero f (fin false m e) p t = rw (mul-one (m * up e), zero-mul (down e), mul-one (down e)) (sum-pzero f (m * up e) (down e) ∙ round-self f false m e p)
