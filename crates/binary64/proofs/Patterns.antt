-- Bit patterns in order: of two with the sign bit clear that are finite, the greater pattern is the greater value. With the sign bit set a pattern is the
-- negated value. Assumes nothing.
use mathlib.Core.Path.{◌≡◌, sym, ap, ◌∙◌, subst}
use mathlib.Core.Bool.{Bool, true, false, not, cond}
use mathlib.Core.Logic.{⊎_elim}
use Prim.Native.Nat.{ℕ, zero, suc, ◌+◌, ◌-◌, ◌*◌, ◌/◌, ◌%◌, ◌^◌, ◌<◌, ◌≤◌}
use native.Mathlib.Nat.{mul_comm, mul-suc, add-mul, pow-suc, mul_assoc, mul-le-mul_left, mul-le-mul_right, mul-lt-mul_of_pos_right, mod-lt, mod-eq_of_lt, add-mod_left, mul-add-mod_self_left, zero-add, eq-or-lt_of_le, suc-mul, lt_of_mul-lt-mul_right, div-add-mod', div-lt_iff_lt-mul}
use native.Mathlib.Omega.{arith}
use lib.Dec.{T, leb, le→leb}
use borrow.Author.Tests.{ne_eqb, lt-leb}
use lib.Pow.{pow_pos, pow_mono}
use lib.Ieee.{Float, nan, inf, fin, Format, prec, low, hid, ones, top, of_fields, of_bits, neg, le}
use lib.Ieee.Bits.{is_true}
use lib.Ieee.Exact.{HasValue, odd_sign}
use lib.Ieee.Order.{le_of_values}
use lib.Ieee.Scale.{finite}
use Rattle.binary64.specs.Values.{clear}
use Rattle.binary64.proofs.Sum.{odd-neg}

-- ---- a value in units of the smallest one, by the exponent's field and the digits below the leading one

amount : Format → ℕ → ℕ → ℕ
amount f zero t = t * 2 ^ 0
amount f (suc x) t = (hid f + t) * 2 ^ x

fields_value : (f : Format) (s : Bool) (x t : ℕ) → x < ones f → HasValue (of_fields f s x t) s (amount f x t) (2 ^ low f)
unfolding of_fields amount
fields_value f s zero t h = odd_sign (prec f) s t 0 (low f)
fields_value f s (suc x) t h = rw (ne_eqb (suc x) (ones f) (λ e. omega arith)) (odd_sign (prec f) s (hid f + t) x (low f))

digits-below : (f : Format) (x t : ℕ) → t < hid f → amount f x t < hid f * 2 ^ x
unfolding amount
digits-below f zero t h = mul-lt-mul_of_pos_right h (pow_pos 0)
digits-below f (suc x) t h =
    rw (pow-suc 2 x, ← mul_assoc (hid f) (2 ^ x) 2) (omega (arith, mul-lt-mul_of_pos_right {m = t} {n = hid f} {k = 2 ^ x} h (pow_pos x), add-mul (hid f) t (2 ^ x)))

digits_from : (f : Format) (x t : ℕ) → hid f * 2 ^ x ≤ amount f (suc x) t
unfolding amount
digits_from f x t = mul-le-mul_right (2 ^ x) (omega arith)

-- a greater field is a greater value, and so are greater digits in one field
field_mono : (f : Format) (x y t u : ℕ) → t < hid f → x < y → amount f x t ≤ amount f y u
field_mono f x zero t u h l = absurd (omega arith)
field_mono f x (suc y) t u h l = omega (arith, digits-below f x t h, mul-le-mul_left (hid f) (pow_mono {i = x} {j = y} (omega arith)), digits_from f y u)

digits-mono : (f : Format) (x t u : ℕ) → t ≤ u → amount f x t ≤ amount f x u
unfolding amount
digits-mono f zero t u h = mul-le-mul_right (2 ^ 0) h
digits-mono f (suc x) t u h = mul-le-mul_right (2 ^ x) (omega arith)

-- ---- a pattern by its fields

fields-of : (f : Format) (s : Bool) (n : ℕ) → n < top f → of_bits f (cond s (top f) 0 + n) ≡ of_fields f s (n / hid f) (n % hid f)
unfolding of_bits
fields-of f true n h = rw (is_true (leb (top f) (top f + n)) (le→leb (top f) (top f + n) (omega arith)), add-mod_left (top f) n, mod-eq_of_lt {n = n} {m = top f} h, mul-add-mod_self_left (hid f) (suc (ones f)) n)
fields-of f false n h = rw (zero-add n, lt-leb (top f) n h, mod-eq_of_lt {n = n} {m = top f} h)

below_top : (f : Format) (n : ℕ) → n < ones f * hid f → n < top f
below_top f n h = omega (arith, mul-suc (hid f) (ones f), mul_comm (hid f) (ones f))

field_below : (f : Format) (n : ℕ) → n < ones f * hid f → n / hid f < ones f
field_below f n h = (div-lt_iff_lt-mul {k = hid f} {x = n} {y = ones f} (pow_pos (prec f - 1))).1 h

value_of : (f : Format) (s : Bool) (n : ℕ) → n < ones f * hid f → HasValue (of_bits f (cond s (top f) 0 + n)) s (amount f (n / hid f) (n % hid f)) (2 ^ low f)
value_of f s n h = rw (fields-of f s n (below_top f n h)) (fields_value f s (n / hid f) (n % hid f) (field_below f n h))

amount-mono : (f : Format) (n m : ℕ) → n ≤ m → amount f (n / hid f) (n % hid f) ≤ amount f (m / hid f) (m % hid f)
amount-mono f n m h = go (n / hid f) (m / hid f) (n % hid f) (m % hid f) (div-add-mod' n (hid f)) (div-add-mod' m (hid f)) (mod-lt n (pow_pos (prec f - 1))) (mod-lt m (pow_pos (prec f - 1)))
  where
    go : (x y t u : ℕ) → x * hid f + t ≡ n → y * hid f + u ≡ m → t < hid f → u < hid f → amount f x t ≤ amount f y u
    go x y t u a b c d = ⊎_elim same (λ l. field_mono f x y t u c l) (eq-or-lt_of_le {n = x} {m = y} ordered)
      where
        ordered : x ≤ y
        ordered = omega (arith, lt_of_mul-lt-mul_right (hid f) {m = x} {n = suc y} (omega (arith, suc-mul y (hid f))))

        same : x ≡ y → amount f x t ≤ amount f y u
        same e = subst (λ (z : ℕ). amount f x t ≤ amount f z u) e (digits-mono f x t u (omega (arith, ap (λ (z : ℕ). z * hid f) e)))

-- ---- what the order of patterns tells

pub pattern-le : (f : Format) (n m : ℕ) → n ≤ m → m < ones f * hid f → T (le (of_bits f n) (of_bits f m))
pattern-le f n m h k =
    rw (← zero-add n, ← zero-add m)
    (le_of_values (of_bits f (0 + n)) (of_bits f (0 + m)) _ (2 ^ low f) _ (2 ^ low f) (pow_pos (low f)) (pow_pos (low f)) (value_of f false n (omega arith)) (value_of f false m k)
    (mul-le-mul_right (2 ^ low f) (amount-mono f n m h)))

value-clear : (x : Float) (a c : ℕ) → HasValue x false a c → T (clear x)
value-clear nan a c v = absurd v
value-clear (inf s) a c v = absurd v
value-clear (fin s m e) a c v = subst (λ (b : Bool). T (not b)) (sym v.0) tt

value-finite : (x : Float) (s : Bool) (a c : ℕ) → HasValue x s a c → T (finite x)
value-finite nan s a c v = absurd v
value-finite (inf t) s a c v = absurd v
value-finite (fin t m e) s a c v = tt

pub pattern-clear : (f : Format) (n : ℕ) → n < ones f * hid f → T (clear (of_bits f n))
pattern-clear f n h = rw (← zero-add n) (value-clear (of_bits f (0 + n)) (amount f (n / hid f) (n % hid f)) (2 ^ low f) (value_of f false n h))

pub pattern-finite : (f : Format) (s : Bool) (n : ℕ) → n < ones f * hid f → T (finite (of_bits f (cond s (top f) 0 + n)))
pattern-finite f s n h = value-finite (of_bits f (cond s (top f) 0 + n)) s (amount f (n / hid f) (n % hid f)) (2 ^ low f) (value_of f s n h)

fields-negated : (f : Format) (x t : ℕ) → x < ones f → of_fields f true x t ≡ neg (of_fields f false x t)
unfolding of_fields
fields-negated f zero t h = odd-neg (prec f) t 0 (low f)
fields-negated f (suc x) t h = rw (ne_eqb (suc x) (ones f) (λ e. omega arith)) (odd-neg (prec f) (hid f + t) x (low f))

pub pattern-negated : (f : Format) (n : ℕ) → n < ones f * hid f → of_bits f (top f + n) ≡ neg (of_bits f n)
pattern-negated f n h =
    let t = below_top f n h in
    fields-of f true n t ∙ fields-negated f (n / hid f) (n % hid f) (field_below f n h) ∙ ap neg (sym (fields-of f false n t) ∙ ap (of_bits f) (zero-add n))
