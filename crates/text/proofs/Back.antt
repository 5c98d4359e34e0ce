-- What is written is read back: numbers, words and floats. Assumes nothing.
use Prim.Native.Nat.{ℕ, zero, suc, ◌+◌, ◌-◌, ◌*◌, ◌/◌, ◌%◌, ◌^◌, ◌≤◌, ◌<◌, zero-le, suc-le-suc}
use native.Mathlib.Nat.{mul-one, add-zero, mod-one, mod-lt, pow-zero, pow-succ', one-le-pow}
use native.Mathlib.Omega.{arith}
use mathlib.Core.Path.{◌≡◌, refl, sym, ap, ◌∙◌}
use mathlib.Core.Bool.{Bool, true, false, cond}
use mathlib.Core.List.{List, [], ◌∷◌}
use mathlib.Core.Logic.{⊎_elim}
use lib.Arith.{mod-mul}
use lib.Dec.{T, eqb, ltb}
use lib.ListN.{length, drop, length-drop}
use lib.Ieee.{Float, fits, binary64, to_bits}
use lib.Ieee.Bits.{of_bits-to_bits, to_bits-lt}
use borrow.Author.Tests.{lt-ltb, le-ltb, eq-eqb, ne_eqb, eqb-true, ltb-true, ltb-false}
use Rattle.lists.proofs.Loops.{two, and_both}
use Rattle.text.specs.inner.Numbers.{figure, all_digits, value, value_below, number_of, hex_word_of}
use Rattle.text.specs.inner.Floats.{bits_of, float_of}
use Rattle.text.specs.inner.Written.{glyph, last_digits, zeros, decimal, hex_word, hex_float}
use Rattle.std.specs.Prelude.{Some}
use Rattle.text.proofs.Numbers.{figure-decimal, figure-letter}
use Rattle.text.proofs.Written.{length_digits}

-- a digit counts what it was written for
figure-glyph : (d : ℕ) → d < 16 → figure (glyph d) ≡ d
unfolding glyph
figure-glyph d h = ⊎_elim (λ t. low (ltb-true _ _ t)) (λ t. high (ltb-false _ _ t)) (two (ltb d 10))
  where
    low : d < 10 → figure (glyph d) ≡ d
    low l = rw (lt-ltb d 10 l) (sym (figure-decimal (48 + d) (omega arith) (omega arith)) ∙ omega arith)

    high : 10 ≤ d → figure (glyph d) ≡ d
    high l = rw (le-ltb d 10 l) (sym (figure-letter (65 + (d - 10)) (omega arith) (omega arith)) ∙ omega arith)

digits-written : (base k n : ℕ) → 1 ≤ base → base ≤ 16 → all_digits base (last_digits base k n) ≡ true
unfolding all_digits last_digits
digits-written base zero n h l = refl
digits-written base (suc k) n h l =
    let small : n / base ^ k % base < base = mod-lt (n / base ^ k) h in
    rw (figure-glyph (n / base ^ k % base) (omega arith), lt-ltb _ _ small, digits-written base k n h l)

-- the last k digits are the number modulo the power
behind : (m base q p r : ℕ) → (m * base + q) * p + r ≡ m * (base * p) + (q * p + r)
behind m base q p r = omega arith

value_written : (base k m n : ℕ) → 1 ≤ base → base ≤ 16 → value base m (last_digits base k n) ≡ m * base ^ k + n % base ^ k
unfolding value last_digits
value_written base zero m n h l = sym (rw (pow-zero base, mul-one, mod-one, add-zero))
value_written base (suc k) m n h l =
    let q = n / base ^ k % base in
    let small : q < base = mod-lt (n / base ^ k) h in
    ap (λ d. value base (m * base + d) (last_digits base k n)) (figure-glyph q (omega arith))
    ∙ value_written base k (m * base + q) n h l
    ∙ behind m base q (base ^ k) (n % base ^ k)
    ∙ ap (λ r. m * (base * base ^ k) + r) (sym (mod-mul n h (one-le-pow k base h)))
    ∙ ap (λ p. m * p + n % p) (sym (pow-succ' base k))

-- ---- numbers and words

digits-drop : (base k : ℕ) (l : List ℕ) → all_digits base l ≡ true → all_digits base (drop k l) ≡ true
unfolding all_digits
digits-drop base zero l h = h
digits-drop base (suc k) [] h = refl
digits-drop base (suc k) (b ∷ l) h = digits-drop base k l (and_both (ltb (figure b) base) (all_digits base l) h).1

figure-zero : figure 48 ≡ 0
unfolding figure
figure-zero = refl

-- zeros in front count nothing, and leave a digit
value-zeros : (l : List ℕ) → value 10 0 (drop (zeros l) l) ≡ value 10 0 l
unfolding zeros value
value-zeros [] = refl
value-zeros (b ∷ []) = refl
value-zeros (b ∷ c ∷ l) = go (eqb b 48) refl (value-zeros (c ∷ l))
  where
    go : (t : Bool) → eqb b 48 ≡ t → value 10 0 (drop (zeros (c ∷ l)) (c ∷ l)) ≡ value 10 0 (c ∷ l)
        → value 10 0 (drop (cond t (suc (zeros (c ∷ l))) 0) (b ∷ c ∷ l)) ≡ value 10 0 (b ∷ c ∷ l)
    go true e h = h ∙ ap (λ d. value 10 d (c ∷ l)) (sym (ap (λ d. 0 * 10 + d) (ap figure (eqb-true b 48 e) ∙ figure-zero)))
    go false e h = refl

zeros-less : (b : ℕ) (l : List ℕ) → zeros (b ∷ l) ≤ length l
unfolding zeros
zeros-less b [] = zero-le
zeros-less b (c ∷ l) = go (eqb b 48) (zeros-less c l)
  where
    go : (t : Bool) → zeros (c ∷ l) ≤ length l → cond t (suc (zeros (c ∷ l))) 0 ≤ suc (length l)
    go true h = suc-le-suc h
    go false h = zero-le

some_left : (l : List ℕ) → 0 < length l → (length (drop (zeros l) l) ≡ 0 → ⊥)
some_left [] h e = omega arith
some_left (b ∷ l) h e = omega (arith, length-drop (zeros (b ∷ l)) (b ∷ l), zeros-less b l)

-- a number below the limit that its digits write
whole-written : (base limit n : ℕ) (l : List ℕ) → all_digits base l ≡ true → value base 0 l ≡ n → n < limit → value_below base limit 0 l ≡ Some n
unfolding value_below
whole-written base limit n l d v h = rw (d, v, lt-ltb n limit h)

pub number-back : (n : ℕ) → n < 4294967296 → number_of (decimal n) ≡ Some n
unfolding number_of decimal
number-back n h =
    let ten = last_digits 10 10 n in
    let d : all_digits 10 (drop (zeros ten) ten) ≡ true = digits-drop 10 (zeros ten) ten (digits-written 10 10 n (omega arith) (omega arith)) in
    let v : value 10 0 (drop (zeros ten) ten) ≡ n = value-zeros ten ∙ value_written 10 10 0 n (omega arith) (omega arith) ∙ omega arith in
    rw (ne_eqb _ _ (some_left ten (omega (arith, length_digits 10 10 n))), whole-written 10 4294967296 n _ d v h)

pub word_back : (w : ℕ) → w < 4294967296 → hex_word_of (hex_word w) ≡ Some w
unfolding hex_word_of
word_back w h =
    let d : all_digits 16 (last_digits 16 8 w) ≡ true = digits-written 16 8 w (omega arith) (omega arith) in
    let v : value 16 0 (last_digits 16 8 w) ≡ w = value_written 16 8 0 w (omega arith) (omega arith) ∙ omega arith in
    rw (eq-eqb _ _ (length_digits 16 8 w), whole-written 16 4294967296 w _ d v h)

pub float_back : (x : Float) → T (fits binary64 x) → float_of (hex_float x) ≡ Some x
unfolding float_of bits_of
float_back x h =
    let b = to_bits binary64 x in
    let d : all_digits 16 (last_digits 16 16 b) ≡ true = digits-written 16 16 b (omega arith) (omega arith) in
    let v : value 16 0 (last_digits 16 16 b) ≡ b = value_written 16 16 0 b (omega arith) (omega arith) ∙ omega (arith, to_bits-lt binary64 x h) in
    rw (eq-eqb _ _ (length_digits 16 16 b), d, v, of_bits-to_bits binary64 x h)
