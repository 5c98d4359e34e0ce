-- A turn of the loop that reads a whole number, and its ends. Assumes nothing.
use Prim.Native.Nat.{ℕ, suc, ◌+◌, ◌-◌, ◌*◌, ◌^◌, ◌≤◌, ◌<◌}
use native.Mathlib.Numerals.{add-one}
use native.Mathlib.Nat.{le_trans, le-add_right, le-mul_of_pos_right, mul-le-mul_left, mul-le-mul_right, mul-one, add-zero, pow-zero, pow-suc}
use native.Mathlib.Omega.{arith}
use mathlib.Core.Path.{◌≡◌, refl, sym, ap, ◌∙◌}
use mathlib.Core.Bool.{Bool, true, false, ◌&&◌, cond, and_assoc}
use mathlib.Core.List.{List, [], ◌∷◌, ◌++◌}
use lib.Dec.{ltb}
use lib.ListN.{length, get_or, drop, drop_of_length-le}
use lib.Seq.{drop-cons}
use borrow.Author.Tests.{lt-ltb, le-ltb, le-leb, lt-leb, ltb-true}
use Rattle.lists.proofs.Loops.{and_both}
use Rattle.std.specs.Prelude.{Option, Some, None}
use Rattle.text.proofs.Bytes.{and-false}
use Rattle.text.specs.inner.Numbers.{figure, all_digits, value, value_below}

-- digits never make a number smaller
value-ge : (base n : ℕ) (l : List ℕ) → 1 ≤ base → n ≤ value base n l
unfolding value
value-ge base n [] h = omega arith
value-ge base n (b ∷ l) h = le_trans (le_trans (le-mul_of_pos_right n h) (le-add_right (n * base) (figure b))) (value-ge base (n * base + figure b) l h)

-- one digit more fits
pub next-value : (base limit n d : ℕ) → base ≤ 16 → limit ≤ 1000000000000000 → n < limit → d < base → n * base + d < 16000000000000000
next-value base limit n d h e l k = omega (arith, mul-le-mul_left n h)

pub whole-past : (base limit n : ℕ) (l : List ℕ) (k : ℕ) → length l ≤ k → n < limit → value_below base limit n (drop k l) ≡ Some n
unfolding value_below all_digits value
whole-past base limit n l k h e = rw (drop_of_length-le l h, lt-ltb n limit e)

-- from the limit on there is none
pub whole-over : (base limit n : ℕ) (l : List ℕ) → 1 ≤ base → limit ≤ n → value_below base limit n l ≡ None
unfolding value_below
whole-over base limit n l h e = rw (le-ltb (value base n l) limit (le_trans e (value-ge base n l h)), and-false (all_digits base l))

pub whole-other : (base limit n : ℕ) (l : List ℕ) (k : ℕ) → k < length l → base ≤ figure (get_or l k 0) → value_below base limit n (drop k l) ≡ None
unfolding value_below all_digits
whole-other base limit n l k h e = rw (drop-cons l k 0 h, le-ltb _ _ e)

pub whole-turn : (base limit n : ℕ) (l : List ℕ) (k : ℕ) → k < length l → figure (get_or l k 0) < base
    → value_below base limit n (drop k l) ≡ value_below base limit (n * base + figure (get_or l k 0)) (drop (k + 1) l)
unfolding value_below all_digits value
whole-turn base limit n l k h e = rw (add-one, drop-cons l k 0 h, lt-ltb _ _ e)

-- ---- what a digit counts
pub figure-decimal : (b : ℕ) → 48 ≤ b → b ≤ 57 → b - 48 ≡ figure b
unfolding figure
figure-decimal b h k = rw (le-leb 48 b h, le-leb b 57 k)

pub figure-letter : (b : ℕ) → 65 ≤ b → b ≤ 70 → b - 65 + 10 ≡ figure b
unfolding figure
figure-letter b h k = rw (le-leb 48 b (omega arith), lt-leb b 57 (omega arith), le-leb 65 b h, le-leb b 70 k)

-- ---- what a number below the limit tells, and where there is none

pub record IsWhole (base limit n : ℕ) (l : List ℕ) (m : ℕ) : Type 0 where
  pub digits : all_digits base l ≡ true
  pub is : m ≡ value base n l
  pub below : m < limit

pub whole-good : (base limit n : ℕ) (l : List ℕ) (m : ℕ) → Some m ≡ value_below base limit n l → IsWhole base limit n l m
unfolding value_below
whole-good base limit n l m h = go (all_digits base l) (ltb (value base n l) limit) refl refl h
  where
    go : (s t : Bool) → all_digits base l ≡ s → ltb (value base n l) limit ≡ t → ◌≡◌ {A = Option ℕ} (Some m) (cond (s && t) (Some (value base n l)) None) → IsWhole base limit n l m
    go true true d f e = let i : m ≡ value base n l = cc in record { digits = d; is = i; below = rw i (ltb-true _ _ f) }
    go true false d f e = cc
    go false t d f e = cc

pub whole-bad : (base limit n : ℕ) (l : List ℕ) → None ≡ value_below base limit n l → (all_digits base l ≡ true → value base n l < limit) → all_digits base l ≡ false
unfolding value_below
whole-bad base limit n l h f = go (all_digits base l) refl h
  where
    go : (t : Bool) → all_digits base l ≡ t → ◌≡◌ {A = Option ℕ} None (cond (t && ltb (value base n l) limit) (Some (value base n l)) None) → t ≡ false
    go true e k = let b : ltb (value base n l) limit ≡ true = lt-ltb _ _ (f e) in let k' : ◌≡◌ {A = Option ℕ} None (Some (value base n l)) = rw b at k in cc
    go false e k = refl

-- ---- numbers of two parts

pub digits_append : (base : ℕ) (xs ys : List ℕ) → all_digits base (xs ++ ys) ≡ all_digits base xs && all_digits base ys
unfolding all_digits
digits_append base [] ys = refl
digits_append base (x ∷ xs) ys = ap (λ t. ltb (figure x) base && t) (digits_append base xs ys) ∙ sym (and_assoc (ltb (figure x) base) (all_digits base xs) (all_digits base ys))

pub value-append : (base n : ℕ) (xs ys : List ℕ) → value base n (xs ++ ys) ≡ value base (value base n xs) ys
unfolding value
value-append base n [] ys = refl
value-append base n (x ∷ xs) ys = value-append base (n * base + figure x) xs ys

-- what stands in front counts a power of the base
front : (n base f p v : ℕ) → (n * base + f) * p + v ≡ n * (p * base) + ((0 * base + f) * p + v)
front n base f p v = omega arith

pub value-from : (base n : ℕ) (l : List ℕ) → value base n l ≡ n * base ^ length l + value base 0 l
unfolding value
value-from base n [] = sym (rw (pow-zero base, mul-one, add-zero))
value-from base n (b ∷ l) =
    value-from base (n * base + figure b) l
    ∙ front n base (figure b) (base ^ length l) (value base 0 l)
    ∙ ap (λ k. n * k + ((0 * base + figure b) * base ^ length l + value base 0 l)) (sym (pow-suc base (length l)))
    ∙ ap (λ k. n * base ^ suc (length l) + k) (sym (value-from base (0 * base + figure b) l))

-- a digit behind what is below m
behind : (n m base f : ℕ) → n < m → f < base → n * base + f < m * base
behind n m base f h e = omega (arith, mul-le-mul_right base h)

regroup : (m base p : ℕ) → m * base * p ≡ m * (p * base)
regroup m base p = omega arith

-- so many digits are below the power
pub value-lt : (base : ℕ) (l : List ℕ) (n m : ℕ) → n < m → all_digits base l ≡ true → value base n l < m * base ^ length l
unfolding value all_digits
value-lt base [] n m h e = rw (pow-zero base, mul-one) h
value-lt base (b ∷ l) n m h e =
    let both = and_both (ltb (figure b) base) (all_digits base l) e in
    let next : value base (n * base + figure b) l < m * base * base ^ length l = value-lt base l (n * base + figure b) (m * base) (behind n m base (figure b) h (ltb-true _ _ both.0)) both.1 in
    rw (pow-suc base (length l), ← regroup m base (base ^ length l)) next
