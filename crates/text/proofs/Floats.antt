-- A decimal's one division is the rounded quotient: the two whole numbers are floats exactly. Assumes nothing.
use Prim.Native.Nat.{ℕ, zero, suc, ◌+◌, ◌-◌, ◌*◌, ◌^◌, ◌≤◌, ◌<◌, min, zero-le, suc-le-suc}
use native.Mathlib.Nat.{zero-mul, mul-one, one-mul, mul-pos, zero-lt-suc, lt_irrefl, le_of_lt, lt_of_lt_of_le, one-le-pow, pow-le-pow_right}
use native.Mathlib.Numerals.{add-one}
use native.Mathlib.Omega.{arith}
use mathlib.Core.Path.{◌≡◌, refl, sym, ap, ◌∙◌, subst}
use mathlib.Core.Bool.{Bool, true, false, not, ◌&&◌, and-true, cond, true≢false}
use mathlib.Core.List.{List, [], ◌∷◌}
use mathlib.Core.Logic.{⊎_elim}
use lib.Dec.{T, eqb, leb, le→leb}
use lib.IntN.{pos}
use lib.ListN.{length, get_or, take, drop, drop_of_length-le, take-append-drop, length-drop}
use lib.Seq.{length-take-le}
use lib.Ieee.{Float, nan, inf, fin, Format, up, down, round, div, of_int, in_float, of_bits, binary64}
use lib.Ieee.Fits.{up_pos, down_pos}
use lib.Ieee.Exact.{HasValue}
use lib.Ieee.Back.{round_whole}
use lib.Ieee.Scale.{round_same}
use lib.Pow.{pow-add}
use borrow.Author.Tests.{eq-eqb, ne_eqb, le-leb, lt-leb, leb-true, leb-false}
use Rattle.std.specs.Prelude.{Option, Some, None}
use Rattle.std.specs.List.{prefix_len}
use Rattle.lists.proofs.Loops.{two}
use Rattle.journal.proofs.Stores.{take_rest}
use Rattle.binary64.proofs.Bounds.{whole_is}
use Rattle.text.specs.inner.Numbers.{all_digits, value, value_below}
use Rattle.std.specs.Cmp.Lexicographic.{pointwise}
use Rattle.text.specs.inner.Bytes.{bytes, same}
use Rattle.text.specs.inner.Floats.{bits_of, point, decimal_of, signed_of}
use Rattle.text.proofs.Bytes.{and-false}
use Rattle.text.proofs.Numbers.{IsWhole, whole-good, whole-bad, digits_append, value-append, value-from, value-lt}

-- ---- the quotient of two values that are not negative, by the fractions that they equal

crossed : (m n a b e d : ℕ) → m * 1 ≡ a * e → n * 1 ≡ b * d → m * d * b ≡ a * (n * e)
crossed m n a b e d p q = omega (arith, ap (λ (z : ℕ). z * (d * b)) p, ap (λ (z : ℕ). z * (a * e)) q)

positive : (n u b d : ℕ) → 0 < b → 0 < d → n * u * 1 ≡ b * d → 0 < n
positive zero u b d h k e = absurd (lt_irrefl 0 (subst (λ (z : ℕ). 0 < z) (sym e ∙ mul-one (0 * u) ∙ zero-mul u) (mul-pos h k)))
positive (suc n) u b d h k e = zero-lt-suc n

pub div-whole : (f : Format) (x y : Float) (a b : ℕ) → 0 < b → HasValue x false a 1 → HasValue y false b 1 → div f x y ≡ round f false a b
unfolding div
div-whole f nan y a b h p q = absurd p
div-whole f (inf t) y a b h p q = absurd p
div-whole f (fin t m e) nan a b h p q = absurd q
div-whole f (fin t m e) (inf u) a b h p q = absurd q
div-whole f (fin true m e) (fin u n d) a b h p q = absurd (true≢false p.0)
div-whole f (fin false m e) (fin true n d) a b h p q = absurd (true≢false q.0)
div-whole f (fin false m e) (fin false n d) a b h p q =
    let n_pos : 0 < n = positive n (up d) b (down d) h (down_pos d) q.1 in
    ap (λ t. cond t (cond (eqb m 0) nan (inf false)) (round f false (m * up e * down d) (n * up d * down e))) (ne_eqb n 0 (λ z. lt_irrefl 0 (subst (λ (k : ℕ). 0 < k) z n_pos)))
    ∙ round_same f false (m * up e * down d) (n * up d * down e) a b (mul-pos (mul-pos n_pos (up_pos d)) (down_pos e)) h
    (crossed (m * up e) (n * up d) a b (down e) (down d) p.1 q.1)

-- a whole number up to 2 to the 53 is a float exactly
pub whole-exact : (n : ℕ) → n ≤ 9007199254740992 → HasValue (of_int binary64 (pos n)) false n 1
whole-exact n h = subst (λ x. HasValue x false n 1) (sym (whole_is binary64 n)) (round_whole binary64 false n h)

-- one division of two such numbers is the fraction, rounded once
pub one-division : (n d : ℕ) → n ≤ 9007199254740992 → 0 < d → d ≤ 9007199254740992 → div binary64 (of_int binary64 (pos n)) (of_int binary64 (pos d)) ≡ round binary64 false n d
one-division n d h p k = div-whole binary64 _ _ n d p (whole-exact n h) (whole-exact d k)

-- ---- the point of a decimal

-- the bytes before it are those up to the first that is one
pub point-taken : (w : List ℕ) → prefix_len (λ b. not (eqb b 46)) w ≡ point w
unfolding point
point-taken [] = refl
point-taken (b ∷ l) = go (eqb b 46) refl (point-taken l)
  where
    go : (t : Bool) → eqb b 46 ≡ t → prefix_len (λ b. not (eqb b 46)) l ≡ point l → prefix_len (λ b. not (eqb b 46)) (b ∷ l) ≡ cond t 0 (suc (point l))
    go true e h = rw e
    go false e h = rw e (rw h (omega arith))

pub point-le : (w : List ℕ) → point w ≤ length w
unfolding point
point-le [] = zero-le
point-le (b ∷ l) = go (eqb b 46) (point-le l)
  where
    go : (t : Bool) → point l ≤ length l → cond t 0 (suc (point l)) ≤ suc (length l)
    go true h = zero-le
    go false h = suc-le-suc h

-- ---- a decimal's quotient

ten-small : (k : ℕ) → k ≤ 15 → 10 ^ k ≤ 1000000000000000
ten-small k h = pow-le-pow_right (zero-lt-suc 9) h

pub ten-exact : (k d : ℕ) → k ≤ 15 → d ≡ 10 ^ k → d ≤ 9007199254740992
ten-exact k d h e = omega (arith, ten-small k h)

pub divided : (n k d : ℕ) → n < 1000000000000000 → k ≤ 15 → d ≡ 10 ^ k → div binary64 (of_int binary64 (pos n)) (of_int binary64 (pos d)) ≡ round binary64 false n (10 ^ k)
divided n k d h l e = one-division n d (omega arith) (rw e (one-le-pow k 10 (zero-lt-suc 9))) (ten-exact k d l e) ∙ ap (round binary64 false n) e

pub whole-counts : (n : ℕ) → n ≤ 9007199254740992 → T (in_float binary64 (pos n))
unfolding in_float
whole-counts n h = le→leb n 9007199254740992 h

-- ---- bits

-- a part of eight digits is below 2 to the 32, so where there is none, a byte is no digit
eight-bad : (l : List ℕ) → length l ≡ 8 → None ≡ value_below 16 4294967296 0 l → all_digits 16 l ≡ false
eight-bad l e h = whole-bad 16 4294967296 0 l h (λ d. subst (λ n. value 16 0 l < 1 * 16 ^ n) e (value-lt 16 l 0 1 (zero-lt-suc 0) d))

module _ (w : List ℕ) (e : length w ≡ 16) where
  front-eight : length (take 8 w) ≡ 8
  front-eight = length-take-le 8 w (omega arith)

  back-eight : length (drop 8 w) ≡ 8
  back-eight = length-drop 8 w ∙ omega arith

  halves-digits : all_digits 16 w ≡ all_digits 16 (take 8 w) && all_digits 16 (drop 8 w)
  halves-digits = ap (all_digits 16) (sym (take-append-drop 8 w)) ∙ digits_append 16 (take 8 w) (drop 8 w)

  halves-value : value 16 0 w ≡ value 16 0 (take 8 w) * 4294967296 + value 16 0 (drop 8 w)
  halves-value =
      ap (value 16 0) (sym (take-append-drop 8 w))
      ∙ value-append 16 0 (take 8 w) (drop 8 w)
      ∙ value-from 16 (value 16 0 (take 8 w)) (drop 8 w)
      ∙ ap (λ n. value 16 0 (take 8 w) * 16 ^ n + value 16 0 (drop 8 w)) back-eight

  pub bits-front-bad : None ≡ value_below 16 4294967296 0 (take 8 w) → None ≡ bits_of w
  unfolding bits_of
  bits-front-bad h = rw (eq-eqb _ _ e, halves-digits, eight-bad (take 8 w) front-eight h)

  pub bits-back-bad : None ≡ value_below 16 4294967296 0 (drop 8 w) → None ≡ bits_of w
  unfolding bits_of
  bits-back-bad h = rw (eq-eqb _ _ e, halves-digits, eight-bad (drop 8 w) back-eight h, and-false (all_digits 16 (take 8 w)))

  pub bits-good : (high low : ℕ) → Some high ≡ value_below 16 4294967296 0 (take 8 w) → Some low ≡ value_below 16 4294967296 0 (drop 8 w)
      → Some (of_bits binary64 (high * 4294967296 + low)) ≡ bits_of w
  unfolding bits_of
  bits-good high low p q =
      let u = whole-good 16 4294967296 0 (take 8 w) high p in
      let v = whole-good 16 4294967296 0 (drop 8 w) low q in
      rw (eq-eqb _ _ e, halves-digits, u.digits, v.digits, halves-value, u.is, v.is)

pub bits-short : (w : List ℕ) → (length w ≡ 16 → ⊥) → None ≡ bits_of w
unfolding bits_of
bits-short w h = rw (ne_eqb _ _ h)

-- ---- decimals

-- the bytes behind the point, from where the code takes them
behind-from : (w : List ℕ) (p start : ℕ) → start ≡ min (p + 1) (length w) → drop start w ≡ drop (suc p) w
behind-from w p start e = ⊎_elim (λ t. let j : start ≡ suc p = omega (arith, leb-true _ _ t) in ap (λ k. drop k w) j) (λ t. past (leb-false _ _ t)) (two (leb (suc p) (length w)))
  where
    past : length w < suc p → drop start w ≡ drop (suc p) w
    past l = let m : length w ≤ start = omega arith in drop_of_length-le w m ∙ sym (drop_of_length-le w (le_of_lt l))

pub behind-part : (w : List ℕ) (p start : ℕ) → start ≡ min (p + 1) (length w) → take (length w - start) (drop start w) ≡ drop (suc p) w
behind-part w p start e = take_rest start w ∙ behind-from w p start e

-- at most 15 digits are below 10 to the 15
few : (l : List ℕ) (n m : ℕ) → n < 10 ^ m → m + length l ≤ 15 → all_digits 10 l ≡ true → value 10 n l < 1000000000000000
few l n m h e d = lt_of_lt_of_le (value-lt 10 l n (10 ^ m) h d) (rw (← pow-add 10 m (length l)) (ten-small (m + length l) e))

pub decimal-empty : (s : Bool) (w : List ℕ) (p : ℕ) → p ≡ point w → p ≡ 0 → None ≡ decimal_of s w
unfolding decimal_of
decimal-empty s w p e h = rw (sym e ∙ h)

pub decimal-pointed : (s : Bool) (w : List ℕ) (p : ℕ) → p ≡ point w → (p ≡ 0 → ⊥) → p + 1 ≡ length w → None ≡ decimal_of s w
unfolding decimal_of
decimal-pointed s w p e some h = rw (← e, ne_eqb p 0 some, eq-eqb (suc p) (length w) (sym (add-one p) ∙ h))

-- with p bytes before the point, and what is behind it
module _ (s : Bool) (w : List ℕ) (p : ℕ) (behind : List ℕ) (e : p ≡ point w) (is_behind : behind ≡ drop (suc p) w) (some : p ≡ 0 → ⊥) (other : p + 1 ≡ length w → ⊥) where
  not_last : eqb (suc p) (length w) ≡ false
  not_last = ne_eqb (suc p) (length w) (λ h. other (add-one p ∙ h))

  pub decimal-long : 15 < p + length behind → None ≡ decimal_of s w
  unfolding decimal_of
  decimal-long h = rw (← e, ne_eqb p 0 some, not_last, ← is_behind, lt-leb (p + length behind) 15 h)

  module _ (short : p + length behind ≤ 15) where
    few-digits : leb (p + length behind) 15 ≡ true
    few-digits = le-leb _ _ short

    front_length : length (take p w) ≡ p
    front_length = length-take-le p w (rw e (point-le w))

    pub decimal-front-bad : None ≡ value_below 10 1000000000000000 0 (take p w) → None ≡ decimal_of s w
    unfolding decimal_of
    decimal-front-bad h =
        let f : all_digits 10 (take p w) ≡ false = whole-bad 10 1000000000000000 0 (take p w) h (few (take p w) 0 0 (zero-lt-suc 0) (omega (arith, front_length))) in
        rw (← e, ne_eqb p 0 some, not_last, ← is_behind, few-digits, f)

    module _ (front : ℕ) (is : Some front ≡ value_below 10 1000000000000000 0 (take p w)) where
      front-good : IsWhole 10 1000000000000000 0 (take p w) front
      front-good = whole-good 10 1000000000000000 0 (take p w) front is

      front-small : front < 10 ^ p
      front-small = rw (front-good.is) (subst (λ n. value 10 0 (take p w) < n) (one-mul (10 ^ length (take p w)) ∙ ap (λ k. 10 ^ k) front_length) (value-lt 10 (take p w) 0 1 (zero-lt-suc 0) front-good.digits))

      pub decimal-behind-bad : None ≡ value_below 10 1000000000000000 front behind → None ≡ decimal_of s w
      unfolding decimal_of
      decimal-behind-bad h =
          let f : all_digits 10 behind ≡ false = whole-bad 10 1000000000000000 front behind h (few behind front p front-small short) in
          rw (← e, ne_eqb p 0 some, not_last, ← is_behind, few-digits, front-good.digits, f)

      pub decimal-good : (n : ℕ) (x : Float) → Some n ≡ value_below 10 1000000000000000 front behind → x ≡ round binary64 s n (10 ^ length behind) → Some x ≡ decimal_of s w
      unfolding decimal_of
      decimal-good n x i r =
          let g = whole-good 10 1000000000000000 front behind n i in
          rw (r, ← e, ne_eqb p 0 some, not_last, ← is_behind, few-digits, front-good.digits, g.digits, g.is, front-good.is)

-- ---- signs

sign-first : (w : List ℕ) → pointwise eqb (take 1 w) (45 ∷ []) ≡ eqb (get_or w 0 0) 45
sign-first [] = refl
sign-first (b ∷ l) = and-true (eqb b 45)

module _ (w : List ℕ) (other : same w (bytes "-inf") ≡ false) where
  pub signed-minus : (x : Option Float) (digits : List ℕ) → pointwise eqb (take 1 w) (45 ∷ []) ≡ true → digits ≡ drop 1 w → x ≡ decimal_of true digits → x ≡ signed_of w
  unfolding signed_of
  signed-minus x digits h d e = rw (other, ← sign-first w, h, ← d) e

  pub signed-plus : (x : Option Float) → pointwise eqb (take 1 w) (45 ∷ []) ≡ false → x ≡ decimal_of false w → x ≡ signed_of w
  unfolding signed_of
  signed-plus x h e = rw (other, ← sign-first w, h) e

pub signed-infinite : (w : List ℕ) (x : Float) → same w (bytes "-inf") ≡ true → x ≡ inf true → Some x ≡ signed_of w
unfolding signed_of
signed-infinite w x h e = rw (h, e)
