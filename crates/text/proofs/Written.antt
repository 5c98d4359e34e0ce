-- A turn of each loop that writes, and its end. Assumes nothing.
use Prim.Native.Nat.{ℕ, zero, suc, ◌+◌, ◌-◌, ◌/◌, ◌%◌, ◌^◌, ◌≤◌, ◌<◌, min, zero-le, suc-le-suc}
use native.Mathlib.Nat.{le_refl, lt_irrefl, sub_self, sub-zero, div-div-eq-div-mul, pow-suc, pow-zero, div-one}
use native.Mathlib.Numerals.{sub-one}
use native.Mathlib.Omega.{arith}
use mathlib.Core.Path.{◌≡◌, refl, sym, ap, ◌∙◌}
use mathlib.Core.Bool.{Bool, true, false, cond}
use mathlib.Core.List.{List, [], ◌∷◌, ◌++◌}
use Rattle.std.proofs.Common.{append_assoc}
use Rattle.std.specs.List.{prefix_len}
use Rattle.std.proofs.lemmas.List.{drop-drop}
use Rattle.std.proofs.lemmas.List.Edits.{sets-eq}
use borrow.Rule.Slice.PartMut.{put_mid}
use lib.Dec.{eqb}
use lib.ListN.{length, take, drop, set}
use lib.Seq.{drop-length, drop-cons, drop-set-lt, get_or-set_same, lt-length-set}
use borrow.Author.Tests.{le-leb}
use Rattle.journal.proofs.Stores.{take_rest}
use Rattle.text.specs.inner.Written.{glyph, last_digits, zeros, decimal, bytes_stored}

-- ---- bytes

pub copied : (out : List ℕ) (at : ℕ) (w part : List ℕ) → part ≡ w → at + length w ≤ length out → put_mid at (at + length w - at) out part ≡ bytes_stored out at w
unfolding bytes_stored
copied out at w part e h =
    let n : at + length w - at ≡ length w = omega arith in
    rw (e, n, le-leb (at + length w) (length out) h, sets-eq w out at h, append_assoc) (ap (λ r. take at out ++ (w ++ r)) (drop-drop (length w) at out))

-- ---- digits

pub length_digits : (base k n : ℕ) → length (last_digits base k n) ≡ k
unfolding last_digits
length_digits base zero n = refl
length_digits base (suc k) n = ap suc (length_digits base k n)

pub digits-none : (out : List ℕ) (base n : ℕ) → (n ≡ n / base ^ (length out - length out)) × (drop (length out) out ≡ last_digits base (length out - length out) n)
unfolding last_digits
digits-none out base n = rw (drop-length out, sub_self (length out), pow-zero base, div-one n) (refl, refl)

-- one more digit, in front of those that are stored
before : (out : List ℕ) (base n i j rest : ℕ) → i < length out → drop (suc i) out ≡ last_digits base j n → rest ≡ n / base ^ j
    → drop i (set out i (glyph (rest % base))) ≡ last_digits base (suc j) n
unfolding last_digits
before out base n i j rest h e r =
    rw (drop-cons (set out i (glyph (rest % base))) i 0 (lt-length-set out i (glyph (rest % base)) h), get_or-set_same out i (glyph (rest % base)) 0 h, drop-set-lt (suc i) out i (glyph (rest % base)) (le_refl (suc i)), e, r)

divided : (base n j rest : ℕ) → rest ≡ n / base ^ j → rest / base ≡ n / base ^ suc j
divided base n j rest e = rw (pow-suc, ← div-div-eq-div-mul) (ap (λ r. r / base) e)

pub digits-turn : (out : List ℕ) (base n m k rest g : ℕ) → 0 < k → k ≤ m → length out ≡ m → g ≡ glyph (rest % base) → rest ≡ n / base ^ (m - k) → drop k out ≡ last_digits base (m - k) n
    → (rest / base ≡ n / base ^ (m - (k - 1))) × (drop (k - 1) (set out (k - 1) g) ≡ last_digits base (m - (k - 1)) n)
digits-turn out base n m zero rest g h l e f r d = absurd (lt_irrefl 0 h)
digits-turn out base n m (suc i) rest g h l e f r d =
    let j : m - i ≡ suc (m - suc i) = omega arith in
    rw (sub-one (suc i), j, f) (divided base n (m - suc i) rest r, before out base n i (m - suc i) rest (omega arith) d r)

pub digits-done : (out : List ℕ) (base n m k : ℕ) → k ≤ 0 → drop k out ≡ last_digits base (m - k) n → out ≡ last_digits base m n
digits-done out base n m zero h e = e ∙ ap (λ j. last_digits base j n) (sub-zero m)
digits-done out base n m (suc k) h e = absurd (omega arith)

-- ---- zeros

-- those that stand in front, of which the last byte is none
pub zeros-front : (l : List ℕ) → min (prefix_len (λ d. eqb d 48) l) (length l - 1) ≡ zeros l
unfolding zeros
zeros-front [] = refl
zeros-front (b ∷ []) = omega arith
zeros-front (b ∷ c ∷ l) = go (eqb b 48) refl (zeros-front (c ∷ l))
  where
    go : (t : Bool) → eqb b 48 ≡ t → min (prefix_len (λ d. eqb d 48) (c ∷ l)) (length (c ∷ l) - 1) ≡ zeros (c ∷ l)
        → min (prefix_len (λ d. eqb d 48) (b ∷ c ∷ l)) (length (b ∷ c ∷ l) - 1) ≡ cond t (suc (zeros (c ∷ l))) 0
    go true e h = rw e (rw (← h) (omega arith))
    go false e h = rw e (omega arith)

pub zeros-taken : (l : List ℕ) (n m k : ℕ) → n ≡ prefix_len (λ d. eqb d 48) l → m ≡ length l - 1 → k ≡ min n m → k ≡ zeros l
zeros-taken l n m k e f g = g ∙ rw (e, f) (zeros-front l)

pub zeros-le : (l : List ℕ) → zeros l ≤ length l
unfolding zeros
zeros-le [] = zero-le
zeros-le (b ∷ []) = zero-le
zeros-le (b ∷ c ∷ l) = go (eqb b 48) (zeros-le (c ∷ l))
  where
    go : (t : Bool) → zeros (c ∷ l) ≤ suc (length l) → cond t (suc (zeros (c ∷ l))) 0 ≤ suc (suc (length l))
    go true h = suc-le-suc h
    go false h = zero-le

-- the digits behind the zeros are the number
pub decimal-part : (ds : List ℕ) (n first : ℕ) → ds ≡ last_digits 10 10 n → first ≡ zeros ds → take (10 - first) (drop first ds) ≡ decimal n
unfolding decimal
decimal-part ds n first e f =
    let l : length ds ≡ 10 = ap length e ∙ length_digits 10 10 n in
    ap (λ m. take (m - first) (drop first ds)) (sym l) ∙ take_rest first ds ∙ ap (λ k. drop k ds) f ∙ ap (λ l. drop (zeros l) l) e
