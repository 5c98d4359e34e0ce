-- Words by their numbers. Assumes nothing.
use Prim.Native.Nat.{ℕ, zero, suc, ◌<◌, min}
use native.Mathlib.Nat.{not-suc-le-zero, le_of_suc-le-suc}
use native.Mathlib.Omega.{arith}
use mathlib.Core.Path.{◌≡◌, refl, sym, ap, ◌∙◌}
use mathlib.Core.Bool.{Bool, true, false, cond}
use mathlib.Core.List.{List, [], ◌∷◌}
use lib.Dec.{eqb}
use lib.ListN.{length, get_or}
use Rattle.text.specs.inner.Words.{next_word, bytes_of, words_from, all_words}
use Rattle.text.specs.inner.Cursor.{along}

-- ---- numbers of words

-- the place behind n words from a place on
place : List ℕ → ℕ → ℕ → ℕ
place text zero at = at
place text (suc n) at = (next_word text (place text n at)).end

place-along : (text : List ℕ) (n : ℕ) → (along text n).at ≡ place text n 0
unfolding along place
place-along text zero = refl
place-along text (suc n) = ap (λ at. (next_word text at).end) (place-along text n)

place-next : (text : List ℕ) (n at : ℕ) → place text n (next_word text at).end ≡ place text (suc n) at
unfolding place
place-next text zero at = refl
place-next text (suc n) at = ap (λ p. (next_word text p).end) (place-next text n at)

word_at : (text : List ℕ) (f n at : ℕ) → n < length (words_from f text at) → bytes_of text (next_word text (place text n at)) ≡ get_or (words_from f text at) n []
unfolding words_from
word_at text zero n at h = absurd (not-suc-le-zero h)
word_at text (suc f) n at h = go (eqb (next_word text at).first (next_word text at).end) n h (λ m l. word_at text f m (next_word text at).end l)
  where
    go : (t : Bool) (n : ℕ) → n < length (cond t [] (bytes_of text (next_word text at) ∷ words_from f text (next_word text at).end))
        → ((m : ℕ) → m < length (words_from f text (next_word text at).end) → bytes_of text (next_word text (place text m (next_word text at).end)) ≡ get_or (words_from f text (next_word text at).end) m [])
        → bytes_of text (next_word text (place text n at)) ≡ get_or (cond t [] (bytes_of text (next_word text at) ∷ words_from f text (next_word text at).end)) n []
    go true n h ih = absurd (not-suc-le-zero h)
    go false zero h ih = unfold place in refl
    go false (suc n) h ih = ap (λ p. bytes_of text (next_word text p)) (sym (place-next text n at)) ∙ ih n (le_of_suc-le-suc h)

-- past n words, n are counted, and the next is number n, from 0, of the text's words
pub along-words : (text : List ℕ) (n : ℕ) → n < 4294967296 → (along text n).words ≡ n
unfolding along
along-words text zero h = refl
along-words text (suc n) h = ap (λ k. min (suc k) 4294967295) (along-words text n (omega arith)) ∙ omega arith

pub along-next : (text : List ℕ) (n : ℕ) → n < length (all_words text) → bytes_of text (next_word text (along text n).at) ≡ get_or (all_words text) n []
unfolding all_words
along-next text n h = ap (λ p. bytes_of text (next_word text p)) (place-along text n) ∙ word_at text (length text) n 0 h
