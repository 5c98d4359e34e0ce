-- A turn of the loops that look for a word, and their ends. Assumes nothing.
use Prim.Native.Nat.{ℕ, zero, suc, ◌+◌, ◌-◌, ◌≤◌, ◌<◌, min, max, zero-le, suc-le-suc}
use native.Mathlib.Nat.{add-zero, add-suc, suc-add, le_of_suc-le-suc, not-suc-le-zero}
use native.Mathlib.Numerals.{add-one}
use native.Mathlib.Omega.{arith}
use mathlib.Core.Path.{◌≡◌, refl, sym, ap, ◌∙◌}
use mathlib.Core.Bool.{Bool, true, false, not, ◌||◌, cond}
use mathlib.Core.List.{List, [], ◌∷◌}
use mathlib.Core.Logic.{⊎_elim}
use lib.Dec.{leb, ltb}
use lib.ListN.{take, length, get_or, drop, drop_of_length-le, length-drop}
use lib.Seq.{drop-cons, get_or-drop}
use borrow.Author.Tests.{leb-true, leb-false, ltb-true, ltb-false}
use Rattle.std.specs.List.{prefix_len}
use Rattle.journal.proofs.Stores.{take_rest}
use Rattle.lists.proofs.Loops.{clash, two}
use Rattle.text.specs.inner.Words.{breaks, commented, gap, word_length, next_word}
use Rattle.text.specs.declared.word.Word.{Word}

-- past the last byte there is no gap and no word
pub gap-past : (c : Bool) (text : List ℕ) (i : ℕ) → length text ≤ i → i + gap c (drop i text) ≡ i
unfolding gap
gap-past c text i h = rw (drop_of_length-le text h, add-zero)

-- where the loop ends, none is left
pub gap-end : (text : List ℕ) (at i m : ℕ) (c : Bool) → m ≡ max at (length text) → (at ≤ length text → i ≤ length text) → length text ≤ i → at + gap false (drop at text) ≡ i + gap c (drop i text)
    → m ≡ at + gap false (drop at text)
gap-end text at i m c h k l e = ⊎_elim (λ t. inside (leb-true _ _ t)) (λ t. past (leb-false _ _ t)) (two (leb at (length text)))
  where
    inside : at ≤ length text → m ≡ at + gap false (drop at text)
    inside p = let j : m ≡ i = omega (arith, k p) in j ∙ sym (e ∙ gap-past c text i l)

    past : length text < at → m ≡ at + gap false (drop at text)
    past p = let j : m ≡ at = omega arith in let q : length text ≤ at = omega arith in j ∙ sym (gap-past false text at q)

run_past : (text : List ℕ) (i : ℕ) → length text ≤ i → i + word_length (drop i text) ≡ i
unfolding word_length
run_past text i h = rw (drop_of_length-le text h, add-zero)

-- what is left of a text from a place on, where the place is taken back to the text's end
pub rest-drop : (text : List ℕ) (at n : ℕ) → n ≡ min at (length text) → take (length text - n) (drop n text) ≡ drop at text
rest-drop text at n e = ⊎_elim (λ t. inside (leb-true _ _ t)) (λ t. past (leb-false _ _ t)) (two (leb at (length text)))
  where
    inside : at ≤ length text → take (length text - n) (drop n text) ≡ drop at text
    inside h = let i : n ≡ at = omega arith in take_rest n text ∙ ap (λ k. drop k text) i

    past : length text < at → take (length text - n) (drop n text) ≡ drop at text
    past h = let i : length text ≤ n = omega arith in let j : length text ≤ at = omega arith in take_rest n text ∙ drop_of_length-le text i ∙ sym (drop_of_length-le text j)

-- a word goes as far as no byte ends it
pub run-taken : (l : List ℕ) → prefix_len (λ b. not (breaks b)) l ≡ word_length l
unfolding word_length
run-taken [] = refl
run-taken (b ∷ l) = go (breaks b) refl (run-taken l)
  where
    go : (t : Bool) → breaks b ≡ t → prefix_len (λ b. not (breaks b)) l ≡ word_length l → prefix_len (λ b. not (breaks b)) (b ∷ l) ≡ cond t 0 (suc (word_length l))
    go true e h = rw e
    go false e h = rw e (rw h (omega arith))

-- a byte that does not stand before a word starts one
pub gap-stop : (c : Bool) (text : List ℕ) (i : ℕ) → i < length text → c || breaks (get_or text i 0) ≡ false → i + gap c (drop i text) ≡ i
unfolding gap
gap-stop c text i h e = rw (drop-cons text i 0 h, e, add-zero)

pub gap-turn : (c : Bool) (text : List ℕ) (i : ℕ) → i < length text → c || breaks (get_or text i 0) ≡ true
    → i + gap c (drop i text) ≡ i + 1 + gap (commented c (get_or text i 0)) (drop (i + 1) text)
unfolding gap
gap-turn c text i h e = rw (add-one, drop-cons text i 0 h, e, add-suc, suc-add)

-- ---- what a word is

none_right : (a b : Bool) → a || b ≡ false → b ≡ false
none_right true b e = clash refl e
none_right false b e = e

gap-le : (c : Bool) (l : List ℕ) → gap c l ≤ length l
unfolding gap
gap-le c [] = zero-le
gap-le c (b ∷ l) = go (c || breaks b) (gap-le (commented c b) l)
  where
    go : (t : Bool) → gap (commented c b) l ≤ length l → cond t (suc (gap (commented c b) l)) 0 ≤ suc (length l)
    go true h = suc-le-suc h
    go false h = zero-le

run-le : (l : List ℕ) → word_length l ≤ length l
unfolding word_length
run-le [] = zero-le
run-le (b ∷ l) = go (breaks b) (run-le l)
  where
    go : (t : Bool) → word_length l ≤ length l → cond t 0 (suc (word_length l)) ≤ suc (length l)
    go true h = zero-le
    go false h = suc-le-suc h

-- what follows a gap is a byte of a word
gap_ends : (c : Bool) (l : List ℕ) → gap c l < length l → breaks (get_or l (gap c l) 0) ≡ false
unfolding gap
gap_ends c [] h = absurd (not-suc-le-zero h)
gap_ends c (b ∷ l) h = go (c || breaks b) refl (gap_ends (commented c b) l) h
  where
    go : (t : Bool) → c || breaks b ≡ t → (gap (commented c b) l < length l → breaks (get_or l (gap (commented c b) l) 0) ≡ false)
        → cond t (suc (gap (commented c b) l)) 0 < suc (length l) → breaks (get_or (b ∷ l) (cond t (suc (gap (commented c b) l)) 0) 0) ≡ false
    go true e ih k = ih (le_of_suc-le-suc k)
    go false e ih k = none_right c (breaks b) e

run-solid : (l : List ℕ) (k : ℕ) → k < word_length l → breaks (get_or l k 0) ≡ false
unfolding word_length
run-solid [] k h = absurd (not-suc-le-zero h)
run-solid (b ∷ l) k h = go (breaks b) refl k h (run-solid l)
  where
    go : (t : Bool) → breaks b ≡ t → (k : ℕ) → k < cond t 0 (suc (word_length l)) → ((j : ℕ) → j < word_length l → breaks (get_or l j 0) ≡ false) → breaks (get_or (b ∷ l) k 0) ≡ false
    go true e k h ih = absurd (not-suc-le-zero h)
    go false e zero h ih = e
    go false e (suc k) h ih = ih k (le_of_suc-le-suc h)

run_ends : (l : List ℕ) → word_length l < length l → breaks (get_or l (word_length l) 0) ≡ true
unfolding word_length
run_ends [] h = absurd (not-suc-le-zero h)
run_ends (b ∷ l) h = go (breaks b) refl h (run_ends l)
  where
    go : (t : Bool) → breaks b ≡ t → cond t 0 (suc (word_length l)) < suc (length l) → (word_length l < length l → breaks (get_or l (word_length l) 0) ≡ true)
        → breaks (get_or (b ∷ l) (cond t 0 (suc (word_length l))) 0) ≡ true
    go true e h ih = e
    go false e h ih = ih (le_of_suc-le-suc h)

-- a word stands in the text behind the place, holds no byte that ends a word, and goes up to one that does or to the text's end; where none is left it
-- is empty at the text's end
pub record IsWord (text : List ℕ) (at : ℕ) (w : Word) : Type 0 where
  pub behind : at ≤ w.first
  pub order : w.first ≤ w.end
  pub inside : at ≤ length text → w.end ≤ length text
  pub solid : (k : ℕ) → w.first ≤ k → k < w.end → breaks (get_or text k 0) ≡ false
  pub whole : w.end < length text → breaks (get_or text w.end 0) ≡ true
  pub left : at ≤ length text → w.first ≡ w.end → w.end ≡ length text

-- a byte of what is left from a place on
at_drop : (text : List ℕ) (i j k : ℕ) → i + j ≡ k → breaks (get_or text k 0) ≡ breaks (get_or (drop i text) j 0)
at_drop text i j k e = ap (λ n. breaks (get_or text n 0)) (sym e) ∙ ap breaks (sym (get_or-drop i text j 0))

-- where the next word is empty, no byte is left
none_left : (text : List ℕ) (at first : ℕ) → first ≡ at + gap false (drop at text) → at ≤ length text → word_length (drop first text) ≡ 0 → first ≡ length text
none_left text at first f h r = ⊎_elim (λ t. absurd-at (ltb-true _ _ t)) (λ t. end (ltb-false _ _ t)) (two (ltb first (length text)))
  where
    end : length text ≤ first → first ≡ length text
    end l = omega (arith, gap-le false (drop at text), length-drop at text)

    absurd-at : first < length text → first ≡ length text
    absurd-at l =
        clash (at_drop text first (word_length (drop first text)) first (omega arith) ∙ run_ends (drop first text) (omega (arith, length-drop first text)))
        (at_drop text at (gap false (drop at text)) first (sym f) ∙ gap_ends false (drop at text) (omega (arith, length-drop at text)))

pub is_word : (text : List ℕ) (at : ℕ) → IsWord text at (next_word text at)
unfolding next_word
is_word text at =
    let first = at + gap false (drop at text) in
    record {
      behind = omega arith;
      order = omega arith;
      inside = λ h. omega (arith, gap-le false (drop at text), length-drop at text, run-le (drop first text), length-drop first text);
      solid = λ k h l. at_drop text first (k - first) k (omega arith) ∙ run-solid (drop first text) (k - first) (omega arith);
      whole = λ h. at_drop text first (word_length (drop first text)) (first + word_length (drop first text)) refl ∙ run_ends (drop first text) (omega (arith, length-drop first text));
      left = λ h e. sym e ∙ none_left text at first refl h (omega arith);
    }

-- past the text's end none is left
pub word-past : (text : List ℕ) (at : ℕ) → length text ≤ at → (next_word text at).first ≡ (next_word text at).end
unfolding next_word
word-past text at h = sym (run_past text (at + gap false (drop at text)) (omega arith))
