-- Entries stored one after the other are a list in a buffer. Assumes nothing.
use Prim.Native.Nat.{ℕ, zero, suc, ◌<◌, ◌≤◌}
use native.Mathlib.Omega.{arith}
use mathlib.Core.Path.{◌≡◌, refl, sym, ap, ◌∙◌}
use mathlib.Core.List.{List, [], ◌∷◌, ◌++◌, append_assoc}
use lib.ListN.{length, get_or, take, drop, set}
use lib.Seq.{take-length, take-suc, drop-cons, set_at, length-take-le}
use Rattle.lists.specs.Loops.{up_to}
use Rattle.journal.specs.inner.Buffer.{entries_stored}
use Rattle.journal.specs.Buffer.{stored_first}

module _ {A : Type 0} (d : A) (xs buffer : List A) (g : ℕ → A) where
  entries-are : (n : ℕ) → n ≤ length xs → n ≤ length buffer → ((k : ℕ) → k < n → g k ≡ get_or xs k d) → entries_stored n g buffer ≡ take n xs ++ drop n buffer
  unfolding up_to
  entries-are zero l m h = refl
  entries-are (suc n) l m h =
      ap (λ (b : List A). set b n (g n)) (entries-are n (omega arith) (omega arith) (λ k i. h k (omega arith)) ∙ ap (λ (b : List A). take n xs ++ b) (drop-cons buffer n d m))
      ∙ set_at (take n xs) (get_or buffer n d) (drop (suc n) buffer) (g n) n (length-take-le n xs (omega arith))
      ∙ ap (λ (a : A). take n xs ++ (a ∷ drop (suc n) buffer)) (h n (omega arith))
      ∙ sym (append_assoc (take n xs) (get_or xs n d ∷ []) (drop (suc n) buffer))
      ∙ ap (λ (b : List A). b ++ drop (suc n) buffer) (sym (take-suc xs n d l))

  pub entries-listed : {n : ℕ} → n ≡ length xs → n ≤ length buffer → ((k : ℕ) → k < n → g k ≡ get_or xs k d) → entries_stored n g buffer ≡ stored_first xs buffer
  entries-listed {n} e m h =
      let l : n ≤ length xs = omega arith in
      entries-are n l m h ∙ rw (e, take-length xs)
