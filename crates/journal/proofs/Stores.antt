-- Laws of runs of stores, and of parts of a slice. Assumes nothing.
use Prim.Native.Nat.{ℕ, suc, ◌+◌, ◌-◌, ◌*◌, ◌≤◌, ◌<◌}
use native.Mathlib.Nat.{add-zero, add-suc, suc-add, le_refl}
use native.Mathlib.Numerals.{add-one}
use native.Mathlib.Omega.{arith}
use mathlib.Core.Path.{◌≡◌, refl, sym, ap, ◌∙◌, subst}
use mathlib.Core.List.{List, [], ◌∷◌, ◌++◌, append-nil}
use lib.ListN.{length, get_or, take-append-drop, take, drop, set, length-drop, drop_of_length-le}
use lib.Seq.{sets, take_all, take-suc, length-take-le, take-set-le, drop-set-add}
use lib.Ieee.{Float, nan}
use Rattle.journal.specs.Lists.{flat}
use Rattle.journal.specs.Row.{Cell, Row, no_candidate, no_cell, row_size}
use Rattle.journal.specs.inner.Row.{cells_of, CellWritable}
use Rattle.journal.specs.declared.record.Candidate.{Candidate}
use Rattle.journal.specs.Record.{head_word, length_word, predecessor_word, minute_word, used_word, first_cell, cell_words, distances_words, record_length, record_of}
use Rattle.lists.proofs.Lists.{length-number, get_or-number}
use Rattle.journal.proofs.Lists.{length-flat, flat_append}
use Rattle.journal.specs.Journal.{put}
use Rattle.journal.proofs.Reading.{length-cells, length-floats, length-record}

module _ {A : Type 0} where
  -- two runs of stores, one after the other, are one
  pub sets-append : (l : List A) (i : ℕ) (xs ys : List A) → sets l i (xs ++ ys) ≡ sets (sets l i xs) (i + length xs) ys
  sets-append l i [] ys = rw add-zero
  sets-append l i (x ∷ xs) ys = sets-append (set l i x) (suc i) xs ys ∙ rw (suc-add, add-suc)

  -- a run of stores into what is left after a, said of the whole
  sets-tail : (a : ℕ) (xs : List A) (i : ℕ) (vs : List A) → take a xs ++ sets (drop a xs) i vs ≡ sets xs (a + i) vs
  sets-tail a xs i [] = take-append-drop a xs
  sets-tail a xs i (v ∷ vs) =
      let h : a ≤ a + i = omega arith in
      let ih : take a (set xs (a + i) v) ++ sets (drop a (set xs (a + i) v)) (suc i) vs ≡ sets (set xs (a + i) v) (a + suc i) vs = sets-tail a (set xs (a + i) v) (suc i) vs in
      rw (take-set-le, drop-set-add, add-suc) at ih

  -- the part `&s[a..]`
  pub take_rest : (a : ℕ) (xs : List A) → take (length xs - a) (drop a xs) ≡ drop a xs
  take_rest a xs =
      let l : length (drop a xs) ≤ length xs - a = simp length-drop (le_refl _) in
      take_all (length xs - a) (drop a xs) l

  -- what a callee that was lent `&mut s[a..]` stored from its first element on, said of s
  pub lent-sets : (a : ℕ) (xs : List A) (vs : List A) → a ≤ length xs
      → take a xs ++ (sets (take (length xs - a) (drop a xs)) 0 vs ++ drop (length xs - a) (drop a xs)) ≡ sets xs a vs
  lent-sets a xs vs h =
      let l : length (drop a xs) ≤ length xs - a = simp length-drop (le_refl _) in
      let d : drop (length xs - a) (drop a xs) ≡ [] = drop_of_length-le (drop a xs) l in
      rw (take_rest a xs, d, append-nil, sets-tail, add-zero)

-- a turn of a loop that stores part after part, each of m words, for the entries of a list
pub stored-turn : {A : Type 0} (l : List ℕ) (i m k : ℕ) (part : A → List ℕ) (xs : List A) (d : A) → ((a : A) → length (part a) ≡ m) → k < length xs
    → sets (sets l i (flat part (take k xs))) (i + m * k) (part (get_or xs k d)) ≡ sets l i (flat part (take (k + 1) xs))
stored-turn l i m k part xs d h e =
    let long : length (flat part (take k xs)) ≡ m * k = length-flat m part h (take k xs) ∙ ap (λ (n : ℕ). m * n) (length-take-le k xs (omega arith)) in
    let more : flat part (take (k + 1) xs) ≡ flat part (take k xs) ++ part (get_or xs k d) = rw (add-one, take-suc xs k d e, flat_append part (take k xs) (get_or xs k d ∷ []), append-nil) in
    sym (rw (more, sets-append l i (flat part (take k xs)) (part (get_or xs k d)), long))

-- three head words, two parts and a last word, stored in turn
six-parts : (l : List ℕ) (h g t w n m : ℕ) (xs ys : List ℕ) → length xs ≡ n → length ys ≡ m
    → set (sets (sets (set (set (set l 0 h) 1 g) 2 t) 3 xs) (3 + n) ys) (3 + n + m) w ≡ sets l 0 (h ∷ g ∷ t ∷ (xs ++ (ys ++ (w ∷ []))))
six-parts l h g t w n m xs ys e f = rw (← e, ← f, sets-append (set (set (set l 0 h) 1 g) 2 t) 3 xs (ys ++ (w ∷ [])), sets-append _ _ ys (w ∷ []))

-- the cells of a row that is written
module _ (cs : List Candidate) (parents : List ℕ) (scores : List Float) where
  abbrev cell : ℕ → Candidate → Cell
  cell k c = record { candidate = c; parent = get_or parents k 0; score = get_or scores k nan }

  pub cell_at : (k : ℕ) → k < length cs → get_or (cells_of cs parents scores) k no_cell ≡ cell k (get_or cs k no_candidate)
  unfolding cells_of
  cell_at k h = get_or-number cell cs k no_cell no_candidate h

  pub cells-many : length (cells_of cs parents scores) ≡ length cs
  unfolding cells_of
  cells-many = length-number cell 0 cs

  pub cell-narrow : (k : ℕ) {c : Candidate} → k < length cs → c ≡ get_or cs k no_candidate
      → ((i : ℕ) → i < length (cells_of cs parents scores) → CellWritable (get_or (cells_of cs parents scores) i no_cell)) → CellWritable (cell k c)
  cell-narrow k h own narrow = subst (λ (x : Cell). CellWritable x) (cell_at k h ∙ sym (ap (cell k) own)) (narrow k (rw cells-many h))

  -- a turn of the loop that stores them
  pub cells-turn : (l old new : List ℕ) (k : ℕ) {c : Candidate} → k < length cs → c ≡ get_or cs k no_candidate
      → old ≡ sets l first_cell (flat cell_words (take k (cells_of cs parents scores)))
      → new ≡ sets old (first_cell + 7 * k) (cell_words (cell k c))
      → new ≡ sets l first_cell (flat cell_words (take (k + 1) (cells_of cs parents scores)))
  cells-turn l old new k {c} h own e f =
      f
      ∙ ap (λ (ws : List ℕ). sets ws (first_cell + 7 * k) (cell_words (cell k c))) e
      ∙ ap (λ (x : Cell). sets (sets l first_cell (flat cell_words (take k (cells_of cs parents scores)))) (first_cell + 7 * k) (cell_words x)) (ap (cell k) own ∙ sym (cell_at k h))
      ∙ stored-turn l first_cell 7 k cell_words (cells_of cs parents scores) no_cell (λ c. refl) (rw cells-many h)

-- head word, predecessor's place, minute, cells, distances and record length, stored in turn, are the record
module _ (l cells whole : List ℕ) (place : ℕ) (r : Row) (number : length r.distances ≡ row_size r * r.before) where
  stored : (len : ℕ) → len ≡ record_length (row_size r) r.before
      → cells ≡ sets (set (set (set l 0 (head_word (row_size r) r.before)) 1 (predecessor_word place)) 2 (minute_word r.minute)) first_cell (flat cell_words r.cells)
      → whole ≡ sets cells (first_cell + 7 * row_size r) (distances_words r.distances)
      → set whole (len - 1) (length_word len) ≡ sets l 0 (record_of place r)
  unfolding record_of
  stored len e f h =
      let at : len - 1 ≡ first_cell + 7 * row_size r + suc (2 * length r.distances) = unfold record_length in omega arith in
      rw (at, h, f, e)
      (six-parts l (head_word (row_size r) r.before) (predecessor_word place) (minute_word r.minute) _ (7 * row_size r) (suc (2 * length r.distances)) (flat cell_words r.cells) (distances_words r.distances) (length-cells r.cells) (ap suc (length-floats r.distances)))

  -- the cells are counted elsewhere
  pub row-stored : (n : ℕ) → row_size r ≡ n → (len : ℕ) → len ≡ record_length n r.before
      → cells ≡ sets (set (set (set l 0 (head_word n r.before)) 1 (predecessor_word place)) 2 (minute_word r.minute)) first_cell (flat cell_words r.cells)
      → whole ≡ sets cells (first_cell + 7 * n) (distances_words r.distances)
      → set whole (len - 1) (length_word len) ≡ sets l 0 (record_of place r)
  row-stored n e = rw (← e) stored

pub row-length : (place : ℕ) (r : Row) (n : ℕ) → length r.distances ≡ row_size r * r.before → row_size r ≡ n → length (record_of place r) ≡ record_length n r.before
row-length place r n number e = rw (← e) (length-record place r number)

-- a record stored by a callee that was lent `&mut s[n..]`, and then word 0
pub row_put : (s part own : List ℕ) (n l : ℕ) → n ≤ length s → part ≡ sets (take (length s - n) (drop n s)) 0 own → l ≡ length own
    → set (take n s ++ (part ++ drop (length s - n) (drop n s))) 0 (used_word (n + l)) ≡ put s n own
unfolding put
row_put s part own n l h e f =
    let stored : take n s ++ (part ++ drop (length s - n) (drop n s)) ≡ sets s n own = ap (λ (ws : List ℕ). take n s ++ (ws ++ drop (length s - n) (drop n s))) e ∙ lent-sets n s own h in
    ap (λ (ws : List ℕ). set ws 0 (used_word (n + l))) stored ∙ ap (λ (k : ℕ). set (sets s n own) 0 (used_word (n + k))) f
