-- Reading a record gives its row back, and reading a journal its rows. Assumes nothing.
use Prim.Native.Nat.{ℕ, zero, suc, ◌+◌, ◌-◌, ◌*◌, ◌/◌, ◌%◌, ◌<◌, ◌≤◌}
use native.Mathlib.Omega.{arith}
use native.Mathlib.Nat.{zero-add, div-add-mod', add-sub_of_le}
use mathlib.Core.Path.{◌≡◌, refl, sym, ap, ◌∙◌, subst}
use mathlib.Core.Bool.{Bool, true, false, ◌&&◌, cond}
use mathlib.Core.List.{List, [], ◌∷◌, ◌++◌, append_assoc, append-nil}
use mathlib.Core.Option.{Option, none, some}
use lib.Dec.{T, leb, eqb, le→leb}
use lib.ListN.{length, get_or, drop, length-append}
use lib.Seq.{drop_at, take_at, drop-append_seam}
use lib.Ieee.{Float, binary64, to_bits, of_bits}
use lib.Ieee.Bits.{of_bits-to_bits}
use lib.Ieee.Fits.{and_i, eq→eqb}
use Rattle.journal.specs.Lists.{flat, starts}
use Rattle.journal.specs.Row.{Cell, Row, row_size, scores, predecessor, size_of, latest_minute, before_of}
use Rattle.journal.specs.Ranges.{candidate_limit, row_limit, minute_limit}
use Rattle.journal.specs.Record.{head_word, minute_word, candidate_word, distances_word, length_word, used_word, high_half, low_half, head_of, cell_words, float_words, record_length, record_of, read_float, read_cell, read_distance, read_each, head_count, head_before, read_minute, read_row}
use Rattle.journal.specs.Journal.{words, predecessor_place, record_on, journal, row_ok, record_ok, read_rows, used, used_words, read_journal}
use Rattle.journal.specs.WellFormed.{Each, Fitting, CellFits, RowFits, Obey}
use Rattle.journal.proofs.LengthTable.{length-small}
use Rattle.journal.proofs.Lists.{cond-true, some-none, length-flat, starts-self}

-- ---- a field

read_float_lem : (x : Float) → Fitting x → read_float (high_half x) (low_half x) ≡ x
read_float_lem x h = ap (λ (n : ℕ). of_bits binary64 n) (div-add-mod' (to_bits binary64 x) 4294967296) ∙ of_bits-to_bits binary64 x h

module _ (e n p : ℕ) (a : e < 1024) (b : n < 2) (c : p < 32) where
  word-element : candidate_word e n p % 1024 ≡ e
  word-element = omega arith

  word-near : candidate_word e n p / 1024 % 2 ≡ n
  word-near = omega arith

  word-parent : candidate_word e n p / 2048 % 32 ≡ p
  word-parent = omega arith

module _ (c p : ℕ) (a : c ≤ 16) (b : p ≤ 16) where
  word_count : head_word c p % 32 ≡ c
  word_count = omega arith

  word-before : head_word c p / 32 % 32 ≡ p
  word-before = omega arith

word-minute : (m : ℕ) → m < minute_limit → read_minute (minute_word m) ≡ m
word-minute m h = omega arith

read_cell_lem : (c : Cell) (ws : List ℕ) → CellFits c → read_cell (cell_words c ++ ws) ≡ c
read_cell_lem c ws h =
    rw (
      word-element c.candidate.element c.candidate.near c.parent h.element h.near h.parent,
      word-near c.candidate.element c.candidate.near c.parent h.element h.near h.parent,
      word-parent c.candidate.element c.candidate.near c.parent h.element h.near h.parent,
      read_float_lem c.candidate.intrinsic h.intrinsic,
      read_float_lem c.candidate.raw_log h.raw_log,
      read_float_lem c.score h.score,
    )

-- entries that are each read back from their words
read-each : {A : Type 0} (P : A → Type 0) (part : A → List ℕ) (read : List ℕ → A) (m : ℕ) → ((a : A) → length (part a) ≡ m) → ((a : A) (ws : List ℕ) → P a → read (part a ++ ws) ≡ a)
    → (l : List A) (ws : List ℕ) → Each P l → read_each read m (length l) (flat part l ++ ws) ≡ l
unfolding read_each
read-each P part read m k r [] ws h = refl
read-each P part read m k r (a ∷ l) ws h =
    rw (append_assoc (part a) (flat part l) ws, r a (flat part l ++ ws) h.0, drop_at (part a) (flat part l ++ ws) m (k a), read-each P part read m k r l ws h.1)

read-cells : (cs : List Cell) (ws : List ℕ) → Each CellFits cs → read_each read_cell 7 (length cs) (flat cell_words cs ++ ws) ≡ cs
read-cells = read-each CellFits cell_words read_cell 7 (λ c. refl) read_cell_lem

read-floats : (xs : List Float) (ws : List ℕ) → Each Fitting xs → read_each read_distance 2 (length xs) (flat float_words xs ++ ws) ≡ xs
read-floats = read-each Fitting float_words read_distance 2 (λ x. refl) (λ x ws h. read_float_lem x h)

-- ---- how long a record is

pub length-cells : (cs : List Cell) → length (flat cell_words cs) ≡ 7 * length cs
length-cells cs = length-flat 7 cell_words (λ c. refl) cs

pub length-floats : (xs : List Float) → length (flat float_words xs) ≡ 2 * length xs
length-floats xs = length-flat 2 float_words (λ x. refl) xs

-- document 01's record length is the number of its words
pub length-record : (place : ℕ) (r : Row) → length r.distances ≡ row_size r * r.before → length (record_of place r) ≡ record_length (row_size r) r.before
unfolding record_of record_length
length-record place r h = simp length-append (omega (arith, length-cells r.cells, length-floats r.distances))

pub record-least : (place : ℕ) (r : Row) → 5 ≤ length (record_of place r)
unfolding record_of
record-least place r = simp length-append (omega arith)

pub record-small : (place : ℕ) (r : Row) → RowFits r → length (record_of place r) ≤ 629
record-small place r h = omega (arith, length-record place r h.number, length-small h.few h.few-before)

-- ---- a record

parts : (w v u : ℕ) (body : List ℕ) (c p m : ℕ) → head_count w ≡ c → head_before w ≡ p → read_minute u ≡ m
    → read_row (w ∷ v ∷ u ∷ body) ≡ record { minute = m; cells = read_each read_cell 7 c body; before = p; distances = read_each read_distance 2 (c * p) (drop 1 (drop (7 * c) body)) }
unfolding read_row
parts w v u body c p m e f g = rw (e, f, g)

module _ (place : ℕ) (r : Row) (h : RowFits r) (ws : List ℕ) where
  end : List ℕ
  end = length_word (record_length (row_size r) r.before) ∷ []

  -- past the cells
  past : List ℕ
  unfolding end
  past = distances_word (length r.distances) ∷ (flat float_words r.distances ++ (end ++ ws))

  body_is : record_of place r ++ ws ≡ head_of place r ++ (flat cell_words r.cells ++ past)
  unfolding record_of past end
  body_is = rw (
    append_assoc (flat cell_words r.cells) (distances_word (length r.distances) ∷ (flat float_words r.distances ++ end)) ws,
    append_assoc (flat float_words r.distances) end ws,
  )

  pub read-row : read_row (record_of place r ++ ws) ≡ r
  read-row =
      ap (λ (l : List ℕ). read_row l) body_is
      ∙ parts (head_word (row_size r) r.before) _ (minute_word r.minute) (flat cell_words r.cells ++ past) (row_size r) r.before r.minute (word_count (row_size r) r.before h.few h.few-before) (word-before (row_size r) r.before h.few h.few-before) (word-minute r.minute h.minute)
      ∙ rw (read-cells r.cells past h.cells, drop_at (flat cell_words r.cells) past (7 * row_size r) (length-cells r.cells), ← h.number)
      (ap (λ (l : List Float). back l) (unfold past in read-floats r.distances (end ++ ws) h.distances))
    where
      back : List Float → Row
      back l = record { minute = r.minute; cells = r.cells; before = r.before; distances = l }

-- ---- rows

pub obey-latest : (rs : List Row) (p : Row) → Obey rs → predecessor rs ≡ some p → RowFits p
unfolding predecessor
obey-latest [] p h e = some-none (sym e)
obey-latest (r ∷ rs) p h e = go (scores r) (obey-latest rs p h.1) e
  where
    go : (b : Bool) → (predecessor rs ≡ some p → RowFits p) → cond b (some r) (predecessor rs) ≡ some p → RowFits p
    go true ih k = let same : r ≡ p = cc in subst RowFits same h.0.0
    go false ih k = ih k

pub size_small : (rs : List Row) (o : Option Row) → predecessor rs ≡ o → Obey rs → size_of o ≤ candidate_limit
size_small rs none e h = omega arith
size_small rs (some p) e h = (obey-latest rs p h e).few

pub before_small : (q c : ℕ) → q ≤ candidate_limit → before_of q c ≤ candidate_limit
before_small q c h = go (eqb c 0)
  where
    go : (b : Bool) → cond b 0 q ≤ candidate_limit
    go true = omega arith
    go false = h

pub read_at : (n : ℕ) (rs : List Row) (r : Row) (xs : List ℕ) → 0 < length xs → read_row xs ≡ r → T (record_ok rs r xs)
    → read_rows (suc n) rs xs ≡ read_rows n (r ∷ rs) (drop (length (record_on rs r)) xs)
unfolding read_rows
read_at n rs r [] l e ok = absurd (omega arith)
read_at n rs r (w ∷ ws) l e ok =
    ap (λ (x : Row). look x) e ∙ cond-true (record_ok rs r (w ∷ ws)) (read_rows n (r ∷ rs) (drop (length (record_on rs r)) (w ∷ ws))) none ok
  where
    look : Row → Option (List Row)
    look x = cond (record_ok rs x (w ∷ ws)) (read_rows n (x ∷ rs) (drop (length (record_on rs x)) (w ∷ ws))) none

read_one : (n : ℕ) (rs : List Row) (r : Row) (ws : List ℕ) → RowFits r → T (row_ok (latest_minute rs) (size_of (predecessor rs)) (length rs) r) → read_rows (suc n) rs (record_on rs r ++ ws) ≡ read_rows n (r ∷ rs) ws
read_one n rs r ws h ok =
    let own = record_on rs r in
    read_at n rs r (own ++ ws) (simp length-append (omega (arith, record-least (predecessor_place rs) r))) (read-row (predecessor_place rs) r h ws)
    (and_i (starts own (own ++ ws)) (row_ok (latest_minute rs) (size_of (predecessor rs)) (length rs) r) (starts-self own ws) ok)
    ∙ ap (λ (l : List ℕ). read_rows n (r ∷ rs) l) (drop-append_seam own ws)

read_more : (n : ℕ) (rs : List Row) (ws : List ℕ) → Obey rs → read_rows (length rs + n) [] (words rs ++ ws) ≡ read_rows n rs ws
unfolding words
read_more n [] ws h = ap (λ (m : ℕ). read_rows m [] ws) (zero-add n)
read_more n (r ∷ rs) ws h =
    rw (append_assoc (words rs) (record_on rs r) ws, plus)
    (read_more (suc n) rs (record_on rs r ++ ws) h.1 ∙ read_one n rs r ws h.0.0 h.0.1)
  where
    plus : suc (length rs) + n ≡ length rs + suc n
    plus = omega arith

pub read-end : (n : ℕ) (rs : List Row) → read_rows n rs [] ≡ some rs
unfolding read_rows
read-end zero rs = refl
read-end (suc n) rs = refl

-- the rows of the words
pub read-words : (rs : List Row) → Obey rs → length rs ≤ row_limit → read_rows row_limit [] (words rs) ≡ some rs
read-words rs h l =
    ap (λ (ws : List ℕ). read_rows row_limit [] ws) (sym (append-nil (words rs)))
    ∙ ap (λ (m : ℕ). read_rows m [] (words rs ++ [])) (sym (add-sub_of_le l))
    ∙ read_more (row_limit - length rs) rs [] h ∙ read-end (row_limit - length rs) rs

-- ---- the journal

pub words_small : (rs : List Row) → Obey rs → length (words rs) ≤ 629 * length rs
unfolding words
words_small [] h = omega arith
words_small (r ∷ rs) h = simp length-append (omega (arith, words_small rs h.1, record-small (predecessor_place rs) r h.0.0))

-- the words of the rows left after a strike come first
pub words-drop : (n : ℕ) (rs : List Row) → (more : List ℕ) × (words rs ≡ words (drop n rs) ++ more)
unfolding words
words-drop zero rs = ([], sym (append-nil (words rs)))
words-drop (suc n) [] = ([], refl)
words-drop (suc n) (r ∷ rs) =
    let ih = words-drop n rs in
    let own = record_on rs r in
    (ih.0 ++ own, ap (λ (l : List ℕ). l ++ own) ih.1 ∙ append_assoc (words (drop n rs)) ih.0 own)

pub length-journal : (rs : List Row) → length (journal rs) ≡ suc (length (words rs))
unfolding journal
length-journal rs = refl

module _ (rs : List Row) (rest : List ℕ) (h : Obey rs) (l : length rs ≤ row_limit) where
  pub used-journal : used (journal rs ++ rest) ≡ suc (length (words rs))
  unfolding journal
  used-journal = omega (arith, words_small rs h)

  pub used_words-journal : used_words (journal rs ++ rest) ≡ journal rs
  used_words-journal = take_at (journal rs) rest (used (journal rs ++ rest)) (length-journal rs ∙ sym used-journal)

  first_word : get_or (journal rs ++ rest) 0 0 ≡ used_word (used (journal rs ++ rest))
  unfolding journal
  first_word = ap (λ (n : ℕ). used_word n) (sym used-journal)

  pub read-journal : read_journal (journal rs ++ rest) ≡ some rs
  unfolding read_journal
  read-journal =
      cond-true test (read_rows row_limit [] (drop 1 (used_words (journal rs ++ rest)))) none tested
      ∙ ap (λ (ws : List ℕ). read_rows row_limit [] (drop 1 ws)) used_words-journal
      ∙ (unfold journal in read-words rs h l)
    where
      s : List ℕ
      s = journal rs ++ rest

      test : Bool
      test = eqb (get_or s 0 0) (used_word (used s)) && (leb 1 (used s) && leb (used s) (length s))

      tested : T test
      tested =
          and_i (eqb (get_or s 0 0) (used_word (used s))) (leb 1 (used s) && leb (used s) (length s)) (eq→eqb first_word)
          (and_i (leb 1 (used s)) (leb (used s) (length s)) (le→leb 1 (used s) (omega (arith, used-journal))) (le→leb (used s) (length s) long))
        where
          long : used s ≤ length s
          long = omega (arith, used-journal, length-append (journal rs) rest, length-journal rs)
