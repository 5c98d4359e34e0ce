-- Document 01, "Journal": the words of rows, and reading them back. Well formed, check 7, is what `read_journal` reads: each record is read field by
-- field, and its words must then be the very words of the row that was read, which obeys the rules.
use Rattle.std.specs.Prelude.{ℕ, zero, suc, ◌+◌, ◌*◌, ◌%◌, Bool, ◌&&◌, cond, List, [], ◌∷◌, ◌++◌, leb, eqb, length, get_or, take, drop, set}
use Rattle.std.proofs.Math.Option.{Option, none, some}
use Rattle.std.proofs.lemmas.List.Edits.{sets}
use Rattle.journal.specs.Lists.{each, starts}
use Rattle.journal.specs.Row.{Row, row_size, scores, predecessor, size_of, latest_minute, before_of}
use Rattle.journal.specs.Ranges.{candidate_limit, row_limit, distance_ok, cell_ok}
use Rattle.journal.specs.Record.{used_word, record_of, read_row}

unfoldable mutual
  -- what follows word 0, the oldest row first
  pub words : List Row → List ℕ
  words [] = []
  words (r ∷ rs) = words rs ++ record_of (predecessor_place rs) r

  -- where the record of a further row's predecessor starts, counted from word 0, or 0 for none
  pub predecessor_place : List Row → ℕ
  predecessor_place [] = 0
  predecessor_place (r ∷ rs) = cond (scores r) (suc (length (words rs))) (predecessor_place rs)

-- the record of a row on the rows before it
abbrev pub record_on : List Row → Row → List ℕ
record_on rs r = record_of (predecessor_place rs) r

-- the used words of a journal with these rows
unfoldable pub journal : List Row → List ℕ
journal rs = used_word (suc (length (words rs))) ∷ words rs

-- a record in the words past the n used ones, and word 0 with it counted
unfoldable pub put : List ℕ → ℕ → List ℕ → List ℕ
put s n own = set (sets s n own) 0 (used_word (n + length own))

-- ---- well formed

-- row number n, after a row of the minute `since`, on a predecessor of q candidates, obeys the rules
unfoldable pub row_ok : ℕ → ℕ → ℕ → Row → Bool
row_ok since q n r =
    leb since r.minute
    && (leb (row_size r) candidate_limit
    && (eqb r.before (before_of q (row_size r))
    && (eqb (length r.distances) (row_size r * r.before) && (each (cell_ok r.before n) r.cells && each distance_ok r.distances))))

-- the words hold the row's record, and it obeys the rules on the rows before it
abbrev pub record_ok : List Row → Row → List ℕ → Bool
record_ok rs r ws = starts (record_on rs r) ws && row_ok (latest_minute rs) (size_of (predecessor rs)) (length rs) r

-- the rows of the words that follow word 0, on rows already read; at most n more rows
unfoldable pub read_rows : ℕ → List Row → List ℕ → Option (List Row)
read_rows zero rs [] = some rs
read_rows zero rs (w ∷ ws) = none
read_rows (suc n) rs [] = some rs
read_rows (suc n) rs (w ∷ ws) =
    let r = read_row (w ∷ ws) in
    let further = read_rows n (r ∷ rs) (drop (length (record_on rs r)) (w ∷ ws)) in
    cond (record_ok rs r (w ∷ ws)) further none

-- what word 0 says
abbrev pub used : List ℕ → ℕ
used s = get_or s 0 0 % 268435456

abbrev pub used_words : List ℕ → List ℕ
used_words s = take (used s) s

unfoldable pub read_journal : List ℕ → Option (List Row)
read_journal s =
    cond (eqb (get_or s 0 0) (used_word (used s)) && (leb 1 (used s) && leb (used s) (length s))) (read_rows row_limit [] (drop 1 (used_words s))) none
