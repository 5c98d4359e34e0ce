-- What the code of check 7 finds, by the definitions of reading.
use Rattle.std.specs.Prelude.{ℕ, suc, ◌+◌, ◌-◌, ◌*◌, ◌<◌, ◌≤◌, Bool, ◌&&◌, cond, List, [], ◌∷◌, eqb, leb, length, get_or, drop, Result, Ok, Err, Option as RustOption, Some, None}
use Rattle.std.proofs.Math.Option.{Option, none, some}
use Rattle.lists.specs.Loops.{every_below}
use Rattle.journal.specs.Lists.{starts}
use Rattle.journal.specs.Row.{Row, row_size, scores, latest_minute}
use Rattle.journal.specs.Ranges.{candidate_limit, distance_ok, cell_ok}
use Rattle.journal.specs.Record.{distances_word, length_word, predecessor_word, minute_word, read_minute, first_cell, cell_words, float_words, record_length, record_of, read_cell, read_distance, read_row}
use Rattle.journal.specs.Journal.{words, row_ok, used, read_journal}
use Rattle.journal.specs.declared.read.Record.{Record}
use Rattle.journal.specs.declared.check.Predecessor.{Predecessor}
use Rattle.journal.specs.declared.check.Survey.{Survey}
use Rattle.refusals.specs.declared.Refusal.{Refusal}

-- ---- the predecessor of a further row

-- where the predecessor's record starts, its number and how many candidates it has
abbrev pub predecessor_standing : ℕ → ℕ → ℕ → RustOption Predecessor
predecessor_standing place row candidates = Some (record { place = place; row = row; candidates = candidates })

-- how many candidates it has, 0 without one
abbrev pub candidates_of : RustOption Predecessor → ℕ
candidates_of None = 0
candidates_of (Some p) = p.candidates

-- where its record starts, 0 without one
abbrev pub place_of : RustOption Predecessor → ℕ
place_of None = 0
place_of (Some p) = p.place

-- what was surveyed may be followed by a row: it has a number of 16 bits, and the predecessor a place of 28 and at most 16 candidates
pub record Followed (v : Survey) : Type 0 where
  pub few : candidates_of v.latest ≤ candidate_limit
  pub number : v.rows < 65536
  pub place : place_of v.latest < 268435456

-- ---- one record

-- the words begin with those of what is read from them, which passes the test
unfoldable pub well_read : {A : Type 0} → (A → List ℕ) → (List ℕ → A) → (A → Bool) → List ℕ → Bool
well_read part read test ws = starts (part (read ws)) ws && test (read ws)

-- a word of kind 8, not before the minute `since`
unfoldable pub minute_reads : ℕ → ℕ → Bool
minute_reads since w = eqb w (minute_word (read_minute w)) && leb since (read_minute w)

-- word by word, past a head word of c candidates with p predecessor candidates: the predecessor's place, the minute, cells, number of distances,
-- distances, record length
unfoldable pub body_reads : ℕ → ℕ → ℕ → ℕ → ℕ → List ℕ → Bool
body_reads place since c p n ws =
    eqb (get_or ws 1 0) (predecessor_word place)
    && (minute_reads since (get_or ws 2 0)
    && (every_below c (λ k. well_read cell_words read_cell (cell_ok p n) (drop (first_cell + 7 * k) ws))
    && (eqb (get_or ws (first_cell + 7 * c) 0) (distances_word (c * p))
    && (every_below (c * p) (λ k. well_read float_words read_distance distance_ok (drop (first_cell + 7 * c + 1 + 2 * k) ws))
    && eqb (get_or ws (record_length c p - 1) 0) (length_word (record_length c p))))))

-- a record's length, its number of candidates, whether its row scores, and its minute
abbrev pub whole_record : ℕ → ℕ → Bool → ℕ → RustOption Record
whole_record n c s m = Some (record { length = n; candidates = c; scores = s; minute = m })

-- what the row reader finds at the head of the words: the record of the row after those surveyed
unfoldable pub record_at : Survey → List ℕ → RustOption Record
record_at v ws =
    cond (well_read (record_of (place_of v.latest)) read_row (row_ok v.minute (candidates_of v.latest) v.rows) ws)
    (whole_record (length (record_of (place_of v.latest) (read_row ws))) (row_size (read_row ws)) (scores (read_row ws)) (read_row ws).minute)
    None

-- ---- the journal

-- the latest of these rows that scores
unfoldable pub latest_of : List Row → RustOption Predecessor
latest_of [] = None
latest_of (r ∷ rs) = cond (scores r) (predecessor_standing (suc (length (words rs))) (length rs) (row_size r)) (latest_of rs)

-- the number of rows, of used words, the predecessor of a further row and the latest minute
abbrev pub well_formed : ℕ → ℕ → RustOption Predecessor → ℕ → Result Survey Refusal
well_formed rows used latest minute = Ok (record { rows = rows; used = used; latest = latest; minute = minute })

abbrev pub not_well_formed : Result Survey Refusal
not_well_formed = Err Refusal.Journal

abbrev pub survey_of : ℕ → Option (List Row) → Result Survey Refusal
survey_of n none = not_well_formed
survey_of n (some rs) = well_formed (length rs) n (latest_of rs) (latest_minute rs)

-- check 7: what `read_journal` reads, by its number of rows, the used words, the predecessor of a further row and the latest minute
unfoldable pub survey : List ℕ → Result Survey Refusal
survey s = survey_of (used s) (read_journal s)
