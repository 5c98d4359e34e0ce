-- The fields of the row that is read, by their places, and what the row reader finds. Assumes nothing.
use Prim.Native.Nat.{ℕ, ◌+◌, ◌*◌, ◌/◌, ◌%◌, ◌<◌}
use native.Mathlib.Omega.{arith}
use mathlib.Core.Path.{◌≡◌, refl, sym, ap, ◌∙◌}
use mathlib.Core.Bool.{◌&&◌, cond}
use mathlib.Core.List.{List, [], ◌∷◌}
use Rattle.std.specs.Prelude.{Option as RustOption, None}
use lib.Dec.{leb, eqb}
use lib.ListN.{length, get_or, drop}
use lib.Seq.{drop-drop}
use lib.Ieee.{Float}
use lib.Ieee.Scale.{finite}
use Rattle.lists.specs.Loops.{any_below}
use Rattle.lists.proofs.Loops.{any_same}
use Rattle.journal.specs.Row.{Cell, Row, no_cell, row_size, cell_of, score_of, scores, before_of}
use Rattle.journal.specs.Ranges.{candidate_limit}
use Rattle.journal.specs.Record.{first_cell, record_length, record_of, float_at, read_cell, read_distance, head_count, head_before, read_minute, read_row}
use Rattle.journal.specs.Journal.{row_ok}
use Rattle.journal.specs.inner.Check.{candidates_of, place_of, well_read, body_reads, whole_record, record_at}
use Rattle.journal.specs.declared.read.Record.{Record}
use Rattle.journal.specs.declared.check.Survey.{Survey}
use Rattle.journal.proofs.Reading.{length-record}
use Rattle.journal.proofs.Tests.{drop-float}
use Rattle.journal.proofs.Records.{length-each, get_or-each, row_at, row_is, size_is, number_is, record-test}

-- ---- the fields of the row that is read, by their places

pub row-size : (ws : List ℕ) → row_size (read_row ws) ≡ head_count (get_or ws 0 0)
unfolding read_row
row-size ws = length-each read_cell 7 (head_count (get_or ws 0 0)) (drop first_cell ws)

pub row-minute : (ws : List ℕ) → (read_row ws).minute ≡ get_or ws 2 0 % 268435456
unfolding read_row
row-minute ws = refl

pub row_before : (ws : List ℕ) → (read_row ws).before ≡ get_or ws 0 0 / 32 % 32
unfolding read_row
row_before ws = refl

pub row-cell : (ws : List ℕ) (k : ℕ) → k < row_size (read_row ws) → cell_of (read_row ws) k ≡ read_cell (drop (first_cell + 7 * k) ws)
unfolding read_row
row-cell ws k h =
    let l : k < head_count (get_or ws 0 0) = omega (arith, length-each read_cell 7 (head_count (get_or ws 0 0)) (drop first_cell ws)) in
    get_or-each read_cell 7 (head_count (get_or ws 0 0)) (drop first_cell ws) k no_cell l ∙ ap read_cell (drop-drop (7 * k) first_cell ws)

pub row-score : (ws : List ℕ) (k : ℕ) → k < row_size (read_row ws) → score_of (read_row ws) k ≡ float_at ws (first_cell + 7 * k + 5)
row-score ws k h = ap (λ (c : Cell). c.score) (row-cell ws k h) ∙ drop-float (first_cell + 7 * k) 5 ws

pub row-distance : (ws : List ℕ) (d : Float) (k : ℕ) → k < row_size (read_row ws) * (read_row ws).before → get_or (read_row ws).distances k d ≡ float_at ws (first_cell + 7 * row_size (read_row ws) + 1 + 2 * k)
unfolding read_row
row-distance ws d k h =
    let c = head_count (get_or ws 0 0) in
    let p = head_before (get_or ws 0 0) in
    let l : k < c * p = rw (row-size ws) at h in
    let place : first_cell + 7 * c + 1 + 2 * k + 0 ≡ first_cell + 7 * row_size (read_row ws) + 1 + 2 * k = omega (arith, row-size ws) in
    get_or-each read_distance 2 (c * p) (drop 1 (drop (7 * c) (drop first_cell ws))) k d l
    ∙ ap read_distance (
    ap (λ (xs : List ℕ). drop (2 * k) (drop 1 xs)) (drop-drop (7 * c) first_cell ws)
    ∙ ap (drop (2 * k)) (drop-drop 1 (first_cell + 7 * c) ws)
    ∙ drop-drop (2 * k) (first_cell + 7 * c + 1) ws)
    ∙ drop-float (first_cell + 7 * c + 1 + 2 * k) 0 ws
    ∙ ap (float_at ws) place

-- ---- what the row reader finds

pub record-none : (v : Survey) (ws : List ℕ) → length ws ≡ 0 → record_at v ws ≡ None
record-none v [] e = unfold record_at well_read record_of in refl
record-none v (w ∷ ws) e = absurd (omega arith)

-- its scores
scores-at : (w : ℕ) (body : List ℕ) → scores (row_at w body) ≡ any_below (head_count w) (λ k. finite (float_at (w ∷ body) (first_cell + 7 * k + 5)))
unfolding scores read_row
scores-at w body =
    ap (λ (m : ℕ). any_below m (λ i. finite (score_of (row_at w body) i))) (size_is w body)
    ∙ any_same (head_count w) (λ i. finite (score_of (row_at w body) i)) (λ k. finite (float_at (w ∷ body) (first_cell + 7 * k + 5)))
    (λ k h. ap finite (row-score (w ∷ body) k (omega (arith, size_is w body))))

length_at : (place w : ℕ) (body : List ℕ) → length (record_of place (row_at w body)) ≡ record_length (head_count w) (head_before w)
length_at place w body =
    length-record place (row_at w body) (number_is w body ∙ ap (λ (k : ℕ). k * head_before w) (sym (size_is w body)))
    ∙ ap (λ (k : ℕ). record_length k (head_before w)) (size_is w body)

abbrev pub found : ℕ → ℕ → List ℕ → RustOption Record
found c p ws = whole_record (record_length c p) c (any_below c (λ k. finite (float_at ws (first_cell + 7 * k + 5)))) (read_minute (get_or ws 2 0))

found_at : (place w : ℕ) (body : List ℕ) → whole_record (length (record_of place (row_at w body))) (row_size (row_at w body)) (scores (row_at w body)) (row_at w body).minute ≡ found (head_count w) (head_before w) (w ∷ body)
found_at place w body = cc (length_at place w body, size_is w body, scores-at w body)

-- test by test
pub record-at : (v : Survey) (ws : List ℕ) → 0 < length ws
    → record_at v ws
    ≡ cond (eqb (get_or ws 0 0 / 1024) 262144
    && (leb (head_count (get_or ws 0 0)) candidate_limit
    && (eqb (head_before (get_or ws 0 0)) (before_of (candidates_of v.latest) (head_count (get_or ws 0 0)))
    && (leb (record_length (head_count (get_or ws 0 0)) (head_before (get_or ws 0 0))) (length ws)
    && body_reads (place_of v.latest) v.minute (head_count (get_or ws 0 0)) (head_before (get_or ws 0 0)) v.rows ws))))
    (found (head_count (get_or ws 0 0)) (head_before (get_or ws 0 0)) ws)
    None
unfolding record_at
record-at v [] h = absurd (omega arith)
record-at v (w ∷ body) h =
    let place = place_of v.latest in
    let q = candidates_of v.latest in
    let ok = well_read (record_of place) read_row (row_ok v.minute q v.rows) (w ∷ body) in
    ap (λ (x : Row). cond ok (whole_record (length (record_of place x)) (row_size x) (scores x) x.minute) None) (row_is w body)
    ∙ cc (found_at place w body, record-test place v.minute q v.rows w body)
