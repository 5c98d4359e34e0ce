-- A row read from its record, field by field. Assumes nothing.
use Prim.Native.Nat.{ℕ, suc, ◌+◌, ◌*◌, ◌-◌, ◌/◌, ◌%◌, ◌<◌, ◌≤◌, min}
use native.Mathlib.Nat.{div-one, mul-le-mul}
use native.Mathlib.Omega.{arith}
use Rattle.std.specs.Prelude.{Result, Ok, Err}
use mathlib.Core.Option.{Option as Maybe, none, some}
use mathlib.Core.Path.{◌≡◌, refl, sym, ap, ◌∙◌}
use mathlib.Core.List.{List, ◌∷◌, map}
use borrow.Author.Tests.{le-leb, lt-leb, lt-ltb, le-ltb}
use lib.ListN.{length, get_or, take, drop, length-map, get_or-map, length-drop}
use lib.Seq.{drop-cons}
use lib.Ieee.{Float, nan}
use Rattle.journal.specs.Row.{Row, Cell, no_cell, no_row, row_size, cell_of, row_number}
use Rattle.journal.specs.Record.{first_cell, float_at, read_distance, record_length, read_row}
use Rattle.journal.specs.Journal.{words, predecessor_place, used, read_journal}
use Rattle.journal.specs.Buffer.{stored_first}
use Rattle.journal.specs.inner.Buffer.{entries_stored, FieldsStand, FloatsStand, RecordWhole}
use Rattle.journal.specs.inner.Strike.{RowsAtLeast, end_read, end_of}
use Rattle.journal.specs.inner.Check.{survey_of, survey}
use Rattle.journal.specs.declared.check.Survey.{Survey}
use Rattle.refusals.specs.declared.Refusal.{Refusal}
use Rattle.journal.specs.WellFormed.{Obey}
use Rattle.journal.proofs.Stores.{take_rest}
use Rattle.journal.proofs.Buffers.{entries-listed}
use Rattle.journal.proofs.Tests.{cell_at}
use Rattle.journal.proofs.Records.{length-each}
use Rattle.journal.proofs.RecordRead.{row-size, row_before, row-cell, row-distance}
use Rattle.journal.proofs.Reading.{length-record}
use Rattle.journal.proofs.Ends.{Surveyed, survey-rows, struck-stand}
use Rattle.journal.proofs.Places.{row-obeys, row_at, row_inside}
use Rattle.closing.specs.Row.{RowBuffers, row_buffers_of, candidate_room, row_fitted, reading_read, reading, row_answer, filled}

-- ---- the fields of the row, by their places

-- the smallest of the buffers, as the code finds it
pub same-room : (b : RowBuffers) {m1 m2 m3 m4 m5 : ℕ} → m1 ≡ min (length b.near) (length b.parents) → m2 ≡ min (length b.elements) m1
    → m3 ≡ min (length b.raw_logs) (length b.scores) → m4 ≡ min (length b.intrinsics) m3 → m5 ≡ min m2 m4 → m5 ≡ candidate_room b
same-room b e1 e2 e3 e4 e5 = rw (e5, e2, e4, e1, e3)

-- room for n candidates in each of them
pub record Rooms (n : ℕ) (b : RowBuffers) : Type 0 where
  pub elements : n ≤ length b.elements
  pub intrinsics : n ≤ length b.intrinsics
  pub near : n ≤ length b.near
  pub raw_logs : n ≤ length b.raw_logs
  pub parents : n ≤ length b.parents
  pub scores : n ≤ length b.scores

pub rooms : (n : ℕ) (b : RowBuffers) → n ≤ candidate_room b → Rooms n b
rooms n b h = omega arith

module _ (ws : List ℕ) where
  distances-read : length (read_row ws).distances ≡ get_or ws 0 0 % 32 * (get_or ws 0 0 / 32 % 32)
  unfolding read_row
  distances-read = length-each read_distance 2 (get_or ws 0 0 % 32 * (get_or ws 0 0 / 32 % 32)) (drop 1 (drop (7 * (get_or ws 0 0 % 32)) (drop first_cell ws)))

  many-distances : length (read_row ws).distances ≡ row_size (read_row ws) * (read_row ws).before
  many-distances = rw (row-size ws, row_before ws) distances-read

  pub head-whole : RecordWhole ws → first_cell ≤ length ws
  unfolding record_length
  head-whole h = omega (arith, h.room)

  -- a candidate's fields
  abbrev plain : ℕ → Cell
  plain k = record {
    candidate = record { element = get_or ws (first_cell + 7 * k) 0 % 1024; intrinsic = float_at ws (first_cell + 7 * k + 1); near = get_or ws (first_cell + 7 * k) 0 / 1024 % 2; raw_log = float_at ws (first_cell + 7 * k + 3) };
    parent = get_or ws (first_cell + 7 * k) 0 / 2048 % 32;
    score = float_at ws (first_cell + 7 * k + 5);
  }

  cell-plain : (k : ℕ) → k < row_size (read_row ws) → cell_of (read_row ws) k ≡ plain k
  cell-plain k h = row-cell ws k h ∙ cell_at (first_cell + 7 * k) ws

  -- where each float of a candidate is read
  at : (i k : ℕ) → float_at ws (first_cell + i + 7 * k) ≡ float_at ws (first_cell + 7 * k + i)
  at i k = let plus : first_cell + i + 7 * k ≡ first_cell + 7 * k + i = omega arith in ap (float_at ws) plus

  -- ---- the row of a whole record, its numbers of candidates, of predecessor candidates and of distances read

  module _ (h : RecordWhole ws) {count before pairs : ℕ} (c : count ≡ row_size (read_row ws)) (p : before ≡ (read_row ws).before) (e : pairs ≡ count * before) where
    long : 7 * count + 2 * (count * before) + 5 ≤ length ws
    unfolding record_length
    long = rw (c, p) h.room

    product : count * before ≤ 256
    product =
        let few : count ≤ 16 = omega (arith, c, h.few) in
        let few-before : before ≤ 16 = omega (arith, p, h.few-before) in
        mul-le-mul few few-before

    pub fields-stand : (unit limit : ℕ) (buffer : List ℕ) → 0 < unit → 0 < limit → count ≤ length buffer → FieldsStand ws count unit limit buffer
    fields-stand unit limit buffer u l room = record { inside = omega (arith, long); some-unit = u; some-limit = l; room = room }

    pub floats-stand : (place : ℕ) (buffer : List Float) → place ≤ first_cell + 5 → count ≤ length buffer → FloatsStand ws place 7 count buffer
    floats-stand place buffer l room = record { inside = λ k i. omega (arith, long); small = omega (arith, c, h.few); room = room }

    pub distances-stand : (buffer : List Float) → pairs ≤ length buffer → FloatsStand ws (first_cell + 7 * count + 1) 2 pairs buffer
    distances-stand buffer room = record { inside = λ k i. omega (arith, long, e); small = omega (arith, product, e, c, h.few); room = room }

    -- a column of the cells: where its entries are read
    column-listed : {A : Type 0} (f : Cell → A) (g : ℕ → A) (buffer : List A) → ((k : ℕ) → g k ≡ f (plain k)) → count ≤ length buffer
        → entries_stored count g buffer ≡ stored_first (map f (read_row ws).cells) buffer
    column-listed f g buffer q room =
        entries-listed (f no_cell) (map f (read_row ws).cells) buffer g (c ∙ sym (length-map (read_row ws).cells f)) (omega (arith, c))
        (λ k l. q k ∙ ap f (sym (cell-plain k (omega (arith, c)))) ∙ sym (get_or-map f (read_row ws).cells k no_cell))

    -- ---- checked and stored

    module _ (b : RowBuffers) where
      pub row-longer : candidate_room b < count → row_fitted b (read_row ws) ≡ Err Refusal.Buffer
      unfolding row_fitted
      row-longer l = let m : candidate_room b < row_size (read_row ws) = omega (arith, c) in rw (lt-leb _ _ m)

      module _ (l : count ≤ candidate_room b) where
        room : row_size (read_row ws) ≤ candidate_room b
        room = omega (arith, c)

        pub distances-longer : length b.distances < pairs → row_fitted b (read_row ws) ≡ Err Refusal.Buffer
        unfolding row_fitted
        distances-longer d = let m : length b.distances < length (read_row ws).distances = rw (many-distances, ← c, ← p, ← e) d in rw (le-leb _ _ room, lt-leb _ _ m)

        module _ (d : pairs ≤ length b.distances) where
          row_fits : row_fitted b (read_row ws) ≡ Ok (read_row ws)
          unfolding row_fitted
          row_fits = let m : length (read_row ws).distances ≤ length b.distances = rw (many-distances, ← c, ← p, ← e) d in rw (le-leb _ _ room, le-leb _ _ m)

          pub row-answer : Ok (record { candidates = count; before = before; minute = (read_row ws).minute }) ≡ row_answer (row_fitted b (read_row ws))
          unfolding row_answer
          row-answer = rw (row_fits, c, p)

          pub row-filled : {elements : List ℕ} {intrinsics : List Float} {near : List ℕ} {raw_logs : List Float} {parents : List ℕ} {scores distances : List Float}
              → elements ≡ entries_stored count (λ k. get_or ws (first_cell + 7 * k) 0 / 1 % 1024) b.elements
              → intrinsics ≡ entries_stored count (λ k. float_at ws (first_cell + 1 + 7 * k)) b.intrinsics
              → near ≡ entries_stored count (λ k. get_or ws (first_cell + 7 * k) 0 / 1024 % 2) b.near
              → raw_logs ≡ entries_stored count (λ k. float_at ws (first_cell + 3 + 7 * k)) b.raw_logs
              → parents ≡ entries_stored count (λ k. get_or ws (first_cell + 7 * k) 0 / 2048 % 32) b.parents
              → scores ≡ entries_stored count (λ k. float_at ws (first_cell + 5 + 7 * k)) b.scores
              → distances ≡ entries_stored pairs (λ k. float_at ws (first_cell + 7 * count + 1 + 2 * k)) b.distances
              → row_buffers_of elements intrinsics near raw_logs parents scores distances ≡ filled (row_fitted b (read_row ws)) b
          unfolding filled
          row-filled q1 q2 q3 q4 q5 q6 q7 =
              let each = rooms count b l in
              let e1 = q1 ∙ column-listed (λ (x : Cell). x.candidate.element) (λ k. get_or ws (first_cell + 7 * k) 0 / 1 % 1024) b.elements (λ k. ap (λ (w : ℕ). w % 1024) (div-one (get_or ws (first_cell + 7 * k) 0))) each.elements in
              let e2 = q2 ∙ column-listed (λ (x : Cell). x.candidate.intrinsic) (λ k. float_at ws (first_cell + 1 + 7 * k)) b.intrinsics (at 1) each.intrinsics in
              let e3 = q3 ∙ column-listed (λ (x : Cell). x.candidate.near) (λ k. get_or ws (first_cell + 7 * k) 0 / 1024 % 2) b.near (λ k. refl) each.near in
              let e4 = q4 ∙ column-listed (λ (x : Cell). x.candidate.raw_log) (λ k. float_at ws (first_cell + 3 + 7 * k)) b.raw_logs (at 3) each.raw_logs in
              let e5 = q5 ∙ column-listed (λ (x : Cell). x.parent) (λ k. get_or ws (first_cell + 7 * k) 0 / 2048 % 32) b.parents (λ k. refl) each.parents in
              let e6 = q6 ∙ column-listed (λ (x : Cell). x.score) (λ k. float_at ws (first_cell + 5 + 7 * k)) b.scores (at 5) each.scores in
              let number : pairs ≡ length (read_row ws).distances = rw (many-distances, ← c, ← p) e in
              let distance = λ (k : ℕ) (i : k < pairs). ap (λ (n : ℕ). float_at ws (first_cell + 7 * n + 1 + 2 * k)) c ∙ sym (row-distance ws nan k (rw (← c, ← p, ← e) i)) in
              let e7 = q7 ∙ entries-listed nan (read_row ws).distances b.distances (λ k. float_at ws (first_cell + 7 * count + 1 + 2 * k)) number d distance in
              rw row_fits (rw (e1, e2, e3, e4, e5, e6, e7))

-- a refusal is answered, and leaves the buffers as they were
pub row-refused : {l : Result Row Refusal} {k : Refusal} (b : RowBuffers) → l ≡ Err k → (Err k ≡ row_answer l) × (b ≡ filled l b)
unfolding row_answer filled
row-refused b e = rw e (refl, refl)

-- ---- a row at its place in the journal

abbrev pub words_from : List ℕ → ℕ → List ℕ
words_from s place = take (length s - place) (drop place s)

pub row-unread : (s : List ℕ) (n : ℕ) (b : RowBuffers) {k : Refusal} → survey s ≡ Err k → reading s n b ≡ Err k
unfolding reading survey
row-unread s n b {k} e = go (read_journal s) e
  where
    go : (o : Maybe (List Row)) → survey_of (used s) o ≡ Err k → reading_read n b o ≡ Err k
    go none q = let same : Refusal.Journal ≡ k = cc in rw same
    go (some rs) q = cc

module _ (s : List ℕ) {x : Survey} (e : survey s ≡ Ok x) (n : ℕ) where
  surveyed : Surveyed s x.rows x.used x.latest x.minute
  surveyed = survey-rows s x.rows x.used x.latest x.minute e

  pub row-past : (b : RowBuffers) → x.rows ≤ n → reading s n b ≡ Err Refusal.Row
  unfolding reading
  row-past b l =
      let m : length surveyed.rows ≤ n = omega (arith, surveyed.counted) in
      rw (surveyed.reads, le-ltb _ _ m)

  module _ (l : n < x.rows) where
    pub row-standing : RowsAtLeast s (x.rows - n)
    row-standing = struck-stand s (x.rows - n) x.rows x.used x.latest x.minute e (omega arith)

    module _ {place : ℕ} (q : place ≡ end_of s (x.rows - n)) where
      k : ℕ
      k = length surveyed.rows - suc n

      split : drop k surveyed.rows ≡ row_number surveyed.rows n ∷ drop (x.rows - n) surveyed.rows
      unfolding k
      split =
          let next : suc (length surveyed.rows - suc n) ≡ x.rows - n = omega (arith, surveyed.counted) in
          drop-cons surveyed.rows (length surveyed.rows - suc n) no_row (omega (arith, surveyed.counted)) ∙ ap (λ (m : ℕ). row_number surveyed.rows n ∷ drop m surveyed.rows) next

      placed : place ≡ suc (length (words (drop (x.rows - n) surveyed.rows)))
      unfolding end_of
      placed = q ∙ ap (end_read (x.rows - n)) surveyed.reads

      pub row-place : place ≤ length s
      row-place = omega (arith, placed, row_inside s surveyed.rows surveyed.reads k (row_number surveyed.rows n) (drop (x.rows - n) surveyed.rows) split)

      row_here : read_row (drop place s) ≡ row_number surveyed.rows n
      row_here = ap (λ (m : ℕ). read_row (drop m s)) placed ∙ row_at s surveyed.rows surveyed.reads k (row_number surveyed.rows n) (drop (x.rows - n) surveyed.rows) split

      obeys : Obey (row_number surveyed.rows n ∷ drop (x.rows - n) surveyed.rows)
      obeys = row-obeys s surveyed.rows surveyed.reads k (row_number surveyed.rows n) (drop (x.rows - n) surveyed.rows) split

      row_whole : RecordWhole (drop place s)
      row_whole = record {
        few = rw row_here obeys.0.0.few;
        few-before = rw row_here obeys.0.0.few-before;
        room = rw (row_here, length-drop place s)
            (omega (arith, placed, length-record (predecessor_place (drop (x.rows - n) surveyed.rows)) (row_number surveyed.rows n) obeys.0.0.number, row_inside s surveyed.rows surveyed.reads k (row_number surveyed.rows n) (drop (x.rows - n) surveyed.rows) split));
      }

      -- as the code reads them
      pub row-whole : RecordWhole (words_from s place)
      row-whole = rw take_rest row_whole

      pub row-reading : (b : RowBuffers) → reading s n b ≡ row_fitted b (read_row (words_from s place))
      unfolding reading
      row-reading b =
          let m : n < length surveyed.rows = omega (arith, surveyed.counted) in
          ap (reading_read n b) surveyed.reads ∙ rw (lt-ltb _ _ m, take_rest, row_here)
