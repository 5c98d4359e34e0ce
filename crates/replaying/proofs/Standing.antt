-- A row of a journal that replaying compares, at its place: its record, its predecessor's, and what the comparison of the two says. Assumes nothing.
use Prim.Native.Nat.{ℕ, zero, suc, ◌+◌, ◌-◌, ◌%◌, ◌<◌, ◌≤◌}
use native.Mathlib.Omega.{arith}
use native.Mathlib.Numerals.{add-one}
use mathlib.Core.Path.{◌≡◌, refl, sym, ap, ◌∙◌, subst, subst₂}
use mathlib.Core.Bool.{Bool, true, false, cond}
use mathlib.Core.List.{List, [], ◌∷◌}
use mathlib.Core.Option.{Option as Maybe, none, some}
use lib.Dec.{ltb, eqb, ltb→lt}
use lib.ListN.{length, get_or, take, drop, length-drop, length-append}
use lib.Seq.{drop-cons, drop-drop}
use borrow.Author.Tests.{eq-eqb, ne_eqb}
use Rattle.std.specs.Prelude.{Option, Some, None}
use Rattle.lists.specs.Lists.{number}
use Rattle.network.specs.Graph.{element_count}
use Rattle.journal.specs.Lists.{starts}
use Rattle.journal.specs.Row.{Fix, Cell, Row, no_cell, no_row, row_size, cell_of, predecessor, size_of, latest_minute, before_of, row_number, fix_of}
use Rattle.journal.specs.Ranges.{candidate_limit}
use Rattle.journal.specs.Record.{predecessor_word, first_cell, record_length, record_of, read_row}
use Rattle.journal.specs.Journal.{words, predecessor_place, record_on}
use Rattle.journal.specs.WellFormed.{Obey}
use Rattle.journal.specs.inner.Check.{predecessor_standing, latest_of, place_of}
use Rattle.journal.specs.inner.Rows.{rows_before}
use Rattle.journal.specs.declared.check.Predecessor.{Predecessor}
use Rattle.journal.specs.declared.record.Candidate.{Candidate}
use Rattle.journal.proofs.Lists.{all-at}
use Rattle.journal.proofs.Rules.{RowRules, row-rules}
use Rattle.journal.proofs.Reading.{length-record, words_small, words-drop}
use Rattle.journal.proofs.Ends.{formed, words-cons}
use Rattle.journal.proofs.Places.{Latest, latest-some, latest-none, row-obeys, row-names, row_at, row_inside}
use Rattle.journal.proofs.Stores.{take_rest}
use Rattle.journal.proofs.Walk.{latest-place, place_inside}
use Rattle.journal.proofs.WellFormed.{used-well}
use Rattle.transition.specs.Track.{Track}
use Rattle.transition.specs.inner.Track.{TrackFits}
use Rattle.rows.specs.Row.{StepScore, row}
use Rattle.rows.specs.inner.Scoring.{RecordKnown, predecessor_in}
use Rattle.rows.proofs.Records.{candidates-many}
use Rattle.decoder.specs.Call.{known_row}
use Rattle.decoder.proofs.Scores.{predecessor-scores}
use Rattle.decoder.proofs.Cells.{scores-elim}
use Rattle.decoder.proofs.Writing.{all_drop}
use Rattle.replaying.specs.Replay.{same_record}
use Rattle.replaying.specs.inner.Comparing.{RecordsStand, same_row, Replayable, StandsAt}

-- ---- rows by number

pub before-next : (rs : List Row) (n : ℕ) → n < length rs → rows_before rs (suc n) ≡ row_number rs n ∷ rows_before rs n
before-next rs n h =
    let next : suc (length rs - suc n) ≡ length rs - n = omega arith in
    drop-cons rs (length rs - suc n) no_row (omega arith) ∙ rw next

-- ---- a row that counts candidates of no predecessor, and an empty one

before-again : (q c : ℕ) → before_of q c ≡ before_of (before_of q c) c
before-again q c = go (eqb c 0)
  where
    go : (b : Bool) → cond b 0 q ≡ cond b 0 (cond b 0 q)
    go true = refl
    go false = refl

empty-row : (step : StepScore) (f : Fix) (o p : Maybe Row) → length f.candidates ≡ 0 → row step o f ≡ row step p f
unfolding row number
empty-row step f o p e = go f.candidates refl e
  where
    go : (cs : List Candidate) → f.candidates ≡ cs → length cs ≡ 0 → row step o f ≡ row step p f
    go [] q l = rw q
    go (c ∷ cs) q l = absurd (omega arith)

-- the predecessor's place stands in both records alike
place-alike : (a b : ℕ) (x y : Row) → starts (record_of a x) (record_of a y) ≡ starts (record_of b x) (record_of b y)
unfolding record_of
place-alike a b x y = rw (eq-eqb (predecessor_word a) (predecessor_word a) refl, eq-eqb (predecessor_word b) (predecessor_word b) refl)

module _ {n : ℕ} {rs : List Row} {s : List ℕ} {end : ℕ} (h : Replayable n rs s end) where
  ends_at : end ≡ suc (length (words rs))
  ends_at = sym h.ends ∙ used-well s rs (formed s rs h.reads)

  pub few-rows : length rs ≤ 65535
  few-rows = (formed s rs h.reads).1

  module _ {i at : ℕ} (st : StandsAt rs i at) where
    pub at_most : at ≤ end
    at_most =
        let w = words-drop (length rs - i) rs in
        omega (arith, st.placed, ends_at, ap length w.1, length-append (words (rows_before rs i)) w.0)

    -- a row is before it
    pub row-before-end : i < length rs → at < end
    unfolding record_of
    row-before-end l =
        let w = words-drop (length rs - suc i) rs in
        let next = ap words (before-next rs i l) ∙ words-cons (row_number rs i) (rows_before rs i) in
        omega (arith, st.placed, ends_at, ap length w.1, length-append (words (rows_before rs (suc i))) w.0, ap length next, length-append (words (rows_before rs i)) (record_on (rows_before rs i) (row_number rs i)))

    module _ (more : at < end) where
      pub row-stands : i < length rs
      row-stands = go (length rs - i) refl
        where
          go : (m : ℕ) → length rs - i ≡ m → i < length rs
          go zero e = let last : at ≡ end = st.placed ∙ rw (e, ends_at) in absurd (omega arith)
          go (suc m) e = omega arith

      abbrev r : Row
      r = row_number rs i

      abbrev qs : List Row
      qs = rows_before rs i

      stands : rows_before rs (suc i) ≡ r ∷ qs
      stands = before-next rs i row-stands

      obeys : Obey (r ∷ qs)
      obeys = row-obeys s rs h.reads (length rs - suc i) r qs stands

      rules : RowRules (latest_minute qs) (size_of (predecessor qs)) (length qs) r
      rules = row-rules (latest_minute qs) (size_of (predecessor qs)) (length qs) r obeys.0.1

      own_row : read_row (drop at s) ≡ r
      own_row = ap (λ (a : ℕ). read_row (drop a s)) st.placed ∙ row_at s rs h.reads (length rs - suc i) r qs stands

      long : length (record_on qs r) ≡ record_length (row_size r) r.before
      long = length-record (predecessor_place qs) r obeys.0.0.number

      inside : at + record_length (row_size r) r.before ≤ length s
      inside = omega (arith, st.placed, row_inside s rs h.reads (length rs - suc i) r qs stands, long)

      known : (k : ℕ) → k < row_size r → (cell_of r k).candidate.element < n
      known k l =
          ltb→lt (cell_of r k).candidate.element n
          (all-at (λ (c : Cell). ltb c.candidate.element n) r.cells k no_cell (all_drop (known_row n) (length rs - suc i) rs r qs stands h.known) l)

      -- ---- the next row

      pub next-stands : StandsAt rs (suc i) (at + record_length (row_size r) r.before)
      next-stands = record {
        within = row-stands;
        placed = rw stands (omega (arith, st.placed, ap length (words-cons r qs), length-append (words qs) (record_on qs r), long));
      }

      -- ---- the predecessor

      place-small : predecessor_place qs < 268435456
      place-small = omega (arith, place_inside qs, words_small qs obeys.1, length-drop (length rs - i) rs, few-rows)

      place-told : get_or (drop at s) 1 0 % 268435456 ≡ predecessor_place qs
      place-told =
          let named : get_or (drop at s) 1 0 ≡ predecessor_word (predecessor_place qs) = ap (λ (a : ℕ). get_or (drop a s) 1 0) st.placed ∙ row-names s rs h.reads (length rs - suc i) r qs stands in
          rw named (omega (arith, place-small))

      place-within : predecessor_place qs ≤ length s
      place-within = omega (arith, place_inside qs, st.placed, inside)

      -- its record, where there is one
      module _ {place row candidates : ℕ} (e : latest_of qs ≡ predecessor_standing place row candidates) where
        latest : Latest qs place row candidates
        latest = latest-some qs place row candidates e

        placed : place ≡ predecessor_place qs
        placed = ap place_of (sym e) ∙ latest-place qs

        among : drop (suc (length rs - suc i) + latest.after) rs ≡ latest.latest ∷ latest.earlier
        among =
            let past : drop (suc (length rs - suc i)) rs ≡ qs = sym (drop-drop 1 (length rs - suc i) rs ∙ rw add-one) ∙ ap (drop 1) stands in
            sym (drop-drop latest.after (suc (length rs - suc i)) rs) ∙ ap (drop latest.after) past ∙ latest.stands

        read : read_row (drop (predecessor_place qs) s) ≡ latest.latest
        read =
            ap (λ (a : ℕ). read_row (drop a s)) (sym placed ∙ latest.placed)
            ∙ row_at s rs h.reads (suc (length rs - suc i) + latest.after) latest.latest latest.earlier among

        some-candidates : 0 < row_size latest.latest
        some-candidates = omega (arith, (scores-elim latest.latest (predecessor-scores qs latest.latest latest.is)).1)

        latest-known : RecordKnown n (drop (predecessor_place qs) s) (row_size latest.latest)
        unfolding record_length
        latest-known =
            let l = latest in
            let long-one = length-record (predecessor_place l.earlier) l.latest (row-obeys s rs h.reads (suc (length rs - suc i) + l.after) l.latest l.earlier among).0.0.number in
            let room = row_inside s rs h.reads (suc (length rs - suc i) + l.after) l.latest l.earlier among in
            record {
              stands = record { many = ap row_size read; room = omega (arith, room, long-one, placed, l.placed, length-drop (predecessor_place qs) s) };
              element = λ j below. rw read
                  (ltb→lt (cell_of l.latest j).candidate.element n
                  (all-at (λ (c : Cell). ltb c.candidate.element n) l.latest.cells j no_cell (all_drop (known_row n) (suc (length rs - suc i) + l.after) rs l.latest l.earlier among h.known) below));
            }

      before-some : (p : Row) → predecessor qs ≡ some p → (row_size r ≡ 0 → ⊥) → r.before ≡ row_size p
      before-some p e some_size = rules.before ∙ rw (e, ne_eqb (row_size r) 0 some_size)

      before-none : predecessor qs ≡ none → r.before ≡ 0
      before-none e = rules.before ∙ rw e (go (eqb (row_size r) 0))
        where
          go : (b : Bool) → cond {A = ℕ} b 0 0 ≡ 0
          go true = refl
          go false = refl

      before-empty : row_size r ≡ 0 → r.before ≡ 0
      before-empty e = rules.before ∙ rw (eq-eqb (row_size r) 0 e)

      predecessor-known : 0 < r.before → RecordKnown n (drop (predecessor_place qs) s) r.before
      predecessor-known some-before = go (latest_of qs) refl
        where
          go : (l : Option Predecessor) → latest_of qs ≡ l → RecordKnown n (drop (predecessor_place qs) s) r.before
          go None e = absurd (omega (arith, before-none (latest-none qs e)))
          go (Some q) e =
              let size = before-some (latest e).latest (latest e).is (λ z. omega (arith, before-empty z)) in
              subst (RecordKnown n (drop (predecessor_place qs) s)) (sym size) (latest-known e)

      predecessor-is : (row_size r ≡ 0 → ⊥) → predecessor_in (drop (predecessor_place qs) s) r.before ≡ predecessor qs
      predecessor-is some_size = go (latest_of qs) refl
        where
          some-row : (p : ℕ) → 0 < p → predecessor_in (drop (predecessor_place qs) s) p ≡ some (read_row (drop (predecessor_place qs) s))
          some-row zero l = absurd (omega arith)
          some-row (suc p) l = refl

          go : (l : Option Predecessor) → latest_of qs ≡ l → predecessor_in (drop (predecessor_place qs) s) r.before ≡ predecessor qs
          go None e = let none_before = latest-none qs e in rw (before-none none_before, none_before)
          go (Some q) e =
              let size = before-some (latest e).latest (latest e).is some_size in
              some-row r.before (omega (arith, size, some-candidates e)) ∙ ap some (read e) ∙ sym (latest e).is

      -- ---- the comparison

      same-record : (step : StepScore) → same_row step (drop at s) (drop (predecessor_place qs) s) ≡ same_record step qs r
      unfolding same_row same_record
      same-record step = rw own_row (ap (λ (x : Row). starts (record_of 0 x) (record_of 0 r)) (go (row_size r) refl) ∙ place-alike 0 (predecessor_place qs) (row step (predecessor qs) (fix_of r)) r)
        where
          go : (c : ℕ) → row_size r ≡ c → row step (predecessor_in (drop (predecessor_place qs) s) r.before) (fix_of r) ≡ row step (predecessor qs) (fix_of r)
          go zero e = empty-row step (fix_of r) (predecessor_in (drop (predecessor_place qs) s) r.before) (predecessor qs) (candidates-many r ∙ e)
          go (suc c) e = ap (λ (o : Maybe Row). row step o (fix_of r)) (predecessor-is (λ z. omega arith))

      -- ---- as the code is handed the journal from the row's place on

      abbrev own : List ℕ
      own = take (length s - at) (drop at s)

      own_is : own ≡ drop at s
      own_is = take_rest at s

      own_read : read_row own ≡ r
      own_read = ap read_row own_is ∙ own_row

      pub at-inside : at ≤ length s
      at-inside = omega (arith, inside)

      pub own-head : first_cell ≤ length own
      unfolding record_length
      own-head = rw own_is (omega (arith, length-drop at s, inside))

      pub own-minute : {m : ℕ} → m ≡ (read_row own).minute → m ≡ r.minute
      own-minute e = e ∙ ap (λ (x : Row). x.minute) own_read

      module _ {c p : ℕ} (e : c ≡ row_size (read_row own)) (f : p ≡ (read_row own).before) where
        size_is : (c ≡ row_size r) × (p ≡ r.before)
        size_is = (e ∙ ap row_size own_read, f ∙ ap (λ (x : Row). x.before) own_read)

        pub counts-few : (c ≤ candidate_limit) × (p ≤ candidate_limit)
        counts-few = let k = size_is in (omega (arith, obeys.0.0.few), omega (arith, obeys.0.0.few-before))

        pub next-at : {l : ℕ} → l ≡ record_length c p → (at + l ≤ length s) × StandsAt rs (i + 1) (at + l)
        next-at {l} g =
            let k = size_is in
            let same : l ≡ record_length (row_size r) r.before = g ∙ rw (k.0, k.1) in
            (omega (arith, inside), subst₂ (StandsAt rs) (sym (add-one i)) (ap (λ (m : ℕ). at + m) (sym same)) next-stands)

      module _ {place : ℕ} (e : place ≡ get_or own 1 0 % 268435456) where
        place_is : place ≡ predecessor_place qs
        place_is = e ∙ ap (λ (l : List ℕ). get_or l 1 0 % 268435456) own_is ∙ place-told

        pub place-inside-words : place ≤ length s
        place-inside-words = omega (arith, place_is, place-within)

        abbrev previous : List ℕ
        previous = take (length s - place) (drop place s)

        previous-is : previous ≡ drop (predecessor_place qs) s
        previous-is = take_rest place s ∙ ap (λ (a : ℕ). drop a s) place_is

        pub records-stand : {t : Track} → TrackFits t → element_count t.graph ≡ n → RecordsStand t own previous
        records-stand {t} fits same = rw (own_is, previous-is) (record {
          fits = fits;
          whole = record {
            few = rw own_row obeys.0.0.few;
            few-before = rw own_row obeys.0.0.few-before;
            room = rw own_row (omega (arith, inside, length-drop at s));
          };
          element = rw (own_row, same) known;
          empty = rw own_row (rules.before ∙ before-again (size_of (predecessor qs)) (row_size r) ∙ ap (λ (b : ℕ). before_of b (row_size r)) (sym rules.before));
          predecessor = rw (own_row, same) predecessor-known;
        })

        pub row-compared : (step : StepScore) {b : Bool} → b ≡ same_row step own previous → b ≡ same_record step qs r
        row-compared step f = f ∙ rw (own_is, previous-is) (same-record step)
