-- The walk back along the parents: what stands at each of its places, and what a step and its store leave. Assumes nothing.
use Prim.Native.Nat.{ℕ, suc, ◌+◌, ◌-◌, ◌*◌, ◌%◌, ◌<◌, ◌≤◌}
use native.Mathlib.Omega.{arith}
use native.Mathlib.Nat.{le_refl}
use mathlib.Core.Path.{◌≡◌, refl, sym, ap, ◌∙◌, subst}
use mathlib.Core.Bool.{Bool, true, false, ◌||◌, cond}
use mathlib.Core.List.{List, [], ◌∷◌, map, reverse_aux}
use mathlib.Core.Option.{some}
use borrow.Author.Tests.{lt-ltb, le-ltb, ne_eqb}
use lib.Dec.{T, ltb, eqb, ltb→lt}
use lib.ListN.{length, get_or, drop, set, length-drop, drop_of_length-le}
use lib.Seq.{drop-cons}
use lib.Ieee.{Float, inf, fin, nan, le}
use lib.Ieee.Fits.{and_r}
use Rattle.lists.proofs.Lists.{drop-stored}
use Rattle.binary64.specs.Values.{pzero}
use Rattle.binary64.specs.Ranges.{in_range}
use Rattle.journal.specs.Row.{Cell, Row, no_parent, no_cell, no_row, row_size, cell_of, score_of, scores, predecessor, size_of, latest_minute, row_number}
use Rattle.journal.specs.Ranges.{row_limit, lowest_score, parent_ok, score_ok, cell_ok}
use Rattle.journal.specs.Record.{first_cell, record_length, read_row}
use Rattle.journal.specs.Journal.{words, predecessor_place, record_on}
use Rattle.journal.specs.WellFormed.{Obey}
use Rattle.journal.proofs.Lists.{all-at, each_at, each-intro}
use Rattle.journal.proofs.Rules.{CellRules, cell-rules, row-rules}
use Rattle.journal.proofs.Reading.{length-record, words_small}
use Rattle.journal.proofs.Walk.{place_inside, place-scores, place-no-score, place-past}
use Rattle.journal.proofs.Ends.{formed, back, Ended, ended-room, ended-turn}
use Rattle.journal.proofs.Places.{row-obeys, row_at, row_inside, row-names}
use Rattle.rows.specs.inner.Scoring.{CandidateStands}
use Rattle.decoder.specs.Closing.{follow}
use Rattle.journal.specs.inner.Rows.{rows_in}
use Rattle.closing.specs.inner.Walk.{first_rows, Reached, RecordLeft, path_from, over, pair_stored, column}
use Rattle.closing.specs.Close.{PairField}
use Rattle.closing.specs.declared.walk.Back.{Back}
use Rattle.closing.proofs.Records.{row-candidate}

-- ---- a row that obeys the rules

or-false : (b : Bool) → b || false ≡ b
or-false true = refl
or-false false = refl

ranged : (n : ℕ) (x : Float) → T (in_range (lowest_score n) pzero x) → T (le x pzero)
unfolding in_range
ranged n x k = and_r (le (lowest_score n) x) (le x pzero) k

score-low : (n : ℕ) (x : Float) → T (score_ok n x) → T (le x pzero)
score-low n nan k = ranged n nan (unfold score_ok in k)
score-low n (inf true) k = unfold le in tt
score-low n (inf false) k = ranged n (inf false) (unfold score_ok in k)
score-low n (fin s m e) k = ranged n (fin s m e) (unfold score_ok in k)

module _ (r : Row) (rs : List Row) (o : Obey (r ∷ rs)) where
  -- each of its cells obeys them
  pub rules : (i : ℕ) → i < row_size r → CellRules r.before (length rs) (cell_of r i)
  rules i h =
      cell-rules r.before (length rs) (cell_of r i)
      (all-at (cell_ok r.before (length rs)) r.cells i no_cell (row-rules (latest_minute rs) (size_of (predecessor rs)) (length rs) r o.0.1).cells h)

  -- no score is above 0
  pub obey-low : (i : ℕ) → T (le (score_of r i) pzero)
  obey-low i =
      each_at (λ (c : Cell). T (le c.score pzero)) r.cells i no_cell
      (each-intro (λ (c : Cell). T (le c.score pzero)) r.cells no_cell (λ k l. score-low (length rs) (cell_of r k).score (rules k l).score)) (unfold le in tt)

  -- its record holds its candidates
  pub obey-room : first_cell + 7 * row_size r ≤ length (record_on rs r)
  unfolding record_length
  obey-room = omega (arith, length-record (predecessor_place rs) r o.0.0.number)

  -- a parent is a candidate of the latest earlier row that scores, or none
  pub obey-parent : (i : ℕ) → i < row_size r → ((cell_of r i).parent ≡ no_parent → ⊥) → (cell_of r i).parent < size_of (predecessor rs)
  obey-parent i h n =
      let before = (row-rules (latest_minute rs) (size_of (predecessor rs)) (length rs) r o.0.1).before in
      let some-cells : eqb (row_size r) 0 ≡ false = ne_eqb (row_size r) 0 (λ (e : row_size r ≡ 0). omega arith) in
      let all-before : r.before ≡ size_of (predecessor rs) = before ∙ rw some-cells in
      rw all-before at (below r.before (cell_of r i).parent n (rules i h).parent)
    where
      below : (p k : ℕ) → (k ≡ no_parent → ⊥) → T (parent_ok p k) → k < p
      below p k n t = ltb→lt k p (subst T (ap (λ (b : Bool). ltb k p || b) (ne_eqb k no_parent n) ∙ or-false (ltb k p)) t)

-- ---- the latest row that scores

latest-is : (r : Row) (rs : List Row) → predecessor (r ∷ rs) ≡ cond (scores r) (some r) (predecessor rs)
unfolding predecessor
latest-is r rs = refl

pub drop-length : {A : Type 0} (l : List A) → drop (length l) l ≡ []
drop-length l = drop_of_length-le l (le_refl (length l))

-- at most so many
pub reached-few : (s : List ℕ) (b : Back) → Reached s b → b.pairs + b.rows ≤ row_limit
reached-few s b h = omega (arith, h.within, (formed s (rows_in s) h.reads).1)

-- ---- the rows that are left

pub first-length : (s : List ℕ) (n : ℕ) → n ≤ length (rows_in s) → length (first_rows s n) ≡ n
first-length s n h = length-drop (length (rows_in s) - n) (rows_in s) ∙ omega arith

pub first-all : (s : List ℕ) → first_rows s (length (rows_in s)) ≡ rows_in s
first-all s =
    let none-past : length (rows_in s) - length (rows_in s) ≡ 0 = omega arith in
    ap (λ (k : ℕ). drop k (rows_in s)) none-past

-- a record to go over
module _ {s : List ℕ} {b : Back} (o : RecordLeft s b) where
  passed : ℕ
  passed = length (rows_in s) - b.rows

  pub here : Row
  unfolding passed
  here = get_or (rows_in s) passed no_row

  pub earlier : List Row
  earlier = first_rows s (b.rows - 1)

  split_at : drop passed (rows_in s) ≡ here ∷ earlier
  unfolding passed here earlier
  split_at =
      let next : suc (length (rows_in s) - b.rows) ≡ length (rows_in s) - (b.rows - 1) = omega (arith, o.reached.within) in
      drop-cons (rows_in s) (length (rows_in s) - b.rows) no_row (omega (arith, o.reached.within)) ∙ ap (λ (k : ℕ). here ∷ drop k (rows_in s)) next

  pub split : first_rows s b.rows ≡ here ∷ earlier
  unfolding passed
  split = split_at

  pub many : length earlier ≡ b.rows - 1
  unfolding earlier
  many = first-length s (b.rows - 1) (omega (arith, o.reached.within))

  ended : Ended s (length (rows_in s)) passed b.end
  unfolding passed
  ended = record { stand = record { rows = rows_in s; reads = o.reached.reads; enough = le_refl (length (rows_in s)) }; placed = o.reached.placed }

  more : passed < length (rows_in s)
  unfolding passed
  more = omega (arith, o.reached.within)

  pub step_room : (1 ≤ b.end) × (b.end ≤ length s) × (back s b.end ≤ b.end)
  step_room = ended-room s (length (rows_in s)) passed b.end ended more

  pub step-place : b.end - back s b.end ≡ suc (length (words earlier))
  unfolding passed earlier
  step-place =
      let turn = ended-turn s (length (rows_in s)) passed b.end ended more in
      let same : turn.stand.rows ≡ rows_in s = cc (turn.stand.reads, o.reached.reads) in
      let next : passed + 1 ≡ length (rows_in s) - (b.rows - 1) = omega (arith, o.reached.within) in
      turn.placed ∙ ap (λ (rs : List Row). suc (length (words (drop (passed + 1) rs)))) same ∙ ap (λ (k : ℕ). suc (length (words (drop k (rows_in s))))) next

  pub obeys : Obey (here ∷ earlier)
  obeys = row-obeys s (rows_in s) o.reached.reads passed here earlier split_at

  pub step_row : read_row (drop (b.end - back s b.end) s) ≡ here
  step_row = rw step-place (row_at s (rows_in s) o.reached.reads passed here earlier split_at)

  step-inside : first_cell + 7 * row_size (read_row (drop (b.end - back s b.end) s)) ≤ length (drop (b.end - back s b.end) s)
  step-inside =
      rw (step_row, length-drop (b.end - back s b.end) s)
      (omega (arith, step-place, obey-room here earlier obeys, row_inside s (rows_in s) o.reached.reads passed here earlier split_at))

  -- its first words are there
  pub step_words : first_cell ≤ length (drop (b.end - back s b.end) s)
  step_words = omega (arith, step-inside)

  -- the place that it names
  step-names : get_or (drop (b.end - back s b.end) s) 1 0 % 268435456 ≡ predecessor_place earlier
  step-names =
      let word = row-names s (rows_in s) o.reached.reads passed here earlier split_at in
      rw step-place (omega (arith, word, place_inside earlier, words_small earlier obeys.1, many, reached-few s b o.reached))

  -- where it starts tells whether it scores
  latest-is-here : b.latest ≡ predecessor_place (here ∷ earlier)
  latest-is-here = o.reached.names ∙ ap predecessor_place split

  scores-yes : b.end - back s b.end ≡ b.latest → scores here ≡ true
  scores-yes e = place-scores here earlier (sym step-place ∙ e ∙ latest-is-here)

  scores-no : (b.end - back s b.end ≡ b.latest → ⊥) → scores here ≡ false
  scores-no n = place-no-score here earlier (λ k. n (step-place ∙ k ∙ sym latest-is-here))

  -- ---- over its record

  -- what is left past it, with this candidate and so many pairs
  abbrev past : ℕ → ℕ → Back
  past candidate pairs = record { rows = length earlier; end = suc (length (words earlier)); latest = predecessor_place earlier; candidate = candidate; pairs = pairs }

  module _ (t : scores here ≡ true) where
    over_yes : over (first_rows s b.rows) b ≡ past (cell_of here b.candidate).parent (b.pairs + 1)
    unfolding over
    over_yes = ap (λ (rs : List Row). over rs b) split ∙ rw t

    follow-yes : path_from s b ≡ (length earlier, b.candidate) ∷ follow earlier (cell_of here b.candidate).parent
    unfolding follow
    follow-yes = ap (λ (rs : List Row). follow rs b.candidate) split ∙ rw (ne_eqb b.candidate no_parent o.parent, t)

    inside : b.candidate < row_size here
    inside = rw (split, latest-is here earlier, t) at (o.reached.enters o.parent)

  module _ (t : scores here ≡ false) where
    over_no : over (first_rows s b.rows) b ≡ past b.candidate b.pairs
    unfolding over
    over_no = ap (λ (rs : List Row). over rs b) split ∙ rw t

    follow-no : path_from s b ≡ follow earlier b.candidate
    unfolding follow
    follow-no = ap (λ (rs : List Row). follow rs b.candidate) split ∙ rw (ne_eqb b.candidate no_parent o.parent, t)

  again : first_rows s (length earlier) ≡ earlier
  unfolding earlier
  again = ap (first_rows s) many

  -- still at a place of the journal
  reached-past : (candidate pairs : ℕ) → pairs ≤ b.pairs + 1 → ((candidate ≡ no_parent → ⊥) → candidate < size_of (predecessor earlier)) → Reached s (past candidate pairs)
  reached-past candidate pairs few enters = record {
    reads = o.reached.reads;
    within = omega (arith, many, o.reached.within);
    placed = ap (λ (rs : List Row). suc (length (words rs))) (sym again);
    names = ap predecessor_place (sym again);
    enters = λ n. rw again (enters n);
  }

  pub over-reached : Reached s (over (first_rows s b.rows) b)
  over-reached = go (scores here) refl
    where
      go : (t : Bool) → scores here ≡ t → Reached s (over (first_rows s b.rows) b)
      go true t = rw (over_yes t) (reached-past (cell_of here b.candidate).parent (b.pairs + 1) (omega arith) (obey-parent here earlier obeys b.candidate (inside t)))
      go false t = rw (over_no t) (reached-past b.candidate b.pairs (omega arith) (λ n. rw (split, latest-is here earlier, t) at (o.reached.enters n)))

  -- as many pairs, found or still to come
  pub over-counts : (over (first_rows s b.rows) b).pairs + length (path_from s (over (first_rows s b.rows) b)) ≡ b.pairs + length (path_from s b)
  over-counts = go (scores here) refl
    where
      go : (t : Bool) → scores here ≡ t → (over (first_rows s b.rows) b).pairs + length (path_from s (over (first_rows s b.rows) b)) ≡ b.pairs + length (path_from s b)
      go true t = rw (over_yes t, follow-yes t, again) (omega arith)
      go false t = rw (over_no t, follow-no t, again)

  -- the step in code
  module _ {p : ℕ} where
    pub step-yes : b.end - back s b.end ≡ b.latest → p ≡ (cell_of (read_row (drop (b.end - back s b.end) s)) b.candidate).parent
        → ◌≡◌ {A = Back} (record { rows = b.rows - 1; end = b.end - back s b.end; latest = get_or (drop (b.end - back s b.end) s) 1 0 % 268435456; candidate = p; pairs = b.pairs + 1 })
        (over (first_rows s b.rows) b)
    step-yes t e = sym (over_yes (scores-yes t) ∙ rw (many, ← step-place, step-names, e, step_row))

  pub step-no : (b.end - back s b.end ≡ b.latest → ⊥)
      → ◌≡◌ {A = Back} (record { rows = b.rows - 1; end = b.end - back s b.end; latest = b.latest; candidate = b.candidate; pairs = b.pairs }) (over (first_rows s b.rows) b)
  step-no n =
      ap (λ (l : ℕ). record { rows = b.rows - 1; end = b.end - back s b.end; latest = l; candidate = b.candidate; pairs = b.pairs }) (latest-is-here ∙ place-past here earlier (scores-no n))
      ∙ sym (over_no (scores-no n) ∙ rw (many, ← step-place))

  pub step-candidate : b.end - back s b.end ≡ b.latest → CandidateStands (drop (b.end - back s b.end) s) b.candidate
  step-candidate t = row-candidate (drop (b.end - back s b.end) s) step-inside b.candidate (rw step_row (inside (scores-yes t)))

  pub over-pairs : (over (first_rows s b.rows) b).pairs ≤ b.pairs + 1
  over-pairs = go (scores here) refl
    where
      go : (t : Bool) → scores here ≡ t → (over (first_rows s b.rows) b).pairs ≤ b.pairs + 1
      go true t = rw (over_yes t) (omega arith)
      go false t = rw (over_no t) (omega arith)

  pub over-rows : (over (first_rows s b.rows) b).rows ≡ b.rows - 1
  over-rows = go (scores here) refl
    where
      go : (t : Bool) → scores here ≡ t → (over (first_rows s b.rows) b).rows ≡ b.rows - 1
      go true t = rw (over_yes t) many
      go false t = rw (over_no t) many

  -- ---- the pair that a step gives

  -- no pair: as many are still to come
  pub over-quiet : (over (first_rows s b.rows) b).pairs ≡ b.pairs → path_from s b ≡ path_from s (over (first_rows s b.rows) b)
  over-quiet e = go (scores here) refl
    where
      go : (t : Bool) → scores here ≡ t → path_from s b ≡ path_from s (over (first_rows s b.rows) b)
      go true t = absurd (let more : b.pairs + 1 ≡ b.pairs = rw (over_yes t) at e in omega arith)
      go false t = follow-no t ∙ rw (over_no t, again)

  -- past the record, where it starts
  pub over-place : (over (first_rows s b.rows) b).end ≡ b.end - back s b.end
  over-place = go (scores here) refl
    where
      go : (t : Bool) → scores here ≡ t → (over (first_rows s b.rows) b).end ≡ b.end - back s b.end
      go true t = rw (over_yes t) (sym step-place)
      go false t = rw (over_no t) (sym step-place)

  pub over-inside : (over (first_rows s b.rows) b).end ≤ length s
  over-inside = omega (arith, over-place, step_room)

  module _ (paired : (over (first_rows s b.rows) b).pairs ≡ b.pairs → ⊥) where
    pair-scores : scores here ≡ true
    pair-scores = go (scores here) refl
      where
        go : (t : Bool) → scores here ≡ t → t ≡ true
        go true t = refl
        go false t = absurd (paired (rw (over_no t)))

    pub over-pair : path_from s b ≡ ((over (first_rows s b.rows) b).rows, b.candidate) ∷ path_from s (over (first_rows s b.rows) b)
    over-pair = follow-yes pair-scores ∙ rw (over_yes pair-scores, again)

    pub over-row : read_row (drop (over (first_rows s b.rows) b).end s) ≡ row_number (rows_in s) (over (first_rows s b.rows) b).rows
    unfolding here passed
    over-row =
        let at : length (rows_in s) - suc (over (first_rows s b.rows) b).rows ≡ length (rows_in s) - b.rows = omega (arith, over-rows, o.reached.within) in
        rw (over-place, at) step_row

    pub over-candidate : CandidateStands (drop (over (first_rows s b.rows) b).end s) b.candidate
    over-candidate = rw over-place (row-candidate (drop (b.end - back s b.end) s) step-inside b.candidate (rw step_row (inside pair-scores)))

  -- a column of the pairs, stored from the last entry down
  pub over-column : (f : PairField) (n : ℕ) (buffer : List ℕ) (x : ℕ) → x ≡ f ((over (first_rows s b.rows) b).rows, b.candidate) → b.pairs < n → n ≤ length buffer
      → column f (path_from s (over (first_rows s b.rows) b)) (n - (over (first_rows s b.rows) b).pairs) (pair_stored b (over (first_rows s b.rows) b) n x buffer)
      ≡ column f (path_from s b) (n - b.pairs) buffer
  unfolding column pair_stored
  over-column f n buffer x e l room = go (scores here) refl
    where
      to : ℕ
      to = n - (b.pairs + 1)

      go : (t : Bool) → scores here ≡ t
          → reverse_aux (map f (path_from s (over (first_rows s b.rows) b))) (drop (n - (over (first_rows s b.rows) b).pairs) (cond (ltb b.pairs (over (first_rows s b.rows) b).pairs) (set buffer (n - (over (first_rows s b.rows) b).pairs) x) buffer))
          ≡ reverse_aux (map f (path_from s b)) (drop (n - b.pairs) buffer)
      go true t =
          let next : suc to ≡ n - b.pairs = omega arith in
          let is : x ≡ f (length earlier, b.candidate) = rw (over_yes t) at e in
          rw (over_yes t, follow-yes t, again, lt-ltb b.pairs (b.pairs + 1) (omega arith), drop-stored buffer to x (omega arith), next, is)
      go false t = rw (over_no t, follow-no t, again, le-ltb b.pairs b.pairs (omega arith))
