-- What closing answers, from the walk. Assumes nothing.
use Prim.Native.Nat.{ℕ, ◌+◌, ◌<◌, ◌≤◌}
use native.Mathlib.Omega.{arith}
use Rattle.std.specs.Prelude.{Option, Some, None, Ok, Err}
use mathlib.Core.Path.{◌≡◌, refl, sym, ap, ◌∙◌, subst}
use mathlib.Core.Bool.{Bool, true, false, cond}
use mathlib.Core.List.{List, [], ◌∷◌, ◌++◌, map, reverse, reverse_aux-eq}
use mathlib.Core.Option.{Option as Maybe, none, some}
use borrow.Author.Tests.{le-leb, lt-leb}
use lib.Dec.{T, leb}
use lib.ListN.{length, drop, length-drop, length-reverse}
use Rattle.lists.proofs.Lists.{map_back}
use Rattle.binary64.proofs.Order.{taken}
use Rattle.journal.specs.Row.{Row, row_size, scores, predecessor}
use Rattle.journal.specs.Record.{read_row}
use Rattle.journal.specs.Journal.{record_on, used, read_journal}
use Rattle.journal.specs.WellFormed.{Obey}
use Rattle.journal.specs.inner.Check.{latest_of, place_of, survey_of, survey}
use Rattle.journal.specs.declared.check.Predecessor.{Predecessor}
use Rattle.journal.specs.declared.check.Survey.{Survey}
use Rattle.refusals.specs.declared.Refusal.{Refusal}
use Rattle.journal.proofs.Lists.{some-none}
use Rattle.journal.proofs.WellFormed.{used-well}
use Rattle.journal.proofs.Walk.{latest-place}
use Rattle.journal.proofs.Ends.{formed, Surveyed, survey-rows}
use Rattle.journal.proofs.Places.{row-obeys, row_at, row_inside, Latest, latest-some, latest-none}
use Rattle.rows.specs.Row.{best_of}
use Rattle.rows.specs.inner.Scoring.{RecordStands, previous_of}
use Rattle.rows.specs.declared.previous.Previous.{Previous}
use Rattle.decoder.specs.Closing.{Pairs, Closed, nothing, path, closing}
use Rattle.decoder.specs.Call.{gave, refused, path_length, close_read, closing_on}
use Rattle.journal.specs.inner.Rows.{rows_in, rows_read}
use Rattle.closing.specs.inner.Walk.{first_rows, path_from, column, Scoring, Started}
use Rattle.closing.specs.Close.{PairField, close_answer, close_stored}
use Rattle.closing.specs.declared.start.Start.{Start}
use Rattle.closing.proofs.Best.{best-below}
use Rattle.closing.proofs.Steps.{obey-low, obey-room, first-all}

-- ---- the pairs in row order

column-order : (f : PairField) (w : Pairs) (n : ℕ) (buffer : List ℕ) → n ≡ length (reverse w) → column f w n buffer ≡ map f (reverse w) ++ drop (length (reverse w)) buffer
unfolding column
column-order f w n buffer e =
    reverse_aux-eq (map f w) (drop n buffer)
    ∙ ap (λ (l : List ℕ). l ++ drop n buffer) (sym (map_back f w []))
    ∙ ap (λ (k : ℕ). map f (reverse w) ++ drop k buffer) e

-- ---- no path

-- not well formed
pub closed-refused : (s : List ℕ) (room : ℕ) {k : Refusal} → survey s ≡ Err k → closing_on s room ≡ refused k
unfolding closing_on survey
closed-refused s room {k} e = go (read_journal s) e
  where
    go : (o : Maybe (List Row)) → survey_of (used s) o ≡ Err k → close_read room o ≡ refused k
    go none q = let same : Refusal.Journal ≡ k = cc in ap refused same
    go (some rs) q = cc

-- the rows that check 7 found
found_rows : {s : List ℕ} {x : Survey} → survey s ≡ Ok x → Surveyed s x.rows x.used x.latest x.minute
found_rows {s} {x} e = survey-rows s x.rows x.used x.latest x.minute e

-- no row scores
pub closed-nothing : (s : List ℕ) (room : ℕ) {x : Survey} → survey s ≡ Ok x → ((p : Predecessor) → x.latest ≡ Some p → ⊥) → closing_on s room ≡ gave nothing
unfolding closing_on closing
closed-nothing s room {x} e n =
    let r = found_rows e in
    rw (r.reads, latest-none r.rows (r.latest ∙ is_none x.latest n), le-leb 0 room (omega arith))
  where
    is_none : (o : Option Predecessor) → ((p : Predecessor) → o ≡ Some p → ⊥) → o ≡ None
    is_none None n = refl
    is_none (Some p) n = absurd (n p refl)

-- ---- the last scoring row

latest-scores : (rs : List Row) (p : Row) → predecessor rs ≡ some p → T (scores p)
unfolding predecessor
latest-scores [] p e = some-none (sym e)
latest-scores (r ∷ rs) p e = go (scores r) refl (latest-scores rs p) e
  where
    go : (b : Bool) → scores r ≡ b → (predecessor rs ≡ some p → T (scores p)) → cond b (some r) (predecessor rs) ≡ some p → T (scores p)
    go true q ih k = let same : r ≡ p = cc in subst (λ (x : Row). T (scores x)) same (taken q)
    go false q ih k = ih k

module _ (s : List ℕ) (x : Survey) (p : Predecessor) (h : Scoring s x p) where
  surveyed : Surveyed s x.rows x.used x.latest x.minute
  surveyed = found_rows h.surveyed

  same : rows_in s ≡ surveyed.rows
  same = ap rows_read surveyed.reads

  reads : read_journal s ≡ some (rows_in s)
  reads = surveyed.reads ∙ ap some (sym same)

  latest-found : latest_of (rows_in s) ≡ Some p
  latest-found = ap latest_of same ∙ surveyed.latest ∙ h.latest

  last : Latest (rows_in s) p.place p.row p.candidates
  last = latest-some (rows_in s) p.place p.row p.candidates latest-found

  obeys : Obey (last.latest ∷ last.earlier)
  obeys = row-obeys s (rows_in s) reads last.after last.latest last.earlier last.stands

  long : p.place + length (record_on last.earlier last.latest) ≤ length s
  long = omega (arith, last.placed, row_inside s (rows_in s) reads last.after last.latest last.earlier last.stands)

  pub last-inside : p.place ≤ length s
  last-inside = omega (arith, long)

  last_row : read_row (drop p.place s) ≡ last.latest
  last_row = ap (λ (k : ℕ). read_row (drop k s)) last.placed ∙ row_at s (rows_in s) reads last.after last.latest last.earlier last.stands

  pub last-stands : RecordStands (drop p.place s) p.candidates
  last-stands = record {
    many = ap row_size last_row ∙ sym last.many;
    room = rw (length-drop p.place s) (omega (arith, long, last.many, obey-room last.latest last.earlier obeys));
  }

  all-rows : first_rows s x.rows ≡ rows_in s
  all-rows = ap (first_rows s) (sym surveyed.counted ∙ ap length (sym same)) ∙ first-all s

  module _ {best : Previous} (e : best ≡ previous_of (best_of (read_row (drop p.place s)))) where
    is-best : best ≡ previous_of (best_of last.latest)
    is-best = e ∙ ap (λ (r : Row). previous_of (best_of r)) last_row

    abbrev begin : Start
    begin = record { score = best.score; back = record { rows = x.rows; end = x.used; latest = p.place; candidate = best.candidate; pairs = 0 } }

    pub started : Started s begin
    unfolding closing
    started = record {
      reached = record {
        reads = reads;
        within = omega (arith, surveyed.counted, ap length same);
        placed = rw all-rows (sym surveyed.ends ∙ used-well s (rows_in s) (formed s (rows_in s) reads));
        names = rw all-rows (sym (ap place_of latest-found) ∙ latest-place (rows_in s));
        enters = λ _. rw (all-rows, last.is, is-best) (best-below last.latest (obey-low last.latest last.earlier obeys) (latest-scores (rows_in s) last.latest last.is));
      };
      no_pairs = refl;
      closes = rw (last.is, all-rows, is-best);
    }

-- ---- a path

module _ (s : List ℕ) (x : Start) (h : Started s x) (room n : ℕ) (q : n ≡ x.back.pairs + length (path_from s x.back)) where
  abbrev pairs : Pairs
  pairs = path_from s x.back

  long-path : n ≡ length (reverse pairs)
  long-path = omega (arith, q, h.no_pairs, length-reverse pairs)

  closed-by : closing_on s room ≡ cond (leb (length (reverse pairs)) room) (gave (path (reverse pairs) x.score)) (refused Refusal.Buffer)
  unfolding closing_on
  closed-by = ap (close_read room) h.reached.reads ∙ ap (λ (c : Closed). cond (leb (path_length c) room) (gave c) (refused Refusal.Buffer)) h.closes

  pub closed-full : room < n → closing_on s room ≡ refused Refusal.Buffer
  closed-full l = let more : room < length (reverse pairs) = omega (arith, long-path) in closed-by ∙ rw (lt-leb _ _ more)

  module _ (l : n ≤ room) where
    closed-done : closing_on s room ≡ gave (path (reverse pairs) x.score)
    closed-done = let fewer : length (reverse pairs) ≤ room = omega (arith, long-path) in closed-by ∙ rw (le-leb _ _ fewer)

    pub closed-answer : Ok (Some (record { score = x.score; pairs = n })) ≡ close_answer (closing_on s room)
    unfolding close_answer
    closed-answer = rw (closed-done, long-path)

    pub closed-stored : (f : PairField) (buffer : List ℕ) → column f pairs n buffer ≡ close_stored f (closing_on s room) buffer
    unfolding close_stored
    closed-stored f buffer = rw closed-done (column-order f pairs n buffer long-path)
