-- The walk of check 7 over the records. Assumes nothing.
use Prim.Native.Nat.{ℕ, suc, ◌+◌, ◌-◌, ◌/◌, ◌%◌, ◌<◌, ◌≤◌}
use native.Mathlib.Omega.{arith}
use native.Mathlib.Numerals.{add-one}
use mathlib.Core.Path.{◌≡◌, refl, sym, ap, ◌∙◌}
use mathlib.Core.Bool.{Bool, true, false, ◌&&◌, cond}
use mathlib.Core.List.{List, [], ◌∷◌}
use mathlib.Core.Option.{Option, none, some}
use Rattle.std.specs.Prelude.{Result, Ok, Option as RustOption, Some, None}
use lib.Dec.{T, eqb, leb}
use lib.ListN.{length, get_or, take, drop, length-append, length-drop, drop_of_length-le}
use lib.Seq.{drop-drop}
use lib.Ieee.Fits.{and_l, and_r}
use Rattle.std.proofs.lemmas.Option.{same_Some, none-some}
use Rattle.binary64.proofs.Order.{taken}
use Rattle.journal.specs.Lists.{starts}
use Rattle.journal.specs.Row.{Row, row_size, scores, predecessor, size_of, latest_minute}
use Rattle.journal.specs.Ranges.{candidate_limit, row_limit}
use Rattle.journal.specs.Record.{used_word, read_row}
use Rattle.journal.specs.Journal.{words, predecessor_place, record_on, row_ok, record_ok, read_rows, used, used_words, read_journal}
use Rattle.journal.specs.inner.Check.{well_read, whole_record, record_at, predecessor_standing, latest_of, candidates_of, place_of, Followed, not_well_formed, survey_of, survey}
use Rattle.journal.specs.declared.read.Record.{Record}
use Rattle.journal.specs.declared.check.Predecessor.{Predecessor}
use Rattle.journal.specs.declared.check.Survey.{Survey}
use Rattle.refusals.specs.declared.Refusal.{Refusal}
use Rattle.journal.proofs.Lists.{starts-split}
use Rattle.journal.proofs.Rules.{row-rules}
use Rattle.journal.proofs.Reading.{record-least, read_at, read-end}
use Rattle.journal.proofs.Stores.{take_rest}
use Rattle.journal.proofs.Tests.{kind-word}

-- ---- the predecessor

-- its candidates, and its place
latest-both : (rs : List Row) → (candidates_of (latest_of rs) ≡ size_of (predecessor rs)) × (place_of (latest_of rs) ≡ predecessor_place rs)
unfolding latest_of predecessor predecessor_place
latest-both [] = (refl, refl)
latest-both (r ∷ rs) = go (scores r) (latest-both rs)
  where
    new : RustOption Predecessor
    new = predecessor_standing (suc (length (words rs))) (length rs) (row_size r)

    go : (b : Bool) → (candidates_of (latest_of rs) ≡ size_of (predecessor rs)) × (place_of (latest_of rs) ≡ predecessor_place rs)
        → (candidates_of (cond b new (latest_of rs)) ≡ size_of (cond b (some r) (predecessor rs))) × (place_of (cond b new (latest_of rs)) ≡ cond b (suc (length (words rs))) (predecessor_place rs))
    go true ih = (refl, refl)
    go false ih = ih

pub latest-size : (rs : List Row) → candidates_of (latest_of rs) ≡ size_of (predecessor rs)
latest-size rs = (latest-both rs).0

pub latest-place : (rs : List Row) → place_of (latest_of rs) ≡ predecessor_place rs
latest-place rs = (latest-both rs).1

-- the place is among the words
pub place_inside : (rs : List Row) → predecessor_place rs ≤ length (words rs)
unfolding words predecessor_place
place_inside [] = omega arith
place_inside (r ∷ rs) = simp length-append (go (scores r) (record-least (predecessor_place rs) r) (place_inside rs))
  where
    go : (b : Bool) → 5 ≤ length (record_on rs r) → predecessor_place rs ≤ length (words rs) → cond b (suc (length (words rs))) (predecessor_place rs) ≤ length (words rs) + length (record_on rs r)
    go true l ih = omega arith
    go false l ih = omega arith

-- a row's place is that of the rows with it exactly if it scores
module _ (r : Row) (rs : List Row) where
  pub place-past : scores r ≡ false → predecessor_place (r ∷ rs) ≡ predecessor_place rs
  unfolding predecessor_place
  place-past q = rw q

  pub place-scores : suc (length (words rs)) ≡ predecessor_place (r ∷ rs) → scores r ≡ true
  place-scores e = go (scores r) refl
    where
      go : (b : Bool) → scores r ≡ b → b ≡ true
      go true q = refl
      go false q = absurd (omega (arith, place-past q, place_inside rs))

  pub place-no-score : (suc (length (words rs)) ≡ predecessor_place (r ∷ rs) → ⊥) → scores r ≡ false
  unfolding predecessor_place
  place-no-score n = go (scores r) refl
    where
      go : (b : Bool) → scores r ≡ b → b ≡ false
      go true q = absurd (n (rw q))
      go false q = refl

latest-new : (r : Row) (rs : List Row) → latest_of (r ∷ rs) ≡ cond (scores r) (predecessor_standing (suc (length (words rs))) (length rs) (row_size r)) (latest_of rs)
unfolding latest_of
latest-new r rs = refl

-- ---- one record

module _ (rs : List Row) (ws : List ℕ) where
  abbrev passes : Bool
  passes = record_ok rs (read_row ws) ws

  -- the record of what is read, if it is one
  abbrev reading : RustOption Record
  reading = cond passes (whole_record (length (record_on rs (read_row ws))) (row_size (read_row ws)) (scores (read_row ws)) (read_row ws).minute) None

  -- which is what the row reader finds after these rows
  is-reading : (used : ℕ) → record_at (record { rows = length rs; used = used; latest = latest_of rs; minute = latest_minute rs }) ws ≡ reading
  unfolding record_at well_read
  is-reading used = rw (latest-size rs, latest-place rs)

  -- what a whole record is
  pub record Found (r : Record) : Type 0 where
    pub long : r.length ≡ length (record_on rs (read_row ws))
    pub many : r.candidates ≡ row_size (read_row ws)
    pub score : r.scores ≡ scores (read_row ws)
    pub minute : r.minute ≡ (read_row ws).minute
    pub ok : T (record_ok rs (read_row ws) ws)

  found : (r : Record) → reading ≡ Some r → Found r
  found r e = go passes refl e
    where
      go : (b : Bool) → passes ≡ b → cond b (whole_record (length (record_on rs (read_row ws))) (row_size (read_row ws)) (scores (read_row ws)) (read_row ws).minute) None ≡ Some r → Found r
      go true q k =
          let same = sym (same_Some _ _ k) in
          record { long = ap (λ (x : Record). x.length) same; many = ap (λ (x : Record). x.candidates) same; score = ap (λ (x : Record). x.scores) same; minute = ap (λ (x : Record). x.minute) same; ok = taken q }
      go false q k = absurd (none-some _ k)

  bad : reading ≡ None → record_ok rs (read_row ws) ws ≡ false
  bad e = go passes refl e
    where
      go : (b : Bool) → passes ≡ b → cond b (whole_record (length (record_on rs (read_row ws))) (row_size (read_row ws)) (scores (read_row ws)) (read_row ws).minute) None ≡ None → passes ≡ false
      go true q k = absurd (none-some _ (sym k))
      go false q k = q

  -- a record lies within the words, and has five at least
  fits : T (record_ok rs (read_row ws) ws) → (5 ≤ length (record_on rs (read_row ws))) × (length (record_on rs (read_row ws)) ≤ length ws)
  fits t =
      let split = starts-split (record_on rs (read_row ws)) ws (and_l (starts (record_on rs (read_row ws)) ws) (row_ok (latest_minute rs) (size_of (predecessor rs)) (length rs) (read_row ws)) t) in
      (record-least (predecessor_place rs) (read_row ws), omega (arith, simp length-append at (ap length split)))

  -- its row is within the limit of candidates
  few : T (record_ok rs (read_row ws) ws) → row_size (read_row ws) ≤ candidate_limit
  few t =
      let obeys = and_r (starts (record_on rs (read_row ws)) ws) (row_ok (latest_minute rs) (size_of (predecessor rs)) (length rs) (read_row ws)) t in
      (row-rules (latest_minute rs) (size_of (predecessor rs)) (length rs) (read_row ws) obeys).few

-- ---- the walk

-- the row reader is lent `&journal[at..]`
pub record-asked : (journal : List ℕ) (v : Survey) {answer : RustOption Record} → answer ≡ record_at v (take (length journal - v.used) (drop v.used journal))
    → record_at v (drop v.used journal) ≡ answer
record-asked journal v h = rw (h, take_rest v.used journal)

-- at a place of the used words, with so many rows read, a predecessor of a further one, and the minute of the last
pub record Walked (journal : List ℕ) (v : Survey) : Type 0 where
  pub standing : List Row
  pub counted : length standing ≡ v.rows
  pub few : v.rows ≤ row_limit
  pub placed : suc (length (words standing)) ≡ v.used
  pub inside : v.used ≤ length journal
  pub last : latest_of standing ≡ v.latest
  pub size : candidates_of v.latest ≤ candidate_limit
  pub minute : latest_minute standing ≡ v.minute
  pub left : read_rows (row_limit - v.rows) standing (drop v.used journal) ≡ read_rows row_limit [] (drop 1 journal)

pub walked_start : (journal : List ℕ) → 1 ≤ length journal → Walked journal (record { rows = 0; used = 1; latest = None; minute = 0 })
walked_start journal h = record {
  standing = [];
  counted = refl;
  few = omega arith;
  placed = unfold words in refl;
  inside = h;
  last = unfold latest_of in refl;
  size = omega arith;
  minute = refl;
  left = refl;
}

module _ (journal : List ℕ) (v : Survey) (w : Walked journal v) where
  abbrev rest : List ℕ
  rest = drop v.used journal

  -- what is found of the whole journal
  abbrev whole : Result Survey Refusal
  whole = survey_of (length journal) (read_rows row_limit [] (drop 1 journal))

  asked : record_at v rest ≡ reading w.standing rest
  asked =
      let same : v ≡ record { rows = length w.standing; used = v.used; latest = latest_of w.standing; minute = latest_minute w.standing } = rw (w.counted, w.last, w.minute) in
      ap (λ (x : Survey). record_at x rest) same ∙ is-reading w.standing rest v.used

  -- a word of kind 7 has bits for the predecessor's place, where one of kind 5 has for the journal's length
  pub walked-followed : length journal < 268435456 → Followed v
  walked-followed h =
      let same : predecessor_place w.standing ≡ place_of v.latest = sym (latest-place w.standing) ∙ ap place_of w.last in
      record { few = w.size; number = omega (arith, w.few); place = omega (arith, place_inside w.standing, w.placed, w.inside) }

  module _ (here : v.used < length journal) where
    some_left : 0 < length rest
    some_left = simp length-drop (omega arith)

    -- no room for a further row
    pub walked-full : v.rows ≡ row_limit → not_well_formed ≡ whole
    walked-full e =
        let none_left : row_limit - v.rows ≡ 0 = omega arith in
        ap (survey_of (length journal)) (sym (sym w.left ∙ ap (λ (n : ℕ). read_rows n w.standing rest) none_left ∙ full w.standing rest some_left))
      where
        full : (rs : List Row) (ws : List ℕ) → 0 < length ws → read_rows 0 rs ws ≡ none
        full rs [] h = absurd (omega arith)
        full rs (x ∷ ws) h = unfold read_rows in refl

    module _ (room : v.rows ≡ row_limit → ⊥) where
      one_more : row_limit - v.rows ≡ suc (row_limit - (v.rows + 1))
      one_more = omega (arith, w.few)

      -- no record
      pub walked-bad : record_at v rest ≡ None → not_well_formed ≡ whole
      walked-bad e =
          ap (survey_of (length journal))
          (sym (sym w.left ∙ ap (λ (n : ℕ). read_rows n w.standing rest) one_more ∙ broken (row_limit - (v.rows + 1)) w.standing rest some_left (bad w.standing rest (sym asked ∙ e))))
        where
          broken : (n : ℕ) (rs : List Row) (ws : List ℕ) → 0 < length ws → record_ok rs (read_row ws) ws ≡ false → read_rows (suc n) rs ws ≡ none
          broken n rs [] h q = absurd (omega arith)
          broken n rs (x ∷ ws) h q = unfold read_rows in rw q

      -- a record: its length, and the walk past it
      module _ (r : Record) (e : record_at v rest ≡ Some r) where
        one_found : Found w.standing rest r
        one_found = found w.standing rest r (sym asked ∙ e)

        pub walked-room : (5 ≤ r.length) × (v.used + r.length ≤ length journal)
        walked-room =
            let f = one_found in
            let g = fits w.standing rest f.ok in
            (omega (arith, f.long, g.0), omega (arith, f.long, g.1, length-drop v.used journal))

        pub walked-turn : {l : RustOption Predecessor} → l ≡ cond r.scores (predecessor_standing v.used v.rows r.candidates) v.latest
            → Walked journal (record { rows = v.rows + 1; used = v.used + r.length; latest = l; minute = r.minute })
        walked-turn p =
            let f = one_found in
            let row = read_row rest in
            record {
              standing = row ∷ w.standing;
              counted = ap suc w.counted ∙ sym (add-one v.rows);
              few = omega (arith, w.few);
              placed = longer row f.long;
              inside = walked-room.1;
              last = latest-new row w.standing ∙ picked row f.many f.score ∙ sym p;
              size = rw p (small r.scores);
              minute = sym f.minute;
              left = sym (ap (λ (n : ℕ). read_rows n w.standing rest) one_more
                  ∙ read_at (row_limit - (v.rows + 1)) w.standing row rest some_left refl f.ok
                  ∙ ap (λ (n : ℕ). read_rows (row_limit - (v.rows + 1)) (row ∷ w.standing) (drop n rest)) (sym f.long)
                  ∙ ap (read_rows (row_limit - (v.rows + 1)) (row ∷ w.standing)) (drop-drop r.length v.used journal)) ∙ w.left;
            }
          where
            -- its candidates, or those of the predecessor before it
            small : (b : Bool) → candidates_of (cond b (predecessor_standing v.used v.rows r.candidates) v.latest) ≤ candidate_limit
            small true = omega (arith, one_found.many, few w.standing rest one_found.ok)
            small false = w.size

            longer : (row : Row) → r.length ≡ length (record_on w.standing row) → suc (length (words (row ∷ w.standing))) ≡ v.used + r.length
            longer row q = unfold words in omega (arith, length-append (words w.standing) (record_on w.standing row), w.placed)

            picked : (row : Row) → r.candidates ≡ row_size row → r.scores ≡ scores row
                → cond (scores row) (predecessor_standing (suc (length (words w.standing))) (length w.standing) (row_size row)) (latest_of w.standing) ≡ cond r.scores (predecessor_standing v.used v.rows r.candidates) v.latest
            picked row a b = rw (w.placed, w.counted, w.last, a, b)

  -- the end of the used words
  pub walked_end : length journal ≤ v.used → Ok v ≡ whole
  walked_end h =
      let ended : read_rows row_limit [] (drop 1 journal) ≡ some w.standing = sym w.left ∙ ap (read_rows (row_limit - v.rows) w.standing) (drop_of_length-le journal h) ∙ read-end (row_limit - v.rows) w.standing in
      let all : length journal ≡ v.used = omega (arith, w.inside) in
      sym (ap (survey_of (length journal)) ended ∙ rw (w.counted, all, w.last, w.minute))

-- ---- word 0

-- kind 5
used-kind : (w : ℕ) → eqb w (used_word (w % 268435456)) ≡ eqb (w / 268435456) 5
used-kind w = kind-word 5 w

-- test by test of word 0
pub survey-is : (s : List ℕ) → survey s
    ≡ cond (eqb (get_or s 0 0 / 268435456) 5 && (leb 1 (used s) && leb (used s) (length s))) (survey_of (used s) (read_rows row_limit [] (drop 1 (used_words s)))) not_well_formed
unfolding survey read_journal
survey-is s = rw (used-kind (get_or s 0 0)) (go (eqb (get_or s 0 0 / 268435456) 5 && (leb 1 (used s) && leb (used s) (length s))))
  where
    rest : Option (List Row)
    rest = read_rows row_limit [] (drop 1 (used_words s))

    go : (b : Bool) → survey_of (used s) (cond b rest none) ≡ cond b (survey_of (used s) rest) not_well_formed
    go true = refl
    go false = refl
