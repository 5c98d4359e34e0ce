-- The lengths at the records' ends lead back from the last row to the first. Assumes nothing.
use Prim.Native.Nat.{ℕ, zero, suc, ◌+◌, ◌-◌, ◌%◌, ◌<◌, ◌≤◌}
use native.Mathlib.Omega.{arith}
use native.Mathlib.Numerals.{add-one}
use mathlib.Core.Path.{◌≡◌, refl, sym, ap, ◌∙◌, subst}
use mathlib.Core.List.{List, [], ◌∷◌, ◌++◌, append_assoc}
use mathlib.Core.Option.{Option, none, some}
use Rattle.std.specs.Prelude.{Option as RustOption, Ok, Err}
use borrow.Author.Tests.{le-leb, lt-leb}
use lib.ListN.{length, get_or, drop, set, length-append, length-drop}
use lib.Seq.{drop-cons, get_or_at}
use Rattle.journal.specs.Lists.{flat}
use Rattle.journal.specs.Row.{Row, no_row, row_size, latest_minute}
use Rattle.journal.specs.Record.{length_word, used_word, head_of, cell_words, distances_words, record_length, record_of}
use Rattle.journal.specs.Journal.{words, predecessor_place, record_on, journal, used, read_journal}
use Rattle.journal.specs.WellFormed.{RowFits, Obey, WellFormed as Formed}
use Rattle.journal.specs.inner.Check.{latest_of, well_formed, survey_of, survey}
use Rattle.journal.specs.Call.{recounted, striking}
use Rattle.journal.specs.inner.Strike.{RowsAtLeast, end_of}
use Rattle.refusals.specs.Refusals.{Checked}
use Rattle.refusals.specs.declared.Refusal.{Refusal}
use Rattle.journal.specs.declared.check.Predecessor.{Predecessor}
use Rattle.journal.specs.declared.check.Survey.{Survey}
use Rattle.journal.proofs.Lists.{same-ok}
use Rattle.journal.proofs.Reading.{length-record, record-small, words_small, words-drop, length-journal}
use Rattle.journal.proofs.WellFormed.{well-formed, used-well}

-- ---- the last word of a record

front : ℕ → Row → List ℕ
front place r = head_of place r ++ (flat cell_words r.cells ++ distances_words r.distances)

record-ends : (place : ℕ) (r : Row) → record_of place r ≡ front place r ++ (length_word (record_length (row_size r) r.before) ∷ [])
unfolding record_of front
record-ends place r = ap (λ (l : List ℕ). head_of place r ++ l) (sym (append_assoc (flat cell_words r.cells) (distances_words r.distances) (length_word (record_length (row_size r) r.before) ∷ [])))

-- stands before what follows the record
last-at : (place : ℕ) (r : Row) (w : ℕ) (xs ys : List ℕ) → RowFits r
    → get_or (w ∷ ((xs ++ record_of place r) ++ ys)) (length (xs ++ record_of place r)) 0 ≡ length_word (length (record_of place r))
last-at place r w xs ys f =
    let l = length_word (record_length (row_size r) r.before) in
    let whole = record_of place r in
    let most = front place r in
    let same : w ∷ ((xs ++ whole) ++ ys) ≡ (w ∷ (xs ++ most)) ++ (l ∷ ys) = rw (record-ends place r, ← append_assoc xs most (l ∷ []), append_assoc (xs ++ most) (l ∷ []) ys) in
    let long : length (w ∷ (xs ++ most)) ≡ length (xs ++ whole) = rw (record-ends place r) (simp length-append (omega arith)) in
    ap (λ (z : List ℕ). get_or z (length (xs ++ whole)) 0) same
    ∙ get_or_at (w ∷ (xs ++ most)) l ys 0 (length (xs ++ whole)) long
    ∙ ap length_word (sym (length-record place r f.number))

-- ---- back over the last rows

pub words-cons : (r : Row) (rs : List Row) → words (r ∷ rs) ≡ words rs ++ record_on rs r
unfolding words
words-cons r rs = refl

pub journal-split : (rs : List Row) (xs more rest : List ℕ) → words rs ≡ xs ++ more → journal rs ++ rest ≡ used_word (suc (length (words rs))) ∷ (xs ++ (more ++ rest))
unfolding journal
journal-split rs xs more rest e = ap (λ (l : List ℕ). used_word (suc (length (words rs))) ∷ l) (ap (λ (l : List ℕ). l ++ rest) e ∙ append_assoc xs more rest)

pub obey-drop : (n : ℕ) (rs : List Row) → Obey rs → Obey (drop n rs)
obey-drop zero rs h = h
obey-drop (suc n) [] h = tt
obey-drop (suc n) (r ∷ rs) h = obey-drop n rs h.1

-- what stands at the end of the record before place `at`
abbrev pub back : List ℕ → ℕ → ℕ
back s at = get_or s (at - 1) 0 % 268435456

module _ (s : List ℕ) (rs : List Row) (e : read_journal s ≡ some rs) where
  pub formed : Formed s rs
  formed = (well-formed s rs).0 e

  pub some_words : 0 < length s
  some_words = omega (arith, ap length formed.2.1, length-append (journal rs) formed.2.0, length-journal rs)

  one-back : (k : ℕ) (q : Row) (qs : List Row) → drop k rs ≡ q ∷ qs
      → (back s (suc (length (words (drop k rs)))) ≡ length (record_on qs q)) × (suc (length (words (drop k rs))) ≡ suc (length (words qs)) + length (record_on qs q)) × (suc (length (words (drop k rs))) ≤ length s)
  one-back k q qs d =
      let more = words-drop k rs in
      let o : Obey (q ∷ qs) = subst Obey d (obey-drop k rs formed.0) in
      let own = record_on qs q in
      let xs = words qs ++ own in
      let parts : words (drop k rs) ≡ xs = ap words d ∙ words-cons q qs in
      let whole : s ≡ used_word (suc (length (words rs))) ∷ (xs ++ (more.0 ++ formed.2.0)) = formed.2.1 ∙ journal-split rs xs more.0 formed.2.0 (more.1 ∙ ap (λ (l : List ℕ). l ++ more.0) parts) in
      let place : suc (length (words (drop k rs))) - 1 ≡ length xs = omega (arith, ap length parts) in
      let word : get_or s (suc (length (words (drop k rs))) - 1) 0 ≡ length_word (length own)
      = ap (λ (n : ℕ). get_or s n 0) place ∙ ap (λ (l : List ℕ). get_or l (length xs) 0) whole ∙ last-at (predecessor_place qs) q (used_word (suc (length (words rs)))) (words qs) (more.0 ++ formed.2.0) o.0.0 in
      let small = record-small (predecessor_place qs) q o.0.0 in
      let long : length s ≡ suc (length xs + length (more.0 ++ formed.2.0)) = ap length whole ∙ ap suc (length-append xs (more.0 ++ formed.2.0)) in
      (omega arith, omega (arith, ap length parts, length-append (words qs) own), omega (arith, ap length parts))

-- n rows to go back over, k of them done, at this place
pub record Ended (s : List ℕ) (n k at : ℕ) : Type 0 where
  pub stand : RowsAtLeast s n
  pub placed : at ≡ suc (length (words (drop k stand.rows)))

pub ended-start : (s : List ℕ) (n : ℕ) → RowsAtLeast s n → Ended s n 0 (used s)
ended-start s n st = record { stand = st; placed = used-well s st.rows (formed s st.rows st.reads) }

module _ (s : List ℕ) (n k at : ℕ) (d : Ended s n k at) (more : k < n) where
  split : drop k d.stand.rows ≡ get_or d.stand.rows k no_row ∷ drop (suc k) d.stand.rows
  split = drop-cons d.stand.rows k no_row (omega (arith, d.stand.enough))

  abbrev long : ℕ
  long = length (record_on (drop (suc k) d.stand.rows) (get_or d.stand.rows k no_row))

  stepped : (back s at ≡ long) × (at ≡ suc (length (words (drop (suc k) d.stand.rows))) + long) × (at ≤ length s)
  stepped =
      subst (λ (a : ℕ). (back s a ≡ long) × (a ≡ suc (length (words (drop (suc k) d.stand.rows))) + long) × (a ≤ length s)) (sym d.placed)
      (one-back s d.stand.rows d.stand.reads k (get_or d.stand.rows k no_row) (drop (suc k) d.stand.rows) split)

  pub ended-room : (1 ≤ at) × (at ≤ length s) × (back s at ≤ at)
  ended-room = let t = stepped in (omega arith, t.2, omega arith)

  pub ended-turn : Ended s n (k + 1) (at - back s at)
  ended-turn = record { stand = d.stand; placed = let t = stepped in rw add-one (omega arith) }

pub ended-done : (s : List ℕ) (n k at : ℕ) → Ended s n k at → k ≡ n → at ≡ end_of s n
unfolding end_of
ended-done s n k at d e = d.placed ∙ rw (e, d.stand.reads)

pub end-small : (s : List ℕ) (n : ℕ) → RowsAtLeast s n → end_of s n < 268435456
unfolding end_of
end-small s n st =
    let w = formed s st.rows st.reads in
    rw st.reads (omega (arith, words_small (drop n st.rows) (obey-drop n st.rows w.0), length-drop n st.rows, w.1))

-- ---- what check 7 found, in terms of rows

pub record Surveyed (s : List ℕ) (n u : ℕ) (p : RustOption Predecessor) (m : ℕ) : Type 0 where
  pub rows : List Row
  pub reads : read_journal s ≡ some rows
  pub counted : length rows ≡ n
  pub ends : used s ≡ u
  pub latest : latest_of rows ≡ p
  pub minute : latest_minute rows ≡ m

pub survey-rows : (s : List ℕ) (n u : ℕ) (p : RustOption Predecessor) (m : ℕ) → survey s ≡ well_formed n u p m → Surveyed s n u p m
unfolding survey
survey-rows s n u p m e = go (read_journal s) refl e
  where
    go : (o : Option (List Row)) → read_journal s ≡ o → survey_of (used s) o ≡ well_formed n u p m → Surveyed s n u p m
    go none q k = cc
    go (some rs) q k =
        let same = same-ok k in
        record {
          rows = rs;
          reads = q;
          counted = ap (λ (f : Survey). f.rows) same;
          ends = ap (λ (f : Survey). f.used) same;
          latest = ap (λ (f : Survey). f.latest) same;
          minute = ap (λ (f : Survey). f.minute) same;
        }

-- it is refused by check 7 alone, where the words are not well formed
not-formed : (s : List ℕ) {r : Refusal} → survey s ≡ Err r → (read_journal s ≡ none) × (r ≡ Refusal.Journal)
unfolding survey
not-formed s {r} e = go (read_journal s) refl e
  where
    go : (o : Option (List Row)) → read_journal s ≡ o → survey_of (used s) o ≡ Err r → (read_journal s ≡ none) × (r ≡ Refusal.Journal)
    go none q k = (q, cc)
    go (some rs) q k = cc

pub survey-no : (s : List ℕ) {r : Refusal} → survey s ≡ Err r → read_journal s ≡ none
survey-no s e = (not-formed s e).0

pub survey-refused : (s : List ℕ) {r : Refusal} → survey s ≡ Err r → r ≡ Refusal.Journal
survey-refused s e = (not-formed s e).1

-- ---- striking

-- what the call answers, and what it leaves
abbrev pub Struck : List ℕ → ℕ → Checked → List ℕ → Type 0
Struck s n a t = (a ≡ (striking s n).0) × (t ≡ (striking s n).1)

pub struck-not : (s : List ℕ) (n : ℕ) {r : Refusal} → survey s ≡ Err r → Struck s n (Err r) s
unfolding striking
struck-not s n e = rw (survey-no s e, survey-refused s e) (refl, refl)

module _ (s : List ℕ) (n rows u : ℕ) (p : RustOption Predecessor) (m : ℕ) (e : survey s ≡ well_formed rows u p m) where
  pub struck-stand : n ≤ rows → RowsAtLeast s n
  struck-stand h = let r = survey-rows s rows u p m e in record { rows = r.rows; reads = r.reads; enough = omega (arith, r.counted) }

  pub struck-more : rows < n → Struck s n (Err Refusal.Row) s
  unfolding striking
  struck-more h =
      let r = survey-rows s rows u p m e in
      let l : length r.rows < n = omega (arith, r.counted) in
      rw (r.reads, lt-leb n (length r.rows) l) (refl, refl)

  pub struck-done : n ≤ rows → (end : ℕ) → end ≡ end_of s n → Struck s n (Ok tt) (set s 0 (0x50000000 + end))
  unfolding striking recounted end_of
  struck-done h end q =
      let r = survey-rows s rows u p m e in
      let l : n ≤ length r.rows = omega (arith, r.counted) in
      rw (q, r.reads, le-leb n (length r.rows) l) (refl, refl)
