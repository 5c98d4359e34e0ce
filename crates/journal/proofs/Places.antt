-- Where the rows of a journal stand: at its place a row is read back, and the predecessor is at the place that check 7 finds and the row names. Assumes nothing.
use Prim.Native.Nat.{ℕ, suc, ◌+◌, ◌≤◌}
use native.Mathlib.Omega.{arith}
use native.Mathlib.Numerals.{add-one}
use mathlib.Core.Path.{◌≡◌, refl, sym, ap, ◌∙◌, subst}
use mathlib.Core.Bool.{Bool, true, false, cond}
use mathlib.Core.List.{List, [], ◌∷◌, ◌++◌, append_assoc}
use mathlib.Core.Option.{none, some}
use lib.ListN.{length, get_or, drop, length-append}
use lib.Seq.{drop_at, drop-drop}
use Rattle.journal.specs.Row.{Row, row_size, scores, predecessor}
use Rattle.journal.specs.Record.{predecessor_word, used_word, record_of, read_row}
use Rattle.journal.specs.Journal.{words, predecessor_place, record_on, read_journal}
use Rattle.journal.specs.WellFormed.{Obey, Names}
use Rattle.journal.specs.inner.Check.{predecessor_standing, latest_of, place_of}
use Rattle.journal.specs.declared.check.Predecessor.{Predecessor}
use Rattle.std.specs.Prelude.{Option as RustOption, Some, None}
use Rattle.std.proofs.lemmas.Option.{same_Some}
use Rattle.journal.proofs.Reading.{words-drop, read-row}
use Rattle.journal.proofs.Walk.{latest-place}
use Rattle.journal.proofs.Ends.{formed, obey-drop, words-cons, journal-split}

-- ---- a row at its place

-- the rows q, and qs before it, of a journal
module _ (s : List ℕ) (rs : List Row) (e : read_journal s ≡ some rs) (k : ℕ) (q : Row) (qs : List Row) (d : drop k rs ≡ q ∷ qs) where
  pub row-obeys : Obey (q ∷ qs)
  row-obeys = subst Obey d (obey-drop k rs (formed s rs e).0)

  split_at : (more : List ℕ) × (drop (suc (length (words qs))) s ≡ record_on qs q ++ more)
  split_at =
      let more = words-drop k rs in
      let rest = (formed s rs e).2.0 in
      let own = record_on qs q in
      let w = used_word (suc (length (words rs))) in
      let whole : s ≡ (w ∷ words qs) ++ (own ++ (more.0 ++ rest))
      = (formed s rs e).2.1 ∙ journal-split rs (words qs ++ own) more.0 rest (more.1 ∙ ap (λ (l : List ℕ). l ++ more.0) (ap words d ∙ words-cons q qs))
      ∙ ap (λ (l : List ℕ). w ∷ l) (append_assoc (words qs) own (more.0 ++ rest)) in
      (more.0 ++ rest, ap (drop (suc (length (words qs)))) whole ∙ drop_at (w ∷ words qs) (own ++ (more.0 ++ rest)) (suc (length (words qs))) refl)

  -- its second word
  pub row-names : get_or (drop (suc (length (words qs))) s) 1 0 ≡ predecessor_word (predecessor_place qs)
  unfolding record_of
  row-names = ap (λ (l : List ℕ). get_or l 1 0) split_at.1

  -- its record starts past the words of those before it
  pub row_at : read_row (drop (suc (length (words qs))) s) ≡ q
  row_at = ap read_row split_at.1 ∙ read-row (predecessor_place qs) q row-obeys.0.0 split_at.0

  pub row_inside : suc (length (words qs)) + length (record_on qs q) ≤ length s
  row_inside =
      let more = words-drop k rs in
      let long = ap length ((formed s rs e).2.1 ∙ journal-split rs (words qs ++ record_on qs q) more.0 (formed s rs e).2.0 (more.1 ∙ ap (λ (l : List ℕ). l ++ more.0) (ap words d ∙ words-cons q qs))) in
      omega (arith, simp length-append at long)

-- ---- the predecessor

-- the row at a place that `latest_of` gives
pub record Latest (rs : List Row) (place row candidates : ℕ) : Type 0 where
  pub after : ℕ
  pub latest : Row
  pub earlier : List Row
  pub stands : drop after rs ≡ latest ∷ earlier
  pub is : predecessor rs ≡ some latest
  pub placed : place ≡ suc (length (words earlier))
  pub numbered : row ≡ length earlier
  pub many : candidates ≡ row_size latest

pub latest-some : (rs : List Row) (place row candidates : ℕ) → latest_of rs ≡ predecessor_standing place row candidates → Latest rs place row candidates
unfolding latest_of predecessor
latest-some [] place row candidates e = let z : ◌≡◌ {A = ℕ} 0 1 = cc in absurd (omega arith)
latest-some (r ∷ rs) place row candidates e = go (scores r) refl (latest-some rs place row candidates) e
  where
    go : (b : Bool) → scores r ≡ b → (latest_of rs ≡ predecessor_standing place row candidates → Latest rs place row candidates)
        → cond b (predecessor_standing (suc (length (words rs))) (length rs) (row_size r)) (latest_of rs) ≡ predecessor_standing place row candidates → Latest (r ∷ rs) place row candidates
    go true q ih k =
        let same = sym (same_Some _ _ k) in
        record {
          after = 0;
          latest = r;
          earlier = rs;
          stands = refl;
          is = rw q;
          placed = ap (λ (p : Predecessor). p.place) same;
          numbered = ap (λ (p : Predecessor). p.row) same;
          many = ap (λ (p : Predecessor). p.candidates) same;
        }
    go false q ih k =
        let l = ih k in
        record { after = suc l.after; latest = l.latest; earlier = l.earlier; stands = l.stands; is = rw q l.is; placed = l.placed; numbered = l.numbered; many = l.many }

pub latest-none : (rs : List Row) → latest_of rs ≡ None → predecessor rs ≡ none
unfolding latest_of predecessor
latest-none [] e = refl
latest-none (r ∷ rs) e = go (scores r) (latest-none rs) e
  where
    go : (b : Bool) → (latest_of rs ≡ None → predecessor rs ≡ none) → cond b (predecessor_standing (suc (length (words rs))) (length rs) (row_size r)) (latest_of rs) ≡ None → cond b (some r) (predecessor rs) ≡ none
    go true ih k = let z : ◌≡◌ {A = ℕ} 0 1 = cc in absurd (omega arith)
    go false ih k = ih k

-- ---- what a row names

module _ (s : List ℕ) (rs : List Row) (e : read_journal s ≡ some rs) (k : ℕ) (q : Row) (qs : List Row) (d : drop k rs ≡ q ∷ qs) where
  -- a row among those before it
  earlier-row : (m : ℕ) (p : Row) (ps : List Row) → drop m qs ≡ p ∷ ps → read_row (drop (suc (length (words ps))) s) ≡ p
  earlier-row m p ps f =
      let past : drop (suc k) rs ≡ qs = sym (drop-drop 1 k rs ∙ rw add-one) ∙ ap (drop 1) d in
      let stands : drop (suc k + m) rs ≡ p ∷ ps = sym (drop-drop m (suc k) rs) ∙ ap (drop m) past ∙ f in
      row_at s rs e (suc k + m) p ps stands

  -- its second word names its predecessor
  pub predecessor-named : Names s (get_or (drop (suc (length (words qs))) s) 1 0) (predecessor qs)
  predecessor-named = go (latest_of qs) refl
    where
      placed : {l : RustOption Predecessor} → latest_of qs ≡ l → get_or (drop (suc (length (words qs))) s) 1 0 ≡ predecessor_word (place_of l)
      placed {l} f = row-names s rs e k q qs d ∙ ap predecessor_word (sym (latest-place qs) ∙ ap place_of f)

      go : (l : RustOption Predecessor) → latest_of qs ≡ l → Names s (get_or (drop (suc (length (words qs))) s) 1 0) (predecessor qs)
      go None f = rw (latest-none qs f) (placed f)
      go (Some p) f =
          let l = latest-some qs p.place p.row p.candidates f in
          rw l.is (p.place, omega (arith, l.placed), placed f, ap (λ (n : ℕ). read_row (drop n s)) l.placed ∙ earlier-row l.after l.latest l.earlier l.stands)
