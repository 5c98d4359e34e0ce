-- Rows compared one after the other, a stretch of rows of one minute at a time. Assumes nothing.
use Prim.Native.Nat.{ℕ, zero, suc, ◌+◌, ◌-◌, ◌<◌, ◌≤◌}
use native.Mathlib.Omega.{arith}
use native.Mathlib.Nat.{add-zero, add-suc, sub-zero}
use mathlib.Core.Path.{◌≡◌, refl, sym, ap, ◌∙◌, subst}
use mathlib.Core.Bool.{Bool, true, false, cond}
use mathlib.Core.List.{List, [], ◌∷◌}
use lib.ListN.{length, drop, length-drop}
use lib.Seq.{drop-length}
use Rattle.std.specs.Prelude.{Some, None}
use Rattle.journal.specs.Row.{Row, row_number}
use Rattle.journal.specs.Journal.{words}
use Rattle.journal.specs.inner.Rows.{rows_before}
use Rattle.rows.specs.Row.{StepScore, StepsAt}
use Rattle.replaying.specs.Replay.{same_record, first_differing}
use Rattle.replaying.specs.inner.Comparing.{Replayable, StandsAt, SameAt, Stretch, Differing, Compared, FirstDiffers}
use Rattle.replaying.specs.declared.compare.Reached.{Reached}
use Rattle.replaying.proofs.Standing.{before-next, row-before-end}

-- ---- within a stretch

-- from the row `start` on, all rows before this one are the same
pub record Along (step : StepScore) (minute : ℕ) (rs : List Row) (start row at : ℕ) : Type 0 where
  pub stands : StandsAt rs row at
  pub onward : start ≤ row
  pub same_rows : (k : ℕ) → start ≤ k → k < row → SameAt step minute rs k true

pub along-start : (step : StepScore) (minute : ℕ) {rs : List Row} {start at : ℕ} → StandsAt rs start at → Along step minute rs start start at
along-start step minute st = record { stands = st; onward = omega arith; same_rows = λ k l m. absurd (omega arith) }

module _ {step : StepScore} {minute : ℕ} {rs : List Row} {start row at : ℕ} (a : Along step minute rs start row at) where
  -- one row further
  pub along-turn : {at' : ℕ} → StandsAt rs (row + 1) at' → SameAt step minute rs row true → Along step minute rs start (row + 1) at'
  along-turn st here = record { stands = st; onward = omega (arith, a.onward); same_rows = same }
    where
      same : (k : ℕ) → start ≤ k → k < row + 1 → SameAt step minute rs k true
      same k l m = go (row - k) refl
        where
          go : (d : ℕ) → row - k ≡ d → SameAt step minute rs k true
          go zero e = subst (λ (i : ℕ). SameAt step minute rs i true) (omega arith) here
          go (suc d) e = a.same_rows k l (omega arith)

  -- one row or more were compared
  pub along-same : start < row → Stretch step minute rs start (record { row = row; at = at })
  along-same l = record { stands = a.stands; onward = l; same_rows = a.same_rows }

  pub along-differs : SameAt step minute rs row false → Differing step minute rs start row
  along-differs d = record { from_start = a.onward; same_rows = a.same_rows; differs = d }

  some-rows : (row ≡ start → ⊥) → start < row
  some-rows apart = omega (arith, a.onward, apart)

  -- of another minute than the first row
  pub along-other : {m : ℕ} → (row_number rs start).minute ≡ minute → m ≡ (row_number rs row).minute → (m ≡ minute → ⊥) → start < row
  along-other first here apart = some-rows (λ e. apart (here ∙ rw e first))

  -- past an end that the first row is before
  pub along-past : {at₀ end : ℕ} → StandsAt rs start at₀ → at₀ < end → end ≤ at → start < row
  along-past {at₀} st l m = some-rows (λ e. let same : at ≡ at₀ = a.stands.placed ∙ rw e (sym st.placed) in omega arith)

-- ---- stretch by stretch

module _ (step : StepsAt) (rs : List Row) where
  -- a row further that is the same
  differs_next : (n : ℕ) → n < length rs → (b : Bool) → first_differing step (rows_before rs n) ≡ None → same_record (step (row_number rs n).minute) (rows_before rs n) (row_number rs n) ≡ b
      → first_differing step (rows_before rs (suc n)) ≡ cond b None (Some n)
  unfolding first_differing
  differs_next n l b e f =
      let numbered : length (rows_before rs n) ≡ n = length-drop (length rs - n) rs ∙ omega arith in
      ap (first_differing step) (before-next rs n l) ∙ rw (e, f, numbered)

  -- rows later than one that differs
  differs-later : (k n : ℕ) (l : List Row) → first_differing step (drop k l) ≡ Some n → first_differing step l ≡ Some n
  unfolding first_differing
  differs-later zero n l e = e
  differs-later (suc k) n [] e = e
  differs-later (suc k) n (r ∷ l) e = rw (differs-later k n l e)

  same_at : {minute : ℕ} (n : ℕ) (b : Bool) → SameAt (step minute) minute rs n b → same_record (step (row_number rs n).minute) (rows_before rs n) (row_number rs n) ≡ b
  same_at n b h = rw h.minute-is h.is

  module _ (minute start : ℕ) (before : first_differing step (rows_before rs start) ≡ None) where
    none_yet : (d : ℕ) → ((k : ℕ) → start ≤ k → k < start + d → SameAt (step minute) minute rs k true) → first_differing step (rows_before rs (start + d)) ≡ None
    none_yet zero h = rw (add-zero start) before
    none_yet (suc d) h =
        let here = h (start + d) (omega arith) (omega arith) in
        rw (add-suc start d) (differs_next (start + d) here.stands true (none_yet d (λ k l m. h k l (omega arith))) (same_at (start + d) true here))

    none-to : (n : ℕ) → start ≤ n → ((k : ℕ) → start ≤ k → k < n → SameAt (step minute) minute rs k true) → first_differing step (rows_before rs n) ≡ None
    none-to n l h = let whole : start + (n - start) ≡ n = omega arith in rw (← whole) (none_yet (n - start) (λ k a b. h k a (omega arith)))

    pub stretch-compared : (r : Reached) → Stretch (step minute) minute rs start r → Compared step rs r × (start < r.row)
    stretch-compared r s = (record { stands = s.stands; so_far = none-to r.row (omega (arith, s.onward)) s.same_rows }, s.onward)

    pub differing-first : (n : ℕ) → Differing (step minute) minute rs start n → FirstDiffers step rs n
    differing-first n d =
        differs-later (length rs - suc n) n rs
        (differs_next n d.differs.stands false (none-to n d.from_start d.same_rows) (same_at n false d.differs))

-- ---- all of them

pub compared-start : (step : StepsAt) (rs : List Row) → Compared step rs (record { row = 0; at = 1 })
unfolding first_differing words
compared-start step rs = record { stands = record { within = omega arith; placed = rw none_before }; so_far = rw none_before }
  where
    none_before : rows_before rs 0 ≡ []
    none_before = ap (λ (n : ℕ). drop n rs) (sub-zero (length rs)) ∙ drop-length rs

-- at the end no row differs
pub compared-end : {n : ℕ} {step : StepsAt} {rs : List Row} {s : List ℕ} {end : ℕ} {r : Reached} → Replayable n rs s end → Compared step rs r → end ≤ r.at → first_differing step rs ≡ None
compared-end {n} {step} {rs} {s} {end} {r} h c l = go (length rs - r.row) refl c.so_far
  where
    go : (m : ℕ) → length rs - r.row ≡ m → first_differing step (drop m rs) ≡ None → first_differing step rs ≡ None
    go zero q f = f
    go (suc m) q f = let past = row-before-end h c.stands (omega arith) in absurd (omega arith)
