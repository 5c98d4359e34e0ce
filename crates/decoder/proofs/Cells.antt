-- A row's cells: where a finite score stands, what goes through a predecessor candidate, and a sum of three. Assumes nothing.
use Prim.Native.Nat.{ℕ, ◌+◌, ◌<◌, ◌≤◌}
use native.Mathlib.Omega.{arith}
use mathlib.Core.Path.{◌≡◌, refl, sym, ap, ◌∙◌, subst}
use mathlib.Core.Bool.{Bool, true, false, not, ◌&&◌, cond, true≢false}
use mathlib.Core.List.{List}
use mathlib.Core.Option.{Option as Maybe, some}
use lib.Dec.{T, T_not, ltb, ltb→lt, nltb→le}
use lib.ListN.{get_or-eq_default}
use lib.IntN.{ℤ, pos}
use lib.Ieee.{Float, nan, inf, fin, binary64, lt, le, is_nan, round}
use lib.Ieee.Scale.{finite}
use lib.Ieee.Bits.{is_true}
use lib.Ieee.Fits.{and_l, and_r}
use Rattle.std.specs.Prelude.{Option, Some, None}
use Rattle.lists.specs.Loops.{any_below}
use Rattle.lists.proofs.Loops.{any-stop, any_some}
use Rattle.binary64.specs.Values.{pzero}
use Rattle.binary64.specs.Ranges.{in_range}
use Rattle.binary64.specs.Operators.{◌⊕◌}
use Rattle.binary64.proofs.Order.{taken, missed, le_trans, le_left, not-lt→le}
use Rattle.binary64.proofs.Costs.{score-sum}
use Rattle.journal.specs.declared.record.Candidate.{Candidate}
use Rattle.journal.specs.Row.{Fix, Cell, Row, no_candidate, no_cell, candidate_count, candidate_of, row_size, cell_of, score_of, scores, fix_of}
use Rattle.journal.specs.Ranges.{raw_log_ok, candidate_ok}
use Rattle.lists.proofs.Lists.{length-number, get_or-number, map-number, number-self}
use Rattle.journal.proofs.Rules.{candidate-rules}
use Rattle.rows.specs.Row.{StepScore, first_best, floor, break_score, floored, best_of, sum_through, is_possible, offer, broken, scored, row}
use Rattle.decoder.proofs.Bound.{bound, Within, most, sum_bound, minus-inf-within, bound-step, unit}

-- ---- a finite score is some candidate's
pub cell-outside : (r : Row) (j : ℕ) → row_size r ≤ j → score_of r j ≡ inf true
cell-outside r j h = ap (λ (c : Cell). c.score) (get_or-eq_default r.cells no_cell h)

pub scored-inside : (r : Row) (j : ℕ) → T (finite (score_of r j)) → j < row_size r
scored-inside r j t = go (ltb j (row_size r)) refl
  where
    go : (b : Bool) → ltb j (row_size r) ≡ b → j < row_size r
    go true e = ltb→lt j (row_size r) (taken e)
    go false e = absurd (subst (λ (x : Float). T (finite x)) (cell-outside r j (nltb→le j (row_size r) (missed e))) t)

-- some number below n passes
any-intro : (n j : ℕ) (test : ℕ → Bool) → j < n → T (test j) → T (any_below n test)
any-intro n j test h t = taken (sym (any-stop j n test h (is_true (test j) t)))

any-elim : (n : ℕ) (test : ℕ → Bool) → T (any_below n test) → (j : ℕ) × (j < n) × T (test j)
any-elim n test t = let a = any_some n test (is_true (any_below n test) t) in (a.0, a.1, taken a.2)

pub scores-intro : (r : Row) (j : ℕ) → T (finite (score_of r j)) → T (scores r)
unfolding scores
scores-intro r j t = any-intro (row_size r) j (λ i. finite (score_of r i)) (scored-inside r j t) t

pub scores-elim : (r : Row) → T (scores r) → (j : ℕ) × (j < row_size r) × T (finite (score_of r j))
unfolding scores
scores-elim r t = any-elim (row_size r) (λ i. finite (score_of r i)) t

-- ---- what goes through a predecessor candidate
apart : {X : Type 0} (v : Float) → None ≡ Some v → X
apart v e = absurd (omega (arith, zero_one))
  where
    zero_one : ◌≡◌ {A = ℕ} 0 1
    zero_one = cc

pub through-inv : (s : Float) (t : Option Float) (l v : Float) → sum_through s t l ≡ Some v → (u : Float) × T (finite s) × (t ≡ Some u) × (v ≡ s ⊕ u ⊕ l)
through-inv s None l v e = apart v e
through-inv s (Some u) l v e = go (finite s) refl e
  where
    go : (b : Bool) → finite s ≡ b → cond b (Some (s ⊕ u ⊕ l)) None ≡ Some v → (w : Float) × T (finite s) × (Some u ≡ Some w) × (v ≡ s ⊕ w ⊕ l)
    go true q k = (u, taken q, refl, cc)
    go false q k = apart v k

pub through-at : (s : Float) (t : Option Float) (l u : Float) → T (finite s) → t ≡ Some u → sum_through s t l ≡ Some (s ⊕ u ⊕ l)
through-at nan t l u f e = absurd f
through-at (inf b) t l u f e = absurd f
through-at (fin b m k) t l u f e = ap (λ (x : Option Float). sum_through (fin b m k) x l) e

-- ---- the cells of a row
module _ (step : StepScore) (o : Maybe Row) (f : Fix) where
  pub size-row : row_size (row step o f) ≡ candidate_count f
  unfolding row
  size-row = length-number (λ i c. record { candidate = c; parent = (scored step o f i c).0; score = (scored step o f i c).1 }) 0 f.candidates

  pub cell_row : (i : ℕ) → i < candidate_count f
      → cell_of (row step o f) i ≡ record { candidate = candidate_of f i; parent = (scored step o f i (candidate_of f i)).0; score = (scored step o f i (candidate_of f i)).1 }
  unfolding row
  cell_row i h =
      get_or-number {A = Candidate} {B = Cell} (λ i c. record { candidate = c; parent = (scored step o f i c).0; score = (scored step o f i c).1 }) f.candidates i no_cell no_candidate h

  pub fix-row : fix_of (row step o f) ≡ f
  unfolding row
  fix-row = ap (λ (l : List Candidate). same l)
      (map-number {A = Candidate} {B = Cell} (λ c. c.candidate) (λ i c. record { candidate = c; parent = (scored step o f i c).0; score = (scored step o f i c).1 }) 0 f.candidates ∙ number-self 0 f.candidates)
    where
      same : List Candidate → Fix
      same l = record { minute = f.minute; candidates = l; distances = f.distances }

  pub score-row : (i : ℕ) → i < candidate_count f → score_of (row step o f) i ≡ (scored step o f i (candidate_of f i)).1
  score-row i h = ap (λ (c : Cell). c.score) (cell_row i h)

  pub parent_row : (i : ℕ) → i < candidate_count f → (cell_of (row step o f) i).parent ≡ (scored step o f i (candidate_of f i)).0
  parent_row i h = ap (λ (c : Cell). c.parent) (cell_row i h)

module _ (step : StepScore) (p : Row) (f : Fix) where
  pub scored-broken : (i : ℕ) (c : Candidate) → broken step p f ≡ true → scored step (some p) f i c ≡ ((best_of p).0, (best_of p).1 ⊕ break_score ⊕ floored c)
  unfolding scored
  scored-broken i c e = rw e

  pub scored-whole : (i : ℕ) (c : Candidate) → broken step p f ≡ false → scored step (some p) f i c ≡ first_best (offer step p f i) (row_size p)
  unfolding scored
  scored-whole i c e = rw e

  possible-step : (s : Option Float) → T (is_possible s) → (v : Float) × (s ≡ Some v)
  possible-step None t = absurd t
  possible-step (Some v) t = (v, refl)

  -- an unbroken row has a possible step
  pub unbroken : broken step p f ≡ false → (i : ℕ) × (j : ℕ) × (v : Float) × (i < candidate_count f) × (j < row_size p) × (offer step p f i j ≡ Some v)
  unfolding broken
  unbroken e =
      let t : T (any_below (candidate_count f) (λ i. any_below (row_size p) (λ j. is_possible (offer step p f i j)))) = not-false (any_below (candidate_count f) (λ i. any_below (row_size p) (λ j. is_possible (offer step p f i j)))) e in
      let a = any-elim (candidate_count f) (λ i. any_below (row_size p) (λ j. is_possible (offer step p f i j))) t in
      let b = any-elim (row_size p) (λ j. is_possible (offer step p f a.0 j)) a.2 in
      let v = possible-step (offer step p f a.0 b.0) b.2 in
      (a.0, b.0, v.0, a.1, b.1, v.1)
    where
      not-false : (x : Bool) → not x ≡ false → T x
      not-false true q = tt
      not-false false q = absurd (true≢false q)

  -- and in a broken one no offer is possible
  pub no-offer : T (broken step p f) → (i j : ℕ) (v : Float) → i < candidate_count f → j < row_size p → offer step p f i j ≡ Some v → ⊥
  unfolding broken
  no-offer t i j v h k e =
      T_not (any_below (candidate_count f) (λ i. any_below (row_size p) (λ j. is_possible (offer step p f i j)))) t
      (any-intro (candidate_count f) i (λ i. any_below (row_size p) (λ j. is_possible (offer step p f i j))) h
      (any-intro (row_size p) j (λ j. is_possible (offer step p f i j)) k (subst (λ (s : Option Float). T (is_possible s)) (sym e) tt)))

-- ---- a candidate's logs

-- the least raw log; a step's lowest score is the same
abbrev lowest745 : Float
lowest745 = fin true 745 (pos 0)

raw-finite : (s : Bool) (m : ℕ) (e : ℤ) → T (raw_log_ok (fin s m e)) → T (le lowest745 (fin s m e) && le (fin s m e) pzero)
unfolding raw_log_ok in_range
raw-finite s m e k = k

module _ (n : ℕ) (c : Candidate) (h : T (candidate_ok n c)) where
  pub raw_log-within : Within 1 c.raw_log
  raw_log-within = go c.raw_log (candidate-rules n c h).raw_log
    where
      go : (x : Float) → T (raw_log_ok x) → Within 1 x
      go nan k = absurd (unfold raw_log_ok in_range le in k)
      go (inf true) k = minus-inf-within 1
      go (inf false) k = absurd (unfold raw_log_ok in_range le lt in k)
      go (fin s m e) k = (
        and_r (le lowest745 (fin s m e)) (le (fin s m e) pzero) (raw-finite s m e k),
        λ (t : Unit {0}). le_trans (bound 1) lowest745 (fin s m e) bound-step (and_l (le lowest745 (fin s m e)) (le (fin s m e) pzero) (raw-finite s m e k)),
      )

  pub floored-le : T (le (floored c) pzero)
  unfolding floored
  floored-le = go (lt c.raw_log floor)
    where
      go : (b : Bool) → T (le (cond b floor c.raw_log) pzero)
      go true = unfold le in tt
      go false = raw_log-within.0

  pub floored-bound : T (le (bound 1) (floored c))
  unfolding floored
  floored-bound = go (lt c.raw_log floor) refl
    where
      low : T (le (bound 1) floor)
      low = unfold bound unit round le in tt

      go : (b : Bool) → lt c.raw_log floor ≡ b → T (le (bound 1) (cond b floor c.raw_log))
      go true e = low
      go false e = le_trans (bound 1) floor c.raw_log low (not-lt→le c.raw_log floor (le_left c.raw_log pzero raw_log-within.0) (unfold is_nan in tt) (missed e))

-- ---- a score, a step and a floored log
pub sum-of-three : (a : ℕ) (x u l : Float) → a + 2 ≤ most → T (le x pzero) → T (le (bound a) x) → T (le u pzero) → T (le (bound 1) u) → T (le l pzero) → T (le (bound 1) l)
    → T (le (x ⊕ u ⊕ l) pzero) × T (le (bound (a + 2)) (x ⊕ u ⊕ l))
sum-of-three a x u l h p q r s t v =
    let xu : T (le (x ⊕ u) pzero) = score-sum binary64 x u p r in
    let lo : T (le (bound (a + 1)) (x ⊕ u)) = sum_bound a 1 x u (omega arith) p r q s in (
      score-sum binary64 (x ⊕ u) l xu t,
      subst (λ (n : ℕ). T (le (bound n) (x ⊕ u ⊕ l))) plus (sum_bound (a + 1) 1 (x ⊕ u) l (omega arith) xu t lo v),
    )
  where
    plus : a + 1 + 1 ≡ a + 2
    plus = omega arith

pub break-le : T (le break_score pzero)
break-le = unfold le in tt

pub break-bound : T (le (bound 1) break_score)
break-bound = unfold bound unit round le in tt
