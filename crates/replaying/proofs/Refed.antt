-- Rows that are each what feeding the fix it records gives on those before it: they are the rows of those fixes, and none of them differs. Where none
-- differs all are such rows: this assumes `ChecksHold` of the network and settings.
use Prim.Native.Nat.{ℕ, ◌≤◌}
use native.Mathlib.Omega.{arith}
use mathlib.Core.Path.{◌≡◌, refl, sym, ap, ◌∙◌, subst}
use mathlib.Core.Bool.{Bool, true, false, cond}
use mathlib.Core.List.{List, [], ◌∷◌, map, append-nil}
use lib.Dec.{T, ltb, ltb→lt}
use lib.ListN.{length, drop, length-map}
use lib.Ieee.Fits.{and_i, and_l, and_r}
use lib.Ieee.Bits.{is_true}
use Rattle.std.specs.Prelude.{Option, Some, None}
use Rattle.binary64.proofs.Order.{taken}
use Rattle.journal.specs.Lists.{each, starts}
use Rattle.journal.specs.Row.{Fix, Cell, Row, fix_of, predecessor, size_of, latest_minute}
use Rattle.journal.specs.Ranges.{row_limit, candidate_ok, cell_ok}
use Rattle.journal.specs.Record.{record_of, read_row}
use Rattle.journal.specs.Journal.{predecessor_place, record_on}
use Rattle.journal.specs.WellFormed.{Each, CellFits, RowFits, Obey}
use Rattle.journal.proofs.Lists.{starts-split}
use Rattle.journal.proofs.Rules.{candidate-rules, rules-candidate, cell-rules, rules-fix, row-rules}
use Rattle.journal.proofs.Reading.{read-row}
use Rattle.rows.specs.Row.{StepsAt, row, rows}
use Rattle.decoder.specs.Call.{known_row}
use Rattle.decoder.specs.inner.StepRange.{ChecksHold}
use Rattle.decoder.proofs.Cells.{fix-row}
use Rattle.decoder.proofs.Standing.{CandidateFits, Accepted, AllAccepted, rows-obey}
use Rattle.replaying.specs.Replay.{refed, same_record, first_of, first_differing}
use Rattle.replaying.proofs.Same.{starts-same}

-- a number is found, or none
pub some-none : {A : Type 0} {n : ℕ} → ◌≡◌ {A = Option ℕ} (Some n) None → A
some-none e = let z : ◌≡◌ {A = ℕ} 0 1 = cc in absurd (omega arith)

-- ---- rows that a journal may hold

-- they obey the rules, their elements are known in a network of n elements, and they are not too many
pub record KnownRows (n : ℕ) (rs : List Row) : Type 0 where
  pub obey : Obey rs
  pub known : T (each (known_row n) rs)
  pub few : length rs ≤ row_limit

pub older : (n : ℕ) (r : Row) (rs : List Row) → KnownRows n (r ∷ rs) → KnownRows n rs
older n r rs h = record { obey = h.obey.1; known = and_r (known_row n r) (each (known_row n) rs) h.known; few = omega (arith, h.few) }

-- ---- the fix that a row records

pub each_map : {A B : Type 0} (P : A → Type 0) (Q : B → Type 0) (f : A → B) → ((a : A) → P a → Q (f a)) → (l : List A) → Each P l → Each Q (map f l)
each_map P Q f h [] k = tt
each_map P Q f h (a ∷ l) k = (h a k.0, each_map P Q f h l k.1)

candidates-in : (n p k : ℕ) (cs : List Cell) → T (each (cell_ok p k) cs) → T (each (λ (c : Cell). ltb c.candidate.element n) cs) → T (each (candidate_ok n) (map (λ (c : Cell). c.candidate) cs))
candidates-in n p k [] h l = tt
candidates-in n p k (c ∷ cs) h l =
    let a = candidate-rules _ c.candidate (cell-rules p k c (and_l (cell_ok p k c) (each (cell_ok p k) cs) h)).candidate in
    let e = ltb→lt c.candidate.element n (and_l (ltb c.candidate.element n) (each (λ (c : Cell). ltb c.candidate.element n) cs) l) in
    and_i (candidate_ok n c.candidate) (each (candidate_ok n) (map (λ (c : Cell). c.candidate) cs))
    (rules-candidate n c.candidate (record { element = e; intrinsic = a.intrinsic; near = a.near; raw_log = a.raw_log }))
    (candidates-in n p k cs (and_r (cell_ok p k c) (each (cell_ok p k) cs) h) (and_r (ltb c.candidate.element n) (each (λ (c : Cell). ltb c.candidate.element n) cs) l))

-- passes on the rows before it
pub fix-accepted : (n : ℕ) (r : Row) (rs : List Row) → KnownRows n (r ∷ rs) → Accepted n rs (fix_of r)
fix-accepted n r rs h =
    let a = row-rules (latest_minute rs) (size_of (predecessor rs)) (length rs) r h.obey.0.1 in
    let fits = h.obey.0.0 in
    let count = length-map r.cells (λ (c : Cell). c.candidate) in
    record {
      ok = rules-fix n (fix_of r) (record {
        few = omega (arith, count, a.few);
        candidates = candidates-in n r.before (length rs) r.cells a.cells (and_l (known_row n r) (each (known_row n) rs) h.known);
        distances = a.distances;
      });
      number = rw (count, ← a.before) a.number;
      minute = fits.minute;
      not-before = a.minute;
      fitting = (each_map CellFits CandidateFits (λ (c : Cell). c.candidate) (λ c k. (k.intrinsic, k.raw_log)) r.cells fits.cells, fits.distances);
    }

-- ---- records that are the same

same_row_lem : (place : ℕ) (q r : Row) → RowFits q → RowFits r → T (starts (record_of place q) (record_of place r)) → q ≡ r
same_row_lem place q r h k t =
    let own = record_of place r in
    sym (read-row place q h (drop (length (record_of place q)) own))
    ∙ ap read_row (starts-split (record_of place q) own t ∙ sym (append-nil own)) ∙ read-row place r k []

module _ (step : StepsAt) where
  pub same-record : (r : Row) (rs : List Row) → record_on rs r ≡ record_on rs (refed (step r.minute) rs r) → T (same_record (step r.minute) rs r)
  unfolding same_record
  same-record r rs e = starts-same (record_on rs (refed (step r.minute) rs r)) (record_on rs r) (sym e)

  -- ---- rows that feeding gives again

  -- each is the row of the fix that it records
  abbrev pub Refed : List Row → Type 0
  Refed [] = Unit {0}
  Refed (r ∷ rs) = (refed (step r.minute) rs r ≡ r) × Refed rs

  -- so they are the rows of those fixes
  pub refed-rows : (rs : List Row) → Refed rs → rs ≡ rows step (map fix_of rs)
  unfolding rows
  refed-rows [] h = refl
  refed-rows (r ∷ rs) h = sym (ap (λ (x : Row). x ∷ rs) h.0) ∙ ap (λ (l : List Row). refed (step r.minute) l r ∷ l) (refed-rows rs h.1)

  -- of the rows of fixes none differs
  pub none-differs : (fs : List Fix) → first_differing step (rows step fs) ≡ None
  unfolding rows first_differing
  none-differs [] = refl
  none-differs (f ∷ fs) =
      let rs = rows step fs in
      let r = row (step f.minute) (predecessor rs) f in
      let same : refed (step r.minute) rs r ≡ r = ap (λ (g : Fix). row (step g.minute) (predecessor rs) g) (fix-row (step f.minute) (predecessor rs) f) in
      rw (none-differs fs, is_true (same_record (step r.minute) rs r) (same-record r rs (ap (record_on rs) (sym same))))

  -- ---- where none differs

  module _ (n : ℕ) where
    -- the fixes of rows pass one after the other
    row-accepted : (r : Row) (rs : List Row) → KnownRows n (r ∷ rs) → Refed rs → Accepted n (rows step (map fix_of rs)) (fix_of r)
    row-accepted r rs h a = subst (λ (l : List Row). Accepted n l (fix_of r)) (refed-rows rs a) (fix-accepted n r rs h)

    all-accepted : (r : Row) (rs : List Row) → KnownRows n (r ∷ rs) → Refed rs → AllAccepted step n (fix_of r ∷ map fix_of rs)
    all-accepted r [] h a = (row-accepted r [] h a, tt)
    all-accepted r (q ∷ rs) h a = (row-accepted r (q ∷ rs) h a, all-accepted q rs (older n r (q ∷ rs) h) a.1)

    module _ (good : ChecksHold n step) where
      -- what feeding a row's fix gives goes into its bits
      refed-fits : (r : Row) (rs : List Row) → KnownRows n (r ∷ rs) → Refed rs → RowFits (refed (step r.minute) rs r)
      unfolding rows
      refed-fits r rs h a =
          let obey = rows-obey n good.0 step good.1 (fix_of r ∷ map fix_of rs) (omega (arith, length-map rs fix_of, h.few)) (all-accepted r rs h a) in
          subst (λ (l : List Row). RowFits (refed (step r.minute) l r)) (sym (refed-rows rs a)) obey.0.0

      pub all-refed : (rs : List Row) → KnownRows n rs → first_differing step rs ≡ None → Refed rs
      unfolding first_differing
      all-refed [] h e = tt
      all-refed (r ∷ rs) h e = go (first_differing step rs) refl (same_record (step r.minute) rs r) refl e (all-refed rs (older n r rs h))
        where
          go : (o : Option ℕ) → first_differing step rs ≡ o → (b : Bool) → same_record (step r.minute) rs r ≡ b → first_of o (cond b None (Some (length rs))) ≡ None → (first_differing step rs ≡ None → Refed rs)
              → (refed (step r.minute) rs r ≡ r) × Refed rs
          go (Some k) p b q x ih = some-none x
          go None p false q x ih = some-none x
          go None p true q x ih =
              let t : T (starts (record_on rs (refed (step r.minute) rs r)) (record_on rs r)) = unfold same_record in taken q in
              (same_row_lem (predecessor_place rs) (refed (step r.minute) rs r) r (refed-fits r rs h (ih p)) h.obey.0.0 t, ih p)
