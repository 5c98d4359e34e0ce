-- A row's record is what feeding the fix that it records writes, exactly if its parents and scores are the same in bits. Assumes nothing.
use Prim.Native.Nat.{ℕ, zero, suc, ◌+◌, ◌*◌, ◌/◌, ◌%◌, ◌<◌, ◌≤◌}
use native.Mathlib.Omega.{arith}
use native.Mathlib.Nat.{mul-le-mul}
use mathlib.Core.Path.{◌≡◌, refl, sym, ap, ◌∙◌, subst, subst₂}
use mathlib.Core.Bool.{Bool, true}
use mathlib.Core.List.{List, [], ◌∷◌, ◌++◌, append_assoc, append-nil}
use lib.Dec.{T, eqb, eqb→eq}
use lib.ListN.{length, get_or, take, drop}
use lib.Seq.{take_at}
use lib.Ieee.{Float, nan, binary64, to_bits}
use lib.Ieee.Bits.{is_true}
use lib.Ieee.Fits.{and_i, and_l, and_r, eq→eqb}
use Rattle.lists.specs.Loops.{every_below}
use Rattle.lists.proofs.Loops.{every-at, every-all}
use Rattle.binary64.proofs.Order.{same_test, taken}
use Rattle.journal.specs.Lists.{flat, starts}
use Rattle.journal.specs.Row.{Cell, Fix, Row, no_cell, row_size, cell_of, size_of, before_of, fix_of}
use Rattle.journal.specs.Record.{candidate_word, distances_words, length_word, first_cell, cell_words, record_length, record_of, float_at, read_distance, head_count, head_before, read_row}
use Rattle.journal.specs.inner.Buffer.{entries_stored, FloatsStand}
use Rattle.journal.specs.inner.Fix.{candidates_in, fix_in}
use Rattle.journal.specs.inner.Row.{row_of}
use Rattle.journal.specs.declared.fix.Candidates.{Candidates}
use Rattle.journal.proofs.Lists.{starts-self, starts-split}
use Rattle.journal.proofs.Records.{length-each}
use Rattle.journal.proofs.RecordRead.{row-size, row-distance}
use Rattle.journal.proofs.Buffers.{entries-listed}
use Rattle.journal.proofs.Stores.{cell_at, cells-many}
use Rattle.transition.specs.Track.{Track}
use Rattle.rows.specs.Row.{StepScore}
use Rattle.rows.specs.inner.Scoring.{RecordStands, predecessor_in, Scorable, RowScored}
use Rattle.rows.proofs.Records.{candidates-many, candidate-at}
use Rattle.rows.proofs.Rows.{row-filled}
use Rattle.replaying.specs.inner.Comparing.{same_cell, RecordsStand, same_row}

-- ---- lists of cells

pub starts-same : (xs ys : List ℕ) → xs ≡ ys → T (starts xs ys)
starts-same xs ys e = subst (λ (l : List ℕ). T (starts xs l)) (append-nil xs ∙ e) (starts-self xs [])

-- equal cell by cell
flat-same : (us vs : List Cell) → length us ≡ length vs → ((i : ℕ) → i < length us → cell_words (get_or us i no_cell) ≡ cell_words (get_or vs i no_cell)) → flat cell_words us ≡ flat cell_words vs
flat-same [] [] e h = refl
flat-same [] (b ∷ vs) e h = absurd (omega arith)
flat-same (a ∷ us) [] e h = absurd (omega arith)
flat-same (a ∷ us) (b ∷ vs) e h = cc (h 0 (omega arith), flat-same us vs (omega arith) (λ i l. h (suc i) (omega arith)))

-- whatever follows
flat-apart : (us vs : List Cell) (xs ys : List ℕ) → length us ≡ length vs → flat cell_words us ++ xs ≡ flat cell_words vs ++ ys → (i : ℕ) → i < length us → cell_words (get_or us i no_cell) ≡ cell_words (get_or vs i no_cell)
flat-apart [] vs xs ys e h i l = absurd (omega arith)
flat-apart (a ∷ us) [] xs ys e h i l = absurd (omega arith)
flat-apart (a ∷ us) (b ∷ vs) xs ys e h zero l = ap (take 7) h
flat-apart (a ∷ us) (b ∷ vs) xs ys e h (suc i) l = flat-apart us vs xs ys (omega arith) (ap (drop 7) h) i (omega arith)

-- ---- one cell

module _ (c : Cell) (parent : ℕ) (score : Float) where
  abbrev other : Cell
  other = record { candidate = c.candidate; parent = parent; score = score }

  -- the same words from the same parent and bits
  words_same : same_cell c parent score ≡ true → cell_words other ≡ cell_words c
  unfolding same_cell
  words_same e =
      let both = taken e in
      let p : c.parent ≡ parent = eqb→eq c.parent parent (and_l (eqb c.parent parent) (eqb (to_bits binary64 c.score) (to_bits binary64 score)) both) in
      let b : to_bits binary64 c.score ≡ to_bits binary64 score = eqb→eq (to_bits binary64 c.score) (to_bits binary64 score) (and_r (eqb c.parent parent) (eqb (to_bits binary64 c.score) (to_bits binary64 score)) both) in
      rw (p, b)

  words-apart : cell_words other ≡ cell_words c → T (same_cell c parent score)
  unfolding same_cell
  words-apart e =
      let first : candidate_word c.candidate.element c.candidate.near parent ≡ candidate_word c.candidate.element c.candidate.near c.parent = ap (λ (l : List ℕ). get_or l 0 0) e in
      let high : to_bits binary64 score / 4294967296 ≡ to_bits binary64 c.score / 4294967296 = ap (λ (l : List ℕ). get_or l 5 0) e in
      let low : to_bits binary64 score % 4294967296 ≡ to_bits binary64 c.score % 4294967296 = ap (λ (l : List ℕ). get_or l 6 0) e in
      let parents : c.parent ≡ parent = omega arith in
      let bits : to_bits binary64 c.score ≡ to_bits binary64 score = omega arith in
      and_i (eqb c.parent parent) (eqb (to_bits binary64 c.score) (to_bits binary64 score)) (eq→eqb parents) (eq→eqb bits)

-- ---- one row

module _ (q : Row) (parents : List ℕ) (scores : List Float) where
  -- the row of the recorded fix with these parents and scores
  abbrev fed : Row
  fed = row_of (fix_of q) parents scores q.before

  fed-size : row_size fed ≡ row_size q
  fed-size = cells-many (fix_of q).candidates parents scores ∙ candidates-many q

  fed-cell : (i : ℕ) → i < row_size q → cell_of fed i ≡ other (cell_of q i) (get_or parents i 0) (get_or scores i nan)
  fed-cell i l =
      let below : i < length (fix_of q).candidates = omega (arith, candidates-many q) in
      cell_at (fix_of q).candidates parents scores i below ∙ rw (candidate-at q i)

  abbrev same : ℕ → Bool
  same i = same_cell (cell_of q i) (get_or parents i 0) (get_or scores i nan)

  record_same : T (every_below (row_size q) same) → T (starts (record_of 0 fed) (record_of 0 q))
  unfolding record_of
  record_same h =
      let cells = flat-same fed.cells q.cells fed-size
      (λ i l.
      let below : i < row_size q = omega (arith, fed-size) in
      ap cell_words (fed-cell i below) ∙ words_same (cell_of q i) (get_or parents i 0) (get_or scores i nan) (every-at (row_size q) same (is_true _ h) i below)) in
      starts-same (record_of 0 fed) (record_of 0 q) (rw (fed-size, cells))

  record_apart : T (starts (record_of 0 fed) (record_of 0 q)) → T (every_below (row_size q) same)
  unfolding record_of
  record_apart h =
      let more = drop (length (record_of 0 fed)) (record_of 0 q) in
      let tail : Row → List ℕ = λ r. distances_words r.distances ++ (length_word (record_length (row_size r) r.before) ∷ []) in
      let split : (flat cell_words fed.cells ++ tail fed) ++ more ≡ flat cell_words q.cells ++ tail q = ap (drop 3) (starts-split (record_of 0 fed) (record_of 0 q) h) in
      let words : flat cell_words fed.cells ++ (tail fed ++ more) ≡ flat cell_words q.cells ++ tail q = sym (append_assoc (flat cell_words fed.cells) (tail fed) more) ∙ split in
      taken (every-all (row_size q) same
      (λ i l.
      let below : i < row_size fed = omega (arith, fed-size) in
      is_true _ (words-apart (cell_of q i) (get_or parents i 0) (get_or scores i nan) (sym (ap cell_words (fed-cell i l)) ∙ flat-apart fed.cells q.cells (tail fed ++ more) (tail q) fed-size words i below))))

  pub cells-record : every_below (row_size q) same ≡ starts (record_of 0 fed) (record_of 0 q)
  cells-record = same_test (every_below (row_size q) same) (starts (record_of 0 fed) (record_of 0 q)) record_same record_apart

-- ---- the records of a row and its predecessor

module _ {t : Track} {own previous : List ℕ} (st : RecordsStand t own previous) where
  abbrev q : Row
  q = read_row own

  pub own-some : 0 < length own
  unfolding record_length
  own-some = omega (arith, st.whole.room)

  pub own-record : {c : ℕ} → c ≡ row_size q → RecordStands own c × (c ≤ 16)
  unfolding record_length
  own-record e = (record { many = sym e; room = omega (arith, st.whole.room) }, omega (arith, st.whole.few))

  -- its distances, as many as it has pairs

  many : length q.distances ≡ row_size q * q.before
  unfolding read_row
  many = length-each read_distance 2 (head_count (get_or own 0 0) * head_before (get_or own 0 0)) (drop 1 (drop (7 * head_count (get_or own 0 0)) (drop first_cell own))) ∙ ap (λ (k : ℕ). k * head_before (get_or own 0 0)) (sym (row-size own))

  module _ {c p n : ℕ} (e : c ≡ row_size q) (f : p ≡ q.before) (g : n ≡ c * p) where
    number_is : n ≡ row_size q * q.before
    number_is = g ∙ rw (e, f)

    pub few-distances : n ≤ 256
    few-distances = omega (arith, number_is, mul-le-mul st.whole.few st.whole.few-before)

    pub distances-stand : (buffer : List Float) → 256 ≤ length buffer → FloatsStand own (first_cell + 7 * c + 1) 2 n buffer
    unfolding record_length
    distances-stand buffer l = record {
      inside = λ k h. omega (arith, number_is, e, st.whole.room);
      small = omega (arith, few-distances, e, st.whole.few);
      room = omega (arith, few-distances);
    }

    pub distances-are : (buffer₀ : List Float) {buffer : List Float} → 256 ≤ length buffer₀ → buffer ≡ entries_stored n (λ k. float_at own (first_cell + 7 * c + 1 + 2 * k)) buffer₀ → take n buffer ≡ q.distances
    distances-are buffer₀ l h =
        let listed = entries-listed nan q.distances buffer₀ (λ k. float_at own (first_cell + 7 * c + 1 + 2 * k)) (number_is ∙ sym many) (omega (arith, few-distances))
        (λ k below. rw e (sym (row-distance own nan k (omega (arith, number_is))))) in
        ap (take n) (h ∙ listed) ∙ take_at q.distances (drop (length q.distances) buffer₀) n (many ∙ sym number_is)

  -- the fix that it records
  pub fix-recorded : (x : Candidates) {ds : List Float} → x.minute ≡ q.minute → candidates_in x ≡ (fix_of q).candidates → ds ≡ q.distances → fix_in x ds ≡ fix_of q
  fix-recorded x m cs d = rw (m, cs, d)

  -- ---- scoring it again

  module _ {f : Fix} {p : ℕ} (same : f ≡ fix_of q) (e : p ≡ q.before) where
    pub row-scorable : (parents : List ℕ) (scores : List Float) → 16 ≤ length parents → 16 ≤ length scores → Scorable t f previous p parents scores
    row-scorable parents scores l m = rw (same, e) (record {
      fits = st.fits;
      few = omega (arith, candidates-many q, st.whole.few);
      few-before = st.whole.few-before;
      element = λ k h. rw (candidate-at q k) (st.element k (omega (arith, candidates-many q)));
      distances = many ∙ rw (candidates-many q, ← st.empty);
      predecessor = st.predecessor;
      parents-long = omega (arith, candidates-many q, st.whole.few);
      scores-long = omega (arith, candidates-many q, st.whole.few);
    })

    -- the predecessor's size
    size_is : (n : ℕ) → n ≡ q.before → size_of (predecessor_in previous n) ≡ n
    size_is zero h = refl
    size_is (suc n) h = (st.predecessor (omega arith)).stands.many ∙ sym h

    pub row-compared : (step : StepScore) {parents₀ : List ℕ} {scores₀ : List Float} (parents : List ℕ) (scores : List Float) {c : ℕ} {r : Bool} → c ≡ row_size q → RowScored step f previous p parents₀ scores₀ parents scores
        → r ≡ every_below c (λ i. same_cell (cell_of q i) (get_or parents i 0) (get_or scores i nan)) → r ≡ same_row step own previous
    unfolding same_row
    row-compared step {parents₀} {scores₀} parents scores {c} {r} k scored h =
        let again : RowScored step (fix_of q) previous q.before parents₀ scores₀ parents scores = subst₂ (λ x n. RowScored step x previous n parents₀ scores₀ parents scores) same e scored in
        let filled = row-filled step (fix_of q) (predecessor_in previous q.before) {parents₀ = parents₀} {scores₀ = scores₀} parents scores again.filled q.before (size_is q.before refl) in
        let before : before_of q.before (length (fix_of q).candidates) ≡ q.before = rw (candidates-many q) (sym st.empty) in
        h ∙ rw k (cells-record q parents scores)
        ∙ ap (λ (x : Row). starts (record_of 0 x) (record_of 0 q)) (ap (row_of (fix_of q) parents scores) (sym before) ∙ filled)
