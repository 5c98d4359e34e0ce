-- What is read is well formed: the used words are the journal of rows that obey the rules, and no other words are read. Assumes nothing.
use Prim.Native.Nat.{ℕ, zero, suc, ◌+◌, ◌*◌, ◌<◌, ◌≤◌}
use native.Mathlib.Omega.{arith}
use mathlib.Core.Path.{◌≡◌, refl, sym, ap, ◌∙◌, subst}
use mathlib.Core.Logic.{◌↔◌}
use mathlib.Core.Bool.{Bool, true, false, ◌&&◌, cond}
use mathlib.Core.List.{List, [], ◌∷◌, ◌++◌, append_assoc, append-nil}
use mathlib.Core.Option.{none, some}
use lib.Dec.{T, leb, eqb, leb→le, eqb→eq}
use lib.ListN.{length, get_or, drop, take-append-drop}
use lib.Seq.{length-take-le, get_or-take}
use lib.Ieee.{binary64}
use lib.Ieee.Bits.{of_bits-fits}
use lib.Ieee.Fits.{and_l, and_r}
use Rattle.binary64.proofs.Order.{taken}
use Rattle.journal.specs.Lists.{starts}
use Rattle.journal.specs.Row.{Row, row_size, predecessor, size_of, latest_minute}
use Rattle.journal.specs.Ranges.{row_limit, minute_limit}
use Rattle.journal.specs.Record.{used_word, first_cell, read_cell, read_distance, read_each, head_count, head_before, read_row}
use Rattle.journal.specs.Journal.{words, record_on, journal, row_ok, record_ok, read_rows, used, used_words, read_journal}
use Rattle.journal.specs.WellFormed.{Each, Fitting, CellFits, RowFits, Obey, WellFormed}
use Rattle.journal.proofs.Lists.{some-none, starts-split}
use Rattle.journal.proofs.Rules.{row-rules}
use Rattle.journal.proofs.Reading.{read-journal, read-words, used-journal, size_small, before_small}

-- ---- what is read fits

each_fits : {A : Type 0} (P : A → Type 0) (read : List ℕ → A) (m : ℕ) → ((ws : List ℕ) → P (read ws)) → (n : ℕ) (ws : List ℕ) → Each P (read_each read m n ws)
unfolding read_each
each_fits P read m h zero ws = tt
each_fits P read m h (suc n) ws = (h ws, each_fits P read m h n (drop m ws))

cell-fits : (ws : List ℕ) → CellFits (read_cell ws)
cell-fits ws = record {
  element = omega arith;
  near = omega arith;
  parent = omega arith;
  intrinsic = of_bits-fits binary64 (get_or ws 1 0 * 4294967296 + get_or ws 2 0);
  raw_log = of_bits-fits binary64 (get_or ws 3 0 * 4294967296 + get_or ws 4 0);
  score = of_bits-fits binary64 (get_or ws 5 0 * 4294967296 + get_or ws 6 0);
}

distance-fits : (ws : List ℕ) → Fitting (read_distance ws)
distance-fits ws = of_bits-fits binary64 (get_or ws 0 0 * 4294967296 + get_or ws 1 0)

row-fit : (rs : List Row) (ws : List ℕ) → Obey rs → T (row_ok (latest_minute rs) (size_of (predecessor rs)) (length rs) (read_row ws)) → RowFits (read_row ws)
row-fit rs ws h ok = go (read_row ws) (unfold read_row in omega arith) (unfold read_row in each_fits CellFits read_cell 7 cell-fits c (drop first_cell ws)) (unfold read_row in each_fits Fitting read_distance 2 distance-fits (c * p) (drop 1 (drop (7 * c) (drop first_cell ws)))) ok
  where
    c : ℕ
    c = head_count (get_or ws 0 0)

    p : ℕ
    p = head_before (get_or ws 0 0)

    go : (r : Row) → r.minute < minute_limit → Each CellFits r.cells → Each Fitting r.distances → T (row_ok (latest_minute rs) (size_of (predecessor rs)) (length rs) r) → RowFits r
    go r m c d k =
        let a = row-rules (latest_minute rs) (size_of (predecessor rs)) (length rs) r k in
        record {
          minute = m;
          few = a.few;
          few-before = omega (arith, a.before, before_small (size_of (predecessor rs)) (row_size r) (size_small rs (predecessor rs) refl h));
          number = a.number;
          cells = c;
          distances = d;
        }

-- ---- minutes of rows that obey the rules

-- they never fall
pub minutes-rise : (r : Row) (rs : List Row) → Obey (r ∷ rs) → latest_minute rs ≤ r.minute
minutes-rise r rs h = (row-rules (latest_minute rs) (size_of (predecessor rs)) (length rs) r h.0.1).minute

-- so no row before the last is later than it
pub minutes-before : (k : ℕ) (rs : List Row) → Obey rs → latest_minute (drop k rs) ≤ latest_minute rs
minutes-before zero rs h = omega arith
minutes-before (suc k) [] h = omega arith
minutes-before (suc k) (r ∷ rs) h = omega (arith, minutes-before k rs h.1, minutes-rise r rs h)

pub minute-small : (rs : List Row) → Obey rs → latest_minute rs < minute_limit
minute-small [] h = omega arith
minute-small (r ∷ rs) h = h.0.0.minute

-- ---- rows and their words

words-cons : (r : Row) (rs : List Row) (ws : List ℕ) → words (r ∷ rs) ++ ws ≡ words rs ++ (record_on rs r ++ ws)
unfolding words
words-cons r rs ws = append_assoc (words rs) (record_on rs r) ws

words-nil : (ws : List ℕ) → words [] ++ ws ≡ ws
unfolding words
words-nil ws = refl

head_tail : (l : List ℕ) → 0 < length l → l ≡ get_or l 0 0 ∷ drop 1 l
head_tail [] h = absurd (omega arith)
head_tail (a ∷ l) h = refl

-- ---- rows that were read

abbrev Read : ℕ → List Row → List ℕ → List Row → Type 0
Read n rs ws qs = (words qs ≡ words rs ++ ws) × Obey qs × (length qs ≤ length rs + n)

ended : (n : ℕ) (rs qs : List Row) → Obey rs → some rs ≡ some qs → Read n rs [] qs
ended n rs qs h e =
    let same : rs ≡ qs = cc in
    subst (Read n rs []) same (sym (append-nil (words rs)), h, omega arith)

read-sound : (n : ℕ) (rs : List Row) (ws : List ℕ) (qs : List Row) → Obey rs → read_rows n rs ws ≡ some qs → Read n rs ws qs
unfolding read_rows
read-sound zero rs [] qs h e = ended zero rs qs h e
read-sound zero rs (w ∷ ws) qs h e = some-none (sym e)
read-sound (suc n) rs [] qs h e = ended (suc n) rs qs h e
read-sound (suc n) rs (w ∷ ws) qs h e = go (record_ok rs r (w ∷ ws)) refl (read-sound n (r ∷ rs) rest qs) e
  where
    r : Row
    r = read_row (w ∷ ws)

    rest : List ℕ
    rest = drop (length (record_on rs r)) (w ∷ ws)

    ok : Bool
    ok = row_ok (latest_minute rs) (size_of (predecessor rs)) (length rs) r

    go : (b : Bool) → record_ok rs r (w ∷ ws) ≡ b → (Obey (r ∷ rs) → read_rows n (r ∷ rs) rest ≡ some qs → Read n (r ∷ rs) rest qs)
        → cond b (read_rows n (r ∷ rs) rest) none ≡ some qs → Read (suc n) rs (w ∷ ws) qs
    go false q ih k = some-none (sym k)
    go true q ih k =
        let s = and_l (starts (record_on rs r) (w ∷ ws)) ok (taken q) in
        let o = and_r (starts (record_on rs r) (w ∷ ws)) ok (taken q) in
        let t = ih ((row-fit rs (w ∷ ws) h o, o), h) k in
        (t.0 ∙ words-cons r rs rest ∙ ap (λ (l : List ℕ). words rs ++ l) (starts-split (record_on rs r) (w ∷ ws) s), t.1, omega (arith, t.2))

-- ---- the journal

module _ (s : List ℕ) (rs : List Row) where
  -- word 0 and the words of the rows make up the used words
  joined : get_or s 0 0 ≡ used_word (used s) → 1 ≤ used s → used s ≤ length s → words rs ≡ drop 1 (used_words s) → s ≡ journal rs ++ drop (used s) s
  unfolding journal
  joined a b c d =
      let long : length (used_words s) ≡ used s = length-take-le (used s) s c in
      let parts : used_words s ≡ get_or (used_words s) 0 0 ∷ drop 1 (used_words s) = head_tail (used_words s) (omega arith) in
      let first : get_or (used_words s) 0 0 ≡ used_word (used s) = get_or-take (used s) s 0 0 b ∙ a in
      let counted : used s ≡ suc (length (words rs)) = sym long ∙ ap length parts ∙ ap (λ (l : List ℕ). suc (length l)) (sym d) in
      let whole : used_words s ≡ used_word (suc (length (words rs))) ∷ words rs = parts ∙ (rw (first, ← d) (ap (λ (n : ℕ). used_word n ∷ words rs) counted)) in
      sym (take-append-drop (used s) s) ∙ ap (λ (l : List ℕ). l ++ drop (used s) s) whole

  read-well : read_journal s ≡ some rs → WellFormed s rs
  unfolding read_journal
  read-well e = go (first && (second && third)) refl e
    where
      first : Bool
      first = eqb (get_or s 0 0) (used_word (used s))

      second : Bool
      second = leb 1 (used s)

      third : Bool
      third = leb (used s) (length s)

      go : (b : Bool) → first && (second && third) ≡ b → cond b (read_rows row_limit [] (drop 1 (used_words s))) none ≡ some rs → WellFormed s rs
      go false q k = some-none (sym k)
      go true q k =
          let a = eqb→eq (get_or s 0 0) (used_word (used s)) (and_l first (second && third) (taken q)) in
          let rest = and_r first (second && third) (taken q) in
          let b = leb→le 1 (used s) (and_l second third rest) in
          let c = leb→le (used s) (length s) (and_r second third rest) in
          let r = read-sound row_limit [] (drop 1 (used_words s)) rs tt k in
          (r.1, omega (arith, r.2), (drop (used s) s, joined a b c (r.0 ∙ words-nil (drop 1 (used_words s)))))

  -- the test reads these rows exactly where the words are well formed with them
  pub well-formed : (read_journal s ≡ some rs) ↔ WellFormed s rs
  well-formed = (read-well, λ w. subst (λ (x : List ℕ). read_journal x ≡ some rs) (sym w.2.1) (read-journal rs w.2.0 w.0 w.1))

  pub used-well : WellFormed s rs → used s ≡ suc (length (words rs))
  used-well w = subst (λ (x : List ℕ). used x ≡ suc (length (words rs))) (sym w.2.1) (used-journal rs w.2.0 w.0 w.1)

-- equal used words, equal rows
pub same_rows : (rs qs : List Row) → length rs ≤ row_limit → length qs ≤ row_limit → Obey rs → Obey qs → journal rs ≡ journal qs → rs ≡ qs
same_rows rs qs k l a b e =
    let tails : words rs ≡ words qs = unfold journal in ap (drop 1) e in
    cc (read-words rs a k, read-words qs b l)
