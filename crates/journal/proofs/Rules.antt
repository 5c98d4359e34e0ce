-- The rules of a candidate, a cell and a row as facts, and back as tests. Assumes nothing.
use Prim.Native.Nat.{ℕ, ◌*◌, ◌<◌, ◌≤◌}
use native.Mathlib.Omega.{arith}
use mathlib.Core.Path.{◌≡◌}
use mathlib.Core.Bool.{Bool, ◌&&◌}
use lib.Dec.{T, leb, ltb, eqb, leb→le, le→leb, ltb→lt, lt→ltb, eqb→eq}
use lib.ListN.{length}
use lib.Ieee.Fits.{and_i, and_l, and_r, eq→eqb}
use Rattle.journal.specs.declared.record.Candidate.{Candidate}
use Rattle.journal.specs.Lists.{each}
use Rattle.journal.specs.Row.{Fix, Cell, Row, candidate_count, row_size, before_of}
use Rattle.journal.specs.Ranges.{candidate_limit, element_limit, intrinsic_ok, raw_log_ok, distance_ok, score_ok, parent_ok, candidate_ok, cell_ok}
use Rattle.journal.specs.inner.Row.{fix_ok}
use Rattle.journal.specs.Journal.{row_ok}

-- ---- tests joined

three : (a b c : Bool) → T (a && (b && c)) → T a × T b × T c
three a b c h =
    let k = and_r a (b && c) h in
    (and_l a (b && c) h, and_l b c k, and_r b c k)

of_three : (a b c : Bool) → T a → T b → T c → T (a && (b && c))
of_three a b c p q r = and_i a (b && c) p (and_i b c q r)

pub four : (a b c d : Bool) → T (a && (b && (c && d))) → T a × T b × T c × T d
four a b c d h =
    let k = three b c d (and_r a (b && (c && d)) h) in
    (and_l a (b && (c && d)) h, k.0, k.1, k.2)

pub of_four : (a b c d : Bool) → T a → T b → T c → T d → T (a && (b && (c && d)))
of_four a b c d p q r s = and_i a (b && (c && d)) p (of_three b c d q r s)

pub five : (a b c d e : Bool) → T (a && (b && (c && (d && e)))) → T a × T b × T c × T d × T e
five a b c d e h =
    let k = four b c d e (and_r a (b && (c && (d && e))) h) in
    (and_l a (b && (c && (d && e))) h, k.0, k.1, k.2, k.3)

pub of-five : (a b c d e : Bool) → T a → T b → T c → T d → T e → T (a && (b && (c && (d && e))))
of-five a b c d e p q r s t = and_i a (b && (c && (d && e))) p (of_four b c d e q r s t)

pub six : (a b c d e f : Bool) → T (a && (b && (c && (d && (e && f))))) → T a × T b × T c × T d × T e × T f
six a b c d e f h =
    let k = five b c d e f (and_r a (b && (c && (d && (e && f)))) h) in
    (and_l a (b && (c && (d && (e && f)))) h, k.0, k.1, k.2, k.3, k.4)

pub of-six : (a b c d e f : Bool) → T a → T b → T c → T d → T e → T f → T (a && (b && (c && (d && (e && f)))))
of-six a b c d e f p q r s t u = and_i a (b && (c && (d && (e && f)))) p (of-five b c d e f q r s t u)

pub seven : (a b c d e f g : Bool) → T (a && (b && (c && (d && (e && (f && g)))))) → T a × T b × T c × T d × T e × T f × T g
seven a b c d e f g h =
    let k = six b c d e f g (and_r a (b && (c && (d && (e && (f && g))))) h) in
    (and_l a (b && (c && (d && (e && (f && g))))) h, k.0, k.1, k.2, k.3, k.4, k.5)

pub of-seven : (a b c d e f g : Bool) → T a → T b → T c → T d → T e → T f → T g → T (a && (b && (c && (d && (e && (f && g))))))
of-seven a b c d e f g p q r s t u v = and_i a (b && (c && (d && (e && (f && g))))) p (of-six b c d e f g q r s t u v)

-- ---- a candidate

pub record CandidateRules (n : ℕ) (c : Candidate) : Type 0 where
  pub element : c.element < n
  pub intrinsic : T (intrinsic_ok c.intrinsic)
  pub near : c.near ≤ 1
  pub raw_log : T (raw_log_ok c.raw_log)

pub candidate-rules : (n : ℕ) (c : Candidate) → T (candidate_ok n c) → CandidateRules n c
unfolding candidate_ok
candidate-rules n c h =
    let k = four (ltb c.element n) (intrinsic_ok c.intrinsic) (leb c.near 1) (raw_log_ok c.raw_log) h in
    record { element = ltb→lt c.element n k.0; intrinsic = k.1; near = leb→le c.near 1 k.2; raw_log = k.3 }

pub rules-candidate : (n : ℕ) (c : Candidate) → CandidateRules n c → T (candidate_ok n c)
unfolding candidate_ok
rules-candidate n c h =
    of_four (ltb c.element n) (intrinsic_ok c.intrinsic) (leb c.near 1) (raw_log_ok c.raw_log)
    (lt→ltb c.element n h.element) h.intrinsic (le→leb c.near 1 h.near) h.raw_log

-- in a network of n elements, and so in one of more
pub candidate-wider : (n m : ℕ) (c : Candidate) → n ≤ m → T (candidate_ok n c) → T (candidate_ok m c)
candidate-wider n m c h k =
    let r = candidate-rules n c k in
    rules-candidate m c (record { element = omega (arith, r.element); intrinsic = r.intrinsic; near = r.near; raw_log = r.raw_log })

-- ---- a cell

pub record CellRules (p n : ℕ) (c : Cell) : Type 0 where
  pub candidate : T (candidate_ok element_limit c.candidate)
  pub parent : T (parent_ok p c.parent)
  pub score : T (score_ok n c.score)

pub cell-rules : (p n : ℕ) (c : Cell) → T (cell_ok p n c) → CellRules p n c
unfolding cell_ok
cell-rules p n c h =
    let k = three (candidate_ok element_limit c.candidate) (parent_ok p c.parent) (score_ok n c.score) h in
    record { candidate = k.0; parent = k.1; score = k.2 }

pub rules-cell : (p n : ℕ) (c : Cell) → CellRules p n c → T (cell_ok p n c)
unfolding cell_ok
rules-cell p n c h = of_three (candidate_ok element_limit c.candidate) (parent_ok p c.parent) (score_ok n c.score) h.candidate h.parent h.score

-- ---- a fix

pub record FixRules (n : ℕ) (f : Fix) : Type 0 where
  pub few : candidate_count f ≤ candidate_limit
  pub candidates : T (each (candidate_ok n) f.candidates)
  pub distances : T (each distance_ok f.distances)

pub fix-rules : (n : ℕ) (f : Fix) → T (fix_ok n f) → FixRules n f
fix-rules n f h =
    let k = three (leb (candidate_count f) candidate_limit) (each (candidate_ok n) f.candidates) (each distance_ok f.distances) h in
    record { few = leb→le (candidate_count f) candidate_limit k.0; candidates = k.1; distances = k.2 }

pub rules-fix : (n : ℕ) (f : Fix) → FixRules n f → T (fix_ok n f)
rules-fix n f h =
    of_three (leb (candidate_count f) candidate_limit) (each (candidate_ok n) f.candidates) (each distance_ok f.distances)
    (le→leb (candidate_count f) candidate_limit h.few) h.candidates h.distances

-- ---- a row

pub record RowRules (since q n : ℕ) (r : Row) : Type 0 where
  pub minute : since ≤ r.minute
  pub few : row_size r ≤ candidate_limit
  pub before : r.before ≡ before_of q (row_size r)
  pub number : length r.distances ≡ row_size r * r.before
  pub cells : T (each (cell_ok r.before n) r.cells)
  pub distances : T (each distance_ok r.distances)

pub row-rules : (since q n : ℕ) (r : Row) → T (row_ok since q n r) → RowRules since q n r
unfolding row_ok
row-rules since q n r h =
    let k = six (leb since r.minute) (leb (row_size r) candidate_limit) (eqb r.before (before_of q (row_size r))) (eqb (length r.distances) (row_size r * r.before)) (each (cell_ok r.before n) r.cells) (each distance_ok r.distances) h in
    record {
      minute = leb→le since r.minute k.0;
      few = leb→le (row_size r) candidate_limit k.1;
      before = eqb→eq r.before (before_of q (row_size r)) k.2;
      number = eqb→eq (length r.distances) (row_size r * r.before) k.3;
      cells = k.4;
      distances = k.5;
    }

pub rules-row : (since q n : ℕ) (r : Row) → RowRules since q n r → T (row_ok since q n r)
unfolding row_ok
rules-row since q n r h =
    of-six (leb since r.minute) (leb (row_size r) candidate_limit) (eqb r.before (before_of q (row_size r))) (eqb (length r.distances) (row_size r * r.before)) (each (cell_ok r.before n) r.cells) (each distance_ok r.distances)
    (le→leb since r.minute h.minute) (le→leb (row_size r) candidate_limit h.few) (eq→eqb h.before) (eq→eqb h.number) h.cells h.distances
