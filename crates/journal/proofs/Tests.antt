-- What is tested word by word is what the definitions of reading ask, of words of 32 bits. Assumes nothing.
use Prim.Native.Nat.{ℕ, ◌+◌, ◌*◌, ◌/◌, ◌%◌, ◌<◌, ◌≤◌}
use native.Mathlib.Omega.{arith}
use native.Mathlib.Nat.{add-zero, add_assoc}
use mathlib.Core.Path.{◌≡◌, sym, ap, ◌∙◌, subst}
use mathlib.Core.Bool.{Bool, not, ◌&&◌, ◌||◌, and_assoc}
use mathlib.Core.List.{List, [], ◌∷◌, ◌++◌}
use lib.Dec.{T, eqb, leb, eqb→eq}
use borrow.Author.Tests.{lt-ltb, le-leb}
use lib.ListN.{length, get_or, drop, length-drop}
use lib.Seq.{get_or-drop}
use lib.Ieee.{Float, nan, inf, fin, binary64, to_bits, is_nan}
use lib.Ieee.Bits.{is_true, to_bits-of_bits}
use lib.Ieee.Fits.{and_i, and_l, and_r, eq→eqb}
use Rattle.binary64.specs.Values.{is_minus_infinity}
use Rattle.binary64.specs.Ranges.{in_range}
use Rattle.binary64.proofs.Order.{same_test}
use Rattle.binary64.proofs.Ranges.{range-number, clear-range-range}
use Rattle.journal.specs.Lists.{starts}
use Rattle.journal.specs.Row.{Cell}
use Rattle.journal.specs.Ranges.{element_limit, intrinsic_ok, raw_log_ok, score_ok, parent_ok, distance_ok, candidate_ok, cell_ok}
use Rattle.journal.specs.Record.{candidate_word, high_half, low_half, cell_words, float_words, read_float, float_at, read_cell, read_distance, read_minute}
use Rattle.journal.specs.inner.Check.{well_read, minute_reads}
use Rattle.journal.proofs.Lists.{starts-self}
use Rattle.journal.proofs.Rules.{candidate-rules, cell-rules}

-- words of 32 bits
abbrev pub Words : List ℕ → Type 0
Words ws = (k : ℕ) → get_or ws k 0 < 4294967296

pub drop-words : (n : ℕ) (ws : List ℕ) → Words ws → Words (drop n ws)
drop-words n ws h k = rw (get_or-drop n ws k 0) (h (n + k))

-- ---- a word's kind, and a minute

-- the top four bits are the kind, whatever the 28 bits below
pub kind-word : (kind w : ℕ) → eqb w (268435456 * kind + w % 268435456) ≡ eqb (w / 268435456) kind
kind-word kind w =
    same_test (eqb w (268435456 * kind + w % 268435456)) (eqb (w / 268435456) kind)
    (λ t. eq→eqb (top (eqb→eq w (268435456 * kind + w % 268435456) t))) (λ t. eq→eqb (whole (eqb→eq (w / 268435456) kind t)))
  where
    top : w ≡ 268435456 * kind + w % 268435456 → w / 268435456 ≡ kind
    top e = omega arith

    whole : w / 268435456 ≡ kind → w ≡ 268435456 * kind + w % 268435456
    whole e = omega arith

-- by what the test of the kind gives
pub minute-by : (since w : ℕ) (a : Bool) → eqb (w / 268435456) 8 ≡ a → a && leb since (read_minute w) ≡ minute_reads since w
unfolding minute_reads
minute-by since w a e = sym (ap (λ (b : Bool). b && leb since (read_minute w)) (kind-word 8 w ∙ e))

-- ---- a float that is no NaN is read from its own words

float_back : (h l : ℕ) → h < 4294967296 → l < 4294967296 → T (not (is_nan (read_float h l))) → (high_half (read_float h l) ≡ h) × (low_half (read_float h l) ≡ l)
float_back h l a b n =
    let e : to_bits binary64 (read_float h l) ≡ h * 4294967296 + l = to_bits-of_bits binary64 (h * 4294967296 + l) (omega arith) n in
    (rw e (omega arith), rw e (omega arith))

or-number : (low high x : Float) → T (is_minus_infinity x || in_range low high x) → T (not (is_nan x))
or-number low high nan h = range-number low high nan (is_true (in_range low high nan) h)
or-number low high (inf s) h = unfold is_nan in tt
or-number low high (fin s m e) h = unfold is_nan in tt

intrinsic-number : (x : Float) → T (intrinsic_ok x) → T (not (is_nan x))
unfolding intrinsic_ok
intrinsic-number x h = range-number _ _ x (is_true _ (clear-range-range _ _ x h))

raw_log-number : (x : Float) → T (raw_log_ok x) → T (not (is_nan x))
unfolding raw_log_ok
raw_log-number x h = or-number _ _ x h

score-number : (n : ℕ) (x : Float) → T (score_ok n x) → T (not (is_nan x))
unfolding score_ok
score-number n x h = or-number _ _ x h

distance-number : (x : Float) → T (distance_ok x) → T (not (is_nan x))
unfolding distance_ok
distance-number x h = range-number _ _ x (is_true _ h)

-- ---- a distance

-- the words of a distance are any that hold one in range
pub distance-test : (ws : List ℕ) → Words ws → 2 ≤ length ws → well_read float_words read_distance distance_ok ws ≡ distance_ok (read_distance ws)
unfolding well_read
distance-test [] w h = absurd (omega arith)
distance-test (a ∷ []) w h = absurd (omega arith)
distance-test (a ∷ b ∷ ws) w h = same_test (starts (float_words x) (a ∷ b ∷ ws) && distance_ok x) (distance_ok x) (and_r (starts (float_words x) (a ∷ b ∷ ws)) (distance_ok x)) there
  where
    x : Float
    x = read_float a b

    there : T (distance_ok x) → T (starts (float_words x) (a ∷ b ∷ ws) && distance_ok x)
    there ok =
        let f = float_back a b (w 0) (w 1) (distance-number x ok) in
        let same : float_words x ++ ws ≡ a ∷ b ∷ ws = cc (f.0, f.1) in
        and_i (starts (float_words x) (a ∷ b ∷ ws)) (distance_ok x) (subst (λ (l : List ℕ). T (starts (float_words x) l)) same (starts-self (float_words x) ws)) ok

-- ---- a cell

cell-first : (c : Cell) (a : ℕ) (r : List ℕ) → T (starts (cell_words c) (a ∷ r)) → candidate_word c.candidate.element c.candidate.near c.parent ≡ a
cell-first c a r h =
    let w = candidate_word c.candidate.element c.candidate.near c.parent in
    eqb→eq w a (and_l (eqb w a) (starts (drop 1 (cell_words c)) r) h)

-- the words of a cell are any of kind 2, with unnamed bits 0, whose fields are in range
pub cell-test : (p n : ℕ) (ws : List ℕ) → Words ws → 7 ≤ length ws → well_read cell_words read_cell (cell_ok p n) ws ≡ eqb (get_or ws 0 0 / 65536) 8192 && cell_ok p n (read_cell ws)
unfolding well_read
cell-test p n [] w h = absurd (omega arith)
cell-test p n (a ∷ []) w h = absurd (omega arith)
cell-test p n (a ∷ b ∷ []) w h = absurd (omega arith)
cell-test p n (a ∷ b ∷ d ∷ []) w h = absurd (omega arith)
cell-test p n (a ∷ b ∷ d ∷ e ∷ []) w h = absurd (omega arith)
cell-test p n (a ∷ b ∷ d ∷ e ∷ f ∷ []) w h = absurd (omega arith)
cell-test p n (a ∷ b ∷ d ∷ e ∷ f ∷ g ∷ []) w h = absurd (omega arith)
cell-test p n (a ∷ b ∷ d ∷ e ∷ f ∷ g ∷ k ∷ r) w h = same_test (begun && ok) (eqb (a / 65536) 8192 && ok) here there
  where
    ws : List ℕ
    ws = a ∷ b ∷ d ∷ e ∷ f ∷ g ∷ k ∷ r

    c : Cell
    c = read_cell ws

    begun : Bool
    begun = starts (cell_words c) ws

    ok : Bool
    ok = cell_ok p n c

    here : T (begun && ok) → T (eqb (a / 65536) 8192 && ok)
    here t =
        let q : a / 65536 ≡ 8192 = omega (arith, cell-first c a (b ∷ d ∷ e ∷ f ∷ g ∷ k ∷ r) (and_l begun ok t)) in
        and_i (eqb (a / 65536) 8192) ok (eq→eqb q) (and_r begun ok t)

    there : T (eqb (a / 65536) 8192 && ok) → T (begun && ok)
    there t =
        let o = and_r (eqb (a / 65536) 8192) ok t in
        let rules = cell-rules p n c o in
        let fields = candidate-rules element_limit c.candidate rules.candidate in
        let high_bits_lem = eqb→eq (a / 65536) 8192 (and_l (eqb (a / 65536) 8192) ok t) in
        let word : candidate_word (a % 1024) (a / 1024 % 2) (a / 2048 % 32) ≡ a = omega arith in
        let i = float_back b d (w 1) (w 2) (intrinsic-number (read_float b d) fields.intrinsic) in
        let l = float_back e f (w 3) (w 4) (raw_log-number (read_float e f) fields.raw_log) in
        let s = float_back g k (w 5) (w 6) (score-number n (read_float g k) rules.score) in
        let same : cell_words c ++ r ≡ ws = cc (i.0, i.1, l.0, l.1, s.0, s.1) in
        and_i begun ok (subst (λ (x : List ℕ). T (starts (cell_words c) x)) same (starts-self (cell_words c) r)) o

-- ---- at a place

pub drop-first : (at : ℕ) (ws : List ℕ) → get_or (drop at ws) 0 0 ≡ get_or ws at 0
drop-first at ws = get_or-drop at ws 0 0 ∙ ap (λ (k : ℕ). get_or ws k 0) (add-zero at)

pub drop-float : (at i : ℕ) (ws : List ℕ) → float_at (drop at ws) i ≡ float_at ws (at + i)
drop-float at i ws = rw (get_or-drop at ws i 0, get_or-drop at ws (i + 1) 0, ← add_assoc at i 1)

pub cell_at : (at : ℕ) (ws : List ℕ) → read_cell (drop at ws)
    ≡ record {
      candidate = record { element = get_or ws at 0 % 1024; intrinsic = float_at ws (at + 1); near = get_or ws at 0 / 1024 % 2; raw_log = float_at ws (at + 3) };
      parent = get_or ws at 0 / 2048 % 32;
      score = float_at ws (at + 5);
    }
cell_at at ws = rw (drop-first at ws, drop-float at 1 ws, drop-float at 3 ws, drop-float at 5 ws)

-- element and near are within their bits
candidate-at : (at : ℕ) (ws : List ℕ) → candidate_ok element_limit (read_cell (drop at ws)).candidate ≡ intrinsic_ok (float_at ws (at + 1)) && raw_log_ok (float_at ws (at + 3))
unfolding candidate_ok
candidate-at at ws = rw (drop-first at ws, drop-float at 1 ws, drop-float at 3 ws, lt-ltb (get_or ws at 0 % 1024) 1024 (omega arith), le-leb (get_or ws at 0 / 1024 % 2) 1 (omega arith))

pub cell-at-test : (p n at : ℕ) (ws : List ℕ) → Words ws → at + 7 ≤ length ws
    → well_read cell_words read_cell (cell_ok p n) (drop at ws)
    ≡ eqb (get_or ws at 0 / 65536) 8192 && (intrinsic_ok (float_at ws (at + 1)) && (raw_log_ok (float_at ws (at + 3)) && (parent_ok p (get_or ws at 0 / 2048 % 32) && score_ok n (float_at ws (at + 5)))))
cell-at-test p n at ws w h =
    let long : 7 ≤ length (drop at ws) = simp length-drop (omega arith) in
    cell-test p n (drop at ws) (drop-words at ws w) long ∙ (unfold cell_ok in rw (candidate-at at ws, drop-first at ws, drop-float at 5 ws, and_assoc))

pub distance-at-test : (at : ℕ) (ws : List ℕ) → Words ws → at + 1 < length ws → well_read float_words read_distance distance_ok (drop at ws) ≡ distance_ok (float_at ws at)
distance-at-test at ws w h =
    let long : 2 ≤ length (drop at ws) = simp length-drop (omega arith) in
    distance-test (drop at ws) (drop-words at ws w) long ∙ ap distance_ok (drop-float at 0 ws ∙ ap (float_at ws) (add-zero at))
