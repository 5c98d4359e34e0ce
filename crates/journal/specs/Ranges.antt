-- Document 01's ranges of a candidate's fields, a distance, a score and a parent. A NaN is outside each.
use Rattle.std.specs.Prelude.{ℕ, suc, ◌*◌, Bool, true, false, ◌&&◌, ◌||◌, leb, ltb, eqb, pos, Float}
use Rattle.std.specs.Float.{fin, binary64}
use Rattle.binary64.specs.Values.{pzero, pone, of_whole, is_minus_infinity}
use Rattle.binary64.specs.Ranges.{in_range, in_clear_range}
use Rattle.journal.specs.declared.record.Candidate.{Candidate}
use Rattle.journal.specs.Row.{Cell, no_parent}

-- at most this many candidates in a fix, elements in a network, rows in a journal
abbrev pub candidate_limit : ℕ
candidate_limit = 16

abbrev pub element_limit : ℕ
element_limit = 1024

abbrev pub row_limit : ℕ
row_limit = 65535

-- minutes are below: they have 28 bits
abbrev pub minute_limit : ℕ
minute_limit = 268435456

-- 0 to 1, sign bit clear
unfoldable pub intrinsic_ok : Float → Bool
intrinsic_ok x = in_clear_range pzero pone x

-- minus infinity, or -745 to 0
unfoldable pub raw_log_ok : Float → Bool
raw_log_ok x = is_minus_infinity x || in_range (fin true 745 (pos 0)) pzero x

-- 0 to 20,100,000 m
unfoldable pub distance_ok : Float → Bool
distance_ok x = in_range pzero (fin false 628125 (pos 5)) x

-- -10^13 * (r + 1)
unfoldable pub lowest_score : ℕ → Float
lowest_score r = of_whole binary64 true (10_000_000_000_000 * suc r)

-- in row r, from 0: minus infinity, or -10^13 * (r + 1) to 0
unfoldable pub score_ok : ℕ → Float → Bool
score_ok r x = is_minus_infinity x || in_range (lowest_score r) pzero x

-- below p, or none
abbrev pub parent_ok : ℕ → ℕ → Bool
parent_ok p parent = ltb parent p || eqb parent no_parent

-- in a network of n elements
unfoldable pub candidate_ok : ℕ → Candidate → Bool
candidate_ok n c = ltb c.element n && (intrinsic_ok c.intrinsic && (leb c.near 1 && raw_log_ok c.raw_log))

-- in row r, with p predecessor candidates
unfoldable pub cell_ok : ℕ → ℕ → Cell → Bool
cell_ok p r c = candidate_ok element_limit c.candidate && (parent_ok p c.parent && score_ok r c.score)
