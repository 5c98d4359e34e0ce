-- The end of the walk back along the parents, and what storing its pairs leaves. Assumes nothing.
use Prim.Native.Nat.{ℕ, zero, suc, ◌+◌, ◌-◌, ◌<◌, ◌≤◌}
use native.Mathlib.Omega.{arith}
use mathlib.Core.Path.{◌≡◌, refl, ap, ◌∙◌}
use mathlib.Core.Bool.{Bool, true, false, cond}
use mathlib.Core.List.{List, [], ◌∷◌, map, reverse_aux}
use lib.Dec.{ltb}
use lib.ListN.{length, drop, set, length-set}
use Rattle.journal.specs.Row.{Row, no_parent}
use Rattle.decoder.specs.Closing.{Pairs, follow}
use Rattle.journal.specs.inner.Rows.{rows_in}
use Rattle.closing.specs.inner.Walk.{first_rows, Reached, RecordLeft, path_from, over, pair_stored, column}
use Rattle.closing.specs.Close.{PairField}
use Rattle.closing.specs.declared.walk.Back.{Back}
use Rattle.closing.proofs.Steps.{drop-length, over-column}

-- ---- the end of the walk

follow-none : (rs : List Row) → follow rs no_parent ≡ []
unfolding follow
follow-none [] = refl
follow-none (r ∷ rs) = refl

module _ (s : List ℕ) (b : Back) where
  pub path-stops : b.candidate ≡ no_parent → path_from s b ≡ []
  path-stops e = ap (follow (first_rows s b.rows)) e ∙ follow-none (first_rows s b.rows)

  pub path-ends : b.rows ≡ 0 → path_from s b ≡ []
  unfolding follow
  path-ends e =
      let all : length (rows_in s) - b.rows ≡ length (rows_in s) = omega arith in
      rw (all, drop-length (rows_in s))

  -- pairs still to come: there is a record to go over
  pub path-onward : Reached s b → 0 < length (path_from s b) → RecordLeft s b
  path-onward h l = record { reached = h; left = some b.rows refl; parent = λ (e : b.candidate ≡ no_parent). omega (arith, ap length (path-stops e)) }
    where
      some : (n : ℕ) → b.rows ≡ n → 0 < b.rows
      some zero e = absurd (omega (arith, ap length (path-ends e)))
      some (suc n) e = omega arith

-- ---- storing the pairs

entered-length : (b c : Back) (n x : ℕ) (buffer : List ℕ) → length (pair_stored b c n x buffer) ≡ length buffer
unfolding pair_stored
entered-length b c n x buffer = go (ltb b.pairs c.pairs)
  where
    go : (t : Bool) → length (cond t (set buffer (n - c.pairs) x) buffer) ≡ length buffer
    go true = length-set buffer (n - c.pairs) x
    go false = refl

-- n pairs, those found so far stored in a buffer from its entry n - 1 down
pub record Column (s : List ℕ) (n : ℕ) (f : PairField) (whole : List ℕ) (long : ℕ) (b : Back) (buffer : List ℕ) : Type 0 where
  pub same_length : length buffer ≡ long
  pub is-stored : column f (path_from s b) (n - b.pairs) buffer ≡ whole

pub column-start : (s : List ℕ) (n : ℕ) (f : PairField) (b : Back) (buffer : List ℕ) → b.pairs ≡ 0 → Column s n f (column f (path_from s b) n buffer) (length buffer) b buffer
column-start s n f b buffer e =
    let all : n - b.pairs ≡ n = omega arith in
    record { same_length = refl; is-stored = ap (λ (k : ℕ). column f (path_from s b) k buffer) all }

module _ {s : List ℕ} {n : ℕ} {f : PairField} {whole : List ℕ} {long : ℕ} {b : Back} {buffer : List ℕ} (c : Column s n f whole long b buffer) where
  pub column-turn : RecordLeft s b → b.pairs < n → n ≤ long → {r : Back} {x : ℕ} {buffer' : List ℕ} → r ≡ over (first_rows s b.rows) b → x ≡ f (r.rows, b.candidate) → buffer' ≡ pair_stored b r n x buffer
      → Column s n f whole long r buffer'
  column-turn o l room {r} {x} {buffer'} e k q = record {
    same_length = ap length q ∙ entered-length b r n x buffer ∙ c.same_length;
    is-stored = rw (q, e) (over-column o f n buffer x (rw e at k) l (omega (arith, c.same_length)) ∙ c.is-stored);
  }

  pub column-end : b.pairs + length (path_from s b) ≡ n → n ≤ b.pairs → buffer ≡ whole
  unfolding column
  column-end e l = go (path_from s b) (omega arith) c.is-stored
    where
      go : (w : Pairs) → length w ≡ 0 → reverse_aux (map f w) (drop (n - b.pairs) buffer) ≡ whole → buffer ≡ whole
      go [] z h = let none_left : n - b.pairs ≡ 0 = omega arith in rw none_left at h
      go (p ∷ w) z h = absurd (omega arith)
