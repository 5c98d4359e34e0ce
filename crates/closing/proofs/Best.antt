-- The best score of a row that scores is finite, and one of its candidates has it. Assumes nothing.
use Prim.Native.Nat.{ℕ, ◌<◌}
use lib.Dec.{T}
use lib.Ieee.{Float, le}
use lib.Ieee.Scale.{finite}
use Rattle.binary64.specs.Values.{pzero}
use Rattle.binary64.proofs.Order.{le_left}
use Rattle.binary64.proofs.Bounds.{between-finite}
use Rattle.journal.specs.Row.{Row, row_size, score_of, scores}
use Rattle.rows.specs.Row.{best_of}
use Rattle.decoder.proofs.Best.{last_best-all, last_best-at, last_best-greatest}
use Rattle.decoder.proofs.Cells.{scores-elim}

module _ (r : Row) (low : (i : ℕ) → T (le (score_of r i) pzero)) where
  -- it lies from a finite score to 0
  best-finite : T (scores r) → T (finite (best_of r).1)
  best-finite t =
      let s = scores-elim r t in
      between-finite (score_of r s.0) (best_of r).1 pzero s.2 tt
      (last_best-greatest (score_of r) (λ i. le_left (score_of r i) pzero (low i)) (row_size r) s.0 s.1)
      (last_best-all (λ (x : Float). T (le x pzero)) (unfold le in tt) (score_of r) low (row_size r))

  pub best-below : T (scores r) → (best_of r).0 < row_size r
  best-below t = (last_best-at (score_of r) (row_size r) (best-finite t)).0
