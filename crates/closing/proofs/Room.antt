-- Buffers for 16 candidates and 256 distances hold every row of a well-formed journal: reading one into them is never refused with 15. Assumes nothing.
use Prim.Native.Nat.{ℕ, suc, ◌*◌, ◌-◌, ◌<◌, ◌≤◌}
use native.Mathlib.Nat.{mul-le-mul}
use native.Mathlib.Omega.{arith}
use Rattle.std.specs.Prelude.{Ok, Err}
use Rattle.refusals.specs.declared.Refusal.{Refusal}
use mathlib.Core.Path.{◌≡◌, refl}
use mathlib.Core.Bool.{Bool, true, false, cond}
use mathlib.Core.List.{List}
use mathlib.Core.Option.{Option, none, some}
use borrow.Author.Tests.{le-leb}
use lib.Dec.{ltb, ltb→lt}
use lib.ListN.{length, drop}
use lib.Seq.{drop-cons}
use Rattle.binary64.proofs.Order.{taken}
use Rattle.journal.specs.Row.{Row, no_row, row_size, row_number}
use Rattle.journal.specs.Ranges.{candidate_limit}
use Rattle.journal.specs.Journal.{read_journal}
use Rattle.journal.specs.WellFormed.{RowFits}
use Rattle.journal.proofs.Places.{row-obeys}
use Rattle.closing.specs.Row.{RowBuffers, candidate_room, row_fitted, reading_read, reading}

module _ (b : RowBuffers) (candidates : candidate_limit ≤ candidate_room b) (distances : candidate_limit * candidate_limit ≤ length b.distances) where
  row-held : (r : Row) → RowFits r → row_fitted b r ≡ Ok r
  unfolding row_fitted
  row-held r f =
      let few : row_size r ≤ candidate_room b = omega (arith, f.few) in
      let pairs = mul-le-mul f.few f.few-before in
      let room : length r.distances ≤ length b.distances = omega (arith, f.number, pairs) in
      rw (le-leb _ _ few, le-leb _ _ room)

  module _ (s : List ℕ) (n : ℕ) where
    fits : (rs : List Row) → read_journal s ≡ some rs → n < length rs → RowFits (row_number rs n)
    fits rs e l =
        let k = length rs - suc n in
        (row-obeys s rs e k (row_number rs n) (drop (suc k) rs) (drop-cons rs k no_row (omega arith))).0.0

    pub room-enough : reading s n b ≡ Err Refusal.Buffer → ⊥
    unfolding reading
    room-enough e = go (read_journal s) refl e
      where
        stands : (rs : List Row) → read_journal s ≡ some rs → (t : Bool) → ltb n (length rs) ≡ t → cond t (row_fitted b (row_number rs n)) (Err Refusal.Row) ≡ Err Refusal.Buffer → ⊥
        stands rs q true p k = let held = row-held (row_number rs n) (fits rs q (ltb→lt n (length rs) (taken p))) in cc
        stands rs q false p k = cc

        go : (o : Option (List Row)) → read_journal s ≡ o → reading_read n b o ≡ Err Refusal.Buffer → ⊥
        go none q k = cc
        go (some rs) q k = stands rs q (ltb n (length rs)) refl k
