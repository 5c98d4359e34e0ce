-- The table of record lengths: one test of all its entries, and the rule that follows from it. Assumes nothing.
use Prim.Native.Nat.{ℕ, ◌+◌, ◌*◌, ◌/◌, ◌%◌, ◌≤◌}
use native.Mathlib.Nat.{mul-le-mul}
use native.Mathlib.Omega.{arith}
use mathlib.Core.Path.{◌≡◌, refl}
use mathlib.Core.Bool.{Bool, true}
use mathlib.Core.List.{List}
use lib.Dec.{eqb, eqb→eq}
use lib.ListN.{get_or}
use Rattle.lists.specs.Loops.{every_below}
use Rattle.lists.proofs.Loops.{every-at}
use Rattle.binary64.proofs.Order.{taken}
use Rattle.journal.specs.Ranges.{candidate_limit}
use Rattle.journal.specs.Record.{record_length}
use Rattle.journal.specs.declared.lengths.TheConstants.{RECORD_LENGTHS}
use Rattle.journal.specs.inner.LengthTable.{LengthTable}

-- entry k has the length of k / 17 candidates with k % 17 predecessor candidates
abbrev pub entry_right : List ℕ → ℕ → Bool
entry_right t k = eqb (get_or t k 0) (record_length (k / 17) (k % 17))

pub table-rule : (t : List ℕ) → every_below 289 (entry_right t) ≡ true → LengthTable t
unfolding LengthTable
table-rule t h c p few few-before =
    let k = 17 * c + p in
    let row : k / 17 ≡ c = omega arith in
    let column : k % 17 ≡ p = omega arith in
    rw (row, column) at (eqb→eq (get_or t k 0) (record_length (k / 17) (k % 17)) (taken (every-at 289 (entry_right t) h k (omega arith))))

-- the table of the code, whose entries the checker computes
pub lengths-right : LengthTable RECORD_LENGTHS
unfolding every_below record_length
lengths-right = table-rule RECORD_LENGTHS refl

-- the longest record
pub length-small : {c p : ℕ} → c ≤ candidate_limit → p ≤ candidate_limit → record_length c p ≤ 629
unfolding record_length
length-small few few-before = omega (arith, mul-le-mul few few-before)
