-- `journal::record::put_row` meets its contract.
use Prim.Native.Nat.{◌*◌}
use native.Mathlib.Nat.{mul-le-mul}
use native.Mathlib.Omega.{arith}
use mathlib.Core.Path.{◌≡◌, sym, ◌∙◌}
use lib.ListN.{length, length-set}
use Rattle.std.specs.Prelude.{ℕ, List, Float}
use Rattle.journal.specs.inner.Row.{cells_of, row_of, RowGiven}
use Rattle.journal.specs.inner.Fix.{candidates_in, fix_in}
use Rattle.journal.specs.declared.fix.Candidates.{Candidates}
use Rattle.journal.specs.Record.{record_length, record_of}
use Rattle.journal.proofs.Gathered.{count-in}
use Rattle.journal.proofs.Stores.{cells-many, row-stored, row-length}
use Rattle.journal.proofs.record.put_row.Goals as goal

-- a row whose cells are those of a fix has as many of them, and its record is as long as their number tells
module _ {fix : Candidates} {ds : List Float} {ps : List ℕ} {ss : List Float} {p : ℕ} (g : RowGiven fix ds ps ss p) where
  many : length (cells_of (candidates_in fix) ps ss) ≡ fix.count
  many = cells-many (candidates_in fix) ps ss ∙ count-in fix g.whole

  number : length ds ≡ fix.count * p
  number = rw (← many) g.writable.number

  long : (place : ℕ) → length (record_of place (row_of (fix_in fix ds) ps ss p)) ≡ record_length fix.count p
  long place = row-length place (row_of (fix_in fix ds) ps ss p) _ g.writable.number many

pub bounds-words-0 : goal.bounds-words-0
unfolding record_length
bounds-words-0 c = omega (arith, long c.requires.row c.args.place, c.requires.row_in_bounds.0)

pub bounds-words-1 : goal.bounds-words-1
unfolding record_length
bounds-words-1 c = simp length-set (omega (arith, long c.requires.row c.args.place, c.requires.row_in_bounds.0))

pub bounds-words-2 : goal.bounds-words-2
unfolding record_length
bounds-words-2 c = simp length-set (omega (arith, long c.requires.row c.args.place, c.requires.row_in_bounds.0))

pub put_cells-requires : goal.put_cells-requires
unfolding record_length
put_cells-requires c =
    record {
      entries16 = c.requires.row.whole;
      by_index = c.requires.row.writable.cell;
      cells_in_bounds = simp length-set (omega (arith, long c.requires.row c.args.place, many c.requires.row, c.requires.row_in_bounds.0));
    }

pub put_distances-requires : goal.put_distances-requires
unfolding record_length
put_distances-requires c =
    let product = mul-le-mul c.requires.row.whole.few c.requires.row.writable.before in
    record {
      distances_in_bounds = omega (arith, number c.requires.row, long c.requires.row c.args.place, c.requires.row_in_bounds.0, simp length-set at c.put_cells.auto.words);
      distances_len_bound = omega (arith, number c.requires.row, product);
    }

pub overflow_sub-words : goal.overflow_sub-words
unfolding record_length
overflow_sub-words c = omega (arith, c.record_length-length.ensures.0)

pub bounds-words-length : goal.bounds-words-length
unfolding record_length
bounds-words-length c =
    omega (arith, c.record_length-length.ensures.0, long c.requires.row c.args.place, simp length-set at c.put_cells.auto.words, c.put_distances.auto.words, c.requires.row_in_bounds.0)

pub returns : goal.returns
returns c =
    let length-is = c.record_length-length.ensures.0 in
    record {
      length_told = length-is ∙ sym (long c.requires.row c.args.place);
      record_put = row-stored c.args.words.now _ _ c.args.place _ c.requires.row.writable.number _ (many c.requires.row) _ length-is c.put_cells.ensures c.put_distances.ensures;
    }
