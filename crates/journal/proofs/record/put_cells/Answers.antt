-- `journal::record::put_cells` meets its contract.
use native.Mathlib.Omega.{arith}
use mathlib.Core.Path.{◌≡◌, ◌∙◌}
use lib.Seq.{take-length}
use lib.ListN.{length}
use Rattle.journal.specs.inner.Row.{cells_of}
use Rattle.journal.specs.inner.Fix.{candidates_in}
use Rattle.journal.proofs.Gathered.{count-in}
use Rattle.journal.proofs.Stores.{cells-many, cell-narrow, cells-turn}
use Rattle.journal.proofs.record.put_cells.Goals as goal

pub put_cell-requires : goal.put_cell-requires
put_cell-requires c =
    let a = c.args in
    let loop = c.loop-k in
    let many = count-in _ c.requires.entries16 in
    let cells = cells-many (candidates_in a.fix) a.parents.now a.scores.now in
    let l = c.loop-k-test.true in
    record {
      cell_writable = cell-narrow _ a.parents.now a.scores.now loop.k (omega (arith, l, many)) c.own_candidate-c.ensures c.requires.by_index;
      at_in_bounds = omega (arith, l, many, cells, loop.invariant.0, c.requires.cells_in_bounds);
    }

pub loop-k-preserved : goal.loop-k-preserved
loop-k-preserved c = let a = c.args in
    let loop = c.loop-k in
    let l = c.loop-k-test.true in
    (c.put_cell.auto.words ∙ loop.invariant.0, cells-turn _ a.parents.now a.scores.now a.words.now loop.words _ loop.k (omega (arith, l, count-in _ c.requires.entries16)) c.own_candidate-c.ensures loop.invariant.1 c.put_cell.ensures)

pub returns : goal.returns
returns c = let a = c.args in
    let loop = c.loop-k in
    let cells = cells_of (candidates_in a.fix) a.parents.now a.scores.now in
    let e : loop.k ≡ length cells = omega (arith, cells-many (candidates_in a.fix) a.parents.now a.scores.now, count-in _ c.requires.entries16) in
    loop.invariant.1 ∙ rw (e, take-length cells)
