-- `decoder::known::rows_known` meets its contract.
use native.Mathlib.Omega.{arith}
use mathlib.Core.Path.{sym, ap, ◌∙◌}
use mathlib.Core.List.{List}
use Prim.Native.Nat.{ℕ}
use Rattle.journal.specs.Record.{read_row}
use Rattle.decoder.specs.Call.{known_row}
use Rattle.journal.proofs.Stores.{take_rest}
use Rattle.decoder.proofs.KnownRows.{known_start, known-room, known-inside, known-stop, known-turn, known-done}
use Rattle.decoder.proofs.known.rows_known.Goals as goal

pub loop-init : goal.loop-init
loop-init c = known_start _ _ _ _ c.requires

pub offset_bounds-journal-at : goal.offset_bounds-journal-at
offset_bounds-journal-at c = omega (arith, known-room _ _ _ _ _ c.loop.invariant c.loop-test.true)

pub bounds-journal-at : goal.bounds-journal-at
bounds-journal-at c = omega (arith, known-room _ _ _ _ _ c.loop.invariant c.loop-test.true)

pub overflow_sub-at-in-loop : goal.overflow_sub-at-in-loop
overflow_sub-at-in-loop c = (known-room _ _ _ _ _ c.loop.invariant c.loop-test.true).2

pub offset_bounds-journal-at-in-loop : goal.offset_bounds-journal-at-in-loop
offset_bounds-journal-at-in-loop c = omega (arith, known-room _ _ _ _ _ c.loop.invariant c.loop-test.true)

pub slice_bounds-row_known-count : goal.slice_bounds-row_known-count
slice_bounds-row_known-count c = omega (arith, known-room _ _ _ _ _ c.loop.invariant c.loop-test.true)

pub slice_bounds-row_known-start : goal.slice_bounds-row_known-start
slice_bounds-row_known-start c = omega (arith, known-room _ _ _ _ _ c.loop.invariant c.loop-test.true)

pub row_known-requires : goal.row_known-requires
row_known-requires c = rw (take_rest _ c.args.journal.now) (known-inside _ _ _ _ _ c.loop.invariant c.loop-test.true)

pub returns-then-not-row_known : goal.returns-then-not-row_known
returns-then-not-row_known c = known-stop _ _ _ _ _ c.loop.invariant c.loop-test.true (ap (λ (l : List ℕ). known_row c.args.known (read_row l)) (sym (take_rest _ c.args.journal.now)) ∙ sym c.row_known.ensures ∙ c.if-not-row_known.true)

pub loop-preserved : goal.loop-preserved
loop-preserved c = known-turn _ _ _ _ _ c.loop.invariant c.loop-test.true (ap (λ (l : List ℕ). known_row c.args.known (read_row l)) (sym (take_rest _ c.args.journal.now)) ∙ sym c.row_known.ensures ∙ c.if-not-row_known.false)

pub returns : goal.returns
returns c = known-done _ _ _ _ _ c.loop.invariant (omega arith)
