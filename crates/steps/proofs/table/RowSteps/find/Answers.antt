-- `steps::table::RowSteps::find` meets its contract.
use native.Mathlib.Omega.{arith}
use mathlib.Core.Path.{sym, ◌∙◌}
use Rattle.std.proofs.lemmas.Result.{err_from_is_err_and}
use Rattle.transition.specs.Step.{transition}
use Rattle.steps.proofs.Listing.{told-refused, told-alone, told-linked}
use Rattle.steps.proofs.Between.{none-listed, parts-stand, parts-listed}
use Rattle.steps.proofs.table.RowSteps.find.Goals as goal

pub returns-in_err-check_row : goal.returns-in_err-check_row
returns-in_err-check_row c =
    let p = err_from_is_err_and c.from_residual.result c.from_residual.ensures.1 in
    λ room. rw (p.1, p.2) (sym (told-refused _ _ _ _ c.check_row.ensures c.in_err-check_row.was room))

pub offset_bounds-journal-found : goal.offset_bounds-journal-found
offset_bounds-journal-found c = omega (arith, (told-linked _ _ _ _ c.check_row.ensures c.in_ok-check_row.was c.in-Some.is).1.low)

pub slice_bounds-between-count : goal.slice_bounds-between-count
slice_bounds-between-count c = (told-linked _ _ _ _ c.check_row.ensures c.in_ok-check_row.was c.in-Some.is).1.inside

pub slice_bounds-between-start : goal.slice_bounds-between-start
slice_bounds-between-start c = (told-linked _ _ _ _ c.check_row.ensures c.in_ok-check_row.was c.in-Some.is).1.inside

pub offset_bounds-journal-found-in-Some : goal.offset_bounds-journal-found-in-Some
offset_bounds-journal-found-in-Some c = omega (arith, (told-linked _ _ _ _ c.check_row.ensures c.in_ok-check_row.was c.in-Some.is).1.low-before)

pub slice_bounds-between-count-in-Some : goal.slice_bounds-between-count-in-Some
slice_bounds-between-count-in-Some c = (told-linked _ _ _ _ c.check_row.ensures c.in_ok-check_row.was c.in-Some.is).1.inside-before

pub slice_bounds-between-start-in-Some : goal.slice_bounds-between-start-in-Some
slice_bounds-between-start-in-Some c = (told-linked _ _ _ _ c.check_row.ensures c.in_ok-check_row.was c.in-Some.is).1.inside-before

pub overflow_cast-found : goal.overflow_cast-found
overflow_cast-found c = omega (arith, (told-linked _ _ _ _ c.check_row.ensures c.in_ok-check_row.was c.in-Some.is).1.small)

pub between-requires : goal.between-requires
between-requires c =
    let told = told-linked _ _ _ _ c.check_row.ensures c.in_ok-check_row.was c.in-Some.is in
    record { net_value = told.0; two_records = parts-stand _ c.args.journal.now _ _ told.1.records }

pub returns-in-None : goal.returns-in-None
returns-in-None c = λ room. none-listed c.none.result c.none.ensures room ∙ sym (told-alone _ _ _ _ c.check_row.ensures c.in_ok-check_row.was c.in-None.is room)

pub returns-in-Some : goal.returns-in-Some
returns-in-Some c = let a = c.args in
    let told = told-linked _ _ _ _ c.check_row.ensures c.in_ok-check_row.was c.in-Some.is in
    λ room. parts-listed (transition a.net.now a.settings) _ a.row a.journal.now _ _ room (c.between.ensures room) ∙ sym (told.2 room)
