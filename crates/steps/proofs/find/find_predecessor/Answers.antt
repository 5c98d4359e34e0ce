-- `steps::find::find_predecessor` meets its contract.
use native.Mathlib.Omega.{arith}
use mathlib.Core.Path.{sym, ◌∙◌}
use lib.Seq.{length-take-le}
use Rattle.steps.proofs.Earlier.{row-standing, row_inside, row-some, row_small, row-formed, row-linked}
use Rattle.steps.proofs.find.find_predecessor.Goals as goal

pub end_before-place-requires : goal.end_before-place-requires
end_before-place-requires c = row-standing _ _ _ c.requires

pub slice_bounds-walk-end : goal.slice_bounds-walk-end
slice_bounds-walk-end c = sym (length-take-le _ _ (row_inside _ _ _ c.requires _ c.end_before-place.ensures))

pub walk-requires : goal.walk-requires
walk-requires c = let pre = c.requires in
    let end = c.end_before-place.ensures in
    let long = length-take-le c.end_before-place.result c.args.journal.now (row_inside _ _ _ pre _ end) in
    (omega (arith, long, row-some _ _ _ pre _ end), omega (arith, long, row_small _ _ _ pre _ end))

pub returns-in_err-earlier : goal.returns-in_err-earlier
returns-in_err-earlier c = absurd (row-formed _ _ _ c.requires _ c.end_before-place.ensures (sym c.walk.ensures ∙ c.in_err-earlier.was))

pub returns : goal.returns
returns c = rw c.link.ensures (row-linked _ _ _ c.requires _ c.end_before-place.ensures (sym c.walk.ensures ∙ c.in_ok-earlier.was))
