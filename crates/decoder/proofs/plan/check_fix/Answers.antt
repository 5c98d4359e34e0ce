-- `decoder::plan::check_fix` meets its contract.
use native.Mathlib.Omega.{arith}
use mathlib.Core.Path.{sym, ap, ◌∙◌}
use Prim.Native.Nat.{◌≤◌}
use lib.ListN.{length}
use Rattle.journal.specs.Row.{Given}
use Rattle.decoder.proofs.KnownRows.{rows-stand}
use Rattle.decoder.proofs.Plans.{counts-even, few-both, used-surveyed}
use Rattle.decoder.proofs.plan.check_fix.Goals as goal
use Rattle.decoder.proofs.plan.check_fix.Goals.{After-before_of-p}

pub candidates_ok-requires : goal.candidates_ok-requires
candidates_ok-requires c = counts-even _ (sym c.counts_ok.ensures ∙ c.if-not-counts_ok.false)

pub rows_known-requires : goal.rows_known-requires
rows_known-requires c = rows-stand _ _ c.requires

-- what the numbers of candidates are
few : (c : After-before_of-p) → (length c.fix.inside.elements.now ≤ 16) × (c.before_of-p.result ≤ 16)
few c = few-both c.args.known _ _ c.args.found c.requires _ _ _ (sym c.counts_ok.ensures ∙ c.if-not-counts_ok.false) (ap (λ (g : Given). length g.elements) c.fix.view_is) c.candidates_of.ensures c.before_of-p.ensures

pub distance_count-requires : goal.distance_count-requires
distance_count-requires c = omega (arith, few c)

pub record_length-length-requires : goal.record_length-length-requires
record_length-length-requires c = few (goal.at.record_length-length-requires c).After-before_of-p

pub overflow_add-found : goal.overflow_add-found
overflow_add-found c = omega (arith, used-surveyed c.args.known _ c.args.fix.now _ c.requires)
