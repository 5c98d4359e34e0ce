-- `journal::range::lowest_score` meets its contract.
use native.Mathlib.Omega.{arith}
use Rattle.journal.proofs.Product.{lowest-product}
use Rattle.journal.proofs.range.lowest_score.Goals as goal

pub returns : goal.returns
returns c = lowest-product _ (omega arith)
