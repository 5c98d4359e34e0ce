-- `network::check::counts_below` meets its contract.
use Rattle.std.proofs.Common.{rules, leb, ◌∙◌}
use Rattle.std.proofs.lemmas.Iterator.{YieldsList-from_slice}
use Rattle.lists.proofs.Chains.{all-entries, folded-all}
use Rattle.network.proofs.check.counts_below.Goals as goal

pub returns : goal.returns
returns c =
    folded-all (λ n. leb n 4) _ _ c.fold.ensures.ran (YieldsList-from_slice c.args.counts.now (search rules)) (λ ok x b q k. (search rules, search rules))
    ∙ all-entries (λ n. leb n 4) 0 _
