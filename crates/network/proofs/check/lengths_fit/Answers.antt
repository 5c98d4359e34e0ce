-- `network::check::lengths_fit` meets its contract.
use Rattle.std.proofs.Common.{rules, ◌∙◌}
use Rattle.std.specs.Float.{nan}
use Rattle.std.proofs.lemmas.Iterator.{YieldsList-from_slice}
use Rattle.lists.proofs.Chains.{all-entries, folded-all}
use Rattle.network.specs.Network.{length_fits, lengths_fit}
use Rattle.network.proofs.check.lengths_fit.Goals as goal

pub returns : goal.returns
unfolding lengths_fit
returns c =
    folded-all length_fits _ _ c.fold.ensures.ran (YieldsList-from_slice c.args.lengths.now (search rules)) (λ ok x b q k. (search rules, search rules))
    ∙ all-entries length_fits nan _
