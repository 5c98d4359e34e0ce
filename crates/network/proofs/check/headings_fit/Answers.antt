-- `network::check::headings_fit` meets its contract.
use Rattle.std.proofs.Common.{rules, ◌∙◌}
use Rattle.std.specs.Float.{nan}
use Rattle.std.proofs.lemmas.Iterator.{YieldsList-from_slice}
use Rattle.lists.proofs.Chains.{all-entries, folded-all}
use Rattle.network.specs.Network.{heading_fits, headings_fit}
use Rattle.network.proofs.check.headings_fit.Goals as goal

pub returns : goal.returns
unfolding headings_fit
returns c =
    folded-all heading_fits _ _ c.fold.ensures.ran (YieldsList-from_slice c.args.headings.now (search rules)) (λ ok x b q k. (search rules, search rules))
    ∙ all-entries heading_fits nan _
