-- `network::check::sides_fit` meets its contract.
use Rattle.std.proofs.Common.{rules, ℕ, Bool, leb, ◌&&◌, ◌∙◌}
use Rattle.std.proofs.lemmas.Iterator.{YieldsList-from_slice, YieldsList-from_zip}
use Rattle.lists.proofs.Chains.{all-pairs, folded-all}
use Rattle.network.specs.Network.{sides_fit}
use Rattle.network.proofs.check.sides_fit.Goals as goal

pub returns : goal.returns
unfolding sides_fit
returns c =
    let fit : ℕ → ℕ → Bool = λ a b. leb a 1 && leb b 1 in
    folded-all (λ (p : ℕ × ℕ). fit p.0 p.1) _ _ c.fold.ensures.ran
    (YieldsList-from_zip (YieldsList-from_slice c.args.from_side.now (search rules)) (YieldsList-from_slice c.args.to_side.now (search rules)))
    (λ ok z b q k. (search rules, search rules))
    ∙ all-pairs fit 0 0 _ _ c.requires
