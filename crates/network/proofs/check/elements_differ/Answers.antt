-- `network::check::elements_differ` meets its contract.
use Rattle.std.proofs.Common.{rules, ℕ, Bool, nat_eq, not, ◌∙◌}
use Rattle.std.proofs.lemmas.Iterator.{YieldsList-from_slice, YieldsList-from_zip}
use Rattle.lists.proofs.Chains.{all-pairs, folded-all}
use Rattle.network.specs.Network.{elements_differ}
use Rattle.network.proofs.check.elements_differ.Goals as goal

pub returns : goal.returns
unfolding elements_differ
returns c =
    let differ : ℕ → ℕ → Bool = λ a b. not (nat_eq a b) in
    folded-all (λ (p : ℕ × ℕ). differ p.0 p.1) _ _ c.fold.ensures.ran
    (YieldsList-from_zip (YieldsList-from_slice c.args.from.now (search rules)) (YieldsList-from_slice c.args.to.now (search rules)))
    (λ ok z b q k. (search rules, search rules))
    ∙ all-pairs differ 0 0 _ _ c.requires
