-- `network::check::relation_rises` meets its contract.
use Rattle.std.proofs.Common.{rules, arith, ltb, ℕ, ◌∙◌}
use Rattle.std.proofs.lemmas.Iterator.{YieldsList-from_range}
use Rattle.lists.proofs.Chains.{all-numbers, folded-all}
use Rattle.network.specs.Network.{window_count, first_minute, last_minute}
use Rattle.network.proofs.check.relation_rises.Goals as goal

pub returns : goal.returns
returns c =
    let w = c.args.windows.now in
    let n = window_count w c.args.k in
    let rises = λ (i : ℕ). ltb (first_minute w c.args.k i) (last_minute w c.args.k i) in
    folded-all rises _ _ c.fold.ensures.ran (YieldsList-from_range 0 n n (search rules) (omega arith)) (λ ok i b q k. (search rules, search rules))
    ∙ all-numbers rises n
