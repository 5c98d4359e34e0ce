-- `network::check::windows_rise` meets its contract.
use Rattle.std.proofs.Common.{rules, arith, ltb, ℕ, length, ◌∙◌}
use Rattle.std.proofs.lemmas.Iterator.{YieldsList-from_range}
use Rattle.lists.specs.Loops.{every_below}
use Rattle.lists.proofs.Chains.{all-numbers, folded-all}
use Rattle.network.specs.Network.{window_count, first_minute, last_minute, windows_rise}
use Rattle.network.proofs.check.windows_rise.Goals as goal

pub returns : goal.returns
unfolding windows_rise
returns c =
    let w = c.args.windows.now in
    let n = length w.counts in
    let rises = λ (k : ℕ). every_below (window_count w k) (λ i. ltb (first_minute w k i) (last_minute w k i)) in
    folded-all rises _ _ c.fold.ensures.ran (YieldsList-from_range 0 n n (search rules) (omega arith)) (λ ok k b q called. (search rules, search rules))
    ∙ all-numbers rises n
