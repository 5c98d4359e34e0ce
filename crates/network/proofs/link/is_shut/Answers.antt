-- `network::link::is_shut` meets its contract.
use Rattle.std.proofs.Common.{rules, arith, leb, ltb, ℕ, ◌&&◌, ◌∙◌}
use Rattle.std.proofs.lemmas.Iterator.{YieldsList-from_range}
use Rattle.std.proofs.lemmas.Iterator.Search.{any_from_yields_List}
use Rattle.lists.proofs.Chains.{any-numbers}
use Rattle.network.specs.Network.{window_count, first_minute, last_minute}
use Rattle.network.specs.Graph.{is_shut}
use Rattle.network.proofs.Shut.{open-past}
use Rattle.network.proofs.link.is_shut.Goals as goal

pub returns-then-k-windows : goal.returns-then-k-windows
unfolding is_shut
returns-then-k-windows c =
    let w = c.args.windows.now in
    let n = window_count w c.args.k in
    let covers = λ (i : ℕ). leb (first_minute w c.args.k i) c.args.minute && ltb c.args.minute (last_minute w c.args.k i) in
    any_from_yields_List covers _ _ _ c.any.ensures.ran (YieldsList-from_range 0 n n (search rules) (omega arith)) (λ i b q called. (search rules, search rules))
    ∙ any-numbers covers n

pub returns-else-k-windows : goal.returns-else-k-windows
returns-else-k-windows c = search (rules, open-past)
