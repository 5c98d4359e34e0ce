-- `network::joined::are_joined` meets its contract.
use Rattle.std.proofs.Common.{rules, arith, ℕ, length, ◌∙◌}
use Rattle.std.proofs.lemmas.Iterator.{YieldsList-from_range}
use Rattle.std.proofs.lemmas.Iterator.Search.{any_from_yields_List}
use Rattle.lists.proofs.Chains.{any-numbers}
use Rattle.network.specs.Graph.{relation_at, relations_at}
use Rattle.network.specs.inner.Nodes.{relation_leads}
use Rattle.network.proofs.Joining.{joined-relations}
use Rattle.network.proofs.joined.are_joined.Goals as goal

pub returns : goal.returns
unfolding relations_at
returns c =
    let net = c.args.net.now in
    let n = length net.relations.from in
    let leads = λ (k : ℕ). relation_leads c.args.elements c.args.sources c.args.targets (relation_at (relations_at net.windows c.args.minute net.relations) k) in
    any_from_yields_List leads _ _ _ c.any.ensures.ran (YieldsList-from_range 0 n n (search rules) (omega arith)) (λ k b q called. (search rules, search rules))
    ∙ any-numbers leads n ∙ joined-relations _ _ _ _
