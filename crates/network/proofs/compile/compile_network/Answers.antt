-- `network::compile::compile_network` meets its contract.
use Rattle.std.proofs.Common.{rules, length, ◌≡◌}
use mathlib.Core.Logic.{inl, inr}
use Rattle.network.proofs.Compiling.{added_none, added-all, link-fits, added-more}
use Rattle.network.proofs.compile.compile_network.Goals as goal

pub loop-k-init : goal.loop-k-init
loop-k-init c =
    let all : length c.compiled.inside.heads ≡ 2048 = search rules in
    added_none c.args.net.now _ c.requires.lengths_bound c.requires.relations_fit (search rules) _ (search rules) (rw all at c.fill.ensures.after (λ y e. e)) (search rules)

pub add_link-requires-clause-nodes_bound : goal.add_link-requires-clause-nodes_bound
add_link-requires-clause-nodes_bound c =
    link-fits c.args.net.now _ c.requires.lengths_bound c.requires.relations_fit c.loop-k-test.true (search rules) c.relation_at-r.ensures (search (rules, inl, inr))

pub add_link-requires-in-loop-k-clause-nodes_bound : goal.add_link-requires-in-loop-k-clause-nodes_bound
add_link-requires-in-loop-k-clause-nodes_bound c =
    link-fits c.args.net.now _ c.requires.lengths_bound c.requires.relations_fit c.loop-k-test.true (search rules) c.relation_at-r.ensures (search (rules, inl, inr))

pub loop-k-preserved : goal.loop-k-preserved
loop-k-preserved c =
    added-more c.args.net.now _ c.requires.lengths_bound c.requires.relations_fit c.loop-k-test.true (search rules) c.relation_at-r.ensures
    (search rules) (search rules) c.add_link.ensures c.add_link-in-loop-k.ensures c.loop-k.invariant

pub returns-clause-value : goal.returns-clause-value
returns-clause-value c = added-all c.args.net.now _ c.requires.lengths_bound c.requires.relations_fit (search rules) c.loop-k.invariant

pub returns-clause-lengths : goal.returns-clause-lengths
returns-clause-lengths c = c.loop-k.invariant.lengths
