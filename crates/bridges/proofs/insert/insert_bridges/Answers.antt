-- `bridges::insert::insert_bridges` meets its contract.
use mathlib.Core.Path.{ap, sym, ◌∙◌}
use Rattle.network.specs.Network.{Network}
use Rattle.bridges.specs.inner.Found.{bridges_of}
use Rattle.bridges.proofs.Joined.{joined-none}
use Rattle.bridges.proofs.insert.insert_bridges.Goals as goal

pub returns-then-are_joined : goal.returns-then-are_joined
returns-then-are_joined c =
    let told = rw (c.element_nodes-sources.ensures, c.element_nodes-targets.ensures, ap (λ (n : Network). n.lengths) c.net.view_is) at (sym c.are_joined.ensures ∙ c.if-are_joined.true) in
    c.no_bridges.ensures ∙ ap bridges_of (sym (joined-none _ c.requires.sound_graph _ _ told))

pub bridges_between-requires : goal.bridges_between-requires
bridges_between-requires c = rw c.compile_network.ensures.value c.requires.sound_graph

pub returns : goal.returns
returns c = rw c.compile_network.ensures.value at c.bridges_between.ensures
