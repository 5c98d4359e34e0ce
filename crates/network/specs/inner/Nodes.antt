-- Whether an external edge leads from some nodes to others: by the graph's links, and as the code finds it out by the relations.
use Rattle.std.specs.Prelude.{ℕ, suc, Bool, ◌&&◌, ◌||◌, List, leb}
use Rattle.lists.specs.Loops.{any_below}
use Rattle.network.specs.declared.link.Relation.{Relation}
use Rattle.network.specs.declared.link.Link.{Link}
use Rattle.network.specs.declared.joined.Nodes.{Nodes}
use Rattle.network.specs.Graph.{node, ahead, behind}
use Rattle.network.specs.Triple.{connected}

-- the node of a side, and those of both sides
abbrev pub side_nodes : ℕ → ℕ → Nodes
side_nodes element side = record { first = node element side; last = node element side }

abbrev pub element_nodes : ℕ → Nodes
element_nodes element = record { first = node element 0; last = node element 1 }

unfoldable pub within : Nodes → ℕ → Bool
within nodes v = leb nodes.first v && leb v nodes.last

-- some node v of the sources and some node u of the targets have an edge from v to u
unfoldable pub joined : (ℕ → List ℕ) → Nodes → Nodes → Bool
joined links sources targets =
    any_below (suc sources.last) (λ v. within sources v && any_below (suc targets.last) (λ u. within targets u && connected links v u))

-- ---- by a relation

unfoldable pub link_leads : Nodes → Nodes → Link → Bool
link_leads sources targets l = within sources l.from && (within targets l.to && l.passable)

unfoldable pub relation_leads : ℕ → Nodes → Nodes → Relation → Bool
relation_leads elements sources targets r = link_leads sources targets (ahead elements r) || link_leads sources targets (behind elements r)
