-- What the code behind an accepted network requires. The public calls require nothing; `proofs/Accepted.antt` gives this from the checks.
use Rattle.std.specs.Prelude.{ℕ, ◌*◌, ◌<◌, ◌≤◌, ◌≡◌, T, length, get_or}
use Rattle.std.specs.Float.{nan}
use Rattle.network.specs.declared.link.Relation.{Relation}
use Rattle.network.specs.Network.{Relations, Windows, Network, length_fits, window_count}
use Rattle.network.specs.Graph.{Graph, element_count}
use Rattle.network.specs.Walks.{External}

-- relation fields of one count within its limit, and sides 0 or 1
pub record RelationsFit (rs : Relations) : Type 0 where
  pub few : length rs.from ≤ 4096
  pub to : length rs.to ≡ length rs.from
  pub from_side : length rs.from_side ≡ length rs.from
  pub to_side : length rs.to_side ≡ length rs.from
  pub forward : length rs.forward ≡ length rs.from
  pub backward : length rs.backward ≡ length rs.from
  pub from_sides : (k : ℕ) → get_or rs.from_side k 0 ≤ 1
  pub to_sides : (k : ℕ) → get_or rs.to_side k 0 ≤ 1

-- windows of at most 4,096 relations, or none
pub record WindowsFit (w : Windows) : Type 0 where
  pub many : length w.counts ≤ 4096
  pub firsts : length w.firsts ≡ 4 * length w.counts
  pub lasts : length w.lasts ≡ 4 * length w.counts
  pub few : (k : ℕ) → window_count w k ≤ 4

-- what checks 1 and 4 give of both
abbrev pub NetworkFits : Network → Type 0
NetworkFits net = RelationsFit net.relations × WindowsFit net.windows

-- no more elements than the limit, lengths in their range, and external edges that lead to sides of the elements alone
pub record SoundGraph (g : Graph) : Type 0 where
  pub few : element_count g ≤ 1024
  pub lengths : (i : ℕ) → i < element_count g → T (length_fits (get_or g.lengths i nan))
  pub lands : (v u : ℕ) → External g v u → u < 2 * element_count g

pub record SidesBelowTwo (r : Relation) : Type 0 where
  pub from_side : r.from_side ≤ 1
  pub to_side : r.to_side ≤ 1
