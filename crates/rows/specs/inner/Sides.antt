-- The sides of candidates as nodes, two for each, and a table of the routes between them.
use Rattle.std.specs.Prelude.{ℕ, ◌+◌, ◌*◌, ◌<◌, ◌≡◌, Bool, true, not, ◌&&◌, ◌||◌, List, eqb, length, get_or, set, replicate, Float}
use Rattle.std.specs.Float.Ieee.Scale.{finite}
use Rattle.std.specs.List.{list_any}
use Rattle.network.specs.Graph.{Graph, node}
use Rattle.routing.specs.Route.{route}
use Rattle.journal.specs.Row.{Row, no_candidate, cell_of, score_of}
use Rattle.journal.specs.declared.record.Candidate.{Candidate}
use Rattle.transition.specs.Routes.{routes_by}
use Rattle.transition.specs.inner.Costs.{routes_at}

-- 32 nodes, none of them a network's
unfoldable pub no_nodes : List ℕ
no_nodes = replicate 32 2048

-- those of candidate j, which has this element
unfoldable pub put_nodes : List ℕ → ℕ → ℕ → List ℕ
put_nodes nodes j element = set (set nodes (2 * j) (node element 0)) (2 * j + 1) (node element 1)

-- those of each of the first n candidates that asks for them
pub record SideNodes (n : ℕ) (asks : ℕ → Bool) (element : ℕ → ℕ) (nodes : List ℕ) : Type 0 where
  pub side0 : (j : ℕ) → j < n → asks j ≡ true → get_or nodes (2 * j) 0 ≡ node (element j) 0
  pub side1 : (j : ℕ) → j < n → asks j ≡ true → get_or nodes (2 * j + 1) 0 ≡ node (element j) 1

-- ---- from which candidates of the predecessor routes can matter

unfoldable pub any_near : List Candidate → Bool
any_near cs = list_any (λ c. not (eqb c.near 0)) cs

-- from those of a finite score that are near, and from all of a finite score if an own candidate is near
unfoldable pub asks_from : Row → Bool → ℕ → Bool
asks_from p own_near j = finite (score_of p j) && (not (eqb (cell_of p j).candidate.near 0) || own_near)

-- the table holds the routes from those to each own candidate
pub record PairRoutes (g : Graph) (p : Row) (before : ℕ) (cs : List Candidate) (found : List Float) : Type 0 where
  pub routes : (j i : ℕ) → j < before → i < length cs → asks_from p (any_near cs) j ≡ true
      → routes_at found (2 * length cs) j i ≡ routes_by (λ side side'. route g (cell_of p j).candidate.element side (get_or cs i no_candidate).element side')
