-- The range of a possible step's score, and what it asks of routes. `proofs/Bound.antt` has the law.
use Rattle.std.specs.Prelude.{T, Float, Option, Some, None}
use Rattle.std.specs.Float.Ieee.{le}
use Rattle.binary64.specs.Values.{clear, pzero}
use Rattle.transition.specs.Pair.{lowest_step}

-- at most 0 and at least -745.0
abbrev pub ScoreOk : Float → Type 0
ScoreOk v = T (le v pzero) × T (le lowest_step v)

-- a cost with the sign clear
abbrev pub RouteOk : Option Float → Type 0
RouteOk (Some cost) = T (clear cost)
RouteOk None = Unit {0}
