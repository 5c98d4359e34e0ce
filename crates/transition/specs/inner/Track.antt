-- A track as the code has it: lists of the elements, and the graph compiled; what is asked of it; and a step by given routes.
use Rattle.std.specs.Prelude.{ℕ, ◌*◌, ◌≤◌, ◌≡◌, List, length, Float, Option}
use Rattle.network.specs.inner.Sound.{SoundGraph}
use Rattle.network.specs.inner.Compiled.{Compiled, graph_in}
use Rattle.journal.specs.declared.record.Candidate.{Candidate}
use Rattle.transition.specs.Track.{Track}
use Rattle.transition.specs.declared.place.Place.{Place}
use Rattle.transition.specs.Place.{place_at}
use Rattle.transition.specs.Step.{step_score}
use Rattle.transition.specs.declared.routes.Routes.{Routes}
use Rattle.transition.specs.declared.step.Settings.{Settings}

-- what is asked of the lists of a network's elements: at most 1,024 of them, four headings and a flag each
pub record ElementLists (lengths headings : List Float) (flags : List ℕ) : Type 0 where
  pub few : length lengths ≤ 1024
  pub four : length headings ≡ 4 * length lengths
  pub one : length flags ≡ length lengths

-- what is asked of a track: a sound graph besides
pub record TrackFits (t : Track) : Type 0 where
  pub sound : SoundGraph t.graph
  pub places : ElementLists t.graph.lengths t.headings t.flags

-- what the code has of a track
pub record TrackLists : Type 0 where
  pub graph : Compiled
  pub headings : List Float
  pub flags : List ℕ

abbrev pub track_in : TrackLists → Track
track_in t = record { graph = graph_in t.graph; headings = t.headings; flags = t.flags }

-- the step from a to b by the lists of a network's elements, and the routes between a's element and b's
unfoldable pub step_through : TrackLists → Settings → Routes → Candidate → Candidate → Float → Option Float
step_through t settings routes a b distance =
    let place : ℕ → ℕ → Place = place_at t.graph.lengths t.headings t.flags in
    step_score settings a b (place a.element 0) (place b.element 2) routes distance
