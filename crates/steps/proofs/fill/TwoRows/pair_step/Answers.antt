-- `steps::fill::TwoRows::pair_step` meets its contract.
use mathlib.Core.Path.{sym, ◌∙◌}
use Rattle.steps.proofs.Records.{own-some, own-stands, pair-stands, routes-inside, pair-none, pair-some}
use Rattle.steps.proofs.fill.TwoRows.pair_step.Goals as goal

pub returns-then-not-scores : goal.returns-then-not-scores
returns-then-not-scores c = rw (← c.self.view_is) (pair-none _ _ _ _ _ c.score_of.result c.score_of.ensures (sym c.is_finite-scores.ensures ∙ c.if-not-scores.true))

pub candidate_of-b-requires : goal.candidate_of-b-requires
candidate_of-b-requires c = own-stands c.self.invariant.records _ (rw (← c.self.view_is) at c.requires.pair).0

pub candidate_count-requires : goal.candidate_count-requires
candidate_count-requires c = own-some c.self.invariant.records

pub routes_at-routes-requires : goal.routes_at-routes-requires
routes_at-routes-requires c = let pair = rw (← c.self.view_is) at c.requires.pair in routes-inside c.self.invariant.records _ _ pair.0 pair.1 c.candidate_count.ensures c.requires.routes

pub distance_at-distance-requires : goal.distance_at-distance-requires
distance_at-distance-requires c = let pair = rw (← c.self.view_is) at c.requires.pair in pair-stands c.self.invariant.records _ _ pair.0 pair.1

pub compute_log_transition-requires : goal.compute_log_transition-requires
compute_log_transition-requires c =
    let pair = rw (← c.self.view_is) at c.requires.pair in
    record {
      element_lists = c.self.invariant.track.places;
      element_in_bounds = (rw c.candidate_of-a.ensures (c.self.invariant.records.element-before _ pair.1), rw c.candidate_of-b.ensures (c.self.invariant.records.element _ pair.0));
    }

pub returns : goal.returns
returns c = rw (← c.self.view_is) (pair-some _ _ _ _ _ c.score_of.result c.score_of.ensures (sym c.is_finite-scores.ensures ∙ c.if-not-scores.false) _ _ _ _
    c.candidate_of-a.ensures c.candidate_of-b.ensures c.distance_at-distance.ensures
    (c.compute_log_transition.ensures ∙ rw (c.routes_at-routes.ensures, c.candidate_count.ensures)))
