-- `steps::fill::TwoRows::find_routes` meets its contract.
use native.Mathlib.Omega.{arith}
use mathlib.Core.Path.{ap}
use Rattle.transition.specs.inner.Track.{TrackLists}
use Rattle.journal.specs.Record.{read_row}
use Rattle.steps.proofs.Records.{own-some}
use Rattle.steps.proofs.Routes.{own-record, previous-known, elements-known, routes-gathered}
use Rattle.steps.proofs.fill.TwoRows.find_routes.Goals as goal

pub candidate_count-requires : goal.candidate_count-requires
candidate_count-requires c = own-some c.self.invariant.records

pub candidates_at-fix-requires : goal.candidates_at-fix-requires
candidates_at-fix-requires c = let t = c.self.invariant.records in (own-record t c.candidate_count.ensures, omega (arith, t.few, c.candidate_count.ensures))

pub pair_routes-requires : goal.pair_routes-requires
pair_routes-requires c =
    let t = c.self.invariant.records in
    let same = ap (λ (x : TrackLists). x.graph) c.track.view_is in
    record {
      sound_graph = rw same c.self.invariant.track.sound;
      record_known = rw same (previous-known t c.candidate_count-before.ensures);
      each = rw same (elements-known t c.candidates_at-fix.ensures.2);
      sizes = (omega (arith, c.candidate_count-before.ensures, t.few-before), c.candidates_at-fix.ensures.0, c.requires);
    }

pub returns : goal.returns
returns c =
    let same = ap (λ (x : TrackLists). x.graph) c.track.view_is in
    rw (← c.self.view_is, ← same) (routes-gathered (read_row c.self.inside.own.now) c.pair_routes.ensures c.candidate_count-before.ensures c.candidates_at-fix.ensures.2)
