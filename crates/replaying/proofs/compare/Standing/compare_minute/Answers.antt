-- `replaying::compare::Standing::compare_minute` meets its contract.
use native.Mathlib.Omega.{arith}
use mathlib.Core.Path.{sym, subst}
use Rattle.network.proofs.Accepted.{accepted-counts, accepted-fits}
use Rattle.transition.specs.Track.{Track}
use Rattle.transition.specs.Step.{step_on}
use Rattle.transition.proofs.Places.{accepted-track}
use Rattle.std.specs.Result.{MatchResult}
use Rattle.std.proofs.lemmas.Result.{MatchResult-weaker}
use Rattle.journal.specs.inner.Rows.{rows_in}
use Rattle.replaying.specs.inner.Comparing.{Stretch, Differing}
use Rattle.decoder.proofs.Writing.{compiled-track}
use Rattle.replaying.proofs.Standing.{at-inside, own-head, own-minute}
use Rattle.replaying.proofs.Stretches.{stretch-compared, differing-first}
use Rattle.replaying.proofs.compare.Standing.compare_minute.Goals as goal

pub slice_bounds-minute_of-count : goal.slice_bounds-minute_of-count
slice_bounds-minute_of-count c = omega (arith, at-inside c.args.self.now.replayable c.requires.0.stands c.requires.1)

pub slice_bounds-minute_of-start : goal.slice_bounds-minute_of-start
slice_bounds-minute_of-start c = omega (arith, at-inside c.args.self.now.replayable c.requires.0.stands c.requires.1)

pub minute_of-minute-requires : goal.minute_of-minute-requires
minute_of-minute-requires c = own-head c.args.self.now.replayable c.requires.0.stands c.requires.1

pub compile_network-requires : goal.compile_network-requires
compile_network-requires c = record { relations_fit = accepted-fits _ c.args.self.now.accepted; lengths_bound = (accepted-counts _ c.args.self.now.accepted).elements }

pub compare_stretch-requires : goal.compare_stretch-requires
compare_stretch-requires c =
    let at = c.requires in
    record {
      track_fits = accepted-track _ _ c.args.self.now.accepted (compiled-track _ c.net.view_is c.compile_network.ensures.value);
      replayable = rw c.compile_network.ensures.lengths c.args.self.now.replayable;
      stands_at = (at.0.stands, at.1, sym (own-minute c.args.self.now.replayable at.0.stands at.1 c.minute_of-minute.ensures));
    }

pub returns : goal.returns
returns c =
    let minute = c.minute_of-minute.result in
    let rs = rows_in c.args.self.now.journal.now in
    let so_far = c.requires.0.so_far in
    MatchResult-weaker c.compare_stretch.result
    (subst (λ (t : Track). MatchResult c.compare_stretch.result (Stretch (step_on t c.args.self.now.settings) minute rs c.args.start.row) (Differing (step_on t c.args.self.now.settings) minute rs c.args.start.row))
    (compiled-track _ c.net.view_is c.compile_network.ensures.value) c.compare_stretch.ensures)
    (stretch-compared _ _ minute _ so_far) (differing-first _ _ minute _ so_far)
