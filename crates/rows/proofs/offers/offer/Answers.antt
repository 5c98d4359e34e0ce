-- `rows::offers::offer` meets its contract.
use mathlib.Core.Path.{◌≡◌, sym, ◌∙◌}
use Prim.Native.Nat.{ℕ, ◌+◌, ◌*◌, ◌<◌}
use native.Mathlib.Omega.{arith}
use lib.ListN.{length, get_or}
use lib.Seq.{get_or-take}
use lib.Ieee.{nan}
use Rattle.binary64.specs.Values.{pzero}
use Rattle.journal.specs.Record.{read_row}
use Rattle.journal.specs.Row.{no_candidate}
use Rattle.journal.specs.declared.record.Candidate.{Candidate}
use Rattle.journal.specs.declared.fix.Candidates.{Candidates}
use Rattle.journal.specs.inner.Fix.{candidates_in, fix_in, Entries16}
use Rattle.journal.proofs.Gathered.{count-in}
use Rattle.std.proofs.lemmas.List.{get_or_default}
use Rattle.transition.specs.Step.{step_on}
use Rattle.transition.specs.inner.Track.{track_in}
use Rattle.rows.specs.Row.{floored, sum_through, offer}
use Rattle.rows.proofs.ByTable.{offer-same}
use Rattle.rows.proofs.Through.{pair_inside, through-infinite}
use Rattle.rows.proofs.offers.offer.Goals as goal
use Rattle.rows.proofs.offers.offer.Goals.{After-compute_log_transition}

pub returns-then-not-is_finite : goal.returns-then-not-is_finite
unfolding offer
returns-then-not-is_finite c = rw (← c.score_of-previous.ensures) (through-infinite _ _ _ (sym c.is_finite.ensures ∙ c.if-not-is_finite.true))

own-read : (x : Candidates) → Entries16 x → (i : ℕ) (d : Candidate) → i < x.count → get_or x.list i d ≡ get_or (candidates_in x) i no_candidate
own-read x w i d h = get_or_default x.list i d no_candidate (omega (arith, w.few, w.long)) ∙ sym (get_or-take x.count x.list i no_candidate h)

-- the offer by the step of the code
by_table : (c : After-compute_log_transition) → offer (step_on (track_in c.args.o.now.track.now) c.args.o.now.settings) (read_row c.args.o.now.words.now) (fix_in c.args.o.now.fix c.args.o.now.distances.now) c.args.i c.args.j
    ≡ sum_through c.score_of-previous.result c.compute_log_transition.result (floored (get_or c.args.o.now.fix.list c.args.i (record { element = 0; intrinsic = nan; near = 0; raw_log = nan })))
unfolding offer
by_table c =
    let o = c.args.o.now in
    let n = o.fix.count in
    let i = c.args.i in
    let j = c.args.j in
    let many = count-in _ o.entries16 in
    let inside : j * n + i < length o.distances.now = pair_inside n o.before _ i j c.requires.0 c.requires.1 (rw many at o.offerable.distances) in
    rw (← offer-same o.track.now o.settings (fix_in o.fix o.distances.now) (read_row o.words.now) o.before o.found.now o.offerable.held many i j (omega (arith, many)) c.requires.1, many)
    (rw (c.compute_log_transition.ensures, c.candidate_of-a.ensures, own-read o.fix o.entries16 i _ c.requires.0, c.routes_at-routes.ensures, c.score_of-previous.ensures, get_or_default _ _ nan pzero inside))

pub returns-in_err-step : goal.returns-in_err-step
returns-in_err-step c = c.from_residual.ensures ∙ rw (by_table (goal.at.returns-in_err-step c).After-compute_log_transition, c.in_err-step.was)

pub returns : goal.returns
unfolding floored
returns c = rw (by_table (goal.at.returns c).After-compute_log_transition, c.in_ok-step.was, sym c.is_finite.ensures ∙ c.if-not-is_finite.false, c.floored_log.ensures)
