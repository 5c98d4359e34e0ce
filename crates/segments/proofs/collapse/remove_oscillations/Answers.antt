-- `segments::collapse::remove_oscillations` meets its contract: turn by turn, it does what the definition says.
use Rattle.std.proofs.Common.{◌≡◌, sym, ap, ◌∙◌, rules}
use Rattle.lists.proofs.Loops.{clash}
use Rattle.segments.specs.Collapse.{CollapseOutcome, collapsing}
use Rattle.segments.specs.inner.Turn.{finished}
use Rattle.segments.proofs.Coming.{coming-over}
use Rattle.segments.proofs.Turns.{begun-inv, begun-coming, turn-ready, turn-read, turn-stored}
use Rattle.segments.proofs.Turned.{Turned}
use Rattle.segments.proofs.collapse.remove_oscillations.Goals.{In_default, After-finish}
use Rattle.segments.proofs.collapse.remove_oscillations.Goals as goal

pub loop-at-init : goal.loop-at-init
loop-at-init c = rw c.begin-stage.ensures (begun-inv c.args.segments.now c.args.decisions.now, begun-coming c.args.segments.now c.args.decisions.now)

pub turn-stage-requires : goal.turn-stage-requires
turn-stage-requires c = turn-ready _ _ _ c.loop-at.invariant.0 (λ e. clash c.loop-at-test.true (c.ne.ensures ∙ rw e))

-- a turn that reads
read-on : (c : In_default) → Turned c.loop-at.stage c.loop-at.segments c.loop-at.decisions c.turn-stage.result c.loop-at.segments c.turn-stage.new.decisions
read-on c =
    turn-read _ _ _ c.loop-at.invariant.0 (λ e. clash c.loop-at-test.true (c.ne.ensures ∙ rw e))
    _ _ _ c.turn-stage.ensures.0 c.turn-stage.ensures.1 (sym c.stored-stored.ensures ∙ search rules)

pub loop-at-smaller : goal.loop-at-smaller
loop-at-smaller c = (read-on c).less

pub loop-at-preserved : goal.loop-at-preserved
loop-at-preserved c = ((read-on c).inv, (read-on c).same ∙ c.loop-at.invariant.1)

pub loop-at-smaller-in-Some : goal.loop-at-smaller-in-Some
loop-at-smaller-in-Some c =
    (turn-stored _ _ _ c.loop-at.invariant.0 (λ e. clash c.loop-at-test.true (c.ne.ensures ∙ rw e))
    _ _ _ c.turn-stage.ensures.0 c.turn-stage.ensures.1 (sym c.stored-stored.ensures ∙ c.in-Some.is)).less

pub loop-at-preserved-in-Some : goal.loop-at-preserved-in-Some
loop-at-preserved-in-Some c =
    let t = turn-stored _ _ _ c.loop-at.invariant.0 (λ e. clash c.loop-at-test.true (c.ne.ensures ∙ rw e))
    _ _ _ c.turn-stage.ensures.0 c.turn-stage.ensures.1 (sym c.stored-stored.ensures ∙ c.in-Some.is) in
    (t.inv, t.same ∙ c.loop-at.invariant.1)

-- the outcome, once nothing is left to do
ended : (c : After-finish) → ◌≡◌ {A = CollapseOutcome} (record { answer = finished c.loop-at.stage; segments = c.loop-at.segments; decisions = c.loop-at.decisions }) (collapsing c.args.segments.now c.args.decisions.now)
ended c = sym (coming-over _ _ _ (search rules)) ∙ c.loop-at.invariant.1

pub returns-clause-value : goal.returns-clause-value
returns-clause-value c = c.finish.ensures ∙ ap (λ (o : CollapseOutcome). o.answer) (ended c)

pub returns-clause-segments_after : goal.returns-clause-segments_after
returns-clause-segments_after c = ap (λ (o : CollapseOutcome). o.segments) (ended c)

pub returns-clause-decisions_after : goal.returns-clause-decisions_after
returns-clause-decisions_after c = ap (λ (o : CollapseOutcome). o.decisions) (ended c)
