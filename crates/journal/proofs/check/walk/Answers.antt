-- `journal::check::walk` meets its contract.
use native.Mathlib.Omega.{arith}
use Rattle.journal.proofs.Walk.{record-asked, walked_start, walked-followed, walked-full, walked-bad, walked-room, walked-turn, walked_end}
use Rattle.journal.proofs.check.walk.Goals as goal
use Rattle.journal.proofs.check.walk.Goals.{then-record, else-record}

pub loop-survey-init : goal.loop-survey-init
loop-survey-init c = walked_start _ c.requires.0

pub returns-then-survey-eq65535 : goal.returns-then-survey-eq65535
returns-then-survey-eq65535 c = walked-full _ _ c.loop-survey.invariant c.loop-survey-test.true c.if-survey-eq65535.true

pub read_row-requires : goal.read_row-requires
read_row-requires c = walked-followed _ _ c.loop-survey.invariant c.requires.1

pub returns-in_default : goal.returns-in_default
returns-in_default c = let i = c.loop-survey in
    walked-bad _ _ i.invariant c.loop-survey-test.true c.if-survey-eq65535.false (record-asked _ i.survey c.in_default.ensures)

pub overflow_add-survey-in-loop-survey : goal.overflow_add-survey-in-loop-survey
overflow_add-survey-in-loop-survey c = let i = c.loop-survey in
    let room = walked-room _ _ i.invariant c.loop-survey-test.true c.if-survey-eq65535.false _ (record-asked _ i.survey c.in-Some.ensures) in
    omega arith

pub loop-survey-smaller : goal.loop-survey-smaller
loop-survey-smaller c = let i = c.loop-survey in
    let room = walked-room _ _ i.invariant c.loop-survey-test.true c.if-survey-eq65535.false _ (record-asked _ i.survey c.in-Some.ensures) in
    omega arith

pub loop-survey-preserved : goal.loop-survey-preserved
loop-survey-preserved c = let i = c.loop-survey in
    walked-turn _ _ i.invariant c.loop-survey-test.true c.if-survey-eq65535.false _ (record-asked _ i.survey c.in-Some.ensures) (elim c.if-record.branch [
      | then-record w ↦ rw w.if-record.true w.latest-is
      | else-record w ↦ rw w.if-record.false w.latest-is
    ])

pub returns : goal.returns
returns c = walked_end _ _ c.loop-survey.invariant (omega arith)
