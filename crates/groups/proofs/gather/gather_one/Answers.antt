-- `groups::gather::gather_one` meets its contract.
use native.Mathlib.Omega.{arith}
use Rattle.groups.proofs.Reading.{no-state, first-state, further-state, other-state, next-inside, next-stands, next-head, next-rows}
use Rattle.groups.proofs.gather.gather_one.Goals as goal

pub returns-then-next-back : goal.returns-then-next-back
returns-then-next-back c = no-state c.args.g c.requires c.step_back-next.ensures c.if-next-back.true

pub offset_bounds-journal-next : goal.offset_bounds-journal-next
offset_bounds-journal-next c = omega (arith, next-inside c.args.g c.requires c.step_back-next.ensures)

pub slice_bounds-words-count : goal.slice_bounds-words-count
slice_bounds-words-count c = next-inside c.args.g c.requires c.step_back-next.ensures

pub slice_bounds-words-start : goal.slice_bounds-words-start
slice_bounds-words-start c = next-inside c.args.g c.requires c.step_back-next.ensures

pub candidate_of-candidate-requires : goal.candidate_of-candidate-requires
candidate_of-candidate-requires c = next-stands c.args.g c.requires c.step_back-next.ensures c.if-next-back.false

pub overflow_cast-state : goal.overflow_cast-state
overflow_cast-state c = omega (arith, next-rows c.args.g c.requires c.step_back-next.ensures)

pub minute_of-requires : goal.minute_of-requires
minute_of-requires c = next-head c.args.g c.requires c.step_back-next.ensures c.if-next-back.false

pub returns-then-state-group : goal.returns-then-state-group
returns-then-state-group c = other-state c.args.g c.requires c.step_back-next.ensures c.if-next-back.false c.minute_of.ensures c.candidate_of-candidate.ensures c.in-Some.is c.if-state-group.true

pub returns-else-state-group : goal.returns-else-state-group
returns-else-state-group c = rw c.update_group-group.ensures (further-state c.args.g c.requires c.step_back-next.ensures c.if-next-back.false c.minute_of.ensures c.candidate_of-candidate.ensures c.in-Some.is c.if-state-group.false)

pub returns-in-None : goal.returns-in-None
returns-in-None c = rw c.new_group-group.ensures (first-state c.args.g c.requires c.step_back-next.ensures c.if-next-back.false c.minute_of.ensures c.candidate_of-candidate.ensures c.in-None.is)
