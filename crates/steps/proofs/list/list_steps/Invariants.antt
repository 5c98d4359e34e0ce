-- What the loop of `steps::list::list_steps` keeps.
use Rattle.steps.specs.Listing.{step_buffers_of}
use Rattle.steps.specs.inner.Tables.{step_at}
use Rattle.steps.proofs.Buffers.{Stored}
use Rattle.steps.proofs.list.list_steps.Given as goal

abbrev pub invariant-loop-k : goal.invariant-loop-k
invariant-loop-k l =
    Stored (step_at l.found.steps) l.found.predecessor_row l.found.row l.found.count l.k l.at
    (step_buffers_of l.initial.predecessor_rows l.initial.predecessor_candidates l.initial.rows l.initial.candidates l.initial.steps)
    (step_buffers_of l.predecessor_rows l.predecessor_candidates l.rows l.candidates l.steps)
