-- `steps::list::list_steps` meets its contract.
use native.Mathlib.Omega.{arith}
use mathlib.Core.Path.{refl, ap, ◌∙◌}
use Prim.Native.Nat.{min, ◌+◌}
use Rattle.std.proofs.lemmas.Result.{err_from_is_err_and}
use Rattle.steps.specs.Listing.{step_buffers_of, room_of}
use Rattle.steps.specs.inner.Tables.{put_entries, Room}
use Rattle.steps.proofs.Between.{refused-is, too_many, all_listed}
use Rattle.steps.proofs.Buffers.{stored-none, stored-skip, stored-turn, stored-room}
use Rattle.steps.proofs.list.list_steps.Goals as goal
use Rattle.steps.proofs.list.list_steps.Goals.{In-Some, in-Some, in_default}

pub returns-in_err-found : goal.returns-in_err-found
returns-in_err-found c = let a = c.args in
    let b = step_buffers_of a.predecessor_rows.now a.predecessor_candidates.now a.rows.now a.candidates.now a.steps.now in
    let p = err_from_is_err_and c.from_residual.result c.from_residual.ensures.1 in
    rw (p.1, p.2) (refused-is b (rw c.in_err-found.was at (c.find.ensures (room_of b))))

pub returns-then-room-possible : goal.returns-then-room-possible
returns-then-room-possible c = let a = c.args in
    let b = step_buffers_of a.predecessor_rows.now a.predecessor_candidates.now a.rows.now a.candidates.now a.steps.now in
    let room = c.min-room.ensures ∙ ap (min _) (c.min-2.ensures ∙ ap (min _) (c.min-own_room.ensures ∙ ap (min _) c.min.ensures)) in
    too_many c.in_ok-found.found (omega arith) b (rw c.in_ok-found.was at (c.find.ensures (room_of b))) room c.possible.ensures c.if-room-possible.true

pub loop-k-init : goal.loop-k-init
loop-k-init c = stored-none _ _ _ _ _

-- room for the entry of a possible step
fits : (c : In-Some) → Room (c.loop-k.at + 1) (step_buffers_of c.args.predecessor_rows.now c.args.predecessor_candidates.now c.args.rows.now c.args.candidates.now c.args.steps.now)
fits c =
    let room = c.min-room.ensures ∙ ap (min _) (c.min-2.ensures ∙ ap (min _) (c.min-own_room.ensures ∙ ap (min _) c.min.ensures)) in
    stored-room c.in_ok-found.found.steps c.loop-k.invariant c.in-Some.is c.in_ok-found.found.n c.loop-k-test.true (omega arith) (omega (arith, room, c.possible.ensures))

pub bounds-predecessor_rows-at : goal.bounds-predecessor_rows-at
bounds-predecessor_rows-at c = omega (arith, (fits (goal.at.bounds-predecessor_rows-at c).In-Some).predecessor_rows)

pub offset_bounds-predecessor_rows-at : goal.offset_bounds-predecessor_rows-at
offset_bounds-predecessor_rows-at c = omega (arith, (fits (goal.at.offset_bounds-predecessor_rows-at c).In-Some).predecessor_rows)

pub bounds-predecessor_candidates-at : goal.bounds-predecessor_candidates-at
bounds-predecessor_candidates-at c = omega (arith, (fits (goal.at.bounds-predecessor_candidates-at c).In-Some).predecessors)

pub offset_bounds-predecessor_candidates-at : goal.offset_bounds-predecessor_candidates-at
offset_bounds-predecessor_candidates-at c = omega (arith, (fits (goal.at.offset_bounds-predecessor_candidates-at c).In-Some).predecessors)

pub bounds-rows-at : goal.bounds-rows-at
bounds-rows-at c = omega (arith, (fits (goal.at.bounds-rows-at c).In-Some).rows)

pub offset_bounds-rows-at : goal.offset_bounds-rows-at
offset_bounds-rows-at c = omega (arith, (fits (goal.at.offset_bounds-rows-at c).In-Some).rows)

pub bounds-candidates-at : goal.bounds-candidates-at
bounds-candidates-at c = omega (arith, (fits (goal.at.bounds-candidates-at c).In-Some).candidates)

pub offset_bounds-candidates-at : goal.offset_bounds-candidates-at
offset_bounds-candidates-at c = omega (arith, (fits (goal.at.offset_bounds-candidates-at c).In-Some).candidates)

pub bounds-steps-at : goal.bounds-steps-at
bounds-steps-at c = omega (arith, (fits (goal.at.bounds-steps-at c).In-Some).steps)

pub offset_bounds-steps-at : goal.offset_bounds-steps-at
offset_bounds-steps-at c = omega (arith, (fits (goal.at.offset_bounds-steps-at c).In-Some).steps)

pub overflow_add-at : goal.overflow_add-at
overflow_add-at c = omega (arith, (fits (goal.at.overflow_add-at c).In-Some).rows)

pub loop-k-preserved : goal.loop-k-preserved
unfolding put_entries
loop-k-preserved c = elim c.match-found-k.branch [
  | in-Some w ↦ rw (w.at-is, w.predecessor_rows-is, w.predecessor_candidates-is, w.rows-is, w.candidates-is, w.steps-is) (stored-turn c.loop-k.invariant w.in-Some.is refl)
  | in_default w ↦ rw (w.at-is, w.predecessor_rows-is, w.predecessor_candidates-is, w.rows-is, w.candidates-is, w.steps-is) (stored-skip c.loop-k.invariant w.in_default.not-Some)
]

pub returns : goal.returns
returns c = let a = c.args in
    let b = step_buffers_of a.predecessor_rows.now a.predecessor_candidates.now a.rows.now a.candidates.now a.steps.now in
    let room = c.min-room.ensures ∙ ap (min _) (c.min-2.ensures ∙ ap (min _) (c.min-own_room.ensures ∙ ap (min _) c.min.ensures)) in
    all_listed c.in_ok-found.found (omega arith) b (rw c.in_ok-found.was at (c.find.ensures (room_of b))) room c.possible.ensures c.if-room-possible.false (omega arith) c.loop-k.invariant
