-- `segments::opening::begin` meets its contract.
use native.Mathlib.Omega.{arith}
use mathlib.Core.Path.{◌≡◌, sym, ap, ◌∙◌}
use mathlib.Core.Bool.{true}
use lib.ListN.{length}
use Rattle.std.specs.Prelude.{Ok}
use Rattle.std.proofs.Common.{rules}
use Rattle.std.proofs.lemmas.Result.{err_from_is_err_and}
use Rattle.network.specs.Network.{Network, known_count}
use Rattle.network.proofs.Accepted.{accepted-counts}
use Rattle.journal.specs.Journal.{read_journal}
use Rattle.journal.specs.inner.Check.{survey}
use Rattle.decoder.specs.inner.Plan.{known_read}
use Rattle.decoder.proofs.KnownRows.{rows-stand}
use Rattle.segments.proofs.BuildOpening.{refused-journal, refused-unknown, opened-nothing, refused-full, opened-all}
use Rattle.segments.proofs.opening.begin.Goals.{In_ok-survey, Else-not-rows_known}
use Rattle.segments.proofs.opening.begin.Goals as goal

pub returns-in_err-survey-clause-refused : goal.returns-in_err-survey-clause-refused
returns-in_err-survey-clause-refused c =
    let p = err_from_is_err_and c.from_residual.result c.from_residual.ensures.1 in
    rw (p.1, p.2) (refused-journal _ _ _ c.args.lent.now.accepted (sym c.read_journal.ensures ∙ c.in_err-survey.was))

surveyed : (c : In_ok-survey) → survey c.args.lent.now.journal.now ≡ Ok c.in_ok-survey.survey
surveyed c = sym c.read_journal.ensures ∙ c.in_ok-survey.was

pub overflow_cast-net-inside : goal.overflow_cast-net-inside
overflow_cast-net-inside c = omega (arith, (accepted-counts _ c.args.lent.now.accepted).elements, ap (λ (n : Network). length n.lengths) c.net.view_is)

pub rows_known-requires : goal.rows_known-requires
rows_known-requires c = rows-stand _ _ (surveyed (goal.at.rows_known-requires c).In_ok-survey)

pub returns-then-not-rows_known-clause-refused : goal.returns-then-not-rows_known-clause-refused
returns-then-not-rows_known-clause-refused c =
    let at = goal.at.returns-then-not-rows_known-clause-refused c in
    let elements = ap (λ (n : Network). length n.lengths) c.net.view_is in
    refused-unknown _ _ _ c.args.lent.now.accepted (surveyed at.In_ok-survey) (rw elements at (sym c.rows_known.ensures ∙ c.if-not-rows_known.true))

known : (c : Else-not-rows_known) → known_read (known_count c.args.lent.now.net.now) (read_journal c.args.lent.now.journal.now) ≡ true
known c = let elements = ap (λ (n : Network). length n.lengths) c.net.view_is in
    rw elements at (sym c.rows_known.ensures ∙ c.if-not-rows_known.false)

pub returns-in_default-clause-begun : goal.returns-in_default-clause-begun
returns-in_default-clause-begun c =
    let at = goal.at.returns-in_default-clause-begun c in
    opened-nothing _ _ _ c.args.lent.now.accepted (surveyed at.In_ok-survey) (known at.Else-not-rows_known) (search rules) c.nothing_left.ensures

pub best_start-start-requires : goal.best_start-start-requires
best_start-start-requires c = record { surveyed = surveyed (goal.at.best_start-start-requires c).In_ok-survey; latest = c.in-Some.is }

pub returns-then-room-left-clause-refused : goal.returns-then-room-left-clause-refused
returns-then-room-left-clause-refused c =
    let at = goal.at.returns-then-room-left-clause-refused c in
    refused-full _ _ _ c.args.lent.now.accepted (surveyed at.In_ok-survey) (known at.Else-not-rows_known)
    c.best_start-start.ensures c.last_group-trail.ensures c.count_segments-left.ensures c.if-room-left.true

pub returns-clause-begun : goal.returns-clause-begun
returns-clause-begun c =
    let at = goal.at.returns-clause-begun c in
    opened-all _ _ _ c.args.lent.now.accepted (surveyed at.In_ok-survey) (known at.Else-not-rows_known)
    c.best_start-start.ensures c.last_group-trail.ensures c.count_segments-left.ensures c.if-room-left.false _
