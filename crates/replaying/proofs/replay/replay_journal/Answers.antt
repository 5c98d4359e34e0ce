-- `replaying::replay::replay_journal` meets its contract.
use native.Mathlib.Omega.{arith}
use mathlib.Core.Path.{refl, sym, ap, ◌∙◌}
use lib.ListN.{length}
use Rattle.std.proofs.lemmas.Result.{err_from_is_err_and}
use Rattle.network.specs.Network.{Network}
use Rattle.network.proofs.Accepted.{accepted-counts}
use Rattle.decoder.proofs.KnownRows.{rows-stand}
use Rattle.replaying.proofs.Answers.{replay-not, replay-unknown, replayable, replay-compared}
use Rattle.replaying.proofs.replay.replay_journal.Goals as goal

pub returns-in_err-survey : goal.returns-in_err-survey
returns-in_err-survey c = let p = err_from_is_err_and c.from_residual.result c.from_residual.ensures.1 in rw (p.1, p.2, replay-not _ _ _ _ (sym c.read_journal.ensures ∙ c.in_err-survey.was)) refl

pub overflow_cast-net-inside : goal.overflow_cast-net-inside
overflow_cast-net-inside c = omega (arith, (accepted-counts _ c.requires).elements, ap (λ (n : Network). length n.lengths) c.net.view_is)

pub rows_known-requires : goal.rows_known-requires
rows_known-requires c = rows-stand _ _ (sym c.read_journal.ensures ∙ c.in_ok-survey.was)

pub returns-then-not-rows_known : goal.returns-then-not-rows_known
returns-then-not-rows_known c = replay-unknown _ _ (sym c.read_journal.ensures ∙ c.in_ok-survey.was) _ _ (rw (ap (λ (n : Network). length n.lengths) c.net.view_is) at (sym c.rows_known.ensures ∙ c.if-not-rows_known.true))

pub invariant_of-standing-clause-replayable : goal.invariant_of-standing-clause-replayable
invariant_of-standing-clause-replayable c = replayable _ _ (sym c.read_journal.ensures ∙ c.in_ok-survey.was) _ (rw (ap (λ (n : Network). length n.lengths) c.net.view_is) at (sym c.rows_known.ensures ∙ c.if-not-rows_known.false))

pub returns : goal.returns
returns c = rw c.compare_rows.ensures (replay-compared _ _ (sym c.read_journal.ensures ∙ c.in_ok-survey.was) _ (rw (ap (λ (n : Network). length n.lengths) c.net.view_is) at (sym c.rows_known.ensures ∙ c.if-not-rows_known.false)) _)
