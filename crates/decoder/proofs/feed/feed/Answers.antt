-- `decoder::feed::feed` meets its contract.
use mathlib.Core.Path.{◌≡◌, sym, ap, ◌∙◌}
use Rattle.std.proofs.lemmas.Result.{err_from_is_err_and}
use Rattle.journal.specs.Row.{Given, fix_given}
use Rattle.journal.specs.inner.Fix.{fix_in}
use Rattle.decoder.proofs.Plans.{fed-refused}
use Rattle.decoder.proofs.Writing.{plan-accepted, plan-ends, plan-done, plan-even, plan-feedable, plan-fed, fix_is}
use Rattle.decoder.proofs.feed.feed.Goals as goal
use Rattle.decoder.proofs.feed.feed.Goals.{After-gather}

pub returns-in_err-plan-clause-fed : goal.returns-in_err-plan-clause-fed
returns-in_err-plan-clause-fed c =
    let p = err_from_is_err_and c.from_residual.result c.from_residual.ensures.1 in
    rw (p.1, p.2) (fed-refused _ _ _ _ _ _ (sym c.check_feed.ensures ∙ c.in_err-plan.was))

pub gather-requires : goal.gather-requires
gather-requires c = plan-even _ _ _ _ _ (sym c.check_feed.ensures ∙ c.in_ok-plan.was)

-- what is gathered is the fix
gathered : (c : After-gather) → fix_in c.gather.result c.fix.inside.distances.now ≡ fix_given c.args.fix.now
gathered c = ap (fix_in c.gather.result) (ap (λ (g : Given). g.distances) c.fix.view_is) ∙ fix_is c.args.fix.now c.gather.result c.gather.ensures.1 c.gather.ensures.2

pub compile_and_write-requires-clause-accepted : goal.compile_and_write-requires-clause-accepted
compile_and_write-requires-clause-accepted c = plan-accepted _ _ _ _ _ (sym c.check_feed.ensures ∙ c.in_ok-plan.was)

pub compile_and_write-requires-clause-feedable : goal.compile_and_write-requires-clause-feedable
compile_and_write-requires-clause-feedable c =
    plan-feedable _ _ _ _ _ (sym c.check_feed.ensures ∙ c.in_ok-plan.was) (gathered (goal.at.compile_and_write-requires-clause-feedable c).After-gather)

pub compile_and_write-requires-clause-end_is : goal.compile_and_write-requires-clause-end_is
compile_and_write-requires-clause-end_is c = plan-ends _ _ _ _ _ (sym c.check_feed.ensures ∙ c.in_ok-plan.was)

pub returns-clause-fed : goal.returns-clause-fed
returns-clause-fed c =
    let e = sym c.check_feed.ensures ∙ c.in_ok-plan.was in
    (plan-done _ _ _ _ _ e, plan-fed _ _ _ _ _ e (gathered (goal.at.returns-clause-fed c).After-gather) c.compile_and_write.ensures)
