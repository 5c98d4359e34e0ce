-- `steps::find::check_row` meets its contract.
use native.Mathlib.Omega.{arith}
use mathlib.Core.Path.{sym, ap, ◌∙◌}
use lib.ListN.{length}
use Rattle.std.proofs.lemmas.Result.{err_from_is_err_and}
use Rattle.network.specs.Network.{Network}
use Rattle.network.proofs.Accepted.{accepted-counts}
use Rattle.decoder.proofs.Refusals.{refused-network, refused-settings, not-refused}
use Rattle.steps.specs.inner.Find.{rows_found}
use Rattle.steps.proofs.Listing.{found_first, found-then}
use Rattle.steps.proofs.find.check_row.Goals as goal

pub returns-in_err-check_network : goal.returns-in_err-check_network
returns-in_err-check_network c =
    let p = err_from_is_err_and c.from_residual.result c.from_residual.ensures.1 in
    rw (p.1, p.2) (found_first _ _ _ (refused-network _ _ _ (sym c.check_network.ensures ∙ c.in_err-check_network.was)))

pub returns-then-not-settings_fit : goal.returns-then-not-settings_fit
returns-then-not-settings_fit c = found_first _ _ _ (refused-settings _ _ (sym c.check_network.ensures ∙ c.in_ok-check_network.was) (sym c.settings_fit.ensures ∙ c.if-not-settings_fit.true))

pub overflow_cast-net-inside : goal.overflow_cast-net-inside
overflow_cast-net-inside c = omega (arith, (accepted-counts _ (sym c.check_network.ensures ∙ c.in_ok-check_network.was)).elements, ap (λ (n : Network). length n.lengths) c.net.view_is)

pub returns : goal.returns
returns c = found-then _ _ _ (not-refused _ _ (sym c.check_network.ensures ∙ c.in_ok-check_network.was) (sym c.settings_fit.ensures ∙ c.if-not-settings_fit.false))
    (c.find_row.ensures ∙ ap (λ (n : Network). rows_found (length n.lengths) c.args.journal.now c.args.row) c.net.view_is)
