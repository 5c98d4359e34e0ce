-- `decoder::plan::check_feed` meets its contract.
use native.Mathlib.Omega.{arith}
use mathlib.Core.Path.{◌≡◌, refl, sym, ap, ◌∙◌}
use mathlib.Core.Option.{none}
use lib.ListN.{length}
use Rattle.std.proofs.lemmas.Result.{err_from_is_err_and}
use Rattle.network.specs.Network.{Network}
use Rattle.network.proofs.Accepted.{accepted-counts}
use Rattle.decoder.specs.Refusal.{refusal_of}
use Rattle.decoder.proofs.Refusals.{not-refused}
use Rattle.decoder.proofs.Plans.{plan-fix, plan-unread}
use Rattle.decoder.proofs.plan.check_feed.Goals as goal
use Rattle.decoder.proofs.plan.check_feed.Goals.{Else-not-settings_fit}

accepted : (c : Else-not-settings_fit) → refusal_of c.args.net.now c.args.settings ≡ none
accepted c = not-refused c.args.net.now c.args.settings (sym c.check_network.ensures ∙ c.in_ok-check_network.was) (sym c.settings_fit.ensures ∙ c.if-not-settings_fit.false)

pub returns-in_err-found : goal.returns-in_err-found
returns-in_err-found c =
    let p = err_from_is_err_and c.from_residual-in_err-found.result c.from_residual-in_err-found.ensures.1 in
    rw (p.1, p.2, plan-unread _ _ _ _ _ (accepted (goal.at.returns-in_err-found c).Else-not-settings_fit) _ (sym c.read_journal.ensures ∙ c.in_err-found.was)) refl

pub overflow_cast-net-inside : goal.overflow_cast-net-inside
overflow_cast-net-inside c = omega (arith, (accepted-counts _ (sym c.check_network.ensures ∙ c.in_ok-check_network.was)).elements, ap (λ (n : Network). length n.lengths) c.net.view_is)

pub returns : goal.returns
returns c =
    c.check_fix.ensures
    ∙ rw (ap (λ (n : Network). length n.lengths) c.net.view_is) (plan-fix _ _ _ _ _ (accepted (goal.at.returns c).Else-not-settings_fit) _ (sym c.read_journal.ensures ∙ c.in_ok-found.was))
