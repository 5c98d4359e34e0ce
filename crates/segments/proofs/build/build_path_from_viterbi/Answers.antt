-- `segments::build::build_path_from_viterbi` meets its contract.
use mathlib.Core.Path.{refl, sym, ◌∙◌}
use Rattle.std.proofs.Common.{rules}
use Rattle.std.proofs.lemmas.Result.{err_from_is_err_and}
use Rattle.segments.specs.Build.{build_answer, segments_stored}
use Rattle.segments.proofs.BuildOpening.{refused-network}
use Rattle.segments.proofs.BuildStoring.{storing-begin, turn_at, turn-less, storing-turn, storing-end}
use Rattle.segments.proofs.build.build_path_from_viterbi.Goals as goal

pub returns-in_err-check_network : goal.returns-in_err-check_network
unfolding build_answer segments_stored
returns-in_err-check_network c =
    let p = err_from_is_err_and c.from_residual.result c.from_residual.ensures.1 in
    rw (p.1, p.2, refused-network _ _ _ (sym c.check_network.ensures ∙ c.in_err-check_network.was)) (refl, refl)

pub invariant_of-lent : goal.invariant_of-lent
invariant_of-lent c = record { accepted = sym c.check_network.ensures ∙ c.in_ok-check_network.was }

pub returns-in_err-b : goal.returns-in_err-b
unfolding build_answer segments_stored
returns-in_err-b c =
    let p = err_from_is_err_and c.from_residual-in_err-b.result c.from_residual-in_err-b.ensures.1 in
    rw (p.1, p.2, c.in_err-b.ensures.refused) (refl, refl)

pub loop-b-init : goal.loop-b-init
loop-b-init c = storing-begin _ _ _ _ c.in_ok-b.ensures.begun

pub next-requires : goal.next-requires
next-requires c = record { stands = c.loop-b.invariant.stands; more = c.in-Some.is }

pub bounds-segments-b : goal.bounds-segments-b
bounds-segments-b c = turn_at _ _ _ _ _ _ c.loop-b.invariant _ c.next.ensures

pub loop-b-smaller : goal.loop-b-smaller
loop-b-smaller c = turn-less _ _ _ _ _ _ c.loop-b.invariant _ c.next.ensures

pub loop-b-preserved : goal.loop-b-preserved
loop-b-preserved c = storing-turn _ _ _ _ _ _ c.loop-b.invariant _ c.next.ensures

pub returns : goal.returns
returns c = (sym c.loop-b.invariant.answer, storing-end _ _ _ _ _ _ c.loop-b.invariant (search rules))
