-- `steps::table::RowSteps::between` meets its contract.
use mathlib.Core.Path.{ap, ◌∙◌}
use Rattle.network.proofs.Accepted.{accepted-counts, accepted-relations, accepted-windows}
use Rattle.journal.specs.Record.{read_row}
use Rattle.transition.specs.Track.{Track}
use Rattle.transition.specs.Step.{step_on, transition}
use Rattle.transition.proofs.Places.{accepted-track}
use Rattle.steps.proofs.Records.{own-head, own-some}
use Rattle.steps.proofs.Between.{track-built, between-listed}
use Rattle.steps.proofs.table.RowSteps.between.Goals as goal

pub minute_of-requires : goal.minute_of-requires
minute_of-requires c = own-head c.requires.two_records

pub compile_network-requires : goal.compile_network-requires
compile_network-requires c =
    let accepted = c.requires.net_value in
    record { relations_fit = (accepted-relations _ accepted, accepted-windows _ accepted); lengths_bound = (accepted-counts _ accepted).elements }

pub candidate_count-requires : goal.candidate_count-requires
candidate_count-requires c = own-some c.requires.two_records

pub invariant_of-rows : goal.invariant_of-rows
invariant_of-rows c =
    record {
      track = accepted-track _ c.minute_of.result c.requires.net_value (track-built c.compile_network.ensures.value c.net.view_is);
      records = rw c.compile_network.ensures.lengths c.requires.two_records;
    }

pub returns : goal.returns
returns c = let a = c.args in
    let built = ap (λ (t : Track). step_on t a.settings) (track-built c.compile_network.ensures.value c.net.view_is) ∙ ap (transition a.net.now a.settings) c.minute_of.ensures in
    between-listed (transition a.net.now a.settings (read_row a.own.now).minute) a.predecessor_row _ a.row _ built
    (rw (← c.candidate_count.ensures) c.distance_count.ensures.pairs) c.candidate_count-count.ensures c.pair_steps.ensures
