-- `decoder::feed::compile_and_write` meets its contract.
use mathlib.Core.Path.{ap, ◌∙◌}
use Rattle.network.proofs.Accepted.{accepted-counts, accepted-fits}
use Rattle.transition.specs.Track.{Track}
use Rattle.transition.specs.Step.{step_on}
use Rattle.journal.specs.inner.Fix.{fix_in}
use Rattle.decoder.specs.inner.Plan.{written}
use Rattle.decoder.proofs.Writing.{compiled-track, feedable-on}
use Rattle.decoder.proofs.feed.compile_and_write.Goals as goal

pub compile_network-requires : goal.compile_network-requires
compile_network-requires c = record { relations_fit = accepted-fits _ c.requires.accepted; lengths_bound = (accepted-counts _ c.requires.accepted).elements }

pub write_fix-requires : goal.write_fix-requires
write_fix-requires c =
    record {
      feedable = feedable-on (compiled-track _ c.net.view_is c.compile_network.ensures.value) c.requires.feedable;
      entries16 = c.requires.entries16;
      end_is = c.requires.end_is;
    }

pub returns : goal.returns
returns c = let a = c.args in
    c.write_fix.ensures
    ∙ ap (λ (t : Track). written (step_on t a.settings) a.journal.now (fix_in a.fix a.distances.now)) (compiled-track _ c.net.view_is c.compile_network.ensures.value)
