-- `decoder::feed::floats_are_known` meets its contract.
use Rattle.decoder.proofs.Handed.{floats-fit}
use Rattle.decoder.proofs.feed.floats_are_known.Goals as goal

pub returns : goal.returns
returns c = record {
  intrinsics = floats-fit _ c.type_inv.intrinsics;
  raw_logs = floats-fit _ c.type_inv.raw_logs;
  distances = floats-fit _ c.type_inv.distances;
}
