-- What the loop of `decoder::known::rows_known` keeps.
use Rattle.decoder.proofs.KnownRows.{KnownTo}
use Rattle.decoder.proofs.known.rows_known.Given as goal

abbrev pub invariant-loop : goal.invariant-loop
invariant-loop l = KnownTo l.journal l.rows l.known l.counter l.at
