-- `journal::read::read_row` meets its contract.
use native.Mathlib.Omega.{arith}
use mathlib.Core.Path.{sym}
use Rattle.std.proofs.lemmas.Grind.{common_steps}
use Rattle.journal.specs.Record.{record_length}
use Rattle.journal.proofs.RecordRead.{row-minute, record-none, record-at}
use Rattle.journal.proofs.read.read_row.Goals as goal

pub returns-then-words-eq0 : goal.returns-then-words-eq0
returns-then-words-eq0 c = sym (record-none _ _ c.if-words-eq0.true)

pub returns-then-head-ne262144 : goal.returns-then-head-ne262144
returns-then-head-ne262144 c = let s = c.args in
    rw (record-at s.survey s.words.now (omega arith)) (grind (arith, common_steps))

pub returns-then-words-length : goal.returns-then-words-length
returns-then-words-length c = let s = c.args in
    rw (record-at s.survey s.words.now (omega arith)) (grind (arith, common_steps))

pub scores_read-requires : goal.scores_read-requires
unfolding record_length
scores_read-requires c = grind (arith, common_steps)

pub minute_of-requires : goal.minute_of-requires
unfolding record_length
minute_of-requires c = grind (arith, common_steps)

pub returns : goal.returns
returns c = let s = c.args in
    rw (record-at s.survey s.words.now (omega arith)) (grind (arith, common_steps, row-minute))
