-- `rows::record::candidates_at` meets its contract.
use mathlib.Core.Path.{refl, sym, ◌∙◌}
use native.Mathlib.Omega.{arith}
use Rattle.journal.specs.Record.{read_row}
use Rattle.journal.proofs.Gathered.{gathered_none, gathered-turn, gathered-done}
use Rattle.rows.proofs.Records.{candidates-many, candidate-at, stands_at}
use Rattle.rows.proofs.record.candidates_at.Goals as goal

pub loop-i-init : goal.loop-i-init
loop-i-init c = gathered_none _ _ c.no_candidates-list.ensures

pub candidate_of-requires : goal.candidate_of-requires
candidate_of-requires c = stands_at _ _ _ c.requires.0 c.loop-i-test.true

pub loop-i-preserved : goal.loop-i-preserved
loop-i-preserved c =
    gathered-turn _ _ c.loop-i.i c.loop-i.invariant (omega arith) (c.candidate_of.ensures ∙ sym (candidate-at (read_row c.args.words.now) c.loop-i.i))

pub returns : goal.returns
returns c = let many = candidates-many (read_row c.args.words.now) ∙ c.requires.0.many in
    gathered-done _ _ c.loop-i.invariant (omega (arith, many)) (omega (arith, many)) _ refl (sym many) c.minute_of.ensures
