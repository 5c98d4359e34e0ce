-- `journal::check::read_journal` meets its contract.
use Prim.Native.Nat.{ℕ}
use native.Mathlib.Omega.{arith}
use mathlib.Core.List.{[]}
use mathlib.Core.Path.{ap, ◌∙◌}
use lib.ListN.{drop}
use lib.Seq.{length-take-le}
use Rattle.std.proofs.lemmas.Grind.{common_steps}
use Rattle.journal.specs.inner.Check.{survey_of}
use Rattle.journal.specs.Journal.{read_rows, used_words}
use Rattle.journal.specs.Ranges.{row_limit}
use Rattle.journal.proofs.Walk.{survey-is}
use Rattle.journal.proofs.check.read_journal.Goals as goal

pub returns-then-journal-eq0 : goal.returns-then-journal-eq0
returns-then-journal-eq0 c = rw (survey-is c.args.journal.now) (grind (arith, common_steps))

pub returns-then-word-ne5 : goal.returns-then-word-ne5
returns-then-word-ne5 c = rw (survey-is c.args.journal.now) (grind (arith, common_steps))

pub returns : goal.returns
returns c = let s = c.args.journal.now in
    c.walk.ensures
    ∙ ap (λ (n : ℕ). survey_of n (read_rows row_limit [] (drop 1 (used_words s)))) (length-take-le _ s c.if-journal-used.false)
    ∙ rw (survey-is s) (grind (arith, common_steps))
