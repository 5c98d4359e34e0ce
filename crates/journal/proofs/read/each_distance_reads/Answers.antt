-- `journal::read::each_distance_reads` meets its contract.
use Rattle.std.proofs.Common.{rules, arith, drop, ℕ, ◌+◌, ◌*◌, ◌∙◌}
use Rattle.std.proofs.lemmas.Iterator.{YieldsList-from_range}
use Rattle.std.proofs.lemmas.Iterator.Search.{all_from_yields_List}
use Rattle.journal.specs.Ranges.{distance_ok}
use Rattle.journal.specs.Record.{float_words, read_distance}
use Rattle.journal.specs.inner.Check.{well_read}
use Rattle.lists.proofs.Chains.{all-numbers}
use Rattle.journal.proofs.read.each_distance_reads.Goals as goal

pub returns : goal.returns
returns c =
    let a = c.args in
    let test = λ (k : ℕ). well_read float_words read_distance distance_ok (drop (a.at + 2 * k) a.words.now) in
    all_from_yields_List test _ _ _ c.all.ensures.ran (YieldsList-from_range 0 a.n a.n (search rules) (omega arith)) (λ k b q called. (search rules, search rules)) ∙ all-numbers test a.n
