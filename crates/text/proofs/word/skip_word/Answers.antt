-- `text::word::skip_word` meets its contract.
use Rattle.std.proofs.Common.{◌+◌, ◌-◌, not, length, take, drop, ap, ◌∙◌, rules, tests}
use Rattle.std.proofs.lemmas.Iterator.{YieldsList-from_slice}
use Rattle.std.proofs.lemmas.Iterator.Consumers.{count_from_yields_List}
use Rattle.std.proofs.lemmas.Iterator.Search.{YieldsList-from_take_while}
use Rattle.std.proofs.lemmas.List.Folds.{length-prefix_len}
use Rattle.std.specs.List.{prefix_len}
use Rattle.text.specs.inner.Words.{breaks}
use Rattle.text.proofs.Words.{run-taken, rest-drop}
use Rattle.text.proofs.word.skip_word.Goals as goal

pub returns : goal.returns
returns c =
    let text = c.args.text.now in
    let rest = take (length text - c.min.result) (drop c.min.result text) in
    let n =
    count_from_yields_List c.take_while.result _ c.count.ensures.ran
    (YieldsList-from_take_while _ (λ b. not (breaks b)) (YieldsList-from_slice rest cc) c.take_while.ensures.closure c.take_while.ensures.done (λ x b q k. search (rules, tests)))
    ∙ length-prefix_len (λ b. not (breaks b)) rest in
    ap (λ n. c.args.at + n) (n ∙ ap (prefix_len (λ b. not (breaks b))) (rest-drop text _ _ c.min.ensures) ∙ run-taken (drop c.args.at text))
