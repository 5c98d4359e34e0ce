-- `text::write::count_zeros` meets its contract.
use Rattle.std.proofs.Common.{eqb, ◌∙◌, rules, tests}
use Rattle.std.proofs.lemmas.Iterator.{YieldsList-from_slice}
use Rattle.std.proofs.lemmas.Iterator.Consumers.{count_from_yields_List}
use Rattle.std.proofs.lemmas.Iterator.Search.{YieldsList-from_take_while}
use Rattle.std.proofs.lemmas.List.Folds.{length-prefix_len}
use Rattle.text.proofs.Written.{zeros-taken}
use Rattle.text.proofs.write.count_zeros.Goals as goal

pub returns : goal.returns
returns c =
    let n =
    count_from_yields_List c.take_while.result _ c.count-zeros.ensures.ran
    (YieldsList-from_take_while _ (λ d. eqb d 48) (YieldsList-from_slice c.args.digits.now cc) c.take_while.ensures.closure c.take_while.ensures.done (λ x b q k. search (rules, tests)))
    ∙ length-prefix_len (λ d. eqb d 48) c.args.digits.now in
    zeros-taken _ _ _ _ n c.saturating_sub.ensures c.min.ensures
