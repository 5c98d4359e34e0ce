-- `decoder::fix::distances_ok` meets its contract.
use Rattle.std.proofs.Common.{rules, tests, ◌∙◌}
use Rattle.std.proofs.lemmas.Iterator.{YieldsList-from_slice}
use Rattle.std.proofs.lemmas.Iterator.Search.{all_from_yields_List}
use Rattle.journal.specs.Ranges.{distance_ok}
use Rattle.decoder.proofs.Tests.{each-list_all}
use Rattle.decoder.proofs.fix.distances_ok.Goals as goal

pub returns : goal.returns
returns c = let xs = c.args.distances.now in
    all_from_yields_List distance_ok _ _ _ c.all.ensures.ran (YieldsList-from_slice xs cc) (λ x b q k. search (rules, tests)) ∙ each-list_all distance_ok xs
