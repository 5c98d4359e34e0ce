-- What the loop of `text::keyword::entry_for` keeps: the entry stands in what is left of the table.
use Rattle.std.proofs.Common.{◌≡◌, map, drop}
use Rattle.text.specs.inner.Keywords.{entry_for}
use Rattle.text.proofs.keyword.entry_for.Given as goal

abbrev pub invariant-loop-name : goal.invariant-loop-name
invariant-loop-name g l =
    entry_for l.other (map (λ e. (e.0.now, e.1)) l.table) l.word ≡ entry_for l.other (map (λ e. (e.0.now, e.1)) (drop l.name-index l.table)) l.word
