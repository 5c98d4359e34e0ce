-- `text::list::entered` meets its contract.
use Rattle.text.proofs.Lists.{entered-not, entered-in, entered-out}
use Rattle.text.proofs.list.entered.Goals.{then-cursor-via-then-cursor, then-cursor-via-else-cursor+then-xs-i}
use Rattle.text.proofs.list.entered.Goals as goal

pub returns-then-cursor : goal.returns-then-cursor
returns-then-cursor g c =
    elim c.then-cursor.branch [
      | then-cursor-via-then-cursor w ↦ let e = entered-not c.args.i c.args.taken.cursor c.args.taken.value c.args.xs.now w.if-cursor.true in record { value = e.0; entries_after = e.1 }
      | then-cursor-via-else-cursor+then-xs-i w ↦ let e = entered-out c.args.i c.args.taken.cursor c.args.taken.value c.args.xs.now w.if-cursor.false w.if-xs-i.true in record { value = e.0; entries_after = e.1 }
    ]

pub returns : goal.returns
returns g c = let e = entered-in c.args.i c.args.taken.cursor c.args.taken.value c.args.xs.now c.if-cursor.false in record { value = e.0; entries_after = e.1 }
