-- `text::write::put_bytes` meets its contract.
use native.Mathlib.Omega.{arith}
use Rattle.text.proofs.Written.{copied}
use Rattle.text.proofs.write.put_bytes.Goals as goal

pub returns-clause-out_after : goal.returns-clause-out_after
returns-clause-out_after c = copied _ _ _ _ c.copy_from_slice.ensures.after (omega arith)
