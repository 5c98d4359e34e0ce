-- `closing::close::close` meets its contract.
use native.Mathlib.Omega.{arith}
use mathlib.Core.Path.{sym, ◌∙◌}
use Prim.Native.Nat.{min}
use lib.ListN.{length}
use Rattle.std.proofs.lemmas.Result.{err_from_is_err_and}
use Rattle.closing.specs.Close.{pair_row, pair_candidate, close_answer, close_stored}
use Rattle.closing.proofs.Closing.{closed-refused, closed-nothing, closed-full, closed-answer, closed-stored}
use Rattle.closing.proofs.close.close.Goals as goal

pub returns-in_err-survey : goal.returns-in_err-survey
unfolding close_answer close_stored
returns-in_err-survey c =
    let p = err_from_is_err_and c.from_residual.result c.from_residual.ensures.1 in
    let e = closed-refused _ (min (length c.args.rows.now) (length c.args.candidates.now)) (sym c.read_journal.ensures ∙ c.in_err-survey.was) in
    record { value = rw (p.1, p.2, e); rows_after = rw e; candidates_after = rw e }

pub returns-in_default : goal.returns-in_default
unfolding close_answer close_stored
returns-in_default c =
    let e = closed-nothing _ (min (length c.args.rows.now) (length c.args.candidates.now)) (sym c.read_journal.ensures ∙ c.in_ok-survey.was) c.in_default.not-Some in
    record { value = rw e; rows_after = rw e; candidates_after = rw e }

pub best_start-start-requires : goal.best_start-start-requires
best_start-start-requires c = record { surveyed = sym c.read_journal.ensures ∙ c.in_ok-survey.was; latest = c.in-Some.is }

pub path_length-pairs-requires : goal.path_length-pairs-requires
path_length-pairs-requires c = c.best_start-start.ensures.reached

pub returns-then-min-pairs : goal.returns-then-min-pairs
unfolding close_answer close_stored
returns-then-min-pairs c =
    let e = closed-full _ _ c.best_start-start.ensures _ _ c.path_length-pairs.ensures (rw c.min.ensures at c.if-min-pairs.true) in
    record { value = rw e; rows_after = rw e; candidates_after = rw e }

pub write_path-requires : goal.write_path-requires
write_path-requires c =
    record {
      reached = c.best_start-start.ensures.reached;
      pairs_value = (c.best_start-start.ensures.no_pairs, omega (arith, c.path_length-pairs.ensures, c.best_start-start.ensures.no_pairs));
      n_in_bounds = (omega (arith, c.min.ensures), omega (arith, c.min.ensures));
    }

pub returns : goal.returns
returns c =
    let room = rw c.min.ensures at c.if-min-pairs.false in
    record {
      value = closed-answer _ _ c.best_start-start.ensures _ _ c.path_length-pairs.ensures room;
      rows_after = c.write_path.ensures.rows_after ∙ closed-stored _ _ c.best_start-start.ensures _ _ c.path_length-pairs.ensures room pair_row _;
      candidates_after = c.write_path.ensures.candidates_after ∙ closed-stored _ _ c.best_start-start.ensures _ _ c.path_length-pairs.ensures room pair_candidate _;
    }
