-- Runs of calls on buffers of zeros, and those that give what the definitions say.
use Prim.Native.Nat.{ℕ}
use mathlib.Core.List.{List}
use mathlib.Core.Path.{◌≡◌, refl, ap, sym}
use lib.ListN.{replicate, length-replicate}
use Rattle.validation.specs.Result.{Call, Unrefused, Numbers, numbers_of, result_of, path_after, Run, call_of, Meets}

-- with that result, and that path buffer after the call
unfoldable pub run_with : Numbers → (path : List ℕ) → Call → Run
run_with result path c =
    record {
      asked = c.asked;
      table = c.table;
      schema = c.schema;
      path_before = replicate c.lent.widths.path 0;
      scratch_before = replicate c.lent.widths.scratch 0;
      marks_lent = c.lent.marks;
      result = result;
      path = path;
      scratch = replicate c.lent.widths.scratch 0;
    }

pub call-of-run : (result : Numbers) (path : List ℕ) (c : Call) → call_of (run_with result path c) ≡ c
unfolding call_of run_with
call-of-run result path c = λ i.
    record {
      asked = c.asked;
      table = c.table;
      schema = c.schema;
      lent =
          record {
            widths =
                record {
                  path = length-replicate {A = ℕ} c.lent.widths.path 0 i;
                  scratch = length-replicate {A = ℕ} c.lent.widths.scratch 0 i;
                };
            marks = c.lent.marks;
          };
    }

-- the run that gives what the definitions say
unfoldable pub exact_run : Call → Run
unfolding run_with
exact_run c = run_with (numbers_of (result_of c)) (path_after (result_of c) (replicate c.lent.widths.path 0)) c

pub run-meets : (c : Call) → Meets (exact_run c)
unfolding exact_run
run-meets c =
    let same : c ≡ call_of (exact_run c) = sym (call-of-run (numbers_of (result_of c)) (path_after (result_of c) (replicate c.lent.widths.path 0)) c) in
    record {
      result = ap (λ (d : Call). numbers_of (result_of d)) same;
      path = ap (λ (d : Call). path_after (result_of d) (replicate c.lent.widths.path 0)) same;
      scratch = record { size = refl; kept = refl };
    }

pub run-unrefused : (c : Call) → Unrefused c → Unrefused (call_of (exact_run c))
unfolding exact_run
run-unrefused c n = rw (call-of-run (numbers_of (result_of c)) (path_after (result_of c) (replicate c.lent.widths.path 0)) c) n
