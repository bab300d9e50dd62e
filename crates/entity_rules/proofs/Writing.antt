-- Numbers for a result.
use Prim.Native.Nat.{ℕ, ◌*◌, ◌/◌, ◌^◌, ◌≤◌, ◌<◌}
use native.Mathlib.Omega.{arith}
use mathlib.Core.List.{List}
use mathlib.Core.Path.{◌≡◌}
use lib.ListN.{length}
use borrow.Author.Tests.{le-leb, lt-leb}
use Rattle.buffer.specs.Wrote.{Wrote}
use Rattle.buffer.specs.Bytes.{bytes_of, InFourBytes, no_more, one_more}
use Rattle.single_check.specs.Outcomes.{numbers_by}
use Rattle.single_check.specs.declared.outcome.Outcome.{Outcome}
use Rattle.single_check.specs.declared.outcome.Report.{Report}
use Rattle.entity_rules.specs.Entry.{result_bytes, fields_of, result_after, numbers_after}
use Rattle.entity_rules.specs.CheckEntry.{report_bytes, report_fields, report_after}

-- numbers of any count
pub numbers-short : (ns l : List ℕ) → length l / 4 < length ns → l ≡ numbers_after ns l
unfolding numbers_after
numbers-short ns l short = rw (lt-leb (4 * length ns) (length l) (omega arith))

pub numbers-written : (ns : List ℕ) {before after : List ℕ} {next : ℕ} → length ns ≤ length before / 4 → Wrote before after 0 (bytes_of ns) next → after ≡ numbers_after ns before
unfolding numbers_after
numbers-written ns {before} room w = rw (le-leb (4 * length ns) (length before) (omega arith)) w.stands

pub result-short : (o : Outcome) (l : List ℕ) → length l < result_bytes → l ≡ result_after (numbers_by o) l
unfolding result_after
result-short o l short = rw (lt-leb result_bytes (length l) short)

pub result-written : (o : Outcome) {ns before after : List ℕ} {next : ℕ} → result_bytes ≤ length before
    → ns ≡ fields_of (numbers_by o)
    → Wrote before after 0 (bytes_of ns) next
    → after ≡ result_after (numbers_by o) before
unfolding result_after
result-written o {before = before} room e w = rw (le-leb result_bytes (length before) room, ← e) w.stands

pub report-short : (r : Report) (l : List ℕ) → length l < report_bytes → l ≡ report_after (numbers_by r.outcome) r.marks l
unfolding report_after
report-short r l short = rw (lt-leb report_bytes (length l) short)

pub report-written : (r : Report) {ns before after : List ℕ} {next : ℕ} → report_bytes ≤ length before
    → ns ≡ report_fields (numbers_by r.outcome) r.marks
    → Wrote before after 0 (bytes_of ns) next
    → after ≡ report_after (numbers_by r.outcome) r.marks before
unfolding report_after
report-written r {before = before} room e w = rw (le-leb report_bytes (length before) room, ← e) w.stands

-- the code's numbers are of 32 bits
pub small-numbers : (o : Outcome) → o.number < 2 ^ 32 → o.family < 2 ^ 32 → o.detail < 2 ^ 32 → o.place < 2 ^ 32 → o.over_place < 2 ^ 32
    → o.passed < 2 ^ 32 → o.path_length < 2 ^ 32 → InFourBytes (fields_of (numbers_by o))
unfolding fields_of
small-numbers o number family detail place over passed size =
    one_more number (one_more family (one_more detail (one_more place (one_more over (one_more passed (one_more size no_more))))))

pub small-report : (r : Report) → r.outcome.number < 2 ^ 32 → r.outcome.family < 2 ^ 32 → r.outcome.detail < 2 ^ 32 → r.outcome.place < 2 ^ 32
    → r.outcome.over_place < 2 ^ 32 → r.outcome.passed < 2 ^ 32 → r.outcome.path_length < 2 ^ 32 → r.marks < 2 ^ 32
    → InFourBytes (report_fields (numbers_by r.outcome) r.marks)
unfolding report_fields fields_of
small-report r number family detail place over passed size count =
    one_more number (one_more family (one_more detail (one_more place (one_more over (one_more passed (one_more size (one_more count no_more)))))))
