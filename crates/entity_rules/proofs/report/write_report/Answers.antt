-- `entity_rules::report::write_report` meets its contract: eight numbers, one after the other.
use mathlib.Core.Path.{refl}
use native.Mathlib.Omega.{arith}
use borrow.Author.Rules.{rules}
use Rattle.entity_rules.specs.Entry.{fields_of}
use Rattle.entity_rules.specs.CheckEntry.{report_fields}
use Rattle.entity_rules.proofs.Writing.{report-short, report-written, small-report}
use Rattle.entity_rules.proofs.report.write_report.Goals as goal

pub returns-then-bytes-lt-REPORT_BYTES : goal.returns-then-bytes-lt-REPORT_BYTES
returns-then-bytes-lt-REPORT_BYTES c = record { stands = report-short _ _ (omega arith); small = search (small-report, rules) }

pub returns : goal.returns
unfolding report_fields fields_of
returns c =
    record {
      stands = report-written c.args.report (omega (arith, c.if-bytes-lt-REPORT_BYTES.false)) refl c.put_numbers.ensures;
      small = search (small-report, rules);
    }
