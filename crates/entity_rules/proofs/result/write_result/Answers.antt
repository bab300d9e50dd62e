-- `entity_rules::result::write_result` meets its contract: seven numbers, one after the other.
use mathlib.Core.Path.{refl}
use Rattle.entity_rules.specs.Entry.{fields_of}
use Rattle.entity_rules.proofs.Writing.{result-short, result-written, small-numbers}
use native.Mathlib.Omega.{arith}
use borrow.Author.Rules.{rules}
use Rattle.entity_rules.proofs.result.write_result.Goals as goal

pub returns-then-bytes-lt-RESULT_BYTES : goal.returns-then-bytes-lt-RESULT_BYTES
returns-then-bytes-lt-RESULT_BYTES c = record { stands = result-short _ _ (omega arith); small = search (small-numbers, rules) }

pub returns : goal.returns
unfolding fields_of
returns c =
    record {
      stands = result-written c.args.o c.if-bytes-lt-RESULT_BYTES.false refl c.put_numbers.ensures;
      small = search (small-numbers, rules);
    }
