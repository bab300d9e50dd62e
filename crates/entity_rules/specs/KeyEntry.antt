-- What `rulecheck_path` answers (docs/FORMAT.md, "The C interface").
use Rattle.std.specs.Prelude.{ℕ, List, replicate}
use Rattle.validation.specs.Result.{Answer, scratch_words}
use Rattle.validation.specs.KeyPath.{KeyCall, key_result_of, KeyRun}
use Rattle.entity_rules.specs.Entry.{result_bytes, path_lent, numbers_in}

-- the call that it makes, with a scratch of its own, which counts as empty where the result has no room
unfoldable pub key_entry_call : (semantics reader : ℕ) (path schema : List ℕ) (result_length : ℕ) → KeyCall
key_entry_call semantics reader path schema result_length =
    record {
      semantics = semantics;
      reader = reader;
      path = path;
      schema = schema;
      scratch_length = path_lent result_bytes scratch_words result_length;
    }

unfoldable pub key_entry_answer : (semantics reader : ℕ) (path schema : List ℕ) (result_length : ℕ) → Answer
key_entry_answer semantics reader path schema result_length = key_result_of (key_entry_call semantics reader path schema result_length)

-- What a host hands over and what it has after the call, as a run. The scratch counts as unchanged, as in `entry_run`.
unfoldable pub key_entry_run : (semantics reader : ℕ) (path schema result_now : List ℕ) → KeyRun
key_entry_run semantics reader path schema result_now =
    record {
      semantics = semantics;
      reader = reader;
      path = path;
      schema = schema;
      scratch_before = replicate scratch_words 0;
      result = numbers_in result_now;
      scratch = replicate scratch_words 0;
    }
