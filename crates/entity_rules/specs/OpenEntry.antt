-- What `rulecheck_openings` answers, and what its three buffers hold after it (docs/FORMAT.md, "The C interface").
use Rattle.std.specs.Prelude.{ℕ, List, [], ◌∷◌}
use Rattle.std.proofs.Math.Option.{Option}
use Rattle.buffer.specs.Bytes.{InFourBytes}
use Rattle.validation.specs.Result.{path_bytes, scratch_words}
use Rattle.call.specs.Call.{Reply, free_if_told}
use Rattle.openings.specs.Call.{OpenCall, list_left, open_answer, open_numbers}
use Rattle.entity_rules.specs.Entry.{numbers_after, path_lent, Handed}

-- three numbers of four bytes
abbrev pub open_bytes : ℕ
open_bytes = 12

-- the call that is made, with a scratch of its own
unfoldable pub open_call_for : (kind semantics : ℕ) (table schema rule : List ℕ) (path_length list_length result_length : ℕ) → OpenCall
open_call_for kind semantics table schema rule path_length list_length result_length =
    record {
      kind = kind;
      semantics = semantics;
      table = table;
      schema = schema;
      rule = rule;
      widths = record { path = path_lent open_bytes path_length result_length; scratch = scratch_words };
      list = list_length;
    }

unfoldable pub open_entry_answer : (kind semantics : ℕ) (table schema rule : List ℕ) (path_length list_length result_length : ℕ) → Reply (Option (List ℕ))
open_entry_answer kind semantics table schema rule path_length list_length result_length =
    open_answer (open_call_for kind semantics table schema rule path_length list_length result_length)

-- what is returned, and the buffers; since the numbers are small, they can be read back (OpenEntryLaws, `field-of-openings`)
abbrev pub OpenAnswered : (answer : Reply (Option (List ℕ))) (path_before path_now list_before list_now result_before result_now : List ℕ) (r : ℕ) → Type 0
OpenAnswered answer path_before path_now list_before list_now result_before result_now r =
    Handed answer (open_numbers answer) numbers_after InFourBytes (free_if_told path_bytes answer ∷ list_left answer ∷ [])
    (record { before = path_before; after = path_now } ∷ record { before = list_before; after = list_now } ∷ []) result_before result_now r
