-- What a host may rely on where it checks a path: the demands hold of each call, and settings and buffers of any size are refused by number.
use Rattle.std.specs.Prelude.{ℕ, ◌≤◌, ◌<◌, cond, ◌&&◌, List, [], ◌≡◌, leb, length}
use Rattle.std.proofs.Math.Path.{refl, ap, sym}
use Rattle.std.proofs.Common.{◌∙◌, le-leb}
use Rattle.std.proofs.Math.ListN.{length-replicate}
use Rattle.std.proofs.lemmas.Bool.{lt-leb}
use Rattle.text.specs.Utf8.{between, is_utf8}
use Rattle.validation.specs.Result.{Numbers, refused, scratch_words, first_refusal, numbers_of}
use Rattle.validation.specs.KeyPath.{KeyCall, max_key_bytes, key_early, key_refusals, key_result_of, key_call_of, MeetsKey}
use Rattle.validation.proofs.KeyLaws.{key-semantics-refused, key-reader-refused}
use Rattle.entity_rules.specs.Entry.{result_bytes, path_lent, EntryAnswered}
use Rattle.entity_rules.specs.EntryLaws.{numbers-of-answer, refused-first}
use Rattle.entity_rules.specs.KeyEntry.{key_entry_call, key_entry_answer, key_entry_run}

module _ (semantics reader : ℕ) (path schema result_before result_now : List ℕ) where
  pub key-entry-call : result_bytes ≤ length result_before
      → key_call_of (key_entry_run semantics reader path schema result_now) ≡ key_entry_call semantics reader path schema (length result_before)
  unfolding key_call_of key_entry_run key_entry_call path_lent
  key-entry-call room = rw (le-leb result_bytes (length result_before) room, length-replicate {A = ℕ} scratch_words 0)

  -- so the demands hold of it (crate `validation`, specs/KeyDemands)
  pub key-entry-meets : {r : ℕ}
      → EntryAnswered (key_entry_answer semantics reader path schema (length result_before)) [] [] result_before result_now r
      → result_bytes ≤ length result_before
      → MeetsKey (key_entry_run semantics reader path schema result_now)
  unfolding key_entry_run key_entry_answer
  key-entry-meets a room =
      record {
        result = numbers-of-answer a room ∙ ap (λ (c : KeyCall). numbers_of (key_result_of c)) (sym (key-entry-call room));
        scratch = record { size = refl; kept = refl };
      }

  -- and what is returned is the run's number
  pub key-entry-returns : {r : ℕ}
      → EntryAnswered (key_entry_answer semantics reader path schema (length result_before)) [] [] result_before result_now r
      → result_bytes ≤ length result_before
      → r ≡ (key_entry_run semantics reader path schema result_now).result.number
  unfolding key_entry_run
  key-entry-returns a room = a.number ∙ sym (ap (λ (n : Numbers). n.number) (numbers-of-answer a room))

module _ (semantics reader : ℕ) (path schema : List ℕ) (result_length : ℕ) where
  -- a setting is refused for its whole value, and not for its last 32 bits
  pub large-semantics-refused : 4 < semantics → key_entry_answer semantics reader path schema result_length ≡ refused 1
  unfolding key_entry_answer key_entry_call
  large-semantics-refused more = key-semantics-refused (key_entry_call semantics reader path schema result_length) more

  pub large-reader-refused : 2 < reader → key_entry_answer semantics reader path schema result_length ≡ refused 1
  unfolding key_entry_answer key_entry_call
  large-reader-refused more = key-reader-refused (key_entry_call semantics reader path schema result_length) more

  -- a short result buffer is refused as 3, after 1 and 2 and before the schema
  pub short-result-refused : result_length < result_bytes
      → key_entry_answer semantics reader path schema result_length
      ≡ refused (cond (between 1 4 semantics && between 1 2 reader) (cond (leb (length path) max_key_bytes && is_utf8 path) 3 2) 1)
  unfolding key_entry_answer key_entry_call path_lent key_result_of key_refusals key_early first_refusal
  short-result-refused short =
      rw (lt-leb result_bytes result_length short)
      (refused-first (between 1 4 semantics && between 1 2 reader) (leb (length path) max_key_bytes && is_utf8 path) _)
