-- The fewest marks as a C function hands them over.
use Prim.Native.Nat.{ℕ, ◌-◌, ◌<◌, min}
use native.Mathlib.Omega.{arith}
use mathlib.Core.List.{List, ◌++◌}
use mathlib.Core.Option.{Option}
use mathlib.Core.Path.{◌≡◌}
use lib.ListN.{length, take, drop, get_or, length-take, replicate, length-replicate}
use Rattle.validation.specs.Result.{path_bytes, scratch_words}
use Rattle.call.specs.Call.{Reply, refused_by}
use Rattle.openings.specs.Call.{open_shape, open_answer, MeetsOpen}
use Rattle.openings.proofs.CallLaws.{no-room-refused, capped_open, capped-open, answer-low}
use Rattle.openings.specs.Runs.{open_run_of}
use Rattle.entity_rules.specs.Entry.{numbers_after, path_lent}
use Rattle.entity_rules.specs.OpenEntry.{open_bytes, open_call_for, open_entry_answer, OpenAnswered}
use Rattle.openings.proofs.ListLaws.{small-marks}
use Rattle.entity_rules.proofs.Entries.{lent-nothing, lent-within}
use Rattle.entity_rules.proofs.BookSteps.{path-home, handed}

module _ (kind semantics : ℕ) (table schema rule path list result : List ℕ) where
  abbrev answer : Reply (Option (List ℕ))
  answer = open_entry_answer kind semantics table schema rule (length path) (length list) (length result)

  made : (k s lent : ℕ) (numbers last list_now scratch_now : List ℕ)
      → k ≡ min kind 9
      → s ≡ min semantics 9
      → lent ≡ path_lent open_bytes (length path) (length result)
      → open_answer (open_run_of k s table schema rule (take (lent - 0) path) list (replicate scratch_words 0) numbers last list_now scratch_now).call ≡ answer
  unfolding open_entry_answer open_call_for capped_open
  made k s lent numbers last list_now scratch_now ek es el =
      let part : length (take (lent - 0) path) ≡ lent = simp length-take (omega (arith, lent-within open_bytes (length path) (length result))) in
      rw (length-replicate {A = ℕ} scratch_words 0, part, ek, es, el)
      (capped-open 9 (open_call_for kind semantics table schema rule (length path) (length list) (length result)) (omega arith))

  pub open-answered : {k s lent r : ℕ} (numbers last list_now scratch_now : List ℕ) {result_now : List ℕ}
      → k ≡ min kind 9
      → s ≡ min semantics 9
      → lent ≡ path_lent open_bytes (length path) (length result)
      → MeetsOpen (open_run_of k s table schema rule (take (lent - 0) path) list (replicate scratch_words 0) numbers last list_now scratch_now)
      → result_now ≡ numbers_after numbers result
      → r ≡ get_or numbers 0 0
      → OpenAnswered answer path (last ++ drop (lent - 0) path) list list_now result result_now r
  unfolding open_entry_answer open_call_for
  open-answered {k} {s} {lent} numbers last list_now scratch_now ek es el m w n =
      let same = made k s lent numbers last list_now scratch_now ek es el in
      let call = open_call_for kind semantics table schema rule (length path) (length list) (length result) in
      let lent_nothing : length result < open_bytes → (n : ℕ) × (answer ≡ refused_by n) =
      (λ short. let none = lent-nothing open_bytes (length path) (length result) short in no-room-refused call (omega arith)) in
      let left = rw same at m.buffers in
      handed open_shape (open_run_of k s table schema rule (take (lent - 0) path) list (replicate scratch_words 0) numbers last list_now scratch_now) m same
      (path-home path_bytes open_bytes path result lent last answer el lent_nothing left.0, (left.1.0, tt))
      (small-marks _ (answer-low call)) w n
