-- A book's tally as a C function makes it.
use Prim.Native.Nat.{ℕ, ◌+◌, ◌^◌, ◌-◌, ◌<◌, ◌≤◌, min}
use native.Mathlib.Omega.{arith}
use mathlib.Core.List.{List, ◌++◌}
use mathlib.Core.Path.{◌≡◌}
use lib.ListN.{length, take, drop, get_or, length-take, replicate, length-replicate}
use Rattle.validation.specs.Result.{path_bytes, scratch_words}
use Rattle.call.specs.Call.{Reply, refused_by, Run}
use Rattle.rule_book.specs.Tally.{BookCall, Tally, tally_shape, book_answer, MeetsBook}
use Rattle.rule_book.proofs.TallyLaws.{no-room-refused, capped_book, capped-book, tally-first, tally-within}
use Rattle.rule_book.specs.Tallying.{book_run_of}
use Rattle.host_numbers.specs.Counts.{counts_after}
use Rattle.entity_rules.specs.Entry.{path_lent}
use Rattle.entity_rules.specs.BookEntry.{tally_bytes, book_call_for, tally_answer, TallyAnswered}
use Rattle.entity_rules.proofs.Entries.{lent-nothing, lent-within}
use Rattle.entity_rules.proofs.BookSteps.{path-home, handed, in-eight}

-- Settings of any size, and a scratch of its own.

module _ (kind semantics : ℕ) (label table schema book path result : List ℕ) where
  abbrev answer : Reply Tally
  answer = tally_answer kind semantics label table schema book (length path) (length result)

  made : (k s lent : ℕ) (numbers last scratch_now : List ℕ)
      → k ≡ min kind 9
      → s ≡ min semantics 9
      → lent ≡ path_lent tally_bytes (length path) (length result)
      → book_answer (book_run_of k s label table schema book (take (lent - 0) path) (replicate scratch_words 0) numbers last scratch_now).call ≡ answer
  unfolding tally_answer book_call_for capped_book
  made k s lent numbers last scratch_now ek es el =
      let part : length (take (lent - 0) path) ≡ lent = simp length-take (omega (arith, lent-within tally_bytes (length path) (length result))) in
      rw (length-replicate {A = ℕ} scratch_words 0, part, ek, es, el)
      (capped-book 9 (book_call_for tally_bytes kind semantics label table schema book (length path) (length result)) (omega arith))

  pub tally-answered : {k s lent r : ℕ} (numbers last scratch_now : List ℕ) {result_now : List ℕ}
      → k ≡ min kind 9
      → s ≡ min semantics 9
      → lent ≡ path_lent tally_bytes (length path) (length result)
      → MeetsBook (book_run_of k s label table schema book (take (lent - 0) path) (replicate scratch_words 0) numbers last scratch_now)
      → 38 + length book < 2 ^ 64
      → result_now ≡ counts_after numbers result
      → r ≡ get_or numbers 0 0
      → TallyAnswered answer path (last ++ drop (lent - 0) path) result result_now r
  unfolding tally_answer book_call_for
  tally-answered {k} {s} {lent} numbers last scratch_now ek es el m small w n =
      let same = made k s lent numbers last scratch_now ek es el in
      let call = book_call_for tally_bytes kind semantics label table schema book (length path) (length result) in
      let lent_nothing : length result < tally_bytes → (n : ℕ) × (answer ≡ refused_by n) =
      (λ short. let none = lent-nothing tally_bytes (length path) (length result) short in no-room-refused call (omega arith)) in
      handed tally_shape (book_run_of k s label table schema book (take (lent - 0) path) (replicate scratch_words 0) numbers last scratch_now) m same
      (path-home path_bytes tally_bytes path result lent last answer el lent_nothing (rw same at m.buffers.0), tt)
      (in-eight _ _ small (tally-within call)) w n

-- the first number fits what is returned
pub first_fits : (r : Run BookCall) → MeetsBook r → get_or r.result 0 0 ≤ 38
first_fits r m = rw m.result (tally-first r.call)
