-- A book's wall sheet as a C function makes it.
use Prim.Native.Nat.{ℕ, ◌+◌, ◌^◌, ◌-◌, ◌<◌, ◌≤◌, min}
use native.Mathlib.Omega.{arith}
use mathlib.Core.List.{List, ◌++◌}
use mathlib.Core.Path.{◌≡◌}
use lib.ListN.{length, take, drop, get_or, length-take, replicate, length-replicate}
use Rattle.validation.specs.Result.{Answer, path_bytes, scratch_words}
use Rattle.call.specs.Call.{Reply, refused_by, Run}
use Rattle.rule_book.proofs.TallyLaws.{capped_book}
use Rattle.wall.specs.Wall.{WallCall, wall_shape, wall_answer, MeetsWall}
use Rattle.wall.specs.WallLaws.{no-room-refused, capped-wall, wall-first, wall-within}
use Rattle.wall.specs.Printing.{wall_run_of}
use Rattle.host_numbers.specs.Counts.{counts_after}
use Rattle.entity_rules.specs.Entry.{path_lent}
use Rattle.entity_rules.specs.BookEntry.{book_call_for}
use Rattle.entity_rules.specs.WallEntry.{wall_bytes, wall_call_for, wall_entry_answer, WallAnswered}
use Rattle.entity_rules.proofs.Entries.{lent-nothing, lent-within}
use Rattle.entity_rules.proofs.BookSteps.{path-home, handed, in-eight}

module _ (kind semantics : ℕ) (label table schema book path pages result : List ℕ) where
  abbrev answer : Reply (List Answer)
  answer = wall_entry_answer kind semantics label table schema book (length path) (length pages) (length result)

  made : (k s lent : ℕ) (numbers last pages_now scratch_now : List ℕ)
      → k ≡ min kind 9
      → s ≡ min semantics 9
      → lent ≡ path_lent wall_bytes (length path) (length result)
      → wall_answer (wall_run_of k s label table schema book (take (lent - 0) path) pages (replicate scratch_words 0) numbers last pages_now scratch_now).call ≡ answer
  unfolding wall_entry_answer wall_call_for book_call_for capped_book
  made k s lent numbers last pages_now scratch_now ek es el =
      let part : length (take (lent - 0) path) ≡ lent = simp length-take (omega (arith, lent-within wall_bytes (length path) (length result))) in
      rw (length-replicate {A = ℕ} scratch_words 0, part, ek, es, el)
      (capped-wall 9 (book_call_for wall_bytes kind semantics label table schema book (length path) (length result)) (length pages) (omega arith))

  pub wall-answered : {k s lent r : ℕ} (numbers last pages_now scratch_now : List ℕ) {result_now : List ℕ}
      → k ≡ min kind 9
      → s ≡ min semantics 9
      → lent ≡ path_lent wall_bytes (length path) (length result)
      → MeetsWall (wall_run_of k s label table schema book (take (lent - 0) path) pages (replicate scratch_words 0) numbers last pages_now scratch_now)
      → 38 + length book < 2 ^ 64
      → result_now ≡ counts_after numbers result
      → r ≡ get_or numbers 0 0
      → WallAnswered answer path (last ++ drop (lent - 0) path) pages pages_now result result_now r
  unfolding wall_entry_answer wall_call_for book_call_for
  wall-answered {k} {s} {lent} numbers last pages_now scratch_now ek es el m small w n =
      let same = made k s lent numbers last pages_now scratch_now ek es el in
      let call = wall_call_for kind semantics label table schema book (length path) (length pages) (length result) in
      let lent_nothing : length result < wall_bytes → (n : ℕ) × (answer ≡ refused_by n) =
      (λ short. let none = lent-nothing wall_bytes (length path) (length result) short in no-room-refused call (omega arith)) in
      let left = rw same at m.buffers in
      handed wall_shape (wall_run_of k s label table schema book (take (lent - 0) path) pages (replicate scratch_words 0) numbers last pages_now scratch_now) m same
      (path-home path_bytes wall_bytes path result lent last answer el lent_nothing left.0, (left.1.0, tt))
      (in-eight _ _ small (wall-within call)) w n

-- the first number fits what is returned
pub first_fits : (r : Run WallCall) → MeetsWall r → get_or r.result 0 0 ≤ 38
first_fits r m = rw m.result (wall-first r.call)
