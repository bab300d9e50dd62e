-- What a host may rely on where it prints a book's run: `rulecheck_count` gives the two numbers of the answer, only refusals of the list are returned, what path
-- buffer and result held never matters, and under a widened schema each line fares as demand 3 says.
use Rattle.std.specs.Prelude.{ℕ, ◌≤◌, ◌<◌, true, List, ◌≡◌, length}
use Rattle.std.proofs.Common.{arith, ◌∙◌}
use Rattle.std.proofs.lemmas.Bool.{false≢true}
use Rattle.std.proofs.Math.Path.{refl, ap, sym}
use Rattle.std.proofs.Math.ListN.{get_or}
use Rattle.reference.specs.Setting.{one_of}
use Rattle.reference.specs.Table.{table_in}
use Rattle.widening.specs.Widening.{Level}
use Rattle.validation.specs.Growth.{Widens}
use Rattle.validation.specs.Result.{Answer, path_bytes}
use Rattle.call.specs.Call.{Reply, refused_by, told, number_of, if_told, is_written}
use Rattle.call.proofs.CallLaws.{if-told-written, left-alike}
use Rattle.rule_book.proofs.TallyLaws.{lending}
use Rattle.wall.specs.Wall.{WallCall, wall_refusal_numbers, pages_left, wall_answer, wall_numbers}
use Rattle.wall.specs.WallGrowthLaws.{wall-demand-3}
use Rattle.wall.specs.WallLaws.{wall-refusal-listed, lending_wall, lending-wall, wall-size}
use Rattle.host_numbers.specs.Counts.{count_at}
use Rattle.host_numbers.specs.CountLaws.{count-of-written}
use Rattle.entity_rules.specs.Entry.{HasRoom}
use Rattle.entity_rules.specs.HandedLaws.{returned-among, returned-alike, room-wide}
use Rattle.entity_rules.specs.BookEntry.{book_call_for}
use Rattle.entity_rules.specs.WallEntry.{wall_bytes, wall_call_for, wall_entry_answer, WallAnswered, WallsFare}

-- the number at index i of a written result is the i-th of its two
module _ (kind semantics : ℕ) (label table schema book path_before path_now pages_before pages_now result_before result_now : List ℕ) where
  pub count-of-wall : {r : ℕ}
      → WallAnswered (wall_entry_answer kind semantics label table schema book (length path_before) (length pages_before) (length result_before)) path_before path_now pages_before pages_now result_before result_now r
      → (i : ℕ)
      → i < 2
      → wall_bytes ≤ length result_before
      → count_at i result_now ≡ get_or (wall_numbers (wall_entry_answer kind semantics label table schema book (length path_before) (length pages_before) (length result_before))) i 0
  unfolding wall_entry_answer
  count-of-wall a i less room =
      let size = wall-size (wall_call_for kind semantics label table schema book (length path_before) (length pages_before) (length result_before)) in
      ap (count_at i) a.result
      ∙ count-of-written _ result_before i (omega (arith, size)) (omega (arith, size)) a.small

-- a refusal leaves path buffer and pages as they were
pub wall-refused : {answer : Reply (List Answer)} {path_before path_now pages_before pages_now result_before result_now : List ℕ} {r n : ℕ}
    → WallAnswered answer path_before path_now pages_before pages_now result_before result_now r
    → answer ≡ refused_by n
    → (path_now ≡ path_before) × (pages_now ≡ pages_before)
unfolding if_told
wall-refused a e = let left = rw e at a.buffers in (left.0, left.1.0)

module _ (kind semantics : ℕ) (label table schema book pages : List ℕ) where
  -- with room, path buffer and result may be of any length
  wall-roomy : (path result : List ℕ)
      → HasRoom wall_bytes path result
      → wall_entry_answer kind semantics label table schema book (length path) (length pages) (length result)
      ≡ wall_entry_answer kind semantics label table schema book path_bytes (length pages) wall_bytes
  unfolding wall_entry_answer wall_call_for book_call_for lending_wall lending
  wall-roomy path result room =
      lending-wall (wall_call_for kind semantics label table schema book path_bytes (length pages) wall_bytes) _ (room-wide wall_bytes path result room)

  module _ {path path_now pages_now result result_now : List ℕ} {r : ℕ}
      (a : WallAnswered (wall_entry_answer kind semantics label table schema book (length path) (length pages) (length result)) path path_now pages pages_now result result_now r) where
    -- what is returned is 0 or a refusal of the list
    pub wall-returned-listed : (r ≡ 0 → ⊥) → one_of r wall_refusal_numbers ≡ true
    unfolding wall_entry_answer
    wall-returned-listed =
        returned-among a wall_refusal_numbers (wall-refusal-listed (wall_call_for kind semantics label table schema book (length path) (length pages) (length result)))

    -- what path buffer and result held never matters, nor how long they are, if they have room
    pub wall-any-buffers : {path' path_now' pages_now' result' result_now' : List ℕ} {r' : ℕ}
        → WallAnswered (wall_entry_answer kind semantics label table schema book (length path') (length pages) (length result')) path' path_now' pages pages_now' result' result_now' r'
        → HasRoom wall_bytes path result
        → HasRoom wall_bytes path' result'
        → (r ≡ r') × (pages_now ≡ pages_now') × ((i : ℕ) → i < 2 → count_at i result_now ≡ count_at i result_now')
    unfolding is_written
    wall-any-buffers {path'} {path_now'} {pages_now'} {result'} {result_now'} a' room room' =
        let same = wall-roomy path result room ∙ sym (wall-roomy path' result' room') in (
          returned-alike a a' same,
          left-alike pages_left (if-told-written _ (λ answers. refl)) pages same a.buffers.1.0 a'.buffers.1.0,
          λ i less.
              count-of-wall kind semantics label table schema book path path_now pages pages_now result result_now a i less room.fits
              ∙ ap (λ (x : Reply (List Answer)). get_or (wall_numbers x) i 0) same
              ∙ sym (count-of-wall kind semantics label table schema book path' path_now' pages pages_now' result' result_now' a' i less room'.fits),
        )

-- Demand 3 for a wall sheet, at the C function: one book under the same settings and a table of one meaning, neither call refused.

returned-printed : (c : WallCall) (x : Reply (List Answer)) → wall_answer c ≡ x → number_of x ≡ 0 → (answers : List Answer) × (wall_answer c ≡ told answers)
unfolding number_of wall_refusal_numbers one_of
returned-printed c (refused_by n) e z = absurd (false≢true (rw z at (wall-refusal-listed c n e)))
returned-printed c (told answers) e z = (answers, e)

module _ (kind semantics : ℕ) (label book table table' schema schema' path path' path_now path_now' pages pages' pages_now pages_now' result result' result_now result_now' : List ℕ) {r r' : ℕ} {l : Level}
    (a : WallAnswered (wall_entry_answer kind semantics label table schema book (length path) (length pages) (length result)) path path_now pages pages_now result result_now r)
    (a' : WallAnswered (wall_entry_answer kind semantics label table' schema' book (length path') (length pages') (length result')) path' path_now' pages' pages_now' result' result_now' r')
  where
    pub entry-wall-demand-3 : table_in table ≡ table_in table'
        → Widens l schema schema'
        → r ≡ 0
        → r' ≡ 0
        → WallsFare l (wall_call_for kind semantics label table schema book (length path) (length pages) (length result))
        (wall_call_for kind semantics label table' schema' book (length path') (length pages') (length result')) pages pages_now pages' pages_now'
    unfolding wall_entry_answer wall_call_for book_call_for if_told
    entry-wall-demand-3 same w z z' =
        let c = wall_call_for kind semantics label table schema book (length path) (length pages) (length result) in
        let c' = wall_call_for kind semantics label table' schema' book (length path') (length pages') (length result') in
        let (answers, e) = returned-printed c (wall_answer c) refl (sym a.number ∙ z) in
        let (answers', e') = returned-printed c' (wall_answer c') refl (sym a'.number ∙ z') in
        record {
          answers = answers;
          answers' = answers';
          printed = rw e at a.buffers.1.0;
          printed' = rw e' at a'.buffers.1.0;
          fares = wall-demand-3 c c' answers answers' (record { kind = refl; semantics = refl; label = refl; book = refl; table = same }) w e e';
        }
