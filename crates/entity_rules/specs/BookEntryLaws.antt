-- What a host may rely on where it tallies a book: `rulecheck_count` gives the eighteen numbers of the answer, and under a widened schema no fewer sheets are
-- accepted and no fewer checks pass.
use Rattle.std.specs.Prelude.{ℕ, ◌≤◌, ◌<◌, true, List, [], ◌≡◌, length}
use Rattle.std.proofs.Common.{arith, sym, ◌∙◌, leb-true}
use Rattle.std.proofs.lemmas.Bool.{false≢true}
use Rattle.std.proofs.Math.Path.{refl, ap}
use Rattle.std.proofs.Math.ListN.{get_or}
use Rattle.reference.specs.Setting.{one_of}
use Rattle.reference.specs.Table.{table_in}
use Rattle.widening.specs.Widening.{Level}
use Rattle.validation.specs.Result.{path_bytes, of_settings, early}
use Rattle.validation.proofs.RefusalLaws.{is_set, none-due}
use Rattle.validation.specs.Growth.{Widens}
use Rattle.call.specs.Call.{Reply, refused_by, told, number_of, if_told, numbers_with}
use Rattle.rule_book.specs.Tally.{BookCall, asked_of, single, book_refusal_numbers, defect_numbers, Tally, tally_of, tally_figures, book_answer, tally_numbers, IsTallied}
use Rattle.rule_book.proofs.TallyLaws.{is-tallied, book-refusal-listed, lending, lending-same, tally-size}
use Rattle.rule_book.proofs.BookGrowthLaws.{book-demand-3}
use Rattle.host_numbers.specs.Counts.{count_at}
use Rattle.host_numbers.specs.CountLaws.{count-of-written}
use Rattle.entity_rules.specs.Entry.{HasRoom}
use Rattle.entity_rules.specs.EntryDemands.{and_left, lent-room}
use Rattle.entity_rules.specs.HandedLaws.{returned-among, returned-alike, room-wide}
use Rattle.entity_rules.specs.BookEntry.{book_call_for, tally_bytes, tally_answer, TallyAnswered, Tallied, TalliesFare}

-- the number at index i of a written result is the i-th of its eighteen
module _ (kind semantics : ℕ) (label table schema book path_before path_now result_before result_now : List ℕ) where
  pub count-of-tally : {r : ℕ}
      → TallyAnswered (tally_answer kind semantics label table schema book (length path_before) (length result_before)) path_before path_now result_before result_now r
      → (i : ℕ)
      → i < 18
      → tally_bytes ≤ length result_before
      → count_at i result_now ≡ get_or (tally_numbers (tally_answer kind semantics label table schema book (length path_before) (length result_before))) i 0
  unfolding tally_answer
  count-of-tally a i less room =
      let size = tally-size (book_call_for tally_bytes kind semantics label table schema book (length path_before) (length result_before)) in
      ap (count_at i) a.result
      ∙ count-of-written _ result_before i (omega (arith, size)) (omega (arith, size)) a.small

-- a refusal leaves the path buffer as it was
pub tally-refused : {answer : Reply Tally} {path_before path_now result_before result_now : List ℕ} {r n : ℕ} → TallyAnswered answer path_before path_now result_before result_now r → answer ≡ refused_by n → path_now ≡ path_before
unfolding if_told
tally-refused a e = rw e at a.buffers.0

module _ (kind semantics : ℕ) (label table schema book : List ℕ) where
  -- with room, path buffer and result may be of any length
  tally-roomy : (path result : List ℕ)
      → HasRoom tally_bytes path result
      → tally_answer kind semantics label table schema book (length path) (length result) ≡ tally_answer kind semantics label table schema book path_bytes tally_bytes
  unfolding tally_answer book_call_for lending
  tally-roomy path result room = lending-same (book_call_for tally_bytes kind semantics label table schema book path_bytes tally_bytes) _ (room-wide tally_bytes path result room)

  module _ {path path_now result result_now : List ℕ} {r : ℕ} (a : TallyAnswered (tally_answer kind semantics label table schema book (length path) (length result)) path path_now result result_now r) where
    -- what is returned is 0 or a refusal of the list
    pub tally-returned-listed : (r ≡ 0 → ⊥) → one_of r book_refusal_numbers ≡ true
    unfolding tally_answer
    tally-returned-listed =
        returned-among a book_refusal_numbers (book-refusal-listed (book_call_for tally_bytes kind semantics label table schema book (length path) (length result)))

    -- what path buffer and result held never matters, nor how long they are, if they have room
    pub tally-any-buffers : {path' path_now' result' result_now' : List ℕ} {r' : ℕ}
        → TallyAnswered (tally_answer kind semantics label table schema book (length path') (length result')) path' path_now' result' result_now' r'
        → HasRoom tally_bytes path result
        → HasRoom tally_bytes path' result'
        → (r ≡ r') × ((i : ℕ) → i < 18 → count_at i result_now ≡ count_at i result_now')
    tally-any-buffers {path'} {path_now'} {result'} {result_now'} a' room room' =
        let same = tally-roomy path result room ∙ sym (tally-roomy path' result' room') in (
          returned-alike a a' same,
          λ i less.
              count-of-tally kind semantics label table schema book path path_now result result_now a i less room.fits
              ∙ ap (λ (x : Reply Tally). get_or (tally_numbers x) i 0) same
              ∙ sym (count-of-tally kind semantics label table schema book path' path_now' result' result_now' a' i less room'.fits),
        )

-- A call that returns 0 has tallied the book, and its result had room.

returned-tallied : (c : BookCall) (a : Reply Tally) → book_answer c ≡ a → number_of a ≡ 0 → (t : Tally) × (book_answer c ≡ told t)
unfolding number_of book_refusal_numbers one_of
returned-tallied c (refused_by n) e z = absurd (false≢true (rw z at (book-refusal-listed c n e)))
returned-tallied c (told t) e z = (t, e)

module _ (kind semantics : ℕ) (label table schema book : List ℕ) (path_length result_length : ℕ) (t : Tally) where
  tallied-room : IsTallied (book_call_for tally_bytes kind semantics label table schema book path_length result_length) t → tally_bytes ≤ result_length
  unfolding book_call_for single asked_of early of_settings
  tallied-room is =
      let due = none-due (early (single (book_call_for tally_bytes kind semantics label table schema book path_length result_length) [])) (is.unrefused []) in
      let wide = and_left _ _ (is_set _ due.1.1.0) in
      lent-room tally_bytes path_length result_length (leb-true path_bytes _ wide)

last-number : (c : BookCall) (t : Tally) → IsTallied c t → get_or (tally_numbers (told t)) 17 0 ≡ t.passed
unfolding numbers_with tally_figures tally_of defect_numbers
last-number c t is = rw is.tally refl

module _ (kind semantics : ℕ) (label table schema book path_before path_now result_before result_now : List ℕ) where
  pub tally-read : {r : ℕ}
      → TallyAnswered (tally_answer kind semantics label table schema book (length path_before) (length result_before)) path_before path_now result_before result_now r
      → r ≡ 0
      → Tallied (book_call_for tally_bytes kind semantics label table schema book (length path_before) (length result_before)) result_now
  unfolding tally_answer numbers_with tally_figures
  tally-read a z =
      let c = book_call_for tally_bytes kind semantics label table schema book (length path_before) (length result_before) in
      let (t, e) = returned-tallied c (book_answer c) refl (sym a.number ∙ z) in
      let is = is-tallied c t e in
      let room = tallied-room kind semantics label table schema book (length path_before) (length result_before) t is in
      let at : (i : ℕ) → i < 18 → count_at i result_now ≡ get_or (tally_numbers (told t)) i 0 = λ i less.
      count-of-tally kind semantics label table schema book path_before path_now result_before result_now a i less room
      ∙ ap (λ (x : Reply Tally). get_or (tally_numbers x) i 0) e
      in
      record {
        tally = t;
        is = e;
        counts =
            record {
              read = at 1 (omega arith);
              accepted = at 2 (omega arith);
              schema_refused = at 3 (omega arith);
              rule_refused = at 4 (omega arith);
              passed = at 17 (omega arith) ∙ last-number c t is;
            };
      }

-- Demand 3 for a book, at the C function: one book under the same settings and a table of one meaning, neither call refused.

module _ (kind semantics : ℕ) (label book table table' schema schema' path_before path_before' path_now path_now' result_before result_before' result_now result_now' : List ℕ) {r r' : ℕ} {l : Level}
    (a : TallyAnswered (tally_answer kind semantics label table schema book (length path_before) (length result_before)) path_before path_now result_before result_now r)
    (a' : TallyAnswered (tally_answer kind semantics label table' schema' book (length path_before') (length result_before')) path_before' path_now' result_before' result_now' r')
  where
    pub entry-book-demand-3 : table_in table ≡ table_in table'
        → Widens l schema schema'
        → r ≡ 0
        → r' ≡ 0
        → TalliesFare l (book_call_for tally_bytes kind semantics label table schema book (length path_before) (length result_before))
        (book_call_for tally_bytes kind semantics label table' schema' book (length path_before') (length result_before')) result_now result_now'
    unfolding book_call_for
    entry-book-demand-3 same w z z' =
        let c = book_call_for tally_bytes kind semantics label table schema book (length path_before) (length result_before) in
        let c' = book_call_for tally_bytes kind semantics label table' schema' book (length path_before') (length result_before') in
        let first = tally-read kind semantics label table schema book path_before path_now result_before result_now a z in
        let second = tally-read kind semantics label table' schema' book path_before' path_now' result_before' result_now' a' z' in
        let fares =
        book-demand-3 c c' first.tally second.tally (record { kind = refl; semantics = refl; label = refl; book = refl; table = same }) w first.is second.is
        in
        record {
          first = first;
          second = second;
          fares = fares;
          accepted = rw (first.counts.accepted, second.counts.accepted) fares.accepted;
          passed = rw (first.counts.passed, second.counts.passed) fares.passed;
        }
