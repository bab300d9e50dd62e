-- How large the sheet is with one field more: each way through `is_too_large`, as a law.
use Rattle.std.specs.Prelude.{Option as Optional, Some, None}
use Prim.Native.Nat.{ℕ, ◌+◌, ◌≤◌, ◌<◌}
use native.Mathlib.Omega.{arith}
use mathlib.Core.Bool.{true, not}
use mathlib.Core.List.{List, [], append-nil}
use mathlib.Core.Option.{Option, none, some}
use mathlib.Core.Path.{◌≡◌, sym, ap, ◌∙◌}
use lib.Dec.{leb, ltb}
use lib.ListN.{length, length-append}
use borrow.Author.Tests.{ltb-true, ltb-false, le-leb, lt-leb}
use Rattle.text.specs.Numeral.{decimal_of}
use Rattle.text.specs.CaseLaws.{by-test}
use Rattle.sheet.specs.Entries.{max_count}
use Rattle.sheet.specs.Places.{SchemaIs}
use Rattle.sheet.specs.declared.schema_heads.SchemaHead.{SchemaHead as CodeHead}
use Rattle.definition.specs.Tree.{Text, Field, Members, Holder, Schema}
use Rattle.definition.specs.Limits.{max_sheet_bytes, max_schema_entries}
use Rattle.definition.specs.Decode.{decode_schema}
use Rattle.definition.specs.Write.{count_of_members, write_field, write_members, head_of, head_of_arguments, write_arguments, write_schema}
use Rattle.definition.specs.Within.{field_entries, members_entries, arguments_entries, schema_entries, ArgumentsFit}
use Rattle.field_changes.specs.Change.{inserted, with_fields, added, is_too_large}
use Rattle.field_changes.specs.FieldText.{decode_field}
use Rattle.field_changes.proofs.FieldTextLaws.{field-within, field-limits}
use Rattle.field_changes.proofs.NumberedLaws.{numbered-written, numbered-entries}
use Rattle.field_changes.proofs.SumLaws.{inserted-sum, counts-sum, entries-sum, bytes-sum}
use Rattle.schema_edits.specs.Forest.{Fields, passed, EntriesAre}
use Rattle.schema_edits.specs.ForestLaws.{field_row, members-row}
use Rattle.schema_edits.specs.Size.{SizeIs}
use Rattle.schema_edits.proofs.SheetSteps.{within_of, written_of, short-of, headed, head-count, fields-start}
use Rattle.schema_edits.proofs.HeadSteps.{head_with, behind_count, head-length}

-- What a field more adds

added-entries : (name : Text) (f : Field) (t : Schema) → schema_entries (added name f t) ≡ field_entries f + schema_entries t
unfolding added with_fields schema_entries
added-entries name f t =
    numbered-entries (with_fields t (inserted name f t.fields.members)) ∙ (let e = inserted-sum members_entries (λ n g. field_entries g) entries-sum name f t.fields.members in omega arith)

sheet-length : (t : Schema) (m : Members)
    → length (write_schema (with_fields t m))
    ≡ 4 + (length (decimal_of (count_of_members m)) + length (behind_count (head_of_arguments t.arguments))) + (length (write_members m) + length (write_arguments t.arguments))
unfolding write_schema with_fields head_of head_with
sheet-length t m =
    let head = head-length t.fields.is_open (count_of_members m) (head_of_arguments t.arguments) in
    let all = length-append (write_members m) (write_arguments t.arguments) in
    simp length-append (omega arith)

added-bytes : (name : Text) (f : Field) (t : Schema)
    → length (write_schema (added name f t)) + length (decimal_of (count_of_members t.fields.members))
    ≡ length (write_schema t) + length (write_field name f) + length (decimal_of (count_of_members t.fields.members + 1))
unfolding added with_fields
added-bytes name f t =
    let m = t.fields.members in
    let new = ap length (numbered-written (with_fields t (inserted name f m))) in
    let a = sheet-length t (inserted name f m) in
    let b = sheet-length t m in
    let c = inserted-sum (λ x. length (write_members x)) (λ n g. length (write_field n g)) bytes-sum name f m in
    let count : count_of_members (inserted name f m) ≡ count_of_members m + 1 = omega (arith, inserted-sum count_of_members (λ n g. 1) counts-sum name f m) in
    let d = ap (λ (n : ℕ). length (decimal_of n)) count in
    omega arith

-- What is counted

-- a test of two sums that have the same number in them
shifted : (limit n c : ℕ) → ltb (limit + c) (n + c) ≡ not (leb n limit)
shifted limit n c =
    by-test (ltb (limit + c) (n + c))
    (λ q. let l = ltb-true (limit + c) (n + c) q in rw (q, lt-leb n limit (omega arith)))
    (λ q. let l = ltb-false (limit + c) (n + c) q in rw (q, le-leb n limit (omega arith)))

field-entries : (text : List ℕ) (n : ℕ) (name : Text) (f : Field) → decode_field text ≡ some (name, f) → EntriesAre text 0 n → n ≡ field_entries f
field-entries text n name f e c =
    let w = field-within text name f e in
    let all = c.counts (0 + 1) (0 + field_entries f)
    (rw (w.0 ∙ sym (append-nil (write_field name f))) (field_row 0 0 name f [] [] w.1.named w.1.fits (omega (arith, (field-limits text name f e).0)) passed)) in
    omega arith

arguments-row : (a : Option Holder) → ArgumentsFit a → arguments_entries a ≤ max_count → (p : ℕ) × Fields p (0 + arguments_entries a) (write_arguments a) []
unfolding arguments_entries write_arguments
arguments-row none fits few = (0, passed)
arguments-row (some h) fits few =
    (0 + count_of_members h.members, rw (sym (append-nil (write_members h.members))) (members-row 0 0 h.members [] [] fits few passed))

module _ (s : List ℕ) (r : Optional (CodeHead × ℕ)) (read : SchemaIs s 0 r) {h : CodeHead} {start : ℕ} (is : r ≡ Some (h, start)) where
  sheet-entries : (n : ℕ) (t : Schema) → decode_schema s ≡ some t → EntriesAre s start n → 1 + n ≡ schema_entries t
  unfolding schema_entries
  sheet-entries n t e c =
      let w = within_of s t e in
      let few = w.entries in
      let m = t.fields.members in
      let a = t.arguments in
      let row = arguments-row a w.fits.1 (omega arith) in
      let all = c.counts (row.0 + count_of_members m) (0 + arguments_entries a + members_entries m)
      (rw (fields-start s r read t e is) (members-row row.0 (0 + arguments_entries a) m (write_arguments a) [] w.fits.0 (omega arith) row.1)) in
      omega arith

  module _ (field : List ℕ) {a b : ℕ} (first : EntriesAre s start a) (second : EntriesAre field 0 b) where
    new-entries : (t : Schema) → decode_schema s ≡ some t → (name : Text) (f : Field) → decode_field field ≡ some (name, f)
        → 1 + a + b ≡ schema_entries (added name f t)
    new-entries t e name f g =
        let x = sheet-entries a t e first in
        let y = field-entries field b name f g second in
        let z = added-entries name f t in
        omega arith

    pub too_many : max_schema_entries < 1 + a + b → SizeIs s field true
    unfolding is_too_large
    too_many more t e name f g =
        let n = new-entries t e name f g in
        sym (rw (lt-leb (schema_entries (added name f t)) max_schema_entries (omega arith)))

    pub few-enough : {c d : ℕ} → 1 + a + b ≤ max_schema_entries
        → c ≡ length (decimal_of h.fields.count)
        → d ≡ length (decimal_of (h.fields.count + 1))
        → SizeIs s field (ltb (max_sheet_bytes + c) (length s + length field + d))
    unfolding is_too_large
    few-enough {c} {d} few old new t e name f g =
        let n = new-entries t e name f g in
        let count = head-count s r read t e is in
        let old-digits = old ∙ ap (λ (k : ℕ). length (decimal_of k)) count in
        let new-digits = new ∙ ap (λ (k : ℕ). length (decimal_of (k + 1))) count in
        let bytes = added-bytes name f t in
        let sheet = ap length (written_of s t e) in
        let text = ap length (field-within field name f g).0 in
        let sum : length (write_schema (added name f t)) + c ≡ length s + length field + d = omega arith in
        rw (le-leb (schema_entries (added name f t)) max_schema_entries (omega arith), ← sum)
        (shifted max_sheet_bytes (length (write_schema (added name f t))) c)

pub large-sheet : (s field : List ℕ) → max_sheet_bytes < length s → SizeIs s field true
large-sheet s field more t e name f g = let b = short-of s t e in absurd (omega arith)

pub large-field : (s field : List ℕ) → max_sheet_bytes < length field → SizeIs s field true
large-field s field more t e name f g = let b = (field-limits field name f g).1 in absurd (omega arith)

pub headless : (s field : List ℕ) (r : Optional (CodeHead × ℕ)) → SchemaIs s 0 r → r ≡ None → SizeIs s field true
headless s field r read is t e name f g = headed s r read t e is
