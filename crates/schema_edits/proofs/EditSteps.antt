-- The new sheet from parts of the old one: each way through the functions of `edit`, as a law.
use Rattle.std.specs.Prelude.{Option, Some, None}
use Prim.Native.Nat.{ℕ, ◌+◌, ◌-◌, ◌≤◌, ◌<◌}
use native.Mathlib.Omega.{arith}
use mathlib.Core.List.{List, [], ◌++◌, append_assoc}
use mathlib.Core.Option.{some}
use mathlib.Core.Path.{◌≡◌, refl, sym, ap, ap₂, ◌∙◌}
use lib.ListN.{length, take, drop, length-append, length-drop}
use lib.Seq.{sets, take_at, drop_at, take_all}
use Rattle.text.specs.Numeral.{decimal_of}
use Rattle.text.specs.Parts.{part_of}
use Rattle.sheet.specs.Places.{SchemaIs}
use Rattle.sheet.specs.declared.schema_heads.SchemaHead.{SchemaHead as CodeHead}
use Rattle.definition.specs.Tree.{Text, Field, Members, no_members, member, Schema}
use Rattle.definition.specs.Decode.{decode_schema}
use Rattle.definition.specs.Write.{count_of_members, write_members, head_of_arguments, write_arguments, write_schema}
use Rattle.definition.proofs.RisingLaws.{NoneNamed}
use Rattle.buffer.specs.Laid.{most_place, Laid}
use Rattle.buffer.specs.LaidLaws.{laid_then}
use Rattle.field_changes.specs.Change.{added, removed}
use Rattle.field_changes.specs.FieldText.{decode_field}
use Rattle.field_changes.proofs.FieldTextLaws.{field-within}
use Rattle.field_changes.specs.Place.{joined, Before}
use Rattle.field_changes.proofs.EditLaws.{sheet_of, sheet-parts, added-written, removed-written, count-joined}
use Rattle.schema_edits.specs.Place.{AllBefore, ComesAt, GoesFrom}
use Rattle.schema_edits.specs.Edit.{edited, Puts, Adds, Removes}
use Rattle.schema_edits.proofs.SheetSteps.{written_of, headed, head-count}
use Rattle.schema_edits.proofs.HeadSteps.{head_with, in_front, behind_count, head-around, front_length}

-- The parts

pub between_none : (s : List ℕ) (from end : ℕ) {r : List ℕ} → end < from → r ≡ part_of s (record { start = from; len = 0 }) → r ≡ take (end - from) (drop from s)
unfolding part_of
between_none s from end h e = let none : 0 ≡ end - from = omega arith in e ∙ ap (λ (n : ℕ). take n (drop from s)) none

pub between-some : (s : List ℕ) (from end : ℕ) {r : List ℕ} → r ≡ part_of s (record { start = from; len = end - from }) → r ≡ take (end - from) (drop from s)
unfolding part_of
between-some s from end e = e

pub edited-laid : (s : List ℕ) (count behind at end : ℕ) {b₀ b₁ b₂ b₃ b₄ b₅ field x y z : List ℕ} {o₁ o₂ o₃ o₄ o₅ : ℕ}
    → length b₀ ≤ most_place
    → x ≡ take 4 s
    → y ≡ take (at - behind) (drop behind s)
    → z ≡ take (length s - end) (drop end s)
    → Laid b₀ b₁ 0 x o₁
    → Laid b₁ b₂ o₁ (decimal_of count) o₂
    → Laid b₂ b₃ o₂ y o₃
    → Laid b₃ b₄ o₃ field o₄
    → Laid b₄ b₅ o₄ z o₅
    → Laid b₀ b₅ 0 (edited s count behind at field end) o₅
unfolding edited
edited-laid s count behind at end room e f g u v w l m =
    rw (← e, ← f, ← g)
    (laid_then room u
    (laid_then (omega (arith, u.len)) v
    (laid_then (omega (arith, u.len, v.len)) w (laid_then (omega (arith, u.len, v.len, w.len)) l m))))

-- The bytes

module _ (s F D T A R : List ℕ) (whole : s ≡ F ++ (D ++ (T ++ (A ++ R)))) (four : length F ≡ 4) where
  behind-digits : drop (4 + length D) s ≡ (T ++ A) ++ R
  behind-digits =
      ap (drop (4 + length D)) (whole ∙ sym (append_assoc F D (T ++ (A ++ R))))
      ∙ drop_at (F ++ D) (T ++ (A ++ R)) (4 + length D) (omega (arith, length-append F D))
      ∙ sym (append_assoc T A R)

  up_to : (at : ℕ) → at ≤ length s → drop at s ≡ R → take (at - (4 + length D)) (drop (4 + length D) s) ≡ T ++ A
  up_to at l e =
      let size = ap length e in
      let all = ap length behind-digits in
      ap (take (at - (4 + length D))) behind-digits
      ∙ take_at (T ++ A) R (at - (4 + length D))
      (omega (arith, length-append (T ++ A) R, length-drop at s, length-drop (4 + length D) s, length-append F (D ++ (T ++ (A ++ R))), length-append D (T ++ (A ++ R)), ap length whole))

  pub edited-parts : (D' field R' : List ℕ) (at end : ℕ) → at ≤ length s → drop at s ≡ R → drop end s ≡ R'
      → take 4 s ++ (D' ++ (take (at - (4 + length D)) (drop (4 + length D) s) ++ (field ++ take (length s - end) (drop end s))))
      ≡ F ++ (D' ++ (T ++ (A ++ (field ++ R'))))
  edited-parts D' field R' at end l e f =
      rw (up_to at l e, front, rest) (ap (λ (x : List ℕ). F ++ (D' ++ x)) (append_assoc T A (field ++ R')))
    where
      front : take 4 s ≡ F
      front = ap (take 4) whole ∙ take_at F (D ++ (T ++ (A ++ R))) 4 four

      rest : take (length s - end) (drop end s) ≡ R'
      rest = take_all (length s - end) (drop end s) (omega (arith, length-drop end s)) ∙ f

sheet-around : (n : ℕ) (t : Schema) (before after : List ℕ)
    → sheet_of n t before after
    ≡ in_front t.fields.is_open ++ (decimal_of n ++ (behind_count (head_of_arguments t.arguments) ++ (before ++ (after ++ write_arguments t.arguments))))
unfolding sheet_of head_with
sheet-around n t before after =
    let F = in_front t.fields.is_open in
    let T = behind_count (head_of_arguments t.arguments) in
    let R = before ++ (after ++ write_arguments t.arguments) in
    ap (λ (h : List ℕ). h ++ R) (head-around t.fields.is_open n (head_of_arguments t.arguments))
    ∙ append_assoc F (decimal_of n ++ T) R
    ∙ ap (λ (x : List ℕ). F ++ x) (append_assoc (decimal_of n) T R)

-- A sheet in which the bytes `text` stand for those from `at` up to `end`

edited-sheet : (s : List ℕ) (t : Schema) (n n' d at end : ℕ) (before after field after' : List ℕ)
    → s ≡ sheet_of n t before after
    → d ≡ length (decimal_of n)
    → at ≤ length s
    → drop at s ≡ after ++ write_arguments t.arguments
    → drop end s ≡ after' ++ write_arguments t.arguments
    → edited s n' (4 + d) at field end ≡ sheet_of n' t before (field ++ after')
unfolding edited
edited-sheet s t n n' d at end before after field after' e is l from to =
    let F = in_front t.fields.is_open in
    let T = behind_count (head_of_arguments t.arguments) in
    let Z = write_arguments t.arguments in
    rw is
    (edited-parts s F (decimal_of n) T before (after ++ Z) (e ∙ sheet-around n t before after) (front_length t.fields.is_open) (decimal_of n') field (after' ++ Z) at end l from to
    ∙ ap (λ (x : List ℕ). F ++ (decimal_of n' ++ (T ++ (before ++ x)))) (sym (append_assoc field after' Z))
    ∙ sym (sheet-around n' t before (field ++ after')))

all-before : (name : Text) (a : Members) → AllBefore name a → Before name a
all-before name no_members h = tt
all-before name (member n g a) h = (h.0.0, all-before name a h.1)

none_before : (name : Text) (a : Members) → AllBefore name a → NoneNamed name a
none_before name no_members h = tt
none_before name (member n g a) h = (h.0.1, none_before name a h.1)

module _ (s : List ℕ) (t : Schema) (e : decode_schema s ≡ some t) (d : ℕ) (is : d ≡ length (decimal_of (count_of_members t.fields.members))) where
  edited-added : (at : ℕ) (field : List ℕ) (name : Text) (f : Field) → decode_field field ≡ some (name, f) → ComesAt s at name t
      → edited s (count_of_members t.fields.members + 1) (4 + d) at field at ≡ write_schema (added name f t)
  edited-added at field name f g c =
      let p = c.place in
      let q = p.parted in
      let text = (field-within field name f g).0 in
      let count = ap count_of_members q.parts in
      ap (λ (n : ℕ). edited s (n + 1) (4 + d) at field at) count
      ∙ edited-sheet s t (count_of_members (joined p.a p.b)) (count_of_members (joined p.a p.b) + 1) d at at (write_members p.a) (write_members p.b) field (write_members p.b)
      (written_of s t e ∙ sheet-parts name f t p.a p.b q.parts) (is ∙ ap (λ (n : ℕ). length (decimal_of n)) count) q.within q.bytes q.bytes
      ∙ ap (λ (x : List ℕ). sheet_of (count_of_members (joined p.a p.b) + 1) t (write_members p.a) (x ++ write_members p.b)) text
      ∙ sym (added-written name f t p.a p.b q.parts (all-before name p.a q.before) p.starts)

  gone-count : (name : Text) (at end : ℕ) → (c : GoesFrom s at end name t)
      → count_of_members t.fields.members ≡ count_of_members (joined c.place.a c.place.b) + 1
  gone-count name at end c = let p = c.place in ap count_of_members p.parted.parts ∙ count-joined name p.f p.a p.b

  edited-removed : (at end : ℕ) (name : Text) → GoesFrom s at end name t
      → edited s (count_of_members t.fields.members - 1) (4 + d) at [] end ≡ write_schema (removed name t)
  unfolding write_members
  edited-removed at end name c =
      let p = c.place in
      let q = p.parted in
      let n = count_of_members (joined p.a p.b) in
      let one : count_of_members t.fields.members - 1 ≡ n = omega (arith, gone-count name at end c) in
      ap (λ (k : ℕ). edited s k (4 + d) at [] end) one
      ∙ edited-sheet s t (count_of_members (joined p.a (member name p.f p.b))) n d at end (write_members p.a) (write_members (member name p.f p.b)) [] (write_members p.b)
      (written_of s t e ∙ sheet-parts name p.f t p.a (member name p.f p.b) q.parts) (is ∙ ap (λ (m : Members). length (decimal_of (count_of_members m))) q.parts) q.within q.bytes p.behind
      ∙ sym (removed-written name p.f t p.a p.b q.parts (none_before name p.a q.before))

-- What is written

puts-laid : {before after bytes : List ℕ} {t : Schema} {next : ℕ} → length before ≤ most_place → bytes ≡ write_schema t → Laid before after 0 bytes next
    → length (write_schema t) ≤ length before
    → Puts before after t next
puts-laid {before} {after} {bytes} {t} {next} room e l fits =
    let size = ap length e in
    record {
      stands = l.stands (omega arith) ∙ ap (sets before 0) e;
      ends = omega (arith, l.ends);
    }

module _ (s : List ℕ) (r : Option (CodeHead × ℕ)) (read : SchemaIs s 0 r) where
  pub adds-headless : {b field : List ℕ} {at : ℕ} → r ≡ None → Adds b b s at field 0
  adds-headless is = record { len = refl; puts = λ t e. headed s r read t e is }

  pub removes-headless : {b : List ℕ} {at end : ℕ} → r ≡ None → Removes b b s at end 0
  removes-headless is = record { len = refl; puts = λ t e. headed s r read t e is }

  module _ {h : CodeHead} {start d : ℕ} (is : r ≡ Some (h, start)) (digits : d ≡ length (decimal_of h.fields.count)) where
    counted : (t : Schema) → decode_schema s ≡ some t → d ≡ length (decimal_of (count_of_members t.fields.members))
    counted t e = digits ∙ ap (λ (n : ℕ). length (decimal_of n)) (head-count s r read t e is)

    pub adds-laid : {before after field : List ℕ} {n behind at next : ℕ}
        → Laid before after 0 (edited s n behind at field at) next
        → length before ≤ most_place
        → n ≡ h.fields.count + 1
        → behind ≡ 4 + d
        → Adds before after s at field next
    adds-laid {field = field} {at = at} l room more place =
        record {
          len = l.len;
          puts = λ t e name f g c fits.
              puts-laid room
              (ap₂ (λ (n b : ℕ). edited s n b at field at) (more ∙ ap (λ (n : ℕ). n + 1) (head-count s r read t e is)) place
              ∙ edited-added s t e d (counted t e) at field name f g c)
              l fits;
        }

    pub removes-laid : {before after field : List ℕ} {n behind at end next : ℕ}
        → Laid before after 0 (edited s n behind at field end) next
        → field ≡ take (at - at) (drop at s)
        → length before ≤ most_place
        → n ≡ h.fields.count - 1
        → behind ≡ 4 + d
        → Removes before after s at end next
    removes-laid {n = k} {behind = behind} {at = at} {end = end} l none room less place =
        let no_bytes : at - at ≡ 0 = omega arith in
        let nothing : take (at - at) (drop at s) ≡ [] = rw no_bytes in
        record {
          len = l.len;
          puts = λ t e name c fits.
              puts-laid room
              (ap (λ (x : List ℕ). edited s k behind at x end) (none ∙ nothing)
              ∙ ap₂ (λ (n b : ℕ). edited s n b at [] end) (less ∙ ap (λ (n : ℕ). n - 1) (head-count s r read t e is)) place
              ∙ edited-removed s t e d (counted t e) at end name c)
              l fits;
        }

  pub removes-none : {h : CodeHead} {start : ℕ} {b : List ℕ} {at end : ℕ} → r ≡ Some (h, start) → h.fields.count ≡ 0 → Removes b b s at end 0
  removes-none {at = at} {end = end} is zero-count =
      record { len = refl; puts = λ t e name c fits. absurd (omega (arith, gone-count s t e (length (decimal_of (count_of_members t.fields.members))) refl name at end c, head-count s r read t e is)) }
