-- The two marks of the sheet's head: each way through `arguments_mark` and `mark_place`, as a law.
use Rattle.std.specs.Prelude.{Option as Optional, Some, None}
use Prim.Native.Nat.{ℕ, ◌+◌, ◌≤◌}
use mathlib.Core.Bool.{Bool, true, false, or-true, or-false}
use mathlib.Core.List.{List, [], ◌∷◌, ◌++◌, append_assoc}
use mathlib.Core.Option.{Option, none, some, none-ne-some, some-injective}
use mathlib.Core.Path.{◌≡◌, refl, sym, ap, ◌∙◌}
use native.Mathlib.Omega.{arith}
use lib.ListN.{length, drop, set, length-append}
use borrow.Author.Tests.{ne_eqb}
use Rattle.text.specs.Ascii.{ascii}
use Rattle.text.specs.Reader.{◌>>=◌, ◌>>◌, and_then}
use Rattle.text.specs.NumeralLaws.{begins_without_digit, comma-begins}
use Rattle.text.specs.ByteReaders.{byte}
use Rattle.text.specs.ReadAt.{ReadsTo, Refuses, NumeralIs}
use Rattle.sheet.specs.Entries.{max_count, item, HolderHead, SchemaHead, schema_head}
use Rattle.sheet.specs.Pieces.{dashed}
use Rattle.sheet.specs.Write.{mark_of, write_item, write_mark, write_end, write_holder_head, write_arguments_head, write_schema_head}
use Rattle.sheet.proofs.ItemLaws.{anything, item-complete}
use Rattle.sheet.proofs.HeadLaws.{SchemaHeadFits, schema_head-exact}
use Rattle.sheet.specs.Places.{IsDashed, SchemaIs}
use Rattle.sheet.specs.declared.schema_heads.SchemaHead.{SchemaHead as CodeHead}
use Rattle.open_marks.specs.Places.{Opens, MarkAt, FieldMarkAt}
use Rattle.open_marks.proofs.Entered.{opens-past}
use Rattle.open_marks.proofs.Sheets.{opened_arguments_head, opened_schema_head, SheetMarkAt, mark-at}
use Rattle.open_marks.proofs.Bytes.{mark-written, front_length, set-mark, nothing-set}

-- The head's bytes, up to the record's mark and behind it

behind_mark : SchemaHead → List ℕ → List ℕ
behind_mark h t = write_item h.fields.count ++ (write_arguments_head h.arguments ++ (write_end ++ t))

head-parts : (h : SchemaHead) (t : List ℕ) → write_schema_head h ++ t ≡ ascii "H" ++ (write_mark h.fields.is_open ++ behind_mark h t)
unfolding write_schema_head write_holder_head behind_mark
head-parts h t = simp append_assoc

head-split : (h : SchemaHead) (t : List ℕ) → write_schema_head h ++ t ≡ 72 ∷ 44 ∷ (48 + mark_of h.fields.is_open) ∷ behind_mark h t
unfolding ascii
head-split h t = head-parts h t ∙ rw (mark-written h.fields.is_open)

-- What stays as it is

arguments-other : (entry : ℕ) (a : Option HolderHead) → (entry ≡ 0 → ⊥) → opened_arguments_head entry a ≡ a
unfolding opened_arguments_head
arguments-other entry none n = refl
arguments-other entry (some g) n = rw (ne_eqb entry 0 n, or-false g.is_open)

head-other : (entry : ℕ) (h : SchemaHead) → 2 ≤ entry → opened_schema_head entry h ≡ h
unfolding opened_schema_head
head-other entry h l =
    rw (arguments-other entry h.arguments (λ e. omega arith), ne_eqb entry 1 (λ e. omega arith), or-false h.fields.is_open)

-- The record's mark

record-opened : (h : SchemaHead) (t : List ℕ) → write_schema_head (opened_schema_head 1 h) ++ t ≡ 72 ∷ 44 ∷ 49 ∷ behind_mark h t
unfolding opened_schema_head behind_mark mark_of
record-opened h t =
    head-split (opened_schema_head 1 h) t
    ∙ rw (or-true h.fields.is_open, arguments-other 1 h.arguments (λ e. omega arith))

record-opens : (s : List ℕ) → SheetMarkAt s 1 2
record-opens s h rest after fits e o =
    ap (λ (x : List ℕ). set x 2 49) (e ∙ head-split h rest)
    ∙ sym (record-opened h rest)
    ∙ ap (λ (x : List ℕ). write_schema_head (opened_schema_head 1 h) ++ x) (opens-past (omega arith) o)

pub place-record : (s : List ℕ) {entry place : ℕ} → entry ≡ 1 → place ≡ 2 → MarkAt s entry place
place-record s e is = rw (e, is) (mark-at (record-opens s))

-- The arguments' mark

holder-split : (g : HolderHead) (t : List ℕ) → write_holder_head g ++ t ≡ 44 ∷ (48 + mark_of g.is_open) ∷ (write_item g.count ++ t)
unfolding write_holder_head
holder-split g t = append_assoc (write_mark g.is_open) (write_item g.count) t ∙ rw (mark-written g.is_open)

arguments_front : HolderHead → List ℕ
arguments_front fields = 72 ∷ 44 ∷ (48 + mark_of fields.is_open) ∷ write_item fields.count

arguments-split : (fields g : HolderHead) (t : List ℕ) → write_schema_head (record { fields = fields; arguments = some g }) ++ t
    ≡ (arguments_front fields ++ 44 ∷ []) ++ (48 + mark_of g.is_open) ∷ (write_item g.count ++ (write_end ++ t))
unfolding behind_mark write_arguments_head arguments_front
arguments-split fields g t =
    head-split (record { fields = fields; arguments = some g }) t
    ∙ rw (holder-split g (write_end ++ t), append_assoc (write_item fields.count) (44 ∷ []) ((48 + mark_of g.is_open) ∷ (write_item g.count ++ (write_end ++ t))))

arguments-opened : (fields g : HolderHead) (t : List ℕ) → write_schema_head (opened_schema_head 0 (record { fields = fields; arguments = some g })) ++ t
    ≡ (arguments_front fields ++ 44 ∷ []) ++ 49 ∷ (write_item g.count ++ (write_end ++ t))
unfolding opened_schema_head opened_arguments_head arguments_front mark_of
arguments-opened fields g t =
    rw (or-false fields.is_open, or-true g.is_open) (arguments-split fields (record { is_open = true; count = g.count }) t)

absent-same : (fields : HolderHead) → opened_schema_head 0 (record { fields = fields; arguments = none }) ≡ record { fields = fields; arguments = none }
unfolding opened_schema_head opened_arguments_head
absent-same fields = rw (or-false fields.is_open)

arguments-begin : (a : Option HolderHead) (t : List ℕ) → begins_without_digit (write_arguments_head a ++ t) ≡ true
unfolding write_arguments_head ascii
arguments-begin none t = comma-begins _
arguments-begin (some g) t = rw (holder-split g t) (comma-begins _)

dashed-digit : (b : Bool) (t : List ℕ) → dashed (44 ∷ (48 + mark_of b) ∷ t) ≡ none
unfolding dashed ◌>>◌ ◌>>=◌ and_then byte mark_of
dashed-digit true t = refl
dashed-digit false t = refl

dashed-absent : (t : List ℕ) → dashed (write_arguments_head none ++ t) ≡ some (tt, ascii ",0" ++ t)
unfolding dashed ◌>>◌ ◌>>=◌ and_then byte write_arguments_head ascii
dashed-absent t = refl

dashed-present : (g : HolderHead) (t : List ℕ) → dashed (write_arguments_head (some g) ++ t) ≡ none
unfolding write_arguments_head
dashed-present g t = ap dashed (holder-split g t) ∙ dashed-digit g.is_open _

module _ {s : List ℕ} (h : SchemaHead) (rest : List ℕ) (fits : SchemaHeadFits h) (e : s ≡ write_schema_head h ++ rest) where
  count-read : item 0 max_count (drop 3 s) ≡ some (h.fields.count, write_arguments_head h.arguments ++ (write_end ++ rest))
  unfolding behind_mark
  count-read =
      ap (λ (x : List ℕ). item 0 max_count (drop 3 x)) (e ∙ head-split h rest)
      ∙ item-complete 0 max_count h.fields.count _ (omega arith, fits.0) (arguments-begin h.arguments _)

  count-split : s ≡ arguments_front h.fields ++ (write_arguments_head h.arguments ++ (write_end ++ rest))
  unfolding behind_mark arguments_front
  count-split = e ∙ head-split h rest

  behind-count : {n behind : ℕ} → ReadsTo (item 0 max_count) s 3 n behind → drop behind s ≡ write_arguments_head h.arguments ++ (write_end ++ rest)
  behind-count {n} {behind} r =
      ap (λ (x : ℕ × List ℕ). x.1)
      (some-injective (n, drop behind s) (h.fields.count, write_arguments_head h.arguments ++ (write_end ++ rest)) (sym r.reads ∙ count-read))

mark-unnumbered : {s : List ℕ} → Refuses (item 0 max_count) s 3 → MarkAt s 0 (length s)
mark-unnumbered e = mark-at (λ h rest after fits f o. absurd (none-ne-some _ (sym e ∙ count-read h rest fits f)))

module _ {s : List ℕ} {n behind : ℕ} (r : ReadsTo (item 0 max_count) s 3 n behind) where
  absent-opens : dashed (drop behind s) ≡ some (tt, drop (behind + 2) s) → (fields : HolderHead) (a : Option HolderHead) (rest after : List ℕ)
      → SchemaHeadFits (record { fields = fields; arguments = a })
      → s ≡ write_schema_head (record { fields = fields; arguments = a }) ++ rest
      → Opens 0 2 rest after
      → set s (length s) 49 ≡ write_schema_head (opened_schema_head 0 (record { fields = fields; arguments = a })) ++ after
  absent-opens d fields none rest after fits e o =
      rw (absent-same fields) (nothing-set s (write_schema_head (record { fields = fields; arguments = none })) rest after e (opens-past (omega arith) o))
  absent-opens d fields (some g) rest after fits e o =
      absurd (none-ne-some _ (sym (ap dashed (behind-count _ rest fits e r) ∙ dashed-present g _) ∙ d))

  mark-absent : ReadsTo dashed s behind tt (behind + 2) → MarkAt s 0 (length s)
  mark-absent d = mark-at (λ h rest after fits e o. absent-opens d.reads h.fields h.arguments rest after fits e o)

  present-opens : dashed (drop behind s) ≡ none → (fields : HolderHead) (a : Option HolderHead) (rest after : List ℕ)
      → SchemaHeadFits (record { fields = fields; arguments = a })
      → s ≡ write_schema_head (record { fields = fields; arguments = a }) ++ rest
      → Opens 0 2 rest after
      → set s (behind + 1) 49 ≡ write_schema_head (opened_schema_head 0 (record { fields = fields; arguments = a })) ++ after
  present-opens d fields none rest after fits e o =
      absurd (none-ne-some _ (sym d ∙ ap dashed (behind-count _ rest fits e r) ∙ dashed-absent _))
  present-opens d fields (some g) rest after fits e o =
      let split : s ≡ (arguments_front fields ++ 44 ∷ []) ++ (48 + mark_of g.is_open) ∷ (write_item g.count ++ (write_end ++ rest)) =
      e ∙ arguments-split fields g rest in
      let front : length (arguments_front fields) ≡ behind =
      front_length s (arguments_front fields) _ behind (count-split _ rest fits e) (behind-count _ rest fits e r) r.within in
      set-mark s (arguments_front fields ++ 44 ∷ []) _ _ (behind + 1) split (omega (arith, length-append (arguments_front fields) (44 ∷ [])))
      ∙ sym (arguments-opened fields g rest)
      ∙ ap (λ (x : List ℕ). write_schema_head (opened_schema_head 0 (record { fields = fields; arguments = some g })) ++ x) (opens-past (omega arith) o)

  mark-present : {place : ℕ} → Refuses dashed s behind → place ≡ behind + 1 → MarkAt s 0 place
  mark-present d is = rw is (mark-at (λ h rest after fits e o. present-opens d h.fields h.arguments rest after fits e o))

module _ {s : List ℕ} {c : Optional (ℕ × ℕ)} (count : NumeralIs (item 0 max_count) 0 max_count s 3 c) where
  pub arguments-uncounted : c ≡ None → MarkAt s 0 (length s)
  arguments-uncounted e = mark-unnumbered (rw e at count)

  module _ {n behind : ℕ} (e : c ≡ Some (n, behind)) where
    pub arguments-absent : (at : ℕ) {d : Bool} → IsDashed s at d → d ≡ true → at ≡ behind → MarkAt s 0 (length s)
    arguments-absent at dash q is = mark-absent (rw e at count).0 (rw (q, is) at dash)

    pub arguments-present : (at : ℕ) {d : Bool} {place : ℕ} → IsDashed s at d → d ≡ false → at ≡ behind → place ≡ behind + 1 → MarkAt s 0 place
    arguments-present at dash q is there = mark-present (rw e at count).0 (rw (q, is) at dash) there

-- The fields' marks

mark-headless : {s : List ℕ} {entry : ℕ} → Refuses schema_head s 0 → MarkAt s entry (length s)
unfolding anything
mark-headless r =
    mark-at (λ h rest after fits e o. absurd (none-ne-some _ (sym r ∙ ap schema_head e ∙ schema_head-exact.complete h rest fits refl)))

field-opens : {s : List ℕ} {x : SchemaHead} {entry start place : ℕ} → ReadsTo schema_head s 0 x start → 2 ≤ entry → FieldMarkAt s start 2 entry place
    → SheetMarkAt s entry place
unfolding anything
field-opens {s} {x} {entry} {start} r l m h rest after fits e o =
    let d : drop start s ≡ rest =
    ap (λ (y : SchemaHead × List ℕ). y.1)
    (some-injective (x, drop start s) (h, rest) (sym r.reads ∙ ap schema_head e ∙ schema_head-exact.complete h rest fits refl)) in
    rw (head-other entry h l) (m.opens (write_schema_head h) rest after e (front_length s (write_schema_head h) rest start e d r.within) o)

module _ {s : List ℕ} {entry : ℕ} {r : Optional (CodeHead × ℕ)} (read : SchemaIs s 0 r) where
  pub place-headless : r ≡ None → MarkAt s entry (length s)
  place-headless e = mark-headless (rw e at read)

  pub place-field : {h : CodeHead} {start place : ℕ} → r ≡ Some (h, start) → (entry ≡ 0 → ⊥) → (entry ≡ 1 → ⊥) → FieldMarkAt s start 2 entry place → MarkAt s entry place
  place-field e no_arguments no_record m = mark-at (field-opens (rw e at read).0 (omega arith) m)

pub place-arguments : {s : List ℕ} {entry place : ℕ} → entry ≡ 0 → MarkAt s 0 place → MarkAt s entry place
place-arguments e m = rw e m
