-- A schema without a field is not larger: a removal never meets 42.
use Rattle.std.specs.Prelude.{ℕ, zero, suc, ◌/◌, ◌≤◌, Bool, false, ◌≡◌, ltb, length}
use Rattle.std.proofs.Common.{arith, length-append, ltb-true, ltb-false, le-leb}
use Rattle.text.specs.Numeral.{decimal_of}
use Rattle.text.specs.NumeralLaws.{decimal_of-one, decimal_of-last}
use Rattle.text.specs.CaseLaws.{by-test}
use Rattle.sheet.specs.Write.{write_item, write_holder_head, write_schema_head}
use Rattle.sheet.specs.Entries.{SchemaHead}
use Rattle.definition.specs.Tree.{Text, Members, Schema}
use Rattle.definition.specs.Limits.{max_sheet_bytes, max_schema_entries}
use Rattle.definition.specs.Write.{count_of_members, write_field, write_members, head_of, head_of_arguments, write_schema}
use Rattle.definition.specs.Within.{field_entries, members_entries, schema_entries, SchemaWithin}
use Rattle.field_changes.specs.Change.{numbered, without, with_fields, removed, is_too_large}
use Rattle.field_changes.proofs.NumberedLaws.{numbered-written, numbered-entries}
use Rattle.field_changes.proofs.SumLaws.{without-sum, counts-sum, entries-sum, bytes-sum}

-- fewer digits, or as many
digits-rise : (fuel a b : ℕ) → b ≤ fuel → a ≤ b → length (decimal_of a) ≤ length (decimal_of b)
digits-rise zero a b h l = let e : a ≡ b = omega arith in rw e (omega arith)
digits-rise (suc k) a b h l =
    by-test (ltb b 10)
    (λ q.
    let s = ltb-true b 10 q in
    rw (decimal_of-one b s, decimal_of-one a (omega arith)) (omega arith))
    (λ q.
    let s = ltb-false b 10 q in
    by-test (ltb a 10)
    (λ p.
    let t = ltb-true a 10 p in
    rw (decimal_of-last b s, decimal_of-one a t) (simp length-append (omega arith)))
    (λ p.
    let t = ltb-false a 10 p in
    let more = digits-rise k (a / 10) (b / 10) (omega arith) (omega arith) in
    rw (decimal_of-last b s, decimal_of-last a t) (simp length-append (omega arith))))

count_less : (name : Text) (m : Members) → count_of_members (without name m) ≤ count_of_members m
count_less name m = without-sum count_of_members (λ n g. 1) counts-sum name m

entries-less : (name : Text) (m : Members) → members_entries (without name m) ≤ members_entries m
entries-less name m = without-sum members_entries (λ n g. field_entries g) entries-sum name m

bytes-less : (name : Text) (m : Members) → length (write_members (without name m)) ≤ length (write_members m)
bytes-less name m = without-sum (λ x. length (write_members x)) (λ n g. length (write_field n g)) bytes-sum name m

head-less : (is_open : Bool) (a b : ℕ) (x : SchemaHead) → a ≤ b
    → length (write_schema_head (record { fields = record { is_open = is_open; count = a }; arguments = x.arguments }))
    ≤ length (write_schema_head (record { fields = record { is_open = is_open; count = b }; arguments = x.arguments }))
unfolding write_schema_head write_holder_head write_item
head-less is_open a b x l = let d = digits-rise b a b (omega arith) l in simp length-append (omega arith)

sheet-less : (name : Text) (t : Schema) → length (write_schema (with_fields t (without name t.fields.members))) ≤ length (write_schema t)
unfolding write_schema with_fields head_of
sheet-less name t =
    let m = t.fields.members in
    let x : SchemaHead = record { fields = record { is_open = t.fields.is_open; count = count_of_members m }; arguments = head_of_arguments t.arguments } in
    let head = head-less t.fields.is_open (count_of_members (without name m)) (count_of_members m) x (count_less name m) in
    let bytes = bytes-less name m in
    simp length-append (omega arith)

pub removed-small : (name : Text) (t : Schema) → SchemaWithin t → is_too_large (removed name t) ≡ false
unfolding is_too_large removed with_fields schema_entries
removed-small name t w =
    let u = with_fields t (without name t.fields.members) in
    let entries : schema_entries (numbered u) ≤ max_schema_entries = rw (numbered-entries u) (fewer) in
    let bytes : length (write_schema (numbered u)) ≤ max_sheet_bytes = rw (numbered-written u) shorter in
    rw (le-leb _ _ entries, le-leb _ _ bytes)
  where
    fewer : schema_entries (with_fields t (without name t.fields.members)) ≤ max_schema_entries
    fewer = let e = entries-less name t.fields.members in omega (arith, w.entries)

    shorter : length (write_schema (with_fields t (without name t.fields.members))) ≤ max_sheet_bytes
    shorter = let e = sheet-less name t in omega (arith, w.bytes)
