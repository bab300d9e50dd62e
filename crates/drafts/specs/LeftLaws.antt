-- After a start and after each step every record is that of a check from the beginning, whatever the steps before it were; and a step leaves the record of a rule that does not
-- mention the field as it was.
use Rattle.std.specs.Prelude.{ℕ, zero, suc, ◌+◌, ◌*◌, ◌≤◌, ◌<◌, Bool, true, cond, ◌&&◌, ◌||◌, ◌≡◌, leb, drop, get_or}
use native.Mathlib.Omega.{arith}
use Rattle.std.proofs.Math.Bool.{false, not}
use Rattle.std.proofs.lemmas.Bool.{false≢true}
use mathlib.Core.List.{List, [], ◌∷◌, ◌++◌}
use Rattle.std.proofs.Math.Option.{Option, none, some, some-injective, none-ne-some}
use Rattle.std.proofs.Math.Path.{refl, sym, ap, ap₂}
use Rattle.std.proofs.Common.{subst, ◌∙◌, length-append, length-drop, take_at, drop_at, take-add, take-take, drop-drop, length-take-le, leb-true}
use Rattle.std.proofs.Math.ListN.{length, take}
use Rattle.std.proofs.Math.Seq.{sets}
use Rattle.text.proofs.Bools.{and-true-0, and-true-1}
use Rattle.buffer.specs.BytesLaws.{bytes-length}
use Rattle.buffer.specs.WroteLaws.{sets-front}
use Rattle.definition.specs.Limits.{max_sheet_bytes}
use Rattle.definition.specs.Tree.{Text, Field, Members, no_members, member, Schema, Rule}
use Rattle.definition.specs.Decode.{decode_schema, decode_rule}
use Rattle.definition.specs.Write.{write_schema}
use Rattle.definition.specs.Within.{SchemaWithin}
use Rattle.definition.proofs.RoundTrip.{schema-round-trip}
use Rattle.definition.proofs.RisingLaws.{NoneNamed}
use Rattle.widening.proofs.DistinctLaws.{schema-distinct}
use Rattle.validation.specs.Check.{is_none}
use Rattle.validation.specs.Result.{Answer, of_table, of_settings, are_wide, early, of_sheets, refusals, first_refusal, is_taken, checked, judged, setting_for, result_of, numbers_of}
use Rattle.validation.specs.Result as Result
use Rattle.validation.proofs.RefusalLaws.{NoneDue, present, is_set, none-due, first-none}
use Rattle.call.specs.Call.{told}
use Rattle.call.proofs.CallLaws.{heard-told}
use Rattle.field_changes.specs.Mention.{mentions}
use Rattle.field_changes.specs.Change.{is_there, is_too_large}
use Rattle.field_changes.proofs.ChangeLaws.{added-decodes, removed-decodes}
use Rattle.field_changes.specs.Draft.{OpenRule, Change, adding, removing, name_of, changed, answer_to}
use Rattle.field_changes.proofs.DraftLaws.{same-without}
use Rattle.field_changes.specs.FieldText.{decode_field, FieldWithin}
use Rattle.field_changes.proofs.FieldTextLaws.{field-within}
use Rattle.drafts.specs.Lent.{LentRule, is_any, Given, coming, going, max_field_bytes, field_lent, adding_of, change_of}
use Rattle.drafts.specs.DraftCalls.{DraftCall, StepCall, sheet_in, schema_in, record_bytes, is_unset, is_mislabelled, is_malformed, has_room, early_refusals, start_refusals, is_twice, is_missing, outgrows, of_both, change_refusals, step_refusals, single, seven_of, record_of, record_for, all_records, mentions_in, stepped_records, Drafted, start_tells, step_in, step_tells, start_answer, step_answer, AllLeft}

-- What holds where a call is not refused.

pub record Passed (c : DraftCall) : Type 0 where
  pub set : is_any is_unset c.rules ≡ false
  pub labelled : is_any is_mislabelled c.rules ≡ false
  pub room : has_room c ≡ true
  pub table : NoneDue (of_table c.table)
  pub formed : is_any is_malformed c.rules ≡ false

pub record Started (c : DraftCall) (d : Drafted) : Type 0 where
  pub passed : Passed c
  pub t : Schema
  pub reads : schema_in c ≡ some t
  pub tells : start_tells c ≡ d

pub is-started : (c : DraftCall) (d : Drafted) → start_answer c ≡ told d → Started c d
unfolding start_refusals early_refusals
is-started c d e =
    let (unrefused, same) = heard-told (start_refusals c) (start_tells c) d e in
    let (set, (labelled, (room, (few, (malformed, (unsound, (schema, (rules, done)))))))) = none-due (start_refusals c) unrefused in
    let (t, reads) = present (schema_in c) schema in
    record { passed = record { set = set; labelled = labelled; room = is_set _ room; table = (malformed, (unsound, tt)); formed = rules }; t = t; reads = reads; tells = same }

pub record Stepped (c : StepCall) (d : Drafted) : Type 0 where
  pub passed : Passed c.draft
  pub change : Change
  pub t : Schema
  pub given : change_of c.given ≡ some change
  pub reads : schema_in c.draft ≡ some t
  pub once : is_twice change t ≡ false
  pub there : is_missing change t ≡ false
  pub fits : outgrows change t ≡ false
  pub tells : d ≡ step_in c.draft (some change) (some t)

or-false : (x y : Bool) → (x || y) ≡ false → (x ≡ false) × (y ≡ false)
or-false true y e = absurd (false≢true (sym e))
or-false false y e = (refl, e)

pub is-stepped : (c : StepCall) (d : Drafted) → step_answer c ≡ told d → Stepped c d
unfolding step_refusals early_refusals change_refusals of_both step_tells
is-stepped c d e =
    let (unrefused, same) = heard-told (step_refusals c) (step_tells c) d e in
    let (set, (labelled, (room, (few, (malformed, (unsound, (both, (rules, (once, (there, (fits, done))))))))))) = none-due (step_refusals c) unrefused in
    let (field, schema) = or-false _ _ both in
    let (change, given) = present (change_of c.given) field in
    let (t, reads) = present (schema_in c.draft) schema in
    record {
      passed = record { set = set; labelled = labelled; room = is_set _ room; table = (malformed, (unsound, tt)); formed = rules };
      change = change;
      t = t;
      given = given;
      reads = reads;
      once = sym (ap₂ (of_both is_twice) given reads) ∙ once;
      there = sym (ap₂ (of_both is_missing) given reads) ∙ there;
      fits = sym (ap₂ (of_both outgrows) given reads) ∙ fits;
      tells = sym same ∙ ap₂ (step_in c.draft) given reads;
    }

-- The new sheet is well formed, and holds the changed schema.

named_none : (name : Text) (m : Members) → is_there name m ≡ false → NoneNamed name m
unfolding is_there
named_none name no_members e = tt
named_none name (member n g others) e = let (first, rest) = or-false _ _ e in (first, named_none name others rest)

-- a field that is lent well formed is within the limits
lent-within : (text : List ℕ) (x : Text × Field) → field_lent text ≡ some x → FieldWithin x.0 x.1
unfolding field_lent
lent-within text x e = go (leb (length text) max_field_bytes) e
  where
    go : (b : Bool) → cond b (decode_field text) none ≡ some x → FieldWithin x.0 x.1
    go true e = (field-within text x.0 x.1 e).1
    go false e = absurd (none-ne-some x e)

-- the change that is given is one of a field within the limits
abbrev pub ChangeWithin : Change → Type 0
ChangeWithin (adding name f) = FieldWithin name f
ChangeWithin (removing name) = Unit {0}

pub change-within : (g : Given) (c : Change) → change_of g ≡ some c → ChangeWithin c
unfolding change_of adding_of
change-within (coming text) c e = go (field_lent text) refl e
  where
    go : (o : Option (Text × Field)) → field_lent text ≡ o → adding_of o ≡ some c → ChangeWithin c
    go none d e = absurd (none-ne-some c e)
    go (some x) d e = subst ChangeWithin (some-injective _ c e) (lent-within text x d)
change-within (going name) c e = subst ChangeWithin (some-injective _ c e) tt

pub changed-decodes : (c : Change) (t : Schema) → SchemaWithin t → ChangeWithin c → is_twice c t ≡ false → outgrows c t ≡ false
    → decode_schema (write_schema (changed c t)) ≡ some (changed c t)
unfolding changed is_twice outgrows
changed-decodes (adding name f) t w g once fits = added-decodes name f t w g (named_none name t.fields.members once) fits
changed-decodes (removing name) t w g once fits = removed-decodes name t w fits

-- A rule's answer, where nothing is refused.

module _ (c : DraftCall) (r : LentRule) (set : is_unset r ≡ false) (labelled : is_mislabelled r ≡ false) (wide : are_wide c.lent ≡ true) (table : NoneDue (of_table c.table)) where
  pub single-answer : (schema : List ℕ) (t : Schema) (x : Rule) → decode_schema schema ≡ some t → decode_rule r.sheet ≡ some x
      → result_of (single c schema r) ≡ checked (setting_for (single c schema r)) r.label t x
  unfolding result_of single refusals early of_settings of_sheets is_taken is_none is_unset is_mislabelled Result.refused_or judged
  single-answer schema t x d e =
      let due : not (are_wide c.lent) ≡ false = rw wide refl in
      let unrefused = first-none (refusals (single c schema r)) (set, (labelled, (due, (refl, (table.0, (table.1.0, (rw d refl, (rw e refl, tt)))))))) in
      rw (unrefused, d, e) refl

  -- the same before and after a change of a field that it does not mention
  pub record-kept : (change : Change) (old new : List ℕ) (t : Schema)
      → decode_schema old ≡ some t
      → decode_schema new ≡ some (changed change t)
      → is_malformed r ≡ false
      → mentions_in (name_of change) (decode_rule r.sheet) ≡ false
      → record_for c old r ≡ record_for c new r
  unfolding record_for is_malformed single mentions_in answer_to
  record-kept change old new t reads anew formed silent =
      let (x, e) = present (decode_rule r.sheet) formed in
      let quiet : mentions (name_of change) x ≡ false = rw e at silent in
      let distinct = schema-distinct (changed change t) ((schema-round-trip new (changed change t)).0 anew).1.rises in
      let o : OpenRule = record { setting = setting_for (single c old r); label = r.label; rule = x } in
      ap record_of (single-answer old t x reads e ∙ same-without change t o distinct quiet ∙ sym (single-answer new (changed change t) x anew e))

-- All records.

pub record-size : (c : DraftCall) (schema : List ℕ) (r : LentRule) → length (record_for c schema r) ≡ record_bytes
unfolding record_for record_of seven_of
record-size c schema r = bytes-length _

module _ {A : Type 0} where
  -- the first elements of a list that are two lists, one after the other
  pub take-both : (n m : ℕ) (l xs ys : List A) → length xs ≡ n → take (n + m) l ≡ xs ++ ys → (take n l ≡ xs) × (take m (drop n l) ≡ ys)
  take-both n m l xs ys size e =
      let first : take n l ≡ xs = sym (take-take n (n + m) l (omega arith)) ∙ ap (take n) e ∙ take_at xs ys n size in
      let parts : take n l ++ take m (drop n l) ≡ xs ++ ys = sym (take-add n m l) ∙ e in
      let same : xs ++ take m (drop n l) ≡ xs ++ ys = ap (λ (l' : List A). l' ++ take m (drop n l)) (sym first) ∙ parts in
      (first, sym (drop_at xs (take m (drop n l)) n size) ∙ ap (drop n) same ∙ drop_at xs ys n size)

any-first : (p : LentRule → Bool) (r : LentRule) (rules : List LentRule) → is_any p (r ∷ rules) ≡ false → (p r ≡ false) × (is_any p rules ≡ false)
unfolding is_any
any-first p r rules e = or-false _ _ e

if_kept : (b : Bool) (new old : List ℕ) → (b ≡ false → old ≡ new) → cond b new old ≡ new
if_kept true new old h = refl
if_kept false new old h = h refl

module _ (c : DraftCall) (change : Change) (old new : List ℕ) (t : Schema) (reads : decode_schema old ≡ some t) (anew : decode_schema new ≡ some (changed change t))
    (wide : are_wide c.lent ≡ true) (table : NoneDue (of_table c.table)) where
  pub stepped-all : (rules : List LentRule) (records : List ℕ)
      → is_any is_unset rules ≡ false
      → is_any is_mislabelled rules ≡ false
      → is_any is_malformed rules ≡ false
      → take (record_bytes * length rules) records ≡ all_records c old rules
      → stepped_records c (name_of change) new rules records ≡ all_records c new rules
  unfolding stepped_records all_records
  stepped-all [] records set labelled formed left = refl
  stepped-all (r ∷ rules) records set labelled formed left =
      let (set₁, sets) = any-first is_unset r rules set in
      let (labelled₁, labels) = any-first is_mislabelled r rules labelled in
      let (formed₁, forms) = any-first is_malformed r rules formed in
      let size : record_bytes * length (r ∷ rules) ≡ record_bytes + record_bytes * length rules = omega arith in
      let (first, rest) = take-both record_bytes (record_bytes * length rules) records (record_for c old r) (all_records c old rules) (record-size c old r) (ap (λ (n : ℕ). take n records) (sym size) ∙ left) in
      ap₂ ◌++◌
      (if_kept (mentions_in (name_of change) (decode_rule r.sheet)) (record_for c new r) (take record_bytes records)
      (λ silent. first ∙ record-kept c r set₁ labelled₁ wide table change old new t reads anew formed₁ silent))
      (stepped-all rules (drop record_bytes records) sets labels forms rest)

-- The promises.

all-size : (c : DraftCall) (schema : List ℕ) (rules : List LentRule) → length (all_records c schema rules) ≡ record_bytes * length rules
unfolding all_records
all-size c schema [] = refl
all-size c schema (r ∷ rules) = length-append (record_for c schema r) (all_records c schema rules) ∙ omega (arith, record-size c schema r, all-size c schema rules)

roomy : (c : DraftCall) → has_room c ≡ true → (are_wide c.lent ≡ true) × (record_bytes * length c.rules ≤ length c.records)
unfolding has_room
roomy c e =
    let records = leb (record_bytes * length c.rules) (length c.records) in
    let buffer = leb max_sheet_bytes (length c.buffer) in (
      and-true-0 (are_wide c.lent) (records && buffer) e,
      leb-true _ _ (and-true-0 records buffer (and-true-1 (are_wide c.lent) (records && buffer) e)),
    )

-- a start leaves the record of each rule
pub start_left : (c : DraftCall) (d : Drafted) → start_answer c ≡ told d → AllLeft c d.schema (sets c.records 0 d.records)
unfolding start_tells
start_left c d e =
    let s = is-started c d e in
    let (wide, room) = roomy c s.passed.room in
    let size = all-size c (sheet_in c) c.rules in
    rw (← s.tells)
    (record { first = ap (λ (n : ℕ). take n (sets c.records 0 (all_records c (sheet_in c) c.rules))) (sym size) ∙ sets-front (all_records c (sheet_in c) c.rules) c.records (omega arith) })

-- and so does a step that is given the records of all rules
pub step_left : (c : StepCall) (d : Drafted)
    → step_answer c ≡ told d
    → AllLeft c.draft (sheet_in c.draft) c.draft.records
    → AllLeft c.draft d.schema (sets c.draft.records 0 d.records)
unfolding step_in schema_in
step_left c d e left =
    let s = is-stepped c d e in
    let (wide, room) = roomy c.draft s.passed.room in
    let old = sheet_in c.draft in
    let new = write_schema (changed s.change s.t) in
    let w = ((schema-round-trip old s.t).0 s.reads).1 in
    let anew = changed-decodes s.change s.t w (change-within c.given s.change s.given) s.once s.fits in
    let all = stepped-all c.draft s.change old new s.t s.reads anew wide s.passed.table c.draft.rules c.draft.records s.passed.set s.passed.labelled s.passed.formed left.first in
    let size = all-size c.draft new c.draft.rules in
    rw (s.tells, all)
    (record { first = ap (λ (n : ℕ). take n (sets c.draft.records 0 (all_records c.draft new c.draft.rules))) (sym size) ∙ sets-front (all_records c.draft new c.draft.rules) c.draft.records (omega arith) })

-- what a step leaves of one record
stepped-at : (c : DraftCall) (name : Text) (schema : List ℕ) (rules : List LentRule) (records : List ℕ) (i : ℕ) (d : LentRule)
    → i < length rules
    → record_bytes * length rules ≤ length records
    → mentions_in name (decode_rule (get_or rules i d).sheet) ≡ false
    → take record_bytes (drop (record_bytes * i) (stepped_records c name schema rules records)) ≡ take record_bytes (drop (record_bytes * i) records)
unfolding stepped_records
stepped-at c name schema [] records i d less room silent = absurd (omega arith)
stepped-at c name schema (r ∷ rules) records zero d less room silent =
    rw silent (take_at (take record_bytes records) (stepped_records c name schema rules (drop record_bytes records)) record_bytes (length-take-le record_bytes records (omega arith)))
stepped-at c name schema (r ∷ rules) records (suc i) d less room silent =
    let place : record_bytes * suc i ≡ record_bytes + record_bytes * i = omega arith in
    let one = one_size (mentions_in name (decode_rule r.sheet)) (record_for c schema r) (take record_bytes records) (record-size c schema r) (length-take-le record_bytes records (omega arith)) in
    let first : List ℕ = cond (mentions_in name (decode_rule r.sheet)) (record_for c schema r) (take record_bytes records) in
    let rest : List ℕ = stepped_records c name schema rules (drop record_bytes records) in
    rw (place, ← (drop-drop (record_bytes * i) record_bytes (first ++ rest)), drop_at first rest record_bytes one, ← (drop-drop (record_bytes * i) record_bytes records))
    (stepped-at c name schema rules (drop record_bytes records) i d (omega arith) (omega (arith, length-drop record_bytes records)) silent)
  where
    one_size : (b : Bool) (x y : List ℕ) → length x ≡ record_bytes → length y ≡ record_bytes → length (cond b x y) ≡ record_bytes
    one_size true x y p q = p
    one_size false x y p q = q

-- the record of a rule that does not mention the field stays, whatever it was
pub untouched : (c : StepCall) (d : Drafted) (change : Change) (i : ℕ) (r : LentRule)
    → step_answer c ≡ told d
    → change_of c.given ≡ some change
    → i < length c.draft.rules
    → mentions_in (name_of change) (decode_rule (get_or c.draft.rules i r).sheet) ≡ false
    → take record_bytes (drop (record_bytes * i) d.records) ≡ take record_bytes (drop (record_bytes * i) c.draft.records)
unfolding step_in
untouched c d change i r e given less silent =
    let s = is-stepped c d e in
    let same : s.change ≡ change = some-injective _ _ (sym s.given ∙ given) in
    let (wide, room) = roomy c.draft s.passed.room in
    let quiet : mentions_in (name_of s.change) (decode_rule (get_or c.draft.rules i r).sheet) ≡ false = ap (λ (x : Change). mentions_in (name_of x) (decode_rule (get_or c.draft.rules i r).sheet)) same ∙ silent in
    ap (λ (x : Drafted). take record_bytes (drop (record_bytes * i) x.records)) s.tells
    ∙ stepped-at c.draft (name_of s.change) (write_schema (changed s.change s.t)) c.draft.rules c.draft.records i r less room quiet
