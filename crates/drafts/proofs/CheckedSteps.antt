-- The rules that are marked, one by one: what is put, and what is still to be put, make all records.
use Rattle.std.specs.Prelude.{Option}
use Prim.Native.Nat.{ℕ, zero, suc, ◌+◌, ◌*◌, ◌/◌, ◌≤◌, ◌<◌}
use native.Mathlib.Omega.{arith}
use mathlib.Core.Bool.{Bool, true, false, cond, ◌||◌, false≢true}
use mathlib.Core.List.{List, [], ◌∷◌, ◌++◌}
use mathlib.Core.Path.{◌≡◌, refl, sym, ap, ap₂, ◌∙◌}
use lib.Dec.{eqb, leb, ltb}
use lib.ListN.{length, take, drop, get_or, set, length-drop, drop_of_length-le}
use lib.Seq.{sets, drop-cons, drop-drop, drop-set-lt, set-get_or, length-take-le}
use borrow.Author.Tests.{eq-eqb, ne_eqb, ltb-true, ltb-false, leb-true}
use Rattle.text.specs.CaseLaws.{by-test}
use Rattle.text.specs.Utf8.{is_utf8}
use Rattle.text.proofs.Bools.{and-true-0}
use Rattle.buffer.specs.BytesLaws.{bytes-length}
use Rattle.buffer.specs.WroteLaws.{sets-append}
use Rattle.definition.specs.Limits.{max_rule_entries}
use Rattle.rule.specs.Read.{Kept}
use Rattle.validation.specs.Result.{path_bytes, max_label_bytes, KeptFrom}
use Rattle.validation.proofs.RefusalLaws.{is_set}
use Rattle.validation.proofs.KeptLaws.{kept-both}
use Rattle.single_check.specs.SheetLaws.{still_read}
use Rattle.drafts.specs.Lent.{LentRule, rules_lent, is_any}
use Rattle.drafts.specs.DraftCalls.{record_bytes, is_mislabelled, seven_of}
use Rattle.drafts.specs.Reading.{rule_by, LentAt, rules_from, record_in, marked_records, Readied, RuleChecked, MarkedChecked}
use Rattle.drafts.specs.declared.lent.Lent.{Lent}
use Rattle.drafts.proofs.LentSteps.{from_start, from_next, from_end}
use Rattle.drafts.proofs.MarkSteps.{front-both, front-none}
use Rattle.schema.specs.declared.read.Schema.{Schema}

-- a write before a place leaves what is there
drop_past : (xs l : List ℕ) (k : ℕ) → drop (k + length xs) (sets l k xs) ≡ drop (k + length xs) l
drop_past [] l k = refl
drop_past (x ∷ xs) l k =
    let e : k + suc (length xs) ≡ suc k + length xs = omega arith in
    rw e (drop_past xs (set l k x) (suc k) ∙ drop-set-lt (suc k + length xs) l k x (omega arith))

-- what is there, written again
sets_same : (n k : ℕ) (l : List ℕ) → sets l k (take n (drop k l)) ≡ l
sets_same zero k l = refl
sets_same (suc n) k l =
    by-test (ltb k (length l))
    (λ h. ap (λ (x : List ℕ). sets l k (take (suc n) x)) (drop-cons l k 0 (ltb-true k (length l) h)) ∙ ap (λ (x : List ℕ). sets x (suc k) (take n (drop (suc k) l))) (set-get_or l k 0) ∙ sets_same n (suc k) l)
    (λ h. ap (λ (x : List ℕ). sets l k (take (suc n) x)) (drop_of_length-le l (ltb-false k (length l) h)))

short-label : (r : LentRule) → is_mislabelled r ≡ false → length r.label ≤ max_label_bytes
unfolding is_mislabelled
short-label r e = leb-true _ max_label_bytes (and-true-0 (leb (length r.label) max_label_bytes) (is_utf8 r.label) (is_set _ e))

record-bytes : (table schema : List ℕ) (r : LentRule) → length (record_in table schema r) ≡ record_bytes
unfolding record_in seven_of
record-bytes table schema r = bytes-length _

pub record CheckedSoFar (table schema : List ℕ) (read : Option Schema) (heads texts marks records₀ path₀ before : List ℕ) (i at : ℕ) (records path words : List ℕ) : Type 0 where
  pub kept : Kept before words 0 max_rule_entries
  pub size : length records ≡ length records₀
  pub size_path : length path ≡ length path₀
  pub placed : at ≤ length texts
  pub whole : Readied table schema read path₀ before
      → is_any is_mislabelled (rules_lent heads texts) ≡ false
      → sets records (record_bytes * i) (marked_records table schema (rules_from heads texts i at) (drop i marks) (drop (record_bytes * i) records₀))
      ≡ sets records₀ 0 (marked_records table schema (rules_lent heads texts) marks records₀)
  pub same : Readied table schema read path₀ before → is_any is_mislabelled (rules_lent heads texts) ≡ false → drop (record_bytes * i) records ≡ drop (record_bytes * i) records₀
  pub front : Readied table schema read path₀ before → is_any is_mislabelled (rules_lent heads texts) ≡ false → KeptFrom path_bytes path₀ path
  pub labels : is_any is_mislabelled (rules_lent heads texts) ≡ false → is_any is_mislabelled (rules_from heads texts i at) ≡ false

or-false : (x y : Bool) → (x || y) ≡ false → (x ≡ false) × (y ≡ false)
or-false true y e = absurd (false≢true (sym e))
or-false false y e = (refl, e)

module _ (table schema : List ℕ) (read : Option Schema) (heads texts marks records₀ path₀ before : List ℕ) where
  pub checked-start : CheckedSoFar table schema read heads texts marks records₀ path₀ before 0 0 records₀ path₀ before
  checked-start =
      record {
        kept = front-none before;
        size = refl;
        size_path = refl;
        placed = omega arith;
        whole = λ ready labels. ap (λ (rs : List LentRule). sets records₀ 0 (marked_records table schema rs marks records₀)) (from_start heads texts);
        same = λ ready labels. refl;
        front = λ ready labels. record { size = refl; kept = refl };
        labels = λ labels. ap (is_any is_mislabelled) (from_start heads texts) ∙ labels;
      }

  module _ {i at : ℕ} {records path words : List ℕ} {l : Lent} (k : CheckedSoFar table schema read heads texts marks records₀ path₀ before i at records path words)
      (less : i < length heads / 16) (inside : i < length marks) (room : record_bytes * (length heads / 16) ≤ length records₀) (r : LentAt heads texts i at l) where
    rest : List ℕ
    rest = marked_records table schema (rules_from heads texts (i + 1) l.end) (drop (i + 1) marks) (drop (record_bytes * (i + 1)) records₀)

    parts : marked_records table schema (rules_from heads texts i at) (drop i marks) (drop (record_bytes * i) records₀)
        ≡ cond (eqb (get_or marks i 0) 0) (take record_bytes (drop (record_bytes * i) records₀)) (record_in table schema (rule_by texts at l)) ++ rest
    unfolding marked_records rest
    parts =
        let step : i + 1 ≡ suc i = omega arith in
        let place : record_bytes * i + record_bytes ≡ record_bytes * (i + 1) = omega arith in
        ap₂ (λ (rs : List LentRule) (ms : List ℕ). marked_records table schema rs ms (drop (record_bytes * i) records₀)) (from_next heads texts i at less r) (drop-cons marks i 0 inside)
        ∙ ap₂ (λ (ms rec : List ℕ). cond (eqb (get_or marks i 0) 0) (take record_bytes (drop (record_bytes * i) records₀)) (record_in table schema (rule_by texts at l)) ++ marked_records table schema (rules_from heads texts (i + 1) l.end) ms rec)
        (ap (λ (n : ℕ). drop n marks) (sym step)) (drop-drop record_bytes (record_bytes * i) records₀ ∙ ap (λ (n : ℕ). drop n records₀) place)

    next_place : record_bytes * i + record_bytes ≡ record_bytes * (i + 1)
    next_place = omega arith

    both : is_any is_mislabelled (rules_lent heads texts) ≡ false → (is_mislabelled (rule_by texts at l) ≡ false) × (is_any is_mislabelled (rules_from heads texts (i + 1) l.end) ≡ false)
    unfolding is_any
    both labels = or-false _ _ (ap (is_any is_mislabelled) (sym (from_next heads texts i at less r)) ∙ k.labels labels)

    -- what follows the record at its place
    then-rest : (now xs : List ℕ) → length xs ≡ record_bytes → now ≡ sets records (record_bytes * i) xs → sets now (record_bytes * (i + 1)) rest ≡ sets records (record_bytes * i) (xs ++ rest)
    then-rest now xs size e =
        ap₂ (λ (l' : List ℕ) (n : ℕ). sets l' n rest) e (sym next_place ∙ ap (λ (n : ℕ). record_bytes * i + n) (sym size)) ∙ sets-append xs rest records (record_bytes * i)

    further : (now : List ℕ) → drop (record_bytes * i + record_bytes) now ≡ drop (record_bytes * i + record_bytes) records → drop (record_bytes * i) records ≡ drop (record_bytes * i) records₀
        → drop (record_bytes * (i + 1)) now ≡ drop (record_bytes * (i + 1)) records₀
    further now e f =
        ap (λ (n : ℕ). drop n now) (sym next_place)
        ∙ e
        ∙ sym (drop-drop record_bytes (record_bytes * i) records)
        ∙ ap (drop record_bytes) f
        ∙ drop-drop record_bytes (record_bytes * i) records₀
        ∙ ap (λ (n : ℕ). drop n records₀) next_place

    abbrev old : List ℕ
    old = take record_bytes (drop (record_bytes * i) records₀)

    old-size : length old ≡ record_bytes
    old-size = length-take-le record_bytes (drop (record_bytes * i) records₀) (omega (arith, length-drop (record_bytes * i) records₀))

    pub checked-kept : get_or marks i 0 ≡ 0 → CheckedSoFar table schema read heads texts marks records₀ path₀ before (i + 1) l.end records path words
    unfolding marked_records rest
    checked-kept z =
        record {
          kept = k.kept;
          size = k.size;
          size_path = k.size_path;
          placed = r.within;
          whole =
              λ ready labels.
              let again : sets records (record_bytes * i) old ≡ records = ap (λ (x : List ℕ). sets records (record_bytes * i) (take record_bytes x)) (sym (k.same ready labels)) ∙ sets_same record_bytes (record_bytes * i) records in
              let says = parts ∙ ap (λ (b : Bool). cond b old (record_in table schema (rule_by texts at l)) ++ rest) (eq-eqb _ 0 z) in
              then-rest records old old-size (sym again) ∙ ap (sets records (record_bytes * i)) (sym says) ∙ k.whole ready labels;
          same = λ ready labels. further records refl (k.same ready labels);
          front = k.front;
          labels = λ labels. (both labels).1;
        }

    pub checked-new : {records_now path_now after : List ℕ} → (get_or marks i 0 ≡ 0 → ⊥)
        → RuleChecked l texts at table schema read records records_now (record_bytes * i) path path_now words after
        → CheckedSoFar table schema read heads texts marks records₀ path₀ before (i + 1) l.end records_now path_now after
    unfolding marked_records rest
    checked-new {records_now} {path_now} {after} m done =
        let new = record_in table schema (rule_by texts at l) in
        let size = record-bytes table schema (rule_by texts at l) in
        let says = parts ∙ ap (λ (b : Bool). cond b old new ++ rest) (ne_eqb _ 0 m) in
        record {
          kept = front-both k.kept done.kept;
          size = done.size ∙ k.size;
          size_path = done.size_path ∙ k.size_path;
          placed = r.within;
          whole = λ ready labels. then-rest records_now new size (put-now ready labels).0 ∙ ap (sets records (record_bytes * i)) (sym says) ∙ k.whole ready labels;
          same =
              λ ready labels.
              further records_now
              (ap (drop (record_bytes * i + record_bytes)) (put-now ready labels).0
              ∙ ap (λ (n : ℕ). drop (record_bytes * i + n) (sets records (record_bytes * i) new)) (sym size)
              ∙ drop_past new records (record_bytes * i)
              ∙ ap (λ (n : ℕ). drop (record_bytes * i + n) records) size)
              (k.same ready labels);
          front = λ ready labels. kept-both (k.front ready labels) (put-now ready labels).1;
          labels = λ labels. (both labels).1;
        }
      where
        put-now : Readied table schema read path₀ before → is_any is_mislabelled (rules_lent heads texts) ≡ false
            → (records_now ≡ sets records (record_bytes * i) (record_in table schema (rule_by texts at l))) × KeptFrom path_bytes path path_now
        put-now ready labels =
            done.put (record { sound = ready.sound; indexed = still_read schema read k.kept ready.indexed; room = omega (arith, ready.room, k.size_path) })
            (short-label (rule_by texts at l) (both labels).0)

  pub checked-end : {i at : ℕ} {records path words : List ℕ} → CheckedSoFar table schema read heads texts marks records₀ path₀ before i at records path words → length heads / 16 ≤ i
      → MarkedChecked (rules_lent heads texts) table schema read marks records₀ records path₀ path before words
  unfolding marked_records
  checked-end {i} {at} {records} k h =
      let nothing = from_end heads texts i at h in
      record {
        kept = k.kept;
        size = k.size;
        size_path = k.size_path;
        put = λ ready labels. (ap (λ (rs : List LentRule). sets records (record_bytes * i) (marked_records table schema rs (drop i marks) (drop (record_bytes * i) records₀))) (sym nothing) ∙ k.whole ready labels, k.front ready labels);
      }
