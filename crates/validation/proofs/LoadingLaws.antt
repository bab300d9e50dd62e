-- A table that is loaded is the table of every later call that is lent the buffer.
use Rattle.std.specs.Prelude.{ℕ, Bool, true, false, not, cond, ◌||◌, List, ◌≡◌, refl, length, take, leb}
use Rattle.std.proofs.Common.{arith, ap, ◌∙◌, take_at, leb-true}
use Rattle.std.proofs.Math.Option.{none, some}
use Rattle.std.proofs.lemmas.List.Edits.{sets, sets-eq}
use Rattle.std.proofs.Math.Seq.{length-sets}
use Rattle.text.specs.CaseLaws.{zero-not-one}
use Rattle.reference.specs.Table.{table_bytes, decode_table, table_in, is_sound_table}
use Rattle.reference.proofs.TableLaws.{table-bytes, table-in}
use Rattle.validation.specs.Check.{is_none}
use Rattle.validation.specs.Result.{of_table, first_refusal, number_in}
use Rattle.validation.proofs.RefusalLaws.{first-none, present, is_set}
use Rattle.validation.specs.Loading.{load_refusals, load_number, load_after}

neither-due : (b c : Bool) → number_in (cond b (some 37) (cond c (some 38) none)) ≡ 0 → (b ≡ false) × (c ≡ false)
unfolding number_in
neither-due true c e = absurd (omega arith)
neither-due false true e = absurd (omega arith)
neither-due false false e = (refl, refl)

or-false : (b c : Bool) → (b || c) ≡ false → (b ≡ false) × (c ≡ false)
or-false true c e = (e, zero-not-one cc)
or-false false c e = (refl, e)

pub loaded : (table before : List ℕ)
    → load_number table (length before) ≡ 0
    → (table_in (load_after table before) ≡ decode_table table) × (first_refusal (of_table (load_after table before)) ≡ none)
unfolding load_number load_refusals load_after first_refusal
loaded table before e =
    let (first, second) = neither-due (is_none (decode_table table) || not (leb table_bytes (length before))) (not (is_sound_table (decode_table table))) e in
    let (form, room) = or-false (is_none (decode_table table)) (not (leb table_bytes (length before))) first in
    let (rows, decodes) = present (decode_table table) form in
    let size = table-bytes table rows decodes in
    let enough = leb-true table_bytes (length before) (is_set (leb table_bytes (length before)) room) in
    let front : take table_bytes (sets before 0 table) ≡ table =
    ap (take table_bytes) (sets-eq table before 0 (omega arith)) ∙ take_at table _ table_bytes size in
    let same : table_in (sets before 0 table) ≡ decode_table table =
    table-in (sets before 0 table) (omega (arith, length-sets before 0 table)) ∙ ap decode_table front in
    rw e (same, first-none (of_table (sets before 0 table)) (rw same (form, (second, tt))))
