-- Calls that are lent a mark list, by computation: how long it must be, where 35 comes among the refusals, and what the list holds afterwards.
use Prim.Native.Nat.{ℕ}
use mathlib.Core.Bool.{false≢true}
use mathlib.Core.List.{List, [], ◌∷◌, ◌++◌}
use mathlib.Core.Path.{◌≡◌, refl}
use lib.ListN.{replicate}
use lib.Seq.{sets}
use Rattle.text.specs.Ascii.{ascii}
use Rattle.buffer.specs.Bytes.{little_endian, bytes_of}
use Rattle.reference.specs.Setting.{one_of}
use Rattle.reference.proofs.Tables.{stock_text}
use Rattle.validation.specs.Result.{Call, refused, refusal_numbers, Heard, refusal}
use Rattle.validation.specs.Marking.{marks_by}
use Rattle.validation.proofs.Calls.{ask, heard, accepts}
use Rattle.validation.proofs.Edges.{empty, bars, times}
use Rattle.validation.proofs.Bounds.{met, lend, label, refuses}
use Rattle.validation.proofs.TableEdges.{under_table, changed, old_alone}
use Rattle.validation.proofs.ConstantEdges.{marks, new-year}

-- the call with a mark list of so many bytes
unfoldable pub lend_marks : (bytes : ℕ) → Call → Call
lend_marks bytes c =
    record {
      asked = c.asked;
      table = c.table;
      schema = c.schema;
      lent = record { widths = c.lent.widths; marks = bytes };
    }

-- the first twelve bytes of a list of nines after the call that checks that sheet
unfoldable pub list_after : (bytes : ℕ) (sheet : List ℕ) → List ℕ
unfolding marks marks_by little_endian bytes_of lend_marks
list_after bytes sheet = sets (replicate 12 9) 0 (bytes_of (marks_by (lend_marks bytes (ask 1 2 bars sheet))))

unfoldable pub two-dates : List ℕ
two-dates = ascii "R,-,-,\n" ++ new-year

pub record MarkEdges : Type 0 where
  -- 2,048 elements of four bytes
  pub bytes-8191 : heard (lend_marks 8191 (ask 1 2 empty met)) ≡ refuses 35
  pub bytes-8192 : heard (lend_marks 8192 (ask 1 2 empty met)) ≡ accepts 4
  pub bytes-8196 : heard (lend_marks 8196 (ask 1 2 empty met)) ≡ accepts 4
  pub bytes-0 : heard (lend_marks 0 (ask 1 2 empty met)) ≡ refuses 35
  -- a template has no marks, and 35 is tried all the same
  pub template : heard (lend_marks 8191 (ask 1 2 empty (ascii "T\nV,1,0,\n"))) ≡ refuses 35
  -- in its place: after 1, 2 and 3, before 37, 38, 4 and 5
  pub settings-first : heard (lend_marks 8191 (ask 9 2 empty met)) ≡ refuses 1
  pub label-first : heard (lend_marks 8191 (lend (label 257) 32768 4096)) ≡ refuses 2
  pub path-first : heard (lend_marks 8191 (lend (label 0) 32767 4096)) ≡ refuses 3
  pub scratch-first : heard (lend_marks 8191 (lend (label 0) 32768 4095)) ≡ refuses 3
  pub before-form : heard (lend_marks 8191 (under_table (78 ∷ []) 4096 (ask 1 2 empty met))) ≡ refuses 35
  pub before-mark : heard (lend_marks 8191 (under_table old_alone 4096 (ask 1 2 empty met))) ≡ refuses 35
  pub before-schema : heard (lend_marks 8191 (ask 1 2 [] met)) ≡ refuses 35
  pub before-rule : heard (lend_marks 8191 (ask 1 2 empty [])) ≡ refuses 35
  -- it is one of the refusals
  pub refusal-35 : Heard (refused 35)
  pub no-refusal-34 : Heard (refused 34) → ⊥
  pub no-refusal-36 : Heard (refused 36) → ⊥
  -- the list: entry 2 is true; entries 3 and 6, the second false; nothing of a template, after a defect, under a refusal
  pub one-mark : list_after 8192 two-dates ≡ 5 ∷ 0 ∷ 0 ∷ 0 ∷ replicate 8 9
  pub two-marks : list_after 8192 (ascii "R,-,-,\nC,2,2,\n" ++ new-year ++ ascii "C,7,0,\nV,5,10,2023-12-31\nV,5,10,2024-01-01\n")
      ≡ 7 ∷ 0 ∷ 0 ∷ 0 ∷ 12 ∷ 0 ∷ 0 ∷ 0 ∷ replicate 4 9
  pub no-marks : list_after 8192 (ascii "R,-,-,\nC,1,1,\n") ≡ replicate 12 9
  pub of-template : list_after 8192 (ascii "T\nV,5,10,2024-01-01\n") ≡ replicate 12 9
  pub behind-defect : list_after 8192 (ascii "R,-,-,\nC,2,2,\n" ++ new-year ++ ascii "C,5,0,\nV,5,10,$fields.no\n") ≡ replicate 12 9
  pub under-35 : list_after 8191 two-dates ≡ replicate 12 9
  pub under-5 : list_after 8192 (ascii "R,-,-,\n") ≡ replicate 12 9

not-34 : Heard (refused 34) → ⊥
unfolding refusal_numbers one_of
not-34 (refusal p) = false≢true p.listed

not-36 : Heard (refused 36) → ⊥
unfolding refusal_numbers one_of
not-36 (refusal p) = false≢true p.listed

pub mark-edges : MarkEdges
unfolding heard empty bars times met lend label refuses stock_text under_table changed old_alone lend_marks list_after two-dates new-year refusal_numbers
mark-edges =
    record {
      bytes-8191 = refl;
      bytes-8192 = refl;
      bytes-8196 = refl;
      bytes-0 = refl;
      template = refl;
      settings-first = refl;
      label-first = refl;
      path-first = refl;
      scratch-first = refl;
      before-form = refl;
      before-mark = refl;
      before-schema = refl;
      before-rule = refl;
      refusal-35 = refusal {n = 35} (record { listed = refl });
      no-refusal-34 = not-34;
      no-refusal-36 = not-36;
      one-mark = refl;
      two-marks = refl;
      no-marks = refl;
      of-template = refl;
      behind-defect = refl;
      under-35 = refl;
      under-5 = refl;
    }
