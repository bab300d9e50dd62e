-- Constant marks of worked examples, from raw sheets, by computation.
use Prim.Native.Nat.{ℕ}
use mathlib.Core.List.{List, [], ◌∷◌, ◌++◌}
use mathlib.Core.Path.{◌≡◌, refl}
use Rattle.text.specs.Ascii.{ascii}
use Rattle.timestamp.specs.Order.{list_of, is_below, is_earlier}
use Rattle.definition.specs.Decode.{decode_rule}
use Rattle.validation.specs.Result.{numbers_of, result_of}
use Rattle.validation.specs.Computing.{computing}
use Rattle.validation.specs.Constant.{literal_text, literal_instant, truth_of, truth_in, constant_of, mark_of, mark_if, marks_of, marks_in, marks_if, marks_heard}
use Rattle.validation.proofs.Calls.{ask}
use Rattle.validation.proofs.Edges.{bars}

-- the number that is heard of a rule against `bars`, which has an array of integers, and its marks
unfoldable pub marks : List ℕ → ℕ × List ℕ
unfolding computing ask bars list_of is_below is_earlier literal_text literal_instant truth_of truth_in constant_of mark_of mark_if marks_of marks_in marks_if marks_heard
marks sheet = ((numbers_of (result_of (ask 1 2 bars sheet))).number, marks_heard (result_of (ask 1 2 bars sheet)) (decode_rule sheet))

-- 31 December 2023 before 1 January 2024
unfoldable pub new-year : List ℕ
new-year = ascii "C,6,0,\nV,5,10,2023-12-31\nV,5,10,2024-01-01\n"

pub record ConstantEdges : Type 0 where
  -- 29 February before 1 March: entry 2, true
  pub leap-day : marks (ascii "R,-,-,\nC,6,0,\nV,5,10,2024-02-29\nV,5,10,2024-03-01\n") ≡ (0, 5 ∷ [])
  pub leap-day-after : marks (ascii "R,-,-,\nC,7,0,\nV,5,10,2024-02-29\nV,5,10,2024-03-01\n") ≡ (0, 4 ∷ [])
  pub reversed : marks (ascii "R,-,-,\nC,6,0,\nV,5,10,2024-03-01\nV,5,10,2024-02-29\n") ≡ (0, 4 ∷ [])
  pub reversed-after : marks (ascii "R,-,-,\nC,7,0,\nV,5,10,2024-03-01\nV,5,10,2024-02-29\n") ≡ (0, 5 ∷ [])
  -- equal instants, in two spellings: neither before nor after
  pub equal : marks (ascii "R,-,-,\nC,6,0,\nV,5,10,2024-01-01\nV,5,24,2024-01-01 00:00:00.000Z\n") ≡ (0, 4 ∷ [])
  pub equal-after : marks (ascii "R,-,-,\nC,7,0,\nV,5,10,2024-01-01\nV,5,24,2024-01-01 00:00:00.000Z\n") ≡ (0, 4 ∷ [])
  -- white space at the ends is no part of an instant
  pub trimmed : marks (ascii "R,-,-,\nC,6,0,\nV,5,12, 2023-12-31 \nV,5,10,2024-01-01\n") ≡ (0, 5 ∷ [])
  -- a reference on either side
  pub reference : marks (ascii "R,-,-,\nC,6,0,\nV,5,12,$fields.bars\nV,5,10,2024-01-01\n") ≡ (0, [])
  pub reference-right : marks (ascii "R,-,-,\nC,7,0,\nV,5,10,2024-01-01\nV,5,12,$fields.bars\n") ≡ (0, [])
  -- the same texts compared otherwise
  pub compared : marks (ascii "R,-,-,\nC,18,3,\nV,5,10,2023-12-31\nV,5,10,2024-01-01\n") ≡ (0, [])
  pub less : marks (ascii "R,-,-,\nC,12,0,\nV,5,10,2023-12-31\nV,5,10,2024-01-01\n") ≡ (0, [])
  -- under `not`; under `all`, a reference between two; under `any` in an `all`; in a quantifier's body
  pub in-not : marks (ascii "R,-,-,\nC,4,0,\n" ++ new-year) ≡ (0, 7 ∷ [])
  pub in_all : marks (ascii "R,-,-,\nC,2,3,\n" ++ new-year ++ ascii "C,5,0,\nV,5,12,$fields.bars\nC,7,0,\nV,5,10,2023-12-31\nV,5,10,2024-01-01\n") ≡ (0, 7 ∷ 16 ∷ [])
  pub in-any : marks (ascii "R,-,-,\nC,2,1,\nC,3,2,\n" ++ new-year ++ new-year) ≡ (0, 9 ∷ 15 ∷ [])
  pub in_body : marks (ascii "R,-,-,\nC,20,1,b\nV,5,12,$fields.bars\n" ++ new-year) ≡ (0, 9 ∷ [])
  -- the 61st second lies before the next minute
  pub second-60 : marks (ascii "R,-,-,\nC,6,0,\nV,5,19,2016-12-31T23:58:60\nV,5,19,2016-12-31T23:59:00\n") ≡ (0, 5 ∷ [])
  pub second-60-after : marks (ascii "R,-,-,\nC,7,0,\nV,5,19,2016-12-31T23:58:60\nV,5,19,2016-12-31T23:59:00\n") ≡ (0, 4 ∷ [])
  -- the first year and the last
  pub years : marks (ascii "R,-,-,\nC,6,0,\nV,5,10,0000-01-01\nV,5,10,9999-12-31\n") ≡ (0, 5 ∷ [])
  -- one nanosecond
  pub nanosecond : marks (ascii "R,-,-,\nC,7,0,\nV,5,29,2024-01-01T00:00:00.000000001\nV,5,10,2024-01-01\n") ≡ (0, 5 ∷ [])
  -- after a constant condition, one that can't be read: not accepted, no marks
  pub defect-behind : marks (ascii "R,-,-,\nC,2,2,\n" ++ new-year ++ ascii "C,5,0,\nV,5,10,$fields.no\n") ≡ (18, [])
  pub no-instant : marks (ascii "R,-,-,\nC,6,0,\nV,5,10,2023-02-29\nV,5,10,2024-01-01\n") ≡ (20, [])
  -- a template has no conditions
  pub in-template : marks (ascii "T\nV,5,10,2024-01-01\n") ≡ (0, [])

pub constant-edges : ConstantEdges
unfolding marks new-year
constant-edges =
    record {
      leap-day = refl;
      leap-day-after = refl;
      reversed = refl;
      reversed-after = refl;
      equal = refl;
      equal-after = refl;
      trimmed = refl;
      reference = refl;
      reference-right = refl;
      compared = refl;
      less = refl;
      in-not = refl;
      in_all = refl;
      in-any = refl;
      in_body = refl;
      second-60 = refl;
      second-60-after = refl;
      years = refl;
      nanosecond = refl;
      defect-behind = refl;
      no-instant = refl;
      in-template = refl;
    }
