-- Laws of conditions that values follow, and no conditions: read by their operator, its number and the end of the line.
use Prim.Native.Nat.{ℕ, ◌+◌, ◌*◌, ◌/◌, ◌%◌, ◌≤◌}
use mathlib.Core.Path.{◌≡◌, refl}
use mathlib.Core.Bool.{true, false, cond}
use mathlib.Core.List.{List}
use native.Mathlib.Omega.{arith}
use Rattle.text.specs.Parts.{part_of}
use Rattle.text.specs.ReadAt.{ReadsTo}
use Rattle.text.specs.declared.part.Part.{Part}
use Rattle.sheet.specs.Entries.{item}
use Rattle.sheet.specs.Operators.{Shape, shape_of, literal, many, negation, one, two, comparison, quantifier}
use Rattle.sheet.specs.Pieces.{first, condition_row, condition_from, values_after}
use Rattle.sheet.specs.Places.{LastTextIs, PlainRead, PlainIs, operand_count, condition_count}
use Rattle.sheet.specs.declared.rule_heads.ConditionRow.{ConditionRow}
use Rattle.sheet.proofs.Heads.{condition-reads, condition-code}

pub no_plain : (s : List ℕ) (at : ℕ) → PlainIs s at 0
no_plain s at h = absurd (omega (arith, h))

-- such a condition has no bind, and announces those values alone
plain-shape : (op n : ℕ) (p : Part) (sh : Shape) → values_after sh ≤ 2
    → ((condition_row sh).bound ≡ false) × (operand_count (condition_from op n p sh) ≡ values_after sh) × (condition_count (condition_from op n p sh) ≡ 0)
unfolding values_after condition_row condition_from operand_count condition_count
plain-shape op n p literal h = (refl, refl, refl)
plain-shape op n p many h = absurd (omega (arith, h))
plain-shape op n p negation h = absurd (omega (arith, h))
plain-shape op n p one h = (refl, refl, refl)
plain-shape op n p two h = (refl, refl, refl)
plain-shape op n p comparison h = (refl, refl, refl)
plain-shape op n p quantifier h = absurd (omega (arith, h))

module _ {s : List ℕ} {at a op : ℕ} (o : ReadsTo (first 67 1 21) s at op a) (sh : Shape) (is : sh ≡ shape_of op) (row : ConditionRow) (its : row ≡ condition_row sh)
    (values : ℕ) (follow : values ≡ values_after sh) (few : values ≤ 2) {n end : ℕ} (m : ReadsTo (item row.least row.most) s a n end) (text : LastTextIs 0 s end true)
  where
    abbrev bind : Part
    bind = record { start = end + 1; len = 0 }

    plain-read : PlainRead s at (end + 1 + 0 + 1) values
    unfolding part_of
    plain-read =
        let shape = plain-shape op n bind sh (rw (← follow) few) in
        let size : 0 ≡ cond row.bound n 0 = rw (its, shape.0) in
        record {
          head = condition_from op n bind sh;
          reads = rw (← condition-code s op n bind sh) (condition-reads o sh is row its m 0 size text);
          operands = rw follow shape.1;
          alone = shape.2;
        }

    pub plain-reads : PlainIs s at ((end + 2) * 4 + values)
    plain-reads h =
        let place : ((end + 2) * 4 + values) / 4 ≡ end + 1 + 0 + 1 = omega arith in
        let count : ((end + 2) * 4 + values) % 4 ≡ values = omega arith in
        rw (place, count) plain-read
