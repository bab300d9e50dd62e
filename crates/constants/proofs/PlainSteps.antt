-- Conditions that have no mark, known by their operator.
use Prim.Native.Nat.{ℕ, ◌<◌, ◌≤◌}
use native.Mathlib.Omega.{arith}
use mathlib.Core.Bool.{Bool, true, false}
use mathlib.Core.List.{List, []}
use mathlib.Core.Path.{◌≡◌, refl, ◌∙◌}
use lib.Dec.{leb, eqb}
use borrow.Author.Tests.{leb-true, eqb-true}
use Rattle.sheet.specs.Operators.{is_instant_test}
use Rattle.definition.specs.Tree.{Condition, literal, many, negation, one, two, comparison, quantifier, Conditions, no_conditions, condition}
use Rattle.rule.specs.Index.{start_of, ConditionAt}
use Rattle.validation.specs.Constant.{mark_if, constant_of, literal_instant, marks_of, marks_of_conditions}
use Rattle.rule.specs.Kinds.{OperatorAt}
use Rattle.rule.specs.Nodes.{AreConditions, Behind}
use Rattle.rule.proofs.NodeSteps.{has-operator, tail_of, tail-stands, none-ends}
use Rattle.constants.specs.Marks.{PlainOperator, Plain, Unmarked}
use Rattle.constants.proofs.ConstantSteps.{none-early, none-late, other_none}

pub plain-literal : (op : ℕ) → op ≤ 1 → Plain op true
plain-literal op h = record { holds_none = λ k. omega arith; compares_none = none-early op (omega arith); walks_none = omega arith }

pub plain-exists : (op : ℕ) → Plain op (eqb op 5)
plain-exists op = by (eqb op 5) refl
  where
    by : (b : Bool) → eqb op 5 ≡ b → Plain op b
    by true e =
        let f : op ≡ 5 = eqb-true op 5 e in
        record { holds_none = λ h. omega arith; compares_none = none-early op (omega arith); walks_none = omega arith }
    by false e = tt

pub plain-late : (op last : ℕ) → 7 < op → last ≤ 19 → Plain op (leb op last)
plain-late op last late most = by (leb op last) refl
  where
    by : (b : Bool) → leb op last ≡ b → Plain op b
    by true e = record { holds_none = λ h. omega arith; compares_none = none-late op (omega arith); walks_none = omega (arith, leb-true op last e) }
    by false e = tt

module _ (rule words : List ℕ) (i : ℕ) {at op : ℕ} (start : at ≡ start_of words i) (kind : OperatorAt rule at op) (plain : PlainOperator op) where
  plain-marks : (c : Condition) → ConditionAt rule words i c → marks_of c ≡ []
  unfolding marks_of constant_of mark_if
  plain-marks (literal e truth) a = refl
  plain-marks (many e own children) a =
      let p = has-operator rule words i start kind (many e own children) a in
      absurd (omega (arith, plain.holds_none p.1, p.2))
  plain-marks (negation e child) a =
      let p = has-operator rule words i start kind (negation e child) a in
      absurd (omega (arith, plain.holds_none (omega arith)))
  plain-marks (one e own v) a = refl
  plain-marks (two e own left right) a =
      let p = has-operator rule words i start kind (two e own left right) a in
      let h : is_instant_test own ≡ false = rw p.0 at plain.compares_none in
      rw (other_none own h (literal_instant left) (literal_instant right))
  plain-marks (comparison e which left right) a = refl
  plain-marks (quantifier e own bind over body) a =
      let p = has-operator rule words i start kind (quantifier e own bind over body) a in
      absurd (omega (arith, plain.walks_none, p.1))

pub unmarked-begin : {rule words : List ℕ} {start end : ℕ} → Unmarked rule words start end start
unmarked-begin = record { forth = omega arith; rest = λ cs w. cs; stand = λ cs w. w; same = λ cs w. refl }

module _ {rule words : List ℕ} {i end at op next : ℕ} (inside : i < end) (start : at ≡ start_of words i) (kind : OperatorAt rule at op) (plain : PlainOperator op) (b : Behind words i end next) where
  tail-marks : (cs : Conditions) → AreConditions rule words i end cs → marks_of_conditions cs ≡ marks_of_conditions (tail_of cs)
  unfolding tail_of marks_of_conditions
  tail-marks no_conditions w = absurd (omega (arith, none-ends w, inside))
  tail-marks (condition c others) w = rw (plain-marks rule words i start kind plain c w.stand.0)

  pub unmarked-next : {from : ℕ} → Unmarked rule words from end i → Unmarked rule words from end next
  unmarked-next u =
      record {
        forth = omega (arith, u.forth, b.past inside);
        rest = λ cs w. tail_of (u.rest cs w);
        stand = λ cs w. tail-stands inside b (u.rest cs w) (u.stand cs w);
        same = λ cs w. u.same cs w ∙ tail-marks (u.rest cs w) (u.stand cs w);
      }
