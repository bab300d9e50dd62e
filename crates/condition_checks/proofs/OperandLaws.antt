-- The operands of a condition, by the values that it has: none, one or two.
use Prim.Native.Nat.{ℕ, ◌+◌, ◌≤◌}
use native.Mathlib.Omega.{arith}
use mathlib.Core.List.{List, [], ◌++◌, append-nil}
use mathlib.Core.Logic.{◌⊎◌, inl}
use mathlib.Core.Path.{◌≡◌, refl, ap₂, ◌∙◌}
use Rattle.definition.specs.Tree.{Schema, Value, no_values, value}
use Rattle.definition.specs.Within.{value_entries, values_entries}
use Rattle.reference.specs.Setting.{Setting}
use Rattle.reference.specs.Reference.{Environment}
use Rattle.validation.specs.Check.{Binder, references, compare_side, operand}
use Rattle.validation.specs.Judge.{outcome}
use Rattle.rule.specs.Nodes.{IsValue, AreValues}
use Rattle.value_checks.specs.Verdicts.{side_detail, GoesOn}
use Rattle.value_checks.specs.Frames.{Frame, Stands, asked, asked_of, OperandsJudged}
use Rattle.value_checks.specs.declared.verdict.Side.TheVariants.{Left, Right}
use Rattle.value_checks.specs.declared.verdict.Progress.{Progress}
use Rattle.value_checks.proofs.OperandSteps.{asked-one, asked-two, asked-side}

one_value : {rule words : List ℕ} {start end : ℕ} (v : Value) → IsValue rule words start end v → AreValues rule words start end (value v no_values)
unfolding values_entries
one_value v w = record { stand = (w.stands, tt); ends = omega (arith, w.ends) }

two-values : {rule words : List ℕ} {start mid end : ℕ} (left right : Value) → IsValue rule words start mid left → IsValue rule words mid end right → AreValues rule words start end (value left (value right no_values))
unfolding values_entries
two-values {rule} {words} {start} {mid} left right w u =
    let e : mid ≡ start + value_entries left = w.ends in
    record { stand = (w.stands, (rw e at u.stands, tt)); ends = omega (arith, w.ends, u.ends) }

asked-pair : (op : ℕ) (binders : List Binder) (left right : Value) → asked_of op Left binders (value left (value right no_values)) ≡ asked op Left binders left ++ asked op Right binders right
unfolding asked_of
asked-pair op binders left right = rw (append-nil (asked op Right binders right))

module _ {f : Frame} {op start end : ℕ} {a r : Progress} where
  pub operands-none : OperandsJudged f op start end a r → (setting : Setting) (tree : Schema) (binders : List Binder) (env : Environment)
      → Stands f setting tree binders env
      → end ≡ start
      → GoesOn (outcome setting tree) a [] r
  unfolding asked_of values_entries
  operands-none p setting tree binders env s e = p.goes setting tree binders env no_values s (record { stand = tt; ends = omega arith })

  pub operands-one : (op ≡ 5) ⊎ (op ≡ 19) → OperandsJudged f op start end a r → (setting : Setting) (tree : Schema) (binders : List Binder) (env : Environment) (v : Value)
      → Stands f setting tree binders env
      → IsValue f.rule f.words start end v
      → GoesOn (outcome setting tree) a (references binders v) r
  unfolding asked_of
  operands-one h p setting tree binders env v s w =
      let e : asked_of op Left binders (value v no_values) ≡ references binders v = append-nil (asked op Left binders v) ∙ asked-one op Left binders v h in
      rw e at (p.goes setting tree binders env (value v no_values) s (one_value v w))

  pub operands-two : op ≤ 17 → OperandsJudged f op start end a r → (setting : Setting) (tree : Schema) (binders : List Binder) (env : Environment) {mid : ℕ} (left right : Value)
      → Stands f setting tree binders env
      → IsValue f.rule f.words start mid left
      → IsValue f.rule f.words mid end right
      → GoesOn (outcome setting tree) a (operand op binders left ++ operand op binders right) r
  operands-two high p setting tree binders env left right s w u =
      let e : asked_of op Left binders (value left (value right no_values)) ≡ operand op binders left ++ operand op binders right =
      asked-pair op binders left right ∙ ap₂ ◌++◌ (asked-two op Left binders left high) (asked-two op Right binders right high) in
      rw e at (p.goes setting tree binders env (value left (value right no_values)) s (two-values left right w u))

pub operands-sides : {f : Frame} {start end : ℕ} {a r : Progress} → OperandsJudged f 18 start end a r → (setting : Setting) (tree : Schema) (binders : List Binder) (env : Environment) {mid : ℕ} (left right : Value)
    → Stands f setting tree binders env
    → IsValue f.rule f.words start mid left
    → IsValue f.rule f.words mid end right
    → GoesOn (outcome setting tree) a (compare_side binders 1 left ++ compare_side binders 2 right) r
unfolding side_detail
operands-sides p setting tree binders env left right s w u =
    let e : asked_of 18 Left binders (value left (value right no_values)) ≡ compare_side binders 1 left ++ compare_side binders 2 right =
    asked-pair 18 binders left right ∙ ap₂ ◌++◌ (asked-side Left binders left) (asked-side Right binders right) in
    rw e at (p.goes setting tree binders env (value left (value right no_values)) s (two-values left right w u))

-- a value that is asked what `exists` asks is asked its references
pub value-references : {f : Frame} {start end : ℕ} {a r : Progress} → OperandsJudged f 5 start end a r → (setting : Setting) (tree : Schema) (binders : List Binder) (env : Environment) (v : Value)
    → Stands f setting tree binders env
    → IsValue f.rule f.words start end v
    → GoesOn (outcome setting tree) a (references binders v) r
value-references p = operands-one (inl refl) p
