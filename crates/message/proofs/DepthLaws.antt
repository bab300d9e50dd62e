-- A defect that is found after the depth was checked: the condition is not too deep, and so has no more binders than a scope holds.
use Rattle.std.specs.Prelude.{ℕ, ◌+◌, ◌≤◌, ◌<◌, Bool, true, false, not, List, [], ◌∷◌, ◌++◌, ◌≡◌, refl, leb}
use Rattle.std.proofs.Common.{arith, sym, ap, leb-true}
use Rattle.std.proofs.lemmas.Bool.{false≢true}
use Rattle.std.proofs.Math.Option.{Option, none, some}
use Rattle.text.specs.CaseLaws.{zero-not-one}
use Rattle.definition.specs.Tree.{Text, Schema, Condition, Rule, rule}
use Rattle.reference.specs.Setting.{Setting}
use Rattle.validation.specs.Check.{Question, settled, fails_if, Check, check, is_blank_text, depth, max_condition_depth, literal_checks, body, checks}
use Rattle.validation.specs.Judge.{Failure, CheckOutcome, unasked, environment, answer, answer_in, outcome, Verdict, fails_at, decide, judge_from, judge}

-- a check of a lower number passed, and the rest failed
past-check : (o : CheckOutcome) (n : ℕ) (c : Check) (v : Verdict) (passed : ℕ) (c' : Check) (why : Failure)
    → decide o n c v ≡ fails_at passed c' why
    → c.number < c'.number
    → (o ≡ none) × (v ≡ fails_at passed c' why)
unfolding decide
past-check none n c v passed c' why e l = (refl, e)
past-check (some w) n c v passed c' why e l = let same : c ≡ c' = cc in let z : c.number ≡ c'.number = ap (λ (x : Check). x.number) same in absurd (omega arith)

below : (n p : ℕ) (q : Question) (c : Check) → n < c.number → (check n p [] q).number < c.number
unfolding check
below n p q c l = l

-- the depth's own check
deep-outcome : (setting : Setting) (t : Schema) (b : Bool) → outcome setting t (check 13 2 [] (fails_if (not b) 0)) ≡ none → b ≡ true
unfolding outcome check environment answer_in answer fails_if unasked
deep-outcome setting t true e = refl
deep-outcome setting t false e = zero-not-one cc

pub deep-passed : (setting : Setting) (t : Schema) (name message : Option Text) (assert : Condition) (passed : ℕ) (c : Check) (why : Failure)
    → judge setting t (checks setting (rule name message assert)) ≡ fails_at passed c why
    → 14 ≤ c.number
    → depth assert ≤ max_condition_depth
unfolding judge checks judge_from
deep-passed setting t name message assert passed c why e l =
    let ask = outcome setting t in
    let rest = literal_checks setting assert ++ body setting [] assert in
    let named = check 11 1 [] (fails_if (is_blank_text name) 0) in
    let said = check 12 1 [] (fails_if (is_blank_text message) 0) in
    let deep = check 13 2 [] (fails_if (not (leb (depth assert) max_condition_depth)) 0) in
    let third = judge_from ask (0 + 1 + 1 + 1) rest in
    let second = decide (ask deep) (0 + 1 + 1) deep third in
    let first = decide (ask said) (0 + 1) said second in
    let a = past-check (ask named) 0 named first passed c why e (below 11 1 (fails_if (is_blank_text name) 0) c (omega arith)) in
    let b = past-check (ask said) (0 + 1) said second passed c why a.1 (below 12 1 (fails_if (is_blank_text message) 0) c (omega arith)) in
    let d = past-check (ask deep) (0 + 1 + 1) deep third passed c why b.1 (below 13 2 (fails_if (not (leb (depth assert) max_condition_depth)) 0) c (omega arith)) in
    leb-true (depth assert) max_condition_depth (deep-outcome setting t (leb (depth assert) max_condition_depth) d.0)
