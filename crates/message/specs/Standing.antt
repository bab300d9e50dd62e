-- The quantifiers whose bodies hold an entry, innermost first: how the binders around a defect are found again from its place.
use Rattle.std.specs.Prelude.{ℕ, ◌+◌, cond, List, [], ◌∷◌, leb, ltb}
use Rattle.definition.specs.Tree.{Value, Condition, literal, many, negation, one, two, comparison, quantifier, Conditions, no_conditions, condition, Rule, rule, template}
use Rattle.definition.specs.Within.{value_entries, condition_entries}
use Rattle.validation.specs.Check.{Binder}

-- the entry after a condition whose first entry is `n`
unfoldable pub behind : (n : ℕ) → Condition → ℕ
behind n c = n + condition_entries c

-- `n` is the first entry of the condition
unfoldable mutual
  pub standing : (place n : ℕ) → List Binder → Condition → List Binder
  standing place n bs (literal e truth) = bs
  standing place n bs (many e op children) = standing_in place (n + 1) bs children
  standing place n bs (negation e child) = standing place (n + 1) bs child
  standing place n bs (one e op v) = bs
  standing place n bs (two e op left right) = bs
  standing place n bs (comparison e which left right) = bs
  standing place n bs (quantifier e op bind over body) =
      let within = standing place (n + 1 + value_entries over) (record { name = bind; over = over } ∷ bs) body in
      cond (leb (n + 1 + value_entries over) place) within bs

  pub standing_in : (place n : ℕ) → List Binder → Conditions → List Binder
  standing_in place n bs no_conditions = bs
  standing_in place n bs (condition c others) =
      let here = standing place n bs c in
      let later = standing_in place (n + condition_entries c) bs others in
      cond (ltb place (n + condition_entries c)) here later

-- a rule's condition begins at entry 2
unfoldable pub standing_at : (place : ℕ) → Rule → List Binder
standing_at place (rule name message assert) = standing place 2 [] assert
standing_at place (template v) = []
