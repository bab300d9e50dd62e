-- The operators of conditions in one table (docs/FORMAT.md, "The rule sheet"), and the words that definitions use for them.
use Rattle.std.specs.Prelude.{ℕ, ◌≤◌, Bool, true, false, cond, List, [], ◌∷◌, ◌⊎◌, ◌≡◌, leb}
use Prim.Native.String.{String}
use Rattle.text.specs.Ascii.{ascii}

-- what follows the operator of a condition
pub data Shape : Type 0 where
  -- the truth of a literal
  literal : Shape
  -- so many conditions
  many : Shape
  -- one condition
  negation : Shape
  -- one value
  one : Shape
  -- two values
  two : Shape
  -- which comparison, and two values
  comparison : Shape
  -- a bind, the `in` value and the body
  quantifier : Shape

-- how the values of a condition are taken, besides their references
pub data Taking : Type 0 where
  -- as they are
  plain : Taking
  -- the literal pass meets their numbers
  observed : Taking
  -- each is an instant
  instant : Taking
  -- each is a string
  affix : Taking

pub record Operator : Type 0 where
  pub number : ℕ
  pub name : List ℕ
  pub shape : Shape
  pub is_service : Bool
  pub taking : Taking

unfoldable pub row : ℕ → String → Shape → Bool → Taking → Operator
unfolding ascii
row number name shape is_service taking =
    record { number = number; name = ascii name; shape = shape; is_service = is_service; taking = taking }

-- those that definitions single out

abbrev pub literal_operator : ℕ
literal_operator = 1

abbrev pub not_operator : ℕ
not_operator = 4

abbrev pub exists_operator : ℕ
exists_operator = 5

abbrev pub before_operator : ℕ
before_operator = 6

abbrev pub after_operator : ℕ
after_operator = 7

abbrev pub compare_operator : ℕ
compare_operator = 18

abbrev pub truthy_operator : ℕ
truthy_operator = 19

-- numbers go from 1 to this one
abbrev pub operator_count : ℕ
operator_count = 21

unfoldable pub first_operator : Operator
unfolding row
first_operator = row literal_operator "literal" literal false plain

-- number, name, what follows, whether it is of the service, and how its values are taken
unfoldable pub operators : List Operator
unfolding row first_operator
operators =
    first_operator
    ∷ row 2 "all" many false plain
    ∷ row 3 "any" many false plain
    ∷ row not_operator "not" negation false plain
    ∷ row exists_operator "exists" one false plain
    ∷ row before_operator "before" two false instant
    ∷ row after_operator "after" two false instant
    ∷ row 8 "eq" two false observed
    ∷ row 9 "ne" two false observed
    ∷ row 10 "gt" two false observed
    ∷ row 11 "gte" two false observed
    ∷ row 12 "lt" two false observed
    ∷ row 13 "lte" two false observed
    ∷ row 14 "in" two false observed
    ∷ row 15 "contains" two false observed
    ∷ row 16 "starts_with" two false affix
    ∷ row 17 "ends_with" two false affix
    ∷ row compare_operator "compare" comparison true observed
    ∷ row truthy_operator "truthy" one true observed
    ∷ row 20 "for_all" quantifier true plain
    ∷ row operator_count "for_any" quantifier true plain
    ∷ []

-- the first row from that number on; past the last row it is the last
unfoldable pub row_in : (last : Operator) → List Operator → ℕ → Operator
row_in last [] op = last
row_in last (r ∷ rows) op = let later = row_in r rows op in cond (leb op r.number) r later

unfoldable pub operator_row : ℕ → Operator
unfolding operators row_in
operator_row op = row_in first_operator operators op

unfoldable pub shape_of : ℕ → Shape
unfolding operator_row
shape_of op = (operator_row op).shape

-- the numbers of each shape, as comparisons have them; RuleHeadLaws shows that `shape_of` says the same
abbrev pub InShape : ℕ → Shape → Type 0
InShape op literal = op ≡ literal_operator
InShape op many = (2 ≤ op) × (op ≤ 3)
InShape op negation = op ≡ not_operator
InShape op one = (op ≡ exists_operator) ⊎ (op ≡ truthy_operator)
InShape op two = (before_operator ≤ op) × (op ≤ 17)
InShape op comparison = op ≡ compare_operator
InShape op quantifier = (20 ≤ op) × (op ≤ operator_count)

unfoldable pub operator_name : ℕ → List ℕ
unfolding operator_row
operator_name op = (operator_row op).name

-- operators that exist only under service
unfoldable pub is_service_operator : ℕ → Bool
unfolding operator_row
is_service_operator op = (operator_row op).is_service

unfoldable pub takes_instants : Taking → Bool
takes_instants plain = false
takes_instants observed = false
takes_instants instant = true
takes_instants affix = false

unfoldable pub takes_affixes : Taking → Bool
takes_affixes plain = false
takes_affixes observed = false
takes_affixes instant = false
takes_affixes affix = true

unfoldable pub is_met : Taking → Bool
is_met plain = false
is_met observed = true
is_met instant = false
is_met affix = false

-- `before` and `after`
unfoldable pub is_instant_test : ℕ → Bool
unfolding operator_row takes_instants
is_instant_test op = takes_instants (operator_row op).taking

-- `starts_with` and `ends_with`
unfoldable pub is_affix : ℕ → Bool
unfolding operator_row takes_affixes
is_affix op = takes_affixes (operator_row op).taking

-- those whose values the literal pass looks into
unfoldable pub is_observed : ℕ → Bool
unfolding operator_row is_met
is_observed op = is_met (operator_row op).taking
