-- Where a defect is: the path from the label to its entry, spelled as the Rust spells it (docs/FORMAT.md, "Paths").
use Rattle.std.specs.Prelude.{ℕ, ◌+◌, Bool, true, false, cond, [], ◌∷◌, ◌++◌, leb, eqb}
use Prim.Native.Char.{code}
use Rattle.std.proofs.Math.Option.{Option, none, some, map, get_or}
use Rattle.text.specs.Ascii.{ascii}
use Rattle.text.specs.Reader.{or_else}
use Rattle.text.specs.Numeral.{decimal_of}
use Rattle.sheet.specs.Operators.{operator_name}
use Rattle.definition.specs.Tree.{Text, Value, constant, number, string, array, object, Values, no_values, value, Pairs, no_pairs, pair, Condition, literal, many, negation, one, two, comparison, quantifier, Conditions, no_conditions, condition, Rule, rule, template}
use Rattle.validation.specs.Check.{entry_of}

unfoldable pub dotted : Text → Text
dotted t = code "." ∷ t

unfoldable pub index : ℕ → Text
index i = code "[" ∷ (decimal_of i ++ ascii "]")

-- the way on from a part, if the entry is in it
unfoldable pub through : Text → Option Text → Option Text
through part = map (λ (t : Text). part ++ t)

-- the way from a node to the entry `place`: none left at the node itself, else through one of its parts
unfoldable pub here_or : (is_here : Bool) → Option Text → Option Text
here_or true within = some []
here_or false within = within

unfoldable mutual
  pub in_value : (place : ℕ) → Value → Option Text
  in_value place (constant e type) = here_or (eqb e place) none
  in_value place (number e digits) = here_or (eqb e place) none
  in_value place (string e t) = here_or (eqb e place) none
  in_value place (array e vs) = here_or (eqb e place) (in_values place 0 vs)
  in_value place (object e pairs) = here_or (eqb e place) (in_pairs place pairs)

  pub in_values : (place i : ℕ) → Values → Option Text
  in_values place i no_values = none
  in_values place i (value v others) = or_else (through (index i) (in_value place v)) (in_values place (i + 1) others)

  pub in_pairs : (place : ℕ) → Pairs → Option Text
  in_pairs place no_pairs = none
  in_pairs place (pair key v others) = or_else (through (dotted key) (in_value place v)) (in_pairs place others)

-- defect 17 has the path of its condition
unfoldable pub in_side : (defect place : ℕ) → Text → Value → Option Text
in_side defect place part v =
    cond (eqb defect 17) (here_or (eqb (entry_of v) place) none) (through part (in_value place v))

-- defects 21 and 22 have the path of their quantifier
unfoldable pub at_quantifier : (defect op : ℕ) → Text
at_quantifier defect op = cond (leb 21 defect) (dotted (operator_name op)) []

unfoldable pub here_as : (is_here : Bool) → Text → Option Text → Option Text
here_as true t within = some t
here_as false t within = within

unfoldable mutual
  pub in_condition : (defect place : ℕ) → Condition → Option Text
  in_condition defect place (literal e truth) = here_or (eqb e place) none
  in_condition defect place (many e op children) = here_or (eqb e place) (in_conditions defect place op 0 children)
  in_condition defect place (negation e child) =
      here_or (eqb e place) (through (ascii ".not") (in_condition defect place child))
  in_condition defect place (one e op v) =
      here_or (eqb e place) (through (dotted (operator_name op)) (in_value place v))
  in_condition defect place (two e op left right) =
      here_or (eqb e place)
      (or_else (through (dotted (operator_name op) ++ index 0) (in_value place left))
      (through (dotted (operator_name op) ++ index 1) (in_value place right)))
  in_condition defect place (comparison e which left right) =
      here_or (eqb e place)
      (or_else (in_side defect place (ascii ".compare.left") left)
      (in_side defect place (ascii ".compare.right") right))
  in_condition defect place (quantifier e op bind over body) =
      here_as (eqb e place) (at_quantifier defect op)
      (or_else (through (dotted (operator_name op) ++ ascii ".in") (in_value place over))
      (through (dotted (operator_name op) ++ ascii ".that") (in_condition defect place body)))

  pub in_conditions : (defect place op i : ℕ) → Conditions → Option Text
  in_conditions defect place op i no_conditions = none
  in_conditions defect place op i (condition c others) =
      or_else (through (dotted (operator_name op) ++ index i) (in_condition defect place c))
      (in_conditions defect place op (i + 1) others)

-- the path after the label; defects 11 and 12 are the label's own
unfoldable pub behind_label : (defect place : ℕ) → Rule → Option Text
behind_label defect place (rule name message assert) =
    cond (leb defect 12) (some []) (through (ascii ".assert") (in_condition defect place assert))
behind_label defect place (template v) = in_value place v

unfoldable pub path_of : (label : Text) → Rule → (defect place : ℕ) → Text
path_of label r defect place = label ++ get_or (behind_label defect place r) []
