-- The tables of operators and of kinds, computed: they are the lists of docs/FORMAT.md, and so are the words for groups of operators.
use Prim.Native.Nat.{ℕ}
use mathlib.Core.Bool.{Bool, cond}
use mathlib.Core.List.{List, [], ◌∷◌, ◌++◌, map}
use mathlib.Core.Path.{◌≡◌, refl}
use lib.ListN.{length}
use Rattle.sheet.specs.Operators.{literal, many, negation, one, two, comparison, quantifier, Operator, operator_count, operators, shape_of, operator_name, is_service_operator, is_instant_test, is_affix, is_observed}
use Rattle.text.specs.Ascii.{ascii}
use Rattle.text.specs.Numeral.{decimal_of}
use Rattle.sheet.specs.FieldKinds.{FieldKind, kind_count, field_kinds, kind_name}
use Rattle.sheet.specs.Computing.{computing}

unfoldable numbered : ℕ → List ℕ → List ℕ
numbered number name = decimal_of number ++ (ascii " " ++ name)

unfoldable listed : List (List ℕ) → List ℕ
listed [] = []
listed (t ∷ ts) = t ++ (ascii "; " ++ listed ts)

unfoldable those : (ℕ → Bool) → List ℕ → List ℕ
those test [] = []
those test (n ∷ ns) = let more = those test ns in cond (test n) (n ∷ more) more

unfoldable numbers : List ℕ
unfolding operators computing
numbers = map (λ (r : Operator). r.number) operators

operators-listed : listed (map (λ (r : Operator). numbered r.number r.name) operators)
    ≡ ascii "1 literal; 2 all; 3 any; 4 not; 5 exists; 6 before; 7 after; 8 eq; 9 ne; 10 gt; 11 gte; 12 lt; 13 lte; 14 in; 15 contains; 16 starts_with; 17 ends_with; 18 compare; 19 truthy; 20 for_all; 21 for_any; "
unfolding operators listed numbered computing
operators-listed = refl

operators-counted : length operators ≡ operator_count
unfolding operators
operators-counted = refl

-- each number finds its own row
operators-found : map operator_name numbers ≡ map (λ (r : Operator). r.name) operators
unfolding numbers operator_name operators
operators-found = refl

shapes : map shape_of numbers
    ≡ literal ∷ many ∷ many ∷ negation ∷ one ∷ two ∷ two ∷ two ∷ two ∷ two ∷ two ∷ two ∷ two ∷ two ∷ two ∷ two ∷ two ∷ comparison ∷ one ∷ quantifier ∷ quantifier ∷ []
unfolding numbers shape_of
shapes = refl

service : those is_service_operator numbers ≡ 18 ∷ 19 ∷ 20 ∷ 21 ∷ []
unfolding numbers those is_service_operator
service = refl

instants : those is_instant_test numbers ≡ 6 ∷ 7 ∷ []
unfolding numbers those is_instant_test
instants = refl

affixes : those is_affix numbers ≡ 16 ∷ 17 ∷ []
unfolding numbers those is_affix
affixes = refl

observed : those is_observed numbers ≡ 8 ∷ 9 ∷ 10 ∷ 11 ∷ 12 ∷ 13 ∷ 14 ∷ 15 ∷ 18 ∷ 19 ∷ []
unfolding numbers those is_observed
observed = refl

kinds-listed : listed (map (λ (k : FieldKind). numbered k.number k.name) field_kinds)
    ≡ ascii "1 string; 2 integer; 3 number; 4 boolean; 5 enum; 6 array; 7 object; 8 json; 9 ref; 10 map; 11 union; 12 binary64; "
unfolding field_kinds listed numbered computing
kinds-listed = refl

kinds-counted : length field_kinds ≡ kind_count
unfolding field_kinds
kinds-counted = refl

kinds-found : map kind_name (map (λ (k : FieldKind). k.number) field_kinds) ≡ map (λ (k : FieldKind). k.name) field_kinds
unfolding kind_name
kinds-found = refl
