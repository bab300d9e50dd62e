-- No key twice, said of a value and of what it stands for; of a tree without its numbers; and of the trees that sheets hold.
use Rattle.std.specs.Prelude.{Bool, true, false, ◌&&◌, List, ◌∷◌, ◌≡◌, refl}
use Rattle.std.proofs.Common.{ap, ap₂}
use Rattle.text.specs.Order.{none_twice}
use Rattle.json_text.specs.Distinct.{keys_of, distinct, distinct_elements, distinct_members}
use Rattle.json_text.specs.Json.{Text, Json, null, truth, number, string, array, object, Elements, no_elements, element, Members, no_members, member}
use Rattle.definition.specs.Tree.{Value, Values, no_values, value, Pairs, no_pairs, pair, Condition, literal, many, negation, one, two, comparison, quantifier, Conditions, no_conditions, condition, Rule, rule, template}
use Rattle.definition.specs.Tree as Tree
use Rattle.definition.specs.Decode as Decode
use Rattle.definition.proofs.KeyLaws.{differ-none-twice}
use Rattle.definition.specs.Within.{ValueFits, ValuesFit, PairsFit, ConditionFits, ConditionsFit, RuleFits}
use Rattle.json_rule.specs.Shape.{value_of, values_of, pairs_of}
use Rattle.json_rule.specs.Bare.{bare_value, bare_values, bare_pairs, bare_condition, bare_conditions, bare_rule}
use Rattle.json_rule.specs.Apart.{apart_value, apart_values, apart_pairs, apart_condition, apart_conditions, apart_rule}

pub both : (x y : Bool) → x ≡ true → y ≡ true → (x && y) ≡ true
both x y e f = rw (e, f)

-- Values

keys_kept : (ms : Members) → Decode.keys_of (pairs_of ms) ≡ keys_of ms
unfolding pairs_of Decode.keys_of keys_of
keys_kept no_members = refl
keys_kept (member key v others) = ap (λ (keys : List Text). key ∷ keys) (keys_kept others)

mutual
  unfolding value_of values_of pairs_of apart_value apart_values apart_pairs distinct distinct_elements distinct_members

  pub apart-json : (j : Json) → apart_value (value_of j) ≡ distinct j
  apart-json null = refl
  apart-json (truth false) = refl
  apart-json (truth true) = refl
  apart-json (number digits) = refl
  apart-json (string t) = refl
  apart-json (array vs) = apart-elements vs
  apart-json (object ms) = ap₂ ◌&&◌ (ap none_twice (keys_kept ms)) (apart-members ms)

  apart-elements : (vs : Elements) → apart_values (values_of vs) ≡ distinct_elements vs
  apart-elements no_elements = refl
  apart-elements (element v others) = ap₂ ◌&&◌ (apart-json v) (apart-elements others)

  apart-members : (ms : Members) → apart_pairs (pairs_of ms) ≡ distinct_members ms
  apart-members no_members = refl
  apart-members (member key v others) = ap₂ ◌&&◌ (apart-json v) (apart-members others)

-- The numbers of entries do not matter

bare-keys : (ps : Pairs) → Decode.keys_of (bare_pairs ps) ≡ Decode.keys_of ps
unfolding bare_pairs Decode.keys_of
bare-keys no_pairs = refl
bare-keys (pair key v others) = ap (λ (keys : List Text). key ∷ keys) (bare-keys others)

mutual
  unfolding bare_value bare_values bare_pairs apart_value apart_values apart_pairs

  apart-bare-value : (v : Value) → apart_value (bare_value v) ≡ apart_value v
  apart-bare-value (Tree.constant e type) = refl
  apart-bare-value (Tree.number e digits) = refl
  apart-bare-value (Tree.string e text) = refl
  apart-bare-value (Tree.array e vs) = apart-bare-values vs
  apart-bare-value (Tree.object e ps) = ap₂ ◌&&◌ (ap none_twice (bare-keys ps)) (apart-bare-pairs ps)

  apart-bare-values : (vs : Values) → apart_values (bare_values vs) ≡ apart_values vs
  apart-bare-values no_values = refl
  apart-bare-values (value v others) = ap₂ ◌&&◌ (apart-bare-value v) (apart-bare-values others)

  apart-bare-pairs : (ps : Pairs) → apart_pairs (bare_pairs ps) ≡ apart_pairs ps
  apart-bare-pairs no_pairs = refl
  apart-bare-pairs (pair key v others) = ap₂ ◌&&◌ (apart-bare-value v) (apart-bare-pairs others)

mutual
  unfolding bare_condition bare_conditions apart_condition apart_conditions

  apart-bare-condition : (c : Condition) → apart_condition (bare_condition c) ≡ apart_condition c
  apart-bare-condition (literal e t) = refl
  apart-bare-condition (many e op children) = apart-bare-conditions children
  apart-bare-condition (negation e child) = apart-bare-condition child
  apart-bare-condition (one e op v) = apart-bare-value v
  apart-bare-condition (two e op left right) = ap₂ ◌&&◌ (apart-bare-value left) (apart-bare-value right)
  apart-bare-condition (comparison e which left right) = ap₂ ◌&&◌ (apart-bare-value left) (apart-bare-value right)
  apart-bare-condition (quantifier e op name over body) = ap₂ ◌&&◌ (apart-bare-value over) (apart-bare-condition body)

  apart-bare-conditions : (cs : Conditions) → apart_conditions (bare_conditions cs) ≡ apart_conditions cs
  apart-bare-conditions no_conditions = refl
  apart-bare-conditions (condition c others) = ap₂ ◌&&◌ (apart-bare-condition c) (apart-bare-conditions others)

pub apart_bare : (r : Rule) → apart_rule (bare_rule r) ≡ apart_rule r
unfolding bare_rule apart_rule
apart_bare (rule name message assert) = apart-bare-condition assert
apart_bare (template v) = apart-bare-value v

-- What a sheet holds has no key twice

mutual
  unfolding apart_value apart_values apart_pairs

  value-fits : (v : Value) → ValueFits v → apart_value v ≡ true
  value-fits (Tree.constant e type) h = refl
  value-fits (Tree.number e digits) h = refl
  value-fits (Tree.string e text) h = refl
  value-fits (Tree.array e vs) h = values-fit vs h
  value-fits (Tree.object e ps) h = both _ _ (differ-none-twice ps h.0) (pairs-fit ps h.1)

  values-fit : (vs : Values) → ValuesFit vs → apart_values vs ≡ true
  values-fit no_values h = refl
  values-fit (value v others) h = both _ _ (value-fits v h.0) (values-fit others h.1)

  pairs-fit : (ps : Pairs) → PairsFit ps → apart_pairs ps ≡ true
  pairs-fit no_pairs h = refl
  pairs-fit (pair key v others) h = both _ _ (value-fits v h.1) (pairs-fit others h.2)

mutual
  unfolding apart_condition apart_conditions

  condition-fits : (c : Condition) → ConditionFits c → apart_condition c ≡ true
  condition-fits (literal e t) h = refl
  condition-fits (many e op children) h = conditions-fit children h.1
  condition-fits (negation e child) h = condition-fits child h
  condition-fits (one e op v) h = value-fits v h.1.fits
  condition-fits (two e op left right) h = both _ _ (value-fits left h.1.fits) (value-fits right h.2.fits)
  condition-fits (comparison e which left right) h = both _ _ (value-fits left h.1.fits) (value-fits right h.2.fits)
  condition-fits (quantifier e op name over body) h = both _ _ (value-fits over h.2.fits) (condition-fits body h.3)

  conditions-fit : (cs : Conditions) → ConditionsFit cs → apart_conditions cs ≡ true
  conditions-fit no_conditions h = refl
  conditions-fit (condition c others) h = both _ _ (condition-fits c h.0) (conditions-fit others h.1)

pub apart_fits : (r : Rule) → RuleFits r → apart_rule r ≡ true
unfolding apart_rule
apart_fits (rule name message assert) h = condition-fits assert h.3
apart_fits (template v) h = value-fits v h.fits
