-- A path without its label is no longer than the rule's sheet: each part of the path is paid for by entries on the way to the defect.
use Rattle.std.specs.Prelude.{ℕ, zero, suc, ◌+◌, ◌/◌, ◌%◌, ◌≤◌, ◌<◌, Bool, cond, ◌≡◌, refl, ltb, leb, eqb}
use native.Mathlib.Omega.{arith}
use Rattle.std.proofs.Math.Bool.{true, false}
use mathlib.Core.List.{List, [], ◌∷◌, ◌++◌}
use Rattle.std.proofs.Math.Option.{Option, none, some, get_or}
use Rattle.std.proofs.Common.{ap, ◌∙◌, leb-true, leb-false}
use Rattle.std.proofs.Math.ListN.{length, length-append}
use Rattle.text.specs.Ascii.{ascii}
use Rattle.text.specs.Reader.{or_else}
use Rattle.text.specs.Numeral.{decimal_in, decimal_of}
use Rattle.text.specs.NumeralLaws.{decimal_of-begins}
use Rattle.text.specs.CaseLaws.{zero-not-one, by-test}
use Rattle.sheet.specs.Operators.{operator_name}
use Rattle.sheet.proofs.OperatorLaws.{over, alike, name-past}
use Rattle.sheet.specs.Write.{write_end, write_item, write_length, write_last, write_operator, write_type, write_rule_head, write_condition_head, write_value_head, write_key_head}
use Rattle.sheet.specs.Entries.{ConditionHead, literal_head, many_head, negation_head, one_head, two_head, comparison_head, quantifier_head, ValueHead, constant_head, number_head, string_head, array_head, object_head}
use Rattle.sheet.specs.Entries as entries
use Rattle.definition.specs.Tree.{Text, Value, constant, number, string, array, object, Values, no_values, value, Pairs, no_pairs, pair, Condition, literal, many, negation, one, two, comparison, quantifier, Conditions, no_conditions, condition, Rule, rule, template}
use Rattle.definition.specs.Write.{count_of_values, count_of_pairs, count_of_conditions, write_value, write_values, write_pairs, write_condition, write_conditions, write_rule}
use Rattle.definition.specs.Within.{ConditionFits, ConditionsFit, RuleFits, RuleWithin}
use Rattle.validation.specs.Check.{entry_of}
use Rattle.validation.specs.Location.{dotted, index, through, here_or, here_as, in_value, in_values, in_pairs, in_side, at_quantifier, in_condition, in_conditions, behind_label, path_of}

-- Numerals and indexes

decimal-length : (turns n : ℕ) (behind : List ℕ) → length (decimal_in turns n behind) ≤ turns + length behind
unfolding decimal_in
decimal-length zero n behind = omega arith
decimal-length (suc turns) n behind = by_size (decimal-length turns (n / 10) ((48 + n % 10) ∷ behind)) (ltb n 10)
  where
    by_size : length (decimal_in turns (n / 10) ((48 + n % 10) ∷ behind)) ≤ turns + length ((48 + n % 10) ∷ behind)
        → (b : Bool)
        → length (cond b ((48 + n) ∷ behind) (decimal_in turns (n / 10) ((48 + n % 10) ∷ behind))) ≤ suc turns + length behind
    by_size h true = omega arith
    by_size h false = omega arith

index-length : (k : ℕ) → length (index k) ≤ k + 3
unfolding index decimal_of ascii
index-length k = let h = decimal-length (suc k) k [] in omega (arith, length-append (decimal_in (suc k) k []) (ascii "]"))

numeral-least : (n : ℕ) → 1 ≤ length (decimal_of n)
numeral-least n = let d = decimal_of-begins n in rw d.2 (omega arith)

item-least : (n : ℕ) → 2 ≤ length (write_item n)
unfolding write_item ascii
item-least n = let h = numeral-least n in omega arith

-- Entries

last-length : (text : List ℕ) → length (write_last text) ≡ length text + 2
unfolding write_last write_end ascii
last-length text = ap suc (length-append text (10 ∷ [])) ∙ omega arith

type-least : (type n : ℕ) (text : List ℕ) → 7 ≤ length (write_type type n text)
unfolding write_type ascii
type-least type n text =
    let a = item-least type in
    let b = item-least n in
    let c = last-length text in
    simp length-append (omega arith)

operator-least : (op n : ℕ) (text : List ℕ) → 7 ≤ length (write_operator op n text)
unfolding write_operator ascii
operator-least op n text =
    let a = item-least op in
    let b = item-least n in
    let c = last-length text in
    simp length-append (omega arith)

key-least : (key : Text) → length key + 5 ≤ length (write_key_head key)
unfolding write_key_head ascii
key-least key =
    let a = item-least (length key) in
    let c = last-length key in
    simp length-append (omega arith)

length-least : (t : Option Text) → 2 ≤ length (write_length t)
unfolding write_length ascii
length-least none = omega arith
length-least (some t) = item-least (length t)

rule-least : (name message : Option Text) → 7 ≤ length (write_rule_head (entries.rule name message))
unfolding write_rule_head write_end ascii
rule-least name message =
    let a = length-least name in
    let b = length-least message in
    simp length-append (omega arith)

value-head-least : (h : ValueHead) → 7 ≤ length (write_value_head h)
unfolding write_value_head
value-head-least (constant_head type) = type-least type 0 []
value-head-least (number_head digits) = type-least 4 (length digits) digits
value-head-least (string_head t) = type-least 5 (length t) t
value-head-least (array_head count) = type-least 6 count []
value-head-least (object_head count) = type-least 7 count []

condition-head-least : (h : ConditionHead) → 7 ≤ length (write_condition_head h)
unfolding write_condition_head
condition-head-least (literal_head truth) = operator-least 1 _ []
condition-head-least (many_head op count) = operator-least op count []
condition-head-least negation_head = operator-least 4 0 []
condition-head-least (one_head op) = operator-least op 0 []
condition-head-least (two_head op) = operator-least op 0 []
condition-head-least (comparison_head which) = operator-least 18 which []
condition-head-least (quantifier_head op bind) = operator-least op (length bind) bind

value-least : (v : Value) → 7 ≤ length (write_value v)
unfolding write_value
value-least (constant e type) = value-head-least (constant_head type)
value-least (number e digits) = value-head-least (number_head digits)
value-least (string e t) = value-head-least (string_head t)
value-least (array e vs) =
    let h = value-head-least (array_head (count_of_values vs)) in
    simp length-append (omega arith)
value-least (object e pairs) =
    let h = value-head-least (object_head (count_of_pairs pairs)) in
    simp length-append (omega arith)

condition-least : (c : Condition) → 7 ≤ length (write_condition c)
unfolding write_condition
condition-least (literal e truth) = condition-head-least (literal_head truth)
condition-least (many e op children) = let h = condition-head-least (many_head op (count_of_conditions children)) in simp length-append (omega arith)
condition-least (negation e child) = let h = condition-head-least negation_head in simp length-append (omega arith)
condition-least (one e op v) = let h = condition-head-least (one_head op) in simp length-append (omega arith)
condition-least (two e op left right) = let h = condition-head-least (two_head op) in simp length-append (omega arith)
condition-least (comparison e which left right) = let h = condition-head-least (comparison_head which) in simp length-append (omega arith)
condition-least (quantifier e op bind over body) = let h = condition-head-least (quantifier_head op bind) in simp length-append (omega arith)

-- Names

short-over : (low n most : ℕ) → over (λ op. leb (length (operator_name op)) most) low n ≡ over (λ op. true) low n
    → (op : ℕ)
    → low ≤ op
    → op < low + n
    → length (operator_name op) ≤ most
short-over low n most e op l h = leb-true (length (operator_name op)) most (alike (λ op. leb (length (operator_name op)) most) (λ op. true) low n e op l h)

name-short : (op : ℕ) → length (operator_name op) ≤ 11
unfolding operator_name over
name-short op =
    by-test (leb 21 op)
    (λ q. rw (name-past op (leb-true 21 op q)) (omega arith))
    (λ q. let l = leb-false 21 op q in short-over 0 21 11 refl op (omega arith) (omega arith))

many-name : (op : ℕ) → 2 ≤ op → op ≤ 3 → length (operator_name op) ≤ 3
unfolding operator_name over
many-name op low high = short-over 2 2 3 refl op low (omega arith)

quantifier-name : (op : ℕ) → 20 ≤ op → op ≤ 21 → length (operator_name op) ≤ 7
unfolding operator_name over
quantifier-name op low high = short-over 20 2 7 refl op low (omega arith)

-- What is found, and how long it is

none-long : {R : Type 0} {p : Text} → none ≡ some p → R
none-long e = zero-not-one cc

-- a search that finds a text finds one no longer than `room`
record Short (extra room : ℕ) (o : Option Text) : Type 0 where
  short : (p : Text) → o ≡ some p → length p + extra ≤ room

none-short : {extra room : ℕ} → Short extra room none
none-short = record { short = λ p e. none-long e }

text-short : {extra room : ℕ} (t : Text) → length t + extra ≤ room → Short extra room (some t)
text-short t h = record { short = λ p e. let same : t ≡ p = cc in rw same at h }

or_short : {extra room : ℕ} (a b : Option Text) → Short extra room a → Short extra room b → Short extra room (or_else a b)
unfolding or_else
or_short none b p q = q
or_short (some t) b p q = p

own-short : {extra room : ℕ} (b : Bool) (o : Option Text) → extra ≤ room → Short extra room o → Short extra room (here_or b o)
unfolding here_or
own-short true o h q = text-short [] (omega arith)
own-short false o h q = q

here-short : {extra room : ℕ} (b : Bool) (t : Text) (o : Option Text) → length t + extra ≤ room → Short extra room o → Short extra room (here_as b t o)
unfolding here_as
here-short true t o h q = text-short t h
here-short false t o h q = q

if-short : {extra room : ℕ} (b : Bool) (x y : Option Text) → Short extra room x → Short extra room y → Short extra room (cond b x y)
if-short true x y p q = p
if-short false x y p q = q

through-short : {extra extra' room room' : ℕ} (part : Text) (o : Option Text)
    → Short extra' room' o
    → length part + room' + extra ≤ room + extra'
    → Short extra room (through part o)
unfolding through
through-short part none s h = none-short
through-short part (some t) s h =
    let small = s.short t refl in
    text-short (part ++ t) (omega (arith, length-append part t))

wider : {extra room room' : ℕ} (o : Option Text) → Short extra room o → room ≤ room' → Short extra room' o
wider o s h = record { short = λ p e. let small = s.short p e in omega arith }

dotted-length : (t : Text) → length (dotted t) ≡ length t + 1
unfolding dotted
dotted-length t = omega arith

-- an operator's part: a dot, its name and an index, or a word
module _ (op : ℕ) where
  child-length : (k : ℕ) → length (dotted (operator_name op) ++ index k) ≤ length (operator_name op) + (k + 4)
  child-length k =
      let d = dotted-length (operator_name op) in
      let i = index-length k in
      omega (arith, length-append (dotted (operator_name op)) (index k))

  word-length : (t : Text) → length (dotted (operator_name op) ++ t) ≡ length (operator_name op) + 1 + length t
  word-length t = let d = dotted-length (operator_name op) in omega (arith, length-append (dotted (operator_name op)) t)

module _ (place : ℕ) where
  mutual
    unfolding in_value write_value

    value-short : (v : Value) → Short 7 (length (write_value v)) (in_value place v)
    value-short (constant e type) = own-short (eqb e place) none (value-head-least (constant_head type)) none-short
    value-short (number e digits) = own-short (eqb e place) none (value-head-least (number_head digits)) none-short
    value-short (string e t) = own-short (eqb e place) none (value-head-least (string_head t)) none-short
    value-short (array e vs) =
        let h = value-head-least (array_head (count_of_values vs)) in
        let l = length-append (write_value_head (array_head (count_of_values vs))) (write_values vs) in
        own-short (eqb e place) (in_values place 0 vs) (omega arith) (wider (in_values place 0 vs) (values-short 0 vs) (omega arith))
    value-short (object e pairs) =
        let h = value-head-least (object_head (count_of_pairs pairs)) in
        let l = length-append (write_value_head (object_head (count_of_pairs pairs))) (write_pairs pairs) in
        own-short (eqb e place) (in_pairs place pairs) (omega arith) (wider (in_pairs place pairs) (pairs-short pairs) (omega arith))

    values-short : (k : ℕ) (vs : Values) → Short 7 (k + 3 + length (write_values vs)) (in_values place k vs)
    values-short k no_values = none-short
    values-short k (value v others) =
        let l = length-append (write_value v) (write_values others) in
        let i = index-length k in
        let m = value-least v in
        or_short (through (index k) (in_value place v)) (in_values place (k + 1) others)
        (through-short (index k) (in_value place v) (value-short v) (omega arith))
        (wider (in_values place (k + 1) others) (values-short (k + 1) others) (omega arith))

    pairs-short : (ps : Pairs) → Short 7 (length (write_pairs ps)) (in_pairs place ps)
    pairs-short no_pairs = none-short
    pairs-short (pair key v others) =
        let l = length-append (write_key_head key) (write_value v ++ write_pairs others) in
        let n = length-append (write_value v) (write_pairs others) in
        let i = key-least key in
        let d = dotted-length key in
        or_short (through (dotted key) (in_value place v)) (in_pairs place others)
        (through-short (dotted key) (in_value place v) (value-short v) (omega arith))
        (wider (in_pairs place others) (pairs-short others) (omega arith))

  side-short : (defect : ℕ) (part : Text) (v : Value) (room : ℕ)
      → length part + length (write_value v) ≤ room + 7
      → Short 0 room (in_side defect place part v)
  unfolding in_side
  side-short defect part v room h =
      if-short (eqb defect 17) (here_or (eqb (entry_of v) place) none) (through part (in_value place v))
      (own-short (eqb (entry_of v) place) none (omega arith) none-short)
      (through-short part (in_value place v) (value-short v) (omega arith))

  quantifier-short : (defect op room : ℕ) → length (operator_name op) + 1 ≤ room → length (at_quantifier defect op) + 0 ≤ room
  unfolding at_quantifier
  quantifier-short defect op room h = by-defect (leb 21 defect)
    where
      by-defect : (b : Bool) → length (cond b (dotted (operator_name op)) []) + 0 ≤ room
      by-defect true = let d = dotted-length (operator_name op) in omega arith
      by-defect false = omega arith

  mutual
    unfolding in_condition write_condition ascii

    condition-short : (defect : ℕ) (c : Condition) → ConditionFits c → Short 0 (length (write_condition c)) (in_condition defect place c)
    condition-short defect (literal e truth) fits = own-short (eqb e place) none (omega arith) none-short
    condition-short defect (many e op children) fits =
        let h = condition-head-least (many_head op (count_of_conditions children)) in
        let l = length-append (write_condition_head (many_head op (count_of_conditions children))) (write_conditions children) in
        own-short (eqb e place) _ (omega arith)
        (wider _ (conditions-short defect op (many-name op fits.0.0 fits.0.1) 0 children fits.1) (omega arith))
    condition-short defect (negation e child) fits =
        let h = condition-head-least negation_head in
        let l = length-append (write_condition_head negation_head) (write_condition child) in
        own-short (eqb e place) _ (omega arith)
        (through-short (ascii ".not") (in_condition defect place child) (condition-short defect child fits) (omega arith))
    condition-short defect (one e op v) fits =
        let h = condition-head-least (one_head op) in
        let l = length-append (write_condition_head (one_head op)) (write_value v) in
        let n = name-short op in
        let d = dotted-length (operator_name op) in
        own-short (eqb e place) _ (omega arith)
        (through-short (dotted (operator_name op)) (in_value place v) (value-short v) (omega arith))
    condition-short defect (two e op left right) fits =
        let h = condition-head-least (two_head op) in
        let l = length-append (write_condition_head (two_head op)) (write_value left ++ write_value right) in
        let m = length-append (write_value left) (write_value right) in
        let a = value-least left in
        let b = value-least right in
        let n = name-short op in
        let i = child-length op 0 in
        let j = child-length op 1 in
        own-short (eqb e place) _ (omega arith)
        (or_short _ _
        (through-short (dotted (operator_name op) ++ index 0) (in_value place left) (value-short left) (omega arith))
        (through-short (dotted (operator_name op) ++ index 1) (in_value place right) (value-short right) (omega arith)))
    condition-short defect (comparison e which left right) fits =
        let h = condition-head-least (comparison_head which) in
        let l = length-append (write_condition_head (comparison_head which)) (write_value left ++ write_value right) in
        let m = length-append (write_value left) (write_value right) in
        let a = value-least left in
        let b = value-least right in
        own-short (eqb e place) _ (omega arith)
        (or_short _ _
        (side-short defect (ascii ".compare.left") left _ (omega arith))
        (side-short defect (ascii ".compare.right") right _ (omega arith)))
    condition-short defect (quantifier e op bind over body) fits =
        let h = condition-head-least (quantifier_head op bind) in
        let l = length-append (write_condition_head (quantifier_head op bind)) (write_value over ++ write_condition body) in
        let m = length-append (write_value over) (write_condition body) in
        let a = value-least over in
        let n = quantifier-name op fits.0.0 fits.0.1 in
        let i = word-length op (ascii ".in") in
        let j = word-length op (ascii ".that") in
        here-short (eqb e place) (at_quantifier defect op) _ (quantifier-short defect op _ (omega arith))
        (or_short _ _
        (through-short (dotted (operator_name op) ++ ascii ".in") (in_value place over) (value-short over) (omega arith))
        (through-short (dotted (operator_name op) ++ ascii ".that") (in_condition defect place body) (condition-short defect body fits.3) (omega arith)))

    conditions-short : (defect op : ℕ) → length (operator_name op) ≤ 3 → (k : ℕ) (cs : Conditions)
        → ConditionsFit cs
        → Short 0 (k + 7 + length (write_conditions cs)) (in_conditions defect place op k cs)
    conditions-short defect op small k no_conditions fits = none-short
    conditions-short defect op small k (condition c others) fits =
        let l = length-append (write_condition c) (write_conditions others) in
        let i = child-length op k in
        let m = condition-least c in
        or_short _ (in_conditions defect place op (k + 1) others)
        (through-short (dotted (operator_name op) ++ index k) (in_condition defect place c) (condition-short defect c fits.0) (omega arith))
        (wider (in_conditions defect place op (k + 1) others) (conditions-short defect op small (k + 1) others fits.1) (omega arith))

  rule-short : (defect : ℕ) (r : Rule) → RuleFits r → Short 0 (length (write_rule r)) (behind_label defect place r)
  unfolding behind_label write_rule ascii
  rule-short defect (rule name message assert) fits =
      let h = rule-least name message in
      let l = length-append (write_rule_head (entries.rule name message)) (write_condition assert) in
      if-short (leb defect 12) (some []) (through (ascii ".assert") (in_condition defect place assert))
      (text-short [] (omega arith))
      (through-short (ascii ".assert") (in_condition defect place assert) (condition-short defect assert fits.3) (omega arith))
  rule-short defect (template v) fits =
      let l = length-append (write_rule_head entries.template) (write_value v) in
      record { short = λ p e. let small = (value-short v).short p e in omega arith }

-- The path fits the 32,768 bytes that a host lends, whatever the depth of the rule.
pub path-length : (label : Text) (r : Rule) (defect place : ℕ) → length label ≤ 256 → RuleWithin r → length (path_of label r defect place) ≤ 32768
unfolding path_of
path-length label r defect place small within = by_way (behind_label defect place r) (rule-short place defect r within.fits)
  where
    by_way : (o : Option Text) → Short 0 (length (write_rule r)) o → length (label ++ get_or o []) ≤ 32768
    by_way none s = omega (arith, length-append label [])
    by_way (some p) s =
        let fits = s.short p refl in
        let bytes = within.bytes in
        omega (arith, length-append label p)
