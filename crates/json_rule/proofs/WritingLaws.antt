-- A sheet tells all of a rule but the numbers of its entries: whatever its texts and counts, a reader without limits reads the rule back.
use Rattle.std.specs.Prelude.{ℕ, zero, suc, ◌+◌, ◌≤◌, Bool, true, false, cond, ◌≡◌, leb, eqb, length}
use mathlib.Core.List.{List, [], ◌∷◌, ◌++◌, append_assoc, append-nil}
use Rattle.std.proofs.Math.Option.{Option, none, some, some-injective}
use Rattle.std.proofs.Math.Path.{refl}
use Rattle.std.proofs.Common.{sym, ap, ◌∙◌, add-one, arith, le-leb}
use Rattle.text.specs.Ascii.{ascii}
use Rattle.text.specs.Reader.{Reader, ◌>>=◌, ◌>>◌, and_then, pure, refuse, either}
use Rattle.text.specs.ReaderLaws.{Reads, bind-reads, then-reads, either_first, either_second}
use Rattle.text.specs.ByteReaders.{byte, comma, letter, line_end, bytes}
use Rattle.text.specs.ByteReaderLaws.{byte-complete, bytes-complete}
use Rattle.text.specs.Numeral.{decimal}
use Rattle.text.specs.NumeralLaws.{begins_without_digit, decimal-complete, comma-begins}
use Rattle.sheet.specs.Operators.{Shape, shape_of}
use Rattle.sheet.specs.Operators as Operators
use Rattle.sheet.specs.Entries.{dash}
use Rattle.sheet.specs.Entries as Entries
use Rattle.sheet.specs.Write.{write_item, mark_of, write_length, write_text, write_end, write_last, write_rule_head, write_operator, write_condition_head, write_type, write_value_head, write_key_head}
use Rattle.sheet.proofs.ItemLaws.{dash-none, item-begins, length-begins}
use Rattle.json_text.specs.Json.{Json}
use Rattle.json_text.specs.Json as Json
use Rattle.definition.specs.Tree.{Text, Value, constant, number, string, array, object, Values, no_values, value, Pairs, no_pairs, pair, Condition, literal, many, negation, one, two, comparison, quantifier, Conditions, no_conditions, condition, Rule, rule, template}
use Rattle.definition.specs.Write.{count_of_values, count_of_pairs, write_value, write_values, write_pairs, count_of_conditions, write_condition, write_conditions, write_rule}
use Rattle.definition.specs.Within.{value_entries, values_entries, pairs_entries, condition_entries, conditions_entries, rule_entries, ValueFits, ValuesFit, PairsFit, ConditionFits, ConditionsFit}
use Rattle.definition.proofs.ValueLaws.{value-takes}
use Rattle.definition.proofs.ConditionLaws.{condition-takes}
use Rattle.json_rule.specs.Shape.{value_of, values_of, pairs_of}
use Rattle.json_rule.specs.Bare.{bare_value, bare_values, bare_pairs, bare_condition, bare_conditions, bare_rule}
use Rattle.json_rule.proofs.BackLaws.{shape-many, shape_one, shape_two, shape-quantifier, shape-not, shape-compare}

-- Entries: a mark, two numbers, and a text whose length follows from them

unfoldable an_item : Reader (List ℕ) ℕ
an_item = do
  comma
  decimal

unfoldable an_entry : ℕ → (size : ℕ → ℕ → ℕ) → Reader (List ℕ) (ℕ × ℕ × List ℕ)
an_entry mark size = do
  byte mark
  kind ← an_item
  n ← an_item
  comma
  text ← bytes (size kind n)
  line_end
  pure (kind, n, text)

item_back : (n : ℕ) (t : List ℕ) → begins_without_digit t ≡ true → Reads an_item (write_item n ++ t) n t
unfolding an_item write_item ascii
item_back n t d = then-reads _ _ (byte-complete 44 _) (decimal-complete n t d)

text-back : (n : ℕ) (x t : List ℕ) → length x ≡ n → Reads (bytes n) (x ++ t) x t
text-back n x t e = rw (← e) (bytes-complete x t)

entry-parts : (front : List ℕ) (kind n : ℕ) (text t : List ℕ) → (front ++ write_item kind ++ write_item n ++ write_last text) ++ t
    ≡ front ++ (write_item kind ++ (write_item n ++ (ascii "," ++ (text ++ (write_end ++ t)))))
unfolding write_last
entry-parts front kind n text t = simp append_assoc

entry-back : (front : List ℕ) (mark : ℕ) (size : ℕ → ℕ → ℕ) (kind n : ℕ) (text t : List ℕ) → front ≡ mark ∷ [] → length text ≡ size kind n
    → Reads (an_entry mark size) ((front ++ write_item kind ++ write_item n ++ write_last text) ++ t) (kind, n, text) t
unfolding an_entry write_end ascii pure
entry-back front mark size kind n text t f e =
    rw (entry-parts front kind n text t, f)
    (then-reads _ _ (byte-complete mark _)
    (bind-reads _ _ (item_back kind _ (item-begins _ _))
    (bind-reads _ _ (item_back n _ (comma-begins _))
    (then-reads _ _ (byte-complete 44 _)
    (bind-reads _ _ (text-back (size kind n) text _ e) (then-reads _ _ (byte-complete 10 _) refl))))))

-- Values

-- numbers and strings have a text
unfoldable type_size : ℕ → ℕ → ℕ
type_size type n = cond (leb type 5) n 0

unfoldable values_back : ℕ → Reader (List ℕ) Value → Reader (List ℕ) Values
values_back zero p = pure no_values
values_back (suc n) p = do
  v ← p
  others ← values_back n p
  pure (value v others)

unfoldable key_back : Reader (List ℕ) Text
key_back = do
  letter "K"
  n ← an_item
  comma
  key ← bytes n
  line_end
  pure key

unfoldable pairs_back : ℕ → Reader (List ℕ) Value → Reader (List ℕ) Pairs
pairs_back zero p = pure no_pairs
pairs_back (suc n) p = do
  key ← key_back
  v ← p
  others ← pairs_back n p
  pure (pair key v others)

unfoldable array_back : ℕ → Reader (List ℕ) Value → Reader (List ℕ) Value
array_back n p = do
  vs ← values_back n p
  pure (array 0 vs)

unfoldable object_back : ℕ → Reader (List ℕ) Value → Reader (List ℕ) Value
object_back n p = do
  ps ← pairs_back n p
  pure (object 0 ps)

unfoldable behind_type : ℕ → ℕ → Text → Reader (List ℕ) Value → Reader (List ℕ) Value
behind_type type n text p =
    cond (leb type 3) (pure (constant 0 type))
    (cond (leb type 4) (pure (number 0 text))
    (cond (leb type 5) (pure (string 0 text))
    (cond (leb type 6) (array_back n p) (object_back n p))))

-- so many entries at most, one in the other
unfoldable value_back : ℕ → Reader (List ℕ) Value
value_back zero = refuse
value_back (suc k) = do
  h ← an_entry 86 type_size
  behind_type h.0 h.1 h.2 (value_back k)

-- constants are null, false and true
abbrev mutual
  pub Known : Value → Type 0
  Known (constant e type) = type ≤ 3
  Known (number e digits) = Unit {0}
  Known (string e text) = Unit {0}
  Known (array e vs) = AllKnown vs
  Known (object e ps) = PairsKnown ps

  pub AllKnown : Values → Type 0
  AllKnown no_values = Unit {0}
  AllKnown (value v others) = Known v × AllKnown others

  pub PairsKnown : Pairs → Type 0
  PairsKnown no_pairs = Unit {0}
  PairsKnown (pair key v others) = Known v × PairsKnown others

type-back : (type n : ℕ) (text t : List ℕ) → length text ≡ type_size type n → Reads (an_entry 86 type_size) (write_type type n text ++ t) (type, n, text) t
unfolding write_type ascii
type-back type n text t e = entry-back (ascii "V") 86 type_size type n text t refl e

constant-size : (type : ℕ) → 0 ≡ type_size type 0
unfolding type_size
constant-size type = go (leb type 5)
  where
    go : (x : Bool) → ◌≡◌ {A = ℕ} 0 (cond x 0 0)
    go true = refl
    go false = refl

key-parts : (key t : List ℕ) → write_key_head key ++ t ≡ ascii "K" ++ (write_item (length key) ++ (ascii "," ++ (key ++ (write_end ++ t))))
unfolding write_key_head write_last
key-parts key t = simp append_assoc

key-back : (key t : List ℕ) → Reads key_back (write_key_head key ++ t) key t
unfolding key_back write_end ascii pure
key-back key t =
    rw (key-parts key t)
    (then-reads _ _ (byte-complete 75 _)
    (bind-reads _ _ (item_back (length key) _ (comma-begins _))
    (then-reads _ _ (byte-complete 44 _)
    (bind-reads _ _ (bytes-complete key _) (then-reads _ _ (byte-complete 10 _) refl)))))

abbrev ValueReads : ℕ → Type 0
ValueReads k = (v : Value) (a : List ℕ) → Known v → value_entries v ≤ k → Reads (value_back k) (write_value v ++ a) (bare_value v) a

module _ (k : ℕ) (law : ValueReads k) where
  values-read : (vs : Values) (a : List ℕ) → AllKnown vs → values_entries vs ≤ k → Reads (values_back (count_of_values vs) (value_back k)) (write_values vs ++ a) (bare_values vs) a
  unfolding write_values bare_values count_of_values values_entries values_back pure
  values-read no_values a h l = refl
  values-read (value v others) a h l =
      rw (add-one, append_assoc (write_value v) (write_values others) a)
      (bind-reads _ _ (law v _ h.0 (omega arith)) (bind-reads _ _ (values-read others a h.1 (omega arith)) refl))

  pairs-read : (ps : Pairs) (a : List ℕ) → PairsKnown ps → pairs_entries ps ≤ k → Reads (pairs_back (count_of_pairs ps) (value_back k)) (write_pairs ps ++ a) (bare_pairs ps) a
  unfolding write_pairs bare_pairs count_of_pairs pairs_entries pairs_back pure
  pairs-read no_pairs a h l = refl
  pairs-read (pair key v others) a h l =
      rw (add-one, append_assoc (write_key_head key) (write_value v ++ write_pairs others) a, append_assoc (write_value v) (write_pairs others) a)
      (bind-reads _ _ (key-back key _)
      (bind-reads _ _ (law v _ h.0 (omega arith)) (bind-reads _ _ (pairs-read others a h.1 (omega arith)) refl)))

  value-step : ValueReads (suc k)
  unfolding write_value write_value_head bare_value value_entries value_back behind_type array_back object_back type_size pure
  value-step (constant e type) a h l = bind-reads _ _ (type-back type 0 [] a (constant-size type)) (rw (le-leb type 3 h))
  value-step (number e digits) a h l = bind-reads _ _ (type-back 4 (length digits) digits a refl) refl
  value-step (string e text) a h l = bind-reads _ _ (type-back 5 (length text) text a refl) refl
  value-step (array e vs) a h l =
      rw (append_assoc (write_type 6 (count_of_values vs) []) (write_values vs) a)
      (bind-reads _ _ (type-back 6 (count_of_values vs) [] _ refl) (bind-reads _ _ (values-read vs a h (omega arith)) refl))
  value-step (object e ps) a h l =
      rw (append_assoc (write_type 7 (count_of_pairs ps) []) (write_pairs ps) a)
      (bind-reads _ _ (type-back 7 (count_of_pairs ps) [] _ refl) (bind-reads _ _ (pairs-read ps a h (omega arith)) refl))

value-reads : (k : ℕ) → ValueReads k
value-reads zero = λ v a h l. absurd (omega (arith, value-takes v))
value-reads (suc k) = value-step k (value-reads k)

mutual
  pub fits-known : (v : Value) → ValueFits v → Known v
  fits-known (constant e type) h = h.1
  fits-known (number e digits) h = tt
  fits-known (string e text) h = tt
  fits-known (array e vs) h = fit-known vs h
  fits-known (object e ps) h = pairs-fit-known ps h.1

  fit-known : (vs : Values) → ValuesFit vs → AllKnown vs
  fit-known no_values h = tt
  fit-known (value v others) h = (fits-known v h.0, fit-known others h.1)

  pairs-fit-known : (ps : Pairs) → PairsFit ps → PairsKnown ps
  pairs-fit-known no_pairs h = tt
  pairs-fit-known (pair key v others) h = (fits-known v h.1, pairs-fit-known others h.2)

mutual
  unfolding value_of values_of pairs_of

  pub json-known : (j : Json) → Known (value_of j)
  json-known Json.null = omega arith
  json-known (Json.truth false) = omega arith
  json-known (Json.truth true) = omega arith
  json-known (Json.number digits) = tt
  json-known (Json.string t) = tt
  json-known (Json.array vs) = elements-known vs
  json-known (Json.object ms) = members-known ms

  elements-known : (vs : Json.Elements) → AllKnown (values_of vs)
  elements-known Json.no_elements = tt
  elements-known (Json.element v others) = (json-known v, elements-known others)

  members-known : (ms : Json.Members) → PairsKnown (pairs_of ms)
  members-known Json.no_members = tt
  members-known (Json.member key v others) = (json-known v, members-known others)

-- Conditions

-- quantifiers have a text
unfoldable shape_size : Shape → ℕ → ℕ
shape_size Operators.literal n = 0
shape_size Operators.many n = 0
shape_size Operators.negation n = 0
shape_size Operators.one n = 0
shape_size Operators.two n = 0
shape_size Operators.comparison n = 0
shape_size Operators.quantifier n = n

abbrev operator_size : ℕ → ℕ → ℕ
operator_size op n = shape_size (shape_of op) n

unfoldable conditions_back : ℕ → Reader (List ℕ) Condition → Reader (List ℕ) Conditions
conditions_back zero p = pure no_conditions
conditions_back (suc n) p = do
  c ← p
  others ← conditions_back n p
  pure (condition c others)

unfoldable behind_shape : Shape → (op n : ℕ) → Text → Reader (List ℕ) Value → Reader (List ℕ) Condition → Reader (List ℕ) Condition
behind_shape Operators.literal op n text p q = pure (literal 0 (eqb n 1))
behind_shape Operators.many op n text p q = do
  children ← conditions_back n q
  pure (many 0 op children)
behind_shape Operators.negation op n text p q = do
  child ← q
  pure (negation 0 child)
behind_shape Operators.one op n text p q = do
  v ← p
  pure (one 0 op v)
behind_shape Operators.two op n text p q = do
  left ← p
  right ← p
  pure (two 0 op left right)
behind_shape Operators.comparison op n text p q = do
  left ← p
  right ← p
  pure (comparison 0 n left right)
behind_shape Operators.quantifier op n text p q = do
  over ← p
  body ← q
  pure (quantifier 0 op text over body)

unfoldable condition_back : ℕ → Reader (List ℕ) Condition
condition_back zero = refuse
condition_back (suc k) = do
  h ← an_entry 67 operator_size
  behind_shape (shape_of h.0) h.0 h.1 h.2 (value_back k) (condition_back k)

-- each operator is one of its constructor's shape
abbrev mutual
  pub Shaped : Condition → Type 0
  Shaped (literal e truth) = Unit {0}
  Shaped (many e op children) = (shape_of op ≡ Operators.many) × AllShaped children
  Shaped (negation e child) = Shaped child
  Shaped (one e op v) = (shape_of op ≡ Operators.one) × Known v
  Shaped (two e op left right) = (shape_of op ≡ Operators.two) × Known left × Known right
  Shaped (comparison e which left right) = Known left × Known right
  Shaped (quantifier e op bind over body) = (shape_of op ≡ Operators.quantifier) × Known over × Shaped body

  pub AllShaped : Conditions → Type 0
  AllShaped no_conditions = Unit {0}
  AllShaped (condition c others) = Shaped c × AllShaped others

operator-back : (op n : ℕ) (text t : List ℕ) → length text ≡ operator_size op n → Reads (an_entry 67 operator_size) (write_operator op n text ++ t) (op, n, text) t
unfolding write_operator ascii
operator-back op n text t e = entry-back (ascii "C") 67 operator_size op n text t refl e

-- an operator, then what its shape asks for
operating : (k op n : ℕ) (shape : Shape) (text t : List ℕ) (c : Condition) (a : List ℕ) → shape_of op ≡ shape → length text ≡ shape_size shape n
    → Reads (behind_shape shape op n text (value_back k) (condition_back k)) t c a → Reads (condition_back (suc k)) (write_operator op n text ++ t) c a
unfolding condition_back
operating k op n shape text t c a s e r = bind-reads _ _ (operator-back op n text t (rw s e)) (rw s r)

mark-back : (truth : Bool) → eqb (mark_of truth) 1 ≡ truth
unfolding mark_of
mark-back false = refl
mark-back true = refl

shape-literal : shape_of 1 ≡ Operators.literal
unfolding shape_of
shape-literal = refl

abbrev ConditionReads : ℕ → Type 0
ConditionReads k = (c : Condition) (a : List ℕ) → Shaped c → condition_entries c ≤ k → Reads (condition_back k) (write_condition c ++ a) (bare_condition c) a

module _ (k : ℕ) (law : ConditionReads k) where
  conditions-read : (cs : Conditions) (a : List ℕ) → AllShaped cs → conditions_entries cs ≤ k
      → Reads (conditions_back (count_of_conditions cs) (condition_back k)) (write_conditions cs ++ a) (bare_conditions cs) a
  unfolding write_conditions bare_conditions count_of_conditions conditions_entries conditions_back pure
  conditions-read no_conditions a h l = refl
  conditions-read (condition c others) a h l =
      rw (add-one, append_assoc (write_condition c) (write_conditions others) a)
      (bind-reads _ _ (law c _ h.0 (omega arith)) (bind-reads _ _ (conditions-read others a h.1 (omega arith)) refl))

  condition-step : ConditionReads (suc k)
  unfolding write_condition write_condition_head bare_condition condition_entries behind_shape shape_size pure
  condition-step (literal e truth) a h l = operating k 1 (mark_of truth) Operators.literal [] a _ a shape-literal refl (rw (mark-back truth))
  condition-step (many e op children) a h l =
      rw (append_assoc (write_operator op (count_of_conditions children) []) (write_conditions children) a)
      (operating k op _ Operators.many [] _ _ a h.0 refl (bind-reads _ _ (conditions-read children a h.1 (omega arith)) refl))
  condition-step (negation e child) a h l =
      rw (append_assoc (write_operator 4 0 []) (write_condition child) a)
      (operating k 4 0 Operators.negation [] _ _ a shape-not refl (bind-reads _ _ (law child a h (omega arith)) refl))
  condition-step (one e op v) a h l =
      rw (append_assoc (write_operator op 0 []) (write_value v) a)
      (operating k op 0 Operators.one [] _ _ a h.0 refl (bind-reads _ _ (value-reads k v a h.1 (omega arith)) refl))
  condition-step (two e op left right) a h l =
      rw (append_assoc (write_operator op 0 []) (write_value left ++ write_value right) a, append_assoc (write_value left) (write_value right) a)
      (operating k op 0 Operators.two [] _ _ a h.0 refl
      (bind-reads _ _ (value-reads k left _ h.1 (omega arith)) (bind-reads _ _ (value-reads k right a h.2 (omega arith)) refl)))
  condition-step (comparison e which left right) a h l =
      rw (append_assoc (write_operator 18 which []) (write_value left ++ write_value right) a, append_assoc (write_value left) (write_value right) a)
      (operating k 18 which Operators.comparison [] _ _ a shape-compare refl
      (bind-reads _ _ (value-reads k left _ h.0 (omega arith)) (bind-reads _ _ (value-reads k right a h.1 (omega arith)) refl)))
  condition-step (quantifier e op bind over body) a h l =
      rw (append_assoc (write_operator op (length bind) bind) (write_value over ++ write_condition body) a, append_assoc (write_value over) (write_condition body) a)
      (operating k op (length bind) Operators.quantifier bind _ _ a h.0 refl
      (bind-reads _ _ (value-reads k over _ h.1 (omega arith)) (bind-reads _ _ (law body a h.2 (omega arith)) refl)))

condition-reads : (k : ℕ) → ConditionReads k
condition-reads zero = λ c a h l. absurd (omega (arith, condition-takes c))
condition-reads (suc k) = condition-step k (condition-reads k)

mutual
  pub fits-shaped : (c : Condition) → ConditionFits c → Shaped c
  fits-shaped (literal e truth) h = tt
  fits-shaped (many e op children) h = (shape-many op h.0.0 h.0.1, fit-shaped children h.1)
  fits-shaped (negation e child) h = fits-shaped child h
  fits-shaped (one e op v) h = (shape_one op h.0, fits-known v h.1.fits)
  fits-shaped (two e op left right) h = (shape_two op h.0.0 h.0.1, fits-known left h.1.fits, fits-known right h.2.fits)
  fits-shaped (comparison e which left right) h = (fits-known left h.1.fits, fits-known right h.2.fits)
  fits-shaped (quantifier e op bind over body) h = (shape-quantifier op h.0.0 h.0.1, fits-known over h.2.fits, fits-shaped body h.3)

  fit-shaped : (cs : Conditions) → ConditionsFit cs → AllShaped cs
  fit-shaped no_conditions h = tt
  fit-shaped (condition c others) h = (fits-shaped c h.0, fit-shaped others h.1)

-- Rules

unfoldable length_back : Reader (List ℕ) (Option ℕ)
length_back =
    either
    (do
      comma
      dash
      pure none)
    (do
      n ← an_item
      pure (some n))

unfoldable optional_back : Option ℕ → Reader (List ℕ) (Option Text)
optional_back none = pure none
optional_back (some n) = do
  t ← bytes n
  pure (some t)

unfoldable rule_back : ℕ → Reader (List ℕ) Rule
rule_back k =
    either
    (do
      letter "R"
      a ← length_back
      b ← length_back
      comma
      name ← optional_back a
      message ← optional_back b
      line_end
      c ← condition_back k
      pure (rule name message c))
    (do
      letter "T"
      line_end
      v ← value_back k
      pure (template v))

abbrev pub RuleShaped : Rule → Type 0
RuleShaped (rule name message assert) = Shaped assert
RuleShaped (template v) = Known v

unfoldable size_of : Option Text → Option ℕ
size_of none = none
size_of (some t) = some (length t)

length-back : (x : Option Text) (t : List ℕ) → begins_without_digit t ≡ true → Reads length_back (write_length x ++ t) (size_of x) t
unfolding length_back write_length size_of ascii pure
length-back none t d = either_first _ _ _ (then-reads _ _ (byte-complete 44 _) (then-reads _ _ (byte-complete 45 _) refl))
length-back (some x) t d = either_second _ _ _ (dash-none _ (length x) t) (bind-reads _ _ (item_back (length x) t d) refl)

optional-back : (x : Option Text) (t : List ℕ) → Reads (optional_back (size_of x)) (write_text x ++ t) x t
unfolding optional_back size_of write_text pure
optional-back none t = refl
optional-back (some x) t = bind-reads _ _ (bytes-complete x t) refl

rule-parts : (name message : Option Text) (t : List ℕ) → write_rule_head (Entries.rule name message) ++ t
    ≡ ascii "R" ++ (write_length name ++ (write_length message ++ (ascii "," ++ (write_text name ++ (write_text message ++ (write_end ++ t))))))
unfolding write_rule_head
rule-parts name message t = simp append_assoc

template-parts : (t : List ℕ) → write_rule_head Entries.template ++ t ≡ 84 ∷ 10 ∷ t
unfolding write_rule_head write_end ascii
template-parts t = refl

no-rule : {B : Type 0} (q : Reader (List ℕ) B) (t : List ℕ) → (byte 82 >> q) (84 ∷ t) ≡ none
unfolding ◌>>◌ ◌>>=◌ and_then byte
no-rule q t = refl

rule-reads : (k : ℕ) (r : Rule) → RuleShaped r → rule_entries r ≤ k → Reads (rule_back k) (write_rule r) (bare_rule r) []
unfolding rule_back write_rule bare_rule rule_entries write_end ascii pure
rule-reads k (rule name message assert) h l =
    let last : Reads (condition_back k) (write_condition assert) (bare_condition assert) [] = rw (append-nil (write_condition assert)) at (condition-reads k assert [] h (omega arith)) in
    rw (rule-parts name message (write_condition assert))
    (either_first _ _ _
    (then-reads _ _ (byte-complete 82 _)
    (bind-reads _ _ (length-back name _ (length-begins _ _))
    (bind-reads _ _ (length-back message _ (comma-begins _))
    (then-reads _ _ (byte-complete 44 _)
    (bind-reads _ _ (optional-back name _)
    (bind-reads _ _ (optional-back message _) (then-reads _ _ (byte-complete 10 _) (bind-reads _ _ last refl)))))))))
rule-reads k (template v) h l =
    let last : Reads (value_back k) (write_value v) (bare_value v) [] = rw (append-nil (write_value v)) at (value-reads k v [] h (omega arith)) in
    rw (template-parts (write_value v))
    (either_second _ _ _ (no-rule _ _) (then-reads _ _ (byte-complete 84 _) (then-reads _ _ (byte-complete 10 _) (bind-reads _ _ last refl))))

-- rules with the same sheet differ in the numbers of their entries alone
pub rule-same : (r t : Rule) → RuleShaped r → RuleShaped t → write_rule r ≡ write_rule t → bare_rule r ≡ bare_rule t
rule-same r t h g e =
    let k = rule_entries r + rule_entries t in
    ap (λ (x : Rule × List ℕ). x.0)
    (some-injective (bare_rule r, []) (bare_rule t, []) (sym (rule-reads k r h (omega arith)) ∙ ap (rule_back k) e ∙ rule-reads k t g (omega arith)))
