-- The heads of a rule sheet are read back as they were written, and what is read as such a head is one as it is written.
use Rattle.std.specs.Prelude.{ℕ, ◌≤◌, true, List, [], ◌∷◌, ◌++◌, ◌⊎◌, ◌≡◌, refl, leb, length}
use Rattle.std.proofs.Common.{append_assoc, ⊎_elim, inl, inr, sym, arith, leb-true, leb-false, le-leb}
use Rattle.std.proofs.Math.Option.{Option}
use Rattle.text.specs.Ascii.{ascii}
use Rattle.text.specs.Reader.{Reader, ◌>>=◌, ◌>>◌, and_then, pure, either, or_else}
use Rattle.text.specs.CaseLaws.{by-test}
use Rattle.text.specs.ReaderLaws.{Reads, bind_inv, then-inv, bind-reads, then-reads, pure-inv, ensure-inv, ensure-reads, either-inv, either_first}
use Rattle.text.specs.ByteReaders.{byte, comma}
use Rattle.text.specs.ByteReaderLaws.{byte-complete}
use Rattle.text.specs.NumeralLaws.{comma-begins}
use Rattle.number.specs.Grammar.{is_number}
use Rattle.sheet.specs.Entries.{max_text, max_count, item, text, RuleHead, rule, template, rule_head, ConditionHead, literal_head, many_head, negation_head, one_head, two_head, comparison_head, quantifier_head, behind_operator, condition_head, ValueHead, constant_head, number_head, string_head, array_head, object_head, constant_rest, number_rest, string_rest, array_rest, object_rest, behind_type, value_head, key_head}
use Rattle.sheet.proofs.OperatorLaws.{over, alike, shape_by_tests, shape-tests}
use Rattle.sheet.specs.Operators.{Shape, literal, many, negation, one, two, comparison, quantifier, literal_operator, not_operator, compare_operator, shape_of, InShape}
use Rattle.sheet.specs.Write.{write_item, write_mark, mark_of, write_length, write_text, write_end, write_last, write_rule_head, write_operator, write_condition_head, write_type, write_value_head, write_key_head}
use Rattle.sheet.specs.Within.{TextWithin, OptionWithin}
use Rattle.sheet.proofs.ItemLaws.{Exact, anything, past, step, item-exact, item-complete, mark-exact, mark-complete, text-sound, text-complete, text_length-sound, text_length-complete, optional_text-sound, optional_text-complete, item-begins, length-begins}

-- R,a,b,text or T
abbrev pub RuleHeadFits : RuleHead → Type 0
RuleHeadFits (rule name message) = OptionWithin name × OptionWithin message
RuleHeadFits template = Unit {0}

rule_head-parts : (name message : Option (List ℕ)) (t : List ℕ) → write_rule_head (rule name message) ++ t
    ≡ ascii "R" ++ (write_length name ++ (write_length message ++ (ascii "," ++ (write_text name ++ (write_text message ++ (write_end ++ t))))))
unfolding write_rule_head
rule_head-parts name message t = simp append_assoc

template-parts : (t : List ℕ) → write_rule_head template ++ t ≡ 84 ∷ 10 ∷ t
unfolding write_rule_head write_end ascii
template-parts t = refl

template-complete : (t : List ℕ) → Reads rule_head (write_rule_head template ++ t) template t
unfolding rule_head either or_else ◌>>◌ ◌>>=◌ and_then byte pure
template-complete t = rw template-parts

rule_head-sound : (s : List ℕ) (h : RuleHead) (t : List ℕ) → Reads rule_head s h t → (s ≡ write_rule_head h ++ t) × RuleHeadFits h
unfolding rule_head write_end ascii
rule_head-sound s h t e =
    ⊎_elim
    (λ e.
    past _ _ _ e λ s₁ e₁ e.
    bind_inv _ _ _ e λ a s₂ e₂ e.
    bind_inv _ _ _ e λ b s₃ e₃ e.
    past _ _ _ e λ s₄ e₄ e.
    bind_inv _ _ _ e λ name s₅ e₅ e.
    bind_inv _ _ _ e λ message s₆ e₆ e.
    past _ _ _ e λ s₇ e₇ e.
    let q = pure-inv _ _ e in
    let r₂ = text_length-sound _ _ _ e₂ in
    let r₃ = text_length-sound _ _ _ e₃ in
    let r₅ = optional_text-sound _ _ _ _ r₂.1 e₅ in
    let r₆ = optional_text-sound _ _ _ _ r₃.1 e₆ in
    rw (← q.0, ← q.1) (rw (rule_head-parts, r₅.1, r₆.1, e₁, r₂.0, r₃.0, e₄, r₅.0, r₆.0, e₇), (r₅.2, r₆.2)))
    (λ e.
    past _ _ _ e λ s₁ e₁ e.
    past _ _ _ e λ s₂ e₂ e.
    let q = pure-inv _ _ e in
    rw (← q.0, ← q.1) (rw (e₁, e₂, template-parts), tt))
    (either-inv _ _ _ e)

rule_head-complete : (h : RuleHead) (t : List ℕ) → RuleHeadFits h → anything t ≡ true → Reads rule_head (write_rule_head h ++ t) h t
unfolding rule_head write_end ascii pure
rule_head-complete (rule name message) t f d =
    rw rule_head-parts
    (either_first _ _ _
    (then-reads _ _ (byte-complete 82 _)
    (bind-reads _ _ (text_length-complete name _ f.0 (length-begins _ _))
    (bind-reads _ _ (text_length-complete message _ f.1 (comma-begins _))
    (then-reads _ _ (byte-complete 44 _)
    (bind-reads _ _ (optional_text-complete name _ f.0)
    (bind-reads _ _ (optional_text-complete message _ f.1) (then-reads _ _ (byte-complete 10 _) refl))))))))
rule_head-complete template t f d = template-complete t

pub rule_head-exact : Exact rule_head write_rule_head RuleHeadFits anything
rule_head-exact = record { sound = rule_head-sound; complete = rule_head-complete }

-- A number, then a text of its own: `n,text`

module _ {B C : Type 0} where
  numbered : (low high : ℕ) (k : ℕ → Reader (List ℕ) B) (s : List ℕ) {b : B} {u : List ℕ} → Reads (item low high >>= λ n. comma >> k n) s b u
      → ((n : ℕ) (t : List ℕ) → s ≡ write_item n ++ 44 ∷ t → (low ≤ n) × (n ≤ high) → Reads (k n) t b u → C) → C
  numbered low high k s e f =
      step (item-exact low high) _ _ e λ n s₁ e₁ h₁ e.
      past _ _ _ e λ s₂ e₂ e.
      f n s₂ (rw e₂ at e₁) h₁ e

  -- n is 0 where nothing else is said
  unnumbered : (k : Reader (List ℕ) B) (s : List ℕ) {b : B} {u : List ℕ} → Reads (item 0 0 >> (comma >> k)) s b u
      → ((t : List ℕ) → s ≡ write_item 0 ++ 44 ∷ t → Reads k t b u → C) → C
  unnumbered k s e f =
      then-inv _ _ _ e λ n s₁ e₁ e.
      past _ _ _ e λ s₂ e₂ e.
      let r = (item-exact 0 0).sound _ _ _ e₁ in
      let z : n ≡ 0 = omega arith in
      f s₂ (rw (z, e₂) at r.0) e

  counted : (k : List ℕ → Reader (List ℕ) B) (s : List ℕ) {b : B} {u : List ℕ} → Reads (item 0 max_text >>= λ n. comma >> (text n >>= k)) s b u
      → ((x t : List ℕ) → s ≡ write_item (length x) ++ 44 ∷ (x ++ t) → TextWithin x → Reads (k x) t b u → C) → C
  counted k s e f =
      numbered _ _ _ _ e λ n s₁ e₁ h₁ e.
      bind_inv _ _ _ e λ x s₂ e₂ e.
      let r = text-sound _ _ _ _ e₂ in
      f x s₂ (rw (r.1, ← r.0) e₁) (record { short = rw r.1 h₁.1; utf8 = r.2 }) e

module _ {B : Type 0} where
  numbered-reads : (low high n : ℕ) (k : ℕ → Reader (List ℕ) B) {t : List ℕ} {b : B} {u : List ℕ} → (low ≤ n) × (n ≤ high) → Reads (k n) t b u
      → Reads (item low high >>= λ n. comma >> k n) (write_item n ++ 44 ∷ t) b u
  numbered-reads low high n k h e = bind-reads _ _ (item-complete low high n _ h (comma-begins _)) (then-reads _ _ (byte-complete 44 _) e)

  unnumbered-reads : (k : Reader (List ℕ) B) {t : List ℕ} {b : B} {u : List ℕ} → Reads k t b u → Reads (item 0 0 >> (comma >> k)) (write_item 0 ++ 44 ∷ t) b u
  unnumbered-reads k e = then-reads _ _ (item-complete 0 0 0 _ (omega arith, omega arith) (comma-begins _)) (then-reads _ _ (byte-complete 44 _) e)

  counted-reads : (x : List ℕ) (k : List ℕ → Reader (List ℕ) B) {t : List ℕ} {b : B} {u : List ℕ} → TextWithin x → Reads (k x) t b u
      → Reads (item 0 max_text >>= λ n. comma >> (text n >>= k)) (write_item (length x) ++ 44 ∷ (x ++ t)) b u
  counted-reads x k h e = numbered-reads 0 max_text (length x) _ (omega arith, h.short) (bind-reads _ _ (text-complete x _ h.utf8) e)

-- K,n,key
key_head-parts : (key t : List ℕ) → write_key_head key ++ t ≡ ascii "K" ++ (write_item (length key) ++ (ascii "," ++ (key ++ (write_end ++ t))))
unfolding write_key_head write_last
key_head-parts key t = simp append_assoc

key_head-sound : (s key t : List ℕ) → Reads key_head s key t → (s ≡ write_key_head key ++ t) × TextWithin key
unfolding key_head write_end ascii
key_head-sound s key t e =
    past _ _ _ e λ s₁ e₁ e.
    counted _ _ e λ x s₂ e₂ h₂ e.
    past _ _ _ e λ s₃ e₃ e.
    let q = pure-inv _ _ e in
    rw (← q.0, ← q.1) (rw (key_head-parts, e₁, e₂, e₃), h₂)

key_head-complete : (key t : List ℕ) → TextWithin key → anything t ≡ true → Reads key_head (write_key_head key ++ t) key t
unfolding key_head write_end ascii pure
key_head-complete key t h d =
    rw key_head-parts (then-reads _ _ (byte-complete 75 _) (counted-reads key _ h (then-reads _ _ (byte-complete 10 _) refl)))

pub key_head-exact : Exact key_head write_key_head TextWithin anything
key_head-exact = record { sound = key_head-sound; complete = key_head-complete }

-- C,op,n,text

shape_of-sound : (op : ℕ) → (1 ≤ op) × (op ≤ 21) → InShape op (shape_of op)
unfolding shape_by_tests
shape_of-sound op h =
    rw (shape-tests op)
    (by-test (leb op 1) (λ q. let l = leb-true op 1 q in rw q (omega arith)) λ q₁.
    let l₁ = leb-false op 1 q₁ in
    rw q₁
    (by-test (leb op 3) (λ q. let l = leb-true op 3 q in rw q (omega arith)) λ q₃.
    let l₃ = leb-false op 3 q₃ in
    rw q₃
    (by-test (leb op 4) (λ q. let l = leb-true op 4 q in rw q (omega arith)) λ q₄.
    let l₄ = leb-false op 4 q₄ in
    rw q₄
    (by-test (leb op 5) (λ q. let l = leb-true op 5 q in rw q (inl (omega arith))) λ q₅.
    let l₅ = leb-false op 5 q₅ in
    rw q₅
    (by-test (leb op 17) (λ q. let l = leb-true op 17 q in rw q (omega arith)) λ q₁₇.
    let l₁₇ = leb-false op 17 q₁₇ in
    rw q₁₇
    (by-test (leb op 18) (λ q. let l = leb-true op 18 q in rw q (omega arith)) λ q₁₈.
    let l₁₈ = leb-false op 18 q₁₈ in
    rw q₁₈
    (by-test (leb op 19) (λ q. let l = leb-true op 19 q in rw q (inr (omega arith))) λ q₁₉.
    let l₁₉ = leb-false op 19 q₁₉ in
    rw q₁₉ (omega arith))))))))

shape_of-complete : (op : ℕ) (shape : Shape) → InShape op shape → shape_of op ≡ shape
unfolding shape_of over
shape_of-complete op literal h = rw h
shape_of-complete op many h = alike shape_of (λ op. many) 2 2 refl op h.0 (omega (arith, h.1))
shape_of-complete op negation h = rw h
shape_of-complete op one (inl h) = rw h
shape_of-complete op one (inr h) = rw h
shape_of-complete op two h = alike shape_of (λ op. two) 6 12 refl op h.0 (omega (arith, h.1))
shape_of-complete op comparison h = rw h
shape_of-complete op quantifier h = alike shape_of (λ op. quantifier) 20 2 refl op h.0 (omega (arith, h.1))

-- what the fields of such an entry hold
operator_of : ConditionHead → ℕ
operator_of (literal_head truth) = literal_operator
operator_of (many_head op count) = op
operator_of negation_head = not_operator
operator_of (one_head op) = op
operator_of (two_head op) = op
operator_of (comparison_head which) = compare_operator
operator_of (quantifier_head op bind) = op

number_of : ConditionHead → ℕ
number_of (literal_head truth) = mark_of truth
number_of (many_head op count) = count
number_of negation_head = 0
number_of (one_head op) = 0
number_of (two_head op) = 0
number_of (comparison_head which) = which
number_of (quantifier_head op bind) = length bind

text_of : ConditionHead → List ℕ
text_of (literal_head truth) = []
text_of (many_head op count) = []
text_of negation_head = []
text_of (one_head op) = []
text_of (two_head op) = []
text_of (comparison_head which) = []
text_of (quantifier_head op bind) = bind

shape_of_head : ConditionHead → Shape
shape_of_head (literal_head truth) = literal
shape_of_head (many_head op count) = many
shape_of_head negation_head = negation
shape_of_head (one_head op) = one
shape_of_head (two_head op) = two
shape_of_head (comparison_head which) = comparison
shape_of_head (quantifier_head op bind) = quantifier

condition_head-fields : (h : ConditionHead) → write_condition_head h ≡ write_operator (operator_of h) (number_of h) (text_of h)
unfolding write_condition_head operator_of number_of text_of
condition_head-fields (literal_head truth) = refl
condition_head-fields (many_head op count) = refl
condition_head-fields negation_head = refl
condition_head-fields (one_head op) = refl
condition_head-fields (two_head op) = refl
condition_head-fields (comparison_head which) = refl
condition_head-fields (quantifier_head op bind) = refl

abbrev pub ConditionHeadFits : ConditionHead → Type 0
ConditionHeadFits (literal_head truth) = Unit {0}
ConditionHeadFits (many_head op count) = InShape op many × (count ≤ max_count)
ConditionHeadFits negation_head = Unit {0}
ConditionHeadFits (one_head op) = InShape op one
ConditionHeadFits (two_head op) = InShape op two
ConditionHeadFits (comparison_head which) = (1 ≤ which) × (which ≤ 6)
ConditionHeadFits (quantifier_head op bind) = InShape op quantifier × TextWithin bind

head-in-shape : (h : ConditionHead) → ConditionHeadFits h → InShape (operator_of h) (shape_of_head h)
unfolding operator_of shape_of_head
head-in-shape (literal_head truth) f = refl
head-in-shape (many_head op count) f = f.0
head-in-shape negation_head f = refl
head-in-shape (one_head op) f = f
head-in-shape (two_head op) f = f
head-in-shape (comparison_head which) f = refl
head-in-shape (quantifier_head op bind) f = f.0

shape-range : (op : ℕ) (shape : Shape) → InShape op shape → (1 ≤ op) × (op ≤ 21)
shape-range op literal h = omega arith
shape-range op many h = omega arith
shape-range op negation h = omega arith
shape-range op one (inl h) = omega arith
shape-range op one (inr h) = omega arith
shape-range op two h = omega arith
shape-range op comparison h = omega arith
shape-range op quantifier h = omega arith

behind_operator-sound : (op : ℕ) (shape : Shape) (s : List ℕ) (h : ConditionHead) (t : List ℕ) → InShape op shape → Reads (behind_operator op shape) s h t
    → (operator_of h ≡ op) × (s ≡ write_item (number_of h) ++ 44 ∷ (text_of h ++ t)) × ConditionHeadFits h
unfolding behind_operator operator_of number_of text_of write_mark
behind_operator-sound op literal s h t i e =
    step mark-exact _ _ e λ truth s₁ e₁ _ e.
    past _ _ _ e λ s₂ e₂ e.
    let q = pure-inv _ _ e in
    rw (← q.0, ← q.1) (sym i, rw e₂ at e₁, tt)
behind_operator-sound op many s h t i e =
    numbered _ _ _ _ e λ n s₁ e₁ h₁ e.
    let q = pure-inv _ _ e in
    rw (← q.0, ← q.1) (refl, e₁, (i, h₁.1))
behind_operator-sound op negation s h t i e =
    unnumbered _ _ e λ s₁ e₁ e.
    let q = pure-inv _ _ e in
    rw (← q.0, ← q.1) (sym i, e₁, tt)
behind_operator-sound op one s h t i e =
    unnumbered _ _ e λ s₁ e₁ e.
    let q = pure-inv _ _ e in
    rw (← q.0, ← q.1) (refl, e₁, i)
behind_operator-sound op two s h t i e =
    unnumbered _ _ e λ s₁ e₁ e.
    let q = pure-inv _ _ e in
    rw (← q.0, ← q.1) (refl, e₁, i)
behind_operator-sound op comparison s h t i e =
    numbered _ _ _ _ e λ n s₁ e₁ h₁ e.
    let q = pure-inv _ _ e in
    rw (← q.0, ← q.1) (sym i, e₁, h₁)
behind_operator-sound op quantifier s h t i e =
    counted _ _ e λ x s₁ e₁ h₁ e.
    let q = pure-inv _ _ e in
    rw (← q.0, ← q.1) (refl, e₁, (i, h₁))

behind_operator-complete : (h : ConditionHead) (t : List ℕ) → ConditionHeadFits h
    → Reads (behind_operator (operator_of h) (shape_of_head h)) (write_item (number_of h) ++ 44 ∷ (text_of h ++ t)) h t
unfolding behind_operator operator_of shape_of_head number_of text_of pure write_mark
behind_operator-complete (literal_head truth) t f =
    bind-reads _ _ (mark-complete truth (44 ∷ t) tt (comma-begins t)) (then-reads _ _ (byte-complete 44 _) refl)
behind_operator-complete (many_head op count) t f = numbered-reads 0 max_count count _ (omega arith, f.1) refl
behind_operator-complete negation_head t f = unnumbered-reads _ refl
behind_operator-complete (one_head op) t f = unnumbered-reads _ refl
behind_operator-complete (two_head op) t f = unnumbered-reads _ refl
behind_operator-complete (comparison_head which) t f = numbered-reads 1 6 which _ f refl
behind_operator-complete (quantifier_head op bind) t f = counted-reads bind _ f.1 refl

condition_head-parts : (h : ConditionHead) (t : List ℕ) → write_condition_head h ++ t
    ≡ ascii "C" ++ (write_item (operator_of h) ++ (write_item (number_of h) ++ (ascii "," ++ (text_of h ++ (write_end ++ t)))))
unfolding write_operator write_last
condition_head-parts h t = rw condition_head-fields (simp append_assoc)

condition_head-sound : (s : List ℕ) (h : ConditionHead) (t : List ℕ) → Reads condition_head s h t → (s ≡ write_condition_head h ++ t) × ConditionHeadFits h
unfolding condition_head write_end ascii
condition_head-sound s h t e =
    past _ _ _ e λ s₁ e₁ e.
    step (item-exact _ _) _ _ e λ op s₂ e₂ h₂ e.
    bind_inv _ _ _ e λ g s₃ e₃ e.
    past _ _ _ e λ s₄ e₄ e.
    let q = pure-inv _ _ e in
    let r = behind_operator-sound op (shape_of op) s₂ g s₃ (shape_of-sound op h₂) e₃ in
    rw (← q.0, ← q.1) (rw (condition_head-parts, r.0, e₁, e₂, r.1, e₄), r.2)

condition_head-complete : (h : ConditionHead) (t : List ℕ) → ConditionHeadFits h → anything t ≡ true → Reads condition_head (write_condition_head h ++ t) h t
unfolding condition_head write_end ascii pure
condition_head-complete h t f d =
    let i = head-in-shape h f in
    rw condition_head-parts
    (then-reads _ _ (byte-complete 67 _)
    (bind-reads _ _ (item-complete 1 21 (operator_of h) _ (shape-range (operator_of h) (shape_of_head h) i) (item-begins _ _))
    (rw (shape_of-complete (operator_of h) (shape_of_head h) i) (bind-reads _ _ (behind_operator-complete h _ f) (then-reads _ _ (byte-complete 10 _) refl)))))

pub condition_head-exact : Exact condition_head write_condition_head ConditionHeadFits anything
condition_head-exact = record { sound = condition_head-sound; complete = condition_head-complete }

-- V,type,n,text

type_of : ValueHead → ℕ
type_of (constant_head type) = type
type_of (number_head digits) = 4
type_of (string_head string) = 5
type_of (array_head count) = 6
type_of (object_head count) = 7

size_of : ValueHead → ℕ
size_of (constant_head type) = 0
size_of (number_head digits) = length digits
size_of (string_head string) = length string
size_of (array_head count) = count
size_of (object_head count) = count

bytes_of : ValueHead → List ℕ
bytes_of (constant_head type) = []
bytes_of (number_head digits) = digits
bytes_of (string_head string) = string
bytes_of (array_head count) = []
bytes_of (object_head count) = []

abbrev pub ValueHeadFits : ValueHead → Type 0
ValueHeadFits (constant_head type) = (1 ≤ type) × (type ≤ 3)
ValueHeadFits (number_head digits) = TextWithin digits × (is_number digits ≡ true)
ValueHeadFits (string_head string) = TextWithin string
ValueHeadFits (array_head count) = count ≤ max_count
ValueHeadFits (object_head count) = count ≤ max_count

value_head-fields : (h : ValueHead) → write_value_head h ≡ write_type (type_of h) (size_of h) (bytes_of h)
unfolding write_value_head type_of size_of bytes_of
value_head-fields (constant_head type) = refl
value_head-fields (number_head digits) = refl
value_head-fields (string_head string) = refl
value_head-fields (array_head count) = refl
value_head-fields (object_head count) = refl

-- what is read after a type
abbrev BehindType : ℕ → List ℕ → ValueHead → List ℕ → Type 0
BehindType type s h t = (type_of h ≡ type) × (s ≡ write_item (size_of h) ++ 44 ∷ (bytes_of h ++ t)) × ValueHeadFits h

constant_rest-sound : (type : ℕ) (s : List ℕ) (h : ValueHead) (t : List ℕ) → (1 ≤ type) × (type ≤ 3) → Reads (constant_rest type) s h t → BehindType type s h t
unfolding constant_rest type_of size_of bytes_of
constant_rest-sound type s h t i e =
    unnumbered _ _ e λ s₁ e₁ e.
    let q = pure-inv _ _ e in
    rw (← q.0, ← q.1) (refl, e₁, i)

number_rest-sound : (s : List ℕ) (h : ValueHead) (t : List ℕ) → Reads number_rest s h t → BehindType 4 s h t
unfolding number_rest type_of size_of bytes_of
number_rest-sound s h t e =
    counted _ _ e λ x s₁ e₁ h₁ e.
    then-inv _ _ _ e λ _ s₂ e₂ e.
    let r = ensure-inv _ _ e₂ in
    let q = pure-inv _ _ e in
    rw (← q.0, ← q.1, ← r.1) (refl, e₁, (h₁, r.0))

string_rest-sound : (s : List ℕ) (h : ValueHead) (t : List ℕ) → Reads string_rest s h t → BehindType 5 s h t
unfolding string_rest type_of size_of bytes_of
string_rest-sound s h t e =
    counted _ _ e λ x s₁ e₁ h₁ e.
    let q = pure-inv _ _ e in
    rw (← q.0, ← q.1) (refl, e₁, h₁)

array_rest-sound : (s : List ℕ) (h : ValueHead) (t : List ℕ) → Reads array_rest s h t → BehindType 6 s h t
unfolding array_rest type_of size_of bytes_of
array_rest-sound s h t e =
    numbered _ _ _ _ e λ n s₁ e₁ h₁ e.
    let q = pure-inv _ _ e in
    rw (← q.0, ← q.1) (refl, e₁, h₁.1)

object_rest-sound : (s : List ℕ) (h : ValueHead) (t : List ℕ) → Reads object_rest s h t → BehindType 7 s h t
unfolding object_rest type_of size_of bytes_of
object_rest-sound s h t e =
    numbered _ _ _ _ e λ n s₁ e₁ h₁ e.
    let q = pure-inv _ _ e in
    rw (← q.0, ← q.1) (refl, e₁, h₁.1)

behind_type-sound : (type : ℕ) (s : List ℕ) (h : ValueHead) (t : List ℕ) → (1 ≤ type) × (type ≤ 7) → Reads (behind_type type) s h t → BehindType type s h t
unfolding behind_type
behind_type-sound type s h t i e =
    by-test (leb type 3) (λ q. let l = leb-true type 3 q in constant_rest-sound type s h t (omega arith) (rw q at e)) λ q₃.
    by-test (leb type 4) (λ q. at 4 (leb-false type 3 q₃) (leb-true type 4 q) (number_rest-sound s h t (rw (q₃, q) at e))) λ q₄.
    by-test (leb type 5) (λ q. at 5 (leb-false type 4 q₄) (leb-true type 5 q) (string_rest-sound s h t (rw (q₃, q₄, q) at e))) λ q₅.
    by-test (leb type 6) (λ q. at 6 (leb-false type 5 q₅) (leb-true type 6 q) (array_rest-sound s h t (rw (q₃, q₄, q₅, q) at e))) λ q₆.
    at 7 (leb-false type 6 q₆) i.1 (object_rest-sound s h t (rw (q₃, q₄, q₅, q₆) at e))
  where
    at : (n : ℕ) → n ≤ type → type ≤ n → BehindType n s h t → BehindType type s h t
    at n l u r = let z : n ≡ type = omega arith in rw z at r

behind_type-complete : (h : ValueHead) (t : List ℕ) → ValueHeadFits h → Reads (behind_type (type_of h)) (write_item (size_of h) ++ 44 ∷ (bytes_of h ++ t)) h t
unfolding behind_type type_of size_of bytes_of constant_rest number_rest string_rest array_rest object_rest pure
behind_type-complete (constant_head type) t f = rw (le-leb type 3 f.1) (unnumbered-reads _ refl)
behind_type-complete (number_head digits) t f = counted-reads digits _ f.0 (then-reads _ _ (ensure-reads _ _ f.1) refl)
behind_type-complete (string_head string) t f = counted-reads string _ f refl
behind_type-complete (array_head count) t f = numbered-reads 0 max_count count _ (omega arith, f) refl
behind_type-complete (object_head count) t f = numbered-reads 0 max_count count _ (omega arith, f) refl

type_of-range : (h : ValueHead) → ValueHeadFits h → (1 ≤ type_of h) × (type_of h ≤ 7)
unfolding type_of
type_of-range (constant_head type) f = omega arith
type_of-range (number_head digits) f = omega arith
type_of-range (string_head string) f = omega arith
type_of-range (array_head count) f = omega arith
type_of-range (object_head count) f = omega arith

value_head-parts : (h : ValueHead) (t : List ℕ) → write_value_head h ++ t
    ≡ ascii "V" ++ (write_item (type_of h) ++ (write_item (size_of h) ++ (ascii "," ++ (bytes_of h ++ (write_end ++ t)))))
unfolding write_type write_last
value_head-parts h t = rw value_head-fields (simp append_assoc)

value_head-sound : (s : List ℕ) (h : ValueHead) (t : List ℕ) → Reads value_head s h t → (s ≡ write_value_head h ++ t) × ValueHeadFits h
unfolding value_head write_end ascii
value_head-sound s h t e =
    past _ _ _ e λ s₁ e₁ e.
    step (item-exact _ _) _ _ e λ type s₂ e₂ h₂ e.
    bind_inv _ _ _ e λ g s₃ e₃ e.
    past _ _ _ e λ s₄ e₄ e.
    let q = pure-inv _ _ e in
    let r = behind_type-sound type s₂ g s₃ h₂ e₃ in
    rw (← q.0, ← q.1) (rw (value_head-parts, r.0, e₁, e₂, r.1, e₄), r.2)

value_head-complete : (h : ValueHead) (t : List ℕ) → ValueHeadFits h → anything t ≡ true → Reads value_head (write_value_head h ++ t) h t
unfolding value_head write_end ascii pure
value_head-complete h t f d =
    rw value_head-parts
    (then-reads _ _ (byte-complete 86 _)
    (bind-reads _ _ (item-complete 1 7 (type_of h) _ (type_of-range h f) (item-begins _ _))
    (bind-reads _ _ (behind_type-complete h _ f) (then-reads _ _ (byte-complete 10 _) refl))))

pub value_head-exact : Exact value_head write_value_head ValueHeadFits anything
value_head-exact = record { sound = value_head-sound; complete = value_head-complete }
