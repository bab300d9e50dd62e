-- The parts of a rule's JSON make its compact writing.
use Prim.Native.Nat.{ℕ, ◌+◌, ◌-◌, ◌≤◌, ◌<◌}
use native.Mathlib.Omega.{arith}
use mathlib.Core.List.{List, [], ◌∷◌, ◌++◌, append_assoc, append-nil}
use mathlib.Core.Logic.{⊎_elim}
use mathlib.Core.Option.{Option, none, some}
use mathlib.Core.Path.{◌≡◌, refl, sym, ap, ◌∙◌}
use lib.Dec.{leb}
use lib.ListN.{length, get_or-eq_default}
use borrow.Author.Tests.{leb-true, leb-false, le-leb, lt-leb, lt-ltb, le-ltb}
use Rattle.text.specs.Ascii.{ascii}
use Rattle.text.specs.CaseLaws.{by-test}
use Rattle.sheet.specs.Operators.{operator_name, not_operator, compare_operator}
use Rattle.sheet.proofs.OperatorLaws.{over, alike, name-past}
use Rattle.json_text.specs.Json.{Json, no_elements, element, no_members, member}
use Rattle.json_text.specs.Json as Json
use Rattle.json_text.specs.Escaped.{plain, letter_of, control_of, escaped_byte, escaped, quoted, written, written_elements, written_members}
use Rattle.definition.specs.Tree.{Text, Condition, literal, many, negation, one, two, comparison, quantifier, Conditions, no_conditions, condition, rule}
use Rattle.rule.specs.Nodes.{children_of}
use Rattle.rule.proofs.NodeSteps.{HasOperator}
use Rattle.json_rule.specs.Shape.{comparison_names}
use Rattle.json_rule.specs.AsJson.{comparison_name, as_json, operating, condition_as_json, conditions_as_elements, optionally}
use Rattle.to_json.specs.Parts.{value_text, opened, front_of, closing, joined, name_text, message_text}

-- Names need no escapes

name-escaped : (op : ℕ) → escaped plain (operator_name op) ≡ operator_name op
unfolding over operator_name ascii letter_of control_of escaped escaped_byte
name-escaped op =
    by-test (leb op 21)
    (λ q. let l = leb-true op 21 q in alike (λ (k : ℕ). escaped plain (operator_name k)) operator_name 0 22 refl op (omega arith) (omega arith))
    (λ q. let l = leb-false op 21 q in rw (name-past op (omega arith)))

comparison-escaped : (which : ℕ) → escaped plain (comparison_name which) ≡ comparison_name which
unfolding over comparison_name comparison_names ascii letter_of control_of escaped escaped_byte
comparison-escaped which =
    by-test (leb which 6)
    (λ q. let l = leb-true which 6 q in alike (λ (k : ℕ). escaped plain (comparison_name k)) comparison_name 0 7 refl which (omega arith) (omega arith))
    (λ q.
    let l = leb-false which 6 q in
    let past : length comparison_names ≤ which - 1 = omega arith in
    rw (get_or-eq_default comparison_names [] past))

-- What is behind the conditions

pub closing-literal : (op : ℕ) → op ≤ 1 → closing op ≡ []
unfolding closing
closing-literal op h = rw (le-leb op 1 h)

pub closing-many : (op : ℕ) → 1 < op → op < 4 → closing op ≡ ascii "]}"
unfolding closing
closing-many op l h = rw (lt-leb op 1 l, lt-ltb op 4 h)

pub closing-not : (op : ℕ) → 4 ≤ op → op ≤ 4 → closing op ≡ ascii "}"
unfolding closing
closing-not op l h = rw (lt-leb op 1 (omega arith), le-ltb op 4 l, le-leb op 4 h)

pub closing-values : (op : ℕ) → 4 < op → op ≤ 19 → closing op ≡ []
unfolding closing
closing-values op l h = rw (lt-leb op 1 (omega arith), le-ltb op 4 (omega arith), lt-leb op 4 l, le-leb op 19 h)

pub closing-quantifier : (op : ℕ) → 19 < op → closing op ≡ ascii "}}"
unfolding closing
closing-quantifier op l = rw (lt-leb op 1 (omega arith), le-ltb op 4 (omega arith), lt-leb op 4 (omega arith), lt-leb op 19 l)

-- Lists

in-object : (n w : List ℕ) → 0x7B ∷ ((0x22 ∷ (n ++ (0x22 ∷ []))) ++ (0x3A ∷ (w ++ (0x7D ∷ [])))) ≡ (0x7B ∷ 0x22 ∷ (n ++ (0x22 ∷ 0x3A ∷ []))) ++ (w ++ (0x7D ∷ []))
in-object n w = ap (λ (l : List ℕ). 0x7B ∷ 0x22 ∷ l) (append_assoc n (0x22 ∷ []) (0x3A ∷ (w ++ (0x7D ∷ []))) ∙ sym (append_assoc n (0x22 ∷ 0x3A ∷ []) (w ++ (0x7D ∷ []))))

-- an operator with its operand
operating-written : (op : ℕ) (v : Json) → opened op ++ (written plain v ++ ascii "}") ≡ written plain (operating op v)
unfolding opened ascii operating written written_members quoted
operating-written op v = rw (name-escaped op) (sym (in-object (operator_name op) (written plain v)))

many-parts : (o j : List ℕ) → (o ++ (0x5B ∷ [])) ++ (j ++ (0x5D ∷ 0x7D ∷ [])) ≡ o ++ ((0x5B ∷ (j ++ (0x5D ∷ []))) ++ (0x7D ∷ []))
many-parts o j = append_assoc o (0x5B ∷ []) (j ++ (0x5D ∷ 0x7D ∷ [])) ∙ ap (λ (l : List ℕ). o ++ (0x5B ∷ l)) (sym (append_assoc j (0x5D ∷ []) (0x7D ∷ [])))

two-parts : (o l r : List ℕ) → (o ++ (0x5B ∷ [])) ++ (l ++ (0x2C ∷ (r ++ (0x5D ∷ 0x7D ∷ [])))) ≡ o ++ ((0x5B ∷ (l ++ (0x2C ∷ (r ++ (0x5D ∷ []))))) ++ (0x7D ∷ []))
two-parts o l r =
    append_assoc o (0x5B ∷ []) (l ++ (0x2C ∷ (r ++ (0x5D ∷ 0x7D ∷ []))))
    ∙ ap (λ (x : List ℕ). o ++ (0x5B ∷ x))
    (ap (λ (x : List ℕ). l ++ (0x2C ∷ x)) (sym (append_assoc r (0x5D ∷ []) (0x7D ∷ []))) ∙ sym (append_assoc l (0x2C ∷ (r ++ (0x5D ∷ []))) (0x7D ∷ [])))

elements-joined : (before : List ℕ) (cs : Conditions) → written_elements plain before (conditions_as_elements cs) ≡ joined before cs ++ (0x5D ∷ [])
unfolding written_elements conditions_as_elements joined
elements-joined before no_conditions = refl
elements-joined before (condition c others) =
    rw (elements-joined (0x2C ∷ []) others)
    (sym
    (append_assoc before (written plain (condition_as_json c) ++ joined (0x2C ∷ []) others) (0x5D ∷ [])
    ∙ ap (λ (l : List ℕ). before ++ l) (append_assoc (written plain (condition_as_json c)) (joined (0x2C ∷ []) others) (0x5D ∷ []))))

-- Objects with three members

seven : (p l q n r t u e f : List ℕ) → p ++ (l ++ (q ++ (n ++ (r ++ (t ++ (u ++ (e ++ f))))))) ≡ (p ++ (l ++ (q ++ ((n ++ r) ++ (t ++ (u ++ e)))))) ++ f
seven p l q n r t u e f = simp append_assoc

six : (p v q n t w e f : List ℕ) → p ++ (v ++ (q ++ (n ++ (t ++ (w ++ (e ++ f)))))) ≡ (p ++ (v ++ (q ++ (n ++ (t ++ (w ++ e)))))) ++ f
six p v q n t w e f = simp append_assoc

moved : (o p v q n t x : List ℕ) → (o ++ (p ++ (v ++ (q ++ (n ++ t))))) ++ x ≡ o ++ (p ++ (v ++ (q ++ (n ++ (t ++ x)))))
moved o p v q n t x = simp append_assoc

in-front : (p q a x : List ℕ) → (p ++ (q ++ a)) ++ x ≡ p ++ (q ++ (a ++ x))
in-front p q a x = simp append_assoc

comparison-members : (left right : Json) (name : Text) → escaped plain name ≡ name
    → ascii "{\"left\":" ++ (written plain left ++ (ascii ",\"op\":\"" ++ (name ++ (ascii "\",\"right\":" ++ (written plain right ++ ascii "}}")))))
    ≡ written plain (Json.object (member (ascii "left") left (member (ascii "op") (Json.string name) (member (ascii "right") right no_members)))) ++ ascii "}"
unfolding ascii letter_of control_of quoted escaped escaped_byte written written_members
comparison-members left right name e =
    rw e (seven (ascii "{\"left\":") (written plain left) (ascii ",\"op\":\"") name (ascii "\"") (ascii ",\"right\":") (written plain right) (ascii "}") (ascii "}"))

quantifier-members : (collection body : Json) (name : Text)
    → ascii "{\"in\":" ++ (written plain collection ++ (ascii ",\"as\":" ++ (quoted plain name ++ (ascii ",\"that\":" ++ (written plain body ++ ascii "}}")))))
    ≡ written plain (Json.object (member (ascii "in") collection (member (ascii "as") (Json.string name) (member (ascii "that") body no_members)))) ++ ascii "}"
unfolding ascii letter_of control_of quoted escaped escaped_byte written written_members
quantifier-members collection body name =
    six (ascii "{\"in\":") (written plain collection) (ascii ",\"as\":") (quoted plain name) (ascii ",\"that\":") (written plain body) (ascii "}") (ascii "}")

-- A condition

none-held : (op : ℕ) (front : List ℕ) → closing op ≡ [] → front ++ (joined [] no_conditions ++ closing op) ≡ front
unfolding joined
none-held op front q = rw q (append-nil front)

pub only_child : (c : Condition) → joined [] (condition c no_conditions) ≡ written plain (condition_as_json c)
unfolding joined
only_child c = append-nil (written plain (condition_as_json c))

array_written : (cs : Conditions) → written plain (Json.array (conditions_as_elements cs)) ≡ 0x5B ∷ (joined [] cs ++ (0x5D ∷ []))
unfolding written
array_written cs = ap (λ (l : List ℕ). 0x5B ∷ l) (elements-joined [] cs)

many-held : (op : ℕ) (cs : Conditions) → (opened op ++ ascii "[") ++ (joined [] cs ++ ascii "]}") ≡ written plain (operating op (Json.array (conditions_as_elements cs)))
unfolding ascii
many-held op cs =
    many-parts (opened op) (joined [] cs)
    ∙ ap (λ (l : List ℕ). opened op ++ (l ++ ascii "}")) (sym (array_written cs))
    ∙ operating-written op (Json.array (conditions_as_elements cs))

two-held : (op : ℕ) (l r : Json)
    → (opened op ++ ascii "[") ++ (written plain l ++ (ascii "," ++ (written plain r ++ ascii "]}"))) ≡ written plain (operating op (Json.array (element l (element r no_elements))))
unfolding ascii written written_elements
two-held op l r = two-parts (opened op) (written plain l) (written plain r) ∙ operating-written op (Json.array (element l (element r no_elements)))

compared-held : (l r : Json) (name : Text) → escaped plain name ≡ name
    → opened compare_operator ++ (ascii "{\"left\":" ++ (written plain l ++ (ascii ",\"op\":\"" ++ (name ++ (ascii "\",\"right\":" ++ (written plain r ++ ascii "}}"))))))
    ≡ written plain (operating compare_operator (Json.object (member (ascii "left") l (member (ascii "op") (Json.string name) (member (ascii "right") r no_members)))))
compared-held l r name e =
    ap (λ (x : List ℕ). opened compare_operator ++ x) (comparison-members l r name e)
    ∙ operating-written compare_operator (Json.object (member (ascii "left") l (member (ascii "op") (Json.string name) (member (ascii "right") r no_members))))

scope-held : (op : ℕ) (collection body : Json) (name : Text)
    → (opened op ++ (ascii "{\"in\":" ++ (written plain collection ++ (ascii ",\"as\":" ++ (quoted plain name ++ ascii ",\"that\":"))))) ++ (written plain body ++ ascii "}}")
    ≡ written plain (operating op (Json.object (member (ascii "in") collection (member (ascii "as") (Json.string name) (member (ascii "that") body no_members)))))
scope-held op collection body name =
    moved (opened op) (ascii "{\"in\":") (written plain collection) (ascii ",\"as\":") (quoted plain name) (ascii ",\"that\":") (written plain body ++ ascii "}}")
    ∙ ap (λ (x : List ℕ). opened op ++ x) (quantifier-members collection body name)
    ∙ operating-written op (Json.object (member (ascii "in") collection (member (ascii "as") (Json.string name) (member (ascii "that") body no_members))))

pub condition-parts : (op : ℕ) (c : Condition) → HasOperator op c → front_of c ++ (joined [] (children_of c) ++ closing op) ≡ written plain (condition_as_json c)
unfolding value_text front_of children_of condition_as_json
condition-parts op (literal e t) h = none-held op (written plain (Json.truth t)) (closing-literal op (omega arith))
condition-parts op (many e own children) h = rw (closing-many op (omega (arith, h.1)) (omega (arith, h.2))) (many-held own children)
condition-parts op (negation e child) h = rw (closing-not op (omega arith) (omega arith), only_child child) (operating-written not_operator (condition_as_json child))
condition-parts op (one e own v) h =
    none-held op (opened own ++ (written plain (as_json v) ++ ascii "}"))
    (⊎_elim (λ q. closing-values op (omega arith) (omega arith)) (λ q. closing-values op (omega arith) (omega arith)) h.1)
    ∙ operating-written own (as_json v)
condition-parts op (two e own left right) h =
    none-held op ((opened own ++ ascii "[") ++ (written plain (as_json left) ++ (ascii "," ++ (written plain (as_json right) ++ ascii "]}"))))
    (closing-values op (omega (arith, h.1)) (omega (arith, h.2)))
    ∙ two-held own (as_json left) (as_json right)
condition-parts op (comparison e which left right) h =
    none-held op _ (closing-values op (omega arith) (omega arith)) ∙ compared-held (as_json left) (as_json right) (comparison_name which) (comparison-escaped which)
condition-parts op (quantifier e own name collection body) h =
    rw (closing-quantifier op (omega (arith, h.1)), only_child body) (scope-held own (as_json collection) (condition_as_json body) name)

-- A rule

pub rule-parts : (name message : Option Text) (v : Json)
    → name_text name ++ (written plain v ++ message_text message)
    ≡ written plain (Json.object (optionally (ascii "name") name (member (ascii "assert") v (optionally (ascii "message") message no_members))))
unfolding name_text message_text optionally ascii letter_of control_of quoted escaped escaped_byte written written_members
rule-parts none none v = refl
rule-parts none (some m) v = refl
rule-parts (some n) none v = in-front (ascii "{\"name\":") (quoted plain n) (ascii ",\"assert\":") (written plain v ++ ascii "}")
rule-parts (some n) (some m) v =
    in-front (ascii "{\"name\":") (quoted plain n) (ascii ",\"assert\":") (written plain v ++ (ascii ",\"message\":" ++ (quoted plain m ++ ascii "}")))
