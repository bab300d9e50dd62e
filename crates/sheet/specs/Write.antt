-- The entries as they are written: the obvious writer of each head (docs/FORMAT.md, "Sheets").
use Rattle.std.specs.Prelude.{ℕ, Bool, true, false, List, [], ◌∷◌, ◌++◌, length}
use Rattle.std.proofs.Math.Option.{Option, none, some}
use Rattle.text.specs.Ascii.{ascii}
use Rattle.text.specs.Numeral.{decimal_of}
use Rattle.sheet.specs.Operators.{literal_operator, not_operator, compare_operator}
use Rattle.sheet.specs.Entries.{HolderHead, SchemaHead, FieldHead, RuleHead, rule, template, ConditionHead, literal_head, many_head, negation_head, one_head, two_head, comparison_head, quantifier_head, ValueHead, constant_head, number_head, string_head, array_head, object_head}

-- byte 0A ends an entry
unfoldable pub write_end : List ℕ
write_end = 10 ∷ []

-- a comma and a numeral
unfoldable pub write_item : ℕ → List ℕ
write_item n = ascii "," ++ decimal_of n

unfoldable pub mark_of : Bool → ℕ
mark_of false = 0
mark_of true = 1

unfoldable pub write_mark : Bool → List ℕ
write_mark b = write_item (mark_of b)

-- the length of a text, `-` where it is absent
unfoldable pub write_length : Option (List ℕ) → List ℕ
write_length none = ascii ",-"
write_length (some t) = write_item (length t)

unfoldable pub write_text : Option (List ℕ) → List ℕ
write_text none = []
write_text (some t) = t

unfoldable pub write_holder_head : HolderHead → List ℕ
write_holder_head h = write_mark h.is_open ++ write_item h.count

unfoldable pub write_arguments_head : Option HolderHead → List ℕ
write_arguments_head none = ascii ",-,0"
write_arguments_head (some h) = write_holder_head h

-- H,o,n,p,m
unfoldable pub write_schema_head : SchemaHead → List ℕ
write_schema_head h = ascii "H" ++ write_holder_head h.fields ++ write_arguments_head h.arguments ++ write_end

-- F,kind,open,items,count,a,t,text
unfoldable pub write_field_head : FieldHead → List ℕ
write_field_head h =
    ascii "F" ++ write_item h.kind ++ write_mark h.is_open ++ write_mark h.has_items ++ write_item h.count
    ++ write_item (length h.name) ++ write_length h.tag ++ ascii "," ++ h.name ++ write_text h.tag ++ write_end

-- R,a,b,text or T
unfoldable pub write_rule_head : RuleHead → List ℕ
write_rule_head (rule name message) =
    ascii "R" ++ write_length name ++ write_length message ++ ascii "," ++ write_text name ++ write_text message ++ write_end
write_rule_head template = ascii "T" ++ write_end

-- what follows the number that comes before a text: a comma, the text and the end
unfoldable pub write_last : List ℕ → List ℕ
write_last text = ascii "," ++ text ++ write_end

-- C,op,n,text
unfoldable pub write_operator : (op n : ℕ) → List ℕ → List ℕ
write_operator op n text = ascii "C" ++ write_item op ++ write_item n ++ write_last text

unfoldable pub write_condition_head : ConditionHead → List ℕ
write_condition_head (literal_head truth) = write_operator literal_operator (mark_of truth) []
write_condition_head (many_head op count) = write_operator op count []
write_condition_head negation_head = write_operator not_operator 0 []
write_condition_head (one_head op) = write_operator op 0 []
write_condition_head (two_head op) = write_operator op 0 []
write_condition_head (comparison_head which) = write_operator compare_operator which []
write_condition_head (quantifier_head op bind) = write_operator op (length bind) bind

-- V,type,n,text
unfoldable pub write_type : (type n : ℕ) → List ℕ → List ℕ
write_type type n text = ascii "V" ++ write_item type ++ write_item n ++ write_last text

unfoldable pub write_value_head : ValueHead → List ℕ
write_value_head (constant_head type) = write_type type 0 []
write_value_head (number_head digits) = write_type 4 (length digits) digits
write_value_head (string_head string) = write_type 5 (length string) string
write_value_head (array_head count) = write_type 6 count []
write_value_head (object_head count) = write_type 7 count []

-- K,n,key
unfoldable pub write_key_head : List ℕ → List ℕ
write_key_head key = ascii "K" ++ write_item (length key) ++ write_last key
