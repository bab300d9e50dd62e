-- The entries of both sheets: a reader for each kind of entry, with a line for each of its fields (docs/FORMAT.md, "Sheets").
use Rattle.std.specs.Prelude.{ℕ, Bool, cond, List, length, leb, eqb}
use Rattle.std.proofs.Math.Option.{Option, none, some}
use Rattle.text.specs.Utf8.{is_utf8}
use Rattle.text.specs.Reader.{Reader, ◌>>=◌, ◌>>◌, ensure, pure, either}
use Rattle.text.specs.ByteReaders.{letter, comma, line_end, bytes}
use Rattle.text.specs.Numeral.{numeral}
use Rattle.number.specs.Grammar.{is_number}
use Rattle.sheet.specs.Operators.{Shape, literal, many, negation, one, two, comparison, quantifier, operator_count, shape_of}
use Rattle.sheet.specs.FieldKinds.{kind_count}

-- a name, tag, message, bind, key, string or number has at most this many bytes
abbrev pub max_text : ℕ
max_text = 512

-- no entry announces more than this many others: the entry limits are not above it
abbrev pub max_count : ℕ
max_count = 2048

abbrev pub dash : Reader (List ℕ) (Unit {0})
dash = letter "-"

-- the next field of an entry: a comma, and a numeral from `low` to `high`
unfoldable pub item : ℕ → ℕ → Reader (List ℕ) ℕ
item low high = do
  comma
  numeral low high

-- the next field, 0 or 1
unfoldable pub mark : Reader (List ℕ) Bool
mark = do
  n ← item 0 1
  pure (eqb n 1)

-- the next field, `-` where the text is absent, or its length
unfoldable pub text_length : Reader (List ℕ) (Option ℕ)
text_length =
    either
    (do
      comma
      dash
      pure none)
    (do
      n ← item 0 max_text
      pure (some n))

-- `n` bytes of UTF-8
unfoldable pub text : ℕ → Reader (List ℕ) (List ℕ)
text n = do
  t ← bytes n
  ensure (is_utf8 t)
  pure t

unfoldable pub optional_text : Option ℕ → Reader (List ℕ) (Option (List ℕ))
optional_text none = pure none
optional_text (some n) = do
  t ← text n
  pure (some t)

-- the open mark and the field count of the record or of the arguments
pub record HolderHead : Type 0 where
  pub is_open : Bool
  pub count : ℕ

unfoldable pub holder_head : Reader (List ℕ) HolderHead
holder_head = do
  is_open ← mark
  count ← item 0 max_count
  pure (record { is_open = is_open; count = count })

-- `-,0` where there are no arguments
unfoldable pub arguments_head : Reader (List ℕ) (Option HolderHead)
arguments_head =
    either
    (do
      comma
      dash
      item 0 0
      pure none)
    (do
      h ← holder_head
      pure (some h))

-- H,o,n,p,m
pub record SchemaHead : Type 0 where
  pub fields : HolderHead
  pub arguments : Option HolderHead

unfoldable pub schema_head : Reader (List ℕ) SchemaHead
schema_head = do
  letter "H"
  fields ← holder_head
  arguments ← arguments_head
  line_end
  pure (record { fields = fields; arguments = arguments })

-- F,kind,open,items,count,a,t,text
pub record FieldHead : Type 0 where
  pub kind : ℕ
  pub is_open : Bool
  pub has_items : Bool
  pub count : ℕ
  pub name : List ℕ
  pub tag : Option (List ℕ)

unfoldable pub field_head : Reader (List ℕ) FieldHead
field_head = do
  letter "F"
  kind ← item 1 kind_count
  is_open ← mark
  has_items ← mark
  count ← item 0 max_count
  a ← item 0 max_text
  t ← text_length
  comma
  name ← text a
  tag ← optional_text t
  line_end
  pure (record { kind = kind; is_open = is_open; has_items = has_items; count = count; name = name; tag = tag })

-- R,a,b,text or T
pub data RuleHead : Type 0 where
  rule : (name message : Option (List ℕ)) → RuleHead
  template : RuleHead

unfoldable pub rule_head : Reader (List ℕ) RuleHead
rule_head =
    either
    (do
      letter "R"
      a ← text_length
      b ← text_length
      comma
      name ← optional_text a
      message ← optional_text b
      line_end
      pure (rule name message))
    (do
      letter "T"
      line_end
      pure template)

-- C,op,n,text
pub data ConditionHead : Type 0 where
  literal_head : (truth : Bool) → ConditionHead
  many_head : (op count : ℕ) → ConditionHead
  negation_head : ConditionHead
  one_head : (op : ℕ) → ConditionHead
  two_head : (op : ℕ) → ConditionHead
  comparison_head : (which : ℕ) → ConditionHead
  quantifier_head : (op : ℕ) (bind : List ℕ) → ConditionHead

unfoldable pub behind_operator : ℕ → Shape → Reader (List ℕ) ConditionHead
behind_operator op literal = do
  truth ← mark
  comma
  pure (literal_head truth)
behind_operator op many = do
  n ← item 0 max_count
  comma
  pure (many_head op n)
behind_operator op negation = do
  item 0 0
  comma
  pure negation_head
behind_operator op one = do
  item 0 0
  comma
  pure (one_head op)
behind_operator op two = do
  item 0 0
  comma
  pure (two_head op)
behind_operator op comparison = do
  which ← item 1 6
  comma
  pure (comparison_head which)
behind_operator op quantifier = do
  n ← item 0 max_text
  comma
  bind ← text n
  pure (quantifier_head op bind)

unfoldable pub condition_head : Reader (List ℕ) ConditionHead
condition_head = do
  letter "C"
  op ← item 1 operator_count
  h ← behind_operator op (shape_of op)
  line_end
  pure h

-- V,type,n,text
pub data ValueHead : Type 0 where
  -- 1 null, 2 false, 3 true
  constant_head : (type : ℕ) → ValueHead
  number_head : (digits : List ℕ) → ValueHead
  string_head : (string : List ℕ) → ValueHead
  array_head : (count : ℕ) → ValueHead
  object_head : (count : ℕ) → ValueHead

unfoldable pub constant_rest : ℕ → Reader (List ℕ) ValueHead
constant_rest type = do
  item 0 0
  comma
  pure (constant_head type)

-- the text of a number is one of RFC 8259
unfoldable pub number_rest : Reader (List ℕ) ValueHead
number_rest = do
  n ← item 0 max_text
  comma
  t ← text n
  ensure (is_number t)
  pure (number_head t)

unfoldable pub string_rest : Reader (List ℕ) ValueHead
string_rest = do
  n ← item 0 max_text
  comma
  t ← text n
  pure (string_head t)

unfoldable pub array_rest : Reader (List ℕ) ValueHead
array_rest = do
  n ← item 0 max_count
  comma
  pure (array_head n)

unfoldable pub object_rest : Reader (List ℕ) ValueHead
object_rest = do
  n ← item 0 max_count
  comma
  pure (object_head n)

-- by type: 1 null, 2 false, 3 true, 4 number, 5 string, 6 array, 7 object
unfoldable pub behind_type : ℕ → Reader (List ℕ) ValueHead
behind_type type =
    cond (leb type 3) (constant_rest type)
    (cond (leb type 4) number_rest
    (cond (leb type 5) string_rest
    (cond (leb type 6) array_rest object_rest)))

unfoldable pub value_head : Reader (List ℕ) ValueHead
value_head = do
  letter "V"
  type ← item 1 7
  h ← behind_type type
  line_end
  pure h

-- K,n,key
unfoldable pub key_head : Reader (List ℕ) (List ℕ)
key_head = do
  letter "K"
  n ← item 0 max_text
  comma
  key ← text n
  line_end
  pure key
