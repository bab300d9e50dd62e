-- What the readers of JSON answer: what the grammar reads from place `at` of the text on, and where its entries lie.
use Rattle.std.specs.Prelude.{ℕ, zero, suc, ◌+◌, ◌<◌, ◌≤◌, List, [], ◌∷◌, ◌++◌, ◌≡◌, length, take, drop, Option, Some, None}
use Rattle.std.proofs.Math.Option.{none, some}
use Rattle.text.specs.Numeral.{decimal_of}
use Rattle.text.specs.Reader.{Reader, ◌>>=◌, ◌>>◌, pure}
use Rattle.text.specs.ReadAt.{ReadsTo, Refuses}
use Rattle.text.specs.Ascii.{ascii}
use Rattle.sheet.specs.Write.{write_item, write_key_head}
use Rattle.sheet.specs.Operators.{Shape, shape_of}
use Rattle.definition.specs.Tree.{Condition}
use Rattle.definition.specs.Write.{write_value, write_values, write_pairs, count_of_values, count_of_pairs, write_condition, write_conditions, count_of_conditions}
use Rattle.buffer.specs.Laid.{Laid}
use Rattle.json_text.specs.Json.{Text, Json, number, string, array, object, Elements, Members}
use Rattle.json_text.specs.Strings as Strings
use Rattle.json_text.specs.Grammar.{number_text, spelled, elements_in, members_in, elements, members, value}
use Rattle.json_text.specs.BetweenAt.{key_of}
use Rattle.json_text.specs.Shaped.{many_in}
use Rattle.json_text.proofs.ShapedMembers.{elements_as, members_as}
use Rattle.json_rule.specs.Shape.{value_of, values_of, pairs_of, operator_of, two_from, the_only, conditions_from}
use Rattle.json_rule.specs.Streamed.{asked, flat, deep, streamed}

-- Parts of the grammar

-- behind the first quotation mark
unfoldable pub string_rest : Reader (List ℕ) Json
string_rest = do
  t ← Strings.string
  pure (string t)

unfoldable pub number_rest : Reader (List ℕ) Json
number_rest = do
  digits ← number_text
  pure (number digits)

-- behind the opening bracket
unfoldable pub elements_rest : Reader (List ℕ) Json → Reader (List ℕ) Json
elements_rest p = do
  vs ← elements p
  pure (array vs)

unfoldable pub members_rest : Reader (List ℕ) Json → Reader (List ℕ) Json
members_rest p = do
  ms ← members p
  pure (object ms)

unfoldable pub member_of : Reader (List ℕ) Json → Reader (List ℕ) (Text × Json)
member_of p = do
  key ← key_of
  v ← p
  pure (key, v)

-- Entries

-- what follows the head of an entry with a text
unfoldable pub headed : ℕ → Text → List ℕ
headed n text = decimal_of n ++ (44 ∷ (text ++ (10 ∷ [])))

-- such an entry, with whatever string is read there, if it has that many bytes
pub record LaysHeaded (head s : List ℕ) (at size : ℕ) (before after : List ℕ) (o r : ℕ) : Type 0 where
  pub lies : (text : Text) (next : ℕ) → ReadsTo Strings.string s at text next → length text ≡ size → Laid before after o (head ++ headed size text) r

-- a value, and its entries
pub record Given (p : Reader (List ℕ) Json) (s : List ℕ) (at : ℕ) (before after : List ℕ) (o next end : ℕ) : Type 0 where
  pub tree : Json
  pub read : ReadsTo p s at tree next
  pub lies : Laid before after o (write_value (value_of tree)) end

abbrev pub ValueIs : Reader (List ℕ) Json → List ℕ → ℕ → List ℕ → List ℕ → ℕ → Option (ℕ × ℕ) → Type 0
ValueIs p s at before after o (Some (next, end)) = Given p s at before after o next end
ValueIs p s at before after o None = Refuses p s at

-- the rest of a word, and an entry
pub record Worded (rest head s : List ℕ) (at : ℕ) (before after : List ℕ) (o next end : ℕ) : Type 0 where
  pub read : spelled rest (drop at s) ≡ some (tt, drop next s)
  pub forward : at ≤ next
  pub within : next ≤ length s
  pub lies : Laid before after o head end

abbrev pub WordIs : List ℕ → List ℕ → List ℕ → ℕ → List ℕ → List ℕ → ℕ → Option (ℕ × ℕ) → Type 0
WordIs rest head s at before after o (Some (next, end)) = Worded rest head s at before after o next end
WordIs rest head s at before after o None = Refuses (spelled rest) s at

-- a member, and its entries
pub record GivenMember (p : Reader (List ℕ) Json) (s : List ℕ) (at : ℕ) (before after : List ℕ) (o next end : ℕ) : Type 0 where
  pub member : Text × Json
  pub read : ReadsTo (member_of p) s at member next
  pub lies : Laid before after o (write_key_head member.0 ++ write_value (value_of member.1)) end

abbrev pub MemberIs : Reader (List ℕ) Json → List ℕ → ℕ → List ℕ → List ℕ → ℕ → Option (ℕ × ℕ) → Type 0
MemberIs p s at before after o (Some (next, end)) = GivenMember p s at before after o next end
MemberIs p s at before after o None = Refuses (member_of p) s at

-- Siblings, up to the closing bracket: what a reader reads in so many turns, its entries, and how many there are

module _ {T : Type 0} (many : ℕ → Reader (List ℕ) T) (write : T → List ℕ) (count : T → ℕ) where
  pub record Holding (turns : ℕ) (s : List ℕ) (at : ℕ) (before after : List ℕ) (o next end n : ℕ) : Type 0 where
    pub all : T
    pub reads : many turns (drop at s) ≡ some (all, drop next s)
    pub past : at < next
    pub within : next ≤ length s
    pub lies : Laid before after o (write all) end
    pub size : count all ≡ n

  abbrev pub ListIs : ℕ → List ℕ → ℕ → List ℕ → List ℕ → ℕ → Option (ℕ × ℕ × ℕ) → Type 0
  ListIs turns s at before after o (Some (next, end, n)) = Holding turns s at before after o next end n
  ListIs turns s at before after o None = many turns (drop at s) ≡ none

unfoldable pub entries_of_elements : Elements → List ℕ
entries_of_elements vs = write_values (values_of vs)

unfoldable pub count_of_elements : Elements → ℕ
count_of_elements vs = count_of_values (values_of vs)

unfoldable pub entries_of_members : Members → List ℕ
entries_of_members ms = write_pairs (pairs_of ms)

unfoldable pub count_of_members : Members → ℕ
count_of_members ms = count_of_pairs (pairs_of ms)

-- in as many turns as are enough
abbrev pub ElementsAre : Reader (List ℕ) Json → List ℕ → ℕ → List ℕ → List ℕ → ℕ → Option (ℕ × ℕ × ℕ) → Type 0
ElementsAre p s at before after o r =
    (turns : ℕ) → length s ≤ at + turns → ListIs (elements_in p) entries_of_elements count_of_elements turns s at before after o r

abbrev pub MembersAre : Reader (List ℕ) Json → List ℕ → ℕ → List ℕ → List ℕ → ℕ → Option (ℕ × ℕ × ℕ) → Type 0
MembersAre p s at before after o r =
    (turns : ℕ) → length s ≤ at + turns → ListIs (members_in p) entries_of_members count_of_members turns s at before after o r

-- Names

-- no name that is looked for is longer
abbrev pub word_bytes : ℕ
word_bytes = 12

-- a name of so many bytes, which lies in the word if it fits, and its value at `next`
pub record Named (s : List ℕ) (at : ℕ) (before after : List ℕ) (len next : ℕ) : Type 0 where
  pub name : Text
  pub read : ReadsTo key_of s at name next
  pub size : length name ≡ len
  pub held : len ≤ length before → take len after ≡ name

abbrev pub NameIs : List ℕ → ℕ → List ℕ → List ℕ → Option (ℕ × ℕ) → Type 0
NameIs s at before after (Some (len, next)) = Named s at before after len next
NameIs s at before after None = Refuses key_of s at

-- the number that stands for a name, and its value at `next`
pub record Chosen (f : Text → ℕ) (s : List ℕ) (at n next : ℕ) : Type 0 where
  pub name : Text
  pub read : ReadsTo key_of s at name next
  pub which : n ≡ f name

abbrev pub ChoiceIs : (Text → ℕ) → List ℕ → ℕ → Option (ℕ × ℕ) → Type 0
ChoiceIs f s at (Some (n, next)) = Chosen f s at n next
ChoiceIs f s at None = Refuses key_of s at

-- a member in the shape that its name asks for
unfoldable pub part_of : {C : Type 0} → (Text → Reader (List ℕ) C) → Reader (List ℕ) C
part_of q = key_of >>= q

-- Conditions

-- what follows the name of an operator of that shape
unfoldable pub operand_in : Shape → (op depth : ℕ) → Reader (List ℕ) Condition
operand_in sh op zero = flat sh op (streamed zero)
operand_in sh op (suc d) = deep sh op (streamed (suc d)) d (streamed d)

-- behind the bracket of an operator's two values
unfoldable pub pair_rest : (op depth : ℕ) → Reader (List ℕ) Condition
pair_rest op d = elements_as (value d >>= λ v. pure (value_of v)) >>= asked (two_from op)

-- behind the bracket of an operator and its operand
unfoldable pub operation_rest : ℕ → Reader (List ℕ) Condition
operation_rest d = members_as (λ key. operand_in (shape_of (operator_of key)) (operator_of key) d) >>= asked the_only

-- a condition's head up to its last number: C,op,
unfoldable pub operator_start : ℕ → List ℕ
operator_start op = ascii "C" ++ (write_item op ++ ascii ",")

-- a condition, and its entries
pub record GivenCondition (p : Reader (List ℕ) Condition) (s : List ℕ) (at : ℕ) (before after : List ℕ) (o next end : ℕ) : Type 0 where
  pub tree : Condition
  pub read : ReadsTo p s at tree next
  pub lies : Laid before after o (write_condition tree) end

abbrev pub ConditionIs : Reader (List ℕ) Condition → List ℕ → ℕ → List ℕ → List ℕ → ℕ → Option (ℕ × ℕ) → Type 0
ConditionIs p s at before after o (Some (next, end)) = GivenCondition p s at before after o next end
ConditionIs p s at before after o None = Refuses p s at

-- conditions side by side
unfoldable pub entries_of_conditions : List Condition → List ℕ
entries_of_conditions cs = write_conditions (conditions_from cs)

unfoldable pub count_of_conditions_from : List Condition → ℕ
count_of_conditions_from cs = count_of_conditions (conditions_from cs)

abbrev pub ConditionsAre : Reader (List ℕ) Condition → List ℕ → ℕ → List ℕ → List ℕ → ℕ → Option (ℕ × ℕ × ℕ) → Type 0
ConditionsAre p s at before after o r =
    (turns : ℕ) → length s ≤ at + turns → ListIs (many_in p) entries_of_conditions count_of_conditions_from turns s at before after o r
