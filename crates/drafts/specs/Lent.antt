-- What is lent to a draft: the rules that are open, and the field that comes or goes (document 02, T-14).
use Rattle.std.specs.Prelude.{ℕ, zero, suc, ◌+◌, ◌/◌, Bool, false, cond, ◌||◌, List, [], ◌∷◌, leb, length, take, drop}
use Rattle.std.proofs.Math.Option.{Option, none, some}
use Rattle.buffer.specs.Bytes.{number_at}
use Rattle.definition.specs.Tree.{Text, Field}
use Rattle.field_changes.specs.FieldText.{decode_field}
use Rattle.field_changes.specs.Draft.{Change, adding, removing}

-- a rule or template that is open
pub record LentRule : Type 0 where
  pub kind : ℕ
  pub semantics : ℕ
  pub label : List ℕ
  pub sheet : List ℕ

-- a head: kind, semantics, and how many bytes label and sheet have
abbrev pub head_bytes : ℕ
head_bytes = 16

abbrev pub label_size : (head : List ℕ) → ℕ
label_size head = number_at 8 head

abbrev pub sheet_size : (head : List ℕ) → ℕ
sheet_size head = number_at 12 head

-- the first rule of these heads and texts; a text that is longer than what there is ends there
unfoldable pub first_rule : (heads texts : List ℕ) → LentRule
first_rule heads texts =
    record {
      kind = number_at 0 heads;
      semantics = number_at 4 heads;
      label = take (label_size heads) texts;
      sheet = take (sheet_size heads) (drop (label_size heads) texts);
    }

-- the texts behind it
unfoldable pub behind_first : (heads texts : List ℕ) → List ℕ
behind_first heads texts = drop (label_size heads + sheet_size heads) texts

unfoldable pub rules_in : (count : ℕ) (heads texts : List ℕ) → List LentRule
rules_in zero heads texts = []
rules_in (suc k) heads texts = first_rule heads texts ∷ rules_in k (drop head_bytes heads) (behind_first heads texts)

-- as many as there are whole heads
unfoldable pub rules_lent : (heads texts : List ℕ) → List LentRule
rules_lent heads texts = rules_in (length heads / head_bytes) heads texts

unfoldable pub is_any : (LentRule → Bool) → List LentRule → Bool
is_any p [] = false
is_any p (r ∷ rules) = p r || is_any p rules

-- A schema's head takes ten bytes at least: a field that is too long to stand in any schema counts as malformed.
abbrev pub max_field_bytes : ℕ
max_field_bytes = 29990

unfoldable pub field_lent : (text : List ℕ) → Option (Text × Field)
field_lent text = let f = decode_field text in cond (leb (length text) max_field_bytes) f none

-- the text of a field that comes, or the name of one that goes
pub data Given : Type 0 where
  coming : (text : List ℕ) → Given
  going : (name : Text) → Given

unfoldable pub adding_of : Option (Text × Field) → Option Change
adding_of none = none
adding_of (some f) = some (adding f.0 f.1)

-- the change, if the field is well formed; the name of one that goes may be any bytes
unfoldable pub change_of : Given → Option Change
change_of (coming text) = adding_of (field_lent text)
change_of (going name) = some (removing name)
