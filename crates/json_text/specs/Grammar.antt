-- JSON text (RFC 8259, section 2): a value with white space around it. Arrays and objects nest as deep as is said, the outermost counting 1.
use Rattle.std.specs.Prelude.{ℕ, zero, suc, Bool, true, false, cond, ◌||◌, List, [], ◌∷◌, length, eqb}
use Rattle.std.proofs.Math.Option.{Option, none, some, map}
use Rattle.text.specs.Decimal.{is_digit}
use Rattle.text.specs.Ascii.{ascii}
use Rattle.text.specs.Reader.{Reader, ◌>>=◌, ◌>>◌, ensure, pure, refuse, either}
use Rattle.text.specs.ByteReaders.{byte}
use Rattle.number.specs.Grammar.{is_number}
use Rattle.json_text.specs.Json.{Text, Json, null, truth, number, string, array, object, Elements, no_elements, element, Members, no_members, member}
use Rattle.json_text.specs.Strings as Strings

-- ws = *( %x20 / %x09 / %x0_a / %x0_d )
unfoldable pub is_space : ℕ → Bool
is_space b = eqb b 0x20 || (eqb b 0x09 || (eqb b 0x0A || eqb b 0x0D))

unfoldable pub unspaced : List ℕ → List ℕ
unspaced [] = []
unspaced (b ∷ s) = let more = unspaced s in cond (is_space b) more (b ∷ s)

unfoldable pub spaces : Reader (List ℕ) (Unit {0})
spaces s = some (tt, unspaced s)

-- a number's bytes; what may follow a number in a text is none of them, so it is the longest run of them
unfoldable pub is_of_number : ℕ → Bool
is_of_number b = is_digit b || (eqb b 0x2B || (eqb b 0x2D || (eqb b 0x2E || (eqb b 0x45 || eqb b 0x65))))

unfoldable pub number_run : List ℕ → List ℕ × List ℕ
number_run [] = ([], [])
number_run (b ∷ s) = let more = number_run s in cond (is_of_number b) (b ∷ more.0, more.1) ([], b ∷ s)

unfoldable pub number_text : Reader (List ℕ) Text
number_text s = cond (is_number (number_run s).0) (some (number_run s)) none

-- the bytes of a word
unfoldable pub spelled : List ℕ → Reader (List ℕ) (Unit {0})
spelled [] = pure tt
spelled (b ∷ w) = do
  byte b
  spelled w

unfoldable pub scalar : Reader (List ℕ) Json
scalar [] = none
scalar (b ∷ s) =
    cond (eqb b 0x22)
    ((do
      t ← Strings.string
      pure (string t)) s)
    (cond (eqb b 0x6E)
    ((do
      spelled (ascii "ull")
      pure null) s)
    (cond (eqb b 0x74)
    ((do
      spelled (ascii "rue")
      pure (truth true)) s)
    (cond (eqb b 0x66)
    ((do
      spelled (ascii "alse")
      pure (truth false)) s)
    ((do
      digits ← number_text
      pure (number digits)) (b ∷ s)))))

-- a comma, and then there is more; or the closing bracket
unfoldable pub comma_or : ℕ → Reader (List ℕ) Bool
comma_or close [] = none
comma_or close (b ∷ s) = cond (eqb b 0x2C) (some (true, s)) (cond (eqb b close) (some (false, s)) none)

unfoldable pub elements_after : Reader (List ℕ) Elements → Bool → Reader (List ℕ) Elements
elements_after p false = pure no_elements
elements_after p true = p

unfoldable pub members_after : Reader (List ℕ) Members → Bool → Reader (List ℕ) Members
members_after p false = pure no_members
members_after p true = p

module _ (value : Reader (List ℕ) Json) where
  -- value *( value-separator value ) end-array; each takes a byte at least, so as many turns as there are bytes are enough
  unfoldable pub elements_in : ℕ → Reader (List ℕ) Elements
  elements_in zero = refuse
  elements_in (suc turns) = do
    spaces
    v ← value
    spaces
    more ← comma_or 0x5D
    others ← elements_after (λ s. elements_in turns s) more
    pure (element v others)

  -- member *( value-separator member ) end-object, member = string name-separator value
  unfoldable pub members_in : ℕ → Reader (List ℕ) Members
  members_in zero = refuse
  members_in (suc turns) = do
    spaces
    byte 0x22
    key ← Strings.string
    spaces
    byte 0x3A
    spaces
    v ← value
    spaces
    more ← comma_or 0x7D
    others ← members_after (λ s. members_in turns s) more
    pure (member key v others)

  -- behind the opening bracket: the closing one, or what is held
  unfoldable pub elements : Reader (List ℕ) Elements
  elements =
      either
      (do
        spaces
        byte 0x5D
        pure no_elements)
      (λ s. elements_in (length s) s)

  unfoldable pub members : Reader (List ℕ) Members
  members =
      either
      (do
        spaces
        byte 0x7D
        pure no_members)
      (λ s. members_in (length s) s)

  unfoldable pub container : Reader (List ℕ) Json
  container =
      either
      (do
        byte 0x5B
        vs ← elements
        pure (array vs))
      (do
        byte 0x7B
        ms ← members
        pure (object ms))

unfoldable pub value : ℕ → Reader (List ℕ) Json
value zero = scalar
value (suc depth) = either scalar (container (value depth))

abbrev pub max_depth : ℕ
max_depth = 1024

unfoldable pub at_end : Reader (List ℕ) (Unit {0})
at_end s = ensure (eqb (length s) 0) s

-- JSON-text = ws value ws
unfoldable pub document : List ℕ → Option Json
document s =
    map (λ (r : Json × List ℕ). r.0)
    ((do
      spaces
      v ← value max_depth
      spaces
      at_end
      pure v) s)
