-- JSON as it is written here: compact, with a backslash before " and \ and lower-case \u00xx below 20 hexadecimal as the only escapes, or with
-- the short ones as well.
use Rattle.std.specs.Prelude.{ℕ, ◌+◌, ◌/◌, ◌%◌, true, false, cond, ◌||◌, List, [], ◌∷◌, ◌++◌, leb, eqb}
use Prim.Native.Char.{code}
use Rattle.text.specs.Ascii.{ascii}
use Rattle.json_text.specs.Json.{Text, Json, null, truth, number, string, array, object, Elements, no_elements, element, Members, no_members, member}

-- whether \b \t \n \f \r are written
pub data Escapes : Type 0 where
  plain : Escapes
  short : Escapes

-- the letter of the short escape, 0 where there is none
unfoldable pub short_letter : ℕ → ℕ
short_letter b =
    cond (eqb b 0x8) (code "b")
    (cond (eqb b 0x9) (code "t")
    (cond (eqb b 0xA) (code "n")
    (cond (eqb b 0xC) (code "f")
    (cond (eqb b 0xD) (code "r") 0))))

unfoldable pub letter_of : Escapes → ℕ → ℕ
letter_of plain b = 0
letter_of short b = short_letter b

-- a hexadecimal digit
unfoldable pub hex_of : ℕ → ℕ
hex_of n = cond (leb n 9) (48 + n) (87 + n)

-- a byte below 20
unfoldable pub control_of : (letter : ℕ) → ℕ → List ℕ
control_of letter b = cond (eqb letter 0) (ascii "\\u00" ++ (hex_of (b / 16) ∷ hex_of (b % 16) ∷ [])) (0x5C ∷ letter ∷ [])

unfoldable pub escaped_byte : Escapes → ℕ → List ℕ
escaped_byte how b =
    cond (eqb b 0x22 || eqb b 0x5C) (0x5C ∷ b ∷ [])
    (cond (leb 0x20 b) (b ∷ []) (control_of (letter_of how b) b))

unfoldable pub escaped : Escapes → Text → List ℕ
escaped how [] = []
escaped how (b ∷ t) = escaped_byte how b ++ escaped how t

unfoldable pub quoted : Escapes → Text → List ℕ
quoted how t = 0x22 ∷ (escaped how t ++ (0x22 ∷ []))

unfoldable mutual
  pub written : Escapes → Json → List ℕ
  written how null = ascii "null"
  written how (truth true) = ascii "true"
  written how (truth false) = ascii "false"
  written how (number digits) = digits
  written how (string t) = quoted how t
  written how (array vs) = 0x5B ∷ written_elements how [] vs
  written how (object ms) = 0x7B ∷ written_members how [] ms

  -- each after a comma, if one is before it, and the closing bracket
  pub written_elements : Escapes → (before : List ℕ) → Elements → List ℕ
  written_elements how before no_elements = 0x5D ∷ []
  written_elements how before (element v others) = before ++ (written how v ++ written_elements how (0x2C ∷ []) others)

  pub written_members : Escapes → (before : List ℕ) → Members → List ℕ
  written_members how before no_members = 0x7D ∷ []
  written_members how before (member key v others) =
      before ++ (quoted how key ++ (0x3A ∷ (written how v ++ written_members how (0x2C ∷ []) others)))
