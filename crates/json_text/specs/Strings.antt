-- Strings (RFC 8259, section 7): one function for each rule of its grammar, named after the rule. A char is the code point that it stands for.
use Rattle.std.specs.Prelude.{ℕ, zero, suc, ◌+◌, ◌*◌, ◌-◌, Bool, cond, not, ◌&&◌, List, [], ◌∷◌, ◌++◌, length, leb, eqb}
use Rattle.std.proofs.Math.Option.{Option, none, some, map}
use Rattle.text.specs.Utf8.{between, decode_one}
use Rattle.text.specs.Decimal.{is_digit}
use Rattle.text.specs.Reader.{Reader, ◌>>=◌, ◌>>◌, ensure, pure, refuse}
use Rattle.text.specs.ByteReaders.{byte}
use Rattle.json_text.specs.Encode.{utf8_of}

-- HEXDIG, of either case
unfoldable pub hex_value : ℕ → Option ℕ
hex_value b = cond (is_digit b) (some (b - 48)) (cond (between 0x41 0x46 b) (some (b - 55)) (cond (between 0x61 0x66 b) (some (b - 87)) none))

unfoldable pub hex_digit : Reader (List ℕ) ℕ
hex_digit [] = none
hex_digit (b ∷ s) = map (λ (v : ℕ). (v, s)) (hex_value b)

-- 4HEXDIG
unfoldable pub hex4 : Reader (List ℕ) ℕ
hex4 = do
  a ← hex_digit
  b ← hex_digit
  c ← hex_digit
  d ← hex_digit
  pure (a * 4096 + b * 256 + c * 16 + d)

-- a high surrogate takes a low one after it, which stands nowhere else
unfoldable pub paired : ℕ → Reader (List ℕ) ℕ
paired n =
    cond (between 0xD800 0xDBFF n)
    (do
      byte 0x5C
      byte 0x75
      m ← hex4
      ensure (between 0xDC00 0xDFFF m)
      pure (0x10000 + (n - 0xD800) * 1024 + (m - 0xDC00)))
    (cond (between 0xDC00 0xDFFF n) refuse (pure n))

unfoldable pub unicode : Reader (List ℕ) ℕ
unicode = do
  n ← hex4
  paired n

-- what follows a backslash but for u: " \ / b f n r t
unfoldable pub short_escape : ℕ → Option ℕ
short_escape b =
    cond (eqb b 0x22) (some 0x22)
    (cond (eqb b 0x5C) (some 0x5C)
    (cond (eqb b 0x2F) (some 0x2F)
    (cond (eqb b 0x62) (some 0x8)
    (cond (eqb b 0x66) (some 0xC)
    (cond (eqb b 0x6E) (some 0xA)
    (cond (eqb b 0x72) (some 0xD)
    (cond (eqb b 0x74) (some 0x9) none)))))))

-- after the backslash
unfoldable pub escape : Reader (List ℕ) ℕ
escape [] = none
escape (b ∷ s) = cond (eqb b 0x75) (unicode s) (map (λ (c : ℕ). (c, s)) (short_escape b))

-- %x20-21 / %x23-5_b / %x5_d-10_ffff; no code point is above that
unfoldable pub is_unescaped : ℕ → Bool
is_unescaped c = leb 0x20 c && (not (eqb c 0x22) && not (eqb c 0x5C))

unfoldable pub unescaped : Reader (List ℕ) ℕ
unescaped = do
  c ← decode_one
  ensure (is_unescaped c)
  pure c

unfoldable pub char : Reader (List ℕ) ℕ
char [] = none
char (b ∷ s) = cond (eqb b 0x5C) (escape s) (unescaped (b ∷ s))

-- *char quotation-mark, as the UTF-8 of its code points. Each char takes a byte at least, so as many turns as there are bytes are enough.
unfoldable pub char_then : Reader (List ℕ) (List ℕ) → Reader (List ℕ) (List ℕ)
char_then others = do
  c ← char
  t ← others
  pure (utf8_of c ++ t)

unfoldable pub chars_in : ℕ → Reader (List ℕ) (List ℕ)
chars_in zero s = none
chars_in (suc turns) [] = none
chars_in (suc turns) (b ∷ s) = let more = char_then (λ u. chars_in turns u) (b ∷ s) in cond (eqb b 0x22) (some ([], s)) more

-- the rest of a string, after its first quotation mark
unfoldable pub string : Reader (List ℕ) (List ℕ)
string s = chars_in (length s) s
