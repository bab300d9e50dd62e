-- A text that is written with its escapes is read back as it was.
use Rattle.std.specs.Prelude.{ℕ, zero, suc, ◌+◌, ◌-◌, ◌*◌, ◌/◌, ◌%◌, ◌≤◌, ◌<◌, true, false, ◌||◌, List, [], ◌∷◌, ◌++◌, ◌≡◌, length, leb, eqb}
use Rattle.std.proofs.lemmas.Bool.{false≢true, lt-leb, eqb-false}
use Rattle.std.proofs.Math.Option.{Option, none, some, none-ne-some}
use Rattle.std.proofs.Math.Path.{refl}
use Rattle.std.proofs.Common.{sym, ap, ◌∙◌, subst, arith, length-append, leb-true, leb-false, le-leb, eqb-true, ne_eqb}
use Rattle.text.specs.Utf8.{between, is_tail, utf8-1, utf8-2, utf8-3, utf8-4, or_else, decode_one, is_utf8}
use Rattle.text.specs.Decimal.{is_digit}
use Rattle.text.proofs.Shape.{Shape, one, two, three, four, decoded-shape, shape-shorter}
use Rattle.text.proofs.Bools.{and-true-0}
use Rattle.text.proofs.Points.{utf8-none, utf8-some}
use Rattle.text.specs.Ascii.{ascii}
use Rattle.text.specs.Reader.{◌>>=◌, ◌>>◌, and_then, ensure, pure}
use Rattle.text.specs.CaseLaws.{by-test}
use Rattle.json_text.specs.Encode.{utf8_of}
use Rattle.json_text.proofs.EncodeLaws.{one_of, decoded-is}
use Rattle.json_text.specs.Strings.{hex_value, hex_digit, hex4, paired, unicode, short_escape, escape, is_unescaped, unescaped, char, char_then, chars_in, string}
use Rattle.json_text.specs.Escaped.{Escapes, plain, short, short_letter, letter_of, hex_of, control_of, escaped_byte, escaped}

-- One char, and those after it.

pub char-then : (m b : ℕ) (s : List ℕ) {c : ℕ} {u t rest : List ℕ} → eqb b 0x22 ≡ false → char (b ∷ s) ≡ some (c, u) → chars_in m u ≡ some (t, rest)
    → chars_in (suc m) (b ∷ s) ≡ some (utf8_of c ++ t, rest)
unfolding chars_in char_then ◌>>=◌ and_then pure
char-then m b s e f g = rw (e, f, g)

pub char-plain : (b : ℕ) (s : List ℕ) {c : ℕ} {u : List ℕ} → eqb b 0x5C ≡ false → decode_one (b ∷ s) ≡ some (c, u) → is_unescaped c ≡ true
    → char (b ∷ s) ≡ some (c, u)
unfolding char unescaped ◌>>=◌ ◌>>◌ and_then ensure pure
char-plain b s e f g = rw (e, f, g)

pub char-escape : (s : List ℕ) → char (0x5C ∷ s) ≡ escape s
unfolding char
char-escape s = refl

pub is-unescaped : (c : ℕ) → 0x20 ≤ c → (c ≡ 0x22 → ⊥) → (c ≡ 0x5C → ⊥) → is_unescaped c ≡ true
unfolding is_unescaped
is-unescaped c h q b = rw (le-leb 0x20 c h, ne_eqb c 0x22 q, ne_eqb c 0x5C b)

-- Bytes that are no ASCII are written as they are, and stand for code points from 80 on.

pub escaped-plain : (how : Escapes) (b : ℕ) (t : List ℕ) → 0x20 ≤ b → (b ≡ 0x22 → ⊥) → (b ≡ 0x5C → ⊥) → escaped how (b ∷ t) ≡ b ∷ escaped how t
unfolding escaped escaped_byte
escaped-plain how b t h q k = rw (ne_eqb b 0x22 q, ne_eqb b 0x5C k, le-leb 0x20 b h)

low-one : (c : ℕ) → c < 0x80 → length (utf8_of c) ≡ 1
unfolding utf8_of
low-one c h = rw (le-leb c 0x7F (omega arith))

-- what takes two bytes or more is from 80 on
pub above : (c : ℕ) (s t : List ℕ) → decode_one s ≡ some (c, t) → 2 + length t ≤ length s → 0x80 ≤ c
above c s t e h =
    by-test (leb 0x80 c) (λ l. leb-true 0x80 c l)
    (λ l.
    let low = leb-false 0x80 c l in
    let same = ap length (decoded-is s e) in
    let both = length-append (utf8_of c) t in
    let single = low-one c (omega arith) in
    absurd (omega arith))

far-false : (b : ℕ) → 0x80 ≤ b → eqb b 0x22 ≡ false
far-false b h = ne_eqb b 0x22 (λ e. absurd (omega arith))

-- ASCII, by how it is escaped

ascii-decodes : (a : ℕ) (s : List ℕ) → a ≤ 0x7F → decode_one (a ∷ s) ≡ some (a, s)
unfolding decode_one utf8-1 or_else
ascii-decodes a s h = rw (le-leb a 0x7F h)

quote-back : (s : List ℕ) → char (0x5C ∷ 0x22 ∷ s) ≡ some (0x22, s)
unfolding char escape short_escape
quote-back s = refl

backslash-back : (s : List ℕ) → char (0x5C ∷ 0x5C ∷ s) ≡ some (0x5C, s)
unfolding char escape short_escape
backslash-back s = refl

hex-back : (n : ℕ) (s : List ℕ) → n < 16 → hex_digit (hex_of n ∷ s) ≡ some (n, s)
unfolding hex_digit hex_value hex_of is_digit between
hex-back n s h =
    by-test (leb n 9)
    (λ l.
    let k = leb-true n 9 l in
    let v : 48 + n - 48 ≡ n = omega arith in
    rw (l, le-leb 48 (48 + n) (omega arith), le-leb (48 + n) 57 (omega arith), v))
    (λ l.
    let k = leb-false n 9 l in
    let v : 87 + n - 87 ≡ n = omega arith in
    rw (l, le-leb 48 (87 + n) (omega arith), lt-leb (87 + n) 57 (omega arith), le-leb 65 (87 + n) (omega arith), lt-leb (87 + n) 70 (omega arith), le-leb 97 (87 + n) (omega arith), le-leb (87 + n) 102 (omega arith), v))

control-written : (how : Escapes) (a : ℕ) (t : List ℕ) → a < 0x20 → escaped how (a ∷ t) ≡ control_of (letter_of how a) a ++ escaped how t
unfolding escaped escaped_byte
control-written how a t h = rw (ne_eqb a 0x22 (λ e. absurd (omega arith)), ne_eqb a 0x5C (λ e. absurd (omega arith)), lt-leb 0x20 a h)

-- by the letter, or by the number
letter-written : (letter a : ℕ) → eqb letter 0 ≡ false → control_of letter a ≡ 0x5C ∷ letter ∷ []
unfolding control_of
letter-written letter a e = rw e

number-written : (letter a : ℕ) → eqb letter 0 ≡ true → control_of letter a ≡ 0x5C ∷ 0x75 ∷ 0x30 ∷ 0x30 ∷ hex_of (a / 16) ∷ hex_of (a % 16) ∷ []
unfolding control_of ascii
number-written letter a e = rw e

zero-hex : (s : List ℕ) → hex_digit (0x30 ∷ s) ≡ some (0, s)
unfolding hex_digit hex_value is_digit between
zero-hex s = refl

not-paired : (n : ℕ) (s : List ℕ) → n < 0xD800 → paired n s ≡ some (n, s)
unfolding paired between pure
not-paired n s h = rw (lt-leb 0xD800 n h, lt-leb 0xDC00 n (omega arith))

control-back : (a : ℕ) (s : List ℕ) → a < 0x20 → char (0x5C ∷ 0x75 ∷ 0x30 ∷ 0x30 ∷ hex_of (a / 16) ∷ hex_of (a % 16) ∷ s) ≡ some (a, s)
unfolding char escape unicode hex4 ◌>>=◌ and_then pure
control-back a s h =
    let value : 0 * 4096 + 0 * 256 + a / 16 * 16 + a % 16 ≡ a = omega arith in
    rw (zero-hex, zero-hex, hex-back (a / 16) (hex_of (a % 16) ∷ s) (omega arith), hex-back (a % 16) s (omega arith), value, not-paired a s (omega arith))

short_back : (a : ℕ) (s : List ℕ) → eqb (short_letter a) 0 ≡ false → char (0x5C ∷ short_letter a ∷ s) ≡ some (a, s)
unfolding char escape short_escape short_letter
short_back a s h =
    by-test (eqb a 0x8) (λ e. rw (eqb-true a 0x8 e))
    (λ not-b.
    by-test (eqb a 0x9) (λ e. rw (eqb-true a 0x9 e))
    (λ not_t.
    by-test (eqb a 0xA) (λ e. rw (eqb-true a 0xA e))
    (λ not-n.
    by-test (eqb a 0xC) (λ e. rw (eqb-true a 0xC e))
    (λ not_f.
    by-test (eqb a 0xD) (λ e. rw (eqb-true a 0xD e))
    (λ not-r. absurd (false≢true (sym h ∙ rw (not-b, not_t, not-n, not_f, not-r))))))))

letter-back : (how : Escapes) (a : ℕ) (s : List ℕ) → eqb (letter_of how a) 0 ≡ false → char (0x5C ∷ letter_of how a ∷ s) ≡ some (a, s)
unfolding letter_of
letter-back plain a s h = absurd (false≢true (sym h))
letter-back short a s h = short_back a s h

-- One code point more, in front of what is read back.

-- what is read back at any number of turns that is enough
abbrev Back : Escapes → ℕ → List ℕ → List ℕ → Type 0
Back how m u rest = chars_in m (escaped how u ++ (0x22 ∷ rest)) ≡ some (u, rest)

module _ (how : Escapes) (m : ℕ) (u rest : List ℕ) (back : Back how m u rest) where
  step : (t : List ℕ) (b c : ℕ) (s : List ℕ)
      → escaped how t ++ (0x22 ∷ rest) ≡ b ∷ s
      → eqb b 0x22 ≡ false
      → char (b ∷ s) ≡ some (c, escaped how u ++ (0x22 ∷ rest))
      → utf8_of c ++ u ≡ t
      → Back how (suc m) t rest
  step t b c s w e f g =
      ap (λ (x : List ℕ). chars_in (suc m) x) w ∙ char-then m b s e f back ∙ ap (λ (x : List ℕ). some (x, rest)) g

  written-quote : escaped how (0x22 ∷ u) ++ (0x22 ∷ rest) ≡ 0x5C ∷ 0x22 ∷ (escaped how u ++ (0x22 ∷ rest))
  unfolding escaped escaped_byte
  written-quote = refl

  written-backslash : escaped how (0x5C ∷ u) ++ (0x22 ∷ rest) ≡ 0x5C ∷ 0x5C ∷ (escaped how u ++ (0x22 ∷ rest))
  unfolding escaped escaped_byte
  written-backslash = refl

  one-in-front : (a : ℕ) → a ≤ 0x7F → utf8_of a ++ u ≡ a ∷ u
  one-in-front a h = rw (one_of a h)

  ascii_back : (a : ℕ) → a ≤ 0x7F → Back how (suc m) (a ∷ u) rest
  ascii_back a low =
      by-test (eqb a 0x22)
      (λ q.
      subst (λ (x : ℕ). Back how (suc m) (x ∷ u) rest) (sym (eqb-true a 0x22 q))
      (step (0x22 ∷ u) 0x5C 0x22 _ written-quote refl (quote-back _) (one-in-front 0x22 (omega arith))))
      (λ q.
      by-test (eqb a 0x5C)
      (λ b.
      subst (λ (x : ℕ). Back how (suc m) (x ∷ u) rest) (sym (eqb-true a 0x5C b))
      (step (0x5C ∷ u) 0x5C 0x5C _ written-backslash refl (backslash-back _) (one-in-front 0x5C (omega arith))))
      (λ b.
      by-test (leb 0x20 a)
      (λ l.
      let h = leb-true 0x20 a l in
      step (a ∷ u) a a _ (rw (escaped-plain how a u h (eqb-false a 0x22 q) (eqb-false a 0x5C b))) q
      (char-plain a _ b (ascii-decodes a _ low) (is-unescaped a h (eqb-false a 0x22 q) (eqb-false a 0x5C b)))
      (one-in-front a low))
      (λ l.
      let h = leb-false 0x20 a l in
      by-test (eqb (letter_of how a) 0)
      (λ z. step (a ∷ u) 0x5C a _ (rw (control-written how a u h, number-written (letter_of how a) a z)) refl (control-back a _ h) (one-in-front a low))
      (λ z. step (a ∷ u) 0x5C a _ (rw (control-written how a u h, letter-written (letter_of how a) a z)) refl (letter-back how a _ z) (one-in-front a low)))))

  -- bytes that are no ASCII
  far-plain : (b : ℕ) (t : List ℕ) → 0x80 ≤ b → escaped how (b ∷ t) ≡ b ∷ escaped how t
  far-plain b t h = escaped-plain how b t (omega arith) (λ e. absurd (omega arith)) (λ e. absurd (omega arith))

  far-back : (a c : ℕ) (t s : List ℕ)
      → 0x80 ≤ a
      → 0x80 ≤ c
      → escaped how t ++ (0x22 ∷ rest) ≡ a ∷ s
      → decode_one (a ∷ s) ≡ some (c, escaped how u ++ (0x22 ∷ rest))
      → utf8_of c ++ u ≡ t
      → Back how (suc m) t rest
  far-back a c t s h k w d g =
      step t a c s w (far-false a h)
      (char-plain a s (ne_eqb a 0x5C (λ e. absurd (omega arith))) d
      (is-unescaped c (omega arith) (λ e. absurd (omega arith)) (λ e. absurd (omega arith)))) g

-- the first byte of a code point that has several is none of ASCII
first-far : (a : ℕ) (s : List ℕ) {w : ℕ} {t : List ℕ} → decode_one (a ∷ s) ≡ some (w, t) → 1 + length t < 1 + length s → 0x80 ≤ a
first-far a s {w} {t} e h =
    by-test (leb a 0x7F)
    (λ l.
    let same : some (a, s) ≡ some (w, t) = sym (ascii-decodes a s (leb-true a 0x7F l)) ∙ e in
    let tails : length s ≡ length t = ap (λ (o : Option (ℕ × List ℕ)). rest_length o) same in
    absurd (omega arith))
    (λ l. leb-false a 0x7F l)
  where
    rest_length : Option (ℕ × List ℕ) → ℕ
    rest_length none = 0
    rest_length (some r) = length r.1

lone-none : (a : ℕ) → 0x7F < a → decode_one (a ∷ []) ≡ none
unfolding decode_one utf8-1 utf8-2 utf8-3 utf8-4 or_else
lone-none a h = rw (lt-leb a 0x7F h)

tail-far : (b : ℕ) → is_tail b ≡ true → 0x80 ≤ b
unfolding is_tail between
tail-far b e = leb-true 0x80 b (and-true-0 _ _ e)

far-1 : (how : Escapes) {a : ℕ} → 0x80 ≤ a → (u : List ℕ) → escaped how (a ∷ u) ≡ a ∷ escaped how u
far-1 how {a} h u = escaped-plain how a u (omega arith) (λ e. absurd (omega arith)) (λ e. absurd (omega arith))

shape-back : (how : Escapes) (m : ℕ) (rest : List ℕ) {t u : List ℕ} {w : ℕ} → Shape t w u → decode_one t ≡ some (w, u) → Back how m u rest → Back how (suc m) t rest
shape-back how m rest (one {a = a} {w = w} {t = u} f) e back =
    by-test (leb a 0x7F) (λ l. ascii_back how m u rest back a (leb-true a 0x7F l))
    (λ l. absurd (none-ne-some _ (sym (lone-none a (leb-false a 0x7F l)) ∙ f [])))
shape-back how m rest (two {a = a} {b = b} {w = w} {t = u} f p) e back =
    let h = first-far a (b ∷ u) e (omega arith) in
    let k = tail-far b p in
    far-back how m u rest back a w (a ∷ b ∷ u) (b ∷ (escaped how u ++ (0x22 ∷ rest))) h (above w (a ∷ b ∷ u) u e (omega arith))
    (rw (far-1 how h (b ∷ u), far-1 how k u)) (f _) (sym (decoded-is (a ∷ b ∷ u) e))
shape-back how m rest (three {a = a} {b = b} {c = c} {w = w} {t = u} f p q) e back =
    let h = first-far a (b ∷ c ∷ u) e (omega arith) in
    let k = tail-far b p in
    let l = tail-far c q in
    far-back how m u rest back a w (a ∷ b ∷ c ∷ u) (b ∷ c ∷ (escaped how u ++ (0x22 ∷ rest))) h (above w (a ∷ b ∷ c ∷ u) u e (omega arith))
    (rw (far-1 how h (b ∷ c ∷ u), far-1 how k (c ∷ u), far-1 how l u)) (f _) (sym (decoded-is (a ∷ b ∷ c ∷ u) e))
shape-back how m rest (four {a = a} {b = b} {c = c} {d = d} {w = w} {t = u} f p q r) e back =
    let h = first-far a (b ∷ c ∷ d ∷ u) e (omega arith) in
    let k = tail-far b p in
    let l = tail-far c q in
    let j = tail-far d r in
    far-back how m u rest back a w (a ∷ b ∷ c ∷ d ∷ u) (b ∷ c ∷ d ∷ (escaped how u ++ (0x22 ∷ rest))) h
    (above w (a ∷ b ∷ c ∷ d ∷ u) u e (omega arith))
    (rw (far-1 how h (b ∷ c ∷ d ∷ u), far-1 how k (c ∷ d ∷ u), far-1 how l (d ∷ u), far-1 how j u)) (f _) (sym (decoded-is (a ∷ b ∷ c ∷ d ∷ u) e))

nothing-back : (how : Escapes) (m : ℕ) (rest : List ℕ) → Back how (suc m) [] rest
unfolding chars_in escaped
nothing-back how m rest = refl

-- what a UTF-8 text begins with
utf8-begins : {A : Type 0} (a : ℕ) (t : List ℕ) → is_utf8 (a ∷ t) ≡ true
    → ((w : ℕ) (u : List ℕ) → decode_one (a ∷ t) ≡ some (w, u) → is_utf8 u ≡ true → A) → A
utf8-begins {A} a t valid f = go (decode_one (a ∷ t)) refl
  where
    go : (o : Option (ℕ × List ℕ)) → decode_one (a ∷ t) ≡ o → A
    go none e = absurd (false≢true (sym (utf8-none (a ∷ t) (omega arith) e) ∙ valid))
    go (some r) e = f r.0 r.1 e (sym (utf8-some (a ∷ t) e) ∙ valid)

pub chars-back : (how : Escapes) (n : ℕ) (t rest : List ℕ) → length t < n → is_utf8 t ≡ true → chars_in n (escaped how t ++ (0x22 ∷ rest)) ≡ some (t, rest)
chars-back how zero t rest h valid = absurd (omega arith)
chars-back how (suc n) [] rest h valid = nothing-back how n rest
chars-back how (suc n) (a ∷ t) rest h valid =
    utf8-begins a t valid
    (λ w u e v.
    let shape = decoded-shape (a ∷ t) (w, u) e in
    let shorter = shape-shorter shape in
    shape-back how n rest shape e (chars-back how n u rest (omega arith) v))

control-longer : (letter b : ℕ) → 1 ≤ length (control_of letter b)
unfolding control_of ascii
control-longer letter b = by-test (eqb letter 0) (λ e. rw e (omega arith)) (λ e. rw e (omega arith))

escaped-byte : (how : Escapes) (b : ℕ) → 1 ≤ length (escaped_byte how b)
unfolding escaped_byte
escaped-byte how b =
    by-test (eqb b 0x22 || eqb b 0x5C) (λ e. rw e (omega arith))
    (λ e. rw e (by-test (leb 0x20 b) (λ l. rw l (omega arith)) (λ l. rw l (control-longer (letter_of how b) b))))

escaped-longer : (how : Escapes) (t : List ℕ) → length t ≤ length (escaped how t)
unfolding escaped
escaped-longer how [] = omega arith
escaped-longer how (b ∷ t) =
    let more = escaped-longer how t in
    let one_more = escaped-byte how b in
    let both = length-append (escaped_byte how b) (escaped how t) in
    omega arith

-- a string's text, escaped and in quotation marks, is read back
pub escape-back : (how : Escapes) (t rest : List ℕ) → is_utf8 t ≡ true → string (escaped how t ++ (0x22 ∷ rest)) ≡ some (t, rest)
unfolding string
escape-back how t rest valid =
    let more = escaped-longer how t in
    let both = length-append (escaped how t) (0x22 ∷ rest) in
    chars-back how (length (escaped how t ++ (0x22 ∷ rest))) t rest (omega arith) valid
