-- JSON that is read from a text is sound: its strings are UTF-8, and the texts of its numbers are numbers.
use Prim.Native.Nat.{ℕ, zero, suc, ◌+◌, ◌*◌, ◌-◌, ◌/◌, ◌%◌, ◌≤◌, ◌<◌}
use native.Mathlib.Omega.{arith}
use Rattle.std.specs.Prelude.{Bool, cond, ◌&&◌, ◌||◌, List, [], ◌∷◌, ◌++◌, ◌⊎◌, ◌≡◌, leb, eqb, length}
use Rattle.std.proofs.Math.Bool.{true, false}
use Rattle.std.proofs.lemmas.Bool.{false≢true}
use Rattle.std.proofs.Common.{append-nil, inl, inr, sym, ap, subst, ◌∙◌}
use Rattle.std.proofs.Math.Option.{Option, none, some, map}
use Rattle.std.proofs.Math.Path.{refl}
use borrow.Author.Tests.{leb-true, leb-false, le-leb, lt-leb, eqb-true}
use Rattle.text.specs.Ascii.{ascii}
use Rattle.text.specs.ByteReaders.{byte}
use Rattle.text.specs.CaseLaws.{by-test}
use Rattle.text.specs.Decimal.{is_digit}
use Rattle.text.specs.Reader.{Reader, ◌>>=◌, ◌>>◌, and_then, ensure, pure, refuse, either, or_else}
use Rattle.text.specs.Utf8 as Utf8
use Rattle.text.specs.Utf8.{between, is_tail, utf8-1, is_utf8-2, code_of2, utf8-2, is_second_of3, is_utf8-3, code_of3, utf8-3, is_second_of4, is_utf8-4, code_of4, utf8-4, decode_one, is_utf8}
use Rattle.text.proofs.Bools.{and-true-0, and-true-1, or-true-cases}
use Rattle.text.proofs.Points.{utf8-empty, utf8-some}
use Rattle.text.proofs.Shape.{Shape, one, two, three, four, decoded-shape}
use Rattle.number.specs.Grammar.{is_number}
use Rattle.json_text.specs.Json.{Text, Json, null, truth, number, string, array, object, Elements, no_elements, element, Members, no_members, member}
use Rattle.json_text.specs.Encode.{utf8_of}
use Rattle.json_text.proofs.EncodeLaws.{decoded-is, one_of}
use Rattle.json_text.specs.Strings.{hex_value, hex_digit, hex4, paired, unicode, short_escape, escape, is_unescaped, unescaped, char, char_then, chars_in}
use Rattle.json_text.specs.Strings as Strings
use Rattle.json_text.specs.Grammar.{spaces, is_of_number, number_run, number_text, spelled, scalar, comma_or, elements_after, members_after, elements_in, members_in, elements, members, container, value, max_depth, at_end, document}
use Rattle.json_text.proofs.NumberLaws.{all_of_number, number-bytes}
use Rattle.json_text.specs.Sound.{Sound, SoundElements, SoundMembers}

-- What holds of an answer, if there is one

abbrev pub Holds : {A : Type 0} → (A → Type 0) → Option A → Type 0
Holds P none = Unit {0}
Holds P (some a) = P a

module _ {A : Type 0} (P : A → Type 0) where
  pub holds-cond : (b : Bool) (x y : Option A) → Holds P x → Holds P y → Holds P (cond b x y)
  holds-cond true x y h g = h
  holds-cond false x y h g = g

  pub holds-is : (o : Option A) (a : A) → o ≡ some a → Holds P o → P a
  holds-is o a e h = subst (λ (x : Option A). Holds P x) e h

pub holds-map : {A B : Type 0} (P : A → Type 0) (Q : B → Type 0) (o : Option A) (f : A → B) → Holds P o → ((a : A) → P a → Q (f a)) → Holds Q (map f o)
holds-map P Q none f h k = tt
holds-map P Q (some a) f h k = k a h

-- What holds of all that a reader reads

abbrev Bytes : Type 0
Bytes = List ℕ

abbrev Gives : {A : Type 0} → (A → Type 0) → Reader Bytes A → Type 0
Gives {A} P p = (s : Bytes) → Holds (λ (r : A × Bytes). P r.0) (p s)

module _ {A : Type 0} (P : A → Type 0) where
  gives-pure : (a : A) → P a → Gives P (pure a)
  unfolding pure
  gives-pure a h s = h

  gives-refuse : Gives P refuse
  unfolding refuse
  gives-refuse s = tt

  gives-cond : (b : Bool) (p q : Reader Bytes A) → (b ≡ true → Gives P p) → (b ≡ false → Gives P q) → Gives P (cond b p q)
  gives-cond true p q h g = h refl
  gives-cond false p q h g = g refl

  gives-either : (p q : Reader Bytes A) → Gives P p → Gives P q → Gives P (either p q)
  unfolding either or_else
  gives-either p q h g s = go (p s) (h s)
    where
      go : (o : Option (A × Bytes)) → Holds (λ (r : A × Bytes). P r.0) o → Holds (λ (r : A × Bytes). P r.0) (or_else o (q s))
      go none k = g s
      go (some r) k = k

  gives-ensure : (b : Bool) (q : Reader Bytes A) → (b ≡ true → Gives P q) → Gives P (ensure b >> q)
  unfolding ensure ◌>>◌ ◌>>=◌ and_then
  gives-ensure true q h s = h refl s
  gives-ensure false q h s = tt

  gives_then : {B : Type 0} (p : Reader Bytes B) (q : Reader Bytes A) → Gives P q → Gives P (p >> q)
  unfolding ◌>>◌ ◌>>=◌ and_then
  gives_then {B} p q h s = go (p s)
    where
      go : (o : Option (B × Bytes)) → Holds (λ (r : A × Bytes). P r.0) (and_then o (λ b. q))
      go none = tt
      go (some r) = h r.1

gives-bind : {A B : Type 0} (P : A → Type 0) (Q : B → Type 0) (p : Reader Bytes A) (k : A → Reader Bytes B) → Gives P p → ((a : A) → P a → Gives Q (k a)) → Gives Q (p >>= k)
unfolding ◌>>=◌ and_then
gives-bind {A} {B} P Q p k h g s = go (p s) (h s)
  where
    go : (o : Option (A × Bytes)) → Holds (λ (r : A × Bytes). P r.0) o → Holds (λ (r : B × Bytes). Q r.0) (and_then o k)
    go none e = tt
    go (some r) e = g r.0 e r.1

abbrev anything : {A : Type 0} → A → Type 0
anything a = Unit {0}

gives-any : {A : Type 0} (p : Reader Bytes A) → Gives anything p
gives-any {A} p s = go (p s)
  where
    go : (o : Option (A × Bytes)) → Holds (λ (r : A × Bytes). Unit {0}) o
    go none = tt
    go (some r) = tt

-- Code points: the UTF-8 of one before a text leaves the text what it was

abbrev Point : ℕ → Type 0
Point c = (t : Bytes) → is_utf8 (utf8_of c ++ t) ≡ is_utf8 t

point-of : (c : ℕ) (s : Bytes) → utf8_of c ≡ s → ((t : Bytes) → is_utf8 (s ++ t) ≡ is_utf8 t) → Point c
point-of c s e h t = ap (λ (x : Bytes). is_utf8 (x ++ t)) e ∙ h t

-- bytes that are decoded to a code point are its UTF-8
decoded-point : (c : ℕ) (s : Bytes) → decode_one s ≡ some (c, []) → ((t : Bytes) → decode_one (s ++ t) ≡ some (c, t)) → Point c
decoded-point c s e h = point-of c s (sym (append-nil (utf8_of c)) ∙ sym (decoded-is s e)) λ t. utf8-some (s ++ t) (h t)

shape-point : {s t : Bytes} {w : ℕ} → Shape s w t → Point w
shape-point (one {a = a} {w = w} f) = decoded-point w (a ∷ []) (f []) f
shape-point (two {a = a} {b = b} {w = w} f p) = decoded-point w (a ∷ b ∷ []) (f []) f
shape-point (three {a = a} {b = b} {c = c} {w = w} f p q) = decoded-point w (a ∷ b ∷ c ∷ []) (f []) f
shape-point (four {a = a} {b = b} {c = c} {d = d} {w = w} f p q r) = decoded-point w (a ∷ b ∷ c ∷ d ∷ []) (f []) f

decoding-gives : Gives Point decode_one
decoding-gives s = go (decode_one s) refl
  where
    go : (o : Option (ℕ × Bytes)) → decode_one s ≡ o → Holds (λ (r : ℕ × Bytes). Point r.0) o
    go none e = tt
    go (some r) e = shape-point (decoded-shape s r e)

-- Escapes: code points that are no surrogates

inside : (low high b : ℕ) → low ≤ b → b ≤ high → between low high b ≡ true
unfolding between
inside low high b l h = rw (le-leb low b l, le-leb b high h)

over : (low high b : ℕ) → high < b → between low high b ≡ false
unfolding between
over low high b h = by-test (leb low b) (λ e. rw (e, lt-leb b high h)) (λ e. rw e)

above : (low high b : ℕ) → between low high b ≡ true → low ≤ b
unfolding between
above low high b e = leb-true low b (and-true-0 _ _ e)

below : (low high b : ℕ) → between low high b ≡ true → b ≤ high
unfolding between
below low high b e = leb-true b high (and-true-1 (leb low b) _ e)

or_left : (p q : Bool) → p ≡ true → (p || q) ≡ true
or_left p q e = rw e

or_right : (p q : Bool) → q ≡ true → (p || q) ≡ true
or_right true q e = refl
or_right false q e = e

both : (p q : Bool) → p ≡ true → q ≡ true → (p && q) ≡ true
both p q e f = rw (e, f)

tail : (b : ℕ) → b < 64 → is_tail (0x80 + b) ≡ true
unfolding is_tail
tail b h = inside 0x80 0xBF (0x80 + b) (omega arith) (omega arith)

module _ (a b : ℕ) where
  second-3 : 0xE0 ≤ a → a ≤ 0xEF → 0x80 ≤ b → b ≤ 0xBF → (a ≡ 0xE0 → 0xA0 ≤ b) → (a ≡ 0xED → b ≤ 0x9F) → is_second_of3 a b ≡ true
  unfolding is_second_of3 is_tail
  second-3 p q r s first late =
      by-test (leb a 0xE0)
      (λ e.
      let l = leb-true a 0xE0 e in
      or_left _ _ (or_left _ _ (or_left _ _ (both _ _ (inside 0xE0 0xE0 a p l) (inside 0xA0 0xBF b (first (omega arith)) s))))) λ e.
      let l = leb-false a 0xE0 e in
      by-test (leb a 0xEC)
      (λ f.
      let m = leb-true a 0xEC f in
      or_left _ _ (or_left _ _ (or_right (between 0xE0 0xE0 a && between 0xA0 0xBF b) _ (both _ _ (inside 0xE1 0xEC a (omega arith) m) (inside 0x80 0xBF b r s))))) λ f.
      let m = leb-false a 0xEC f in
      by-test (leb a 0xED)
      (λ g.
      let n = leb-true a 0xED g in
      or_left _ _ (or_right (between 0xE0 0xE0 a && between 0xA0 0xBF b || between 0xE1 0xEC a && is_tail b) _ (both _ _ (inside 0xED 0xED a (omega arith) n) (inside 0x80 0x9F b r (late (omega arith)))))) λ g.
      let n = leb-false a 0xED g in
      or_right (between 0xE0 0xE0 a && between 0xA0 0xBF b || between 0xE1 0xEC a && is_tail b || between 0xED 0xED a && between 0x80 0x9F b) _
      (both _ _ (inside 0xEE 0xEF a (omega arith) q) (inside 0x80 0xBF b r s))

  second-4 : 0xF0 ≤ a → a ≤ 0xF4 → 0x80 ≤ b → b ≤ 0xBF → (a ≡ 0xF0 → 0x90 ≤ b) → (a ≡ 0xF4 → b ≤ 0x8F) → is_second_of4 a b ≡ true
  unfolding is_second_of4 is_tail
  second-4 p q r s first last =
      by-test (leb a 0xF0)
      (λ e.
      let l = leb-true a 0xF0 e in
      or_left _ _ (or_left _ _ (both _ _ (inside 0xF0 0xF0 a p l) (inside 0x90 0xBF b (first (omega arith)) s)))) λ e.
      let l = leb-false a 0xF0 e in
      by-test (leb a 0xF3)
      (λ f.
      let m = leb-true a 0xF3 f in
      or_left _ _ (or_right (between 0xF0 0xF0 a && between 0x90 0xBF b) _ (both _ _ (inside 0xF1 0xF3 a (omega arith) m) (inside 0x80 0xBF b r s)))) λ f.
      let m = leb-false a 0xF3 f in
      or_right (between 0xF0 0xF0 a && between 0x90 0xBF b || between 0xF1 0xF3 a && is_tail b) _ (both _ _ (inside 0xF4 0xF4 a (omega arith) q) (inside 0x80 0x8F b r (last (omega arith))))

decodes-1 : (a : ℕ) (t : Bytes) → a ≤ 0x7F → decode_one (a ∷ t) ≡ some (a, t)
unfolding decode_one utf8-1 Utf8.or_else
decodes-1 a t h = rw (le-leb a 0x7F h)

decodes-2 : (a b : ℕ) (t : Bytes) → 0xC2 ≤ a → a ≤ 0xDF → is_tail b ≡ true → decode_one (a ∷ b ∷ t) ≡ some (code_of2 a b, t)
unfolding decode_one utf8-1 utf8-2 is_utf8-2 Utf8.or_else
decodes-2 a b t l h e = rw (lt-leb a 0x7F (omega arith), inside 0xC2 0xDF a l h, e)

decodes-3 : (a b c : ℕ) (t : Bytes) → 0xDF < a → is_second_of3 a b ≡ true → is_tail c ≡ true → decode_one (a ∷ b ∷ c ∷ t) ≡ some (code_of3 a b c, t)
unfolding decode_one utf8-1 utf8-2 utf8-3 is_utf8-2 is_utf8-3 Utf8.or_else
decodes-3 a b c t l e f = rw (lt-leb a 0x7F (omega arith), over 0xC2 0xDF a l, e, f)

not-second-3 : (a b : ℕ) → 0xEF < a → is_second_of3 a b ≡ false
unfolding is_second_of3
not-second-3 a b h = rw (over 0xE0 0xE0 a (omega arith), over 0xE1 0xEC a (omega arith), over 0xED 0xED a (omega arith), over 0xEE 0xEF a h)

decodes-4 : (a b c d : ℕ) (t : Bytes) → 0xEF < a → is_second_of4 a b ≡ true → is_tail c ≡ true → is_tail d ≡ true → decode_one (a ∷ b ∷ c ∷ d ∷ t) ≡ some (code_of4 a b c d, t)
unfolding decode_one utf8-1 utf8-2 utf8-3 utf8-4 is_utf8-2 is_utf8-3 is_utf8-4 Utf8.or_else
decodes-4 a b c d t l e f g = rw (lt-leb a 0x7F (omega arith), over 0xC2 0xDF a (omega arith), not-second-3 a b l, e, f, g)

module _ (c : ℕ) where
  two_bytes : 0x7F < c → c ≤ 0x7FF → Point c
  unfolding utf8_of
  two_bytes l h =
      point-of c ((0xC0 + c / 64) ∷ (0x80 + c % 64) ∷ []) (rw (lt-leb c 0x7F l, le-leb c 0x7FF h)) λ t.
      utf8-some ((0xC0 + c / 64) ∷ (0x80 + c % 64) ∷ t) (decodes-2 (0xC0 + c / 64) (0x80 + c % 64) t (omega arith) (omega arith) (tail (c % 64) (omega arith)))

  three-bytes : 0x7FF < c → c ≤ 0xFFFF → (c < 0xD800) ⊎ (0xDFFF < c) → Point c
  unfolding utf8_of
  three-bytes l h other =
      point-of c ((0xE0 + c / 4096) ∷ (0x80 + c / 64 % 64) ∷ (0x80 + c % 64) ∷ []) (rw (lt-leb c 0x7F (omega arith), lt-leb c 0x7FF l, le-leb c 0xFFFF h)) λ t.
      utf8-some ((0xE0 + c / 4096) ∷ (0x80 + c / 64 % 64) ∷ (0x80 + c % 64) ∷ t)
      (decodes-3 (0xE0 + c / 4096) (0x80 + c / 64 % 64) (0x80 + c % 64) t (omega arith)
      (second-3 (0xE0 + c / 4096) (0x80 + c / 64 % 64) (omega arith) (omega arith) (omega arith) (omega arith) (λ e. omega arith) (λ e. low other e))
      (tail (c % 64) (omega arith)))
    where
      low : (c < 0xD800) ⊎ (0xDFFF < c) → 0xE0 + c / 4096 ≡ 0xED → 0x80 + c / 64 % 64 ≤ 0x9F
      low (inl k) e = omega arith
      low (inr k) e = omega arith

  four_bytes : 0xFFFF < c → c ≤ 0x10FFFF → Point c
  unfolding utf8_of
  four_bytes l h =
      point-of c ((0xF0 + c / 262144) ∷ (0x80 + c / 4096 % 64) ∷ (0x80 + c / 64 % 64) ∷ (0x80 + c % 64) ∷ [])
      (rw (lt-leb c 0x7F (omega arith), lt-leb c 0x7FF (omega arith), lt-leb c 0xFFFF l)) λ t.
      utf8-some ((0xF0 + c / 262144) ∷ (0x80 + c / 4096 % 64) ∷ (0x80 + c / 64 % 64) ∷ (0x80 + c % 64) ∷ t)
      (decodes-4 (0xF0 + c / 262144) (0x80 + c / 4096 % 64) (0x80 + c / 64 % 64) (0x80 + c % 64) t (omega arith)
      (second-4 (0xF0 + c / 262144) (0x80 + c / 4096 % 64) (omega arith) (omega arith) (omega arith) (omega arith) (λ e. omega arith) (λ e. omega arith))
      (tail (c / 64 % 64) (omega arith)) (tail (c % 64) (omega arith)))

  one_byte : c ≤ 0x7F → Point c
  one_byte h = point-of c (c ∷ []) (one_of c h) λ t. utf8-some (c ∷ t) (decodes-1 c t h)

  scalar-point : c ≤ 0x10FFFF → (c < 0xD800) ⊎ (0xDFFF < c) → Point c
  scalar-point h other =
      by-test (leb c 0x7F) (λ e. one_byte (leb-true c 0x7F e)) λ e.
      by-test (leb c 0x7FF) (λ f. two_bytes (leb-false c 0x7F e) (leb-true c 0x7FF f)) λ f.
      by-test (leb c 0xFFFF) (λ g. three-bytes (leb-false c 0x7FF f) (leb-true c 0xFFFF g) other) λ g.
      four_bytes (leb-false c 0xFFFF g) h

abbrev Below : ℕ → ℕ → Type 0
Below n c = c < n

hex-below : (b : ℕ) → Holds (Below 16) (hex_value b)
unfolding hex_value is_digit
hex-below b =
    by-test (between 48 57 b) (λ e. let h = below 48 57 b e in rw e (omega arith)) λ e.
    by-test (between 0x41 0x46 b) (λ f. let h = below 0x41 0x46 b f in rw (e, f) (omega arith)) λ f.
    by-test (between 0x61 0x66 b) (λ g. let h = below 0x61 0x66 b g in rw (e, f, g) (omega arith)) (λ g. rw (e, f, g) tt)

digit-gives : Gives (Below 16) hex_digit
unfolding hex_digit
digit-gives [] = tt
digit-gives (b ∷ s) = holds-map (Below 16) (λ (r : ℕ × Bytes). r.0 < 16) (hex_value b) (λ (v : ℕ). (v, s)) (hex-below b) λ v h. h

hex4-gives : Gives (Below 65536) hex4
unfolding hex4
hex4-gives =
    gives-bind (Below 16) (Below 65536) hex_digit _ digit-gives λ a p.
    gives-bind (Below 16) (Below 65536) hex_digit _ digit-gives λ b q.
    gives-bind (Below 16) (Below 65536) hex_digit _ digit-gives λ c r.
    gives-bind (Below 16) (Below 65536) hex_digit _ digit-gives λ d s.
    gives-pure (Below 65536) (a * 4096 + b * 256 + c * 16 + d) (omega arith)

pair-point : (n m : ℕ) → 0xD800 ≤ n → n ≤ 0xDBFF → 0xDC00 ≤ m → m ≤ 0xDFFF → Point (0x10000 + (n - 0xD800) * 1024 + (m - 0xDC00))
pair-point n m p q r s = scalar-point (0x10000 + (n - 0xD800) * 1024 + (m - 0xDC00)) (omega arith) (inr (omega arith))

lone-point : (n : ℕ) → n < 65536 → between 0xD800 0xDBFF n ≡ false → between 0xDC00 0xDFFF n ≡ false → Point n
lone-point n h e f =
    scalar-point n (omega arith)
    (by-test (leb 0xD800 n)
    (λ g.
    let l = leb-true 0xD800 n g in
    by-test (leb n 0xDFFF) (λ k. absurd (surrogate l (leb-true n 0xDFFF k))) (λ k. inr (leb-false n 0xDFFF k)))
    (λ g. inl (leb-false 0xD800 n g)))
  where
    surrogate : 0xD800 ≤ n → n ≤ 0xDFFF → ⊥
    surrogate l k =
        by-test (leb n 0xDBFF) (λ x. never (sym e ∙ inside 0xD800 0xDBFF n l (leb-true n 0xDBFF x))) λ x.
        let m = leb-false n 0xDBFF x in
        never (sym f ∙ inside 0xDC00 0xDFFF n (omega arith) k)
      where
        never : false ≡ true → ⊥
        never q = absurd (false≢true q)

paired-gives : (n : ℕ) → n < 65536 → Gives Point (paired n)
unfolding paired
paired-gives n h =
    gives-cond Point (between 0xD800 0xDBFF n) _ _
    (λ e.
    gives_then Point (byte 0x5C) _ (gives_then Point (byte 0x75) _
    (gives-bind (Below 65536) Point hex4 _ hex4-gives λ m k.
    gives-ensure Point (between 0xDC00 0xDFFF m) _ λ f.
    gives-pure Point (0x10000 + (n - 0xD800) * 1024 + (m - 0xDC00))
    (pair-point n m (above 0xD800 0xDBFF n e) (below 0xD800 0xDBFF n e) (above 0xDC00 0xDFFF m f) (below 0xDC00 0xDFFF m f)))))
    (λ e. gives-cond Point (between 0xDC00 0xDFFF n) _ _ (λ f. gives-refuse Point) (λ f. gives-pure Point n (lone-point n h e f)))

unicode-gives : Gives Point unicode
unfolding unicode
unicode-gives = gives-bind (Below 65536) Point hex4 _ hex4-gives paired-gives

short-point : (b : ℕ) → Holds Point (short_escape b)
unfolding short_escape
short-point b =
    holds-cond Point (eqb b 0x22) (some 0x22) _ (one_byte 0x22 (omega arith))
    (holds-cond Point (eqb b 0x5C) (some 0x5C) _ (one_byte 0x5C (omega arith))
    (holds-cond Point (eqb b 0x2F) (some 0x2F) _ (one_byte 0x2F (omega arith))
    (holds-cond Point (eqb b 0x62) (some 0x8) _ (one_byte 0x8 (omega arith))
    (holds-cond Point (eqb b 0x66) (some 0xC) _ (one_byte 0xC (omega arith))
    (holds-cond Point (eqb b 0x6E) (some 0xA) _ (one_byte 0xA (omega arith))
    (holds-cond Point (eqb b 0x72) (some 0xD) _ (one_byte 0xD (omega arith))
    (holds-cond Point (eqb b 0x74) (some 0x9) none (one_byte 0x9 (omega arith)) tt)))))))

abbrev PointRead : ℕ × Bytes → Type 0
PointRead r = Point r.0

escape-gives : Gives Point escape
unfolding escape
escape-gives [] = tt
escape-gives (b ∷ s) =
    holds-cond PointRead (eqb b 0x75) (unicode s) _ (unicode-gives s) (holds-map Point PointRead (short_escape b) (λ (c : ℕ). (c, s)) (short-point b) λ c h. h)

unescaped-gives : Gives Point unescaped
unfolding unescaped
unescaped-gives = gives-bind Point Point decode_one _ decoding-gives λ c h. gives-ensure Point (is_unescaped c) _ λ e. gives-pure Point c h

char-gives : Gives Point char
unfolding char
char-gives [] = tt
char-gives (b ∷ s) = holds-cond PointRead (eqb b 0x5C) (escape s) (unescaped (b ∷ s)) (escape-gives s) (unescaped-gives (b ∷ s))

-- Strings and numbers

abbrev InUtf8 : Text → Type 0
InUtf8 t = is_utf8 t ≡ true

then-gives : (others : Reader Bytes Bytes) → Gives InUtf8 others → Gives InUtf8 (char_then others)
unfolding char_then
then-gives others h =
    gives-bind Point InUtf8 char _ char-gives λ c p. gives-bind InUtf8 InUtf8 others _ h λ t q. gives-pure InUtf8 (utf8_of c ++ t) (p t ∙ q)

chars-give : (n : ℕ) → Gives InUtf8 (chars_in n)
unfolding chars_in
chars-give zero s = tt
chars-give (suc n) [] = tt
chars-give (suc n) (b ∷ s) =
    holds-cond (λ (r : Bytes × Bytes). is_utf8 r.0 ≡ true) (eqb b 0x22) (some ([], s)) _ utf8-empty (then-gives (λ u. chars_in n u) (λ u. chars-give n u) (b ∷ s))

string-gives : Gives InUtf8 Strings.string
unfolding Strings.string
string-gives s = chars-give (length s) s

abbrev IsNumber : Text → Type 0
IsNumber t = is_number t ≡ true

number-gives : Gives IsNumber number_text
unfolding number_text
number-gives s = go (is_number (number_run s).0) refl
  where
    go : (b : Bool) → is_number (number_run s).0 ≡ b → Holds (λ (r : Bytes × Bytes). is_number r.0 ≡ true) (cond b (some (number_run s)) none)
    go true e = e
    go false e = tt

-- Values

abbrev SoundRead : Json × Bytes → Type 0
SoundRead r = Sound r.0

scalar-gives : Gives Sound scalar
unfolding scalar
scalar-gives [] = tt
scalar-gives (b ∷ s) =
    holds-cond SoundRead (eqb b 0x22) _ _ (gives-bind InUtf8 Sound Strings.string _ string-gives (λ t h. gives-pure Sound (string t) h) s)
    (holds-cond SoundRead (eqb b 0x6E) _ _ (gives_then Sound (spelled (ascii "ull")) (pure null) (gives-pure Sound null tt) s)
    (holds-cond SoundRead (eqb b 0x74) _ _ (gives_then Sound (spelled (ascii "rue")) (pure (truth true)) (gives-pure Sound (truth true) tt) s)
    (holds-cond SoundRead (eqb b 0x66) _ _ (gives_then Sound (spelled (ascii "alse")) (pure (truth false)) (gives-pure Sound (truth false) tt) s)
    (gives-bind IsNumber Sound number_text _ number-gives (λ t h. gives-pure Sound (number t) h) (b ∷ s)))))

module _ (p : Reader Bytes Json) (sound : Gives Sound p) where
  elements-after : (q : Reader Bytes Elements) → Gives SoundElements q → (more : Bool) → Gives SoundElements (elements_after q more)
  unfolding elements_after
  elements-after q h false = gives-pure SoundElements no_elements tt
  elements-after q h true = h

  members-after : (q : Reader Bytes Members) → Gives SoundMembers q → (more : Bool) → Gives SoundMembers (members_after q more)
  unfolding members_after
  members-after q h false = gives-pure SoundMembers no_members tt
  members-after q h true = h

  elements-in : (n : ℕ) → Gives SoundElements (elements_in p n)
  unfolding elements_in
  elements-in zero = gives-refuse SoundElements
  elements-in (suc n) =
      gives_then SoundElements spaces _
      (gives-bind Sound SoundElements p _ sound λ v h.
      gives_then SoundElements spaces _
      (gives-bind anything SoundElements (comma_or 0x5D) _ (gives-any (comma_or 0x5D)) λ more _.
      gives-bind SoundElements SoundElements (elements_after (λ s. elements_in p n s) more) _ (elements-after (λ s. elements_in p n s) (λ s. elements-in n s) more) λ others k.
      gives-pure SoundElements (element v others) (h, k)))

  members-in : (n : ℕ) → Gives SoundMembers (members_in p n)
  unfolding members_in
  members-in zero = gives-refuse SoundMembers
  members-in (suc n) =
      gives_then SoundMembers spaces _ (gives_then SoundMembers (byte 0x22) _
      (gives-bind InUtf8 SoundMembers Strings.string _ string-gives λ key u.
      gives_then SoundMembers spaces _ (gives_then SoundMembers (byte 0x3A) _ (gives_then SoundMembers spaces _
      (gives-bind Sound SoundMembers p _ sound λ v h.
      gives_then SoundMembers spaces _
      (gives-bind anything SoundMembers (comma_or 0x7D) _ (gives-any (comma_or 0x7D)) λ more _.
      gives-bind SoundMembers SoundMembers (members_after (λ s. members_in p n s) more) _ (members-after (λ s. members_in p n s) (λ s. members-in n s) more) λ others k.
      gives-pure SoundMembers (member key v others) (u, (h, k))))))))

  elements-give : Gives SoundElements (elements p)
  unfolding elements
  elements-give =
      gives-either SoundElements _ (λ s. elements_in p (length s) s)
      (gives_then SoundElements spaces _ (gives_then SoundElements (byte 0x5D) _ (gives-pure SoundElements no_elements tt))) (λ s. elements-in (length s) s)

  members-give : Gives SoundMembers (members p)
  unfolding members
  members-give =
      gives-either SoundMembers _ (λ s. members_in p (length s) s)
      (gives_then SoundMembers spaces _ (gives_then SoundMembers (byte 0x7D) _ (gives-pure SoundMembers no_members tt))) (λ s. members-in (length s) s)

  container-gives : Gives Sound (container p)
  unfolding container
  container-gives =
      gives-either Sound _ _
      (gives_then Sound (byte 0x5B) _ (gives-bind SoundElements Sound (elements p) _ elements-give λ vs h. gives-pure Sound (array vs) h))
      (gives_then Sound (byte 0x7B) _ (gives-bind SoundMembers Sound (members p) _ members-give λ ms h. gives-pure Sound (object ms) h))

value-gives : (depth : ℕ) → Gives Sound (value depth)
unfolding value
value-gives zero = scalar-gives
value-gives (suc depth) = gives-either Sound scalar (container (value depth)) scalar-gives (container-gives (value depth) (value-gives depth))

abbrev whole : Reader Bytes Json
whole = do
  spaces
  v ← value max_depth
  spaces
  at_end
  pure v

whole-gives : Gives Sound whole
whole-gives =
    gives_then Sound spaces _
    (gives-bind Sound Sound (value max_depth) _ (value-gives max_depth) λ v h. gives_then Sound spaces _ (gives_then Sound at_end _ (gives-pure Sound v h)))

pub document-sound : (s : Bytes) (j : Json) → document s ≡ some j → Sound j
unfolding document
document-sound s j e = holds-is Sound (document s) j e (holds-map SoundRead Sound (whole s) (λ (r : Json × Bytes). r.0) (whole-gives s) λ r h. h)

-- A number's text is ASCII

of-number-low : (b : ℕ) → is_of_number b ≡ true → b ≤ 0x7F
unfolding is_of_number is_digit
of-number-low b =
    or-true-cases _ _ (λ e. let h = below 48 57 b e in omega arith)
    (or-true-cases _ _ (λ e. let h = eqb-true b 0x2B e in omega arith)
    (or-true-cases _ _ (λ e. let h = eqb-true b 0x2D e in omega arith)
    (or-true-cases _ _ (λ e. let h = eqb-true b 0x2E e in omega arith)
    (or-true-cases _ _ (λ e. let h = eqb-true b 0x45 e in omega arith) (λ e. let h = eqb-true b 0x65 e in omega arith)))))

all-utf8 : (t : Bytes) → all_of_number t ≡ true → is_utf8 t ≡ true
unfolding all_of_number
all-utf8 [] h = utf8-empty
all-utf8 (b ∷ t) h =
    by-test (is_of_number b) (λ e. utf8-some (b ∷ t) (decodes-1 b t (of-number-low b e)) ∙ all-utf8 t (rw e at h)) λ e. absurd (false≢true (rw e at h))

pub number-utf8 : (t : Bytes) → is_number t ≡ true → is_utf8 t ≡ true
number-utf8 t h = all-utf8 t (number-bytes t h)
