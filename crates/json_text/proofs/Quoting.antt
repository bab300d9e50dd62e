-- Laws of a text that is laid with its escapes: what is laid, and the writing of the rest, make the whole.
use Prim.Native.Nat.{ℕ, zero, suc, ◌+◌, ◌-◌, ◌/◌, ◌%◌, ◌<◌, ◌≤◌}
use mathlib.Core.List.{List, [], ◌∷◌, ◌++◌, append_assoc, append-nil}
use mathlib.Core.Path.{◌≡◌, refl, sym, ap, subst, ◌∙◌}
use native.Mathlib.Omega.{arith}
use native.Mathlib.Numerals.{add-one}
use lib.ListN.{length, take, drop, get_or, drop_of_length-le, length-drop}
use lib.Seq.{drop-cons, drop-drop, get_or-drop}
use borrow.Author.Tests.{eq-eqb, ne_eqb, le-leb, lt-leb}
use Rattle.text.specs.Ascii.{ascii}
use Rattle.buffer.specs.Laid.{Laid, most_place}
use Rattle.buffer.specs.LaidLaws.{laid-nothing, laid_then}
use Rattle.json_text.specs.Escaped.{Escapes, plain, short_letter, letter_of, hex_of, control_of, escaped_byte, escaped, quoted}
use Rattle.json_text.proofs.EscapedLaws.{escaped-plain}
use Rattle.json_text.specs.Quoted.{escapes_of}
use Rattle.json_text.specs.declared.quote.Escapes as Code
use Rattle.json_text.specs.declared.quote.Escapes.TheVariants.{Plain, Short}
use Rattle.json_text.specs.StringAt.{PlainByte, PlainTo}

-- Letters and digits

pub letter-b : (b : ℕ) → b ≡ 0x8 → 0x62 ≡ short_letter b
unfolding short_letter
letter-b b e = rw e

pub letter-t : (b : ℕ) → b ≡ 0x9 → 0x74 ≡ short_letter b
unfolding short_letter
letter-t b e = rw e

pub letter-n : (b : ℕ) → b ≡ 0xA → 0x6E ≡ short_letter b
unfolding short_letter
letter-n b e = rw e

pub letter-f : (b : ℕ) → b ≡ 0xC → 0x66 ≡ short_letter b
unfolding short_letter
letter-f b e = rw e

pub letter-r : (b : ℕ) → b ≡ 0xD → 0x72 ≡ short_letter b
unfolding short_letter
letter-r b e = rw e

pub no-letter : (b : ℕ) → (b ≡ 0x8 → ⊥) → (b ≡ 0x9 → ⊥) → (b ≡ 0xA → ⊥) → (b ≡ 0xC → ⊥) → (b ≡ 0xD → ⊥) → 0 ≡ short_letter b
unfolding short_letter
no-letter b h t n f r = rw (ne_eqb b 0x8 h, ne_eqb b 0x9 t, ne_eqb b 0xA n, ne_eqb b 0xC f, ne_eqb b 0xD r)

pub plain-letter : (how : Code.Escapes) (b : ℕ) → how ≡ Plain → 0 ≡ letter_of (escapes_of how) b
unfolding letter_of
plain-letter how b e = rw e

pub short-letter : (how : Code.Escapes) (b : ℕ) {r : ℕ} → how ≡ Short → r ≡ short_letter b → r ≡ letter_of (escapes_of how) b
unfolding letter_of
short-letter how b e f = rw e f

pub hex-digit : (n : ℕ) → n ≤ 9 → 48 + n ≡ hex_of n
unfolding hex_of
hex-digit n h = rw (le-leb n 9 h)

pub hex-letter : (n : ℕ) → 9 < n → 87 + n ≡ hex_of n
unfolding hex_of
hex-letter n h = rw (lt-leb n 9 h)

-- One byte

pub laid-backslashed : (b : ℕ) {before one after : List ℕ} {o p next : ℕ} → length before ≤ most_place
    → Laid before one o (0x5C ∷ []) p
    → Laid one after p (b ∷ []) next
    → Laid before after o (0x5C ∷ b ∷ []) next
laid-backslashed b room u w = laid_then room u w

pub laid-number : (letter b : ℕ) {before one two after : List ℕ} {o p q next high low : ℕ} → length before ≤ most_place
    → letter ≡ 0
    → Laid before one o (0x5C ∷ 0x75 ∷ 0x30 ∷ 0x30 ∷ []) p
    → high ≡ hex_of (b / 16)
    → Laid one two p (high ∷ []) q
    → low ≡ hex_of (b % 16)
    → Laid two after q (low ∷ []) next
    → Laid before after o (control_of letter b) next
unfolding control_of ascii
laid-number letter b room z u h v l w = rw (z, sym h, sym l) (laid_then room (laid_then room u v) w)

pub laid-letter : (letter b : ℕ) {before after : List ℕ} {o next : ℕ} → (letter ≡ 0 → ⊥) → Laid before after o (0x5C ∷ letter ∷ []) next
    → Laid before after o (control_of letter b) next
unfolding control_of
laid-letter letter b z w = rw (ne_eqb letter 0 z) w

module _ (how : Escapes) (b : ℕ) {before after : List ℕ} {o next : ℕ} where
  pub laid-quotation : b ≡ 0x22 → Laid before after o (0x5C ∷ b ∷ []) next → Laid before after o (escaped_byte how b) next
  unfolding escaped_byte
  laid-quotation e w = rw (eq-eqb b 0x22 e) w

  module _ (q : b ≡ 0x22 → ⊥) where
    pub laid-backslash : b ≡ 0x5C → Laid before after o (0x5C ∷ b ∷ []) next → Laid before after o (escaped_byte how b) next
    unfolding escaped_byte
    laid-backslash e w = rw (ne_eqb b 0x22 q, eq-eqb b 0x5C e) w

    module _ (k : b ≡ 0x5C → ⊥) where
      pub laid-itself : 0x20 ≤ b → Laid before after o (b ∷ []) next → Laid before after o (escaped_byte how b) next
      unfolding escaped_byte
      laid-itself h w = rw (ne_eqb b 0x22 q, ne_eqb b 0x5C k, le-leb 0x20 b h) w

      pub laid-control : {letter : ℕ} → b < 0x20 → letter ≡ letter_of how b → Laid before after o (control_of letter b) next
          → Laid before after o (escaped_byte how b) next
      unfolding escaped_byte
      laid-control h l w = rw (ne_eqb b 0x22 q, ne_eqb b 0x5C k, lt-leb 0x20 b h, sym l) w

-- A text

escaped-run : (how : Escapes) (n : ℕ) (t : List ℕ) → n ≤ length t → ((k : ℕ) → k < n → PlainByte (get_or t k 0))
    → escaped how t ≡ take n t ++ escaped how (drop n t)
escaped-run how zero t h p = refl
escaped-run how (suc n) [] h p = absurd (omega arith)
escaped-run how (suc n) (b ∷ t) h p =
    let first = p 0 (omega arith) in
    escaped-plain how b t first.control first.quotation first.backslash
    ∙ ap (λ (l : List ℕ). b ∷ l) (escaped-run how n t (omega arith) (λ k l. p (suc k) (omega arith)))

escaped-more : (how : Escapes) (t : List ℕ) (i : ℕ) → i < length t → escaped how (drop i t) ≡ escaped_byte how (get_or t i 0) ++ escaped how (drop (i + 1) t)
unfolding escaped
escaped-more how t i h =
    let in-front : drop i t ≡ get_or t i 0 ∷ drop (i + 1) t = rw (add-one, drop-cons t i 0 h) in
    ap (λ (l : List ℕ). escaped how l) in-front

pub record Escaping (how : Escapes) (text before now : List ℕ) (o i e : ℕ) : Type 0 where
  pub within : i ≤ length text
  pub len : length now ≡ length before
  pub done : List ℕ
  pub whole : escaped how text ≡ done ++ escaped how (drop i text)
  pub lies : Laid before now o done e

pub escaping-start : (how : Escapes) (text before : List ℕ) (o : ℕ) → o ≤ most_place → Escaping how text before before o 0 o
escaping-start how text before o h = record { within = omega arith; len = refl; done = []; whole = refl; lies = laid-nothing before o h }

module _ {how : Escapes} {text before now : List ℕ} {o i e : ℕ} (k : Escaping how text before now o i e) where
  pub escaping-out : length text ≤ i → Laid before now o (escaped how text) e
  unfolding escaped
  escaping-out h =
      let all : escaped how text ≡ k.done = k.whole ∙ ap (λ (l : List ℕ). k.done ++ escaped how l) (drop_of_length-le text h) ∙ append-nil k.done in
      subst (λ (l : List ℕ). Laid before now o l e) (sym all) k.lies

  pub escaping-run : {end : ℕ} {after : List ℕ} {next : ℕ} → length before ≤ most_place → PlainTo text i end
      → Laid now after e (take (end - i) (drop i text)) next
      → Escaping how text before after o end next
  escaping-run {end = end} room p w =
      let place : i + (end - i) ≡ end = omega (arith, p.forward) in
      let size = length-drop i text in
      let run =
      escaped-run how (end - i) (drop i text) (omega (arith, p.within))
      (λ j h. subst (λ (b : ℕ). PlainByte b) (sym (get_or-drop i text j 0)) (p.plain (i + j) (omega arith) (omega arith))) in
      let rest : drop (end - i) (drop i text) ≡ drop end text = drop-drop (end - i) i text ∙ ap (λ (n : ℕ). drop n text) place in
      record {
        within = p.within;
        len = w.len ∙ k.len;
        done = k.done ++ take (end - i) (drop i text);
        whole =
            k.whole
            ∙ ap (λ (l : List ℕ). k.done ++ l) (run ∙ ap (λ (l : List ℕ). take (end - i) (drop i text) ++ escaped how l) rest)
            ∙ sym (append_assoc k.done (take (end - i) (drop i text)) (escaped how (drop end text)));
        lies = laid_then room k.lies w;
      }

  pub escaping-byte : {after : List ℕ} {next : ℕ} → length before ≤ most_place → i < length text → Laid now after e (escaped_byte how (get_or text i 0)) next
      → Escaping how text before after o (i + 1) next
  escaping-byte room h w =
      record {
        within = omega arith;
        len = w.len ∙ k.len;
        done = k.done ++ escaped_byte how (get_or text i 0);
        whole =
            k.whole
            ∙ ap (λ (l : List ℕ). k.done ++ l) (escaped-more how text i h)
            ∙ sym (append_assoc k.done (escaped_byte how (get_or text i 0)) (escaped how (drop (i + 1) text)));
        lies = laid_then room k.lies w;
      }

pub laid-quoted : (how : Escapes) (text : List ℕ) {before one two after : List ℕ} {o p q next : ℕ} → length before ≤ most_place
    → Laid before one o (0x22 ∷ []) p
    → Laid one two p (escaped how text) q
    → Laid two after q (0x22 ∷ []) next
    → Laid before after o (quoted how text) next
unfolding quoted
laid-quoted how text room u v w = laid_then room (laid_then room u v) w
