-- Laws of values that hold no other.
use Rattle.std.specs.Prelude.{Option, Some, None}
use Prim.Native.Nat.{ℕ, ◌+◌, ◌-◌, ◌<◌, ◌≤◌}
use mathlib.Core.Bool.{true, false}
use mathlib.Core.List.{List, [], ◌∷◌, ◌++◌, append_assoc}
use mathlib.Core.Option.{none}
use mathlib.Core.Path.{◌≡◌, refl, sym, ap, subst, ◌∙◌}
use native.Mathlib.Omega.{arith}
use native.Mathlib.Numerals.{add-one}
use lib.ListN.{length, take, drop, get_or, drop_of_length-le, length-take, length-drop}
use lib.Seq.{drop-cons}
use lib.Dec.{eqb}
use borrow.Author.Tests.{eq-eqb, ne_eqb}
use Rattle.text.specs.Ascii.{ascii}
use Rattle.text.specs.Numeral.{decimal_of}
use Rattle.text.specs.NumeralLaws.{decimal_of-one}
use Rattle.text.specs.Reader.{Reader, ◌>>=◌, ◌>>◌, and_then, pure}
use Rattle.text.specs.ReadAt.{ReadsTo, Refuses}
use Rattle.sheet.specs.Write.{write_end, write_item, write_last, write_type, write_value_head, write_key_head}
use Rattle.definition.specs.Write.{write_value}
use Rattle.buffer.specs.Laid.{Laid, most_place}
use Rattle.buffer.specs.LaidLaws.{laid_then}
use Rattle.json_text.specs.Json.{Text, Json, null, truth, number, string}
use Rattle.json_text.specs.Strings as Strings
use Rattle.json_text.specs.StringAt.{StringAt}
use Rattle.json_text.specs.Unescaped.{LaysText}
use Rattle.json_text.specs.Grammar.{number_text, spelled, scalar}
use Rattle.json_text.specs.TokenAt.{NumberTo, SpelledAt}
use Rattle.json_rule.specs.Shape.{value_of}
use Rattle.json_sheet.specs.Places.{string_rest, number_rest, headed, LaysHeaded, Given, ValueIs, Worded, WordIs}

-- Entries with a text

joined : (head digits text : List ℕ) → (((head ++ digits) ++ (44 ∷ [])) ++ text) ++ (10 ∷ []) ≡ head ++ (digits ++ (44 ∷ (text ++ (10 ∷ []))))
joined head digits text = simp append_assoc

pub laid-headed : {before a b d e after : List ℕ} {o p q r t next : ℕ} (head : List ℕ) (size : ℕ) (text : Text) → length before ≤ most_place
    → Laid before a o head p
    → Laid a b p (decimal_of size) q
    → Laid b d q (44 ∷ []) r
    → Laid d e r text t
    → Laid e after t (10 ∷ []) next
    → Laid before after o (head ++ headed size text) next
unfolding headed
laid-headed {before} {after = after} {o = o} {next = next} head size text room u v w x y =
    subst (λ (l : List ℕ). Laid before after o l next) (joined head (decimal_of size) text) (laid_then room (laid_then room (laid_then room (laid_then room u v) w) x) y)

pub lays-headed : {before a b d e after : List ℕ} {o p q r t next : ℕ} (head s : List ℕ) (at size : ℕ) → length before ≤ most_place
    → Laid before a o head p
    → Laid a b p (decimal_of size) q
    → Laid b d q (44 ∷ []) r
    → LaysText s at d e r t
    → Laid e after t (10 ∷ []) next
    → LaysHeaded head s at size before after o next
lays-headed head s at size room u v w x y =
    record { lies = λ text next read same. laid-headed head size text room u v w (x.lies text next read) y }

abbrev string_head : List ℕ
string_head = 86 ∷ 44 ∷ 53 ∷ 44 ∷ []

abbrev number_head : List ℕ
number_head = 86 ∷ 44 ∷ 52 ∷ 44 ∷ []

abbrev key_head : List ℕ
key_head = 75 ∷ 44 ∷ []

string_bytes : (t : Text) → string_head ++ headed (length t) t ≡ write_value (value_of (string t))
unfolding headed value_of write_value write_value_head write_type write_item write_last write_end ascii
string_bytes t = rw (decimal_of-one 5 (omega arith))

number-bytes : (t : Text) → number_head ++ headed (length t) t ≡ write_value (value_of (number t))
unfolding headed value_of write_value write_value_head write_type write_item write_last write_end ascii
number-bytes t = rw (decimal_of-one 4 (omega arith))

pub key-bytes : (t : Text) → key_head ++ headed (length t) t ≡ write_key_head t
unfolding headed write_key_head write_item write_last write_end ascii
key-bytes t = refl

-- Strings

string-reads : {s : List ℕ} {at next : ℕ} {t : Text} → ReadsTo Strings.string s at t next → ReadsTo string_rest s at (string t) next
unfolding string_rest ◌>>=◌ and_then pure
string-reads r = record { reads = rw r.reads; past = r.past; within = r.within }

pub string-unread : (s : List ℕ) (at : ℕ) → Refuses Strings.string s at → Refuses string_rest s at
unfolding string_rest ◌>>=◌ and_then
string-unread s at e = rw e

pub string-given : {s : List ℕ} {at len next : ℕ} {before after : List ℕ} {o end : ℕ} → StringAt s at len next → LaysHeaded string_head s at len before after o end
    → Given string_rest s at before after o next end
string-given {s} {at} {len} {next} {before} {after} {o} {end} t l =
    record {
      tree = string t.text;
      read = string-reads t.read;
      lies =
          subst (λ (x : List ℕ). Laid before after o x end) (ap (λ (n : ℕ). string_head ++ headed n t.text) (sym t.size) ∙ string_bytes t.text)
          (l.lies t.text next t.read t.size);
    }

-- Numbers

number-reads : {s : List ℕ} {at next : ℕ} {t : Text} → ReadsTo number_text s at t next → ReadsTo number_rest s at (number t) next
unfolding number_rest ◌>>=◌ and_then pure
number-reads r = record { reads = rw r.reads; past = r.past; within = r.within }

pub number-unread : {s : List ℕ} {at next : ℕ} → NumberTo s at next → next ≤ at → Refuses number_rest s at
unfolding number_rest ◌>>=◌ and_then
number-unread n h = rw (n.other h)

pub number-given : (s : List ℕ) (at next : ℕ) {before a b d e after : List ℕ} {o p q r t end : ℕ} → length before ≤ most_place
    → NumberTo s at next
    → at < next
    → Laid before a o number_head p
    → Laid a b p (decimal_of (next - at)) q
    → Laid b d q (44 ∷ []) r
    → Laid d e r (take (next - at) (drop at s)) t
    → Laid e after t (10 ∷ []) end
    → Given number_rest s at before after o next end
number-given s at next {before} {after = after} {o = o} {end = end} room n h u v w x y =
    let r = n.read h in
    let size : length (take (next - at) (drop at s)) ≡ next - at = omega (arith, length-take (next - at) (drop at s), length-drop at s, r.within) in
    record {
      tree = number (take (next - at) (drop at s));
      read = number-reads r;
      lies =
          subst (λ (l : List ℕ). Laid before after o l end)
          (ap (λ (k : ℕ). number_head ++ headed k (take (next - at) (drop at s))) (sym size) ∙ number-bytes (take (next - at) (drop at s)))
          (laid-headed number_head (next - at) (take (next - at) (drop at s)) room u v w x y);
    }

-- Words

pub worded : {rest head s : List ℕ} {at : ℕ} {before after : List ℕ} {o end : ℕ} → SpelledAt rest s at true → Laid before after o head end
    → Worded rest head s at before after o (at + length rest) end
worded r l = record { read = r.0; forward = omega arith; within = r.1; lies = l }

word_bytes : (n : ℕ) → n < 10 → write_type n 0 [] ≡ 86 ∷ 44 ∷ (48 + n) ∷ 44 ∷ 48 ∷ 44 ∷ 10 ∷ []
unfolding write_type write_item write_last write_end ascii
word_bytes n h = rw (decimal_of-one n h, decimal_of-one 0 (omega arith))

module _ (s : List ℕ) (at : ℕ) (h : at < length s) where
  pub first : (x : ℕ) → x ≡ at + 1 → drop at s ≡ get_or s at 0 ∷ drop x s
  first x e = drop-cons s at 0 h ∙ ap (λ (n : ℕ). get_or s at 0 ∷ drop n s) (sym (e ∙ add-one at))

  module _ (p : Reader (List ℕ) Json) (tree : Json) (rest : List ℕ) (same : p (drop at s) ≡ (spelled rest >> pure tree) (drop (at + 1) s)) where
    pub word_value : (r : Option (ℕ × ℕ)) (head before after : List ℕ) (o : ℕ) → head ≡ write_value (value_of tree) → WordIs rest head s (at + 1) before after o r → ValueIs p s at before after o r
    unfolding ◌>>=◌ ◌>>◌ and_then pure
    word_value (Some (next, end)) head before after o e w =
        record {
          tree = tree;
          read = record { reads = same ∙ rw w.read; past = omega (arith, w.forward); within = w.within };
          lies = subst (λ (x : List ℕ). Laid before after o x end) e w.lies;
        }
    word_value None head before after o e w = same ∙ rw w

  -- what another reader reads further on
  module _ (p q : Reader (List ℕ) Json) (from : ℕ) (ahead : at ≤ from) (same : p (drop at s) ≡ q (drop from s)) where
    pub handed-on : (r : Option (ℕ × ℕ)) (before after : List ℕ) (o : ℕ) → ValueIs q s from before after o r → ValueIs p s at before after o r
    handed-on (Some (next, end)) before after o v =
        record {
          tree = v.tree;
          read = record { reads = same ∙ v.read.reads; past = omega (arith, v.read.past); within = v.read.within };
          lies = v.lies;
        }
    handed-on None before after o v = same ∙ v

scalar-string : (b : ℕ) (t : List ℕ) → b ≡ 0x22 → scalar (b ∷ t) ≡ string_rest t
unfolding scalar string_rest
scalar-string b t e = rw (eq-eqb b 0x22 e)

scalar-null : (b : ℕ) (t : List ℕ) → b ≡ 0x6E → scalar (b ∷ t) ≡ (spelled (ascii "ull") >> pure null) t
unfolding scalar
scalar-null b t e = let other : eqb b 0x22 ≡ false = ne_eqb b 0x22 (λ q. absurd (omega arith)) in rw (other, eq-eqb b 0x6E e)

pub scalar-true : (b : ℕ) (t : List ℕ) → b ≡ 0x74 → scalar (b ∷ t) ≡ (spelled (ascii "rue") >> pure (truth true)) t
unfolding scalar
scalar-true b t e =
    let other : eqb b 0x22 ≡ false = ne_eqb b 0x22 (λ q. absurd (omega arith)) in
    let no-n : eqb b 0x6E ≡ false = ne_eqb b 0x6E (λ q. absurd (omega arith)) in
    rw (other, no-n, eq-eqb b 0x74 e)

pub scalar-false : (b : ℕ) (t : List ℕ) → b ≡ 0x66 → scalar (b ∷ t) ≡ (spelled (ascii "alse") >> pure (truth false)) t
unfolding scalar
scalar-false b t e =
    let other : eqb b 0x22 ≡ false = ne_eqb b 0x22 (λ q. absurd (omega arith)) in
    let no-n : eqb b 0x6E ≡ false = ne_eqb b 0x6E (λ q. absurd (omega arith)) in
    let no-t : eqb b 0x74 ≡ false = ne_eqb b 0x74 (λ q. absurd (omega arith)) in
    rw (other, no-n, no-t, eq-eqb b 0x66 e)

scalar-number : (b : ℕ) (t : List ℕ) → (b ≡ 0x22 → ⊥) → (b ≡ 0x6E → ⊥) → (b ≡ 0x74 → ⊥) → (b ≡ 0x66 → ⊥) → scalar (b ∷ t) ≡ number_rest (b ∷ t)
unfolding scalar number_rest
scalar-number b t q n r f = rw (ne_eqb b 0x22 q, ne_eqb b 0x6E n, ne_eqb b 0x74 r, ne_eqb b 0x66 f)

scalar-nothing : scalar [] ≡ none
unfolding scalar
scalar-nothing = refl

pub scalar-out : (s : List ℕ) (at : ℕ) → length s ≤ at → Refuses scalar s at
scalar-out s at h = ap scalar (drop_of_length-le s h) ∙ scalar-nothing

module _ (s : List ℕ) (at : ℕ) (h : at < length s) (r : Option (ℕ × ℕ)) (before after : List ℕ) (o : ℕ) where
  pub is-string : get_or s at 0 ≡ 0x22 → ValueIs string_rest s (at + 1) before after o r → ValueIs scalar s at before after o r
  is-string e v = handed-on s at h scalar string_rest (at + 1) (omega arith) (ap scalar (first s at h (at + 1) refl) ∙ scalar-string (get_or s at 0) (drop (at + 1) s) e) r before after o v

  pub is-null : get_or s at 0 ≡ 0x6E → WordIs (117 ∷ 108 ∷ 108 ∷ []) (86 ∷ 44 ∷ 49 ∷ 44 ∷ 48 ∷ 44 ∷ 10 ∷ []) s (at + 1) before after o r → ValueIs scalar s at before after o r
  unfolding ascii value_of write_value write_value_head
  is-null e w =
      word_value s at h scalar null (ascii "ull") (ap scalar (first s at h (at + 1) refl) ∙ scalar-null (get_or s at 0) (drop (at + 1) s) e) r _ before after o (sym (word_bytes 1 (omega arith))) w

  pub is_true : get_or s at 0 ≡ 0x74 → WordIs (114 ∷ 117 ∷ 101 ∷ []) (86 ∷ 44 ∷ 51 ∷ 44 ∷ 48 ∷ 44 ∷ 10 ∷ []) s (at + 1) before after o r → ValueIs scalar s at before after o r
  unfolding ascii value_of write_value write_value_head
  is_true e w =
      word_value s at h scalar (truth true) (ascii "rue") (ap scalar (first s at h (at + 1) refl) ∙ scalar-true (get_or s at 0) (drop (at + 1) s) e) r _ before after o (sym (word_bytes 3 (omega arith))) w

  pub is_false : get_or s at 0 ≡ 0x66 → WordIs (97 ∷ 108 ∷ 115 ∷ 101 ∷ []) (86 ∷ 44 ∷ 50 ∷ 44 ∷ 48 ∷ 44 ∷ 10 ∷ []) s (at + 1) before after o r → ValueIs scalar s at before after o r
  unfolding ascii value_of write_value write_value_head
  is_false e w =
      word_value s at h scalar (truth false) (ascii "alse") (ap scalar (first s at h (at + 1) refl) ∙ scalar-false (get_or s at 0) (drop (at + 1) s) e) r _ before after o (sym (word_bytes 2 (omega arith))) w

  pub is_number : (get_or s at 0 ≡ 0x22 → ⊥) → (get_or s at 0 ≡ 0x6E → ⊥) → (get_or s at 0 ≡ 0x74 → ⊥) → (get_or s at 0 ≡ 0x66 → ⊥) → ValueIs number_rest s at before after o r
      → ValueIs scalar s at before after o r
  is_number a b c d v =
      handed-on s at h scalar number_rest at (omega arith)
      (ap scalar (first s at h (at + 1) refl) ∙ scalar-number (get_or s at 0) (drop (at + 1) s) a b c d ∙ ap number_rest (sym (first s at h (at + 1) refl))) r before after o v
