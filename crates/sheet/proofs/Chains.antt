-- Laws of what entries are made of, at a place of the bytes: each way through the code's readers.
use Rattle.std.specs.Prelude.{Option as Optional, Some, None}
use Prim.Native.Nat.{ℕ, ◌+◌, ◌-◌, ◌<◌, ◌≤◌}
use mathlib.Core.Path.{◌≡◌, refl, sym}
use mathlib.Core.Bool.{Bool, true, false}
use mathlib.Core.List.{List, [], ◌∷◌}
use mathlib.Core.Option.{Option, none, some, none-ne-some}
use native.Mathlib.Omega.{arith}
use lib.ListN.{length, take, drop, length-drop}
use lib.Seq.{drop-drop}
use lib.Dec.{leb, eqb}
use borrow.Author.Tests.{le-leb, lt-leb, eqb-true}
use Rattle.text.specs.Utf8.{is_utf8}
use Rattle.text.specs.Decimal.{is_digit}
use Rattle.text.proofs.Points.{utf8-empty}
use Rattle.text.specs.Reader.{Reader, ◌>>=◌, ◌>>◌, and_then, ensure, pure, either, or_else}
use Rattle.text.specs.CaseLaws.{by-test}
use Rattle.text.specs.Numeral.{decimal, numeral}
use Rattle.text.specs.ByteReaders.{byte, comma, bytes}
use Rattle.text.specs.Parts.{part_of, optional_of}
use Rattle.text.specs.ReadAt.{ReadsTo, Refuses, NumeralIs, StartsWith}
use Rattle.text.specs.ReadAtLaws.{bind-refused, bind-pure, then-refused, then-refuses, then-reads, then-then}
use Rattle.sheet.specs.Entries.{max_text, dash, item, mark, text_length, text, optional_text}
use Rattle.sheet.specs.Pieces.{first, dashed, last_text}
use Rattle.sheet.specs.Places.{IsDashed, TextIs, LastTextIs, length_of, OptionalIs}

pub then-numeral : (p : Reader (List ℕ) (Unit {0})) (q : Reader (List ℕ) ℕ) {s : List ℕ} {at mid : ℕ} {a : Unit {0}} (low high : ℕ) → ReadsTo p s at a mid
    → (r : Optional (ℕ × ℕ)) → NumeralIs q low high s mid r → NumeralIs (p >> q) low high s at r
then-numeral p q low high e (Some (n, next)) f = (then-reads p q e f.0, f.1, f.2)
then-numeral p q low high e None f = then-refuses p q e f

pub item-some : {s : List ℕ} {at : ℕ} {u : Unit {0}} (low high : ℕ) → ReadsTo (byte 44) s at u (at + 1)
    → (r : Optional (ℕ × ℕ)) → NumeralIs (numeral low high) low high s (at + 1) r → NumeralIs (item low high) low high s at r
unfolding item
item-some low high e r f = then-numeral comma (numeral low high) low high e r f

pub item-none : (low high : ℕ) (s : List ℕ) (at : ℕ) → Refuses (byte 44) s at → Refuses (item low high) s at
unfolding item
item-none low high s at e = then-refused comma (numeral low high) s at e

pub first_some : (letter : ℕ) {s : List ℕ} {at : ℕ} {u : Unit {0}} (low high : ℕ) → ReadsTo (byte letter) s at u (at + 1)
    → (r : Optional (ℕ × ℕ)) → NumeralIs (item low high) low high s (at + 1) r → NumeralIs (first letter low high) low high s at r
unfolding first
first_some letter low high e r f = then-numeral (byte letter) (item low high) low high e r f

pub first-none : (letter low high : ℕ) (s : List ℕ) (at : ℕ) → Refuses (byte letter) s at → Refuses (first letter low high) s at
unfolding first
first-none letter low high s at e = then-refused (byte letter) (item low high) s at e

-- Marks

pub mark-refused : (s : List ℕ) (at : ℕ) → Refuses (item 0 1) s at → Refuses mark s at
unfolding mark
mark-refused s at e = bind-refused _ _ s at e

pub mark-reads : {s : List ℕ} {at n next : ℕ} → ReadsTo (item 0 1) s at n next → ReadsTo mark s at (eqb n 1) next
unfolding mark
mark-reads e = bind-pure _ _ e

-- Fields that are `-`

pub dashed-none : (s : List ℕ) (at : ℕ) → Refuses comma s at → IsDashed s at false
unfolding dashed
dashed-none s at e = then-refused comma dash s at e

pub dashed-some : {s : List ℕ} {at : ℕ} {u : Unit {0}} → ReadsTo comma s at u (at + 1) → (t : Bool) → StartsWith 45 s (at + 1) t → IsDashed s at t
unfolding dashed
dashed-some {s} {at} e true f =
    let n : at + 1 + 1 ≡ at + 2 = omega arith in
    rw n at (then-reads comma dash e f)
dashed-some e false f = then-refuses comma dash e f

-- Texts

module _ (len : ℕ) (s : List ℕ) (at : ℕ) (h : at ≤ length s) where
  pub text-short : length s - at < len → Refuses (text len) s at
  unfolding text bytes ◌>>=◌ and_then
  text-short l = rw (lt-leb len (length (drop at s)) (omega (arith, length-drop at s)))

  text-short' : len ≤ length s - at → leb len (length (drop at s)) ≡ true
  text-short' l = le-leb len (length (drop at s)) (omega (arith, length-drop at s))

  pub text-tested : len ≤ length s - at → (t : Bool) → t ≡ is_utf8 (take len (drop at s)) → TextIs len s at t
  unfolding text bytes ◌>>=◌ ◌>>◌ and_then ensure pure
  text-tested l true e = (rw (text-short' l, ← e, drop-drop len at s), omega (arith, l, h))
  text-tested l false e = rw (text-short' l, ← e)

  pub text-empty : len ≡ 0 → TextIs len s at true
  text-empty e = text-tested (omega arith) true (rw e (sym utf8-empty))

-- An entry's last field and its end.

module _ (len : ℕ) {s : List ℕ} {at : ℕ} {u : Unit {0}} (c : ReadsTo (byte 44) s at u (at + 1)) where
  pub last-text : TextIs len s (at + 1) true → (t : Bool) → StartsWith 10 s (at + 1 + len) t → LastTextIs len s at t
  unfolding last_text ◌>>=◌ ◌>>◌ and_then pure
  last-text e true f =
      record {
        reads = rw (c.reads, e.0, f.reads);
        past = omega arith;
        within = f.within;
      }
  last-text e false f = rw (c.reads, e.0, f)

  pub last-refused : TextIs len s (at + 1) false → LastTextIs len s at false
  unfolding last_text ◌>>=◌ ◌>>◌ and_then
  last-refused e = rw (c.reads, e)

pub last_none : (len : ℕ) (s : List ℕ) (at : ℕ) → Refuses (byte 44) s at → LastTextIs len s at false
unfolding last_text ◌>>=◌ ◌>>◌ and_then
last_none len s at e = rw e

-- Texts that may be absent.

-- no numeral begins with `-`
numeral-dash : (low high : ℕ) (l : List ℕ) (t : Unit {0} × List ℕ) → dash l ≡ some t → numeral low high l ≡ none
unfolding byte numeral decimal is_digit ◌>>=◌ ◌>>◌ and_then
numeral-dash low high [] t f = refl
numeral-dash low high (x ∷ l) t f =
    by-test (eqb x 45)
    (λ q. rw (eqb-true x 45 q))
    (λ q. absurd (none-ne-some t (rw q at f)))

pub item-dashed : (low high : ℕ) {s : List ℕ} {at next : ℕ} {u : Unit {0}} → ReadsTo dashed s at u next → Refuses (item low high) s at
unfolding item dashed ◌>>=◌ ◌>>◌ and_then
item-dashed low high {s} {at} {next} {u} e = go (comma (drop at s)) e.reads
  where
    go : (o : Option (Unit {0} × List ℕ)) → and_then o (λ a. dash) ≡ some (u, drop next s) → and_then o (λ a. numeral low high) ≡ none
    go none f = refl
    go (some r) f = numeral-dash low high r.1 (u, drop next s) f

pub length-dashed : {s : List ℕ} {at next : ℕ} {u : Unit {0}} → ReadsTo dashed s at u next → ReadsTo text_length s at none next
unfolding text_length dashed either or_else ◌>>◌ ◌>>=◌ and_then pure
length-dashed {s} {at} e =
    record {
      reads = rw (then-then {C = Option ℕ} comma dash (pure none) (drop at s), e.reads);
      past = e.past;
      within = e.within;
    }

module _ (s : List ℕ) (at : ℕ) (d : Refuses dashed s at) where
  pub length-refused : Refuses (item 0 max_text) s at → Refuses text_length s at
  unfolding text_length dashed either or_else ◌>>◌ ◌>>=◌ and_then pure
  length-refused e = rw (then-then {C = Option ℕ} comma dash (pure none) (drop at s), d, e)

  pub length-reads : {n next : ℕ} → ReadsTo (item 0 max_text) s at n next → ReadsTo text_length s at (some n) next
  unfolding text_length dashed either or_else ◌>>◌ ◌>>=◌ and_then pure
  length-reads e =
      record {
        reads = rw (then-then {C = Option ℕ} comma dash (pure none) (drop at s), d, e.reads);
        past = e.past;
        within = e.within;
      }

pub optional-absent : (l : Optional ℕ) (s : List ℕ) (at : ℕ) → l ≡ None → at ≤ length s → OptionalIs l s at (Some (None, at))
unfolding optional_text length_of optional_of pure
optional-absent l s at e h = (rw e, omega arith, h)

pub optional-present : (l : Optional ℕ) (n : ℕ) (s : List ℕ) (at : ℕ) → l ≡ Some n → TextIs n s at true → OptionalIs l s at (Some (Some (record { start = at; len = n }), at + n))
unfolding optional_text length_of optional_of part_of ◌>>=◌ and_then pure
optional-present l n s at e t = (rw (e, t.0), omega arith, t.1)

pub optional-refused : (l : Optional ℕ) (n : ℕ) (s : List ℕ) (at : ℕ) → l ≡ Some n → TextIs n s at false → OptionalIs l s at None
unfolding optional_text length_of ◌>>=◌ and_then
optional-refused l n s at e t = rw (e, t)
