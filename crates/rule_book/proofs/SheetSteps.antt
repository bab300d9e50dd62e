-- Each way through the code's readers of a book, as an equation of the definitions.
use Rattle.std.specs.Prelude.{None}
use Prim.Native.Nat.{ℕ, ◌+◌, ◌-◌, ◌<◌, ◌≤◌}
use native.Mathlib.Omega.{arith}
use mathlib.Core.List.{List, ◌∷◌}
use mathlib.Core.Option.{Option, none, some, map, some-ne-none}
use mathlib.Core.Path.{◌≡◌, refl, ap, ◌∙◌}
use lib.ListN.{length, drop, length-drop, drop_of_length-le}
use lib.Seq.{drop-drop}
use borrow.Author.Tests.{le-leb, lt-leb}
use Rattle.text.specs.Reader.{◌>>=◌, ◌>>◌, and_then}
use Rattle.text.specs.Numeral.{decimal}
use Rattle.text.specs.ByteReaders.{byte, bytes}
use Rattle.text.specs.Parts.{part_of}
use Rattle.text.specs.ReadAt.{ReadsTo, Refuses, DecimalIs}
use Rattle.rule_book.specs.Book.{sheet_in, sheets_of}
use Rattle.rule_book.proofs.BookLaws.{sheet-bytes, sheet-length, sheets-end, sheets-more, sheets-none}
use Rattle.rule_book.specs.Places.{sheet_count}

-- One sheet.

-- no length, or one beyond the file's
pub sheet-no-length : (s : List ℕ) (at : ℕ) → DecimalIs (length s) s at None → Refuses sheet_in s at
sheet-no-length s at bad = go (sheet_in (drop at s)) refl
  where
    go : (o : Option (List ℕ × List ℕ)) → sheet_in (drop at s) ≡ o → Refuses sheet_in s at
    go none e = e
    go (some (x, t)) e =
        let (u, read) = sheet-length (drop at s) x t e in
        absurd (omega (arith, bad (length x) u read, sheet-bytes (drop at s) x t e, length-drop at s))

module _ {s : List ℕ} {at n next : ℕ} (d : ReadsTo decimal s at n next) where
  pub sheet-no-comma : Refuses (byte 44) s next → Refuses sheet_in s at
  unfolding sheet_in ◌>>=◌ ◌>>◌ and_then
  sheet-no-comma e = rw (d.reads, e)

  module _ (c : ReadsTo (byte 44) s next tt (next + 1)) where
    pub sheet-short : length s - (next + 1) < n → Refuses sheet_in s at
    unfolding sheet_in bytes ◌>>=◌ ◌>>◌ and_then
    sheet-short h = rw (d.reads, c.reads, lt-leb n (length (drop (next + 1) s)) (omega (arith, length-drop (next + 1) s)))

    pub sheet-reads : n ≤ length s - (next + 1) → ReadsTo sheet_in s at (part_of s (record { start = next + 1; len = n })) (next + 1 + n)
    unfolding sheet_in bytes part_of ◌>>=◌ ◌>>◌ and_then
    sheet-reads h =
        record {
          reads = rw (d.reads, c.reads, le-leb n (length (drop (next + 1) s)) (omega (arith, length-drop (next + 1) s)), drop-drop n (next + 1) s);
          past = omega (arith, d.past);
          within = omega (arith, c.within);
        }

-- How many sheets.

-- so many more than are counted in o
unfoldable pub plus : ℕ → Option ℕ → Option ℕ
plus n o = map (λ (m : ℕ). n + m) o

pub plus_none : (o : Option ℕ) → o ≡ plus 0 o
unfolding plus
plus_none none = refl
plus_none (some m) = ap (λ (k : ℕ). some k) (omega arith)

pub count-end : (n : ℕ) (s : List ℕ) (at : ℕ) → length s ≤ at → plus n (sheet_count (drop at s)) ≡ some n
unfolding plus sheet_count
count-end n s at h = rw (drop_of_length-le s h, sheets-end) (ap (λ (k : ℕ). some k) (omega arith))

one_more : (n : ℕ) (x : List ℕ) (o : Option (List (List ℕ)))
    → plus n (map length (map (λ (others : List (List ℕ)). x ∷ others) o)) ≡ plus (n + 1) (map length o)
unfolding plus
one_more n x none = refl
one_more n x (some others) = ap (λ (k : ℕ). some k) (omega arith)

pub count-more : (n : ℕ) {s x : List ℕ} {at next : ℕ} → ReadsTo sheet_in s at x next → plus n (sheet_count (drop at s)) ≡ plus (n + 1) (sheet_count (drop next s))
unfolding sheet_count
count-more n {s} {x} {at} {next} r = rw (sheets-more (drop at s) x (drop next s) r.reads) (one_more n x (sheets_of (drop next s)))

none-counted : (n : ℕ) (o : Option (List (List ℕ))) → map length o ≡ plus n none → o ≡ none
unfolding plus
none-counted n none e = refl
none-counted n (some sheets) e = absurd (some-ne-none (length sheets) e)

pub count_none : (n : ℕ) (s : List ℕ) (at : ℕ) → at < length s → Refuses sheet_in s at → sheet_count s ≡ plus n (sheet_count (drop at s)) → sheets_of s ≡ none
unfolding sheet_count
count_none n s at h e inv =
    none-counted n (sheets_of s) (inv ∙ ap (λ (o : Option (List (List ℕ))). plus n (map length o)) (sheets-none (drop at s) (omega (arith, length-drop at s)) e))
