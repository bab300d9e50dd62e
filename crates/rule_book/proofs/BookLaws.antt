-- A file is of a rule book's form exactly if it is the writing of some sheets; and how it is read, sheet by sheet.
use Rattle.std.specs.Prelude.{ℕ, zero, suc, ◌+◌, ◌≤◌, List, [], ◌∷◌, ◌++◌, ◌↔◌, ◌≡◌, length, take}
use Rattle.std.proofs.Common.{arith, sym, ap, ◌∙◌, length-append}
use Rattle.std.proofs.Math.Option.{Option, none, some, map, none-ne-some, some-injective}
use Rattle.std.proofs.Math.Path.{refl}
use Rattle.text.specs.Ascii.{ascii}
use Rattle.text.specs.Reader.{Reader, ◌>>=◌, ◌>>◌, and_then, pure, either, or_else}
use Rattle.text.specs.ReaderLaws.{Reads, bind_inv, then-inv, bind-reads, then-reads, pure-inv}
use Rattle.text.specs.Numeral.{decimal, decimal_of}
use Rattle.text.specs.NumeralLaws.{decimal-sound, decimal-complete, decimal_of-begins, comma-begins}
use Rattle.text.specs.ByteReaders.{bytes}
use Rattle.text.specs.ByteReaderLaws.{byte-sound, byte-complete, bytes-sound, bytes-complete}
use Rattle.rule_book.specs.Book.{sheet_in, no_more, sheets_in, sheets_of, write_book}

-- One sheet.

abbrev write_sheet : List ℕ → List ℕ → List ℕ
write_sheet x t = decimal_of (length x) ++ (ascii "," ++ (x ++ t))

sheet-sound : (s x t : List ℕ) → Reads sheet_in s x t → s ≡ write_sheet x t
unfolding sheet_in ascii
sheet-sound s x t e =
    bind_inv _ _ s e λ n s₁ e₁ e.
    then-inv _ _ s₁ e λ u s₂ e₂ e₃.
    let (rest, size) = bytes-sound n s₂ x t e₃ in
    decimal-sound s n s₁ e₁
    ∙ ap (λ (r : List ℕ). decimal_of n ++ r) (byte-sound _ s₁ u s₂ e₂ ∙ ap (λ (r : List ℕ). 44 ∷ r) rest)
    ∙ ap (λ (m : ℕ). decimal_of m ++ (44 ∷ (x ++ t))) (sym size)

sheet-complete : (x t : List ℕ) → Reads sheet_in (write_sheet x t) x t
unfolding sheet_in ascii
sheet-complete x t =
    bind-reads _ _ (decimal-complete (length x) (44 ∷ (x ++ t)) (comma-begins (x ++ t)))
    (then-reads _ _ (byte-complete 44 (x ++ t)) (bytes-complete x t))

-- its length and the comma take two bytes or more
pub sheet-bytes : (s x t : List ℕ) → Reads sheet_in s x t → 2 + length x + length t ≤ length s
unfolding ascii
sheet-bytes s x t e =
    let (d, rest, digits, _) = decimal_of-begins (length x) in
    let some-digit : length (decimal_of (length x)) ≡ 1 + length rest = ap length digits ∙ omega arith in
    let size : length s ≡ length (decimal_of (length x)) + (1 + (length x + length t)) = ap length (sheet-sound s x t e) ∙ simp length-append (omega arith) in
    omega arith

-- and what is read as its length is that
pub sheet-length : (s x t : List ℕ) → Reads sheet_in s x t → (u : List ℕ) × (decimal s ≡ some (length x, u))
unfolding sheet_in
sheet-length s x t e =
    bind_inv _ _ s e λ n s₁ e₁ e.
    then-inv _ _ s₁ e λ u s₂ e₂ e₃.
    (s₁, e₁ ∙ ap (λ (m : ℕ). some (m, s₁)) (sym (bytes-sound n s₂ x t e₃).1))

-- The sheets of a file: there are no more of them than bytes, so a larger bound changes nothing.

module _ {S A B : Type 0} where
  then_same : (o : Option (A × S)) (k l : A → Reader S B) → ((a : A) (t : S) → o ≡ some (a, t) → k a t ≡ l a t) → and_then o k ≡ and_then o l
  unfolding and_then
  then_same none k l h = refl
  then_same (some r) k l h = h r.0 r.1 refl

  bind-same : (p : Reader S A) (k l : A → Reader S B) (s : S) → ((a : A) (t : S) → Reads p s a t → k a t ≡ l a t) → (p >>= k) s ≡ (p >>= l) s
  unfolding ◌>>=◌
  bind-same p k l s h = then_same (p s) k l h

abbrev further : ℕ → List ℕ → Reader (List ℕ) (List (List ℕ))
further most sheet = sheets_in most >>= λ others. pure (sheet ∷ others)

further_same : (m n : ℕ) (x t : List ℕ) → sheets_in m t ≡ sheets_in n t → further m x t ≡ further n x t
unfolding ◌>>=◌
further_same m n x t e = rw e

bounds-same : (m n : ℕ) (s : List ℕ) → length s ≤ m → length s ≤ n → sheets_in m s ≡ sheets_in n s
unfolding sheets_in either or_else no_more
bounds-same zero zero s h k = refl
bounds-same zero (suc n) [] h k = refl
bounds-same zero (suc n) (b ∷ s) h k = absurd (omega arith)
bounds-same (suc m) zero [] h k = refl
bounds-same (suc m) zero (b ∷ s) h k = absurd (omega arith)
bounds-same (suc m) (suc n) [] h k = refl
bounds-same (suc m) (suc n) (b ∷ s) h k =
    bind-same sheet_in (further m) (further n) (b ∷ s) λ x t e.
    let less = sheet-bytes (b ∷ s) x t e in
    further_same m n x t (bounds-same m n t (omega arith) (omega arith))

-- How a file is read: at its end, at a sheet, and at what is not a sheet.

pub sheets-end : sheets_of [] ≡ some []
unfolding sheets_of sheets_in no_more
sheets-end = refl

added : (x : List ℕ) (o : Option (List (List ℕ) × List ℕ))
    → map (λ r. r.0) (and_then o (λ others. pure (x ∷ others))) ≡ map (λ (others : List (List ℕ)). x ∷ others) (map (λ r. r.0) o)
unfolding and_then pure
added x none = refl
added x (some r) = refl

pub sheets-more : (s x t : List ℕ) → Reads sheet_in s x t → sheets_of s ≡ map (λ (others : List (List ℕ)). x ∷ others) (sheets_of t)
unfolding sheets_of sheets_in either or_else no_more ◌>>=◌ and_then
sheets-more [] x t e = absurd (omega (arith, sheet-bytes [] x t e))
sheets-more (b ∷ s) x t e =
    let less = sheet-bytes (b ∷ s) x t e in
    rw (e, bounds-same (length s) (length t) t (omega arith) (omega arith)) (added x (sheets_in (length t) t))

pub sheets-none : (s : List ℕ) → 1 ≤ length s → sheet_in s ≡ none → sheets_of s ≡ none
unfolding sheets_of sheets_in either or_else no_more ◌>>=◌ and_then
sheets-none [] h e = absurd (omega arith)
sheets-none (b ∷ s) h e = rw e

-- The form: a file is read as these sheets exactly if it is their writing.

sheets-sound : (n : ℕ) (s : List ℕ) (sheets : List (List ℕ)) (t : List ℕ) → Reads (sheets_in n) s sheets t → s ≡ write_book sheets
unfolding sheets_in either or_else no_more write_book
sheets-sound zero [] sheets t e = ap (λ (r : List (List ℕ) × List ℕ). write_book r.0) (some-injective ([], []) (sheets, t) e)
sheets-sound zero (b ∷ s) sheets t e = absurd (none-ne-some _ e)
sheets-sound (suc n) [] sheets t e = ap (λ (r : List (List ℕ) × List ℕ). write_book r.0) (some-injective ([], []) (sheets, t) e)
sheets-sound (suc n) (b ∷ s) sheets t e =
    bind_inv _ _ _ e λ x u e₁ e.
    bind_inv _ _ _ e λ others v e₂ e.
    sheet-sound (b ∷ s) x u e₁ ∙ ap (λ (r : List ℕ). write_sheet x r) (sheets-sound n u others v e₂) ∙ ap write_book (pure-inv _ _ e).0

first_of : (o : Option (List (List ℕ) × List ℕ)) (sheets : List (List ℕ)) → map (λ r. r.0) o ≡ some sheets → (t : List ℕ) × (o ≡ some (sheets, t))
first_of none sheets e = absurd (none-ne-some _ e)
first_of (some r) sheets e = (r.1, ap (λ (x : List (List ℕ)). some (x, r.1)) (some-injective r.0 sheets e))

pub book-first : (x : List ℕ) (others : List (List ℕ)) → Reads sheet_in (write_book (x ∷ others)) x (write_book others)
unfolding write_book
book-first x others = sheet-complete x (write_book others)

book-written : (sheets : List (List ℕ)) → sheets_of (write_book sheets) ≡ some sheets
unfolding write_book
book-written [] = sheets-end
book-written (x ∷ others) =
    sheets-more _ x (write_book others) (book-first x others)
    ∙ ap (map (λ (more : List (List ℕ)). x ∷ more)) (book-written others)

pub book-round-trip : (file : List ℕ) (sheets : List (List ℕ)) → (sheets_of file ≡ some sheets) ↔ (file ≡ write_book sheets)
unfolding sheets_of
book-round-trip file sheets = (
  λ e. let (rest, read) = first_of (sheets_in (length file) file) sheets e in sheets-sound (length file) file sheets rest read,
  λ e. rw e (book-written sheets),
)
