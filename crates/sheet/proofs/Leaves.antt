-- Laws of values that hold no others: a type of one digit by its bytes, and the rest of the entry by what the code reads.
use Rattle.std.specs.Prelude.{Some}
use Prim.Native.Nat.{ℕ, ◌+◌, ◌-◌, ◌<◌, ◌≤◌}
use mathlib.Core.Path.{◌≡◌, refl}
use mathlib.Core.Bool.{true, false, cond}
use mathlib.Core.List.{List}
use native.Mathlib.Omega.{arith}
use lib.ListN.{length, take, drop, get_or}
use lib.Dec.{leb, eqb}
use borrow.Author.Tests.{le-leb, eq-eqb, leb-true, leb-false}
use Rattle.text.specs.Decimal.{is_digit}
use Rattle.text.specs.Numeral.{numeral}
use Rattle.text.specs.CaseLaws.{by-test}
use Rattle.text.specs.ByteReaders.{byte, comma}
use Rattle.text.specs.Parts.{part_of}
use Rattle.text.specs.ReadAt.{ReadsTo}
use Rattle.text.specs.ReadAtLaws.{byte_reads}
use Rattle.text.proofs.Numerals.{digits-stop, decimal-some, numeral-within}
use Rattle.number.specs.Grammar.{is_number}
use Rattle.sheet.specs.Entries.{max_text, item}
use Rattle.sheet.specs.Pieces.{first, kind_of, value_row, value_from}
use Rattle.sheet.specs.Places.{LastTextIs, LeafRead, LeafTypeIs, LeafEnds, value_count}
use Rattle.sheet.specs.declared.rule_heads.ValueKind.{ValueKind}
use Rattle.sheet.specs.declared.rule_heads.ValueKind.TheVariants as kind
use Rattle.sheet.proofs.Chains.{item-some, first_some}
use Rattle.sheet.proofs.Heads.{value-reads, value-code}

-- a byte that is there
byte-there : (b : ℕ) (s : List ℕ) (at : ℕ) → at < length s → get_or s at 0 ≡ b → ReadsTo (byte b) s at tt (at + 1)
byte-there b s at h e = let r = byte_reads b s at h in rw (eq-eqb (get_or s at 0) b e) at r

-- a numeral of one digit from 1 to 5, with a comma after it
one-digit : (s : List ℕ) (i : ℕ) → i + 1 < length s → 49 ≤ get_or s i 0 → get_or s i 0 ≤ 53 → get_or s (i + 1) 0 ≡ 44 → ReadsTo (numeral 1 7) s i (get_or s i 0 - 48) (i + 1)
unfolding is_digit
one-digit s i h low high e =
    let digit : is_digit (get_or s i 0) ≡ true = rw (le-leb 48 (get_or s i 0) (omega arith), le-leb (get_or s i 0) 57 (omega arith)) in
    let none_more : is_digit (get_or s (i + 1) 0) ≡ false = rw e in
    let d = decimal-some 7 s i (omega arith) (λ q. omega arith) digit (Some (get_or s i 0 - 48, i + 1)) (digits-stop (get_or s i 0 - 48) s (i + 1) h none_more, omega arith, omega arith) in
    numeral-within 1 7 d (omega arith) (omega arith)

-- a type of one digit, by its bytes
module _ (s : List ℕ) (at : ℕ) (h : at + 3 < length s) (e₀ : get_or s at 0 ≡ 86) (e₁ : get_or s (at + 1) 0 ≡ 44) (e₃ : get_or s (at + 3) 0 ≡ 44) (low : 49 ≤ get_or s (at + 2) 0) (high : get_or s (at + 2) 0 ≤ 53) where
  type-digit : ReadsTo (numeral 1 7) s (at + 1 + 1) (get_or s (at + 2) 0 - 48) (at + 3)
  type-digit =
      let p : at + 1 + 1 ≡ at + 2 = omega arith in
      let q : at + 2 + 1 ≡ at + 3 = omega arith in
      rw (p, ← q) (one-digit s (at + 2) (omega arith) low high (rw q e₃))

  pub leaf_type : ReadsTo (first 86 1 7) s at (get_or s (at + 2) 0 - 48) (at + 3) × ReadsTo comma s (at + 3) tt (at + 4) × (get_or s (at + 2) 0 - 48 ≤ 5)
  leaf_type =
      let r : at + 3 + 1 ≡ at + 4 = omega arith in
      let letter = byte-there 86 s at (omega arith) e₀ in
      let after = byte-there 44 s (at + 1) (omega arith) e₁ in
      let number = item-some 1 7 after (Some (get_or s (at + 2) 0 - 48, at + 3)) (type-digit, omega arith, omega arith) in
      ((first_some 86 1 7 letter (Some (get_or s (at + 2) 0 - 48, at + 3)) number).0, rw r at (byte-there 44 s (at + 3) h e₃), omega arith)

pub no-type : (s : List ℕ) (at : ℕ) → LeafTypeIs s at 0
no-type s at h = absurd (omega (arith, h))

pub no-leaf : (s : List ℕ) (at : ℕ) → LeafEnds s at 0
no-leaf s at h = absurd (omega (arith, h))

-- the rest of the entry
module _ {s : List ℕ} {at number : ℕ} (type : ReadsTo (first 86 1 7) s at number (at + 3) × ReadsTo comma s (at + 3) tt (at + 4) × (number ≤ 5)) {most n end : ℕ}
    (length-read : ReadsTo (numeral 0 most) s (at + 4) n end) (short : n ≤ most) (text : LastTextIs n s end true)
  where
    field : ReadsTo (item 0 most) s (at + 3) n end
    field =
        let r : at + 3 + 1 ≡ at + 4 = omega arith in
        (item-some {s = s} {at = at + 3} 0 most (rw r type.1) (Some (n, end)) (rw r length-read, omega arith, short)).0

    leaf-of : (k : ValueKind) → k ≡ kind_of number → most ≡ (value_row k).most → n ≡ cond (value_row k).texted n 0
        → true ≡ cond (value_row k).numeric (is_number (take n (drop (end + 1) s))) true
        → value_count (value_from k number n (record { start = end + 1; len = n })) ≡ 0
        → LeafRead s at (end + 1 + n + 1)
    unfolding part_of
    leaf-of k is its size right bare =
        record {
          head = value_from k number n (record { start = end + 1; len = n });
          reads = rw (← value-code s k number n (record { start = end + 1; len = n })) (value-reads type.0 k is (value_row k) refl (rw (← its) field) n size text right);
          bare = bare;
        }

    pub leaf-reads : most ≡ cond (leb number 3) 0 max_text → true ≡ cond (eqb number 4) (is_number (take n (drop (end + 1) s))) true → LeafRead s at (end + 1 + n + 1)
    unfolding kind_of value_row value_from value_count
    leaf-reads m right =
        by-test (leb number 3)
        (λ a. let none : most ≡ 0 = rw a at m in leaf-of kind.Constant (rw a) none (omega arith) refl refl)
        (λ a.
        let all : most ≡ max_text = rw a at m in
        by-test (leb number 4)
        (λ b.
        let four : number ≡ 4 = omega (arith, leb-true number 4 b, leb-false number 3 a) in
        leaf-of kind.Number (rw (a, b)) all refl (rw (eq-eqb number 4 four) at right) refl)
        (λ b. leaf-of kind.Text (rw (a, b, le-leb number 5 type.2)) all refl refl refl))
