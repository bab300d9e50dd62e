-- The search for the first dot: what was passed is the beginning of the first segment.
use Prim.Native.Nat.{ℕ, zero, suc, ◌+◌, ◌<◌, ◌≤◌}
use Prim.Native.Char.{code}
use native.Mathlib.Omega.{arith}
use native.Mathlib.Numerals.{add-one}
use mathlib.Core.List.{List, [], ◌∷◌, ◌++◌, append-nil, append_assoc}
use mathlib.Core.Path.{◌≡◌, refl, ap, sym, ◌∙◌}
use lib.ListN.{length, take, drop, get_or, drop_of_length-le}
use lib.Seq.{drop-cons, take-suc, take_all}
use lib.Dec.{eqb, ltb}
use mathlib.Core.Bool.{Bool, true, false, not, ◌&&◌, and-eq-true_iff}
use borrow.Author.Tests.{eq-eqb, ne_eqb, eqb-false, ltb-true, ltb-false, not-true}
use Rattle.reference.specs.Path.{Segments, split, cut, extend}
use Rattle.text.proofs.Below.{below_more, reached}
use Rattle.walk.specs.Dots.{is_more, Ends, DotlessAt, DotlessStart}

-- a segment's beginning, in front of what is left to split
unfoldable pub behind : List ℕ → Segments → Segments
behind passed p = record { first = passed ++ p.first; others = p.others }

abbrev pub Passed : List ℕ → ℕ → Type 0
Passed path i = split path ≡ behind (take i path) (split (drop i path))

pub passed_none : (path : List ℕ) → Passed path 0
unfolding behind
passed_none path = refl

pub passed-more : (path : List ℕ) (i : ℕ) → Passed path i → i < length path → (get_or path i 0 ≡ 46 → ⊥) → Passed path (i + 1)
unfolding behind split extend
passed-more path i h less other =
    h ∙ rw (add-one, drop-cons path i 0, take-suc path i 0, ne_eqb (get_or path i 0) 46 other, append_assoc)

pub passed-dot : (path : List ℕ) (i : ℕ) → Passed path i → i < length path → get_or path i 0 ≡ 46
    → split path ≡ record { first = take i path; others = (split (drop (i + 1) path)).first ∷ (split (drop (i + 1) path)).others }
unfolding behind split cut
passed-dot path i h less dot = h ∙ rw (add-one, drop-cons path i 0, eq-eqb (get_or path i 0) 46 dot, append-nil)

pub passed-all : (path : List ℕ) (i : ℕ) → Passed path i → length path ≤ i → split path ≡ record { first = path; others = [] }
unfolding behind split
passed-all path i h end = h ∙ rw (drop_of_length-le path end, take_all i path, append-nil)

-- Bytes that are passed over by eights

unfoldable pub all : ℕ → (ℕ → Bool) → Bool
all zero p = true
all (suc n) p = all n p && p n

all_true : (n : ℕ) (p : ℕ → Bool) → all n p ≡ true → (k : ℕ) → k < n → p k ≡ true
unfolding all
all_true zero p e k h = absurd (omega arith)
all_true (suc n) p e k h =
    let (before, last) = (and-eq-true_iff (all n p) (p n)).0 e in
    below_more (λ j. p j ≡ true) n 1 (all_true n p before) (λ j l. let z : n + j ≡ n = omega arith in rw z last) k (omega arith)

-- the bytes from place `i` on, tested
abbrev pub other : List ℕ → ℕ → ℕ → Bool
other path i k = not (eqb (get_or path (i + k) 0) (code "."))

pub all-dotless : (path : List ℕ) (i n : ℕ) → all n (other path i) ≡ true → DotlessAt path i n
all-dotless path i n e k h = eqb-false (get_or path (i + k) 0) (code ".") (not-true _ (all_true n (other path i) e k h))

pub dotless-none : (path : List ℕ) → DotlessStart path 0
dotless-none path = record { within = omega arith; dotless = λ k h. absurd (omega arith) }

pub dotless-more
    : (path : List ℕ) (i n : ℕ)
    → DotlessStart path i
    → i + n ≤ length path
    → DotlessAt path i n
    → DotlessStart path (i + n)
dotless-more path i n h p at =
    record { within = p; dotless = below_more (λ k. get_or path k 0 ≡ code "." → ⊥) i n h.dotless at }

dotless-both : (path : List ℕ) (i m n : ℕ) → DotlessAt path i m → DotlessAt path (i + m) n → DotlessAt path i (m + n)
dotless-both path i m n low high =
    below_more (λ k. get_or path (i + k) 0 ≡ code "." → ⊥) m n low
    (λ k h. let e : i + m + k ≡ i + (m + k) = omega arith in rw e at (high k h))

pub dotless-four
    : (path : List ℕ) (i : ℕ) {a b c d : Bool}
    → (a ≡ true → DotlessAt path i 8)
    → (b ≡ true → DotlessAt path (i + 8) 8)
    → (c ≡ true → DotlessAt path (i + 16) 8)
    → (d ≡ true → DotlessAt path (i + 24) 8)
    → (((a && b) && c) && d) ≡ true
    → DotlessAt path i 32
dotless-four path i {a} {b} {c} {d} one two three four e =
    let (abc, last) = (and-eq-true_iff ((a && b) && c) d).0 e in
    let (ab, third) = (and-eq-true_iff (a && b) c).0 abc in
    let (first, second) = (and-eq-true_iff a b).0 ab in
    dotless-both path i 24 8 (dotless-both path i 16 8 (dotless-both path i 8 8 (one first) (two second)) (three third)) (four last)

pub passed_start : (path : List ℕ) (n : ℕ) → DotlessStart path n → Passed path n
passed_start path n h =
    reached (Passed path) n (passed_none path) (λ i l passed. passed-more path i passed (omega (arith, h.within)) (h.dotless i l))

-- Where the first segment ends

pub ends-dot : (path : List ℕ) (i : ℕ) → Passed path i → i < length path → get_or path i 0 ≡ 46 → Ends path i
ends-dot path i h less dot =
    let q = passed-dot path i h less dot in
    record {
      within = omega arith;
      first = ap (λ (p : Segments). p.first) q;
      last = λ end. absurd (omega arith);
      more = λ less. ap (λ (p : Segments). p.others) q;
    }

pub ends-all : (path : List ℕ) (i : ℕ) → Passed path i → i ≤ length path → length path ≤ i → Ends path i
ends-all path i h within end =
    let q = passed-all path i h end in
    record {
      within = within;
      first = ap (λ (p : Segments). p.first) q ∙ sym (take_all i path end);
      last = λ e. ap (λ (p : Segments). p.others) q;
      more = λ less. absurd (omega arith);
    }

pub segments-are : (p : Segments) {x : List ℕ} {y : List (List ℕ)} → p.first ≡ x → p.others ≡ y → p ≡ record { first = x; others = y }
segments-are p e f = rw (← e, ← f)

pub ends_more : (path : List ℕ) (n : ℕ) → Ends path n → ltb n (length path) ≡ is_more (split path).others
ends_more path n ends = by (ltb n (length path)) refl
  where
    by : (b : Bool) → ltb n (length path) ≡ b → b ≡ is_more (split path).others
    by true e = rw (ends.more (ltb-true n (length path) e))
    by false e = let f : n ≡ length path = omega (arith, ltb-false n (length path) e, ends.within) in rw (ends.last f)
