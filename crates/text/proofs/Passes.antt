-- What the loops over a text keep from turn to turn: the answer for the rest is the answer for the whole.
use Prim.Native.Nat.{ℕ, ◌+◌, ◌-◌, ◌≤◌, ◌<◌}
use mathlib.Core.Path.{◌≡◌, refl, sym, ap, ◌∙◌}
use mathlib.Core.Bool.{Bool, true, false}
use mathlib.Core.List.{List}
use mathlib.Core.Option.{none, some}
use native.Mathlib.Omega.{arith}
use native.Mathlib.Nat.{zero-add}
use lib.ListN.{length, get_or, take, drop, length-take, length-drop, drop_of_length-le}
use lib.Seq.{get_or-take, get_or-drop}
use Rattle.text.proofs.Below.{below_more, reached}
use Rattle.text.specs.Utf8.{utf8-1, utf8-2, utf8-3, utf8-4, or_else, decode_one, is_utf8}
use Rattle.text.specs.WhiteSpace.{is_white_space}
use Rattle.text.specs.Blank.{is_blank, trim_start}
use Rattle.text.specs.Decodes.{AsciiAt, PassedTo, BehindPoint}
use Rattle.text.proofs.Decode.{one_byte}
use Rattle.text.proofs.Points.{utf8-empty, utf8-none, utf8-some, blank-empty, blank_none, blank-some, start_none, start-white, start-other}

more_left : (s : List ℕ) (at : ℕ) → at < length s → 0 < length (drop at s)
more_left s at h = rw (length-drop at s) (omega arith)

ascii-step
    : (s : List ℕ) (at next : ℕ)
    → next ≡ at + 1
    → at < length s
    → get_or s at 0 ≤ 0x7F
    → is_utf8 (drop next s) ≡ is_utf8 (drop at s)
ascii-step s at next e h l = rw e (sym (utf8-some (drop at s) (one_byte s at h l refl)))

ascii-steps
    : (s : List ℕ) (at n : ℕ)
    → at + n ≤ length s
    → AsciiAt s at n
    → is_utf8 (drop (at + n) s) ≡ is_utf8 (drop at s)
ascii-steps s at n h l =
    let here : at + 0 ≡ at = omega arith in
    reached (λ m. is_utf8 (drop (at + m) s) ≡ is_utf8 (drop at s)) n (rw here)
    (λ m b e. ascii-step s (at + m) (at + (m + 1)) (omega arith) (omega arith) (l m b) ∙ e)

pub passed_none : (s : List ℕ) (from : ℕ) → from ≤ length s → PassedTo s from from
passed_none s from h = record { forward = omega arith; within = h; kept = refl }

pub passed-both : {s : List ℕ} {from mid to : ℕ} → PassedTo s from mid → PassedTo s mid to → PassedTo s from to
passed-both p q = record { forward = omega (arith, p.forward, q.forward); within = q.within; kept = q.kept ∙ p.kept }

pub passed-byte : (s : List ℕ) (from at : ℕ) → PassedTo s from at → at < length s → get_or s at 0 ≤ 0x7F → PassedTo s from (at + 1)
passed-byte s from at p h l = record { forward = omega (arith, p.forward); within = omega arith; kept = ascii-step s at (at + 1) refl h l ∙ p.kept }

pub passed-ascii
    : (s : List ℕ) (from at n : ℕ)
    → PassedTo s from at
    → at + n ≤ length s
    → AsciiAt s at n
    → PassedTo s from (at + n)
passed-ascii s from at n p h l = record { forward = omega (arith, p.forward); within = h; kept = ascii-steps s at n h l ∙ p.kept }

module _ (s : List ℕ) (at : ℕ) where
  -- one part after the other, and two that may overlap
  pub ascii_more : (m n : ℕ) → AsciiAt s at m → AsciiAt s (at + m) n → AsciiAt s at (m + n)
  ascii_more m n low high =
      below_more (λ k. get_or s (at + k) 0 ≤ 0x7F) m n low
      (λ k h. let e : at + m + k ≡ at + (m + k) = omega arith in rw e at (high k h))

  pub ascii-ends : (n len : ℕ) → n ≤ len → len ≤ n + n → AsciiAt s at n → AsciiAt s (at + len - n) n → AsciiAt s at len
  ascii-ends n len h m low high =
      let whole : n + (len - n) ≡ len = omega arith in
      rw whole at
      (ascii_more n (len - n) low
      (λ k b. let e : at + len - n + (n + n - len + k) ≡ at + n + k = omega arith in rw e at (high (n + n - len + k) (omega arith))))

  pub ascii-text : (n : ℕ) → at + n ≤ length s → AsciiAt s at n → is_utf8 (take n (drop at s)) ≡ true
  ascii-text n h l =
      let size : length (take n (drop at s)) ≡ n = omega (arith, length-take n (drop at s), length-drop at s) in
      let bytes : AsciiAt (take n (drop at s)) 0 n =
      λ k b. rw (zero-add k, get_or-take n (drop at s) k 0 b, get_or-drop at s k 0) (l k b) in
      sym (ascii-steps (take n (drop at s)) 0 n (omega arith) bytes)
      ∙ ap is_utf8 (drop_of_length-le (take n (drop at s)) {i = 0 + n} (omega arith))
      ∙ utf8-empty

  pub none-behind : at < length s → decode_one (drop at s) ≡ none → BehindPoint s at at
  none-behind h e =
      record { passed = passed_none s at (omega arith); none-begins = λ same. utf8-none (drop at s) (more_left s at h) e }

  pub point-behind
      : {c : ℕ} (n : ℕ)
      → 0 < n
      → at + n ≤ length s
      → decode_one (drop at s) ≡ some (c, drop (at + n) s)
      → BehindPoint s at (at + n)
  point-behind n some_bytes h e =
      record {
        passed = record { forward = omega arith; within = h; kept = sym (utf8-some (drop at s) e) };
        none-begins = λ same. absurd (omega arith);
      }

  module _ (p : PassedTo s 0 at) where
    pub utf8-refused : {next : ℕ} → BehindPoint s at next → next ≡ at → false ≡ is_utf8 s
    utf8-refused b e = sym (b.none-begins e) ∙ p.kept

    pub utf8-passed : length s ≤ at → true ≡ is_utf8 s
    utf8-passed h = sym utf8-empty ∙ ap is_utf8 (sym (drop_of_length-le s h)) ∙ p.kept

  module _ (kept : is_blank (drop at s) ≡ is_blank s) where
    pub blank-again
        : {c : ℕ} (next : ℕ) {w : Bool}
        → decode_one (drop at s) ≡ some (c, drop next s)
        → w ≡ is_white_space c
        → w ≡ true
        → is_blank (drop next s) ≡ is_blank s
    blank-again next e q t =
        (let f : is_blank (drop at s) ≡ is_blank (drop next s) = blank-some (drop at s) e ∙ rw (sym q ∙ t) in sym f) ∙ kept

    pub blank-stopped
        : {c : ℕ} (next : ℕ) {w : Bool}
        → decode_one (drop at s) ≡ some (c, drop next s)
        → w ≡ is_white_space c
        → w ≡ false
        → false ≡ is_blank s
    blank-stopped next e q t =
        (let f : is_blank (drop at s) ≡ false = blank-some (drop at s) e ∙ rw (sym q ∙ t) in sym f) ∙ kept

    pub blank-refused : at < length s → decode_one (drop at s) ≡ none → false ≡ is_blank s
    blank-refused h e = sym (blank_none (drop at s) (more_left s at h) e) ∙ kept

    pub blank-passed : length s ≤ at → true ≡ is_blank s
    blank-passed h = sym blank-empty ∙ ap is_blank (sym (drop_of_length-le s h)) ∙ kept

  module _ (kept : trim_start (drop at s) ≡ trim_start s) where
    pub start-again
        : {c : ℕ} (next : ℕ) {w : Bool}
        → decode_one (drop at s) ≡ some (c, drop next s)
        → w ≡ is_white_space c
        → w ≡ true
        → trim_start (drop next s) ≡ trim_start s
    start-again next e q t = sym (start-white (drop at s) e (sym q ∙ t)) ∙ kept

    pub start-stopped
        : {c : ℕ} (next : ℕ) {w : Bool}
        → decode_one (drop at s) ≡ some (c, drop next s)
        → w ≡ is_white_space c
        → w ≡ false
        → drop at s ≡ trim_start s
    start-stopped next e q t = sym (start-other (drop at s) e (sym q ∙ t)) ∙ kept

    pub start-refused : decode_one (drop at s) ≡ none → drop at s ≡ trim_start s
    start-refused e = sym (start_none (drop at s) e) ∙ kept

    pub start-passed : length s ≤ at → drop at s ≡ trim_start s
    unfolding decode_one utf8-1 utf8-2 utf8-3 utf8-4 or_else
    start-passed h = let e : decode_one (drop at s) ≡ none = rw (drop_of_length-le s h) in start-refused e
