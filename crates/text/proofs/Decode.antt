-- What is at an offset, at each way through `decode_one`. `u` is what a test answered, `w` the code point that was computed.
use Prim.Native.Nat.{ℕ, ◌+◌, ◌-◌, ◌≤◌, ◌<◌}
use mathlib.Core.Path.{◌≡◌, sym, ◌∙◌}
use mathlib.Core.Bool.{Bool, true, false}
use mathlib.Core.List.{List, [], ◌∷◌}
use mathlib.Core.Option.{none, some}
use native.Mathlib.Omega.{arith}
use native.Mathlib.Numerals.{add-one}
use lib.ListN.{length, get_or, drop, drop_of_length-le}
use lib.Seq.{drop-cons}
use borrow.Author.Tests.{le-leb, lt-leb}
use Rattle.text.specs.Utf8.{utf8-1, is_utf8-2, code_of2, utf8-2, is_utf8-3, code_of3, utf8-3, is_utf8-4, code_of4, utf8-4, or_else, decode_one}

module _ (s : List ℕ) (at : ℕ) where
  -- the bytes that are there, one after the other
  drop-1 : at < length s → drop at s ≡ get_or s at 0 ∷ drop (at + 1) s
  drop-1 h = rw (add-one, drop-cons s at 0)

  drop-2 : at + 1 < length s → drop at s ≡ get_or s at 0 ∷ get_or s (at + 1) 0 ∷ drop (at + 2) s
  drop-2 h =
      let k : at < length s = omega arith in
      let e : at + 2 ≡ at + 1 + 1 = omega arith in
      rw (drop-1 k, e, add-one (at + 1), drop-cons s (at + 1) 0 h)

  drop-3 : at + 2 < length s → drop at s ≡ get_or s at 0 ∷ get_or s (at + 1) 0 ∷ get_or s (at + 2) 0 ∷ drop (at + 3) s
  drop-3 h =
      let k : at + 1 < length s = omega arith in
      let e : at + 3 ≡ at + 2 + 1 = omega arith in
      rw (drop-2 k, e, add-one (at + 2), drop-cons s (at + 2) 0 h)

  drop-4
      : at + 3 < length s
      → drop at s ≡ get_or s at 0 ∷ get_or s (at + 1) 0 ∷ get_or s (at + 2) 0 ∷ get_or s (at + 3) 0 ∷ drop (at + 4) s
  drop-4 h =
      let k : at + 2 < length s = omega arith in
      let e : at + 4 ≡ at + 3 + 1 = omega arith in
      rw (drop-3 k, e, add-one (at + 3), drop-cons s (at + 3) 0 h)

  drop-end : (n : ℕ) → length s ≤ n → drop n s ≡ []
  drop-end n h = drop_of_length-le s h

  pub none-past : length s ≤ at → decode_one (drop at s) ≡ none
  unfolding decode_one utf8-1 utf8-2 utf8-3 utf8-4 or_else
  none-past h = rw (drop-end at h)

  pub one_byte
      : {w : ℕ}
      → at < length s
      → get_or s at 0 ≤ 0x7F
      → w ≡ get_or s at 0
      → decode_one (drop at s) ≡ some (w, drop (at + 1) s)
  unfolding decode_one utf8-1 or_else
  one_byte h l e = rw (drop-1 h, le-leb _ _ l, e)

  module _ (far : 0x7F < get_or s at 0) where
    pub none-short-1 : at < length s → length s - at < 2 → decode_one (drop at s) ≡ none
    unfolding decode_one utf8-1 utf8-2 utf8-3 utf8-4 or_else
    none-short-1 h k = rw (drop-1 h, drop-end (at + 1) (omega arith), lt-leb _ _ far)

    pub two_bytes
        : {w : ℕ} {u : Bool}
        → 2 ≤ length s - at
        → u ≡ is_utf8-2 (get_or s at 0) (get_or s (at + 1) 0)
        → u ≡ true
        → w ≡ code_of2 (get_or s at 0) (get_or s (at + 1) 0)
        → decode_one (drop at s) ≡ some (w, drop (at + 2) s)
    unfolding decode_one utf8-1 utf8-2 or_else
    two_bytes h q t e = rw (drop-2 (omega arith), lt-leb _ _ far, sym q ∙ t, e)

    module _ {u : Bool} (q : u ≡ is_utf8-2 (get_or s at 0) (get_or s (at + 1) 0)) (f : u ≡ false) where
      pub none-short-2 : 2 ≤ length s - at → length s - at < 3 → decode_one (drop at s) ≡ none
      unfolding decode_one utf8-1 utf8-2 utf8-3 utf8-4 or_else
      none-short-2 h k = rw (drop-2 (omega arith), drop-end (at + 2) (omega arith), lt-leb _ _ far, sym q ∙ f)

      pub three-bytes
          : {w : ℕ} {v : Bool}
          → 3 ≤ length s - at
          → v ≡ is_utf8-3 (get_or s at 0) (get_or s (at + 1) 0) (get_or s (at + 2) 0)
          → v ≡ true
          → w ≡ code_of3 (get_or s at 0) (get_or s (at + 1) 0) (get_or s (at + 2) 0)
          → decode_one (drop at s) ≡ some (w, drop (at + 3) s)
      unfolding decode_one utf8-1 utf8-2 utf8-3 or_else
      three-bytes h p t e = rw (drop-3 (omega arith), lt-leb _ _ far, sym q ∙ f, sym p ∙ t, e)

      module _ {v : Bool} (p : v ≡ is_utf8-3 (get_or s at 0) (get_or s (at + 1) 0) (get_or s (at + 2) 0)) (g : v ≡ false) where
        pub none-short-3 : 3 ≤ length s - at → length s - at < 4 → decode_one (drop at s) ≡ none
        unfolding decode_one utf8-1 utf8-2 utf8-3 utf8-4 or_else
        none-short-3 h k =
            rw (drop-3 (omega arith), drop-end (at + 3) (omega arith), lt-leb _ _ far, sym q ∙ f, sym p ∙ g)

        pub four_bytes
            : {w : ℕ} {x : Bool}
            → 4 ≤ length s - at
            → x ≡ is_utf8-4 (get_or s at 0) (get_or s (at + 1) 0) (get_or s (at + 2) 0) (get_or s (at + 3) 0)
            → x ≡ true
            → w ≡ code_of4 (get_or s at 0) (get_or s (at + 1) 0) (get_or s (at + 2) 0) (get_or s (at + 3) 0)
            → decode_one (drop at s) ≡ some (w, drop (at + 4) s)
        unfolding decode_one utf8-1 utf8-2 utf8-3 utf8-4 or_else
        four_bytes h r t e = rw (drop-4 (omega arith), lt-leb _ _ far, sym q ∙ f, sym p ∙ g, sym r ∙ t, e)

        pub none_at_all
            : {x : Bool}
            → 4 ≤ length s - at
            → x ≡ is_utf8-4 (get_or s at 0) (get_or s (at + 1) 0) (get_or s (at + 2) 0) (get_or s (at + 3) 0)
            → x ≡ false
            → decode_one (drop at s) ≡ none
        unfolding decode_one utf8-1 utf8-2 utf8-3 utf8-4 or_else
        none_at_all h r t = rw (drop-4 (omega arith), lt-leb _ _ far, sym q ∙ f, sym p ∙ g, sym r ∙ t)
