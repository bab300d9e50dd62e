-- A part of the bytes: past the end, up to the end, and before it.
use Prim.Native.Nat.{ℕ, ◌+◌, ◌-◌, ◌≤◌}
use mathlib.Core.List.{List}
use mathlib.Core.Path.{◌≡◌, sym, ◌∙◌}
use native.Mathlib.Omega.{arith}
use lib.ListN.{length, take, drop, length-drop, drop_of_length-le}
use lib.Seq.{drop-length, take-nil, take_all}

module _ (s : List ℕ) (start len : ℕ) where
  pub part_out : length s ≤ start → take (length s - length s) (drop (length s) s) ≡ take len (drop start s)
  part_out h = rw (drop_of_length-le s h, drop-length s, take-nil (length s - length s), take-nil len)

  pub part-rest : length s - start ≤ len → take (length s - start) (drop start s) ≡ take len (drop start s)
  part-rest h =
      take_all (length s - start) (drop start s) (omega (arith, length-drop start s))
      ∙ sym (take_all len (drop start s) (omega (arith, length-drop start s)))

  pub part-whole : take (start + len - start) (drop start s) ≡ take len (drop start s)
  part-whole =
      let n : start + len - start ≡ len = omega arith in
      rw n
