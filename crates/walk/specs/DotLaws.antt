-- Parts of a path: the first segment, and what is left after its dot.
use Rattle.std.specs.Prelude.{ℕ, ◌+◌, ◌-◌, ◌≤◌, true, false, List, [], ◌∷◌, ◌≡◌, refl, length, take, drop}
use Rattle.std.proofs.Common.{arith, length-take, length-drop, take_all}
use Rattle.reference.specs.Walk.{is_empty}
use Rattle.walk.specs.Dots.{Ends}

pub part_length : (text : List ℕ) (n : ℕ) → n ≤ length text → n ≡ length (take n text)
part_length text n within = simp length-take (omega arith)

pub ends-length : {path : List ℕ} {n : ℕ} → Ends path n → n ≡ length (take n path)
ends-length {path} {n} ends = part_length path n ends.within

pub rest-whole : (path : List ℕ) (n : ℕ) → take (length path - (n + 1)) (drop (n + 1) path) ≡ drop (n + 1) path
rest-whole path n = take_all (length path - (n + 1)) (drop (n + 1) path) (omega (arith, length-drop (n + 1) path))

pub segment-empty : (s : List ℕ) → length s ≡ 0 → is_empty s ≡ true
unfolding is_empty
segment-empty [] h = refl
segment-empty (b ∷ s) h = absurd (omega arith)

pub segment-full : (s : List ℕ) → (length s ≡ 0 → ⊥) → is_empty s ≡ false
unfolding is_empty
segment-full [] h = absurd (h refl)
segment-full (b ∷ s) h = refl
