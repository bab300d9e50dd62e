-- Among siblings side by side, the one at which the search by ends stops is the one in which an entry is found.
use Prim.Native.Nat.{ℕ, ◌+◌, ◌≤◌, ◌<◌}
use native.Mathlib.Omega.{arith}
use mathlib.Core.List.{List, [], ◌∷◌, ◌++◌}
use mathlib.Core.Option.{Option, none, some}
use mathlib.Core.Path.{◌≡◌}
use Rattle.text.specs.Reader.{or_else}
use Rattle.definition.specs.Tree.{Text}
use Rattle.rule.specs.Index.{end_of}
use Rattle.validation.specs.Location.{through}
use Rattle.defect_path.specs.Siblings.{Reaches, here, past}
use Rattle.defect_path.proofs.Ranges.{Among, none_found, either-found, through-found}

module _ {A : Type 0} (At : (k i : ℕ) → A → Type 0) (size : A → ℕ) where
  -- one after the other, from the one with index `k` at word `i`
  abbrev pub Standing : (k i : ℕ) → List A → Type 0
  Standing k i [] = Unit {0}
  Standing k i (a ∷ xs) = At k i a × Standing (k + 1) (i + size a) xs

module _ {A : Type 0} (part : ℕ → A → Text) (way : A → Option Text) where
  -- the first that is found
  unfoldable pub first_of : (k : ℕ) → List A → Option Text
  first_of k [] = none
  first_of k (a ∷ xs) = or_else (through (part k a) (way a)) (first_of (k + 1) xs)

module _ {A : Type 0} (At : (k i : ℕ) → A → Type 0) (part : ℕ → A → Text) (way : A → Option Text) where
  -- the one at word `word`, with index `k`
  pub record Found (k word : ℕ) (p : Text) : Type 0 where
    pub item : A
    pub rest : Text
    pub stands : At k word item
    pub found : way item ≡ some rest
    pub path : p ≡ part k item ++ rest

module _ {A : Type 0} (At : (k i : ℕ) → A → Type 0) (size : A → ℕ) (part : ℕ → A → Text) (way : A → Option Text)
    (words : List ℕ) (target : ℕ)
    (ends : (k i : ℕ) (a : A) → At k i a → end_of words i ≡ i + size a)
    (Some-of : (a : A) → 0 < size a)
    (among : (k i : ℕ) (a : A) (p : Text) → At k i a → way a ≡ some p → Among (target + 1) i (size a)) where
  standing-low : (xs : List A) (k i : ℕ) (p : Text) → Standing At size k i xs → first_of part way k xs ≡ some p → i ≤ target
  unfolding first_of
  standing-low [] k i p st h = none_found h
  standing-low (a ∷ xs) k i p st h =
      either-found (through (part k a) (way a)) (first_of part way (k + 1) xs) p
      (through-found (part k a) (way a) p (λ q z _. let r = among k i a q st.0 z in omega arith))
      (λ z. let r = standing-low xs (k + 1) (i + size a) p st.1 z in omega arith)
      h

  pub reached : (xs : List A) (k i : ℕ) (p : Text) (word j : ℕ)
      → Standing At size k i xs
      → first_of part way k xs ≡ some p
      → Reaches words target i k word j
      → Found At part way j word p
  unfolding first_of
  reached [] k i p word j st h r = none_found h
  reached (a ∷ xs) k i p word j st h (here at-word at-index stop) =
      either-found (through (part k a) (way a)) (first_of part way (k + 1) xs) p
      (through-found (part k a) (way a) p
      (λ q z e. rw (at-word, at-index) (record { item = a; rest = q; stands = st.0; found = z; path = e })))
      (λ z.
      let low = standing-low xs (k + 1) (i + size a) p st.1 z in
      let e = ends k i a st.0 in
      let n = Some-of a in
      let less = stop (omega arith) in
      absurd (omega arith))
      h
  reached (a ∷ xs) k i p word j st h (past le more) =
      either-found (through (part k a) (way a)) (first_of part way (k + 1) xs) p
      (through-found (part k a) (way a) p
      (λ q z _. let r = among k i a q st.0 z in let e = ends k i a st.0 in absurd (omega arith)))
      (λ z. reached xs (k + 1) (i + size a) p word j st.1 z (rw (ends k i a st.0) at more))
      h
