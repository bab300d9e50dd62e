-- A reader passes an entry: what it reads where it is, and where it is then. The sheet is the same one.
use Rattle.std.specs.Prelude.{ℕ, List, ◌≡◌}
use Rattle.lines.specs.declared.Lines.{Lines}

-- `Reads` is what reading from a place on answers, and `end` where the next entry starts
abbrev pub Passed : {A : Type 0} → (List ℕ → ℕ → A → Type 0) → (A → ℕ → ℕ) → Lines → Lines → A → Type 0
Passed Reads end before after r = Reads before.sheet.now before.at r × (after.sheet ≡ before.sheet) × (after.at ≡ end r before.at)

-- two entries in a row: the second is read where the first ends
abbrev pub BothRead : {A B : Type 0} → (List ℕ → ℕ → A → Type 0) → (A → ℕ → ℕ) → (List ℕ → ℕ → B → Type 0) → List ℕ → ℕ → A → B → Type 0
BothRead First end Second s at a b = First s at a × Second s (end a at) b
