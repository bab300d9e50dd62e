-- A call: the refusals that are tried in order, what it tells where none is due, and what it leaves of each lent buffer (docs/FORMAT.md, "Answers").
use Rattle.std.specs.Prelude.{ℕ, Bool, cond, true, false, List, [], ◌∷◌, map, ◌≡◌, length, drop, replicate}
use Rattle.std.proofs.Math.Option.{Option, none, some}
use Rattle.std.proofs.lemmas.List.Edits.{sets}

-- a refusal's number, and whether it is due
pub record Refusal : Type 0 where
  pub number : ℕ
  pub is_due : Bool

unfoldable pub first_refusal : List Refusal → Option ℕ
first_refusal [] = none
first_refusal (r ∷ rs) = cond r.is_due (some r.number) (first_refusal rs)

-- its number, or 0 where none is due
unfoldable pub number_in : Option ℕ → ℕ
number_in none = 0
number_in (some n) = n

-- what a caller hears: a refusal's number, or what was asked for
pub data Reply (A : Type 0) : Type 0 where
  refused_by : (number : ℕ) → Reply A
  told : A → Reply A

unfoldable pub refused_or : {A : Type 0} → Option ℕ → A → Reply A
refused_or none a = told a
refused_or (some n) a = refused_by n

-- the first refusal that is due, or what is told where none is
unfoldable pub heard_by : {A : Type 0} → List Refusal → A → Reply A
heard_by rs a = refused_or (first_refusal rs) a

-- the numbers that a list of refusals tries
unfoldable pub tried : List Refusal → List ℕ
tried rs = map (λ (r : Refusal). r.number) rs

-- each of these numbers is the first that is due in some call
pub data EachDue {C : Type 0} (refusals : C → List Refusal) : List ℕ → Type 0 where
  all_shown : EachDue refusals []
  by : {n : ℕ} {ns : List ℕ} (c : C) → first_refusal (refusals c) ≡ some n → EachDue refusals ns → EachDue refusals (n ∷ ns)

-- the number of a reply: 0 where something is told
unfoldable pub number_of : {A : Type 0} → Reply A → ℕ
number_of (refused_by n) = n
number_of (told a) = 0

-- only the first `free` elements may differ
pub record KeptFrom (free : ℕ) (before after : List ℕ) : Type 0 where
  pub size : length after ≡ length before
  pub kept : drop free after ≡ drop free before

-- a lent buffer, before and after a call
pub record Buffer : Type 0 where
  pub before : List ℕ
  pub after : List ℕ

-- what a call leaves of it: its first elements may hold anything, or these are at its start; all other elements keep their values
pub data Left : Type 0 where
  free : (count : ℕ) → Left
  holding : List ℕ → Left

abbrev pub unchanged : Left
unchanged = holding []

abbrev pub Leaves : Left → (before after : List ℕ) → Type 0
Leaves (free count) before after = KeptFrom count before after
Leaves (holding elements) before after = after ≡ sets before 0 elements

-- of each buffer in turn
abbrev pub AllLeft : List Left → List Buffer → Type 0
AllLeft [] [] = Unit {0}
AllLeft [] (b ∷ bs) = ⊥
AllLeft (l ∷ ls) [] = ⊥
AllLeft (l ∷ ls) (b ∷ bs) = Leaves l b.before b.after × AllLeft ls bs

-- a refusal leaves a buffer unchanged
unfoldable pub if_told : {A : Type 0} → (A → Left) → Reply A → Left
if_told left (refused_by n) = unchanged
if_told left (told a) = left a

-- the first elements are free, but not under a refusal
abbrev pub free_if_told : {A : Type 0} → (count : ℕ) → Reply A → Left
free_if_told count = if_told (λ a. free count)

-- one kind of call: C is what is handed over, A what is told
pub record Shape (C A : Type 0) : Type 0 where
  -- in the order in which they are tried
  pub refusals : C → List Refusal
  pub tells : C → A
  -- the numbers of a result behind the first, and how many they are
  pub size : ℕ
  pub figures : A → List ℕ
  -- of each lent buffer
  pub leaves : Reply A → List Left

abbrev pub reply_to : {C A : Type 0} → Shape C A → C → Reply A
reply_to s c = heard_by (s.refusals c) (s.tells c)

-- the numbers of a result: the refusal's, and zeros; or 0, and those of the answer
unfoldable pub numbers_with : {A : Type 0} → (size : ℕ) → (A → List ℕ) → Reply A → List ℕ
numbers_with size figures (refused_by n) = n ∷ replicate size 0
numbers_with size figures (told a) = 0 ∷ figures a

abbrev pub result_numbers : {C A : Type 0} → Shape C A → Reply A → List ℕ
result_numbers s = numbers_with s.size s.figures

-- what a caller hands over, and what it has after the call
pub record Run (C : Type 0) : Type 0 where
  pub call : C
  pub result : List ℕ
  pub buffers : List Buffer

-- what a whole call promises of its run
pub record Meets {C A : Type 0} (s : Shape C A) (r : Run C) : Type 0 where
  pub result : r.result ≡ result_numbers s (reply_to s r.call)
  pub buffers : AllLeft (s.leaves (reply_to s r.call)) r.buffers

abbrev pub AllKept : List Left → Type 0
AllKept [] = Unit {0}
AllKept (l ∷ ls) = (l ≡ unchanged) × AllKept ls

abbrev pub Untouched : List Buffer → Type 0
Untouched [] = Unit {0}
Untouched (b ∷ bs) = (b.after ≡ b.before) × Untouched bs

unfoldable pub is_written : Left → Bool
is_written (free count) = false
is_written (holding elements) = true

-- two buffers that were alike before are alike afterwards, if the call wrote to them
abbrev pub AllAlike : List Left → List Buffer → List Buffer → Type 0
AllAlike [] bs bs' = Unit {0}
AllAlike (l ∷ ls) [] bs' = Unit {0}
AllAlike (l ∷ ls) (b ∷ bs) [] = Unit {0}
AllAlike (l ∷ ls) (b ∷ bs) (b' ∷ bs') = (is_written l ≡ true → b.before ≡ b'.before → b.after ≡ b'.after) × AllAlike ls bs bs'

pub record SameAnswer {C A : Type 0} (s : Shape C A) (r r' : Run C) : Type 0 where
  pub result : r.result ≡ r'.result
  pub buffers : AllAlike (s.leaves (reply_to s r.call)) r.buffers r'.buffers
