-- Where a case lies in the bytes that were read, and whether it agrees.
use Rattle.std.specs.Prelude.{ℕ, ◌+◌, ◌-◌, ◌≤◌, Bool, true, List, ◌≡◌, length, take, drop, Option, Some, None}
use Rattle.text.specs.declared.part.Part.{Part}
use Rattle.check_file.specs.Output.{output_of}
use Rattle.vectors.specs.declared.Case.{Case}
use Rattle.vectors.specs.declared.Step.{Step}
use Rattle.vectors.specs.declared.Step.TheVariants as step

pub record Within (s : List ℕ) (w : Part) : Type 0 where
  pub within : w.start + w.len ≤ length s

pub record Lies (s : List ℕ) (c : Case) : Type 0 where
  pub file : c.file ≤ c.expected
  pub expected : c.expected ≤ c.end
  pub within : c.end ≤ length s

abbrev pub FoundIn : List ℕ → Option Case → Type 0
FoundIn s (Some c) = Lies s c
FoundIn s None = Unit {0}

-- the bytes from `start` up to `end`
abbrev pub between : (start end : ℕ) → List ℕ → List ℕ
between start end s = take (end - start) (drop start s)

-- a case agrees exactly if what is printed for its file is the line that was expected
abbrev pub Tells : (agrees : Bool) (file expected : List ℕ) → Type 0
Tells agrees file expected = (agrees ≡ true → output_of file ≡ expected) × (output_of file ≡ expected → agrees ≡ true)

-- whether a case that lies in `s` agrees, and the place after it
pub record Replays (s : List ℕ) (agrees : Bool) (next : ℕ) : Type 0 where
  pub found : Case
  pub lies : Lies s found
  pub tells : Tells agrees (between (found).file (found).expected s) (between (found).expected (found).end s)
  pub ends : next ≡ (found).end

abbrev pub ReplayedIn : List ℕ → Option (Bool × ℕ) → Type 0
ReplayedIn s (Some (agrees, next)) = Replays s agrees next
ReplayedIn s None = Unit {0}

-- whether a case that lies in the buffer `s` agrees, and what is left after it
pub record Steps (s : List ℕ) (agrees : Bool) (w : Part) : Type 0 where
  pub start : ℕ
  pub end : ℕ
  pub size : ℕ
  pub replays : Replays (between start end s) agrees size
  pub left : w.start ≡ start + size
  pub ends : w.start + w.len ≡ end
  pub within : Within s w

abbrev pub StepIn : List ℕ → Step → Type 0
StepIn s (step.Replayed agrees w) = Steps s agrees w
StepIn s (step.Last ended) = Unit {0}
