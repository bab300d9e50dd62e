-- What a lookup finds, whichever holder it looks in.
use Rattle.std.specs.Prelude.{ℕ, List, ◌≡◌, Option, Some, None}
use Rattle.std.proofs.Math.Option.{none, some}
use Rattle.definition.specs.Tree as Tree
use Rattle.definition.specs.Tree.{Text, Field, Members}
use Rattle.reference.specs.Walk.{lookup}
use Rattle.schema.specs.Slot.{SlotHolds, HolderAt}
use Rattle.schema.specs.declared.index.Holder.{Holder}

-- slot `k` holds the member of that name
pub record FoundAt (sheet words : List ℕ) (name : Text) (members : Members) (k : ℕ) : Type 0 where
  pub f : Field
  pub found : lookup name members ≡ some f
  pub holds : SlotHolds sheet words k f

abbrev pub FoundIs : (sheet words : List ℕ) (name : Text) (members : Members) → Option ℕ → Type 0
FoundIs sheet words name ms (Some k) = FoundAt sheet words name ms k
FoundIs sheet words name ms None = lookup name ms ≡ none

abbrev pub LookedUp : (sheet words : List ℕ) → Holder → Text → Option ℕ → Type 0
LookedUp sheet words h name r = (t : Tree.Holder) → HolderAt sheet words h t → FoundIs sheet words name t.members r
