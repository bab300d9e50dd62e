-- What the code answers about a walk, beside what the walk on trees reaches.
use Rattle.std.specs.Prelude.{ℕ, ◌≤◌, List, ◌≡◌, Option, Some, None, Result, Ok, Err}
use Rattle.definition.specs.Tree.{Text, Field}
use Rattle.reference.specs.Setting as Setting
use Rattle.reference.specs.Walk.{Step, refuse, leaf, free, into, Reached, refused, unknown, known}
use Rattle.schema.specs.Slot.{SlotHolds}
use Rattle.walk.specs.declared.answer.Reader.{Reader}
use Rattle.walk.specs.declared.answer.Reader.TheVariants.{Kernel, Projection}
use Rattle.walk.specs.declared.answer.ReferenceFault.{ReferenceFault}
use Rattle.walk.specs.declared.answer.ReferenceFault.TheVariants.{EmptyPath, UnknownRoot, UnknownProperty, ArrayMember, MapMember, AfterCount, AfterTag, UnionMember, NoCount, NoMember, RootNotAvailable, NoSuchReference, TextCount}
use Rattle.walk.specs.declared.answer.CollectionFault.{CollectionFault}
use Rattle.walk.specs.declared.answer.CollectionFault.TheVariants as Collection
use Rattle.walk.specs.declared.answer.WalkStep.{WalkStep}
use Rattle.walk.specs.declared.answer.WalkStep.TheVariants as WalkStep

abbrev pub reader_is : Reader → Setting.Reader
reader_is Kernel = Setting.kernel
reader_is Projection = Setting.projection

-- the details of number 18
unfoldable pub reference_detail : ReferenceFault → ℕ
reference_detail EmptyPath = 1
reference_detail UnknownRoot = 2
reference_detail UnknownProperty = 3
reference_detail ArrayMember = 4
reference_detail MapMember = 5
reference_detail AfterCount = 6
reference_detail AfterTag = 7
reference_detail UnionMember = 8
reference_detail NoCount = 9
reference_detail NoMember = 10
reference_detail RootNotAvailable = 11
reference_detail NoSuchReference = 12
reference_detail TextCount = 13

-- the details of number 22
unfoldable pub collection_detail : CollectionFault → ℕ
collection_detail Collection.NotAString = 1
collection_detail Collection.UnknownProperty = 2
collection_detail Collection.NoMember = 3
collection_detail Collection.NotACollection = 4
collection_detail Collection.NoName = 5

abbrev pub StepIs : (sheet words : List ℕ) → WalkStep → Step → Type 0
StepIs sheet words (WalkStep.Refuse fault) s = s ≡ refuse (reference_detail fault)
StepIs sheet words (WalkStep.Leaf fault) s = s ≡ leaf (reference_detail fault)
StepIs sheet words WalkStep.Free s = s ≡ free
StepIs sheet words (WalkStep.Into k) s = (f : Field) × (s ≡ into f) × SlotHolds sheet words k f

abbrev pub FieldStepIs : (sheet words : List ℕ) → Result (Option ℕ) CollectionFault → Step → Type 0
FieldStepIs sheet words (Err fault) s = s ≡ refuse (collection_detail fault)
FieldStepIs sheet words (Ok None) s = s ≡ free
FieldStepIs sheet words (Ok (Some k)) s = (f : Field) × (s ≡ into f) × SlotHolds sheet words k f

abbrev pub IsReached : Reached → Type 0
IsReached (refused d at left) = ⊥
IsReached unknown = Unit {0}
IsReached (known f) = Unit {0}

-- whether a reference can be read, which leads to `x`
abbrev pub ReadableIs : Result Unit (ReferenceFault × ℕ) → Reached → Type 0
ReadableIs (Ok tt) x = IsReached x
ReadableIs (Err (fault, at)) x = (left : List Text) × (x ≡ refused (reference_detail fault) at left)

-- what a path of `in` leads to. Details 6 and 7 of `collection` never occur in a result, so nothing is said of their fault.
abbrev pub CollectedIs : (sheet words : List ℕ) → Result (Option ℕ) (CollectionFault × ℕ) → Reached → Type 0
CollectedIs sheet words (Ok (Some k)) x = (f : Field) × (x ≡ known f) × SlotHolds sheet words k f
CollectedIs sheet words (Ok None) x = x ≡ unknown
CollectedIs sheet words (Err (fault, at)) x =
    (d : ℕ) × (left : List Text) × (x ≡ refused d at left) × (d ≤ 5 → d ≡ collection_detail fault)
