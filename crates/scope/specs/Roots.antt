-- What a name with a path leads into.
use Rattle.std.specs.Prelude.{ℕ, List, ◌≡◌}
use Rattle.definition.specs.Tree as Tree
use Rattle.reference.specs.Reference as Reference
use Rattle.reference.specs.Reference.{root_of}
use Rattle.schema.specs.Slot.{HolderAt}
use Rattle.schema.specs.Read.{SchemaAt}
use Rattle.schema.specs.declared.read.Schema.{Schema}
use Rattle.scope.specs.Names.{name_is}
use Rattle.scope.specs.declared.name.Name.{Name}
use Rattle.scope.specs.declared.root.Root.{Root}
use Rattle.scope.specs.declared.root.Root.TheVariants.{Nothing, Missing, At}

abbrev pub RootAt : (sheet words : List ℕ) → Root → Reference.Root → Type 0
RootAt sheet words Nothing x = x ≡ Reference.no_root
RootAt sheet words Missing x = x ≡ Reference.missing
RootAt sheet words (At at h) x = (t : Tree.Holder) × (x ≡ Reference.root at t) × HolderAt sheet words h t

pub record RootIs (s : Schema) (name : Name) (r : Root) : Type 0 where
  pub leads : (sheet words : List ℕ) (t : Tree.Schema) → SchemaAt sheet words s t → RootAt sheet words r (root_of t (name_is name))
