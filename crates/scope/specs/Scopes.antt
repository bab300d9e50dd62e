-- The code's scope beside the binders of the definitions.
use Rattle.std.specs.Prelude.{ℕ, zero, suc, ◌≤◌, ◌<◌, Bool, List, [], ◌∷◌, ◌≡◌, length, get_or, Option as Optional, Some, None}
use Rattle.std.proofs.Math.Option.{Option, none, some}
use Rattle.text.specs.Parts.{part_of}
use Rattle.text.specs.declared.part.Part.{Part}
use Rattle.definition.specs.Limits.{max_sheet_bytes}
use Rattle.definition.specs.Tree as Tree
use Rattle.definition.specs.Tree.{Text, Field}
use Rattle.reference.specs.Setting.{Setting}
use Rattle.reference.specs.Reference as Reference
use Rattle.reference.specs.Reference.{Environment, bound}
use Rattle.schema.specs.Slot.{SlotHolds}
use Rattle.schema.specs.Read.{SchemaAt}
use Rattle.schema.specs.declared.read.Schema.{Schema}
use Rattle.walk.specs.Answers.{reader_is}
use Rattle.walk.specs.declared.answer.Reader.{Reader}
use Rattle.scope.specs.Names.{may_read_by}
use Rattle.scope.specs.Binders.{binder_name, binder_element}
use Rattle.scope.specs.declared.name.Row.{Row}
use Rattle.scope.specs.declared.binder.Scope.{Scope}

-- the first `n` binders, innermost first
unfoldable pub chain_of : ℕ → List ℕ → List ℕ
chain_of zero bs = []
chain_of (suc n) bs = get_or bs n 0 ∷ chain_of n bs

abbrev pub BoundElement : (sheet words : List ℕ) → Optional ℕ → Option Field → Type 0
BoundElement sheet words (Some k) (some f) = SlotHolds sheet words k f
BoundElement sheet words (Some k) none = ⊥
BoundElement sheet words None (some f) = ⊥
BoundElement sheet words None none = Unit {0}

pub record BinderAt (sheet rule words : List ℕ) (x : ℕ) (b : Reference.Bound) : Type 0 where
  pub name : part_of rule (binder_name x) ≡ b.name
  pub element : BoundElement sheet words (binder_element x) b.element

abbrev pub ChainAt : (sheet rule words : List ℕ) → List ℕ → Environment → Type 0
ChainAt sheet rule words [] [] = Unit {0}
ChainAt sheet rule words [] (b ∷ env) = ⊥
ChainAt sheet rule words (x ∷ xs) [] = ⊥
ChainAt sheet rule words (x ∷ xs) (b ∷ env) = BinderAt sheet rule words x b × ChainAt sheet rule words xs env

-- the binders of a scope: their names are parts of the rule sheet, their elements slots of the schema's index
pub record EnvironmentAt (sheet rule words : List ℕ) (scope : Scope) (env : Environment) : Type 0 where
  pub few : scope.count ≤ 31
  pub chain : ChainAt sheet rule words (chain_of scope.count scope.binders) env

-- what a call is set to, as the code has it
pub record SettingAt (scope : Scope) (setting : Setting) : Type 0 where
  pub service : scope.service ≡ setting.is_service
  pub names : may_read_by scope.row ≡ setting.may_read
  pub reader : reader_is scope.reader ≡ setting.reader

-- a scope of the code, beside the setting, the schema and the binders that it stands for
pub record ScopeAt (sheet rule words : List ℕ) (scope : Scope) (setting : Setting) (t : Tree.Schema) (env : Environment) : Type 0 where
  pub small : length rule ≤ max_sheet_bytes
  pub set : SettingAt scope setting
  pub schema : SchemaAt sheet words scope.schema t
  pub binders : EnvironmentAt sheet rule words scope env

pub record Unbound (x : Row) (is_service : Bool) (y : Reader) (s : Schema) (r : Scope) : Type 0 where
  pub row : r.row ≡ x
  pub service : r.service ≡ is_service
  pub reader : r.reader ≡ y
  pub schema : r.schema ≡ s
  pub binders : (sheet rule words : List ℕ) → EnvironmentAt sheet rule words r []

-- one more binder, while there is room; its name is a part of a rule sheet
pub record Binds (scope : Scope) (name : Part) (element : Optional ℕ) (r : Scope) : Type 0 where
  pub row : r.row ≡ scope.row
  pub service : r.service ≡ scope.service
  pub reader : r.reader ≡ scope.reader
  pub schema : r.schema ≡ scope.schema
  pub counted : scope.count < 31 → r.count ≡ suc scope.count
  pub binders : scope.count < 31 → (sheet rule words : List ℕ) (env : Environment) (f : Option Field) → length rule ≤ max_sheet_bytes → EnvironmentAt sheet rule words scope env
      → BoundElement sheet words element f → EnvironmentAt sheet rule words r (record { name = part_of rule name; element = f } ∷ env)

abbrev pub BoundTo : (sheet words : List ℕ) → Optional (Optional ℕ) → Option (Option Field) → Type 0
BoundTo sheet words (Some x) b = (f : Option Field) × (b ≡ some f) × BoundElement sheet words x f
BoundTo sheet words None b = b ≡ none

pub record BoundIs (rule : List ℕ) (scope : Scope) (name : Text) (r : Optional (Optional ℕ)) : Type 0 where
  pub leads : (sheet words : List ℕ) (env : Environment) → EnvironmentAt sheet rule words scope env → BoundTo sheet words r (bound name env)
