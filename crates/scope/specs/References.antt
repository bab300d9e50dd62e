-- What the code answers about a reference, for every schema and all binders that the scope stands for.
use Rattle.std.specs.Prelude.{ℕ, Bool, List, Result}
use Rattle.definition.specs.Tree as Tree
use Rattle.definition.specs.Tree.{Text}
use Rattle.reference.specs.Path.{split}
use Rattle.reference.specs.Setting.{Reader, Setting, name_of}
use Rattle.reference.specs.Reference.{Environment, root_of, root_walk, from_root, from_name, reference}
use Rattle.schema.specs.Slot.{HolderAt}
use Rattle.schema.specs.Read.{SchemaAt}
use Rattle.schema.specs.declared.index.Holder.{Holder}
use Rattle.walk.specs.Dots.{Ends}
use Rattle.walk.specs.Answers.{ReadableIs}
use Rattle.scope.specs.Names.{name_is}
use Rattle.scope.specs.Scopes.{SettingAt, ScopeAt}
use Rattle.scope.specs.declared.name.Name.{Name}
use Rattle.scope.specs.declared.binder.Scope.{Scope}
use Rattle.walk.specs.declared.answer.ReferenceFault.{ReferenceFault}

-- a path after the record or the arguments
pub record RootWalks (sheet words : List ℕ) (at : ℕ) (h : Holder) (path : Text) (reader : Reader) (service : Bool) (r : Result Unit (ReferenceFault × ℕ)) : Type 0 where
  pub leads : (t : Tree.Holder) → HolderAt sheet words h t → ReadableIs r (root_walk reader service at t (split path).first (split path).others)

-- a name with a path
pub record RootReads (sheet words : List ℕ) (scope : Scope) (name : Name) (path : Text) (r : Result Unit (ReferenceFault × ℕ)) : Type 0 where
  pub leads : (setting : Setting) (t : Tree.Schema) → SettingAt scope setting → SchemaAt sheet words scope.schema t
      → ReadableIs r (from_root setting (name_is name) (root_of t (name_is name)) (split path).first (split path).others)

-- a reference whose name, of `end` bytes, is not a binder's
pub record NameReads (sheet words : List ℕ) (scope : Scope) (text : Text) (end : ℕ) (r : Result Unit (ReferenceFault × ℕ)) : Type 0 where
  pub leads : (setting : Setting) (t : Tree.Schema) → SettingAt scope setting → SchemaAt sheet words scope.schema t → Ends text end
      → ReadableIs r (from_name setting t (name_of (split text).first) (split text).others)

-- a reference, as `validate_reference` reads it
pub record ReferenceReads (sheet rule words : List ℕ) (scope : Scope) (text : Text) (r : Result Unit (ReferenceFault × ℕ)) : Type 0 where
  pub leads : (setting : Setting) (t : Tree.Schema) (env : Environment) → ScopeAt sheet rule words scope setting t env
      → ReadableIs r (reference setting t env text)
