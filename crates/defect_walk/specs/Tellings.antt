-- What the code finds of a reference that is refused, beside what is said of it.
use Rattle.std.specs.Prelude.{ℕ, ◌+◌, ◌≤◌, Bool, List, ◌∷◌, ◌++◌, ◌≡◌, length, drop}
use Rattle.std.proofs.Math.Option.{Option, none, some, map}
use Rattle.text.specs.Ascii.{ascii}
use Rattle.definition.specs.Tree as Tree
use Rattle.definition.specs.Tree.{Text, Field}
use Rattle.reference.specs.Path.{split}
use Rattle.reference.specs.Setting.{Setting, name_of}
use Rattle.reference.specs.Reference.{Environment, root_of}
use Rattle.schema.specs.Slot.{SlotHolds, HolderAt}
use Rattle.schema.specs.Read.{SchemaAt}
use Rattle.schema.specs.declared.index.Holder.{Holder}
use Rattle.walk.specs.Dots.{Ends}
use Rattle.walk.specs.Answers.{reference_detail}
use Rattle.scope.specs.Names.{name_is}
use Rattle.scope.specs.Scopes.{SettingAt, ScopeAt}
use Rattle.scope.specs.declared.name.Name.{Name}
use Rattle.scope.specs.declared.binder.Scope.{Scope}
use Rattle.message.specs.Words.{noun_of}
use Rattle.message.specs.Tell.{step_sentence, tell_walk, unknown_root, tell_path, unresolved, not_available, no_reference, tell_root, tell_name, tell_reference}
use Rattle.defect_walk.specs.declared.telling.Telling.{Telling}
use Rattle.defect_walk.specs.declared.telling.Telling.TheVariants.{Nothing, NotAvailable, NoReference, EmptyPath, UnknownRoot, Refused}

-- what was walked from the place `from` on, with the dot before the place `at`
pub record Walked (text : Text) (from at : ℕ) (walked : Text) : Type 0 where
  pub within : at ≤ length text
  pub size : from + length walked + 1 ≡ at
  pub parts : drop from text ≡ walked ++ (ascii "." ++ drop at text)

-- what is said, of the whole text with its `$`
abbrev pub TellIs : (sheet words : List ℕ) (kind : ℕ) (text : Text) → Telling → Option Text → Type 0
TellIs sheet words kind text Nothing x = x ≡ none
TellIs sheet words kind text NotAvailable x = x ≡ some (not_available kind text)
TellIs sheet words kind text NoReference x = x ≡ some (no_reference kind text)
TellIs sheet words kind text EmptyPath x = x ≡ some (unresolved kind text (ascii "the path is empty"))
TellIs sheet words kind text (UnknownRoot name at) x =
    (at ≤ length text) × (x ≡ some (unresolved kind text (unknown_root (noun_of (name_is name)) (split (drop at text)).first)))
TellIs sheet words kind text (Refused fault from at k) x =
    (walked : Text)
    × (f : Field)
    × Walked text from at walked
    × SlotHolds sheet words k f
    × (x ≡ some (unresolved kind text (step_sentence (reference_detail fault) walked (split (drop at text)).first (split (drop at text)).others f)))

-- a path from the field of slot `k` on
pub record WalkTells (sheet words : List ℕ) (k : ℕ) (path : Text) (from at : ℕ) (service : Bool) (r : Telling) : Type 0 where
  pub leads : (kind : ℕ) (text walked : Text) (f : Field) → Walked text from at walked → path ≡ drop at text → SlotHolds sheet words k f
      → TellIs sheet words kind text r (map (unresolved kind text) (tell_walk service walked ((split path).first ∷ (split path).others) f))

-- a path after the record or the arguments
pub record RootTells (sheet words : List ℕ) (name : Name) (h : Holder) (path : Text) (at : ℕ) (service : Bool) (r : Telling) : Type 0 where
  pub leads : (kind : ℕ) (text : Text) (t : Tree.Holder) → at ≤ length text → path ≡ drop at text → HolderAt sheet words h t
      → TellIs sheet words kind text r (map (unresolved kind text) (tell_path service (noun_of (name_is name)) t (split path).first (split path).others))

-- a name with a path
pub record NamedTells (sheet words : List ℕ) (scope : Scope) (name : Name) (path : Text) (at : ℕ) (r : Telling) : Type 0 where
  pub leads : (kind : ℕ) (text : Text) (setting : Setting) (t : Tree.Schema) → at ≤ length text → path ≡ drop at text → SettingAt scope setting → SchemaAt sheet words scope.schema t
      → TellIs sheet words kind text r (tell_root kind text setting (name_is name) (root_of t (name_is name)) (split path).first (split path).others)

-- a reference whose name, of `end` bytes, is not a binder's
pub record NameTells (sheet words : List ℕ) (scope : Scope) (text : Text) (end : ℕ) (r : Telling) : Type 0 where
  pub leads : (kind : ℕ) (setting : Setting) (t : Tree.Schema) → SettingAt scope setting → SchemaAt sheet words scope.schema t → Ends text end
      → TellIs sheet words kind (ascii "$" ++ text) r (tell_name kind (ascii "$" ++ text) setting t (name_of (split text).first) (split text).others)

-- a reference, by its text after the `$`
pub record ReferenceTells (sheet rule words : List ℕ) (scope : Scope) (text : Text) (r : Telling) : Type 0 where
  pub leads : (kind : ℕ) (setting : Setting) (t : Tree.Schema) (env : Environment) → ScopeAt sheet rule words scope setting t env
      → TellIs sheet words kind (ascii "$" ++ text) r (tell_reference kind setting t env text)
