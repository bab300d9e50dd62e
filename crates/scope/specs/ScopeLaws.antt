-- A scope as it starts, and with one binder more.
use Rattle.std.specs.Prelude.{ℕ, ◌<◌, ◌≤◌, Bool, List, [], ◌∷◌, ◌≡◌, length, Option as Optional}
use Rattle.std.proofs.Math.Option.{Option}
use Rattle.std.proofs.Common.{◌∙◌}
use Rattle.text.specs.Parts.{part_of}
use Rattle.text.specs.declared.part.Part.{Part}
use Rattle.definition.specs.Limits.{max_sheet_bytes}
use Rattle.definition.specs.Tree as Tree
use Rattle.definition.specs.Tree.{Field}
use Rattle.reference.specs.Setting.{Setting}
use Rattle.reference.specs.Reference.{Environment}
use Rattle.schema.specs.Read.{SchemaAt}
use Rattle.schema.specs.declared.read.Schema.{Schema}
use Rattle.walk.specs.Answers.{reader_is}
use Rattle.walk.specs.declared.answer.Reader.{Reader}
use Rattle.scope.specs.Names.{may_read_by}
use Rattle.scope.specs.Scopes.{BoundElement, ScopeAt, Unbound, Binds}
use Rattle.scope.specs.declared.name.Row.{Row}
use Rattle.scope.specs.declared.binder.Scope.{Scope}

pub scope-unbound : (sheet rule words : List ℕ) (x : Row) (service : Bool) (y : Reader) (s : Schema) (r : Scope) (setting : Setting) (t : Tree.Schema) → length rule ≤ max_sheet_bytes → Unbound x service y s r
    → service ≡ setting.is_service → may_read_by x ≡ setting.may_read → reader_is y ≡ setting.reader → SchemaAt sheet words s t → ScopeAt sheet rule words r setting t []
scope-unbound sheet rule words x service y s r setting t small u v names reader at = record {
  small = small;
  set = record { service = u.service ∙ v; names = rw u.row names; reader = rw u.reader reader };
  schema = rw u.schema at;
  binders = u.binders sheet rule words;
}

pub scope-bound : (sheet rule words : List ℕ) (scope : Scope) (name : Part) (element : Optional ℕ) (r : Scope) (f : Option Field) (setting : Setting) (t : Tree.Schema)
    (env : Environment) → Binds scope name element r → scope.count < 31 → BoundElement sheet words element f → ScopeAt sheet rule words scope setting t env
    → ScopeAt sheet rule words r setting t (record { name = part_of rule name; element = f } ∷ env)
scope-bound sheet rule words scope name element r f setting t env b room e at = record {
  small = at.small;
  set = record { service = b.service ∙ at.set.service; names = rw b.row at.set.names; reader = rw b.reader at.set.reader };
  schema = rw b.schema at.schema;
  binders = b.binders room sheet rule words env f at.small at.binders e;
}
