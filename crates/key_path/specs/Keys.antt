-- A call of the code as a run of the definitions, and what it answers where the schema is well formed.
use Rattle.std.specs.Prelude.{ℕ, List, ◌≡◌, Result}
use Rattle.definition.specs.Tree as Tree
use Rattle.reference.specs.Setting.{Setting}
use Rattle.reference.specs.Reference.{key_walk}
use Rattle.schema.specs.Read.{SchemaAt}
use Rattle.schema.specs.declared.read.Schema.{Schema}
use Rattle.walk.specs.Answers.{ReadableIs}
use Rattle.scope.specs.Scopes.{SettingAt}
use Rattle.scope.specs.declared.binder.Scope.{Scope}
use Rattle.validation.specs.Result.{numbers_of}
use Rattle.validation.specs.KeyPath.{key_checked, KeyRun}
use Rattle.single_check.specs.Outcomes.{numbers_by}
use Rattle.single_check.specs.declared.outcome.Outcome.{Outcome}
use Rattle.walk.specs.declared.answer.ReferenceFault.{ReferenceFault}

-- a path of `$fields`, for every setting and schema that the scope stands for
pub record FieldsRead (sheet words : List ℕ) (scope : Scope) (path : List ℕ) (r : Result Unit (ReferenceFault × ℕ)) : Type 0 where
  pub leads : (setting : Setting) (t : Tree.Schema) → SettingAt scope setting → SchemaAt sheet words scope.schema t
      → ReadableIs r (key_walk setting.reader setting.is_service t path)

-- for every schema that the index stands for
pub record KeyTold (semantics reader : ℕ) (path schema : List ℕ) (s : Schema) (words : List ℕ) (r : Outcome) : Type 0 where
  pub tells : (t : Tree.Schema) → SchemaAt schema words s t → numbers_by r ≡ numbers_of (key_checked semantics reader path t)

abbrev pub key_run_of : (semantics reader : ℕ) (path schema scratch_before : List ℕ) (r : Outcome) (scratch : List ℕ) → KeyRun
key_run_of semantics reader path schema scratch_before r scratch =
    record {
      semantics = semantics;
      reader = reader;
      path = path;
      schema = schema;
      scratch_before = scratch_before;
      result = numbers_by r;
      scratch = scratch;
    }
