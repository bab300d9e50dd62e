-- The same call under kernel/1 and under a service semantics, and the numbers that the literal pass then meets.
use Rattle.std.specs.Prelude.{ℕ, true, List, [], ◌∷◌, ◌≡◌}
use Rattle.number.specs.Finite.{is_finite}
use Rattle.definition.specs.Tree.{Rule, rule, template}
use Rattle.reference.specs.Table.{table_in}
use Rattle.validation.specs.Check.{Literal, literals}
use Rattle.validation.specs.Result.{Takes, Lent, Call, Run}

-- the numbers that the literal pass meets in a rule or template
unfoldable pub literals_in : Rule → List Literal
literals_in (rule name message assert) = literals assert
literals_in (template v) = []

abbrev pub AllFinite : List Literal → Type 0
AllFinite [] = Unit {0}
AllFinite (l ∷ ls) = (is_finite l.digits ≡ true) × AllFinite ls

-- the same rule or template under another semantics, with another table and other buffers, asked of a function that takes these rule sheets
unfoldable pub under : Takes → Call → (semantics : ℕ) (table : List ℕ) → Lent → Call
under takes c semantics table lent =
    record {
      asked =
          record {
            takes = takes;
            kind = c.asked.kind;
            semantics = semantics;
            label = c.asked.label;
            rule = c.asked.rule;
          };
      table = table;
      schema = c.schema;
      lent = lent;
    }

-- two runs of any two functions under tables of one meaning, which differ at most in the semantics, in which rule sheets each function takes, and in what
-- the buffers hold and how long they are
pub record SameButSemantics (r r' : Run) : Type 0 where
  pub kind : r.asked.kind ≡ r'.asked.kind
  pub label : r.asked.label ≡ r'.asked.label
  pub rule : r.asked.rule ≡ r'.asked.rule
  pub schema : r.schema ≡ r'.schema
  pub table : table_in r.table ≡ table_in r'.table
