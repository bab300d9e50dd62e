-- A rule book under a schema that grew: what is promised of its tally (demand 3 of crate `validation`, for every sheet of the book).
use Rattle.std.specs.Prelude.{ℕ, ◌≤◌, ◌<◌, List, [], ◌↔◌, ◌≡◌, length, get_or}
use Rattle.std.proofs.Math.Option.{some}
use Rattle.reference.specs.Table.{table_in}
use Rattle.widening.specs.Widening.{Level, marks}
use Rattle.validation.specs.Check.{IsDefect}
use Rattle.validation.specs.Result.{Defect, Answer, defect, numbers_of, result_of}
use Rattle.validation.specs.Growth.{SameDefect}
use Rattle.rule_book.specs.Book.{sheets_of}
use Rattle.rule_book.specs.Tally.{BookCall, single, sum, Tally}

-- two calls about one book under tables of one meaning that differ at most in the schema, and in how long the buffers are
pub record SameButBookSchema (c c' : BookCall) : Type 0 where
  pub kind : c.kind ≡ c'.kind
  pub semantics : c.semantics ≡ c'.semantics
  pub label : c.label ≡ c'.label
  pub book : c.book ≡ c'.book
  pub table : table_in c.table ≡ table_in c'.table

-- the answers about one sheet, the second under the widened schema: as demand 3 says, and 5 from both or from neither
pub record SheetFares (l : Level) (a a' : Answer) : Type 0 where
  -- a sheet that was accepted is accepted, with the same passed count
  pub accepts : (numbers_of a).number ≡ 0 → ((numbers_of a').number ≡ 0) × ((numbers_of a').passed ≡ (numbers_of a).passed)
  -- no fewer checks pass
  pub passes : (numbers_of a).passed ≤ (numbers_of a').passed
  -- a defect with as many passed is found again, with the same number, family, path, place and over place
  pub repeats : IsDefect (numbers_of a).number → (numbers_of a').passed ≡ (numbers_of a).passed → (d : Defect) × (d' : Defect) × (a ≡ defect d) × (a' ≡ defect d') × SameDefect d d'
  -- and its detail is the same as well where only open marks differ
  pub explains : l ≡ marks → IsDefect (numbers_of a).number → (numbers_of a').passed ≡ (numbers_of a).passed → (numbers_of a').detail ≡ (numbers_of a).detail
  pub refuses : ((numbers_of a).number ≡ 5) ↔ ((numbers_of a').number ≡ 5)
  -- the widening brings no defect: where there is one now, there was one before
  pub brings : IsDefect (numbers_of a').number → IsDefect (numbers_of a).number

-- what two tallies of one book say, the second under the widened schema
pub record BookFares (l : Level) (c c' : BookCall) (t t' : Tally) : Type 0 where
  -- the sheets of both
  pub sheets : List (List ℕ)
  pub form : sheets_of c.book ≡ some sheets
  pub form' : sheets_of c'.book ≡ some sheets
  -- the k-th answers
  pub fares : (k : ℕ) → k < length sheets → SheetFares l (result_of (single c (get_or sheets k []))) (result_of (single c' (get_or sheets k [])))
  -- the counts: as many are read, none fewer is accepted, as many are refused by 5 and none by 4, and no fewer checks pass
  pub read : t'.read ≡ t.read
  pub accepted : t.accepted ≤ t'.accepted
  pub rule_refused : t'.rule_refused ≡ t.rule_refused
  pub schema_refused : (t.schema_refused ≡ 0) × (t'.schema_refused ≡ 0)
  -- so there are no more defects than before
  pub found : sum t'.found ≤ sum t.found
  pub passed : t.passed ≤ t'.passed
