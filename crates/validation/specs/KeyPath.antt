-- The answer to a call that checks one path of `$fields`, given without `$fields.` (docs/FORMAT.md, "Keys").
use Rattle.std.specs.Prelude.{ℕ, true, not, cond, ◌&&◌, List, [], ◌∷◌, ◌++◌, ◌≡◌, leb, eqb, length}
use Rattle.std.proofs.Math.Option.{Option, none, some}
use Rattle.text.specs.Utf8.{between, is_utf8}
use Rattle.definition.specs.Tree.{Schema}
use Rattle.definition.specs.Decode.{decode_schema}
use Rattle.reference.specs.Setting.{Reader, kernel, projection, one_of}
use Rattle.reference.specs.Walk as Walk
use Rattle.reference.specs.Walk.{Reached, unknown, known, WalkDetail}
use Rattle.reference.specs.Reference.{key_walk}
use Rattle.validation.specs.Check.{is_none}
use Rattle.validation.specs.Result.{Defect, Answer, refused, accepted, defect, scratch_words, Refusal, first_refusal, refused_or, Numbers, numbers_of, ScratchAfter}

pub record KeyCall : Type 0 where
  pub semantics : ℕ
  -- 1 Kernel, 2 Projection
  pub reader : ℕ
  pub path : List ℕ
  pub schema : List ℕ
  pub scratch_length : ℕ

unfoldable pub reader_of : ℕ → Reader
reader_of n = cond (eqb n 1) kernel projection

abbrev pub max_key_bytes : ℕ
max_key_bytes = 512

-- tried before the schema is read
unfoldable pub key_early : (semantics reader : ℕ) (path : List ℕ) (scratch_length : ℕ) → List Refusal
key_early semantics reader path scratch_length =
    record { number = 1; is_due = not (between 1 4 semantics && between 1 2 reader) }
    ∷ record { number = 2; is_due = not (leb (length path) max_key_bytes && is_utf8 path) }
    ∷ record { number = 3; is_due = not (leb scratch_words scratch_length) }
    ∷ []

unfoldable pub key_refusals : KeyCall → List Refusal
key_refusals c =
    key_early c.semantics c.reader c.path c.scratch_length
    ++ (record { number = 4; is_due = is_none (decode_schema c.schema) } ∷ [])

-- none of the refusals is due
abbrev pub KeyUnrefused : KeyCall → Type 0
KeyUnrefused c = first_refusal (key_refusals c) ≡ none

-- number 18 with a detail, and nothing else
unfoldable pub key_defect : (detail : ℕ) → Defect
key_defect detail =
    record { number = 18; family = 0; detail = detail; place = 0; over_place = 0; passed = 0; path = [] }

-- one check is made: that the path can be read
unfoldable pub key_answer : Reached → Answer
key_answer (Walk.refused d at left) = defect (key_defect d)
key_answer unknown = accepted 1
key_answer (known f) = accepted 1

-- the refusals of this call
unfoldable pub key_numbers : List ℕ
key_numbers = 1 ∷ 2 ∷ 3 ∷ 4 ∷ []

-- the answers that a caller may hear: one of refusals 1 to 4, acceptance of the one check, or 18 with a detail of that reader's walk
pub data KeyHeard : Reader → Answer → Type 0 where
  refusal : {reader : Reader} {n : ℕ} → one_of n key_numbers ≡ true → KeyHeard reader (refused n)
  acceptance : {reader : Reader} → KeyHeard reader (accepted 1)
  finding : {reader : Reader} (d : ℕ) → WalkDetail reader d → KeyHeard reader (defect (key_defect d))

-- the answer of a schema about the path
unfoldable pub key_checked : (semantics reader : ℕ) (path : List ℕ) → Schema → Answer
key_checked semantics reader path s = key_answer (key_walk (reader_of reader) (not (eqb semantics 1)) s path)

-- the same, where the schema sheet is well formed
unfoldable pub key_judged : (semantics reader : ℕ) (path : List ℕ) → Option Schema → Answer
key_judged semantics reader path none = refused 4
key_judged semantics reader path (some s) = key_checked semantics reader path s

-- the whole answer: the first refusal that is due, or what the schema says of the path
unfoldable pub key_result_of : KeyCall → Answer
key_result_of c =
    let verdict = key_judged c.semantics c.reader c.path (decode_schema c.schema) in
    refused_or (first_refusal (key_refusals c)) verdict

-- what a caller hands over, and what it has after the call
pub record KeyRun : Type 0 where
  pub semantics : ℕ
  pub reader : ℕ
  pub path : List ℕ
  pub schema : List ℕ
  pub scratch_before : List ℕ
  pub result : Numbers
  pub scratch : List ℕ

unfoldable pub key_call_of : KeyRun → KeyCall
key_call_of r =
    record {
      semantics = r.semantics;
      reader = r.reader;
      path = r.path;
      schema = r.schema;
      scratch_length = length r.scratch_before;
    }

-- what the call promises of its run
pub record MeetsKey (r : KeyRun) : Type 0 where
  pub result : r.result ≡ numbers_of (key_result_of (key_call_of r))
  pub scratch : ScratchAfter (key_result_of (key_call_of r)) r.scratch_before r.scratch
