-- The call that checks one path, way by way.
use Rattle.std.specs.Prelude.{Option, Some, None, Result, Ok, Err}
use Prim.Native.Nat.{ℕ, ◌≤◌, ◌<◌}
use native.Mathlib.Omega.{arith}
use mathlib.Core.Bool.{Bool, true, false, not, ◌&&◌, false≢true}
use mathlib.Core.List.{List}
use mathlib.Core.Option.{none, some, or_else}
use mathlib.Core.Path.{◌≡◌, refl, ap, sym, ◌∙◌}
use lib.Dec.{leb, eqb}
use lib.ListN.{length}
use borrow.Author.Tests.{eq-eqb, ne_eqb, le-leb, lt-leb, leb-true}
use Rattle.text.specs.Utf8.{between, is_utf8}
use Rattle.definition.specs.Tree as Tree
use Rattle.definition.specs.Decode.{decode_schema}
use Rattle.reference.specs.Setting.{Setting}
use Rattle.reference.specs.Walk as Walk
use Rattle.reference.specs.Walk.{Reached, unknown, known}
use Rattle.reference.specs.Reference.{key_walk}
use Rattle.schema.specs.Index.{index_end}
use Rattle.schema.specs.Read.{SchemaAt, SchemaAnswer}
use Rattle.schema.specs.declared.read.Schema.{Schema}
use Rattle.walk.specs.Answers.{reader_is, reference_detail, IsReached, ReadableIs}
use Rattle.walk.specs.declared.answer.Reader.{Reader}
use Rattle.walk.specs.declared.answer.Reader.TheVariants.{Kernel, Projection}
use Rattle.walk.specs.declared.answer.ReferenceFault.{ReferenceFault}
use Rattle.scope.specs.Names.{may_read_by}
use Rattle.scope.specs.Scopes.{SettingAt, Unbound}
use Rattle.scope.specs.References.{RootWalks}
use Rattle.scope.specs.declared.name.Row.{Row}
use Rattle.scope.specs.declared.binder.Scope.{Scope}
use Rattle.validation.specs.Check.{is_none}
use Rattle.validation.specs.Result as Result
use Rattle.validation.specs.Result.{Answer, accepted, defect, is_of_sheets, scratch_words, first_refusal, number_in, refused_or, numbers_of, kept_scratch, ScratchAfter}
use Rattle.validation.proofs.RefusalLaws.{every, first-append, none-due, number-due, number-later, none_left, number-some, number-none, of-first}
use Rattle.validation.specs.KeyPath.{KeyCall, reader_of, max_key_bytes, key_early, key_refusals, key_defect, key_answer, key_checked, key_judged, key_result_of, key_call_of, MeetsKey}
use Rattle.single_check.specs.Outcomes.{numbers_by}
use Rattle.single_check.specs.Sheets.{FrontOnly}
use Rattle.single_check.specs.SheetLaws.{front-schema, front-scratch}
use Rattle.single_check.specs.declared.outcome.Outcome.{Outcome}
use Rattle.single_check.proofs.SettingSteps.{turned}
use Rattle.key_path.specs.Keys.{FieldsRead, KeyTold, key_run_of}

-- What is refused before the schema is read.

module _ (semantics reader : ℕ) (path : List ℕ) (scratch : ℕ) where
  abbrev early : ℕ
  early = number_in (first_refusal (key_early semantics reader path scratch))

  module _ {x : Bool} (settings : x ≡ (between 1 4 semantics && between 1 2 reader)) where
    pub refusal-1 : not x ≡ true → 1 ≡ early
    unfolding key_early
    refusal-1 f = number-due _ _ (turned settings f)

    module _ (f : not x ≡ false) {y : Bool} (keyed : y ≡ (leb (length path) max_key_bytes && is_utf8 path)) where
      pub refusal-2 : not y ≡ true → 2 ≡ early
      unfolding key_early
      refusal-2 g = number-later _ _ (turned settings f) (number-due _ _ (turned keyed g))

      pub refusal-3 : not y ≡ false → scratch < scratch_words → 3 ≡ early
      unfolding key_early
      refusal-3 g less =
          number-later _ _ (turned settings f)
          (number-later _ _ (turned keyed g) (number-due _ _ (ap not (lt-leb scratch_words scratch less))))

      pub refusal-none : not y ≡ false → scratch_words ≤ scratch → 0 ≡ early
      unfolding key_early
      refusal-none g room =
          number-later _ _ (turned settings f)
          (number-later _ _ (turned keyed g) (number-later _ _ (ap not (le-leb scratch_words scratch room)) none_left))

  early-some : (n : ℕ) → first_refusal (key_early semantics reader path scratch) ≡ some n → n ≡ 0 → ⊥
  unfolding key_early every
  early-some n e z =
      let p = of-first (λ m. not (eqb m 0)) n (key_early semantics reader path scratch) refl e in
      false≢true (rw z at p)

  early-none : {n : ℕ} → n ≡ early → n ≡ 0 → first_refusal (key_early semantics reader path scratch) ≡ none
  early-none e z = number-none (first_refusal (key_early semantics reader path scratch)) early-some (sym z ∙ e)

  -- room for the schema's index
  pub words-enough : {n : ℕ} → n ≡ early → n ≡ 0 → index_end ≤ scratch
  unfolding key_early
  words-enough e z =
      let due = none-due (key_early semantics reader path scratch) (early-none e z) in
      omega (arith, leb-true scratch_words scratch (set (leb scratch_words scratch) due.1.1.0))
    where
      set : (b : Bool) → not b ≡ false → b ≡ true
      set true h = refl
      set false h = sym h

-- What the walk answers.

pub reader-kernel : (n : ℕ) → n ≡ 1 → reader_is Kernel ≡ reader_of n
unfolding reader_of
reader-kernel n e = rw (eq-eqb n 1 e)

pub reader-projection : (n : ℕ) → (n ≡ 1 → ⊥) → reader_is Projection ≡ reader_of n
unfolding reader_of
reader-projection n e = rw (ne_eqb n 1 e)

reached-answer : (x : Reached) → IsReached x → key_answer x ≡ accepted 1
unfolding key_answer
reached-answer (Walk.refused d at left) h = absurd h
reached-answer unknown h = refl
reached-answer (known f) h = refl

refused-answer : (x : Reached) (d at : ℕ) (left : List Tree.Text) → x ≡ Walk.refused d at left → key_answer x ≡ defect (key_defect d)
unfolding key_answer
refused-answer x d at left e = rw e

pub unreadable-is : (fault : ReferenceFault) {d : ℕ}
    → d ≡ reference_detail fault
    → numbers_by (record { number = 18; family = 0; detail = d; place = 0; over_place = 0; passed = 0; path_length = 0 })
    ≡ numbers_of (defect (key_defect (reference_detail fault)))
unfolding numbers_of key_defect
unreadable-is fault e = rw e

-- the scope says which reader the walk is for
pub fields_read : (sheet words path : List ℕ) (scope : Scope) (r : Result Unit (ReferenceFault × ℕ))
    → RootWalks sheet words 1 scope.schema.fields path (reader_is scope.reader) scope.service r
    → FieldsRead sheet words scope path r
unfolding key_walk
fields_read sheet words path scope r walks =
    record { leads = λ setting t set at. rw (set.reader, set.service) at (walks.leads t.fields at.fields) }

module _ (semantics reader : ℕ) (path schema : List ℕ) (s : Schema) (words : List ℕ) {x : Row} {y : Reader} {scope : Scope} {z : Result Unit (ReferenceFault × ℕ)}
    (same : reader_is y ≡ reader_of reader)
    (bare : Unbound x (not (eqb semantics 1)) y s scope)
    (reads : FieldsRead schema words scope path z)
  where
    -- what the scope stands for
    abbrev setting : Setting
    setting =
        record {
          may_read = may_read_by scope.row;
          reader = reader_of reader;
          is_rule_kind = true;
          is_service = not (eqb semantics 1);
        }

    set : SettingAt scope setting
    set = record { service = bare.service; names = refl; reader = rw bare.reader same }

    walked : (t : Tree.Schema) → SchemaAt schema words s t → ReadableIs z (key_walk (reader_of reader) (not (eqb semantics 1)) t path)
    walked t at = reads.leads setting t set (rw bare.schema at)

    pub told-readable : {r : Outcome} → z ≡ (Ok tt) → numbers_by r ≡ numbers_of (accepted 1) → KeyTold semantics reader path schema s words r
    unfolding key_checked
    told-readable e q =
        record {
          tells = λ t at.
              let reached = rw e at (walked t at) in
              q ∙ ap numbers_of (sym (reached-answer _ reached));
        }

    pub told-unreadable : {fault : ReferenceFault} {at : ℕ} {r : Outcome}
        → z ≡ Err (fault, at)
        → numbers_by r ≡ numbers_of (defect (key_defect (reference_detail fault)))
        → KeyTold semantics reader path schema s words r
    unfolding key_checked
    told-unreadable e q =
        record {
          tells = λ t at.
              let (left, refused) = rw e at (walked t at) in
              q ∙ ap numbers_of (sym (refused-answer _ _ _ left refused));
        }

-- The whole call.

answer-kept : (x : Reached) → kept_scratch (key_answer x) ≡ scratch_words
unfolding kept_scratch key_answer
answer-kept (Walk.refused d at left) = refl
answer-kept unknown = refl
answer-kept (known f) = refl

module _ (semantics reader : ℕ) (path schema before : List ℕ) where
  abbrev call : KeyCall
  call =
      record { semantics = semantics; reader = reader; path = path; schema = schema; scratch_length = length before }

  -- a run of which the answer is known
  meets : {r : Outcome} {scratch : List ℕ} (a : Answer)
      → key_result_of call ≡ a
      → numbers_by r ≡ numbers_of a
      → ScratchAfter a before scratch
      → MeetsKey (key_run_of semantics reader path schema before r scratch)
  unfolding key_call_of
  meets a e q s = record { result = rw e q; scratch = rw e s }

  pub meets-early : {n : ℕ} {r : Outcome}
      → n ≡ early semantics reader path (length before)
      → (n ≡ 0 → ⊥)
      → numbers_by r ≡ numbers_of (Result.refused n)
      → MeetsKey (key_run_of semantics reader path schema before r before)
  unfolding key_result_of key_refusals refused_or or_else
  meets-early {n} e h q =
      meets (Result.refused n)
      (rw (
        first-append (key_early semantics reader path (length before)) _,
        number-some n (first_refusal (key_early semantics reader path (length before))) e h,
      ))
      q (record { size = refl; kept = refl })

  module _ {n : ℕ} (e : n ≡ early semantics reader path (length before)) (z : n ≡ 0) {after : List ℕ} {q : Option Schema} (post : SchemaAnswer schema before after q) where
    front : FrontOnly before after
    front = front-schema post.kept

    pub meets-bad : {r : Outcome} → q ≡ None → numbers_by r ≡ numbers_of (Result.refused 4) → MeetsKey (key_run_of semantics reader path schema before r after)
    unfolding kept_scratch is_of_sheets key_result_of key_refusals first_refusal is_none refused_or or_else
    meets-bad f g =
        let bad : decode_schema schema ≡ none = rw f at post.answer in
        meets (Result.refused 4)
        (rw (first-append (key_early semantics reader path (length before)) _, early-none semantics reader path (length before) e z, bad))
        g (front-scratch (Result.refused 4) front refl)

    pub meets-good : {s : Schema} {r : Outcome}
        → q ≡ Some s
        → KeyTold semantics reader path schema s after r
        → MeetsKey (key_run_of semantics reader path schema before r after)
    unfolding key_result_of key_refusals first_refusal is_none refused_or or_else key_judged key_checked
    meets-good f g =
        let good = rw f at post.answer in
        let answer = key_checked semantics reader path good.tree in
        meets answer
        (rw (first-append (key_early semantics reader path (length before)) _, early-none semantics reader path (length before) e z, good.reads))
        (g.tells good.tree good.indexed) (front-scratch answer front (answer-kept _))
