-- The literal pass, step by step.
use Rattle.std.specs.Prelude.{Option as Optional, None, Err}
use Prim.Native.Nat.{ℕ, ◌+◌, ◌-◌, ◌≤◌, ◌<◌}
use native.Mathlib.Omega.{arith}
use mathlib.Core.Bool.{Bool, true, false, not}
use mathlib.Core.List.{List, [], ◌∷◌, append-nil}
use mathlib.Core.Logic.{⊎_elim}
use mathlib.Core.Option.{Option, none, some}
use mathlib.Core.Path.{◌≡◌, refl, sym, ap, subst, ◌∙◌}
use lib.ListN.{drop}
use Rattle.text.specs.Parts.{part_of}
use Rattle.text.specs.declared.part.Part.{Part}
use Rattle.number.specs.Finite.{is_finite}
use Rattle.sheet.specs.Entries.{ValueHead, constant_head, number_head, string_head, array_head, object_head, value_head, key_head}
use Rattle.sheet.proofs.RuleHeadLaws.{value_head-exact}
use Rattle.definition.specs.Tree.{Text, Schema}
use Rattle.reference.specs.Setting.{Setting}
use Rattle.reference.specs.Reference.{Environment}
use Rattle.rule.specs.Index.{start_of}
use Rattle.validation.specs.Check.{Binder, check, fails_if, literal_check}
use Rattle.validation.specs.Judge.{failure, outcome, environment, answer, answer_in}
use Rattle.rule.specs.Leaves.{says_at, says_if, said_in}
use Rattle.validation.specs.Result.{over_of}
use Rattle.rule.specs.Kinds.{type_in, HasType, TextAt}
use Rattle.rule.specs.Nodes.{EntriesIn}
use Rattle.value_checks.specs.Verdicts.{number_of, failure_of, over_by, failed, Required}
use Rattle.value_checks.specs.Literals.{literal_says, LiteralsJudged}
use Rattle.value_checks.specs.declared.verdict.Fault.{Fault}
use Rattle.value_checks.specs.declared.verdict.Fault.TheVariants.{Literal}
use Rattle.value_checks.specs.declared.verdict.Progress.{Progress}
use Rattle.value_checks.proofs.Going.{goes-nothing, goes_then, goes-stopped, said-next}
use Rattle.rule.proofs.EntrySteps.{entries-part}

fails-answer : (setting : Setting) (schema : Schema) (env : Environment) (b : Bool) (d : ℕ) → answer setting schema env (fails_if b d) ≡ failed b (failure d 0)
unfolding answer fails_if failed
fails-answer setting schema env true d = refl
fails-answer setting schema env false d = refl

-- a check that the sheet settles
pub settled-outcome : (setting : Setting) (schema : Schema) (binders : List Binder) (env : Environment) (n p : ℕ) (b : Bool) (d : ℕ)
    → environment schema binders ≡ some env
    → outcome setting schema (check n p binders (fails_if b d)) ≡ failed b (failure d 0)
unfolding outcome answer_in check
settled-outcome setting schema binders env n p b d e = rw e (fails-answer setting schema env b d)

-- What a word says, by its entry's type.

module _ {A : Type 0} (says : ℕ → ValueHead → List A) (rule words : List ℕ) (i at digit : ℕ) (start : at ≡ start_of words i) where
  -- a word whose entry has another type says nothing, where only that type says something
  pub says_other : HasType rule at digit false → ((h : ValueHead) → (digit ≡ 48 + type_in h → ⊥) → says (i + 1) h ≡ []) → said_in says rule words 1 i ≡ []
  unfolding said_in says_at says_if
  says_other n silent = rw (append-nil, sym start) (by (value_head (drop at rule)) refl)
    where
      by : (o : Option (ValueHead × List ℕ)) → value_head (drop at rule) ≡ o → says_if says (i + 1) o ≡ []
      by none e = refl
      by (some h) e = silent h.0 (n h.0 h.1 e)

  module _ (there : HasType rule at digit true) (what : List A)
      (those : (h : ValueHead) (rest : List ℕ) → value_head (drop at rule) ≡ some (h, rest) → digit ≡ 48 + type_in h → says (i + 1) h ≡ what) where
    value-says : (h : ValueHead) (rest : List ℕ) → value_head (drop (start_of words i) rule) ≡ some (h, rest) → said_in says rule words 1 i ≡ what
    unfolding said_in says_at says_if
    value-says h rest r =
        let e : value_head (drop at rule) ≡ some (h, rest) = rw start r in
        rw (append-nil, r) (those h rest e (there.0 h rest e))

    no_key : (key : Text) (rest : List ℕ) → key_head (drop (start_of words i) rule) ≡ some (key, rest) → ⊥
    no_key key rest r = let e : key_head (drop at rule) ≡ some (key, rest) = rw start r in there.1 key rest e

    pub says_typed : EntriesIn rule words i 1 → said_in says rule words 1 i ≡ what
    says_typed w =
        ⊎_elim
        (λ (r : (h : ValueHead) × (rest : List ℕ) × (value_head (drop (start_of words i) rule) ≡ some (h, rest))). value-says r.0 r.1 r.2)
        (λ (r : (key : Text) × (rest : List ℕ) × (key_head (drop (start_of words i) rule) ≡ some (key, rest))). absurd (no_key r.0 r.1 r.2))
        (w.each i (omega arith) (omega arith))

-- Numbers.

no_number : (e : ℕ) (h : ValueHead) → (52 ≡ 48 + type_in h → ⊥) → literal_says e h ≡ []
unfolding literal_says type_in
no_number e (constant_head type) k = refl
no_number e (number_head digits) k = absurd (k refl)
no_number e (string_head string) k = refl
no_number e (array_head count) k = refl
no_number e (object_head count) k = refl

module _ (rule : List ℕ) (at i : ℕ) {p : Part} (known : TextAt rule at p) where
  number-says : (h : ValueHead) (rest : List ℕ) → value_head (drop at rule) ≡ some (h, rest) → 52 ≡ 48 + type_in h
      → literal_says (i + 1) h ≡ literal_check (record { entry = i + 1; digits = part_of rule p }) ∷ []
  unfolding literal_says type_in
  number-says (constant_head type) rest e k = absurd (omega (arith, k, (value_head-exact.sound (drop at rule) (constant_head type) rest e).1.1))
  number-says (number_head digits) rest e k =
      ap (λ (x : List ℕ). literal_check (record { entry = i + 1; digits = x }) ∷ []) (sym (known.number digits rest e))
  number-says (string_head string) rest e k = absurd (omega arith)
  number-says (array_head count) rest e k = absurd (omega arith)
  number-says (object_head count) rest e k = absurd (omega arith)

module _ {s words : List ℕ} {i at : ℕ} {a : Progress} {test : Bool} (start : at ≡ start_of words i) (typed : HasType s at 52 test) where
  pub literal-other : test ≡ false → LiteralsJudged s words i 1 a a
  literal-other t =
      let m : HasType s at 52 false = subst (λ (x : Bool). HasType s at 52 x) t typed in
      record { at_most = omega arith; goes = λ setting schema w. rw (says_other literal_says s words i at 52 start m (no_number (i + 1))) goes-nothing }

  pub literal-number : {part : Part} {digits : List ℕ} {finite : Bool} {r : Progress}
      → test ≡ true
      → TextAt s at part
      → digits ≡ part_of s part
      → finite ≡ is_finite digits
      → Required a (not finite) Literal (i + 1) None r
      → LiteralsJudged s words i 1 a r
  unfolding literal_check number_of failure_of over_by check over_of environment
  literal-number {part} {digits} {finite} {r} t known same f q =
      let m : HasType s at 52 true = subst (λ (x : Bool). HasType s at 52 x) t typed in
      let e : finite ≡ is_finite (part_of s part) = f ∙ ap is_finite same in
      record {
        at_most = q.at_most;
        goes =
            λ setting schema w.
            rw (says_typed literal_says s words i at 52 start m _ (number-says s at i known) w)
            (q.goes (outcome setting schema) _ (record { numbered = refl; placed = refl; held = refl })
            (settled-outcome setting schema [] [] 14 (i + 1) (not (is_finite (part_of s part))) 0 refl ∙ ap (λ (x : Bool). failed (not x) (failure 0 0)) (sym e)));
      }

module _ {s words : List ℕ} {a : Progress} {start i : ℕ} where
  pub literals-next : {n j : ℕ} {b r : Progress}
      → start ≤ i
      → j ≡ i + n
      → LiteralsJudged s words start (i - start) a b
      → LiteralsJudged s words i n b r
      → LiteralsJudged s words start (j - start) a r
  literals-next {n} h k p q =
      record {
        at_most = omega (arith, p.at_most, q.at_most);
        goes =
            λ setting schema w.
            rw (said-next literal_says s words n h k)
            (goes_then (p.goes setting schema (entries-part (omega arith) (omega arith) w)) (q.goes setting schema (entries-part (omega arith) (omega arith) w)));
      }

  pub literals-all : {end : ℕ} {r : Progress}
      → end ≤ i
      → i - start ≤ end - start
      → LiteralsJudged s words start (i - start) a r
      → LiteralsJudged s words start (end - start) a r
  literals-all {end} h k p = let e : i - start ≡ end - start = omega arith in rw e at p

pub literals-stopped : {s words : List ℕ} {start i end : ℕ} {a b r : Progress} {f : Fault} {place : ℕ} {over : Optional ℕ}
    → start ≤ i
    → i < end
    → LiteralsJudged s words start (i - start) a b
    → LiteralsJudged s words i 1 b r
    → r.verdict ≡ Err (f, place, over)
    → LiteralsJudged s words start (end - start) a r
literals-stopped {i = i} {end = end} h k p q t =
    literals-next {i = i + 1} {n = end - (i + 1)} (omega arith) (omega arith) (literals-next h refl p q)
    (record { at_most = omega arith; goes = λ setting schema w. goes-stopped t })

pub literals-none : {s words : List ℕ} {a : Progress} {start : ℕ} → LiteralsJudged s words start (start - start) a a
unfolding said_in
literals-none {s} {words} {a} {start} =
    let e : start - start ≡ 0 = omega arith in
    record { at_most = omega arith; goes = λ setting schema w. rw e goes-nothing }
