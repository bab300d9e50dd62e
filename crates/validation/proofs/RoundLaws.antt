-- How the rounds go on, one law for each way, and what is returned for what they find.
use Rattle.std.specs.Prelude.{ℕ, suc, ◌+◌, ◌≤◌, ◌<◌, true, false, List, [], ◌∷◌, ◌≡◌, leb}
use Rattle.std.proofs.Math.Bool.{and-false}
use Rattle.std.proofs.Math.Option.{none, some}
use Rattle.std.proofs.Math.Path.{refl}
use borrow.Author.Tests.{le-leb, lt-leb}
use Rattle.definition.specs.Tree.{Schema, Rule}
use Rattle.definition.specs.Limits.{max_schema_entries}
use Rattle.reference.specs.Setting.{Setting}
use Rattle.widening.specs.Opening.{is_in, opened}
use Rattle.validation.specs.Check.{Check, checks}
use Rattle.validation.specs.Judge.{Failure, all_pass, fails_at, judge}
use Rattle.validation.specs.Openings.{judged_open, after_round, rounds, rising_to, max_marks, fewest_marks}

-- the verdict of a schema that has the marks open
pub judged-open : (setting : Setting) (t : Schema) (cs : List Check) (marks : List ℕ) (s : Schema)
    → s ≡ opened (is_in marks) t
    → judge setting s cs ≡ judged_open setting t cs marks
unfolding judged_open
judged-open setting t cs marks s same = rw same refl

module _ (setting : Setting) (t : Schema) (cs : List Check) (k : ℕ) (marks : List ℕ) where
  -- all checks pass: no more is needed
  pub round-passes : (n : ℕ) → judged_open setting t cs marks ≡ all_pass n → rounds setting t cs (suc k) marks ≡ some marks
  unfolding rounds after_round
  round-passes n v = rw v refl

  -- the mark of the field that refuses is not open yet: it opens
  pub round-opens : (n : ℕ) (c : Check) (why : Failure)
      → judged_open setting t cs marks ≡ fails_at n c why
      → why.at ≤ max_schema_entries
      → is_in marks why.at ≡ false
      → rounds setting t cs (suc k) marks ≡ rounds setting t cs k (why.at ∷ marks)
  unfolding rounds after_round
  round-opens n c why v small new = rw (v, le-leb why.at max_schema_entries small, new) refl

  -- it is open already: no marks help
  pub round-ends : (n : ℕ) (c : Check) (why : Failure)
      → judged_open setting t cs marks ≡ fails_at n c why
      → is_in marks why.at ≡ true
      → rounds setting t cs (suc k) marks ≡ none
  unfolding rounds after_round
  round-ends n c why v open-already = rw (v, open-already, and-false (leb why.at max_schema_entries)) refl

  -- or there is no such entry
  pub round-ends-past : (n : ℕ) (c : Check) (why : Failure)
      → judged_open setting t cs marks ≡ fails_at n c why
      → max_schema_entries < why.at
      → rounds setting t cs (suc k) marks ≡ none
  unfolding rounds after_round
  round-ends-past n c why v past = rw (v, lt-leb why.at max_schema_entries past) refl

module _ (setting : Setting) (t : Schema) (r : Rule) where
  pub fewest-found : (found : List ℕ)
      → rounds setting t (checks setting r) (max_marks + 1) [] ≡ some found
      → fewest_marks setting t r ≡ some (rising_to max_marks (is_in found))
  unfolding fewest_marks
  fewest-found found e = rw e refl

  pub fewest-missing : rounds setting t (checks setting r) (max_marks + 1) [] ≡ none → fewest_marks setting t r ≡ none
  unfolding fewest_marks
  fewest-missing e = rw e refl
