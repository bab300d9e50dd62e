-- The marks that are found are the fewest: they are returned exactly when some set of openings gives acceptance, and every other set that does
-- contains them.
use Rattle.std.specs.Prelude.{ℕ, ◌+◌, ◌≤◌, Bool, true, ◌&&◌, ◌↔◌, ◌≡◌, refl, ltb, length}
use Rattle.std.proofs.Common.{arith, sym, ap, subst, ◌∙◌, lt-ltb}
use Rattle.std.proofs.lemmas.Bool.{false≢true}
use mathlib.Core.List.{List, []}
use Rattle.std.proofs.Math.Option.{Option, none, some, map-eq-some_iff, map-eq-none_iff}
use Rattle.text.proofs.Bools.{and-true-0, and-true-1}
use Rattle.text.specs.CaseLaws.{zero-not-one}
use Rattle.definition.specs.Tree.{Text, Schema, Rule}
use Rattle.definition.specs.Decode.{decode_schema}
use Rattle.reference.specs.Setting.{Setting}
use Rattle.widening.specs.Opening.{is_in, opened, is_closed}
use Rattle.widening.proofs.OpeningLaws.{Among, beyond, opened-none, opened-agree, closed-entry}
use Rattle.validation.specs.Check.{checks}
use Rattle.validation.specs.Judge.{Verdict, all_pass, fails_at, judge}
use Rattle.validation.proofs.CheckLaws.{sure-checks}
use Rattle.validation.specs.Result.{Defect, accepted, defect, answer_of, checked}
use Rattle.validation.proofs.DemandLaws.{distinct-names}
use Rattle.validation.specs.Marked.{Rises}
use Rattle.validation.specs.Openings.{rounds, rising_to, max_marks, fewest_marks}
use Rattle.validation.proofs.RisingLaws.{rising-has, rising-few, rising-rises, rises-same}
use Rattle.validation.specs.Fewest.{Passes, Accepts, IsFewest, Returned}
use Rattle.validation.proofs.LeastLaws.{to_open, rounds-least, rounds-pass, rounds-enough}

-- Acceptance is what a call with such a schema hears.

pub passes-answer : (setting : Setting) (label : Text) (r : Rule) (v : Verdict)
    → Passes v ↔ ((n : ℕ) × (answer_of setting label r v ≡ accepted n))
unfolding answer_of
passes-answer setting label r (all_pass n) = (λ p. (n, refl), λ h. tt)
passes-answer setting label r (fails_at n c why) = (λ p. absurd p, λ h. not-accepted _ h.0 h.1)
  where
    not-accepted : (d : Defect) (n : ℕ) → defect d ≡ accepted n → ⊥
    not-accepted d n e = zero-not-one cc

pub accepts-answer : (setting : Setting) (label : Text) (t : Schema) (r : Rule) (may : ℕ → Bool)
    → Accepts setting t r may ↔ ((n : ℕ) × (checked setting label (opened may t) r ≡ accepted n))
unfolding checked
accepts-answer setting label t r may = passes-answer setting label r (judge setting (opened may t) (checks setting r))

-- The set, from what the rounds find.

module _ (setting : Setting) (t : Schema) (r : Rule) where
  found_of : (set : List ℕ)
      → fewest_marks setting t r ≡ some set
      → (found : List ℕ) × (rounds setting t (checks setting r) (max_marks + 1) [] ≡ some found) × (rising_to max_marks (is_in found) ≡ set)
  unfolding fewest_marks
  found_of set e = (map-eq-some_iff _ (rounds setting t (checks setting r) (max_marks + 1) [])).0 e

  missing-of : fewest_marks setting t r ≡ none → rounds setting t (checks setting r) (max_marks + 1) [] ≡ none
  unfolding fewest_marks
  missing-of e = (map-eq-none_iff _ (rounds setting t (checks setting r) (max_marks + 1) [])).0 e

  -- only closed marks count
  agree-accepts : (p q : ℕ → Bool) → ((e : ℕ) → is_closed t e ≡ true → p e ≡ q e) → Accepts setting t r p → Accepts setting t r q
  agree-accepts p q same a = subst (λ (s : Schema). Passes (judge setting s (checks setting r))) (opened-agree p q t same) a

  unfoldable of_closed : (ℕ → Bool) → ℕ → Bool
  of_closed may e = is_closed t e && may e

  closed-accepts : (may : ℕ → Bool) → Accepts setting t r may → Accepts setting t r (of_closed may)
  unfolding of_closed
  closed-accepts may a = agree-accepts may (of_closed may) (λ e c. rw c refl) a

  none-among : (may : ℕ → Bool) → Among (is_in []) may
  unfolding is_in
  none-among may e h = absurd (false≢true h)

  as-it-is : Accepts setting t r (is_in []) ↔ Passes (judge setting t (checks setting r))
  as-it-is = (λ a. rw (opened-none t) at a, λ p. rw (opened-none t) p)

  module _ (sheet : List ℕ) (decodes : decode_schema sheet ≡ some t) where
    set-has : (found : List ℕ) (e : ℕ) → is_closed t e ≡ true → is_in found e ≡ is_in (rising_to max_marks (is_in found)) e
    set-has found e c =
        rw (rising-has max_marks (is_in found) e, lt-ltb e max_marks (omega (arith, closed-entry sheet t e decodes c))) refl

    -- with the set open the rule or template is accepted
    pub fewest-accepts : (set : List ℕ) → fewest_marks setting t r ≡ some set → Accepts setting t r (is_in set)
    fewest-accepts set e =
        let (found, same, is) = found_of set e in
        agree-accepts (is_in found) (is_in set) (λ e c. set-has found e c ∙ ap (λ (xs : List ℕ). is_in xs e) is)
        (rounds-pass setting t (checks setting r) (distinct-names sheet t decodes) (λ s. sure-checks setting s r) (max_marks + 1) [] found same)

    -- and every set of marks with which it is contains this one
    pub fewest-least : (set : List ℕ)
        → fewest_marks setting t r ≡ some set
        → (may : ℕ → Bool)
        → Accepts setting t r may
        → (e : ℕ)
        → is_in set e ≡ true
        → may e ≡ true
    fewest-least set same may a e h =
        let (found, same, is) = found_of set same in
        let has : (ltb e max_marks && is_in found e) ≡ true = sym (rising-has max_marks (is_in found) e) ∙ (rw is h) in
        rounds-least setting t (checks setting r) (distinct-names sheet t decodes) (λ s. sure-checks setting s r) (max_marks + 1) [] found may same
        (none-among may)
        a
        e
        (and-true-1 (ltb e max_marks) (is_in found e) has)

    -- where none is returned, no marks help
    pub fewest-none : fewest_marks setting t r ≡ none → (may : ℕ → Bool) → Accepts setting t r may → ⊥
    unfolding of_closed to_open
    fewest-none e may a =
        rounds-enough setting t (checks setting r) (distinct-names sheet t decodes) (λ s. sure-checks setting s r) (max_marks + 1) [] (of_closed may)
        (λ e h. closed-entry sheet t e decodes (and-true-0 (is_closed t e) (may e) h))
        (omega (arith, rising-few max_marks (beyond (is_in []) (of_closed may))))
        (none-among (of_closed may))
        (closed-accepts may a)
        (missing-of e)

    -- each mark of the set is 0
    pub fewest-closed : (set : List ℕ) → fewest_marks setting t r ≡ some set → (e : ℕ) → is_in set e ≡ true → is_closed t e ≡ true
    unfolding of_closed
    fewest-closed set same e h =
        and-true-0 (is_closed t e) (is_in set e)
        (fewest-least set same (of_closed (is_in set)) (closed-accepts (is_in set) (fewest-accepts set same)) e h)

    -- its entries rise, none twice
    pub fewest-rises : (set : List ℕ) → fewest_marks setting t r ≡ some set → Rises 0 set
    fewest-rises set e = let (found, same, is) = found_of set e in subst (Rises 0) is (rising-rises max_marks (is_in found))

    -- and they have room in a list of 1,025 elements
    pub fewest-few : (set : List ℕ) → fewest_marks setting t r ≡ some set → length set ≤ max_marks
    fewest-few set e = let (found, same, is) = found_of set e in rw is at (rising-few max_marks (is_in found))

    returned-is : (set : List ℕ) → fewest_marks setting t r ≡ some set → IsFewest setting t r set
    returned-is set e =
        record {
          accepts = fewest-accepts set e;
          least = fewest-least set e;
          closed = fewest-closed set e;
          rises = fewest-rises set e;
        }

    is-returned : (set : List ℕ) → IsFewest setting t r set → fewest_marks setting t r ≡ some set
    is-returned set f = go (fewest_marks setting t r) refl
      where
        go : (o : Option (List ℕ)) → fewest_marks setting t r ≡ o → o ≡ some set
        go none e = absurd (fewest-none e (is_in set) f.accepts)
        go (some other) e =
            ap some (rises-same 0 other set (fewest-rises other e) f.rises (fewest-least other e (is_in set) f.accepts)
            (f.least (is_in other) (fewest-accepts other e)))

    exists : (may : ℕ → Bool) → Accepts setting t r may → (set : List ℕ) × (fewest_marks setting t r ≡ some set)
    exists may a = go (fewest_marks setting t r) refl
      where
        go : (o : Option (List ℕ)) → fewest_marks setting t r ≡ o → (set : List ℕ) × (o ≡ some set)
        go none e = absurd (fewest-none e may a)
        go (some set) e = (set, refl)

    pub fewest : Returned setting t r
    fewest =
        record {
          exactly = (λ h. (is_in h.0, fewest-accepts h.0 h.1), λ h. exists h.0 h.1);
          least = λ set. (returned-is set, is-returned set);
        }

    -- the empty set, exactly if it is accepted as it is
    pub fewest-empty : (fewest_marks setting t r ≡ some []) ↔ Passes (judge setting t (checks setting r))
    unfolding is_in
    fewest-empty = (
      λ e. as-it-is.0 (fewest-accepts [] e),
      λ p. is-returned []
          (record {
            accepts = as-it-is.1 p;
            least = λ may a e h. absurd (false≢true h);
            closed = λ e h. absurd (false≢true h);
            rises = tt;
          }),
    )
