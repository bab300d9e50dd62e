-- The rounds find marks with which a check list passes, and every set of marks with which it does contains them. One round more than there are
-- marks suffices, since each opens one that every such set has.
use Prim.Native.Nat.{ℕ, zero, suc, ◌+◌, ◌≤◌, ◌<◌}
use native.Mathlib.Omega.{arith}
use Rattle.std.specs.Prelude.{Bool, true, false, cond, ◌&&◌, ◌||◌, List, [], ◌∷◌, ◌≡◌, leb, eqb, length}
use Rattle.std.proofs.Math.Bool.{not, and-false}
use Rattle.std.proofs.lemmas.Bool.{false≢true, not-true}
use Rattle.std.proofs.Math.Option.{Option, none, some, some-injective, none-ne-some, some-ne-none}
use Rattle.std.proofs.Math.Path.{refl}
use Rattle.std.proofs.Common.{le-leb, eqb-true, eq-eqb}
use Rattle.text.proofs.Bools.{and-true-0, and-true-1, or-true-cases}
use Rattle.definition.specs.Tree.{Schema}
use Rattle.definition.specs.Limits.{max_schema_entries}
use Rattle.reference.specs.Setting.{Setting}
use Rattle.widening.specs.Widening.{only}
use Rattle.widening.specs.Distinct.{DistinctSchema}
use Rattle.widening.proofs.ReferenceLaws.{GrownSchema}
use Rattle.widening.specs.Opening.{is_in, opened}
use Rattle.widening.proofs.OpeningLaws.{Among, beyond, opened-widens, opened-distinct}
use Rattle.validation.specs.Check.{Check}
use Rattle.validation.specs.Judge.{Failure, CheckOutcome, outcome, Verdict, all_pass, fails_at, decide, judge_from, judge}
use Rattle.validation.proofs.CheckLaws.{Sure}
use Rattle.validation.proofs.OpeningLaws.{outcome-opens}
use Rattle.validation.specs.Openings.{judged_open, after_round, rounds, rising_to, max_marks}
use Rattle.validation.proofs.RisingLaws.{rising-fewer}
use Rattle.validation.specs.Fewest.{Passes}

-- One list under two schemas: where the second accepts it, the first was refused at a mark that is open in the second.

-- the mark of the field that refused is one of these
abbrev OpensOne : (ℕ → Bool) → Verdict → Type 0
OpensOne may (all_pass n) = Unit {0}
OpensOne may (fails_at n c why) = may why.at ≡ true

decide-passes : (o : CheckOutcome) (n : ℕ) (c : Check) (v : Verdict) → Passes (decide o n c v) → (o ≡ none) × Passes v
unfolding decide
decide-passes none n c v p = (refl, p)
decide-passes (some why) n c v p = absurd p

decide-opens : (may : ℕ → Bool) (o : CheckOutcome) (n : ℕ) (c : Check) (v : Verdict)
    → ((why : Failure) → o ≡ some why → may why.at ≡ true)
    → (o ≡ none → OpensOne may v)
    → OpensOne may (decide o n c v)
unfolding decide
decide-opens may none n c v fails passes = passes refl
decide-opens may (some why) n c v fails passes = fails why refl

judge-from-opens : {may : ℕ → Bool} {s s' : Schema} (setting : Setting) (n : ℕ) (cs : List Check)
    → GrownSchema (only may) s s'
    → Sure setting s cs
    → Passes (judge_from (outcome setting s') n cs)
    → OpensOne may (judge_from (outcome setting s) n cs)
unfolding judge_from
judge-from-opens setting n [] g sure p = tt
judge-from-opens {may = may} {s = s} {s' = s'} setting n (c ∷ cs) g sure p =
    let both = decide-passes (outcome setting s' c) n c (judge_from (outcome setting s') (n + 1) cs) p in
    decide-opens may (outcome setting s c) n c (judge_from (outcome setting s) (n + 1) cs)
    (λ why e. outcome-opens setting c why g sure.0.resolved e both.0)
    (λ e. judge-from-opens setting (n + 1) cs g (sure.1 e) both.1)

-- Sets of marks.

found-if : {A : Type 0} (b : Bool) (x : Option A) (y : A) → cond b x none ≡ some y → x ≡ some y
found-if true x y e = e
found-if false x y e = absurd (none-ne-some y e)

more-among : (x : ℕ) (marks : List ℕ) (may : ℕ → Bool) → may x ≡ true → Among (is_in marks) may → Among (is_in (x ∷ marks)) may
unfolding is_in
more-among x marks may m w e h = or-true-cases (eqb x e) (is_in marks e) (λ same. rw (← (eqb-true x e same)) m) (w e) h

beyond-among : (x : ℕ) (marks : List ℕ) (may : ℕ → Bool) → Among (beyond (is_in (x ∷ marks)) may) (beyond (is_in marks) may)
unfolding is_in beyond
beyond-among x marks may e h = go (may e) (eqb x e) (is_in marks e) h
  where
    go : (a b c : Bool) → (a && not (b || c)) ≡ true → (a && not c) ≡ true
    go a true c h = absurd (false≢true (rw (and-false a) at h))
    go a false c h = h

beyond-lacks : (x : ℕ) (marks : List ℕ) (may : ℕ → Bool) → beyond (is_in (x ∷ marks)) may x ≡ false
unfolding is_in beyond
beyond-lacks x marks may = rw (eq-eqb x x refl) (and-false (may x))

is-new : (may : ℕ → Bool) (marks : List ℕ) (e : ℕ) → beyond (is_in marks) may e ≡ true → (may e ≡ true) × (is_in marks e ≡ false)
unfolding beyond
is-new may marks e h = (and-true-0 (may e) (not (is_in marks e)) h, not-true (is_in marks e) (and-true-1 (may e) (not (is_in marks e)) h))

-- how many marks are left to open
unfoldable pub to_open : (may : ℕ → Bool) → List ℕ → ℕ
to_open may marks = length (rising_to max_marks (beyond (is_in marks) may))

fewer-to-open : (may : ℕ → Bool) (marks : List ℕ) (e : ℕ)
    → e ≤ max_schema_entries
    → beyond (is_in marks) may e ≡ true
    → to_open may (e ∷ marks) < to_open may marks
unfolding to_open
fewer-to-open may marks e small h =
    rising-fewer max_marks (beyond (is_in (e ∷ marks)) may) (beyond (is_in marks) may) e (beyond-among e marks may) (omega arith)
    (beyond-lacks e marks may)
    h

module _ (setting : Setting) (t : Schema) (cs : List Check) (is_distinct : DistinctSchema t) (sure : (s : Schema) → Sure setting s cs) where
  -- the check list passes with those marks open
  abbrev PassesWith : (ℕ → Bool) → Type 0
  PassesWith may = Passes (judge setting (opened may t) cs)

  -- where marks help that hold the ones open so far, the mark that refuses now is one of the others
  next-mark : (may : ℕ → Bool) (marks : List ℕ)
      → Among (is_in marks) may
      → PassesWith may
      → OpensOne (beyond (is_in marks) may) (judged_open setting t cs marks)
  unfolding judged_open judge
  next-mark may marks w p =
      judge-from-opens setting 0 cs
      (record { is_wider = opened-widens (is_in marks) may w t; is_distinct = opened-distinct may t is_distinct })
      (sure (opened (is_in marks) t))
      p

  -- Every set of marks that helps contains those that are found.

  after-least : (may : ℕ → Bool) (more : List ℕ → Option (List ℕ)) (marks found : List ℕ) (v : Verdict)
      → ((marks : List ℕ) → more marks ≡ some found → Among (is_in marks) may → Among (is_in found) may)
      → Among (is_in marks) may
      → OpensOne (beyond (is_in marks) may) v
      → after_round setting t cs more marks v ≡ some found
      → Among (is_in found) may
  unfolding after_round
  after-least may more marks found (all_pass n) h w o e = rw (← (some-injective marks found e)) w
  after-least may more marks found (fails_at n c why) h w o e =
      h (why.at ∷ marks)
      (found-if (leb why.at max_schema_entries && not (is_in marks why.at)) (more (why.at ∷ marks)) found e)
      (more-among why.at marks may (is-new may marks why.at o).0 w)

  pub rounds-least : (fuel : ℕ) (marks found : List ℕ) (may : ℕ → Bool)
      → rounds setting t cs fuel marks ≡ some found
      → Among (is_in marks) may
      → PassesWith may
      → Among (is_in found) may
  unfolding rounds
  rounds-least zero marks found may e w p = absurd (none-ne-some found e)
  rounds-least (suc k) marks found may e w p =
      after-least may (λ more. rounds setting t cs k more) marks found (judged_open setting t cs marks)
      (λ more h v. rounds-least k more found may h v p)
      w
      (next-mark may marks w p)
      e

  -- With the marks that are found open, the list passes.

  after-passes : (more : List ℕ → Option (List ℕ)) (marks found : List ℕ) (v : Verdict)
      → judged_open setting t cs marks ≡ v
      → ((marks : List ℕ) → more marks ≡ some found → PassesWith (is_in found))
      → after_round setting t cs more marks v ≡ some found
      → PassesWith (is_in found)
  unfolding after_round judged_open
  after-passes more marks found (all_pass n) same h e = rw (← (some-injective marks found e), same) tt
  after-passes more marks found (fails_at n c why) same h e =
      h (why.at ∷ marks)
      (found-if (leb why.at max_schema_entries && not (is_in marks why.at)) (more (why.at ∷ marks)) found e)

  pub rounds-pass : (fuel : ℕ) (marks found : List ℕ) → rounds setting t cs fuel marks ≡ some found → PassesWith (is_in found)
  unfolding rounds
  rounds-pass zero marks found e = absurd (none-ne-some found e)
  rounds-pass (suc k) marks found e =
      after-passes (λ more. rounds setting t cs k more) marks found (judged_open setting t cs marks) refl
      (λ more h. rounds-pass k more found h)
      e

  -- Where marks of entries help, one round more than there are such marks finds some.

  after-enough : (may : ℕ → Bool) (more : List ℕ → Option (List ℕ)) (marks : List ℕ) (v : Verdict)
      → ((e : ℕ) → may e ≡ true → e ≤ max_schema_entries)
      → ((e : ℕ) → may e ≡ true → beyond (is_in marks) may e ≡ true → more (e ∷ marks) ≡ none → ⊥)
      → OpensOne (beyond (is_in marks) may) v
      → after_round setting t cs more marks v ≡ none
      → ⊥
  unfolding after_round
  after-enough may more marks (all_pass n) small h o e = some-ne-none marks e
  after-enough may more marks (fails_at n c why) small h o e =
      let new = is-new may marks why.at o in
      h why.at new.0 o (rw (le-leb why.at max_schema_entries (small why.at new.0), new.1) at e)

  pub rounds-enough : (fuel : ℕ) (marks : List ℕ) (may : ℕ → Bool)
      → ((e : ℕ) → may e ≡ true → e ≤ max_schema_entries)
      → to_open may marks < fuel
      → Among (is_in marks) may
      → PassesWith may
      → rounds setting t cs fuel marks ≡ none
      → ⊥
  unfolding rounds
  rounds-enough zero marks may small enough w p e = omega arith
  rounds-enough (suc k) marks may small enough w p e =
      after-enough may (λ more. rounds setting t cs k more) marks (judged_open setting t cs marks) small
      (λ x m b h. rounds-enough k (x ∷ marks) may small (omega (arith, fewer-to-open may marks x (small x m) b)) (more-among x marks may m w) p h)
      (next-mark may marks w p)
      e
