-- The condition that holds a word: each way through `child_at`, as a law.
use Prim.Native.Nat.{ℕ, ◌+◌, ◌≤◌, ◌<◌, max}
use native.Mathlib.Omega.{arith}
use mathlib.Core.List.{List}
use mathlib.Core.Path.{◌≡◌, refl, ap, ◌∙◌}
use lib.Dec.{ltb}
use borrow.Author.Tests.{lt-ltb, le-ltb}
use Rattle.definition.specs.Tree.{Condition, Conditions, no_conditions, condition}
use Rattle.definition.specs.Within.{condition_entries, conditions_entries}
use Rattle.validation.specs.Check.{Binder, depth, depth_of_conditions}
use Rattle.rule.specs.Nodes.{IsCondition, AreConditions, Behind}
use Rattle.rule.proofs.NodeSteps.{tail_of, first-stands, tail-stands}
use Rattle.message.specs.Standing.{standing, standing_in}
use Rattle.defect_walk.specs.declared.standing.Child.{Child}
use Rattle.defect_walk.specs.Scoped.{ChildOf, ChildIs}

-- the conditions from `word` on, in which word `target` is
pub record Rest (rule words : List ℕ) (start end target word : ℕ) (cs : Conditions) : Type 0 where
  pub left : Conditions
  pub stand : AreConditions rule words word end left
  pub same : (bs : List Binder) → standing_in (target + 1) (start + 1) bs cs ≡ standing_in (target + 1) (word + 1) bs left
  pub deep : depth_of_conditions left ≤ depth_of_conditions cs

pub record Searching (words : List ℕ) (start end target word next : ℕ) : Type 0 where
  pub least : start ≤ word
  pub inside : word < end
  pub behind : Behind words word end next
  pub leads : (rule : List ℕ) (cs : Conditions) → AreConditions rule words start end cs → Rest rule words start end target word cs

pub searching-start : {words : List ℕ} {start end target word next : ℕ} → start < end → word ≡ start → Behind words word end next → Searching words start end target word next
searching-start {words} {start} {end} {target} {word} {next} l e b =
    record {
      least = omega arith;
      inside = omega arith;
      behind = b;
      leads = λ rule cs w. rw e (record { left = cs; stand = w; same = λ bs. refl; deep = omega arith });
    }

none-there : {rule words : List ℕ} {word end : ℕ} → AreConditions rule words word end no_conditions → word < end → ⊥
unfolding conditions_entries
none-there w l = omega (arith, w.ends)

-- the first of several ends before the word, or holds it
passed_first : (target word next : ℕ) (bs : List Binder) (c : Condition) (others : Conditions)
    → next ≡ word + condition_entries c
    → next ≤ target
    → standing_in (target + 1) (word + 1) bs (condition c others) ≡ standing_in (target + 1) (next + 1) bs others
unfolding standing
passed_first target word next bs c others e l =
    let same : word + 1 + condition_entries c ≡ next + 1 = omega arith in
    rw (le-ltb (target + 1) (word + 1 + condition_entries c) (omega arith))
    (ap (λ (n : ℕ). standing_in (target + 1) n bs others) same)

held_first : (target word next : ℕ) (bs : List Binder) (c : Condition) (others : Conditions)
    → next ≡ word + condition_entries c
    → target < next
    → standing_in (target + 1) (word + 1) bs (condition c others) ≡ standing (target + 1) (word + 1) bs c
unfolding standing
held_first target word next bs c others e l = rw (lt-ltb (target + 1) (word + 1 + condition_entries c) (omega arith))

module _ {rule words : List ℕ} {start end target word next : ℕ} (k : Searching words start end target word next) (cs : Conditions) where
  rest_more : next ≤ target → (left : Conditions)
      → AreConditions rule words word end left
      → ((bs : List Binder) → standing_in (target + 1) (start + 1) bs cs ≡ standing_in (target + 1) (word + 1) bs left)
      → depth_of_conditions left ≤ depth_of_conditions cs
      → Rest rule words start end target next cs
  unfolding depth_of_conditions tail_of
  rest_more l no_conditions w same deep = absurd (none-there w k.inside)
  rest_more l (condition c others) w same deep =
      let first = first-stands k.inside k.behind w in
      record {
        left = others;
        stand = tail-stands k.inside k.behind (condition c others) w;
        same = λ bs. same bs ∙ passed_first target word next bs c others first.ends l;
        deep = omega arith;
      }

  child-of : (r : Child) → r.word ≡ word → r.end ≡ next → target < next → (left : Conditions)
      → AreConditions rule words word end left
      → ((bs : List Binder) → standing_in (target + 1) (start + 1) bs cs ≡ standing_in (target + 1) (word + 1) bs left)
      → depth_of_conditions left ≤ depth_of_conditions cs
      → ChildOf rule words start end target r cs
  unfolding depth_of_conditions
  child-of r e f l no_conditions w same deep = absurd (none-there w k.inside)
  child-of r e f l (condition c others) w same deep =
      let first = first-stands k.inside k.behind w in
      record {
        c = c;
        stands = rw (e, f) first;
        same = λ bs. rw e (same bs ∙ held_first target word next bs c others first.ends l);
        deep = omega arith;
      }

module _ {words : List ℕ} {start end target word next : ℕ} (k : Searching words start end target word next) where
  pub searching-more : {further : ℕ} → next ≤ target → target < end → Behind words next end further → Searching words start end target next further
  searching-more {further} l m b =
      let past = k.behind.past k.inside in
      let least = k.least in
      record {
        least = omega arith;
        inside = omega arith;
        behind = b;
        leads = λ rule cs w. let x = k.leads rule cs w in rest_more k cs l x.left x.stand x.same x.deep;
      }

  pub searching-end : {r : Child} → r.word ≡ word → r.end ≡ next → target < next → ChildIs words start end target r
  searching-end {r} e f l =
      let past = k.behind.past k.inside in
      let least = k.least in
      let most = k.behind.most in
      record {
        least = omega arith;
        inside = omega arith;
        most = omega arith;
        holds = omega arith;
        is = λ rule cs w. let x = k.leads rule cs w in child-of k cs r e f l x.left x.stand x.same x.deep;
      }
