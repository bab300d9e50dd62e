-- Depths, step by step.
use Prim.Native.Nat.{ℕ, ◌+◌, ◌-◌, ◌≤◌, ◌<◌, min, max}
use native.Mathlib.Omega.{arith}
use mathlib.Core.List.{List}
use mathlib.Core.Path.{◌≡◌, refl, sym, ap, ◌∙◌}
use Rattle.definition.specs.Tree.{Condition, literal, many, negation, one, two, comparison, quantifier, Conditions, no_conditions, condition}
use Rattle.rule.specs.Index.{start_of}
use Rattle.validation.specs.Check.{depth, depth_of_conditions}
use Rattle.rule.specs.Kinds.{OperatorAt}
use Rattle.rule.specs.Nodes.{AreConditions, Behind, children_of, ChildrenFrom}
use Rattle.condition_checks.specs.Depth.{DepthIs, DepthsAre}
use Rattle.rule.proofs.NodeSteps.{children-stand, tail_of, first-stands, tail-stands, none_left, none-ends}

depth-children : (c : Condition) → depth c ≡ 1 + depth_of_conditions (children_of c)
unfolding depth depth_of_conditions children_of
depth-children (literal e truth) = refl
depth-children (many e op children) = refl
depth-children (negation e child) = omega arith
depth-children (one e op v) = refl
depth-children (two e op left right) = refl
depth-children (comparison e which left right) = refl
depth-children (quantifier e op bind over body) = omega arith

module _ {rule words : List ℕ} {i end left : ℕ} where
  pub depth-zero : left ≡ 0 → DepthIs rule words i end left 0
  depth-zero z = record { most = omega arith; exact = λ c w. omega arith }

  pub depth-step : {at op from d : ℕ}
      → (left ≡ 0 → ⊥)
      → at ≡ start_of words i
      → OperatorAt rule at op
      → ChildrenFrom words op i end from
      → DepthsAre rule words from end (left - 1) d
      → DepthIs rule words i end left (1 + d)
  depth-step {at} {op} {from} {d} some_left start kind k p =
      record {
        most = omega (arith, p.most);
        exact =
            λ c w.
            let e : d ≡ min (left - 1) (depth_of_conditions (children_of c)) = p.exact (children_of c) (children-stand start kind k c w) in
            let f : depth c ≡ 1 + depth_of_conditions (children_of c) = depth-children c in
            omega arith;
      }

min-of-max : (left x y : ℕ) → min left (max x y) ≡ max (min left x) (min left y)
min-of-max left x y = omega arith

max-of-max : (x y z : ℕ) → max x (max y z) ≡ max (max x y) z
max-of-max x y z = omega arith

-- what is left of the conditions at word `i`, with the greatest depth of those before
pub record DepthsLeft (rule words : List ℕ) (start i end left most : ℕ) : Type 0 where
  pub rest : (cs : Conditions) → AreConditions rule words start end cs → Conditions
  pub stand : (cs : Conditions) (w : AreConditions rule words start end cs) → AreConditions rule words i end (rest cs w)
  pub same : (cs : Conditions) (w : AreConditions rule words start end cs)
      → min left (depth_of_conditions cs) ≡ max most (min left (depth_of_conditions (rest cs w)))

module _ {rule words : List ℕ} {end left : ℕ} where
  pub depths-begin : {start : ℕ} → DepthsLeft rule words start start end left 0
  depths-begin = record { rest = λ cs w. cs; stand = λ cs w. w; same = λ cs w. omega arith }

  next-same : (most : ℕ) {i next d : ℕ} → i < end → Behind words i end next → DepthIs rule words i next left d → (cs : Conditions) → AreConditions rule words i end cs
      → max most (min left (depth_of_conditions cs)) ≡ max (max most d) (min left (depth_of_conditions (tail_of cs)))
  unfolding tail_of depth_of_conditions
  next-same most h b p no_conditions w = absurd (omega (arith, none-ends w))
  next-same most {i} {next} {d} h b p (condition c others) w =
      let e : d ≡ min left (depth c) = p.exact c (first-stands h b w) in
      ap (λ (x : ℕ). max most x) (min-of-max left (depth c) (depth_of_conditions others))
      ∙ ap (λ (x : ℕ). max most (max x (min left (depth_of_conditions others)))) (sym e)
      ∙ max-of-max most d (min left (depth_of_conditions others))

  pub depths-next : {start i next most d : ℕ}
      → DepthsLeft rule words start i end left most
      → i < end
      → Behind words i end next
      → DepthIs rule words i next left d
      → DepthsLeft rule words start next end left (max most d)
  depths-next {start} {i} {next} {most} {d} l h b p =
      record {
        rest = λ cs w. tail_of (l.rest cs w);
        stand = λ cs w. tail-stands h b (l.rest cs w) (l.stand cs w);
        same = λ cs w. l.same cs w ∙ next-same most h b p (l.rest cs w) (l.stand cs w);
      }

  pub depths-all : {start i most : ℕ} → DepthsLeft rule words start i end left most → end ≤ i → most ≤ left → DepthsAre rule words start end left most
  unfolding depth_of_conditions
  depths-all {start} {i} {most} l h m =
      record {
        most = m;
        exact =
            λ cs w.
            let f : l.rest cs w ≡ no_conditions = none_left (l.rest cs w) h (l.stand cs w) in
            let g : min left (depth_of_conditions cs) ≡ max most (min left (depth_of_conditions (l.rest cs w))) = l.same cs w in
            let k : min left (depth_of_conditions cs) ≡ max most (min left 0) = rw f at g in
            omega arith;
      }
