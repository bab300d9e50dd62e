-- A reader of JSON, and then a shape: what is asked of a value may be asked of its parts while they are read.
use Prim.Native.Nat.{ℕ, zero, suc}
use Rattle.std.specs.Prelude.{Bool, ◌≡◌}
use Rattle.std.proofs.Math.Bool.{true, false}
use mathlib.Core.List.{List, [], ◌∷◌}
use Rattle.std.proofs.Math.Option.{Option, none, some, bind, map}
use Rattle.std.proofs.Math.Path.{refl, ap}
use Rattle.std.proofs.Common.{sym, ◌∙◌}
use Rattle.text.specs.Reader.{Reader, ◌>>=◌, ◌>>◌, and_then, pure, refuse}
use Rattle.json_text.specs.Json.{Json, Elements, no_elements, element}
use Rattle.json_text.specs.Grammar.{unspaced, spaces, comma_or, elements_after, elements_in}

-- what was read, in the shape that is asked for
unfoldable pub shaped : {A B : Type 0} → (A → Option B) → Option (A × List ℕ) → Option (B × List ℕ)
shaped f none = none
shaped f (some r) = map (λ b. (b, r.1)) (f r.0)

module _ {C : Type 0} where
  -- every element in that shape
  unfoldable pub all_of : (Json → Option C) → Elements → Option (List C)
  all_of f no_elements = some []
  all_of f (element v others) = bind (f v) (λ c. map (λ (cs : List C). c ∷ cs) (all_of f others))

  -- elements that are read in that shape
  unfoldable pub many_after : Reader (List ℕ) (List C) → Bool → Reader (List ℕ) (List C)
  many_after p false = pure []
  many_after p true = p

  unfoldable pub many_in : Reader (List ℕ) C → ℕ → Reader (List ℕ) (List C)
  many_in p zero = refuse
  many_in p (suc turns) = do
    spaces
    c ← p
    spaces
    more ← comma_or 0x5D
    others ← many_after (λ s. many_in p turns s) more
    pure (c ∷ others)

  module _ (f : Json → Option C) where
    behind : (v : Json) (c : C) (o : Option (Elements × List ℕ)) → f v ≡ some c
        → and_then (shaped (all_of f) o) (λ cs. pure (c ∷ cs)) ≡ shaped (all_of f) (and_then o (λ others. pure (element v others)))
    unfolding shaped and_then pure all_of bind
    behind v c none e = refl
    behind v c (some r) e = rw e (go (all_of f r.0))
      where
        go : (x : Option (List C))
            → and_then (map (λ b. (b, r.1)) x) (λ cs. pure (c ∷ cs)) ≡ map (λ b. (b, r.1)) (map (λ (cs : List C). c ∷ cs) x)
        go none = refl
        go (some cs) = refl

    refused : (v : Json) (o : Option (Elements × List ℕ)) → f v ≡ none → none ≡ shaped (all_of f) (and_then o (λ others. pure (element v others)))
    unfolding shaped and_then pure all_of bind
    refused v none e = refl
    refused v (some r) e = rw e

    module _ (p : Reader (List ℕ) C) (q : Reader (List ℕ) Json) (same : (s : List ℕ) → p s ≡ shaped f (q s)) where
      after : (n : ℕ) → ((s : List ℕ) → many_in p n s ≡ shaped (all_of f) (elements_in q n s)) → (more : Bool) (s : List ℕ)
          → many_after (λ t. many_in p n t) more s ≡ shaped (all_of f) (elements_after (λ t. elements_in q n t) more s)
      unfolding many_after elements_after shaped pure all_of
      after n ih false s = refl
      after n ih true s = ih s

      -- what follows an element, by where it goes on
      module _ (n : ℕ) (ih : (s : List ℕ) → many_in p n s ≡ shaped (all_of f) (elements_in q n s)) (v : Json) where
        tail-some : (c : C) (o : Option (Bool × List ℕ)) → f v ≡ some c
            → and_then o (λ more. many_after (λ t. many_in p n t) more >>= λ others. pure (c ∷ others))
            ≡ shaped (all_of f) (and_then o (λ more. elements_after (λ t. elements_in q n t) more >>= λ others. pure (element v others)))
        unfolding shaped ◌>>=◌ and_then
        tail-some c none e = refl
        tail-some c (some r) e =
            ap (λ (x : Option (List C × List ℕ)). and_then x (λ others. pure (c ∷ others))) (after n ih r.0 r.1)
            ∙ behind v c (elements_after (λ t. elements_in q n t) r.0 r.1) e

        tail_none : (o : Option (Bool × List ℕ)) → f v ≡ none
            → none ≡ shaped (all_of f) (and_then o (λ more. elements_after (λ t. elements_in q n t) more >>= λ others. pure (element v others)))
        unfolding shaped ◌>>=◌ and_then
        tail_none none e = refl
        tail_none (some r) e = refused v (elements_after (λ t. elements_in q n t) r.0 r.1) e

      step : (n : ℕ) → ((s : List ℕ) → many_in p n s ≡ shaped (all_of f) (elements_in q n s)) → (o : Option (Json × List ℕ))
          → and_then (shaped f o) (λ c. spaces >> (comma_or 0x5D >>= λ more. many_after (λ t. many_in p n t) more >>= λ others. pure (c ∷ others)))
          ≡ shaped (all_of f) (and_then o (λ v. spaces >> (comma_or 0x5D >>= λ more. elements_after (λ t. elements_in q n t) more >>= λ others. pure (element v others))))
      unfolding shaped spaces ◌>>◌ ◌>>=◌ and_then
      step n ih none = refl
      step n ih (some r) = go (f r.0) refl
        where
          go : (x : Option C) → f r.0 ≡ x
              → and_then (map (λ b. (b, r.1)) x) (λ c. spaces >> (comma_or 0x5D >>= λ more. many_after (λ t. many_in p n t) more >>= λ others. pure (c ∷ others)))
              ≡ shaped (all_of f) (and_then (comma_or 0x5D (unspaced r.1)) (λ more. elements_after (λ t. elements_in q n t) more >>= λ others. pure (element r.0 others)))
          go none e = tail_none n ih r.0 (comma_or 0x5D (unspaced r.1)) e
          go (some c) e = tail-some n ih r.0 c (comma_or 0x5D (unspaced r.1)) e

      -- elements read one by one in a shape are the elements read, and then shaped
      pub shaped-elements : (n : ℕ) (s : List ℕ) → many_in p n s ≡ shaped (all_of f) (elements_in q n s)
      unfolding many_in elements_in spaces shaped refuse ◌>>=◌ ◌>>◌ and_then
      shaped-elements zero s = refl
      shaped-elements (suc n) s =
          ap (λ (x : Option (C × List ℕ)). and_then x (λ c. spaces >> (comma_or 0x5D >>= λ more. many_after (λ t. many_in p n t) more >>= λ others. pure (c ∷ others)))) (same (unspaced s))
          ∙ step n (λ t. shaped-elements n t) (q (unspaced s))
