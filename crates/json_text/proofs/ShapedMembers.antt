-- Members that are read one by one in a shape are the members read, and then shaped.
use Prim.Native.Nat.{ℕ, zero, suc}
use Rattle.std.specs.Prelude.{Bool, ◌≡◌, length}
use Rattle.std.proofs.Math.Bool.{true, false}
use mathlib.Core.List.{List, [], ◌∷◌}
use Rattle.std.proofs.Math.Option.{Option, none, some, bind, map}
use Rattle.std.proofs.Math.Path.{refl, ap}
use Rattle.std.proofs.Common.{sym, ◌∙◌}
use Rattle.text.specs.ByteReaders.{byte}
use Rattle.text.specs.Reader.{Reader, ◌>>=◌, ◌>>◌, and_then, pure, refuse, either, or_else}
use Rattle.json_text.specs.Json.{Text, Json, Elements, no_elements, element, Members, no_members, member}
use Rattle.json_text.specs.Strings as Strings
use Rattle.json_text.specs.Grammar.{unspaced, spaces, comma_or, members_after, elements_in, members_in, elements, members}
use Rattle.json_text.specs.BetweenAt.{key_of}
use Rattle.json_text.specs.Shaped.{shaped, all_of, many_after, many_in, shaped-elements}

-- a chain that begins as a name does
pub key-chain : (k : Text → Reader (List ℕ) Members) (x : List ℕ)
    → (byte 0x22 >> (Strings.string >>= λ key. spaces >> (byte 0x3A >> (spaces >> k key)))) x ≡ (key_of >>= k) x
unfolding key_of spaces ◌>>=◌ ◌>>◌ and_then pure
key-chain k x = go (byte 0x22 x)
  where
    colon : (key : Text) (o : Option (Unit {0} × List ℕ)) → and_then o (λ u s. k key (unspaced s)) ≡ and_then (and_then o (λ u s. some (key, unspaced s))) k
    colon key none = refl
    colon key (some r) = refl

    name : (o : Option (Text × List ℕ))
        → and_then o (λ key s. and_then (byte 0x3A (unspaced s)) (λ u s. k key (unspaced s)))
        ≡ and_then (and_then o (λ key s. and_then (byte 0x3A (unspaced s)) (λ u s. some (key, unspaced s)))) k
    name none = refl
    name (some r) = colon r.0 (byte 0x3A (unspaced r.1))

    go : (o : Option (Unit {0} × List ℕ))
        → and_then o (λ u s. and_then (Strings.string s) (λ key s. and_then (byte 0x3A (unspaced s)) (λ u s. k key (unspaced s))))
        ≡ and_then (and_then o (λ u s. and_then (Strings.string s) (λ key s. and_then (byte 0x3A (unspaced s)) (λ u s. some (key, unspaced s))))) k
    go none = refl
    go (some r) = name (Strings.string r.1)

-- what follows a member's name
abbrev pub after-key : Reader (List ℕ) Json → Text → ℕ → Reader (List ℕ) Members
after-key p key n = p >>= λ v. spaces >> (comma_or 0x7D >>= λ more. members_after (λ s. members_in p n s) more >>= λ others. pure (member key v others))

pub members-turn : (p : Reader (List ℕ) Json) (n : ℕ) (x : List ℕ) → members_in p (suc n) x ≡ (key_of >>= λ key. after-key p key n) (unspaced x)
unfolding members_in spaces ◌>>=◌ ◌>>◌ and_then
members-turn p n x = key-chain (λ key. after-key p key n) (unspaced x)

module _ {C : Type 0} where
  -- every member in the shape that its name asks for
  unfoldable pub all_members : (Text → Json → Option C) → Members → Option (List C)
  all_members g no_members = some []
  all_members g (member key v others) = bind (g key v) (λ c. map (λ (cs : List C). c ∷ cs) (all_members g others))

  -- members that are read in that shape
  unfoldable pub parts_in : (Text → Reader (List ℕ) C) → ℕ → Reader (List ℕ) (List C)
  parts_in q zero = refuse
  parts_in q (suc turns) = do
    spaces
    key ← key_of
    c ← q key
    spaces
    more ← comma_or 0x7D
    others ← many_after (λ s. parts_in q turns s) more
    pure (c ∷ others)

  module _ (g : Text → Json → Option C) where
    behind : (key : Text) (v : Json) (c : C) (o : Option (Members × List ℕ)) → g key v ≡ some c
        → and_then (shaped (all_members g) o) (λ cs. pure (c ∷ cs)) ≡ shaped (all_members g) (and_then o (λ others. pure (member key v others)))
    unfolding shaped and_then pure all_members bind
    behind key v c none e = refl
    behind key v c (some r) e = rw e (go (all_members g r.0))
      where
        go : (x : Option (List C))
            → and_then (map (λ b. (b, r.1)) x) (λ cs. pure (c ∷ cs)) ≡ map (λ b. (b, r.1)) (map (λ (cs : List C). c ∷ cs) x)
        go none = refl
        go (some cs) = refl

    refused : (key : Text) (v : Json) (o : Option (Members × List ℕ)) → g key v ≡ none → none ≡ shaped (all_members g) (and_then o (λ others. pure (member key v others)))
    unfolding shaped and_then pure all_members bind
    refused key v none e = refl
    refused key v (some r) e = rw e

    module _ (q : Text → Reader (List ℕ) C) (p : Reader (List ℕ) Json) (same : (key : Text) (s : List ℕ) → q key s ≡ shaped (g key) (p s)) where
      after : (n : ℕ) → ((s : List ℕ) → parts_in q n s ≡ shaped (all_members g) (members_in p n s)) → (more : Bool) (s : List ℕ)
          → many_after (λ t. parts_in q n t) more s ≡ shaped (all_members g) (members_after (λ t. members_in p n t) more s)
      unfolding many_after members_after shaped pure all_members
      after n ih false s = refl
      after n ih true s = ih s

      module _ (n : ℕ) (ih : (s : List ℕ) → parts_in q n s ≡ shaped (all_members g) (members_in p n s)) (key : Text) where
        tail-some : (v : Json) (c : C) (o : Option (Bool × List ℕ)) → g key v ≡ some c
            → and_then o (λ more. many_after (λ t. parts_in q n t) more >>= λ others. pure (c ∷ others))
            ≡ shaped (all_members g) (and_then o (λ more. members_after (λ t. members_in p n t) more >>= λ others. pure (member key v others)))
        unfolding shaped ◌>>=◌ and_then
        tail-some v c none e = refl
        tail-some v c (some r) e =
            ap (λ (x : Option (List C × List ℕ)). and_then x (λ others. pure (c ∷ others))) (after n ih r.0 r.1)
            ∙ behind key v c (members_after (λ t. members_in p n t) r.0 r.1) e

        tail_none : (v : Json) (o : Option (Bool × List ℕ)) → g key v ≡ none
            → none ≡ shaped (all_members g) (and_then o (λ more. members_after (λ t. members_in p n t) more >>= λ others. pure (member key v others)))
        unfolding shaped ◌>>=◌ and_then
        tail_none v none e = refl
        tail_none v (some r) e = refused key v (members_after (λ t. members_in p n t) r.0 r.1) e

        step : (o : Option (Json × List ℕ))
            → and_then (shaped (g key) o) (λ c. spaces >> (comma_or 0x7D >>= λ more. many_after (λ t. parts_in q n t) more >>= λ others. pure (c ∷ others)))
            ≡ shaped (all_members g) (and_then o (λ v. spaces >> (comma_or 0x7D >>= λ more. members_after (λ t. members_in p n t) more >>= λ others. pure (member key v others))))
        unfolding shaped spaces ◌>>◌ ◌>>=◌ and_then
        step none = refl
        step (some r) = go (g key r.0) refl
          where
            go : (x : Option C) → g key r.0 ≡ x
                → and_then (map (λ b. (b, r.1)) x) (λ c. spaces >> (comma_or 0x7D >>= λ more. many_after (λ t. parts_in q n t) more >>= λ others. pure (c ∷ others)))
                ≡ shaped (all_members g) (and_then (comma_or 0x7D (unspaced r.1)) (λ more. members_after (λ t. members_in p n t) more >>= λ others. pure (member key r.0 others)))
            go none e = tail_none r.0 (comma_or 0x7D (unspaced r.1)) e
            go (some c) e = tail-some r.0 c (comma_or 0x7D (unspaced r.1)) e

        value-step : (y : List ℕ)
            → and_then (q key y) (λ c. spaces >> (comma_or 0x7D >>= λ more. many_after (λ t. parts_in q n t) more >>= λ others. pure (c ∷ others)))
            ≡ shaped (all_members g) (after-key p key n y)
        unfolding ◌>>=◌
        value-step y =
            ap (λ (x : Option (C × List ℕ)). and_then x (λ c. spaces >> (comma_or 0x7D >>= λ more. many_after (λ t. parts_in q n t) more >>= λ others. pure (c ∷ others)))) (same key y)
            ∙ step (p y)

      key_step : (n : ℕ) → ((s : List ℕ) → parts_in q n s ≡ shaped (all_members g) (members_in p n s)) → (o : Option (Text × List ℕ))
          → and_then o (λ key. q key >>= λ c. spaces >> (comma_or 0x7D >>= λ more. many_after (λ t. parts_in q n t) more >>= λ others. pure (c ∷ others)))
          ≡ shaped (all_members g) (and_then o (λ key. after-key p key n))
      unfolding shaped ◌>>=◌ and_then
      key_step n ih none = refl
      key_step n ih (some r) = value-step n ih r.0 r.1

      pub shaped-members : (n : ℕ) (s : List ℕ) → parts_in q n s ≡ shaped (all_members g) (members_in p n s)
      unfolding parts_in members_in spaces shaped refuse ◌>>=◌ ◌>>◌ and_then
      shaped-members zero s = refl
      shaped-members (suc n) s =
          key_step n (λ t. shaped-members n t) (key_of (unspaced s)) ∙ ap (shaped (all_members g)) (sym (members-turn p n s))

  -- Behind an opening bracket

  unfoldable pub elements_as : Reader (List ℕ) C → Reader (List ℕ) (List C)
  elements_as q =
      either
      (do
        spaces
        byte 0x5D
        pure [])
      (λ s. many_in q (length s) s)

  unfoldable pub members_as : (Text → Reader (List ℕ) C) → Reader (List ℕ) (List C)
  members_as q =
      either
      (do
        spaces
        byte 0x7D
        pure [])
      (λ s. parts_in q (length s) s)

  pub elements-as : (f : Json → Option C) (q : Reader (List ℕ) C) (p : Reader (List ℕ) Json) → ((s : List ℕ) → q s ≡ shaped f (p s)) → (s : List ℕ)
      → elements_as q s ≡ shaped (all_of f) (elements p s)
  unfolding elements_as elements either or_else spaces shaped all_of ◌>>=◌ ◌>>◌ and_then pure
  elements-as f q p same s = go (byte 0x5D (unspaced s))
    where
      go : (o : Option (Unit {0} × List ℕ))
          → or_else (and_then o (λ u. pure [])) (many_in q (length s) s) ≡ shaped (all_of f) (or_else (and_then o (λ u. pure no_elements)) (elements_in p (length s) s))
      go none = shaped-elements f q p same (length s) s
      go (some r) = refl

  pub members-as : (g : Text → Json → Option C) (q : Text → Reader (List ℕ) C) (p : Reader (List ℕ) Json) → ((key : Text) (s : List ℕ) → q key s ≡ shaped (g key) (p s)) → (s : List ℕ)
      → members_as q s ≡ shaped (all_members g) (members p s)
  unfolding members_as members either or_else spaces shaped all_members ◌>>=◌ ◌>>◌ and_then pure
  members-as g q p same s = go (byte 0x7D (unspaced s))
    where
      go : (o : Option (Unit {0} × List ℕ))
          → or_else (and_then o (λ u. pure [])) (parts_in q (length s) s) ≡ shaped (all_members g) (or_else (and_then o (λ u. pure no_members)) (members_in p (length s) s))
      go none = shaped-members g q p same (length s) s
      go (some r) = refl
