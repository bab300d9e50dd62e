-- Siblings, read one by one: what has been read is right for the whole if what is left is.
use Prim.Native.Nat.{ℕ, suc, ◌+◌, ◌-◌, ◌≤◌, ◌<◌}
use mathlib.Core.List.{List}
use mathlib.Core.Option.{Option, none, some}
use mathlib.Core.Path.{◌≡◌, refl, ap, ◌∙◌}
use native.Mathlib.Omega.{arith}
use Rattle.text.specs.Reader.{pure, and_then, ◌>>=◌}
use Rattle.definition.specs.Limits.{max_rule_entries}
use Rattle.definition.specs.Decode.{Ahead}
use Rattle.definition.proofs.SiblingLaws.{Siblings}
use Rattle.rule.specs.declared.cursor.Cursor.{Cursor}
use Rattle.rule.specs.IndexLaws.{Agree, agree-within, agree_then, agree_same}
use Rattle.rule.specs.Read.{ahead_of, Kept, Ready, Indexed}
use Rattle.rule.proofs.KeptLaws.{kept-all, kept_then, agree-below}

-- A kind of siblings, with the index of each and of all. What is carried along goes from each to the next; `ending` is what is carried after the last.
pub record Indexing (K E T : Type 0) : Type 1 where
  pub kind : Siblings E T
  pub told : K → E → K
  pub ending : K → T → K
  pub ItemAt : List ℕ → ℕ → E → Type 0
  pub AllAt : List ℕ → ℕ → T → Type 0
  pub none-ending : (k : K) → ending k kind.none_of ≡ k
  pub cons-ending : (k : K) (e : E) (t : T) → ending k (kind.cons e t) ≡ ending (told k e) t
  pub none-at : (words : List ℕ) (i : ℕ) → AllAt words i kind.none_of
  pub cons-at : (words : List ℕ) (i : ℕ) (e : E) (t : T) → ItemAt words i e → AllAt words (i + kind.item_size e) t → AllAt words i (kind.cons e t)
  pub item-frame : (words later : List ℕ) (i : ℕ) (e : E) → ItemAt words i e → Agree words later i (i + kind.item_size e) → ItemAt later i e

-- `count` siblings, of `cost` entries, were announced at `c`; `n` of them, of `paid` entries, lie ahead of `here`
pub record Passing {K E T : Type 0} (S : Indexing K E T) (s before words : List ℕ) (first k : K) (count cost n paid : ℕ) (c here : Cursor) : Type 0 where
  pub done : T → T
  pub onward : S.kind.all count (ahead_of s c) ≡ and_then (S.kind.all n (ahead_of s here)) (λ t. pure (done t))
  pub carried : (t : T) → S.ending first (done t) ≡ S.ending k t
  pub indexed : (later : List ℕ) (t : T) → Agree words later c.word here.word → S.AllAt later here.word t → S.AllAt later c.word (done t)
  pub size : (t : T) → c.word + S.kind.all_size (done t) ≡ here.word + S.kind.all_size t
  pub kept : Kept before words c.word here.word
  pub rises : c.word ≤ here.word
  pub ready : Ready s words paid here
  pub budget : here.word + paid + here.left ≡ c.word + cost + c.left

then-pure : {T : Type 0} (o : Option (T × Ahead)) → o ≡ and_then o (λ t. pure t)
unfolding and_then pure
then-pure none = refl
then-pure (some r) = refl

then-twice : {T : Type 0} (f g : T → T) (o : Option (T × Ahead))
    → and_then (and_then o (λ t. pure (g t))) (λ t. pure (f t)) ≡ and_then o (λ t. pure (f (g t)))
unfolding and_then pure
then-twice f g none = refl
then-twice f g (some r) = refl

pub siblings-begin : {K E T : Type 0} (S : Indexing K E T) {s words : List ℕ} (k : K) (count : ℕ) {cost : ℕ} {c : Cursor}
    → Ready s words cost c
    → Passing S s words words k k count cost count cost c c
siblings-begin S {s} k count {c} ready =
    record {
      done = λ t. t;
      onward = then-pure (S.kind.all count (ahead_of s c));
      carried = λ t. refl;
      indexed = λ later t agree at. at;
      size = λ t. refl;
      kept = kept-all;
      rises = omega arith;
      ready = ready;
      budget = refl;
    }

module _ {K E T : Type 0} {S : Indexing K E T} {s before words : List ℕ} {first k : K} {count cost n paid : ℕ} {c here : Cursor} (passing : Passing S s before words first k count cost n paid c here) where
  item-then : (o : Option (E × Ahead))
      → 0 < n
      → S.kind.item (ahead_of s here) ≡ o
      → S.kind.all n (ahead_of s here) ≡ and_then o (λ e. S.kind.all (n - 1) >>= λ t. pure (S.kind.cons e t))
  unfolding ◌>>=◌
  item-then o h e =
      let one_more : n ≡ suc (n - 1) = omega arith in
      ap (λ (n : ℕ). S.kind.all n (ahead_of s here)) one_more
      ∙ S.kind.all-suc (n - 1) (ahead_of s here)
      ∙ ap (λ o. and_then o (λ e. S.kind.all (n - 1) >>= λ t. pure (S.kind.cons e t))) e

  pub siblings-bad : {later : List ℕ}
      → 0 < n
      → (S.kind.item (ahead_of s here) ≡ none) × Kept words later here.word max_rule_entries
      → (S.kind.all count (ahead_of s c) ≡ none) × Kept before later c.word max_rule_entries
  unfolding and_then
  siblings-bad h bad =
      (passing.onward ∙ ap (λ o. and_then o (λ t. pure (passing.done t))) (item-then none h bad.0), kept_then passing.kept bad.1 (omega arith) passing.rises (omega (arith, passing.ready.budget)) (omega arith))

  pub siblings-next : (rest : ℕ) {later : List ℕ} {spent : ℕ} {next : Cursor}
      → 0 < n
      → spent + rest ≡ paid
      → (item : Indexed S.kind.item S.ItemAt S.kind.item_size s words later spent here next)
      → Passing S s before later first (S.told k item.tree) count cost (n - 1) rest c next
  unfolding and_then ◌>>=◌ pure
  siblings-next rest {later} {next} h e item =
      let v = item.tree in
      let step : S.kind.all n (ahead_of s here) ≡ and_then (S.kind.all (n - 1) (ahead_of s next)) (λ t. pure (S.kind.cons v t)) = item-then (some (v, ahead_of s next)) h item.reads in
      let rises : here.word ≤ next.word = omega (arith, item.size) in
      record {
        done = λ t. passing.done (S.kind.cons v t);
        onward = passing.onward ∙ ap (λ o. and_then o (λ t. pure (passing.done t))) step ∙ then-twice passing.done (S.kind.cons v) (S.kind.all (n - 1) (ahead_of s next));
        carried = λ t. passing.carried (S.kind.cons v t) ∙ S.cons-ending k v t;
        indexed =
            λ last t agree at.
            passing.indexed last (S.kind.cons v t)
            (agree_then (agree-below item.kept (omega arith)) (agree-within agree (omega arith) (omega arith)))
            (S.cons-at last here.word v t
            (S.item-frame later last here.word v item.indexed (agree-within agree (omega arith) (omega (arith, item.size))))
            (rw item.size at at));
        size = λ t. passing.size (S.kind.cons v t) ∙ omega (arith, S.kind.cons-size v t, item.size);
        kept = kept_then passing.kept item.kept (omega arith) (omega arith) (omega arith) (omega arith);
        rises = omega arith;
        ready = record { small = passing.ready.small; room = omega (arith, item.kept.len); inside = item.inside; budget = omega arith };
        budget = omega arith;
      }

  -- all have been read, and what is carried after the last is the current state
  pub siblings-ended : n ≡ 0 → paid ≡ 0
      → (i : Indexed (S.kind.all count) S.AllAt S.kind.all_size s before words cost c here) × (S.ending first i.tree ≡ k)
  unfolding and_then pure
  siblings-ended f e = (
    record {
      tree = passing.done S.kind.none_of;
      reads = passing.onward ∙ ap (λ (n : ℕ). and_then (S.kind.all n (ahead_of s here)) (λ t. pure (passing.done t))) f ∙ ap (λ o. and_then o (λ t. pure (passing.done t))) (S.kind.all-zero (ahead_of s here));
      indexed = passing.indexed words S.kind.none_of agree_same (S.none-at words here.word);
      size = omega (arith, passing.size S.kind.none_of, S.kind.none-size);
      kept = passing.kept;
      inside = passing.ready.inside;
      budget = omega arith;
    },
    passing.carried S.kind.none_of ∙ S.none-ending k,
  )

  pub siblings-end : n ≡ 0 → paid ≡ 0 → Indexed (S.kind.all count) S.AllAt S.kind.all_size s before words cost c here
  siblings-end f e = (siblings-ended f e).0
