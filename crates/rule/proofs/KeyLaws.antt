-- The order of an object's keys, by the comparison of two of them: keys that rise differ.
use Rattle.std.specs.Prelude.{Option as Optional, Some}
use Prim.Native.Nat.{ℕ}
use mathlib.Core.Bool.{Bool, true, false, ◌&&◌, false≢true}
use mathlib.Core.List.{List}
use mathlib.Core.Option.{Option, none, some}
use mathlib.Core.Path.{◌≡◌, refl, sym, ◌∙◌, subst}
use Rattle.text.specs.Order.{precedes, follows, is_among, none_twice}
use Rattle.text.specs.OrderLaws.{precedes-transitive, precedes-differs}
use Rattle.text.specs.CaseLaws.{by-test}
use Rattle.text.specs.Parts.{part_of, optional_of}
use Rattle.text.specs.Compares.{Stand}
use Rattle.text.specs.declared.part.Part.{Part}
use Rattle.definition.specs.Tree.{Text, Value, Pairs, no_pairs, pair}
use Rattle.definition.specs.Decode.{keys_of}

pub key-follows : (s : List ℕ) (key : Part) {previous : Optional Part} {p : Part} {a b : List ℕ} {less same greater : Bool}
    → previous ≡ Some p
    → a ≡ part_of s p
    → b ≡ part_of s key
    → Stand a b less same greater
    → less ≡ follows (optional_of s previous) (part_of s key)
unfolding follows optional_of
key-follows s key e f g stand = rw (e, ← f, ← g) (sym stand.before-is)

-- whether the keys rise up to the one before, and that one
abbrev pub Risen : Type 0
Risen = Bool × Option Text

unfoldable pub risen_by : Risen → Text → Risen
risen_by k key = (k.0 && follows k.1 key, some key)

unfoldable pub risen : Risen → Pairs → Risen
risen k no_pairs = k
risen k (pair key v others) = risen (risen_by k key) others

pub risen-none : (k : Risen) → risen k no_pairs ≡ k
unfolding risen
risen-none k = refl

pub risen-pair : (k : Risen) (key : Text) (v : Value) (others : Pairs) → risen k (pair key v others) ≡ risen (risen_by k key) others
unfolding risen
risen-pair k key v others = refl

fallen : (before : Option Text) (ps : Pairs) → (risen (false, before) ps).0 ≡ false
unfolding risen risen_by
fallen before no_pairs = refl
fallen before (pair key v others) = fallen (some key) others

-- each key comes after the given one
abbrev AllAbove : Text → Pairs → Type 0
AllAbove key no_pairs = Unit {0}
AllAbove key (pair k v others) = (precedes key k ≡ true) × AllAbove key others

above_earlier : (first key : Text) (ps : Pairs) → precedes first key ≡ true → AllAbove key ps → AllAbove first ps
above_earlier first key no_pairs e above = tt
above_earlier first key (pair k v others) e above = (precedes-transitive first key k e above.0, above_earlier first key others e above.1)

above-differs : (key : Text) (ps : Pairs) → AllAbove key ps → is_among key (keys_of ps) ≡ false
unfolding is_among keys_of
above-differs key no_pairs above = refl
above-differs key (pair k v others) above = rw (precedes-differs key k above.0) (above-differs key others above.1)

rising : (before : Text) (ps : Pairs) → (risen (true, some before) ps).0 ≡ true → AllAbove before ps × (none_twice (keys_of ps) ≡ true)
unfolding risen risen_by follows none_twice keys_of
rising before no_pairs e = (tt, refl)
rising before (pair key v others) e =
    let up : (t : Bool) → precedes before key ≡ t → (risen (t, some key) others).0 ≡ true = λ t q. subst (λ (t : Bool). (risen (t, some key) others).0 ≡ true) q e in
    by-test (precedes before key)
    (λ q.
    let more = rising key others (up true q) in
    ((q, above_earlier before key others q more.0), rw (above-differs key others more.0) more.1))
    (λ q. absurd (false≢true (sym (fallen (some key) others) ∙ up false q)))

pub risen-differ : (ps : Pairs) → (risen (true, none) ps).0 ≡ true → none_twice (keys_of ps) ≡ true
unfolding risen risen_by follows none_twice keys_of
risen-differ no_pairs e = refl
risen-differ (pair key v others) e =
    let more = rising key others e in
    rw (above-differs key others more.0) more.1
