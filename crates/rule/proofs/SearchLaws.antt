-- The search for a key that occurs twice, a step at a time.
use Prim.Native.Nat.{ℕ, ◌+◌, ◌-◌, ◌<◌}
use mathlib.Core.Bool.{Bool, true, false, false≢true}
use mathlib.Core.List.{List, ◌++◌}
use mathlib.Core.Option.{none, some, none-ne-some}
use mathlib.Core.Path.{◌≡◌, refl, sym, ap, ◌∙◌, subst}
use native.Mathlib.Omega.{arith}
use lib.ListN.{length, take, drop, take-append-drop, length-append, length-drop}
use lib.Seq.{take-append_seam}
use Rattle.text.specs.Order.{same_bytes, is_among, none_twice}
use Rattle.text.specs.OrderLaws.{same_bytes-equal, equal-same_bytes}
use Rattle.text.specs.CaseLaws.{by-test}
use Rattle.text.specs.ReadAt.{ReadsTo}
use Rattle.text.specs.Parts.{part_of}
use Rattle.text.specs.declared.part.Part.{Part}
use Rattle.sheet.specs.Entries.{key_head}
use Rattle.sheet.proofs.ItemLaws.{anything}
use Rattle.sheet.proofs.RuleHeadLaws.{key_head-exact}
use Rattle.sheet.specs.Write.{write_key_head}
use Rattle.definition.specs.Tree.{Text, Value, Pairs, no_pairs, pair}
use Rattle.definition.specs.Decode.{keys_of}
use Rattle.definition.specs.Write.{count_of_pairs}
use Rattle.rule.specs.Index.{start_of, end_of, PairsAt}
use Rattle.rule.specs.Keys.{StandsAmong, NoneTwice}
use Rattle.rule.proofs.ReaderLaws.{some-both}

-- Entries with the same bytes have the same key, and the other way round.
module _ (s : List ℕ) (entry : Part) (at : ℕ) {key other : Text} {rest : List ℕ}
    (here : ReadsTo key_head s entry.start key (entry.start + entry.len))
    (there : key_head (drop at s) ≡ some (other, rest))
  where
    written-here : drop entry.start s ≡ write_key_head key ++ drop (entry.start + entry.len) s
    written-here = (key_head-exact.sound (drop entry.start s) key (drop (entry.start + entry.len) s) here.reads).0

    long : length (write_key_head key) ≡ entry.len
    long =
        let whole = ap length written-here ∙ length-append (write_key_head key) (drop (entry.start + entry.len) s) in
        omega (arith, here.within, whole, length-drop entry.start s, length-drop (entry.start + entry.len) s)

    begins : (l behind : List ℕ) (k : Text) → key ≡ k → l ≡ write_key_head k ++ behind → take entry.len l ≡ write_key_head key
    begins l behind k e f = rw (f, ← e, ← long) (take-append_seam (write_key_head key) behind)

    entry_here : take entry.len (drop entry.start s) ≡ write_key_head key
    entry_here = begins (drop entry.start s) (drop (entry.start + entry.len) s) key refl written-here

    same_key : take entry.len (drop at s) ≡ write_key_head key → key ≡ other
    unfolding anything
    same_key e =
        let fits = (key_head-exact.sound (drop entry.start s) key (drop (entry.start + entry.len) s) here.reads).1 in
        let behind = drop entry.len (drop at s) in
        let whole : drop at s ≡ write_key_head key ++ behind = sym (take-append-drop entry.len (drop at s)) ∙ ap (λ (l : List ℕ). l ++ behind) e in
        (some-both (sym (key_head-exact.complete key behind fits refl) ∙ ap key_head (sym whole) ∙ there)).0

    pub same-entry : same_bytes (part_of s entry) (part_of s (record { start = at; len = entry.len })) ≡ same_bytes key other
    unfolding part_of
    same-entry =
        let a = take entry.len (drop entry.start s) in
        let b = take entry.len (drop at s) in
        by-test (same_bytes key other)
        (λ q.
        let written-there = (key_head-exact.sound (drop at s) other rest there).0 in
        equal-same_bytes a b (entry_here ∙ sym (begins (drop at s) rest other (same_bytes-equal key other q) written-there)) ∙ sym q)
        (λ q.
        by-test (same_bytes a b)
        (λ t. absurd (false≢true (sym q ∙ equal-same_bytes key other (same_key (sym (same_bytes-equal a b t) ∙ entry_here)))))
        (λ t. t ∙ sym q))

-- Whether a key is one of those whose words begin at `i`: none is left, this one is it, or one further on.
module _ (s words : List ℕ) (entry : Part) (i n : ℕ) where
  pub among_none : n ≡ 0 → StandsAmong s words entry i n false
  unfolding count_of_pairs is_among keys_of
  among_none e = record { told = among-none-told }
    where
      among-none-told : (key : Text) (ps : Pairs) → ReadsTo key_head s entry.start key (entry.start + entry.len) → PairsAt s words i ps → count_of_pairs ps ≡ n → false ≡ is_among key (keys_of ps)
      among-none-told key no_pairs here at f = refl
      among-none-told key (pair k v others) here at f = absurd (omega arith)

  module _ (h : 0 < n) {start : ℕ} {same : Bool} (starts : start ≡ start_of words i) (e : same ≡ same_bytes (part_of s entry) (part_of s (record { start = start; len = entry.len }))) where
    this-entry : {key k : Text} {rest : List ℕ} → ReadsTo key_head s entry.start key (entry.start + entry.len) → key_head (drop (start_of words i) s) ≡ some (k, rest) → same_bytes key k ≡ same
    this-entry here there = sym (rw starts at e ∙ same-entry s entry (start_of words i) here there)

    pub among-found : same ≡ true → StandsAmong s words entry i n true
    unfolding count_of_pairs is_among keys_of
    among-found q = record { told = found }
      where
        found : (key : Text) (ps : Pairs) → ReadsTo key_head s entry.start key (entry.start + entry.len) → PairsAt s words i ps → count_of_pairs ps ≡ n → true ≡ is_among key (keys_of ps)
        found key no_pairs here at f = absurd (omega arith)
        found key (pair k v others) here at f =
            rw (this-entry here at.0.reads, q)

    pub among_next : {r : Bool} → same ≡ false → StandsAmong s words entry (end_of words i) (n - 1) r → StandsAmong s words entry i n r
    unfolding count_of_pairs is_among keys_of
    among_next {r} q further = record { told = next }
      where
        next : (key : Text) (ps : Pairs) → ReadsTo key_head s entry.start key (entry.start + entry.len) → PairsAt s words i ps → count_of_pairs ps ≡ n → r ≡ is_among key (keys_of ps)
        next key no_pairs here at f = absurd (omega arith)
        next key (pair k v others) here at f =
            rw (this-entry here at.0.reads, q) (further.told key others here (rw at.0.ends at.2) (omega arith))

-- an entry by its length
pub reads-entry : {s : List ℕ} {start behind : ℕ} {key : Text} → ReadsTo key_head s start key behind → ReadsTo key_head s start key (start + (behind - start))
reads-entry {s} {start} {behind} {key} reads =
    let to : behind ≡ start + (behind - start) = omega (arith, reads.past) in
    subst (λ (to : ℕ). ReadsTo key_head s start key to) to reads

-- Whether none of those occurs twice: none is left, this one occurs again, or it does not.
module _ (s words : List ℕ) (i n : ℕ) where
  pub twice-none : n ≡ 0 → NoneTwice s words i n true
  unfolding count_of_pairs none_twice keys_of
  twice-none e = record { told = none_told }
    where
      none_told : (ps : Pairs) → PairsAt s words i ps → count_of_pairs ps ≡ n → true ≡ none_twice (keys_of ps)
      none_told no_pairs at f = refl
      none_told (pair k v others) at f = absurd (omega arith)

  module _ (h : 0 < n) {start : ℕ} (starts : start ≡ start_of words i) where
    -- no object has such an index
    pub twice-unread : key_head (drop start s) ≡ none → NoneTwice s words i n false
    unfolding count_of_pairs
    twice-unread e = record { told = unread }
      where
        unread : (ps : Pairs) → PairsAt s words i ps → count_of_pairs ps ≡ n → false ≡ none_twice (keys_of ps)
        unread no_pairs at f = absurd (omega arith)
        unread (pair k v others) at f = absurd (none-ne-some _ (sym (rw starts at e) ∙ at.0.reads))

    module _ {behind j : ℕ} {k : Text} (reads : ReadsTo key_head s start k behind) (ends : j ≡ end_of words i) where
      this_key : {key : Text} {rest : List ℕ} → key_head (drop (start_of words i) s) ≡ some (key, rest) → ReadsTo key_head s start key (start + (behind - start))
      this_key {key} e =
          let same : k ≡ key = (some-both (sym reads.reads ∙ ap (λ (start : ℕ). key_head (drop start s)) starts ∙ e)).0 in
          subst (λ (key : Text). ReadsTo key_head s start key (start + (behind - start))) same (reads-entry reads)

      again : (r : Bool) → StandsAmong s words (record { start = start; len = behind - start }) j (n - 1) r
          → (key : Text) (v : Value) (others : Pairs) → PairsAt s words i (pair key v others) → count_of_pairs (pair key v others) ≡ n → is_among key (keys_of others) ≡ r
      unfolding count_of_pairs
      again r among key v others at f = sym (among.told key others (this_key at.0.reads) (rw (ends, at.0.ends) at.2) (omega arith))

      pub twice_found : StandsAmong s words (record { start = start; len = behind - start }) j (n - 1) true → NoneTwice s words i n false
      unfolding count_of_pairs none_twice keys_of
      twice_found among = record { told = found }
        where
          found : (ps : Pairs) → PairsAt s words i ps → count_of_pairs ps ≡ n → false ≡ none_twice (keys_of ps)
          found no_pairs at f = absurd (omega arith)
          found (pair key v others) at f = rw (again true among key v others at f)

      pub twice-next : {r : Bool} → StandsAmong s words (record { start = start; len = behind - start }) j (n - 1) false → NoneTwice s words j (n - 1) r → NoneTwice s words i n r
      unfolding count_of_pairs none_twice keys_of
      twice-next {r} among further = record { told = next }
        where
          next : (ps : Pairs) → PairsAt s words i ps → count_of_pairs ps ≡ n → r ≡ none_twice (keys_of ps)
          next no_pairs at f = absurd (omega arith)
          next (pair key v others) at f = rw (again false among key v others at f) (further.told others (rw (ends, at.0.ends) at.2) (omega arith))
