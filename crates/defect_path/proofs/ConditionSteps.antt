-- One step down from a condition, and the end of the way.
use Prim.Native.Nat.{ℕ, ◌+◌, ◌≤◌, ◌<◌}
use native.Mathlib.Omega.{arith}
use mathlib.Core.Bool.{Bool, true, false, cond}
use mathlib.Core.List.{List, [], ◌∷◌, ◌++◌}
use mathlib.Core.Option.{Option, none, some}
use mathlib.Core.Path.{◌≡◌, refl, ap, sym, ◌∙◌}
use lib.Dec.{eqb}
use lib.ListN.{drop}
use borrow.Author.Tests.{eqb-true, eq-eqb}
use Rattle.text.specs.Ascii.{ascii}
use Rattle.text.specs.Reader.{or_else}
use Rattle.text.specs.CaseLaws.{zero-not-one}
use Rattle.sheet.specs.Entries.{ConditionHead, literal_head, many_head, negation_head, one_head, two_head, comparison_head, quantifier_head, condition_head}
use Rattle.definition.specs.Tree.{Text, Value, Condition, literal, many, negation, one, two, comparison, quantifier, Conditions, no_conditions, condition}
use Rattle.definition.specs.Within.{condition_entries, value_entries}
use Rattle.definition.specs.Write.{count_of_conditions}
use Rattle.rule.specs.Index.{start_of, end_of, ValueAt, ConditionAt, ConditionsAt}
use Rattle.rule.specs.IndexLaws.{value-next, condition-next}
use Rattle.validation.specs.Check.{entry_of}
use Rattle.sheet.specs.Operators.{operator_name}
use Rattle.validation.specs.Location.{dotted, index, through, here_or, here_as, in_value, in_side, at_quantifier, in_condition, in_conditions}
use Rattle.buffer.specs.Wrote.{Wrote}
use Rattle.defect_path.specs.Siblings.{Reaches}
use Rattle.defect_path.specs.Heads.{part_at, is_value_at, is_whole, own_part}
use Rattle.defect_path.specs.Descent.{ValueWritten, ConditionWritten, ConditionLeads, OperandLeads}
use Rattle.buffer.specs.WroteLaws.{wrote_nothing, wrote_then}
use Rattle.defect_path.proofs.Ranges.{Among, none_found, either-found, here_found, value-among, value-size, condition-among, condition-size}
use Rattle.defect_path.proofs.Reached.{Standing, first_of, Found, reached}
use Rattle.defect_path.proofs.ValueSteps.{same_head, refused-head, not_own, own-empty}

unfoldable head_of_condition : Condition → ConditionHead
head_of_condition (literal e truth) = literal_head truth
head_of_condition (many e op children) = many_head op (count_of_conditions children)
head_of_condition (negation e child) = negation_head
head_of_condition (one e op v) = one_head op
head_of_condition (two e op left right) = two_head op
head_of_condition (comparison e which left right) = comparison_head which
head_of_condition (quantifier e op bind over body) = quantifier_head op bind

-- a part of a condition
data Node : Type 0 where
  of_value : Value → Node
  of_condition : Condition → Node

unfoldable is_value_node : Node → Bool
is_value_node (of_value v) = true
is_value_node (of_condition c) = false

abbrev size_of_node : Node → ℕ
size_of_node (of_value v) = value_entries v
size_of_node (of_condition c) = condition_entries c

abbrev in_node : (defect place : ℕ) → Node → Option Text
in_node defect place (of_value v) = in_value place v
in_node defect place (of_condition c) = in_condition defect place c

unfoldable nodes_of : Conditions → List Node
nodes_of no_conditions = []
nodes_of (condition c others) = of_condition c ∷ nodes_of others

or-none : (o : Option Text) → or_else o none ≡ o
unfolding or_else
or-none none = refl
or-none (some t) = refl

not-here : (e i target : ℕ) (t : Text) (o : Option Text) (p : Text)
    → e ≡ i + 1
    → i < target
    → here_as (eqb e (target + 1)) t o ≡ some p
    → o ≡ some p
not-here e i target t o p same less h =
    here_found (eqb e (target + 1)) t o p (λ q. let w = eqb-true e (target + 1) q in absurd (omega arith)) (λ z. z) h

own-here : (e i : ℕ) (t : Text) (o : Option Text) (p : Text) → e ≡ i + 1 → here_as (eqb e (i + 1)) t o ≡ some p → p ≡ t
unfolding here_as
own-here e i t o p same h = let w = rw (eq-eqb e (i + 1) same) at h in cc

clash : {R : Type 0} → true ≡ false → R
clash e = zero-not-one cc

module _ (sheet words : List ℕ) (defect target : ℕ) where
  abbrev NodeAt : (i : ℕ) → Node → Type 0
  NodeAt i (of_value v) = ValueAt sheet words i v
  NodeAt i (of_condition c) = ConditionAt sheet words i c

  -- the part with index `k` of a condition with that head
  abbrev PartOf : ConditionHead → (k i : ℕ) → Node → Type 0
  PartOf h k i a = NodeAt i a × (is_value_node a ≡ is_value_at h k)

  node-next : (i : ℕ) (a : Node) → NodeAt i a → end_of words i ≡ i + size_of_node a
  node-next i (of_value v) at = value-next sheet words i v at
  node-next i (of_condition c) at = condition-next sheet words i c at

  node-size : (a : Node) → 0 < size_of_node a
  node-size (of_value v) = value-size sheet words target v
  node-size (of_condition c) = condition-size sheet words target c

  node-among : (i : ℕ) (a : Node) (p : Text) → NodeAt i a → in_node defect (target + 1) a ≡ some p → Among (target + 1) i (size_of_node a)
  node-among i (of_value v) p at h = value-among sheet words (target + 1) v i p at h
  node-among i (of_condition c) p at h = condition-among sheet words (target + 1) defect c i p at h

  conditions-standing : (op count : ℕ) (cs : Conditions) (k i : ℕ)
      → ConditionsAt sheet words i cs
      → Standing (PartOf (many_head op count)) size_of_node k i (nodes_of cs)
  unfolding nodes_of is_value_node is_value_at
  conditions-standing op count no_conditions k i at = tt
  conditions-standing op count (condition c others) k i at =
      ((at.0, refl), conditions-standing op count others (k + 1) (i + condition_entries c) at.1)

  conditions-first : (op count : ℕ) (cs : Conditions) (k : ℕ)
      → in_conditions defect (target + 1) op k cs
      ≡ first_of (λ j _. part_at (many_head op count) j) (in_node defect (target + 1)) k (nodes_of cs)
  unfolding nodes_of in_conditions first_of part_at
  conditions-first op count no_conditions k = refl
  conditions-first op count (condition c others) k =
      ap (λ (o : Option Text). or_else (through (dotted (operator_name op) ++ index k) (in_condition defect (target + 1) c)) o)
      (conditions-first op count others (k + 1))

  module _ (i : ℕ) where
    condition-reads : (c : Condition) (h : ConditionHead) (rest : List ℕ)
        → ConditionAt sheet words i c
        → condition_head (drop (start_of words i) sheet) ≡ some (h, rest)
        → head_of_condition c ≡ h
    unfolding head_of_condition
    condition-reads (literal e truth) h rest at r = same_head at.reads r
    condition-reads (many e op children) h rest at r = same_head at.0.reads r
    condition-reads (negation e child) h rest at r = same_head at.0.reads r
    condition-reads (one e op v) h rest at r = same_head at.0.reads r
    condition-reads (two e op left right) h rest at r = same_head at.0.reads r
    condition-reads (comparison e which left right) h rest at r = same_head at.0.reads r
    condition-reads (quantifier e op bind over body) h rest at r = same_head at.0.reads r

    condition-refused : {R : Type 0} (c : Condition) → ConditionAt sheet words i c → condition_head (drop (start_of words i) sheet) ≡ none → R
    condition-refused (literal e truth) at r = refused-head r at.reads
    condition-refused (many e op children) at r = refused-head r at.0.reads
    condition-refused (negation e child) at r = refused-head r at.0.reads
    condition-refused (one e op v) at r = refused-head r at.0.reads
    condition-refused (two e op left right) at r = refused-head r at.0.reads
    condition-refused (comparison e which left right) at r = refused-head r at.0.reads
    condition-refused (quantifier e op bind over body) at r = refused-head r at.0.reads

    -- the parts of a condition, where an entry is found in one of them
    record Parts (h : ConditionHead) (p : Text) : Type 0 where
      nodes : List Node
      standing : Standing (PartOf h) size_of_node 0 (i + 1) nodes
      first : first_of (λ j _. part_at h j) (in_node defect (target + 1)) 0 nodes ≡ some p

    condition-parts : (c : Condition) (p : Text)
        → i < target
        → is_whole defect (head_of_condition c) ≡ false
        → ConditionAt sheet words i c
        → in_condition defect (target + 1) c ≡ some p
        → Parts (head_of_condition c) p
    unfolding head_of_condition in_condition is_whole is_value_node is_value_at part_at first_of in_side
    condition-parts (literal e truth) p less whole at h = clash whole
    condition-parts (many e op children) p less whole at h = record {
      nodes = nodes_of children;
      standing = conditions-standing op (count_of_conditions children) children 0 (i + 1) at.1;
      first = sym (conditions-first op (count_of_conditions children) children 0) ∙ not_own e i target _ p at.0.is_entry less h;
    }
    condition-parts (negation e child) p less whole at h = record {
      nodes = of_condition child ∷ [];
      standing = ((at.1, refl), tt);
      first = or-none _ ∙ not_own e i target _ p at.0.is_entry less h;
    }
    condition-parts (one e op v) p less whole at h = record {
      nodes = of_value v ∷ [];
      standing = ((at.1, refl), tt);
      first = or-none _ ∙ not_own e i target _ p at.0.is_entry less h;
    }
    condition-parts (two e op left right) p less whole at h = record {
      nodes = of_value left ∷ of_value right ∷ [];
      standing = ((at.1, refl), ((at.2, refl), tt));
      first = rw or-none (not_own e i target _ p at.0.is_entry less h);
    }
    condition-parts (comparison e which left right) p less whole at h = record {
      nodes = of_value left ∷ of_value right ∷ [];
      standing = ((at.1, refl), ((at.2, refl), tt));
      first = rw or-none (rw whole at (not_own e i target _ p at.0.is_entry less h));
    }
    condition-parts (quantifier e op bind over body) p less whole at h = record {
      nodes = of_value over ∷ of_condition body ∷ [];
      standing = ((at.1, refl), ((at.2, refl), tt));
      first = rw or-none (not-here e i target (at_quantifier defect op) _ p at.0.is_entry less h);
    }

    part-found : (h : ConditionHead) (rest : List ℕ) (word k : ℕ) (c : Condition) (p : Text)
        → condition_head (drop (start_of words i) sheet) ≡ some (h, rest)
        → i < target
        → is_whole defect h ≡ false
        → Reaches words target (i + 1) 0 word k
        → ConditionAt sheet words i c
        → in_condition defect (target + 1) c ≡ some p
        → Found (PartOf h) (λ j _. part_at h j) (in_node defect (target + 1)) k word p
    part-found h rest word k c p reads less whole r stands found =
        let e = condition-reads c h rest stands reads in
        let parts : Parts h p = rw e at (condition-parts c p less (rw e whole) stands found) in
        reached (PartOf h) size_of_node (λ j _. part_at h j) (in_node defect (target + 1)) words target
        (λ _ j a at. node-next j a at.0)
        node-size
        (λ _ j a q at z. node-among j a q at.0 z)
        parts.nodes 0 (i + 1) p word k
        parts.standing
        parts.first
        r

  on-condition : (before now after : List ℕ) (at here next word : ℕ) (part rest p : Text) (a : Node)
      → NodeAt word a
      → is_value_node a ≡ false
      → in_node defect (target + 1) a ≡ some rest
      → p ≡ part ++ rest
      → Wrote before now at part here
      → ConditionWritten sheet words defect target word now after here next
      → Wrote before after at p next
  unfolding is_value_node
  on-condition before now after at here next word part rest p (of_value v) stands kind found e w later = clash kind
  on-condition before now after at here next word part rest p (of_condition c) stands kind found e w later =
      rw e (wrote_then w (later.written c rest stands found))

  on_value : (before now after : List ℕ) (at here next word : ℕ) (part rest p : Text) (a : Node)
      → NodeAt word a
      → is_value_node a ≡ true
      → in_node defect (target + 1) a ≡ some rest
      → p ≡ part ++ rest
      → Wrote before now at part here
      → ValueWritten sheet words target word now after here next
      → Wrote before after at p next
  unfolding is_value_node
  on_value before now after at here next word part rest p (of_condition c) stands kind found e w later = clash (sym kind)
  on_value before now after at here next word part rest p (of_value v) stands kind found e w later =
      rw e (wrote_then w (later.written v rest stands found))

  module _ (i : ℕ) (before now : List ℕ) (at here word k : ℕ) (h : ConditionHead) (rest : List ℕ) where
    pub condition-leads : condition_head (drop (start_of words i) sheet) ≡ some (h, rest)
        → i < target
        → is_whole defect h ≡ false
        → Reaches words target (i + 1) 0 word k
        → Wrote before now at (part_at h k) here
        → is_value_at h k ≡ false
        → ConditionLeads sheet words defect target i before at word now here
    condition-leads reads less whole r w kind = record {
      leads = λ after next later. record {
        written = λ c p stands found.
            let f = part-found i h rest word k c p reads less whole r stands found in
            on-condition before now after at here next word (part_at h k) f.rest p f.item f.stands.0 (f.stands.1 ∙ kind) f.found f.path w later;
      };
    }

    pub operand-leads : condition_head (drop (start_of words i) sheet) ≡ some (h, rest)
        → i < target
        → is_whole defect h ≡ false
        → Reaches words target (i + 1) 0 word k
        → Wrote before now at (part_at h k) here
        → is_value_at h k ≡ true
        → OperandLeads sheet words defect target i before at word now here
    operand-leads reads less whole r w kind = record {
      leads = λ after next later. record {
        written = λ c p stands found.
            let f = part-found i h rest word k c p reads less whole r stands found in
            on_value before now after at here next word (part_at h k) f.rest p f.item f.stands.0 (f.stands.1 ∙ kind) f.found f.path w later;
      };
    }

  side-whole : (b : Bool) (part : Text) (v : Value) (p : Text)
      → b ≡ true
      → cond b (here_or (eqb (entry_of v) (target + 1)) none) (through part (in_value (target + 1) v)) ≡ some p
      → p ≡ []
  unfolding here_or
  side-whole false part v p e h = clash (sym e)
  side-whole true part v p e h = by-entry (eqb (entry_of v) (target + 1)) h
    where
      by-entry : (own : Bool) → here_or own none ≡ some p → p ≡ []
      by-entry true z = cc
      by-entry false z = none_found z

  whole-empty : (c : Condition) (i : ℕ) (p : Text)
      → i < target
      → is_whole defect (head_of_condition c) ≡ true
      → ConditionAt sheet words i c
      → in_condition defect (target + 1) c ≡ some p
      → p ≡ []
  unfolding head_of_condition in_condition is_whole in_side
  whole-empty (literal e truth) i p less whole at h = none_found (not_own e i target none p at.is_entry less h)
  whole-empty (many e op children) i p less whole at h = clash (sym whole)
  whole-empty (negation e child) i p less whole at h = clash (sym whole)
  whole-empty (one e op v) i p less whole at h = clash (sym whole)
  whole-empty (two e op left right) i p less whole at h = clash (sym whole)
  whole-empty (comparison e which left right) i p less whole at h =
      either-found _ _ p
      (side-whole (eqb defect 17) (ascii ".compare.left") left p whole)
      (side-whole (eqb defect 17) (ascii ".compare.right") right p whole)
      (not_own e i target _ p at.0.is_entry less h)
  whole-empty (quantifier e op bind over body) i p less whole at h = clash (sym whole)

  pub whole-written : (i : ℕ) (before : List ℕ) (at : ℕ) (h : ConditionHead) (rest : List ℕ)
      → condition_head (drop (start_of words i) sheet) ≡ some (h, rest)
      → i < target
      → is_whole defect h ≡ true
      → ConditionWritten sheet words defect target i before before at at
  whole-written i before at h rest reads less whole = record {
    written = λ c p stands found.
        let e = condition-reads i c h rest stands reads in
        rw (whole-empty c i p less (rw e whole) stands found) (wrote_nothing before at);
  }

  pub refused-written : (i : ℕ) (before after : List ℕ) (at next : ℕ)
      → condition_head (drop (start_of words i) sheet) ≡ none
      → ConditionWritten sheet words defect target i before after at next
  refused-written i before after at next reads = record { written = λ c p stands found. condition-refused i c stands reads }

  own-condition : (c : Condition) (p : Text)
      → ConditionAt sheet words target c
      → in_condition defect (target + 1) c ≡ some p
      → p ≡ own_part defect (head_of_condition c)
  unfolding head_of_condition in_condition own_part
  own-condition (literal e truth) p at h = own-empty e target _ p at.is_entry h
  own-condition (many e op children) p at h = own-empty e target _ p at.0.is_entry h
  own-condition (negation e child) p at h = own-empty e target _ p at.0.is_entry h
  own-condition (one e op v) p at h = own-empty e target _ p at.0.is_entry h
  own-condition (two e op left right) p at h = own-empty e target _ p at.0.is_entry h
  own-condition (comparison e which left right) p at h = own-empty e target _ p at.0.is_entry h
  own-condition (quantifier e op bind over body) p at h = own-here e target (at_quantifier defect op) _ p at.0.is_entry h

  pub own-written : (before after : List ℕ) (at next : ℕ) (h : ConditionHead) (rest : List ℕ)
      → condition_head (drop (start_of words target) sheet) ≡ some (h, rest)
      → Wrote before after at (own_part defect h) next
      → ConditionWritten sheet words defect target target before after at next
  own-written before after at next h rest reads w = record {
    written = λ c p stands found.
        let e = condition-reads target c h rest stands reads in
        rw (own-condition c p stands found, e) w;
  }

  -- after the last step the descent is at the target
  end-reached : (word : ℕ) (before after : List ℕ) (at next : ℕ)
      → target ≤ word
      → ConditionWritten sheet words defect word word before after at next
      → ConditionWritten sheet words defect target word before after at next
  end-reached word before after at next end w = record {
    written = λ c p stands found.
        let r = condition-among sheet words (target + 1) defect c word p stands found in
        let e : target ≡ word = omega arith in
        w.written c p stands (rw e at found);
  }

pub condition-led : {sheet words : List ℕ} {defect target i : ℕ} {before : List ℕ} {at : ℕ} → ConditionLeads sheet words defect target i before at i before at
condition-led = record { leads = λ after next w. w }

pub condition-led-on : {sheet words : List ℕ} {defect target i : ℕ} {before : List ℕ} {at j : ℕ} {now : List ℕ} {here k : ℕ} {later : List ℕ} {next : ℕ}
    → ConditionLeads sheet words defect target i before at j now here
    → ConditionLeads sheet words defect target j now here k later next
    → ConditionLeads sheet words defect target i before at k later next
condition-led-on p q = record { leads = λ after end w. p.leads after end (q.leads after end w) }

pub condition-led-to : {sheet words : List ℕ} {defect target i : ℕ} {before : List ℕ} {at j : ℕ} {now : List ℕ} {here : ℕ} {after : List ℕ} {next : ℕ}
    → ConditionLeads sheet words defect target i before at j now here
    → target ≤ j
    → ConditionWritten sheet words defect j j now after here next
    → ConditionWritten sheet words defect target i before after at next
condition-led-to {sheet} {words} {defect} {target} {j = j} {now = now} {here = here} {after = after} {next = next} p end w =
    p.leads after next (end-reached sheet words defect target j now after here next end w)

pub operand-led-to : {sheet words : List ℕ} {defect target i : ℕ} {before : List ℕ} {at j : ℕ} {now : List ℕ} {here k : ℕ} {later : List ℕ} {there : ℕ} {after : List ℕ} {next : ℕ}
    → ConditionLeads sheet words defect target i before at j now here
    → OperandLeads sheet words defect target j now here k later there
    → ValueWritten sheet words target k later after there next
    → ConditionWritten sheet words defect target i before after at next
operand-led-to {after = after} {next = next} p q w = p.leads after next (q.leads after next w)

pub done-led-to : {sheet words : List ℕ} {defect target i : ℕ} {before : List ℕ} {at j : ℕ} {now : List ℕ} {here : ℕ} {after : List ℕ} {next : ℕ}
    → ConditionLeads sheet words defect target i before at j now here
    → ConditionWritten sheet words defect target j now after here next
    → ConditionWritten sheet words defect target i before after at next
done-led-to {after = after} {next = next} p w = p.leads after next w

-- The same, as the code's facts read.

module _ {sheet words : List ℕ} {defect target i start at : ℕ} {before : List ℕ} where
  pub step-refused : {after : List ℕ} {next : ℕ}
      → start ≡ start_of words i
      → condition_head (drop start sheet) ≡ none
      → ConditionWritten sheet words defect target i before after at next
  step-refused {after} {next} starts reads = refused-written sheet words defect target i before after at next (rw starts at reads)

  module _ {h : ConditionHead} {rest : List ℕ} {whole : Bool} (starts : start ≡ start_of words i) (reads : condition_head (drop start sheet) ≡ some (h, rest)) where
    pub step-whole : i < target
        → whole ≡ is_whole defect h
        → whole ≡ true
        → ConditionWritten sheet words defect target i before before at at
    step-whole less is e = whole-written sheet words defect target i before at h rest (rw starts at reads) less (sym is ∙ e)

    module _ {here word k : ℕ} {now : List ℕ} {value : Bool}
        (less : i < target)
        (is : whole ≡ is_whole defect h)
        (e : whole ≡ false)
        (reaches : Reaches words target (i + 1) 0 word k)
        (wrote : Wrote before now at (part_at h k) here)
        (kind : value ≡ is_value_at h k) where
      pub step-to-value : value ≡ true → OperandLeads sheet words defect target i before at word now here
      step-to-value v =
          operand-leads sheet words defect target i before now at here word k h rest (rw starts at reads) less (sym is ∙ e) reaches wrote (sym kind ∙ v)

      pub step-to-condition : value ≡ false → ConditionLeads sheet words defect target i before at word now here
      step-to-condition v =
          condition-leads sheet words defect target i before now at here word k h rest (rw starts at reads) less (sym is ∙ e) reaches wrote (sym kind ∙ v)

pub step-own : {sheet words : List ℕ} {defect i start at next : ℕ} {before after : List ℕ} {h : ConditionHead} {rest : List ℕ}
    → start ≡ start_of words i
    → condition_head (drop start sheet) ≡ some (h, rest)
    → Wrote before after at (own_part defect h) next
    → ConditionWritten sheet words defect i i before after at next
step-own {sheet} {words} {defect} {i} {at = at} {next = next} {before = before} {after = after} {h = h} {rest = rest} starts reads wrote =
    own-written sheet words defect i before after at next h rest (rw starts at reads) wrote
