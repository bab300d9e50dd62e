-- The trees that the sheets describe. Whatever a place can name carries the number of its entry, from 1.
use Rattle.std.specs.Prelude.{ℕ, Bool, List}
use Rattle.std.proofs.Math.Option.{Option}

abbrev pub Text : Type 0
Text = List ℕ

-- A field holds an element, if it has items, and properties, whose names are with them.
-- Kinds: 1 string, 2 integer, 3 number, 4 boolean, 5 enum, 6 array, 7 object, 8 json, 9 ref, 10 map, 11 union, 12 binary64.
mutual
  pub data Field : Type 0 where
    field : (entry kind : ℕ) (is_open : Bool) (tag : Option Text) (items : Items) (members : Members) → Field

  pub data Items : Type 0 where
    absent : Items
    element : Field → Items

  pub data Members : Type 0 where
    no_members : Members
    member : (name : Text) (f : Field) (others : Members) → Members

-- the record, or the arguments
pub record Holder : Type 0 where
  pub is_open : Bool
  pub members : Members

pub record Schema : Type 0 where
  pub fields : Holder
  pub arguments : Option Holder

mutual
  pub data Value : Type 0 where
    -- 1 null, 2 false, 3 true
    constant : (entry type : ℕ) → Value
    number : (entry : ℕ) (digits : Text) → Value
    string : (entry : ℕ) (text : Text) → Value
    array : (entry : ℕ) (values : Values) → Value
    object : (entry : ℕ) (pairs : Pairs) → Value

  pub data Values : Type 0 where
    no_values : Values
    value : (v : Value) (others : Values) → Values

  pub data Pairs : Type 0 where
    no_pairs : Pairs
    pair : (key : Text) (v : Value) (others : Pairs) → Pairs

-- A condition, by the operator's number: 2 all, 3 any; 4 not; 5 exists, 19 truthy; 6 before, 7 after, 8 eq, 9 ne, 10 gt, 11 gte,
-- 12 lt, 13 lte, 14 in, 15 contains, 16 starts_with, 17 ends_with; 18 compare (1 eq, 2 ne, 3 lt, 4 lte, 5 gt, 6 gte); 20 for_all, 21 for_any.
mutual
  pub data Condition : Type 0 where
    literal : (entry : ℕ) (truth : Bool) → Condition
    many : (entry op : ℕ) (children : Conditions) → Condition
    negation : (entry : ℕ) (child : Condition) → Condition
    one : (entry op : ℕ) (v : Value) → Condition
    two : (entry op : ℕ) (left right : Value) → Condition
    comparison : (entry which : ℕ) (left right : Value) → Condition
    quantifier : (entry op : ℕ) (bind : Text) (over : Value) (body : Condition) → Condition

  pub data Conditions : Type 0 where
    no_conditions : Conditions
    condition : (c : Condition) (others : Conditions) → Conditions

-- what a rule sheet holds
pub data Rule : Type 0 where
  rule : (name message : Option Text) (assert : Condition) → Rule
  template : (v : Value) → Rule
