-- A JSON value (RFC 8259, section 3) as a tree. A number is its text, as written; a string is its text, without escapes, as UTF-8.
use Rattle.std.specs.Prelude.{ℕ, Bool, List}

abbrev pub Text : Type 0
Text = List ℕ

mutual
  pub data Json : Type 0 where
    null : Json
    truth : (b : Bool) → Json
    number : (digits : Text) → Json
    string : (text : Text) → Json
    array : (elements : Elements) → Json
    object : (members : Members) → Json

  pub data Elements : Type 0 where
    no_elements : Elements
    element : (v : Json) (others : Elements) → Elements

  pub data Members : Type 0 where
    no_members : Members
    member : (key : Text) (v : Json) (others : Members) → Members
