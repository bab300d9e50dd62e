-- Each change that a widening permits, as a pair of sheets to which demand 3 is applied; the two answers differ where they may.
use Prim.Native.Nat.{ℕ}
use mathlib.Core.List.{List}
use mathlib.Core.Option.{some}
use mathlib.Core.Path.{◌≡◌, refl}
use Rattle.text.specs.Ascii.{ascii}
use Rattle.definition.specs.Tree.{Text, Schema}
use Rattle.definition.specs.Decode.{decode_schema}
use Rattle.widening.specs.Widening.{Level, marks, anything, listed, any_mark, kept, opened, closed, wider, neither, both, end, keep, more, without, appear, stay, WiderSchema}
use Rattle.validation.specs.Result.{Lent, Call, Unrefused, Numbers}
use Rattle.validation.specs.Growth.{against, Widens}
use Rattle.validation.proofs.Demands.{Demand3, demand-3}
use Rattle.validation.proofs.Calls.{ask, heard, accepts, finds}
use Rattle.validation.proofs.Runs.{exact_run, run-meets, run-unrefused}

-- more than has to be lent
unfoldable pub roomy : Lent
roomy = record { widths = record { path = 40000; scratch = 9000 }; marks = 9000 }

-- a call, and the same with other buffers against a widening of its schema: what is heard of the two, and the demand on them
pub record Shows (l : Level) (c : Call) (schema' : List ℕ) (first second : Numbers × Text) : Type 0 where
  pub widens : Widens l c.schema schema'
  pub before : heard c ≡ first
  pub after : heard (against c c.table schema' roomy) ≡ second
  pub demand : Demand3 l (exact_run c) (exact_run (against c c.table schema' roomy))

shows : {l : Level} {c : Call} {schema' : List ℕ} {first second : Numbers × Text} (s s' : Schema)
    → decode_schema c.schema ≡ some s
    → decode_schema schema' ≡ some s'
    → WiderSchema l s s'
    → heard c ≡ first
    → heard (against c c.table schema' roomy) ≡ second
    → Unrefused c
    → Unrefused (against c c.table schema' roomy)
    → Shows l c schema' first second
unfolding exact_run against
shows {l} {c} {schema'} s s' e e' w before after n n' =
    let widens : Widens l c.schema schema' = record { first = s; second = s'; decodes_first = e; decodes_second = e'; is_wider = w } in
    let c' = against c c.table schema' roomy in
    record {
      widens = widens;
      before = before;
      after = after;
      demand =
          demand-3 (exact_run c) (exact_run c') (run-meets c) (run-meets c')
          (record { kind = refl; semantics = refl; label = refl; rule = refl; table = refl })
          widens
          (run-unrefused c n)
          (run-unrefused c' n');
    }

-- a rule that asks whether that is there finds it lacking
unfoldable pub lacks : (detail : ℕ) → Numbers × Text
lacks detail = finds 18 1 detail 3 0 4 15 (ascii "r.assert.exists")

-- an open mark: what was lacking may be there
pub mark : Shows marks
    (ask 1 2 (ascii "H,0,1,-,0\nF,7,0,0,0,1,-,o\n") (ascii "R,-,-,\nC,5,0,\nV,5,11,$fields.o.x\n"))
    (ascii "H,0,1,-,0\nF,7,1,0,0,1,-,o\n")
    (lacks 3)
    (accepts 5)
unfolding heard lacks roomy
mark =
    shows _ _ refl refl (record { fields = record { mark = kept; members = keep (wider (opened (listed refl)) neither end) end }; arguments = without }) refl refl refl refl

-- the mark of an element, read through an ordinal
pub element-mark : Shows marks
    (ask 1 2 (ascii "H,0,1,-,0\nF,6,0,1,0,1,-,a\nF,7,0,0,0,0,-,\n") (ascii "R,-,-,\nC,5,0,\nV,5,13,$fields.a.0.x\n"))
    (ascii "H,0,1,-,0\nF,6,0,1,0,1,-,a\nF,7,1,0,0,0,-,\n")
    (lacks 3)
    (accepts 5)
unfolding heard lacks roomy
element-mark =
    shows _ _ refl refl (record { fields = record { mark = kept; members = keep (wider kept (both (wider (opened (listed refl)) neither end)) end) end }; arguments = without }) refl refl refl refl

-- the mark of the arguments
pub arguments-mark : Shows marks
    (ask 2 2 (ascii "H,0,0,0,0\n") (ascii "R,-,-,\nC,5,0,\nV,5,7,$args.x\n"))
    (ascii "H,0,0,1,0\n")
    (lacks 2)
    (accepts 5)
unfolding heard lacks roomy
arguments-mark =
    shows _ _ refl refl (record { fields = record { mark = kept; members = end }; arguments = stay (record { mark = opened (listed refl); members = end }) }) refl refl refl refl

-- an open mark elsewhere: the same defect with the same detail
pub other-mark : Shows marks
    (ask 1 2 (ascii "H,0,1,-,0\nF,7,0,0,0,1,-,o\n") (ascii "R,-,-,\nC,5,0,\nV,5,11,$fields.o.x\n"))
    (ascii "H,1,1,-,0\nF,7,0,0,0,1,-,o\n")
    (lacks 3)
    (lacks 3)
unfolding heard lacks roomy
other-mark =
    shows _ _ refl refl (record { fields = record { mark = opened (listed refl); members = keep (wider kept neither end) end }; arguments = without }) refl refl refl refl

-- an added field with a property: the defect goes
pub subtree : Shows anything
    (ask 1 2 (ascii "H,0,0,-,0\n") (ascii "R,-,-,\nC,5,0,\nV,5,11,$fields.o.x\n"))
    (ascii "H,0,1,-,0\nF,7,0,0,1,1,-,o\nF,2,0,0,0,1,-,x\n")
    (lacks 2)
    (accepts 5)
unfolding heard lacks roomy
subtree =
    shows _ _ refl refl (record { fields = record { mark = kept; members = more closed end }; arguments = without }) refl refl refl refl

-- inside an element
pub in-element : Shows anything
    (ask 1 2 (ascii "H,0,1,-,0\nF,6,0,1,0,1,-,a\nF,7,0,0,0,0,-,\n") (ascii "R,-,-,\nC,5,0,\nV,5,13,$fields.a.0.x\n"))
    (ascii "H,0,1,-,0\nF,6,0,1,0,1,-,a\nF,7,0,0,1,0,-,\nF,2,0,0,0,1,-,x\n")
    (lacks 3)
    (accepts 5)
unfolding heard lacks roomy
in-element =
    shows _ _ refl refl (record { fields = record { mark = kept; members = keep (wider kept (both (wider kept neither (more closed end))) end) end }; arguments = without }) refl refl refl refl

-- inside the arguments
pub in-arguments : Shows anything
    (ask 2 2 (ascii "H,0,0,0,1\nF,7,0,0,0,1,-,o\n") (ascii "R,-,-,\nC,5,0,\nV,5,9,$args.o.x\n"))
    (ascii "H,0,0,0,1\nF,7,0,0,1,1,-,o\nF,2,0,0,0,1,-,x\n")
    (lacks 3)
    (accepts 5)
unfolding heard lacks roomy
in-arguments =
    shows _ _ refl refl (record { fields = record { mark = kept; members = end }; arguments = stay (record { mark = kept; members = keep (wider kept neither (more closed end)) end }) }) refl refl refl refl

-- arguments appear: the same defect with another detail
pub arguments : Shows anything
    (ask 2 2 (ascii "H,0,0,-,0\n") (ascii "R,-,-,\nC,5,0,\nV,5,7,$args.x\n"))
    (ascii "H,0,0,0,0\n")
    (lacks 11)
    (lacks 2)
unfolding heard lacks roomy
arguments =
    shows _ _ refl refl (record { fields = record { mark = kept; members = end }; arguments = appear }) refl refl refl refl

-- marks and fields at once: the defect is found further on
pub mark-and-fields : Shows anything
    (ask 1 2 (ascii "H,0,1,-,0\nF,7,0,0,0,1,-,o\n") (ascii "R,-,-,\nC,8,0,\nV,5,11,$fields.o.x\nV,5,13,$fields.o.x.y\n"))
    (ascii "H,1,2,-,0\nF,2,0,0,0,1,-,n\nF,7,1,0,1,1,-,o\nF,2,0,0,0,1,-,x\n")
    (finds 18 1 3 3 0 4 14 (ascii "r.assert.eq[0]"))
    (finds 18 1 10 4 0 5 14 (ascii "r.assert.eq[1]"))
unfolding heard lacks roomy
mark-and-fields =
    shows _ _ refl refl (record { fields = record { mark = opened any_mark; members = more closed (keep (wider (opened any_mark) neither (more closed end)) end) }; arguments = without }) refl refl refl refl

-- a property under a string: the same defect
pub any-kind : Shows anything
    (ask 1 2 (ascii "H,0,1,-,0\nF,1,0,0,0,1,-,s\n") (ascii "R,-,-,\nC,5,0,\nV,5,11,$fields.s.x\n"))
    (ascii "H,0,1,-,0\nF,1,0,0,1,1,-,s\nF,2,0,0,0,1,-,x\n")
    (lacks 10)
    (lacks 10)
unfolding heard lacks roomy
any-kind =
    shows _ _ refl refl (record { fields = record { mark = kept; members = keep (wider kept neither (more closed end)) end }; arguments = without }) refl refl refl refl

-- and what was accepted is accepted with the same count
pub accepted : Shows anything
    (ask 1 2 (ascii "H,0,1,-,0\nF,1,0,0,0,1,-,s\n") (ascii "R,-,-,\nC,5,0,\nV,5,15,$fields.s.count\n"))
    (ascii "H,0,1,-,0\nF,1,0,0,1,1,-,s\nF,2,0,0,0,1,-,x\n")
    (accepts 5)
    (accepts 5)
unfolding heard lacks roomy
accepted =
    shows _ _ refl refl (record { fields = record { mark = kept; members = keep (wider kept neither (more closed end)) end }; arguments = without }) refl refl refl refl
